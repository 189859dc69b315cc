-- The part goes in front of the next run, whose parts it takes over.
use Rattle.std.proofs.Common.{suc, ◌∙◌, map, arith, ap, subst, sym}
use Rattle.std.specs.Prelude.{IsSome}
use Rattle.std.specs.Option.{option_copied_mut}
use Rattle.dcsctp_receive_ordered_map.specs.Entries.{count_up_to}
use Rattle.dcsctp_receive_reassembly.specs.Runs.{run_model, part_of}
use Rattle.dcsctp_api.specs.spec.queues.Runs.{is_held_before}
use Rattle.dcsctp_receive_reassembly.proofs.RunMapLemmas.{front_of, looked_up, lent_some, count_same, next_behind, next_begins, part_begins, part_shown, kept_behind, room_left}
use Rattle.dcsctp_receive_reassembly.proofs.joining.keep_behind.Goals as goal

pub reserve-requires : goal.reserve-requires
reserve-requires c =
    record { there = looked_up c.args.next (count_up_to c.args.part.place c.args.runs.now.entries) c.args.runs.now.entries c.requires.ordered c.requires.behind }

pub keep_alone-requires : goal.keep_alone-requires
keep_alone-requires c =
    record {
      absent =
          ap (λ at. is_held_before at (map run_model c.reserve.new.runs.entries) c.args.part.place) (count_same c.args.part.place c.reserve.new.runs.entries c.args.runs.now.entries c.reserve.ensures.kept)
          ∙ ap (λ all. is_held_before (count_up_to c.args.part.place c.args.runs.now.entries) all c.args.part.place) c.reserve.ensures.kept
          ∙ c.requires.absent;
      ordered = c.reserve.ensures.ordered;
    }

pub unwrap-behind-requires : goal.unwrap-behind-requires
unwrap-behind-requires c =
    let front = front_of c.args.next (part_of c.args.part) c.args.runs.now.entries c.reserve.new.runs.entries c.keep_alone.new.runs.entries c.requires.behind c.reserve.ensures.kept c.in_ok-keep_alone.ensures.ok c.keep_alone.ensures.ordered in
    let at = count_up_to c.args.part.place c.args.runs.now.entries in
    subst (λ o. IsSome o) (sym c.remove.ensures.value) (looked_up c.args.next (suc at) c.keep_alone.new.runs.entries c.keep_alone.ensures.ordered (next_begins at c.args.next (part_of c.args.part) (map run_model c.args.runs.now.entries) c.keep_alone.new.runs.entries front))

pub unwrap-requires : goal.unwrap-requires
unwrap-requires c =
    let front = front_of c.args.next (part_of c.args.part) c.args.runs.now.entries c.reserve.new.runs.entries c.keep_alone.new.runs.entries c.requires.behind c.reserve.ensures.kept c.in_ok-keep_alone.ensures.ok c.keep_alone.ensures.ordered in
    let at = count_up_to c.args.part.place c.args.runs.now.entries in
    lent_some c.get_mut.result (subst (λ o. IsSome o) (sym c.get_mut.ensures.value) (looked_up c.args.part.place at c.remove.new.self.entries c.remove.ensures.ordered (part_begins at c.args.next (part_of c.args.part) (map run_model c.args.runs.now.entries) c.keep_alone.new.runs.entries c.remove.new.self.entries front c.remove.ensures.entries)))

pub take_over-requires : goal.take_over-requires
take_over-requires c =
    let room = room_left 1 c.args.part.place c.args.next c.reserve.new.runs c.keep_alone.new.runs c.unwrap-behind.result (next_behind c.args.part.place c.args.next c.args.runs.now.entries c.requires.ordered c.requires.behind) c.in_ok-reserve.ensures.room c.in_ok-keep_alone.ensures.others (sym c.remove.ensures.value ∙ c.unwrap-behind.ensures) in
    omega (arith, room)

pub returns-clause-ok : goal.returns-clause-ok
returns-clause-ok c =
    let front = front_of c.args.next (part_of c.args.part) c.args.runs.now.entries c.reserve.new.runs.entries c.keep_alone.new.runs.entries c.requires.behind c.reserve.ensures.kept c.in_ok-keep_alone.ensures.ok c.keep_alone.ensures.ordered in
    let at = count_up_to c.args.part.place c.args.runs.now.entries in
    kept_behind at c.args.next (part_of c.args.part) c.unwrap-behind.result c.take_over.new.run (map run_model c.args.runs.now.entries) c.keep_alone.new.runs.entries c.remove.new.self (c.get_mut.follows.lender c.take_over.new.run)
    front (sym c.remove.ensures.value ∙ c.unwrap-behind.ensures) c.remove.ensures.entries c.remove.ensures.ordered (c.get_mut.follows.holds c.take_over.new.run)
    (c.take_over.ensures c.args.next (part_of c.args.part) (part_shown at c.args.next (part_of c.args.part) c.unwrap.result.now (map run_model c.args.runs.now.entries) c.keep_alone.new.runs.entries c.remove.new.self.entries front c.remove.ensures.entries c.remove.ensures.ordered (sym c.get_mut.ensures.value ∙ ap (λ o. option_copied_mut o) c.unwrap.ensures)))

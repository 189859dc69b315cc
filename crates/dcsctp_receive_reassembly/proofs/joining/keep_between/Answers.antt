-- The two runs and the part between them are one, and the others stay.
use Rattle.std.proofs.Common.{◌∙◌, map, refl, ap, subst, sym}
use Rattle.std.specs.Prelude.{slice_get, IsSome}
use Rattle.std.specs.Option.{option_copied_mut}
use Rattle.dcsctp_receive_ordered_map.specs.Entries.{count_up_to}
use Rattle.dcsctp_receive_reassembly.specs.Runs.{run_model, part_of, IsRunBeginning}
use Rattle.dcsctp_receive_reassembly.proofs.RunMapLemmas.{NextTaken, looked_up, before_looked_up, lent_some, first_looked_up, kept_between, links_after, sides_apart}
use Rattle.dcsctp_receive_reassembly.proofs.joining.keep_between.Goals as goal

pub reserve_between-requires : goal.reserve_between-requires
reserve_between-requires c =
    record {
      front = before_looked_up (count_up_to c.args.part.place c.args.runs.now.entries) c.args.first c.args.runs.now.entries c.requires.ordered c.requires.before;
      back = looked_up c.args.next (count_up_to c.args.part.place c.args.runs.now.entries) c.args.runs.now.entries c.requires.ordered c.requires.behind;
      ordered = c.requires.ordered;
    }

pub unwrap-behind-requires : goal.unwrap-behind-requires
unwrap-behind-requires c =
    subst (λ o. IsSome o) (sym c.remove.ensures.value) (looked_up c.args.next (count_up_to c.args.part.place c.args.runs.now.entries) c.reserve_between.new.runs.entries c.reserve_between.ensures.ordered (subst (λ all. IsRunBeginning c.args.next (slice_get all (count_up_to c.args.part.place c.args.runs.now.entries))) (sym c.reserve_between.ensures.kept) c.requires.behind))

pub unwrap-requires : goal.unwrap-requires
unwrap-requires c =
    let taken : NextTaken (count_up_to c.args.part.place c.args.runs.now.entries) c.args.first c.args.next (map run_model c.args.runs.now.entries) c.reserve_between.new.runs.entries c.remove.new.self.entries = record { before = c.requires.before; behind = c.requires.behind; shows = c.reserve_between.ensures.kept; ascends = c.reserve_between.ensures.ordered; left = c.remove.ensures.entries; ascends' = c.remove.ensures.ordered } in
    lent_some c.get_mut.result (subst (λ o. IsSome o) (sym c.get_mut.ensures.value) (first_looked_up (count_up_to c.args.part.place c.args.runs.now.entries) c.args.first c.args.next (map run_model c.args.runs.now.entries) c.reserve_between.new.runs.entries c.remove.new.self.entries taken))

pub link-requires : goal.link-requires
link-requires c =
    let less = sides_apart c.args.part.place (count_up_to c.args.part.place c.args.runs.now.entries) c.args.first c.args.next c.args.runs.now.entries c.requires.ordered refl c.requires.before c.requires.behind in
    links_after c.args.first c.args.next c.reserve_between.new.runs c.remove.new.self c.unwrap.result.now c.unwrap-behind.result less c.in_ok-reserve_between.ensures.room c.remove.ensures.updates (sym c.remove.ensures.value ∙ c.unwrap-behind.ensures) (sym c.get_mut.ensures.value ∙ ap (λ o. option_copied_mut o) c.unwrap.ensures)

pub returns-clause-ok : goal.returns-clause-ok
returns-clause-ok c =
    let taken : NextTaken (count_up_to c.args.part.place c.args.runs.now.entries) c.args.first c.args.next (map run_model c.args.runs.now.entries) c.reserve_between.new.runs.entries c.remove.new.self.entries = record { before = c.requires.before; behind = c.requires.behind; shows = c.reserve_between.ensures.kept; ascends = c.reserve_between.ensures.ordered; left = c.remove.ensures.entries; ascends' = c.remove.ensures.ordered } in
    kept_between (count_up_to c.args.part.place c.args.runs.now.entries) c.args.first c.args.next (part_of c.args.part) c.unwrap.result.now c.unwrap-behind.result c.link.new.run (map run_model c.args.runs.now.entries) c.reserve_between.new.runs.entries c.remove.new.self (c.get_mut.follows.lender c.link.new.run)
    taken (sym c.remove.ensures.value ∙ c.unwrap-behind.ensures) (sym c.get_mut.ensures.value ∙ ap (λ o. option_copied_mut o) c.unwrap.ensures) (c.get_mut.follows.holds c.link.new.run)
    (c.link.ensures c.args.first c.args.next (part_of c.args.part) refl)

-- A message that is whole waits at the place that was taken for it.
use Rattle.std.proofs.Common.{◌≡◌, ℕ, map, length, arith, refl, sym, subst, ap, ◌∙◌}
use Rattle.std.specs.Prelude.{IsSome}
use Rattle.std.specs.BTreeMap.{get}
use Rattle.std.specs.Ordering.{nat_cmp}
use Rattle.dcsctp_api.specs.types.declared.arrivals.Taken.{Taken}
use Rattle.dcsctp_receive_reassembly.specs.declared.runs.Assembled.{Assembled}
use Rattle.dcsctp_receive_reassembly.specs.Runs.{IsOfMessage, assembled_of, part_of, whole_of}
use Rattle.dcsctp_receive_reassembly.specs.Streams.{stream_model, waiting_whole, HoldsPlace}
use Rattle.dcsctp_receive_reassembly.proofs.WaitingLemmas.{place_there, takes_waiting}
use Rattle.dcsctp_receive_reassembly.proofs.StreamUsed.{later_counts, later_kept_counts}
use Rattle.dcsctp_receive_reassembly.proofs.stream.Stream.add_part_of_later.Goals as goal

pub fill_place-requires : goal.fill_place-requires
fill_place-requires c =
    let number : c.in-Ok-Whole.whole.number ≡ c.args.part.number = subst (λ (outcome : Assembled). IsOfMessage c.args.part.number outcome) c.in-Ok-Whole.field-0-is c.in-Ok-Whole.ensures.number in
    record { there = subst (λ (n : ℕ). IsSome (get nat_cmp c.hold_place.new.waiting n)) (sym number) (place_there c.args.part.number c.args.self.now.waiting.entries c.hold_place.new.waiting.entries c.in_ok-hold_place.ensures.ok) }

pub returns-in-Ok-Whole-clause-ok : goal.returns-in-Ok-Whole-clause-ok
returns-in-Ok-Whole-clause-ok c =
    let number : c.in-Ok-Whole.whole.number ≡ c.args.part.number = subst (λ (outcome : Assembled). IsOfMessage c.args.part.number outcome) c.in-Ok-Whole.field-0-is c.in-Ok-Whole.ensures.number in
    λ ready.
    record {
      outcome = assembled_of c.in-Ok-Whole.field-0;
      parts = c.in-Ok-Whole.ensures.ok;
      does =
          rw c.in-Ok-Whole.field-0-is
          (takes_waiting (whole_of c.in-Ok-Whole.whole) (stream_model c.args.self.now) (stream_model (record c.args.self.now { waiting = c.fill_place.new.waiting; ordered = c.add.new.self })) ready (length c.args.part.payload.items) c.kept.result.taken c.args.part.number number c.requires.ahead
          (c.fill_place.ensures c.args.self.now.waiting.entries (subst (λ (n : ℕ). HoldsPlace n c.args.self.now.waiting.entries c.hold_place.new.waiting.entries) (sym number) c.in_ok-hold_place.ensures.ok))
          refl (ap (λ (taken : Taken). taken.kept_bytes) c.kept.ensures.taken ∙ omega (arith, c.len-size.ensures)) (ap (λ (taken : Taken). taken.ready) c.kept.ensures.taken));
      id = refl;
      unordered = (refl, refl);
    }

pub returns-in-Ok-Whole-clause-used : goal.returns-in-Ok-Whole-clause-used
returns-in-Ok-Whole-clause-used c =
    let number : c.in-Ok-Whole.whole.number ≡ c.args.part.number = subst (λ (outcome : Assembled). IsOfMessage c.args.part.number outcome) c.in-Ok-Whole.field-0-is c.in-Ok-Whole.ensures.number in
    later_counts c.args.overhead (part_of c.args.part) c.in-Ok-Whole.whole (stream_model c.args.self.now) c.add.new.self (map waiting_whole c.fill_place.new.waiting.entries) c.in-Ok-Whole.field-0 c.kept.result c.in-Ok-Whole.field-0-is c.in-Ok-Whole.ensures.ok c.in-Ok-Whole.ensures.used
    (c.fill_place.ensures c.args.self.now.waiting.entries (subst (λ (n : ℕ). HoldsPlace n c.args.self.now.waiting.entries c.hold_place.new.waiting.entries) (sym number) c.in_ok-hold_place.ensures.ok))
    (omega (arith, c.kept.ensures.added, c.part_used-added.ensures, c.len.ensures)) c.kept.ensures.freed

pub returns-in-Ok-Kept-clause-used : goal.returns-in-Ok-Kept-clause-used
returns-in-Ok-Kept-clause-used c =
    rw (c.leave_place.ensures c.args.self.now.waiting.entries c.in_ok-hold_place.ensures.ok)
    (later_kept_counts c.args.overhead (part_of c.args.part) (stream_model c.args.self.now) c.add.new.self c.in-Ok-Kept.field-0 c.kept-in-Ok-Kept.result c.in-Ok-Kept.field-0-is c.in-Ok-Kept.ensures.ok (omega (arith, c.kept-in-Ok-Kept.ensures.added, c.part_used.ensures, c.len-size.ensures)) c.kept-in-Ok-Kept.ensures.freed)

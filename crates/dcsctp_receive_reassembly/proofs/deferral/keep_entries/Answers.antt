-- The entry is kept, and what stood there is listed.
use Rattle.std.proofs.Common.{◌≡◌, ℕ, ◌+◌, ◌∷◌, [], List, length, length-append, drop, get_or, arith, sym, ap, subst, ◌∙◌}
use Rattle.std.specs.Ordering.{nat_cmp}
use Rattle.std.specs.BTreeMap.{insert_entry}
use Rattle.std.proofs.lemmas.List.{drop_more}
use Rattle.dcsctp_api.specs.types.declared.arrivals.SkippedTo.{SkippedTo}
use Rattle.dcsctp_api.specs.types.declared.arrivals.SkippedTo.TheVariants.{Ssn}
use Rattle.dcsctp_api.specs.spec.queues.Reassembly.{with_entries}
use Rattle.dcsctp_receive_reassembly.specs.declared.deferral.Replaced.{Replaced}
use Rattle.dcsctp_receive_reassembly.specs.Skips.{WereReplaced}
use Rattle.dcsctp_receive_reassembly.proofs.SkipsLemmas.{WereReplaced-more}
use Rattle.dcsctp_receive_reassembly.proofs.deferral.keep_entries.Goals as goal

pub loop-entry-preserved : goal.loop-entry-preserved
loop-entry-preserved c =
    let entry : SkippedTo = get_or c.args.entries.now c.loop-entry.entry-index (Ssn (record { 0 = 0 }) 0) in
    let rest : List SkippedTo = drop (c.loop-entry.entry-index + 1) c.args.entries.now in
    let next : drop c.loop-entry.entry-index c.args.entries.now ≡ get_or c.args.entries.now c.loop-entry.entry-index (Ssn (record { 0 = 0 }) 0) ∷ drop (c.loop-entry.entry-index + 1) c.args.entries.now = drop_more c.args.entries.now c.loop-entry.entry-index (Ssn (record { 0 = 0 }) 0) (omega arith) in
    let one : Replaced = record { key = c.skip_key-key.result; before = c.in_ok-before.before } in
    record {
      kept =
          ap (λ (kept : List (ℕ × SkippedTo)). with_entries rest kept) (c.in_ok-before.ensures.entries ∙ ap (λ (key : ℕ). insert_entry nat_cmp c.loop-entry.kept.entries key entry) c.skip_key-key.ensures)
          ∙ ap (λ (all : List SkippedTo). with_entries all c.loop-entry.kept.entries) (sym next)
          ∙ c.loop-entry.invariant.kept;
      replaced =
          subst (λ (items : List Replaced). WereReplaced items c.args.kept.now.entries c.insert.new.self.entries) (sym c.push_reserved.ensures.items)
          (WereReplaced-more c.loop-entry.replaced.items one c.args.kept.now.entries c.loop-entry.kept.entries c.insert.new.self.entries c.loop-entry.invariant.replaced
          (record { entry = entry; ascends = c.insert.ensures.was_ordered; stood = c.in_ok-before.ensures.old; put = c.in_ok-before.ensures.entries }));
      room = omega (
        arith,
        c.loop-entry.invariant.room,
        ap (λ (all : List SkippedTo). length all) next,
        ap (λ (items : List Replaced). length items) c.push_reserved.ensures.items,
        length-append c.loop-entry.replaced.items (one ∷ []),
        c.push_reserved.ensures.capacity,
      );
    }

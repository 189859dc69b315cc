-- The number is in the range before it, touches that one, or touches none before it.
use Rattle.std.proofs.Common.{◌≡◌, ◌+◌, ◌<◌, ℕ, not, Option, None, Some, sym, ◌∙◌, ap, arith}
use Rattle.std.specs.Option.{option_map}
use Rattle.dcsctp_receive_ordered_map.specs.Entries.{count_up_to}
use Rattle.dcsctp_spec_lemmas.specs.spec.queues.Runs.{entry_before}
use Rattle.dcsctp_receive_tracker.specs.Received.{range_of, ranges_of}
use Rattle.dcsctp_receive_tracker.proofs.ReceivedLemmas.{Adds-none}
use Rattle.dcsctp_receive_tracker.proofs.NeighborLemmas.{entry_of, last_of}
use Rattle.dcsctp_receive_tracker.proofs.RangeEntryLemmas.{is_in-none, is_in-before, alone_adds, touching_adds}
use Rattle.dcsctp_receive_tracker.proofs.received.Received.add.Goals as goal
use Rattle.dcsctp_receive_tracker.proofs.received.Received.add.Goals.{in-Some+else-number-range+else-number-range-eq1, in_default}

pub returns-then-number-range-clause-added : goal.returns-then-number-range-clause-added
returns-then-number-range-clause-added c =
    Adds-none c.args.self.now.cumulative c.args.number (ranges_of c.args.self.now.ranges) c.requires.ordered
    (is_in-before c.args.self.now.cumulative c.args.number c.args.self.now.ranges.entries c.find_neighbors-around.ensures.ordered c.requires.ordered
    (c.in-Some.range.first, c.in-Some.range.last) (entry_of _ c.in-Some.range (sym c.find_neighbors-around.ensures.before ∙ c.in-Some.is)) c.if-number-range.true)

pub returns-then-number-range-clause-answer : goal.returns-then-number-range-clause-answer
returns-then-number-range-clause-answer c =
    ap not (sym (is_in-before c.args.self.now.cumulative c.args.number c.args.self.now.ranges.entries c.find_neighbors-around.ensures.ordered c.requires.ordered
    (c.in-Some.range.first, c.in-Some.range.last) (entry_of _ c.in-Some.range (sym c.find_neighbors-around.ensures.before ∙ c.in-Some.is)) c.if-number-range.true))

pub returns-then-number-range-eq1-clause-added : goal.returns-then-number-range-eq1-clause-added
returns-then-number-range-eq1-clause-added c =
    touching_adds c.args.self.now.cumulative c.args.number c.args.self.now.ranges.entries c.find_neighbors-around.ensures.ordered c.requires.ordered
    c.in-Some.range c.find_neighbors-around.result.behind c.extend.new.ranges.entries
    (entry_of _ c.in-Some.range (sym c.find_neighbors-around.ensures.before ∙ c.in-Some.is)) (omega arith)
    c.find_neighbors-around.ensures.behind c.extend.ensures

pub returns-then-number-range-eq1-clause-answer : goal.returns-then-number-range-eq1-clause-answer
returns-then-number-range-eq1-clause-answer c =
    ap not (sym (is_in-none c.args.self.now.cumulative c.args.number c.args.self.now.ranges.entries c.find_neighbors-around.ensures.ordered c.requires.ordered (omega arith)
    (λ e is. omega (arith, last_of c.find_neighbors-around.result.before _ e c.in-Some.range c.find_neighbors-around.ensures.before is c.in-Some.is))))

-- each range before the number ends before the one that it follows
ends : (c : goal.In_ok-put) (e : ℕ × ℕ) → entry_before (count_up_to c.args.number c.args.self.now.ranges.entries) c.args.self.now.ranges.entries ≡ Some e → e.1 + 1 < c.args.number
ends c e is =
    elim c.match-around.branch [
      | in-Some+else-number-range+else-number-range-eq1 w ↦ omega (arith, last_of c.find_neighbors-around.result.before _ e w.in-Some.range c.find_neighbors-around.ensures.before is w.in-Some.is)
      | in_default w ↦
          let none : None ≡ Some (range_of e) = sym w.in_default.is ∙ (c.find_neighbors-around.ensures.before ∙ ap (λ (found : Option (ℕ × ℕ)). option_map range_of found) is) in
          absurd (cc)
    ]

pub returns-clause-added : goal.returns-clause-added
returns-clause-added c =
    alone_adds c.args.self.now.cumulative c.args.number c.args.self.now.ranges.entries c.find_neighbors-around.ensures.ordered c.requires.ordered
    c.find_neighbors-around.result.behind c.put.new.ranges.entries c.requires.beyond (ends c)
    c.find_neighbors-around.ensures.behind c.in_ok-put.ensures.ok

pub returns-clause-answer : goal.returns-clause-answer
returns-clause-answer c =
    ap not (sym (is_in-none c.args.self.now.cumulative c.args.number c.args.self.now.ranges.entries c.find_neighbors-around.ensures.ordered c.requires.ordered (omega arith)
    (λ e is. omega (arith, ends c e is))))

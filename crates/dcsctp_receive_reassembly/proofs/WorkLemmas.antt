-- Lemmas on what waited for the end of a deferred reset.
use Rattle.std.proofs.Common.{◌≡◌, ◌==◌, ℕ, ◌+◌, ◌<◌, false, List, [], ◌∷◌, ◌++◌, length, get_or, drop, map, arith, refl, sym, ◌∙◌, ap, subst}
use Rattle.std.specs.List.{sum_by}
use Rattle.std.proofs.lemmas.List.{append_assoc}
use Rattle.std.proofs.lemmas.List.Sums.{sum_by-cons}
use Rattle.std.proofs.lemmas.Bool.Decides.{nat_tests}
use Rattle.dcsctp_receive_reassembly.specs.declared.deferral.WaitingData.{WaitingData}
use Rattle.dcsctp_api.specs.spec.queues.Incoming.{IncomingModel}
use Rattle.dcsctp_api.specs.spec.queues.Reassembly.{WaitingModel, waiting_used, HandlesWaiting, HandlesAll}
use Rattle.dcsctp_receive_reassembly.specs.Queue.{waiting_model}

-- One more is handled.
pub HandlesAll-more : (done : List WaitingModel) (action : WaitingModel) (old between new : IncomingModel) → HandlesAll done old between → HandlesWaiting action between new → HandlesAll (done ++ action ∷ []) old new
HandlesAll-more [] action old between new works last = (new, subst (λ (start : IncomingModel). HandlesWaiting action start new) works last, refl)
HandlesAll-more (first ∷ done) action old between new works last = (works.0, works.1, HandlesAll-more done action works.0 between new works.2 last)

pub above_from : (count : ℕ) → (count == 0) ≡ false → 0 < count
above_from count is = grind (arith, nat_tests)

pub first_of : (action : WaitingData) (items rest : List WaitingData) → 0 < length items → action ≡ get_or items 0 action → rest ≡ drop 1 items → items ≡ action ∷ rest
first_of action [] rest some first behind = absurd (omega arith)
first_of action (head ∷ items) rest some first behind = ap (λ front. front ∷ items) (sym first) ∙ ap (λ back. action ∷ back) (sym behind)

pub worked_more : (initial done : List WaitingModel) (action : WaitingData) (items rest : List WaitingData) → initial ≡ done ++ map waiting_model items → items ≡ action ∷ rest → initial ≡ (done ++ waiting_model action ∷ []) ++ map waiting_model rest
worked_more initial done action items rest all is =
    all ∙ ap (λ waiting. done ++ map waiting_model waiting) is ∙ sym (append_assoc done (waiting_model action ∷ []) (map waiting_model rest))

pub left_used : (overhead : ℕ) (action : WaitingData) (items rest : List WaitingData) → items ≡ action ∷ rest → sum_by (waiting_used overhead) (map waiting_model items) ≡ waiting_used overhead (waiting_model action) + sum_by (waiting_used overhead) (map waiting_model rest)
left_used overhead action items rest is =
    ap (λ waiting. sum_by (waiting_used overhead) (map waiting_model waiting)) is ∙ sum_by-cons (waiting_used overhead) (waiting_model action) (map waiting_model rest)

-- One list of turns after another.
use Rattle.std.proofs.Common.{◌≡◌, List, [], ◌∷◌, ◌++◌, refl, sym, ap, ◌∙◌, append_assoc}
use Rattle.dcsctp_spec.specs.types.declared.association.Pair.{Pair}
use Rattle.dcsctp_spec.specs.types.declared.word.Word.{Word}
use Rattle.dcsctp_spec.specs.Packet.{Emission}
use Rattle.dcsctp_spec.specs.endpoint.Endpoint.{Endpoint}
use Rattle.dcsctp_spec.specs.association.Effect.{Effect, draws, sends, holds, connects, ends, begins, gives_up, completes, fails, accepts, performs, renews, resumes, drawn_pairs}
use Rattle.dcsctp_spec.specs.endpoint.Event.{Event}
use Rattle.dcsctp_spec.specs.endpoint.CallTurns.{Transition, after_all, words_of, effects_of, pairs_of, events_of}

pub after_all-append : (e : Endpoint) (xs ys : List Transition) → after_all e (xs ++ ys) ≡ after_all (after_all e xs) ys
after_all-append e [] ys = refl
after_all-append e (x ∷ xs) ys = after_all-append x.outcome.after xs ys

pub words_of-append : (xs ys : List Transition) → words_of (xs ++ ys) ≡ words_of xs ++ words_of ys
words_of-append [] ys = refl
words_of-append (x ∷ xs) ys = ap (λ (ws : List Word). x.outcome.words ++ ws) (words_of-append xs ys) ∙ sym (append_assoc x.outcome.words (words_of xs) (words_of ys))

pub effects_of-append : (xs ys : List Transition) → effects_of (xs ++ ys) ≡ effects_of xs ++ effects_of ys
effects_of-append [] ys = refl
effects_of-append (x ∷ xs) ys = ap (λ (es : List Effect). x.outcome.effects ++ es) (effects_of-append xs ys) ∙ sym (append_assoc x.outcome.effects (effects_of xs) (effects_of ys))

pub drawn_pairs-append : (xs ys : List Effect) → drawn_pairs (xs ++ ys) ≡ drawn_pairs xs ++ drawn_pairs ys
drawn_pairs-append [] ys = refl
drawn_pairs-append (draws pair ∷ xs) ys = ap (λ (ps : List Pair). pair ∷ ps) (drawn_pairs-append xs ys)
drawn_pairs-append (sends packet ∷ xs) ys = drawn_pairs-append xs ys
drawn_pairs-append (holds link ∷ xs) ys = drawn_pairs-append xs ys
drawn_pairs-append (connects link ∷ xs) ys = drawn_pairs-append xs ys
drawn_pairs-append (ends ∷ xs) ys = drawn_pairs-append xs ys
drawn_pairs-append (begins number ∷ xs) ys = drawn_pairs-append xs ys
drawn_pairs-append (gives_up number ∷ xs) ys = drawn_pairs-append xs ys
drawn_pairs-append (completes my number ∷ xs) ys = drawn_pairs-append xs ys
drawn_pairs-append (fails number ∷ xs) ys = drawn_pairs-append xs ys
drawn_pairs-append (accepts number ∷ xs) ys = drawn_pairs-append xs ys
drawn_pairs-append (performs peer number ∷ xs) ys = drawn_pairs-append xs ys
drawn_pairs-append (renews peer number ∷ xs) ys = drawn_pairs-append xs ys
drawn_pairs-append (resumes link own last ∷ xs) ys = drawn_pairs-append xs ys

pub pairs_of-append : (xs ys : List Transition) → pairs_of (xs ++ ys) ≡ pairs_of xs ++ pairs_of ys
pairs_of-append xs ys = ap drawn_pairs (effects_of-append xs ys) ∙ drawn_pairs-append (effects_of xs) (effects_of ys)

pub events_of-append : (xs ys : List Transition) → events_of (xs ++ ys) ≡ events_of xs ++ events_of ys
events_of-append [] ys = refl
events_of-append (x ∷ xs) ys = ap (λ (ws : List (Event Emission)). x.outcome.events ++ ws) (events_of-append xs ys) ∙ sym (append_assoc x.outcome.events (events_of xs) (events_of ys))

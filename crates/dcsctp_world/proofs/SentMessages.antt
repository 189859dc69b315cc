-- The messages that a call's answer doesn't refuse are those that its turns send.
use Rattle.std.proofs.Common.{◌≡◌, ℕ, zero, suc, ◌+◌, ◌<◌, List, [], ◌∷◌, ◌++◌, length, map, take, drop, get_or, sym, ap, subst, ◌∙◌, append_assoc, arith}
use Rattle.std.proofs.lemmas.List.{append-nil}
use Rattle.dcsctp_core.specs.types.declared.message.Message.{Message}
use Rattle.dcsctp_core.specs.types.queues.Messages.{MessageContent, message_content}
use Rattle.dcsctp_core.specs.spec.endpoint.MessageOutcomes.{RefusedMessage}
use Rattle.dcsctp_world.specs.Growth.{AppendsFirst}
use Rattle.dcsctp_world.specs.Messages.{other_unless_refused, others_from}
use Rattle.dcsctp_world.proofs.Keeping.{front_behind}

-- ---- a loop over messages

-- Of all messages the first are kept, then the one behind them, then the rest.
others_split : (refused : List RefusedMessage) (place i : ℕ) (xs : List Message) (x : Message) → i < length xs
    → others_from place refused (map message_content xs)
    ≡ others_from place refused (map message_content (take i xs))
    ++ (other_unless_refused (place + i) refused (message_content (get_or xs i x)) ++ others_from (place + i + 1) refused (map message_content (drop (suc i) xs)))
others_split refused place i [] x within = absurd (omega arith)
others_split refused place zero (m ∷ xs) x within =
    ap (λ (n : ℕ). other_unless_refused n refused (message_content m) ++ others_from (n + 1) refused (map message_content xs)) (omega arith)
others_split refused place (suc i) (m ∷ xs) x within =
    ap (λ (l : List MessageContent). other_unless_refused place refused (message_content m) ++ l) (others_split refused (place + 1) i xs x (omega arith))
    ∙ sym (append_assoc (other_unless_refused place refused (message_content m)) (others_from (place + 1) refused (map message_content (take i xs)))
    (other_unless_refused (place + 1 + i) refused (message_content (get_or xs i x)) ++ others_from (place + 1 + i + 1) refused (map message_content (drop (suc i) xs))))
    ∙ ap (λ (n : ℕ). others_from place refused (map message_content (m ∷ take i xs)) ++ (other_unless_refused n refused (message_content (get_or xs i x)) ++ others_from (n + 1) refused (map message_content (drop (suc i) xs)))) (omega arith)

-- What is kept of the first messages, and of the one behind them, is what is kept of one more.
others_more : (refused : List RefusedMessage) (place i : ℕ) (xs : List Message) (x : Message) → i < length xs
    → others_from place refused (map message_content (take (suc i) xs))
    ≡ others_from place refused (map message_content (take i xs)) ++ other_unless_refused (place + i) refused (message_content (get_or xs i x))
others_more refused place i [] x within = absurd (omega arith)
others_more refused place zero (m ∷ xs) x within =
    append-nil (other_unless_refused place refused (message_content m)) ∙ ap (λ (n : ℕ). other_unless_refused n refused (message_content m)) (omega arith)
others_more refused place (suc i) (m ∷ xs) x within =
    ap (λ (l : List MessageContent). other_unless_refused place refused (message_content m) ++ l) (others_more refused (place + 1) i xs x (omega arith))
    ∙ sym (append_assoc (other_unless_refused place refused (message_content m)) (others_from (place + 1) refused (map message_content (take i xs)))
    (other_unless_refused (place + 1 + i) refused (message_content (get_or xs i x))))
    ∙ ap (λ (n : ℕ). others_from place refused (map message_content (m ∷ take i xs)) ++ other_unless_refused n refused (message_content (get_or xs i x))) (omega arith)

module _ (refused : List RefusedMessage) (i : ℕ) (xs : List Message) (x : Message) (within : i < length xs) (at : x ≡ get_or xs i x) (before now next : List MessageContent)
    (so_far : now ≡ before ++ others_from 0 refused (map message_content (take i xs))) where
  same_other : other_unless_refused i refused (message_content x) ≡ other_unless_refused (0 + i) refused (message_content (get_or xs i x))
  same_other = ap (λ (m : Message). other_unless_refused i refused (message_content m)) at ∙ ap (λ (n : ℕ). other_unless_refused n refused (message_content (get_or xs i x))) (omega arith)

  pub kept_more : next ≡ now ++ other_unless_refused i refused (message_content x) → next ≡ before ++ others_from 0 refused (map message_content (take (i + 1) xs))
  kept_more is =
      is ∙ ap (λ (l : List MessageContent). l ++ other_unless_refused i refused (message_content x)) so_far
      ∙ append_assoc before (others_from 0 refused (map message_content (take i xs))) (other_unless_refused i refused (message_content x))
      ∙ ap (λ (l : List MessageContent). before ++ (others_from 0 refused (map message_content (take i xs)) ++ l)) same_other
      ∙ ap (λ (l : List MessageContent). before ++ l) (sym (others_more refused 0 i xs x within))
      ∙ ap (λ (n : ℕ). before ++ others_from 0 refused (map message_content (take n xs))) {x = suc i} (omega arith)

  pub kept_in_part : AppendsFirst (other_unless_refused i refused (message_content x)) now next → AppendsFirst (others_from 0 refused (map message_content xs)) before next
  kept_in_part part =
      front_behind (others_from 0 refused (map message_content xs)) (others_from 0 refused (map message_content (take i xs)))
      (other_unless_refused (0 + i) refused (message_content (get_or xs i x))) (others_from (0 + i + 1) refused (map message_content (drop (suc i) xs)))
      before now next (others_split refused 0 i xs x within) so_far (subst (λ (l : List MessageContent). AppendsFirst l now next) same_other part)

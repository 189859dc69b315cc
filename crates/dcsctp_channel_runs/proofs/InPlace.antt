-- Where channels were when something was said on them.
use Rattle.std.proofs.Common.{inr, ℕ, Ok, Err, List, [], ◌∷◌, ◌++◌, refl, inl}
use Rattle.dcsctp_delivery_directions.specs.sending.Places.{HasEntry}
use Rattle.dcsctp_channel_laws.specs.Lives.{IsOrderly}
use Rattle.dcsctp_channel_calls.specs.View.{LayerView}
use Rattle.dcsctp_channel_runs.specs.Acts.{EndAct, calls, polls, SaidContent, said_contents}
use Rattle.dcsctp_channel_laws.specs.Names.{sets_role, connects, handles_input, advances, aborts, shuts_down, opens_channel, sends_content, closes_channel, sets_threshold}
use Rattle.std.specs.List.{AllByRecursion}
use Rattle.dcsctp_channel_runs.proofs.Streams.{IsPlaced, KeepStreams, keep_then, keep_plain, same_keeps, placed_later, IsOnOrGone}
use Rattle.dcsctp_channel_runs.proofs.Said.{AreSaidAfter}

-- What was said on a channel, seen from now: these channels had these streams, before or since.
pub record IsInPlace (pairs : List (ℕ × ℕ)) (now : LayerView) (said : SaidContent) : Type 0 where
  pub orderly : IsOrderly said.after
  pub keeps : KeepStreams [] said.after now
  pub placed : (name number : ℕ) → HasEntry (name, number) pairs → IsPlaced said.after name number

pub in_place_later : (ps qs : List (ℕ × ℕ)) (now next : LayerView) → KeepStreams qs now next → (said : List SaidContent) → AllByRecursion (IsInPlace ps now) said → AllByRecursion (IsInPlace (ps ++ qs) next) said
in_place_later ps qs now next keeps [] all = tt
in_place_later ps qs now next keeps (one ∷ said) (first, rest) =
    (record { orderly = first.orderly; keeps = keep_plain (keep_then [] qs one.after now next first.keeps keeps); placed = placed_later ps qs one.after now first.keeps keeps.before first.placed }, in_place_later ps qs now next keeps said rest)

pub all-append : {A : Type 0} (P : A → Type 0) (xs ys : List A) → AllByRecursion P xs → AllByRecursion P ys → AllByRecursion P (xs ++ ys)
all-append P [] ys first second = second
all-append P (x ∷ xs) ys (one, first) second = (one, all-append P xs ys first second)

-- What had a stream has it, or is over.
pub after_move : {pairs : List (ℕ × ℕ)} {old new : LayerView} → KeepStreams pairs old new → (name number : ℕ) → IsOnOrGone old name number → IsOnOrGone new name number
after_move keeps name number (inl on) = keeps.stays name number on
after_move keeps name number (inr gone) = inr (keeps.gone name gone)

pub said_after : (name number : ℕ) (now : LayerView) (act : EndAct) → IsOnOrGone now name number → AreSaidAfter name number (said_contents act now)
said_after name number now (calls (sends_content other content (Ok done))) there = (there, tt)
said_after name number now (calls (sends_content other content (Err error))) there = tt
said_after name number now (calls (sets_role role)) there = tt
said_after name number now (calls connects) there = tt
said_after name number now (calls (handles_input packet)) there = tt
said_after name number now (calls (advances moment)) there = tt
said_after name number now (calls aborts) there = tt
said_after name number now (calls shuts_down) there = tt
said_after name number now (calls (opens_channel opening negotiated answer)) there = tt
said_after name number now (calls (closes_channel other)) there = tt
said_after name number now (calls (sets_threshold other bytes answer)) there = tt
said_after name number now (polls notice) there = tt

-- what is said right now
pub said_in_place : (pairs : List (ℕ × ℕ)) (start now : LayerView) → KeepStreams pairs start now → (act : EndAct) → AllByRecursion (IsInPlace pairs now) (said_contents act now)
said_in_place pairs start now keeps (calls (sends_content name content (Ok done))) =
    (record { orderly = keeps.orderly; keeps = same_keeps now now refl refl refl refl (λ was. was) keeps.orderly; placed = λ n number has. inl (keeps.after n number has) }, tt)
said_in_place pairs start now keeps (calls (sends_content name content (Err error))) = tt
said_in_place pairs start now keeps (calls (sets_role role)) = tt
said_in_place pairs start now keeps (calls connects) = tt
said_in_place pairs start now keeps (calls (handles_input packet)) = tt
said_in_place pairs start now keeps (calls (advances moment)) = tt
said_in_place pairs start now keeps (calls aborts) = tt
said_in_place pairs start now keeps (calls shuts_down) = tt
said_in_place pairs start now keeps (calls (opens_channel opening negotiated answer)) = tt
said_in_place pairs start now keeps (calls (closes_channel name)) = tt
said_in_place pairs start now keeps (calls (sets_threshold name bytes answer)) = tt
said_in_place pairs start now keeps (polls notice) = tt

-- What an end sends and reads, message by message.
use Rattle.std.proofs.Common.{◌≡◌, ◌<◌, ◌≤◌, ◌^◌, ℕ, ◌+◌, Option, Some, None, List, [], ◌∷◌, ◌++◌, length, inl, inr, arith}
use Rattle.std.specs.List.{AllByRecursion}
use Rattle.dcsctp_delivery_directions.specs.sending.Places.{HasEntry}
use Rattle.dcsctp_channel_calls.specs.api.types.queues.Messages.{MessageContent}
use Rattle.dcsctp_channel_calls.specs.messages.channel_spec.Contents.{ChannelContent, control_ppid, content_ppid, payload_of}
use Rattle.dcsctp_channel_calls.specs.messages.Format.{open_bytes, ack_bytes}
use Rattle.dcsctp_channel_calls.specs.messages.Laws.{FitsOpening}
use Rattle.dcsctp_channel_calls.specs.messages.channel_spec.Slots.{Opening}
use Rattle.dcsctp_channel_calls.specs.View.{WaitingChannel}
use Rattle.dcsctp_channel_runs.specs.Acts.{OpenedChannel, SaidContent, AreByteValues}
use Rattle.dcsctp_channel_runs.proofs.Streams.{IsOnOrGone}

-- ---- entries

pub entry_before : {A : Type 0} (entry : A) (xs ys : List A) → HasEntry entry xs → HasEntry entry (xs ++ ys)
entry_before entry [] ys has = absurd has
entry_before entry (x ∷ xs) ys (inl is) = inl is
entry_before entry (x ∷ xs) ys (inr has) = inr (entry_before entry xs ys has)

pub entry_behind : {A : Type 0} (entry : A) (xs ys : List A) → HasEntry entry ys → HasEntry entry (xs ++ ys)
entry_behind entry [] ys has = has
entry_behind entry (x ∷ xs) ys has = inr (entry_behind entry xs ys has)

-- ---- sent

-- an ACK
pub record IsAck (message : MessageContent) : Type 0 where
  pub ppid : message.ppid ≡ control_ppid
  pub payload : message.payload ≡ ack_bytes

-- the OPEN of a channel
pub record IsOpen (message : MessageContent) (channel : OpenedChannel) : Type 0 where
  pub ppid : message.ppid ≡ control_ppid
  pub payload : message.payload ≡ open_bytes channel.opening
  pub fits : FitsOpening channel.opening

-- a message of the user
pub record IsContent (message : MessageContent) (content : ChannelContent) : Type 0 where
  pub ppid : message.ppid ≡ content_ppid content
  pub payload : message.payload ≡ payload_of content

-- The stream of the message was noted as that of the channel of this name.
abbrev pub IsNoted : List (ℕ × ℕ) → ℕ → MessageContent → Type 0
IsNoted pairs name message = HasEntry {A = ℕ × ℕ} (name, message.stream) pairs

-- When these were said the channel had this stream, or was over.
abbrev pub AreSaidAfter : ℕ → ℕ → List SaidContent → Type 0
AreSaidAfter name number says = AllByRecursion (λ (said : SaidContent). IsOnOrGone said.after name number) says

pub all_both : {A : Type 0} (P : A → Type 0) (xs ys : List A) → AllByRecursion P xs → AllByRecursion P ys → AllByRecursion P (xs ++ ys)
all_both P [] ys first second = second
all_both P (x ∷ xs) ys (one, first) second = (one, all_both P xs ys first second)

-- ---- channels that wait

-- what an OPEN says has its fields, and is in memory
pub record IsGood (opening : Opening) : Type 0 where
  pub fits : FitsOpening opening
  pub bytes : AreByteValues (open_bytes opening)
  pub size : length (open_bytes opening) < 2 ^ 63

-- The user opened the channel that waits, if it is one with an OPEN.
pub record WaitsToOpen (all : List OpenedChannel) (waits : WaitingChannel) : Type 0 where
  pub opening : Opening
  pub payload : waits.payload ≡ open_bytes opening
  pub rules : waits.delivery ≡ opening.delivery
  pub good : IsGood opening
  pub opened : HasEntry (record { name = waits.name; opening = opening }) all

abbrev pub WaitsFor : List OpenedChannel → Option ℕ → WaitingChannel → Type 0
WaitsFor all None waits = WaitsToOpen all waits
WaitsFor all (Some agreed) waits = Unit {0}

-- Their names rise, from this one on.
abbrev pub Wait : List OpenedChannel → ℕ → List WaitingChannel → ℕ → Type 0
Wait all low [] named = low ≤ named
Wait all low (waits ∷ rest) named = (low ≤ waits.name) × WaitsFor all waits.negotiated waits × Wait all (waits.name + 1) rest named

-- So do those of channels whose OPEN was sent, from the first to the second.
abbrev pub Rise : List OpenedChannel → ℕ → List OpenedChannel → ℕ → Type 0
Rise all low [] high = low ≤ high
Rise all low (channel ∷ opens) high = (low ≤ channel.name) × HasEntry channel all × Rise all (channel.name + 1) opens high

pub same_le : (n : ℕ) → n ≤ n
same_le n = omega arith

pub rise_from : (all : List OpenedChannel) (low from : ℕ) (opens : List OpenedChannel) (high : ℕ) → low ≤ from → Rise all from opens high → Rise all low opens high
rise_from all low from [] high le rises = omega arith
rise_from all low from (channel ∷ opens) high le (first, entry, rest) = (omega arith, entry, rest)

pub rise_then : (all : List OpenedChannel) (low mid high : ℕ) (xs ys : List OpenedChannel) → Rise all low xs mid → Rise all mid ys high → Rise all low (xs ++ ys) high
rise_then all low mid high [] ys first second = rise_from all low mid ys high first second
rise_then all low mid high (channel ∷ xs) ys (le, entry, first) second = (le, entry, rise_then all (channel.name + 1) mid high xs ys first second)

pub wait_from : (all : List OpenedChannel) (low from : ℕ) (waiting : List WaitingChannel) (named : ℕ) → low ≤ from → Wait all from waiting named → Wait all low waiting named
wait_from all low from [] named le wait = omega arith
wait_from all low from (waits ∷ rest) named le (first, opened, others) = (omega arith, opened, others)

pub wait_named : (all : List OpenedChannel) (low : ℕ) (waiting : List WaitingChannel) (named more : ℕ) → named ≤ more → Wait all low waiting named → Wait all low waiting more
wait_named all low [] named more le wait = omega arith
wait_named all low (waits ∷ rest) named more le (first, opened, others) = (first, opened, wait_named all (waits.name + 1) rest named more le others)

-- none waits under a greater name than were given
pub wait_within : (all : List OpenedChannel) (low : ℕ) (waiting : List WaitingChannel) (named : ℕ) → Wait all low waiting named → low ≤ named
wait_within all low [] named wait = wait
wait_within all low (waits ∷ rest) named (first, opened, others) = let le : waits.name + 1 ≤ named = wait_within all (waits.name + 1) rest named others in omega arith

-- one more waits, under the next name
pub wait_more : (all : List OpenedChannel) (low : ℕ) (waiting : List WaitingChannel) (waits : WaitingChannel) (named : ℕ) → waits.name ≡ named → WaitsFor all waits.negotiated waits
    → Wait all low waiting named → Wait all low (waiting ++ waits ∷ []) (named + 1)
wait_more all low [] waits named is opened wait = (omega arith, opened, omega arith)
wait_more all low (first ∷ rest) waits named is opened (le, before, others) = (le, before, wait_more all (first.name + 1) rest waits named is opened others)

-- ---- more channels were opened

waits_for_more : (all more : List OpenedChannel) (negotiated : Option ℕ) (waits : WaitingChannel) → WaitsFor all negotiated waits → WaitsFor (all ++ more) negotiated waits
waits_for_more all more None waits so = record { opening = so.opening; payload = so.payload; rules = so.rules; good = so.good; opened = entry_before (record { name = waits.name; opening = so.opening }) all more so.opened }
waits_for_more all more (Some agreed) waits so = tt

pub wait_with : (all more : List OpenedChannel) (low : ℕ) (waiting : List WaitingChannel) (named : ℕ) → Wait all low waiting named → Wait (all ++ more) low waiting named
wait_with all more low [] named wait = wait
wait_with all more low (waits ∷ rest) named (first, opened, others) = (first, waits_for_more all more waits.negotiated waits opened, wait_with all more (waits.name + 1) rest named others)

pub rise_with : (all more : List OpenedChannel) (low : ℕ) (opens : List OpenedChannel) (high : ℕ) → Rise all low opens high → Rise (all ++ more) low opens high
rise_with all more low [] high rises = rises
rise_with all more low (channel ∷ opens) high (le, entry, rest) = (le, entry_before channel all more entry, rise_with all more (channel.name + 1) opens high rest)

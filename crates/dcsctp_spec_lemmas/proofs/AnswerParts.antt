-- The parts of an answer: how long its chunks are, that they fit their fields, and its events.
use Rattle.std.proofs.Common.{◌≡◌, inl, inr, ℕ, ◌≤◌, nat_le, Bool, true, false, Option, None, Some, if◌then◌else◌, List, [], ◌∷◌, ◌++◌, length, refl, sym, ap, subst, arith}
use Rattle.std.specs.List.{AllByRecursion}
use Rattle.std.proofs.lemmas.List.{map-append}
use Rattle.std.proofs.lemmas.Bool.Decides.{nat_tests}
use Rattle.dcsctp_spec.specs.wire.Content.{ChunkContent}
use Rattle.dcsctp_spec.specs.wire.Spelling.{chunk_bytes}
use Rattle.dcsctp_spec.specs.endpoint.Endpoint.{Endpoint}
use Rattle.dcsctp_spec.specs.endpoint.Outcome.{contents_len}
use Rattle.dcsctp_spec.specs.Packet.{Plain, Emission, plain, plain_out, unworked}
use Rattle.dcsctp_spec.specs.association.Choices.{plain_contents}
use Rattle.dcsctp_spec.specs.queues.Filling.{Stage, FillsPacket}
use Rattle.dcsctp_spec.specs.queues.Items.{is_first_abandoned}
use Rattle.dcsctp_spec.specs.queues.Retransmission.{RetransmissionState}
use Rattle.dcsctp_spec.specs.queues.Skipping.{SaysForward}
use Rattle.dcsctp_spec.specs.queues.Tracker.{TrackerState, tracker_after_sack}
use Rattle.dcsctp_spec.specs.queues.Transfer.{Transfer}
use Rattle.dcsctp_spec.specs.endpoint.FlushOutcomes.{filled_draft, room_of_draft, where_fits, own_sack, Acknowledges, FitsPlain, next_forward, ForwardsIfAbandoned, GivesUpThenForwards, FillsIfAllowed, forward_made}
use Rattle.dcsctp_spec_lemmas.proofs.ForwardOutcomes.{some_forward, forward_fits}
use Rattle.dcsctp_spec_lemmas.proofs.PackedLemmas.{IsPacked}
use Rattle.dcsctp_spec_lemmas.proofs.PackingLemmas.{packed_packet}
use Rattle.dcsctp_spec_lemmas.proofs.PacketLengths.{len_append, where_fits_len}
use Rattle.dcsctp_spec_lemmas.proofs.TellingLemmas.{TellsMore, tells_same, tells_abandoned}

-- ---- what acknowledges

abbrev pub sacks_where : Bool → ℕ → Transfer → List Plain
sacks_where true room transfer = where_fits room (own_sack room transfer)
sacks_where false room transfer = []

abbrev pub tracker_where : Bool → Transfer → TrackerState
tracker_where true transfer = tracker_after_sack transfer.tracker
tracker_where false transfer = transfer.tracker

pub acknowledges_where : (b : Bool) (room : ℕ) (transfer : Transfer) → Acknowledges b room transfer (tracker_where b transfer) (sacks_where b room transfer)
acknowledges_where false room transfer = (refl, refl)
acknowledges_where true room transfer = (refl, refl)

sacks_len : (b : Bool) (room : ℕ) (transfer : Transfer) (after : TrackerState) (chunks : List Plain) → Acknowledges b room transfer after chunks → contents_len (plain_contents chunks) ≤ room
sacks_len false room transfer after chunks h = rw h.1 (omega arith)
sacks_len true room transfer after chunks h = rw h.1 (where_fits_len room (own_sack room transfer))

-- ---- what abandons messages

forward_len : (b : Bool) (now : ℕ) (transfer : Transfer) (room : ℕ) (state : RetransmissionState) (next : Option ℕ) (chunks : List Plain) → ForwardsIfAbandoned b now transfer room state next chunks
    → contents_len (plain_contents chunks) ≤ room
forward_len false now transfer room state next chunks h = rw h.1 (omega arith)
forward_len true now transfer room state next chunks (later, (chunk, says, is)) = rw is (where_fits_len room (unworked chunk))

forwards_len : (b : Bool) (now : ℕ) (transfer : Transfer) (room : ℕ) (old new : Stage) (next : Option ℕ) (chunks : List Plain) → GivesUpThenForwards b now transfer room old new (forward_made next chunks)
    → contents_len (plain_contents chunks) ≤ room
forwards_len false now transfer room old new next chunks (same, never, none) = rw none (omega arith)
forwards_len true now transfer room old new next chunks (gives_up, forwards) = forward_len (is_first_abandoned new.queue.outstanding.items) now transfer room new.queue next chunks forwards

taken_fits : (b : Bool) (room : ℕ) (state : RetransmissionState) (chunk : ChunkContent) → nat_le (length (chunk_bytes chunk)) room ≡ b → room ≤ 65535 → SaysForward state chunk
    → AllByRecursion FitsPlain (if b then unworked chunk ∷ [] else [])
taken_fits false room state chunk is small says = tt
taken_fits true room state chunk is small says = (forward_fits state chunk says (let short : length (chunk_bytes chunk) ≤ room = grind (arith, nat_tests) in omega (arith, short, small)), tt)

forward_fit : (b : Bool) (now : ℕ) (transfer : Transfer) (room : ℕ) (state : RetransmissionState) (next : Option ℕ) (chunks : List Plain) → room ≤ 65535
    → ForwardsIfAbandoned b now transfer room state next chunks → AllByRecursion FitsPlain chunks
forward_fit false now transfer room state next chunks small h = rw h.1 tt
forward_fit true now transfer room state next chunks small (later, (chunk, says, is)) =
    rw is (taken_fits (nat_le (length (chunk_bytes (plain_out (unworked chunk)))) room) room state chunk refl small says)

-- A FORWARD-TSN that fits into a packet fits its fields.
pub forwards_fit_where : (b : Bool) (now : ℕ) (transfer : Transfer) (room : ℕ) (old new : Stage) (next : Option ℕ) (chunks : List Plain) → room ≤ 65535
    → GivesUpThenForwards b now transfer room old new (forward_made next chunks) → AllByRecursion FitsPlain chunks
forwards_fit_where false now transfer room old new next chunks small (same, never, none) = rw none tt
forwards_fit_where true now transfer room old new next chunks small (gives_up, forwards) =
    forward_fit (is_first_abandoned new.queue.outstanding.items) now transfer room new.queue next chunks small forwards

-- one that goes if it must
pub record Forwarded (b : Bool) (now : ℕ) (transfer : Transfer) (room : ℕ) (state : RetransmissionState) : Type 0 where
  pub next : Option ℕ
  pub chunks : List Plain
  pub is : ForwardsIfAbandoned b now transfer room state next chunks

pub some_forwarded : (b : Bool) (now : ℕ) (transfer : Transfer) (room : ℕ) (state : RetransmissionState) → Forwarded b now transfer room state
some_forwarded false now transfer room state = record { next = None; chunks = []; is = (refl, refl) }
some_forwarded true now transfer room state =
    let (chunk, says) = some_forward state in
    record { next = Some (next_forward now transfer); chunks = where_fits room (unworked chunk); is = (refl, (chunk, says, refl)) }

-- both together
pub acknowledgements_len : (wants may : Bool) (e : Endpoint) (draft : Emission) (transfer : Transfer) (tracker : TrackerState) (sacks forwards : List Plain) (old new : Stage) (next : Option ℕ)
    → Acknowledges wants (room_of_draft e draft) transfer tracker sacks → GivesUpThenForwards may e.moment transfer (room_of_draft e (filled_draft draft (plain_contents sacks))) old new (forward_made next forwards)
    → contents_len (plain_contents (sacks ++ forwards)) ≤ room_of_draft e draft
acknowledgements_len wants may e draft transfer tracker sacks forwards old new next acknowledges gives_up =
    let both = ap contents_len (map-append plain sacks forwards) in
    let sum = len_append (plain_contents sacks) (plain_contents forwards) in
    let behind = len_append draft.packet.contents (plain_contents sacks) in
    let first = sacks_len wants (room_of_draft e draft) transfer tracker sacks acknowledges in
    let second = forwards_len may e.moment transfer (room_of_draft e (filled_draft draft (plain_contents sacks))) old new next forwards gives_up in
    omega (arith, both, sum, behind, first, second)

pub tells_given_up_where : (b : Bool) (now : ℕ) (transfer : Transfer) (room : ℕ) (old new : Stage) (next : Option ℕ) (chunks : List Plain) → GivesUpThenForwards b now transfer room old new (forward_made next chunks)
    → TellsMore old.told new.told
tells_given_up_where false now transfer room old new next chunks (same, never, none) = tells_same old.told new.told (ap (λ (s : Stage). s.told) same)
tells_given_up_where true now transfer room old new next chunks (gives_up, forwards) = tells_abandoned now old new gives_up

-- ---- data

pub fills_where : (b : Bool) (now : ℕ) (old new : Stage) → FillsPacket now old new → FillsIfAllowed b now old new
fills_where false now old new fills = inr fills
fills_where true now old new fills = fills

pub packed_where : (b : Bool) (now room : ℕ) (old new : Stage) → FillsIfAllowed b now old new → IsPacked room old → IsPacked room new
packed_where false now room old new (inl same) packed = subst (IsPacked room) (sym same) packed
packed_where false now room old new (inr fills) packed = packed_packet now room old new fills packed
packed_where true now room old new fills packed = packed_packet now room old new fills packed

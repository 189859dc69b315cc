-- The chunks that a packet of an association carries beside those of the handshake: data in the form that was negotiated, what
-- acknowledges it, what skips it, heartbeats and their answers, and reports other than of a stale cookie.
use Rattle.std.proofs.Common.{◌≡◌, ℕ, Bool, true, false, List, [], ◌∷◌, ◌++◌, refl, sym, subst, arith}
use Rattle.std.specs.Int.{w32, to_be_bytes}
use Rattle.std.specs.Prelude.{if◌then◌else◌}
use Rattle.std.specs.List.{AllByRecursion}
use Rattle.dcsctp_spec_lemmas.specs.wire.Spelling.{parameters_len}
use Rattle.dcsctp_spec_lemmas.specs.wire.Content.{ParameterContent, heartbeat_info, data_chunk, i_data_chunk, sack_chunk, error_chunk, forward_tsn_chunk, i_forward_tsn_chunk}
use Rattle.dcsctp_spec_lemmas.specs.types.declared.association.Held.{Held}
use Rattle.dcsctp_spec_lemmas.specs.spec.Packet.{Plain, unworked, heartbeat, heartbeat_ack, plain_out, Content, plain, content_of_chunk, Emission}
use Rattle.dcsctp_spec_lemmas.specs.spec.association.Choices.{plain_contents}
use Rattle.dcsctp_spec_lemmas.specs.spec.endpoint.Cause.{has_stale_cookie}
use Rattle.dcsctp_spec_lemmas.specs.spec.endpoint.FlushOutcomes.{where_fits, FitsPlain, own_sack, Acknowledges, draft_to}
use Rattle.dcsctp_spec_lemmas.specs.spec.queues.Tracker.{TrackerState}
use Rattle.dcsctp_spec_lemmas.specs.spec.queues.Transfer.{Transfer, advertised_window}
use Rattle.dcsctp_spec_runs.specs.Fitting.{Sendable}
use Rattle.dcsctp_spec_runs.proofs.KindLemmas.{IsData, IsForward}
use Rattle.dcsctp_spec_runs.proofs.TrackerLemmas.{sack_fits}
use Rattle.dcsctp_theorem_sockets.proofs.Bytes.{in_four}

-- It breaks nothing, where messages are interleaved or not, and may be abandoned or not.
abbrev pub IsAllowed : Bool → Bool → Plain → Type 0
IsAllowed interleaves abandons (unworked (data_chunk chunk)) = interleaves ≡ false
IsAllowed interleaves abandons (unworked (i_data_chunk chunk)) = interleaves ≡ true
IsAllowed interleaves abandons (unworked (sack_chunk chunk)) = Unit {0}
IsAllowed interleaves abandons (unworked (error_chunk causes)) = has_stale_cookie causes ≡ false
IsAllowed interleaves abandons (unworked (forward_tsn_chunk tsn streams)) = (interleaves ≡ false) × (abandons ≡ true)
IsAllowed interleaves abandons (unworked (i_forward_tsn_chunk tsn streams)) = (interleaves ≡ true) × (abandons ≡ true)
IsAllowed interleaves abandons (heartbeat parameters) = Unit {0}
IsAllowed interleaves abandons (heartbeat_ack parameters) = Unit {0}
IsAllowed interleaves abandons chunk = ⊥

abbrev pub IsAllowedContent : Bool → Bool → Content → Type 0
IsAllowedContent interleaves abandons (plain chunk) = IsAllowed interleaves abandons chunk
IsAllowedContent interleaves abandons content = ⊥

pub record IsCarried (interleaves abandons : Bool) (content : Content) : Type 0 where
  pub sendable : Sendable content
  pub allowed : IsAllowedContent interleaves abandons content

abbrev pub AreCarried : Bool → Bool → List Content → Type 0
AreCarried interleaves abandons contents = AllByRecursion (IsCarried interleaves abandons) contents

-- A packet of these to a peer.
pub record Carries (interleaves abandons with_checksum : Bool) (tag : ℕ) (emission : Emission) : Type 0 where
  pub checked : emission.with_checksum ≡ with_checksum
  pub header : emission.packet.tag ≡ tag
  pub contents : AreCarried interleaves abandons emission.packet.contents

-- to this peer
abbrev pub CarriesTo : Held → Emission → Type 0
CarriesTo held emission =
    Carries held.capabilities.message_interleaving held.capabilities.partial_reliability (draft_to held).with_checksum held.peer.tag emission

-- ---- lists of them

pub both_carried : (m n : Bool) (first second : List Content) → AreCarried m n first → AreCarried m n second → AreCarried m n (first ++ second)
both_carried m n [] second none each = each
both_carried m n (content ∷ first) second some each = (some.0, both_carried m n first second some.1 each)

pub plain_carried : (m n : Bool) (first second : List Plain) → AreCarried m n (plain_contents first) → AreCarried m n (plain_contents second) → AreCarried m n (plain_contents (first ++ second))
plain_carried m n [] second none each = each
plain_carried m n (chunk ∷ first) second some each = (some.0, plain_carried m n first second some.1 each)

pub all_both : {A : Type 0} (P : A → Type 0) (xs ys : List A) → AllByRecursion P xs → AllByRecursion P ys → AllByRecursion P (xs ++ ys)
all_both P [] ys none each = each
all_both P (x ∷ xs) ys some each = (some.0, all_both P xs ys some.1 each)

-- ---- each kind

data_allowed : (interleaves abandons : Bool) (chunk : Plain) → IsData interleaves chunk → IsAllowed interleaves abandons chunk
data_allowed false abandons (unworked (data_chunk chunk)) is = refl
data_allowed true abandons (unworked (i_data_chunk chunk)) is = refl
data_allowed interleaves abandons chunk is = absurd is

forward_allowed : (interleaves abandons : Bool) (chunk : Plain) → abandons ≡ true → IsForward interleaves chunk → IsAllowed interleaves abandons chunk
forward_allowed false abandons (unworked (forward_tsn_chunk tsn streams)) may is = (refl, may)
forward_allowed true abandons (unworked (i_forward_tsn_chunk tsn streams)) may is = (refl, may)
forward_allowed interleaves abandons chunk may is = absurd is

data_reads : (interleaves : Bool) (chunk : Plain) → IsData interleaves chunk → content_of_chunk (plain_out chunk) ≡ plain chunk
data_reads false (unworked (data_chunk chunk)) is = refl
data_reads true (unworked (i_data_chunk chunk)) is = refl
data_reads interleaves chunk is = absurd is

pub data_carried : (interleaves abandons : Bool) (chunks : List Plain) → AllByRecursion (IsData interleaves) chunks → AllByRecursion FitsPlain chunks → AreCarried interleaves abandons (plain_contents chunks)
data_carried interleaves abandons [] kind fit = tt
data_carried interleaves abandons (chunk ∷ chunks) kind fit = (
  record { sendable = record { fits = fit.0; reads = data_reads interleaves chunk kind.0; said = tt }; allowed = data_allowed interleaves abandons chunk kind.0 },
  data_carried interleaves abandons chunks kind.1 fit.1,
)

forward_reads : (interleaves : Bool) (chunk : Plain) → IsForward interleaves chunk → content_of_chunk (plain_out chunk) ≡ plain chunk
forward_reads false (unworked (forward_tsn_chunk tsn streams)) is = refl
forward_reads true (unworked (i_forward_tsn_chunk tsn streams)) is = refl
forward_reads interleaves chunk is = absurd is

pub forwards_carried : (interleaves abandons : Bool) (chunks : List Plain) → abandons ≡ true → AllByRecursion (IsForward interleaves) chunks → AllByRecursion FitsPlain chunks
    → AreCarried interleaves abandons (plain_contents chunks)
forwards_carried interleaves abandons [] may kind fit = tt
forwards_carried interleaves abandons (chunk ∷ chunks) may kind fit = (
  record { sendable = record { fits = fit.0; reads = forward_reads interleaves chunk kind.0; said = tt }; allowed = forward_allowed interleaves abandons chunk may kind.0 },
  forwards_carried interleaves abandons chunks may kind.1 fit.1,
)

sack_where : (b interleaves abandons : Bool) (room : ℕ) (transfer : Transfer) → AreCarried interleaves abandons (plain_contents (if b then own_sack room transfer ∷ [] else []))
sack_where true interleaves abandons room transfer = (record { sendable = record { fits = sack_fits room transfer.tracker (advertised_window transfer); reads = refl; said = tt }; allowed = tt }, tt)
sack_where false interleaves abandons room transfer = tt

-- its own SACK, if that fits
pub sack_carried : (interleaves abandons : Bool) (within room : ℕ) (transfer : Transfer) → AreCarried interleaves abandons (plain_contents (where_fits within (own_sack room transfer)))
sack_carried interleaves abandons within room transfer = sack_where _ interleaves abandons room transfer

pub sacks_carried : (wants interleaves abandons : Bool) (room : ℕ) (transfer : Transfer) (after : TrackerState) (chunks : List Plain) → Acknowledges wants room transfer after chunks
    → AreCarried interleaves abandons (plain_contents chunks)
sacks_carried false interleaves abandons room transfer after chunks h = subst (λ (cs : List Plain). AreCarried interleaves abandons (plain_contents cs)) (sym h.1) tt
sacks_carried true interleaves abandons room transfer after chunks h =
    subst (λ (cs : List Plain). AreCarried interleaves abandons (plain_contents cs)) (sym h.1) (sack_carried interleaves abandons room room transfer)

-- ---- heartbeats

pub heartbeat_sendable : (counter : ℕ) → Sendable (plain (heartbeat (heartbeat_info (to_be_bytes w32 counter) ∷ [])))
unfolding parameters_len
heartbeat_sendable counter = record { fits = record { len_fits = omega arith; parameters_fit = (in_four counter, tt) }; reads = refl; said = tt }

-- An answer has what the HEARTBEAT has.
pub answer_sendable : (parameters : List ParameterContent) → Sendable (plain (heartbeat parameters)) → Sendable (plain (heartbeat_ack parameters))
answer_sendable parameters good = record { fits = good.fits; reads = refl; said = tt }

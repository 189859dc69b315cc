-- What users hand over fits in messages.
use Rattle.std.proofs.Common.{◌≡◌, ◌<◌, ◌≤◌, ◌^◌, ◌/◌, ℕ, zero, suc, ◌+◌, ◌||◌, Bool, true, false, nat_lt, Option, Some, None, List, [], ◌∷◌, ◌++◌, length, refl, arith}
use Rattle.std.specs.Prelude.{if◌then◌else◌}
use Rattle.std.specs.Int.{byte_at}
use Rattle.std.proofs.Math.Nat.{mod-lt}
use Rattle.std.proofs.lemmas.Bool.{ltb-false}
use Rattle.std.proofs.lemmas.List.{length-append}
use Rattle.dcsctp_delivery_sockets.specs.sockets.Delivery.{FitsMessage}
use Rattle.dcsctp_channel_calls.specs.messages.channel_spec.Contents.{ChannelContent, ppid_for, content_ppid, payload_for, payload_of}
use Rattle.dcsctp_channel_calls.specs.messages.channel_spec.Slots.{Opening}
use Rattle.dcsctp_channel_calls.specs.messages.Format.{channel_type, reliability_parameter, open_bytes}
use Rattle.dcsctp_channel_calls.specs.messages.channel_spec.declared.types.Reliability.{Reliability}
use Rattle.dcsctp_channel_calls.specs.messages.channel_spec.declared.types.Reliability.TheVariants.{Reliable, Retransmissions, Lifetime}
use Rattle.dcsctp_channel_calls.specs.declared.channel.ChannelError.{ChannelError}
use Rattle.dcsctp_channel_calls.specs.Opening.{most_text, is_too_long, is_in_use, open_refusal}
use Rattle.dcsctp_channel_calls.specs.View.{ChannelsView}
use Rattle.dcsctp_channel_runs.specs.Acts.{AreByteValues, IsInMemory, FitsChannelContent}
use Rattle.dcsctp_channel_runs.proofs.Said.{IsGood}

-- ---- bytes

pub all-append : (xs ys : List ℕ) → AreByteValues xs → AreByteValues ys → AreByteValues (xs ++ ys)
all-append [] ys first second = second
all-append (x ∷ xs) ys (byte, first) second = (byte, all-append xs ys first second)

pub byte_fits : (k n : ℕ) → byte_at k n < 2 ^ 8
byte_fits zero n = mod-lt n (omega arith)
byte_fits (suc k) n = mod-lt (n / 256 ^ suc k) (omega arith)

pub type_fits : (ordered : Bool) (reliability : Reliability) → channel_type ordered reliability < 2 ^ 8
type_fits true Reliable = omega arith
type_fits true (Retransmissions limit) = omega arith
type_fits true (Lifetime limit) = omega arith
type_fits false Reliable = omega arith
type_fits false (Retransmissions limit) = omega arith
type_fits false (Lifetime limit) = omega arith

pub open_are_bytes : (opening : Opening) → IsInMemory opening → AreByteValues (open_bytes opening)
unfolding open_bytes
open_are_bytes opening fits = (
  omega arith,
  (
    type_fits opening.delivery.ordered opening.delivery.reliability,
    (
      byte_fits 1 opening.delivery.priority,
      (
        byte_fits 0 opening.delivery.priority,
        (
          byte_fits 3 (reliability_parameter opening.delivery.reliability),
          (
            byte_fits 2 (reliability_parameter opening.delivery.reliability),
            (
              byte_fits 1 (reliability_parameter opening.delivery.reliability),
              (
                byte_fits 0 (reliability_parameter opening.delivery.reliability),
                (
                  byte_fits 1 (length opening.label),
                  (
                    byte_fits 0 (length opening.label),
                    (
                      byte_fits 1 (length opening.protocol),
                      (
                        byte_fits 0 (length opening.protocol),
                        all-append opening.label opening.protocol fits.label fits.protocol,
                      ),
                    ),
                  ),
                ),
              ),
            ),
          ),
        ),
      ),
    ),
  ),
)

pub twelve_more : (n : ℕ) → suc (suc (suc (suc (suc (suc (suc (suc (suc (suc (suc (suc n))))))))))) ≡ 12 + n
twelve_more n = omega arith

pub open_length : (opening : Opening) → length (open_bytes opening) ≡ 12 + length (opening.label ++ opening.protocol)
unfolding open_bytes
open_length opening = twelve_more (length (opening.label ++ opening.protocol))

pub either_false : (a b c : Bool) → (a || b || c) ≡ false → (a ≡ false) × (b ≡ false)
either_false false false c is = (refl, refl)
either_false true b c is = absurd cc
either_false false true c is = absurd cc

-- the texts of an OPEN that isn't refused are short
pub not_refused : (over long in_use : Bool) (a b c : ChannelError) → (if over then Some a else (if long then Some b else (if in_use then Some c else None))) ≡ None → long ≡ false
not_refused true long in_use a b c is = absurd cc
not_refused false true in_use a b c is = absurd cc
not_refused false false in_use a b c is = refl

pub texts_short : (opening : Opening) (negotiated : Option ℕ) (view : ChannelsView) → open_refusal opening negotiated view ≡ None → (length opening.label ≤ most_text) × (length opening.protocol ≤ most_text)
texts_short opening negotiated view is =
    let long : is_too_long view.below opening ≡ false = not_refused view.layer.over (is_too_long view.below opening) (is_in_use negotiated view.layer) _ _ _ is in
    let short = either_false (nat_lt most_text (length opening.label)) (nat_lt most_text (length opening.protocol)) _ long in
    (ltb-false most_text (length opening.label) short.0, ltb-false most_text (length opening.protocol) short.1)

pub opening_good : (opening : Opening) → IsInMemory opening → length opening.label ≤ most_text → length opening.protocol ≤ most_text → IsGood opening
opening_good opening fits label protocol =
    let whole : length (open_bytes opening) ≡ 12 + length (opening.label ++ opening.protocol) = open_length opening in
    let both : length (opening.label ++ opening.protocol) ≡ length opening.label + length opening.protocol = length-append opening.label opening.protocol in
    record {
      fits = record { label = omega arith; protocol = omega arith; priority = fits.priority; parameter = fits.parameter };
      bytes = open_are_bytes opening fits;
      size = omega arith;
    }

pub ppid_fits : (is_text : Bool) (bytes : List ℕ) → ppid_for is_text bytes < 2 ^ 32
ppid_fits true [] = omega arith
ppid_fits false [] = omega arith
ppid_fits true (byte ∷ bytes) = omega arith
ppid_fits false (byte ∷ bytes) = omega arith

pub payload_fits : (bytes : List ℕ) → AreByteValues bytes → length bytes < 2 ^ 63 → AreByteValues (payload_for bytes) × (length (payload_for bytes) < 2 ^ 63)
payload_fits [] are size = ((omega arith, tt), omega arith)
payload_fits (byte ∷ bytes) are size = (are, size)

pub content_message_fits : (number : ℕ) (content : ChannelContent) → number < 2 ^ 16 → FitsChannelContent content
    → FitsMessage (record { stream = number; ppid = content_ppid content; payload = payload_of content })
content_message_fits number content stream fits =
    let payload = payload_fits content.bytes fits.bytes fits.size in
    record { stream = stream; ppid = ppid_fits content.is_text content.bytes; payload = payload.0; size = payload.1 }

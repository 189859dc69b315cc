-- An OPEN that was written reads back, whatever follows it.
use Rattle.std.proofs.Common.{◌≡◌, ◌<◌, ◌^◌, ℕ, ◌+◌, Bool, true, false, cond, ltb, List, [], ◌∷◌, ◌++◌, length, take, drop, Option, Some, Result, Ok, refl, sym, ap, ◌∙◌, append_assoc, arith}
use Rattle.std.specs.Int.{w16, w32, to_be_bytes}
use Rattle.std.proofs.lemmas.Bool.{le-ltb}
use Rattle.std.proofs.lemmas.List.{take_at, drop_at, drop-drop, length-append}
use Rattle.std.proofs.lemmas.Nat.{from_be_bytes-to_be_bytes_2, from_be_bytes-to_be_bytes_4}
use Rattle.dcsctp_wire.specs.Fields.{u16_at}
use Rattle.dcsctp_channel_spec.specs.declared.types.Delivery.{Delivery}
use Rattle.dcsctp_channel_spec.specs.declared.types.Reliability.{Reliability}
use Rattle.dcsctp_channel_spec.specs.declared.types.Reliability.TheVariants.{Reliable, Retransmissions, Lifetime}
use Rattle.dcsctp_channel_spec.specs.Slots.{Opening}
use Rattle.dcsctp_channel_messages.specs.declared.control.ControlError.{ControlError}
use Rattle.dcsctp_channel_messages.specs.Format.{Control, open_message, open_type, channel_type, reliability_parameter, label_length, protocol_length, delivery_of_bytes, open_with, open_of_bytes, open_bytes, control_of_bytes}
use Rattle.dcsctp_channel_messages.specs.Laws.{OpensReadBack}

-- ---- the delivery

-- an OPEN by its fields, and what follows the fixed ones
abbrev bytes_of : Bool → Reliability → ℕ → ℕ → ℕ → List ℕ → List ℕ
bytes_of ordered reliability priority label protocol tail =
    open_type ∷ channel_type ordered reliability ∷ []
    ++ to_be_bytes w16 priority
    ++ to_be_bytes w32 (reliability_parameter reliability)
    ++ to_be_bytes w16 label
    ++ to_be_bytes w16 protocol
    ++ tail

abbrev says : Bool → Reliability → ℕ → Option Delivery
says ordered reliability priority = Some (record { ordered = ordered; reliability = reliability; priority = priority })

delivery_reads : (ordered : Bool) (reliability : Reliability) (priority label protocol : ℕ) (tail : List ℕ) → priority < 2 ^ 16 → reliability_parameter reliability < 2 ^ 32
    → delivery_of_bytes (bytes_of ordered reliability priority label protocol tail) ≡ says ordered reliability priority
delivery_reads true Reliable priority label protocol tail fits limit_fits = ap (λ (n : ℕ). says true Reliable n) (from_be_bytes-to_be_bytes_2 priority fits)
delivery_reads false Reliable priority label protocol tail fits limit_fits = ap (λ (n : ℕ). says false Reliable n) (from_be_bytes-to_be_bytes_2 priority fits)
delivery_reads true (Retransmissions limit) priority label protocol tail fits limit_fits =
    ap (λ (n : ℕ). says true (Retransmissions n) (u16_at 2 (bytes_of true (Retransmissions limit) priority label protocol tail))) (from_be_bytes-to_be_bytes_4 limit limit_fits)
    ∙ ap (λ (n : ℕ). says true (Retransmissions limit) n) (from_be_bytes-to_be_bytes_2 priority fits)
delivery_reads false (Retransmissions limit) priority label protocol tail fits limit_fits =
    ap (λ (n : ℕ). says false (Retransmissions n) (u16_at 2 (bytes_of false (Retransmissions limit) priority label protocol tail))) (from_be_bytes-to_be_bytes_4 limit limit_fits)
    ∙ ap (λ (n : ℕ). says false (Retransmissions limit) n) (from_be_bytes-to_be_bytes_2 priority fits)
delivery_reads true (Lifetime limit) priority label protocol tail fits limit_fits =
    ap (λ (n : ℕ). says true (Lifetime n) (u16_at 2 (bytes_of true (Lifetime limit) priority label protocol tail))) (from_be_bytes-to_be_bytes_4 limit limit_fits)
    ∙ ap (λ (n : ℕ). says true (Lifetime limit) n) (from_be_bytes-to_be_bytes_2 priority fits)
delivery_reads false (Lifetime limit) priority label protocol tail fits limit_fits =
    ap (λ (n : ℕ). says false (Lifetime n) (u16_at 2 (bytes_of false (Lifetime limit) priority label protocol tail))) (from_be_bytes-to_be_bytes_4 limit limit_fits)
    ∙ ap (λ (n : ℕ). says false (Lifetime limit) n) (from_be_bytes-to_be_bytes_2 priority fits)

-- ---- label and protocol

label_part : (label protocol rest : List ℕ) (n : ℕ) → n ≡ length label → take n (label ++ protocol ++ rest) ≡ label
label_part label protocol rest n is =
    ap (λ (bytes : List ℕ). take n bytes) (append_assoc label protocol rest) ∙ take_at label (protocol ++ rest) n (sym is)

protocol_part : (label protocol rest : List ℕ) (n m : ℕ) → n ≡ length label → m ≡ length protocol → take m (drop n (label ++ protocol ++ rest)) ≡ protocol
protocol_part label protocol rest n m is also =
    ap (λ (bytes : List ℕ). take m (drop n bytes)) (append_assoc label protocol rest)
    ∙ ap (λ (bytes : List ℕ). take m bytes) (drop_at label (protocol ++ rest) n (sym is))
    ∙ take_at protocol rest m (sym also)

three_lengths : (label protocol rest : List ℕ) → length (label ++ protocol ++ rest) ≡ length label + length protocol + length rest
three_lengths label protocol rest = length-append (label ++ protocol) rest ∙ ap (λ (n : ℕ). n + length rest) (length-append label protocol)

same_opening : (a b c d : List ℕ) (delivery : Delivery) → a ≡ b → c ≡ d
    → (let left : Opening = record { label = a; protocol = c; delivery = delivery } in left) ≡ record { label = b; protocol = d; delivery = delivery }
same_opening a b c d delivery e f = cc

chosen : {A : Type 0} (b : Bool) (x y : A) → b ≡ false → cond b x y ≡ y
chosen true x y e = absurd cc
chosen false x y e = refl

-- ---- the whole

abbrev done : Control → Result Control ControlError
done control = Ok control

open_reads : (opening : Opening) (rest : List ℕ) → length opening.label < 2 ^ 16 → length opening.protocol < 2 ^ 16
    → open_with (open_bytes opening ++ rest) (Some opening.delivery) ≡ done (open_message opening)
unfolding open_bytes
open_reads opening rest label_fits protocol_fits =
    let bytes : List ℕ = open_bytes opening ++ rest in
    let label_is : label_length bytes ≡ length opening.label = from_be_bytes-to_be_bytes_2 (length opening.label) label_fits in
    let protocol_is : protocol_length bytes ≡ length opening.protocol = from_be_bytes-to_be_bytes_2 (length opening.protocol) protocol_fits in
    let tail_is : length bytes ≡ 12 + (length opening.label + length opening.protocol + length rest) = omega (arith, three_lengths opening.label opening.protocol rest) in
    let whole : ltb (length bytes) (12 + label_length bytes + protocol_length bytes) ≡ false =
    le-ltb (length bytes) (12 + label_length bytes + protocol_length bytes) (omega (arith, label_is, protocol_is, tail_is)) in
    let label_reads : take (label_length bytes) (drop 12 bytes) ≡ opening.label = label_part opening.label opening.protocol rest (label_length bytes) label_is in
    let protocol_reads : take (protocol_length bytes) (drop (12 + label_length bytes) bytes) ≡ opening.protocol =
    ap (λ (part : List ℕ). take (protocol_length bytes) part) (sym (drop-drop (label_length bytes) 12 bytes))
    ∙ protocol_part opening.label opening.protocol rest (label_length bytes) (protocol_length bytes) label_is protocol_is in
    chosen _ _ _ whole ∙ ap (λ (read : Opening). done (open_message read)) (same_opening _ _ _ _ opening.delivery label_reads protocol_reads)

pub opens_read_back : OpensReadBack
unfolding control_of_bytes open_of_bytes open_bytes
opens_read_back opening rest fits =
    let bytes : List ℕ = open_bytes opening ++ rest in
    let tail_is : length bytes ≡ 12 + (length opening.label + length opening.protocol + length rest) = omega (arith, three_lengths opening.label opening.protocol rest) in
    let long : ltb (length bytes) 12 ≡ false = le-ltb (length bytes) 12 (omega (arith, tail_is)) in
    let delivery_is : delivery_of_bytes bytes ≡ Some opening.delivery =
    delivery_reads opening.delivery.ordered opening.delivery.reliability opening.delivery.priority (length opening.label) (length opening.protocol) (opening.label ++ opening.protocol ++ rest) fits.priority fits.parameter in
    chosen _ _ _ long ∙ ap (λ (delivery : Option Delivery). open_with bytes delivery) delivery_is ∙ open_reads opening rest fits.label fits.protocol

-- What is read as an OPEN was written so, but for what is ignored.
use Rattle.std.proofs.Common.{◌≡◌, ◌==◌, ◌<◌, ◌≤◌, ℕ, zero, suc, ◌+◌, ◌%◌, Bool, true, false, not, cond, ltb, List, [], ◌∷◌, ◌++◌, length, take, drop, Option, Some, None, Result, Ok, Err, refl, sym, ap, subst, ◌∙◌, arith, length-drop}
use Rattle.std.specs.Prelude.{slice_index, nat_lt}
use Rattle.std.specs.Int.{w16, w32, to_be_bytes, from_be_bytes}
use Rattle.std.proofs.Math.Seq.{take-add, take-append-add}
use Rattle.std.proofs.lemmas.Bool.{ltb-true, ltb-false, eqb-true}
use Rattle.std.proofs.lemmas.List.{drop-drop, length-take-le}
use Rattle.std.proofs.lemmas.Nat.{be_bytes_2, be_bytes_4}
use Rattle.dcsctp_wire.specs.Fields.{u16_at, u32_at}
use Rattle.dcsctp_channel_spec.specs.declared.types.Delivery.{Delivery}
use Rattle.dcsctp_channel_spec.specs.declared.types.Reliability.{Reliability}
use Rattle.dcsctp_channel_spec.specs.declared.types.Reliability.TheVariants.{Reliable, Retransmissions, Lifetime}
use Rattle.dcsctp_channel_spec.specs.Slots.{Opening}
use Rattle.dcsctp_channel_messages.specs.declared.control.ControlError.{ControlError}
use Rattle.dcsctp_channel_messages.specs.declared.control.ControlError.TheVariants.{UnknownMessageType, CutOff}
use Rattle.dcsctp_channel_messages.specs.Format.{Control, open_message, acknowledgement, ack_type, open_type, channel_type, reliability_parameter, reliability_of, label_length, protocol_length, delivery_with, delivery_of_bytes, opening_with, open_with, open_of_bytes, open_bytes, control_of_bytes}
use Rattle.dcsctp_channel_messages.specs.Laws.{AreOctets, canonical, OpensAreCanonical}

abbrev done : Control → Result Control ControlError
done control = Ok control

abbrev fault : ControlError → Result Control ControlError
fault error = Err error

-- ---- which tests were passed

goes_on : (test : Bool) (error : ControlError) (rest : Result Control ControlError) (control : Control) → cond test (fault error) rest ≡ done control → rest ≡ done control
goes_on true error rest control e = absurd cc
goes_on false error rest control e = e

passed : (test : Bool) (error : ControlError) (rest : Result Control ControlError) (control : Control) → cond test (fault error) rest ≡ done control → test ≡ false
passed true error rest control e = absurd cc
passed false error rest control e = refl

not_false : (b : Bool) → not b ≡ false → b ≡ true
not_false true e = refl
not_false false e = absurd cc

record IsRead (bytes : List ℕ) (opening : Opening) : Type 0 where
  kind : slice_index bytes 0 ≡ open_type
  long : 12 ≤ length bytes
  read : open_of_bytes bytes ≡ done (open_message opening)

begins : (kind : ℕ) (rest : List ℕ) (opening : Opening) (test : Bool)
    → cond test (done acknowledgement) (cond (not (kind == open_type)) (fault (UnknownMessageType kind)) (cond (nat_lt (length (kind ∷ rest)) 12) (fault CutOff) (open_of_bytes (kind ∷ rest)))) ≡ done (open_message opening)
    → IsRead (kind ∷ rest) opening
begins kind rest opening true e = absurd cc
begins kind rest opening false e =
    let after = goes_on (not (kind == open_type)) (UnknownMessageType kind) (cond (nat_lt (length (kind ∷ rest)) 12) (fault CutOff) (open_of_bytes (kind ∷ rest))) (open_message opening) e in
    record {
      kind = eqb-true kind open_type (not_false (kind == open_type) (passed (not (kind == open_type)) (UnknownMessageType kind) _ (open_message opening) e));
      long = ltb-false (length (kind ∷ rest)) 12 (passed (nat_lt (length (kind ∷ rest)) 12) CutOff (open_of_bytes (kind ∷ rest)) (open_message opening) after);
      read = goes_on (nat_lt (length (kind ∷ rest)) 12) CutOff (open_of_bytes (kind ∷ rest)) (open_message opening) after;
    }

is_read : (bytes : List ℕ) (opening : Opening) → control_of_bytes bytes ≡ done (open_message opening) → IsRead bytes opening
unfolding control_of_bytes
is_read [] opening e = absurd cc
is_read (kind ∷ rest) opening e = begins kind rest opening (kind == ack_type) e

record IsWhole (bytes : List ℕ) (opening : Opening) : Type 0 where
  delivery : Delivery
  is : delivery_of_bytes bytes ≡ Some delivery
  whole : 12 + label_length bytes + protocol_length bytes ≤ length bytes
  same : opening ≡ opening_with bytes delivery

same_opening : (a b : Opening) → done (open_message a) ≡ done (open_message b) → b ≡ a
same_opening a b e = cc

whole_where : (bytes : List ℕ) (opening : Opening) (delivery : Option Delivery) → delivery_of_bytes bytes ≡ delivery → open_with bytes delivery ≡ done (open_message opening) → IsWhole bytes opening
whole_where bytes opening None is e = absurd cc
whole_where bytes opening (Some delivery) is e =
    record {
      delivery = delivery;
      is = is;
      whole = ltb-false _ _ (passed (nat_lt (length bytes) (12 + label_length bytes + protocol_length bytes)) CutOff (done (open_message (opening_with bytes delivery))) (open_message opening) e);
      same = same_opening _ _ (goes_on (nat_lt (length bytes) (12 + label_length bytes + protocol_length bytes)) CutOff (done (open_message (opening_with bytes delivery))) (open_message opening) e);
    }

is_whole : (bytes : List ℕ) (opening : Opening) → open_of_bytes bytes ≡ done (open_message opening) → IsWhole bytes opening
unfolding open_of_bytes
is_whole bytes opening e = whole_where bytes opening (delivery_of_bytes bytes) refl e

-- ---- the delivery

abbrev code_of : Reliability → ℕ
code_of Reliable = 0
code_of (Retransmissions limit) = 1
code_of (Lifetime limit) = 2

type_where : (kind : ℕ) (reliability : Reliability) (low : Bool) → ltb kind 128 ≡ low → kind < 256 → kind % 128 ≡ code_of reliability → channel_type low reliability ≡ kind
type_where kind Reliable true is small code = omega (arith, ltb-true kind 128 is)
type_where kind (Retransmissions limit) true is small code = omega (arith, ltb-true kind 128 is)
type_where kind (Lifetime limit) true is small code = omega (arith, ltb-true kind 128 is)
type_where kind Reliable false is small code = omega (arith, ltb-false kind 128 is)
type_where kind (Retransmissions limit) false is small code = omega (arith, ltb-false kind 128 is)
type_where kind (Lifetime limit) false is small code = omega (arith, ltb-false kind 128 is)

-- which parameter goes out
record Says (code parameter : ℕ) (reliability : Reliability) : Type 0 where
  code_is : code ≡ code_of reliability
  parameter_is : reliability_parameter reliability ≡ cond (code == 0) 0 parameter

some_is : (a b : Reliability) → (let one : Option Reliability = Some a in one) ≡ Some b → a ≡ b
some_is a b e = cc

says_where : (code parameter : ℕ) (reliability : Reliability) (none one two : Bool) → (code == 0) ≡ none → (code == 1) ≡ one → (code == 2) ≡ two
    → cond none (Some Reliable) (cond one (Some (Retransmissions parameter)) (cond two (Some (Lifetime parameter)) None)) ≡ Some reliability → Says code parameter reliability
says_where code parameter reliability true one two is0 is1 is2 e =
    let P : Reliability → Type 0 = λ r. Says code parameter r in
    subst P (some_is Reliable reliability e) (record { code_is = eqb-true code 0 is0; parameter_is = sym (ap (λ (b : Bool). cond b 0 parameter) is0) })
says_where code parameter reliability false true two is0 is1 is2 e =
    let P : Reliability → Type 0 = λ r. Says code parameter r in
    subst P (some_is (Retransmissions parameter) reliability e) (record { code_is = eqb-true code 1 is1; parameter_is = sym (ap (λ (b : Bool). cond b 0 parameter) is0) })
says_where code parameter reliability false false true is0 is1 is2 e =
    let P : Reliability → Type 0 = λ r. Says code parameter r in
    subst P (some_is (Lifetime parameter) reliability e) (record { code_is = eqb-true code 2 is2; parameter_is = sym (ap (λ (b : Bool). cond b 0 parameter) is0) })
says_where code parameter reliability false false false is0 is1 is2 e = absurd cc

says : (code parameter : ℕ) (reliability : Reliability) → reliability_of code parameter ≡ Some reliability → Says code parameter reliability
says code parameter reliability e = says_where code parameter reliability (code == 0) (code == 1) (code == 2) refl refl refl e

-- what a delivery that was read is made of
record IsMade (bytes : List ℕ) (delivery : Delivery) : Type 0 where
  reliability : reliability_of (slice_index bytes 1 % 0x80) (u32_at 4 bytes) ≡ Some delivery.reliability
  ordered : delivery.ordered ≡ ltb (slice_index bytes 1) 0x80
  priority : delivery.priority ≡ u16_at 2 bytes

some_delivery : (a b : Delivery) → (let one : Option Delivery = Some a in one) ≡ Some b → b ≡ a
some_delivery a b e = cc

made_where : (bytes : List ℕ) (delivery : Delivery) (found : Option Reliability) → reliability_of (slice_index bytes 1 % 0x80) (u32_at 4 bytes) ≡ found
    → delivery_with bytes found ≡ Some delivery → IsMade bytes delivery
made_where bytes delivery None is e = absurd cc
made_where bytes delivery (Some reliability) is e =
    let same : delivery ≡ record { ordered = ltb (slice_index bytes 1) 0x80; reliability = reliability; priority = u16_at 2 bytes } = some_delivery _ _ e in
    record {
      reliability = is ∙ ap (λ (r : Reliability). Some r) (sym (ap (λ (d : Delivery). d.reliability) same));
      ordered = ap (λ (d : Delivery). d.ordered) same;
      priority = ap (λ (d : Delivery). d.priority) same;
    }

-- ---- the whole

abbrev joined : ℕ → ℕ → List ℕ → List ℕ → List ℕ → List ℕ → List ℕ → List ℕ
joined kind channel priority parameter label protocol tail = kind ∷ channel ∷ [] ++ priority ++ parameter ++ label ++ protocol ++ tail

same_joined : (k k' c c' : ℕ) (a a' b b' d d' e e' t t' : List ℕ) → k ≡ k' → c ≡ c' → a ≡ a' → b ≡ b' → d ≡ d' → e ≡ e' → t ≡ t' → joined k c a b d e t ≡ joined k' c' a' b' d' e' t'
same_joined k k' c c' a a' b b' d d' e e' t t' h1 h2 h3 h4 h5 h6 h7 = cc

two_small : (a b : ℕ) → a < 256 → b < 256 → AreOctets (a ∷ b ∷ [])
two_small a b h k zero = h
two_small a b h k (suc zero) = k
two_small a b h k (suc (suc i)) = omega arith

four_small : (a b c d : ℕ) → a < 256 → b < 256 → c < 256 → d < 256 → AreOctets (a ∷ b ∷ c ∷ d ∷ [])
four_small a b c d h k l m zero = h
four_small a b c d h k l m (suc zero) = k
four_small a b c d h k l m (suc (suc zero)) = l
four_small a b c d h k l m (suc (suc (suc zero))) = m
four_small a b c d h k l m (suc (suc (suc (suc i)))) = omega arith

parameter_where : (zero_code : Bool) (parameter n : ℕ) (field : List ℕ) → n ≡ cond zero_code 0 parameter → to_be_bytes w32 parameter ≡ field
    → to_be_bytes w32 n ≡ cond zero_code (0 ∷ 0 ∷ 0 ∷ 0 ∷ []) field
parameter_where true parameter n field is e = ap (λ (m : ℕ). to_be_bytes w32 m) is
parameter_where false parameter n field is e = ap (λ (m : ℕ). to_be_bytes w32 m) is ∙ e

abbrev cells_of : ℕ → ℕ → ℕ → ℕ → ℕ → ℕ → ℕ → ℕ → ℕ → ℕ → ℕ → ℕ → List ℕ → List ℕ
cells_of b0 b1 b2 b3 b4 b5 b6 b7 b8 b9 b10 b11 tail = b0 ∷ b1 ∷ b2 ∷ b3 ∷ b4 ∷ b5 ∷ b6 ∷ b7 ∷ b8 ∷ b9 ∷ b10 ∷ b11 ∷ tail

-- The canonical form is these parts, whatever the parameter's field is.
canonical_where : (b0 b1 b2 b3 b4 b5 b6 b7 b8 b9 b10 b11 : ℕ) (tail : List ℕ) (zero_code : Bool) (l p : ℕ)
    → joined b0 b1 (b2 ∷ b3 ∷ []) (cond zero_code (0 ∷ 0 ∷ 0 ∷ 0 ∷ []) (b4 ∷ b5 ∷ b6 ∷ b7 ∷ [])) (b8 ∷ b9 ∷ []) (b10 ∷ b11 ∷ []) (take (l + p) tail)
    ≡ (b0 ∷ b1 ∷ b2 ∷ b3 ∷ []) ++ cond zero_code (0 ∷ 0 ∷ 0 ∷ 0 ∷ []) (b4 ∷ b5 ∷ b6 ∷ b7 ∷ []) ++ take (4 + l + p) (b8 ∷ b9 ∷ b10 ∷ b11 ∷ tail)
canonical_where b0 b1 b2 b3 b4 b5 b6 b7 b8 b9 b10 b11 tail zero_code l p =
    let n : 4 + l + p ≡ 4 + (l + p) = omega arith in
    let rest : take (4 + l + p) (b8 ∷ b9 ∷ b10 ∷ b11 ∷ tail) ≡ b8 ∷ b9 ∷ b10 ∷ b11 ∷ take (l + p) tail =
    ap (λ (m : ℕ). take m (b8 ∷ b9 ∷ b10 ∷ b11 ∷ tail)) n ∙ take-append-add (b8 ∷ b9 ∷ b10 ∷ b11 ∷ []) tail (l + p) in
    split zero_code (sym rest)
  where
    split : (code : Bool) {after : List ℕ} → b8 ∷ b9 ∷ b10 ∷ b11 ∷ take (l + p) tail ≡ after
        → joined b0 b1 (b2 ∷ b3 ∷ []) (cond code (0 ∷ 0 ∷ 0 ∷ 0 ∷ []) (b4 ∷ b5 ∷ b6 ∷ b7 ∷ [])) (b8 ∷ b9 ∷ []) (b10 ∷ b11 ∷ []) (take (l + p) tail)
        ≡ (b0 ∷ b1 ∷ b2 ∷ b3 ∷ []) ++ cond code (0 ∷ 0 ∷ 0 ∷ 0 ∷ []) (b4 ∷ b5 ∷ b6 ∷ b7 ∷ []) ++ after
    split true e = ap (λ (bytes : List ℕ). (b0 ∷ b1 ∷ b2 ∷ b3 ∷ []) ++ (0 ∷ 0 ∷ 0 ∷ 0 ∷ []) ++ bytes) e
    split false e = ap (λ (bytes : List ℕ). (b0 ∷ b1 ∷ b2 ∷ b3 ∷ []) ++ (b4 ∷ b5 ∷ b6 ∷ b7 ∷ []) ++ bytes) e

-- label and protocol are what was announced
texts : (cells tail : List ℕ) (l p : ℕ) → drop 12 cells ≡ tail → l + p ≤ length tail → take l tail ++ take p (drop (12 + l) cells) ≡ take (l + p) tail
texts cells tail l p is fits =
    ap (λ (part : List ℕ). take l tail ++ take p part) (sym (drop-drop l 12 cells) ∙ ap (λ (part : List ℕ). drop l part) is) ∙ sym (take-add l p tail)

label_size : (tail : List ℕ) (l p : ℕ) → l + p ≤ length tail → length (take l tail) ≡ l
label_size tail l p fits = length-take-le l tail (omega arith)

protocol_size : (cells tail : List ℕ) (l p : ℕ) → drop 12 cells ≡ tail → l + p ≤ length tail → length (take p (drop (12 + l) cells)) ≡ p
protocol_size cells tail l p is fits =
    let part : drop (12 + l) cells ≡ drop l tail = sym (drop-drop l 12 cells) ∙ ap (λ (bytes : List ℕ). drop l bytes) is in
    ap (λ (bytes : List ℕ). length (take p bytes)) part ∙ length-take-le p (drop l tail) (omega (arith, length-drop l tail))

of_cells : (b0 b1 b2 b3 b4 b5 b6 b7 b8 b9 b10 b11 : ℕ) (tail : List ℕ) (delivery : Delivery)
    → AreOctets (cells_of b0 b1 b2 b3 b4 b5 b6 b7 b8 b9 b10 b11 tail)
    → b0 ≡ open_type
    → from_be_bytes w16 (b8 ∷ b9 ∷ []) + from_be_bytes w16 (b10 ∷ b11 ∷ []) ≤ length tail
    → IsMade (cells_of b0 b1 b2 b3 b4 b5 b6 b7 b8 b9 b10 b11 tail) delivery
    → open_bytes (opening_with (cells_of b0 b1 b2 b3 b4 b5 b6 b7 b8 b9 b10 b11 tail) delivery) ≡ canonical (cells_of b0 b1 b2 b3 b4 b5 b6 b7 b8 b9 b10 b11 tail)
unfolding open_bytes
of_cells b0 b1 b2 b3 b4 b5 b6 b7 b8 b9 b10 b11 tail delivery small kind fits is =
    let l : ℕ = from_be_bytes w16 (b8 ∷ b9 ∷ []) in
    let p : ℕ = from_be_bytes w16 (b10 ∷ b11 ∷ []) in
    let cells : List ℕ = cells_of b0 b1 b2 b3 b4 b5 b6 b7 b8 b9 b10 b11 tail in
    let said = says (b1 % 0x80) (from_be_bytes w32 (b4 ∷ b5 ∷ b6 ∷ b7 ∷ [])) delivery.reliability is.reliability in
    same_joined _ _ _ _ _ _ _ _ _ _ _ _ _ _
    (sym kind)
    (ap (λ (ordered : Bool). channel_type ordered delivery.reliability) is.ordered ∙ type_where b1 delivery.reliability (ltb b1 0x80) refl (small 1) said.code_is)
    (be_bytes_2 (b2 ∷ b3 ∷ []) delivery.priority refl (two_small b2 b3 (small 2) (small 3)) is.priority)
    (parameter_where (b1 % 0x80 == 0) (from_be_bytes w32 (b4 ∷ b5 ∷ b6 ∷ b7 ∷ [])) (reliability_parameter delivery.reliability) (b4 ∷ b5 ∷ b6 ∷ b7 ∷ []) said.parameter_is
    (be_bytes_4 (b4 ∷ b5 ∷ b6 ∷ b7 ∷ []) (from_be_bytes w32 (b4 ∷ b5 ∷ b6 ∷ b7 ∷ [])) refl (four_small b4 b5 b6 b7 (small 4) (small 5) (small 6) (small 7)) refl))
    (be_bytes_2 (b8 ∷ b9 ∷ []) (length (take l tail)) refl (two_small b8 b9 (small 8) (small 9)) (label_size tail l p fits))
    (be_bytes_2 (b10 ∷ b11 ∷ []) (length (take p (drop (12 + l) cells))) refl (two_small b10 b11 (small 10) (small 11)) (protocol_size cells tail l p refl fits))
    (texts cells tail l p refl fits)
    ∙ canonical_where b0 b1 b2 b3 b4 b5 b6 b7 b8 b9 b10 b11 tail (b1 % 0x80 == 0) l p

of_bytes : (bytes : List ℕ) (delivery : Delivery) → AreOctets bytes → slice_index bytes 0 ≡ open_type → 12 ≤ length bytes
    → 12 + label_length bytes + protocol_length bytes ≤ length bytes → IsMade bytes delivery → open_bytes (opening_with bytes delivery) ≡ canonical bytes
of_bytes [] delivery small kind long whole is = absurd (omega arith)
of_bytes (b0 ∷ []) delivery small kind long whole is = absurd (omega arith)
of_bytes (b0 ∷ b1 ∷ []) delivery small kind long whole is = absurd (omega arith)
of_bytes (b0 ∷ b1 ∷ b2 ∷ []) delivery small kind long whole is = absurd (omega arith)
of_bytes (b0 ∷ b1 ∷ b2 ∷ b3 ∷ []) delivery small kind long whole is = absurd (omega arith)
of_bytes (b0 ∷ b1 ∷ b2 ∷ b3 ∷ b4 ∷ []) delivery small kind long whole is = absurd (omega arith)
of_bytes (b0 ∷ b1 ∷ b2 ∷ b3 ∷ b4 ∷ b5 ∷ []) delivery small kind long whole is = absurd (omega arith)
of_bytes (b0 ∷ b1 ∷ b2 ∷ b3 ∷ b4 ∷ b5 ∷ b6 ∷ []) delivery small kind long whole is = absurd (omega arith)
of_bytes (b0 ∷ b1 ∷ b2 ∷ b3 ∷ b4 ∷ b5 ∷ b6 ∷ b7 ∷ []) delivery small kind long whole is = absurd (omega arith)
of_bytes (b0 ∷ b1 ∷ b2 ∷ b3 ∷ b4 ∷ b5 ∷ b6 ∷ b7 ∷ b8 ∷ []) delivery small kind long whole is = absurd (omega arith)
of_bytes (b0 ∷ b1 ∷ b2 ∷ b3 ∷ b4 ∷ b5 ∷ b6 ∷ b7 ∷ b8 ∷ b9 ∷ []) delivery small kind long whole is = absurd (omega arith)
of_bytes (b0 ∷ b1 ∷ b2 ∷ b3 ∷ b4 ∷ b5 ∷ b6 ∷ b7 ∷ b8 ∷ b9 ∷ b10 ∷ []) delivery small kind long whole is = absurd (omega arith)
of_bytes (b0 ∷ b1 ∷ b2 ∷ b3 ∷ b4 ∷ b5 ∷ b6 ∷ b7 ∷ b8 ∷ b9 ∷ b10 ∷ b11 ∷ tail) delivery small kind long whole is =
    of_cells b0 b1 b2 b3 b4 b5 b6 b7 b8 b9 b10 b11 tail delivery small kind (omega arith) is

pub opens_are_canonical : OpensAreCanonical
opens_are_canonical bytes opening small e =
    let read = is_read bytes opening e in
    let whole = is_whole bytes opening read.read in
    ap open_bytes whole.same
    ∙ of_bytes bytes whole.delivery small read.kind read.long whole.whole (made_where bytes whole.delivery _ refl whole.is)

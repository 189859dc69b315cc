-- Nothing but what begins with the type of an ACK is read as one.
use Rattle.std.proofs.Common.{◌≡◌, ◌==◌, ℕ, ◌+◌, Bool, true, false, cond, not, List, [], ◌∷◌, length, nat_lt, Option, Some, None, Result, Ok, Err, refl, ap, ◌∙◌}
use Rattle.std.proofs.lemmas.Bool.{eqb-true}
use Rattle.dcsctp_channel_spec.specs.declared.types.Delivery.{Delivery}
use Rattle.dcsctp_channel_messages.specs.declared.control.ControlError.{ControlError}
use Rattle.dcsctp_channel_messages.specs.declared.control.ControlError.TheVariants.{UnknownMessageType, CutOff}
use Rattle.dcsctp_channel_messages.specs.Format.{Control, open_message, acknowledgement, ack_type, open_type, label_length, protocol_length, delivery_of_bytes, opening_with, open_with, open_of_bytes, control_of_bytes}
use Rattle.dcsctp_channel_messages.specs.Laws.{AcksAre}

abbrev done : Control → Result Control ControlError
done control = Ok control

abbrev fault : ControlError → Result Control ControlError
fault error = Err error

-- where a test refuses, or goes on
goes_on : (test : Bool) (error : ControlError) (rest : Result Control ControlError) (control : Control) → cond test (fault error) rest ≡ done control → rest ≡ done control
goes_on true error rest control e = absurd cc
goes_on false error rest control e = e

open_is_none : (bytes : List ℕ) (delivery : Option Delivery) → open_with bytes delivery ≡ done acknowledgement → ⊥
open_is_none bytes None e = cc
open_is_none bytes (Some delivery) e =
    let read : done (open_message (opening_with bytes delivery)) ≡ done acknowledgement = goes_on (nat_lt (length bytes) (12 + label_length bytes + protocol_length bytes)) CutOff (done (open_message (opening_with bytes delivery))) acknowledgement e in
    cc

is_none : (bytes : List ℕ) → open_of_bytes bytes ≡ done acknowledgement → ⊥
unfolding open_of_bytes
is_none bytes e = open_is_none bytes (delivery_of_bytes bytes) e

begins : (kind : ℕ) (rest : List ℕ) (test : Bool) → (kind == ack_type) ≡ test
    → cond test (done acknowledgement) (cond (not (kind == open_type)) (fault (UnknownMessageType kind)) (cond (nat_lt (length (kind ∷ rest)) 12) (fault CutOff) (open_of_bytes (kind ∷ rest)))) ≡ done acknowledgement
    → kind ≡ ack_type
begins kind rest true is e = eqb-true kind ack_type is
begins kind rest false is e = absurd (is_none (kind ∷ rest) (goes_on _ CutOff _ acknowledgement (goes_on _ (UnknownMessageType kind) _ acknowledgement e)))

only : (bytes : List ℕ) → control_of_bytes bytes ≡ done acknowledgement → (rest : List ℕ) × (bytes ≡ ack_type ∷ rest)
unfolding control_of_bytes
only [] e = absurd cc
only (kind ∷ rest) e = (rest, ap (λ (first : ℕ). first ∷ rest) (begins kind rest (kind == ack_type) refl e))

each : (rest : List ℕ) → control_of_bytes (ack_type ∷ rest) ≡ done acknowledgement
unfolding control_of_bytes
each rest = refl

pub acks_are : (bytes : List ℕ) → AcksAre bytes
acks_are bytes = record { each = λ rest is. ap control_of_bytes is ∙ each rest; only = only bytes }

-- The frame that bytes begin with, and whether any bytes are left.
use Rattle.std.proofs.Common.{◌≡◌, ℕ, true, false, eqb, List, [], ◌∷◌, length, Some}
use Rattle.std.proofs.lemmas.Bool.{eqb-true}
use Rattle.std.proofs.lemmas.List.{nil_from_length}
use Rattle.dcsctp_wire.specs.Format.{Frame, leading_frame}

-- an empty list of bytes has no frame
pub frame_of_nothing : (frame : Frame) → leading_frame [] ≡ Some frame → ⊥
unfolding leading_frame
frame_of_nothing frame e = absurd cc

-- bytes begin with one frame
pub same_frame : (bytes : List ℕ) (f g : Frame) → leading_frame bytes ≡ Some f → leading_frame bytes ≡ Some g → f ≡ g
same_frame bytes f g a b = cc

-- bytes are left
pub some_left : (bytes : List ℕ) → eqb (length bytes) 0 ≡ false → bytes ≡ [] → ⊥
some_left [] test e = cc
some_left (b ∷ bytes) test e = cc

-- no bytes are left
pub none_left : (bytes : List ℕ) → eqb (length bytes) 0 ≡ true → bytes ≡ []
none_left bytes test = nil_from_length bytes (eqb-true _ _ test)

-- A reset of a stream makes a message that was sent before, and what is ready of it, one older.
use Rattle.std.proofs.Common.{◌≡◌, ℕ, true, ◌<◌, ◌≤◌, ◌+◌, List, ◌∷◌, nat_lt, sym, ◌∙◌, ap, arith, subst}
use Rattle.std.specs.Prelude.{Some}
use Rattle.std.proofs.lemmas.Bool.Decides.{nat_tests}
use Rattle.dcsctp_delivery_directions.specs.sending.Places.{at_place}
use Rattle.dcsctp_delivery_directions.specs.sending.Log.{Piece, Slot}
use Rattle.dcsctp_delivery_directions.specs.order.Queue.{Cut}
use Rattle.dcsctp_delivery_directions.proofs.epochs.Dated.{age_of_place, age_of_index}

-- One more may have been performed of the stream, when so many messages were ready, and it was asked for after all that was sent on
-- the stream was queued.
pub data IsRecut (log : List Slot) (id total : ℕ) (old new : List Cut) : Type 0 where
  recut_same : new ≡ old → IsRecut log id total old new
  recut_one : (cut : Cut) → new ≡ cut ∷ old → total ≤ cut.index → ((n : ℕ) (f : Piece) → at_place n log ≡ Some (Some f) → f.message.stream ≡ id → f.place < cut.place) → IsRecut log id total old new

-- A piece of the message of this place was sent.
pub record IsSentAt (log : List Slot) (place : ℕ) : Type 0 where
  pub offset : ℕ
  pub piece : Piece
  pub at : at_place offset log ≡ Some (Some piece)
  pub is : piece.place ≡ place

-- Then the message and what is ready of it grow older alike.
pub record AgeAlike (old new : List Cut) (place index : ℕ) : Type 0 where
  pub more : ℕ
  pub of_place : age_of_place new place ≡ age_of_place old place + more
  pub of_index : age_of_index new index ≡ age_of_index old index + more

one_older : (old : List Cut) (cut : Cut) (place index : ℕ) → place < cut.place → index < cut.index → AgeAlike old (cut ∷ old) place index
one_older old cut place index low low' =
    record {
      more = 1;
      of_place = rw (before place cut.place low) (omega arith);
      of_index = rw (before index cut.index low') (omega arith);
    }
  where
    before : (m n : ℕ) → m < n → nat_lt m n ≡ true
    before m n less = grind (arith, nat_tests, less)

pub age_alike : (log : List Slot) (id total : ℕ) (old new : List Cut) → IsRecut log id total old new → (n : ℕ) (f : Piece) → at_place n log ≡ Some (Some f) → f.message.stream ≡ id → (index : ℕ) → index < total → AgeAlike old new f.place index
age_alike log id total old new (recut_same same) n f at on index low =
    record { more = 0; of_place = ap (λ (l : List Cut). age_of_place l f.place) same ∙ omega arith; of_index = ap (λ (l : List Cut). age_of_index l index) same ∙ omega arith }
age_alike log id total old new (recut_one cut is up before) n f at on index low =
    subst (λ (l : List Cut). AgeAlike old l f.place index) (sym is) (one_older old cut f.place index (before n f at on) (omega (arith, low, up)))

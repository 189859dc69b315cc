-- Which streams are handed out to be reset, while messages leave the send queue.
use Rattle.std.proofs.Common.{◌≡◌, ℕ, Bool, true, false, List, [], ◌∷◌, ◌++◌, refl, ◌∙◌, ap, subst, inl, inr}
use Rattle.std.specs.Prelude.{Option, None, Some, if◌then◌else◌}
use Rattle.dcsctp_spec.specs.types.declared.sending.Pause.{Pause}
use Rattle.dcsctp_spec.specs.types.declared.sending.Pause.TheVariants.{Open, Pausing, HandedOut}
use Rattle.dcsctp_spec.specs.types.declared.sending.Turn.{Turn}
use Rattle.dcsctp_spec.specs.types.declared.sending.UnderWay.{UnderWay}
use Rattle.dcsctp_spec.specs.types.queues.SendStreams.{Waiting, Stream, unused_stream, may_send_on, turn_of}
use Rattle.dcsctp_delivery_directions.specs.sending.Numbers.{stream_named, is_handed_out, AreCurrent, AreKept}
use Rattle.dcsctp_spec.specs.queues.Filling.{Stage, StepAgain, StepNew, StageSteps}
use Rattle.dcsctp_delivery_directions.specs.sending.Log.{Slot, History}
use Rattle.dcsctp_delivery_directions.proofs.sending.Places.{at_either}
use Rattle.dcsctp_delivery_directions.proofs.sending.KeptPauses.{FollowsPauses, by_step_again, by_step_new, by_steps}
use Rattle.dcsctp_delivery_directions.proofs.sending.StreamsNamed.{found_set}

abbrev pub SamePause : Stream → Stream → Type 0
SamePause old new = is_handed_out new.pause ≡ is_handed_out old.pause

-- The same streams are handed out.
abbrev pub PausesStay : List Stream → List Stream → Type 0
PausesStay old new = (id : ℕ) → is_handed_out (stream_named id new).pause ≡ is_handed_out (stream_named id old).pause

pub pauses_then : (old between new : List Stream) → PausesStay old between → PausesStay between new → PausesStay old new
pauses_then old between new one two id = two id ∙ one id

pub pauses_follow : FollowsPauses PausesStay
pauses_follow =
    record {
      same = λ streams id. refl;
      both = pauses_then;
      set = λ place new streams is same id. found_set SamePause id (unused_stream 0 0 0) new (λ s. refl) place streams is (λ here. ap is_handed_out same);
    }

-- a stream whose turn it is isn't handed out, if no message of it is under way
pub turn_open : (s : Stream) (turn : Turn) → turn_of s ≡ Some turn → s.under_way ≡ None → is_handed_out s.pause ≡ false
turn_open s turn is idle = go s.pause s.messages (subst (λ (u : Option UnderWay). may_send_on u s.pause s.messages ≡ true) idle (sends (may_send_on s.under_way s.pause s.messages) _ is))
  where
    sends : (b : Bool) (its : Turn) → (if b then Some its else None) ≡ Some turn → b ≡ true
    sends true its e = refl
    sends false its e = absurd (cc)

    go : (p : Pause) (messages : List Waiting) → may_send_on None p messages ≡ true → is_handed_out p ≡ false
    go Open messages e = refl
    go Pausing messages e = refl
    go HandedOut [] e = absurd (cc)
    go HandedOut (w ∷ messages) e = absurd (cc)

-- ---- while a packet is filled

abbrev pub StaysPaused : Stage → Stage → Type 0
StaysPaused old new = PausesStay old.waiting.streams new.waiting.streams

pub again_paused : (now : ℕ) (old new : Stage) → StepAgain now old new → StaysPaused old new
again_paused now old new step = by_step_again PausesStay pauses_follow now old new step

pub anew_paused : (now : ℕ) (old new : Stage) → StepNew now old new → StaysPaused old new
anew_paused now old new step = by_step_new PausesStay pauses_follow now old new step

pub steps_paused : (OneStep : Stage → Stage → Type 0) → ((old new : Stage) → OneStep old new → StaysPaused old new) → (old new : Stage) → StageSteps OneStep old new → StaysPaused old new
steps_paused OneStep each old new steps = by_steps PausesStay pauses_follow OneStep each old new steps

-- ---- pieces of streams that aren't handed out

pub kept_later : (old new : List Stream) (slots : List Slot) → PausesStay old new → AreKept old slots → AreKept new slots
kept_later old new slots stay kept n f at = stay f.message.stream ∙ kept n f at

pub kept_both : (streams : List Stream) (newer older : List Slot) → AreKept streams newer → AreKept streams older → AreKept streams (newer ++ older)
kept_both streams newer older kept kept' n f at = elim (at_either newer older n (Some f) at) [ inl e ↦ kept e.0 f e.1 | inr e ↦ kept' n f e ]

pub current_both : (history : History) (newer older : List Slot) → AreCurrent history newer → AreCurrent history older → AreCurrent history (newer ++ older)
current_both history newer older current current' n f at = elim (at_either newer older n (Some f) at) [ inl e ↦ current e.0 f e.1 | inr e ↦ current' n f e ]

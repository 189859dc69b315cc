-- Each call keeps the tags of a socket's association other than 0, and its zero checksum method that of the options or none, unless
-- an allocation fails.
use Rattle.std.proofs.Common.{◌≡◌, ℕ, max, Bool, true, false, Result, Ok, Err, Option, List, [], ◌∷◌, refl, sym, subst}
use Rattle.rand_core.specs.Stream.{Stream}
use Rattle.dcsctp_core.specs.spec.endpoint.CallTurns.{Transition, transition, after_all}
use Rattle.dcsctp_core.specs.spec.endpoint.Turn.{with_clock, user_sets, user_takes}
use Rattle.dcsctp_core.specs.types.declared.message.Message.{Message}
use Rattle.dcsctp_core.specs.spec.endpoint.Endpoint.{Endpoint}
use Rattle.dcsctp_core.specs.types.Schedule.{CallContent, advance_call, set_call, take_call}
use Rattle.dcsctp_core.specs.types.Snapshot.{Snapshot, is_valid_snapshot}
use Rattle.dcsctp_core.specs.spec.Soundness.{IsSound}
use Rattle.dcsctp_spec_laws.specs.SoundnessLaws.{CallsKeepSoundness}
use Rattle.dcsctp_core.specs.types.Setting.{Setting}
use Rattle.dcsctp_core.specs.spec.endpoint.SettingOutcomes.{endpoint_with, setting_outcome}
use Rattle.dcsctp_core.specs.api.declared.errors.SocketFault.{SocketFault}
use Rattle.dcsctp_core.specs.declared.context.Context.{Context}
use Rattle.dcsctp_core.specs.View.{View, view_of, endpoint_of, call_start, CallMoves}
use Rattle.dcsctp_socket.specs.SocketView.{SettlesCall}
use Rattle.dcsctp_socket_calls.specs.Parts.{TurnsOf, InputTurns, RestoringTurns, MovesByCall, MakesAnsweredCall, ChangesSetting, TakesFirstMessage, set_view}
use Rattle.dcsctp_core.specs.declared.deadlines.Entry.{Entry}
use Rattle.dcsctp_core.specs.Timeout.{ListsDeadlines}
use Rattle.dcsctp_core.proofs.TimeoutLemmas.{told_kept}

-- the endpoint of a socket's parts
abbrev SoundContext : {R : Type 0} → Context R → Type 0
SoundContext context = IsSound (view_of context).endpoint

-- the call's turns, and what they leave
turns_sound : {R : Type 0} (stream : R → Stream) (old new : View R) (turns : List Transition) → CallMoves stream old turns new → IsSound (after_all old.endpoint turns) → IsSound new.endpoint
turns_sound stream old new turns moves sound = subst IsSound (sym moves.endpoint) sound

-- An allocation failed, and so has the socket.
failed_sound : {R A E : Type 0} (new : Context R) (failed fails : Bool) (error : E) (answer : Result A SocketFault) → SettlesCall failed (Err error) answer fails → fails ≡ false → SoundContext new
failed_sound new failed fails error answer settled goes_on = let has : fails ≡ true = settled.1 in absurd (cc)

-- a call whose turns keep it
call_sound : {R E A : Type 0} (stream : R → Stream) (old new : Context R) (failed fails : Bool) (IsAnswer : A → Type 0) (AreTurns : Endpoint → List Transition → Type 0) (Leaves : View R → View R → Type 0)
    → fails ≡ false → ((turns : List Transition) → AreTurns (view_of old).endpoint turns → IsSound (after_all (view_of old).endpoint turns))
    → (outcome : Result A E) (answer : Result A SocketFault) → SettlesCall failed outcome answer fails → MakesAnsweredCall stream IsAnswer AreTurns Leaves old outcome new → SoundContext new
call_sound stream old new failed fails IsAnswer AreTurns Leaves goes_on keeps (Ok value) answer settled worked =
    turns_sound stream (view_of old) (view_of new) worked.1.turns worked.1.moves (keeps worked.1.turns worked.1.are)
call_sound stream old new failed fails IsAnswer AreTurns Leaves goes_on keeps (Err error) answer settled worked = failed_sound new failed fails error answer settled goes_on

module _ (law : CallsKeepSoundness) {R E A : Type 0} (stream : R → Stream) (old new : Context R) (failed fails : Bool) (sound : SoundContext old) (goes_on : fails ≡ false)
    (outcome : Result A E) (answer : Result A SocketFault) (settled : SettlesCall failed outcome answer fails) (IsAnswer : A → Type 0) (Leaves : View R → View R → Type 0) where
  pub user_call_sound : (call : CallContent) → MakesAnsweredCall stream IsAnswer (TurnsOf call) Leaves old outcome new → SoundContext new
  user_call_sound call worked =
      call_sound stream old new failed fails IsAnswer (TurnsOf call) Leaves goes_on (λ turns are. law.calls (view_of old).endpoint call turns are sound) outcome answer settled worked

  pub input_sound : (bytes : List ℕ) → MakesAnsweredCall stream IsAnswer (InputTurns bytes) Leaves old outcome new → SoundContext new
  input_sound bytes worked =
      call_sound stream old new failed fails IsAnswer (InputTurns bytes) Leaves goes_on (λ turns are. law.input (view_of old).endpoint bytes turns are sound) outcome answer settled worked

  pub restore_sound : (state : Snapshot) → is_valid_snapshot (view_of old).endpoint.options state ≡ true → MakesAnsweredCall stream IsAnswer (RestoringTurns state) Leaves old outcome new → SoundContext new
  restore_sound state valid worked =
      call_sound stream old new failed fails IsAnswer (RestoringTurns state) Leaves goes_on (λ turns are. law.restores (view_of old).endpoint state turns valid are sound) outcome answer settled worked

-- ---- calls that can't fail, or change nothing where they fail

set_sound : CallsKeepSoundness → (e : Endpoint) (setting : Setting) → IsSound e → IsSound (endpoint_with setting e)
set_sound law e setting sound = law.calls e (set_call setting) (transition (user_sets setting) (setting_outcome e setting) ∷ []) (record { is = refl; comes = refl }, tt) sound

-- something is set
pub setting_sound : {R : Type 0} → CallsKeepSoundness → (setting : Setting) (old new : Context R) → SoundContext old → view_of new ≡ set_view setting (view_of old) → SoundContext new
setting_sound {R} law setting old new sound is = subst (λ (v : View R). IsSound v.endpoint) (sym is) (set_sound law (view_of old).endpoint setting sound)

-- the same, if an allocation can fail
pub may_set_sound : {R E : Type 0} → CallsKeepSoundness → (setting : Setting) (old new : Context R) (failed fails : Bool) (outcome : Result (Unit {0}) E) (answer : Result (Unit {0}) SocketFault)
    → SoundContext old → ChangesSetting setting old outcome new → SettlesCall failed outcome answer fails → fails ≡ false → SoundContext new
may_set_sound law setting old new failed fails (Ok done) answer sound is settled goes_on = setting_sound law setting old new sound is
may_set_sound law setting old new failed fails (Err error) answer sound is settled goes_on = failed_sound new failed fails error answer settled goes_on

-- a message is taken
pub take_sound : {R : Type 0} → CallsKeepSoundness → (old new : Context R) (result : Option Message) → SoundContext old → TakesFirstMessage (view_of old) result (view_of new) → SoundContext new
take_sound {R} law old new result sound taken =
    subst (λ (v : View R). IsSound v.endpoint) (sym taken.is)
    (law.calls (view_of old).endpoint take_call (transition user_takes taken.outcome ∷ []) (record { is = refl; comes = taken.turn }, tt) sound)

-- ---- a moment at which nothing is due

pub clock_sound : {R : Type 0} → CallsKeepSoundness → (stream : R → Stream) (old new : Context R) → SoundContext old → (moment : ℕ)
    → MovesByCall stream (TurnsOf (advance_call moment)) (view_of old) (view_of new) → SoundContext new
clock_sound law stream old new sound moment moved =
    turns_sound stream (view_of old) (view_of new) moved.turns moved.moves (law.calls (view_of old).endpoint (advance_call moment) moved.turns moved.are sound)

-- The clock has moved, and nothing else.
abbrev pub OnlyClock : {R : Type 0} → Context R → ℕ → Context R → Type 0
OnlyClock old moment new = view_of new ≡ record (call_start (view_of old)) { endpoint = with_clock (max old.moment moment) (endpoint_of old) }

-- So the list keeps what counts.
pub clock_told : {R : Type 0} (old new : Context R) (moment : ℕ) (entries : List Entry) → OnlyClock old moment new → ListsDeadlines (endpoint_of old) entries → ListsDeadlines (endpoint_of new) entries
clock_told {R} old new moment entries only told =
    subst (λ (v : View R). ListsDeadlines v.endpoint entries) (sym only)
    (told_kept (endpoint_of old) (with_clock (max old.moment moment) (endpoint_of old)) entries refl refl refl refl told)

-- Calls of a socket, from those of its parts.
use Rattle.std.proofs.Common.{◌≡◌, ℕ, Bool, true, false, List, sym, ap, subst, ◌∙◌, Result, Ok, Err}
use Rattle.rand_core.specs.Stream.{Stream}
use Rattle.dcsctp_core.specs.types.Schedule.{CallContent, connect_call, hand_over_call}
use Rattle.dcsctp_core.specs.types.Setting.{Setting}
use Rattle.dcsctp_core.specs.types.Snapshot.{Snapshot}
use Rattle.dcsctp_core.specs.types.declared.snapshot.SocketHandoverState.{SocketHandoverState}
use Rattle.dcsctp_core.specs.spec.endpoint.Endpoint.{Endpoint}
use Rattle.dcsctp_core.specs.spec.endpoint.CallTurns.{Transition}
use Rattle.dcsctp_core.specs.api.declared.errors.HandoverError.{HandoverError}
use Rattle.dcsctp_core.specs.api.declared.errors.RestoreError.{RestoreError}
use Rattle.dcsctp_core.specs.api.declared.errors.SocketFault.{SocketFault}
use Rattle.dcsctp_core.specs.api.Calls.{UserView, NoAnswer, Calls, UserCalls, Connects, HandlesInput, Sets, Follows, FailsWhole, RanOutOfMemory}
use Rattle.dcsctp_core.specs.api.Handover.{IsHandoverAnswer, IsRestoreAnswer, HandsOver, RestoresSocket}
use Rattle.dcsctp_core.specs.declared.context.Context.{Context}
use Rattle.dcsctp_core.specs.View.{View, view_of, call_start}
use Rattle.dcsctp_socket_calls.specs.Parts.{TurnsOf, InputTurns, FirstOfInput, RestoringTurns, FirstOfRestore, MovesByCall, CutsCall, DrewAlone, BeganAlone, MakesAnsweredCall, MakesCallOfUser, ChangesSetting, set_view}
use Rattle.dcsctp_socket.specs.SocketView.{SettlesCall, user_view_of}

module _ {R : Type 0} (stream : R → Stream) (old new : Context R) (failed fails : Bool) (runs : failed ≡ false) where
  -- the socket before the call, and after it
  abbrev pub was : UserView
  was = user_view_of stream (record { view = view_of old; failed = failed })

  abbrev pub now : UserView
  now = user_view_of stream (record { view = view_of new; failed = fails })

  -- ---- what a call leaves

  follows : (AreTurns : Endpoint → List Transition → Type 0) (moved : MovesByCall stream AreTurns (view_of old) (view_of new)) → fails ≡ failed → Follows was moved.turns now
  follows AreTurns moved same =
      record {
        runs = runs;
        goes_on = same ∙ runs;
        endpoint = moved.moves.endpoint;
        events = moved.moves.events;
        words = moved.moves.words;
        pairs = moved.moves.pairs;
        drawn = moved.moves.drawn;
      }

  ran_out : (AreTurns : Endpoint → List Transition → Type 0) → CutsCall AreTurns (view_of old) (view_of new) → fails ≡ true → RanOutOfMemory (AreTurns was.endpoint) was now
  ran_out AreTurns cut stops = record { runs = runs; fails = stops; turns = cut.turns; are = cut.are; events = cut.adds }

  -- the same view, of a socket that has failed
  unless_failed : (view : View R) → fails ≡ true → user_view_of stream (record { view = view; failed = fails }) ≡ user_view_of stream (record { view = view; failed = true })
  unless_failed view stops = ap (λ (f : Bool). user_view_of stream (record { view = view; failed = f })) stops

  drew : DrewAlone (view_of old) (view_of new) → fails ≡ true → FailsWhole was now
  drew same stops =
      let n : View R = view_of new in
      let drawn : View R = record (call_start (view_of old)) { words = n.words; pairs = n.pairs; generator = n.generator } in
      record { runs = runs; only = ap (λ (v : View R). user_view_of stream (record { view = v; failed = fails })) same ∙ unless_failed drawn stops }

  began : BeganAlone (view_of old) (view_of new) → fails ≡ true → FailsWhole was now
  began same stops =
      let start : View R = call_start (view_of old) in
      record {
        runs = runs;
        only = subst (λ (v : View R). user_view_of stream (record { view = v; failed = fails })
            ≡ record was { words = v.words; pairs = v.pairs; generator = stream v.generator; failed = true }) (sym same) (unless_failed start stops);
      }

  -- ---- a call by its result

  answered : {A E : Type 0} (IsAnswer : A → Type 0) (AreTurns : Endpoint → List Transition → Type 0) (Leaves : View R → View R → Type 0) (LeavesUser : UserView → UserView → Type 0)
      (result : Result A E) (answer : Result A SocketFault) → (Leaves (view_of old) (view_of new) → fails ≡ true → LeavesUser was now)
      → MakesAnsweredCall stream IsAnswer AreTurns Leaves old result new → SettlesCall failed result answer fails → Calls IsAnswer (AreTurns was.endpoint) LeavesUser was answer now
  answered IsAnswer AreTurns Leaves LeavesUser (Ok value) answer leaves worked settled =
      subst (λ a. Calls IsAnswer (AreTurns was.endpoint) LeavesUser was a now) (sym settled.0)
      (record { answers = worked.0; turns = worked.1.turns; are = worked.1.are; follows = follows AreTurns worked.1 settled.1 })
  answered IsAnswer AreTurns Leaves LeavesUser (Err error) answer leaves cut settled =
      subst (λ a. Calls IsAnswer (AreTurns was.endpoint) LeavesUser was a now) (sym settled.0) (leaves cut settled.1)

  -- ---- the calls

  pub user_calls : {A E : Type 0} (call : CallContent) (IsAnswer : A → Type 0) (result : Result A E) (answer : Result A SocketFault)
      → MakesCallOfUser stream call IsAnswer old result new → SettlesCall failed result answer fails → UserCalls call IsAnswer was answer now
  user_calls call IsAnswer result answer worked settled =
      answered IsAnswer (TurnsOf call) (CutsCall (TurnsOf call)) (RanOutOfMemory (TurnsOf call was.endpoint)) result answer (ran_out (TurnsOf call)) worked settled

  pub handles_input : {E : Type 0} (bytes : List ℕ) (result : Result (Unit {0}) E) (answer : Result (Unit {0}) SocketFault)
      → MakesAnsweredCall stream NoAnswer (InputTurns bytes) (CutsCall (FirstOfInput bytes)) old result new → SettlesCall failed result answer fails → HandlesInput was bytes answer now
  handles_input bytes result answer worked settled =
      answered NoAnswer (InputTurns bytes) (CutsCall (FirstOfInput bytes)) (RanOutOfMemory (FirstOfInput bytes was.endpoint)) result answer (ran_out (FirstOfInput bytes)) worked settled

  pub connects : {E : Type 0} (result : Result (Unit {0}) E) (answer : Result (Unit {0}) SocketFault)
      → MakesAnsweredCall stream NoAnswer (TurnsOf connect_call) DrewAlone old result new → SettlesCall failed result answer fails → Connects was answer now
  connects result answer worked settled = answered NoAnswer (TurnsOf connect_call) DrewAlone FailsWhole result answer drew worked settled

  pub hands_over : {E : Type 0} (result : Result (Result SocketHandoverState HandoverError) E) (answer : Result (Result SocketHandoverState HandoverError) SocketFault)
      → MakesAnsweredCall stream (IsHandoverAnswer was.endpoint) (TurnsOf hand_over_call) BeganAlone old result new → SettlesCall failed result answer fails → HandsOver was answer now
  hands_over result answer worked settled = answered (IsHandoverAnswer was.endpoint) (TurnsOf hand_over_call) BeganAlone FailsWhole result answer began worked settled

  pub restores : {E : Type 0} (state : Snapshot) (result : Result (Result (Unit {0}) RestoreError) E) (answer : Result (Result (Unit {0}) RestoreError) SocketFault)
      → MakesAnsweredCall stream (IsRestoreAnswer was.endpoint.core) (RestoringTurns state) (CutsCall (FirstOfRestore state)) old result new → SettlesCall failed result answer fails → RestoresSocket state was answer now
  restores state result answer worked settled =
      answered (IsRestoreAnswer was.endpoint.core) (RestoringTurns state) (CutsCall (FirstOfRestore state)) (RanOutOfMemory (FirstOfRestore state was.endpoint)) result answer (ran_out (FirstOfRestore state)) worked settled

  pub sets : {E : Type 0} (setting : Setting) (result : Result (Unit {0}) E) (answer : Result (Unit {0}) SocketFault)
      → ChangesSetting setting old result new → SettlesCall failed result answer fails → Sets setting was answer now
  sets setting (Ok done) answer is settled =
      let set : View R = set_view setting (view_of old) in
      subst (λ a. Sets setting was a now) (sym settled.0)
      (record {
        runs = runs;
        only = ap (λ (v : View R). user_view_of stream (record { view = v; failed = fails })) is
            ∙ ap (λ (f : Bool). user_view_of stream (record { view = set; failed = f })) settled.1;
      })
  sets setting (Err error) answer is settled = subst (λ a. Sets setting was a now) (sym settled.0) (began is settled.1)

-- A message that is taken is a turn of the socket's view.
use Rattle.std.proofs.Common.{◌≡◌, Option, None, Some, List, [], ◌∷◌, ◌++◌, length, map, refl, sym, ap, subst, ◌∙◌, arith}
use Rattle.std.specs.Prelude.{option_to_list, drop}
use Rattle.dcsctp_core.specs.types.declared.message.Message.{Message}
use Rattle.dcsctp_core.specs.types.queues.Messages.{MessageContent, message_content}
use Rattle.dcsctp_core.specs.spec.queues.Transfer.{Transfer}
use Rattle.dcsctp_core.specs.spec.endpoint.Endpoint.{Endpoint}
use Rattle.dcsctp_core.specs.spec.endpoint.Outcome.{Outcome, still}
use Rattle.dcsctp_core.specs.spec.endpoint.DataOutcomes.{with_transfer, TakesFirstReady, TakeLeft, TakeTurn, ready_or_left}
use Rattle.dcsctp_core.specs.api.Messages.{IsFirstMessage}
use Rattle.dcsctp_core.specs.declared.context.Context.{Context}
use Rattle.dcsctp_core.specs.declared.state.State.{State}
use Rattle.dcsctp_core.specs.View.{View, transfer_of, endpoint_of, view_of}
use Rattle.dcsctp_core.specs.Flushing.{state_with}
use Rattle.dcsctp_core.specs.Below.{TakesFirst, TakesReady}
use Rattle.dcsctp_core.proofs.BelowLemmas.{below_view}
use Rattle.dcsctp_core_messages.specs.Taking.{TakesNextOf}

-- what a message that is taken, or none, does to what lies below
record Takes (e : Endpoint) (transfer after : Transfer) (result : Option Message) : Type 0 where
  first : IsFirstMessage transfer.reassembly.incoming.ready result
  outcome : Outcome
  turn : TakesFirstReady e transfer transfer.reassembly.incoming.ready outcome
  after_is : outcome.after ≡ with_transfer e after

takes_where : (e : Endpoint) (transfer after : Transfer) (result : Option Message) → e ≡ with_transfer e transfer → TakesFirst e.options e.moment result transfer after → Takes e transfer after result
takes_where e transfer after None same h =
    record {
      first = h.0;
      outcome = still e;
      turn = subst (λ (messages : List MessageContent). TakesFirstReady e transfer messages (still e)) (sym h.0) refl;
      after_is = same ∙ ap (with_transfer e) (sym h.1);
    }
takes_where e transfer after (Some message) same h =
    record {
      first = (after.reassembly.incoming.ready, h.0);
      outcome = still (with_transfer e after);
      turn = subst (λ (messages : List MessageContent). TakesFirstReady e transfer messages (still (with_transfer e after))) (sym h.0) (ap (λ (t : Transfer). still (with_transfer e t)) h.1);
      after_is = refl;
    }

some_taken : {R : Type 0} (old : Context R) (state : State) (result : Option Message) (transfer after : Transfer) → transfer_of old.state ≡ Some transfer → state ≡ state_with old.state after
    → Takes (endpoint_of old) transfer after result → TakesNextOf (view_of old) result (view_of (record old { state = state }))
some_taken {R = R} old state result transfer after holds same taken =
    let e : Endpoint = endpoint_of old in
    record {
      first = subst (λ (t : Option Transfer). IsFirstMessage (ready_or_left e.left t) result) (sym holds) taken.first;
      outcome = taken.outcome;
      turn = subst (λ (t : Option Transfer). TakeTurn e t taken.outcome) (sym holds) taken.turn;
      is = below_view old state transfer after holds same ∙ ap (λ (x : Endpoint). let v : View R = record (view_of old) { endpoint = x } in v) (sym taken.after_is);
    }

below_is : (e : Endpoint) (transfer : Transfer) → e.queues.transfer ≡ Some transfer → e ≡ with_transfer e transfer
below_is e transfer holds = ap (λ (t : Option Transfer). let x : Endpoint = record e { queues = record e.queues { transfer = t } } in x) holds

pub taken_next : {R : Type 0} (old : Context R) (state : State) (result : Option Message) (transfer : Transfer) → transfer_of old.state ≡ Some transfer
    → TakesReady old.options old.moment transfer old.state result state → TakesNextOf (view_of old) result (view_of (record old { state = state }))
taken_next old state result transfer holds h =
    some_taken old state result transfer h.0 holds h.1 (takes_where (endpoint_of old) transfer h.0 result (below_is (endpoint_of old) transfer holds) h.2)

-- ---- without an association

-- what a message that is taken, or none, does to those that the last one left
record TakesOfLeft (e : Endpoint) (left : List MessageContent) (result : Option Message) : Type 0 where
  first : IsFirstMessage e.left result
  outcome : Outcome
  turn : TakeLeft e e.left outcome
  after_is : outcome.after ≡ record e { left = left }

none_but_rest : (messages : List Message) → messages ≡ drop 1 messages → messages ≡ []
none_but_rest [] is = refl
none_but_rest (message ∷ messages) is = let longer : length (message ∷ messages) ≡ length messages = ap length is in absurd (omega (arith, longer))

takes_left : (e : Endpoint) (result : Option Message) (old new : List Message) → e.left ≡ map message_content old → old ≡ option_to_list result ++ new → new ≡ drop 1 old
    → TakesOfLeft e (map message_content new) result
takes_left e None old new is items rest =
    let none : e.left ≡ [] = is ∙ ap (map message_content) (none_but_rest old (items ∙ rest)) in
    record {
      first = none;
      outcome = still e;
      turn = subst (λ (messages : List MessageContent). TakeLeft e messages (still e)) (sym none) refl;
      after_is = ap (λ (messages : List MessageContent). let x : Endpoint = record e { left = messages } in x) (is ∙ ap (map message_content) items);
    }
takes_left e (Some message) old new is items rest =
    let some : e.left ≡ message_content message ∷ map message_content new = is ∙ ap (map message_content) items in
    let o : Outcome = still (record e { left = map message_content new }) in
    record {
      first = (map message_content new, some);
      outcome = o;
      turn = subst (λ (messages : List MessageContent). TakeLeft e messages o) (sym some) refl;
      after_is = refl;
    }

pub left_next : {R : Type 0} (old : Context R) (result : Option Message) (new : List Message) → transfer_of old.state ≡ None
    → old.left.items ≡ option_to_list result ++ new → new ≡ drop 1 old.left.items
    → TakesNextOf (view_of old) result (record (view_of old) { endpoint = record (endpoint_of old) { left = map message_content new } })
left_next {R = R} old result new holds items rest =
    let e : Endpoint = endpoint_of old in
    let taken : TakesOfLeft e (map message_content new) result = takes_left e result old.left.items new refl items rest in
    record {
      first = subst (λ (t : Option Transfer). IsFirstMessage (ready_or_left e.left t) result) (sym holds) taken.first;
      outcome = taken.outcome;
      turn = subst (λ (t : Option Transfer). TakeTurn e t taken.outcome) (sym holds) taken.turn;
      is = ap (λ (x : Endpoint). let v : View R = record (view_of old) { endpoint = x } in v) (sym taken.after_is);
    }

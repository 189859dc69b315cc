-- Messages that are queued or refused, one after another.
use Rattle.std.proofs.Common.{◌≡◌, ◌||◌, ◌+◌, ℕ, Bool, true, false, Option, None, Some, List, [], ◌∷◌, ◌++◌, refl, sym, ap, subst, ◌∙◌, append_assoc}
use Rattle.std.specs.Prelude.{is_none}
use Rattle.std.proofs.lemmas.List.{append-nil}
use Rattle.rand_core.specs.Stream.{Stream}
use Rattle.dcsctp_core.specs.spec.endpoint.Event.{Event}
use Rattle.dcsctp_core.specs.types.Settings.{ports_of}
use Rattle.dcsctp_core.specs.spec.endpoint.Endpoint.{Endpoint}
use Rattle.dcsctp_core.specs.spec.endpoint.Outcome.{Outcome, then_outcome}
use Rattle.dcsctp_core.specs.spec.endpoint.MessageOutcomes.{MessageRefusal, sending_refusal, Sending, RefusedMessage, refused_message_at_place, refused_from, queue_unless_refused, queue_one, queue_all, takes_any}
use Rattle.dcsctp_core.specs.api.declared.errors.SendError.{SendError}
use Rattle.dcsctp_core.specs.api.Messages.{refused_messages}
use Rattle.dcsctp_core.specs.View.{View, Moves, CutsTurn}
use Rattle.dcsctp_core.proofs.Composing.{Adds, cut_behind, cut_after, cut_longer}
use Rattle.dcsctp_core.proofs.FlushLemmas.{moves_next}
use Rattle.dcsctp_core.proofs.Moving.{moves_still}
use Rattle.dcsctp_core_messages.specs.declared.queueing.QueuedAll.{QueuedAll}
use Rattle.dcsctp_core_messages.specs.Sending.{RecordsAnswer, AreQueued}

-- ---- the options stay

by_options : (e : Endpoint) (message : Sending) (refusal : Option MessageRefusal) → (queue_unless_refused e message refusal).after.options ≡ e.options
by_options e message None = refl
by_options e message (Some refusal) = refl

pub one_options : (e : Endpoint) (message : Sending) → (queue_one e message).after.options ≡ e.options
one_options e message = by_options e message (sending_refusal e message)

pub all_options : (e : Endpoint) (messages : List Sending) → (queue_all e messages).after.options ≡ e.options
all_options e [] = refl
all_options e (message ∷ messages) = all_options (queue_one e message).after messages ∙ one_options e message

-- ---- a turn that was cut, after another one

pub cut_next : {R : Type 0} (stream : R → Stream) (a b : View R) (o p : Outcome) (events : List (Event (List ℕ))) → o.after.options ≡ a.endpoint.options
    → Moves stream a o b → CutsTurn b p events → CutsTurn a (then_outcome o p) events
cut_next stream a b o p events same m cut =
    let added : Adds a o.events b = record { ports = ap (λ (e : Endpoint). ports_of e.options) m.endpoint ∙ ap ports_of same; events = m.events } in
    let all = cut_behind a b [] o.events p events added cut in
    record { count = all.count; added = all.added }

-- ---- one message of some

-- an allocation failed after it
pub one_stopped : {R : Type 0} (stream : R → Stream) (message : Sending) (here next : View R) → Moves stream here (queue_one here.endpoint message) next → CutsTurn here (queue_one here.endpoint message) next.events
one_stopped stream message here next m =
    let one : Outcome = queue_one here.endpoint message in
    cut_after here one next.events one.events [] (sym (append-nil one.events)) m.events

-- ---- what is left of some messages

-- What is left of these messages completes the whole, whatever becomes of it.
pub record GoesOn {R : Type 0} (stream : R → Stream) (all : List Sending) (start : View R) (place : ℕ) (queued : QueuedAll) (left : List Sending) (here : View R) : Type 0 where
  pub refused : refused_messages queued.refused.items ++ refused_from place here.endpoint left ≡ refused_from 0 start.endpoint all
  pub taken : (queued.has_taken || takes_any here.endpoint left) ≡ takes_any start.endpoint all
  pub moves : (new : View R) → Moves stream here (queue_all here.endpoint left) new → Moves stream start (queue_all start.endpoint all) new
  pub cuts : (events : List (Event (List ℕ))) → CutsTurn here (queue_all here.endpoint left) events → CutsTurn start (queue_all start.endpoint all) events

pub goes_from_start : {R : Type 0} (stream : R → Stream) (all : List Sending) (start : View R) (queued : QueuedAll) → queued.refused.items ≡ [] → queued.has_taken ≡ false → GoesOn stream all start 0 queued all start
goes_from_start stream all start queued none not_taken =
    record {
      refused = ap (λ (errors : List (ℕ × SendError)). refused_messages errors ++ refused_from 0 start.endpoint all) none;
      taken = ap (λ (b : Bool). b || takes_any start.endpoint all) not_taken;
      moves = λ new m. m;
      cuts = λ events cut. cut;
    }

module _ {R : Type 0} (stream : R → Stream) (all : List Sending) (start : View R) (place : ℕ) (queued : QueuedAll) (message : Sending) (left : List Sending) (here : View R)
    (g : GoesOn stream all start place queued (message ∷ left) here) where
  -- after a message
  next_moves : (next : View R) → Moves stream here (queue_one here.endpoint message) next
      → (new : View R) → Moves stream next (queue_all next.endpoint left) new → Moves stream start (queue_all start.endpoint all) new
  next_moves next m new n =
      let one : Outcome = queue_one here.endpoint message in
      g.moves new (moves_next stream here next new one (queue_all one.after left) (one_options here.endpoint message) m
      (subst (λ (e : Endpoint). Moves stream next (queue_all e left) new) m.endpoint n))

  next_cuts : (next : View R) → Moves stream here (queue_one here.endpoint message) next
      → (events : List (Event (List ℕ))) → CutsTurn next (queue_all next.endpoint left) events → CutsTurn start (queue_all start.endpoint all) events
  next_cuts next m events cut =
      let one : Outcome = queue_one here.endpoint message in
      g.cuts events (cut_next stream here next one (queue_all one.after left) events (one_options here.endpoint message) m
      (subst (λ (e : Endpoint). CutsTurn next (queue_all e left) events) m.endpoint cut))

  or_true : (b c : Bool) → (b || (true || c)) ≡ true
  or_true true c = refl
  or_true false c = refl

  goes_where : (refusal : Option MessageRefusal) → refusal ≡ sending_refusal here.endpoint message → (queued_then : QueuedAll) (next : View R)
      → RecordsAnswer place refusal queued queued_then → Moves stream here (queue_one here.endpoint message) next → GoesOn stream all start (place + 1) queued_then left next
  goes_where None none queued_then next noted m =
      let after : Endpoint = (queue_one here.endpoint message).after in
      record {
        refused =
            ap (λ (errors : List (ℕ × SendError)). refused_messages errors ++ refused_from (place + 1) next.endpoint left) noted.0
            ∙ ap (λ (e : Endpoint). refused_messages queued.refused.items ++ refused_from (place + 1) e left) m.endpoint
            ∙ ap (λ (r : Option MessageRefusal). refused_messages queued.refused.items ++ (refused_message_at_place place r ++ refused_from (place + 1) after left)) none
            ∙ g.refused;
        taken =
            ap (λ (b : Bool). b || takes_any next.endpoint left) noted.1
            ∙ sym (or_true queued.has_taken (takes_any after left))
            ∙ ap (λ (r : Option MessageRefusal). queued.has_taken || (is_none r || takes_any after left)) none
            ∙ g.taken;
        moves = next_moves next m;
        cuts = next_cuts next m;
      }
  goes_where (Some refusal) some queued_then next noted m =
      let after : Endpoint = (queue_one here.endpoint message).after in
      let named : RefusedMessage = record { place = place; refusal = refusal } in
      record {
        refused =
            ap (λ (names : List RefusedMessage). names ++ refused_from (place + 1) next.endpoint left) noted.0
            ∙ append_assoc (refused_messages queued.refused.items) (named ∷ []) (refused_from (place + 1) next.endpoint left)
            ∙ ap (λ (e : Endpoint). refused_messages queued.refused.items ++ (named ∷ refused_from (place + 1) e left)) m.endpoint
            ∙ ap (λ (r : Option MessageRefusal). refused_messages queued.refused.items ++ (refused_message_at_place place r ++ refused_from (place + 1) after left)) some
            ∙ g.refused;
        taken =
            ap (λ (b : Bool). b || takes_any next.endpoint left) noted.1
            ∙ ap (λ (e : Endpoint). queued.has_taken || takes_any e left) m.endpoint
            ∙ ap (λ (r : Option MessageRefusal). queued.has_taken || (is_none r || takes_any after left)) some
            ∙ g.taken;
        moves = next_moves next m;
        cuts = next_cuts next m;
      }

  pub goes_next : (queued_then : QueuedAll) (next : View R) → RecordsAnswer place (sending_refusal here.endpoint message) queued queued_then
      → Moves stream here (queue_one here.endpoint message) next → GoesOn stream all start (place + 1) queued_then left next
  goes_next queued_then next noted m = goes_where (sending_refusal here.endpoint message) refl queued_then next noted m

  -- an allocation failed within the message
  pub goes_cut : (events : List (Event (List ℕ))) → CutsTurn here (queue_one here.endpoint message) events → CutsTurn start (queue_all start.endpoint all) events
  goes_cut events cut =
      let one : Outcome = queue_one here.endpoint message in
      g.cuts events (cut_longer here one (queue_all here.endpoint (message ∷ left)) (queue_all one.after left).events events refl cut)

or_false : (b : Bool) → b ≡ (b || false)
or_false true = refl
or_false false = refl

-- none is left
pub goes_done : {R : Type 0} (stream : R → Stream) (all : List Sending) (start : View R) (place : ℕ) (queued : QueuedAll) (left : List Sending) (here : View R)
    → left ≡ [] → GoesOn stream all start place queued left here → AreQueued stream all start queued here
goes_done stream all start place queued left here none h =
    let g : GoesOn stream all start place queued [] here = subst (λ (l : List Sending). GoesOn stream all start place queued l here) none h in
    record {
      refused = sym (append-nil (refused_messages queued.refused.items)) ∙ g.refused;
      taken = or_false queued.has_taken ∙ g.taken;
      moves = g.moves here (moves_still stream here);
    }

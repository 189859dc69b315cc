-- Messages that are queued, and then a flush where one was taken.
use Rattle.std.proofs.Common.{◌≡◌, ℕ, Bool, true, false, Option, None, Some, Result, Ok, Err, List, [], ◌∷◌, refl, sym, ap, subst}
use Rattle.rand_core.specs.Stream.{Stream}
use Rattle.dcsctp_core.specs.types.declared.association.Held.{Held}
use Rattle.dcsctp_core.specs.spec.endpoint.Event.{Event}
use Rattle.dcsctp_core.specs.spec.endpoint.Endpoint.{Endpoint, held_by_core}
use Rattle.dcsctp_core.specs.spec.endpoint.Outcome.{Outcome, still, then_outcome}
use Rattle.dcsctp_core.specs.spec.endpoint.FlushOutcomes.{Answer, draft_to, first_ask, packets_allowed}
use Rattle.dcsctp_core.specs.spec.endpoint.DataOutcomes.{AnswersTo, FlushTurn}
use Rattle.dcsctp_core.specs.spec.endpoint.MessageOutcomes.{RefusedMessage, refused_from, Sending, queue_one, queue_all, takes_any, SendAnswers, flush_if_queued, SendTurn}
use Rattle.dcsctp_core.proofs.spec_lemmas.AnswerLemmas.{any_answers}
use Rattle.dcsctp_core.specs.api.declared.errors.BatchSendError.{BatchSendError}
use Rattle.dcsctp_core.specs.api.Messages.{refused_messages, IsBatchAnswer}
use Rattle.dcsctp_core.specs.declared.context.Context.{Context}
use Rattle.dcsctp_core.specs.View.{View, view_of, Moves, CutsTurn}
use Rattle.dcsctp_core.specs.Handling.{TakesPossibleTurn, CutsSomeTurn, SendsQueued}
use Rattle.dcsctp_core.proofs.Composing.{cut_longer}
use Rattle.dcsctp_core.proofs.FlushLemmas.{moves_next}
use Rattle.dcsctp_core.proofs.Moving.{moves_still}
use Rattle.dcsctp_core_messages.specs.declared.queueing.QueuedAll.{QueuedAll}
use Rattle.dcsctp_core_messages.specs.Sending.{SendsMessages, AreQueued, FlushesIfAsked}
use Rattle.dcsctp_core_messages.proofs.QueueingLemmas.{all_options, cut_next}

-- ---- what may follow the messages

-- what follows them, as it may be
abbrev Follows : Bool → Endpoint → Outcome → Type 0
Follows taken e o = (answers : List Answer) × SendAnswers taken e answers × (o ≡ flush_if_queued taken e answers)

sends_with : (e : Endpoint) (messages : List Sending) (o : Outcome) → Follows (takes_any e messages) (queue_all e messages).after o → SendTurn e messages (then_outcome (queue_all e messages) o)
sends_with e messages o h = (h.0, h.1, ap (then_outcome (queue_all e messages)) h.2)

follows_flush : (taken : Bool) (e : Endpoint) (o : Outcome) → taken ≡ true → FlushTurn e o → Follows taken e o
follows_flush taken e o is h = subst (λ (b : Bool). Follows b e o) (sym is) (h.0, h.1, h.2)

follows_none : (taken : Bool) (e : Endpoint) → taken ≡ false → Follows taken e (still e)
follows_none taken e is = subst (λ (b : Bool). Follows b e (still e)) (sym is) ([], refl, refl)

pub any_to : (e : Endpoint) (peer : Option Held) → (answers : List Answer) × AnswersTo e peer answers
any_to e None = ([], refl)
any_to e (Some held) = any_answers first_ask (packets_allowed e.options.max_burst e.core) e (draft_to held)

any_follows : (taken : Bool) (e : Endpoint) → (o : Outcome) × Follows taken e o
any_follows false e = (still e, ([], refl, refl))
any_follows true e =
    let any = any_to e (held_by_core e.core) in
    (flush_if_queued true e any.0, (any.0, any.1, refl))

-- ---- the turn

pub sent_with_flush : {R : Type 0} (stream : R → Stream) (messages : List Sending) (a b c : View R) → takes_any a.endpoint messages ≡ true
    → Moves stream a (queue_all a.endpoint messages) b → TakesPossibleTurn stream SendsQueued b c → TakesPossibleTurn stream (SendsMessages messages) a c
sent_with_flush stream messages a b c taken m flush =
    let queued : Outcome = queue_all a.endpoint messages in
    record {
      outcome = then_outcome queued flush.outcome;
      turn = sends_with a.endpoint messages flush.outcome
          (follows_flush (takes_any a.endpoint messages) queued.after flush.outcome taken (subst (λ (e : Endpoint). FlushTurn e flush.outcome) m.endpoint flush.turn));
      moves = moves_next stream a b c queued flush.outcome (all_options a.endpoint messages) m flush.moves;
    }

pub sent_without : {R : Type 0} (stream : R → Stream) (messages : List Sending) (a b : View R) → takes_any a.endpoint messages ≡ false
    → Moves stream a (queue_all a.endpoint messages) b → TakesPossibleTurn stream (SendsMessages messages) a b
sent_without stream messages a b taken m =
    let queued : Outcome = queue_all a.endpoint messages in
    record {
      outcome = then_outcome queued (still queued.after);
      turn = sends_with a.endpoint messages (still queued.after) (follows_none (takes_any a.endpoint messages) queued.after taken);
      moves = moves_next stream a b b queued (still queued.after) (all_options a.endpoint messages) m
          (subst (λ (e : Endpoint). Moves stream b (still e) b) m.endpoint (moves_still stream b));
    }

-- an allocation failed while they were queued
pub send_cut : {R : Type 0} (messages : List Sending) (a : View R) (events : List (Event (List ℕ))) → CutsTurn a (queue_all a.endpoint messages) events → CutsSomeTurn (SendsMessages messages) a events
send_cut messages a events cut =
    let queued : Outcome = queue_all a.endpoint messages in
    let any = any_follows (takes_any a.endpoint messages) queued.after in
    record {
      outcome = then_outcome queued any.0;
      turn = sends_with a.endpoint messages any.0 any.1;
      cut = cut_longer a queued (then_outcome queued any.0) any.0.events events refl cut;
    }

-- or in the flush
pub send_cut_later : {R : Type 0} (stream : R → Stream) (messages : List Sending) (a b : View R) (events : List (Event (List ℕ))) → takes_any a.endpoint messages ≡ true
    → Moves stream a (queue_all a.endpoint messages) b → CutsSomeTurn SendsQueued b events → CutsSomeTurn (SendsMessages messages) a events
send_cut_later stream messages a b events taken m flush =
    let queued : Outcome = queue_all a.endpoint messages in
    record {
      outcome = then_outcome queued flush.outcome;
      turn = sends_with a.endpoint messages flush.outcome
          (follows_flush (takes_any a.endpoint messages) queued.after flush.outcome taken (subst (λ (e : Endpoint). FlushTurn e flush.outcome) m.endpoint flush.turn));
      cut = cut_next stream a b queued flush.outcome events (all_options a.endpoint messages) m flush.cut;
    }

-- ---- one message

pub one_cut : {R : Type 0} (message : Sending) (a : View R) (events : List (Event (List ℕ))) → CutsTurn a (queue_one a.endpoint message) events → CutsSomeTurn (SendsMessages (message ∷ [])) a events
one_cut message a events cut =
    let one : Outcome = queue_one a.endpoint message in
    send_cut (message ∷ []) a events (cut_longer a one (queue_all a.endpoint (message ∷ [])) [] events refl cut)

-- ---- several

sent_where : {R : Type 0} (E : Type 0) (stream : R → Stream) (messages : List Sending) (old : View R) (mid new : Context R) (taken : Bool) → takes_any old.endpoint messages ≡ taken
    → Moves stream old (queue_all old.endpoint messages) (view_of mid) → FlushesIfAsked {E = E} stream taken mid (Ok tt) new → TakesPossibleTurn stream (SendsMessages messages) old (view_of new)
sent_where E stream messages old mid new true is m flushed = sent_with_flush stream messages old (view_of mid) (view_of new) is m flushed
sent_where {R = R} E stream messages old mid new false is m flushed =
    sent_without stream messages old (view_of new) is (subst (λ (v : View R). Moves stream old (queue_all old.endpoint messages) v) (sym flushed) m)

pub all_sent : {R : Type 0} (E : Type 0) (stream : R → Stream) (messages : List Sending) (old : View R) (queued : QueuedAll) (mid new : Context R) → AreQueued stream messages old queued (view_of mid)
    → FlushesIfAsked {E = E} stream queued.has_taken mid (Ok tt) new → TakesPossibleTurn stream (SendsMessages messages) old (view_of new)
all_sent E stream messages old queued mid new are flushed = sent_where E stream messages old mid new queued.has_taken (sym are.taken) are.moves flushed

cut_where : {R E : Type 0} (stream : R → Stream) (messages : List Sending) (old : View R) (mid new : Context R) (error : E) (taken : Bool) → takes_any old.endpoint messages ≡ taken
    → Moves stream old (queue_all old.endpoint messages) (view_of mid) → FlushesIfAsked {E = E} stream taken mid (Err error) new → CutsSomeTurn (SendsMessages messages) old (view_of new).events
cut_where stream messages old mid new error true is m flushed = send_cut_later stream messages old (view_of mid) (view_of new).events is m flushed
cut_where stream messages old mid new error false is m flushed = absurd flushed

pub all_cut : {R E : Type 0} (stream : R → Stream) (messages : List Sending) (old : View R) (queued : QueuedAll) (mid new : Context R) (error : E) → AreQueued stream messages old queued (view_of mid)
    → FlushesIfAsked {E = E} stream queued.has_taken mid (Err error) new → CutsSomeTurn (SendsMessages messages) old (view_of new).events
all_cut {E = E} stream messages old queued mid new error are flushed = cut_where {E = E} stream messages old mid new error queued.has_taken (sym are.taken) are.moves flushed

-- the errors that are answered are those of the messages that were refused
pub batch_is : {R : Type 0} (stream : R → Stream) (messages : List Sending) (old : View R) (queued : QueuedAll) (mid : View R) (answer : Result (Unit {0}) BatchSendError) → AreQueued stream messages old queued mid
    → IsBatchAnswer (refused_messages queued.refused.items) answer → IsBatchAnswer (refused_from 0 old.endpoint messages) answer
batch_is stream messages old queued mid answer are h = subst (λ (names : List RefusedMessage). IsBatchAnswer names answer) are.refused h

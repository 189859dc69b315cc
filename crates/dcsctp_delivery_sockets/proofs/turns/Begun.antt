-- What a flush leaves of our requests to reset streams (RFC 6525, section 5.1.2).
use Rattle.std.proofs.Common.{◌≡◌, ℕ, ◌+◌, ◌%◌, ◌^◌, suc, Bool, true, false, Option, None, Some, List, [], ◌∷◌, ◌++◌, length, length-append, map, refl, sym, ◌∙◌, ap, subst, append_assoc, arith}
use Rattle.std.specs.Prelude.{take}
use Rattle.dcsctp_spec_lemmas.specs.types.declared.association.Held.{Held}
use Rattle.dcsctp_spec_lemmas.specs.spec.Reconfiguration.{RequestedReset}
use Rattle.dcsctp_spec_lemmas.specs.spec.endpoint.Endpoint.{Endpoint, Core, closed, cookie_wait, cookie_echoed, open_in, OutstandingRequest, held_by_core}
use Rattle.dcsctp_spec_lemmas.specs.spec.Packet.{Content, Emission}
use Rattle.dcsctp_spec_lemmas.specs.spec.endpoint.Event.{Event}
use Rattle.dcsctp_spec_lemmas.specs.spec.queues.OwnResets.{ready_streams}
use Rattle.dcsctp_spec_lemmas.specs.spec.queues.Retransmission.{RetransmissionState}
use Rattle.dcsctp_spec_lemmas.specs.spec.queues.SendQueue.{SendQueueState}
use Rattle.dcsctp_spec_lemmas.specs.spec.queues.Transfer.{Transfer, is_idle}
use Rattle.dcsctp_spec_lemmas.specs.spec.association.FlushChanges.{held_asking}
use Rattle.dcsctp_spec_lemmas.specs.spec.endpoint.BegunResets.{BegunReset, streams_within, last_assigned_tsn, stream_field, begun_if_ready, begun_if_connected, core_asking, after_begun}
use Rattle.dcsctp_spec_lemmas.specs.spec.endpoint.FlushOutcomes.{may_be_asked, filling_event, Answer, answer_contents, filled_draft, goes_out, asked_outcome, next_draft, flush_of, Ask, first_ask, later_ask, begun_by_ask, GivesUnlessIdle, IsAnswerOfQueues, IsFlushAnswer, AreFlushAnswers, at_limit, at_empty, after_packet, FlushAnswers, packets_allowed}
use Rattle.dcsctp_spec_lemmas.specs.spec.endpoint.ReconfigurationOutcomes.{reset_again}
use Rattle.dcsctp_spec_lemmas.proofs.FlushKeeps.{later_begins}
use Rattle.dcsctp_delivery_directions.specs.sending.Flushes.{begun_reset_of}
use Rattle.dcsctp_delivery_directions.specs.directions.Directions.{Asking, asking_with}
use Rattle.dcsctp_delivery_sockets.specs.turns.Asking.{Own, own_with, own_of_core, own_of, OutIs, IsAsking, AsksFit, AskingGrows}

-- ---- more requests

none_more : (later more : List BegunReset) → later ++ more ≡ [] → (later ≡ []) × (more ≡ [])
none_more [] more is = (refl, is)
none_more (begun ∷ later) more is = absurd (cc)

-- The newest of all was begun in the second part, or in the first part with none after it.
anew_then : (old between new : Asking) → (first : AskingGrows old between) → (second : AskingGrows between new) → (later : List BegunReset) → second.more ≡ later → (newest : BegunReset) (rest : List BegunReset)
    → later ++ first.more ≡ newest ∷ rest → new.is_performed ≡ false
anew_then old between new first second [] none newest rest is = second.same none ∙ first.anew newest rest is
anew_then old between new first second (begun ∷ later) some newest rest is = second.anew begun later some

pub grows_then : (old between new : Asking) → AskingGrows old between → AskingGrows between new → AskingGrows old new
grows_then old between new first second =
    record {
      more = second.more ++ first.more;
      is = second.is ∙ ap (λ (l : List BegunReset). second.more ++ l) first.is ∙ sym (append_assoc second.more first.more old.requests);
      count = (let one = first.count in let two = second.count in omega (arith, one, two, length-append second.more first.more));
      same = λ is. second.same (none_more second.more first.more is).0 ∙ first.same (none_more second.more first.more is).1;
      anew = λ newest rest is. anew_then old between new first second second.more refl newest rest is;
    }

pub grows_not : (asking : Asking) → AskingGrows asking asking
grows_not asking = record { more = []; is = refl; count = omega arith; same = λ is. refl; anew = λ newest rest is. absurd (cc) }

pub grows_by : (begun : Option BegunReset) (asking : Asking) → AskingGrows asking (asking_with begun asking)
grows_by None asking = grows_not asking
grows_by (Some begun) asking = record { more = begun ∷ []; is = refl; count = omega arith; same = λ is. absurd (cc); anew = λ newest rest is. refl }

-- ---- what is asked again

field_twice : (stream : ℕ) → stream_field (stream_field stream) ≡ stream_field stream
field_twice stream = omega arith

fields_twice : (streams : List ℕ) → map stream_field (map stream_field streams) ≡ map stream_field streams
fields_twice [] = refl
fields_twice (stream ∷ streams) =
    ap (λ (n : ℕ). n ∷ map stream_field (map stream_field streams)) (field_twice stream) ∙ ap (λ (l : List ℕ). stream_field stream ∷ l) (fields_twice streams)

assigned_twice : (state : RetransmissionState) → last_assigned_tsn state % 2 ^ 32 ≡ last_assigned_tsn state
assigned_twice state = omega arith

pub next_again : (first n own : ℕ) → own ≡ (first + n) % 2 ^ 32 → (own + 1) % 2 ^ 32 ≡ (first + suc n) % 2 ^ 32
next_again first n own is = omega arith

-- ---- what a flush begins

-- what is kept of a request
abbrev kept_of : BegunReset → Option OutstandingRequest
kept_of begun = Some (record { last_tsn = begun.reset.last_tsn; streams = begun.reset.streams; is_new = begun.reset.is_new; waits_for_retry = false })

-- It has the next number, none was outstanding, and it is asked again as it was begun.
record BeginsFrom (held : Held) (begun : BegunReset) : Type 0 where
  none_out : held.own_outstanding ≡ None
  number : begun.number ≡ held.own_next
  again : reset_again (kept_of begun) ≡ begun.reset

abbrev MayBegin : Option Held → Option BegunReset → Type 0
MayBegin peer None = Unit {0}
MayBegin None (Some begun) = ⊥
MayBegin (Some held) (Some begun) = BeginsFrom held begun

where_may : (follows : Bool) (held : Held) (own : Option ℕ) (last : ℕ) (streams : List ℕ) → held.own_outstanding ≡ own → last % 2 ^ 32 ≡ last → map stream_field streams ≡ streams
    → MayBegin (Some held) (begun_if_ready follows own held.own_next last streams)
where_may follows held (Some number) last streams is low same = tt
where_may follows held None last [] is low same = tt
where_may follows held None last (stream ∷ streams) is low same =
    record {
      none_out = is;
      number = refl;
      again = ap (λ (n : ℕ). record { last_tsn = n; streams = map stream_field (stream ∷ streams); is_new = follows }) low ∙ ap (λ (l : List ℕ). record { last_tsn = last; streams = l; is_new = follows }) same;
    }

in_may : (follows : Bool) (peer : Option Held) (room : ℕ) (state : RetransmissionState) (queue : SendQueueState) → MayBegin peer (begun_if_connected follows peer room (last_assigned_tsn state) queue)
in_may follows None room state queue = tt
in_may follows (Some held) room state queue =
    where_may follows held held.own_outstanding (last_assigned_tsn state) (map stream_field (take (streams_within room) (ready_streams queue))) refl (assigned_twice state)
    (fields_twice (take (streams_within room) (ready_streams queue)))

at_may : (ask : Ask) (follows : Bool) (peer : Option Held) (room : ℕ) (state : RetransmissionState) (queue : SendQueueState) → MayBegin peer (begun_by_ask ask follows peer room (last_assigned_tsn state) queue)
at_may first_ask follows peer room state queue = in_may follows peer room state queue
at_may later_ask follows peer room state queue = tt

-- Who may be asked is the peer.
asked_may : (core : Core) (follows : Bool) (begun : Option BegunReset) → MayBegin (may_be_asked core follows) begun → MayBegin (held_by_core core) begun
asked_may closed follows begun may = may
asked_may (cookie_wait my) follows begun may = may
asked_may (cookie_echoed my held cookie) true None may = tt
asked_may (cookie_echoed my held cookie) true (Some begun) may = absurd may
asked_may (cookie_echoed my held cookie) false begun may = may
asked_may (open_in phase my held) follows begun may = may

where_gives : (b : Bool) (ask : Ask) (e : Endpoint) (draft : Emission) (transfer : Transfer) (answer : Answer) → GivesUnlessIdle b ask e draft transfer answer → MayBegin (held_by_core e.core) answer.begun
where_gives true ask e draft transfer answer gives = subst (λ (a : Answer). MayBegin (held_by_core e.core) a.begun) (sym gives) tt
where_gives false ask e draft transfer answer gives =
    subst (MayBegin (held_by_core e.core)) (sym gives.begins)
    (asked_may e.core e.options.follow_rfc _ (at_may ask e.options.follow_rfc (may_be_asked e.core e.options.follow_rfc) _ gives.gave_up.queue gives.gave_up.waiting))

below_gives : (ask : Ask) (e : Endpoint) (draft : Emission) (transfer : Option Transfer) (answer : Answer) → IsAnswerOfQueues ask e draft answer transfer → MayBegin (held_by_core e.core) answer.begun
below_gives ask e draft None answer gives = subst (λ (a : Answer). MayBegin (held_by_core e.core) a.begun) (sym gives) tt
below_gives ask e draft (Some transfer) answer gives = where_gives (is_idle e.queues.queue transfer) ask e draft transfer answer gives

-- ---- what is kept then

held_fits : (first : ℕ) (held : Held) (request : Option OutstandingRequest) (begun : BegunReset) (asking : Asking) → BeginsFrom held begun → IsAsking first (own_with held request) asking
    → IsAsking first (own_with (held_asking held) (kept_of begun)) (asking_with (Some begun) asking)
held_fits first held request begun asking from is =
    let none : asking.out ≡ 0 = subst (λ (n : Option ℕ). OutIs n (reset_again request) asking) from.none_out is.out in
    record {
      numbers = (from.number ∙ is.next, is.numbers);
      next = next_again first (length asking.requests) held.own_next is.next;
      out = record {
        one = ap (λ (n : ℕ). suc n) none;
        earlier = asking.requests;
        is =
            ap (λ (n : ℕ). record { number = n; reset = begun.reset } ∷ asking.requests) from.number
            ∙ ap (λ (r : RequestedReset). record { number = held.own_next; reset = r } ∷ asking.requests) (sym from.again);
      };
    }

core_fits : (first : ℕ) (core : Core) (request : Option OutstandingRequest) (begun : BegunReset) (asking : Asking) → MayBegin (held_by_core core) (Some begun) → AsksFit first (own_of_core core request) asking
    → AsksFit first (own_of_core (core_asking core) (kept_of begun)) (asking_with (Some begun) asking)
core_fits first closed request begun asking may fit = absurd may
core_fits first (cookie_wait my) request begun asking may fit = absurd may
core_fits first (cookie_echoed my held cookie) request begun asking may fit = held_fits first held request begun asking may fit
core_fits first (open_in phase my held) request begun asking may fit = held_fits first held request begun asking may fit

begun_fits : (first : ℕ) (e : Endpoint) (begun : Option BegunReset) (asking : Asking) → MayBegin (held_by_core e.core) begun → AsksFit first (own_of e) asking
    → AsksFit first (own_of (after_begun begun e)) (asking_with begun asking)
begun_fits first e None asking may fit = fit
begun_fits first e (Some begun) asking may fit = core_fits first e.core e.outstanding begun asking may fit

out_own : (e : Endpoint) (told : List (Event Emission)) (with_checksum : Bool) (tag : ℕ) (contents : List Content) → own_of (goes_out e told with_checksum tag contents).after ≡ own_of e
out_own e told with_checksum tag [] = refl
out_own e told with_checksum tag (content ∷ contents) = refl

asked_own : (ask : Ask) (e : Endpoint) (draft : Emission) (answer : Answer) → IsFlushAnswer ask e draft answer → own_of (asked_outcome e draft answer).after ≡ own_of (after_begun answer.begun e)
asked_own ask e draft answer answered =
    out_own answer.after (map filling_event answer.told) draft.with_checksum draft.packet.tag (filled_draft draft (answer_contents answer)).packet.contents ∙ ap own_of answered.kept

later_asked : (ask : Ask) (e : Endpoint) (draft : Emission) (answer : Answer) → ask ≡ later_ask → IsFlushAnswer ask e draft answer → own_of (asked_outcome e draft answer).after ≡ own_of e
later_asked ask e draft answer is answered =
    asked_own ask e draft answer answered
    ∙ ap (λ (b : Option BegunReset). own_of (after_begun b e)) (later_begins e draft answer (subst (λ (a : Ask). IsFlushAnswer a e draft answer) is answered))

asked_fits : (first : ℕ) (ask : Ask) (e : Endpoint) (draft : Emission) (answer : Answer) (asking : Asking) → IsFlushAnswer ask e draft answer → AsksFit first (own_of e) asking
    → AsksFit first (own_of (asked_outcome e draft answer).after) (asking_with answer.begun asking)
asked_fits first ask e draft answer asking answered fit =
    subst (λ (o : Option Own). AsksFit first o (asking_with answer.begun asking)) (sym (asked_own ask e draft answer answered))
    (begun_fits first e answer.begun asking (below_gives ask e draft e.queues.transfer answer answered.by_transfer) fit)

later_own : (ask : Ask) (n : ℕ) (e : Endpoint) (draft : Emission) (answers : List Answer) → ask ≡ later_ask → AreFlushAnswers ask n e draft answers → own_of (flush_of e draft answers).after ≡ own_of e
later_own _ _ _ _ _ is (at_limit ask e draft) = refl
later_own _ _ _ _ _ is (at_empty ask more e draft answer answered empty) = later_asked ask e draft answer is answered
later_own _ _ _ _ _ is (after_packet ask more e draft answer answers answered some rest) =
    later_own later_ask more (asked_outcome e draft answer).after (next_draft e.core draft) answers refl rest ∙ later_asked ask e draft answer is answered

answers_fit : (first : ℕ) (ask : Ask) (n : ℕ) (e : Endpoint) (draft : Emission) (answers : List Answer) (asking : Asking) → AreFlushAnswers ask n e draft answers → AsksFit first (own_of e) asking
    → AsksFit first (own_of (flush_of e draft answers).after) (asking_with (begun_reset_of answers) asking)
answers_fit first _ _ _ _ _ asking (at_limit ask e draft) fit = fit
answers_fit first _ _ _ _ _ asking (at_empty ask more e draft answer answered empty) fit = asked_fits first ask e draft answer asking answered fit
answers_fit first _ _ _ _ _ asking (after_packet ask more e draft answer answers answered some rest) fit =
    subst (λ (o : Option Own). AsksFit first o (asking_with answer.begun asking)) (sym (later_own later_ask more (asked_outcome e draft answer).after (next_draft e.core draft) answers refl rest))
    (asked_fits first ask e draft answer asking answered fit)

pub flush_fits : (first : ℕ) (e : Endpoint) (draft : Emission) (answers : List Answer) (asking : Asking) → FlushAnswers e draft answers → AsksFit first (own_of e) asking
    → AsksFit first (own_of (flush_of e draft answers).after) (asking_with (begun_reset_of answers) asking)
flush_fits first e draft answers asking allowed fit = answers_fit first first_ask (packets_allowed e.options.max_burst e.core) e draft answers asking allowed fit

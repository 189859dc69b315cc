-- What a flush of an association sends and leaves, with data that waits: packets that the peer takes, and the association as it was.
use Rattle.std.proofs.Common.{◌≡◌, ℕ, suc, Bool, true, false, ◌&&◌, Option, None, Some, List, [], ◌∷◌, ◌++◌, map, refl, sym, ap, subst, ◌∙◌}
use Rattle.std.specs.List.{AllByRecursion}
use Rattle.std.proofs.lemmas.List.{append-nil}
use Rattle.dcsctp_spec_lemmas.specs.types.declared.association.Held.{Held}
use Rattle.dcsctp_spec_lemmas.specs.types.declared.association.Pair.{Pair}
use Rattle.dcsctp_spec_lemmas.specs.spec.Packet.{Plain, Content, Emission}
use Rattle.dcsctp_spec_lemmas.specs.spec.association.Choices.{plain_contents}
use Rattle.dcsctp_spec_lemmas.specs.spec.endpoint.BegunResets.{BegunReset, request_contents, retransmission_begun, after_begun}
use Rattle.dcsctp_spec_lemmas.specs.spec.endpoint.Endpoint.{Endpoint, Core, cookie_echoed, open_in, established, held_by_core}
use Rattle.dcsctp_spec_lemmas.specs.spec.endpoint.Event.{Event, sent, connected, packets_of_events}
use Rattle.dcsctp_spec_lemmas.specs.spec.endpoint.FlushOutcomes.{FillingEvent, amount_is_low, total_amount_is_low, message_is_sent, message_may_have_expired, message_has_expired, message_ends, filling_event, Answer, answer_contents, filled_draft, goes_out, asked_outcome, draft_to, FitsPlain, Ask, first_ask, later_ask, room_of_draft, wants_sack, may_forward, stage_of, Gives, GivesUpThenForwards, forward_made, GivesUnlessIdle, IsAnswerOfQueues, IsFlushAnswer}
use Rattle.dcsctp_spec_lemmas.specs.spec.queues.Filling.{Stage}
use Rattle.dcsctp_spec_lemmas.specs.spec.queues.Retransmission.{RetransmissionState}
use Rattle.dcsctp_spec_lemmas.specs.spec.queues.Transfer.{Transfer, EndpointQueues, is_idle}
use Rattle.dcsctp_spec_lemmas.proofs.FlushKeeps.{asked_keeps}
use Rattle.dcsctp_spec_runs.proofs.KindLemmas.{chunks_are_data, forwards_are_forwards, IsData, IsForward}
use Rattle.dcsctp_theorem_sockets.proofs.Bursts.{packets_of_events-append}
use Rattle.dcsctp_delivery_directions.specs.sending.Losing.{AreOpen}
use Rattle.dcsctp_delivery_directions.proofs.sending.Packets.{out_below}
use Rattle.dcsctp_theorem_progress.proofs.Views.{told_then, one_before as one_more}
use Rattle.dcsctp_theorem_progress.proofs.FlightKinds.{SameKind, gave_up_kind, allowed_kind}
use Rattle.dcsctp_theorem_progress.proofs.Carried.{AreCarried, CarriesTo, both_carried, plain_carried, all_both, data_carried, forwards_carried, sacks_carried}

-- ---- an association with this peer

-- It is Established with this peer, or awaits its COOKIE ACK.
pub data HasPeer (my : Pair) (held : Held) (core : Core) : Type 0 where
  is_open : core ≡ open_in established my held → HasPeer my held core
  is_echoing : (bytes : List ℕ) → core ≡ cookie_echoed my held bytes → HasPeer my held core

pub peer_stays : (my : Pair) (held : Held) (core other : Core) → other ≡ core → HasPeer my held core → HasPeer my held other
peer_stays my held core other same (is_open is) = is_open (same ∙ is)
peer_stays my held core other same (is_echoing bytes is) = is_echoing bytes (same ∙ is)

-- What is in flight is of the kind that was negotiated.
pub record IsOfKind (held : Held) (e : Endpoint) : Type 0 where
  pub peer : held_by_core e.core ≡ Some held
  pub transfer : Transfer
  pub known : e.queues.transfer ≡ Some transfer
  pub interleaves : transfer.retransmission.outstanding.is_interleaved ≡ held.capabilities.message_interleaving
  pub abandons : transfer.retransmission.partial_reliability ≡ held.capabilities.partial_reliability

-- Neither is a stream to be reset.
pub record Flows (held : Held) (e : Endpoint) : Type 0 where
  pub kind : IsOfKind held e
  pub unpaused : AreOpen e.queues.queue.streams

abbrev pub AreCarriedFor : Held → List Content → Type 0
AreCarriedFor held contents = AreCarried held.capabilities.message_interleaving held.capabilities.partial_reliability contents

abbrev pub AllCarryTo : Held → List Emission → Type 0
AllCarryTo held packets = AllByRecursion (CarriesTo held) packets

-- ---- an answer

begun_kind : (begun : Option BegunReset) (state : RetransmissionState) → SameKind state (retransmission_begun begun state)
begun_kind None state = (refl, refl)
begun_kind (Some begun) state = (refl, refl)

no_request : (begun : Option BegunReset) (m n : Bool) → begun ≡ None → AreCarried m n (request_contents begun)
no_request begun m n none = subst (λ (b : Option BegunReset). AreCarried m n (request_contents b)) (sym none) tt

both_hold : (first second : Bool) → (first && second) ≡ true → second ≡ true
both_hold true second h = h
both_hold false second h = absurd (cc)

first_holds : (first second : Bool) → (first && second) ≡ true → first ≡ true
first_holds true second h = refl
first_holds false second h = absurd (cc)

-- Only where messages may be abandoned is one skipped.
may_skip : (ask : Ask) (e : Endpoint) (state : RetransmissionState) → may_forward ask e state ≡ true → state.partial_reliability ≡ true
may_skip later_ask e state may = absurd (cc)
may_skip first_ask e state may = first_holds state.partial_reliability _ (both_hold _ _ may)

skips : (may m n : Bool) (now : ℕ) (transfer : Transfer) (room : ℕ) (old new : Stage) (next : Option ℕ) (chunks : List Plain) → (may ≡ true → n ≡ true) → new.queue.outstanding.is_interleaved ≡ m
    → GivesUpThenForwards may now transfer room old new (forward_made next chunks) → AllByRecursion FitsPlain chunks → AreCarried m n (plain_contents chunks)
skips true m n now transfer room old new next chunks abandons is h fit =
    forwards_carried m n chunks (abandons refl)
    (subst (λ (b : Bool). AllByRecursion (IsForward b) chunks) is (forwards_are_forwards true now transfer room old new next chunks h)) fit
skips false m n now transfer room old new next chunks abandons is h fit = subst (λ (cs : List Plain). AreCarried m n (plain_contents cs)) (sym h.2) tt

-- What it holds is taken, and what it leaves is of the kind.
pub record GivesCarried (held : Held) (answer : Answer) : Type 0 where
  pub carried : AreCarriedFor held (answer_contents answer)
  pub transfer : Transfer
  pub known : answer.after.queues.transfer ≡ Some transfer
  pub interleaves : transfer.retransmission.outstanding.is_interleaved ≡ held.capabilities.message_interleaving
  pub abandons : transfer.retransmission.partial_reliability ≡ held.capabilities.partial_reliability

given : (ask : Ask) (held : Held) (e : Endpoint) (draft : Emission) (transfer : Transfer) (answer : Answer) → transfer.retransmission.outstanding.is_interleaved ≡ held.capabilities.message_interleaving
    → transfer.retransmission.partial_reliability ≡ held.capabilities.partial_reliability → answer.begun ≡ None → Gives ask e draft transfer answer → GivesCarried held answer
given ask held e draft transfer answer interleaves abandons none h =
    let m : Bool = held.capabilities.message_interleaving in
    let n : Bool = held.capabilities.partial_reliability in
    let may : Bool = may_forward ask e transfer.retransmission in
    let gave : SameKind transfer.retransmission h.gave_up.queue = gave_up_kind may e.moment transfer _ (stage_of e.queues.queue transfer.retransmission [] 0) h.gave_up h.next h.forwards h.gives_up in
    let begun : SameKind h.gave_up.queue (retransmission_begun answer.begun h.gave_up.queue) = begun_kind answer.begun h.gave_up.queue in
    let filled : SameKind (retransmission_begun answer.begun h.gave_up.queue) h.sent.queue = allowed_kind _ e.moment _ h.sent h.fills in
    let sent : h.sent.queue.outstanding.is_interleaved ≡ m = filled.0 ∙ begun.0 ∙ gave.0 ∙ interleaves in
    let forwards : AreCarried m n (plain_contents h.forwards) =
    skips may m n e.moment transfer _ (stage_of e.queues.queue transfer.retransmission [] 0) h.gave_up h.next h.forwards (λ is. sym abandons ∙ may_skip ask e transfer.retransmission is) (gave.0 ∙ interleaves) h.gives_up h.forwards_fit in
    let data_chunks : AreCarried m n (plain_contents answer.data_chunks) =
    data_carried m n answer.data_chunks (subst (λ (b : Bool). AllByRecursion (IsData b) answer.data_chunks) sent (chunks_are_data h.sent.queue.outstanding h.sent.tsns answer.data_chunks h.chunks)) h.data_fit in
    record {
      carried = both_carried m n (plain_contents answer.acknowledgements) (request_contents answer.begun ++ plain_contents answer.data_chunks)
          (subst (λ (cs : List Plain). AreCarried m n (plain_contents cs)) (sym h.parts)
          (plain_carried m n h.sacks h.forwards (sacks_carried (wants_sack ask e.queues.queue transfer) m n (room_of_draft e draft) transfer h.tracker h.sacks h.acknowledges) forwards))
          (both_carried m n (request_contents answer.begun) (plain_contents answer.data_chunks) (no_request answer.begun m n none) data_chunks);
      transfer = record transfer { retransmission = h.sent.queue; tracker = h.tracker };
      known = ap (λ (queues : EndpointQueues). queues.transfer) h.below;
      interleaves = sent;
      abandons = filled.1 ∙ begun.1 ∙ gave.1 ∙ abandons;
    }

given_where : (idle : Bool) (ask : Ask) (held : Held) (e : Endpoint) (draft : Emission) (answer : Answer) (k : IsOfKind held e) → answer.begun ≡ None → GivesUnlessIdle idle ask e draft k.transfer answer → GivesCarried held answer
given_where true ask held e draft answer k none h =
    subst (GivesCarried held) (sym h) (record { carried = tt; transfer = k.transfer; known = k.known; interleaves = k.interleaves; abandons = k.abandons })
given_where false ask held e draft answer k none h = given ask held e draft k.transfer answer k.interleaves k.abandons none h

pub answered : (ask : Ask) (held : Held) (e : Endpoint) (draft : Emission) (answer : Answer) → IsOfKind held e → answer.begun ≡ None → IsFlushAnswer ask e draft answer → GivesCarried held answer
answered ask held e draft answer k none h =
    given_where (is_idle e.queues.queue k.transfer) ask held e draft answer k none (subst (λ (t : Option Transfer). IsAnswerOfQueues ask e draft answer t) k.known h.by_transfer)

pub asked_kind : (ask : Ask) (held : Held) (e : Endpoint) (draft : Emission) (answer : Answer) → IsOfKind held e → answer.begun ≡ None → IsFlushAnswer ask e draft answer → IsOfKind held (asked_outcome e draft answer).after
asked_kind ask held e draft answer k none h =
    let gives : GivesCarried held answer = answered ask held e draft answer k none h in
    let core : (asked_outcome e draft answer).after.core ≡ e.core = (asked_keeps ask e draft answer h).core ∙ ap (λ (b : Option BegunReset). (after_begun b e).core) none in
    record {
      peer = ap held_by_core core ∙ k.peer;
      transfer = gives.transfer;
      known = ap (λ (q : EndpointQueues). q.transfer) (out_below answer.after (map filling_event answer.told) draft.with_checksum draft.packet.tag (filled_draft draft (answer_contents answer)).packet.contents) ∙ gives.known;
      interleaves = gives.interleaves;
      abandons = gives.abandons;
    }

-- ---- its events

pub told_packets : (told : List FillingEvent) (rest : List (Event Emission)) → packets_of_events (map filling_event told ++ rest) ≡ packets_of_events rest
told_packets [] rest = refl
told_packets (amount_is_low stream ∷ told) rest = told_packets told rest
told_packets (total_amount_is_low ∷ told) rest = told_packets told rest
told_packets (message_is_sent id ∷ told) rest = told_packets told rest
told_packets (message_may_have_expired id ∷ told) rest = told_packets told rest
told_packets (message_has_expired id ∷ told) rest = told_packets told rest
told_packets (message_ends id ∷ told) rest = told_packets told rest

pub told_nothing : (told : List FillingEvent) (rest : List (Event Emission)) (n : ℕ) → told_then (map filling_event told ++ rest) n ≡ told_then rest n
told_nothing [] rest n = refl
told_nothing (amount_is_low stream ∷ told) rest n = told_nothing told rest n
told_nothing (total_amount_is_low ∷ told) rest n = told_nothing told rest n
told_nothing (message_is_sent id ∷ told) rest n = told_nothing told rest n
told_nothing (message_may_have_expired id ∷ told) rest n = told_nothing told rest n
told_nothing (message_has_expired id ∷ told) rest n = told_nothing told rest n
told_nothing (message_ends id ∷ told) rest n = told_nothing told rest n

pub told-append : (xs ys : List (Event Emission)) (n : ℕ) → told_then (xs ++ ys) n ≡ told_then ys (told_then xs n)
told-append [] ys n = refl
told-append (connected ∷ xs) ys n = ap suc (told-append xs ys n) ∙ sym (one_more ys (told_then xs n))
told-append (event ∷ xs) ys n = told-append xs ys n

-- OnConnected isn't among these events, and each packet is taken by the peer.
pub record TellsCarried (held : Held) (events : List (Event Emission)) : Type 0 where
  pub told : (n : ℕ) → told_then events n ≡ n
  pub sent : AllCarryTo held (packets_of_events events)

pub tells_both : (held : Held) (xs ys : List (Event Emission)) → TellsCarried held xs → TellsCarried held ys → TellsCarried held (xs ++ ys)
tells_both held xs ys first second =
    record {
      told = λ n. told-append xs ys n ∙ ap (told_then ys) (first.told n) ∙ second.told n;
      sent = subst (AllCarryTo held) (sym (packets_of_events-append xs ys)) (all_both (CarriesTo held) (packets_of_events xs) (packets_of_events ys) first.sent second.sent);
    }

pub out_tells : (held : Held) (e : Endpoint) (told : List FillingEvent) (with_checksum : Bool) (tag : ℕ) (contents : List Content) → with_checksum ≡ (draft_to held).with_checksum → tag ≡ held.peer.tag → AreCarriedFor held contents
    → TellsCarried held (goes_out e (map filling_event told) with_checksum tag contents).events
out_tells held e told with_checksum tag [] checked header each =
    record {
      told = λ n. ap (λ (es : List (Event Emission)). told_then es n) (sym (append-nil (map filling_event told))) ∙ told_nothing told [] n;
      sent = subst (AllCarryTo held) (sym (ap packets_of_events (sym (append-nil (map filling_event told))) ∙ told_packets told [])) tt;
    }
out_tells held e told with_checksum tag (content ∷ contents) checked header each =
    let emission : Emission = record { with_checksum = with_checksum; packet = record { tag = tag; contents = content ∷ contents } } in
    record {
      told = λ n. told_nothing told (sent emission ∷ []) n;
      sent = subst (AllCarryTo held) (sym (told_packets told (sent emission ∷ []))) (record { checked = checked; header = header; contents = each }, tt);
    }

-- What the moves of a transfer layer keep, an association keeps that has one, whatever it is handed: a flush keeps it.
use Rattle.std.proofs.Common.{◌≡◌, ℕ, Bool, true, false, Option, None, Some, List, [], ◌∷◌, map, refl, sym, ap, ◌∙◌, subst}
use Rattle.dcsctp_spec_lemmas.specs.wire.Content.{SackContent}
use Rattle.dcsctp_spec_lemmas.specs.types.Snapshot.{Snapshot}
use Rattle.dcsctp_spec_lemmas.specs.types.declared.arrivals.SkippedTo.{SkippedTo}
use Rattle.dcsctp_spec_lemmas.specs.types.declared.capabilities.Capabilities.{Capabilities}
use Rattle.dcsctp_spec_lemmas.specs.types.declared.options.Options.{Options}
use Rattle.dcsctp_spec_lemmas.specs.types.queues.Messages.{MessageContent}
use Rattle.dcsctp_spec_lemmas.specs.spec.Packet.{Content, Emission}
use Rattle.dcsctp_spec_lemmas.specs.spec.queues.Arrivals.{Arrival}
use Rattle.dcsctp_spec_lemmas.specs.spec.queues.AtOnce.{SendsAtOnce}
use Rattle.dcsctp_spec_lemmas.specs.spec.queues.Reassembly.{ReassemblyState}
use Rattle.dcsctp_spec_lemmas.specs.spec.queues.Retransmission.{RetransmissionState}
use Rattle.dcsctp_spec_lemmas.specs.spec.queues.SendQueue.{SendQueueState}
use Rattle.dcsctp_spec_lemmas.specs.spec.queues.Tracker.{after_packet_end, is_acknowledgement_due, tracker_after_sack, delay_over}
use Rattle.dcsctp_spec_lemmas.specs.spec.queues.Transfer.{Transfer, EndpointQueues, is_idle, new_transfer, transfer_kept}
use Rattle.dcsctp_spec_lemmas.specs.spec.endpoint.BegunResets.{BegunReset, core_asking, after_begun}
use Rattle.dcsctp_spec_lemmas.specs.spec.endpoint.DataOutcomes.{taken_to}
use Rattle.dcsctp_spec_lemmas.specs.spec.endpoint.Endpoint.{Endpoint, Core, closed, cookie_wait, cookie_echoed, open_in}
use Rattle.dcsctp_spec_lemmas.specs.spec.endpoint.Event.{Event}
use Rattle.dcsctp_spec_lemmas.specs.spec.endpoint.FlushOutcomes.{Ask, first_ask, Answer, answer_contents, filled_draft, filling_event, goes_out, asked_outcome, next_draft, flush_of, packets_allowed, Gives, GivesUnlessIdle, IsAnswerOfQueues, IsFlushAnswer, AreFlushAnswers, at_limit, at_empty, after_packet, FlushAnswers}
use Rattle.dcsctp_spec_lemmas.specs.spec.endpoint.Outcome.{Outcome}
use Rattle.dcsctp_spec_lemmas.specs.spec.endpoint.RestoreOutcomes.{was_reset, restored_transfer_begun, RestoresTransfer}
use Rattle.dcsctp_spec_lemmas.specs.spec.endpoint.TransferMoves.{ReceivesData, MovesForward, TakesSack, timed_transfer, lost_all}

-- ---- what each move keeps

-- What holds of a layer that is made or restored, and stays in each of its moves. The end of a packet also brings it about where the
-- weaker one holds. Where data that comes doesn't keep it, `Receives` is empty;
-- where the end of a delay doesn't, `Delays`; where a snapshot needn't have it, `Restores`.
pub record Keeps (Receives Delays Restores : Type 0) (Before Good : Options → Transfer → Type 0) : Type 0 where
  pub weaker : (options : Options) (t : Transfer) → Good options t → Before options t
  pub begins : (options : Options) (kinds : Capabilities) (first peer window : ℕ) → Good options (new_transfer options kinds first peer window)
  pub changes_peer : (options : Options) (now peer window : ℕ) (t : Transfer) → Good options t → Good options (transfer_kept now options peer window t)
  pub restores : Restores → (options : Options) (now : ℕ) (state : Snapshot) (t : Transfer)
      → RestoresTransfer now (was_reset state) state.tx state.rx (restored_transfer_begun options state) t → Good options t
  pub sets_longest : (options : Options) (bytes : ℕ) (t : Transfer) → Good options t → Good (record options { max_message_size = bytes }) t
  pub gives : (ask : Ask) (e : Endpoint) (draft : Emission) (t : Transfer) (answer : Answer) → Good e.options t → (gave : Gives ask e draft t answer)
      → Good e.options (record t { retransmission = gave.sent.queue; tracker = gave.tracker })
  pub resends : (options : Options) (now bytes : ℕ) (waiting : SendQueueState) (t : Transfer) (left : RetransmissionState) (tsns : List ℕ) → Good options t
      → SendsAtOnce now bytes waiting t.retransmission left tsns → Good options (record t { retransmission = left })
  pub acknowledges : (options : Options) (now : ℕ) (sack : SackContent) (old new : Transfer) → Good options old → TakesSack now sack old new → Good options new
  pub loses : (options : Options) (now : ℕ) (t : Transfer) → Good options t → Good options (lost_all now t)
  pub receives : Receives → (options : Options) (arrival : Arrival) (old new : Transfer) → Good options old → ReceivesData arrival old new → Good options new
  pub forwards : Receives → (options : Options) (tsn : ℕ) (entries : List SkippedTo) (old new : Transfer) → Good options old → MovesForward tsn entries old new → Good options new
  pub delays : Delays → (options : Options) (t : Transfer) → Good options t → Good options (record t { tracker = delay_over t.tracker })
  pub ends : (options : Options) (now : ℕ) (t : Transfer) → Before options t → is_acknowledgement_due (after_packet_end now t.tracker) ≡ false
      → Good options (record t { tracker = after_packet_end now t.tracker })
  pub answers : (options : Options) (now : ℕ) (t : Transfer) → Before options t → Good options (record t { tracker = tracker_after_sack (after_packet_end now t.tracker) })
  pub times : (options : Options) (round_trip : Option ℕ) (t : Transfer) → Good options t → Good options (timed_transfer round_trip t)
  pub takes : (options : Options) (now : ℕ) (messages : List MessageContent) (t : Transfer) → Good options t → Good options (taken_to options now messages t)
  pub resets : (options : Options) (reassembly : ReassemblyState) (t : Transfer) → Good options t → Good options (record t { reassembly = reassembly })

-- ---- of an endpoint

abbrev pub HasPeer : Core → Type 0
HasPeer closed = ⊥
HasPeer (cookie_wait my) = ⊥
HasPeer (cookie_echoed my held cookie) = Unit {0}
HasPeer (open_in phase my held) = Unit {0}

-- There is a layer only where the peer is known, and it is so.
abbrev pub LayerIs : (Options → Transfer → Type 0) → Core → Options → Option Transfer → Type 0
LayerIs Good core options None = Unit {0}
LayerIs Good core options (Some t) = HasPeer core × Good options t

abbrev pub EndpointIs : (Options → Transfer → Type 0) → Endpoint → Type 0
EndpointIs Good e = LayerIs Good e.core e.options e.queues.transfer

abbrev pub LeavesIt : (Options → Transfer → Type 0) → Outcome → Type 0
LeavesIt Good o = EndpointIs Good o.after

pub asking_has : (core : Core) → HasPeer core → HasPeer (core_asking core)
asking_has closed has = has
asking_has (cookie_wait my) has = has
asking_has (cookie_echoed my held cookie) has = has
asking_has (open_in phase my held) has = has

-- in another phase of an association
pub with_peer : (Good : Options → Transfer → Type 0) (core new : Core) (options : Options) (t : Option Transfer) → (HasPeer core → HasPeer new) → LayerIs Good core options t → LayerIs Good new options t
with_peer Good core new options None goes_on h = tt
with_peer Good core new options (Some t) goes_on h = (goes_on h.0, h.1)

-- whatever association has it
abbrev pub MadeIs : (Options → Transfer → Type 0) → Options → Option Transfer → Type 0
MadeIs Good options None = Unit {0}
MadeIs Good options (Some t) = Good options t

pub made_is : (Good : Options → Transfer → Type 0) (core : Core) (options : Options) (t : Option Transfer) → HasPeer core → MadeIs Good options t → LayerIs Good core options t
made_is Good core options None has h = tt
made_is Good core options (Some t) has h = (has, h)

pub layer_made : (Good : Options → Transfer → Type 0) (core : Core) (options : Options) (t : Option Transfer) → LayerIs Good core options t → MadeIs Good options t
layer_made Good core options None h = tt
layer_made Good core options (Some t) h = h.1

pub weaker_layer : (Before Good : Options → Transfer → Type 0) (core : Core) (options : Options) (t : Option Transfer)
    → ((t : Transfer) → Good options t → Before options t) → LayerIs Good core options t → LayerIs Before core options t
weaker_layer Before Good core options None then h = tt
weaker_layer Before Good core options (Some t) then h = (h.0, then t h.1)

-- ---- an answer

begun_peer : (begun : Option BegunReset) (e : Endpoint) → HasPeer e.core → HasPeer (after_begun begun e).core
begun_peer None e has = has
begun_peer (Some begun) e has = asking_has e.core has

begun_options : (begun : Option BegunReset) (e : Endpoint) → (after_begun begun e).options ≡ e.options
begun_options None e = refl
begun_options (Some begun) e = refl

-- What holds of the layer after an answer holds of the endpoint after it.
pub kept_core : (Good : Options → Transfer → Type 0) (ask : Ask) (e : Endpoint) (draft : Emission) (answer : Answer) → IsFlushAnswer ask e draft answer
    → LayerIs Good e.core e.options answer.after.queues.transfer → EndpointIs Good answer.after
kept_core Good ask e draft answer is below =
    let core : answer.after.core ≡ (after_begun answer.begun e).core = ap (λ (x : Endpoint). x.core) is.kept in
    let options : answer.after.options ≡ e.options = ap (λ (x : Endpoint). x.options) is.kept ∙ begun_options answer.begun e in
    subst (λ (c : Core). LayerIs Good c answer.after.options answer.after.queues.transfer) (sym core)
    (subst (λ (o : Options). LayerIs Good (after_begun answer.begun e).core o answer.after.queues.transfer) (sym options)
    (with_peer Good e.core (after_begun answer.begun e).core e.options answer.after.queues.transfer (begun_peer answer.begun e) below))

-- ---- a flush

module _ (Receives Delays Restores : Type 0) (Before Good : Options → Transfer → Type 0) (keeps : Keeps Receives Delays Restores Before Good) where
  given : (ask : Ask) (e : Endpoint) (draft : Emission) (answer : Answer) (found : Option Transfer) → LayerIs Good e.core e.options found → IsAnswerOfQueues ask e draft answer found
      → e.queues.transfer ≡ found → LayerIs Good e.core e.options answer.after.queues.transfer
  given ask e draft answer None h is at =
      subst (λ (a : Answer). LayerIs Good e.core e.options a.after.queues.transfer) (sym is) (subst (LayerIs Good e.core e.options) (sym at) tt)
  given ask e draft answer (Some t) h is at = go (is_idle e.queues.queue t) is
    where
      go : (b : Bool) → GivesUnlessIdle b ask e draft t answer → LayerIs Good e.core e.options answer.after.queues.transfer
      go true same =
          subst (λ (a : Answer). LayerIs Good e.core e.options a.after.queues.transfer) (sym same) (subst (LayerIs Good e.core e.options) (sym at) h)
      go false gave =
          subst (λ (q : EndpointQueues). LayerIs Good e.core e.options q.transfer) (sym gave.below) (h.0, keeps.gives ask e draft t answer h.1 gave)

  answered : (ask : Ask) (e : Endpoint) (draft : Emission) (answer : Answer) → EndpointIs Good e → IsFlushAnswer ask e draft answer → EndpointIs Good answer.after
  answered ask e draft answer h is = kept_core Good ask e draft answer is (given ask e draft answer e.queues.transfer h is.by_transfer refl)

  pub goes_out_is : (e : Endpoint) (told : List (Event Emission)) (with_checksum : Bool) (tag : ℕ) (contents : List Content) → EndpointIs Good e → LeavesIt Good (goes_out e told with_checksum tag contents)
  goes_out_is e told with_checksum tag [] h = h
  goes_out_is e told with_checksum tag (content ∷ contents) h = h

  asked : (ask : Ask) (e : Endpoint) (draft : Emission) (answer : Answer) → EndpointIs Good e → IsFlushAnswer ask e draft answer → LeavesIt Good (asked_outcome e draft answer)
  asked ask e draft answer h is =
      goes_out_is answer.after (map filling_event answer.told) draft.with_checksum draft.packet.tag (filled_draft draft (answer_contents answer)).packet.contents (answered ask e draft answer h is)

  pub flush_steps : (ask : Ask) (count : ℕ) (e : Endpoint) (draft : Emission) (answers : List Answer) → EndpointIs Good e → AreFlushAnswers ask count e draft answers → LeavesIt Good (flush_of e draft answers)
  flush_steps _ _ _ _ _ h (at_limit ask e draft) = h
  flush_steps _ _ _ _ _ h (at_empty ask more e draft answer is empty) = asked ask e draft answer h is
  flush_steps _ _ _ _ _ h (after_packet ask more e draft answer answers is some rest) =
      flush_steps _ more (asked_outcome e draft answer).after (next_draft e.core draft) answers (asked ask e draft answer h is) rest

  pub flush_is : (e : Endpoint) (draft : Emission) (answers : List Answer) → FlushAnswers e draft answers → EndpointIs Good e → LeavesIt Good (flush_of e draft answers)
  flush_is e draft answers allowed h = flush_steps first_ask (packets_allowed e.options.max_burst e.core) e draft answers h allowed

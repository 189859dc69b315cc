-- A SACK leaves what a receiver has received, and whether it awaits data.
use Rattle.std.proofs.Common.{◌≡◌, ℕ, Bool, true, false, Option, None, Some, List, [], ◌∷◌, map, inl, inr, refl, sym, ap, ◌∙◌, subst}
use Rattle.dcsctp_spec_lemmas.specs.wire.Content.{SackContent, sack_chunk}
use Rattle.dcsctp_spec_lemmas.specs.types.declared.association.Held.{Held}
use Rattle.dcsctp_spec_lemmas.specs.types.declared.association.Pair.{Pair}
use Rattle.dcsctp_spec_lemmas.specs.types.declared.capabilities.Capabilities.{Capabilities}
use Rattle.dcsctp_spec_lemmas.specs.types.declared.ends.Violation.{Violation}
use Rattle.dcsctp_spec_lemmas.specs.types.declared.options.Options.{Options}
use Rattle.dcsctp_spec_lemmas.specs.types.declared.tracking.TsnRange.{TsnRange}
use Rattle.dcsctp_spec_lemmas.specs.spec.Packet.{Plain, Content, plain, unworked, Emission}
use Rattle.dcsctp_spec_lemmas.specs.spec.association.Choices.{plain_contents}
use Rattle.dcsctp_spec_lemmas.specs.spec.association.FlushChanges.{held_asking}
use Rattle.dcsctp_spec_lemmas.specs.spec.endpoint.BegunResets.{BegunReset, core_asking, after_begun}
use Rattle.dcsctp_spec_lemmas.specs.spec.endpoint.DataOutcomes.{with_transfer, FastRetransmits, sack_taken, TakesSackAndFlushes, HandlesSackIfValid, HandlesSackIfConnected, SackTurn}
use Rattle.dcsctp_spec_lemmas.specs.spec.endpoint.Endpoint.{Endpoint, Core, open_in, established, held_by_core}
use Rattle.dcsctp_spec_lemmas.specs.spec.endpoint.Event.{Event}
use Rattle.dcsctp_spec_lemmas.specs.spec.endpoint.Following.{next_chunk}
use Rattle.dcsctp_spec_lemmas.specs.spec.endpoint.FlushOutcomes.{Ask, first_ask, Answer, answer_contents, filled_draft, filling_event, goes_out, asked_outcome, draft_to, next_draft, flush_of, packets_allowed, room_of_draft, wants_sack, Acknowledges, GivesUnlessIdle, IsAnswerOfQueues, IsFlushAnswer, AreFlushAnswers, at_limit, at_empty, after_packet}
use Rattle.dcsctp_spec_lemmas.specs.spec.endpoint.Outcome.{Outcome}
use Rattle.dcsctp_spec_lemmas.specs.spec.endpoint.PlainOutcomes.{PlainTurnUnlessViolating}
use Rattle.dcsctp_spec_lemmas.specs.spec.endpoint.ShutdownOutcomes.{may_continue_shutdown, step_if_acknowledged, step_outcome}
use Rattle.dcsctp_spec_lemmas.specs.spec.endpoint.TransferMoves.{timed_transfer, TakesSack}
use Rattle.dcsctp_spec_lemmas.specs.spec.endpoint.Turn.{ContentTurn}
use Rattle.dcsctp_spec_lemmas.specs.spec.queues.Acknowledging.{is_sack_valid}
use Rattle.dcsctp_spec_lemmas.specs.spec.queues.Reassembly.{is_above_watermark, is_below_double}
use Rattle.dcsctp_spec_lemmas.specs.spec.queues.Retransmission.{has_fast_retransmit}
use Rattle.dcsctp_spec_lemmas.specs.spec.queues.Tracker.{TrackerState, has_ranges}
use Rattle.dcsctp_spec_lemmas.specs.spec.queues.Transfer.{Transfer, EndpointQueues, is_idle}
use Rattle.dcsctp_spec_lemmas.proofs.FlushKeeps.{Keeps, begun_by, flush_keeps}
use Rattle.dcsctp_theorem_transfer.specs.Deadlines.{IsOpen}
use Rattle.dcsctp_theorem_transfer.specs.Taking.{HasRoomForNext}
use Rattle.dcsctp_theorem_transfer.proofs.Hearing.{sack_allowed}
use Rattle.dcsctp_theorem_transfer.proofs.Taking.{plain_turn}

-- ---- what is received

-- The same was received, and is held.
pub record SameReceived (old new : Transfer) : Type 0 where
  pub cumulative : new.tracker.cumulative ≡ old.tracker.cumulative
  pub ranges : new.tracker.ranges ≡ old.tracker.ranges
  pub follows : new.tracker.follows_rfc ≡ old.tracker.follows_rfc
  pub reassembly : new.reassembly ≡ old.reassembly

pub same_itself : (t : Transfer) → SameReceived t t
same_itself t = record { cumulative = refl; ranges = refl; follows = refl; reassembly = refl }

pub same_then : (a b c : Transfer) → SameReceived a b → SameReceived b c → SameReceived a c
same_then a b c one other =
    record {
      cumulative = other.cumulative ∙ one.cumulative;
      ranges = other.ranges ∙ one.ranges;
      follows = other.follows ∙ one.follows;
      reassembly = other.reassembly ∙ one.reassembly;
    }

-- The socket is Established with these kinds, and has received the same.
pub record StaysReceiver (base : Transfer) (options : Options) (kinds : Capabilities) (e : Endpoint) : Type 0 where
  pub my : Pair
  pub held : Held
  pub phase : e.core ≡ open_in established my held
  pub kinds_are : held.capabilities ≡ kinds
  pub options_are : e.options ≡ options
  pub left : Transfer
  pub has : e.queues.transfer ≡ Some left
  pub same : SameReceived base left

-- ---- a flush

acknowledged_same : (b : Bool) (room : ℕ) (t new : Transfer) (after : TrackerState) (chunks : List Plain) → Acknowledges b room t after chunks → new.tracker ≡ after → new.reassembly ≡ t.reassembly → SameReceived t new
acknowledged_same false room t new after chunks does is reassembly =
    let tracker : new.tracker ≡ t.tracker = is ∙ does.0 in
    record { cumulative = ap (λ (x : TrackerState). x.cumulative) tracker; ranges = ap (λ (x : TrackerState). x.ranges) tracker; follows = ap (λ (x : TrackerState). x.follows_rfc) tracker; reassembly = reassembly }
acknowledged_same true room t new after chunks does is reassembly =
    let tracker = is ∙ does.0 in
    record { cumulative = ap (λ (x : TrackerState). x.cumulative) tracker; ranges = ap (λ (x : TrackerState). x.ranges) tracker; follows = ap (λ (x : TrackerState). x.follows_rfc) tracker; reassembly = reassembly }

-- The layer after an answer.
record LayerStays (base : Transfer) (answer : Answer) : Type 0 where
  left : Transfer
  has : answer.after.queues.transfer ≡ Some left
  same : SameReceived base left

layer_by : (ask : Ask) (e : Endpoint) (draft : Emission) (answer : Answer) (base : Transfer) (found : Option Transfer) (left : Transfer) → e.queues.transfer ≡ found → found ≡ Some left → SameReceived base left
    → IsAnswerOfQueues ask e draft answer found → LayerStays base answer
layer_by ask e draft answer base None left at has same is = absurd (cc)
layer_by ask e draft answer base (Some t) left at has same is = go (is_idle e.queues.queue t) is
  where
    go : (b : Bool) → GivesUnlessIdle b ask e draft t answer → LayerStays base answer
    go true nothing = record { left = left; has = ap (λ (a : Answer). a.after.queues.transfer) nothing ∙ at ∙ has; same = same }
    go false gave =
        record {
          left = record t { retransmission = gave.sent.queue; tracker = gave.tracker };
          has = ap (λ (q : EndpointQueues). q.transfer) gave.below;
          same = same_then base t (record t { retransmission = gave.sent.queue; tracker = gave.tracker }) (subst (SameReceived base) (let is_it : left ≡ t = cc in is_it) same)
              (acknowledged_same (wants_sack ask e.queues.queue t) (room_of_draft e draft) t (record t { retransmission = gave.sent.queue; tracker = gave.tracker }) gave.tracker gave.sacks gave.acknowledges refl refl);
        }

-- The phase after a reset was begun, or none.
record PhaseStays (kinds : Capabilities) (core : Core) : Type 0 where
  my : Pair
  held : Held
  phase : core ≡ open_in established my held
  kinds_are : held.capabilities ≡ kinds

begun_stays : (begun : Option BegunReset) (e : Endpoint) (kinds : Capabilities) (my : Pair) (held : Held) → e.core ≡ open_in established my held → held.capabilities ≡ kinds → PhaseStays kinds (after_begun begun e).core
begun_stays None e kinds my held phase are = record { my = my; held = held; phase = phase; kinds_are = are }
begun_stays (Some begun) e kinds my held phase are = record { my = my; held = held_asking held; phase = ap core_asking phase; kinds_are = are }

begun_options : (begun : Option BegunReset) (e : Endpoint) → (after_begun begun e).options ≡ e.options
begun_options None e = refl
begun_options (Some begun) e = refl

out_receives : (base : Transfer) (options : Options) (kinds : Capabilities) (e : Endpoint) (told : List (Event Emission)) (with_checksum : Bool) (tag : ℕ) (contents : List Content) → StaysReceiver base options kinds e
    → StaysReceiver base options kinds (goes_out e told with_checksum tag contents).after
out_receives base options kinds e told with_checksum tag [] h = h
out_receives base options kinds e told with_checksum tag (content ∷ contents) h =
    record { my = h.my; held = h.held; phase = h.phase; kinds_are = h.kinds_are; options_are = h.options_are; left = h.left; has = h.has; same = h.same }

answer_receives : (ask : Ask) (e : Endpoint) (draft : Emission) (answer : Answer) (base : Transfer) (options : Options) (kinds : Capabilities) → StaysReceiver base options kinds e → IsFlushAnswer ask e draft answer
    → StaysReceiver base options kinds answer.after
answer_receives ask e draft answer base options kinds h is =
    let layer : LayerStays base answer = layer_by ask e draft answer base e.queues.transfer h.left refl h.has h.same is.by_transfer in
    let phase : PhaseStays kinds (after_begun answer.begun e).core = begun_stays answer.begun e kinds h.my h.held h.phase h.kinds_are in
    record {
      my = phase.my;
      held = phase.held;
      phase = ap (λ (x : Endpoint). x.core) is.kept ∙ phase.phase;
      kinds_are = phase.kinds_are;
      options_are = ap (λ (x : Endpoint). x.options) is.kept ∙ begun_options answer.begun e ∙ h.options_are;
      left = layer.left;
      has = layer.has;
      same = layer.same;
    }

pub flush_receives : (ask : Ask) (count : ℕ) (e : Endpoint) (draft : Emission) (answers : List Answer) (base : Transfer) (options : Options) (kinds : Capabilities) → StaysReceiver base options kinds e
    → AreFlushAnswers ask count e draft answers → StaysReceiver base options kinds (flush_of e draft answers).after
flush_receives _ _ _ _ _ base options kinds h (at_limit ask e draft) = h
flush_receives _ _ _ _ _ base options kinds h (at_empty ask more e draft answer is empty) =
    out_receives base options kinds answer.after (map filling_event answer.told) draft.with_checksum draft.packet.tag (filled_draft draft (answer_contents answer)).packet.contents
    (answer_receives ask e draft answer base options kinds h is)
flush_receives _ _ _ _ _ base options kinds h (after_packet ask more e draft answer answers is some rest) =
    flush_receives _ more (asked_outcome e draft answer).after (next_draft e.core draft) answers base options kinds
    (out_receives base options kinds answer.after (map filling_event answer.told) draft.with_checksum draft.packet.tag (filled_draft draft (answer_contents answer)).packet.contents
    (answer_receives ask e draft answer base options kinds h is)) rest

-- ---- a SACK

timed_received : (round_trip : Option ℕ) (t : Transfer) → SameReceived t (timed_transfer round_trip t)
timed_received None t = same_itself t
timed_received (Some round_trip) t = record { cumulative = refl; ranges = refl; follows = refl; reassembly = refl }

taken_received : (now : ℕ) (sack : SackContent) (old new : Transfer) → TakesSack now sack old new → SameReceived old new
taken_received now sack old new does =
    subst (SameReceived old) (sym does.is)
    (same_then old (record old { retransmission = does.left }) (timed_transfer does.round_trip (record old { retransmission = does.left }))
    (record { cumulative = refl; ranges = refl; follows = refl; reassembly = refl }) (timed_received does.round_trip (record old { retransmission = does.left })))

-- An Established association is not shut down.
step_still : (e : Endpoint) (core : Core) (my : Pair) (held : Held) → core ≡ open_in established my held → (step_outcome e core).after ≡ e
step_still e core my held is = ap (λ (c : Core). (step_outcome e c).after) is ∙ go (may_continue_shutdown e)
  where
    go : (b : Bool) → (step_if_acknowledged b e established my held).after ≡ e
    go true = refl
    go false = refl

fast_receives : (b : Bool) (e : Endpoint) (held : Held) (t : Transfer) (o : Outcome) (base : Transfer) (options : Options) (kinds : Capabilities) → e.queues.transfer ≡ Some t → SameReceived base t
    → StaysReceiver base options kinds e → FastRetransmits b e held t o → StaysReceiver base options kinds o.after
fast_receives false e held t o base options kinds has same h turn = subst (λ (x : Outcome). StaysReceiver base options kinds x.after) (sym turn) h
fast_receives true e held t o base options kinds has same h turn =
    subst (λ (x : Outcome). StaysReceiver base options kinds x.after) (sym turn.is)
    (out_receives base options kinds (with_transfer e (record t { retransmission = turn.left })) [] (draft_to held).with_checksum held.peer.tag (plain_contents turn.chunks)
    (record {
      my = h.my;
      held = h.held;
      phase = h.phase;
      kinds_are = h.kinds_are;
      options_are = h.options_are;
      left = record t { retransmission = turn.left };
      has = refl;
      same = same_then base t (record t { retransmission = turn.left }) same (record { cumulative = refl; ranges = refl; follows = refl; reassembly = refl });
    }))

-- What the turn leaves, with the chunk after it.
pub record IsUnmoved (base : Transfer) (options : Options) (kinds : Capabilities) (o : Outcome) : Type 0 where
  pub stays : StaysReceiver base options kinds o.after
  pub following : o.following ≡ next_chunk

taken_stays : (e : Endpoint) (held peer : Held) (my : Pair) (t : Transfer) (sack : SackContent) (o : Outcome) → e.core ≡ open_in established my held → TakesSackAndFlushes e peer t sack o
    → IsUnmoved t e.options held.capabilities o
taken_stays e held peer my t sack o phase turn =
    let heard : Transfer = turn.left in
    let same : SameReceived t heard = taken_received e.moment sack t heard turn.takes in
    let stepped : turn.stepped.after ≡ sack_taken e t heard = ap (λ (x : Outcome). x.after) turn.steps ∙ step_still (sack_taken e t heard) e.core my held phase in
    let before : StaysReceiver t e.options held.capabilities turn.stepped.after =
    subst (StaysReceiver t e.options held.capabilities) (sym stepped)
    (record { my = my; held = held; phase = phase; kinds_are = refl; options_are = refl; left = heard; has = refl; same = same }) in
    let fast : StaysReceiver t e.options held.capabilities turn.fast.after =
    fast_receives (has_fast_retransmit heard.retransmission) turn.stepped.after peer heard turn.fast t e.options held.capabilities (ap (λ (x : Endpoint). x.queues.transfer) stepped) same before turn.resends in
    let kept : Keeps (begun_by turn.answers) turn.fast.after (flush_of turn.fast.after (draft_to peer) turn.answers) =
    flush_keeps first_ask (packets_allowed turn.fast.after.options.max_burst turn.fast.after.core) turn.fast.after (draft_to peer) turn.answers turn.allowed in
    record {
      stays = subst (λ (x : Outcome). StaysReceiver t e.options held.capabilities x.after) (sym turn.is)
          (flush_receives first_ask (packets_allowed turn.fast.after.options.max_burst turn.fast.after.core) turn.fast.after (draft_to peer) turn.answers t e.options held.capabilities fast turn.allowed);
      following = ap (λ (x : Outcome). x.following) turn.is ∙ kept.following;
    }

valid_stays : (b : Bool) (e : Endpoint) (held peer : Held) (my : Pair) (t : Transfer) (sack : SackContent) (o : Outcome) → e.core ≡ open_in established my held → e.queues.transfer ≡ Some t
    → HandlesSackIfValid b e peer t sack o → IsUnmoved t e.options held.capabilities o
valid_stays false e held peer my t sack o phase has turn =
    record {
      stays = subst (λ (x : Outcome). StaysReceiver t e.options held.capabilities x.after) (sym turn)
          (record { my = my; held = held; phase = phase; kinds_are = refl; options_are = refl; left = t; has = has; same = same_itself t });
      following = ap (λ (x : Outcome). x.following) turn;
    }
valid_stays true e held peer my t sack o phase has turn = taken_stays e held peer my t sack o phase turn

connected_stays : (e : Endpoint) (held : Held) (my : Pair) (t : Transfer) (sack : SackContent) (peer : Option Held) (o : Outcome) → e.core ≡ open_in established my held → e.queues.transfer ≡ Some t
    → HandlesSackIfConnected e peer t sack o → IsUnmoved t e.options held.capabilities o
connected_stays e held my t sack None o phase has turn =
    record {
      stays = subst (λ (x : Outcome). StaysReceiver t e.options held.capabilities x.after) (sym turn)
          (record { my = my; held = held; phase = phase; kinds_are = refl; options_are = refl; left = t; has = has; same = same_itself t });
      following = ap (λ (x : Outcome). x.following) turn;
    }
connected_stays e held my t sack (Some peer) o phase has turn = valid_stays (is_sack_valid t.retransmission sack.cumulative_tsn_ack) e held peer my t sack o phase has turn

sack_stays : (e : Endpoint) (held : Held) (my : Pair) (t : Transfer) (sack : SackContent) (found : Option Transfer) (o : Outcome) → e.core ≡ open_in established my held → e.queues.transfer ≡ Some t → found ≡ Some t
    → SackTurn e found sack o → IsUnmoved t e.options held.capabilities o
sack_stays e held my t sack None o phase has found turn = absurd (cc)
sack_stays e held my t sack (Some other) o phase has found turn =
    connected_stays e held my t sack (held_by_core e.core) o phase has
    (subst (λ (x : Transfer). HandlesSackIfConnected e (held_by_core e.core) x sack o) (let same : other ≡ t = cc in same) turn)

pub chunk_unmoved : (e : Endpoint) (held : Held) (my : Pair) (t : Transfer) (tag : ℕ) (sack : SackContent) (o : Outcome) → e.core ≡ open_in established my held → e.queues.transfer ≡ Some t
    → ContentTurn e tag (plain (unworked (sack_chunk sack))) o → IsUnmoved t e.options held.capabilities o
chunk_unmoved e held my t tag sack o phase has turn =
    sack_stays e held my t sack e.queues.transfer o phase has has
    (subst (λ (violation : Option Violation). PlainTurnUnlessViolating e (unworked (sack_chunk sack)) violation o) (sack_allowed e.core sack)
    (plain_turn e tag (unworked (sack_chunk sack)) o (subst IsOpen (sym phase) tt) turn))

-- ---- it awaits data as before

pub room_stays : (old new : Transfer) → SameReceived old new → HasRoomForNext old → HasRoomForNext new
room_stays old new same (inl below) = inl (ap is_above_watermark same.reassembly ∙ below)
room_stays old new same (inr (some, double)) = inr (ap has_ranges same.ranges ∙ some, ap is_below_double same.reassembly ∙ double)

-- What holds of the cumulative number and the ranges holds as before.
pub by_numbers : (P : ℕ → List TsnRange → Type 0) (old new : Transfer) → SameReceived old new → P old.tracker.cumulative old.tracker.ranges → P new.tracker.cumulative new.tracker.ranges
by_numbers P old new same h =
    subst (λ (c : ℕ). P c new.tracker.ranges) (sym same.cumulative) (subst (P old.tracker.cumulative) (sym same.ranges) h)

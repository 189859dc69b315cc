-- The data tracker follows the RFC as its options say.
use Rattle.std.proofs.Common.{◌≡◌, ℕ, Bool, true, false, if◌then◌else◌, Option, None, Some, List, refl, ap, ◌∙◌}
use Rattle.std.specs.Prelude.{◌&&◌}
use Rattle.dcsctp_spec_lemmas.specs.wire.Content.{SackContent}
use Rattle.dcsctp_spec_lemmas.specs.types.declared.arrivals.SkippedTo.{SkippedTo}
use Rattle.dcsctp_spec_lemmas.specs.types.declared.options.Options.{Options}
use Rattle.dcsctp_spec_lemmas.specs.types.declared.tracking.AckState.{AckState}
use Rattle.dcsctp_spec_lemmas.specs.types.declared.tracking.AckState.TheVariants.{Idle, BecomingDelayed, Delayed, Immediate}
use Rattle.dcsctp_spec_lemmas.specs.types.queues.Messages.{MessageContent}
use Rattle.dcsctp_spec_lemmas.specs.spec.Packet.{Plain}
use Rattle.dcsctp_spec_lemmas.specs.spec.endpoint.DataOutcomes.{taken_to, opens_window, hastened_where_open, with_messages}
use Rattle.dcsctp_spec_lemmas.specs.spec.endpoint.FlushOutcomes.{Acknowledges}
use Rattle.dcsctp_spec_lemmas.specs.spec.endpoint.TransferMoves.{ReceivesIfRoom, dropping, MovesIfForward, timed_transfer, TakesSack}
use Rattle.dcsctp_spec_lemmas.specs.spec.queues.Arrivals.{Arrival}
use Rattle.dcsctp_spec_lemmas.specs.spec.queues.Tracker.{TrackerState, is_forward, moved_forward, delay_over, delayed_from, is_valid_tsn}
use Rattle.dcsctp_spec_lemmas.specs.spec.queues.Transfer.{Transfer}
use Rattle.dcsctp_theorem_transfer.proofs.Layers.{Keeps}

abbrev pub FollowingLayer : Options → Transfer → Type 0
FollowingLayer options t = t.tracker.follows_rfc ≡ options.follow_rfc

received_same : (b : Bool) (arrival : Arrival) (old new : Transfer) → ReceivesIfRoom b arrival old new → new.tracker.follows_rfc ≡ old.tracker.follows_rfc
received_same true arrival old new does = ap (λ (t : Transfer). t.tracker.follows_rfc) does.rest
received_same false arrival old new does = ap (λ (t : Transfer). t.tracker.follows_rfc) does ∙ dropped (old.tracker.follows_rfc && is_valid_tsn old.tracker.cumulative arrival.tsn)
  where
    dropped : (b : Bool) → (dropping b old).tracker.follows_rfc ≡ old.tracker.follows_rfc
    dropped true = refl
    dropped false = refl

forwarded_same : (b : Bool) (tsn : ℕ) (entries : List SkippedTo) (old new : Transfer) → MovesIfForward b tsn entries old new → new.tracker.follows_rfc ≡ old.tracker.follows_rfc
forwarded_same false tsn entries old new does = ap (λ (t : Transfer). t.tracker.follows_rfc) does
forwarded_same true tsn entries old new does = ap (λ (t : Transfer). t.tracker.follows_rfc) does.rest ∙ go (is_forward old.tracker.cumulative tsn)
  where
    go : (b : Bool) → (if b then moved_forward tsn old.tracker else delay_over old.tracker).follows_rfc ≡ old.tracker.follows_rfc
    go true = refl
    go false = refl

gave_same : (b : Bool) (room : ℕ) (t : Transfer) (after : TrackerState) (chunks : List Plain) → Acknowledges b room t after chunks → after.follows_rfc ≡ t.tracker.follows_rfc
gave_same false room t after chunks does = ap (λ (x : TrackerState). x.follows_rfc) does.0
gave_same true room t after chunks does = ap (λ (x : TrackerState). x.follows_rfc) does.0

timed_same : (round_trip : Option ℕ) (t : Transfer) → (timed_transfer round_trip t).tracker.follows_rfc ≡ t.tracker.follows_rfc
timed_same None t = refl
timed_same (Some round_trip) t = refl

sack_same : (now : ℕ) (sack : SackContent) (old new : Transfer) → TakesSack now sack old new → new.tracker.follows_rfc ≡ old.tracker.follows_rfc
sack_same now sack old new does = ap (λ (t : Transfer). t.tracker.follows_rfc) does.is ∙ timed_same does.round_trip (record old { retransmission = does.left })

taken_same : (options : Options) (now : ℕ) (messages : List MessageContent) (t : Transfer) → (taken_to options now messages t).tracker.follows_rfc ≡ t.tracker.follows_rfc
taken_same options now messages t = go (opens_window options t (with_messages messages t))
  where
    go : (b : Bool) → (hastened_where_open b now (with_messages messages t)).tracker.follows_rfc ≡ t.tracker.follows_rfc
    go true = refl
    go false = refl

ended_same : (now : ℕ) (tracker : TrackerState) (state : AckState) → (delayed_from now tracker state).follows_rfc ≡ tracker.follows_rfc
ended_same now tracker Idle = refl
ended_same now tracker BecomingDelayed = refl
ended_same now tracker Delayed = refl
ended_same now tracker Immediate = refl

pub following_kept : Keeps (Unit {0}) (Unit {0}) (Unit {0}) FollowingLayer FollowingLayer
following_kept =
    record {
      weaker = λ options t h. h;
      begins = λ options kinds first peer window. refl;
      changes_peer = λ options now peer window t h. refl;
      restores = λ may options now state t restores. ap (λ (x : Transfer). x.tracker.follows_rfc) restores.is;
      sets_longest = λ options bytes t h. h;
      gives = λ ask e draft t answer h gave. gave_same _ _ t gave.tracker gave.sacks gave.acknowledges ∙ h;
      resends = λ options now bytes waiting t left tsns h does. h;
      acknowledges = λ options now sack old new h does. sack_same now sack old new does ∙ h;
      loses = λ options now t h. h;
      receives = λ may options arrival old new h does. received_same _ arrival old new does ∙ h;
      forwards = λ may options tsn entries old new h does. forwarded_same _ tsn entries old new does ∙ h;
      delays = λ may options t h. h;
      ends = λ options now t h due. ended_same now t.tracker t.tracker.acknowledgement ∙ h;
      answers = λ options now t h. ended_same now t.tracker t.tracker.acknowledgement ∙ h;
      times = λ options round_trip t h. timed_same round_trip t ∙ h;
      takes = λ options now messages t h. taken_same options now messages t ∙ h;
      resets = λ options reassembly t h. h;
    }

-- What the receiver reports in its packets was reached, and what comes back to the sender is one of these
-- packets.
use Rattle.std.proofs.Common.{◌≡◌, ◌≢◌, ◌≤◌, ◌+◌, ◌-◌, ◌%◌, ◌^◌, ℕ, Option, None, Some, List, [], ◌∷◌, ◌++◌, refl, sym, ◌∙◌, subst, inl, inr, arith}
use Rattle.std.specs.Prelude.{◌⊎◌}
use Rattle.dcsctp_spec_lemmas.specs.wire.Content.{data_chunk, init_chunk, init_ack_chunk, sack_chunk, heartbeat_chunk, heartbeat_ack_chunk, abort_chunk, shutdown_chunk, shutdown_ack_chunk, error_chunk, cookie_echo_chunk, cookie_ack_chunk, shutdown_complete_chunk, i_data_chunk, re_config_chunk, forward_tsn_chunk, i_forward_tsn_chunk, unknown_chunk}
use Rattle.dcsctp_spec_lemmas.specs.types.declared.options.Options.{Options}
use Rattle.dcsctp_spec_lemmas.specs.spec.Packet.{Content, init, init_ack, cookie_echo, cookie_ack, re_config, abort, shutdown, shutdown_ack, shutdown_complete, plain, unknown, heartbeat, heartbeat_ack, unworked, Emission}
use Rattle.dcsctp_spec_lemmas.specs.spec.association.Effect.{Effect}
use Rattle.dcsctp_spec_lemmas.specs.spec.queues.Tracker.{TrackerState}
use Rattle.dcsctp_spec_runs.specs.Past.{HasEffect}
use Rattle.dcsctp_spec_lemmas.specs.spec.endpoint.Event.{Event, packets_of_events}
use Rattle.dcsctp_delivery_directions.proofs.directions.Requests.{packets_apart}
use Rattle.dcsctp_delivery_directions.specs.sending.Places.{HasEntry}
use Rattle.dcsctp_delivery_directions.specs.directions.Directions.{HasReached, DirectionRun}
use Rattle.dcsctp_delivery_directions.proofs.directions.Reached.{run_starts}
use Rattle.dcsctp_delivery_sockets.specs.turns.Actions.{NoEnd, ReportsTo, AreReports}
use Rattle.dcsctp_delivery_sockets.specs.turns.Reporting.{IsReachedBetween}
use Rattle.dcsctp_delivery_sockets.specs.turns.Reports.{ReportsSo, AllReportSo, NoReports, ComesReported}
use Rattle.dcsctp_delivery_sockets.proofs.turns.Reported.{all_more}
use Rattle.dcsctp_delivery_sockets.specs.associations.Ends.{SendingEnd, ReceivingEnd, direction_of_ends, HadTag, IsHeard, AreHeard, CameInPacket, CameBack}

-- ---- what was reached stays reached

-- The one end has reached no more than the other.
pub record HasGrown (old new : ReceivingEnd) : Type 0 where
  pub first_is : new.first_tsn ≡ old.first_tsn
  pub grows : old.tracker.cumulative ≤ new.tracker.cumulative

pub not_grown : (end : ReceivingEnd) → HasGrown end end
not_grown end = record { first_is = refl; grows = omega arith }

pub same_grown : (old new : ReceivingEnd) → new ≡ old → HasGrown old new
same_grown old new same = subst (HasGrown old) (sym same) (not_grown old)

reached_later : (old new : ReceivingEnd) (tsn : ℕ) → HasGrown old new → HasReached old.first_tsn old.tracker tsn → HasReached new.first_tsn new.tracker tsn
reached_later old new tsn grown reached =
    subst (λ (n : ℕ). HasReached n new.tracker tsn) (sym grown.first_is)
    (record { number = reached.number; from = reached.from; to = (let up = reached.to in let more = grown.grows in omega (arith, up, more)); is = reached.is })

had_later : (past past' : List Effect) (tag first : ℕ) → ((effect : Effect) → HasEffect effect past → HasEffect effect past') → HadTag past tag first → HadTag past' tag first
had_later past past' tag first within had = record { link = had.link; held = within _ had.held; tag_is = had.tag_is; first_is = had.first_is; some = had.some }

-- What was heard is heard still, where each end that was there has grown.
pub heard_later : (gets gets' : ℕ → ReceivingEnd) (past past' : List Effect) → ((effect : Effect) → HasEffect effect past → HasEffect effect past') → ((tag : ℕ) → HadTag past tag (gets tag).first_tsn → HasGrown (gets tag) (gets' tag))
    → (heard : List Emission) → AreHeard gets past heard → AreHeard gets' past' heard
heard_later gets gets' past past' within grown [] are = tt
heard_later gets gets' past past' within grown (emission ∷ heard) are = (one are.0, heard_later gets gets' past past' within grown heard are.1)
  where
    met : HadTag past emission.packet.tag (gets emission.packet.tag).first_tsn → AllReportSo (HasReached (gets emission.packet.tag).first_tsn (gets emission.packet.tag).tracker) emission.packet.contents
        → HadTag past' emission.packet.tag (gets' emission.packet.tag).first_tsn × AllReportSo (HasReached (gets' emission.packet.tag).first_tsn (gets' emission.packet.tag).tracker) emission.packet.contents
    met had says =
        let more = grown emission.packet.tag had in (
          subst (HadTag past' emission.packet.tag) (sym more.first_is) (had_later past past' emission.packet.tag (gets emission.packet.tag).first_tsn within had),
          all_more (HasReached (gets emission.packet.tag).first_tsn (gets emission.packet.tag).tracker) (HasReached (gets' emission.packet.tag).first_tsn (gets' emission.packet.tag).tracker)
              (λ tsn reached. reached_later (gets emission.packet.tag) (gets' emission.packet.tag) tsn more reached) emission.packet.contents says,
        )

    one : IsHeard gets past emission → IsHeard gets' past' emission
    one (inl none) = inl none
    one (inr (free, is)) = inr (free, elim is [ inl zero ↦ inl zero | inr both ↦ inr (met both.0 both.1) ])

pub heard_both : (gets : ℕ → ReceivingEnd) (past : List Effect) (heard more : List Emission) → AreHeard gets past heard → AreHeard gets past more → AreHeard gets past (heard ++ more)
heard_both gets past [] more are are' = are'
heard_both gets past (emission ∷ heard) more are are' = (are.0, heard_both gets past heard more are.1 are')

-- So are the packets among more events.
pub heard_all : (gets : ℕ → ReceivingEnd) (past : List Effect) (seen more : List (Event Emission)) → AreHeard gets past (packets_of_events seen) → AreHeard gets past (packets_of_events more) → AreHeard gets past (packets_of_events (seen ++ more))
heard_all gets past seen more are are' = subst (AreHeard gets past) (sym (packets_apart seen more)) (heard_both gets past (packets_of_events seen) (packets_of_events more) are are')

-- ---- packets of a turn

-- Packets to a peer that the receiver had report what was reached there.
pub heard_there : (gets : ℕ → ReceivingEnd) (past : List Effect) (to : ℕ) (so : ℕ → Type 0) (packets : List Emission) → HadTag past to (gets to).first_tsn → ((tsn : ℕ) → so tsn → HasReached (gets to).first_tsn (gets to).tracker tsn)
    → AreReports to so packets → AreHeard gets past packets
heard_there gets past to so [] had each says = tt
heard_there gets past to so (emission ∷ packets) had each says = (one says.0, heard_there gets past to so packets had each says.1)
  where
    one : ReportsTo to so emission → IsHeard gets past emission
    one (inl none) = inl none
    one (inr (tag, free, all)) =
        inr (
          free,
          inr (
              subst (λ (t : ℕ). HadTag past t (gets t).first_tsn × AllReportSo (HasReached (gets t).first_tsn (gets t).tracker) emission.packet.contents) (sym tag)
              (had, all_more so (HasReached (gets to).first_tsn (gets to).tracker) each emission.packet.contents all)),
        )

-- Those that report nothing are heard,
pub heard_nothing : (gets : ℕ → ReceivingEnd) (past : List Effect) (to : ℕ) (packets : List Emission) → AreReports to (λ tsn. ⊥) packets → AreHeard gets past packets
heard_nothing gets past to [] says = tt
heard_nothing gets past to (emission ∷ packets) says = (elim says.0 [ inl none ↦ inl none | inr reports ↦ inl reports.2 ], heard_nothing gets past to packets says.1)

-- and those to the tag 0.
pub heard_nowhere : (gets : ℕ → ReceivingEnd) (past : List Effect) (to : ℕ) (so : ℕ → Type 0) (packets : List Emission) → to ≡ 0 → AreReports to so packets → AreHeard gets past packets
heard_nowhere gets past to so [] zero says = tt
heard_nowhere gets past to so (emission ∷ packets) zero says =
    (elim says.0 [ inl none ↦ inl none | inr reports ↦ inr (reports.1, inl (reports.0 ∙ zero)) ], heard_nowhere gets past to so packets zero says.1)

-- What was passed from the first TSN on was reached.
pub passed_reached : (first start : ℕ) (tracker : TrackerState) (tsn : ℕ) → (first + (2 ^ 32 - 1)) % 2 ^ 32 ≤ start → IsReachedBetween start tracker.cumulative tsn → HasReached first tracker tsn
passed_reached first start tracker tsn begun passed = record { number = passed.number; from = (let from = passed.from in omega (arith, begun, from)); to = passed.to; is = passed.is }

-- The end of a run began with its first TSN.
pub begun_with : (options : Options) (first size : ℕ) (sends : SendingEnd) (end : ReceivingEnd) → DirectionRun options first size (direction_of_ends sends end)
    → (end.first_tsn ≡ first) × ((first + (2 ^ 32 - 1)) % 2 ^ 32 ≤ end.tracker.cumulative)
begun_with options first size sends end run = run_starts options first size (direction_of_ends sends end) run

-- ---- what comes back

one_reports : (so : ℕ → Type 0) (contents : List Content) (content : Content) → AllReportSo so contents → HasEntry content contents → ReportsSo so content
one_reports so [] content says has = absurd has
one_reports so (first ∷ contents) content says (inl here) = subst (ReportsSo so) (sym here) says.0
one_reports so (first ∷ contents) content says (inr later) = one_reports so contents content says.1 later

pub one_heard : (gets : ℕ → ReceivingEnd) (past : List Effect) (heard : List Emission) (emission : Emission) → AreHeard gets past heard → HasEntry emission heard → IsHeard gets past emission
one_heard gets past [] emission are has = absurd has
one_heard gets past (first ∷ heard) emission are (inl here) = subst (IsHeard gets past) (sym here) are.0
one_heard gets past (first ∷ heard) emission are (inr later) = one_heard gets past heard emission are.1 later

-- Such a packet reports nothing, or has no ABORT, no SHUTDOWN COMPLETE and no INIT.
pub silent_or_free : (gets : ℕ → ReceivingEnd) (past : List Effect) (emission : Emission) → IsHeard gets past emission → NoReports emission.packet.contents ⊎ NoEnd emission.packet.contents
silent_or_free gets past emission (inl none) = inl none
silent_or_free gets past emission (inr (free, is)) = inr free

-- A chunk of such a packet reports what was reached, or nothing.
came_in : (gets : ℕ → ReceivingEnd) (past : List Effect) (heard : List Emission) (tag : ℕ) (content : Content) → tag ≢ 0 → AreHeard gets past heard → CameInPacket heard tag content
    → ReportsSo (λ tsn. ⊥) content ⊎ ReportsSo (HasReached (gets tag).first_tsn (gets tag).tracker) content
came_in gets past heard tag content some are came = go (one_heard gets past heard came.emission are came.was)
  where
    go : IsHeard gets past came.emission → ReportsSo (λ tsn. ⊥) content ⊎ ReportsSo (HasReached (gets tag).first_tsn (gets tag).tracker) content
    go (inl none) = inl (one_reports (λ tsn. ⊥) came.emission.packet.contents content none came.holds)
    go (inr (free, inl zero)) = absurd (some (sym came.to ∙ zero))
    go (inr (free, inr both)) =
        inr (subst (λ (t : ℕ). ReportsSo (HasReached (gets t).first_tsn (gets t).tracker) content) came.to
        (one_reports (HasReached (gets came.emission.packet.tag).first_tsn (gets came.emission.packet.tag).tracker) came.emission.packet.contents content both.1 came.holds))

-- So does what comes back.
pub came_back : (gets : ℕ → ReceivingEnd) (past : List Effect) (heard : List Emission) (tag : ℕ) (came : Option Content) → tag ≢ 0 → AreHeard gets past heard → CameBack heard tag came
    → ComesReported (HasReached (gets tag).first_tsn (gets tag).tracker) came
came_back gets past heard tag None some are back = tt
came_back gets past heard tag (Some (plain (unworked (data_chunk c)))) some are back = tt
came_back gets past heard tag (Some (plain (unworked (init_chunk c)))) some are back = tt
came_back gets past heard tag (Some (plain (unworked (init_ack_chunk c)))) some are back = tt
came_back gets past heard tag (Some (plain (unworked (sack_chunk c)))) some are back = elim (came_in gets past heard tag (plain (unworked (sack_chunk c))) some are back) [ inl none ↦ absurd none | inr reached ↦ reached ]
came_back gets past heard tag (Some (plain (unworked (heartbeat_chunk c)))) some are back = tt
came_back gets past heard tag (Some (plain (unworked (heartbeat_ack_chunk c)))) some are back = tt
came_back gets past heard tag (Some (plain (unworked (abort_chunk t c)))) some are back = tt
came_back gets past heard tag (Some (plain (unworked (shutdown_chunk c)))) some are back = tt
came_back gets past heard tag (Some (plain (unworked shutdown_ack_chunk))) some are back = tt
came_back gets past heard tag (Some (plain (unworked (error_chunk c)))) some are back = tt
came_back gets past heard tag (Some (plain (unworked (cookie_echo_chunk c)))) some are back = tt
came_back gets past heard tag (Some (plain (unworked cookie_ack_chunk))) some are back = tt
came_back gets past heard tag (Some (plain (unworked (shutdown_complete_chunk t)))) some are back = tt
came_back gets past heard tag (Some (plain (unworked (i_data_chunk c)))) some are back = tt
came_back gets past heard tag (Some (plain (unworked (re_config_chunk c)))) some are back = tt
came_back gets past heard tag (Some (plain (unworked (forward_tsn_chunk t s)))) some are back = tt
came_back gets past heard tag (Some (plain (unworked (i_forward_tsn_chunk t s)))) some are back = tt
came_back gets past heard tag (Some (plain (unworked (unknown_chunk t f v)))) some are back = tt
came_back gets past heard tag (Some (plain (unknown t f v))) some are back = tt
came_back gets past heard tag (Some (plain (heartbeat c))) some are back = tt
came_back gets past heard tag (Some (plain (heartbeat_ack c))) some are back = tt
came_back gets past heard tag (Some (init c)) some are back = tt
came_back gets past heard tag (Some (init_ack c k)) some are back = tt
came_back gets past heard tag (Some (cookie_echo c)) some are back = tt
came_back gets past heard tag (Some cookie_ack) some are back = tt
came_back gets past heard tag (Some (re_config c)) some are back = tt
came_back gets past heard tag (Some (abort t c)) some are back = tt
came_back gets past heard tag (Some (shutdown c)) some are back = elim (came_in gets past heard tag (shutdown c) some are back) [ inl none ↦ absurd none | inr reached ↦ reached ]
came_back gets past heard tag (Some shutdown_ack) some are back = tt
came_back gets past heard tag (Some (shutdown_complete t)) some are back = tt

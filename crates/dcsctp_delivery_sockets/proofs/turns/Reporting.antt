-- What each turn reports: no TSN that wasn't received.
use Rattle.dcsctp_delivery_sockets.specs.turns.Actions as actions
use Rattle.std.proofs.Common.{◌≡◌, ◌≤◌, ℕ, Option, None, Some, List, [], ◌∷◌, ◌++◌, refl, sym, ◌∙◌, ap, subst, inl, arith}
use Rattle.dcsctp_spec_lemmas.specs.spec.Packet.{Content, Emission}
use Rattle.dcsctp_spec_lemmas.specs.spec.association.Effect.{Effect, identity_of_core}
use Rattle.dcsctp_spec_lemmas.specs.spec.endpoint.Endpoint.{Endpoint}
use Rattle.dcsctp_spec_lemmas.specs.spec.endpoint.Event.{packets_of_events}
use Rattle.dcsctp_spec_lemmas.specs.spec.endpoint.FlushOutcomes.{flush_of, first_ask, packets_allowed}
use Rattle.dcsctp_spec_lemmas.specs.spec.endpoint.Outcome.{Outcome}
use Rattle.dcsctp_spec_lemmas.specs.spec.endpoint.Turn.{Input}
use Rattle.dcsctp_spec_lemmas.specs.spec.queues.Arrivals.{data_arrival, i_data_arrival, named_skips, skipped_messages}
use Rattle.dcsctp_spec_lemmas.specs.spec.queues.Tracker.{TrackerState, cumulative_tsn}
use Rattle.dcsctp_spec_lemmas.specs.spec.queues.Transfer.{Transfer, EndpointQueues}
use Rattle.dcsctp_spec_lemmas.specs.types.queues.Messages.{MessageContent}
use Rattle.dcsctp_delivery_directions.specs.sending.Log.{Message}
use Rattle.dcsctp_delivery_directions.specs.directions.Directions.{nothing_asked}
use Rattle.dcsctp_delivery_directions.proofs.receiving.Upward.{received_grows, forward_grows}
use Rattle.dcsctp_delivery_sockets.specs.turns.Actions.{Ledger, ledger_of, AreReports, Action, Actions, nothing, further, Inside, inside, LeadsToLedger, MakesAlso, BeginsAssociation, begun_transfer, opening_queues, IsOpening, OwnEnds, PeerResets, unreset, absent, deferred, reset_now, prepared_inside, Collides, kept_inside, Becomes, goes_on, pauses, works_resets, renews, ends, begins, collides, content_of_input, queued_after, read_after, peer_tag, streams_user_resets, IsCall}
use Rattle.dcsctp_delivery_sockets.specs.turns.Asking.{own_of, SomeFit}
use Rattle.dcsctp_delivery_sockets.specs.turns.Reporting.{IsReachedBetween, TurnReports, reports_on, reports_anew, reports_nothing, reports_nowhere, TurnsReport}
use Rattle.dcsctp_delivery_sockets.specs.turns.Reports.{AllReportSo, IsCumulative}
use Rattle.dcsctp_delivery_sockets.specs.turns.Runs.{OpensSmall}
use Rattle.dcsctp_delivery_sockets.proofs.turns.Beginnings.{nothing_fits, worked_fits}
use Rattle.dcsctp_delivery_sockets.proofs.turns.Fronts.{own_ends_received, front_none}
use Rattle.dcsctp_delivery_sockets.proofs.turns.Idle.{actions_none}
use Rattle.dcsctp_delivery_sockets.proofs.turns.Outlasts.{other_begun}
use Rattle.dcsctp_delivery_sockets.proofs.turns.Received.{alike, timed_alike, flush_left}
use Rattle.dcsctp_delivery_sockets.proofs.turns.Reported.{chunks_report, flush_reports, both_reports, all_more, reports_more}
use Rattle.dcsctp_delivery_sockets.proofs.turns.Turns.{turns_are_actions}

-- ---- one action

-- What was passed earlier was passed later, too.
pub passed_more : (start old new tsn : ℕ) → old ≤ new → IsReachedBetween start old tsn → IsReachedBetween start new tsn
passed_more start old new tsn grows is = record { number = is.number; from = is.from; to = (let up = is.to in omega (arith, grows, up)); is = is.is }

-- The tracker moves on, and what is sent reports no more.
record Reported (to : ℕ) (transfer : Transfer) (old new : Ledger) : Type 0 where
  left : Transfer
  is : new.queues.transfer ≡ Some left
  grows : transfer.tracker.cumulative ≤ left.tracker.cumulative
  reports : (start : ℕ) → start ≤ transfer.tracker.cumulative → AreReports to (IsReachedBetween start transfer.tracker.cumulative) old.sent → AreReports to (IsReachedBetween start left.tracker.cumulative) new.sent

module _ (came : Option Content) (to : ℕ) where
  same_transfer : (found : Option Transfer) (one other : Transfer) → found ≡ Some one → found ≡ Some other → one ≡ other
  same_transfer found one other first second = cc

  -- where nothing is sent
  unsent : (old new : Ledger) (transfer left : Transfer) → new.queues.transfer ≡ Some left → transfer.tracker.cumulative ≤ left.tracker.cumulative → new.sent ≡ old.sent → Reported to transfer old new
  unsent old new transfer left is grows same =
      record {
        left = left;
        is = is;
        grows = grows;
        reports = λ start from says. subst (AreReports to (IsReachedBetween start left.tracker.cumulative)) (sym same)
            (reports_more (IsReachedBetween start transfer.tracker.cumulative) (IsReachedBetween start left.tracker.cumulative) (λ tsn passed. passed_more start transfer.tracker.cumulative left.tracker.cumulative tsn grows passed) to old.sent says);
      }

  not_less : (one other : ℕ) → other ≡ one → one ≤ other
  not_less one other same = omega (arith, same)

  -- where these packets are
  sends_also : (old new : Ledger) (transfer left : Transfer) (packets : List Emission) → new.queues.transfer ≡ Some left → left.tracker.cumulative ≡ transfer.tracker.cumulative → new.sent ≡ old.sent ++ packets
      → AreReports to (IsCumulative (Some transfer)) packets → Reported to transfer old new
  sends_also old new transfer left packets is same sent says =
      record {
        left = left;
        is = is;
        grows = not_less transfer.tracker.cumulative left.tracker.cumulative same;
        reports = λ start from before. subst (λ (n : ℕ). AreReports to (IsReachedBetween start n) new.sent) (sym same) (subst (AreReports to (IsReachedBetween start transfer.tracker.cumulative)) (sym sent)
            (both_reports (IsReachedBetween start transfer.tracker.cumulative) to old.sent packets before
            (reports_more (IsCumulative (Some transfer)) (IsReachedBetween start transfer.tracker.cumulative) (λ tsn is_it. record { number = transfer.tracker.cumulative; from = from; to = not_less _ _ refl; is = is_it }) to packets says)));
      }

  by_found : (old new : Ledger) (found transfer : Transfer) → old.queues.transfer ≡ Some found → old.queues.transfer ≡ Some transfer → Reported to found old new → Reported to transfer old new
  by_found old new found transfer known is reported = subst (λ (t : Transfer). Reported to t old new) (same_transfer old.queues.transfer found transfer known is) reported

  action_reports : (old new : Ledger) (transfer : Transfer) → old.queues.transfer ≡ Some transfer → Action came to old new → Reported to transfer old new
  action_reports old _ transfer is (actions.queues now message fits some) = unsent old _ transfer transfer is (not_less _ _ refl) refl
  action_reports old _ transfer is (actions.sets setting small) = unsent old _ transfer transfer is (not_less _ _ refl) refl
  action_reports old _ transfer is (actions.speaks emission no_data stale says) =
      sends_also old _ transfer transfer (emission ∷ []) is refl refl (subst (λ (t : Option Transfer). AreReports to (IsCumulative t) (emission ∷ [])) is (says, tt))
  action_reports old _ transfer is (actions.asks_again emission begun tag has contents) =
      sends_also old _ transfer transfer (emission ∷ []) is refl refl (inl (subst (AllReportSo (λ tsn. ⊥)) (sym contents) (tt, tt)), tt)
  action_reports old _ transfer is (actions.flushes e draft answers same at tag no_data no_end stale says allowed) =
      let known : e.queues.transfer ≡ Some transfer = ap (λ (b : EndpointQueues). b.transfer) same ∙ is in
      let left = flush_left first_ask (packets_allowed e.options.max_burst e.core) e draft answers transfer known allowed in
      sends_also old _ transfer left.left (packets_of_events (flush_of e draft answers).events) left.is left.same.cumulative refl
      (flush_reports (IsCumulative (Some transfer)) to e draft answers (λ found here. ap (λ (t : Transfer). cumulative_tsn t.tracker) (same_transfer e.queues.transfer found transfer here known)) at tag no_end
      (subst (λ (t : Option Transfer). AllReportSo (IsCumulative t) draft.packet.contents) is says) allowed)
  action_reports old new transfer is (actions.resends now room found left tsns chunks emission tag known sends are contents) =
      by_found old new found transfer known is
      (sends_also old new found _ (emission ∷ []) refl refl refl (inl (subst (AllReportSo (λ tsn. ⊥)) (sym contents) (chunks_report (λ tsn. ⊥) left.outstanding tsns chunks are)), tt))
  action_reports old new transfer is (actions.resends_nothing now room found left tsns known sends) = by_found old new found transfer known is (unsent old new found _ refl (not_less _ _ refl) refl)
  action_reports old new transfer is (actions.acknowledges now sack found next may known valid does) =
      by_found old new found transfer known is
      (unsent old new found next refl
      (not_less _ _ (ap (λ (t : Transfer). t.tracker.cumulative) does.is ∙ (timed_alike does.round_trip (record found { retransmission = does.left })).cumulative)) refl)
  action_reports old new transfer is (actions.loses now found known) = by_found old new found transfer known is (unsent old new found _ refl (not_less _ _ refl) refl)
  action_reports old new transfer is (actions.receives chunk found next came_is some known does) =
      by_found old new found transfer known is (unsent old new found next refl (received_grows (data_arrival chunk) found next does) refl)
  action_reports old new transfer is (actions.receives_interleaved chunk found next came_is some known does) =
      by_found old new found transfer known is (unsent old new found next refl (received_grows (i_data_arrival chunk) found next does) refl)
  action_reports old new transfer is (actions.forwards tsn streams found next came_is known does) =
      by_found old new found transfer known is (unsent old new found next refl (forward_grows tsn (named_skips streams) found next does) refl)
  action_reports old new transfer is (actions.forwards_interleaved tsn streams found next came_is known does) =
      by_found old new found transfer known is (unsent old new found next refl (forward_grows tsn (skipped_messages streams) found next does) refl)
  action_reports old new transfer is (actions.tracks found tracked known cumulative ranges) = by_found old new found transfer known is (unsent old new found _ refl (not_less _ _ cumulative) refl)
  action_reports old new transfer is (actions.times round_trip found known) =
      by_found old new found transfer known is (unsent old new found _ refl (not_less _ _ (timed_alike round_trip found).cumulative) refl)
  action_reports old new transfer is (actions.takes found message messages known ready) = by_found old new found transfer known is (unsent old new found _ refl (not_less _ _ refl) refl)

  actions_report : (old new : Ledger) (transfer : Transfer) → old.queues.transfer ≡ Some transfer → Actions came to old new → Reported to transfer old new
  actions_report old _ transfer is nothing = unsent old old transfer transfer is (not_less _ _ refl) refl
  actions_report old _ transfer is (further between new first last) =
      let before = actions_report old between transfer is first in
      let after = action_reports between new before.left before.is last in
      record {
        left = after.left;
        is = after.is;
        grows = (let one = before.grows in let two = after.grows in omega (arith, one, two));
        reports = λ start from says. after.reports start (let one = before.grows in omega (arith, one, from)) (before.reports start from says);
      }

  -- ---- without an association

  abbrev Anything : ℕ → Type 0
  Anything tsn = Unit {0}

  action_nowhere : (old new : Ledger) → old.queues.transfer ≡ None → Action came to old new → AreReports to Anything old.sent → AreReports to Anything new.sent
  action_nowhere old _ none (actions.queues now message fits some) before = before
  action_nowhere old _ none (actions.sets setting small) before = before
  action_nowhere old _ none (actions.speaks emission no_data stale says) before =
      both_reports Anything to old.sent (emission ∷ []) before (reports_more (IsCumulative old.queues.transfer) Anything (λ tsn is. tt) to (emission ∷ []) (says, tt))
  action_nowhere old _ none (actions.asks_again emission begun tag has contents) before =
      both_reports Anything to old.sent (emission ∷ []) before (inl (subst (AllReportSo (λ tsn. ⊥)) (sym contents) (tt, tt)), tt)
  action_nowhere old _ none (actions.flushes e draft answers same at tag no_data no_end stale says allowed) before =
      both_reports Anything to old.sent (packets_of_events (flush_of e draft answers).events) before
      (flush_reports Anything to e draft answers (λ found here. tt) at tag no_end (all_more (IsCumulative old.queues.transfer) Anything (λ tsn is. tt) draft.packet.contents says) allowed)
  action_nowhere old _ none (actions.resends now room found left tsns chunks emission tag known sends are contents) before = absurd (cc)
  action_nowhere old _ none (actions.resends_nothing now room found left tsns known sends) before = before
  action_nowhere old _ none (actions.acknowledges now sack found next may known valid does) before = before
  action_nowhere old _ none (actions.loses now found known) before = before
  action_nowhere old _ none (actions.receives chunk found next came_is some known does) before = before
  action_nowhere old _ none (actions.receives_interleaved chunk found next came_is some known does) before = before
  action_nowhere old _ none (actions.forwards tsn streams found next came_is known does) before = before
  action_nowhere old _ none (actions.forwards_interleaved tsn streams found next came_is known does) before = before
  action_nowhere old _ none (actions.tracks found tracked known cumulative ranges) before = before
  action_nowhere old _ none (actions.times round_trip found known) before = before
  action_nowhere old _ none (actions.takes found message messages known ready) before = before

  actions_nowhere : (old new : Ledger) → old.queues.transfer ≡ None → Actions came to old new → AreReports to Anything old.sent → AreReports to Anything new.sent
  actions_nowhere old _ none nothing before = before
  actions_nowhere old _ none (further between new first last) before =
      action_nowhere between new (actions_none came to old between first none) last (actions_nowhere old between none first before)

-- ---- each turn

-- A request of the peer leaves what was received.
record SameNumber (transfer : Transfer) (new : Inside) : Type 0 where
  left : Transfer
  is : new.queues.transfer ≡ Some left
  same : left.tracker ≡ transfer.tracker

asked_number : (came : Option Content) (happened : List Effect) (old new : Inside) (transfer : Transfer) → old.queues.transfer ≡ Some transfer → PeerResets came happened old new → SameNumber transfer new
asked_number came happened old _ transfer is (unreset none) = record { left = transfer; is = is; same = refl }
asked_number came happened old _ transfer is (absent gone) = record { left = transfer; is = is; same = refl }
asked_number came happened old _ transfer is (deferred none parameters reset came_is wants found known) =
    record { left = _; is = refl; same = (let one : found ≡ transfer = cc in ap (λ (t : Transfer). t.tracker) one) }
asked_number came happened old _ transfer is (reset_now some parameters reset came_is wants found reassembly known reached leaves) =
    record { left = _; is = refl; same = (let one : found ≡ transfer = cc in ap (λ (t : Transfer). t.tracker) one) }

module _ (e : Endpoint) (input : Input) (o : Outcome) (fits : SomeFit (own_of e)) (small : OpensSmall e input o) where
  -- The association continues, by actions from here.
  on_from : {adds : List Message → List Message} {taken : List MessageContent → List MessageContent} → identity_of_core o.after.core ≡ identity_of_core e.core → (worked : Inside) → SomeFit worked.own
      → (found : Option Transfer) → e.queues.transfer ≡ found → ((transfer : Transfer) → found ≡ Some transfer → SameNumber transfer worked) → (found ≡ None → worked.queues.transfer ≡ None)
      → MakesAlso (content_of_input input) (peer_tag e.core) adds taken worked (packets_of_events o.events) (inside o.after) → TurnReports e input o
  on_from linked worked fit None none there nowhere makes =
      let made = makes [] [] [] fit.first fit.asking fit.fits in
      reports_nowhere none linked (actions_nowhere (content_of_input input) (peer_tag e.core) _ _ (nowhere refl) made.actions tt)
  on_from linked worked fit (Some transfer) is there nowhere makes =
      let made = makes [] [] [] fit.first fit.asking fit.fits in
      let start = there transfer refl in
      let reported = actions_report (content_of_input input) (peer_tag e.core) _ _ start.left start.is made.actions in
      let same : start.left.tracker.cumulative ≡ transfer.tracker.cumulative = ap (λ (t : TrackerState). t.cumulative) start.same in
      reports_on transfer reported.left linked is reported.is (let grows = reported.grows in omega (arith, same, grows))
      (reported.reports transfer.tracker.cumulative (omega (arith, same)) tt)

  report_so : {to : Option (List ℕ)} {adds : List Message → List Message} {taken : List MessageContent → List MessageContent} → Becomes to (content_of_input input) (peer_tag e.core) adds taken e o → TurnReports e input o
  report_so (goes_on calm linked makes) =
      on_from linked (inside e) fits e.queues.transfer refl (λ transfer is. record { left = transfer; is = is; same = refl }) (λ none. none) makes
  report_so (pauses ids resets calm accepted linked small' makes) =
      on_from linked (prepared_inside ids (inside e)) fits e.queues.transfer refl (λ transfer is. record { left = transfer; is = is; same = refl }) (λ none. none) makes
  report_so (works_resets linked between worked own peer makes) =
      on_from linked worked (worked_fits (content_of_input input) o (inside e) between worked own peer fits) e.queues.transfer refl
      (λ transfer is. asked_number (content_of_input input) o.effects between worked transfer (own_ends_received o.effects (inside e) between own ∙ is) peer)
      (λ none. front_none (content_of_input input) o.effects (inside e) between worked own peer none) makes
  report_so (renews calm linked alike unread own number emission kept out is packets tag contents) = renewed e.queues.transfer refl
    where
      none_reported : (so : ℕ → Type 0) → AreReports (peer_tag e.core) so (packets_of_events o.events)
      none_reported so = subst (AreReports (peer_tag e.core) so) (sym packets) (inl (subst (AllReportSo (λ tsn. ⊥)) (sym contents) (tt, tt)), tt)

      renewed : (found : Option Transfer) → e.queues.transfer ≡ found → TurnReports e input o
      renewed None none = reports_nowhere none linked (none_reported (λ tsn. Unit {0}))
      renewed (Some transfer) known =
          reports_on transfer transfer linked known (ap (λ (i : Inside). i.queues.transfer) is ∙ known) (omega arith) (none_reported (IsReachedBetween transfer.tracker.cumulative transfer.tracker.cumulative))
  report_so (ends none unread silent last kept makes is) = reports_nothing none silent
  report_so (begins begun opening linked alike unread again makes) =
      let made = makes [] [] [] begun.my.first_tsn nothing_asked (nothing_fits begun.my.first_tsn again (small begun opening linked)) in
      let reported = actions_report (content_of_input input) begun.held.peer.tag _ _ (begun_transfer e o begun) refl made.actions in
      reports_anew begun reported.left opening linked reported.is reported.grows (reported.reports (begun_transfer e o begun).tracker.cumulative (omega arith) tt)
  report_so (collides collision alike unread again makes) =
      let begun : BeginsAssociation e o = other_begun e input o collision in
      let made = makes [] [] [] begun.my.first_tsn nothing_asked (nothing_fits begun.my.first_tsn again (small begun collision.opened.opening collision.opened.linked)) in
      let same : collision.kept.tracker ≡ (begun_transfer e o begun).tracker = ap (λ (t : Transfer). t.tracker) collision.kept_is.2 in
      let reported = actions_report (content_of_input input) collision.opened.link.peer.tag _ _ collision.kept refl made.actions in
      let number : collision.kept.tracker.cumulative ≡ (begun_transfer e o begun).tracker.cumulative = ap (λ (t : TrackerState). t.cumulative) same in
      reports_anew begun reported.left collision.opened.opening collision.opened.linked reported.is (let grows = reported.grows in omega (arith, number, grows))
      (reported.reports (begun_transfer e o begun).tracker.cumulative (omega (arith, number)) tt)

pub turns_report : TurnsReport
turns_report e input o fits small may turn = report_so e input o fits small (turns_are_actions e input o may turn)

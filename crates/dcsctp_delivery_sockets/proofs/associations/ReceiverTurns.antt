-- Each turn of the receiver.
use Rattle.std.proofs.Common.{[], ◌++◌, ◌≡◌, ◌≢◌, ℕ, Bool, true, false, ◌<◌, ◌≤◌, ◌+◌, ◌-◌, ◌%◌, ◌^◌, Option, None, Some, List, length, arith, refl, sym, ◌∙◌, ap, subst, inl, inr}
use Rattle.std.specs.Prelude.{◌⊎◌, ◌||◌, Bool}
use Rattle.dcsctp_spec_lemmas.specs.types.declared.options.Options.{Options}
use Rattle.dcsctp_spec_lemmas.specs.types.Settings.{SameOptions}
use Rattle.dcsctp_spec_lemmas.specs.spec.endpoint.Endpoint.{Endpoint}
use Rattle.dcsctp_spec_lemmas.specs.spec.endpoint.Event.{Event, packets_of_events}
use Rattle.dcsctp_spec_lemmas.specs.spec.endpoint.Outcome.{Outcome}
use Rattle.dcsctp_spec_lemmas.specs.spec.Packet.{Emission}
use Rattle.dcsctp_spec_lemmas.specs.spec.endpoint.Turn.{Input, Turn}
use Rattle.dcsctp_spec_runs.specs.World.{after_effects}
use Rattle.dcsctp_spec_lemmas.specs.spec.association.Effect.{AssociationIdentity, Effect, identity_of, identity_of_core}
use Rattle.dcsctp_spec_lemmas.specs.spec.queues.Reassembly.{ReassemblyState}
use Rattle.dcsctp_spec_lemmas.specs.spec.queues.Tracker.{TrackerState}
use Rattle.dcsctp_spec_lemmas.specs.spec.queues.Transfer.{Transfer}
use Rattle.dcsctp_delivery_directions.specs.sending.Places.{HasEntry, table_with}
use Rattle.dcsctp_delivery_directions.specs.sending.Log.{Message}
use Rattle.dcsctp_delivery_directions.proofs.sending.Places.{decide, set_same, set_other}
use Rattle.dcsctp_delivery_directions.specs.directions.Directions.{PerformedReset, Asking, nothing_asked, Direction, HasReached, DirectionRun}
use Rattle.dcsctp_delivery_directions.proofs.directions.RequestCounts.{requests_are_sent}
use Rattle.dcsctp_delivery_sockets.specs.turns.Asking.{Own, AsksFit, OutIs}
use Rattle.dcsctp_delivery_sockets.specs.turns.PeerRequests.{KnowsPeerOfCore, IsPlainRequest}
use Rattle.dcsctp_delivery_sockets.specs.turns.Runs.{IsNewest, KnowsRequest, PerformsNewest, performed_if_reset, PerformsByTurn}
use Rattle.dcsctp_delivery_sockets.proofs.turns.PeersTurns.{ends_ask_nothing, unlinked_asks_nothing}
use Rattle.dcsctp_delivery_sockets.specs.associations.Answered.{IsInStep, StandsSo, in_step, plain, requests_of, waiting_deferral, AreAnswered}
use Rattle.dcsctp_delivery_sockets.specs.associations.Laws.{TellsPerformed, AsksLittle}
use Rattle.dcsctp_delivery_sockets.proofs.associations.UnaskedPasts.{reset_none}
use Rattle.dcsctp_delivery_sockets.proofs.associations.AnsweringRests.{none_performed}
use Rattle.dcsctp_delivery_sockets.proofs.associations.ReceiverAnswers.{asked_ends, plainly_sent, named_here, Standing, performs_newest, newest_or_not, nothing_performed, goes_answered}
use Rattle.dcsctp_spec_lemmas.specs.spec.Packet.{re_config}
use Rattle.dcsctp_spec_lemmas.specs.types.declared.association.Pair.{Pair}
use Rattle.dcsctp_spec_runs.specs.Past.{HasEffect, WasPerformed}
use Rattle.dcsctp_spec_lemmas.specs.spec.Reconfiguration.{RequestedReset, ResetParameter}
use Rattle.dcsctp_spec_lemmas.specs.spec.association.Effect.{holds}
use Rattle.dcsctp_spec_lemmas.specs.spec.endpoint.ResetOutcomes.{has_reset, first_reset_request}
use Rattle.dcsctp_delivery_sockets.specs.turns.Actions.{AreReports, IsOpening, content_of_input, peer_tag, read_after, BeginsAssociation, IsCall}
use Rattle.dcsctp_delivery_sockets.specs.turns.Reporting.{IsReachedBetween, TurnReports, reports_on, reports_anew, reports_nothing, reports_nowhere}
use Rattle.dcsctp_delivery_sockets.specs.turns.Asking.{own_of, SomeFit}
use Rattle.dcsctp_delivery_sockets.specs.turns.Sides.{WasSent, receiving}
use Rattle.dcsctp_delivery_sockets.specs.turns.Runs.{RecordsByTurn, reached_count, ReceiverTurns, receiver_goes_on, receiver_ends, receiver_begins, IdleTurns, idle_stays, idle_begins, taken_turn}
use Rattle.dcsctp_delivery_sockets.proofs.turns.Runs.{receivers_go_on, receivers_begin}
use Rattle.dcsctp_delivery_sockets.proofs.turns.Reporting.{turns_report}
use Rattle.dcsctp_delivery_sockets.specs.associations.Ends.{WasReported, LeavesReady, ReceivingEnd, direction_of_ends, new_end, Ends, sender_key, HadBoth, NewTag, HadTag, IsCurrentEnd, WasReset, unbegun_end, MetOrAlone, AreHeard, AreSeen, Between, sending_side, receiving_side}
use Rattle.dcsctp_delivery_sockets.specs.associations.Reads.{Tags, tags_of, ReadMessage, ReportedReset, Reading, tags_or, reached_index, resets_after, reading_after, tagged_after, with_key}
use Rattle.dcsctp_delivery_sockets.proofs.associations.WhatIsLeft.{goes_left, ends_left}
use Rattle.dcsctp_delivery_sockets.proofs.associations.WhatIsReset.{still_told, told_now, performed_is_told, among_reported, reset_stays, reported_performed, performed_more, performed_none}
use Rattle.dcsctp_spec_lemmas.specs.spec.endpoint.DataOutcomes.{ready_or_left}
use Rattle.dcsctp_spec_lemmas.specs.types.queues.Messages.{MessageContent}
use Rattle.dcsctp_delivery_sockets.proofs.associations.WhatIsRead.{all_of_after, all_of_later, of_link_later, reads_still, opening_still, own_read, other_read}
use Rattle.dcsctp_delivery_sockets.proofs.associations.Growing.{set_all}
use Rattle.dcsctp_delivery_sockets.proofs.associations.Own.{unlinked_some}
use Rattle.dcsctp_delivery_sockets.specs.associations.Laws.{AreEnds}
use Rattle.dcsctp_theorem_association.proofs.Growth.{after_within}
use Rattle.dcsctp_delivery_sockets.proofs.associations.Heard.{HasGrown, not_grown, heard_later, heard_all, heard_there, passed_reached, begun_with}
use Rattle.dcsctp_delivery_sockets.proofs.associations.Seen.{RequestsStay, IsNamedNow, seen_turn}
use Rattle.dcsctp_delivery_sockets.specs.turns.ToldResets.{ReportsResets}
use Rattle.dcsctp_delivery_sockets.proofs.turns.ToldResets.{turns_tell_resets}
use Rattle.dcsctp_delivery_sockets.proofs.associations.Senders.{link_peer, alone_later, met_later}
use Rattle.dcsctp_delivery_sockets.proofs.associations.ReceiverStays.{tag_later, begun_later, sender_asked}
use Rattle.dcsctp_delivery_sockets.proofs.associations.ReceiverBegins.{opens_goes}
use Rattle.dcsctp_delivery_sockets.proofs.associations.ReceiverRests.{rests, idle_rests}

module _ (options : Options) (ends : Ends) (e : Endpoint) (queued : List Message) (past : List Effect) (packets : List Emission) (d : Endpoint) (their_past : List Effect) (reading : Reading)
    (h : Between options ends (sending_side e queued past packets) (receiving_side d their_past reading)) (few : length queued < 2 ^ 64) (same : SameOptions options d.options) (input : Input) (o : Outcome)
    (new : (begun : BeginsAssociation d o) → IsOpening (content_of_input input) → identity_of_core o.after.core ≡ Some (identity_of begun.my begun.held) → NewTag their_past past (identity_of begun.my begun.held)) (w : AreAnswered ends e past d their_past)
    (little : AsksLittle packets) (new_tags : (link old : AssociationIdentity) → HasEffect (holds link) o.effects → HasEffect (holds old) their_past → old.peer.tag ≢ link.peer.tag) (may : IsCall input) (turn : Turn d input o) (seen : List (Event Emission)) (reported : AreSeen ends d their_past seen) (shows : TellsPerformed o) where
  -- what is to be shown of the turn
  abbrev pub Turned : Type 0
  Turned = AreEnds ends.calls (seen ++ o.events) options (sending_side e queued past packets) (receiving_side o.after (after_effects o.effects their_past) (reading_after d input o reading))

  -- what its packets report
  reports : TurnReports d input o
  reports = turns_report d input o h.receiver.fits (λ begun opening linked. (new begun opening linked).own_small) may turn

  unread_goes : tagged_after reading.last d input reading.reads ≡ reading.reads
      → AreEnds ends.calls (seen ++ o.events) options (sending_side e queued past packets) (receiving_side o.after (after_effects o.effects their_past) (record { reads = reading.reads; last = tags_or reading.last (identity_of_core o.after.core); resets = resets_after d input o reading })) → Turned
  unread_goes unread goes =
      subst (λ (l : List ReadMessage). AreEnds ends.calls (seen ++ o.events) options (sending_side e queued past packets) (receiving_side o.after (after_effects o.effects their_past) (record { reads = l; last = tags_or reading.last (identity_of_core o.after.core); resets = resets_after d input o reading }))) (sym unread) goes

  -- ---- an association continues

  module _ (transfer : Transfer) (there : d.queues.transfer ≡ Some transfer) (c : IsCurrentEnd ends d their_past transfer) where
    -- the sender's end is of no account
    abbrev alone_end : Transfer → List PerformedReset → ReceivingEnd
    alone_end left performed =
        record { first_tsn = (ends.gets c.link.peer.tag).first_tsn; tracker = left.tracker; reassembly = left.reassembly; read = read_after d input (ends.gets c.link.peer.tag).read; performed = performed }

    alone_run : (left : Transfer) (performed : List PerformedReset) → performed ≡ (ends.gets c.link.peer.tag).performed → o.after.queues.transfer ≡ Some left → WasSent [] (content_of_input input) → DirectionRun options (ends.firsts c.link.peer.tag) options.max_receiver_window_buffer_size (direction_of_ends (unbegun_end options) (ends.gets c.link.peer.tag))
        → identity_of_core o.after.core ≡ identity_of_core d.core
        → DirectionRun options (ends.firsts c.link.peer.tag) options.max_receiver_window_buffer_size (direction_of_ends (unbegun_end options) (alone_end left performed))
    alone_run left performed kept is none run same' =
        go
        (receivers_go_on false options (ends.firsts c.link.peer.tag) options.max_receiver_window_buffer_size (direction_of_ends (unbegun_end options) (ends.gets c.link.peer.tag)) transfer d input o
        (subst (λ (t : TrackerState). DirectionRun options (ends.firsts c.link.peer.tag) options.max_receiver_window_buffer_size (direction_of_ends (unbegun_end options) (record { first_tsn = (ends.gets c.link.peer.tag).first_tsn; tracker = t; reassembly = transfer.reassembly; read = (ends.gets c.link.peer.tag).read; performed = (ends.gets c.link.peer.tag).performed }))) c.tracker
        (subst (λ (r : ReassemblyState). DirectionRun options (ends.firsts c.link.peer.tag) options.max_receiver_window_buffer_size (direction_of_ends (unbegun_end options) (record { first_tsn = (ends.gets c.link.peer.tag).first_tsn; tracker = (ends.gets c.link.peer.tag).tracker; reassembly = r; read = (ends.gets c.link.peer.tag).read; performed = (ends.gets c.link.peer.tag).performed }))) c.reassembly run))
        there none (inl refl) h.receiver.fits (λ begun opening linked. (new begun opening linked).own_small) may turn)
      where
        one : (found : Option Transfer) (first second : Transfer) → found ≡ Some first → found ≡ Some second → first ≡ second
        one found first second a b = cc

        go : ReceiverTurns false options (ends.firsts c.link.peer.tag) options.max_receiver_window_buffer_size (direction_of_ends (unbegun_end options) (ends.gets c.link.peer.tag)) transfer (taken_turn d input o)
            → DirectionRun options (ends.firsts c.link.peer.tag) options.max_receiver_window_buffer_size (direction_of_ends (unbegun_end options) (alone_end left performed))
        go (receiver_goes_on linked other there' fits asking by others records run') =
            subst (λ (t : Transfer). DirectionRun options (ends.firsts c.link.peer.tag) options.max_receiver_window_buffer_size (direction_of_ends (unbegun_end options) (alone_end t performed))) (one o.after.queues.transfer other left there' is)
            (subst (λ (l : List PerformedReset). DirectionRun options (ends.firsts c.link.peer.tag) options.max_receiver_window_buffer_size (direction_of_ends (unbegun_end options) (alone_end other l)))
            (performed_none d input o _ (ends.gets c.link.peer.tag).performed others records none ∙ sym kept)
            (subst (λ (a : Asking). DirectionRun options (ends.firsts c.link.peer.tag) options.max_receiver_window_buffer_size (record (direction_of_ends (unbegun_end options) (alone_end other others)) { asking = a })) (by.3 ∙ unknown by.0) run'))
          where
            unknown : (reset : Bool) → performed_if_reset false reset nothing_asked ≡ nothing_asked
            unknown true = refl
            unknown false = refl
        go (receiver_ends none' gone unread) = (let clash : ◌≡◌ {A = Option Transfer} None (Some left) = sym gone ∙ is in absurd (cc))
        go (receiver_begins opens) =
            absurd ((new opens.begun opens.opening opens.linked).other c.link c.held
            (ap (λ (l : AssociationIdentity). l.peer.tag) (same_one (identity_of_core d.core) c.link (identity_of opens.begun.my opens.begun.held) c.linked (sym same' ∙ opens.linked))))
          where
            same_one : (found : Option AssociationIdentity) (first second : AssociationIdentity) → found ≡ Some first → found ≡ Some second → first ≡ second
            same_one found first second a b = cc

    alone_so : (left : Transfer) (asking : Asking) (count : ℕ) (performed : List PerformedReset) → RecordsByTurn input o count (ends.gets c.link.peer.tag).performed performed → o.after.queues.transfer ≡ Some left → identity_of_core o.after.core ≡ identity_of_core d.core → (HadBoth past c.link.peer.tag c.link.my.tag ⊎ WasSent [] (content_of_input input)) → MetOrAlone options ends past their_past c.link.peer.tag
        → MetOrAlone options (asked_ends ends c.link.peer.tag asking (alone_end left performed)) past (after_effects o.effects their_past) c.link.peer.tag
    alone_so left asking count performed records is same' (inl both) before = inl (record { link = c.link; held = after_within o.effects their_past (holds c.link) c.held; tag_is = refl; both = both })
    alone_so left asking count performed records is same' (inr none) (inl met) = inl (met_later past past their_past (after_effects o.effects their_past) (λ effect has. has) (after_within o.effects their_past) c.link.peer.tag met)
    alone_so left asking count performed records is same' (inr none) (inr run) =
        inr
        (subst (λ (g : ReceivingEnd). DirectionRun options (ends.firsts c.link.peer.tag) options.max_receiver_window_buffer_size (direction_of_ends (unbegun_end options) g)) (sym (set_same c.link.peer.tag (alone_end left performed) ends.gets))
        (alone_run left performed (performed_none d input o count (ends.gets c.link.peer.tag).performed performed records none) is none run same'))

    -- What is reported in the turn was reached in it.
    heard_going : identity_of_core o.after.core ≡ identity_of_core d.core → (left : Transfer) (performed : List PerformedReset) → o.after.queues.transfer ≡ Some left
        → AreHeard (table_with c.link.peer.tag (alone_end left performed) ends.gets) (after_effects o.effects their_past) (packets_of_events (seen ++ o.events))
    heard_going linked left performed is = go reports
      where
        same_link : (found : Option AssociationIdentity) (one two : AssociationIdentity) → found ≡ Some one → found ≡ Some two → one ≡ two
        same_link found one two a b = cc

        same_transfer : (found : Option Transfer) (one two : Transfer) → found ≡ Some one → found ≡ Some two → one ≡ two
        same_transfer found one two a b = cc

        -- The end had begun with its first TSN.
        started : ((ends.gets c.link.peer.tag).first_tsn ≡ ends.firsts c.link.peer.tag) × ((ends.firsts c.link.peer.tag + (2 ^ 32 - 1)) % 2 ^ 32 ≤ (ends.gets c.link.peer.tag).tracker.cumulative)
        started = begun_with options (ends.firsts c.link.peer.tag) options.max_receiver_window_buffer_size (ends.sends c.link.peer.tag) (ends.gets c.link.peer.tag) (h.runs c.link.peer.tag)

        number : (ends.gets c.link.peer.tag).tracker.cumulative ≡ transfer.tracker.cumulative
        number = ap (λ (t : TrackerState). t.cumulative) c.tracker

        met : HadTag (after_effects o.effects their_past) c.link.peer.tag (ends.gets c.link.peer.tag).first_tsn
        met = subst (HadTag (after_effects o.effects their_past) c.link.peer.tag) (sym started.0) (tag_later o.effects their_past c.link.peer.tag (ends.firsts c.link.peer.tag) c.had)

        grown : transfer.tracker.cumulative ≤ left.tracker.cumulative → (t : ℕ) → HasGrown (ends.gets t) (table_with c.link.peer.tag (alone_end left performed) ends.gets t)
        grown grows =
            set_all (λ t g. HasGrown (ends.gets t) g) c.link.peer.tag (alone_end left performed) ends.gets (record { first_is = refl; grows = (let same' = number in omega (arith, same', grows)) }) (λ t ne. not_grown (ends.gets t))

        turn_heard : transfer.tracker.cumulative ≤ left.tracker.cumulative → AreReports c.link.peer.tag (IsReachedBetween transfer.tracker.cumulative left.tracker.cumulative) (packets_of_events o.events)
            → AreHeard (table_with c.link.peer.tag (alone_end left performed) ends.gets) (after_effects o.effects their_past) (packets_of_events o.events)
        turn_heard grows says =
            heard_there (table_with c.link.peer.tag (alone_end left performed) ends.gets) (after_effects o.effects their_past) c.link.peer.tag (IsReachedBetween transfer.tracker.cumulative left.tracker.cumulative) (packets_of_events o.events)
            (subst (λ (g : ReceivingEnd). HadTag (after_effects o.effects their_past) c.link.peer.tag g.first_tsn) (sym (set_same c.link.peer.tag (alone_end left performed) ends.gets)) met)
            (λ tsn passed. subst (λ (g : ReceivingEnd). HasReached g.first_tsn g.tracker tsn) (sym (set_same c.link.peer.tag (alone_end left performed) ends.gets))
            (subst (λ (n : ℕ). HasReached n left.tracker tsn) (sym started.0)
            (passed_reached (ends.firsts c.link.peer.tag) transfer.tracker.cumulative left.tracker tsn (let from = started.1 in let same' = number in omega (arith, from, same')) passed))) says

        go : TurnReports d input o → AreHeard (table_with c.link.peer.tag (alone_end left performed) ends.gets) (after_effects o.effects their_past) (packets_of_events (seen ++ o.events))
        go (reports_on old other same' was other_is grows says) =
            let one : old ≡ transfer = same_transfer d.queues.transfer old transfer was there in
            let two : other ≡ left = same_transfer o.after.queues.transfer other left other_is is in
            let more : transfer.tracker.cumulative ≤ left.tracker.cumulative =
            subst (λ (t : Transfer). t.tracker.cumulative ≤ left.tracker.cumulative) one (subst (λ (t : Transfer). old.tracker.cumulative ≤ t.tracker.cumulative) two grows) in
            let to : AreReports c.link.peer.tag (IsReachedBetween transfer.tracker.cumulative left.tracker.cumulative) (packets_of_events o.events) =
            subst (λ (t : Transfer). AreReports c.link.peer.tag (IsReachedBetween t.tracker.cumulative left.tracker.cumulative) (packets_of_events o.events)) one
            (subst (λ (t : Transfer). AreReports c.link.peer.tag (IsReachedBetween old.tracker.cumulative t.tracker.cumulative) (packets_of_events o.events)) two
            (subst (λ (n : ℕ). AreReports n (IsReachedBetween old.tracker.cumulative other.tracker.cumulative) (packets_of_events o.events)) (link_peer d.core c.link c.linked) says)) in
            heard_all (table_with c.link.peer.tag (alone_end left performed) ends.gets) (after_effects o.effects their_past) seen o.events
            (heard_later ends.gets (table_with c.link.peer.tag (alone_end left performed) ends.gets) their_past (after_effects o.effects their_past) (after_within o.effects their_past) (λ t had. grown more t) (packets_of_events seen) reported.heard)
            (turn_heard more to)
        go (reports_anew begun other opening linked' other_is grows says) =
            absurd ((new begun opening linked').other c.link c.held
            (ap (λ (l : AssociationIdentity). l.peer.tag) (same_link (identity_of_core o.after.core) c.link (identity_of begun.my begun.held) (linked ∙ c.linked) linked')))
        go (reports_nothing gone says) = (let clash : ◌≡◌ {A = Option AssociationIdentity} None (Some c.link) = sym gone ∙ linked ∙ c.linked in absurd (cc))
        go (reports_nowhere none same' says) = (let clash : ◌≡◌ {A = Option Transfer} None (Some transfer) = sym none ∙ there in absurd (cc))

    -- As many were read or can be.
    reached_is : (left : Transfer) → o.after.queues.transfer ≡ Some left → reached_index d input o reading ≡ reached_count (read_after d input (ends.gets c.link.peer.tag).read) left
    reached_is left is =
        ap (λ (n : Tags). length (with_key n.peer (tagged_after n d input reading.reads)) + length (ready_or_left o.after.left o.after.queues.transfer)) (h.receiver.last c.link c.linked)
        ∙ ap (λ (t : Option Transfer). length (with_key c.link.peer.tag (tagged_after (tags_of c.link) d input reading.reads)) + length (ready_or_left o.after.left t)) is
        ∙ ap (λ (l : List MessageContent). length l + length left.reassembly.incoming.ready) (own_read (tags_of c.link) d input transfer reading.reads there ∙ ap (read_after d input) (h.receiver.were_read c.link.peer.tag))

    -- What is performed in the turn is reported, without `follow_rfc`.
    told_so : (left : Transfer) → o.after.queues.transfer ≡ Some left → (performed : List PerformedReset) → RecordsByTurn input o (reached_count (read_after d input (ends.gets c.link.peer.tag).read) left) (ends.gets c.link.peer.tag).performed performed
        → ReportsResets d input o → options.follow_rfc ≡ false → (reset : PerformedReset) → HasEntry reset performed → WasReported (resets_after d input o reading) c.link.peer.tag reset
    told_so left is performed records tells unruled reset has =
        elim (performed_is_told d input o (reached_count (read_after d input (ends.gets c.link.peer.tag).read) left) (ends.gets c.link.peer.tag).performed tells (ap (λ (x : Options). x.follow_rfc) same ∙ unruled) performed records reset has) [
          | inl before ↦ still_told reading.last (reached_index d input o reading) o.events reading.resets c.link.peer.tag reset (h.receiver.were_told unruled c.link.peer.tag reset before)
          | inr now ↦
              (let told = told_now reading.last (reached_index d input o reading) o.events reading.resets reset.streams now.1 in
              record {
                report = told.report;
                has = told.has;
                reset_is = told.reset_is ∙ ap (λ (n : ℕ). record { streams = reset.streams; index = n }) (reached_is left is ∙ sym now.0);
                tag_is = told.tag_is ∙ ap (λ (t : Tags). t.peer) (h.receiver.last c.link c.linked);
              })
        ]

    -- What is reported in the turn was performed.
    reset_so : (left : Transfer) → o.after.queues.transfer ≡ Some left → (performed : List PerformedReset) → RecordsByTurn input o (reached_count (read_after d input (ends.gets c.link.peer.tag).read) left) (ends.gets c.link.peer.tag).performed performed
        → IsPlainRequest (content_of_input input) → (report : ReportedReset) → HasEntry report (resets_after d input o reading)
        → WasReset (table_with c.link.peer.tag (alone_end left performed) ends.gets) (after_effects o.effects their_past) report
    reset_so left is performed records plainly report has =
        elim (among_reported reading.last (reached_index d input o reading) reading.resets report o.events has) [
          | inl new ↦
              (let tag_is : report.tags.peer ≡ c.link.peer.tag = ap (λ (t : Tags). t.peer) (new.tags_are ∙ h.receiver.last c.link c.linked) in
              let here : HasEntry report.reset performed =
              subst (λ (n : ℕ). HasEntry (record { streams = report.reset.streams; index = n }) performed) (sym (new.index_is ∙ count_is))
              (reported_performed d input o (reached_count (read_after d input (ends.gets c.link.peer.tag).read) left) (ends.gets c.link.peer.tag).performed plainly may turn shows performed records report.reset.streams new.told) in
              record {
                performed = subst (λ (n : ℕ). HasEntry report.reset (table_with c.link.peer.tag (alone_end left performed) ends.gets n).performed) (sym tag_is)
                    (subst (λ (g : ReceivingEnd). HasEntry report.reset g.performed) (sym (set_same c.link.peer.tag (alone_end left performed) ends.gets)) here);
                was_of = inr (c.link, after_within o.effects their_past (holds c.link) c.held, new.tags_are ∙ h.receiver.last c.link c.linked);
              })
          | inr old ↦
              reset_stays ends.gets (table_with c.link.peer.tag (alone_end left performed) ends.gets) their_past (after_effects o.effects their_past) report
              (set_all (λ t g. HasEntry report.reset (ends.gets t).performed → HasEntry report.reset g.performed) c.link.peer.tag (alone_end left performed) ends.gets
              (performed_more d input o (reached_count (read_after d input (ends.gets c.link.peer.tag).read) left) (ends.gets c.link.peer.tag).performed performed records report.reset) (λ t ne was. was)) (of_link_later o.effects their_past report.tags)
              (h.receiver.were_reset report old)
        ]
      where
        count_is : reached_index d input o reading ≡ reached_count (read_after d input (ends.gets c.link.peer.tag).read) left
        count_is = reached_is left is

    receives : identity_of_core o.after.core ≡ identity_of_core d.core → (left : Transfer) → o.after.queues.transfer ≡ Some left → SomeFit (own_of o.after) → (asking : Asking)
        → ((ends.sends c.link.peer.tag).asking ≡ nothing_asked → asking ≡ nothing_asked) → ((first : ℕ) (own : Option Own) → AsksFit first own (ends.sends c.link.peer.tag).asking → AsksFit first own asking)
        → (performed : List PerformedReset) → RecordsByTurn input o (reached_count (read_after d input (ends.gets c.link.peer.tag).read) left) (ends.gets c.link.peer.tag).performed performed → IsPlainRequest (content_of_input input)
        → AreAnswered (asked_ends ends c.link.peer.tag asking (alone_end left performed)) e past o.after (after_effects o.effects their_past)
        → ReportsResets d input o → RequestsStay (ends.sends c.link.peer.tag).asking asking → ((my : Pair) (number : ℕ) → WasPerformed my number o.effects → IsNamedNow ends.sends input my number)
        → (HadBoth past c.link.peer.tag c.link.my.tag ⊎ WasSent [] (content_of_input input)) → DirectionRun options (ends.firsts c.link.peer.tag) options.max_receiver_window_buffer_size
        (record (receiving (direction_of_ends (ends.sends c.link.peer.tag) (ends.gets c.link.peer.tag)) left (read_after d input (ends.gets c.link.peer.tag).read)) { performed = performed; asking = asking })
        → Turned
    receives linked left is fits asking still fit performed records plainly answered tells stay named met run =
        let tag : ℕ = c.link.peer.tag in
        let got : ReceivingEnd = alone_end left performed in
        subst (λ (n : Tags). AreEnds ends.calls (seen ++ o.events) options (sending_side e queued past packets) (receiving_side o.after (after_effects o.effects their_past) (record { reads = tagged_after n d input reading.reads; last = tags_or reading.last (identity_of_core o.after.core); resets = resets_after d input o reading }))) (sym (h.receiver.last c.link c.linked))
        (subst (λ (n : Tags). AreEnds ends.calls (seen ++ o.events) options (sending_side e queued past packets) (receiving_side o.after (after_effects o.effects their_past) (record { reads = tagged_after (tags_of c.link) d input reading.reads; last = n; resets = resets_after d input o reading }))) (sym (ap (tags_or reading.last) (linked ∙ c.linked)))
        (record {
          ends = asked_ends ends tag asking got;
          is = refl;
          between = record {
            runs = λ t. elim (decide t tag) [
              | inl e' ↦
                  subst (λ (n : ℕ). DirectionRun options (ends.firsts n) options.max_receiver_window_buffer_size (direction_of_ends ((asked_ends ends tag asking got).sends n) ((asked_ends ends tag asking got).gets n))) (sym e')
                  (subst (λ (x : Asking). DirectionRun options (ends.firsts tag) options.max_receiver_window_buffer_size (direction_of_ends (record (ends.sends tag) { asking = x }) (table_with tag got ends.gets tag))) (sym (set_same tag asking (λ n. (ends.sends n).asking)))
                  (subst (λ (g : ReceivingEnd). DirectionRun options (ends.firsts tag) options.max_receiver_window_buffer_size (direction_of_ends (record (ends.sends tag) { asking = asking }) g)) (sym (set_same tag got ends.gets)) run))
              | inr ne ↦
                  subst (λ (x : Asking). DirectionRun options (ends.firsts t) options.max_receiver_window_buffer_size (direction_of_ends (record (ends.sends t) { asking = x }) (table_with tag got ends.gets t))) (sym (set_other tag t asking (λ n. (ends.sends n).asking) ne))
                  (subst (λ (g : ReceivingEnd). DirectionRun options (ends.firsts t) options.max_receiver_window_buffer_size (direction_of_ends (ends.sends t) g)) (sym (set_other tag t got ends.gets ne)) (h.runs t))
            ];
            small = h.small;
            sender = sender_asked ends tag asking got (sender_key e.core) (peer_tag e.core) e.queues queued past packets h.sender still;
            asks = elim (decide (sender_key e.core) tag) [
              | inl e' ↦
                  subst (λ (x : Asking). AsksFit (ends.firsts (sender_key e.core)) (own_of e) x) (sym (ap (table_with tag asking (λ n. (ends.sends n).asking)) e' ∙ set_same tag asking (λ n. (ends.sends n).asking)))
                  (fit (ends.firsts (sender_key e.core)) (own_of e) (subst (λ (n : ℕ). AsksFit (ends.firsts (sender_key e.core)) (own_of e) (ends.sends n).asking) e' h.asks))
              | inr ne ↦ subst (λ (x : Asking). AsksFit (ends.firsts (sender_key e.core)) (own_of e) x) (sym (set_other tag (sender_key e.core) asking (λ n. (ends.sends n).asking) ne)) h.asks
            ];
            numbered = h.numbered;
            kept = h.kept;
            made = h.made;
            unmade = h.unmade;
            dropping = h.dropping;
            rules = h.rules;
            unbegun = h.unbegun;
            receiver = record {
              fits = fits;
              current = λ other there'. (
                  let one : left ≡ other = same_transfer o.after.queues.transfer left other is there' in
                  record {
                    link = c.link;
                    linked = linked ∙ c.linked;
                    held = after_within o.effects their_past (holds c.link) c.held;
                    own_some = c.own_some;
                    had = tag_later o.effects their_past tag (ends.firsts tag) c.had;
                    tracker = ap (λ (g : ReceivingEnd). g.tracker) (set_same tag got ends.gets) ∙ ap (λ (t : Transfer). t.tracker) one;
                    reassembly = ap (λ (g : ReceivingEnd). g.reassembly) (set_same tag got ends.gets) ∙ ap (λ (t : Transfer). t.reassembly) one;
                  }
                  );
              left = goes_left d input o may turn ends.gets (table_with tag got ends.gets) reading.last.peer tag left is h.receiver.left;
              last = λ link there'. ap tags_of (same_link (identity_of_core o.after.core) c.link link (linked ∙ c.linked) there');
              were_read = set_all (λ t g. with_key t (tagged_after (tags_of c.link) d input reading.reads) ≡ g.read) tag got ends.gets
                  (own_read (tags_of c.link) d input transfer reading.reads there ∙ ap (read_after d input) (h.receiver.were_read tag))
                  (λ t ne. other_read (tags_of c.link) d input reading.reads t ne ∙ h.receiver.were_read t);
              were_reset = λ report has. reset_so left is performed records plainly report has;
              were_told = λ unruled. set_all (λ t g. (reset : PerformedReset) → HasEntry reset g.performed → WasReported (resets_after d input o reading) t reset) tag got ends.gets (told_so left is performed records tells unruled)
                  (λ t ne reset has'. still_told reading.last (reached_index d input o reading) o.events reading.resets t reset (h.receiver.were_told unruled t reset has'));
              begun = λ t. elim (decide t tag) [
                | inl e' ↦ inr (subst (λ (n : ℕ). HadTag (after_effects o.effects their_past) n (ends.firsts n)) (sym e') (tag_later o.effects their_past tag (ends.firsts tag) c.had))
                | inr ne ↦ others t ne got (begun_later options ends o.effects their_past t (h.receiver.begun t))
              ];
              last_of = inr (c.link, after_within o.effects their_past (holds c.link) c.held, refl);
              reads_of = all_of_later o.effects their_past (tagged_after (tags_of c.link) d input reading.reads)
                  (all_of_after their_past (tags_of c.link) d input reading.reads (inr (c.link, c.held, refl)) h.receiver.reads_of);
            };
            mine = h.mine;
            idle = h.idle;
            alone = λ t. elim (decide t tag) [
              | inl e' ↦ subst (MetOrAlone options (asked_ends ends tag asking got) past (after_effects o.effects their_past)) (sym e') (alone_so left asking (reached_count (read_after d input (ends.gets c.link.peer.tag).read) left) performed records is linked met (h.alone tag))
              | inr ne ↦ alone_later options ends (asked_ends ends tag asking got) past past their_past (after_effects o.effects their_past) (λ effect has. has) (after_within o.effects their_past) t (set_other tag t got ends.gets ne) refl (h.alone t)
            ];
          };
          answered = answered;
          reported = seen_turn ends (asked_ends ends tag asking got) e past d their_past seen input o w
              (set_all (λ t a. t ≢ 0 → RequestsStay (ends.sends t).asking a) tag asking (λ n. (ends.sends n).asking) (λ some. stay) (λ t ne some begun has. has)) (heard_going linked left performed is) tells named reported;
        }))
      where
        same_link : (found : Option AssociationIdentity) (one two : AssociationIdentity) → found ≡ Some one → found ≡ Some two → one ≡ two
        same_link found one two a b = cc

        same_transfer : (found : Option Transfer) (one two : Transfer) → found ≡ Some one → found ≡ Some two → one ≡ two
        same_transfer found one two a b = cc

        others : (t : ℕ) → t ≢ c.link.peer.tag → (at : ReceivingEnd) → (ends.gets t ≡ new_end options (ends.firsts t)) ⊎ HadTag (after_effects o.effects their_past) t (ends.firsts t)
            → (table_with c.link.peer.tag at ends.gets t ≡ new_end options (ends.firsts t)) ⊎ HadTag (after_effects o.effects their_past) t (ends.firsts t)
        others t ne at (inl new) = inl (set_other c.link.peer.tag t at ends.gets ne ∙ new)
        others t ne at (inr had) = inr had

    now : DirectionRun options (ends.firsts c.link.peer.tag) options.max_receiver_window_buffer_size (receiving (direction_of_ends (ends.sends c.link.peer.tag) (ends.gets c.link.peer.tag)) transfer (ends.gets c.link.peer.tag).read)
    now =
        subst (λ (t : TrackerState). DirectionRun options (ends.firsts c.link.peer.tag) options.max_receiver_window_buffer_size (direction_of_ends (ends.sends c.link.peer.tag) (record { first_tsn = (ends.gets c.link.peer.tag).first_tsn; tracker = t; reassembly = transfer.reassembly; read = (ends.gets c.link.peer.tag).read; performed = (ends.gets c.link.peer.tag).performed }))) c.tracker
        (subst (λ (r : ReassemblyState). DirectionRun options (ends.firsts c.link.peer.tag) options.max_receiver_window_buffer_size (direction_of_ends (ends.sends c.link.peer.tag) (record { first_tsn = (ends.gets c.link.peer.tag).first_tsn; tracker = (ends.gets c.link.peer.tag).tracker; reassembly = r; read = (ends.gets c.link.peer.tag).read; performed = (ends.gets c.link.peer.tag).performed }))) c.reassembly
        (h.runs c.link.peer.tag))

    -- ---- what is known of the request that is handled

    direction : Direction
    direction = direction_of_ends (ends.sends c.link.peer.tag) (ends.gets c.link.peer.tag)

    few_asked : length (ends.sends c.link.peer.tag).asking.requests < 2 ^ 32 - 1
    few_asked =
        let sent = requests_are_sent options (ends.firsts c.link.peer.tag) options.max_receiver_window_buffer_size (direction_of_ends (ends.sends c.link.peer.tag) (ends.gets c.link.peer.tag)) (h.runs c.link.peer.tag) in
        let went = h.sender.few_requests c.link.peer.tag in
        let all = little c.link.peer.tag in
        omega (arith, sent, went, all)

    -- An association that begins is another one.
    new_same : (begun : BeginsAssociation d o) → IsOpening (content_of_input input) → identity_of_core o.after.core ≡ Some (identity_of begun.my begun.held) → identity_of begun.my begun.held ≡ c.link → ⊥
    new_same begun opening linked same' =
        let held = (w.answers.theirs_held c.link c.linked).0 in
        (new begun opening linked).other held.link held.held (held.tag_is ∙ ap (λ (l : AssociationIdentity). l.peer.tag) (sym same'))

    -- What is asked fits too once a request is performed.
    fits_performed : (known reset : Bool) (first : ℕ) (own : Option Own) (asking : Asking) → AsksFit first own asking → AsksFit first own (performed_if_reset known reset asking)
    fits_performed false reset first own asking fit = fit
    fits_performed true false first own asking fit = fit
    fits_performed true true first None asking fit = fit
    fits_performed true true first (Some own) asking fit = record { numbers = fit.numbers; next = fit.next; out = out_same own.number fit.out }
      where
        out_same : (number : Option ℕ) → OutIs number own.again asking → OutIs number own.again (record asking { is_performed = true })
        out_same None none = none
        out_same (Some number) one = record { one = one.one; earlier = one.earlier; is = one.is }

    -- What is asked stays.
    performed_stays : (known reset : Bool) (old asking : Asking) → asking ≡ performed_if_reset known reset old → RequestsStay old asking
    performed_stays false true old asking is begun has = subst (λ (a : Asking). HasEntry begun a.requests) (sym is) has
    performed_stays false false old asking is begun has = subst (λ (a : Asking). HasEntry begun a.requests) (sym is) has
    performed_stays true false old asking is begun has = subst (λ (a : Asking). HasEntry begun a.requests) (sym is) has
    performed_stays true true old asking is begun has = subst (λ (a : Asking). HasEntry begun a.requests) (sym is) has

    module _ (sent : WasSent (ends.sends c.link.peer.tag).sent (content_of_input input)) (met : HadBoth past c.link.peer.tag c.link.my.tag ⊎ WasSent [] (content_of_input input)) (knows : KnowsPeerOfCore their_past d.core) where
      -- what the user is told of resets
      plainly_here : IsPlainRequest (content_of_input input)
      plainly_here =
          plainly_sent options (ends.firsts c.link.peer.tag) options.max_receiver_window_buffer_size (direction_of_ends (ends.sends c.link.peer.tag) (ends.gets c.link.peer.tag)) (h.runs c.link.peer.tag) (content_of_input input) sent

      tells : ReportsResets d input o
      tells =
          turns_tell_resets d input o
          (inr plainly_here) may turn

      -- Where nothing was asked nothing is performed.
      still_nothing : (is_known : Bool) (asking : Asking) → PerformsByTurn is_known input o (direction_of_ends (ends.sends c.link.peer.tag) (ends.gets c.link.peer.tag)) asking → (left : Transfer) → o.after.queues.transfer ≡ Some left
          → (ends.sends c.link.peer.tag).asking ≡ nothing_asked → asking ≡ nothing_asked
      still_nothing is_known asking by left is none = by.3 ∙ go by.0 by.2
        where
          go : (is_reset : Bool) → (is_reset ≡ true → has_reset o.effects ≡ true) → performed_if_reset is_known is_reset (ends.sends c.link.peer.tag).asking ≡ nothing_asked
          go false says = by_known is_known
            where
              by_known : (b : Bool) → performed_if_reset b false (ends.sends c.link.peer.tag).asking ≡ nothing_asked
              by_known true = none
              by_known false = none
          go true says =
              absurd (nothing_performed ends e past d their_past w input o may turn new_tags c.link c.linked transfer left there is options.max_receiver_window_buffer_size options
              (direction_of_ends (ends.sends c.link.peer.tag) (ends.gets c.link.peer.tag)) (ends.firsts c.link.peer.tag) (h.runs c.link.peer.tag) refl sent few_asked knows (says refl) none)

      by_turn : (is_known : Bool)
          → ((left : Transfer) (is : o.after.queues.transfer ≡ Some left) → Standing ends e past d their_past w input o may turn new_tags c.link c.linked transfer left there is options.max_receiver_window_buffer_size options
          (direction_of_ends (ends.sends c.link.peer.tag) (ends.gets c.link.peer.tag)) (ends.firsts c.link.peer.tag) (h.runs c.link.peer.tag) refl sent few_asked knows is_known)
          → ReceiverTurns is_known options (ends.firsts c.link.peer.tag) options.max_receiver_window_buffer_size (direction_of_ends (ends.sends c.link.peer.tag) (ends.gets c.link.peer.tag)) transfer (taken_turn d input o) → Turned
      by_turn is_known stands (receiver_goes_on linked left is fits asking by performed records run) =
          receives linked left is fits asking (still_nothing is_known asking by left is)
          (λ first own fit. subst (λ (a : Asking). AsksFit first own a) (sym by.3) (fits_performed is_known by.0 first own (ends.sends c.link.peer.tag).asking fit))
          performed records plainly_here
          (goes_answered ends e past d their_past w input o may turn new_tags c.link c.linked transfer left there is options.max_receiver_window_buffer_size options
          (direction_of_ends (ends.sends c.link.peer.tag) (ends.gets c.link.peer.tag)) (ends.firsts c.link.peer.tag) (h.runs c.link.peer.tag) refl sent few_asked knows new_same linked is_known (stands left is) asking by _)
          tells (performed_stays is_known by.0 (ends.sends c.link.peer.tag).asking asking by.3)
          (named_here ends e past d their_past w input o may turn new_tags c.link c.linked transfer left there is options.max_receiver_window_buffer_size options
          (direction_of_ends (ends.sends c.link.peer.tag) (ends.gets c.link.peer.tag)) (ends.firsts c.link.peer.tag) (h.runs c.link.peer.tag) refl sent few_asked knows) met run
      by_turn is_known stands (receiver_ends none gone unread) =
          unread_goes (reads_still reading.last d input transfer reading.reads there unread)
          (rests options ends e queued past packets d their_past reading h input o w may turn seen reported reports tells shows gone (unlinked_some o.after none) none (none_performed o.effects (ends_ask_nothing d input o transfer may turn there gone))
          (subst (λ (n : Tags). LeavesReady ends.gets n.peer o.after.left o.after.queues.transfer) (sym (h.receiver.last c.link c.linked)) (ends_left d input o may turn ends.gets reading.last.peer c.link.peer.tag transfer there gone c.reassembly h.receiver.left)))
      by_turn is_known stands (receiver_begins opens) =
          unread_goes (opening_still reading.last d input reading.reads opens.opening) (opens_goes options ends e queued past packets d their_past reading h few same input o w may turn seen reported reports tells shows opens (new opens.begun opens.opening opens.linked))

      goes_known : (is_known : Bool) → KnowsRequest is_known (direction_of_ends (ends.sends c.link.peer.tag) (ends.gets c.link.peer.tag)) transfer (content_of_input input) o.effects
          → ReceiverTurns is_known options (ends.firsts c.link.peer.tag) options.max_receiver_window_buffer_size (direction_of_ends (ends.sends c.link.peer.tag) (ends.gets c.link.peer.tag)) transfer (taken_turn d input o)
      goes_known is_known newest =
          receivers_go_on is_known options (ends.firsts c.link.peer.tag) options.max_receiver_window_buffer_size (direction_of_ends (ends.sends c.link.peer.tag) (ends.gets c.link.peer.tag)) transfer d input o now there sent newest h.receiver.fits
          (λ begun opening linked. (new begun opening linked).own_small) may turn

      -- If the receiver is in step, what is performed wants what the newest wants.
      newest_so : IsInStep (requests_of ends w.pairs c.link.peer.tag) their_past transfer.reassembly.deferral → PerformsNewest (direction_of_ends (ends.sends c.link.peer.tag) (ends.gets c.link.peer.tag)) transfer (content_of_input input) o.effects
      newest_so step done = by_left o.after.queues.transfer refl
        where
          by_left : (found : Option Transfer) → o.after.queues.transfer ≡ found → (parameters : List ResetParameter) (reset : RequestedReset) → content_of_input input ≡ Some (re_config parameters) → first_reset_request parameters ≡ Some reset
              → IsNewest (direction_of_ends (ends.sends c.link.peer.tag) (ends.gets c.link.peer.tag)) transfer reset
          by_left None gone = (let clash : true ≡ false = sym done ∙ reset_none o.effects (ends_ask_nothing d input o transfer may turn there gone) in absurd (cc))
          by_left (Some left) is =
              performs_newest ends e past d their_past w input o may turn new_tags c.link c.linked transfer left there is options.max_receiver_window_buffer_size options
              (direction_of_ends (ends.sends c.link.peer.tag) (ends.gets c.link.peer.tag)) (ends.firsts c.link.peer.tag) (h.runs c.link.peer.tag) refl sent few_asked knows step done

      turn_goes : StandsSo (requests_of ends w.pairs c.link.peer.tag) their_past transfer.reassembly.deferral → Turned
      turn_goes (plain kind some) = by_turn false (λ left is. inl kind) (goes_known false (inl (ap (λ (b : Bool). (ends.sends c.link.peer.tag).queues.queue.is_interleaved || b) (h.dropping c.link.peer.tag).in_turn ∙ kind)))
      turn_goes (in_step step) = by_left o.after.queues.transfer refl
        where
          by_left : (found : Option Transfer) → o.after.queues.transfer ≡ found → Turned
          by_left None gone =
              by_turn false (λ left is. (let clash : ◌≡◌ {A = Option Transfer} None (Some left) = sym gone ∙ is in absurd (cc))) (goes_known false (inr (newest_so step)))
          by_left (Some left) is =
              elim (newest_or_not ends e past d their_past w input o may turn new_tags c.link c.linked transfer left there is options.max_receiver_window_buffer_size options
              (direction_of_ends (ends.sends c.link.peer.tag) (ends.gets c.link.peer.tag)) (ends.firsts c.link.peer.tag) (h.runs c.link.peer.tag) refl sent few_asked knows step) [
                | inl newest ↦ by_turn true (λ other there'. newest) (goes_known true (newest_so step))
                | inr behind ↦ by_turn false (λ other there'. behind) (goes_known false (inr (newest_so step)))
              ]

  -- ---- in any turn

  idle_tells : d.queues.transfer ≡ None → ReportsResets d input o
  idle_tells nowhere = turns_tell_resets d input o (inl (w.unlinked nowhere)) may turn

  idle_goes : d.queues.transfer ≡ None → IdleTurns d input o → Turned
  idle_goes nowhere (idle_stays which none fits unread) =
      idle_rests options ends e queued past packets d their_past reading h input o w may turn seen reported reports (idle_tells nowhere) shows nowhere none fits (elim which [ inl gone ↦ gone | inr same' ↦ same' ∙ w.unlinked nowhere ]) (none_performed o.effects (unlinked_asks_nothing d input o may turn (w.unlinked nowhere)).0)
  idle_goes nowhere (idle_begins opens) =
      unread_goes (opening_still reading.last d input reading.reads opens.opening) (opens_goes options ends e queued past packets d their_past reading h few same input o w may turn seen reported reports (idle_tells nowhere) shows opens (new opens.begun opens.opening opens.linked))

  -- What is handled in an association was sent in it.
  abbrev pub Sent : Type 0
  Sent = (transfer : Transfer) (link : AssociationIdentity) → d.queues.transfer ≡ Some transfer → identity_of_core d.core ≡ Some link → WasSent (ends.sends link.peer.tag).sent (content_of_input input) × (HadBoth past link.peer.tag link.my.tag ⊎ WasSent [] (content_of_input input))

  by_transfer : Sent → KnowsPeerOfCore their_past d.core → (found : Option Transfer) → d.queues.transfer ≡ found → Turned
  by_transfer sent knows None nowhere = idle_goes nowhere (receivers_begin d input o nowhere h.receiver.fits (λ begun opening linked. (new begun opening linked).own_small) may turn)
  by_transfer sent knows (Some transfer) there =
      let c = h.receiver.current transfer there in
      turn_goes transfer there c (sent transfer c.link there c.linked).0 (sent transfer c.link there c.linked).1 knows
      (subst (λ (t : Option Transfer). StandsSo (requests_of ends w.pairs c.link.peer.tag) their_past (waiting_deferral t)) there (w.answers.stands c.link c.linked))

  pub receiver_turns : KnowsPeerOfCore their_past d.core → Sent → Turned
  receiver_turns knows sent = by_transfer sent knows d.queues.transfer refl

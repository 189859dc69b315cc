-- A turn of the receiver after which it has no association: one ends in it, or there is none
-- before. Then its user may read what was left.
use Rattle.std.proofs.Common.{◌≡◌, ℕ, Option, None, Some, List, [], ◌∷◌, ◌++◌, refl, sym, ◌∙◌, ap, subst, inl, inr, arith}
use Rattle.std.specs.Prelude.{◌⊎◌}
use Rattle.dcsctp_spec_lemmas.specs.types.declared.options.Options.{Options}
use Rattle.dcsctp_spec_lemmas.specs.spec.endpoint.DataOutcomes.{ready_or_left}
use Rattle.dcsctp_spec_lemmas.specs.spec.endpoint.Endpoint.{Endpoint}
use Rattle.dcsctp_spec_lemmas.specs.spec.endpoint.Event.{Event, packets_of_events}
use Rattle.dcsctp_spec_lemmas.specs.spec.endpoint.Outcome.{Outcome}
use Rattle.dcsctp_spec_lemmas.specs.spec.Packet.{Emission}
use Rattle.dcsctp_spec_lemmas.specs.spec.endpoint.Turn.{Input, user_takes, Turn}
use Rattle.dcsctp_spec_runs.specs.World.{after_effects}
use Rattle.dcsctp_spec_lemmas.specs.spec.association.Effect.{AssociationIdentity, Effect, identity_of_core}
use Rattle.dcsctp_spec_lemmas.specs.types.queues.Messages.{MessageContent}
use Rattle.dcsctp_spec_lemmas.specs.spec.queues.Reassembly.{with_ready}
use Rattle.dcsctp_spec_lemmas.specs.spec.queues.Transfer.{Transfer}
use Rattle.dcsctp_delivery_directions.specs.sending.Places.{HasEntry, table_with}
use Rattle.dcsctp_delivery_directions.specs.sending.Log.{Message}
use Rattle.dcsctp_delivery_directions.proofs.sending.Places.{decide, set_same, set_other}
use Rattle.dcsctp_spec_laws.specs.LeftLaws.{without_first_message, left_once}
use Rattle.dcsctp_delivery_directions.specs.directions.Directions as directions
use Rattle.dcsctp_delivery_directions.specs.directions.Directions.{PerformedReset, DirectionRun}
use Rattle.dcsctp_delivery_sockets.specs.associations.Answered.{requests_of, waiting_deferral, AreAnswered}
use Rattle.dcsctp_delivery_sockets.proofs.associations.AnsweringRests.{same_requests}
use Rattle.dcsctp_delivery_sockets.proofs.associations.ReceiverOpens.{rests_answered}
use Rattle.dcsctp_spec_lemmas.specs.types.declared.association.Pair.{Pair}
use Rattle.dcsctp_spec_runs.specs.Past.{WasPerformed}
use Rattle.dcsctp_delivery_sockets.specs.turns.Actions.{peer_tag, IsCall}
use Rattle.dcsctp_delivery_sockets.specs.turns.Asking.{own_of, SomeFit}
use Rattle.dcsctp_delivery_sockets.specs.associations.Ends.{WasReported, ReceivingEnd, direction_of_ends, new_end, Ends, sender_key, HadTag, LeavesReady, unbegun_end, MetOrAlone, AreHeard, AreSeen, Between, sending_side, receiving_side}
use Rattle.dcsctp_delivery_sockets.specs.associations.Reads.{Tags, ReadMessage, Reading, tags_or, reached_index, resets_after, reading_after, tagged_after, and_first, with_key}
use Rattle.dcsctp_delivery_sockets.proofs.associations.WhatIsLeft.{left_idle, left_taken}
use Rattle.dcsctp_delivery_sockets.proofs.associations.WhatIsRead.{all_of_first, all_of_later, of_link_later, MayRead, reads_first, reads_none, may_read, first_own, first_other}
use Rattle.dcsctp_delivery_sockets.proofs.associations.Growing.{set_all}
use Rattle.dcsctp_delivery_sockets.specs.associations.Laws.{TellsPerformed, AreEnds}
use Rattle.dcsctp_delivery_sockets.proofs.associations.WhatIsReset.{still_told, still_reported, reset_stays}
use Rattle.dcsctp_theorem_association.proofs.Growth.{after_within}
use Rattle.dcsctp_delivery_sockets.proofs.associations.Heard.{HasGrown, not_grown, heard_later, heard_all, heard_nothing, heard_nowhere}
use Rattle.dcsctp_delivery_sockets.proofs.associations.Seen.{seen_turn}
use Rattle.dcsctp_delivery_sockets.specs.turns.ToldResets.{ReportsResets}
use Rattle.dcsctp_delivery_sockets.specs.turns.Reporting.{TurnReports, reports_on, reports_anew, reports_nothing, reports_nowhere}
use Rattle.dcsctp_delivery_sockets.proofs.associations.Senders.{no_peer, alone_later, met_later}
use Rattle.dcsctp_delivery_sockets.proofs.associations.ReceiverStays.{tag_later, begun_later, sender_same}

module _ (options : Options) (ends : Ends) (e : Endpoint) (queued : List Message) (past : List Effect) (packets : List Emission) (d : Endpoint) (their_past : List Effect) (reading : Reading)
    (h : Between options ends (sending_side e queued past packets) (receiving_side d their_past reading)) (input : Input) (o : Outcome) (w : AreAnswered ends e past d their_past) (may : IsCall input) (turn : Turn d input o) (seen : List (Event Emission)) (reported : AreSeen ends d their_past seen) (reports : TurnReports d input o) (tells : ReportsResets d input o) (shows : TellsPerformed o) where
  -- what is to be shown of the turn
  abbrev Turned : Type 0
  Turned = AreEnds ends.calls (seen ++ o.events) options (sending_side e queued past packets) (receiving_side o.after (after_effects o.effects their_past) (reading_after d input o reading))

  -- what is known after the turn, once this was read
  abbrev After : List ReadMessage → Type 0
  After reads = AreEnds ends.calls (seen ++ o.events) options (sending_side e queued past packets) (receiving_side o.after (after_effects o.effects their_past) (record { reads = reads; last = tags_or reading.last (identity_of_core o.after.core); resets = resets_after d input o reading }))

  unread_goes : tagged_after reading.last d input reading.reads ≡ reading.reads → After reading.reads → Turned
  unread_goes unread goes = subst After (sym unread) goes

  -- Without an association the last one stays the last.
  still_last : identity_of_core o.after.core ≡ None → (reads : List ReadMessage) → AreEnds ends.calls (seen ++ o.events) options (sending_side e queued past packets) (receiving_side o.after (after_effects o.effects their_past) (record { reads = reads; last = reading.last; resets = resets_after d input o reading })) → After reads
  still_last unlinked reads = subst (λ (n : Tags). AreEnds ends.calls (seen ++ o.events) options (sending_side e queued past packets) (receiving_side o.after (after_effects o.effects their_past) (record { reads = reads; last = n; resets = resets_after d input o reading }))) (sym (ap (tags_or reading.last) unlinked))

  -- What is reported in the turn is seen.
  heard_resting : o.after.queues.transfer ≡ None → identity_of_core o.after.core ≡ None → AreHeard ends.gets (after_effects o.effects their_past) (packets_of_events (seen ++ o.events))
  heard_resting none unlinked =
      heard_all ends.gets (after_effects o.effects their_past) seen o.events
      (heard_later ends.gets ends.gets their_past (after_effects o.effects their_past) (after_within o.effects their_past) (λ t had. not_grown (ends.gets t)) (packets_of_events seen) reported.heard) (go reports)
    where
      go : TurnReports d input o → AreHeard ends.gets (after_effects o.effects their_past) (packets_of_events o.events)
      go (reports_on old left linked was left_is grows says) = (let clash : ◌≡◌ {A = Option Transfer} None (Some left) = sym none ∙ left_is in absurd (cc))
      go (reports_anew begun left opening linked left_is grows says) = (let clash : ◌≡◌ {A = Option Transfer} None (Some left) = sym none ∙ left_is in absurd (cc))
      go (reports_nothing gone says) = heard_nothing ends.gets (after_effects o.effects their_past) _ (packets_of_events o.events) says
      go (reports_nowhere nowhere linked says) = heard_nowhere ends.gets (after_effects o.effects their_past) _ _ (packets_of_events o.events) (no_peer d.core (sym linked ∙ unlinked)) says

  -- there is none after the turn
  pub rests : o.after.queues.transfer ≡ None → SomeFit (own_of o.after) → identity_of_core o.after.core ≡ None → ((my : Pair) (number : ℕ) → WasPerformed my number o.effects → ⊥) → LeavesReady ends.gets reading.last.peer o.after.left o.after.queues.transfer
      → After reading.reads
  rests none fits unlinked no_performs left =
      still_last unlinked reading.reads (record {
        ends = ends;
        is = refl;
        between = record {
          runs = h.runs;
          small = h.small;
          sender = h.sender;
          asks = h.asks;
          numbered = h.numbered;
          kept = h.kept;
          made = h.made;
          unmade = h.unmade;
          dropping = h.dropping;
          rules = h.rules;
          unbegun = h.unbegun;
          receiver = record {
            fits = fits;
            current = λ transfer there. (let clash : ◌≡◌ {A = Option Transfer} None (Some transfer) = sym none ∙ there in absurd (cc));
            left = left;
            last = λ link there. (let clash : ◌≡◌ {A = Option AssociationIdentity} None (Some link) = sym unlinked ∙ there in absurd (cc));
            were_read = h.receiver.were_read;
            were_reset = λ report has.
                reset_stays ends.gets ends.gets their_past (after_effects o.effects their_past) report (λ t was. was) (of_link_later o.effects their_past report.tags)
                (h.receiver.were_reset report (still_reported reading.last (reached_index d input o reading) reading.resets report o shows no_performs has));
            were_told = λ plainly tag reset has. still_told reading.last (reached_index d input o reading) o.events reading.resets tag reset (h.receiver.were_told plainly tag reset has);
            begun = λ tag. begun_later options ends o.effects their_past tag (h.receiver.begun tag);
            last_of = of_link_later o.effects their_past reading.last h.receiver.last_of;
            reads_of = all_of_later o.effects their_past reading.reads h.receiver.reads_of;
          };
          mine = h.mine;
          idle = h.idle;
          alone = λ tag. alone_later options ends ends past past their_past (after_effects o.effects their_past) (λ effect has. has) (after_within o.effects their_past) tag refl refl (h.alone tag);
        };
        answered = rests_answered ends e past d their_past w input o may turn unlinked no_performs;
        reported = seen_turn ends ends e past d their_past seen input o w (λ tag some begun has. has) (heard_resting none unlinked) tells (λ my number has. absurd (no_performs my number has)) reported;
      })

  -- ---- without an association

  -- what can be taken without one
  abbrev IsLeft : List MessageContent → Type 0
  IsLeft left = (left ≡ []) ⊎ ((ends.gets reading.last.peer).reassembly.incoming.ready ≡ left)

  module _ (nowhere : d.queues.transfer ≡ None) (gone : o.after.queues.transfer ≡ None) (fits : SomeFit (own_of o.after)) (unlinked : identity_of_core o.after.core ≡ None)
      (no_performs : (my : Pair) (number : ℕ) → WasPerformed my number o.effects → ⊥) where
    -- Nothing is read.
    unread_rests : tagged_after reading.last d input reading.reads ≡ reading.reads → IsLeft o.after.left → Turned
    unread_rests unread left = unread_goes unread (rests gone fits unlinked no_performs (left_idle ends.gets reading.last.peer o.after.left o.after.queues.transfer gone left))

    -- The first of what an association left is read.
    left_read : (message : MessageContent) (messages : List MessageContent) → (ends.gets reading.last.peer).reassembly.incoming.ready ≡ message ∷ messages → o.after.left ≡ messages → After (and_first reading.last (message ∷ messages) reading.reads)
    left_read message messages ready left =
        let tag : ℕ = reading.last.peer in
        let got : ReceivingEnd = record { first_tsn = (ends.gets tag).first_tsn; tracker = (ends.gets tag).tracker; reassembly = with_ready messages (ends.gets tag).reassembly; read = (ends.gets tag).read ++ message ∷ []; performed = (ends.gets tag).performed } in
        let rest = rests_answered ends e past d their_past w input o may turn unlinked no_performs in
        still_last unlinked (and_first reading.last (message ∷ messages) reading.reads) (record {
          ends = record ends { gets = table_with tag got ends.gets };
          is = refl;
          between = record {
            runs = set_all (λ t g. DirectionRun options (ends.firsts t) options.max_receiver_window_buffer_size (direction_of_ends (ends.sends t) g)) tag got ends.gets
                (directions.goes_on (direction_of_ends (ends.sends tag) (ends.gets tag)) (direction_of_ends (ends.sends tag) got) (h.runs tag) (directions.takes message messages ready)) (λ t ne. h.runs t);
            small = h.small;
            sender = sender_same ends (table_with tag got ends.gets) (sender_key e.core) (peer_tag e.core) e.queues queued past packets h.sender;
            asks = h.asks;
            numbered = h.numbered;
            kept = h.kept;
            made = h.made;
            unmade = h.unmade;
            dropping = h.dropping;
            rules = h.rules;
            unbegun = h.unbegun;
            receiver = record {
              fits = fits;
              current = λ transfer there. (let clash : ◌≡◌ {A = Option Transfer} None (Some transfer) = sym gone ∙ there in absurd (cc));
              left = left_idle (table_with tag got ends.gets) tag o.after.left o.after.queues.transfer gone (inr (ap (λ (g : ReceivingEnd). g.reassembly.incoming.ready) (set_same tag got ends.gets) ∙ sym left));
              last = λ link there. (let clash : ◌≡◌ {A = Option AssociationIdentity} None (Some link) = sym unlinked ∙ there in absurd (cc));
              were_read = set_all (λ t g. with_key t (and_first reading.last (message ∷ messages) reading.reads) ≡ g.read) tag got ends.gets
                  (first_own reading.last (message ∷ messages) reading.reads ∙ ap (λ (l : List MessageContent). l ++ message ∷ []) (h.receiver.were_read tag)) (λ t ne. first_other t reading.last (message ∷ messages) reading.reads ne ∙ h.receiver.were_read t);
              were_reset = λ report has.
                  reset_stays ends.gets (table_with tag got ends.gets) their_past (after_effects o.effects their_past) report
                  (set_all (λ t g. HasEntry report.reset (ends.gets t).performed → HasEntry report.reset g.performed) tag got ends.gets (λ was. was) (λ t ne was. was)) (of_link_later o.effects their_past report.tags)
                  (h.receiver.were_reset report (still_reported reading.last (reached_index d input o reading) reading.resets report o shows no_performs has));
              were_told = λ plainly. set_all (λ t g. (reset : PerformedReset) → HasEntry reset g.performed → WasReported (resets_after d input o reading) t reset) tag got ends.gets
                  (λ reset has. still_told reading.last (reached_index d input o reading) o.events reading.resets tag reset (h.receiver.were_told plainly tag reset has))
                  (λ t ne reset has. still_told reading.last (reached_index d input o reading) o.events reading.resets t reset (h.receiver.were_told plainly t reset has));
              begun = λ t. elim (decide t tag) [
                | inl e' ↦ inr (subst (λ (n : ℕ). HadTag (after_effects o.effects their_past) n (ends.firsts n)) (sym e') (had (h.receiver.begun tag)))
                | inr ne ↦ elim (begun_later options ends o.effects their_past t (h.receiver.begun t)) [ inl new' ↦ inl (set_other tag t got ends.gets ne ∙ new') | inr had' ↦ inr had' ]
              ];
              last_of = of_link_later o.effects their_past reading.last h.receiver.last_of;
              reads_of = all_of_later o.effects their_past (and_first reading.last (message ∷ messages) reading.reads)
                  (all_of_first their_past reading.last (message ∷ messages) reading.reads h.receiver.last_of h.receiver.reads_of);
            };
            mine = h.mine;
            idle = h.idle;
            alone = λ t. elim (decide t tag) [
              | inl e' ↦ subst (MetOrAlone options (record ends { gets = table_with tag got ends.gets }) past (after_effects o.effects their_past)) (sym e') (alone_here (h.alone tag))
              | inr ne ↦ alone_later options ends (record ends { gets = table_with tag got ends.gets }) past past their_past (after_effects o.effects their_past) (λ effect has. has) (after_within o.effects their_past) t (set_other tag t got ends.gets ne) refl (h.alone t)
            ];
          };
          answered = record {
            pairs = rest.pairs;
            answers = same_requests (requests_of (record ends { gets = table_with tag got ends.gets }) rest.pairs) (requests_of ends rest.pairs) (identity_of_core e.core) past (identity_of_core o.after.core) (after_effects o.effects their_past) (waiting_deferral o.after.queues.transfer) (λ t. refl) rest.answers;
            unlinked = rest.unlinked;
          };
          reported = seen_turn ends (record ends { gets = table_with tag got ends.gets }) e past d their_past seen input o w (λ t some begun has. has)
              (heard_later ends.gets (table_with tag got ends.gets) (after_effects o.effects their_past) (after_effects o.effects their_past) (λ effect has. has)
              (λ t met. set_all (λ t g. HasGrown (ends.gets t) g) tag got ends.gets (record { first_is = refl; grows = omega arith }) (λ t ne. not_grown (ends.gets t)) t) (packets_of_events (seen ++ o.events)) (heard_resting gone unlinked))
              tells (λ my number has. absurd (no_performs my number has)) reported;
        })
      where
        -- Something was received under this tag.
        had : (ends.gets reading.last.peer ≡ new_end options (ends.firsts reading.last.peer)) ⊎ HadTag their_past reading.last.peer (ends.firsts reading.last.peer) → HadTag (after_effects o.effects their_past) reading.last.peer (ends.firsts reading.last.peer)
        had (inl new') = (let none : ◌≡◌ {A = List MessageContent} (message ∷ messages) [] = sym ready ∙ ap (λ (g : ReceivingEnd). g.reassembly.incoming.ready) new' in absurd (cc))
        had (inr had') = tag_later o.effects their_past reading.last.peer (ends.firsts reading.last.peer) had'

        -- It is read whether the sender is met or not.
        alone_here : MetOrAlone options ends past their_past reading.last.peer
            → MetOrAlone options (record ends { gets = table_with reading.last.peer (record { first_tsn = (ends.gets reading.last.peer).first_tsn; tracker = (ends.gets reading.last.peer).tracker; reassembly = with_ready messages (ends.gets reading.last.peer).reassembly; read = (ends.gets reading.last.peer).read ++ message ∷ []; performed = (ends.gets reading.last.peer).performed }) ends.gets }) past (after_effects o.effects their_past) reading.last.peer
        alone_here (inl met) = inl (met_later past past their_past (after_effects o.effects their_past) (λ effect has. has) (after_within o.effects their_past) reading.last.peer met)
        alone_here (inr run) =
            inr
            (subst (λ (g : ReceivingEnd). DirectionRun options (ends.firsts reading.last.peer) options.max_receiver_window_buffer_size (direction_of_ends (unbegun_end options) g)) (sym (set_same reading.last.peer (record { first_tsn = (ends.gets reading.last.peer).first_tsn; tracker = (ends.gets reading.last.peer).tracker; reassembly = with_ready messages (ends.gets reading.last.peer).reassembly; read = (ends.gets reading.last.peer).read ++ message ∷ []; performed = (ends.gets reading.last.peer).performed }) ends.gets))
            (directions.goes_on (direction_of_ends (unbegun_end options) (ends.gets reading.last.peer)) (direction_of_ends (unbegun_end options) (record { first_tsn = (ends.gets reading.last.peer).first_tsn; tracker = (ends.gets reading.last.peer).tracker; reassembly = with_ready messages (ends.gets reading.last.peer).reassembly; read = (ends.gets reading.last.peer).read ++ message ∷ []; performed = (ends.gets reading.last.peer).performed })) run (directions.takes message messages ready)))

    takes_goes : (left : List MessageContent) → IsLeft left → o.after.left ≡ without_first_message left → and_first reading.last left reading.reads ≡ tagged_after reading.last d input reading.reads → Turned
    takes_goes [] is stays same' = unread_rests (sym same') (inl stays)
    takes_goes (message ∷ messages) (inl none) stays same' = absurd (cc)
    takes_goes (message ∷ messages) (inr ready) stays same' = subst After same' (left_read message messages ready stays)

    pub idle_rests : Turned
    idle_rests = go input (may_read input) refl
      where
        before : IsLeft d.left
        before = subst (LeavesReady ends.gets reading.last.peer d.left) nowhere h.receiver.left

        stays : (i : Input) → i ≡ input → o.after.left ≡ left_once i d.left
        stays i is = left_taken d input o may turn nowhere gone ∙ ap (λ (x : Input). left_once x d.left) (sym is)

        go : (i : Input) → MayRead i → i ≡ input → Turned
        go _ reads_first is =
            takes_goes d.left before (stays user_takes is)
            (sym (ap (λ (t : Option Transfer). and_first reading.last (ready_or_left d.left t) reading.reads) nowhere) ∙ ap (λ (x : Input). tagged_after reading.last d x reading.reads) is)
        go _ (reads_none i none) is =
            unread_rests (ap (λ (x : Input). tagged_after reading.last d x reading.reads) (sym is) ∙ none.tagged reading.last d reading.reads) (subst IsLeft (sym (stays i is ∙ none.left d.left)) before)

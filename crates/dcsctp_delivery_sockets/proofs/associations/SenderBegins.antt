-- A turn of the sender in which an association begins.
use Rattle.std.proofs.Common.{◌≡◌, ◌≢◌, ℕ, Bool, true, false, ◌<◌, ◌^◌, Option, None, Some, List, [], ◌∷◌, ◌++◌, length, arith, refl, sym, ◌∙◌, ap, subst, inl, inr}
use Rattle.std.specs.Prelude.{◌⊎◌, ◌||◌, ◌&&◌}
use Rattle.std.specs.List.{AllByRecursion}
use Rattle.dcsctp_spec_lemmas.specs.types.declared.options.Options.{Options}
use Rattle.dcsctp_spec_lemmas.specs.types.declared.association.Pair.{Pair}
use Rattle.dcsctp_spec_lemmas.specs.spec.endpoint.Endpoint.{Endpoint}
use Rattle.dcsctp_spec_lemmas.specs.spec.endpoint.Event.{Event, packets_of_events}
use Rattle.dcsctp_spec_lemmas.specs.spec.endpoint.Outcome.{Outcome}
use Rattle.dcsctp_spec_lemmas.specs.spec.Packet.{Emission}
use Rattle.dcsctp_spec_runs.specs.Past.{HasEffect}
use Rattle.dcsctp_spec_lemmas.specs.spec.endpoint.Turn.{Input}
use Rattle.dcsctp_spec_runs.specs.World.{after_effects}
use Rattle.dcsctp_spec_lemmas.specs.spec.association.Effect.{AssociationIdentity, Effect, holds, identity_of, identity_of_core}
use Rattle.dcsctp_spec_lemmas.specs.spec.queues.SendQueue.{empty_queue}
use Rattle.dcsctp_spec_lemmas.specs.spec.queues.Transfer.{Transfer, EndpointQueues}
use Rattle.dcsctp_theorem_association.proofs.Growth.{after_within}
use Rattle.dcsctp_delivery_directions.specs.sending.Places.{HasEntry, table_with}
use Rattle.dcsctp_delivery_directions.specs.sending.Log.{Message, Fits}
use Rattle.dcsctp_delivery_directions.specs.sending.Queueing.{QueueWaits}
use Rattle.dcsctp_delivery_directions.specs.sending.Marking.{all_marked}
use Rattle.dcsctp_delivery_directions.proofs.sending.Places.{decide, set_same, set_other}
use Rattle.dcsctp_delivery_directions.proofs.sending.MarkingAll.{all_marked_keep, all_marked_fit}
use Rattle.dcsctp_delivery_directions.specs.sending.Losing.{AllWaitOn}
use Rattle.dcsctp_delivery_directions.specs.directions.Directions.{PreparedReset, PerformedReset, Direction, Asking, nothing_asked, DirectionRun, IsAwaited, BeginsAtZero, Beginning, BeginsAs}
use Rattle.dcsctp_delivery_sockets.specs.turns.Actions.{peer_tag, BeginsAssociation}
use Rattle.dcsctp_delivery_sockets.specs.turns.Asking.{own_of, AsksFit, AskingGrows}
use Rattle.dcsctp_delivery_sockets.specs.turns.Addressed.{AreAddressed}
use Rattle.dcsctp_delivery_sockets.specs.turns.Runs.{TakesTurnsByOption, direction_with_sender, new_direction}
use Rattle.dcsctp_delivery_sockets.proofs.turns.Beginnings.{begun_at_zero}
use Rattle.dcsctp_delivery_sockets.proofs.turns.Runs.{senders_begin}
use Rattle.dcsctp_delivery_sockets.proofs.turns.Unbegun.{unbegun_begins_at_zero, unbegun_begins_waiting}
use Rattle.dcsctp_delivery_sockets.proofs.associations.Held.{never_held, none_held, some_held}
use Rattle.dcsctp_delivery_sockets.specs.associations.Ends.{WasReported, SendingEnd, ReceivingEnd, direction_of_ends, new_end, Ends, HadPeer, HadKind, HadBoth, sender_key, unbegun_end, MetOrAlone, KeepsThese, KeepsOnlyThese, NumbersFromZero, Awaits, Sender, NewPeer, HadTag, IsCurrentEnd, Receiver, AreSeen, Between, IsOnlyOwn, IsBefore, sending_side, receiving_side}
use Rattle.dcsctp_delivery_directions.proofs.directions.RequestCounts.{requests_more_to, requests_are_sent}
use Rattle.dcsctp_delivery_sockets.specs.associations.Answered.{AnswersRequests, requests_of, waiting_deferral, AreAnswered}
use Rattle.dcsctp_delivery_sockets.proofs.associations.AskedOn.{MayBegin}
use Rattle.dcsctp_delivery_sockets.proofs.associations.Counting.{addressed_requests}
use Rattle.dcsctp_delivery_sockets.proofs.associations.SenderAnswers.{may_begin, begins_answers}
use Rattle.dcsctp_delivery_sockets.specs.associations.Laws.{AreEnds, AsksLittle}
use Rattle.dcsctp_delivery_sockets.specs.associations.Reads.{Reading, with_key}
use Rattle.dcsctp_delivery_sockets.proofs.associations.Growing.{set_all, set_three}
use Rattle.dcsctp_delivery_sockets.proofs.associations.AnsweringRests.{after_split}
use Rattle.dcsctp_delivery_sockets.proofs.associations.Senders.{link_tag, link_peer, alone_later, renewed_end, renewed_ends, renewed}
use Rattle.dcsctp_delivery_sockets.proofs.associations.Heard.{HasGrown, same_grown, heard_later}
use Rattle.dcsctp_delivery_sockets.proofs.associations.Seen.{RequestsStay, AllStay, nothing_stays, seen_still}
use Rattle.dcsctp_delivery_sockets.proofs.associations.SenderStays.{receiver_same, all_wait_marked}
use Rattle.dcsctp_delivery_sockets.proofs.associations.WhatIsLeft.{ready_same}
use Rattle.dcsctp_delivery_sockets.proofs.associations.WhatIsReset.{reset_stays}

-- ---- an association begins

-- At the receiver there is the matching association, or none yet.
data Known (options : Options) (ends : Ends) (d : Endpoint) (new : AssociationIdentity) : Type 0 where
  is_crossed : ends.firsts new.my.tag ≡ new.my.first_tsn → Known options ends d new
  is_fresh : ends.gets new.my.tag ≡ new_end options (ends.firsts new.my.tag) → ((transfer : Transfer) (link : AssociationIdentity) → d.queues.transfer ≡ Some transfer → identity_of_core d.core ≡ Some link → link.peer.tag ≢ new.my.tag) → Known options ends d new

same_tag : (core : Option AssociationIdentity) (one two : AssociationIdentity) → core ≡ Some one → core ≡ Some two → one.peer.tag ≡ two.peer.tag
same_tag core one two first second = (let same : one ≡ two = cc in ap (λ (l : AssociationIdentity). l.peer.tag) same)

module _ (options : Options) (ends : Ends) (d : Endpoint) (past their_past : List Effect) (reading : Reading) (r : Receiver options ends d their_past reading) (new : AssociationIdentity) (is : NewPeer past their_past new) where
  of_had : HadTag their_past new.my.tag (ends.firsts new.my.tag) → ends.firsts new.my.tag ≡ new.my.first_tsn
  of_had had = sym had.first_is ∙ ap (λ (p : Pair). p.first_tsn) (is.match had.link had.held had.tag_is)

  by_begun : ((transfer : Transfer) (link : AssociationIdentity) → d.queues.transfer ≡ Some transfer → identity_of_core d.core ≡ Some link → link.peer.tag ≢ new.my.tag) → Known options ends d new
  by_begun none = elim (r.begun new.my.tag) [
    | inl fresh ↦ is_fresh fresh none
    | inr had ↦ is_crossed (of_had had)
  ]

  with_current : (transfer : Transfer) → IsCurrentEnd ends d their_past transfer → Known options ends d new
  with_current transfer c = elim (decide c.link.peer.tag new.my.tag) [
    | inl e ↦ is_crossed (of_had (subst (λ (t : ℕ). HadTag their_past t (ends.firsts t)) e c.had))
    | inr ne ↦ by_begun (λ other link there linked same. ne (same_tag (identity_of_core d.core) c.link link c.linked linked ∙ same))
  ]

  known : (found : Option Transfer) → d.queues.transfer ≡ found → Known options ends d new
  known None none = by_begun (λ transfer link there linked. (let clash : ◌≡◌ {A = Option Transfer} None (Some transfer) = sym none ∙ there in absurd (cc)))
  known (Some transfer) there = with_current transfer (r.current transfer there)

-- The receiver's end under this tag is new, and stays so.
receiver_renewed : (options : Options) (ends : Ends) (sends : ℕ → SendingEnd) (latest : ℕ → ℕ) (former : ℕ → Option ℕ) (d : Endpoint) (past : List Effect) (reading : Reading) (tag first : ℕ) → Receiver options ends d past reading
    → ends.gets tag ≡ new_end options (ends.firsts tag) → ((transfer : Transfer) (link : AssociationIdentity) → d.queues.transfer ≡ Some transfer → identity_of_core d.core ≡ Some link → link.peer.tag ≢ tag)
    → Receiver options (record ends { sends = sends; gets = table_with tag (new_end options first) ends.gets; firsts = table_with tag first ends.firsts; latest = latest; former = former }) d past reading
receiver_renewed options ends sends latest former d past reading tag first r fresh apart =
    record {
      fits = r.fits;
      current = λ transfer there. still transfer there (r.current transfer there);
      last = r.last;
      left = ready_same ends.gets (table_with tag (new_end options first) ends.gets) reading.last.peer d.left d.queues.transfer
          (set_all (λ t g. g.reassembly.incoming.ready ≡ (ends.gets t).reassembly.incoming.ready) tag (new_end options first) ends.gets (sym (ap (λ (g : ReceivingEnd). g.reassembly.incoming.ready) fresh)) (λ t ne. refl)) r.left;
      were_read = set_all (λ t g. with_key t reading.reads ≡ g.read) tag (new_end options first) ends.gets (r.were_read tag ∙ ap (λ (g : ReceivingEnd). g.read) fresh) (λ t ne. r.were_read t);
      were_reset = λ report has.
          reset_stays ends.gets (table_with tag (new_end options first) ends.gets) past past report
          (set_all (λ t g. HasEntry report.reset (ends.gets t).performed → HasEntry report.reset g.performed) tag (new_end options first) ends.gets
          (λ was. absurd (subst (λ (g : ReceivingEnd). HasEntry report.reset g.performed) fresh was)) (λ t ne was. was)) (λ of. of) (r.were_reset report has);
      were_told = λ plainly. set_all (λ t g. (reset : PerformedReset) → HasEntry reset g.performed → WasReported reading.resets t reset) tag (new_end options first) ends.gets (λ reset has. absurd has) (λ t ne. r.were_told plainly t);
      begun = λ t. elim (decide t tag) [
        | inl e ↦
            inl (subst (λ (n : ℕ). table_with tag (new_end options first) ends.gets n ≡ new_end options (table_with tag first ends.firsts n)) (sym e)
            (set_same tag (new_end options first) ends.gets ∙ ap (new_end options) (sym (set_same tag first ends.firsts))))
        | inr ne ↦ other t ne (r.begun t)
      ];
      last_of = r.last_of;
      reads_of = r.reads_of;
    }
  where
    still : (transfer : Transfer) → d.queues.transfer ≡ Some transfer → IsCurrentEnd ends d past transfer → IsCurrentEnd (record ends { sends = sends; gets = table_with tag (new_end options first) ends.gets; firsts = table_with tag first ends.firsts; latest = latest; former = former }) d past transfer
    still transfer there c =
        let ne : c.link.peer.tag ≢ tag = apart transfer c.link there c.linked in
        let same = set_other tag c.link.peer.tag (new_end options first) ends.gets ne in
        record {
          link = c.link;
          linked = c.linked;
          held = c.held;
          own_some = c.own_some;
          had = subst (λ (n : ℕ). HadTag past c.link.peer.tag n) (sym (set_other tag c.link.peer.tag first ends.firsts ne)) c.had;
          tracker = ap (λ (g : ReceivingEnd). g.tracker) same ∙ c.tracker;
          reassembly = ap (λ (g : ReceivingEnd). g.reassembly) same ∙ c.reassembly;
        }

    other : (t : ℕ) → t ≢ tag → (ends.gets t ≡ new_end options (ends.firsts t)) ⊎ HadTag past t (ends.firsts t)
        → (table_with tag (new_end options first) ends.gets t ≡ new_end options (table_with tag first ends.firsts t)) ⊎ HadTag past t (table_with tag first ends.firsts t)
    other t ne (inl new) = inl (set_other tag t (new_end options first) ends.gets ne ∙ new ∙ ap (new_end options) (sym (set_other tag t first ends.firsts ne)))
    other t ne (inr had) = inr (subst (λ (n : ℕ). HadTag past t n) (sym (set_other tag t first ends.firsts ne)) had)

module _ (options : Options) (ends : Ends) (e : Endpoint) (queued : List Message) (past : List Effect) (packets : List Emission) (d : Endpoint) (their_past : List Effect) (reading : Reading)
    (h : Between options ends (sending_side e queued past packets) (receiving_side d their_past reading)) (input : Input) (o : Outcome) (w : AreAnswered ends e past d their_past) (little : AsksLittle (packets ++ packets_of_events o.events)) (begun : BeginsAssociation e o) (only_one : (each : AssociationIdentity) → HasEffect (holds each) o.effects → identity_of_core o.after.core ≡ Some each) (follows : o.after.options.follow_rfc ≡ e.options.follow_rfc) (rules : TakesTurnsByOption o.after) (same_kind : o.after.queues.queue.is_interleaved ≡ begun.held.capabilities.message_interleaving) where
  abbrev pub new : AssociationIdentity
  new = identity_of begun.my begun.held

  abbrev pub marks : List Message
  marks = all_marked (length (ends.sends (sender_key e.core)).queued) (ends.sends (sender_key e.core)).queues.queue.streams (ends.sends (sender_key e.core)).queued

  abbrev pub Later : Type 0
  Later = (other : Options) (room : ℕ) (awaiting : Direction) (queued : List Message) (beginning : Beginning) → QueueWaits queued e.queues.queue → AllByRecursion Fits queued → DirectionRun other begun.my.first_tsn room awaiting → IsAwaited awaiting
      → BeginsAs beginning queued begun.queue → (acknowledged : ℕ) × (asking : Asking) × AskingGrows nothing_asked asking × AsksFit begun.my.first_tsn (own_of o.after) asking
      × DirectionRun other begun.my.first_tsn room (record (direction_with_sender awaiting queued o.after.queues acknowledged (packets_of_events o.events) asking) { prepared = []; beginning = beginning })

  pub new_held : HasEffect (holds new) (after_effects o.effects past)
  new_held = subst (λ (l : List Effect). HasEffect (holds new) (after_effects l past)) (sym begun.noted) (after_within begun.later (holds new ∷ past) (holds new) (inl refl))

  pub had_new : HadPeer (after_effects o.effects past) begun.my.tag begun.my.first_tsn
  had_new =
      record {
        link = new;
        held = new_held;
        tag_is = refl;
        first_is = refl;
      }

  pub had_both : HadBoth (after_effects o.effects past) begun.my.tag begun.held.peer.tag
  had_both = record { link = new; held = new_held; tag_is = refl; peer_is = refl }

  -- None began before, or it is the new one.
  pub which : identity_of_core o.after.core ≡ Some new → (each : AssociationIdentity) → HasEffect (holds each) (after_effects o.effects past) → HasEffect (holds each) past ⊎ (each ≡ new)
  which linked each has = elim (after_split (holds each) o.effects past has) [ inl here ↦ inr (one_link (only_one each here) linked) | inr old ↦ inl old ]
    where
      one_link : {found : Option AssociationIdentity} {one two : AssociationIdentity} → found ≡ Some one → found ≡ Some two → one ≡ two
      one_link first second = cc

  -- Messages interleave as was negotiated.
  kind_new : NewPeer past their_past new → identity_of_core o.after.core ≡ Some new → HadKind (after_effects o.effects past) begun.my.tag o.after.queues.queue.is_interleaved
  kind_new is linked =
      record {
        link = new;
        held = new_held;
        tag_is = refl;
        kind_is = λ each has same. elim (which linked each has) [
          | inl old ↦ absurd (is.other each old same)
          | inr here ↦ ap (λ (l : AssociationIdentity). l.capabilities.message_interleaving) here ∙ sym same_kind
        ];
      }

  -- Do the numbers of each stream begin at 0, and does it begin with all that was queued?
  abbrev pub begins_anew : Beginning
  begins_anew = record { from_zero = e.options.follow_rfc || never_held past; has_all = never_held past; keeps = λ id. ends.calls.never id && never_held past; asks = ends.calls.asks; empties = ends.calls.empties; in_turn = ends.calls.in_turn }

  -- So it does.
  pub begins_so : BeginsAs begins_anew marks begun.queue
  begins_so = record { zero = go e.options.follow_rfc (never_held past) refl refl; whole = whole_wait; all = λ id. all_wait id (ends.calls.never id) (never_held past) refl }
    where
      whole_wait : never_held past ≡ true → (id : ℕ) → AllWaitOn id marks begun.queue.streams
      whole_wait none id =
          let before = h.unbegun (none_held past none) in
          let end : SendingEnd = ends.sends (sender_key e.core) in
          all_wait_marked id (length end.queued) end.queues.queue.streams end.queued begun.queue.streams (unbegun_begins_waiting e o begun id end.queued before.zero (before.all id))

      all_wait : (id : ℕ) (resets never : Bool) → never_held past ≡ never → (resets && never) ≡ true → AllWaitOn id marks begun.queue.streams
      all_wait id true true none is_so = whole_wait none id
      all_wait id true false none is_so = absurd (cc)
      all_wait id false never none is_so = absurd (cc)

      go : (follows_it never : Bool) → e.options.follow_rfc ≡ follows_it → never_held past ≡ never → (follows_it || never) ≡ true → BeginsAtZero begun.queue
      go true never is none is_so = begun_at_zero e o begun is
      go false true is none is_so = unbegun_begins_at_zero e o begun (h.unbegun (none_held past none)).zero
      go false false is none is_so = absurd (cc)

  -- It is the first one, if it is the only one.
  first_of_all : NewPeer past their_past new → IsOnlyOwn (after_effects o.effects past) begun.my.tag → never_held past ≡ true
  first_of_all is only = go (never_held past) refl
    where
      go : (b : Bool) → never_held past ≡ b → never_held past ≡ true
      go true none = none
      go false some = (let found = some_held past some in absurd (is.other found.0 found.1 (only found.0 (after_within o.effects past (holds found.0) found.1))))

  -- It keeps each stream then that the user never resets.
  kept_anew : NewPeer past their_past new → (end : SendingEnd) → end.beginning ≡ begins_anew → (tag : ℕ) → tag ≢ 0 → IsOnlyOwn (after_effects o.effects past) tag
      → KeepsThese ends.calls (table_with begun.my.tag end ends.sends tag).beginning
  kept_anew is end here =
      set_all (λ tag s. tag ≢ 0 → IsOnlyOwn (after_effects o.effects past) tag → KeepsThese ends.calls s.beginning) begun.my.tag end ends.sends
      (λ some only. record {
        whole = ap (λ (b : Beginning). b.has_all) here ∙ first_of_all is only;
        keeps = λ id never. ap (λ (b : Beginning). b.keeps id) here ∙ ap (λ (b : Bool). b && never_held past) never ∙ first_of_all is only;
      })
      (λ tag ne some only. absurd (ne (sym (only new new_held))))

  -- No call was made before the only one.
  made_anew : NewPeer past their_past new → (end : SendingEnd) → (tag : ℕ) → tag ≢ 0 → IsOnlyOwn (after_effects o.effects past) tag → (call : PreparedReset) → HasEntry call ends.calls.made → HasEntry call (table_with begun.my.tag end ends.sends tag).prepared
  made_anew is end =
      set_all (λ tag s. tag ≢ 0 → IsOnlyOwn (after_effects o.effects past) tag → (call : PreparedReset) → HasEntry call ends.calls.made → HasEntry call s.prepared) begun.my.tag end ends.sends
      (λ some only call has. absurd (subst (λ (l : List PreparedReset). HasEntry call l) (h.unmade (none_held past (first_of_all is only))) has))
      (λ tag ne some only. absurd (ne (sym (only new new_held))))

  pub dropping_anew : (end : SendingEnd) → end.beginning ≡ begins_anew → (tag : ℕ) → KeepsOnlyThese ends.calls (table_with begun.my.tag end ends.sends tag).beginning
  dropping_anew end here =
      set_all (λ tag s. KeepsOnlyThese ends.calls s.beginning) begun.my.tag end ends.sends
      (record {
        dropped = λ id resets. ap (λ (b : Beginning). b.keeps id) here ∙ ap (λ (b : Bool). b && never_held past) resets;
        asks = ap (λ (b : Beginning). b.asks) here;
        empties = ap (λ (b : Beginning). b.empties) here;
        in_turn = ap (λ (b : Beginning). b.in_turn) here;
      }) (λ tag ne. h.dropping tag)

  -- So they do in the new association, if it is the only one or the sender follows the RFC, and in each other as before.
  pub numbers_anew : NewPeer past their_past new → (end : SendingEnd) → end.beginning ≡ begins_anew → (tag : ℕ) → tag ≢ 0 → NumbersFromZero o.after (after_effects o.effects past) tag
      → (table_with begun.my.tag end ends.sends tag).beginning.from_zero ≡ true
  numbers_anew is end here =
      set_all (λ tag s. tag ≢ 0 → NumbersFromZero o.after (after_effects o.effects past) tag → s.beginning.from_zero ≡ true) begun.my.tag end ends.sends
      (λ some anew. ap (λ (b : Beginning). b.from_zero) here ∙ zero_so anew) (λ tag ne some anew. h.numbered tag some (other tag ne anew))
    where
      or_true : (b c : Bool) → (b ≡ true) ⊎ (c ≡ true) → (b || c) ≡ true
      or_true true c which = refl
      or_true false c (inl is_so) = absurd (cc)
      or_true false c (inr is_so) = is_so

      zero_so : NumbersFromZero o.after (after_effects o.effects past) begun.my.tag → begins_anew.from_zero ≡ true
      zero_so (inl anew) = or_true e.options.follow_rfc (never_held past) (inl (sym follows ∙ anew))
      zero_so (inr only) = or_true e.options.follow_rfc (never_held past) (inr (first_of_all is only))

      other : (tag : ℕ) → tag ≢ begun.my.tag → NumbersFromZero o.after (after_effects o.effects past) tag → NumbersFromZero e past tag
      other tag ne (inl anew) = inl (sym follows ∙ anew)
      other tag ne (inr only) = absurd (ne (sym (only new new_held)))

  -- What is begun in this turn is little.
  pub begins_little : AreAddressed begun.held.peer.tag (packets_of_events o.events) → (options : Options) (size : ℕ) (acknowledged : ℕ) (asking : Asking) (direction : Direction) → AskingGrows nothing_asked asking
      → AsksFit begun.my.first_tsn (own_of o.after) asking → identity_of_core o.after.core ≡ Some new
      → DirectionRun options begun.my.first_tsn size (direction_with_sender direction marks o.after.queues acknowledged (packets_of_events o.events) asking) → MayBegin begun.my.first_tsn nothing_asked asking
  begins_little addressed options size acknowledged asking direction grows fits linked run =
      let sent = requests_are_sent options begun.my.first_tsn size (direction_with_sender direction marks o.after.queues acknowledged (packets_of_events o.events) asking) run in
      let went = addressed_requests begun.held.peer.tag (packets_of_events o.events) addressed in
      let all = requests_more_to begun.held.peer.tag packets (packets_of_events o.events) in
      let few = little begun.held.peer.tag in
      may_begin begun.my.first_tsn o.after.core o.after.outstanding nothing_asked asking new linked grows fits (omega (arith, sent, went, all, few))

  -- The answers are those of the association that begins.
  pub answered_by : (later : Ends) → identity_of_core o.after.core ≡ Some new → (pairs : ℕ → Pair)
      → AnswersRequests (requests_of later pairs) (Some new) (after_effects o.effects past) (identity_of_core d.core) their_past (waiting_deferral d.queues.transfer) → AreAnswered later o.after (after_effects o.effects past) d their_past
  answered_by later linked pairs answers =
      record {
        pairs = pairs;
        answers = subst (λ (l : Option AssociationIdentity). AnswersRequests (requests_of later pairs) l (after_effects o.effects past) (identity_of_core d.core) their_past (waiting_deferral d.queues.transfer)) (sym linked) answers;
        unlinked = w.unlinked;
      }

  pub sender_of : (later : Ends) → identity_of_core o.after.core ≡ Some new → Sender later begun.my.tag begun.held.peer.tag o.after.queues queued (after_effects o.effects past) (packets ++ packets_of_events o.events)
      → Sender later (sender_key o.after.core) (peer_tag o.after.core) o.after.queues queued (after_effects o.effects past) (packets ++ packets_of_events o.events)
  sender_of later linked sender =
      subst (λ (k : ℕ). Sender later k (peer_tag o.after.core) o.after.queues queued (after_effects o.effects past) (packets ++ packets_of_events o.events)) (sym (link_tag o.after.core new linked))
      (subst (λ (n : ℕ). Sender later begun.my.tag n o.after.queues queued (after_effects o.effects past) (packets ++ packets_of_events o.events)) (sym (link_peer o.after.core new linked)) sender)

  -- The association is there after the turn.
  pub mine_then : identity_of_core o.after.core ≡ Some new → (link : AssociationIdentity) → identity_of_core o.after.core ≡ Some link → HasEffect (holds link) (after_effects o.effects past)
  mine_then linked link there = (let one : new ≡ link = cc in subst (λ (l : AssociationIdentity). HasEffect (holds l) (after_effects o.effects past)) one new_held)

  -- Each association of its tag is this one.
  which_is : NewPeer past their_past new → identity_of_core o.after.core ≡ Some new → (each : AssociationIdentity) → HasEffect (holds each) (after_effects o.effects past)
      → (HasEffect (holds each) past × (each.my.tag ≢ begun.my.tag)) ⊎ ((each.my.tag ≢ 0) × (each.my.tag ≡ begun.my.tag) × ((each.peer.tag ≡ begun.held.peer.tag) ⊎ (◌≡◌ {A = Option ℕ} None (Some each.peer.tag))))
  which_is is linked each has = elim (which linked each has) [
    | inl old ↦ inl (old, is.other each old)
    | inr here ↦
        inr (subst (λ (l : AssociationIdentity). (l.my.tag ≢ 0) × (l.my.tag ≡ begun.my.tag) × ((l.peer.tag ≡ begun.held.peer.tag) ⊎ (◌≡◌ {A = Option ℕ} None (Some l.peer.tag)))) (sym here) (is.some, refl, inl refl))
  ]

  nothing_left : NewPeer past their_past new → (each : AssociationIdentity) → HasEffect (holds each) past → each.my.tag ≡ begun.my.tag → (◌≡◌ {A = Option ℕ} None (Some each.peer.tag)) ⊎ ((ends.sends begun.my.tag).sent ≡ [])
  nothing_left is each has same = absurd (is.other each has same)

  before_held : (one other : AssociationIdentity) (past : List Effect) → IsBefore one other past → HasEffect (holds one) past
  before_held one other [] before = absurd before
  before_held one other (effect ∷ earlier) (inl here) = inr here.1
  before_held one other (effect ∷ earlier) (inr before) = inr (before_held one other earlier before)

  none_former : NewPeer past their_past new → (former : Option ℕ) → ends.former begun.my.tag ≡ former → ends.former begun.my.tag ≡ None
  none_former is None none = none
  none_former is (Some former) some = (let was = h.sender.replaced begun.my.tag former some in absurd (is.other was.old (before_held was.old was.link past was.before) was.old_is))

  none_there : identity_of_core o.after.core ≡ Some new → identity_of_core o.after.core ≡ None → o.after.queues.transfer ≡ None
  none_there linked unlinked = (let clash : ◌≡◌ {A = Option AssociationIdentity} None (Some new) = sym unlinked ∙ linked in absurd (cc))

  -- Nothing was begun under this tag.
  all_stay : Awaits (ends.sends begun.my.tag) → (end : SendingEnd) → AllStay ends.sends (table_with begun.my.tag end ends.sends)
  all_stay waits end =
      set_all (λ tag s. tag ≢ 0 → RequestsStay (ends.sends tag).asking s.asking) begun.my.tag end ends.sends
      (λ some. nothing_stays (ends.sends begun.my.tag).asking end.asking (ap (λ (a : Asking). a.requests) waits.asking)) (λ tag ne some begun has. has)

  crossed_begins : (seen : List (Event Emission)) → AreSeen ends d their_past seen → NewPeer past their_past new → Awaits (ends.sends begun.my.tag) → identity_of_core o.after.core ≡ Some new → AreAddressed begun.held.peer.tag (packets_of_events o.events)
      → QueueWaits marks e.queues.queue → AllByRecursion Fits marks → Later → ends.firsts begun.my.tag ≡ begun.my.first_tsn
      → AreEnds ends.calls seen options (sending_side o.after queued (after_effects o.effects past) (packets ++ packets_of_events o.events)) (receiving_side d their_past reading)
  crossed_begins seen reported is waits linked addressed shown fit later same =
      let to : ℕ = begun.my.tag in
      let ps : List Emission = packets_of_events o.events in
      let start : DirectionRun options begun.my.first_tsn options.max_receiver_window_buffer_size (direction_of_ends (ends.sends to) (ends.gets to)) =
      subst (λ (n : ℕ). DirectionRun options n options.max_receiver_window_buffer_size (direction_of_ends (ends.sends to) (ends.gets to))) same (h.runs to) in
      let run = later options options.max_receiver_window_buffer_size (direction_of_ends (ends.sends to) (ends.gets to)) marks begins_anew shown fit start
      (record { queued = waits.queued; sent = waits.sent; acknowledged = waits.acknowledged; transfer = waits.transfer; asking = waits.asking }) begins_so in
      let end : SendingEnd = renewed_end ends (sender_key e.core) (peer_tag e.core) e.queues queued past packets h.sender o.effects to begun.held.peer.tag o.after.queues run.0 ps run.1 begins_anew ends.gets ends.firsts None in
      let ends' : Ends = renewed_ends ends (sender_key e.core) (peer_tag e.core) e.queues queued past packets h.sender o.effects to begun.held.peer.tag o.after.queues run.0 ps run.1 begins_anew ends.gets ends.firsts None in
      record {
        ends = ends';
        is = refl;
        between = record {
          runs = set_all (λ tag s. DirectionRun options (ends.firsts tag) options.max_receiver_window_buffer_size (direction_of_ends s (ends.gets tag))) to end ends.sends
              (subst (λ (n : ℕ). DirectionRun options n options.max_receiver_window_buffer_size (direction_of_ends end (ends.gets to))) (sym same) run.4) (λ tag ne. h.runs tag);
          small = h.small;
          sender = sender_of ends' linked
              (renewed ends (sender_key e.core) (peer_tag e.core) e.queues queued past packets h.sender o.effects to begun.held.peer.tag o.after.queues run.0 ps run.1 begins_anew ends.gets ends.firsts None (nothing_left is) (none_former is (ends.former begun.my.tag) refl)
              (λ some. subst (λ (n : ℕ). HadPeer (after_effects o.effects past) to n) (sym same) had_new) (λ tag ne. refl) addressed (λ some. kind_new is linked) (inr had_both) (λ former none. absurd (cc)) (which_is is linked));
          mine = mine_then linked;
          idle = λ unlinked. none_there linked unlinked;
          asks = subst (λ (k : ℕ). AsksFit (ends.firsts k) (own_of o.after) (table_with to end ends.sends k).asking) (sym (link_tag o.after.core new linked))
              (subst (λ (s : SendingEnd). AsksFit (ends.firsts to) (own_of o.after) s.asking) (sym (set_same to end ends.sends))
              (subst (λ (n : ℕ). AsksFit n (own_of o.after) run.1) (sym same) run.3));
          numbered = numbers_anew is end refl;
          kept = kept_anew is end refl;
          made = made_anew is end;
          unmade = λ never. absurd (never new new_held);
          dropping = dropping_anew end refl;
          rules = rules;
          unbegun = λ never. absurd (never new new_held);
          receiver = receiver_same options ends ends'.sends ends'.latest ends'.former ends'.calls d their_past reading h.receiver;
          alone = λ tag. alone_later options ends ends' past (after_effects o.effects past) their_past their_past (after_within o.effects past) (λ effect has. has) tag refl refl (h.alone tag);
        };
        answered = answered_by ends' linked (table_with to begun.my w.pairs)
            (begins_answers ends e past d their_past w new is.some is.match waits.asking end ends.gets ends.firsts same (λ tag ne. refl)
            (begins_little addressed options options.max_receiver_window_buffer_size run.0 run.1 (record (direction_of_ends (ends.sends to) (ends.gets to)) { prepared = []; beginning = begins_anew }) run.2 run.3 linked run.4) (λ other there tag. same) (after_effects o.effects past) (after_within o.effects past) new_held);
        reported = seen_still ends ends' e past d their_past seen w (all_stay waits end) reported.heard reported;
      }

  fresh_begins : (seen : List (Event Emission)) → AreSeen ends d their_past seen → NewPeer past their_past new → Awaits (ends.sends begun.my.tag) → identity_of_core o.after.core ≡ Some new → AreAddressed begun.held.peer.tag (packets_of_events o.events)
      → QueueWaits marks e.queues.queue → AllByRecursion Fits marks → Later → ends.gets begun.my.tag ≡ new_end options (ends.firsts begun.my.tag)
      → ((transfer : Transfer) (link : AssociationIdentity) → d.queues.transfer ≡ Some transfer → identity_of_core d.core ≡ Some link → link.peer.tag ≢ begun.my.tag)
      → AreEnds ends.calls seen options (sending_side o.after queued (after_effects o.effects past) (packets ++ packets_of_events o.events)) (receiving_side d their_past reading)
  fresh_begins seen reported is waits linked addressed shown fit later fresh apart =
      let to : ℕ = begun.my.tag in
      let first : ℕ = begun.my.first_tsn in
      let ps : List Emission = packets_of_events o.events in
      let gets : ℕ → ReceivingEnd = table_with to (new_end options first) ends.gets in
      let firsts : ℕ → ℕ = table_with to first ends.firsts in
      let new_alone : DirectionRun options (firsts to) options.max_receiver_window_buffer_size (direction_of_ends (unbegun_end options) (gets to)) =
      subst (λ (n : ℕ). DirectionRun options n options.max_receiver_window_buffer_size (direction_of_ends (unbegun_end options) (gets to))) (sym (set_same to first ends.firsts))
      (subst (λ (g : ReceivingEnd). DirectionRun options first options.max_receiver_window_buffer_size (direction_of_ends (unbegun_end options) g)) (sym (set_same to (new_end options first) ends.gets))
      (senders_begin options options first options.max_receiver_window_buffer_size (λ id. false) (λ id count. false) (λ id count. false) false)) in
      let run = later options options.max_receiver_window_buffer_size
      (new_direction options first options.max_receiver_window_buffer_size [] (record { queue = empty_queue options; transfer = None }) 0 [] (record { from_zero = true; has_all = true; keeps = λ id. false; asks = λ id count. false; empties = λ id count. false; in_turn = false })) marks begins_anew shown fit (senders_begin options options first options.max_receiver_window_buffer_size (λ id. false) (λ id count. false) (λ id count. false) false)
      (record { queued = refl; sent = refl; acknowledged = refl; transfer = refl; asking = refl }) begins_so in
      let end : SendingEnd = renewed_end ends (sender_key e.core) (peer_tag e.core) e.queues queued past packets h.sender o.effects to begun.held.peer.tag o.after.queues run.0 ps run.1 begins_anew gets firsts None in
      let ends' : Ends = renewed_ends ends (sender_key e.core) (peer_tag e.core) e.queues queued past packets h.sender o.effects to begun.held.peer.tag o.after.queues run.0 ps run.1 begins_anew gets firsts None in
      record {
        ends = ends';
        is = refl;
        between = record {
          runs = set_three (λ tag f s g. DirectionRun options f options.max_receiver_window_buffer_size (direction_of_ends s g)) to first end (new_end options first) ends.firsts ends.sends ends.gets run.4 (λ tag ne. h.runs tag);
          small = set_all (λ tag f. f < 2 ^ 32) to first ends.firsts is.small (λ tag ne. h.small tag);
          sender = sender_of ends' linked
              (renewed ends (sender_key e.core) (peer_tag e.core) e.queues queued past packets h.sender o.effects to begun.held.peer.tag o.after.queues run.0 ps run.1 begins_anew gets firsts None (nothing_left is) (none_former is (ends.former begun.my.tag) refl)
              (λ some. subst (λ (n : ℕ). HadPeer (after_effects o.effects past) to n) (sym (set_same to first ends.firsts)) had_new) (λ tag ne. set_other to tag first ends.firsts ne) addressed (λ some. kind_new is linked) (inr had_both) (λ former none. absurd (cc)) (which_is is linked));
          mine = mine_then linked;
          idle = λ unlinked. none_there linked unlinked;
          asks = subst (λ (k : ℕ). AsksFit (firsts k) (own_of o.after) (table_with to end ends.sends k).asking) (sym (link_tag o.after.core new linked))
              (subst (λ (s : SendingEnd). AsksFit (firsts to) (own_of o.after) s.asking) (sym (set_same to end ends.sends))
              (subst (λ (n : ℕ). AsksFit n (own_of o.after) run.1) (sym (set_same to first ends.firsts)) run.3));
          numbered = numbers_anew is end refl;
          kept = kept_anew is end refl;
          made = made_anew is end;
          unmade = λ never. absurd (never new new_held);
          dropping = dropping_anew end refl;
          rules = rules;
          unbegun = λ never. absurd (never new new_held);
          receiver = receiver_renewed options ends ends'.sends ends'.latest ends'.former d their_past reading to first h.receiver fresh apart;
          alone = λ tag. elim (decide tag to) [
            | inl e' ↦ subst (MetOrAlone options ends' (after_effects o.effects past) their_past) (sym e') (inr new_alone)
            | inr ne ↦ alone_later options ends ends' past (after_effects o.effects past) their_past their_past (after_within o.effects past) (λ effect has. has) tag (set_other to tag (new_end options first) ends.gets ne)
                (set_other to tag first ends.firsts ne) (h.alone tag)
          ];
        };
        answered = answered_by ends' linked (table_with to begun.my w.pairs)
            (begins_answers ends e past d their_past w new is.some is.match waits.asking end gets firsts (set_same to first ends.firsts) (λ tag ne. set_other to tag first ends.firsts ne)
            (begins_little addressed options options.max_receiver_window_buffer_size run.0 run.1 (new_direction options first options.max_receiver_window_buffer_size [] (record { queue = empty_queue options; transfer = None }) 0 [] begins_anew) run.2 run.3 linked run.4)
            (λ other there tag. absurd (nowhere d.queues.transfer refl other there tag)) (after_effects o.effects past) (after_within o.effects past) new_held);
        reported = seen_still ends ends' e past d their_past seen w (all_stay waits end)
            (heard_later ends.gets gets their_past their_past (λ effect has. has) (λ tag had. stays is fresh tag had (decide tag to)) (packets_of_events seen) reported.heard) reported;
      }
    where
      -- Nothing was received from this tag, and another association of it would have begun with the same TSN.
      stays : NewPeer past their_past new → ends.gets begun.my.tag ≡ new_end options (ends.firsts begun.my.tag) → (tag : ℕ) → HadTag their_past tag (ends.gets tag).first_tsn → (tag ≡ begun.my.tag) ⊎ (tag ≢ begun.my.tag)
          → HasGrown (ends.gets tag) (table_with begun.my.tag (new_end options begun.my.first_tsn) ends.gets tag)
      stays is fresh tag had (inr ne) = same_grown (ends.gets tag) _ (set_other begun.my.tag tag (new_end options begun.my.first_tsn) ends.gets ne)
      stays is fresh tag had (inl e') =
          let here : HadTag their_past begun.my.tag (ends.gets begun.my.tag).first_tsn = subst (λ (t : ℕ). HadTag their_past t (ends.gets t).first_tsn) e' had in
          let pair : here.link.peer ≡ begun.my = is.match here.link here.held here.tag_is in
          let first_is : ends.firsts begun.my.tag ≡ begun.my.first_tsn = sym (ap (λ (g : ReceivingEnd). g.first_tsn) fresh) ∙ sym here.first_is ∙ ap (λ (p : Pair). p.first_tsn) pair in
          subst (λ (t : ℕ). HasGrown (ends.gets t) (table_with begun.my.tag (new_end options begun.my.first_tsn) ends.gets t)) (sym e')
          (same_grown (ends.gets begun.my.tag) _ (set_same begun.my.tag (new_end options begun.my.first_tsn) ends.gets ∙ sym (fresh ∙ ap (new_end options) first_is)))

      nowhere : (found : Option Transfer) → d.queues.transfer ≡ found → (other : AssociationIdentity) → identity_of_core d.core ≡ Some other → other.peer.tag ≡ begun.my.tag → ⊥
      nowhere None none other there tag = (let clash : ◌≡◌ {A = Option AssociationIdentity} None (Some other) = sym (w.unlinked none) ∙ there in absurd (cc))
      nowhere (Some transfer) some other there tag = apart transfer other some there tag

  pub begins : (seen : List (Event Emission)) → AreSeen ends d their_past seen → NewPeer past their_past new → identity_of_core o.after.core ≡ Some new → AreAddressed begun.held.peer.tag (packets_of_events o.events)
      → QueueWaits (ends.sends (sender_key e.core)).queued e.queues.queue → AllByRecursion Fits (ends.sends (sender_key e.core)).queued → Later
      → AreEnds ends.calls seen options (sending_side o.after queued (after_effects o.effects past) (packets ++ packets_of_events o.events)) (receiving_side d their_past reading)
  begins seen reported is linked addressed shown fit later =
      elim (h.sender.begun begun.my.tag is.some) [
        | inl waits ↦ go waits (known options ends d past their_past reading h.receiver new is d.queues.transfer refl)
        | inr had ↦ absurd (is.other had.link had.held had.tag_is)
      ]
    where
      holds_marks : QueueWaits marks e.queues.queue
      holds_marks =
          subst (λ (b : EndpointQueues). QueueWaits (all_marked (length (ends.sends (sender_key e.core)).queued) b.queue.streams (ends.sends (sender_key e.core)).queued) e.queues.queue) (sym h.sender.queues_are)
          (all_marked_keep (length (ends.sends (sender_key e.core)).queued) (ends.sends (sender_key e.core)).queued e.queues.queue shown)

      fit_marks : AllByRecursion Fits marks
      fit_marks = all_marked_fit (length (ends.sends (sender_key e.core)).queued) (ends.sends (sender_key e.core)).queues.queue.streams (ends.sends (sender_key e.core)).queued fit

      go : Awaits (ends.sends begun.my.tag) → Known options ends d new → AreEnds ends.calls seen options (sending_side o.after queued (after_effects o.effects past) (packets ++ packets_of_events o.events)) (receiving_side d their_past reading)
      go waits (is_crossed same) = crossed_begins seen reported is waits linked addressed holds_marks fit_marks later same
      go waits (is_fresh fresh apart) = fresh_begins seen reported is waits linked addressed holds_marks fit_marks later fresh apart

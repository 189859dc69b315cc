-- A turn of the sender in which another association takes the place of its own: both ends began at
-- the same time, and what was sent in the one goes on in the other (RFC 9260, section 5.2.4, action
-- B). Both have one own tag.
use Rattle.std.proofs.Common.{◌≡◌, ◌≢◌, ◌<◌, ◌-◌, ◌^◌, ◌+◌, ℕ, Bool, true, Option, None, Some, List, [], ◌∷◌, ◌++◌, length, arith, refl, sym, ◌∙◌, ap, subst, inl, inr}
use Rattle.std.specs.Prelude.{◌⊎◌, ◌≤◌}
use Rattle.dcsctp_spec_lemmas.specs.types.declared.options.Options.{Options}
use Rattle.dcsctp_spec_lemmas.specs.types.declared.association.Pair.{Pair}
use Rattle.dcsctp_spec_lemmas.specs.spec.endpoint.Endpoint.{Endpoint, Core, closed, cookie_wait, cookie_echoed, open_in, OutstandingRequest}
use Rattle.dcsctp_spec_lemmas.specs.spec.endpoint.BegunResets.{BegunReset}
use Rattle.dcsctp_spec_lemmas.specs.spec.endpoint.Event.{Event, packets_of_events}
use Rattle.dcsctp_spec_lemmas.specs.spec.endpoint.Outcome.{Outcome}
use Rattle.dcsctp_spec_lemmas.specs.spec.Packet.{Emission}
use Rattle.dcsctp_spec_runs.specs.Past.{HasEffect}
use Rattle.dcsctp_spec_runs.specs.World.{after_effects}
use Rattle.dcsctp_spec_lemmas.specs.spec.endpoint.Turn.{Input}
use Rattle.dcsctp_spec_lemmas.specs.spec.association.Effect.{AssociationIdentity, Effect, holds, identity_of_core}
use Rattle.dcsctp_spec_lemmas.specs.spec.queues.Reassembly.{DeferralModel}
use Rattle.dcsctp_theorem_association.proofs.Growth.{after_within}
use Rattle.dcsctp_delivery_directions.specs.sending.ChunkCounts.{chunks_among_packets, chunks_to}
use Rattle.dcsctp_delivery_directions.specs.sending.Places.{HasEntry, table_with}
use Rattle.dcsctp_delivery_directions.specs.sending.Log.{Message}
use Rattle.dcsctp_delivery_directions.proofs.sending.Places.{decide, set_same, set_other}
use Rattle.dcsctp_delivery_directions.specs.directions.Directions.{PreparedReset, Asking, nothing_asked, DirectionRun}
use Rattle.dcsctp_delivery_directions.specs.directions.Requests.{requests_among_packets, requests_to}
use Rattle.dcsctp_delivery_directions.proofs.directions.RequestCounts.{requests_more, requests_more_to, requests_are_sent, unasked_sends_none, nothing_was_asked}
use Rattle.dcsctp_delivery_sockets.specs.turns.Actions.{content_of_input, peer_tag, Collides}
use Rattle.dcsctp_delivery_sockets.specs.turns.Asking.{Own, own_of_core, own_of, IsAsking, AsksFit, AskingGrows}
use Rattle.dcsctp_delivery_sockets.specs.turns.Runs.{TakesTurnsByOption, direction_with_sender, Outlasts, taken_turn}
use Rattle.dcsctp_delivery_sockets.specs.associations.Ends.{SendingEnd, direction_of_ends, Ends, HadKind, IsBefore, PlaceWasTaken, sender_key, chunks_before, Sender, NumbersFromZero, KeepsThese, KeepsOnlyThese, Between, IsOnlyOwn, AreSeen, WentBefore, sending_side, receiving_side}
use Rattle.dcsctp_delivery_sockets.specs.associations.Answered.{AnswersRequests, Requests, requests_of, waiting_deferral, AreAnswered, SenderHadPeer, WasJoined}
use Rattle.dcsctp_delivery_sockets.specs.associations.Laws.{AreEnds, AsksLittle}
use Rattle.dcsctp_delivery_sockets.proofs.associations.Seen.{RequestsStay, nothing_stays, seen_still}
use Rattle.dcsctp_delivery_sockets.specs.associations.Reads.{Reading}
use Rattle.dcsctp_delivery_sockets.proofs.associations.AskedOn as asked
use Rattle.dcsctp_delivery_sockets.proofs.associations.Renewed.{ends_so}
use Rattle.dcsctp_delivery_sockets.proofs.associations.AnsweringRests.{after_split, after_new}
use Rattle.dcsctp_delivery_sockets.proofs.associations.Counting.{addressed_requests}
use Rattle.dcsctp_delivery_sockets.proofs.associations.Growing.{set_all, set_three}
use Rattle.dcsctp_delivery_sockets.proofs.associations.SenderAnswers.{may_begin, goes_answers}
use Rattle.dcsctp_delivery_sockets.proofs.associations.Senders.{IsWithin, alone_later, link_tag, link_peer, had_later, before_later, replaced_later, of_more, grown}
use Rattle.dcsctp_delivery_sockets.proofs.associations.SenderStays.{receiver_same}

-- The requests of one pair are those of the other association with it.
same_own : (requests : ℕ → Requests) (old link : AssociationIdentity) (past : List Effect) (theirs : Option AssociationIdentity) (their_past : List Effect) (waits : Option DeferralModel) → old.my ≡ link.my
    → AnswersRequests requests (Some old) past theirs their_past waits → AnswersRequests requests (Some link) past theirs their_past waits
same_own requests old link past theirs their_past waits same a =
    record {
      asked = a.asked;
      asked_held = a.asked_held;
      performed = a.performed;
      apart = a.apart;
      mine_apart = λ each is tag.
          subst (λ (p : Pair). p.tag ≢ tag → WasJoined their_past tag (requests tag).my → p ≢ (requests tag).my) (same ∙ of_some is) (a.mine_apart old refl tag);
      joined = a.joined;
      mine_held = λ each is. subst (λ (p : Pair). SenderHadPeer past p.tag p × ((requests p.tag).my ≡ p)) (same ∙ of_some is) (a.mine_held old refl);
      mine_first = λ each is. subst (λ (p : Pair). (requests p.tag).first ≡ p.first_tsn) (same ∙ of_some is) (a.mine_first old refl);
      theirs_held = a.theirs_held;
      stands = a.stands;
    }
  where
    of_some : {each : AssociationIdentity} → Some link ≡ Some each → link.my ≡ each.my
    of_some {each = each} is = (let one : link ≡ each = cc in ap (λ (l : AssociationIdentity). l.my) one)

-- The next number is that of the first request: there was none.
none_yet : (first : ℕ) (own : Own) (asking : Asking) → IsAsking first own asking → own.next ≡ first → first < 2 ^ 32 → length asking.requests < 2 ^ 32 - 1 → asking.requests ≡ []
none_yet first own asking fits next small few = empty asking.requests (let is = fits.next in omega (arith, is, next, small, few))
  where
    empty : (l : List BegunReset) → length l ≡ 0 → l ≡ []
    empty [] none = refl
    empty (b ∷ l) none = absurd (omega (arith, none))

unlinked : (core : Core) (request : Option OutstandingRequest) (link : AssociationIdentity) → identity_of_core core ≡ Some link → own_of_core core request ≡ None → ⊥
unlinked closed request link there none = absurd (cc)
unlinked (cookie_wait my) request link there none = absurd (cc)
unlinked (cookie_echoed my held cookie) request link there none = absurd (cc)
unlinked (open_in phase my held) request link there none = absurd (cc)

module _ (options : Options) (ends : Ends) (e : Endpoint) (queued : List Message) (past : List Effect) (packets : List Emission) (d : Endpoint) (their_past : List Effect) (reading : Reading)
    (h : Between options ends (sending_side e queued past packets) (receiving_side d their_past reading)) where
  -- Where the next number of a request is the first, none was begun.
  pub nothing_begun : (old : AssociationIdentity) → identity_of_core e.core ≡ Some old → ends.firsts (sender_key e.core) ≡ old.my.first_tsn → ((own : Own) → own_of e ≡ Some own → own.next ≡ old.my.first_tsn)
      → length (ends.sends (sender_key e.core)).asking.requests < 2 ^ 32 - 1 → (ends.sends (sender_key e.core)).asking.requests ≡ []
  nothing_begun old was first unasked few = by_own (own_of e) refl
    where
      by_own : (found : Option Own) → own_of e ≡ found → (ends.sends (sender_key e.core)).asking.requests ≡ []
      by_own (Some own) is =
          none_yet (ends.firsts (sender_key e.core)) own (ends.sends (sender_key e.core)).asking (subst (λ (f : Option Own). AsksFit (ends.firsts (sender_key e.core)) f (ends.sends (sender_key e.core)).asking) is h.asks)
          (unasked own is ∙ sym first) (h.small (sender_key e.core)) few
      by_own None is = absurd (unlinked e.core e.outstanding old was is)

  pub asked_so : (ends.sends (sender_key e.core)).asking.requests ≡ [] → (ends.sends (sender_key e.core)).asking ≡ nothing_asked
  asked_so none =
      nothing_was_asked options (ends.firsts (sender_key e.core)) options.max_receiver_window_buffer_size (direction_of_ends (ends.sends (sender_key e.core)) (ends.gets (sender_key e.core))) (h.runs (sender_key e.core)) none

-- An association takes the place of the only one of its own tag, and both ends began at the same time.
pub record GoesOn (past : List Effect) (e : Endpoint) (input : Input) (o : Outcome) : Type 0 where
  pub collision : Collides (content_of_input input) e o
  pub my : collision.old.my ≡ collision.opened.link.my
  pub other : collision.old.peer.tag ≢ collision.opened.link.peer.tag
  pub alike : collision.old.capabilities.message_interleaving ≡ collision.opened.link.capabilities.message_interleaving
  pub only : (each : AssociationIdentity) → HasEffect (holds each) past → each.my.tag ≡ collision.opened.link.my.tag → each ≡ collision.old

module _ (options : Options) (ends : Ends) (e : Endpoint) (queued : List Message) (past : List Effect) (packets : List Emission) (d : Endpoint) (their_past : List Effect) (reading : Reading)
    (h : Between options ends (sending_side e queued past packets) (receiving_side d their_past reading)) (input : Input) (o : Outcome) (w : AreAnswered ends e past d their_past) (little : AsksLittle (packets ++ packets_of_events o.events))
    (goes : GoesOn past e input o)
    (goes_on_so : ends.firsts (sender_key e.core) ≡ goes.collision.opened.link.my.first_tsn → (ends.sends (sender_key e.core)).asking ≡ nothing_asked
    → Outlasts options (ends.firsts (sender_key e.core)) options.max_receiver_window_buffer_size (direction_of_ends (ends.sends (sender_key e.core)) (ends.gets (sender_key e.core))) (taken_turn e input o) goes.collision) (only_one : (each : AssociationIdentity) → HasEffect (holds each) o.effects → identity_of_core o.after.core ≡ Some each) where
  collision : Collides (content_of_input input) e o
  collision = goes.collision

  abbrev link : AssociationIdentity
  link = goes.collision.opened.link

  abbrev old : AssociationIdentity
  old = goes.collision.old

  abbrev key : ℕ
  key = sender_key e.core

  abbrev ps : List Emission
  ps = packets_of_events o.events

  abbrev later_past : List Effect
  later_past = after_effects o.effects past

  key_is : sender_key e.core ≡ goes.collision.opened.link.my.tag
  key_is = link_tag e.core goes.collision.old goes.collision.was ∙ ap (λ (p : Pair). p.tag) goes.my

  peer_is : peer_tag e.core ≡ goes.collision.old.peer.tag
  peer_is = link_peer e.core goes.collision.old goes.collision.was

  old_held : HasEffect (holds goes.collision.old) past
  old_held = h.mine goes.collision.old goes.collision.was

  link_noted : HasEffect (holds goes.collision.opened.link) o.effects
  link_noted = subst (HasEffect (holds goes.collision.opened.link)) (sym goes.collision.opened.noted) (inl refl)

  link_held : HasEffect (holds goes.collision.opened.link) (after_effects o.effects past)
  link_held = after_new (holds goes.collision.opened.link) o.effects past link_noted

  some : sender_key e.core ≢ 0
  some zero = (h.sender.known goes.collision.old old_held).0 (sym (link_tag e.core goes.collision.old goes.collision.was) ∙ zero)

  -- Its place was taken by none before.
  none_before : (former : Option ℕ) → ends.former (sender_key e.core) ≡ former → former ≡ None
  none_before None is = refl
  none_before (Some tag) is =
      let was = h.sender.replaced (sender_key e.core) tag is in
      let first : was.old ≡ goes.collision.old = goes.only was.old (before_held was.old was.link past was.before).0 (was.old_is ∙ key_is) in
      let second : was.link ≡ goes.collision.old = goes.only was.link (before_held was.old was.link past was.before).1 (was.link_is ∙ key_is) in
      absurd (was.other (sym was.former_is ∙ ap (λ (l : AssociationIdentity). l.peer.tag) (first ∙ sym second) ∙ was.latest_is))
    where
      before_held : (one other : AssociationIdentity) (past : List Effect) → IsBefore one other past → HasEffect (holds one) past × HasEffect (holds other) past
      before_held one other [] before = absurd before
      before_held one other (effect ∷ earlier) (inl here) = (inr here.1, inl here.0)
      before_held one other (effect ∷ earlier) (inr before) = (let both = before_held one other earlier before in (inr both.0, inr both.1))

  -- Each association is one of before, or this one.
  which : (each : AssociationIdentity) → HasEffect (holds each) (after_effects o.effects past) → HasEffect (holds each) past ⊎ (each ≡ goes.collision.opened.link)
  which each has = elim (after_split (holds each) o.effects past has) [ inl here ↦ inr (one_link (only_one each here) goes.collision.opened.linked) | inr before ↦ inl before ]
    where
      one_link : {found : Option AssociationIdentity} {one two : AssociationIdentity} → found ≡ Some one → found ≡ Some two → one ≡ two
      one_link first second = cc

  -- ---- the requests

  few_asked : length (ends.sends (sender_key e.core)).asking.requests < 2 ^ 32 - 1
  few_asked =
      let sent = requests_are_sent options (ends.firsts key) options.max_receiver_window_buffer_size (direction_of_ends (ends.sends key) (ends.gets key)) (h.runs key) in
      let went = h.sender.few_requests key in
      let all = requests_more_to (ends.latest key) packets ps in
      let few = little (ends.latest key) in
      omega (arith, sent, went, all, few)

  first_is : ends.firsts (sender_key e.core) ≡ goes.collision.opened.link.my.first_tsn
  first_is =
      let had = h.sender.current some in
      let one : had.link ≡ goes.collision.old = goes.only had.link had.held (had.tag_is ∙ key_is) in
      sym had.first_is ∙ ap (λ (l : AssociationIdentity). l.my.first_tsn) one ∙ ap (λ (p : Pair). p.first_tsn) goes.my

  none_requested : (ends.sends (sender_key e.core)).asking.requests ≡ []
  none_requested =
      nothing_begun options ends e queued past packets d their_past reading h goes.collision.old goes.collision.was (first_is ∙ ap (λ (p : Pair). p.first_tsn) (sym goes.my)) goes.collision.unasked few_asked

  asked_nothing : (ends.sends (sender_key e.core)).asking ≡ nothing_asked
  asked_nothing = asked_so options ends e queued past packets d their_past reading h none_requested

  -- ---- data goes to the other peer now

  abbrev latest : ℕ → ℕ
  latest = table_with (sender_key e.core) goes.collision.opened.link.peer.tag ends.latest

  abbrev former : ℕ → Option ℕ
  former = table_with (sender_key e.core) (Some goes.collision.old.peer.tag) ends.former

  abbrev to_other : Ends
  to_other = record ends { latest = table_with (sender_key e.core) goes.collision.opened.link.peer.tag ends.latest; former = table_with (sender_key e.core) (Some goes.collision.old.peer.tag) ends.former }

  within : IsWithin past (after_effects o.effects past)
  within = after_within o.effects past

  -- Another of its tag is one of before.
  of_other : (tag : ℕ) → tag ≢ sender_key e.core → (each : AssociationIdentity) → HasEffect (holds each) (after_effects o.effects past) → each.my.tag ≡ tag → HasEffect (holds each) past
  of_other tag ne each has same =
      elim (which each has) [
        | inl before ↦ before
        | inr here ↦ absurd (ne (sym same ∙ ap (λ (l : AssociationIdentity). l.my.tag) here ∙ sym key_is))
      ]

  -- Messages interleave as they did.
  kind_goes : (is_interleaved : Bool) → HadKind past (sender_key e.core) is_interleaved → HadKind (after_effects o.effects past) (sender_key e.core) is_interleaved
  kind_goes is_interleaved had =
      record {
        link = had.link;
        held = within (holds had.link) had.held;
        tag_is = had.tag_is;
        kind_is = λ each has same. elim (which each has) [
          | inl before ↦ had.kind_is each before same
          | inr here ↦
              ap (λ (l : AssociationIdentity). l.capabilities.message_interleaving) here ∙ sym goes.alike
              ∙ had.kind_is goes.collision.old old_held (sym (link_tag e.core goes.collision.old goes.collision.was))
        ];
      }

  was_replaced : PlaceWasTaken (after_effects o.effects past) (sender_key e.core) goes.collision.old.peer.tag goes.collision.opened.link.peer.tag
  was_replaced =
      record {
        old = goes.collision.old;
        link = goes.collision.opened.link;
        before = subst (λ (l : List Effect). IsBefore goes.collision.old goes.collision.opened.link (after_effects l past)) (sym goes.collision.opened.noted)
            (before_later goes.collision.opened.later (holds goes.collision.opened.link ∷ past) goes.collision.old goes.collision.opened.link (inl (refl, old_held)));
        old_is = sym (link_tag e.core goes.collision.old goes.collision.was);
        link_is = sym key_is;
        former_is = refl;
        latest_is = refl;
        other = goes.other;
      }

  sent_few : chunks_among_packets (ends.sends (sender_key e.core)).sent ≤ chunks_before (Some goes.collision.old.peer.tag) packets + chunks_to goes.collision.opened.link.peer.tag packets
  sent_few =
      let few = h.sender.few key in
      let none : chunks_before (ends.former key) packets ≡ 0 = ap (λ (f : Option ℕ). chunks_before f packets) (none_before (ends.former key) refl) in
      let to : chunks_to (ends.latest key) packets ≡ chunks_to goes.collision.old.peer.tag packets = ap (λ (n : ℕ). chunks_to n packets) (h.sender.to_is ∙ peer_is) in
      omega (arith, few, none, to)

  none_sent : requests_among_packets (ends.sends (sender_key e.core)).sent ≡ 0
  none_sent =
      unasked_sends_none options (ends.firsts key) options.max_receiver_window_buffer_size (direction_of_ends (ends.sends key) (ends.gets key)) (h.runs key) none_requested

  known_then : (each : AssociationIdentity) → HasEffect (holds each) (after_effects o.effects past)
      → (each.my.tag ≢ 0) × ((each.peer.tag ≡ table_with (sender_key e.core) goes.collision.opened.link.peer.tag ends.latest each.my.tag) ⊎ (table_with (sender_key e.core) (Some goes.collision.old.peer.tag) ends.former each.my.tag ≡ Some each.peer.tag))
  known_then each has =
      elim (which each has) [
        | inl before ↦ (
          (h.sender.known each before).0,
          elim (decide each.my.tag key) [
            | inl e' ↦ inr (ap (table_with key (Some goes.collision.old.peer.tag) ends.former) e' ∙ set_same key (Some goes.collision.old.peer.tag) ends.former
                ∙ ap (λ (l : AssociationIdentity). Some l.peer.tag) (sym (goes.only each before (e' ∙ key_is))))
            | inr ne ↦ elim (h.sender.known each before).1 [
              | inl is ↦ inl (is ∙ sym (set_other key each.my.tag goes.collision.opened.link.peer.tag ends.latest ne))
              | inr is ↦ inr (set_other key each.my.tag (Some goes.collision.old.peer.tag) ends.former ne ∙ is)
            ]
          ],
        )
        | inr here ↦ (
          λ zero. some (key_is ∙ ap (λ (l : AssociationIdentity). l.my.tag) (sym here) ∙ zero),
          inl (ap (λ (l : AssociationIdentity). l.peer.tag) here ∙ sym (set_same key goes.collision.opened.link.peer.tag ends.latest)
              ∙ ap latest (key_is ∙ ap (λ (l : AssociationIdentity). l.my.tag) (sym here))),
        )
      ]

  -- What went to a peer before did so still: there was none under this tag.
  went_so : (emission : Emission) → WentBefore ends emission → WentBefore (record ends { latest = table_with (sender_key e.core) goes.collision.opened.link.peer.tag ends.latest; former = table_with (sender_key e.core) (Some goes.collision.old.peer.tag) ends.former }) emission
  went_so emission went =
      record {
        tag = went.tag;
        former_is = set_other key went.tag (Some goes.collision.old.peer.tag) ends.former
            (λ same. (let clash : ◌≡◌ {A = Option ℕ} None (Some emission.packet.tag) = sym (none_before (ends.former key) refl) ∙ ap ends.former (sym same) ∙ went.former_is in absurd (cc))) ∙ went.former_is;
      }

  readdressed : Sender (record ends { latest = table_with (sender_key e.core) goes.collision.opened.link.peer.tag ends.latest; former = table_with (sender_key e.core) (Some goes.collision.old.peer.tag) ends.former })
      (sender_key e.core) goes.collision.opened.link.peer.tag e.queues queued (after_effects o.effects past) packets
  readdressed =
      record {
        queues_are = h.sender.queues_are;
        long = h.sender.long;
        marks = h.sender.marks;
        short = h.sender.short;
        few = set_three (λ tag f l m. chunks_among_packets (ends.sends tag).sent ≤ chunks_before f packets + chunks_to l packets) key (Some goes.collision.old.peer.tag) goes.collision.opened.link.peer.tag goes.collision.opened.link.peer.tag ends.former ends.latest ends.latest
            sent_few (λ tag ne. h.sender.few tag);
        few_requests = set_all (λ tag l. requests_among_packets (ends.sends tag).sent ≤ requests_to l packets) key goes.collision.opened.link.peer.tag ends.latest (let none = none_sent in omega (arith, none)) (λ tag ne. h.sender.few_requests tag);
        last = h.sender.last;
        pairs = h.sender.pairs;
        current = λ some'. had_later o.effects past key (ends.firsts key) (h.sender.current some');
        kind = λ some'. kind_goes e.queues.queue.is_interleaved (h.sender.kind some');
        begun = λ tag some'. elim (h.sender.begun tag some') [ inl waits ↦ inl waits | inr had ↦ inr (had_later o.effects past tag (ends.firsts tag) had) ];
        kinds = λ tag some'. elim (h.sender.kinds tag some') [ inl waits ↦ inl waits | inr had ↦ inr (kinds_then tag had) ];
        all_sent = of_more ends to_other past (after_effects o.effects past) packets within went_so (λ tag emission both has. inr has) h.sender.all_sent;
        to_is = set_same key goes.collision.opened.link.peer.tag ends.latest;
        went = inr (record { link = goes.collision.opened.link; held = link_held; tag_is = sym key_is; peer_is = refl });
        replaced = replaced_then;
        known = known_then;
      }
    where
      kinds_then : (tag : ℕ) → HadKind past tag (ends.sends tag).queues.queue.is_interleaved → HadKind (after_effects o.effects past) tag (ends.sends tag).queues.queue.is_interleaved
      kinds_then tag had =
          elim (decide tag key) [
            | inl e' ↦ subst (λ (n : ℕ). HadKind (after_effects o.effects past) n (ends.sends tag).queues.queue.is_interleaved) (sym e')
                (kind_goes (ends.sends tag).queues.queue.is_interleaved (subst (λ (n : ℕ). HadKind past n (ends.sends tag).queues.queue.is_interleaved) e' had))
            | inr ne ↦ record { link = had.link; held = within (holds had.link) had.held; tag_is = had.tag_is; kind_is = λ each has same. had.kind_is each (of_other tag ne each has same) same }
          ]

      replaced_then : (tag before : ℕ) → former tag ≡ Some before → PlaceWasTaken (after_effects o.effects past) tag before (latest tag)
      replaced_then tag =
          elim (decide tag key) [
            | inl e' ↦ subst (λ (n : ℕ). (before : ℕ) → former n ≡ Some before → PlaceWasTaken (after_effects o.effects past) n before (latest n)) (sym e') (λ before is. here before (sym (set_same key (Some goes.collision.old.peer.tag) ends.former) ∙ is))
            | inr ne ↦ λ before is.
                subst (PlaceWasTaken (after_effects o.effects past) tag before) (sym (set_other key tag goes.collision.opened.link.peer.tag ends.latest ne))
                (replaced_later o.effects past tag before (ends.latest tag) (h.sender.replaced tag before (sym (set_other key tag (Some goes.collision.old.peer.tag) ends.former ne) ∙ is)))
          ]
        where
          here : (before : ℕ) → Some goes.collision.old.peer.tag ≡ Some before → PlaceWasTaken (after_effects o.effects past) key before (latest key)
          here before is =
              let one : goes.collision.old.peer.tag ≡ before = cc in
              subst (λ (n : ℕ). PlaceWasTaken (after_effects o.effects past) key n (latest key)) one
              (subst (PlaceWasTaken (after_effects o.effects past) key goes.collision.old.peer.tag) (sym (set_same key goes.collision.opened.link.peer.tag ends.latest)) was_replaced)

  -- ---- after the turn

  outlasts : Outlasts options (ends.firsts (sender_key e.core)) options.max_receiver_window_buffer_size (direction_of_ends (ends.sends (sender_key e.core)) (ends.gets (sender_key e.core))) (taken_turn e input o) goes.collision
  outlasts = goes_on_so first_is asked_nothing

  abbrev end : SendingEnd
  end = record (ends.sends (sender_key e.core)) { queues = o.after.queues; acknowledged = outlasts.acknowledged; sent = (ends.sends (sender_key e.core)).sent ++ packets_of_events o.events; asking = outlasts.asking }

  abbrev later : Ends
  later = record ends { sends = table_with (sender_key e.core) end ends.sends; latest = table_with (sender_key e.core) goes.collision.opened.link.peer.tag ends.latest; former = table_with (sender_key e.core) (Some goes.collision.old.peer.tag) ends.former }

  sender_then : Sender later (sender_key e.core) goes.collision.opened.link.peer.tag o.after.queues queued (after_effects o.effects past) (packets ++ packets_of_events o.events)
  sender_then =
      grown to_other key goes.collision.opened.link.peer.tag e.queues queued (after_effects o.effects past) packets readdressed [] [] o.after.queues outlasts.acknowledged ps outlasts.asking (ends.sends (sender_key e.core)).prepared ends.calls outlasts.addressed outlasts.kind (λ each has. has)

  same_then : sender_key o.after.core ≡ sender_key e.core
  same_then = link_tag o.after.core goes.collision.opened.link goes.collision.opened.linked ∙ sym key_is

  few_then : length outlasts.asking.requests < 2 ^ 32 - 1
  few_then =
      let sent = requests_are_sent options (ends.firsts key) options.max_receiver_window_buffer_size
      (direction_with_sender (direction_of_ends (ends.sends key) (ends.gets key)) (ends.sends key).queued o.after.queues outlasts.acknowledged ((ends.sends key).sent ++ ps) outlasts.asking) outlasts.run in
      let more = requests_more (ends.sends key).sent ps in
      let none = none_sent in
      let went = addressed_requests goes.collision.opened.link.peer.tag ps outlasts.addressed in
      let all = requests_more_to goes.collision.opened.link.peer.tag packets ps in
      let few = little goes.collision.opened.link.peer.tag in
      omega (arith, sent, more, none, went, all, few)

  old_some : goes.collision.old.my.tag ≢ 0
  old_some = (h.sender.known goes.collision.old old_held).0

  answers_then : AnswersRequests (requests_of later w.pairs) (Some goes.collision.opened.link) (after_effects o.effects past) (identity_of_core d.core) their_past (waiting_deferral d.queues.transfer)
  answers_then =
      let own : sender_key e.core ≡ goes.collision.old.my.tag = link_tag e.core goes.collision.old goes.collision.was in
      same_own (requests_of later w.pairs) goes.collision.old goes.collision.opened.link (after_effects o.effects past) (identity_of_core d.core) their_past (waiting_deferral d.queues.transfer) goes.my
      (goes_answers ends e past d their_past w h.sender.queues_are o.after o.effects end outlasts.kind goes.collision.old goes.collision.was old_some
      (ends.sends goes.collision.old.my.tag).asking outlasts.asking refl (subst (λ (t : ℕ). length (ends.sends t).asking.requests < 2 ^ 32 - 1) own few_asked) (ends_so _ asked.as_it_was)
      (may_begin (ends.firsts goes.collision.old.my.tag) o.after.core o.after.outstanding (ends.sends goes.collision.old.my.tag).asking outlasts.asking goes.collision.opened.link goes.collision.opened.linked
      (subst (λ (a : Asking). AskingGrows a outlasts.asking) (sym (ap (λ (t : ℕ). (ends.sends t).asking) (sym own) ∙ asked_nothing)) outlasts.grows)
      (subst (λ (t : ℕ). AsksFit (ends.firsts t) (own_of o.after) outlasts.asking) own outlasts.fits) few_then))

  anew_before : o.after.options.follow_rfc ≡ e.options.follow_rfc → (tag : ℕ) → NumbersFromZero o.after (after_effects o.effects past) tag → NumbersFromZero e past tag
  anew_before follows tag (inl anew) = inl (sym follows ∙ anew)
  anew_before follows tag (inr only) = inr (λ each has. only each (within (holds each) has))

  only_before : (tag : ℕ) → IsOnlyOwn (after_effects o.effects past) tag → IsOnlyOwn past tag
  only_before tag only = λ each has. only each (within (holds each) has)

  pub outlasts_goes_on : (seen : List (Event Emission)) → AreSeen ends d their_past seen → o.after.options.follow_rfc ≡ e.options.follow_rfc → TakesTurnsByOption o.after → AreEnds ends.calls seen options (sending_side o.after queued (after_effects o.effects past) (packets ++ packets_of_events o.events)) (receiving_side d their_past reading)
  outlasts_goes_on seen reported follows rules =
      record {
        ends = later;
        is = refl;
        between = record {
          runs = set_all (λ tag s. DirectionRun options (ends.firsts tag) options.max_receiver_window_buffer_size (direction_of_ends s (ends.gets tag))) key end ends.sends outlasts.run (λ tag ne. h.runs tag);
          small = h.small;
          sender = subst (λ (k : ℕ). Sender later k (peer_tag o.after.core) o.after.queues queued (after_effects o.effects past) (packets ++ ps)) (sym same_then)
              (subst (λ (n : ℕ). Sender later key n o.after.queues queued (after_effects o.effects past) (packets ++ ps)) (sym (link_peer o.after.core goes.collision.opened.link goes.collision.opened.linked)) sender_then);
          mine = λ each there. subst (λ (l : AssociationIdentity). HasEffect (holds l) (after_effects o.effects past)) (the_one each there) link_held;
          idle = λ unlinked. (let linked = goes.collision.opened.linked in absurd (cc));
          asks = subst (λ (k : ℕ). AsksFit (ends.firsts k) (own_of o.after) (table_with key end ends.sends k).asking) (sym same_then)
              (subst (λ (s : SendingEnd). AsksFit (ends.firsts key) (own_of o.after) s.asking) (sym (set_same key end ends.sends)) outlasts.fits);
          numbered = set_all (λ tag s. tag ≢ 0 → NumbersFromZero o.after (after_effects o.effects past) tag → s.beginning.from_zero ≡ true) key end ends.sends (λ some' anew. h.numbered key some' (anew_before follows key anew))
              (λ tag ne some' anew. h.numbered tag some' (anew_before follows tag anew));
          kept = set_all (λ tag s. tag ≢ 0 → IsOnlyOwn (after_effects o.effects past) tag → KeepsThese ends.calls s.beginning) key end ends.sends
              (λ some' only. h.kept key some' (only_before key only)) (λ tag ne some' only. h.kept tag some' (only_before tag only));
          made = set_all (λ tag s. tag ≢ 0 → IsOnlyOwn (after_effects o.effects past) tag → (call : PreparedReset) → HasEntry call ends.calls.made → HasEntry call s.prepared) key end ends.sends
              (λ some' only. h.made key some' (only_before key only)) (λ tag ne some' only. h.made tag some' (only_before tag only));
          unmade = λ never. absurd (never goes.collision.opened.link link_held);
          dropping = set_all (λ tag s. KeepsOnlyThese ends.calls s.beginning) key end ends.sends (h.dropping key) (λ tag ne. h.dropping tag);
          rules = rules;
          unbegun = λ never. absurd (never goes.collision.opened.link link_held);
          receiver = receiver_same options ends later.sends later.latest later.former later.calls d their_past reading h.receiver;
          alone = λ tag. alone_later options ends later past (after_effects o.effects past) their_past their_past within (λ effect has. has) tag refl refl (h.alone tag);
        };
        answered = record {
          pairs = w.pairs;
          answers = subst (λ (l : Option AssociationIdentity). AnswersRequests (requests_of later w.pairs) l (after_effects o.effects past) (identity_of_core d.core) their_past (waiting_deferral d.queues.transfer)) (sym goes.collision.opened.linked) answers_then;
          unlinked = w.unlinked;
        };
        reported = seen_still ends later e past d their_past seen w
            (set_all (λ tag s. tag ≢ 0 → RequestsStay (ends.sends tag).asking s.asking) key end ends.sends
            (λ some'. nothing_stays (ends.sends key).asking outlasts.asking (ap (λ (a : Asking). a.requests) asked_nothing)) (λ tag ne some' begun has. has)) reported.heard reported;
      }
    where
      the_one : (each : AssociationIdentity) → identity_of_core o.after.core ≡ Some each → goes.collision.opened.link ≡ each
      the_one each there = (let first = goes.collision.opened.linked in cc)

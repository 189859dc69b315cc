-- A turn of the sender.
use Rattle.std.proofs.Common.{◌≡◌, ◌≢◌, ℕ, Bool, ◌+◌, ◌≤◌, Option, None, Some, List, [], ◌∷◌, ◌++◌, length, refl, sym, ◌∙◌, ap, arith, subst, inl, inr}
use Rattle.std.specs.Prelude.{◌⊎◌}
use Rattle.std.proofs.lemmas.List.{length-append}
use Rattle.dcsctp_spec_lemmas.specs.spec.endpoint.Endpoint.{Core, closed, cookie_wait, cookie_echoed, open_in}
use Rattle.dcsctp_spec_lemmas.specs.spec.Packet.{Emission}
use Rattle.dcsctp_spec_runs.specs.World.{after_effects}
use Rattle.dcsctp_spec_runs.specs.Past.{HasEffect}
use Rattle.dcsctp_spec_lemmas.specs.spec.association.Effect.{AssociationIdentity, Effect, holds, identity_of_core}
use Rattle.dcsctp_spec_lemmas.specs.spec.queues.Transfer.{EndpointQueues}
use Rattle.dcsctp_theorem_association.proofs.Growth.{after_within}
use Rattle.dcsctp_delivery_directions.specs.sending.Places as places
use Rattle.dcsctp_delivery_directions.specs.sending.Places.{table_with}
use Rattle.dcsctp_delivery_directions.specs.sending.Log.{Message}
use Rattle.dcsctp_delivery_directions.specs.sending.ChunkCounts.{chunks_among_packets, chunks_to}
use Rattle.dcsctp_delivery_directions.specs.sending.Marking.{all_marked, AreMarked}
use Rattle.dcsctp_delivery_directions.proofs.sending.Places.{decide, set_same, set_other}
use Rattle.dcsctp_delivery_directions.proofs.sending.MarkingAll.{all_are_marked, gone_are_marked}
use Rattle.dcsctp_delivery_directions.proofs.directions.ChunkCounts.{chunks_more}
use Rattle.dcsctp_delivery_directions.specs.directions.Directions.{Asking, PreparedReset, Beginning, DirectionRun}
use Rattle.dcsctp_spec_lemmas.specs.types.declared.options.Options.{Options}
use Rattle.dcsctp_delivery_sockets.specs.turns.Actions.{peer_tag}
use Rattle.dcsctp_delivery_sockets.specs.turns.Addressed.{IsAddressed, AreAddressed}
use Rattle.dcsctp_delivery_directions.specs.directions.Requests.{requests_among_packets, requests_to}
use Rattle.dcsctp_delivery_directions.proofs.directions.RequestCounts.{requests_more, requests_more_to}
use Rattle.dcsctp_delivery_sockets.proofs.associations.Counting.{addressed_requests}
use Rattle.dcsctp_delivery_sockets.specs.associations.Ends.{ResetCalls, SendingEnd, ReceivingEnd, Ends, MarksLeft, HadPeer, HadKind, HadBoth, IsBefore, PlaceWasTaken, Awaits, IsOfEnds, AreOfEnds, chunks_before, sender_key, direction_of_ends, unbegun_end, IsMet, MetOrAlone, Sender, WentBefore}
use Rattle.dcsctp_delivery_sockets.proofs.associations.Counting.{more_to, addressed_counts}
use Rattle.dcsctp_delivery_sockets.proofs.associations.Growing.{set_all, set_three, AllFound, found_later, found_then, found_grown, marked_grown, marked_still}

-- ---- the tags of an association

key_of : Option AssociationIdentity → ℕ
key_of None = 0
key_of (Some link) = link.my.tag

peer_of : Option AssociationIdentity → ℕ
peer_of None = 0
peer_of (Some link) = link.peer.tag

link_key : (core : Core) → sender_key core ≡ key_of (identity_of_core core)
unfolding key_of
link_key closed = refl
link_key (cookie_wait my) = refl
link_key (cookie_echoed my held cookie) = refl
link_key (open_in phase my held) = refl

link_to : (core : Core) → peer_tag core ≡ peer_of (identity_of_core core)
unfolding peer_of
link_to closed = refl
link_to (cookie_wait my) = refl
link_to (cookie_echoed my held cookie) = refl
link_to (open_in phase my held) = refl

pub same_key : (core other : Core) → identity_of_core core ≡ identity_of_core other → sender_key core ≡ sender_key other
same_key core other same = link_key core ∙ ap key_of same ∙ sym (link_key other)

pub same_peer : (core other : Core) → identity_of_core core ≡ identity_of_core other → peer_tag core ≡ peer_tag other
same_peer core other same = link_to core ∙ ap peer_of same ∙ sym (link_to other)

pub no_key : (core : Core) → identity_of_core core ≡ None → sender_key core ≡ 0
unfolding key_of
no_key core none = link_key core ∙ ap key_of none

pub no_peer : (core : Core) → identity_of_core core ≡ None → peer_tag core ≡ 0
unfolding peer_of
no_peer core none = link_to core ∙ ap peer_of none

pub link_tag : (core : Core) (link : AssociationIdentity) → identity_of_core core ≡ Some link → sender_key core ≡ link.my.tag
unfolding key_of
link_tag core link is = link_key core ∙ ap key_of is

pub link_peer : (core : Core) (link : AssociationIdentity) → identity_of_core core ≡ Some link → peer_tag core ≡ link.peer.tag
unfolding peer_of
link_peer core link is = link_to core ∙ ap peer_of is

-- ---- pasts

-- What is recorded in the one past is in the other.
abbrev pub IsWithin : List Effect → List Effect → Type 0
IsWithin past later = (effect : Effect) → HasEffect effect past → HasEffect effect later

-- No association with this tag began.
abbrev pub NoneBegan : List Effect → List Effect → ℕ → Type 0
NoneBegan past later tag = (each : AssociationIdentity) → HasEffect (holds each) later → each.my.tag ≡ tag → HasEffect (holds each) past

pub had_later : (effects past : List Effect) (tag first : ℕ) → HadPeer past tag first → HadPeer (after_effects effects past) tag first
had_later effects past tag first had = record { link = had.link; held = after_within effects past (holds had.link) had.held; tag_is = had.tag_is; first_is = had.first_is }

pub both_later : (past later : List Effect) → IsWithin past later → (tag peer : ℕ) → HadBoth past tag peer → HadBoth later tag peer
both_later past later within tag peer had = record { link = had.link; held = within (holds had.link) had.held; tag_is = had.tag_is; peer_is = had.peer_is }

pub kind_later : (effects past : List Effect) (tag : ℕ) (is_interleaved : Bool) → NoneBegan past (after_effects effects past) tag → HadKind past tag is_interleaved → HadKind (after_effects effects past) tag is_interleaved
kind_later effects past tag is_interleaved none had =
    record { link = had.link; held = after_within effects past (holds had.link) had.held; tag_is = had.tag_is; kind_is = λ each has same. had.kind_is each (none each has same) same }

pub before_later : (effects past : List Effect) (old link : AssociationIdentity) → IsBefore old link past → IsBefore old link (after_effects effects past)
before_later [] past old link before = before
before_later (effect ∷ effects) past old link before = before_later effects (effect ∷ past) old link (inr before)

pub replaced_later : (effects past : List Effect) (tag former latest : ℕ) → PlaceWasTaken past tag former latest → PlaceWasTaken (after_effects effects past) tag former latest
replaced_later effects past tag former latest was =
    record {
      old = was.old;
      link = was.link;
      before = before_later effects past was.old was.link was.before;
      old_is = was.old_is;
      link_is = was.link_is;
      former_is = was.former_is;
      latest_is = was.latest_is;
      other = was.other;
    }

pub went_later : (past later : List Effect) → IsWithin past later → (key to : ℕ) → (to ≡ 0) ⊎ HadBoth past key to → (to ≡ 0) ⊎ HadBoth later key to
went_later past later within key to (inl zero) = inl zero
went_later past later within key to (inr both) = inr (both_later past later within key to both)

pub met_later : (past later their_past their_later : List Effect) → IsWithin past later → IsWithin their_past their_later → (tag : ℕ) → IsMet past their_past tag → IsMet later their_later tag
met_later past later their_past their_later within their_within tag met =
    record { link = met.link; held = their_within (holds met.link) met.held; tag_is = met.tag_is; both = both_later past later within tag met.link.my.tag met.both }

-- What was received is the same.
pub alone_later : (options : Options) (ends ends' : Ends) (past later their_past their_later : List Effect) → IsWithin past later → IsWithin their_past their_later → (tag : ℕ) → ends'.gets tag ≡ ends.gets tag → ends'.firsts tag ≡ ends.firsts tag
    → MetOrAlone options ends past their_past tag → MetOrAlone options ends' later their_later tag
alone_later options ends ends' past later their_past their_later within their_within tag gets firsts (inl met) = inl (met_later past later their_past their_later within their_within tag met)
alone_later options ends ends' past later their_past their_later within their_within tag gets firsts (inr run) =
    inr
    (subst (λ (n : ℕ). DirectionRun options n options.max_receiver_window_buffer_size (direction_of_ends (unbegun_end options) (ends'.gets tag))) (sym firsts)
    (subst (λ (g : ReceivingEnd). DirectionRun options (ends.firsts tag) options.max_receiver_window_buffer_size (direction_of_ends (unbegun_end options) g)) (sym gets) run))

-- ---- packets

pub of_more : (ends later : Ends) (past past' : List Effect) (packets : List Emission) → IsWithin past past'
    → ((emission : Emission) → WentBefore ends emission → WentBefore later emission)
    → ((tag : ℕ) (emission : Emission) → HadBoth past tag emission.packet.tag → places.HasEntry emission (ends.sends tag).sent → WentBefore later emission ⊎ places.HasEntry emission (later.sends tag).sent) → AreOfEnds ends past packets → AreOfEnds later past' packets
of_more ends later past past' [] within before more are = tt
of_more ends later past past' (p ∷ packets) within before more are = (one are.0, of_more ends later past past' packets within before more are.1)
  where
    one : IsOfEnds ends past p → IsOfEnds later past' p
    one (inl none) = inl none
    one (inr (free, inl zero)) = inr (free, inl zero)
    one (inr (free, inr (inl went))) = inr (free, inr (inl (before p went)))
    one (inr (free, inr (inr end))) =
        elim (more end.tag p end.both end.has) [
          | inl went ↦ inr (free, inr (inl went))
          | inr has ↦ inr (free, inr (inr (record { tag = end.tag; both = both_later past past' within end.tag p.packet.tag end.both; has = has })))
        ]

of_both : (ends : Ends) (past : List Effect) (one other : List Emission) → AreOfEnds ends past one → AreOfEnds ends past other → AreOfEnds ends past (one ++ other)
of_both ends past [] other are are' = are'
of_both ends past (p ∷ one) other are are' = (are.0, of_both ends past one other are.1 are')

-- packets that go to the peer of one tag, whose end has them
of_new : (ends : Ends) (past : List Effect) (key to : ℕ) (packets : List Emission) → ((emission : Emission) → places.HasEntry emission packets → places.HasEntry emission (ends.sends key).sent) → (to ≡ 0) ⊎ HadBoth past key to
    → AreAddressed to packets → AreOfEnds ends past packets
of_new ends past key to [] has went are = tt
of_new ends past key to (p ∷ packets) has went are = (one are.0 went, of_new ends past key to packets (λ q h. has q (inr h)) went are.1)
  where
    one : IsAddressed to p → (to ≡ 0) ⊎ HadBoth past key to → IsOfEnds ends past p
    one (inl none) went = inl none
    one (inr (tag, free)) (inl zero) = inr (free, inl (tag ∙ zero))
    one (inr (tag, free)) (inr both) = inr (free, inr (inr (record { tag = key; both = subst (HadBoth past key) (sym tag) both; has = has p (inl refl) })))

pub has_front : (p : Emission) (one other : List Emission) → places.HasEntry p one → places.HasEntry p (one ++ other)
has_front p [] other h = absurd h
has_front p (q ∷ one) other (inl e) = inl e
has_front p (q ∷ one) other (inr h) = inr (has_front p one other h)

pub has_back : (p : Emission) (one other : List Emission) → places.HasEntry p other → places.HasEntry p (one ++ other)
has_back p [] other h = h
has_back p (q ∷ one) other h = inr (has_back p one other h)

-- What went to the peer before is no less.
pub before_grows : (former : Option ℕ) (packets more : List Emission) → chunks_before former packets ≤ chunks_before former (packets ++ more)
before_grows None packets more = omega arith
before_grows (Some tag) packets more = (let b = more_to tag packets more in omega (arith, b))

-- ---- the current end grows

module _ (ends : Ends) (key to : ℕ) (below : EndpointQueues) (queued : List Message) (past : List Effect) (packets : List Emission) (h : Sender ends key to below queued past packets)
    (effects : List Effect) (more : List Message) (after : EndpointQueues) (acknowledged : ℕ) (ps : List Emission) (asking : Asking) (prepared : List PreparedReset) (calls : ResetCalls) where
  abbrev pub grown_end : SendingEnd
  grown_end = record { queued = more ++ (ends.sends key).queued; queues = after; acknowledged = acknowledged; sent = (ends.sends key).sent ++ ps; asking = asking; prepared = prepared; beginning = (ends.sends key).beginning }

  abbrev pub grown_ends : Ends
  grown_ends = record ends { sends = table_with key grown_end ends.sends; calls = calls }

  grown_last : (tag : ℕ) → tag ≢ key → MarksLeft (ends.sends tag) (more ++ (ends.sends key).queued)
  grown_last tag ne place below gone =
      marked_grown more (ends.sends key).queued place (let short = h.short tag in let long = h.long in omega (arith, below, short, long)) (h.last tag ne place below gone)

  grown_sent : (tag : ℕ) (emission : Emission) → places.HasEntry emission (ends.sends tag).sent → places.HasEntry emission (grown_ends.sends tag).sent
  grown_sent tag emission has =
      elim (decide tag key) [
        | inl e ↦
            subst (λ (n : ℕ). places.HasEntry emission (grown_ends.sends n).sent) (sym e)
            (subst (λ (s : SendingEnd). places.HasEntry emission s.sent) (sym (set_same key grown_end ends.sends))
            (has_front emission (ends.sends key).sent ps (subst (λ (n : ℕ). places.HasEntry emission (ends.sends n).sent) e has)))
        | inr ne ↦ subst (λ (s : SendingEnd). places.HasEntry emission s.sent) (sym (set_other key tag grown_end ends.sends ne)) has
      ]

  grown_pairs : (one other : ℕ) → one ≢ other → MarksLeft (grown_ends.sends one) (grown_ends.sends other).queued ⊎ MarksLeft (grown_ends.sends other) (grown_ends.sends one).queued
  grown_pairs one other ne =
      elim (decide one key) [
        | inl e ↦ inr (behind other one e (λ is. ne (e ∙ sym is)))
        | inr ne' ↦
            elim (decide other key) [
              | inl e ↦ inl (behind one other e ne')
              | inr ne'' ↦ both (set_other key one grown_end ends.sends ne') (set_other key other grown_end ends.sends ne'') (h.pairs one other ne)
            ]
      ]
    where
      behind : (tag at : ℕ) → at ≡ key → tag ≢ key → MarksLeft (grown_ends.sends tag) (grown_ends.sends at).queued
      behind tag at e ne =
          subst (λ (s : SendingEnd). MarksLeft s (grown_ends.sends at).queued) (sym (set_other key tag grown_end ends.sends ne))
          (subst (λ (n : ℕ). MarksLeft (ends.sends tag) (grown_ends.sends n).queued) (sym e)
          (subst (λ (s : SendingEnd). MarksLeft (ends.sends tag) s.queued) (sym (set_same key grown_end ends.sends)) (grown_last tag ne)))

      both : (grown_ends.sends one) ≡ ends.sends one → (grown_ends.sends other) ≡ ends.sends other → MarksLeft (ends.sends one) (ends.sends other).queued ⊎ MarksLeft (ends.sends other) (ends.sends one).queued
          → MarksLeft (grown_ends.sends one) (grown_ends.sends other).queued ⊎ MarksLeft (grown_ends.sends other) (grown_ends.sends one).queued
      both e f (inl l) = inl (subst (λ (s : SendingEnd). MarksLeft s (grown_ends.sends other).queued) (sym e) (subst (λ (s : SendingEnd). MarksLeft (ends.sends one) s.queued) (sym f) l))
      both e f (inr l) = inr (subst (λ (s : SendingEnd). MarksLeft s (grown_ends.sends one).queued) (sym f) (subst (λ (s : SendingEnd). MarksLeft (ends.sends other) s.queued) (sym e) l))

  pub grown : AreAddressed to ps → after.queue.is_interleaved ≡ below.queue.is_interleaved → ((each : AssociationIdentity) → HasEffect (holds each) (after_effects effects past) → HasEffect (holds each) past)
      → Sender grown_ends key to after (more ++ queued) (after_effects effects past) (packets ++ ps)
  grown addressed same_kind none =
      record {
        queues_are = ap (λ (s : SendingEnd). s.queues) (set_same key grown_end ends.sends);
        long = ap (λ (s : SendingEnd). length s.queued) (set_same key grown_end ends.sends) ∙ length-append more (ends.sends key).queued ∙ ap (λ (n : ℕ). length more + n) h.long ∙ sym (length-append more queued);
        marks = set_all (λ tag s. AllFound s.queued (more ++ queued)) key grown_end ends.sends (found_grown more (ends.sends key).queued queued h.long (h.marks key))
            (λ tag ne place mark at. found_later more queued mark place (h.marks tag place mark at));
        short = set_all (λ tag s. length s.queued ≤ length (more ++ queued)) key grown_end ends.sends
            (let a = length-append more (ends.sends key).queued in let b = length-append more queued in let c = h.long in omega (arith, a, b, c))
            (λ tag ne. (let b = length-append more queued in let c = h.short tag in omega (arith, b, c)));
        few = set_all (λ tag s. chunks_among_packets s.sent ≤ chunks_before (ends.former tag) (packets ++ ps) + chunks_to (ends.latest tag) (packets ++ ps)) key grown_end ends.sends
            (let a = chunks_more (ends.sends key).sent ps in let b = more_to (ends.latest key) packets ps in let c = addressed_counts (ends.latest key) ps here in let d = h.few key in
            let f = before_grows (ends.former key) packets ps in omega (arith, a, b, c, d, f))
            (λ tag ne. (let b = more_to (ends.latest tag) packets ps in let c = h.few tag in let f = before_grows (ends.former tag) packets ps in omega (arith, b, c, f)));
        few_requests = set_all (λ tag s. requests_among_packets s.sent ≤ requests_to (ends.latest tag) (packets ++ ps)) key grown_end ends.sends
            (let a = requests_more (ends.sends key).sent ps in let b = requests_more_to (ends.latest key) packets ps in let c = addressed_requests (ends.latest key) ps here in let d = h.few_requests key in omega (arith, a, b, c, d))
            (λ tag ne. (let b = requests_more_to (ends.latest tag) packets ps in let c = h.few_requests tag in omega (arith, b, c)));
        last = λ tag ne. subst (λ (s : SendingEnd). MarksLeft s (grown_ends.sends key).queued) (sym (set_other key tag grown_end ends.sends ne))
            (subst (λ (s : SendingEnd). MarksLeft (ends.sends tag) s.queued) (sym (set_same key grown_end ends.sends)) (grown_last tag ne));
        pairs = grown_pairs;
        current = λ some. had_later effects past key (ends.firsts key) (h.current some);
        kind = kind_now;
        begun = λ tag some. elim (decide tag key) [
          | inl e ↦ inr (subst (λ (n : ℕ). HadPeer (after_effects effects past) n (ends.firsts n)) (sym e) (had_later effects past key (ends.firsts key) (h.current (λ is. some (e ∙ is)))))
          | inr ne ↦ begun_before tag ne (h.begun tag some)
        ];
        kinds = set_all (λ tag s. tag ≢ 0 → Awaits s ⊎ HadKind (after_effects effects past) tag s.queues.queue.is_interleaved) key grown_end ends.sends
            (λ some. inr (kind_now some))
            (λ tag ne some. kinds_before tag (h.kinds tag some));
        all_sent = of_both grown_ends (after_effects effects past) packets ps (of_more ends grown_ends past (after_effects effects past) packets within (λ emission went. record { tag = went.tag; former_is = went.former_is }) (λ tag emission both has. inr (grown_sent tag emission has)) h.all_sent)
            (of_new grown_ends (after_effects effects past) key to ps
            (λ emission has. subst (λ (s : SendingEnd). places.HasEntry emission s.sent) (sym (set_same key grown_end ends.sends)) (has_back emission (ends.sends key).sent ps has))
            (went_later past (after_effects effects past) within key to h.went) addressed);
        to_is = h.to_is;
        went = went_later past (after_effects effects past) within key to h.went;
        replaced = λ tag former is. replaced_later effects past tag former (ends.latest tag) (h.replaced tag former is);
        known = λ link has. h.known link (none link has);
      }
    where
      within : IsWithin past (after_effects effects past)
      within = after_within effects past

      here : AreAddressed (ends.latest key) ps
      here = subst (λ (n : ℕ). AreAddressed n ps) (sym h.to_is) addressed

      kind_now : key ≢ 0 → HadKind (after_effects effects past) key after.queue.is_interleaved
      kind_now some = kind_later effects past key after.queue.is_interleaved (λ each has same. none each has) (subst (HadKind past key) (sym same_kind) (h.kind some))

      begun_before : (tag : ℕ) → tag ≢ key → Awaits (ends.sends tag) ⊎ HadPeer past tag (ends.firsts tag) → Awaits (grown_ends.sends tag) ⊎ HadPeer (after_effects effects past) tag (ends.firsts tag)
      begun_before tag ne (inl waits) = inl (subst Awaits (sym (set_other key tag grown_end ends.sends ne)) waits)
      begun_before tag ne (inr had) = inr (had_later effects past tag (ends.firsts tag) had)

      kinds_before : (tag : ℕ) → Awaits (ends.sends tag) ⊎ HadKind past tag (ends.sends tag).queues.queue.is_interleaved → Awaits (ends.sends tag) ⊎ HadKind (after_effects effects past) tag (ends.sends tag).queues.queue.is_interleaved
      kinds_before tag (inl waits) = inl waits
      kinds_before tag (inr had) = inr (kind_later effects past tag (ends.sends tag).queues.queue.is_interleaved (λ each has same. none each has) had)

-- ---- another end takes its place, in which all that no longer waits is marked

module _ (ends : Ends) (key peer : ℕ) (below : EndpointQueues) (queued : List Message) (past : List Effect) (packets : List Emission) (h : Sender ends key peer below queued past packets)
    (effects : List Effect) (to at : ℕ) (after : EndpointQueues) (acknowledged : ℕ) (ps : List Emission) (asking : Asking) (beginning : Beginning) (gets : ℕ → ReceivingEnd) (firsts : ℕ → ℕ) (before : Option ℕ) where
  abbrev pub marked_queue : List Message
  marked_queue = all_marked (length (ends.sends key).queued) (ends.sends key).queues.queue.streams (ends.sends key).queued

  abbrev pub renewed_end : SendingEnd
  renewed_end = record { queued = marked_queue; queues = after; acknowledged = acknowledged; sent = ps; asking = asking; prepared = []; beginning = beginning }

  abbrev pub renewed_ends : Ends
  renewed_ends = record ends { sends = table_with to renewed_end ends.sends; gets = gets; firsts = firsts; latest = table_with to at ends.latest; former = table_with to before ends.former }

  are : AreMarked marked_queue (ends.sends key).queued
  are = all_are_marked (length (ends.sends key).queued) (ends.sends key).queues.queue.streams (ends.sends key).queued

  renewed_last : (tag : ℕ) → MarksLeft (ends.sends tag) marked_queue
  renewed_last tag =
      elim (decide tag key) [
        | inl e ↦
            subst (λ (n : ℕ). MarksLeft (ends.sends n) marked_queue) (sym e)
            (λ place below gone. gone_are_marked (length (ends.sends key).queued) place (ends.sends key).queues.queue.streams (ends.sends key).queued below gone)
        | inr ne ↦ λ place below gone. marked_still marked_queue (ends.sends key).queued place are (h.last tag ne place below gone)
      ]

  renewed_behind : (tag other : ℕ) → other ≡ to → tag ≢ to → MarksLeft (renewed_ends.sends tag) (renewed_ends.sends other).queued
  renewed_behind tag other e ne =
      subst (λ (s : SendingEnd). MarksLeft s (renewed_ends.sends other).queued) (sym (set_other to tag renewed_end ends.sends ne))
      (subst (λ (n : ℕ). MarksLeft (ends.sends tag) (renewed_ends.sends n).queued) (sym e)
      (subst (λ (s : SendingEnd). MarksLeft (ends.sends tag) s.queued) (sym (set_same to renewed_end ends.sends)) (renewed_last tag)))

  renewed_both : (one other : ℕ) → (renewed_ends.sends one) ≡ ends.sends one → (renewed_ends.sends other) ≡ ends.sends other
      → MarksLeft (ends.sends one) (ends.sends other).queued ⊎ MarksLeft (ends.sends other) (ends.sends one).queued
      → MarksLeft (renewed_ends.sends one) (renewed_ends.sends other).queued ⊎ MarksLeft (renewed_ends.sends other) (renewed_ends.sends one).queued
  renewed_both one other e f (inl l) = inl (subst (λ (s : SendingEnd). MarksLeft s (renewed_ends.sends other).queued) (sym e) (subst (λ (s : SendingEnd). MarksLeft (ends.sends one) s.queued) (sym f) l))
  renewed_both one other e f (inr l) = inr (subst (λ (s : SendingEnd). MarksLeft s (renewed_ends.sends one).queued) (sym f) (subst (λ (s : SendingEnd). MarksLeft (ends.sends other) s.queued) (sym e) l))

  renewed_pairs : (one other : ℕ) → one ≢ other → MarksLeft (renewed_ends.sends one) (renewed_ends.sends other).queued ⊎ MarksLeft (renewed_ends.sends other) (renewed_ends.sends one).queued
  renewed_pairs one other ne =
      elim (decide one to) [
        | inl e ↦ inr (renewed_behind other one e (λ is. ne (e ∙ sym is)))
        | inr ne' ↦
            elim (decide other to) [
              | inl e ↦ inl (renewed_behind one other e ne')
              | inr ne'' ↦ renewed_both one other (set_other to one renewed_end ends.sends ne') (set_other to other renewed_end ends.sends ne'') (h.pairs one other ne)
            ]
      ]

  -- What went to a peer before did so still.
  went_still : ends.former to ≡ None → (emission : Emission) → WentBefore ends emission → WentBefore renewed_ends emission
  went_still none emission went =
      record {
        tag = went.tag;
        former_is = set_other to went.tag before ends.former (λ same. (let clash : ◌≡◌ {A = Option ℕ} None (Some emission.packet.tag) = sym none ∙ ap ends.former (sym same) ∙ went.former_is in cc)) ∙ went.former_is;
      }

  -- What was sent before under this tag went to a peer before, or nothing was.
  abbrev pub Left : Type 0
  Left = (each : AssociationIdentity) → HasEffect (holds each) past → each.my.tag ≡ to → (before ≡ Some each.peer.tag) ⊎ ((ends.sends to).sent ≡ [])

  renewed_sent : Left → (tag : ℕ) (emission : Emission) → HadBoth past tag emission.packet.tag → places.HasEntry emission (ends.sends tag).sent → WentBefore renewed_ends emission ⊎ places.HasEntry emission (renewed_ends.sends tag).sent
  renewed_sent left tag emission both has =
      elim (decide tag to) [
        | inl e ↦ elim (left both.link both.held (both.tag_is ∙ e)) [
          | inl is ↦ inl (record { tag = to; former_is = set_same to before ends.former ∙ is ∙ ap Some both.peer_is })
          | inr none ↦ absurd (subst (λ (l : List Emission). places.HasEntry emission l) none (subst (λ (n : ℕ). places.HasEntry emission (ends.sends n).sent) e has))
        ]
        | inr ne ↦ inr (subst (λ (s : SendingEnd). places.HasEntry emission s.sent) (sym (set_other to tag renewed_end ends.sends ne)) has)
      ]

  pub renewed : Left → ends.former to ≡ None → (to ≢ 0 → HadPeer (after_effects effects past) to (firsts to)) → ((tag : ℕ) → tag ≢ to → firsts tag ≡ ends.firsts tag) → AreAddressed at ps → (to ≢ 0 → HadKind (after_effects effects past) to after.queue.is_interleaved)
      → (at ≡ 0) ⊎ HadBoth (after_effects effects past) to at → ((former : ℕ) → before ≡ Some former → PlaceWasTaken (after_effects effects past) to former at)
      → ((each : AssociationIdentity) → HasEffect (holds each) (after_effects effects past)
      → (HasEffect (holds each) past × (each.my.tag ≢ to)) ⊎ ((each.my.tag ≢ 0) × (each.my.tag ≡ to) × ((each.peer.tag ≡ at) ⊎ (before ≡ Some each.peer.tag))))
      → Sender renewed_ends to at after queued (after_effects effects past) (packets ++ ps)
  renewed left none had kept addressed kind went replaced which =
      record {
        queues_are = ap (λ (s : SendingEnd). s.queues) (set_same to renewed_end ends.sends);
        long = ap (λ (s : SendingEnd). length s.queued) (set_same to renewed_end ends.sends) ∙ are.size ∙ h.long;
        marks = set_all (λ tag s. AllFound s.queued queued) to renewed_end ends.sends (found_then marked_queue (ends.sends key).queued queued are (h.marks key)) (λ tag ne. h.marks tag);
        short = set_all (λ tag s. length s.queued ≤ length queued) to renewed_end ends.sends (let a = are.size in let b = h.long in omega (arith, a, b)) (λ tag ne. h.short tag);
        few = set_three (λ tag s f l. chunks_among_packets s.sent ≤ chunks_before f (packets ++ ps) + chunks_to l (packets ++ ps)) to renewed_end before at ends.sends ends.former ends.latest
            (let b = more_to at packets ps in let c = addressed_counts at ps addressed in omega (arith, b, c))
            (λ tag ne. (let b = more_to (ends.latest tag) packets ps in let c = h.few tag in let f = before_grows (ends.former tag) packets ps in omega (arith, b, c, f)));
        few_requests = set_three (λ tag s f l. requests_among_packets s.sent ≤ requests_to l (packets ++ ps)) to renewed_end before at ends.sends ends.former ends.latest
            (let b = requests_more_to at packets ps in let c = addressed_requests at ps addressed in omega (arith, b, c)) (λ tag ne. (let b = requests_more_to (ends.latest tag) packets ps in let c = h.few_requests tag in omega (arith, b, c)));
        last = λ tag ne. renewed_behind tag to refl ne;
        pairs = renewed_pairs;
        current = had;
        kind = kind;
        begun = λ tag some. elim (decide tag to) [
          | inl e ↦ inr (subst (λ (n : ℕ). HadPeer (after_effects effects past) n (firsts n)) (sym e) (had (λ is. some (e ∙ is))))
          | inr ne ↦ begun_before tag ne (h.begun tag some)
        ];
        kinds = set_all (λ tag s. tag ≢ 0 → Awaits s ⊎ HadKind (after_effects effects past) tag s.queues.queue.is_interleaved) to renewed_end ends.sends (λ some. inr (kind some)) (λ tag ne some. kinds_before tag ne (h.kinds tag some));
        all_sent = of_both renewed_ends (after_effects effects past) packets ps (of_more ends renewed_ends past (after_effects effects past) packets (after_within effects past) (went_still none) (renewed_sent left) h.all_sent)
            (of_new renewed_ends (after_effects effects past) to at ps (λ emission has. subst (λ (s : SendingEnd). places.HasEntry emission s.sent) (sym (set_same to renewed_end ends.sends)) has) went addressed);
        to_is = set_same to at ends.latest;
        went = went;
        replaced = set_three (λ tag s f l. (former : ℕ) → f ≡ Some former → PlaceWasTaken (after_effects effects past) tag former l) to renewed_end before at ends.sends ends.former ends.latest
            replaced (λ tag ne former is. replaced_later effects past tag former (ends.latest tag) (h.replaced tag former is));
        known = λ link has. elim (which link has) [
          | inl old ↦ ((h.known link old.0).0, known_before link old.1 (h.known link old.0).1)
          | inr new ↦ (
            new.0,
            elim new.2 [
              | inl is ↦ inl (is ∙ sym (set_same to at ends.latest) ∙ ap (table_with to at ends.latest) (sym new.1))
              | inr is ↦ inr (ap (table_with to before ends.former) new.1 ∙ set_same to before ends.former ∙ is)
            ],
          )
        ];
      }
    where
      begun_before : (tag : ℕ) → tag ≢ to → Awaits (ends.sends tag) ⊎ HadPeer past tag (ends.firsts tag) → Awaits (renewed_ends.sends tag) ⊎ HadPeer (after_effects effects past) tag (firsts tag)
      begun_before tag ne (inl waits) = inl (subst Awaits (sym (set_other to tag renewed_end ends.sends ne)) waits)
      begun_before tag ne (inr had) = inr (subst (λ (n : ℕ). HadPeer (after_effects effects past) tag n) (sym (kept tag ne)) (had_later effects past tag (ends.firsts tag) had))

      kinds_before : (tag : ℕ) → tag ≢ to → Awaits (ends.sends tag) ⊎ HadKind past tag (ends.sends tag).queues.queue.is_interleaved → Awaits (ends.sends tag) ⊎ HadKind (after_effects effects past) tag (ends.sends tag).queues.queue.is_interleaved
      kinds_before tag ne (inl waits) = inl waits
      kinds_before tag ne (inr had) =
          inr (kind_later effects past tag (ends.sends tag).queues.queue.is_interleaved (λ each has same. elim (which each has) [ inl old ↦ old.0 | inr new ↦ absurd (ne (sym same ∙ new.1)) ]) had)

      known_before : (link : AssociationIdentity) → link.my.tag ≢ to → (link.peer.tag ≡ ends.latest link.my.tag) ⊎ (ends.former link.my.tag ≡ Some link.peer.tag)
          → (link.peer.tag ≡ table_with to at ends.latest link.my.tag) ⊎ (table_with to before ends.former link.my.tag ≡ Some link.peer.tag)
      known_before link ne (inl is) = inl (is ∙ sym (set_other to link.my.tag at ends.latest ne))
      known_before link ne (inr is) = inr (set_other to link.my.tag before ends.former ne ∙ is)

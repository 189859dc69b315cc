-- A turn of the sender in which its association continues, or ends.
use Rattle.std.proofs.Common.{◌≡◌, ◌≢◌, ℕ, true, false, Option, None, Some, List, [], ◌++◌, length, refl, sym, ◌∙◌, ap, subst, inl, inr, ◌∷◌}
use Rattle.std.specs.List.{AllByRecursion}
use Rattle.std.proofs.lemmas.List.{append-nil}
use Rattle.dcsctp_spec_lemmas.specs.types.declared.options.Options.{Options}
use Rattle.dcsctp_spec_lemmas.specs.spec.endpoint.Endpoint.{Endpoint}
use Rattle.dcsctp_spec_lemmas.specs.spec.endpoint.Event.{Event, packets_of_events}
use Rattle.dcsctp_spec_lemmas.specs.spec.endpoint.Outcome.{Outcome}
use Rattle.dcsctp_spec_lemmas.specs.spec.Packet.{Emission}
use Rattle.dcsctp_spec_lemmas.specs.spec.endpoint.Turn.{Input}
use Rattle.dcsctp_spec_runs.specs.World.{after_effects}
use Rattle.dcsctp_spec_lemmas.specs.spec.association.Effect.{AssociationIdentity, Effect, holds, identity_of_core}
use Rattle.dcsctp_spec_runs.specs.Past.{HasEffect}
use Rattle.dcsctp_spec_lemmas.specs.spec.queues.Transfer.{EndpointQueues}
use Rattle.dcsctp_theorem_association.proofs.Growth.{after_within}
use Rattle.dcsctp_delivery_directions.specs.sending.Places.{HasEntry, table_with}
use Rattle.dcsctp_spec_lemmas.specs.types.queues.SendStreams.{Stream}
use Rattle.dcsctp_delivery_directions.specs.sending.Log.{Message, Fits}
use Rattle.dcsctp_delivery_directions.specs.sending.Losing.{AllWaitOn}
use Rattle.dcsctp_delivery_directions.specs.sending.Queueing.{QueueWaits}
use Rattle.dcsctp_delivery_directions.specs.sending.Marking.{all_marked}
use Rattle.dcsctp_delivery_directions.proofs.sending.Places.{set_same}
use Rattle.dcsctp_delivery_directions.proofs.sending.MarkingAll.{all_are_marked, all_marked_keep, all_marked_fit}
use Rattle.dcsctp_delivery_directions.specs.directions.Directions.{Asking, PreparedReset, Beginning, nothing_asked, DirectionRun}
use Rattle.dcsctp_delivery_sockets.specs.turns.Actions.{peer_tag, queued_after}
use Rattle.dcsctp_delivery_sockets.specs.turns.Asking.{own_of, AsksFit}
use Rattle.dcsctp_delivery_sockets.specs.turns.Addressed.{AreAddressed}
use Rattle.dcsctp_delivery_sockets.specs.turns.Runs.{accepted_resets, prepared_with, prepared_after, TakesTurnsByOption, direction_with_sender}
use Rattle.dcsctp_delivery_sockets.proofs.turns.Runs.{begins_anew}
use Rattle.dcsctp_delivery_sockets.proofs.turns.Turns.{accepted_linked}
use Rattle.dcsctp_delivery_sockets.specs.associations.Ends.{ResetCalls, calls_after, SendingEnd, ReceivingEnd, direction_of_ends, new_end, Ends, IsUnbegun, NeverHeld, KeepsThese, KeepsOnlyThese, NumbersFromZero, sender_key, Sender, Receiver, AreSeen, Between, IsOnlyOwn, IsBefore, sending_side, receiving_side}
use Rattle.dcsctp_delivery_sockets.specs.associations.Answered.{AreAnswered}
use Rattle.dcsctp_delivery_sockets.specs.associations.Laws.{AreEnds}
use Rattle.dcsctp_delivery_sockets.proofs.associations.Seen.{RequestsStay, seen_still}
use Rattle.dcsctp_delivery_sockets.specs.associations.Reads.{Reading}
use Rattle.dcsctp_delivery_sockets.proofs.associations.Growing.{set_all, input_adds}
use Rattle.dcsctp_delivery_sockets.proofs.associations.Own.{unlinked_fit}
use Rattle.dcsctp_delivery_sockets.proofs.associations.Senders.{link_tag, same_key, same_peer, no_key, no_peer, alone_later, grown_end, grown_ends, grown, marked_queue, renewed_end, renewed_ends, renewed}

-- The receiver's ends are the same.
pub receiver_same : (options : Options) (ends : Ends) (sends : ℕ → SendingEnd) (latest : ℕ → ℕ) (former : ℕ → Option ℕ) (calls : ResetCalls) (d : Endpoint) (past : List Effect) (reading : Reading) → Receiver options ends d past reading
    → Receiver options (record ends { sends = sends; latest = latest; former = former; calls = calls }) d past reading
receiver_same options ends sends latest former calls d past reading r =
    record {
      fits = r.fits;
      current = λ transfer is. (let c = r.current transfer is in record { link = c.link; linked = c.linked; held = c.held; own_some = c.own_some; had = c.had; tracker = c.tracker; reassembly = c.reassembly });
      left = r.left;
      last = r.last;
      were_read = r.were_read;
      were_reset = r.were_reset;
      were_told = r.were_told;
      begun = r.begun;
      last_of = r.last_of;
      reads_of = r.reads_of;
    }

-- What waits does so, whichever messages are marked.
pub all_wait_marked : (id : ℕ) (count : ℕ) (marking : List Stream) (queued : List Message) (streams : List Stream) → AllWaitOn id queued streams → AllWaitOn id (all_marked count marking queued) streams
all_wait_marked id count marking queued streams all =
    record {
      waits = λ place mark at on. (let f = (all_are_marked count marking queued).finds place mark at in all.waits place f.message f.at (sym f.is.stream ∙ on));
      unpaused = all.unpaused;
    }

-- It does not matter which calls were made so far.
unbegun_with : (calls : ResetCalls) (made : List PreparedReset) (queued : List Message) (e : Endpoint) → IsUnbegun calls queued e → IsUnbegun (record calls { made = made }) queued e
unbegun_with calls made queued e u = record { unlinked = u.unlinked; idle = u.idle; zero = u.zero; all = u.all }

keeps_these : (calls : ResetCalls) (made : List PreparedReset) (beginning : Beginning) → KeepsThese calls beginning → KeepsThese (record calls { made = made }) beginning
keeps_these calls made beginning k = record { whole = k.whole; keeps = k.keeps }

keeps_only : (calls : ResetCalls) (made : List PreparedReset) (beginning : Beginning) → KeepsOnlyThese calls beginning → KeepsOnlyThese (record calls { made = made }) beginning
keeps_only calls made beginning k = record { dropped = k.dropped; asks = k.asks; empties = k.empties; in_turn = k.in_turn }

unbegun_marked : (calls : ResetCalls) (count : ℕ) (marking : List Stream) (queued : List Message) (e : Endpoint) → IsUnbegun calls queued e → IsUnbegun calls (all_marked count marking queued) e
unbegun_marked calls count marking queued e u =
    record { unlinked = u.unlinked; idle = u.idle; zero = u.zero; all = λ id. all_wait_marked id count marking queued e.queues.queue.streams (u.all id) }

module _ (options : Options) (ends : Ends) (e : Endpoint) (queued : List Message) (past : List Effect) (packets : List Emission) (d : Endpoint) (their_past : List Effect) (reading : Reading)
    (h : Between options ends (sending_side e queued past packets) (receiving_side d their_past reading)) (input : Input) (o : Outcome) where
  abbrev pub more : List Message
  more = queued_after e input []

  -- A sender of which this holds after the turn was so before.
  pub anew_before : o.after.options.follow_rfc ≡ e.options.follow_rfc → (tag : ℕ) → NumbersFromZero o.after (after_effects o.effects past) tag → NumbersFromZero e past tag
  anew_before follows tag (inl anew) = inl (sym follows ∙ anew)
  anew_before follows tag (inr only) = inr (λ link held. only link (after_within o.effects past (holds link) held))

  only_before : (tag : ℕ) → IsOnlyOwn (after_effects o.effects past) tag → IsOnlyOwn past tag
  only_before tag only = λ link held. only link (after_within o.effects past (holds link) held)

  -- what is to be shown of the turn
  abbrev pub Turned : List (Event Emission) → Type 0
  Turned seen = AreEnds ends.calls seen options (sending_side o.after (queued_after e input queued) (after_effects o.effects past) (packets ++ packets_of_events o.events)) (receiving_side d their_past reading)

  -- and with the call by which its user resets streams, if it does
  abbrev pub TurnedOn : List (Event Emission) → Type 0
  TurnedOn seen =
      AreEnds (calls_after e input (length queued) ends.calls) seen options (sending_side o.after (queued_after e input queued) (after_effects o.effects past) (packets ++ packets_of_events o.events)) (receiving_side d their_past reading)

  abbrev made_now : List PreparedReset
  made_now = prepared_after e input (length queued) ends.calls.made

  -- the end of this tag has the call too
  made_here : ((call : PreparedReset) → HasEntry call ends.calls.made → HasEntry call (ends.sends (sender_key e.core)).prepared) → (call : PreparedReset) → HasEntry call made_now
      → HasEntry call (prepared_after e input (length (ends.sends (sender_key e.core)).queued) (ends.sends (sender_key e.core)).prepared)
  made_here each call = go (accepted_resets e input)
    where
      go : (accepted : Option (List ℕ)) → HasEntry call (prepared_with accepted (length queued) ends.calls.made)
          → HasEntry call (prepared_with accepted (length (ends.sends (sender_key e.core)).queued) (ends.sends (sender_key e.core)).prepared)
      go None has = each call has
      go (Some ids) has = elim has [ inl is ↦ inl (is ∙ ap (λ (n : ℕ). record { ids = ids; count = n }) (sym h.sender.long)) | inr before ↦ inr (each call before) ]

  -- A call is made under the tag of the peer that is there.
  made_there : (tag : ℕ) → tag ≢ sender_key e.core → IsOnlyOwn (after_effects o.effects past) tag → ((call : PreparedReset) → HasEntry call ends.calls.made → HasEntry call (ends.sends tag).prepared) → (call : PreparedReset) → HasEntry call made_now
      → HasEntry call (ends.sends tag).prepared
  made_there tag ne only each call = go (accepted_resets e input) refl
    where
      by_link : (found : Option AssociationIdentity) → identity_of_core e.core ≡ found → (ids : List ℕ) → accepted_resets e input ≡ Some ids → ⊥
      by_link None none ids is = accepted_linked e input ids is none
      by_link (Some link) linked ids is = ne (sym (only link (after_within o.effects past (holds link) (h.mine link linked))) ∙ sym (link_tag e.core link linked))

      go : (accepted : Option (List ℕ)) → accepted_resets e input ≡ accepted → HasEntry call (prepared_with accepted (length queued) ends.calls.made) → HasEntry call (ends.sends tag).prepared
      go None is has = each call has
      go (Some ids) is has = absurd (by_link (identity_of_core e.core) refl ids is)

  unmade_then : NeverHeld (after_effects o.effects past) → made_now ≡ []
  unmade_then never = go (accepted_resets e input) refl
    where
      by_link : (found : Option AssociationIdentity) → identity_of_core e.core ≡ found → (ids : List ℕ) → accepted_resets e input ≡ Some ids → ⊥
      by_link None none ids is = accepted_linked e input ids is none
      by_link (Some link) linked ids is = never link (after_within o.effects past (holds link) (h.mine link linked))

      go : (accepted : Option (List ℕ)) → accepted_resets e input ≡ accepted → prepared_with accepted (length queued) ends.calls.made ≡ []
      go None is = h.unmade (λ link held. never link (after_within o.effects past (holds link) held))
      go (Some ids) is = absurd (by_link (identity_of_core e.core) refl ids is)

  pub goes_on : (seen : List (Event Emission)) → AreSeen ends d their_past seen → AreAnswered ends e past d their_past → ((each : AssociationIdentity) → HasEffect (holds each) (after_effects o.effects past) → HasEffect (holds each) past) → o.after.options.follow_rfc ≡ e.options.follow_rfc → TakesTurnsByOption o.after → (NeverHeld (after_effects o.effects past) → IsUnbegun ends.calls (queued_after e input (ends.sends (sender_key e.core)).queued) o.after) → identity_of_core o.after.core ≡ identity_of_core e.core → o.after.queues.queue.is_interleaved ≡ e.queues.queue.is_interleaved → AreAddressed (peer_tag e.core) (packets_of_events o.events) → (acknowledged : ℕ) (asking : Asking) → RequestsStay (ends.sends (sender_key e.core)).asking asking → AsksFit (ends.firsts (sender_key e.core)) (own_of o.after) asking
      → AreAnswered (grown_ends ends (sender_key e.core) (peer_tag e.core) e.queues queued past packets h.sender o.effects more o.after.queues acknowledged (packets_of_events o.events) asking (prepared_after e input (length (ends.sends (sender_key e.core)).queued) (ends.sends (sender_key e.core)).prepared) (calls_after e input (length queued) ends.calls)) o.after (after_effects o.effects past) d their_past
      → DirectionRun options (ends.firsts (sender_key e.core)) options.max_receiver_window_buffer_size
      (record (direction_with_sender (direction_of_ends (ends.sends (sender_key e.core)) (ends.gets (sender_key e.core))) (queued_after e input (ends.sends (sender_key e.core)).queued) o.after.queues acknowledged ((ends.sends (sender_key e.core)).sent ++ packets_of_events o.events) asking)
      { prepared = prepared_after e input (length (ends.sends (sender_key e.core)).queued) (ends.sends (sender_key e.core)).prepared })
      → (identity_of_core o.after.core ≡ None → o.after.queues.transfer ≡ None) → TurnedOn seen
  goes_on seen reported w none_began follows rules unbegun linked kind addressed acknowledged asking stay fits answered run nowhere =
      let key : ℕ = sender_key e.core in
      let end : SendingEnd = grown_end ends key (peer_tag e.core) e.queues queued past packets h.sender o.effects more o.after.queues acknowledged (packets_of_events o.events) asking (prepared_after e input (length (ends.sends (sender_key e.core)).queued) (ends.sends (sender_key e.core)).prepared) (calls_after e input (length queued) ends.calls) in
      let later : Ends = grown_ends ends key (peer_tag e.core) e.queues queued past packets h.sender o.effects more o.after.queues acknowledged (packets_of_events o.events) asking (prepared_after e input (length (ends.sends (sender_key e.core)).queued) (ends.sends (sender_key e.core)).prepared) (calls_after e input (length queued) ends.calls) in
      let sender : Sender later key (peer_tag e.core) o.after.queues (more ++ queued) (after_effects o.effects past) (packets ++ packets_of_events o.events) =
      grown ends key (peer_tag e.core) e.queues queued past packets h.sender o.effects more o.after.queues acknowledged (packets_of_events o.events) asking (prepared_after e input (length (ends.sends (sender_key e.core)).queued) (ends.sends (sender_key e.core)).prepared) (calls_after e input (length queued) ends.calls) addressed kind none_began in
      record {
        ends = later;
        is = refl;
        between = record {
          runs = set_all (λ tag s. DirectionRun options (ends.firsts tag) options.max_receiver_window_buffer_size (direction_of_ends s (ends.gets tag))) key end ends.sends
              (subst (λ (l : List Message). DirectionRun options (ends.firsts key) options.max_receiver_window_buffer_size (direction_of_ends (record end { queued = l }) (ends.gets key))) (input_adds e input (ends.sends key).queued) run)
              (λ tag ne. h.runs tag);
          small = h.small;
          sender = subst (λ (l : List Message). Sender later (sender_key o.after.core) (peer_tag o.after.core) o.after.queues l (after_effects o.effects past) (packets ++ packets_of_events o.events)) (sym (input_adds e input queued))
              (subst (λ (k : ℕ). Sender later k (peer_tag o.after.core) o.after.queues (more ++ queued) (after_effects o.effects past) (packets ++ packets_of_events o.events)) (sym (same_key o.after.core e.core linked))
              (subst (λ (n : ℕ). Sender later key n o.after.queues (more ++ queued) (after_effects o.effects past) (packets ++ packets_of_events o.events)) (sym (same_peer o.after.core e.core linked)) sender));
          mine = λ link there. after_within o.effects past (holds link) (h.mine link (sym linked ∙ there));
          idle = nowhere;
          asks = subst (λ (k : ℕ). AsksFit (ends.firsts k) (own_of o.after) (table_with key end ends.sends k).asking) (sym (same_key o.after.core e.core linked))
              (subst (λ (s : SendingEnd). AsksFit (ends.firsts key) (own_of o.after) s.asking) (sym (set_same key end ends.sends)) fits);
          numbered = set_all (λ tag s. tag ≢ 0 → NumbersFromZero o.after (after_effects o.effects past) tag → s.beginning.from_zero ≡ true) key end ends.sends (λ some anew. h.numbered key some (anew_before follows key anew))
              (λ tag ne some anew. h.numbered tag some (anew_before follows tag anew));
          kept = set_all (λ tag s. tag ≢ 0 → IsOnlyOwn (after_effects o.effects past) tag → KeepsThese (calls_after e input (length queued) ends.calls) s.beginning) key end ends.sends
              (λ some only. keeps_these ends.calls made_now (ends.sends key).beginning (h.kept key some (only_before key only)))
              (λ tag ne some only. keeps_these ends.calls made_now (ends.sends tag).beginning (h.kept tag some (only_before tag only)));
          dropping = set_all (λ tag s. KeepsOnlyThese (calls_after e input (length queued) ends.calls) s.beginning) key end ends.sends (keeps_only ends.calls made_now (ends.sends key).beginning (h.dropping key))
              (λ tag ne. keeps_only ends.calls made_now (ends.sends tag).beginning (h.dropping tag));
          made = set_all (λ tag s. tag ≢ 0 → IsOnlyOwn (after_effects o.effects past) tag → (call : PreparedReset) → HasEntry call made_now → HasEntry call s.prepared) key end ends.sends
              (λ some only. made_here (h.made key some (only_before key only))) (λ tag ne some only. made_there tag ne only (h.made tag some (only_before tag only)));
          unmade = unmade_then;
          rules = rules;
          unbegun = λ never.
              subst (λ (k : ℕ). IsUnbegun (calls_after e input (length queued) ends.calls) (table_with key end ends.sends k).queued o.after) (sym (same_key o.after.core e.core linked))
              (subst (λ (s : SendingEnd). IsUnbegun (calls_after e input (length queued) ends.calls) s.queued o.after) (sym (set_same key end ends.sends))
              (subst (λ (l : List Message). IsUnbegun (calls_after e input (length queued) ends.calls) l o.after) (input_adds e input (ends.sends key).queued) (unbegun_with ends.calls made_now (queued_after e input (ends.sends key).queued) o.after (unbegun never))));
          receiver = receiver_same options ends later.sends later.latest later.former later.calls d their_past reading h.receiver;
          alone = λ tag. alone_later options ends later past (after_effects o.effects past) their_past their_past (after_within o.effects past) (λ effect has. has) tag refl refl (h.alone tag);
        };
        answered = answered;
        reported = seen_still ends later e past d their_past seen w (set_all (λ tag s. tag ≢ 0 → RequestsStay (ends.sends tag).asking s.asking) key end ends.sends (λ some. stay) (λ tag ne some begun has. has)) reported.heard reported;
      }

  before_held : (one other : AssociationIdentity) (past : List Effect) → IsBefore one other past → HasEffect (holds one) past
  before_held one other [] before = absurd before
  before_held one other (effect ∷ earlier) (inl here) = inr here.1
  before_held one other (effect ∷ earlier) (inr before) = inr (before_held one other earlier before)

  -- There was no peer before where there is none.
  none_former : (former : Option ℕ) → ends.former 0 ≡ former → ends.former 0 ≡ None
  none_former None is = is
  none_former (Some former) is = (let was = h.sender.replaced 0 former is in absurd ((h.sender.known was.old (before_held was.old was.link past was.before)).0 was.old_is))

  -- the ends once it has ended
  abbrev pub ended_ends : ((each : AssociationIdentity) → HasEffect (holds each) (after_effects o.effects past) → HasEffect (holds each) past) → (last : EndpointQueues) → ℕ → Asking → AreAddressed (peer_tag e.core) (packets_of_events o.events)
      → last.queue.is_interleaved ≡ e.queues.queue.is_interleaved → Ends
  ended_ends none_began last acknowledged asking addressed kind =
      renewed_ends (grown_ends ends (sender_key e.core) (peer_tag e.core) e.queues queued past packets h.sender o.effects more last acknowledged (packets_of_events o.events) asking (ends.sends (sender_key e.core)).prepared ends.calls) (sender_key e.core) (peer_tag e.core) last (more ++ queued) (after_effects o.effects past)
      (packets ++ packets_of_events o.events) (grown ends (sender_key e.core) (peer_tag e.core) e.queues queued past packets h.sender o.effects more last acknowledged (packets_of_events o.events) asking (ends.sends (sender_key e.core)).prepared ends.calls addressed kind none_began) [] 0 0 o.after.queues 0 [] nothing_asked (record { from_zero = false; has_all = false; keeps = λ id. false; asks = ends.calls.asks; empties = ends.calls.empties; in_turn = ends.calls.in_turn }) ends.gets ends.firsts None

  pub ended : (seen : List (Event Emission)) → AreSeen ends d their_past seen → AreAnswered ends e past d their_past → (none_began : (each : AssociationIdentity) → HasEffect (holds each) (after_effects o.effects past) → HasEffect (holds each) past) → o.after.options.follow_rfc ≡ e.options.follow_rfc → TakesTurnsByOption o.after → (NeverHeld (after_effects o.effects past) → IsUnbegun ends.calls (queued_after e input (ends.sends (sender_key e.core)).queued) o.after) → identity_of_core o.after.core ≡ None → (addressed : AreAddressed (peer_tag e.core) (packets_of_events o.events)) → (last : EndpointQueues) → (kind : last.queue.is_interleaved ≡ e.queues.queue.is_interleaved) → o.after.queues ≡ record last { transfer = None }
      → QueueWaits (queued_after e input (ends.sends (sender_key e.core)).queued) last.queue → AllByRecursion Fits (queued_after e input (ends.sends (sender_key e.core)).queued) → (acknowledged : ℕ) (asking : Asking) → RequestsStay (ends.sends (sender_key e.core)).asking asking
      → AreAnswered (ended_ends none_began last acknowledged asking addressed kind) o.after (after_effects o.effects past) d their_past
      → DirectionRun options (ends.firsts (sender_key e.core)) options.max_receiver_window_buffer_size
      (direction_with_sender (direction_of_ends (ends.sends (sender_key e.core)) (ends.gets (sender_key e.core))) (queued_after e input (ends.sends (sender_key e.core)).queued) last acknowledged ((ends.sends (sender_key e.core)).sent ++ packets_of_events o.events) asking)
      → Turned seen
  ended seen reported w none_began follows rules unbegun none addressed last kind is shown fit acknowledged asking stay answered run =
      let key : ℕ = sender_key e.core in
      let ps : List Emission = packets_of_events o.events in
      let end : SendingEnd = grown_end ends key (peer_tag e.core) e.queues queued past packets h.sender o.effects more last acknowledged ps asking (ends.sends (sender_key e.core)).prepared ends.calls in
      let middle : Ends = grown_ends ends key (peer_tag e.core) e.queues queued past packets h.sender o.effects more last acknowledged ps asking (ends.sends (sender_key e.core)).prepared ends.calls in
      let first : Sender middle key (peer_tag e.core) last (more ++ queued) (after_effects o.effects past) (packets ++ ps) = grown ends key (peer_tag e.core) e.queues queued past packets h.sender o.effects more last acknowledged ps asking (ends.sends (sender_key e.core)).prepared ends.calls addressed kind none_began in
      let marked : List Message = marked_queue middle key (peer_tag e.core) last (more ++ queued) (after_effects o.effects past) (packets ++ ps) first [] 0 0 o.after.queues 0 [] nothing_asked (record { from_zero = false; has_all = false; keeps = λ id. false; asks = ends.calls.asks; empties = ends.calls.empties; in_turn = ends.calls.in_turn }) ends.gets ends.firsts None in
      let later : Ends = renewed_ends middle key (peer_tag e.core) last (more ++ queued) (after_effects o.effects past) (packets ++ ps) first [] 0 0 o.after.queues 0 [] nothing_asked (record { from_zero = false; has_all = false; keeps = λ id. false; asks = ends.calls.asks; empties = ends.calls.empties; in_turn = ends.calls.in_turn }) ends.gets ends.firsts None in
      let new : SendingEnd = renewed_end middle key (peer_tag e.core) last (more ++ queued) (after_effects o.effects past) (packets ++ ps) first [] 0 0 o.after.queues 0 [] nothing_asked (record { from_zero = false; has_all = false; keeps = λ id. false; asks = ends.calls.asks; empties = ends.calls.empties; in_turn = ends.calls.in_turn }) ends.gets ends.firsts None in
      let second : Sender later 0 0 o.after.queues (more ++ queued) (after_effects o.effects past) ((packets ++ ps) ++ []) =
      renewed middle key (peer_tag e.core) last (more ++ queued) (after_effects o.effects past) (packets ++ ps) first [] 0 0 o.after.queues 0 [] nothing_asked (record { from_zero = false; has_all = false; keeps = λ id. false; asks = ends.calls.asks; empties = ends.calls.empties; in_turn = ends.calls.in_turn }) ends.gets ends.firsts None (λ each has same. absurd ((first.known each has).0 same)) (none_former (ends.former 0) refl) (λ some. absurd (some refl)) (λ tag ne. refl) tt (λ some. absurd (some refl)) (inl refl)
      (λ former is. absurd (cc)) (λ each has. inl (has, (first.known each has).0)) in
      let adds : queued_after e input (ends.sends key).queued ≡ end.queued = input_adds e input (ends.sends key).queued in
      let shown' : QueueWaits end.queued last.queue = subst (λ (l : List Message). QueueWaits l last.queue) adds shown in
      let fit' : AllByRecursion Fits end.queued = subst (λ (l : List Message). AllByRecursion Fits l) adds fit in
      let holds' : QueueWaits marked o.after.queues.queue =
      subst (λ (b : EndpointQueues). QueueWaits marked b.queue) (sym is)
      (subst (λ (s : SendingEnd). QueueWaits (all_marked (length s.queued) s.queues.queue.streams s.queued) last.queue) (sym (set_same key end ends.sends)) (all_marked_keep (length end.queued) end.queued last.queue shown')) in
      let fits' : AllByRecursion Fits marked =
      subst (λ (s : SendingEnd). AllByRecursion Fits (all_marked (length s.queued) s.queues.queue.streams s.queued)) (sym (set_same key end ends.sends)) (all_marked_fit (length end.queued) last.queue.streams end.queued fit') in
      let anew : DirectionRun options (ends.firsts 0) options.max_receiver_window_buffer_size (direction_of_ends new (new_end options (ends.firsts 0))) =
      begins_anew options (ends.firsts 0) options.max_receiver_window_buffer_size ends.calls.asks ends.calls.empties ends.calls.in_turn marked o.after.queues fits' holds' (ap (λ (b : EndpointQueues). b.transfer) is) in
      let never : ends.gets 0 ≡ new_end options (ends.firsts 0) = elim (h.receiver.begun 0) [ inl new' ↦ new' | inr had ↦ absurd (had.some refl) ] in
      record {
        ends = later;
        is = refl;
        between = record {
          runs = set_all (λ tag s. DirectionRun options (ends.firsts tag) options.max_receiver_window_buffer_size (direction_of_ends s (ends.gets tag))) 0 new middle.sends
              (subst (λ (g : ReceivingEnd). DirectionRun options (ends.firsts 0) options.max_receiver_window_buffer_size (direction_of_ends new g)) (sym never) anew)
              (λ tag ne. set_all (λ tag s. DirectionRun options (ends.firsts tag) options.max_receiver_window_buffer_size (direction_of_ends s (ends.gets tag))) key end ends.sends
              (subst (λ (l : List Message). DirectionRun options (ends.firsts key) options.max_receiver_window_buffer_size (direction_of_ends (record end { queued = l }) (ends.gets key))) adds run) (λ tag ne. h.runs tag) tag);
          small = h.small;
          sender = subst (λ (l : List Message). Sender later (sender_key o.after.core) (peer_tag o.after.core) o.after.queues l (after_effects o.effects past) (packets ++ ps)) (sym (input_adds e input queued))
              (subst (λ (k : ℕ). Sender later k (peer_tag o.after.core) o.after.queues (more ++ queued) (after_effects o.effects past) (packets ++ ps)) (sym (no_key o.after.core none))
              (subst (λ (n : ℕ). Sender later 0 n o.after.queues (more ++ queued) (after_effects o.effects past) (packets ++ ps)) (sym (no_peer o.after.core none))
              (subst (λ (l : List Emission). Sender later 0 0 o.after.queues (more ++ queued) (after_effects o.effects past) l) (append-nil (packets ++ ps)) second)));
          mine = λ link there. (let clash : ◌≡◌ {A = Option AssociationIdentity} None (Some link) = sym none ∙ there in absurd (cc));
          idle = λ unlinked. ap (λ (b : EndpointQueues). b.transfer) is;
          asks = unlinked_fit o.after (ends.firsts (sender_key o.after.core)) (later.sends (sender_key o.after.core)).asking none;
          numbered = set_all (λ tag s. tag ≢ 0 → NumbersFromZero o.after (after_effects o.effects past) tag → s.beginning.from_zero ≡ true) 0 new middle.sends (λ some anew. absurd (some refl))
              (λ tag ne. set_all (λ t s. t ≢ 0 → NumbersFromZero o.after (after_effects o.effects past) t → s.beginning.from_zero ≡ true) key end ends.sends (λ some anew. h.numbered key some (anew_before follows key anew))
              (λ t ne' some anew. h.numbered t some (anew_before follows t anew)) tag);
          kept = set_all (λ tag s. tag ≢ 0 → IsOnlyOwn (after_effects o.effects past) tag → KeepsThese ends.calls s.beginning) 0 new middle.sends (λ some only. absurd (some refl))
              (λ tag ne. set_all (λ t s. t ≢ 0 → IsOnlyOwn (after_effects o.effects past) t → KeepsThese ends.calls s.beginning) key end ends.sends
              (λ some only. h.kept key some (only_before key only)) (λ t ne' some only. h.kept t some (only_before t only)) tag);
          dropping = set_all (λ tag s. KeepsOnlyThese ends.calls s.beginning) 0 new middle.sends (record { dropped = λ id resets. refl; asks = refl; empties = refl; in_turn = refl })
              (λ tag ne. set_all (λ t s. KeepsOnlyThese ends.calls s.beginning) key end ends.sends (h.dropping key) (λ t ne'. h.dropping t) tag);
          made = set_all (λ tag s. tag ≢ 0 → IsOnlyOwn (after_effects o.effects past) tag → (call : PreparedReset) → HasEntry call ends.calls.made → HasEntry call s.prepared) 0 new middle.sends (λ some only. absurd (some refl))
              (λ tag ne. set_all (λ t s. t ≢ 0 → IsOnlyOwn (after_effects o.effects past) t → (call : PreparedReset) → HasEntry call ends.calls.made → HasEntry call s.prepared) key end ends.sends
              (λ some only. h.made key some (only_before key only)) (λ t ne' some only. h.made t some (only_before t only)) tag);
          unmade = λ never. h.unmade (λ link held. never link (after_within o.effects past (holds link) held));
          rules = rules;
          unbegun = λ never.
              subst (λ (k : ℕ). IsUnbegun ends.calls (table_with 0 new middle.sends k).queued o.after) (sym (no_key o.after.core none))
              (subst (λ (s : SendingEnd). IsUnbegun ends.calls s.queued o.after) (sym (set_same 0 new middle.sends))
              (subst (λ (s : SendingEnd). IsUnbegun ends.calls (all_marked (length s.queued) s.queues.queue.streams s.queued) o.after) (sym (set_same key end ends.sends))
              (unbegun_marked ends.calls (length end.queued) last.queue.streams end.queued o.after
              (subst (λ (l : List Message). IsUnbegun ends.calls l o.after) adds (unbegun never)))));
          receiver = receiver_same options ends later.sends later.latest later.former later.calls d their_past reading h.receiver;
          alone = λ tag. alone_later options ends later past (after_effects o.effects past) their_past their_past (after_within o.effects past) (λ effect has. has) tag refl refl (h.alone tag);
        };
        answered = answered;
        reported = seen_still ends later e past d their_past seen w
            (set_all (λ tag s. tag ≢ 0 → RequestsStay (ends.sends tag).asking s.asking) 0 new middle.sends (λ some. absurd (some refl))
            (λ tag ne. set_all (λ t s. t ≢ 0 → RequestsStay (ends.sends t).asking s.asking) key end ends.sends (λ some. stay) (λ t ne' some begun has. has) tag)) reported.heard reported;
      }

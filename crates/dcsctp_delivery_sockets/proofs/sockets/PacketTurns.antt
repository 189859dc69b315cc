-- The turns of a packet that the sender sent leave what is known of all associations.
use Rattle.std.proofs.Common.{◌≡◌, ℕ, Bool, true, false, ◌<◌, ◌^◌, Some, List, [], ◌∷◌, ◌++◌, length, refl, sym, ◌∙◌, ap, subst, append_assoc, inl, inr, ◌≢◌}
use Rattle.std.proofs.lemmas.List.{append-nil}
use Rattle.std.specs.Prelude.{◌⊎◌, Option, None, ◌&&◌}
use Rattle.dcsctp_spec_lemmas.specs.types.declared.options.Options.{Options}
use Rattle.dcsctp_spec_lemmas.specs.spec.Admission.{Admission, all_chunks, shutdown_acks_alone, refused, admits, is_echo_in_front, shutdown_acks_of}
use Rattle.dcsctp_spec_lemmas.specs.spec.endpoint.MessageOutcomes.{awaits_opening}
use Rattle.dcsctp_spec_lemmas.specs.spec.association.Acts.{shut_down}
use Rattle.dcsctp_spec_lemmas.specs.spec.endpoint.CallTurns.{packet_tail, asked_again, Transition, IsTurn, Turns, AfterChunk, ChunkTurns, WholeTurns, AdmittedTurns, after_all, effects_of, events_of}
use Rattle.dcsctp_spec_lemmas.specs.spec.endpoint.Endpoint.{Endpoint, Core, closed, cookie_wait, cookie_echoed, open_in, established, shutdown_pending, shutdown_sent, shutdown_received, shutdown_ack_sent, own_tag, is_cookie_echoed}
use Rattle.dcsctp_spec_lemmas.specs.spec.endpoint.Event.{Event, packets_of_events}
use Rattle.dcsctp_spec_lemmas.specs.spec.endpoint.Following.{Following, next_chunk, packet_end, dropped_rest}
use Rattle.dcsctp_spec_lemmas.specs.spec.endpoint.Outcome.{Outcome, still}
use Rattle.dcsctp_spec_lemmas.specs.spec.Packet.{Content, init, init_ack, cookie_echo, cookie_ack, re_config, abort, shutdown, shutdown_ack, shutdown_complete, plain, Emission}
use Rattle.dcsctp_spec_lemmas.specs.spec.endpoint.Turn.{act_input, Input, refusal, packet_begins, chunk_input, packet_ends, has_data_chunk, BeginTurn, comes_early, needs_connection}
use Rattle.dcsctp_spec_runs.specs.World.{after_effects}
use Rattle.dcsctp_spec_lemmas.specs.spec.association.Effect.{AssociationIdentity, Effect, identity_of_core, holds}
use Rattle.dcsctp_spec_lemmas.specs.spec.queues.Transfer.{Transfer}
use Rattle.dcsctp_theorem_association.proofs.Growth.{after_effects-append}
use Rattle.dcsctp_theorem_sockets.proofs.Bursts.{packets_of_events-append}
use Rattle.dcsctp_delivery_directions.specs.sending.Log.{Message}
use Rattle.dcsctp_delivery_directions.specs.sending.Places as places
use Rattle.dcsctp_delivery_directions.specs.sending.Flushes.{NoData}
use Rattle.dcsctp_delivery_sockets.specs.turns.Actions.{IsOpening, content_of_input, IsCall}
use Rattle.dcsctp_delivery_sockets.specs.turns.Sides.{WasSent}
use Rattle.dcsctp_delivery_sockets.specs.associations.Ends.{ResetCalls, Ends, IsOfEnds, HadBoth, sending_side, receiving_side}
use Rattle.dcsctp_delivery_sockets.specs.associations.Laws.{AsksLittle, AreEnds}
use Rattle.dcsctp_delivery_sockets.specs.associations.Reads.{Reading, reading_after, Tags, tags_of, tags_or}
use Rattle.dcsctp_delivery_sockets.specs.sockets.Echoes.{AllMayFollow, ContentsGo, GoesToMaker}
use Rattle.dcsctp_delivery_sockets.specs.sockets.Packets.{reading_through, AreNewTags, IsCrossedByEach, IsNoneBefore}
use Rattle.dcsctp_delivery_sockets.proofs.turns.Tags.{echoes_own}
use Rattle.dcsctp_delivery_sockets.proofs.turns.Addressed.{addressed_tags_are_own}
use Rattle.dcsctp_delivery_sockets.proofs.associations.ReceiverTurns.{receiver_turns}
use Rattle.dcsctp_delivery_sockets.proofs.sockets.Packets.{of_ends, TagIs, MayHandle, was_sent, tag_stays, not_opening, own_is, init_ack_tag, unsent}
use Rattle.dcsctp_spec_runs.specs.Past.{HasEffect}
use Rattle.dcsctp_spec_lemmas.proofs.EarlyLemmas.{content_where}

pub begin_core : (e : Endpoint) (core : Core) (has : Bool) (o : Outcome) → BeginTurn e core has o → o.after.core ≡ e.core
begin_core e closed has o turn = ap (λ (x : Outcome). x.after.core) turn
begin_core e (cookie_wait my) has o turn = ap (λ (x : Outcome). x.after.core) turn
begin_core e (cookie_echoed my held cookie) has o turn = ap (λ (x : Outcome). x.after.core) turn
begin_core e (open_in established my held) has o turn = ap (λ (x : Outcome). x.after.core) turn
begin_core e (open_in shutdown_pending my held) has o turn = ap (λ (x : Outcome). x.after.core) turn
begin_core e (open_in shutdown_sent my held) true o turn = ap (λ (x : Outcome). x.after.core) turn
begin_core e (open_in shutdown_sent my held) false o turn = ap (λ (x : Outcome). x.after.core) turn
begin_core e (open_in shutdown_received my held) has o turn = ap (λ (x : Outcome). x.after.core) turn
begin_core e (open_in shutdown_ack_sent my held) has o turn = ap (λ (x : Outcome). x.after.core) turn

-- No SHUTDOWN ACK has data.
acks_none : (contents : List Content) → NoData (shutdown_acks_of contents)
acks_none [] = tt
acks_none (shutdown_ack ∷ contents) = (tt, acks_none contents)
acks_none (init i ∷ contents) = acks_none contents
acks_none (init_ack i c ∷ contents) = acks_none contents
acks_none (cookie_echo c ∷ contents) = acks_none contents
acks_none (cookie_ack ∷ contents) = acks_none contents
acks_none (re_config p ∷ contents) = acks_none contents
acks_none (abort r c ∷ contents) = acks_none contents
acks_none (shutdown t ∷ contents) = acks_none contents
acks_none (shutdown_complete r ∷ contents) = acks_none contents
acks_none (plain c ∷ contents) = acks_none contents

-- the tag of the association after the first chunk, if more is handled
pub front_tag : (tag : ℕ) (d : Endpoint) (content : Content) (contents : List Content) (t : Transition) → IsTurn d (chunk_input tag content) t → ContentsGo tag (content ∷ contents)
    → (is_echo_in_front (content ∷ contents) ≡ false → own_tag d.core ≡ tag) → t.outcome.following ≡ next_chunk → TagIs tag t.outcome.after
front_tag tag d (cookie_echo bytes) contents t turn go own next =
    own_is t.outcome.after.core tag (echoes_own d tag bytes go.0.cookie t.outcome go.0.reads go.0.under turn.comes next)
front_tag tag d (init_ack theirs cookie) contents t turn go own next = init_ack_tag tag d theirs cookie t.outcome (own refl) turn.comes
front_tag tag d (init introduction) contents t turn go own next = tag_stays tag d (chunk_input tag (init introduction)) t.outcome (λ opening. opening) tt (own_is d.core tag (own refl)) turn.comes
front_tag tag d cookie_ack contents t turn go own next = tag_stays tag d (chunk_input tag cookie_ack) t.outcome (λ opening. opening) tt (own_is d.core tag (own refl)) turn.comes
front_tag tag d (re_config p) contents t turn go own next = tag_stays tag d (chunk_input tag (re_config p)) t.outcome (λ opening. opening) tt (own_is d.core tag (own refl)) turn.comes
front_tag tag d (abort r c) contents t turn go own next = tag_stays tag d (chunk_input tag (abort r c)) t.outcome (λ opening. opening) tt (own_is d.core tag (own refl)) turn.comes
front_tag tag d (shutdown tsn) contents t turn go own next = tag_stays tag d (chunk_input tag (shutdown tsn)) t.outcome (λ opening. opening) tt (own_is d.core tag (own refl)) turn.comes
front_tag tag d shutdown_ack contents t turn go own next = tag_stays tag d (chunk_input tag shutdown_ack) t.outcome (λ opening. opening) tt (own_is d.core tag (own refl)) turn.comes
front_tag tag d (shutdown_complete r) contents t turn go own next = tag_stays tag d (chunk_input tag (shutdown_complete r)) t.outcome (λ opening. opening) tt (own_is d.core tag (own refl)) turn.comes
front_tag tag d (plain chunk) contents t turn go own next = tag_stays tag d (chunk_input tag (plain chunk)) t.outcome (λ opening. opening) tt (own_is d.core tag (own refl)) turn.comes

-- the packets of a turn and of those after it
pub packets_apart : (packets : List Emission) (t : Transition) (turns : List Transition) → (packets ++ packets_of_events t.outcome.events) ++ packets_of_events (events_of turns) ≡ packets ++ packets_of_events (events_of (t ∷ turns))
packets_apart packets t turns = append_assoc packets (packets_of_events t.outcome.events) (packets_of_events (events_of turns)) ∙ ap (λ (l : List Emission). packets ++ l) (sym (packets_of_events-append t.outcome.events (events_of turns)))

module _ (calls : ResetCalls) (options : Options) (e : Endpoint) (queued : List Message) (past : List Effect) (packets : List Emission) (few : length queued < 2 ^ 64) (little : AsksLittle packets) (emission : Emission) (has : places.HasEntry emission packets) where
  abbrev Have : List (Event Emission) → Endpoint → List Effect → Reading → Type 0
  Have seen d their_past reading = AreEnds calls seen options (sending_side e queued past packets) (receiving_side d their_past reading)

  -- what is to be shown of turns
  abbrev Leave : List (Event Emission) → Endpoint → List Effect → Reading → List Transition → Type 0
  Leave seen d their_past reading turns = Have (seen ++ events_of (turns)) (after_all d turns) (after_effects (effects_of turns) their_past) (reading_through d turns reading)

  -- one turn, and the others
  then_others : (seen : List (Event Emission)) (d : Endpoint) (their_past : List Effect) (reading : Reading) (t : Transition) (turns : List Transition)
      → Leave (seen ++ t.outcome.events) t.outcome.after (after_effects t.outcome.effects their_past) (reading_after d t.input t.outcome reading) turns → Leave seen d their_past reading (t ∷ turns)
  then_others seen d their_past reading t turns rest =
      subst (λ (l : List Effect). Have (seen ++ events_of ((t ∷ turns))) (after_all t.outcome.after turns) l (reading_through t.outcome.after turns (reading_after d t.input t.outcome reading))) (sym (after_effects-append t.outcome.effects (effects_of turns) their_past))
      (subst (λ (l : List (Event Emission)). Have l (after_all t.outcome.after turns) (after_effects (effects_of turns) (after_effects t.outcome.effects their_past)) (reading_through t.outcome.after turns (reading_after d t.input t.outcome reading))) (append_assoc seen t.outcome.events (events_of turns)) rest)

  -- no turn
  no_others : (seen : List (Event Emission)) (d : Endpoint) (their_past : List Effect) (reading : Reading) → Have seen d their_past reading → Leave seen d their_past reading []
  no_others seen d their_past reading h = subst (λ (l : List (Event Emission)). Have l d their_past reading) (sym (append-nil seen)) h

  one_turn : (seen : List (Event Emission)) (d : Endpoint) (their_past : List Effect) (reading : Reading) (input : Input) (t : Transition) → (h : Have seen d their_past reading) → IsTurn d input t
      → AreNewTags options their_past past d (t ∷ [])
      → ((transfer : Transfer) (link : AssociationIdentity) → d.queues.transfer ≡ Some transfer → identity_of_core d.core ≡ Some link → WasSent (h.ends.sends link.peer.tag).sent (content_of_input input) × (HadBoth past link.peer.tag link.my.tag ⊎ WasSent [] (content_of_input input))) → IsCall input
      → Have (seen ++ t.outcome.events) t.outcome.after (after_effects t.outcome.effects their_past) (reading_after d t.input t.outcome reading)
  one_turn seen d their_past reading input t h turn new sent may =
      subst (λ (i : Input). Have (seen ++ t.outcome.events) t.outcome.after (after_effects t.outcome.effects their_past) (reading_after d i t.outcome reading)) (sym turn.is)
      (subst (λ (n : ResetCalls). AreEnds n (seen ++ t.outcome.events) options (sending_side e queued past packets) (receiving_side t.outcome.after (after_effects t.outcome.effects their_past) (reading_after d input t.outcome reading))) h.is
      (receiver_turns options h.ends e queued past packets d their_past reading h.between few new.0 input t.outcome (λ begun opening linked. new.1 begun (subst (λ (i : Input). IsOpening (content_of_input i)) (sym turn.is) opening) linked)
      h.answered little new.3.0 may turn.comes seen h.reported new.3.2 new.2 sent))

  -- A chunk that is dropped changes nothing.
  drops : (seen : List (Event Emission)) (d : Endpoint) (their_past : List Effect) (reading : Reading) (tag : ℕ) (content : Content) (t : Transition) (link : AssociationIdentity) → Have seen d their_past reading → IsTurn d (chunk_input tag content) t → identity_of_core d.core ≡ Some link
      → reading.last ≡ tags_of link → t.outcome ≡ still d → Have (seen ++ t.outcome.events) t.outcome.after (after_effects t.outcome.effects their_past) (reading_after d t.input t.outcome reading)
  drops seen d their_past reading tag content t link h turn linked last dropped =
      subst (λ (i : Input). Have (seen ++ t.outcome.events) t.outcome.after (after_effects t.outcome.effects their_past) (reading_after d i t.outcome reading)) (sym turn.is)
      (subst (λ (x : Outcome). Have (seen ++ x.events) x.after (after_effects x.effects their_past) (reading_after d (chunk_input tag content) x reading)) (sym dropped)
      (subst (λ (l : Tags). Have (seen ++ []) d their_past (record { reads = reading.reads; last = l; resets = reading.resets })) (last ∙ sym (ap (tags_or reading.last) linked)) (no_others seen d their_past reading h)))

  chunk_turn : (seen : List (Event Emission)) (d : Endpoint) (their_past : List Effect) (reading : Reading) (tag : ℕ) (content : Content) (t : Transition) → Have seen d their_past reading → IsTurn d (chunk_input tag content) t
      → AreNewTags options their_past past d (t ∷ []) → MayHandle emission d content
      → Have (seen ++ t.outcome.events) t.outcome.after (after_effects t.outcome.effects their_past) (reading_after d t.input t.outcome reading)
  chunk_turn seen d their_past reading tag content t h turn new may = by_transfer d.queues.transfer refl
    where
      own_link : (one two : AssociationIdentity) → identity_of_core d.core ≡ Some one → identity_of_core d.core ≡ Some two → one ≡ two
      own_link one two first second = cc

      same_transfer : (one two : Transfer) → d.queues.transfer ≡ Some one → d.queues.transfer ≡ Some two → one ≡ two
      same_transfer one two first second = cc

      goes : ((transfer : Transfer) (link : AssociationIdentity) → d.queues.transfer ≡ Some transfer → identity_of_core d.core ≡ Some link
          → WasSent (h.ends.sends link.peer.tag).sent (Some content) × (HadBoth past link.peer.tag link.my.tag ⊎ WasSent [] (Some content)))
          → Have (seen ++ t.outcome.events) t.outcome.after (after_effects t.outcome.effects their_past) (reading_after d t.input t.outcome reading)
      goes sent = one_turn seen d their_past reading (chunk_input tag content) t h turn new sent tt

      by_link : (transfer : Transfer) → d.queues.transfer ≡ Some transfer → (link : AssociationIdentity) → HasEffect (holds link) their_past → identity_of_core d.core ≡ Some link → link.my.tag ≢ 0
          → (IsCrossedByEach past link × IsNoneBefore past link) ⊎ ((d.options.follow_rfc ≡ true) × (is_cookie_echoed d.core ≡ true)) → Have (seen ++ t.outcome.events) t.outcome.after (after_effects t.outcome.effects their_past) (reading_after d t.input t.outcome reading)
      by_link transfer there link held linked some (inl crosses) =
          goes (λ other link' there' linked'. subst (λ (l : AssociationIdentity). WasSent (h.ends.sends l.peer.tag).sent (Some content) × (HadBoth past l.peer.tag l.my.tag ⊎ WasSent [] (Some content))) (own_link link link' linked linked')
          (was_sent h.ends past emission (of_ends h.ends past emission packets h.between.sender.all_sent has) d link linked some crosses.0 crosses.1 h.between.sender.replaced content may))
      by_link transfer there link held linked some (inr (follows, echoed)) =
          content_where d tag content t.outcome (λ early dropped. drops seen d their_past reading tag content t link h turn linked (h.between.receiver.last link linked) dropped)
          (λ late handled. goes (λ other link' there' linked'. (unsent (h.ends.sends link'.peer.tag).sent content (needs_none late), inr (unsent [] content (needs_none late))))) turn.comes
        where
          and_true : (a b : Bool) → (a && b) ≡ false → b ≡ true → a ≡ false
          and_true false b none is = refl
          and_true true b none is = absurd (let clash : true ≡ false = sym is ∙ none in cc)

          needs_none : comes_early d content ≡ false → needs_connection content ≡ false
          needs_none late = and_true (needs_connection content) (d.options.follow_rfc && is_cookie_echoed d.core) late (ap (λ (b : Bool). b && is_cookie_echoed d.core) follows ∙ echoed)

      by_transfer : (found : Option Transfer) → d.queues.transfer ≡ found → Have (seen ++ t.outcome.events) t.outcome.after (after_effects t.outcome.effects their_past) (reading_after d t.input t.outcome reading)
      by_transfer None nowhere = goes (λ transfer link there linked. (let clash : ◌≡◌ {A = Option Transfer} None (Some transfer) = sym nowhere ∙ there in absurd (cc)))
      by_transfer (Some transfer) there =
          let c = h.between.receiver.current transfer there in
          by_link transfer there c.link c.held c.linked c.own_some (new.3.1 c.link c.held c.linked)

  -- what comes after the chunks of a packet, or nothing
  IsTail : List Input → Type 0
  IsTail tail = (tail ≡ []) ⊎ ((asks : Bool) × (tail ≡ packet_ends ∷ asked_again asks))

  end_goes : (seen : List (Event Emission)) (d : Endpoint) (their_past : List Effect) (reading : Reading) (t : Transition) (turns : List Transition) → Have seen d their_past reading → AreNewTags options their_past past d (t ∷ turns) → IsTurn d packet_ends t
      → Have (seen ++ t.outcome.events) t.outcome.after (after_effects t.outcome.effects their_past) (reading_after d t.input t.outcome reading)
  end_goes seen d their_past reading t turns h new turn =
      one_turn seen d their_past reading packet_ends t h turn (new.0, new.1, new.2, new.3, tt) (λ transfer link there linked. (tt, inr tt)) tt

  ends_go : (asks : Bool) (seen : List (Event Emission)) (d : Endpoint) (their_past : List Effect) (reading : Reading) (turns : List Transition) → Have seen d their_past reading → AreNewTags options their_past past d turns
      → Turns d (packet_ends ∷ asked_again asks) turns → Leave seen d their_past reading turns
  ends_go asks seen d their_past reading [] h new taken = absurd taken
  ends_go false seen d their_past reading (t ∷ []) h new taken = then_others seen d their_past reading t [] (no_others (seen ++ t.outcome.events) t.outcome.after (after_effects t.outcome.effects their_past) (reading_after d t.input t.outcome reading) (end_goes seen d their_past reading t [] h new taken.0))
  ends_go false seen d their_past reading (t ∷ other ∷ turns) h new taken = absurd taken.1
  ends_go true seen d their_past reading (t ∷ []) h new taken = absurd taken.1
  ends_go true seen d their_past reading (t ∷ u ∷ []) h new taken =
      then_others seen d their_past reading t (u ∷ [])
      (then_others (seen ++ t.outcome.events) t.outcome.after (after_effects t.outcome.effects their_past) (reading_after d t.input t.outcome reading) u []
      (no_others ((seen ++ t.outcome.events) ++ u.outcome.events) u.outcome.after (after_effects u.outcome.effects (after_effects t.outcome.effects their_past)) (reading_after t.outcome.after u.input u.outcome (reading_after d t.input t.outcome reading))
      (one_turn (seen ++ t.outcome.events) t.outcome.after (after_effects t.outcome.effects their_past) (reading_after d t.input t.outcome reading) (act_input shut_down) u
      (end_goes seen d their_past reading t (u ∷ []) h new taken.0) taken.1.0 (new.4.0, new.4.1, new.4.2, new.4.3, tt) (λ transfer link there linked. (tt, inr tt)) tt)))
  ends_go true seen d their_past reading (t ∷ u ∷ other ∷ turns) h new taken = absurd taken.1.1

  tail_goes : (seen : List (Event Emission)) (d : Endpoint) (their_past : List Effect) (reading : Reading) (tail : List Input) (turns : List Transition) → Have seen d their_past reading → AreNewTags options their_past past d turns → IsTail tail → Turns d tail turns
      → Leave seen d their_past reading turns
  unfolding IsTail
  tail_goes seen d their_past reading tail turns h new (inl none) taken = nothing turns new (subst (λ (l : List Input). Turns d l turns) none taken)
    where
      nothing : (turns : List Transition) → AreNewTags options their_past past d turns → Turns d [] turns → Leave seen d their_past reading turns
      nothing [] new taken = no_others seen d their_past reading h
      nothing (t ∷ turns) new taken = absurd taken
  tail_goes seen d their_past reading tail turns h new (inr (asks, is)) taken = ends_go asks seen d their_past reading turns h new (subst (λ (l : List Input). Turns d l turns) is taken)

  -- What is left of the packet has no data; or it begins no association, and the one that is there has the packet's tag.
  abbrev MayGo : Endpoint → List Content → Type 0
  MayGo d contents = NoData contents ⊎ (AllMayFollow contents × ((content : Content) → places.HasEntry content contents → places.HasEntry content emission.packet.contents) × TagIs emission.packet.tag d)

  first_may : (d : Endpoint) (content : Content) (contents : List Content) → MayGo d (content ∷ contents) → MayHandle emission d content
  first_may d content contents (inl none) = inl none.0
  first_may d content contents (inr (follow, all, tag)) = inr (all content (inl refl), tag)

  rest_may : (d : Endpoint) (content : Content) (contents : List Content) (tag : ℕ) (t : Transition) → IsTurn d (chunk_input tag content) t → MayGo d (content ∷ contents) → MayGo t.outcome.after contents
  rest_may d content contents tag t turn (inl none) = inl none.1
  rest_may d content contents tag t turn (inr (follow, all, is)) =
      inr (follow.1, (λ c h. all c (inr h)), tag_stays emission.packet.tag d (chunk_input tag content) t.outcome (not_opening content follow.0) tt is turn.comes)

  after_chunk : (following : Following) (seen : List (Event Emission)) (d : Endpoint) (their_past : List Effect) (reading : Reading) (tail : List Input) (turns : List Transition) (More : Type 0) → Have seen d their_past reading → AreNewTags options their_past past d turns
      → IsTail tail → (More → Leave seen d their_past reading turns) → AfterChunk following More (Turns d tail turns) (turns ≡ []) → Leave seen d their_past reading turns
  after_chunk next_chunk seen d their_past reading tail turns More h new is more taken = more taken
  after_chunk packet_end seen d their_past reading tail turns More h new is more taken = tail_goes seen d their_past reading tail turns h new is taken
  after_chunk dropped_rest seen d their_past reading tail turns More h new is more none = subst (λ (ts : List Transition). Leave seen d their_past reading ts) (sym none) (no_others seen d their_past reading h)

  chunks_go : (contents : List Content) (seen : List (Event Emission)) (d : Endpoint) (their_past : List Effect) (reading : Reading) (tag : ℕ) (tail : List Input) (turns : List Transition) → Have seen d their_past reading → AreNewTags options their_past past d turns
      → IsTail tail → MayGo d contents → ChunkTurns d tag contents tail turns → Leave seen d their_past reading turns
  chunks_go [] seen d their_past reading tag tail turns h new is may taken = tail_goes seen d their_past reading tail turns h new is taken
  chunks_go (content ∷ contents) seen d their_past reading tag tail [] h new is may taken = absurd taken
  chunks_go (content ∷ contents) seen d their_past reading tag tail (t ∷ turns) h new is may taken =
      let first = chunk_turn seen d their_past reading tag content t h taken.0 (new.0, new.1, new.2, new.3, tt) (first_may d content contents may) in
      then_others seen d their_past reading t turns
      (after_chunk t.outcome.following (seen ++ t.outcome.events) t.outcome.after (after_effects t.outcome.effects their_past) (reading_after d t.input t.outcome reading) tail turns (ChunkTurns t.outcome.after tag contents tail turns) first new.4 is
      (λ more. chunks_go contents (seen ++ t.outcome.events) t.outcome.after (after_effects t.outcome.effects their_past) (reading_after d t.input t.outcome reading) tag tail turns first new.4 is (rest_may d content contents tag t taken.0 may) more) taken.1)

  -- ---- the first chunk

  front_may : (d : Endpoint) (content : Content) (contents : List Content) → emission.packet.contents ≡ content ∷ contents → (is_echo_in_front (content ∷ contents) ≡ false → own_tag d.core ≡ emission.packet.tag) → MayHandle emission d content
  front_may d (cookie_echo bytes) contents is own = inl tt
  front_may d (init introduction) contents is own = inl tt
  front_may d (init_ack theirs cookie) contents is own = inl tt
  front_may d cookie_ack contents is own = inl tt
  front_may d (re_config p) contents is own = inr (subst (λ (l : List Content). places.HasEntry (re_config p) l) (sym is) (inl refl), own_is d.core emission.packet.tag (own refl))
  front_may d (abort r c) contents is own = inl tt
  front_may d (shutdown tsn) contents is own = inl tt
  front_may d shutdown_ack contents is own = inl tt
  front_may d (shutdown_complete r) contents is own = inl tt
  front_may d (plain chunk) contents is own = inr (subst (λ (l : List Content). places.HasEntry (plain chunk) l) (sym is) (inl refl), own_is d.core emission.packet.tag (own refl))

  -- with the tag that the packet has
  tagged_go : (asks : Bool) (contents : List Content) → emission.packet.contents ≡ contents → (seen : List (Event Emission)) (d : Endpoint) (their_past : List Effect) (reading : Reading) (turns : List Transition) → Have seen d their_past reading → AreNewTags options their_past past d turns
      → ContentsGo emission.packet.tag contents → (is_echo_in_front contents ≡ false → own_tag d.core ≡ emission.packet.tag)
      → ChunkTurns d emission.packet.tag contents (packet_ends ∷ asked_again asks) turns → Leave seen d their_past reading turns
  unfolding IsTail
  tagged_go asks [] is seen d their_past reading turns h new go own taken = ends_go asks seen d their_past reading turns h new taken
  tagged_go asks (content ∷ contents) is seen d their_past reading [] h new go own taken = absurd taken
  tagged_go asks (content ∷ contents) is seen d their_past reading (t ∷ turns) h new go own taken =
      let first = chunk_turn seen d their_past reading emission.packet.tag content t h taken.0 (new.0, new.1, new.2, new.3, tt) (front_may d content contents is own) in
      then_others seen d their_past reading t turns (more t.outcome.following refl first taken.1)
    where
      more : (following : Following) → t.outcome.following ≡ following → Have (seen ++ t.outcome.events) t.outcome.after (after_effects t.outcome.effects their_past) (reading_after d t.input t.outcome reading)
          → AfterChunk following (ChunkTurns t.outcome.after emission.packet.tag contents (packet_ends ∷ asked_again asks) turns) (Turns t.outcome.after (packet_ends ∷ asked_again asks) turns) (turns ≡ [])
          → Leave (seen ++ t.outcome.events) t.outcome.after (after_effects t.outcome.effects their_past) (reading_after d t.input t.outcome reading) turns
      more next_chunk next first rest =
          chunks_go contents (seen ++ t.outcome.events) t.outcome.after (after_effects t.outcome.effects their_past) (reading_after d t.input t.outcome reading) emission.packet.tag (packet_ends ∷ asked_again asks) turns first new.4 (inr (asks, refl))
          (inr (go.1, (λ c has'. subst (λ (l : List Content). places.HasEntry c l) (sym is) (inr has')), front_tag emission.packet.tag d content contents t taken.0 go own next)) rest
      more packet_end next first rest = ends_go asks (seen ++ t.outcome.events) t.outcome.after (after_effects t.outcome.effects their_past) (reading_after d t.input t.outcome reading) turns first new.4 rest
      more dropped_rest next first none =
          subst (λ (ts : List Transition). Leave (seen ++ t.outcome.events) t.outcome.after (after_effects t.outcome.effects their_past) (reading_after d t.input t.outcome reading) ts) (sym none)
          (no_others (seen ++ t.outcome.events) t.outcome.after (after_effects t.outcome.effects their_past) (reading_after d t.input t.outcome reading) first)

  -- ---- the whole packet

  whole_goes : (seen : List (Event Emission)) (d : Endpoint) (their_past : List Effect) (reading : Reading) (turns : List Transition) → Have seen d their_past reading → AreNewTags options their_past past d turns
      → GoesToMaker emission → admits d.core emission.packet ≡ all_chunks → WholeTurns d emission.packet turns → Leave seen d their_past reading turns
  unfolding IsTail
  whole_goes seen d their_past reading [] h new go admitted taken = absurd taken
  whole_goes seen d their_past reading (begun ∷ turns) h new go admitted taken =
      let first = one_turn seen d their_past reading (packet_begins emission.packet.contents) begun h taken.0 (new.0, new.1, new.2, new.3, tt) (λ transfer link there linked. (tt, inr tt)) tt in
      then_others seen d their_past reading begun turns (by_data first first.ends (of_ends first.ends past emission packets first.between.sender.all_sent has))
    where
      by_data : Have (seen ++ begun.outcome.events) begun.outcome.after (after_effects begun.outcome.effects their_past) (reading_after d begun.input begun.outcome reading) → (table : Ends) → IsOfEnds table past emission
          → Leave (seen ++ begun.outcome.events) begun.outcome.after (after_effects begun.outcome.effects their_past) (reading_after d begun.input begun.outcome reading) turns
      by_data first table (inl none) =
          chunks_go emission.packet.contents (seen ++ begun.outcome.events) begun.outcome.after (after_effects begun.outcome.effects their_past) (reading_after d begun.input begun.outcome reading) emission.packet.tag (packet_tail begun.outcome.after) turns first new.4 (inr (awaits_opening begun.outcome.after begun.outcome.after.core, refl)) (inl none) taken.1
      by_data first table (inr (free, was)) =
          tagged_go (awaits_opening begun.outcome.after begun.outcome.after.core) emission.packet.contents refl (seen ++ begun.outcome.events) begun.outcome.after (after_effects begun.outcome.effects their_past) (reading_after d begun.input begun.outcome reading) turns first new.4 go
          (λ front. ap own_tag (begin_core d d.core (has_data_chunk d.options.follow_rfc emission.packet.contents) begun.outcome taken.0.comes) ∙ sym (addressed_tags_are_own d.core emission.packet free front admitted)) taken.1

  refused_go : (seen : List (Event Emission)) (d : Endpoint) (their_past : List Effect) (reading : Reading) (text : List ℕ) (turns : List Transition) → Have seen d their_past reading → AreNewTags options their_past past d turns → Turns d (refusal text ∷ []) turns
      → Leave seen d their_past reading turns
  refused_go seen d their_past reading text [] h new taken = absurd taken
  refused_go seen d their_past reading text (t ∷ []) h new taken =
      then_others seen d their_past reading t []
      (no_others (seen ++ t.outcome.events) t.outcome.after (after_effects t.outcome.effects their_past) (reading_after d t.input t.outcome reading)
      (one_turn seen d their_past reading (refusal text) t h taken.0 (new.0, new.1, new.2, new.3, tt) (λ transfer link there linked. (tt, inr tt)) tt))
  refused_go seen d their_past reading text (t ∷ other ∷ turns) h new taken = absurd taken.1

  pub packet_goes : (seen : List (Event Emission)) (d : Endpoint) (their_past : List Effect) (reading : Reading) (turns : List Transition) → Have seen d their_past reading → AreNewTags options their_past past d turns
      → GoesToMaker emission → (admission : Admission) → admits d.core emission.packet ≡ admission → AdmittedTurns d emission.packet admission turns → Leave seen d their_past reading turns
  unfolding IsTail
  packet_goes seen d their_past reading turns h new go all_chunks admitted taken = whole_goes seen d their_past reading turns h new go admitted taken
  packet_goes seen d their_past reading turns h new go shutdown_acks_alone admitted taken =
      chunks_go (shutdown_acks_of emission.packet.contents) seen d their_past reading emission.packet.tag [] turns h new (inl refl) (inl (acks_none emission.packet.contents)) taken
  packet_goes seen d their_past reading turns h new go (refused text) admitted taken = refused_go seen d their_past reading text turns h new taken

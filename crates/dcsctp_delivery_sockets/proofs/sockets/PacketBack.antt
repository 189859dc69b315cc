-- What a sender handles of a packet that the receiver sent: what acknowledges in an association came under
-- its own tag.
use Rattle.std.proofs.Common.{◌≡◌, ℕ, Bool, true, false, Some, List, [], ◌∷◌, refl, sym, ◌∙◌, ap, subst, inl, inr}
use Rattle.std.specs.Prelude.{◌⊎◌}
use Rattle.std.specs.List.{AllByRecursion}
use Rattle.dcsctp_spec_lemmas.specs.wire.Content.{PacketContent, data_chunk, init_chunk, init_ack_chunk, sack_chunk, heartbeat_chunk, heartbeat_ack_chunk, abort_chunk, shutdown_chunk, shutdown_ack_chunk, error_chunk, cookie_echo_chunk, cookie_ack_chunk, shutdown_complete_chunk, i_data_chunk, re_config_chunk, forward_tsn_chunk, i_forward_tsn_chunk, unknown_chunk}
use Rattle.dcsctp_spec_lemmas.specs.wire.Format.{IsPacket}
use Rattle.dcsctp_spec_lemmas.specs.types.Settings.{wire_options}
use Rattle.dcsctp_spec_lemmas.specs.spec.Admission.{Admission, all_chunks, shutdown_acks_alone, refused, admits, is_echo_in_front, shutdown_acks_of}
use Rattle.dcsctp_spec_lemmas.specs.spec.Packet.{Packet, packet_of_content, Content, init, init_ack, cookie_echo, cookie_ack, re_config, abort, shutdown, shutdown_ack, shutdown_complete, plain, unknown, heartbeat, heartbeat_ack, unworked, Emission}
use Rattle.dcsctp_spec_lemmas.specs.spec.association.Effect.{AssociationIdentity, identity_of_core}
use Rattle.dcsctp_spec_lemmas.specs.spec.endpoint.CallTurns.{Transition, AlongTurns, IsTurn, Turns, AfterChunk, ChunkTurns, WholeTurns, AdmittedTurns, HandleInput, unreadable, readable, asked_again, packet_tail}
use Rattle.dcsctp_spec_lemmas.specs.spec.endpoint.Endpoint.{Endpoint, Core, own_tag}
use Rattle.dcsctp_spec_lemmas.specs.spec.endpoint.Following.{Following, next_chunk, packet_end, dropped_rest}
use Rattle.dcsctp_spec_lemmas.specs.spec.endpoint.MessageOutcomes.{awaits_opening}
use Rattle.dcsctp_spec_lemmas.specs.spec.endpoint.Outcome.{Outcome}
use Rattle.dcsctp_spec_lemmas.specs.spec.endpoint.Turn.{Input, arrival, refusal, packet_begins, chunk_input, packet_ends, act_input, user_sets, user_sends, user_resets, user_takes, timer_expires, time_passes, restores, has_data_chunk, unreadable_text}
use Rattle.dcsctp_delivery_directions.specs.sending.Places as places
use Rattle.dcsctp_delivery_sockets.specs.turns.Actions.{NoEnd, content_of_input}
use Rattle.dcsctp_delivery_sockets.specs.turns.Reports.{ReportsSo, NoReports}
use Rattle.dcsctp_delivery_sockets.proofs.turns.Addressed.{addressed_tags_are_own}
use Rattle.dcsctp_delivery_sockets.specs.associations.Ends.{CameBack}
use Rattle.dcsctp_delivery_sockets.specs.sockets.Acts.{HearsBack}
use Rattle.dcsctp_delivery_sockets.specs.sockets.Echoes.{AllMayFollow, ContentsGo, GoesToMaker}
use Rattle.dcsctp_delivery_sockets.proofs.sockets.Calls.{NoChunk, NoChunks, of_turns}
use Rattle.dcsctp_delivery_sockets.proofs.sockets.Packets.{TagIs, tag_stays, not_opening, own_is}
use Rattle.dcsctp_delivery_sockets.proofs.sockets.PacketTurns.{begin_core, front_tag}

-- ---- turns without a chunk

no_chunk_back : (heard : List Emission) (tag : ℕ) (input : Input) → NoChunk input → CameBack heard tag (content_of_input input)
no_chunk_back heard tag (chunk_input t content) none = absurd none
no_chunk_back heard tag arrival none = tt
no_chunk_back heard tag (refusal text) none = tt
no_chunk_back heard tag (packet_begins contents) none = tt
no_chunk_back heard tag packet_ends none = tt
no_chunk_back heard tag (act_input act) none = tt
no_chunk_back heard tag (user_sets setting) none = tt
no_chunk_back heard tag (user_sends messages) none = tt
no_chunk_back heard tag (user_resets ids) none = tt
no_chunk_back heard tag user_takes none = tt
no_chunk_back heard tag (timer_expires timer) none = tt
no_chunk_back heard tag (time_passes moment) none = tt
no_chunk_back heard tag (restores state) none = tt

pub turns_back : (heard : List Emission) (e : Endpoint) (turns : List Transition) → NoChunks turns → AlongTurns (HearsBack heard) e turns
turns_back heard e [] none = tt
turns_back heard e (t ∷ turns) none = ((λ link linked. no_chunk_back heard link.my.tag t.input none.0), turns_back heard t.outcome.after turns none.1)

-- No SHUTDOWN ACK reports anything.
acks_silent : (contents : List Content) → NoReports (shutdown_acks_of contents)
acks_silent [] = tt
acks_silent (shutdown_ack ∷ contents) = (tt, acks_silent contents)
acks_silent (init i ∷ contents) = acks_silent contents
acks_silent (init_ack i c ∷ contents) = acks_silent contents
acks_silent (cookie_echo c ∷ contents) = acks_silent contents
acks_silent (cookie_ack ∷ contents) = acks_silent contents
acks_silent (re_config p ∷ contents) = acks_silent contents
acks_silent (abort r c ∷ contents) = acks_silent contents
acks_silent (shutdown t ∷ contents) = acks_silent contents
acks_silent (shutdown_complete r ∷ contents) = acks_silent contents
acks_silent (plain c ∷ contents) = acks_silent contents

module _ (heard : List Emission) (emission : Emission) (was : places.HasEntry emission heard) where
  -- ---- one chunk

  -- The chunk reports nothing; or it is of this packet, which has the tag of the association.
  abbrev MayHear : Endpoint → Content → Type 0
  MayHear d content = ReportsSo (λ tsn. ⊥) content ⊎ (places.HasEntry content emission.packet.contents × TagIs emission.packet.tag d)

  chunk_back : (d : Endpoint) (content : Content) (link : AssociationIdentity) → MayHear d content → identity_of_core d.core ≡ Some link → CameBack heard link.my.tag (Some content)
  chunk_back d (plain (unworked (data_chunk c))) link may linked = tt
  chunk_back d (plain (unworked (init_chunk c))) link may linked = tt
  chunk_back d (plain (unworked (init_ack_chunk c))) link may linked = tt
  chunk_back d (plain (unworked (sack_chunk c))) link (inl none) linked = absurd none
  chunk_back d (plain (unworked (sack_chunk c))) link (inr (has, tag)) linked = record { emission = emission; was = was; holds = has; to = sym (tag link linked) }
  chunk_back d (plain (unworked (heartbeat_chunk c))) link may linked = tt
  chunk_back d (plain (unworked (heartbeat_ack_chunk c))) link may linked = tt
  chunk_back d (plain (unworked (abort_chunk t c))) link may linked = tt
  chunk_back d (plain (unworked (shutdown_chunk c))) link may linked = tt
  chunk_back d (plain (unworked shutdown_ack_chunk)) link may linked = tt
  chunk_back d (plain (unworked (error_chunk c))) link may linked = tt
  chunk_back d (plain (unworked (cookie_echo_chunk c))) link may linked = tt
  chunk_back d (plain (unworked cookie_ack_chunk)) link may linked = tt
  chunk_back d (plain (unworked (shutdown_complete_chunk t))) link may linked = tt
  chunk_back d (plain (unworked (i_data_chunk c))) link may linked = tt
  chunk_back d (plain (unworked (re_config_chunk c))) link may linked = tt
  chunk_back d (plain (unworked (forward_tsn_chunk t s))) link may linked = tt
  chunk_back d (plain (unworked (i_forward_tsn_chunk t s))) link may linked = tt
  chunk_back d (plain (unworked (unknown_chunk t f v))) link may linked = tt
  chunk_back d (plain (unknown t f v)) link may linked = tt
  chunk_back d (plain (heartbeat c)) link may linked = tt
  chunk_back d (plain (heartbeat_ack c)) link may linked = tt
  chunk_back d (init c) link may linked = tt
  chunk_back d (init_ack c k) link may linked = tt
  chunk_back d (cookie_echo c) link may linked = tt
  chunk_back d cookie_ack link may linked = tt
  chunk_back d (re_config c) link may linked = tt
  chunk_back d (abort t c) link may linked = tt
  chunk_back d (shutdown c) link (inl none) linked = absurd none
  chunk_back d (shutdown c) link (inr (has, tag)) linked = record { emission = emission; was = was; holds = has; to = sym (tag link linked) }
  chunk_back d shutdown_ack link may linked = tt
  chunk_back d (shutdown_complete t) link may linked = tt

  chunk_turn_back : (d : Endpoint) (tag : ℕ) (content : Content) (t : Transition) → IsTurn d (chunk_input tag content) t → MayHear d content → HearsBack heard d t
  chunk_turn_back d tag content t turn may link linked = subst (λ (i : Input). CameBack heard link.my.tag (content_of_input i)) (sym turn.is) (chunk_back d content link may linked)

  -- ---- those after the first

  -- What is left of the packet reports nothing; or it begins no association, and the one that is there has the packet's tag.
  abbrev MayGo : Endpoint → List Content → Type 0
  MayGo d contents = NoReports contents ⊎ (AllMayFollow contents × ((content : Content) → places.HasEntry content contents → places.HasEntry content emission.packet.contents) × TagIs emission.packet.tag d)

  first_may : (d : Endpoint) (content : Content) (contents : List Content) → MayGo d (content ∷ contents) → MayHear d content
  first_may d content contents (inl none) = inl none.0
  first_may d content contents (inr (follow, all, tag)) = inr (all content (inl refl), tag)

  rest_may : (d : Endpoint) (content : Content) (contents : List Content) (tag : ℕ) (t : Transition) → IsTurn d (chunk_input tag content) t → MayGo d (content ∷ contents) → MayGo t.outcome.after contents
  rest_may d content contents tag t turn (inl none) = inl none.1
  rest_may d content contents tag t turn (inr (follow, all, is)) =
      inr (follow.1, (λ c h. all c (inr h)), tag_stays emission.packet.tag d (chunk_input tag content) t.outcome (not_opening content follow.0) tt is turn.comes)

  tail_back : (d : Endpoint) (tail : List Input) (turns : List Transition) → AllByRecursion NoChunk tail → Turns d tail turns → AlongTurns (HearsBack heard) d turns
  tail_back d tail turns none taken = turns_back heard d turns (of_turns NoChunk d tail turns none taken)

  after_chunk : (following : Following) (d : Endpoint) (tail : List Input) (turns : List Transition) (More : Type 0) → AllByRecursion NoChunk tail → (More → AlongTurns (HearsBack heard) d turns)
      → AfterChunk following More (Turns d tail turns) (turns ≡ []) → AlongTurns (HearsBack heard) d turns
  after_chunk next_chunk d tail turns More none more taken = more taken
  after_chunk packet_end d tail turns More none more taken = tail_back d tail turns none taken
  after_chunk dropped_rest d tail turns More none more empty = subst (λ (ts : List Transition). AlongTurns (HearsBack heard) d ts) (sym empty) tt

  chunks_back : (contents : List Content) (d : Endpoint) (tag : ℕ) (tail : List Input) (turns : List Transition) → AllByRecursion NoChunk tail → MayGo d contents → ChunkTurns d tag contents tail turns → AlongTurns (HearsBack heard) d turns
  chunks_back [] d tag tail turns none may taken = tail_back d tail turns none taken
  chunks_back (content ∷ contents) d tag tail [] none may taken = absurd taken
  chunks_back (content ∷ contents) d tag tail (t ∷ turns) none may taken = (
    chunk_turn_back d tag content t taken.0 (first_may d content contents may),
    after_chunk t.outcome.following t.outcome.after tail turns (ChunkTurns t.outcome.after tag contents tail turns) none
        (λ more. chunks_back contents t.outcome.after tag tail turns none (rest_may d content contents tag t taken.0 may) more) taken.1,
  )

  -- ---- the first

  front_may : (d : Endpoint) (content : Content) (contents : List Content) → emission.packet.contents ≡ content ∷ contents → (is_echo_in_front (content ∷ contents) ≡ false → own_tag d.core ≡ emission.packet.tag) → MayHear d content
  front_may d (cookie_echo bytes) contents is own = inl tt
  front_may d (init introduction) contents is own = inl tt
  front_may d (init_ack theirs cookie) contents is own = inl tt
  front_may d cookie_ack contents is own = inl tt
  front_may d (re_config p) contents is own = inl tt
  front_may d (abort r c) contents is own = inl tt
  front_may d (shutdown tsn) contents is own = inr (subst (λ (l : List Content). places.HasEntry (shutdown tsn) l) (sym is) (inl refl), own_is d.core emission.packet.tag (own refl))
  front_may d shutdown_ack contents is own = inl tt
  front_may d (shutdown_complete r) contents is own = inl tt
  front_may d (plain chunk) contents is own = inr (subst (λ (l : List Content). places.HasEntry (plain chunk) l) (sym is) (inl refl), own_is d.core emission.packet.tag (own refl))

  tail_none : (asks : Bool) → AllByRecursion NoChunk (packet_ends ∷ asked_again asks)
  tail_none true = (tt, (tt, tt))
  tail_none false = (tt, tt)

  tagged_back : (asks : Bool) (contents : List Content) → emission.packet.contents ≡ contents → (d : Endpoint) (turns : List Transition) → ContentsGo emission.packet.tag contents → (is_echo_in_front contents ≡ false → own_tag d.core ≡ emission.packet.tag)
      → ChunkTurns d emission.packet.tag contents (packet_ends ∷ asked_again asks) turns → AlongTurns (HearsBack heard) d turns
  tagged_back asks [] is d turns go own taken = tail_back d (packet_ends ∷ asked_again asks) turns (tail_none asks) taken
  tagged_back asks (content ∷ contents) is d [] go own taken = absurd taken
  tagged_back asks (content ∷ contents) is d (t ∷ turns) go own taken =
      (chunk_turn_back d emission.packet.tag content t taken.0 (front_may d content contents is own), more t.outcome.following refl taken.1)
    where
      more : (following : Following) → t.outcome.following ≡ following
          → AfterChunk following (ChunkTurns t.outcome.after emission.packet.tag contents (packet_ends ∷ asked_again asks) turns) (Turns t.outcome.after (packet_ends ∷ asked_again asks) turns) (turns ≡ [])
          → AlongTurns (HearsBack heard) t.outcome.after turns
      more next_chunk next rest =
          chunks_back contents t.outcome.after emission.packet.tag (packet_ends ∷ asked_again asks) turns (tail_none asks)
          (inr (go.1, (λ c has. subst (λ (l : List Content). places.HasEntry c l) (sym is) (inr has)), front_tag emission.packet.tag d content contents t taken.0 go own next)) rest
      more packet_end next rest = tail_back t.outcome.after (packet_ends ∷ asked_again asks) turns (tail_none asks) rest
      more dropped_rest next empty = subst (λ (ts : List Transition). AlongTurns (HearsBack heard) t.outcome.after ts) (sym empty) tt

  -- ---- the packet

  whole_back : (d : Endpoint) (turns : List Transition) → GoesToMaker emission → NoReports emission.packet.contents ⊎ NoEnd emission.packet.contents → admits d.core emission.packet ≡ all_chunks → WholeTurns d emission.packet turns
      → AlongTurns (HearsBack heard) d turns
  whole_back d [] go is admitted taken = absurd taken
  whole_back d (begun ∷ turns) go is admitted taken =
      ((λ link linked. subst (λ (i : Input). CameBack heard link.my.tag (content_of_input i)) (sym taken.0.is) tt), by_reports is)
    where
      by_reports : NoReports emission.packet.contents ⊎ NoEnd emission.packet.contents → AlongTurns (HearsBack heard) begun.outcome.after turns
      by_reports (inl none) =
          chunks_back emission.packet.contents begun.outcome.after emission.packet.tag (packet_tail begun.outcome.after) turns (tail_none (awaits_opening begun.outcome.after begun.outcome.after.core)) (inl none) taken.1
      by_reports (inr free) =
          tagged_back (awaits_opening begun.outcome.after begun.outcome.after.core) emission.packet.contents refl begun.outcome.after turns go
          (λ front. ap own_tag (begin_core d d.core (has_data_chunk d.options.follow_rfc emission.packet.contents) begun.outcome taken.0.comes) ∙ sym (addressed_tags_are_own d.core emission.packet free front admitted)) taken.1

  admitted_back : (d : Endpoint) (turns : List Transition) → GoesToMaker emission → NoReports emission.packet.contents ⊎ NoEnd emission.packet.contents → (admission : Admission) → admits d.core emission.packet ≡ admission
      → AdmittedTurns d emission.packet admission turns → AlongTurns (HearsBack heard) d turns
  admitted_back d turns go is all_chunks admitted taken = whole_back d turns go is admitted taken
  admitted_back d turns go is shutdown_acks_alone admitted taken =
      chunks_back (shutdown_acks_of emission.packet.contents) d emission.packet.tag [] turns tt (inl (acks_silent emission.packet.contents)) taken
  admitted_back d turns go is (refused text) admitted taken = tail_back d (refusal text ∷ []) turns (tt, tt) taken

  pub packet_back : (d : Endpoint) (bytes : List ℕ) (turns : List Transition) → GoesToMaker emission → NoReports emission.packet.contents ⊎ NoEnd emission.packet.contents
      → ((packet : PacketContent) → IsPacket (wire_options d.options) packet bytes → packet_of_content packet ≡ emission.packet) → HandleInput d bytes turns → AlongTurns (HearsBack heard) d turns
  packet_back d bytes turns go reports is (unreadable ts unread taken) = tail_back d (arrival ∷ refusal unreadable_text ∷ []) ts (tt, (tt, tt)) taken
  packet_back d bytes turns go reports is (readable packet counted ts is_packet counting admitted) =
      let core : counted.outcome.after.core ≡ d.core = ap (λ (x : Outcome). x.after.core) counting.comes in
      let same : AdmittedTurns counted.outcome.after emission.packet (admits counted.outcome.after.core emission.packet) ts =
      subst (λ (c : Core). AdmittedTurns counted.outcome.after emission.packet (admits c emission.packet) ts) (sym core)
      (subst (λ (p : Packet). AdmittedTurns counted.outcome.after p (admits d.core p) ts) (is packet is_packet) admitted) in (
        (λ link linked. subst (λ (i : Input). CameBack heard link.my.tag (content_of_input i)) (sym counting.is) tt),
        admitted_back counted.outcome.after ts go reports (admits counted.outcome.after.core emission.packet) refl same,
      )

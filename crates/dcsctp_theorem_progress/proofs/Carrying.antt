-- INIT ACK, COOKIE ECHO and COOKIE ACK at any socket, with data that waits there and data behind them.
use Rattle.std.specs.Prelude.{ℤ, pos, negsuc}
use Rattle.std.proofs.Common.{◌≡◌, ℕ, zero, suc, Bool, true, false, cond, eqb, Option, None, Some, List, [], ◌∷◌, ◌++◌, map, refl, sym, subst, ap, ◌∙◌}
use Rattle.dcsctp_spec_lemmas.specs.types.declared.association.Pair.{Pair}
use Rattle.dcsctp_spec_lemmas.specs.types.declared.association.Held.{Held}
use Rattle.dcsctp_spec_lemmas.specs.types.declared.options.Options.{Options}
use Rattle.dcsctp_spec_lemmas.specs.types.declared.tracking.AckState.{AckState}
use Rattle.dcsctp_spec_lemmas.specs.types.declared.tracking.AckState.TheVariants.{Idle, BecomingDelayed, Delayed, Immediate}
use Rattle.dcsctp_spec_lemmas.specs.types.declared.word.Word.TheVariants.{U64}
use Rattle.dcsctp_spec_lemmas.specs.types.Offer.{offer_of, agreed_method}
use Rattle.dcsctp_spec_lemmas.specs.types.queues.SendStreams.{Stream, renumbered_stream, stream_counted}
use Rattle.dcsctp_spec_lemmas.specs.types.declared.sending.UnderWay.{UnderWay}
use Rattle.dcsctp_spec_lemmas.specs.spec.Cookie.{Cookie, cookie_bytes}
use Rattle.dcsctp_spec_lemmas.specs.spec.CookieFits.{FitsPair}
use Rattle.dcsctp_spec_lemmas.specs.spec.Packet.{Introduction, Content, init_ack, cookie_echo, Emission}
use Rattle.dcsctp_spec_lemmas.specs.spec.association.Effect.{Effect, holds, identity_of}
use Rattle.dcsctp_spec_lemmas.specs.spec.association.HandshakeChanges.{held_by_init_ack}
use Rattle.dcsctp_spec_lemmas.specs.spec.queues.SendQueue.{SendQueueState, numbered_for, renumbered_under_way, is_front_unordered, put_back, queue_restarted, is_other}
use Rattle.dcsctp_spec_lemmas.specs.spec.queues.Tracker.{TrackerState, new_tracker, owes_acknowledgement, is_acknowledgement_due, is_sack_due, delayed_from, after_packet_end}
use Rattle.dcsctp_spec_lemmas.specs.spec.queues.Transfer.{Transfer}
use Rattle.dcsctp_spec_lemmas.specs.spec.endpoint.DataOutcomes.{endpoint_with_tracker, AnswersPacketIfDue, AcknowledgesPacket}
use Rattle.dcsctp_spec_lemmas.specs.spec.endpoint.Endpoint.{Endpoint, Core, cookie_wait, cookie_echoed, own_tag, held_by_core}
use Rattle.dcsctp_spec_lemmas.specs.spec.endpoint.Event.{Event, packets_of_events}
use Rattle.dcsctp_spec_lemmas.specs.spec.endpoint.Following.{Following, next_chunk}
use Rattle.dcsctp_spec_lemmas.specs.spec.endpoint.Outcome.{Outcome, still, quiet, behind, with_effects_first, fits}
use Rattle.dcsctp_spec_lemmas.specs.spec.endpoint.FlushOutcomes.{Answer, FlushAnswers, first_ask, packets_allowed, allows_packet, flush_answered, flush_of}
use Rattle.dcsctp_spec_lemmas.specs.spec.endpoint.HandshakeOutcomes.{echo_emission, awaits_cookie_ack, EchoAnswers, InitAckAnswers, InitAckTurn, init_ack_with_flush, renumbered_queue}
use Rattle.dcsctp_spec_lemmas.specs.spec.endpoint.CookieEchoOutcomes.{queue_if_kept, window_by_cookie, interleaves}
use Rattle.dcsctp_spec_lemmas.specs.spec.endpoint.MessageOutcomes.{awaits_opening}
use Rattle.dcsctp_spec_lemmas.specs.spec.endpoint.CallTurns.{Transition, transition, Turns, AfterChunk, ChunkTurns, HandleInput, after_all, events_of}
use Rattle.dcsctp_spec_lemmas.specs.spec.endpoint.Turn.{BeginTurn, packet_ends, packet_begins, arrival, arrival_outcome}
use Rattle.dcsctp_theorem_sockets.proofs.Bursts.{packets_of_events-append}
use Rattle.dcsctp_theorem_sockets.proofs.HandshakeReads.{counted_at, alone, IsTaken}
use Rattle.dcsctp_theorem_sockets.proofs.HandshakeSizes.{echo_fits}
use Rattle.dcsctp_theorem_sockets.proofs.HandshakeTurns.{HandshakeLaws, Good, answer_to, ack_admitted}
use Rattle.dcsctp_delivery_directions.specs.sending.Losing.{AreOpen}
use Rattle.dcsctp_theorem_progress.proofs.Views.{told_then}
use Rattle.dcsctp_theorem_progress.proofs.Carried.{all_both}
use Rattle.dcsctp_theorem_progress.proofs.Constant.{KeepsTrying, trying_then, Tracks, flush_tracks}
use Rattle.dcsctp_theorem_progress.proofs.Flows.{Flows, AreCarriedFor, AllCarryTo, told-append}
use Rattle.dcsctp_theorem_progress.proofs.Flushes.{Fronts, front_draft, flush_fronts}
use Rattle.dcsctp_theorem_progress.proofs.Walks.{StayAlong, ended, IsTakenWhole, WholeTaken, whole_taken}
use Rattle.dcsctp_theorem_progress.proofs.Echoes.{answer_packet, answer_is_taken}

-- ---- streams once an association begins

mapped_open : (f : Stream → Stream) → ((s : Stream) → (f s).pause ≡ s.pause) → (streams : List Stream) → AreOpen streams → AreOpen (map f streams)
mapped_open f same [] are = tt
mapped_open f same (s ∷ streams) are = (same s ∙ are.0, mapped_open f same streams are.1)

renumbered_open : (streams : List Stream) → AreOpen (map renumbered_stream streams)
renumbered_open [] = tt
renumbered_open (s ∷ streams) = (refl, renumbered_open streams)

counted_pause : (b u : Bool) (s : Stream) → (stream_counted b u s).pause ≡ s.pause
counted_pause false false s = refl
counted_pause false true s = refl
counted_pause true false s = refl
counted_pause true true s = refl

progress_pause : (b : Bool) (s : Stream) (u : Option UnderWay) → (renumbered_under_way b (record s { under_way = u })).pause ≡ s.pause
progress_pause b s None = refl
progress_pause b s (Some u) = counted_pause b (is_front_unordered s.messages) (record s { under_way = Some u })

numbered_where : (other enabled : Bool) (streams : List Stream) → AreOpen streams → AreOpen (cond other (map (renumbered_under_way enabled) streams) streams)
numbered_where true enabled streams are = mapped_open (renumbered_under_way enabled) (λ s. progress_pause enabled s s.under_way) streams are
numbered_where false enabled streams are = are

numbered_open : (enabled : Bool) (window : ℕ) (queue : SendQueueState) → AreOpen queue.streams → AreOpen (numbered_for enabled window queue).streams
numbered_open enabled window queue are = numbered_where (is_other queue.is_interleaved enabled) enabled queue.streams are

-- Whatever was to be reset, no longer is.
pub begun_open : (enabled : Bool) (window : ℕ) (queue : SendQueueState) → AreOpen (renumbered_queue queue enabled window).streams
begun_open enabled window queue = numbered_open enabled window (queue_restarted queue) (renumbered_open (put_back queue).streams)

pub kept_open : (follows : Bool) (e : Endpoint) (cookie : Cookie) → AreOpen e.queues.queue.streams → AreOpen (queue_if_kept follows e cookie).streams
kept_open true e cookie are = begun_open (interleaves e cookie) (window_by_cookie e.options cookie) e.queues.queue
kept_open false e cookie are = numbered_open (interleaves e cookie) (window_by_cookie e.options cookie) e.queues.queue are

-- ---- INIT ACK

-- A packet that its reader takes with one chunk is one that it takes.
taken_alone : (mine theirs : Options) (with_checksum : Bool) (tag : ℕ) (content : Content) → IsTaken mine theirs with_checksum tag content → IsTakenWhole mine theirs (alone with_checksum tag content)
taken_alone mine theirs with_checksum tag content h =
    record { fits = h.fits; sendable = h.sendable; minima = (h.minima, tt); echo_in_front = tt; to_this_port = h.to_this_port; checked = h.checked }

-- The cookie is echoed to this peer, with data behind it.
pub record EchoesAlong (e : Endpoint) (p : Pair) (theirs : Introduction) (bytes : List ℕ) (turns : List Transition) : Type 0 where
  pub core : (after_all e turns).core ≡ cookie_echoed p (held_by_init_ack e.options p theirs) bytes
  pub options : (after_all e turns).options ≡ e.options
  pub asked : (after_all e turns).shutdown_asked ≡ e.shutdown_asked
  pub flows : Flows (held_by_init_ack e.options p theirs) (after_all e turns)
  pub told : (n : ℕ) → told_then (events_of turns) n ≡ n
  pub more : List Content
  pub carried : AreCarriedFor (held_by_init_ack e.options p theirs) more
  pub rest : List Emission
  pub others : AllCarryTo (held_by_init_ack e.options p theirs) rest
  pub packets : packets_of_events (events_of turns) ≡ record { with_checksum = true; packet = record { tag = theirs.pair.tag; contents = cookie_echo bytes ∷ more } } ∷ rest
  pub word : ℕ
  pub trying : KeepsTrying (awaits_cookie_ack (counted_at e) p theirs bytes word) (after_all e turns)
  pub alone : rest ≡ []

-- ---- nothing else is sent

pub one_allowed : (z : ℤ) (p : Pair) (held : Held) (bytes : List ℕ) → allows_packet z ≡ true → packets_allowed z (cookie_echoed p held bytes) ≡ 1
one_allowed (pos zero) p held bytes may = absurd (cc)
one_allowed (pos (suc more)) p held bytes may = refl
one_allowed (negsuc below) p held bytes may = absurd (cc)

owes_idle : (state : AckState) → is_sack_due state true ≡ false → state ≡ Idle
owes_idle Idle owes = refl
owes_idle BecomingDelayed owes = absurd (cc)
owes_idle Delayed owes = absurd (cc)
owes_idle Immediate owes = absurd (cc)

not_due : (moment : ℕ) (tracker : TrackerState) → owes_acknowledgement tracker ≡ false → is_acknowledgement_due (after_packet_end moment tracker) ≡ false
not_due moment tracker owes =
    let idle : tracker.acknowledgement ≡ Idle = owes_idle tracker.acknowledgement owes in
    ap (λ (state : AckState). is_acknowledgement_due (delayed_from moment tracker state)) idle ∙ ap (λ (state : AckState). is_sack_due state false) idle

-- The end of a packet sends nothing where nothing was received.
end_is_quiet : (e : Endpoint) (turns : List Transition) (tracker : TrackerState) → Tracks e tracker → owes_acknowledgement tracker ≡ false → Turns e (packet_ends ∷ []) turns → events_of turns ≡ []
end_is_quiet e [] tracker tracks owes turns = absurd turns
end_is_quiet e (t ∷ u ∷ ts) tracker tracks owes turns = absurd turns.1
end_is_quiet e (t ∷ []) tracker tracks owes turns =
    let after : TrackerState = after_packet_end e.moment tracks.transfer.tracker in
    let here : AnswersPacketIfDue (is_acknowledgement_due after) e (held_by_core e.core) tracks.transfer after t.outcome = subst (λ (x : Option Transfer). AcknowledgesPacket e x t.outcome) tracks.known turns.0.comes in
    let due : is_acknowledgement_due after ≡ false = not_due e.moment tracks.transfer.tracker (ap owes_acknowledgement tracks.same ∙ owes) in
    let is : t.outcome ≡ still (endpoint_with_tracker e tracks.transfer after) = subst (λ (b : Bool). AnswersPacketIfDue b e (held_by_core e.core) tracks.transfer after t.outcome) due here in
    ap (λ (o : Outcome). o.events ++ []) is

-- What the one chunk leaves, besides.
record FrontAlone (e after : Endpoint) (o : Outcome) (rest : List Emission) : Type 0 where
  tracker : TrackerState
  tracks : Tracks o.after tracker
  owes : owes_acknowledgement tracker ≡ false
  trying : KeepsTrying after o.after
  none : rest ≡ []

-- the rest of what is sent
pub sent_then : (first : Emission) (rest : List Emission) (xs ys : List (Event Emission)) → packets_of_events xs ≡ first ∷ rest → packets_of_events (xs ++ ys) ≡ first ∷ (rest ++ packets_of_events ys)
sent_then first rest xs ys is = packets_of_events-append xs ys ∙ ap (λ (ps : List Emission). ps ++ packets_of_events ys) is

echoed_by : (e : Endpoint) (p : Pair) (theirs : Introduction) (cookie : Cookie) (o : Outcome) → e.core ≡ cookie_wait p → Good e.options → InitAckTurn e theirs (Some (cookie_bytes cookie)) o
    → (word : ℕ) × (f : Fronts (held_by_init_ack e.options p theirs) (awaits_cookie_ack e p theirs (cookie_bytes cookie) word) true theirs.pair.tag (cookie_echo (cookie_bytes cookie)) o)
    × FrontAlone e (awaits_cookie_ack e p theirs (cookie_bytes cookie) word) o f.rest
echoed_by e p theirs cookie o is good turn =
    let bytes : List ℕ = cookie_bytes cookie in
    let word : ℕ = turn.0 in
    let answers : List Answer = turn.1 in
    let after : Endpoint = awaits_cookie_ack e p theirs bytes word in
    let held : Held = held_by_init_ack e.options p theirs in
    let large : fits after (echo_emission theirs.pair.tag bytes) ≡ true = echo_fits after theirs.pair.tag cookie good.allow.mtu in
    let at_core : InitAckAnswers e theirs (Some bytes) (cookie_wait p) word answers = subst (λ (core : Core). InitAckAnswers e theirs (Some bytes) core word answers) is turn.2 in
    let allowed : FlushAnswers after (front_draft true theirs.pair.tag (cookie_echo bytes)) answers = subst (λ (b : Bool). EchoAnswers b after theirs.pair.tag bytes answers) large at_core in
    let flows : Flows held after = record {
      kind = record { peer = refl; transfer = _; known = refl; interleaves = refl; abandons = refl };
      unpaused = begun_open held.capabilities.message_interleaving theirs.window e.queues.queue;
    } in
    let f : Fronts held after true theirs.pair.tag (cookie_echo bytes) (flush_of after (front_draft true theirs.pair.tag (cookie_echo bytes)) answers) =
    flush_fronts held after true theirs.pair.tag (cookie_echo bytes) answers good.allow.burst flows allowed in
    let effects : List Effect = holds (identity_of p held) ∷ [] in
    let so : o ≡ with_effects_first effects (behind (U64 word ∷ []) [] (flush_of after (front_draft true theirs.pair.tag (cookie_echo bytes)) answers)) =
    turn.3
    ∙ ap (λ (core : Core). init_ack_with_flush (flush_answered answers) e theirs (Some bytes) core word) is
    ∙ ap (λ (b : Bool). with_effects_first effects (cond b (flush_answered answers after (U64 word ∷ []) [] true theirs.pair.tag (cookie_echo bytes ∷ [])) (quiet after (U64 word ∷ []) []))) large in
    let tracks : Tracks (flush_of after (front_draft true theirs.pair.tag (cookie_echo bytes)) answers).after (new_tracker e.options theirs.pair.first_tsn) =
    flush_tracks first_ask (packets_allowed after.options.max_burst after.core) after (front_draft true theirs.pair.tag (cookie_echo bytes)) answers (new_tracker e.options theirs.pair.first_tsn) allowed
    (record { transfer = _; known = refl; same = refl }) refl refl in
    let fronts : Fronts held after true theirs.pair.tag (cookie_echo bytes) o =
    record {
      core = ap (λ (x : Outcome). x.after.core) so ∙ f.core;
      options = ap (λ (x : Outcome). x.after.options) so ∙ f.options;
      asked = ap (λ (x : Outcome). x.after.shutdown_asked) so ∙ f.asked;
      flows = subst (λ (x : Outcome). Flows held x.after) (sym so) f.flows;
      following = ap (λ (x : Outcome). x.following) so ∙ f.following;
      trying = subst (λ (x : Outcome). KeepsTrying after x.after) (sym so) f.trying;
      told = λ n. ap (λ (x : Outcome). told_then x.events n) so ∙ f.told n;
      more = f.more;
      carried = f.carried;
      rest = f.rest;
      others = f.others;
      packets = ap (λ (x : Outcome). packets_of_events x.events) so ∙ f.packets;
      alone = f.alone;
    } in (
      word,
      fronts,
      record {
        tracker = new_tracker e.options theirs.pair.first_tsn;
        tracks = subst (λ (x : Outcome). Tracks x.after (new_tracker e.options theirs.pair.first_tsn)) (sym so) tracks;
        owes = refl;
        trying = subst (λ (x : Outcome). KeepsTrying after x.after) (sym so) (record { moment = f.trying.moment; t1 = f.trying.t1; errors = f.trying.errors });
        none = f.alone (one_allowed e.options.max_burst p held bytes good.allow.burst);
      },
    )

-- the end after the one chunk
end_follows : (t : Transition) (tag : ℕ) (turns : List Transition) → t.outcome.following ≡ next_chunk
    → AfterChunk t.outcome.following (ChunkTurns t.outcome.after tag [] (packet_ends ∷ []) turns) (Turns t.outcome.after (packet_ends ∷ []) turns) (turns ≡ []) → Turns t.outcome.after (packet_ends ∷ []) turns
end_follows t tag turns goes_on rest =
    subst (λ (f : Following). AfterChunk f (ChunkTurns t.outcome.after tag [] (packet_ends ∷ []) turns) (Turns t.outcome.after (packet_ends ∷ []) turns) (turns ≡ [])) goes_on rest

echoes_chunks : (e : Endpoint) (p : Pair) (theirs : Introduction) (cookie : Cookie) (tag : ℕ) (contents : List Content) (turns rest : List Transition) → e.core ≡ cookie_wait p → Good e.options
    → turns ≡ transition arrival (arrival_outcome e) ∷ transition (packet_begins contents) (still (counted_at e)) ∷ rest
    → ChunkTurns (counted_at e) tag (init_ack theirs (Some (cookie_bytes cookie)) ∷ []) (packet_ends ∷ []) rest → EchoesAlong e p theirs (cookie_bytes cookie) turns
echoes_chunks e p theirs cookie tag contents turns [] is good parts h = absurd h
echoes_chunks e p theirs cookie tag contents turns (t ∷ ts) is good parts h =
    let held : Held = held_by_init_ack e.options p theirs in
    let first = echoed_by (counted_at e) p theirs cookie t.outcome is good h.0.comes in
    let f = first.1 in
    let quiet_end : events_of ts ≡ [] = end_is_quiet t.outcome.after ts first.2.tracker first.2.tracks first.2.owes (end_follows t tag ts f.following h.1) in
    let last : StayAlong held t.outcome.after ts = ended held t.outcome.after ts f.flows (end_follows t tag ts f.following h.1) in
    subst (EchoesAlong e p theirs (cookie_bytes cookie)) (sym parts)
    (record {
      core = last.core ∙ f.core;
      options = last.options ∙ f.options;
      asked = last.asked ∙ f.asked;
      flows = last.flows;
      told = λ n. told-append t.outcome.events (events_of ts) n ∙ ap (told_then (events_of ts)) (f.told n) ∙ last.tells.told n;
      more = f.more;
      carried = f.carried;
      rest = f.rest ++ packets_of_events (events_of ts);
      others = all_both _ f.rest (packets_of_events (events_of ts)) f.others last.tells.sent;
      packets = sent_then _ f.rest t.outcome.events (events_of ts) f.packets;
      word = first.0;
      trying = trying_then _ t.outcome.after _ first.2.trying last.trying;
      alone = ap (λ (ps : List Emission). ps ++ packets_of_events (events_of ts)) first.2.none ∙ ap packets_of_events quiet_end;
    })

-- The socket that awaits it echoes the cookie.
pub echoes_along : HandshakeLaws → (e : Endpoint) (b : Options) (p q : Pair) (cookie : Cookie) (turns : List Transition) → e.core ≡ cookie_wait p
    → Good e.options → Good b → FitsPair p → FitsPair q → b.remote_port ≡ e.options.local_port
    → HandleInput e (answer_packet e.options b p q cookie) turns → EchoesAlong e p (answer_to e.options b p q) (cookie_bytes cookie) turns
echoes_along law e b p q cookie turns is good_a good_b mine own port input =
    let theirs : Introduction = answer_to e.options b p q in
    let content : Content = init_ack theirs (Some (cookie_bytes cookie)) in
    let with_checksum : Bool = eqb (agreed_method (offer_of b) (offer_of e.options)) 0 in
    let h : WholeTaken e (alone with_checksum p.tag content).packet turns =
    whole_taken law.wire e b (alone with_checksum p.tag content) turns (taken_alone e.options b with_checksum p.tag content (answer_is_taken law e.options b p q cookie good_b mine own port))
    (ack_admitted e.core theirs (cookie_bytes cookie) p.tag (ap own_tag is) mine.tag_is_not_zero) (ap (awaits_opening e) is)
    (λ o rests. subst (λ (core : Core). BeginTurn (counted_at e) core false o) is rests) input in
    echoes_chunks e p theirs cookie p.tag (content ∷ []) turns h.rest is good_a h.parts h.chunks

-- The turns of data are turns of the association: packets that speak of none, and a flush.
use Rattle.std.proofs.Common.{◌≡◌, ℕ, Bool, true, false, cond, Option, None, Some, List, [], ◌∷◌, ◌++◌, map, refl, sym, subst, ap, ◌∙◌, append_assoc}
use Rattle.std.proofs.lemmas.List.{append-nil, map-append}
use Rattle.dcsctp_spec_lemmas.specs.types.declared.association.Held.{Held}
use Rattle.dcsctp_spec_lemmas.specs.types.declared.word.Word.{Word}
use Rattle.dcsctp_spec_lemmas.specs.types.declared.kinds.ErrorKind.TheVariants.{ProtocolViolation, NotConnected}
use Rattle.dcsctp_spec_lemmas.specs.types.Settings.{SameOptions}
use Rattle.dcsctp_spec_lemmas.specs.spec.endpoint.Event.{Event, error}
use Rattle.dcsctp_spec_lemmas.specs.spec.Packet.{Plain, plain, error_of, Content, Emission}
use Rattle.dcsctp_spec_lemmas.specs.wire.Content.{no_user_data}
use Rattle.dcsctp_spec_lemmas.specs.types.queues.Messages.{MessageContent}
use Rattle.dcsctp_spec_lemmas.specs.spec.queues.Transfer.{Transfer}
use Rattle.dcsctp_spec_lemmas.specs.spec.queues.Tracker.{TrackerState, after_packet_end, is_acknowledgement_due, tracker_after_sack, delay_over}
use Rattle.dcsctp_spec_lemmas.specs.spec.endpoint.Endpoint.{Endpoint, Core, closed, cookie_wait, cookie_echoed, open_in, established, shutdown_pending, shutdown_sent, shutdown_received, shutdown_ack_sent, held_by_core}
use Rattle.dcsctp_spec_lemmas.specs.spec.endpoint.Following.{next_chunk}
use Rattle.dcsctp_spec_lemmas.specs.spec.endpoint.Outcome.{Outcome, still, quiet, sends, fits, to_peer, behind, then_outcome}
use Rattle.dcsctp_spec_lemmas.specs.spec.association.Effect.{Effect, emission_effects}
use Rattle.dcsctp_spec_lemmas.specs.spec.association.Choices.{Choices, plain_contents}
use Rattle.dcsctp_spec_lemmas.specs.spec.association.FlushChanges.{further_packets, flush}
use Rattle.dcsctp_spec_lemmas.specs.spec.association.Acts.{flushes, sent_then_flushed, flush_change, plain_change}
use Rattle.dcsctp_spec_lemmas.specs.spec.association.Controlled.{Observation, observations_of_events, observations_of_effects, IsControlled, IsControlledAct}
use Rattle.dcsctp_spec_lemmas.specs.spec.endpoint.FlushOutcomes.{own_sack, Answer, filled_draft, draft_to, flush_of, room_of_draft, where_fits, FlushAnswers, packets_allowed}
use Rattle.dcsctp_spec_lemmas.specs.spec.endpoint.TransferMoves.{lost_all}
use Rattle.dcsctp_spec_lemmas.specs.spec.endpoint.HeartbeatOutcomes.{error_counted}
use Rattle.dcsctp_spec_lemmas.specs.spec.queues.OwnResets.{prepared_all, prepare_all_events}
use Rattle.dcsctp_spec_lemmas.proofs.SendEventLemmas.{told_prepared}
use Rattle.dcsctp_spec_lemmas.specs.spec.endpoint.MessageOutcomes.{sending_refusal, lifecycle_name, MessageRefusal, refusal_events, Sending, queue_unless_refused, queue_one, queue_all, takes_any, SendAnswers, flush_if_queued, SendTurn}
use Rattle.dcsctp_spec_lemmas.specs.spec.endpoint.PreparedResets.{ResetRefusal, reset_refusal, endpoint_with_queue, PreparesResets, PreparesUnlessRefused, OwnResetsTurn}
use Rattle.dcsctp_spec_lemmas.specs.types.declared.arrivals.SkippedTo.{SkippedTo}
use Rattle.dcsctp_spec_lemmas.specs.spec.queues.Arrivals.{Arrival}
use Rattle.dcsctp_spec_lemmas.specs.spec.endpoint.DataOutcomes.{HandlesPayload, with_transfer, endpoint_with_tracker, flush_to_peer, AnswersTo, FlushTurn, no_user_data_text, no_user_data_outcome, not_connected_text, ReceiveTurn, DataTurn, ForwardTurn, acknowledging, AnswersPacketIfDue, AcknowledgesPacket, taken_to, TakesFirstReady, TakeLeft, TakeTurn, delay_outcome, LossTurn}
use Rattle.dcsctp_spec_lemmas.proofs.ControlHandshake.{no_choices, ControlledAt}
use Rattle.dcsctp_spec_lemmas.proofs.FlushKeeps.{IsPeerTag, all_chunks, begun_by, filling_of, flush_effects, IsBegun, flush_is, first_begins, Rebuilds, rebuilds_open, rebuilds_echoed, FlushesTo, flush_controlled, further_then, further_notes_then, told_signs, signs_append}
use Rattle.dcsctp_spec_lemmas.specs.spec.endpoint.BegunResets.{BegunReset, request_contents, begun_effects, held_begun}

-- ---- what a turn of data chooses

-- these packets, and a flush that gets these answers
abbrev pub chosen : Endpoint → List (List Plain) → List Answer → Choices
chosen e packets answers = record (no_choices e false) { is_acknowledged = false; plain = packets; filling = filling_of answers }

-- It is such a turn.
abbrev pub FlushedAt : Endpoint → Core → Outcome → Type 0
FlushedAt e core o = (packets : List (List Plain)) × (answers : List Answer) × IsControlled e o (flush_change core (chosen e packets answers))

pub flushed_act : (e : Endpoint) (o : Outcome) → FlushedAt e e.core o → IsControlledAct e flushes o
flushed_act e o h = (chosen e h.0 h.1, h.2)

-- A chunk that speaks of no association may be followed by a flush.
pub plain_flushes : (e : Endpoint) (core : Core) (packets : List (List Plain)) (answers : List Answer) → flush_change core (chosen e packets answers) ≡ plain_change core false (chosen e packets answers)
plain_flushes e closed packets answers = refl
plain_flushes e (cookie_wait my) packets answers = refl
plain_flushes e (cookie_echoed my held cookie) packets answers = refl
plain_flushes e (open_in established my held) packets answers = refl
plain_flushes e (open_in shutdown_pending my held) packets answers = refl
plain_flushes e (open_in shutdown_sent my held) packets answers = refl
plain_flushes e (open_in shutdown_received my held) packets answers = refl
plain_flushes e (open_in shutdown_ack_sent my held) packets answers = refl

pub flushed_chunk : (e : Endpoint) (core : Core) (tag : ℕ) (chunk : Plain) (o : Outcome) → FlushedAt e core o → ControlledAt e core tag (plain chunk) o
flushed_chunk e core tag chunk o h = (flush_change core (chosen e h.0 h.1), (chosen e h.0 h.1, tt, plain_flushes e core h.0 h.1), h.2)

-- ---- a turn without a flush

-- nothing is seen of it but these events, which are no signs
pub quiet_at : (e after : Endpoint) (events : List (Event Emission)) (core : Core) → after.core ≡ core → SameOptions e.options after.options → observations_of_events events ≡ []
    → FlushedAt e core (quiet after [] events)
quiet_at e after events closed is same none = ([], [], record { core = is; options = same; observations = none; effects = refl; following = refl })
quiet_at e after events (cookie_wait my) is same none = ([], [], record { core = is; options = same; observations = none; effects = refl; following = refl })
quiet_at e after events (cookie_echoed my held cookie) is same none = ([], [], record { core = is; options = same; observations = none; effects = refl; following = refl })
quiet_at e after events (open_in phase my held) is same none = ([], [], record { core = is; options = same; observations = none; effects = refl; following = refl })

pub still_at : (e after : Endpoint) (core : Core) → after.core ≡ core → SameOptions e.options after.options → FlushedAt e core (still after)
still_at e after core is same = quiet_at e after [] core is same refl

pub flushed_as : (e : Endpoint) (core : Core) (o p : Outcome) → o ≡ p → FlushedAt e core p → FlushedAt e core o
flushed_as e core o p is h = subst (FlushedAt e core) (sym is) h

-- ---- packets, and then a flush

sent_change : (e base : Endpoint) (rebuilt : Held → Core) (held : Held) (events : List (Event Emission)) (packets : List (List Plain)) (answers : List Answer) → Rebuilds rebuilt held
    → base.core ≡ rebuilt held → SameOptions e.options base.options → IsPeerTag (rebuilt held) held.peer.tag → FlushAnswers base (draft_to held) answers
    → observations_of_events events ≡ observations_of_effects (further_packets held.peer.tag packets)
    → IsControlled e (behind [] events (flush_of base (draft_to held) answers))
    (record { core = rebuilt (sent_then_flushed held (chosen e packets answers)).held; effects = (sent_then_flushed held (chosen e packets answers)).effects; following = next_chunk })
sent_change e base rebuilt held events packets answers builds is same peer h told =
    let tag : ℕ = held.peer.tag in
    flush_controlled e base [] events (draft_to held) answers rebuilt held (further_packets tag packets) [] builds is same
    (subst (λ (core : Core). IsPeerTag core tag) (sym is) peer) h told (further_then tag packets (flush_effects tag [] answers))
    (further_notes_then tag packets (flush_effects tag [] answers))

pub sent_at : (e base : Endpoint) (core : Core) (held : Held) (events : List (Event Emission)) (packets : List (List Plain)) (answers : List Answer)
    → held_by_core core ≡ Some held → base.core ≡ core → SameOptions e.options base.options → FlushAnswers base (draft_to held) answers
    → observations_of_events events ≡ observations_of_effects (further_packets held.peer.tag packets)
    → FlushedAt e core (behind [] events (flush_of base (draft_to held) answers))
sent_at e base closed held events packets answers holds is same h told = absurd (cc)
sent_at e base (cookie_wait my) held events packets answers holds is same h told = absurd (cc)
sent_at e base (cookie_echoed my own cookie) held events packets answers holds is same h told =
    let here : own ≡ held = cc in
    subst (λ (x : Held). FlushAnswers base (draft_to x) answers → observations_of_events events ≡ observations_of_effects (further_packets x.peer.tag packets)
    → FlushedAt e (cookie_echoed my own cookie) (behind [] events (flush_of base (draft_to x) answers))) here
    (λ a t. (packets, answers, sent_change e base (λ (x : Held). cookie_echoed my x cookie) own events packets answers (rebuilds_echoed my cookie own) is same refl a t)) h told
sent_at e base (open_in phase my own) held events packets answers holds is same h told =
    let here : own ≡ held = cc in
    subst (λ (x : Held). FlushAnswers base (draft_to x) answers → observations_of_events events ≡ observations_of_effects (further_packets x.peer.tag packets)
    → FlushedAt e (open_in phase my own) (behind [] events (flush_of base (draft_to x) answers))) here
    (λ a t. (packets, answers, sent_change e base (λ (x : Held). open_in phase my x) own events packets answers (rebuilds_open phase my own) is same refl a t)) h told

-- a flush by itself, where a peer is held
flush_at : (e base : Endpoint) (core : Core) (peer : Option Held) (answers : List Answer) → held_by_core core ≡ peer → base.core ≡ core → SameOptions e.options base.options → AnswersTo base peer answers
    → FlushedAt e core (flush_to_peer base peer answers)
flush_at e base core None answers holds is same h = still_at e base core is same
flush_at e base core (Some held) answers holds is same h = sent_at e base core held [] [] answers holds is same h refl

pub flush_turn_at : (e : Endpoint) (o : Outcome) → FlushTurn e o → FlushedAt e e.core o
flush_turn_at e o turn = flushed_as e e.core o (flush_to_peer e (held_by_core e.core) turn.0) turn.2 (flush_at e e e.core (held_by_core e.core) turn.0 refl refl refl turn.1)

-- ---- DATA and FORWARD-TSN

abbrev reported : Endpoint → Held → ℕ → Bool → Outcome
reported e held tsn b =
    behind [] (error ProtocolViolation no_user_data_text ∷ [])
    (cond b (sends e [] [] (to_peer held (plain (error_of (no_user_data tsn ∷ []))))) (quiet e [] []))

reported_at : (b : Bool) (e : Endpoint) (core : Core) (held : Held) (tsn : ℕ) → held_by_core core ≡ Some held → e.core ≡ core → FlushedAt e core (reported e held tsn b)
reported_at b e closed held tsn holds is = absurd (cc)
reported_at b e (cookie_wait my) held tsn holds is = absurd (cc)
reported_at true e (cookie_echoed my own cookie) held tsn holds is =
    let here : own ≡ held = cc in
    ((error_of (no_user_data tsn ∷ []) ∷ []) ∷ [], [], record { core = is; options = refl; observations = ap (λ (x : Held). observations_of_events (reported e x tsn true).events) (sym here); effects = refl; following = refl })
reported_at true e (open_in phase my own) held tsn holds is =
    let here : own ≡ held = cc in
    ((error_of (no_user_data tsn ∷ []) ∷ []) ∷ [], [], record { core = is; options = refl; observations = ap (λ (x : Held). observations_of_events (reported e x tsn true).events) (sym here); effects = refl; following = refl })
reported_at false e (cookie_echoed my own cookie) held tsn holds is = ([], [], record { core = is; options = refl; observations = refl; effects = refl; following = refl })
reported_at false e (open_in phase my own) held tsn holds is = ([], [], record { core = is; options = refl; observations = refl; effects = refl; following = refl })

no_data_at : (e : Endpoint) (core : Core) (peer : Option Held) (tsn : ℕ) → held_by_core core ≡ peer → e.core ≡ core → FlushedAt e core (no_user_data_outcome e peer tsn)
no_data_at e core None tsn holds is = quiet_at e e (error ProtocolViolation no_user_data_text ∷ []) core is refl refl
no_data_at e core (Some held) tsn holds is = reported_at (fits e (to_peer held (plain (error_of (no_user_data tsn ∷ []))))) e core held tsn holds is

receive_at : (e : Endpoint) (transfer : Option Transfer) (arrived : Arrival) (o : Outcome) → ReceiveTurn e transfer arrived o → FlushedAt e e.core o
receive_at e None arrived o turn = flushed_as e e.core o (quiet e [] (error NotConnected not_connected_text ∷ [])) turn (quiet_at e e (error NotConnected not_connected_text ∷ []) e.core refl refl refl)
receive_at e (Some transfer) arrived o turn = flushed_as e e.core o (still (with_transfer e turn.0)) turn.2 (still_at e (with_transfer e turn.0) e.core refl refl)

data_where_at : (e : Endpoint) (arrived : Arrival) (payload : List ℕ) (o : Outcome) → HandlesPayload e arrived payload o → FlushedAt e e.core o
data_where_at e arrived [] o turn = flushed_as e e.core o (no_user_data_outcome e (held_by_core e.core) arrived.tsn) turn (no_data_at e e.core (held_by_core e.core) arrived.tsn refl refl)
data_where_at e arrived (byte ∷ bytes) o turn = receive_at e e.queues.transfer arrived o turn

pub data_at : (e : Endpoint) (arrived : Arrival) (o : Outcome) → DataTurn e arrived o → FlushedAt e e.core o
data_at e arrived o turn = data_where_at e arrived arrived.chunk.payload o turn

pub forward_at : (e : Endpoint) (transfer : Option Transfer) (tsn : ℕ) (entries : List SkippedTo) (o : Outcome) → ForwardTurn e transfer tsn entries o → FlushedAt e e.core o
forward_at e None tsn entries o turn = flushed_as e e.core o (still e) turn (still_at e e e.core refl refl)
forward_at e (Some transfer) tsn entries o turn = flushed_as e e.core o (still (with_transfer e turn.0)) turn.2 (still_at e (with_transfer e turn.0) e.core refl refl)

-- ---- the end of a packet

-- what the flush chooses: the chunks in front go with what acknowledges
abbrev fronted : List Plain → List Answer → List Answer
fronted front [] = []
fronted front (answer ∷ answers) = record answer { acknowledgements = front ++ answer.acknowledgements } ∷ answers

-- three lists of contents, with the first two joined
shifted : (front acknowledgements : List Plain) (rest : List Content) → plain_contents front ++ (plain_contents acknowledgements ++ rest) ≡ plain_contents (front ++ acknowledgements) ++ rest
shifted front acknowledgements rest =
    sym (append_assoc (plain_contents front) (plain_contents acknowledgements) rest)
    ∙ ap (λ (contents : List Content). contents ++ rest) (sym (map-append plain front acknowledgements))

same_packets : (tag : ℕ) (front : List Plain) (answers : List Answer) → flush_effects tag (plain_contents front) answers ≡ flush_effects tag [] (fronted front answers)
same_packets tag front [] = refl
same_packets tag front (answer ∷ answers) =
    ap (λ (contents : List Content). begun_effects answer.begun ++ (emission_effects tag contents ++ further_packets tag (map all_chunks answers)))
    (shifted front answer.acknowledgements (request_contents answer.begun ++ plain_contents answer.data_chunks))

same_begun : (front : List Plain) (answers : List Answer) → begun_by (fronted front answers) ≡ begun_by answers
same_begun front [] = refl
same_begun front (answer ∷ answers) = refl

-- the flush in the change is that of the turn
same_flush : (tag : ℕ) (held : Held) (front : List Plain) (answers : List Answer) → IsBegun (begun_by answers) held
    → flush tag held (plain_contents front) (filling_of answers) ≡ flush tag held [] (filling_of (fronted front answers))
same_flush tag held front answers begun =
    flush_is tag held (plain_contents front) answers begun
    ∙ ap (λ (effects : List Effect). record { held = held_begun (begun_by answers) held; effects = effects }) (same_packets tag front answers)
    ∙ ap (λ (b : Option BegunReset). record { held = held_begun b held; effects = flush_effects tag [] (fronted front answers) }) (sym (same_begun front answers))
    ∙ sym (flush_is tag held [] (fronted front answers) (subst (λ (b : Option BegunReset). IsBegun b held) (sym (same_begun front answers)) begun))

front_controlled : (e base : Endpoint) (rebuilt : Held → Core) (held : Held) (front : List Plain) (answers : List Answer) → Rebuilds rebuilt held
    → base.core ≡ rebuilt held → SameOptions e.options base.options → IsPeerTag (rebuilt held) held.peer.tag → FlushAnswers base (filled_draft (draft_to held) (plain_contents front)) answers
    → IsControlled e (flush_of base (filled_draft (draft_to held) (plain_contents front)) answers)
    (record { core = rebuilt (sent_then_flushed held (chosen e [] (fronted front answers))).held; effects = (sent_then_flushed held (chosen e [] (fronted front answers))).effects; following = next_chunk })
front_controlled e base rebuilt held front answers builds is same peer h =
    let tag : ℕ = held.peer.tag in
    let draft : Emission = filled_draft (draft_to held) (plain_contents front) in
    let o : Outcome = flush_of base draft answers in
    subst (FlushesTo e o rebuilt [])
    (same_flush tag held front answers (first_begins (packets_allowed base.options.max_burst base.core) base held draft answers (ap held_by_core is ∙ builds.holds) h))
    (flush_controlled e base [] [] draft answers rebuilt held [] [] builds is same (subst (λ (core : Core). IsPeerTag core tag) (sym is) peer) h refl refl refl)

front_at : (e base : Endpoint) (core : Core) (held : Held) (front : List Plain) (answers : List Answer) → held_by_core core ≡ Some held → base.core ≡ core → SameOptions e.options base.options
    → FlushAnswers base (filled_draft (draft_to held) (plain_contents front)) answers → FlushedAt e core (flush_of base (filled_draft (draft_to held) (plain_contents front)) answers)
front_at e base closed held front answers holds is same h = absurd (cc)
front_at e base (cookie_wait my) held front answers holds is same h = absurd (cc)
front_at e base (cookie_echoed my own cookie) held front answers holds is same h =
    let here : own ≡ held = cc in
    subst (λ (x : Held). FlushAnswers base (filled_draft (draft_to x) (plain_contents front)) answers
    → FlushedAt e (cookie_echoed my own cookie) (flush_of base (filled_draft (draft_to x) (plain_contents front)) answers)) here
    (λ a. ([], fronted front answers, front_controlled e base (λ (x : Held). cookie_echoed my x cookie) own front answers (rebuilds_echoed my cookie own) is same refl a)) h
front_at e base (open_in phase my own) held front answers holds is same h =
    let here : own ≡ held = cc in
    subst (λ (x : Held). FlushAnswers base (filled_draft (draft_to x) (plain_contents front)) answers
    → FlushedAt e (open_in phase my own) (flush_of base (filled_draft (draft_to x) (plain_contents front)) answers)) here
    (λ a. ([], fronted front answers, front_controlled e base (λ (x : Held). open_in phase my x) own front answers (rebuilds_open phase my own) is same refl a)) h

end_where_at : (b : Bool) (e : Endpoint) (core : Core) (peer : Option Held) (transfer : Transfer) (tracker : TrackerState) (o : Outcome) → held_by_core core ≡ peer → e.core ≡ core
    → AnswersPacketIfDue b e peer transfer tracker o → FlushedAt e core o
end_where_at true e core (Some held) transfer tracker o holds is turn =
    flushed_as e core o (flush_of (endpoint_with_tracker e transfer (tracker_after_sack tracker)) (acknowledging e held (own_sack (room_of_draft e (draft_to held)) (record transfer { tracker = tracker }))) turn.answers) turn.is
    (front_at e (endpoint_with_tracker e transfer (tracker_after_sack tracker)) core held (where_fits (room_of_draft e (draft_to held)) (own_sack (room_of_draft e (draft_to held)) (record transfer { tracker = tracker }))) turn.answers holds is refl turn.allowed)
end_where_at true e core None transfer tracker o holds is turn = flushed_as e core o (still (endpoint_with_tracker e transfer tracker)) turn (still_at e (endpoint_with_tracker e transfer tracker) core is refl)
end_where_at false e core peer transfer tracker o holds is turn = flushed_as e core o (still (endpoint_with_tracker e transfer tracker)) turn (still_at e (endpoint_with_tracker e transfer tracker) core is refl)

pub end_at : (e : Endpoint) (transfer : Option Transfer) (o : Outcome) → AcknowledgesPacket e transfer o → FlushedAt e e.core o
end_at e None o turn = flushed_as e e.core o (still e) turn (still_at e e e.core refl refl)
end_at e (Some transfer) o turn =
    let tracker = after_packet_end e.moment transfer.tracker in end_where_at (is_acknowledgement_due tracker) e e.core (held_by_core e.core) transfer tracker o refl refl turn

-- ---- what the user takes and sends

take_where_at : (e : Endpoint) (transfer : Transfer) (messages : List MessageContent) (o : Outcome) → TakesFirstReady e transfer messages o → FlushedAt e e.core o
take_where_at e transfer [] o turn = flushed_as e e.core o (still e) turn (still_at e e e.core refl refl)
take_where_at e transfer (message ∷ messages) o turn =
    let left = with_transfer e (taken_to e.options e.moment messages transfer) in flushed_as e e.core o (still left) turn (still_at e left e.core refl refl)

take_left_at : (e : Endpoint) (messages : List MessageContent) (o : Outcome) → TakeLeft e messages o → FlushedAt e e.core o
take_left_at e [] o turn = flushed_as e e.core o (still e) turn (still_at e e e.core refl refl)
take_left_at e (message ∷ messages) o turn =
    let taken : Endpoint = record e { left = messages } in flushed_as e e.core o (still taken) turn (still_at e taken e.core refl refl)

pub take_at : (e : Endpoint) (transfer : Option Transfer) (o : Outcome) → TakeTurn e transfer o → FlushedAt e e.core o
take_at e None o turn = take_left_at e e.left o turn
take_at e (Some transfer) o turn = take_where_at e transfer transfer.reassembly.incoming.ready o turn

-- what a list of messages leaves
record Queues (e : Endpoint) (o : Outcome) : Type 0 where
  core : o.after.core ≡ e.core
  options : o.after.options ≡ e.options
  words : o.words ≡ []
  effects : o.effects ≡ []
  observations : observations_of_events o.events ≡ []

refusal_signs : (refusal : MessageRefusal) (lifecycle : Option ℕ) → observations_of_events (refusal_events refusal lifecycle) ≡ []
refusal_signs refusal None = refl
refusal_signs refusal (Some id) = refl

queues_one : (e : Endpoint) (message : Sending) (refusal : Option MessageRefusal) → Queues e (queue_unless_refused e message refusal)
queues_one e message None = record { core = refl; options = refl; words = refl; effects = refl; observations = refl }
queues_one e message (Some refusal) = record { core = refl; options = refl; words = refl; effects = refl; observations = refusal_signs refusal (lifecycle_name message) }

queues_all : (e : Endpoint) (messages : List Sending) → Queues e (queue_all e messages)
queues_all e [] = record { core = refl; options = refl; words = refl; effects = refl; observations = refl }
queues_all e (message ∷ messages) =
    let first : Outcome = queue_one e message in
    let one : Queues e first = queues_one e message (sending_refusal e message) in
    let rest : Queues first.after (queue_all first.after messages) = queues_all first.after messages in
    record {
      core = rest.core ∙ one.core;
      options = rest.options ∙ one.options;
      words = ap (λ (ws : List Word). ws ++ (queue_all first.after messages).words) one.words ∙ rest.words;
      effects = ap (λ (es : List Effect). es ++ (queue_all first.after messages).effects) one.effects ∙ rest.effects;
      observations = signs_append first.events (queue_all first.after messages).events
          ∙ ap (λ (ss : List Observation). ss ++ observations_of_events (queue_all first.after messages).events) one.observations ∙ rest.observations;
    }

-- what is sent after the events of the messages
behind_messages : (o p : Outcome) → o.words ≡ [] → o.effects ≡ [] → then_outcome o p ≡ behind [] o.events p
behind_messages o p words effects =
    ap (λ (ws : List Word). record (then_outcome o p) { words = ws ++ p.words }) words
    ∙ ap (λ (es : List Effect). record (behind [] o.events p) { effects = es ++ p.effects }) effects

quiet_then : (e after : Endpoint) (events : List (Event Emission)) → behind [] events (still after) ≡ quiet after [] events
quiet_then e after events = ap (quiet after []) (append-nil events)

sends_to : (e base : Endpoint) (core : Core) (peer : Option Held) (events : List (Event Emission)) (answers : List Answer) → held_by_core core ≡ peer → base.core ≡ core → SameOptions e.options base.options
    → observations_of_events events ≡ [] → AnswersTo base peer answers → FlushedAt e core (behind [] events (flush_to_peer base peer answers))
sends_to e base core None events answers holds is same none h = flushed_as e core _ (quiet base [] events) (quiet_then e base events) (quiet_at e base events core is same none)
sends_to e base core (Some held) events answers holds is same none h = sent_at e base core held events [] answers holds is same h none

sends_where : (b : Bool) (e base : Endpoint) (events : List (Event Emission)) (answers : List Answer) → base.core ≡ e.core → SameOptions e.options base.options → observations_of_events events ≡ []
    → SendAnswers b base answers → FlushedAt e e.core (behind [] events (flush_if_queued b base answers))
sends_where false e base events answers is same none h = flushed_as e e.core _ (quiet base [] events) (quiet_then e base events) (quiet_at e base events e.core is same none)
sends_where true e base events answers is same none h = sends_to e base e.core (held_by_core base.core) events answers (ap held_by_core (sym is)) is same none h

pub send_at : (e : Endpoint) (messages : List Sending) (o : Outcome) → SendTurn e messages o → FlushedAt e e.core o
send_at e messages o turn =
    let queued : Outcome = queue_all e messages in
    let q : Queues e queued = queues_all e messages in
    flushed_as e e.core o (behind [] queued.events (flush_if_queued (takes_any e messages) queued.after turn.0))
    (turn.2 ∙ behind_messages queued (flush_if_queued (takes_any e messages) queued.after turn.0) q.words q.effects)
    (sends_where (takes_any e messages) e queued.after queued.events turn.0 q.core (subst (SameOptions e.options) (sym q.options) refl) q.observations turn.1)

-- ---- own streams that the user resets

prepares_at : (e : Endpoint) (ids : List ℕ) (o : Outcome) → PreparesResets e ids o → FlushedAt e e.core o
prepares_at e ids o turn =
    let base : Endpoint = endpoint_with_queue e (prepared_all ids e.queues.queue) in
    let peer : Option Held = held_by_core e.core in
    let events : List (Event Emission) = prepare_all_events ids e.queues.queue in
    let told = told_prepared ids e.queues.queue in
    flushed_as e e.core o (behind [] events (flush_to_peer base peer turn.flushes.0)) (turn.is ∙ ap (behind [] events) turn.flushes.2)
    (sends_to e base e.core peer events turn.flushes.0 refl refl refl (ap observations_of_events told.is ∙ told_signs told.told) turn.flushes.1)

resets_where_at : (refusal : Option ResetRefusal) (e : Endpoint) (ids : List ℕ) (o : Outcome) → PreparesUnlessRefused refusal e ids o → FlushedAt e e.core o
resets_where_at None e ids o turn = prepares_at e ids o turn
resets_where_at (Some refusal) e ids o turn = flushed_as e e.core o (still e) turn (still_at e e e.core refl refl)

pub resets_at : (e : Endpoint) (ids : List ℕ) (o : Outcome) → OwnResetsTurn e ids o → FlushedAt e e.core o
resets_at e ids o turn = resets_where_at (reset_refusal e) e ids o turn

-- ---- timers

pub delay_at : (e : Endpoint) (transfer : Option Transfer) → FlushedAt e e.core (delay_outcome e transfer)
delay_at e None = still_at e e e.core refl refl
delay_at e (Some transfer) = still_at e (endpoint_with_tracker e transfer (delay_over transfer.tracker)) e.core refl refl

pub loss_at : (e : Endpoint) (transfer : Option Transfer) (o : Outcome) → LossTurn e transfer o → FlushedAt e e.core o
loss_at e None o turn = flushed_as e e.core o (still e) turn (still_at e e e.core refl refl)
loss_at e (Some transfer) o turn =
    let left : Transfer = lost_all e.moment transfer in
    flushed_as e e.core o (still (record (with_transfer e left) { error_count = error_counted e.options.max_retransmissions e.error_count })) turn
    (still_at e (record (with_transfer e left) { error_count = error_counted e.options.max_retransmissions e.error_count }) e.core refl refl)

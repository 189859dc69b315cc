-- A flush keeps the window, since each of its packets does.
use Rattle.std.proofs.Common.{◌≡◌, inl, inr, ℕ, ◌-◌, ◌≤◌, max, Bool, true, false, Option, None, Some, List, [], ◌∷◌, ◌++◌, map, refl, sym, ◌∙◌, ap, subst, arith}
use Rattle.dcsctp_spec_lemmas.specs.types.Settings.{packet_size_limit}
use Rattle.dcsctp_spec_lemmas.specs.types.Sizes.{common_header_size}
use Rattle.dcsctp_spec_lemmas.specs.spec.Packet.{Plain, Content, Emission}
use Rattle.dcsctp_spec_lemmas.specs.spec.association.Choices.{plain_contents}
use Rattle.dcsctp_spec_lemmas.specs.spec.queues.Abandoning.{GivesUpFirst}
use Rattle.dcsctp_spec_lemmas.specs.spec.queues.Filling.{Stage}
use Rattle.dcsctp_spec_lemmas.specs.spec.queues.Retransmission.{RetransmissionState, chunk_bytes_in_flight}
use Rattle.dcsctp_spec_lemmas.specs.spec.queues.SendQueue.{SendQueueState}
use Rattle.dcsctp_spec_lemmas.specs.spec.queues.Transfer.{Transfer, may_give, is_idle}
use Rattle.dcsctp_spec_lemmas.specs.spec.endpoint.BegunResets.{BegunReset, streams_within, request_contents, queue_requesting, retransmission_begun}
use Rattle.dcsctp_spec_lemmas.specs.spec.endpoint.Endpoint.{Endpoint}
use Rattle.dcsctp_spec_lemmas.specs.spec.endpoint.Event.{Event}
use Rattle.dcsctp_spec_lemmas.specs.spec.endpoint.FlushOutcomes.{Ask, Answer, answer_contents, filled_draft, goes_out, filling_event, asked_outcome, next_draft, flush_of, room_of_draft, stage_of, GivesUpThenForwards, FillsIfAllowed, Gives, GivesUnlessIdle, IsAnswerOfQueues, IsFlushAnswer, AreFlushAnswers, at_limit, at_empty, after_packet, forward_made}
use Rattle.dcsctp_spec_lemmas.proofs.FlushKeeps.{asked_keeps}
use Rattle.dcsctp_spec_laws.specs.WindowLaws.{in_flight_of, most_of, FlushesKeepWindow}
use Rattle.dcsctp_spec_laws.proofs.WindowLemmas.{Keeps, keeps_same, keeps_given_up, keeps_steps, keeps_packet}

-- ---- one packet

gives_up_keeps : (b : Bool) (now : ℕ) (transfer : Transfer) (room : ℕ) (old new : Stage) (next : Option ℕ) (chunks : List Plain)
    → GivesUpThenForwards b now transfer room old new (forward_made next chunks) → Keeps old new
gives_up_keeps false now transfer room old new next chunks up = keeps_same old new up.0
gives_up_keeps true now transfer room old new next chunks up =
    keeps_steps (GivesUpFirst now) (λ from to step. keeps_given_up now step.place from to step.gives_up) old new up.0.steps

fills_keeps : (b : Bool) (now : ℕ) (old new : Stage) → FillsIfAllowed b now old new → Keeps old new
fills_keeps false now old new (inl same) = keeps_same old new same
fills_keeps false now old new (inr fills) = keeps_packet now old new fills
fills_keeps true now old new fills = keeps_packet now old new fills

-- The windows of a transfer layer stay, and no more is in flight than before or than a packet with that much room may lead to.
record KeepsBelow (room : ℕ) (old new : Option Transfer) : Type 0 where
  pub most : most_of new room ≡ most_of old room
  pub flight : in_flight_of new ≤ max (in_flight_of old) (most_of old room)

below_same : (room : ℕ) (old new : Option Transfer) → new ≡ old → KeepsBelow room old new
below_same room old new same = subst (λ (t : Option Transfer). KeepsBelow room old t) (sym same) (record { most = refl; flight = omega arith })

below_then : (room : ℕ) (a b c : Option Transfer) → KeepsBelow room a b → KeepsBelow room b c → KeepsBelow room a c
below_then room a b c first later =
    record { most = later.most ∙ first.most; flight = omega (arith, first.most, first.flight, later.flight) }

-- A request that is begun is none of the windows.
begun_same : (begun : Option BegunReset) (queue : RetransmissionState)
    → (chunk_bytes_in_flight (retransmission_begun begun queue) ≡ chunk_bytes_in_flight queue)
    × ((retransmission_begun begun queue).congestion.cwnd ≡ queue.congestion.cwnd)
    × ((retransmission_begun begun queue).peer_window ≡ queue.peer_window)
begun_same None queue = (refl, refl, refl)
begun_same (Some begun) queue = (refl, refl, refl)

gives_keeps : (ask : Ask) (e : Endpoint) (draft : Emission) (transfer : Transfer) (answer : Answer) → Gives ask e draft transfer answer
    → KeepsBelow (packet_size_limit e.options - common_header_size) (Some transfer) answer.after.queues.transfer
gives_keeps ask e draft transfer answer gives =
    let limit : ℕ = packet_size_limit e.options - common_header_size in
    let room : ℕ = room_of_draft e (filled_draft draft (plain_contents answer.acknowledgements ++ request_contents answer.begun)) in
    let within : room ≤ limit = omega arith in
    let up = gives_up_keeps _ e.moment transfer _
    (stage_of e.queues.queue transfer.retransmission [] 0) gives.gave_up gives.next gives.forwards gives.gives_up in
    let left : SendQueueState =
    queue_requesting (streams_within (room_of_draft e (filled_draft draft (plain_contents answer.acknowledgements)))) answer.begun gives.gave_up.waiting in
    let begun : RetransmissionState = retransmission_begun answer.begun gives.gave_up.queue in
    let same = begun_same answer.begun gives.gave_up.queue in
    let filled_up = fills_keeps (may_give left begun) e.moment (stage_of left begun gives.gave_up.told room) gives.sent gives.fills in
    subst (λ (t : Option Transfer). KeepsBelow limit (Some transfer) t) (sym (ap (λ below. below.transfer) gives.below))
    (record {
      most = omega (arith, up.cwnd, up.peer, same.1, same.2, filled_up.cwnd, filled_up.peer);
      flight = omega (arith, within, up.cwnd, up.peer, up.flight, same.0, same.1, same.2, filled_up.flight);
    })

where_keeps : (b : Bool) (ask : Ask) (e : Endpoint) (draft : Emission) (transfer : Transfer) (answer : Answer) → e.queues.transfer ≡ Some transfer
    → GivesUnlessIdle b ask e draft transfer answer
    → KeepsBelow (packet_size_limit e.options - common_header_size) e.queues.transfer answer.after.queues.transfer
where_keeps true ask e draft transfer answer is nothing =
    below_same (packet_size_limit e.options - common_header_size) e.queues.transfer answer.after.queues.transfer
    (ap (λ (a : Answer). a.after.queues.transfer) nothing)
where_keeps false ask e draft transfer answer is gives =
    subst (λ (t : Option Transfer). KeepsBelow (packet_size_limit e.options - common_header_size) t answer.after.queues.transfer) (sym is)
    (gives_keeps ask e draft transfer answer gives)

answered_keeps : (ask : Ask) (e : Endpoint) (draft : Emission) (answer : Answer) (transfer : Option Transfer) → e.queues.transfer ≡ transfer
    → IsAnswerOfQueues ask e draft answer transfer
    → KeepsBelow (packet_size_limit e.options - common_header_size) e.queues.transfer answer.after.queues.transfer
answered_keeps ask e draft answer None is nothing =
    below_same (packet_size_limit e.options - common_header_size) e.queues.transfer answer.after.queues.transfer
    (ap (λ (a : Answer). a.after.queues.transfer) nothing)
answered_keeps ask e draft answer (Some transfer) is gives = where_keeps (is_idle e.queues.queue transfer) ask e draft transfer answer is gives

goes_out_below : (e : Endpoint) (told : List (Event Emission)) (with_checksum : Bool) (tag : ℕ) (contents : List Content)
    → (goes_out e told with_checksum tag contents).after.queues.transfer ≡ e.queues.transfer
goes_out_below e told with_checksum tag [] = refl
goes_out_below e told with_checksum tag (content ∷ contents) = refl

asked_keeps_window : (ask : Ask) (e : Endpoint) (draft : Emission) (answer : Answer) → IsFlushAnswer ask e draft answer
    → KeepsBelow (packet_size_limit e.options - common_header_size) e.queues.transfer (asked_outcome e draft answer).after.queues.transfer
asked_keeps_window ask e draft answer h =
    subst (λ (t : Option Transfer). KeepsBelow (packet_size_limit e.options - common_header_size) e.queues.transfer t)
    (sym
    (goes_out_below answer.after (map filling_event answer.told) draft.with_checksum draft.packet.tag (filled_draft draft (answer_contents answer)).packet.contents))
    (answered_keeps ask e draft answer e.queues.transfer refl h.by_transfer)

-- ---- a flush

answers_keep : (ask : Ask) (packets : ℕ) (e : Endpoint) (draft : Emission) (answers : List Answer) → AreFlushAnswers ask packets e draft answers
    → KeepsBelow (packet_size_limit e.options - common_header_size) e.queues.transfer (flush_of e draft answers).after.queues.transfer
answers_keep ask packets e draft answers (at_limit ask' e' draft') =
    below_same
    (packet_size_limit e.options - common_header_size) e.queues.transfer e.queues.transfer refl
answers_keep ask packets e draft answers (at_empty ask' more e' draft' answer h empty) = asked_keeps_window ask e draft answer h
answers_keep ask packets e draft answers (after_packet ask' more e' draft' answer others h some rest) =
    let next : Endpoint = (asked_outcome e draft answer).after in
    let room = ap packet_size_limit (asked_keeps ask e draft answer h).options in
    let later = answers_keep _ more next (next_draft e.core draft) others rest in
    below_then (packet_size_limit e.options - common_header_size) e.queues.transfer next.queues.transfer
    (flush_of next (next_draft e.core draft) others).after.queues.transfer
    (asked_keeps_window ask e draft answer h)
    (subst
    (λ n. KeepsBelow (n - common_header_size) next.queues.transfer (flush_of next (next_draft e.core draft) others).after.queues.transfer) room later)

pub flushes_keep_window : FlushesKeepWindow
flushes_keep_window e draft answers h = (answers_keep _ _ e draft answers h).flight

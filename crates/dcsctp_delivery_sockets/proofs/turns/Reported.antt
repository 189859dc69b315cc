-- What the packets of a flush report of what was received: the cumulative TSN of the tracker.
use Rattle.std.proofs.Common.{◌≡◌, ℕ, Bool, true, false, Option, None, Some, List, [], ◌∷◌, ◌++◌, length, map, refl, sym, ◌∙◌, ap, subst, inl, inr}
use Rattle.std.specs.Prelude.{nat_le, if◌then◌else◌}
use Rattle.std.proofs.lemmas.List.{append-nil}
use Rattle.dcsctp_spec_lemmas.specs.wire.Content.{ChunkContent, data_chunk, init_chunk, init_ack_chunk, sack_chunk, heartbeat_chunk, heartbeat_ack_chunk, abort_chunk, shutdown_chunk, shutdown_ack_chunk, error_chunk, cookie_echo_chunk, cookie_ack_chunk, shutdown_complete_chunk, i_data_chunk, re_config_chunk, forward_tsn_chunk, i_forward_tsn_chunk, unknown_chunk}
use Rattle.dcsctp_spec_lemmas.specs.wire.Spelling.{chunk_bytes}
use Rattle.dcsctp_spec_lemmas.specs.spec.Packet.{Content, init, init_ack, cookie_echo, cookie_ack, re_config, abort, shutdown, shutdown_ack, shutdown_complete, Plain, plain, unknown, heartbeat, heartbeat_ack, unworked, plain_out, Emission}
use Rattle.dcsctp_spec_lemmas.specs.spec.association.Choices.{plain_contents}
use Rattle.dcsctp_spec_lemmas.specs.spec.endpoint.BegunResets.{BegunReset, request_contents}
use Rattle.dcsctp_spec_lemmas.specs.spec.endpoint.Endpoint.{Endpoint, Core, closed, cookie_wait, cookie_echoed, open_in}
use Rattle.dcsctp_spec_lemmas.specs.spec.endpoint.Event.{Event, sent, packets_of_events}
use Rattle.dcsctp_spec_lemmas.specs.spec.endpoint.FlushOutcomes.{FillingEvent, filling_event, Answer, answer_contents, filled_draft, goes_out, asked_outcome, next_draft, flush_of, FlushAnswers, Ask, first_ask, later_ask, AreFlushAnswers, at_limit, at_empty, after_packet, packets_allowed, IsFlushAnswer, IsAnswerOfQueues, Gives, GivesUnlessIdle, GivesUpThenForwards, ForwardsIfAbandoned, Acknowledges, wants_sack, room_of_draft, own_sack, where_fits, may_forward, forward_made}
use Rattle.dcsctp_spec_lemmas.specs.spec.queues.Chunks.{AreChunksOfTsns, chunk_said}
use Rattle.dcsctp_spec_lemmas.specs.spec.queues.Filling.{Stage}
use Rattle.dcsctp_spec_lemmas.specs.spec.queues.Items.{is_first_abandoned}
use Rattle.dcsctp_spec_lemmas.specs.spec.queues.Outstanding.{OutstandingState}
use Rattle.dcsctp_spec_lemmas.specs.spec.queues.Retransmission.{RetransmissionState}
use Rattle.dcsctp_spec_lemmas.specs.spec.queues.Sending.{Fragment}
use Rattle.dcsctp_spec_lemmas.specs.spec.queues.Skipping.{forward_chunk}
use Rattle.dcsctp_spec_lemmas.specs.spec.queues.Tracker.{TrackerState, cumulative_tsn}
use Rattle.dcsctp_spec_lemmas.specs.spec.queues.Transfer.{Transfer, is_idle}
use Rattle.dcsctp_theorem_sockets.proofs.Bursts.{packets_of_events-append, told_none}
use Rattle.dcsctp_delivery_sockets.specs.turns.Actions.{NoEnd, AreReports}
use Rattle.dcsctp_delivery_sockets.specs.turns.Reports.{ReportsSo, AllReportSo, ComesReported}
use Rattle.dcsctp_delivery_sockets.specs.turns.Tags.{AllTo, IsPeerTag}
use Rattle.dcsctp_delivery_sockets.proofs.turns.Addressed.{NoneEnds, flush_none}
use Rattle.dcsctp_delivery_sockets.proofs.turns.Tags.{flushes_to}

-- These packets report so.
abbrev PacketsReport : (ℕ → Type 0) → List Emission → Type 0
PacketsReport so [] = Unit {0}
PacketsReport so (emission ∷ emissions) = AllReportSo so emission.packet.contents × PacketsReport so emissions

module _ (so : ℕ → Type 0) where
  both_report : (contents others : List Content) → AllReportSo so contents → AllReportSo so others → AllReportSo so (contents ++ others)
  both_report [] others says says' = says'
  both_report (content ∷ contents) others says says' = (says.0, both_report contents others says.1 says')

  -- ---- chunks

  -- Data reports nothing,
  data_reports : (is_interleaved : Bool) (tsn : ℕ) (part : Fragment) → ReportsSo so (plain (unworked (chunk_said is_interleaved tsn part)))
  data_reports true tsn part = tt
  data_reports false tsn part = tt

  pub chunks_report : (outstanding : OutstandingState) (tsns : List ℕ) (chunks : List Plain) → AreChunksOfTsns outstanding tsns chunks → AllReportSo so (plain_contents chunks)
  chunks_report outstanding [] [] are = tt
  chunks_report outstanding [] (chunk ∷ chunks) are = absurd are
  chunks_report outstanding (tsn ∷ tsns) [] are = absurd are
  chunks_report outstanding (tsn ∷ tsns) (chunk ∷ chunks) are =
      (subst (λ (c : Plain). ReportsSo so (plain c)) (sym are.0.says) (data_reports outstanding.is_interleaved tsn are.0.item.fragment), chunks_report outstanding tsns chunks are.1)

  fitting_reports : (room : ℕ) (chunk : Plain) → ReportsSo so (plain chunk) → AllReportSo so (plain_contents (where_fits room chunk))
  fitting_reports room chunk says = go (nat_le (length (chunk_bytes (plain_out chunk))) room)
    where
      go : (b : Bool) → AllReportSo so (plain_contents (if b then chunk ∷ [] else []))
      go true = (says, tt)
      go false = tt

  -- a FORWARD-TSN doesn't,
  forward_reports : (is_interleaved : Bool) (tsn : ℕ) (entries : List ((ℕ × Bool) × ℕ)) → ReportsSo so (plain (unworked (forward_chunk is_interleaved tsn entries)))
  forward_reports true tsn entries = tt
  forward_reports false tsn entries = tt

  forwards_report : (made : Bool) (now : ℕ) (transfer : Transfer) (room : ℕ) (state : RetransmissionState) (next : Option ℕ) (chunks : List Plain) → ForwardsIfAbandoned made now transfer room state next chunks → AllReportSo so (plain_contents chunks)
  forwards_report false now transfer room state next chunks forwards = subst (λ (l : List Plain). AllReportSo so (plain_contents l)) (sym forwards.1) tt
  forwards_report true now transfer room state next chunks forwards =
      let (chunk, says, is) = forwards.1 in
      subst (λ (l : List Plain). AllReportSo so (plain_contents l)) (sym is)
      (fitting_reports room (unworked chunk) (subst (λ (c : ChunkContent). ReportsSo so (plain (unworked c))) (sym says.is) (forward_reports state.outstanding.is_interleaved _ says.entries)))

  gives_up_reports : (b : Bool) (now : ℕ) (transfer : Transfer) (room : ℕ) (old new : Stage) (next : Option ℕ) (chunks : List Plain) → GivesUpThenForwards b now transfer room old new (forward_made next chunks) → AllReportSo so (plain_contents chunks)
  gives_up_reports false now transfer room old new next chunks gives = subst (λ (l : List Plain). AllReportSo so (plain_contents l)) (sym gives.2) tt
  gives_up_reports true now transfer room old new next chunks gives = forwards_report (is_first_abandoned new.queue.outstanding.items) now transfer room new.queue next chunks gives.1

  -- nor does a request,
  request_reports : (begun : Option BegunReset) → AllReportSo so (request_contents begun)
  request_reports None = tt
  request_reports (Some begun) = (tt, tt)

  -- and a SACK reports what was received.
  sacks_report : (b : Bool) (room : ℕ) (transfer : Transfer) (tracker : TrackerState) (chunks : List Plain) → (b ≡ true → so (cumulative_tsn transfer.tracker)) → Acknowledges b room transfer tracker chunks → AllReportSo so (plain_contents chunks)
  sacks_report false room transfer tracker chunks holds does = subst (λ (l : List Plain). AllReportSo so (plain_contents l)) (sym does.1) tt
  sacks_report true room transfer tracker chunks holds does = subst (λ (l : List Plain). AllReportSo so (plain_contents l)) (sym does.1) (fitting_reports room (own_sack room transfer) (holds refl))

  -- ---- one packet

  plain_append : (one other : List Plain) → AllReportSo so (plain_contents one) → AllReportSo so (plain_contents other) → AllReportSo so (plain_contents (one ++ other))
  plain_append [] other says says' = says'
  plain_append (chunk ∷ one) other says says' = (says.0, plain_append one other says.1 says')

  gives_report : (ask : Ask) (e : Endpoint) (draft : Emission) (transfer : Transfer) (answer : Answer) → (wants_sack ask e.queues.queue transfer ≡ true → so (cumulative_tsn transfer.tracker)) → Gives ask e draft transfer answer → AllReportSo so (answer_contents answer)
  gives_report ask e draft transfer answer holds does =
      both_report (plain_contents answer.acknowledgements) (request_contents answer.begun ++ plain_contents answer.data_chunks)
      (subst (λ (l : List Plain). AllReportSo so (plain_contents l)) (sym does.parts)
      (plain_append does.sacks does.forwards (sacks_report (wants_sack ask e.queues.queue transfer) (room_of_draft e draft) transfer does.tracker does.sacks holds does.acknowledges)
      (gives_up_reports (may_forward ask e transfer.retransmission) e.moment transfer (room_of_draft e (filled_draft draft (plain_contents does.sacks))) _ does.gave_up does.next does.forwards does.gives_up)))
      (both_report (request_contents answer.begun) (plain_contents answer.data_chunks) (request_reports answer.begun) (chunks_report does.sent.queue.outstanding does.sent.tsns answer.data_chunks does.chunks))

  where_report : (b : Bool) (ask : Ask) (e : Endpoint) (draft : Emission) (transfer : Transfer) (answer : Answer) → (wants_sack ask e.queues.queue transfer ≡ true → so (cumulative_tsn transfer.tracker)) → GivesUnlessIdle b ask e draft transfer answer → AllReportSo so (answer_contents answer)
  where_report true ask e draft transfer answer holds does = subst (λ (a : Answer). AllReportSo so (answer_contents a)) (sym does) tt
  where_report false ask e draft transfer answer holds does = gives_report ask e draft transfer answer holds does

  -- Only the first packet of a flush has a SACK.
  abbrev HoldsFor : Ask → Option Transfer → Type 0
  HoldsFor first_ask found = (transfer : Transfer) → found ≡ Some transfer → so (cumulative_tsn transfer.tracker)
  HoldsFor later_ask found = Unit {0}

  holds_where : (ask : Ask) (e : Endpoint) (transfer : Transfer) → HoldsFor ask (Some transfer) → wants_sack ask e.queues.queue transfer ≡ true → so (cumulative_tsn transfer.tracker)
  holds_where first_ask e transfer holds wants = holds transfer refl
  holds_where later_ask e transfer holds wants = absurd (cc)

  answer_reports : (ask : Ask) (e : Endpoint) (draft : Emission) (found : Option Transfer) (answer : Answer) → HoldsFor ask found → IsAnswerOfQueues ask e draft answer found → AllReportSo so (answer_contents answer)
  answer_reports ask e draft None answer holds does = subst (λ (a : Answer). AllReportSo so (answer_contents a)) (sym does) tt
  answer_reports ask e draft (Some transfer) answer holds does = where_report (is_idle e.queues.queue transfer) ask e draft transfer answer (holds_where ask e transfer holds) does

  -- ---- a flush

  both_packets : (one other : List Emission) → PacketsReport so one → PacketsReport so other → PacketsReport so (one ++ other)
  both_packets [] other says says' = says'
  both_packets (emission ∷ one) other says says' = (says.0, both_packets one other says.1 says')

  events_report : (events others : List (Event Emission)) → PacketsReport so (packets_of_events events) → PacketsReport so (packets_of_events others) → PacketsReport so (packets_of_events (events ++ others))
  events_report events others says says' = subst (PacketsReport so) (sym (packets_of_events-append events others)) (both_packets (packets_of_events events) (packets_of_events others) says says')

  out_reports : (e : Endpoint) (told : List FillingEvent) (with_checksum : Bool) (tag : ℕ) (contents : List Content) → AllReportSo so contents → PacketsReport so (packets_of_events (goes_out e (map filling_event told) with_checksum tag contents).events)
  out_reports e told with_checksum tag [] says =
      subst (PacketsReport so) (sym (ap (λ (l : List (Event Emission)). packets_of_events l) (sym (append-nil (map filling_event told))) ∙ told_none told [])) tt
  out_reports e told with_checksum tag (content ∷ contents) says =
      subst (PacketsReport so) (sym (told_none told (sent (record { with_checksum = with_checksum; packet = record { tag = tag; contents = content ∷ contents } }) ∷ []))) (says, tt)

  asked_reports : (ask : Ask) (e : Endpoint) (draft : Emission) (answer : Answer) → HoldsFor ask e.queues.transfer → AllReportSo so draft.packet.contents → IsFlushAnswer ask e draft answer → PacketsReport so (packets_of_events (asked_outcome e draft answer).events)
  asked_reports ask e draft answer holds says is =
      out_reports answer.after answer.told draft.with_checksum draft.packet.tag (filled_draft draft (answer_contents answer)).packet.contents
      (both_report draft.packet.contents (answer_contents answer) says (answer_reports ask e draft e.queues.transfer answer holds is.by_transfer))

  next_reports : (core : Core) (draft : Emission) → AllReportSo so (next_draft core draft).packet.contents
  next_reports closed draft = tt
  next_reports (cookie_wait my) draft = tt
  next_reports (cookie_echoed my held cookie) draft = tt
  next_reports (open_in phase my held) draft = tt

  answers_report : (ask : Ask) (n : ℕ) (e : Endpoint) (draft : Emission) (answers : List Answer) → HoldsFor ask e.queues.transfer → AllReportSo so draft.packet.contents → AreFlushAnswers ask n e draft answers → PacketsReport so (packets_of_events (flush_of e draft answers).events)
  answers_report _ _ _ _ _ holds says (at_limit ask e draft) = tt
  answers_report _ _ _ _ _ holds says (at_empty ask more e draft answer is empty) = events_report (asked_outcome e draft answer).events [] (asked_reports ask e draft answer holds says is) tt
  answers_report _ _ _ _ _ holds says (after_packet ask more e draft answer answers is some rest) =
      events_report (asked_outcome e draft answer).events (flush_of (asked_outcome e draft answer).after (next_draft e.core draft) answers).events (asked_reports ask e draft answer holds says is)
      (answers_report later_ask more (asked_outcome e draft answer).after (next_draft e.core draft) answers tt (next_reports e.core draft) rest)

  -- ---- packets

  all_reports : (to : ℕ) (emissions : List Emission) → AllTo to emissions → NoneEnds emissions → PacketsReport so emissions → AreReports to so emissions
  all_reports to [] there free says = tt
  all_reports to (emission ∷ emissions) there free says = (inr (there.0, free.0, says.0), all_reports to emissions there.1 free.1 says.1)

  pub flush_reports : (to : ℕ) (e : Endpoint) (draft : Emission) (answers : List Answer) → ((transfer : Transfer) → e.queues.transfer ≡ Some transfer → so (cumulative_tsn transfer.tracker)) → IsPeerTag e.core to → draft.packet.tag ≡ to → NoEnd draft.packet.contents
      → AllReportSo so draft.packet.contents → FlushAnswers e draft answers → AreReports to so (packets_of_events (flush_of e draft answers).events)
  flush_reports to e draft answers holds at tag no_end says allowed =
      all_reports to (packets_of_events (flush_of e draft answers).events)
      (subst (λ (t : ℕ). AllTo t (packets_of_events (flush_of e draft answers).events)) tag (flushes_to e draft answers (subst (λ (t : ℕ). IsPeerTag e.core t) (sym tag) at) allowed))
      (flush_none first_ask (packets_allowed e.options.max_burst e.core) e draft answers no_end allowed)
      (answers_report first_ask (packets_allowed e.options.max_burst e.core) e draft answers holds says allowed)

  pub both_reports : (to : ℕ) (one other : List Emission) → AreReports to so one → AreReports to so other → AreReports to so (one ++ other)
  both_reports to [] other says says' = says'
  both_reports to (emission ∷ one) other says says' = (says.0, both_reports to one other says.1 says')

-- ---- more may hold

module _ (so other : ℕ → Type 0) (more : (tsn : ℕ) → so tsn → other tsn) where
  content_more : (content : Content) → ReportsSo so content → ReportsSo other content
  content_more (plain (unworked (data_chunk c))) says = tt
  content_more (plain (unworked (init_chunk c))) says = tt
  content_more (plain (unworked (init_ack_chunk c))) says = tt
  content_more (plain (unworked (sack_chunk c))) says = more c.cumulative_tsn_ack says
  content_more (plain (unworked (heartbeat_chunk c))) says = tt
  content_more (plain (unworked (heartbeat_ack_chunk c))) says = tt
  content_more (plain (unworked (abort_chunk t c))) says = tt
  content_more (plain (unworked (shutdown_chunk c))) says = tt
  content_more (plain (unworked shutdown_ack_chunk)) says = tt
  content_more (plain (unworked (error_chunk c))) says = tt
  content_more (plain (unworked (cookie_echo_chunk c))) says = tt
  content_more (plain (unworked cookie_ack_chunk)) says = tt
  content_more (plain (unworked (shutdown_complete_chunk t))) says = tt
  content_more (plain (unworked (i_data_chunk c))) says = tt
  content_more (plain (unworked (re_config_chunk c))) says = tt
  content_more (plain (unworked (forward_tsn_chunk t s))) says = tt
  content_more (plain (unworked (i_forward_tsn_chunk t s))) says = tt
  content_more (plain (unworked (unknown_chunk t f v))) says = tt
  content_more (plain (unknown t f v)) says = tt
  content_more (plain (heartbeat c)) says = tt
  content_more (plain (heartbeat_ack c)) says = tt
  content_more (init c) says = tt
  content_more (init_ack c k) says = tt
  content_more (cookie_echo c) says = tt
  content_more cookie_ack says = tt
  content_more (re_config c) says = tt
  content_more (abort t c) says = tt
  content_more (shutdown c) says = more c says
  content_more shutdown_ack says = tt
  content_more (shutdown_complete t) says = tt

  pub all_more : (contents : List Content) → AllReportSo so contents → AllReportSo other contents
  all_more [] says = tt
  all_more (content ∷ contents) says = (content_more content says.0, all_more contents says.1)

  pub reports_more : (to : ℕ) (emissions : List Emission) → AreReports to so emissions → AreReports to other emissions
  reports_more to [] says = tt
  reports_more to (emission ∷ emissions) says = (
    elim says.0 [
      | inl none ↦ inl none
      | inr reports ↦ inr (reports.0, reports.1, all_more emission.packet.contents reports.2)
    ],
    reports_more to emissions says.1,
  )

  -- It holds of what comes, too.
  pub comes_more : (came : Option Content) → ComesReported so came → ComesReported other came
  comes_more None says = tt
  comes_more (Some content) says = content_more content says

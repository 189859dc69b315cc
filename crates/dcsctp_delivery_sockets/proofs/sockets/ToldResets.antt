-- What a user is told of resets, and what it has read, turn by turn.
use Rattle.std.proofs.Common.{◌≡◌, ◌⊎◌, ℕ, refl, List, [], ◌∷◌, ◌++◌, ap, sym, subst, inl, inr}
use Rattle.dcsctp_spec_lemmas.specs.spec.Packet.{Emission}
use Rattle.dcsctp_spec_lemmas.specs.spec.endpoint.CallTurns.{Transition, after_all}
use Rattle.dcsctp_spec_lemmas.specs.spec.endpoint.DataOutcomes.{ready_or_left}
use Rattle.dcsctp_spec_lemmas.specs.spec.endpoint.Endpoint.{Endpoint}
use Rattle.dcsctp_spec_lemmas.specs.spec.endpoint.Event.{Event, incoming_stream_reset}
use Rattle.dcsctp_spec_lemmas.specs.spec.endpoint.Turn.{Input}
use Rattle.dcsctp_spec_lemmas.specs.types.queues.Messages.{MessageContent}
use Rattle.dcsctp_delivery_directions.specs.sending.Places.{HasEntry}
use Rattle.dcsctp_delivery_sockets.proofs.turns.Telling.{entry_front}
use Rattle.dcsctp_delivery_sockets.specs.associations.Reads.{Tags, ReadMessage, ReportedReset, Reading, and_first, tagged_after, reported_with, reached_index, reading_after}
use Rattle.dcsctp_delivery_sockets.proofs.associations.WhatIsRead.{MayRead, reads_first, reads_none, may_read}
use Rattle.dcsctp_delivery_sockets.proofs.associations.WhatIsReset.{IsNewReport, among_reported}
use Rattle.dcsctp_delivery_sockets.specs.sockets.Packets.{reading_through}

-- ---- reports

same_streams : {one two : List ℕ} → ◌≡◌ {A = Event Emission} (incoming_stream_reset one) (incoming_stream_reset two) → one ≡ two
same_streams is = cc

abbrev report_of : Tags → ℕ → List ℕ → ReportedReset
report_of tags index streams = record { tags = tags; reset = record { streams = streams; index = index } }

reported_told : (tags : Tags) (index : ℕ) (streams : List ℕ) (events : List (Event Emission)) (resets : List ReportedReset) → HasEntry (incoming_stream_reset streams) events → HasEntry (report_of tags index streams) (reported_with tags index events resets)
reported_told tags index streams [] resets has = absurd has
reported_told tags index streams (incoming_stream_reset others ∷ events) resets (inl is) = inl (ap (report_of tags index) (same_streams is))
reported_told tags index streams (incoming_stream_reset others ∷ events) resets (inr has) = inr (reported_told tags index streams events resets has)
reported_told tags index streams (event ∷ events) resets (inl is) = absurd (cc)
reported_told tags index streams (event ∷ events) resets (inr has) = reported_told tags index streams events resets has

reported_more : (tags : Tags) (index : ℕ) (report : ReportedReset) (events : List (Event Emission)) (resets : List ReportedReset) → HasEntry report resets → HasEntry report (reported_with tags index events resets)
reported_more tags index report [] resets has = has
reported_more tags index report (incoming_stream_reset others ∷ events) resets has = inr (reported_more tags index report events resets has)
reported_more tags index report (event ∷ events) resets has = reported_more tags index report events resets has

through_more : (report : ReportedReset) (e : Endpoint) (turns : List Transition) (reading : Reading) → HasEntry report reading.resets → HasEntry report (reading_through e turns reading).resets
through_more report e [] reading has = has
through_more report e (t ∷ turns) reading has =
    through_more report t.outcome.after turns (reading_after e t.input t.outcome reading)
    (reported_more reading.last (reached_index e t.input t.outcome reading) report t.outcome.events reading.resets has)

-- A turn that reports a reset records it.
pub told_report : (streams : List ℕ) (e : Endpoint) (before : List Transition) (turn : Transition) (later : List Transition) (reading : Reading) → HasEntry (incoming_stream_reset streams) turn.outcome.events
    → HasEntry (report_of (reading_through e before reading).last (reached_index (after_all e before) turn.input turn.outcome (reading_through e before reading)) streams) (reading_through e (before ++ turn ∷ later) reading).resets
told_report streams e [] turn later reading told =
    through_more _ turn.outcome.after later (reading_after e turn.input turn.outcome reading)
    (reported_told reading.last (reached_index e turn.input turn.outcome reading) streams turn.outcome.events reading.resets told)
told_report streams e (t ∷ before) turn later reading told = told_report streams t.outcome.after before turn later (reading_after e t.input t.outcome reading) told

-- ---- messages

first_more : (tags : Tags) (ready : List MessageContent) (read : ReadMessage) (reads : List ReadMessage) → HasEntry read reads → HasEntry read (and_first tags ready reads)
first_more tags [] read reads has = has
first_more tags (message ∷ ready) read reads has = entry_front read reads (record { tags = tags; message = message } ∷ []) has

tagged_more : (tags : Tags) (e : Endpoint) (input : Input) (read : ReadMessage) (reads : List ReadMessage) → HasEntry read reads → HasEntry read (tagged_after tags e input reads)
tagged_more tags e input read reads has = go input (may_read input)
  where
    go : (i : Input) → MayRead i → HasEntry read (tagged_after tags e i reads)
    go _ reads_first = first_more tags (ready_or_left e.left e.queues.transfer) read reads has
    go _ (reads_none i rests) = subst (HasEntry read) (sym (rests.tagged tags e reads)) has

-- What was read stays read.
pub reads_more : (read : ReadMessage) (e : Endpoint) (turns : List Transition) (reading : Reading) → HasEntry read reading.reads → HasEntry read (reading_through e turns reading).reads
reads_more read e [] reading has = has
reads_more read e (t ∷ turns) reading has = reads_more read t.outcome.after turns (reading_after e t.input t.outcome reading) (tagged_more reading.last e t.input read reading.reads has)

-- ---- the turn of a report

-- One of these turns reports it.
pub record IsToldIn (e : Endpoint) (turns : List Transition) (reading : Reading) (report : ReportedReset) : Type 0 where
  pub earlier : List Transition
  pub turn : Transition
  pub later : List Transition
  pub is : turns ≡ earlier ++ turn ∷ later
  pub new : IsNewReport (reading_through e earlier reading).last (reached_index (after_all e earlier) turn.input turn.outcome (reading_through e earlier reading)) turn.outcome.events report

pub told_in : (e : Endpoint) (turns : List Transition) (reading : Reading) (report : ReportedReset) → HasEntry report (reading_through e turns reading).resets → HasEntry report reading.resets ⊎ IsToldIn e turns reading report
told_in e [] reading report has = inl has
told_in e (t ∷ turns) reading report has =
    elim (told_in t.outcome.after turns (reading_after e t.input t.outcome reading) report has) [
      | inl before ↦ elim (among_reported reading.last (reached_index e t.input t.outcome reading) reading.resets report t.outcome.events before) [
        | inl new ↦ inr (record { earlier = []; turn = t; later = turns; is = refl; new = new })
        | inr old ↦ inl old
      ]
      | inr k ↦ inr (record { earlier = t ∷ k.earlier; turn = k.turn; later = k.later; is = ap (λ (l : List Transition). t ∷ l) k.is; new = k.new })
    ]

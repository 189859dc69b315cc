-- The resets that a user was told of, and those that its socket has performed.
use Rattle.std.proofs.Common.{◌≡◌, ℕ, true, false, Option, None, Some, List, [], ◌∷◌, refl, sym, ◌∙◌, ap, subst, inl, inr}
use Rattle.std.specs.Prelude.{◌⊎◌}
use Rattle.dcsctp_spec_lemmas.specs.types.declared.association.Pair.{Pair}
use Rattle.dcsctp_spec_lemmas.specs.spec.Packet.{re_config, Emission}
use Rattle.dcsctp_spec_lemmas.specs.spec.Reconfiguration.{RequestedReset, ResetParameter}
use Rattle.dcsctp_spec_lemmas.specs.spec.endpoint.Endpoint.{Endpoint}
use Rattle.dcsctp_spec_lemmas.specs.spec.endpoint.Event.{Event, incoming_stream_reset}
use Rattle.dcsctp_spec_lemmas.specs.spec.endpoint.Outcome.{Outcome}
use Rattle.dcsctp_spec_lemmas.specs.spec.endpoint.ResetOutcomes.{first_reset_request}
use Rattle.dcsctp_spec_lemmas.specs.spec.endpoint.Turn.{Input, Turn}
use Rattle.dcsctp_spec_runs.specs.Past.{WasPerformed}
use Rattle.dcsctp_spec_lemmas.specs.spec.association.Effect.{Effect}
use Rattle.dcsctp_delivery_directions.specs.sending.Flushes.{NoRequests}
use Rattle.dcsctp_delivery_directions.specs.sending.Places.{HasEntry}
use Rattle.dcsctp_delivery_directions.specs.directions.Directions.{PerformedReset}
use Rattle.dcsctp_delivery_sockets.specs.turns.Actions.{content_of_input, IsCall}
use Rattle.dcsctp_delivery_sockets.specs.turns.PeerRequests.{IsPlainRequest}
use Rattle.dcsctp_delivery_sockets.specs.turns.Runs.{RecordsByTurn, records_none, records_one}
use Rattle.dcsctp_delivery_sockets.specs.turns.Sides.{WasAsked, WasSent}
use Rattle.dcsctp_delivery_sockets.specs.turns.ToldResets.{AreRequested, ReportsResets}
use Rattle.dcsctp_delivery_sockets.proofs.turns.PeerRequests.{none_requested}
use Rattle.dcsctp_delivery_sockets.proofs.turns.ToldRequests.{turns_report_requests}
use Rattle.dcsctp_delivery_sockets.specs.associations.Ends.{ReceivingEnd, WasReset, WasReported}
use Rattle.dcsctp_delivery_sockets.specs.associations.Laws.{TellsPerformed}
use Rattle.dcsctp_delivery_sockets.specs.associations.Reads.{AreOfLink, Tags, ReportedReset, reported_with}
use Rattle.dcsctp_delivery_sockets.proofs.associations.UnaskedPasts.{some_reset}

-- ---- what is reported

-- It is reported by one of these events.
pub record IsNewReport (tags : Tags) (index : ℕ) (events : List (Event Emission)) (report : ReportedReset) : Type 0 where
  pub tags_are : report.tags ≡ tags
  pub index_is : report.reset.index ≡ index
  pub told : HasEntry (incoming_stream_reset report.reset.streams) events

module _ (tags : Tags) (index : ℕ) (resets : List ReportedReset) (report : ReportedReset) where
  report_later : (event : Event Emission) (events : List (Event Emission)) → IsNewReport tags index events report ⊎ HasEntry report resets → IsNewReport tags index (event ∷ events) report ⊎ HasEntry report resets
  report_later event events (inl new) = inl (record { tags_are = new.tags_are; index_is = new.index_is; told = inr new.told })
  report_later event events (inr old) = inr old

  pub among_reported : (events : List (Event Emission)) → HasEntry report (reported_with tags index events resets) → IsNewReport tags index events report ⊎ HasEntry report resets
  among_reported [] has = inr has
  among_reported (incoming_stream_reset streams ∷ events) (inl is) =
      inl
      (record {
        tags_are = ap (λ (r : ReportedReset). r.tags) is;
        index_is = ap (λ (r : ReportedReset). r.reset.index) is;
        told = inl (ap (λ (r : ReportedReset). incoming_stream_reset r.reset.streams) is);
      })
  among_reported (incoming_stream_reset streams ∷ events) (inr has) = report_later (incoming_stream_reset streams) events (among_reported events has)
  among_reported (event ∷ events) has = report_later event events (among_reported events has)

  -- Where no request is performed nothing new is reported.
  pub still_reported : (o : Outcome) → TellsPerformed o → ((my : Pair) (number : ℕ) → WasPerformed my number o.effects → ⊥) → HasEntry report (reported_with tags index o.events resets) → HasEntry report resets
  still_reported o tells none has =
      elim (among_reported o.events has) [
        | inl new ↦ (let found = some_reset o.effects (tells report.reset.streams new.told) in absurd (none found.0 found.1 found.2))
        | inr old ↦ old
      ]

-- What was performed stays so.
pub reset_stays : (gets later : ℕ → ReceivingEnd) (past past' : List Effect) (report : ReportedReset) → ((t : ℕ) → HasEntry report.reset (gets t).performed → HasEntry report.reset (later t).performed) → (AreOfLink past report.tags → AreOfLink past' report.tags)
    → WasReset gets past report → WasReset later past' report
reset_stays gets later past past' report stays still was = record { performed = stays report.tags.peer was.performed; was_of = still was.was_of }

-- ---- what the user was told stays told

pub told_more : (tags : Tags) (index : ℕ) (events : List (Event Emission)) (resets : List ReportedReset) (report : ReportedReset) → HasEntry report resets → HasEntry report (reported_with tags index events resets)
told_more tags index [] resets report has = has
told_more tags index (incoming_stream_reset streams ∷ events) resets report has = inr (told_more tags index events resets report has)
told_more tags index (event ∷ events) resets report has = told_more tags index events resets report has

pub still_told : (tags : Tags) (index : ℕ) (events : List (Event Emission)) (resets : List ReportedReset) (tag : ℕ) (reset : PerformedReset) → WasReported resets tag reset → WasReported (reported_with tags index events resets) tag reset
still_told tags index events resets tag reset told = record { report = told.report; has = told_more tags index events resets told.report told.has; reset_is = told.reset_is; tag_is = told.tag_is }

pub told_now : (tags : Tags) (index : ℕ) (events : List (Event Emission)) (resets : List ReportedReset) (streams : List ℕ) → HasEntry (incoming_stream_reset streams) events
    → WasReported (reported_with tags index events resets) tags.peer (record { streams = streams; index = index })
told_now tags index events resets streams told = record { report = record { tags = tags; reset = record { streams = streams; index = index } }; has = entry events told; reset_is = refl; tag_is = refl }
  where
    same_streams : {one two : List ℕ} → ◌≡◌ {A = Event Emission} (incoming_stream_reset one) (incoming_stream_reset two) → one ≡ two
    same_streams is = cc

    entry : (others : List (Event Emission)) → HasEntry (incoming_stream_reset streams) others → HasEntry (record { tags = tags; reset = record { streams = streams; index = index } }) (reported_with tags index others resets)
    entry [] has = absurd has
    entry (incoming_stream_reset named ∷ others) (inl is) = inl (ap (λ (l : List ℕ). record { tags = tags; reset = record { streams = l; index = index } }) (same_streams is))
    entry (incoming_stream_reset named ∷ others) (inr has) = inr (entry others has)
    entry (event ∷ others) (inl is) = absurd (cc)
    entry (event ∷ others) (inr has) = entry others has

-- ---- what is performed

same_parameters : {one two : List ResetParameter} → Some (re_config one) ≡ Some (re_config two) → one ≡ two
same_parameters is = cc

same_reset : {one two : RequestedReset} → Some one ≡ Some two → one ≡ two
same_reset is = cc

module _ (d : Endpoint) (input : Input) (o : Outcome) (count : ℕ) (old : List PerformedReset) where
  -- What is reported was performed.
  pub reported_performed : IsPlainRequest (content_of_input input) → IsCall input → Turn d input o → TellsPerformed o → (performed : List PerformedReset) → RecordsByTurn input o count old performed
      → (streams : List ℕ) → HasEntry (incoming_stream_reset streams) o.events → HasEntry (record { streams = streams; index = count }) performed
  reported_performed plainly may turn tells _ (records_none (inl none)) streams told = absurd (let clash : true ≡ false = sym (tells streams told) ∙ none in cc)
  reported_performed plainly may turn tells _ (records_none (inr calm)) streams told =
      (let r : AreRequested input streams = turns_report_requests d input o plainly may turn (tells streams told) streams told in absurd (calm r.parameters r.came))
  reported_performed plainly may turn tells _ (records_one some parameters reset came asked) streams told =
      let r : AreRequested input streams = turns_report_requests d input o plainly may turn (tells streams told) streams told in
      let one : reset ≡ r.reset = same_reset (sym asked ∙ ap first_reset_request (same_parameters (sym came ∙ r.came)) ∙ r.asked) in
      inl (ap (λ (l : List ℕ). record { streams = l; index = count }) (sym r.streams_are ∙ ap (λ (x : RequestedReset). x.streams) (sym one)))

  -- What was performed before stays.
  pub performed_more : (performed : List PerformedReset) → RecordsByTurn input o count old performed → (reset : PerformedReset) → HasEntry reset old → HasEntry reset performed
  performed_more _ (records_none which) reset has = has
  performed_more _ (records_one some parameters asked came is) reset has = inr has

  not_sent : (parameters : List ResetParameter) (reset : RequestedReset) → first_reset_request parameters ≡ Some reset → NoRequests parameters ⊎ WasAsked [] parameters → ⊥
  not_sent parameters reset asked (inl none) = (let clash : ◌≡◌ {A = Option RequestedReset} None (Some reset) = sym (none_requested parameters none) ∙ asked in cc)
  not_sent parameters reset asked (inr was) = was.was

  -- Nothing is performed where nothing was sent.
  pub performed_none : (performed : List PerformedReset) → RecordsByTurn input o count old performed → WasSent [] (content_of_input input) → performed ≡ old
  performed_none _ (records_none which) sent = refl
  performed_none _ (records_one some parameters reset came asked) sent = absurd (not_sent parameters reset asked (subst (WasSent []) came sent))

  -- Where the socket doesn't follow the RFC its user is told of what is performed.
  pub performed_is_told : ReportsResets d input o → d.options.follow_rfc ≡ false → (performed : List PerformedReset) → RecordsByTurn input o count old performed → (reset : PerformedReset) → HasEntry reset performed
      → HasEntry reset old ⊎ ((reset.index ≡ count) × HasEntry (incoming_stream_reset reset.streams) o.events)
  performed_is_told tells plainly _ (records_none which) reset has = inl has
  performed_is_told tells plainly _ (records_one some parameters asked came is) reset has =
      elim has [
        | inl e ↦
            (let found = some_reset o.effects some in
            inr (ap (λ (r : PerformedReset). r.index) e, subst (λ (l : List ℕ). HasEntry (incoming_stream_reset l) o.events) (sym (ap (λ (r : PerformedReset). r.streams) e)) (tells.each_told plainly found.0 found.1 found.2 parameters asked came is)))
        | inr before ↦ inl before
      ]

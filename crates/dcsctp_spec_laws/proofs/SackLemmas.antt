-- The turn of a SACK is a turn of the association: a step of shutdown, a fast retransmission, and a flush.
use Rattle.std.proofs.Common.{◌≡◌, ℕ, Bool, true, false, Option, None, Some, List, [], ◌∷◌, ◌++◌, refl, sym, subst, ap, ◌∙◌, append_assoc, take}
use Rattle.std.proofs.lemmas.List.{append-nil}
use Rattle.dcsctp_spec_lemmas.specs.types.declared.association.Held.{Held}
use Rattle.dcsctp_spec_lemmas.specs.types.declared.kinds.ErrorKind.TheVariants.{NotConnected}
use Rattle.dcsctp_spec_lemmas.specs.types.Settings.{SameOptions}
use Rattle.dcsctp_spec_lemmas.specs.spec.endpoint.Event.{Event, error}
use Rattle.dcsctp_spec_lemmas.specs.spec.Packet.{Plain, plain, Content, shutdown, shutdown_ack, Emission}
use Rattle.dcsctp_spec_lemmas.specs.spec.queues.Transfer.{Transfer}
use Rattle.dcsctp_spec_lemmas.specs.spec.endpoint.Endpoint.{Endpoint, Core, closed, cookie_wait, cookie_echoed, open_in, established, shutdown_pending, shutdown_sent, shutdown_received, shutdown_ack_sent, held_by_core}
use Rattle.dcsctp_spec_lemmas.specs.spec.endpoint.Following.{next_chunk}
use Rattle.dcsctp_spec_lemmas.specs.spec.endpoint.Outcome.{Outcome, still, quiet, behind}
use Rattle.dcsctp_spec_lemmas.specs.spec.association.Effect.{Effect, Change, emission_effects, effects_without_packets}
use Rattle.dcsctp_spec_lemmas.specs.spec.association.Choices.{Choices, plain_contents}
use Rattle.dcsctp_spec_lemmas.specs.spec.association.FlushChanges.{further_packets}
use Rattle.dcsctp_spec_lemmas.specs.spec.association.ShutdownChanges.{shutdown_step_change}
use Rattle.dcsctp_spec_lemmas.specs.spec.association.Acts.{flush_change, plain_change}
use Rattle.dcsctp_spec_lemmas.specs.spec.association.Controlled.{Observation, observations_of_events, observations_of_effects, IsControlled}
use Rattle.dcsctp_spec_lemmas.specs.spec.endpoint.FlushOutcomes.{Answer, draft_to, flush_of}
use Rattle.dcsctp_spec_lemmas.specs.spec.endpoint.DataOutcomes.{with_transfer, no_tcb_text, FastRetransmits, sack_taken, TakesSackAndFlushes, HandlesSackIfValid, HandlesSackIfConnected, SackTurn}
use Rattle.dcsctp_spec_lemmas.specs.spec.queues.Acknowledging.{is_sack_valid, ends_delivery, lifecycle_events_of, delivered_events, delivered_up_to}
use Rattle.dcsctp_spec_lemmas.specs.spec.queues.Items.{Item}
use Rattle.dcsctp_spec_lemmas.specs.spec.queues.Outstanding.{acknowledged_count}
use Rattle.dcsctp_spec_lemmas.specs.spec.queues.Retransmission.{RetransmissionState, has_fast_retransmit}
use Rattle.dcsctp_spec_lemmas.specs.wire.Content.{SackContent}
use Rattle.dcsctp_spec_lemmas.specs.spec.endpoint.ShutdownOutcomes.{received_tsn, may_continue_shutdown}
use Rattle.dcsctp_spec_lemmas.proofs.ControlHandshake.{ControlledAt}
use Rattle.dcsctp_spec_lemmas.proofs.FlushKeeps.{emitted_then, emitted_notes, signs_append, signs_then, goes_out_signs, goes_out_keeps}
use Rattle.dcsctp_spec_laws.proofs.DataLemmas.{chosen, FlushedAt, plain_flushes, flushed_as, quiet_at, still_at, sent_at}
use Rattle.dcsctp_spec_laws.proofs.ShutdownLemmas.{step_at}

-- ---- what it chooses

-- a step of shutdown, where it may continue, these packets, and a flush that gets these answers
abbrev pub stepped : Endpoint → ℕ → Bool → List (List Plain) → List Answer → Choices
stepped e tsn is_acknowledged packets answers = record (chosen e packets answers) { tsn = tsn; is_acknowledged = is_acknowledged }

-- It is such a turn.
abbrev pub SteppedAt : Endpoint → Core → Outcome → Type 0
SteppedAt e core o =
    (tsn : ℕ) × (is_acknowledged : Bool) × (packets : List (List Plain)) × (answers : List Answer) × IsControlled e o (plain_change core false (stepped e tsn is_acknowledged packets answers))

pub stepped_chunk : (e : Endpoint) (core : Core) (tag : ℕ) (chunk : Plain) (o : Outcome) → SteppedAt e core o → ControlledAt e core tag (plain chunk) o
stepped_chunk e core tag chunk o h = (_, (stepped e h.0 h.1 h.2 h.3, tt, refl), h.4)

-- one without a step
flushed_stepped : (e : Endpoint) (core : Core) (o : Outcome) → FlushedAt e core o → SteppedAt e core o
flushed_stepped e core o h = (0, false, h.0, h.1, subst (IsControlled e o) (plain_flushes e core h.0 h.1) h.2)

-- A flush doesn't ask about the step.
flush_same : (core : Core) (choices : Choices) (tsn : ℕ) (is_acknowledged : Bool) → flush_change core choices ≡ flush_change core (record choices { tsn = tsn; is_acknowledged = is_acknowledged })
flush_same closed choices tsn is_acknowledged = refl
flush_same (cookie_wait my) choices tsn is_acknowledged = refl
flush_same (cookie_echoed my held cookie) choices tsn is_acknowledged = refl
flush_same (open_in phase my held) choices tsn is_acknowledged = refl

flush_follows : (core : Core) (choices : Choices) → (flush_change core choices).following ≡ next_chunk
flush_follows closed choices = refl
flush_follows (cookie_wait my) choices = refl
flush_follows (cookie_echoed my held cookie) choices = refl
flush_follows (open_in phase my held) choices = refl

-- ---- a step

-- It keeps what is known of the peer, and sends one packet at most.
record StepIs (core : Core) (change : Change) : Type 0 where
  holds : held_by_core change.core ≡ held_by_core core
  tag : ℕ
  contents : List Content
  sends : change.effects ≡ emission_effects tag contents

step_is : (core : Core) (tsn : ℕ) (is_acknowledged : Bool) → StepIs core (shutdown_step_change core tsn is_acknowledged)
step_is closed tsn is_acknowledged = record { holds = refl; tag = 0; contents = []; sends = refl }
step_is (cookie_wait my) tsn is_acknowledged = record { holds = refl; tag = 0; contents = []; sends = refl }
step_is (cookie_echoed my held cookie) tsn is_acknowledged = record { holds = refl; tag = 0; contents = []; sends = refl }
step_is (open_in established my held) tsn is_acknowledged = record { holds = refl; tag = 0; contents = []; sends = refl }
step_is (open_in shutdown_pending my held) tsn true = record { holds = refl; tag = held.peer.tag; contents = shutdown tsn ∷ []; sends = refl }
step_is (open_in shutdown_pending my held) tsn false = record { holds = refl; tag = 0; contents = []; sends = refl }
step_is (open_in shutdown_sent my held) tsn is_acknowledged = record { holds = refl; tag = 0; contents = []; sends = refl }
step_is (open_in shutdown_received my held) tsn true = record { holds = refl; tag = held.peer.tag; contents = shutdown_ack ∷ []; sends = refl }
step_is (open_in shutdown_received my held) tsn false = record { holds = refl; tag = 0; contents = []; sends = refl }
step_is (open_in shutdown_ack_sent my held) tsn is_acknowledged = record { holds = refl; tag = 0; contents = []; sends = refl }

-- its packet comes before these
step_signs : (core : Core) (change : Change) (rest : List Effect) → StepIs core change → observations_of_effects (change.effects ++ rest) ≡ observations_of_effects change.effects ++ observations_of_effects rest
step_signs core change rest is =
    ap (λ (es : List Effect). observations_of_effects (es ++ rest)) is.sends ∙ emitted_then is.tag is.contents rest
    ∙ ap (λ (es : List Effect). observations_of_effects es ++ observations_of_effects rest) (sym is.sends)

step_notes : (core : Core) (change : Change) (rest : List Effect) → StepIs core change → effects_without_packets (change.effects ++ rest) ≡ effects_without_packets rest
step_notes core change rest is = ap (λ (es : List Effect). effects_without_packets (es ++ rest)) is.sends ∙ emitted_notes is.tag is.contents rest

-- ---- a fast retransmission

told_signs : (name : Option ℕ) (ends : Bool) (rest : List (Event Emission)) → observations_of_events (lifecycle_events_of name ends ++ rest) ≡ observations_of_events rest
told_signs None ends rest = refl
told_signs (Some id) true rest = refl
told_signs (Some id) false rest = refl

delivered_signs : (items : List Item) → observations_of_events (delivered_events items) ≡ []
delivered_signs [] = refl
delivered_signs (item ∷ items) = told_signs item.fragment.lifecycle (ends_delivery item) (delivered_events items) ∙ delivered_signs items

-- what a fast retransmission leaves, and its packet
record FastIs (e : Endpoint) (held : Held) (o : Outcome) : Type 0 where
  packets : List (List Plain)
  core : o.after.core ≡ e.core
  options : o.after.options ≡ e.options
  observations : observations_of_events o.events ≡ observations_of_effects (further_packets held.peer.tag packets)

one_packet : (tag : ℕ) (chunks : List Plain) → observations_of_effects (emission_effects tag (plain_contents chunks)) ≡ observations_of_effects (further_packets tag (chunks ∷ []))
one_packet tag chunks = ap observations_of_effects (sym (append-nil (emission_effects tag (plain_contents chunks))))

fast_is : (b : Bool) (e : Endpoint) (held : Held) (transfer : Transfer) (o : Outcome) → FastRetransmits b e held transfer o → FastIs e held o
fast_is false e held transfer o turn =
    subst (FastIs e held) (sym turn) (record { packets = []; core = refl; options = refl; observations = refl })
fast_is true e held transfer o turn =
    let base : Endpoint = with_transfer e (record transfer { retransmission = turn.left }) in
    let out = goes_out_keeps base [] (draft_to held).with_checksum (draft_to held).packet.tag (plain_contents turn.chunks) in
    subst (FastIs e held) (sym turn.is)
    (record {
      packets = turn.chunks ∷ [];
      core = out.core;
      options = out.options;
      observations = goes_out_signs base [] (draft_to held).with_checksum (draft_to held).packet.tag (plain_contents turn.chunks) ∙ one_packet held.peer.tag turn.chunks;
    })

-- ---- a SACK

-- the events of four parts
four_signs : (tsn : ℕ) (state : RetransmissionState) (steps fast rest : List (Event Emission)) (one more : List Effect) → observations_of_events steps ≡ observations_of_effects one → observations_of_events (fast ++ rest) ≡ observations_of_effects more
    → observations_of_events ((delivered_up_to tsn state ++ (steps ++ fast)) ++ rest) ≡ observations_of_effects one ++ observations_of_effects more
four_signs tsn state steps fast rest one more first second =
    ap observations_of_events (append_assoc (delivered_up_to tsn state) (steps ++ fast) rest) ∙ signs_append (delivered_up_to tsn state) ((steps ++ fast) ++ rest)
    ∙ ap (λ (ss : List Observation). ss ++ observations_of_events ((steps ++ fast) ++ rest)) (delivered_signs (take (acknowledged_count state.outstanding tsn) state.outstanding.items))
    ∙ ap observations_of_events (append_assoc steps fast rest) ∙ signs_then steps (fast ++ rest) one more first second

-- at an endpoint whose phase may have moved
pub acknowledges_at : (e at : Endpoint) (held : Held) (transfer : Transfer) (sack : SackContent) (o : Outcome) → SameOptions e.options at.options → held_by_core at.core ≡ Some held → TakesSackAndFlushes at held transfer sack o
    → SteppedAt e at.core o
acknowledges_at e at held transfer sack o same holds turn =
    let base : Endpoint = sack_taken at transfer turn.left in
    let tsn : ℕ = received_tsn base.queues.transfer in
    let is_acknowledged : Bool = may_continue_shutdown base in
    let change : Change = shutdown_step_change at.core tsn is_acknowledged in
    let step : IsControlled e turn.stepped change = subst (λ (x : Outcome). IsControlled e x change) (sym turn.steps) (step_at e base at.core refl same) in
    let is : StepIs at.core change = step_is at.core tsn is_acknowledged in
    let fast : FastIs turn.stepped.after held turn.fast = fast_is (has_fast_retransmit turn.left.retransmission) turn.stepped.after held turn.left turn.fast turn.resends in
    let flush : Outcome = flush_of turn.fast.after (draft_to held) turn.answers in
    let p : Outcome = behind [] turn.fast.events flush in
    let sent : FlushedAt e change.core p = sent_at e turn.fast.after change.core held turn.fast.events fast.packets turn.answers (is.holds ∙ holds) (fast.core ∙ step.core)
    (subst (SameOptions e.options) (sym fast.options) step.options) turn.allowed fast.observations in
    let choices : Choices = stepped e tsn is_acknowledged sent.0 sent.1 in
    let more : IsControlled e p (flush_change change.core choices) = subst (IsControlled e p) (flush_same change.core (chosen e sent.0 sent.1) tsn is_acknowledged) sent.2 in
    let effects : List Effect = (flush_change change.core choices).effects in (
      tsn,
      is_acknowledged,
      sent.0,
      sent.1,
      subst (λ (x : Outcome). IsControlled e x (plain_change at.core false choices)) (sym turn.is) (record {
        core = more.core;
        options = more.options;
        observations = four_signs sack.cumulative_tsn_ack transfer.retransmission turn.stepped.events turn.fast.events flush.events change.effects effects step.observations more.observations ∙ sym (step_signs at.core change effects is);
        effects = more.effects ∙ sym (step_notes at.core change effects is);
        following = more.following ∙ flush_follows change.core choices;
      }),
    )

sack_where_at : (b : Bool) (e : Endpoint) (held : Held) (transfer : Transfer) (sack : SackContent) (o : Outcome) → held_by_core e.core ≡ Some held → HandlesSackIfValid b e held transfer sack o → SteppedAt e e.core o
sack_where_at false e held transfer sack o holds turn = flushed_stepped e e.core o (flushed_as e e.core o (still e) turn (still_at e e e.core refl refl))
sack_where_at true e held transfer sack o holds turn = acknowledges_at e e held transfer sack o refl holds turn

sack_by_at : (e : Endpoint) (peer : Option Held) (transfer : Transfer) (sack : SackContent) (o : Outcome) → held_by_core e.core ≡ peer → HandlesSackIfConnected e peer transfer sack o → SteppedAt e e.core o
sack_by_at e None transfer sack o holds turn = flushed_stepped e e.core o (flushed_as e e.core o (still e) turn (still_at e e e.core refl refl))
sack_by_at e (Some held) transfer sack o holds turn = sack_where_at (is_sack_valid transfer.retransmission sack.cumulative_tsn_ack) e held transfer sack o holds turn

pub sack_at : (e : Endpoint) (transfer : Option Transfer) (sack : SackContent) (o : Outcome) → SackTurn e transfer sack o → SteppedAt e e.core o
sack_at e None sack o turn =
    let events : List (Event Emission) = error NotConnected no_tcb_text ∷ [] in
    flushed_stepped e e.core o (flushed_as e e.core o (quiet e [] events) turn (quiet_at e e events e.core refl refl refl))
sack_at e (Some transfer) sack o turn = sack_by_at e (held_by_core e.core) transfer sack o refl turn

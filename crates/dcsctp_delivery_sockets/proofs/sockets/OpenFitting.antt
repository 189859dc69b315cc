-- Where an association begins in an act, its numbers fit their fields.
use Rattle.std.proofs.Common.{◌≡◌, ◌≢◌, ℕ, Bool, true, false, ◌≤◌, List, [], ◌∷◌, sym, arith, subst}
use Rattle.std.specs.Prelude.{Some, Bool}
use Rattle.std.specs.List.{AllByRecursion}
use Rattle.dcsctp_spec_lemmas.specs.wire.Content.{PacketContent}
use Rattle.dcsctp_spec_lemmas.specs.wire.Format.{IsPacket}
use Rattle.dcsctp_spec_lemmas.specs.types.Settings.{wire_options}
use Rattle.dcsctp_spec_lemmas.specs.spec.Admission.{Admission, all_chunks, shutdown_acks_alone, refused, admits, shutdown_acks_of}
use Rattle.dcsctp_spec_lemmas.specs.spec.endpoint.MessageOutcomes.{awaits_opening}
use Rattle.dcsctp_spec_lemmas.specs.spec.endpoint.CallTurns.{packet_tail, Transition, IsTurn, Turns, AdmittedTurns, HandleInput, unreadable, readable}
use Rattle.dcsctp_spec_lemmas.specs.spec.endpoint.Endpoint.{Endpoint, Core, closed, cookie_wait, cookie_echoed, open_in, established, shutdown_pending, shutdown_sent, shutdown_received, shutdown_ack_sent}
use Rattle.dcsctp_spec_runs.specs.Fitting.{FitsCore, FitsEndpoint, SendablePacket, IsSendable}
use Rattle.dcsctp_spec_lemmas.specs.spec.CookieFits.{FitsPair}
use Rattle.dcsctp_spec_runs.specs.Laws.{OfferReadsBack}
use Rattle.dcsctp_spec_lemmas.specs.spec.endpoint.Outcome.{Outcome}
use Rattle.dcsctp_spec_lemmas.specs.spec.Packet.{Packet, packet_of_content, Emission}
use Rattle.dcsctp_spec_lemmas.specs.spec.endpoint.Turn.{Input, arrival, refusal, packet_begins, chunk_input, packet_ends, act_input, user_sets, user_sends, user_resets, user_takes, timer_expires, time_passes, restores, has_data_chunk, BeginTurn, unreadable_text}
use Rattle.dcsctp_spec_lemmas.specs.spec.association.Effect.{AssociationIdentity, identity_of, identity_of_core}
use Rattle.dcsctp_theorem_sockets.proofs.Deliver.{tail_fits, Fits, chunk_turns_fit, nothing_ends, acks_sendable}
use Rattle.dcsctp_delivery_sockets.specs.turns.Actions.{content_of_input, IsOpening}
use Rattle.dcsctp_delivery_sockets.proofs.sockets.Calls.{NoChunk, NoChunks}

-- ---- where an association begins, its numbers fit

abbrev pub OpensFitting : Transition → Type 0
OpensFitting turn = IsOpening (content_of_input turn.input) → FitsCore turn.outcome.after.core

abbrev pub AllOpenFitting : List Transition → Type 0
AllOpenFitting turns = AllByRecursion OpensFitting turns

-- No association begins where no chunk is handled.
pub opens_none : (input : Input) → NoChunk input → IsOpening (content_of_input input) → ⊥
opens_none (chunk_input tag content) none opening = none
opens_none arrival none opening = opening
opens_none (refusal text) none opening = opening
opens_none (packet_begins contents) none opening = opening
opens_none packet_ends none opening = opening
opens_none (act_input act) none opening = opening
opens_none (user_sets setting) none opening = opening
opens_none (user_sends messages) none opening = opening
opens_none (user_resets ids) none opening = opening
opens_none user_takes none opening = opening
opens_none (timer_expires timer) none opening = opening
opens_none (time_passes moment) none opening = opening
opens_none (restores state) none opening = opening

pub none_open : (turns : List Transition) → NoChunks turns → AllOpenFitting turns
none_open [] none = tt
none_open (turn ∷ turns) none = ((λ opening. absurd (opens_none turn.input none.0 opening)), none_open turns none.1)

input_opens : (e : Endpoint) (input : Input) (turn : Transition) → NoChunk input → IsTurn e input turn → OpensFitting turn
input_opens e input turn none is opening = absurd (opens_none turn.input (subst NoChunk (sym is.is) none) opening)

inputs_open : (e : Endpoint) (inputs : List Input) (turns : List Transition) → AllByRecursion NoChunk inputs → Turns e inputs turns → AllOpenFitting turns
inputs_open e [] [] none taken = tt
inputs_open e [] (t ∷ turns) none taken = absurd taken
inputs_open e (input ∷ inputs) [] none taken = absurd taken
inputs_open e (input ∷ inputs) (t ∷ turns) none taken = (input_opens e input t none.0 taken.0, inputs_open t.outcome.after inputs turns none.1 taken.1)

fit_open : (turns : List Transition) → AllByRecursion Fits turns → AllOpenFitting turns
fit_open [] fit = tt
fit_open (turn ∷ turns) fit = ((λ opening. fit.0.after.core), fit_open turns fit.1)

-- The turn before the chunks of a packet leaves numbers that fit their fields.
begun_fits : (e : Endpoint) (core : Core) (has : Bool) (o : Outcome) → FitsEndpoint e → BeginTurn e core has o → FitsEndpoint o.after
begun_fits e closed has o h turn = subst (λ (x : Outcome). FitsEndpoint x.after) (sym turn) h
begun_fits e (cookie_wait my) has o h turn = subst (λ (x : Outcome). FitsEndpoint x.after) (sym turn) h
begun_fits e (cookie_echoed my held cookie) has o h turn = subst (λ (x : Outcome). FitsEndpoint x.after) (sym turn) h
begun_fits e (open_in established my held) has o h turn = subst (λ (x : Outcome). FitsEndpoint x.after) (sym turn) h
begun_fits e (open_in shutdown_pending my held) has o h turn = subst (λ (x : Outcome). FitsEndpoint x.after) (sym turn) h
begun_fits e (open_in shutdown_sent my held) true o h turn =
    subst (λ (x : Outcome). FitsEndpoint x.after) (sym turn) (record { valid = h.valid; options = h.options; core = h.core; t1 = h.t1 })
begun_fits e (open_in shutdown_sent my held) false o h turn = subst (λ (x : Outcome). FitsEndpoint x.after) (sym turn) h
begun_fits e (open_in shutdown_received my held) has o h turn = subst (λ (x : Outcome). FitsEndpoint x.after) (sym turn) h
begun_fits e (open_in shutdown_ack_sent my held) has o h turn = subst (λ (x : Outcome). FitsEndpoint x.after) (sym turn) h

admitted_open : OfferReadsBack → (e : Endpoint) (packet : Packet) (admission : Admission) (turns : List Transition) → FitsEndpoint e → SendablePacket packet → AdmittedTurns e packet admission turns → AllOpenFitting turns
admitted_open law e packet all_chunks [] h good taken = absurd taken
admitted_open law e packet all_chunks (t ∷ turns) h good taken = (
  input_opens e (packet_begins packet.contents) t tt taken.0,
  fit_open turns (chunk_turns_fit law t.outcome.after packet.tag packet.contents (packet_tail t.outcome.after) turns taken.1
      (begun_fits e e.core (has_data_chunk e.options.follow_rfc packet.contents) t.outcome h taken.0.comes) good.tag good.contents (tail_fits (awaits_opening t.outcome.after t.outcome.after.core))).turns_fit,
)
admitted_open law e packet shutdown_acks_alone turns h good taken =
    fit_open turns (chunk_turns_fit law e packet.tag (shutdown_acks_of packet.contents) [] turns taken h good.tag (acks_sendable packet.contents good.contents) nothing_ends).turns_fit
admitted_open law e packet (refused text) turns h good taken = inputs_open e (refusal text ∷ []) turns (tt, tt) taken

-- This holds for a packet that was sent.
pub packet_opens : OfferReadsBack → (e : Endpoint) (bytes : List ℕ) (emission : Emission) (turns : List Transition) → FitsEndpoint e → IsSendable emission
    → ((packet : PacketContent) → IsPacket (wire_options e.options) packet bytes → packet_of_content packet ≡ emission.packet) → HandleInput e bytes turns → AllOpenFitting turns
packet_opens law e bytes emission _ h good is (unreadable turns none taken) = inputs_open e (arrival ∷ refusal unreadable_text ∷ []) turns (tt, (tt, tt)) taken
packet_opens law e bytes emission _ h good is (readable packet counted turns found counting taken) =
    let same : packet_of_content packet ≡ emission.packet = is packet found in
    let fits : FitsEndpoint counted.outcome.after =
    subst (λ (x : Outcome). FitsEndpoint x.after) (sym counting.comes) (record { valid = h.valid; options = h.options; core = h.core; t1 = h.t1 }) in (
      input_opens e arrival counted tt counting,
      admitted_open law counted.outcome.after emission.packet (admits e.core emission.packet) turns fits good
          (subst (λ (p : Packet). AdmittedTurns counted.outcome.after p (admits e.core p) turns) same taken),
    )

pub record LinkFits (link : AssociationIdentity) : Type 0 where
  pub my : FitsPair link.my
  pub peer : FitsPair link.peer

pub link_fits : (core : Core) (link : AssociationIdentity) → FitsCore core → identity_of_core core ≡ Some link → LinkFits link
link_fits closed link fits is = absurd (cc)
link_fits (cookie_wait my) link fits is = absurd (cc)
link_fits (cookie_echoed my held cookie) link fits is =
    let same : identity_of my held ≡ link = cc in
    subst LinkFits same (record { my = fits.0; peer = fits.1.peer })
link_fits (open_in phase my held) link fits is =
    let same : identity_of my held ≡ link = cc in
    subst LinkFits same (record { my = fits.0; peer = fits.1.peer })

pub not_zero : (n : ℕ) → 1 ≤ n → n ≢ 0
not_zero n some zero = absurd (omega arith)

-- What is announced is read again, and refused packets.
use Rattle.std.proofs.Common.{◌≡◌, ℕ, Bool, true, false, cond, eqb, Option, Some, None, List, [], ◌∷◌, ◌++◌, refl, subst, ap, ◌∙◌, arith}
use Rattle.std.proofs.lemmas.Bool.Decides.{nat_tests}
use Rattle.dcsctp_spec_lemmas.specs.wire.declared.packet.WireOptions.{WireOptions}
use Rattle.dcsctp_spec_lemmas.specs.wire.Content.{ParameterContent, supported_extensions, zero_checksum_acceptable, forward_tsn_supported, PacketContent}
use Rattle.dcsctp_spec_lemmas.specs.types.Offer.{Offer, offer_announced}
use Rattle.dcsctp_spec_lemmas.specs.wire.Numbers.{re_config_type, forward_tsn_type, i_data_type, i_forward_tsn_type}
use Rattle.dcsctp_spec_lemmas.specs.spec.Packet.{cookie_parameters, packet_of_content}
use Rattle.dcsctp_spec_lemmas.specs.types.Settings.{wire_options}
use Rattle.dcsctp_spec_lemmas.specs.spec.endpoint.Endpoint.{Endpoint}
use Rattle.dcsctp_spec_lemmas.specs.spec.endpoint.Outcome.{Outcome}
use Rattle.dcsctp_spec_lemmas.specs.spec.endpoint.Turn.{arrival, refusal, unreadable_text, arrival_outcome, refusal_outcome}
use Rattle.dcsctp_spec_lemmas.specs.spec.Admission.{Admission, refused, admits}
use Rattle.dcsctp_spec_lemmas.specs.spec.endpoint.CallTurns.{Transition, Turns, AdmittedTurns, HandleInput, unreadable, readable}
use Rattle.dcsctp_spec_lemmas.specs.wire.Format.{IsPacket}
use Rattle.dcsctp_spec_runs.specs.Laws.{OfferReadsBack, CapabilitiesHoldOffer, IsPacketRefused, RefusedPacketAddsOneError}

-- bytes say at most one packet, by the wire's law
abbrev pub OneReading : Type 0
OneReading = (options : WireOptions) (bytes : List ℕ) (p q : PacketContent) → IsPacket options p bytes → IsPacket options q bytes → p ≡ q

pub capabilities_hold_offer : CapabilitiesHoldOffer
capabilities_hold_offer offer = refl

-- an offer of these features
abbrev made_offer : Bool → Bool → ℕ → ℕ → ℕ → Offer
made_offer partial interleaving method inbound outbound =
    record { partial_reliability = partial; message_interleaving = interleaving; reconfig = true; zero_checksum_method = method; inbound_streams = inbound; outbound_streams = outbound }

-- the parameters of an offer, by whether there is no method
abbrev parameters_by : Bool → Bool → Bool → ℕ → List ParameterContent
parameters_by partial interleaving no_method method =
    cond partial (forward_tsn_supported ∷ []) []
    ++ cond no_method [] (zero_checksum_acceptable method ∷ [])
    ++ supported_extensions (re_config_type ∷ (cond partial (forward_tsn_type ∷ []) [] ++ cond interleaving (i_data_type ∷ i_forward_tsn_type ∷ []) [])) ∷ []

read_by : (partial interleaving no_method : Bool) (method inbound outbound : ℕ) (cookie : Option (List ℕ))
    → offer_announced outbound inbound (parameters_by partial interleaving no_method method ++ cookie_parameters cookie) ≡ made_offer partial interleaving (cond no_method 0 method) inbound outbound
read_by true true true method inbound outbound None = refl
read_by true true true method inbound outbound (Some bytes) = refl
read_by true true false method inbound outbound None = refl
read_by true true false method inbound outbound (Some bytes) = refl
read_by true false true method inbound outbound None = refl
read_by true false true method inbound outbound (Some bytes) = refl
read_by true false false method inbound outbound None = refl
read_by true false false method inbound outbound (Some bytes) = refl
read_by false true true method inbound outbound None = refl
read_by false true true method inbound outbound (Some bytes) = refl
read_by false true false method inbound outbound None = refl
read_by false true false method inbound outbound (Some bytes) = refl
read_by false false true method inbound outbound None = refl
read_by false false true method inbound outbound (Some bytes) = refl
read_by false false false method inbound outbound None = refl
read_by false false false method inbound outbound (Some bytes) = refl

none_is_0 : (method : ℕ) → cond (eqb method 0) 0 method ≡ method
none_is_0 method = grind (arith, nat_tests)

pub offer_reads_back : OfferReadsBack
offer_reads_back options method cookie =
    let partial = options.enable_partial_reliability in
    let interleaving = options.enable_message_interleaving in
    let inbound = options.announced_maximum_incoming_streams in
    let outbound = options.announced_maximum_outgoing_streams in
    read_by partial interleaving (eqb method 0) method inbound outbound cookie ∙ ap (λ (n : ℕ). made_offer partial interleaving n inbound outbound) (none_is_0 method)

-- ---- refused packets

-- a packet that is counted, and then refused
counted_and_refused : (e : Endpoint) (text : List ℕ) (ts : List Transition) → Turns e (arrival ∷ refusal text ∷ []) ts → IsPacketRefused e text ts
counted_and_refused e text [] turns = absurd turns
counted_and_refused e text (t ∷ []) turns = absurd turns.1
counted_and_refused e text (t ∷ u ∷ []) turns =
    let first : t.outcome ≡ arrival_outcome e = turns.0.comes in
    let second : u.outcome ≡ refusal_outcome t.outcome.after text = turns.1.0.comes in
    record {
      endpoint = ap (λ (x : Outcome). x.after) second ∙ ap (λ (x : Outcome). x.after) first;
      events = ap (λ (x : Outcome). x.events ++ (u.outcome.events ++ [])) first ∙ ap (λ (x : Outcome). x.events ++ []) second;
      words = ap (λ (x : Outcome). x.words ++ (u.outcome.words ++ [])) first ∙ ap (λ (x : Outcome). x.words ++ []) second;
      effects = ap (λ (x : Outcome). x.effects ++ (u.outcome.effects ++ [])) first ∙ ap (λ (x : Outcome). x.effects ++ []) second;
    }
counted_and_refused e text (t ∷ u ∷ v ∷ ts) turns = absurd turns.1.1

unreadable_refused : (e : Endpoint) (bytes : List ℕ) (turns : List Transition) → HandleInput e bytes turns
    → ((packet : PacketContent) → IsPacket (wire_options e.options) packet bytes → ⊥)
    → IsPacketRefused e unreadable_text turns
unreadable_refused e bytes turns (unreadable ts none taken) nothing = counted_and_refused e unreadable_text turns taken
unreadable_refused e bytes turns (readable packet counted ts found turn admitted) nothing = absurd (nothing packet found)

admission_refused : OneReading → (e : Endpoint) (bytes text : List ℕ) (packet : PacketContent) (turns : List Transition) → HandleInput e bytes turns
    → IsPacket (wire_options e.options) packet bytes → admits e.core (packet_of_content packet) ≡ refused text
    → IsPacketRefused e text turns
admission_refused one e bytes text packet turns (unreadable ts none taken) found refuses = absurd (none packet found)
admission_refused one e bytes text packet turns (readable other counted ts there turn admitted) found refuses =
    let same : other ≡ packet = one (wire_options e.options) bytes other packet there found in
    let says : admits e.core (packet_of_content other) ≡ refused text = ap (λ (p : PacketContent). admits e.core (packet_of_content p)) same ∙ refuses in
    let taken : Turns counted.outcome.after (refusal text ∷ []) ts = subst (λ (a : Admission). AdmittedTurns counted.outcome.after (packet_of_content other) a ts) says admitted in
    counted_and_refused e text (counted ∷ ts) (turn, taken)

pub refused_packet_adds_one_error : OneReading → RefusedPacketAddsOneError
refused_packet_adds_one_error one = record { unreadable = unreadable_refused; refused = admission_refused one }

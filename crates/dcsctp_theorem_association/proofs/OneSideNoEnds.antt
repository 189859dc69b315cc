-- Effects without an end event: those of emissions, of flushes and of RE-CONFIG.
use Rattle.std.proofs.Common.{◌≡◌, ℕ, Bool, true, false, Option, None, Some, List, [], ◌∷◌, ◌++◌, refl, arith}
use Rattle.dcsctp_spec_lemmas.specs.types.declared.association.Pair.{Pair}
use Rattle.dcsctp_spec_lemmas.specs.types.declared.association.Held.{Held}
use Rattle.dcsctp_spec_lemmas.specs.wire.declared.reconfiguration.ReconfigurationResponseResult.{ReconfigurationResponseResult}
use Rattle.dcsctp_spec_lemmas.specs.wire.declared.reconfiguration.ReconfigurationResponseResult.TheVariants.{InProgress}
use Rattle.dcsctp_spec_lemmas.specs.spec.Reconfiguration.{RequestState, early, due, renewed, ResetParameter, RequestedReset, outgoing_reset_request, incoming_reset_request, reconfiguration_response, other_reset_parameter}
use Rattle.dcsctp_spec_lemmas.specs.spec.Packet.{Plain, Content, re_config}
use Rattle.dcsctp_spec_lemmas.specs.spec.association.Effect.{Effect, ends, emission_effects, emitted_alone}
use Rattle.dcsctp_spec_lemmas.specs.spec.association.Choices.{plain_contents, Filling, Choices}
use Rattle.dcsctp_spec_lemmas.specs.spec.association.FlushChanges.{FlushResult, reset_to_begin, further_packets, flushed_with, flush_if_allowed, flush}
use Rattle.dcsctp_spec_lemmas.specs.spec.association.ResetChanges.{RequestPlace, again, next, astray, request_place, RequestOutcome, performed_request, repeated_request_outcome, next_request, is_due, outgoing_by_place, incoming_by_place, AnswerResult, result_if_outstanding, is_outstanding, HandledParameters, parameters_outcome, reset_chunk_outcome, answers_emitted, reset_sent, peer_part_handled}
use Rattle.dcsctp_spec_lemmas.specs.spec.association.Acts.{sent_then_flushed}
use Rattle.dcsctp_theorem_association.specs.OneSide.{count_of_ends}

-- ---- packets and flushes

no_ends-append : (xs ys : List Effect) → count_of_ends xs ≡ 0 → count_of_ends ys ≡ 0 → count_of_ends (xs ++ ys) ≡ 0
no_ends-append [] ys a b = b
no_ends-append (ends ∷ xs) ys a b = absurd (omega arith)
no_ends-append (effect ∷ xs) ys a b = no_ends-append xs ys a b

pub no_ends-emitted : (tag : ℕ) (contents : List Content) → count_of_ends (emission_effects tag contents) ≡ 0
no_ends-emitted tag [] = refl
no_ends-emitted tag (content ∷ contents) = refl

pub no_ends-alone : (fits : Bool) (tag : ℕ) (content : Content) → count_of_ends (emitted_alone fits tag content) ≡ 0
no_ends-alone true tag content = refl
no_ends-alone false tag content = refl

pub one_end-alone : (fits : Bool) (tag : ℕ) (content : Content) → count_of_ends (emitted_alone fits tag content ++ ends ∷ []) ≡ 1
one_end-alone true tag content = refl
one_end-alone false tag content = refl

no_ends-further : (tag : ℕ) (packets : List (List Plain)) → count_of_ends (further_packets tag packets) ≡ 0
no_ends-further tag [] = refl
no_ends-further tag (chunks ∷ packets) = no_ends-append (emission_effects tag (plain_contents chunks)) (further_packets tag packets) (no_ends-emitted tag (plain_contents chunks)) (no_ends-further tag packets)

no_ends-packets : (tag : ℕ) (contents : List Content) (packets : List (List Plain)) → count_of_ends (emission_effects tag contents ++ further_packets tag packets) ≡ 0
no_ends-packets tag contents packets = no_ends-append (emission_effects tag contents) (further_packets tag packets) (no_ends-emitted tag contents) (no_ends-further tag packets)

no_ends-flushed : (tag : ℕ) (held : Held) (front : List Content) (filling : Filling) (reset : Option RequestedReset) → count_of_ends (flushed_with tag held front filling reset).effects ≡ 0
no_ends-flushed tag held front filling None = no_ends-packets tag _ filling.further
no_ends-flushed tag held front filling (Some reset) = no_ends-packets tag _ filling.further

no_ends-flush_where : (is_allowed : Bool) (tag : ℕ) (held : Held) (front : List Content) (filling : Filling) → count_of_ends (flush_if_allowed is_allowed tag held front filling).effects ≡ 0
no_ends-flush_where false tag held front filling = refl
no_ends-flush_where true tag held front filling = no_ends-flushed tag held front filling (reset_to_begin held.own_outstanding filling.reset)

pub no_ends-flush : (tag : ℕ) (held : Held) (front : List Content) (filling : Filling) → count_of_ends (flush tag held front filling).effects ≡ 0
no_ends-flush tag held front filling = no_ends-flush_where filling.is_allowed tag held front filling

pub no_ends-sent : (held : Held) (choices : Choices) → count_of_ends (sent_then_flushed held choices).effects ≡ 0
no_ends-sent held choices =
    no_ends-append (further_packets held.peer.tag choices.plain) (flush held.peer.tag held [] choices.filling).effects
    (no_ends-further held.peer.tag choices.plain) (no_ends-flush held.peer.tag held [] choices.filling)

-- ---- RE-CONFIG

no_ends-worked : (held : Held) (number : ℕ) (is_reached : Bool) → count_of_ends (performed_request held number is_reached).effects ≡ 0
no_ends-worked held number true = refl
no_ends-worked held number false = refl

no_ends-repeated : (held : Held) (result : ReconfigurationResponseResult) (is_reached : Bool) → count_of_ends (repeated_request_outcome held result is_reached).effects ≡ 0
no_ends-repeated held InProgress is_reached = no_ends-worked held held.peer_last is_reached
no_ends-repeated held result is_reached = refl

no_ends-next : (held : Held) (number : ℕ) (state : RequestState) → count_of_ends (next_request held number state).effects ≡ 0
no_ends-next held number early = refl
no_ends-next held number due = refl
no_ends-next held number renewed = refl

no_ends-outgoing : (held : Held) (number : ℕ) (state : RequestState) (place : RequestPlace) → count_of_ends (outgoing_by_place held number state place).effects ≡ 0
no_ends-outgoing held number state again = no_ends-repeated held held.peer_result (is_due state)
no_ends-outgoing held number state next = no_ends-next held number state
no_ends-outgoing held number state astray = refl

no_ends-incoming : (held : Held) (number : ℕ) (place : RequestPlace) → count_of_ends (incoming_by_place held number place).effects ≡ 0
no_ends-incoming held number again = refl
no_ends-incoming held number place = refl

no_ends-informed : (my : Pair) (held : Held) (number : ℕ) (result : ReconfigurationResponseResult) (is_it : Bool) → count_of_ends (result_if_outstanding my held number result is_it).effects ≡ 0
no_ends-informed my held number result false = refl
no_ends-informed my held number InProgress true = refl
no_ends-informed my held number result true = refl

no_ends-parameters : (my : Pair) (state : RequestState) (has_worked : Bool) (held : Held) (parameters : List ResetParameter) → count_of_ends (parameters_outcome my state has_worked held parameters).effects ≡ 0
no_ends-parameters my state has_worked held [] = refl
no_ends-parameters my state true held (outgoing_reset_request number answered reset ∷ parameters) = refl
no_ends-parameters my state false held (outgoing_reset_request number answered reset ∷ parameters) =
    let first : RequestOutcome = outgoing_by_place held number state (request_place held.peer_last number) in
    no_ends-append first.effects (parameters_outcome my state true first.held parameters).effects
    (no_ends-outgoing held number state (request_place held.peer_last number))
    (no_ends-parameters my state true first.held parameters)
no_ends-parameters my state has_worked held (incoming_reset_request number streams ∷ parameters) =
    let first : RequestOutcome = incoming_by_place held number (request_place held.peer_last number) in
    no_ends-append first.effects (parameters_outcome my state has_worked first.held parameters).effects
    (no_ends-incoming held number (request_place held.peer_last number))
    (no_ends-parameters my state has_worked first.held parameters)
no_ends-parameters my state has_worked held (reconfiguration_response number result ∷ parameters) =
    let first : AnswerResult = result_if_outstanding my held number result (is_outstanding number held.own_outstanding) in
    no_ends-append first.effects (parameters_outcome my state has_worked first.held parameters).effects
    (no_ends-informed my held number result (is_outstanding number held.own_outstanding))
    (no_ends-parameters my state has_worked first.held parameters)
no_ends-parameters my state has_worked held (other_reset_parameter parameter ∷ parameters) = no_ends-parameters my state has_worked held parameters

no_ends-chunk : (my : Pair) (state : RequestState) (held : Held) (parameters : List ResetParameter) → count_of_ends (reset_chunk_outcome my state held parameters).effects ≡ 0
no_ends-chunk my state held [] = refl
no_ends-chunk my state held (parameter ∷ parameters) = no_ends-parameters my state false held (parameter ∷ parameters)

no_ends-answers : (fits : Bool) (tag : ℕ) (answers : List ResetParameter) → count_of_ends (answers_emitted fits tag answers) ≡ 0
no_ends-answers fits tag [] = refl
no_ends-answers fits tag (answer ∷ answers) = no_ends-alone fits tag (re_config (answer ∷ answers))

no_ends-reset_sent : (is_refused : Bool) (held : Held) (answers : List ResetParameter) (choices : Choices) → count_of_ends (reset_sent is_refused held answers choices).effects ≡ 0
no_ends-reset_sent true held answers choices = refl
no_ends-reset_sent false held answers choices =
    no_ends-append (answers_emitted choices.fits held.peer.tag answers) (flush held.peer.tag held [] choices.filling).effects
    (no_ends-answers choices.fits held.peer.tag answers) (no_ends-flush held.peer.tag held [] choices.filling)

pub no_ends-reset : (my : Pair) (held : Held) (parameters : List ResetParameter) (choices : Choices) → count_of_ends (peer_part_handled my held parameters choices).effects ≡ 0
no_ends-reset my held parameters choices =
    let first : HandledParameters = reset_chunk_outcome my choices.state held parameters in
    let after : FlushResult = reset_sent first.is_refused first.held first.answers choices in
    no_ends-append first.effects after.effects
    (no_ends-chunk my choices.state held parameters)
    (no_ends-reset_sent first.is_refused first.held first.answers choices)

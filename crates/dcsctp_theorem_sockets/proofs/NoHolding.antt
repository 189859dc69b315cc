-- Emissions, flushes and RE-CONFIG make no association.
use Rattle.std.proofs.Common.{ℕ, Bool, true, false, Option, None, Some, List, [], ◌∷◌, ◌++◌}
use Rattle.std.specs.List.{AllByRecursion}
use Rattle.dcsctp_spec_lemmas.specs.types.declared.association.Pair.{Pair}
use Rattle.dcsctp_spec_lemmas.specs.types.declared.association.Held.{Held}
use Rattle.dcsctp_spec_lemmas.specs.wire.declared.reconfiguration.ReconfigurationResponseResult.{ReconfigurationResponseResult}
use Rattle.dcsctp_spec_lemmas.specs.wire.declared.reconfiguration.ReconfigurationResponseResult.TheVariants.{InProgress}
use Rattle.dcsctp_spec_lemmas.specs.spec.Reconfiguration.{RequestState, early, due, renewed, ResetParameter, RequestedReset, outgoing_reset_request, incoming_reset_request, reconfiguration_response, other_reset_parameter}
use Rattle.dcsctp_spec_lemmas.specs.spec.Packet.{Plain, Content, re_config}
use Rattle.dcsctp_spec_lemmas.specs.spec.association.Effect.{Effect, holds, emission_effects, emitted_alone}
use Rattle.dcsctp_spec_lemmas.specs.spec.association.Choices.{plain_contents, Filling, Choices}
use Rattle.dcsctp_spec_lemmas.specs.spec.association.FlushChanges.{FlushResult, reset_request, reset_to_begin, further_packets, chunks_behind, flushed_with, flush_if_allowed, flush}
use Rattle.dcsctp_spec_lemmas.specs.spec.association.ResetChanges.{RequestPlace, again, next, astray, request_place, RequestOutcome, performed_request, repeated_request_outcome, next_request, is_due, outgoing_by_place, incoming_by_place, AnswerResult, result_if_outstanding, is_outstanding, HandledParameters, parameters_outcome, reset_chunk_outcome, answers_emitted, reset_sent, peer_part_handled}
use Rattle.dcsctp_spec_lemmas.specs.spec.association.Acts.{sent_then_flushed, request_sent, renewed_if_fitting}

-- It isn't that an association is there from here on.
abbrev pub IsNoHolding : Effect → Type 0
IsNoHolding (holds link) = ⊥
IsNoHolding effect = Unit {0}

abbrev pub HoldsNone : List Effect → Type 0
HoldsNone effects = AllByRecursion IsNoHolding effects

pub none-append : (xs ys : List Effect) → HoldsNone xs → HoldsNone ys → HoldsNone (xs ++ ys)
none-append [] ys a b = b
none-append (x ∷ xs) ys a b = (a.0, none-append xs ys a.1 b)

-- ---- packets and flushes

none-emitted : (tag : ℕ) (contents : List Content) → HoldsNone (emission_effects tag contents)
none-emitted tag [] = tt
none-emitted tag (content ∷ contents) = (tt, tt)

pub none-alone : (fits : Bool) (tag : ℕ) (content : Content) → HoldsNone (emitted_alone fits tag content)
none-alone true tag content = (tt, tt)
none-alone false tag content = tt

none-further : (tag : ℕ) (packets : List (List Plain)) → HoldsNone (further_packets tag packets)
none-further tag [] = tt
none-further tag (chunks ∷ packets) =
    none-append (emission_effects tag (plain_contents chunks)) (further_packets tag packets) (none-emitted tag (plain_contents chunks)) (none-further tag packets)

none-packets : (tag : ℕ) (contents : List Content) (packets : List (List Plain)) → HoldsNone (emission_effects tag contents ++ further_packets tag packets)
none-packets tag contents packets = none-append (emission_effects tag contents) (further_packets tag packets) (none-emitted tag contents) (none-further tag packets)

none-flushed : (tag : ℕ) (held : Held) (front : List Content) (filling : Filling) (reset : Option RequestedReset) → HoldsNone (flushed_with tag held front filling reset).effects
none-flushed tag held front filling None = none-packets tag (front ++ chunks_behind held.own_next filling None) filling.further
none-flushed tag held front filling (Some reset) = (tt, none-packets tag (front ++ chunks_behind held.own_next filling (Some reset)) filling.further)

none-flush_where : (is_allowed : Bool) (tag : ℕ) (held : Held) (front : List Content) (filling : Filling) → HoldsNone (flush_if_allowed is_allowed tag held front filling).effects
none-flush_where false tag held front filling = tt
none-flush_where true tag held front filling = none-flushed tag held front filling (reset_to_begin held.own_outstanding filling.reset)

pub none-flush : (tag : ℕ) (held : Held) (front : List Content) (filling : Filling) → HoldsNone (flush tag held front filling).effects
none-flush tag held front filling = none-flush_where filling.is_allowed tag held front filling

pub none-sent : (held : Held) (choices : Choices) → HoldsNone (sent_then_flushed held choices).effects
none-sent held choices =
    none-append (further_packets held.peer.tag choices.plain) (flush held.peer.tag held [] choices.filling).effects
    (none-further held.peer.tag choices.plain) (none-flush held.peer.tag held [] choices.filling)

pub none-request : (held : Held) (request : Option ℕ) (reset : RequestedReset) (fits : Bool) → HoldsNone (request_sent held request reset fits)
none-request held None reset fits = tt
none-request held (Some number) reset fits = none-alone fits held.peer.tag (reset_request number reset)

pub none-renewed : (held : Held) (request : Option ℕ) (reset : RequestedReset) (fits : Bool) → HoldsNone (renewed_if_fitting held request reset fits).effects
none-renewed held None reset fits = tt
none-renewed held (Some number) reset false = tt
none-renewed held (Some number) reset true = (tt, (tt, (tt, tt)))

-- ---- RE-CONFIG

none-worked : (held : Held) (number : ℕ) (is_reached : Bool) → HoldsNone (performed_request held number is_reached).effects
none-worked held number true = (tt, tt)
none-worked held number false = tt

none-repeated : (held : Held) (result : ReconfigurationResponseResult) (is_reached : Bool) → HoldsNone (repeated_request_outcome held result is_reached).effects
none-repeated held InProgress is_reached = none-worked held held.peer_last is_reached
none-repeated held result is_reached = tt

none-next : (held : Held) (number : ℕ) (state : RequestState) → HoldsNone (next_request held number state).effects
none-next held number early = tt
none-next held number due = (tt, tt)
none-next held number renewed = (tt, tt)

none-outgoing : (held : Held) (number : ℕ) (state : RequestState) (place : RequestPlace) → HoldsNone (outgoing_by_place held number state place).effects
none-outgoing held number state again = none-repeated held held.peer_result (is_due state)
none-outgoing held number state next = (tt, none-next held number state)
none-outgoing held number state astray = tt

none-incoming : (held : Held) (number : ℕ) (place : RequestPlace) → HoldsNone (incoming_by_place held number place).effects
none-incoming held number again = tt
none-incoming held number next = (tt, tt)
none-incoming held number astray = tt

none-informed : (my : Pair) (held : Held) (number : ℕ) (result : ReconfigurationResponseResult) (is_it : Bool) → HoldsNone (result_if_outstanding my held number result is_it).effects
none-informed my held number result false = tt
none-informed my held number InProgress true = tt
none-informed my held number result true = (tt, tt)

none-parameters : (my : Pair) (state : RequestState) (has_worked : Bool) (held : Held) (parameters : List ResetParameter) → HoldsNone (parameters_outcome my state has_worked held parameters).effects
none-parameters my state has_worked held [] = tt
none-parameters my state true held (outgoing_reset_request number answered reset ∷ parameters) = tt
none-parameters my state false held (outgoing_reset_request number answered reset ∷ parameters) =
    let first : RequestOutcome = outgoing_by_place held number state (request_place held.peer_last number) in
    none-append first.effects (parameters_outcome my state true first.held parameters).effects
    (none-outgoing held number state (request_place held.peer_last number)) (none-parameters my state true first.held parameters)
none-parameters my state has_worked held (incoming_reset_request number streams ∷ parameters) =
    let first : RequestOutcome = incoming_by_place held number (request_place held.peer_last number) in
    none-append first.effects (parameters_outcome my state has_worked first.held parameters).effects
    (none-incoming held number (request_place held.peer_last number)) (none-parameters my state has_worked first.held parameters)
none-parameters my state has_worked held (reconfiguration_response number result ∷ parameters) =
    let first : AnswerResult = result_if_outstanding my held number result (is_outstanding number held.own_outstanding) in
    none-append first.effects (parameters_outcome my state has_worked first.held parameters).effects
    (none-informed my held number result (is_outstanding number held.own_outstanding)) (none-parameters my state has_worked first.held parameters)
none-parameters my state has_worked held (other_reset_parameter parameter ∷ parameters) = none-parameters my state has_worked held parameters

none-chunk : (my : Pair) (state : RequestState) (held : Held) (parameters : List ResetParameter) → HoldsNone (reset_chunk_outcome my state held parameters).effects
none-chunk my state held [] = tt
none-chunk my state held (parameter ∷ parameters) = none-parameters my state false held (parameter ∷ parameters)

none-answers : (fits : Bool) (tag : ℕ) (answers : List ResetParameter) → HoldsNone (answers_emitted fits tag answers)
none-answers fits tag [] = tt
none-answers fits tag (answer ∷ answers) = none-alone fits tag (re_config (answer ∷ answers))

none-reset_sent : (is_refused : Bool) (held : Held) (answers : List ResetParameter) (choices : Choices) → HoldsNone (reset_sent is_refused held answers choices).effects
none-reset_sent true held answers choices = tt
none-reset_sent false held answers choices =
    none-append (answers_emitted choices.fits held.peer.tag answers) (flush held.peer.tag held [] choices.filling).effects
    (none-answers choices.fits held.peer.tag answers) (none-flush held.peer.tag held [] choices.filling)

pub none-reset : (my : Pair) (held : Held) (parameters : List ResetParameter) (choices : Choices) → HoldsNone (peer_part_handled my held parameters choices).effects
none-reset my held parameters choices =
    let first : HandledParameters = reset_chunk_outcome my choices.state held parameters in
    let after : FlushResult = reset_sent first.is_refused first.held first.answers choices in
    none-append first.effects after.effects (none-chunk my choices.state held parameters) (none-reset_sent first.is_refused first.held first.answers choices)

-- RE-CONFIG keeps what is true: its answers report what was performed.
use Rattle.std.proofs.Common.{◌≡◌, ℕ, Bool, true, false, List, [], ◌∷◌, ◌++◌, refl, sym, subst, ◌∙◌}
use Rattle.dcsctp_spec_lemmas.specs.types.declared.association.Pair.{Pair}
use Rattle.dcsctp_spec_lemmas.specs.types.declared.association.Held.{Held}
use Rattle.dcsctp_spec_lemmas.specs.types.Offer.{Offer}
use Rattle.dcsctp_spec_lemmas.specs.spec.Reconfiguration.{RequestState, ResetParameter, outgoing_reset_request, incoming_reset_request, reconfiguration_response, other_reset_parameter}
use Rattle.dcsctp_spec_lemmas.specs.spec.Packet.{re_config}
use Rattle.dcsctp_spec_lemmas.specs.spec.endpoint.Endpoint.{Core, closed, cookie_wait, cookie_echoed, open_in, own_tag}
use Rattle.dcsctp_spec_lemmas.specs.spec.association.Effect.{Effect}
use Rattle.dcsctp_spec_lemmas.specs.spec.association.Choices.{Choices}
use Rattle.dcsctp_spec_lemmas.specs.spec.association.FlushChanges.{FlushResult, flush}
use Rattle.dcsctp_spec_lemmas.specs.spec.association.ResetChanges.{request_place, RequestOutcome, outgoing_by_place, AnswerResult, result_if_outstanding, is_outstanding, HandledParameters, after_request, after_answer, parameters_outcome, reset_chunk_outcome, answers_emitted, reset_sent, peer_part_handled, re_config_change}
use Rattle.dcsctp_spec_runs.specs.World.{after_effects}
use Rattle.dcsctp_theorem_association.proofs.Facts.{TrueParameters, TrueEffects, PeerFacts, TrueCore}
use Rattle.dcsctp_theorem_association.proofs.Growth.{after_effects-append, after_within, effects-append, parameters_grow, peer_grows, same, then_true}
use Rattle.dcsctp_theorem_association.proofs.Echoes.{AllEchoFree, free_append, free_is_only, one_echo_after}
use Rattle.dcsctp_theorem_association.proofs.Flushes.{alone_true, alone_free, flush_true, flush_free, flush_peer, flush_pair}
use Rattle.dcsctp_theorem_association.proofs.Turns.{Kept, unchanged_kept, SameTag}
use Rattle.dcsctp_theorem_association.proofs.ResetAnswers.{Working, Answering, outgoing_answer, again_is_last, informed_where_working}

-- ---- the parameters after one another

pub record WorkedKept (my_offer their_offer : Offer) (mine theirs : List Effect) (my : Pair) (held : Held) (worked : HandledParameters) : Type 0 where
  pub working : Working my_offer their_offer mine theirs my held worked.held worked.effects
  pub answers : TrueParameters (after_effects worked.effects mine) theirs held.peer.tag worked.answers

-- one parameter and those after it
then_working : (my_offer their_offer : Offer) (mine theirs : List Effect) (my : Pair) (held middle after : Held) (first rest : List Effect)
    → Working my_offer their_offer mine theirs my held middle first → Working my_offer their_offer (after_effects first mine) theirs my middle after rest
    → Working my_offer their_offer mine theirs my held after (first ++ rest)
then_working my_offer their_offer mine theirs my held middle after first rest h k =
    record {
      true_effects = then_true my_offer their_offer mine theirs first rest h.true_effects k.true_effects;
      free = free_append first rest h.free k.free;
      facts = subst (λ (past : List Effect). PeerFacts my_offer their_offer past theirs my after) (sym (after_effects-append first rest mine)) k.facts;
      pair = k.pair ∙ h.pair;
      tags = λ t. subst SameTag (sym (after_effects-append first rest mine)) (k.tags (h.tags t));
    }

then_request : (my_offer their_offer : Offer) (mine theirs : List Effect) (my : Pair) (held : Held) (number : ℕ) (first : RequestOutcome) (rest : HandledParameters)
    → Answering my_offer their_offer mine theirs my held number first → WorkedKept my_offer their_offer (after_effects first.effects mine) theirs my first.held rest
    → WorkedKept my_offer their_offer mine theirs my held (after_request number first rest)
then_request my_offer their_offer mine theirs my held number first rest h k =
    let past : List Effect = after_effects rest.effects (after_effects first.effects mine) in
    let answers : TrueParameters past theirs held.peer.tag rest.answers = subst (λ (p : Pair). TrueParameters past theirs p.tag rest.answers) h.working.pair k.answers in
    let result : TrueParameters past theirs held.peer.tag (reconfiguration_response number first.result ∷ []) =
    parameters_grow (after_effects first.effects mine) theirs past theirs held.peer.tag (reconfiguration_response number first.result ∷ []) (after_within rest.effects (after_effects first.effects mine)) (same theirs) (h.result, tt) in
    record {
      working = then_working my_offer their_offer mine theirs my held first.held rest.held first.effects rest.effects h.working k.working;
      answers = subst (λ (past : List Effect). TrueParameters past theirs held.peer.tag (reconfiguration_response number first.result ∷ rest.answers)) (sym (after_effects-append first.effects rest.effects mine)) (result.0, answers);
    }

then_answer : (my_offer their_offer : Offer) (mine theirs : List Effect) (my : Pair) (held : Held) (first : AnswerResult) (rest : HandledParameters)
    → Working my_offer their_offer mine theirs my held first.held first.effects → WorkedKept my_offer their_offer (after_effects first.effects mine) theirs my first.held rest
    → WorkedKept my_offer their_offer mine theirs my held (after_answer first rest)
then_answer my_offer their_offer mine theirs my held first rest h k =
    record {
      working = then_working my_offer their_offer mine theirs my held first.held rest.held first.effects rest.effects h k.working;
      answers = subst (λ (past : List Effect). TrueParameters past theirs held.peer.tag rest.answers) (sym (after_effects-append first.effects rest.effects mine))
          (subst (λ (p : Pair). TrueParameters (after_effects rest.effects (after_effects first.effects mine)) theirs p.tag rest.answers) h.pair k.answers);
    }

nothing_worked : (my_offer their_offer : Offer) (mine theirs : List Effect) (my : Pair) (held : Held) (is_refused : Bool) → PeerFacts my_offer their_offer mine theirs my held
    → WorkedKept my_offer their_offer mine theirs my held (record { held = held; effects = []; answers = []; is_refused = is_refused })
nothing_worked my_offer their_offer mine theirs my held is_refused h = record { working = record { true_effects = tt; free = tt; facts = h; pair = refl; tags = λ t. t }; answers = tt }

parameters_kept : (my_offer their_offer : Offer) (mine theirs : List Effect) (my : Pair) (state : RequestState) (has_worked : Bool) (held : Held) (parameters : List ResetParameter)
    → SameTag mine → PeerFacts my_offer their_offer mine theirs my held → TrueParameters theirs mine my.tag parameters
    → WorkedKept my_offer their_offer mine theirs my held (parameters_outcome my state has_worked held parameters)
parameters_kept my_offer their_offer mine theirs my state true held [] tags h are = nothing_worked my_offer their_offer mine theirs my held false h
parameters_kept my_offer their_offer mine theirs my state false held [] tags h are = nothing_worked my_offer their_offer mine theirs my held false h
parameters_kept my_offer their_offer mine theirs my state true held (outgoing_reset_request number answered reset ∷ parameters) tags h are =
    nothing_worked my_offer their_offer mine theirs my held true h
parameters_kept my_offer their_offer mine theirs my state false held (outgoing_reset_request number answered reset ∷ parameters) tags h are =
    let first : RequestOutcome = outgoing_by_place held number state (request_place held.peer_last number) in
    let one : Answering my_offer their_offer mine theirs my held number first = outgoing_answer my_offer their_offer mine theirs my held number state (request_place held.peer_last number) h (again_is_last held.peer_last number) in
    then_request my_offer their_offer mine theirs my held number first (parameters_outcome my state true first.held parameters) one
    (parameters_kept my_offer their_offer (after_effects first.effects mine) theirs my state true first.held parameters (one.working.tags tags) one.working.facts
    (parameters_grow theirs mine theirs (after_effects first.effects mine) my.tag parameters (same theirs) (after_within first.effects mine) are.1))
parameters_kept my_offer their_offer mine theirs my state has_worked held (incoming_reset_request number streams ∷ parameters) tags h are = absurd are.0
parameters_kept my_offer their_offer mine theirs my state true held (reconfiguration_response number result ∷ parameters) tags h are =
    let first : AnswerResult = result_if_outstanding my held number result (is_outstanding number held.own_outstanding) in
    let one : Working my_offer their_offer mine theirs my held first.held first.effects = informed_where_working my_offer their_offer mine theirs my held number result (is_outstanding number held.own_outstanding) tags h are.0 in
    then_answer my_offer their_offer mine theirs my held first (parameters_outcome my state true first.held parameters) one
    (parameters_kept my_offer their_offer (after_effects first.effects mine) theirs my state true first.held parameters (one.tags tags) one.facts
    (parameters_grow theirs mine theirs (after_effects first.effects mine) my.tag parameters (same theirs) (after_within first.effects mine) are.1))
parameters_kept my_offer their_offer mine theirs my state false held (reconfiguration_response number result ∷ parameters) tags h are =
    let first : AnswerResult = result_if_outstanding my held number result (is_outstanding number held.own_outstanding) in
    let one : Working my_offer their_offer mine theirs my held first.held first.effects = informed_where_working my_offer their_offer mine theirs my held number result (is_outstanding number held.own_outstanding) tags h are.0 in
    then_answer my_offer their_offer mine theirs my held first (parameters_outcome my state false first.held parameters) one
    (parameters_kept my_offer their_offer (after_effects first.effects mine) theirs my state false first.held parameters (one.tags tags) one.facts
    (parameters_grow theirs mine theirs (after_effects first.effects mine) my.tag parameters (same theirs) (after_within first.effects mine) are.1))
parameters_kept my_offer their_offer mine theirs my state true held (other_reset_parameter parameter ∷ parameters) tags h are =
    parameters_kept my_offer their_offer mine theirs my state true held parameters tags h are.1
parameters_kept my_offer their_offer mine theirs my state false held (other_reset_parameter parameter ∷ parameters) tags h are =
    parameters_kept my_offer their_offer mine theirs my state false held parameters tags h are.1

-- ---- the chunk

emission_true : (my_offer their_offer : Offer) (mine theirs : List Effect) (tag : ℕ) (fits : Bool) (answers : List ResetParameter)
    → TrueParameters mine theirs tag answers → TrueEffects my_offer their_offer mine theirs (answers_emitted fits tag answers)
emission_true my_offer their_offer mine theirs tag fits [] are = tt
emission_true my_offer their_offer mine theirs tag fits (answer ∷ answers) are = alone_true my_offer their_offer mine theirs fits tag (re_config (answer ∷ answers)) are

emission_free : (tag : ℕ) (fits : Bool) (answers : List ResetParameter) → AllEchoFree (answers_emitted fits tag answers)
emission_free tag fits [] = tt
emission_free tag fits (answer ∷ answers) = alone_free fits tag (re_config (answer ∷ answers)) tt

-- what the answers, and the flush after them, leave
pub record SentKept (my_offer their_offer : Offer) (mine theirs : List Effect) (my : Pair) (held : Held) (sent : FlushResult) : Type 0 where
  pub true_effects : TrueEffects my_offer their_offer mine theirs sent.effects
  pub free : AllEchoFree sent.effects
  pub facts : PeerFacts my_offer their_offer mine theirs my sent.held
  pub pair : sent.held.peer ≡ held.peer

answers_kept : (my_offer their_offer : Offer) (mine theirs : List Effect) (my : Pair) (is_refused : Bool) (held : Held) (answers : List ResetParameter) (choices : Choices)
    → PeerFacts my_offer their_offer mine theirs my held → TrueParameters mine theirs held.peer.tag answers
    → SentKept my_offer their_offer mine theirs my held (reset_sent is_refused held answers choices)
answers_kept my_offer their_offer mine theirs my true held answers choices h are = record { true_effects = tt; free = tt; facts = h; pair = refl }
answers_kept my_offer their_offer mine theirs my false held answers choices h are =
    let effects : List Effect = (flush held.peer.tag held [] choices.filling).effects in
    record {
      true_effects = effects-append my_offer their_offer mine theirs (answers_emitted choices.fits held.peer.tag answers) effects
          (emission_true my_offer their_offer mine theirs held.peer.tag choices.fits answers are) (flush_true my_offer their_offer mine theirs held.peer.tag held [] choices.filling tt);
      free = free_append (answers_emitted choices.fits held.peer.tag answers) effects (emission_free held.peer.tag choices.fits answers) (flush_free held.peer.tag held [] choices.filling tt);
      facts = flush_peer my_offer their_offer mine theirs my held.peer.tag held [] choices.filling h;
      pair = flush_pair held.peer.tag held [] choices.filling;
    }

chunk_kept : (my_offer their_offer : Offer) (mine theirs : List Effect) (my : Pair) (state : RequestState) (held : Held) (parameters : List ResetParameter)
    → SameTag mine → PeerFacts my_offer their_offer mine theirs my held → TrueParameters theirs mine my.tag parameters
    → WorkedKept my_offer their_offer mine theirs my held (reset_chunk_outcome my state held parameters)
chunk_kept my_offer their_offer mine theirs my state held [] tags h are = nothing_worked my_offer their_offer mine theirs my held true h
chunk_kept my_offer their_offer mine theirs my state held (parameter ∷ parameters) tags h are =
    parameters_kept my_offer their_offer mine theirs my state false held (parameter ∷ parameters) tags h are

-- the whole chunk
pub record ResetKept (my_offer their_offer : Offer) (mine theirs : List Effect) (my : Pair) (held : Held) (after : AnswerResult) : Type 0 where
  pub true_effects : TrueEffects my_offer their_offer mine theirs after.effects
  pub free : AllEchoFree after.effects
  pub facts : PeerFacts my_offer their_offer (after_effects after.effects mine) theirs my after.held
  pub pair : after.held.peer ≡ held.peer

reset_kept : (my_offer their_offer : Offer) (mine theirs : List Effect) (my : Pair) (held : Held) (parameters : List ResetParameter) (choices : Choices)
    → SameTag mine → PeerFacts my_offer their_offer mine theirs my held → TrueParameters theirs mine my.tag parameters
    → ResetKept my_offer their_offer mine theirs my held (peer_part_handled my held parameters choices)
reset_kept my_offer their_offer mine theirs my held parameters choices tags h are =
    let worked : HandledParameters = reset_chunk_outcome my choices.state held parameters in
    let past : List Effect = after_effects worked.effects mine in
    let k : WorkedKept my_offer their_offer mine theirs my held worked = chunk_kept my_offer their_offer mine theirs my choices.state held parameters tags h are in
    let answers : TrueParameters past theirs worked.held.peer.tag worked.answers = subst (λ (p : Pair). TrueParameters past theirs p.tag worked.answers) (sym k.working.pair) k.answers in
    let sent : SentKept my_offer their_offer past theirs my worked.held (reset_sent worked.is_refused worked.held worked.answers choices) =
    answers_kept my_offer their_offer past theirs my worked.is_refused worked.held worked.answers choices k.working.facts answers in
    let effects : List Effect = (reset_sent worked.is_refused worked.held worked.answers choices).effects in
    record {
      true_effects = then_true my_offer their_offer mine theirs worked.effects effects k.working.true_effects sent.true_effects;
      free = free_append worked.effects effects k.working.free sent.free;
      facts = subst (λ (p : List Effect). PeerFacts my_offer their_offer p theirs my (reset_sent worked.is_refused worked.held worked.answers choices).held) (sym (after_effects-append worked.effects effects mine))
          (peer_grows my_offer their_offer past theirs (after_effects effects past) theirs my (reset_sent worked.is_refused worked.held worked.answers choices).held (after_within effects past) (same theirs) sent.facts);
      pair = sent.pair ∙ k.working.pair;
    }

pub re_config_kept : (follows : Bool) (my_offer their_offer : Offer) (mine theirs : List Effect) (core : Core) (parameters : List ResetParameter) (choices : Choices) (tag : ℕ)
    → SameTag mine → TrueCore my_offer their_offer mine theirs core → TrueParameters theirs mine tag parameters → tag ≡ own_tag core
    → Kept my_offer their_offer mine theirs (re_config_change follows core parameters choices)
re_config_kept follows my_offer their_offer mine theirs closed parameters choices tag tags h are is = unchanged_kept my_offer their_offer mine theirs closed h
re_config_kept follows my_offer their_offer mine theirs (cookie_wait my) parameters choices tag tags h are is = unchanged_kept my_offer their_offer mine theirs (cookie_wait my) h
re_config_kept true my_offer their_offer mine theirs (cookie_echoed my held bytes) parameters choices tag tags h are is =
    unchanged_kept my_offer their_offer mine theirs (cookie_echoed my held bytes) h
re_config_kept false my_offer their_offer mine theirs (cookie_echoed my held bytes) parameters choices tag tags h are is =
    let k : ResetKept my_offer their_offer mine theirs my held (peer_part_handled my held parameters choices) =
    reset_kept my_offer their_offer mine theirs my held parameters choices tags h.0 (subst (λ (t : ℕ). TrueParameters theirs mine t parameters) is are) in
    record {
      effects = k.true_effects;
      core = (
        k.facts,
        one_echo_after my.tag bytes (peer_part_handled my held parameters choices).effects mine (free_is_only bytes (peer_part_handled my held parameters choices).effects k.free) h.1,
        record { cookie = h.2.cookie; reads = h.2.reads; maker = h.2.maker ∙ sym k.pair; addressee = h.2.addressee; offer = h.2.offer },
      );
    }
re_config_kept follows my_offer their_offer mine theirs (open_in phase my held) parameters choices tag tags h are is =
    let k : ResetKept my_offer their_offer mine theirs my held (peer_part_handled my held parameters choices) =
    reset_kept my_offer their_offer mine theirs my held parameters choices tags h (subst (λ (t : ℕ). TrueParameters theirs mine t parameters) is are) in
    record { effects = k.true_effects; core = k.facts }

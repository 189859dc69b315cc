-- What a socket recorded gives the numbers of its peer's requests, turn by turn.
use Rattle.std.proofs.Common.{◌≡◌, ◌==◌, ℕ, Bool, true, false, Some, List, [], ◌∷◌, ◌++◌, refl, sym, ◌∙◌, ap, subst}
use Rattle.std.specs.Prelude.{if◌then◌else◌, Option, None}
use Rattle.std.proofs.lemmas.Bool.Decides.{Decides-eqb}
use Rattle.dcsctp_spec_lemmas.specs.wire.declared.reconfiguration.ReconfigurationResponseResult.{ReconfigurationResponseResult}
use Rattle.dcsctp_spec_lemmas.specs.wire.declared.reconfiguration.ReconfigurationResponseResult.TheVariants.{InProgress}
use Rattle.dcsctp_spec_lemmas.specs.types.declared.association.Held.{Held}
use Rattle.dcsctp_spec_lemmas.specs.types.declared.association.Pair.{Pair}
use Rattle.dcsctp_spec_lemmas.specs.types.declared.options.Options.{Options}
use Rattle.dcsctp_spec_lemmas.specs.spec.endpoint.CallTurns.{Transition, AlongTurns, after_all, effects_of}
use Rattle.dcsctp_spec_lemmas.specs.spec.endpoint.Endpoint.{Endpoint, Core, closed, cookie_wait, cookie_echoed, open_in, established, fresh_endpoint}
use Rattle.dcsctp_spec_lemmas.specs.spec.Packet.{cookie_ack, re_config}
use Rattle.dcsctp_spec_runs.specs.Past.{Each, InPlace, number_to_perform}
use Rattle.dcsctp_spec_lemmas.specs.spec.Reconfiguration.{due, ResetParameter, outgoing_reset_request, reconfiguration_response}
use Rattle.dcsctp_spec_lemmas.specs.types.Settings.{SameOptions}
use Rattle.dcsctp_spec_runs.specs.World.{SideState, after_effects, ControlTurn, acted, worked, resumed, SideRun, side_after}
use Rattle.dcsctp_spec_lemmas.specs.spec.association.Acts.{Act, connect, t1_expires, shut_down, step_of_shutdown, shutdown_repeats, abort_with, hands_over, flushes, request_again, request_renewed, act_change, chunk_change}
use Rattle.dcsctp_spec_lemmas.specs.spec.association.Choices.{Choices, idle_choices, Filling, nothing_to_send}
use Rattle.dcsctp_spec_lemmas.specs.spec.association.Effect.{Effect, performs, effects_without_packets, Change, connects, identity_of}
use Rattle.dcsctp_spec_lemmas.specs.spec.association.FlushChanges.{next_number, reset_to_begin, flushed_with}
use Rattle.dcsctp_spec_lemmas.specs.spec.association.ResetChanges.{again, next, astray, request_place, RequestOutcome, repeated_request_outcome, outgoing_by_place, reset_sent}
use Rattle.dcsctp_spec_lemmas.specs.spec.association.ResetChanges as resets
use Rattle.dcsctp_spec_runs.proofs.DeliveryLemmas.{longest_connects, chunk_same}
use Rattle.dcsctp_spec_laws.proofs.TurnLemmas.{same_after}
use Rattle.dcsctp_theorem_association.specs.OneSide.{LeavesCore, LeavesHeld}
use Rattle.dcsctp_theorem_association.proofs.Growth.{after_effects-append}
use Rattle.dcsctp_theorem_association.proofs.OneSideTurns.{effects_in_place, past_is_state}
use Rattle.dcsctp_theorem_sockets.proofs.Follow.{noted_after}
use Rattle.dcsctp_theorem_sockets.proofs.NotedLemmas.{number_to_accept-noted, in_place-noted, current-noted, number_to_begin-noted, outstanding-noted}
use Rattle.dcsctp_theorem_sockets.proofs.SocketsAlone.{Moves, it_rests, it_moves}
use Rattle.dcsctp_theorem_sockets.proofs.TimeMoves.{longest_expires}
use Rattle.dcsctp_delivery_sockets.specs.turns.PeerRequests.{KnowsPeer, KnowsPeerOfCore}
use Rattle.dcsctp_spec_lemmas.specs.spec.association.HandshakeChanges.{cookie_ack_change}

-- ---- a request in progress

-- A request with the number of the last one comes again.
repeats_last : Held → List ResetParameter
repeats_last held = outgoing_reset_request held.peer_last 0 (record { last_tsn = 0; streams = []; is_new = false }) ∷ []

-- what it does, if it is answered so
abbrev effects_with : Pair → Held → RequestOutcome → List Effect
effects_with my held first =
    (first.effects ++ []) ++ (reset_sent false first.held (reconfiguration_response held.peer_last first.result ∷ []) (idle_choices my)).effects

-- It is performed then, if it is in progress.
last_again : (held : Held) → held.peer_result ≡ InProgress → outgoing_by_place held held.peer_last due (request_place held.peer_last held.peer_last) ≡ resets.performed_request held held.peer_last true
last_again held is =
    ap (λ (b : Bool). outgoing_by_place held held.peer_last due (if b then again else (if held.peer_last == next_number held.peer_last then next else astray))) ((Decides-eqb held.peer_last held.peer_last).1 refl)
    ∙ ap (λ (r : ReconfigurationResponseResult). repeated_request_outcome held r true) is

pub each_earlier : (Rule : Effect → List Effect → Type 0) (effects past : List Effect) → Each Rule (after_effects effects past) → Each Rule past
each_earlier Rule [] past each = each
each_earlier Rule (effect ∷ effects) past each = (each_earlier Rule effects (effect ∷ past) each).1

module _ (my : Pair) (held : Held) (past : List Effect) (in_progress : held.peer_result ≡ InProgress) where
  abbrev first : RequestOutcome
  first = outgoing_by_place held held.peer_last due (request_place held.peer_last held.peer_last)

  -- So the past knows its number.
  pub number_known : Each InPlace (after_effects (effects_with my held first) past) → number_to_perform (effects_without_packets past) ≡ Some held.peer_last
  number_known each =
      let done : RequestOutcome = resets.performed_request held held.peer_last true in
      let effects : List Effect = (reset_sent false done.held (reconfiguration_response held.peer_last done.result ∷ []) (idle_choices my)).effects in
      let all : Each InPlace (after_effects effects (performs held.peer held.peer_last ∷ past)) =
      subst (λ (a : RequestOutcome). Each InPlace (after_effects (effects_with my held a) past)) (last_again held in_progress) each in
      (in_place-noted (performs held.peer held.peer_last ∷ past) (each_earlier InPlace effects (performs held.peer held.peer_last ∷ past) all)).0.0

-- ---- each run of a side

module _ (options : Options) (steps : List (List Change)) (run : SideRun options steps) where
  abbrev side : SideState
  side = side_after options steps

  -- A request in progress has a number that the past knows: it would be performed if it came again.
  performs_known : (core : Core) (my : Pair) (held : Held) → side.core ≡ core
      → ((choices : Choices) → (chunk_change options core 0 (re_config (repeats_last held)) choices).effects ≡ (resets.peer_part_handled my held (repeats_last held) choices).effects)
      → held.peer_result ≡ InProgress → number_to_perform (effects_without_packets side.past) ≡ Some held.peer_last
  unfolding repeats_last
  performs_known core my held at is in_progress =
      let change : Change = chunk_change options core 0 (re_config (repeats_last held)) (idle_choices my) in
      let turn : ControlTurn options side.core change =
      worked 0 (re_config (repeats_last held)) (idle_choices my) (ap (λ (c : Core). chunk_change options c 0 (re_config (repeats_last held)) (idle_choices my)) (sym at)) in
      number_known my held side.past in_progress
      (subst (λ (effects : List Effect). Each InPlace (after_effects effects side.past)) (is (idle_choices my)) (effects_in_place options ((change ∷ []) ∷ steps) ((turn, tt), run)))

-- Where nothing is to be sent no request begins.
idle_held : (own : Option ℕ) (tag : ℕ) (held : Held) (filling : Filling) → (flushed_with tag held [] filling (reset_to_begin own None)).held ≡ held
idle_held None tag held filling = refl
idle_held (Some number) tag held filling = refl

idle_effects : (own : Option ℕ) (tag : ℕ) (held : Held) → (flushed_with tag held [] nothing_to_send (reset_to_begin own None)).effects ≡ []
idle_effects None tag held = refl
idle_effects (Some number) tag held = refl

module _ (options : Options) (steps : List (List Change)) (run : SideRun options steps) where
  -- By the RFC none is handled before the COOKIE ACK. So that comes first.
  echoed_performs : (my : Pair) (held : Held) (cookie : List ℕ) → (side_after options steps).core ≡ cookie_echoed my held cookie
      → held.peer_result ≡ InProgress → number_to_perform (effects_without_packets (side_after options steps).past) ≡ Some held.peer_last
  echoed_performs my held cookie at in_progress =
      let ack : Change = cookie_ack_change (cookie_echoed my held cookie) (idle_choices my) in
      let turn : ControlTurn options (side_after options steps).core ack =
      worked 0 cookie_ack (idle_choices my) (ap (λ (c : Core). chunk_change options c 0 cookie_ack (idle_choices my)) (sym at)) in
      subst (λ (effects : List Effect). number_to_perform (effects_without_packets (after_effects effects (connects (identity_of my held) ∷ (side_after options steps).past))) ≡ Some held.peer_last) (idle_effects held.own_outstanding held.peer.tag held)
      (performs_known options ((ack ∷ []) ∷ steps) ((turn, tt), run) (open_in established my held) my held (ap (open_in established my) (idle_held held.own_outstanding held.peer.tag held (idle_choices my).filling)) (λ choices. refl) in_progress)

  known_by : (my : Pair) (held : Held) → LeavesHeld (side_after options steps).past my held
      → (held.peer_result ≡ InProgress → number_to_perform (effects_without_packets (side_after options steps).past) ≡ Some held.peer_last) → KnowsPeer (effects_without_packets (side_after options steps).past) held
  known_by my held leaves performs_it = record { accepts = number_to_accept-noted (side_after options steps).past ∙ leaves.peer_next; performs = performs_it }

  knows_peer : (core : Core) → (side_after options steps).core ≡ core → LeavesCore (side_after options steps).past core → KnowsPeerOfCore (effects_without_packets (side_after options steps).past) core
  knows_peer closed at leaves = tt
  knows_peer (cookie_wait my) at leaves = tt
  knows_peer (cookie_echoed my held cookie) at leaves = known_by my held leaves (echoed_performs my held cookie at)
  knows_peer (open_in phase my held) at leaves = known_by my held leaves (performs_known options steps run (open_in phase my held) my held at (λ choices. refl))

  pub run_knows : KnowsPeerOfCore (effects_without_packets (side_after options steps).past) (side_after options steps).core
  run_knows = knows_peer (side_after options steps).core refl (past_is_state options steps run)

-- ---- the longest message has no part in it

longest_acts : (p : Options) (n : ℕ) (core : Core) (act : Act) (choices : Choices) → act_change (record p { max_message_size = n }) core act choices ≡ act_change p core act choices
longest_acts p n core connect choices = longest_connects p n core choices
longest_acts p n core (t1_expires is_again) choices = longest_expires is_again p n core choices
longest_acts p n core shut_down choices = refl
longest_acts p n core step_of_shutdown choices = refl
longest_acts p n core shutdown_repeats choices = refl
longest_acts p n core (abort_with reason) choices = refl
longest_acts p n core hands_over choices = refl
longest_acts p n core flushes choices = refl
longest_acts p n core (request_again reset) choices = refl
longest_acts p n core (request_renewed reset) choices = refl

longest_turns : (p : Options) (n : ℕ) (core : Core) (change : Change) → ControlTurn (record p { max_message_size = n }) core change → ControlTurn p core change
longest_turns p n core change (acted act choices is) = acted act choices (is ∙ longest_acts p n core act choices)
longest_turns p n core change (worked header content choices is) = worked header content choices (is ∙ chunk_same p n core header content choices)
longest_turns p n core change (resumed my peer capabilities own last none is) = resumed my peer capabilities own last none is

same_turn : (p q : Options) (core : Core) (change : Change) → SameOptions p q → ControlTurn q core change → ControlTurn p core change
same_turn p q core change same turn = longest_turns p q.max_message_size core change (subst (λ (x : Options). ControlTurn x core change) same turn)

-- ---- turn by turn

abbrev pub IsMove : Endpoint → Transition → Type 0
IsMove e turn = Moves e turn.outcome

-- A side that runs with these options has this past and this association.
pub record RanTo (options : Options) (e : Endpoint) (past : List Effect) : Type 0 where
  pub steps : List (List Change)
  pub is_run : SideRun options steps
  pub same : SameOptions options e.options
  pub core : (side_after options steps).core ≡ e.core
  pub noted_is : effects_without_packets (side_after options steps).past ≡ past

pub run_starts : (options : Options) → RanTo options (fresh_endpoint options) []
run_starts options = record { steps = []; is_run = tt; same = refl; core = refl; noted_is = refl }

pub next_run : (options : Options) (e : Endpoint) (past : List Effect) (t : Transition) → RanTo options e past → Moves e t.outcome → RanTo options t.outcome.after (after_effects t.outcome.effects past)
next_run options e past t ran (it_rests core same effects told) =
    record {
      steps = ran.steps;
      is_run = ran.is_run;
      same = same_after options e.options t.outcome.after.options ran.same same;
      core = ran.core ∙ sym core;
      noted_is = ran.noted_is ∙ ap (λ (es : List Effect). after_effects es past) (sym effects);
    }
next_run options e past t ran (it_moves change turn is) =
    let here : ControlTurn options (side_after options ran.steps).core change =
    same_turn options e.options (side_after options ran.steps).core change ran.same (subst (λ (c : Core). ControlTurn e.options c change) (sym ran.core) turn) in
    record {
      steps = (change ∷ []) ∷ ran.steps;
      is_run = ((here, tt), ran.is_run);
      same = same_after options e.options t.outcome.after.options ran.same is.options;
      core = sym is.core;
      noted_is = noted_after change.effects (side_after options ran.steps).past ∙ ap (λ (es : List Effect). after_effects es (effects_without_packets (side_after options ran.steps).past)) (sym is.effects)
          ∙ ap (after_effects t.outcome.effects) ran.noted_is;
    }

pub run_through : (options : Options) (turns : List Transition) (e : Endpoint) (past : List Effect) → RanTo options e past → AlongTurns IsMove e turns → RanTo options (after_all e turns) (after_effects (effects_of turns) past)
run_through options [] e past ran along = ran
run_through options (t ∷ turns) e past ran along =
    subst (RanTo options (after_all t.outcome.after turns)) (sym (after_effects-append t.outcome.effects (effects_of turns) past))
    (run_through options turns t.outcome.after (after_effects t.outcome.effects past) (next_run options e past t ran along.0) along.1)

-- What it recorded gives the numbers of its peer's requests.
pub ran_knows : (options : Options) (e : Endpoint) (past : List Effect) → RanTo options e past → KnowsPeerOfCore past e.core
ran_knows options e past ran = subst (λ (p : List Effect). KnowsPeerOfCore p e.core) ran.noted_is (subst (KnowsPeerOfCore (effects_without_packets (side_after options ran.steps).past)) ran.core (run_knows options ran.steps ran.is_run))

-- The association is what the past leaves.
leaves_noted : (past : List Effect) (core : Core) → LeavesCore past core → LeavesCore (effects_without_packets past) core
leaves_noted past closed leaves = current-noted past ∙ leaves
leaves_noted past (cookie_wait my) leaves = current-noted past ∙ leaves
leaves_noted past (cookie_echoed my held cookie) leaves = held_noted past my held leaves
  where
    held_noted : (past : List Effect) (my : Pair) (held : Held) → LeavesHeld past my held → LeavesHeld (effects_without_packets past) my held
    held_noted past my held leaves =
        record { link = current-noted past ∙ leaves.link; own_next = number_to_begin-noted past ∙ leaves.own_next; own_outstanding = outstanding-noted past ∙ leaves.own_outstanding; peer_next = number_to_accept-noted past ∙ leaves.peer_next }
leaves_noted past (open_in phase my held) leaves =
    record { link = current-noted past ∙ leaves.link; own_next = number_to_begin-noted past ∙ leaves.own_next; own_outstanding = outstanding-noted past ∙ leaves.own_outstanding; peer_next = number_to_accept-noted past ∙ leaves.peer_next }

pub ran_leaves : (options : Options) (e : Endpoint) (past : List Effect) → RanTo options e past → LeavesCore past e.core
ran_leaves options e past ran =
    subst (λ (p : List Effect). LeavesCore p e.core) ran.noted_is
    (subst (LeavesCore (effects_without_packets (side_after options ran.steps).past)) ran.core (leaves_noted (side_after options ran.steps).past (side_after options ran.steps).core (past_is_state options ran.steps ran.is_run)))

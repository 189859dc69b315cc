-- What a world shows stays what a run shows, from its making on and step by step.
use Rattle.std.proofs.Common.{◌≡◌, ℕ, false, Option, List, [], ◌∷◌, ◌++◌, map, reverse, refl, sym, ap, subst, ◌∙◌, append_assoc}
use Rattle.std.proofs.lemmas.List.{map-append, reverse-append}
use Rattle.std.proofs.lemmas.Grind.{reverse_onto}
use Rattle.rand_core.specs.Stream.{Stream}
use Rattle.dcsctp_core.specs.types.declared.association.Pair.{Pair}
use Rattle.dcsctp_core.specs.types.declared.word.Word.{Word}
use Rattle.dcsctp_core.specs.types.declared.association.Association.{Association}
use Rattle.dcsctp_core.specs.types.declared.options.Options.{Options}
use Rattle.dcsctp_core.specs.types.declared.schedule.Side.{Side}
use Rattle.dcsctp_core.specs.types.declared.schedule.Side.TheVariants as sides
use Rattle.dcsctp_core.specs.spec.endpoint.Event.{Event, event_map, packets_of_events}
use Rattle.dcsctp_core.specs.spec.Packet.{Emission, emission_bytes}
use Rattle.dcsctp_core.specs.types.Settings.{Ports, SameOptions, ports_of}
use Rattle.dcsctp_core.specs.spec.endpoint.Endpoint.{Endpoint, association_of, fresh_endpoint}
use Rattle.dcsctp_core.specs.spec.endpoint.CallTurns.{Transition, after_all, events_of, words_of, pairs_of}
use Rattle.dcsctp_spec_runs.specs.Sockets.{Both, of_side, of_other, side_of_act, TurnsOfAct, NextTurns, PerformedAct, turns_after, side_turns_added, endpoint_after, events_shown, packets_shown, acts_of, associations_of}
use Rattle.dcsctp_core.proofs.spec_lemmas.TurnLists.{after_all-append, words_of-append, pairs_of-append, events_of-append}
use Rattle.dcsctp_spec_runs.proofs.SocketLemmas.{sockets_keep_options}
use Rattle.dcsctp_core.specs.types.queues.Messages.{MessageContent}
use Rattle.dcsctp_delivery_sockets.specs.sockets.Delivery.{FitsAct}
use Rattle.dcsctp_delivery_sockets.specs.sockets.UserMessages.{messages_of_input, messages_of_turns, messages_read_of_input, read_of}
use Rattle.dcsctp_core.specs.api.Calls.{user_event}
use Rattle.dcsctp_core.specs.types.declared.schedule.Act.{Act}
use Rattle.dcsctp_core.specs.types.Schedule.{ActContent, act_content}
use Rattle.dcsctp_world.specs.declared.act.Reply.{Reply}
use Rattle.dcsctp_world.specs.declared.watched_socket.WatchedSocket.{WatchedSocket}
use Rattle.dcsctp_world.specs.Shown.{ShownSide, WorldView, fresh_side_shown, fresh_world, options_of}
use Rattle.dcsctp_world.specs.Growth.{Grows}
use Rattle.dcsctp_theorem_sockets.specs.Agreement.{IsUsable}
use Rattle.dcsctp_world.specs.Run.{SideRuns, IsRun}
use Rattle.dcsctp_world.specs.Continuing.{ShowsAfter, Continues}
use Rattle.dcsctp_theorem_progress.specs.Rounds.{ActsFollow}
use Rattle.dcsctp_world.specs.Acts.{with_associations, AppliesAct}
use Rattle.dcsctp_world.specs.Parts.{shown_side, world_of}
use Rattle.dcsctp_theorem_sockets.proofs.Bursts.{packets_of_events-append}

-- what holds of each side
pub by_side : (P : Side → Type 0) → P sides.A → P sides.B → (side : Side) → P side
by_side P a b sides.A = a
by_side P a b sides.B = b

reverse-cons : {A : Type 0} (x : A) (xs : List A) → reverse (x ∷ xs) ≡ reverse xs ++ x ∷ []
reverse-cons x xs = reverse_onto xs x []

-- ---- a world that was just made

fresh_side_runs : {R : Type 0} (options : Options) (generator : R) → SideRuns options [] (fresh_side_shown options generator)
fresh_side_runs options generator = record { made_with = refl; goes_on = refl; endpoint = refl; waiting = refl; events = refl; packets = refl; words = refl; pairs = refl; sent = refl; read = refl }

fresh_world_runs : {R : Type 0} (options : Both Options) (generators : Both R) → IsUsable options.a → IsUsable options.b → IsRun options (fresh_world options generators)
fresh_world_runs options generators a b =
    record {
      usable = by_side (λ (side : Side). IsUsable (of_side side options)) a b;
      steps = [];
      run = tt;
      in_memory = tt;
      acts = refl;
      sides = by_side (λ (side : Side). SideRuns (of_side side options) (of_side side (turns_after [])) (of_side side (fresh_world options generators).sides))
          (fresh_side_runs options.a generators.a) (fresh_side_runs options.b generators.b);
      associations = by_side (λ (side : Side). (of_side side (fresh_world options generators).sides).associations ≡ reverse (associations_of side options [])) refl refl;
    }

pub is_fresh : {R : Type 0} (a b : WatchedSocket R) (made : List Act) (options : Both Options) (generators : Both R)
    → shown_side a ≡ fresh_side_shown options.a generators.a → shown_side b ≡ fresh_side_shown options.b generators.b → made ≡ []
    → world_of a b made false ≡ fresh_world options generators
is_fresh {R = R} a b made options generators is_a is_b is_made =
    ap (λ (side : ShownSide R). let w : WorldView R = record { sides = record { a = side; b = shown_side b }; acts = map act_content made; failed = false } in w) is_a
    ∙ ap (λ (side : ShownSide R). let w : WorldView R = record { sides = record { a = fresh_side_shown options.a generators.a; b = side }; acts = map act_content made; failed = false } in w) is_b
    ∙ ap (λ (l : List ActContent). let w : WorldView R = record (fresh_world options generators) { acts = l } in w) (ap (λ (l : List Act). map act_content l) is_made)

pub fresh_is_run : {R : Type 0} (options : Both Options) (generators : Both R) (world : WorldView R) → world ≡ fresh_world options generators
    → IsUsable options.a → IsUsable options.b → IsRun options world
fresh_is_run {R = R} options generators world is a b = subst (λ (w : WorldView R). IsRun options w) (sym is) (fresh_world_runs options generators a b)

-- ---- the options stay

pub is_run_options : {R : Type 0} (options : Both Options) (world : WorldView R) → IsRun options world → options_of world ≡ options
is_run_options {R = R} options world h =
    ap (λ (o : Options). let both : Both Options = record { a = o; b = world.sides.b.options } in both) (h.sides sides.A).made_with
    ∙ ap (λ (o : Options). let both : Both Options = record { a = options.a; b = o } in both) (h.sides sides.B).made_with

pub is_run_of_own : {R : Type 0} (options : Both Options) (world : WorldView R) → IsRun options world → IsRun (options_of world) world
is_run_of_own options world h = subst (λ (o : Both Options). IsRun o world) (sym (is_run_options options world h)) h

-- ---- a side that grows

events_shown-append : (options : Options) (xs ys : List Transition) → events_shown options (xs ++ ys) ≡ events_shown options xs ++ events_shown options ys
events_shown-append options xs ys =
    ap (λ (l : List (Event Emission)). map (event_map (emission_bytes (ports_of options))) l) (events_of-append xs ys)
    ∙ map-append (event_map (emission_bytes (ports_of options))) (events_of xs) (events_of ys)

sent_of-append : (e : Endpoint) (xs ys : List Transition) → messages_of_turns e (xs ++ ys) ≡ messages_of_turns e xs ++ messages_of_turns (after_all e xs) ys
sent_of-append e [] ys = refl
sent_of-append e (t ∷ xs) ys =
    ap (λ (l : List MessageContent). messages_of_input e t.input ++ l) (sent_of-append t.outcome.after xs ys)
    ∙ sym (append_assoc (messages_of_input e t.input) (messages_of_turns t.outcome.after xs) (messages_of_turns (after_all t.outcome.after xs) ys))

read_of-append : (e : Endpoint) (xs ys : List Transition) → read_of e (xs ++ ys) ≡ read_of e xs ++ read_of (after_all e xs) ys
read_of-append e [] ys = refl
read_of-append e (t ∷ xs) ys =
    ap (λ (l : List MessageContent). messages_read_of_input e t.input ++ l) (read_of-append t.outcome.after xs ys)
    ∙ sym (append_assoc (messages_read_of_input e t.input) (read_of t.outcome.after xs) (read_of (after_all t.outcome.after xs) ys))

side_grows : {R : Type 0} {stream : R → Stream} {answer : Reply} (options : Options) (turns : List Transition) (Turns : List Transition → Type 0) (old new : ShownSide R)
    (grows : Grows stream Turns answer old new)
    → SameOptions options (endpoint_after options turns).options → SideRuns options turns old → SideRuns options (turns ++ grows.turns) new
side_grows options turns Turns old new grows kept h =
    let os = grows.turns in
    let same : ports_of old.socket.view.endpoint.options ≡ ports_of options = ap (λ (e : Endpoint). ports_of e.options) h.endpoint ∙ ap ports_of kept in
    let told : map (user_event (ports_of old.socket.view.endpoint.options)) (events_of os) ≡ events_shown options os = ap (λ (p : Ports). map (user_event p) (events_of os)) same in
    record {
      made_with = grows.options ∙ h.made_with;
      goes_on = grows.failed ∙ h.goes_on;
      endpoint = grows.endpoint ∙ ap (λ (e : Endpoint). after_all e os) h.endpoint ∙ sym (after_all-append (fresh_endpoint options) turns os);
      waiting = grows.waiting;
      events = grows.events ∙ ap (λ (l : List (Event (List ℕ))). l ++ map (user_event (ports_of old.socket.view.endpoint.options)) (events_of os)) h.events
          ∙ ap (λ (l : List (Event (List ℕ))). events_shown options turns ++ l) told ∙ sym (events_shown-append options turns os);
      packets = grows.packets ∙ ap (λ (l : List (List ℕ)). l ++ packets_of_events (map (user_event (ports_of old.socket.view.endpoint.options)) (events_of os))) h.packets
          ∙ ap (λ (l : List (Event (List ℕ))). packets_shown options turns ++ packets_of_events l) told
          ∙ sym (packets_of_events-append (events_shown options turns) (events_shown options os)) ∙ ap packets_of_events (sym (events_shown-append options turns os));
      words = grows.words ∙ ap (λ (l : List Word). l ++ words_of os) h.words ∙ sym (words_of-append turns os);
      pairs = grows.pairs ∙ ap (λ (l : List Pair). l ++ pairs_of os) h.pairs ∙ sym (pairs_of-append turns os);
      sent = grows.sent ∙ ap (λ (l : List MessageContent). l ++ messages_of_turns old.socket.view.endpoint os) h.sent
          ∙ ap (λ (e : Endpoint). messages_of_turns (fresh_endpoint options) turns ++ messages_of_turns e os) h.endpoint ∙ sym (sent_of-append (fresh_endpoint options) turns os);
      read = grows.read ∙ ap (λ (l : List MessageContent). l ++ read_of old.socket.view.endpoint os) h.read
          ∙ ap (λ (e : Endpoint). read_of (fresh_endpoint options) turns ++ read_of e os) h.endpoint ∙ sym (read_of-append (fresh_endpoint options) turns os);
    }

-- ---- an act more

abbrev SidesRun : {R : Type 0} → Both Options → Both (List Transition) → Both (ShownSide R) → Side → Type 0
SidesRun options turns shown_side side = SideRuns (of_side side options) (of_side side turns) (of_side side shown_side)

-- the side that moved, and the other
sides_next : {R : Type 0} {stream : R → Stream} {answer : Reply} (options : Both Options) (turns : Both (List Transition)) (old moved : Both (ShownSide R)) (Turns : List Transition → Type 0) (mover : Side)
    (grows : Grows stream Turns answer (of_side mover old) (of_side mover moved)) → of_other mover moved ≡ of_other mover old
    → SameOptions (of_side mover options) (endpoint_after (of_side mover options) (of_side mover turns)).options
    → ((side : Side) → SidesRun options turns old side) → (side : Side) → SidesRun options (side_turns_added mover grows.turns turns) moved side
sides_next options turns old moved Turns sides.A grows stays kept before sides.A = side_grows options.a turns.a Turns old.a moved.a grows kept (before sides.A)
sides_next {R = R} options turns old moved Turns sides.A grows stays kept before sides.B = subst (λ (s : ShownSide R). SideRuns options.b turns.b s) (sym stays) (before sides.B)
sides_next {R = R} options turns old moved Turns sides.B grows stays kept before sides.A = subst (λ (s : ShownSide R). SideRuns options.a turns.a s) (sym stays) (before sides.A)
sides_next options turns old moved Turns sides.B grows stays kept before sides.B = side_grows options.b turns.b Turns old.b moved.b grows kept (before sides.B)

-- no association was recorded yet
same_associations : {R : Type 0} {stream : R → Stream} {answer : Reply} (old moved : Both (ShownSide R)) (Turns : List Transition → Type 0) (mover : Side)
    → Grows stream Turns answer (of_side mover old) (of_side mover moved) → of_other mover moved ≡ of_other mover old
    → (side : Side) → (of_side side moved).associations ≡ (of_side side old).associations
same_associations old moved Turns sides.A grows stays sides.A = grows.associations
same_associations {R = R} old moved Turns sides.A grows stays sides.B = ap (λ (s : ShownSide R). s.associations) stays
same_associations {R = R} old moved Turns sides.B grows stays sides.A = ap (λ (s : ShownSide R). s.associations) stays
same_associations old moved Turns sides.B grows stays sides.B = grows.associations

-- then both are recorded
noted : {R : Type 0} (moved : Both (ShownSide R)) (side : Side)
    → (of_side side (with_associations moved)).associations ≡ (of_side side moved).associations ++ association_of (of_side side moved).socket.view.endpoint.core ∷ []
noted moved sides.A = refl
noted moved sides.B = refl

noted_runs : {R : Type 0} (options : Both Options) (turns : Both (List Transition)) (moved : Both (ShownSide R)) (side : Side) → SidesRun options turns moved side
    → SidesRun options turns (with_associations moved) side
noted_runs options turns moved sides.A h =
    record { made_with = h.made_with; goes_on = h.goes_on; endpoint = h.endpoint; waiting = h.waiting; events = h.events; packets = h.packets; words = h.words; pairs = h.pairs; sent = h.sent; read = h.read }
noted_runs options turns moved sides.B h =
    record { made_with = h.made_with; goes_on = h.goes_on; endpoint = h.endpoint; waiting = h.waiting; events = h.events; packets = h.packets; words = h.words; pairs = h.pairs; sent = h.sent; read = h.read }

other_packets : {R : Type 0} (options : Both Options) (turns : Both (List Transition)) (old : Both (ShownSide R)) (mover : Side) → ((side : Side) → SidesRun options turns old side)
    → (of_other mover old).packets ≡ packets_shown (of_other mover options) (of_other mover turns)
other_packets options turns old sides.A runs = (runs sides.B).packets
other_packets options turns old sides.B runs = (runs sides.A).packets

-- the act's turns, from where the sides' turns had led
turns_of : {R : Type 0} (options : Both Options) (turns : Both (List Transition)) (old : Both (ShownSide R)) (act : ActContent) (os : List Transition)
    → ((side : Side) → SidesRun options turns old side)
    → TurnsOfAct (of_side (side_of_act act) old).socket.view.endpoint (of_other (side_of_act act) old).packets act os → NextTurns options turns act os
turns_of options turns old act os runs turned =
    let mover : Side = side_of_act act in
    subst (λ (packets : List (List ℕ)). TurnsOfAct (endpoint_after (of_side mover options) (of_side mover turns)) packets act os) (other_packets options turns old mover runs)
    (subst (λ (e : Endpoint). TurnsOfAct e (of_other mover old).packets act os) (runs mover).endpoint turned)

pub shows_next : {R : Type 0} (stream : R → Stream) (options : Both Options) (act : ActContent) (reply : Reply) (old new : WorldView R) → FitsAct act → (h : IsRun options old)
    → AppliesAct stream act reply old new → ShowsAfter options h.steps (act ∷ []) new
shows_next {R = R} stream options act reply old new fits h applied =
    let mover : Side = side_of_act act in
    let moved : Both (ShownSide R) = applied.moved in
    let os = applied.moves.grows.turns in
    let before : Both (List Transition) = turns_after h.steps in
    let worked : PerformedAct = record { act = act; turns = os } in
    let now : Both (List Transition) = side_turns_added mover os before in
    let Turns : List Transition → Type 0 = TurnsOfAct (of_side mover old.sides).socket.view.endpoint (of_other mover old.sides).packets act in
    let runs : (side : Side) → SidesRun options now moved side =
    sides_next options before old.sides moved Turns mover applied.moves.grows applied.moves.other_stays (sockets_keep_options.run options h.steps h.run mover) h.sides in
    let ends = turns_of options before old.sides act os h.sides applied.moves.grows.are in
    let shown : IsRun options new = record {
      usable = h.usable;
      steps = worked ∷ h.steps;
      run = (ends, h.run);
      in_memory = (fits, h.in_memory);
      acts = applied.acts ∙ ap (λ (l : List ActContent). l ++ act ∷ []) h.acts ∙ sym (reverse-cons act (acts_of h.steps));
      sides = λ (side : Side). subst (λ (both : Both (ShownSide R)). SidesRun options now both side) (sym applied.sides) (noted_runs options now moved side (runs side));
      associations = λ (side : Side).
          ap (λ (both : Both (ShownSide R)). (of_side side both).associations) applied.sides ∙ noted moved side
          ∙ ap (λ (l : List (Option Association)). l ++ association_of (of_side side moved).socket.view.endpoint.core ∷ [])
          (same_associations old.sides moved Turns mover applied.moves.grows applied.moves.other_stays side ∙ h.associations side)
          ∙ ap (λ (e : Endpoint). reverse (associations_of side options h.steps) ++ association_of e.core ∷ []) (runs side).endpoint
          ∙ sym (reverse-cons (association_of (endpoint_after (of_side side options) (of_side side now)).core) (associations_of side options h.steps));
    } in
    record { shown = shown; follows = record { more = worked ∷ []; is = refl; are = refl } }

pub is_run_next : {R : Type 0} (stream : R → Stream) (options : Both Options) (act : ActContent) (reply : Reply) (old new : WorldView R) → FitsAct act → IsRun options old
    → AppliesAct stream act reply old new → IsRun options new
is_run_next stream options act reply old new fits h applied = (shows_next stream options act reply old new fits h applied).shown

-- ---- several acts more

acts-append : (more earlier : List PerformedAct) → acts_of (more ++ earlier) ≡ acts_of more ++ acts_of earlier
acts-append [] earlier = refl
acts-append (worked ∷ more) earlier = ap (λ (l : List ActContent). worked.act ∷ l) (acts-append more earlier)

pub follows_further : (earlier between run : List PerformedAct) (acts others : List ActContent) → ActsFollow earlier acts between → ActsFollow between others run → ActsFollow earlier (acts ++ others) run
follows_further earlier between run acts others first second =
    record {
      more = second.more ++ first.more;
      is = second.is ∙ ap (λ (l : List PerformedAct). second.more ++ l) first.is ∙ sym (append_assoc second.more first.more earlier);
      are = acts-append second.more first.more ∙ ap (λ (l : List ActContent). l ++ acts_of first.more) second.are
          ∙ ap (λ (l : List ActContent). reverse others ++ l) first.are ∙ sym (reverse-append acts others);
    }

pub continues_further : {R : Type 0} (acts others : List ActContent) (old between new : WorldView R) → Continues acts old between → Continues others between new → Continues (acts ++ others) old new
continues_further acts others old between new first second options earlier =
    let now : ShowsAfter options earlier.steps acts between = first options earlier in
    let then : ShowsAfter options now.shown.steps others new = second options now.shown in
    record { shown = then.shown; follows = follows_further earlier.steps now.shown.steps then.shown.steps acts others now.follows then.follows }

pub continues_itself : {R : Type 0} (world : WorldView R) → Continues [] world world
continues_itself world options earlier = record { shown = earlier; follows = record { more = []; is = refl; are = refl } }

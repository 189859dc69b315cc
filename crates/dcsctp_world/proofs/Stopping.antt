-- What a side shows if no call was made, and if an allocation failed in an act.
use Rattle.std.proofs.Common.{◌≡◌, ℕ, false, Option, Result, Ok, Err, List, [], ◌∷◌, ◌++◌, ◌⊎◌, inl, inr, refl, sym, ap, subst, ◌∙◌}
use Rattle.std.proofs.lemmas.List.{append-nil}
use Rattle.rand_core.specs.Stream.{Stream}
use Rattle.dcsctp_core.specs.types.declared.association.Pair.{Pair}
use Rattle.dcsctp_core.specs.types.declared.word.Word.{Word}
use Rattle.dcsctp_core.specs.types.declared.association.Association.{Association}
use Rattle.dcsctp_core.specs.types.declared.schedule.Side.{Side}
use Rattle.dcsctp_core.specs.types.declared.schedule.Side.TheVariants as sides
use Rattle.dcsctp_core.specs.spec.endpoint.Event.{Event, packets_of_events}
use Rattle.dcsctp_core.specs.spec.endpoint.Endpoint.{Endpoint, association_of}
use Rattle.dcsctp_core.specs.spec.endpoint.CallTurns.{Transition, after_all, words_of, pairs_of}
use Rattle.dcsctp_spec_runs.specs.Sockets.{Both, of_side, of_other, side_of_act, TurnsOfAct}
use Rattle.dcsctp_core.specs.types.queues.Messages.{MessageContent}
use Rattle.dcsctp_delivery_sockets.specs.sockets.UserMessages.{messages_of_turns, read_of}
use Rattle.dcsctp_core.specs.api.declared.errors.SocketFault.{SocketFault}
use Rattle.dcsctp_core.specs.api.declared.errors.SocketFault.TheVariants.{OutOfMemory, Failed}
use Rattle.dcsctp_core.specs.api.Calls.{Follows, HandlesInput}
use Rattle.dcsctp_socket.specs.SocketView.{SocketView, user_view_of}
use Rattle.dcsctp_core.specs.types.declared.schedule.Act.{Act}
use Rattle.dcsctp_core.specs.types.Schedule.{ActContent}
use Rattle.dcsctp_world.specs.declared.act.Reply.{Reply}
use Rattle.dcsctp_world.specs.declared.act.Reply.TheVariants.{NoCall}
use Rattle.dcsctp_world.specs.declared.watched_socket.WatchedSocket.{WatchedSocket}
use Rattle.dcsctp_world.specs.Shown.{ShownSide}
use Rattle.dcsctp_world.specs.Growth.{AppendsFirst, CollectsFront, events_for_user, MakesUserCall, Grows, ShowsFront, StopsKeeping, HandlesAct, IsReply, with_association}
use Rattle.dcsctp_world.specs.Acts.{ActMoves, ActStops, MovesSide, AppliesOrFails}
use Rattle.dcsctp_world.specs.Parts.{both, world_of}
use Rattle.dcsctp_world.proofs.Keeping.{front_same, front_whole}

-- the side once a call left its socket so, and these messages are what is kept
abbrev pub called_side : {R : Type 0} → ShownSide R → SocketView R → List MessageContent → List MessageContent → ShownSide R
called_side old socket sent read = record old { socket = socket; sent = sent; read = read }

-- ---- no call was made

pub grows_by_nothing : {R : Type 0} (stream : R → Stream) (Turns : List Transition → Type 0) (side : ShownSide R) → Turns [] → side.socket.view.events ≡ []
    → Grows stream Turns NoCall side side
grows_by_nothing stream Turns side turned empty =
    record {
      turns = [];
      are = turned;
      options = refl;
      endpoint = refl;
      failed = refl;
      waiting = empty;
      events = sym (append-nil side.events);
      packets = sym (append-nil side.packets);
      words = sym (append-nil side.words);
      drawn = refl;
      pairs = sym (append-nil side.pairs);
      sent = sym (append-nil side.sent);
      read = sym (append-nil side.read);
      associations = refl;
      last_words = λ is. absurd is;
      last_pairs = λ is. absurd is;
      idle = λ is. refl;
    }

-- ---- an allocation failed

-- nothing was added yet
pub shows_nothing : {R : Type 0} (turns : List Transition) (old new : ShownSide R) → new.options ≡ old.options → new.events ≡ old.events → new.packets ≡ old.packets
    → new.words ≡ old.words → new.pairs ≡ old.pairs → new.sent ≡ old.sent → new.read ≡ old.read → new.associations ≡ old.associations → ShowsFront turns old new
shows_nothing turns old new options events packets words pairs sent read associations =
    record {
      options = options;
      events = front_same (events_for_user old turns) events;
      packets = front_same (packets_of_events (events_for_user old turns)) packets;
      words = front_same (words_of turns) words;
      pairs = front_same (pairs_of turns) pairs;
      sent = front_same (messages_of_turns old.socket.view.endpoint turns) sent;
      read = front_same (read_of old.socket.view.endpoint turns) read;
      associations = front_same (association_of (after_all old.socket.view.endpoint turns).core ∷ []) associations;
    }

-- it failed in the socket itself
stops_before : {R : Type 0} (Turns : List Transition → Type 0) (old : ShownSide R) (socket : SocketView R) → StopsKeeping Turns old (record old { socket = socket })
stops_before Turns old socket =
    let new = record old { socket = socket } in
    record { turns = []; are = inl refl; shows = shows_nothing [] old new refl refl refl refl refl refl refl refl }

-- the call's turns took place, and then what they brought was kept in part: messages first
pub stops_after : {R : Type 0} (stream : R → Stream) (Turns : List Transition → Type 0) (old new : ShownSide R) (socket : SocketView R) (sent read : List MessageContent)
    (turns : List Transition) → Turns turns
    → old.socket.view.events ≡ [] → Follows (user_view_of stream old.socket) turns (user_view_of stream socket)
    → AppendsFirst (messages_of_turns old.socket.view.endpoint turns) old.sent sent → AppendsFirst (read_of old.socket.view.endpoint turns) old.read read
    → CollectsFront (called_side old socket sent read) new → StopsKeeping Turns old new
stops_after stream Turns old new socket sent read turns turned empty follows sends reads part =
    let waiting : socket.view.events ≡ events_for_user old turns = follows.events ∙ ap (λ (l : List (Event (List ℕ))). l ++ events_for_user old turns) empty in
    record {
      turns = turns;
      are = inr turned;
      shows = record {
        options = part.options;
        events = subst (λ (l : List (Event (List ℕ))). AppendsFirst l old.events new.events) waiting part.events;
        packets = subst (λ (l : List (Event (List ℕ))). AppendsFirst (packets_of_events l) old.packets new.packets) waiting part.packets;
        words = subst (λ (l : List Word). AppendsFirst l old.words new.words) follows.words part.words;
        pairs = subst (λ (l : List Pair). AppendsFirst l old.pairs new.pairs) follows.pairs part.pairs;
        sent = subst (λ (l : List MessageContent). AppendsFirst (messages_of_turns old.socket.view.endpoint turns) old.sent l) (sym part.sent) sends;
        read = subst (λ (l : List MessageContent). AppendsFirst (read_of old.socket.view.endpoint turns) old.read l) (sym part.read) reads;
        associations = front_same (association_of (after_all old.socket.view.endpoint turns).core ∷ []) part.associations;
      };
    }

-- ---- a call that failed in the socket, by its fault

module _ {R : Type 0} (stream : R → Stream) (Turns : List Transition → Type 0) (IsIt : Reply → Type 0) (old : ShownSide R) (socket : SocketView R) where
  pub call_fails : (fault : SocketFault) → MakesUserCall Turns IsIt (user_view_of stream old.socket) (Err fault) (user_view_of stream socket)
      → HandlesAct stream Turns IsIt old (Err fault) (record old { socket = socket })
  call_fails OutOfMemory runs = (runs, stops_before Turns old socket)
  call_fails Failed stays = stays.had_failed

  pub input_fails : (bytes : List ℕ) (fault : SocketFault) → HandlesInput (user_view_of stream old.socket) bytes (Err fault) (user_view_of stream socket)
      → HandlesAct stream Turns IsIt old (Err fault) (record old { socket = socket })
  input_fails bytes OutOfMemory out = (out.runs, stops_before Turns old socket)
  input_fails bytes Failed stays = stays.had_failed

-- ---- associations

-- its association was recorded, or not
abbrev pub MaybeNoted : {R : Type 0} → ShownSide R → ShownSide R → Type 0
MaybeNoted side new = (new ≡ side) ⊎ (new ≡ with_association side)

at_noted : {R : Type 0} (side new : ShownSide R) → MaybeNoted side new → (P : ShownSide R → Type 0) → P side → P (with_association side) → P new
at_noted side new (inl same) P h noted = subst P (sym same) h
at_noted side new (inr same) P h noted = subst P (sym same) noted

grows_in_part : {R : Type 0} {stream : R → Stream} {answer : Reply} (Turns : List Transition → Type 0) (old moved new : ShownSide R)
    (grows : Grows stream Turns answer old moved) → MaybeNoted moved new → StopsKeeping Turns old new
grows_in_part {R = R} Turns old moved new grows noted =
    let os = grows.turns in
    let now : List (Option Association) = association_of (after_all old.socket.view.endpoint os).core ∷ [] in
    let shows : (l : List (Option Association)) → AppendsFirst now old.associations l → ShowsFront os old (record moved { associations = l }) =
    λ l h. record {
      options = grows.options;
      events = front_whole (events_for_user old os) grows.events;
      packets = front_whole (packets_of_events (events_for_user old os)) grows.packets;
      words = front_whole (words_of os) grows.words;
      pairs = front_whole (pairs_of os) grows.pairs;
      sent = front_whole (messages_of_turns old.socket.view.endpoint os) grows.sent;
      read = front_whole (read_of old.socket.view.endpoint os) grows.read;
      associations = h;
    } in
    let behind : (with_association moved).associations ≡ old.associations ++ now =
    ap (λ (l : List (Option Association)). l ++ association_of moved.socket.view.endpoint.core ∷ []) grows.associations
    ∙ ap (λ (e : Endpoint). old.associations ++ association_of e.core ∷ []) grows.endpoint in
    record {
      turns = os;
      are = inr grows.are;
      shows = at_noted moved new noted (λ (side : ShownSide R). ShowsFront os old side)
          (shows moved.associations (front_same now grows.associations)) (shows (with_association moved).associations (front_whole now behind));
    }

other_in_part : {R : Type 0} (old moved new : ShownSide R) → moved ≡ old → MaybeNoted moved new → ShowsFront [] old new
other_in_part {R = R} old moved new stays noted =
    let now : List (Option Association) = association_of old.socket.view.endpoint.core ∷ [] in
    let same : MaybeNoted old new = subst (λ (side : ShownSide R). MaybeNoted side new) stays noted in
    at_noted old new same (λ (side : ShownSide R). ShowsFront [] old side) (shows_nothing [] old old refl refl refl refl refl refl refl refl)
    (record { options = refl; events = front_same [] refl; packets = front_same [] refl; words = front_same [] refl; pairs = front_same [] refl; sent = front_same [] refl; read = front_same [] refl; associations = front_whole now refl })

-- ---- an act

same_socket : {R : Type 0} (old moved new : ShownSide R) → moved ≡ old → MaybeNoted moved new → new.socket ≡ old.socket
same_socket {R = R} old moved new stays noted =
    let same : MaybeNoted old new = subst (λ (side : ShownSide R). MaybeNoted side new) stays noted in
    at_noted old new same (λ (side : ShownSide R). side.socket ≡ old.socket) refl refl

at_mover : {R : Type 0} {stream : R → Stream} {answer : Reply} (Turns : List Transition → Type 0) (mover : Side) (old moved new : Both (ShownSide R))
    → Grows stream Turns answer (of_side mover old) (of_side mover moved)
    → of_other mover moved ≡ of_other mover old → MaybeNoted moved.a new.a → MaybeNoted moved.b new.b
    → StopsKeeping Turns (of_side mover old) (of_side mover new) × ShowsFront [] (of_other mover old) (of_other mover new)
    × ((of_other mover new).socket ≡ (of_other mover old).socket)
at_mover Turns sides.A old moved new grows stays a b =
    (grows_in_part Turns old.a moved.a new.a grows a, other_in_part old.b moved.b new.b stays b, same_socket old.b moved.b new.b stays b)
at_mover Turns sides.B old moved new grows stays a b =
    (grows_in_part Turns old.b moved.b new.b grows b, other_in_part old.a moved.a new.a stays a, same_socket old.a moved.a new.a stays a)

-- the act was handled at this side, and the other is as it was
pub moves_at : {R : Type 0} (stream : R → Stream) (act : ActContent) (mover : Side) (result : Result Reply SocketFault) (old new : Both (ShownSide R)) → side_of_act act ≡ mover
    → HandlesAct stream (TurnsOfAct (of_side mover old).socket.view.endpoint (of_other mover old).packets act)
    (IsReply (of_side mover old).socket.view.endpoint (of_other mover old).packets act) (of_side mover old) result (of_side mover new)
    → of_other mover new ≡ of_other mover old → MovesSide stream act old result new
moves_at {R = R} stream act mover result old new is works stays =
    let At : Side → Type 0 = λ side.
    HandlesAct stream (TurnsOfAct (of_side side old).socket.view.endpoint (of_other side old).packets act)
    (IsReply (of_side side old).socket.view.endpoint (of_other side old).packets act) (of_side side old) result (of_side side new)
    × (of_other side new ≡ of_other side old) in
    let here : At (side_of_act act) = subst At (sym is) (works, stays) in
    record { works = here.0; other_stays = here.1 }

-- it moved its side
pub act_moves : {R : Type 0} (stream : R → Stream) (act : ActContent) (reply : Reply) (old new : Both (ShownSide R)) → MovesSide stream act old (Ok reply) new
    → ActMoves stream act reply old new
act_moves stream act reply old new h = record { grows = h.works.1; other_stays = h.other_stays; reply = h.works.0 }

-- it failed there, and then it is not among the acts
pub act_fails : {R : Type 0} (stream : R → Stream) (act : ActContent) (fault : SocketFault) (a b new_a new_b : WatchedSocket R) (made : List Act)
    → MovesSide stream act (both a b) (Err fault) (both new_a new_b) → AppliesOrFails stream act (world_of a b made false) (Err fault) (world_of new_a new_b made false)
act_fails stream act OutOfMemory a b new_a new_b made fails =
    let old = both a b in
    let new = both new_a new_b in
    let mover : Side = side_of_act act in (
      record {
        mover = fails.works.1;
        other = other_in_part (of_other mover old) (of_other mover old) (of_other mover new) refl (inl fails.other_stays);
        other_socket = ap (λ (side : ShownSide _). side.socket) fails.other_stays;
      },
      refl,
    )
act_fails stream act Failed a b new_a new_b made fails = fails.works

-- an act moved its side, and then an allocation failed
pub moved_in_part : {R : Type 0} (stream : R → Stream) (act : ActContent) (reply : Reply) (old moved new : Both (ShownSide R)) → ActMoves stream act reply old moved
    → MaybeNoted moved.a new.a → MaybeNoted moved.b new.b → ActStops act old new
moved_in_part stream act reply old moved new moves a b =
    let both = at_mover (TurnsOfAct (of_side (side_of_act act) old).socket.view.endpoint (of_other (side_of_act act) old).packets act) (side_of_act act) old moved new
    moves.grows moves.other_stays a b in
    record { mover = both.0; other = both.1; other_socket = both.2 }

-- What a side shows once a call was made, and what it brought was kept: messages first.
use Rattle.std.proofs.Common.{◌≡◌, ℕ, List, [], ◌∷◌, ◌++◌, inr, refl, sym, ap, subst, ◌∙◌}
use Rattle.std.proofs.lemmas.List.{append-nil}
use Rattle.rand_core.specs.Stream.{Stream}
use Rattle.dcsctp_core.specs.types.declared.association.Pair.{Pair}
use Rattle.dcsctp_core.specs.types.declared.word.Word.{Word}
use Rattle.dcsctp_core.specs.spec.endpoint.CallTurns.{Transition, after_all, words_of, pairs_of}
use Rattle.dcsctp_core.specs.spec.endpoint.Endpoint.{association_of}
use Rattle.dcsctp_core.specs.spec.endpoint.Event.{Event, packets_of_events}
use Rattle.dcsctp_core.specs.types.Schedule.{CallContent}
use Rattle.dcsctp_core.specs.spec.endpoint.UserTurns.{UserTurns}
use Rattle.dcsctp_core.specs.types.queues.Messages.{MessageContent}
use Rattle.dcsctp_delivery_sockets.specs.sockets.UserMessages.{messages_of_turns, read_of}
use Rattle.dcsctp_core.specs.api.Calls.{UserView, DrawsWords, Follows, MakesCall}
use Rattle.dcsctp_socket.specs.SocketView.{SocketView, user_view_of}
use Rattle.dcsctp_world.specs.declared.act.Reply.{Reply}
use Rattle.dcsctp_world.specs.Growth.{AppendsFirst, CollectsWaiting, CollectsFront, events_for_user, WasCalled, Grows, StopsKeeping, IsCallReply}
use Rattle.dcsctp_world.specs.Messages.{messages_of_call, messages_read_of_call}
use Rattle.dcsctp_world.specs.Shown.{ShownSide}
use Rattle.dcsctp_world.proofs.Keeping.{front_same, front_whole}
use Rattle.dcsctp_world.proofs.QuietTurns.{AreQuiet}
use Rattle.dcsctp_world.proofs.SaidMessages.{AreSaid, call_says}
use Rattle.dcsctp_world.proofs.Stopping.{called_side, stops_after}

grown : {R : Type 0} (stream : R → Stream) (Turns : List Transition → Type 0) (answer : Reply) (old new : ShownSide R) (socket : SocketView R)
    (sent read : List MessageContent) (turns : List Transition)
    → Turns turns → WasCalled answer → old.socket.view.events ≡ [] → Follows (user_view_of stream old.socket) turns (user_view_of stream socket)
    → sent ≡ old.sent ++ messages_of_turns old.socket.view.endpoint turns → read ≡ old.read ++ read_of old.socket.view.endpoint turns
    → CollectsWaiting stream (called_side old socket sent read) new → Grows stream Turns answer old new
grown stream Turns answer old new socket sent read turns turned called empty follows sends reads collects =
    let waiting : socket.view.events ≡ events_for_user old turns = follows.events ∙ ap (λ (l : List (Event (List ℕ))). l ++ events_for_user old turns) empty in
    record {
      turns = turns;
      are = turned;
      endpoint = ap (λ (view : UserView). view.endpoint) collects.socket ∙ follows.endpoint;
      failed = ap (λ (view : UserView). view.failed) collects.socket ∙ follows.goes_on ∙ sym follows.runs;
      options = collects.options;
      waiting = ap (λ (view : UserView). view.events) collects.socket;
      events = collects.events ∙ ap (λ (l : List (Event (List ℕ))). old.events ++ l) waiting;
      packets = collects.packets ∙ ap (λ (l : List (Event (List ℕ))). old.packets ++ packets_of_events l) waiting;
      words = collects.words ∙ ap (λ (l : List Word). old.words ++ l) follows.words;
      drawn = subst (λ (rest : Stream). DrawsWords (stream old.socket.view.generator) (words_of turns) rest)
          (sym (ap (λ (view : UserView). view.generator) collects.socket)) follows.drawn;
      pairs = collects.pairs ∙ ap (λ (l : List Pair). old.pairs ++ l) follows.pairs;
      sent = collects.sent ∙ sends;
      read = collects.read ∙ reads;
      associations = collects.associations;
      last_words = λ made. ap (λ (view : UserView). view.words) collects.socket ∙ follows.words;
      last_pairs = λ made. ap (λ (view : UserView). view.pairs) collects.socket ∙ follows.pairs;
      idle = λ none. absurd (subst WasCalled none called);
    }

-- ---- a call that sends and reads nothing

module _ {R : Type 0} (stream : R → Stream) (Turns : List Transition → Type 0) (old new : ShownSide R) (socket : SocketView R) (turns : List Transition)
    (turned : Turns turns) (empty : old.socket.view.events ≡ []) (follows : Follows (user_view_of stream old.socket) turns (user_view_of stream socket))
    (quiet : AreQuiet old.socket.view.endpoint turns) where
  pub quiet_grows : (answer : Reply) → WasCalled answer → CollectsWaiting stream (record old { socket = socket }) new → Grows stream Turns answer old new
  quiet_grows answer called collects =
      grown stream Turns answer old new socket old.sent old.read turns turned called empty follows
      (sym (append-nil old.sent) ∙ ap (λ (l : List MessageContent). old.sent ++ l) (sym quiet.sent))
      (sym (append-nil old.read) ∙ ap (λ (l : List MessageContent). old.read ++ l) (sym quiet.read)) collects

  pub quiet_stops : CollectsFront (record old { socket = socket }) new → StopsKeeping Turns old new
  quiet_stops part =
      stops_after stream Turns old new socket old.sent old.read turns turned empty follows (front_same (messages_of_turns old.socket.view.endpoint turns) refl)
      (front_same (read_of old.socket.view.endpoint turns) refl) part

-- ---- any call of the user

module _ {R : Type 0} (stream : R → Stream) (call : CallContent) (reply : Reply) (old : ShownSide R) (socket : SocketView R) (sent read : List MessageContent)
    (empty : old.socket.view.events ≡ [])
    (made : MakesCall (λ (answer : Reply). IsCallReply old.socket.view.endpoint call answer × WasCalled answer) (UserTurns old.socket.view.endpoint call)
    (user_view_of stream old.socket) reply (user_view_of stream socket)) where
  said : AreSaid old.socket.view.endpoint call reply made.turns
  said = call_says old.socket.view.endpoint call reply made.turns made.are made.answers.0

  -- its messages were kept
  module _ (new : ShownSide R) (sends : sent ≡ old.sent ++ messages_of_call call reply) (reads : read ≡ old.read ++ messages_read_of_call call reply) where
    sends_all : sent ≡ old.sent ++ messages_of_turns old.socket.view.endpoint made.turns
    sends_all = sends ∙ ap (λ (l : List MessageContent). old.sent ++ l) (sym said.sent)

    reads_all : read ≡ old.read ++ read_of old.socket.view.endpoint made.turns
    reads_all = reads ∙ ap (λ (l : List MessageContent). old.read ++ l) (sym said.read)

    pub call_grows : CollectsWaiting stream (called_side old socket sent read) new → Grows stream (UserTurns old.socket.view.endpoint call) reply old new
    call_grows collects =
        grown stream (UserTurns old.socket.view.endpoint call) reply old new socket sent read made.turns made.are made.answers.1 empty made.follows
        sends_all reads_all collects

    pub call_stops : CollectsFront (called_side old socket sent read) new → StopsKeeping (UserTurns old.socket.view.endpoint call) old new
    call_stops part =
        stops_after stream (UserTurns old.socket.view.endpoint call) old new socket sent read made.turns made.are empty made.follows
        (front_whole (messages_of_turns old.socket.view.endpoint made.turns) sends_all) (front_whole (read_of old.socket.view.endpoint made.turns) reads_all) part

  -- They were kept in part, and nothing else.
  pub messages_stop : AppendsFirst (messages_of_call call reply) old.sent sent → AppendsFirst (messages_read_of_call call reply) old.read read
      → StopsKeeping (UserTurns old.socket.view.endpoint call) old (called_side old socket sent read)
  messages_stop sends reads =
      let turns : List Transition = made.turns in
      record {
        turns = turns;
        are = inr made.are;
        shows = record {
          options = refl;
          events = front_same (events_for_user old turns) refl;
          packets = front_same (packets_of_events (events_for_user old turns)) refl;
          words = front_same (words_of turns) refl;
          pairs = front_same (pairs_of turns) refl;
          sent = subst (λ (l : List MessageContent). AppendsFirst l old.sent sent) (sym said.sent) sends;
          read = subst (λ (l : List MessageContent). AppendsFirst l old.read read) (sym said.read) reads;
          associations = front_same (association_of (after_all old.socket.view.endpoint turns).core ∷ []) refl;
        };
      }

-- A SACK comes in.
use Rattle.std.proofs.Common.{◌≡◌, ◌||◌, ℕ, Bool, true, false, if◌then◌else◌, Option, None, Some, Result, Ok, Err, List, [], ◌∷◌, ◌++◌, map, take, length, refl, sym, ap, subst, ◌∙◌, append_assoc}
use Rattle.std.specs.Prelude.{is_some}
use Rattle.std.specs.Option.{option_map}
use Rattle.std.proofs.lemmas.List.{append-nil, map-append}
use Rattle.std.specs.declared.alloc.AllocError.{AllocError}
use Rattle.rand_core.specs.Stream.{Stream}
use Rattle.dcsctp_core.specs.wire.Content.{SackContent}
use Rattle.dcsctp_core.specs.types.declared.association.Held.{Held}
use Rattle.dcsctp_core.specs.types.declared.kinds.ErrorKind.TheVariants.{NotConnected}
use Rattle.dcsctp_core.specs.types.Settings.{Ports, ports_of}
use Rattle.dcsctp_core.specs.spec.endpoint.Event.{Event}
use Rattle.dcsctp_core.specs.spec.Packet.{Emission}
use Rattle.dcsctp_core.specs.spec.queues.Transfer.{Transfer}
use Rattle.dcsctp_core.specs.spec.endpoint.Endpoint.{Endpoint, held_by_core}
use Rattle.dcsctp_core.specs.spec.endpoint.Outcome.{Outcome, still, reports}
use Rattle.dcsctp_core.specs.spec.endpoint.FlushOutcomes.{draft_to, flush_of}
use Rattle.dcsctp_core.specs.spec.endpoint.TransferMoves.{TakesSack, timed_transfer}
use Rattle.dcsctp_core.specs.spec.endpoint.DataOutcomes.{with_transfer, no_tcb_text, counts_as_probe_answer, shows_peer, sack_taken, TakesSackAndFlushes, HandlesSackIfValid, HandlesSackIfConnected, SackTurn}
use Rattle.dcsctp_core.specs.spec.queues.Acknowledging.{is_sack_valid, has_acknowledged, exiting, acknowledged_until, opens, probes_lost, window_after_settling, ends_delivery, lifecycle_events_of, delivered_events, delivered_up_to}
use Rattle.dcsctp_core.specs.spec.queues.Items.{Item}
use Rattle.dcsctp_core.specs.spec.queues.Outstanding.{acknowledged_count, tsn_at}
use Rattle.dcsctp_core.specs.spec.queues.Retransmission.{RetransmissionState}
use Rattle.dcsctp_core.proofs.spec_lemmas.SackOutcomeLemmas.{some_taken}
use Rattle.dcsctp_core.specs.spec.endpoint.ShutdownOutcomes.{step_outcome}
use Rattle.dcsctp_core.specs.api.Calls.{user_event}
use Rattle.dcsctp_core.specs.api.Events.{event_content}
use Rattle.dcsctp_core.specs.api.declared.events.SocketEvent.{SocketEvent}
use Rattle.dcsctp_core.specs.transfer.declared.sacks.HandledSack.TheVariants.{Invalid, Valid}
use Rattle.dcsctp_core.specs.declared.context.Context.{Context}
use Rattle.dcsctp_core.specs.declared.state.State.{State}
use Rattle.dcsctp_core.specs.View.{View, tcb_of, transfer_of, endpoint_of, view_of, Moves, CutsTurn}
use Rattle.dcsctp_core.specs.Handling.{Tries, report_turn, TakesPossibleTurn, CutsSomeTurn, TakesOne}
use Rattle.dcsctp_core.proofs.LendingLemmas.{nobody}
use Rattle.dcsctp_core.specs.Below.{HandlesSackInTransfer, state_and_events}
use Rattle.dcsctp_core.proofs.BelowLemmas.{below_view}
use Rattle.dcsctp_core.proofs.Composing.{behind, Adds, moves_behind, moves_as, cut_behind, cut_first}
use Rattle.dcsctp_core.proofs.Moving.{moves_still}
use Rattle.dcsctp_core_data.specs.Sacks.{ReceivesSack, ResendsThenFlushes, ProceedsThenResends, Proceeds, ProceedsWithShutdown}
use Rattle.dcsctp_core_data.proofs.TakingLemmas.{tries_one}
use Rattle.dcsctp_core_data.proofs.ResendLemmas.{Below, below_of}
use Rattle.dcsctp_core_data.proofs.ProceedLemmas.{some_proceeds}

-- the events of messages that were delivered, as the user gets them
told_one : (ports : Ports) (name : Option ℕ) (ends : Bool) → map (user_event ports) (lifecycle_events_of name ends) ≡ lifecycle_events_of name ends
told_one ports None ends = refl
told_one ports (Some id) true = refl
told_one ports (Some id) false = refl

told_items : (ports : Ports) (items : List Item) → map (user_event ports) (delivered_events items) ≡ delivered_events items
told_items ports [] = refl
told_items ports (item ∷ items) =
    map-append (user_event ports) (lifecycle_events_of item.fragment.lifecycle (ends_delivery item)) (delivered_events items)
    ∙ (ap (λ (es : List (Event (List ℕ))). es ++ map (user_event ports) (delivered_events items)) (told_one ports item.fragment.lifecycle (ends_delivery item))
    ∙ ap (λ (es : List (Event (List ℕ))). lifecycle_events_of item.fragment.lifecycle (ends_delivery item) ++ es) (told_items ports items))

told_delivered : (ports : Ports) (tsn : ℕ) (state : RetransmissionState) → map (user_event ports) (delivered_up_to tsn state) ≡ delivered_up_to tsn state
told_delivered ports tsn state = told_items ports (take (acknowledged_count state.outstanding tsn) state.outstanding.items)

-- ---- where it is valid

-- the turn with a peer, by whether the SACK is valid
turn_at : (e : Endpoint) (peer : Option Held) (found : Option Transfer) (held : Held) (transfer : Transfer) (sack : SackContent) (b : Bool) (o : Outcome) → peer ≡ Some held → found ≡ Some transfer
    → is_sack_valid transfer.retransmission sack.cumulative_tsn_ack ≡ b → HandlesSackIfValid b e held transfer sack o → peer ≡ held_by_core e.core → SackTurn e found sack o
turn_at e peer found held transfer sack b o holds below valid h core =
    subst (λ (f : Option Transfer). SackTurn e f sack o) (sym below)
    (subst (λ (p : Option Held). HandlesSackIfConnected e p transfer sack o) (sym holds ∙ core)
    (subst (λ (x : Bool). HandlesSackIfValid x e held transfer sack o) (sym valid) h))

-- the view once it was taken into account
abbrev sacked_view : {R : Type 0} → View R → Transfer → Transfer → ℕ → View R
sacked_view view transfer after tsn = record view { endpoint = sack_taken view.endpoint transfer after; events = view.events ++ delivered_up_to tsn transfer.retransmission }

record Follows (e : Endpoint) (held : Held) (transfer : Transfer) (sack : SackContent) (later : Outcome) : Type 0 where
  outcome : Outcome
  by : TakesSackAndFlushes e held transfer sack outcome
  is : outcome ≡ behind [] (delivered_up_to sack.cumulative_tsn_ack transfer.retransmission) later

follows : (e : Endpoint) (held : Held) (transfer after : Transfer) (sack : SackContent) (later : Outcome) → TakesSack e.moment sack transfer after → ProceedsThenResends (sack_taken e transfer after) held after later → Follows e held transfer sack later
follows e held transfer after sack later takes h =
    let told : List (Event Emission) = delivered_up_to sack.cumulative_tsn_ack transfer.retransmission in
    let stepped : Outcome = step_outcome (sack_taken e transfer after) e.core in
    let r : ResendsThenFlushes stepped.after held after h.later = h.resends in
    let flush : Outcome = flush_of r.fast.after (draft_to held) r.answers in
    record {
      outcome = behind [] (told ++ (stepped.events ++ r.fast.events)) flush;
      by = record { left = after; takes = takes; stepped = stepped; steps = refl; fast = r.fast; resends = r.resends; answers = r.answers; allowed = r.allowed; is = refl };
      is = ap (λ (es : List (Event Emission)). let o : Outcome = record flush { events = es } in o)
          (append_assoc told (stepped.events ++ r.fast.events) flush.events ∙ ap (λ (es : List (Event Emission)). told ++ es) (append_assoc stepped.events r.fast.events flush.events))
          ∙ ap (behind [] told) (ap (behind [] stepped.events) (sym r.is) ∙ sym h.is);
    }

held_later : (e : Endpoint) (peer : Option Held) (found : Option Transfer) (held : Held) (transfer : Transfer) (o : Outcome) → peer ≡ Some held → found ≡ Some transfer → Proceeds e peer found o → ProceedsThenResends e held transfer o
held_later e peer found held transfer o holds below h =
    subst (λ (t : Option Transfer). Proceeds e (Some held) t o) below (subst (λ (p : Option Held). Proceeds e p found o) holds h)

-- the events were added
delivered_adds : {R : Type 0} (v : View R) (transfer after : Transfer) (tsn : ℕ) → Adds v (delivered_up_to tsn transfer.retransmission) (sacked_view v transfer after tsn)
delivered_adds v transfer after tsn =
    record { ports = refl; events = ap (λ (es : List (Event (List ℕ))). v.events ++ es) (sym (told_delivered (ports_of v.endpoint.options) tsn transfer.retransmission)) }

taken_at : {R : Type 0} (stream : R → Stream) (old : Context R) (b : Below old.state) (after : Transfer) (sack : SackContent) (new : View R)
    → is_sack_valid b.transfer.retransmission sack.cumulative_tsn_ack ≡ true → TakesSack old.moment sack b.transfer after
    → TakesPossibleTurn stream ProceedsWithShutdown (sacked_view (view_of old) b.transfer after sack.cumulative_tsn_ack) new → TakesPossibleTurn stream (ReceivesSack sack) (view_of old) new
taken_at stream old b after sack new valid takes h =
    let v = view_of old in
    let e : Endpoint = endpoint_of old in
    let f = follows e b.held b.transfer after sack h.outcome takes (held_later (sack_taken e b.transfer after) (held_by_core e.core) (Some after) b.held after h.outcome b.holds refl h.turn) in
    record {
      outcome = f.outcome;
      turn = turn_at e (held_by_core e.core) (transfer_of old.state) b.held b.transfer sack true f.outcome b.holds b.below valid f.by refl;
      moves = moves_as stream v new _ _ f.is
          (moves_behind stream v (sacked_view v b.transfer after sack.cumulative_tsn_ack) new [] (delivered_up_to sack.cumulative_tsn_ack b.transfer.retransmission) h.outcome (delivered_adds v b.transfer after sack.cumulative_tsn_ack)
          (record { words = sym (append-nil v.words); pairs = refl; drawn = refl }) h.moves);
    }

cut_at : {R : Type 0} (old : Context R) (b : Below old.state) (after : Transfer) (sack : SackContent) (events : List (Event (List ℕ)))
    → is_sack_valid b.transfer.retransmission sack.cumulative_tsn_ack ≡ true → TakesSack old.moment sack b.transfer after
    → CutsSomeTurn ProceedsWithShutdown (sacked_view (view_of old) b.transfer after sack.cumulative_tsn_ack) events → CutsSomeTurn (ReceivesSack sack) (view_of old) events
cut_at old b after sack events valid takes h =
    let v = view_of old in
    let e : Endpoint = endpoint_of old in
    let f = follows e b.held b.transfer after sack h.outcome takes (held_later (sack_taken e b.transfer after) (held_by_core e.core) (Some after) b.held after h.outcome b.holds refl h.turn) in
    record {
      outcome = f.outcome;
      turn = turn_at e (held_by_core e.core) (transfer_of old.state) b.held b.transfer sack true f.outcome b.holds b.below valid f.by refl;
      cut = subst (λ (o : Outcome). CutsTurn v o events) (sym f.is)
          (cut_behind v (sacked_view v b.transfer after sack.cumulative_tsn_ack) [] (delivered_up_to sack.cumulative_tsn_ack b.transfer.retransmission) h.outcome events (delivered_adds v b.transfer after sack.cumulative_tsn_ack) h.cut);
    }

-- ---- what the state says of it

abbrev with_both : {R : Type 0} → Context R → State → List SocketEvent → View R
with_both old state events = record (view_of (record old { state = state })) { events = map event_content events }

abbrev heeded : {R : Type 0} → Bool → View R → View R
heeded shows view = record view { endpoint = record view.endpoint { error_count = if shows then 0 else view.endpoint.error_count } }

-- the window that a SACK reports counts from then on
timed_window : (round_trip : Option ℕ) (transfer : Transfer) → (timed_transfer round_trip transfer).retransmission.peer_window ≡ transfer.retransmission.peer_window
timed_window None transfer = refl
timed_window (Some measured) transfer = refl

settled_window : (now window count : ℕ) (state : RetransmissionState) → (window_after_settling now window count state).peer_window ≡ window
settled_window now window count state = go (opens state (record state { peer_window = window }))
  where
    go : (b : Bool) → (probes_lost b (record state { peer_window = window })).peer_window ≡ window
    go true = refl
    go false = refl

window_taken : (now : ℕ) (sack : SackContent) (old new : Transfer) → TakesSack now sack old new → new.retransmission.peer_window ≡ sack.a_rwnd
window_taken now sack old new takes =
    let count : ℕ = acknowledged_count old.retransmission.outstanding sack.cumulative_tsn_ack in
    ap (λ (t : Transfer). t.retransmission.peer_window) takes.is ∙ timed_window takes.round_trip (record old { retransmission = takes.left })
    ∙ (ap (λ (s : RetransmissionState). s.peer_window) takes.acknowledges.is
    ∙ settled_window now sack.a_rwnd count (acknowledged_until count takes.blocks takes.acknowledges.limit (option_map (tsn_at old.retransmission.outstanding) takes.acknowledges.newest) (exiting sack.cumulative_tsn_ack old.retransmission)))

-- A SACK that was taken into account.
pub record Taken {R : Type 0} (old : Context R) (sack : SackContent) (shows : Bool) (state : State) (events : List SocketEvent) : Type 0 where
  pub b : Below old.state
  pub after : Transfer
  pub valid : is_sack_valid b.transfer.retransmission sack.cumulative_tsn_ack ≡ true
  pub takes : TakesSack old.moment sack b.transfer after
  pub view : heeded shows (with_both old state events) ≡ sacked_view (view_of old) b.transfer after sack.cumulative_tsn_ack

taken_by : {R : Type 0} (old : Context R) (sack : SackContent) (acknowledges shows : Bool) (state : State) (events : List SocketEvent) (b : Below old.state)
    → shows ≡ (acknowledges || counts_as_probe_answer old.options sack.a_rwnd)
    → HandlesSackInTransfer old.moment sack (Some b.transfer) (state_and_events old.state (map event_content old.events)) (state_and_events state (map event_content events)) (Ok (Valid acknowledges)) → Taken old sack shows state events
taken_by {R = R} old sack acknowledges shows state events b is h =
    let after : Transfer = h.0 in
    let seen : shows ≡ shows_peer old.options b.transfer after =
    is ∙ ap (λ (x : Bool). x || counts_as_probe_answer old.options sack.a_rwnd) h.2.3
    ∙ ap (λ (n : ℕ). has_acknowledged b.transfer.retransmission after.retransmission || counts_as_probe_answer old.options n) (sym (window_taken old.moment sack b.transfer after h.2.1)) in
    let same = below_view old state b.transfer after b.below h.1 in
    record {
      b = b;
      after = after;
      valid = h.2.0;
      takes = h.2.1;
      view = ap (λ (v : View R). heeded shows (record v { events = map event_content events })) same
          ∙ ap (λ (es : List (Event (List ℕ))). heeded shows (record (view_of old) { endpoint = with_transfer (endpoint_of old) after; events = es })) h.2.2
          ∙ ap (λ (x : Bool). heeded x (record (view_of old) { endpoint = with_transfer (endpoint_of old) after; events = (view_of old).events ++ delivered_up_to sack.cumulative_tsn_ack b.transfer.retransmission })) seen;
    }

pub taken : {R : Type 0} (old : Context R) (sack : SackContent) (acknowledges shows : Bool) (state : State) (events : List SocketEvent) → is_some (transfer_of old.state) ≡ true
    → shows ≡ (acknowledges || counts_as_probe_answer old.options sack.a_rwnd)
    → HandlesSackInTransfer old.moment sack (transfer_of old.state) (state_and_events old.state (map event_content old.events)) (state_and_events state (map event_content events)) (Ok (Valid acknowledges)) → Taken old sack shows state events
taken old sack acknowledges shows state events some is h =
    let b = below_of old.state some in
    taken_by old sack acknowledges shows state events b is
    (subst (λ (f : Option Transfer). HandlesSackInTransfer old.moment sack f (state_and_events old.state (map event_content old.events)) (state_and_events state (map event_content events)) (Ok (Valid acknowledges))) b.below h)

-- a peer is still held then
pub still_held : {R : Type 0} (old : Context R) (sack : SackContent) (acknowledges : Bool) (state : State) (events : List SocketEvent) (mid : Context R) → Taken old sack acknowledges state events
    → view_of mid ≡ heeded acknowledges (with_both old state events) → is_some (transfer_of mid.state) ≡ true
still_held {R = R} old sack acknowledges state events mid t is = ap (λ (v : View R). is_some v.endpoint.queues.transfer) (is ∙ t.view)

pub sack_done : {R : Type 0} (stream : R → Stream) (old : Context R) (sack : SackContent) (acknowledges : Bool) (state : State) (events : List SocketEvent) (mid new : Context R) → Taken old sack acknowledges state events
    → view_of mid ≡ heeded acknowledges (with_both old state events) → TakesPossibleTurn stream ProceedsWithShutdown (view_of mid) (view_of new) → TakesPossibleTurn stream (ReceivesSack sack) (view_of old) (view_of new)
sack_done {R = R} stream old sack acknowledges state events mid new t is h =
    taken_at stream old t.b t.after sack (view_of new) t.valid t.takes (subst (λ (v : View R). TakesPossibleTurn stream ProceedsWithShutdown v (view_of new)) (is ∙ t.view) h)

pub sack_cut : {R : Type 0} (old : Context R) (sack : SackContent) (acknowledges : Bool) (state : State) (events : List SocketEvent) (mid new : Context R) → Taken old sack acknowledges state events
    → view_of mid ≡ heeded acknowledges (with_both old state events) → CutsSomeTurn ProceedsWithShutdown (view_of mid) (view_of new).events → CutsSomeTurn (ReceivesSack sack) (view_of old) (view_of new).events
sack_cut {R = R} old sack acknowledges state events mid new t is h =
    cut_at old t.b t.after sack (view_of new).events t.valid t.takes (subst (λ (v : View R). CutsSomeTurn ProceedsWithShutdown v (view_of new).events) (is ∙ t.view) h)

-- ---- where it isn't valid

ignored_by : {R : Type 0} (stream : R → Stream) (old : Context R) (sack : SackContent) (state : State) (events : List SocketEvent) (b : Below old.state)
    → HandlesSackInTransfer old.moment sack (Some b.transfer) (state_and_events old.state (map event_content old.events)) (state_and_events state (map event_content events)) (Ok Invalid) → TakesPossibleTurn stream (ReceivesSack sack) (view_of old) (with_both old state events)
ignored_by {R = R} stream old sack state events b h =
    let e : Endpoint = endpoint_of old in
    let same = below_view old state b.transfer h.0 b.below h.1 in
    let left : with_transfer e h.0 ≡ e = ap (with_transfer e) h.2.1 ∙ ap (λ (f : Option Transfer). let x : Endpoint = record e { queues = record e.queues { transfer = f } } in x) (sym b.below) in
    let is : with_both old state events ≡ view_of old =
    ap (λ (v : View R). let x : View R = record v { events = map event_content events } in x) same
    ∙ ap (λ (es : List (Event (List ℕ))). let x : View R = record (view_of old) { endpoint = with_transfer e h.0; events = es } in x) h.2.2
    ∙ ap (λ (x : Endpoint). let v : View R = record (view_of old) { endpoint = x } in v) left in
    record {
      outcome = still e;
      turn = turn_at e (held_by_core e.core) (transfer_of old.state) b.held b.transfer sack false (still e) b.holds b.below h.2.0 refl refl;
      moves = subst (λ (v : View R). Moves stream (view_of old) (still e) v) (sym is) (moves_still stream (view_of old));
    }

pub sack_ignored : {R : Type 0} (stream : R → Stream) (old : Context R) (sack : SackContent) (state : State) (events : List SocketEvent) → is_some (transfer_of old.state) ≡ true
    → HandlesSackInTransfer old.moment sack (transfer_of old.state) (state_and_events old.state (map event_content old.events)) (state_and_events state (map event_content events)) (Ok Invalid) → TakesPossibleTurn stream (ReceivesSack sack) (view_of old) (with_both old state events)
sack_ignored stream old sack state events some h =
    let b = below_of old.state some in
    ignored_by stream old sack state events b
    (subst (λ (f : Option Transfer). HandlesSackInTransfer old.moment sack f (state_and_events old.state (map event_content old.events)) (state_and_events state (map event_content events)) (Ok Invalid)) b.below h)

-- ---- without a peer

no_peer : (e : Endpoint) (found : Option Transfer) (sack : SackContent) → is_some found ≡ false → SackTurn e found sack (reports e NotConnected no_tcb_text)
no_peer e None sack none = refl
no_peer e (Some transfer) sack none = absurd (cc)

pub sack_unasked : {R E : Type 0} (stream : R → Stream) (old : Context R) (result : Result (Unit {0}) E) (new : Context R) (sack : SackContent) → None ≡ tcb_of old.state
    → Tries stream (report_turn NotConnected no_tcb_text) old result new → TakesOne stream (ReceivesSack sack) old result new
sack_unasked stream old result new sack none h =
    tries_one stream (report_turn NotConnected no_tcb_text) (ReceivesSack sack) old result new (no_peer (endpoint_of old) (transfer_of old.state) sack (ap is_some (nobody old.state none))) h

-- ---- refused while it is taken into account

take_front : {A : Type 0} (xs ys : List A) → take (length xs) (xs ++ ys) ≡ xs
take_front [] ys = refl
take_front (x ∷ xs) ys = ap (λ zs. x ∷ zs) (take_front xs ys)

-- any outcome of it
some_follows : (e : Endpoint) (held : Held) (transfer : Transfer) (sack : SackContent) → (later : Outcome) × Follows e held transfer sack later
some_follows e held transfer sack =
    let taken = some_taken e.moment sack transfer in
    let any = some_proceeds (sack_taken e transfer taken.0) held taken.0 in
    (any.0, follows e held transfer taken.0 sack any.0 taken.1 any.1)

refused_valid : {R : Type 0} (old : Context R) (b : Below old.state) (sack : SackContent) (front rest telling : List (Event (List ℕ))) → is_sack_valid b.transfer.retransmission sack.cumulative_tsn_ack ≡ true
    → delivered_up_to sack.cumulative_tsn_ack b.transfer.retransmission ≡ front ++ rest → telling ≡ (view_of old).events ++ front → CutsSomeTurn (ReceivesSack sack) (view_of old) telling
refused_valid {R = R} old b sack front rest telling valid parts told =
    let v : View R = view_of old in
    let e : Endpoint = endpoint_of old in
    let f : Event Emission → Event (List ℕ) = user_event (ports_of e.options) in
    let some = some_follows e b.held b.transfer sack in
    let more : List (Event (List ℕ)) = map f some.0.events in
    let all : map f some.1.outcome.events ≡ front ++ (rest ++ more) =
    ap (λ (o : Outcome). map f o.events) some.1.is
    ∙ map-append f (delivered_up_to sack.cumulative_tsn_ack b.transfer.retransmission) some.0.events
    ∙ ap (λ (es : List (Event (List ℕ))). es ++ more) (told_delivered (ports_of e.options) sack.cumulative_tsn_ack b.transfer.retransmission ∙ parts)
    ∙ append_assoc front rest more in
    record {
      outcome = some.1.outcome;
      turn = turn_at e (held_by_core e.core) (transfer_of old.state) b.held b.transfer sack true some.1.outcome b.holds b.below valid some.1.by refl;
      cut = record { count = length front; added = told ∙ ap (λ (es : List (Event (List ℕ))). v.events ++ es) (sym (ap (take (length front)) all ∙ take_front front (rest ++ more))) };
    }

refused_where : {R : Type 0} (old : Context R) (b : Below old.state) (sack : SackContent) (front rest telling : List (Event (List ℕ))) (x : Bool) → is_sack_valid b.transfer.retransmission sack.cumulative_tsn_ack ≡ x
    → delivered_up_to sack.cumulative_tsn_ack b.transfer.retransmission ≡ front ++ rest → telling ≡ (view_of old).events ++ front → (is_sack_valid b.transfer.retransmission sack.cumulative_tsn_ack ≡ false → telling ≡ (view_of old).events) → CutsSomeTurn (ReceivesSack sack) (view_of old) telling
refused_where old b sack front rest telling true valid parts told nothing = refused_valid old b sack front rest telling valid parts told
refused_where old b sack front rest telling false valid parts told nothing =
    let e : Endpoint = endpoint_of old in
    record {
      outcome = still e;
      turn = turn_at e (held_by_core e.core) (transfer_of old.state) b.held b.transfer sack false (still e) b.holds b.below valid refl refl;
      cut = cut_first (view_of old) (still e) telling (nothing valid);
    }

pub sack_refused : {R : Type 0} (old : Context R) (sack : SackContent) (state : State) (events : List SocketEvent) (error : AllocError) → is_some (transfer_of old.state) ≡ true
    → HandlesSackInTransfer old.moment sack (transfer_of old.state) (state_and_events old.state (map event_content old.events)) (state_and_events state (map event_content events)) (Err error) → CutsSomeTurn (ReceivesSack sack) (view_of old) (map event_content events)
sack_refused old sack state events error some h =
    let b = below_of old.state some in
    let here : HandlesSackInTransfer old.moment sack (Some b.transfer) (state_and_events old.state (map event_content old.events)) (state_and_events state (map event_content events)) (Err error) =
    subst (λ (f : Option Transfer). HandlesSackInTransfer old.moment sack f (state_and_events old.state (map event_content old.events)) (state_and_events state (map event_content events)) (Err error)) b.below h in
    let tells = here.2.1 in
    refused_where old b sack tells.front tells.rest (map event_content events) (is_sack_valid b.transfer.retransmission sack.cumulative_tsn_ack) refl tells.parts tells.told here.2.2

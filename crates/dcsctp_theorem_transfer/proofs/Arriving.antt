-- The chunks of a packet that brings what is outstanding at one socket, at the other one.
use Rattle.std.proofs.Common.{◌≡◌, ◌≤◌, ◌<◌, ◌+◌, ◌%◌, ◌^◌, ℕ, zero, suc, Bool, true, false, ◌&&◌, cond, Option, None, Some, List, [], ◌∷◌, length, map, slice_get, inr, refl, sym, ap, ◌∙◌, subst, arith}
use Rattle.dcsctp_spec_lemmas.specs.wire.Content.{SackContent, no_user_data}
use Rattle.dcsctp_spec_lemmas.specs.types.declared.association.Held.{Held}
use Rattle.dcsctp_spec_lemmas.specs.types.declared.association.Pair.{Pair}
use Rattle.dcsctp_spec_lemmas.specs.types.declared.ends.Violation.{Violation}
use Rattle.dcsctp_spec_lemmas.specs.types.declared.kinds.ErrorKind.TheVariants.{ProtocolViolation}
use Rattle.dcsctp_spec_lemmas.specs.spec.Packet.{Plain, plain, unworked, error_of}
use Rattle.dcsctp_spec_lemmas.specs.spec.association.Choices.{plain_contents}
use Rattle.dcsctp_spec_lemmas.specs.spec.endpoint.CallTurns.{Transition, Turns, AfterChunk, ChunkTurns, after_all}
use Rattle.dcsctp_spec_lemmas.specs.spec.endpoint.DataOutcomes.{HandlesPayload, ReceiveTurn, no_user_data_text, no_user_data_outcome, DataTurn}
use Rattle.dcsctp_spec_lemmas.specs.spec.endpoint.Endpoint.{Endpoint, Core, open_in, established, held_by_core}
use Rattle.dcsctp_spec_lemmas.specs.spec.endpoint.Event.{error}
use Rattle.dcsctp_spec_lemmas.specs.spec.endpoint.Following.{Following, next_chunk}
use Rattle.dcsctp_spec_lemmas.specs.spec.endpoint.Outcome.{Outcome, quiet, sends, fits, to_peer, behind}
use Rattle.dcsctp_spec_lemmas.specs.spec.endpoint.PlainOutcomes.{violation_by_core, PlainTurnUnlessViolating}
use Rattle.dcsctp_spec_lemmas.specs.spec.endpoint.TransferMoves.{has_room, dropping, ReceivesIfRoom, ReceivesData}
use Rattle.dcsctp_spec_lemmas.specs.spec.endpoint.Turn.{Input, ContentTurn}
use Rattle.dcsctp_spec_lemmas.specs.spec.queues.Arrivals.{Arrival, data_arrival, i_data_arrival}
use Rattle.dcsctp_spec_lemmas.specs.spec.queues.Chunks.{byte_field, data_said, i_data_said, chunk_said, AreChunksOfTsns}
use Rattle.dcsctp_spec_lemmas.specs.spec.queues.Items.{Item}
use Rattle.dcsctp_spec_lemmas.specs.spec.queues.Outstanding.{OutstandingState, tsn_at}
use Rattle.dcsctp_spec_lemmas.specs.spec.queues.Sending.{Fragment}
use Rattle.dcsctp_spec_lemmas.specs.spec.queues.Tracker.{TrackerState, nearest_number, is_valid_tsn}
use Rattle.dcsctp_spec_lemmas.specs.spec.queues.Transfer.{Transfer}
use Rattle.dcsctp_spec_laws.specs.SackLaws.{IsTracked}
use Rattle.dcsctp_theorem_transfer.specs.Deadlines.{IsOpen}
use Rattle.dcsctp_theorem_transfer.specs.Recovering.{SaysSack}
use Rattle.dcsctp_theorem_transfer.specs.Taking.{arrival_of_chunk, HasPayload}
use Rattle.dcsctp_theorem_transfer.proofs.Observing.{HasJustCome, arrival_comes, HasReceivedBelow, cumulative_below, Follows, follows_itself, received_follows, near_is}
use Rattle.dcsctp_theorem_transfer.proofs.Taking.{data_turn, plain_turn}

-- ---- one chunk

-- what the chunk of a fragment brings
abbrev pub said_arrival : Bool → ℕ → Fragment → Arrival
said_arrival true tsn part = i_data_arrival (i_data_said tsn part)
said_arrival false tsn part = data_arrival (data_said tsn part)

pub said_brings : (kind : Bool) (tsn : ℕ) (part : Fragment) → arrival_of_chunk (unworked (chunk_said kind tsn part)) ≡ Some (said_arrival kind tsn part)
said_brings true tsn part = refl
said_brings false tsn part = refl

pub said_tsn : (kind : Bool) (tsn : ℕ) (part : Fragment) → (said_arrival kind tsn part).tsn ≡ tsn % 2 ^ 32
said_tsn true tsn part = refl
said_tsn false tsn part = refl

pub said_payload : (kind : Bool) (tsn : ℕ) (part : Fragment) → (said_arrival kind tsn part).chunk.payload ≡ map byte_field part.payload
said_payload true tsn part = refl
said_payload false tsn part = refl

-- It is in the form that was negotiated.
pub form_allowed : (kind : Bool) (tsn : ℕ) (part : Fragment) (my : Pair) (held : Held) → held.capabilities.message_interleaving ≡ kind
    → violation_by_core (open_in established my held) (unworked (chunk_said kind tsn part)) ≡ None
form_allowed true tsn part my held is = rw is refl
form_allowed false tsn part my held is = rw is refl

-- The receiver while the chunks of a packet are handled.
pub record IsReceiving (kind : Bool) (bound : ℕ) (e : Endpoint) (transfer : Transfer) : Type 0 where
  pub my : Pair
  pub held : Held
  pub phase : e.core ≡ open_in established my held
  pub form : held.capabilities.message_interleaving ≡ kind
  pub has : e.queues.transfer ≡ Some transfer
  pub follows : transfer.tracker.follows_rfc ≡ true
  pub tracked : IsTracked transfer.tracker
  pub below : HasReceivedBelow bound transfer.tracker

-- What the turn of a chunk leaves.
pub record HasCome (bound : ℕ) (arrival : Arrival) (e : Endpoint) (old : Transfer) (o : Outcome) : Type 0 where
  pub left : Transfer
  pub has : o.after.queues.transfer ≡ Some left
  pub core : o.after.core ≡ e.core
  pub options : o.after.options ≡ e.options
  pub following : o.following ≡ next_chunk
  pub follows : Follows bound old.tracker left.tracker
  pub comes : is_valid_tsn old.tracker.cumulative arrival.tsn ≡ true → HasPayload arrival.chunk.payload → HasJustCome left.tracker.acknowledgement

valid_comes : (a b : Bool) (arrival : Arrival) (old new : Transfer) → is_valid_tsn old.tracker.cumulative arrival.tsn ≡ b → old.tracker.follows_rfc ≡ true → ReceivesIfRoom (a && b) arrival old new → b ≡ true
    → HasJustCome new.tracker.acknowledgement
valid_comes true true arrival old new valid follows does is = subst (λ (t : Transfer). HasJustCome t.tracker.acknowledgement) (sym does.rest) (arrival_comes old.tracker.acknowledgement _)
valid_comes a false arrival old new valid follows does is = absurd (cc)
valid_comes false true arrival old new valid follows does is =
    let both : (old.tracker.follows_rfc && is_valid_tsn old.tracker.cumulative arrival.tsn) ≡ true = ap (λ (b : Bool). b && is_valid_tsn old.tracker.cumulative arrival.tsn) follows ∙ valid in
    subst (λ (t : Transfer). HasJustCome t.tracker.acknowledgement) (sym (does ∙ ap (λ (b : Bool). dropping b old) both)) tt

-- Data without bytes is answered by an ERROR, if that fits.
refused_stays : (b : Bool) (bound : ℕ) (arrival : Arrival) (e : Endpoint) (held : Held) (t : Transfer) → e.queues.transfer ≡ Some t → Follows bound t.tracker t.tracker → (HasPayload arrival.chunk.payload → ⊥)
    → HasCome bound arrival e t (behind [] (error ProtocolViolation no_user_data_text ∷ []) (cond b (sends e [] [] (to_peer held (plain (error_of (no_user_data arrival.tsn ∷ []))))) (quiet e [] [])))
refused_stays true bound arrival e held t has same empty =
    record { left = t; has = has; core = refl; options = refl; following = refl; follows = same; comes = λ valid bytes. absurd (empty bytes) }
refused_stays false bound arrival e held t has same empty =
    record { left = t; has = has; core = refl; options = refl; following = refl; follows = same; comes = λ valid bytes. absurd (empty bytes) }

no_data_stays : (bound : ℕ) (arrival : Arrival) (e : Endpoint) (peer : Option Held) (t : Transfer) → e.queues.transfer ≡ Some t → Follows bound t.tracker t.tracker → (HasPayload arrival.chunk.payload → ⊥)
    → HasCome bound arrival e t (no_user_data_outcome e peer arrival.tsn)
no_data_stays bound arrival e None t has same empty =
    record { left = t; has = has; core = refl; options = refl; following = refl; follows = same; comes = λ valid bytes. absurd (empty bytes) }
no_data_stays bound arrival e (Some held) t has same empty = refused_stays (fits e (to_peer held (plain (error_of (no_user_data arrival.tsn ∷ []))))) bound arrival e held t has same empty

payload_comes : (bound : ℕ) (arrival : Arrival) (payload : List ℕ) (e : Endpoint) (t : Transfer) (o : Outcome) → arrival.chunk.payload ≡ payload → e.queues.transfer ≡ Some t → t.tracker.follows_rfc ≡ true → IsTracked t.tracker
    → HasReceivedBelow bound t.tracker → nearest_number t.tracker.cumulative arrival.tsn < bound → HandlesPayload e arrival payload o → HasCome bound arrival e t o
payload_comes bound arrival [] e t o is has follows tracked below near turn =
    subst (HasCome bound arrival e t) (sym turn)
    (no_data_stays bound arrival e (held_by_core e.core) t has (follows_itself bound t.tracker follows tracked below) (λ bytes. subst HasPayload is bytes))
payload_comes bound arrival (byte ∷ bytes) e t o is has follows tracked below near turn = go e.queues.transfer has turn
  where
    go : (found : Option Transfer) → found ≡ Some t → ReceiveTurn e found arrival o → HasCome bound arrival e t o
    go None none does = absurd (cc)
    go (Some other) some does =
        let same : other ≡ t = cc in
        let got : ReceivesData arrival t does.0 = subst (λ (x : Transfer). ReceivesData arrival x does.0) same does.1 in
        subst (HasCome bound arrival e t) (sym does.2)
        (record {
          left = does.0;
          has = refl;
          core = refl;
          options = refl;
          following = refl;
          follows = received_follows (has_room arrival.tsn t) (is_valid_tsn t.tracker.cumulative arrival.tsn) bound arrival t does.0 refl follows tracked below near got;
          comes = λ valid some_bytes. valid_comes (has_room arrival.tsn t) (is_valid_tsn t.tracker.cumulative arrival.tsn) arrival t does.0 refl follows got valid;
        })

pub chunk_comes : (kind : Bool) (bound tsn : ℕ) (part : Fragment) (e : Endpoint) (t : Transfer) (tag : ℕ) (o : Outcome) → IsReceiving kind bound e t → nearest_number t.tracker.cumulative (tsn % 2 ^ 32) < bound
    → ContentTurn e tag (plain (unworked (chunk_said kind tsn part))) o → HasCome bound (said_arrival kind tsn part) e t o
chunk_comes kind bound tsn part e t tag o receiving near turn =
    let arrival : Arrival = said_arrival kind tsn part in
    let opened : IsOpen e.core = subst IsOpen (sym receiving.phase) tt in
    let allowed : violation_by_core e.core (unworked (chunk_said kind tsn part)) ≡ None =
    ap (λ (c : Core). violation_by_core c (unworked (chunk_said kind tsn part))) receiving.phase ∙ form_allowed kind tsn part receiving.my receiving.held receiving.form in
    let data_comes : DataTurn e arrival o =
    data_turn e (unworked (chunk_said kind tsn part)) arrival o (said_brings kind tsn part)
    (subst (λ (violation : Option Violation). PlainTurnUnlessViolating e (unworked (chunk_said kind tsn part)) violation o) allowed
    (plain_turn e tag (unworked (chunk_said kind tsn part)) o opened turn)) in
    payload_comes bound arrival arrival.chunk.payload e t o refl receiving.has receiving.follows receiving.tracked receiving.below
    (subst (λ (n : ℕ). nearest_number t.tracker.cumulative n < bound) (sym (said_tsn kind tsn part)) near) data_comes

-- ---- all of them

-- The receiver goes on to what follows the chunks, with all that came.
pub record Reaches (bound : ℕ) (old : TrackerState) (ends : List Input) (e : Endpoint) (turns : List Transition) : Type 0 where
  pub last : Endpoint
  pub transfer : Transfer
  pub has : last.queues.transfer ≡ Some transfer
  pub core : last.core ≡ e.core
  pub options : last.options ≡ e.options
  pub follows : Follows bound old transfer.tracker
  pub final : List Transition
  pub ended : Turns last ends final
  pub after : after_all e turns ≡ after_all last final
  pub says : (sack : SackContent) → SaysSack sack final → SaysSack sack turns

pub follows_then : (bound : ℕ) (a b c : TrackerState) → Follows bound a b → Follows bound b c → Follows bound a c
follows_then bound a b c one other =
    record {
      follows = other.follows;
      tracked = other.tracked;
      below = other.below;
      on = (let first = one.on in let second = other.on in omega (arith, first, second));
      comes = λ comes. other.comes (one.comes comes);
    }

-- once one chunk has come
pub goes_on : (kind : Bool) (bound : ℕ) (arrival : Arrival) (e : Endpoint) (t : Transfer) (o : Outcome) → IsReceiving kind bound e t → (come : HasCome bound arrival e t o) → IsReceiving kind bound o.after come.left
goes_on kind bound arrival e t o receiving come =
    record {
      my = receiving.my;
      held = receiving.held;
      phase = come.core ∙ receiving.phase;
      form = receiving.form;
      has = come.has;
      follows = come.follows.follows;
      tracked = come.follows.tracked;
      below = come.follows.below;
    }

-- after one more chunk before them
abbrev pub reaches_after : (bound : ℕ) (arrival : Arrival) (ends : List Input) (e : Endpoint) (t : Transfer) (turn : Transition) (turns : List Transition) (come : HasCome bound arrival e t turn.outcome)
    → Reaches bound come.left.tracker ends turn.outcome.after turns → Reaches bound t.tracker ends e (turn ∷ turns)
reaches_after bound arrival ends e t turn turns come reached =
    record {
      last = reached.last;
      transfer = reached.transfer;
      has = reached.has;
      core = reached.core ∙ come.core;
      options = reached.options ∙ come.options;
      follows = follows_then bound t.tracker come.left.tracker reached.transfer.tracker come.follows reached.follows;
      final = reached.final;
      ended = reached.ended;
      after = reached.after;
      says = λ sack says. inr (reached.says sack says);
    }

-- The numbers of what is outstanding, at a receiver that has all before the lowest.
module _ (outstanding : OutstandingState) (number : ℕ) (is : number % 2 ^ 32 ≡ outstanding.first_tsn) (few : length outstanding.items < 2 ^ 31) where
  abbrev Bound : ℕ
  Bound = number + length outstanding.items

  within : (items : List Item) (place : ℕ) (item : Item) → slice_get items place ≡ Some item → place < length items
  within [] place item at = absurd (cc)
  within (x ∷ items) zero item at = omega arith
  within (x ∷ items) (suc place) item at = let rest = within items place item at in omega (arith, rest)

  pub near_place : (tracker : TrackerState) (place : ℕ) (item : Item) (tsn : ℕ) → HasReceivedBelow Bound tracker → number ≤ tracker.cumulative + 1 → slice_get outstanding.items place ≡ Some item
      → tsn ≡ tsn_at outstanding place → nearest_number tracker.cumulative (tsn % 2 ^ 32) ≡ number + place
  near_place tracker place item tsn below before at tsn_is =
      let here : place < length outstanding.items = within outstanding.items place item at in
      let cumulative : tracker.cumulative < Bound = cumulative_below Bound tracker below in
      near_is tracker.cumulative (number + place) (tsn % 2 ^ 32) (omega (arith, tsn_is, is)) (omega (arith, here, few, before)) (omega (arith, cumulative, few))

  pub all_come : (tsns : List ℕ) (chunks : List Plain) (ends : List Input) (e : Endpoint) (t : Transfer) (tag : ℕ) (turns : List Transition) → AreChunksOfTsns outstanding tsns chunks
      → IsReceiving outstanding.is_interleaved Bound e t → number ≤ t.tracker.cumulative + 1 → ChunkTurns e tag (plain_contents chunks) ends turns → Reaches Bound t.tracker ends e turns
  all_come [] [] ends e t tag turns are receiving before does =
      record {
        last = e;
        transfer = t;
        has = receiving.has;
        core = refl;
        options = refl;
        follows = follows_itself Bound t.tracker receiving.follows receiving.tracked receiving.below;
        final = turns;
        ended = does;
        after = refl;
        says = λ sack says. says;
      }
  all_come [] (chunk ∷ chunks) ends e t tag turns are receiving before does = absurd are
  all_come (tsn ∷ tsns) [] ends e t tag turns are receiving before does = absurd are
  all_come (tsn ∷ tsns) (chunk ∷ chunks) ends e t tag [] are receiving before does = absurd does
  all_come (tsn ∷ tsns) (chunk ∷ chunks) ends e t tag (turn ∷ turns) are receiving before does =
      let here : nearest_number t.tracker.cumulative (tsn % 2 ^ 32) ≡ number + are.0.place = near_place t.tracker are.0.place are.0.item tsn receiving.below before are.0.at are.0.is in
      let place : are.0.place < length outstanding.items = within outstanding.items are.0.place are.0.item are.0.at in
      let come : HasCome Bound (said_arrival outstanding.is_interleaved tsn are.0.item.fragment) e t turn.outcome =
      chunk_comes outstanding.is_interleaved Bound tsn are.0.item.fragment e t tag turn.outcome receiving (omega (arith, here, place))
      (subst (λ (c : Plain). ContentTurn e tag (plain c) turn.outcome) are.0.says does.0.comes) in
      let rest : ChunkTurns turn.outcome.after tag (plain_contents chunks) ends turns =
      subst (λ (f : Following). AfterChunk f (ChunkTurns turn.outcome.after tag (plain_contents chunks) ends turns) (Turns turn.outcome.after ends turns) (turns ≡ [])) come.following does.1 in
      let reached : Reaches Bound come.left.tracker ends turn.outcome.after turns =
      all_come tsns chunks ends turn.outcome.after come.left tag turns are.1
      (goes_on outstanding.is_interleaved Bound (said_arrival outstanding.is_interleaved tsn are.0.item.fragment) e t turn.outcome receiving come)
      (let on = come.follows.on in omega (arith, before, on)) rest in
      reaches_after Bound (said_arrival outstanding.is_interleaved tsn are.0.item.fragment) ends e t turn turns come reached

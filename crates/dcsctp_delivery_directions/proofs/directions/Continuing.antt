-- How the history continues, and which streams are handed out to be reset, in each step that ends no
-- reset.
use Rattle.dcsctp_delivery_directions.specs.directions.Directions.{is_in_turn}
use Rattle.std.proofs.Common.{◌≡◌, ℕ, suc, Bool, true, false, ◌<◌, ◌≤◌, ◌^◌, Some, List, [], ◌∷◌, ◌++◌, length, refl, sym, ◌∙◌, arith, subst, inl}
use Rattle.std.specs.Prelude.{◌⊎◌, Option, None}
use Rattle.std.specs.List.{AllByRecursion}
use Rattle.dcsctp_spec.specs.types.declared.options.Options.{Options}
use Rattle.dcsctp_spec.specs.endpoint.Event.{Event}
use Rattle.dcsctp_spec.specs.Packet.{Emission}
use Rattle.dcsctp_spec.specs.endpoint.BegunResets.{BegunReset}
use Rattle.dcsctp_spec.specs.queues.Reassembly.{names_stream}
use Rattle.dcsctp_spec.specs.queues.Transfer.{EndpointQueues}
use Rattle.dcsctp_spec.specs.types.queues.SendStreams.{Stream}
use Rattle.dcsctp_delivery_directions.specs.sending.Places.{HasEntry, at_place}
use Rattle.dcsctp_delivery_directions.specs.sending.Log.{Fits, Message, Piece, Slot, Mark, History, Resets, new_history, log_extended, with_mark, mark_renewed, with_renewed, sent_messages}
use Rattle.dcsctp_delivery_directions.specs.sending.Flushes.{SendsLogged, AreHandedFor}
use Rattle.dcsctp_delivery_directions.specs.sending.Numbers.{AreCurrent, AreKept, is_handed_out, stream_named}
use Rattle.dcsctp_delivery_directions.specs.sending.Queueing.{QueueWaits, floors_raised}
use Rattle.dcsctp_delivery_directions.specs.directions.Directions.{Beginning, Direction, asking_with, NoneInFlight, BeginsDirection, IsAwaited, DirectionStep, queues, sets, prepares, commits, rolls_back, flushes, resends, resends_nothing, speaks, asks_again, renews, turns_aside, acknowledges, loses, receives, forwards, receives_interleaved, forwards_interleaved, tracks, defers, performs, performs_earlier, resets, takes}
use Rattle.dcsctp_delivery_directions.proofs.sending.Extended.{IsAsOne, as_itself, extends_grown, extends_noted, extends_renewed}
use Rattle.dcsctp_delivery_directions.proofs.sending.Places.{at_below}
use Rattle.dcsctp_delivery_directions.proofs.sending.StayHanded.{StayHanded, queueing_stays, setting_stays, preparing_stays}
use Rattle.dcsctp_delivery_directions.proofs.directions.Cleared.{not_new}
use Rattle.dcsctp_delivery_directions.proofs.directions.Queued.{commits_by, commits_interleaved, stepped_queues, stepped_sets, stepped_queue, stepped_prepares, stepped_commits}
use Rattle.dcsctp_delivery_directions.proofs.directions.Receiving.{stepped_defers, stepped_receives, stepped_receives_interleaved, stepped_forwards, stepped_forwards_interleaved, stepped_tracks, stepped_takes, takes_data, stepped_arrived, skips, stepped_resets}
use Rattle.dcsctp_delivery_directions.proofs.directions.Sending.{stepped_resends, stepped_resends_nothing, stepped_speaks, stepped_asks_again, stepped_turns_aside, stepped_acknowledges, stepped_loses, stepped_sent, stepped_stays, stepped_transfer, at_once}
use Rattle.dcsctp_delivery_directions.proofs.directions.Flushing.{flushed, stepped_flushes}
use Rattle.dcsctp_delivery_directions.proofs.directions.Performing.{newest_of, stepped_performs}
use Rattle.dcsctp_delivery_directions.proofs.directions.Renewing.{stepped_renews}
use Rattle.dcsctp_delivery_directions.proofs.directions.Standing.{Stands}
use Rattle.dcsctp_delivery_directions.proofs.directions.Steps.{stepped}
use Rattle.dcsctp_delivery_directions.proofs.directions.Directions.{begun_stands, stands_anew, started_stands}

-- ---- the streams that the newest request names

-- The stream was handed out for this reset, and all its pieces were sent before.
pub record IsOutFor (history : History) (mark : Mark) (streams : List Stream) (id : ℕ) : Type 0 where
  pub names : Resets mark id
  pub handed : is_handed_out (stream_named id streams).pause ≡ true
  pub below : (n : ℕ) (f : Piece) → at_place n history.log ≡ Some (Some f) → f.message.stream ≡ id → n < mark.bound

-- This holds for each stream that the newest request names, as long as a request has no end.
abbrev pub NamedAreOut : History → ℕ → List Stream → Type 0
NamedAreOut history out streams =
    (mark : Mark) (earlier : List Mark) → history.marks ≡ mark ∷ earlier → 0 < out → (id : ℕ) → names_stream mark.begun.reset.streams id ≡ true → IsOutFor history mark streams id

-- ---- a history that continues

-- More TSNs may have been assigned, to pieces that were sent since the last reset of their stream, and a reset may have begun.
-- No floor was raised, and the streams that were handed out still are. `before` and `after` are the streams of the queue, and
-- `out` and `left` how many requests have no end.
pub record Continues (old new : History) (before after : List Stream) (out left : ℕ) : Type 0 where
  pub more : List Slot
  pub log : new.log ≡ more ++ old.log
  pub floors : new.floors ≡ old.floors
  pub current : AreCurrent old more
  pub kept : AreKept after more
  pub keeps : (mark : Mark) → HasEntry mark old.marks → HasEntry mark new.marks
  pub marks : (mark : Mark) → HasEntry mark new.marks → IsAsOne old mark ⊎ (length old.log ≤ mark.bound)
  pub stay : StayHanded before after
  pub named : NamedAreOut old out before → NamedAreOut new left after

continues_so : (history : History) (before after : List Stream) (out : ℕ) → StayHanded before after → Continues history history before after out out
continues_so history before after out stay =
    record {
      more = [];
      log = refl;
      floors = refl;
      current = λ n f at kind. absurd (cc);
      kept = λ n f at. absurd (cc);
      keeps = λ mark has. has;
      marks = λ mark has. inl (as_itself history mark has);
      stay = stay;
      named = λ named mark earlier is some id names. (let out = named mark earlier is some id names in record { names = out.names; handed = stay id out.handed; below = out.below });
    }

pub continues_same : (history : History) (streams : List Stream) (out : ℕ) → Continues history history streams streams out out
continues_same history streams out = continues_so history streams streams out (λ id handed. handed)

-- more TSNs are assigned
module _ (more : List Slot) (history : History) (before after : List Stream) (current : AreCurrent history more) (kept : AreKept after more) (stay : StayHanded before after) where
  continues_grown : (out : ℕ) → Continues history (log_extended more history) before after out out
  continues_grown out =
      record {
        more = more;
        log = refl;
        floors = refl;
        current = current;
        kept = kept;
        keeps = (extends_grown more history).marks;
        marks = (extends_grown more history).later;
        stay = stay;
        named = λ named mark earlier is some id names. (
            let out = named mark earlier is some id names in
            let handed : is_handed_out (stream_named id after).pause ≡ true = stay id out.handed in
            record { names = out.names; handed = handed; below = λ n f at on. out.below n f (not_new more history.log after id n f kept handed on at) on }
            );
      }

  -- and a reset is begun
  continues_asked : (begun : BegunReset) (ids : List ℕ) (bound out left : ℕ) → length history.log ≤ bound → AreHandedFor (Some begun) ids after → Continues history (with_mark (Some begun) ids bound (log_extended more history)) before after out left
  continues_asked begun ids bound out left low handed =
      record {
        more = more;
        log = refl;
        floors = refl;
        current = current;
        kept = kept;
        keeps = (extends_noted (Some begun) ids bound more history low).marks;
        marks = (extends_noted (Some begun) ids bound more history low).later;
        stay = stay;
        named = λ named mark earlier is some id names. (
            let same : record { bound = bound; begun = begun; ids = ids } ≡ mark = cc in
            subst (λ (m : Mark). IsOutFor (with_mark (Some begun) ids bound (log_extended more history)) m after id) same
            (anew id (handed id (subst (λ (m : Mark). names_stream m.begun.reset.streams id ≡ true) (sym same) names)))
            );
      }
    where
      anew : (id : ℕ) → Resets (record { bound = bound; begun = begun; ids = ids }) id × (is_handed_out (stream_named id after).pause ≡ true)
          → IsOutFor (with_mark (Some begun) ids bound (log_extended more history)) (record { bound = bound; begun = begun; ids = ids }) after id
      anew id is =
          record {
            names = is.0;
            handed = is.1;
            below = λ n f at on. (let old = at_below n (Some f) history.log (not_new more history.log after id n f kept is.1 on at) in omega (arith, old, low));
          }

module _ (first : ℕ) (old : Direction) (s : Stands first old) (below : EndpointQueues) (events : List (Event Emission)) (next : below.queue.next_message_id ≡ old.queues.queue.next_message_id)
    (kind : below.queue.is_interleaved ≡ old.queues.queue.is_interleaved) where
  flushed_continues : (begun : Option BegunReset) (sends : SendsLogged (sent_messages old.queued s.history) first old.acknowledged old.queues.queue begun below events)
      → Continues s.history (flushed first old s below events next kind begun sends).history old.queues.queue.streams below.queue.streams old.asking.out (asking_with begun old.asking).out
  unfolding flushed
  flushed_continues None sends = continues_grown sends.more s.history old.queues.queue.streams below.queue.streams sends.current sends.kept sends.stay old.asking.out
  flushed_continues (Some begun) sends =
      continues_asked sends.more s.history old.queues.queue.streams below.queue.streams sends.current sends.kept sends.stay begun sends.ids sends.bound old.asking.out (suc old.asking.out) sends.low sends.named

-- the newest reset continues under another number
continues_renewed : (number : ℕ) (newest : Mark) (rest : List Mark) (history : History) (streams : List Stream) (out : ℕ) → history.marks ≡ newest ∷ rest → HasEntry newest history.marks
    → Continues history (with_renewed number newest history) streams streams out out
continues_renewed number newest rest history streams out newest_is known =
    record {
      more = [];
      log = refl;
      floors = refl;
      current = λ n f at kind. absurd (cc);
      kept = λ n f at. absurd (cc);
      keeps = (extends_renewed number newest history known).marks;
      marks = (extends_renewed number newest history known).later;
      stay = λ id handed. handed;
      named = λ named mark earlier is some id names. (
          let same : mark_renewed number newest ≡ mark = cc in
          let out = named newest rest newest_is some id (subst (λ (m : Mark). names_stream m.begun.reset.streams id ≡ true) (sym same) names) in
          subst (λ (m : Mark). IsOutFor (with_renewed number newest history) m streams id) same (record { names = out.names; handed = out.handed; below = out.below })
          );
    }

-- ---- each step

-- The step ends no reset.
abbrev pub EndsNone : (old direction : Direction) → DirectionStep old direction → Type 0
EndsNone old _ (commits go_on) = ⊥
EndsNone old _ (rolls_back unmixed) = ⊥
EndsNone old _ step = Unit {0}

pub step_continues : (first : ℕ) (old : Direction) (small : first < 2 ^ 32) (s : Stands first old) (direction : Direction) (few : length direction.queued < 2 ^ 64) (step : DirectionStep old direction) → EndsNone old direction step
    → Continues s.history (stepped first old small s direction few step).history old.queues.queue.streams direction.queues.queue.streams old.asking.out direction.asking.out
unfolding stepped stepped_defers stepped_queues stepped_sets stepped_queue stepped_prepares stepped_receives stepped_receives_interleaved stepped_forwards stepped_forwards_interleaved stepped_tracks stepped_takes takes_data stepped_arrived skips stepped_resets stepped_performs stepped_resends stepped_resends_nothing stepped_speaks stepped_asks_again stepped_turns_aside stepped_acknowledges stepped_loses stepped_sent stepped_stays stepped_transfer stepped_flushes stepped_renews
step_continues first old small s _ few (queues now sending fits some) ends =
    continues_so s.history old.queues.queue.streams _ old.asking.out (queueing_stays now sending old.queues.queue)
step_continues first old small s _ few (sets setting fits) ends = continues_so s.history old.queues.queue.streams _ old.asking.out (setting_stays setting old.queues.queue)
step_continues first old small s _ few (prepares ids fit kept) ends = continues_so s.history old.queues.queue.streams _ old.asking.out (preparing_stays ids old.queues.queue)
step_continues first old small s _ few (commits go_on) ends = absurd ends
step_continues first old small s _ few (rolls_back unmixed) ends = absurd ends
step_continues first old small s _ few (flushes e draft answers same no_data allowed) ends = flushed_continues first old s _ _ _ _ _ _
step_continues first old small s _ few (resends now room transfer left tsns chunks emission known sends are contents) ends =
    let stays = at_once first old s now room transfer left tsns known sends in
    continues_grown stays.more s.history old.queues.queue.streams old.queues.queue.streams stays.current stays.kept (λ id handed. handed) old.asking.out
step_continues first old small s _ few (resends_nothing now room transfer left tsns known sends) ends =
    let stays = at_once first old s now room transfer left tsns known sends in
    continues_grown stays.more s.history old.queues.queue.streams old.queues.queue.streams stays.current stays.kept (λ id handed. handed) old.asking.out
step_continues first old small s _ few (renews emission newest earlier number asks out contents) ends =
    let m = newest_of s.history.marks newest earlier (sym s.asked ∙ asks) in
    continues_renewed number m.mark m.earlier s.history old.queues.queue.streams old.asking.out m.is (subst (λ (l : List Mark). HasEntry m.mark l) (sym m.is) (inl refl))
step_continues first old small s _ few (speaks emission no_data) ends = continues_same s.history old.queues.queue.streams old.asking.out
step_continues first old small s _ few (asks_again emission begun was contents) ends = continues_same s.history old.queues.queue.streams old.asking.out
step_continues first old small s _ few (turns_aside transfer new known same) ends = continues_same s.history old.queues.queue.streams old.asking.out
step_continues first old small s _ few (acknowledges now sack transfer new known valid reached does) ends = continues_same s.history old.queues.queue.streams old.asking.out
step_continues first old small s _ few (loses now transfer known) ends = continues_same s.history old.queues.queue.streams old.asking.out
step_continues first old small s _ few (receives emission chunk theirs new was holds some same same' does) ends = continues_same s.history old.queues.queue.streams old.asking.out
step_continues first old small s _ few (forwards emission tsn streams theirs new was holds same same' does) ends = continues_same s.history old.queues.queue.streams old.asking.out
step_continues first old small s _ few (receives_interleaved emission chunk theirs new was holds some same same' does) ends = continues_same s.history old.queues.queue.streams old.asking.out
step_continues first old small s _ few (forwards_interleaved emission tsn streams theirs new was holds same same' does) ends = continues_same s.history old.queues.queue.streams old.asking.out
step_continues first old small s _ few (tracks new cumulative ranges) ends = continues_same s.history old.queues.queue.streams old.asking.out
step_continues first old small s _ few (defers last_tsn streams some) ends = continues_same s.history old.queues.queue.streams old.asking.out
step_continues first old small s _ few (performs newest earlier new asks unknown reached own leaves) ends = continues_same s.history old.queues.queue.streams old.asking.out
step_continues first old small s _ few (resets streams new unmixed some leaves) ends = continues_same s.history old.queues.queue.streams old.asking.out
step_continues first old small s _ few (performs_earlier newest earlier new asks unknown reached own leaves) ends = continues_same s.history old.queues.queue.streams old.asking.out
step_continues first old small s _ few (takes message messages is) ends = continues_same s.history old.queues.queue.streams old.asking.out

-- With interleaving the end of a reset raises floors.
commits_raise : (first : ℕ) (old : Direction) (s : Stands first old) (b : Bool) (is : old.queues.queue.is_interleaved ≡ b) (go_on : is_in_turn old ≡ true → (old.asking.out ≤ 1) × (old.asking.is_performed ≡ true)) → b ≡ true
    → (commits_by first old s b is go_on).history ≡ floors_raised old.queues.queue.streams s.history
unfolding commits_by commits_interleaved
commits_raise first old s true is go_on interleaved = refl
commits_raise first old s false is go_on interleaved = absurd (cc)

pub ended_raises : (first : ℕ) (old : Direction) (small : first < 2 ^ 32) (s : Stands first old) (few : length old.queued < 2 ^ 64) (go_on : is_in_turn old ≡ true → (old.asking.out ≤ 1) × (old.asking.is_performed ≡ true))
    → old.queues.queue.is_interleaved ≡ true → (stepped first old small s _ few (commits go_on)).history ≡ floors_raised old.queues.queue.streams s.history
unfolding stepped stepped_commits
ended_raises first old small s few go_on interleaved = commits_raise first old s old.queues.queue.is_interleaved refl go_on interleaved

-- ---- an association begins

pub begun_history : (options : Options) (first size : ℕ) (direction : Direction) (small : first < 2 ^ 32) (b : BeginsDirection options first size direction)
    → (begun_stands options first size direction small b).history ≡ new_history b.queues.floors
unfolding begun_stands stands_anew
begun_history options first size direction small b = refl

pub started_history : (first : ℕ) (old : Direction) (queued : List Message) (below : EndpointQueues) (beginning : Beginning) (s : Stands first old) (awaited : IsAwaited old) (small : first < 2 ^ 32) (fit : AllByRecursion Fits queued) (waits : QueueWaits queued below.queue)
    (none : NoneInFlight first below.queue below.transfer) → (started_stands first old queued below beginning s awaited small fit waits none).history ≡ new_history waits.floors
unfolding started_stands stands_anew
started_history first old queued below beginning s awaited small fit waits none = refl

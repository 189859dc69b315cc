-- Streams that are handed out to be reset stay so, while the user queues and sets something, and while
-- others are prepared or handed out. Those that a request names are handed out with it.
use Rattle.std.proofs.Common.{◌≡◌, ◌==◌, ℕ, zero, suc, Bool, true, false, ◌<◌, ◌^◌, List, [], ◌∷◌, map, take, refl, sym, ◌∙◌, ap, arith, subst, inl, inr}
use Rattle.std.specs.Prelude.{◌||◌, ◌⊎◌, filter, if◌then◌else◌, Option, None, Some}
use Rattle.std.specs.List.{AllByRecursion}
use Rattle.std.proofs.lemmas.Bool.Decides.{eqb_tells}
use Rattle.std.proofs.lemmas.Bool.{eq-eqb, eqb-true}
use Rattle.dcsctp_spec.specs.types.declared.sending.Pause.{Pause}
use Rattle.dcsctp_spec.specs.types.declared.sending.Pause.TheVariants.{Open, Pausing, HandedOut}
use Rattle.dcsctp_spec.specs.queues.Incoming.{is_named}
use Rattle.dcsctp_spec.specs.queues.Reassembly.{names_stream}
use Rattle.dcsctp_spec.specs.queues.OwnResets.{is_open_pause, count_under_way, dropped_size, prepared_stream, with_used, prepared_open, queue_with_prepared, prepared_all, handing_out, ready_streams, is_ready}
use Rattle.dcsctp_spec.specs.queues.SendQueue.{SendQueueState, stream_changed, stream_found, queue_stream, is_used, used_streams, with_priority, with_threshold, queued_message}
use Rattle.dcsctp_spec.specs.types.queues.SendStreams.{Stream, stream_at, unused_stream, with_message, handed_out}
use Rattle.dcsctp_spec.specs.types.declared.association.Held.{Held}
use Rattle.dcsctp_spec.specs.endpoint.BegunResets.{BegunReset, streams_within, stream_field, begun_if_ready, queue_requesting}
use Rattle.dcsctp_spec.specs.endpoint.FlushOutcomes.{Ask, first_ask, later_ask, begun_by_ask}
use Rattle.dcsctp_spec.specs.endpoint.MessageOutcomes.{Sending, sending_queued}
use Rattle.dcsctp_spec.specs.types.Setting.{Setting, stream_priority, stream_low_threshold, longest_message}
use Rattle.dcsctp_spec.specs.endpoint.SettingOutcomes.{set_in_queue}
use Rattle.dcsctp_delivery_directions.specs.sending.Numbers.{is_handed_out, stream_named}
use Rattle.dcsctp_delivery_directions.specs.sending.Flushes.{AreHandedFor}
use Rattle.dcsctp_delivery_directions.proofs.sending.Handed.{IsHanded}
use Rattle.dcsctp_delivery_directions.proofs.sending.StreamsNamed.{found_mapped, found_used}

-- The new stream is handed out if the old one was.
StaysHanded : Stream → Stream → Type 0
StaysHanded old new = IsHanded old → IsHanded new

-- The streams that were handed out are handed out.
abbrev pub StayHanded : List Stream → List Stream → Type 0
StayHanded old new = (id : ℕ) → IsHanded (stream_named id old) → IsHanded (stream_named id new)

-- ---- streams that change

changed_stay : (other : ℕ) (f : Stream → Stream) → ((s : Stream) → (f s).id ≡ s.id) → ((s : Stream) → s.id ≡ other → IsHanded s → IsHanded (f s)) → (streams : List Stream) → StayHanded streams (stream_changed other f streams)
unfolding StaysHanded
changed_stay other f ids stays streams id =
    found_mapped StaysHanded id (unused_stream 0 0 0) (λ s. if s.id == other then f s else s) (λ s. one_id (s.id == other) s) (λ h. h) (λ s here. one (s.id == other) s refl) streams
  where
    one_id : (b : Bool) (s : Stream) → (if b then f s else s).id ≡ s.id
    one_id true s = ids s
    one_id false s = refl

    one : (b : Bool) (s : Stream) → (s.id == other) ≡ b → IsHanded s → IsHanded (if b then f s else s)
    one true s is h = stays s (eqb-true s.id other is) h
    one false s is h = h

used_stay : (queue : SendQueueState) (other : ℕ) → StayHanded queue.streams (used_streams queue other)
unfolding StaysHanded
used_stay queue other id = found_used StaysHanded id queue other (λ s h. h) (λ s t unused h. ap is_handed_out unused.pause ∙ h)

-- ---- what the user does

pub queueing_stays : (now : ℕ) (sending : Sending) (queue : SendQueueState) → StayHanded queue.streams (sending_queued now sending queue).streams
queueing_stays now sending queue id handed =
    changed_stay sending.message.stream (with_message (queued_message now sending.message sending.options queue)) (λ s. refl) (λ s here h. h) (used_streams queue sending.message.stream) id (used_stay queue sending.message.stream id handed)

pub setting_stays : (setting : Setting) (queue : SendQueueState) → StayHanded queue.streams (set_in_queue setting queue).streams
setting_stays (stream_priority other priority) queue id handed = changed_stay other (with_priority priority) (λ s. refl) (λ s here h. h) (used_streams queue other) id (used_stay queue other id handed)
setting_stays (stream_low_threshold other bytes) queue id handed = changed_stay other (with_threshold bytes) (λ s. refl) (λ s here h. h) (used_streams queue other) id (used_stay queue other id handed)
setting_stays (longest_message bytes) queue id handed = handed

-- the stream of another number stays
elsewhere_stays : (other : ℕ) (f : Stream → Stream) (streams : List Stream) (id : ℕ) → ((s : Stream) → (f s).id ≡ s.id) → (id ≡ other → ⊥) → IsHanded (stream_named id streams) → IsHanded (stream_named id (stream_changed other f streams))
unfolding StaysHanded
elsewhere_stays other f streams id ids ne =
    found_mapped StaysHanded id (unused_stream 0 0 0) (λ s. if s.id == other then f s else s) (λ s. one_id (s.id == other) s) (λ h. h) (λ s here. one (s.id == other) s here refl) streams
  where
    one_id : (b : Bool) (s : Stream) → (if b then f s else s).id ≡ s.id
    one_id true s = ids s
    one_id false s = refl

    one : (b : Bool) (s : Stream) → s.id ≡ id → (s.id == other) ≡ b → IsHanded s → IsHanded (if b then f s else s)
    one true s here is h = absurd (ne (sym here ∙ eqb-true s.id other is))
    one false s here is h = h

-- a stream that is open isn't handed out
open_not_handed : (d : Stream) (id : ℕ) (streams : List Stream) → is_open_pause (stream_found d id streams).pause ≡ true → IsHanded (stream_named id streams) → ⊥
open_not_handed d id [] opened handed = absurd (cc)
open_not_handed d id (s ∷ streams) opened handed =
    elim (eqb_tells s.id id) [
      | inl e ↦ clash s.pause (rw e.0 at opened) (rw e.0 at handed)
      | inr e ↦ open_not_handed d id streams (rw e.0 at opened) (rw e.0 at handed)
    ]
  where
    clash : (p : Pause) → is_open_pause p ≡ true → is_handed_out p ≡ true → ⊥
    clash Open opened handed = absurd (cc)
    clash Pausing opened handed = absurd (cc)
    clash HandedOut opened handed = absurd (cc)

prepared_stays : (other : ℕ) (queue : SendQueueState) → StayHanded queue.streams (queue_with_prepared other queue).streams
prepared_stays other queue id handed = go (is_open_pause (queue_stream start other).pause) refl
  where
    start : SendQueueState
    start = with_used other queue

    go : (b : Bool) → is_open_pause (queue_stream start other).pause ≡ b → IsHanded (stream_named id (if b then prepared_open other start else start).streams)
    go true opened =
        elsewhere_stays other (prepared_stream (dropped_size other start) (count_under_way (queue_stream start other))) start.streams id (λ s. refl)
        (λ same. open_not_handed (unused_stream other start.default_priority start.default_threshold) other start.streams opened (subst (λ (k : ℕ). IsHanded (stream_named k start.streams)) same (used_stay queue other id handed)))
        (used_stay queue other id handed)
    go false shut = used_stay queue other id handed

pub preparing_stays : (ids : List ℕ) (queue : SendQueueState) → StayHanded queue.streams (prepared_all ids queue).streams
preparing_stays [] queue id handed = handed
preparing_stays (other ∷ ids) queue id handed = preparing_stays ids (queue_with_prepared other queue) id (prepared_stays other queue id handed)

-- ---- streams that are handed out

handing_stays : (ids : List ℕ) (streams : List Stream) → StayHanded streams (handing_out ids streams)
handing_stays [] streams id handed = handed
handing_stays (first ∷ ids) streams id handed = handing_stays ids (stream_changed first handed_out streams) id (changed_stay first handed_out (λ s. refl) (λ s here h. refl) streams id handed)

pub requesting_stays : (count : ℕ) (begun : Option BegunReset) (queue : SendQueueState) → StayHanded queue.streams (queue_requesting count begun queue).streams
requesting_stays count None queue id handed = handed
requesting_stays count (Some begun) queue id handed = handing_stays (take count (ready_streams queue)) queue.streams id handed

or_either : (a b : Bool) → (a || b) ≡ true → (a ≡ true) ⊎ (b ≡ true)
or_either true b is = inl refl
or_either false b is = inr is

or_first : (a b : Bool) → a ≡ true → (a || b) ≡ true
or_first a b is = rw is refl

or_second : (a b : Bool) → b ≡ true → (a || b) ≡ true
or_second true b is = refl
or_second false b is = is

-- a stream that there is
found_handed : (id : ℕ) (streams : List Stream) → is_used id streams ≡ true → IsHanded (stream_named id (stream_changed id handed_out streams))
found_handed id [] there = absurd (cc)
found_handed id (s ∷ streams) there =
    elim (eqb_tells s.id id) [
      | inl e ↦ rw e.0 (rw e.0 refl)
      | inr e ↦ rw e.0 (rw e.0 (found_handed id streams (rw e.0 at there)))
    ]

used_changed : (id other : ℕ) (streams : List Stream) → is_used id streams ≡ true → is_used id (stream_changed other handed_out streams) ≡ true
used_changed id other [] there = there
used_changed id other (s ∷ streams) there =
    elim (or_either (s.id == id) (is_used id streams) there) [
      | inl here ↦ or_first _ _ (ap (λ (k : ℕ). k == id) (one_id (s.id == other)) ∙ here)
      | inr behind ↦ or_second ((if s.id == other then handed_out s else s).id == id) (is_used id (stream_changed other handed_out streams)) (used_changed id other streams behind)
    ]
  where
    one_id : (b : Bool) → (if b then handed_out s else s).id ≡ s.id
    one_id true = refl
    one_id false = refl

named_handed : (ids : List ℕ) (streams : List Stream) (id : ℕ) → is_named ids id ≡ true → is_used id streams ≡ true → IsHanded (stream_named id (handing_out ids streams))
named_handed [] streams id named there = absurd (cc)
named_handed (first ∷ ids) streams id named there =
    elim (or_either (first == id) (is_named ids id) named) [
      | inl here ↦
          (let same : first ≡ id = eqb-true first id here in
          handing_stays ids (stream_changed first handed_out streams) id (subst (λ (k : ℕ). IsHanded (stream_named id (stream_changed k handed_out streams))) (sym same) (found_handed id streams there)))
      | inr behind ↦ named_handed ids (stream_changed first handed_out streams) id behind (used_changed id first streams there)
    ]

-- ---- the streams that are ready

named_front : (count : ℕ) (ids : List ℕ) (id : ℕ) → is_named (take count ids) id ≡ true → is_named ids id ≡ true
named_front zero ids id named = absurd (cc)
named_front (suc count) [] id named = absurd (cc)
named_front (suc count) (first ∷ ids) id named =
    elim (or_either (first == id) (is_named (take count ids) id) named) [
      | inl here ↦ or_first (first == id) (is_named ids id) here
      | inr behind ↦ or_second (first == id) (is_named ids id) (named_front count ids id behind)
    ]

named_used : (test : Stream → Bool) (streams : List Stream) (id : ℕ) → is_named (map (λ stream. stream.id) (filter test streams)) id ≡ true → is_used id streams ≡ true
named_used test [] id named = absurd (cc)
named_used test (s ∷ streams) id named = go (test s) named (named_used test streams id)
  where
    go : (b : Bool) → is_named (map (λ stream. stream.id) (if b then s ∷ filter test streams else filter test streams)) id ≡ true
        → (is_named (map (λ stream. stream.id) (filter test streams)) id ≡ true → is_used id streams ≡ true) → is_used id (s ∷ streams) ≡ true
    go true named' rest =
        elim (or_either (s.id == id) (is_named (map (λ stream. stream.id) (filter test streams)) id) named') [
          | inl here ↦ or_first (s.id == id) (is_used id streams) here
          | inr behind ↦ or_second (s.id == id) (is_used id streams) (rest behind)
        ]
    go false named' rest = or_second (s.id == id) (is_used id streams) (rest named')

abbrev AreSmall : List ℕ → Type 0
AreSmall ids = AllByRecursion (λ id. id < 2 ^ 16) ids

ready_small : (test : Stream → Bool) (streams : List Stream) → ((q : ℕ) → (stream_at streams q).id < 2 ^ 16) → AreSmall (map (λ stream. stream.id) (filter test streams))
ready_small test [] small = tt
ready_small test (s ∷ streams) small = go (test s) (ready_small test streams (λ q. small (suc q)))
  where
    go : (b : Bool) → AreSmall (map (λ stream. stream.id) (filter test streams)) → AreSmall (map (λ stream. stream.id) (if b then s ∷ filter test streams else filter test streams))
    go true rest = (small 0, rest)
    go false rest = rest

front_small : (count : ℕ) (ids : List ℕ) → AreSmall ids → AreSmall (take count ids)
front_small zero ids small = tt
front_small (suc count) [] small = tt
front_small (suc count) (id ∷ ids) small = (small.0, front_small count ids small.1)

-- numbers of 16 bits are their own fields
field_named : (ids : List ℕ) (id : ℕ) → AreSmall ids → is_named (map stream_field ids) id ≡ true → is_named ids id ≡ true
field_named [] id small named = absurd (cc)
field_named (first ∷ ids) id small named =
    elim (or_either (stream_field first == id) (is_named (map stream_field ids) id) named) [
      | inl here ↦
          (let same : stream_field first ≡ id = eqb-true (stream_field first) id here in
          or_first (first == id) (is_named ids id) (eq-eqb first id (omega (arith, same, small.0))))
      | inr behind ↦ or_second (first == id) (is_named ids id) (field_named ids id small.1 behind)
    ]

-- ---- what a request names

where_names : (follows : Bool) (outstanding : Option ℕ) (number last_tsn : ℕ) (streams : List ℕ) (begun : BegunReset) → Some begun ≡ begun_if_ready follows outstanding number last_tsn streams → (id : ℕ) → names_stream begun.reset.streams id ≡ true → is_named streams id ≡ true
where_names follows (Some n) number last_tsn streams begun is id names = absurd (cc)
where_names follows None number last_tsn [] begun is id names = absurd (cc)
where_names follows None number last_tsn (s ∷ streams) begun is id names =
    let same : begun ≡ record { number = number; reset = record { last_tsn = last_tsn; streams = s ∷ streams; is_new = follows } } = cc in
    subst (λ (b : BegunReset). names_stream b.reset.streams id ≡ true) same names

begun_names : (ask : Ask) (follows : Bool) (held : Option Held) (room last_tsn : ℕ) (queue : SendQueueState) (begun : BegunReset) → Some begun ≡ begun_by_ask ask follows held room last_tsn queue
    → (id : ℕ) → names_stream begun.reset.streams id ≡ true → is_named (map stream_field (take (streams_within room) (ready_streams queue))) id ≡ true
begun_names later_ask follows held room last_tsn queue begun is id names = absurd (cc)
begun_names first_ask follows None room last_tsn queue begun is id names = absurd (cc)
begun_names first_ask follows (Some held) room last_tsn queue begun is id names = where_names follows held.own_outstanding held.own_next last_tsn (map stream_field (take (streams_within room) (ready_streams queue))) begun is id names

-- The streams that the request names were handed out for it.
pub begun_handed : (ask : Ask) (follows : Bool) (held : Option Held) (room last_tsn : ℕ) (queue : SendQueueState) (begun : Option BegunReset) → begun ≡ begun_by_ask ask follows held room last_tsn queue → ((q : ℕ) → (stream_at queue.streams q).id < 2 ^ 16)
    → AreHandedFor begun (take (streams_within room) (ready_streams queue)) (queue_requesting (streams_within room) begun queue).streams
begun_handed ask follows held room last_tsn queue None is small = tt
begun_handed ask follows held room last_tsn queue (Some begun) is small = λ id names.
    let ids : List ℕ = take (streams_within room) (ready_streams queue) in
    let named : is_named ids id ≡ true = field_named ids id (front_small (streams_within room) (ready_streams queue) (ready_small is_ready queue.streams small)) (begun_names ask follows held room last_tsn queue begun is id names) in
    (named, named_handed ids queue.streams id named (named_used is_ready queue.streams id (named_front (streams_within room) (ready_streams queue) id named)))

-- They stay so.
pub handed_for_later : (begun : Option BegunReset) (ids : List ℕ) (before after : List Stream) → StayHanded before after → AreHandedFor begun ids before → AreHandedFor begun ids after
handed_for_later None ids before after stay are = tt
handed_for_later (Some begun) ids before after stay are = λ id names. ((are id names).0, stay id (are id names).1)

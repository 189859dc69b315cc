-- The send queue gives something, gives nothing, or is stuck.
use Rattle.std.proofs.Common.{◌≡◌, ◌∙◌, ◌⊎◌, inl, inr, ◌==◌, ℕ, zero, suc, ◌+◌, ◌<◌, ◌≤◌, Option, None, Some, List, [], ◌∷◌, ◌++◌, length, drop, append_assoc, append-nil, refl, sym, ap, arith}
use Rattle.std.proofs.lemmas.Bool.Decides.{nat_tests}
use Rattle.std.proofs.lemmas.List.{length-take}
use Rattle.dcsctp_spec.specs.endpoint.Event.{Event}
use Rattle.dcsctp_spec.specs.types.declared.ids.StreamId.{StreamId}
use Rattle.dcsctp_spec.specs.types.declared.sending.UnderWay.{UnderWay}
use Rattle.dcsctp_spec.specs.queues.NextItem.{HasNone, HasHeldMessage, IsStuck}
use Rattle.dcsctp_spec.specs.queues.SendQueue.{SendQueueState}
use Rattle.dcsctp_spec.specs.types.queues.SendStreams.{Waiting, Stream, front_of, stream_at, turns_of, IsNext}
use Rattle.dcsctp_spec.specs.queues.Sending.{Fragment, Chooses, next_progress, is_too_old, fragment, size_produced, queue_after_producing, produced_events, drop_events, without_rest, Drops, none as none_dropped, more as one_more_dropped, TakesFragment, TakesNone}
use Rattle.dcsctp_spec_lemmas.proofs.ChoosingLemmas.{Chosen, one_chosen}
use Rattle.dcsctp_spec_lemmas.proofs.TurnOutcomes.{by_test, next_turn, next_front, count_messages, count_dropped}

abbrev Told : Type 0
Told = List (Event (List ℕ))

-- Drops leave which stream is held.
pub drops_idle : (now : ℕ) (old new : SendQueueState) (events : Told) → Drops now old events new → new.held ≡ old.held
drops_idle now old new events none_dropped = refl
drops_idle now old new events (one_more_dropped before queue place message drops next front over) = drops_idle now old queue before drops

-- ---- what is taken

-- A fragment is taken of at most as many bytes as are asked for. These events came before.
pub record TakesSome (now max : ℕ) (old : SendQueueState) (told events : Told) : Type 0 where
  pub part : Fragment
  pub new : SendQueueState
  pub telling : Told
  pub takes : TakesFragment now max old told part new telling
  pub at_most : length part.payload ≤ max
  pub rest : Told
  pub grows : telling ≡ told ++ (events ++ rest)

-- Nothing can be taken.
pub record TakesNothing (now : ℕ) (old : SendQueueState) (told events : Told) : Type 0 where
  pub new : SendQueueState
  pub telling : Told
  pub takes : TakesNone now old told new telling
  pub none_left : HasNone new
  pub rest : Told
  pub grows : telling ≡ told ++ (events ++ rest)

abbrev pub Taking : ℕ → ℕ → SendQueueState → Told → Told → Type 0
Taking now max old told events = TakesSome now max old told events ⊎ TakesNothing now old told events

-- the same, if fewer events came before
told_sooner : (now max : ℕ) (old : SendQueueState) (told first later : Told) → Taking now max old told (first ++ later) → Taking now max old told first
told_sooner now max old told first later (inl takes) =
    inl (record {
      part = takes.part;
      new = takes.new;
      telling = takes.telling;
      takes = takes.takes;
      at_most = takes.at_most;
      rest = later ++ takes.rest;
      grows = takes.grows ∙ ap (λ (es : Told). told ++ es) (append_assoc first later takes.rest);
    })
told_sooner now max old told first later (inr takes) =
    inr (record {
      new = takes.new;
      telling = takes.telling;
      takes = takes.takes;
      none_left = takes.none_left;
      rest = later ++ takes.rest;
      grows = takes.grows ∙ ap (λ (es : Told). told ++ es) (append_assoc first later takes.rest);
    })

size_taken : (max : ℕ) (message : Waiting) (u : UnderWay) → length (fragment u message (size_produced max message u)).payload ≤ max
size_taken max message u = let size = length-take (size_produced max message u) (drop u.sent message.payload) in omega (arith, size)

-- ---- no stream is held

begins : (now max : ℕ) (old mid : SendQueueState) (told events : Told) → old.held ≡ None → Drops now old events mid → Chosen now max mid → TakesSome now max old told events
begins now max old mid told events idle drops chosen =
    let place : ℕ = chosen.place in
    let message : Waiting = chosen.message in
    let u : UnderWay = next_progress message (stream_at mid.streams place) in
    record {
      part = fragment u message (size_produced max message u);
      new = queue_after_producing place max message u mid;
      telling = told ++ events ++ produced_events place max message u mid;
      takes = record {
        queue = mid;
        told = told ++ events;
        drops = record { events = events; drops = drops; told = refl };
        place = place;
        message = message;
        under_way = u;
        front = chosen.front;
        chosen = rw idle chosen.is;
        come = refl;
        is = refl;
        left = refl;
        events = refl;
      };
      at_most = size_taken max message u;
      rest = produced_events place max message u mid;
      grows = append_assoc told events (produced_events place max message u mid);
    }

-- how to continue once one more message is dropped
abbrev Further : ℕ → ℕ → SendQueueState → SendQueueState → Told → Told → Type 0
Further now max old mid told events =
    (left : SendQueueState) (dropped : Told) → count_messages left.streams + 1 ≡ count_messages mid.streams → Drops now old (events ++ dropped) left → Taking now max old told (events ++ dropped)

takes_or_drops : (now max : ℕ) (old mid : SendQueueState) (told events : Told) → old.held ≡ None → Drops now old events mid → Further now max old mid told events → Taking now max old told events
takes_or_drops now max old mid told events idle drops further = go (next_turn mid.streams)
  where
    go : (turns_of mid.streams ≡ []) ⊎ ((place : ℕ) × IsNext mid.streams place) → Taking now max old told events
    go (inl none_left) =
        inr (record {
          new = mid;
          telling = told ++ events;
          takes = record { idle = idle; drops = record { events = events; drops = drops; told = refl }; none_left = none_left };
          none_left = record { idle = drops_idle now old mid events drops ∙ idle; none_left = none_left };
          rest = [];
          grows = ap (λ (es : Told). told ++ es) (sym (append-nil events));
        })
    go (inr (place, next)) =
        let (message, front) = next_front mid.streams place next in
        by_test (is_too_old now message (stream_at mid.streams place))
        (λ over.
        told_sooner now max old told events (drop_events place 0 message mid)
        (further (without_rest place 0 message mid) (drop_events place 0 message mid) (count_dropped mid place 0 message next.within front) (one_more_dropped events mid place message drops next front over)))
        (λ fresh. inl (begins now max old mid told events idle drops (one_chosen now max mid place message next front fresh)))

taken_within : (now max : ℕ) (old mid : SendQueueState) (told events : Told) (count : ℕ) → count_messages mid.streams ≤ count → old.held ≡ None → Drops now old events mid
    → Taking now max old told events
taken_within now max old mid told events zero few idle drops = takes_or_drops now max old mid told events idle drops (λ left dropped fewer drops. absurd (omega arith))
taken_within now max old mid told events (suc count) few idle drops =
    takes_or_drops now max old mid told events idle drops
    (λ left dropped fewer drops. taken_within now max old left told (events ++ dropped) count (omega arith) idle drops)

-- Some messages were dropped already.
pub taken_after : (now max : ℕ) (old mid : SendQueueState) (told events : Told) → old.held ≡ None → Drops now old events mid → Taking now max old told events
taken_after now max old mid told events idle drops = taken_within now max old mid told events (count_messages mid.streams) (omega arith) idle drops

-- ---- a stream is held

-- this stream is held, and has a message
abbrev GoesOnHere : Stream → StreamId → Type 0
GoesOnHere x held = (x.id ≡ held.0) × ((message : Waiting) × (front_of x.messages ≡ Some message))

abbrev Decided : Type 0 → Type 0
Decided P = P ⊎ (P → ⊥)

front_decided : (x : Stream) (held : StreamId) (front : Option Waiting) → x.id ≡ held.0 → front_of x.messages ≡ front → Decided (GoesOnHere x held)
front_decided x held None same is = inr (λ here. let front = here.1.1 in cc)
front_decided x held (Some message) same is = inl (same, (message, is))

here_decided : (x : Stream) (held : StreamId) → Decided (GoesOnHere x held)
here_decided x held =
    by_test (x.id == held.0)
    (λ same. front_decided x held (front_of x.messages) (grind (arith, nat_tests)) refl)
    (λ apart. inr (λ here. let e = here.0 in grind (arith, nat_tests)))

here_or_behind : (x : Stream) (xs : List Stream) (held : StreamId) (place : ℕ) (message : Waiting) → place < length (x ∷ xs) → (stream_at (x ∷ xs) place).id ≡ held.0
    → front_of (stream_at (x ∷ xs) place).messages ≡ Some message → GoesOnHere x held ⊎ HasHeldMessage xs held
here_or_behind x xs held zero message within is front = inl (is, (message, front))
here_or_behind x xs held (suc place) message within is front = inr (record { place = place; within = omega arith; is = is; message = message; front = front })

on_front : (x : Stream) (xs : List Stream) (held : StreamId) → Decided (GoesOnHere x held) → Decided (HasHeldMessage xs held) → Decided (HasHeldMessage (x ∷ xs) held)
on_front x xs held (inl here) behind = inl (record { place = 0; within = omega arith; is = here.0; message = here.1.0; front = here.1.1 })
on_front x xs held (inr not_here) (inl g) =
    inl (record { place = suc g.place; within = let w = g.within in omega arith; is = g.is; message = g.message; front = g.front })
on_front x xs held (inr not_here) (inr not_behind) =
    inr (λ g. elim (here_or_behind x xs held g.place g.message g.within g.is g.front) as (λ z. ⊥) [ inl here ↦ not_here here | inr behind ↦ not_behind behind ])

held_decided : (streams : List Stream) (held : StreamId) → Decided (HasHeldMessage streams held)
held_decided [] held = inr (λ g. let w = g.within in omega arith)
held_decided (x ∷ xs) held = on_front x xs held (here_decided x held) (held_decided xs held)

goes_further : (now max : ℕ) (old : SendQueueState) (told : Told) (held : StreamId) → old.held ≡ Some held → HasHeldMessage old.streams held → TakesSome now max old told []
goes_further now max old told held is g =
    let u : UnderWay = next_progress g.message (stream_at old.streams g.place) in
    record {
      part = fragment u g.message (size_produced max g.message u);
      new = queue_after_producing g.place max g.message u old;
      telling = told ++ produced_events g.place max g.message u old;
      takes = record {
        queue = old;
        told = told;
        drops = record { events = []; drops = none_dropped; told = sym (append-nil told) };
        place = g.place;
        message = g.message;
        under_way = u;
        front = g.front;
        chosen = chosen_if old.held is (refl, g.is);
        come = refl;
        is = refl;
        left = refl;
        events = refl;
      };
      at_most = size_taken max g.message u;
      rest = produced_events g.place max g.message u old;
      grows = refl;
    }
  where
    chosen_if : (it : Option StreamId) → it ≡ Some held → Chooses now max old (Some held) old g.place → Chooses now max old it old g.place
    chosen_if it e chosen = rw e chosen

-- It gives something or nothing, unless the stream that is held has no message.
abbrev pub TakingUnlessStuck : ℕ → ℕ → SendQueueState → Told → Type 0
TakingUnlessStuck now max old told = IsStuck old.held old.streams ⊎ Taking now max old told []

taken_by : (now max : ℕ) (old : SendQueueState) (told : Told) (held : Option StreamId) → old.held ≡ held → TakingUnlessStuck now max old told
taken_by now max old told None is = inr (taken_after now max old old told [] is none_dropped)
taken_by now max old told (Some held) is = by_going (held_decided old.streams held)
  where
    by_going : Decided (HasHeldMessage old.streams held) → TakingUnlessStuck now max old told
    by_going (inl g) = inr (inl (goes_further now max old told held is g))
    by_going (inr lost) = inl (rw is lost)

pub taken : (now max : ℕ) (old : SendQueueState) (told : Told) → TakingUnlessStuck now max old told
taken now max old told = taken_by now max old told old.held refl

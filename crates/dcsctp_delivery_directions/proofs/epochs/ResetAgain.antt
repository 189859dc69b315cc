-- Streams that start again: what is ready makes no difference, and nor does it to do so twice.
use Rattle.std.proofs.Common.{◌≡◌, ℕ, Bool, true, false, List, [], ◌∷◌, refl, sym, ◌∙◌, ap, subst}
use Rattle.std.specs.Prelude.{not, if◌then◌else◌}
use Rattle.std.specs.List.{AllByRecursion}
use Rattle.dcsctp_spec.specs.types.queues.Messages.{MessageContent}
use Rattle.dcsctp_spec.specs.queues.Incoming.{IncomingModel, stream_on, is_named, parts_left, ResetsStreams}
use Rattle.dcsctp_spec.specs.queues.IncomingStreams.{new_stream}
use Rattle.dcsctp_spec.specs.queues.Reassembly.{names_stream}
use Rattle.dcsctp_spec.specs.queues.Runs.{RunModel}
use Rattle.dcsctp_delivery_directions.proofs.epochs.OtherReady.{with_others}

pub resets_other : (streams : List ℕ) (r : List MessageContent) (old new : IncomingModel) → ResetsStreams streams old new → ResetsStreams streams (with_others r old) (with_others r new)
resets_other [] r old new resets = record { streams = resets.streams; unordered = resets.unordered; kept = record { ready = refl; received = resets.kept.received; last = resets.kept.last } }
resets_other (one ∷ others) r old new resets = record { streams = resets.streams; unordered = resets.unordered; kept = record { ready = refl; received = resets.kept.received; last = resets.kept.last } }

pub kept_ready : (streams : List ℕ) (old new : IncomingModel) → ResetsStreams streams old new → new.ready ≡ old.ready
kept_ready [] old new resets = resets.kept.ready
kept_ready (one ∷ others) old new resets = resets.kept.ready

pub last_kept : (streams : List ℕ) (old new : IncomingModel) → ResetsStreams streams old new → new.last_tsn_number ≡ old.last_tsn_number
last_kept [] old new resets = resets.kept.last
last_kept (one ∷ others) old new resets = resets.kept.last

parts_again : (resets : List ℕ) (runs : List RunModel) → parts_left resets (parts_left resets runs) ≡ parts_left resets runs
parts_again resets [] = refl
parts_again resets (run ∷ runs) = go (not (is_named resets run.number)) refl (parts_again resets runs)
  where
    go : (b : Bool) → not (is_named resets run.number) ≡ b → parts_left resets (parts_left resets runs) ≡ parts_left resets runs → parts_left resets (if b then run ∷ parts_left resets runs else parts_left resets runs) ≡ (if b then run ∷ parts_left resets runs else parts_left resets runs)
    go true is rest = rw is (ap (λ (l : List RunModel). run ∷ l) rest)
    go false is rest = rest

pub resets_again : (streams : List ℕ) (r : List MessageContent) (old new : IncomingModel) → ResetsStreams streams old new → ResetsStreams streams (with_others r new) (with_others r new)
resets_again [] r old new resets = record { streams = resets.streams; unordered = resets.unordered; kept = record { ready = refl; received = refl; last = refl } }
resets_again (one ∷ others) r old new resets =
    record {
      streams = λ id. go id (is_named (one ∷ others) id) (resets.streams id);
      unordered = resets.unordered ∙ sym (parts_again (one ∷ others) old.unordered) ∙ ap (parts_left (one ∷ others)) (sym resets.unordered);
      kept = record { ready = refl; received = refl; last = refl };
    }
  where
    go : (id : ℕ) (b : Bool) → stream_on id new.streams ≡ (if b then new_stream id else stream_on id old.streams) → stream_on id new.streams ≡ (if b then new_stream id else stream_on id new.streams)
    go id true is = is
    go id false is = refl

pub renewed : (streams : List ℕ) (old new : IncomingModel) → ResetsStreams streams old new → (id : ℕ) → names_stream streams id ≡ true → stream_on id new.streams ≡ new_stream id
renewed [] old new resets id named = resets.streams id
renewed (one ∷ others) old new resets id named = resets.streams id ∙ go (is_named (one ∷ others) id) named
  where
    go : (b : Bool) → b ≡ true → (if b then new_stream id else stream_on id old.streams) ≡ new_stream id
    go true e = refl
    go false e = absurd (cc)

left_apart : (resets : List ℕ) (runs : List RunModel) → AllByRecursion (λ run. is_named resets run.number ≡ false) (parts_left resets runs)
left_apart resets [] = tt
left_apart resets (run ∷ runs) = go (is_named resets run.number) refl (left_apart resets runs)
  where
    go : (b : Bool) → is_named resets run.number ≡ b → AllByRecursion (λ run. is_named resets run.number ≡ false) (parts_left resets runs) → AllByRecursion (λ run. is_named resets run.number ≡ false) (if not b then run ∷ parts_left resets runs else parts_left resets runs)
    go true is rest = rest
    go false is rest = (is, rest)

pub parts_apart : (streams : List ℕ) (old new : IncomingModel) → ResetsStreams streams old new → AllByRecursion (λ run. names_stream streams run.number ≡ false) new.unordered
parts_apart [] old new resets = subst (AllByRecursion (λ run. names_stream [] run.number ≡ false)) (sym resets.unordered) tt
parts_apart (one ∷ others) old new resets = subst (AllByRecursion (λ run. names_stream (one ∷ others) run.number ≡ false)) (sym resets.unordered) (left_apart (one ∷ others) old.unordered)

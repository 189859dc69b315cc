-- Lemmas on streams in a map.
use Rattle.std.proofs.Common.{Ordering, ◌≡◌, ℕ, Bool, true, false, cond, List, [], ◌∷◌, map, Option, Some, None, refl, sym, ◌∙◌, ap, subst}
use Rattle.std.specs.BTreeMap.{BTreeMap, get, is_at, UpdatesBy}
use Rattle.std.specs.Map.{lookup}
use Rattle.std.specs.Prelude.{is_some}
use Rattle.std.specs.Option.{option_map}
use Rattle.std.specs.Ordering.{nat_cmp, is_eq}
use Rattle.std.specs.declared.cmp.Ordering.TheVariants.{Less, Equal, Greater}
use Rattle.std.proofs.lemmas.Map.Lookups.{exact_unsigned}
use Rattle.dcsctp_receive_reassembly.specs.declared.stream.Stream.{Stream}
use Rattle.dcsctp_receive_reassembly.specs.Streams.{stream_model}
use Rattle.dcsctp_api.specs.spec.queues.IncomingStreams.{new_stream}
use Rattle.dcsctp_receive_reassembly.specs.Reassembly.{entry_of}
use Rattle.dcsctp_api.specs.spec.queues.Incoming.{stream_on, stream_or_new}

pub lookup-mapped : (test : ℕ → Bool) (entries : List (ℕ × Stream)) → lookup test (map entry_of entries) ≡ option_map stream_model (lookup test entries)
lookup-mapped test [] = refl
lookup-mapped test (entry ∷ entries) = go (test entry.0) (lookup-mapped test entries)
  where
    go : (passes : Bool) → lookup test (map entry_of entries) ≡ option_map stream_model (lookup test entries) → cond passes (Some (stream_model entry.1)) (lookup test (map entry_of entries)) ≡ option_map stream_model (cond passes (Some entry.1) (lookup test entries))
    go true rest = refl
    go false rest = rest

-- the stream of a map at an identifier
pub stream_on-get : (id : ℕ) (streams : BTreeMap ℕ Stream) (o : Option Stream) → get nat_cmp streams id ≡ o → stream_on id (map entry_of streams.entries) ≡ stream_or_new id (option_map stream_model o)
stream_on-get id streams o is = ap (λ found. stream_or_new id found) (lookup-mapped (is_at (nat_cmp id)) streams.entries ∙ ap (λ found. option_map stream_model found) is)

pub stream_on-same : (id : ℕ) (old new : BTreeMap ℕ Stream) → get nat_cmp new id ≡ get nat_cmp old id → stream_on id (map entry_of new.entries) ≡ stream_on id (map entry_of old.entries)
stream_on-same id old new same = stream_on-get id new (get nat_cmp old id) same ∙ sym (stream_on-get id old (get nat_cmp old id) refl)

is_eq_equal : (o : Ordering) → is_eq o ≡ true → o ≡ Equal
is_eq_equal Less never = absurd (cc)
is_eq_equal Equal same = refl
is_eq_equal Greater never = absurd (cc)

pub same_key : (key id : ℕ) → is_at (nat_cmp key) id ≡ true → key ≡ id
same_key key id at = exact_unsigned key id (is_eq_equal (nat_cmp key id) at)

-- where another stream is written, this one stays
pub stream_on-other : (key id : ℕ) (old new : BTreeMap ℕ Stream) (stream : Stream) → UpdatesBy nat_cmp (nat_cmp key) old new (Some stream) → (id ≡ key → ⊥) → stream_on id (map entry_of new.entries) ≡ stream_on id (map entry_of old.entries)
stream_on-other key id old new stream updates apart = go (is_at (nat_cmp key) id) refl
  where
    go : (at : Bool) → is_at (nat_cmp key) id ≡ at → stream_on id (map entry_of new.entries) ≡ stream_on id (map entry_of old.entries)
    go true at = absurd (apart (sym (same_key key id at)))
    go false elsewhere = stream_on-same id old new (updates.2 id elsewhere)

-- a stream on which nothing came in is as one that isn't there
pub stream_on-made : (key id : ℕ) (old new : BTreeMap ℕ Stream) (stream : Stream) → UpdatesBy nat_cmp (nat_cmp key) old new (Some stream) → get nat_cmp old key ≡ None → stream_model stream ≡ new_stream key → stream_on id (map entry_of new.entries) ≡ stream_on id (map entry_of old.entries)
stream_on-made key id old new stream updates absent fresh = go (is_at (nat_cmp key) id) refl
  where
    here : stream_on key (map entry_of new.entries) ≡ stream_on key (map entry_of old.entries)
    here = stream_on-get key new (Some stream) updates.1 ∙ fresh ∙ sym (stream_on-get key old None absent)

    go : (at : Bool) → is_at (nat_cmp key) id ≡ at → stream_on id (map entry_of new.entries) ≡ stream_on id (map entry_of old.entries)
    go true at = subst (λ (other : ℕ). stream_on other (map entry_of new.entries) ≡ stream_on other (map entry_of old.entries)) (same_key key id at) here
    go false elsewhere = stream_on-same id old new (updates.2 id elsewhere)

pub none_from : {X : Type 0} (o : Option X) → is_some o ≡ false → o ≡ None
none_from None absent = refl
none_from (Some x) absent = absurd (cc)

-- Lemmas on messages that are skipped and streams that are reset.
use Rattle.std.proofs.Common.{◌≡◌, ◌==◌, ◌||◌, ℕ, suc, ◌+◌, ◌≤◌, Bool, true, false, List, [], ◌∷◌, ◌++◌, length, if◌then◌else◌, arith, refl, sym, ◌∙◌, ap, subst}
use Rattle.std.specs.Prelude.{IsSome, nat_le}
use Rattle.std.specs.BTreeMap.{BTreeMap, get}
use Rattle.std.specs.Ordering.{nat_cmp}
use Rattle.std.proofs.lemmas.Bool.{eqb-true, eq-eqb}
use Rattle.std.proofs.lemmas.List.{append_assoc, append-nil, length-map}
use Rattle.dcsctp_api.specs.types.declared.arrivals.SkippedTo.{SkippedTo}
use Rattle.dcsctp_api.specs.types.declared.arrivals.SkippedTo.TheVariants.{Ssn, Mid}
use Rattle.dcsctp_receive_reassembly.specs.declared.incoming.Incoming.{Incoming}
use Rattle.dcsctp_receive_reassembly.specs.declared.stream.Stream.{Stream}
use Rattle.dcsctp_api.specs.spec.queues.Incoming.{is_named, IncomingModel, stream_on, skipped_on, stream_skipping, deliveries_of_skips, SkipsOne, SkipsAll}
use Rattle.dcsctp_api.specs.spec.queues.Numbers.{number_near, short_number_near}
use Rattle.dcsctp_api.specs.spec.queues.Runs.{WholeModel}
use Rattle.dcsctp_api.specs.spec.queues.IncomingStreams.{StreamModel, new_stream, delivered_as, due, not_due, next_after, next_past, deliveries_from, stream_after_skip, skipped_stream, skip_deliveries}
use Rattle.dcsctp_receive_reassembly.specs.Reassembly.{Balances}
use Rattle.dcsctp_receive_reassembly.specs.Skipping.{AllMade, room_beyond, room_for}

-- ---- streams that are there

pub AllMade-kept : (entries : List SkippedTo) (old new : BTreeMap ℕ Stream) → ((id : ℕ) → IsSome (get nat_cmp old id) → IsSome (get nat_cmp new id)) → AllMade entries old → AllMade entries new
AllMade-kept [] old new kept made = tt
AllMade-kept (entry ∷ entries) old new kept made = (kept (skipped_stream entry) made.0, AllMade-kept entries old new kept made.1)

pub AllMade-more : (front : List SkippedTo) (entry : SkippedTo) (streams : BTreeMap ℕ Stream) → AllMade front streams → IsSome (get nat_cmp streams (skipped_stream entry)) → AllMade (front ++ entry ∷ []) streams
AllMade-more [] entry streams made last = (last, tt)
AllMade-more (first ∷ front) entry streams made last = (made.0, AllMade-more front entry streams made.1 last)

-- ---- room

due_length : (next : ℕ) (waiting : List WholeModel) → length (due next waiting) + length (not_due next waiting) ≡ length waiting
due_length next [] = refl
due_length next (whole ∷ waiting) = go (nat_le whole.number next) (due_length (next_after next whole) waiting)
  where
    go : (comes : Bool) → length (due (next_after next whole) waiting) + length (not_due (next_after next whole) waiting) ≡ length waiting → length (if comes then whole ∷ due (next_after next whole) waiting else []) + length (if comes then not_due (next_after next whole) waiting else whole ∷ waiting) ≡ suc (length waiting)
    go true rest = omega (arith, rest)
    go false rest = omega arith

deliveries_length : (next : ℕ) (stream : StreamModel) → length (deliveries_from next stream) + length (not_due next stream.waiting) ≡ length stream.waiting
deliveries_length next stream = omega (arith, due_length next stream.waiting, length-map (due next stream.waiting) (delivered_as stream.id))

pub skipped_length : (entry : SkippedTo) (stream : StreamModel) → length (skip_deliveries entry stream) + length (stream_after_skip entry stream).waiting ≡ length stream.waiting
skipped_length (Ssn id ssn) stream = deliveries_length (next_past (short_number_near stream.next ssn) stream.next) stream
skipped_length (Mid id false mid) stream = deliveries_length (next_past (number_near stream.next mid) stream.next) stream
skipped_length (Mid id true mid) stream = omega arith

-- the same streams were seen
pub room_beyond-same : (entries : List SkippedTo) (seen other : ℕ → Bool) (streams : ℕ → StreamModel) → ((id : ℕ) → seen id ≡ other id) → room_beyond seen entries streams ≡ room_beyond other entries streams
room_beyond-same [] seen other streams same = refl
room_beyond-same (entry ∷ entries) seen other streams same =
    let here : (if seen (skipped_stream entry) then 0 else length (streams (skipped_stream entry)).waiting) ≡ (if other (skipped_stream entry) then 0 else length (streams (skipped_stream entry)).waiting) =
    ap (λ (was : Bool). if was then 0 else length (streams (skipped_stream entry)).waiting) (same (skipped_stream entry)) in
    omega (arith, here, room_beyond-same entries (λ id. (skipped_stream entry == id) || seen id) (λ id. (skipped_stream entry == id) || other id) streams (λ id. ap (λ (was : Bool). (skipped_stream entry == id) || was) (same id)))

room_beyond-less : (entries : List SkippedTo) (seen : ℕ → Bool) (f g : ℕ → StreamModel) → ((id : ℕ) → length (g id).waiting ≤ length (f id).waiting) → room_beyond seen entries g ≤ room_beyond seen entries f
room_beyond-less [] seen f g less = omega arith
room_beyond-less (entry ∷ entries) seen f g less = go (seen (skipped_stream entry)) (room_beyond-less entries (λ id. (skipped_stream entry == id) || seen id) f g less)
  where
    go : (was : Bool) → room_beyond (λ id. (skipped_stream entry == id) || seen id) entries g ≤ room_beyond (λ id. (skipped_stream entry == id) || seen id) entries f
        → (if was then 0 else length (g (skipped_stream entry)).waiting) + room_beyond (λ id. (skipped_stream entry == id) || seen id) entries g ≤ (if was then 0 else length (f (skipped_stream entry)).waiting) + room_beyond (λ id. (skipped_stream entry == id) || seen id) entries f
    go true rest = omega (arith, rest)
    go false rest = omega (arith, rest, less (skipped_stream entry))

swapped : (a b c : Bool) → a || (b || c) ≡ b || (a || c)
swapped true true c = refl
swapped true false c = refl
swapped false true c = refl
swapped false false c = refl

repeated : (a c : Bool) → a || c ≡ a || (a || c)
repeated true c = refl
repeated false c = refl

-- room for one stream is enough for all entries of it
room_apart : (entries : List SkippedTo) (seen : ℕ → Bool) (id : ℕ) (streams : ℕ → StreamModel) → room_beyond seen entries streams ≤ length (streams id).waiting + room_beyond (λ other. (id == other) || seen other) entries streams
room_apart [] seen id streams = omega arith
room_apart (entry ∷ entries) seen id streams = go (seen (skipped_stream entry)) (id == skipped_stream entry) refl (room_apart entries (λ other. (skipped_stream entry == other) || seen other) id streams)
  where
    named : ℕ
    named = skipped_stream entry

    both : room_beyond (λ other. (id == other) || ((named == other) || seen other)) entries streams ≡ room_beyond (λ other. (named == other) || ((id == other) || seen other)) entries streams
    both = room_beyond-same entries (λ other. (id == other) || ((named == other) || seen other)) (λ other. (named == other) || ((id == other) || seen other)) streams (λ other. swapped (id == other) (named == other) (seen other))

    again : id ≡ named → room_beyond (λ other. (named == other) || seen other) entries streams ≡ room_beyond (λ other. (named == other) || ((id == other) || seen other)) entries streams
    again same =
        room_beyond-same entries (λ other. (named == other) || seen other) (λ other. (named == other) || ((id == other) || seen other)) streams
        (λ other. repeated (named == other) (seen other) ∙ ap (λ (n : ℕ). (named == other) || ((n == other) || seen other)) (sym same))

    go : (was is : Bool) → (id == named) ≡ is
        → room_beyond (λ other. (named == other) || seen other) entries streams ≤ length (streams id).waiting + room_beyond (λ other. (id == other) || ((named == other) || seen other)) entries streams
        → (if was then 0 else length (streams named).waiting) + room_beyond (λ other. (named == other) || seen other) entries streams ≤ length (streams id).waiting + ((if is || was then 0 else length (streams named).waiting) + room_beyond (λ other. (named == other) || ((id == other) || seen other)) entries streams)
    go true true _ rest = omega (arith, rest, both)
    go true false _ rest = omega (arith, rest, both)
    go false true is rest = let same = eqb-true id named is in omega (arith, again same, ap (λ (n : ℕ). length (streams n).waiting) same)
    go false false _ rest = omega (arith, rest, both)

skipped_on-less : (entry : SkippedTo) (id : ℕ) (stream : StreamModel) → length (skipped_on entry id stream).waiting ≤ length stream.waiting
skipped_on-less entry id stream = go (skipped_stream entry == id)
  where
    go : (is_it : Bool) → length (if is_it then stream_after_skip entry stream else stream).waiting ≤ length stream.waiting
    go true = omega (arith, skipped_length entry stream)
    go false = omega arith

pub room_left : (entry : SkippedTo) (entries : List SkippedTo) (old new : IncomingModel) (len capacity : ℕ) → SkipsOne entry old new → len + room_for (entry ∷ entries) (λ id. stream_on id old.streams) ≤ capacity → len + length (skip_deliveries entry (stream_on (skipped_stream entry) old.streams)) + room_for entries (λ id. stream_on id new.streams) ≤ capacity
room_left entry entries old new len capacity skips room =
    let named : ℕ = skipped_stream entry in
    let here : stream_on named new.streams ≡ stream_after_skip entry (stream_on named old.streams) =
    skips.streams named ∙ ap (λ (is : Bool). if is then stream_after_skip entry (stream_on named old.streams) else stream_on named old.streams) (eq-eqb named named refl) in
    omega (
      arith,
      room,
      skipped_length entry (stream_on named old.streams),
      ap (λ (stream : StreamModel). length stream.waiting) here,
      room_apart entries (λ id. false) named (λ id. stream_on id new.streams),
      room_beyond-less entries (λ id. (named == id) || false) (λ id. stream_on id old.streams) (λ id. stream_on id new.streams) (λ id. subst (λ (stream : StreamModel). length stream.waiting ≤ length (stream_on id old.streams).waiting) (sym (skips.streams id)) (skipped_on-less entry id (stream_on id old.streams))),
    )

-- ---- entries in turn

deliveries_of_skips-same : (entries : List SkippedTo) (f g : ℕ → StreamModel) → ((id : ℕ) → f id ≡ g id) → deliveries_of_skips entries f ≡ deliveries_of_skips entries g
deliveries_of_skips-same [] f g same = refl
deliveries_of_skips-same (entry ∷ entries) f g same =
    ap (λ stream. skip_deliveries entry stream ++ deliveries_of_skips entries (λ id. skipped_on entry id (f id))) (same (skipped_stream entry))
    ∙ ap (λ rest. skip_deliveries entry (g (skipped_stream entry)) ++ rest) (deliveries_of_skips-same entries (λ id. skipped_on entry id (f id)) (λ id. skipped_on entry id (g id)) (λ id. ap (λ stream. skipped_on entry id stream) (same id)))

pub SkipsAll-step : (entry : SkippedTo) (entries : List SkippedTo) (old between new : IncomingModel) → SkipsOne entry old between → SkipsAll entries between new → SkipsAll (entry ∷ entries) old new
SkipsAll-step entry entries old between new one rest =
    let later : deliveries_of_skips entries (λ id. stream_on id between.streams) ≡ deliveries_of_skips entries (λ id. skipped_on entry id (stream_on id old.streams)) = deliveries_of_skips-same entries (λ id. stream_on id between.streams) (λ id. skipped_on entry id (stream_on id old.streams)) one.streams in
    record {
      streams = λ id. rest.streams id ∙ ap (λ stream. stream_skipping entries id stream) (one.streams id);
      ready =
          rest.ready
          ∙ ap (λ front. front ++ deliveries_of_skips entries (λ id. stream_on id between.streams)) one.ready
          ∙ append_assoc old.ready (skip_deliveries entry (stream_on (skipped_stream entry) old.streams)) (deliveries_of_skips entries (λ id. stream_on id between.streams))
          ∙ ap (λ more. old.ready ++ (skip_deliveries entry (stream_on (skipped_stream entry) old.streams) ++ more)) later;
      received = rest.received ∙ one.received;
      unordered = rest.unordered ∙ one.unordered;
      last = rest.last ∙ one.last;
    }

pub SkipsAll-none : (incoming : IncomingModel) → SkipsAll [] incoming incoming
SkipsAll-none incoming =
    record { streams = λ id. refl; ready = sym (append-nil incoming.ready); received = refl; unordered = refl; last = refl }

-- ---- what is in use

pub Balances-both : (overhead : ℕ) (old between new : Incoming) → Balances overhead old between → Balances overhead between new → Balances overhead old new
Balances-both overhead old between new first second = λ within. omega (arith, first within, second (omega (arith, first within)))

-- ---- streams that start again

-- one of the streams that are named is forgotten, and then the others
pub forgotten_step : (first : ℕ) (rest : List ℕ) (id : ℕ) (before after : StreamModel) → after ≡ (if first == id then new_stream id else before) → (if is_named rest id then new_stream id else after) ≡ (if is_named (first ∷ rest) id then new_stream id else before)
forgotten_step first rest id before after is = ap (λ stream. if is_named rest id then new_stream id else stream) is ∙ go (first == id) (is_named rest id)
  where
    go : (is_first later : Bool) → (if later then new_stream id else (if is_first then new_stream id else before)) ≡ (if is_first || later then new_stream id else before)
    go true true = refl
    go true false = refl
    go false true = refl
    go false false = refl

-- What becomes ready doesn't depend on what is ready already.
use Rattle.std.proofs.Common.{◌≡◌, ℕ, Bool, true, false, ◌<◌, List, [], ◌∷◌, ◌++◌, refl, sym, ◌∙◌, ap, arith, subst, inl, inr}
use Rattle.std.specs.Prelude.{◌==◌, Option, None, Some, if◌then◌else◌}
use Rattle.std.proofs.lemmas.List.{append-nil, append_assoc}
use Rattle.std.proofs.lemmas.Bool.Decides.{leb_tells}
use Rattle.dcsctp_spec.specs.types.queues.Messages.{MessageContent}
use Rattle.dcsctp_spec.specs.types.declared.arrivals.Numbering.{Numbering}
use Rattle.dcsctp_spec.specs.types.declared.arrivals.Numbering.TheVariants.{Ordered, Unordered, InterleavedOrdered, InterleavedUnordered}
use Rattle.dcsctp_spec.specs.types.declared.arrivals.SkippedTo.{SkippedTo}
use Rattle.dcsctp_spec.specs.types.declared.arrivals.Taken.{Taken}
use Rattle.dcsctp_spec.specs.queues.Incoming.{IncomingModel, stream_on, TakesStreamData, TakesChunk, TakesIncomingChunk, deliveries_of_skips, MovesOn, ResetsStreams}
use Rattle.dcsctp_spec.specs.queues.IncomingStreams.{StreamModel, ChunkModel, OrderedOutcome, TakesOrdered, UnorderedOutcome, TakesUnordered, TakesAhead, TakesInOrder, NumberedPart, numbered_ahead, numbered_apart, numbered_in_order, numbered_out_of_order, numbered_part, TakesNumberedPart, delivered_as, data_part, is_number_waiting, ready_with}
use Rattle.dcsctp_spec.specs.queues.Reassembly.{WaitingModel, WaitingSkips, HandlesAll, SkipsThen}
use Rattle.dcsctp_spec.specs.queues.Runs.{RunModel, PartModel, WholeModel, Assembly, part_dropped, part_kept, message_whole, AddsPart}

-- These became ready besides; so it is after other ones.
pub record MoreReady (before after : List MessageContent) (Does : List MessageContent → List MessageContent → Type 0) : Type 0 where
  pub more : List MessageContent
  pub is : after ≡ before ++ more
  pub other : (r : List MessageContent) → Does r (r ++ more)

-- nothing did
none_more : (before after : List MessageContent) (Does : List MessageContent → List MessageContent → Type 0) → after ≡ before → ((r : List MessageContent) → Does r r) → MoreReady before after Does
none_more before after Does same does = record { more = []; is = same ∙ sym (append-nil before); other = λ r. subst (Does r) (sym (append-nil r)) (does r) }

-- ---- a part

takes_unordered : (part : PartModel) (shown : WholeModel → MessageContent) (old : List RunModel) (before : List MessageContent) (taken : Taken) (new : List RunModel) (after : List MessageContent) → TakesUnordered part shown old before taken new after
    → MoreReady before after (λ r r'. TakesUnordered part shown old r taken new r')
takes_unordered part shown old before taken new after t = go t.outcome t.parts t.does
  where
    go : (o : Assembly) → AddsPart part old o new → UnorderedOutcome part shown before o taken after → MoreReady before after (λ r r'. TakesUnordered part shown old r taken new r')
    go part_dropped parts does = none_more before after _ does.0 (λ r. record { outcome = part_dropped; parts = parts; does = (refl, does.1) })
    go part_kept parts does = none_more before after _ does.0 (λ r. record { outcome = part_kept; parts = parts; does = (refl, does.1) })
    go (message_whole m) parts does = record { more = shown m ∷ []; is = does.0; other = λ r. record { outcome = message_whole m; parts = parts; does = (refl, does.1, does.2) } }

either_more : (b : Bool) (before more : List MessageContent) → (if b then before ++ more else before) ≡ before ++ (if b then more else [])
either_more true before more = refl
either_more false before more = sym (append-nil before)

takes_ordered : (part : PartModel) (old : StreamModel) (before : List MessageContent) (taken : Taken) (new : StreamModel) (after : List MessageContent) → TakesOrdered part old before taken new after
    → MoreReady before after (λ r r'. TakesOrdered part old r taken new r')
takes_ordered part old before taken new after t = go t.outcome t.parts t.does
  where
    go : (o : Assembly) → AddsPart part old.ordered o new.ordered → OrderedOutcome part old before o taken new after → MoreReady before after (λ r r'. TakesOrdered part old r taken new r')
    go part_dropped parts does = none_more before after _ does.1 (λ r. record { outcome = part_dropped; parts = parts; does = (does.0, refl, does.2); id = t.id; unordered = t.unordered })
    go part_kept parts does = none_more before after _ does.2 (λ r. record { outcome = part_kept; parts = parts; does = (does.0, does.1, refl, does.3); id = t.id; unordered = t.unordered })
    go (message_whole m) parts does =
        record {
          more = if m.number == old.next then ready_with old m else [];
          is = does.ready ∙ either_more (m.number == old.next) before (ready_with old m);
          other = λ r. record {
            outcome = message_whole m;
            parts = parts;
            does = record { kept = does.kept; ready = sym (either_more (m.number == old.next) r (ready_with old m)); count = does.count; next = does.next; waiting = does.waiting };
            id = t.id;
            unordered = t.unordered;
          };
        }

takes_ahead : (part : PartModel) (old : StreamModel) (before : List MessageContent) (taken : Taken) (new : StreamModel) (after : List MessageContent) → TakesAhead part old before taken new after
    → MoreReady before after (λ r r'. TakesAhead part old r taken new r')
takes_ahead part old before taken new after t = go (is_number_waiting part.number old.waiting) refl
  where
    go : (b : Bool) → is_number_waiting part.number old.waiting ≡ b → MoreReady before after (λ r r'. TakesAhead part old r taken new r')
    go true is =
        let repeats = t.repeated is in
        let m = takes_unordered part (delivered_as old.id) old.ordered before taken new.ordered after repeats.ordered in
        record {
          more = m.more;
          is = m.is;
          other = λ r. record { repeated = λ same. record { ordered = m.other r; others = repeats.others; last = repeats.last }; fresh = λ not. absurd (let no : true ≡ false = sym is ∙ not in cc) };
        }
    go false is =
        let m = takes_ordered part old before taken new after (t.fresh is) in
        record { more = m.more; is = m.is; other = λ r. record { repeated = λ same. absurd (let no : false ≡ true = sym is ∙ same in cc); fresh = λ not. m.other r } }

takes_in_order : (part : PartModel) (old : StreamModel) (before : List MessageContent) (taken : Taken) (new : StreamModel) (after : List MessageContent) → TakesInOrder part old before taken new after
    → MoreReady before after (λ r r'. TakesInOrder part old r taken new r')
takes_in_order part old before taken new after t =
    elim (leb_tells old.next part.number) [
      | inl e ↦
          (let ahead = e.1 in
          let m = takes_ahead part old before taken new after (t.ahead ahead) in
          record { more = m.more; is = m.is; other = λ r. record { past = λ less. absurd (omega (arith, less, ahead)); ahead = λ up. m.other r } })
      | inr e ↦
          (let less : part.number < old.next = e.1 in
          let p = t.past less in
          none_more before after _ p.2 (λ r. record { past = λ low. (p.0, p.1, refl); ahead = λ up. absurd (omega (arith, less, up)) }))
    ]

takes_part : (p : NumberedPart) (old : StreamModel) (before : List MessageContent) (taken : Taken) (new : StreamModel) (after : List MessageContent) → TakesNumberedPart p old before taken new after
    → MoreReady before after (λ r r'. TakesNumberedPart p old r taken new r')
takes_part (numbered_ahead part) old before taken new after t = takes_ahead part old before taken new after t
takes_part (numbered_apart part) old before taken new after t =
    let m = takes_unordered part (delivered_as old.id) old.unordered before taken new.unordered after t.unordered in
    record { more = m.more; is = m.is; other = λ r. record { unordered = m.other r; others = t.others; last = t.last } }
takes_part (numbered_in_order part) old before taken new after t = takes_in_order part old before taken new after t
takes_part (numbered_out_of_order part) old before taken new after t =
    let m = takes_unordered part (delivered_as old.id) old.unordered before taken new.unordered after t.unordered in
    record { more = m.more; is = m.is; other = λ r. record { unordered = m.other r; last = t.last; others = t.others } }

-- ---- a chunk

-- the incoming messages, with others ready
abbrev pub with_others : List MessageContent → IncomingModel → IncomingModel
with_others ready incoming = record incoming { ready = ready }

-- So it is of what happens to them.
abbrev pub MoreIncoming : (IncomingModel → IncomingModel → Type 0) → IncomingModel → IncomingModel → Type 0
MoreIncoming Does old new = MoreReady old.ready new.ready (λ r r'. Does (with_others r old) (with_others r' new))

stream_more : (tsn : ℕ) (chunk : ChunkModel) (old new : IncomingModel) → TakesStreamData tsn chunk old new → MoreIncoming (TakesStreamData tsn chunk) old new
stream_more tsn chunk old new t =
    let m = takes_part (numbered_part tsn chunk chunk.numbering (stream_on chunk.stream old.streams)) (stream_on chunk.stream old.streams) old.ready t.taken (stream_on chunk.stream new.streams) new.ready t.does in
    record { more = m.more; is = m.is; other = λ r. record { taken = t.taken; does = m.other r; others = t.others; received = t.received; unordered = t.unordered } }

chunk_more : (tsn : ℕ) (numbering : Numbering) (chunk : ChunkModel) (old new : IncomingModel) → TakesChunk tsn numbering chunk old new → MoreIncoming (TakesChunk tsn numbering chunk) old new
chunk_more tsn (Ordered ssn) chunk old new t = stream_more tsn chunk old new t
chunk_more tsn Unordered chunk old new t =
    let m = takes_unordered (data_part chunk tsn chunk.stream) (delivered_as chunk.stream) old.unordered old.ready t.taken new.unordered new.ready t.does in
    record { more = m.more; is = m.is; other = λ r. record { taken = t.taken; does = m.other r; received = t.received; streams = t.streams } }
chunk_more tsn (InterleavedOrdered mid fsn) chunk old new t = stream_more tsn chunk old new t
chunk_more tsn (InterleavedUnordered mid fsn) chunk old new t = stream_more tsn chunk old new t

pub incoming_more : (tsn : ℕ) (chunk : ChunkModel) (old new : IncomingModel) → TakesIncomingChunk tsn chunk old new → MoreIncoming (TakesIncomingChunk tsn chunk) old new
incoming_more tsn chunk old new t =
    let m = chunk_more _ chunk.numbering chunk old new t.takes in
    record { more = m.more; is = m.is; other = λ r. record { takes = m.other r; last = t.last } }

-- ---- what is skipped, or reset

pub moves_more : (tsn : ℕ) (entries : List SkippedTo) (old new : IncomingModel) → MovesOn tsn entries old new → MoreIncoming (MovesOn tsn entries) old new
moves_more tsn entries old new m =
    record {
      more = deliveries_of_skips entries (λ id. stream_on id old.streams);
      is = m.ready;
      other = λ r. record { streams = m.streams; ready = refl; received = m.received; unordered = m.unordered; last = m.last };
    }

pub resets_more : (streams : List ℕ) (old new : IncomingModel) → ResetsStreams streams old new → MoreIncoming (ResetsStreams streams) old new
resets_more [] old new resets = none_more old.ready new.ready _ resets.kept.ready (λ r. record { streams = resets.streams; unordered = resets.unordered; kept = record { ready = refl; received = resets.kept.received; last = resets.kept.last } })
resets_more (one ∷ others) old new resets = none_more old.ready new.ready _ resets.kept.ready (λ r. record { streams = resets.streams; unordered = resets.unordered; kept = record { ready = refl; received = resets.kept.received; last = resets.kept.last } })

-- ---- the end of a deferred reset

-- one after another
then_more : (One Other Both : IncomingModel → IncomingModel → Type 0) (old between new : IncomingModel) → MoreIncoming One old between → MoreIncoming Other between new
    → ((r r' r'' : List MessageContent) → One (with_others r old) (with_others r' between) → Other (with_others r' between) (with_others r'' new) → Both (with_others r old) (with_others r'' new)) → MoreIncoming Both old new
then_more One Other Both old between new one other both =
    record {
      more = one.more ++ other.more;
      is = other.is ∙ ap (λ (l : List MessageContent). l ++ other.more) one.is ∙ append_assoc old.ready one.more other.more;
      other = λ r. subst (λ (l : List MessageContent). Both (with_others r old) (with_others l new)) (append_assoc r one.more other.more) (both r (r ++ one.more) ((r ++ one.more) ++ other.more) (one.other r) (other.other (r ++ one.more)));
    }

pub all_more : (waiting : List WaitingModel) (old new : IncomingModel) → HandlesAll waiting old new → MoreIncoming (HandlesAll waiting) old new
all_more [] old new same = none_more old.ready new.ready _ (ap (λ (i : IncomingModel). i.ready) same) (λ r. ap (with_others r) same)
all_more (one ∷ waiting) old new (between, takes, rest) =
    then_more (TakesIncomingChunk one.tsn one.chunk) (HandlesAll waiting) (HandlesAll (one ∷ waiting)) old between new (incoming_more one.tsn one.chunk old between takes) (all_more waiting between new rest)
    (λ r r' r'' first others. (with_others r' between, first, others))

pub skips_more : (skips : Option WaitingSkips) (old new : IncomingModel) → SkipsThen skips old new → MoreIncoming (SkipsThen skips) old new
skips_more None old new same = none_more old.ready new.ready _ (ap (λ (i : IncomingModel). i.ready) same) (λ r. ap (with_others r) same)
skips_more (Some skips) old new moves = moves_more _ _ old new moves

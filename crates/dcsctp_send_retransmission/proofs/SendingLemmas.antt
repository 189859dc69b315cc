-- Lemmas on what stays of the items while packets are filled.
use Rattle.std.proofs.Common.{◌≡◌, ◌-◌, ◌*◌, ◌/◌, min, Bool, true, false, nat_lt, if◌then◌else◌, IfSome, subst, ℕ, zero, suc, ◌+◌, ◌%◌, ◌^◌, ◌<◌, ◌≤◌, Option, Some, List, [], ◌∷◌, ◌++◌, length, refl, ap, sym, ◌∙◌, inl, inr, arith}
use Rattle.std.specs.List.{slice_get}
use Rattle.dcsctp_api.specs.spec.queues.Sending.{Fragment}
use Rattle.dcsctp_api.specs.spec.queues.Items.{Item, chunk_size, item_size, changed_item, changed_between}
use Rattle.dcsctp_send_retransmission.specs.declared.packet.Packet.{Packet}
use Rattle.dcsctp_api.specs.types.declared.progress.Change.{Change}
use Rattle.dcsctp_api.specs.types.declared.progress.Change.TheVariants.{Abandon}
use Rattle.dcsctp_send_retransmission.specs.Outstanding.{MayAddEnd, SendsNext}
use Rattle.dcsctp_api.specs.spec.queues.Outstanding.{OutstandingState, header}
use Rattle.dcsctp_send_retransmission.specs.Queue.{MayGrow, AbandonsItems}
use Rattle.dcsctp_api.specs.spec.queues.Retransmission.{RetransmissionState, with_items, counted_again}
use Rattle.dcsctp_send_retransmission.specs.Sending.{KeepsFragments, KeepsAllFragments, PacksItems, none, more, IsFilledPacket, ContinuesPacket, HandsOut}

pub fragments_refl : (items : List Item) → KeepsFragments items items
fragments_refl items k item at = record { item = item; at = at; is = refl }

pub fragments_trans : (a b c : List Item) → KeepsFragments a b → KeepsFragments b c → KeepsFragments a c
fragments_trans a b c first later k item at =
    let middle = first k item at in
    let last = later k middle.item middle.at in
    record { item = last.item; at = last.at; is = last.is ∙ middle.is }

-- a change leaves fragments
pub fragments_changed : (change : Change) (start end : ℕ) (items : List Item) → KeepsFragments items (changed_between change start end items)
fragments_changed change zero zero items k item at = record { item = item; at = at; is = refl }
fragments_changed change zero (suc end) [] k item at = record { item = item; at = at; is = refl }
fragments_changed change zero (suc end) (x ∷ xs) zero item at =
    let e : x ≡ item = cc in
    record { item = changed_item change x; at = refl; is = ap (λ (y : Item). y.fragment) e }
fragments_changed change zero (suc end) (x ∷ xs) (suc k) item at =
    let h = fragments_changed change zero end xs k item at in record { item = h.item; at = h.at; is = h.is }
fragments_changed change (suc start) zero items k item at = record { item = item; at = at; is = refl }
fragments_changed change (suc start) (suc end) [] k item at = record { item = item; at = at; is = refl }
fragments_changed change (suc start) (suc end) (x ∷ xs) zero item at = record { item = item; at = at; is = refl }
fragments_changed change (suc start) (suc end) (x ∷ xs) (suc k) item at =
    let h = fragments_changed change start end xs k item at in record { item = h.item; at = h.at; is = h.is }

-- so does one more item
pub fragments_pushed : (items : List Item) (new : Item) → KeepsFragments items (items ++ new ∷ [])
fragments_pushed [] new k item at = absurd (cc)
fragments_pushed (x ∷ xs) new zero item at = record { item = item; at = at; is = refl }
fragments_pushed (x ∷ xs) new (suc k) item at =
    let h = fragments_pushed xs new k item at in record { item = h.item; at = h.at; is = h.is }

-- the last item
pub last_pushed : (items : List Item) (new : Item) → slice_get (items ++ new ∷ []) (length items) ≡ Some new
last_pushed [] new = refl
last_pushed (x ∷ xs) new = last_pushed xs new

pub keeps_refl : (queue : RetransmissionState) → KeepsAllFragments queue queue
keeps_refl queue =
    record { first_tsn = refl; is_interleaved = refl; fragments = fragments_refl queue.outstanding.items; congestion = refl; timer = refl; peer_window = refl; partial_reliability = refl }

pub keeps_trans : (a b c : RetransmissionState) → KeepsAllFragments a b → KeepsAllFragments b c → KeepsAllFragments a c
keeps_trans a b c first later =
    record {
      first_tsn = later.first_tsn ∙ first.first_tsn;
      is_interleaved = later.is_interleaved ∙ first.is_interleaved;
      fragments = fragments_trans a.outstanding.items b.outstanding.items c.outstanding.items first.fragments later.fragments;
      congestion = later.congestion ∙ first.congestion;
      timer = later.timer ∙ first.timer;
      peer_window = later.peer_window ∙ first.peer_window;
      partial_reliability = later.partial_reliability ∙ first.partial_reliability;
    }

-- items with the same fragments and more
pub keeps_with : (queue : RetransmissionState) (items : List Item) → KeepsFragments queue.outstanding.items items → KeepsAllFragments queue (with_items items queue)
keeps_with queue items fragments =
    record { first_tsn = refl; is_interleaved = refl; fragments = fragments; congestion = refl; timer = refl; peer_window = refl; partial_reliability = refl }

-- a packet stays filled
pub packed_kept : (first header : ℕ) (old new : List Item) (tsns : List ℕ) (used : ℕ) → KeepsFragments old new → PacksItems first header old tsns used → PacksItems first header new tsns used
packed_kept first header old new [] zero kept none = none
packed_kept first header old new tsns used kept (more tsns' used' place item tsn size packed at tsn_is size_is) =
    let here = kept place item at in
    more tsns' used' place here.item tsn size (packed_kept first header old new tsns' used' kept packed) here.at tsn_is (size_is ∙ ap (λ (f : Fragment). item_size header (record item { fragment = f })) (sym here.is))

-- a packet stays filled where fragments stay
pub filled_kept : (bytes : ℕ) (old new : RetransmissionState) (packet : Packet) → KeepsAllFragments old new → IsFilledPacket bytes old packet → IsFilledPacket bytes new packet
filled_kept bytes old new packet keeps filled =
    record {
      used = filled.used;
      packed = rw (keeps.first_tsn, keeps.is_interleaved) (packed_kept old.outstanding.first_tsn (header old.outstanding) old.outstanding.items new.outstanding.items packet.tsns.items filled.used keeps.fragments filled.packed);
      sum = filled.sum;
    }

-- one more chunk of the queue goes into the packet
pub filled_more : (bytes : ℕ) (queue : RetransmissionState) (before after : Packet) (place : ℕ) (item : Item) (tsn size : ℕ) → IsFilledPacket bytes queue before → slice_get queue.outstanding.items place ≡ Some item → tsn ≡ (queue.outstanding.first_tsn + place) % 2 ^ 32 → size ≡ item_size (header queue.outstanding) item → after.tsns.items ≡ before.tsns.items ++ tsn ∷ [] → after.room + size ≡ before.room → IsFilledPacket bytes queue after
filled_more bytes queue before after place item tsn size filled at tsn_is size_is tsns_are room_is =
    record {
      used = filled.used + size;
      packed = rw tsns_are (more before.tsns.items filled.used place item tsn size filled.packed at tsn_is size_is);
      sum = let sum = filled.sum in omega arith;
    }

-- giving up keeps all fragments
pub grows_keeps : (old new : RetransmissionState) → MayGrow old new → KeepsAllFragments old new
grows_keeps old new grows = rw grows.rest (go new.outstanding grows.ends)
  where
    go : (m : OutstandingState) → MayAddEnd old.outstanding m → KeepsAllFragments old (record old { outstanding = m })
    go m (inl same) = rw same (keeps_refl old)
    go m (inr ends) = rw ends.grows (keeps_with old (old.outstanding.items ++ ends.item ∷ []) (fragments_pushed old.outstanding.items ends.item))

pub gives_up_keeps : (place : ℕ) (old new : RetransmissionState) → AbandonsItems place old new → KeepsAllFragments old new
gives_up_keeps place old new up =
    rw up.is (keeps_trans old up.grown (with_items (changed_between Abandon up.start up.end up.grown.outstanding.items) up.grown) (grows_keeps old up.grown up.grows) (keeps_with up.grown (changed_between Abandon up.start up.end up.grown.outstanding.items) (fragments_changed Abandon up.start up.end up.grown.outstanding.items)))

pub fills_trans : (a : RetransmissionState) (p : Packet) (b : RetransmissionState) (q : Packet) (c : RetransmissionState) (r : Packet) → ContinuesPacket a p b q → ContinuesPacket b q c r → ContinuesPacket a p c r
fills_trans a p b q c r first later =
    record { keeps = keeps_trans a b c first.keeps later.keeps; filling = λ bytes filled. later.filling bytes (first.filling bytes filled) }

-- the packet stays as it is
pub fills_none : (old new : RetransmissionState) (packet : Packet) → KeepsAllFragments old new → ContinuesPacket old packet new packet
fills_none old new packet keeps = record { keeps = keeps; filling = λ bytes filled. filled_kept bytes old new packet keeps filled }

-- the packet has the same TSNs and room
pub fills_same : (old new : RetransmissionState) (before after : Packet) → KeepsAllFragments old new → after.tsns.items ≡ before.tsns.items → after.room ≡ before.room → ContinuesPacket old before new after
fills_same old new before after keeps tsns room =
    record {
      keeps = keeps;
      filling = λ bytes filled. let kept = filled_kept bytes old new before keeps filled in record { used = kept.used; packed = rw tsns kept.packed; sum = rw room kept.sum };
    }

-- the queue with these outstanding items, and no reset since or one
abbrev pub with_outstanding : OutstandingState → Bool → RetransmissionState → RetransmissionState
with_outstanding outstanding reset queue = record queue { outstanding = outstanding; reset_begun = reset }

pub keeps_outstanding : (old : RetransmissionState) (new : OutstandingState) (reset : Bool) → new.first_tsn ≡ old.outstanding.first_tsn → new.is_interleaved ≡ old.outstanding.is_interleaved → KeepsFragments old.outstanding.items new.items → KeepsAllFragments old (with_outstanding new reset old)
keeps_outstanding old new reset first interleaved fragments =
    record { first_tsn = first; is_interleaved = interleaved; fragments = fragments; congestion = refl; timer = refl; peer_window = refl; partial_reliability = refl }

-- a new chunk goes into the packet
pub sends_keeps : (now max : ℕ) (old : RetransmissionState) (new : OutstandingState) (tsn : ℕ) (reset : Bool) → SendsNext now max old.outstanding new tsn → KeepsAllFragments old (with_outstanding new reset old)
sends_keeps now max old new tsn reset sends =
    let items = ap (λ (m : OutstandingState). m.items) sends.grows in
    keeps_outstanding old new reset (ap (λ (m : OutstandingState). m.first_tsn) sends.grows) (ap (λ (m : OutstandingState). m.is_interleaved) sends.grows)
    (rw items (fragments_pushed old.outstanding.items sends.item))

-- a payload of at most this many bytes fits with its header and padding
pub size_fits : (header room max len : ℕ) → max ≡ (min room 65532 - header) / 4 * 4 → 0 < max → len ≤ max → chunk_size header len ≤ room
size_fits header room max len is some at_most = omega arith

pub sends_fills : (now max : ℕ) (old : RetransmissionState) (before after : Packet) (place size tsn : ℕ) (new : OutstandingState) (reset : Bool) → SendsNext now max old.outstanding new tsn → place ≡ length old.outstanding.items → IfSome (slice_get new.items place) (λ item. size ≡ item_size (header new) item) → max ≡ (min before.room 65532 - (header old.outstanding)) / 4 * 4 → 0 < max → after.tsns.items ≡ before.tsns.items ++ tsn ∷ [] → after.room ≡ before.room - size → ContinuesPacket old before (with_outstanding new reset old) after × (after.room < before.room)
sends_fills now max old before after place size tsn new reset sends place_is sized max_is some tsns room =
    let items = ap (λ (m : OutstandingState). m.items) sends.grows in
    let first = ap (λ (m : OutstandingState). m.first_tsn) sends.grows in
    let sizes = ap header sends.grows in
    let at : slice_get new.items place ≡ Some sends.item = rw (items, place_is) (last_pushed old.outstanding.items sends.item) in
    let P : Option Item → Type 0 = λ x. IfSome x (λ item. size ≡ item_size (header new) item) in
    let size_is : size ≡ item_size (header new) sends.item = subst P at sized in
    let fits : size ≤ before.room = rw (size_is, sizes) (size_fits (header old.outstanding) before.room max (length sends.item.fragment.payload) max_is some sends.is_first.at_most) in
    let positive : 0 < size = let p = sends.is_first.some in omega (arith, size_is) in
    let tsn_is : tsn ≡ (new.first_tsn + place) % 2 ^ 32 = sends.tsn_is ∙ rw (first, place_is) refl in
    let keeps = sends_keeps now max old new tsn reset sends in (
      record {
        keeps = keeps;
        filling = λ bytes filled.
            filled_more bytes (with_outstanding new reset old) before after place sends.item tsn size
            (filled_kept bytes old (with_outstanding new reset old) before keeps filled) at tsn_is size_is tsns (omega arith);
      },
      omega arith,
    )

-- counting keeps all else
pub counted_keeps : (size : ℕ) (queue : RetransmissionState) → KeepsAllFragments queue (counted_again size queue)
counted_keeps size queue = go (nat_lt 0 size)
  where
    go : (b : Bool) → KeepsAllFragments queue (if b then record queue { packets_retransmitted = min (queue.packets_retransmitted + 1) (2 ^ 64 - 1); bytes_retransmitted = min (queue.bytes_retransmitted + size) (2 ^ 64 - 1) } else queue)
    go true = record { first_tsn = refl; is_interleaved = refl; fragments = fragments_refl queue.outstanding.items; congestion = refl; timer = refl; peer_window = refl; partial_reliability = refl }
    go false = keeps_refl queue

-- what a packet that was empty holds
pub fills_hand_out : (bytes : ℕ) (old new : RetransmissionState) (before after : Packet) → before.tsns.items ≡ [] → before.room ≡ bytes → ContinuesPacket old before new after → HandsOut bytes new.outstanding after.tsns.items
fills_hand_out bytes old new before after empty room fills =
    let start : IsFilledPacket bytes old before = record { used = 0; packed = rw empty none; sum = omega arith } in
    let filled = fills.filling bytes start in
    let sum = filled.sum in
    record { used = filled.used; fits = omega arith; packed = filled.packed }

pub counted_outstanding : (size : ℕ) (queue : RetransmissionState) → (counted_again size queue).outstanding ≡ queue.outstanding
counted_outstanding size queue = go (nat_lt 0 size)
  where
    go : (b : Bool) → (if b then record queue { packets_retransmitted = min (queue.packets_retransmitted + 1) (2 ^ 64 - 1); bytes_retransmitted = min (queue.bytes_retransmitted + size) (2 ^ 64 - 1) } else queue).outstanding ≡ queue.outstanding
    go true = refl
    go false = refl

-- What an I-FORWARD-TSN skips: each message without limits before it was handled, and each message that it passes has a number
-- below the next one of its stream from then on, or once a deferred reset ends.
use Rattle.std.proofs.Common.{◌≡◌, ℕ, Bool, true, false, ◌<◌, ◌≤◌, ◌+◌, ◌-◌, ◌%◌, ◌^◌, List, [], ◌∷◌, ◌++◌, length, refl, sym, ◌∙◌, ap, arith, subst, inl, inr}
use Rattle.std.specs.Prelude.{Some, if◌then◌else◌}
use Rattle.std.specs.List.{AllByRecursion, filter}
use Rattle.std.proofs.lemmas.Bool.Decides.{nat_tests}
use Rattle.dcsctp_spec_lemmas.specs.types.queues.Messages.{MessageContent}
use Rattle.dcsctp_spec_lemmas.specs.types.declared.arrivals.SkippedTo.{SkippedTo}
use Rattle.dcsctp_spec_lemmas.specs.types.declared.arrivals.SkippedTo.TheVariants.{Ssn, Mid}
use Rattle.dcsctp_spec_lemmas.specs.spec.queues.Numbers.{number_near, is_tsn_beyond}
use Rattle.dcsctp_spec_lemmas.specs.spec.queues.Runs.{RunModel}
use Rattle.dcsctp_spec_lemmas.specs.spec.queues.IncomingStreams.{StreamModel, next_past, skipped_stream, stream_after_skip, skip_deliveries}
use Rattle.dcsctp_spec_lemmas.specs.spec.queues.Incoming.{skipped_on, stream_skipping}
use Rattle.dcsctp_spec_lemmas.specs.spec.queues.Reassembly.{WaitingModel, DeferralModel, names_stream}
use Rattle.dcsctp_delivery_directions.specs.sending.Places.{HasEntry}
use Rattle.dcsctp_delivery_directions.specs.sending.Log.{Message, Piece, History, IsLogOfPieces, sent_messages}
use Rattle.dcsctp_delivery_directions.specs.sending.Numbers.{IsUnambiguous}
use Rattle.dcsctp_delivery_directions.specs.sending.Naming.{IsOfPiece, carries, closes}
use Rattle.dcsctp_delivery_directions.specs.receiving.Ready.{NamesCurrent, NameAll, held_messages}
use Rattle.dcsctp_delivery_directions.specs.receiving.Received.{CarriesCurrent, DefersData, AreBeyond, Few}
use Rattle.dcsctp_delivery_directions.specs.order.Incoming.{IsOrderedOrReset, HoldsOrdered, NoneIsQuiet}
use Rattle.dcsctp_delivery_directions.specs.order.Reading.{Watch, CountsFromZero, OrderedStream}
use Rattle.dcsctp_delivery_directions.specs.order.Received.{IsKnownTsn, IsLastAssigned}
use Rattle.dcsctp_delivery_directions.specs.order.Skips.{IsHandledBefore, AreSkipsHandled}
use Rattle.dcsctp_delivery_directions.proofs.order.NextGrows.{skip_grows}
use Rattle.dcsctp_delivery_directions.proofs.order.Reading.{mids_counted}
use Rattle.dcsctp_delivery_directions.proofs.order.SkippedParts.{due_up}
use Rattle.dcsctp_delivery_directions.proofs.order.Skipping.{one_skipped, on_itself, on_others}
use Rattle.dcsctp_delivery_directions.proofs.receiving.Clearing.{behind}
use Rattle.dcsctp_delivery_directions.proofs.sending.Places.{decide, at_below}

-- One of the entries is for the ordered messages of the stream, or for its unordered ones.
pub record HasSkip (id : ℕ) (is_unordered : Bool) (entries : List SkippedTo) : Type 0 where
  pub mid : ℕ
  pub has : HasEntry (Mid (record { 0 = id }) is_unordered mid) entries

-- One is for the ordered messages of the stream, and passes this TSN.
pub record IsPassedBy (history : History) (id number : ℕ) (entries : List SkippedTo) : Type 0 where
  pub mid : ℕ
  pub has : HasEntry (Mid (record { 0 = id }) false mid) entries
  pub passed : ℕ
  pub names : NamesCurrent history passed (Mid (record { 0 = id }) false mid)
  pub low : number < passed

-- ---- what is handled

-- data that waits for the end of a reset
pub record IsWaiting (history : History) (first k : ℕ) (waiting : List WaitingModel) : Type 0 where
  pub one : WaitingModel
  pub has : HasEntry one waiting
  pub carries : CarriesCurrent history first k one.tsn one.chunk

pub later_waits : (history : History) (first k : ℕ) (later : List ℕ) (waiting : List WaitingModel) → DefersData history first later waiting → HasEntry k later → IsWaiting history first k waiting
later_waits history first k [] waiting defers has = absurd has
later_waits history first k (n ∷ later) [] defers has = absurd defers
later_waits history first k (n ∷ later) (one ∷ waiting) defers has =
    elim has [
      | inl e ↦ record { one = one; has = inl refl; carries = subst (λ (j : ℕ). CarriesCurrent history first j one.tsn one.chunk) (sym e) defers.0 }
      | inr t ↦ (let w = later_waits history first k later waiting defers.1 t in record { one = w.one; has = inr w.has; carries = w.carries })
    ]

beyond_in : (last_tsn : ℕ) (one : WaitingModel) (waiting : List WaitingModel) → AreBeyond last_tsn waiting → HasEntry one waiting → is_tsn_beyond one.tsn last_tsn ≡ true
beyond_in last_tsn one [] are has = absurd has
beyond_in last_tsn one (w ∷ waiting) are has = elim has [ inl e ↦ ap (λ (x : WaitingModel). is_tsn_beyond x.tsn last_tsn) e ∙ are.0 | inr t ↦ beyond_in last_tsn one waiting are.1 t ]

pub named_in : (streams : List ℕ) (one : WaitingModel) (waiting : List WaitingModel) → AllByRecursion (λ (w : WaitingModel). names_stream streams w.chunk.stream ≡ true) waiting → HasEntry one waiting → names_stream streams one.chunk.stream ≡ true
named_in streams one [] all has = absurd has
named_in streams one (w ∷ waiting) all has = elim has [ inl e ↦ ap (λ (x : WaitingModel). names_stream streams x.chunk.stream) e ∙ all.0 | inr t ↦ named_in streams one waiting all.1 t ]

not_beyond : (first offset bound : ℕ) → first < 2 ^ 32 → offset + 1 < 2 ^ 31 → bound < 2 ^ 31 → is_tsn_beyond ((first + offset) % 2 ^ 32) ((first + bound + (2 ^ 32 - 1)) % 2 ^ 32) ≡ false → offset < bound
not_beyond first offset bound small few near within = grind (arith, nat_tests, within)

-- What waits lies beyond a TSN that isn't beyond the last one.
pub none_before : (history : History) (first tsn offset k : ℕ) (later : List ℕ) (deferral : DeferralModel) → Few history first → offset < length history.log → tsn ≡ (first + offset) % 2 ^ 32 → DefersData history first later deferral.waiting → AreBeyond deferral.last_tsn deferral.waiting
    → IsLastAssigned history first (Some deferral) → is_tsn_beyond tsn deferral.last_tsn ≡ false → HasEntry k later → k ≤ offset → ⊥
none_before history first tsn offset k later deferral f below is defers beyond near not_far has low =
    let w = later_waits history first k later deferral.waiting defers has in
    let (bound, within, last) = near in
    let few = f.few in
    let c = w.carries.carries in
    let here = at_below k (Some c.piece) history.log c.at in
    let far = behind first k bound w.one.tsn deferral.last_tsn f.small (omega (arith, here, few)) (omega (arith, within, few)) c.is last (beyond_in deferral.last_tsn w.one deferral.waiting beyond w.has) in
    let before = not_beyond first offset bound f.small (omega (arith, below, few)) (omega (arith, within, few)) (subst (λ (t : ℕ). is_tsn_beyond t ((first + bound + (2 ^ 32 - 1)) % 2 ^ 32) ≡ false) is (subst (λ (t : ℕ). is_tsn_beyond tsn t ≡ false) last not_far)) in
    omega (arith, far, before, low)

module _ (watch : ℕ → Watch) (queued : List Message) (history : History) where
  -- each message without limits before the one that is named was received, and handled
  pub one_handled : (got : List ℕ) (passed : ℕ) (entry : SkippedTo) (names : NamesCurrent history passed entry) → ((n : ℕ) → (sure : IsKnownTsn watch history n) → sure.piece.message.stream ≡ skipped_stream entry → n < passed → HasEntry n got) → IsHandledBefore watch history got passed entry names
  one_handled got passed (Ssn id ssn) names all = tt
  one_handled got passed (Mid id is_unordered mid) (skips, current) all =
      λ knows n f at on kind now free less. all n (record { piece = f; at = at; free = free; known = ap (λ (k : ℕ). (watch k).knows_all) on ∙ knows }) on (let before = skips.before in omega (arith, less, before))

  pub all_handled : (got : List ℕ) (passed : ℕ) (entries : List SkippedTo) → NameAll history passed entries → ((entry : SkippedTo) → HasEntry entry entries → (n : ℕ) → (sure : IsKnownTsn watch history n) → sure.piece.message.stream ≡ skipped_stream entry → n < passed → HasEntry n got)
      → AreSkipsHandled watch history got entries
  all_handled got passed [] names all = tt
  all_handled got passed (entry ∷ entries) names all =
      ((passed, names.0, one_handled got passed entry names.0 (all entry (inl refl))), all_handled got passed entries names.1 (λ other has. all other (inr has)))

-- ---- what is skipped

module _ (watch : ℕ → Watch) (queued : List Message) (history : History) (quiet : ℕ → Bool) (cut : IsLogOfPieces queued history.log) (told : IsUnambiguous history) (got : List ℕ) (base : ℕ) (read : List ℕ) where
  -- The number that an entry skips is at least that of each message that it passes.
  skips_past : (passed id mid : ℕ) (all waits : List ℕ) (stream : StreamModel) → (names : NamesCurrent history passed (Mid (record { 0 = id }) false mid)) → CountsFromZero history id → OrderedStream (watch id) queued history id all waits stream
      → (n : ℕ) (f : Piece) → IsOfPiece history.log f n → n < passed → f.message.stream ≡ id → f.message.is_unordered ≡ false → f.mid + 2 ^ 32 < history.floors id false + (stream_after_skip (Mid (record { 0 = id }) false mid) stream).next
  skips_past passed id mid all waits stream (skips, current) counts ordered n f of low on kind =
      let its : skips.piece.mid + 2 ^ 32 ≡ history.floors id false + number_near stream.next mid =
      subst (λ (k : ℕ). skips.piece.mid + 2 ^ 32 ≡ history.floors id false + number_near stream.next k) (sym skips.is)
      (mids_counted history id skips.number skips.piece stream counts ordered.reach (record { at = skips.at; stream = sym skips.stream; ordered = sym skips.unordered; current = current })) in
      let few = counts.few skips.number skips.piece skips.at (sym skips.stream) (sym skips.unordered) in
      let past = due_up (stream.next + 1) (next_past (number_near stream.next mid) stream.next) stream.waiting ordered.order.ahead in
      let high = top n of low in
      omega (arith, its, few, past, high)
    where
      top : (n : ℕ) → IsOfPiece history.log f n → n < passed → f.mid ≤ skips.piece.mid
      top _ (carries m at) low' = skips.highest m f at low' on kind
      top _ (closes m at end) low' = skips.highest m f at (omega (arith, low')) on kind

  -- where all entries are handled
  pub entries_pass : (entries : List SkippedTo) (streams : ℕ → StreamModel) (unordered : List RunModel) (ready : List MessageContent) → HoldsOrdered watch (sent_messages queued history) quiet got base read (held_messages streams unordered ready)
      → AreSkipsHandled watch history got entries → NoneIsQuiet quiet entries → (id : ℕ) → quiet id ≡ false → CountsFromZero history id
      → ((streams id).next ≤ (stream_skipping entries id (streams id)).next)
      × ((n : ℕ) (f : Piece) → IsOfPiece history.log f n → f.message.stream ≡ id → f.message.is_unordered ≡ false → IsPassedBy history id n entries → f.mid + 2 ^ 32 < history.floors id false + (stream_skipping entries id (streams id)).next)
  entries_pass [] streams unordered ready o names loud id aloud counts = (omega arith, λ n f of on kind skip. absurd skip.has)
  entries_pass (entry ∷ entries) streams unordered ready o names loud id aloud counts =
      let rest = entries_pass entries (λ other. skipped_on entry other (streams other)) unordered (ready ++ skip_deliveries entry (streams (skipped_stream entry)))
      (one_skipped watch queued history quiet got base read cut told names.0.0 entry streams unordered ready o loud.0 names.0.1 names.0.2) names.1 loud.1 id aloud counts in
      let up = grows in
      let more = rest.0 in (
        omega (arith, up, more),
        λ n f of on kind skip. elim skip.has [
          | inr t ↦ rest.1 n f of on kind (record { mid = skip.mid; has = t; passed = skip.passed; names = skip.names; low = skip.low })
          | inl e ↦ (let here = first skip.mid e skip.passed skip.names n f of skip.low on kind in omega (arith, here, more))
        ],
      )
    where
      ordered : OrderedStream (watch id) queued history id (read ++ o.holds.places) (o.holds.waits id) (streams id)
      ordered = subst (λ (b : Bool). IsOrderedOrReset (watch id) b (sent_messages queued history) id (read ++ o.holds.places) (o.holds.waits id) (streams id)) aloud (o.order id counts)

      grows : (streams id).next ≤ (skipped_on entry id (streams id)).next
      grows = elim (decide id (skipped_stream entry)) [
        | inl same ↦
            (let is = on_itself watch queued history quiet got base read entry (streams (skipped_stream entry)) in
            let step = skip_grows entry (streams id) ordered.order.ahead in
            let now : (skipped_on entry id (streams id)).next ≡ (stream_after_skip entry (streams id)).next =
            ap (λ (k : ℕ). (skipped_on entry k (streams k)).next) same ∙ ap (λ (s : StreamModel). s.next) is ∙ ap (λ (k : ℕ). (stream_after_skip entry (streams k)).next) (sym same) in
            omega (arith, step, now))
        | inr ne ↦ (let same = ap (λ (s : StreamModel). s.next) (on_others watch queued history quiet got base read entry id (streams id) ne) in omega (arith, same))
      ]

      first : (mid : ℕ) → Mid (record { 0 = id }) false mid ≡ entry → (passed : ℕ) → NamesCurrent history passed (Mid (record { 0 = id }) false mid) → (n : ℕ) (f : Piece) → IsOfPiece history.log f n → n < passed → f.message.stream ≡ id → f.message.is_unordered ≡ false
          → f.mid + 2 ^ 32 < history.floors id false + (skipped_on entry id (streams id)).next
      first mid e passed its n f of low on kind =
          let past = skips_past passed id mid (read ++ o.holds.places) (o.holds.waits id) (streams id) its counts ordered n f of low on kind in
          let is = on_itself watch queued history quiet got base read (Mid (record { 0 = id }) false mid) (streams id) in
          let now : (skipped_on entry id (streams id)).next ≡ (stream_after_skip (Mid (record { 0 = id }) false mid) (streams id)).next = ap (λ (x : SkippedTo). (skipped_on x id (streams id)).next) (sym e) ∙ ap (λ (s : StreamModel). s.next) is in
          omega (arith, past, now)

-- ---- entries that are chosen

pub among_left : (test : SkippedTo → Bool) (entry : SkippedTo) (entries : List SkippedTo) → test entry ≡ true → HasEntry entry entries → HasEntry entry (filter test entries)
among_left test entry [] is has = absurd has
among_left test entry (first ∷ entries) is has = go (test first) refl (λ later. among_left test entry entries is later)
  where
    go : (b : Bool) → test first ≡ b → (HasEntry entry entries → HasEntry entry (filter test entries)) → HasEntry entry (if b then first ∷ filter test entries else filter test entries)
    go true its others = elim has [ inl e ↦ inl e | inr t ↦ inr (others t) ]
    go false its others = elim has [
      | inl e ↦ absurd (let clash : true ≡ false = sym is ∙ ap test e ∙ its in cc)
      | inr t ↦ others t
    ]

pub from_left : (test : SkippedTo → Bool) (entry : SkippedTo) (entries : List SkippedTo) → HasEntry entry (filter test entries) → HasEntry entry entries × (test entry ≡ true)
from_left test entry [] has = absurd has
from_left test entry (first ∷ entries) has = go (test first) refl (λ later. from_left test entry entries later) has
  where
    go : (b : Bool) → test first ≡ b → (HasEntry entry (filter test entries) → HasEntry entry entries × (test entry ≡ true)) → HasEntry entry (if b then first ∷ filter test entries else filter test entries) → HasEntry entry (first ∷ entries) × (test entry ≡ true)
    go true its others has' = elim has' [
      | inl e ↦ (inl e, ap test e ∙ its)
      | inr t ↦ (let o = others t in (inr o.0, o.1))
    ]
    go false its others has' = (let o = others has' in (inr o.0, o.1))

pub name_in : (history : History) (passed : ℕ) (entry : SkippedTo) (entries : List SkippedTo) → NameAll history passed entries → HasEntry entry entries → NamesCurrent history passed entry
name_in history passed entry [] names has = absurd has
name_in history passed entry (first ∷ entries) names has = elim has [ inl e ↦ subst (λ (x : SkippedTo). NamesCurrent history passed x) (sym e) names.0 | inr t ↦ name_in history passed entry entries names.1 t ]

-- Logs that grow, and items in flight that change.
use Rattle.std.proofs.Common.{◌≡◌, ℕ, zero, suc, true, false, ◌<◌, ◌≤◌, ◌+◌, ◌^◌, List, [], ◌∷◌, ◌++◌, length, refl, sym, ◌∙◌, ap, arith, subst, inl, inr}
use Rattle.std.specs.Prelude.{◌⊎◌, None, Some, slice_get}
use Rattle.std.proofs.lemmas.List.{length-append}
use Rattle.dcsctp_spec.specs.types.declared.progress.Change.{Change}
use Rattle.dcsctp_spec.specs.types.declared.progress.Progress.{Progress}
use Rattle.dcsctp_spec.specs.types.queues.Progress.{is_abandoned, progress_changed}
use Rattle.dcsctp_spec.specs.queues.Items.{Item, changed_item, changed_between}
use Rattle.dcsctp_spec.specs.queues.Outstanding.{OutstandingState}
use Rattle.dcsctp_spec.specs.queues.SendQueue.{SendQueueState}
use Rattle.dcsctp_spec.specs.queues.Sending.{Fragment}
use Rattle.dcsctp_delivery_directions.specs.sending.Places.{at_place}
use Rattle.dcsctp_delivery_directions.specs.sending.Log.{Message, Piece, Slot, IsPiece, HasBefore, HasEarlier, IsLogOfPieces, History, with_slot}
use Rattle.dcsctp_delivery_directions.specs.sending.Pieces.{HandsOutPiece}
use Rattle.dcsctp_delivery_directions.specs.sending.Stages.{SaysSlot, SaysTsn, IsNamedFragment, IsOfLimited, IsAbandonedItem, AreMessagesWhole, Bears, Pends}
use Rattle.dcsctp_delivery_directions.proofs.sending.Limits.{Leaves, limited_stays}
use Rattle.dcsctp_delivery_directions.proofs.sending.Newest.{closed_stays}
use Rattle.dcsctp_delivery_directions.proofs.sending.Places.{at_new, at_old, at_cases, at_below, at_stays}

-- ---- logs

pub with_none : (log : List Slot) (n : ℕ) (f : Piece) → at_place n (None ∷ log) ≡ Some (Some f) → at_place n log ≡ Some (Some f)
with_none log n f at =
    elim (at_cases n None (Some f) log at) [
      | inl e ↦ absurd (cc)
      | inr old ↦ old
    ]

before_stays : (slot : Slot) (log : List Slot) (n : ℕ) (f : Piece) → n ≤ length log → HasBefore log n f → HasBefore (slot ∷ log) n f
before_stays slot log n f up b =
    record {
      earlier = b.earlier;
      is = b.is;
      near = b.near;
      apart = λ k g past below at on. b.apart k g past below (sym (at_old k slot log (omega (arith, below, up))) ∙ at) on;
      before = b.before;
      at = at_stays b.earlier slot (Some b.before) log b.at;
      start = b.start;
      place = b.place;
      message = b.message;
      mid = b.mid;
      fsn = b.fsn;
    }

earlier_was : (slot : Slot) (log : List Slot) (n : ℕ) (f : Piece) → n ≤ length log → HasEarlier (slot ∷ log) n f → HasEarlier log n f
earlier_was slot log n f up earlier =
    elim earlier [
      | inl row ↦ inl row
      | inr after ↦ (let less = after.is in inr (record { earlier = after.earlier; piece = after.piece; is = after.is; at = sym (at_old after.earlier slot log (omega (arith, less, up))) ∙ after.at; on = after.on }))
    ]

-- a row that goes on in a longer log
rows_stay : (slot : Slot) (log : List Slot) (n : ℕ) (f : Piece) → n ≤ length log → (HasEarlier log n f → HasBefore log n f) → HasEarlier (slot ∷ log) n f → HasBefore (slot ∷ log) n f
rows_stay slot log n f up row earlier = before_stays slot log n f up (row (earlier_was slot log n f up earlier))

pub cut_none : (queued : List Message) (log : List Slot) → ((n : ℕ) (f : Piece) → at_place n log ≡ Some (Some f) → n + 1 ≡ length log → f.message.is_limited ≡ true) → IsLogOfPieces queued log → IsLogOfPieces queued (None ∷ log)
cut_none queued log newest_limited cut =
    record {
      pieces = λ n f at. cut.pieces n f (with_none log n f at);
      rows = λ n f at started earlier. (
          let at' = with_none log n f at in
          let low = at_below n (Some f) log at' in
          rows_stay None log n f (omega (arith, low)) (cut.rows n f at' started) earlier
          );
      ascends = λ m n f g less at at'. cut.ascends m n f g less (with_none log m f at) (with_none log n g at');
      climbs = λ m n f g less at at'. cut.climbs m n f g less (with_none log m f at) (with_none log n g at');
      shuts = λ n f at at'. elim (at_cases (n + 1) None None log at') [
        | inl e ↦ newest_limited n f (with_none log n f at) e.0
        | inr old ↦ cut.shuts n f (with_none log n f at) old
      ];
      ends = λ m n f g less at at' on starts none. closed_stays None log f (cut.ends m n f g less (with_none log m f at) (with_none log n g at') on starts (λ k h above below there. none k h above below (at_stays k None (Some h) log there)));
    }

pub cut_more : (queued : List Message) (history : History) (part : Fragment) (new : SendQueueState) (handed : HandsOutPiece queued history part new) → IsLogOfPieces queued history.log → IsLogOfPieces queued (Some handed.piece ∷ history.log)
cut_more queued history part new handed cut =
    record {
      pieces = λ n f at. elim (at_cases n (Some handed.piece) (Some f) history.log at) [
        | inl e ↦ (let same : handed.piece ≡ f = cc in subst (λ (g : Piece). IsPiece queued g) same handed.is_piece)
        | inr old ↦ cut.pieces n f old
      ];
      rows = λ n f at started earlier. elim (at_cases n (Some handed.piece) (Some f) history.log at) [
        | inl e ↦
            (let same : handed.piece ≡ f = cc in
            let here : n ≡ length history.log = e.0 in
            rows_stay (Some handed.piece) history.log n f (omega (arith, here))
            (λ before. subst (λ (k : ℕ). HasBefore history.log k f) (sym here)
            (subst (λ (g : Piece). HasBefore history.log (length history.log) g) same
            (handed.row (subst (λ (g : Piece). 0 < g.start) (sym same) started)
            (subst (λ (g : Piece). HasEarlier history.log (length history.log) g) (sym same) (subst (λ (k : ℕ). HasEarlier history.log k f) here before))))) earlier)
        | inr old ↦ (let low = at_below n (Some f) history.log old in rows_stay (Some handed.piece) history.log n f (omega (arith, low)) (cut.rows n f old started) earlier)
      ];
      ascends = λ m n f g less at at' starts on. elim (at_cases n (Some handed.piece) (Some g) history.log at') [
        | inl e ↦
            (let same : handed.piece ≡ g = cc in
            let here : n ≡ length history.log = e.0 in
            elim (at_cases m (Some handed.piece) (Some f) history.log at) [
              | inl e' ↦ (let there : m ≡ length history.log = e'.0 in absurd (omega arith))
              | inr old ↦
                  subst (λ (h : Piece). f.place < h.place) same
                  (handed.ascends m f old (ap (λ (h : Piece). h.start) same ∙ starts) (on ∙ ap (λ (h : Piece). h.message.stream) (sym same)))
            ])
        | inr old' ↦
            elim (at_cases m (Some handed.piece) (Some f) history.log at) [
              | inl e' ↦ (let there : m ≡ length history.log = e'.0 in let below : n < length history.log = at_below n (Some g) history.log old' in absurd (omega arith))
              | inr old ↦ cut.ascends m n f g less old old' starts on
            ]
      ];
      climbs = λ m n f g less at at' starts kind on on'. elim (at_cases n (Some handed.piece) (Some g) history.log at') [
        | inl e ↦
            (let same : handed.piece ≡ g = cc in
            let here : n ≡ length history.log = e.0 in
            elim (at_cases m (Some handed.piece) (Some f) history.log at) [
              | inl e' ↦ (let there : m ≡ length history.log = e'.0 in absurd (omega arith))
              | inr old ↦
                  subst (λ (h : Piece). f.mid < h.mid) same
                  (handed.climbs m f old (ap (λ (h : Piece). h.start) same ∙ starts) (ap (λ (h : Piece). h.is_interleaved) same ∙ kind)
                  (on ∙ ap (λ (h : Piece). h.message.stream) (sym same)) (on' ∙ ap (λ (h : Piece). h.message.is_unordered) (sym same)))
            ])
        | inr old' ↦
            elim (at_cases m (Some handed.piece) (Some f) history.log at) [
              | inl e' ↦ (let there : m ≡ length history.log = e'.0 in let below : n < length history.log = at_below n (Some g) history.log old' in absurd (omega arith))
              | inr old ↦ cut.climbs m n f g less old old' starts kind on on'
            ]
      ];
      shuts = λ n f at at'. elim (at_cases (n + 1) (Some handed.piece) None history.log at') [
        | inl e ↦ absurd (let clash : Some handed.piece ≡ None = e.1 in cc)
        | inr old ↦ cut.shuts n f (sym (at_old n (Some handed.piece) history.log (let low = at_below (n + 1) None history.log old in omega (arith, low))) ∙ at) old
      ];
      ends = λ m n f g less at at' on starts none. elim (at_cases n (Some handed.piece) (Some g) history.log at') [
        | inl e ↦
            (let same : handed.piece ≡ g = cc in
            let here : n ≡ length history.log = e.0 in
            let old : at_place m history.log ≡ Some (Some f) = sym (at_old m (Some handed.piece) history.log (omega (arith, less, here))) ∙ at in
            closed_stays (Some handed.piece) history.log f
            (handed.ends m f old (ap (λ (h : Piece). h.start) same ∙ starts) (on ∙ ap (λ (h : Piece). h.message.stream) (sym same))
            (λ k h above there on'. none k h above (let below = at_below k (Some h) history.log there in omega (arith, below, here)) (at_stays k (Some handed.piece) (Some h) history.log there) (on' ∙ ap (λ (x : Piece). x.message.stream) same))))
        | inr old' ↦
            (let below : n < length history.log = at_below n (Some g) history.log old' in
            closed_stays (Some handed.piece) history.log f
            (cut.ends m n f g less (sym (at_old m (Some handed.piece) history.log (omega (arith, less, below))) ∙ at) old' on starts
            (λ k h above under there. none k h above under (at_stays k (Some handed.piece) (Some h) history.log there))))
      ];
    }

-- ---- items

pub changed_length : (change : Change) (start end : ℕ) (items : List Item) → length (changed_between change start end items) ≡ length items
changed_length change zero zero items = refl
changed_length change zero (suc end) [] = refl
changed_length change zero (suc end) (item ∷ items) = ap suc (changed_length change zero end items)
changed_length change (suc start) zero items = refl
changed_length change (suc start) (suc end) [] = refl
changed_length change (suc start) (suc end) (item ∷ items) = ap suc (changed_length change start end items)

-- the item at this place, which said the same and began after a reset or not; it may be one of those that changed
pub record WasThere (change : Change) (start end : ℕ) (items : List Item) (k : ℕ) (item : Item) : Type 0 where
  pub old : Item
  pub at : slice_get items k ≡ Some old
  pub fragment : old.fragment ≡ item.fragment
  pub begins : old.begins_after_reset ≡ item.begins_after_reset
  pub progress : (old.progress ≡ item.progress) ⊎ ((start ≤ k) × (k < end) × (progress_changed change old.progress ≡ item.progress))

was_same : (change : Change) (start end k : ℕ) (items : List Item) (item : Item) → slice_get items k ≡ Some item → WasThere change start end items k item
was_same change start end k items item at = record { old = item; at = at; fragment = refl; begins = refl; progress = inl refl }

pub changed_at : (change : Change) (start end k : ℕ) (items : List Item) (item : Item) → slice_get (changed_between change start end items) k ≡ Some item → WasThere change start end items k item
changed_at change zero zero k items item at = was_same change 0 0 k items item at
changed_at change zero (suc end) k [] item at = was_same change 0 (suc end) k [] item at
changed_at change zero (suc end) zero (i ∷ items) item at =
    let same : changed_item change i ≡ item = cc in
    record { old = i; at = refl; fragment = ap (λ (x : Item). x.fragment) same; begins = ap (λ (x : Item). x.begins_after_reset) same; progress = inr (omega arith, omega arith, ap (λ (x : Item). x.progress) same) }
changed_at change zero (suc end) (suc k) (i ∷ items) item at =
    let was = changed_at change zero end k items item at in
    record { old = was.old; at = was.at; fragment = was.fragment; begins = was.begins; progress = elim was.progress [ inl e ↦ inl e | inr e ↦ inr (omega arith, (let below = e.1 in omega (arith, below)), e.2) ] }
changed_at change (suc start) zero k items item at = was_same change (suc start) 0 k items item at
changed_at change (suc start) (suc end) k [] item at = was_same change (suc start) (suc end) k [] item at
changed_at change (suc start) (suc end) zero (i ∷ items) item at = was_same change (suc start) (suc end) 0 (i ∷ items) item at
changed_at change (suc start) (suc end) (suc k) (i ∷ items) item at =
    let was = changed_at change start end k items item at in
    record { old = was.old; at = was.at; fragment = was.fragment; begins = was.begins; progress = elim was.progress [ inl e ↦ inl e | inr e ↦ inr ((let from = e.0 in omega (arith, from)), (let below = e.1 in omega (arith, below)), e.2) ] }

-- the item at a place within a row
pub item_at : (place : ℕ) (items : List Item) → place < length items → (item : Item) × (slice_get items place ≡ Some item)
item_at place [] below = absurd (omega arith)
item_at zero (item ∷ items) below = (item, refl)
item_at (suc place) (i ∷ items) below = item_at place items (omega arith)

pub item_below : (items : List Item) (k : ℕ) (item : Item) → slice_get items k ≡ Some item → k < length items
item_below [] zero item at = absurd (cc)
item_below [] (suc k) item at = absurd (cc)
item_below (i ∷ items) zero item at = omega arith
item_below (i ∷ items) (suc k) item at = omega (arith, item_below items k item at)

-- What was abandoned still is, if the change keeps it so.
pub abandoned_still : (change : Change) (start end : ℕ) (items : List Item) (place : ℕ)
    → ((k : ℕ) (item : Item) → slice_get items k ≡ Some item → start ≤ k → k < end → is_abandoned item.progress.state ≡ true → is_abandoned (progress_changed change item.progress).state ≡ true)
    → IsAbandonedItem items place → IsAbandonedItem (changed_between change start end items) place
abandoned_still change start end items place keeps (item, at, is) =
    let (new, at') = item_at place (changed_between change start end items) (let below = item_below items place item at in omega (arith, below, changed_length change start end items)) in
    let was = changed_at change start end place items new at' in
    let both : Some was.old ≡ Some item = sym was.at ∙ at in
    let same : was.old ≡ item = cc in
    let is' : is_abandoned was.old.progress.state ≡ true = ap (λ (x : Item). is_abandoned x.progress.state) same ∙ is in (
      new,
      at',
      elim was.progress [
        | inl e ↦ ap (λ (p : Progress). is_abandoned p.state) (sym e) ∙ is'
        | inr e ↦ ap (λ (p : Progress). is_abandoned p.state) (sym e.2) ∙ keeps place was.old was.at e.0 e.1 is'
      ],
    )

-- Messages are whole after a change that keeps what was abandoned, if those that it abandons are.
pub whole_changed : (log : List Slot) (acknowledged : ℕ) (change : Change) (start end : ℕ) (items : List Item) → AreMessagesWhole log acknowledged items
    → ((k : ℕ) (item : Item) → slice_get items k ≡ Some item → start ≤ k → k < end → is_abandoned item.progress.state ≡ true → is_abandoned (progress_changed change item.progress).state ≡ true)
    → ((k : ℕ) (item : Item) → slice_get items k ≡ Some item → start ≤ k → k < end → is_abandoned (progress_changed change item.progress).state ≡ true → item.fragment.is_end ≡ false
    → IsAbandonedItem (changed_between change start end items) (k + 1) ⊎ (2 ^ 31 ≤ acknowledged + k + 2))
    → AreMessagesWhole log acknowledged (changed_between change start end items)
whole_changed log acknowledged change start end items w keeps newly =
    record {
      closed = λ k item at none. (let was = changed_at change start end k items item at in ap (λ (f : Fragment). f.is_end) (sym was.fragment) ∙ w.closed k was.old was.at none);
      joined = λ k item next at at' unended. (
          let was = changed_at change start end k items item at in
          let was' = changed_at change start end (k + 1) items next at' in
          ap (λ (f : Fragment). f.message_id) (sym was'.fragment) ∙ w.joined k was.old was'.old was.at was'.at (ap (λ (f : Fragment). f.is_end) was.fragment ∙ unended) ∙ ap (λ (f : Fragment). f.message_id) was.fragment
          );
      together = λ k item at is unended. (
          let was = changed_at change start end k items item at in
          let unended' : was.old.fragment.is_end ≡ false = ap (λ (f : Fragment). f.is_end) was.fragment ∙ unended in
          elim was.progress [
            | inl e ↦ elim (w.together k was.old was.at (ap (λ (p : Progress). is_abandoned p.state) e ∙ is) unended') [
              | inl next ↦ inl (abandoned_still change start end items (k + 1) keeps next)
              | inr none ↦ inr none
            ]
            | inr e ↦ newly k was.old was.at e.0 e.1 (ap (λ (p : Progress). is_abandoned p.state) e.2 ∙ is) unended'
          ]
          );
      begins = λ k item at is. (let was = changed_at change start end k items item at in w.begins k was.old was.at (was.begins ∙ is));
    }

-- Those that are abandoned by the change are of messages with limits.
pub bears_abandoned : (history : History) (first acknowledged : ℕ) (change : Change) (start end : ℕ) (outstanding : OutstandingState) → Bears history first acknowledged outstanding
    → ((k : ℕ) (item : Item) → slice_get outstanding.items k ≡ Some item → start ≤ k → k < end → is_abandoned (progress_changed change item.progress).state ≡ true → IsOfLimited history.log item.fragment)
    → (outstanding.is_interleaved ≡ false → history.marks ≡ [] → AreMessagesWhole history.log acknowledged (changed_between change start end outstanding.items))
    → Bears history first acknowledged (record outstanding { items = changed_between change start end outstanding.items })
bears_abandoned history first acknowledged change start end outstanding b limited whole =
    record {
      tsn = b.tsn;
      count = omega (arith, b.count, changed_length change start end outstanding.items);
      items = λ k item at. (
          let was = changed_at change start end k outstanding.items item at in
          subst (λ (part : Fragment). SaysTsn history.log (acknowledged + k) part) was.fragment (b.items k was.old was.at)
          );
      named = λ k item at. (
          let was = changed_at change start end k outstanding.items item at in
          subst (λ (part : Fragment). IsNamedFragment history (acknowledged + k) part) was.fragment (b.named k was.old was.at)
          );
      splits = λ mark has k item at is. (
          let was = changed_at change start end k outstanding.items item at in
          sym was.begins ∙ b.splits mark has k was.old was.at is
          );
      abandoned = λ k item at is. (
          let was = changed_at change start end k outstanding.items item at in
          subst (λ (part : Fragment). IsOfLimited history.log part) was.fragment
          (elim was.progress [
            | inl e ↦ b.abandoned k was.old was.at (ap (λ (p : Progress). is_abandoned p.state) e ∙ is)
            | inr e ↦ limited k was.old was.at e.0 e.1 (ap (λ (p : Progress). is_abandoned p.state) e.2 ∙ is)
          ])
          );
      whole = whole;
    }

-- a change that abandons none, and keeps what was abandoned
pub bears_changed : (history : History) (first acknowledged : ℕ) (change : Change) (start end : ℕ) (outstanding : OutstandingState) → Leaves change
    → ((k : ℕ) (item : Item) → slice_get outstanding.items k ≡ Some item → start ≤ k → k < end → is_abandoned item.progress.state ≡ true → is_abandoned (progress_changed change item.progress).state ≡ true)
    → Bears history first acknowledged outstanding → Bears history first acknowledged (record outstanding { items = changed_between change start end outstanding.items })
bears_changed history first acknowledged change start end outstanding leaves keeps b =
    bears_abandoned history first acknowledged change start end outstanding b (λ k item at from below is. b.abandoned k item at (leaves item.progress is))
    (λ kind none. (
    let w = b.whole kind none in
    whole_changed history.log acknowledged change start end outstanding.items w keeps
    (λ k item at from below is unended. elim (w.together k item at (leaves item.progress is) unended) [
      | inl next ↦ inl (abandoned_still change start end outstanding.items (k + 1) keeps next)
      | inr last ↦ inr last
    ])))

-- the item at a place once one was added
pub at_last : (items : List Item) (last : Item) (k : ℕ) (item : Item) → slice_get (items ++ last ∷ []) k ≡ Some item → (slice_get items k ≡ Some item) ⊎ ((k ≡ length items) × (last ≡ item))
at_last [] last zero item at = inr (refl, cc)
at_last [] last (suc k) item at = absurd (cc)
at_last (i ∷ items) last zero item at = inl at
at_last (i ∷ items) last (suc k) item at = elim (at_last items last k item at) [ inl e ↦ inl e | inr e ↦ inr (ap suc e.0, e.1) ]

pub named_stays : (slot : Slot) (history : History) (own : ℕ) (part : Fragment) → own < length history.log → IsNamedFragment history own part → IsNamedFragment (with_slot slot history) own part
named_stays slot history own part below n =
    record { number = n.number; piece = n.piece; at = at_stays n.number slot (Some n.piece) history.log n.at; of = n.of; whole = n.whole; stream = n.stream; unordered = n.unordered; mid = n.mid; ssn = n.ssn; up_to = n.up_to; tail = λ k f past up at. n.tail k f past up (sym (at_old k slot history.log (omega (arith, up, below))) ∙ at); limits = n.limits }

-- Messages are whole after one more item, which continues the message of the last one if that hasn't ended.
pub whole_grown : (log : List Slot) (acknowledged : ℕ) (slot : Slot) (item : Item) (items : List Item) → length log ≡ acknowledged + length items → AreMessagesWhole log acknowledged items
    → ((k : ℕ) (last : Item) → slice_get items k ≡ Some last → k + 1 ≡ length items → last.fragment.is_end ≡ false → item.fragment.message_id ≡ last.fragment.message_id)
    → (slot ≡ None → item.fragment.is_end ≡ true) → (is_abandoned item.progress.state ≡ true → item.fragment.is_end ≡ false → ⊥) → (item.begins_after_reset ≡ true → length log ≡ 0)
    → AreMessagesWhole (slot ∷ log) acknowledged (items ++ item ∷ [])
whole_grown log acknowledged slot item items count w continues closes kept begins =
    record {
      closed = λ k found at none. elim (at_last items item k found at) [
        | inl old ↦
            (let below = item_below items k found old in
            w.closed k found old (sym (at_old (acknowledged + k) slot log (omega (arith, below, count))) ∙ none))
        | inr e ↦
            (let both : Some slot ≡ Some None = sym (at_new slot log) ∙ ap (λ (n : ℕ). at_place n (slot ∷ log)) (sym (here k e.0)) ∙ none in
            let same : slot ≡ None = cc in
            ap (λ (x : Item). x.fragment.is_end) (sym e.1) ∙ closes same)
      ];
      joined = λ k found next at at' unended. elim (at_last items item k found at) [
        | inl old ↦ elim (at_last items item (k + 1) next at') [
          | inl old' ↦ w.joined k found next old old' unended
          | inr e ↦ ap (λ (x : Item). x.fragment.message_id) (sym e.1) ∙ continues k found old e.0 unended
        ]
        | inr e ↦ elim (at_last items item (k + 1) next at') [
          | inl old' ↦ absurd (let below = item_below items (k + 1) next old' in let past = e.0 in omega (arith, below, past))
          | inr e' ↦ absurd (let a = e.0 in let b = e'.0 in omega (arith, a, b))
        ]
      ];
      together = λ k found at is unended. elim (at_last items item k found at) [
        | inl old ↦ elim (w.together k found old is unended) [
          | inl next ↦ inl (next.0, at_front items item (k + 1) next.0 next.1, next.2)
          | inr last ↦ inr last
        ]
        | inr e ↦ absurd (kept (ap (λ (x : Item). is_abandoned x.progress.state) e.1 ∙ is) (ap (λ (x : Item). x.fragment.is_end) e.1 ∙ unended))
      ];
      begins = λ k found at is. elim (at_last items item k found at) [
        | inl old ↦ w.begins k found old is
        | inr e ↦ (let none = begins (ap (λ (x : Item). x.begins_after_reset) e.1 ∙ is) in let place = e.0 in omega (arith, none, place, count))
      ];
    }
  where
    here : (k : ℕ) → k ≡ length items → acknowledged + k ≡ length log
    here k last = omega (arith, count, last)

    at_front : (xs : List Item) (x : Item) (k : ℕ) (found : Item) → slice_get xs k ≡ Some found → slice_get (xs ++ x ∷ []) k ≡ Some found
    at_front [] x zero found at = absurd (cc)
    at_front [] x (suc k) found at = absurd (cc)
    at_front (i ∷ xs) x zero found at = at
    at_front (i ∷ xs) x (suc k) found at = at_front xs x k found at

-- The new item says whether a reset was begun before it.
pub bears_grown : (history : History) (first acknowledged : ℕ) (slot : Slot) (item : Item) (outstanding : OutstandingState) → Bears history first acknowledged outstanding → SaysSlot item.fragment slot
    → IsNamedFragment (with_slot slot history) (length history.log) item.fragment → (is_abandoned item.progress.state ≡ true → IsOfLimited (slot ∷ history.log) item.fragment) → Pends history item.begins_after_reset
    → (outstanding.is_interleaved ≡ false → history.marks ≡ [] → AreMessagesWhole (slot ∷ history.log) acknowledged (outstanding.items ++ item ∷ []))
    → Bears (with_slot slot history) first acknowledged (record outstanding { items = outstanding.items ++ item ∷ [] })
bears_grown history first acknowledged slot item outstanding b says named limited pends whole =
    record {
      tsn = b.tsn;
      count = omega (arith, b.count, length-append outstanding.items (item ∷ []));
      items = λ k found at. elim (at_last outstanding.items item k found at) [
        | inl old ↦ (let there = b.items k found old in record { slot = there.slot; at = at_stays (acknowledged + k) slot there.slot history.log there.at; says = there.says })
        | inr e ↦
            record {
              slot = slot;
              at = subst (λ (n : ℕ). at_place n (slot ∷ history.log) ≡ Some slot) (sym (here k e.0)) (at_new slot history.log);
              says = subst (λ (x : Item). SaysSlot x.fragment slot) e.1 says;
            }
      ];
      named = λ k found at. elim (at_last outstanding.items item k found at) [
        | inl old ↦ (let there = b.items k found old in named_stays slot history (acknowledged + k) found.fragment (at_below (acknowledged + k) there.slot history.log there.at) (b.named k found old))
        | inr e ↦
            subst (λ (n : ℕ). IsNamedFragment (with_slot slot history) n found.fragment) (sym (here k e.0))
            (subst (λ (x : Item). IsNamedFragment (with_slot slot history) (length history.log) x.fragment) e.1 named)
      ];
      abandoned = λ k found at is. elim (at_last outstanding.items item k found at) [
        | inl old ↦ limited_stays slot history.log found.fragment (b.abandoned k found old is)
        | inr e ↦ subst (λ (x : Item). IsOfLimited (slot ∷ history.log) x.fragment) e.1 (limited (ap (λ (x : Item). is_abandoned x.progress.state) e.1 ∙ is))
      ];
      splits = λ mark has k found at is. elim (at_last outstanding.items item k found at) [
        | inl old ↦ b.splits mark has k found old is
        | inr e ↦ sym (ap (λ (x : Item). x.begins_after_reset) e.1) ∙ pends.next mark has (sym is ∙ here k e.0)
      ];
      whole = whole;
    }
  where
    here : (k : ℕ) → k ≡ length outstanding.items → acknowledged + k ≡ length history.log
    here k last = omega (arith, b.count)

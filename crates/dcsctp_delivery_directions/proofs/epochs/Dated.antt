-- Messages that are dated: above 32 bits the protocol identifier of each says how many resets of its stream were performed that
-- were asked for after it was queued. A log of such messages is one as before.
use Rattle.std.proofs.Common.{◌≡◌, ℕ, suc, Bool, ◌<◌, ◌+◌, ◌*◌, ◌^◌, List, [], ◌∷◌, ◌++◌, length, nat_lt, refl, sym, ◌∙◌, ap, arith, subst, inl, inr}
use Rattle.std.specs.Prelude.{None, Some, if◌then◌else◌}
use Rattle.dcsctp_spec.specs.types.queues.Messages.{MessageContent}
use Rattle.dcsctp_delivery_directions.specs.sending.Places.{at_place}
use Rattle.dcsctp_delivery_directions.specs.sending.Log.{Message, Piece, Slot, History, IsPiece, HasEarlier, HasBefore, IsEndOrClosed, IsLogOfPieces}
use Rattle.dcsctp_delivery_directions.specs.sending.Numbers.{AreOfKind}
use Rattle.dcsctp_delivery_directions.specs.order.Queue.{Cut}
use Rattle.dcsctp_delivery_directions.proofs.sending.Places.{at_cases, at_new, at_stays}

-- ---- how often a stream was reset since

abbrev pub count_of : (Cut → Bool) → List Cut → ℕ
count_of tells [] = 0
count_of tells (cut ∷ cuts) = if tells cut then suc (count_of tells cuts) else count_of tells cuts

-- how many of these resets were asked for after a message of this place was queued
abbrev pub age_of_place : List Cut → ℕ → ℕ
age_of_place cuts place = count_of (λ cut. nat_lt place cut.place) cuts

-- how many were performed after the message of this index was ready
abbrev pub age_of_index : List Cut → ℕ → ℕ
age_of_index cuts index = count_of (λ cut. nat_lt index cut.index) cuts

abbrev pub dated : ℕ → ℕ → ℕ
dated ppid age = ppid + 2 ^ 32 * age

-- ---- what is dated

module _ (cuts : ℕ → List Cut) where
  abbrev pub dated_message : ℕ → Message → Message
  dated_message place message = record message { ppid = dated message.ppid (age_of_place (cuts message.stream) place) }

  abbrev pub dated_queued : List Message → List Message
  dated_queued [] = []
  dated_queued (message ∷ earlier) = dated_message (length earlier) message ∷ dated_queued earlier

  abbrev pub dated_piece : Piece → Piece
  dated_piece piece = record piece { message = dated_message piece.place piece.message }

  abbrev pub dated_slot : Slot → Slot
  dated_slot None = None
  dated_slot (Some piece) = Some (dated_piece piece)

  abbrev pub dated_log : List Slot → List Slot
  dated_log [] = []
  dated_log (slot ∷ earlier) = dated_slot slot ∷ dated_log earlier

  abbrev pub dated_history : History → History
  dated_history history = record history { log = dated_log history.log }

  abbrev pub dated_content : ℕ → MessageContent → MessageContent
  dated_content index content = record content { ppid = dated content.ppid (age_of_index (cuts content.stream) index) }

  abbrev pub dated_contents : ℕ → List MessageContent → List MessageContent
  dated_contents index [] = []
  dated_contents index (content ∷ contents) = dated_content index content ∷ dated_contents (suc index) contents

  -- ---- places

  pub queued_length : (queued : List Message) → length (dated_queued queued) ≡ length queued
  queued_length [] = refl
  queued_length (m ∷ queued) = ap suc (queued_length queued)

  pub log_length : (log : List Slot) → length (dated_log log) ≡ length log
  log_length [] = refl
  log_length (slot ∷ log) = ap suc (log_length log)

  pub log_append : (more log : List Slot) → dated_log (more ++ log) ≡ dated_log more ++ dated_log log
  log_append [] log = refl
  log_append (slot ∷ more) log = ap (λ (l : List Slot). dated_slot slot ∷ l) (log_append more log)

  pub queued_to : (n : ℕ) (m : Message) (queued : List Message) → at_place n queued ≡ Some m → at_place n (dated_queued queued) ≡ Some (dated_message n m)
  queued_to n m [] at = absurd (cc)
  queued_to n m (x ∷ queued) at =
      elim (at_cases n x m queued at) [
        | inl e ↦
            ap (λ (k : ℕ). at_place k (dated_message (length queued) x ∷ dated_queued queued)) (e.0 ∙ sym (queued_length queued)) ∙ at_new (dated_message (length queued) x) (dated_queued queued)
            ∙ ap (λ (k : ℕ). Some (dated_message k x)) (sym e.0) ∙ ap (λ (y : Message). Some (dated_message n y)) e.1
        | inr before ↦ at_stays n (dated_message (length queued) x) (dated_message n m) (dated_queued queued) (queued_to n m queued before)
      ]

  -- what a dated message is of
  pub record IsDatedMessage (n : ℕ) (message : Message) (queued : List Message) : Type 0 where
    pub plain : Message
    pub at : at_place n queued ≡ Some plain
    pub is : message ≡ dated_message n plain

  pub queued_from : (n : ℕ) (m : Message) (queued : List Message) → at_place n (dated_queued queued) ≡ Some m → IsDatedMessage n m queued
  queued_from n m [] at = absurd (cc)
  queued_from n m (x ∷ queued) at =
      elim (at_cases n (dated_message (length queued) x) m (dated_queued queued) at) [
        | inl e ↦
            (let place : n ≡ length queued = e.0 ∙ queued_length queued in
            record { plain = x; at = ap (λ (k : ℕ). at_place k (x ∷ queued)) place ∙ at_new x queued; is = sym e.1 ∙ ap (λ (k : ℕ). dated_message k x) (sym place) })
        | inr before ↦ (let d = queued_from n m queued before in record { plain = d.plain; at = at_stays n x d.plain queued d.at; is = d.is })
      ]

  pub log_to : (n : ℕ) (slot : Slot) (log : List Slot) → at_place n log ≡ Some slot → at_place n (dated_log log) ≡ Some (dated_slot slot)
  log_to n slot [] at = absurd (cc)
  log_to n slot (x ∷ log) at =
      elim (at_cases n x slot log at) [
        | inl e ↦ ap (λ (k : ℕ). at_place k (dated_slot x ∷ dated_log log)) (e.0 ∙ sym (log_length log)) ∙ at_new (dated_slot x) (dated_log log) ∙ ap (λ (y : Slot). Some (dated_slot y)) e.1
        | inr before ↦ at_stays n (dated_slot x) (dated_slot slot) (dated_log log) (log_to n slot log before)
      ]

  pub record IsDatedSlot (n : ℕ) (slot : Slot) (log : List Slot) : Type 0 where
    pub plain : Slot
    pub at : at_place n log ≡ Some plain
    pub is : slot ≡ dated_slot plain

  slot_from : (n : ℕ) (slot : Slot) (log : List Slot) → at_place n (dated_log log) ≡ Some slot → IsDatedSlot n slot log
  slot_from n slot [] at = absurd (cc)
  slot_from n slot (x ∷ log) at =
      elim (at_cases n (dated_slot x) slot (dated_log log) at) [
        | inl e ↦ record { plain = x; at = ap (λ (k : ℕ). at_place k (x ∷ log)) (e.0 ∙ log_length log) ∙ at_new x log; is = sym e.1 }
        | inr before ↦ (let d = slot_from n slot log before in record { plain = d.plain; at = at_stays n x d.plain log d.at; is = d.is })
      ]

  pub record IsDatedPiece (n : ℕ) (piece : Piece) (log : List Slot) : Type 0 where
    pub plain : Piece
    pub at : at_place n log ≡ Some (Some plain)
    pub is : piece ≡ dated_piece plain

  pub log_from : (n : ℕ) (f : Piece) (log : List Slot) → at_place n (dated_log log) ≡ Some (Some f) → IsDatedPiece n f log
  log_from n f log at = (let d = slot_from n (Some f) log at in go d.plain d.at d.is)
    where
      go : (slot : Slot) → at_place n log ≡ Some slot → ◌≡◌ {A = Slot} (Some f) (dated_slot slot) → IsDatedPiece n f log
      go None at' is = absurd (cc)
      go (Some g) at' is = record { plain = g; at = at'; is = cc }

  pub none_from : (n : ℕ) (log : List Slot) → at_place n (dated_log log) ≡ Some None → at_place n log ≡ Some None
  none_from n log at = (let d = slot_from n None log at in go d.plain d.at d.is)
    where
      go : (slot : Slot) → at_place n log ≡ Some slot → ◌≡◌ {A = Slot} None (dated_slot slot) → at_place n log ≡ Some None
      go None at' is = at'
      go (Some g) at' is = absurd (cc)

  -- ---- the log

  pub kinds_dated : (kind : Bool) (log : List Slot) → AreOfKind kind log → AreOfKind kind (dated_log log)
  kinds_dated kind log kinds n f at = (let d = log_from n f log at in ap (λ (x : Piece). x.is_interleaved) d.is ∙ kinds n d.plain d.at)

  module _ (queued : List Message) (log : List Slot) (cut : IsLogOfPieces queued log) where
    piece_dated : (n : ℕ) (f : Piece) → at_place n log ≡ Some (Some f) → IsPiece (dated_queued queued) (dated_piece f)
    piece_dated n f at = (let p = cut.pieces n f at in record { at = queued_to f.place f.message queued p.at; fresh = p.fresh; some = p.some; within = p.within; first = p.first })

    earlier_of : (n : ℕ) (f : Piece) → HasEarlier (dated_log log) n (dated_piece f) → HasEarlier log n f
    earlier_of n f e =
        elim e [
          | inl first ↦ inl first
          | inr after ↦
              (let d = log_from after.earlier after.piece log after.at in
              inr (record { earlier = after.earlier; piece = d.plain; is = after.is; at = d.at; on = ap (λ (x : Piece). x.message.stream) (sym d.is) ∙ after.on }))
        ]

    before_dated : (n : ℕ) (f : Piece) → HasBefore log n f → HasBefore (dated_log log) n (dated_piece f)
    before_dated n f b =
        record {
          earlier = b.earlier;
          is = b.is;
          near = b.near;
          apart = λ k g low high at on. (let d = log_from k g log at in b.apart k d.plain low high d.at (ap (λ (x : Piece). x.message.stream) (sym d.is) ∙ on));
          before = dated_piece b.before;
          at = log_to b.earlier (Some b.before) log b.at;
          start = b.start;
          place = b.place;
          message = ap (λ (k : ℕ). dated_message k b.before.message) b.place ∙ ap (dated_message f.place) b.message;
          mid = b.mid;
          fsn = b.fsn;
        }

    ended_dated : (f : Piece) → IsEndOrClosed log f → IsEndOrClosed (dated_log log) (dated_piece f)
    ended_dated f e =
        elim e [
          | inl ends ↦ inl ends
          | inr c ↦ inr (record { offset = c.offset; at = log_to c.offset (Some f) log c.at; end = log_to (c.offset + 1) None log c.end; limited = c.limited })
        ]

    pub cut_dated : IsLogOfPieces (dated_queued queued) (dated_log log)
    cut_dated =
        record {
          pieces = λ n f at. (let d = log_from n f log at in subst (IsPiece (dated_queued queued)) (sym d.is) (piece_dated n d.plain d.at));
          rows = λ n f at. (
              let d = log_from n f log at in
              subst (λ (x : Piece). 0 < x.start → HasEarlier (dated_log log) n x → HasBefore (dated_log log) n x) (sym d.is) (λ some e. before_dated n d.plain (cut.rows n d.plain d.at some (earlier_of n d.plain e)))
              );
          ascends = λ m n f g less at at' started same. (
              let d = log_from m f log at in
              let d' = log_from n g log at' in
              let places : f.place ≡ d.plain.place = ap (λ (x : Piece). x.place) d.is in
              let places' : g.place ≡ d'.plain.place = ap (λ (x : Piece). x.place) d'.is in
              let up = cut.ascends m n d.plain d'.plain less d.at d'.at (ap (λ (x : Piece). x.start) (sym d'.is) ∙ started)
              (ap (λ (x : Piece). x.message.stream) (sym d.is) ∙ same ∙ ap (λ (x : Piece). x.message.stream) d'.is) in
              omega (arith, up, places, places')
              );
          climbs = λ m n f g less at at' started kind same ordered. (
              let d = log_from m f log at in
              let d' = log_from n g log at' in
              let mids : f.mid ≡ d.plain.mid = ap (λ (x : Piece). x.mid) d.is in
              let mids' : g.mid ≡ d'.plain.mid = ap (λ (x : Piece). x.mid) d'.is in
              let up = cut.climbs m n d.plain d'.plain less d.at d'.at (ap (λ (x : Piece). x.start) (sym d'.is) ∙ started) (ap (λ (x : Piece). x.is_interleaved) (sym d'.is) ∙ kind)
              (ap (λ (x : Piece). x.message.stream) (sym d.is) ∙ same ∙ ap (λ (x : Piece). x.message.stream) d'.is)
              (ap (λ (x : Piece). x.message.is_unordered) (sym d.is) ∙ ordered ∙ ap (λ (x : Piece). x.message.is_unordered) d'.is) in
              omega (arith, up, mids, mids')
              );
          shuts = λ n f at none. (let d = log_from n f log at in ap (λ (x : Piece). x.message.is_limited) d.is ∙ cut.shuts n d.plain d.at (none_from (n + 1) log none));
          ends = λ m n f g less at at' same started apart. (
              let d = log_from m f log at in
              let d' = log_from n g log at' in
              subst (IsEndOrClosed (dated_log log)) (sym d.is)
              (ended_dated d.plain
              (cut.ends m n d.plain d'.plain less d.at d'.at (ap (λ (x : Piece). x.message.stream) (sym d.is) ∙ same ∙ ap (λ (x : Piece). x.message.stream) d'.is) (ap (λ (x : Piece). x.start) (sym d'.is) ∙ started)
              (λ k h low high here on. apart k (dated_piece h) low high (log_to k (Some h) log here) (on ∙ ap (λ (x : Piece). x.message.stream) (sym d'.is)))))
              );
        }

-- With interleaving all that was sent on a stream is read, once all TSNs before its reset were received, if none of its messages has
-- limits.
use Rattle.std.proofs.Common.{◌≡◌, ◌≢◌, ℕ, zero, suc, Bool, true, false, ◌<◌, ◌≤◌, ◌+◌, ◌-◌, ◌^◌, List, [], ◌∷◌, length, refl, sym, ◌∙◌, ap, arith, subst, inl, inr}
use Rattle.std.specs.Prelude.{◌⊎◌, None, Some}
use Rattle.std.proofs.lemmas.Bool.Decides.{eqb_tells, leb_tells}
use Rattle.dcsctp_spec_lemmas.specs.spec.queues.IncomingStreams.{StreamModel}
use Rattle.dcsctp_spec_lemmas.specs.spec.queues.Reassembly.{WaitingModel}
use Rattle.dcsctp_delivery_directions.specs.sending.Places.{HasEntry, at_place}
use Rattle.dcsctp_delivery_directions.specs.sending.Log.{Message, Piece, Slot, History, IsLogOfPieces, newest_on, is_end, IsEndOrClosed}
use Rattle.dcsctp_delivery_directions.specs.sending.Numbers.{IsUnambiguous, IsBegunUnder, IsCurrent}
use Rattle.dcsctp_delivery_directions.proofs.sending.Newest.{newest_from}
use Rattle.dcsctp_delivery_directions.proofs.sending.Places.{at_below, at_some, decide}
use Rattle.dcsctp_delivery_directions.specs.receiving.Clear.{NoneWaits}
use Rattle.dcsctp_delivery_directions.specs.receiving.Received.{DefersData}
use Rattle.dcsctp_delivery_directions.specs.receiving.Ready.{IsOn}
use Rattle.dcsctp_delivery_directions.specs.receiving.Rows.{AreRows}
use Rattle.dcsctp_delivery_directions.specs.sending.Naming.{IsOfPiece, carries, closes}
use Rattle.dcsctp_delivery_directions.specs.order.Parts.{HoldsParts}
use Rattle.dcsctp_delivery_directions.specs.order.Reading.{CountsFromZero, IsSince, OrderedStream, Watch}
use Rattle.dcsctp_delivery_directions.proofs.order.PlainMissing.{none_below}
use Rattle.dcsctp_delivery_directions.proofs.order.WholeParts.{not_all_handled}
use Rattle.dcsctp_delivery_directions.proofs.sending.OneMessage.{one_message, one_mid, mids_ascend}

-- ---- a message ends

-- The last piece of the message was sent.
pub record HasEnd (log : List Slot) (place : ℕ) : Type 0 where
  pub offset : ℕ
  pub piece : Piece
  pub at : at_place offset log ≡ Some (Some piece)
  pub is : piece.place ≡ place
  pub ends : is_end piece ≡ true

-- It was abandoned after this piece.
pub record HasClose (log : List Slot) (place : ℕ) : Type 0 where
  pub offset : ℕ
  pub piece : Piece
  pub at : at_place offset log ≡ Some (Some piece)
  pub is : piece.place ≡ place
  pub end : at_place (offset + 1) log ≡ Some None
  pub limited : piece.message.is_limited ≡ true

abbrev pub HasEndOrClose : List Slot → ℕ → Type 0
HasEndOrClose log place = HasEnd log place ⊎ HasClose log place

-- `rest` says that the message of this place isn't under way.
module _ (queued : List Message) (log : List Slot) (cut : IsLogOfPieces queued log) (id place : ℕ) (rest : (f : Piece) → newest_on id log ≡ Some f → f.place ≡ place → IsEndOrClosed log f) where
  told : (n : ℕ) (f : Piece) → at_place n log ≡ Some (Some f) → f.place ≡ place → IsEndOrClosed log f → HasEndOrClose log place
  told n f at its (inl ends) = inl (record { offset = n; piece = f; at = at; is = its; ends = ends })
  told n f at its (inr c) = inr (record { offset = c.offset; piece = f; at = c.at; is = its; end = c.end; limited = c.limited })

  -- no piece of the stream lies between
  abbrev NoneBetween : ℕ → ℕ → Type 0
  NoneBetween n j = (i : ℕ) (g : Piece) → n < i → i < j → at_place i log ≡ Some (Some g) → g.message.stream ≡ id → ⊥

  with_other : (n j : ℕ) → ((g : Piece) → at_place j log ≡ Some (Some g) → g.message.stream ≡ id → ⊥) → NoneBetween n j → NoneBetween n (j + 1)
  with_other n j other none i g above below at on =
      elim (eqb_tells i j) [
        | inl e ↦ other g (ap (λ (k : ℕ). at_place k log) (sym e.1) ∙ at) on
        | inr e ↦ (let differs : i ≢ j = e.1 in none i g above (omega (arith, below, differs)) at on)
      ]

  newest_ends : (n j : ℕ) (f : Piece) → at_place n log ≡ Some (Some f) → f.message.stream ≡ id → f.place ≡ place → length log ≤ j → NoneBetween n j → HasEndOrClose log place
  newest_ends n j f at on its all none =
      told n f at its (rest f (newest_from id log n f at on (λ i g above at' on'. none i g above (let below = at_below i (Some g) log at' in omega (arith, below, all)) at' on')) its)

  ends_from : (k j n : ℕ) (f : Piece) → at_place n log ≡ Some (Some f) → f.message.stream ≡ id → f.place ≡ place → n < j → length log ≤ j + k → NoneBetween n j → HasEndOrClose log place
  ends_from zero j n f at on its less all none = newest_ends n j f at on its (omega (arith, all)) none
  ends_from (suc k) j n f at on its less all none =
      elim (leb_tells (length log) j) [
        | inl e ↦ newest_ends n j f at on its e.1 none
        | inr e ↦ (let (slot, there) = at_some j log e.1 in go (λ j' n' f' at' on' its' less' all' none'. ends_from k j' n' f' at' on' its' less' all' none') slot there)
      ]
    where
      Again : Type 0
      Again = (j n : ℕ) (f : Piece) → at_place n log ≡ Some (Some f) → f.message.stream ≡ id → f.place ≡ place → n < j → length log ≤ j + k → NoneBetween n j → HasEndOrClose log place

      go : Again → (slot : Slot) → at_place j log ≡ Some slot → HasEndOrClose log place
      go again None there =
          again (j + 1) n f at on its (omega (arith, less)) (omega (arith, all)) (with_other n j (λ g at' on'. (let clash : Some None ≡ Some (Some g) = sym there ∙ at' in cc)) none)
      go again (Some g) there =
          elim (decide g.message.stream id) [
            | inr ne ↦
                again (j + 1) n f at on its (omega (arith, less)) (omega (arith, all))
                (with_other n j (λ h at' on'. (let two : Some (Some g) ≡ Some (Some h) = sym there ∙ at' in let one : g ≡ h = cc in ne (ap (λ (x : Piece). x.message.stream) one ∙ on'))) none)
            | inl on' ↦ elim (eqb_tells g.start 0) [
              | inl start ↦ told n f at its (cut.ends n j f g less at there (on ∙ sym on') start.1 (λ i h above below at' same. none i h above below at' (same ∙ on')))
              | inr ne ↦
                  (let inside : g.start ≢ 0 = ne.1 in
                  let b = cut.rows j g there (omega (arith, inside)) (inr (record { earlier = n; piece = f; is = less; at = at; on = on ∙ sym on' })) in
                  let stream_is : b.before.message.stream ≡ id = ap (λ (m : Message). m.stream) b.message ∙ on' in
                  let before = b.is in
                  elim (eqb_tells b.earlier n) [
                    | inr differs ↦
                        (let other : b.earlier ≢ n = differs.1 in
                        elim (leb_tells n b.earlier) [
                          | inl low ↦ (let le : n ≤ b.earlier = low.1 in absurd (none b.earlier b.before (omega (arith, le, other)) before b.at stream_is))
                          | inr high ↦ absurd (b.apart n f high.1 less at (on ∙ sym on'))
                        ])
                    | inl here ↦
                        (let two : Some (Some b.before) ≡ Some (Some f) = sym b.at ∙ ap (λ (i : ℕ). at_place i log) here.1 ∙ at in
                        let one : b.before ≡ f = cc in
                        let same : g.place ≡ f.place = sym b.place ∙ ap (λ (x : Piece). x.place) one in
                        again (j + 1) j g there on' (same ∙ its) (omega arith) (omega (arith, all)) (λ i h above below. absurd (omega (arith, above, below))))
                  ])
            ]
          ]

  -- So the end of the message was sent, of which a piece was sent; or it was abandoned.
  pub message_closes : (n : ℕ) (f : Piece) → at_place n log ≡ Some (Some f) → f.message.stream ≡ id → f.place ≡ place → HasEndOrClose log place
  message_closes n f at on its = ends_from (length log) (n + 1) n f at on its (omega arith) (omega arith) (λ i h above below. absurd (omega (arith, above, below)))

  -- Its end was sent if it has no limits.
  pub message_ends : (n : ℕ) (f : Piece) → at_place n log ≡ Some (Some f) → f.message.stream ≡ id → f.message.is_limited ≡ false → f.place ≡ place → HasEnd log place
  message_ends n f at on free its =
      elim (message_closes n f at on its) [
        | inl end ↦ end
        | inr c ↦ absurd
            (let one = one_message queued log cut c.offset n c.piece f c.at at (c.is ∙ sym its) in
            let clash : true ≡ false = sym c.limited ∙ ap (λ (m : Message). m.is_limited) one ∙ free in
            cc)
      ]

-- ---- what waits for the end of a reset

-- is of other streams
pub not_later : (history : History) (first id : ℕ) (later : List ℕ) (waiting : List WaitingModel) → DefersData history first later waiting → NoneWaits id waiting → (k : ℕ) (f : Piece) → HasEntry k later → at_place k history.log ≡ Some (Some f) → f.message.stream ≡ id → ⊥
not_later history first id [] waiting defers none k f has at on = absurd has
not_later history first id (n ∷ later) [] defers none k f has at on = absurd defers
not_later history first id (n ∷ later) (one ∷ waiting) defers none k f has at on =
    elim has [
      | inl e ↦
          (let c = defers.0.carries in
          let two : Some (Some c.piece) ≡ Some (Some f) = sym c.at ∙ ap (λ (i : ℕ). at_place i history.log) (sym e) ∙ at in
          let same : c.piece ≡ f = cc in
          none.0 (c.stream ∙ ap (λ (x : Piece). x.message.stream) same ∙ on))
      | inr t ↦ not_later history first id later waiting defers.1 none.1 k f t at on
    ]

-- ---- all is read

-- `each` says that each TSN of the stream's ordered messages, up to the last piece of the stream, was handled, or is of a message
-- before the next one.
module _ (watch : Watch) (knows : watch.knows_all ≡ true) (queued : List Message) (history : History) (cut : IsLogOfPieces queued history.log) (told : IsUnambiguous history) (id : ℕ) (counts : CountsFromZero history id)
    (rest : (f : Piece) → newest_on id history.log ≡ Some f → IsEndOrClosed history.log f) (got : List ℕ) (base : ℕ → ℕ) (all waits : List ℕ) (stream : StreamModel)
    (rows : AreRows history.log got base (IsOn history id) stream.ordered) (o : OrderedStream watch queued history id all waits stream)
    (each : (n : ℕ) (f : Piece) → f.message.stream ≡ id → f.message.is_unordered ≡ false → IsCurrent history f → IsOfPiece history.log f n → (j : ℕ) (h : Piece) → at_place j history.log ≡ Some (Some h) → h.message.stream ≡ id → n ≤ j
    → (HasEntry n got × (at_place n history.log ≡ Some (Some f))) ⊎ (f.mid + 2 ^ 32 < history.floors id false + stream.next)) (parts : HoldsParts history got id stream) where
  low_floor : (n : ℕ) (f : Piece) → IsSince history id n f → history.floors id false ≤ f.mid
  low_floor n f is = subst (λ (k : ℕ). history.floors k false ≤ f.mid) is.stream (subst (λ (b : Bool). history.floors f.message.stream b ≤ f.mid) is.ordered is.current)

  current_of : (f : Piece) → f.message.stream ≡ id → f.message.is_unordered ≡ false → history.floors id false ≤ f.mid → IsCurrent history f
  current_of f on ordered from = subst (λ (k : ℕ). history.floors k f.message.is_unordered ≤ f.mid) (sym on) (subst (λ (b : Bool). history.floors id b ≤ f.mid) (sym ordered) from)

  since_of : (n : ℕ) (f : Piece) → at_place n history.log ≡ Some (Some f) → f.message.stream ≡ id → f.message.is_unordered ≡ false → history.floors id false ≤ f.mid → IsSince history id n f
  since_of n f at on ordered from = record { at = at; stream = on; ordered = ordered; current = current_of f on ordered from }

  -- Two pieces of one number are of one message: not one with limits, and one without.
  one_kind : (m n : ℕ) (f g : Piece) → at_place m history.log ≡ Some (Some f) → at_place n history.log ≡ Some (Some g) → f.message.stream ≡ id → g.message.stream ≡ id → f.message.is_unordered ≡ false → g.message.is_unordered ≡ false → f.mid ≡ g.mid
      → f.message.is_limited ≡ true → g.message.is_limited ≡ false → ⊥
  one_kind m n f g at at' on on' kind kind' same limited free =
      let place = counts.apart m n f g at at' (on ∙ sym on') (kind ∙ sym kind') same in
      let text = one_message queued history.log cut m n f g at at' place in
      let clash : true ≡ false = sym limited ∙ ap (λ (x : Message). x.is_limited) text ∙ free in
      absurd (cc)

  -- No message without limits has a number from the next one on.
  none_next : (n : ℕ) (f : Piece) → IsSince history id n f → f.message.is_limited ≡ false → history.floors id false + stream.next ≤ f.mid + 2 ^ 32 → ⊥
  none_next n f is free up =
      let reach = o.reach.from in
      let (b, before) = counts.dense n f is.at is.stream is.ordered (history.floors id false + stream.next - 2 ^ 32) (omega (arith, reach)) (omega (arith, up, reach)) in
      let under = b.under in
      let h_is = since_of b.offset b.piece b.at b.stream b.ordered (omega (arith, under, reach)) in
      elim (message_closes queued history.log cut id b.piece.place (λ g newest its. rest g newest) b.offset b.piece b.at b.stream refl) [
        | inl e ↦
            not_all_handled queued history cut told id counts b.offset b.piece h_is b.start e.offset e.piece e.at e.is e.ends got base stream rows parts stream.next (omega arith) (none_below (stream.next + 1) stream.next stream.waiting o.order.ahead (omega arith)) (omega (arith, under, reach))
            (λ k g at place. (
            let its = of_message k g at b place in
            elim (each k g its.0 its.1 (current_of g its.0 its.1 (let mid = its.2 in omega (arith, mid, under, reach))) (carries k at) k g at its.0 (omega arith)) [
              | inl t ↦ t.0
              | inr past ↦ absurd (let mid = its.2 in omega (arith, past, mid, under, reach))
            ]
            ))
        | inr c ↦
            (let its = of_message c.offset c.piece c.at b c.is in
            let mid = its.2 in
            let late : c.offset < n = elim (leb_tells n c.offset) [
              | inr e ↦ e.1
              | inl e ↦ absurd
                  (let high = mids_ascend queued history.log cut n c.offset f c.piece counts.kinds e.1 is.at c.at (is.stream ∙ sym its.0) (is.ordered ∙ sym its.1) in
                  one_kind c.offset n c.piece f c.at is.at its.0 is.stream its.1 is.ordered (omega (arith, high, mid, under, up, reach)) c.limited free)
            ] in
            let apart : c.offset + 1 ≢ n = λ same. (let two : Some None ≡ Some (Some f) = sym c.end ∙ ap (λ (k : ℕ). at_place k history.log) same ∙ is.at in absurd (cc)) in
            elim (each (c.offset + 1) c.piece its.0 its.1 (current_of c.piece its.0 its.1 (omega (arith, mid, under, reach))) (closes c.offset c.at c.end) n f is.at is.stream (omega (arith, late))) [
              | inl t ↦ (let two : Some None ≡ Some (Some c.piece) = sym c.end ∙ t.1 in absurd (cc))
              | inr past ↦ omega (arith, past, mid, under, reach)
            ])
      ]
    where
      -- what a piece of the message has
      of_message : (k : ℕ) (g : Piece) → at_place k history.log ≡ Some (Some g) → (b : IsBegunUnder history.log id (history.floors id false + stream.next - 2 ^ 32)) → g.place ≡ b.piece.place → (g.message.stream ≡ id) × (g.message.is_unordered ≡ false) × (g.mid ≡ b.piece.mid)
      of_message k g at b place =
          let text = one_message queued history.log cut k b.offset g b.piece at b.at place in
          (ap (λ (m : Message). m.stream) text ∙ b.stream, ap (λ (m : Message). m.is_unordered) text ∙ b.ordered, one_mid queued history.log cut k b.offset g b.piece at b.at place)

  pub all_sent_are_read : (n : ℕ) (f : Piece) → IsSince history id n f → f.message.is_limited ≡ false → HasEntry f.place all
  all_sent_are_read n f is free =
      let from = low_floor n f is in
      elim (leb_tells stream.next (f.mid + 2 ^ 32 - history.floors id false)) [
        | inl up ↦ absurd (let le : stream.next ≤ f.mid + 2 ^ 32 - history.floors id false = up.1 in none_next n f is free (omega (arith, le, from)))
        | inr down ↦
            elim (o.by_epoch.filled (f.mid + 2 ^ 32 - history.floors id false) (omega (arith, from)) down.1) [
              | inl found ↦
                  (let r = found.is in
                  let counted = r.counted in
                  let under = r.sent.under in
                  let same : r.sent.piece.mid ≡ f.mid = omega (arith, counted, under, from) in
                  let place : found.place ≡ f.place = sym r.sent.is ∙ counts.apart r.sent.offset n r.sent.piece f r.sent.at is.at (r.sent.stream ∙ sym is.stream) (r.sent.ordered ∙ sym is.ordered) same in
                  subst (λ (p : ℕ). HasEntry p all) place found.has)
              | inr l ↦ absurd (let only = l.only knows in one_kind l.offset n l.piece f l.at is.at l.stream is.stream l.ordered is.ordered (omega (arith, only, from)) l.limited free)
            ]
      ]

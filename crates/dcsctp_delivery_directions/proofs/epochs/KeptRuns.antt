-- With interleaving, what was queued between two resets of a stream is sent in turn: no message without limits is left out.
use Rattle.std.proofs.Common.{◌≡◌, ℕ, Bool, true, false, ◌<◌, ◌≤◌, ◌^◌, List, [], length, refl, sym, ◌∙◌, ap, arith, subst, inl, inr}
use Rattle.std.specs.Prelude.{Some, if◌then◌else◌}
use Rattle.std.proofs.lemmas.Bool.Decides.{leb_tells}
use Rattle.dcsctp_delivery_directions.specs.sending.Places.{at_place}
use Rattle.dcsctp_delivery_directions.specs.sending.Log.{Slot, History, new_history}
use Rattle.dcsctp_delivery_directions.specs.sending.Losing.{AllWaitOn}
use Rattle.dcsctp_delivery_directions.specs.sending.Numbers.{IsCurrent}
use Rattle.dcsctp_delivery_directions.specs.directions.Directions.{Beginning, Direction, DirectionStep}
use Rattle.dcsctp_delivery_directions.proofs.directions.Losing.{same_beginning}
use Rattle.dcsctp_delivery_directions.proofs.directions.Standing.{Stands}
use Rattle.dcsctp_delivery_directions.specs.order.Epochs.{SendsEpochsInTurn}
use Rattle.dcsctp_delivery_directions.specs.order.Order.{IsSentAs}
use Rattle.dcsctp_delivery_directions.proofs.order.PlainSteps.{same_kind}
use Rattle.dcsctp_delivery_directions.proofs.order.Sending.{IsSentOn, sent_before}
use Rattle.dcsctp_delivery_directions.specs.epochs.Sending.{EpochBounds, never_asked, is_open}
use Rattle.dcsctp_delivery_directions.specs.epochs.Cuts.{known_asks}
use Rattle.dcsctp_delivery_directions.specs.epochs.Directions.{asked_after}
use Rattle.dcsctp_delivery_directions.proofs.epochs.AskedBounds.{AreAsked, asked_on, EndsWereAsked, ends_asked_on}
use Rattle.dcsctp_delivery_directions.proofs.epochs.Named.{open_named}
use Rattle.dcsctp_delivery_directions.proofs.epochs.KeptEpochs.{KeepsEpoch}
use Rattle.dcsctp_delivery_directions.proofs.epochs.SendingRuns.{GoesByEpoch, goes_further, goes_stands}
use Rattle.dcsctp_delivery_directions.proofs.epochs.KeptSteps.{ArePast, stepped_keeps, stepped_past}
use Rattle.dcsctp_delivery_directions.proofs.epochs.SentBefore.{SendsBefore, stepped_sends}

-- ---- what holds throughout

-- Where the sender began with all that was queued before: what is known of the resets, and what is kept.
pub record KeepsEpochs (first : ℕ) (direction : Direction) (opened : ℕ → Bool) (asked : ℕ → EpochBounds) (s : Stands first direction) : Type 0 where
  pub were_asked : AreAsked direction.beginning asked
  pub ends_were : EndsWereAsked direction.beginning asked
  pub opens_all : direction.beginning.has_all ≡ true → (id : ℕ) → opened id ≡ true
  pub keeps_each : direction.queues.queue.is_interleaved ≡ true → direction.beginning.has_all ≡ true → (id : ℕ) → KeepsEpoch direction.queued s.history direction.queues.queue id (asked id)
  pub sent_each : direction.queues.queue.is_interleaved ≡ true → direction.beginning.has_all ≡ true → (id : ℕ) → SendsBefore direction.queued s.history.log (direction.beginning.empties id) id (asked id)
  pub past_each : direction.queues.queue.is_interleaved ≡ true → direction.beginning.has_all ≡ true → (id : ℕ) → ArePast s.history id (asked id)

pub keeps_new : (first : ℕ) (direction : Direction) (s : Stands first direction) (floors : ℕ → Bool → ℕ) → s.history ≡ new_history floors → (direction.beginning.has_all ≡ true → (id : ℕ) → AllWaitOn id direction.queued direction.queues.queue.streams)
    → KeepsEpochs first direction (λ id. is_open id direction.queues.queue.streams) (λ id. never_asked) s
keeps_new first direction s floors is all =
    let empty : s.history.log ≡ [] = ap (λ (h : History). h.log) is in
    record {
      were_asked = λ id place none. absurd (cc);
      ends_were = λ id. inl refl;
      opens_all = λ whole id. open_named id direction.queues.queue.streams (all whole id).unpaused;
      keeps_each = λ interleaved whole id place message at on free low. inl (inr ((all whole id).waits place message at on));
      sent_each = λ interleaved whole id count newest. absurd (cc);
      past_each = λ interleaved whole id n f at. absurd (let none : at_place n [] ≡ Some (Some f) = ap (λ (l : List Slot). at_place n l) (sym empty) ∙ at in cc);
    }

module _ (first : ℕ) (old : Direction) (small : first < 2 ^ 32) (opened : ℕ → Bool) (asked : ℕ → EpochBounds) (g : GoesByEpoch first old opened asked) (k : KeepsEpochs first old opened asked g.stands) where
  pub keeps_further : (direction : Direction) (few : length direction.queued < 2 ^ 64) (step : DirectionStep old direction)
      → KeepsEpochs first direction opened (asked_after old direction step asked) (goes_further first old small opened asked g direction few step).stands
  keeps_further direction few step =
      let same = same_beginning old direction step in
      let kind = same_kind old direction step in
      subst (λ (s : Stands first direction). KeepsEpochs first direction opened (asked_after old direction step asked) s) (sym (goes_stands first old small opened asked g direction few step))
      (record {
        were_asked = asked_on old direction step asked k.were_asked;
        ends_were = ends_asked_on old direction step asked k.were_asked k.ends_were;
        opens_all = λ whole. k.opens_all (sym (ap (λ (b : Beginning). b.has_all) same) ∙ whole);
        keeps_each = λ interleaved whole id. (
            let was : old.queues.queue.is_interleaved ≡ true = sym kind ∙ interleaved in
            stepped_keeps id first old small g.stands asked (g.by_epoch was id) (k.keeps_each was (sym (ap (λ (b : Beginning). b.has_all) same) ∙ whole) id) direction few step interleaved
            );
        sent_each = λ interleaved whole id. (
            let was : old.queues.queue.is_interleaved ≡ true = sym kind ∙ interleaved in
            let whole' : old.beginning.has_all ≡ true = sym (ap (λ (b : Beginning). b.has_all) same) ∙ whole in
            stepped_sends id first old small g.stands asked (g.by_epoch was id) (k.keeps_each was whole' id) (k.sent_each was whole' id) direction few step interleaved
            );
        past_each = λ interleaved whole id. (
            let was : old.queues.queue.is_interleaved ≡ true = sym kind ∙ interleaved in
            let whole' : old.beginning.has_all ≡ true = sym (ap (λ (b : Beginning). b.has_all) same) ∙ whole in
            stepped_past id first old small g.stands asked (k.past_each was whole' id) (g.known was id (k.opens_all whole' id)) (g.by_epoch was id) direction few step interleaved
            );
      })

  -- ---- in turn

  whole_in_turn : old.queues.queue.is_interleaved ≡ true → old.beginning.has_all ≡ true → (id : ℕ) → SendsEpochsInTurn (old.beginning.asks id) old.queued g.stands.history id
  whole_in_turn interleaved whole id earlier later mid on free sent from less one =
      let s : Stands first old = g.stands in
      let e = g.by_epoch interleaved id in
      let current : IsCurrent s.history sent.piece =
      subst (λ (j : ℕ). s.history.floors j sent.piece.message.is_unordered ≤ sent.piece.mid) (sym sent.stream)
      (subst (λ (b : Bool). s.history.floors id b ≤ sent.piece.mid) (sym sent.ordered) (let under = sent.under in omega (arith, from, under))) in
      let is = sent.is in
      let after : (asked id).ended ≤ later = (let its = e.from.sent sent.offset sent.piece sent.at sent.stream current in omega (arith, its, is)) in
      let early : (asked id).ended ≤ earlier = elim (leb_tells (asked id).ended earlier) [
        | inl low ↦ low.1
        | inr high ↦ elim (k.ends_were id) [
          | inl none ↦ absurd (let up : earlier < (asked id).ended = high.1 in omega (arith, up, none))
          | inr was ↦ absurd (let no : true ≡ false = sym was ∙ one (asked id).ended high.1 after in cc)
        ]
      ] in
      elim (k.keeps_each interleaved whole id earlier on.message on.at on.stream free early) [
        | inr d ↦ absurd (let halts = (d.halts.stops d.shut).sent sent.offset sent.piece sent.at sent.stream in omega (arith, halts, is, less))
        | inl kept ↦ sent_so early (sent_before old.queued s.history.log old.queues.queue s.queues.cut s.queues.queue_holds id earlier sent.offset kept sent.piece on sent.at sent.stream (omega (arith, is, less)))
      ]
    where
      sent_so : (asked id).ended ≤ earlier → IsSentOn g.stands.history.log id earlier → (m : ℕ) × IsSentAs g.stands.history id earlier m × (g.stands.history.floors id false ≤ m)
      sent_so early was =
          elim (leb_tells (g.stands.history.floors was.piece.message.stream was.piece.message.is_unordered) was.piece.mid) [
            | inr high ↦ absurd (let past = k.past_each interleaved whole id was.offset was.piece was.at was.stream high.1 in let place = was.is in omega (arith, past, place, early))
            | inl low ↦ (
              was.piece.mid,
              record { offset = was.offset; piece = was.piece; at = was.at; is = was.is; stream = was.stream; ordered = was.ordered; under = refl },
              subst (λ (j : ℕ). g.stands.history.floors j false ≤ was.piece.mid) was.stream (subst (λ (b : Bool). g.stands.history.floors was.piece.message.stream b ≤ was.piece.mid) was.ordered low.1),
            )
          ]

  pub goes_in_turn : old.queues.queue.is_interleaved ≡ true → (id : ℕ) → SendsEpochsInTurn (known_asks old.beginning id) old.queued g.stands.history id
  goes_in_turn interleaved id = go old.beginning.has_all refl
    where
      go : (b : Bool) → old.beginning.has_all ≡ b → SendsEpochsInTurn (λ (count : ℕ). if b then old.beginning.asks id count else true) old.queued g.stands.history id
      go true whole = whole_in_turn interleaved whole id
      go false partly = λ earlier later mid on free sent from less one. absurd (let no : true ≡ false = one later less (omega arith) in cc)

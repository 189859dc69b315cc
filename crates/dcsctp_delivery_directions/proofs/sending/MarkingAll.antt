-- All that no longer waits is marked as spent.
use Rattle.std.proofs.Common.{◌≡◌, ◌==◌, ℕ, zero, suc, Bool, true, false, ◌<◌, List, [], ◌∷◌, length, refl, sym, ◌∙◌, ap, arith, subst, inl, inr}
use Rattle.std.specs.Prelude.{Some, if◌then◌else◌}
use Rattle.std.specs.List.{AllByRecursion}
use Rattle.std.proofs.lemmas.Bool.Decides.{eqb_tells}
use Rattle.dcsctp_spec.specs.types.queues.SendStreams.{Waiting, Stream, stream_at}
use Rattle.dcsctp_spec.specs.queues.SendQueue.{SendQueueState}
use Rattle.dcsctp_delivery_directions.specs.sending.Places.{at_place}
use Rattle.dcsctp_delivery_directions.specs.sending.Log.{Message, Fits}
use Rattle.dcsctp_delivery_directions.specs.sending.Weights.{total}
use Rattle.dcsctp_delivery_directions.specs.sending.Queueing.{QueueWaits}
use Rattle.dcsctp_delivery_directions.specs.sending.Marking.{NoneNamed, WaitsNoLonger, message_marked_spent, is_place_waiting, is_waiting_on_streams, all_marked, IsMarkOf, FindsMarked, AreMarked, IsMarked}
use Rattle.dcsctp_delivery_directions.proofs.sending.Places.{decide, at_new, at_cases, at_stays}
use Rattle.dcsctp_delivery_directions.proofs.sending.Marking.{marked_length, marked_total, marked_spent, marking_hold, marking_fits}

-- ---- what waits

none_named : (place : ℕ) (messages : List Waiting) → is_place_waiting place messages ≡ false → NoneNamed place messages
none_named place [] none = tt
none_named place (w ∷ messages) none = go (w.message_id == place) refl (λ rest. none_named place messages rest) none
  where
    go : (b : Bool) → (w.message_id == place) ≡ b → (is_place_waiting place messages ≡ false → NoneNamed place messages) → (if b then true else is_place_waiting place messages) ≡ false → NoneNamed place (w ∷ messages)
    go true e more none = absurd (cc)
    go false e more none = (
      (λ is. elim (eqb_tells w.message_id place) [ inl t ↦ (let clash : true ≡ false = sym t.0 ∙ e in absurd (cc)) | inr t ↦ t.1 is ]),
      more none,
    )

named_none : (place : ℕ) (messages : List Waiting) → NoneNamed place messages → is_place_waiting place messages ≡ false
named_none place [] none = refl
named_none place (w ∷ messages) none =
    elim (eqb_tells w.message_id place) [
      | inl t ↦ absurd (none.0 t.1)
      | inr t ↦ ap (λ (b : Bool). if b then true else is_place_waiting place messages) t.0 ∙ named_none place messages none.1
    ]

waits_none : (place : ℕ) (streams : List Stream) → is_waiting_on_streams place streams ≡ false → WaitsNoLonger place streams
waits_none place [] none zero = tt
waits_none place [] none (suc q) = tt
waits_none place (s ∷ streams) none q = go (is_place_waiting place s.messages) refl (λ rest. waits_none place streams rest) none q
  where
    go : (b : Bool) → is_place_waiting place s.messages ≡ b → (is_waiting_on_streams place streams ≡ false → WaitsNoLonger place streams) → (if b then true else is_waiting_on_streams place streams) ≡ false → (q : ℕ)
        → NoneNamed place (stream_at (s ∷ streams) q).messages
    go true e more none q = absurd (cc)
    go false e more none zero = none_named place s.messages e
    go false e more none (suc q) = more none q

none_waits : (place : ℕ) (streams : List Stream) → WaitsNoLonger place streams → is_waiting_on_streams place streams ≡ false
none_waits place [] none = refl
none_waits place (s ∷ streams) none =
    ap (λ (b : Bool). if b then true else is_waiting_on_streams place streams) (named_none place s.messages (none 0)) ∙ none_waits place streams (λ q. none (suc q))

-- ---- one that is marked

pub is_own : (message : Message) → IsMarkOf message message
is_own message = record { stream = refl; ppid = refl; unordered = refl; payload = refl; limited = refl; kept = λ spent. spent }

here_found : (mark first : Message) (queued : List Message) (place : ℕ) → place ≡ length queued → IsMarkOf mark first → FindsMarked mark (first ∷ queued) place
here_found mark first queued place is like = record { message = first; at = subst (λ (n : ℕ). at_place n (first ∷ queued) ≡ Some first) (sym is) (at_new first queued); is = like }

later_found : (mark first : Message) (queued : List Message) (place : ℕ) → FindsMarked mark queued place → FindsMarked mark (first ∷ queued) place
later_found mark first queued place found = record { message = found.message; at = at_stays place first found.message queued found.at; is = found.is }

marked_found : (place k : ℕ) (queued : List Message) (mark : Message) → at_place k (message_marked_spent place queued) ≡ Some mark → FindsMarked mark queued k
marked_found place k [] mark at = absurd (cc)
marked_found place k (first ∷ queued) mark at = go (place == length queued) (marked_length place queued) (λ at'. marked_found place k queued mark at') at
  where
    go : (b : Bool) → length (message_marked_spent place queued) ≡ length queued → (at_place k (message_marked_spent place queued) ≡ Some mark → FindsMarked mark queued k)
        → at_place k (if b then record first { is_spent = true } ∷ queued else first ∷ message_marked_spent place queued) ≡ Some mark → FindsMarked mark (first ∷ queued) k
    go true long rest at =
        elim (at_cases k (record first { is_spent = true }) mark queued at) [
          | inl e ↦ here_found mark first queued k e.0 (subst (λ (m : Message). IsMarkOf m first) e.1 (record { stream = refl; ppid = refl; unordered = refl; payload = refl; limited = refl; kept = λ spent. refl }))
          | inr e ↦ later_found mark first queued k (record { message = mark; at = e; is = is_own mark })
        ]
    go false long rest at =
        elim (at_cases k first mark (message_marked_spent place queued) at) [
          | inl e ↦ here_found mark first queued k (e.0 ∙ long) (subst (λ (m : Message). IsMarkOf m first) e.1 (is_own first))
          | inr e ↦ later_found mark first queued k (rest e)
        ]

-- ---- all of them

pub mark_then : (one other message : Message) → IsMarkOf one other → IsMarkOf other message → IsMarkOf one message
mark_then one other message first second =
    record {
      stream = first.stream ∙ second.stream;
      ppid = first.ppid ∙ second.ppid;
      unordered = first.unordered ∙ second.unordered;
      payload = first.payload ∙ second.payload;
      limited = first.limited ∙ second.limited;
      kept = λ spent. first.kept (second.kept spent);
    }

pub all_are_marked : (count : ℕ) (streams : List Stream) (queued : List Message) → AreMarked (all_marked count streams queued) queued
all_are_marked zero streams queued = record { size = refl; finds = λ place mark at. record { message = mark; at = at; is = is_own mark } }
all_are_marked (suc count) streams queued = go (is_waiting_on_streams count streams) (all_are_marked count streams queued)
  where
    go : (b : Bool) → AreMarked (all_marked count streams queued) queued → AreMarked (if b then all_marked count streams queued else message_marked_spent count (all_marked count streams queued)) queued
    go true rest = rest
    go false rest =
        record {
          size = marked_length count (all_marked count streams queued) ∙ rest.size;
          finds = λ place mark at. (
              let one = marked_found count place (all_marked count streams queued) mark at in
              let two = rest.finds place one.message one.at in
              record { message = two.message; at = two.at; is = mark_then mark one.message two.message one.is two.is }
              );
        }

pub all_marked_keep : (count : ℕ) (queued : List Message) (queue : SendQueueState) → QueueWaits queued queue → QueueWaits (all_marked count queue.streams queued) queue
all_marked_keep zero queued queue holds = holds
all_marked_keep (suc count) queued queue holds = go (is_waiting_on_streams count queue.streams) refl (all_marked_keep count queued queue holds)
  where
    go : (b : Bool) → is_waiting_on_streams count queue.streams ≡ b → QueueWaits (all_marked count queue.streams queued) queue
        → QueueWaits (if b then all_marked count queue.streams queued else message_marked_spent count (all_marked count queue.streams queued)) queue
    go true e rest = rest
    go false e rest = marking_hold (all_marked count queue.streams queued) count queue (waits_none count queue.streams e) rest

pub all_marked_fit : (count : ℕ) (streams : List Stream) (queued : List Message) → AllByRecursion Fits queued → AllByRecursion Fits (all_marked count streams queued)
all_marked_fit zero streams queued fit = fit
all_marked_fit (suc count) streams queued fit = go (is_waiting_on_streams count streams) (all_marked_fit count streams queued fit)
  where
    go : (b : Bool) → AllByRecursion Fits (all_marked count streams queued) → AllByRecursion Fits (if b then all_marked count streams queued else message_marked_spent count (all_marked count streams queued))
    go true rest = rest
    go false rest = marking_fits count (all_marked count streams queued) rest

pub gone_are_marked : (count place : ℕ) (streams : List Stream) (queued : List Message) → place < count → WaitsNoLonger place streams → IsMarked place (all_marked count streams queued)
gone_are_marked zero place streams queued below gone = absurd (omega arith)
gone_are_marked (suc count) place streams queued below gone =
    elim (decide place count) [
      | inl e ↦ last (is_waiting_on_streams count streams) (subst (λ (n : ℕ). is_waiting_on_streams n streams ≡ false) e (none_waits place streams gone)) e
      | inr ne ↦ earlier (is_waiting_on_streams count streams) (gone_are_marked count place streams queued (omega (arith, below, ne)) gone)
    ]
  where
    last : (b : Bool) → b ≡ false → place ≡ count → IsMarked place (if b then all_marked count streams queued else message_marked_spent count (all_marked count streams queued))
    last true e is = absurd (cc)
    last false e is = subst (λ (n : ℕ). IsMarked n (message_marked_spent count (all_marked count streams queued))) (sym is) (λ message at. marked_spent count (all_marked count streams queued) message at)

    earlier : (b : Bool) → IsMarked place (all_marked count streams queued) → IsMarked place (if b then all_marked count streams queued else message_marked_spent count (all_marked count streams queued))
    earlier true rest = rest
    earlier false rest = λ message at. (let one = marked_found count place (all_marked count streams queued) message at in one.is.kept (rest one.message one.at))

pub all_marked_total : (count : ℕ) (streams : List Stream) (queued : List Message) → total (all_marked count streams queued) ≡ total queued
all_marked_total zero streams queued = refl
all_marked_total (suc count) streams queued = go (is_waiting_on_streams count streams) (all_marked_total count streams queued)
  where
    go : (b : Bool) → total (all_marked count streams queued) ≡ total queued → total (if b then all_marked count streams queued else message_marked_spent count (all_marked count streams queued)) ≡ total queued
    go true rest = rest
    go false rest = marked_total count (all_marked count streams queued) ∙ rest

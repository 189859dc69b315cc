-- Where no message has limits, each that waits is sent or waits on, while packets are filled.
use Rattle.std.proofs.Common.{◌≡◌, ℕ, zero, suc, ◌+◌, ◌-◌, List, [], ◌∷◌, ◌++◌, length, refl, sym, ◌∙◌, ap, subst, inl, inr}
use Rattle.std.specs.Prelude.{◌⊎◌, None, Some, slice_get}
use Rattle.dcsctp_spec.specs.types.declared.progress.Change.{Change}
use Rattle.dcsctp_spec.specs.types.declared.progress.Change.TheVariants.{SendAgain}
use Rattle.dcsctp_spec.specs.types.queues.SendStreams.{Waiting, Stream, stream_at}
use Rattle.dcsctp_spec.specs.queues.Abandoning.{GivesUpFirst, GivesUpAll}
use Rattle.dcsctp_spec.specs.queues.Filling.{Stage, SendsMarked, payload_room, SendsNew, FindsNone, StepAgain, StepNew, StageSteps, none, more, resent_packet_counted, FillsPacket}
use Rattle.dcsctp_spec.specs.queues.Items.{Item, changed_item, changed_between}
use Rattle.dcsctp_spec.specs.queues.Outstanding.{OutstandingState, header, next_tsn}
use Rattle.dcsctp_spec.specs.queues.SendQueue.{SendQueueState}
use Rattle.dcsctp_spec.specs.queues.Sending.{Fragment}
use Rattle.dcsctp_delivery_directions.specs.sending.Places.{HasEntry}
use Rattle.dcsctp_delivery_directions.specs.sending.Losing.{StillWaits, NoneExpires}
use Rattle.dcsctp_delivery_directions.proofs.sending.Filling.{counted_outstanding}
use Rattle.dcsctp_delivery_directions.proofs.sending.Limits.{never_due}
use Rattle.dcsctp_delivery_directions.proofs.sending.Stages.{changed_at, at_last}
use Rattle.dcsctp_delivery_directions.proofs.sending.WhatWaits.{front_has, no_drops, produced_waits, produced_waited}

-- Nothing that waits or is in flight has limits.
pub record AreFree (streams : List Stream) (items : List Item) : Type 0 where
  pub wait : (q : ℕ) (w : Waiting) → HasEntry w (stream_at streams q).messages → (w.expires_at ≡ None) × (w.max_retransmissions ≡ None)
  pub fly : (k : ℕ) (item : Item) → slice_get items k ≡ Some item → (item.fragment.expires_at ≡ None) × (item.fragment.max_retransmissions ≡ None)

-- A fragment of the message is in flight.
pub record IsInFlight (items : List Item) (place : ℕ) : Type 0 where
  pub k : ℕ
  pub item : Item
  pub at : slice_get items k ≡ Some item
  pub is : item.fragment.message_id ≡ place

-- The message waits, or a fragment of it is in flight.
abbrev pub IsHeld : List Stream → List Item → ℕ → Type 0
IsHeld streams items place = StillWaits streams place ⊎ IsInFlight items place

-- This holds then of each message of which it held before, and still nothing has limits.
pub record Keeps (old_streams : List Stream) (old_items : List Item) (new_streams : List Stream) (new_items : List Item) : Type 0 where
  pub free : AreFree new_streams new_items
  pub held : (place : ℕ) → IsHeld old_streams old_items place → IsHeld new_streams new_items place

pub keeps_same : (streams : List Stream) (items : List Item) → AreFree streams items → Keeps streams items streams items
keeps_same streams items free = record { free = free; held = λ place is. is }

pub keeps_then : (streams : List Stream) (items : List Item) (streams' : List Stream) (items' : List Item) (streams'' : List Stream) (items'' : List Item) → Keeps streams items streams' items' → Keeps streams' items' streams'' items''
    → Keeps streams items streams'' items''
keeps_then streams items streams' items' streams'' items'' one two = record { free = two.free; held = λ place is. two.held place (one.held place is) }

-- streams with the same messages
pub keeps_alike : (old new : List Stream) (items : List Item) → ((q : ℕ) → (stream_at new q).messages ≡ (stream_at old q).messages) → AreFree old items → Keeps old items new items
keeps_alike old new items same free =
    record {
      free = record { wait = λ q w has. free.wait q w (subst (λ (l : List Waiting). HasEntry w l) (same q) has); fly = free.fly };
      held = λ place is. elim is [
        | inl waits ↦ inl (record { q = waits.q; waiting = waits.waiting; has = subst (λ (l : List Waiting). HasEntry waits.waiting l) (sym (same waits.q)) waits.has; is = waits.is })
        | inr flies ↦ inr flies
      ];
    }

-- ---- items that change, or are more

-- the item of this place, which says the same
pub record SaysOn (items : List Item) (k : ℕ) (old : Item) : Type 0 where
  pub item : Item
  pub at : slice_get items k ≡ Some item
  pub fragment : item.fragment ≡ old.fragment

pub changed_on : (change : Change) (start end k : ℕ) (items : List Item) (item : Item) → slice_get items k ≡ Some item → SaysOn (changed_between change start end items) k item
changed_on change zero zero k items item at = record { item = item; at = at; fragment = refl }
changed_on change zero (suc end) k [] item at = record { item = item; at = at; fragment = refl }
changed_on change zero (suc end) zero (i ∷ items) item at = let same : i ≡ item = cc in record { item = changed_item change i; at = refl; fragment = ap (λ (x : Item). x.fragment) same }
changed_on change zero (suc end) (suc k) (i ∷ items) item at = let on = changed_on change zero end k items item at in record { item = on.item; at = on.at; fragment = on.fragment }
changed_on change (suc start) zero k items item at = record { item = item; at = at; fragment = refl }
changed_on change (suc start) (suc end) k [] item at = record { item = item; at = at; fragment = refl }
changed_on change (suc start) (suc end) zero (i ∷ items) item at = record { item = item; at = at; fragment = refl }
changed_on change (suc start) (suc end) (suc k) (i ∷ items) item at = let on = changed_on change start end k items item at in record { item = on.item; at = on.at; fragment = on.fragment }

pub keeps_changed : (change : Change) (start end : ℕ) (streams : List Stream) (items : List Item) → AreFree streams items → Keeps streams items streams (changed_between change start end items)
keeps_changed change start end streams items free =
    record {
      free = record {
        wait = free.wait;
        fly = λ k item at. (
            let was = changed_at change start end k items item at in
            subst (λ (f : Fragment). (f.expires_at ≡ None) × (f.max_retransmissions ≡ None)) was.fragment (free.fly k was.old was.at)
            );
      };
      held = λ place is. elim is [
        | inl waits ↦ inl waits
        | inr flies ↦
            (let on = changed_on change start end flies.k items flies.item flies.at in
            inr (record { k = flies.k; item = on.item; at = on.at; is = ap (λ (f : Fragment). f.message_id) on.fragment ∙ flies.is }))
      ];
    }

pub old_at : (items : List Item) (last : Item) (k : ℕ) (item : Item) → slice_get items k ≡ Some item → slice_get (items ++ last ∷ []) k ≡ Some item
old_at [] last zero item at = absurd (cc)
old_at [] last (suc k) item at = absurd (cc)
old_at (i ∷ items) last zero item at = at
old_at (i ∷ items) last (suc k) item at = old_at items last k item at

pub last_at : (items : List Item) (last : Item) → slice_get (items ++ last ∷ []) (length items) ≡ Some last
last_at [] last = refl
last_at (i ∷ items) last = last_at items last

-- ---- the steps

abbrev pub FreeStage : Stage → Type 0
FreeStage stage = AreFree stage.waiting.streams stage.queue.outstanding.items

abbrev pub KeepsStage : Stage → Stage → Type 0
KeepsStage old new = Keeps old.waiting.streams old.queue.outstanding.items new.waiting.streams new.queue.outstanding.items

pub same_keeps : (old new : Stage) → new ≡ old → FreeStage old → KeepsStage old new
same_keeps old new is free = subst (λ (s : Stage). KeepsStage old s) (sym is) (keeps_same old.waiting.streams old.queue.outstanding.items free)

pub marked_keeps : (now : ℕ) (old new : Stage) → FreeStage old → SendsMarked now old new → KeepsStage old new
marked_keeps now old new free sends =
    subst (λ (s : Stage). KeepsStage old s) (sym sends.is)
    (keeps_changed (SendAgain (next_tsn old.queue.outstanding)) sends.place (sends.place + 1) old.waiting.streams old.queue.outstanding.items free)

-- None is due to be abandoned.
again_keeps : (now : ℕ) (old new : Stage) → FreeStage old → StepAgain now old new → KeepsStage old new
again_keeps now old new free step =
    elim step [
      | inl e ↦ marked_keeps now old new free e.1
      | inr e ↦ absurd (never_due now old.queue.partial_reliability e.next.marked.item (free.fly e.place e.next.marked.item e.next.marked.at).0 (free.fly e.place e.next.marked.item e.next.marked.at).1 e.due)
    ]

never_expires : (streams : List Stream) (items : List Item) → AreFree streams items → NoneExpires streams
never_expires streams items free q w has = (free.wait q w has).0

new_keeps : (now : ℕ) (old new : Stage) → FreeStage old → SendsNew now old new → KeepsStage old new
new_keeps now old new free sends =
    subst (λ (l : List Item). Keeps old.waiting.streams old.queue.outstanding.items new.waiting.streams l) (sym (ap (λ (s : Stage). s.queue.outstanding.items) sends.is))
    (record {
      free = record {
        wait = λ q w has. free.wait q w (waited q w has);
        fly = λ k found at. elim (at_last old.queue.outstanding.items sends.item k found at) [
          | inl before ↦ free.fly k found before
          | inr e ↦ subst (λ (x : Item). (x.fragment.expires_at ≡ None) × (x.fragment.max_retransmissions ≡ None)) e.1 part_free
        ];
      };
      held = λ place is. elim is [
        | inr flies ↦ inr (record { k = flies.k; item = flies.item; at = old_at old.queue.outstanding.items sends.item flies.k flies.item flies.at; is = flies.is })
        | inl waits ↦
            elim (produced_waits sends.takes.place sends.takes.message sends.takes.under_way sends.takes.queue sends.takes.front max waits.q waits.waiting (at_first waits.q waits.waiting waits.has)) [
              | inl gone ↦
                  inr (record {
                    k = length old.queue.outstanding.items;
                    item = sends.item;
                    at = last_at old.queue.outstanding.items sends.item;
                    is = ap (λ (f : Fragment). f.message_id) sends.takes.is ∙ ap (λ (w : Waiting). w.message_id) (sym gone) ∙ waits.is;
                  })
              | inr left ↦
                  inl (record {
                    q = waits.q;
                    waiting = waits.waiting;
                    has = subst (λ (b : SendQueueState). HasEntry waits.waiting (stream_at b.streams waits.q).messages) (sym sends.takes.left) left;
                    is = waits.is;
                  })
            ]
      ];
    })
  where
    max : ℕ
    max = payload_room (header old.queue.outstanding) old.room

    same : sends.takes.queue ≡ old.waiting
    same = no_drops now old.waiting sends.takes.drops.events sends.takes.queue (never_expires old.waiting.streams old.queue.outstanding.items free) sends.takes.drops.drops

    at_first : (q : ℕ) (w : Waiting) → HasEntry w (stream_at old.waiting.streams q).messages → HasEntry w (stream_at sends.takes.queue.streams q).messages
    at_first q w has = subst (λ (b : SendQueueState). HasEntry w (stream_at b.streams q).messages) (sym same) has

    waited : (q : ℕ) (w : Waiting) → HasEntry w (stream_at new.waiting.streams q).messages → HasEntry w (stream_at old.waiting.streams q).messages
    waited q w has =
        subst (λ (b : SendQueueState). HasEntry w (stream_at b.streams q).messages) same
        (produced_waited sends.takes.place max sends.takes.message sends.takes.under_way sends.takes.queue q w
        (subst (λ (b : SendQueueState). HasEntry w (stream_at b.streams q).messages) sends.takes.left has))

    part_free : (sends.item.fragment.expires_at ≡ None) × (sends.item.fragment.max_retransmissions ≡ None)
    part_free =
        let its = free.wait sends.takes.place sends.takes.message
        (subst (λ (b : SendQueueState). HasEntry sends.takes.message (stream_at b.streams sends.takes.place).messages) same
        (front_has (stream_at sends.takes.queue.streams sends.takes.place).messages sends.takes.message sends.takes.front)) in
        (ap (λ (f : Fragment). f.expires_at) sends.takes.is ∙ its.0, ap (λ (f : Fragment). f.max_retransmissions) sends.takes.is ∙ its.1)

finds_keeps : (now : ℕ) (old new : Stage) → FreeStage old → FindsNone now old new → KeepsStage old new
finds_keeps now old new free finds =
    let same : new.waiting ≡ old.waiting = no_drops now old.waiting finds.takes.drops.events new.waiting (never_expires old.waiting.streams old.queue.outstanding.items free) finds.takes.drops.drops in
    subst (λ (q : SendQueueState). Keeps old.waiting.streams old.queue.outstanding.items q.streams new.queue.outstanding.items) (sym same)
    (subst (λ (l : List Item). Keeps old.waiting.streams old.queue.outstanding.items old.waiting.streams l) (sym (ap (λ (s : Stage). s.queue.outstanding.items) finds.is))
    (keeps_same old.waiting.streams old.queue.outstanding.items free))

anew_keeps : (now : ℕ) (old new : Stage) → FreeStage old → StepNew now old new → KeepsStage old new
anew_keeps now old new free step = elim step.1 [ inl e ↦ new_keeps now old new free e | inr e ↦ finds_keeps now old new free e ]

pub steps_keep : (Step : Stage → Stage → Type 0) → ((old new : Stage) → FreeStage old → Step old new → KeepsStage old new) → (old new : Stage) → FreeStage old → StageSteps Step old new → KeepsStage old new
steps_keep Step each old new free none = keeps_same old.waiting.streams old.queue.outstanding.items free
steps_keep Step each old new free (more between _ steps step) =
    let earlier = steps_keep Step each old between free steps in
    keeps_then old.waiting.streams old.queue.outstanding.items between.waiting.streams between.queue.outstanding.items new.waiting.streams new.queue.outstanding.items earlier (each between new earlier.free step)

-- ---- a packet

pub fills_keep : (now : ℕ) (old new : Stage) → FreeStage old → FillsPacket now old new → KeepsStage old new
fills_keep now old new free fills =
    let resent : Stage = fills.fills.resent in
    let counted : Stage = resent_packet_counted old.room fills.fills.resent in
    let again = steps_keep (StepAgain now) (again_keeps now) old fills.fills.resent free fills.fills.again in
    let same : (resent_packet_counted old.room fills.fills.resent).queue.outstanding ≡ fills.fills.resent.queue.outstanding = counted_outstanding (old.room - fills.fills.resent.room) fills.fills.resent.queue in
    let between : KeepsStage old (resent_packet_counted old.room fills.fills.resent) =
    subst (λ (o : OutstandingState). Keeps old.waiting.streams old.queue.outstanding.items fills.fills.resent.waiting.streams o.items) (sym same) again in
    let anew = steps_keep (StepNew now) (anew_keeps now) (resent_packet_counted old.room fills.fills.resent) fills.sent between.free fills.fills.anew in
    subst (λ (s : Stage). KeepsStage old s) (sym fills.is)
    (keeps_then old.waiting.streams old.queue.outstanding.items fills.fills.resent.waiting.streams (resent_packet_counted old.room fills.fills.resent).queue.outstanding.items fills.sent.waiting.streams fills.sent.queue.outstanding.items between anew)

-- No message is abandoned before a FORWARD-TSN.
pub gives_up_keeps : (now : ℕ) (old new : Stage) → FreeStage old → GivesUpAll now old new → KeepsStage old new
gives_up_keeps now old new free gives =
    steps_keep (GivesUpFirst now)
    (λ o n f step. absurd (never_due now o.queue.partial_reliability step.is_due.item (f.fly step.place step.is_due.item step.is_due.at).0 (f.fly step.place step.is_due.item step.is_due.at).1 step.is_due.due))
    old new free gives.steps

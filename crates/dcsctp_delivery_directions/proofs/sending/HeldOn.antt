-- Where no message of a stream has limits, a flush leaves out none that waits on it, whatever it
-- abandons or drops of other streams.
use Rattle.std.proofs.Common.{◌≡◌, ℕ, zero, suc, Bool, true, false, ◌<◌, ◌+◌, ◌-◌, arith, List, [], ◌∷◌, ◌++◌, length, map, drop, refl, sym, ◌∙◌, ap, subst, inl, inr}
use Rattle.std.specs.Prelude.{◌⊎◌, Option, None, Some, slice_get, slice_set}
use Rattle.std.proofs.lemmas.Bool.Decides.{eqb_tells}
use Rattle.dcsctp_spec.specs.Packet.{Plain, Emission}
use Rattle.dcsctp_spec.specs.association.Choices.{plain_contents}
use Rattle.dcsctp_spec.specs.types.declared.progress.Change.{Change}
use Rattle.dcsctp_spec.specs.types.declared.progress.Change.TheVariants.{SendAgain, Abandon}
use Rattle.dcsctp_spec.specs.types.queues.SendStreams.{Waiting, Stream, stream_at, front_of, unused_stream, without_front}
use Rattle.dcsctp_spec.specs.endpoint.Event.{Event}
use Rattle.dcsctp_spec.specs.endpoint.Endpoint.{Endpoint}
use Rattle.dcsctp_spec.specs.endpoint.BegunResets.{streams_within, request_contents, queue_requesting, retransmission_begun}
use Rattle.dcsctp_spec.specs.endpoint.FlushOutcomes.{Ask, Gives, room_of_draft, stage_of, may_forward, filling_event, Answer, answer_contents, filled_draft, asked_outcome, next_draft, flush_of, GivesUpThenForwards, FillsIfAllowed, GivesUnlessIdle, IsAnswerOfQueues, IsFlushAnswer, AreFlushAnswers, at_limit, at_empty, after_packet, forward_made}
use Rattle.dcsctp_spec.specs.queues.Abandoning.{GivesUpFirst, GivesUpAll}
use Rattle.dcsctp_spec.specs.queues.Filling.{Stage, ClosesMessage, DropsRestOfMessage, GivesUpItem, SendsMarked, payload_room, SendsNew, FindsNone, StepAgain, StepNew, StageSteps, none as no_steps, more as more_steps, resent_packet_counted, FillsPacket}
use Rattle.dcsctp_spec.specs.queues.ItemMessages.{EndsDropped}
use Rattle.dcsctp_spec.specs.queues.Items.{Item, changed_between}
use Rattle.dcsctp_spec.specs.queues.NextItem.{is_abandonment_due}
use Rattle.dcsctp_spec.specs.queues.Outstanding.{OutstandingState, header, next_tsn}
use Rattle.dcsctp_spec.specs.queues.SendQueue.{SendQueueState}
use Rattle.dcsctp_spec.specs.queues.Sending.{Fragment, Drops, none as no_drops_yet, more as drops_one, reduced_queue, without_rest, DiscardsNamed}
use Rattle.dcsctp_spec.specs.queues.Transfer.{Transfer, EndpointQueues, may_give, is_idle}
use Rattle.dcsctp_delivery_directions.specs.sending.Places.{HasEntry, at_place}
use Rattle.dcsctp_delivery_directions.specs.sending.Log.{Message, Slot, IsLogOfPieces, History}
use Rattle.dcsctp_delivery_directions.specs.sending.Pieces.{HoldsQueued}
use Rattle.dcsctp_delivery_directions.specs.sending.Flushes.{InFlight, QueuesFollowLog}
use Rattle.dcsctp_delivery_directions.specs.sending.Losing.{AreUnlimitedOn, WasSentOf, IsKept}
use Rattle.dcsctp_delivery_directions.proofs.sending.Filling.{counted_outstanding}
use Rattle.dcsctp_delivery_directions.proofs.sending.Held.{IsHeld, changed_on, old_at, last_at}
use Rattle.dcsctp_delivery_directions.proofs.sending.Limits.{never_due}
use Rattle.dcsctp_delivery_directions.proofs.sending.Losing.{items_in, requesting_messages, begun_items, queued_of, flies_sent, sent_more}
use Rattle.dcsctp_delivery_directions.proofs.sending.Packets.{out_below}
use Rattle.dcsctp_delivery_directions.proofs.sending.Places.{at_cases}
use Rattle.dcsctp_delivery_directions.proofs.sending.Stages.{changed_at, at_last}
use Rattle.dcsctp_delivery_directions.proofs.sending.Streams.{Alike, reduced_alike, rest_shorter, within_streams}
use Rattle.dcsctp_delivery_directions.proofs.sending.WhatWaits.{front_has, never_old, produced_waits, produced_waited, shorter_waited}
use Rattle.std.proofs.lemmas.List.{get_or-set_same, get_or-set_other}

-- The front of a stream leaves: each other message waits still.
rest_waits : (place sent : ℕ) (message : Waiting) (queue : SendQueueState) → front_of (stream_at queue.streams place).messages ≡ Some message → (q : ℕ) (w : Waiting) → HasEntry w (stream_at queue.streams q).messages
    → (w ≡ message) ⊎ HasEntry w (stream_at (without_rest place sent message queue).streams q).messages
rest_waits place sent message queue front q w has =
    elim (eqb_tells q place) [
      | inr e ↦ inr (subst (λ (s : Stream). HasEntry w s.messages) (sym (get_or-set_other between.streams place q (without_front (stream_at between.streams place)) (unused_stream 0 0 0) e.1)) here)
      | inl e ↦
          (let there : HasEntry w (stream_at between.streams place).messages = subst (λ (k : ℕ). HasEntry w (stream_at between.streams k).messages) e.1 here in
          elim (first_or_rest (stream_at between.streams place).messages (ap front_of (alike.messages place) ∙ front) there) [
            | inl same ↦ inl same
            | inr rest ↦
                inr (subst (λ (k : ℕ). HasEntry w (stream_at (slice_set between.streams place (without_front (stream_at between.streams place))) k).messages) (sym e.1)
                (subst (λ (s : Stream). HasEntry w s.messages) (sym (get_or-set_same between.streams place (without_front (stream_at between.streams place)) (unused_stream 0 0 0) within)) rest))
          ])
    ]
  where
    between : SendQueueState
    between = reduced_queue place (length message.payload - sent) queue

    alike : Alike queue.streams between.streams
    alike = reduced_alike place (length message.payload - sent) queue

    here : HasEntry w (stream_at between.streams q).messages
    here = subst (λ (l : List Waiting). HasEntry w l) (sym (alike.messages q)) has

    within : place < length between.streams
    within = (let inside = within_streams queue.streams place message front in let sizes = alike.sizes in omega (arith, inside, sizes))

    first_or_rest : (messages : List Waiting) → front_of messages ≡ Some message → HasEntry w messages → (w ≡ message) ⊎ HasEntry w (drop 1 messages)
    first_or_rest [] e has' = absurd (cc)
    first_or_rest (v ∷ messages) e has' = let same : v ≡ message = cc in elim has' [ inl is ↦ inl (is ∙ same) | inr t ↦ inr t ]

-- `P` are the places of the messages that have no limits.
module _ (P : ℕ → Type 0) where
  pub record AreFreeOn (streams : List Stream) (items : List Item) : Type 0 where
    pub wait : (q : ℕ) (w : Waiting) → HasEntry w (stream_at streams q).messages → P w.message_id → (w.expires_at ≡ None) × (w.max_retransmissions ≡ None)
    pub fly : (k : ℕ) (item : Item) → slice_get items k ≡ Some item → P item.fragment.message_id → (item.fragment.expires_at ≡ None) × (item.fragment.max_retransmissions ≡ None)

  -- Each of them that waits or is in flight still is.
  pub record KeepsHeld (old_streams : List Stream) (old_items : List Item) (new_streams : List Stream) (new_items : List Item) : Type 0 where
    pub free : AreFreeOn new_streams new_items
    pub held : (place : ℕ) → P place → IsHeld old_streams old_items place → IsHeld new_streams new_items place

  same_held : (streams : List Stream) (items : List Item) → AreFreeOn streams items → KeepsHeld streams items streams items
  same_held streams items free = record { free = free; held = λ place p is. is }

  held_then : (streams : List Stream) (items : List Item) (streams' : List Stream) (items' : List Item) (streams'' : List Stream) (items'' : List Item) → KeepsHeld streams items streams' items' → KeepsHeld streams' items' streams'' items''
      → KeepsHeld streams items streams'' items''
  held_then streams items streams' items' streams'' items'' one two = record { free = two.free; held = λ place p is. two.held place p (one.held place p is) }

  held_alike : (old new : List Stream) (items : List Item) → ((q : ℕ) → (stream_at new q).messages ≡ (stream_at old q).messages) → AreFreeOn old items → KeepsHeld old items new items
  held_alike old new items same free =
      record {
        free = record { wait = λ q w has. free.wait q w (subst (λ (l : List Waiting). HasEntry w l) (same q) has); fly = free.fly };
        held = λ place p is. elim is [
          | inl waits ↦ inl (record { q = waits.q; waiting = waits.waiting; has = subst (λ (l : List Waiting). HasEntry waits.waiting l) (sym (same waits.q)) waits.has; is = waits.is })
          | inr flies ↦ inr flies
        ];
      }

  held_changed : (change : Change) (start end : ℕ) (streams : List Stream) (items : List Item) → AreFreeOn streams items → KeepsHeld streams items streams (changed_between change start end items)
  held_changed change start end streams items free =
      record {
        free = record {
          wait = free.wait;
          fly = λ k item at p. (
              let was = changed_at change start end k items item at in
              subst (λ (f : Fragment). (f.expires_at ≡ None) × (f.max_retransmissions ≡ None)) was.fragment
              (free.fly k was.old was.at (subst (λ (f : Fragment). P f.message_id) (sym was.fragment) p))
              );
        };
        held = λ place p is. elim is [
          | inl waits ↦ inl waits
          | inr flies ↦
              (let on = changed_on change start end flies.k items flies.item flies.at in
              inr (record { k = flies.k; item = on.item; at = on.at; is = ap (λ (f : Fragment). f.message_id) on.fragment ∙ flies.is }))
        ];
      }

  -- ---- what is dropped has limits

  one_dropped : (now place sent : ℕ) (message : Waiting) (queue : SendQueueState) (items : List Item) → front_of (stream_at queue.streams place).messages ≡ Some message → (P message.message_id → ⊥)
      → AreFreeOn queue.streams items → KeepsHeld queue.streams items (without_rest place sent message queue).streams items
  one_dropped now place sent message queue items front never free =
      record {
        free = record {
          wait = λ q w has. free.wait q w (shorter_waited queue.streams (without_rest place sent message queue).streams (rest_shorter place sent message queue) q w has);
          fly = free.fly;
        };
        held = λ place' p is. elim is [
          | inr flies ↦ inr flies
          | inl waits ↦
              elim (rest_waits place sent message queue front waits.q waits.waiting waits.has) [
                | inl gone ↦ absurd (never (subst P (sym waits.is ∙ ap (λ (w : Waiting). w.message_id) gone) p))
                | inr left ↦ inl (record { q = waits.q; waiting = waits.waiting; has = left; is = waits.is })
              ]
        ];
      }

  drops_held : {E : Type 0} (now : ℕ) (old : SendQueueState) (events : List (Event E)) (new : SendQueueState) (items : List Item) → AreFreeOn old.streams items → Drops now old events new → KeepsHeld old.streams items new.streams items
  drops_held now old events new items free no_drops_yet = same_held old.streams items free
  drops_held now old events new items free (drops_one events' queue place message drops next front expired) =
      let earlier = drops_held now old events' queue items free drops in
      held_then old.streams items queue.streams items (without_rest place 0 message queue).streams items earlier
      (one_dropped now place 0 message queue items front
      (λ p. (let its = earlier.free.wait place message (front_has (stream_at queue.streams place).messages message front) p in
      let clash : true ≡ false = sym expired ∙ never_old now message (stream_at queue.streams place) its.0 in absurd (cc))) earlier.free)

  -- ---- the steps

  abbrev pub FreeStageOn : Stage → Type 0
  FreeStageOn stage = AreFreeOn stage.waiting.streams stage.queue.outstanding.items

  abbrev pub HoldsStage : Stage → Stage → Type 0
  HoldsStage old new = KeepsHeld old.waiting.streams old.queue.outstanding.items new.waiting.streams new.queue.outstanding.items

  same_stage : (old new : Stage) → new ≡ old → FreeStageOn old → HoldsStage old new
  same_stage old new is free = subst (λ (s : Stage). HoldsStage old s) (sym is) (same_held old.waiting.streams old.queue.outstanding.items free)

  marked_held : (now : ℕ) (old new : Stage) → FreeStageOn old → SendsMarked now old new → HoldsStage old new
  marked_held now old new free sends =
      subst (λ (s : Stage). HoldsStage old s) (sym sends.is)
      (held_changed (SendAgain (next_tsn old.queue.outstanding)) sends.place (sends.place + 1) old.waiting.streams old.queue.outstanding.items free)

  rest_held : (now : ℕ) (last : Item) (old new : Stage) → (P last.fragment.message_id → ⊥) → FreeStageOn old → DropsRestOfMessage now last old new → HoldsStage old new
  rest_held now last old new never free rest = subst (λ (s : Stage). HoldsStage old s) (sym rest.is) (go rest.drops.is_dropped rest.drops.drops rest.drops.ends)
    where
      go : (dropped : Bool) → DiscardsNamed old.waiting last.fragment.stream last.fragment.message_id old.told dropped new.waiting new.told → EndsDropped now old.queue.reset_begun last old.queue.outstanding rest.outstanding dropped
          → KeepsHeld old.waiting.streams old.queue.outstanding.items new.waiting.streams rest.outstanding.items
      go false discards ends =
          subst (λ (q : SendQueueState). KeepsHeld old.waiting.streams old.queue.outstanding.items q.streams rest.outstanding.items) (sym discards.1)
          (subst (λ (o : OutstandingState). KeepsHeld old.waiting.streams old.queue.outstanding.items old.waiting.streams o.items) (sym ends) (same_held old.waiting.streams old.queue.outstanding.items free))
      go true discards ends =
          let left : SendQueueState = without_rest discards.named.place discards.named.under_way.sent discards.named.message old.waiting in
          let its : ends.item.fragment.message_id ≡ last.fragment.message_id = ap (λ (f : Fragment). f.message_id) ends.is_end.is in
          let dropped : KeepsHeld old.waiting.streams old.queue.outstanding.items left.streams old.queue.outstanding.items =
          one_dropped now discards.named.place discards.named.under_way.sent discards.named.message old.waiting old.queue.outstanding.items discards.named.front (λ p. never (subst P discards.named.named p)) free in
          subst (λ (q : SendQueueState). KeepsHeld old.waiting.streams old.queue.outstanding.items q.streams rest.outstanding.items) (sym discards.left)
          (subst (λ (o : OutstandingState). KeepsHeld old.waiting.streams old.queue.outstanding.items left.streams o.items) (sym ends.grows)
          (held_then old.waiting.streams old.queue.outstanding.items left.streams old.queue.outstanding.items left.streams (old.queue.outstanding.items ++ ends.item ∷ []) dropped
          (record {
            free = record {
              wait = dropped.free.wait;
              fly = λ k found at p. elim (at_last old.queue.outstanding.items ends.item k found at) [
                | inl before ↦ free.fly k found before p
                | inr e ↦ absurd (never (subst P (ap (λ (x : Item). x.fragment.message_id) (sym e.1) ∙ its) p))
              ];
            };
            held = λ place p is. elim is [
              | inl waits ↦ inl waits
              | inr flies ↦ inr (record { k = flies.k; item = flies.item; at = old_at old.queue.outstanding.items ends.item flies.k flies.item flies.at; is = flies.is })
            ];
          })))

  closes_held : (now : ℕ) (last : Item) (old new : Stage) (is_end : Bool) → (P last.fragment.message_id → ⊥) → FreeStageOn old → ClosesMessage now last old new is_end → HoldsStage old new
  closes_held now last old new true never free closes = subst (λ (s : Stage). HoldsStage old s) (sym closes) (same_held old.waiting.streams old.queue.outstanding.items free)
  closes_held now last old new false never free closes =
      elim closes [
        | inl e ↦ rest_held now last old new never free e.1
        | inr e ↦ same_stage old new e.1 free
      ]

  -- A message that is given up has limits.
  given_up_held : (now place : ℕ) (old new : Stage) (item : Item) → slice_get old.queue.outstanding.items place ≡ Some item → is_abandonment_due now old.queue.partial_reliability item ≡ true → FreeStageOn old
      → GivesUpItem now place old new → HoldsStage old new
  given_up_held now place old new item at due free gives =
      let ends = gives.message.1 in
      let to = ends.to in
      let one : gives.last.fragment.message_id ≡ item.fragment.message_id = ends.same gives.last_place gives.last item (omega (arith, to)) (omega arith) gives.at at in
      let never : (P gives.last.fragment.message_id → ⊥) =
      λ p. (let its = free.fly place item at (subst P one p) in never_due now old.queue.partial_reliability item its.0 its.1 due) in
      let closed = closes_held now gives.last old gives.closed gives.last.fragment.is_end never free gives.closes in
      subst (λ (s : Stage). HoldsStage old s) (sym gives.is)
      (held_then old.waiting.streams old.queue.outstanding.items gives.closed.waiting.streams gives.closed.queue.outstanding.items gives.closed.waiting.streams
      (changed_between Abandon gives.start (gives.last_place + 1) gives.closed.queue.outstanding.items) closed
      (held_changed Abandon gives.start (gives.last_place + 1) gives.closed.waiting.streams gives.closed.queue.outstanding.items closed.free))

  again_held : (now : ℕ) (old new : Stage) → FreeStageOn old → StepAgain now old new → HoldsStage old new
  again_held now old new free step =
      elim step [
        | inl e ↦ marked_held now old new free e.1
        | inr e ↦ given_up_held now e.place old new e.next.marked.item e.next.marked.at e.due free e.gives_up
      ]

  new_held : (now : ℕ) (old new : Stage) → FreeStageOn old → SendsNew now old new → HoldsStage old new
  new_held now old new free sends =
      held_then old.waiting.streams old.queue.outstanding.items sends.takes.queue.streams old.queue.outstanding.items new.waiting.streams new.queue.outstanding.items dropped
      (subst (λ (l : List Item). KeepsHeld sends.takes.queue.streams old.queue.outstanding.items new.waiting.streams l) (sym (ap (λ (s : Stage). s.queue.outstanding.items) sends.is))
      (record {
        free = record {
          wait = λ q w has. dropped.free.wait q w (waited q w has);
          fly = λ k found at p. elim (at_last old.queue.outstanding.items sends.item k found at) [
            | inl before ↦ free.fly k found before p
            | inr e ↦ subst (λ (x : Item). (x.fragment.expires_at ≡ None) × (x.fragment.max_retransmissions ≡ None)) e.1 (part_free (subst (λ (x : Item). P x.fragment.message_id) (sym e.1) p))
          ];
        };
        held = λ place p is. elim is [
          | inr flies ↦ inr (record { k = flies.k; item = flies.item; at = old_at old.queue.outstanding.items sends.item flies.k flies.item flies.at; is = flies.is })
          | inl waits ↦
              elim (produced_waits sends.takes.place sends.takes.message sends.takes.under_way sends.takes.queue sends.takes.front max waits.q waits.waiting waits.has) [
                | inl gone ↦
                    inr (record {
                      k = length old.queue.outstanding.items;
                      item = sends.item;
                      at = last_at old.queue.outstanding.items sends.item;
                      is = ap (λ (f : Fragment). f.message_id) sends.takes.is ∙ ap (λ (w : Waiting). w.message_id) (sym gone) ∙ waits.is;
                    })
                | inr left ↦
                    inl (record {
                      q = waits.q;
                      waiting = waits.waiting;
                      has = subst (λ (b : SendQueueState). HasEntry waits.waiting (stream_at b.streams waits.q).messages) (sym sends.takes.left) left;
                      is = waits.is;
                    })
              ]
        ];
      }))
    where
      max : ℕ
      max = payload_room (header old.queue.outstanding) old.room

      dropped : KeepsHeld old.waiting.streams old.queue.outstanding.items sends.takes.queue.streams old.queue.outstanding.items
      dropped = drops_held now old.waiting sends.takes.drops.events sends.takes.queue old.queue.outstanding.items free sends.takes.drops.drops

      waited : (q : ℕ) (w : Waiting) → HasEntry w (stream_at new.waiting.streams q).messages → HasEntry w (stream_at sends.takes.queue.streams q).messages
      waited q w has =
          produced_waited sends.takes.place max sends.takes.message sends.takes.under_way sends.takes.queue q w
          (subst (λ (b : SendQueueState). HasEntry w (stream_at b.streams q).messages) sends.takes.left has)

      part_free : P sends.item.fragment.message_id → (sends.item.fragment.expires_at ≡ None) × (sends.item.fragment.max_retransmissions ≡ None)
      part_free p =
          let its = dropped.free.wait sends.takes.place sends.takes.message (front_has (stream_at sends.takes.queue.streams sends.takes.place).messages sends.takes.message sends.takes.front)
          (subst P (ap (λ (f : Fragment). f.message_id) sends.takes.is) p) in
          (ap (λ (f : Fragment). f.expires_at) sends.takes.is ∙ its.0, ap (λ (f : Fragment). f.max_retransmissions) sends.takes.is ∙ its.1)

  finds_held : (now : ℕ) (old new : Stage) → FreeStageOn old → FindsNone now old new → HoldsStage old new
  finds_held now old new free finds =
      subst (λ (l : List Item). KeepsHeld old.waiting.streams old.queue.outstanding.items new.waiting.streams l) (sym (ap (λ (s : Stage). s.queue.outstanding.items) finds.is))
      (drops_held now old.waiting finds.takes.drops.events new.waiting old.queue.outstanding.items free finds.takes.drops.drops)

  anew_held : (now : ℕ) (old new : Stage) → FreeStageOn old → StepNew now old new → HoldsStage old new
  anew_held now old new free step = elim step.1 [ inl e ↦ new_held now old new free e | inr e ↦ finds_held now old new free e ]

  steps_held : (Step : Stage → Stage → Type 0) → ((old new : Stage) → FreeStageOn old → Step old new → HoldsStage old new) → (old new : Stage) → FreeStageOn old → StageSteps Step old new → HoldsStage old new
  steps_held Step each old new free no_steps = same_held old.waiting.streams old.queue.outstanding.items free
  steps_held Step each old new free (more_steps between _ steps step) =
      let earlier = steps_held Step each old between free steps in
      held_then old.waiting.streams old.queue.outstanding.items between.waiting.streams between.queue.outstanding.items new.waiting.streams new.queue.outstanding.items earlier (each between new earlier.free step)

  -- ---- a packet

  fills_held : (now : ℕ) (old new : Stage) → FreeStageOn old → FillsPacket now old new → HoldsStage old new
  fills_held now old new free fills =
      let again = steps_held (StepAgain now) (again_held now) old fills.fills.resent free fills.fills.again in
      let same : (resent_packet_counted old.room fills.fills.resent).queue.outstanding ≡ fills.fills.resent.queue.outstanding = counted_outstanding (old.room - fills.fills.resent.room) fills.fills.resent.queue in
      let between : HoldsStage old (resent_packet_counted old.room fills.fills.resent) =
      subst (λ (o : OutstandingState). KeepsHeld old.waiting.streams old.queue.outstanding.items fills.fills.resent.waiting.streams o.items) (sym same) again in
      let anew = steps_held (StepNew now) (anew_held now) (resent_packet_counted old.room fills.fills.resent) fills.sent between.free fills.fills.anew in
      subst (λ (s : Stage). HoldsStage old s) (sym fills.is)
      (held_then old.waiting.streams old.queue.outstanding.items fills.fills.resent.waiting.streams (resent_packet_counted old.room fills.fills.resent).queue.outstanding.items fills.sent.waiting.streams fills.sent.queue.outstanding.items between anew)

  gives_up_held : (now : ℕ) (old new : Stage) → FreeStageOn old → GivesUpAll now old new → HoldsStage old new
  gives_up_held now old new free gives =
      steps_held (GivesUpFirst now) (λ o n f step. given_up_held now step.place o n step.is_due.item step.is_due.at step.is_due.due f step.gives_up) old new free gives.steps

  gives_up_where_held : (b : Bool) (now room : ℕ) (transfer : Transfer) (old new : Stage) (next : Option ℕ) (chunks : List Plain) → FreeStageOn old → GivesUpThenForwards b now transfer room old new (forward_made next chunks) → HoldsStage old new
  gives_up_where_held true now room transfer old new next chunks free gives = gives_up_held now old new free gives.0
  gives_up_where_held false now room transfer old new next chunks free gives = same_stage old new gives.0 free

  fills_where_held : (now : ℕ) (b : Bool) (old new : Stage) → FreeStageOn old → FillsIfAllowed b now old new → HoldsStage old new
  fills_where_held now true old new free fills = fills_held now old new free fills
  fills_where_held now false old new free fills = elim fills [ inl e ↦ same_stage old new e free | inr e ↦ fills_held now old new free e ]

  -- ---- the queues of an endpoint

  abbrev pub FreeQueuesOn : EndpointQueues → Type 0
  FreeQueuesOn sender_queues = AreFreeOn sender_queues.queue.streams (items_in sender_queues.transfer)

  abbrev pub HoldsQueues : EndpointQueues → EndpointQueues → Type 0
  HoldsQueues old new = KeepsHeld old.queue.streams (items_in old.transfer) new.queue.streams (items_in new.transfer)

  same_queues : (old new : EndpointQueues) → new ≡ old → FreeQueuesOn old → HoldsQueues old new
  same_queues old new is free = subst (λ (b : EndpointQueues). HoldsQueues old b) (sym is) (same_held old.queue.streams (items_in old.transfer) free)

  module _ (ask : Ask) (e : Endpoint) (draft : Emission) (transfer : Transfer) (answer : Answer) (gives : Gives ask e draft transfer answer) (free : AreFreeOn e.queues.queue.streams transfer.retransmission.outstanding.items) where
    -- once a request was begun, if one was
    abbrev between : Stage
    between =
        stage_of (queue_requesting (streams_within (room_of_draft e (filled_draft draft (plain_contents answer.acknowledgements)))) answer.begun gives.gave_up.waiting) (retransmission_begun answer.begun gives.gave_up.queue) gives.gave_up.told
        (room_of_draft e (filled_draft draft (plain_contents answer.acknowledgements ++ request_contents answer.begun)))

    gave : HoldsStage (stage_of e.queues.queue transfer.retransmission [] 0) gives.gave_up
    gave = gives_up_where_held (may_forward ask e transfer.retransmission) e.moment _ transfer (stage_of e.queues.queue transfer.retransmission [] 0) gives.gave_up gives.next gives.forwards free gives.gives_up

    requested : KeepsHeld e.queues.queue.streams transfer.retransmission.outstanding.items between.waiting.streams between.queue.outstanding.items
    requested =
        subst (λ (o : OutstandingState). KeepsHeld e.queues.queue.streams transfer.retransmission.outstanding.items between.waiting.streams o.items) (sym (begun_items answer.begun gives.gave_up.queue))
        (held_then e.queues.queue.streams transfer.retransmission.outstanding.items gives.gave_up.waiting.streams gives.gave_up.queue.outstanding.items between.waiting.streams gives.gave_up.queue.outstanding.items gave
        (held_alike gives.gave_up.waiting.streams between.waiting.streams gives.gave_up.queue.outstanding.items
        (requesting_messages (streams_within (room_of_draft e (filled_draft draft (plain_contents answer.acknowledgements)))) answer.begun gives.gave_up.waiting) gave.free))

    gives_held : KeepsHeld e.queues.queue.streams transfer.retransmission.outstanding.items answer.after.queues.queue.streams (items_in answer.after.queues.transfer)
    gives_held =
        subst (λ (b : EndpointQueues). KeepsHeld e.queues.queue.streams transfer.retransmission.outstanding.items b.queue.streams (items_in b.transfer)) (sym gives.below)
        (held_then e.queues.queue.streams transfer.retransmission.outstanding.items between.waiting.streams between.queue.outstanding.items gives.sent.waiting.streams gives.sent.queue.outstanding.items requested
        (fills_where_held e.moment (may_give between.waiting between.queue) between gives.sent requested.free gives.fills))

  given_held : (b : Bool) (ask : Ask) (e : Endpoint) (draft : Emission) (transfer : Transfer) (answer : Answer) → GivesUnlessIdle b ask e draft transfer answer → e.queues.transfer ≡ Some transfer → FreeQueuesOn e.queues → HoldsQueues e.queues answer.after.queues
  given_held true ask e draft transfer answer gives known free = same_queues e.queues answer.after.queues (ap (λ (a : Answer). a.after.queues) gives) free
  given_held false ask e draft transfer answer gives known free =
      subst (λ (t : Option Transfer). KeepsHeld e.queues.queue.streams (items_in t) answer.after.queues.queue.streams (items_in answer.after.queues.transfer)) (sym known)
      (gives_held ask e draft transfer answer gives (subst (λ (t : Option Transfer). AreFreeOn e.queues.queue.streams (items_in t)) known free))

  answered_held : (ask : Ask) (e : Endpoint) (draft : Emission) (transfer : Option Transfer) (answer : Answer) → IsAnswerOfQueues ask e draft answer transfer → e.queues.transfer ≡ transfer → FreeQueuesOn e.queues → HoldsQueues e.queues answer.after.queues
  answered_held ask e draft None answer answered known free = same_queues e.queues answer.after.queues (ap (λ (a : Answer). a.after.queues) answered) free
  answered_held ask e draft (Some transfer) answer answered known free = given_held (is_idle e.queues.queue transfer) ask e draft transfer answer answered known free

  asked_held : (ask : Ask) (e : Endpoint) (draft : Emission) (answer : Answer) → IsFlushAnswer ask e draft answer → FreeQueuesOn e.queues → HoldsQueues e.queues (asked_outcome e draft answer).after.queues
  asked_held ask e draft answer answered free =
      subst (λ (b : EndpointQueues). HoldsQueues e.queues b)
      (sym (out_below answer.after (map filling_event answer.told) draft.with_checksum draft.packet.tag (filled_draft draft (answer_contents answer)).packet.contents))
      (answered_held ask e draft e.queues.transfer answer answered.by_transfer refl free)

  pub flush_held : (ask : Ask) (n : ℕ) (e : Endpoint) (draft : Emission) (answers : List Answer) → AreFlushAnswers ask n e draft answers → FreeQueuesOn e.queues → HoldsQueues e.queues (flush_of e draft answers).after.queues
  flush_held _ _ _ _ _ (at_limit ask e draft) free = same_held e.queues.queue.streams (items_in e.queues.transfer) free
  flush_held _ _ _ _ _ (at_empty ask more e draft answer is empty) free = asked_held ask e draft answer is free
  flush_held _ _ _ _ _ (after_packet ask more e draft answer answers is some rest) free =
      let between : EndpointQueues = (asked_outcome e draft answer).after.queues in
      let after : EndpointQueues = (flush_of (asked_outcome e draft answer).after (next_draft e.core draft) answers).after.queues in
      let one = asked_held ask e draft answer is free in
      held_then e.queues.queue.streams (items_in e.queues.transfer) between.queue.streams (items_in between.transfer) after.queue.streams (items_in after.transfer) one
      (flush_held _ more (asked_outcome e draft answer).after (next_draft e.core draft) answers rest one.free)

  -- It was sent or waits then, as before.
  pub kept_held : (old new : History) (more : List Slot) (first acknowledged place : ℕ) (below after : EndpointQueues) → P place → new.log ≡ more ++ old.log → HoldsQueues below after → InFlight new first acknowledged after.transfer
      → IsKept old.log below.queue.streams place → IsKept new.log after.queue.streams place
  kept_held old new more first acknowledged place below after p grows keeps flight kept =
      elim kept [
        | inl was ↦ inl (subst (λ (l : List Slot). WasSentOf l place) (sym grows) (sent_more more old.log place was))
        | inr waits ↦
            elim (keeps.held place p (inl waits)) [
              | inl still ↦ inr still
              | inr flies ↦ inl (flies_sent new first acknowledged place after.transfer flight flies)
            ]
      ]

-- ---- the messages of one stream

pub unlimited_on_at : (id : ℕ) (queued : List Message) (place : ℕ) (message : Message) → AreUnlimitedOn id queued → at_place place queued ≡ Some message → message.stream ≡ id → message.is_limited ≡ false
unlimited_on_at id [] place message are at on = absurd (cc)
unlimited_on_at id (first ∷ queued) place message are at on =
    elim (at_cases place first message queued at) [
      | inl e ↦ sym (ap (λ (m : Message). m.is_limited) e.1) ∙ are.0 (ap (λ (m : Message). m.stream) e.1 ∙ on)
      | inr e ↦ unlimited_on_at id queued place message are.1 e on
    ]

-- The message of this place is on the stream.
pub record IsPlacedOn (id : ℕ) (queued : List Message) (place : ℕ) : Type 0 where
  pub message : Message
  pub at : at_place place queued ≡ Some message
  pub on : message.stream ≡ id

-- It has no limits.
placed_free : (id : ℕ) (queued : List Message) (place other : ℕ) (message : Message) → AreUnlimitedOn id queued → IsPlacedOn id queued place → place ≡ other → at_place other queued ≡ Some message → message.is_limited ≡ false
placed_free id queued place other message are p same at =
    let both : Some p.message ≡ Some message = sym p.at ∙ ap (λ (k : ℕ). at_place k queued) same ∙ at in
    let one : p.message ≡ message = cc in
    unlimited_on_at id queued other message are at (ap (λ (m : Message). m.stream) (sym one) ∙ p.on)

free_held : (id : ℕ) (queued : List Message) (history : History) (first acknowledged : ℕ) (streams : List Stream) (transfer : Option Transfer) → AreUnlimitedOn id queued → IsLogOfPieces queued history.log → HoldsQueued queued history.log streams
    → InFlight history first acknowledged transfer → AreFreeOn (IsPlacedOn id queued) streams (items_in transfer)
free_held id queued history first acknowledged streams transfer are cut queue_holds flight =
    record {
      wait = λ q w has p. (
          let was = queued_of queued (stream_at streams q).id (stream_at streams q).messages w (queue_holds.wait q) has in
          was.is.limits (placed_free id queued w.message_id w.message_id was.message are p refl was.at)
          );
      fly = flies transfer flight;
    }
  where
    flies : (t : Option Transfer) → InFlight history first acknowledged t → (k : ℕ) (item : Item) → slice_get (items_in t) k ≡ Some item → IsPlacedOn id queued item.fragment.message_id → (item.fragment.expires_at ≡ None) × (item.fragment.max_retransmissions ≡ None)
    flies None none k item at p = nothing k at
      where
        nothing : (k : ℕ) → slice_get [] k ≡ Some item → (item.fragment.expires_at ≡ None) × (item.fragment.max_retransmissions ≡ None)
        nothing zero at' = absurd (cc)
        nothing (suc k) at' = absurd (cc)
    flies (Some t) bears k item at p = (let n = bears.named k item at in n.limits (placed_free id queued item.fragment.message_id n.piece.place n.piece.message are p n.of (cut.pieces n.number n.piece n.at).at))

pub free_on_stream : (id : ℕ) (queued : List Message) (history : History) (first acknowledged : ℕ) (below : EndpointQueues) → AreUnlimitedOn id queued → QueuesFollowLog queued history first acknowledged below → FreeQueuesOn (IsPlacedOn id queued) below
free_on_stream id queued history first acknowledged below are stands = free_held id queued history first acknowledged below.queue.streams below.transfer are stands.cut stands.queue_holds stands.flight

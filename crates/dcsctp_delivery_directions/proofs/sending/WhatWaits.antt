-- Which messages wait once a fragment was handed out, where none may expire.
use Rattle.std.proofs.Common.{◌≡◌, ℕ, Bool, true, false, ◌<◌, ◌-◌, List, [], ◌∷◌, length, drop, refl, sym, ◌∙◌, ap, arith, subst, inl, inr}
use Rattle.std.specs.Prelude.{◌⊎◌, ◌&&◌, not, None, Some, is_some, slice_set, if◌then◌else◌}
use Rattle.std.proofs.lemmas.Bool.Decides.{eqb_tells}
use Rattle.std.proofs.lemmas.List.{get_or-set_same, get_or-set_other}
use Rattle.dcsctp_spec.specs.endpoint.Event.{Event}
use Rattle.dcsctp_spec.specs.types.declared.sending.UnderWay.{UnderWay}
use Rattle.dcsctp_spec.specs.types.queues.SendStreams.{Waiting, Stream, front_of, is_expired, without_front, stream_with_progress, stream_at, unused_stream}
use Rattle.dcsctp_spec.specs.queues.SendQueue.{SendQueueState}
use Rattle.dcsctp_spec.specs.queues.Sending.{Drops, none as drops_none, more as drops_more, reduced_queue, fragment_counted, progress_after, is_too_old, after_part, after_last, queue_after_producing, is_last}
use Rattle.dcsctp_delivery_directions.specs.sending.Places.{HasEntry}
use Rattle.dcsctp_delivery_directions.specs.sending.Losing.{NoneExpires}
use Rattle.dcsctp_delivery_directions.proofs.sending.Streams.{Shorter, at_set, numbered_reduced, last_shorter, within_streams}

pub front_has : (messages : List Waiting) (w : Waiting) → front_of messages ≡ Some w → HasEntry w messages
front_has [] w e = absurd (cc)
front_has (v ∷ messages) w e = inl (let same : v ≡ w = cc in sym same)

-- nothing is dropped
pub stays_fresh : (now : ℕ) (w : Waiting) → w.expires_at ≡ None → is_expired now w ≡ false
stays_fresh now w is = rw is refl

pub never_old : (now : ℕ) (w : Waiting) (s : Stream) → w.expires_at ≡ None → is_too_old now w s ≡ false
never_old now w s is = ap (λ (b : Bool). not (is_some s.under_way) && b) (stays_fresh now w is) ∙ go (is_some s.under_way)
  where
    go : (b : Bool) → (not b && false) ≡ false
    go true = refl
    go false = refl

pub no_drops : {P : Type 0} (now : ℕ) (old : SendQueueState) (events : List (Event P)) (new : SendQueueState) → NoneExpires old.streams → Drops now old events new → new ≡ old
no_drops now old events new never drops_none = refl
no_drops now old events new never (drops_more events' queue place message drops next front expired) =
    let same : queue ≡ old = no_drops now old events' queue never drops in
    let has : HasEntry message (stream_at old.streams place).messages = subst (λ (q : SendQueueState). HasEntry message (stream_at q.streams place).messages) same (front_has (stream_at queue.streams place).messages message front) in
    let clash : true ≡ false = sym expired ∙ never_old now message (stream_at queue.streams place) (never place message has) in
    absurd (cc)

-- ---- a fragment is handed out

-- all wait on after a part of it
pub part_messages : (place : ℕ) (message : Waiting) (under_way : UnderWay) (queue : SendQueueState) (max q : ℕ) → (stream_at (after_part place max message under_way queue).streams q).messages ≡ (stream_at queue.streams q).messages
part_messages place message under_way queue max q =
    let counted : SendQueueState = fragment_counted place max message under_way (reduced_queue place max queue) in
    let alike = numbered_reduced place max message under_way queue in
    elim (at_set counted.streams place q (stream_with_progress (progress_after max under_way) (stream_at counted.streams place))) [
      | inl e ↦ ap (λ (s : Stream). s.messages) e ∙ alike.messages q
      | inr e ↦ ap (λ (s : Stream). s.messages) e.1 ∙ ap (λ (k : ℕ). (stream_at counted.streams k).messages) (sym e.0) ∙ alike.messages q
    ]

module _ (place : ℕ) (message : Waiting) (under_way : UnderWay) (queue : SendQueueState) (front : front_of (stream_at queue.streams place).messages ≡ Some message) where
  pub part_waits : (max q : ℕ) (w : Waiting) → HasEntry w (stream_at queue.streams q).messages → HasEntry w (stream_at (after_part place max message under_way queue).streams q).messages
  part_waits max q w has = subst (λ (l : List Waiting). HasEntry w l) (sym (part_messages place message under_way queue max q)) has

  pub last_waits : (q : ℕ) (w : Waiting) → HasEntry w (stream_at queue.streams q).messages → (w ≡ message) ⊎ HasEntry w (stream_at (after_last place message under_way queue).streams q).messages
  last_waits q w has =
      let size : ℕ = length message.payload - under_way.sent in
      let between : SendQueueState = fragment_counted place size message under_way (reduced_queue place size queue) in
      let alike = numbered_reduced place size message under_way queue in
      let here : HasEntry w (stream_at between.streams q).messages = subst (λ (l : List Waiting). HasEntry w l) (sym (alike.messages q)) has in
      let sizes = alike.sizes in
      let within : place < length between.streams = (let inside = within_streams queue.streams place message front in omega (arith, inside, sizes)) in
      elim (eqb_tells q place) [
        | inr e ↦ inr (subst (λ (s : Stream). HasEntry w s.messages) (sym (get_or-set_other between.streams place q (without_front (stream_at between.streams place)) (unused_stream 0 0 0) e.1)) here)
        | inl e ↦
            (let there : HasEntry w (stream_at between.streams place).messages = subst (λ (k : ℕ). HasEntry w (stream_at between.streams k).messages) e.1 here in
            let front' : front_of (stream_at between.streams place).messages ≡ Some message = ap front_of (alike.messages place) ∙ front in
            elim (first_or_rest (stream_at between.streams place).messages front' there) [
              | inl same ↦ inl same
              | inr rest ↦
                  inr (subst (λ (k : ℕ). HasEntry w (stream_at (slice_set between.streams place (without_front (stream_at between.streams place))) k).messages) (sym e.1)
                  (subst (λ (s : Stream). HasEntry w s.messages) (sym (get_or-set_same between.streams place (without_front (stream_at between.streams place)) (unused_stream 0 0 0) within)) rest))
            ])
      ]
    where
      first_or_rest : (messages : List Waiting) → front_of messages ≡ Some message → HasEntry w messages → (w ≡ message) ⊎ HasEntry w (drop 1 messages)
      first_or_rest [] e has' = absurd (cc)
      first_or_rest (v ∷ messages) e has' = let same : v ≡ message = cc in elim has' [ inl is ↦ inl (is ∙ same) | inr t ↦ inr t ]

  -- It waits still, or is the message that was handed out.
  pub produced_waits : (max q : ℕ) (w : Waiting) → HasEntry w (stream_at queue.streams q).messages → (w ≡ message) ⊎ HasEntry w (stream_at (queue_after_producing place max message under_way queue).streams q).messages
  produced_waits max q w has = go (is_last max message under_way)
    where
      go : (b : Bool) → (w ≡ message) ⊎ HasEntry w (stream_at (if b then after_last place message under_way queue else after_part place max message under_way queue).streams q).messages
      go true = last_waits q w has
      go false = inr (part_waits max q w has)

-- ---- What waits then waited before.

dropped_waited : (messages : List Waiting) (w : Waiting) → HasEntry w (drop 1 messages) → HasEntry w messages
dropped_waited [] w has = has
dropped_waited (v ∷ messages) w has = inr has

pub shorter_waited : (old new : List Stream) → Shorter old new → (q : ℕ) (w : Waiting) → HasEntry w (stream_at new q).messages → HasEntry w (stream_at old q).messages
shorter_waited old new shorter q w has =
    elim (shorter.messages q) [
      | inl e ↦ subst (λ (l : List Waiting). HasEntry w l) e.0 has
      | inr e ↦ dropped_waited (stream_at old q).messages w (subst (λ (l : List Waiting). HasEntry w l) e.0 has)
    ]

pub produced_waited : (place max : ℕ) (message : Waiting) (under_way : UnderWay) (queue : SendQueueState) (q : ℕ) (w : Waiting) → HasEntry w (stream_at (queue_after_producing place max message under_way queue).streams q).messages
    → HasEntry w (stream_at queue.streams q).messages
produced_waited place max message under_way queue q w has = go (is_last max message under_way) has
  where
    go : (b : Bool) → HasEntry w (stream_at (if b then after_last place message under_way queue else after_part place max message under_way queue).streams q).messages → HasEntry w (stream_at queue.streams q).messages
    go true has' = shorter_waited queue.streams (after_last place message under_way queue).streams (last_shorter place message under_way queue) q w has'
    go false has' = subst (λ (l : List Waiting). HasEntry w l) (part_messages place message under_way queue max q) has'

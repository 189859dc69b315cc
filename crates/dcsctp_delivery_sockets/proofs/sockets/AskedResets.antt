-- When a user resets a stream, by the messages that it had queued.
use Rattle.std.proofs.Common.{◌≡◌, ◌==◌, ℕ, Bool, true, false, List, [], ◌∷◌, ◌++◌, ◌⊎◌, length, refl, sym, ◌∙◌, ap, arith, inl, inr}
use Rattle.std.specs.Prelude.{◌&&◌, ◌||◌, not, Option, None, Some, is_some}
use Rattle.std.proofs.lemmas.Bool.{eq-eqb}
use Rattle.std.proofs.lemmas.Bool.Decides.{eqb_tells}
use Rattle.dcsctp_spec_lemmas.specs.types.declared.options.Options.{Options}
use Rattle.dcsctp_spec_lemmas.specs.spec.endpoint.CallTurns.{Transition, after_all}
use Rattle.dcsctp_spec_lemmas.specs.spec.endpoint.Endpoint.{Endpoint, fresh_endpoint}
use Rattle.dcsctp_spec_lemmas.specs.spec.endpoint.PreparedResets.{ResetRefusal, reset_refusal}
use Rattle.dcsctp_spec_lemmas.specs.spec.endpoint.Turn.{Input}
use Rattle.dcsctp_spec_lemmas.specs.types.queues.SendStreams.{Waiting}
use Rattle.dcsctp_delivery_directions.specs.sending.Log.{Message}
use Rattle.dcsctp_delivery_directions.specs.sending.Numbers.{stream_named}
use Rattle.dcsctp_delivery_directions.proofs.receiving.Joining.{both}
use Rattle.dcsctp_delivery_sockets.specs.turns.Actions.{queued_after, resets_stream}
use Rattle.dcsctp_delivery_sockets.specs.sockets.Acts.{queued_through}
use Rattle.dcsctp_delivery_sockets.specs.sockets.Epochs.{HasReset, ResetsWithNoneWaiting}
use Rattle.dcsctp_delivery_sockets.proofs.sockets.UserMessages.{nothing_same, turns_same}

-- does the user reset the stream by this turn, when these messages were queued, that many?
abbrev asks_now : Endpoint → List Message → Input → ℕ → ℕ → Bool
asks_now e queued input stream count = (resets_stream stream input && not (is_some (reset_refusal e))) && (length queued == count)

-- does it by one of these?
abbrev pub asked_through : Endpoint → List Message → List Transition → ℕ → ℕ → Bool
asked_through e queued [] stream count = false
asked_through e queued (turn ∷ turns) stream count = asks_now e queued turn.input stream count || asked_through turn.outcome.after (queued_after e turn.input queued) turns stream count

abbrev none_waits : List Waiting → Bool
none_waits [] = true
none_waits (waiting ∷ others) = false

-- Does nothing of the stream wait then, if it does so by this turn?
abbrev empties_now : Endpoint → List Message → Input → ℕ → ℕ → Bool
empties_now e queued input stream count = not (asks_now e queued input stream count) || none_waits (stream_named stream e.queues.queue.streams).messages

-- by each of these?
abbrev pub emptied_through : Endpoint → List Message → List Transition → ℕ → ℕ → Bool
emptied_through e queued [] stream count = true
emptied_through e queued (turn ∷ turns) stream count = empties_now e queued turn.input stream count && emptied_through turn.outcome.after (queued_after e turn.input queued) turns stream count

or_true : (b : Bool) → (b || true) ≡ true
or_true true = refl
or_true false = refl

pub asked_first : (e : Endpoint) (queued : List Message) (turn : Transition) (turns : List Transition) (stream : ℕ) → reset_refusal e ≡ None → resets_stream stream turn.input ≡ true → asked_through e queued (turn ∷ turns) stream (length queued) ≡ true
asked_first e queued turn turns stream accepted resets =
    ap (λ (b : Bool). ((b && not (is_some (reset_refusal e))) && (length queued == length queued)) || asked_through turn.outcome.after (queued_after e turn.input queued) turns stream (length queued)) resets
    ∙ ap (λ (r : Option ResetRefusal). (not (is_some r) && (length queued == length queued)) || asked_through turn.outcome.after (queued_after e turn.input queued) turns stream (length queued)) accepted
    ∙ ap (λ (b : Bool). b || asked_through turn.outcome.after (queued_after e turn.input queued) turns stream (length queued)) (eq-eqb (length queued) (length queued) refl)

pub asked_later : (e : Endpoint) (queued : List Message) (turn : Transition) (turns : List Transition) (stream count : ℕ) → asked_through turn.outcome.after (queued_after e turn.input queued) turns stream count ≡ true → asked_through e queued (turn ∷ turns) stream count ≡ true
asked_later e queued turn turns stream count is = ap (λ (b : Bool). asks_now e queued turn.input stream count || b) is ∙ or_true (asks_now e queued turn.input stream count)

-- So it is at the first one, if it asks,
pub emptied_first : (e : Endpoint) (queued : List Message) (turn : Transition) (turns : List Transition) (stream : ℕ) → reset_refusal e ≡ None → resets_stream stream turn.input ≡ true → emptied_through e queued (turn ∷ turns) stream (length queued) ≡ true
    → (stream_named stream e.queues.queue.streams).messages ≡ []
emptied_first e queued turn turns stream accepted resets is =
    let (now, later) = both (empties_now e queued turn.input stream (length queued)) (emptied_through turn.outcome.after (queued_after e turn.input queued) turns stream (length queued)) is in
    let asks : asks_now e queued turn.input stream (length queued) ≡ true =
    ap (λ (b : Bool). (b && not (is_some (reset_refusal e))) && (length queued == length queued)) resets ∙ ap (λ (r : Option ResetRefusal). not (is_some r) && (length queued == length queued)) accepted ∙ eq-eqb (length queued) (length queued) refl in
    none_left (stream_named stream e.queues.queue.streams).messages (ap (λ (b : Bool). not b || none_waits (stream_named stream e.queues.queue.streams).messages) (sym asks) ∙ now)
  where
    none_left : (waiting : List Waiting) → none_waits waiting ≡ true → waiting ≡ []
    none_left [] none = refl
    none_left (one ∷ others) none = absurd (cc)

-- and at each later one.
pub emptied_later : (e : Endpoint) (queued : List Message) (turn : Transition) (turns : List Transition) (stream count : ℕ) → emptied_through e queued (turn ∷ turns) stream count ≡ true → emptied_through turn.outcome.after (queued_after e turn.input queued) turns stream count ≡ true
emptied_later e queued turn turns stream count is = (both (empties_now e queued turn.input stream count) (emptied_through turn.outcome.after (queued_after e turn.input queued) turns stream count) is).1

-- The turn by which it does.
record FoundAsk (e : Endpoint) (queued : List Message) (turns : List Transition) (stream count : ℕ) : Type 0 where
  earlier : List Transition
  ask : Transition
  later : List Transition
  is : turns ≡ earlier ++ ask ∷ later
  resets : resets_stream stream ask.input ≡ true
  accepted : reset_refusal (after_all e earlier) ≡ None
  count_is : length (queued_through e earlier queued) ≡ count

none_refused : (found : Option ResetRefusal) → not (is_some found) ≡ true → found ≡ None
none_refused None is = refl
none_refused (Some refusal) is = absurd (cc)

decide : (b : Bool) → (b ≡ true) ⊎ (b ≡ false)
decide true = inl refl
decide false = inr refl

only_later : (b later : Bool) → b ≡ false → (b || later) ≡ true → later ≡ true
only_later true later is both_so = absurd (let clash : true ≡ false = is in cc)
only_later false later is both_so = both_so

found_ask : (e : Endpoint) (queued : List Message) (turns : List Transition) (stream count : ℕ) → asked_through e queued turns stream count ≡ true → FoundAsk e queued turns stream count
found_ask e queued [] stream count is = absurd (cc)
found_ask e queued (turn ∷ turns) stream count is =
    elim (decide (asks_now e queued turn.input stream count)) [
      | inl asks ↦
          (let (does, same) = both (resets_stream stream turn.input && not (is_some (reset_refusal e))) (length queued == count) asks in
          let (resets, accepted) = both (resets_stream stream turn.input) (not (is_some (reset_refusal e))) does in
          record {
            earlier = [];
            ask = turn;
            later = turns;
            is = refl;
            resets = resets;
            accepted = none_refused (reset_refusal e) accepted;
            count_is = elim (eqb_tells (length queued) count) [ inl t ↦ t.1 | inr t ↦ absurd (let clash : true ≡ false = sym same ∙ t.0 in cc) ];
          })
      | inr none ↦
          (let found = found_ask turn.outcome.after (queued_after e turn.input queued) turns stream count (only_later (asks_now e queued turn.input stream count) _ none is) in
          record {
            earlier = turn ∷ found.earlier;
            ask = found.ask;
            later = found.later;
            is = ap (λ (l : List Transition). turn ∷ l) found.is;
            resets = found.resets;
            accepted = found.accepted;
            count_is = found.count_is;
          })
    ]

-- So it has reset the stream, once it had sent so many.
pub has_reset_so : (options : Options) (turns : List Transition) (stream count : ℕ) → asked_through (fresh_endpoint options) [] turns stream count ≡ true → HasReset options turns stream count
has_reset_so options turns stream count is =
    let found = found_ask (fresh_endpoint options) [] turns stream count is in
    let same = turns_same (λ sending. sending) (fresh_endpoint options) found.earlier [] [] (nothing_same (λ sending. sending)) in
    record {
      earlier = found.earlier;
      ask = found.ask;
      later = found.later;
      is = found.is;
      resets = found.resets;
      accepted = found.accepted;
      sent_is = (let size = same.size in let count_is = found.count_is in omega (arith, size, count_is));
    }

both_true : (a b : Bool) → a ≡ true → b ≡ true → (a && b) ≡ true
both_true true b is is' = is'
both_true false b is is' = absurd (cc)

emptied_each : (e : Endpoint) (queued : List Message) (turns : List Transition) (stream count : ℕ) → ((found : FoundAsk e queued turns stream count) → (stream_named stream (after_all e found.earlier).queues.queue.streams).messages ≡ []) → emptied_through e queued turns stream count ≡ true
emptied_each e queued [] stream count each = refl
emptied_each e queued (turn ∷ turns) stream count each =
    both_true (empties_now e queued turn.input stream count) (emptied_through turn.outcome.after (queued_after e turn.input queued) turns stream count)
    (elim (decide (asks_now e queued turn.input stream count)) [
      | inl asks ↦
          (let (does, same) = both (resets_stream stream turn.input && not (is_some (reset_refusal e))) (length queued == count) asks in
          let (resets, accepted) = both (resets_stream stream turn.input) (not (is_some (reset_refusal e))) does in
          let none = each (record {
            earlier = [];
            ask = turn;
            later = turns;
            is = refl;
            resets = resets;
            accepted = none_refused (reset_refusal e) accepted;
            count_is = elim (eqb_tells (length queued) count) [ inl t ↦ t.1 | inr t ↦ absurd (let clash : true ≡ false = sym same ∙ t.0 in cc) ];
          }) in
          ap (λ (waiting : List Waiting). not (asks_now e queued turn.input stream count) || none_waits waiting) none ∙ or_true (not (asks_now e queued turn.input stream count)))
      | inr not_now ↦ ap (λ (b : Bool). not b || none_waits (stream_named stream e.queues.queue.streams).messages) not_now
    ])
    (emptied_each turn.outcome.after (queued_after e turn.input queued) turns stream count
    (λ found. each (record {
      earlier = turn ∷ found.earlier;
      ask = found.ask;
      later = found.later;
      is = ap (λ (l : List Transition). turn ∷ l) found.is;
      resets = found.resets;
      accepted = found.accepted;
      count_is = found.count_is;
    })))

-- Where none waits at each such call, none is said to.
pub emptied_so : (options : Options) (turns : List Transition) (stream count : ℕ) → ResetsWithNoneWaiting options turns stream count → emptied_through (fresh_endpoint options) [] turns stream count ≡ true
emptied_so options turns stream count none =
    emptied_each (fresh_endpoint options) [] turns stream count
    (λ found. (
    let same = turns_same (λ sending. sending) (fresh_endpoint options) found.earlier [] [] (nothing_same (λ sending. sending)) in
    none (record {
      earlier = found.earlier;
      ask = found.ask;
      later = found.later;
      is = found.is;
      resets = found.resets;
      accepted = found.accepted;
      sent_is = (let size = same.size in let count_is = found.count_is in omega (arith, size, count_is));
    })
    ))

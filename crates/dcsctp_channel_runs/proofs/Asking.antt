-- The calls that reset a stream, among what was sent.
use Rattle.std.proofs.Common.{◌≡◌, ◌==◌, ◌||◌, ℕ, Bool, true, false, List, [], ◌∷◌, ◌++◌, length, refl, sym, ap, ◌∙◌, inl, inr}
use Rattle.std.proofs.lemmas.Bool.{eqb-true}
use Rattle.dcsctp_delivery_directions.specs.sending.Places.{HasEntry}
use Rattle.dcsctp_delivery_sockets.specs.sockets.Epochs.{HasReset}
use Rattle.dcsctp_delivery_sockets.specs.turns.Actions.{resets_stream}
use Rattle.dcsctp_channel_calls.specs.api.types.declared.options.Options.{Options}
use Rattle.dcsctp_channel_calls.specs.api.spec.endpoint.CallTurns.{Transition, after_all}
use Rattle.dcsctp_channel_calls.specs.api.spec.endpoint.Endpoint.{Endpoint, fresh_endpoint}
use Rattle.dcsctp_channel_calls.specs.api.spec.endpoint.MessageOutcomes.{Sending}
use Rattle.dcsctp_channel_calls.specs.api.spec.endpoint.Turn.{Input, arrival, refusal, packet_begins, chunk_input, packet_ends, act_input, user_sets, user_sends, user_resets, user_takes, timer_expires, time_passes, restores}
use Rattle.dcsctp_channel_calls.specs.api.spec.queues.Incoming.{is_named}
use Rattle.dcsctp_channel_runs.proofs.Deeds.{deeds_of_input, deeds_of_turns, deeds-append, sendings_are, Deed, asks, sendings_in}

-- This stream was reset once so many messages were sent.
pub record IsAskedAt (number : ℕ) (deeds : List Deed) (count : ℕ) : Type 0 where
  pub front : List Deed
  pub ids : List ℕ
  pub back : List Deed
  pub is : deeds ≡ front ++ asks ids ∷ back
  pub named : HasEntry number ids
  pub count_is : length (sendings_in front) ≡ count

first_or_later : (first id : ℕ) (ids : List ℕ) (b : Bool) → (first == id) ≡ b → (b || is_named ids id) ≡ true → (is_named ids id ≡ true → HasEntry id ids) → HasEntry id (first ∷ ids)
first_or_later first id ids true same named later = inl (sym (eqb-true first id same))
first_or_later first id ids false apart named later = inr (later named)

named_there : (ids : List ℕ) (id : ℕ) → is_named ids id ≡ true → HasEntry id ids
named_there [] id is = absurd cc
named_there (first ∷ ids) id is = first_or_later first id ids (first == id) refl is (named_there ids id)

-- a call that resets the stream
record ResetsIt (number : ℕ) (input : Input) : Type 0 where
  ids : List ℕ
  is : input ≡ user_resets ids
  named : HasEntry number ids

resets_it : (number : ℕ) (input : Input) → resets_stream number input ≡ true → ResetsIt number input
resets_it number arrival is = absurd cc
resets_it number (refusal text) is = absurd cc
resets_it number (packet_begins contents) is = absurd cc
resets_it number (chunk_input tag content) is = absurd cc
resets_it number packet_ends is = absurd cc
resets_it number (act_input act) is = absurd cc
resets_it number (user_sets setting) is = absurd cc
resets_it number (user_sends sendings) is = absurd cc
resets_it number (user_resets ids) is = record { ids = ids; is = refl; named = named_there ids number is }
resets_it number user_takes is = absurd cc
resets_it number (timer_expires timer) is = absurd cc
resets_it number (time_passes moment) is = absurd cc
resets_it number (restores state) is = absurd cc

pub asked_there : (options : Options) (turns : List Transition) (number count : ℕ) → HasReset options turns number count → IsAskedAt number (deeds_of_turns (fresh_endpoint options) turns) count
asked_there options turns number count reset =
    let e : Endpoint = fresh_endpoint options in
    let ask = resets_it number reset.ask.input reset.resets in
    record {
      front = deeds_of_turns e reset.earlier;
      ids = ask.ids;
      back = deeds_of_turns reset.ask.outcome.after reset.later;
      is = ap (deeds_of_turns e) reset.is ∙ deeds-append e reset.earlier (reset.ask ∷ reset.later)
          ∙ ap (λ (i : Input). deeds_of_turns e reset.earlier ++ (deeds_of_input (after_all e reset.earlier) i ++ deeds_of_turns reset.ask.outcome.after reset.later)) ask.is;
      named = ask.named;
      count_is = ap (λ (l : List Sending). length l) (sendings_are e reset.earlier) ∙ reset.sent_is;
    }

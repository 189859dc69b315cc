-- Each call by which a user resets a stream, if it isn't refused, is one that was made.
use Rattle.std.proofs.Common.{◌≡◌, ℕ, Option, None, Some, List, [], ◌∷◌, ◌++◌, length, refl, sym, ◌∙◌, subst, inl, inr, true}
use Rattle.dcsctp_spec_lemmas.specs.types.declared.options.Options.{Options}
use Rattle.dcsctp_spec_lemmas.specs.spec.endpoint.CallTurns.{Transition, after_all}
use Rattle.dcsctp_spec_lemmas.specs.spec.endpoint.Endpoint.{Endpoint, fresh_endpoint}
use Rattle.dcsctp_spec_lemmas.specs.spec.endpoint.Turn.{Input, arrival, refusal, packet_begins, chunk_input, packet_ends, act_input, user_sets, user_sends, user_resets, user_takes, timer_expires, time_passes, restores}
use Rattle.dcsctp_spec_lemmas.specs.spec.queues.Incoming.{is_named}
use Rattle.dcsctp_delivery_directions.specs.epochs.Reports.{WasPrepared}
use Rattle.dcsctp_delivery_directions.specs.directions.Directions.{PreparedReset}
use Rattle.dcsctp_delivery_directions.specs.sending.Log.{Message}
use Rattle.dcsctp_delivery_directions.specs.sending.Places.{HasEntry}
use Rattle.dcsctp_delivery_sockets.specs.turns.Actions.{queued_after, resets_stream, streams_user_resets}
use Rattle.dcsctp_delivery_sockets.specs.turns.Runs.{accepted_resets, prepared_with, prepared_after}
use Rattle.dcsctp_delivery_sockets.proofs.turns.Turns.{accepted_is}
use Rattle.dcsctp_delivery_sockets.specs.sockets.Acts.{queued_through, made_through}
use Rattle.dcsctp_delivery_sockets.specs.sockets.Epochs.{HasReset}
use Rattle.dcsctp_delivery_sockets.proofs.sockets.Stands.{made_of}
use Rattle.dcsctp_delivery_sockets.proofs.sockets.UserMessages.{nothing_same, turns_same}

-- Such a call names the stream.
record Names (stream : ℕ) (input : Input) : Type 0 where
  ids : List ℕ
  is : streams_user_resets input ≡ Some ids
  named : is_named ids stream ≡ true

names_by : (stream : ℕ) (input : Input) → resets_stream stream input ≡ true → Names stream input
names_by stream arrival is = absurd (cc)
names_by stream (refusal text) is = absurd (cc)
names_by stream (packet_begins contents) is = absurd (cc)
names_by stream (chunk_input tag content) is = absurd (cc)
names_by stream packet_ends is = absurd (cc)
names_by stream (act_input act) is = absurd (cc)
names_by stream (user_sets setting) is = absurd (cc)
names_by stream (user_sends messages) is = absurd (cc)
names_by stream (user_resets ids) is = record { ids = ids; is = refl; named = is }
names_by stream user_takes is = absurd (cc)
names_by stream (timer_expires timer) is = absurd (cc)
names_by stream (time_passes moment) is = absurd (cc)
names_by stream (restores state) is = absurd (cc)

with_more : (accepted : Option (List ℕ)) (count : ℕ) (made : List PreparedReset) (call : PreparedReset) → HasEntry call made → HasEntry call (prepared_with accepted count made)
with_more None count made call has = has
with_more (Some ids) count made call has = inr has

made_later : (call : PreparedReset) (e : Endpoint) (turns : List Transition) (queued : List Message) (made : List PreparedReset) → HasEntry call made → HasEntry call (made_through e turns queued made)
made_later call e [] queued made has = has
made_later call e (t ∷ turns) queued made has =
    made_later call t.outcome.after turns (queued_after e t.input queued) (prepared_after e t.input (length queued) made) (with_more (accepted_resets e t.input) (length queued) made call has)

made_at : (ids : List ℕ) (e : Endpoint) (earlier : List Transition) (ask : Transition) (later : List Transition) (queued : List Message) (made : List PreparedReset) → accepted_resets (after_all e earlier) ask.input ≡ Some ids
    → HasEntry (record { ids = ids; count = length (queued_through e earlier queued) }) (made_through e (earlier ++ ask ∷ later) queued made)
made_at ids e [] ask later queued made is =
    made_later (record { ids = ids; count = length queued }) ask.outcome.after later (queued_after e ask.input queued) (prepared_after e ask.input (length queued) made)
    (subst (λ (accepted : Option (List ℕ)). HasEntry (record { ids = ids; count = length queued }) (prepared_with accepted (length queued) made)) (sym is) (inl refl))
made_at ids e (t ∷ earlier) ask later queued made is = made_at ids t.outcome.after earlier ask later (queued_after e t.input queued) (prepared_after e t.input (length queued) made) is

pub was_made : (options : Options) (turns : List Transition) (stream count : ℕ) → HasReset options turns stream count → WasPrepared (made_of options turns) stream count
was_made options turns stream count r =
    let n = names_by stream r.ask.input r.resets in
    let same = turns_same (λ sending. sending) (fresh_endpoint options) r.earlier [] [] (nothing_same (λ sending. sending)) in
    record {
      call = record { ids = n.ids; count = length (queued_through (fresh_endpoint options) r.earlier []) };
      has = subst (λ (ts : List Transition). HasEntry (record { ids = n.ids; count = length (queued_through (fresh_endpoint options) r.earlier []) }) (made_of options ts)) (sym r.is)
          (made_at n.ids (fresh_endpoint options) r.earlier r.ask r.later [] [] (accepted_is (after_all (fresh_endpoint options) r.earlier) r.ask.input n.ids n.is r.accepted));
      named = n.named;
      count_is = same.size ∙ r.sent_is;
    }

-- The actions of a socket leave how its queue numbers messages.
use Rattle.std.proofs.Common.{◌≡◌, ℕ, Option, refl, ◌∙◌, ap}
use Rattle.dcsctp_spec_lemmas.specs.spec.Packet.{Content}
use Rattle.dcsctp_spec_lemmas.specs.spec.queues.Transfer.{EndpointQueues}
use Rattle.dcsctp_spec_lemmas.specs.spec.endpoint.FlushOutcomes.{first_ask, packets_allowed}
use Rattle.dcsctp_delivery_directions.proofs.sending.NextIdentifiers.{flush_kind}
use Rattle.dcsctp_delivery_directions.proofs.sending.Settings.{setting_kind}
use Rattle.dcsctp_delivery_sockets.specs.turns.Actions.{Ledger, Action, queues, sets, flushes, resends, resends_nothing, speaks, asks_again, acknowledges, loses, receives, receives_interleaved, forwards, forwards_interleaved, tracks, times, takes, Actions, nothing, further}

action_kind : (came : Option Content) (to : ℕ) (old new : Ledger) → Action came to old new → new.queues.queue.is_interleaved ≡ old.queues.queue.is_interleaved
action_kind came to old _ (queues now sending fit some) = refl
action_kind came to old _ (sets setting small) = setting_kind setting old.queues.queue
action_kind came to old _ (flushes e draft answers same at tag no_data no_end stale says allowed) =
    flush_kind first_ask (packets_allowed e.options.max_burst e.core) e draft answers allowed ∙ ap (λ (b : EndpointQueues). b.queue.is_interleaved) same
action_kind came to old _ (resends now room transfer left tsns chunks emission tag known does are contents) = refl
action_kind came to old _ (resends_nothing now room transfer left tsns known does) = refl
action_kind came to old _ (speaks emission no_data stale says) = refl
action_kind came to old _ (asks_again emission begun tag was contents) = refl
action_kind came to old _ (acknowledges now sack transfer new may known valid does) = refl
action_kind came to old _ (loses now transfer known) = refl
action_kind came to old _ (receives chunk transfer new is some known does) = refl
action_kind came to old _ (receives_interleaved chunk transfer new is some known does) = refl
action_kind came to old _ (forwards tsn streams transfer new is known does) = refl
action_kind came to old _ (forwards_interleaved tsn streams transfer new is known does) = refl
action_kind came to old _ (tracks transfer tracked known cumulative ranges) = refl
action_kind came to old _ (times round_trip transfer known) = refl
action_kind came to old _ (takes transfer message messages known ready) = refl

pub actions_kind : (came : Option Content) (to : ℕ) (old new : Ledger) → Actions came to old new → new.queues.queue.is_interleaved ≡ old.queues.queue.is_interleaved
actions_kind came to old _ nothing = refl
actions_kind came to old _ (further between new first last) = action_kind came to between new last ∙ actions_kind came to old between first

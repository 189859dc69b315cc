-- What a step of a direction leaves as it is.
use Rattle.std.proofs.Common.{◌≤◌, ◌+◌, ◌^◌, length, arith, ◌≡◌, ℕ, Bool, true, false, List, [], ◌∷◌, ◌++◌, refl, sym, ◌∙◌, ap, subst, inl, inr}
use Rattle.std.specs.Prelude.{Option, None, Some}
use Rattle.dcsctp_spec_lemmas.specs.types.queues.SendStreams.{Stream}
use Rattle.dcsctp_spec_lemmas.specs.spec.endpoint.BegunResets.{BegunReset}
use Rattle.dcsctp_spec_lemmas.specs.spec.queues.Reassembly.{names_stream}
use Rattle.dcsctp_delivery_directions.specs.sending.Places.{HasEntry}
use Rattle.dcsctp_delivery_directions.specs.sending.Flushes.{begun_reset_of}
use Rattle.dcsctp_delivery_directions.specs.sending.Numbers.{is_handed_out, stream_named}
use Rattle.dcsctp_delivery_directions.proofs.directions.Flushing.{flush_hands}
use Rattle.dcsctp_delivery_directions.proofs.directions.Standing.{Stands}
use Rattle.dcsctp_spec_lemmas.specs.spec.Packet.{Emission}
use Rattle.dcsctp_spec_lemmas.specs.spec.endpoint.Event.{packets_of_events}
use Rattle.dcsctp_spec_lemmas.specs.spec.endpoint.FlushOutcomes.{first_ask, packets_allowed, flush_of}
use Rattle.dcsctp_spec_lemmas.specs.spec.queues.Transfer.{EndpointQueues}
use Rattle.std.specs.List.{AllByRecursion}
use Rattle.dcsctp_delivery_directions.specs.sending.Log.{Fits, Message}
use Rattle.dcsctp_delivery_directions.proofs.sending.NextIdentifiers.{flush_kind}
use Rattle.dcsctp_delivery_directions.proofs.sending.Prepared.{preparing_kind}
use Rattle.dcsctp_delivery_directions.proofs.sending.Settings.{setting_kind}
use Rattle.dcsctp_delivery_directions.specs.directions.Directions.{Direction, Asking, asking_with, DirectionStep, queues, sets, prepares, commits, rolls_back, flushes, resends, resends_nothing, speaks, asks_again, renews, turns_aside, acknowledges, loses, receives, forwards, receives_interleaved, forwards_interleaved, tracks, defers, performs, resets, performs_earlier, takes}
use Rattle.dcsctp_delivery_directions.specs.directions.Forwards.{NoneForwards}

-- So many bytes can be counted (64 bits) beside a receive window of this size, and beside twice its size or 2^63 bytes, whichever is
-- less.
pub record IsCounted (size bytes : ℕ) : Type 0 where
  pub whole : size + bytes ≤ 2 ^ 64
  pub half : bytes ≤ 2 ^ 63

-- Each message can be. So data for which there is room isn't dropped after its TSN was noted as received.
abbrev pub CanBeCounted : ℕ → List Message → Type 0
CanBeCounted size queued = AllByRecursion (λ message. IsCounted size (length message.payload)) queued

-- So it is with a window that is small enough.
pub can_count : (size : ℕ) (queued : List Message) → size ≤ 2 ^ 63 → AllByRecursion Fits queued → CanBeCounted size queued
can_count size [] small fit = tt
can_count size (message ∷ queued) small fit =
    let below = fit.0.size in
    (record { whole = omega (arith, small, below); half = omega (arith, below) }, can_count size queued small fit.1)

-- messages are interleaved, or not, as before
pub same_kind : (old direction : Direction) → DirectionStep old direction → direction.queues.queue.is_interleaved ≡ old.queues.queue.is_interleaved
same_kind old _ (queues now sending fits some) = refl
same_kind old _ (sets setting fits) = setting_kind setting old.queues.queue
same_kind old _ (prepares ids fit kept) = preparing_kind ids old.queues.queue
same_kind old _ (commits go_on) = refl
same_kind old _ (rolls_back unmixed) = refl
same_kind old _ (flushes e draft answers same no_data allowed) = flush_kind first_ask (packets_allowed e.options.max_burst e.core) e draft answers allowed ∙ ap (λ (b : EndpointQueues). b.queue.is_interleaved) same
same_kind old _ (resends now room transfer left tsns chunks emission known sends are contents) = refl
same_kind old _ (resends_nothing now room transfer left tsns known sends) = refl
same_kind old _ (speaks emission no_data) = refl
same_kind old _ (asks_again emission begun was contents) = refl
same_kind old _ (renews emission newest earlier number asks out contents) = refl
same_kind old _ (turns_aside transfer new known same) = refl
same_kind old _ (acknowledges now sack transfer new known valid reached does) = refl
same_kind old _ (loses now transfer known) = refl
same_kind old _ (receives emission chunk theirs new was holds some same same' does) = refl
same_kind old _ (forwards emission tsn streams theirs new was holds same same' does) = refl
same_kind old _ (receives_interleaved emission chunk theirs new was holds some same same' does) = refl
same_kind old _ (forwards_interleaved emission tsn streams theirs new was holds same same' does) = refl
same_kind old _ (tracks new cumulative ranges) = refl
same_kind old _ (defers last_tsn streams some) = refl
same_kind old _ (performs newest earlier new asks unknown reached own leaves) = refl
same_kind old _ (resets streams new unmixed some leaves) = refl
same_kind old _ (performs_earlier newest earlier new asks unknown reached own leaves) = refl
same_kind old _ (takes message messages ready) = refl

fewer : (old more : List Emission) → NoneForwards (old ++ more) → NoneForwards old
fewer [] more none = tt
fewer (emission ∷ old) more none = (none.0, fewer old more none.1)

-- what was sent and queued before is among it
pub none_before : (old direction : Direction) → DirectionStep old direction → NoneForwards direction.sent → NoneForwards old.sent
none_before old _ (queues now sending fits some) none = none
none_before old _ (sets setting fits) none = none
none_before old _ (prepares ids fit kept) none = none
none_before old _ (commits go_on) none = none
none_before old _ (rolls_back unmixed) none = none
none_before old _ (flushes e draft answers same no_data allowed) none = fewer old.sent (packets_of_events (flush_of e draft answers).events) none
none_before old _ (resends now room transfer left tsns chunks emission known sends are contents) none = fewer old.sent (emission ∷ []) none
none_before old _ (resends_nothing now room transfer left tsns known sends) none = none
none_before old _ (speaks emission no_data) none = fewer old.sent (emission ∷ []) none
none_before old _ (asks_again emission begun was contents) none = fewer old.sent (emission ∷ []) none
none_before old _ (renews emission newest earlier number asks out contents) none = fewer old.sent (emission ∷ []) none
none_before old _ (turns_aside transfer new known same) none = none
none_before old _ (acknowledges now sack transfer new known valid reached does) none = none
none_before old _ (loses now transfer known) none = none
none_before old _ (receives emission chunk theirs new was holds some same same' does) none = none
none_before old _ (forwards emission tsn streams theirs new was holds same same' does) none = none
none_before old _ (receives_interleaved emission chunk theirs new was holds some same same' does) none = none
none_before old _ (forwards_interleaved emission tsn streams theirs new was holds same same' does) none = none
none_before old _ (tracks new cumulative ranges) none = none
none_before old _ (defers last_tsn streams some) none = none
none_before old _ (performs newest earlier new asks unknown reached own leaves) none = none
none_before old _ (resets streams new unmixed some leaves) none = none
none_before old _ (performs_earlier newest earlier new asks unknown reached own leaves) none = none
none_before old _ (takes message messages ready) none = none

pub counted_before : (size : ℕ) (old direction : Direction) → DirectionStep old direction → CanBeCounted size direction.queued → CanBeCounted size old.queued
counted_before size old _ (queues now sending fits some) can = can.1
counted_before size old _ (sets setting fits) can = can
counted_before size old _ (prepares ids fit kept) can = can
counted_before size old _ (commits go_on) can = can
counted_before size old _ (rolls_back unmixed) can = can
counted_before size old _ (flushes e draft answers same no_data allowed) can = can
counted_before size old _ (resends now room transfer left tsns chunks emission known sends are contents) can = can
counted_before size old _ (resends_nothing now room transfer left tsns known sends) can = can
counted_before size old _ (speaks emission no_data) can = can
counted_before size old _ (asks_again emission begun was contents) can = can
counted_before size old _ (renews emission newest earlier number asks out contents) can = can
counted_before size old _ (turns_aside transfer new known same) can = can
counted_before size old _ (acknowledges now sack transfer new known valid reached does) can = can
counted_before size old _ (loses now transfer known) can = can
counted_before size old _ (receives emission chunk theirs new was holds some same same' does) can = can
counted_before size old _ (forwards emission tsn streams theirs new was holds same same' does) can = can
counted_before size old _ (receives_interleaved emission chunk theirs new was holds some same same' does) can = can
counted_before size old _ (forwards_interleaved emission tsn streams theirs new was holds same same' does) can = can
counted_before size old _ (tracks new cumulative ranges) can = can
counted_before size old _ (defers last_tsn streams some) can = can
counted_before size old _ (performs newest earlier new asks unknown reached own leaves) can = can
counted_before size old _ (resets streams new unmixed some leaves) can = can
counted_before size old _ (performs_earlier newest earlier new asks unknown reached own leaves) can = can
counted_before size old _ (takes message messages ready) can = can

-- a request that was begun before is among those that were
asked_with : (answer : Option BegunReset) (asking : Asking) (begun : BegunReset) → HasEntry begun asking.requests → HasEntry begun (asking_with answer asking).requests
asked_with None asking begun has = has
asked_with (Some one) asking begun has = inr has

pub asked_before : (old direction : Direction) → DirectionStep old direction → (begun : BegunReset) → HasEntry begun old.asking.requests → HasEntry begun direction.asking.requests
asked_before old _ (queues now sending fits some) begun has = has
asked_before old _ (sets setting fits) begun has = has
asked_before old _ (prepares ids fit kept) begun has = has
asked_before old _ (commits go_on) begun has = has
asked_before old _ (rolls_back unmixed) begun has = has
asked_before old _ (flushes e draft answers same no_data allowed) begun has = asked_with (begun_reset_of answers) old.asking begun has
asked_before old _ (resends now room transfer left tsns chunks emission known sends are contents) begun has = has
asked_before old _ (resends_nothing now room transfer left tsns known sends) begun has = has
asked_before old _ (speaks emission no_data) begun has = has
asked_before old _ (asks_again emission begun' was contents) begun has = has
asked_before old _ (renews emission newest earlier number asks out contents) begun has = inr has
asked_before old _ (turns_aside transfer new known same) begun has = has
asked_before old _ (acknowledges now sack transfer new known valid reached does) begun has = has
asked_before old _ (loses now transfer known) begun has = has
asked_before old _ (receives emission chunk theirs new was holds some same same' does) begun has = has
asked_before old _ (forwards emission tsn streams theirs new was holds same same' does) begun has = has
asked_before old _ (receives_interleaved emission chunk theirs new was holds some same same' does) begun has = has
asked_before old _ (forwards_interleaved emission tsn streams theirs new was holds same same' does) begun has = has
asked_before old _ (tracks new cumulative ranges) begun has = has
asked_before old _ (defers last_tsn streams some) begun has = has
asked_before old _ (performs newest earlier new asks unknown reached own leaves) begun has = has
asked_before old _ (resets streams new unmixed some leaves) begun has = has
asked_before old _ (performs_earlier newest earlier new asks unknown reached own leaves) begun has = has
asked_before old _ (takes message messages ready) begun has = has

-- Where a stream is open, a step begins no request that names it.
module _ (id first : ℕ) (old : Direction) (s : Stands first old) (unnamed : (begun : BegunReset) → HasEntry begun old.asking.requests → names_stream begun.reset.streams id ≡ false) where
  none_begun : (begun : Option BegunReset) (asking : Asking) → ((one : BegunReset) → HasEntry one asking.requests → names_stream one.reset.streams id ≡ false) → ((one : BegunReset) → begun ≡ Some one → names_stream one.reset.streams id ≡ false)
      → (one : BegunReset) → HasEntry one (asking_with begun asking).requests → names_stream one.reset.streams id ≡ false
  none_begun None asking before now one has = before one has
  none_begun (Some new) asking before now one has = elim has [ inl e ↦ now one (ap (λ (b : BegunReset). Some b) (sym e)) | inr t ↦ before one t ]

  not_handed_out : (b : Bool) (streams : List Stream) → is_handed_out (stream_named id streams).pause ≡ false → (b ≡ true → is_handed_out (stream_named id streams).pause ≡ true) → b ≡ false
  not_handed_out false streams shut handed = refl
  not_handed_out true streams shut handed = absurd (let clash : true ≡ false = sym (handed refl) ∙ shut in cc)

  pub stays_unnamed : (direction : Direction) → DirectionStep old direction → is_handed_out (stream_named id direction.queues.queue.streams).pause ≡ false
      → (begun : BegunReset) → HasEntry begun direction.asking.requests → names_stream begun.reset.streams id ≡ false
  stays_unnamed _ (queues now sending fits some) shut begun has = unnamed begun has
  stays_unnamed _ (sets setting fits) shut begun has = unnamed begun has
  stays_unnamed _ (prepares ids fit kept) shut begun has = unnamed begun has
  stays_unnamed _ (commits go_on) shut begun has = unnamed begun has
  stays_unnamed _ (rolls_back unmixed) shut begun has = unnamed begun has
  stays_unnamed _ (flushes e draft answers same no_data allowed) shut begun has =
      none_begun (begun_reset_of answers) old.asking unnamed
      (λ one is. not_handed_out (names_stream one.reset.streams id) (flush_of e draft answers).after.queues.queue.streams shut (flush_hands first old s e draft answers same no_data allowed one is id)) begun has
  stays_unnamed _ (resends now room transfer left tsns chunks emission known sends are contents) shut begun has = unnamed begun has
  stays_unnamed _ (resends_nothing now room transfer left tsns known sends) shut begun has = unnamed begun has
  stays_unnamed _ (speaks emission no_data) shut begun has = unnamed begun has
  stays_unnamed _ (asks_again emission begun' was contents) shut begun has = unnamed begun has
  stays_unnamed _ (renews emission newest earlier number asks out contents) shut begun has = elim has [ inl e ↦ ap (λ (b : BegunReset). names_stream b.reset.streams id) e ∙ unnamed newest (subst (λ (l : List BegunReset). HasEntry newest l) (sym asks) (inl refl)) | inr t ↦ unnamed begun t ]
  stays_unnamed _ (turns_aside transfer new known same) shut begun has = unnamed begun has
  stays_unnamed _ (acknowledges now sack transfer new known valid reached does) shut begun has = unnamed begun has
  stays_unnamed _ (loses now transfer known) shut begun has = unnamed begun has
  stays_unnamed _ (receives emission chunk theirs new was holds some same same' does) shut begun has = unnamed begun has
  stays_unnamed _ (forwards emission tsn streams theirs new was holds same same' does) shut begun has = unnamed begun has
  stays_unnamed _ (receives_interleaved emission chunk theirs new was holds some same same' does) shut begun has = unnamed begun has
  stays_unnamed _ (forwards_interleaved emission tsn streams theirs new was holds same same' does) shut begun has = unnamed begun has
  stays_unnamed _ (tracks new cumulative ranges) shut begun has = unnamed begun has
  stays_unnamed _ (defers last_tsn streams some) shut begun has = unnamed begun has
  stays_unnamed _ (performs newest earlier new asks unknown reached own leaves) shut begun has = unnamed begun has
  stays_unnamed _ (resets streams new unmixed some leaves) shut begun has = unnamed begun has
  stays_unnamed _ (performs_earlier newest earlier new asks unknown reached own leaves) shut begun has = unnamed begun has
  stays_unnamed _ (takes message messages ready) shut begun has = unnamed begun has

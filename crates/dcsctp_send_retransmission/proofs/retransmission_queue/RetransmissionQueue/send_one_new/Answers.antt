use Rattle.std.proofs.Common.{ℕ, inl, inr, ◌≡◌, ◌+◌, ◌-◌, ◌*◌, ◌/◌, ◌^◌, ◌<◌, min, length, [], ◌∷◌, ◌++◌, ap, ◌∙◌, false, refl, sym, subst}
use Rattle.dcsctp_send_retransmission.specs.declared.packet.Packet.{Packet}
use Rattle.dcsctp_api.specs.spec.queues.Retransmission.{RetransmissionState}
use Rattle.dcsctp_send_retransmission.specs.Sending.{KeepsAllFragments, ContinuesPacket}
use Rattle.dcsctp_api.specs.spec.queues.Outstanding.{OutstandingState, header}
use Rattle.dcsctp_send_retransmission.specs.Fresh.{SendsFresh}
use Rattle.dcsctp_send_queue.specs.Calls.{StopsTaking}
use Rattle.dcsctp_send_queue.specs.Telling.{contents}
use Rattle.std.proofs.lemmas.Result.{err_from_is_err_and}
use Rattle.dcsctp_send_retransmission.specs.States.{stage}
use Rattle.dcsctp_api.specs.spec.queues.Filling.{none, more}
use Rattle.dcsctp_send_retransmission.proofs.StatesLemmas.{sends_new, may_add}
use Rattle.dcsctp_send_retransmission.proofs.FreshLemmas.{fresh_none, fresh_one}
use Rattle.dcsctp_send_retransmission.proofs.SendingLemmas.{keeps_refl, fills_same, with_outstanding, sends_fills}
use Rattle.dcsctp_send_retransmission.proofs.retransmission_queue.RetransmissionQueue.send_one_new.Goals as goal

pub returns-in_err-reserve-clause-fills : goal.returns-in_err-reserve-clause-fills
returns-in_err-reserve-clause-fills c =
    fills_same c.args.self.now c.args.self.now c.args.packet.now (record { tsns = c.reserve.new.self; room = c.args.packet.now.room }) (keeps_refl c.args.self.now) c.in_err-reserve.ensures.items refl

pub returns-in_err-sent-clause-fills : goal.returns-in_err-sent-clause-fills
returns-in_err-sent-clause-fills c =
    let stage : RetransmissionState = record {
      outstanding = c.send_next.new.self;
      congestion = c.self.inside.congestion;
      timer = c.self.inside.timer;
      peer_window = c.self.inside.peer_window;
      partial_reliability = c.self.inside.partial_reliability;
      fast_retransmit_due = c.self.inside.fast_retransmit_due;
      reset_begun = c.self.inside.reset_begun;
      follows_rfc = c.self.inside.follows_rfc;
      has_measured = c.self.inside.has_measured;
      packets_retransmitted = c.self.inside.packets_retransmitted;
      bytes_retransmitted = c.self.inside.bytes_retransmitted;
    } in
    let keeps : KeepsAllFragments c.args.self.now stage = rw (c.in_err-sent.ensures.tries, c.self.view_is) (keeps_refl c.args.self.now) in
    fills_same c.args.self.now stage c.args.packet.now (record { tsns = c.reserve.new.self; room = c.args.packet.now.room }) keeps c.in_ok-reserve.ensures.items refl

pub returns-in-None-clause-fills : goal.returns-in-None-clause-fills
returns-in-None-clause-fills c =
    let stage : RetransmissionState = record {
      outstanding = c.send_next.new.self;
      congestion = c.self.inside.congestion;
      timer = c.self.inside.timer;
      peer_window = c.self.inside.peer_window;
      partial_reliability = c.self.inside.partial_reliability;
      fast_retransmit_due = c.self.inside.fast_retransmit_due;
      reset_begun = c.self.inside.reset_begun;
      follows_rfc = c.self.inside.follows_rfc;
      has_measured = c.self.inside.has_measured;
      packets_retransmitted = c.self.inside.packets_retransmitted;
      bytes_retransmitted = c.self.inside.bytes_retransmitted;
    } in
    let same = rw c.in-None.is at c.in_ok-sent.ensures.tries in
    let keeps : KeepsAllFragments c.args.self.now stage = rw (same, c.self.view_is) (keeps_refl c.args.self.now) in
    fills_same c.args.self.now stage c.args.packet.now (record { tsns = c.reserve.new.self; room = c.args.packet.now.room }) keeps c.in_ok-reserve.ensures.items refl

pub returns-in_ok-push-in-Some-clause-fills : goal.returns-in_ok-push-in-Some-clause-fills
returns-in_ok-push-in-Some-clause-fills c =
    let old : RetransmissionState = record {
      outstanding = c.self.inside.outstanding;
      congestion = c.self.inside.congestion;
      timer = c.self.inside.timer;
      peer_window = c.self.inside.peer_window;
      partial_reliability = c.self.inside.partial_reliability;
      fast_retransmit_due = c.self.inside.fast_retransmit_due;
      reset_begun = c.self.inside.reset_begun;
      follows_rfc = c.self.inside.follows_rfc;
      has_measured = c.self.inside.has_measured;
      packets_retransmitted = c.self.inside.packets_retransmitted;
      bytes_retransmitted = c.self.inside.bytes_retransmitted;
    } in
    let after : Packet = record { tsns = c.push.new.self; room = c.saturating_sub-packet.result } in
    let told = rw c.in-Some.is at c.in_ok-sent.ensures.tries in
    let M : RetransmissionState → Type 0 = λ q. c.args.max ≡ (min c.args.packet.now.room 65532 - header q.outstanding) / 4 * 4 in
    let tsns : after.tsns.items ≡ c.args.packet.now.tsns.items ++ c.in-Some.tsn ∷ [] = rw (c.in_ok-push-in-Some.ensures.items, c.in_ok-reserve.ensures.items) refl in
    let both = sends_fills c.args.now c.args.max old c.args.packet.now after c.len-place.result c.size_at-size.result c.in-Some.tsn c.send_next.new.self false told c.len-place.ensures.value c.size_at-size.ensures (subst M (sym c.self.view_is) c.requires.max.1) c.requires.max.0 tsns c.saturating_sub-packet.ensures in
    let P : RetransmissionState → Type 0 = λ q. ContinuesPacket q c.args.packet.now (with_outstanding c.send_next.new.self false old) after in
    subst P c.self.view_is both.0

pub returns-in_ok-push-in-Some-clause-less : goal.returns-in_ok-push-in-Some-clause-less
returns-in_ok-push-in-Some-clause-less c = λ is_true.
    let old : RetransmissionState = record {
      outstanding = c.self.inside.outstanding;
      congestion = c.self.inside.congestion;
      timer = c.self.inside.timer;
      peer_window = c.self.inside.peer_window;
      partial_reliability = c.self.inside.partial_reliability;
      fast_retransmit_due = c.self.inside.fast_retransmit_due;
      reset_begun = c.self.inside.reset_begun;
      follows_rfc = c.self.inside.follows_rfc;
      has_measured = c.self.inside.has_measured;
      packets_retransmitted = c.self.inside.packets_retransmitted;
      bytes_retransmitted = c.self.inside.bytes_retransmitted;
    } in
    let after : Packet = record { tsns = c.push.new.self; room = c.saturating_sub-packet.result } in
    let told = rw c.in-Some.is at c.in_ok-sent.ensures.tries in
    let M : RetransmissionState → Type 0 = λ q. c.args.max ≡ (min c.args.packet.now.room 65532 - header q.outstanding) / 4 * 4 in
    let tsns : after.tsns.items ≡ c.args.packet.now.tsns.items ++ c.in-Some.tsn ∷ [] = rw (c.in_ok-push-in-Some.ensures.items, c.in_ok-reserve.ensures.items) refl in
    let both = sends_fills c.args.now c.args.max old c.args.packet.now after c.len-place.result c.size_at-size.result c.in-Some.tsn c.send_next.new.self false told c.len-place.ensures.value c.size_at-size.ensures (subst M (sym c.self.view_is) c.requires.max.1) c.requires.max.0 tsns c.saturating_sub-packet.ensures in
    both.1

pub returns-in-None-clause-fresh : goal.returns-in-None-clause-fresh
returns-in-None-clause-fresh c =
    let same = rw c.in-None.is at c.in_ok-sent.ensures.tries in
    fresh_none c.args.now c.args.self.now.outstanding c.send_next.new.self c.args.packet.now.tsns.items c.reserve.new.self.items (same ∙ ap (λ (q : RetransmissionState). q.outstanding) c.self.view_is) c.in_ok-reserve.ensures.items

pub returns-in_ok-push-in-Some-clause-fresh : goal.returns-in_ok-push-in-Some-clause-fresh
returns-in_ok-push-in-Some-clause-fresh c =
    let told = rw c.in-Some.is at c.in_ok-sent.ensures.tries in
    let tsns : c.push.new.self.items ≡ c.args.packet.now.tsns.items ++ c.in-Some.tsn ∷ [] = rw (c.in_ok-push-in-Some.ensures.items, c.in_ok-reserve.ensures.items) refl in
    let P : OutstandingState → Type 0 = λ m. SendsFresh c.args.now m c.send_next.new.self c.args.packet.now.tsns.items c.push.new.self.items in
    subst P (ap (λ (q : RetransmissionState). q.outstanding) c.self.view_is) (fresh_one c.args.now c.args.max c.self.inside.outstanding c.send_next.new.self c.in-Some.tsn c.args.packet.now.tsns.items c.push.new.self.items told tsns)

pub returns-in_err-reserve-clause-steps : goal.returns-in_err-reserve-clause-steps
returns-in_err-reserve-clause-steps c = λ none_marked may.
    rw (err_from_is_err_and c.from_residual.result c.from_residual.ensures.1).1
    (record { at = (stage c.args.self.now c.args.queue.now c.args.events.now c.args.packet.now.tsns.items c.args.packet.now.room); steps = none; queue = refl; refused = inl (refl, refl) })

pub returns-in_err-sent-clause-steps : goal.returns-in_err-sent-clause-steps
returns-in_err-sent-clause-steps c = λ none_marked may.
    let S : ℕ → Type 0 = λ m. StopsTaking c.args.now m c.args.queue.now (contents c.args.events.now) c.send_next.new.queue (contents c.send_next.new.events) in
    rw (err_from_is_err_and c.from_residual-in_err-sent.result c.from_residual-in_err-sent.ensures.1).1
    (record {
      at = (stage c.args.self.now c.args.queue.now c.args.events.now c.args.packet.now.tsns.items c.args.packet.now.room);
      steps = none;
      queue = rw (c.in_err-sent.ensures.takes.0, c.self.view_is) refl;
      refused = elim c.in_err-sent.ensures.takes.1 [
        | inl nothing ↦ inl nothing
        | inr stops ↦ inr (inr (may_add c.args.max c.args.self.now c.args.queue.now c.args.events.now c.args.packet.now.tsns.items c.args.packet.now.room may none_marked c.requires.few c.requires.max.0 c.requires.max.1, subst S c.requires.max.1 stops))
      ];
    })

pub returns-in-None-clause-steps : goal.returns-in-None-clause-steps
returns-in-None-clause-steps c = λ none_marked may.
    let told = rw c.in-None.is at c.in_ok-sent.ensures.takes in
    more (stage c.args.self.now c.args.queue.now c.args.events.now c.args.packet.now.tsns.items c.args.packet.now.room) _ none (may_add c.args.max c.args.self.now c.args.queue.now c.args.events.now c.args.packet.now.tsns.items c.args.packet.now.room may none_marked c.requires.few c.requires.max.0 c.requires.max.1, inr (record { takes = told.1; is = rw (told.0, c.self.view_is, c.in_ok-reserve.ensures.items) refl }))

pub returns-in_ok-push-in-Some-clause-steps : goal.returns-in_ok-push-in-Some-clause-steps
returns-in_ok-push-in-Some-clause-steps c =
    let M : RetransmissionState → Type 0 = λ q. c.args.max ≡ (min c.args.packet.now.room 65532 - header q.outstanding) / 4 * 4 in
    let max_is = subst M (sym c.self.view_is) c.requires.max.1 in
    let L : RetransmissionState → Type 0 = λ q. length q.outstanding.items + 1 < 2 ^ 31 in
    let few = subst L (sym c.self.view_is) c.requires.few in
    rw (← c.self.view_is) (λ none_marked may.
    let told = rw c.in-Some.is at c.in_ok-sent.ensures.takes in
    let after : Packet = record { tsns = c.push.new.self; room = c.saturating_sub-packet.result } in
    let tsns : after.tsns.items ≡ c.args.packet.now.tsns.items ++ c.in-Some.tsn ∷ [] = rw (c.in_ok-push-in-Some.ensures.items, c.in_ok-reserve.ensures.items) refl in
    more _ _ none (
      may_add c.args.max _ c.args.queue.now c.args.events.now c.args.packet.now.tsns.items c.args.packet.now.room may none_marked few c.requires.max.0 max_is,
      inl (sends_new c.args.now c.args.max _ c.args.packet.now after c.len-place.result c.size_at-size.result c.in-Some.tsn c.send_next.new.self c.args.queue.now c.send_next.new.queue c.args.events.now c.send_next.new.events told c.len-place.ensures.value c.size_at-size.ensures max_is tsns c.saturating_sub-packet.ensures),
    ))

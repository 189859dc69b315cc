use Rattle.std.proofs.Common.{Err, length, arith, refl, ap, ◌∙◌}
use Rattle.dcsctp_send_queue.specs.Ranking.{IsFound}
use Rattle.dcsctp_send_queue.proofs.BytesLemmas.{bytes_insert, can_insert}
use Rattle.dcsctp_send_queue.proofs.PauseLemmas.{HaveRoom, kept_paused, holds_fresh, paused_insert}
use Rattle.dcsctp_send_queue.proofs.PlaceLemmas.{ranked-insert}
use Rattle.dcsctp_send_queue.proofs.StreamLemmas.{IsOrdered-turns_of, length-turns_of}
use Rattle.dcsctp_send_queue.proofs.streams.Streams.insert.Goals as goal

pub move_turn-requires : goal.move_turn-requires
move_turn-requires c =
    let few = length-turns_of c.self.inside.items in
    let same = ap length c.reserve-2.ensures.items in
    let are = ap length c.self.invariant.ranked.are in
    let room = c.in_ok-room.ensures.room in
    let more = c.in_ok-reserve.ensures.ok in
    record {
      others = c.reserve-2.new.self.items;
      are = refl;
      ordered = rw (c.reserve-2.ensures.items, c.self.invariant.ranked.are) (IsOrdered-turns_of c.self.inside.items);
      has_room = omega (arith, few, same, are, room, more);
    }

pub move_stream-requires : goal.move_stream-requires
move_stream-requires c =
    let room = c.in_ok-room.ensures.room in
    let kept = ap length c.reserve.ensures.kept in
    let one = c.in_ok-reserve-2.ensures.room in
    let other = c.in_ok-reserve-2.ensures.more in
    let third = c.in_ok-reserve-2.ensures.most in
    let has_room : HaveRoom c.self.inside.items c.reserve-3.new.self = record {
      ready = omega (arith, room, kept, one);
      handed_out = omega (arith, room, kept, other);
      under_way = omega (arith, room, kept, third);
    } in
    holds_fresh c.self.inside.items _ _ c.self.invariant.ranked.ascending
    (kept_paused c.self.inside.items c.self.inside.paused c.reserve-3.new.self c.self.invariant.paused c.reserve-3.ensures.ready c.reserve-3.ensures.handed_out c.reserve-3.ensures.under_way has_room) has_room

pub invariant_of-self-2 : goal.invariant_of-self-2
invariant_of-self-2 c =
    let room = c.in_ok-room.ensures.room in
    let more = c.in_ok-reserve.ensures.ok in
    let kept = ap length c.reserve.ensures.kept in
    let one = c.in_ok-reserve-2.ensures.room in
    let other = c.in_ok-reserve-2.ensures.more in
    let third = c.in_ok-reserve-2.ensures.most in
    let has_room : HaveRoom c.self.inside.items c.reserve-3.new.self = record {
      ready = omega (arith, room, kept, one);
      handed_out = omega (arith, room, kept, other);
      under_way = omega (arith, room, kept, third);
    } in
    let paused = kept_paused c.self.inside.items c.self.inside.paused c.reserve-3.new.self c.self.invariant.paused c.reserve-3.ensures.ready c.reserve-3.ensures.handed_out c.reserve-3.ensures.under_way has_room in
    let found : IsFound c.self.inside.items c.args.stream.id (Err c.args.place) = rw c.self.view_is c.requires in
    record {
      ranked = rw (c.in_ok-insert.ensures.ok, c.reserve.ensures.kept)
          (ranked-insert c.self.inside.items c.self.inside.turns.items _ _ _ _ c.args.place c.args.stream _
          c.self.invariant.ranked found c.turn-turn.ensures.turn
          (λ others are. c.move_turn.ensures.turns others (c.reserve-2.ensures.items ∙ are))
          (omega (arith, room, more, kept)) c.move_turn.ensures.capacity);
      paused = rw (c.in_ok-insert.ensures.ok, c.reserve.ensures.kept)
          (paused_insert c.self.inside.items c.reserve-3.new.self c.move_stream.new.self c.args.place c.args.stream _ _ c.self.invariant.ranked.ascending found
          paused has_room c.id-id.ensures c.standing-stands.ensures c.move_stream.ensures);
      bytes = rw (c.in_ok-insert.ensures.ok, c.reserve.ensures.kept)
          (bytes_insert c.self.inside.items c.args.place c.args.stream c.self.invariant.bytes c.turn-turn.ensures.bytes found.0);
      can = rw (c.in_ok-insert.ensures.ok, c.reserve.ensures.kept)
          (can_insert c.self.inside.items c.args.place c.args.stream c.self.invariant.can c.turn-turn.ensures.can found.0);
    }

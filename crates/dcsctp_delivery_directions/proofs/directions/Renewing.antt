-- The newest request to reset streams continues under another number.
use Rattle.std.proofs.Common.{◌≡◌, ℕ, ◌<◌, arith, Some, List, [], ◌∷◌, ◌++◌, map, take, refl, sym, ◌∙◌, ap, subst, inl, inr}
use Rattle.dcsctp_spec.specs.Packet.{Content, Emission}
use Rattle.dcsctp_spec.specs.Reconfiguration.{renewed_reset}
use Rattle.dcsctp_spec.specs.association.FlushChanges.{reset_request}
use Rattle.dcsctp_spec.specs.endpoint.BegunResets.{BegunReset}
use Rattle.dcsctp_spec.specs.types.queues.SendStreams.{Stream}
use Rattle.dcsctp_delivery_directions.specs.sending.Places.{HasEntry, at_place}
use Rattle.dcsctp_delivery_directions.specs.sending.Log.{Piece, Mark, mark_renewed, History, with_renewed, Resets}
use Rattle.dcsctp_delivery_directions.specs.sending.Flushes.{SayAll, IsBegun}
use Rattle.dcsctp_delivery_directions.specs.directions.Directions.{Direction, asking_renewed}
use Rattle.dcsctp_delivery_directions.proofs.sending.Extended.{packets_later, extends_renewed}
use Rattle.dcsctp_delivery_directions.proofs.sending.Renewed.{below_renewed}
use Rattle.dcsctp_delivery_directions.proofs.receiving.Growing.{received_renewed}
use Rattle.dcsctp_delivery_directions.proofs.directions.Performing.{newest_of}
use Rattle.dcsctp_delivery_directions.proofs.directions.Standing.{IsBehind, AreQuiet, Stands, emissions_both}

-- A stream that was handed out for the newest reset was handed out for it under its other number.
pub quiet_renewed : (history : History) (number : ℕ) (newest : Mark) (earlier : List Mark) (out : ℕ) (streams : List Stream) → history.marks ≡ newest ∷ earlier → out ≡ 1
    → AreQuiet history out streams → AreQuiet (with_renewed number newest history) out streams
quiet_renewed history number newest earlier out streams is one quiet id handed =
    elim (quiet id handed) [
      | inl none ↦ inl none
      | inr b ↦ inr (behind b (subst (λ (l : List Mark). HasEntry b.mark (take 1 l)) is (subst (λ (n : ℕ). HasEntry b.mark (take n history.marks)) one b.has)))
    ]
  where
    behind : (b : IsBehind history out id) → HasEntry b.mark (take 1 (newest ∷ earlier)) → IsBehind (with_renewed number newest history) out id
    behind b has =
        elim has [
          | inl same ↦ record {
            mark = mark_renewed number newest;
            has = subst (λ (n : ℕ). HasEntry (mark_renewed number newest) (take n (mark_renewed number newest ∷ history.marks))) (sym one) (inl refl);
            names = subst (λ (m : Mark). Resets m id) same b.names;
            below = subst (λ (m : Mark). (n : ℕ) (f : Piece) → at_place n history.log ≡ Some (Some f) → f.message.stream ≡ id → n < m.bound) same b.below;
          }
          | inr none ↦ absurd none
        ]

module _ (first : ℕ) (old : Direction) (s : Stands first old) where
  unfoldable pub stepped_renews : (emission : Emission) (newest : BegunReset) (earlier : List BegunReset) (number : ℕ) → old.asking.requests ≡ newest ∷ earlier → old.asking.out ≡ 1
      → emission.packet.contents ≡ reset_request number (renewed_reset newest.reset) ∷ [] → Stands first (record old { sent = old.sent ++ emission ∷ []; asking = asking_renewed number newest old.asking })
  stepped_renews emission newest earlier number asks one contents =
      let m = newest_of s.history.marks newest earlier (sym s.asked ∙ asks) in
      let known : HasEntry m.mark s.history.marks = subst (λ (l : List Mark). HasEntry m.mark l) (sym m.is) (inl refl) in
      let now : History = with_renewed number m.mark s.history in
      let begun : (mark_renewed number m.mark).begun ≡ record { number = number; reset = renewed_reset newest.reset } = ap (λ (b : BegunReset). record { number = number; reset = renewed_reset b.reset }) m.begins in
      let asked : IsBegun now number (renewed_reset newest.reset) = record { mark = mark_renewed number m.mark; has = inl refl; is = begun } in
      let says : SayAll now first old.acknowledged emission.packet.contents = subst (λ (l : List Content). SayAll now first old.acknowledged l) (sym contents) ((asked, tt), tt) in
      record {
        history = now;
        fit = s.fit;
        next = s.next;
        queues = below_renewed s.history number m.mark known old.queued first old.acknowledged old.queues s.queues;
        packets = emissions_both now first old.acknowledged old.sent (emission ∷ []) (packets_later s.history now (extends_renewed number m.mark s.history known) first old.acknowledged old.acknowledged (omega arith) old.sent s.packets) (says, tt);
        count = s.count;
        asked = ap (λ (l : List BegunReset). record { number = number; reset = renewed_reset newest.reset } ∷ l) s.asked ∙ ap (λ (b : BegunReset). b ∷ map (λ mark. mark.begun) s.history.marks) (sym begun);
        quiet = quiet_renewed s.history number m.mark m.earlier old.asking.out old.queues.queue.streams m.is one s.quiet;
        arrived = λ little. (
            let a = s.arrived little in
            record {
              places = a.places;
              were = a.were;
              once = a.once;
              received = received_renewed old.queued s.history number m.mark first a.places old.tracker old.reassembly known a.received;
              cleared = λ is performed. absurd (cc);
            }
            );
      }

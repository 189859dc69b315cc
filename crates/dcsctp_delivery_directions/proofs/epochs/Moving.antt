-- Streams that are handed out keep what waits on them, and what is under way.
use Rattle.std.proofs.Common.{◌≡◌, ◌==◌, ℕ, zero, suc, Bool, true, false, List, [], ◌∷◌, length, refl, ◌∙◌, ap}
use Rattle.std.specs.Prelude.{if◌then◌else◌}
use Rattle.dcsctp_spec.specs.types.declared.sending.Pause.TheVariants.{Open}
use Rattle.dcsctp_spec.specs.types.queues.SendStreams.{Stream, stream_at, handed_out}
use Rattle.dcsctp_spec.specs.queues.SendQueue.{stream_changed}
use Rattle.dcsctp_spec.specs.queues.OwnResets.{handing_out}
use Rattle.dcsctp_delivery_directions.proofs.directions.UnderWays.{KeepWays, ways_same, ways_then, ways_changed}

-- The same messages wait on the stream, and one that is open was so.
pub record IsLike (old new : Stream) : Type 0 where
  pub id : new.id ≡ old.id
  pub messages : new.messages ≡ old.messages
  pub under_way : new.under_way ≡ old.under_way
  pub opens : new.pause ≡ Open → old.pause ≡ Open

-- So it is with each.
pub record AreLike (old new : List Stream) : Type 0 where
  pub sizes : length new ≡ length old
  pub each : (q : ℕ) → IsLike (stream_at old q) (stream_at new q)
  pub ways : KeepWays old new

like_itself : (s : Stream) → IsLike s s
like_itself s = record { id = refl; messages = refl; under_way = refl; opens = λ is. is }

like_then : (old between new : List Stream) → AreLike old between → AreLike between new → AreLike old new
like_then old between new one two =
    record {
      sizes = two.sizes ∙ one.sizes;
      each = λ q. (
          let first = one.each q in
          let second = two.each q in
          record { id = second.id ∙ first.id; messages = second.messages ∙ first.messages; under_way = second.under_way ∙ first.under_way; opens = λ is. first.opens (second.opens is) }
          );
      ways = ways_then old between new one.ways two.ways;
    }

like_handed : (id : ℕ) (streams : List Stream) → AreLike streams (stream_changed id handed_out streams)
like_handed id streams = record { sizes = sizes streams; each = each streams; ways = ways_changed id handed_out (λ s. refl) (λ s. refl) streams }
  where
    sizes : (l : List Stream) → length (stream_changed id handed_out l) ≡ length l
    sizes [] = refl
    sizes (s ∷ l) = ap suc (sizes l)

    one : (b : Bool) (s : Stream) → IsLike s (if b then handed_out s else s)
    one true s = record { id = refl; messages = refl; under_way = refl; opens = λ is. absurd (cc) }
    one false s = like_itself s

    each : (l : List Stream) (q : ℕ) → IsLike (stream_at l q) (stream_at (stream_changed id handed_out l) q)
    each [] zero = like_itself (stream_at [] 0)
    each [] (suc q) = like_itself (stream_at [] (suc q))
    each (s ∷ l) zero = one (s.id == id) s
    each (s ∷ l) (suc q) = each l q

pub like_handing : (ids : List ℕ) (streams : List Stream) → AreLike streams (handing_out ids streams)
like_handing [] streams = record { sizes = refl; each = λ q. like_itself (stream_at streams q); ways = ways_same streams }
like_handing (first ∷ ids) streams = like_then streams (stream_changed first handed_out streams) (handing_out ids (stream_changed first handed_out streams)) (like_handed first streams) (like_handing ids (stream_changed first handed_out streams))

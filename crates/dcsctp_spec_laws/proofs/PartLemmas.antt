-- How much of the receive window is in use is the bytes of what is held, and the overhead of each part.
use Rattle.std.proofs.Common.{◌≡◌, ℕ, ◌+◌, ◌*◌, Option, None, Some, List, [], ◌∷◌, length, arith, ap}
use Rattle.std.specs.List.{sum_by}
use Rattle.std.proofs.Math.Nat.{add-mul, suc-mul}
use Rattle.std.proofs.lemmas.List.Sums.{sum_by-cons}
use Rattle.dcsctp_spec_lemmas.specs.spec.queues.Runs.{RunModel, WholeModel, part_used, run_used, runs_used, wholes_used}
use Rattle.dcsctp_spec_lemmas.specs.spec.queues.IncomingStreams.{StreamModel, kept_stream_used, streams_used}
use Rattle.dcsctp_spec_lemmas.specs.spec.queues.Reassembly.{DeferralModel, deferred_used, waiting_of, waiting_used}
use Rattle.dcsctp_spec_laws.specs.PartLaws.{WindowCountsParts, parts_in_runs, parts_on_stream, parts_of_incoming}

module _ (overhead : ℕ) where
  -- where each of a list counts its bytes and an overhead, so do all
  each_counts : {X : Type 0} (used bytes : X → ℕ) (xs : List X) → ((x : X) → used x ≡ bytes x + overhead) → sum_by used xs ≡ sum_by bytes xs + length xs * overhead
  each_counts used bytes [] one = omega arith
  each_counts used bytes (x ∷ xs) one =
      omega (arith, one x, each_counts used bytes xs one, suc-mul (length xs) overhead, sum_by-cons used x xs, sum_by-cons bytes x xs)

  -- where each of a list counts its bytes and the overhead of its parts, so do all
  all_count : {X : Type 0} (used bytes parts : X → ℕ) (xs : List X) → ((x : X) → used x ≡ bytes x + parts x * overhead) → sum_by used xs ≡ sum_by bytes xs + sum_by parts xs * overhead
  all_count used bytes parts [] one = omega arith
  all_count used bytes parts (x ∷ xs) one =
      omega (
        arith,
        one x,
        all_count used bytes parts xs one,
        add-mul (parts x) (sum_by parts xs) overhead,
        ap (λ (count : ℕ). count * overhead) (sum_by-cons parts x xs),
        sum_by-cons used x xs,
        sum_by-cons bytes x xs,
      )

  run_counts : (run : RunModel) → run_used overhead run ≡ run_used 0 run + length run.payloads * overhead
  run_counts run = each_counts (part_used overhead) (part_used 0) run.payloads (λ payload. omega arith)

  runs_count : (runs : List RunModel) → runs_used overhead runs ≡ runs_used 0 runs + parts_in_runs runs * overhead
  runs_count runs = all_count (run_used overhead) (run_used 0) (λ run. length run.payloads) runs run_counts

  wholes_count : (wholes : List WholeModel) → wholes_used overhead wholes ≡ wholes_used 0 wholes + length wholes * overhead
  wholes_count wholes = each_counts (λ whole. part_used overhead whole.payload) (λ whole. part_used 0 whole.payload) wholes (λ whole. omega arith)

  stream_counts : (stream : StreamModel) → kept_stream_used overhead stream ≡ kept_stream_used 0 stream + parts_on_stream stream * overhead
  stream_counts stream =
      omega (
        arith,
        wholes_count stream.waiting,
        runs_count stream.ordered,
        runs_count stream.unordered,
        add-mul (length stream.waiting + parts_in_runs stream.ordered) (parts_in_runs stream.unordered) overhead,
        add-mul (length stream.waiting) (parts_in_runs stream.ordered) overhead,
      )

  streams_count : (streams : List (ℕ × StreamModel)) → streams_used overhead streams ≡ streams_used 0 streams + sum_by (λ entry. parts_on_stream entry.1) streams * overhead
  streams_count streams = all_count (λ entry. kept_stream_used overhead entry.1) (λ entry. kept_stream_used 0 entry.1) (λ entry. parts_on_stream entry.1) streams (λ entry. stream_counts entry.1)

  deferred_counts : (deferral : Option DeferralModel) → deferred_used overhead deferral ≡ deferred_used 0 deferral + length (waiting_of deferral) * overhead
  deferred_counts None = omega arith
  deferred_counts (Some deferral) = each_counts (waiting_used overhead) (waiting_used 0) deferral.waiting (λ one. omega arith)

pub window_counts_parts : WindowCountsParts
window_counts_parts queue =
    omega (
      arith,
      streams_count queue.overhead queue.incoming.streams,
      runs_count queue.overhead queue.incoming.unordered,
      deferred_counts queue.overhead queue.deferral,
      add-mul (parts_of_incoming queue.incoming) (length (waiting_of queue.deferral)) queue.overhead,
      add-mul (sum_by (λ entry. parts_on_stream entry.1) queue.incoming.streams) (parts_in_runs queue.incoming.unordered) queue.overhead,
    )

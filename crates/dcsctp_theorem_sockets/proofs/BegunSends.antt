-- The request of a reset that a flush begins is read as itself, and what is kept of it fits.
use Rattle.std.proofs.Common.{Bool, true, false, ◌≡◌, ◌==◌, ℕ, ◌+◌, ◌%◌, ◌^◌, ◌<◌, Option, None, Some, List, [], ◌∷◌, ◌++◌, map, length, take, flat_map, refl, ap, ◌∙◌, arith, eqb-true, eq-eqb}
use Rattle.std.specs.List.{AllByRecursion}
use Rattle.std.specs.Int.{w16, to_be_bytes, from_be_bytes}
use Rattle.std.proofs.lemmas.Nat.{from_be_bytes-to_be_bytes_2}
use Rattle.std.proofs.lemmas.List.{append-nil}
use Rattle.dcsctp_spec_lemmas.specs.wire.ReadsBack.{IsByte}
use Rattle.dcsctp_spec_lemmas.specs.wire.Spelling.{chunk_bytes}
use Rattle.dcsctp_spec_lemmas.proofs.wire_lemmas.Lengths.{length-chunk_bytes}
use Rattle.dcsctp_spec_lemmas.specs.types.declared.association.Held.{Held}
use Rattle.dcsctp_spec_lemmas.specs.spec.Packet.{Content, re_config, chunk_out}
use Rattle.dcsctp_spec_lemmas.specs.spec.Reconfiguration.{RequestedReset, outgoing_reset_request, streams_of_bytes, number_answered, previous_number}
use Rattle.dcsctp_spec_lemmas.specs.spec.queues.OwnResets.{ready_streams}
use Rattle.dcsctp_spec_lemmas.specs.spec.queues.SendQueue.{SendQueueState}
use Rattle.dcsctp_spec_runs.specs.Deadlines.{T1Runs}
use Rattle.dcsctp_spec_lemmas.specs.spec.endpoint.Endpoint.{Endpoint, Core, closed, cookie_wait, cookie_echoed, open_in, held_by_core}
use Rattle.dcsctp_spec_lemmas.specs.spec.endpoint.Timers.{RunningTimer}
use Rattle.dcsctp_spec_lemmas.specs.spec.endpoint.Outcome.{contents_len}
use Rattle.dcsctp_spec_lemmas.specs.spec.association.FlushChanges.{reset_request}
use Rattle.dcsctp_spec_lemmas.specs.spec.endpoint.BegunResets.{BegunReset, stream_field, streams_within, begun_if_ready, begun_if_connected, request_contents, core_asking, after_begun}
use Rattle.dcsctp_spec_lemmas.specs.spec.endpoint.FlushOutcomes.{may_be_asked, Ask, first_ask, later_ask, begun_by_ask}
use Rattle.dcsctp_spec_runs.specs.Fitting.{FitsHeld, FitsCore, Sendable}
use Rattle.dcsctp_spec_lemmas.proofs.PacketLengths.{streams_len, begun_at_len}
use Rattle.dcsctp_theorem_sockets.proofs.Bytes.{both, in_two}

-- ---- its packet

streams_read : (streams : List ℕ) → streams_of_bytes (flat_map (to_be_bytes w16) (map stream_field streams)) ≡ map stream_field streams
streams_read [] = refl
streams_read (stream ∷ streams) =
    ap (λ (rest : List ℕ). from_be_bytes w16 (to_be_bytes w16 (stream_field stream)) ∷ rest) (streams_read streams)
    ∙ ap (λ (first : ℕ). first ∷ map stream_field streams) (from_be_bytes-to_be_bytes_2 (stream_field stream) (omega arith))

streams_in_bytes : (streams : List ℕ) → AllByRecursion IsByte (flat_map (to_be_bytes w16) streams)
streams_in_bytes [] = tt
streams_in_bytes (stream ∷ streams) = both (to_be_bytes w16 stream) (flat_map (to_be_bytes w16) streams) (in_two stream) (streams_in_bytes streams)

-- What a request bears as the number that it answers says whether it is new.
pub reads_new : (number : ℕ) (is_new : Bool) → number < 2 ^ 32 → number_answered number is_new == previous_number number ≡ is_new
reads_new number true fits = eq-eqb (previous_number number) (previous_number number) refl
reads_new number false fits = go (number == previous_number number) refl
  where
    go : (b : Bool) → number == previous_number number ≡ b → b ≡ false
    go true is = absurd (let same : number ≡ previous_number number = eqb-true number (previous_number number) is in omega (arith, same, fits))
    go false is = refl

answered_below : (number : ℕ) (is_new : Bool) → number < 2 ^ 32 → number_answered number is_new < 2 ^ 32
answered_below number true fits = omega arith
answered_below number false fits = fits

-- what a request wants whose streams are these
abbrev asked_for : Bool → ℕ → List ℕ → RequestedReset
asked_for is_new last_tsn streams = record { last_tsn = last_tsn; streams = streams; is_new = is_new }

pub request_sendable : (is_new : Bool) (number last_tsn : ℕ) (streams : List ℕ) → number < 2 ^ 32 → last_tsn < 2 ^ 32
    → contents_len (reset_request number (asked_for is_new last_tsn (map stream_field streams)) ∷ []) < 2 ^ 16
    → Sendable (reset_request number (asked_for is_new last_tsn (map stream_field streams)))
request_sendable is_new number last_tsn streams number_fits tsn_fits short =
    let answered : ℕ = number_answered number is_new in
    let content : Content = reset_request number (asked_for is_new last_tsn (map stream_field streams)) in
    let bytes : List ℕ = chunk_bytes (chunk_out content) in
    let whole : length (bytes ++ []) ≡ length bytes = ap length (append-nil bytes) in
    let entries = streams_len (map stream_field streams) in
    record {
      fits = record {
        len_fits = omega (arith, short, whole, length-chunk_bytes (chunk_out content));
        parameters_fit = (
          record {
            number_fits = number_fits;
            answered_fits = answered_below number is_new number_fits;
            last_tsn_fits = tsn_fits;
            streams_fit = record { whole = omega (arith, entries); entries_in_bytes = streams_in_bytes (map stream_field streams) };
          },
          tt,
        );
      };
      reads =
          ap (λ (b : Bool). re_config (outgoing_reset_request number answered (asked_for b last_tsn (streams_of_bytes (flat_map (to_be_bytes w16) (map stream_field streams)))) ∷ [])) (reads_new number is_new number_fits)
          ∙ ap (λ (ss : List ℕ). re_config (outgoing_reset_request number answered (asked_for is_new last_tsn ss) ∷ [])) (streams_read streams);
      said = tt;
    }

where_sends : (follows : Bool) (outstanding : Option ℕ) (number last_tsn : ℕ) (streams : List ℕ) → number < 2 ^ 32 → last_tsn < 2 ^ 32
    → contents_len (request_contents (begun_if_ready follows outstanding number last_tsn (map stream_field streams))) < 2 ^ 16
    → AllByRecursion Sendable (request_contents (begun_if_ready follows outstanding number last_tsn (map stream_field streams)))
where_sends follows None number last_tsn [] number_fits tsn_fits short = tt
where_sends follows None number last_tsn (stream ∷ streams) number_fits tsn_fits short = (request_sendable follows number last_tsn (stream ∷ streams) number_fits tsn_fits short, tt)
where_sends follows (Some other) number last_tsn [] number_fits tsn_fits short = tt
where_sends follows (Some other) number last_tsn (stream ∷ streams) number_fits tsn_fits short = tt

-- what is known of the peer fits, where one is held
abbrev pub FitsPeer : Option Held → Type 0
FitsPeer None = Unit {0}
FitsPeer (Some held) = FitsHeld held

pub peer_fits : (core : Core) → FitsCore core → FitsPeer (held_by_core core)
peer_fits closed own = tt
peer_fits (cookie_wait my) own = tt
peer_fits (cookie_echoed my held cookie) own = own.1
peer_fits (open_in phase my held) own = own.1

pub asked_fits : (core : Core) (follows : Bool) → FitsCore core → FitsPeer (may_be_asked core follows)
asked_fits closed follows own = tt
asked_fits (cookie_wait my) follows own = tt
asked_fits (cookie_echoed my held cookie) true own = tt
asked_fits (cookie_echoed my held cookie) false own = own.1
asked_fits (open_in phase my held) follows own = own.1

in_sends : (follows : Bool) (held : Option Held) (room last_tsn : ℕ) (queue : SendQueueState) → FitsPeer held → last_tsn < 2 ^ 32
    → contents_len (request_contents (begun_if_connected follows held room last_tsn queue)) < 2 ^ 16 → AllByRecursion Sendable (request_contents (begun_if_connected follows held room last_tsn queue))
in_sends follows None room last_tsn queue fits tsn_fits short = tt
in_sends follows (Some held) room last_tsn queue fits tsn_fits short =
    where_sends follows held.own_outstanding held.own_next last_tsn (take (streams_within room) (ready_streams queue)) fits.own_next tsn_fits short

pub begun_sends : (ask : Ask) (follows : Bool) (held : Option Held) (room last_tsn : ℕ) (queue : SendQueueState) → FitsPeer held → last_tsn < 2 ^ 32 → room < 2 ^ 16
    → AllByRecursion Sendable (request_contents (begun_by_ask ask follows held room last_tsn queue))
begun_sends later_ask follows held room last_tsn queue fits tsn_fits small = tt
begun_sends first_ask follows held room last_tsn queue fits tsn_fits small =
    let len = begun_at_len first_ask follows held room last_tsn queue in
    in_sends follows held room last_tsn queue fits tsn_fits (omega (arith, len, small))

-- ---- what is kept of it

asking_held : (held : Held) → FitsHeld held → FitsHeld (record held { own_next = (held.own_next + 1) % 2 ^ 32; own_outstanding = Some held.own_next })
asking_held held fits = record { peer = fits.peer; own_next = omega arith; own_outstanding = fits.own_next; peer_last = fits.peer_last }

pub asking_fits : (core : Core) → FitsCore core → FitsCore (core_asking core)
asking_fits closed own = own
asking_fits (cookie_wait my) own = own
asking_fits (cookie_echoed my held cookie) own = (own.0, asking_held held own.1, own.2)
asking_fits (open_in phase my held) own = (own.0, asking_held held own.1)

pub begun_fits : (begun : Option BegunReset) (e : Endpoint) → FitsCore e.core → FitsCore (after_begun begun e).core
begun_fits None e own = own
begun_fits (Some begun) e own = asking_fits e.core own

pub asking_runs : (core : Core) (t1 : Option RunningTimer) → T1Runs core t1 → T1Runs (core_asking core) t1
asking_runs closed t1 runs = runs
asking_runs (cookie_wait my) t1 runs = runs
asking_runs (cookie_echoed my held cookie) t1 runs = runs
asking_runs (open_in phase my held) t1 runs = runs

pub begun_runs : (begun : Option BegunReset) (e : Endpoint) → T1Runs e.core e.timers.t1 → T1Runs (after_begun begun e).core e.timers.t1
begun_runs None e runs = runs
begun_runs (Some begun) e runs = asking_runs e.core e.timers.t1 runs

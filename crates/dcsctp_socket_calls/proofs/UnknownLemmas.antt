-- A chunk of a type that isn't known is reported.
use Rattle.std.proofs.Common.{◌≡◌, ◌==◌, ◌≤◌, ◌+◌, ◌-◌, ◌%◌, ℕ, true, List, [], ◌∷◌, ◌++◌, length, map, take, refl, sym, ap, subst, ◌∙◌, arith}
use Rattle.std.specs.Prelude.{nat_le}
use Rattle.std.proofs.lemmas.Bool.Decides.{nat_tests}
use Rattle.std.proofs.lemmas.List.{append-nil, length-take}
use Rattle.rand_core.specs.Stream.{Stream}
use Rattle.dcsctp_core.specs.wire.Content.{error_chunk, unrecognized_chunk_type}
use Rattle.dcsctp_core.specs.wire.Format.{padding_of}
use Rattle.dcsctp_core.specs.wire.Spelling.{parameters_len, chunk_bytes, chunk_len}
use Rattle.dcsctp_core.proofs.wire_lemmas.Lengths.{length-chunk_bytes}
use Rattle.dcsctp_core.specs.types.declared.options.Options.{Options}
use Rattle.dcsctp_core.specs.types.declared.kinds.ErrorKind.TheVariants.{ParseFailed}
use Rattle.dcsctp_core.specs.types.Settings.{packet_size_limit, IsValid, ports_of}
use Rattle.dcsctp_core.specs.spec.endpoint.Event.{error}
use Rattle.dcsctp_core.specs.spec.Packet.{plain}
use Rattle.dcsctp_core.specs.spec.endpoint.Endpoint.{Endpoint, Core, closed, cookie_wait, cookie_echoed, open_in, held_by_core}
use Rattle.dcsctp_core.specs.spec.endpoint.Outcome.{Outcome, still, reports}
use Rattle.dcsctp_core.specs.spec.endpoint.PlainOutcomes.{unknown_text, unknown_error, unknown_chunk_outcome}
use Rattle.dcsctp_core.specs.api.Calls.{user_event}
use Rattle.dcsctp_core.specs.declared.state.State.{State}
use Rattle.dcsctp_core.specs.declared.state.State.TheVariants.{Closed, CookieWait, CookieEchoed, Open}
use Rattle.dcsctp_core.specs.declared.context.Context.{Context}
use Rattle.dcsctp_core.specs.View.{View, core_of, endpoint_of, view_of, Moves, CutsTurn}
use Rattle.dcsctp_core.specs.Handling.{emitted_to}
use Rattle.dcsctp_core.proofs.Moving.{moves_still}
use Rattle.dcsctp_core.proofs.Composing.{behind, Adds, Draws, moves_behind, moves_as, cut_after}
use Rattle.dcsctp_core.proofs.SentLemmas.{emitted_sends}
use Rattle.dcsctp_socket_calls.specs.Unknown.{reported_outcome, reported_turn, unknown_chunk_turn}

-- As much of it as fits, does.
short : (options : Options) (chunk : List ℕ) → length (take (packet_size_limit options - 20) chunk) ≤ packet_size_limit options - 20
short options chunk = omega (arith, length-take (packet_size_limit options - 20) chunk)

report_len : (chunk : List ℕ) → chunk_len (error_chunk (unrecognized_chunk_type chunk ∷ [])) ≡ 8 + length chunk
unfolding parameters_len
report_len chunk = omega arith

padded : (n limit : ℕ) → 32 ≤ limit → limit % 4 ≡ 0 → n ≤ limit - 20 → 12 + (8 + n + padding_of (8 + n)) ≤ limit
padded n limit least whole within = omega (arith, least, whole, within)

whole_size : (options : Options) → packet_size_limit options % 4 ≡ 0
whole_size options = omega arith

pub report_fits : (options : Options) (chunk : List ℕ) → IsValid options
    → nat_le (12 + length (chunk_bytes (error_chunk (unrecognized_chunk_type (take (packet_size_limit options - 20) chunk) ∷ [])))) (packet_size_limit options) ≡ true
report_fits options chunk valid =
    let cut : List ℕ = take (packet_size_limit options - 20) chunk in
    let long : length (chunk_bytes (error_chunk (unrecognized_chunk_type cut ∷ []))) ≡ 8 + length cut + padding_of (8 + length cut) =
    length-chunk_bytes (error_chunk (unrecognized_chunk_type cut ∷ [])) ∙ ap (λ (n : ℕ). n + padding_of n) (report_len cut) in
    let within : 12 + (8 + length cut + padding_of (8 + length cut)) ≤ packet_size_limit options = padded (length cut) (packet_size_limit options) valid.least_size (whole_size options) (short options chunk) in
    ap (λ (n : ℕ). nat_le (12 + n) (packet_size_limit options)) long ∙ grind (arith, nat_tests, within)

-- ---- a report to the peer

-- if it is known
reported_in : {R : Type 0} (stream : R → Stream) (a b : View R) (core : Core) (chunk : List ℕ) → IsValid a.endpoint.options
    → b ≡ emitted_to (held_by_core core) (error_chunk (unrecognized_chunk_type (take (packet_size_limit a.endpoint.options - 20) chunk) ∷ [])) a
    → Moves stream a (reported_outcome a.endpoint core chunk) b
reported_in {R = R} stream a b closed chunk valid here =
    subst (λ (v : View R). Moves stream a (still a.endpoint) v) (sym here) (moves_still stream a)
reported_in {R = R} stream a b (cookie_wait my) chunk valid here =
    subst (λ (v : View R). Moves stream a (still a.endpoint) v) (sym here) (moves_still stream a)
reported_in stream a b (cookie_echoed my held cookie) chunk valid here =
    emitted_sends stream a b (held.capabilities.zero_checksum_method.0 == 0) held.peer.tag (plain (unknown_error a.endpoint chunk))
    (report_fits a.endpoint.options chunk valid) here
reported_in stream a b (open_in phase my held) chunk valid here =
    emitted_sends stream a b (held.capabilities.zero_checksum_method.0 == 0) held.peer.tag (plain (unknown_error a.endpoint chunk))
    (report_fits a.endpoint.options chunk valid) here

pub report_moves : {R : Type 0} (stream : R → Stream) (old new : Context R) (chunk bytes : List ℕ) (limit : ℕ)
    → limit ≡ packet_size_limit old.options - 20 → bytes ≡ take limit chunk
    → view_of new ≡ emitted_to (held_by_core (core_of old.state)) (error_chunk (unrecognized_chunk_type bytes ∷ [])) (view_of old)
    → Moves stream (view_of old) (reported_turn chunk (view_of old)) (view_of new)
report_moves stream old new chunk bytes limit limits cut here =
    reported_in stream (view_of old) (view_of new) (core_of old.state) chunk old.valid
    (here ∙ ap (λ (bs : List ℕ). emitted_to (held_by_core (core_of old.state)) (error_chunk (unrecognized_chunk_type bs ∷ [])) (view_of old))
    (cut ∙ ap (λ (n : ℕ). take n chunk) limits))

-- ---- a report to the user, and then to the peer

told_is : (e : Endpoint) (state : State) (type : ℕ) (chunk : List ℕ)
    → unknown_chunk_outcome e (core_of state) type chunk ≡ behind [] (error ParseFailed (unknown_text type) ∷ []) (reported_outcome e (core_of state) chunk)
told_is e Closed type chunk = refl
told_is e (CookieWait wait) type chunk = refl
told_is e (CookieEchoed echoed) type chunk = refl
told_is e (Open opened) type chunk = refl

-- the error was added
told_adds : {R : Type 0} (stream : R → Stream) (a b : View R) (type : ℕ) (text : List ℕ) → text ≡ unknown_text type → Moves stream a (reports a.endpoint ParseFailed text) b
    → Adds a (error ParseFailed (unknown_text type) ∷ []) b
told_adds stream a b type text is moves =
    record {
      ports = ap (λ (e : Endpoint). ports_of e.options) moves.endpoint;
      events = moves.events ∙ ap (λ (t : List ℕ). a.events ++ map (user_event (ports_of a.endpoint.options)) (error ParseFailed t ∷ [])) is;
    }

told_draws : {R : Type 0} (stream : R → Stream) (a b : View R) (text : List ℕ) → Moves stream a (reports a.endpoint ParseFailed text) b → Draws stream a [] b
told_draws stream a b text moves = record { words = moves.words; pairs = moves.pairs ∙ append-nil a.pairs; drawn = moves.drawn }

pub told_moves : {R : Type 0} (stream : R → Stream) (old mid : Context R) (c : View R) (type : ℕ) (text chunk : List ℕ) → text ≡ unknown_text type
    → Moves stream (view_of old) (reports (endpoint_of old) ParseFailed text) (view_of mid) → Moves stream (view_of mid) (reported_turn chunk (view_of mid)) c
    → Moves stream (view_of old) (unknown_chunk_turn type chunk (view_of old)) c
told_moves {R = R} stream old mid c type text chunk is first second =
    let here : Moves stream (view_of mid) (reported_outcome (endpoint_of old) (core_of old.state) chunk) c =
    subst (λ (e : Endpoint). Moves stream (view_of mid) (reported_outcome e e.core chunk) c) first.endpoint second in
    moves_as stream (view_of old) c _ _ (told_is (endpoint_of old) old.state type chunk)
    (moves_behind stream (view_of old) (view_of mid) c [] (error ParseFailed (unknown_text type) ∷ []) (reported_outcome (endpoint_of old) (core_of old.state) chunk)
    (told_adds stream (view_of old) (view_of mid) type text is first) (told_draws stream (view_of old) (view_of mid) text first) here)

-- It was reported to the user alone.
pub told_cut : {R : Type 0} (stream : R → Stream) (old mid : Context R) (c : View R) (type : ℕ) (text chunk : List ℕ) → text ≡ unknown_text type
    → Moves stream (view_of old) (reports (endpoint_of old) ParseFailed text) (view_of mid) → c ≡ view_of mid
    → CutsTurn (view_of old) (unknown_chunk_turn type chunk (view_of old)) c.events
told_cut {R = R} stream old mid c type text chunk is first same =
    cut_after (view_of old) (unknown_chunk_turn type chunk (view_of old)) c.events (error ParseFailed (unknown_text type) ∷ []) (reported_outcome (endpoint_of old) (core_of old.state) chunk).events
    (ap (λ (o : Outcome). o.events) (told_is (endpoint_of old) old.state type chunk))
    (ap (λ (v : View R). v.events) same ∙ (told_adds stream (view_of old) (view_of mid) type text is first).events)

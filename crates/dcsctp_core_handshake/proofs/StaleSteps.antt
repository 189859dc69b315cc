-- The steps of a stale cookie: it is reported, and by the RFC its peer gets an ERROR.
use Rattle.std.proofs.Common.{◌≡◌, ℕ, Bool, true, false, List, [], ◌∷◌, ◌++◌, refl, sym, ap, subst, ◌∙◌}
use Rattle.std.specs.Prelude.{◌+◌, length, nat_le, if◌then◌else◌}
use Rattle.std.proofs.lemmas.List.{append-nil}
use Rattle.rand_core.specs.Stream.{Stream}
use Rattle.dcsctp_core.specs.types.declared.kinds.ErrorKind.TheVariants.{ParseFailed}
use Rattle.dcsctp_core.specs.types.declared.options.Options.{Options}
use Rattle.dcsctp_core.specs.types.Settings.{ports_of, packet_size_limit}
use Rattle.dcsctp_core.specs.wire.Spelling.{chunk_bytes, header_bytes, packet_bytes_of}
use Rattle.dcsctp_core.specs.spec.endpoint.Event.{Event, sent, error}
use Rattle.dcsctp_core.specs.spec.Packet.{Emission, chunk_out}
use Rattle.dcsctp_core.specs.spec.endpoint.Endpoint.{Endpoint}
use Rattle.dcsctp_core.specs.spec.endpoint.Outcome.{Outcome, behind, fits, quiet, sends, emits, packet_counted}
use Rattle.dcsctp_core.specs.spec.endpoint.Following.{dropped_rest}
use Rattle.dcsctp_core.specs.spec.association.CookieEchoChanges.{stale_error}
use Rattle.dcsctp_core.specs.spec.endpoint.CookieEchoOutcomes.{refused_echo_outcome, stale_text}
use Rattle.dcsctp_core.specs.declared.following.Following.TheVariants.{DroppedRest}
use Rattle.dcsctp_core.specs.View.{View, Moves, CutsTurn}
use Rattle.dcsctp_core.specs.Handling.{IsHandledTurn, chunk_emitted}
use Rattle.dcsctp_core.proofs.Composing.{moves_behind, cut_first, cut_after}
use Rattle.dcsctp_core.proofs.SentLemmas.{emitted_where}
use Rattle.dcsctp_core_handshake.specs.Echoes.{stale_to, stale_sent_turn, stale_turn}

-- its event, and what follows for a peer with this tag
abbrev told : List (Event Emission)
told = error ParseFailed stale_text ∷ []

abbrev sending : Endpoint → ℕ → Outcome
sending e tag = record (behind [] told (emits e [] (stale_to tag))) { following = dropped_rest }

-- by whether the RFC is followed
abbrev stale_by : Bool → Endpoint → ℕ → Outcome
stale_by follows e tag = if follows then sending e tag else refused_echo_outcome e stale_text

-- ---- its packet

pub error_moves : {R : Type 0} (stream : R → Stream) (a b : View R) (tag : ℕ) → b ≡ chunk_emitted true tag (chunk_out stale_error) a → Moves stream a (stale_sent_turn tag a) b
error_moves {R = R} stream a b tag here =
    let options : Options = a.endpoint.options in
    let header : List ℕ = header_bytes options.local_port options.remote_port tag in
    let bytes : List ℕ = chunk_bytes (chunk_out stale_error) in
    let spelled : List ℕ = packet_bytes_of true header bytes in
    let alone : bytes ++ [] ≡ bytes = append-nil bytes in
    subst (λ (v : View R). Moves stream a (emits a.endpoint [] (stale_to tag)) v) (sym here)
    (subst (λ (b : Bool). Moves stream a (if fits a.endpoint (stale_to tag) then sends a.endpoint [] [] (stale_to tag) else quiet a.endpoint [] []) (if b then record a { endpoint = packet_counted a.endpoint; events = a.events ++ sent spelled ∷ [] } else a))
    (ap (λ (bs : List ℕ). nat_le (12 + length bs) (packet_size_limit options)) alone)
    (emitted_where stream a (stale_to tag) spelled (fits a.endpoint (stale_to tag)) (ap (packet_bytes_of true header) alone)))

-- ---- the refusal

told_after : {R : Type 0} (stream : R → Stream) (old mid new : View R) (tag : ℕ) → Moves stream old (refused_echo_outcome old.endpoint stale_text) mid
    → Moves stream mid (stale_sent_turn tag mid) new → Moves stream old (sending old.endpoint tag) new
told_after {R = R} stream old mid new tag first second =
    let here : Moves stream mid (emits old.endpoint [] (stale_to tag)) new =
    subst (λ (e : Endpoint). Moves stream mid (emits e [] (stale_to tag)) new) first.endpoint second in
    let m = moves_behind stream old mid new [] told (emits old.endpoint [] (stale_to tag))
    (record { ports = ap (λ (e : Endpoint). ports_of e.options) first.endpoint; events = first.events })
    (record { words = first.words; pairs = first.pairs ∙ append-nil old.pairs; drawn = first.drawn }) here in
    record { endpoint = m.endpoint; events = m.events; words = m.words; pairs = m.pairs; drawn = m.drawn }

-- The peer gets an ERROR.
pub tells_peer : {R : Type 0} (stream : R → Stream) (old mid new : View R) (tag : ℕ) → old.endpoint.options.follow_rfc ≡ true
    → Moves stream old (refused_echo_outcome old.endpoint stale_text) mid → Moves stream mid (stale_sent_turn tag mid) new
    → IsHandledTurn stream old (stale_turn tag old) DroppedRest new
tells_peer {R = R} stream old mid new tag follows first second =
    subst (λ (b : Bool). IsHandledTurn stream old (stale_by b old.endpoint tag) DroppedRest new) (sym follows)
    (record { moves = told_after stream old mid new tag first second; following = refl })

-- An allocation failed for the event,
pub untold : {R : Type 0} (old : View R) (tag : ℕ) (es : List (Event (List ℕ))) → es ≡ old.events → CutsTurn old (stale_turn tag old) es
untold old tag es same = cut_first old (stale_turn tag old) es same

-- or for the packet after it.
pub unsent : {R : Type 0} (stream : R → Stream) (old mid : View R) (tag : ℕ) (es : List (Event (List ℕ))) → old.endpoint.options.follow_rfc ≡ true
    → Moves stream old (refused_echo_outcome old.endpoint stale_text) mid → es ≡ mid.events → CutsTurn old (stale_turn tag old) es
unsent {R = R} stream old mid tag es follows first same =
    subst (λ (b : Bool). CutsTurn old (stale_by b old.endpoint tag) es) (sym follows)
    (cut_after old (sending old.endpoint tag) es told (emits old.endpoint [] (stale_to tag)).events refl (same ∙ first.events))

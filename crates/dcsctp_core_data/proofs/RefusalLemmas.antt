-- Data without a payload is refused.
use Rattle.std.proofs.Common.{◌≡◌, ℕ, Option, None, Some, [], ◌∷◌, refl, ap, subst, ◌∙◌}
use Rattle.std.proofs.lemmas.List.{append-nil}
use Rattle.rand_core.specs.Stream.{Stream}
use Rattle.dcsctp_core.specs.types.declared.association.Held.{Held}
use Rattle.dcsctp_core.specs.types.declared.kinds.ErrorKind.TheVariants.{ProtocolViolation}
use Rattle.dcsctp_core.specs.types.Settings.{ports_of}
use Rattle.dcsctp_core.specs.spec.endpoint.Event.{error}
use Rattle.dcsctp_core.specs.spec.endpoint.Endpoint.{Endpoint, held_by_core}
use Rattle.dcsctp_core.specs.spec.endpoint.Outcome.{Outcome}
use Rattle.dcsctp_core.specs.spec.endpoint.DataOutcomes.{no_user_data_text, no_user_data_outcome}
use Rattle.dcsctp_core.specs.View.{View, Moves, CutsTurn}
use Rattle.dcsctp_core.specs.Handling.{report_turn}
use Rattle.dcsctp_core.proofs.Composing.{behind, Adds, Draws, moves_behind, moves_as, cut_after}
use Rattle.dcsctp_core_data.specs.Data.{empty_data_outcome, empty_data_turn, no_user_data_turn}

told_is : (e : Endpoint) (peer : Option Held) (tsn : ℕ)
    → no_user_data_outcome e peer tsn ≡ behind [] (error ProtocolViolation no_user_data_text ∷ []) (empty_data_outcome e peer tsn)
told_is e None tsn = refl
told_is e (Some held) tsn = refl

told_adds : {R : Type 0} (stream : R → Stream) (a b : View R) → Moves stream a (report_turn ProtocolViolation no_user_data_text a) b → Adds a (error ProtocolViolation no_user_data_text ∷ []) b
told_adds stream a b moves = record { ports = ap (λ (e : Endpoint). ports_of e.options) moves.endpoint; events = moves.events }

told_draws : {R : Type 0} (stream : R → Stream) (a b : View R) → Moves stream a (report_turn ProtocolViolation no_user_data_text a) b → Draws stream a [] b
told_draws stream a b moves = record { words = moves.words; pairs = moves.pairs ∙ append-nil a.pairs; drawn = moves.drawn }

pub told_moves : {R : Type 0} (stream : R → Stream) (a b c : View R) (tsn : ℕ) → Moves stream a (report_turn ProtocolViolation no_user_data_text a) b → Moves stream b (empty_data_turn tsn b) c
    → Moves stream a (no_user_data_turn tsn a) c
told_moves stream a b c tsn first second =
    let here : Moves stream b (empty_data_outcome a.endpoint (held_by_core a.endpoint.core) tsn) c = subst (λ (e : Endpoint). Moves stream b (empty_data_outcome e (held_by_core e.core) tsn) c) first.endpoint second in
    moves_as stream a c _ _ (told_is a.endpoint (held_by_core a.endpoint.core) tsn)
    (moves_behind stream a b c [] (error ProtocolViolation no_user_data_text ∷ []) (empty_data_outcome a.endpoint (held_by_core a.endpoint.core) tsn) (told_adds stream a b first) (told_draws stream a b first) here)

pub told_cut : {R : Type 0} (stream : R → Stream) (a b c : View R) (tsn : ℕ) → Moves stream a (report_turn ProtocolViolation no_user_data_text a) b → c ≡ b → CutsTurn a (no_user_data_turn tsn a) c.events
told_cut {R = R} stream a b c tsn first same =
    cut_after a (no_user_data_turn tsn a) c.events (error ProtocolViolation no_user_data_text ∷ []) (empty_data_outcome a.endpoint (held_by_core a.endpoint.core) tsn).events
    (ap (λ (o : Outcome). o.events) (told_is a.endpoint (held_by_core a.endpoint.core) tsn))
    (ap (λ (v : View R). v.events) same ∙ (told_adds stream a b first).events)

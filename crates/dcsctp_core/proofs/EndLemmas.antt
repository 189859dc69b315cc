-- How an association ends.
use Rattle.std.proofs.Common.{◌≡◌, Bool, true, false, cond, List, [], ◌∷◌, ◌++◌, refl, sym, ap, ◌∙◌}
use Rattle.std.proofs.lemmas.List.{append-nil}
use Rattle.rand_core.specs.Stream.{Stream}
use Rattle.dcsctp_transfer.specs.spec.association.Effect.{Effect, ends, drawn_pairs}
use Rattle.dcsctp_transfer.specs.types.declared.word.Word.{Word}
use Rattle.dcsctp_transfer.specs.types.Settings.{ports_of}
use Rattle.dcsctp_transfer.specs.spec.endpoint.Event.{Event}
use Rattle.dcsctp_transfer.specs.spec.Packet.{Emission}
use Rattle.dcsctp_transfer.specs.spec.endpoint.Endpoint.{Endpoint, Core, closed, cookie_wait, cookie_echoed, open_in}
use Rattle.dcsctp_transfer.specs.spec.endpoint.Outcome.{Outcome, fits, quiet, sends, emits}
use Rattle.dcsctp_transfer.specs.spec.endpoint.Following.{dropped_rest}
use Rattle.dcsctp_transfer.specs.spec.endpoint.EndOutcomes.{closed_after, ended_outcome, close_outcome}
use Rattle.dcsctp_transfer.specs.api.Calls.{is_closed}
use Rattle.dcsctp_core.specs.View.{View, Moves}
use Rattle.dcsctp_core.proofs.Composing.{behind, moves_behind, moves_as}

pub close_where_open : (e : Endpoint) (core : Core) (event : Event Emission) → is_closed core ≡ false → close_outcome e core event ≡ ended_outcome (quiet e [] []) event
close_where_open e closed event is = cc is
close_where_open e (cookie_wait my) event is = refl
close_where_open e (cookie_echoed my held cookie) event is = refl
close_where_open e (open_in phase my held) event is = refl

emits_where : (b : Bool) (e : Endpoint) (words : List Word) (emission : Emission) → (cond b (sends e words [] emission) (quiet e words [])).after.options ≡ e.options
emits_where true e words emission = refl
emits_where false e words emission = refl

notes_nothing : (b : Bool) (e : Endpoint) (words : List Word) (emission : Emission) → (cond b (sends e words [] emission) (quiet e words [])).effects ≡ []
notes_nothing true e words emission = refl
notes_nothing false e words emission = refl

-- After a packet the association ends.
pub ends_after_packet : {R : Type 0} (stream : R → Stream) (a b c : View R) (emission : Emission) (event : Event Emission)
    → is_closed b.endpoint.core ≡ false
    → Moves stream a (emits a.endpoint [] emission) b → Moves stream b (close_outcome b.endpoint b.endpoint.core event) c
    → Moves stream a (ended_outcome (emits a.endpoint [] emission) event) c
ends_after_packet {R = R} stream a b c emission event runs first second =
    let o = emits a.endpoint [] emission in
    let ended : Moves stream b (ended_outcome (quiet b.endpoint [] []) event) c = moves_as stream b c _ _ (sym (close_where_open b.endpoint b.endpoint.core event runs)) second in
    let ports = ap (λ (e : Endpoint). ports_of e.options) first.endpoint ∙ ap ports_of (emits_where (fits a.endpoint emission) a.endpoint [] emission) in
    let m : Moves stream a (behind o.words o.events (ended_outcome (quiet b.endpoint [] []) event)) c =
    moves_behind stream a b c o.words o.events (ended_outcome (quiet b.endpoint [] []) event) (record { ports = ports; events = first.events })
    (record {
      words = first.words;
      pairs = first.pairs ∙ ap (λ (es : List Effect). a.pairs ++ drawn_pairs es) (notes_nothing (fits a.endpoint emission) a.endpoint [] emission) ∙ append-nil a.pairs;
      drawn = first.drawn;
    }) ended in
    moves_as stream a c _ _
    (ap (λ (es : List Effect). let out : Outcome = record { words = o.words; effects = es ++ ends ∷ []; after = closed_after (emits a.endpoint [] emission).after; events = o.events ++ event ∷ []; following = dropped_rest } in out) (notes_nothing (fits a.endpoint emission) a.endpoint [] emission)
    ∙ ap (λ (e : Endpoint). let out : Outcome = record { words = o.words; effects = ends ∷ []; after = closed_after e; events = o.events ++ event ∷ []; following = dropped_rest } in out) (sym first.endpoint)
    ∙ ap (λ (ws : List Word). let out : Outcome = record { words = ws; effects = ends ∷ []; after = closed_after b.endpoint; events = o.events ++ event ∷ []; following = dropped_rest } in out) (sym (append-nil o.words)))
    m

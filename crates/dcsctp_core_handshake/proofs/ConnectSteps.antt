-- The steps of a connect: a closed socket draws a pair, sends an INIT, and awaits its answer.
use Rattle.std.proofs.Common.{◌≡◌, ℕ, Bool, true, false, List, [], ◌∷◌, ◌++◌, sym, ap, refl, subst, ◌∙◌, if◌then◌else◌}
use Rattle.std.proofs.lemmas.List.{append-nil}
use Rattle.rand_core.specs.Stream.{Stream, next_u32}
use Rattle.dcsctp_core.specs.types.declared.association.Pair.{Pair}
use Rattle.dcsctp_core.specs.types.declared.word.Word.{Word}
use Rattle.dcsctp_core.specs.types.declared.word.Word.TheVariants.{U32}
use Rattle.dcsctp_core.specs.spec.Packet.{Emission}
use Rattle.dcsctp_core.specs.spec.endpoint.Endpoint.{Endpoint, Core, closed}
use Rattle.dcsctp_core.specs.spec.endpoint.Outcome.{Outcome, fits, sends, quiet, drawing, packet_counted}
use Rattle.dcsctp_core.specs.spec.endpoint.HandshakeOutcomes.{awaits_init_ack, init_emission, connect_outcome, pair_from}
use Rattle.dcsctp_core.specs.declared.context.Context.{Context}
use Rattle.dcsctp_core.specs.declared.state.State.{State}
use Rattle.dcsctp_core.specs.declared.state.State.TheVariants.{Closed}
use Rattle.dcsctp_core.specs.api.Calls.{DrawsWords}
use Rattle.dcsctp_core.specs.View.{View, Moves, view_of, endpoint_of, core_of}
use Rattle.dcsctp_core.specs.Drawing.{first_word, second_word}
use Rattle.dcsctp_core.proofs.Moving.{DrawsWords-append}
use Rattle.dcsctp_core_handshake.specs.Handshake.{MakesPair, send_init_turn, awaiting, connect_turn}

-- Where there was no association, nothing of one is left to forget.
closed_awaits : {R : Type 0} (old : Context R) (mine : Pair) → old.state ≡ Closed
    → awaiting (endpoint_of old) mine ≡ awaits_init_ack (endpoint_of old) mine
closed_awaits old mine is =
    subst (λ (s : State). awaiting (endpoint_of (record old { state = s })) mine ≡ awaits_init_ack (endpoint_of (record old { state = s })) mine) (sym is) refl

-- once these words and this pair were drawn
abbrev pair_drawn : {R : Type 0} → View R → R → ℕ → ℕ → Pair → View R
pair_drawn view generator word next mine =
    record view { generator = generator; words = view.words ++ U32 word ∷ U32 next ∷ []; pairs = view.pairs ++ mine ∷ [] }

-- the INIT, where it fits or not
sent_by : {R : Type 0} (stream : R → Stream) (old last : View R) (generator : R) (word next : ℕ) (mine : Pair) (emission : Emission) (fit : Bool)
    → awaiting old.endpoint mine ≡ awaits_init_ack old.endpoint mine
    → DrawsWords (stream old.generator) (U32 word ∷ U32 next ∷ []) (stream generator)
    → Moves stream (pair_drawn old generator word next mine) (if fit then sends old.endpoint [] [] emission else quiet old.endpoint [] []) last
    → Moves stream old (drawing mine (if fit then sends (awaits_init_ack old.endpoint mine) (U32 word ∷ U32 next ∷ []) [] emission
    else quiet (awaits_init_ack old.endpoint mine) (U32 word ∷ U32 next ∷ []) [])) (record last { endpoint = awaiting last.endpoint mine })
sent_by {R = R} stream old last generator word next mine emission true awaits drawn m =
    record {
      endpoint = ap (λ (e : Endpoint). awaiting e mine) m.endpoint ∙ ap packet_counted awaits;
      events = m.events;
      words = m.words ∙ append-nil (old.words ++ U32 word ∷ U32 next ∷ []);
      pairs = m.pairs ∙ append-nil (old.pairs ++ mine ∷ []);
      drawn = DrawsWords-append (stream old.generator) (stream generator) (stream last.generator) (U32 word ∷ U32 next ∷ []) [] drawn m.drawn;
    }
sent_by {R = R} stream old last generator word next mine emission false awaits drawn m =
    record {
      endpoint = ap (λ (e : Endpoint). awaiting e mine) m.endpoint ∙ awaits;
      events = m.events;
      words = m.words ∙ append-nil (old.words ++ U32 word ∷ U32 next ∷ []);
      pairs = m.pairs ∙ append-nil (old.pairs ++ mine ∷ []);
      drawn = DrawsWords-append (stream old.generator) (stream generator) (stream last.generator) (U32 word ∷ U32 next ∷ []) [] drawn m.drawn;
    }

pub connects : {R : Type 0} (stream : R → Stream) (old mid last : Context R) (new : View R) (mine : Pair) → old.state ≡ Closed
    → mine ≡ pair_from (first_word (stream old.generator)) (second_word (stream old.generator))
    → MakesPair stream old mine (first_word (stream old.generator) ∷ second_word (stream old.generator) ∷ []) (next_u32 (next_u32 (stream old.generator)).1).1 mid
    → Moves stream (view_of mid) (send_init_turn mine (view_of mid)) (view_of last) → new ≡ record (view_of last) { endpoint = awaiting (endpoint_of last) mine }
    → Moves stream (view_of old) (connect_turn stream (view_of old)) new
connects {R = R} stream old mid last new mine is pair made m there =
    let v : View R = view_of old in
    let e : Endpoint = v.endpoint in
    let word : ℕ = first_word (stream old.generator) in
    let next : ℕ = second_word (stream old.generator) in
    let drawn : View R = pair_drawn v mid.generator word next mine in
    let here : view_of mid ≡ drawn =
    ap (λ (c : Context R). view_of c) made.only
    ∙ ap (λ (ws : List Word). record v { generator = mid.generator; words = ws; pairs = (view_of mid).pairs }) made.words
    ∙ ap (λ (ps : List Pair). record drawn { pairs = ps }) made.pairs in
    let sent = sent_by stream v (view_of last) mid.generator word next mine (init_emission e mine) (fits e (init_emission e mine)) (closed_awaits old mine is)
    (refl, (refl, made.goes_on)) (subst (λ (w : View R). Moves stream w (send_init_turn mine w) (view_of last)) here m) in
    let own : Moves stream v (connect_outcome e closed word next) (record (view_of last) { endpoint = awaiting (endpoint_of last) mine }) =
    subst (λ (p : Pair). Moves stream v (drawing p (if fits e (init_emission e p) then sends (awaits_init_ack e p) (U32 word ∷ U32 next ∷ []) [] (init_emission e p)
    else quiet (awaits_init_ack e p) (U32 word ∷ U32 next ∷ []) [])) (record (view_of last) { endpoint = awaiting (endpoint_of last) mine })) pair sent in
    subst (λ (w : View R). Moves stream v (connect_turn stream v) w) (sym there)
    (subst (λ (core : Core). Moves stream v (connect_outcome e core word next) (record (view_of last) { endpoint = awaiting (endpoint_of last) mine })) (sym (ap core_of is)) own)

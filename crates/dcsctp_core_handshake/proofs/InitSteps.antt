-- The steps of an INIT: while a SHUTDOWN ACK waits for its answer, it is sent again.
use Rattle.std.proofs.Common.{◌≡◌, ◌≤◌, ◌+◌, ◌%◌, ◌^◌, ℕ, Bool, true, false, cond, if◌then◌else◌, Option, Some, List, [], ◌∷◌, ◌++◌, sym, ap, refl, subst, ◌∙◌, arith}
use Rattle.std.specs.Prelude.{nat_le}
use Rattle.std.proofs.lemmas.Bool.Decides.{nat_tests}
use Rattle.std.proofs.lemmas.List.{append-nil}
use Rattle.rand_core.specs.Stream.{Stream, next_u32}
use Rattle.dcsctp_core.specs.wire.Spelling.{other_bytes}
use Rattle.dcsctp_core.specs.types.declared.association.Pair.{Pair}
use Rattle.dcsctp_core.specs.types.declared.association.Held.{Held}
use Rattle.dcsctp_core.specs.types.declared.word.Word.{Word}
use Rattle.dcsctp_core.specs.types.declared.word.Word.TheVariants.{U32}
use Rattle.dcsctp_core.specs.types.Settings.{packet_size_limit, IsValid}
use Rattle.dcsctp_core.specs.spec.Packet.{Emission, Introduction, shutdown_ack}
use Rattle.dcsctp_core.specs.spec.queues.Transfer.{Transfer, next_tsn_of}
use Rattle.dcsctp_core.specs.spec.endpoint.Endpoint.{Endpoint, Core, open_in, shutdown_ack_sent, held_by_core, may_answer}
use Rattle.dcsctp_core.specs.spec.endpoint.Outcome.{Outcome, fits, sends, quiet, answering, drawing, to_peer}
use Rattle.dcsctp_core.specs.spec.endpoint.HandshakeOutcomes.{init_outcome, init_answered, init_ack_emission, answer_outcome, tag_from, tsn_gap}
use Rattle.dcsctp_core.specs.spec.endpoint.ShutdownOutcomes.{sends_shutdown_ack}
use Rattle.dcsctp_core_ends.specs.Shutdown.{to_held, send_shutdown_ack_turn}
use Rattle.dcsctp_core.specs.declared.context.Context.{Context}
use Rattle.dcsctp_core.specs.declared.transmission_control_block.TransmissionControlBlock.{TransmissionControlBlock}
use Rattle.dcsctp_core.specs.api.Calls.{DrawsWords}
use Rattle.dcsctp_core.specs.View.{View, Moves, view_of, tcb_of, tie_tag_of, transfer_of_tcb, held_of}
use Rattle.dcsctp_core.specs.Drawing.{first_word, second_word}
use Rattle.dcsctp_core.specs.Handling.{answer_counted}
use Rattle.dcsctp_core.proofs.Moving.{moves_still, DrawsWords-append}
use Rattle.dcsctp_core.proofs.SentLemmas.{answering_moves}
use Rattle.dcsctp_core_handshake.specs.Handshake.{MakesPair, init_turn, init_reply_turn, init_answer_turn, renewed_pair_if_connected, renewed_turn}
use Rattle.dcsctp_core_handshake.proofs.AckSteps.{held_by_tcb}

ack_fits : (e : Endpoint) (held : Held) → IsValid e.options → fits e (to_peer held shutdown_ack) ≡ true
unfolding other_bytes
ack_fits e held valid = let least : 32 ≤ packet_size_limit e.options = valid.least_size in grind (arith, nat_tests)

pub repeats_ack : {R : Type 0} (stream : R → Stream) (old new : View R) (theirs : Introduction) (mine : Pair) (held : Held) → IsValid old.endpoint.options
    → old.endpoint.core ≡ open_in shutdown_ack_sent mine held → Moves stream old (send_shutdown_ack_turn old) new → Moves stream old (init_reply_turn stream theirs old) new
repeats_ack {R = R} stream old new theirs mine held valid is m =
    let e : Endpoint = old.endpoint in
    let word : ℕ = first_word (stream old.generator) in
    let next : ℕ = second_word (stream old.generator) in
    let sent : Outcome = sends_shutdown_ack e held in
    let out : Moves stream old sent new = subst (λ (core : Core). Moves stream old (to_held sends_shutdown_ack e (held_by_core core)) new) is m in
    subst (λ (core : Core). Moves stream old (init_outcome e theirs core word next) new) (sym is)
    (subst (λ (b : Bool). Moves stream old (cond b sent (quiet e [] [])) new) (sym (ack_fits e held valid)) out)

-- ---- while an association is open

-- once this word and this pair were drawn
abbrev pair_drawn : {R : Type 0} → View R → R → ℕ → Pair → View R
pair_drawn view generator word mine = record view { generator = generator; words = view.words ++ U32 word ∷ []; pairs = view.pairs ++ mine ∷ [] }

-- ... what goes out is the turn of the draw
sent_drawn : {R : Type 0} (stream : R → Stream) (old new : View R) (generator : R) (word : ℕ) (mine : Pair) (emission : Emission) (fit : Bool)
    → DrawsWords (stream old.generator) (U32 word ∷ []) (stream generator)
    → Moves stream (pair_drawn old generator word mine) (if fit then sends old.endpoint [] [] emission else quiet old.endpoint [] []) new
    → Moves stream old (drawing mine (if fit then sends old.endpoint (U32 word ∷ []) [] emission else quiet old.endpoint (U32 word ∷ []) [])) new
sent_drawn {R = R} stream old new generator word mine emission true drawn m =
    record {
      endpoint = m.endpoint;
      events = m.events;
      words = m.words ∙ append-nil (old.words ++ U32 word ∷ []);
      pairs = m.pairs ∙ append-nil (old.pairs ++ mine ∷ []);
      drawn = DrawsWords-append (stream old.generator) (stream generator) (stream new.generator) (U32 word ∷ []) [] drawn m.drawn;
    }
sent_drawn {R = R} stream old new generator word mine emission false drawn m =
    record {
      endpoint = m.endpoint;
      events = m.events;
      words = m.words ∙ append-nil (old.words ++ U32 word ∷ []);
      pairs = m.pairs ∙ append-nil (old.pairs ++ mine ∷ []);
      drawn = DrawsWords-append (stream old.generator) (stream generator) (stream new.generator) (U32 word ∷ []) [] drawn m.drawn;
    }

-- The pair's first TSN is far from the next one of the association.
abbrev pair_after : Option Transfer → ℕ → Pair
pair_after transfer word = record { tag = tag_from word; first_tsn = (next_tsn_of transfer + tsn_gap) % 2 ^ 32 }

pub renews : {R : Type 0} (stream : R → Stream) (old mid : Context R) (new : View R) (theirs : Introduction) (tcb : TransmissionControlBlock) (mine : Pair)
    → Some tcb ≡ tcb_of old.state → mine ≡ pair_after (Some tcb.transfer) (first_word (stream old.generator))
    → MakesPair stream old mine (first_word (stream old.generator) ∷ []) (next_u32 (stream old.generator)).1 mid
    → Moves stream (view_of mid) (init_answer_turn theirs mine tcb.tie_tag (view_of mid)) new → Moves stream (view_of old) (renewed_turn stream theirs (view_of old)) new
renews {R = R} stream old mid new theirs tcb mine is pair made m =
    let v : View R = view_of old in
    let e : Endpoint = v.endpoint in
    let word : ℕ = first_word (stream old.generator) in
    let drawn : View R = pair_drawn v mid.generator word mine in
    let here : view_of mid ≡ drawn =
    ap (λ (c : Context R). view_of c) made.only
    ∙ ap (λ (ws : List Word). record v { generator = mid.generator; words = ws; pairs = (view_of mid).pairs }) made.words
    ∙ ap (λ (ps : List Pair). record drawn { pairs = ps }) made.pairs in
    let sent : Moves stream v (drawing mine (answer_outcome e theirs (U32 word ∷ []) mine tcb.tie_tag)) new =
    sent_drawn stream v new mid.generator word mine (init_ack_emission e theirs mine tcb.tie_tag) (fits e (init_ack_emission e theirs mine tcb.tie_tag))
    (refl, made.goes_on) (subst (λ (w : View R). Moves stream w (init_answer_turn theirs mine tcb.tie_tag w) new) here m) in
    let tied : Moves stream v (drawing mine (answer_outcome e theirs (U32 word ∷ []) mine e.tie)) new =
    subst (λ (tie : ℕ). Moves stream v (drawing mine (answer_outcome e theirs (U32 word ∷ []) mine tie)) new)
    (ap (λ (t : Option TransmissionControlBlock). tie_tag_of t) is) sent in
    subst (λ (held : Option Held). Moves stream v (renewed_pair_if_connected e held theirs word) new) (sym (held_by_tcb old.state tcb is))
    (subst (λ (own : Pair). Moves stream v (drawing own (answer_outcome e theirs (U32 word ∷ []) own e.tie)) new)
    (pair ∙ ap (λ (t : Option TransmissionControlBlock). pair_after (transfer_of_tcb t) word) is) tied)

-- ---- by whether it may be answered

pub init_ignored : {R : Type 0} (stream : R → Stream) (old : View R) (theirs : Introduction) → may_answer old.endpoint ≡ false → Moves stream old (init_turn stream theirs old) old
init_ignored stream old theirs is =
    subst (λ (may : Bool). Moves stream old (init_answered may old.endpoint theirs (first_word (stream old.generator)) (second_word (stream old.generator))) old) (sym is)
    (moves_still stream old)

pub init_replied : {R : Type 0} (stream : R → Stream) (old mid new : View R) (theirs : Introduction) → may_answer old.endpoint ≡ true
    → Moves stream old (init_reply_turn stream theirs old) mid → new ≡ answer_counted mid → Moves stream old (init_turn stream theirs old) new
init_replied {R = R} stream old mid new theirs is moves here =
    subst (λ (may : Bool). Moves stream old (init_answered may old.endpoint theirs (first_word (stream old.generator)) (second_word (stream old.generator))) new) (sym is)
    (subst (λ (v : View R). Moves stream old (answering (init_reply_turn stream theirs old)) v) (sym here) (answering_moves stream old mid (init_reply_turn stream theirs old) moves))

-- The steps of an INIT ACK's turn: its cookie is echoed, in front of a flush.
use Rattle.std.proofs.Common.{◌≡◌, ◌⊎◌, ◌≤◌, ◌<◌, ℕ, ◌+◌, Bool, true, false, cond, Option, None, Some, List, [], ◌∷◌, length, refl, sym, ap, subst, ◌∙◌, inl, inr, arith}
use Rattle.std.proofs.lemmas.List.{append-nil}
use Rattle.std.proofs.lemmas.Bool.Decides.{nat_tests}
use Rattle.rand_core.specs.Stream.{Stream}
use Rattle.dcsctp_core.specs.wire.Content.{cookie_echo_chunk}
use Rattle.dcsctp_core.specs.wire.Spelling.{chunk_bytes}
use Rattle.dcsctp_core.specs.types.declared.association.Pair.{Pair}
use Rattle.dcsctp_core.specs.types.declared.association.Held.{Held}
use Rattle.dcsctp_core.specs.types.declared.word.Word.{Word}
use Rattle.dcsctp_core.specs.types.declared.word.Word.TheVariants.{U64}
use Rattle.dcsctp_core.specs.types.Settings.{ports_of, packet_size_limit}
use Rattle.dcsctp_core.specs.spec.endpoint.Event.{Event}
use Rattle.dcsctp_core.specs.spec.Packet.{Introduction, cookie_echo}
use Rattle.dcsctp_core.specs.spec.endpoint.Endpoint.{Endpoint, Core, closed, cookie_wait, cookie_echoed, open_in}
use Rattle.dcsctp_core.specs.spec.endpoint.Outcome.{Outcome, quiet, contents_len, fits, still}
use Rattle.dcsctp_core.specs.spec.endpoint.Following.{next_chunk}
use Rattle.dcsctp_core.specs.spec.association.Effect.{holds, identity_of}
use Rattle.dcsctp_core.specs.spec.association.HandshakeChanges.{held_by_init_ack}
use Rattle.dcsctp_core.specs.spec.endpoint.FlushOutcomes.{Answer, first_ask, flush_of, flush_answered, packets_allowed}
use Rattle.dcsctp_core.specs.spec.endpoint.HandshakeOutcomes.{awaits_cookie_ack, echo_emission, send_echo_with_flush, accept_init_ack_with_flush, init_ack_with_flush, EchoAnswers, InitAckAnswers}
use Rattle.dcsctp_core.specs.spec.endpoint.TimerOutcomes.{AgainAnswers}
use Rattle.dcsctp_core.proofs.spec_lemmas.AnswerLemmas.{any_answers}
use Rattle.dcsctp_core.specs.declared.following.Following.TheVariants.{NextChunk}
use Rattle.dcsctp_core.specs.declared.context.Context.{Context}
use Rattle.dcsctp_core.specs.declared.state.CookieEchoState.{CookieEchoState}
use Rattle.dcsctp_core.specs.declared.state.OpenState.{OpenState}
use Rattle.dcsctp_core.specs.declared.state.State.{State}
use Rattle.dcsctp_core.specs.declared.state.State.TheVariants.{Closed, CookieWait, CookieEchoed, Open}
use Rattle.dcsctp_core.specs.View.{View, Moves, CutsTurn, view_of, core_of}
use Rattle.dcsctp_core.specs.Drawing.{long_word}
use Rattle.dcsctp_core.specs.Handling.{TakesPossibleTurn, CutsSomeTurn, HandlesSomeTurn}
use Rattle.dcsctp_core.specs.Flushing.{FlushesFor, CutsFlush}
use Rattle.dcsctp_core.proofs.Composing.{behind, Draws, moves_behind, cut_behind, moves_noting, cut_noting, cut_first, cut_after}
use Rattle.dcsctp_core.proofs.Moving.{moves_still}
use Rattle.dcsctp_core_handshake.specs.Handshake.{echo_with_flush, EchoesCookie, AcceptsInitAck, ReceivesInitAck}
use Rattle.dcsctp_core_handshake.proofs.FlushSteps.{moves_flushed, flush_following}

-- ---- the cookie is echoed

-- a turn of it, by the association
pub echo_turn : {R : Type 0} (view : View R) (core : Core) (answers : List Answer) → view.endpoint.core ≡ core → AgainAnswers view.endpoint core answers
    → EchoesCookie view (echo_with_flush (flush_answered answers) view.endpoint core)
echo_turn view core answers is allowed = (
  answers,
  subst (λ (c : Core). AgainAnswers view.endpoint c answers) (sym is) allowed,
  ap (echo_with_flush (flush_answered answers) view.endpoint) (sym is),
)

-- whether it fits
pub fit_is : (e : Endpoint) (tag : ℕ) (cookie : List ℕ) → 12 + length (chunk_bytes (cookie_echo_chunk cookie)) ≤ packet_size_limit e.options → fits e (echo_emission tag cookie) ≡ true
fit_is e tag cookie within =
    let len : contents_len (cookie_echo cookie ∷ []) ≡ length (chunk_bytes (cookie_echo_chunk cookie)) = ap length (append-nil (chunk_bytes (cookie_echo_chunk cookie))) in
    grind (arith, nat_tests)

pub unfit_is : (e : Endpoint) (tag : ℕ) (cookie : List ℕ) → packet_size_limit e.options < 12 + length (chunk_bytes (cookie_echo_chunk cookie)) → fits e (echo_emission tag cookie) ≡ false
unfit_is e tag cookie beyond =
    let len : contents_len (cookie_echo cookie ∷ []) ≡ length (chunk_bytes (cookie_echo_chunk cookie)) = ap length (append-nil (chunk_bytes (cookie_echo_chunk cookie))) in
    grind (arith, nat_tests)

-- nothing is sent where nothing is echoed
pub echoes_nothing : {R : Type 0} (stream : R → Stream) (view : View R) (core : Core) → view.endpoint.core ≡ core → AgainAnswers view.endpoint core []
    → echo_with_flush (flush_answered []) view.endpoint core ≡ still view.endpoint → TakesPossibleTurn stream EchoesCookie view view
echoes_nothing stream view core is allowed nothing =
    record {
      outcome = echo_with_flush (flush_answered []) view.endpoint core;
      turn = echo_turn view core [] is allowed;
      moves = subst (λ (o : Outcome). Moves stream view o view) (sym nothing) (moves_still stream view);
    }

echoes_at : {R : Type 0} (stream : R → Stream) (old : Context R) (state : State) → old.state ≡ state → ((echoed : CookieEchoState) → state ≡ CookieEchoed echoed → ⊥)
    → TakesPossibleTurn stream EchoesCookie (view_of old) (view_of old)
echoes_at stream old Closed is other = echoes_nothing stream (view_of old) closed (ap core_of is) refl refl
echoes_at stream old (CookieWait wait) is other = echoes_nothing stream (view_of old) (cookie_wait wait.my) (ap core_of is) refl refl
echoes_at stream old (CookieEchoed echoed) is other = absurd (other echoed refl)
echoes_at stream old (Open opened) is other = echoes_nothing stream (view_of old) (core_of (Open opened)) (ap core_of is) refl refl

pub echoes_elsewhere : {R : Type 0} (stream : R → Stream) (old : Context R) → ((echoed : CookieEchoState) → old.state ≡ CookieEchoed echoed → ⊥) → TakesPossibleTurn stream EchoesCookie (view_of old) (view_of old)
echoes_elsewhere stream old other = echoes_at stream old old.state refl other

unfit_where : (b : Bool) (e : Endpoint) (tag : ℕ) (cookie : List ℕ) → b ≡ false
    → EchoAnswers b e tag cookie [] × (cond b (flush_answered [] e [] [] true tag (cookie_echo cookie ∷ [])) (quiet e [] []) ≡ still e)
unfit_where true e tag cookie is = absurd (cc)
unfit_where false e tag cookie is = (refl, refl)

-- nor where it doesn't fit
pub echoes_unfit : {R : Type 0} (stream : R → Stream) (view : View R) (mine : Pair) (held : Held) (cookie : List ℕ) → view.endpoint.core ≡ cookie_echoed mine held cookie
    → fits view.endpoint (echo_emission held.peer.tag cookie) ≡ false → TakesPossibleTurn stream EchoesCookie view view
echoes_unfit stream view mine held cookie is unfit =
    let none = unfit_where (fits view.endpoint (echo_emission held.peer.tag cookie)) view.endpoint held.peer.tag cookie unfit in
    echoes_nothing stream view (cookie_echoed mine held cookie) is none.0 none.1

fit_where : (b : Bool) (e : Endpoint) (tag : ℕ) (cookie : List ℕ) (answers : List Answer) → b ≡ true → EchoAnswers true e tag cookie answers
    → EchoAnswers b e tag cookie answers
    × (cond b (flush_answered answers e [] [] true tag (cookie_echo cookie ∷ [])) (quiet e [] []) ≡ flush_answered answers e [] [] true tag (cookie_echo cookie ∷ []))
fit_where true e tag cookie answers is allowed = (allowed, refl)
fit_where false e tag cookie answers is allowed = absurd (cc)

-- one that fits is in front of a flush
pub echoes_flush : {R : Type 0} (stream : R → Stream) (old new : View R) (mine : Pair) (held : Held) (cookie : List ℕ) → old.endpoint.core ≡ cookie_echoed mine held cookie
    → fits old.endpoint (echo_emission held.peer.tag cookie) ≡ true
    → FlushesFor stream first_ask (packets_allowed old.endpoint.options.max_burst old.endpoint.core) old (echo_emission held.peer.tag cookie) new → TakesPossibleTurn stream EchoesCookie old new
echoes_flush stream old new mine held cookie is fit f =
    let here = fit_where (fits old.endpoint (echo_emission held.peer.tag cookie)) old.endpoint held.peer.tag cookie f.answers fit f.allowed in
    record {
      outcome = echo_with_flush (flush_answered f.answers) old.endpoint (cookie_echoed mine held cookie);
      turn = echo_turn old (cookie_echoed mine held cookie) f.answers is here.0;
      moves = subst (λ (o : Outcome). Moves stream old o new) (sym here.1) (moves_flushed stream old new (flush_of old.endpoint (echo_emission held.peer.tag cookie) f.answers) f.moves);
    }

pub echoes_cut : {R : Type 0} (old : View R) (es : List (Event (List ℕ))) (mine : Pair) (held : Held) (cookie : List ℕ) → old.endpoint.core ≡ cookie_echoed mine held cookie
    → fits old.endpoint (echo_emission held.peer.tag cookie) ≡ true
    → CutsFlush first_ask (packets_allowed old.endpoint.options.max_burst old.endpoint.core) old (echo_emission held.peer.tag cookie) es → CutsSomeTurn EchoesCookie old es
echoes_cut old es mine held cookie is fit f =
    let here = fit_where (fits old.endpoint (echo_emission held.peer.tag cookie)) old.endpoint held.peer.tag cookie f.answers fit f.allowed in
    let flush : Outcome = flush_answered f.answers old.endpoint [] [] true held.peer.tag (cookie_echo cookie ∷ []) in
    record {
      outcome = echo_with_flush (flush_answered f.answers) old.endpoint (cookie_echoed mine held cookie);
      turn = echo_turn old (cookie_echoed mine held cookie) f.answers is here.0;
      cut = subst (λ (o : Outcome). CutsTurn old o es) (sym here.1) (cut_after old flush es f.front f.rest f.parts f.added);
    }

-- some answers that its flush may get
any_echo : (b : Bool) (e : Endpoint) (tag : ℕ) (cookie : List ℕ) → (answers : List Answer) × EchoAnswers b e tag cookie answers
any_echo true e tag cookie = any_answers first_ask (packets_allowed e.options.max_burst e.core) e (echo_emission tag cookie)
any_echo false e tag cookie = ([], refl)

any_again : (e : Endpoint) (core : Core) → (answers : List Answer) × AgainAnswers e core answers
any_again e closed = ([], refl)
any_again e (cookie_wait mine) = ([], refl)
any_again e (cookie_echoed mine held cookie) = any_echo (fits e (echo_emission held.peer.tag cookie)) e held.peer.tag cookie
any_again e (open_in phase mine held) = ([], refl)

pub echo_unmade : {R : Type 0} (old : View R) (es : List (Event (List ℕ))) → es ≡ old.events → CutsSomeTurn EchoesCookie old es
echo_unmade old es same =
    let some = any_again old.endpoint old.endpoint.core in
    let o : Outcome = echo_with_flush (flush_answered some.0) old.endpoint old.endpoint.core in
    record { outcome = o; turn = (some.0, some.1, refl); cut = cut_first old o es same }

-- ---- after the word of a new association

behind_where : (b : Bool) (answers : List Answer) (e : Endpoint) (word : Word) (tag : ℕ) (cookie : List ℕ)
    → behind (word ∷ []) [] (cond b (flush_answered answers e [] [] true tag (cookie_echo cookie ∷ [])) (quiet e [] []))
    ≡ cond b (flush_answered answers e (word ∷ []) [] true tag (cookie_echo cookie ∷ [])) (quiet e (word ∷ []) [])
behind_where true answers e word tag cookie = refl
behind_where false answers e word tag cookie = refl

-- what is answered there
pub record EchoedThere (e : Endpoint) (answers : List Answer) (tag : ℕ) (cookie : List ℕ) (o : Outcome) : Type 0 where
  pub allowed : EchoAnswers (fits e (echo_emission tag cookie)) e tag cookie answers
  pub is : o ≡ send_echo_with_flush (flush_answered answers) e [] tag cookie

echoed_there : {R : Type 0} (mid : View R) (old : Endpoint) (mine : Pair) (theirs : Introduction) (cookie : List ℕ) (tie : ℕ) (o : Outcome) (turn : EchoesCookie mid o)
    → mid.endpoint ≡ awaits_cookie_ack old mine theirs cookie tie → EchoedThere (awaits_cookie_ack old mine theirs cookie tie) turn.0 theirs.pair.tag cookie o
echoed_there mid old mine theirs cookie tie o turn here =
    record {
      allowed = subst (λ (e : Endpoint). AgainAnswers e e.core turn.0) here turn.1;
      is = turn.2 ∙ ap (λ (e : Endpoint). echo_with_flush (flush_answered turn.0) e e.core) here;
    }

-- the word is the one that comes next
abbrev TieIs : {R : Type 0} → (R → Stream) → View R → ℕ → Type 0
TieIs stream old tie = tie ≡ long_word (stream old.generator)

pub accepts : {R : Type 0} (stream : R → Stream) (old mid new : View R) (mine : Pair) (theirs : Introduction) (cookie : List ℕ) (tie : ℕ) → TieIs stream old tie
    → mid.endpoint ≡ awaits_cookie_ack old.endpoint mine theirs cookie tie → mid.events ≡ old.events → Draws stream old (U64 tie ∷ []) mid
    → TakesPossibleTurn stream EchoesCookie mid new → TakesPossibleTurn stream (AcceptsInitAck stream mine theirs cookie) old new
accepts {R = R} stream old mid new mine theirs cookie tie drawn here same draws t =
    let e : Endpoint = awaits_cookie_ack old.endpoint mine theirs cookie tie in
    let answers : List Answer = t.turn.0 in
    let a : EchoedThere e answers theirs.pair.tag cookie t.outcome = echoed_there mid old.endpoint mine theirs cookie tie t.outcome t.turn here in
    let m : Moves stream mid (send_echo_with_flush (flush_answered answers) e [] theirs.pair.tag cookie) new = subst (λ (o : Outcome). Moves stream mid o new) a.is t.moves in
    let b : Moves stream old (behind (U64 tie ∷ []) [] (send_echo_with_flush (flush_answered answers) e [] theirs.pair.tag cookie)) new =
    moves_behind stream old mid new (U64 tie ∷ []) [] (send_echo_with_flush (flush_answered answers) e [] theirs.pair.tag cookie)
    (record { ports = ap (λ (x : Endpoint). ports_of x.options) here; events = same ∙ sym (append-nil old.events) }) draws m in
    let all : Moves stream old (accept_init_ack_with_flush (flush_answered answers) old.endpoint mine theirs (Some cookie) tie) new =
    moves_noting stream old new (holds (identity_of mine (held_by_init_ack old.endpoint.options mine theirs)) ∷ []) (send_echo_with_flush (flush_answered answers) e (U64 tie ∷ []) theirs.pair.tag cookie) refl
    (subst (λ (o : Outcome). Moves stream old o new) (behind_where (fits e (echo_emission theirs.pair.tag cookie)) answers e (U64 tie) theirs.pair.tag cookie) b) in
    subst (λ (word : ℕ). (answered : List Answer) × InitAckAnswers old.endpoint theirs (Some cookie) (cookie_wait mine) word answered × Moves stream old (accept_init_ack_with_flush (flush_answered answered) old.endpoint mine theirs (Some cookie) word) new → TakesPossibleTurn stream (AcceptsInitAck stream mine theirs cookie) old new)
    (sym drawn) (λ h. record { outcome = accept_init_ack_with_flush (flush_answered h.0) old.endpoint mine theirs (Some cookie) (long_word (stream old.generator)); turn = (h.0, h.1, refl); moves = h.2 })
    (answers, a.allowed, all)

pub accepts_cut : {R : Type 0} (stream : R → Stream) (old mid : View R) (es : List (Event (List ℕ))) (mine : Pair) (theirs : Introduction) (cookie : List ℕ) (tie : ℕ) → TieIs stream old tie
    → mid.endpoint ≡ awaits_cookie_ack old.endpoint mine theirs cookie tie → mid.events ≡ old.events
    → CutsSomeTurn EchoesCookie mid es → CutsSomeTurn (AcceptsInitAck stream mine theirs cookie) old es
accepts_cut {R = R} stream old mid es mine theirs cookie tie drawn here same t =
    let e : Endpoint = awaits_cookie_ack old.endpoint mine theirs cookie tie in
    let answers : List Answer = t.turn.0 in
    let a : EchoedThere e answers theirs.pair.tag cookie t.outcome = echoed_there mid old.endpoint mine theirs cookie tie t.outcome t.turn here in
    let m : CutsTurn mid (send_echo_with_flush (flush_answered answers) e [] theirs.pair.tag cookie) es = subst (λ (o : Outcome). CutsTurn mid o es) a.is t.cut in
    let b : CutsTurn old (behind (U64 tie ∷ []) [] (send_echo_with_flush (flush_answered answers) e [] theirs.pair.tag cookie)) es =
    cut_behind old mid (U64 tie ∷ []) [] (send_echo_with_flush (flush_answered answers) e [] theirs.pair.tag cookie) es
    (record { ports = ap (λ (x : Endpoint). ports_of x.options) here; events = same ∙ sym (append-nil old.events) }) m in
    let all : CutsTurn old (accept_init_ack_with_flush (flush_answered answers) old.endpoint mine theirs (Some cookie) tie) es =
    cut_noting old (holds (identity_of mine (held_by_init_ack old.endpoint.options mine theirs)) ∷ []) (send_echo_with_flush (flush_answered answers) e (U64 tie ∷ []) theirs.pair.tag cookie) es
    (subst (λ (o : Outcome). CutsTurn old o es) (behind_where (fits e (echo_emission theirs.pair.tag cookie)) answers e (U64 tie) theirs.pair.tag cookie) b) in
    subst (λ (word : ℕ). (answered : List Answer) × InitAckAnswers old.endpoint theirs (Some cookie) (cookie_wait mine) word answered × CutsTurn old (accept_init_ack_with_flush (flush_answered answered) old.endpoint mine theirs (Some cookie) word) es → CutsSomeTurn (AcceptsInitAck stream mine theirs cookie) old es)
    (sym drawn) (λ h. record { outcome = accept_init_ack_with_flush (flush_answered h.0) old.endpoint mine theirs (Some cookie) (long_word (stream old.generator)); turn = (h.0, h.1, refl); cut = h.2 })
    (answers, a.allowed, all)

pub acceptance_unmade : {R : Type 0} (stream : R → Stream) (old : View R) (es : List (Event (List ℕ))) (mine : Pair) (theirs : Introduction) (cookie : List ℕ) → es ≡ old.events
    → CutsSomeTurn (AcceptsInitAck stream mine theirs cookie) old es
acceptance_unmade stream old es mine theirs cookie same =
    let tie : ℕ = long_word (stream old.generator) in
    let e : Endpoint = awaits_cookie_ack old.endpoint mine theirs cookie tie in
    let some = any_echo (fits e (echo_emission theirs.pair.tag cookie)) e theirs.pair.tag cookie in
    let o : Outcome = accept_init_ack_with_flush (flush_answered some.0) old.endpoint mine theirs (Some cookie) tie in
    record { outcome = o; turn = (some.0, some.1, refl); cut = cut_first old o es same }

-- ---- the turn of the INIT ACK

-- One that comes in another state changes nothing.
abbrev pub NotWaiting : Core → Type 0
NotWaiting (cookie_wait mine) = ⊥
NotWaiting core = Unit {0}

other_answers : (e : Endpoint) (theirs : Introduction) (cookie : Option (List ℕ)) (core : Core) → NotWaiting core → InitAckAnswers e theirs cookie core 0 []
other_answers e theirs None core other = refl
other_answers e theirs (Some cookie) closed other = refl
other_answers e theirs (Some cookie) (cookie_wait mine) other = absurd other
other_answers e theirs (Some cookie) (cookie_echoed mine held echoed) other = refl
other_answers e theirs (Some cookie) (open_in phase mine held) other = refl

other_outcome : (e : Endpoint) (theirs : Introduction) (cookie : Option (List ℕ)) (core : Core) → NotWaiting core → still e ≡ init_ack_with_flush (flush_answered []) e theirs cookie core 0
other_outcome e theirs cookie closed other = refl
other_outcome e theirs cookie (cookie_wait mine) other = absurd other
other_outcome e theirs cookie (cookie_echoed mine held echoed) other = refl
other_outcome e theirs cookie (open_in phase mine held) other = refl

pub works_other : {R : Type 0} (stream : R → Stream) (old : View R) (theirs : Introduction) (cookie : Option (List ℕ)) (core : Core) → old.endpoint.core ≡ core → NotWaiting core
    → HandlesSomeTurn stream (ReceivesInitAck theirs cookie) old NextChunk old
works_other stream old theirs cookie core is other =
    let here : NotWaiting old.endpoint.core = subst NotWaiting (sym is) other in
    record {
      outcome = still old.endpoint;
      turn = (0, [], other_answers old.endpoint theirs cookie old.endpoint.core here, other_outcome old.endpoint theirs cookie old.endpoint.core here);
      moves = moves_still stream old;
      following = refl;
    }

-- by its state
pub works_elsewhere : {R : Type 0} (stream : R → Stream) (old : Context R) (theirs : Introduction) (cookie : Option (List ℕ))
    → (old.state ≡ Closed) ⊎ (((echoed : CookieEchoState) × (old.state ≡ CookieEchoed echoed)) ⊎ ((opened : OpenState) × (old.state ≡ Open opened)))
    → HandlesSomeTurn stream (ReceivesInitAck theirs cookie) (view_of old) NextChunk (view_of old)
works_elsewhere stream old theirs cookie (inl is) = works_other stream (view_of old) theirs cookie closed (ap core_of is) tt
works_elsewhere stream old theirs cookie (inr (inl is)) = works_other stream (view_of old) theirs cookie (core_of (CookieEchoed is.0)) (ap core_of is.1) tt
works_elsewhere stream old theirs cookie (inr (inr is)) = works_other stream (view_of old) theirs cookie (core_of (Open is.0)) (ap core_of is.1) tt

-- by its cookie, where it is waited for
init_ack_turn : {R : Type 0} (old : View R) (theirs : Introduction) (found cookie : Option (List ℕ)) (mine : Pair) (tie : ℕ) (answers : List Answer) (o : Outcome)
    → old.endpoint.core ≡ cookie_wait mine → found ≡ cookie → InitAckAnswers old.endpoint theirs cookie (cookie_wait mine) tie answers
    → o ≡ accept_init_ack_with_flush (flush_answered answers) old.endpoint mine theirs cookie tie → ReceivesInitAck theirs found old o
init_ack_turn old theirs found cookie mine tie answers o is has allowed made =
    let e : Endpoint = old.endpoint in (
      tie,
      answers,
      subst (λ (c : Option (List ℕ)). InitAckAnswers e theirs c e.core tie answers) (sym has) (subst (λ (core : Core). InitAckAnswers e theirs cookie core tie answers) (sym is) allowed),
      made ∙ ap (λ (core : Core). init_ack_with_flush (flush_answered answers) e theirs cookie core tie) (sym is)
          ∙ ap (λ (c : Option (List ℕ)). init_ack_with_flush (flush_answered answers) e theirs c e.core tie) (sym has),
    )

echo_following : (b : Bool) (e : Endpoint) (words : List Word) (tag : ℕ) (cookie : List ℕ) (answers : List Answer)
    → (cond b (flush_answered answers e words [] true tag (cookie_echo cookie ∷ [])) (quiet e words [])).following ≡ next_chunk
echo_following true e words tag cookie answers = flush_following _ _ answers
echo_following false e words tag cookie answers = refl

pub works_accepted : {R : Type 0} (stream : R → Stream) (old new : View R) (theirs : Introduction) (found : Option (List ℕ)) (cookie : List ℕ) (mine : Pair)
    → old.endpoint.core ≡ cookie_wait mine → found ≡ Some cookie
    → TakesPossibleTurn stream (AcceptsInitAck stream mine theirs cookie) old new → HandlesSomeTurn stream (ReceivesInitAck theirs found) old NextChunk new
works_accepted stream old new theirs found cookie mine is has t =
    let tie : ℕ = long_word (stream old.generator) in
    let e : Endpoint = awaits_cookie_ack old.endpoint mine theirs cookie tie in
    record {
      outcome = t.outcome;
      turn = init_ack_turn old theirs found (Some cookie) mine tie t.turn.0 t.outcome is has t.turn.1 t.turn.2;
      moves = t.moves;
      following = ap (λ (o : Outcome). o.following) t.turn.2 ∙ echo_following (fits e (echo_emission theirs.pair.tag cookie)) e (U64 tie ∷ []) theirs.pair.tag cookie t.turn.0;
    }

pub works_accepted_cut : {R : Type 0} (stream : R → Stream) (old : View R) (es : List (Event (List ℕ))) (theirs : Introduction) (found : Option (List ℕ)) (cookie : List ℕ) (mine : Pair)
    → old.endpoint.core ≡ cookie_wait mine → found ≡ Some cookie
    → CutsSomeTurn (AcceptsInitAck stream mine theirs cookie) old es → CutsSomeTurn (ReceivesInitAck theirs found) old es
works_accepted_cut stream old es theirs found cookie mine is has t =
    record {
      outcome = t.outcome;
      turn = init_ack_turn old theirs found (Some cookie) mine (long_word (stream old.generator)) t.turn.0 t.outcome is has t.turn.1 t.turn.2;
      cut = t.cut;
    }

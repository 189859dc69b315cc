-- connect, INIT, INIT ACK and T1 keep what is true.
use Rattle.std.proofs.Common.{◌≡◌, ◌≢◌, ℕ, Bool, true, false, Option, None, Some, List, [], ◌∷◌, inl, inr, refl, sym, subst, ap, ◌∙◌, Ok}
use Rattle.dcsctp_spec_lemmas.specs.types.declared.association.Pair.{Pair}
use Rattle.dcsctp_spec_lemmas.specs.types.declared.association.Held.{Held}
use Rattle.dcsctp_spec_lemmas.specs.types.declared.capabilities.Capabilities.{Capabilities}
use Rattle.dcsctp_spec_lemmas.specs.types.declared.options.Options.{Options}
use Rattle.dcsctp_spec_lemmas.specs.types.Offer.{Offer, offer_of, answering_offer, negotiated_capabilities}
use Rattle.dcsctp_spec_runs.specs.Laws.{AnswerKeepsAgreement}
use Rattle.dcsctp_spec_lemmas.specs.spec.Cookie.{Cookie, cookie_of_bytes}
use Rattle.dcsctp_spec_lemmas.specs.spec.Packet.{Introduction, Content, init, init_ack, cookie_echo}
use Rattle.dcsctp_spec_lemmas.specs.spec.endpoint.Endpoint.{Core, closed, cookie_wait, cookie_echoed, open_in, established, shutdown_pending, shutdown_sent, shutdown_received, shutdown_ack_sent, own_tag}
use Rattle.dcsctp_spec_lemmas.specs.spec.endpoint.Following.{next_chunk}
use Rattle.dcsctp_spec_lemmas.specs.spec.association.Effect.{Effect, draws, sends, holds, identity_of, emitted_alone}
use Rattle.dcsctp_spec_lemmas.specs.spec.association.Choices.{Filling, Choices}
use Rattle.dcsctp_spec_lemmas.specs.spec.association.FlushChanges.{flush}
use Rattle.dcsctp_spec_lemmas.specs.spec.association.HandshakeChanges.{introduction_of, answering_introduction, new_held, sends_init, connect_change, answering_pair, IsCookieOf, sends_init_ack, drawn_answer_change, init_change, echo_change, held_by_init_ack, init_ack_change, t1_again_change, t1_gives_up_change}
use Rattle.dcsctp_spec_runs.specs.Past.{HasEffect, HasFreshTags}
use Rattle.dcsctp_spec_runs.specs.World.{after_effects}
use Rattle.dcsctp_theorem_association.proofs.Facts.{agreed_link, TrueInitAck, TrueEcho, TrueFront, TruePast, PeerFacts, NoEcho, OneEcho, EchoedCookie, TrueCore}
use Rattle.dcsctp_theorem_association.proofs.Growth.{same, after_within, true_of, peer_grows}
use Rattle.dcsctp_theorem_association.proofs.Echoes.{no_echo_after, none_is_one, one_echo_after, one_echo_more}
use Rattle.dcsctp_theorem_association.proofs.Flushes.{alone_true, alone_free, flush_true, echo_only, flush_peer, flush_pair}
use Rattle.dcsctp_theorem_association.proofs.Turns.{Kept, stays_kept, unchanged_kept, ended_kept, open_kept, SameTag}

-- one reading
pub same_reading : (bytes : List ℕ) (one other : Cookie) → cookie_of_bytes bytes ≡ Ok one → cookie_of_bytes bytes ≡ Ok other → one ≡ other
same_reading bytes one other e f = cc

-- ---- connect

-- No cookie was echoed whose addressee has a tag that is drawn afresh.
fresh_no_echo : (my_offer their_offer : Offer) (mine theirs : List Effect) (drawn : Pair) → TruePast my_offer their_offer mine theirs
    → ((other : Pair) → HasEffect (draws other) mine → drawn.tag ≢ other.tag) → NoEcho drawn.tag mine
fresh_no_echo my_offer their_offer mine theirs drawn past fresh header bytes behind cookie h reads is =
    let echo : TrueEcho my_offer their_offer mine theirs header bytes = (true_of my_offer their_offer mine theirs (sends (record { tag = header; contents = cookie_echo bytes ∷ behind })) past h).0 in
    let e : echo.cookie ≡ cookie = same_reading bytes echo.cookie cookie echo.reads reads in
    fresh echo.cookie.addressee echo.addressee (sym (ap (λ (c : Cookie). c.addressee.tag) e ∙ is))

fresh_in_connect : (fits : Bool) (drawn : Pair) (content : Content) (mine : List Effect) → HasFreshTags (after_effects (draws drawn ∷ emitted_alone fits 0 content) mine)
    → (other : Pair) → HasEffect (draws other) mine → drawn.tag ≢ other.tag
fresh_in_connect true drawn content mine fresh = fresh.1.0
fresh_in_connect false drawn content mine fresh = fresh.0

pub connect_kept : (options : Options) (their_offer : Offer) (mine theirs : List Effect) (core : Core) (choices : Choices)
    → TruePast (offer_of options) their_offer mine theirs → TrueCore (offer_of options) their_offer mine theirs core
    → HasFreshTags (after_effects (connect_change options core choices).effects mine)
    → Kept (offer_of options) their_offer mine theirs (connect_change options core choices)
connect_kept options their_offer mine theirs closed choices past h fresh =
    let content : Content = init (introduction_of options choices.drawn) in
    let effects : List Effect = sends_init options choices.drawn choices.fits in
    record {
      effects = (tt, alone_true (offer_of options) their_offer (draws choices.drawn ∷ mine) theirs choices.fits 0 content (inl refl, refl));
      core = (
        after_within effects (draws choices.drawn ∷ mine) _ (inl refl),
        no_echo_after choices.drawn.tag (draws choices.drawn ∷ effects) mine (tt, alone_free choices.fits 0 content tt)
            (fresh_no_echo (offer_of options) their_offer mine theirs choices.drawn past (fresh_in_connect choices.fits choices.drawn content mine fresh)),
      );
    }
connect_kept options their_offer mine theirs (cookie_wait my) choices past h fresh = unchanged_kept (offer_of options) their_offer mine theirs (cookie_wait my) h
connect_kept options their_offer mine theirs (cookie_echoed my held bytes) choices past h fresh = unchanged_kept (offer_of options) their_offer mine theirs (cookie_echoed my held bytes) h
connect_kept options their_offer mine theirs (open_in phase my held) choices past h fresh = unchanged_kept (offer_of options) their_offer mine theirs (open_in phase my held) h

-- ---- INIT

true_init_ack : AnswerKeepsAgreement → (options : Options) (their_offer : Offer) (mine theirs : List Effect) (introduction : Introduction) (pair : Pair) (bytes : List ℕ)
    → HasEffect (draws pair) mine → HasEffect (draws introduction.pair) theirs → introduction.offer ≡ their_offer → IsCookieOf introduction pair bytes
    → TrueInitAck (offer_of options) their_offer mine theirs introduction.pair.tag (answering_introduction options introduction pair) bytes
true_init_ack law options their_offer mine theirs introduction pair bytes mine_drawn theirs_drawn offer is =
    record {
      cookie = is.0;
      reads = is.1;
      under = ap (λ (p : Pair). p.tag) (sym is.3);
      pair = is.2;
      maker = subst (λ (p : Pair). HasEffect (draws p) mine) (sym is.2) mine_drawn;
      addressee = subst (λ (p : Pair). HasEffect (draws p) theirs) (sym is.3) theirs_drawn;
      offer = is.4 ∙ offer;
      announced = ap (λ (o : Offer). negotiated_capabilities their_offer (answering_offer o (offer_of options))) offer ∙ law their_offer (offer_of options);
    }

answer_kept : AnswerKeepsAgreement → (options : Options) (their_offer : Offer) (mine theirs : List Effect) (core : Core) (introduction : Introduction) (pair : Pair) (choices : Choices)
    → TrueCore (offer_of options) their_offer mine theirs core → HasEffect (draws pair) mine → HasEffect (draws introduction.pair) theirs → introduction.offer ≡ their_offer
    → IsCookieOf introduction pair choices.cookie
    → Kept (offer_of options) their_offer mine theirs (record { core = core; effects = sends_init_ack options introduction pair choices; following = next_chunk })
answer_kept law options their_offer mine theirs core introduction pair choices h mine_drawn theirs_drawn offer is =
    let content : Content = init_ack (answering_introduction options introduction pair) (Some choices.cookie) in
    stays_kept (offer_of options) their_offer mine theirs core (sends_init_ack options introduction pair choices) next_chunk h
    (alone_true (offer_of options) their_offer mine theirs choices.fits introduction.pair.tag content (true_init_ack law options their_offer mine theirs introduction pair choices.cookie mine_drawn theirs_drawn offer is))
    (alone_free choices.fits introduction.pair.tag content tt)

draws_and_answers_kept : AnswerKeepsAgreement → (options : Options) (their_offer : Offer) (mine theirs : List Effect) (core : Core) (introduction : Introduction) (choices : Choices)
    → TrueCore (offer_of options) their_offer mine theirs core → HasEffect (draws introduction.pair) theirs → introduction.offer ≡ their_offer
    → IsCookieOf introduction choices.drawn choices.cookie
    → Kept (offer_of options) their_offer mine theirs (drawn_answer_change options core introduction choices)
draws_and_answers_kept law options their_offer mine theirs core introduction choices h theirs_drawn offer is =
    let content : Content = init_ack (answering_introduction options introduction choices.drawn) (Some choices.cookie) in
    stays_kept (offer_of options) their_offer mine theirs core (draws choices.drawn ∷ sends_init_ack options introduction choices.drawn choices) next_chunk h (
      tt,
      alone_true (offer_of options) their_offer (draws choices.drawn ∷ mine) theirs choices.fits introduction.pair.tag content
          (true_init_ack law options their_offer (draws choices.drawn ∷ mine) theirs introduction choices.drawn choices.cookie (inl refl) theirs_drawn offer is),
    )
    (tt, alone_free choices.fits introduction.pair.tag content tt)

pub init_kept : AnswerKeepsAgreement → (options : Options) (their_offer : Offer) (mine theirs : List Effect) (core : Core) (introduction : Introduction) (choices : Choices)
    → TrueCore (offer_of options) their_offer mine theirs core → HasEffect (draws introduction.pair) theirs → introduction.offer ≡ their_offer
    → IsCookieOf introduction (answering_pair core choices.drawn) choices.cookie
    → Kept (offer_of options) their_offer mine theirs (init_change options core introduction choices)
init_kept law options their_offer mine theirs closed introduction choices h drawn offer is = draws_and_answers_kept law options their_offer mine theirs closed introduction choices h drawn offer is
init_kept law options their_offer mine theirs (cookie_wait my) introduction choices h drawn offer is =
    answer_kept law options their_offer mine theirs (cookie_wait my) introduction my choices h h.0 drawn offer is
init_kept law options their_offer mine theirs (cookie_echoed my held bytes) introduction choices h drawn offer is =
    answer_kept law options their_offer mine theirs (cookie_echoed my held bytes) introduction my choices h h.0.my_drawn drawn offer is
init_kept law options their_offer mine theirs (open_in established my held) introduction choices h drawn offer is =
    draws_and_answers_kept law options their_offer mine theirs (open_in established my held) introduction choices h drawn offer is
init_kept law options their_offer mine theirs (open_in shutdown_pending my held) introduction choices h drawn offer is =
    draws_and_answers_kept law options their_offer mine theirs (open_in shutdown_pending my held) introduction choices h drawn offer is
init_kept law options their_offer mine theirs (open_in shutdown_sent my held) introduction choices h drawn offer is =
    draws_and_answers_kept law options their_offer mine theirs (open_in shutdown_sent my held) introduction choices h drawn offer is
init_kept law options their_offer mine theirs (open_in shutdown_received my held) introduction choices h drawn offer is =
    draws_and_answers_kept law options their_offer mine theirs (open_in shutdown_received my held) introduction choices h drawn offer is
init_kept law options their_offer mine theirs (open_in shutdown_ack_sent my held) introduction choices h drawn offer is =
    open_kept (offer_of options) their_offer mine theirs shutdown_ack_sent my held _ next_chunk h ((tt, tt), tt)

-- ---- COOKIE ECHO out

-- the facts on the echo, from those on the association
true_echo : (my_offer their_offer : Offer) (mine theirs : List Effect) (my : Pair) (held : Held) (bytes : List ℕ)
    → PeerFacts my_offer their_offer mine theirs my held → EchoedCookie my_offer my held bytes → TrueEcho my_offer their_offer mine theirs held.peer.tag bytes
true_echo my_offer their_offer mine theirs my held bytes h echo =
    record {
      cookie = echo.cookie;
      reads = echo.reads;
      under = ap (λ (p : Pair). p.tag) (sym echo.maker);
      maker = subst (λ (p : Pair). HasEffect (draws p) theirs) (sym echo.maker) h.peer_drawn;
      addressee = subst (λ (p : Pair). HasEffect (draws p) mine) (sym echo.addressee) h.my_drawn;
      offer = echo.offer;
      held = subst (λ (p : Pair). HasEffect (holds (agreed_link my_offer their_offer p echo.cookie.maker)) mine) (sym echo.addressee)
          (subst (λ (p : Pair). HasEffect (holds (agreed_link my_offer their_offer my p)) mine) (sym echo.maker) h.shown);
    }

pub echoes_kept : (my_offer their_offer : Offer) (mine theirs : List Effect) (my : Pair) (held : Held) (bytes : List ℕ) (fits : Bool) (filling : Filling)
    → PeerFacts my_offer their_offer mine theirs my held → OneEcho my.tag bytes mine → EchoedCookie my_offer my held bytes
    → Kept my_offer their_offer mine theirs (echo_change my held bytes fits filling)
echoes_kept my_offer their_offer mine theirs my held bytes false filling h one echo = record { effects = tt; core = (h, one, echo) }
echoes_kept my_offer their_offer mine theirs my held bytes true filling h one echo =
    let front : List Content = cookie_echo bytes ∷ [] in
    let effects : List Effect = (flush held.peer.tag held front filling).effects in
    record {
      effects = flush_true my_offer their_offer mine theirs held.peer.tag held front filling (true_echo my_offer their_offer mine theirs my held bytes h echo, tt);
      core = (
        peer_grows my_offer their_offer mine theirs (after_effects effects mine) theirs my (flush held.peer.tag held front filling).held (after_within effects mine) (same theirs)
            (flush_peer my_offer their_offer mine theirs my held.peer.tag held front filling h),
        one_echo_after my.tag bytes effects mine (echo_only held.peer.tag held bytes filling) one,
        record {
          cookie = echo.cookie;
          reads = echo.reads;
          maker = echo.maker ∙ sym (flush_pair held.peer.tag held front filling);
          addressee = echo.addressee;
          offer = echo.offer;
        },
      );
    }

-- ---- INIT ACK

-- what an association begins with is true
pub new_peer : (my_offer their_offer : Offer) (mine theirs : List Effect) (my peer : Pair) (capabilities : Capabilities)
    → HasEffect (draws my) mine → HasEffect (draws peer) theirs → capabilities ≡ negotiated_capabilities my_offer their_offer → HasEffect (holds (agreed_link my_offer their_offer my peer)) mine
    → PeerFacts my_offer their_offer mine theirs my (new_held my peer capabilities)
new_peer my_offer their_offer mine theirs my peer capabilities my_drawn peer_drawn agreed shown =
    record { my_drawn = my_drawn; peer_drawn = peer_drawn; capabilities = agreed; shown = shown; nothing = λ is. refl; performed = λ is. absurd (cc) }

init_ack_in_wait : (options : Options) (their_offer : Offer) (mine theirs : List Effect) (my : Pair) (introduction : Introduction) (bytes : List ℕ) (choices : Choices) (header : ℕ)
    → HasEffect (draws my) mine → NoEcho my.tag mine → SameTag mine → TrueInitAck their_offer (offer_of options) theirs mine header introduction bytes → header ≡ my.tag
    → Kept (offer_of options) their_offer mine theirs (init_ack_change options (cookie_wait my) introduction (Some bytes) choices)
init_ack_in_wait options their_offer mine theirs my introduction bytes choices header drawn none tags ack is =
    let held : Held = held_by_init_ack options my introduction in
    let my_pair : ack.cookie.addressee ≡ my = tags ack.cookie.addressee my ack.addressee drawn (sym ack.under ∙ is) in
    let shown : HasEffect (holds (agreed_link (offer_of options) their_offer my introduction.pair)) (holds (identity_of my held) ∷ mine) =
    inl (ap (λ (c : Capabilities). holds (record { my = my; peer = introduction.pair; capabilities = c })) (sym ack.announced)) in
    let facts : PeerFacts (offer_of options) their_offer (holds (identity_of my held) ∷ mine) theirs my held =
    new_peer (offer_of options) their_offer (holds (identity_of my held) ∷ mine) theirs my introduction.pair (negotiated_capabilities (offer_of options) introduction.offer)
    (inr drawn) (subst (λ (p : Pair). HasEffect (draws p) theirs) ack.pair ack.maker) ack.announced shown in
    let echo : EchoedCookie (offer_of options) my held bytes = record { cookie = ack.cookie; reads = ack.reads; maker = ack.pair; addressee = my_pair; offer = ack.offer } in
    let one : OneEcho my.tag bytes (holds (identity_of my held) ∷ mine) = one_echo_more my.tag bytes (holds (identity_of my held)) mine tt (none_is_one my.tag bytes mine none) in
    let echoed : Kept (offer_of options) their_offer (holds (identity_of my held) ∷ mine) theirs (echo_change my held bytes choices.fits choices.filling) =
    echoes_kept (offer_of options) their_offer (holds (identity_of my held) ∷ mine) theirs my held bytes choices.fits choices.filling facts one echo in
    record { effects = (tt, echoed.effects); core = echoed.core }

pub init_ack_kept : (options : Options) (their_offer : Offer) (mine theirs : List Effect) (core : Core) (introduction : Introduction) (cookie : Option (List ℕ)) (choices : Choices) (header : ℕ)
    → TrueCore (offer_of options) their_offer mine theirs core → SameTag mine → TrueFront their_offer (offer_of options) theirs mine header (init_ack introduction cookie) → header ≡ own_tag core
    → Kept (offer_of options) their_offer mine theirs (init_ack_change options core introduction cookie choices)
init_ack_kept options their_offer mine theirs closed introduction cookie choices header h tags ack is = unchanged_kept (offer_of options) their_offer mine theirs closed h
init_ack_kept options their_offer mine theirs (cookie_wait my) introduction None choices header h tags ack is = absurd ack
init_ack_kept options their_offer mine theirs (cookie_wait my) introduction (Some bytes) choices header h tags ack is =
    init_ack_in_wait options their_offer mine theirs my introduction bytes choices header h.0 h.1 tags ack is
init_ack_kept options their_offer mine theirs (cookie_echoed my held bytes) introduction cookie choices header h tags ack is =
    unchanged_kept (offer_of options) their_offer mine theirs (cookie_echoed my held bytes) h
init_ack_kept options their_offer mine theirs (open_in phase my held) introduction cookie choices header h tags ack is =
    unchanged_kept (offer_of options) their_offer mine theirs (open_in phase my held) h

-- ---- T1

pub t1_again_kept : (options : Options) (their_offer : Offer) (mine theirs : List Effect) (core : Core) (choices : Choices)
    → TrueCore (offer_of options) their_offer mine theirs core → Kept (offer_of options) their_offer mine theirs (t1_again_change options core choices)
t1_again_kept options their_offer mine theirs closed choices h = unchanged_kept (offer_of options) their_offer mine theirs closed h
t1_again_kept options their_offer mine theirs (cookie_wait my) choices h =
    stays_kept (offer_of options) their_offer mine theirs (cookie_wait my) (sends_init options my choices.fits) next_chunk h
    (alone_true (offer_of options) their_offer mine theirs choices.fits 0 (init (introduction_of options my)) (h.0, refl)) (alone_free choices.fits 0 (init (introduction_of options my)) tt)
t1_again_kept options their_offer mine theirs (cookie_echoed my held bytes) choices h =
    echoes_kept (offer_of options) their_offer mine theirs my held bytes choices.fits choices.filling h.0 h.1 h.2
t1_again_kept options their_offer mine theirs (open_in phase my held) choices h = unchanged_kept (offer_of options) their_offer mine theirs (open_in phase my held) h

pub t1_gives_up_kept : (my_offer their_offer : Offer) (mine theirs : List Effect) (core : Core)
    → TrueCore my_offer their_offer mine theirs core → Kept my_offer their_offer mine theirs (t1_gives_up_change core)
t1_gives_up_kept my_offer their_offer mine theirs closed h = unchanged_kept my_offer their_offer mine theirs closed h
t1_gives_up_kept my_offer their_offer mine theirs (cookie_wait my) h = ended_kept my_offer their_offer mine theirs [] tt
t1_gives_up_kept my_offer their_offer mine theirs (cookie_echoed my held bytes) h = ended_kept my_offer their_offer mine theirs [] tt
t1_gives_up_kept my_offer their_offer mine theirs (open_in phase my held) h = unchanged_kept my_offer their_offer mine theirs (open_in phase my held) h

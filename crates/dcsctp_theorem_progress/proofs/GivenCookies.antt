-- The cookie that a closed socket gives away, and the two sockets once it is echoed, with data behind it.
use Rattle.std.specs.Duration.{as_nanos, max_nanos}
use Rattle.std.specs.Prelude.{min}
use Rattle.std.proofs.Common.{◌≡◌, ◌≤◌, ℕ, false, List, ◌∷◌, ◌++◌, refl, sym, subst, ap, ◌∙◌, arith}
use Rattle.dcsctp_spec_lemmas.specs.types.Offer.{offer_of, negotiated_capabilities}
use Rattle.dcsctp_spec_lemmas.specs.types.declared.association.Held.{Held}
use Rattle.dcsctp_spec_lemmas.specs.types.declared.association.Pair.{Pair}
use Rattle.dcsctp_spec_lemmas.specs.types.declared.capabilities.Capabilities.{Capabilities}
use Rattle.dcsctp_spec_lemmas.specs.types.declared.options.Options.{Options}
use Rattle.dcsctp_spec_lemmas.specs.types.declared.schedule.Side.{Side}
use Rattle.dcsctp_spec_lemmas.specs.spec.Cookie.{Cookie, cookie_bytes, is_stale}
use Rattle.dcsctp_spec_lemmas.specs.spec.CookieFits.{FitsCookie}
use Rattle.dcsctp_spec_lemmas.specs.spec.Packet.{Introduction, Emission}
use Rattle.dcsctp_spec_lemmas.specs.spec.association.HandshakeChanges.{introduction_of, new_held, held_by_init_ack}
use Rattle.dcsctp_spec_lemmas.specs.spec.endpoint.CookieEchoOutcomes.{is_tag_over, is_foreign}
use Rattle.dcsctp_spec_lemmas.specs.spec.endpoint.Endpoint.{Endpoint, closed, cookie_echoed, secret_with}
use Rattle.dcsctp_spec_lemmas.specs.spec.endpoint.HandshakeOutcomes.{pair_from, awaits_cookie_ack}
use Rattle.dcsctp_spec_lemmas.specs.spec.endpoint.HeartbeatOutcomes.{is_exhausted}
use Rattle.dcsctp_spec_lemmas.specs.spec.endpoint.MessageOutcomes.{awaits_opening}
use Rattle.dcsctp_spec_lemmas.specs.spec.endpoint.CallTurns.{Transition}
use Rattle.dcsctp_spec_runs.specs.Sockets.{Both}
use Rattle.dcsctp_theorem_progress.specs.Connecting.{RestsWithoutTag}
use Rattle.dcsctp_theorem_progress.specs.DataEchoes.{FlowsAsAgreed, EchoesWithData, TakesCookie}
use Rattle.dcsctp_theorem_progress.specs.Retries.{LeavesRestarts, RetriesInit, RetriesT1}
use Rattle.dcsctp_theorem_sockets.proofs.HandshakeReads.{counted_at}
use Rattle.dcsctp_theorem_sockets.proofs.HandshakeTurns.{HandshakeLaws, answer_to}
use Rattle.dcsctp_theorem_progress.proofs.Carrying.{EchoesAlong}
use Rattle.dcsctp_theorem_progress.proofs.Chain.{Ground, given_by, begun, same_end, no_shutdown}
use Rattle.dcsctp_theorem_progress.proofs.Constant.{KeepsTrying, errors_begin}
use Rattle.dcsctp_theorem_progress.proofs.EchoComes.{bytes_of, echoing_end, shown_is}
use Rattle.dcsctp_theorem_progress.proofs.Echoes.{own_bytes}
use Rattle.dcsctp_theorem_progress.proofs.Establishing.{echo_then}
use Rattle.dcsctp_theorem_progress.proofs.Facts.{fits_drawn, fits_cookie, secret_fits, own_after, unspent, is_young}
use Rattle.dcsctp_theorem_progress.proofs.Flows.{Flows}
use Rattle.dcsctp_theorem_progress.proofs.Answering.{EchoAloneOf, EchoAlone, agreed_of}
use Rattle.dcsctp_theorem_progress.proofs.LossyAcks.{t1_kept}
use Rattle.dcsctp_theorem_progress.proofs.Starts.{answered}
use Rattle.dcsctp_theorem_progress.proofs.Views.{View, view_then}

-- What is known of this side, which connects, and of the other, which is closed, once T1 has come.
pub record Start (side : Side) (options : Both Options) (v w : View) (p : Pair) (moment more : ℕ) : Type 0 where
  pub ground : Ground side options v w p moment
  pub rests : RestsWithoutTag w.endpoint
  pub again : RetriesInit (begun v p moment).endpoint p more
  pub restarts : LeavesRestarts v.endpoint.options.max_init_retransmits 0 more
  pub errors : is_exhausted v.endpoint.options.max_retransmissions v.endpoint.error_count ≡ false
  pub fits : moment ≤ max_nanos

-- the cookie that the other gave away
abbrev pub cookie_given : View → View → Pair → ℕ → ℕ → Cookie
cookie_given v w p word next =
    let q : Pair = pair_from word next in
    given_by v p q w.endpoint.moment (secret_with w.endpoint q)

pub cookie_fits : (side : Side) (options : Both Options) (v w : View) (p : Pair) (moment more word next : ℕ) → Start side options v w p moment more → FitsCookie (cookie_given v w p word next)
cookie_fits side options v w p moment more word next s =
    let q : Pair = pair_from word next in
    fits_cookie v.endpoint.options w.endpoint.moment p q (secret_with w.endpoint q) s.ground.fit.good_a s.ground.awaits.pair (fits_drawn word next)
    (secret_fits w.endpoint q (fits_drawn word next) s.rests.rests.secret)

cut : (n limit : ℕ) → min n limit ≤ limit
cut n limit = omega arith

-- T1 has begun again, since the cookie was echoed.
pub t1_begun : (side : Side) (options : Both Options) (v w : View) (p : Pair) (moment more : ℕ) (theirs : Introduction) (bytes : List ℕ) (word : ℕ) (now : Endpoint) → Start side options v w p moment more
    → KeepsTrying (awaits_cookie_ack (counted_at (begun v p moment).endpoint) p theirs bytes word) now → RetriesT1 now more
t1_begun side options v w p moment more theirs bytes word now s trying =
    t1_kept (awaits_cookie_ack (counted_at (begun v p moment).endpoint) p theirs bytes word) now more trying
    (record { timer = _; runs = refl; left = s.restarts; clock = s.fits; deadline = cut _ max_nanos })

-- It awaits the COOKIE ACK.
pub awaits_ack : HandshakeLaws → (side : Side) (options : Both Options) (v w : View) (p : Pair) (moment more word next : ℕ) (turns : List Transition) → Start side options v w p moment more →
    let cookie = cookie_given v w p word next in
    EchoesAlong (begun v p moment).endpoint p (answer_to v.endpoint.options w.endpoint.options p (pair_from word next)) (cookie_bytes cookie) turns
    → EchoesWithData (view_then (begun v p moment) turns).endpoint (answered v w p word next).endpoint cookie (cookie_bytes cookie)
awaits_ack law side options v w p moment more word next turns s h =
    let a : Options = v.endpoint.options in
    let b : Options = w.endpoint.options in
    let q : Pair = pair_from word next in
    let cookie : Cookie = cookie_given v w p word next in
    let bytes : List ℕ = cookie_bytes cookie in
    let start : Endpoint = (begun v p moment).endpoint in
    let now : Endpoint = (view_then (begun v p moment) turns).endpoint in
    let own = own_bytes law cookie (cookie_fits side options v w p moment more word next s) in
    let same : held_by_init_ack a p (answer_to a b p q) ≡ echoing_end a b cookie = same_end law a b p q w.endpoint.moment (secret_with w.endpoint q) in
    let core : now.core ≡ cookie_echoed p (echoing_end a b cookie) bytes = h.core ∙ ap (λ (held : Held). cookie_echoed p held bytes) same in
    let flows : Flows (echoing_end a b cookie) now = subst (λ (held : Held). Flows held now) same h.flows in
    let caps : negotiated_capabilities (offer_of a) (offer_of b) ≡ negotiated_capabilities (offer_of now.options) (offer_of b) = ap (λ (o : Options). negotiated_capabilities (offer_of o) (offer_of b)) (sym h.options) in
    record {
      core = core ∙ ap (λ (c : Capabilities). cookie_echoed p (new_held p q c) bytes) caps;
      reads = own.reads;
      fits = own.fits;
      offer = ap offer_of (sym h.options);
      data_flows = subst (FlowsAsAgreed now) caps (agreed_of now (echoing_end a b cookie) flows);
      asks = ap (awaits_opening now) h.core ∙ no_shutdown a now.options start.shutdown_asked now.shutdown_asked h.options h.asked s.ground.awaits.asks;
      errors = ap (λ (o : Options). is_exhausted o.max_retransmissions now.error_count) h.options
          ∙ h.trying.errors a.max_retransmissions (errors_begin a.follow_rfc a.max_retransmissions v.endpoint.error_count s.errors);
    }

-- The COOKIE ECHO is under way, and nothing else.
pub goes_alone : HandshakeLaws → (side : Side) (options : Both Options) (v w : View) (p : Pair) (moment more word next : ℕ) (turns : List Transition) → Start side options v w p moment more →
    let cookie = cookie_given v w p word next in
    EchoesAlong (begun v p moment).endpoint p (answer_to v.endpoint.options w.endpoint.options p (pair_from word next)) (cookie_bytes cookie) turns
    → EchoAlone (view_then (begun v p moment) turns) w.endpoint.options cookie (cookie_bytes cookie) (begun v p moment).shown
goes_alone law side options v w p moment more word next turns s h =
    let a : Options = v.endpoint.options in
    let b : Options = w.endpoint.options in
    let q : Pair = pair_from word next in
    let cookie : Cookie = cookie_given v w p word next in
    let bytes : List ℕ = cookie_bytes cookie in
    let start : View = begun v p moment in
    let now : View = view_then start turns in
    let alone : EchoAloneOf now a (held_by_init_ack a p (answer_to a b p q)) cookie bytes start.shown = record {
      more = h.more;
      carried = h.carried;
      shown = ap (λ (ps : List (List ℕ)). start.shown ++ ps)
          (shown_is a turns ∙ ap (bytes_of a) (h.packets ∙ ap (λ (rest : List Emission). echo_then cookie bytes h.more ∷ rest) h.alone));
    } in
    subst (λ (o : Options). EchoAloneOf now o (echoing_end o b cookie) cookie bytes start.shown) (sym h.options)
    (subst (λ (held : Held). EchoAloneOf now a held cookie bytes start.shown) (same_end law a b p q w.endpoint.moment (secret_with w.endpoint q)) alone)

pub takes_cookie : (side : Side) (options : Both Options) (v w : View) (p : Pair) (moment more word next : ℕ) → Start side options v w p moment more
    → TakesCookie (answered v w p word next).endpoint (cookie_given v w p word next)
takes_cookie side options v w p moment more word next s =
    let f : Endpoint = w.endpoint in
    let q : Pair = pair_from word next in
    let there : View = answered v w p word next in
    let cookie : Cookie = cookie_given v w p word next in
    record {
      core = s.rests.rests.core;
      unheld = s.rests.rests.unheld;
      unpaused = s.rests.rests.unpaused;
      taken = unspent (is_tag_over f closed q.tag) (is_foreign there.endpoint closed cookie.tie) (is_stale (as_nanos f.options.cookie_lifetime) f.moment cookie) (s.rests.anew q.tag)
          (own_after f q (fits_drawn word next).tag_is_not_zero) (is_young (as_nanos f.options.cookie_lifetime) f.moment (introduction_of v.endpoint.options p) q (secret_with f q));
    }

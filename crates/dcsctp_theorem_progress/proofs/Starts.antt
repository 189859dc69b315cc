-- The INIT of a quiet round: a closed socket answers it, or one that awaits an INIT ACK too.
use Rattle.std.specs.Duration.{as_nanos}
use Rattle.std.proofs.Common.{◌≡◌, ℕ, false, List, length, refl, ap, subst}
use Rattle.dcsctp_spec_lemmas.specs.types.declared.association.Pair.{Pair}
use Rattle.dcsctp_spec_lemmas.specs.types.declared.options.Options.{Options}
use Rattle.dcsctp_spec_lemmas.specs.types.declared.schedule.Side.{Side}
use Rattle.dcsctp_spec_lemmas.specs.spec.Cookie.{Cookie, cookie_bytes, is_stale}
use Rattle.dcsctp_spec_lemmas.specs.spec.endpoint.Endpoint.{Endpoint, closed, cookie_wait, secret_with}
use Rattle.dcsctp_spec_lemmas.specs.spec.endpoint.MessageOutcomes.{awaits_opening}
use Rattle.dcsctp_spec_lemmas.specs.spec.endpoint.CallTurns.{Transition}
use Rattle.dcsctp_spec_lemmas.specs.spec.endpoint.CookieEchoOutcomes.{is_tag_over, is_foreign}
use Rattle.dcsctp_spec_lemmas.specs.spec.endpoint.HandshakeOutcomes.{pair_from}
use Rattle.dcsctp_spec_lemmas.specs.spec.association.HandshakeChanges.{introduction_of}
use Rattle.dcsctp_spec_runs.specs.Sockets.{PerformedAct, Both, turns_after, SocketRun}
use Rattle.dcsctp_theorem_progress.specs.Rounds.{counts_shown, Exchanges}
use Rattle.dcsctp_theorem_progress.specs.LostInits.{Rests, AwaitsToo}
use Rattle.dcsctp_theorem_sockets.proofs.HandshakeReads.{counted_at}
use Rattle.dcsctp_theorem_sockets.proofs.HandshakeTurns.{HandshakeLaws}
use Rattle.dcsctp_theorem_progress.proofs.Turns.{Answers, answers, answers_own, init_packet}
use Rattle.dcsctp_theorem_progress.proofs.Echoes.{own_bytes, new_case}
use Rattle.dcsctp_theorem_progress.proofs.Establishing.{establishes_along}
use Rattle.dcsctp_theorem_progress.proofs.Facts.{fits_drawn, is_young, fits_cookie, secret_fits, own_after, own_before, unspent, owes_unheld, answered_turns}
use Rattle.dcsctp_theorem_progress.proofs.LostInitsOfBoth.{own_turns}
use Rattle.dcsctp_theorem_progress.proofs.Views.{View, view_then, AtOf, ran_exchanges}
use Rattle.dcsctp_theorem_progress.proofs.Handed.{Under, handed, Handed, Settles, settles, keep_same}
use Rattle.dcsctp_theorem_progress.proofs.Chain.{Ground, given_by, Replied, begun, answered_connects}
use Rattle.dcsctp_theorem_progress.proofs.Joined.{Joined}

-- the INIT, handed to the other
pub init_handed : (side : Side) (options : Both Options) (v w : View) (p : Pair) (moment : ℕ) (settled settled' : Both ℕ) (earlier run : List PerformedAct)
    → Ground side options v w p moment → AtOf side options earlier (begun v p moment) w → Settles settled side (length v.shown) (length w.shown)
    → (rest : Exchanges options 4 settled earlier settled' run) → SocketRun options run → Handed side options rest.0 (begun v p moment) w (init_packet v.endpoint.options p)
init_handed side options v w p moment settled settled' earlier run g at counts rest runs =
    let here : View = begun v p moment in
    let x : List ℕ = init_packet v.endpoint.options p in
    let under : Under settled side here w x = record { before = v.shown; shown = refl; mine = counts.mine; others = counts.others } in
    handed side options settled earlier rest.0 here w x at (keep_same side options v w here w refl refl g.keep) under rest.1 (ran_exchanges options 3 _ rest.0 settled' run rest.2 runs)

-- ---- a closed socket

abbrev pub answered : View → View → Pair → ℕ → ℕ → View
answered v w p word next = view_then w (answered_turns w.endpoint v.endpoint.options p word next)

pub replied_anew : HandshakeLaws → (side : Side) (options : Both Options) (v w : View) (p : Pair) (moment word next : ℕ) → Ground side options v w p moment → Rests w.endpoint
    → ((tag : ℕ) → is_tag_over w.endpoint closed tag ≡ false)
    → Replied v (answered v w p word next) p (pair_from word next) w.endpoint.moment (secret_with w.endpoint (pair_from word next)) w.shown
replied_anew law side options v w p moment word next g rests anew =
    let a : Options = v.endpoint.options in
    let f : Endpoint = w.endpoint in
    let q : Pair = pair_from word next in
    let there : View = answered v w p word next in
    let cookie : Cookie = given_by v p q f.moment (secret_with f q) in
    record {
      shown = refl;
      pair = fits_drawn word next;
      takes = λ more turns carried input.
          establishes_along law there.endpoint closed a cookie (cookie_bytes cookie) more turns rests.core (ap (awaits_opening there.endpoint) rests.core)
          (new_case (counted_at there.endpoint) cookie
          (unspent (is_tag_over f closed q.tag) (is_foreign there.endpoint closed cookie.tie) (is_stale (as_nanos f.options.cookie_lifetime) f.moment cookie) (anew q.tag)
          (own_after f q (fits_drawn word next).tag_is_not_zero) (is_young (as_nanos f.options.cookie_lifetime) f.moment (introduction_of a p) q (secret_with f q))))
          (λ has e o begin. begin)
          (own_bytes law cookie (fits_cookie a f.moment p q (secret_with f q) g.fit.good_a g.awaits.pair (fits_drawn word next) (secret_fits f q (fits_drawn word next) rests.secret)))
          rests.unpaused g.fit.good_a g.fit.good_b g.fit.to_b carried input;
    }

pub closed_connects : HandshakeLaws → (side : Side) (options : Both Options) (v w : View) (p : Pair) (moment : ℕ) (settled settled' : Both ℕ) (earlier run : List PerformedAct)
    → Ground side options v w p moment → Rests w.endpoint → ((tag : ℕ) → is_tag_over w.endpoint closed tag ≡ false)
    → AtOf side options earlier (begun v p moment) w → Settles settled side (length v.shown) (length w.shown)
    → Exchanges options 4 settled earlier settled' run → SocketRun options run → Joined side options run v w
closed_connects law side options v w p moment settled settled' earlier run g rests anew at counts rest runs =
    let a : Options = v.endpoint.options in
    let f : Endpoint = w.endpoint in
    let here : View = begun v p moment in
    let h : Handed side options rest.0 here w (init_packet a p) = init_handed side options v w p moment settled settled' earlier run g at counts rest runs in
    let one : Answers f (introduction_of a p) h.turns = answers law f a p h.turns rests.core (owes_unheld f rests.unheld) g.fit.good_a g.fit.good_b g.awaits.pair g.fit.to_b h.input in
    let q : Pair = pair_from one.word one.next in
    let there : View = answered v w p one.word one.next in
    let ground : Ground side options v there p moment = record { awaits = g.awaits; fit = g.fit; keep = keep_same side options v w v there refl refl g.keep } in
    let j : Joined side options run v there =
    answered_connects law side options v there p q moment f.moment (secret_with f q) w.shown (counts_shown options (turns_after earlier)) settled' rest.0 run ground
    (replied_anew law side options v w p moment one.word one.next g rests anew)
    (subst (λ (os : List Transition). AtOf side options rest.0 here (view_then w os)) one.only h.at) (settles side options earlier here w at) rest.2 runs in
    record { here = j.here; there = j.there; at = j.at; p = j.p; q = j.q; linked = j.linked; told_here = j.told_here; told_there = j.told_there }

-- ---- one that connects too

abbrev own : View → View → Pair → Pair → View
own v w p q = view_then w (own_turns w.endpoint v.endpoint.options p q)

replied_own : HandshakeLaws → (side : Side) (options : Both Options) (v w : View) (p q : Pair) (moment : ℕ) → Ground side options v w p moment → AwaitsToo w.endpoint q
    → Replied v (own v w p q) p q w.endpoint.moment w.endpoint.secret w.shown
replied_own law side options v w p q moment g too =
    let a : Options = v.endpoint.options in
    let f : Endpoint = w.endpoint in
    let there : View = own v w p q in
    let cookie : Cookie = given_by v p q f.moment f.secret in
    record {
      shown = refl;
      pair = too.pair;
      takes = λ more turns carried input.
          establishes_along law there.endpoint (cookie_wait q) a cookie (cookie_bytes cookie) more turns too.core (ap (awaits_opening there.endpoint) too.core)
          (new_case (counted_at there.endpoint) cookie
          (unspent (is_tag_over f closed q.tag) (is_foreign f closed f.secret) (is_stale (as_nanos f.options.cookie_lifetime) f.moment cookie) too.anew (own_before f too.has_secret)
          (is_young (as_nanos f.options.cookie_lifetime) f.moment (introduction_of a p) q f.secret)))
          (λ has e o begin. begin) (own_bytes law cookie (fits_cookie a f.moment p q f.secret g.fit.good_a g.awaits.pair too.pair too.secret))
          too.unpaused g.fit.good_a g.fit.good_b g.fit.to_b carried input;
    }

pub waiting_connects : HandshakeLaws → (side : Side) (options : Both Options) (v w : View) (p q : Pair) (moment : ℕ) (settled settled' : Both ℕ) (earlier run : List PerformedAct)
    → Ground side options v w p moment → AwaitsToo w.endpoint q
    → AtOf side options earlier (begun v p moment) w → Settles settled side (length v.shown) (length w.shown)
    → Exchanges options 4 settled earlier settled' run → SocketRun options run → Joined side options run v w
waiting_connects law side options v w p q moment settled settled' earlier run g too at counts rest runs =
    let a : Options = v.endpoint.options in
    let f : Endpoint = w.endpoint in
    let here : View = begun v p moment in
    let h : Handed side options rest.0 here w (init_packet a p) = init_handed side options v w p moment settled settled' earlier run g at counts rest runs in
    let one : h.turns ≡ own_turns f a p q = answers_own law f a p q h.turns too.core (owes_unheld f too.unheld) g.fit.good_a g.fit.good_b g.awaits.pair g.fit.to_b h.input in
    let there : View = own v w p q in
    let ground : Ground side options v there p moment = record { awaits = g.awaits; fit = g.fit; keep = keep_same side options v w v there refl refl g.keep } in
    let j : Joined side options run v there =
    answered_connects law side options v there p q moment f.moment f.secret w.shown (counts_shown options (turns_after earlier)) settled' rest.0 run ground
    (replied_own law side options v w p q moment g too)
    (subst (λ (os : List Transition). AtOf side options rest.0 here (view_then w os)) one h.at) (settles side options earlier here w at) rest.2 runs in
    record { here = j.here; there = j.there; at = j.at; p = j.p; q = j.q; linked = j.linked; told_here = j.told_here; told_there = j.told_there }

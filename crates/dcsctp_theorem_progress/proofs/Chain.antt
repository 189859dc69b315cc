-- The exchanges of a quiet round after one side's INIT was answered, and nothing else is under way.
use Rattle.std.specs.Prelude.{◌&&◌}
use Rattle.std.proofs.Common.{◌≡◌, ℕ, suc, Bool, false, List, [], ◌∷◌, ◌++◌, length, refl, sym, subst, ap, ◌∙◌}
use Rattle.dcsctp_spec_lemmas.specs.types.declared.association.Pair.{Pair}
use Rattle.dcsctp_spec_lemmas.specs.types.declared.association.Held.{Held}
use Rattle.dcsctp_spec_lemmas.specs.types.declared.options.Options.{Options}
use Rattle.dcsctp_spec_lemmas.specs.types.declared.schedule.Side.{Side}
use Rattle.dcsctp_spec_lemmas.specs.types.Offer.{offer_of}
use Rattle.dcsctp_spec_lemmas.specs.spec.Cookie.{Cookie, cookie_bytes}
use Rattle.dcsctp_spec_lemmas.specs.spec.CookieFits.{FitsPair}
use Rattle.dcsctp_spec_lemmas.specs.spec.endpoint.CallTurns.{Transition}
use Rattle.dcsctp_spec_lemmas.specs.spec.endpoint.HandshakeOutcomes.{cookie_for}
use Rattle.dcsctp_spec_lemmas.specs.spec.endpoint.MessageOutcomes.{awaits_opening}
use Rattle.dcsctp_spec_lemmas.specs.spec.association.HandshakeChanges.{introduction_of, new_held, held_by_init_ack}
use Rattle.dcsctp_spec_runs.specs.Sockets.{PerformedAct, Both, turns_after, SocketRun}
use Rattle.dcsctp_theorem_progress.specs.Rounds.{counts_shown, Exchanges}
use Rattle.dcsctp_theorem_progress.specs.LostInits.{AwaitsInitAck, AreLinked}
use Rattle.dcsctp_theorem_sockets.proofs.HandshakeTurns.{HandshakeLaws, answer_to}
use Rattle.dcsctp_theorem_progress.proofs.Turns.{init_repeated}
use Rattle.dcsctp_theorem_progress.proofs.Echoes.{answer_packet}
use Rattle.dcsctp_theorem_progress.proofs.Facts.{Fit}
use Rattle.dcsctp_theorem_progress.proofs.Views.{View, view_then, AtOf, KeepOf, ran_exchanges}
use Rattle.dcsctp_theorem_progress.proofs.Handed.{UnderBack, handed_back, HandedBack, Settles, settles, keep_same}
use Rattle.dcsctp_theorem_progress.proofs.Carrying.{EchoesAlong, echoes_along}
use Rattle.dcsctp_theorem_progress.proofs.EchoComes.{bytes_of, shown_is, echoing_end, EchoUnderOf, EchoUnder, TakesEcho, EchoFits}
use Rattle.dcsctp_theorem_progress.proofs.AckComes.{echo_connects}
use Rattle.dcsctp_theorem_progress.proofs.Joined.{JoinedBy, Joined}

-- This side awaits an INIT ACK, and T1 has come.
pub record Ground (side : Side) (options : Both Options) (v w : View) (p : Pair) (moment : ℕ) : Type 0 where
  pub awaits : AwaitsInitAck v.endpoint p moment
  pub fit : Fit v.endpoint.options w.endpoint.options
  pub keep : KeepOf side options v w

-- the cookie in an answer with this pair
abbrev pub given_by : View → Pair → Pair → ℕ → ℕ → Cookie
given_by v p q made tie = cookie_for made (introduction_of v.endpoint.options p) q tie

-- The other has answered with the pair q, and takes the cookie in its answer, whatever is behind it.
pub record Replied (v there : View) (p q : Pair) (made tie : ℕ) (before : List (List ℕ)) : Type 0 where
  pub shown : there.shown ≡ before ++ answer_packet v.endpoint.options there.endpoint.options p q (given_by v p q made tie) ∷ []
  pub pair : FitsPair q
  pub takes : TakesEcho suc there v.endpoint.options (given_by v p q made tie) (cookie_bytes (given_by v p q made tie))

-- ---- the sides in turn

abbrev pub begun : View → Pair → ℕ → View
begun v p moment = view_then v (init_repeated v.endpoint p moment)

-- ---- INIT ACK

-- It has the pairs of both, and what both offers have in common.
pub same_end : HandshakeLaws → (a b : Options) (p q : Pair) (made tie : ℕ) → held_by_init_ack a p (answer_to a b p q) ≡ echoing_end a b (cookie_for made (introduction_of a p) q tie)
same_end law a b p q made tie = ap (new_held p q) (law.answers (offer_of a) (offer_of b))

pub no_shutdown : (options now : Options) (before after : Bool) → now ≡ options → after ≡ before → (options.follow_rfc && before) ≡ false → (now.follow_rfc && after) ≡ false
no_shutdown options now before after same asked none =
    ap (λ (o : Options). o.follow_rfc && after) same ∙ ap (λ (b : Bool). options.follow_rfc && b) asked ∙ none

-- Once the cookie was echoed.
pub echo_under : HandshakeLaws → (here : View) (b : Options) (p q : Pair) (made tie : ℕ) (turns : List Transition) → (here.endpoint.options.follow_rfc && here.endpoint.shutdown_asked) ≡ false →
    let cookie = cookie_for made (introduction_of here.endpoint.options p) q tie in
    EchoesAlong here.endpoint p (answer_to here.endpoint.options b p q) (cookie_bytes cookie) turns → EchoUnder (view_then here turns) b cookie (cookie_bytes cookie) here.shown
echo_under law here b p q made tie turns none h =
    let a : Options = here.endpoint.options in
    let cookie : Cookie = cookie_for made (introduction_of a p) q tie in
    let bytes : List ℕ = cookie_bytes cookie in
    let after : View = view_then here turns in
    let under : EchoUnderOf after a (held_by_init_ack a p (answer_to a b p q)) cookie bytes here.shown = record {
      core = h.core;
      asks = ap (awaits_opening after.endpoint) h.core ∙ no_shutdown a after.endpoint.options here.endpoint.shutdown_asked after.endpoint.shutdown_asked h.options h.asked none;
      flows = h.flows;
      more = h.more;
      carried = h.carried;
      rest = h.rest;
      others = h.others;
      shown = ap (λ (ps : List (List ℕ)). here.shown ++ ps) (shown_is a turns ∙ ap (bytes_of a) h.packets);
    } in
    subst (λ (o : Options). EchoUnderOf after o (echoing_end o b cookie) cookie bytes here.shown) (sym h.options)
    (subst (λ (held : Held). EchoUnderOf after a held cookie bytes here.shown) (same_end law a b p q made tie) under)

pub answered_connects : HandshakeLaws → (side : Side) (options : Both Options) (v there : View) (p q : Pair) (moment made tie : ℕ) (before : List (List ℕ)) (settled settled' : Both ℕ) (earlier run : List PerformedAct)
    → Ground side options v there p moment → Replied v there p q made tie before → AtOf side options earlier (begun v p moment) there
    → Settles settled side (length (begun v p moment).shown) (length before)
    → Exchanges options 3 settled earlier settled' run → SocketRun options run → Joined side options run v there
answered_connects law side options v there p q moment made tie before settled settled' earlier run g r at counts rest runs =
    let a : Options = v.endpoint.options in
    let b : Options = there.endpoint.options in
    let cookie : Cookie = given_by v p q made tie in
    let bytes : List ℕ = cookie_bytes cookie in
    let here : View = begun v p moment in
    let x : List ℕ = answer_packet a b p q cookie in
    let under : UnderBack settled side here there x = record { before = before; shown = r.shown; others = counts.others; mine = counts.mine } in
    let runs' : SocketRun options rest.0 = ran_exchanges options 2 _ rest.0 settled' run rest.2 runs in
    let h : HandedBack side options rest.0 here there x =
    handed_back side options settled earlier rest.0 here there x at (keep_same side options v there here there refl refl g.keep) under rest.1 runs' in
    let one : EchoesAlong here.endpoint p (answer_to a b p q) bytes h.turns =
    echoes_along law here.endpoint b p q cookie h.turns g.awaits.core g.fit.good_a g.fit.good_b g.awaits.pair r.pair g.fit.to_a h.input in
    let after : View = view_then here h.turns in
    let j : JoinedBy side options run after there (suc after.told) (suc there.told) =
    echo_connects law.wire side options after there cookie bytes here.shown (counts_shown options (turns_after earlier)) settled' rest.0 run (echo_under law here b p q made tie h.turns g.awaits.asks one)
    (subst (λ (o : Options). EchoFits o there cookie) (sym one.options) (record { offered = refl; fits = g.fit.good_a.fits; maker = r.pair; port = g.fit.to_b }))
    (record { offered = ap offer_of (sym one.options); fits = g.fit.good_b.fits; addressee = g.awaits.pair; port = g.fit.to_a ∙ ap (λ (o : Options). o.local_port) (sym one.options) })
    (subst (λ (o : Options). TakesEcho suc there o cookie bytes) (sym one.options) r.takes)
    (keep_same side options v there after there one.options refl g.keep) h.at (settles side options earlier here there at) rest.2 runs in
    record {
      here = j.here;
      there = j.there;
      at = j.at;
      p = j.p;
      q = j.q;
      linked = subst (λ (o : Options). AreLinked j.here.endpoint j.there.endpoint o b j.p j.q) one.options j.linked;
      told_here = j.told_here ∙ ap suc (one.told v.told);
      told_there = j.told_there;
    }

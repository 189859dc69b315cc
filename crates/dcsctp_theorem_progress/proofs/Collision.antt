-- Both connect, and T1 of both has come.
use Rattle.std.proofs.Common.{◌≡◌, ◌<◌, ◌^◌, ℕ, suc, None, List, length, refl, sym, subst, ap, ◌∙◌}
use Rattle.dcsctp_spec_lemmas.specs.types.declared.association.Pair.{Pair}
use Rattle.dcsctp_spec_lemmas.specs.types.declared.options.Options.{Options}
use Rattle.dcsctp_spec_lemmas.specs.types.declared.schedule.Side.TheVariants as sides
use Rattle.dcsctp_spec_lemmas.specs.types.Offer.{offer_of}
use Rattle.dcsctp_spec_lemmas.specs.spec.Cookie.{Cookie, cookie_bytes}
use Rattle.dcsctp_spec_lemmas.specs.spec.CookieFits.{FitsPair, FitsCookie}
use Rattle.dcsctp_spec_lemmas.specs.spec.endpoint.CallTurns.{Transition}
use Rattle.dcsctp_spec_runs.specs.Sockets.{PerformedAct, Both, turns_after, SocketRun}
use Rattle.dcsctp_theorem_progress.specs.Rounds.{counts_shown, Exchanges}
use Rattle.dcsctp_theorem_progress.specs.LostInits.{AwaitsInitAck, AreLinked}
use Rattle.dcsctp_theorem_sockets.proofs.HandshakeTurns.{HandshakeLaws, answer_to}
use Rattle.dcsctp_theorem_progress.proofs.Turns.{answers_own, init_packet}
use Rattle.dcsctp_theorem_progress.proofs.Echoes.{answer_packet, own_bytes}
use Rattle.dcsctp_theorem_progress.proofs.Facts.{Fit, fits_cookie, owes_unheld}
use Rattle.dcsctp_theorem_progress.proofs.LostInitsOfBoth.{own_turns, cookie_own}
use Rattle.dcsctp_theorem_progress.proofs.Views.{View, view_then, At, Keep, ran_exchanges}
use Rattle.dcsctp_theorem_progress.proofs.Handed.{Settles, settles}
use Rattle.dcsctp_theorem_progress.proofs.HandedBoth.{BothUnder, HandedBoth, both_handed}
use Rattle.dcsctp_theorem_progress.proofs.Carrying.{EchoesAlong, echoes_along}
use Rattle.dcsctp_theorem_progress.proofs.EchoComes.{EchoUnder}
use Rattle.dcsctp_theorem_progress.proofs.Meeting.{Meets, BothMeet, both_met}
use Rattle.dcsctp_theorem_progress.proofs.Chain.{begun, echo_under}
use Rattle.dcsctp_theorem_progress.proofs.Joined.{Joined}

-- Both await an INIT ACK, and T1 of both has come. Nothing is in flight.
pub record BothAwait (options : Both Options) (v w : View) (p q : Pair) (moment : ℕ) : Type 0 where
  pub unheld_here : v.endpoint.queues.transfer ≡ None
  pub unheld_there : w.endpoint.queues.transfer ≡ None
  pub here : AwaitsInitAck v.endpoint p moment
  pub there : AwaitsInitAck w.endpoint q moment
  pub secret_here : v.endpoint.secret < 2 ^ 64
  pub secret_there : w.endpoint.secret < 2 ^ 64
  pub fit : Fit v.endpoint.options w.endpoint.options
  pub keep : Keep options v w

-- ---- a side in turn, with the other's options and pair

-- the cookie for the other
abbrev cookie_for_other : View → Options → Pair → Pair → ℕ → Cookie
cookie_for_other v b p q moment = cookie_own (begun v p moment).endpoint b q p

abbrev replied : View → Options → Pair → Pair → ℕ → View
replied v b p q moment = view_then (begun v p moment) (own_turns (begun v p moment).endpoint b q p)

-- ---- INIT ACK

-- What this side is once it has echoed the cookie c, where the other echoes d.
meets : HandshakeLaws → (v w now : View) (b : Options) (p q : Pair) (c d : Cookie) (before : List (List ℕ)) → EchoUnder v b c (cookie_bytes c) before → w.endpoint.options ≡ b → v.endpoint.options ≡ now.endpoint.options
    → c.offer ≡ offer_of now.endpoint.options → c.maker ≡ d.addressee → c.addressee ≡ d.maker → FitsPair c.maker → FitsCookie c → Meets v w c d (cookie_bytes c) (cookie_bytes d) before
meets law v w now b p q c d before under other same offered maker addressee own fits =
    record {
      under = subst (λ (o : Options). EchoUnder v o c (cookie_bytes c) before) (sym other) under;
      spells = own_bytes law c fits;
      offered = offered ∙ ap offer_of (sym same);
      maker = maker;
      addressee = addressee;
      own = own;
    }

second : HandshakeLaws → (options : Both Options) (v w : View) (p q : Pair) (moment : ℕ) (settled settled' : Both ℕ) (earlier run : List PerformedAct) → BothAwait options v w p q moment →
    let a = v.endpoint.options in
    let b = w.endpoint.options in
    At options earlier (replied v b p q moment) (replied w a q p moment)
    → Settles settled sides.A (length (begun v p moment).shown) (length (begun w q moment).shown)
    → Exchanges options 3 settled earlier settled' run → SocketRun options run → Joined sides.A options run v w
second law options v w p q moment settled settled' earlier run g at counts rest runs =
    let a : Options = v.endpoint.options in
    let b : Options = w.endpoint.options in
    let of_v : Cookie = cookie_for_other v b p q moment in
    let of_w : Cookie = cookie_for_other w a q p moment in
    let here : View = replied v b p q moment in
    let there : View = replied w a q p moment in
    let x : List ℕ = answer_packet b a q p of_v in
    let y : List ℕ = answer_packet a b p q of_w in
    let under : BothUnder settled here there x y = record {
      before_a = (begun v p moment).shown;
      before_b = (begun w q moment).shown;
      shown_a = refl;
      shown_b = refl;
      settled_a = counts.mine;
      settled_b = counts.others;
    } in
    let h : HandedBoth options rest.0 here there x y =
    both_handed options settled earlier rest.0 here there x y at (record { a = g.keep.a; b = g.keep.b }) under rest.1 (ran_exchanges options 2 _ rest.0 settled' run rest.2 runs) in
    let one : EchoesAlong there.endpoint q (answer_to b a q p) (cookie_bytes of_v) h.there =
    echoes_along law there.endpoint a q p of_v h.there g.there.core g.fit.good_b g.fit.good_a g.there.pair g.here.pair g.fit.to_b h.input_there in
    let other : EchoesAlong here.endpoint p (answer_to a b p q) (cookie_bytes of_w) h.here =
    echoes_along law here.endpoint b p q of_w h.here g.here.core g.fit.good_a g.fit.good_b g.here.pair g.there.pair g.fit.to_a h.input_here in
    let v2 : View = view_then here h.here in
    let w2 : View = view_then there h.there in
    let meet : BothMeet options v2 w2 of_w of_v (cookie_bytes of_w) (cookie_bytes of_v) here.shown there.shown = record {
      here = meets law v2 w2 here b p q of_w of_v here.shown (echo_under law here b p q moment w.endpoint.secret h.here g.here.asks other) one.options other.options refl refl refl g.there.pair
          (fits_cookie a moment p q w.endpoint.secret g.fit.good_a g.here.pair g.there.pair g.secret_there);
      there = meets law w2 v2 there a q p of_v of_w there.shown (echo_under law there a q p moment v.endpoint.secret h.there g.there.asks one) other.options one.options refl refl refl g.here.pair
          (fits_cookie b moment q p v.endpoint.secret g.fit.good_b g.there.pair g.here.pair g.secret_here);
      fit = subst (λ (o : Options). Fit o w2.endpoint.options) (sym other.options) (subst (λ (o : Options). Fit a o) (sym one.options) g.fit);
      keep = record { a = other.options ∙ g.keep.a; b = one.options ∙ g.keep.b };
    } in
    let j : Joined sides.A options run v2 w2 =
    both_met law.wire options v2 w2 of_w of_v (cookie_bytes of_w) (cookie_bytes of_v) here.shown there.shown (counts_shown options (turns_after earlier)) settled' rest.0 run meet h.at
    (settles sides.A options earlier here there at) rest.2 runs in
    record {
      here = j.here;
      there = j.there;
      at = j.at;
      p = j.p;
      q = j.q;
      linked = subst (λ (o : Options). AreLinked j.here.endpoint j.there.endpoint o b j.p j.q) other.options
          (subst (λ (o : Options). AreLinked j.here.endpoint j.there.endpoint v2.endpoint.options o j.p j.q) one.options j.linked);
      told_here = j.told_here ∙ ap suc (other.told v.told);
      told_there = j.told_there ∙ ap suc (one.told w.told);
    }

-- ---- INIT

pub both_connect : HandshakeLaws → (options : Both Options) (v w : View) (p q : Pair) (moment : ℕ) (settled settled' : Both ℕ) (earlier run : List PerformedAct) → BothAwait options v w p q moment
    → At options earlier (begun v p moment) (begun w q moment) → Settles settled sides.A (length v.shown) (length w.shown)
    → Exchanges options 4 settled earlier settled' run → SocketRun options run → Joined sides.A options run v w
both_connect law options v w p q moment settled settled' earlier run g at counts rest runs =
    let a : Options = v.endpoint.options in
    let b : Options = w.endpoint.options in
    let here : View = begun v p moment in
    let there : View = begun w q moment in
    let x : List ℕ = init_packet a p in
    let y : List ℕ = init_packet b q in
    let under : BothUnder settled here there x y = record { before_a = v.shown; before_b = w.shown; shown_a = refl; shown_b = refl; settled_a = counts.mine; settled_b = counts.others } in
    let h : HandedBoth options rest.0 here there x y =
    both_handed options settled earlier rest.0 here there x y at (record { a = g.keep.a; b = g.keep.b }) under rest.1 (ran_exchanges options 3 _ rest.0 settled' run rest.2 runs) in
    let one : h.there ≡ own_turns there.endpoint a p q =
    answers_own law there.endpoint a p q h.there g.there.core (owes_unheld there.endpoint g.unheld_there) g.fit.good_a g.fit.good_b g.here.pair g.fit.to_b h.input_there in
    let other : h.here ≡ own_turns here.endpoint b q p =
    answers_own law here.endpoint b q p h.here g.here.core (owes_unheld here.endpoint g.unheld_here) g.fit.good_b g.fit.good_a g.there.pair g.fit.to_a h.input_here in
    let at' : At options rest.0 (replied v b p q moment) (replied w a q p moment) =
    subst (λ (os : List Transition). At options rest.0 (view_then here os) (replied w a q p moment)) other
    (subst (λ (os : List Transition). At options rest.0 (view_then here h.here) (view_then there os)) one h.at) in
    second law options v w p q moment (counts_shown options (turns_after earlier)) settled' rest.0 run g at' (settles sides.A options earlier here there at) rest.2 runs

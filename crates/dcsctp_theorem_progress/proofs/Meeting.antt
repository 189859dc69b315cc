-- COOKIE ECHOs of both sides are under way, with data behind them and packets of data after them: two exchanges connect both.
use Rattle.std.proofs.Common.{◌≡◌, ◌≢◌, ◌⊎◌, ℕ, suc, true, List, length, refl, sym, subst, ap, ◌∙◌}
use Rattle.std.specs.Prelude.{◌==◌}
use Rattle.dcsctp_spec_lemmas.specs.types.declared.association.Held.{Held}
use Rattle.dcsctp_spec_lemmas.specs.types.declared.association.Pair.{Pair}
use Rattle.dcsctp_spec_lemmas.specs.types.declared.options.Options.{Options}
use Rattle.dcsctp_spec_lemmas.specs.types.declared.schedule.Side.TheVariants as sides
use Rattle.dcsctp_spec_lemmas.specs.types.Offer.{Offer, offer_of, negotiated_capabilities}
use Rattle.dcsctp_spec_lemmas.specs.spec.Cookie.{Cookie}
use Rattle.dcsctp_spec_lemmas.specs.spec.CookieFits.{FitsPair}
use Rattle.dcsctp_spec_lemmas.specs.spec.association.HandshakeChanges.{new_held}
use Rattle.dcsctp_spec_lemmas.specs.spec.association.CookieEchoChanges.{held_by_cookie}
use Rattle.dcsctp_spec_lemmas.specs.spec.endpoint.Endpoint.{cookie_echoed, open_in, established}
use Rattle.dcsctp_spec_runs.specs.Sockets.{PerformedAct, Both, turns_after, SocketRun}
use Rattle.dcsctp_theorem_progress.specs.Rounds.{counts_shown, Exchanges}
use Rattle.dcsctp_theorem_sockets.proofs.HandshakeReads.{Wire}
use Rattle.dcsctp_theorem_progress.proofs.Views.{View, At, Keep, ran_exchanges}
use Rattle.dcsctp_theorem_progress.proofs.Echoes.{Spells}
use Rattle.dcsctp_theorem_progress.proofs.Facts.{Fit}
use Rattle.dcsctp_theorem_progress.proofs.Flows.{Flows}
use Rattle.dcsctp_theorem_progress.proofs.Handed.{Settles, settles}
use Rattle.dcsctp_theorem_progress.proofs.HandedBothAll.{BothHandedAll, both_handed_all}
use Rattle.dcsctp_theorem_progress.proofs.EchoComes.{echoing_end, same_interleaving, same_reliability, EchoUnder, AckUnder, TakesEcho, EchoComes, to_come, EchoFits, echo_along, echo_has_come}
use Rattle.dcsctp_theorem_progress.proofs.AckComes.{ack_checked}
use Rattle.dcsctp_theorem_progress.proofs.AckIgnored.{StaysOpen, AckIgnored, unheard, IgnoresFits, ignored_along, ignored_in_the_end}
use Rattle.dcsctp_theorem_progress.proofs.Colliding.{opens_along}
use Rattle.dcsctp_theorem_progress.proofs.Joined.{Joined}

-- This side echoes the cookie c, and the other the cookie d. Each names what its bearer offers, and both the same pairs.
pub record Meets (v w : View) (c d : Cookie) (bytes echoed : List ℕ) (before : List (List ℕ)) : Type 0 where
  pub under : EchoUnder v w.endpoint.options c bytes before
  pub spells : Spells bytes c
  pub offered : c.offer ≡ offer_of v.endpoint.options
  pub maker : c.maker ≡ d.addressee
  pub addressee : c.addressee ≡ d.maker
  pub own : FitsPair c.maker

pub record BothMeet (options : Both Options) (v w : View) (c d : Cookie) (bytes echoed : List ℕ) (before_v before_w : List (List ℕ)) : Type 0 where
  pub here : Meets v w c d bytes echoed before_v
  pub there : Meets w v d c echoed bytes before_w
  pub fit : Fit v.endpoint.options w.endpoint.options
  pub keep : Keep options v w

-- What the other has is what the cookie makes.
own_end : (a b : Options) (c d : Cookie) → c.maker ≡ d.addressee → c.addressee ≡ d.maker → c.offer ≡ offer_of a → echoing_end b a d ≡ held_by_cookie b c
own_end a b c d maker addressee offered =
    ap (λ (p : Pair). new_held p d.maker (negotiated_capabilities (offer_of b) (offer_of a))) (sym maker)
    ∙ ap (λ (p : Pair). new_held c.maker p (negotiated_capabilities (offer_of b) (offer_of a))) (sym addressee)
    ∙ ap (λ (o : Offer). new_held c.maker c.addressee (negotiated_capabilities (offer_of b) o)) (sym offered)

-- The other takes the COOKIE ECHO.
takes : Wire → (v w : View) (c d : Cookie) (bytes echoed : List ℕ) (before_v before_w : List (List ℕ)) → Meets v w c d bytes echoed before_v → Meets w v d c echoed bytes before_w → Fit v.endpoint.options w.endpoint.options
    → TakesEcho suc w v.endpoint.options c bytes
takes wire v w c d bytes echoed before_v before_w here there fit =
    let a : Options = v.endpoint.options in
    let b : Options = w.endpoint.options in
    let same : echoing_end b a d ≡ held_by_cookie b c = own_end a b c d here.maker here.addressee here.offered in
    λ more turns each input.
    opens_along wire w.endpoint a c bytes echoed more turns
    (there.under.core ∙ ap (λ (p : Pair). cookie_echoed p (echoing_end b a d) echoed) (sym here.maker) ∙ ap (λ (held : Held). cookie_echoed c.maker held echoed) same)
    there.under.asks (subst (λ (held : Held). Flows held w.endpoint) same there.under.flows) here.spells fit.good_a fit.good_b fit.to_b each input

swap : (a b : Options) → Fit a b → Fit b a
swap a b h = record { good_a = h.good_b; good_b = h.good_a; to_b = h.to_a; to_a = h.to_b }

-- Established by the cookie c, it ignores the COOKIE ACK that the other sends under the cookie d.
ignores : (v w here there : View) (c d : Cookie) (bytes echoed : List ℕ) (before_v before_w : List (List ℕ)) → Meets v w c d bytes echoed before_v → Meets w v d c echoed bytes before_w → Fit v.endpoint.options w.endpoint.options
    → AckUnder w c there → IgnoresFits v.endpoint.options there c.maker (held_by_cookie w.endpoint.options c) (held_by_cookie v.endpoint.options d)
ignores v w here there c d bytes echoed before_v before_w mine theirs fit h =
    let a : Options = v.endpoint.options in
    let b : Options = w.endpoint.options in
    record {
      core = h.core;
      flows = h.flows;
      fits = fit.good_a.fits;
      own = mine.own;
      peer = theirs.addressee;
      port = fit.to_b ∙ ap (λ (o : Options). o.local_port) (sym h.options);
      interleaves = ap (λ (o : Offer). (negotiated_capabilities (offer_of a) o).message_interleaving) theirs.offered ∙ same_interleaving a b c mine.offered;
      abandons = ap (λ (o : Offer). (negotiated_capabilities (offer_of a) o).partial_reliability) theirs.offered ∙ same_reliability a b c mine.offered;
      checked = subst (λ (o : Options). (((held_by_cookie a d).capabilities.zero_checksum_method.0 == 0) ≡ true) ⊎ (o.zero_checksum_alternate_error_detection_method.0 ≢ 0)) (sym h.options) (ack_checked b a d theirs.offered);
    }

acknowledged : Wire → (options : Both Options) (v w here there : View) (c d : Cookie) (bytes echoed : List ℕ) (before_v before_w : List (List ℕ)) (settled settled' : Both ℕ) (earlier run : List PerformedAct)
    → BothMeet options v w c d bytes echoed before_v before_w → AckUnder w c there → AckUnder v d here → At options earlier here there → Settles settled sides.A (length v.shown) (length w.shown)
    → Exchanges options 1 settled earlier settled' run → SocketRun options run → Joined sides.A options run v w
acknowledged wire options v w here there c d bytes echoed before_v before_w settled settled' earlier run m h i at counts rest runs =
    let a : Options = v.endpoint.options in
    let b : Options = w.endpoint.options in
    let of_w : Held = held_by_cookie b c in
    let of_v : Held = held_by_cookie a d in
    let HoldsB : List (List ℕ) → View → Type 0 = AckIgnored a there of_w of_v i.more i.rest in
    let HoldsA : List (List ℕ) → View → Type 0 = AckIgnored b here of_v of_w h.more h.rest in
    let all : BothHandedAll options rest.0 HoldsB HoldsA =
    both_handed_all options settled HoldsB HoldsA earlier rest.0 here there _ _
    (ignored_along wire a options.b there c.maker of_w of_v i.more i.rest (h.options ∙ m.keep.b) (ignores v w here there c d bytes echoed before_v before_w m.here m.there m.fit h) i.carried i.others)
    (ignored_along wire b options.a here d.maker of_v of_w h.more h.rest (i.options ∙ m.keep.a) (ignores w v there here d c echoed bytes before_w before_v m.there m.here (swap a b m.fit) i) h.carried h.others)
    at (record { before_a = v.shown; before_b = w.shown; shown_a = i.shown; shown_b = h.shown; settled_a = counts.mine; settled_b = counts.others }) (unheard refl refl) (unheard refl refl) rest.1 (subst (SocketRun options) rest.2.1 runs) in
    let last_there : StaysOpen of_w there all.there = ignored_in_the_end a there of_w of_v i.more i.rest all.there all.holds_there in
    let last_here : StaysOpen of_v here all.here = ignored_in_the_end b here of_v of_w h.more h.rest all.here all.holds_here in
    subst (λ (r : List PerformedAct). Joined sides.A options r v w) (sym rest.2.1)
    (record {
      here = all.here;
      there = all.there;
      at = all.at;
      p = d.maker;
      q = c.maker;
      linked = record {
        here = last_here.core ∙ i.core ∙ ap (λ (p : Pair). open_in established d.maker (new_held d.maker p (negotiated_capabilities (offer_of a) d.offer))) (sym m.here.maker)
            ∙ ap (λ (o : Offer). open_in established d.maker (new_held d.maker c.maker (negotiated_capabilities (offer_of a) o))) m.there.offered;
        there = last_there.core ∙ h.core ∙ ap (λ (p : Pair). open_in established c.maker (new_held c.maker p (negotiated_capabilities (offer_of b) c.offer))) m.here.addressee
            ∙ ap (λ (o : Offer). open_in established c.maker (new_held c.maker d.maker (negotiated_capabilities (offer_of b) o))) m.here.offered;
      };
      told_here = last_here.told ∙ i.told;
      told_there = last_there.told ∙ h.told;
    })

echo_fits : (v w : View) (c d : Cookie) (bytes echoed : List ℕ) (before : List (List ℕ)) → Meets v w c d bytes echoed before → Fit v.endpoint.options w.endpoint.options → EchoFits v.endpoint.options w c
echo_fits v w c d bytes echoed before m fit = record { offered = m.offered; fits = fit.good_a.fits; maker = m.own; port = fit.to_b }

pub both_met : Wire → (options : Both Options) (v w : View) (c d : Cookie) (bytes echoed : List ℕ) (before_v before_w : List (List ℕ)) (settled settled' : Both ℕ) (earlier run : List PerformedAct)
    → BothMeet options v w c d bytes echoed before_v before_w → At options earlier v w → Settles settled sides.A (length before_v) (length before_w)
    → Exchanges options 2 settled earlier settled' run → SocketRun options run → Joined sides.A options run v w
both_met wire options v w c d bytes echoed before_v before_w settled settled' earlier run m at counts rest runs =
    let a : Options = v.endpoint.options in
    let b : Options = w.endpoint.options in
    let HoldsB : List (List ℕ) → View → Type 0 = EchoComes suc a w c bytes m.here.under.more m.here.under.rest in
    let HoldsA : List (List ℕ) → View → Type 0 = EchoComes suc b v d echoed m.there.under.more m.there.under.rest in
    let all : BothHandedAll options rest.0 HoldsB HoldsA =
    both_handed_all options settled HoldsB HoldsA earlier rest.0 v w _ _
    (echo_along wire suc a options.b w c bytes m.here.under.more m.here.under.rest m.keep.b (echo_fits v w c d bytes echoed before_v m.here m.fit)
    (takes wire v w c d bytes echoed before_v before_w m.here m.there m.fit) m.here.under.carried m.here.under.others)
    (echo_along wire suc b options.a v d echoed m.there.under.more m.there.under.rest m.keep.a (echo_fits w v d c echoed bytes before_w m.there (swap a b m.fit))
    (takes wire w v d c echoed bytes before_w before_v m.there m.here (swap a b m.fit)) m.there.under.carried m.there.under.others)
    at (record { before_a = before_v; before_b = before_w; shown_a = m.here.under.shown; shown_b = m.there.under.shown; settled_a = counts.mine; settled_b = counts.others }) (to_come refl refl) (to_come refl refl) rest.1
    (ran_exchanges options 1 _ rest.0 settled' run rest.2 runs) in
    acknowledged wire options v w all.here all.there c d bytes echoed before_v before_w (counts_shown options (turns_after earlier)) settled' rest.0 run m
    (echo_has_come suc a w c bytes m.here.under.more m.here.under.rest all.there all.holds_there) (echo_has_come suc b v d echoed m.there.under.more m.there.under.rest all.here all.holds_here)
    all.at (settles sides.A options earlier v w at) rest.2 runs

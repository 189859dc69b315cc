-- Four exchanges from a COOKIE ECHO on, with data behind it: both sockets are established, and the data that follows is taken.
use Rattle.std.specs.Prelude.{◌==◌}
use Rattle.std.proofs.Common.{◌≡◌, ◌≢◌, ◌⊎◌, ℕ, suc, true, List, [], ◌++◌, length, refl, sym, subst, ap, ◌∙◌}
use Rattle.std.proofs.lemmas.List.{append-nil}
use Rattle.dcsctp_spec_lemmas.specs.types.declared.options.Options.{Options}
use Rattle.dcsctp_spec_lemmas.specs.types.declared.schedule.Side.{Side}
use Rattle.dcsctp_spec_lemmas.specs.types.declared.schedule.Side.TheVariants as sides
use Rattle.dcsctp_spec_lemmas.specs.types.Offer.{Offer, offer_of, negotiated_capabilities}
use Rattle.dcsctp_spec_lemmas.specs.spec.Cookie.{Cookie}
use Rattle.dcsctp_spec_lemmas.specs.spec.association.HandshakeChanges.{new_held}
use Rattle.dcsctp_spec_lemmas.specs.spec.association.CookieEchoChanges.{held_by_cookie}
use Rattle.dcsctp_spec_lemmas.specs.spec.endpoint.Endpoint.{open_in, established}
use Rattle.dcsctp_spec_runs.specs.Sockets.{PerformedAct, Both, of_side, of_other, turns_after, SocketRun}
use Rattle.dcsctp_theorem_progress.specs.Rounds.{Exchanges, counts_shown}
use Rattle.dcsctp_theorem_sockets.proofs.HandshakeTurns.{HandshakeLaws, method_checked}
use Rattle.dcsctp_theorem_progress.proofs.AckComes.{IsOpened, AckComes, still, AckFits, ack_along, ack_has_come, ack_checked, mine_of, others_of}
use Rattle.dcsctp_theorem_progress.proofs.BothOpen.{OpenTo, BothOpen, StayBothOpen, both_stay_open}
use Rattle.dcsctp_theorem_progress.proofs.EchoComes.{bytes_of, echoing_end, same_interleaving, same_reliability, EchoUnder, AckUnderBy, TakesEcho, EchoComes, to_come, EchoFits, echo_along, echo_has_come}
use Rattle.dcsctp_theorem_progress.proofs.Facts.{Fit}
use Rattle.dcsctp_theorem_progress.proofs.Handed.{Settles, settles}
use Rattle.dcsctp_theorem_progress.proofs.HandedAll.{AllHanded, all_handed, AllHandedBack, all_back}
use Rattle.dcsctp_theorem_progress.proofs.Joined.{JoinedBy}
use Rattle.dcsctp_theorem_progress.proofs.Views.{AtOf, KeepOf, View, ran, ran_exchanges}

-- This side takes what the other sends, once both are established; and the other what this side does.
open_mine : (tells : ℕ → ℕ) (v w here there : View) (cookie : Cookie) → EchoFits v.endpoint.options w cookie → AckFits w.endpoint.options v cookie → IsOpened v w.endpoint.options cookie here → AckUnderBy tells w cookie there
    → OpenTo there.endpoint.options here cookie.addressee (echoing_end v.endpoint.options w.endpoint.options cookie) (held_by_cookie w.endpoint.options cookie)
open_mine tells v w here there cookie fits back i h =
    let a : Options = v.endpoint.options in
    let b : Options = w.endpoint.options in
    subst (λ (o : Options). OpenTo o here cookie.addressee (echoing_end a b cookie) (held_by_cookie b cookie)) (sym h.options)
    (record {
      core = i.core;
      flows = i.flows;
      fits = back.fits;
      own = back.addressee;
      peer = refl;
      port = back.port ∙ ap (λ (o : Options). o.local_port) (sym i.options);
      interleaves = sym (same_interleaving a b cookie fits.offered);
      abandons = sym (same_reliability a b cookie fits.offered);
      checked = subst (λ (o : Options). (((held_by_cookie b cookie).capabilities.zero_checksum_method.0 == 0) ≡ true) ⊎ (o.zero_checksum_alternate_error_detection_method.0 ≢ 0)) (sym i.options) (ack_checked a b cookie fits.offered);
    })

open_others : (tells : ℕ → ℕ) (v w here there : View) (cookie : Cookie) → Fit v.endpoint.options w.endpoint.options → EchoFits v.endpoint.options w cookie → AckFits w.endpoint.options v cookie → IsOpened v w.endpoint.options cookie here
    → AckUnderBy tells w cookie there → OpenTo here.endpoint.options there cookie.maker (held_by_cookie w.endpoint.options cookie) (echoing_end v.endpoint.options w.endpoint.options cookie)
open_others tells v w here there cookie fit fits back i h =
    let a : Options = v.endpoint.options in
    let b : Options = w.endpoint.options in
    subst (λ (o : Options). OpenTo o there cookie.maker (held_by_cookie b cookie) (echoing_end a b cookie)) (sym i.options)
    (record {
      core = h.core;
      flows = h.flows;
      fits = fits.fits;
      own = fits.maker;
      peer = refl;
      port = fits.port ∙ ap (λ (o : Options). o.local_port) (sym h.options);
      interleaves = same_interleaving a b cookie fits.offered;
      abandons = same_reliability a b cookie fits.offered;
      checked = subst (λ (o : Options). (((echoing_end a b cookie).capabilities.zero_checksum_method.0 == 0) ≡ true) ⊎ (o.zero_checksum_alternate_error_detection_method.0 ≢ 0)) (sym h.options)
          (method_checked a.zero_checksum_alternate_error_detection_method.0 b.zero_checksum_alternate_error_detection_method.0);
    })

joined_by : (tells : ℕ → ℕ) (side : Side) (options : Both Options) (v w here there last others : View) (cookie : Cookie) (run : List PerformedAct) → EchoFits v.endpoint.options w cookie → IsOpened v w.endpoint.options cookie here → AckUnderBy tells w cookie there
    → AtOf side options run last others → last.endpoint.core ≡ here.endpoint.core → others.endpoint.core ≡ there.endpoint.core → last.told ≡ here.told → others.told ≡ there.told
    → JoinedBy side options run v w (suc v.told) (tells w.told)
joined_by tells side options v w here there last others cookie run fits i h at core_here core_there told_here told_there =
    record {
      here = last;
      there = others;
      at = at;
      p = cookie.addressee;
      q = cookie.maker;
      linked = record {
        here = core_here ∙ i.core;
        there = core_there ∙ h.core ∙ ap (λ (o : Offer). open_in established cookie.maker (new_held cookie.maker cookie.addressee (negotiated_capabilities (offer_of w.endpoint.options) o))) fits.offered;
      };
      told_here = told_here ∙ i.told;
      told_there = told_there ∙ h.told;
    }

-- Once both are established, and what this side has sent since is under way.
opened_by : HandshakeLaws → (tells : ℕ → ℕ) (side : Side) (options : Both Options) (v w here there : View) (cookie : Cookie) (settled settled' : Both ℕ) (earlier run : List PerformedAct) → Fit v.endpoint.options w.endpoint.options
    → EchoFits v.endpoint.options w cookie → AckFits w.endpoint.options v cookie → KeepOf side options v w → IsOpened v w.endpoint.options cookie here → AckUnderBy tells w cookie there
    → AtOf side options earlier here there → Settles settled side (length v.shown) (length there.shown) → Exchanges options 2 settled earlier settled' run → SocketRun options run
    → JoinedBy side options run v w (suc v.told) (tells w.told)
opened_by law tells sides.A options v w here there cookie settled settled' earlier run fit fits back keep i h at counts rest runs =
    let m : BothOpen options here there cookie.addressee cookie.maker (echoing_end v.endpoint.options w.endpoint.options cookie) (held_by_cookie w.endpoint.options cookie) settled = record {
      open_here = open_mine tells v w here there cookie fits back i h;
      open_there = open_others tells v w here there cookie fit fits back i h;
      keep_a = i.options ∙ keep.a;
      keep_b = h.options ∙ keep.b;
      before_a = v.shown;
      before_b = there.shown;
      sent_a = i.sent;
      sent_b = [];
      each_a = i.carried;
      each_b = tt;
      shown_a = i.shown ∙ ap (λ (o : Options). v.shown ++ bytes_of o i.sent) (sym i.options);
      shown_b = sym (append-nil there.shown);
      settled_a = counts.mine;
      settled_b = counts.others;
    } in
    let s : StayBothOpen options run here there = both_stay_open law.wire 2 options here there _ _ _ _ settled settled' earlier run m at rest runs in
    joined_by tells sides.A options v w here there s.here s.there cookie run fits i h s.at s.core_here s.core_there s.told_here s.told_there
opened_by law tells sides.B options v w here there cookie settled settled' earlier run fit fits back keep i h at counts rest runs =
    let m : BothOpen options there here cookie.maker cookie.addressee (held_by_cookie w.endpoint.options cookie) (echoing_end v.endpoint.options w.endpoint.options cookie) settled = record {
      open_here = open_others tells v w here there cookie fit fits back i h;
      open_there = open_mine tells v w here there cookie fits back i h;
      keep_a = h.options ∙ keep.a;
      keep_b = i.options ∙ keep.b;
      before_a = there.shown;
      before_b = v.shown;
      sent_a = [];
      sent_b = i.sent;
      each_a = tt;
      each_b = i.carried;
      shown_a = sym (append-nil there.shown);
      shown_b = i.shown ∙ ap (λ (o : Options). v.shown ++ bytes_of o i.sent) (sym i.options);
      settled_a = counts.others;
      settled_b = counts.mine;
    } in
    let s : StayBothOpen options run there here = both_stay_open law.wire 2 options there here _ _ _ _ settled settled' earlier run m at rest runs in
    joined_by tells sides.B options v w here there s.there s.here cookie run fits i h s.at s.core_there s.core_here s.told_there s.told_here

pub four_exchanges : HandshakeLaws → (tells : ℕ → ℕ) (side : Side) (options : Both Options) (v w : View) (cookie : Cookie) (bytes : List ℕ) (before : List (List ℕ)) (settled settled' : Both ℕ) (earlier run : List PerformedAct)
    → Fit v.endpoint.options w.endpoint.options → EchoUnder v w.endpoint.options cookie bytes before → EchoFits v.endpoint.options w cookie → AckFits w.endpoint.options v cookie → TakesEcho tells w v.endpoint.options cookie bytes
    → KeepOf side options v w → AtOf side options earlier v w → Settles settled side (length before) (length w.shown)
    → Exchanges options 4 settled earlier settled' run → SocketRun options run → JoinedBy side options run v w (suc v.told) (tells w.told)
four_exchanges law tells side options v w cookie bytes before settled settled' earlier run fit under fits back_fits takes keep at counts rest runs =
    let a : Options = v.endpoint.options in
    let b : Options = w.endpoint.options in
    let runs_two : SocketRun options rest.2.0 = ran_exchanges options 2 _ rest.2.0 settled' run rest.2.2 runs in
    let runs_one : SocketRun options rest.0 = ran options rest.0 _ rest.2.0 rest.2.1 runs_two in
    let all : AllHanded side options rest.0 v (EchoComes tells a w cookie bytes under.more under.rest) =
    all_handed side options settled (EchoComes tells a w cookie bytes under.more under.rest) earlier rest.0 v w _
    (echo_along law.wire tells a (of_other side options) w cookie bytes under.more under.rest (others_of side options v w keep) fits takes under.carried under.others) at
    (record { before = before; shown = under.shown; mine = counts.mine; others = counts.others }) (to_come refl refl) rest.1 runs_one in
    let h : AckUnderBy tells w cookie all.last = echo_has_come tells a w cookie bytes under.more under.rest all.last all.holds in
    let counts' : Settles (counts_shown options (turns_after earlier)) side (length v.shown) (length w.shown) = settles side options earlier v w at in
    let back : AllHandedBack side options rest.2.0 all.last (AckComes b v cookie h.more h.rest) =
    all_back side options (counts_shown options (turns_after earlier)) (AckComes b v cookie h.more h.rest) rest.0 rest.2.0 v all.last _
    (ack_along law.wire b (of_side side options) v cookie bytes before h.more h.rest (mine_of side options v w keep) back_fits under h.carried h.others) all.at
    (record { before = w.shown; shown = h.shown; others = counts'.others; mine = counts'.mine }) (still refl refl) rest.2.1 runs_two in
    opened_by law tells side options v w back.last all.last cookie (counts_shown options (turns_after rest.0)) settled' rest.2.0 run fit fits back_fits keep
    (ack_has_come b v cookie h.more h.rest back.last back.holds) h back.at (settles side options rest.0 v all.last all.at) rest.2.2 runs

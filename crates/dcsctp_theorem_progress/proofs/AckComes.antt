-- A COOKIE ACK comes, with data behind it and packets of data after it. So once a COOKIE ECHO is under way, two exchanges connect both.
use Rattle.std.proofs.Common.{◌≡◌, ◌≢◌, ◌⊎◌, ℕ, suc, true, List, [], ◌∷◌, ◌++◌, length, refl, sym, subst, ap, ◌∙◌}
use Rattle.std.specs.Prelude.{◌==◌}
use Rattle.dcsctp_spec_lemmas.specs.types.declared.association.Held.{Held}
use Rattle.dcsctp_spec_lemmas.specs.types.declared.options.Options.{Options}
use Rattle.dcsctp_spec_lemmas.specs.types.declared.schedule.Side.{Side}
use Rattle.dcsctp_spec_lemmas.specs.types.declared.schedule.Side.TheVariants as sides
use Rattle.dcsctp_spec_lemmas.specs.types.Offer.{Offer, offer_of, negotiated_capabilities, agreed_method}
use Rattle.dcsctp_spec_lemmas.specs.types.Settings.{FitsOptions, ports_of}
use Rattle.dcsctp_spec_lemmas.specs.spec.Cookie.{Cookie}
use Rattle.dcsctp_spec_lemmas.specs.spec.CookieFits.{FitsPair}
use Rattle.dcsctp_spec_lemmas.specs.spec.Packet.{Content, Emission, emission_bytes}
use Rattle.dcsctp_spec_lemmas.specs.spec.association.HandshakeChanges.{new_held}
use Rattle.dcsctp_spec_lemmas.specs.spec.association.CookieEchoChanges.{held_by_cookie}
use Rattle.dcsctp_spec_lemmas.specs.spec.endpoint.Endpoint.{open_in, established}
use Rattle.dcsctp_spec_lemmas.specs.spec.endpoint.CallTurns.{Transition, HandleInput, events_of}
use Rattle.dcsctp_spec_lemmas.specs.spec.endpoint.Event.{packets_of_events}
use Rattle.dcsctp_spec_runs.specs.Sockets.{PerformedAct, Both, of_side, of_other, turns_after, SocketRun}
use Rattle.dcsctp_theorem_progress.specs.Rounds.{counts_shown, Exchanges}
use Rattle.dcsctp_theorem_sockets.proofs.HandshakeReads.{Wire}
use Rattle.dcsctp_theorem_sockets.proofs.HandshakeTurns.{method_checked}
use Rattle.dcsctp_theorem_progress.proofs.Views.{View, view_then, AtOf, KeepOf, ran_exchanges}
use Rattle.dcsctp_theorem_progress.proofs.Handed.{Settles, settles}
use Rattle.dcsctp_theorem_progress.proofs.HandedAll.{HoldsAlong, AllHanded, all_handed, AllHandedBack, all_back}
use Rattle.dcsctp_theorem_progress.proofs.Carried.{all_both}
use Rattle.dcsctp_theorem_progress.proofs.Flows.{Flows, AreCarriedFor, AllCarryTo}
use Rattle.dcsctp_theorem_progress.proofs.Walks.{StayAlong}
use Rattle.dcsctp_theorem_progress.proofs.Establishing.{ack_then}
use Rattle.dcsctp_theorem_progress.proofs.Acknowledged.{ConnectsAlong, connects_along, opened_along}
use Rattle.dcsctp_theorem_progress.proofs.EchoComes.{bytes_of, shown_is, shown_more, echoing_end, same_interleaving, same_reliability, carried_as, EchoUnder, AckUnder, TakesEcho, EchoComes, to_come, EchoFits, echo_along, echo_has_come}
use Rattle.dcsctp_theorem_progress.proofs.Joined.{JoinedBy}

-- It is established, and has told OnConnected once more.
pub record IsOpened (v : View) (b : Options) (cookie : Cookie) (now : View) : Type 0 where
  pub core : now.endpoint.core ≡ open_in established cookie.addressee (echoing_end v.endpoint.options b cookie)
  pub options : now.endpoint.options ≡ v.endpoint.options
  pub flows : Flows (echoing_end v.endpoint.options b cookie) now.endpoint
  pub told : now.told ≡ suc v.told
  pub sent : List Emission
  pub carried : AllCarryTo (echoing_end v.endpoint.options b cookie) sent
  pub shown : now.shown ≡ v.shown ++ bytes_of v.endpoint.options sent

-- With these packets to come it is still to come, or has come and only data comes.
pub data AckComes (b : Options) (v : View) (cookie : Cookie) (more : List Content) (rest : List Emission) (xs : List (List ℕ)) (now : View) : Type 0 where
  still : xs ≡ bytes_of b (ack_then (held_by_cookie b cookie) cookie.addressee.tag more ∷ rest) → now ≡ v → AckComes b v cookie more rest xs now
  come : (left : List Emission) → AllCarryTo (held_by_cookie b cookie) left → xs ≡ bytes_of b left → IsOpened v b cookie now → AckComes b v cookie more rest xs now

-- what both sides are for it
pub record AckFits (b : Options) (v : View) (cookie : Cookie) : Type 0 where
  pub offered : cookie.offer ≡ offer_of v.endpoint.options
  pub fits : FitsOptions b
  pub addressee : FitsPair cookie.addressee
  pub port : b.remote_port ≡ v.endpoint.options.local_port

head_is : (x y : List ℕ) (xs ys : List (List ℕ)) → x ∷ xs ≡ y ∷ ys → x ≡ y
head_is x y xs ys same = cc

tail_is : (x y : List ℕ) (xs ys : List (List ℕ)) → x ∷ xs ≡ y ∷ ys → xs ≡ ys
tail_is x y xs ys same = cc

-- A packet without a checksum is taken.
pub ack_checked : (a b : Options) (cookie : Cookie) → cookie.offer ≡ offer_of a → (((held_by_cookie b cookie).capabilities.zero_checksum_method.0 == 0) ≡ true) ⊎ (a.zero_checksum_alternate_error_detection_method.0 ≢ 0)
ack_checked a b cookie offered =
    subst (λ (o : Offer). ((agreed_method (offer_of b) o == 0) ≡ true) ⊎ (a.zero_checksum_alternate_error_detection_method.0 ≢ 0)) (sym offered)
    (method_checked b.zero_checksum_alternate_error_detection_method.0 a.zero_checksum_alternate_error_detection_method.0)

first_comes : Wire → (b : Options) (v : View) (cookie : Cookie) (bytes : List ℕ) (before : List (List ℕ)) (more : List Content) (rest : List Emission) (xs : List (List ℕ)) (turns : List Transition) → AckFits b v cookie
    → EchoUnder v b cookie bytes before → AreCarriedFor (held_by_cookie b cookie) more → AllCarryTo (held_by_cookie b cookie) rest → xs ≡ bytes_of b rest
    → HandleInput v.endpoint (emission_bytes (ports_of b) (ack_then (held_by_cookie b cookie) cookie.addressee.tag more)) turns → AckComes b v cookie more rest xs (view_then v turns)
first_comes wire b v cookie bytes before more rest xs turns fits under carried others is input =
    let a : Options = v.endpoint.options in
    let held : Held = echoing_end a b cookie in
    let h : ConnectsAlong v.endpoint cookie.addressee held turns =
    connects_along wire v.endpoint b cookie.addressee held bytes _ more turns under.core under.asks under.flows fits.fits fits.addressee fits.port (ack_checked a b cookie fits.offered)
    (carried_as _ _ _ _ more (sym (same_interleaving a b cookie fits.offered)) (sym (same_reliability a b cookie fits.offered)) carried) input in
    come rest others is
    (record {
      core = h.core;
      options = h.options;
      flows = h.flows;
      told = h.told v.told;
      sent = packets_of_events (events_of turns);
      carried = h.sent;
      shown = ap (λ (ps : List (List ℕ)). v.shown ++ ps) (shown_is a turns);
    })

next_comes : Wire → (b : Options) (v : View) (cookie : Cookie) (more : List Content) (rest : List Emission) (xs : List (List ℕ)) (now : View) (emission : Emission) (left : List Emission) (turns : List Transition) → AckFits b v cookie
    → AllCarryTo (held_by_cookie b cookie) (emission ∷ left) → xs ≡ bytes_of b left → IsOpened v b cookie now
    → HandleInput now.endpoint (emission_bytes (ports_of b) emission) turns → AckComes b v cookie more rest xs (view_then now turns)
next_comes wire b v cookie more rest xs now emission left turns fits each is h input =
    let a : Options = v.endpoint.options in
    let held : Held = echoing_end a b cookie in
    let along : StayAlong held now.endpoint turns =
    opened_along wire now.endpoint b cookie.addressee held _ _ _ emission turns h.core h.flows fits.fits fits.addressee (fits.port ∙ ap (λ (o : Options). o.local_port) (sym h.options))
    (sym (same_interleaving a b cookie fits.offered)) (sym (same_reliability a b cookie fits.offered))
    (subst (λ (o : Options). (((held_by_cookie b cookie).capabilities.zero_checksum_method.0 == 0) ≡ true) ⊎ (o.zero_checksum_alternate_error_detection_method.0 ≢ 0)) (sym h.options) (ack_checked a b cookie fits.offered))
    each.0 input in
    come left each.1 is
    (record {
      core = along.core ∙ h.core;
      options = along.options ∙ h.options;
      flows = along.flows;
      told = along.tells.told now.told ∙ h.told;
      sent = h.sent ++ packets_of_events (events_of turns);
      carried = all_both _ h.sent (packets_of_events (events_of turns)) h.carried along.tells.sent;
      shown = shown_more v.shown a now turns h.sent h.options h.shown;
    })

ack_step : Wire → (b : Options) (v : View) (cookie : Cookie) (bytes : List ℕ) (before : List (List ℕ)) (more : List Content) (rest : List Emission) → AckFits b v cookie → EchoUnder v b cookie bytes before
    → AreCarriedFor (held_by_cookie b cookie) more → AllCarryTo (held_by_cookie b cookie) rest
    → (x : List ℕ) (xs : List (List ℕ)) (now : View) (turns : List Transition) → AckComes b v cookie more rest (x ∷ xs) now → HandleInput now.endpoint x turns → AckComes b v cookie more rest xs (view_then now turns)
ack_step wire b v cookie bytes before more rest fits under carried others x xs now turns (still is same) input =
    subst (λ (y : View). AckComes b v cookie more rest xs (view_then y turns)) (sym same)
    (first_comes wire b v cookie bytes before more rest xs turns fits under carried others (tail_is _ _ _ _ is)
    (subst (λ (y : List ℕ). HandleInput v.endpoint y turns) (head_is _ _ _ _ is) (subst (λ (y : View). HandleInput y.endpoint x turns) same input)))
ack_step wire b v cookie bytes before more rest fits under carried others x xs now turns (come [] each is h) input = absurd (cc)
ack_step wire b v cookie bytes before more rest fits under carried others x xs now turns (come (emission ∷ left) each is h) input =
    next_comes wire b v cookie more rest xs now emission left turns fits each (tail_is _ _ _ _ is) h (subst (λ (y : List ℕ). HandleInput now.endpoint y turns) (head_is _ _ _ _ is) input)

ack_keeps : (b options : Options) (v : View) (cookie : Cookie) (more : List Content) (rest : List Emission) (xs : List (List ℕ)) (now : View) → v.endpoint.options ≡ options
    → AckComes b v cookie more rest xs now → now.endpoint.options ≡ options
ack_keeps b options v cookie more rest xs now keep (still is same) = ap (λ (y : View). y.endpoint.options) same ∙ keep
ack_keeps b options v cookie more rest xs now keep (come left each is h) = h.options ∙ keep

pub ack_along : Wire → (b options : Options) (v : View) (cookie : Cookie) (bytes : List ℕ) (before : List (List ℕ)) (more : List Content) (rest : List Emission) → v.endpoint.options ≡ options → AckFits b v cookie
    → EchoUnder v b cookie bytes before → AreCarriedFor (held_by_cookie b cookie) more → AllCarryTo (held_by_cookie b cookie) rest → HoldsAlong options (AckComes b v cookie more rest)
ack_along wire b options v cookie bytes before more rest keep fits under carried others =
    record { keeps = λ xs now h. ack_keeps b options v cookie more rest xs now keep h; step = ack_step wire b v cookie bytes before more rest fits under carried others }

pub ack_has_come : (b : Options) (v : View) (cookie : Cookie) (more : List Content) (rest : List Emission) (now : View) → AckComes b v cookie more rest [] now → IsOpened v b cookie now
ack_has_come b v cookie more rest now (still is same) = absurd (cc)
ack_has_come b v cookie more rest now (come left each is h) = h

-- ---- both exchanges

pub mine_of : (side : Side) (options : Both Options) (v w : View) → KeepOf side options v w → v.endpoint.options ≡ of_side side options
mine_of sides.A options v w keep = keep.a
mine_of sides.B options v w keep = keep.b

pub others_of : (side : Side) (options : Both Options) (v w : View) → KeepOf side options v w → w.endpoint.options ≡ of_other side options
others_of sides.A options v w keep = keep.b
others_of sides.B options v w keep = keep.a

-- The COOKIE ACK is under way.
acknowledged : Wire → (side : Side) (options : Both Options) (v w there : View) (cookie : Cookie) (bytes : List ℕ) (before : List (List ℕ)) (settled settled' : Both ℕ) (earlier run : List PerformedAct)
    → EchoUnder v w.endpoint.options cookie bytes before → AckFits w.endpoint.options v cookie → AckUnder w cookie there → KeepOf side options v w
    → AtOf side options earlier v there → Settles settled side (length v.shown) (length w.shown)
    → Exchanges options 1 settled earlier settled' run → SocketRun options run → JoinedBy side options run v w (suc v.told) (suc w.told)
acknowledged wire side options v w there cookie bytes before settled settled' earlier run under fits h keep at counts rest runs =
    let b : Options = w.endpoint.options in
    let along : HoldsAlong (of_side side options) (AckComes b v cookie h.more h.rest) =
    ack_along wire b (of_side side options) v cookie bytes before h.more h.rest (mine_of side options v w keep) fits under h.carried h.others in
    let back : AllHandedBack side options rest.0 there (AckComes b v cookie h.more h.rest) =
    all_back side options settled (AckComes b v cookie h.more h.rest) earlier rest.0 v there _ along at
    (record { before = w.shown; shown = h.shown; others = counts.others; mine = counts.mine }) (still refl refl) rest.1 (subst (SocketRun options) rest.2.1 runs) in
    let opened : IsOpened v b cookie back.last = ack_has_come b v cookie h.more h.rest back.last back.holds in
    subst (λ (r : List PerformedAct). JoinedBy side options r v w (suc v.told) (suc w.told)) (sym rest.2.1)
    (record {
      here = back.last;
      there = there;
      at = back.at;
      p = cookie.addressee;
      q = cookie.maker;
      linked = record {
        here = opened.core;
        there = h.core ∙ ap (λ (o : Offer). open_in established cookie.maker (new_held cookie.maker cookie.addressee (negotiated_capabilities (offer_of b) o))) fits.offered;
      };
      told_here = opened.told;
      told_there = h.told;
    })

-- The COOKIE ECHO is under way.
pub echo_connects : Wire → (side : Side) (options : Both Options) (v w : View) (cookie : Cookie) (bytes : List ℕ) (before : List (List ℕ)) (settled settled' : Both ℕ) (earlier run : List PerformedAct)
    → EchoUnder v w.endpoint.options cookie bytes before → EchoFits v.endpoint.options w cookie → AckFits w.endpoint.options v cookie → TakesEcho suc w v.endpoint.options cookie bytes → KeepOf side options v w
    → AtOf side options earlier v w → Settles settled side (length before) (length w.shown)
    → Exchanges options 2 settled earlier settled' run → SocketRun options run → JoinedBy side options run v w (suc v.told) (suc w.told)
echo_connects wire side options v w cookie bytes before settled settled' earlier run under fits back_fits takes keep at counts rest runs =
    let a : Options = v.endpoint.options in
    let Holds : List (List ℕ) → View → Type 0 = EchoComes suc a w cookie bytes under.more under.rest in
    let along : HoldsAlong (of_other side options) Holds = echo_along wire suc a (of_other side options) w cookie bytes under.more under.rest (others_of side options v w keep) fits takes under.carried under.others in
    let all : AllHanded side options rest.0 v Holds =
    all_handed side options settled Holds earlier rest.0 v w _ along at (record { before = before; shown = under.shown; mine = counts.mine; others = counts.others }) (to_come refl refl) rest.1
    (ran_exchanges options 1 _ rest.0 settled' run rest.2 runs) in
    acknowledged wire side options v w all.last cookie bytes before (counts_shown options (turns_after earlier)) settled' rest.0 run under back_fits
    (echo_has_come suc a w cookie bytes under.more under.rest all.last all.holds) keep all.at (settles side options earlier v w at) rest.2 runs

-- A run of two fitting sockets whose acts are those of a handshake connects them.
use Rattle.std.specs.Prelude.{reverse}
use Rattle.std.proofs.Common.{◌≡◌, List, [], ◌∷◌, ◌++◌, refl, sym, subst, ap, ◌∙◌}
use Rattle.dcsctp_spec_lemmas.specs.types.declared.options.Options.{Options}
use Rattle.dcsctp_spec_lemmas.specs.types.declared.schedule.Side.{Side}
use Rattle.dcsctp_spec_lemmas.specs.types.declared.schedule.Side.TheVariants as sides
use Rattle.dcsctp_spec_lemmas.specs.types.Schedule.{connect_call, call_step, delivery_step, ActContent, step_act}
use Rattle.dcsctp_spec_lemmas.specs.spec.endpoint.CallTurns.{Transition}
use Rattle.dcsctp_spec_runs.specs.Sockets.{PerformedAct, Both, turns_after, SocketRun, acts_of}
use Rattle.dcsctp_theorem_sockets.specs.Handshake.{other_side, handshake_acts, AreFitting, AreConnected, FittingSocketsConnect}
use Rattle.dcsctp_theorem_sockets.specs.Agreement.{AreUsable}
use Rattle.dcsctp_theorem_sockets.proofs.HandshakeTurns.{HandshakeLaws, Good}
use Rattle.dcsctp_theorem_sockets.proofs.HandshakeEnds.{Ended, in_turn}

-- the run of a handshake with these turns
abbrev pub run_of : Side → List Transition → List Transition → List Transition → List Transition → List Transition → List PerformedAct
run_of side o1 o2 o3 o4 o5 =
    record { act = step_act (delivery_step side 2); turns = o5 }
    ∷ record { act = step_act (delivery_step (other_side side) 2); turns = o4 }
    ∷ record { act = step_act (delivery_step side 1); turns = o3 }
    ∷ record { act = step_act (delivery_step (other_side side) 1); turns = o2 }
    ∷ record { act = step_act (call_step side connect_call); turns = o1 }
    ∷ []

-- A run of these acts is one.
pub record IsHandshake (side : Side) (run : List PerformedAct) : Type 0 where
  pub o1 : List Transition
  pub o2 : List Transition
  pub o3 : List Transition
  pub o4 : List Transition
  pub o5 : List Transition
  pub is : run ≡ run_of side o1 o2 o3 o4 o5

first_is : (x y : ActContent) (xs ys : List ActContent) → x ∷ xs ≡ y ∷ ys → x ≡ y
first_is x y xs ys same = cc

rest_is : (x y : ActContent) (xs ys : List ActContent) → x ∷ xs ≡ y ∷ ys → xs ≡ ys
rest_is x y xs ys same = cc

-- an act with its turns, after others
with_act : (worked : PerformedAct) (act : ActContent) (earlier others : List PerformedAct) → worked.act ≡ act → earlier ≡ others → worked ∷ earlier ≡ record { act = act; turns = worked.turns } ∷ others
with_act worked act earlier others is same =
    ap (λ (a : ActContent). record { act = a; turns = worked.turns } ∷ earlier) is ∙ ap (λ (ws : List PerformedAct). record { act = act; turns = worked.turns } ∷ ws) same

is_handshake : (side : Side) (run : List PerformedAct) → acts_of run ≡ reverse (handshake_acts side) → IsHandshake side run
is_handshake side [] same = absurd (cc)
is_handshake side (w5 ∷ []) same = absurd (cc)
is_handshake side (w5 ∷ w4 ∷ []) same = absurd (cc)
is_handshake side (w5 ∷ w4 ∷ w3 ∷ []) same = absurd (cc)
is_handshake side (w5 ∷ w4 ∷ w3 ∷ w2 ∷ []) same = absurd (cc)
is_handshake side (w5 ∷ w4 ∷ w3 ∷ w2 ∷ w1 ∷ w0 ∷ run) same = absurd (cc)
is_handshake side (w5 ∷ w4 ∷ w3 ∷ w2 ∷ w1 ∷ []) same =
    let four = rest_is _ _ _ _ same in
    let three = rest_is _ _ _ _ four in
    let two = rest_is _ _ _ _ three in
    let one = rest_is _ _ _ _ two in
    record {
      o1 = w1.turns;
      o2 = w2.turns;
      o3 = w3.turns;
      o4 = w4.turns;
      o5 = w5.turns;
      is = with_act w5 (step_act (delivery_step side 2)) (w4 ∷ w3 ∷ w2 ∷ w1 ∷ []) _ (first_is _ _ _ _ same)
          (with_act w4 (step_act (delivery_step (other_side side) 2)) (w3 ∷ w2 ∷ w1 ∷ []) _ (first_is _ _ _ _ four)
          (with_act w3 (step_act (delivery_step side 1)) (w2 ∷ w1 ∷ []) _ (first_is _ _ _ _ three)
          (with_act w2 (step_act (delivery_step (other_side side) 1)) (w1 ∷ []) _ (first_is _ _ _ _ two)
          (with_act w1 (step_act (call_step side connect_call)) [] [] (first_is _ _ _ _ one) refl))));
    }

connected_at : HandshakeLaws → (options : Both Options) (side : Side) (o1 o2 o3 o4 o5 : List Transition) → Good options.a → Good options.b → AreFitting options
    → SocketRun options (run_of side o1 o2 o3 o4 o5) → AreConnected options (turns_after (run_of side o1 o2 o3 o4 o5))
connected_at law options sides.A o1 o2 o3 o4 o5 good_a good_b fit runs =
    let h : Ended options.a options.b ((o1 ++ o3) ++ o5) (o2 ++ o4) =
    in_turn law options.a options.b o1 o2 o3 o4 o5 good_a good_b fit.to_b fit.to_a runs.1.1.1.1.0 runs.1.1.1.0 runs.1.1.0 runs.1.0 runs.0 in
    record { a_pair = h.p; b_pair = h.q; a = h.mine; b = h.theirs }
connected_at law options sides.B o1 o2 o3 o4 o5 good_a good_b fit runs =
    let h : Ended options.b options.a ((o1 ++ o3) ++ o5) (o2 ++ o4) =
    in_turn law options.b options.a o1 o2 o3 o4 o5 good_b good_a fit.to_a fit.to_b runs.1.1.1.1.0 runs.1.1.1.0 runs.1.1.0 runs.1.0 runs.0 in
    record { a_pair = h.q; b_pair = h.p; a = h.theirs; b = h.mine }

connects_now : HandshakeLaws → (options : Both Options) (side : Side) (run : List PerformedAct) → AreUsable options → AreFitting options → SocketRun options run
    → acts_of run ≡ reverse (handshake_acts side) → AreConnected options (turns_after run)
connects_now law options side run are fit runs schedule =
    let h : IsHandshake side run = is_handshake side run schedule in
    subst (λ (ws : List PerformedAct). AreConnected options (turns_after ws)) (sym h.is)
    (connected_at law options side h.o1 h.o2 h.o3 h.o4 h.o5
    (record { valid = (are sides.A).valid; fits = (are sides.A).fits; allow = fit.a }) (record { valid = (are sides.B).valid; fits = (are sides.B).fits; allow = fit.b })
    fit (subst (SocketRun options) h.is runs))

pub fitting_sockets_connect : HandshakeLaws → FittingSocketsConnect
fitting_sockets_connect law options side [] are fit runs = tt
fitting_sockets_connect law options side (worked ∷ earlier) are fit runs =
    ((λ schedule. connects_now law options side (worked ∷ earlier) are fit runs schedule), fitting_sockets_connect law options side earlier are fit runs.1)

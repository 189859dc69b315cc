-- Rounds: what two sockets do when nothing comes from outside. Time goes on to the next deadline. What is sent then is delivered
-- in a quiet round, and lost in a lost one.
use Rattle.std.specs.Prelude.{◌≡◌, ℕ, zero, suc, ◌-◌, min, List, [], ◌∷◌, ◌++◌, length, reverse}
use Rattle.dcsctp_spec_lemmas.specs.types.declared.options.Options.{Options}
use Rattle.dcsctp_spec_lemmas.specs.types.declared.schedule.Side.{Side}
use Rattle.dcsctp_spec_lemmas.specs.types.declared.schedule.Side.TheVariants as sides
use Rattle.dcsctp_spec_lemmas.specs.types.Schedule.{advance_call, call_step, delivery_step, ActContent, step_act}
use Rattle.dcsctp_spec_lemmas.specs.spec.endpoint.CallTurns.{Transition}
use Rattle.dcsctp_spec_lemmas.specs.spec.endpoint.TimeTurns.{next_moment}
use Rattle.dcsctp_spec_lemmas.specs.spec.endpoint.Endpoint.{Endpoint}
use Rattle.dcsctp_spec_runs.specs.Sockets.{PerformedAct, Both, of_side, of_other, endpoint_after, packets_shown, turns_after, acts_of}

-- how many packets each has emitted
abbrev pub counts_shown : Both Options → Both (List Transition) → Both ℕ
counts_shown options turns = record { a = length (packets_shown options.a turns.a); b = length (packets_shown options.b turns.b) }

-- this side after the run, and the other
abbrev pub this_endpoint : Both Options → Side → List PerformedAct → Endpoint
this_endpoint options side run = endpoint_after (of_side side options) (of_side side (turns_after run))

abbrev pub other_endpoint : Both Options → Side → List PerformedAct → Endpoint
other_endpoint options side run = endpoint_after (of_other side options) (of_other side (turns_after run))

-- These acts, oldest first, and no others, lie between the runs.
pub record ActsFollow (earlier : List PerformedAct) (acts : List ActContent) (run : List PerformedAct) : Type 0 where
  pub more : List PerformedAct
  pub is : run ≡ more ++ earlier
  pub are : acts_of more ≡ reverse acts

-- ---- time

-- the lesser of the two next moments
abbrev pub lesser_moment : Both Options → Both (List Transition) → ℕ
lesser_moment options turns = min (next_moment (endpoint_after options.a turns.a)) (next_moment (endpoint_after options.b turns.b))

abbrev pub clocks : ℕ → List ActContent
clocks moment = step_act (call_step sides.A (advance_call moment)) ∷ step_act (call_step sides.B (advance_call moment)) ∷ []

-- Both clocks go to the lesser next moment.
abbrev pub AdvancesBothClocks : Both Options → List PerformedAct → List PerformedAct → Type 0
AdvancesBothClocks options earlier run = ActsFollow earlier (clocks (lesser_moment options (turns_after earlier))) run

-- That many rounds of which every packet is lost.
abbrev pub LostRounds : Both Options → ℕ → List PerformedAct → List PerformedAct → Type 0
LostRounds options zero earlier run = run ≡ earlier
LostRounds options (suc more) earlier run =
    (between : List PerformedAct) × AdvancesBothClocks options earlier between × LostRounds options more between run

-- ---- packets

-- The next packets after the first ones are delivered to this side, each once, in order.
abbrev pub deliveries : Side → ℕ → ℕ → List ActContent
deliveries side first zero = []
deliveries side first (suc more) = step_act (delivery_step side (suc first)) ∷ deliveries side (suc first) more

-- All that was emitted since these counts is delivered, first to B, then to A. What is emitted meanwhile isn't.
abbrev pub exchange : Both Options → Both (List Transition) → Both ℕ → List ActContent
exchange options turns settled =
    let shown : Both ℕ = counts_shown options turns in
    deliveries sides.B settled.a (shown.a - settled.a) ++ deliveries sides.A settled.b (shown.b - settled.b)

-- That many exchanges lie between them. The counts say what is settled before and after: delivered, or lost.
abbrev pub Exchanges : Both Options → ℕ → Both ℕ → List PerformedAct → Both ℕ → List PerformedAct → Type 0
Exchanges options zero settled earlier settled' run = (settled' ≡ settled) × (run ≡ earlier)
Exchanges options (suc more) settled earlier settled' run =
    (between : List PerformedAct) × ActsFollow earlier (exchange options (turns_after earlier) settled) between
    × Exchanges options more (counts_shown options (turns_after earlier)) between settled' run

-- A quiet round: the clocks go on, and then come four exchanges, as many as a handshake has packets. With fewer the next round's
-- clocks go on while a packet is under way.
pub record QuietRound (options : Both Options) (settled : Both ℕ) (earlier : List PerformedAct) (settled' : Both ℕ) (run : List PerformedAct) : Type 0 where
  pub between : List PerformedAct
  pub time : AdvancesBothClocks options earlier between
  pub exchanges : Exchanges options 4 settled between settled' run

abbrev pub QuietRounds : Both Options → ℕ → Both ℕ → List PerformedAct → Both ℕ → List PerformedAct → Type 0
QuietRounds options zero settled earlier settled' run = (settled' ≡ settled) × (run ≡ earlier)
QuietRounds options (suc more) settled earlier settled' run =
    (now : Both ℕ) × (between : List PerformedAct) × QuietRound options settled earlier now between × QuietRounds options more now between settled' run

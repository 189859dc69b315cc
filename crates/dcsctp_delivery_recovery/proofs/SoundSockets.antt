-- What is outstanding is sound at each socket of an honest run.
use Rattle.std.proofs.Common.{◌≡◌, ℕ, zero, suc, Option, None, Some, List, [], ◌∷◌, ◌++◌, refl, sym, subst}
use Rattle.std.specs.List.{AllByRecursion, slice_get}
use Rattle.dcsctp_spec_lemmas.specs.wire.Content.{PacketContent}
use Rattle.dcsctp_spec_lemmas.specs.wire.Format.{IsPacket}
use Rattle.dcsctp_spec_lemmas.specs.types.declared.options.Options.{Options}
use Rattle.dcsctp_spec_lemmas.specs.types.declared.schedule.Side.{Side}
use Rattle.dcsctp_spec_lemmas.specs.types.declared.schedule.Side.TheVariants as sides
use Rattle.dcsctp_spec_lemmas.specs.types.Schedule.{StepContent, call_step, delivery_step, ActContent, step_act, outside_act, IsHonestAct, AreHonest}
use Rattle.dcsctp_spec_lemmas.specs.types.Settings.{FitsOptions, wire_options, ports_of}
use Rattle.dcsctp_spec_lemmas.specs.spec.Packet.{packet_of_content, emission_bytes}
use Rattle.dcsctp_spec_lemmas.specs.spec.endpoint.CallTurns.{Transition, AlongTurns, HandleInput, events_of}
use Rattle.dcsctp_spec_lemmas.specs.spec.endpoint.Endpoint.{Endpoint, fresh_endpoint}
use Rattle.dcsctp_spec_runs.proofs.RunsAlong.{run_along}
use Rattle.dcsctp_spec_runs.specs.Fitting.{AllSent, FitsEndpoint, IsSendable}
use Rattle.dcsctp_spec_runs.specs.Sockets.{PerformedAct, Both, of_side, of_other, side_of, side_turns_added, turns_after, endpoint_after, packets_shown, DeliveryTurns, StepTurns, SocketRun, side_of_act, NextTurns, acts_of}
use Rattle.dcsctp_theorem_sockets.specs.Agreement.{AreUsable}
use Rattle.dcsctp_theorem_sockets.proofs.Deliver.{IsSent, sent_at, reads_as_sent}
use Rattle.dcsctp_theorem_sockets.proofs.Moves.{Below}
use Rattle.dcsctp_theorem_sockets.proofs.Sent.{all_sent_map}
use Rattle.dcsctp_theorem_sockets.proofs.SocketsAgree.{Joined, joined}
use Rattle.dcsctp_delivery_sockets.specs.sockets.Acts.{AreTurns}
use Rattle.dcsctp_delivery_sockets.specs.sockets.Delivery.{FitsStep, AreInMemory}
use Rattle.dcsctp_delivery_sockets.proofs.sockets.Calls.{AreCalls, call_without, call_is, input_is}
use Rattle.dcsctp_delivery_sockets.proofs.sockets.Known.{IsOwn, own_turn}
use Rattle.dcsctp_delivery_sockets.proofs.sockets.OpenFitting.{AllOpenFitting, none_open, packet_opens}
use Rattle.dcsctp_delivery_sockets.proofs.turns.Beginnings.{unlinked_fits}
use Rattle.dcsctp_delivery_recovery.specs.Flights.{SocketsKeepFlightsSound}
use Rattle.dcsctp_delivery_recovery.proofs.SoundTurns.{SideSound, turns_sound}

-- ---- what goes in

-- Each of these turns is of a call or of bytes, and an association that begins has numbers that fit their fields.
record TurnsFit (turns : List Transition) : Type 0 where
  calls : AreCalls turns
  opens : AllOpenFitting turns

all_more : (P : Transition → Type 0) (turns more : List Transition) → AllByRecursion P turns → AllByRecursion P more → AllByRecursion P (turns ++ more)
all_more P [] more h k = k
all_more P (turn ∷ turns) more h k = (h.0, all_more P turns more h.1 k)

turns_more : (turns more : List Transition) → TurnsFit turns → TurnsFit more → TurnsFit (turns ++ more)
turns_more turns more h k = record { calls = all_more _ turns more h.calls k.calls; opens = all_more _ turns more h.opens k.opens }

module _ (law : Below) (theirs : Options) (e : Endpoint) (others more : List Transition) (fits : FitsEndpoint e) (their_fits : FitsOptions theirs) (went : AllSent IsSendable (events_of others)) where
  none_taken : more ≡ [] → TurnsFit more
  none_taken none = subst TurnsFit (sym none) (record { calls = tt; opens = tt })

  handled : (bytes : List ℕ) → IsSent IsSendable (emission_bytes (ports_of theirs)) bytes → HandleInput e bytes more → TurnsFit more
  handled bytes out taken =
      let is : (packet : PacketContent) → IsPacket (wire_options e.options) packet bytes → packet_of_content packet ≡ out.emission.packet =
      λ packet found. reads_as_sent law.built e.options theirs out.emission packet their_fits out.good (subst (λ (bs : List ℕ). IsPacket (wire_options e.options) packet bs) out.is found) in
      record { calls = input_is e bytes more taken; opens = packet_opens law.offers e bytes out.emission more fits out.good is taken }

  delivered : (index : ℕ) (found : Option (List ℕ)) → slice_get (packets_shown theirs others) index ≡ found → DeliveryTurns e found more → TurnsFit more
  delivered index None is none = none_taken none
  delivered index (Some bytes) is taken = handled bytes (sent_at IsSendable (emission_bytes (ports_of theirs)) (events_of others) index bytes went is) taken

  step_fits : (step : StepContent) → FitsStep step → StepTurns e (packets_shown theirs others) step more → TurnsFit more
  step_fits (call_step which call) in_memory taken = record { calls = call_is e call more in_memory taken; opens = none_open more (call_without e call more taken) }
  step_fits (delivery_step which zero) in_memory none = none_taken none
  step_fits (delivery_step which (suc index)) in_memory taken = delivered index (slice_get (packets_shown theirs others) index) refl taken

-- ---- a run

stepped : Below → (options : Both Options) (turns : Both (List Transition)) (step : StepContent) (more : List Transition) (mover : Side) → AreUsable options → Joined options turns → FitsStep step
    → StepTurns (endpoint_after (of_side mover options) (of_side mover turns)) (packets_shown (of_other mover options) (of_other mover turns)) step more → ((side : Side) → TurnsFit (of_side side turns))
    → (side : Side) → TurnsFit (of_side side (side_turns_added mover more turns))
stepped law options turns step more sides.A are j in_memory taken h sides.A =
    turns_more turns.a more (h sides.A)
    (step_fits law options.b (endpoint_after options.a turns.a) turns.b more j.a.fits (are sides.B).fits (all_sent_map (λ emission went. went.sendable) (events_of turns.b) j.b.went) step in_memory taken)
stepped law options turns step more sides.A are j in_memory taken h sides.B = h sides.B
stepped law options turns step more sides.B are j in_memory taken h sides.A = h sides.A
stepped law options turns step more sides.B are j in_memory taken h sides.B =
    turns_more turns.b more (h sides.B)
    (step_fits law options.a (endpoint_after options.b turns.b) turns.a more j.b.fits (are sides.A).fits (all_sent_map (λ emission went. went.sendable) (events_of turns.a) j.a.went) step in_memory taken)

acted : Below → (options : Both Options) (turns : Both (List Transition)) (act : ActContent) (more : List Transition) → AreUsable options → IsHonestAct act → AreInMemory (act ∷ []) → Joined options turns
    → NextTurns options turns act more → ((side : Side) → TurnsFit (of_side side turns)) → (side : Side) → TurnsFit (of_side side (side_turns_added (side_of_act act) more turns))
acted law options turns (step_act step) more are honest in_memory j taken h = stepped law options turns step more (side_of step) are j in_memory.0 taken h
acted law options turns (outside_act outside) more are honest in_memory j taken h = absurd honest

none_before : (side : Side) → TurnsFit (of_side side (turns_after []))
none_before sides.A = record { calls = tt; opens = tt }
none_before sides.B = record { calls = tt; opens = tt }

run_fits : Below → (options : Both Options) (run : List PerformedAct) → AreUsable options → AreInMemory (acts_of run) → SocketRun options run → AreHonest (acts_of run) → (side : Side) → TurnsFit (of_side side (turns_after run))
run_fits law options [] are in_memory runs honest side = none_before side
run_fits law options (worked ∷ earlier) are in_memory runs honest side =
    acted law options (turns_after earlier) worked.act worked.turns are honest.0 (in_memory.0, tt) (joined law options earlier are runs.1 honest.1) runs.0
    (run_fits law options earlier are in_memory.1 runs.1 honest.1) side

are_turns : (e : Endpoint) (turns : List Transition) → AlongTurns IsOwn e turns → AreTurns e turns
are_turns e [] along = tt
are_turns e (t ∷ turns) along = (along.0, are_turns t.outcome.after turns along.1)

fresh_sound : (options : Options) → SideSound (fresh_endpoint options)
fresh_sound options =
    record {
      asks = unlinked_fits (fresh_endpoint options).core (fresh_endpoint options).outstanding refl;
      sound = record { waits = record { ascending = tt; each = tt }; flight = tt };
    }

pub sockets_keep_flights_sound : Below → SocketsKeepFlightsSound
sockets_keep_flights_sound law options run are in_memory runs honest side =
    let mine : Options = of_side side options in
    let turns : List Transition = of_side side (turns_after run) in
    let fit = run_fits law options run are in_memory runs honest side in
    (turns_sound (fresh_endpoint mine) turns (are_turns (fresh_endpoint mine) turns (run_along IsOwn own_turn options run runs side)) fit.calls fit.opens (fresh_sound mine)).sound.flight

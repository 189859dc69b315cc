-- The laws of turns, as what they do to runs of two directions.
use Rattle.dcsctp_delivery_directions.specs.directions.Directions as directions
use Rattle.std.proofs.Common.{◌≡◌, ℕ, Option, true, false, None, Some, List, [], refl, sym, subst}
use Rattle.dcsctp_spec_lemmas.specs.spec.queues.SendQueue.{empty_queue}
use Rattle.dcsctp_delivery_sockets.specs.turns.Runs.{accepted_resets, SenderTurns, SendersGoOn, SendersBegin, SendersBeginAgain, ReceiversGoOn, ReceiversBegin}
use Rattle.dcsctp_delivery_sockets.proofs.turns.Turns.{turns_are_actions, accepted_prepares}
use Rattle.dcsctp_delivery_sockets.proofs.turns.Beginnings.{fresh_waits, anew_runs, fresh_at_zero}
use Rattle.dcsctp_delivery_sockets.proofs.turns.SenderRuns.{sender_becomes, sender_prepares}
use Rattle.dcsctp_delivery_sockets.proofs.turns.ReceiverRuns.{idle_becomes, receiver_becomes}

pub senders_begin : SendersBegin
senders_begin mine options first size keeps asks empties in_turn =
    anew_runs options first size [] (record { queue = empty_queue mine; transfer = None }) (record { from_zero = true; has_all = true; keeps = keeps; asks = asks; empties = empties; in_turn = in_turn }) tt (fresh_waits mine) tt
    (record { zero = λ is. fresh_at_zero mine; whole = λ is id. record { waits = λ place message at. absurd (cc); unpaused = tt }; all = λ id is. record { waits = λ place message at. absurd (cc); unpaused = tt } })

pub begins_anew : SendersBeginAgain
begins_anew options first size asks empties in_turn queued below fit queues none =
    anew_runs options first size queued below (record { from_zero = false; has_all = false; keeps = λ id. false; asks = asks; empties = empties; in_turn = in_turn }) fit queues (subst (directions.NoneInFlight first below.queue) (sym none) tt) (record { zero = λ is. absurd (cc); whole = λ is. absurd (cc); all = λ id is. absurd (cc) })

pub senders_go_on : SendersGoOn
senders_go_on options first size direction e input o run small same rules fits performed refuses drops opens told few may turn =
    go (accepted_resets e input) refl
  where
    go : (accepted : Option (List ℕ)) → accepted_resets e input ≡ accepted → SenderTurns options first size direction e input o
    go None is = sender_becomes options first size direction e input o run small same rules fits performed refuses drops opens told few is (turns_are_actions e input o may turn)
    go (Some ids) is = sender_prepares options first size direction e input o run small same rules fits performed refuses drops opens told few ids is (accepted_prepares e input o ids may turn is)

pub receivers_go_on : ReceiversGoOn
receivers_go_on is_known options first size direction transfer e input o run known was newest fits small may turn =
    receiver_becomes is_known options first size direction transfer e input o run known was newest fits small (turns_are_actions e input o may turn)

pub receivers_begin : ReceiversBegin
receivers_begin e input o nowhere fits small may turn = idle_becomes e input o small nowhere fits (turns_are_actions e input o may turn)

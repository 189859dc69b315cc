-- A call that takes a message is a turn.
use Rattle.std.proofs.Common.{◌≡◌, false, Ok, Option, None, Some, List, [], ◌∷◌, refl, sym, ap, subst, ◌∙◌}
use Rattle.std.proofs.lemmas.List.{append-nil}
use Rattle.dcsctp_core.specs.types.declared.message.Message.{Message}
use Rattle.dcsctp_core.specs.types.Schedule.{take_call}
use Rattle.dcsctp_core.specs.spec.endpoint.UserTurns.{UserTurns}
use Rattle.dcsctp_core.specs.types.queues.Messages.{MessageContent}
use Rattle.dcsctp_core.specs.spec.queues.Transfer.{Transfer}
use Rattle.dcsctp_core.specs.spec.endpoint.Endpoint.{Endpoint}
use Rattle.dcsctp_core.specs.spec.endpoint.Outcome.{Outcome, still}
use Rattle.dcsctp_core.specs.spec.endpoint.Turn.{user_takes}
use Rattle.dcsctp_core.specs.spec.endpoint.DataOutcomes.{TakesFirstReady, TakeLeft, TakeTurn}
use Rattle.dcsctp_core.specs.spec.endpoint.CallTurns.{transition}
use Rattle.dcsctp_core.specs.api.Calls.{UserView, Follows}
use Rattle.dcsctp_core.specs.api.Messages.{TakesNextMessage}
use Rattle.dcsctp_world.specs.declared.act.Reply.TheVariants.{Taken}
use Rattle.dcsctp_world.specs.Growth.{MakesUserCall, IsCallReply}

-- ---- it changes the endpoint alone

still_after : (e : Endpoint) (o : Outcome) → o ≡ still e → o ≡ still o.after
still_after e o is = is ∙ ap (λ (x : Outcome). still x.after) (sym is)

quiet_where : (e : Endpoint) (transfer : Transfer) (messages : List MessageContent) (o : Outcome) → TakesFirstReady e transfer messages o → o ≡ still o.after
quiet_where e transfer [] o turn = still_after e o turn
quiet_where e transfer (message ∷ messages) o turn = still_after _ o turn

quiet_left : (e : Endpoint) (messages : List MessageContent) (o : Outcome) → TakeLeft e messages o → o ≡ still o.after
quiet_left e [] o turn = still_after e o turn
quiet_left e (message ∷ messages) o turn = still_after _ o turn

quiet : (e : Endpoint) (found : Option Transfer) (o : Outcome) → TakeTurn e found o → o ≡ still o.after
quiet e None o turn = quiet_left e e.left o turn
quiet e (Some transfer) o turn = quiet_where e transfer transfer.reassembly.incoming.ready o turn

-- ---- the call

after_taking : UserView → Outcome → UserView
after_taking old o = record old { endpoint = o.after; words = []; pairs = [] }

take_follows : (old : UserView) (o : Outcome) → old.failed ≡ false → o ≡ still o.after → Follows old (transition user_takes o ∷ []) (after_taking old o)
unfolding after_taking
take_follows old o runs is =
    subst (λ (x : Outcome). Follows old (transition user_takes x ∷ []) (after_taking old x)) (sym is)
    (record { runs = runs; goes_on = runs; endpoint = refl; events = sym (append-nil old.events); words = refl; pairs = refl; drawn = refl })

pub take_called : (old new : UserView) (result : Option Message) → old.failed ≡ false → TakesNextMessage old result new
    → MakesUserCall (UserTurns old.endpoint take_call) (IsCallReply old.endpoint take_call) old (Ok (Taken result)) new
unfolding after_taking
take_called old new result runs h =
    record {
      answers = (h.first, tt);
      turns = transition user_takes h.outcome ∷ [];
      are = (record { is = refl; comes = h.turn }, tt);
      follows = subst (λ (view : UserView). Follows old (transition user_takes h.outcome ∷ []) view) (sym h.is)
          (take_follows old h.outcome runs (quiet old.endpoint old.endpoint.queues.transfer h.outcome h.turn));
    }

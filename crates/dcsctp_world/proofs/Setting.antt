-- A call that sets something is a turn.
use Rattle.std.proofs.Common.{◌≡◌, false, Ok, [], ◌∷◌, refl, sym, subst}
use Rattle.std.proofs.lemmas.List.{append-nil}
use Rattle.dcsctp_core.specs.types.Schedule.{set_call}
use Rattle.dcsctp_core.specs.spec.endpoint.UserTurns.{UserTurns}
use Rattle.dcsctp_core.specs.spec.endpoint.Turn.{user_sets}
use Rattle.dcsctp_core.specs.spec.endpoint.CallTurns.{transition}
use Rattle.dcsctp_core.specs.types.Setting.{Setting}
use Rattle.dcsctp_core.specs.spec.endpoint.SettingOutcomes.{setting_outcome}
use Rattle.dcsctp_core.specs.api.Calls.{UserView, with_setting}
use Rattle.dcsctp_world.specs.declared.act.Reply.TheVariants.{Done}
use Rattle.dcsctp_world.specs.Growth.{MakesUserCall, IsCallReply}

set_is_called : (setting : Setting) (old : UserView) → old.failed ≡ false
    → MakesUserCall (UserTurns old.endpoint (set_call setting)) (IsCallReply old.endpoint (set_call setting)) old (Ok Done) (with_setting setting old)
set_is_called setting old runs =
    record {
      answers = (refl, tt);
      turns = transition (user_sets setting) (setting_outcome old.endpoint setting) ∷ [];
      are = (record { is = refl; comes = refl }, tt);
      follows = record {
        runs = runs;
        goes_on = runs;
        endpoint = refl;
        events = sym (append-nil old.events);
        words = refl;
        pairs = refl;
        drawn = refl;
      };
    }

pub setting_called : (setting : Setting) (old new : UserView) → old.failed ≡ false → new ≡ with_setting setting old
    → MakesUserCall (UserTurns old.endpoint (set_call setting)) (IsCallReply old.endpoint (set_call setting)) old (Ok Done) new
setting_called setting old new runs is =
    subst (λ (view : UserView). MakesUserCall (UserTurns old.endpoint (set_call setting)) (IsCallReply old.endpoint (set_call setting)) old (Ok Done) view) (sym is)
    (set_is_called setting old runs)

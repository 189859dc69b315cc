-- Both sides at the end of a run that has connected them.
use Rattle.std.proofs.Common.{◌≡◌, ℕ, suc, List}
use Rattle.dcsctp_spec_lemmas.specs.types.declared.association.Pair.{Pair}
use Rattle.dcsctp_spec_lemmas.specs.types.declared.options.Options.{Options}
use Rattle.dcsctp_spec_lemmas.specs.types.declared.schedule.Side.{Side}
use Rattle.dcsctp_spec_runs.specs.Sockets.{PerformedAct, Both}
use Rattle.dcsctp_theorem_progress.specs.LostInits.{AreLinked}
use Rattle.dcsctp_theorem_progress.proofs.Views.{View, AtOf}

-- At the end of the run both are linked, and have told OnConnected that often.
pub record JoinedBy (side : Side) (options : Both Options) (run : List PerformedAct) (v w : View) (m n : ℕ) : Type 0 where
  pub here : View
  pub there : View
  pub at : AtOf side options run here there
  pub p : Pair
  pub q : Pair
  pub linked : AreLinked here.endpoint there.endpoint v.endpoint.options w.endpoint.options p q
  pub told_here : here.told ≡ m
  pub told_there : there.told ≡ n

-- each once since
abbrev pub Joined : Side → Both Options → List PerformedAct → View → View → Type 0
Joined side options run v w = JoinedBy side options run v w (suc v.told) (suc w.told)

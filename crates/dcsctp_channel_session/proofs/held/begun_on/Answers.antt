use Rattle.std.proofs.Common.{◌∙◌, refl, sym}
use Rattle.dcsctp_channel_session.proofs.held.begun_on.Goals as goal

pub returns-in-None : goal.returns-in-None
returns-in-None c = rw (sym c.begin_refused.ensures ∙ c.in-None.is) (refl, c.over.result, c.over.ensures, refl)

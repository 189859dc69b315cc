use Rattle.std.proofs.Common.{refl}
use Rattle.dcsctp_core.proofs.state.State.tcb_mut.Goals as goal

pub returns-in-CookieEchoed : goal.returns-in-CookieEchoed
returns-in-CookieEchoed c = rw c.in-CookieEchoed.is (refl, record { writes_back = tt; tcb = refl })

pub returns-in-Open : goal.returns-in-Open
returns-in-Open c = rw c.in-Open.is (refl, record { writes_back = tt; tcb = refl })

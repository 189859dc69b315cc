-- Timers that always run.
use Rattle.std.specs.Prelude.{Option, None, Some}
use Rattle.dcsctp_spec_lemmas.specs.spec.endpoint.Endpoint.{Core, closed, cookie_wait, cookie_echoed, open_in}
use Rattle.dcsctp_spec_lemmas.specs.spec.endpoint.Timers.{RunningTimer}

abbrev pub IsRunning : Option RunningTimer → Type 0
IsRunning None = ⊥
IsRunning (Some timer) = Unit {0}

-- T1 runs if its packet isn't answered yet (RFC 9260, section 5.1).
abbrev pub T1Runs : Core → Option RunningTimer → Type 0
T1Runs closed t1 = Unit {0}
T1Runs (cookie_wait mine) t1 = IsRunning t1
T1Runs (cookie_echoed mine held cookie) t1 = IsRunning t1
T1Runs (open_in phase mine held) t1 = Unit {0}

-- Moments in a snapshot: milliseconds from the moment at which it is made.
use Rattle.std.specs.Prelude.{ℕ, ℤ, pos, negsuc, ◌+◌, ◌-◌, ◌*◌, ◌/◌, ◌^◌, min, nat_lt, if◌then◌else◌}
use Rattle.std.specs.Duration.{max_nanos}

-- a millisecond in nanoseconds
abbrev pub millisecond : ℕ
millisecond = 1000000

-- How far the moment is after now, rounded down. For a moment that is over it is negative, with the distance rounded up, so that
-- it stays over. Both stop at the least and the greatest number of 32 bits with a sign.
abbrev pub millis_ahead : ℕ → ℕ → ℤ
millis_ahead now moment =
    if nat_lt moment now then negsuc (min ((now - moment - 1) / millisecond) (2 ^ 31 - 1))
    else pos (min ((moment - now) / millisecond) (2 ^ 31 - 1))

-- the moment that far after now, or before it if that is negative: not before moment zero, and not after the last one
abbrev pub moment_ahead : ℕ → ℤ → ℕ
moment_ahead now (pos ahead) = min (now + ahead * millisecond) max_nanos
moment_ahead now (negsuc behind) = now - (behind + 1) * millisecond

-- how long ago the moment was, in milliseconds, rounded down
abbrev pub millis_since : ℕ → ℕ → ℤ
millis_since now moment = pos (min ((now - moment) / millisecond) (2 ^ 31 - 1))

-- the moment so many milliseconds ago; a time ahead counts as now
abbrev pub moment_before : ℕ → ℤ → ℕ
moment_before now (pos ago) = now - ago * millisecond
moment_before now (negsuc ahead) = now

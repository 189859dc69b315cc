-- Running numbers that wrap, numbered without wrap: the nearest to a reference (RFC 9260, section 1.6), or the first from it on. They
-- stop at 2^64 - 1.
use Rattle.std.specs.Prelude.{ℕ, ◌+◌, ◌-◌, ◌*◌, ◌%◌, ◌^◌, min, nat_lt, Bool, ◌&&◌, if◌then◌else◌}

-- how far ahead of the reference a number of that many values is, modulo that
abbrev pub ahead_of : ℕ → ℕ → ℕ → ℕ
ahead_of values reference number = (number + (values - reference % values)) % values

-- the number that agrees with this modulo that many values, nearest to the reference; half of them is ahead of it
abbrev pub nearest : ℕ → ℕ → ℕ → ℕ → ℕ
nearest values half reference number =
    if nat_lt (ahead_of values reference number) half
    then min (reference + ahead_of values reference number) (2 ^ 64 - 1)
    else reference - (values - ahead_of values reference number)

-- of a TSN or a message identifier
abbrev pub number_near : ℕ → ℕ → ℕ
number_near reference number = nearest (2 ^ 32) (2 ^ 31) reference number

-- of a stream sequence number up to which messages are skipped. It may name again what was skipped before, so one half of the
-- numbers is before the reference.
abbrev pub short_number_near : ℕ → ℕ → ℕ
short_number_near reference number = nearest (2 ^ 16) (2 ^ 15) reference number

-- the first number from the reference on that agrees with this modulo that many values
abbrev pub first_from : ℕ → ℕ → ℕ → ℕ
first_from values reference number = min (reference + ahead_of values reference number) (2 ^ 64 - 1)

-- Of the stream sequence number of data whose TSN is new. None is before the reference. TSNs are accepted up to 65,535 ahead, so
-- a sender may be ahead by nearly the whole range.
abbrev pub short_number_from : ℕ → ℕ → ℕ
short_number_from reference number = first_from (2 ^ 16) reference number

-- Is the TSN beyond the other one?
abbrev pub is_tsn_beyond : ℕ → ℕ → Bool
is_tsn_beyond tsn other = nat_lt 0 (ahead_of (2 ^ 32) other tsn) && nat_lt (ahead_of (2 ^ 32) other tsn) (2 ^ 31)

-- The place of a part among those of its stream: by the number of its message, and then by the number of its TSN (DATA) or its
-- fragment number (I-DATA). So the parts of the messages up to a number come before all others.
abbrev pub fragment_place : ℕ → ℕ → ℕ
fragment_place number offset = number * 2 ^ 64 + offset

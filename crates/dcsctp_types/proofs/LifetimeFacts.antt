-- Outside examples of specs/Lifetimes.
use Rattle.std.proofs.Common.{◌≡◌, pos, negsuc, ◌-◌, ◌*◌, ◌^◌, refl}
use Rattle.dcsctp_types.specs.Lifetimes.{millis_ahead, moment_ahead, millis_since, moment_before}

now_is_not_over : millis_ahead 5 5 ≡ pos 0
now_is_not_over = refl

rounded_down : millis_ahead 1 2000000 ≡ pos 1
rounded_down = refl

just_over : millis_ahead 5 4 ≡ negsuc 0
just_over = refl

over_by_a_millisecond : millis_ahead 1000000 0 ≡ negsuc 0
over_by_a_millisecond = refl

over_by_more : millis_ahead 1000001 0 ≡ negsuc 1
over_by_more = refl

at_most_32_bits : millis_ahead 0 (2 ^ 31 * 1000000) ≡ pos (2 ^ 31 - 1)
at_most_32_bits = refl

two_ahead : moment_ahead 7 (pos 2) ≡ 2000007
two_ahead = refl

two_behind : moment_ahead 3000000 (negsuc 1) ≡ 1000000
two_behind = refl

not_before_zero : moment_ahead 5 (negsuc 0) ≡ 0
not_before_zero = refl

now_is_none_ago : millis_since 5 5 ≡ pos 0
now_is_none_ago = refl

ago_is_rounded_down : millis_since 2999999 1000000 ≡ pos 1
ago_is_rounded_down = refl

ahead_is_not_ago : millis_since 5 7000000 ≡ pos 0
ahead_is_not_ago = refl

two_before : moment_before 3000000 (pos 2) ≡ 1000000
two_before = refl

none_before_zero : moment_before 5 (pos 1) ≡ 0
none_before_zero = refl

ahead_is_now : moment_before 5 (negsuc 6) ≡ 5
ahead_is_now = refl

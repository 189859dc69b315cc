-- The texts of error causes (RFC 9260, section 3.3.10), as the user sees them.
use Rattle.std.specs.Prelude.{◌==◌, ℕ, ◌||◌, List, [], ◌++◌, map, codes, nat_lt, if◌then◌else◌}
use Rattle.std.specs.List.{join_by}
use Rattle.std.specs.Fmt.{decimal}
use Rattle.dcsctp_wire.specs.Numbers.{user_initiated_abort_code, protocol_violation_code}
use Rattle.dcsctp_wire.specs.Content.{CauseContent}
use Rattle.dcsctp_wire.specs.Spelling.{cause_code, cause_value}

-- `.`
abbrev pub dot : ℕ
dot = 46

-- How a byte is shown: as a dot if it is outside 32 to 126, where ASCII has no printable character.
abbrev pub shown_byte : ℕ → ℕ
shown_byte byte = if nat_lt byte 32 || nat_lt 126 byte then dot else byte

-- The value of a User-Initiated Abort or a Protocol Violation is shown (RFC 9260, sections 3.3.10.12 and
-- 3.3.10.13), and that of any other cause isn't.
abbrev pub value_text : ℕ → List ℕ → List ℕ
value_text code value =
    if code == user_initiated_abort_code || code == protocol_violation_code then codes ": " ++ map shown_byte value else []

-- the code in decimal, and what is shown of the value
abbrev pub code_and_value_text : ℕ → List ℕ → List ℕ
code_and_value_text code value = codes "cause " ++ decimal code ++ value_text code value

abbrev pub cause_text : CauseContent → List ℕ
cause_text cause = code_and_value_text (cause_code cause) (cause_value cause)

-- the texts of causes, joined by commas
abbrev pub causes_text : List CauseContent → List ℕ
causes_text causes = join_by cause_text (codes ",") causes

-- What a user sends on a channel, as a message of SCTP (RFC 8831, sections 6.6 and 8).
use Rattle.std.specs.Prelude.{◌≡◌, ◌==◌, ℕ, Bool, true, false, List, [], ◌∷◌, Option, Some, None, if◌then◌else◌}

pub record ChannelContent : Type 0 where
  pub is_text : Bool
  pub bytes : List ℕ

-- ---- payload protocol identifiers

-- OPEN and ACK
abbrev pub control_ppid : ℕ
control_ppid = 50

abbrev pub text_ppid : ℕ
text_ppid = 51

abbrev pub binary_ppid : ℕ
binary_ppid = 53

abbrev pub empty_text_ppid : ℕ
empty_text_ppid = 56

abbrev pub empty_binary_ppid : ℕ
empty_binary_ppid = 57

-- ---- sent and read

abbrev pub ppid_for : Bool → List ℕ → ℕ
ppid_for true [] = empty_text_ppid
ppid_for false [] = empty_binary_ppid
ppid_for true (byte ∷ bytes) = text_ppid
ppid_for false (byte ∷ bytes) = binary_ppid

abbrev pub content_ppid : ChannelContent → ℕ
content_ppid content = ppid_for content.is_text content.bytes

-- SCTP has no empty messages: the user's is one byte, which the receiver ignores
abbrev pub payload_for : List ℕ → List ℕ
payload_for [] = 0 ∷ []
payload_for (byte ∷ bytes) = byte ∷ bytes

abbrev pub payload_of : ChannelContent → List ℕ
payload_of content = payload_for content.bytes

-- what a message is to the user; none where the identifier is neither of the four
abbrev pub content_from : ℕ → List ℕ → Option ChannelContent
content_from ppid payload =
    if ppid == text_ppid then Some (record { is_text = true; bytes = payload })
    else (if ppid == binary_ppid then Some (record { is_text = false; bytes = payload })
    else (if ppid == empty_text_ppid then Some (record { is_text = true; bytes = [] })
    else (if ppid == empty_binary_ppid then Some (record { is_text = false; bytes = [] })
    else None)))

-- ---- laws

-- What is sent is read as it was.
abbrev pub ContentsReadBack : Type 0
ContentsReadBack = (content : ChannelContent) → content_from (content_ppid content) (payload_of content) ≡ Some content

-- What is read was sent so, or it is empty, or it was sent without a byte, which no socket sends.
abbrev pub OnlyContentsAreRead : Type 0
OnlyContentsAreRead =
    (ppid byte : ℕ) (bytes : List ℕ) (content : ChannelContent) → content_from ppid (byte ∷ bytes) ≡ Some content → content_ppid content ≡ ppid

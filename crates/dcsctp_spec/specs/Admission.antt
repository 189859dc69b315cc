-- Which packets are handled, by their verification tag (RFC 9260, sections 8.4, 8.5 and 8.5.1).
use Rattle.std.specs.Prelude.{◌==◌, ℕ, ◌-◌, ◌^◌, Bool, true, false, not, ◌&&◌, Option, None, Some, List, [], ◌∷◌, ◌++◌, codes}
use Rattle.std.specs.Fmt.{digits, padded_integral, format_spec}
use Rattle.dcsctp_spec.specs.endpoint.Endpoint.{Core, closed, cookie_wait, cookie_echoed, open_in, own_tag}
use Rattle.dcsctp_spec.specs.Packet.{Content, init, init_ack, cookie_echo, cookie_ack, re_config, abort, shutdown, shutdown_ack, shutdown_complete, plain, Packet}

pub data Admission : Type 0 where
  -- all chunks are handled
  all_chunks : Admission
  -- only its SHUTDOWN ACK chunks are handled
  shutdown_acks_alone : Admission
  -- none is, and this is the text of the error
  refused : List ℕ → Admission

-- ---- what a packet has

-- the T bit of the first ABORT
abbrev pub first_abort : List Content → Option Bool
first_abort [] = None
first_abort (abort reflected causes ∷ contents) = Some reflected
first_abort (content ∷ contents) = first_abort contents

-- the T bit of the first SHUTDOWN COMPLETE
abbrev pub first_shutdown_complete : List Content → Option Bool
first_shutdown_complete [] = None
first_shutdown_complete (shutdown_complete reflected ∷ contents) = Some reflected
first_shutdown_complete (content ∷ contents) = first_shutdown_complete contents

abbrev pub has_shutdown_ack : List Content → Bool
has_shutdown_ack [] = false
has_shutdown_ack (shutdown_ack ∷ contents) = true
has_shutdown_ack (content ∷ contents) = has_shutdown_ack contents

-- its SHUTDOWN ACK chunks
abbrev pub shutdown_acks_of : List Content → List Content
shutdown_acks_of [] = []
shutdown_acks_of (shutdown_ack ∷ contents) = shutdown_ack ∷ shutdown_acks_of contents
shutdown_acks_of (content ∷ contents) = shutdown_acks_of contents

-- is the first chunk a COOKIE ECHO?
abbrev pub is_echo_in_front : List Content → Bool
is_echo_in_front [] = false
is_echo_in_front (cookie_echo cookie ∷ contents) = true
is_echo_in_front (content ∷ contents) = false

abbrev pub is_init : Content → Bool
is_init (init introduction) = true
is_init (init_ack introduction cookie) = false
is_init (cookie_echo cookie) = false
is_init cookie_ack = false
is_init (re_config parameters) = false
is_init (abort reflected causes) = false
is_init (shutdown cumulative_tsn) = false
is_init shutdown_ack = false
is_init (shutdown_complete reflected) = false
is_init (plain chunk) = false

-- is it one chunk, an INIT?
abbrev pub is_single_init : List Content → Bool
is_single_init [] = false
is_single_init (content ∷ []) = is_init content
is_single_init (content ∷ next ∷ contents) = false

-- ---- which tag its header carries

abbrev pub is_own_tag : Core → ℕ → Bool
is_own_tag core header = header == own_tag core

-- Is the peer known, and is it its tag?
abbrev pub is_peer_tag : Core → ℕ → Bool
is_peer_tag closed header = false
is_peer_tag (cookie_wait my) header = false
is_peer_tag (cookie_echoed my held cookie) header = header == held.peer.tag
is_peer_tag (open_in phase my held) header = header == held.peer.tag

-- With the T bit a chunk comes back under the tag of the packet that it answers (RFC 9260, section 8.5.1, B
-- and C).
abbrev pub bears_tag : Core → ℕ → Bool → Bool
bears_tag core header false = is_own_tag core header
bears_tag core header true = is_peer_tag core header

-- its own tag, and not the 0 of Closed
abbrev pub is_own_nonzero_tag : Core → ℕ → Bool
is_own_nonzero_tag core header = is_own_tag core header && not (header == 0)

-- ---- texts

abbrev pub abort_text : List ℕ
abort_text = codes "ABORT chunk verification tag was wrong"

abbrev pub shutdown_complete_text : List ℕ
shutdown_complete_text = codes "SHUTDOWN_COMPLETE chunk verification tag was wrong"

abbrev pub shutdown_ack_text : List ℕ
shutdown_ack_text = codes "SHUTDOWN_ACK chunk verification tag was wrong"

abbrev pub single_init_text : List ℕ
single_init_text = codes "Only a single INIT chunk can be present in packets sent on verification_tag = 0"

-- a number as `{:08x}` writes it: eight digits in lower case
abbrev pub eight_hex_digits : ℕ → List ℕ
eight_hex_digits n = padded_integral (format_spec 32 0 4 8 (2 ^ 64 - 1)) false [] (digits 16 false n)

abbrev pub wrong_tag_text : ℕ → ℕ → List ℕ
wrong_tag_text header expected = codes "Packet has invalid verification tag: " ++ eight_hex_digits header ++ codes ", expected " ++ eight_hex_digits expected

-- ---- the table

-- all chunks if the test holds, else none, for this reason
abbrev pub all_chunks_or_none : Bool → List ℕ → Admission
all_chunks_or_none true text = all_chunks
all_chunks_or_none false text = refused text

-- all chunks if the test holds, else the SHUTDOWN ACK chunks
abbrev pub all_chunks_or_acks : Bool → Admission
all_chunks_or_acks true = all_chunks
all_chunks_or_acks false = shutdown_acks_alone

-- Before the association is open a SHUTDOWN ACK is handled under any tag, as it may belong to an earlier one. Under another tag
-- than its own, nothing else of its packet is handled (RFC 9260, sections 8.4 and 8.5.1, E).
abbrev pub admits_shutdown_ack : Core → ℕ → Admission
admits_shutdown_ack closed header = all_chunks_or_acks (is_own_nonzero_tag closed header)
admits_shutdown_ack (cookie_wait my) header = all_chunks_or_acks (is_own_nonzero_tag (cookie_wait my) header)
admits_shutdown_ack (cookie_echoed my held cookie) header = all_chunks_or_acks (is_own_nonzero_tag (cookie_echoed my held cookie) header)
admits_shutdown_ack (open_in phase my held) header = all_chunks_or_none (is_own_tag (open_in phase my held) header) shutdown_ack_text

-- The table, by five answers: the T bit of the first ABORT, and that of the first SHUTDOWN COMPLETE. Is there a SHUTDOWN ACK, is
-- a COOKIE ECHO in front, and is the tag 0?
abbrev pub admission_by_answers : Core → Packet → Option Bool → Option Bool → Bool → Bool → Bool → Admission
-- ABORT (RFC 9260, section 8.5.1, B)
admission_by_answers core packet (Some reflected) completes acks echo zero = all_chunks_or_none (bears_tag core packet.tag reflected) abort_text
-- SHUTDOWN COMPLETE (RFC 9260, section 8.5.1, C)
admission_by_answers core packet None (Some reflected) acks echo zero = all_chunks_or_none (bears_tag core packet.tag reflected) shutdown_complete_text
-- SHUTDOWN ACK (RFC 9260, section 8.5.1, E)
admission_by_answers core packet None None true echo zero = admits_shutdown_ack core packet.tag
-- COOKIE ECHO in front (RFC 9260, section 8.5.1, D): the turn of the chunk looks at the tag
admission_by_answers core packet None None false true zero = all_chunks
-- tag 0 (RFC 9260, section 8.5.1, A)
admission_by_answers core packet None None false false true = all_chunks_or_none (is_single_init packet.contents) single_init_text
-- all else (RFC 9260, section 8.5)
admission_by_answers core packet None None false false false = all_chunks_or_none (is_own_tag core packet.tag) (wrong_tag_text packet.tag (own_tag core))

-- The first line that applies decides.
abbrev pub admits : Core → Packet → Admission
admits core packet =
    admission_by_answers core packet
    (first_abort packet.contents)
    (first_shutdown_complete packet.contents)
    (has_shutdown_ack packet.contents)
    (is_echo_in_front packet.contents)
    (packet.tag == 0)

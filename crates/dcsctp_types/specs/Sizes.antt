-- The sizes of the parts of a packet, in bytes.
use Rattle.std.specs.Prelude.{ℕ, ◌+◌}

-- the common header of a packet: ports, verification tag and checksum (RFC 9260, section 3.1)
abbrev pub common_header_size : ℕ
common_header_size = 12

-- the header of a chunk: type, flags and length (RFC 9260, section 3.2)
abbrev pub chunk_header_size : ℕ
chunk_header_size = 4

-- the header of a parameter or of an error cause: its number and its length (RFC 9260, sections 3.2.1 and 3.3.10)
abbrev pub parameter_header_size : ℕ
parameter_header_size = 4

-- a field of 32 bits, such as a TSN
abbrev pub word_size : ℕ
word_size = 4

-- what precedes the payload in a DATA chunk: header, TSN, stream, its number, protocol (RFC 9260, section 3.3.1)
abbrev pub data_header_size : ℕ
data_header_size = 16

-- the same in an I-DATA chunk, which has a longer number (RFC 8260, section 2.1)
abbrev pub i_data_header_size : ℕ
i_data_header_size = 20

-- The length of a chunk has 16 bits (RFC 9260, section 3.2). So no chunk is longer than this, and no packet is made longer.
abbrev pub greatest_length : ℕ
greatest_length = 65535

-- the greatest of these sizes that is a multiple of 4, so that it needs no padding
abbrev pub greatest_padded_length : ℕ
greatest_padded_length = 65532

-- Outside examples, computed by the definitions: a wrong rule in specs/ would not check here.
use Rattle.std.proofs.Common.{◌≡◌, ℕ, true, false, List, [], ◌∷◌, refl, Ok, Err}
use Rattle.std.specs.Prelude.{replicate}
use Rattle.dcsctp_types.specs.wire.Fields.{u32_at}
use Rattle.dcsctp_spec.specs.Cookie.{Cookie, cookie_magic, cookie_bytes, cookie_of_bytes, size_text, magic_text}
use Rattle.dcsctp_spec.specs.endpoint.BegunResets.{request_size}
use Rattle.dcsctp_spec.specs.endpoint.PlainOutcomes.{reported_offset}
use Rattle.dcsctp_spec.specs.queues.Skipping.{entries_offset}

-- a cookie whose fields all differ
every_field : Cookie
every_field =
    record {
      maker = record { tag = 321; first_tsn = 654 };
      addressee = record { tag = 123; first_tsn = 456 };
      offer = record { partial_reliability = true; message_interleaving = false; reconfig = true; zero_checksum_method = 1; inbound_streams = 234; outbound_streams = 123 };
      window = 789;
      tie = 1020304050;
      moment = 1000000000;
    }

every_field_bytes : List ℕ
every_field_bytes =
    0x64 ∷ 0x63 ∷ 0x53 ∷ 0x43 ∷ 0x54 ∷ 0x50 ∷ 0x72 ∷ 0x30 ∷ 0 ∷ 0 ∷ 0 ∷ 0x7b ∷ 0 ∷ 0 ∷ 1 ∷ 0x41 ∷ 0 ∷ 0 ∷ 1 ∷ 0xc8 ∷ 0 ∷ 0 ∷ 2 ∷ 0x8e
    ∷ 0 ∷ 0 ∷ 3 ∷ 0x15 ∷ 0 ∷ 0 ∷ 0 ∷ 0 ∷ 0x3c ∷ 0xd0 ∷ 0x9a ∷ 0xb2 ∷ 1 ∷ 0 ∷ 1 ∷ 0 ∷ 0 ∷ 0 ∷ 0 ∷ 1 ∷ 0 ∷ 0x7b ∷ 0 ∷ 0xea ∷ 0 ∷ 0 ∷ 0 ∷ 0 ∷ 0x3b ∷ 0x9a ∷ 0xca ∷ 0 ∷ []

every_field_is_spelled : cookie_bytes every_field ≡ every_field_bytes
unfolding cookie_bytes every_field every_field_bytes
every_field_is_spelled = refl

every_field_is_read : cookie_of_bytes every_field_bytes ≡ Ok every_field
unfolding cookie_of_bytes every_field every_field_bytes
every_field_is_read = refl

-- the cookie of two sockets with default options: tags 7 and 9, first TSNs 100 and 200
default_cookie : Cookie
default_cookie =
    record {
      maker = record { tag = 9; first_tsn = 200 };
      addressee = record { tag = 7; first_tsn = 100 };
      offer = record { partial_reliability = true; message_interleaving = false; reconfig = true; zero_checksum_method = 0; inbound_streams = 65535; outbound_streams = 65535 };
      window = 5242880;
      tie = 0;
      moment = 0;
    }

default_cookie_is_spelled : cookie_bytes default_cookie
    ≡ 0x64 ∷ 0x63 ∷ 0x53 ∷ 0x43 ∷ 0x54 ∷ 0x50 ∷ 0x72 ∷ 0x30 ∷ 0 ∷ 0 ∷ 0 ∷ 7 ∷ 0 ∷ 0 ∷ 0 ∷ 9 ∷ 0 ∷ 0 ∷ 0 ∷ 0x64 ∷ 0 ∷ 0 ∷ 0 ∷ 0xc8
    ∷ 0 ∷ 0x50 ∷ 0 ∷ 0 ∷ 0 ∷ 0 ∷ 0 ∷ 0 ∷ 0 ∷ 0 ∷ 0 ∷ 0 ∷ 1 ∷ 0 ∷ 1 ∷ 0 ∷ 0 ∷ 0 ∷ 0 ∷ 0 ∷ 0xff ∷ 0xff ∷ 0xff ∷ 0xff ∷ 0 ∷ 0 ∷ 0 ∷ 0 ∷ 0 ∷ 0 ∷ 0 ∷ 0 ∷ []
unfolding cookie_bytes default_cookie
default_cookie_is_spelled = refl

-- 56 bytes of 0 have the size and no magic.
zeros_have_no_magic : cookie_of_bytes (replicate 56 0) ≡ Err magic_text
unfolding cookie_of_bytes
zeros_have_no_magic = refl

one_byte_short : cookie_of_bytes (replicate 55 0) ≡ Err size_text
unfolding cookie_of_bytes
one_byte_short = refl

one_byte_too_many : cookie_of_bytes (replicate 57 0) ≡ Err size_text
unfolding cookie_of_bytes
one_byte_too_many = refl

-- the magic as two numbers
magic_begins : u32_at 0 cookie_magic ≡ 0x64635343
magic_begins = refl

magic_ends : u32_at 4 cookie_magic ≡ 0x54507230
magic_ends = refl

-- ---- sizes (RFC 3758, section 3.2; RFC 6525, section 4.1; RFC 9260, section 3.3.10)

forward_tsn_begins : entries_offset ≡ 20
forward_tsn_begins = refl

reset_request_begins : request_size ≡ 20
reset_request_begins = refl

reported_chunk_begins : reported_offset ≡ 20
reported_chunk_begins = refl

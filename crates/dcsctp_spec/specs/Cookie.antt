-- The state cookie: what its maker needs again when the COOKIE ECHO comes (RFC 9260, section 5.1.3).
use Rattle.std.specs.Prelude.{◌==◌, ℕ, ◌-◌, ◌^◌, min, nat_le, Bool, true, false, not, ◌&&◌, ◌||◌, List, [], ◌∷◌, ◌++◌, length, take, drop, Result, Ok, Err, slice_index, codes, if◌then◌else◌}
use Rattle.std.specs.Int.{w16, w32, w64, to_be_bytes, from_be_bytes}
use Rattle.dcsctp_types.specs.wire.Fields.{u16_at, u32_at}
use Rattle.dcsctp_types.specs.declared.association.Pair.{Pair}
use Rattle.dcsctp_types.specs.Offer.{Offer}

pub record Cookie : Type 0 where
  -- the pair that the maker announces in the INIT ACK around the cookie
  pub maker : Pair
  -- the pair, the offer and the receive window of the INIT that it answers
  pub addressee : Pair
  pub offer : Offer
  pub window : ℕ
  -- the tie tag of the association that was open, or what is borne if none was (RFC 9260, section 5.2.2)
  pub tie : ℕ
  -- when it was made, on its maker's clock
  pub moment : ℕ

-- its first bytes
abbrev pub cookie_magic : List ℕ
cookie_magic = codes "dcSCTPr0"

-- all its bytes
abbrev pub cookie_size : ℕ
cookie_size = 56

abbrev pub flag_byte : Bool → ℕ
flag_byte true = 1
flag_byte false = 0

-- The 56 bytes of a cookie. The outbound streams of the INIT's sender are incoming ones here, its inbound streams outgoing ones.
unfoldable pub cookie_bytes : Cookie → List ℕ
cookie_bytes cookie =
    cookie_magic
    ++ to_be_bytes w32 cookie.addressee.tag
    ++ to_be_bytes w32 cookie.maker.tag
    ++ to_be_bytes w32 cookie.addressee.first_tsn
    ++ to_be_bytes w32 cookie.maker.first_tsn
    ++ to_be_bytes w32 cookie.window
    ++ to_be_bytes w64 cookie.tie
    ++ flag_byte cookie.offer.partial_reliability ∷ flag_byte cookie.offer.message_interleaving ∷ flag_byte cookie.offer.reconfig ∷ 0 ∷ []
    ++ to_be_bytes w32 cookie.offer.zero_checksum_method
    ++ to_be_bytes w16 cookie.offer.outbound_streams
    ++ to_be_bytes w16 cookie.offer.inbound_streams
    ++ to_be_bytes w64 cookie.moment

-- ---- reading

abbrev pub u64_at : ℕ → List ℕ → ℕ
u64_at at bytes = from_be_bytes w64 (take 8 (drop at bytes))

-- Any byte but 0 reads as true.
abbrev pub cookie_flag : ℕ → List ℕ → Bool
cookie_flag at bytes = not (slice_index bytes at == 0)

abbrev pub size_text : List ℕ
size_text = codes "Invalid state cookie size"

abbrev pub magic_text : List ℕ
magic_text = codes "Invalid state cookie magic"

abbrev pub tag_text : List ℕ
tag_text = codes "Invalid verification tag in state cookie"

-- the fields of 56 bytes; byte 39 is not looked at
abbrev pub cookie_fields : List ℕ → Cookie
cookie_fields bytes =
    record {
      maker = record { tag = u32_at 12 bytes; first_tsn = u32_at 20 bytes };
      addressee = record { tag = u32_at 8 bytes; first_tsn = u32_at 16 bytes };
      offer = record {
        partial_reliability = cookie_flag 36 bytes;
        message_interleaving = cookie_flag 37 bytes;
        reconfig = cookie_flag 38 bytes;
        zero_checksum_method = u32_at 40 bytes;
        inbound_streams = u16_at 46 bytes;
        outbound_streams = u16_at 44 bytes;
      };
      window = u32_at 24 bytes;
      tie = u64_at 28 bytes;
      moment = u64_at 48 bytes;
    }

abbrev pub has_magic : List ℕ → Bool
has_magic bytes = u32_at 0 bytes == u32_at 0 cookie_magic && u32_at 4 bytes == u32_at 4 cookie_magic

abbrev pub has_zero_tag : List ℕ → Bool
has_zero_tag bytes = u32_at 8 bytes == 0 || u32_at 12 bytes == 0

-- The cookie that the bytes spell, or why they spell none: the size, the magic, the tags, in this order.
unfoldable pub cookie_of_bytes : List ℕ → Result Cookie (List ℕ)
cookie_of_bytes bytes =
    if not (length bytes == cookie_size) then Err size_text
    else (if not (has_magic bytes) then Err magic_text
    else (if has_zero_tag bytes then Err tag_text
    else Ok (cookie_fields bytes)))

-- ---- age

-- A moment as a cookie has it: nanoseconds, at most the greatest number of 64 bits.
abbrev pub cookie_moment : ℕ → ℕ
cookie_moment moment = min moment (2 ^ 64 - 1)

-- how old it is at this moment of its maker's clock; 0 if it is of a later one
abbrev pub age : ℕ → Cookie → ℕ
age now cookie = cookie_moment now - cookie.moment

-- It is stale if it is older than this (RFC 9260, section 5.1.5).
abbrev pub is_stale : ℕ → ℕ → Cookie → Bool
is_stale lifetime now cookie = not (nat_le (age now cookie) lifetime)

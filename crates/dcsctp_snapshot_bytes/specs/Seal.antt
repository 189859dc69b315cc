-- The seal of a snapshot: the options that must be the same where an association continues, and a check
-- value of all before it.
use Rattle.std.specs.Prelude.{◌≡◌, ◌≢◌, ℕ, List, ◌++◌, length}
use Rattle.std.specs.Int.{w16, w32}
use Rattle.dcsctp_wire_checksum.specs.Crc32c.{crc32c_of}
use Rattle.dcsctp_types.specs.declared.options.Options.{Options}
use Rattle.dcsctp_snapshot_bytes.specs.declared.sealing.SealError.{SealError}
use Rattle.dcsctp_snapshot_bytes.specs.declared.sealing.SealError.TheVariants as errors
use Rattle.dcsctp_snapshot_bytes.specs.Fields.{number_bytes, flag_bytes}

-- ---- written

-- the options that must be the same
unfoldable pub fingerprint : Options → List ℕ
fingerprint options =
    number_bytes w16 options.local_port  -- 2
    ++ number_bytes w16 options.remote_port  -- 2
    ++ number_bytes w16 options.announced_maximum_incoming_streams  -- 2
    ++ number_bytes w16 options.announced_maximum_outgoing_streams  -- 2
    ++ flag_bytes options.enable_partial_reliability  -- 1
    ++ flag_bytes options.enable_message_interleaving  -- 1
    ++ number_bytes w32 options.zero_checksum_alternate_error_detection_method.0  -- 4

abbrev pub fingerprint_len : ℕ
fingerprint_len = 14

-- bytes, and their check value
unfoldable pub bytes_with_check : List ℕ → List ℕ
bytes_with_check bytes =
    bytes
    ++ number_bytes w32 (crc32c_of bytes)  -- 4

-- a snapshot's bytes with their seal
abbrev pub sealed_snapshot : Options → List ℕ → List ℕ
sealed_snapshot options body = bytes_with_check (body ++ fingerprint options)

-- ---- read

-- The bytes don't end with a fingerprint and the check value of all before it.
abbrev pub IsBroken : List ℕ → Type 0
IsBroken bytes = (body mark : List ℕ) → length mark ≡ fingerprint_len → bytes ≢ bytes_with_check (body ++ mark)

-- The seal is whole, and its fingerprint isn't that of these options.
pub record IsOfOthers (options : Options) (bytes : List ℕ) : Type 0 where
  pub body : List ℕ
  pub mark : List ℕ
  pub len : length mark ≡ fingerprint_len
  pub whole : bytes ≡ bytes_with_check (body ++ mark)
  pub differs : mark ≢ fingerprint options

-- why the bytes are refused
abbrev pub AreBytesRefused : SealError → Options → List ℕ → Type 0
AreBytesRefused errors.Broken options bytes = IsBroken bytes
AreBytesRefused errors.OtherOptions options bytes = IsOfOthers options bytes

-- What is written is read back, and what is read was written so.
use Rattle.std.specs.Prelude.{◌≡◌, ◌≢◌, ℕ, ◌<◌, ◌^◌, List, get_or, Some, Result, Ok, Err}
use Rattle.dcsctp_types.specs.declared.options.Options.{Options}
use Rattle.dcsctp_types.specs.Snapshot.{Snapshot}
use Rattle.dcsctp_snapshot_bytes.specs.Fits.{FitsSnapshot}
use Rattle.dcsctp_snapshot_bytes.specs.Spelling.{snapshot_bytes}
use Rattle.dcsctp_snapshot_bytes.specs.declared.sealing.SealError.{SealError}
use Rattle.dcsctp_snapshot_bytes.specs.declared.sealing.SealError.TheVariants as errors
use Rattle.dcsctp_snapshot_bytes.specs.Seal.{fingerprint, sealed_snapshot, AreBytesRefused}
use Rattle.dcsctp_snapshot_bytes.specs.Reading.{read_snapshot}

-- each is below 256
abbrev pub AreBytes : List ℕ → Type 0
AreBytes bytes = (i : ℕ) → get_or bytes i 0 < 256

-- A snapshot whose numbers fit their fields is read back from its bytes.
abbrev pub SnapshotReadsBack : Type 0
SnapshotReadsBack = (state : Snapshot) → FitsSnapshot state → read_snapshot (snapshot_bytes state) ≡ Some state

-- Bytes that are read as a snapshot are its bytes: no other bytes are read as the same one.
abbrev pub HasOneSpelling : Type 0
HasOneSpelling = (bytes : List ℕ) (state : Snapshot) → AreBytes bytes → read_snapshot bytes ≡ Some state → snapshot_bytes state ≡ bytes

-- ---- seals

-- the ways to open bytes: they have a body, or are refused
abbrev pub OpensSeal : Options → List ℕ → Result (List ℕ) SealError → Type 0
OpensSeal options bytes (Ok body) = bytes ≡ sealed_snapshot options body
OpensSeal options bytes (Err error) = AreBytesRefused error options bytes

-- What was sealed by these options is opened by them as it was.
abbrev pub OpensAgain : Type 0
OpensAgain = (options : Options) (body : List ℕ) (opened : Result (List ℕ) SealError) → OpensSeal options (sealed_snapshot options body) opened → opened ≡ Ok body

-- By options with another fingerprint it is refused as that of others.
abbrev pub OthersAreRefused : Type 0
OthersAreRefused = (options others : Options) (body : List ℕ) (opened : Result (List ℕ) SealError)
    → fingerprint others ≢ fingerprint options → OpensSeal options (sealed_snapshot others body) opened → opened ≡ Err errors.OtherOptions

-- Each number of a fingerprint fits its field, as it does in `Options`.
pub record FitsFingerprint (options : Options) : Type 0 where
  pub local_port : options.local_port < 2 ^ 16
  pub remote_port : options.remote_port < 2 ^ 16
  pub incoming_streams : options.announced_maximum_incoming_streams < 2 ^ 16
  pub outgoing_streams : options.announced_maximum_outgoing_streams < 2 ^ 16
  pub zero_checksum_method : options.zero_checksum_alternate_error_detection_method.0 < 2 ^ 32

-- the options that must be the same
pub record IsSameEnd (a b : Options) : Type 0 where
  pub local_port : a.local_port ≡ b.local_port
  pub remote_port : a.remote_port ≡ b.remote_port
  pub incoming_streams : a.announced_maximum_incoming_streams ≡ b.announced_maximum_incoming_streams
  pub outgoing_streams : a.announced_maximum_outgoing_streams ≡ b.announced_maximum_outgoing_streams
  pub partial_reliability : a.enable_partial_reliability ≡ b.enable_partial_reliability
  pub message_interleaving : a.enable_message_interleaving ≡ b.enable_message_interleaving
  pub zero_checksum_method : a.zero_checksum_alternate_error_detection_method.0 ≡ b.zero_checksum_alternate_error_detection_method.0

-- Options with the same fingerprint are the same in these.
abbrev pub IdentifiesOptions : Type 0
IdentifiesOptions = (a b : Options) → FitsFingerprint a → FitsFingerprint b → fingerprint a ≡ fingerprint b → IsSameEnd a b

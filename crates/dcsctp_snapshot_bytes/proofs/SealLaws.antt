-- The seal after bytes is read as it was written.
use Rattle.std.proofs.Common.{◌≡◌, ℕ, ◌-◌, ◌+◌, ◌^◌, ◌<◌, Bool, true, false, List, [], ◌++◌, length, take, drop, Option, Ok, Err, refl, sym, ap, ◌∙◌, append_assoc, arith}
use Rattle.std.specs.Int.{Width, w16, w32, from_be_bytes, to_be_bytes}
use Rattle.std.proofs.lemmas.List.{take_at, drop_at, length-append, append-nil}
use Rattle.std.proofs.lemmas.Nat.{be_bytes_4, from_be_bytes-to_be_bytes_4}
use Rattle.dcsctp_wire_checksum.specs.Crc32c.{crc32c_of}
use Rattle.dcsctp_types.specs.declared.options.Options.{Options}
use Rattle.dcsctp_snapshot_bytes.specs.declared.sealing.SealError.TheVariants as errors
use Rattle.dcsctp_snapshot_bytes.specs.Fields.{number_bytes, flag_bytes}
use Rattle.dcsctp_snapshot_bytes.specs.Laws.{AreBytes, OpensAgain, OthersAreRefused, IdentifiesOptions}
use Rattle.dcsctp_snapshot_bytes.specs.Seal.{fingerprint, fingerprint_len, bytes_with_check}
use Rattle.dcsctp_snapshot_bytes.proofs.FieldLaws.{IsField, some_is, field16, field32}
use Rattle.dcsctp_snapshot_bytes.proofs.ValueLaws.{flag_field}

-- ---- the check value

checked_len : (front : List ℕ) → length (bytes_with_check front) ≡ length front + 4
unfolding bytes_with_check number_bytes
checked_len front = length-append front (to_be_bytes w32 (crc32c_of front))

-- the bytes before the check value, and the check value itself
record Cut (bytes front : List ℕ) : Type 0 where
  before : take (length bytes - 4) bytes ≡ front
  check : drop (length bytes - 4) bytes ≡ to_be_bytes w32 (crc32c_of front)

cut : (bytes front : List ℕ) → bytes ≡ bytes_with_check front → Cut bytes front
unfolding bytes_with_check number_bytes
cut bytes front e =
    let check = to_be_bytes w32 (crc32c_of front) in
    let n : length bytes - 4 ≡ length front = omega (arith, ap length e, checked_len front) in
    record {
      before = rw (n, e) (take_at front check (length front) refl);
      check = rw (n, e) (drop_at front check (length front) refl);
    }

pub too_short : (bytes front : List ℕ) → length bytes < 4 → bytes ≡ bytes_with_check front → ⊥
too_short bytes front lt e = omega (arith, ap length e, checked_len front)

-- The number that was read isn't the check value of the bytes before it.
pub not_checked : (bytes head check front : List ℕ) (read sum : ℕ) → head ≡ take (length bytes - 4) bytes → check ≡ drop (length bytes - 4) bytes
    → read ≡ from_be_bytes w32 check → sum ≡ crc32c_of head → sum < 2 ^ 32 → (read ≡ sum → ⊥) → bytes ≡ bytes_with_check front → ⊥
not_checked bytes head check front read sum head-is check-is read-is sum-is lt differs e =
    let parts = cut bytes front e in
    let of_front : crc32c_of front ≡ sum = ap crc32c_of (sym (head-is ∙ parts.before)) ∙ sym sum-is in
    differs (read-is ∙ ap (from_be_bytes w32) (check-is ∙ parts.check) ∙ ap (λ n. from_be_bytes w32 (to_be_bytes w32 n)) of_front ∙ from_be_bytes-to_be_bytes_4 sum lt)

-- It is.
pub is_checked : (bytes head check : List ℕ) (read sum : ℕ) → bytes ≡ head ++ check → length check ≡ 4 → AreBytes check → read ≡ from_be_bytes w32 check
    → read ≡ sum → sum ≡ crc32c_of head → bytes ≡ bytes_with_check head
unfolding bytes_with_check number_bytes
is_checked bytes head check read sum whole len fits read-is same sum-is =
    whole ∙ ap (λ (c : List ℕ). head ++ c) (sym (be_bytes_4 check (crc32c_of head) len fits (sym sum-is ∙ sym same ∙ read-is)))

same_before : (front other : List ℕ) → bytes_with_check front ≡ bytes_with_check other → front ≡ other
same_before front other e = sym (cut (bytes_with_check front) front refl).before ∙ (cut (bytes_with_check front) other e).before

-- ---- the fingerprint

flag_len : (flag : Bool) → length (flag_bytes flag) ≡ 1
unfolding flag_bytes
flag_len false = refl
flag_len true = refl

number_len : (w : Width) (n : ℕ) → length (number_bytes w n) ≡ length (to_be_bytes w n)
unfolding number_bytes
number_len w n = refl

pub has_its_len : (options : Options) → length (fingerprint options) ≡ fingerprint_len
unfolding fingerprint
has_its_len options = simp (length-append, number_len, flag_len)

-- Two lists with ends of the same length are the same in both parts.
record SameParts (body mark other its : List ℕ) : Type 0 where
  bodies : body ≡ other
  marks : mark ≡ its

same_parts : (body mark other its : List ℕ) → length mark ≡ length its → body ++ mark ≡ other ++ its → SameParts body mark other its
same_parts body mark other its len e =
    let n : length body ≡ length other = omega (arith, ap length e, length-append body mark, length-append other its, len) in
    record {
      bodies = sym (take_at body mark (length body) refl) ∙ ap (take (length body)) e ∙ take_at other its (length body) (sym n);
      marks = sym (drop_at body mark (length body) refl) ∙ ap (drop (length body)) e ∙ drop_at other its (length body) (sym n);
    }

-- Fewer bytes come before the check value than a fingerprint has.
pub no_room : (bytes front body mark : List ℕ) (len : ℕ) → bytes ≡ bytes_with_check front → length front < len → length mark ≡ len → bytes ≡ bytes_with_check (body ++ mark) → ⊥
no_room bytes front body mark len e lt at other =
    let same : front ≡ body ++ mark = sym (cut bytes front e).before ∙ (cut bytes (body ++ mark) other).before in
    omega (arith, ap length same, length-append body mark)

-- ---- the laws

pub opens_again : OpensAgain
opens_again options body (Ok other) e =
    let parts = same_parts body (fingerprint options) other (fingerprint options) refl (same_before _ _ e) in ap Ok (sym parts.bodies)
opens_again options body (Err errors.Broken) broken = absurd (broken body (fingerprint options) (has_its_len options) refl)
opens_again options body (Err errors.OtherOptions) is =
    let parts = same_parts body (fingerprint options) is.body is.mark (has_its_len options ∙ sym is.len) (same_before _ _ is.whole) in absurd (is.differs (sym parts.marks))

pub others_are_refused : OthersAreRefused
others_are_refused options others body (Ok other) differs e =
    let parts = same_parts body (fingerprint others) other (fingerprint options) (has_its_len others ∙ sym (has_its_len options)) (same_before _ _ e) in absurd (differs parts.marks)
others_are_refused options others body (Err errors.Broken) differs broken = absurd (broken body (fingerprint others) (has_its_len others) refl)
others_are_refused options others body (Err errors.OtherOptions) differs is = refl

-- the same fields from the same bytes
split_field : {A : Type 0} {bytes_of : A → List ℕ} {value_at : List ℕ → Option (A × List ℕ)} {Fits : A → Type 0} (field : IsField bytes_of value_at Fits) (x y : A) (rest others : List ℕ)
    → Fits x → Fits y → bytes_of x ++ rest ≡ bytes_of y ++ others → (x ≡ y) × (rest ≡ others)
split_field {A} {value_at = value_at} field x y rest others fx fy e =
    let same : (x, rest) ≡ (y, others) = some_is _ _ (sym (field.again x rest fx) ∙ ap value_at e ∙ field.again y others fy) in
    (ap (λ (p : A × List ℕ). p.0) same, ap (λ (p : A × List ℕ). p.1) same)

-- the fields of a fingerprint, one after the other
abbrev fields : Options → List ℕ
fields options =
    number_bytes w16 options.local_port ++ (number_bytes w16 options.remote_port ++ (number_bytes w16 options.announced_maximum_incoming_streams ++ (number_bytes w16 options.announced_maximum_outgoing_streams
    ++ (flag_bytes options.enable_partial_reliability ++ (flag_bytes options.enable_message_interleaving ++ (number_bytes w32 options.zero_checksum_alternate_error_detection_method.0 ++ []))))))

are_fields : (options : Options) → fingerprint options ≡ fields options
unfolding fingerprint
are_fields options = simp (append_assoc, append-nil)

pub tells_options : IdentifiesOptions
tells_options a b fa fb same =
    let e : fields a ≡ fields b = sym (are_fields a) ∙ same ∙ are_fields b in
    let local = split_field field16 _ _ _ _ fa.local_port fb.local_port e in
    let remote = split_field field16 _ _ _ _ fa.remote_port fb.remote_port local.1 in
    let incoming = split_field field16 _ _ _ _ fa.incoming_streams fb.incoming_streams remote.1 in
    let outgoing = split_field field16 _ _ _ _ fa.outgoing_streams fb.outgoing_streams incoming.1 in
    let partial = split_field flag_field _ _ _ _ tt tt outgoing.1 in
    let interleaving = split_field flag_field _ _ _ _ tt tt partial.1 in
    let method = split_field field32 _ _ [] [] fa.zero_checksum_method fb.zero_checksum_method interleaving.1 in
    record {
      local_port = local.0;
      remote_port = remote.0;
      incoming_streams = incoming.0;
      outgoing_streams = outgoing.0;
      partial_reliability = partial.0;
      message_interleaving = interleaving.0;
      zero_checksum_method = method.0;
    }

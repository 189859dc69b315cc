-- A whole snapshot: what is written is read back, and what is read was written so.
use Rattle.std.proofs.Common.{◌≡◌, ℕ, ◌^◌, ◌<◌, ◌++◌, Bool, true, false, cond, eqb, List, [], length, Some, None, refl, ap, ◌∙◌, subst, append_assoc, arith, lit<, Result, Ok, Err}
use Rattle.std.specs.Global.{Vec}
use Rattle.std.specs.Prelude.{IfOk, nat_lt, ◌==◌, ◌&&◌}
use Rattle.std.specs.Int.{w16, w32, w64}
use Rattle.std.proofs.lemmas.Bool.{eqb-true, and_parts}
use Rattle.std.proofs.lemmas.Bool.Decides.{nat_tests}
use Rattle.std.proofs.lemmas.Option.{cond_some}
use Rattle.std.proofs.lemmas.List.{append-nil, nil_from_length}
use Rattle.dcsctp_types.specs.declared.snapshot.HandoverSocketState.{HandoverSocketState}
use Rattle.dcsctp_types.specs.declared.snapshot.HandoverSocketState.TheVariants.{Closed, Connected}
use Rattle.dcsctp_types.specs.Snapshot.{Snapshot}
use Rattle.dcsctp_snapshot_bytes.specs.declared.state.Tags.{Tags}
use Rattle.dcsctp_snapshot_bytes.specs.Fields.{◌>>=◌, number_bytes, flag_bytes}
use Rattle.dcsctp_snapshot_bytes.specs.Fits.{FitsSnapshot}
use Rattle.dcsctp_snapshot_bytes.specs.Laws.{AreBytes, SnapshotReadsBack, HasOneSpelling}
use Rattle.dcsctp_snapshot_bytes.specs.Spelling.{snapshot_magic, count_begun_parts, version_of, is_connected, capabilities_bytes, send_bytes, received_bytes, snapshot_bytes}
use Rattle.dcsctp_snapshot_bytes.specs.Reading.{leading_tags, state_of, leading_content, after_magic, read_snapshot}
use Rattle.dcsctp_snapshot_bytes.proofs.FieldLaws.{Took, bind_some, step, step_by, some_is, field16, field32, field64}
use Rattle.dcsctp_snapshot_bytes.proofs.ValueLaws.{flag_field}
use Rattle.dcsctp_snapshot_bytes.proofs.PartLaws.{send_field, received_field, capabilities_field}

-- ---- the header

header_again : (version : ℕ) (rest : List ℕ) → version < 2 ^ 16 → after_magic (number_bytes w32 snapshot_magic ++ (number_bytes w16 version ++ rest)) ≡ Some (version, rest)
unfolding after_magic
header_again version rest fits = rw (field32.again snapshot_magic (number_bytes w16 version ++ rest) (lit< tt), field16.again version rest fits) refl

record TookHeader (bytes : List ℕ) (version : ℕ) (rest : List ℕ) : Type 0 where
  parts : bytes ≡ number_bytes w32 snapshot_magic ++ (number_bytes w16 version ++ rest)
  rest_fits : AreBytes rest

header_takes : (bytes : List ℕ) (header : ℕ × List ℕ) → AreBytes bytes → after_magic bytes ≡ Some header → TookHeader bytes header.0 header.1
unfolding after_magic
header_takes bytes header fits e =
    step field32 _ bytes _ fits e (λ first r1 p1 f1 b1 e1.
    step field16 _ r1 _ b1 e1 (λ second r2 p2 f2 b2 e2.
    let chosen = cond_some (first == snapshot_magic) (second, r2) header e2 in
    let first-is : first ≡ snapshot_magic = eqb-true _ _ chosen.0 in
    subst (λ (x : ℕ × List ℕ). TookHeader bytes x.0 x.1) chosen.1 (record { parts = rw (p1, p2, first-is) refl; rest_fits = b2 })))

-- a version is 1 or 2
version_fits : (state : Snapshot) → version_of state < 2 ^ 16
version_fits state = go (nat_lt 1 (count_begun_parts state.tx.queued_messages))
  where
    go : (several : Bool) → cond several 2 1 < 2 ^ 16
    go false = lit< tt
    go true = lit< tt

-- ---- what follows the header

state_back : (state : HandoverSocketState) → state_of (is_connected state) ≡ state
state_back Closed = refl
state_back Connected = refl

connected_back : (flag : Bool) → is_connected (state_of flag) ≡ flag
connected_back false = refl
connected_back true = refl

abbrev content_bytes : Snapshot → List ℕ
content_bytes state =
    flag_bytes (is_connected state.socket_state)
    ++ number_bytes w32 state.my_verification_tag ++ number_bytes w32 state.my_initial_tsn ++ number_bytes w32 state.peer_verification_tag ++ number_bytes w32 state.peer_initial_tsn
    ++ number_bytes w64 state.tie_tag ++ capabilities_bytes state.capabilities ++ send_bytes state.tx ++ received_bytes state.rx

content_again : (state : Snapshot) (rest : List ℕ) → FitsSnapshot state → leading_content (content_bytes state ++ rest) ≡ Some (state, rest)
unfolding leading_content leading_tags
content_again state rest fits = simp append_assoc (rw (
  flag_field.again _ _ tt,
  field32.again _ _ fits.my_verification_tag,
  field32.again _ _ fits.my_initial_tsn,
  field32.again _ _ fits.peer_verification_tag,
  field32.again _ _ fits.peer_initial_tsn,
  field64.again _ _ fits.tie_tag,
  capabilities_field.again _ _ fits.capabilities,
  send_field.again _ _ fits.tx,
  received_field.again _ _ fits.rx,
  state_back state.socket_state,
) refl)

abbrev tags_bytes : Tags → List ℕ
tags_bytes tags =
    number_bytes w32 tags.my_verification_tag ++ number_bytes w32 tags.my_initial_tsn ++ number_bytes w32 tags.peer_verification_tag ++ number_bytes w32 tags.peer_initial_tsn ++ number_bytes w64 tags.tie_tag

record FitsTags (tags : Tags) : Type 0 where
  my_verification_tag : tags.my_verification_tag < 2 ^ 32
  my_initial_tsn : tags.my_initial_tsn < 2 ^ 32
  peer_verification_tag : tags.peer_verification_tag < 2 ^ 32
  peer_initial_tsn : tags.peer_initial_tsn < 2 ^ 32
  tie_tag : tags.tie_tag < 2 ^ 64

tags_take : (bytes : List ℕ) (tags : Tags) (rest : List ℕ) → AreBytes bytes → leading_tags bytes ≡ Some (tags, rest) → Took tags_bytes FitsTags bytes tags rest
unfolding leading_tags
tags_take bytes tags rest fits e =
    step field32 _ bytes _ fits e (λ my_verification_tag r1 p1 f1 b1 e1.
    step field32 _ r1 _ b1 e1 (λ my_initial_tsn r2 p2 f2 b2 e2.
    step field32 _ r2 _ b2 e2 (λ peer_verification_tag r3 p3 f3 b3 e3.
    step field32 _ r3 _ b3 e3 (λ peer_initial_tsn r4 p4 f4 b4 e4.
    step field64 _ r4 _ b4 e4 (λ tie_tag r5 p5 f5 b5 e5.
    subst (λ (x : Tags × List ℕ). Took tags_bytes FitsTags bytes x.0 x.1) (some_is _ _ e5) (record {
      parts = rw (p1, p2, p3, p4, p5) (simp append_assoc);
      fits = record { my_verification_tag = f1; my_initial_tsn = f2; peer_verification_tag = f3; peer_initial_tsn = f4; tie_tag = f5 };
      rest_fits = b5;
    }))))))

content_takes : (bytes : List ℕ) (state : Snapshot) (rest : List ℕ) → AreBytes bytes → leading_content bytes ≡ Some (state, rest) → Took content_bytes FitsSnapshot bytes state rest
unfolding leading_content
content_takes bytes state rest fits e =
    step flag_field _ bytes _ fits e (λ connected r1 p1 f1 b1 e1.
    step_by tags_take _ r1 _ b1 e1 (λ tags r2 p2 f2 b2 e2.
    step capabilities_field _ r2 _ b2 e2 (λ capabilities r3 p3 f3 b3 e3.
    step send_field _ r3 _ b3 e3 (λ tx r4 p4 f4 b4 e4.
    step received_field _ r4 _ b4 e4 (λ rx r5 p5 f5 b5 e5.
    subst (λ (x : Snapshot × List ℕ). Took content_bytes FitsSnapshot bytes x.0 x.1) (some_is _ _ e5) (record {
      parts = rw (p1, p2, p3, p4, p5, connected_back connected) (simp append_assoc);
      fits = record {
        my_verification_tag = f2.my_verification_tag;
        my_initial_tsn = f2.my_initial_tsn;
        peer_verification_tag = f2.peer_verification_tag;
        peer_initial_tsn = f2.peer_initial_tsn;
        tie_tag = f2.tie_tag;
        capabilities = f3;
        tx = f4;
        rx = f5;
      };
      rest_fits = b5;
    }))))))

-- ---- the whole

same_version : (version : ℕ) → eqb version version ≡ true
same_version version = grind (arith, nat_tests)

pub reads_back : SnapshotReadsBack
unfolding read_snapshot snapshot_bytes
reads_back state fits =
    let whole : snapshot_bytes state ≡ number_bytes w32 snapshot_magic ++ (number_bytes w16 (version_of state) ++ (content_bytes state ++ [])) = simp (append_assoc, append-nil) in
    let same : eqb (version_of state) (version_of state) ≡ true = same_version (version_of state) in
    ap read_snapshot whole ∙ rw (header_again (version_of state) (content_bytes state ++ []) (version_fits state), content_again state [] fits, same) refl

pub has_one_spelling : HasOneSpelling
unfolding read_snapshot snapshot_bytes
has_one_spelling bytes state fits e =
    let header =
    bind_some (after_magic bytes)
    (λ header. leading_content header.1 >>= λ content. cond (eqb (length content.1) 0 && eqb header.0 (version_of content.0)) (Some content.0) None) state e in
    let took = header_takes bytes header.0 fits header.1 in
    step_by content_takes _ header.0.1 _ took.rest_fits header.2 (λ content rest p1 f1 b1 e1.
    let chosen = cond_some (eqb (length rest) 0 && eqb header.0.0 (version_of content)) content state e1 in
    let both = and_parts (eqb (length rest) 0) (eqb header.0.0 (version_of content)) chosen.0 in
    let nothing : rest ≡ [] = nil_from_length rest (eqb-true _ _ both.0) in
    let version : header.0.0 ≡ version_of content = eqb-true _ _ both.1 in
    let whole : bytes ≡ number_bytes w32 snapshot_magic ++ (number_bytes w16 (version_of content) ++ (content_bytes content ++ [])) = rw (took.parts, p1, nothing, version) refl in
    let spelled : snapshot_bytes content ≡ bytes = rw whole (simp (append_assoc, append-nil)) in
    subst (λ (x : Snapshot). snapshot_bytes x ≡ bytes) chosen.1 spelled)

-- What was written of a snapshot that fits is read back.
pub is_read_back : {E : Type 0} (result : Result (Vec ℕ) E) (state : Snapshot)
    → IfOk result (λ bytes. bytes.items ≡ snapshot_bytes state) → IfOk result (λ _. FitsSnapshot state) → IfOk result (λ bytes. read_snapshot bytes.items ≡ Some state)
is_read_back (Ok bytes) state same fits = ap read_snapshot same ∙ reads_back state fits
is_read_back (Err error) state same fits = tt

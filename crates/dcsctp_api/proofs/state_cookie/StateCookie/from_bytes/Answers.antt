use Rattle.std.proofs.Common.{rules, ◌≡◌, ◌≢◌, Ok, ℕ, Bool, true, false, not, cond, eqb, ◌&&◌, ◌||◌, length, List, ap, ◌∙◌, arith, refl}
use Rattle.std.proofs.lemmas.Bool.Decides.{nat_tests}
use Rattle.std.specs.Prelude.{Result}
use Rattle.dcsctp_spec_lemmas.specs.wire.Fields.{u32_at}
use Rattle.dcsctp_spec_lemmas.specs.spec.Cookie.{Cookie, cookie_fields, cookie_of_bytes, has_magic, has_zero_tag}
use Rattle.dcsctp_api.proofs.state_cookie.StateCookie.from_bytes.Goals as goal

abbrev read : Cookie → Result Cookie (List ℕ)
read cookie = Ok cookie

size_is : (n : ℕ) → n ≡ 56 → not (eqb n 56) ≡ false
size_is n is = grind (arith, nat_tests)

magic_is : (m n : ℕ) → m ≡ 0x64635343 → n ≡ 0x54507230 → not (eqb m 0x64635343 && eqb n 0x54507230) ≡ false
magic_is m n first second = grind (arith, nat_tests)

no_zero : (m n : ℕ) → m ≢ 0 → n ≢ 0 → (eqb m 0 || eqb n 0) ≡ false
no_zero m n first second = grind (arith, nat_tests)

chosen : {A : Type 0} (b : Bool) (x y : A) → b ≡ false → cond b x y ≡ y
chosen true x y is = absurd (cc)
chosen false x y is = refl

whole : (bytes : List ℕ) → length bytes ≡ 56 → u32_at 0 bytes ≡ 0x64635343 → u32_at 4 bytes ≡ 0x54507230 → u32_at 8 bytes ≢ 0 → u32_at 12 bytes ≢ 0 → cookie_of_bytes bytes ≡ read (cookie_fields bytes)
unfolding cookie_of_bytes
whole bytes size first second one two =
    chosen (not (eqb (length bytes) 56)) _ _ (size_is (length bytes) size)
    ∙ chosen (not (has_magic bytes)) _ _ (magic_is (u32_at 0 bytes) (u32_at 4 bytes) first second)
    ∙ chosen (has_zero_tag bytes) _ _ (no_zero (u32_at 8 bytes) (u32_at 12 bytes) one two)

pub returns : goal.returns
returns c =
    whole c.args.bytes.now c.if-bytes-ne-COOKIE_SIZE.false (search rules) (search rules) (search rules) (search rules) ∙ ap read c.fields_at-cookie.ensures

-- A cookie reads back.
use Rattle.std.proofs.Common.{◌≡◌, ◌≤◌, ℕ, Bool, true, false, not, cond, eqb, ◌||◌, refl, ap, ◌∙◌, arith, Ok}
use Rattle.std.proofs.lemmas.Nat.{from_be_bytes-to_be_bytes_2, from_be_bytes-to_be_bytes_4, from_be_bytes-to_be_bytes_8}
use Rattle.std.proofs.lemmas.Bool.Decides.{nat_tests}
use Rattle.dcsctp_spec.specs.Cookie.{Cookie, flag_byte, has_zero_tag, cookie_bytes, cookie_of_bytes, cookie_fields, u64_at}
use Rattle.dcsctp_spec.specs.wire.Fields.{u16_at, u32_at}
use Rattle.dcsctp_spec.specs.endpoint.Outcome.{fits}
use Rattle.dcsctp_spec.specs.CookieFits.{FitsNames, CookieReadsBack}

flag_again : (b : Bool) → not (eqb (flag_byte b) 0) ≡ b
flag_again true = refl
flag_again false = refl

zero_tests : (m n : ℕ) → 1 ≤ m → 1 ≤ n → eqb m 0 || eqb n 0 ≡ false
zero_tests m n h k = grind (arith, nat_tests)

chosen : {A : Type 0} (b : Bool) (x y : A) → b ≡ false → cond b x y ≡ y
chosen true x y e = absurd (cc)
chosen false x y e = refl

-- a cookie of these fields
abbrev made : ℕ → ℕ → ℕ → ℕ → Bool → Bool → Bool → ℕ → ℕ → ℕ → ℕ → ℕ → ℕ → Cookie
made maker_tag maker_tsn tag tsn partial interleaving reconfig method inbound outbound window tie moment =
    record {
      maker = record { tag = maker_tag; first_tsn = maker_tsn };
      addressee = record { tag = tag; first_tsn = tsn };
      offer = record { partial_reliability = partial; message_interleaving = interleaving; reconfig = reconfig; zero_checksum_method = method; inbound_streams = inbound; outbound_streams = outbound };
      window = window;
      tie = tie;
      moment = moment;
    }

same_cookie : (a1 b1 a2 b2 a3 b3 a4 b4 : ℕ) (a5 b5 a6 b6 a7 b7 : Bool) (a8 b8 a9 b9 a10 b10 a11 b11 a12 b12 a13 b13 : ℕ)
    → a1 ≡ b1 → a2 ≡ b2 → a3 ≡ b3 → a4 ≡ b4 → a5 ≡ b5 → a6 ≡ b6 → a7 ≡ b7 → a8 ≡ b8 → a9 ≡ b9 → a10 ≡ b10 → a11 ≡ b11 → a12 ≡ b12 → a13 ≡ b13
    → made a1 a2 a3 a4 a5 a6 a7 a8 a9 a10 a11 a12 a13 ≡ made b1 b2 b3 b4 b5 b6 b7 b8 b9 b10 b11 b12 b13
same_cookie a1 b1 a2 b2 a3 b3 a4 b4 a5 b5 a6 b6 a7 b7 a8 b8 a9 b9 a10 b10 a11 b11 a12 b12 a13 b13 e1 e2 e3 e4 e5 e6 e7 e8 e9 e10 e11 e12 e13 = cc

-- What is found in a cookie again, whatever its window and tie tag are. These are cut to their fields.
abbrev pub NamesReadBack : Type 0
NamesReadBack = (cookie : Cookie) → FitsNames cookie → cookie_of_bytes (cookie_bytes cookie) ≡ Ok (record cookie { window = u32_at 24 (cookie_bytes cookie); tie = u64_at 28 (cookie_bytes cookie); moment = u64_at 48 (cookie_bytes cookie) })

pub names_read_back : NamesReadBack
unfolding cookie_bytes cookie_of_bytes
names_read_back cookie fits =
    let addressee_tag : u32_at 8 (cookie_bytes cookie) ≡ cookie.addressee.tag = from_be_bytes-to_be_bytes_4 cookie.addressee.tag fits.addressee.tag in
    let maker_tag : u32_at 12 (cookie_bytes cookie) ≡ cookie.maker.tag = from_be_bytes-to_be_bytes_4 cookie.maker.tag fits.maker.tag in
    let addressee_tsn : u32_at 16 (cookie_bytes cookie) ≡ cookie.addressee.first_tsn = from_be_bytes-to_be_bytes_4 cookie.addressee.first_tsn fits.addressee.first_tsn in
    let maker_tsn : u32_at 20 (cookie_bytes cookie) ≡ cookie.maker.first_tsn = from_be_bytes-to_be_bytes_4 cookie.maker.first_tsn fits.maker.first_tsn in
    let method : u32_at 40 (cookie_bytes cookie) ≡ cookie.offer.zero_checksum_method = from_be_bytes-to_be_bytes_4 cookie.offer.zero_checksum_method fits.offer.zero_checksum_method in
    let outbound : u16_at 44 (cookie_bytes cookie) ≡ cookie.offer.outbound_streams = from_be_bytes-to_be_bytes_2 cookie.offer.outbound_streams fits.offer.outbound_streams in
    let inbound : u16_at 46 (cookie_bytes cookie) ≡ cookie.offer.inbound_streams = from_be_bytes-to_be_bytes_2 cookie.offer.inbound_streams fits.offer.inbound_streams in
    let no_zero : has_zero_tag (cookie_bytes cookie) ≡ false = zero_tests (u32_at 8 (cookie_bytes cookie)) (u32_at 12 (cookie_bytes cookie)) (omega (arith, addressee_tag, fits.addressee.tag_is_not_zero)) (omega (arith, maker_tag, fits.maker.tag_is_not_zero)) in
    let fields : cookie_fields (cookie_bytes cookie) ≡ record cookie { window = u32_at 24 (cookie_bytes cookie); tie = u64_at 28 (cookie_bytes cookie); moment = u64_at 48 (cookie_bytes cookie) } =
    same_cookie _ _ _ _ _ _ _ _ _ _ _ _ _ _ _ _ _ _ _ _ _ _ _ _ _ _ maker_tag maker_tsn addressee_tag addressee_tsn
    (flag_again cookie.offer.partial_reliability) (flag_again cookie.offer.message_interleaving) (flag_again cookie.offer.reconfig)
    method inbound outbound refl refl refl in
    chosen (has_zero_tag (cookie_bytes cookie)) _ _ no_zero ∙ ap (λ c. Ok c) fields

pub cookie_reads_back : CookieReadsBack
unfolding cookie_bytes
cookie_reads_back cookie fits =
    names_read_back cookie fits.names
    ∙ ap (λ (n : ℕ). Ok (record cookie { window = n; tie = u64_at 28 (cookie_bytes cookie); moment = u64_at 48 (cookie_bytes cookie) })) (from_be_bytes-to_be_bytes_4 cookie.window fits.window)
    ∙ ap (λ (n : ℕ). Ok (record cookie { tie = n; moment = u64_at 48 (cookie_bytes cookie) })) (from_be_bytes-to_be_bytes_8 cookie.tie fits.tie)
    ∙ ap (λ (n : ℕ). Ok (record cookie { moment = n })) (from_be_bytes-to_be_bytes_8 cookie.moment fits.moment)

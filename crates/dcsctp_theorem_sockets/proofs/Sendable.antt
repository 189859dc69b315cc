-- What a socket sends: its numbers fit their fields, and each chunk is read as itself.
use Rattle.std.proofs.Common.{◌≡◌, ℕ, ◌<◌, ◌^◌, ◌+◌, Bool, true, false, cond, eqb, Option, None, Some, List, [], ◌∷◌, ◌++◌, length, refl, ap, ◌∙◌, arith}
use Rattle.std.specs.List.{AllByRecursion}
use Rattle.std.proofs.lemmas.Bool.Decides.{nat_tests}
use Rattle.dcsctp_spec_lemmas.specs.wire.Content.{ParameterContent, state_cookie, supported_extensions, zero_checksum_acceptable, forward_tsn_supported}
use Rattle.dcsctp_spec_lemmas.specs.wire.Numbers.{re_config_type, forward_tsn_type, i_data_type, i_forward_tsn_type, state_cookie_type}
use Rattle.dcsctp_spec_lemmas.specs.wire.Spelling.{parameters_len}
use Rattle.dcsctp_spec_lemmas.specs.wire.ReadsBack.{IsByte, FitsParameter, FitsEcho}
use Rattle.dcsctp_spec_lemmas.specs.types.declared.association.Pair.{Pair}
use Rattle.dcsctp_spec_lemmas.specs.types.declared.options.Options.{Options}
use Rattle.dcsctp_spec_lemmas.specs.types.Settings.{IsValid, FitsOptions}
use Rattle.dcsctp_spec_lemmas.specs.types.Offer.{Offer, offer_of, answering_offer, agreed_method, offer_parameters}
use Rattle.dcsctp_spec_lemmas.specs.spec.endpoint.Cause.{missing_mandatory_parameter}
use Rattle.dcsctp_spec_lemmas.specs.spec.Cookie.{Cookie, cookie_bytes}
use Rattle.dcsctp_spec_lemmas.specs.spec.Packet.{Introduction, Content, init, init_ack, cookie_echo, cookie_ack, abort, first_cookie}
use Rattle.dcsctp_spec_lemmas.specs.spec.association.HandshakeChanges.{introduction_of, answering_introduction}
use Rattle.dcsctp_spec_lemmas.specs.spec.CookieFits.{FitsPair}
use Rattle.dcsctp_spec_runs.specs.Laws.{OfferReadsBack}
use Rattle.dcsctp_spec_runs.specs.Fitting.{Sendable}
use Rattle.dcsctp_theorem_sockets.proofs.Bytes.{length_of_cookie, in_cookie}

-- ---- what is announced

-- the parameters of an offer, by whether there is no method
abbrev pub parameters_by : Bool → Bool → Bool → ℕ → List ParameterContent
parameters_by partial interleaving no_method method =
    cond partial (forward_tsn_supported ∷ []) []
    ++ cond no_method [] (zero_checksum_acceptable method ∷ [])
    ++ supported_extensions (re_config_type ∷ (cond partial (forward_tsn_type ∷ []) [] ++ cond interleaving (i_data_type ∷ i_forward_tsn_type ∷ []) [])) ∷ []

-- The parameters fit their fields and their chunk, and their cookie is found.
pub record FitParameters (parameters : List ParameterContent) (cookie : Option (List ℕ)) : Type 0 where
  pub len : 20 + parameters_len parameters < 2 ^ 16
  pub each : AllByRecursion FitsParameter parameters
  pub found : first_cookie parameters ≡ cookie

fit_without : (partial interleaving no_method : Bool) (method : ℕ) → method < 2 ^ 32 → FitParameters (parameters_by partial interleaving no_method method ++ []) None
unfolding parameters_len
fit_without true true true method fits = record { len = omega arith; each = (tt, ((omega arith, (omega arith, (omega arith, (omega arith, tt)))), tt)); found = refl }
fit_without true true false method fits = record { len = omega arith; each = (tt, (fits, ((omega arith, (omega arith, (omega arith, (omega arith, tt)))), tt))); found = refl }
fit_without true false true method fits = record { len = omega arith; each = (tt, ((omega arith, (omega arith, tt)), tt)); found = refl }
fit_without true false false method fits = record { len = omega arith; each = (tt, (fits, ((omega arith, (omega arith, tt)), tt))); found = refl }
fit_without false true true method fits = record { len = omega arith; each = ((omega arith, (omega arith, (omega arith, tt))), tt); found = refl }
fit_without false true false method fits = record { len = omega arith; each = (fits, ((omega arith, (omega arith, (omega arith, tt))), tt)); found = refl }
fit_without false false true method fits = record { len = omega arith; each = ((omega arith, tt), tt); found = refl }
fit_without false false false method fits = record { len = omega arith; each = (fits, ((omega arith, tt), tt)); found = refl }

fit_with : (partial interleaving no_method : Bool) (method : ℕ) (cookie : List ℕ) → method < 2 ^ 32 → length cookie ≡ 56 → AllByRecursion IsByte cookie
    → FitParameters (parameters_by partial interleaving no_method method ++ state_cookie cookie ∷ []) (Some cookie)
unfolding parameters_len
fit_with true true true method cookie fits long in_bytes =
    record { len = omega (arith, long); each = (tt, ((omega arith, (omega arith, (omega arith, (omega arith, tt)))), (in_bytes, tt))); found = refl }
fit_with true true false method cookie fits long in_bytes =
    record { len = omega (arith, long); each = (tt, (fits, ((omega arith, (omega arith, (omega arith, (omega arith, tt)))), (in_bytes, tt)))); found = refl }
fit_with true false true method cookie fits long in_bytes =
    record { len = omega (arith, long); each = (tt, ((omega arith, (omega arith, tt)), (in_bytes, tt))); found = refl }
fit_with true false false method cookie fits long in_bytes =
    record { len = omega (arith, long); each = (tt, (fits, ((omega arith, (omega arith, tt)), (in_bytes, tt)))); found = refl }
fit_with false true true method cookie fits long in_bytes =
    record { len = omega (arith, long); each = ((omega arith, (omega arith, (omega arith, tt))), (in_bytes, tt)); found = refl }
fit_with false true false method cookie fits long in_bytes =
    record { len = omega (arith, long); each = (fits, ((omega arith, (omega arith, (omega arith, tt))), (in_bytes, tt))); found = refl }
fit_with false false true method cookie fits long in_bytes =
    record { len = omega (arith, long); each = ((omega arith, tt), (in_bytes, tt)); found = refl }
fit_with false false false method cookie fits long in_bytes =
    record { len = omega (arith, long); each = (fits, ((omega arith, tt), (in_bytes, tt))); found = refl }

-- ---- each chunk

pub init_sendable : OfferReadsBack → (options : Options) (mine : Pair) → IsValid options → FitsOptions options → FitsPair mine → Sendable (init (introduction_of options mine))
init_sendable law options mine valid fits own =
    let method : ℕ = options.zero_checksum_alternate_error_detection_method.0 in
    let parameters : FitParameters (offer_parameters (offer_of options) ++ []) None =
    fit_without options.enable_partial_reliability options.enable_message_interleaving (eqb method 0) method fits.zero_checksum_method in
    record {
      fits = record {
        initiate_tag = own.tag;
        a_rwnd = valid.receive_window;
        outbound_streams = fits.outbound_streams;
        inbound_streams = fits.inbound_streams;
        initial_tsn = own.first_tsn;
        len_fits = parameters.len;
        parameters = parameters.each;
      };
      reads = ap (λ (offer : Offer). init (record (introduction_of options mine) { offer = offer })) (law options method None);
      said = (own, record { zero_checksum_method = fits.zero_checksum_method; inbound_streams = fits.inbound_streams; outbound_streams = fits.outbound_streams });
    }

-- the method that is agreed on is our own, or none
agreed_fits : (mine theirs : ℕ) → mine < 2 ^ 32 → cond (eqb mine theirs) mine 0 < 2 ^ 32
agreed_fits mine theirs fits = grind (arith, nat_tests)

abbrev answer : Options → Introduction → Pair → Cookie → Content
answer options theirs mine cookie = init_ack (answering_introduction options theirs mine) (Some (cookie_bytes cookie))

pub init_ack_sendable : OfferReadsBack → (options : Options) (theirs : Introduction) (mine : Pair) (cookie : Cookie) → IsValid options → FitsOptions options → FitsPair mine
    → Sendable (answer options theirs mine cookie)
init_ack_sendable law options theirs mine cookie valid fits own =
    let method : ℕ = agreed_method (offer_of options) theirs.offer in
    let method_fits : method < 2 ^ 32 = agreed_fits options.zero_checksum_alternate_error_detection_method.0 theirs.offer.zero_checksum_method fits.zero_checksum_method in
    let long : length (cookie_bytes cookie) ≡ 56 = length_of_cookie cookie in
    let parameters : FitParameters (offer_parameters (answering_offer theirs.offer (offer_of options)) ++ state_cookie (cookie_bytes cookie) ∷ []) (Some (cookie_bytes cookie)) =
    fit_with options.enable_partial_reliability options.enable_message_interleaving (eqb method 0) method (cookie_bytes cookie) method_fits long (in_cookie cookie) in
    record {
      fits = record {
        initiate_tag = own.tag;
        a_rwnd = valid.receive_window;
        outbound_streams = fits.outbound_streams;
        inbound_streams = fits.inbound_streams;
        initial_tsn = own.first_tsn;
        len_fits = parameters.len;
        parameters = parameters.each;
      };
      reads =
          ap (λ (offer : Offer). init_ack (record (answering_introduction options theirs mine) { offer = offer })
          (first_cookie (offer_parameters (answering_offer theirs.offer (offer_of options)) ++ state_cookie (cookie_bytes cookie) ∷ []))) (law options method (Some (cookie_bytes cookie)))
          ∙ ap (λ (found : Option (List ℕ)). init_ack (answering_introduction options theirs mine) found) parameters.found;
      said = (own, record { len_fits = omega (arith, long); cookie_in_bytes = in_cookie cookie });
    }

pub echo_sendable : (cookie : List ℕ) → FitsEcho cookie → Sendable (cookie_echo cookie)
echo_sendable cookie fits = record { fits = fits; reads = refl; said = tt }

pub ack_sendable : Sendable cookie_ack
ack_sendable = record { fits = tt; reads = refl; said = tt }

pub abort_sendable : Sendable (abort false (missing_mandatory_parameter (state_cookie_type ∷ []) ∷ []))
unfolding parameters_len
abort_sendable =
    record { fits = record { len_fits = omega arith; causes_fit = (record { whole = refl; entries_in_bytes = (omega arith, (omega arith, tt)) }, tt) }; reads = refl; said = tt }

-- Outside examples of whole stream resets, computed by the definitions: a wrong rule in specs/ would not
-- check here.
use Rattle.std.proofs.Common.{false, ◌≡◌, ℕ, None, Some, List, [], ◌∷◌, inl, inr, refl}
use Rattle.dcsctp_spec_lemmas.specs.wire.declared.reconfiguration.ReconfigurationResponseResult.{ReconfigurationResponseResult}
use Rattle.dcsctp_spec_lemmas.specs.wire.declared.reconfiguration.ReconfigurationResponseResult.TheVariants.{SuccessNothingToDo, SuccessPerformed, InProgress}
use Rattle.dcsctp_spec_lemmas.specs.types.declared.association.Pair.{Pair}
use Rattle.dcsctp_spec_lemmas.specs.types.declared.options.Options.{Options}
use Rattle.dcsctp_spec_lemmas.specs.spec.Cookie.{cookie_bytes, cookie_of_bytes}
use Rattle.dcsctp_spec_lemmas.specs.spec.Reconfiguration.{RequestedReset, outgoing_reset_request, reconfiguration_response}
use Rattle.dcsctp_spec_lemmas.specs.spec.Packet.{Content, init, init_ack, cookie_echo, cookie_ack, re_config}
use Rattle.dcsctp_spec_lemmas.specs.spec.endpoint.Endpoint.{established, open_in}
use Rattle.dcsctp_spec_lemmas.specs.spec.association.Effect.{draws, sends, holds, connects, begins, gives_up, completes, accepts, performs}
use Rattle.dcsctp_spec_lemmas.specs.spec.association.Acts.{connect, flushes, request_again, request_renewed}
use Rattle.dcsctp_spec_runs.specs.World.{own_tag_borne, echo_in_front, init_alone, at_a, at_b}
use Rattle.dcsctp_theorem_association.proofs.Schedules.{pair, introduction, link, held, new, packet, cookie, bytes_of, plain, with_drawn, with_cookie, with_reset, reached, Doing, acts, gets, configured, is_run, GoesOn, IsRun, ◌after◌, end_of, side}
use Rattle.dcsctp_theorem_association.proofs.ScheduleCounts.{numbers_begun, numbers_completed, numbers_accepted, numbers_performed}
use Rattle.dcsctp_theorem_association.proofs.ScheduleFacts.{one, two, first_cookie, four_packets, four_packets_go}

-- of stream 1, after the TSN 99
abbrev wanted : RequestedReset
wanted = record { last_tsn = 99; streams = 1 ∷ []; is_new = false }

abbrev request : ℕ → Content
request number = re_config (outgoing_reset_request number number wanted ∷ [])

abbrev answer : ℕ → ReconfigurationResponseResult → Content
answer number result = re_config (reconfiguration_response number result ∷ [])

-- ---- a reset that is deferred, and performed once (RFC 6525, section 5.2.2)

-- Data is missing at B when A's request comes.
abbrev deferred : List Doing
deferred =
    gets at_a 7 (answer 100 InProgress) plain
    ∷ gets at_b 9 (request 100) plain
    ∷ acts at_a flushes (with_reset wanted)
    ∷ four_packets

-- The request comes twice more after the data is there.
abbrev performed : List Doing
performed =
    gets at_a 7 (answer 100 SuccessPerformed) plain
    ∷ gets at_b 9 (request 100) reached
    ∷ gets at_b 9 (request 100) reached
    ∷ acts at_a (request_again wanted) plain
    ∷ deferred

performed_goes : (a b : Options) → GoesOn a b performed
unfolding cookie_bytes cookie_of_bytes
performed_goes a b =
    (inl refl, own_tag_borne refl, tt)
    after (inl refl, own_tag_borne refl, tt)
    after (inl refl, own_tag_borne refl, tt)
    after tt
    after (inl refl, own_tag_borne refl, tt)
    after (inl refl, own_tag_borne refl, tt)
    after tt
    after four_packets_go a b

performed_is_a_run : (a b : Options) → IsRun a b performed
performed_is_a_run a b = is_run (configured a) (configured b) performed (performed_goes a b)

-- A's request is outstanding, and B has accepted it.
deferred_at_a : (a b : Options) → (end_of a b deferred).a.core ≡ open_in established one (held two 101 (Some 100) 199 SuccessNothingToDo)
unfolding cookie_bytes cookie_of_bytes
deferred_at_a a b = refl

deferred_at_b : (a b : Options) → (end_of a b deferred).b.core ≡ open_in established two (held one 200 None 100 InProgress)
unfolding cookie_bytes cookie_of_bytes
deferred_at_b a b = refl

-- No other is begun meanwhile.
one_at_a_time : (a b : Options) → end_of a b (acts at_a flushes (with_reset wanted) ∷ deferred) ≡ end_of a b deferred
unfolding cookie_bytes cookie_of_bytes
one_at_a_time a b = refl

performed_end : (a b : Options) → end_of a b performed
    ≡ record {
      a = side a (open_in established one (held two 101 None 199 SuccessNothingToDo)) (
          completes one 100
          ∷ sends (packet 9 (request 100))
          ∷ sends (packet 9 (request 100)) ∷ begins 100
          ∷ connects (link one two)
          ∷ sends (packet 9 (cookie_echo first_cookie)) ∷ holds (link one two)
          ∷ sends (packet 0 (init (introduction one))) ∷ draws one
          ∷ []);
      b = side b (open_in established two (held one 200 None 100 SuccessPerformed)) (
          sends (packet 7 (answer 100 SuccessPerformed))
          ∷ sends (packet 7 (answer 100 SuccessPerformed)) ∷ performs one 100
          ∷ sends (packet 7 (answer 100 InProgress)) ∷ accepts 100
          ∷ sends (packet 7 cookie_ack) ∷ connects (link two one) ∷ holds (link two one)
          ∷ sends (packet 7 (init_ack (introduction two) (Some first_cookie))) ∷ draws two
          ∷ []);
    }
unfolding cookie_bytes cookie_of_bytes
performed_end a b = refl

begun_once : (a b : Options) → numbers_begun (end_of a b performed).a.past ≡ 100 ∷ []
unfolding cookie_bytes cookie_of_bytes
begun_once a b = refl

accepted_once : (a b : Options) → numbers_accepted (end_of a b performed).b.past ≡ 100 ∷ []
unfolding cookie_bytes cookie_of_bytes
accepted_once a b = refl

performed_once : (a b : Options) → numbers_performed (end_of a b performed).b.past ≡ 100 ∷ []
unfolding cookie_bytes cookie_of_bytes
performed_once a b = refl

completed_once : (a b : Options) → numbers_completed (end_of a b performed).a.past ≡ 100 ∷ []
unfolding cookie_bytes cookie_of_bytes
completed_once a b = refl

-- The two answers come once more, in the other order: A's request has ended.
abbrev late_answers : List Doing
late_answers = gets at_a 7 (answer 100 InProgress) plain ∷ gets at_a 7 (answer 100 SuccessPerformed) plain ∷ performed

late_answers_go : (a b : Options) → GoesOn a b late_answers
unfolding cookie_bytes cookie_of_bytes
late_answers_go a b =
    (inr (inr (inr (inl refl))), own_tag_borne refl, tt)
    after (inl refl, own_tag_borne refl, tt)
    after performed_goes a b

late_answers_are_a_run : (a b : Options) → IsRun a b late_answers
late_answers_are_a_run a b = is_run (configured a) (configured b) late_answers (late_answers_go a b)

late_answers_end : (a b : Options) → end_of a b late_answers ≡ end_of a b performed
unfolding cookie_bytes cookie_of_bytes
late_answers_end a b = refl

-- ---- a reset that is deferred, and sent again under the next number (RFC 6525, section 5.2.7)

-- The next number comes after the data is there; an answer to the first number comes once more.
abbrev renewed : List Doing
renewed =
    gets at_a 7 (answer 101 SuccessPerformed) plain
    ∷ gets at_a 7 (answer 100 InProgress) plain
    ∷ gets at_b 9 (request 101) reached
    ∷ acts at_a (request_renewed wanted) plain
    ∷ deferred

renewed_goes : (a b : Options) → GoesOn a b renewed
unfolding cookie_bytes cookie_of_bytes
renewed_goes a b =
    (inl refl, own_tag_borne refl, tt)
    after (inr (inr (inr (inl refl))), own_tag_borne refl, tt)
    after (inl refl, own_tag_borne refl, tt)
    after tt
    after (inl refl, own_tag_borne refl, tt)
    after (inl refl, own_tag_borne refl, tt)
    after tt
    after four_packets_go a b

renewed_is_a_run : (a b : Options) → IsRun a b renewed
renewed_is_a_run a b = is_run (configured a) (configured b) renewed (renewed_goes a b)

-- The next number is outstanding.
renewed_at_a : (a b : Options) → (end_of a b (acts at_a (request_renewed wanted) plain ∷ deferred)).a.core ≡ open_in established one (held two 102 (Some 101) 199 SuccessNothingToDo)
unfolding cookie_bytes cookie_of_bytes
renewed_at_a a b = refl

renewed_end : (a b : Options) → end_of a b renewed
    ≡ record {
      a = side a (open_in established one (held two 102 None 199 SuccessNothingToDo)) (
          completes one 101
          ∷ sends (packet 9 (request 101)) ∷ begins 101 ∷ gives_up 100
          ∷ sends (packet 9 (request 100)) ∷ begins 100
          ∷ connects (link one two)
          ∷ sends (packet 9 (cookie_echo first_cookie)) ∷ holds (link one two)
          ∷ sends (packet 0 (init (introduction one))) ∷ draws one
          ∷ []);
      b = side b (open_in established two (held one 200 None 101 SuccessPerformed)) (
          sends (packet 7 (answer 101 SuccessPerformed)) ∷ performs one 101 ∷ accepts 101
          ∷ sends (packet 7 (answer 100 InProgress)) ∷ accepts 100
          ∷ sends (packet 7 cookie_ack) ∷ connects (link two one) ∷ holds (link two one)
          ∷ sends (packet 7 (init_ack (introduction two) (Some first_cookie))) ∷ draws two
          ∷ []);
    }
unfolding cookie_bytes cookie_of_bytes
renewed_end a b = refl

-- None is outstanding: there is nothing to renew.
none_is_renewed : (a b : Options) → end_of a b (acts at_a (request_renewed wanted) plain ∷ renewed) ≡ end_of a b renewed
unfolding cookie_bytes cookie_of_bytes
none_is_renewed a b = refl

-- ---- numbers that go round 2^32 (RFC 6525, section 4.1)

-- A's pair has the greatest TSN.
abbrev greatest : Pair
greatest = pair 7 4294967295

abbrev greatest_cookie : List ℕ
greatest_cookie = bytes_of two greatest 0

abbrev greatest_packets : List Doing
greatest_packets =
    gets at_a 7 cookie_ack plain
    ∷ gets at_b 9 (cookie_echo greatest_cookie) plain
    ∷ gets at_a 7 (init_ack (introduction two) (Some greatest_cookie)) plain
    ∷ gets at_b 0 (init (introduction greatest)) (with_cookie two greatest_cookie)
    ∷ acts at_a connect (with_drawn greatest)
    ∷ []

abbrev first_reset : List Doing
first_reset = gets at_b 9 (request 4294967295) reached ∷ acts at_a flushes (with_reset wanted) ∷ greatest_packets

abbrev both_resets : List Doing
both_resets =
    gets at_a 7 (answer 0 SuccessPerformed) plain
    ∷ gets at_b 9 (request 0) reached
    ∷ acts at_a flushes (with_reset wanted)
    ∷ gets at_a 7 (answer 4294967295 SuccessPerformed) plain
    ∷ first_reset

both_resets_go : (a b : Options) → GoesOn a b both_resets
unfolding cookie_bytes cookie_of_bytes
both_resets_go a b =
    (inl refl, own_tag_borne refl, tt)
    after (inl refl, own_tag_borne refl, tt)
    after tt
    after (inl refl, own_tag_borne refl, tt)
    after (inl refl, own_tag_borne refl, tt)
    after tt
    after (inl refl, own_tag_borne refl, tt)
    after (inl refl, echo_in_front greatest_cookie [] refl, tt)
    after (inl refl, own_tag_borne refl, tt)
    after (inl refl, init_alone (introduction greatest) refl, (cookie two greatest 0, refl, refl, refl, refl))
    after tt
    after tt

both_resets_are_a_run : (a b : Options) → IsRun a b both_resets
both_resets_are_a_run a b = is_run (configured a) (configured b) both_resets (both_resets_go a b)

last_before : (a b : Options) → (end_of a b greatest_packets).b.core ≡ open_in established two (new greatest 200 4294967294)
unfolding cookie_bytes cookie_of_bytes
last_before a b = refl

own_next_goes_round : (a b : Options) → (end_of a b first_reset).a.core ≡ open_in established greatest (held two 0 (Some 4294967295) 199 SuccessNothingToDo)
unfolding cookie_bytes cookie_of_bytes
own_next_goes_round a b = refl

last_after : (a b : Options) → (end_of a b first_reset).b.core ≡ open_in established two (held greatest 200 None 4294967295 SuccessPerformed)
unfolding cookie_bytes cookie_of_bytes
last_after a b = refl

both_resets_end : (a b : Options) → end_of a b both_resets
    ≡ record {
      a = side a (open_in established greatest (held two 1 None 199 SuccessNothingToDo)) (
          completes greatest 0 ∷ sends (packet 9 (request 0)) ∷ begins 0
          ∷ completes greatest 4294967295 ∷ sends (packet 9 (request 4294967295)) ∷ begins 4294967295
          ∷ connects (link greatest two)
          ∷ sends (packet 9 (cookie_echo greatest_cookie)) ∷ holds (link greatest two)
          ∷ sends (packet 0 (init (introduction greatest))) ∷ draws greatest
          ∷ []);
      b = side b (open_in established two (held greatest 200 None 0 SuccessPerformed)) (
          sends (packet 7 (answer 0 SuccessPerformed)) ∷ performs greatest 0 ∷ accepts 0
          ∷ sends (packet 7 (answer 4294967295 SuccessPerformed)) ∷ performs greatest 4294967295 ∷ accepts 4294967295
          ∷ sends (packet 7 cookie_ack) ∷ connects (link two greatest) ∷ holds (link two greatest)
          ∷ sends (packet 7 (init_ack (introduction two) (Some greatest_cookie))) ∷ draws two
          ∷ []);
    }
unfolding cookie_bytes cookie_of_bytes
both_resets_end a b = refl

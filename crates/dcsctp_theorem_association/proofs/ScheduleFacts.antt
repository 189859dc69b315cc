-- Outside examples of whole handshakes, computed by the definitions: a wrong rule in specs/ would
-- not check here.
use Rattle.std.proofs.Common.{◌≡◌, ℕ, false, Some, List, [], ◌∷◌, inl, refl, arith, codes}
use Rattle.dcsctp_spec_lemmas.specs.types.declared.association.Pair.{Pair}
use Rattle.dcsctp_spec_lemmas.specs.types.declared.options.Options.{Options}
use Rattle.dcsctp_spec_lemmas.specs.spec.Cookie.{cookie_bytes, cookie_of_bytes}
use Rattle.dcsctp_spec_lemmas.specs.types.declared.ends.AbortReason.TheVariants.{CloseCalled}
use Rattle.dcsctp_spec_lemmas.specs.spec.endpoint.Cause.{user_initiated_abort}
use Rattle.dcsctp_spec_lemmas.specs.spec.Packet.{init, init_ack, cookie_echo, cookie_ack, abort}
use Rattle.dcsctp_spec_lemmas.specs.spec.endpoint.Endpoint.{established, open_in}
use Rattle.dcsctp_spec_lemmas.specs.spec.association.Effect.{draws, sends, holds, connects, ends}
use Rattle.dcsctp_spec_lemmas.specs.spec.association.Acts.{connect, abort_with}
use Rattle.dcsctp_spec_runs.specs.World.{own_tag_borne, echo_in_front, init_alone, at_a, at_b}
use Rattle.dcsctp_theorem_association.proofs.Agreement.{FreshWorld}
use Rattle.dcsctp_theorem_association.proofs.Schedules.{pair, introduction, link, new, packet, cookie, bytes_of, plain, with_drawn, with_cookie, with_tie, Doing, acts, gets, configured, is_run, GoesOn, IsRun, ◌after◌, end_of, side}
use Rattle.dcsctp_theorem_association.proofs.ScheduleCounts.{tags_of, connections, fresh_where}

-- the pairs of A and of B
abbrev pub one : Pair
one = pair 7 100

abbrev pub two : Pair
two = pair 9 200

-- ---- the four packets (RFC 9260, section 5.1)

-- B's cookie for A
abbrev pub first_cookie : List ℕ
first_cookie = bytes_of two one 0

abbrev pub four_packets : List Doing
four_packets =
    gets at_a 7 cookie_ack plain
    ∷ gets at_b 9 (cookie_echo first_cookie) plain
    ∷ gets at_a 7 (init_ack (introduction two) (Some first_cookie)) plain
    ∷ gets at_b 0 (init (introduction one)) (with_cookie two first_cookie)
    ∷ acts at_a connect (with_drawn one)
    ∷ []

pub four_packets_go : (a b : Options) → GoesOn a b four_packets
unfolding cookie_bytes cookie_of_bytes
four_packets_go a b =
    (inl refl, own_tag_borne refl, tt)
    after (inl refl, echo_in_front first_cookie [] refl, tt)
    after (inl refl, own_tag_borne refl, tt)
    after (inl refl, init_alone (introduction one) refl, (cookie two one 0, refl, refl, refl, refl))
    after tt
    after tt

four_packets_are_a_run : (a b : Options) → IsRun a b four_packets
four_packets_are_a_run a b = is_run (configured a) (configured b) four_packets (four_packets_go a b)

four_packets_end : (a b : Options) → end_of a b four_packets
    ≡ record {
      a = side a (open_in established one (new two 100 199)) (
          connects (link one two)
          ∷ sends (packet 9 (cookie_echo first_cookie)) ∷ holds (link one two)
          ∷ sends (packet 0 (init (introduction one))) ∷ draws one
          ∷ []);
      b = side b (open_in established two (new one 200 99)) (
          sends (packet 7 cookie_ack) ∷ connects (link two one) ∷ holds (link two one)
          ∷ sends (packet 7 (init_ack (introduction two) (Some first_cookie))) ∷ draws two
          ∷ []);
    }
unfolding cookie_bytes cookie_of_bytes
four_packets_end a b = refl

-- INIT is sent under 0, the other three under the tag of the side that gets them.
four_packets_tags : (a b : Options) → tags_of a b four_packets ≡ 0 ∷ 7 ∷ 9 ∷ 7 ∷ []
unfolding cookie_bytes cookie_of_bytes
four_packets_tags a b = refl

four_packets_connect_a_once : (a b : Options) → connections (end_of a b four_packets).a.past ≡ link one two ∷ []
unfolding cookie_bytes cookie_of_bytes
four_packets_connect_a_once a b = refl

four_packets_connect_b_once : (a b : Options) → connections (end_of a b four_packets).b.past ≡ link two one ∷ []
unfolding cookie_bytes cookie_of_bytes
four_packets_connect_b_once a b = refl

-- ---- a restart (RFC 9260, sections 5.2.2 and 5.2.4, A)

abbrev pub new_one : Pair
new_one = pair 17 300

-- with a fresh tag and a TSN that is a million on
abbrev pub new_two : Pair
new_two = pair 19 1000200

-- B's second cookie, with the tie tag of the association that it holds
abbrev restart_cookie : List ℕ
restart_cookie = bytes_of new_two new_one 12

-- A's ABORT is lost.
abbrev restart_echoed : List Doing
restart_echoed =
    gets at_a 17 (init_ack (introduction new_two) (Some restart_cookie)) plain
    ∷ gets at_b 0 (init (introduction new_one)) (with_cookie new_two restart_cookie)
    ∷ acts at_a connect (with_drawn new_one)
    ∷ acts at_a (abort_with CloseCalled) plain
    ∷ four_packets

abbrev restart : List Doing
restart =
    gets at_a 17 cookie_ack plain
    ∷ gets at_b 19 (cookie_echo restart_cookie) (with_tie 12)
    ∷ restart_echoed

restart_echoed_goes : (a b : Options) → GoesOn a b restart_echoed
unfolding cookie_bytes cookie_of_bytes
restart_echoed_goes a b =
    (inl refl, own_tag_borne refl, tt)
    after (inl refl, init_alone (introduction new_one) refl, (cookie new_two new_one 12, refl, refl, refl, refl))
    after tt
    after tt
    after four_packets_go a b

-- The COOKIE ECHO carries the fresh tag, which isn't B's tag yet.
restart_goes : (a b : Options) → GoesOn a b restart
unfolding cookie_bytes cookie_of_bytes
restart_goes a b =
    (inl refl, own_tag_borne refl, tt)
    after (inl refl, echo_in_front restart_cookie [] refl, tt)
    after restart_echoed_goes a b

restart_is_a_run : (a b : Options) → IsRun a b restart
restart_is_a_run a b = is_run (configured a) (configured b) restart (restart_goes a b)

restart_end : (a b : Options) → end_of a b restart
    ≡ record {
      a = side a (open_in established new_one (new new_two 300 1000199)) (
          connects (link new_one new_two)
          ∷ sends (packet 19 (cookie_echo restart_cookie)) ∷ holds (link new_one new_two)
          ∷ sends (packet 0 (init (introduction new_one))) ∷ draws new_one
          ∷ ends ∷ sends (packet 9 (abort false (user_initiated_abort (codes "Close called") ∷ [])))
          ∷ connects (link one two)
          ∷ sends (packet 9 (cookie_echo first_cookie)) ∷ holds (link one two)
          ∷ sends (packet 0 (init (introduction one))) ∷ draws one
          ∷ []);
      b = side b (open_in established new_two (new new_one 1000200 299)) (
          sends (packet 17 cookie_ack) ∷ connects (link new_two new_one) ∷ holds (link new_two new_one)
          ∷ sends (packet 17 (init_ack (introduction new_two) (Some restart_cookie))) ∷ draws new_two
          ∷ sends (packet 7 cookie_ack) ∷ connects (link two one) ∷ holds (link two one)
          ∷ sends (packet 7 (init_ack (introduction two) (Some first_cookie))) ∷ draws two
          ∷ []);
    }
unfolding cookie_bytes cookie_of_bytes
restart_end a b = refl

restart_has_fresh_tags : (a b : Options) → FreshWorld (end_of a b restart)
unfolding cookie_bytes cookie_of_bytes
restart_has_fresh_tags a b =
    record {
      a = fresh_where (end_of a b restart).a.past ((λ same. absurd (omega (arith, same)), tt), (tt, tt));
      b = fresh_where (end_of a b restart).b.past ((λ same. absurd (omega (arith, same)), tt), (tt, tt));
    }

-- B held its association until the COOKIE ECHO came.
restart_echoed_end : (a b : Options) → (end_of a b restart_echoed).b.core ≡ open_in established two (new one 200 99)
unfolding cookie_bytes cookie_of_bytes
restart_echoed_end a b = refl

-- The tie tag is another one: B drops the COOKIE ECHO.
abbrev restart_of_another : List Doing
restart_of_another = gets at_b 19 (cookie_echo restart_cookie) (with_tie 13) ∷ restart_echoed

restart_of_another_goes : (a b : Options) → GoesOn a b restart_of_another
unfolding cookie_bytes cookie_of_bytes
restart_of_another_goes a b = (inl refl, echo_in_front restart_cookie [] refl, tt) after restart_echoed_goes a b

restart_of_another_is_a_run : (a b : Options) → IsRun a b restart_of_another
restart_of_another_is_a_run a b = is_run (configured a) (configured b) restart_of_another (restart_of_another_goes a b)

restart_of_another_end : (a b : Options) → end_of a b restart_of_another ≡ end_of a b restart_echoed
unfolding cookie_bytes cookie_of_bytes
restart_of_another_end a b = refl

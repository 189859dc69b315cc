-- Outside examples of two INITs that cross, computed by the definitions: a wrong rule in specs/
-- would not check here.
use Rattle.std.proofs.Common.{◌≡◌, ℕ, Some, List, [], ◌∷◌, inl, inr, refl, arith}
use Rattle.dcsctp_spec_lemmas.specs.types.declared.association.Pair.{Pair}
use Rattle.dcsctp_spec_lemmas.specs.types.declared.options.Options.{Options}
use Rattle.dcsctp_spec_lemmas.specs.spec.Cookie.{cookie_bytes, cookie_of_bytes}
use Rattle.dcsctp_spec_lemmas.specs.spec.Packet.{init, init_ack, cookie_echo, cookie_ack}
use Rattle.dcsctp_spec_lemmas.specs.spec.endpoint.Endpoint.{established, open_in}
use Rattle.dcsctp_spec_lemmas.specs.spec.association.Effect.{draws, sends, holds, connects}
use Rattle.dcsctp_spec_lemmas.specs.spec.association.Acts.{connect}
use Rattle.dcsctp_spec_runs.specs.World.{own_tag_borne, echo_in_front, init_alone, at_a, at_b}
use Rattle.dcsctp_theorem_association.proofs.Agreement.{FreshWorld}
use Rattle.dcsctp_theorem_association.proofs.Schedules.{pair, introduction, link, new, packet, cookie, bytes_of, plain, with_drawn, with_cookie, with_tie, Doing, acts, gets, configured, is_run, GoesOn, IsRun, ◌after◌, end_of, side}
use Rattle.dcsctp_theorem_association.proofs.ScheduleCounts.{tags_of, connections, fresh_where}
use Rattle.dcsctp_theorem_association.proofs.ScheduleFacts.{one, two, first_cookie}

-- ---- two that collide (RFC 9260, section 5.2.1)

-- A's cookie for B
abbrev cookie_for_b : List ℕ
cookie_for_b = bytes_of one two 0

-- Each side sends INIT before it gets the other's, and answers with its own pair. A's COOKIE ECHO comes first.
abbrev collision : List Doing
collision =
    gets at_a 7 cookie_ack plain
    ∷ gets at_b 9 (cookie_echo first_cookie) plain
    ∷ gets at_b 9 (init_ack (introduction one) (Some cookie_for_b)) plain
    ∷ gets at_a 7 (init_ack (introduction two) (Some first_cookie)) plain
    ∷ gets at_a 0 (init (introduction two)) (with_cookie (pair 1 1) cookie_for_b)
    ∷ gets at_b 0 (init (introduction one)) (with_cookie (pair 1 1) first_cookie)
    ∷ acts at_b connect (with_drawn two)
    ∷ acts at_a connect (with_drawn one)
    ∷ []

collision_goes : (a b : Options) → GoesOn a b collision
unfolding cookie_bytes cookie_of_bytes
collision_goes a b =
    (inl refl, own_tag_borne refl, tt)
    after (inl refl, own_tag_borne refl, tt)
    after (inr (inr (inl refl)), own_tag_borne refl, tt)
    after (inl refl, own_tag_borne refl, tt)
    after (inr (inl refl), init_alone (introduction two) refl, (cookie one two 0, refl, refl, refl, refl))
    after (inl refl, init_alone (introduction one) refl, (cookie two one 0, refl, refl, refl, refl))
    after tt
    after tt
    after tt

collision_is_a_run : (a b : Options) → IsRun a b collision
collision_is_a_run a b = is_run (configured a) (configured b) collision (collision_goes a b)

-- No pair but the first two is drawn, and each side connects once.
collision_end : (a b : Options) → end_of a b collision
    ≡ record {
      a = side a (open_in established one (new two 100 199)) (
          connects (link one two)
          ∷ sends (packet 9 (cookie_echo first_cookie)) ∷ holds (link one two)
          ∷ sends (packet 9 (init_ack (introduction one) (Some cookie_for_b)))
          ∷ sends (packet 0 (init (introduction one))) ∷ draws one
          ∷ []);
      b = side b (open_in established two (new one 200 99)) (
          sends (packet 7 cookie_ack) ∷ connects (link two one)
          ∷ sends (packet 7 (cookie_echo cookie_for_b)) ∷ holds (link two one)
          ∷ sends (packet 7 (init_ack (introduction two) (Some first_cookie)))
          ∷ sends (packet 0 (init (introduction two))) ∷ draws two
          ∷ []);
    }
unfolding cookie_bytes cookie_of_bytes
collision_end a b = refl

-- B's COOKIE ECHO and its answer come after that: neither side connects again.
abbrev both_echoes : List Doing
both_echoes = gets at_b 9 cookie_ack plain ∷ gets at_a 7 (cookie_echo cookie_for_b) plain ∷ collision

both_echoes_go : (a b : Options) → GoesOn a b both_echoes
unfolding cookie_bytes cookie_of_bytes
both_echoes_go a b =
    (inl refl, own_tag_borne refl, tt)
    after (inr (inr (inl refl)), own_tag_borne refl, tt)
    after collision_goes a b

both_echoes_are_a_run : (a b : Options) → IsRun a b both_echoes
both_echoes_are_a_run a b = is_run (configured a) (configured b) both_echoes (both_echoes_go a b)

both_echoes_tags : (a b : Options) → tags_of a b both_echoes ≡ 0 ∷ 0 ∷ 7 ∷ 9 ∷ 9 ∷ 7 ∷ 7 ∷ 9 ∷ []
unfolding cookie_bytes cookie_of_bytes
both_echoes_tags a b = refl

both_echoes_connect_a_once : (a b : Options) → connections (end_of a b both_echoes).a.past ≡ link one two ∷ []
unfolding cookie_bytes cookie_of_bytes
both_echoes_connect_a_once a b = refl

both_echoes_connect_b_once : (a b : Options) → connections (end_of a b both_echoes).b.past ≡ link two one ∷ []
unfolding cookie_bytes cookie_of_bytes
both_echoes_connect_b_once a b = refl

-- ---- a COOKIE ECHO that is discarded (RFC 9260, section 5.2.4, C)

-- B's pair after it connects
abbrev third : Pair
third = pair 11 500

-- A's cookie for it
abbrev third_cookie : List ℕ
third_cookie = bytes_of one third 0

-- B answers A's INIT, and then connects with another pair. A's COOKIE ECHO comes to B after A's INIT ACK.
abbrev overtaken : List Doing
overtaken =
    gets at_b 11 (init_ack (introduction one) (Some third_cookie)) plain
    ∷ gets at_a 0 (init (introduction third)) (with_cookie (pair 1 1) third_cookie)
    ∷ acts at_b connect (with_drawn third)
    ∷ gets at_a 7 (init_ack (introduction two) (Some first_cookie)) plain
    ∷ gets at_b 0 (init (introduction one)) (with_cookie two first_cookie)
    ∷ acts at_a connect (with_drawn one)
    ∷ []

abbrev discarded : List Doing
discarded = gets at_b 9 (cookie_echo first_cookie) (with_tie 12) ∷ overtaken

-- B's COOKIE ECHO then makes the association (RFC 9260, section 5.2.4, B).
abbrev settled : List Doing
settled = gets at_b 11 cookie_ack plain ∷ gets at_a 7 (cookie_echo third_cookie) plain ∷ discarded

settled_goes : (a b : Options) → GoesOn a b settled
unfolding cookie_bytes cookie_of_bytes
settled_goes a b =
    (inl refl, own_tag_borne refl, tt)
    after (inl refl, own_tag_borne refl, tt)
    after (inr (inl refl), echo_in_front first_cookie [] refl, tt)
    after (inl refl, own_tag_borne refl, tt)
    after (inl refl, init_alone (introduction third) refl, (cookie one third 0, refl, refl, refl, refl))
    after tt
    after (inl refl, own_tag_borne refl, tt)
    after (inl refl, init_alone (introduction one) refl, (cookie two one 0, refl, refl, refl, refl))
    after tt
    after tt

settled_is_a_run : (a b : Options) → IsRun a b settled
settled_is_a_run a b = is_run (configured a) (configured b) settled (settled_goes a b)

-- No COOKIE ACK is sent, and nothing changes.
discarded_end : (a b : Options) → end_of a b discarded ≡ end_of a b overtaken
unfolding cookie_bytes cookie_of_bytes
discarded_end a b = refl

settled_has_fresh_tags : (a b : Options) → FreshWorld (end_of a b settled)
unfolding cookie_bytes cookie_of_bytes
settled_has_fresh_tags a b =
    record {
      a = fresh_where (end_of a b settled).a.past (tt, tt);
      b = fresh_where (end_of a b settled).b.past ((λ same. absurd (omega (arith, same)), tt), (tt, tt));
    }

settled_end : (a b : Options) → end_of a b settled
    ≡ record {
      a = side a (open_in established one (new third 100 499)) (
          sends (packet 11 cookie_ack) ∷ connects (link one third) ∷ holds (link one third)
          ∷ sends (packet 11 (init_ack (introduction one) (Some third_cookie)))
          ∷ sends (packet 9 (cookie_echo first_cookie)) ∷ holds (link one two)
          ∷ sends (packet 0 (init (introduction one))) ∷ draws one
          ∷ []);
      b = side b (open_in established third (new one 500 99)) (
          connects (link third one)
          ∷ sends (packet 7 (cookie_echo third_cookie)) ∷ holds (link third one)
          ∷ sends (packet 0 (init (introduction third))) ∷ draws third
          ∷ sends (packet 7 (init_ack (introduction two) (Some first_cookie))) ∷ draws two
          ∷ []);
    }
unfolding cookie_bytes cookie_of_bytes
settled_end a b = refl

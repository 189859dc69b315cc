-- Outside examples of packets of an attempt that is over, computed by the definitions: an old
-- COOKIE ECHO, and a late COOKIE ACK. A wrong rule in specs/ would not check here.
use Rattle.std.proofs.Common.{◌≡◌, ℕ, false, Some, List, [], ◌∷◌, inl, inr, refl, ap, ◌∙◌, arith, codes}
use Rattle.dcsctp_spec_lemmas.specs.types.declared.association.Pair.{Pair}
use Rattle.dcsctp_spec_lemmas.specs.types.declared.options.Options.{Options}
use Rattle.dcsctp_spec_lemmas.specs.spec.Cookie.{cookie_bytes, cookie_of_bytes}
use Rattle.dcsctp_spec_lemmas.specs.types.declared.ends.AbortReason.TheVariants.{CloseCalled}
use Rattle.dcsctp_spec_lemmas.specs.spec.endpoint.Cause.{user_initiated_abort}
use Rattle.dcsctp_spec_lemmas.specs.spec.Packet.{Content, init, init_ack, cookie_echo, cookie_ack, abort}
use Rattle.dcsctp_spec_lemmas.specs.spec.endpoint.Endpoint.{closed, established, open_in}
use Rattle.dcsctp_spec_lemmas.specs.spec.association.Effect.{AssociationIdentity, draws, sends, holds, connects, ends}
use Rattle.dcsctp_spec_lemmas.specs.spec.association.Acts.{connect, abort_with}
use Rattle.dcsctp_spec_runs.specs.Past.{HasEffect, HasFreshTags}
use Rattle.dcsctp_spec_runs.specs.World.{own_tag_borne, echo_in_front, init_alone, at_a, at_b}
use Rattle.dcsctp_theorem_association.specs.Agreement.{FindsCrossed, ConnectsCrossed}
use Rattle.dcsctp_theorem_association.proofs.Agreement.{FreshWorld}
use Rattle.dcsctp_theorem_association.proofs.Schedules.{pair, introduction, link, new, packet, cookie, bytes_of, plain, with_drawn, with_cookie, with_tie, Doing, acts, gets, configured, is_run, GoesOn, IsRun, ◌after◌, end_of, side}
use Rattle.dcsctp_theorem_association.proofs.ScheduleCounts.{Among, holdings, held_among, fresh_where}
use Rattle.dcsctp_theorem_association.proofs.ScheduleFacts.{one, two, new_two, first_cookie, four_packets, four_packets_go}

-- an ABORT without a text
abbrev aborted : Content
aborted = abort false (user_initiated_abort (codes "Close called") ∷ [])

-- ---- an old cookie

-- The sides abort, both ABORTs are lost, and A's COOKIE ECHO comes to B once more.
abbrev replay : List Doing
replay =
    gets at_b 9 (cookie_echo first_cookie) plain
    ∷ acts at_b (abort_with CloseCalled) plain
    ∷ acts at_a (abort_with CloseCalled) plain
    ∷ four_packets

replay_goes : (a b : Options) → GoesOn a b replay
unfolding cookie_bytes cookie_of_bytes
replay_goes a b =
    (inr (inr (inr (inl refl))), echo_in_front first_cookie [] refl, tt)
    after tt
    after tt
    after four_packets_go a b

replay_is_a_run : (a b : Options) → IsRun a b replay
replay_is_a_run a b = is_run (configured a) (configured b) replay (replay_goes a b)

-- B connects once more, and A is closed.
replay_end : (a b : Options) → end_of a b replay
    ≡ record {
      a = side a closed (
          ends ∷ sends (packet 9 aborted)
          ∷ connects (link one two)
          ∷ sends (packet 9 (cookie_echo first_cookie)) ∷ holds (link one two)
          ∷ sends (packet 0 (init (introduction one))) ∷ draws one
          ∷ []);
      b = side b (open_in established two (new one 200 99)) (
          sends (packet 7 cookie_ack) ∷ connects (link two one) ∷ holds (link two one)
          ∷ ends ∷ sends (packet 7 aborted)
          ∷ sends (packet 7 cookie_ack) ∷ connects (link two one) ∷ holds (link two one)
          ∷ sends (packet 7 (init_ack (introduction two) (Some first_cookie))) ∷ draws two
          ∷ []);
    }
unfolding cookie_bytes cookie_of_bytes
replay_end a b = refl

replay_has_fresh_tags : (a b : Options) → FreshWorld (end_of a b replay)
unfolding cookie_bytes cookie_of_bytes
replay_has_fresh_tags a b = record { a = fresh_where (end_of a b replay).a.past (tt, tt); b = fresh_where (end_of a b replay).b.past (tt, tt) }

-- The association that matches B's is in A's past.
replay_is_found : (a b : Options) → FindsCrossed (end_of a b replay).b (end_of a b replay).a (link two one)
unfolding cookie_bytes cookie_of_bytes
replay_is_found a b =
    record { other = link one two; held = inr (inr (inr (inr (inl refl)))); crossed = record { my = refl; peer = refl }; capabilities = refl; other_capabilities = refl }

-- ---- a tag that is drawn twice

-- A's second pair has the tag of its first.
abbrev again : Pair
again = pair 7 101

abbrev second_cookie : List ℕ
second_cookie = bytes_of new_two again 12

-- A aborts before the COOKIE ACK comes, and connects again. B holds its association and answers. Then the
-- COOKIE ACK of the first attempt comes to A.
abbrev late_ack : List Doing
late_ack =
    gets at_a 7 cookie_ack plain
    ∷ gets at_a 7 (init_ack (introduction new_two) (Some second_cookie)) plain
    ∷ gets at_b 0 (init (introduction again)) (with_cookie new_two second_cookie)
    ∷ acts at_a connect (with_drawn again)
    ∷ acts at_a (abort_with CloseCalled) plain
    ∷ gets at_b 9 (cookie_echo first_cookie) plain
    ∷ gets at_a 7 (init_ack (introduction two) (Some first_cookie)) plain
    ∷ gets at_b 0 (init (introduction one)) (with_cookie two first_cookie)
    ∷ acts at_a connect (with_drawn one)
    ∷ []

late_ack_goes : (a b : Options) → GoesOn a b late_ack
unfolding cookie_bytes cookie_of_bytes
late_ack_goes a b =
    (inr (inr (inl refl)), own_tag_borne refl, tt)
    after (inl refl, own_tag_borne refl, tt)
    after (inl refl, init_alone (introduction again) refl, (cookie new_two again 12, refl, refl, refl, refl))
    after tt
    after tt
    after (inl refl, echo_in_front first_cookie [] refl, tt)
    after (inl refl, own_tag_borne refl, tt)
    after (inl refl, init_alone (introduction one) refl, (cookie two one 0, refl, refl, refl, refl))
    after tt
    after tt

late_ack_is_a_run : (a b : Options) → IsRun a b late_ack
late_ack_is_a_run a b = is_run (configured a) (configured b) late_ack (late_ack_goes a b)

late_ack_end : (a b : Options) → end_of a b late_ack
    ≡ record {
      a = side a (open_in established again (new new_two 101 1000199)) (
          connects (link again new_two)
          ∷ sends (packet 19 (cookie_echo second_cookie)) ∷ holds (link again new_two)
          ∷ sends (packet 0 (init (introduction again))) ∷ draws again
          ∷ ends ∷ sends (packet 9 aborted)
          ∷ sends (packet 9 (cookie_echo first_cookie)) ∷ holds (link one two)
          ∷ sends (packet 0 (init (introduction one))) ∷ draws one
          ∷ []);
      b = side b (open_in established two (new one 200 99)) (
          sends (packet 7 (init_ack (introduction new_two) (Some second_cookie))) ∷ draws new_two
          ∷ sends (packet 7 cookie_ack) ∷ connects (link two one) ∷ holds (link two one)
          ∷ sends (packet 7 (init_ack (introduction two) (Some first_cookie))) ∷ draws two
          ∷ []);
    }
unfolding cookie_bytes cookie_of_bytes
late_ack_end a b = refl

late_ack_connects : (a b : Options) → HasEffect (connects (link again new_two)) (end_of a b late_ack).a.past
unfolding cookie_bytes cookie_of_bytes
late_ack_connects a b = inl refl

-- B held one association, whose peer is A's first pair.
late_ack_held : (a b : Options) → holdings (end_of a b late_ack).b.past ≡ link two one ∷ []
unfolding cookie_bytes cookie_of_bytes
late_ack_held a b = refl

-- It isn't crossed with A's.
peer_differs : (other : AssociationIdentity) → Among other (link two one ∷ []) → again ≡ other.peer → ⊥
peer_differs other (inl is) crossed =
    let same : again.first_tsn ≡ one.first_tsn = ap (λ (p : Pair). p.first_tsn) (crossed ∙ ap (λ (l : AssociationIdentity). l.peer) is) in absurd (omega (arith, same))
peer_differs other (inr none) crossed = absurd none

late_ack_is_not_found : (a b : Options) → FindsCrossed (end_of a b late_ack).a (end_of a b late_ack).b (link again new_two) → ⊥
unfolding cookie_bytes cookie_of_bytes
late_ack_is_not_found a b found = peer_differs found.other (held_among (end_of a b late_ack).b.past found.other found.held) found.crossed.my

late_ack_is_not_crossed : (a b : Options) → ConnectsCrossed (end_of a b late_ack).a (end_of a b late_ack).b → ⊥
late_ack_is_not_crossed a b crossed = late_ack_is_not_found a b (crossed (link again new_two) (late_ack_connects a b))

-- So fresh tags at one side aren't enough: B's are fresh and A's aren't.
late_ack_fresh_at_b : (a b : Options) → HasFreshTags (end_of a b late_ack).b.past
unfolding cookie_bytes cookie_of_bytes
late_ack_fresh_at_b a b = fresh_where (end_of a b late_ack).b.past ((λ same. absurd (omega (arith, same)), tt), (tt, tt))

late_ack_has_no_fresh_tags : (a b : Options) → HasFreshTags (end_of a b late_ack).a.past → ⊥
unfolding cookie_bytes cookie_of_bytes
late_ack_has_no_fresh_tags a b fresh = fresh.1.1.1.1.0 one (inr (inr (inr (inr (inr (inl refl)))))) refl

-- B drops A's second COOKIE ECHO: its peer tag is that of the association, and its tag is another.
abbrev second_echo : List Doing
second_echo = gets at_b 19 (cookie_echo second_cookie) (with_tie 12) ∷ late_ack

second_echo_goes : (a b : Options) → GoesOn a b second_echo
unfolding cookie_bytes cookie_of_bytes
second_echo_goes a b = (inr (inl refl), echo_in_front second_cookie [] refl, tt) after late_ack_goes a b

second_echo_is_a_run : (a b : Options) → IsRun a b second_echo
second_echo_is_a_run a b = is_run (configured a) (configured b) second_echo (second_echo_goes a b)

second_echo_end : (a b : Options) → end_of a b second_echo ≡ end_of a b late_ack
unfolding cookie_bytes cookie_of_bytes
second_echo_end a b = refl

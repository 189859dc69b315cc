-- What admission accepts may be handled in the machine that agreement runs on.
use Rattle.std.proofs.Common.{◌≡◌, ◌==◌, ℕ, Bool, true, false, Option, None, Some, List, [], ◌∷◌, inl, inr, refl, arith}
use Rattle.std.proofs.lemmas.Bool.Decides.{nat_tests}
use Rattle.dcsctp_spec_lemmas.specs.types.declared.options.Options.{Options}
use Rattle.dcsctp_spec_lemmas.specs.spec.endpoint.Endpoint.{Core, closed, cookie_wait, cookie_echoed, open_in, own_tag}
use Rattle.dcsctp_spec_lemmas.specs.spec.Packet.{Content, init, cookie_echo, abort, shutdown_ack, shutdown_complete, Packet}
use Rattle.dcsctp_spec_lemmas.specs.spec.Admission.{all_chunks, shutdown_acks_alone, first_abort, first_shutdown_complete, has_shutdown_ack, shutdown_acks_of, is_echo_in_front, is_single_init, is_own_tag, bears_tag, abort_text, shutdown_complete_text, shutdown_ack_text, single_init_text, wrong_tag_text, all_chunks_or_none, admits_shutdown_ack, admission_by_answers, admits}
use Rattle.dcsctp_spec_runs.specs.World.{HasEnding, MayBeHandled, own_tag_borne, echo_in_front, init_alone, ending_in}
use Rattle.dcsctp_spec_lemmas.specs.spec.association.Acts.{chunk_change}
use Rattle.dcsctp_spec_lemmas.specs.spec.association.Choices.{Choices}
use Rattle.dcsctp_spec_lemmas.specs.spec.association.ShutdownChanges.{reflected_change}
use Rattle.dcsctp_spec_runs.specs.Laws.{AdmittedPacketsMayBeHandled}

-- ---- packets with an ending chunk

ends_by_abort : (contents : List Content) (reflected : Bool) → first_abort contents ≡ Some reflected → HasEnding contents
ends_by_abort [] reflected is = absurd (cc)
ends_by_abort (abort t causes ∷ contents) reflected is = inl tt
ends_by_abort (content ∷ contents) reflected is = inr (ends_by_abort contents reflected is)

ends_by_shutdown_complete : (contents : List Content) (reflected : Bool) → first_shutdown_complete contents ≡ Some reflected → HasEnding contents
ends_by_shutdown_complete [] reflected is = absurd (cc)
ends_by_shutdown_complete (shutdown_complete t ∷ contents) reflected is = inl tt
ends_by_shutdown_complete (content ∷ contents) reflected is = inr (ends_by_shutdown_complete contents reflected is)

ends_by_shutdown_ack : (contents : List Content) → has_shutdown_ack contents ≡ true → HasEnding contents
ends_by_shutdown_ack [] is = absurd (cc)
ends_by_shutdown_ack (shutdown_ack ∷ contents) is = inl tt
ends_by_shutdown_ack (content ∷ contents) is = inr (ends_by_shutdown_ack contents is)

shutdown_acks_end : (contents : List Content) → has_shutdown_ack contents ≡ true → HasEnding (shutdown_acks_of contents)
shutdown_acks_end [] is = absurd (cc)
shutdown_acks_end (shutdown_ack ∷ contents) is = inl tt
shutdown_acks_end (content ∷ contents) is = shutdown_acks_end contents is

-- ---- by the line that decides

echo_may : (core : Core) (tag : ℕ) (contents : List Content) → is_echo_in_front contents ≡ true → MayBeHandled core (record { tag = tag; contents = contents })
echo_may core tag [] is = absurd (cc)
echo_may core tag (cookie_echo cookie ∷ contents) is = echo_in_front cookie contents refl
echo_may core tag (content ∷ contents) is = absurd (cc)

init_may : (core : Core) (tag : ℕ) (contents : List Content) → is_single_init contents ≡ true → MayBeHandled core (record { tag = tag; contents = contents })
init_may core tag [] is = absurd (cc)
init_may core tag (init theirs ∷ []) is = init_alone theirs refl
init_may core tag (content ∷ []) is = absurd (cc)
init_may core tag (content ∷ next ∷ contents) is = absurd (cc)

holds_where : (test : Bool) (text : List ℕ) → all_chunks_or_none test text ≡ all_chunks → test ≡ true
holds_where true text is = refl
holds_where false text is = absurd (cc)

never_cut : (test : Bool) (text : List ℕ) → all_chunks_or_none test text ≡ shutdown_acks_alone → ⊥
never_cut true text is = cc
never_cut false text is = cc

own_tag_may : (core : Core) (packet : Packet) → is_own_tag core packet.tag ≡ true → MayBeHandled core packet
own_tag_may core packet is = own_tag_borne (grind (arith, nat_tests))

line_may : (core : Core) (packet : Packet) (aborts completes : Option Bool) (acks echo zero : Bool)
    → first_abort packet.contents ≡ aborts → first_shutdown_complete packet.contents ≡ completes → has_shutdown_ack packet.contents ≡ acks → is_echo_in_front packet.contents ≡ echo
    → admission_by_answers core packet aborts completes acks echo zero ≡ all_chunks → MayBeHandled core packet
line_may core packet (Some reflected) completes acks echo zero a c s e is = ending_in (ends_by_abort packet.contents reflected a)
line_may core packet None (Some reflected) acks echo zero a c s e is = ending_in (ends_by_shutdown_complete packet.contents reflected c)
line_may core packet None None true echo zero a c s e is = ending_in (ends_by_shutdown_ack packet.contents s)
line_may core packet None None false true zero a c s e is = echo_may core packet.tag packet.contents e
line_may core packet None None false false true a c s e is = init_may core packet.tag packet.contents (holds_where (is_single_init packet.contents) single_init_text is)
line_may core packet None None false false false a c s e is =
    own_tag_may core packet (holds_where (is_own_tag core packet.tag) (wrong_tag_text packet.tag (own_tag core)) is)

whole_may : (core : Core) (packet : Packet) → admits core packet ≡ all_chunks → MayBeHandled core packet
whole_may core packet is =
    let contents = packet.contents in
    line_may core packet (first_abort contents) (first_shutdown_complete contents) (has_shutdown_ack contents) (is_echo_in_front contents) (packet.tag == 0) refl refl refl refl is

-- ---- the line for SHUTDOWN ACK, which alone cuts

cut_by_shutdown_ack : (core : Core) (packet : Packet) (aborts completes : Option Bool) (acks echo zero : Bool)
    → admission_by_answers core packet aborts completes acks echo zero ≡ shutdown_acks_alone → (acks ≡ true) × (admits_shutdown_ack core packet.tag ≡ shutdown_acks_alone)
cut_by_shutdown_ack core packet (Some reflected) completes acks echo zero is = absurd (never_cut (bears_tag core packet.tag reflected) abort_text is)
cut_by_shutdown_ack core packet None (Some reflected) acks echo zero is = absurd (never_cut (bears_tag core packet.tag reflected) shutdown_complete_text is)
cut_by_shutdown_ack core packet None None true echo zero is = (refl, is)
cut_by_shutdown_ack core packet None None false true zero is = absurd (cc)
cut_by_shutdown_ack core packet None None false false true is = absurd (never_cut (is_single_init packet.contents) single_init_text is)
cut_by_shutdown_ack core packet None None false false false is = absurd (never_cut (is_own_tag core packet.tag) (wrong_tag_text packet.tag (own_tag core)) is)

where_cut : (core : Core) (packet : Packet) → admits core packet ≡ shutdown_acks_alone → (has_shutdown_ack packet.contents ≡ true) × (admits_shutdown_ack core packet.tag ≡ shutdown_acks_alone)
where_cut core packet is =
    let contents = packet.contents in
    cut_by_shutdown_ack core packet (first_abort contents) (first_shutdown_complete contents) (has_shutdown_ack contents) (is_echo_in_front contents) (packet.tag == 0) is

cut_may : (core : Core) (packet : Packet) → admits core packet ≡ shutdown_acks_alone → MayBeHandled core (record packet { contents = shutdown_acks_of packet.contents })
cut_may core packet is = ending_in (shutdown_acks_end packet.contents (where_cut core packet is).0)

-- Where a SHUTDOWN ACK is cut out, it is answered.
answered_where : (options : Options) (core : Core) (header : ℕ) (choices : Choices) → admits_shutdown_ack core header ≡ shutdown_acks_alone
    → chunk_change options core header shutdown_ack choices ≡ reflected_change core header choices.following
answered_where options closed header choices is = refl
answered_where options (cookie_wait my) header choices is = refl
answered_where options (cookie_echoed my held cookie) header choices is = refl
answered_where options (open_in phase my held) header choices is = absurd (never_cut (is_own_tag (open_in phase my held) header) shutdown_ack_text is)

pub admitted_packets_may_be_worked : AdmittedPacketsMayBeHandled
admitted_packets_may_be_worked =
    record {
      whole = whole_may;
      cut = cut_may;
      answered = λ options core packet choices is. answered_where options core packet.tag choices (where_cut core packet is).1;
    }

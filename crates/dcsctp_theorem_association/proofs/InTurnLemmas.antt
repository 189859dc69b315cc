-- The four packets in turn connect two fresh sides.
use Rattle.std.proofs.Common.{◌≡◌, ◌==◌, ℕ, Bool, true, List, [], ◌∷◌, inl, refl, sym, subst, ap, ◌∙◌, Result, Ok, arith}
use Rattle.std.proofs.lemmas.Bool.Decides.{nat_tests}
use Rattle.dcsctp_spec_lemmas.specs.types.declared.options.Options.{Options}
use Rattle.dcsctp_spec_lemmas.specs.types.declared.capabilities.Capabilities.{Capabilities}
use Rattle.dcsctp_spec_lemmas.specs.types.declared.association.Pair.{Pair}
use Rattle.dcsctp_spec_lemmas.specs.types.Offer.{Offer, offer_of}
use Rattle.dcsctp_spec_runs.specs.Laws.{AnswerKeepsAgreement}
use Rattle.dcsctp_spec_lemmas.specs.spec.Cookie.{Cookie, cookie_of_bytes}
use Rattle.dcsctp_spec_lemmas.specs.spec.endpoint.Endpoint.{closed, open_in, established}
use Rattle.dcsctp_spec_lemmas.specs.spec.association.Effect.{Change}
use Rattle.dcsctp_spec_lemmas.specs.spec.association.HandshakeChanges.{introduction_of, new_held}
use Rattle.dcsctp_spec_lemmas.specs.spec.association.Acts.{connect}
use Rattle.dcsctp_spec_lemmas.specs.spec.association.CookieEchoChanges.{case_without_peer, resolved_change, read_echo_change, new_association_change}
use Rattle.dcsctp_spec_runs.specs.World.{own_tag_borne, echo_in_front, init_alone, worked_whole, does, at_a, at_b, WorldStep, world_after, WorldRun}
use Rattle.dcsctp_theorem_association.specs.InTurn.{Handshake, choices_for, CookieReads, connecting, init_handled, init_ack_handled, cookie_echo_handled, delivery_in_turn, AreConnectedOnce, HandshakeConnects, sent_first, change_of_packet}

same_number : (n : ℕ) → (n == n) ≡ true
same_number n = grind (arith, nat_tests)

-- a cookie of the two pairs and of the first side's offer, with what it says else
abbrev made : Options → Handshake → ℕ → ℕ → ℕ → Cookie
made options_a handshake window tie moment = record { maker = handshake.b; addressee = handshake.a; offer = offer_of options_a; window = window; tie = tie; moment = moment }

reads_as_made : (options_a : Options) (handshake : Handshake) (reads : CookieReads options_a handshake)
    → cookie_of_bytes handshake.cookie ≡ Ok (made options_a handshake reads.0.window reads.0.tie reads.0.moment)
reads_as_made options_a handshake reads =
    let cookie : Cookie = reads.0 in
    reads.1 ∙ ap (λ (c : Cookie). let r : Result Cookie (List ℕ) = Ok c in r)
    (ap (λ (p : Pair). let c : Cookie = record cookie { maker = p } in c) reads.2
    ∙ ap (λ (p : Pair). let c : Cookie = record cookie { maker = handshake.b; addressee = p } in c) reads.3
    ∙ ap (λ (o : Offer). let c : Cookie = record cookie { maker = handshake.b; addressee = handshake.a; offer = o } in c) reads.4)

-- COOKIE ECHO makes the association
establishes : (options_a options_b : Options) (handshake : Handshake) (reads : CookieReads options_a handshake)
    → cookie_echo_handled options_a options_b handshake ≡ new_association_change options_b (made options_a handshake reads.0.window reads.0.tie reads.0.moment) (choices_for handshake handshake.b)
establishes options_a options_b handshake reads =
    ap (λ (r : Result Cookie (List ℕ)). read_echo_change options_b closed handshake.b.tag r (choices_for handshake handshake.b)) (reads_as_made options_a handshake reads)
    ∙ ap (λ (b : Bool). resolved_change options_b closed (made options_a handshake reads.0.window reads.0.tie reads.0.moment) (choices_for handshake handshake.b) (case_without_peer b)) (same_number handshake.b.tag)

-- the steps, by what the COOKIE ECHO brings
abbrev steps_from : Options → Options → Handshake → Change → List WorldStep
steps_from options_a options_b handshake echoed =
    delivery_in_turn at_a echoed (change_of_packet options_a (init_ack_handled options_a options_b handshake).core (sent_first echoed.effects) (choices_for handshake handshake.a))
    ∷ delivery_in_turn at_b (init_ack_handled options_a options_b handshake) echoed
    ∷ delivery_in_turn at_a (init_handled options_a options_b handshake) (init_ack_handled options_a options_b handshake)
    ∷ delivery_in_turn at_b (connecting options_a options_b handshake) (init_handled options_a options_b handshake)
    ∷ record { side = at_a; move = does connect; changes = connecting options_a options_b handshake ∷ [] }
    ∷ []

-- and what they lead to
record Leads (options_a options_b : Options) (handshake : Handshake) (echoed : Change) : Type 0 where
  run : WorldRun options_a options_b (steps_from options_a options_b handshake echoed)
  connected : AreConnectedOnce options_a options_b handshake (world_after options_a options_b (steps_from options_a options_b handshake echoed))

leads : AnswerKeepsAgreement → (options_a options_b : Options) (handshake : Handshake) (reads : CookieReads options_a handshake)
    → Leads options_a options_b handshake (new_association_change options_b (made options_a handshake reads.0.window reads.0.tie reads.0.moment) (choices_for handshake handshake.b))
leads law options_a options_b handshake reads =
    record {
      run = (
        (inl refl, worked_whole (own_tag_borne refl) ((choices_for handshake handshake.a, tt, refl), tt)),
        (
          (inl refl, worked_whole (echo_in_front handshake.cookie [] refl) ((choices_for handshake handshake.b, tt, sym (establishes options_a options_b handshake reads)), tt)),
          (
            (inl refl, worked_whole (own_tag_borne refl) ((choices_for handshake handshake.a, tt, refl), tt)),
            (
              (inl refl, worked_whole (init_alone (introduction_of options_a handshake.a) refl) ((choices_for handshake handshake.b, reads, refl), tt)),
              ((choices_for handshake handshake.a, refl), tt),
            ),
          ),
        ),
      );
      connected = record {
        a = ap (λ (c : Capabilities). open_in established handshake.a (new_held handshake.a handshake.b c)) (law (offer_of options_a) (offer_of options_b));
        b = refl;
        a_once = refl;
        b_once = refl;
      };
    }

pub handshake_connects : AnswerKeepsAgreement → HandshakeConnects
handshake_connects law options_a options_b handshake reads =
    let h : Leads options_a options_b handshake (cookie_echo_handled options_a options_b handshake) =
    subst (Leads options_a options_b handshake) (sym (establishes options_a options_b handshake reads)) (leads law options_a options_b handshake reads) in
    record { run = h.run; connected = h.connected }

-- A turn in which an association of the receiver begins or ends, as what becomes of the sender's
-- requests.
use Rattle.dcsctp_spec_lemmas.specs.spec.association.Effect as effects
use Rattle.std.proofs.Common.{◌≡◌, ◌≢◌, ℕ, ◌%◌, ◌^◌, Option, None, Some, List, ◌∷◌, refl, sym, ◌∙◌, ap, subst, arith, inl, inr}
use Rattle.std.specs.Prelude.{◌⊎◌, ◌||◌}
use Rattle.dcsctp_spec_lemmas.specs.types.declared.association.Pair.{Pair}
use Rattle.dcsctp_spec_lemmas.specs.spec.endpoint.Endpoint.{Endpoint}
use Rattle.dcsctp_spec_lemmas.specs.spec.endpoint.Outcome.{Outcome}
use Rattle.dcsctp_spec_lemmas.specs.spec.Packet.{Content, init, init_ack, cookie_echo, cookie_ack, re_config, abort, shutdown, shutdown_ack, shutdown_complete, plain}
use Rattle.dcsctp_spec_runs.specs.Past.{WasPerformed, HasEffect, number_to_accept, number_to_perform}
use Rattle.dcsctp_spec_lemmas.specs.spec.endpoint.Turn.{Input, Turn}
use Rattle.dcsctp_spec_runs.specs.World.{after_effects}
use Rattle.dcsctp_spec_lemmas.specs.spec.association.Effect.{AssociationIdentity, Effect, holds, identity_of, identity_of_core}
use Rattle.dcsctp_spec_lemmas.specs.spec.queues.Transfer.{Transfer}
use Rattle.dcsctp_delivery_directions.specs.sending.Places.{table_with}
use Rattle.dcsctp_delivery_directions.proofs.sending.Places.{decide, set_same, set_other}
use Rattle.dcsctp_delivery_directions.specs.directions.Directions.{nothing_asked}
use Rattle.dcsctp_delivery_sockets.specs.turns.Actions.{IsOpening, content_of_input, IsCall, IsCalm}
use Rattle.dcsctp_delivery_sockets.specs.turns.PeerRequests.{NoneAsked}
use Rattle.dcsctp_delivery_sockets.specs.turns.Runs.{OpensAssociation}
use Rattle.dcsctp_delivery_sockets.proofs.turns.Holding.{holds_mean, ends_mean}
use Rattle.dcsctp_delivery_sockets.proofs.turns.PeersTurns.{calm_asks_nothing}
use Rattle.dcsctp_delivery_sockets.specs.associations.Ends.{ReceivingEnd, Ends, sender_key, NewTag}
use Rattle.dcsctp_delivery_sockets.specs.associations.Answered.{Requests, request_numbered, SenderHadPeer, AnswersRequests, requests_of, waiting_deferral, AreAnswered}
use Rattle.dcsctp_delivery_sockets.proofs.associations.UnaskedPasts.{first_numbers}
use Rattle.dcsctp_delivery_sockets.proofs.associations.AnsweringRests as answering
use Rattle.dcsctp_delivery_sockets.proofs.associations.AnsweringRests.{none_performed, same_requests}
use Rattle.dcsctp_delivery_sockets.proofs.associations.AnsweringOpens.{IsCrossedOrAwaited, opens_anew}
use Rattle.dcsctp_delivery_sockets.proofs.associations.Senders.{link_tag}

-- No RE-CONFIG begins an association.
pub opening_calm : (came : Option Content) → IsOpening came → IsCalm came
opening_calm (Some (init_ack theirs cookie)) opening parameters is = absurd (cc)
opening_calm (Some (cookie_echo cookie)) opening parameters is = absurd (cc)
opening_calm None opening parameters is = absurd opening
opening_calm (Some (init introduction)) opening parameters is = absurd opening
opening_calm (Some cookie_ack) opening parameters is = absurd opening
opening_calm (Some (re_config asked)) opening parameters is = absurd opening
opening_calm (Some (abort reflected causes)) opening parameters is = absurd opening
opening_calm (Some (shutdown tsn)) opening parameters is = absurd opening
opening_calm (Some shutdown_ack) opening parameters is = absurd opening
opening_calm (Some (shutdown_complete reflected)) opening parameters is = absurd opening
opening_calm (Some (plain chunk)) opening parameters is = absurd opening

module _ (ends : Ends) (e : Endpoint) (past : List Effect) (d : Endpoint) (their_past : List Effect) (w : AreAnswered ends e past d their_past) (input : Input) (o : Outcome) (may : IsCall input) (turn : Turn d input o) where
  abbrev Later : List Effect
  Later = after_effects o.effects their_past

  -- ---- none is left

  pub rests_answered : identity_of_core o.after.core ≡ None → ((my : Pair) (number : ℕ) → WasPerformed my number o.effects → ⊥) → AreAnswered ends e past o.after (after_effects o.effects their_past)
  rests_answered none no_performs =
      record {
        pairs = w.pairs;
        answers = subst (λ (l : Option AssociationIdentity). AnswersRequests (requests_of ends w.pairs) (identity_of_core e.core) past l (after_effects o.effects their_past) (waiting_deferral o.after.queues.transfer)) (sym none)
            (answering.rests (requests_of ends w.pairs) (identity_of_core e.core) past (identity_of_core d.core) o.effects their_past (waiting_deferral d.queues.transfer) (waiting_deferral o.after.queues.transfer) w.answers
            (λ link has. (let clash : ◌≡◌ {A = Option AssociationIdentity} None (Some link) = sym none ∙ holds_mean d input o link may turn has in absurd (cc))) no_performs);
        unlinked = λ gone. none;
      }

  -- ---- one begins

  module _ (opens : OpensAssociation d input o) (is : NewTag their_past past (identity_of opens.begun.my opens.begun.held)) (gets : ℕ → ReceivingEnd) (firsts : ℕ → ℕ)
      (first_is : firsts opens.begun.held.peer.tag ≡ opens.begun.held.peer.first_tsn) (others : (tag : ℕ) → tag ≢ opens.begun.held.peer.tag → firsts tag ≡ ends.firsts tag)
      (which : (ends.firsts opens.begun.held.peer.tag ≡ opens.begun.held.peer.first_tsn) ⊎ (((ends.sends opens.begun.held.peer.tag).asking ≡ nothing_asked) × (opens.begun.held.peer.tag ≢ sender_key e.core))) where
    abbrev new : AssociationIdentity
    new = identity_of opens.begun.my opens.begun.held

    abbrev t : ℕ
    t = opens.begun.held.peer.tag

    noted : HasEffect (holds new) o.effects
    noted = subst (HasEffect (holds new)) (sym opens.begun.noted) (inl refl)

    only : (link : AssociationIdentity) → HasEffect (holds link) o.effects → link ≡ new
    only link has = one_link (holds_mean d input o link may turn has) opens.linked
      where
        one_link : {found : Option AssociationIdentity} {one two : AssociationIdentity} → found ≡ Some one → found ≡ Some two → one ≡ two
        one_link first second = cc

    none_ends : HasEffect effects.ends o.effects → ⊥
    none_ends has = (let clash : ◌≡◌ {A = Option AssociationIdentity} None (Some new) = ap identity_of_core (sym (ends_mean d input o may turn has)) ∙ opens.linked in absurd (cc))

    none_asked : NoneAsked o.effects
    none_asked = calm_asks_nothing d input o (opening_calm (content_of_input input) opens.opening) may turn

    -- Its peer's first request has the first TSN.
    numbers : (number_to_accept (after_effects o.effects their_past) ≡ Some (new.peer.first_tsn % 2 ^ 32)) × (number_to_perform (after_effects o.effects their_past) ≡ None)
    numbers =
        subst (λ (l : List Effect). (number_to_accept (after_effects l their_past) ≡ Some (new.peer.first_tsn % 2 ^ 32)) × (number_to_perform (after_effects l their_past) ≡ None)) (sym opens.begun.noted)
        (first_numbers new opens.begun.later (holds new ∷ their_past) (subst NoneAsked opens.begun.noted none_asked)
        (λ link has. only link (subst (HasEffect (holds link)) (sym opens.begun.noted) (inr has))) (λ has. none_ends (subst (HasEffect effects.ends) (sym opens.begun.noted) (inr has))) refl refl)

    accept : number_to_accept (after_effects o.effects their_past) ≡ Some (request_numbered new.peer.first_tsn 0)
    accept = numbers.0 ∙ ap (λ (n : ℕ). Some (n % 2 ^ 32)) (omega arith)

    -- The sender has the matching association, or has asked nothing there.
    not_there : (found : Option AssociationIdentity) → identity_of_core e.core ≡ found → (ends.firsts t ≡ new.peer.first_tsn) → IsCrossedOrAwaited (requests_of ends w.pairs t) (identity_of_core e.core) new
    not_there found there first = by_mine found there
      where
        of_held : SenderHadPeer past t (w.pairs t) → w.pairs t ≡ new.peer
        of_held held = sym held.my_is ∙ is.match held.link held.held held.tag_is

        by_asked : ((link : AssociationIdentity) → identity_of_core e.core ≡ Some link → link.my.tag ≢ t) → ((ends.sends t).asking ≡ nothing_asked) ⊎ SenderHadPeer past t (w.pairs t) → IsCrossedOrAwaited (requests_of ends w.pairs t) (identity_of_core e.core) new
        by_asked apart (inl none) = inr (none, apart)
        by_asked apart (inr held) = inl (first, of_held held)

        by_mine : (found : Option AssociationIdentity) → identity_of_core e.core ≡ found → IsCrossedOrAwaited (requests_of ends w.pairs t) (identity_of_core e.core) new
        by_mine None none = by_asked (λ link linked. (let clash : ◌≡◌ {A = Option AssociationIdentity} None (Some link) = sym none ∙ linked in absurd (cc))) (w.answers.asked_held t is.some)
        by_mine (Some mine) linked =
            elim (decide mine.my.tag t) [
              | inl at ↦ (
                  (let held = w.answers.mine_held mine linked in
                  inl (first, subst (λ (n : ℕ). w.pairs n ≡ new.peer) at (held.1 ∙ sym held.0.my_is ∙ is.match held.0.link held.0.held (held.0.tag_is ∙ at))))
                  )
              | inr ne ↦ by_asked (λ link linked'. (let one : mine ≡ link = one_link linked linked' in λ same. ne (ap (λ (l : AssociationIdentity). l.my.tag) one ∙ same))) (w.answers.asked_held t is.some)
            ]
          where
            one_link : {found : Option AssociationIdentity} {one two : AssociationIdentity} → found ≡ Some one → found ≡ Some two → one ≡ two
            one_link first second = cc

    crossed : IsCrossedOrAwaited (requests_of ends w.pairs t) (identity_of_core e.core) new
    crossed = elim which [
      | inl first ↦ not_there (identity_of_core e.core) refl first
      | inr awaited ↦ inr (awaited.0, λ link linked same. awaited.1 (sym same ∙ sym (link_tag e.core link linked)))
    ]

    abbrev fresh : Requests
    fresh = record { my = new.peer; first = new.peer.first_tsn; asking = (ends.sends t).asking; in_turn = (ends.sends t).queues.queue.is_interleaved || ends.calls.in_turn }

    abbrev pub opened : Ends
    opened = record ends { sends = ends.sends; gets = gets; firsts = firsts }

    same_opened : (tag : ℕ) → requests_of opened (table_with t new.peer w.pairs) tag ≡ table_with t fresh (requests_of ends w.pairs) tag
    same_opened tag =
        elim (decide tag t) [
          | inl at ↦
              ap (requests_of opened (table_with t new.peer w.pairs)) at
              ∙ ap (λ (p : Pair). record { my = p; first = firsts t; asking = (ends.sends t).asking; in_turn = (ends.sends t).queues.queue.is_interleaved || ends.calls.in_turn }) (set_same t new.peer w.pairs)
              ∙ ap (λ (n : ℕ). record { my = new.peer; first = n; asking = (ends.sends t).asking; in_turn = (ends.sends t).queues.queue.is_interleaved || ends.calls.in_turn }) first_is
              ∙ sym (set_same t fresh (requests_of ends w.pairs)) ∙ ap (table_with t fresh (requests_of ends w.pairs)) (sym at)
          | inr ne ↦
              ap (λ (p : Pair). record { my = p; first = firsts tag; asking = (ends.sends tag).asking; in_turn = (ends.sends tag).queues.queue.is_interleaved || ends.calls.in_turn }) (set_other t tag new.peer w.pairs ne)
              ∙ ap (λ (n : ℕ). record { my = w.pairs tag; first = n; asking = (ends.sends tag).asking; in_turn = (ends.sends tag).queues.queue.is_interleaved || ends.calls.in_turn }) (others tag ne)
              ∙ sym (set_other t tag fresh (requests_of ends w.pairs) ne)
        ]

    pub opens_answered : AreAnswered (record ends { sends = ends.sends; gets = gets; firsts = firsts }) e past o.after (after_effects o.effects their_past)
    opens_answered =
        record {
          pairs = table_with t new.peer w.pairs;
          answers = subst (λ (x : Option Transfer). AnswersRequests (requests_of opened (table_with t new.peer w.pairs)) (identity_of_core e.core) past (identity_of_core o.after.core) (after_effects o.effects their_past) (waiting_deferral x)) (sym opens.is)
              (subst (λ (l : Option AssociationIdentity). AnswersRequests (requests_of opened (table_with t new.peer w.pairs)) (identity_of_core e.core) past l (after_effects o.effects their_past) opens.left.reassembly.deferral) (sym opens.linked)
              (same_requests (requests_of opened (table_with t new.peer w.pairs)) (table_with t fresh (requests_of ends w.pairs)) (identity_of_core e.core) past (Some new) (after_effects o.effects their_past) opens.left.reassembly.deferral same_opened
              (opens_anew (requests_of ends w.pairs) (identity_of_core e.core) past (identity_of_core d.core) o.effects their_past (waiting_deferral d.queues.transfer) opens.left.reassembly.deferral new w.answers is.some noted only (none_performed o.effects none_asked)
              is.other crossed accept numbers.1 opens.empty)));
          unlinked = λ gone. (let clash : ◌≡◌ {A = Option Transfer} None (Some opens.left) = sym gone ∙ opens.is in absurd (cc));
        }

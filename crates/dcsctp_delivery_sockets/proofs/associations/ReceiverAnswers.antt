-- A turn of the receiver, as what becomes of the sender's requests.
use Rattle.std.proofs.Common.{◌≡◌, ◌≢◌, ℕ, Bool, true, false, ◌<◌, ◌-◌, ◌^◌, Option, None, Some, List, [], ◌∷◌, length, refl, sym, ◌∙◌, ap, subst, inl, inr}
use Rattle.std.specs.Prelude.{◌⊎◌}
use Rattle.dcsctp_spec_lemmas.specs.types.declared.association.Pair.{Pair}
use Rattle.dcsctp_spec_lemmas.specs.types.declared.options.Options.{Options}
use Rattle.dcsctp_spec_lemmas.specs.spec.endpoint.Endpoint.{Endpoint}
use Rattle.dcsctp_spec_lemmas.specs.spec.endpoint.Outcome.{Outcome}
use Rattle.dcsctp_spec_lemmas.specs.spec.Packet.{Content, re_config}
use Rattle.dcsctp_spec_runs.specs.Past.{WasPerformed, HasEffect, number_to_accept, number_to_perform}
use Rattle.dcsctp_spec_lemmas.specs.spec.Reconfiguration.{RequestedReset, ResetParameter, outgoing_reset_request, renewed_reset, number_answered}
use Rattle.dcsctp_spec_lemmas.specs.spec.endpoint.Turn.{Input, Turn}
use Rattle.dcsctp_spec_runs.specs.World.{after_effects}
use Rattle.dcsctp_spec_lemmas.specs.spec.association.Effect as effects
use Rattle.dcsctp_spec_lemmas.specs.spec.association.Effect.{AssociationIdentity, Effect, holds, identity_of, identity_of_core}
use Rattle.dcsctp_spec_lemmas.specs.spec.association.FlushChanges.{next_number, reset_request}
use Rattle.dcsctp_spec_lemmas.specs.spec.queues.Reassembly.{DeferralModel}
use Rattle.dcsctp_spec_lemmas.specs.spec.queues.Transfer.{Transfer}
use Rattle.dcsctp_spec_lemmas.specs.spec.endpoint.BegunResets.{BegunReset}
use Rattle.dcsctp_spec_lemmas.specs.spec.endpoint.ResetOutcomes.{has_reset, first_reset_request}
use Rattle.dcsctp_delivery_directions.specs.sending.Places as places
use Rattle.dcsctp_delivery_directions.specs.sending.Places.{table_with}
use Rattle.dcsctp_delivery_directions.proofs.sending.Places.{decide, set_same, set_other}
use Rattle.dcsctp_delivery_directions.specs.directions.Directions.{Asking, nothing_asked, Direction, DirectionRun}
use Rattle.dcsctp_delivery_directions.specs.directions.Requests.{IsOfBegun}
use Rattle.dcsctp_delivery_directions.proofs.directions.Requests.{requests_were_begun}
use Rattle.dcsctp_delivery_sockets.specs.turns.Actions.{IsOpening, content_of_input, BeginsAssociation, IsCall, IsCalm}
use Rattle.dcsctp_delivery_sockets.specs.turns.Asking.{AreNumbered}
use Rattle.dcsctp_delivery_sockets.specs.turns.PeerRequests.{KnowsPeerOfCore, IsPlainRequest, IsDue, WaitsFor, PeerTurns, asks_nothing, performs_it, defers_it, begins_anew}
use Rattle.dcsctp_delivery_sockets.specs.turns.Runs.{IsNewest, PerformsNewest, performed_if_reset, PerformsByTurn}
use Rattle.dcsctp_delivery_sockets.specs.turns.Sides.{WasSent}
use Rattle.dcsctp_delivery_sockets.proofs.turns.Holding.{holds_mean, ends_mean}
use Rattle.dcsctp_delivery_sockets.proofs.turns.PeersTurns.{peers_turn}
use Rattle.dcsctp_delivery_sockets.proofs.turns.SameResets.{own_same}
use Rattle.dcsctp_delivery_sockets.specs.associations.Ends.{ReceivingEnd, Ends}
use Rattle.dcsctp_delivery_sockets.specs.associations.Answered.{Requests, WasJoined, IsInStep, AnswersRequests, requests_of, waiting_deferral, AreAnswered, WantsSame}
use Rattle.dcsctp_delivery_sockets.proofs.associations.UnaskedPasts.{same_numbers, reset_none, some_reset, was_performed_reset}
use Rattle.dcsctp_delivery_sockets.proofs.associations.AnsweringRests as answering
use Rattle.dcsctp_delivery_sockets.proofs.associations.AnsweringRests.{none_performed, same_requests}
use Rattle.dcsctp_delivery_sockets.proofs.associations.AnsweringNewest.{IsDueAt, numbers_of, newest_where, behind_where, due_there}
use Rattle.dcsctp_delivery_sockets.proofs.associations.Seen.{IsNamedNow}
use Rattle.dcsctp_delivery_sockets.proofs.associations.AnsweringDefers as defers
use Rattle.dcsctp_delivery_sockets.proofs.associations.AnsweringPerforms as performs

-- ---- what is handled

-- A RE-CONFIG that the sender sent has no request, or one that was begun.
pub plainly_sent : (options : Options) (first size : ℕ) (direction : Direction) → DirectionRun options first size direction → (came : Option Content) → WasSent direction.sent came → IsPlainRequest came
plainly_sent options first size direction run (Some (re_config parameters)) (inl none) = inl none
plainly_sent options first size direction run (Some (re_config parameters)) (inr was) = by_begun (requests_were_begun options first size direction run was.emission parameters was.was was.holds)
  where
    by_begun : IsOfBegun direction.asking.requests (re_config parameters) → IsPlainRequest (Some (re_config parameters))
    by_begun (inl none) = inl none
    by_begun (inr begun) = inr (begun.0.number, begun.0.reset, parameters_of begun.2)
      where
        parameters_of : {one other : List ResetParameter} → re_config one ≡ re_config other → one ≡ other
        parameters_of is = cc
plainly_sent options first size direction run came was = tt

-- The request that is handled is one that was begun.
pub begun_of : (options : Options) (first size : ℕ) (direction : Direction) → DirectionRun options first size direction → (number : ℕ) (reset : RequestedReset) → WasSent direction.sent (Some (reset_request number reset))
    → (begun : BegunReset) × places.HasEntry begun direction.asking.requests × (begun.number ≡ number) × (begun.reset ≡ reset)
begun_of options first size direction run number reset (inl none) = absurd none
begun_of options first size direction run number reset (inr was) =
    by_begun (requests_were_begun options first size direction run was.emission (outgoing_reset_request number (number_answered number reset.is_new) reset ∷ []) was.was was.holds)
  where
    by_begun : IsOfBegun direction.asking.requests (reset_request number reset) → (begun : BegunReset) × places.HasEntry begun direction.asking.requests × (begun.number ≡ number) × (begun.reset ≡ reset)
    by_begun (inl none) = absurd none
    by_begun (inr begun) = (begun.0, begun.1, number_of begun.2, reset_of begun.2)
      where
        number_of : {n m : ℕ} {r s : RequestedReset} → reset_request n r ≡ reset_request m s → m ≡ n
        number_of is = cc

        reset_of : {n m : ℕ} {r s : RequestedReset} → reset_request n r ≡ reset_request m s → s ≡ r
        reset_of is = cc

-- ---- both ends

-- the ends once the receiver has this under the tag, and this is known of the requests there
abbrev pub asked_ends : Ends → ℕ → Asking → ReceivingEnd → Ends
asked_ends ends tag asking got =
    record ends { sends = λ t. record (ends.sends t) { asking = table_with tag asking (λ n. (ends.sends n).asking) t }; gets = table_with tag got ends.gets; firsts = ends.firsts }

module _ (ends : Ends) (pairs : ℕ → Pair) (tag : ℕ) (got : ReceivingEnd) where
  -- a tag's requests, with this begun
  with_asking : ℕ → Asking → Requests
  with_asking t asking = record (requests_of ends pairs t) { asking = asking }

  same_asked : (asking : Asking) → asking ≡ (ends.sends tag).asking → (t : ℕ) → requests_of (asked_ends ends tag asking got) pairs t ≡ requests_of ends pairs t
  same_asked asking is t =
      elim (decide t tag) [
        | inl e ↦
            ap (λ (a : Asking). record (requests_of ends pairs t) { asking = a })
            (ap (table_with tag asking (λ n. (ends.sends n).asking)) e ∙ set_same tag asking (λ n. (ends.sends n).asking) ∙ is ∙ ap (λ (n : ℕ). (ends.sends n).asking) (sym e))
        | inr ne ↦ ap (λ (a : Asking). record (requests_of ends pairs t) { asking = a }) (set_other tag t asking (λ n. (ends.sends n).asking) ne)
      ]

  new_asked : (asking : Asking) → (t : ℕ) → requests_of (asked_ends ends tag asking got) pairs t ≡ table_with tag (record (requests_of ends pairs tag) { asking = asking }) (requests_of ends pairs) t
  new_asked asking t =
      elim (decide t tag) [
        | inl e ↦
            ap (λ (n : ℕ). requests_of (asked_ends ends tag asking got) pairs n) e
            ∙ ap (λ (a : Asking). record (requests_of ends pairs tag) { asking = a }) (set_same tag asking (λ n. (ends.sends n).asking))
            ∙ sym (set_same tag (record (requests_of ends pairs tag) { asking = asking }) (requests_of ends pairs))
            ∙ ap (table_with tag (record (requests_of ends pairs tag) { asking = asking }) (requests_of ends pairs)) (sym e)
        | inr ne ↦
            ap (λ (a : Asking). record (requests_of ends pairs t) { asking = a }) (set_other tag t asking (λ n. (ends.sends n).asking) ne)
            ∙ sym (set_other tag t (record (requests_of ends pairs tag) { asking = asking }) (requests_of ends pairs) ne)
      ]

-- ---- an association continues

module _ (ends : Ends) (e : Endpoint) (past : List Effect) (d : Endpoint) (their_past : List Effect) (w : AreAnswered ends e past d their_past) (input : Input) (o : Outcome) (may : IsCall input) (turn : Turn d input o)
    (new_tags : (link old : AssociationIdentity) → HasEffect (holds link) o.effects → HasEffect (holds old) their_past → old.peer.tag ≢ link.peer.tag) where
  no_holds : identity_of_core o.after.core ≡ identity_of_core d.core → (link : AssociationIdentity) → HasEffect (holds link) o.effects → ⊥
  no_holds same link has =
      let there : WasJoined their_past link.peer.tag link.peer = (w.answers.theirs_held link (sym same ∙ holds_mean d input o link may turn has)).0 in
      new_tags link there.link has there.held there.tag_is

  no_holds_none : identity_of_core o.after.core ≡ None → (link : AssociationIdentity) → HasEffect (holds link) o.effects → ⊥
  no_holds_none none link has = (let clash : ◌≡◌ {A = Option AssociationIdentity} None (Some link) = sym none ∙ holds_mean d input o link may turn has in absurd (cc))

  no_ends : (link : AssociationIdentity) → identity_of_core o.after.core ≡ Some link → HasEffect effects.ends o.effects → ⊥
  no_ends link linked has = (let clash : ◌≡◌ {A = Option AssociationIdentity} None (Some link) = ap identity_of_core (sym (ends_mean d input o may turn has)) ∙ linked in absurd (cc))

  module _ (link : AssociationIdentity) (linked : identity_of_core d.core ≡ Some link) (transfer left : Transfer) (there : d.queues.transfer ≡ Some transfer) (is_left : o.after.queues.transfer ≡ Some left) where
    abbrev there_waits : Option DeferralModel
    there_waits = transfer.reassembly.deferral

    abbrev tag : ℕ
    tag = link.peer.tag

    answers_here : AnswersRequests (requests_of ends w.pairs) (identity_of_core e.core) past (Some link) their_past transfer.reassembly.deferral
    answers_here =
        subst (λ (t : Option Transfer). AnswersRequests (requests_of ends w.pairs) (identity_of_core e.core) past (Some link) their_past (waiting_deferral t)) there
        (subst (λ (l : Option AssociationIdentity). AnswersRequests (requests_of ends w.pairs) (identity_of_core e.core) past l their_past (waiting_deferral d.queues.transfer)) linked w.answers)

    module _ (size : ℕ) (options : Options) (direction : Direction) (first : ℕ) (run : DirectionRun options first size direction) (asked_is : direction.asking ≡ (ends.sends link.peer.tag).asking) (sent : WasSent direction.sent (content_of_input input))
        (few : length (ends.sends link.peer.tag).asking.requests < 2 ^ 32 - 1) (knows : KnowsPeerOfCore their_past d.core) where
      peers : PeerTurns link their_past d input o transfer.reassembly.deferral left.reassembly.deferral
      peers = peers_turn d input o their_past link transfer left knows (plainly_sent options first size direction run (content_of_input input) sent) may turn linked there is_left

      -- the request that is handled
      handled : (number : ℕ) (reset : RequestedReset) → content_of_input input ≡ Some (reset_request number reset)
          → (begun : BegunReset) × places.HasEntry begun (ends.sends link.peer.tag).asking.requests × (begun.number ≡ number) × (begun.reset ≡ reset)
      handled number reset came =
          let found = begun_of options first size direction run number reset (subst (λ (c : Option Content). WasSent direction.sent c) came sent) in
          (found.0, subst (λ (a : Asking). places.HasEntry found.0 a.requests) asked_is found.1, found.2, found.3)

      requested_is : (parameters : List ResetParameter) (number : ℕ) (reset other : RequestedReset) → content_of_input input ≡ Some (reset_request number reset) → content_of_input input ≡ Some (re_config parameters) → first_reset_request parameters ≡ Some other → reset ≡ other
      requested_is parameters number reset other came came' asked =
          let same : outgoing_reset_request number (number_answered number reset.is_new) reset ∷ [] ≡ parameters = cc in
          let is : ◌≡◌ {A = Option RequestedReset} (Some reset) (Some other) = ap first_reset_request same ∙ asked in
          cc

      numbers_here : AreNumbered (ends.firsts link.peer.tag) (ends.sends link.peer.tag).asking.requests
      numbers_here = numbers_of (requests_of ends w.pairs link.peer.tag) their_past (answers_here.asked link.peer.tag (answers_here.theirs_held link refl).0.some)

      -- It is due, and wants what the newest wants.
      due_so : IsInStep (requests_of ends w.pairs link.peer.tag) their_past transfer.reassembly.deferral → (number : ℕ) (reset : RequestedReset) → (came : content_of_input input ≡ Some (reset_request number reset)) → IsDue their_past number
          → IsDueAt (requests_of ends w.pairs link.peer.tag) transfer.reassembly.deferral (handled number reset came).0
      due_so step number reset came due =
          let found = handled number reset came in
          due_there (requests_of ends w.pairs) (identity_of_core e.core) past link their_past transfer.reassembly.deferral found.0 answers_here step found.1 few (subst (IsDue their_past) (sym found.2) due)

      -- So does what is performed.
      pub performs_newest : IsInStep (requests_of ends w.pairs link.peer.tag) their_past transfer.reassembly.deferral → PerformsNewest direction transfer (content_of_input input) o.effects
      performs_newest step done parameters reset came asked = by_peers peers
        where
          by_peers : PeerTurns link their_past d input o transfer.reassembly.deferral left.reassembly.deferral → IsNewest direction transfer reset
          by_peers (asks_nothing none same) = (let clash : true ≡ false = sym done ∙ reset_none o.effects none in absurd (cc))
          by_peers (defers_it number other came' due none accept perform kept is waits) = (let found = some_reset o.effects done in absurd (none found.0 found.1 found.2))
          by_peers (begins_anew begun opening linked' none empty) = (let clash : true ≡ false = sym done ∙ reset_none o.effects none in absurd (cc))
          by_peers (performs_it number other came' due only has accept perform empty) =
              let found = handled number other came' in
              let one = due_so step number other came' due in
              let wants : WantsSame one.newest.reset reset = sym one.wants ∙ ap renewed_reset (found.3 ∙ requested_is parameters number other reset came' came asked) in
              record {
                newest = one.newest;
                earlier = one.earlier;
                is = ap (λ (a : Asking). a.requests) asked_is ∙ one.is;
                asks = wants;
                own = own_same one.newest.reset reset transfer.reassembly.deferral wants one.own;
                unknown = ap (λ (a : Asking). a.is_performed) asked_is ∙ one.unknown;
              }

      -- What is performed is a request of the sender.
      pub named_here : (my : Pair) (its : ℕ) → WasPerformed my its o.effects → IsNamedNow ends.sends input my its
      named_here my its done = by_peers peers
        where
          by_peers : PeerTurns link their_past d input o transfer.reassembly.deferral left.reassembly.deferral → IsNamedNow ends.sends input my its
          by_peers (asks_nothing none same) = absurd (none_performed o.effects none my its done)
          by_peers (defers_it number other came due none accept perform kept is waits) = absurd (none my its done)
          by_peers (begins_anew begun opening linked' none empty) = absurd (none_performed o.effects none my its done)
          by_peers (performs_it number reset came due only has accept perform empty) =
              let found = handled number reset came in
              let one = only my its done in
              record {
                some = subst (λ (p : Pair). p.tag ≢ 0) (sym one.0) (answers_here.theirs_held link refl).0.some;
                begun = found.0;
                has = subst (λ (p : Pair). places.HasEntry found.0 (ends.sends p.tag).asking.requests) (sym one.0) found.1;
                number_is = found.2 ∙ sym one.1;
                parameters = outgoing_reset_request number (number_answered number reset.is_new) reset ∷ [];
                came = came;
                asked = ap (λ (r : RequestedReset). Some r) (sym found.3);
              }

      -- Where nothing was asked nothing is performed.
      pub nothing_performed : has_reset o.effects ≡ true → (ends.sends link.peer.tag).asking ≡ nothing_asked → ⊥
      nothing_performed done none = by_peers peers
        where
          by_peers : PeerTurns link their_past d input o transfer.reassembly.deferral left.reassembly.deferral → ⊥
          by_peers (asks_nothing unasked same) = (let clash : true ≡ false = sym done ∙ reset_none o.effects unasked in absurd (cc))
          by_peers (defers_it number other came due unreset accept perform kept is waits) = (let found = some_reset o.effects done in unreset found.0 found.1 found.2)
          by_peers (begins_anew begun opening linked' unasked empty) = (let clash : true ≡ false = sym done ∙ reset_none o.effects unasked in absurd (cc))
          by_peers (performs_it number other came due only has accept perform empty) = (let found = handled number other came in subst (λ (a : Asking). places.HasEntry found.0 a.requests) none found.1)

      -- the number of a request that is performed, beside that of the newest
      abbrev Compares : (ℕ → ℕ → Type 0) → Type 0
      Compares Are =
          (number : ℕ) → WasPerformed link.peer number o.effects → (newest : BegunReset) (earlier : List BegunReset) → (ends.sends link.peer.tag).asking.requests ≡ newest ∷ earlier → Are number newest.number

      -- how far the receiver is: what it performs is the newest; or it isn't, or messages don't interleave
      abbrev pub Standing : Bool → Type 0
      Standing true = IsInStep (requests_of ends w.pairs link.peer.tag) their_past transfer.reassembly.deferral × Compares (λ number newest. number ≡ newest)
      Standing false =
          ((requests_of ends w.pairs link.peer.tag).in_turn ≡ false) ⊎ (IsInStep (requests_of ends w.pairs link.peer.tag) their_past transfer.reassembly.deferral × Compares (λ number newest. number ≢ newest))

      pub newest_or_not : IsInStep (requests_of ends w.pairs link.peer.tag) their_past transfer.reassembly.deferral → Standing true ⊎ Standing false
      newest_or_not step = by_peers peers
        where
          by_requests : (number : ℕ) → ((peer : Pair) (other : ℕ) → WasPerformed peer other o.effects → (peer ≡ link.peer) × (other ≡ number)) → (requests : List BegunReset) → (ends.sends link.peer.tag).asking.requests ≡ requests
              → Standing true ⊎ Standing false
          by_requests number only [] none = inl (step, λ other has newest earlier is. absurd (cc))
          by_requests number only (last ∷ before) some =
              elim (decide number last.number) [
                | inl e ↦ inl (step, λ other has newest earlier is. (only link.peer other has).1 ∙ e ∙ number_of (sym some ∙ is))
                | inr ne ↦ inr (inr (step, λ other has newest earlier is same. ne (sym (only link.peer other has).1 ∙ same ∙ sym (number_of (sym some ∙ is)))))
              ]
            where
              number_of : {one two : BegunReset} {rest others : List BegunReset} → one ∷ rest ≡ two ∷ others → one.number ≡ two.number
              number_of is = cc

          by_peers : PeerTurns link their_past d input o transfer.reassembly.deferral left.reassembly.deferral → Standing true ⊎ Standing false
          by_peers (asks_nothing none same) = inl (step, λ number has. absurd (none_performed o.effects none link.peer number has))
          by_peers (defers_it number reset came due none accept perform kept is waits) = inl (step, λ other has. absurd (none link.peer other has))
          by_peers (begins_anew begun opening linked' none empty) = inl (step, λ number has. absurd (none_performed o.effects none link.peer number has))
          by_peers (performs_it number reset came due only has accept perform empty) = by_requests number only (ends.sends link.peer.tag).asking.requests refl

      -- ---- after the turn

      abbrev Later : List Effect
      Later = after_effects o.effects their_past

      module _ (new_same : (begun : BeginsAssociation d o) → IsOpening (content_of_input input) → identity_of_core o.after.core ≡ Some (identity_of begun.my begun.held) → identity_of begun.my begun.held ≡ link → ⊥) (same : identity_of_core o.after.core ≡ identity_of_core d.core)
          (is_known : Bool) (stands : Standing is_known) (asking : Asking) (by : PerformsByTurn is_known input o direction asking) (got : ReceivingEnd) where
        abbrev After : Type 0
        After = AreAnswered (asked_ends ends link.peer.tag asking got) e past o.after (after_effects o.effects their_past)

        linked_after : identity_of_core o.after.core ≡ Some link
        linked_after = same ∙ linked

        answered_by : AnswersRequests (requests_of (asked_ends ends link.peer.tag asking got) w.pairs) (identity_of_core e.core) past (Some link) (after_effects o.effects their_past) left.reassembly.deferral → After
        answered_by answers =
            record {
              pairs = w.pairs;
              answers = subst (λ (t : Option Transfer). AnswersRequests (requests_of (asked_ends ends link.peer.tag asking got) w.pairs) (identity_of_core e.core) past (identity_of_core o.after.core) (after_effects o.effects their_past) (waiting_deferral t)) (sym is_left)
                  (subst (λ (l : Option AssociationIdentity). AnswersRequests (requests_of (asked_ends ends link.peer.tag asking got) w.pairs) (identity_of_core e.core) past l (after_effects o.effects their_past) left.reassembly.deferral) (sym linked_after) answers);
              unlinked = λ none. (let clash : ◌≡◌ {A = Option Transfer} None (Some left) = sym none ∙ is_left in absurd (cc));
            }

        -- Nothing was performed.
        asking_same : has_reset o.effects ≡ false → asking ≡ (ends.sends link.peer.tag).asking
        asking_same none = by.3 ∙ go by.0 by.2 ∙ asked_is
          where
            go : (is_reset : Bool) → (is_reset ≡ true → has_reset o.effects ≡ true) → performed_if_reset is_known is_reset direction.asking ≡ direction.asking
            go false says = by_known is_known
              where
                by_known : (b : Bool) → performed_if_reset b false direction.asking ≡ direction.asking
                by_known true = refl
                by_known false = refl
            go true says = (let clash : true ≡ false = sym (says refl) ∙ none in absurd (cc))

        unchanged : asking ≡ (ends.sends link.peer.tag).asking → AnswersRequests (requests_of ends w.pairs) (identity_of_core e.core) past (Some link) (after_effects o.effects their_past) left.reassembly.deferral → After
        unchanged is answers =
            answered_by
            (same_requests (requests_of (asked_ends ends link.peer.tag asking got) w.pairs) (requests_of ends w.pairs) (identity_of_core e.core) past (Some link) (after_effects o.effects their_past) left.reassembly.deferral
            (same_asked ends w.pairs link.peer.tag got asking is) answers)

        none_reset : ((peer : Pair) (other : ℕ) → WasPerformed peer other o.effects → ⊥) → has_reset o.effects ≡ false
        none_reset none = go (has_reset o.effects) refl
          where
            go : (b : Bool) → has_reset o.effects ≡ b → has_reset o.effects ≡ false
            go false is = is
            go true is = (let found = some_reset o.effects is in absurd (none found.0 found.1 found.2))

        -- A request was performed, and it is known to be the newest, or messages don't interleave.
        performed_so : (number : ℕ) (reset : RequestedReset) → content_of_input input ≡ Some (reset_request number reset) → WasPerformed link.peer number o.effects
            → asking ≡ performed_if_reset is_known true (ends.sends link.peer.tag).asking
        performed_so number reset came has = by.3 ∙ go by.0 by.1 ∙ ap (performed_if_reset is_known true) asked_is
          where
            go : (is_reset : Bool) → (is_reset ≡ false → (has_reset o.effects ≡ false) ⊎ IsCalm (content_of_input input)) → performed_if_reset is_known is_reset direction.asking ≡ performed_if_reset is_known true direction.asking
            go true says = refl
            go false says = elim (says refl) [
              | inl none ↦ (let clash : true ≡ false = sym (was_performed_reset o.effects link.peer number has) ∙ none in absurd (cc))
              | inr calm ↦ absurd (calm (outgoing_reset_request number (number_answered number reset.is_new) reset ∷ []) came)
            ]

        by_performing : (b : Bool) → is_known ≡ b → Standing b → (number : ℕ) (reset : RequestedReset) → content_of_input input ≡ Some (reset_request number reset) → IsDue their_past number
            → ((peer : Pair) (other : ℕ) → WasPerformed peer other o.effects → (peer ≡ link.peer) × (other ≡ number)) → WasPerformed link.peer number o.effects
            → number_to_accept (after_effects o.effects their_past) ≡ Some (next_number number) → number_to_perform (after_effects o.effects their_past) ≡ None → left.reassembly.deferral ≡ None → After
        by_performing true known (step, newest) number reset came due only has accept perform empty =
            let found = handled number reset came in
            let one = due_so step number reset came due in
            let top : found.0 ≡ one.newest =
            newest_where (requests_of ends w.pairs link.peer.tag) their_past transfer.reassembly.deferral found.0 numbers_here found.1 few one (found.2 ∙ newest number has one.newest one.earlier one.is) in
            let is : asking ≡ record (ends.sends link.peer.tag).asking { is_performed = true } = performed_so number reset came has ∙ ap (λ (b : Bool). performed_if_reset b true (ends.sends link.peer.tag).asking) known in
            answered_by
            (same_requests (requests_of (asked_ends ends link.peer.tag asking got) w.pairs)
            (table_with link.peer.tag (record (requests_of ends w.pairs link.peer.tag) { asking = record (ends.sends link.peer.tag).asking { is_performed = true } }) (requests_of ends w.pairs))
            (identity_of_core e.core) past (Some link) (after_effects o.effects their_past) left.reassembly.deferral
            (λ t. new_asked ends w.pairs link.peer.tag got asking t ∙ ap (λ (a : Asking). table_with link.peer.tag (record (requests_of ends w.pairs link.peer.tag) { asking = a }) (requests_of ends w.pairs) t) is)
            (performs.performs_it (requests_of ends w.pairs) (identity_of_core e.core) past link o.effects their_past transfer.reassembly.deferral left.reassembly.deferral found.0 answers_here (no_holds same)
            (λ peer other h. (let one' = only peer other h in (one'.0, one'.1 ∙ sym found.2))) found.1 one.earlier (one.is ∙ ap (λ (b : BegunReset). b ∷ one.earlier) (sym top))
            (subst (λ (n : ℕ). WasPerformed link.peer n o.effects) (sym found.2) has) (accept ∙ ap (λ (n : ℕ). Some (next_number n)) (sym found.2)) perform empty))
        by_performing false known (inl kind) number reset came due only has accept perform empty =
            let found = handled number reset came in
            unchanged (performed_so number reset came has ∙ ap (λ (b : Bool). performed_if_reset b true (ends.sends link.peer.tag).asking) known)
            (performs.performs_plain (requests_of ends w.pairs) (identity_of_core e.core) past link o.effects their_past transfer.reassembly.deferral left.reassembly.deferral found.0 answers_here (no_holds same)
            (λ peer other h. (let one = only peer other h in (one.0, one.1 ∙ sym found.2))) found.1 kind)
        by_performing false known (inr (step, other)) number reset came due only has accept perform empty =
            let found = handled number reset came in
            let one = due_so step number reset came due in
            let behind = behind_where (requests_of ends w.pairs link.peer.tag) their_past transfer.reassembly.deferral found.0 numbers_here found.1 few one (λ is. other number has one.newest one.earlier one.is (sym found.2 ∙ is)) in
            unchanged (performed_so number reset came has ∙ ap (λ (b : Bool). performed_if_reset b true (ends.sends link.peer.tag).asking) known)
            (performs.performs_behind (requests_of ends w.pairs) (identity_of_core e.core) past link o.effects their_past transfer.reassembly.deferral left.reassembly.deferral found.0 answers_here (no_holds same)
            (λ peer other' h. (let one' = only peer other' h in (one'.0, one'.1 ∙ sym found.2))) found.1 one behind (accept ∙ ap (λ (n : ℕ). Some (next_number n)) (sym found.2)) perform empty)

        -- If it is in step, what is deferred is in progress.
        by_deferring : (b : Bool) → Standing b → (number : ℕ) (reset : RequestedReset) → content_of_input input ≡ Some (reset_request number reset) → IsDue their_past number
            → ((peer : Pair) (other : ℕ) → WasPerformed peer other o.effects → ⊥)
            → number_to_accept (after_effects o.effects their_past) ≡ Some (next_number number) → number_to_perform (after_effects o.effects their_past) ≡ Some number
            → (kept : DeferralModel) → left.reassembly.deferral ≡ Some kept → WaitsFor reset transfer.reassembly.deferral kept → After
        by_deferring b stands number reset came due none accept perform kept is waits = unchanged (asking_same (none_reset none)) (go b stands)
          where
            found : (begun : BegunReset) × places.HasEntry begun (ends.sends link.peer.tag).asking.requests × (begun.number ≡ number) × (begun.reset ≡ reset)
            found = handled number reset came

            deferred : IsInStep (requests_of ends w.pairs link.peer.tag) their_past transfer.reassembly.deferral → AnswersRequests (requests_of ends w.pairs) (identity_of_core e.core) past (Some link) (after_effects o.effects their_past) left.reassembly.deferral
            deferred step =
                defers.defers_it (requests_of ends w.pairs) (identity_of_core e.core) past link o.effects their_past transfer.reassembly.deferral left.reassembly.deferral answers_here (no_holds same) none found.0 kept step found.1 few
                (subst (IsDue their_past) (sym found.2) due) (accept ∙ ap (λ (n : ℕ). Some (next_number n)) (sym found.2)) (perform ∙ ap Some (sym found.2)) is
                (subst (λ (r : RequestedReset). WaitsFor r transfer.reassembly.deferral kept) (sym found.3) waits)

            go : (b : Bool) → Standing b → AnswersRequests (requests_of ends w.pairs) (identity_of_core e.core) past (Some link) (after_effects o.effects their_past) left.reassembly.deferral
            go true (step, newest) = deferred step
            go false (inr (step, other)) = deferred step
            go false (inl kind) =
                defers.defers_plain (requests_of ends w.pairs) (identity_of_core e.core) past link o.effects their_past transfer.reassembly.deferral left.reassembly.deferral answers_here (no_holds same) none found.0 kind found.1

        pub goes_answered : After
        goes_answered = by_peers peers
          where
            by_peers : PeerTurns link their_past d input o transfer.reassembly.deferral left.reassembly.deferral → After
            by_peers (asks_nothing none waits) =
                let numbers = same_numbers o.effects their_past none (no_holds same) (no_ends link linked_after) in
                unchanged (asking_same (reset_none o.effects none))
                (answering.asks_nothing (requests_of ends w.pairs) (identity_of_core e.core) past link o.effects their_past transfer.reassembly.deferral left.reassembly.deferral answers_here (no_holds same) (none_performed o.effects none)
                numbers.0 numbers.1 waits)
            by_peers (performs_it number reset came due only has accept perform empty) = by_performing is_known refl stands number reset came due only has accept perform empty
            by_peers (defers_it number reset came due none accept perform kept is waits) = by_deferring is_known stands number reset came due none accept perform kept is waits
            by_peers (begins_anew begun opening there' none empty) = absurd (new_same begun opening there' (one_link there' linked_after))
              where
                one_link : {found : Option AssociationIdentity} {one two : AssociationIdentity} → found ≡ Some one → found ≡ Some two → one ≡ two
                one_link first second = cc

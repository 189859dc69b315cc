-- A turn of the sender, as what becomes of its requests.
use Rattle.std.specs.Prelude.{◌||◌, Bool}
use Rattle.dcsctp_spec_lemmas.specs.spec.association.Effect as effects
use Rattle.std.proofs.Common.{◌≡◌, ◌≢◌, ℕ, suc, Bool, true, false, ◌<◌, ◌≤◌, ◌-◌, ◌^◌, Option, None, Some, List, [], ◌∷◌, length, refl, sym, ◌∙◌, ap, subst, inl, inr, arith}
use Rattle.dcsctp_spec_lemmas.specs.types.declared.association.Pair.{Pair}
use Rattle.dcsctp_spec_lemmas.specs.spec.endpoint.Endpoint.{Endpoint, Core, closed, cookie_wait, cookie_echoed, open_in, OutstandingRequest}
use Rattle.dcsctp_spec_lemmas.specs.spec.endpoint.Outcome.{Outcome}
use Rattle.dcsctp_spec_runs.specs.Past.{WasPerformed, HasEffect}
use Rattle.dcsctp_spec_lemmas.specs.spec.endpoint.Turn.{Input, Turn}
use Rattle.dcsctp_spec_runs.specs.World.{after_effects}
use Rattle.dcsctp_spec_lemmas.specs.spec.association.Effect.{AssociationIdentity, Effect, holds, completes, performs, identity_of_core}
use Rattle.dcsctp_spec_lemmas.specs.spec.queues.Reassembly.{DeferralModel}
use Rattle.dcsctp_spec_lemmas.specs.spec.queues.Transfer.{EndpointQueues}
use Rattle.dcsctp_spec_lemmas.specs.spec.endpoint.BegunResets.{BegunReset}
use Rattle.dcsctp_spec_lemmas.specs.spec.endpoint.ResetOutcomes.{has_completed}
use Rattle.dcsctp_delivery_directions.specs.sending.Places.{table_with}
use Rattle.dcsctp_delivery_directions.proofs.sending.Places.{decide, set_same, set_other}
use Rattle.dcsctp_delivery_directions.specs.directions.Directions.{Asking, nothing_asked}
use Rattle.dcsctp_delivery_sockets.specs.turns.Actions.{IsCall}
use Rattle.dcsctp_delivery_sockets.specs.turns.Asking.{Own, own_with, own_of_core, own_of, AreNumbered, IsAsking, OutIs, AsksFit, AskingGrows}
use Rattle.dcsctp_delivery_sockets.specs.turns.Runs.{EndsPerformed, RefusesNone, IsBetween, as_it_was, once_performed, once_refused, once_renewed}
use Rattle.dcsctp_delivery_sockets.proofs.turns.Completing.{completes_own}
use Rattle.dcsctp_delivery_sockets.specs.associations.Ends.{SendingEnd, ReceivingEnd, Ends, sender_key}
use Rattle.dcsctp_delivery_sockets.specs.associations.Answered.{Requests, request_numbered, AnswersRequests, requests_of, waiting_deferral, AreAnswered}
use Rattle.dcsctp_delivery_sockets.specs.associations.Laws.{CompletesPerformed}
use Rattle.dcsctp_delivery_sockets.proofs.associations.RequestNumbers.{same_place, newest_number}
use Rattle.dcsctp_delivery_sockets.proofs.associations.AnsweringRests.{same_requests}
use Rattle.dcsctp_delivery_sockets.proofs.associations.AskedOn as asked
use Rattle.dcsctp_delivery_sockets.proofs.associations.AskedOn.{MayBegin}
use Rattle.dcsctp_delivery_sockets.proofs.associations.Renewed.{MayGo, ends_so, was_renewed}
use Rattle.dcsctp_delivery_sockets.proofs.associations.SenderAsks.{newest_known, asks_on}
use Rattle.dcsctp_delivery_sockets.proofs.associations.SenderOpens.{fresh_requests, opens_on, closes_on}
use Rattle.dcsctp_delivery_sockets.proofs.associations.Senders.{link_tag, no_key}

-- ---- what is kept of our requests

small_out : (number : Option ℕ) (own : Own) (asking : Asking) → OutIs number own.again asking → asking.out ≤ 1
small_out None own asking none = omega (arith, none)
small_out (Some number) own asking out = (let one = out.one in omega (arith, one))

-- It is of the requests that were begun, if there is an association.
pub asks_so : (first : ℕ) (core : Core) (request : Option OutstandingRequest) (asking : Asking) (link : AssociationIdentity) → identity_of_core core ≡ Some link → AsksFit first (own_of_core core request) asking → AreNumbered first asking.requests × (asking.out ≤ 1)
asks_so first closed request asking link linked fits = absurd (cc)
asks_so first (cookie_wait my) request asking link linked fits = absurd (cc)
asks_so first (cookie_echoed my held cookie) request asking link linked fits = (fits.numbers, small_out held.own_outstanding (own_with held request) asking fits.out)
asks_so first (open_in phase my held) request asking link linked fits = (fits.numbers, small_out held.own_outstanding (own_with held request) asking fits.out)

-- an effect by which a request ends as performed
pub some_completed : (happened : List Effect) → has_completed happened ≡ true → (my : Pair) × (number : ℕ) × HasEffect (completes my number) happened
some_completed [] is = absurd (cc)
some_completed (effects.completes my number ∷ happened) is = (my, number, inl refl)
some_completed (effects.draws pair ∷ happened) is = (let found = some_completed happened is in (found.0, found.1, inr found.2))
some_completed (effects.sends packet ∷ happened) is = (let found = some_completed happened is in (found.0, found.1, inr found.2))
some_completed (effects.holds link ∷ happened) is = (let found = some_completed happened is in (found.0, found.1, inr found.2))
some_completed (effects.connects link ∷ happened) is = (let found = some_completed happened is in (found.0, found.1, inr found.2))
some_completed (effects.ends ∷ happened) is = (let found = some_completed happened is in (found.0, found.1, inr found.2))
some_completed (effects.begins number ∷ happened) is = (let found = some_completed happened is in (found.0, found.1, inr found.2))
some_completed (effects.gives_up number ∷ happened) is = (let found = some_completed happened is in (found.0, found.1, inr found.2))
some_completed (effects.fails number ∷ happened) is = (let found = some_completed happened is in (found.0, found.1, inr found.2))
some_completed (effects.accepts number ∷ happened) is = (let found = some_completed happened is in (found.0, found.1, inr found.2))
some_completed (effects.performs peer number ∷ happened) is = (let found = some_completed happened is in (found.0, found.1, inr found.2))
some_completed (effects.renews peer number ∷ happened) is = (let found = some_completed happened is in (found.0, found.1, inr found.2))
some_completed (effects.resumes link own last ∷ happened) is = (let found = some_completed happened is in (found.0, found.1, inr found.2))

-- The newest request has this number.
newest_is : (first number : ℕ) (found : Option Own) (own : Own) (asking : Asking) (newest : BegunReset) (earlier : List BegunReset) → found ≡ Some own → own.number ≡ Some number → AsksFit first found asking
    → asking.requests ≡ newest ∷ earlier → newest.number ≡ number
newest_is first number found own asking newest earlier is outstanding fits requests =
    let kept : IsAsking first own asking = subst (λ (f : Option Own). AsksFit first f asking) is fits in
    let out : OutIs (Some number) own.again asking = subst (λ (n : Option ℕ). OutIs n own.again asking) outstanding kept.out in
    let same : record { number = number; reset = own.again } ≡ newest = heads (sym out.is ∙ requests) in
    ap (λ (b : BegunReset). b.number) (sym same)
  where
    heads : {one two : BegunReset} {rest others : List BegunReset} → one ∷ rest ≡ two ∷ others → one ≡ two
    heads is = cc

-- ---- a request ends

module _ (requests : ℕ → Requests) (link : AssociationIdentity) (past : List Effect) (theirs : Option AssociationIdentity) (their_past : List Effect) (waits : Option DeferralModel) (h : AnswersRequests requests (Some link) past theirs their_past waits)
    (e : Endpoint) (input : Input) (o : Outcome) (linked : identity_of_core e.core ≡ Some link) (in_turn : Bool) (kind : (requests link.my.tag).in_turn ≡ (e.queues.queue.is_interleaved || in_turn))
    (fits : AsksFit (requests link.my.tag).first (own_of e) (requests link.my.tag).asking) (few : length (requests link.my.tag).asking.requests < 2 ^ 32 - 1) (completes_so : CompletesPerformed their_past o)
    (may : IsCall input) (turn : Turn e input o) where
  abbrev r : Requests
  r = requests link.my.tag

  numbers : AreNumbered (requests link.my.tag).first (requests link.my.tag).asking.requests
  numbers = (asks_so (requests link.my.tag).first e.core e.outstanding (requests link.my.tag).asking link linked fits).0

  -- The newest was performed if it ends so.
  performed_newest : has_completed o.effects ≡ true → (newest : BegunReset) (earlier : List BegunReset) → (requests link.my.tag).asking.requests ≡ newest ∷ earlier → WasPerformed link.my newest.number their_past
  performed_newest done newest earlier is =
      let found = some_completed o.effects done in
      let own = completes_own e input o found.0 found.1 may turn found.2 in
      let one : own.link ≡ link = same_link own.linked linked in
      let mine : found.0 ≡ link.my = sym own.mine ∙ ap (λ (l : AssociationIdentity). l.my) one in
      let number : newest.number ≡ found.1 = newest_is r.first found.1 (own_of e) own.own r.asking newest earlier own.kept own.outstanding fits is in
      elim (completes_so found.0 found.1 found.2) [
        | inl has ↦ subst (λ (p : Pair). WasPerformed p newest.number their_past) mine (subst (λ (n : ℕ). WasPerformed found.0 n their_past) (sym number) has)
        | inr last ↦ absurd (too_many mine (number ∙ last))
      ]
    where
      same_link : {found : Option AssociationIdentity} {one two : AssociationIdentity} → found ≡ Some one → found ≡ Some two → one ≡ two
      same_link first second = cc

      too_many : {pair : Pair} → pair ≡ link.my → newest.number ≡ request_numbered pair.first_tsn (2 ^ 32 - 1) → ⊥
      too_many mine last =
          let long : length (requests link.my.tag).asking.requests ≡ suc (length earlier) = ap (λ (l : List BegunReset). length l) is in
          let at : newest.number ≡ request_numbered (requests link.my.tag).first (length earlier) = newest_number (requests link.my.tag).first newest earlier (requests link.my.tag).asking.requests is numbers in
          let same : request_numbered (requests link.my.tag).first (length earlier) ≡ request_numbered (requests link.my.tag).first (2 ^ 32 - 1) =
          sym at ∙ last ∙ ap (λ (n : ℕ). request_numbered n (2 ^ 32 - 1)) (ap (λ (p : Pair). p.first_tsn) mine ∙ sym (h.mine_first link refl)) in
          let place : length earlier ≡ 2 ^ 32 - 1 = same_place (requests link.my.tag).first (length earlier) (2 ^ 32 - 1) same (omega (arith, few, long)) (omega arith) in
          omega (arith, place, long, few)

  -- There is one, which has no end.
  some_out : has_completed o.effects ≡ true → (newest : BegunReset) × (earlier : List BegunReset) × ((requests link.my.tag).asking.requests ≡ newest ∷ earlier)
  some_out done =
      let found = some_completed o.effects done in
      let own = completes_own e input o found.0 found.1 may turn found.2 in
      let kept : IsAsking r.first own.own r.asking = subst (λ (f : Option Own). AsksFit r.first f r.asking) own.kept fits in
      let out : OutIs (Some found.1) own.own.again r.asking = subst (λ (n : Option ℕ). OutIs n own.own.again r.asking) own.outstanding kept.out in
      (record { number = found.1; reset = own.own.again }, out.earlier, out.is)

  pub ends_performed : EndsPerformed in_turn e o (requests link.my.tag).asking
  ends_performed done interleaved =
      let out = some_out done in
      newest_known requests link past theirs their_past waits h few (kind ∙ interleaved) out.0 out.1 out.2
      (subst (λ (n : ℕ). WasPerformed link.my n their_past) (newest_number r.first out.0 out.1 r.asking.requests out.2 numbers) (performed_newest done out.0 out.1 out.2))

  pub may_go : RefusesNone in_turn e o → (between : Asking) → IsBetween o.effects (requests link.my.tag).asking between → MayGo (requests link.my.tag) their_past between
  may_go none _ as_it_was = ends_so _ asked.as_it_was
  may_go none _ (once_performed done) =
      ends_so _ (asked.has_ended (λ interleaved newest earlier is. subst (λ (p : Pair). WasPerformed p newest.number their_past) (sym (h.mine_held link refl).1) (performed_newest done newest earlier is)))
  may_go none _ (once_refused done) = ends_so _ (asked.has_ended (λ interleaved. (let clash : true ≡ false = sym done ∙ none (sym kind ∙ interleaved) in absurd (cc))))
  may_go none _ (once_renewed newest earlier number is out next) = was_renewed newest earlier number is out

-- More may be begun.
pub may_begin : (first : ℕ) (core : Core) (request : Option OutstandingRequest) (between asking : Asking) (link : AssociationIdentity) → identity_of_core core ≡ Some link → AskingGrows between asking → AsksFit first (own_of_core core request) asking
    → length asking.requests < 2 ^ 32 - 1 → MayBegin first between asking
may_begin first core request between asking link linked grows fits few =
    let so = asks_so first core request asking link linked fits in
    record { more = grows.more; is = grows.is; same = grows.same; anew = grows.anew; count = grows.count; out = so.1; numbers = so.0; few = few }

-- ---- what both ends have

-- what one end has of the requests
abbrev of_end : Bool → ℕ → Pair → SendingEnd → Requests
of_end in_turn first my end = record { my = my; first = first; asking = end.asking; in_turn = end.queues.queue.is_interleaved || in_turn }

-- Where another end takes its place, others are the same.
pub set_ends : (ends : Ends) (pairs : ℕ → Pair) (key : ℕ) (end : SendingEnd) (gets : ℕ → ReceivingEnd) (firsts : ℕ → ℕ) (others : ℕ → Pair) (new : Requests) → of_end ends.calls.in_turn (firsts key) (others key) end ≡ new
    → ((tag : ℕ) → tag ≢ key → (firsts tag ≡ ends.firsts tag) × (others tag ≡ pairs tag)) → (tag : ℕ)
    → requests_of (record ends { sends = table_with key end ends.sends; gets = gets; firsts = firsts }) others tag ≡ table_with key new (requests_of ends pairs) tag
set_ends ends pairs key end gets firsts others new is same tag =
    elim (decide tag key) [
      | inl e ↦
          ap (λ (n : ℕ). of_end ends.calls.in_turn (firsts n) (others n) (table_with key end ends.sends n)) e ∙ ap (of_end ends.calls.in_turn (firsts key) (others key)) (set_same key end ends.sends) ∙ is
          ∙ sym (set_same key new (requests_of ends pairs)) ∙ ap (table_with key new (requests_of ends pairs)) (sym e)
      | inr ne ↦
          ap (of_end ends.calls.in_turn (firsts tag) (others tag)) (set_other key tag end ends.sends ne) ∙ ap (λ (n : ℕ). of_end ends.calls.in_turn n (others tag) (ends.sends tag)) (same tag ne).0
          ∙ ap (λ (m : Pair). of_end ends.calls.in_turn (ends.firsts tag) m (ends.sends tag)) (same tag ne).1 ∙ sym (set_other key tag new (requests_of ends pairs) ne)
    ]

pub set_end : (ends : Ends) (pairs : ℕ → Pair) (key : ℕ) (end : SendingEnd) (new : Requests) → of_end ends.calls.in_turn (ends.firsts key) (pairs key) end ≡ new → (tag : ℕ)
    → requests_of (record ends { sends = table_with key end ends.sends }) pairs tag ≡ table_with key new (requests_of ends pairs) tag
set_end ends pairs key end new is tag = set_ends ends pairs key end ends.gets ends.firsts pairs new is (λ t ne. (refl, refl)) tag

-- ---- a turn in which the association continues or ends

module _ (ends : Ends) (e : Endpoint) (past : List Effect) (d : Endpoint) (their_past : List Effect) (w : AreAnswered ends e past d their_past) (key_below : (ends.sends (sender_key e.core)).queues ≡ e.queues)
    (after : Endpoint) (happened : List Effect) (end : SendingEnd) (kind : end.queues.queue.is_interleaved ≡ e.queues.queue.is_interleaved) where
  abbrev all : ℕ → Requests
  all = requests_of ends w.pairs

  abbrev pub grown_to : Ends
  grown_to = record ends { sends = table_with (sender_key e.core) end ends.sends }

  -- with this begun
  module _ (link : AssociationIdentity) (linked : identity_of_core e.core ≡ Some link) (some : link.my.tag ≢ 0) (between asking : Asking) (is : end.asking ≡ asking) (few : length (ends.sends link.my.tag).asking.requests < 2 ^ 32 - 1)
      (may : MayGo (requests_of ends w.pairs link.my.tag) their_past between) (more : MayBegin (ends.firsts link.my.tag) between asking) where
    key_is : sender_key e.core ≡ link.my.tag
    key_is = link_tag e.core link linked

    kind_is : end.queues.queue.is_interleaved ≡ (ends.sends link.my.tag).queues.queue.is_interleaved
    kind_is = kind ∙ sym (ap (λ (t : ℕ). (ends.sends t).queues.queue.is_interleaved) (sym key_is) ∙ ap (λ (b : EndpointQueues). b.queue.is_interleaved) key_below)

    here : of_end ends.calls.in_turn (ends.firsts link.my.tag) (w.pairs link.my.tag) end ≡ record (requests_of ends w.pairs link.my.tag) { asking = asking }
    here =
        ap (λ (a : Asking). record (of_end ends.calls.in_turn (ends.firsts link.my.tag) (w.pairs link.my.tag) end) { asking = a }) is
        ∙ ap (λ (b : Bool). record (requests_of ends w.pairs link.my.tag) { asking = asking; in_turn = b || ends.calls.in_turn }) kind_is

    answers_there : AnswersRequests (requests_of ends w.pairs) (Some link) past (identity_of_core d.core) their_past (waiting_deferral d.queues.transfer)
    answers_there = subst (λ (l : Option AssociationIdentity). AnswersRequests (requests_of ends w.pairs) l past (identity_of_core d.core) their_past (waiting_deferral d.queues.transfer)) linked w.answers

    pub goes_answers : AnswersRequests (requests_of (record ends { sends = table_with (sender_key e.core) end ends.sends }) w.pairs) (Some link) (after_effects happened past) (identity_of_core d.core) their_past (waiting_deferral d.queues.transfer)
    goes_answers =
        subst (λ (k : ℕ). AnswersRequests (requests_of (record ends { sends = table_with k end ends.sends }) w.pairs) (Some link) (after_effects happened past) (identity_of_core d.core) their_past (waiting_deferral d.queues.transfer)) (sym key_is)
        (same_requests (requests_of (record ends { sends = table_with link.my.tag end ends.sends }) w.pairs) (table_with link.my.tag (record (requests_of ends w.pairs link.my.tag) { asking = asking }) (requests_of ends w.pairs))
        (Some link) (after_effects happened past) (identity_of_core d.core) their_past (waiting_deferral d.queues.transfer) (set_end ends w.pairs link.my.tag end _ here)
        (asks_on (requests_of ends w.pairs) link past (identity_of_core d.core) their_past (waiting_deferral d.queues.transfer) answers_there few some between asking may more happened))

  -- The end of the tag 0 may be any.
  pub closes_answers : (mine : Option AssociationIdentity) (later : List Effect) (zero : SendingEnd)
      → AnswersRequests (requests_of (record ends { sends = table_with (sender_key e.core) end ends.sends }) w.pairs) mine later (identity_of_core d.core) their_past (waiting_deferral d.queues.transfer)
      → AnswersRequests (requests_of (record ends { sends = table_with 0 zero (table_with (sender_key e.core) end ends.sends) }) w.pairs) None later (identity_of_core d.core) their_past (waiting_deferral d.queues.transfer)
  closes_answers mine later zero answers =
      same_requests (requests_of (record ends { sends = table_with 0 zero (table_with (sender_key e.core) end ends.sends) }) w.pairs)
      (table_with 0 (of_end ends.calls.in_turn (ends.firsts 0) (w.pairs 0) zero) (requests_of (record ends { sends = table_with (sender_key e.core) end ends.sends }) w.pairs)) None later (identity_of_core d.core) their_past (waiting_deferral d.queues.transfer)
      (set_end (record ends { sends = table_with (sender_key e.core) end ends.sends }) w.pairs 0 zero _ refl)
      (closes_on (requests_of (record ends { sends = table_with (sender_key e.core) end ends.sends }) w.pairs) mine later (identity_of_core d.core) their_past (waiting_deferral d.queues.transfer) answers (of_end ends.calls.in_turn (ends.firsts 0) (w.pairs 0) zero) later (λ effect has. has))

  -- So it is where there is no association.
  pub idle_answers : identity_of_core e.core ≡ None → (later : List Effect) → ((effect : Effect) → HasEffect effect past → HasEffect effect later)
      → AnswersRequests (requests_of (record ends { sends = table_with (sender_key e.core) end ends.sends }) w.pairs) None later (identity_of_core d.core) their_past (waiting_deferral d.queues.transfer)
  idle_answers none later grows =
      subst (λ (k : ℕ). AnswersRequests (requests_of (record ends { sends = table_with k end ends.sends }) w.pairs) None later (identity_of_core d.core) their_past (waiting_deferral d.queues.transfer)) (sym (no_key e.core none))
      (same_requests (requests_of (record ends { sends = table_with 0 end ends.sends }) w.pairs) (table_with 0 (of_end ends.calls.in_turn (ends.firsts 0) (w.pairs 0) end) (requests_of ends w.pairs)) None later (identity_of_core d.core) their_past (waiting_deferral d.queues.transfer)
      (set_end ends w.pairs 0 end _ refl)
      (closes_on (requests_of ends w.pairs) (identity_of_core e.core) past (identity_of_core d.core) their_past (waiting_deferral d.queues.transfer) w.answers (of_end ends.calls.in_turn (ends.firsts 0) (w.pairs 0) end) later grows))

-- ---- a turn in which an association begins

pub begins_answers : (ends : Ends) (e : Endpoint) (past : List Effect) (d : Endpoint) (their_past : List Effect) (w : AreAnswered ends e past d their_past) (new : AssociationIdentity) → new.my.tag ≢ 0 → ((theirs : AssociationIdentity) → HasEffect (holds theirs) their_past → theirs.peer.tag ≡ new.my.tag → theirs.peer ≡ new.my)
    → (ends.sends new.my.tag).asking ≡ nothing_asked → (end : SendingEnd) (gets : ℕ → ReceivingEnd) (firsts : ℕ → ℕ) → firsts new.my.tag ≡ new.my.first_tsn → ((tag : ℕ) → tag ≢ new.my.tag → firsts tag ≡ ends.firsts tag)
    → MayBegin new.my.first_tsn nothing_asked end.asking → ((other : AssociationIdentity) → identity_of_core d.core ≡ Some other → other.peer.tag ≡ new.my.tag → ends.firsts new.my.tag ≡ new.my.first_tsn)
    → (later : List Effect) → ((effect : Effect) → HasEffect effect past → HasEffect effect later) → HasEffect (holds new) later
    → AnswersRequests (requests_of (record ends { sends = table_with new.my.tag end ends.sends; gets = gets; firsts = firsts }) (table_with new.my.tag new.my w.pairs)) (Some new) later (identity_of_core d.core) their_past (waiting_deferral d.queues.transfer)
begins_answers ends e past d their_past w new some match nothing end gets firsts first others begins crossed later grows held =
    same_requests (requests_of (record ends { sends = table_with new.my.tag end ends.sends; gets = gets; firsts = firsts }) (table_with new.my.tag new.my w.pairs))
    (table_with new.my.tag (fresh_requests new (end.queues.queue.is_interleaved || ends.calls.in_turn) end.asking) (requests_of ends w.pairs)) (Some new) later (identity_of_core d.core) their_past (waiting_deferral d.queues.transfer)
    (set_ends ends w.pairs new.my.tag end gets firsts (table_with new.my.tag new.my w.pairs) (fresh_requests new (end.queues.queue.is_interleaved || ends.calls.in_turn) end.asking) here
    (λ tag ne. (others tag ne, set_other new.my.tag tag new.my w.pairs ne)))
    (opens_on (requests_of ends w.pairs) (identity_of_core e.core) past (identity_of_core d.core) their_past (waiting_deferral d.queues.transfer) w.answers new some nothing match (end.queues.queue.is_interleaved || ends.calls.in_turn) end.asking begins crossed later grows held)
  where
    here : of_end ends.calls.in_turn (firsts new.my.tag) (table_with new.my.tag new.my w.pairs new.my.tag) end ≡ fresh_requests new (end.queues.queue.is_interleaved || ends.calls.in_turn) end.asking
    here = ap (λ (n : ℕ). of_end ends.calls.in_turn n (table_with new.my.tag new.my w.pairs new.my.tag) end) first ∙ ap (λ (m : Pair). of_end ends.calls.in_turn new.my.first_tsn m end) (set_same new.my.tag new.my w.pairs)

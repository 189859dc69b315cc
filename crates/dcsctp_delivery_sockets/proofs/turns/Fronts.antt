-- What a RE-CONFIG does before all else, as steps of both sides: our request ends, and streams of the
-- peer are reset.
use Rattle.std.specs.Prelude.{◌||◌}
use Rattle.dcsctp_delivery_directions.specs.directions.Directions as directions
use Rattle.std.proofs.Common.{◌≡◌, ◌≤◌, ◌+◌, ◌%◌, ◌^◌, ℕ, suc, Bool, true, false, Option, None, Some, List, ◌∷◌, length, refl, sym, ◌∙◌, ap, subst, arith, inl, inr}
use Rattle.dcsctp_spec_lemmas.specs.spec.Packet.{Content, re_config}
use Rattle.dcsctp_spec_lemmas.specs.spec.Reconfiguration.{RequestedReset, ResetParameter}
use Rattle.dcsctp_spec_lemmas.specs.spec.association.Effect.{Effect}
use Rattle.dcsctp_spec_lemmas.specs.spec.association.FlushChanges.{next_number}
use Rattle.dcsctp_spec_lemmas.specs.spec.endpoint.BegunResets.{BegunReset}
use Rattle.dcsctp_spec_lemmas.specs.spec.queues.Reassembly.{ReassemblyState, EndsDeferral}
use Rattle.dcsctp_spec_lemmas.specs.spec.queues.Transfer.{Transfer}
use Rattle.dcsctp_spec_lemmas.specs.spec.endpoint.ResetOutcomes.{first_reset_request, has_completed, has_reset}
use Rattle.dcsctp_delivery_directions.specs.directions.Directions.{PerformedReset, reset_performed, Asking, HasAskedUpTo, asking_renewed, all_ended, is_reset_reached, Direction}
use Rattle.dcsctp_delivery_sockets.specs.turns.Asking.{Own, renewed_own, AreNumbered, IsOut, OutIs, IsAsking, AsksFit, SomeFit}
use Rattle.dcsctp_delivery_sockets.specs.turns.Actions.{has_refused, Inside, ended_own, OwnEnds, unended, committed, rolled_back, PeerResets, unreset, absent, deferred, reset_now}
use Rattle.dcsctp_delivery_sockets.specs.turns.Runs.{IsBetween, as_it_was, once_performed, once_refused, KnowsRequest, performed_if_reset}
use Rattle.dcsctp_delivery_sockets.specs.turns.Sides.{DirectionSteps, stays, receiving}
use Rattle.dcsctp_delivery_sockets.proofs.turns.Begun.{next_again}
use Rattle.dcsctp_delivery_sockets.proofs.turns.Sides.{one_step, all_steps}
use Rattle.dcsctp_delivery_sockets.proofs.turns.SameResets.{own_same}

-- ---- what is kept of our requests

out_small : (number : Option ℕ) (again : RequestedReset) (asking : Asking) → OutIs number again asking → asking.out ≤ 1
out_small None again asking out = omega arith
out_small (Some number) again asking out = (let one = out.one in omega (arith, one))

pub is_asking : (first : ℕ) (found : Option Own) (own : Own) (asking : Asking) → found ≡ Some own → AsksFit first found asking → IsAsking first own asking
is_asking first found own asking is fits = subst (λ (f : Option Own). AsksFit first f asking) is fits

ended_fits : (first : ℕ) (own : Own) (asking : Asking) → IsAsking first own asking → IsAsking first (ended_own own) (all_ended asking)
ended_fits first own asking fits = record { numbers = fits.numbers; next = fits.next; out = refl }

-- Something that was begun fits what is kept once our request has ended.
pub own_ends_fit : (happened : List Effect) (old new : Inside) (first : ℕ) (asking : Asking) → OwnEnds happened old new → AsksFit first old.own asking → (after : Asking) × AsksFit first new.own after
own_ends_fit happened old _ first asking unended fits = (asking, fits)
own_ends_fit happened old _ first asking (committed completed own is) fits = (all_ended asking, ended_fits first own asking (is_asking first old.own own asking is fits))
own_ends_fit happened old _ first asking (rolled_back refused own is) fits = (all_ended asking, ended_fits first own asking (is_asking first old.own own asking is fits))

-- The request that has no end is the newest, and continues under the next number.
pub record Renews (first : ℕ) (own : Own) (asking : Asking) : Type 0 where
  pub newest : BegunReset
  pub earlier : List BegunReset
  pub is : asking.requests ≡ newest ∷ earlier
  pub one : asking.out ≡ 1
  pub again : newest.reset ≡ own.again
  pub next : own.next ≡ next_number newest.number
  pub fits : IsAsking first (renewed_own own) (asking_renewed own.next newest asking)

number_after : (first n number next : ℕ) → number ≡ (first + n) % 2 ^ 32 → next ≡ (first + suc n) % 2 ^ 32 → next ≡ next_number number
number_after first n number next is after = omega (arith, is, after)

pub own_renews : (first : ℕ) (own : Own) (number : ℕ) (asking : Asking) → own.number ≡ Some number → IsAsking first own asking → Renews first own asking
own_renews first own number asking out fits =
    let newest : BegunReset = record { number = number; reset = own.again } in
    let left : IsOut number own.again asking = subst (λ (n : Option ℕ). OutIs n own.again asking) out fits.out in
    let numbers : AreNumbered first (newest ∷ left.earlier) = subst (AreNumbered first) left.is fits.numbers in
    record {
      newest = newest;
      earlier = left.earlier;
      is = left.is;
      one = left.one;
      again = refl;
      next = number_after first (length left.earlier) number own.next numbers.0 (fits.next ∙ ap (λ (l : List BegunReset). (first + length l) % 2 ^ 32) left.is);
      fits = record {
        numbers = (fits.next, fits.numbers);
        next = next_again first (length asking.requests) own.next fits.next;
        out = record { one = left.one; earlier = asking.requests; is = refl };
      };
    }

-- So something that was begun fits what is kept then.
pub renewed_fit : (old new : Option Own) (own : Own) (number : ℕ) → old ≡ Some own → own.number ≡ Some number → new ≡ Some (renewed_own own) → SomeFit old → SomeFit new
renewed_fit old new own number kept out is fits =
    let renews = own_renews fits.first own number fits.asking out (is_asking fits.first old own fits.asking kept fits.fits) in
    let asking : Asking = asking_renewed own.next renews.newest fits.asking in
    record { first = fits.first; asking = asking; fits = subst (λ (f : Option Own). AsksFit fits.first f asking) (sym is) renews.fits }

pub own_resets : (came : Option Content) (happened : List Effect) (old new : Inside) → PeerResets came happened old new → new.own ≡ old.own
own_resets came happened old _ (unreset none) = refl
own_resets came happened old _ (absent gone) = refl
own_resets came happened old _ (deferred none parameters reset came_is wants transfer known) = refl
own_resets came happened old _ (reset_now some parameters reset is wants transfer reassembly known reached leaves) = refl

-- The peer's request leaves how messages are numbered.
peer_resets_kind : (came : Option Content) (happened : List Effect) (old new : Inside) → PeerResets came happened old new → new.queues.queue.is_interleaved ≡ old.queues.queue.is_interleaved
peer_resets_kind came happened old _ (unreset none) = refl
peer_resets_kind came happened old _ (absent gone) = refl
peer_resets_kind came happened old _ (deferred none parameters reset came_is wants transfer known) = refl
peer_resets_kind came happened old _ (reset_now some parameters reset is wants transfer reassembly known reached leaves) = refl

-- ---- the direction on which it sends

-- the direction, with this at its sender
abbrev pub sending_by : Direction → Inside → Asking → Direction
sending_by direction inside asking = record direction { queues = inside.queues; asking = asking }

-- The socket comes there by steps; nothing was begun, and messages are numbered as before.
pub record SendingFront (first : ℕ) (direction : Direction) (happened : List Effect) (old new : Inside) : Type 0 where
  pub asking : Asking
  pub between : IsBetween happened direction.asking asking
  pub kind : new.queues.queue.is_interleaved ≡ old.queues.queue.is_interleaved
  pub fits : AsksFit first new.own asking
  pub steps : DirectionSteps (sending_by direction old direction.asking) (sending_by direction new asking)

own_ends_send : (first : ℕ) (direction : Direction) (happened : List Effect) (old new : Inside) → OwnEnds happened old new → AsksFit first old.own direction.asking
    → (has_completed happened ≡ true → (old.queues.queue.is_interleaved || direction.beginning.in_turn) ≡ true → direction.asking.is_performed ≡ true) → ((old.queues.queue.is_interleaved || direction.beginning.in_turn) ≡ true → has_refused happened ≡ false) → SendingFront first direction happened old new
own_ends_send first direction happened old _ unended fits performed refuses = record { asking = direction.asking; between = as_it_was; kind = refl; fits = fits; steps = stays }
own_ends_send first direction happened old _ (committed completed own is) fits performed refuses =
    let asks = is_asking first old.own own direction.asking is fits in
    record {
      asking = all_ended direction.asking;
      between = once_performed completed;
      kind = refl;
      fits = ended_fits first own direction.asking asks;
      steps = one_step (sending_by direction old direction.asking) _
          (directions.commits (λ interleaved. (out_small own.number own.again direction.asking asks.out, performed completed interleaved)));
    }
own_ends_send first direction happened old _ (rolled_back refused own is) fits performed refuses =
    record {
      asking = all_ended direction.asking;
      between = once_refused refused;
      kind = refl;
      fits = ended_fits first own direction.asking (is_asking first old.own own direction.asking is fits);
      steps = one_step (sending_by direction old direction.asking) _ (directions.rolls_back (unmixed (old.queues.queue.is_interleaved || direction.beginning.in_turn) refl));
    }
  where
    unmixed : (b : Bool) → (old.queues.queue.is_interleaved || direction.beginning.in_turn) ≡ b → (old.queues.queue.is_interleaved || direction.beginning.in_turn) ≡ false
    unmixed true is = absurd (let clash : true ≡ false = sym refused ∙ refuses is in cc)
    unmixed false is = is

peer_resets_send : (came : Option Content) (direction : Direction) (happened : List Effect) (old new : Inside) (asking : Asking) → PeerResets came happened old new
    → DirectionSteps (sending_by direction old asking) (sending_by direction new asking)
peer_resets_send came direction happened old _ asking (unreset none) = stays
peer_resets_send came direction happened old _ asking (absent gone) = stays
peer_resets_send came direction happened old _ asking (deferred none parameters reset came_is wants transfer known) = one_step (sending_by direction old asking) _ (directions.turns_aside transfer _ known (record { outstanding = refl; reset_begun = refl }))
peer_resets_send came direction happened old _ asking (reset_now some parameters reset is wants transfer reassembly known reached leaves) =
    one_step (sending_by direction old asking) _ (directions.turns_aside transfer _ known (record { outstanding = refl; reset_begun = refl }))

pub front_sends : (came : Option Content) (first : ℕ) (direction : Direction) (happened : List Effect) (old between new : Inside) → OwnEnds happened old between → PeerResets came happened between new
    → AsksFit first old.own direction.asking → (has_completed happened ≡ true → (old.queues.queue.is_interleaved || direction.beginning.in_turn) ≡ true → direction.asking.is_performed ≡ true) → ((old.queues.queue.is_interleaved || direction.beginning.in_turn) ≡ true → has_refused happened ≡ false) → SendingFront first direction happened old new
front_sends came first direction happened old between new own peer fits performed refuses =
    let ended = own_ends_send first direction happened old between own fits performed refuses in
    record {
      asking = ended.asking;
      between = ended.between;
      kind = peer_resets_kind came happened between new peer ∙ ended.kind;
      fits = subst (λ (f : Option Own). AsksFit first f ended.asking) (sym (own_resets came happened between new peer)) ended.fits;
      steps = all_steps (sending_by direction old direction.asking) (sending_by direction between ended.asking) (sending_by direction new ended.asking) ended.steps
          (peer_resets_send came direction happened between new ended.asking peer);
    }

-- ---- the direction on which it receives

pub own_ends_received : (happened : List Effect) (old new : Inside) → OwnEnds happened old new → new.queues.transfer ≡ old.queues.transfer
own_ends_received happened old _ unended = refl
own_ends_received happened old _ (committed completed own is) = refl
own_ends_received happened old _ (rolled_back refused own is) = refl

-- Nothing is received without an association.
pub front_none : (came : Option Content) (happened : List Effect) (old between new : Inside) → OwnEnds happened old between → PeerResets came happened between new → old.queues.transfer ≡ None → new.queues.transfer ≡ None
front_none came happened old between _ own (unreset none) nowhere = own_ends_received happened old between own ∙ nowhere
front_none came happened old between _ own (absent gone) nowhere = gone
front_none came happened old between _ own (deferred none parameters reset came_is wants transfer known) nowhere = (let gone = own_ends_received happened old between own ∙ nowhere in absurd (cc))
front_none came happened old between _ own (reset_now some parameters reset is wants transfer reassembly known reached leaves) nowhere =
    (let gone = own_ends_received happened old between own ∙ nowhere in absurd (cc))

-- the direction, once a request was performed in this turn or not
abbrev pub resetting : Bool → Direction → Transfer → Bool → List PerformedReset → Direction
resetting is_known direction transfer is_reset performed =
    record (receiving direction transfer direction.read) { performed = performed; asking = performed_if_reset is_known is_reset direction.asking }

-- What was performed: nothing new, or the request that is handled.
pub data RecordsFront (came : Option Content) (happened : List Effect) (direction : Direction) (left : Transfer) : List PerformedReset → Type 0 where
  front_none_new : has_reset happened ≡ false → RecordsFront came happened direction left direction.performed
  front_one_new : has_reset happened ≡ true → (parameters : List ResetParameter) (reset : RequestedReset) → came ≡ Some (re_config parameters) → first_reset_request parameters ≡ Some reset
      → RecordsFront came happened direction left (reset_performed reset.streams direction.read left.reassembly ∷ direction.performed)

pub record ReceivingFront (is_known : Bool) (came : Option Content) (direction : Direction) (transfer : Transfer) (happened : List Effect) (new : Inside) : Type 0 where
  pub left : Transfer
  pub is : new.queues.transfer ≡ Some left
  pub is_reset : Bool
  pub none : is_reset ≡ false → has_reset happened ≡ false
  pub some : is_reset ≡ true → has_reset happened ≡ true
  pub performed : List PerformedReset
  pub records : RecordsFront came happened direction left performed
  pub steps : DirectionSteps (receiving direction transfer direction.read) (resetting is_known direction left is_reset performed)

pub unperformed : (is_known : Bool) (asking : Asking) → performed_if_reset is_known false asking ≡ asking
unperformed true asking = refl
unperformed false asking = refl

-- where no request is performed
front_by : (is_known : Bool) (came : Option Content) (direction : Direction) (transfer left : Transfer) (happened : List Effect) (new : Inside) → new.queues.transfer ≡ Some left → has_reset happened ≡ false
    → DirectionSteps (receiving direction transfer direction.read) (receiving direction left direction.read) → ReceivingFront is_known came direction transfer happened new
front_by is_known came direction transfer left happened new is none steps =
    record {
      left = left;
      is = is;
      is_reset = false;
      none = λ no. none;
      some = λ is. absurd (cc);
      performed = direction.performed;
      records = front_none_new none;
      steps = subst (λ (a : Asking). DirectionSteps (receiving direction transfer direction.read) (record (receiving direction left direction.read) { asking = a }))
          (sym (unperformed is_known direction.asking)) steps;
    }

-- Where a request is handled, one of the same streams was begun.
abbrev pub AsksSome : Direction → Option Content → Type 0
AsksSome direction came = (parameters : List ResetParameter) (reset : RequestedReset) → came ≡ Some (re_config parameters) → first_reset_request parameters ≡ Some reset → HasAskedUpTo direction.asking.requests reset.last_tsn reset.streams

-- where one is performed: it may be known to be the newest, or to want what that wants
performs_by : (is_known : Bool) (came : Option Content) (happened : List Effect) (direction : Direction) (transfer : Transfer) (parameters : List ResetParameter) (reset : RequestedReset) (reassembly : ReassemblyState) → KnowsRequest is_known direction transfer came happened
    → has_reset happened ≡ true → came ≡ Some (re_config parameters) → first_reset_request parameters ≡ Some reset → HasAskedUpTo direction.asking.requests reset.last_tsn reset.streams → is_reset_reached reset transfer.tracker ≡ true → EndsDeferral reset.streams transfer.reassembly reassembly
    → DirectionSteps (receiving direction transfer direction.read)
    (resetting is_known direction (record transfer { reassembly = reassembly }) true (reset_performed reset.streams direction.read reassembly ∷ direction.performed))
performs_by true came happened direction transfer parameters reset reassembly newest done came_is wants some reached leaves =
    let found = newest done parameters reset came_is wants in
    let same : found.newest.reset.streams ≡ reset.streams = ap (λ (r : RequestedReset). r.streams) found.asks in
    subst (λ (streams : List ℕ). DirectionSteps (receiving direction transfer direction.read)
    (resetting true direction (record transfer { reassembly = reassembly }) true (reset_performed streams direction.read reassembly ∷ direction.performed))) same
    (one_step (receiving direction transfer direction.read) _
    (directions.performs found.newest found.earlier reassembly found.is (λ interleaved. found.unknown) (subst (λ (r : RequestedReset). is_reset_reached r transfer.tracker ≡ true) (sym found.asks) reached)
    (own_same reset found.newest.reset transfer.reassembly.deferral (sym found.asks) found.own)
    (subst (λ (r : RequestedReset). EndsDeferral r.streams transfer.reassembly reassembly) (sym found.asks) leaves)))
performs_by false came happened direction transfer parameters reset reassembly (inl unmixed) done came_is wants some reached leaves =
    one_step (receiving direction transfer direction.read) _ (directions.resets reset.streams reassembly unmixed some.asked leaves)
performs_by false came happened direction transfer parameters reset reassembly (inr newest) done came_is wants some reached leaves =
    let found = newest done parameters reset came_is wants in
    let same : found.newest.reset.streams ≡ reset.streams = ap (λ (r : RequestedReset). r.streams) found.asks in
    subst (λ (streams : List ℕ). DirectionSteps (receiving direction transfer direction.read)
    (resetting false direction (record transfer { reassembly = reassembly }) true (reset_performed streams direction.read reassembly ∷ direction.performed))) same
    (one_step (receiving direction transfer direction.read) _
    (directions.performs_earlier found.newest found.earlier reassembly found.is (λ interleaved. found.unknown) (subst (λ (r : RequestedReset). is_reset_reached r transfer.tracker ≡ true) (sym found.asks) reached)
    (own_same reset found.newest.reset transfer.reassembly.deferral (sym found.asks) found.own)
    (subst (λ (r : RequestedReset). EndsDeferral r.streams transfer.reassembly reassembly) (sym found.asks) leaves)))

peer_resets_receive : (is_known : Bool) (came : Option Content) (happened : List Effect) (direction : Direction) (transfer : Transfer) (old new : Inside) → KnowsRequest is_known direction transfer came happened
    → AsksSome direction came → old.queues.transfer ≡ Some transfer → PeerResets came happened old new → ReceivingFront is_known came direction transfer happened new
peer_resets_receive is_known came happened direction transfer old _ newest asked is (unreset none) = front_by is_known came direction transfer transfer happened old is none stays
peer_resets_receive is_known came happened direction transfer old _ newest asked is (absent gone) = absurd (cc)
peer_resets_receive is_known came happened direction transfer old new newest asked is (deferred none parameters reset came_is wants found known) =
    let same : found ≡ transfer = cc in
    subst (λ (t : Transfer). ReceivingFront is_known came direction t happened new) same
    (front_by is_known came direction found _ happened new refl none (one_step (receiving direction found direction.read) _ (directions.defers reset.last_tsn reset.streams (asked parameters reset came_is wants))))
peer_resets_receive is_known came happened direction transfer old new newest asked is (reset_now some parameters reset came_is wants found reassembly known reached leaves) =
    let same : transfer ≡ found = cc in
    record {
      left = record found { reassembly = reassembly };
      is = refl;
      is_reset = true;
      none = λ no. absurd (cc);
      some = λ is. some;
      performed = reset_performed reset.streams direction.read reassembly ∷ direction.performed;
      records = front_one_new some parameters reset came_is wants;
      steps = subst (λ (t : Transfer). DirectionSteps (receiving direction t direction.read)
          (resetting is_known direction (record found { reassembly = reassembly }) true (reset_performed reset.streams direction.read reassembly ∷ direction.performed))) (sym same)
          (performs_by is_known came happened direction found parameters reset reassembly (subst (λ (t : Transfer). KnowsRequest is_known direction t came happened) same newest) some came_is wants (asked parameters reset came_is wants) reached leaves);
    }

pub front_receives : (is_known : Bool) (came : Option Content) (happened : List Effect) (direction : Direction) (transfer : Transfer) (old between new : Inside) → KnowsRequest is_known direction transfer came happened
    → AsksSome direction came → old.queues.transfer ≡ Some transfer → OwnEnds happened old between → PeerResets came happened between new → ReceivingFront is_known came direction transfer happened new
front_receives is_known came happened direction transfer old between new newest asked is own peer =
    peer_resets_receive is_known came happened direction transfer between new newest asked (own_ends_received happened old between own ∙ is) peer

-- What becomes of the sender's requests to reset streams (RFC 6525, section 5.2), in all
-- associations of both sides.
use Rattle.std.specs.Prelude.{◌≡◌, ◌≢◌, ◌⊎◌, ◌<◌, ◌≤◌, ◌+◌, ◌%◌, ◌^◌, ℕ, suc, Bool, true, false, Option, None, Some, List, [], ◌∷◌, length, ◌||◌}
use Rattle.dcsctp_spec_lemmas.specs.types.declared.association.Pair.{Pair}
use Rattle.dcsctp_spec_runs.specs.Past.{WasPerformed, HasEffect, number_to_accept, number_to_perform}
use Rattle.dcsctp_spec_lemmas.specs.spec.Reconfiguration.{RequestedReset, renewed_reset}
use Rattle.dcsctp_spec_lemmas.specs.spec.endpoint.Endpoint.{Endpoint}
use Rattle.dcsctp_spec_lemmas.specs.spec.association.Effect.{AssociationIdentity, Effect, holds, identity_of_core}
use Rattle.dcsctp_spec_lemmas.specs.spec.queues.Transfer.{Transfer}
use Rattle.dcsctp_spec_lemmas.specs.spec.queues.Reassembly.{DeferralModel}
use Rattle.dcsctp_spec_lemmas.specs.spec.endpoint.BegunResets.{BegunReset}
use Rattle.dcsctp_delivery_directions.specs.receiving.Clear.{IsOwn}
use Rattle.dcsctp_delivery_directions.specs.directions.Directions.{Asking, nothing_asked}
use Rattle.dcsctp_delivery_sockets.specs.turns.Asking.{AreNumbered}
use Rattle.dcsctp_delivery_sockets.specs.associations.Ends.{Ends}

-- ---- one association

-- The requests that the sender has begun in an association: its own pair there, and whether they end in turn, as they do with
-- interleaving.
pub record Requests : Type 0 where
  pub my : Pair
  pub first : ℕ
  pub asking : Asking
  pub in_turn : Bool

-- the number of the request at this place: the first is at 0
abbrev pub request_numbered : ℕ → ℕ → ℕ
request_numbered first place = (first + place) % 2 ^ 32

-- They want the same, but for whether they say that they are new.
abbrev pub WantsSame : RequestedReset → RequestedReset → Type 0
WantsSame one other = renewed_reset one ≡ renewed_reset other

-- Each request from this place on wants this reset, as one does that is sent again under other numbers.
abbrev pub WantFrom : ℕ → RequestedReset → List BegunReset → Type 0
WantFrom place reset [] = Unit {0}
WantFrom place reset (begun ∷ earlier) = (place ≤ length earlier → WantsSame begun.reset reset) × WantFrom place reset earlier

-- The sender had it, under this tag of its own.
pub record SenderHadPeer (past : List Effect) (tag : ℕ) (my : Pair) : Type 0 where
  pub link : AssociationIdentity
  pub held : HasEffect (holds link) past
  pub tag_is : link.my.tag ≡ tag
  pub my_is : link.my ≡ my
  pub some : tag ≢ 0

-- The receiver had it: its peer has this tag.
pub record WasJoined (their_past : List Effect) (tag : ℕ) (my : Pair) : Type 0 where
  pub link : AssociationIdentity
  pub held : HasEffect (holds link) their_past
  pub tag_is : link.peer.tag ≡ tag
  pub my_is : link.peer ≡ my
  pub some : tag ≢ 0

-- The numbers go up by one, and at most one request is outstanding.
pub record AreAsked (requests : Requests) (their_past : List Effect) : Type 0 where
  pub numbers : AreNumbered requests.first requests.asking.requests
  pub out : requests.asking.out ≤ 1
  -- In turn the receiver has performed the newest if it has an end,
  pub ended : requests.in_turn ≡ true → requests.asking.out ≡ 0 → (place : ℕ) → suc place ≡ length requests.asking.requests → WasPerformed requests.my (request_numbered requests.first place) their_past
  -- or if that is known;
  pub performed_is : requests.in_turn ≡ true → requests.asking.is_performed ≡ true → (place : ℕ) → suc place ≡ length requests.asking.requests → WasPerformed requests.my (request_numbered requests.first place) their_past
  -- and it has performed one, or all want the same.
  pub some_performed : requests.in_turn ≡ true → (newest : BegunReset) (earlier : List BegunReset) → requests.asking.requests ≡ newest ∷ earlier
      → ((number : ℕ) × WasPerformed requests.my number their_past) ⊎ WantFrom 0 newest.reset requests.asking.requests

-- The number is that of a request. In turn it is known whether the newest was performed.
pub record IsRequestNumber (requests : Requests) (number : ℕ) : Type 0 where
  pub place : ℕ
  pub below : place < length requests.asking.requests
  pub is : number ≡ request_numbered requests.first place
  pub newest : requests.in_turn ≡ true → suc place ≡ length requests.asking.requests → requests.asking.is_performed ≡ true

-- This holds for each that the receiver has performed.
abbrev pub WerePerformed : Requests → List Effect → Type 0
WerePerformed requests their_past = (number : ℕ) → WasPerformed requests.my number their_past → IsRequestNumber requests number

-- How far the receiver is: what it has accepted and performed, and what waits there. It may not have reached the newest request
-- where one was sent again under other numbers.
pub data IsInStep (requests : Requests) (their_past : List Effect) (waits : Option DeferralModel) : Type 0 where
  -- It has performed the newest, or none was begun.
  all_performed : number_to_accept their_past ≡ Some (request_numbered requests.first (length requests.asking.requests)) → number_to_perform their_past ≡ None → waits ≡ None
      → (requests.asking.requests ≡ []) ⊎ (requests.asking.is_performed ≡ true) → IsInStep requests their_past waits
  -- It hasn't accepted the one at this place, from which on all want the same,
  unaccepted : (newest : BegunReset) (earlier : List BegunReset) (place : ℕ) → requests.asking.requests ≡ newest ∷ earlier → place ≤ length earlier → WantFrom place newest.reset requests.asking.requests
      → number_to_accept their_past ≡ Some (request_numbered requests.first place) → number_to_perform their_past ≡ None → waits ≡ None → requests.asking.is_performed ≡ false → IsInStep requests their_past waits
  -- or hasn't performed it yet.
  in_progress : (newest : BegunReset) (earlier : List BegunReset) (place : ℕ) → requests.asking.requests ≡ newest ∷ earlier → place ≤ length earlier → WantFrom place newest.reset requests.asking.requests
      → number_to_accept their_past ≡ Some (request_numbered requests.first (suc place)) → number_to_perform their_past ≡ Some (request_numbered requests.first place) → IsOwn newest.reset waits → requests.asking.is_performed ≡ false
      → IsInStep requests their_past waits

-- The receiver is in step; or requests don't end in turn, and one was begun.
pub data StandsSo (requests : Requests) (their_past : List Effect) (waits : Option DeferralModel) : Type 0 where
  in_step : IsInStep requests their_past waits → StandsSo requests their_past waits
  plain : requests.in_turn ≡ false → (requests.asking.requests ≡ [] → ⊥) → StandsSo requests their_past waits

-- ---- all of them

-- The requests of each tag of the sender. `mine` is the sender's association, `theirs` the receiver's, in which this waits.
pub record AnswersRequests (requests : ℕ → Requests) (mine : Option AssociationIdentity) (past : List Effect) (theirs : Option AssociationIdentity) (their_past : List Effect) (waits : Option DeferralModel) : Type 0 where
  pub asked : (tag : ℕ) → tag ≢ 0 → ((requests tag).asking ≡ nothing_asked) ⊎ AreAsked (requests tag) their_past
  pub asked_held : (tag : ℕ) → tag ≢ 0 → ((requests tag).asking ≡ nothing_asked) ⊎ SenderHadPeer past tag (requests tag).my
  pub performed : (tag : ℕ) → WasJoined their_past tag (requests tag).my → WerePerformed (requests tag) their_past
  -- A pair of the sender is of one tag.
  pub apart : (one two : ℕ) → one ≢ two → WasJoined their_past one (requests one).my → WasJoined their_past two (requests two).my → (requests one).my ≢ (requests two).my
  pub mine_apart : (link : AssociationIdentity) → mine ≡ Some link → (tag : ℕ) → link.my.tag ≢ tag → WasJoined their_past tag (requests tag).my → link.my ≢ (requests tag).my
  pub joined : (my : Pair) (number : ℕ) → WasPerformed my number their_past → (tag : ℕ) × WasJoined their_past tag (requests tag).my × ((requests tag).my ≡ my)
  pub mine_held : (link : AssociationIdentity) → mine ≡ Some link → SenderHadPeer past link.my.tag link.my × ((requests link.my.tag).my ≡ link.my)
  pub mine_first : (link : AssociationIdentity) → mine ≡ Some link → (requests link.my.tag).first ≡ link.my.first_tsn
  pub theirs_held : (link : AssociationIdentity) → theirs ≡ Some link → WasJoined their_past link.peer.tag link.peer × ((requests link.peer.tag).my ≡ link.peer)
  pub stands : (link : AssociationIdentity) → theirs ≡ Some link → StandsSo (requests link.peer.tag) their_past waits

-- those of both ends
abbrev pub requests_of : Ends → (ℕ → Pair) → ℕ → Requests
requests_of ends pairs tag =
    record { my = pairs tag; first = ends.firsts tag; asking = (ends.sends tag).asking; in_turn = (ends.sends tag).queues.queue.is_interleaved || ends.calls.in_turn }

-- the reset that waits
abbrev pub waiting_deferral : Option Transfer → Option DeferralModel
waiting_deferral None = None
waiting_deferral (Some transfer) = transfer.reassembly.deferral

-- What was asked is answered so, by the pairs that the sender has had.
pub record AreAnswered (ends : Ends) (e : Endpoint) (past : List Effect) (other : Endpoint) (their_past : List Effect) : Type 0 where
  pub pairs : ℕ → Pair
  pub answers : AnswersRequests (requests_of ends pairs) (identity_of_core e.core) past (identity_of_core other.core) their_past (waiting_deferral other.queues.transfer)
  pub unlinked : other.queues.transfer ≡ None → identity_of_core other.core ≡ None

-- What holds of one side over every list of turns, whatever packets it is handed.
use Rattle.std.specs.Prelude.{◌≡◌, ◌≢◌, ℕ, suc, Option, None, Some, List, [], ◌∷◌, ◌⊎◌}
use Rattle.dcsctp_spec_lemmas.specs.types.declared.options.Options.{Options}
use Rattle.dcsctp_spec_lemmas.specs.types.declared.association.Pair.{Pair}
use Rattle.dcsctp_spec_lemmas.specs.types.declared.association.Held.{Held}
use Rattle.dcsctp_spec_lemmas.specs.spec.endpoint.Endpoint.{Core, closed, cookie_wait, cookie_echoed, open_in, established}
use Rattle.dcsctp_spec_lemmas.specs.spec.association.Effect.{AssociationIdentity, Effect, draws, holds, connects, ends, begins, completes, fails, performs, renews, resumes, Change, identity_of, identity_of_core}
use Rattle.dcsctp_spec_lemmas.specs.wire.declared.reconfiguration.ReconfigurationResponseResult.{ReconfigurationResponseResult}
use Rattle.dcsctp_spec_lemmas.specs.wire.declared.reconfiguration.ReconfigurationResponseResult.TheVariants.{SuccessNothingToDo, SuccessPerformed, Denied, ErrorWrongSSN, ErrorRequestAlreadyInProgress, ErrorBadSequenceNumber}
use Rattle.dcsctp_spec_lemmas.specs.spec.Reconfiguration.{ResetParameter, reconfiguration_response}
use Rattle.dcsctp_spec_lemmas.specs.spec.Packet.{Content, re_config}
use Rattle.dcsctp_spec_lemmas.specs.spec.association.Choices.{Choices}
use Rattle.dcsctp_spec_lemmas.specs.spec.association.FlushChanges.{next_number}
use Rattle.dcsctp_spec_lemmas.specs.spec.association.Acts.{Act, act_change, chunk_change}
use Rattle.dcsctp_spec_runs.specs.Past.{HasEffect, Each, current, number_to_begin, outstanding, number_to_accept, InPlace}
use Rattle.dcsctp_spec_runs.specs.World.{ControlTurn, SideRun, side_after}

-- Each effect of each run is in its order.
abbrev pub EffectsInPlace : Type 0
EffectsInPlace = (options : Options) (steps : List (List Change)) → SideRun options steps → Each InPlace (side_after options steps).past

-- how many of these effects are ends
abbrev pub count_of_ends : List Effect → ℕ
count_of_ends [] = 0
count_of_ends (ends ∷ effects) = suc (count_of_ends effects)
count_of_ends (effect ∷ effects) = count_of_ends effects

-- A turn ends the association with one end event, or doesn't end it and adds none.
pub data OneEnd (core : Core) (change : Change) : Type 0 where
  it_ends : core ≢ closed → change.core ≡ closed → count_of_ends change.effects ≡ 1 → OneEnd core change
  it_stays : (change.core ≡ closed → core ≡ closed) → count_of_ends change.effects ≡ 0 → OneEnd core change

abbrev pub EndsOnce : Type 0
EndsOnce = (options : Options) (core : Core) (change : Change) → ControlTurn options core change → OneEnd core change

-- ---- what the effects say of the association after the turn

-- It is Established, with this peer.
pub record IsEstablished (core : Core) (link : AssociationIdentity) : Type 0 where
  pub held : Held
  pub phase : core ≡ open_in established link.my held
  pub linked : identity_of link.my held ≡ link

-- the number of its own request that has no final answer
abbrev pub outstanding_of_core : Core → Option ℕ
outstanding_of_core closed = None
outstanding_of_core (cookie_wait my) = None
outstanding_of_core (cookie_echoed my held cookie) = held.own_outstanding
outstanding_of_core (open_in phase my held) = held.own_outstanding

-- No pair is drawn while a handshake is under way.
abbrev pub MayDraw : Core → Type 0
MayDraw closed = Unit {0}
MayDraw (cookie_wait my) = ⊥
MayDraw (cookie_echoed my held cookie) = ⊥
MayDraw (open_in phase my held) = Unit {0}

-- From here on this is the association: a handshake made it, or it was restored.
abbrev pub IsShown : AssociationIdentity → List Effect → Type 0
IsShown link effects = HasEffect (holds link) effects ⊎ ((own : ℕ) × (last : ℕ) × HasEffect (resumes link own last) effects)

pub record Means (core : Core) (change : Change) : Type 0 where
  -- A shown association exists then, and a new one is shown.
  pub held : (link : AssociationIdentity) → HasEffect (holds link) change.effects → identity_of_core change.core ≡ Some link
  pub restored : (link : AssociationIdentity) (own last : ℕ) → HasEffect (resumes link own last) change.effects → identity_of_core change.core ≡ Some link
  pub newly_held : (link : AssociationIdentity) → identity_of_core change.core ≡ Some link → (identity_of_core core ≡ Some link) ⊎ IsShown link change.effects
  -- OnConnected finds Established.
  pub connected : (link : AssociationIdentity) → HasEffect (connects link) change.effects → IsEstablished change.core link
  pub ended : HasEffect ends change.effects → change.core ≡ closed
  -- A pair is drawn by a closed side, and in answer to an INIT while an association is open.
  pub drawn : (pair : Pair) → HasEffect (draws pair) change.effects → MayDraw core
  -- Its own request that was begun is outstanding.
  pub begun : (number : ℕ) → HasEffect (begins number) change.effects → outstanding_of_core change.core ≡ Some number
  -- Resets are performed and completed in the existing association.
  pub completed : (my : Pair) (number : ℕ) → HasEffect (completes my number) change.effects
      → (link : AssociationIdentity) × (identity_of_core change.core ≡ Some link) × (link.my ≡ my)
  pub performed : (peer : Pair) (number : ℕ) → HasEffect (performs peer number) change.effects → (link : AssociationIdentity) × (identity_of_core change.core ≡ Some link)
      × (link.peer ≡ peer)
  pub renewed : (peer : Pair) (number : ℕ) → HasEffect (renews peer number) change.effects → (link : AssociationIdentity) × (identity_of_core change.core ≡ Some link)
      × (link.peer ≡ peer)

abbrev pub EffectsMean : Type 0
EffectsMean = (options : Options) (core : Core) (change : Change) → ControlTurn options core change → Means core change

-- ---- the association is what the past leaves

pub record LeavesHeld (past : List Effect) (my : Pair) (held : Held) : Type 0 where
  pub link : current past ≡ Some (identity_of my held)
  pub own_next : number_to_begin past ≡ Some held.own_next
  pub own_outstanding : outstanding past ≡ held.own_outstanding
  pub peer_next : number_to_accept past ≡ Some (next_number held.peer_last)

abbrev pub LeavesCore : List Effect → Core → Type 0
LeavesCore past closed = current past ≡ None
LeavesCore past (cookie_wait my) = current past ≡ None
LeavesCore past (cookie_echoed my held cookie) = LeavesHeld past my held
LeavesCore past (open_in phase my held) = LeavesHeld past my held

-- So the association is the one that the effects say, and no other.
abbrev pub PastIsState : Type 0
PastIsState = (options : Options) (steps : List (List Change)) → SideRun options steps
    → LeavesCore (side_after options steps).past (side_after options steps).core

-- ---- its own requests end by answers

-- 'performed' and 'nothing to do'
abbrev pub IsSuccess : ReconfigurationResponseResult → Type 0
IsSuccess SuccessNothingToDo = Unit {0}
IsSuccess SuccessPerformed = Unit {0}
IsSuccess result = ⊥

-- every result but those and 'in progress'
abbrev pub IsRefusal : ReconfigurationResponseResult → Type 0
IsRefusal Denied = Unit {0}
IsRefusal ErrorWrongSSN = Unit {0}
IsRefusal ErrorRequestAlreadyInProgress = Unit {0}
IsRefusal ErrorBadSequenceNumber = Unit {0}
IsRefusal result = ⊥

-- a response to this number with a result of this kind is among the parameters
abbrev pub HasResponse : (ReconfigurationResponseResult → Type 0) → ℕ → List ResetParameter → Type 0
HasResponse Kind number [] = ⊥
HasResponse Kind number (reconfiguration_response answered result ∷ parameters) =
    ((number ≡ answered) × Kind result) ⊎ HasResponse Kind number parameters
HasResponse Kind number (parameter ∷ parameters) = HasResponse Kind number parameters

abbrev pub parameters_of_content : Content → List ResetParameter
parameters_of_content (re_config parameters) = parameters
parameters_of_content content = []

-- A request ends only in a turn that handles an answer with its number and a result other than 'in progress' (RFC 6525, section
-- 5.2.7).
pub record AnswersEndRequests : Type 0 where
  pub completed : (options : Options) (core : Core) (header : ℕ) (content : Content) (choices : Choices) (my : Pair) (number : ℕ)
      → HasEffect (completes my number) (chunk_change options core header content choices).effects → HasResponse IsSuccess number (parameters_of_content content)
  pub failed : (options : Options) (core : Core) (header : ℕ) (content : Content) (choices : Choices) (number : ℕ)
      → HasEffect (fails number) (chunk_change options core header content choices).effects → HasResponse IsRefusal number (parameters_of_content content)
  pub none_completed : (options : Options) (core : Core) (act : Act) (choices : Choices) (my : Pair) (number : ℕ)
      → HasEffect (completes my number) (act_change options core act choices).effects → ⊥
  pub none_failed : (options : Options) (core : Core) (act : Act) (choices : Choices) (number : ℕ)
      → HasEffect (fails number) (act_change options core act choices).effects → ⊥

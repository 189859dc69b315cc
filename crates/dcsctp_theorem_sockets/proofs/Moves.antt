-- What comes of connect, and of an act in which the options have no part, is moves of a side in the
-- machine that agreement is proved on.
use Rattle.std.proofs.Common.{◌≡◌, List, [], ◌∷◌, ◌++◌, refl, sym, subst, ap, ◌∙◌, append_assoc}
use Rattle.std.proofs.lemmas.List.{append-nil}
use Rattle.dcsctp_spec_lemmas.specs.wire.ReadsBack.{BuiltPacketReadsAsItself}
use Rattle.dcsctp_spec_lemmas.specs.types.declared.options.Options.{Options}
use Rattle.dcsctp_spec_lemmas.specs.types.Settings.{SameOptions}
use Rattle.dcsctp_spec_lemmas.specs.spec.endpoint.Endpoint.{Endpoint, Core}
use Rattle.dcsctp_spec_lemmas.specs.spec.endpoint.Outcome.{Outcome}
use Rattle.dcsctp_spec_lemmas.specs.spec.endpoint.Turn.{ActTurn, act_input}
use Rattle.dcsctp_spec_lemmas.specs.spec.endpoint.HandshakeOutcomes.{ConnectTurn}
use Rattle.dcsctp_spec_lemmas.specs.spec.endpoint.CallTurns.{Transition, Turns}
use Rattle.dcsctp_spec_lemmas.specs.spec.association.Controlled.{IsControlled, IsControlledAct}
use Rattle.dcsctp_spec_lemmas.specs.spec.association.Effect.{Effect, Change}
use Rattle.dcsctp_spec_lemmas.specs.spec.association.Choices.{Choices}
use Rattle.dcsctp_spec_lemmas.specs.spec.association.Acts.{Act, connect, act_change, flushes}
use Rattle.dcsctp_spec_runs.specs.Laws.{OfferReadsBack, PacketsAreControlled, AdmittedPacketsMayBeHandled}
use Rattle.dcsctp_spec_laws.specs.TurnLaws.{ActsAreControlled}
use Rattle.dcsctp_spec_runs.specs.World.{SideState, after_changes, acted, Move, does, MoveChanges, MoveResult, MakesMoves, after_moves}
use Rattle.dcsctp_spec_runs.specs.Sockets.{endpoint_after}
use Rattle.dcsctp_spec_runs.specs.Fitting.{TurnFits}
use Rattle.dcsctp_spec_runs.proofs.DeliveryLemmas.{longest_connects}
use Rattle.dcsctp_theorem_association.specs.OneSide.{EffectsMean}
use Rattle.dcsctp_theorem_sockets.proofs.Follow.{Followed, follow_turns}
use Rattle.dcsctp_theorem_sockets.proofs.ActMoves.{IgnoresMessageSize, ActFollows, act_follows}
use Rattle.dcsctp_theorem_sockets.proofs.TurnsFit.{connect_fits}

-- the laws below that the runs of sockets rest on
pub record Below : Type 0 where
  pub effects_mean : EffectsMean
  pub acts : ActsAreControlled
  pub packets : PacketsAreControlled
  pub admitted : AdmittedPacketsMayBeHandled
  pub offers : OfferReadsBack
  pub built : BuiltPacketReadsAsItself

-- A socket's turns are moves of its side, where the other side's past is this.
pub record SideMoves (options : Options) (turns : List Transition) (side : SideState) (theirs : List Effect) (more : List Transition) : Type 0 where
  pub moves : List MoveResult
  pub made : MakesMoves side theirs moves
  pub follows : Followed options (turns ++ more) (after_moves side moves)

pub rests : (options : Options) (turns : List Transition) (side : SideState) (theirs : List Effect) (more : List Transition) → Followed options (turns ++ more) side → SideMoves options turns side theirs more
rests options turns side theirs more follows = record { moves = []; made = tt; follows = follows }

pub moves_once : (options : Options) (turns : List Transition) (side : SideState) (theirs : List Effect) (more : List Transition) (move : Move) (changes : List Change) → MoveChanges side theirs move changes
    → Followed options (turns ++ more) (after_changes side changes) → SideMoves options turns side theirs more
moves_once options turns side theirs more move changes made follows = record { moves = record { move = move; changes = changes } ∷ []; made = (made, tt); follows = follows }

pub nothing_happens : (options : Options) (turns : List Transition) (side : SideState) (theirs : List Effect) (more : List Transition) → Followed options turns side → more ≡ []
    → SideMoves options turns side theirs more
nothing_happens options turns side theirs more h none =
    rests options turns side theirs more
    (subst (λ (ts : List Transition). Followed options (turns ++ ts) side) (sym none) (subst (λ (ts : List Transition). Followed options ts side) (sym (append-nil turns)) h))

-- turns in which the side has no part, and others after them
pub rests_then : (options : Options) (turns : List Transition) (side : SideState) (theirs : List Effect) (xs ys : List Transition) → SideMoves options (turns ++ xs) side theirs ys
    → SideMoves options turns side theirs (xs ++ ys)
rests_then options turns side theirs xs ys second =
    record {
      moves = second.moves;
      made = second.made;
      follows = subst (λ (ts : List Transition). Followed options ts (after_moves side second.moves)) (append_assoc turns xs ys) second.follows;
    }

-- turns that are a move of the side, and others after them
pub moves_then : (options : Options) (turns : List Transition) (side : SideState) (theirs : List Effect) (xs ys : List Transition) (move : Move) (changes : List Change) → MoveChanges side theirs move changes
    → SideMoves options (turns ++ xs) (after_changes side changes) theirs ys → SideMoves options turns side theirs (xs ++ ys)
moves_then options turns side theirs xs ys move changes made second =
    record {
      moves = record { move = move; changes = changes } ∷ second.moves;
      made = (made, second.made);
      follows = subst (λ (ts : List Transition). Followed options ts (after_moves (after_changes side changes) second.moves)) (append_assoc turns xs ys) second.follows;
    }

pub none_rests : (options : Options) (turns : List Transition) (side : SideState) (theirs : List Effect) (more : List Transition) → Followed options turns side
    → Turns (endpoint_after options turns) [] more → SideMoves options turns side theirs more
none_rests options turns side theirs [] h taken = nothing_happens options turns side theirs [] h refl
none_rests options turns side theirs (t ∷ more) h taken = absurd taken

-- ---- connect

abbrev act_at : Endpoint → Options → Core → Outcome → Choices → Type 0
act_at e options core o choices = IsControlled e o (act_change options core connect choices)

connected_same : (p q : Options) (core : Core) (choices : Choices) → SameOptions p q → act_change q core connect choices ≡ act_change p core connect choices
connected_same p q core choices same = ap (λ (x : Options). act_change x core connect choices) same ∙ longest_connects p q.max_message_size core choices

connected_by : Below → (options : Options) (turns : List Transition) (side : SideState) (theirs : List Effect) (t : Transition) → Followed options turns side
    → ConnectTurn (endpoint_after options turns) t.outcome → SideMoves options turns side theirs (t ∷ [])
connected_by law options turns side theirs t h turn =
    let e : Endpoint = endpoint_after options turns in
    let controlled = law.acts e connect t.outcome turn in
    let choices : Choices = controlled.0 in
    let same_core : act_at e e.options side.core t.outcome choices = subst (λ (core : Core). act_at e e.options core t.outcome choices) (sym h.core) controlled.1 in
    let own : SameOptions side.options e.options = subst (λ (p : Options). SameOptions p e.options) (sym h.side_options) h.own_options in
    let same : act_at e side.options side.core t.outcome choices = subst (IsControlled e t.outcome) (connected_same side.options e.options side.core choices own) same_core in
    let change : Change = act_change side.options side.core connect choices in
    let fits : TurnFits t.outcome = subst TurnFits (sym turn.2) (connect_fits law.offers e e.core turn.0 turn.1 h.fits) in
    moves_once options turns side theirs (t ∷ []) (does connect) (change ∷ []) (choices, refl)
    (follow_turns law.effects_mean options turns side (t ∷ []) (change ∷ []) h (acted connect choices refl, tt) (same, tt) (fits, tt))

pub connect_moves : Below → (options : Options) (turns : List Transition) (side : SideState) (theirs : List Effect) (more : List Transition) → Followed options turns side
    → Turns (endpoint_after options turns) (act_input connect ∷ []) more → SideMoves options turns side theirs more
connect_moves law options turns side theirs [] h turn = absurd turn
connect_moves law options turns side theirs (t ∷ []) h turn = connected_by law options turns side theirs t h turn.0.comes
connect_moves law options turns side theirs (t ∷ next ∷ more) h turn = absurd turn.1

-- ---- an act in which the greatest size of a message has no part

-- its turn, and whatever comes after it
pub act_then : Below → (options : Options) (turns : List Transition) (side : SideState) (theirs : List Effect) (act : Act) (t : Transition) (more : List Transition) → IgnoresMessageSize act
    → Followed options turns side → IsControlledAct (endpoint_after options turns) act t.outcome → TurnFits t.outcome
    → ((choices : Choices) → let after : SideState = after_changes side (act_change side.options side.core act choices ∷ []) in
    Followed options (turns ++ t ∷ []) after → SideMoves options (turns ++ t ∷ []) after theirs more)
    → SideMoves options turns side theirs (t ∷ more)
act_then law options turns side theirs act t more any h controlled fits rest =
    let followed : ActFollows options turns side act t = act_follows law.effects_mean options turns side act t any h controlled fits in
    moves_then options turns side theirs (t ∷ []) more (does act) (act_change side.options side.core act followed.choices ∷ []) (followed.choices, refl) (rest followed.choices followed.follows)

pub act_once : Below → (options : Options) (turns : List Transition) (side : SideState) (theirs : List Effect) (act : Act) (t : Transition) → IgnoresMessageSize act
    → Followed options turns side → IsControlledAct (endpoint_after options turns) act t.outcome → TurnFits t.outcome → SideMoves options turns side theirs (t ∷ [])
act_once law options turns side theirs act t any h controlled fits =
    let followed : ActFollows options turns side act t = act_follows law.effects_mean options turns side act t any h controlled fits in
    moves_once options turns side theirs (t ∷ []) (does act) (act_change side.options side.core act followed.choices ∷ []) (followed.choices, refl) followed.follows

-- what a call or a timer brings
pub act_moves : Below → (options : Options) (turns : List Transition) (side : SideState) (theirs : List Effect) (act : Act) (more : List Transition) → IgnoresMessageSize act
    → Followed options turns side → ((o : Outcome) → ActTurn (endpoint_after options turns) act o → TurnFits o)
    → Turns (endpoint_after options turns) (act_input act ∷ []) more → SideMoves options turns side theirs more
act_moves law options turns side theirs act [] any h fits turn = absurd turn
act_moves law options turns side theirs act (t ∷ []) any h fits turn =
    act_once law options turns side theirs act t any h (law.acts (endpoint_after options turns) act t.outcome turn.0.comes) (fits t.outcome turn.0.comes)
act_moves law options turns side theirs act (t ∷ next ∷ more) any h fits turn = absurd turn.1

-- a turn that is a flush of the association
pub flush_moves : Below → (options : Options) (turns : List Transition) (side : SideState) (theirs : List Effect) (t : Transition) → Followed options turns side
    → IsControlledAct (endpoint_after options turns) flushes t.outcome → TurnFits t.outcome → SideMoves options turns side theirs (t ∷ [])
flush_moves law options turns side theirs t h controlled fits = act_once law options turns side theirs flushes t (λ p q core choices same. refl) h controlled fits

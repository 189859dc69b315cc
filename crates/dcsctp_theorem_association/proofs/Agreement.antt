-- Two sides agree: what is true of both lasts over every run, and says what `SidesAgree` wants.
use Rattle.std.proofs.Common.{◌≡◌, ℕ, ◌+◌, ◌-◌, ◌%◌, ◌^◌, ◌≤◌, Some, List, [], ◌∷◌, ◌⊎◌, inl, inr, refl, sym, subst, ap, arith}
use Rattle.dcsctp_spec_lemmas.specs.types.declared.association.Pair.{Pair}
use Rattle.dcsctp_spec_lemmas.specs.types.declared.options.Options.{Options}
use Rattle.dcsctp_spec_lemmas.specs.types.Offer.{Offer, offer_of}
use Rattle.dcsctp_spec_runs.specs.Laws.{AnswerKeepsAgreement}
use Rattle.dcsctp_spec_lemmas.specs.spec.association.Effect.{Effect, draws, sends, holds, connects, ends, begins, gives_up, completes, fails, accepts, performs, renews, resumes, Change}
use Rattle.dcsctp_spec_lemmas.specs.spec.association.FlushChanges.{next_number}
use Rattle.dcsctp_spec_runs.specs.Past.{WasPerformed, Each, HasFreshTags, InPlace, current, my_of, outstanding, number_to_begin, requests_begun}
use Rattle.dcsctp_spec_runs.specs.World.{SideState, after_changes, after_change, Which, at_a, at_b, Move, MoveChanges, WorldStep, World, step_after, world_after, StepChanges, WorldRun, steps_of}
use Rattle.dcsctp_theorem_association.specs.Agreement.{ConnectsCrossed, FindsPerformed, AgreesWithPeer, SidesAgree, RunsAlone, SidesRunAlone}
use Rattle.dcsctp_theorem_association.specs.OneSide.{EffectsInPlace}
use Rattle.dcsctp_theorem_association.proofs.Facts.{number_before, agreed_link, Found, TruePast}
use Rattle.dcsctp_theorem_association.proofs.Growth.{true_of}
use Rattle.dcsctp_theorem_association.proofs.MovesKept.{TrueSide, move_true_after, true_beside, fresh_before_changes}

-- ---- over every run

options_stay : (side : SideState) (changes : List Change) → (after_changes side changes).options ≡ side.options
options_stay side [] = refl
options_stay side (change ∷ changes) = options_stay (after_change side change) changes

pub record TrueWorld (world : World) : Type 0 where
  pub a : TrueSide (offer_of world.b.options) world.a world.b.past
  pub b : TrueSide (offer_of world.a.options) world.b world.a.past

pub record FreshWorld (world : World) : Type 0 where
  pub a : HasFreshTags world.a.past
  pub b : HasFreshTags world.b.past

fresh_before_step : (world : World) (which : Which) (changes : List Change) → FreshWorld (step_after world which changes) → FreshWorld world
fresh_before_step world at_a changes fresh = record { a = fresh_before_changes world.a changes fresh.a; b = fresh.b }
fresh_before_step world at_b changes fresh = record { a = fresh.a; b = fresh_before_changes world.b changes fresh.b }

-- one step of the one side, beside the other
true_step : AnswerKeepsAgreement → (one other : SideState) (move : Move) (changes : List Change)
    → TrueSide (offer_of other.options) one other.past → TrueSide (offer_of one.options) other one.past
    → HasFreshTags (after_changes one changes).past → HasFreshTags other.past → MoveChanges one other.past move changes
    → TrueSide (offer_of other.options) (after_changes one changes) other.past × TrueSide (offer_of (after_changes one changes).options) other (after_changes one changes).past
true_step law one other move changes h k fresh their_fresh turns = (
  move_true_after law (offer_of other.options) one other.past move changes h k.past fresh their_fresh turns,
  subst (λ (o : Options). TrueSide (offer_of o) other (after_changes one changes).past) (sym (options_stay one changes)) (true_beside (offer_of one.options) other one changes k),
)

true_after_step : AnswerKeepsAgreement → (world : World) (which : Which) (move : Move) (changes : List Change)
    → TrueWorld world → FreshWorld (step_after world which changes) → StepChanges world which move changes → TrueWorld (step_after world which changes)
true_after_step law world at_a move changes h fresh turns =
    let both : TrueSide (offer_of world.b.options) (after_changes world.a changes) world.b.past × TrueSide (offer_of (after_changes world.a changes).options) world.b (after_changes world.a changes).past =
    true_step law world.a world.b move changes h.a h.b fresh.a fresh.b turns in
    record { a = both.0; b = both.1 }
true_after_step law world at_b move changes h fresh turns =
    let both : TrueSide (offer_of world.a.options) (after_changes world.b changes) world.a.past × TrueSide (offer_of (after_changes world.b changes).options) world.a (after_changes world.b changes).past =
    true_step law world.b world.a move changes h.b h.a fresh.b fresh.a turns in
    record { a = both.1; b = both.0 }

true_run : AnswerKeepsAgreement → (options_a options_b : Options) (steps : List WorldStep) → WorldRun options_a options_b steps
    → FreshWorld (world_after options_a options_b steps) → TrueWorld (world_after options_a options_b steps)
true_run law options_a options_b [] run fresh = record { a = record { past = tt; core = tt }; b = record { past = tt; core = tt } }
true_run law options_a options_b (step ∷ earlier) run fresh =
    true_after_step law (world_after options_a options_b earlier) step.side step.move step.changes
    (true_run law options_a options_b earlier run.1 (fresh_before_step (world_after options_a options_b earlier) step.side step.changes fresh)) fresh run.0

-- ---- what it says

crossed : (one other : SideState) → TrueSide (offer_of other.options) one other.past → ConnectsCrossed one other
crossed one other h link connected =
    let found : Found (offer_of one.options) (offer_of other.options) other.past link = true_of (offer_of one.options) (offer_of other.options) one.past other.past (connects link) h.past connected in
    record {
      other = agreed_link (offer_of other.options) (offer_of one.options) link.peer link.my;
      held = found.held;
      crossed = record { my = refl; peer = refl };
      capabilities = found.capabilities;
      other_capabilities = refl;
    }

-- ---- our requests and their numbers

-- None was restored.
abbrev NoneResumed : List Effect → Type 0
NoneResumed [] = Unit {0}
NoneResumed (resumes link own last ∷ earlier) = ⊥
NoneResumed (effect ∷ earlier) = NoneResumed earlier

none_resumed : (my_offer their_offer : Offer) (mine theirs : List Effect) → TruePast my_offer their_offer mine theirs → NoneResumed mine
none_resumed my_offer their_offer [] theirs h = tt
none_resumed my_offer their_offer (draws pair ∷ earlier) theirs h = none_resumed my_offer their_offer earlier theirs h.1
none_resumed my_offer their_offer (sends packet ∷ earlier) theirs h = none_resumed my_offer their_offer earlier theirs h.1
none_resumed my_offer their_offer (holds link ∷ earlier) theirs h = none_resumed my_offer their_offer earlier theirs h.1
none_resumed my_offer their_offer (connects link ∷ earlier) theirs h = none_resumed my_offer their_offer earlier theirs h.1
none_resumed my_offer their_offer (ends ∷ earlier) theirs h = none_resumed my_offer their_offer earlier theirs h.1
none_resumed my_offer their_offer (begins number ∷ earlier) theirs h = none_resumed my_offer their_offer earlier theirs h.1
none_resumed my_offer their_offer (completes my number ∷ earlier) theirs h = none_resumed my_offer their_offer earlier theirs h.1
none_resumed my_offer their_offer (fails number ∷ earlier) theirs h = none_resumed my_offer their_offer earlier theirs h.1
none_resumed my_offer their_offer (gives_up number ∷ earlier) theirs h = none_resumed my_offer their_offer earlier theirs h.1
none_resumed my_offer their_offer (accepts number ∷ earlier) theirs h = none_resumed my_offer their_offer earlier theirs h.1
none_resumed my_offer their_offer (performs peer number ∷ earlier) theirs h = none_resumed my_offer their_offer earlier theirs h.1
none_resumed my_offer their_offer (renews peer number ∷ earlier) theirs h = none_resumed my_offer their_offer earlier theirs h.1
none_resumed my_offer their_offer (resumes link own last ∷ earlier) theirs h = absurd h.0

-- our next number is our first TSN plus the number of requests that were begun
next_counted : (past : List Effect) (number : ℕ) (my : Pair) → Each InPlace past → NoneResumed past → number_to_begin past ≡ Some number → my_of (current past) ≡ Some my
    → number % 2 ^ 32 ≡ (my.first_tsn + requests_begun past) % 2 ^ 32
next_counted [] number my rules none n m = absurd (cc)
next_counted (draws pair ∷ earlier) number my rules none n m = next_counted earlier number my rules.1 none n m
next_counted (sends packet ∷ earlier) number my rules none n m = next_counted earlier number my rules.1 none n m
next_counted (holds link ∷ earlier) number my rules none n m =
    let same_number : link.my.first_tsn ≡ number = cc in
    let same_pair : link.my ≡ my = cc in
    let same_first : link.my.first_tsn ≡ my.first_tsn = ap (λ (p : Pair). p.first_tsn) same_pair in
    omega arith
next_counted (connects link ∷ earlier) number my rules none n m = next_counted earlier number my rules.1 none n m
next_counted (ends ∷ earlier) number my rules none n m = absurd (cc)
next_counted (begins before ∷ earlier) number my rules none n m =
    let same_number : next_number before ≡ number = cc in
    let counted : before % 2 ^ 32 ≡ (my.first_tsn + requests_begun earlier) % 2 ^ 32 = next_counted earlier before my rules.1 none rules.0.0 m in
    omega arith
next_counted (completes own before ∷ earlier) number my rules none n m = next_counted earlier number my rules.1 none n m
next_counted (fails before ∷ earlier) number my rules none n m = next_counted earlier number my rules.1 none n m
next_counted (gives_up before ∷ earlier) number my rules none n m = next_counted earlier number my rules.1 none n m
next_counted (accepts before ∷ earlier) number my rules none n m = next_counted earlier number my rules.1 none n m
next_counted (performs peer before ∷ earlier) number my rules none n m = next_counted earlier number my rules.1 none n m
next_counted (renews peer before ∷ earlier) number my rules none n m = next_counted earlier number my rules.1 none n m
next_counted (resumes link own last ∷ earlier) number my rules none n m = absurd none

-- the outstanding number is the last of those
pub record Counted (number : ℕ) (my : Pair) (begun : ℕ) : Type 0 where
  pub last : (number + 1) % 2 ^ 32 ≡ (my.first_tsn + begun) % 2 ^ 32
  pub some_begun : 1 ≤ begun

outstanding_counted : (past : List Effect) (number : ℕ) (my : Pair) → Each InPlace past → NoneResumed past → outstanding past ≡ Some number → my_of (current past) ≡ Some my → Counted number my (requests_begun past)
outstanding_counted [] number my rules none n m = absurd (cc)
outstanding_counted (draws pair ∷ earlier) number my rules none n m = outstanding_counted earlier number my rules.1 none n m
outstanding_counted (sends packet ∷ earlier) number my rules none n m = outstanding_counted earlier number my rules.1 none n m
outstanding_counted (holds link ∷ earlier) number my rules none n m = absurd (cc)
outstanding_counted (connects link ∷ earlier) number my rules none n m = outstanding_counted earlier number my rules.1 none n m
outstanding_counted (ends ∷ earlier) number my rules none n m = absurd (cc)
outstanding_counted (begins before ∷ earlier) number my rules none n m =
    let same_number : before ≡ number = cc in
    let counted : before % 2 ^ 32 ≡ (my.first_tsn + requests_begun earlier) % 2 ^ 32 = next_counted earlier before my rules.1 none rules.0.0 m in
    record { last = omega arith; some_begun = omega arith }
outstanding_counted (completes own before ∷ earlier) number my rules none n m = absurd (cc)
outstanding_counted (fails before ∷ earlier) number my rules none n m = absurd (cc)
outstanding_counted (gives_up before ∷ earlier) number my rules none n m = absurd (cc)
outstanding_counted (accepts before ∷ earlier) number my rules none n m = outstanding_counted earlier number my rules.1 none n m
outstanding_counted (performs peer before ∷ earlier) number my rules none n m = outstanding_counted earlier number my rules.1 none n m
outstanding_counted (renews peer before ∷ earlier) number my rules none n m = outstanding_counted earlier number my rules.1 none n m
outstanding_counted (resumes link own last ∷ earlier) number my rules none n m = absurd none

-- So none of the first carries the number before the first TSN.
not_before : (number begun : ℕ) (my : Pair) → Counted number my begun → begun ≤ 2 ^ 32 - 1 → number ≡ number_before my → ⊥
not_before number begun my counted few is =
    let last : (number + 1) % 2 ^ 32 ≡ (my.first_tsn + begun) % 2 ^ 32 = counted.last in
    let some_begun : 1 ≤ begun = counted.some_begun in
    absurd (omega arith)

performed_where : (theirs : List Effect) (my : Pair) (number : ℕ) (earlier : List Effect) → Counted number my (requests_begun earlier) → requests_begun earlier ≤ 2 ^ 32 - 1
    → WasPerformed my number theirs ⊎ (number ≡ number_before my) → WasPerformed my number theirs
performed_where theirs my number earlier counted few (inl h) = h
performed_where theirs my number earlier counted few (inr e) = absurd (not_before number (requests_begun earlier) my counted few e)

performed : (my_offer their_offer : Offer) (mine theirs : List Effect) → Each InPlace mine → TruePast my_offer their_offer mine theirs → Each (FindsPerformed theirs) mine
performed my_offer their_offer [] theirs rules h = tt
performed my_offer their_offer (draws pair ∷ earlier) theirs rules h = (tt, performed my_offer their_offer earlier theirs rules.1 h.1)
performed my_offer their_offer (sends packet ∷ earlier) theirs rules h = (tt, performed my_offer their_offer earlier theirs rules.1 h.1)
performed my_offer their_offer (holds link ∷ earlier) theirs rules h = (tt, performed my_offer their_offer earlier theirs rules.1 h.1)
performed my_offer their_offer (connects link ∷ earlier) theirs rules h = (tt, performed my_offer their_offer earlier theirs rules.1 h.1)
performed my_offer their_offer (ends ∷ earlier) theirs rules h = (tt, performed my_offer their_offer earlier theirs rules.1 h.1)
performed my_offer their_offer (begins number ∷ earlier) theirs rules h = (tt, performed my_offer their_offer earlier theirs rules.1 h.1)
performed my_offer their_offer (completes my number ∷ earlier) theirs rules h =
    let found : requests_begun earlier ≤ 2 ^ 32 - 1 → WasPerformed my number theirs = λ few. performed_where theirs my number earlier
    (outstanding_counted earlier number my rules.1 (none_resumed my_offer their_offer earlier theirs h.1) rules.0.0 rules.0.1) few h.0 in
    (found, performed my_offer their_offer earlier theirs rules.1 h.1)
performed my_offer their_offer (fails number ∷ earlier) theirs rules h = (tt, performed my_offer their_offer earlier theirs rules.1 h.1)
performed my_offer their_offer (gives_up number ∷ earlier) theirs rules h = (tt, performed my_offer their_offer earlier theirs rules.1 h.1)
performed my_offer their_offer (accepts number ∷ earlier) theirs rules h = (tt, performed my_offer their_offer earlier theirs rules.1 h.1)
performed my_offer their_offer (performs peer number ∷ earlier) theirs rules h = (tt, performed my_offer their_offer earlier theirs rules.1 h.1)
performed my_offer their_offer (renews peer number ∷ earlier) theirs rules h = (tt, performed my_offer their_offer earlier theirs rules.1 h.1)
performed my_offer their_offer (resumes link own last ∷ earlier) theirs rules h = (tt, performed my_offer their_offer earlier theirs rules.1 h.1)

-- ---- the theorem

agrees : (one other : SideState) → TrueSide (offer_of other.options) one other.past → Each InPlace one.past → AgreesWithPeer one other
agrees one other h rules =
    record { connected = crossed one other h; performed = performed (offer_of one.options) (offer_of other.options) one.past other.past rules h.past }

pub sides_agree : AnswerKeepsAgreement → EffectsInPlace → SidesRunAlone → SidesAgree
sides_agree law in_place alone options_a options_b steps run fresh_a fresh_b =
    let world : World = world_after options_a options_b steps in
    let runs : RunsAlone options_a options_b steps = alone options_a options_b steps run in
    let h : TrueWorld world = true_run law options_a options_b steps run (record { a = fresh_a; b = fresh_b }) in
    record {
      a = agrees world.a world.b h.a (subst (λ (s : SideState). Each InPlace s.past) (sym runs.a) (in_place options_a (steps_of at_a steps) runs.a_is_run));
      b = agrees world.b world.a h.b (subst (λ (s : SideState). Each InPlace s.past) (sym runs.b) (in_place options_b (steps_of at_b steps) runs.b_is_run));
    }

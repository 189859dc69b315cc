-- Which lists of acts are honest.
use Rattle.std.proofs.Common.{ℕ, zero, suc, ◌<◌, get_or, length, List, [], ◌∷◌, ◌++◌, ◌≡◌, map, reverse, sym, subst, arith}
use Rattle.std.proofs.lemmas.List.{reverse-append, reverse-reverse}
use Rattle.dcsctp_core.specs.types.declared.schedule.Act.{Act}
use Rattle.dcsctp_core.specs.types.Schedule.{ActContent, act_content, IsHonestAct, AreHonest}

abbrev Honest : List Act → Type 0
Honest acts = AreHonest (map act_content acts)

pub honest_at : (acts : List Act) (i : ℕ) (default : Act) → i < length acts → Honest acts → IsHonestAct (act_content (get_or acts i default))
honest_at [] i default within honest = absurd (omega (arith, within))
honest_at (act ∷ acts) zero default within honest = honest.0
honest_at (act ∷ acts) (suc i) default within honest = honest_at acts i default (omega (arith, within)) honest.1

-- ---- the acts of a run stand newest first

honest_behind : (acts : List ActContent) (act : ActContent) → AreHonest acts → IsHonestAct act → AreHonest (acts ++ act ∷ [])
honest_behind [] act honest is = (is, tt)
honest_behind (first ∷ acts) act honest is = (honest.0, honest_behind acts act honest.1 is)

honest_reversed : (acts : List ActContent) → AreHonest acts → AreHonest (reverse acts)
honest_reversed [] honest = tt
honest_reversed (act ∷ acts) honest =
    subst AreHonest (sym (reverse-append (act ∷ []) acts)) (honest_behind (reverse acts) act (honest_reversed acts honest.1) honest.0)

pub honest_run : (shown acts : List ActContent) → shown ≡ reverse acts → AreHonest shown → AreHonest acts
honest_run shown acts is honest = subst AreHonest (reverse-reverse acts) (honest_reversed (reverse acts) (subst AreHonest is honest))

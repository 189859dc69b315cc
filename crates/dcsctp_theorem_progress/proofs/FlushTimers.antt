-- A flush that begins no request leaves the tie tag, the errors, and the timers of requests and of a shutdown.
use Rattle.std.specs.Prelude.{◌==◌, if◌then◌else◌}
use Rattle.std.proofs.Common.{◌≡◌, ℕ, Bool, true, false, Option, None, List, [], ◌∷◌, ◌++◌, map, refl, sym, subst, ap, ◌∙◌}
use Rattle.std.proofs.lemmas.List.{append-nil}
use Rattle.std.specs.Duration.{as_nanos}
use Rattle.dcsctp_spec_lemmas.specs.spec.Packet.{Content, Emission, Plain}
use Rattle.dcsctp_spec_lemmas.specs.spec.endpoint.BegunResets.{BegunReset, after_begun}
use Rattle.dcsctp_spec_lemmas.specs.spec.endpoint.Endpoint.{Endpoint, Timers}
use Rattle.dcsctp_spec_lemmas.specs.spec.endpoint.Event.{Event}
use Rattle.dcsctp_spec_lemmas.specs.spec.endpoint.FlushOutcomes.{Answer, Ask, AreFlushAnswers, IsFlushAnswer, after_packet, answer_contents, asked_outcome, at_empty, at_limit, filled_draft, filling_event, flush_of, goes_out, later_ask, next_draft, timers_with}
use Rattle.dcsctp_spec_lemmas.specs.spec.endpoint.Outcome.{Outcome}
use Rattle.dcsctp_spec_lemmas.specs.spec.endpoint.Timers.{RunningTimer}
use Rattle.dcsctp_spec_lemmas.proofs.FlushKeeps.{begun_by, later_begins}
use Rattle.dcsctp_theorem_progress.proofs.Flows.{told_nothing, told-append}
use Rattle.dcsctp_theorem_progress.proofs.Views.{told_then}

-- ---- a flush

-- It leaves the tie tag, the errors and these timers, and tells no connection.
pub record Leaves (e : Endpoint) (o : Outcome) : Type 0 where
  pub tie : o.after.tie ≡ e.tie
  pub errors : o.after.error_count ≡ e.error_count
  pub reconfiguration : o.after.timers.reconfiguration ≡ e.timers.reconfiguration
  pub t2 : o.after.timers.t2 ≡ e.timers.t2
  pub told : (n : ℕ) → told_then o.events n ≡ n

-- Timers that are the same but for the heartbeat interval.
record SameOthers (old new : Timers) : Type 0 where
  reconfiguration : new.reconfiguration ≡ old.reconfiguration
  t2 : new.t2 ≡ old.t2

begun_others : (b : Bool) (timers : Timers) (interval : Option RunningTimer) → SameOthers timers (if b then timers else record timers { heartbeat_interval = interval })
begun_others true timers interval = record { reconfiguration = refl; t2 = refl }
begun_others false timers interval = record { reconfiguration = refl; t2 = refl }

timers_others : (e : Endpoint) (chunks : List Plain) → SameOthers e.timers (timers_with e chunks)
timers_others e [] = record { reconfiguration = refl; t2 = refl }
timers_others e (chunk ∷ chunks) = begun_others (as_nanos e.options.heartbeat_interval == 0) e.timers _

out_leaves : (e : Endpoint) (told : List (Event Emission)) (with_checksum : Bool) (tag : ℕ) (contents : List Content) → ((rest : List (Event Emission)) (n : ℕ) → told_then (told ++ rest) n ≡ told_then rest n)
    → Leaves e (goes_out e told with_checksum tag contents)
out_leaves e told with_checksum tag [] none =
    record {
      tie = refl;
      errors = refl;
      reconfiguration = refl;
      t2 = refl;
      told = λ n. ap (λ (es : List (Event Emission)). told_then es n) (sym (append-nil told)) ∙ none [] n;
    }
out_leaves e told with_checksum tag (content ∷ contents) none = record { tie = refl; errors = refl; reconfiguration = refl; t2 = refl; told = λ n. none _ n }

asked_leaves : (ask : Ask) (e : Endpoint) (draft : Emission) (answer : Answer) → answer.begun ≡ None → IsFlushAnswer ask e draft answer → Leaves e (asked_outcome e draft answer)
asked_leaves ask e draft answer none h =
    let begun : after_begun answer.begun e ≡ e = ap (λ (b : Option BegunReset). after_begun b e) none in
    let others : SameOthers (after_begun answer.begun e).timers answer.after.timers =
    subst (SameOthers (after_begun answer.begun e).timers) (sym (ap (λ (x : Endpoint). x.timers) h.kept)) (timers_others (after_begun answer.begun e) answer.data_chunks) in
    let out : Leaves answer.after (goes_out answer.after (map filling_event answer.told) draft.with_checksum draft.packet.tag (filled_draft draft (answer_contents answer)).packet.contents) =
    out_leaves answer.after (map filling_event answer.told) draft.with_checksum draft.packet.tag (filled_draft draft (answer_contents answer)).packet.contents (told_nothing answer.told) in
    record {
      tie = out.tie ∙ ap (λ (x : Endpoint). x.tie) h.kept ∙ ap (λ (x : Endpoint). x.tie) begun;
      errors = out.errors ∙ ap (λ (x : Endpoint). x.error_count) h.kept ∙ ap (λ (x : Endpoint). x.error_count) begun;
      reconfiguration = out.reconfiguration ∙ others.reconfiguration ∙ ap (λ (x : Endpoint). x.timers.reconfiguration) begun;
      t2 = out.t2 ∙ others.t2 ∙ ap (λ (x : Endpoint). x.timers.t2) begun;
      told = out.told;
    }

later_none : (n : ℕ) (e : Endpoint) (draft : Emission) (answers : List Answer) → AreFlushAnswers later_ask n e draft answers → begun_by answers ≡ None
later_none _ _ _ _ (at_limit _ e draft) = refl
later_none _ _ _ _ (at_empty _ more e draft answer is empty) = later_begins e draft answer is
later_none _ _ _ _ (after_packet _ more e draft answer answers is some rest) = later_begins e draft answer is

pub flush_leaves : (ask : Ask) (n : ℕ) (e : Endpoint) (draft : Emission) (answers : List Answer) → begun_by answers ≡ None → AreFlushAnswers ask n e draft answers → Leaves e (flush_of e draft answers)
flush_leaves _ _ _ _ _ none (at_limit ask e draft) = record { tie = refl; errors = refl; reconfiguration = refl; t2 = refl; told = λ n. refl }
flush_leaves _ _ _ _ _ none (at_empty ask more e draft answer is empty) =
    let first : Leaves e (asked_outcome e draft answer) = asked_leaves ask e draft answer none is in
    record {
      tie = first.tie;
      errors = first.errors;
      reconfiguration = first.reconfiguration;
      t2 = first.t2;
      told = λ n. ap (λ (es : List (Event Emission)). told_then es n) (append-nil (asked_outcome e draft answer).events) ∙ first.told n;
    }
flush_leaves _ _ _ _ _ none (after_packet ask more e draft answer answers is some rest) =
    let asked : Outcome = asked_outcome e draft answer in
    let first : Leaves e asked = asked_leaves ask e draft answer none is in
    let others : Leaves asked.after (flush_of asked.after (next_draft e.core draft) answers) =
    flush_leaves later_ask more asked.after (next_draft e.core draft) answers (later_none more asked.after (next_draft e.core draft) answers rest) rest in
    record {
      tie = others.tie ∙ first.tie;
      errors = others.errors ∙ first.errors;
      reconfiguration = others.reconfiguration ∙ first.reconfiguration;
      t2 = others.t2 ∙ first.t2;
      told = λ n. told-append asked.events (flush_of asked.after (next_draft e.core draft) answers).events n ∙ others.told (told_then asked.events n) ∙ first.told n;
    }

-- The turns of a handshake at any socket in which nothing waits, whatever its clock and its counts.
use Rattle.std.proofs.Common.{◌≡◌, ◌≤◌, ℕ, Bool, true, false, cond, not, List, [], ◌∷◌, refl, subst, ap, ◌∙◌, ◌&&◌}
use Rattle.dcsctp_spec_lemmas.specs.types.declared.association.Pair.{Pair}
use Rattle.dcsctp_spec_lemmas.specs.types.declared.options.Options.{Options}
use Rattle.dcsctp_spec_lemmas.specs.types.declared.word.Word.{Word}
use Rattle.dcsctp_spec_lemmas.specs.types.declared.word.Word.TheVariants.{U32}
use Rattle.dcsctp_spec_lemmas.specs.types.Settings.{ports_of}
use Rattle.dcsctp_spec_lemmas.specs.spec.Packet.{Introduction, init, Emission, emission_bytes}
use Rattle.dcsctp_spec_lemmas.specs.spec.endpoint.Endpoint.{Endpoint, Core, closed, cookie_wait, with_secret, secret_with}
use Rattle.dcsctp_spec_lemmas.specs.spec.endpoint.Outcome.{Outcome, quiet, sends, still, drawing, answering as counted}
use Rattle.dcsctp_spec_lemmas.specs.spec.endpoint.Turn.{act_input, time_passes, with_clock, BeginTurn}
use Rattle.dcsctp_spec_lemmas.specs.spec.endpoint.TimerOutcomes.{T1AgainTurn, t1_again_with_flush, endpoint_with_t1_continued}
use Rattle.dcsctp_spec_lemmas.specs.spec.endpoint.TimeTurns.{t1_timer, handled_timers, deadline_of, has_come, has_restart, expiry_input, inputs_behind, after_expiries, FirstThen, ExpiryThen, ExpiryTurns, DueTurns, TimeTurns, MomentTurns, AdvanceTurns}
use Rattle.dcsctp_spec_lemmas.specs.spec.endpoint.FlushOutcomes.{flush_answered}
use Rattle.dcsctp_spec_lemmas.specs.spec.endpoint.HandshakeOutcomes.{pair_from, init_emission, init_ack_emission, init_outcome, init_answered}
use Rattle.dcsctp_spec_lemmas.specs.spec.endpoint.MessageOutcomes.{awaits_opening}
use Rattle.dcsctp_spec_lemmas.specs.spec.association.HandshakeChanges.{introduction_of}
use Rattle.dcsctp_spec_lemmas.specs.spec.association.Acts.{t1_expires}
use Rattle.dcsctp_spec_lemmas.specs.spec.endpoint.CallTurns.{Transition, transition, Turns, HandleInput}
use Rattle.dcsctp_spec_lemmas.specs.spec.Admission.{admits}
use Rattle.dcsctp_spec_lemmas.specs.spec.CookieFits.{FitsPair}
use Rattle.dcsctp_theorem_progress.specs.LostInits.{DueT1}
use Rattle.dcsctp_theorem_sockets.proofs.HandshakeReads.{counted_at, delivered, turned_as, alone, Taken, taken}
use Rattle.dcsctp_theorem_sockets.proofs.HandshakeTurns.{HandshakeLaws, Good, init_is_taken, taken_as}
use Rattle.dcsctp_theorem_sockets.proofs.Idle.{OwesNothing}
use Rattle.dcsctp_theorem_sockets.proofs.HandshakeSizes.{init_fits, init_ack_fits}

-- ---- T1-init

-- T1 goes on, and the INIT is sent again
abbrev pub init_again : Endpoint → Pair → Outcome
init_again e my = sends (endpoint_with_t1_continued e) [] [] (init_emission e my)

abbrev pub init_repeated : Endpoint → Pair → ℕ → List Transition
init_repeated e my moment =
    transition (time_passes moment) (still (with_clock moment e))
    ∷ transition (act_input (t1_expires true)) (init_again (with_clock moment e) my)
    ∷ []

again_sends : (e : Endpoint) (my : Pair) (o : Outcome) → e.core ≡ cookie_wait my → 112 ≤ e.options.mtu → T1AgainTurn e o → o ≡ init_again e my
again_sends e my o is large turn =
    turn.2
    ∙ ap (t1_again_with_flush (flush_answered turn.0) e) is
    ∙ ap (λ (b : Bool). cond b (sends (endpoint_with_t1_continued e) [] [] (init_emission e my)) (quiet (endpoint_with_t1_continued e) [] [])) (init_fits (endpoint_with_t1_continued e) my large)

nothing_behind : (e : Endpoint) (my : Pair) (turns : List Transition) → e.core ≡ cookie_wait my → Turns e (after_expiries e true) turns → turns ≡ []
nothing_behind e my [] is h = refl
nothing_behind e my (t ∷ ts) is h = absurd (subst (λ (core : Core). Turns e (inputs_behind e core) (t ∷ ts)) is h)

due_first : (e : Endpoint) (my : Pair) (turns : List Transition) → e.core ≡ cookie_wait my → 112 ≤ e.options.mtu → FirstThen (ExpiryTurns [] true) e (act_input (t1_expires true)) turns
    → turns ≡ transition (act_input (t1_expires true)) (init_again e my) ∷ []
due_first e my [] is large h = absurd h
due_first e my (t ∷ ts) is large h =
    let o : t.outcome ≡ init_again e my = again_sends e my t.outcome is large h.0.comes in
    let none : ts ≡ [] = nothing_behind t.outcome.after my ts (ap (λ (x : Outcome). x.after.core) o ∙ is) h.1 in
    ap (λ (x : Transition). x ∷ ts) (turned_as t (act_input (t1_expires true)) (init_again e my) h.0.is o)
    ∙ ap (λ (xs : List Transition). transition (act_input (t1_expires true)) (init_again e my) ∷ xs) none

due : (e : Endpoint) (my : Pair) (turns : List Transition) → e.core ≡ cookie_wait my → 112 ≤ e.options.mtu → has_come e.moment (deadline_of e.timers.t1) ≡ true → has_restart e.timers.t1 ≡ true
    → DueTurns e turns → turns ≡ transition (act_input (t1_expires true)) (init_again e my) ∷ []
due e my turns is large come again h =
    let at_core : ExpiryTurns (t1_timer ∷ []) false e turns = subst (λ (core : Core). ExpiryTurns (handled_timers core) false e turns) is h in
    let at_come : FirstThen (ExpiryTurns [] true) e (expiry_input e t1_timer) turns = subst (λ (b : Bool). ExpiryThen b (ExpiryTurns []) e false t1_timer turns) come at_core in
    due_first e my turns is large (subst (λ (b : Bool). FirstThen (ExpiryTurns [] true) e (act_input (t1_expires b)) turns) again at_come)

moved : (e : Endpoint) (my : Pair) (moment : ℕ) (turns : List Transition) → e.core ≡ cookie_wait my → 112 ≤ e.options.mtu → DueT1 e moment → MomentTurns e moment turns → turns ≡ init_repeated e my moment
moved e my moment [] is large at h = absurd h
moved e my moment (t ∷ ts) is large at h =
    let first : t ≡ transition (time_passes moment) (still (with_clock moment e)) = turned_as t (time_passes moment) (still (with_clock moment e)) h.0.is h.0.comes in
    let rest : DueTurns (with_clock moment e) ts = subst (λ (x : Transition). DueTurns x.outcome.after ts) first h.1 in
    ap (λ (x : Transition). x ∷ ts) first
    ∙ ap (λ (xs : List Transition). transition (time_passes moment) (still (with_clock moment e)) ∷ xs) (due (with_clock moment e) my ts is large at.come at.again rest)

-- A socket whose INIT was lost sends it again at its next moment.
pub t1_sends_init : (e : Endpoint) (my : Pair) (moment : ℕ) (turns : List Transition) → e.core ≡ cookie_wait my → 112 ≤ e.options.mtu → DueT1 e moment → AdvanceTurns e moment turns
    → turns ≡ init_repeated e my moment
t1_sends_init e my moment turns is large at h = moved e my moment turns is large at (subst (λ (b : Bool). TimeTurns b e moment turns) at.present h)

-- ---- INIT

-- with a pair that is drawn
abbrev pub answering : Endpoint → Introduction → ℕ → ℕ → Outcome
answering e theirs word next =
    let mine : Pair = pair_from word next in
    counted (drawing mine (sends (with_secret e mine) (U32 word ∷ U32 next ∷ []) [] (init_ack_emission (with_secret e mine) theirs mine (secret_with e mine))))

-- with its own
abbrev pub answering_own : Endpoint → Introduction → Pair → Outcome
answering_own e theirs my = counted (sends e [] [] (init_ack_emission e theirs my e.secret))

pub record Answers (f : Endpoint) (theirs : Introduction) (turns : List Transition) : Type 0 where
  pub word : ℕ
  pub next : ℕ
  pub only : turns ≡ delivered f 0 (init theirs) (answering (counted_at f) theirs word next)

-- The first INIT of a packet is answered.
pub answers_first : (follows : Bool) (e : Endpoint) (theirs : Introduction) (word next : ℕ)
    → init_answered (not (follows && false)) e theirs word next ≡ counted (init_outcome e theirs e.core word next)
answers_first true e theirs word next = refl
answers_first false e theirs word next = refl

answer_sends : (e : Endpoint) (theirs : Introduction) (word next : ℕ) → 112 ≤ e.options.mtu → counted (init_outcome e theirs closed word next) ≡ answering e theirs word next
answer_sends e theirs word next large =
    let mine : Pair = pair_from word next in
    let sealed : Endpoint = with_secret e mine in
    let words : List Word = U32 word ∷ U32 next ∷ [] in
    let emission : Emission = init_ack_emission sealed theirs mine (secret_with e mine) in
    ap (λ (x : Bool). counted (drawing mine (cond x (sends sealed words [] emission) (quiet sealed words [])))) (init_ack_fits sealed theirs mine (secret_with e mine) large)

own_sends : (e : Endpoint) (theirs : Introduction) (my : Pair) (word next : ℕ) → 112 ≤ e.options.mtu
    → counted (init_outcome e theirs (cookie_wait my) word next) ≡ answering_own e theirs my
own_sends e theirs my word next large =
    ap (λ (x : Bool). counted (cond x (sends e [] [] (init_ack_emission e theirs my e.secret)) (quiet e [] []))) (init_ack_fits e theirs my e.secret large)

-- the packet of the INIT
abbrev pub init_packet : Options → Pair → List ℕ
init_packet a p = emission_bytes (ports_of a) (alone true 0 (init (introduction_of a p)))

-- A closed socket answers it.
pub answers : HandshakeLaws → (f : Endpoint) (a : Options) (p : Pair) (turns : List Transition) → f.core ≡ closed → OwesNothing f.queues.transfer → Good a → Good f.options → FitsPair p
    → a.remote_port ≡ f.options.local_port → HandleInput f (init_packet a p) turns → Answers f (introduction_of a p) turns
answers law f a p turns is owes good_a good_b own port input =
    let theirs : Introduction = introduction_of a p in
    let h : Taken f 0 (init theirs) turns =
    taken law.wire f a true 0 (init theirs) turns (init_is_taken law a f.options p good_a own port)
    (ap (λ (core : Core). admits core (record { tag = 0; contents = init theirs ∷ [] })) is) (ap (awaits_opening f) is)
    (λ e o rests. subst (λ (core : Core). BeginTurn e core false o) is rests) input in
    record {
      word = h.comes.0;
      next = h.comes.1;
      only = taken_as f 0 (init theirs) turns h _
          (h.comes.2
          ∙ answers_first f.options.follow_rfc (counted_at f) theirs h.comes.0 h.comes.1
          ∙ ap (λ (core : Core). counted (init_outcome (counted_at f) theirs core h.comes.0 h.comes.1)) is ∙ answer_sends (counted_at f) theirs h.comes.0 h.comes.1 good_b.allow.mtu) refl owes;
    }

-- A socket that itself awaits an INIT ACK answers with its own pair.
pub answers_own : HandshakeLaws → (f : Endpoint) (a : Options) (p q : Pair) (turns : List Transition) → f.core ≡ cookie_wait q → OwesNothing f.queues.transfer → Good a → Good f.options → FitsPair p
    → a.remote_port ≡ f.options.local_port → HandleInput f (init_packet a p) turns
    → turns ≡ delivered f 0 (init (introduction_of a p)) (answering_own (counted_at f) (introduction_of a p) q)
answers_own law f a p q turns is owes good_a good_b own port input =
    let theirs : Introduction = introduction_of a p in
    let h : Taken f 0 (init theirs) turns =
    taken law.wire f a true 0 (init theirs) turns (init_is_taken law a f.options p good_a own port)
    (ap (λ (core : Core). admits core (record { tag = 0; contents = init theirs ∷ [] })) is) (ap (awaits_opening f) is)
    (λ e o rests. subst (λ (core : Core). BeginTurn e core false o) is rests) input in
    taken_as f 0 (init theirs) turns h _
    (h.comes.2
    ∙ answers_first f.options.follow_rfc (counted_at f) theirs h.comes.0 h.comes.1
    ∙ ap (λ (core : Core). counted (init_outcome (counted_at f) theirs core h.comes.0 h.comes.1)) is ∙ own_sends (counted_at f) theirs q h.comes.0 h.comes.1 good_b.allow.mtu) refl owes

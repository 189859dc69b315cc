-- A lost COOKIE ECHO, and a lost COOKIE ACK, are made good.
use Rattle.std.specs.Prelude.{◌==◌, if◌then◌else◌, nat_le}
use Rattle.std.proofs.Common.{◌≡◌, ◌≤◌, ℕ, Bool, true, false, not, cond, eqb, None, List, [], ◌∷◌, length, length-append, Result, Ok, Err, refl, subst, ap, ◌∙◌, arith}
use Rattle.std.proofs.lemmas.Bool.Decides.{nat_tests}
use Rattle.std.proofs.lemmas.List.{length-replicate}
use Rattle.dcsctp_spec_lemmas.specs.wire.Format.{padding_of}
use Rattle.dcsctp_spec_lemmas.specs.wire.Spelling.{other_bytes, chunk_bytes, zeros}
use Rattle.dcsctp_spec_lemmas.specs.types.Settings.{packet_size_limit}
use Rattle.dcsctp_spec_lemmas.specs.types.declared.association.Pair.{Pair}
use Rattle.dcsctp_spec_lemmas.specs.types.declared.association.Held.{Held}
use Rattle.dcsctp_spec_lemmas.specs.types.declared.options.Options.{Options}
use Rattle.dcsctp_spec_lemmas.specs.spec.Cookie.{Cookie, cookie_of_bytes, size_text}
use Rattle.dcsctp_spec_lemmas.specs.spec.Packet.{cookie_echo, cookie_ack, chunk_out}
use Rattle.dcsctp_spec_lemmas.specs.spec.endpoint.Endpoint.{Endpoint, Core, cookie_echoed, open_in, established}
use Rattle.dcsctp_spec_lemmas.specs.spec.endpoint.Outcome.{Outcome, quiet, sends, still, fits, contents_len}
use Rattle.dcsctp_spec_lemmas.specs.spec.endpoint.Turn.{act_input, time_passes, with_clock, BeginTurn}
use Rattle.dcsctp_spec_lemmas.specs.spec.endpoint.OwnTimers.{acknowledgement_delay}
use Rattle.dcsctp_spec_lemmas.specs.spec.endpoint.TimerOutcomes.{T1AgainTurn, AgainAnswers, t1_again_with_flush, endpoint_with_t1_continued}
use Rattle.dcsctp_spec_lemmas.specs.spec.endpoint.TimeTurns.{t1_timer, own_timer, handled_timers, deadline_of, delay_deadline, has_come, has_restart, expiry_input, inputs_behind, after_expiries, unless_exhausted, FirstThen, ExpiryThen, ExpiryTurns, DueTurns, TimeTurns, MomentTurns, AdvanceTurns}
use Rattle.dcsctp_spec_lemmas.specs.spec.endpoint.HeartbeatOutcomes.{is_exhausted}
use Rattle.dcsctp_spec_lemmas.specs.spec.endpoint.FlushOutcomes.{FlushKind, flush_answered, allows_packet, IsIdle}
use Rattle.dcsctp_spec_lemmas.specs.spec.endpoint.MessageOutcomes.{awaits_opening}
use Rattle.dcsctp_spec_lemmas.specs.spec.endpoint.HandshakeOutcomes.{echo_emission}
use Rattle.dcsctp_spec_lemmas.specs.spec.endpoint.CookieEchoOutcomes.{is_spent, ResolvedAnswers, EchoedAnswers, MaintainAnswers, resolved_now, resolve_with_flush, cookie_echo_with_flush, cookie_ack_emission}
use Rattle.dcsctp_spec_lemmas.specs.spec.association.CookieEchoChanges.{Resolution, maintain_existing, aged_resolution, case_by_answers, held_by_cookie}
use Rattle.dcsctp_spec_lemmas.specs.spec.association.Acts.{t1_expires, abort_with}
use Rattle.dcsctp_spec_lemmas.specs.types.declared.ends.AbortReason.TheVariants.{TooManyErrors}
use Rattle.dcsctp_spec_lemmas.specs.spec.endpoint.CallTurns.{Transition, transition, Turns, HandleInput}
use Rattle.dcsctp_spec_lemmas.specs.spec.Admission.{admits}
use Rattle.dcsctp_spec_runs.proofs.FlushLemmas.{flush_is_now, echo_now}
use Rattle.dcsctp_theorem_progress.specs.LostInits.{DueT1}
use Rattle.dcsctp_theorem_sockets.proofs.HandshakeReads.{counted_at, delivered, turned_as, Taken, taken}
use Rattle.dcsctp_theorem_sockets.proofs.Idle.{OwesNothing}
use Rattle.dcsctp_theorem_sockets.proofs.HandshakeTurns.{HandshakeLaws, Good, taken_as, same_tag}
use Rattle.dcsctp_theorem_progress.proofs.Retries.{no_turns}
use Rattle.dcsctp_theorem_progress.proofs.Echoes.{echo_is_taken, bytes_packet, Spells}

-- ---- how long a cookie is

abbrev read : Cookie → Result Cookie (List ℕ)
read cookie = Ok cookie

abbrev unread : List ℕ → Result Cookie (List ℕ)
unread text = Err text

no_error : (text : List ℕ) (cookie : Cookie) → unread text ≡ read cookie → ⊥
no_error text cookie same = cc

size_is : (n : ℕ) → not (eqb n 56) ≡ false → n ≡ 56
size_is n right = grind (arith, nat_tests, right)

size_by : (wrong : Bool) (bytes : List ℕ) (cookie : Cookie) (rest : Result Cookie (List ℕ)) → not (eqb (length bytes) 56) ≡ wrong → cond wrong (unread size_text) rest ≡ read cookie → length bytes ≡ 56
size_by true bytes cookie rest is found = absurd (no_error size_text cookie found)
size_by false bytes cookie rest is found = size_is (length bytes) is

-- Bytes that read as one are 56.
pub size_of : (bytes : List ℕ) (cookie : Cookie) → cookie_of_bytes bytes ≡ Ok cookie → length bytes ≡ 56
unfolding cookie_of_bytes
size_of bytes cookie found = size_by (not (eqb (length bytes) 56)) bytes cookie _ refl found

-- ---- T1-cookie

-- T1 goes on, and the COOKIE ECHO is sent again.
abbrev pub echo_again : Endpoint → Held → List ℕ → Outcome
echo_again e held cookie = sends (endpoint_with_t1_continued e) [] [] (echo_emission held.peer.tag cookie)

abbrev pub echo_repeated : Endpoint → Held → List ℕ → ℕ → List Transition
echo_repeated e held cookie moment =
    transition (time_passes moment) (still (with_clock moment e))
    ∷ transition (act_input (t1_expires true)) (echo_again (with_clock moment e) held cookie)
    ∷ []

-- Its T1 runs in this phase, and nothing else is due.
pub record Echoed (e : Endpoint) (p : Pair) (held : Held) (bytes : List ℕ) : Type 0 where
  pub core : e.core ≡ cookie_echoed p held bytes
  pub size : length bytes ≡ 56
  pub idle : IsIdle e
  pub delay : delay_deadline e.queues.transfer ≡ None
  pub errors : is_exhausted e.options.max_retransmissions e.error_count ≡ false

echo_len : (bytes : List ℕ) → length bytes ≡ 56 → contents_len (cookie_echo bytes ∷ []) ≤ 60
unfolding other_bytes
echo_len bytes size =
    omega (
      arith,
      size,
      length-append bytes (zeros (padding_of (length bytes))),
      length-replicate {A = ℕ} (padding_of (length bytes)) 0,
      length-append (chunk_bytes (chunk_out (cookie_echo bytes))) [],
    )

within : (len limit : ℕ) → len ≤ 112 → 112 ≤ limit → nat_le len limit ≡ true
within len limit small large = grind (arith, nat_tests, small, large)

limit_by : (options : Options) → 112 ≤ options.mtu → 112 ≤ packet_size_limit options
limit_by options large = omega (arith, large)

pub bytes_fit : (e : Endpoint) (tag : ℕ) (bytes : List ℕ) → length bytes ≡ 56 → 112 ≤ e.options.mtu → fits e (echo_emission tag bytes) ≡ true
bytes_fit e tag bytes size large = within _ (packet_size_limit e.options) (omega (arith, echo_len bytes size)) (limit_by e.options large)

again_sends : (e : Endpoint) (p : Pair) (held : Held) (bytes : List ℕ) (o : Outcome) → Echoed e p held bytes → Good e.options → T1AgainTurn e o → o ≡ echo_again e held bytes
again_sends e p held bytes o at good turn =
    let after : Endpoint = endpoint_with_t1_continued e in
    let tag : ℕ = held.peer.tag in
    let answers : AgainAnswers after (cookie_echoed p held bytes) turn.0 = subst (λ (core : Core). AgainAnswers after core turn.0) at.core turn.1 in
    turn.2
    ∙ ap (t1_again_with_flush (flush_answered turn.0) e) at.core
    ∙ echo_now (fits after (echo_emission tag bytes)) after [] tag bytes turn.0 at.idle answers
    ∙ ap (λ (b : Bool). cond b (cond (allows_packet e.options.max_burst) (sends after [] [] (echo_emission tag bytes)) (quiet after [] [])) (quiet after [] [])) (bytes_fit after tag bytes at.size good.allow.mtu)
    ∙ ap (λ (b : Bool). cond b (sends after [] [] (echo_emission tag bytes)) (quiet after [] [])) good.allow.burst

pub nothing_behind : (e : Endpoint) (p : Pair) (held : Held) (bytes : List ℕ) (turns : List Transition) → e.core ≡ cookie_echoed p held bytes → is_exhausted e.options.max_retransmissions e.error_count ≡ false
    → Turns e (after_expiries e true) turns → turns ≡ []
nothing_behind e p held bytes turns is errors h =
    let at_core : Turns e (unless_exhausted e []) turns = subst (λ (core : Core). Turns e (inputs_behind e core) turns) is h in
    no_turns e turns (subst (λ (b : Bool). Turns e (if b then act_input (abort_with TooManyErrors) ∷ [] else []) turns) errors at_core)

due_first : (e : Endpoint) (p : Pair) (held : Held) (bytes : List ℕ) (turns : List Transition) → Echoed e p held bytes → Good e.options
    → FirstThen (ExpiryTurns [] true) e (act_input (t1_expires true)) turns → turns ≡ transition (act_input (t1_expires true)) (echo_again e held bytes) ∷ []
due_first e p held bytes [] at good h = absurd h
due_first e p held bytes (t ∷ ts) at good h =
    let again : Outcome = echo_again e held bytes in
    let o : t.outcome ≡ again = again_sends e p held bytes t.outcome at good h.0.comes in
    let rest : Turns again.after (after_expiries again.after true) ts = subst (λ (x : Outcome). Turns x.after (after_expiries x.after true) ts) o h.1 in
    ap (λ (x : Transition). x ∷ ts) (turned_as t (act_input (t1_expires true)) again h.0.is o)
    ∙ ap (λ (xs : List Transition). transition (act_input (t1_expires true)) again ∷ xs) (nothing_behind again.after p held bytes ts at.core at.errors rest)

due : (e : Endpoint) (p : Pair) (held : Held) (bytes : List ℕ) (turns : List Transition) → Echoed e p held bytes → Good e.options
    → has_come e.moment (deadline_of e.timers.t1) ≡ true → has_restart e.timers.t1 ≡ true → DueTurns e turns
    → turns ≡ transition (act_input (t1_expires true)) (echo_again e held bytes) ∷ []
due e p held bytes turns at good come again h =
    let at_core : ExpiryTurns (own_timer acknowledgement_delay ∷ t1_timer ∷ []) false e turns = subst (λ (core : Core). ExpiryTurns (handled_timers core) false e turns) at.core h in
    let no_delay : has_come e.moment (delay_deadline e.queues.transfer) ≡ false = ap (has_come e.moment) at.delay in
    let at_t1 : ExpiryTurns (t1_timer ∷ []) false e turns = subst (λ (b : Bool). ExpiryThen b (ExpiryTurns (t1_timer ∷ [])) e false (own_timer acknowledgement_delay) turns) no_delay at_core in
    let at_come : FirstThen (ExpiryTurns [] true) e (expiry_input e t1_timer) turns = subst (λ (b : Bool). ExpiryThen b (ExpiryTurns []) e false t1_timer turns) come at_t1 in
    due_first e p held bytes turns at good (subst (λ (b : Bool). FirstThen (ExpiryTurns [] true) e (act_input (t1_expires b)) turns) again at_come)

moved : (e : Endpoint) (p : Pair) (held : Held) (bytes : List ℕ) (moment : ℕ) (turns : List Transition) → Echoed e p held bytes → Good e.options → DueT1 e moment
    → MomentTurns e moment turns → turns ≡ echo_repeated e held bytes moment
moved e p held bytes moment [] at good t1 h = absurd h
moved e p held bytes moment (t ∷ ts) at good t1 h =
    let first : t ≡ transition (time_passes moment) (still (with_clock moment e)) = turned_as t (time_passes moment) (still (with_clock moment e)) h.0.is h.0.comes in
    let rest : DueTurns (with_clock moment e) ts = subst (λ (x : Transition). DueTurns x.outcome.after ts) first h.1 in
    let there : Echoed (with_clock moment e) p held bytes = record { core = at.core; size = at.size; idle = at.idle; delay = at.delay; errors = at.errors } in
    ap (λ (x : Transition). x ∷ ts) first
    ∙ ap (λ (xs : List Transition). transition (time_passes moment) (still (with_clock moment e)) ∷ xs) (due (with_clock moment e) p held bytes ts there good t1.come t1.again rest)

-- A socket whose COOKIE ECHO isn't answered sends it again at its next moment.
pub t1_sends_echo : (e : Endpoint) (p : Pair) (held : Held) (bytes : List ℕ) (moment : ℕ) (turns : List Transition) → Echoed e p held bytes → Good e.options → DueT1 e moment → AdvanceTurns e moment turns
    → turns ≡ echo_repeated e held bytes moment
t1_sends_echo e p held bytes moment turns at good t1 h = moved e p held bytes moment turns at good t1 (subst (λ (b : Bool). TimeTurns b e moment turns) t1.present h)

-- ---- a COOKIE ECHO of the association that is there

-- COOKIE ACK again, and nothing else
abbrev pub acknowledging : Endpoint → Cookie → Outcome
acknowledging f cookie = sends f [] [] (cookie_ack_emission (held_by_cookie f.options cookie) cookie)

pub whatever_age : (old : Bool) → aged_resolution old maintain_existing ≡ maintain_existing
whatever_age true = refl
whatever_age false = refl

pub same_case : (mine peer tie untied : Bool) → mine ≡ true → peer ≡ true → case_by_answers mine peer tie untied ≡ maintain_existing
same_case mine peer tie untied one other = ap (λ (x : Bool). case_by_answers x peer tie untied) one ∙ ap (λ (x : Bool). case_by_answers true x tie untied) other

pub maintained : (f : Endpoint) (cookie : Cookie) → resolved_now f (open_in established cookie.maker (held_by_cookie f.options cookie)) cookie.maker.tag cookie ≡ maintain_existing
maintained f cookie =
    let spent : Bool = is_spent f (open_in established cookie.maker (held_by_cookie f.options cookie)) cookie.maker.tag cookie in
    ap (aged_resolution spent) (same_case (eqb cookie.maker.tag cookie.maker.tag) (eqb cookie.addressee.tag cookie.addressee.tag) (eqb cookie.tie f.tie) (eqb cookie.tie f.secret)
    (same_tag cookie.maker.tag) (same_tag cookie.addressee.tag))
    ∙ whatever_age spent

-- Whatever the cookie's age is.
pub maintains : HandshakeLaws → (f : Endpoint) (a : Options) (cookie : Cookie) (bytes : List ℕ) (turns : List Transition) → f.core ≡ open_in established cookie.maker (held_by_cookie f.options cookie)
    → IsIdle f → OwesNothing f.queues.transfer → Spells bytes cookie → Good a → Good f.options → a.remote_port ≡ f.options.local_port
    → HandleInput f (bytes_packet a cookie bytes) turns → turns ≡ delivered f cookie.maker.tag (cookie_echo bytes) (acknowledging (counted_at f) cookie)
maintains law f a cookie bytes turns is idle owes spells good_a good_b port input =
    let c : Endpoint = counted_at f in
    let held : Held = held_by_cookie f.options cookie in
    let core : Core = open_in established cookie.maker held in
    let h : Taken f cookie.maker.tag (cookie_echo bytes) turns =
    taken law.wire f a true cookie.maker.tag (cookie_echo bytes) turns (echo_is_taken a f.options cookie bytes good_a spells port)
    (ap (λ (x : Core). admits x (record { tag = cookie.maker.tag; contents = cookie_echo bytes ∷ [] })) is) (ap (awaits_opening f) is)
    (λ e o rests. subst (λ (x : Core). BeginTurn e x false o) is rests) input in
    let word : ℕ = h.comes.0 in
    let flush : FlushKind = flush_answered h.comes.1 in
    let reads : cookie_of_bytes bytes ≡ Ok cookie = spells.reads in
    let at_core : EchoedAnswers c core cookie.maker.tag (cookie_of_bytes bytes) word h.comes.1 = subst (λ (x : Core). EchoedAnswers c x cookie.maker.tag (cookie_of_bytes bytes) word h.comes.1) is h.comes.2 in
    let allowed : MaintainAnswers c cookie core h.comes.1 =
    subst (λ (case : Resolution). ResolvedAnswers c cookie core word case h.comes.1) (maintained c cookie)
    (subst (λ (found : Result Cookie (List ℕ)). EchoedAnswers c core cookie.maker.tag found word h.comes.1) reads at_core) in
    let o : h.outcome ≡ acknowledging c cookie =
    h.comes.3
    ∙ ap (λ (x : Core). cookie_echo_with_flush flush c x cookie.maker.tag (cookie_of_bytes bytes) word) is
    ∙ ap (λ (found : Result Cookie (List ℕ)). cookie_echo_with_flush flush c core cookie.maker.tag found word) reads
    ∙ ap (λ (case : Resolution). resolve_with_flush flush c cookie core word case) (maintained c cookie)
    ∙ flush_is_now c [] [] (held.capabilities.zero_checksum_method.0 == 0) cookie.addressee.tag (cookie_ack ∷ []) h.comes.1 idle allowed
    ∙ ap (λ (b : Bool). cond b (sends c [] [] (cookie_ack_emission held cookie)) (quiet c [] [])) good_b.allow.burst in
    taken_as f cookie.maker.tag (cookie_echo bytes) turns h _ o refl owes

-- Each lossy round leads a handshake on, or leaves it as far as it was; and so one of them connects, or the quiet one after them.
use Rattle.std.proofs.Common.{◌⊎◌, ℕ, zero, suc, List, inl, inr, refl, sym, subst, ap, ◌∙◌}
use Rattle.dcsctp_spec_lemmas.specs.types.declared.options.Options.{Options}
use Rattle.dcsctp_spec_lemmas.specs.types.declared.schedule.Side.{Side}
use Rattle.dcsctp_spec_lemmas.specs.types.declared.schedule.Side.TheVariants as sides
use Rattle.dcsctp_spec_lemmas.specs.spec.Cookie.{Cookie}
use Rattle.dcsctp_spec_lemmas.specs.spec.endpoint.Endpoint.{Endpoint, Core, closed, cookie_wait}
use Rattle.dcsctp_spec_lemmas.specs.spec.endpoint.TimeTurns.{TimePassesQuietly, next_moment, timers_counted}
use Rattle.dcsctp_spec_runs.specs.Sockets.{PerformedAct, Both, of_side, of_other, turns_after, SocketRun}
use Rattle.dcsctp_theorem_sockets.specs.Agreement.{AreUsable}
use Rattle.dcsctp_theorem_sockets.specs.Handshake.{AreFitting}
use Rattle.dcsctp_theorem_progress.specs.Connecting.{RetriesEcho, a_tries, b_tries, a_echoes, b_echoes, connections_once_open, HaveConnected, LostRoundsAreMadeGood}
use Rattle.dcsctp_theorem_progress.specs.Cookies.{HasEchoed, AnswersEcho}
use Rattle.dcsctp_theorem_progress.specs.LossyRounds.{LossyRound, LossyRounds, BearsTimers, t1_first, any_first, IsTrying, still_inits, still_echoes, still_sends, ComesInTime, LeadsOn, tries_again, connects, LossyRoundsLeadOn, BearRounds, OneConnects, LossyRoundsConnectSockets}
use Rattle.dcsctp_theorem_progress.specs.DataEchoes.{EchoesWithData}
use Rattle.dcsctp_theorem_progress.specs.LostInits.{KeepsOptions}
use Rattle.dcsctp_theorem_progress.specs.Retries.{LeavesRestarts, RetriesT1}
use Rattle.dcsctp_theorem_progress.specs.Rounds.{this_endpoint, other_endpoint, counts_shown, QuietRound}
use Rattle.dcsctp_theorem_sockets.proofs.HandshakeTurns.{HandshakeLaws}
use Rattle.dcsctp_theorem_progress.proofs.BorneRounds.{lossy_borne}
use Rattle.dcsctp_theorem_progress.proofs.Lossy.{ran_lossy}
use Rattle.dcsctp_theorem_progress.proofs.LossyData.{lossy_data, quiet_data}
use Rattle.dcsctp_theorem_progress.proofs.LossyEcho.{Led, as_far, joined, lossy_echo}
use Rattle.dcsctp_theorem_progress.proofs.LossyInit.{lossy_init}
use Rattle.dcsctp_theorem_progress.proofs.Promise.{Counted, once_more, connected_a, connected_b}
use Rattle.dcsctp_theorem_progress.proofs.Retries.{first_expiry, fewer}
use Rattle.dcsctp_theorem_progress.proofs.Views.{AtOf, KeepOf, View, view, ran, ran_exchanges}

-- ---- one round

-- as the run shows it
shown_so : (side : Side) (options : Both Options) (earlier run : List PerformedAct) (here there : View) (more : ℕ) → AtOf side options run here there → KeepOf side options here there
    → IsTrying more here.endpoint there.endpoint → LeadsOn options side more earlier run
shown_so sides.A options earlier run here there more at keep h =
    tries_again (record { same = ap (λ (v : View). v.endpoint.options) at.a ∙ keep.a }) (record { same = ap (λ (v : View). v.endpoint.options) at.b ∙ keep.b })
    (subst (λ (v : View). IsTrying more v.endpoint (other_endpoint options sides.A run)) (sym at.a) (subst (λ (w : View). IsTrying more here.endpoint w.endpoint) (sym at.b) h))
shown_so sides.B options earlier run here there more at keep h =
    tries_again (record { same = ap (λ (v : View). v.endpoint.options) at.b ∙ keep.b }) (record { same = ap (λ (v : View). v.endpoint.options) at.a ∙ keep.a })
    (subst (λ (v : View). IsTrying more v.endpoint (other_endpoint options sides.B run)) (sym at.b) (subst (λ (w : View). IsTrying more here.endpoint w.endpoint) (sym at.a) h))

led_a : (options : Both Options) (earlier run : List PerformedAct) (more m n : ℕ) → Counted (view options.a (turns_after earlier).a) m → Counted (view options.b (turns_after earlier).b) n
    → Led sides.A options run more m n → LeadsOn options sides.A more earlier run
led_a options earlier run more m n a b (as_far here there at keep h) = shown_so sides.A options earlier run here there more at keep h
led_a options earlier run more m n a b (joined h) = connects (connected_a options (turns_after earlier) run m n a b h)

led_b : (options : Both Options) (earlier run : List PerformedAct) (more m n : ℕ) → Counted (view options.a (turns_after earlier).a) m → Counted (view options.b (turns_after earlier).b) n
    → Led sides.B options run more n m → LeadsOn options sides.B more earlier run
led_b options earlier run more m n a b (as_far here there at keep h) = shown_so sides.B options earlier run here there more at keep h
led_b options earlier run more m n a b (joined h) = connects (connected_b options (turns_after earlier) run m n a b h)

-- whichever timer comes first
by_timers : HandshakeLaws → TimePassesQuietly → (side : Side) (options : Both Options) (settled : Both ℕ) (earlier run : List PerformedAct) (v w : View) (cookie : Cookie) (bytes : List ℕ) (more : ℕ) → AreUsable options
    → AreFitting options → AtOf side options earlier v w → KeepOf side options v w → EchoesWithData v.endpoint w.endpoint cookie bytes → RetriesT1 v.endpoint (suc more) → BearsTimers v.endpoint w.endpoint cookie
    → LossyRound options (counts_shown options (turns_after earlier)) earlier settled run → SocketRun options run → Led side options run more (suc v.told) (connections_once_open w.endpoint.core w.told)
by_timers law time side options settled earlier run v w cookie bytes more are fit at keep awaits t1 (t1_first answers) lossy runs =
    lossy_data law time side options settled earlier run v w cookie bytes more are fit at keep awaits t1 answers lossy runs
by_timers law time side options settled earlier run v w cookie bytes more are fit at keep awaits t1 (any_first has survives) lossy runs =
    subst (λ (n : ℕ). Led side options run more (suc v.told) n) (sym (ap (λ (core : Core). connections_once_open core w.told) has.core))
    (lossy_borne law side options settled earlier run v w cookie bytes more are fit at keep awaits t1 has survives lossy runs)

pub lossy_rounds_lead_on : HandshakeLaws → TimePassesQuietly → LossyRoundsLeadOn
lossy_rounds_lead_on law time options run are fit runs sides.A more settled earlier keeps_a keeps_b restarts (still_inits p tries rests errors) in_time lossy =
    let v : View = view options.a (turns_after earlier).a in
    let w : View = view options.b (turns_after earlier).b in
    led_a options earlier run more _ _ (once_more v (cookie_wait p) tries.core refl) (once_more w closed rests.rests.core refl)
    (lossy_init law sides.A options settled earlier run v w p more are fit (record { a = refl; b = refl }) (record { a = keeps_a.same; b = keeps_b.same }) tries rests
    (subst (λ (o : Options). LeavesRestarts o.max_init_retransmits 0 (suc more)) (sym keeps_a.same) restarts) errors lossy runs)
lossy_rounds_lead_on law time options run are fit runs sides.B more settled earlier keeps_b keeps_a restarts (still_inits p tries rests errors) in_time lossy =
    let v : View = view options.b (turns_after earlier).b in
    let w : View = view options.a (turns_after earlier).a in
    led_b options earlier run more _ _ (once_more w closed rests.rests.core refl) (once_more v (cookie_wait p) tries.core refl)
    (lossy_init law sides.B options settled earlier run v w p more are fit (record { a = refl; b = refl }) (record { a = keeps_a.same; b = keeps_b.same }) tries rests
    (subst (λ (o : Options). LeavesRestarts o.max_init_retransmits 0 (suc more)) (sym keeps_b.same) restarts) errors lossy runs)
lossy_rounds_lead_on law time options run are fit runs sides.A more settled earlier keeps_a keeps_b restarts (still_echoes cookie bytes echoed t1 knows) in_time lossy =
    let v : View = view options.a (turns_after earlier).a in
    let w : View = view options.b (turns_after earlier).b in
    led_a options earlier run more _ _ (once_more v _ echoed.core refl) (record { once = refl })
    (lossy_echo law time sides.A options settled earlier run v w cookie bytes more are fit (record { a = refl; b = refl }) (record { a = keeps_a.same; b = keeps_b.same }) echoed t1
    (in_time.idle cookie bytes echoed knows) lossy runs)
lossy_rounds_lead_on law time options run are fit runs sides.B more settled earlier keeps_b keeps_a restarts (still_echoes cookie bytes echoed t1 knows) in_time lossy =
    let v : View = view options.b (turns_after earlier).b in
    let w : View = view options.a (turns_after earlier).a in
    led_b options earlier run more _ _ (record { once = refl }) (once_more v _ echoed.core refl)
    (lossy_echo law time sides.B options settled earlier run v w cookie bytes more are fit (record { a = refl; b = refl }) (record { a = keeps_a.same; b = keeps_b.same }) echoed t1
    (in_time.idle cookie bytes echoed knows) lossy runs)
lossy_rounds_lead_on law time options run are fit runs sides.A more settled earlier keeps_a keeps_b restarts (still_sends cookie bytes awaits t1 other) in_time lossy =
    let v : View = view options.a (turns_after earlier).a in
    let w : View = view options.b (turns_after earlier).b in
    led_a options earlier run more _ _ (once_more v _ awaits.core refl) (record { once = refl })
    (by_timers law time sides.A options settled earlier run v w cookie bytes more are fit (record { a = refl; b = refl }) (record { a = keeps_a.same; b = keeps_b.same }) awaits t1
    (in_time.with_data cookie bytes awaits other) lossy runs)
lossy_rounds_lead_on law time options run are fit runs sides.B more settled earlier keeps_b keeps_a restarts (still_sends cookie bytes awaits t1 other) in_time lossy =
    let v : View = view options.b (turns_after earlier).b in
    let w : View = view options.a (turns_after earlier).a in
    led_b options earlier run more _ _ (record { once = refl }) (once_more v _ awaits.core refl)
    (by_timers law time sides.B options settled earlier run v w cookie bytes more are fit (record { a = refl; b = refl }) (record { a = keeps_a.same; b = keeps_b.same }) awaits t1
    (in_time.with_data cookie bytes awaits other) lossy runs)

-- ---- any number

retries_echo : (e f : Endpoint) (cookie : Cookie) (bytes : List ℕ) → HasEchoed e f cookie bytes → RetriesT1 e 1 → AnswersEcho e f cookie (next_moment e) → RetriesEcho e f cookie bytes 1
retries_echo e f cookie bytes echoed t1 other =
    record { echoed = echoed; t1 = t1; other = subst (AnswersEcho e f cookie) (first_expiry e 1 (ap timers_counted echoed.core) t1) other }

-- What is left to a quiet round it connects.
quiet_a : LostRoundsAreMadeGood → HandshakeLaws → TimePassesQuietly → (options : Both Options) (settled : Both ℕ) (earlier run : List PerformedAct) → AreUsable options → AreFitting options → SocketRun options run →
    let e = this_endpoint options sides.A earlier in
    let f = other_endpoint options sides.A earlier in
    KeepsOptions options.a e → KeepsOptions options.b f → IsTrying 1 e f → ComesInTime e f → QuietRound options (counts_shown options (turns_after earlier)) earlier settled run
    → HaveConnected options (turns_after earlier) (turns_after run)
quiet_a last law time options settled earlier run are fit runs keeps_a keeps_b (still_inits p tries rests errors) in_time quiet =
    last options run are fit runs 0 settled earlier earlier keeps_a keeps_b (a_tries p tries rests) refl quiet
quiet_a last law time options settled earlier run are fit runs keeps_a keeps_b (still_echoes cookie bytes echoed t1 knows) in_time quiet =
    last options run are fit runs 0 settled earlier earlier keeps_a keeps_b
    (a_echoes cookie bytes (retries_echo (this_endpoint options sides.A earlier) (other_endpoint options sides.A earlier) cookie bytes echoed t1 (in_time.idle cookie bytes echoed knows))) refl quiet
quiet_a last law time options settled earlier run are fit runs keeps_a keeps_b (still_sends cookie bytes awaits t1 other) in_time quiet =
    let v : View = view options.a (turns_after earlier).a in
    let w : View = view options.b (turns_after earlier).b in
    connected_a options (turns_after earlier) run _ _ (once_more v _ awaits.core refl) (record { once = refl })
    (quiet_data law time sides.A options settled earlier run v w cookie bytes are fit (record { a = refl; b = refl }) (record { a = keeps_a.same; b = keeps_b.same }) awaits t1
    (in_time.with_data cookie bytes awaits other) quiet runs)

quiet_b : LostRoundsAreMadeGood → HandshakeLaws → TimePassesQuietly → (options : Both Options) (settled : Both ℕ) (earlier run : List PerformedAct) → AreUsable options → AreFitting options → SocketRun options run →
    let e = this_endpoint options sides.B earlier in
    let f = other_endpoint options sides.B earlier in
    KeepsOptions options.b e → KeepsOptions options.a f → IsTrying 1 e f → ComesInTime e f → QuietRound options (counts_shown options (turns_after earlier)) earlier settled run
    → HaveConnected options (turns_after earlier) (turns_after run)
quiet_b last law time options settled earlier run are fit runs keeps_b keeps_a (still_inits p tries rests errors) in_time quiet =
    last options run are fit runs 0 settled earlier earlier keeps_a keeps_b (b_tries p tries rests) refl quiet
quiet_b last law time options settled earlier run are fit runs keeps_b keeps_a (still_echoes cookie bytes echoed t1 knows) in_time quiet =
    last options run are fit runs 0 settled earlier earlier keeps_a keeps_b
    (b_echoes cookie bytes (retries_echo (this_endpoint options sides.B earlier) (other_endpoint options sides.B earlier) cookie bytes echoed t1 (in_time.idle cookie bytes echoed knows))) refl quiet
quiet_b last law time options settled earlier run are fit runs keeps_b keeps_a (still_sends cookie bytes awaits t1 other) in_time quiet =
    let v : View = view options.b (turns_after earlier).b in
    let w : View = view options.a (turns_after earlier).a in
    connected_b options (turns_after earlier) run _ _ (record { once = refl }) (once_more v _ awaits.core refl)
    (quiet_data law time sides.B options settled earlier run v w cookie bytes are fit (record { a = refl; b = refl }) (record { a = keeps_a.same; b = keeps_b.same }) awaits t1
    (in_time.with_data cookie bytes awaits other) quiet runs)

by_quiet : LostRoundsAreMadeGood → HandshakeLaws → TimePassesQuietly → (side : Side) (options : Both Options) (settled : Both ℕ) (earlier run : List PerformedAct) → AreUsable options → AreFitting options → SocketRun options run
    → KeepsOptions (of_side side options) (this_endpoint options side earlier) → KeepsOptions (of_other side options) (other_endpoint options side earlier)
    → IsTrying 1 (this_endpoint options side earlier) (other_endpoint options side earlier) → ComesInTime (this_endpoint options side earlier) (other_endpoint options side earlier)
    → QuietRound options (counts_shown options (turns_after earlier)) earlier settled run → HaveConnected options (turns_after earlier) (turns_after run)
by_quiet last law time sides.A options settled earlier run are fit runs keeps keeps' trying in_time quiet = quiet_a last law time options settled earlier run are fit runs keeps keeps' trying in_time quiet
by_quiet last law time sides.B options settled earlier run are fit runs keeps keeps' trying in_time quiet = quiet_b last law time options settled earlier run are fit runs keeps keeps' trying in_time quiet

ran_rounds : (options : Both Options) (count : ℕ) (earlier run : List PerformedAct) → LossyRounds options count earlier run → SocketRun options run → SocketRun options earlier
ran_rounds options zero earlier run is runs = subst (SocketRun options) is runs
ran_rounds options (suc count) earlier run h runs =
    let first = h.2 in
    ran options earlier _ first.between first.time (ran_lossy options 4 _ h.1 first.between h.0 first.exchanges (ran_rounds options count h.0 run h.3 runs))

-- The first round connects, or the rest does.
or_rest : {Here Rest Last : Type 0} → Rest ⊎ Last → (Here ⊎ Rest) ⊎ Last
or_rest (inl h) = inl (inr h)
or_rest (inr h) = inr h

by_first : (side : Side) (options : Both Options) (more : ℕ) (earlier between : List PerformedAct) (Rest Last : Type 0)
    → (KeepsOptions (of_side side options) (this_endpoint options side between) → KeepsOptions (of_other side options) (other_endpoint options side between)
    → IsTrying more (this_endpoint options side between) (other_endpoint options side between) → Rest ⊎ Last)
    → LeadsOn options side more earlier between → (HaveConnected options (turns_after earlier) (turns_after between) ⊎ Rest) ⊎ Last
by_first side options more earlier between Rest Last go (tries_again keeps keeps' trying) = or_rest (go keeps keeps' trying)
by_first side options more earlier between Rest Last go (connects h) = inl (inl h)

by_rounds : LossyRoundsLeadOn → LostRoundsAreMadeGood → HandshakeLaws → TimePassesQuietly → (count : ℕ) (side : Side) (options : Both Options) (settled : Both ℕ) (earlier between run : List PerformedAct) → AreUsable options → AreFitting options → SocketRun options run
    → KeepsOptions (of_side side options) (this_endpoint options side earlier) → KeepsOptions (of_other side options) (other_endpoint options side earlier)
    → LeavesRestarts (of_side side options).max_init_retransmits 0 (suc count) → IsTrying (suc count) (this_endpoint options side earlier) (other_endpoint options side earlier)
    → (rounds : LossyRounds options count earlier between) → BearRounds options side count earlier between rounds → QuietRound options (counts_shown options (turns_after between)) between settled run
    → OneConnects options count earlier between rounds ⊎ HaveConnected options (turns_after between) (turns_after run)
by_rounds step last law time zero side options settled earlier between run are fit runs keeps keeps' restarts trying is in_time quiet =
    inr (subst (λ (r : List PerformedAct). HaveConnected options (turns_after r) (turns_after run)) (sym is)
    (by_quiet last law time side options settled earlier run are fit runs keeps keeps' trying in_time
    (subst (λ (r : List PerformedAct). QuietRound options (counts_shown options (turns_after r)) r settled run) is quiet)))
by_rounds step last law time (suc count) side options settled earlier between run are fit runs keeps keeps' restarts trying rounds in_time quiet =
    let then_runs : SocketRun options between = ran options between _ quiet.between quiet.time (ran_exchanges options 4 _ quiet.between settled run quiet.exchanges runs) in
    by_first side options (suc count) earlier rounds.0 (OneConnects options count rounds.0 between rounds.3) (HaveConnected options (turns_after between) (turns_after run))
    (λ k k' t. by_rounds step last law time count side options settled rounds.0 between run are fit runs k k' (fewer (of_side side options).max_init_retransmits 0 (suc count) restarts) t rounds.3 in_time.1 quiet)
    (step options rounds.0 are fit (ran_rounds options count rounds.0 between rounds.3 then_runs) side (suc count) rounds.1 earlier keeps keeps' restarts trying in_time.0 rounds.2)

pub lossy_rounds_connect : LossyRoundsLeadOn → LostRoundsAreMadeGood → HandshakeLaws → TimePassesQuietly → LossyRoundsConnectSockets
lossy_rounds_connect step last law time options run are fit runs side count settled earlier between keeps keeps' restarts trying rounds in_time quiet =
    by_rounds step last law time count side options settled earlier between run are fit runs keeps keeps' restarts trying rounds in_time quiet

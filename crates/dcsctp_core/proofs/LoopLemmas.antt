-- The loop of a flush: what completes the rest of it completes the whole.
use Rattle.std.proofs.Common.{◌≡◌, ◌==◌, ◌-◌, ◌<◌, ℕ, suc, Bool, true, false, Option, None, Some, Result, Ok, Err, List, [], refl, sym, ap, subst, ◌∙◌, arith}
use Rattle.rand_core.specs.Stream.{Stream}
use Rattle.dcsctp_transfer.specs.wire_build.Building.{Building}
use Rattle.dcsctp_transfer.specs.types.declared.association.Held.{Held}
use Rattle.dcsctp_transfer.specs.spec.endpoint.Event.{Event}
use Rattle.dcsctp_transfer.specs.spec.Packet.{Emission}
use Rattle.dcsctp_transfer.specs.spec.endpoint.Endpoint.{Endpoint, Core, closed, cookie_wait, cookie_echoed, open_in, held_by_core}
use Rattle.dcsctp_transfer.specs.spec.endpoint.Outcome.{Outcome, still}
use Rattle.dcsctp_transfer.specs.spec.association.FlushChanges.{held_asking}
use Rattle.dcsctp_transfer.specs.spec.endpoint.BegunResets.{BegunReset, held_begun, core_asking, after_begun}
use Rattle.dcsctp_transfer.specs.spec.endpoint.DataOutcomes.{flush_to_peer, AnswersTo}
use Rattle.dcsctp_transfer.specs.spec.endpoint.FlushOutcomes.{Answer, draft_to, next_draft, flush_of, packets_allowed, Ask, first_ask, later_ask}
use Rattle.dcsctp_transfer.proofs.spec_lemmas.AnswerLemmas.{any_answers}
use Rattle.dcsctp_transfer.proofs.spec_lemmas.FlushKeeps.{asked_keeps, later_begins}
use Rattle.dcsctp_core.specs.declared.context.Context.{Context}
use Rattle.dcsctp_transfer.specs.types.declared.options.Options.{Options}
use Rattle.dcsctp_core.specs.declared.state.State.{State}
use Rattle.dcsctp_core.specs.declared.state.State.TheVariants.{Closed, CookieWait, CookieEchoed, Open}
use Rattle.dcsctp_core.specs.declared.transmission_control_block.TransmissionControlBlock.{TransmissionControlBlock}
use Rattle.dcsctp_core.specs.View.{View, core_of, tcb_of, held_of, endpoint_of, view_of}
use Rattle.dcsctp_core.specs.Handling.{TakesPossibleTurn, CutsSomeTurn, SendsQueued}
use Rattle.dcsctp_core.proofs.Moving.{moves_still}
use Rattle.dcsctp_core.proofs.Composing.{cut_first, cut_after}
use Rattle.dcsctp_core.specs.Flushing.{packet_for, empty_packet, AsksFor, CutsAsk, FlushesFor, CutsFlush, FlushesOrFails}
use Rattle.dcsctp_core.proofs.FlushLemmas.{flushes_none, flushes_last, flushes_further, flush_cut_here, flush_cut_further, flush_cut_before, next_to}

-- What completes a flush of so many packets from here, after a packet to this peer, completes the whole.
pub record Completes {R : Type 0} (stream : R → Stream) (held : Held) (allowed : ℕ) (start : View R) (left : ℕ) (here : View R) : Type 0 where
  pub core : held_by_core here.endpoint.core ≡ Some held
  pub done : (new : View R) → FlushesFor stream later_ask left here (draft_to held) new → FlushesFor stream later_ask allowed start (draft_to held) new
  pub cut : (events : List (Event (List ℕ))) → CutsFlush later_ask left here (draft_to held) events → CutsFlush later_ask allowed start (draft_to held) events

-- one packet more was sent
pub completes_on : {R : Type 0} (stream : R → Stream) (held : Held) (allowed : ℕ) (start : View R) (more : ℕ) (here next : View R) (is_sent : Bool) → is_sent ≡ true
    → Completes stream held allowed start (suc more) here → AsksFor stream later_ask here (draft_to held) is_sent next → Completes stream held allowed start more next
completes_on stream held allowed start more here next is_sent was_sent c h =
    let follows : next_draft here.endpoint.core (draft_to held) ≡ draft_to held = next_to here.endpoint.core (draft_to held) held c.core in
    record {
      core = ap (λ (e : Endpoint). held_by_core e.core) h.moves.endpoint ∙ ap held_by_core (asked_keeps later_ask here.endpoint (draft_to held) h.answer h.allowed).core
          ∙ ap (λ (b : Option BegunReset). held_by_core (after_begun b here.endpoint).core) (later_begins here.endpoint (draft_to held) h.answer h.allowed) ∙ c.core;
      done = λ new rest. c.done new (flushes_further stream later_ask more here next new (draft_to held) (draft_to held) is_sent was_sent h follows rest);
      cut = λ events rest. c.cut events (flush_cut_further stream later_ask more here next (draft_to held) (draft_to held) events is_sent was_sent h follows rest);
    }

-- none is left, or the next one is empty
pub completes_none : {R : Type 0} (stream : R → Stream) (held : Held) (allowed : ℕ) (start : View R) (left : ℕ) (here : View R) → left ≡ 0 → Completes stream held allowed start left here
    → FlushesFor stream later_ask allowed start (draft_to held) here
completes_none stream held allowed start left here none c = c.done here (subst (λ (n : ℕ). FlushesFor stream later_ask n here (draft_to held) here) (sym none) (flushes_none stream later_ask here (draft_to held)))

pub completes_last : {R : Type 0} (stream : R → Stream) (held : Held) (allowed : ℕ) (start : View R) (more : ℕ) (here new : View R) (is_sent : Bool) → is_sent ≡ false
    → Completes stream held allowed start (suc more) here → AsksFor stream later_ask here (draft_to held) is_sent new → FlushesFor stream later_ask allowed start (draft_to held) new
completes_last stream held allowed start more here new is_sent not_sent c h = c.done new (flushes_last stream later_ask more here new (draft_to held) is_sent not_sent h)

pub completes_cut : {R : Type 0} (stream : R → Stream) (held : Held) (allowed : ℕ) (start : View R) (more : ℕ) (here : View R) (events : List (Event (List ℕ)))
    → Completes stream held allowed start (suc more) here → CutsAsk later_ask here (draft_to held) events → CutsFlush later_ask allowed start (draft_to held) events
completes_cut stream held allowed start more here events c h = c.cut events (flush_cut_here later_ask more here (draft_to held) events h)

-- a packet that can't be made: nothing was added
pub completes_unmade : {R : Type 0} (stream : R → Stream) (held : Held) (allowed : ℕ) (start : View R) (left : ℕ) (here : View R)
    → Completes stream held allowed start left here → CutsFlush later_ask allowed start (draft_to held) here.events
completes_unmade stream held allowed start left here c = c.cut here.events (flush_cut_before later_ask left here (draft_to held))

-- ---- in the loop

one_less : (left : ℕ) → 0 < left → left ≡ suc (left - 1)
one_less left some = omega (arith, some)

-- the peer of the association
pub held_is : (state : State) (tcb : TransmissionControlBlock) (held : Held) → Some tcb ≡ tcb_of state → held_by_core (core_of state) ≡ Some held → held ≡ held_of tcb
held_is Closed tcb held kept holds = absurd (cc)
held_is (CookieWait wait) tcb held kept holds = absurd (cc)
held_is (CookieEchoed echoed) tcb held kept holds =
    let same : echoed.tcb ≡ tcb = cc in
    let own : held_of echoed.tcb ≡ held = cc in
    sym own ∙ ap held_of same
held_is (Open opened) tcb held kept holds =
    let same : opened.tcb ≡ tcb = cc in
    let own : held_of opened.tcb ≡ held = cc in
    sym own ∙ ap held_of same

-- a packet to it
pub packet_to : (options : Options) (state : State) (tcb : TransmissionControlBlock) (held : Held) (packet : Building) → Some tcb ≡ tcb_of state → held_by_core (core_of state) ≡ Some held
    → packet ≡ empty_packet options (tcb.capabilities.zero_checksum_method.0 == 0) tcb.peer.tag → packet ≡ packet_for options (draft_to held)
packet_to options state tcb held packet kept holds is = is ∙ ap (λ (h : Held). packet_for options (draft_to h)) (sym (held_is state tcb held kept holds))

pub loop_goes_on : {R : Type 0} (stream : R → Stream) (held : Held) (allowed : ℕ) (start : View R) (left : ℕ) (here next : View R) (is_sent : Bool) → 0 < left → is_sent ≡ true
    → Completes stream held allowed start left here → AsksFor stream later_ask here (draft_to held) is_sent next → Completes stream held allowed start (left - 1) next
loop_goes_on stream held allowed start left here next is_sent some was_sent c h =
    completes_on stream held allowed start (left - 1) here next is_sent was_sent (subst (λ (n : ℕ). Completes stream held allowed start n here) (one_less left some) c) h

pub loop_ends : {R : Type 0} (stream : R → Stream) (held : Held) (allowed : ℕ) (start : View R) (left : ℕ) (here new : View R) (is_sent : Bool) → 0 < left → is_sent ≡ false
    → Completes stream held allowed start left here → AsksFor stream later_ask here (draft_to held) is_sent new → FlushesFor stream later_ask allowed start (draft_to held) new
loop_ends stream held allowed start left here new is_sent some not_sent c h =
    completes_last stream held allowed start (left - 1) here new is_sent not_sent (subst (λ (n : ℕ). Completes stream held allowed start n here) (one_less left some) c) h

pub loop_cut : {R : Type 0} (stream : R → Stream) (held : Held) (allowed : ℕ) (start : View R) (left : ℕ) (here : View R) (events : List (Event (List ℕ))) → 0 < left
    → Completes stream held allowed start left here → CutsAsk later_ask here (draft_to held) events → CutsFlush later_ask allowed start (draft_to held) events
loop_cut stream held allowed start left here events some c h =
    completes_cut stream held allowed start (left - 1) here events (subst (λ (n : ℕ). Completes stream held allowed start n here) (one_less left some) c) h

-- ---- after the first packet

pub none_allowed : {R : Type 0} (stream : R → Stream) (ask : Ask) (n : ℕ) (view : View R) (draft : Emission) → n ≡ 0 → FlushesFor stream ask n view draft view
none_allowed stream ask n view draft none = subst (λ (m : ℕ). FlushesFor stream ask m view draft view) (sym none) (flushes_none stream ask view draft)

pub first_cut : {R : Type 0} (n : ℕ) (old : View R) (draft : Emission) (events : List (Event (List ℕ))) → 0 < n → CutsAsk first_ask old draft events → CutsFlush first_ask n old draft events
first_cut n old draft events some h = subst (λ (m : ℕ). CutsFlush first_ask m old draft events) (sym (one_less n some)) (flush_cut_here first_ask (n - 1) old draft events h)

pub first_last : {R : Type 0} (stream : R → Stream) (n : ℕ) (old new : View R) (draft : Emission) (is_sent : Bool) → 0 < n → is_sent ≡ false → AsksFor stream first_ask old draft is_sent new
    → FlushesFor stream first_ask n old draft new
first_last stream n old new draft is_sent some not_sent h =
    subst (λ (m : ℕ). FlushesFor stream first_ask m old draft new) (sym (one_less n some)) (flushes_last stream first_ask (n - 1) old new draft is_sent not_sent h)

-- what is known of the peer once a reset was begun
asking_held : (core : Core) (held : Held) → held_by_core core ≡ Some held → held_by_core (core_asking core) ≡ Some (held_asking held)
asking_held closed held is = absurd (cc)
asking_held (cookie_wait my) held is = absurd (cc)
asking_held (cookie_echoed my own cookie) held is = let here : own ≡ held = cc in ap (λ (h : Held). Some (held_asking h)) here
asking_held (open_in phase my own) held is = let here : own ≡ held = cc in ap (λ (h : Held). Some (held_asking h)) here

held_after : (begun : Option BegunReset) (e : Endpoint) (held : Held) → held_by_core e.core ≡ Some held → held_by_core (after_begun begun e).core ≡ Some (held_begun begun held)
held_after None e held is = is
held_after (Some begun) e held is = asking_held e.core held is

-- A packet to it is the same.
same_draft : (begun : Option BegunReset) (held : Held) → draft_to held ≡ draft_to (held_begun begun held)
same_draft None held = refl
same_draft (Some begun) held = refl

still_held : {R : Type 0} (stream : R → Stream) (old mid : View R) (draft : Emission) (held : Held) (is_sent : Bool) → held_by_core old.endpoint.core ≡ Some held
    → (h : AsksFor stream first_ask old draft is_sent mid) → held_by_core mid.endpoint.core ≡ Some (held_begun h.answer.begun held)
still_held stream old mid draft held is_sent holds h =
    ap (λ (e : Endpoint). held_by_core e.core) h.moves.endpoint ∙ ap held_by_core (asked_keeps first_ask old.endpoint draft h.answer h.allowed).core ∙ held_after h.answer.begun old.endpoint held holds

pub first_then : {R E : Type 0} (stream : R → Stream) (n : ℕ) (old mid : View R) (draft : Emission) (held : Held) (result : Result (Unit {0}) E) (new : View R) (is_sent : Bool) → 0 < n → is_sent ≡ true
    → held_by_core old.endpoint.core ≡ Some held → AsksFor stream first_ask old draft is_sent mid
    → ((after : Held) → held_by_core mid.endpoint.core ≡ Some after → FlushesOrFails stream later_ask (n - 1) (draft_to after) mid result new) → FlushesOrFails stream first_ask n draft old result new
first_then stream n old mid draft held (Ok done) new is_sent some was_sent holds h rest =
    subst (λ (m : ℕ). FlushesFor stream first_ask m old draft new) (sym (one_less n some))
    (flushes_further stream first_ask (n - 1) old mid new draft (draft_to (held_begun h.answer.begun held)) is_sent was_sent h (next_to old.endpoint.core draft held holds ∙ same_draft h.answer.begun held)
    (rest (held_begun h.answer.begun held) (still_held stream old mid draft held is_sent holds h)))
first_then stream n old mid draft held (Err error) new is_sent some was_sent holds h rest =
    subst (λ (m : ℕ). CutsFlush first_ask m old draft new.events) (sym (one_less n some))
    (flush_cut_further stream first_ask (n - 1) old mid draft (draft_to (held_begun h.answer.begun held)) new.events is_sent was_sent h
    (next_to old.endpoint.core draft held holds ∙ same_draft h.answer.begun held) (rest (held_begun h.answer.begun held) (still_held stream old mid draft held is_sent holds h)))

-- ---- a flush by itself

pub held_by_tcb : (state : State) (tcb : TransmissionControlBlock) → Some tcb ≡ tcb_of state → held_by_core (core_of state) ≡ Some (held_of tcb)
held_by_tcb Closed tcb kept = absurd (cc)
held_by_tcb (CookieWait wait) tcb kept = absurd (cc)
held_by_tcb (CookieEchoed echoed) tcb kept =
    let same : echoed.tcb ≡ tcb = cc in ap (λ (t : TransmissionControlBlock). Some (held_of t)) same
held_by_tcb (Open opened) tcb kept =
    let same : opened.tcb ≡ tcb = cc in ap (λ (t : TransmissionControlBlock). Some (held_of t)) same

pub none_by_tcb : (state : State) → None ≡ tcb_of state → held_by_core (core_of state) ≡ None
none_by_tcb Closed kept = refl
none_by_tcb (CookieWait wait) kept = refl
none_by_tcb (CookieEchoed echoed) kept = absurd (cc)
none_by_tcb (Open opened) kept = absurd (cc)

-- any answers to the peer, if there is one
any_to : (e : Endpoint) (peer : Option Held) → (answers : List Answer) × AnswersTo e peer answers
any_to e None = ([], refl)
any_to e (Some held) = any_answers first_ask (packets_allowed e.options.max_burst e.core) e (draft_to held)

pub flush_unmade : {R : Type 0} (old : Context R) → CutsSomeTurn SendsQueued (view_of old) (view_of old).events
flush_unmade old =
    let e : Endpoint = endpoint_of old in
    let some = any_to e (held_by_core e.core) in
    let o : Outcome = flush_to_peer e (held_by_core e.core) some.0 in
    record { outcome = o; turn = (some.0, some.1, refl); cut = cut_first (view_of old) o (view_of old).events refl }

pub flush_no_peer : {R : Type 0} (stream : R → Stream) (old : Context R) → None ≡ tcb_of old.state → TakesPossibleTurn stream SendsQueued (view_of old) (view_of old)
flush_no_peer stream old none =
    let e : Endpoint = endpoint_of old in
    let nobody : held_by_core e.core ≡ None = none_by_tcb old.state none in
    record {
      outcome = still e;
      turn = ([], subst (λ (peer : Option Held). AnswersTo e peer []) (sym nobody) refl, sym (ap (λ (peer : Option Held). flush_to_peer e peer []) nobody));
      moves = moves_still stream (view_of old);
    }

-- what is given of every packet to the peer
abbrev ToPeer : {R : Type 0} → Context R → TransmissionControlBlock → (Emission → Type 0) → Type 0
ToPeer old tcb Flushed =
    (held : Held) → held_by_core (core_of old.state) ≡ Some held → (draft : Emission)
    → empty_packet old.options (tcb.capabilities.zero_checksum_method.0 == 0) tcb.peer.tag ≡ packet_for old.options draft → Flushed draft

pub flush_done : {R : Type 0} (stream : R → Stream) (old : Context R) (tcb : TransmissionControlBlock) (new : View R) → Some tcb ≡ tcb_of old.state
    → ToPeer old tcb (λ draft. FlushesFor stream first_ask (packets_allowed old.options.max_burst (core_of old.state)) (view_of old) draft new) → TakesPossibleTurn stream SendsQueued (view_of old) new
flush_done stream old tcb new kept flushes =
    let held : Held = held_of tcb in
    let holds : held_by_core (core_of old.state) ≡ Some held = held_by_tcb old.state tcb kept in
    let f = flushes held holds (draft_to held) refl in
    let e : Endpoint = endpoint_of old in
    record {
      outcome = flush_of e (draft_to held) f.answers;
      turn = (f.answers, subst (λ (peer : Option Held). AnswersTo e peer f.answers) (sym holds) f.allowed, sym (ap (λ (peer : Option Held). flush_to_peer e peer f.answers) holds));
      moves = f.moves;
    }

pub flush_cut_in : {R : Type 0} (old : Context R) (tcb : TransmissionControlBlock) (events : List (Event (List ℕ))) → Some tcb ≡ tcb_of old.state
    → ToPeer old tcb (λ draft. CutsFlush first_ask (packets_allowed old.options.max_burst (core_of old.state)) (view_of old) draft events) → CutsSomeTurn SendsQueued (view_of old) events
flush_cut_in old tcb events kept flushes =
    let held : Held = held_of tcb in
    let holds : held_by_core (core_of old.state) ≡ Some held = held_by_tcb old.state tcb kept in
    let f = flushes held holds (draft_to held) refl in
    let e : Endpoint = endpoint_of old in
    record {
      outcome = flush_of e (draft_to held) f.answers;
      turn = (f.answers, subst (λ (peer : Option Held). AnswersTo e peer f.answers) (sym holds) f.allowed, sym (ap (λ (peer : Option Held). flush_to_peer e peer f.answers) holds));
      cut = cut_after (view_of old) (flush_of e (draft_to held) f.answers) events f.front f.rest f.parts f.added;
    }

-- What was lost is sent at once, and then what waits.
use Rattle.std.proofs.Common.{◌≡◌, ℕ, Bool, true, false, Option, Some, List, [], ◌∷◌, ◌++◌, refl, sym, ap, subst, ◌∙◌}
use Rattle.std.specs.Prelude.{is_some}
use Rattle.std.proofs.lemmas.List.{append-nil}
use Rattle.rand_core.specs.Stream.{Stream}
use Rattle.dcsctp_core.specs.types.declared.association.Held.{Held}
use Rattle.dcsctp_core.specs.types.declared.word.Word.{Word}
use Rattle.dcsctp_core.specs.spec.association.Effect.{Effect, drawn_pairs}
use Rattle.dcsctp_core.specs.types.Settings.{ports_of}
use Rattle.dcsctp_core.specs.spec.endpoint.Event.{Event}
use Rattle.dcsctp_core.specs.spec.Packet.{Content}
use Rattle.dcsctp_core.specs.spec.queues.Transfer.{Transfer}
use Rattle.dcsctp_core.specs.spec.queues.Retransmission.{has_fast_retransmit}
use Rattle.dcsctp_core.specs.spec.endpoint.Endpoint.{Endpoint, held_by_core}
use Rattle.dcsctp_core.specs.spec.endpoint.Outcome.{Outcome}
use Rattle.dcsctp_core.specs.spec.association.Choices.{plain_contents}
use Rattle.dcsctp_core.specs.spec.endpoint.FlushOutcomes.{Answer, draft_to, flush_of, first_ask, packets_allowed, goes_out, FlushAnswers}
use Rattle.dcsctp_core.specs.spec.endpoint.DataOutcomes.{with_transfer, FastRetransmits, FlushTurn, flush_to_peer, AnswersTo}
use Rattle.dcsctp_core.proofs.spec_lemmas.AnswerLemmas.{any_answers}
use Rattle.dcsctp_core.specs.declared.context.Context.{Context}
use Rattle.dcsctp_core.specs.declared.state.State.{State}
use Rattle.dcsctp_core.specs.declared.state.State.TheVariants.{Closed, CookieWait, CookieEchoed, Open}
use Rattle.dcsctp_core.specs.api.Calls.{DrawsWords}
use Rattle.dcsctp_core.specs.View.{View, core_of, held_of, transfer_of, endpoint_of, view_of, Moves}
use Rattle.dcsctp_core.specs.Handling.{TakesPossibleTurn, CutsSomeTurn, SendsQueued}
use Rattle.dcsctp_core.specs.Below.{GoesAtOnce, FlushesAtOnce}
use Rattle.dcsctp_core.proofs.Composing.{behind, Adds, Draws, moves_behind, cut_behind, cut_longer}
use Rattle.dcsctp_core_data.specs.Sacks.{ResendsThenFlushes, Resends, ResendsLost}

-- ---- a peer, with the queues below

pub record Below (state : State) : Type 0 where
  pub held : Held
  pub transfer : Transfer
  pub holds : held_by_core (core_of state) ≡ Some held
  pub below : transfer_of state ≡ Some transfer

pub below_of : (state : State) → is_some (transfer_of state) ≡ true → Below state
below_of Closed some = absurd (cc)
below_of (CookieWait wait) some = absurd (cc)
below_of (CookieEchoed echoed) some = record { held = held_of echoed.tcb; transfer = echoed.tcb.transfer; holds = refl; below = refl }
below_of (Open opened) some = record { held = held_of opened.tcb; transfer = opened.tcb.transfer; holds = refl; below = refl }

-- ---- what is sent at once changes little

pub record IsPlain (e : Endpoint) (o : Outcome) : Type 0 where
  pub words : o.words ≡ []
  pub effects : o.effects ≡ []
  pub core : o.after.core ≡ e.core
  pub options : o.after.options ≡ e.options

out_plain : (e : Endpoint) (left : Transfer) (with_checksum : Bool) (tag : ℕ) (contents : List Content) → IsPlain e (goes_out (with_transfer e left) [] with_checksum tag contents)
out_plain e left with_checksum tag [] = record { words = refl; effects = refl; core = refl; options = refl }
out_plain e left with_checksum tag (content ∷ contents) = record { words = refl; effects = refl; core = refl; options = refl }

fast_plain : (b : Bool) (e : Endpoint) (held : Held) (transfer : Transfer) (o : Outcome) → FastRetransmits b e held transfer o → IsPlain e o
fast_plain false e held transfer o h = subst (IsPlain e) (sym h) (record { words = refl; effects = refl; core = refl; options = refl })
fast_plain true e held transfer o h =
    subst (IsPlain e) (sym h.is) (out_plain e (record transfer { retransmission = h.left }) (draft_to held).with_checksum (draft_to held).packet.tag (plain_contents h.chunks))

-- ---- a flush comes after it

at_held : (e : Endpoint) (peer : Option Held) (found : Option Transfer) (held : Held) (transfer : Transfer) (o : Outcome) → peer ≡ Some held → found ≡ Some transfer → GoesAtOnce e peer found o
    → FastRetransmits (has_fast_retransmit transfer.retransmission) e held transfer o
at_held e peer found held transfer o holds below h =
    subst (λ (t : Option Transfer). GoesAtOnce e (Some held) t o) below (subst (λ (p : Option Held). GoesAtOnce e p found o) holds h)

to_held : (e : Endpoint) (peer : Option Held) (found : Option Transfer) (held : Held) (transfer : Transfer) (o : Outcome) → peer ≡ Some held → found ≡ Some transfer → ResendsThenFlushes e held transfer o → Resends e peer found o
to_held e peer found held transfer o holds below h =
    subst (λ (p : Option Held). Resends e p found o) (sym holds) (subst (λ (t : Option Transfer). Resends e (Some held) t o) (sym below) h)

-- refused in what goes at once
pub resend_cut : {R : Type 0} (old : Context R) (events : List (Event (List ℕ))) → is_some (transfer_of old.state) ≡ true → CutsSomeTurn FlushesAtOnce (view_of old) events → CutsSomeTurn ResendsLost (view_of old) events
resend_cut old events some cut =
    let b = below_of old.state some in
    let e : Endpoint = endpoint_of old in
    let fast : Outcome = cut.outcome in
    let any = any_answers first_ask (packets_allowed fast.after.options.max_burst fast.after.core) fast.after (draft_to b.held) in
    let o : Outcome = behind [] fast.events (flush_of fast.after (draft_to b.held) any.0) in
    record {
      outcome = o;
      turn = to_held e (held_by_core (core_of old.state)) (transfer_of old.state) b.held b.transfer o b.holds b.below
          (record { fast = fast; resends = at_held e (held_by_core (core_of old.state)) (transfer_of old.state) b.held b.transfer fast b.holds b.below cut.turn; answers = any.0; allowed = any.1; is = refl });
      cut = cut_longer (view_of old) fast o (flush_of fast.after (draft_to b.held) any.0).events events refl cut.cut;
    }

record Flushed (after : Endpoint) (held : Held) (flush : Outcome) : Type 0 where
  answers : List Answer
  allowed : FlushAnswers after (draft_to held) answers
  is : flush ≡ flush_of after (draft_to held) answers

flush_held : (e : Endpoint) (peer : Option Held) (held : Held) (o : Outcome) → peer ≡ Some held → (answers : List Answer) → AnswersTo e peer answers → o ≡ flush_to_peer e peer answers → Flushed e held o
flush_held e peer held o holds answers allowed is =
    record {
      answers = answers;
      allowed = subst (λ (p : Option Held). AnswersTo e p answers) holds allowed;
      is = is ∙ ap (λ (p : Option Held). flush_to_peer e p answers) holds;
    }

-- the whole, by what went at once and by the flush
whole : {R : Type 0} (old : Context R) (mid : View R) (b : Below old.state) (fast flush : Outcome) → GoesAtOnce (endpoint_of old) (held_by_core (core_of old.state)) (transfer_of old.state) fast
    → mid.endpoint ≡ fast.after → FlushTurn mid.endpoint flush → Resends (endpoint_of old) (held_by_core (core_of old.state)) (transfer_of old.state) (behind [] fast.events flush)
whole old mid b fast flush first at second =
    let e : Endpoint = endpoint_of old in
    let resends : FastRetransmits (has_fast_retransmit b.transfer.retransmission) e b.held b.transfer fast = at_held e (held_by_core (core_of old.state)) (transfer_of old.state) b.held b.transfer fast b.holds b.below first in
    let plain : IsPlain e fast = fast_plain (has_fast_retransmit b.transfer.retransmission) e b.held b.transfer fast resends in
    let turn : FlushTurn fast.after flush = subst (λ (x : Endpoint). FlushTurn x flush) at second in
    let flushed : Flushed fast.after b.held flush = flush_held fast.after (held_by_core fast.after.core) b.held flush (ap held_by_core plain.core ∙ b.holds) turn.0 turn.1 turn.2 in
    to_held e (held_by_core (core_of old.state)) (transfer_of old.state) b.held b.transfer (behind [] fast.events flush) b.holds b.below
    (record { fast = fast; resends = resends; answers = flushed.answers; allowed = flushed.allowed; is = ap (behind [] fast.events) flushed.is })

pub fast_adds : {R : Type 0} (stream : R → Stream) (v mid : View R) (fast : Outcome) → fast.after.options ≡ v.endpoint.options → Moves stream v fast mid → Adds v fast.events mid
fast_adds stream v mid fast same m = record { ports = ap (λ (x : Endpoint). ports_of x.options) m.endpoint ∙ ap ports_of same; events = m.events }

pub fast_draws : {R : Type 0} (stream : R → Stream) (v mid : View R) (fast : Outcome) → fast.words ≡ [] → fast.effects ≡ [] → Moves stream v fast mid → Draws stream v [] mid
fast_draws stream v mid fast words effects m =
    record {
      words = m.words ∙ ap (λ (ws : List Word). v.words ++ ws) words;
      pairs = m.pairs ∙ ap (λ (es : List Effect). v.pairs ++ drawn_pairs es) effects ∙ append-nil v.pairs;
      drawn = subst (λ (ws : List Word). DrawsWords (stream v.generator) ws (stream mid.generator)) words m.drawn;
    }

plain_of : {R : Type 0} (old : Context R) (b : Below old.state) (fast : Outcome) → GoesAtOnce (endpoint_of old) (held_by_core (core_of old.state)) (transfer_of old.state) fast → IsPlain (endpoint_of old) fast
plain_of old b fast first =
    fast_plain (has_fast_retransmit b.transfer.retransmission) (endpoint_of old) b.held b.transfer fast (at_held (endpoint_of old) (held_by_core (core_of old.state)) (transfer_of old.state) b.held b.transfer fast b.holds b.below first)

pub resent : {R : Type 0} (stream : R → Stream) (old mid new : Context R) → is_some (transfer_of old.state) ≡ true → TakesPossibleTurn stream FlushesAtOnce (view_of old) (view_of mid)
    → TakesPossibleTurn stream SendsQueued (view_of mid) (view_of new) → TakesPossibleTurn stream ResendsLost (view_of old) (view_of new)
resent stream old mid new some first second =
    let b = below_of old.state some in
    let fast : Outcome = first.outcome in
    let plain : IsPlain (endpoint_of old) fast = plain_of old b fast first.turn in
    record {
      outcome = behind [] fast.events second.outcome;
      turn = whole old (view_of mid) b fast second.outcome first.turn first.moves.endpoint second.turn;
      moves = moves_behind stream (view_of old) (view_of mid) (view_of new) [] fast.events second.outcome (fast_adds stream (view_of old) (view_of mid) fast plain.options first.moves)
          (fast_draws stream (view_of old) (view_of mid) fast plain.words plain.effects first.moves) second.moves;
    }

pub resend_cut_later : {R : Type 0} (stream : R → Stream) (old mid : Context R) (events : List (Event (List ℕ))) → is_some (transfer_of old.state) ≡ true → TakesPossibleTurn stream FlushesAtOnce (view_of old) (view_of mid)
    → CutsSomeTurn SendsQueued (view_of mid) events → CutsSomeTurn ResendsLost (view_of old) events
resend_cut_later stream old mid events some first second =
    let b = below_of old.state some in
    let fast : Outcome = first.outcome in
    let plain : IsPlain (endpoint_of old) fast = plain_of old b fast first.turn in
    record {
      outcome = behind [] fast.events second.outcome;
      turn = whole old (view_of mid) b fast second.outcome first.turn first.moves.endpoint second.turn;
      cut = cut_behind (view_of old) (view_of mid) [] fast.events second.outcome events (fast_adds stream (view_of old) (view_of mid) fast plain.options first.moves) second.cut;
    }

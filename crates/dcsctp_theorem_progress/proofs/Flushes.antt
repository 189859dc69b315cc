-- A flush with data that waits: by itself, and after a chunk of the handshake.
use Rattle.std.proofs.Common.{◌≡◌, ℕ, zero, suc, arith, Bool, true, Option, None, Some, List, [], ◌∷◌, ◌++◌, map, refl, sym, ap, subst, ◌∙◌}
use Rattle.std.specs.Prelude.{ℤ, pos, negsuc}
use Rattle.dcsctp_spec_lemmas.specs.types.declared.association.Held.{Held}
use Rattle.dcsctp_spec_lemmas.specs.spec.Packet.{Content, Emission}
use Rattle.dcsctp_spec_lemmas.specs.spec.endpoint.BegunResets.{BegunReset, after_begun}
use Rattle.dcsctp_spec_lemmas.specs.spec.endpoint.Endpoint.{Endpoint, Core, closed, cookie_wait, cookie_echoed, open_in, held_by_core}
use Rattle.dcsctp_spec_lemmas.specs.spec.endpoint.Event.{Event, packets_of_events}
use Rattle.dcsctp_spec_lemmas.specs.spec.endpoint.Following.{next_chunk}
use Rattle.dcsctp_spec_lemmas.specs.spec.endpoint.FlushOutcomes.{Answer, answer_contents, filled_draft, filling_event, goes_out, asked_outcome, draft_to, next_draft, flush_of, Ask, first_ask, later_ask, IsFlushAnswer, AreFlushAnswers, at_limit, at_empty, after_packet, packets_allowed, FlushAnswers, allows_packet}
use Rattle.dcsctp_spec_lemmas.specs.spec.endpoint.Outcome.{Outcome}
use Rattle.dcsctp_spec_lemmas.proofs.FlushKeeps.{Keeps, begun_by, later_begins, flush_keeps}
use Rattle.dcsctp_theorem_sockets.proofs.Bursts.{packets_of_events-append}
use Rattle.dcsctp_delivery_directions.proofs.sending.OpenStreams.{flush_open, flush_asks_none}
use Rattle.dcsctp_theorem_progress.proofs.Views.{told_then}
use Rattle.dcsctp_theorem_progress.proofs.Constant.{SameClock, flush_same, KeepsTrying, same_trying}
use Rattle.dcsctp_theorem_progress.proofs.Carried.{CarriesTo, both_carried}
use Rattle.dcsctp_theorem_progress.proofs.Flows.{IsOfKind, Flows, AllCarryTo, AreCarriedFor, answered, asked_kind, told_packets, told_nothing, told-append, TellsCarried, tells_both, out_tells}

-- ---- the packets that follow

one_held : (other held : Held) → Some other ≡ Some held → other ≡ held
one_held other held is = cc

next_is : (core : Core) (held : Held) (draft : Emission) → held_by_core core ≡ Some held → next_draft core draft ≡ draft_to held
next_is closed held draft is = absurd (cc)
next_is (cookie_wait my) held draft is = absurd (cc)
next_is (cookie_echoed my other cookie) held draft is = ap draft_to (one_held other held is)
next_is (open_in phase my other) held draft is = ap draft_to (one_held other held is)

-- ---- a flush by itself

pub record Flushed (held : Held) (o : Outcome) : Type 0 where
  pub kind : IsOfKind held o.after
  pub tells : TellsCarried held o.events

asked_tells : (ask : Ask) (held : Held) (e : Endpoint) (draft : Emission) (answer : Answer) → IsFlushAnswer ask e draft answer → IsOfKind held e → answer.begun ≡ None → CarriesTo held draft
    → TellsCarried held (asked_outcome e draft answer).events
asked_tells ask held e draft answer h k none good =
    out_tells held answer.after answer.told draft.with_checksum draft.packet.tag (filled_draft draft (answer_contents answer)).packet.contents good.checked good.header
    (both_carried held.capabilities.message_interleaving held.capabilities.partial_reliability draft.packet.contents (answer_contents answer) good.contents (answered ask held e draft answer k none h).carried)

later_begun : (n : ℕ) (e : Endpoint) (draft : Emission) (answers : List Answer) → AreFlushAnswers later_ask n e draft answers → begun_by answers ≡ None
later_begun _ _ _ _ (at_limit _ e draft) = refl
later_begun _ _ _ _ (at_empty _ more e draft answer is empty) = later_begins e draft answer is
later_begun _ _ _ _ (after_packet _ more e draft answer answers is some rest) = later_begins e draft answer is

flushed : (ask : Ask) (n : ℕ) (held : Held) (e : Endpoint) (draft : Emission) (answers : List Answer) → AreFlushAnswers ask n e draft answers → IsOfKind held e → begun_by answers ≡ None → CarriesTo held draft
    → Flushed held (flush_of e draft answers)
flushed _ _ held _ _ _ (at_limit ask e draft) k none good = record { kind = k; tells = record { told = λ n. refl; sent = tt } }
flushed _ _ held _ _ _ (at_empty ask more e draft answer is empty) k none good =
    record { kind = asked_kind ask held e draft answer k none is; tells = tells_both held (asked_outcome e draft answer).events [] (asked_tells ask held e draft answer is k none good) (record { told = λ n. refl; sent = tt }) }
flushed _ _ held _ _ _ (after_packet ask more e draft answer answers is some rest) k none good =
    let after : Endpoint = (asked_outcome e draft answer).after in
    let next : IsOfKind held after = asked_kind ask held e draft answer k none is in
    let others : Flushed held (flush_of after (next_draft e.core draft) answers) =
    flushed later_ask more held after (next_draft e.core draft) answers rest next (later_begun more after (next_draft e.core draft) answers rest)
    (subst (CarriesTo held) (sym (next_is e.core held draft k.peer)) (record { checked = refl; header = refl; contents = tt })) in
    record {
      kind = others.kind;
      tells = tells_both held (asked_outcome e draft answer).events (flush_of after (next_draft e.core draft) answers).events (asked_tells ask held e draft answer is k none good) others.tells;
    }

flush_trying : (n : ℕ) (e : Endpoint) (draft : Emission) (answers : List Answer) → AreFlushAnswers first_ask n e draft answers → KeepsTrying e (flush_of e draft answers).after
flush_trying n e draft answers allowed =
    let same : SameClock e (flush_of e draft answers).after = flush_same first_ask n e draft answers allowed in
    same_trying e (flush_of e draft answers).after same.moment (flush_keeps first_ask n e draft answers allowed).t1 same.errors

-- The association stays, OnConnected isn't told, and each packet is taken by the peer.
pub record Stays (held : Held) (e : Endpoint) (o : Outcome) : Type 0 where
  pub core : o.after.core ≡ e.core
  pub options : o.after.options ≡ e.options
  pub asked : o.after.shutdown_asked ≡ e.shutdown_asked
  pub flows : Flows held o.after
  pub tells : TellsCarried held o.events
  pub following : o.following ≡ next_chunk
  pub trying : KeepsTrying e o.after

begun_asked : (begun : Option BegunReset) (e : Endpoint) → (after_begun begun e).shutdown_asked ≡ e.shutdown_asked
begun_asked None e = refl
begun_asked (Some begun) e = refl

pub out_asked : (e : Endpoint) (told : List (Event Emission)) (with_checksum : Bool) (tag : ℕ) (contents : List Content) → (goes_out e told with_checksum tag contents).after.shutdown_asked ≡ e.shutdown_asked
out_asked e told with_checksum tag [] = refl
out_asked e told with_checksum tag (content ∷ contents) = refl

one_asked : (ask : Ask) (e : Endpoint) (draft : Emission) (answer : Answer) → IsFlushAnswer ask e draft answer → (asked_outcome e draft answer).after.shutdown_asked ≡ e.shutdown_asked
one_asked ask e draft answer h =
    out_asked answer.after (map filling_event answer.told) draft.with_checksum draft.packet.tag (filled_draft draft (answer_contents answer)).packet.contents
    ∙ ap (λ (x : Endpoint). x.shutdown_asked) h.kept ∙ begun_asked answer.begun e

flush_asked : (ask : Ask) (n : ℕ) (e : Endpoint) (draft : Emission) (answers : List Answer) → AreFlushAnswers ask n e draft answers → (flush_of e draft answers).after.shutdown_asked ≡ e.shutdown_asked
flush_asked _ _ _ _ _ (at_limit ask e draft) = refl
flush_asked _ _ _ _ _ (at_empty ask more e draft answer is empty) = one_asked ask e draft answer is
flush_asked _ _ _ _ _ (after_packet ask more e draft answer answers is some rest) =
    flush_asked later_ask more (asked_outcome e draft answer).after (next_draft e.core draft) answers rest ∙ one_asked ask e draft answer is

nothing_asked : (e : Endpoint) (begun : Option BegunReset) → begun ≡ None → (after_begun begun e).core ≡ e.core
nothing_asked e begun none = ap (λ (b : Option BegunReset). (after_begun b e).core) none

pub flush_stays : (held : Held) (e : Endpoint) (draft : Emission) (answers : List Answer) → Flows held e → CarriesTo held draft → FlushAnswers e draft answers → Stays held e (flush_of e draft answers)
flush_stays held e draft answers f good allowed =
    let n : ℕ = packets_allowed e.options.max_burst e.core in
    let none : begun_by answers ≡ None = flush_asks_none first_ask n e draft answers allowed f.unpaused in
    let keeps : Keeps (begun_by answers) e (flush_of e draft answers) = flush_keeps first_ask n e draft answers allowed in
    let h : Flushed held (flush_of e draft answers) = flushed first_ask n held e draft answers allowed f.kind none good in
    record {
      core = keeps.core ∙ nothing_asked e (begun_by answers) none;
      options = keeps.options;
      asked = flush_asked first_ask n e draft answers allowed;
      flows = record { kind = h.kind; unpaused = flush_open first_ask n e draft answers allowed f.unpaused };
      tells = h.tells;
      following = keeps.following;
      trying = flush_trying n e draft answers allowed;
    }

-- ---- after a chunk

-- The first packet begins with this chunk, to this tag, and what follows is carried. So are other packets, of which there is none
-- where a COOKIE ACK is awaited.
pub record Fronts (held : Held) (e : Endpoint) (with_checksum : Bool) (tag : ℕ) (front : Content) (o : Outcome) : Type 0 where
  pub core : o.after.core ≡ e.core
  pub options : o.after.options ≡ e.options
  pub asked : o.after.shutdown_asked ≡ e.shutdown_asked
  pub flows : Flows held o.after
  pub following : o.following ≡ next_chunk
  pub trying : KeepsTrying e o.after
  pub told : (n : ℕ) → told_then o.events n ≡ n
  pub more : List Content
  pub carried : AreCarriedFor held more
  pub rest : List Emission
  pub others : AllCarryTo held rest
  pub packets : packets_of_events o.events ≡ record { with_checksum = with_checksum; packet = record { tag = tag; contents = front ∷ more } } ∷ rest
  pub alone : packets_allowed e.options.max_burst e.core ≡ 1 → rest ≡ []

abbrev pub front_draft : Bool → ℕ → Content → Emission
front_draft with_checksum tag front = record { with_checksum = with_checksum; packet = record { tag = tag; contents = front ∷ [] } }

pub record FrontFlushed (held : Held) (with_checksum : Bool) (tag : ℕ) (front : Content) (n : ℕ) (o : Outcome) : Type 0 where
  pub kind : IsOfKind held o.after
  pub told : (k : ℕ) → told_then o.events k ≡ k
  pub more : List Content
  pub carried : AreCarriedFor held more
  pub rest : List Emission
  pub others : AllCarryTo held rest
  pub packets : packets_of_events o.events ≡ record { with_checksum = with_checksum; packet = record { tag = tag; contents = front ∷ more } } ∷ rest
  pub alone : n ≡ 0 → rest ≡ []

none_after : (ask : Ask) (n : ℕ) (e : Endpoint) (draft : Emission) (answers : List Answer) → n ≡ 0 → AreFlushAnswers ask n e draft answers → packets_of_events (flush_of e draft answers).events ≡ []
none_after _ _ _ _ _ none (at_limit ask e draft) = refl
none_after _ _ _ _ _ none (at_empty ask more e draft answer is empty) = absurd (cc)
none_after _ _ _ _ _ none (after_packet ask more e draft answer answers is some rest) = absurd (cc)

front_flushed : (n : ℕ) (held : Held) (e : Endpoint) (with_checksum : Bool) (tag : ℕ) (front : Content) (answers : List Answer) → AreFlushAnswers first_ask (suc n) e (front_draft with_checksum tag front) answers
    → IsOfKind held e → begun_by answers ≡ None → FrontFlushed held with_checksum tag front n (flush_of e (front_draft with_checksum tag front) answers)
front_flushed _ held _ with_checksum tag front _ (at_empty _ more e _ answer is empty) k none = absurd (cc)
front_flushed _ held _ with_checksum tag front _ (after_packet _ more e _ answer answers is some rest) k none =
    let draft : Emission = front_draft with_checksum tag front in
    let asked : Outcome = asked_outcome e draft answer in
    let next : IsOfKind held asked.after = asked_kind first_ask held e draft answer k none is in
    let others : Flushed held (flush_of asked.after (next_draft e.core draft) answers) =
    flushed later_ask more held asked.after (next_draft e.core draft) answers rest next (later_begun more asked.after (next_draft e.core draft) answers rest)
    (subst (CarriesTo held) (sym (next_is e.core held draft k.peer)) (record { checked = refl; header = refl; contents = tt })) in
    let first : Emission = filled_draft draft (answer_contents answer) in
    let after : List (Event Emission) = (flush_of asked.after (next_draft e.core draft) answers).events in
    record {
      kind = others.kind;
      told = λ m. told-append asked.events after m ∙ ap (told_then after) (told_nothing answer.told _ m) ∙ others.tells.told m;
      more = answer_contents answer;
      carried = (answered first_ask held e draft answer k none is).carried;
      rest = packets_of_events after;
      others = others.tells.sent;
      packets = packets_of_events-append asked.events after ∙ ap (λ (ps : List Emission). ps ++ packets_of_events after) (told_packets answer.told _);
      alone = λ none. none_after later_ask more asked.after (next_draft e.core draft) answers none rest;
    }

some_allowed : (z : ℤ) (core : Core) → allows_packet z ≡ true → (n : ℕ) × (packets_allowed z core ≡ suc n)
some_allowed (pos zero) core may = absurd (cc)
some_allowed (pos (suc more)) closed may = (more, refl)
some_allowed (pos (suc more)) (cookie_wait my) may = (more, refl)
some_allowed (pos (suc more)) (cookie_echoed my held cookie) may = (0, refl)
some_allowed (pos (suc more)) (open_in phase my held) may = (more, refl)
some_allowed (negsuc below) core may = absurd (cc)

less : (n : ℕ) → suc n ≡ 1 → n ≡ 0
less n is = omega (arith, is)

pub flush_fronts : (held : Held) (e : Endpoint) (with_checksum : Bool) (tag : ℕ) (front : Content) (answers : List Answer) → allows_packet e.options.max_burst ≡ true → Flows held e
    → FlushAnswers e (front_draft with_checksum tag front) answers → Fronts held e with_checksum tag front (flush_of e (front_draft with_checksum tag front) answers)
flush_fronts held e with_checksum tag front answers may f allowed =
    let draft : Emission = front_draft with_checksum tag front in
    let n : ℕ = packets_allowed e.options.max_burst e.core in
    let none : begun_by answers ≡ None = flush_asks_none first_ask n e draft answers allowed f.unpaused in
    let keeps : Keeps (begun_by answers) e (flush_of e draft answers) = flush_keeps first_ask n e draft answers allowed in
    let m : (m : ℕ) × (n ≡ suc m) = some_allowed e.options.max_burst e.core may in
    let h : FrontFlushed held with_checksum tag front m.0 (flush_of e draft answers) =
    front_flushed m.0 held e with_checksum tag front answers (subst (λ (k : ℕ). AreFlushAnswers first_ask k e draft answers) m.1 allowed) f.kind none in
    record {
      core = keeps.core ∙ nothing_asked e (begun_by answers) none;
      options = keeps.options;
      asked = flush_asked first_ask n e draft answers allowed;
      flows = record { kind = h.kind; unpaused = flush_open first_ask n e draft answers allowed f.unpaused };
      following = keeps.following;
      trying = flush_trying n e draft answers allowed;
      told = h.told;
      more = h.more;
      carried = h.carried;
      rest = h.rest;
      others = h.others;
      packets = h.packets;
      alone = λ one. h.alone (less m.0 (sym m.1 ∙ one));
    }

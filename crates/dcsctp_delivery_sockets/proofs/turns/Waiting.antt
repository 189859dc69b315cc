-- What waits for a reset, where no request of the peer is handled.
use Rattle.dcsctp_spec_lemmas.specs.spec.association.Effect as effects
use Rattle.std.proofs.Common.{◌≡◌, ◌⊎◌, inl, inr, ℕ, Bool, true, false, cond, Option, None, Some, List, [], ◌∷◌, ◌++◌, length, refl, sym, ◌∙◌, subst, ap}
use Rattle.dcsctp_spec_lemmas.specs.types.declared.arrivals.SkippedTo.{SkippedTo}
use Rattle.dcsctp_spec_lemmas.specs.types.declared.word.Word.{Word}
use Rattle.dcsctp_spec_lemmas.specs.spec.endpoint.Endpoint.{Endpoint}
use Rattle.dcsctp_spec_lemmas.specs.spec.endpoint.Event.{Event}
use Rattle.dcsctp_spec_lemmas.specs.spec.endpoint.Outcome.{Outcome, still, quiet, sends, emits, fits, behind}
use Rattle.dcsctp_spec_lemmas.specs.spec.Packet.{Content, Emission}
use Rattle.dcsctp_spec_lemmas.specs.spec.Reconfiguration.{NumberedReset}
use Rattle.dcsctp_spec_lemmas.specs.spec.association.Effect.{Effect}
use Rattle.dcsctp_spec_lemmas.specs.spec.queues.Arrivals.{Arrival}
use Rattle.dcsctp_spec_lemmas.specs.spec.queues.IncomingStreams.{ChunkModel}
use Rattle.dcsctp_spec_lemmas.specs.spec.queues.Reassembly.{DeferralModel, WaitingModel, ReassemblyState, can_count, is_data_deferred, is_forward_deferred, with_waiting, AddsData, SkipsData}
use Rattle.dcsctp_spec_lemmas.specs.spec.queues.Tracker.{is_new_tsn, is_forward, is_valid_tsn}
use Rattle.dcsctp_spec_lemmas.specs.spec.queues.Transfer.{Transfer, EndpointQueues}
use Rattle.dcsctp_spec_lemmas.specs.spec.endpoint.BegunResets.{BegunReset, begun_effects, after_begun}
use Rattle.dcsctp_spec_lemmas.specs.spec.endpoint.EndOutcomes.{ended_outcome}
use Rattle.dcsctp_spec_lemmas.specs.spec.endpoint.FlushOutcomes.{Answer, answer_contents, filled_draft, goes_out, asked_outcome, next_draft, flush_of, FlushAnswers, Ask, first_ask, later_ask, IsAnswerOfQueues, IsFlushAnswer, AreFlushAnswers, at_limit, at_empty, after_packet, packets_allowed}
use Rattle.dcsctp_spec_lemmas.specs.spec.endpoint.TransferMoves.{AddsIfNew, has_room, ReceivesIfRoom, ReceivesData, SkipsIfMoved, MovesIfForward, MovesForward}
use Rattle.dcsctp_spec_lemmas.proofs.FlushKeeps.{begun_by, flush_keeps}
use Rattle.dcsctp_delivery_directions.proofs.sending.Packets.{out_below}
use Rattle.dcsctp_delivery_sockets.specs.turns.PeerRequests.{NoneAsked, SameWaits}
use Rattle.dcsctp_delivery_sockets.proofs.turns.Received.{dropped_is, flush_left}
use Rattle.std.specs.Prelude.{◌&&◌}

-- ---- effects

pub unasked_append : (first later : List Effect) → NoneAsked first → NoneAsked later → NoneAsked (first ++ later)
unasked_append [] later none rest = rest
unasked_append (effects.accepts number ∷ first) later none rest = absurd none
unasked_append (effects.performs peer number ∷ first) later none rest = absurd none
unasked_append (effects.renews peer number ∷ first) later none rest = absurd none
unasked_append (effects.resumes link own last ∷ first) later none rest = absurd none
unasked_append (effect ∷ first) later none rest = unasked_append first later none rest

pub begun_unasked : (begun : Option BegunReset) → NoneAsked (begun_effects begun)
begun_unasked None = tt
begun_unasked (Some begun) = tt

-- ---- what waits

pub same_waits : (deferral : Option DeferralModel) → SameWaits deferral deferral
same_waits None = refl
same_waits (Some deferral) = (deferral, refl, refl)

pub waits_by : (old new : Option DeferralModel) → new ≡ old → SameWaits old new
waits_by old new is = subst (SameWaits old) (sym is) (same_waits old)

pub waits_then : (old between new : Option DeferralModel) → SameWaits old between → SameWaits between new → SameWaits old new
waits_then None None new first second = second
waits_then None (Some between) new first second = absurd (cc)
waits_then (Some old) None new first second = (let is = first.1 in absurd (cc))
waits_then (Some old) (Some between) new first second =
    let is : Some between ≡ Some first.0 = first.1 in
    let same : between ≡ first.0 = cc in
    (second.0, second.1, second.2 ∙ ap (λ (d : DeferralModel). d.last_tsn) same ∙ first.2)

more_waits : (last : WaitingModel) (deferral : Option DeferralModel) → SameWaits deferral (with_waiting last deferral)
more_waits last None = refl
more_waits last (Some deferral) = (record deferral { waiting = deferral.waiting ++ last ∷ [] }, refl, refl)

-- ---- data

abbrev Waits : ReassemblyState → ReassemblyState → Type 0
Waits old new = SameWaits old.deferral new.deferral

waits_as : (old between new : ReassemblyState) → new ≡ between → Waits old between → Waits old new
waits_as old between new is waits = subst (Waits old) (sym is) waits

adds_wait : (tsn : ℕ) (chunk : ChunkModel) (old new : ReassemblyState) (counts defers : Bool) → can_count (length chunk.payload) old ≡ counts → is_data_deferred tsn chunk.stream old.deferral ≡ defers → AddsData tsn chunk old new → Waits old new
adds_wait tsn chunk old new true true counts defers does = waits_as old _ new (does.deferred counts defers) (more_waits (record { tsn = tsn; chunk = chunk }) old.deferral)
adds_wait tsn chunk old new true false counts defers does = waits_by old.deferral new.deferral (does.taken counts defers).deferral
adds_wait tsn chunk old new false defers counts is does = waits_as old old new (does.too_much counts) (same_waits old.deferral)

adds_where_wait : (b : Bool) (tsn : ℕ) (chunk : ChunkModel) (old new : ReassemblyState) → AddsIfNew b tsn chunk old new → Waits old new
adds_where_wait true tsn chunk old new does = adds_wait tsn chunk old new (can_count (length chunk.payload) old) (is_data_deferred tsn chunk.stream old.deferral) refl refl does
adds_where_wait false tsn chunk old new does = waits_as old old new does (same_waits old.deferral)

receives_where_wait : (b : Bool) (arrival : Arrival) (old new : Transfer) → ReceivesIfRoom b arrival old new → Waits old.reassembly new.reassembly
receives_where_wait true arrival old new does = adds_where_wait (is_new_tsn arrival.tsn old.tracker) arrival.tsn arrival.chunk old.reassembly new.reassembly does.reassembly
receives_where_wait false arrival old new does =
    waits_as old.reassembly old.reassembly new.reassembly
    (ap (λ (t : Transfer). t.reassembly) (does ∙ dropped_is (old.tracker.follows_rfc && is_valid_tsn old.tracker.cumulative arrival.tsn) old)) (same_waits old.reassembly.deferral)

pub receives_wait : (arrival : Arrival) (old new : Transfer) → ReceivesData arrival old new → SameWaits old.reassembly.deferral new.reassembly.deferral
receives_wait arrival old new does = receives_where_wait (has_room arrival.tsn old && is_valid_tsn old.tracker.cumulative arrival.tsn) arrival old new does

-- What is skipped on the streams of a reset waits with that.
beside_waits : (tsn : ℕ) (entries : List SkippedTo) (old new : ReassemblyState) (deferral : Option DeferralModel) → old.deferral ≡ deferral → is_forward_deferred tsn old.deferral ≡ true → SkipsData tsn entries old new → Waits old new
beside_waits tsn entries old new None none defers does = absurd (let now : is_forward_deferred tsn old.deferral ≡ false = rw none refl in cc)
beside_waits tsn entries old new (Some waits) is defers does =
    let forwards = does.deferred defers waits is in
    subst (λ (d : Option DeferralModel). SameWaits d new.deferral) (sym is) (_, forwards.deferral, refl)

skips_wait : (tsn : ℕ) (entries : List SkippedTo) (old new : ReassemblyState) (defers : Bool) → is_forward_deferred tsn old.deferral ≡ defers → SkipsData tsn entries old new → Waits old new
skips_wait tsn entries old new true defers does = beside_waits tsn entries old new old.deferral refl defers does
skips_wait tsn entries old new false defers does = waits_by old.deferral new.deferral (does.moved defers).deferral

skips_where_wait : (b : Bool) (tsn : ℕ) (entries : List SkippedTo) (old new : ReassemblyState) → SkipsIfMoved b tsn entries old new → Waits old new
skips_where_wait true tsn entries old new does = skips_wait tsn entries old new (is_forward_deferred tsn old.deferral) refl does
skips_where_wait false tsn entries old new does = waits_as old old new does (same_waits old.deferral)

moves_where_wait : (b : Bool) (tsn : ℕ) (entries : List SkippedTo) (old new : Transfer) → MovesIfForward b tsn entries old new → Waits old.reassembly new.reassembly
moves_where_wait true tsn entries old new does = skips_where_wait (is_forward old.tracker.cumulative tsn) tsn entries old.reassembly new.reassembly does.reassembly
moves_where_wait false tsn entries old new does = waits_as old.reassembly old.reassembly new.reassembly (ap (λ (t : Transfer). t.reassembly) does) (same_waits old.reassembly.deferral)

pub moves_wait : (tsn : ℕ) (entries : List SkippedTo) (old new : Transfer) → MovesForward tsn entries old new → SameWaits old.reassembly.deferral new.reassembly.deferral
moves_wait tsn entries old new does = moves_where_wait (is_valid_tsn old.tracker.cumulative tsn) tsn entries old new does

-- ---- below an association

-- It waited for the same before, and there was one.
abbrev pub WaitedIn : Option Transfer → Transfer → Type 0
WaitedIn None left = ⊥
WaitedIn (Some transfer) left = SameWaits transfer.reassembly.deferral left.reassembly.deferral

-- So it is if there is one still.
abbrev pub StillWaits : Option Transfer → Option Transfer → Type 0
StillWaits old new = (left : Transfer) → new ≡ Some left → WaitedIn old left

pub some_wait : (found : Option Transfer) (transfer new : Transfer) → found ≡ Some transfer → SameWaits transfer.reassembly.deferral new.reassembly.deferral → StillWaits found (Some new)
some_wait found transfer new known waits =
    subst (λ (f : Option Transfer). StillWaits f (Some new)) (sym known)
    (λ left is. let same : new ≡ left = cc in subst (λ (t : Transfer). SameWaits transfer.reassembly.deferral t.reassembly.deferral) same waits)

pub all_wait : (found : Option Transfer) → StillWaits found found
all_wait None = λ left is. absurd (cc)
all_wait (Some transfer) = some_wait (Some transfer) transfer transfer refl (same_waits transfer.reassembly.deferral)

waited_in : (old : Option Transfer) (between left : Transfer) → WaitedIn old between → SameWaits between.reassembly.deferral left.reassembly.deferral → WaitedIn old left
waited_in None between left first second = absurd first
waited_in (Some transfer) between left first second = waits_then transfer.reassembly.deferral between.reassembly.deferral left.reassembly.deferral first second

pub wait_then : (old between new : Option Transfer) → StillWaits old between → StillWaits between new → StillWaits old new
wait_then old None new first second = λ left is. absurd (second left is)
wait_then old (Some between) new first second = λ left is. waited_in old between left (first between refl) (second left is)

-- ---- a flush

-- Without an association it leaves none.
answered_none : (ask : Ask) (e : Endpoint) (draft : Emission) (found : Option Transfer) (answer : Answer) → e.queues.transfer ≡ None → found ≡ None → IsAnswerOfQueues ask e draft answer found → answer.after.queues.transfer ≡ None
answered_none ask e draft None answer none is does = ap (λ (a : Answer). a.after.queues.transfer) does ∙ none
answered_none ask e draft (Some transfer) answer none is does = absurd (cc)

asked_none : (ask : Ask) (e : Endpoint) (draft : Emission) (answer : Answer) → e.queues.transfer ≡ None → IsFlushAnswer ask e draft answer → (asked_outcome e draft answer).after.queues.transfer ≡ None
asked_none ask e draft answer none does =
    ap (λ (b : EndpointQueues). b.transfer) (out_below answer.after _ draft.with_checksum draft.packet.tag (filled_draft draft (answer_contents answer)).packet.contents)
    ∙ answered_none ask e draft e.queues.transfer answer none none does.by_transfer

flush_none : (ask : Ask) (n : ℕ) (e : Endpoint) (draft : Emission) (answers : List Answer) → e.queues.transfer ≡ None → AreFlushAnswers ask n e draft answers → (flush_of e draft answers).after.queues.transfer ≡ None
flush_none _ _ _ _ _ none (at_limit ask e draft) = none
flush_none _ _ _ _ _ none (at_empty ask more e draft answer does empty) = asked_none ask e draft answer none does
flush_none _ _ _ _ _ none (after_packet ask more e draft answer answers does some rest) =
    flush_none later_ask more (asked_outcome e draft answer).after (next_draft e.core draft) answers (asked_none ask e draft answer none does) rest

flush_waits : (found : Option Transfer) (e : Endpoint) (draft : Emission) (answers : List Answer) → e.queues.transfer ≡ found → FlushAnswers e draft answers → StillWaits found (flush_of e draft answers).after.queues.transfer
flush_waits None e draft answers known allowed =
    λ left is. let none : (flush_of e draft answers).after.queues.transfer ≡ None = flush_none first_ask (packets_allowed e.options.max_burst e.core) e draft answers known allowed in absurd (cc)
flush_waits (Some transfer) e draft answers known allowed =
    let kept = flush_left first_ask (packets_allowed e.options.max_burst e.core) e draft answers transfer known allowed in
    subst (StillWaits (Some transfer)) (sym kept.is)
    (some_wait (Some transfer) transfer kept.left refl (waits_by transfer.reassembly.deferral kept.left.reassembly.deferral (ap (λ (r : ReassemblyState). r.deferral) kept.same.reassembly)))

-- ---- what is renewable

-- It stays, or there is none any more.
abbrev pub StaysOrNone : Option NumberedReset → Option NumberedReset → Type 0
StaysOrNone old new = (new ≡ old) ⊎ (new ≡ None)

pub stays_then : (old between new : Option NumberedReset) → StaysOrNone old between → StaysOrNone between new → StaysOrNone old new
stays_then old between new first (inr none) = inr none
stays_then old between new (inl same) (inl alike) = inl (alike ∙ same)
stays_then old between new (inr none) (inl alike) = inr (alike ∙ none)

pub out_renewable : (e : Endpoint) (told : List (Event Emission)) (with_checksum : Bool) (tag : ℕ) (contents : List Content) → (goes_out e told with_checksum tag contents).after.renewable ≡ e.renewable
out_renewable e told with_checksum tag [] = refl
out_renewable e told with_checksum tag (content ∷ contents) = refl

begun_renewable : (begun : Option BegunReset) (e : Endpoint) → (after_begun begun e).renewable ≡ e.renewable
begun_renewable None e = refl
begun_renewable (Some begun) e = refl

asked_renewable : (ask : Ask) (e : Endpoint) (draft : Emission) (answer : Answer) → IsFlushAnswer ask e draft answer → (asked_outcome e draft answer).after.renewable ≡ e.renewable
asked_renewable ask e draft answer does =
    out_renewable answer.after _ draft.with_checksum draft.packet.tag (filled_draft draft (answer_contents answer)).packet.contents
    ∙ ap (λ (x : Endpoint). x.renewable) does.kept ∙ begun_renewable answer.begun e

-- A flush leaves it.
pub flush_renewable : (ask : Ask) (n : ℕ) (e : Endpoint) (draft : Emission) (answers : List Answer) → AreFlushAnswers ask n e draft answers → (flush_of e draft answers).after.renewable ≡ e.renewable
flush_renewable _ _ _ _ _ (at_limit ask e draft) = refl
flush_renewable _ _ _ _ _ (at_empty ask more e draft answer does empty) = asked_renewable ask e draft answer does
flush_renewable _ _ _ _ _ (after_packet ask more e draft answer answers does some rest) =
    flush_renewable later_ask more (asked_outcome e draft answer).after (next_draft e.core draft) answers rest ∙ asked_renewable ask e draft answer does

-- ---- outcomes

-- No request of the peer is accepted or performed, what waits for one in this waits for it still, and what was renewable stays, or
-- there is none any more.
pub record AsksNothing (found : Option Transfer) (old : Option NumberedReset) (o : Outcome) : Type 0 where
  pub none : NoneAsked o.effects
  pub waits : StillWaits found o.after.queues.transfer
  pub renews : StaysOrNone old o.after.renewable

-- as this outcome
pub as_this : (found : Option Transfer) (old : Option NumberedReset) (o this : Outcome) → o ≡ this → AsksNothing found old this → AsksNothing found old o
as_this found old o this is asks = subst (AsksNothing found old) (sym is) asks

pub rests : (e : Endpoint) → AsksNothing e.queues.transfer e.renewable (still e)
rests e = record { none = tt; waits = all_wait e.queues.transfer; renews = inl refl }

-- Nothing is asked, and what is below stays.
pub said : (e : Endpoint) (o : Outcome) → NoneAsked o.effects → o.after.queues ≡ e.queues → o.after.renewable ≡ e.renewable → AsksNothing e.queues.transfer e.renewable o
said e o none same alike =
    record { none = none; waits = subst (λ (b : EndpointQueues). StillWaits e.queues.transfer b.transfer) (sym same) (all_wait e.queues.transfer); renews = inl alike }

packet_if : (b : Bool) (e : Endpoint) (words : List Word) (emission : Emission) → AsksNothing e.queues.transfer e.renewable (cond b (sends e words [] emission) (quiet e words []))
packet_if true e words emission = record { none = tt; waits = all_wait e.queues.transfer; renews = inl refl }
packet_if false e words emission = record { none = tt; waits = all_wait e.queues.transfer; renews = inl refl }

pub emitted : (e : Endpoint) (words : List Word) (emission : Emission) → AsksNothing e.queues.transfer e.renewable (emits e words emission)
emitted e words emission = packet_if (fits e emission) e words emission

pub flushed : (e : Endpoint) (draft : Emission) (answers : List Answer) → FlushAnswers e draft answers → AsksNothing e.queues.transfer e.renewable (flush_of e draft answers)
flushed e draft answers allowed =
    record {
      none = subst NoneAsked (sym (flush_keeps first_ask (packets_allowed e.options.max_burst e.core) e draft answers allowed).effects) (begun_unasked (begun_by answers));
      waits = flush_waits e.queues.transfer e draft answers refl allowed;
      renews = inl (flush_renewable first_ask (packets_allowed e.options.max_burst e.core) e draft answers allowed);
    }

pub flushed_behind : (e : Endpoint) (words : List Word) (told : List (Event Emission)) (draft : Emission) (answers : List Answer) → FlushAnswers e draft answers
    → AsksNothing e.queues.transfer e.renewable (behind words told (flush_of e draft answers))
flushed_behind e words told draft answers allowed = (let last = flushed e draft answers allowed in record { none = last.none; waits = last.waits; renews = last.renews })

pub ended : (found : Option Transfer) (old : Option NumberedReset) (before : Outcome) (event : Event Emission) → NoneAsked before.effects → AsksNothing found old (ended_outcome before event)
ended found old before event none = record { none = unasked_append before.effects (effects.ends ∷ []) none tt; waits = λ left is. absurd (cc); renews = inr refl }

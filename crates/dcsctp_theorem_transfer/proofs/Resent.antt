-- What a flush after the expiry of T3 sends first is data alone, of what is outstanding once it is over.
use Rattle.std.proofs.Common.{◌≡◌, ◌%◌, ◌+◌, ◌^◌, ℕ, suc, Bool, true, Option, None, Some, List, [], ◌∷◌, ◌++◌, map, append_assoc, refl, sym, ap, ◌∙◌, subst, arith}
use Rattle.dcsctp_spec_lemmas.specs.types.declared.association.Held.{Held}
use Rattle.dcsctp_spec_lemmas.specs.spec.Packet.{Content, Plain, unworked, Emission}
use Rattle.dcsctp_spec_lemmas.specs.spec.association.Choices.{plain_contents}
use Rattle.dcsctp_spec_lemmas.specs.spec.endpoint.BegunResets.{BegunReset, core_asking, after_begun}
use Rattle.dcsctp_spec_lemmas.specs.spec.endpoint.DataOutcomes.{AnswersTo, FlushTurn, flush_to_peer}
use Rattle.dcsctp_spec_lemmas.specs.spec.endpoint.Endpoint.{Endpoint, Core, closed, cookie_wait, cookie_echoed, open_in, held_by_core}
use Rattle.dcsctp_spec_lemmas.specs.spec.endpoint.Event.{Event, sent, packets_of_events}
use Rattle.dcsctp_spec_lemmas.specs.spec.endpoint.FlushOutcomes.{Ask, first_ask, FillingEvent, filling_event, Answer, answer_contents, filled_draft, goes_out, asked_outcome, draft_to, next_draft, flush_of, packets_allowed, allows_packet, IsFlushAnswer, AreFlushAnswers, at_limit, at_empty, after_packet}
use Rattle.dcsctp_spec_lemmas.specs.spec.endpoint.Outcome.{Outcome}
use Rattle.dcsctp_spec_lemmas.specs.spec.queues.Chunks.{chunk_said, IsChunkOfItem, AreChunksOfTsns}
use Rattle.dcsctp_spec_lemmas.specs.spec.queues.Outstanding.{OutstandingState, tsn_at}
use Rattle.dcsctp_spec_lemmas.specs.spec.queues.Sending.{Fragment}
use Rattle.dcsctp_spec_lemmas.specs.spec.queues.Transfer.{Transfer}
use Rattle.dcsctp_spec_lemmas.proofs.FlushKeeps.{Keeps, begun_by, flush_keeps}
use Rattle.dcsctp_theorem_transfer.specs.Deadlines.{IsOpen}
use Rattle.dcsctp_theorem_transfer.proofs.Extending.{StaysThere, Extends, extends_itself}
use Rattle.dcsctp_theorem_transfer.proofs.Hearing.{StillHas, out_stays, flush_stays}
use Rattle.dcsctp_theorem_transfer.proofs.PacketEnds.{told_none, allowed_some}
use Rattle.dcsctp_theorem_transfer.proofs.ResendingFlush.{Asks, SentAlone, DataFirst, sent_first, answer_alone}

-- ---- the packet

-- The first of these packets holds these chunks, and no others.
pub record HoldsFirst (contents : List Content) (packets : List Emission) : Type 0 where
  pub first : Emission
  pub others : List Emission
  pub are : packets ≡ first ∷ others
  pub is : first.packet.contents ≡ contents

-- It is out, and these events follow.
pub record OutThen (contents : List Content) (rest : List (Event Emission)) (packets : List Emission) : Type 0 where
  pub first : Emission
  pub are : packets ≡ first ∷ packets_of_events rest
  pub is : first.packet.contents ≡ contents

pub out_then : (e : Endpoint) (told : List FillingEvent) (with_checksum : Bool) (tag : ℕ) (contents : List Content) (content : Content) (more : List Content) (rest : List (Event Emission)) → contents ≡ content ∷ more
    → OutThen contents rest (packets_of_events ((goes_out e (map filling_event told) with_checksum tag contents).events ++ rest))
out_then e told with_checksum tag [] content more rest some = absurd (cc)
out_then e told with_checksum tag (one ∷ contents) content more rest some =
    let emission : Emission = record { with_checksum = with_checksum; packet = record { tag = tag; contents = one ∷ contents } } in
    record {
      first = emission;
      are = ap packets_of_events (append_assoc (map filling_event told) (sent emission ∷ []) rest) ∙ told_none told (sent emission ∷ rest);
      is = refl;
    }

-- ---- what is still outstanding

-- It is still the chunk of an item.
chunk_extends : (old new : OutstandingState) (tsn : ℕ) (chunk : Plain) → Extends old new → IsChunkOfItem old tsn chunk → IsChunkOfItem new tsn chunk
chunk_extends old new tsn chunk extends of =
    let there : StaysThere new.items of.place of.item = extends.items of.place of.item of.at in
    record {
      place = of.place;
      item = there.item;
      at = there.at;
      is = of.is ∙ ap (λ (first : ℕ). (first + of.place) % 2 ^ 32) (sym extends.first);
      says = of.says ∙ ap (λ (kind : Bool). unworked (chunk_said kind tsn of.item.fragment)) (sym extends.kind)
          ∙ ap (λ (part : Fragment). unworked (chunk_said new.is_interleaved tsn part)) (sym there.same.fragment);
    }

pub chunks_extend : (old new : OutstandingState) (tsns : List ℕ) (chunks : List Plain) → Extends old new → AreChunksOfTsns old tsns chunks → AreChunksOfTsns new tsns chunks
chunks_extend old new [] [] extends are = tt
chunks_extend old new [] (chunk ∷ chunks) extends are = absurd are
chunks_extend old new (tsn ∷ tsns) [] extends are = absurd are
chunks_extend old new (tsn ∷ tsns) (chunk ∷ chunks) extends are = (chunk_extends old new tsn chunk extends are.0, chunks_extend old new tsns chunks extends are.1)

-- ---- the flush

-- The first packet is data alone, from this TSN on. All that was outstanding before still is, and the association is open.
pub record SendsAlone (tsn : ℕ) (old : OutstandingState) (o : Outcome) : Type 0 where
  pub left : Transfer
  pub has : o.after.queues.transfer ≡ Some left
  pub extends : Extends old left.retransmission.outstanding
  pub later : List ℕ
  pub chunks : List Plain
  pub are : AreChunksOfTsns left.retransmission.outstanding (tsn ∷ later) chunks
  pub holds : HoldsFirst (plain_contents chunks) (packets_of_events o.events)

-- The endpoint after the flush, by what was outstanding before it and once the first packet was filled.
alone_by : (tsn : ℕ) (old : OutstandingState) (answer : Answer) (o : Outcome) (errors others : ℕ) → (alone : SentAlone tsn answer) → HoldsFirst (answer_contents answer) (packets_of_events o.events)
    → StillHas old errors o.after → StillHas alone.left.retransmission.outstanding others o.after → SendsAlone tsn old o
alone_by tsn old answer o errors others alone holds before since =
    let both : Some before.left ≡ Some since.left = sym before.has ∙ since.has in
    let same : since.left ≡ before.left = cc in
    let extends : Extends alone.left.retransmission.outstanding before.left.retransmission.outstanding =
    subst (λ (t : Transfer). Extends alone.left.retransmission.outstanding t.retransmission.outstanding) same since.extends in
    record {
      left = before.left;
      has = before.has;
      extends = before.extends;
      later = alone.later;
      chunks = answer.data_chunks;
      are = chunks_extend alone.left.retransmission.outstanding before.left.retransmission.outstanding (tsn ∷ alone.later) answer.data_chunks extends alone.are;
      holds = subst (λ (contents : List Content). HoldsFirst contents (packets_of_events o.events)) alone.alone holds;
    }

still_alone : (tsn : ℕ) (e : Endpoint) (draft : Emission) (answer : Answer) (alone : SentAlone tsn answer) → StillHas alone.left.retransmission.outstanding answer.after.error_count (asked_outcome e draft answer).after
still_alone tsn e draft answer alone =
    out_stays alone.left.retransmission.outstanding answer.after.error_count answer.after (map filling_event answer.told) draft.with_checksum draft.packet.tag (filled_draft draft (answer_contents answer)).packet.contents
    (record { left = alone.left; has = alone.has; extends = extends_itself alone.left.retransmission.outstanding; errors_are = refl })

asked_holds : (tsn : ℕ) (e : Endpoint) (held : Held) (answer : Answer) (rest : List (Event Emission)) → SentAlone tsn answer
    → HoldsFirst (answer_contents answer) (packets_of_events ((asked_outcome e (draft_to held) answer).events ++ rest))
asked_holds tsn e held answer rest alone =
    let first : DataFirst tsn (answer_contents answer) = sent_first tsn answer alone in
    let out : OutThen (answer_contents answer) rest (packets_of_events ((asked_outcome e (draft_to held) answer).events ++ rest)) =
    out_then answer.after answer.told (draft_to held).with_checksum held.peer.tag (answer_contents answer) _ first.more rest first.is in
    record { first = out.first; others = packets_of_events rest; are = out.are; is = out.is }

flush_alone : (ask : Ask) (n count : ℕ) (e : Endpoint) (draft : Emission) (answers : List Answer) (held : Held) (t : Transfer) (place : ℕ) → ask ≡ first_ask → n ≡ suc count → draft ≡ draft_to held
    → e.queues.transfer ≡ Some t → Asks e t place → AreFlushAnswers ask n e draft answers → StillHas t.retransmission.outstanding e.error_count (flush_of e draft answers).after
    → SendsAlone (tsn_at t.retransmission.outstanding place) t.retransmission.outstanding (flush_of e draft answers)
flush_alone _ _ count _ _ _ held t place first some is has asks (at_limit ask e draft) still = absurd (omega (arith, some))
flush_alone _ _ count _ _ _ held t place first some is has asks (at_empty ask before e draft answer given empty) still =
    let tsn : ℕ = tsn_at t.retransmission.outstanding place in
    let answered : IsFlushAnswer first_ask e (draft_to held) answer = subst (λ (d : Emission). IsFlushAnswer first_ask e d answer) is (subst (λ (a : Ask). IsFlushAnswer a e draft answer) first given) in
    let alone : SentAlone tsn answer = answer_alone e held t place answer e.queues.transfer has asks answered.by_transfer in
    alone_by tsn t.retransmission.outstanding answer (flush_of e draft (answer ∷ [])) e.error_count answer.after.error_count alone
    (subst (λ (d : Emission). HoldsFirst (answer_contents answer) (packets_of_events (flush_of e d (answer ∷ [])).events)) (sym is) (asked_holds tsn e held answer [] alone))
    still (still_alone tsn e draft answer alone)
flush_alone _ _ count _ _ _ held t place first some is has asks (after_packet ask before e draft answer answers given sends rest) still =
    let tsn : ℕ = tsn_at t.retransmission.outstanding place in
    let answered : IsFlushAnswer first_ask e (draft_to held) answer = subst (λ (d : Emission). IsFlushAnswer first_ask e d answer) is (subst (λ (a : Ask). IsFlushAnswer a e draft answer) first given) in
    let alone : SentAlone tsn answer = answer_alone e held t place answer e.queues.transfer has asks answered.by_transfer in
    alone_by tsn t.retransmission.outstanding answer (flush_of e draft (answer ∷ answers)) e.error_count answer.after.error_count alone
    (subst (λ (d : Emission). HoldsFirst (answer_contents answer) (packets_of_events (flush_of e d (answer ∷ answers)).events)) (sym is)
    (asked_holds tsn e held answer (flush_of (asked_outcome e (draft_to held) answer).after (next_draft e.core (draft_to held)) answers).events alone))
    still
    (flush_stays _ before (asked_outcome e draft answer).after (next_draft e.core draft) answers alone.left.retransmission.outstanding answer.after.error_count (still_alone tsn e draft answer alone) rest)

pub open_begun : (begun : Option BegunReset) (e : Endpoint) → IsOpen e.core → IsOpen (after_begun begun e).core
open_begun None e is = is
open_begun (Some begun) e is = go e.core is
  where
    go : (core : Core) → IsOpen core → IsOpen (core_asking core)
    go closed opened = absurd opened
    go (cookie_wait my) opened = absurd opened
    go (cookie_echoed my held cookie) opened = absurd opened
    go (open_in phase my held) opened = tt

-- What the turn of the flush leaves.
pub record FlushesAlone (tsn : ℕ) (old : OutstandingState) (o : Outcome) : Type 0 where
  pub sends : SendsAlone tsn old o
  pub is_open : IsOpen o.after.core

to_peer_alone : (e : Endpoint) (peer : Option Held) (answers : List Answer) (t : Transfer) (place : ℕ) → held_by_core e.core ≡ peer → IsOpen e.core → allows_packet e.options.max_burst ≡ true → e.queues.transfer ≡ Some t
    → Asks e t place → AnswersTo e peer answers → FlushesAlone (tsn_at t.retransmission.outstanding place) t.retransmission.outstanding (flush_to_peer e peer answers)
to_peer_alone e None answers t place known is allows has asks allowed = absurd (no_peer e.core known is)
  where
    no_peer : (core : Core) → held_by_core core ≡ None → IsOpen core → ⊥
    no_peer closed nobody opened = opened
    no_peer (cookie_wait my) nobody opened = opened
    no_peer (cookie_echoed my held cookie) nobody opened = opened
    no_peer (open_in phase my held) nobody opened = absurd (cc)
to_peer_alone e (Some held) answers t place known is allows has asks allowed =
    let some = allowed_some e.options.max_burst e.core allows in
    let kept : Keeps (begun_by answers) e (flush_of e (draft_to held) answers) = flush_keeps first_ask (packets_allowed e.options.max_burst e.core) e (draft_to held) answers allowed in
    let still : StillHas t.retransmission.outstanding e.error_count (flush_of e (draft_to held) answers).after =
    flush_stays first_ask (packets_allowed e.options.max_burst e.core) e (draft_to held) answers t.retransmission.outstanding e.error_count
    (record { left = t; has = has; extends = extends_itself t.retransmission.outstanding; errors_are = refl }) allowed in
    record {
      sends = flush_alone first_ask (packets_allowed e.options.max_burst e.core) some.0 e (draft_to held) answers held t place refl some.1 refl has asks allowed still;
      is_open = subst IsOpen (sym kept.core) (open_begun (begun_by answers) e is);
    }

pub flushes_alone : (e : Endpoint) (o : Outcome) (t : Transfer) (place : ℕ) → FlushTurn e o → IsOpen e.core → allows_packet e.options.max_burst ≡ true → e.queues.transfer ≡ Some t → Asks e t place
    → FlushesAlone (tsn_at t.retransmission.outstanding place) t.retransmission.outstanding o
flushes_alone e o t place turn is allows has asks =
    subst (FlushesAlone (tsn_at t.retransmission.outstanding place) t.retransmission.outstanding) (sym turn.2) (to_peer_alone e (held_by_core e.core) turn.0 t place refl is allows has asks turn.1)

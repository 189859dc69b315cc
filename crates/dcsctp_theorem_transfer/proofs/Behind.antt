-- A flush after the expiry of T3 sends the lowest outstanding TSN in its first packet, or in its second one if a SACK is in front.
use Rattle.std.proofs.Common.{◌≡◌, ◌≤◌, ◌-◌, ℕ, suc, Bool, Option, None, Some, List, [], ◌∷◌, ◌++◌, map, refl, sym, ap, ◌∙◌, subst, arith}
use Rattle.std.specs.List.{AllByRecursion}
use Rattle.dcsctp_spec_lemmas.specs.types.Settings.{packet_size_limit}
use Rattle.dcsctp_spec_lemmas.specs.types.declared.association.Held.{Held}
use Rattle.dcsctp_spec_lemmas.specs.types.declared.association.Pair.{Pair}
use Rattle.dcsctp_spec_lemmas.specs.types.declared.options.Options.{Options}
use Rattle.dcsctp_spec_lemmas.specs.wire.Content.{SackContent, sack_chunk}
use Rattle.dcsctp_spec_lemmas.specs.spec.Packet.{Content, Plain, plain, unworked, Emission}
use Rattle.dcsctp_spec_lemmas.specs.spec.association.Choices.{plain_contents}
use Rattle.dcsctp_spec_lemmas.specs.spec.endpoint.DataOutcomes.{AnswersTo, FlushTurn, flush_to_peer}
use Rattle.dcsctp_spec_lemmas.specs.spec.endpoint.Endpoint.{Endpoint, Core, closed, cookie_wait, cookie_echoed, open_in, OpenPhase, held_by_core}
use Rattle.dcsctp_spec_lemmas.specs.spec.endpoint.Event.{Event, packets_of_events}
use Rattle.dcsctp_spec_lemmas.specs.spec.endpoint.FlushOutcomes.{Ask, first_ask, later_ask, filling_event, Answer, answer_contents, filled_draft, goes_out, asked_outcome, draft_to, next_draft, flush_of, packets_allowed, IsFlushAnswer, AreFlushAnswers, at_limit, at_empty, after_packet}
use Rattle.dcsctp_spec_lemmas.specs.spec.endpoint.Outcome.{Outcome}
use Rattle.dcsctp_spec_lemmas.specs.spec.queues.Chunks.{AreChunksOfTsns}
use Rattle.dcsctp_spec_lemmas.specs.spec.queues.Items.{item_size}
use Rattle.dcsctp_spec_lemmas.specs.spec.queues.NextItem.{IsNextMarked}
use Rattle.dcsctp_spec_lemmas.specs.spec.queues.Outstanding.{OutstandingState, header, tsn_at}
use Rattle.dcsctp_spec_lemmas.specs.spec.queues.Retransmission.{can_send}
use Rattle.dcsctp_spec_lemmas.specs.spec.queues.Transfer.{Transfer, EndpointQueues}
use Rattle.dcsctp_spec_lemmas.proofs.FlushKeeps.{Keeps, asked_keeps, begun_by, flush_keeps}
use Rattle.dcsctp_theorem_transfer.specs.Deadlines.{IsOpen}
use Rattle.dcsctp_theorem_transfer.specs.Recovering.{IsAmongFirst, is_first, is_second}
use Rattle.dcsctp_theorem_transfer.specs.Resending.{IsLasting}
use Rattle.dcsctp_theorem_transfer.proofs.Along.{AsksAlong, AreSacks, no_sack, one_sack, SentAlong}
use Rattle.dcsctp_theorem_transfer.proofs.Extending.{Extends, extends_itself}
use Rattle.dcsctp_theorem_transfer.proofs.Hearing.{StillHas, out_stays, flush_stays}
use Rattle.dcsctp_theorem_transfer.proofs.Resent.{OutThen, out_then, chunks_extend, open_begun}
use Rattle.dcsctp_theorem_transfer.proofs.GivingAlong.{GivesAlong, with_data, sack_alone, answer_along}

-- ---- packets

-- One of the first two packets has the data from this TSN on, behind a SACK at most. All that was outstanding before still is.
pub record SendsBehind (tsn : ℕ) (old : OutstandingState) (o : Outcome) : Type 0 where
  pub left : Transfer
  pub has : o.after.queues.transfer ≡ Some left
  pub extends : Extends old left.retransmission.outstanding
  pub later : List ℕ
  pub chunks : List Plain
  pub are : AreChunksOfTsns left.retransmission.outstanding (tsn ∷ later) chunks
  pub sacks : List Plain
  pub at_most : AreSacks sacks
  pub packet : Emission
  pub there : IsAmongFirst packet (packets_of_events o.events)
  pub contents : packet.packet.contents ≡ plain_contents sacks ++ plain_contents chunks

-- A packet has a chunk.
record HasChunk (contents : List Content) : Type 0 where
  chunk : Content
  more : List Content
  is : contents ≡ chunk ∷ more

data_some : (outstanding : OutstandingState) (tsn : ℕ) (later : List ℕ) (sacks chunks : List Plain) → AreSacks sacks → AreChunksOfTsns outstanding (tsn ∷ later) chunks
    → HasChunk (plain_contents sacks ++ plain_contents chunks)
data_some outstanding tsn later _ [] no_sack are = absurd are
data_some outstanding tsn later _ (chunk ∷ chunks) no_sack are = record { chunk = plain chunk; more = plain_contents chunks; is = refl }
data_some outstanding tsn later _ chunks (one_sack sack) are = record { chunk = plain (unworked (sack_chunk sack)); more = plain_contents chunks; is = refl }

along_some : (tsn : ℕ) (sacks : List Plain) (answer : Answer) → AreSacks sacks → (along : SentAlong tsn sacks answer) → HasChunk (answer_contents answer)
along_some tsn sacks answer few along =
    subst HasChunk (sym along.contents) (data_some along.left.retransmission.outstanding tsn along.later sacks answer.data_chunks few along.are)

out_asked : (e : Endpoint) (held : Held) (answer : Answer) (rest : List (Event Emission)) → HasChunk (answer_contents answer)
    → OutThen (answer_contents answer) rest (packets_of_events ((asked_outcome e (draft_to held) answer).events ++ rest))
out_asked e held answer rest some = out_then answer.after answer.told (draft_to held).with_checksum held.peer.tag (answer_contents answer) some.chunk some.more rest some.is

out_queues : (e : Endpoint) (told : List (Event Emission)) (with_checksum : Bool) (tag : ℕ) (contents : List Content) → (goes_out e told with_checksum tag contents).after.queues ≡ e.queues
out_queues e told with_checksum tag [] = refl
out_queues e told with_checksum tag (content ∷ contents) = refl

asked_has : (e : Endpoint) (held : Held) (answer : Answer) (t : Transfer) → answer.after.queues.transfer ≡ Some t → (asked_outcome e (draft_to held) answer).after.queues.transfer ≡ Some t
asked_has e held answer t has =
    ap (λ (q : EndpointQueues). q.transfer) (out_queues answer.after (map filling_event answer.told) (draft_to held).with_checksum held.peer.tag (filled_draft (draft_to held) (answer_contents answer)).packet.contents) ∙ has

-- ---- once the packet with the data is out

-- by what was outstanding once it was filled
behind_by : (tsn : ℕ) (old : OutstandingState) (answer : Answer) (o : Outcome) (errors others : ℕ) (sacks : List Plain) (packet : Emission) → AreSacks sacks → (along : SentAlong tsn sacks answer)
    → IsAmongFirst packet (packets_of_events o.events) → packet.packet.contents ≡ answer_contents answer → StillHas old errors o.after → StillHas along.left.retransmission.outstanding others o.after
    → SendsBehind tsn old o
behind_by tsn old answer o errors others sacks packet few along there is before since =
    let both : Some before.left ≡ Some since.left = sym before.has ∙ since.has in
    let same : since.left ≡ before.left = cc in
    let extends : Extends along.left.retransmission.outstanding before.left.retransmission.outstanding =
    subst (λ (t : Transfer). Extends along.left.retransmission.outstanding t.retransmission.outstanding) same since.extends in
    record {
      left = before.left;
      has = before.has;
      extends = before.extends;
      later = along.later;
      chunks = answer.data_chunks;
      are = chunks_extend along.left.retransmission.outstanding before.left.retransmission.outstanding (tsn ∷ along.later) answer.data_chunks extends along.are;
      sacks = sacks;
      at_most = few;
      packet = packet;
      there = there;
      contents = is ∙ along.contents;
    }

still_along : (tsn : ℕ) (sacks : List Plain) (e : Endpoint) (held : Held) (answer : Answer) (along : SentAlong tsn sacks answer)
    → StillHas along.left.retransmission.outstanding answer.after.error_count (asked_outcome e (draft_to held) answer).after
still_along tsn sacks e held answer along =
    out_stays along.left.retransmission.outstanding answer.after.error_count answer.after (map filling_event answer.told) (draft_to held).with_checksum held.peer.tag
    (filled_draft (draft_to held) (answer_contents answer)).packet.contents
    (record { left = along.left; has = along.has; extends = extends_itself along.left.retransmission.outstanding; errors_are = refl })

-- ---- the second packet

-- What it is asked for, where a SACK went alone.
asks_then : (e now : Endpoint) (t left : Transfer) (place : ℕ) → AsksAlong first_ask e t place → now.options ≡ e.options → left.retransmission.outstanding ≡ t.retransmission.outstanding
    → can_send left.retransmission ≡ can_send t.retransmission → AsksAlong later_ask now left place
asks_then e now t left place asks options same sends =
    let there = subst (λ (o : OutstandingState). (next : IsNextMarked place o.items) × (item_size (header o) next.marked.item ≤ packet_size_limit now.options - 12)) (sym same)
    (asks.next, subst (λ (x : Options). item_size (header t.retransmission.outstanding) asks.next.marked.item ≤ packet_size_limit x - 12) (sym options) asks.fits) in
    record {
      quiet = tt;
      lasting = subst (λ (o : OutstandingState). AllByRecursion IsLasting o.items) (sym same) asks.lasting;
      next = there.0;
      may = sends ∙ asks.may;
      fits = there.1;
    }

among_first : (packet : Emission) (packets others : List Emission) → packets ≡ packet ∷ others → IsAmongFirst packet packets
among_first packet packets others is = subst (IsAmongFirst packet) (sym is) (is_first others)

among_second : (one packet : Emission) (sack : SackContent) (packets others : List Emission) → one.packet.contents ≡ plain (unworked (sack_chunk sack)) ∷ [] → packets ≡ one ∷ (packet ∷ others)
    → IsAmongFirst packet packets
among_second one packet sack packets others alone is = subst (IsAmongFirst packet) (sym is) (is_second one sack alone others)

-- A flush of at least one more packet, once a SACK went alone before these.
second_behind : (tsn : ℕ) (old : OutstandingState) (before : Outcome) (first : Emission) (sack : SackContent) (ask : Ask) (n count : ℕ) (e : Endpoint) (draft : Emission) (answers : List Answer) (held : Held) (t : Transfer) (place errors : ℕ)
    → first.packet.contents ≡ plain (unworked (sack_chunk sack)) ∷ [] → ask ≡ later_ask → n ≡ suc count → draft ≡ draft_to held → tsn ≡ tsn_at t.retransmission.outstanding place → e.queues.transfer ≡ Some t → AsksAlong later_ask e t place → AreFlushAnswers ask n e draft answers
    → before.after ≡ (flush_of e draft answers).after → packets_of_events before.events ≡ first ∷ packets_of_events (flush_of e draft answers).events → StillHas old errors before.after → SendsBehind tsn old before
second_behind tsn old before first sack _ _ count _ _ _ held t place errors front later some is place_is has asks (at_limit ask e draft) after events still = absurd (omega (arith, some))
second_behind tsn old before first sack _ _ count _ _ _ held t place errors front later some is place_is has asks (at_empty ask more e draft answer given empty) after events still =
    absurd (no_chunk (answer_along ask e held t place answer e.queues.transfer has (subst (λ (a : Ask). AsksAlong a e t place) (sym later) asks) answered.by_transfer))
  where
    answered : IsFlushAnswer ask e (draft_to held) answer
    answered = subst (λ (d : Emission). IsFlushAnswer ask e d answer) is given

    none_there : answer_contents answer ≡ []
    none_there = subst (λ (d : Emission). (filled_draft d (answer_contents answer)).packet.contents ≡ []) is empty

    no_chunk : GivesAlong ask (tsn_at t.retransmission.outstanding place) t answer → ⊥
    no_chunk (with_data sacks few along) =
        let some_chunk : HasChunk (answer_contents answer) = along_some (tsn_at t.retransmission.outstanding place) sacks answer few along in
        let both : [] ≡ some_chunk.chunk ∷ some_chunk.more = sym none_there ∙ some_chunk.is in absurd (cc)
    no_chunk (sack_alone other first_is none_sent) = let both : later_ask ≡ first_ask = sym later ∙ first_is in absurd (cc)
second_behind tsn old before first sack _ _ count _ _ _ held t place errors front later some is place_is has asks (after_packet ask more e draft answer answers given sends rest) after events still =
    by_answer (answer_along ask e held t place answer e.queues.transfer has (subst (λ (a : Ask). AsksAlong a e t place) (sym later) asks) answered.by_transfer)
  where
    answered : IsFlushAnswer ask e (draft_to held) answer
    answered = subst (λ (d : Emission). IsFlushAnswer ask e d answer) is given

    behind : Outcome
    behind = flush_of (asked_outcome e draft answer).after (next_draft e.core draft) answers

    by_answer : GivesAlong ask (tsn_at t.retransmission.outstanding place) t answer → SendsBehind tsn old before
    by_answer (sack_alone other first_is none_sent) = let both : later_ask ≡ first_ask = sym later ∙ first_is in absurd (cc)
    by_answer (with_data sacks few along) =
        let some_chunk : HasChunk (answer_contents answer) = along_some (tsn_at t.retransmission.outstanding place) sacks answer few along in
        let out : OutThen (answer_contents answer) behind.events (packets_of_events ((asked_outcome e (draft_to held) answer).events ++ behind.events)) = out_asked e held answer behind.events some_chunk in
        let packets : packets_of_events before.events ≡ first ∷ (out.first ∷ packets_of_events behind.events) =
        events ∙ ap (λ (d : Emission). first ∷ packets_of_events ((asked_outcome e d answer).events ++ behind.events)) is ∙ ap (λ (l : List Emission). first ∷ l) out.are in
        let there : StillHas along.left.retransmission.outstanding answer.after.error_count (asked_outcome e draft answer).after =
        subst (λ (d : Emission). StillHas along.left.retransmission.outstanding answer.after.error_count (asked_outcome e d answer).after) (sym is)
        (still_along (tsn_at t.retransmission.outstanding place) sacks e held answer along) in
        let since : StillHas along.left.retransmission.outstanding answer.after.error_count before.after =
        subst (StillHas along.left.retransmission.outstanding answer.after.error_count) (sym after)
        (flush_stays _ more (asked_outcome e draft answer).after (next_draft e.core draft) answers along.left.retransmission.outstanding answer.after.error_count there rest) in
        subst (λ (n : ℕ). SendsBehind n old before) (sym place_is)
        (behind_by (tsn_at t.retransmission.outstanding place) old answer before errors answer.after.error_count sacks out.first few along (among_second first out.first sack (packets_of_events before.events) (packets_of_events behind.events) front packets) out.is still since)

-- A flush of at least two packets.
flush_behind : (ask : Ask) (n count : ℕ) (e : Endpoint) (draft : Emission) (answers : List Answer) (phase : OpenPhase) (my : Pair) (held : Held) (t : Transfer) (place : ℕ) → ask ≡ first_ask → n ≡ suc (suc count)
    → draft ≡ draft_to held → e.core ≡ open_in phase my held → e.queues.transfer ≡ Some t → AsksAlong first_ask e t place → AreFlushAnswers ask n e draft answers
    → StillHas t.retransmission.outstanding e.error_count (flush_of e draft answers).after
    → SendsBehind (tsn_at t.retransmission.outstanding place) t.retransmission.outstanding (flush_of e draft answers)
flush_behind _ _ count _ _ _ phase my held t place first some is core has asks (at_limit ask e draft) still = absurd (omega (arith, some))
flush_behind _ _ count _ _ _ phase my held t place first some is core has asks (at_empty ask more e draft answer given empty) still =
    absurd (no_chunk (answer_along ask e held t place answer e.queues.transfer has (subst (λ (a : Ask). AsksAlong a e t place) (sym first) asks) answered.by_transfer))
  where
    answered : IsFlushAnswer ask e (draft_to held) answer
    answered = subst (λ (d : Emission). IsFlushAnswer ask e d answer) is given

    none_there : answer_contents answer ≡ []
    none_there = subst (λ (d : Emission). (filled_draft d (answer_contents answer)).packet.contents ≡ []) is empty

    no_chunk : GivesAlong ask (tsn_at t.retransmission.outstanding place) t answer → ⊥
    no_chunk (with_data sacks few along) =
        let some_chunk : HasChunk (answer_contents answer) = along_some (tsn_at t.retransmission.outstanding place) sacks answer few along in
        let both : [] ≡ some_chunk.chunk ∷ some_chunk.more = sym none_there ∙ some_chunk.is in absurd (cc)
    no_chunk (sack_alone sack first_is none_sent) = let both : [] ≡ plain (unworked (sack_chunk sack)) ∷ [] = sym none_there ∙ none_sent.contents in absurd (cc)
flush_behind _ _ count _ _ _ phase my held t place first some is core has asks (after_packet ask more e draft answer answers given sends rest) still =
    by_answer (answer_along ask e held t place answer e.queues.transfer has (subst (λ (a : Ask). AsksAlong a e t place) (sym first) asks) answered.by_transfer)
  where
    answered : IsFlushAnswer ask e (draft_to held) answer
    answered = subst (λ (d : Emission). IsFlushAnswer ask e d answer) is given

    behind : Outcome
    behind = flush_of (asked_outcome e draft answer).after (next_draft e.core draft) answers

    whole : Outcome
    whole = flush_of e draft (answer ∷ answers)

    by_answer : GivesAlong ask (tsn_at t.retransmission.outstanding place) t answer → SendsBehind (tsn_at t.retransmission.outstanding place) t.retransmission.outstanding (flush_of e draft (answer ∷ answers))
    by_answer (with_data sacks few along) =
        let some_chunk : HasChunk (answer_contents answer) = along_some (tsn_at t.retransmission.outstanding place) sacks answer few along in
        let out : OutThen (answer_contents answer) behind.events (packets_of_events ((asked_outcome e (draft_to held) answer).events ++ behind.events)) = out_asked e held answer behind.events some_chunk in
        let packets : packets_of_events whole.events ≡ out.first ∷ packets_of_events behind.events =
        ap (λ (d : Emission). packets_of_events ((asked_outcome e d answer).events ++ behind.events)) is ∙ out.are in
        let there : StillHas along.left.retransmission.outstanding answer.after.error_count (asked_outcome e draft answer).after =
        subst (λ (d : Emission). StillHas along.left.retransmission.outstanding answer.after.error_count (asked_outcome e d answer).after) (sym is)
        (still_along (tsn_at t.retransmission.outstanding place) sacks e held answer along) in
        let since : StillHas along.left.retransmission.outstanding answer.after.error_count whole.after =
        flush_stays _ more (asked_outcome e draft answer).after (next_draft e.core draft) answers along.left.retransmission.outstanding answer.after.error_count there rest in
        behind_by (tsn_at t.retransmission.outstanding place) t.retransmission.outstanding answer whole e.error_count answer.after.error_count sacks out.first few along
        (among_first out.first (packets_of_events whole.events) (packets_of_events behind.events) packets) out.is still since
    by_answer (sack_alone sack first_is none_sent) =
        let some_chunk : HasChunk (answer_contents answer) = record { chunk = plain (unworked (sack_chunk sack)); more = []; is = none_sent.contents } in
        let out : OutThen (answer_contents answer) behind.events (packets_of_events ((asked_outcome e (draft_to held) answer).events ++ behind.events)) = out_asked e held answer behind.events some_chunk in
        let packets : packets_of_events whole.events ≡ out.first ∷ packets_of_events behind.events =
        ap (λ (d : Emission). packets_of_events ((asked_outcome e d answer).events ++ behind.events)) is ∙ out.are in
        let kept : Keeps answer.begun e (asked_outcome e draft answer) = asked_keeps ask e draft answer given in
        let next : next_draft e.core draft ≡ draft_to held = ap (λ (c : Core). next_draft c draft) core in
        let there : (asked_outcome e draft answer).after.queues.transfer ≡ Some none_sent.left =
        subst (λ (d : Emission). (asked_outcome e d answer).after.queues.transfer ≡ Some none_sent.left) (sym is) (asked_has e held answer none_sent.left none_sent.has) in
        second_behind (tsn_at t.retransmission.outstanding place) t.retransmission.outstanding whole out.first sack later_ask more count (asked_outcome e draft answer).after (next_draft e.core draft) answers held none_sent.left place
        e.error_count (out.is ∙ none_sent.contents) refl (let size = some in omega (arith, size)) next (ap (λ (o : OutstandingState). tsn_at o place) (sym none_sent.outstanding)) there
        (asks_then e (asked_outcome e draft answer).after t none_sent.left place asks kept.options none_sent.outstanding none_sent.sends) rest refl packets still

-- ---- the turn

-- What it leaves.
pub record FlushesBehind (tsn : ℕ) (old : OutstandingState) (o : Outcome) : Type 0 where
  pub sends : SendsBehind tsn old o
  pub is_open : IsOpen o.after.core

to_peer_behind : (e : Endpoint) (peer : Option Held) (answers : List Answer) (phase : OpenPhase) (my : Pair) (held : Held) (t : Transfer) (place : ℕ) → e.core ≡ open_in phase my held → peer ≡ Some held
    → 2 ≤ packets_allowed e.options.max_burst e.core → e.queues.transfer ≡ Some t → AsksAlong first_ask e t place → AnswersTo e peer answers
    → FlushesBehind (tsn_at t.retransmission.outstanding place) t.retransmission.outstanding (flush_to_peer e peer answers)
to_peer_behind e None answers phase my held t place core known two has asks allowed = absurd (cc)
to_peer_behind e (Some other) answers phase my held t place core known two has asks allowed =
    let same : other ≡ held = cc in
    let count : ℕ = packets_allowed e.options.max_burst e.core in
    let kept : Keeps (begun_by answers) e (flush_of e (draft_to other) answers) = flush_keeps first_ask count e (draft_to other) answers allowed in
    let still : StillHas t.retransmission.outstanding e.error_count (flush_of e (draft_to other) answers).after =
    flush_stays first_ask count e (draft_to other) answers t.retransmission.outstanding e.error_count
    (record { left = t; has = has; extends = extends_itself t.retransmission.outstanding; errors_are = refl }) allowed in
    record {
      sends = flush_behind first_ask count (count - 2) e (draft_to other) answers phase my held t place refl (omega (arith, two)) (ap draft_to same) core has asks allowed still;
      is_open = subst IsOpen (sym kept.core) (open_begun (begun_by answers) e (subst IsOpen (sym core) tt));
    }

open_behind : (core : Core) (e : Endpoint) (o : Outcome) (t : Transfer) (place : ℕ) → e.core ≡ core → IsOpen core → FlushTurn e o → 2 ≤ packets_allowed e.options.max_burst e.core → e.queues.transfer ≡ Some t
    → AsksAlong first_ask e t place → FlushesBehind (tsn_at t.retransmission.outstanding place) t.retransmission.outstanding o
open_behind closed e o t place is opened turn two has asks = absurd opened
open_behind (cookie_wait my) e o t place is opened turn two has asks = absurd opened
open_behind (cookie_echoed my held cookie) e o t place is opened turn two has asks = absurd opened
open_behind (open_in phase my held) e o t place is opened turn two has asks =
    subst (FlushesBehind (tsn_at t.retransmission.outstanding place) t.retransmission.outstanding) (sym turn.2)
    (to_peer_behind e (held_by_core e.core) turn.0 phase my held t place is (ap held_by_core is) two has asks turn.1)

pub flushes_behind : (e : Endpoint) (o : Outcome) (t : Transfer) (place : ℕ) → IsOpen e.core → FlushTurn e o → 2 ≤ packets_allowed e.options.max_burst e.core → e.queues.transfer ≡ Some t
    → AsksAlong first_ask e t place → FlushesBehind (tsn_at t.retransmission.outstanding place) t.retransmission.outstanding o
flushes_behind e o t place opened turn two has asks = open_behind e.core e o t place refl opened turn two has asks

-- The packet that brings the lowest outstanding TSN is answered.
use Rattle.std.proofs.Common.{◌≡◌, ◌≤◌, ◌<◌, ◌+◌, ◌%◌, ◌^◌, ℕ, zero, suc, Some, List, [], ◌∷◌, length, slice_get, ◌⊎◌, inl, inr, sym, ap, ◌∙◌, subst, arith}
use Rattle.dcsctp_spec_lemmas.specs.wire.Content.{SackContent}
use Rattle.dcsctp_spec_lemmas.specs.spec.Packet.{Content, Packet, Plain, plain, unworked}
use Rattle.dcsctp_spec_lemmas.specs.spec.association.Choices.{plain_contents}
use Rattle.dcsctp_spec_lemmas.specs.spec.endpoint.CallTurns.{Transition, IsTurn, Turns, AfterChunk, ChunkTurns, WholeTurns, packet_tail, asked_again, after_all}
use Rattle.dcsctp_spec_lemmas.specs.spec.endpoint.Endpoint.{Endpoint, Core}
use Rattle.dcsctp_spec_lemmas.specs.spec.endpoint.Following.{Following}
use Rattle.dcsctp_spec_lemmas.specs.spec.endpoint.MessageOutcomes.{awaits_opening}
use Rattle.dcsctp_spec_lemmas.specs.spec.endpoint.Outcome.{Outcome}
use Rattle.dcsctp_spec_lemmas.specs.spec.endpoint.Turn.{Input, packet_ends, chunk_input, has_data_chunk, BeginTurn}
use Rattle.dcsctp_spec_lemmas.specs.spec.queues.Chunks.{chunk_said, IsChunkOfItem, AreChunksOfTsns}
use Rattle.dcsctp_spec_lemmas.specs.spec.queues.Items.{Item}
use Rattle.dcsctp_spec_lemmas.specs.spec.queues.Outstanding.{OutstandingState, tsn_at}
use Rattle.dcsctp_spec_lemmas.specs.spec.queues.Sending.{Fragment}
use Rattle.dcsctp_spec_lemmas.specs.spec.queues.Tracker.{nearest_number}
use Rattle.dcsctp_spec_lemmas.specs.spec.queues.Transfer.{Transfer}
use Rattle.dcsctp_spec_laws.specs.SackLaws.{SacksFit}
use Rattle.dcsctp_theorem_transfer.specs.Delaying.{SendSacks}
use Rattle.dcsctp_theorem_transfer.specs.Recovering.{AwaitsData, SaysSack, DelaysSack}
use Rattle.dcsctp_theorem_transfer.specs.Taking.{HasPayload}
use Rattle.dcsctp_theorem_transfer.proofs.Answering.{MayAnswer, IsAnswered, end_answers}
use Rattle.dcsctp_theorem_transfer.proofs.Observing.{cumulative_below}
use Rattle.dcsctp_theorem_transfer.proofs.Arriving.{said_arrival, IsReceiving, HasCome, chunk_comes, Reaches, goes_on, reaches_after, near_place, all_come}
use Rattle.dcsctp_theorem_transfer.proofs.LowestTaken.{Meets, LowestCame, receiving, lowest_came}

-- ---- its packet

-- The receiver has handled the chunks, and has the lowest TSN.
pub record HasLowest (number : ℕ) (outstanding : OutstandingState) (old : Transfer) (ends : List Input) (e : Endpoint) (turns : List Transition) : Type 0 where
  pub reaches : Reaches (number + length outstanding.items) old.tracker ends e turns
  pub came : LowestCame number reaches.transfer.tracker

-- The packet is answered by this SACK, which acknowledges all up to a number that is no less than the lowest, and below the bound.
pub record AnswersLowest (number bound : ℕ) (b : Endpoint) (turns : List Transition) : Type 0 where
  pub sack : SackContent
  pub cumulative : ℕ
  pub acknowledges : sack.cumulative_tsn_ack ≡ cumulative % 2 ^ 32
  pub reached : number ≤ cumulative
  pub below : cumulative < bound
  pub says : SaysSack sack turns ⊎ DelaysSack (after_all b turns) sack

module _ (outstanding : OutstandingState) (b : Endpoint) (t : Transfer) (awaits : AwaitsData b t outstanding.is_interleaved) (meets : Meets outstanding t) where
  -- the lowest item, which has bytes
  lowest_comes : (tsn tag : ℕ) (later : List ℕ) (chunk : Plain) (chunks : List Plain) (ends : List Input) (turn : Transition) (turns : List Transition) → tsn ≡ tsn_at outstanding 0
      → (of : IsChunkOfItem outstanding tsn chunk) → of.place ≡ 0 → HasPayload of.item.fragment.payload → AreChunksOfTsns outstanding later chunks
      → ChunkTurns b tag (plain_contents (chunk ∷ chunks)) ends (turn ∷ turns) → HasLowest meets.number outstanding t ends b (turn ∷ turns)
  lowest_comes tsn tag later chunk chunks ends turn turns lowest of first bytes are does =
      let receives : IsReceiving outstanding.is_interleaved (meets.number + length outstanding.items) b t = receiving outstanding b t awaits meets in
      let placed : nearest_number t.tracker.cumulative (tsn % 2 ^ 32) ≡ meets.number + of.place =
      near_place outstanding meets.number meets.is meets.few t.tracker of.place of.item tsn meets.below meets.before of.at of.is in
      let here : nearest_number t.tracker.cumulative (tsn % 2 ^ 32) ≡ meets.number = omega (arith, placed, first) in
      let is : IsTurn b (chunk_input tag (plain (unworked (chunk_said outstanding.is_interleaved tsn of.item.fragment)))) turn =
      subst (λ (c : Plain). IsTurn b (chunk_input tag (plain c)) turn) of.says does.0 in
      let bound : meets.number < meets.number + length outstanding.items = bound_above of in
      let come : HasCome (meets.number + length outstanding.items) (said_arrival outstanding.is_interleaved tsn of.item.fragment) b t turn.outcome =
      chunk_comes outstanding.is_interleaved (meets.number + length outstanding.items) tsn of.item.fragment b t tag turn.outcome receives (omega (arith, here, bound)) is.comes in
      let came : LowestCame meets.number come.left.tracker = lowest_came outstanding b t tag tsn of.item.fragment turn awaits meets bytes here is come in
      let rest : ChunkTurns turn.outcome.after tag (plain_contents chunks) ends turns =
      subst (λ (f : Following). AfterChunk f (ChunkTurns turn.outcome.after tag (plain_contents chunks) ends turns) (Turns turn.outcome.after ends turns) (turns ≡ [])) come.following does.1 in
      let up : meets.number ≤ come.left.tracker.cumulative + 1 = (let reached = came.reached in omega (arith, reached)) in
      let reached : Reaches (meets.number + length outstanding.items) come.left.tracker ends turn.outcome.after turns =
      all_come outstanding meets.number meets.is meets.few later chunks ends turn.outcome.after come.left tag turns are
      (goes_on outstanding.is_interleaved (meets.number + length outstanding.items) (said_arrival outstanding.is_interleaved tsn of.item.fragment) b t turn.outcome receives come) up rest in
      has_lowest tsn of.item.fragment ends turn turns come reached came
    where
      bound_above : IsChunkOfItem outstanding tsn chunk → meets.number < meets.number + length outstanding.items
      bound_above one = go outstanding.items one.place one.item one.at
        where
          go : (items : List Item) (place : ℕ) (item : Item) → slice_get items place ≡ Some item → meets.number < meets.number + length items
          go [] place item at = absurd (cc)
          go (x ∷ items) place item at = omega arith

      has_lowest : (tsn : ℕ) (part : Fragment) (ends : List Input) (turn : Transition) (turns : List Transition)
          → (come : HasCome (meets.number + length outstanding.items) (said_arrival outstanding.is_interleaved tsn part) b t turn.outcome)
          → Reaches (meets.number + length outstanding.items) come.left.tracker ends turn.outcome.after turns → LowestCame meets.number come.left.tracker
          → HasLowest meets.number outstanding t ends b (turn ∷ turns)
      has_lowest tsn part ends turn turns come reached came =
          record {
            reaches = reaches_after (meets.number + length outstanding.items) (said_arrival outstanding.is_interleaved tsn part) ends b t turn turns come reached;
            came = record { reached = (let first = came.reached in let on = reached.follows.on in omega (arith, first, on)); comes = reached.follows.comes came.comes };
          }

  -- Nothing precedes the chunks, and the end of the packet follows them.
  pub begins_still : (begun : Transition) (contents : List Content) → BeginTurn b b.core (has_data_chunk b.options.follow_rfc contents) begun.outcome → begun.outcome.after ≡ b
  begins_still begun contents does =
      ap (λ (o : Outcome). o.after)
      (subst (λ (c : Core). BeginTurn b c (has_data_chunk b.options.follow_rfc contents) begun.outcome) awaits.phase does)

  pub tail_is : packet_tail b ≡ packet_ends ∷ []
  tail_is = ap (λ (c : Core). packet_ends ∷ asked_again (awaits_opening b c)) awaits.phase

  pub chunks_answered : SacksFit → (tsn tag : ℕ) (later : List ℕ) (chunks : List Plain) (turns : List Transition) → tsn ≡ tsn_at outstanding 0 → AreChunksOfTsns outstanding (tsn ∷ later) chunks
      → ((item : Item) → slice_get outstanding.items 0 ≡ Some item → HasPayload item.fragment.payload) → ChunkTurns b tag (plain_contents chunks) (packet_ends ∷ []) turns → AnswersLowest meets.number (meets.number + length outstanding.items) b turns
  chunks_answered law tsn tag later [] turns lowest are bytes does = absurd are
  chunks_answered law tsn tag later (chunk ∷ chunks) [] lowest are bytes does = absurd does
  chunks_answered law tsn tag later (chunk ∷ chunks) (turn ∷ turns) lowest are bytes does =
      let first : are.0.place ≡ 0 = first_place are.0 in
      let at : slice_get outstanding.items 0 ≡ Some are.0.item = subst (λ (n : ℕ). slice_get outstanding.items n ≡ Some are.0.item) first are.0.at in
      let got : HasLowest meets.number outstanding t (packet_ends ∷ []) b (turn ∷ turns) =
      lowest_comes tsn tag later chunk chunks (packet_ends ∷ []) turn turns lowest are.0 first (bytes are.0.item at) are.1 does in
      answered_by got
    where
      place_within : (items : List Item) (place : ℕ) (item : Item) → slice_get items place ≡ Some item → place < length items
      place_within [] place item here = absurd (cc)
      place_within (x ∷ items) zero item here = omega arith
      place_within (x ∷ items) (suc place) item here = let rest = place_within items place item here in omega (arith, rest)

      first_place : (of : IsChunkOfItem outstanding tsn chunk) → of.place ≡ 0
      first_place of =
          let within : of.place < length outstanding.items = place_within outstanding.items of.place of.item of.at in
          let few = meets.few in let of_is = of.is in omega (arith, within, few, of_is, lowest)

      answered_by : HasLowest meets.number outstanding t (packet_ends ∷ []) b (turn ∷ turns) → AnswersLowest meets.number (meets.number + length outstanding.items) b (turn ∷ turns)
      answered_by got =
          let reaches : Reaches (meets.number + length outstanding.items) t.tracker (packet_ends ∷ []) b (turn ∷ turns) = got.reaches in
          let may : MayAnswer reaches.last reaches.transfer =
          record {
            my = awaits.my;
            held = awaits.held;
            phase = reaches.core ∙ awaits.phase;
            has = reaches.has;
            sends = subst SendSacks (sym reaches.options) awaits.sends;
            follows = reaches.follows.follows;
          } in
          let answered : IsAnswered reaches.last reaches.transfer reaches.final = end_answers law reaches.last reaches.transfer reaches.final may got.came.comes reaches.ended in
          record {
            sack = answered.sack;
            cumulative = reaches.transfer.tracker.cumulative;
            acknowledges = answered.acknowledges;
            reached = got.came.reached;
            below = cumulative_below (meets.number + length outstanding.items) reaches.transfer.tracker reaches.follows.below;
            says = said answered.sack reaches answered.says;
          }
        where
          said : (sack : SackContent) (reaches : Reaches (meets.number + length outstanding.items) t.tracker (packet_ends ∷ []) b (turn ∷ turns))
              → SaysSack sack reaches.final ⊎ DelaysSack (after_all reaches.last reaches.final) sack → SaysSack sack (turn ∷ turns) ⊎ DelaysSack (after_all b (turn ∷ turns)) sack
          said sack reaches (inl says) = inl (reaches.says sack says)
          said sack reaches (inr delays) = inr (subst (λ (x : Endpoint). DelaysSack x sack) (sym reaches.after) delays)

  pub packet_answered : SacksFit → (tsn : ℕ) (later : List ℕ) (chunks : List Plain) (packet : Packet) (turns : List Transition) → packet.contents ≡ plain_contents chunks → tsn ≡ tsn_at outstanding 0
      → AreChunksOfTsns outstanding (tsn ∷ later) chunks → ((item : Item) → slice_get outstanding.items 0 ≡ Some item → HasPayload item.fragment.payload) → WholeTurns b packet turns → AnswersLowest meets.number (meets.number + length outstanding.items) b turns
  packet_answered law tsn later chunks packet [] is lowest are bytes does = absurd does
  packet_answered law tsn later chunks packet (begun ∷ turns) is lowest are bytes does =
      let after : begun.outcome.after ≡ b = begins_still begun packet.contents does.0.comes in
      let here : ChunkTurns b packet.tag packet.contents (packet_tail b) turns =
      subst (λ (x : Endpoint). ChunkTurns x packet.tag packet.contents (packet_tail x) turns) after does.1 in
      let chunk_turns : ChunkTurns b packet.tag (plain_contents chunks) (packet_ends ∷ []) turns =
      subst (λ (contents : List Content). ChunkTurns b packet.tag contents (packet_ends ∷ []) turns) is
      (subst (λ (ends : List Input). ChunkTurns b packet.tag packet.contents ends turns) tail_is here) in
      let answered : AnswersLowest meets.number (meets.number + length outstanding.items) b turns = chunks_answered law tsn packet.tag later chunks turns lowest are bytes chunk_turns in
      record {
        sack = answered.sack;
        cumulative = answered.cumulative;
        acknowledges = answered.acknowledges;
        reached = answered.reached;
        below = answered.below;
        says = said answered.sack answered.says;
      }
    where
      said : (sack : SackContent) → SaysSack sack turns ⊎ DelaysSack (after_all b turns) sack → SaysSack sack (begun ∷ turns) ⊎ DelaysSack (after_all b (begun ∷ turns)) sack
      said sack (inl says) = inl (inr says)
      said sack (inr delays) =
          inr (subst (λ (x : Endpoint). DelaysSack (after_all x turns) sack) (sym (begins_still begun packet.contents does.0.comes)) delays)

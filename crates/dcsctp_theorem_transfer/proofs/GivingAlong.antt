-- An answer to a flush after the expiry of T3: data behind at most a SACK, or in the first packet a SACK alone.
use Rattle.std.proofs.Common.{◌≡◌, ◌<◌, ◌-◌, ◌⊎◌, ℕ, Bool, true, false, Option, None, Some, List, [], ◌∷◌, inl, inr, refl, ap, subst, arith}
use Rattle.dcsctp_spec_lemmas.specs.types.Settings.{packet_size_limit}
use Rattle.dcsctp_spec_lemmas.specs.types.declared.association.Held.{Held}
use Rattle.dcsctp_spec_lemmas.specs.wire.Content.{SackContent, sack_chunk}
use Rattle.dcsctp_spec_lemmas.specs.spec.Packet.{Plain, unworked}
use Rattle.dcsctp_spec_lemmas.specs.spec.endpoint.Endpoint.{Endpoint}
use Rattle.dcsctp_spec_lemmas.specs.spec.endpoint.FlushOutcomes.{Ask, first_ask, later_ask, Answer, draft_to, room_of_draft, wants_sack, Gives, GivesUnlessIdle, IsAnswerOfQueues}
use Rattle.dcsctp_spec_lemmas.specs.spec.queues.Outstanding.{tsn_at}
use Rattle.dcsctp_spec_lemmas.specs.spec.queues.Transfer.{Transfer, is_idle}
use Rattle.dcsctp_theorem_transfer.proofs.Along.{AsksAlong, AreSacks, no_sack, one_sack, SentAlong, SentNone, room_behind, gave_sacks, gave_along}
use Rattle.dcsctp_theorem_transfer.proofs.ResendingFlush.{not_idle, empty_room}

-- ---- an answer

-- The data goes behind at most a SACK, or in the first packet a SACK goes alone.
pub data GivesAlong (ask : Ask) (tsn : ℕ) (t : Transfer) (answer : Answer) : Type 0 where
  with_data : (sacks : List Plain) → AreSacks sacks → SentAlong tsn sacks answer → GivesAlong ask tsn t answer
  sack_alone : (sack : SackContent) → ask ≡ first_ask → SentNone t (unworked (sack_chunk sack) ∷ []) answer → GivesAlong ask tsn t answer

-- A packet without a SACK has all room.
alone_first : (tsn : ℕ) (e : Endpoint) (held : Held) (t : Transfer) (answer : Answer) (sacks : List Plain) → AreSacks sacks → SentNone t sacks answer → room_behind e held sacks < packet_size_limit e.options - 12
    → GivesAlong first_ask tsn t answer
alone_first tsn e held t answer _ no_sack none_sent less = absurd (let all = empty_room e held in omega (arith, all, less))
alone_first tsn e held t answer _ (one_sack sack) none_sent less = sack_alone sack refl none_sent

-- No SACK goes into a later one.
alone_behind : (ask : Ask) (tsn : ℕ) (e : Endpoint) (held : Held) (t : Transfer) (answer : Answer) → (gave : Gives ask e (draft_to held) t answer) → SentNone t gave.sacks answer
    → room_behind e held gave.sacks < packet_size_limit e.options - 12 → GivesAlong ask tsn t answer
alone_behind first_ask tsn e held t answer gave none_sent less =
    alone_first tsn e held t answer gave.sacks (gave_sacks (wants_sack first_ask e.queues.queue t) (room_of_draft e (draft_to held)) t gave.tracker gave.sacks gave.acknowledges) none_sent less
alone_behind later_ask tsn e held t answer gave none_sent less =
    absurd (let all = empty_room e held in let none_there = ap (room_behind e held) gave.acknowledges.1 in omega (arith, all, less, none_there))

pub answer_along : (ask : Ask) (e : Endpoint) (held : Held) (t : Transfer) (place : ℕ) (answer : Answer) (found : Option Transfer) → found ≡ Some t → AsksAlong ask e t place
    → IsAnswerOfQueues ask e (draft_to held) answer found → GivesAlong ask (tsn_at t.retransmission.outstanding place) t answer
answer_along ask e held t place answer None has asks is = absurd (cc)
answer_along ask e held t place answer (Some other) has asks is =
    go (is_idle e.queues.queue t) refl (subst (λ (x : Transfer). GivesUnlessIdle (is_idle e.queues.queue x) ask e (draft_to held) x answer) (let same : other ≡ t = cc in same) is)
  where
    by_way : (gave : Gives ask e (draft_to held) t answer)
        → SentAlong (tsn_at t.retransmission.outstanding place) gave.sacks answer ⊎ (SentNone t gave.sacks answer × (room_behind e held gave.sacks < packet_size_limit e.options - 12))
        → GivesAlong ask (tsn_at t.retransmission.outstanding place) t answer
    by_way gave (inl along) =
        with_data gave.sacks (gave_sacks (wants_sack ask e.queues.queue t) (room_of_draft e (draft_to held)) t gave.tracker gave.sacks gave.acknowledges) along
    by_way gave (inr none_sent) = alone_behind ask (tsn_at t.retransmission.outstanding place) e held t answer gave none_sent.0 none_sent.1

    go : (b : Bool) → is_idle e.queues.queue t ≡ b → GivesUnlessIdle b ask e (draft_to held) t answer → GivesAlong ask (tsn_at t.retransmission.outstanding place) t answer
    go true idle same = absurd (not_idle e.queues.queue t place asks.next idle)
    go false idle gave = by_way gave (gave_along ask e held t place answer asks gave)

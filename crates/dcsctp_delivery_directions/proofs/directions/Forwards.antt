-- Where no message has limits, none is abandoned, and no FORWARD-TSN is sent.
use Rattle.std.proofs.Common.{Bool, ◌≡◌, ℕ, true, false, ◌<◌, ◌^◌, List, [], ◌∷◌, length, sym, ◌∙◌, subst, inl, inr}
use Rattle.dcsctp_spec.specs.wire.Content.{ChunkContent, data_chunk, i_data_chunk, init_chunk, init_ack_chunk, sack_chunk, heartbeat_chunk, heartbeat_ack_chunk, abort_chunk, shutdown_chunk, shutdown_ack_chunk, error_chunk, cookie_echo_chunk, cookie_ack_chunk, shutdown_complete_chunk, re_config_chunk, forward_tsn_chunk, i_forward_tsn_chunk, unknown_chunk}
use Rattle.dcsctp_spec.specs.types.declared.options.Options.{Options}
use Rattle.dcsctp_spec.specs.Packet.{unknown, heartbeat, heartbeat_ack, unworked, plain, init, init_ack, cookie_echo, cookie_ack, re_config, abort, shutdown, shutdown_ack, shutdown_complete, Content, Emission}
use Rattle.dcsctp_delivery_directions.specs.sending.Log.{Message, History, IsLogOfPieces}
use Rattle.dcsctp_delivery_directions.specs.sending.Places.{HasEntry}
use Rattle.dcsctp_delivery_directions.specs.sending.Flushes.{HasLimited, SaysContent, SayAll, PacketsSay}
use Rattle.dcsctp_delivery_directions.specs.sending.Losing.{AreUnlimited}
use Rattle.dcsctp_delivery_directions.proofs.sending.Losing.{unlimited_at}
use Rattle.dcsctp_delivery_directions.specs.directions.Directions.{Direction, DirectionRun}
use Rattle.dcsctp_delivery_directions.specs.directions.Forwards.{IsNoForward, AreNoForwards, NoneForwards}
use Rattle.dcsctp_delivery_directions.proofs.directions.Directions.{run_stands}

-- ---- messages without limits

-- No piece of the log is of a message with limits.
pub none_limited : (queued : List Message) (history : History) → IsLogOfPieces queued history.log → (b : Bool) → AreUnlimited queued → HasLimited b history.log → ⊥
none_limited queued history cut b are has =
    let free = unlimited_at queued has.piece.place has.piece.message are (cut.pieces has.number has.piece has.at).at in
    let clash : true ≡ false = sym has.limited ∙ free in
    absurd (cc)

-- ---- what packets say

module _ (history : History) (first acknowledged : ℕ) (none : (b : Bool) → HasLimited b history.log → ⊥) where
  chunk_forwards : (chunk : ChunkContent) → SaysContent history first acknowledged (plain (unworked chunk)) → IsNoForward (plain (unworked chunk))
  chunk_forwards (forward_tsn_chunk t bs) says = none false says.limited
  chunk_forwards (i_forward_tsn_chunk t bs) says = none true says.limited
  chunk_forwards (data_chunk d) says = tt
  chunk_forwards (i_data_chunk d) says = tt
  chunk_forwards (init_chunk c) says = tt
  chunk_forwards (init_ack_chunk c) says = tt
  chunk_forwards (sack_chunk c) says = tt
  chunk_forwards (heartbeat_chunk ps) says = tt
  chunk_forwards (heartbeat_ack_chunk ps) says = tt
  chunk_forwards (abort_chunk b cs) says = tt
  chunk_forwards (shutdown_chunk t) says = tt
  chunk_forwards shutdown_ack_chunk says = tt
  chunk_forwards (error_chunk cs) says = tt
  chunk_forwards (cookie_echo_chunk bs) says = tt
  chunk_forwards cookie_ack_chunk says = tt
  chunk_forwards (shutdown_complete_chunk b) says = tt
  chunk_forwards (re_config_chunk ps) says = tt
  chunk_forwards (unknown_chunk t f bs) says = tt

  content_forwards : (content : Content) → SaysContent history first acknowledged content → IsNoForward content
  content_forwards (plain (unknown type flags value)) says = tt
  content_forwards (plain (heartbeat parameters)) says = tt
  content_forwards (plain (heartbeat_ack parameters)) says = tt
  content_forwards (plain (unworked chunk)) says = chunk_forwards chunk says
  content_forwards (init i) says = tt
  content_forwards (init_ack i b) says = tt
  content_forwards (cookie_echo b) says = tt
  content_forwards cookie_ack says = tt
  content_forwards (re_config ps) says = tt
  content_forwards (abort b cs) says = tt
  content_forwards (shutdown t) says = tt
  content_forwards shutdown_ack says = tt
  content_forwards (shutdown_complete b) says = tt

  contents_forward : (contents : List Content) → SayAll history first acknowledged contents → AreNoForwards contents
  contents_forward [] say = tt
  contents_forward (content ∷ contents) say = (content_forwards content say.0, contents_forward contents say.1)

  pub packets_forward : (emissions : List Emission) → PacketsSay history first acknowledged emissions → NoneForwards emissions
  packets_forward [] say = tt
  packets_forward (emission ∷ emissions) say = (contents_forward emission.packet.contents say.0, packets_forward emissions say.1)

-- ---- a run

pub unlimited_forward_nothing : (options : Options) (first size : ℕ) (direction : Direction) → DirectionRun options first size direction → first < 2 ^ 32 → length direction.queued < 2 ^ 64
    → AreUnlimited direction.queued → NoneForwards direction.sent
unlimited_forward_nothing options first size direction run small few are =
    let s = run_stands options first size direction small few run in
    packets_forward s.history first direction.acknowledged (λ b. none_limited direction.queued s.history s.queues.cut b are) direction.sent s.packets

-- ---- So none is received.

among_none : (content : Content) (contents : List Content) → AreNoForwards contents → HasEntry content contents → IsNoForward content
among_none content [] none has = absurd has
among_none content (c ∷ contents) none has =
    elim has [
      | inl e ↦ subst (λ (x : Content). IsNoForward x) (sym e) none.0
      | inr later ↦ among_none content contents none.1 later
    ]

pub sent_none : (emission : Emission) (content : Content) (sent : List Emission) → NoneForwards sent → HasEntry emission sent → HasEntry content emission.packet.contents → IsNoForward content
sent_none emission content [] none was has = absurd was
sent_none emission content (e ∷ sent) none was has =
    elim was [
      | inl same ↦ among_none content e.packet.contents none.0 (subst (λ (x : Emission). HasEntry content x.packet.contents) same has)
      | inr later ↦ sent_none emission content sent none.1 later has
    ]

pub forwards_never : (emission : Emission) (tsn : ℕ) (streams : List ℕ) (sent : List Emission) → NoneForwards sent → HasEntry emission sent → HasEntry (plain (unworked (forward_tsn_chunk tsn streams))) emission.packet.contents → ⊥
forwards_never emission tsn streams sent none was has = sent_none emission (plain (unworked (forward_tsn_chunk tsn streams))) sent none was has

pub i_forwards_never : (emission : Emission) (tsn : ℕ) (streams : List ℕ) (sent : List Emission) → NoneForwards sent → HasEntry emission sent → HasEntry (plain (unworked (i_forward_tsn_chunk tsn streams))) emission.packet.contents → ⊥
i_forwards_never emission tsn streams sent none was has = sent_none emission (plain (unworked (i_forward_tsn_chunk tsn streams))) sent none was has

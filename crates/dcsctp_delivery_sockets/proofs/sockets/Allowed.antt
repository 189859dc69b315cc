-- A flush sends chunks of the kinds that were negotiated, and no others (RFC 8260, section 2.2.1;
-- RFC 3758, section 3.3.1). None but the first of a packet ends a handshake.
use Rattle.std.proofs.Common.{◌≡◌, ℕ, Bool, true, false, Option, None, Some, List, [], ◌∷◌, ◌++◌, length, refl, sym, ◌∙◌, subst}
use Rattle.std.specs.Prelude.{if◌then◌else◌, nat_lt, nat_le, ◌&&◌}
use Rattle.std.specs.List.{AllByRecursion}
use Rattle.dcsctp_spec_lemmas.specs.wire.Content.{ChunkContent, data_chunk, i_data_chunk, forward_tsn_chunk, i_forward_tsn_chunk}
use Rattle.dcsctp_spec_lemmas.specs.wire.Spelling.{chunk_bytes}
use Rattle.dcsctp_spec_lemmas.specs.types.declared.capabilities.Capabilities.{Capabilities}
use Rattle.dcsctp_spec_lemmas.specs.spec.endpoint.Endpoint.{Endpoint}
use Rattle.dcsctp_spec_lemmas.specs.spec.Packet.{Plain, plain_out, unworked, Content, plain, Emission}
use Rattle.dcsctp_spec_lemmas.specs.spec.association.Choices.{plain_contents}
use Rattle.dcsctp_spec_lemmas.specs.spec.queues.Chunks.{chunk_said, AreChunksOfTsns}
use Rattle.dcsctp_spec_lemmas.specs.spec.queues.Filling.{Stage}
use Rattle.dcsctp_spec_lemmas.specs.spec.queues.Items.{is_first_abandoned}
use Rattle.dcsctp_spec_lemmas.specs.spec.queues.Outstanding.{OutstandingState}
use Rattle.dcsctp_spec_lemmas.specs.spec.queues.Retransmission.{RetransmissionState, outstanding_count}
use Rattle.dcsctp_spec_lemmas.specs.spec.queues.Sending.{Fragment}
use Rattle.dcsctp_spec_lemmas.specs.spec.queues.Skipping.{forward_chunk, SaysForward}
use Rattle.dcsctp_spec_lemmas.specs.spec.queues.Tracker.{TrackerState}
use Rattle.dcsctp_spec_lemmas.specs.spec.queues.Transfer.{Transfer}
use Rattle.dcsctp_spec_lemmas.specs.spec.endpoint.BegunResets.{BegunReset, request_contents}
use Rattle.dcsctp_spec_lemmas.specs.spec.endpoint.FlushOutcomes.{own_sack, where_fits, Ask, first_ask, later_ask, may_abandon, may_forward, Acknowledges, ForwardsIfAbandoned, GivesUpThenForwards, forward_made}
use Rattle.dcsctp_spec_lemmas.specs.spec.endpoint.PlainOutcomes.{data_violation, i_data_violation, forward_tsn_violation, i_forward_tsn_violation, violation_of_capabilities}
use Rattle.dcsctp_delivery_directions.specs.sending.Flushes.{NoPlain, NoContent, NoData}
use Rattle.dcsctp_delivery_sockets.specs.turns.Actions.{NotStale, NoneStale, IsStaleFirst}
use Rattle.dcsctp_delivery_sockets.proofs.sockets.InFlight.{IsOf, gives_all_is}

-- The chunk breaks nothing that was negotiated, and ends no handshake.
abbrev pub MayGo : Capabilities → Plain → Type 0
MayGo kinds chunk = (violation_of_capabilities kinds chunk ≡ None) × NotStale (plain chunk)

abbrev pub Allowed : Capabilities → Content → Type 0
Allowed kinds (plain chunk) = MayGo kinds chunk
Allowed kinds content = Unit {0}

abbrev pub AllAllowed : Capabilities → List Content → Type 0
AllAllowed kinds contents = AllByRecursion (Allowed kinds) contents

-- Of a packet it is said of each chunk but the first.
abbrev pub ContentsAllowed : Capabilities → List Content → Type 0
ContentsAllowed kinds [] = Unit {0}
ContentsAllowed kinds (content ∷ contents) = AllAllowed kinds contents

abbrev pub IsAllowed : Capabilities → Emission → Type 0
IsAllowed kinds emission = ContentsAllowed kinds emission.packet.contents

abbrev pub AreAllowed : Capabilities → List Emission → Type 0
AreAllowed kinds emissions = AllByRecursion (IsAllowed kinds) emissions

pub all_append : {A : Type 0} → (P : A → Type 0) → (xs ys : List A) → AllByRecursion P xs → AllByRecursion P ys → AllByRecursion P (xs ++ ys)
all_append P [] ys xs_are ys_are = ys_are
all_append P (x ∷ xs) ys xs_are ys_are = (xs_are.0, all_append P xs ys xs_are.1 ys_are)

module _ (kinds : Capabilities) where
  -- ---- chunks without data

  no_plain : (chunk : Plain) → NoPlain chunk → NotStale (plain chunk) → MayGo kinds chunk
  no_plain (unworked (data_chunk chunk)) none stale = absurd none
  no_plain (unworked (i_data_chunk chunk)) none stale = absurd none
  no_plain (unworked (forward_tsn_chunk tsn streams)) none stale = absurd none
  no_plain (unworked (i_forward_tsn_chunk tsn streams)) none stale = absurd none
  no_plain chunk none stale = (refl, stale)

  no_content : (content : Content) → NoContent content → NotStale content → Allowed kinds content
  no_content (plain chunk) none stale = no_plain chunk none stale
  no_content content none stale = tt

  pub no_data_goes : (contents : List Content) → NoData contents → NoneStale contents → AllAllowed kinds contents
  no_data_goes [] none stale = tt
  no_data_goes (content ∷ contents) none stale = (no_content content none.0 stale.0, no_data_goes contents none.1 stale.1)

  pub spoken_goes : (contents : List Content) → NoData contents → IsStaleFirst contents → ContentsAllowed kinds contents
  spoken_goes [] none stale = tt
  spoken_goes (content ∷ contents) none stale = no_data_goes contents none.1 stale

  pub behind_goes : (contents : List Content) → AllAllowed kinds contents → ContentsAllowed kinds contents
  behind_goes [] are = tt
  behind_goes (content ∷ contents) are = are.1

  pub plain_go : (chunks : List Plain) → AllByRecursion (MayGo kinds) chunks → AllAllowed kinds (plain_contents chunks)
  plain_go [] are = tt
  plain_go (chunk ∷ chunks) are = (are.0, plain_go chunks are.1)

  pub request_goes : (begun : Option BegunReset) → AllAllowed kinds (request_contents begun)
  request_goes None = tt
  request_goes (Some begun) = (tt, tt)

  where_go : (room : ℕ) (chunk : Plain) → MayGo kinds chunk → AllByRecursion (MayGo kinds) (where_fits room chunk)
  where_go room chunk may = go (nat_le (length (chunk_bytes (plain_out chunk))) room)
    where
      go : (b : Bool) → AllByRecursion (MayGo kinds) (if b then chunk ∷ [] else [])
      go true = (may, tt)
      go false = tt

  pub sacks_go : (b : Bool) (room : ℕ) (transfer : Transfer) (after : TrackerState) (chunks : List Plain) → Acknowledges b room transfer after chunks → AllByRecursion (MayGo kinds) chunks
  sacks_go false room transfer after chunks does = subst (AllByRecursion (MayGo kinds)) (sym does.1) tt
  sacks_go true room transfer after chunks does = subst (AllByRecursion (MayGo kinds)) (sym does.1) (where_go room (own_sack room transfer) (refl, tt))

  -- ---- data

  said_goes : (b : Bool) (tsn : ℕ) (part : Fragment) → b ≡ kinds.message_interleaving → MayGo kinds (unworked (chunk_said b tsn part))
  said_goes true tsn part is = (subst (λ (b : Bool). i_data_violation b ≡ None) is refl, tt)
  said_goes false tsn part is = (subst (λ (b : Bool). data_violation b ≡ None) is refl, tt)

  pub data_goes : (outstanding : OutstandingState) (tsns : List ℕ) (chunks : List Plain) → outstanding.is_interleaved ≡ kinds.message_interleaving → AreChunksOfTsns outstanding tsns chunks
      → AllByRecursion (MayGo kinds) chunks
  data_goes outstanding [] [] is are = tt
  data_goes outstanding [] (chunk ∷ chunks) is are = absurd are
  data_goes outstanding (tsn ∷ tsns) [] is are = absurd are
  data_goes outstanding (tsn ∷ tsns) (chunk ∷ chunks) is are =
      (subst (MayGo kinds) (sym are.0.says) (said_goes outstanding.is_interleaved tsn are.0.item.fragment is), data_goes outstanding tsns chunks is are.1)

  -- ---- FORWARD-TSN

  forward_goes : (b : Bool) (tsn : ℕ) (entries : List ((ℕ × Bool) × ℕ)) → b ≡ kinds.message_interleaving → true ≡ kinds.partial_reliability → MayGo kinds (unworked (forward_chunk b tsn entries))
  forward_goes true tsn entries is partial = (subst (λ (b : Bool). i_forward_tsn_violation b kinds.partial_reliability ≡ None) is (subst (λ (b : Bool). i_forward_tsn_violation true b ≡ None) partial refl), tt)
  forward_goes false tsn entries is partial = (subst (λ (b : Bool). forward_tsn_violation b kinds.partial_reliability ≡ None) is (subst (λ (b : Bool). forward_tsn_violation false b ≡ None) partial refl), tt)

  forwards_where : (b : Bool) (now room : ℕ) (transfer : Transfer) (state : RetransmissionState) (next : Option ℕ) (chunks : List Plain) → IsOf kinds state → true ≡ kinds.partial_reliability
      → ForwardsIfAbandoned b now transfer room state next chunks → AllByRecursion (MayGo kinds) chunks
  forwards_where false now room transfer state next chunks is partial does = subst (AllByRecursion (MayGo kinds)) (sym does.1) tt
  forwards_where true now room transfer state next chunks is partial does =
      let says : SaysForward state does.1.0 = does.1.1 in
      subst (AllByRecursion (MayGo kinds)) (sym does.1.2)
      (where_go room (unworked does.1.0)
      (subst (λ (c : ChunkContent). MayGo kinds (unworked c)) (sym says.is) (forward_goes state.outstanding.is_interleaved _ says.entries is.0 partial)))

  right_of : (a b : Bool) → (a && b) ≡ true → b ≡ true
  right_of true b is = is
  right_of false b is = absurd (cc)

  left_of : (a b : Bool) → (a && b) ≡ true → a ≡ true
  left_of true b is = refl
  left_of false b is = absurd (cc)

  -- Messages are abandoned only if that was negotiated.
  negotiated_then : (ask : Ask) (e : Endpoint) (state : RetransmissionState) → IsOf kinds state → may_forward ask e state ≡ true → true ≡ kinds.partial_reliability
  negotiated_then later_ask e state is may = absurd (cc)
  negotiated_then first_ask e state is may =
      sym (left_of state.partial_reliability (nat_lt 0 (outstanding_count state)) (right_of (nat_le e.no_forward_tsn_before e.moment) (may_abandon state) may)) ∙ is.1

  pub forwards_go : (b : Bool) (ask : Ask) (e : Endpoint) (transfer : Transfer) (room : ℕ) (old new : Stage) (next : Option ℕ) (chunks : List Plain) → may_forward ask e transfer.retransmission ≡ b
      → IsOf kinds transfer.retransmission → old.queue ≡ transfer.retransmission → GivesUpThenForwards b e.moment transfer room old new (forward_made next chunks) → IsOf kinds new.queue × AllByRecursion (MayGo kinds) chunks
  forwards_go false ask e transfer room old new next chunks may is same does =
      (subst (λ (s : Stage). IsOf kinds s.queue) (sym does.0) (subst (IsOf kinds) (sym same) is), subst (AllByRecursion (MayGo kinds)) (sym does.2) tt)
  forwards_go true ask e transfer room old new next chunks may is same does =
      let left : IsOf kinds new.queue = gives_all_is kinds e.moment old new (subst (IsOf kinds) (sym same) is) does.0 in
      (left, forwards_where (is_first_abandoned new.queue.outstanding.items) e.moment room transfer new.queue next chunks left (negotiated_then ask e transfer.retransmission is may) does.1)

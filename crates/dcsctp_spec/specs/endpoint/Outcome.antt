-- What one turn leaves: the words that it drew, what happened to the association, the endpoint after it, and its events
-- in order.
use Rattle.std.specs.Prelude.{◌==◌, ℕ, Bool, true, false, ◌+◌, ◌-◌, ◌^◌, min, List, [], ◌∷◌, ◌++◌, length, nat_le, if◌then◌else◌}
use Rattle.std.specs.List.{flat_map}
use Rattle.dcsctp_types.specs.declared.association.Pair.{Pair}
use Rattle.dcsctp_types.specs.declared.association.Held.{Held}
use Rattle.dcsctp_types.specs.declared.word.Word.{Word}
use Rattle.dcsctp_types.specs.declared.kinds.ErrorKind.{ErrorKind}
use Rattle.dcsctp_types.specs.Settings.{packet_size_limit}
use Rattle.dcsctp_types.specs.Sizes.{common_header_size}
use Rattle.dcsctp_spec.specs.endpoint.Event.{Event, sent, error}
use Rattle.dcsctp_spec.specs.Packet.{Content, Emission, chunk_out}
use Rattle.dcsctp_spec.specs.endpoint.Endpoint.{Endpoint, may_answer}
use Rattle.dcsctp_spec.specs.endpoint.Following.{Following, next_chunk}
use Rattle.dcsctp_spec.specs.association.Effect.{Effect, draws}
use Rattle.dcsctp_types.specs.wire.Spelling.{chunk_bytes}

pub record Outcome : Type 0 where
  pub words : List Word
  -- what happened to the association, in order: pairs that were drawn, the association from here on, connections and ends. Also
  -- the numbers of requests that were begun, ended, accepted and performed. Its packets are among the events.
  pub effects : List Effect
  pub after : Endpoint
  pub events : List (Event Emission)
  pub following : Following

-- nothing happens
abbrev pub still : Endpoint → Outcome
still e = record { words = []; effects = []; after = e; events = []; following = next_chunk }

-- one more, up to the greatest number of 64 bits
abbrev pub count_up : ℕ → ℕ
count_up count = min (count + 1) (2 ^ 64 - 1)

-- one OnError, and no change
abbrev pub reports : Endpoint → ErrorKind → List ℕ → Outcome
reports e kind text = record { words = []; effects = []; after = e; events = error kind text ∷ []; following = next_chunk }

-- a packet of one control chunk under the peer's tag
abbrev pub to_peer : Held → Content → Emission
to_peer held content =
    record {
      with_checksum = held.capabilities.zero_checksum_method.0 == 0;
      packet = record { tag = held.peer.tag; contents = content ∷ [] };
    }

-- how long the chunks of a packet are
abbrev pub contents_len : List Content → ℕ
contents_len contents = length (flat_map (λ content. chunk_bytes (chunk_out content)) contents)

-- does the packet fit in `mtu`?
abbrev pub fits : Endpoint → Emission → Bool
fits e emission = nat_le (common_header_size + contents_len emission.packet.contents) (packet_size_limit e.options)

-- the endpoint once a packet has gone out
abbrev pub packet_counted : Endpoint → Endpoint
packet_counted e = record e { counts = record e.counts { packets_sent = count_up e.counts.packets_sent } }

-- these words and events, and no packet after them
abbrev pub quiet : Endpoint → List Word → List (Event Emission) → Outcome
quiet e words events = record { words = words; effects = []; after = e; events = events; following = next_chunk }

-- these words and events, and then a packet
abbrev pub sends : Endpoint → List Word → List (Event Emission) → Emission → Outcome
sends e words events emission = record { words = words; effects = []; after = packet_counted e; events = events ++ sent emission ∷ []; following = next_chunk }

-- The words that were drawn, and then a packet, if it fits: one that doesn't is neither emitted nor counted.
abbrev pub emits : Endpoint → List Word → Emission → Outcome
emits e words emission = if fits e emission then sends e words [] emission else quiet e words []

-- this outcome, which answers what the packet asked
abbrev pub answering : Outcome → Outcome
answering o = record o { after = record o.after { has_answered = true } }

abbrev pub answered_if_allowed : Bool → Endpoint → Emission → Outcome
answered_if_allowed false e emission = still e
answered_if_allowed true e emission = answering (emits e [] emission)

-- A chunk is answered by this packet, if it fits, unless another one of its packet was.
abbrev pub answers_with : Endpoint → Emission → Outcome
answers_with e emission = answered_if_allowed (may_answer e) e emission

-- this outcome, after these words and events
abbrev pub behind : List Word → List (Event Emission) → Outcome → Outcome
behind words events o = record o { words = words ++ o.words; events = events ++ o.events }

-- one outcome, and another from where it led
abbrev pub then_outcome : Outcome → Outcome → Outcome
then_outcome first second =
    record {
      words = first.words ++ second.words;
      effects = first.effects ++ second.effects;
      after = second.after;
      events = first.events ++ second.events;
      following = second.following;
    }

-- this outcome, after these effects
abbrev pub with_effects_first : List Effect → Outcome → Outcome
with_effects_first effects o = record o { effects = effects ++ o.effects }

-- the outcome of a turn that draws this pair
abbrev pub drawing : Pair → Outcome → Outcome
drawing pair o = with_effects_first (draws pair ∷ []) o

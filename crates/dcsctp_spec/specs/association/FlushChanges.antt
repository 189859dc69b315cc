-- A flush: packets under the peer's tag, the first with what its builder holds. What is to be sent, how much of it fits and how
-- many packets are sent is in the choices (RFC 9260, section 6.1).
use Rattle.std.specs.Prelude.{ℕ, Bool, true, false, ◌+◌, ◌%◌, ◌^◌, Option, None, Some, List, [], ◌∷◌, ◌++◌}
use Rattle.dcsctp_types.specs.declared.association.Held.{Held}
use Rattle.dcsctp_spec.specs.Packet.{Plain, Content, re_config}
use Rattle.dcsctp_spec.specs.Reconfiguration.{RequestedReset, outgoing_reset_request, number_answered}
use Rattle.dcsctp_spec.specs.association.Effect.{Effect, begins, emission_effects}
use Rattle.dcsctp_spec.specs.association.Choices.{plain_contents, Filling}

-- the number after this one (RFC 6525, section 4.1)
abbrev pub next_number : ℕ → ℕ
next_number number = (number + 1) % 2 ^ 32

-- RE-CONFIG with one Outgoing SSN Reset Request
abbrev pub reset_request : ℕ → RequestedReset → Content
reset_request number reset = re_config (outgoing_reset_request number (number_answered number reset.is_new) reset ∷ [])

-- The request of the next number is outstanding.
abbrev pub held_asking : Held → Held
held_asking held = record held { own_next = next_number held.own_next; own_outstanding = Some held.own_next }

-- the reset that is begun: none while one is outstanding
abbrev pub reset_to_begin : Option ℕ → Option RequestedReset → Option RequestedReset
reset_to_begin None reset = reset
reset_to_begin (Some number) reset = None

-- packets of chunks that speak of no association
abbrev pub further_packets : ℕ → List (List Plain) → List Effect
further_packets tag [] = []
further_packets tag (chunks ∷ packets) = emission_effects tag (plain_contents chunks) ++ further_packets tag packets

-- what the first packet has after the chunks that its builder held
abbrev pub chunks_behind : ℕ → Filling → Option RequestedReset → List Content
chunks_behind number filling None = plain_contents filling.acknowledgements ++ plain_contents filling.data_chunks
chunks_behind number filling (Some reset) = plain_contents filling.acknowledgements ++ reset_request number reset ∷ plain_contents filling.data_chunks

-- the packets of a flush, the first with these chunks in front
abbrev pub flush_packets : ℕ → ℕ → List Content → Filling → Option RequestedReset → List Effect
flush_packets tag number front filling reset = emission_effects tag (front ++ chunks_behind number filling reset) ++ further_packets tag filling.further

pub record FlushResult : Type 0 where
  pub held : Held
  pub effects : List Effect

-- with a reset or without
abbrev pub flushed_with : ℕ → Held → List Content → Filling → Option RequestedReset → FlushResult
flushed_with tag held front filling None = record { held = held; effects = flush_packets tag held.own_next front filling None }
flushed_with tag held front filling (Some reset) =
    record {
      held = held_asking held;
      effects = begins held.own_next ∷ flush_packets tag held.own_next front filling (Some reset);
    }

-- If no packet is allowed, nothing is sent, and no reset is begun.
abbrev pub flush_if_allowed : Bool → ℕ → Held → List Content → Filling → FlushResult
flush_if_allowed false tag held front filling = record { held = held; effects = [] }
flush_if_allowed true tag held front filling = flushed_with tag held front filling (reset_to_begin held.own_outstanding filling.reset)

-- a flush under this tag whose first packet begins with these chunks
abbrev pub flush : ℕ → Held → List Content → Filling → FlushResult
flush tag held front filling = flush_if_allowed filling.is_allowed tag held front filling

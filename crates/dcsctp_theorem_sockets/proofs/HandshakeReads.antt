-- A packet of one chunk that a fitting reader is handed is counted, and its chunk has its turn.
use Rattle.std.proofs.Common.{sym, false, ◌≡◌, ◌≢◌, ℕ, Bool, true, List, [], ◌∷◌, ◌⊎◌, refl, subst, ap, ◌∙◌}
use Rattle.dcsctp_spec_lemmas.specs.wire.Format.{IsPacket}
use Rattle.dcsctp_spec_lemmas.specs.wire.ReadsBack.{HasMinima, BuiltPacketReadsBack, BuiltPacketReadsAsItself}
use Rattle.dcsctp_spec_lemmas.specs.types.declared.options.Options.{Options}
use Rattle.dcsctp_spec_lemmas.specs.types.Settings.{FitsOptions, ports_of, wire_options}
use Rattle.dcsctp_spec_lemmas.specs.spec.Packet.{Content, Packet, Emission, chunk_out, packet_of_content, emission_bytes}
use Rattle.dcsctp_spec_lemmas.specs.spec.endpoint.Endpoint.{Endpoint, Core}
use Rattle.dcsctp_spec_lemmas.specs.spec.endpoint.Outcome.{Outcome, still}
use Rattle.dcsctp_spec_lemmas.specs.spec.endpoint.Following.{Following, next_chunk}
use Rattle.dcsctp_spec_lemmas.specs.spec.endpoint.Turn.{Input, arrival, packet_begins, chunk_input, packet_ends, has_data_chunk, BeginTurn, ContentTurn, arrival_outcome}
use Rattle.dcsctp_spec_lemmas.specs.spec.endpoint.MessageOutcomes.{awaits_opening}
use Rattle.dcsctp_spec_lemmas.specs.spec.endpoint.CallTurns.{asked_again, Transition, transition, Turns, AfterChunk, ChunkTurns, WholeTurns, AdmittedTurns, HandleInput, unreadable, readable}
use Rattle.dcsctp_spec_lemmas.specs.spec.Admission.{Admission, all_chunks, admits}
use Rattle.dcsctp_spec_runs.specs.Fitting.{SendablePacket}
use Rattle.dcsctp_theorem_sockets.proofs.Deliver.{built, fields_fit, reads_as_sent}
use Rattle.dcsctp_theorem_sockets.proofs.Idle.{OwesNothing, ends_still}

-- the laws of the wire
pub record Wire : Type 0 where
  pub back : BuiltPacketReadsBack
  pub as_itself : BuiltPacketReadsAsItself

-- A chunk that its reader takes, under a tag, as one socket sends it to the other.
pub record IsTaken (mine theirs : Options) (with_checksum : Bool) (tag : ℕ) (content : Content) : Type 0 where
  pub fits : FitsOptions theirs
  pub sendable : SendablePacket (record { tag = tag; contents = content ∷ [] })
  pub minima : HasMinima (chunk_out content)
  pub to_this_port : mine.local_port ≡ theirs.remote_port
  pub checked : (with_checksum ≡ true) ⊎ (mine.zero_checksum_alternate_error_detection_method.0 ≢ 0)

abbrev pub alone : Bool → ℕ → Content → Emission
alone with_checksum tag content = record { with_checksum = with_checksum; packet = record { tag = tag; contents = content ∷ [] } }

pub is_read : Wire → (mine theirs : Options) (with_checksum : Bool) (tag : ℕ) (content : Content) → IsTaken mine theirs with_checksum tag content
    → IsPacket (wire_options mine) (built (ports_of theirs) (record { tag = tag; contents = content ∷ [] })) (emission_bytes (ports_of theirs) (alone with_checksum tag content))
is_read law mine theirs with_checksum tag content h =
    let packet : Packet = record { tag = tag; contents = content ∷ [] } in
    law.back (wire_options mine) with_checksum (built (ports_of theirs) packet)
    (record { fields = fields_fit theirs packet h.fits h.sendable; minima = (h.minima, tt); echo_in_front = tt })
    (record { to_this_port = h.to_this_port; checked = h.checked })

-- a turn, by its input and its outcome
pub turned_as : (turn : Transition) (input : Input) (outcome : Outcome) → turn.input ≡ input → turn.outcome ≡ outcome → turn ≡ transition input outcome
turned_as turn input outcome is comes = ap (λ (i : Input). transition i turn.outcome) is ∙ ap (transition input) comes

abbrev pub counted_at : Endpoint → Endpoint
counted_at e = (arrival_outcome e).after

-- the turns of a packet of one chunk, with this outcome: it is counted, the chunk has its turn, and the packet ends
abbrev pub delivered : Endpoint → ℕ → Content → Outcome → List Transition
delivered e tag content o =
    transition arrival (arrival_outcome e)
    ∷ transition (packet_begins (content ∷ [])) (still (counted_at e))
    ∷ transition (chunk_input tag content) o
    ∷ transition packet_ends (still o.after)
    ∷ []

-- The turns of a packet with one chunk have the chunk's turn among them. They are `delivered`, if the rest of the packet isn't
-- dropped and nothing is to be acknowledged.
pub record Taken (e : Endpoint) (tag : ℕ) (content : Content) (turns : List Transition) : Type 0 where
  pub outcome : Outcome
  pub comes : ContentTurn (counted_at e) tag content outcome
  pub only : outcome.following ≡ next_chunk → OwesNothing outcome.after.queues.transfer → turns ≡ delivered e tag content outcome

ended_as : (e : Endpoint) (turns : List Transition) → OwesNothing e.queues.transfer → Turns e (packet_ends ∷ []) turns → turns ≡ transition packet_ends (still e) ∷ []
ended_as e [] owes turns = absurd turns
ended_as e (t ∷ []) owes turns = ap (λ (x : Transition). x ∷ []) (turned_as t packet_ends (still e) turns.0.is (ends_still e t.outcome owes turns.0.comes))
ended_as e (t ∷ u ∷ ts) owes turns = absurd turns.1

-- the end of the packet after the one chunk
behind_chunk : (t : Transition) (tag : ℕ) (turns : List Transition) → t.outcome.following ≡ next_chunk → OwesNothing t.outcome.after.queues.transfer
    → AfterChunk t.outcome.following (ChunkTurns t.outcome.after tag [] (packet_ends ∷ []) turns) (Turns t.outcome.after (packet_ends ∷ []) turns) (turns ≡ [])
    → turns ≡ transition packet_ends (still t.outcome.after) ∷ []
behind_chunk t tag turns goes_on owes rest =
    ended_as t.outcome.after turns owes
    (subst (λ (f : Following). AfterChunk f (ChunkTurns t.outcome.after tag [] (packet_ends ∷ []) turns) (Turns t.outcome.after (packet_ends ∷ []) turns) (turns ≡ [])) goes_on rest)

-- one chunk, and the end
pub record OneChunk (e : Endpoint) (tag : ℕ) (content : Content) (turns : List Transition) : Type 0 where
  pub outcome : Outcome
  pub comes : ContentTurn e tag content outcome
  pub only : outcome.following ≡ next_chunk → OwesNothing outcome.after.queues.transfer → turns ≡ transition (chunk_input tag content) outcome ∷ transition packet_ends (still outcome.after) ∷ []

one_chunk : (e : Endpoint) (tag : ℕ) (content : Content) (turns : List Transition) → ChunkTurns e tag (content ∷ []) (packet_ends ∷ []) turns → OneChunk e tag content turns
one_chunk e tag content [] turns = absurd turns
one_chunk e tag content (t ∷ ts) turns =
    record {
      outcome = t.outcome;
      comes = turns.0.comes;
      only = λ goes_on owes. ap (λ (x : Transition). x ∷ ts) (turned_as t (chunk_input tag content) t.outcome turns.0.is refl)
          ∙ ap (λ (xs : List Transition). transition (chunk_input tag content) t.outcome ∷ xs) (behind_chunk t tag ts goes_on owes turns.1);
    }

-- nothing happens before the chunk
behind_begin : (e : Endpoint) (tag : ℕ) (content : Content) (begun : Transition) (turns : List Transition) → begun ≡ transition (packet_begins (content ∷ [])) (still e)
    → OneChunk begun.outcome.after tag content turns → OneChunk e tag content turns
behind_begin e tag content begun turns is h = subst (λ (t : Transition). OneChunk t.outcome.after tag content turns) is h

-- no shutdown waits after a turn, nor after another name of it
asks_none : {t u : Transition} → t ≡ u → awaits_opening t.outcome.after t.outcome.after.core ≡ false → awaits_opening u.outcome.after u.outcome.after.core ≡ false
asks_none is none = subst (λ (x : Transition). awaits_opening x.outcome.after x.outcome.after.core ≡ false) is none

worked_alone : (e : Endpoint) (tag : ℕ) (content : Content) (counted : Transition) (turns : List Transition) → counted ≡ transition arrival (arrival_outcome e)
    → awaits_opening e e.core ≡ false
    → ((o : Outcome) → BeginTurn counted.outcome.after counted.outcome.after.core (has_data_chunk counted.outcome.after.options.follow_rfc (content ∷ [])) o → o ≡ still counted.outcome.after)
    → WholeTurns counted.outcome.after (record { tag = tag; contents = content ∷ [] }) turns → Taken e tag content (counted ∷ turns)
worked_alone e tag content counted [] is none rests turns = absurd turns
worked_alone e tag content counted (begun ∷ ts) is none rests turns =
    let first : begun ≡ transition (packet_begins (content ∷ [])) (still counted.outcome.after) = turned_as begun (packet_begins (content ∷ [])) _ turns.0.is (rests begun.outcome turns.0.comes) in
    let asks : awaits_opening begun.outcome.after begun.outcome.after.core ≡ false = asks_none (sym first) (asks_none (sym is) none) in
    let h : OneChunk counted.outcome.after tag content ts = behind_begin counted.outcome.after tag content begun ts first (one_chunk begun.outcome.after tag content ts
    (subst (λ (asks : Bool). ChunkTurns begun.outcome.after tag (content ∷ []) (packet_ends ∷ asked_again asks) ts) asks turns.1)) in
    record {
      outcome = h.outcome;
      comes = subst (λ (t : Transition). ContentTurn t.outcome.after tag content h.outcome) is h.comes;
      only = λ goes_on owes.
          ap (λ (xs : List Transition). counted ∷ begun ∷ xs) (h.only goes_on owes)
          ∙ ap (λ (t : Transition). counted ∷ t ∷ transition (chunk_input tag content) h.outcome ∷ transition packet_ends (still h.outcome.after) ∷ []) first
          ∙ ap (λ (t : Transition). t ∷ transition (packet_begins (content ∷ [])) (still t.outcome.after) ∷ transition (chunk_input tag content) h.outcome ∷ transition packet_ends (still h.outcome.after) ∷ []) is;
    }

pub taken : Wire → (e : Endpoint) (theirs : Options) (with_checksum : Bool) (tag : ℕ) (content : Content) (turns : List Transition)
    → IsTaken e.options theirs with_checksum tag content → admits e.core (record { tag = tag; contents = content ∷ [] }) ≡ all_chunks → awaits_opening e e.core ≡ false
    → ((counted : Endpoint) (o : Outcome) → BeginTurn counted e.core (has_data_chunk counted.options.follow_rfc (content ∷ [])) o → o ≡ still counted)
    → HandleInput e (emission_bytes (ports_of theirs) (alone with_checksum tag content)) turns → Taken e tag content turns
taken law e theirs with_checksum tag content turns h admitted none_asked rests (unreadable ts none reads) = absurd (none _ (is_read law e.options theirs with_checksum tag content h))
taken law e theirs with_checksum tag content turns h admitted none_asked rests (readable packet counted ts is_packet counting reads) =
    let sent_packet : Packet = record { tag = tag; contents = content ∷ [] } in
    let is : packet_of_content packet ≡ sent_packet = reads_as_sent law.as_itself e.options theirs (alone with_checksum tag content) packet h.fits h.sendable is_packet in
    let here : AdmittedTurns counted.outcome.after sent_packet (admits e.core sent_packet) ts = subst (λ (p : Packet). AdmittedTurns counted.outcome.after p (admits e.core p) ts) is reads in
    let worked : WholeTurns counted.outcome.after sent_packet ts = subst (λ (a : Admission). AdmittedTurns counted.outcome.after sent_packet a ts) admitted here in
    let counts : counted ≡ transition arrival (arrival_outcome e) = turned_as counted arrival (arrival_outcome e) counting.is counting.comes in
    let same_core : counted.outcome.after.core ≡ e.core = ap (λ (t : Transition). t.outcome.after.core) counts in
    worked_alone e tag content counted ts counts none_asked
    (λ o begin. rests counted.outcome.after o (subst (λ (c : Core). BeginTurn counted.outcome.after c (has_data_chunk counted.outcome.after.options.follow_rfc (content ∷ [])) o) same_core begin)) worked

-- What comes of a delivery at one socket is moves of its side in the machine that agreement is
-- proved on.
use Rattle.std.proofs.Common.{false, true, Bool, ◌≡◌, ◌^◌, ◌<◌, ℕ, Option, None, Some, List, [], ◌∷◌, ◌++◌, inl, inr, refl, sym, subst, ap, append_assoc}
use Rattle.std.specs.List.{AllByRecursion, slice_get}
use Rattle.dcsctp_spec_lemmas.specs.wire.Format.{IsPacket}
use Rattle.dcsctp_spec_lemmas.specs.types.declared.options.Options.{Options}
use Rattle.dcsctp_spec_lemmas.specs.types.Settings.{SameOptions, FitsOptions, wire_options, ports_of}
use Rattle.dcsctp_spec_lemmas.specs.spec.Packet.{Content, Packet, packet_of_content, emission_bytes}
use Rattle.dcsctp_spec_lemmas.specs.spec.endpoint.Endpoint.{Endpoint, Core, fresh_endpoint}
use Rattle.dcsctp_spec_lemmas.specs.spec.endpoint.Outcome.{Outcome, still}
use Rattle.dcsctp_spec_lemmas.specs.spec.endpoint.Turn.{act_input, Input, arrival, refusal, packet_ends, has_data_chunk, unreadable_text, arrival_outcome, refusal_outcome}
use Rattle.dcsctp_spec_lemmas.specs.spec.endpoint.MessageOutcomes.{awaits_opening}
use Rattle.dcsctp_spec_lemmas.specs.spec.endpoint.CallTurns.{packet_tail, asked_again, Transition, Turns, ChunkTurns, WholeTurns, AdmittedTurns, HandleInput, unreadable, readable, events_of}
use Rattle.dcsctp_spec_lemmas.specs.spec.Admission.{Admission, all_chunks, shutdown_acks_alone, refused, admits, shutdown_acks_of}
use Rattle.dcsctp_spec_lemmas.specs.spec.association.Controlled.{IsControlled, IsControlledAct}
use Rattle.dcsctp_spec_lemmas.specs.spec.association.Effect.{Effect, sends, Change, no_change}
use Rattle.dcsctp_spec_lemmas.specs.spec.association.Acts.{flushes, shut_down, shutdown_repeats, act_change}
use Rattle.dcsctp_spec_runs.specs.Laws.{IsRest, dropped, ended, AreChunkTurns}
use Rattle.dcsctp_spec_runs.specs.Past.{HasEffect}
use Rattle.dcsctp_spec_runs.specs.World.{SideState, after_changes, ChunkChanges, PacketChanges, worked_whole, worked_acks, receives}
use Rattle.dcsctp_spec_runs.specs.Sockets.{endpoint_after, packets_shown, DeliveryTurns}
use Rattle.dcsctp_spec_runs.specs.Fitting.{Sendable, SendablePacket, TurnFits}
use Rattle.dcsctp_spec_lemmas.proofs.TurnLists.{after_all-append}
use Rattle.dcsctp_spec_laws.proofs.ControlLemmas.{begin_stands, repeated_keeps}
use Rattle.dcsctp_spec_laws.proofs.DataLemmas.{flushed_act, end_at}
use Rattle.dcsctp_spec_runs.proofs.DeliveryLemmas.{same_options_move}
use Rattle.dcsctp_theorem_association.proofs.Alone.{packet_turns}
use Rattle.dcsctp_theorem_sockets.proofs.DataFits.{end_fits}
use Rattle.dcsctp_theorem_sockets.proofs.Deliver.{tail_fits, IsSent, sent_at, reads_as_sent, Fits, ChunksFit, EndFits, chunk_turns_fit, nothing_ends, acks_sendable}
use Rattle.dcsctp_theorem_sockets.proofs.Follow.{Went, Followed, after_last, follow_turns, follow_idle}
use Rattle.dcsctp_theorem_sockets.proofs.ShutdownFits.{shut_down_fits, begin_fits}
use Rattle.dcsctp_theorem_sockets.proofs.Moves.{act_moves, Below, SideMoves, rests, nothing_happens, rests_then, moves_then, act_then, flush_moves, none_rests}

-- ---- a packet that is counted, and one that is refused

-- a turn that leaves the association, and sends nothing
follow_still : (options : Options) (turns : List Transition) (side : SideState) (t : Transition) (o : Outcome) → Followed options turns side → t.outcome ≡ o
    → IsControlled (endpoint_after options turns) o (no_change (endpoint_after options turns).core) → TurnFits o → Followed options (turns ++ t ∷ []) side
follow_still options turns side t o h is controlled fits =
    follow_idle options turns side t h
    (subst (λ (x : Outcome). IsControlled (endpoint_after options turns) x (no_change (endpoint_after options turns).core)) (sym is) controlled) (subst TurnFits (sym is) fits)

follow_counted : (options : Options) (turns : List Transition) (side : SideState) (t : Transition) → Followed options turns side → t.outcome ≡ arrival_outcome (endpoint_after options turns)
    → Followed options (turns ++ t ∷ []) side
follow_counted options turns side t h is =
    follow_still options turns side t (arrival_outcome (endpoint_after options turns)) h is (record { core = refl; options = refl; observations = refl; effects = refl; following = refl })
    (record { after = record { valid = h.fits.valid; options = h.fits.options; core = h.fits.core; t1 = h.fits.t1 }; sends = tt })

follow_refused : (options : Options) (turns : List Transition) (side : SideState) (t : Transition) (text : List ℕ) → Followed options turns side
    → t.outcome ≡ refusal_outcome (endpoint_after options turns) text → Followed options (turns ++ t ∷ []) side
follow_refused options turns side t text h is =
    follow_still options turns side t (refusal_outcome (endpoint_after options turns) text) h is (record { core = refl; options = refl; observations = refl; effects = refl; following = refl })
    (record { after = h.fits; sends = (tt, tt) })

follow_nothing : (options : Options) (turns : List Transition) (side : SideState) (t : Transition) → Followed options turns side
    → t.outcome ≡ still (endpoint_after options turns) → Followed options (turns ++ t ∷ []) side
follow_nothing options turns side t h is =
    follow_still options turns side t (still (endpoint_after options turns)) h is (record { core = refl; options = refl; observations = refl; effects = refl; following = refl })
    (record { after = h.fits; sends = tt })

refused_rests : (options : Options) (turns : List Transition) (side : SideState) (more : List Transition) (text : List ℕ) → Followed options turns side
    → Turns (endpoint_after options turns) (refusal text ∷ []) more → Followed options (turns ++ more) side
refused_rests options turns side [] text h refusing = absurd refusing
refused_rests options turns side (t ∷ []) text h refusing = follow_refused options turns side t text h refusing.0.comes
refused_rests options turns side (t ∷ next ∷ more) text h refusing = absurd refusing.1

unread_rests : (options : Options) (turns : List Transition) (side : SideState) (more : List Transition) → Followed options turns side
    → Turns (endpoint_after options turns) (arrival ∷ refusal unreadable_text ∷ []) more → Followed options (turns ++ more) side
unread_rests options turns side [] h unreading = absurd unreading
unread_rests options turns side (counted ∷ more) h unreading =
    let first : Followed options (turns ++ counted ∷ []) side = follow_counted options turns side counted h unreading.0.comes in
    subst (λ (ts : List Transition). Followed options ts side) (append_assoc turns (counted ∷ []) more)
    (refused_rests options (turns ++ counted ∷ []) side more unreadable_text first
    (subst (λ (e : Endpoint). Turns e (refusal unreadable_text ∷ []) more) (sym (after_last _ turns counted)) unreading.1))

-- ---- the end of a packet

-- It is a flush of the association.
end_moves : Below → (options : Options) (turns : List Transition) (side : SideState) (theirs : List Effect) (more : List Transition) → Followed options turns side
    → Turns (endpoint_after options turns) (packet_ends ∷ []) more → SideMoves options turns side theirs more
end_moves law options turns side theirs [] h taken = absurd taken
end_moves law options turns side theirs (t ∷ []) h taken =
    let e : Endpoint = endpoint_after options turns in
    flush_moves law options turns side theirs t h (flushed_act e t.outcome (end_at e e.queues.transfer t.outcome taken.0.comes)) (end_fits e e.queues.transfer t.outcome taken.0.comes h.fits)
end_moves law options turns side theirs (t ∷ next ∷ more) h taken = absurd taken.1

abbrev EndMoves : List Input → Type 0
EndMoves tail = (options : Options) (turns : List Transition) (side : SideState) (theirs : List Effect) (more : List Transition) → Followed options turns side
    → Turns (endpoint_after options turns) tail more → SideMoves options turns side theirs more

pub shut_down_moves : Below → (options : Options) (turns : List Transition) (side : SideState) (theirs : List Effect) (more : List Transition) → Followed options turns side
    → Turns (endpoint_after options turns) (act_input shut_down ∷ []) more → SideMoves options turns side theirs more
shut_down_moves law options turns side theirs more h turn =
    let e : Endpoint = endpoint_after options turns in
    act_moves law options turns side theirs shut_down more (λ p q core choices same. ap (λ (x : Options). act_change x core shut_down choices) same) h (λ o is. subst TurnFits (sym is) (shut_down_fits e e.core h.fits h.fits.core)) turn

-- what comes after the chunks of a packet
tail_moves : Below → (asks : Bool) → EndMoves (packet_ends ∷ asked_again asks)
tail_moves law false options turns side theirs more h taken = end_moves law options turns side theirs more h taken
tail_moves law true options turns side theirs [] h taken = absurd taken
tail_moves law true options turns side theirs (t ∷ more) h taken =
    let e : Endpoint = endpoint_after options turns in
    act_then law options turns side theirs flushes t more (λ p q core choices same. refl) h (flushed_act e t.outcome (end_at e e.queues.transfer t.outcome taken.0.comes))
    (end_fits e e.queues.transfer t.outcome taken.0.comes h.fits)
    (λ choices follows. shut_down_moves law options (turns ++ t ∷ []) _ theirs more follows
    (subst (λ (x : Endpoint). Turns x (act_input shut_down ∷ []) more) (sym (after_last _ turns t)) taken.1))

rest_moves : (tail : List Input) (options : Options) (turns : List Transition) (side : SideState) (theirs : List Effect) (more : List Transition) → EndMoves tail → Followed options turns side
    → IsRest (endpoint_after options turns) tail more → SideMoves options turns side theirs more
rest_moves tail options turns side theirs more end h (dropped none) = nothing_happens options turns side theirs more h none
rest_moves tail options turns side theirs more end h (ended taken) = end options turns side theirs more h taken

-- ---- a packet whose chunks are handled

-- the changes of chunks at an endpoint are changes at its side
at_side : (options : Options) (turns : List Transition) (side : SideState) (tag : ℕ) (contents : List Content) (changes : List Change) → Followed options turns side
    → ChunkChanges (endpoint_after options turns).options (endpoint_after options turns).core tag contents changes → ChunkChanges side.options side.core tag contents changes
at_side options turns side tag contents changes h moves =
    same_options_move side.options (endpoint_after options turns).options side.core tag contents changes
    (subst (λ (p : Options). SameOptions p (endpoint_after options turns).options) (sym h.side_options) h.own_options)
    (subst (λ (core : Core). ChunkChanges (endpoint_after options turns).options core tag contents changes) (sym h.core) moves)

-- the turns of the first of two lists fit, where all do
front_fits : (xs ys : List Transition) → AllByRecursion Fits (xs ++ ys) → AllByRecursion Fits xs
front_fits [] ys each = tt
front_fits (x ∷ xs) ys each = (each.0, front_fits xs ys each.1)

chunks_move : Below → (options : Options) (turns : List Transition) (side : SideState) (theirs : List Effect) (packet : Packet) (contents : List Content) (tail : List Input) (more : List Transition)
    → Followed options turns side → HasEffect (sends packet) theirs → packet.tag < 2 ^ 32 → AllByRecursion Sendable contents → EndFits tail → EndMoves tail
    → ((changes : List Change) → ChunkChanges side.options side.core packet.tag contents changes → PacketChanges side.options side.core packet changes)
    → ChunkTurns (endpoint_after options turns) packet.tag contents tail more → SideMoves options turns side theirs more
chunks_move law options turns side theirs packet contents tail more h was_sent tagged good end_fits end to_packet taken =
    let e : Endpoint = endpoint_after options turns in
    let fits : ChunksFit e contents more = chunk_turns_fit law.offers e packet.tag contents tail more taken h.fits tagged good end_fits in
    let are : AreChunkTurns e packet.tag contents tail more = law.packets e packet.tag contents tail more taken fits.contents_fit in
    let of_packet : PacketChanges side.options side.core packet are.changes = to_packet are.changes (at_side options turns side packet.tag contents are.changes h are.moves) in
    let worked : Followed options (turns ++ are.chunks) (after_changes side are.changes) =
    follow_turns law.effects_mean options turns side are.chunks are.changes h (packet_turns side.options side.core packet are.changes of_packet) are.controlled
    (front_fits are.chunks are.rest (subst (λ (ts : List Transition). AllByRecursion Fits ts) are.parts fits.turns_fit)) in
    subst (SideMoves options turns side theirs) (sym are.parts)
    (moves_then options turns side theirs are.chunks are.rest (receives packet) are.changes (was_sent, of_packet)
    (rest_moves tail options (turns ++ are.chunks) (after_changes side are.changes) theirs are.rest end worked
    (subst (λ (x : Endpoint). IsRest x tail are.rest) (sym (after_all-append (fresh_endpoint options) turns are.chunks)) are.is_rest)))

-- its chunks, after the turn before them
behind_begun : Below → (options : Options) (turns : List Transition) (side : SideState) (theirs : List Effect) (packet : Packet) (begun : Transition) (more : List Transition)
    → admits side.core packet ≡ all_chunks → Followed options (turns ++ begun ∷ []) side → HasEffect (sends packet) theirs → SendablePacket packet
    → ChunkTurns begun.outcome.after packet.tag packet.contents (packet_tail begun.outcome.after) more → SideMoves options (turns ++ begun ∷ []) side theirs more
behind_begun law options turns side theirs packet begun more is first was_sent good taken =
    chunks_move law options (turns ++ begun ∷ []) side theirs packet packet.contents (packet_tail begun.outcome.after) more first was_sent good.tag good.contents
    (tail_fits (awaits_opening begun.outcome.after begun.outcome.after.core)) (tail_moves law (awaits_opening begun.outcome.after begun.outcome.after.core))
    (λ changes moves. worked_whole (law.admitted.whole side.core packet is) moves)
    (subst (λ (x : Endpoint). ChunkTurns x packet.tag packet.contents (packet_tail begun.outcome.after) more) (sym (after_last _ turns begun)) taken)

-- A SHUTDOWN that is sent before them is a move of its own, and the association stays.
begun_by_act : Below → (options : Options) (turns : List Transition) (side : SideState) (theirs : List Effect) (packet : Packet) (begun : Transition) (more : List Transition)
    → admits side.core packet ≡ all_chunks → Followed options turns side → HasEffect (sends packet) theirs → SendablePacket packet
    → IsControlledAct (endpoint_after options turns) shutdown_repeats begun.outcome → TurnFits begun.outcome
    → ChunkTurns begun.outcome.after packet.tag packet.contents (packet_tail begun.outcome.after) more → SideMoves options turns side theirs (begun ∷ more)
begun_by_act law options turns side theirs packet begun more is h was_sent good repeats fits taken =
    act_then law options turns side theirs shutdown_repeats begun more (λ p q core choices same. refl) h repeats fits
    (λ choices follows. behind_begun law options turns (after_changes side (act_change side.options side.core shutdown_repeats choices ∷ [])) theirs packet begun more
    (subst (λ (core : Core). admits core packet ≡ all_chunks) (sym (repeated_keeps side.options side.core choices)) is) follows was_sent good taken)

whole_moves : Below → (options : Options) (turns : List Transition) (side : SideState) (theirs : List Effect) (packet : Packet) (more : List Transition)
    → admits side.core packet ≡ all_chunks → Followed options turns side → HasEffect (sends packet) theirs → SendablePacket packet
    → WholeTurns (endpoint_after options turns) packet more → SideMoves options turns side theirs more
whole_moves law options turns side theirs packet [] is h was_sent good taken = absurd taken
whole_moves law options turns side theirs packet (begun ∷ more) is h was_sent good taken =
    let e : Endpoint = endpoint_after options turns in
    elim (begin_stands e e.core (has_data_chunk e.options.follow_rfc packet.contents) begun.outcome refl taken.0.comes) [
      | inl nothing ↦ rests_then options turns side theirs (begun ∷ []) more
          (behind_begun law options turns side theirs packet begun more is (follow_nothing options turns side begun h nothing) was_sent good taken.1)
      | inr repeats ↦ begun_by_act law options turns side theirs packet begun more is h was_sent good repeats
          (begin_fits e e.core (has_data_chunk e.options.follow_rfc packet.contents) begun.outcome h.fits h.fits.core taken.0.comes) taken.1
    ]

admitted_moves : Below → (options : Options) (turns : List Transition) (side : SideState) (theirs : List Effect) (packet : Packet) (admission : Admission) (more : List Transition)
    → admits side.core packet ≡ admission → Followed options turns side → HasEffect (sends packet) theirs → SendablePacket packet
    → AdmittedTurns (endpoint_after options turns) packet admission more → SideMoves options turns side theirs more
admitted_moves law options turns side theirs packet all_chunks more is h was_sent good taken = whole_moves law options turns side theirs packet more is h was_sent good taken
admitted_moves law options turns side theirs packet shutdown_acks_alone more is h was_sent good taken =
    chunks_move law options turns side theirs packet (shutdown_acks_of packet.contents) [] more h was_sent good.tag (acks_sendable packet.contents good.contents) nothing_ends none_rests
    (λ changes moves. worked_acks moves) taken
admitted_moves law options turns side theirs packet (refused text) more is h was_sent good refusing =
    rests options turns side theirs more (refused_rests options turns side more text h refusing)

-- ---- a delivery

input_moves : Below → (options other : Options) (turns : List Transition) (side : SideState) (theirs : List Effect) (bytes : List ℕ) (more : List Transition) → Followed options turns side → FitsOptions other
    → IsSent (Went theirs) (emission_bytes (ports_of other)) bytes → HandleInput (endpoint_after options turns) bytes more → SideMoves options turns side theirs more
input_moves law options other turns side theirs bytes more h fits out (unreadable ts none unreading) = rests options turns side theirs ts (unread_rests options turns side ts h unreading)
input_moves law options other turns side theirs bytes more h fits out (readable packet counted ts is_packet counting admitted) =
    let e : Endpoint = endpoint_after options turns in
    let sent_packet : Packet = out.emission.packet in
    let first : Followed options (turns ++ counted ∷ []) side = follow_counted options turns side counted h counting.comes in
    let is : packet_of_content packet ≡ sent_packet =
    reads_as_sent law.built e.options other out.emission packet fits out.good.sendable (subst (λ (bs : List ℕ). IsPacket (wire_options e.options) packet bs) out.is is_packet) in
    let here : AdmittedTurns counted.outcome.after sent_packet (admits e.core sent_packet) ts =
    subst (λ (p : Packet). AdmittedTurns counted.outcome.after p (admits e.core p) ts) is admitted in
    let at_end : AdmittedTurns (endpoint_after options (turns ++ counted ∷ [])) sent_packet (admits e.core sent_packet) ts =
    subst (λ (x : Endpoint). AdmittedTurns x sent_packet (admits e.core sent_packet) ts) (sym (after_last _ turns counted)) here in
    rests_then options turns side theirs (counted ∷ []) ts
    (admitted_moves law options (turns ++ counted ∷ []) side theirs sent_packet (admits e.core sent_packet) ts
    (ap (λ (core : Core). admits core sent_packet) h.core) first out.good.was_sent out.good.sendable at_end)

pub delivery_moves : Below → (options other : Options) (turns others : List Transition) (side : SideState) (theirs : SideState) (index : ℕ) (found : Option (List ℕ)) (more : List Transition)
    → Followed options turns side → Followed other others theirs → FitsOptions other → slice_get (packets_shown other others) index ≡ found
    → DeliveryTurns (endpoint_after options turns) found more → SideMoves options turns side theirs.past more
delivery_moves law options other turns others side theirs index None more h k fits is none = nothing_happens options turns side theirs.past more h none
delivery_moves law options other turns others side theirs index (Some bytes) more h k fits is input =
    input_moves law options other turns side theirs.past bytes more h fits (sent_at (Went theirs.past) (emission_bytes (ports_of other)) (events_of others) index bytes k.went is) input

-- What is known of each side of a run, and so of each first part of it.
use Rattle.std.proofs.Common.{◌≡◌, ℕ, List, [], ◌∷◌, ◌++◌, length, refl, sym, ◌∙◌, ap, arith, subst, append_assoc, ◌+◌}
use Rattle.dcsctp_spec_lemmas.specs.types.declared.options.Options.{Options}
use Rattle.dcsctp_spec_lemmas.specs.types.declared.schedule.Side.{Side}
use Rattle.dcsctp_spec_lemmas.specs.types.declared.schedule.Side.TheVariants as sides
use Rattle.dcsctp_spec_lemmas.specs.spec.endpoint.CallTurns.{Transition, IsTurn, AlongTurns, after_all, effects_of, events_of}
use Rattle.dcsctp_spec_lemmas.specs.spec.endpoint.Endpoint.{Endpoint, fresh_endpoint}
use Rattle.std.proofs.lemmas.List.{length-append}
use Rattle.dcsctp_spec_lemmas.specs.spec.endpoint.Event.{Event, packets_of_events}
use Rattle.dcsctp_spec_runs.specs.Fitting.{AllSent, IsSendable}
use Rattle.dcsctp_spec_lemmas.specs.spec.Packet.{Emission}
use Rattle.dcsctp_spec_runs.specs.Past.{Each, HasEffect}
use Rattle.dcsctp_spec_runs.specs.Sockets.{Both, side_turns_added, endpoint_after}
use Rattle.dcsctp_spec_lemmas.specs.spec.endpoint.Turn.{Input, Turn}
use Rattle.dcsctp_spec_runs.specs.World.{after_effects}
use Rattle.dcsctp_spec_lemmas.specs.spec.association.Effect.{Effect, AssociationIdentity, holds}
use Rattle.dcsctp_spec_lemmas.specs.types.queues.Messages.{MessageContent}
use Rattle.dcsctp_spec_lemmas.proofs.TurnLists.{effects_of-append, events_of-append}
use Rattle.dcsctp_theorem_association.proofs.Growth.{after_effects-append, after_within}
use Rattle.dcsctp_theorem_sockets.specs.Agreement.{recorded_past}
use Rattle.dcsctp_theorem_sockets.proofs.Bursts.{packets_of_events-append}
use Rattle.dcsctp_delivery_directions.specs.sending.ChunkCounts.{chunks_to}
use Rattle.dcsctp_delivery_directions.specs.directions.Requests.{requests_to}
use Rattle.dcsctp_delivery_directions.proofs.directions.RequestCounts.{requests_more_to}
use Rattle.std.specs.List.{AllByRecursion}
use Rattle.dcsctp_delivery_directions.specs.sending.Log.{Message}
use Rattle.dcsctp_delivery_sockets.specs.turns.Actions.{queued_after}
use Rattle.dcsctp_delivery_sockets.specs.associations.Ends.{ResetCalls}
use Rattle.dcsctp_delivery_sockets.specs.associations.Laws.{TellsPerformed}
use Rattle.dcsctp_delivery_sockets.specs.sockets.Acts.{queued_through, AreTurns, ResetsThrough}
use Rattle.dcsctp_delivery_sockets.specs.sockets.Echoes.{GoesToMaker}
use Rattle.dcsctp_delivery_sockets.specs.sockets.UserMessages.{messages_of_input, messages_of_turns}
use Rattle.dcsctp_delivery_sockets.specs.sockets.Delivery.{IsOfNewTagsBut, MatchOrUnmatched, SendsLittle, SendsLittleTogether, IsUnrefused}
use Rattle.dcsctp_delivery_sockets.proofs.associations.Counting.{more_to}
use Rattle.dcsctp_delivery_sockets.proofs.sockets.KnownPeers.{each_earlier, IsMove, RanTo, run_starts, run_through}
use Rattle.dcsctp_delivery_sockets.proofs.sockets.Replaced.{each_before, match_before}

-- ---- lists of turns and of events

module _ (Good : Endpoint → Transition → Type 0) where
  pub along_front : (e : Endpoint) (turns more : List Transition) → AlongTurns Good e (turns ++ more) → AlongTurns Good e turns
  along_front e [] more along = tt
  along_front e (t ∷ turns) more along = (along.0, along_front t.outcome.after turns more along.1)

  pub along_rest : (e : Endpoint) (turns more : List Transition) → AlongTurns Good e (turns ++ more) → AlongTurns Good (after_all e turns) more
  along_rest e [] more along = along
  along_rest e (t ∷ turns) more along = along_rest t.outcome.after turns more along.1

resets_front : (reset_calls : ResetCalls) (e : Endpoint) (queued : List Message) (turns more : List Transition) → ResetsThrough reset_calls e queued (turns ++ more) → ResetsThrough reset_calls e queued turns
resets_front reset_calls e queued [] more along = tt
resets_front reset_calls e queued (t ∷ turns) more along = (along.0, resets_front reset_calls t.outcome.after (queued_after e t.input queued) turns more along.1)

resets_rest : (reset_calls : ResetCalls) (e : Endpoint) (queued : List Message) (turns more : List Transition) → ResetsThrough reset_calls e queued (turns ++ more) → ResetsThrough reset_calls (after_all e turns) (queued_through e turns queued) more
resets_rest reset_calls e queued [] more along = along
resets_rest reset_calls e queued (t ∷ turns) more along = resets_rest reset_calls t.outcome.after (queued_after e t.input queued) turns more along.1

tells_front : (turns more : List Transition) → AllByRecursion (λ turn. TellsPerformed turn.outcome) (turns ++ more) → AllByRecursion (λ turn. TellsPerformed turn.outcome) turns
tells_front [] more each = tt
tells_front (t ∷ turns) more each = (each.0, tells_front turns more each.1)

tells_rest : (turns more : List Transition) → AllByRecursion (λ turn. TellsPerformed turn.outcome) (turns ++ more) → AllByRecursion (λ turn. TellsPerformed turn.outcome) more
tells_rest [] more each = each
tells_rest (t ∷ turns) more each = tells_rest turns more each.1

pub sent_front : (Good : Emission → Type 0) (events more : List (Event Emission)) → AllSent Good (events ++ more) → AllSent Good events
sent_front Good [] more each = tt
sent_front Good (event ∷ events) more each = (each.0, sent_front Good events more each.1)

abbrev pub IsOwn : Endpoint → Transition → Type 0
IsOwn e turn = Turn e turn.input turn.outcome

pub own_turn : (e : Endpoint) (input : Input) (turn : Transition) → IsTurn e input turn → IsOwn e turn
own_turn e input turn is = subst (λ (i : Input). Turn e i turn.outcome) (sym is.is) is.comes

are_turns : (e : Endpoint) (turns : List Transition) → AlongTurns IsOwn e turns → AreTurns e turns
are_turns e [] along = tt
are_turns e (t ∷ turns) along = (along.0, are_turns t.outcome.after turns along.1)

pub past_more : (turns more : List Transition) → recorded_past (turns ++ more) ≡ after_effects (effects_of more) (recorded_past turns)
past_more turns more = ap (λ (effects : List Effect). after_effects effects []) (effects_of-append turns more) ∙ after_effects-append (effects_of turns) (effects_of more) []

sent_more : (e : Endpoint) (turns more : List Transition) → messages_of_turns e (turns ++ more) ≡ messages_of_turns e turns ++ messages_of_turns (after_all e turns) more
sent_more e [] more = refl
sent_more e (t ∷ turns) more =
    ap (λ (l : List MessageContent). messages_of_input e t.input ++ l) (sent_more t.outcome.after turns more) ∙ sym (append_assoc (messages_of_input e t.input) (messages_of_turns t.outcome.after turns) (messages_of_turns (after_all t.outcome.after turns) more))

-- ---- one side

-- a packet that a side sent
pub record GoodPacket (emission : Emission) : Type 0 where
  pub sendable : IsSendable emission
  pub goes : GoesToMaker emission

pub record SideKnown (reset_calls : ResetCalls) (options : Options) (theirs : List Effect) (turns : List Transition) : Type 0 where
  pub own : AlongTurns IsOwn (fresh_endpoint options) turns
  pub moves : AlongTurns IsMove (fresh_endpoint options) turns
  pub refused : AlongTurns (IsUnrefused reset_calls.in_turn) (fresh_endpoint options) turns
  pub resets : ResetsThrough reset_calls (fresh_endpoint options) [] turns
  pub tells : AllByRecursion (λ turn. TellsPerformed turn.outcome) turns
  pub packets : AllSent GoodPacket (events_of turns)
  pub tags : Each (IsOfNewTagsBut options theirs) (recorded_past turns)
  pub little : SendsLittle options turns
  pub together : SendsLittleTogether turns

pub side_front : (reset_calls : ResetCalls) (options : Options) (theirs : List Effect) (turns more : List Transition) → SideKnown reset_calls options theirs (turns ++ more) → SideKnown reset_calls options theirs turns
side_front reset_calls options theirs turns more h =
    record {
      own = along_front IsOwn (fresh_endpoint options) turns more h.own;
      moves = along_front IsMove (fresh_endpoint options) turns more h.moves;
      refused = along_front (IsUnrefused reset_calls.in_turn) (fresh_endpoint options) turns more h.refused;
      resets = resets_front reset_calls (fresh_endpoint options) [] turns more h.resets;
      tells = tells_front turns more h.tells;
      packets = sent_front GoodPacket (events_of turns) (events_of more) (subst (AllSent GoodPacket) (events_of-append turns more) h.packets);
      tags = each_earlier (IsOfNewTagsBut options theirs) (effects_of more) (recorded_past turns) (subst (Each (IsOfNewTagsBut options theirs)) (past_more turns more) h.tags);
      together = λ old link has has' same other.
          (let few = h.together old link (later old has) (later link has') same other in
          let one = went old.peer.tag in
          let two = went link.peer.tag in
          omega (arith, few, one, two));
      little =
          record {
            messages =
                (let both = ap (λ (l : List MessageContent). length l) (sent_more (fresh_endpoint options) turns more)
                ∙ length-append (messages_of_turns (fresh_endpoint options) turns) (messages_of_turns (endpoint_after options turns) more) in
                let few = h.little.messages in
                omega (arith, both, few));
            chunks = λ tag.
                (let both = ap (chunks_to tag) (ap packets_of_events (events_of-append turns more) ∙ packets_of_events-append (events_of turns) (events_of more))
                ∙ more_to tag (packets_of_events (events_of turns)) (packets_of_events (events_of more)) in
                let few = h.little.chunks tag in
                omega (arith, both, few));
            requests = λ tag.
                (let both = ap (requests_to tag) (ap packets_of_events (events_of-append turns more) ∙ packets_of_events-append (events_of turns) (events_of more))
                ∙ requests_more_to tag (packets_of_events (events_of turns)) (packets_of_events (events_of more)) in
                let few = h.little.requests tag in
                omega (arith, both, few));
          };
    }
  where
    later : (link : AssociationIdentity) → HasEffect (holds link) (recorded_past turns) → HasEffect (holds link) (recorded_past (turns ++ more))
    later link has = subst (HasEffect (holds link)) (sym (past_more turns more)) (after_within (effects_of more) (recorded_past turns) (holds link) has)

    went : (tag : ℕ) → chunks_to tag (packets_of_events (events_of (turns ++ more))) ≡ chunks_to tag (packets_of_events (events_of turns)) + chunks_to tag (packets_of_events (events_of more))
    went tag = ap (chunks_to tag) (ap packets_of_events (events_of-append turns more) ∙ packets_of_events-append (events_of turns) (events_of more)) ∙ more_to tag (packets_of_events (events_of turns)) (packets_of_events (events_of more))

-- So it is of less that the other side did.
pub side_before : (reset_calls : ResetCalls) (options : Options) (theirs more : List Effect) (turns : List Transition) → SideKnown reset_calls options (after_effects more theirs) turns → SideKnown reset_calls options theirs turns
side_before reset_calls options theirs more turns h =
    record { own = h.own; moves = h.moves; refused = h.refused; resets = h.resets; tells = h.tells; packets = h.packets; tags = each_before options theirs more (recorded_past turns) h.tags; little = h.little; together = h.together }

-- what is known of the turns of an act
pub rest_turns : (reset_calls : ResetCalls) (options : Options) {theirs : List Effect} (turns more : List Transition) → SideKnown reset_calls options theirs (turns ++ more) → AreTurns (endpoint_after options turns) more
rest_turns reset_calls options turns more h = are_turns (endpoint_after options turns) more (along_rest IsOwn (fresh_endpoint options) turns more h.own)

pub rest_moves : (reset_calls : ResetCalls) (options : Options) {theirs : List Effect} (turns more : List Transition) → SideKnown reset_calls options theirs (turns ++ more) → AlongTurns IsMove (endpoint_after options turns) more
rest_moves reset_calls options turns more h = along_rest IsMove (fresh_endpoint options) turns more h.moves

pub rest_refused : (reset_calls : ResetCalls) (options : Options) {theirs : List Effect} (turns more : List Transition) → SideKnown reset_calls options theirs (turns ++ more) → AlongTurns (IsUnrefused reset_calls.in_turn) (endpoint_after options turns) more
rest_refused reset_calls options turns more h = along_rest (IsUnrefused reset_calls.in_turn) (fresh_endpoint options) turns more h.refused

pub rest_resets : (reset_calls : ResetCalls) (options : Options) {theirs : List Effect} (turns more : List Transition) → SideKnown reset_calls options theirs (turns ++ more) → ResetsThrough reset_calls (endpoint_after options turns) (queued_through (fresh_endpoint options) turns []) more
rest_resets reset_calls options turns more h = resets_rest reset_calls (fresh_endpoint options) [] turns more h.resets

pub rest_tells : (reset_calls : ResetCalls) (options : Options) {theirs : List Effect} (turns more : List Transition) → SideKnown reset_calls options theirs (turns ++ more) → AllByRecursion (λ turn. TellsPerformed turn.outcome) more
rest_tells reset_calls options turns more h = tells_rest turns more h.tells

-- A side ran to where the act begins.
pub ran_front : (reset_calls : ResetCalls) (options : Options) {theirs : List Effect} (turns more : List Transition) → SideKnown reset_calls options theirs (turns ++ more) → RanTo options (endpoint_after options turns) (recorded_past turns)
ran_front reset_calls options turns more h = run_through options turns (fresh_endpoint options) [] (run_starts options) (along_front IsMove (fresh_endpoint options) turns more h.moves)

-- It follows the RFC at the end if it did when it was made.
pub same_rules_after : (reset_calls : ResetCalls) (options : Options) {theirs : List Effect} (turns : List Transition) → SideKnown reset_calls options theirs turns → (endpoint_after options turns).options.follow_rfc ≡ options.follow_rfc
same_rules_after reset_calls options turns h = ap (λ (p : Options). p.follow_rfc) (run_through options turns (fresh_endpoint options) [] (run_starts options) h.moves).same

-- ---- both sides

pub record BothKnown (reset_calls : Both ResetCalls) (options : Both Options) (turns : Both (List Transition)) : Type 0 where
  pub a : SideKnown reset_calls.a options.a (recorded_past turns.b) turns.a
  pub b : SideKnown reset_calls.b options.b (recorded_past turns.a) turns.b
  pub matched : MatchOrUnmatched options.a options.b (recorded_past turns.a) (recorded_past turns.b)

pub both_front : (reset_calls : Both ResetCalls) (options : Both Options) (turns : Both (List Transition)) (side : Side) (more : List Transition) → BothKnown reset_calls options (side_turns_added side more turns)
    → BothKnown reset_calls options turns
both_front reset_calls options turns sides.A more h =
    record {
      a = side_front reset_calls.a options.a (recorded_past turns.b) turns.a more h.a;
      b = side_before reset_calls.b options.b (recorded_past turns.a) (effects_of more) turns.b (subst (λ (p : List Effect). SideKnown reset_calls.b options.b p turns.b) (past_more turns.a more) h.b);
      matched = match_before options.a options.b (recorded_past turns.a) (recorded_past turns.b) (effects_of more) [] (subst (λ (p : List Effect). MatchOrUnmatched options.a options.b p (recorded_past turns.b)) (past_more turns.a more) h.matched);
    }
both_front reset_calls options turns sides.B more h =
    record {
      a = side_before reset_calls.a options.a (recorded_past turns.b) (effects_of more) turns.a (subst (λ (p : List Effect). SideKnown reset_calls.a options.a p turns.a) (past_more turns.b more) h.a);
      b = side_front reset_calls.b options.b (recorded_past turns.a) turns.b more h.b;
      matched = match_before options.a options.b (recorded_past turns.a) (recorded_past turns.b) [] (effects_of more) (subst (λ (p : List Effect). MatchOrUnmatched options.a options.b (recorded_past turns.a) p) (past_more turns.b more) h.matched);
    }

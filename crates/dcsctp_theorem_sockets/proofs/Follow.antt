-- A socket's turns are followed by a side of the machine that agreement is proved on.
use Rattle.std.proofs.Common.{◌≡◌, Some, List, refl, [], ◌∷◌, ◌++◌, inl, inr, sym, subst, ap, ◌∙◌, append_assoc}
use Rattle.std.proofs.lemmas.List.{append-nil}
use Rattle.std.specs.List.{AllByRecursion}
use Rattle.dcsctp_spec_lemmas.specs.types.declared.association.Pair.{Pair}
use Rattle.dcsctp_spec_lemmas.specs.types.declared.options.Options.{Options}
use Rattle.dcsctp_spec_lemmas.specs.spec.endpoint.Event.{Event, sent, connected, closed, connection_restarted, aborted, error, buffered_amount_low, total_buffered_amount_low, streams_reset_failed, streams_reset_performed, incoming_stream_reset, lifecycle_message_fully_sent, lifecycle_message_maybe_expired, lifecycle_message_expired, lifecycle_message_delivered, lifecycle_end}
use Rattle.dcsctp_spec_lemmas.specs.spec.Packet.{Emission}
use Rattle.dcsctp_spec_lemmas.specs.spec.endpoint.Endpoint.{Endpoint, Core}
use Rattle.dcsctp_spec_lemmas.specs.spec.endpoint.Outcome.{Outcome}
use Rattle.dcsctp_spec_lemmas.specs.types.Settings.{SameOptions}
use Rattle.dcsctp_spec_lemmas.specs.spec.endpoint.CallTurns.{Transition, after_all, effects_of, events_of, pairs_of}
use Rattle.dcsctp_spec_lemmas.specs.spec.association.Controlled.{IsControlled}
use Rattle.dcsctp_spec_lemmas.specs.spec.association.Effect.{AssociationIdentity, Effect, draws, sends, holds, connects, ends, begins, gives_up, completes, fails, accepts, performs, renews, resumes, drawn_pairs, effects_without_packets, Change, no_change, identity_of_core}
use Rattle.dcsctp_spec_runs.specs.Laws.{AllControlled}
use Rattle.dcsctp_spec_runs.specs.Past.{HasEffect, HasFreshTags}
use Rattle.dcsctp_spec_runs.specs.World.{SideState, after_effects, after_change, after_changes, ControlTurn, ControlTurns}
use Rattle.dcsctp_spec_runs.specs.Sockets.{endpoint_after}
use Rattle.dcsctp_spec_laws.proofs.TurnLemmas.{same_after}
use Rattle.dcsctp_spec_lemmas.proofs.TurnLists.{after_all-append, effects_of-append, pairs_of-append, events_of-append}
use Rattle.dcsctp_spec_runs.specs.Fitting.{AllSent, FitsEndpoint, IsSendable, HoldsIfSent, SendablePacket, TurnFits}
use Rattle.dcsctp_theorem_association.specs.OneSide.{IsEstablished, Means, EffectsMean}
use Rattle.dcsctp_theorem_association.proofs.Growth.{after_within}
use Rattle.dcsctp_theorem_sockets.specs.Agreement.{recorded_past, HasDistinctTags, WasHeld, HasConnected, HoldsAssociation, EachConnected}
use Rattle.dcsctp_theorem_sockets.proofs.Deliver.{Fits}
use Rattle.dcsctp_theorem_sockets.proofs.Fresh.{IsPair, in_front, at_end, drawn_pair, distinct_front, stays_fresh}
use Rattle.dcsctp_theorem_sockets.proofs.Sent.{all_sent_append, all_sent_map}
use Rattle.dcsctp_theorem_sockets.proofs.Signs.{in_after, among_after, WasSent, packets_are_effects, connected_connects}

-- a packet that went out: the side sent it, and it is read as itself
pub record Went (past : List Effect) (emission : Emission) : Type 0 where
  pub sendable : SendablePacket emission.packet
  pub was_sent : WasSent past emission

abbrev pub ConnectsIn : List Effect → AssociationIdentity → Type 0
ConnectsIn past link = HasEffect (connects link) past

-- The side has the socket's association, and did what the socket did.
pub record Followed (options : Options) (turns : List Transition) (side : SideState) : Type 0 where
  pub fits : FitsEndpoint (endpoint_after options turns)
  pub own_options : SameOptions options (endpoint_after options turns).options
  pub side_options : side.options ≡ options
  pub core : side.core ≡ (endpoint_after options turns).core
  pub past : effects_without_packets side.past ≡ recorded_past turns
  pub went : AllSent (Went side.past) (events_of turns)
  pub held : (link : AssociationIdentity) → HasEffect (holds link) side.past → WasHeld link turns
  pub connected : EachConnected (ConnectsIn side.past) turns
  pub drawn : (pair : Pair) → HasEffect (draws pair) side.past → IsPair pair (pairs_of turns)
  pub fresh : HasDistinctTags (pairs_of turns) → HasFreshTags side.past

-- ---- lists of turns

pub after_last : (e : Endpoint) (turns : List Transition) (t : Transition) → after_all e (turns ++ t ∷ []) ≡ t.outcome.after
after_last e turns t = after_all-append e turns (t ∷ [])

held_before : (link : AssociationIdentity) (turns more : List Transition) → WasHeld link turns → WasHeld link (turns ++ more)
held_before link [] more h = absurd h
held_before link (turn ∷ turns) more (inl is) = inl is
held_before link (turn ∷ turns) more (inr h) = inr (held_before link turns more h)

held_last : (link : AssociationIdentity) (turns : List Transition) (t : Transition) → identity_of_core t.outcome.after.core ≡ Some link → WasHeld link (turns ++ t ∷ [])
held_last link [] t is = inl is
held_last link (turn ∷ turns) t is = inr (held_last link turns t is)

pub each_connected_map : {Kind Other : AssociationIdentity → Type 0} → ((link : AssociationIdentity) → Kind link → Other link) → (turns : List Transition) → EachConnected Kind turns → EachConnected Other turns
each_connected_map f [] each = tt
each_connected_map f (turn ∷ turns) each =
    ((λ has. let h = each.0 has in record { link = h.link; held = h.held; kind = f h.link h.kind }), each_connected_map f turns each.1)

each_connected_more : (Kind : AssociationIdentity → Type 0) (turns : List Transition) (t : Transition) → EachConnected Kind turns → (HasConnected t.outcome.events → HoldsAssociation Kind t) → EachConnected Kind (turns ++ t ∷ [])
each_connected_more Kind [] t each last = (last, tt)
each_connected_more Kind (turn ∷ turns) t each last = (each.0, each_connected_more Kind turns t each.1 last)

-- ---- what the turns recorded

-- what was drawn is recorded
drawn_noted : (effects : List Effect) → drawn_pairs (effects_without_packets effects) ≡ drawn_pairs effects
drawn_noted [] = refl
drawn_noted (draws pair ∷ effects) = ap (λ (ps : List Pair). pair ∷ ps) (drawn_noted effects)
drawn_noted (sends packet ∷ effects) = drawn_noted effects
drawn_noted (holds link ∷ effects) = drawn_noted effects
drawn_noted (connects link ∷ effects) = drawn_noted effects
drawn_noted (ends ∷ effects) = drawn_noted effects
drawn_noted (begins number ∷ effects) = drawn_noted effects
drawn_noted (gives_up number ∷ effects) = drawn_noted effects
drawn_noted (completes my number ∷ effects) = drawn_noted effects
drawn_noted (fails number ∷ effects) = drawn_noted effects
drawn_noted (accepts number ∷ effects) = drawn_noted effects
drawn_noted (performs peer number ∷ effects) = drawn_noted effects
drawn_noted (renews peer number ∷ effects) = drawn_noted effects
drawn_noted (resumes link own last ∷ effects) = drawn_noted effects

pub noted_after : (effects past : List Effect) → effects_without_packets (after_effects effects past) ≡ after_effects (effects_without_packets effects) (effects_without_packets past)
noted_after [] past = refl
noted_after (draws pair ∷ effects) past = noted_after effects (draws pair ∷ past)
noted_after (sends packet ∷ effects) past = noted_after effects (sends packet ∷ past)
noted_after (holds link ∷ effects) past = noted_after effects (holds link ∷ past)
noted_after (connects link ∷ effects) past = noted_after effects (connects link ∷ past)
noted_after (ends ∷ effects) past = noted_after effects (ends ∷ past)
noted_after (begins number ∷ effects) past = noted_after effects (begins number ∷ past)
noted_after (gives_up number ∷ effects) past = noted_after effects (gives_up number ∷ past)
noted_after (completes my number ∷ effects) past = noted_after effects (completes my number ∷ past)
noted_after (fails number ∷ effects) past = noted_after effects (fails number ∷ past)
noted_after (accepts number ∷ effects) past = noted_after effects (accepts number ∷ past)
noted_after (performs peer number ∷ effects) past = noted_after effects (performs peer number ∷ past)
noted_after (renews peer number ∷ effects) past = noted_after effects (renews peer number ∷ past)
noted_after (resumes link own last ∷ effects) past = noted_after effects (resumes link own last ∷ past)

pub after_both : (xs ys past : List Effect) → after_effects (xs ++ ys) past ≡ after_effects ys (after_effects xs past)
after_both [] ys past = refl
after_both (x ∷ xs) ys past = after_both xs ys (x ∷ past)

past_more : (turns : List Transition) (t : Transition) → recorded_past (turns ++ t ∷ []) ≡ after_effects t.outcome.effects (recorded_past turns)
past_more turns t =
    ap (λ (es : List Effect). after_effects es []) (effects_of-append turns (t ∷ []) ∙ ap (λ (es : List Effect). effects_of turns ++ es) (append-nil t.outcome.effects))
    ∙ after_both (effects_of turns) t.outcome.effects []

-- ---- one turn

-- what the effects of a change say of the association that it leaves
pub record Says (change : Change) : Type 0 where
  pub held : (link : AssociationIdentity) → HasEffect (holds link) change.effects → identity_of_core change.core ≡ Some link
  pub connected : (link : AssociationIdentity) → HasEffect (connects link) change.effects → IsEstablished change.core link

pub turn_says : EffectsMean → (options : Options) (core : Core) (change : Change) → ControlTurn options core change → Says change
turn_says law options core change turn = let means : Means core change = law options core change turn in record { held = means.held; connected = means.connected }

-- an association that is established is held
established_is_held : (core : Core) (link : AssociationIdentity) → IsEstablished core link → identity_of_core core ≡ Some link
established_is_held core link h = ap identity_of_core h.phase ∙ ap (λ (l : AssociationIdentity). Some l) h.linked

went_more : (past : List Effect) (effects : List Effect) (events : List (Event Emission)) → AllSent (Went past) events → AllSent (Went (after_effects effects past)) events
went_more past effects events each =
    all_sent_map (λ emission went. record { sendable = went.sendable; was_sent = after_within effects past _ went.was_sent }) events each

went_of : (past effects : List Effect) (event : Event Emission) → HoldsIfSent IsSendable event → HoldsIfSent (WasSent effects) event → HoldsIfSent (Went (after_effects effects past)) event
went_of past effects (sent emission) sendable was_sent = record { sendable = sendable; was_sent = among_after _ effects past was_sent }
went_of past effects connected sendable was_sent = tt
went_of past effects closed sendable was_sent = tt
went_of past effects connection_restarted sendable was_sent = tt
went_of past effects (aborted kind text) sendable was_sent = tt
went_of past effects (error kind text) sendable was_sent = tt
went_of past effects (buffered_amount_low stream) sendable was_sent = tt
went_of past effects total_buffered_amount_low sendable was_sent = tt
went_of past effects (streams_reset_failed streams) sendable was_sent = tt
went_of past effects (streams_reset_performed streams) sendable was_sent = tt
went_of past effects (incoming_stream_reset streams) sendable was_sent = tt
went_of past effects (lifecycle_message_fully_sent id) sendable was_sent = tt
went_of past effects (lifecycle_message_maybe_expired id) sendable was_sent = tt
went_of past effects (lifecycle_message_expired id) sendable was_sent = tt
went_of past effects (lifecycle_message_delivered id) sendable was_sent = tt
went_of past effects (lifecycle_end id) sendable was_sent = tt

went_now : (past effects : List Effect) (events : List (Event Emission)) → AllSent IsSendable events → AllSent (WasSent effects) events → AllSent (Went (after_effects effects past)) events
went_now past effects [] sendable was_sent = tt
went_now past effects (event ∷ events) sendable was_sent = (went_of past effects event sendable.0 was_sent.0, went_now past effects events sendable.1 was_sent.1)

pub follow_turn : (options : Options) (turns : List Transition) (side : SideState) (t : Transition) (change : Change) → Followed options turns side → Says change
    → IsControlled (endpoint_after options turns) t.outcome change → TurnFits t.outcome → Followed options (turns ++ t ∷ []) (after_change side change)
follow_turn options turns side t change h says controlled fits =
    let o : Outcome = t.outcome in
    let past : List Effect = after_effects change.effects side.past in
    let last : endpoint_after options (turns ++ t ∷ []) ≡ o.after = after_last _ turns t in
    let pairs : pairs_of (turns ++ t ∷ []) ≡ pairs_of turns ++ drawn_pairs change.effects =
    pairs_of-append turns (t ∷ []) ∙ ap (λ (ps : List Pair). pairs_of turns ++ ps) (ap drawn_pairs (append-nil o.effects ∙ controlled.effects) ∙ drawn_noted change.effects) in
    record {
      fits = subst FitsEndpoint (sym last) fits.after;
      own_options = subst (λ (e : Endpoint). SameOptions options e.options) (sym last) (same_after options (endpoint_after options turns).options o.after.options h.own_options controlled.options);
      side_options = h.side_options;
      core = sym controlled.core ∙ ap (λ (e : Endpoint). e.core) (sym last);
      past = noted_after change.effects side.past ∙ ap (after_effects (effects_without_packets change.effects)) h.past
          ∙ ap (λ (es : List Effect). after_effects es (recorded_past turns)) (sym controlled.effects) ∙ sym (past_more turns t);
      went = subst (AllSent (Went past)) (sym (events_of-append turns (t ∷ [])))
          (all_sent_append (Went past) (events_of turns) (o.events ++ []) (went_more side.past change.effects (events_of turns) h.went)
          (subst (AllSent (Went past)) (sym (append-nil o.events)) (went_now side.past change.effects o.events fits.sends (packets_are_effects o.events change.effects controlled.observations))));
      held = λ link has. elim (in_after (holds link) change.effects side.past has) [ inl now ↦ held_last link turns t (ap identity_of_core controlled.core ∙ says.held link now) | inr before ↦ held_before link turns (t ∷ []) (h.held link before) ];
      connected = each_connected_more (ConnectsIn past) turns t (each_connected_map (λ link has. after_within change.effects side.past _ has) turns h.connected)
          (λ has. let c = connected_connects o.events change.effects controlled.observations has in
          record { link = c.0; held = ap identity_of_core controlled.core ∙ established_is_held change.core c.0 (says.connected c.0 c.1); kind = among_after (connects c.0) change.effects side.past c.1 });
      drawn = λ pair has. subst (IsPair pair) (sym pairs)
          (elim (in_after (draws pair) change.effects side.past has) [ inl now ↦ at_end pair (pairs_of turns) (drawn_pairs change.effects) (drawn_pair pair change.effects now) | inr before ↦ in_front pair (pairs_of turns) (drawn_pairs change.effects) (h.drawn pair before) ]);
      fresh = λ distinct.
          let whole : HasDistinctTags (pairs_of turns ++ drawn_pairs change.effects) = subst HasDistinctTags pairs distinct in
          stays_fresh change.effects side.past (pairs_of turns) (h.fresh (distinct_front (pairs_of turns) (drawn_pairs change.effects) whole)) h.drawn whole;
    }

-- ---- several turns

pub follow_turns : EffectsMean → (options : Options) (turns : List Transition) (side : SideState) (more : List Transition) (changes : List Change) → Followed options turns side
    → ControlTurns side.options side.core changes → AllControlled (endpoint_after options turns) more changes → AllByRecursion Fits more
    → Followed options (turns ++ more) (after_changes side changes)
follow_turns law options turns side [] [] h moved controlled fits = subst (λ (ts : List Transition). Followed options ts side) (sym (append-nil turns)) h
follow_turns law options turns side [] (change ∷ changes) h moved controlled fits = absurd controlled
follow_turns law options turns side (t ∷ more) [] h moved controlled fits = absurd controlled
follow_turns law options turns side (t ∷ more) (change ∷ changes) h moved controlled fits =
    let first : Followed options (turns ++ t ∷ []) (after_change side change) = follow_turn options turns side t change h (turn_says law side.options side.core change moved.0) controlled.0 fits.0 in
    subst (λ (ts : List Transition). Followed options ts (after_changes (after_change side change) changes)) (append_assoc turns (t ∷ []) more)
    (follow_turns law options (turns ++ t ∷ []) (after_change side change) more changes first moved.1
    (subst (λ (e : Endpoint). AllControlled e more changes) (sym (after_last _ turns t)) controlled.1) fits.1)

-- a turn that the association has no part in
pub follow_idle : (options : Options) (turns : List Transition) (side : SideState) (t : Transition) → Followed options turns side
    → IsControlled (endpoint_after options turns) t.outcome (no_change (endpoint_after options turns).core) → TurnFits t.outcome → Followed options (turns ++ t ∷ []) side
follow_idle options turns side t h controlled fits =
    follow_turn options turns side t (no_change side.core) h (record { held = λ link none. absurd none; connected = λ link none. absurd none })
    (subst (λ (core : Core). IsControlled (endpoint_after options turns) t.outcome (no_change core)) (sym h.core) controlled) fits

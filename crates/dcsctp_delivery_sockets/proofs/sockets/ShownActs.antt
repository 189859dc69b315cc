-- At most one association begins in an act of an honest run, and it is there when the act is over.
use Rattle.std.proofs.Common.{false, true, Bool, ◌≡◌, ℕ, List, [], ◌∷◌, ◌++◌, refl, sym, ap, ◌∙◌, subst, inl}
use Rattle.std.specs.Prelude.{Option, None, Some}
use Rattle.std.specs.List.{AllByRecursion}
use Rattle.dcsctp_spec_lemmas.specs.wire.Content.{PacketContent}
use Rattle.dcsctp_spec_lemmas.specs.wire.Format.{IsPacket}
use Rattle.dcsctp_spec_lemmas.specs.types.declared.capabilities.Capabilities.{Capabilities}
use Rattle.dcsctp_spec_lemmas.specs.types.declared.options.Options.{Options}
use Rattle.dcsctp_spec_lemmas.specs.spec.Admission.{Admission, all_chunks, shutdown_acks_alone, refused, admits, shutdown_acks_of}
use Rattle.dcsctp_spec_lemmas.specs.spec.endpoint.MessageOutcomes.{awaits_opening}
use Rattle.dcsctp_spec_lemmas.specs.spec.endpoint.CallTurns.{asked_again, Transition, Turns, AlongTurns, AfterChunk, ChunkTurns, AdmittedTurns, HandleInput, unreadable, readable, after_all, effects_of, events_of}
use Rattle.dcsctp_spec_lemmas.specs.spec.endpoint.Endpoint.{Endpoint, Core, closed, cookie_wait, cookie_echoed, open_in, established, shutdown_pending, shutdown_sent, shutdown_received, shutdown_ack_sent}
use Rattle.dcsctp_spec_lemmas.specs.spec.endpoint.Following.{Following, next_chunk, packet_end, dropped_rest}
use Rattle.dcsctp_spec_laws.specs.TurnLaws.{ChunksAreControlled}
use Rattle.dcsctp_spec_lemmas.specs.types.Offer.{Offer, offer_of}
use Rattle.dcsctp_spec_lemmas.specs.spec.endpoint.Outcome.{Outcome}
use Rattle.dcsctp_spec_lemmas.specs.spec.Packet.{Content, init_ack, cookie_echo, shutdown_ack, Packet, packet_of_content}
use Rattle.dcsctp_spec_runs.specs.Past.{HasEffect}
use Rattle.dcsctp_spec_lemmas.specs.types.Schedule.{CallContent, set_call, reset_call, send_call, send_many_call}
use Rattle.dcsctp_spec_lemmas.specs.types.Settings.{SameOptions, wire_options}
use Rattle.dcsctp_spec_lemmas.specs.spec.endpoint.UserTurns.{UserTurns}
use Rattle.dcsctp_spec_lemmas.specs.spec.endpoint.Turn.{Input, BeginTurn, arrival, refusal, chunk_input, packet_ends, has_data_chunk, unreadable_text}
use Rattle.dcsctp_spec_lemmas.specs.spec.association.Effect.{AssociationIdentity, Effect, holds, identity_of_core}
use Rattle.dcsctp_spec_laws.proofs.TurnLemmas.{same_after}
use Rattle.dcsctp_theorem_sockets.proofs.NewAssociations.{FirstAlone}
use Rattle.dcsctp_theorem_sockets.proofs.NoHolding.{HoldsNone, none-append}
use Rattle.dcsctp_delivery_sockets.specs.turns.Actions.{content_of_input, IsOpening, RecordsOpening}
use Rattle.dcsctp_delivery_sockets.specs.sockets.Echoes.{MayFollow, AllMayFollow}
use Rattle.dcsctp_delivery_sockets.proofs.sockets.Calls.{of_turns, MayCall, MaySend, of_call}
use Rattle.dcsctp_delivery_sockets.proofs.sockets.OpenFitting.{OpensFitting, AllOpenFitting}
use Rattle.dcsctp_delivery_sockets.proofs.sockets.PacketTurns.{begin_core}
use Rattle.dcsctp_delivery_sockets.proofs.sockets.Allowed.{AllAllowed, ContentsAllowed}
use Rattle.dcsctp_delivery_sockets.proofs.sockets.Actions.{events_both}
use Rattle.dcsctp_delivery_sockets.proofs.sockets.Turns.{EndpointIs, IsCalm, MovesLink, link_stays, link_ends, link_begins, TurnIs, turn_is}
use Rattle.dcsctp_delivery_sockets.proofs.sockets.Stays.{after_link, rest_link}
use Rattle.dcsctp_delivery_sockets.proofs.sockets.Begins.{FrontKinds, begins_so}
use Rattle.dcsctp_delivery_sockets.proofs.sockets.Calm.{GoodTurn, Known, Calm, calm_turns, none_among, Notes, notes_none, notes_one, ActIs, of_calm, one_then}

abbrev AreCalm : List Transition → Type 0
AreCalm turns = AllByRecursion (λ t. IsCalm t.input) turns

-- ---- calls

calls_calm : MayCall IsCalm
calls_calm =
    record {
      connects = tt;
      aborts = λ reason. tt;
      shuts_down = tt;
      repeats = tt;
      expires = λ again. tt;
      flushed = tt;
      takes = tt;
      hands_over = tt;
      own_expires = λ timer. tt;
      passes = λ moment. tt;
    }

sends_calm : (call : CallContent) → MaySend IsCalm call
sends_calm (send_call message options) = tt
sends_calm (send_many_call messages options) = tt
sends_calm (set_call setting) = tt
sends_calm (reset_call ids) = tt
sends_calm call = tt

-- ---- the inputs of a packet

tail_calm : (following : Following) (e : Endpoint) (tail : List Input) (turns : List Transition) (Others : Type 0) → AllByRecursion IsCalm tail → (Others → AreCalm turns) → AfterChunk following Others (Turns e tail turns) (turns ≡ []) → AreCalm turns
tail_calm next_chunk e tail turns Others calm others rest = others rest
tail_calm packet_end e tail turns Others calm others rest = of_turns IsCalm e tail turns calm rest
tail_calm dropped_rest e tail turns Others calm others rest = subst AreCalm (sym rest) tt

abbrev AllCalm : ℕ → List Content → Type 0
AllCalm tag contents = AllByRecursion (λ content. IsCalm (chunk_input tag content)) contents

chunks_calm : (e : Endpoint) (tag : ℕ) (contents : List Content) (tail : List Input) (turns : List Transition) → AllCalm tag contents → AllByRecursion IsCalm tail → ChunkTurns e tag contents tail turns → AreCalm turns
chunks_calm e tag [] tail turns calm tail_is taken = of_turns IsCalm e tail turns tail_is taken
chunks_calm e tag (content ∷ contents) tail [] calm tail_is taken = absurd taken
chunks_calm e tag (content ∷ contents) tail (t ∷ turns) calm tail_is taken = (
  subst IsCalm (sym taken.0.is) calm.0,
  tail_calm t.outcome.following t.outcome.after tail turns (ChunkTurns t.outcome.after tag contents tail turns) tail_is
      (λ others. chunks_calm t.outcome.after tag contents tail turns calm.1 tail_is others) taken.1,
)

follows_calm : (tag : ℕ) (content : Content) → MayFollow content → IsCalm (chunk_input tag content)
follows_calm tag (init_ack introduction cookie) may = may
follows_calm tag (cookie_echo bytes) may = may
follows_calm tag content may = tt

all_calm : (tag : ℕ) (contents : List Content) → AllMayFollow contents → AllCalm tag contents
all_calm tag [] may = tt
all_calm tag (content ∷ contents) may = (follows_calm tag content may.0, all_calm tag contents may.1)

acks_calm : (tag : ℕ) (contents : List Content) → AllCalm tag (shutdown_acks_of contents)
acks_calm tag [] = tt
acks_calm tag (shutdown_ack ∷ contents) = (tt, acks_calm tag contents)
acks_calm tag (content ∷ contents) = acks_calm tag contents

tail_is_calm : (asks : Bool) → AllByRecursion IsCalm (packet_ends ∷ asked_again asks)
tail_is_calm true = (tt, (tt, tt))
tail_is_calm false = (tt, tt)

-- What precedes the chunks of a packet records nothing.
begin_effects : (e : Endpoint) (core : Core) (has : Bool) (o : Outcome) → BeginTurn e core has o → o.effects ≡ []
begin_effects e closed has o turn = ap (λ (x : Outcome). x.effects) turn
begin_effects e (cookie_wait my) has o turn = ap (λ (x : Outcome). x.effects) turn
begin_effects e (cookie_echoed my held cookie) has o turn = ap (λ (x : Outcome). x.effects) turn
begin_effects e (open_in established my held) has o turn = ap (λ (x : Outcome). x.effects) turn
begin_effects e (open_in shutdown_pending my held) has o turn = ap (λ (x : Outcome). x.effects) turn
begin_effects e (open_in shutdown_sent my held) true o turn = ap (λ (x : Outcome). x.effects) turn
begin_effects e (open_in shutdown_sent my held) false o turn = ap (λ (x : Outcome). x.effects) turn
begin_effects e (open_in shutdown_received my held) has o turn = ap (λ (x : Outcome). x.effects) turn
begin_effects e (open_in shutdown_ack_sent my held) has o turn = ap (λ (x : Outcome). x.effects) turn

-- ---- a packet

-- The chunks of a packet that the other socket sent to one with this offer.
abbrev pub ContentsAre : Capabilities → Offer → List Content → Type 0
ContentsAre kinds mine [] = Unit {0}
ContentsAre kinds mine (content ∷ contents) = FrontKinds kinds mine content × AllMayFollow contents

module _ (law : ChunksAreControlled) (kinds : Capabilities) where
  calm_act : (e : Endpoint) (turns : List Transition) → AreCalm turns → AlongTurns Known e turns → EndpointIs kinds e → ActIs kinds e turns
  calm_act e turns calm known h = of_calm kinds e turns (calm_turns kinds turns e calm known h)

  pub call_acts : (e : Endpoint) (call : CallContent) (turns : List Transition) → UserTurns e call turns → AlongTurns Known e turns → EndpointIs kinds e → ActIs kinds e turns
  call_acts e call turns taken known h = calm_act e turns (of_call IsCalm calls_calm e call turns (sends_calm call) taken) known h

  -- The association that the first chunk begins is the only one, and stays.
  begun_first : (e : Endpoint) (t : Transition) (rest : List Transition) → GoodTurn e t → (came : Option Content) (opened : RecordsOpening came t.outcome) → HoldsNone (effects_of rest)
      → identity_of_core (after_all t.outcome.after rest).core ≡ identity_of_core t.outcome.after.core → Notes e (t ∷ rest)
  begun_first e t rest good came opened none stays =
      let link : AssociationIdentity = opened.link in
      let later : HoldsNone opened.later = subst FirstAlone opened.noted good.first in
      notes_one link (opened.later ++ effects_of rest) (ap (λ (es : List Effect). es ++ effects_of rest) opened.noted) (none-append opened.later (effects_of rest) later none)
      (good.anew link (subst (HasEffect (holds link)) (sym opened.noted) (inl refl))) (stays ∙ opened.linked)

  front_notes : (came : Option Content) (e : Endpoint) (t : Transition) (rest : List Transition) → GoodTurn e t → MovesLink came e t.outcome → HoldsNone (effects_of rest)
      → identity_of_core (after_all t.outcome.after rest).core ≡ identity_of_core t.outcome.after.core → Notes e (t ∷ rest)
  front_notes came e t rest good (link_begins opened) none stays = begun_first e t rest good came opened none stays
  front_notes came e t rest good (link_stays is) none stays =
      notes_none (none-append t.outcome.effects (effects_of rest) (none_among t.outcome.effects (λ link has. good.anew link has (sym is ∙ good.held link has))) none)
  front_notes came e t rest good (link_ends is) none stays =
      notes_none (none-append t.outcome.effects (effects_of rest) (none_among t.outcome.effects (λ link has. (let both : None ≡ Some link = sym is ∙ good.held link has in absurd (cc)))) none)

  -- The first chunk, the others, and what comes after them.
  front_act : (asks : Bool) (e : Endpoint) (tag : ℕ) (content : Content) (contents : List Content) (t : Transition) (rest : List Transition) → FrontKinds kinds (offer_of e.options) content → AllMayFollow contents → AllAllowed kinds contents
      → EndpointIs kinds e → OpensFitting t → Known e t → AlongTurns Known t.outcome.after rest → ChunkTurns e tag (content ∷ contents) (packet_ends ∷ asked_again asks) (t ∷ rest) → ActIs kinds e (t ∷ rest)
  front_act asks e tag content contents t rest front may allowed h fits here known taken =
      let so : TurnIs kinds e (Some content) t.outcome = turn_is kinds e (chunk_input tag content) t.outcome h tt (begins_so kinds law e tag content t.outcome front (λ opening. fits (subst (λ (i : Input). IsOpening (content_of_input i)) (sym taken.0.is) opening)) taken.0.comes) taken.0.comes in
      let calm : AreCalm rest =
      tail_calm t.outcome.following t.outcome.after (packet_ends ∷ asked_again asks) rest (ChunkTurns t.outcome.after tag contents (packet_ends ∷ asked_again asks) rest) (tail_is_calm asks)
      (λ others. chunks_calm t.outcome.after tag contents (packet_ends ∷ asked_again asks) rest (all_calm tag contents may) (tail_is_calm asks) others) taken.1 in
      let left : Calm kinds t.outcome.after rest = calm_turns kinds rest t.outcome.after calm known so.after in
      let stays : identity_of_core (after_all t.outcome.after rest).core ≡ identity_of_core t.outcome.after.core =
      after_link kinds law asks t.outcome.following t.outcome.after rest (ChunkTurns t.outcome.after tag contents (packet_ends ∷ asked_again asks) rest) so.after
      (λ others. rest_link kinds law asks t.outcome.after tag contents rest may allowed so.after others) taken.1 in
      record {
        notes = front_notes (Some content) e t rest here.1 so.moves left.none stays;
        is = left.is;
        says = events_both kinds t.outcome.events (events_of rest) so.says left.says;
      }

  whole_act : (asks : Bool) (e : Endpoint) (tag : ℕ) (contents : List Content) (turns : List Transition) → ContentsAre kinds (offer_of e.options) contents → ContentsAllowed kinds contents → EndpointIs kinds e → AllOpenFitting turns → AlongTurns Known e turns
      → ChunkTurns e tag contents (packet_ends ∷ asked_again asks) turns → ActIs kinds e turns
  whole_act asks e tag [] turns are allowed h fit known taken = calm_act e turns (of_turns IsCalm e (packet_ends ∷ asked_again asks) turns (tail_is_calm asks) taken) known h
  whole_act asks e tag (content ∷ contents) [] are allowed h fit known taken = absurd taken
  whole_act asks e tag (content ∷ contents) (t ∷ turns) are allowed h fit known taken = front_act asks e tag content contents t turns are.0 are.1 allowed h fit.0 known.0 known.1 taken

  same_offer : (mine own : Options) → SameOptions mine own → offer_of own ≡ offer_of mine
  same_offer mine own same = ap offer_of same

  contents_of : (mine own : Options) (contents : List Content) → SameOptions mine own → ContentsAre kinds (offer_of mine) contents → ContentsAre kinds (offer_of own) contents
  contents_of mine own contents same are = subst (λ (o : Offer). ContentsAre kinds o contents) (sym (same_offer mine own same)) are

  admitted_act : (mine : Options) (e : Endpoint) (packet : Packet) (admission : Admission) (turns : List Transition) → SameOptions mine e.options → ContentsAre kinds (offer_of mine) packet.contents → ContentsAllowed kinds packet.contents
      → EndpointIs kinds e → AllOpenFitting turns → AlongTurns Known e turns → AdmittedTurns e packet admission turns → ActIs kinds e turns
  admitted_act mine e packet all_chunks [] own are allowed h fit known taken = absurd taken
  admitted_act mine e packet all_chunks (t ∷ turns) own are allowed h fit known taken =
      one_then kinds e t turns (subst IsCalm (sym taken.0.is) tt, tt) known.0 h (begin_effects e e.core (has_data_chunk e.options.follow_rfc packet.contents) t.outcome taken.0.comes) (ap identity_of_core (begin_core e e.core (has_data_chunk e.options.follow_rfc packet.contents) t.outcome taken.0.comes))
      (λ is. whole_act (awaits_opening t.outcome.after t.outcome.after.core) t.outcome.after packet.tag packet.contents turns
      (contents_of mine t.outcome.after.options packet.contents (same_after mine e.options t.outcome.after.options own known.0.1.options) are) allowed is fit.1 known.1 taken.1)
  admitted_act mine e packet shutdown_acks_alone turns own are allowed h fit known taken =
      calm_act e turns (chunks_calm e packet.tag (shutdown_acks_of packet.contents) [] turns (acks_calm packet.tag packet.contents) tt taken) known h
  admitted_act mine e packet (refused text) turns own are allowed h fit known taken = calm_act e turns (of_turns IsCalm e (refusal text ∷ []) turns (tt, tt) taken) known h

  -- This holds for the bytes of a packet that the other socket sent.
  pub packet_acts : (mine : Options) (e : Endpoint) (bytes : List ℕ) (was : Packet) (turns : List Transition) → SameOptions mine e.options → ContentsAre kinds (offer_of mine) was.contents
      → ContentsAllowed kinds was.contents → ((packet : PacketContent) → IsPacket (wire_options e.options) packet bytes → packet_of_content packet ≡ was) → EndpointIs kinds e → AllOpenFitting turns → AlongTurns Known e turns
      → HandleInput e bytes turns → ActIs kinds e turns
  packet_acts mine e bytes was turns own are allowed is h fit known (unreadable _ none taken) =
      calm_act e turns (of_turns IsCalm e (arrival ∷ refusal unreadable_text ∷ []) turns (tt, (tt, tt)) taken) known h
  packet_acts mine e bytes was _ own are allowed is h fit known (readable packet counted turns found counting taken) =
      let core : counted.outcome.after.core ≡ e.core = ap (λ (x : Outcome). x.after.core) counting.comes in
      one_then kinds e counted turns (subst IsCalm (sym counting.is) tt, tt) known.0 h (ap (λ (x : Outcome). x.effects) counting.comes) (ap identity_of_core core)
      (λ left. admitted_act mine counted.outcome.after was (admits e.core was) turns (same_after mine e.options counted.outcome.after.options own known.0.1.options) are allowed left fit.1 known.1
      (subst (λ (p : Packet). AdmittedTurns counted.outcome.after p (admits e.core p) turns) (is packet found) taken))

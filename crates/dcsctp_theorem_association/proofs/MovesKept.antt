-- Each move of a side keeps what is true: an act, and a packet of the other side.
use Rattle.std.proofs.Common.{◌≡◌, ℕ, Bool, true, false, List, [], ◌∷◌, inl, inr, refl, sym, subst}
use Rattle.dcsctp_spec_lemmas.specs.types.declared.options.Options.{Options}
use Rattle.dcsctp_spec_lemmas.specs.types.Offer.{Offer, offer_of}
use Rattle.dcsctp_spec_runs.specs.Laws.{AnswerKeepsAgreement}
use Rattle.dcsctp_spec_lemmas.specs.spec.Packet.{Content, init, init_ack, cookie_echo, cookie_ack, re_config, abort, shutdown, shutdown_ack, shutdown_complete, plain, Packet}
use Rattle.dcsctp_spec_lemmas.specs.spec.endpoint.Endpoint.{Core, own_tag, closed, cookie_wait, cookie_echoed, open_in}
use Rattle.dcsctp_spec_lemmas.specs.spec.endpoint.Following.{next_chunk}
use Rattle.dcsctp_spec_lemmas.specs.spec.association.Effect.{Effect, sends, Change}
use Rattle.dcsctp_spec_lemmas.specs.spec.association.Choices.{Choices}
use Rattle.dcsctp_spec_lemmas.specs.spec.association.Acts.{MakesCookie, act_change, chunk_change, flush_change, plain_change, violation_change, shutdown_chunk_change}
use Rattle.dcsctp_spec_lemmas.specs.spec.Admission.{shutdown_acks_of}
use Rattle.dcsctp_spec_lemmas.specs.spec.association.ShutdownChanges.{shutdown_step_change, shutdown_change}
use Rattle.dcsctp_spec_runs.specs.Past.{HasEffect, HasFreshTags}
use Rattle.dcsctp_spec_runs.specs.World.{after_effects, SideState, after_change, after_changes, HasEnding, MayBeHandled, own_tag_borne, echo_in_front, init_alone, ending_in, ChunkChanges, PacketChanges, worked_whole, worked_acks, Move, does, receives, MoveChanges}
use Rattle.dcsctp_theorem_association.proofs.Facts.{TrueFront, Behind, AllBehind, TrueContents, TruePast, TrueCore}
use Rattle.dcsctp_theorem_association.proofs.Growth.{after_within, past_after, past_grows, true_of}
use Rattle.dcsctp_theorem_association.proofs.Echoes.{core_grows}
use Rattle.dcsctp_theorem_association.proofs.Flushes.{requests_true}
use Rattle.dcsctp_spec_lemmas.proofs.OneAnswerLemmas.{change_by}
use Rattle.dcsctp_theorem_association.proofs.Turns.{Kept, SameTag, fresh_before, same_tag, then_kept, unchanged_kept}
use Rattle.dcsctp_theorem_association.proofs.HandshakeKept.{init_kept, init_ack_kept}
use Rattle.dcsctp_theorem_association.proofs.CookieEchoKept.{cookie_echo_kept}
use Rattle.dcsctp_theorem_association.proofs.ResetsKept.{re_config_kept}
use Rattle.dcsctp_theorem_association.proofs.ShutdownKept.{step_kept, aborts_kept, abort_kept, shutdown_kept, ack_kept, complete_kept}
use Rattle.dcsctp_theorem_association.proofs.CookieAckKept.{cookie_ack_kept}
use Rattle.dcsctp_theorem_association.proofs.ActsKept.{act_kept, flush_kept}

-- ---- the first chunk of a packet

violation_kept : (my_offer their_offer : Offer) (mine theirs : List Effect) (core : Core) (choices : Choices)
    → TrueCore my_offer their_offer mine theirs core → Kept my_offer their_offer mine theirs (violation_change core choices)
violation_kept my_offer their_offer mine theirs closed choices h = unchanged_kept my_offer their_offer mine theirs closed h
violation_kept my_offer their_offer mine theirs (cookie_wait my) choices h = unchanged_kept my_offer their_offer mine theirs (cookie_wait my) h
violation_kept my_offer their_offer mine theirs (cookie_echoed my held bytes) choices h = aborts_kept my_offer their_offer mine theirs (cookie_echoed my held bytes) choices.causes choices.fits h
violation_kept my_offer their_offer mine theirs (open_in phase my held) choices h = aborts_kept my_offer their_offer mine theirs (open_in phase my held) choices.causes choices.fits h

other_kept : (my_offer their_offer : Offer) (mine theirs : List Effect) (core : Core) (is_violation : Bool) (choices : Choices)
    → TrueCore my_offer their_offer mine theirs core → Kept my_offer their_offer mine theirs (plain_change core is_violation choices)
other_kept my_offer their_offer mine theirs core false choices h =
    let stepped : Change = shutdown_step_change core choices.tsn choices.is_acknowledged in
    let first : Kept my_offer their_offer mine theirs stepped = step_kept my_offer their_offer mine theirs core choices.tsn choices.is_acknowledged h in
    then_kept my_offer their_offer mine theirs stepped (flush_change stepped.core choices) choices.following first
    (flush_kept my_offer their_offer (after_effects stepped.effects mine) theirs stepped.core choices first.core)
other_kept my_offer their_offer mine theirs core true choices h = violation_kept my_offer their_offer mine theirs core choices h

heard_kept : (my_offer their_offer : Offer) (mine theirs : List Effect) (core : Core) (choices : Choices)
    → TrueCore my_offer their_offer mine theirs core → Kept my_offer their_offer mine theirs (shutdown_chunk_change core choices)
heard_kept my_offer their_offer mine theirs core choices h =
    let stepped : Change = shutdown_change core choices.tsn choices.is_acknowledged in
    let first : Kept my_offer their_offer mine theirs stepped = shutdown_kept my_offer their_offer mine theirs core choices.tsn choices.is_acknowledged h in
    then_kept my_offer their_offer mine theirs stepped (flush_change stepped.core choices) next_chunk first
    (flush_kept my_offer their_offer (after_effects stepped.effects mine) theirs stepped.core choices first.core)

-- The header of an INIT ACK, COOKIE ACK or RE-CONFIG has our own tag.
abbrev OwnTagged : Core → ℕ → Content → Type 0
OwnTagged core header (init_ack introduction cookie) = header ≡ own_tag core
OwnTagged core header cookie_ack = header ≡ own_tag core
OwnTagged core header (re_config parameters) = header ≡ own_tag core
OwnTagged core header content = Unit {0}

none_ending : (contents : List Content) → AllBehind contents → HasEnding contents → ⊥
none_ending [] h k = k
none_ending (init introduction ∷ contents) h k = h.0
none_ending (init_ack introduction cookie ∷ contents) h k = h.0
none_ending (cookie_echo bytes ∷ contents) h k = h.0
none_ending (cookie_ack ∷ contents) h k = h.0
none_ending (re_config parameters ∷ contents) h (inl k) = k
none_ending (re_config parameters ∷ contents) h (inr k) = none_ending contents h.1 k
none_ending (abort reflected causes ∷ contents) h k = h.0
none_ending (shutdown tsn ∷ contents) h k = h.0
none_ending (shutdown_ack ∷ contents) h k = h.0
none_ending (shutdown_complete reflected ∷ contents) h k = h.0
none_ending (plain chunk ∷ contents) h (inl k) = k
none_ending (plain chunk ∷ contents) h (inr k) = none_ending contents h.1 k

own_tagged : (core : Core) (header : ℕ) (content : Content) (behind : List Content) → AllBehind behind
    → MayBeHandled core (record { tag = header; contents = content ∷ behind }) → OwnTagged core header content
own_tagged core header (init introduction) behind h k = tt
own_tagged core header (init_ack introduction cookie) behind h (own_tag_borne e) = e
own_tagged core header (init_ack introduction cookie) behind h (echo_in_front bytes others e) = absurd (cc)
own_tagged core header (init_ack introduction cookie) behind h (init_alone theirs e) = absurd (cc)
own_tagged core header (init_ack introduction cookie) behind h (ending_in (inl e)) = absurd e
own_tagged core header (init_ack introduction cookie) behind h (ending_in (inr e)) = absurd (none_ending behind h e)
own_tagged core header (cookie_echo bytes) behind h k = tt
own_tagged core header cookie_ack behind h (own_tag_borne e) = e
own_tagged core header cookie_ack behind h (echo_in_front bytes others e) = absurd (cc)
own_tagged core header cookie_ack behind h (init_alone theirs e) = absurd (cc)
own_tagged core header cookie_ack behind h (ending_in (inl e)) = absurd e
own_tagged core header cookie_ack behind h (ending_in (inr e)) = absurd (none_ending behind h e)
own_tagged core header (re_config parameters) behind h (own_tag_borne e) = e
own_tagged core header (re_config parameters) behind h (echo_in_front bytes others e) = absurd (cc)
own_tagged core header (re_config parameters) behind h (init_alone theirs e) = absurd (cc)
own_tagged core header (re_config parameters) behind h (ending_in (inl e)) = absurd e
own_tagged core header (re_config parameters) behind h (ending_in (inr e)) = absurd (none_ending behind h e)
own_tagged core header (abort reflected causes) behind h k = tt
own_tagged core header (shutdown tsn) behind h k = tt
own_tagged core header shutdown_ack behind h k = tt
own_tagged core header (shutdown_complete reflected) behind h k = tt
own_tagged core header (plain chunk) behind h k = tt

front_kept : AnswerKeepsAgreement → (options : Options) (their_offer : Offer) (mine theirs : List Effect) (core : Core) (header : ℕ) (content : Content) (behind : List Content) (choices : Choices)
    → SameTag mine → SameTag theirs → TrueCore (offer_of options) their_offer mine theirs core
    → HasEffect (sends (record { tag = header; contents = content ∷ behind })) theirs → TrueFront their_offer (offer_of options) theirs mine header content
    → OwnTagged core header content → MakesCookie core content choices
    → Kept (offer_of options) their_offer mine theirs (chunk_change options core header content choices)
front_kept law options their_offer mine theirs core header (init introduction) behind choices my_tags their_tags h delivered is own makes =
    change_by (Kept (offer_of options) their_offer mine theirs) options core introduction choices (unchanged_kept (offer_of options) their_offer mine theirs core h)
    (init_kept law options their_offer mine theirs core introduction choices h is.0 is.1 makes)
front_kept law options their_offer mine theirs core header (init_ack introduction cookie) behind choices my_tags their_tags h delivered is own makes =
    init_ack_kept options their_offer mine theirs core introduction cookie choices header h my_tags is own
front_kept law options their_offer mine theirs core header (cookie_echo bytes) behind choices my_tags their_tags h delivered is own makes =
    cookie_echo_kept options their_offer mine theirs core header bytes behind choices my_tags their_tags h is delivered
front_kept law options their_offer mine theirs core header cookie_ack behind choices my_tags their_tags h delivered is own makes =
    cookie_ack_kept (offer_of options) their_offer mine theirs core choices header h is own
front_kept law options their_offer mine theirs core header (re_config parameters) behind choices my_tags their_tags h delivered is own makes =
    re_config_kept options.follow_rfc (offer_of options) their_offer mine theirs core parameters choices header my_tags h is own
front_kept law options their_offer mine theirs core header (abort reflected causes) behind choices my_tags their_tags h delivered is own makes =
    abort_kept (offer_of options) their_offer mine theirs options core h
front_kept law options their_offer mine theirs core header (shutdown tsn) behind choices my_tags their_tags h delivered is own makes =
    heard_kept (offer_of options) their_offer mine theirs core choices h
front_kept law options their_offer mine theirs core header shutdown_ack behind choices my_tags their_tags h delivered is own makes =
    ack_kept (offer_of options) their_offer mine theirs core header choices.following h
front_kept law options their_offer mine theirs core header (shutdown_complete reflected) behind choices my_tags their_tags h delivered is own makes =
    complete_kept (offer_of options) their_offer mine theirs core h
front_kept law options their_offer mine theirs core header (plain chunk) behind choices my_tags their_tags h delivered is own makes =
    other_kept (offer_of options) their_offer mine theirs core choices.is_violation choices h

-- ---- the chunks after the first

behind_kept : (options : Options) (their_offer : Offer) (mine theirs : List Effect) (core : Core) (header : ℕ) (content : Content) (choices : Choices)
    → SameTag mine → TrueCore (offer_of options) their_offer mine theirs core → Behind content
    → Kept (offer_of options) their_offer mine theirs (chunk_change options core header content choices)
behind_kept options their_offer mine theirs core header (init introduction) choices tags h is = absurd is
behind_kept options their_offer mine theirs core header (init_ack introduction cookie) choices tags h is = absurd is
behind_kept options their_offer mine theirs core header (cookie_echo bytes) choices tags h is = absurd is
behind_kept options their_offer mine theirs core header cookie_ack choices tags h is = absurd is
behind_kept options their_offer mine theirs core header (re_config parameters) choices tags h is =
    re_config_kept options.follow_rfc (offer_of options) their_offer mine theirs core parameters choices (own_tag core) tags h (requests_true theirs mine (own_tag core) parameters is) refl
behind_kept options their_offer mine theirs core header (abort reflected causes) choices tags h is = absurd is
behind_kept options their_offer mine theirs core header (shutdown tsn) choices tags h is = absurd is
behind_kept options their_offer mine theirs core header shutdown_ack choices tags h is = absurd is
behind_kept options their_offer mine theirs core header (shutdown_complete reflected) choices tags h is = absurd is
behind_kept options their_offer mine theirs core header (plain chunk) choices tags h is =
    other_kept (offer_of options) their_offer mine theirs core choices.is_violation choices h

-- ---- a side after its moves

-- what is true of a side
pub record TrueSide (their_offer : Offer) (side : SideState) (theirs : List Effect) : Type 0 where
  pub past : TruePast (offer_of side.options) their_offer side.past theirs
  pub core : TrueCore (offer_of side.options) their_offer side.past theirs side.core

true_after : (their_offer : Offer) (side : SideState) (theirs : List Effect) (change : Change)
    → TrueSide their_offer side theirs → Kept (offer_of side.options) their_offer side.past theirs change → TrueSide their_offer (after_change side change) theirs
true_after their_offer side theirs change h k =
    record { past = past_after (offer_of side.options) their_offer side.past theirs change.effects h.past k.effects; core = k.core }

pub fresh_before_changes : (side : SideState) (changes : List Change) → HasFreshTags (after_changes side changes).past → HasFreshTags side.past
fresh_before_changes side [] fresh = fresh
fresh_before_changes side (change ∷ changes) fresh = fresh_before change.effects side.past (fresh_before_changes (after_change side change) changes fresh)

behind_true_after : (their_offer : Offer) (side : SideState) (theirs : List Effect) (header : ℕ) (contents : List Content) (changes : List Change)
    → TrueSide their_offer side theirs → HasFreshTags (after_changes side changes).past → AllBehind contents → ChunkChanges side.options side.core header contents changes
    → TrueSide their_offer (after_changes side changes) theirs
behind_true_after their_offer side theirs header contents [] h fresh are turns = h
behind_true_after their_offer side theirs header [] (change ∷ changes) h fresh are turns = absurd turns
behind_true_after their_offer side theirs header (content ∷ contents) (change ∷ changes) h fresh are turns =
    let tags : SameTag side.past = same_tag side.past (fresh_before_changes side (change ∷ changes) fresh) in
    let kept : Kept (offer_of side.options) their_offer side.past theirs change = subst (Kept (offer_of side.options) their_offer side.past theirs) (sym turns.0.2)
    (behind_kept side.options their_offer side.past theirs side.core header content turns.0.0 tags h.core are.0) in
    behind_true_after their_offer (after_change side change) theirs header contents changes (true_after their_offer side theirs change h kept) fresh are.1 turns.1

packet_true_after : AnswerKeepsAgreement → (their_offer : Offer) (side : SideState) (theirs : List Effect) (header : ℕ) (contents : List Content) (changes : List Change)
    → TrueSide their_offer side theirs → HasFreshTags (after_changes side changes).past → SameTag theirs
    → HasEffect (sends (record { tag = header; contents = contents })) theirs → TrueContents their_offer (offer_of side.options) theirs side.past header contents
    → MayBeHandled side.core (record { tag = header; contents = contents }) → ChunkChanges side.options side.core header contents changes
    → TrueSide their_offer (after_changes side changes) theirs
packet_true_after law their_offer side theirs header contents [] h fresh their_tags delivered is may turns = h
packet_true_after law their_offer side theirs header [] (change ∷ changes) h fresh their_tags delivered is may turns = absurd turns
packet_true_after law their_offer side theirs header (content ∷ behind) (change ∷ changes) h fresh their_tags delivered is may turns =
    let tags : SameTag side.past = same_tag side.past (fresh_before_changes side (change ∷ changes) fresh) in
    let kept : Kept (offer_of side.options) their_offer side.past theirs change = subst (Kept (offer_of side.options) their_offer side.past theirs) (sym turns.0.2)
    (front_kept law side.options their_offer side.past theirs side.core header content behind turns.0.0 tags their_tags h.core delivered is.0 (own_tagged side.core header content behind is.1 may) turns.0.1) in
    behind_true_after their_offer (after_change side change) theirs header behind changes (true_after their_offer side theirs change h kept) fresh is.1 turns.1

-- SHUTDOWN ACK chunks alone, under any tag
acks_true_after : (their_offer : Offer) (side : SideState) (theirs : List Effect) (header : ℕ) (contents : List Content) (changes : List Change)
    → TrueSide their_offer side theirs → ChunkChanges side.options side.core header (shutdown_acks_of contents) changes → TrueSide their_offer (after_changes side changes) theirs
acks_true_after their_offer side theirs header [] [] h turns = h
acks_true_after their_offer side theirs header [] (change ∷ changes) h turns = absurd turns
acks_true_after their_offer side theirs header (shutdown_ack ∷ contents) [] h turns = h
acks_true_after their_offer side theirs header (shutdown_ack ∷ contents) (change ∷ changes) h turns =
    let kept : Kept (offer_of side.options) their_offer side.past theirs change = subst (Kept (offer_of side.options) their_offer side.past theirs) (sym turns.0.2)
    (ack_kept (offer_of side.options) their_offer side.past theirs side.core header turns.0.0.following h.core) in
    acks_true_after their_offer (after_change side change) theirs header contents changes (true_after their_offer side theirs change h kept) turns.1
acks_true_after their_offer side theirs header (init introduction ∷ contents) changes h turns = acks_true_after their_offer side theirs header contents changes h turns
acks_true_after their_offer side theirs header (init_ack introduction cookie ∷ contents) changes h turns = acks_true_after their_offer side theirs header contents changes h turns
acks_true_after their_offer side theirs header (cookie_echo bytes ∷ contents) changes h turns = acks_true_after their_offer side theirs header contents changes h turns
acks_true_after their_offer side theirs header (cookie_ack ∷ contents) changes h turns = acks_true_after their_offer side theirs header contents changes h turns
acks_true_after their_offer side theirs header (re_config parameters ∷ contents) changes h turns = acks_true_after their_offer side theirs header contents changes h turns
acks_true_after their_offer side theirs header (abort reflected causes ∷ contents) changes h turns = acks_true_after their_offer side theirs header contents changes h turns
acks_true_after their_offer side theirs header (shutdown tsn ∷ contents) changes h turns = acks_true_after their_offer side theirs header contents changes h turns
acks_true_after their_offer side theirs header (shutdown_complete reflected ∷ contents) changes h turns = acks_true_after their_offer side theirs header contents changes h turns
acks_true_after their_offer side theirs header (plain chunk ∷ contents) changes h turns = acks_true_after their_offer side theirs header contents changes h turns

packet_turns_true : AnswerKeepsAgreement → (their_offer : Offer) (side : SideState) (theirs : List Effect) (packet : Packet) (changes : List Change)
    → TrueSide their_offer side theirs → HasFreshTags (after_changes side changes).past → SameTag theirs
    → HasEffect (sends packet) theirs → TrueContents their_offer (offer_of side.options) theirs side.past packet.tag packet.contents
    → PacketChanges side.options side.core packet changes → TrueSide their_offer (after_changes side changes) theirs
packet_turns_true law their_offer side theirs packet changes h fresh tags delivered is (worked_whole may turns) =
    packet_true_after law their_offer side theirs packet.tag packet.contents changes h fresh tags delivered is may turns
packet_turns_true law their_offer side theirs packet changes h fresh tags delivered is (worked_acks turns) =
    acks_true_after their_offer side theirs packet.tag packet.contents changes h turns

pub move_true_after : AnswerKeepsAgreement → (their_offer : Offer) (side : SideState) (theirs : List Effect) (move : Move) (changes : List Change)
    → TrueSide their_offer side theirs → TruePast their_offer (offer_of side.options) theirs side.past
    → HasFreshTags (after_changes side changes).past → HasFreshTags theirs → MoveChanges side theirs move changes
    → TrueSide their_offer (after_changes side changes) theirs
move_true_after law their_offer side theirs (does act) changes h their_past fresh their_fresh turns =
    let change : Change = act_change side.options side.core act turns.0 in
    let fresh_once : HasFreshTags (after_effects change.effects side.past) = subst (λ (cs : List Change). HasFreshTags (after_changes side cs).past) turns.1 fresh in
    subst (λ (cs : List Change). TrueSide their_offer (after_changes side cs) theirs) (sym turns.1)
    (true_after their_offer side theirs change h (act_kept side.options their_offer side.past theirs side.core act turns.0 h.past h.core fresh_once))
move_true_after law their_offer side theirs (receives packet) changes h their_past fresh their_fresh turns =
    packet_turns_true law their_offer side theirs packet changes h fresh (same_tag theirs their_fresh) turns.0
    (true_of their_offer (offer_of side.options) theirs side.past (sends packet) their_past turns.0) turns.1

-- what the other side does leaves this one as it is
pub true_beside : (their_offer : Offer) (side : SideState) (beside : SideState) (changes : List Change)
    → TrueSide their_offer side beside.past → TrueSide their_offer side (after_changes beside changes).past
true_beside their_offer side beside [] h = h
true_beside their_offer side beside (change ∷ changes) h =
    true_beside their_offer side (after_change beside change) changes
    (record {
      past = past_grows (offer_of side.options) their_offer side.past beside.past (after_effects change.effects beside.past) (after_within change.effects beside.past) h.past;
      core = core_grows (offer_of side.options) their_offer side.past beside.past (after_effects change.effects beside.past) side.core (after_within change.effects beside.past) h.core;
    })

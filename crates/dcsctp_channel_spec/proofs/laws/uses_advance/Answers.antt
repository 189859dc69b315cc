use Rattle.std.proofs.Common.{ℕ, ◌+◌, Bool, true, false, nat_lt, Option, refl, arith, inl, inr}
use Rattle.dcsctp_channel_spec.specs.declared.types.OwnReset.{OwnReset}
use Rattle.dcsctp_channel_spec.specs.declared.types.OwnReset.TheVariants.{NotAsked, Asked, Performed, GivenUp}
use Rattle.dcsctp_channel_spec.specs.declared.types.StreamUse.{StreamUse}
use Rattle.dcsctp_channel_spec.specs.Slots.{Opening, used, SlotInput, opens, agrees, hears_open, hears_ack, hears_message, hears_bad_message, may_acknowledge, is_closed, all_is_sent, cannot_reset, was_performed, was_refused, peer_resets, association_ends}
use Rattle.dcsctp_channel_spec.specs.Table.{closed_use, heard_use, most_refusals, asks_again_or_gives_up, outcome_of}
use Rattle.dcsctp_channel_spec.specs.Laws.{Advances, AdvancesTo, UsesAdvance}
use Rattle.dcsctp_channel_spec.proofs.laws.uses_advance.Goals as goal

keeps : (input : SlotInput) (stream : StreamUse) → Advances input stream stream
keeps input stream =
    record { heard = λ h. h; closing = λ h. h; peer_reset = λ h. h; owes_ack = λ h. h; answered = λ h. h; own = inl refl; refusals = omega arith }

hears : (input : SlotInput) (stream : StreamUse) → Advances input stream (heard_use stream)
hears input stream =
    record { heard = λ h. refl; closing = λ h. h; peer_reset = λ h. h; owes_ack = λ h. h; answered = λ h. h; own = inl refl; refusals = omega arith }

closing : (input : SlotInput) (stream : StreamUse) → Advances input stream (closed_use stream)
closing input stream =
    record { heard = λ h. h; closing = λ h. refl; peer_reset = λ h. h; owes_ack = λ h. h; answered = λ h. h; own = inl refl; refusals = omega arith }

answered : (input : SlotInput) (stream : StreamUse) → Advances input stream (record stream { awaits_answer = false })
answered input stream =
    record { heard = λ h. h; closing = λ h. h; peer_reset = λ h. h; owes_ack = λ h. h; answered = λ h. refl; own = inl refl; refusals = omega arith }

-- a stream in use, by its fields
abbrev made : Option ℕ → Bool → Bool → Bool → OwnReset → Bool → Bool → ℕ → StreamUse
made name heard owes closing own peer_reset awaits refusals =
    record { name = name; heard = heard; owes_ack = owes; closing = closing; own = own; peer_reset = peer_reset; awaits_answer = awaits; refusals = refusals }

-- what an input makes of it
abbrev Goes : SlotInput → StreamUse → Type 0
Goes input stream = AdvancesTo input stream (outcome_of input (used stream)).after

reopened : (accepted : Bool) (name : ℕ) (opening : Opening) (n : Option ℕ) (h o c : Bool) (own : OwnReset) (p a : Bool) (r : ℕ) → Goes (hears_open accepted name opening) (made n h o c own p a r)
reopened true name opening n h o c Asked true a r = inl (record { was_reset = refl; was_asked = refl; awaits = refl; begins = refl })
reopened false name opening n h o c Asked true a r = inl (record { was_reset = refl; was_asked = refl; awaits = refl; begins = refl })
reopened accepted name opening n h o c NotAsked true a r = inr (closing _ _)
reopened accepted name opening n h o c Performed true a r = inr (closing _ _)
reopened accepted name opening n h o c GivenUp true a r = inr (closing _ _)
reopened accepted name opening n h o c own false a r = inr (closing _ _)

acknowledged : (n : Option ℕ) (h o c : Bool) (own : OwnReset) (p a : Bool) (r : ℕ) → Goes may_acknowledge (made n h o c own p a r)
acknowledged n h true false own p a r =
    record { heard = λ h. h; closing = λ h. h; peer_reset = λ h. h; owes_ack = λ h. refl; answered = λ h. h; own = inl refl; refusals = omega arith }
acknowledged n h true true own p a r = keeps _ _
acknowledged n h false c own p a r = keeps _ _

asked : (n : Option ℕ) (h o c : Bool) (own : OwnReset) (p a : Bool) (r : ℕ) → Goes all_is_sent (made n h o c own p a r)
asked n h o true NotAsked p false r =
    record { heard = λ h. h; closing = λ h. h; peer_reset = λ h. h; owes_ack = λ h. h; answered = λ h. h; own = inr tt; refusals = omega arith }
asked n h o true Asked p false r = keeps _ _
asked n h o true Performed p false r = keeps _ _
asked n h o true GivenUp p false r = keeps _ _
asked n h o true own p true r = keeps _ _
asked n h o false own p a r = keeps _ _

given_up : (n : Option ℕ) (h o c : Bool) (own : OwnReset) (p a : Bool) (r : ℕ) → Goes cannot_reset (made n h o c own p a r)
given_up n h o true NotAsked p false r =
    record { heard = λ h. h; closing = λ h. h; peer_reset = λ h. h; owes_ack = λ h. h; answered = λ h. h; own = inr tt; refusals = omega arith }
given_up n h o true Asked p false r = keeps _ _
given_up n h o true Performed p false r = keeps _ _
given_up n h o true GivenUp p false r = keeps _ _
given_up n h o true own p true r = keeps _ _
given_up n h o false own p a r = keeps _ _

performed : (n : Option ℕ) (h o c : Bool) (own : OwnReset) (p a : Bool) (r : ℕ) → Goes was_performed (made n h o c own p a r)
performed n h o c Asked true a r = tt
performed n h o c Asked false a r =
    record { heard = λ h. h; closing = λ h. h; peer_reset = λ h. h; owes_ack = λ h. h; answered = λ h. refl; own = inr tt; refusals = omega arith }
performed n h o c NotAsked p a r = answered _ _
performed n h o c Performed p a r = answered _ _
performed n h o c GivenUp p a r = answered _ _

asked_again : (n : Option ℕ) (h o c p a : Bool) (r : ℕ) (again : Bool)
    → AdvancesTo was_refused (made n h o c Asked p a r) (asks_again_or_gives_up again (made n h o c Asked p false r)).after
asked_again n h o c p a r true =
    record { heard = λ h. h; closing = λ h. h; peer_reset = λ h. h; owes_ack = λ h. h; answered = λ h. refl; own = inr tt; refusals = omega arith }
asked_again n h o c p a r false =
    record { heard = λ h. h; closing = λ h. h; peer_reset = λ h. h; owes_ack = λ h. h; answered = λ h. refl; own = inr tt; refusals = omega arith }

refused : (n : Option ℕ) (h o c : Bool) (own : OwnReset) (p a : Bool) (r : ℕ) → Goes was_refused (made n h o c own p a r)
refused n h o c Asked p a r = asked_again n h o c p a r (nat_lt (r + 1) most_refusals)
refused n h o c NotAsked p a r = answered _ _
refused n h o c Performed p a r = answered _ _
refused n h o c GivenUp p a r = answered _ _

reset : (n : Option ℕ) (h o c : Bool) (own : OwnReset) (p a : Bool) (r : ℕ) → Goes peer_resets (made n h o c own p a r)
reset n h o c Performed p a r = tt
reset n h o c NotAsked p a r =
    record { heard = λ h. h; closing = λ h. refl; peer_reset = λ h. refl; owes_ack = λ h. h; answered = λ h. h; own = inl refl; refusals = omega arith }
reset n h o c Asked p a r =
    record { heard = λ h. h; closing = λ h. refl; peer_reset = λ h. refl; owes_ack = λ h. h; answered = λ h. h; own = inl refl; refusals = omega arith }
reset n h o c GivenUp p a r =
    record { heard = λ h. h; closing = λ h. refl; peer_reset = λ h. refl; owes_ack = λ h. h; answered = λ h. h; own = inl refl; refusals = omega arith }

-- the same of all fields of a stream
abbrev by : (input : SlotInput) → ((n : Option ℕ) (h o c : Bool) (own : OwnReset) (p a : Bool) (r : ℕ) → Goes input (made n h o c own p a r)) → (stream : StreamUse) → Goes input stream
by input goes stream = goes stream.name stream.heard stream.owes_ack stream.closing stream.own stream.peer_reset stream.awaits_answer stream.refusals

advances : UsesAdvance
advances (opens name opening) stream = keeps _ stream
advances (agrees name) stream = keeps _ stream
advances (hears_open accepted name opening) stream = by (hears_open accepted name opening) (reopened accepted name opening) stream
advances hears_ack stream = hears _ stream
advances (hears_message content) stream = hears _ stream
advances hears_bad_message stream = closing _ stream
advances may_acknowledge stream = by may_acknowledge acknowledged stream
advances is_closed stream = closing _ stream
advances all_is_sent stream = by all_is_sent asked stream
advances cannot_reset stream = by cannot_reset given_up stream
advances was_performed stream = by was_performed performed stream
advances was_refused stream = by was_refused refused stream
advances peer_resets stream = by peer_resets reset stream
advances association_ends stream = tt

pub returns-clause-advance : goal.returns-clause-advance
returns-clause-advance c = advances

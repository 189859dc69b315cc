-- Messages with limits: they alone are abandoned (RFC 3758).
use Rattle.std.proofs.Common.{◌≡◌, ℕ, Bool, true, false, ◌+◌, List, ◌∷◌, [], ◌++◌, refl, sym, ◌∙◌, ap, subst}
use Rattle.std.specs.Prelude.{Option, None, Some, is_some, ◌||◌, ◌&&◌, min, nat_lt, ◌==◌, if◌then◌else◌}
use Rattle.std.specs.Option.{option_map}
use Rattle.std.specs.Duration.{as_nanos, max_nanos}
use Rattle.dcsctp_spec.specs.types.declared.message.SendOptions.{SendOptions}
use Rattle.dcsctp_spec.specs.types.declared.progress.Change.{Change}
use Rattle.dcsctp_spec.specs.types.declared.progress.Change.TheVariants.{SendAgain, Miss, Mark, Acknowledge}
use Rattle.dcsctp_spec.specs.types.declared.progress.ItemState.{ItemState}
use Rattle.dcsctp_spec.specs.types.declared.progress.ItemState.TheVariants.{InFlight, Marked, Acknowledged, Abandoned}
use Rattle.dcsctp_spec.specs.types.declared.progress.Progress.{Progress}
use Rattle.dcsctp_spec.specs.types.queues.Progress.{is_marked, is_abandoned, just_sent, missed_progress, missed_if_told, marked_lost, acknowledged_progress, progress_changed, tells_whether_missing}
use Rattle.dcsctp_spec.specs.queues.Items.{Item}
use Rattle.dcsctp_spec.specs.queues.NextItem.{is_used_up, is_over, is_abandonment_due}
use Rattle.dcsctp_spec.specs.queues.Sending.{Fragment}
use Rattle.dcsctp_delivery_directions.specs.sending.Log.{Slot, History}
use Rattle.dcsctp_delivery_directions.specs.sending.Pieces.{HasNoLimits}
use Rattle.dcsctp_delivery_directions.specs.sending.Queueing.{has_limits}
use Rattle.dcsctp_delivery_directions.specs.sending.Stages.{IsNamedFragment, IsOfLimited}
use Rattle.dcsctp_delivery_directions.proofs.sending.Places.{at_stays}

-- a message that waits has the limits of its options
pub no_limits : (now : ℕ) (options : SendOptions)
    → HasNoLimits (has_limits options) (option_map (λ lifetime. min (now + as_nanos lifetime) max_nanos) options.lifetime) options.max_retransmissions
no_limits now options = go (λ lifetime. min (now + as_nanos lifetime) max_nanos) options.lifetime options.max_retransmissions
  where
    go : {A : Type 0} (ends : A → ℕ) (lifetime : Option A) (most : Option ℕ) → HasNoLimits (is_some lifetime || is_some most) (option_map ends lifetime) most
    go ends None None free = (refl, refl)
    go ends None (Some most) free = absurd (cc)
    go ends (Some lifetime) most free = absurd (cc)

pub are_limited : (now : ℕ) (options : SendOptions) → has_limits options ≡ true
    → (is_some options.max_retransmissions || is_some (option_map (λ lifetime. min (now + as_nanos lifetime) max_nanos) options.lifetime)) ≡ true
are_limited now options = go (λ lifetime. min (now + as_nanos lifetime) max_nanos) options.lifetime options.max_retransmissions
  where
    go : {A : Type 0} (ends : A → ℕ) (lifetime : Option A) (most : Option ℕ) → (is_some lifetime || is_some most) ≡ true → (is_some most || is_some (option_map ends lifetime)) ≡ true
    go ends None None limited = absurd (cc)
    go ends None (Some most) limited = refl
    go ends (Some lifetime) None limited = refl
    go ends (Some lifetime) (Some most) limited = refl

-- ---- what is abandoned

-- The change abandons nothing.
abbrev pub Leaves : Change → Type 0
Leaves change = (progress : Progress) → is_abandoned (progress_changed change progress).state ≡ true → is_abandoned progress.state ≡ true

pub sending_leaves : (next : ℕ) → Leaves (SendAgain next)
sending_leaves next progress is = absurd (cc)

pub missing_leaves : (newest : Option ℕ) → Leaves (Miss newest)
missing_leaves newest progress is = told (tells_whether_missing progress.sent_before newest) is
  where
    few : (a b : Bool) → is_abandoned (if a then record progress { state = Marked; misses = 3 } else if b then record progress { misses = progress.misses + 1 } else progress).state ≡ true → is_abandoned progress.state ≡ true
    few true b is = absurd (cc)
    few false true is = is
    few false false is = is

    one : (state : ItemState) → is_abandoned (missed_progress state progress).state ≡ true → is_abandoned progress.state ≡ true
    one InFlight is = few (progress.misses == 2) (nat_lt progress.misses 2) is
    one Marked is = is
    one Acknowledged is = is
    one Abandoned is = is

    told : (tells : Bool) → is_abandoned (missed_if_told tells progress).state ≡ true → is_abandoned progress.state ≡ true
    told true is = one progress.state is
    told false is = is

pub losing_leaves : Leaves Mark
losing_leaves progress is = one progress.state is
  where
    one : (state : ItemState) → is_abandoned (marked_lost state progress).state ≡ true → is_abandoned progress.state ≡ true
    one InFlight is = absurd (cc)
    one Marked is = is
    one Acknowledged is = is
    one Abandoned is = is

pub acknowledging_leaves : Leaves Acknowledge
acknowledging_leaves progress is = one progress.state is
  where
    one : (state : ItemState) → is_abandoned (acknowledged_progress state progress).state ≡ true → is_abandoned progress.state ≡ true
    one InFlight is = absurd (cc)
    one Marked is = absurd (cc)
    one Acknowledged is = is
    one Abandoned is = is

-- A change leaves what was abandoned so.
abbrev pub Keeps : Change → Type 0
Keeps change = (progress : Progress) → is_abandoned progress.state ≡ true → is_abandoned (progress_changed change progress).state ≡ true

pub missing_keeps : (newest : Option ℕ) → Keeps (Miss newest)
missing_keeps newest progress is = told (tells_whether_missing progress.sent_before newest)
  where
    one : (state : ItemState) → is_abandoned state ≡ true → is_abandoned progress.state ≡ true → is_abandoned (missed_progress state progress).state ≡ true
    one InFlight same is' = absurd (cc)
    one Marked same is' = is'
    one Acknowledged same is' = is'
    one Abandoned same is' = is'

    told : (tells : Bool) → is_abandoned (missed_if_told tells progress).state ≡ true
    told true = one progress.state is is
    told false = is

pub losing_keeps : Keeps Mark
losing_keeps progress is = one progress.state is
  where
    one : (state : ItemState) → is_abandoned state ≡ true → is_abandoned (marked_lost state progress).state ≡ true
    one InFlight same = absurd (cc)
    one Marked same = is
    one Acknowledged same = is
    one Abandoned same = is

pub acknowledging_keeps : Keeps Acknowledge
acknowledging_keeps progress is = one progress.state is
  where
    one : (state : ItemState) → is_abandoned state ≡ true → is_abandoned (acknowledged_progress state progress).state ≡ true
    one InFlight same = absurd (cc)
    one Marked same = absurd (cc)
    one Acknowledged same = is
    one Abandoned same = is

-- What waits to be sent again isn't abandoned.
pub marked_kept : {A : Type 0} (state : ItemState) → is_marked state ≡ true → is_abandoned state ≡ true → A
marked_kept InFlight is is' = absurd (cc)
marked_kept Marked is is' = absurd (cc)
marked_kept Acknowledged is is' = absurd (cc)
marked_kept Abandoned is is' = absurd (cc)

-- What was just sent isn't abandoned.
pub new_limited : {A : Type 0} (item : Item) → item.progress ≡ just_sent → is_abandoned item.progress.state ≡ true → A
new_limited item fresh is = absurd (let clash : false ≡ true = sym (ap (λ (p : Progress). is_abandoned p.state) fresh) ∙ is in cc)

-- What has no limits is never due to be abandoned.
pub never_due : (now : ℕ) (negotiated : Bool) (item : Item) → item.fragment.expires_at ≡ None → item.fragment.max_retransmissions ≡ None → is_abandonment_due now negotiated item ≡ true → ⊥
never_due now negotiated item expires most due =
    let half : (negotiated && is_marked item.progress.state && (is_used_up item.fragment.max_retransmissions item.progress.times_sent_again || is_over None now)) ≡ true =
    subst (λ (m : Option ℕ). (negotiated && is_marked item.progress.state && (is_used_up item.fragment.max_retransmissions item.progress.times_sent_again || is_over m now)) ≡ true) expires due in
    never negotiated (is_marked item.progress.state)
    (subst (λ (m : Option ℕ). (negotiated && is_marked item.progress.state && (is_used_up m item.progress.times_sent_again || is_over None now)) ≡ true) most half)
  where
    never : (a b : Bool) → (a && b && (is_used_up None item.progress.times_sent_again || is_over None now)) ≡ true → ⊥
    never true true is = absurd (cc)
    never true false is = absurd (cc)
    never false b is = absurd (cc)

-- So what is due has some.
pub limited_due : (history : History) (own now : ℕ) (negotiated : Bool) (item : Item) → IsNamedFragment history own item.fragment → is_abandonment_due now negotiated item ≡ true → IsOfLimited history.log item.fragment
limited_due history own now negotiated item n due =
    record { number = n.number; piece = n.piece; at = n.at; of = n.of; limited = go n.piece.message.is_limited n.limits }
  where
    go : (limited : Bool) → HasNoLimits limited item.fragment.expires_at item.fragment.max_retransmissions → limited ≡ true
    go true limits = refl
    go false limits = absurd (never_due now negotiated item (limits refl).0 (limits refl).1 due)

-- ---- fragments of such messages

-- so is one of the same message
pub limited_same : (log : List Slot) (part other : Fragment) → part.message_id ≡ other.message_id → IsOfLimited log other → IsOfLimited log part
limited_same log part other same is = record { number = is.number; piece = is.piece; at = is.at; of = same ∙ is.of; limited = is.limited }

pub limited_stays : (slot : Slot) (log : List Slot) (part : Fragment) → IsOfLimited log part → IsOfLimited (slot ∷ log) part
limited_stays slot log part is = record { number = is.number; piece = is.piece; at = at_stays is.number slot (Some is.piece) log is.at; of = is.of; limited = is.limited }

pub limited_more : (more log : List Slot) (part : Fragment) → IsOfLimited log part → IsOfLimited (more ++ log) part
limited_more [] log part is = is
limited_more (slot ∷ more) log part is = limited_stays slot (more ++ log) part (limited_more more log part is)

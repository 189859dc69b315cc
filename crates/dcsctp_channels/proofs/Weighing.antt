-- Where no stream has anything put off, no walk over the streams is needed.
use Rattle.std.proofs.Common.{◌≡◌, ◌==◌, ℕ, ◌+◌, Bool, true, false, ◌&&◌, ◌||◌, Option, Some, List, [], ◌∷◌, refl, sym, ap, ◌∙◌, arith, if◌then◌else◌}
use Rattle.std.specs.List.{All}
use Rattle.std.specs.BTreeMap.{is_at}
use Rattle.std.specs.List.Sorted.{IsStrictlySortedBy}
use Rattle.std.specs.Map.{keys_of, values_of}
use Rattle.std.specs.Option.{unwrap_or, option_map}
use Rattle.std.specs.Ordering.{nat_cmp}
use Rattle.std.proofs.lemmas.Cmp.{nat_cmp_total}
use Rattle.std.proofs.lemmas.Map.Entries.{sum_by-insert_entry, sum_by-remove_entry}
use Rattle.std.proofs.lemmas.List.Elements.{All-cons, All-nil}
use Rattle.std.proofs.lemmas.List.Sums.{sum_by-cons}
use Rattle.dcsctp_channel_calls.specs.api.Calls.{UserView, stream_shown}
use Rattle.dcsctp_channel_calls.specs.declared.channel.HeldStream.{HeldStream}
use Rattle.dcsctp_channel_calls.specs.View.{ChannelsView, entry_numbered, entry_put, without_entry}
use Rattle.dcsctp_channel_calls.specs.Arrivals.{owes_now, is_open_now, ack_is_due}
use Rattle.dcsctp_channel_calls.specs.Late.{may_reset, patience_ends, is_all_sent, reset_is_due, NoResetIsDue, NoAckIsDue}
use Rattle.dcsctp_channel_calls.specs.Polls.{sooner_if_ending, deadline_with}
use Rattle.dcsctp_channels.specs.Weights.{late_weight, late_count}

abbrev counts : Bool → ℕ
counts b = if b then 1 else 0

none_of : (may owes : Bool) → counts (may || owes) ≡ 0 → (may ≡ false) × (owes ≡ false)
none_of true owes is = absurd cc
none_of false true is = absurd cc
none_of false false is = (refl, refl)

none_first : (entry : ℕ × HeldStream) (entries : List (ℕ × HeldStream)) → late_count (entry ∷ entries) ≡ 0 → (may_reset entry.1.stream ≡ false) × (owes_now entry.1.stream ≡ false)
none_first entry entries is =
    let sum : late_weight entry.1 + late_count entries ≡ 0 = sym (sum_by-cons late_weight entry.1 (values_of entries)) ∙ is in
    let weight : late_weight entry.1 ≡ 0 = omega arith in none_of (may_reset entry.1.stream) (owes_now entry.1.stream) weight

none_behind : (entry : ℕ × HeldStream) (entries : List (ℕ × HeldStream)) → late_count (entry ∷ entries) ≡ 0 → late_count entries ≡ 0
none_behind entry entries is = let sum : late_weight entry.1 + late_count entries ≡ 0 = sym (sum_by-cons late_weight entry.1 (values_of entries)) ∙ is in omega arith

no_resets_in : (view : ChannelsView) (entries : List (ℕ × HeldStream)) → late_count entries ≡ 0 → All (λ (entry : ℕ × HeldStream). reset_is_due view entry.0 entry.1 ≡ false) entries
no_resets_in view [] is = All-nil _
no_resets_in view (entry ∷ entries) is =
    All-cons (λ (e : ℕ × HeldStream). reset_is_due view e.0 e.1 ≡ false) entry entries (ap (λ (b : Bool). b && is_all_sent view entry.0 entry.1) (none_first entry entries is).0)
    (no_resets_in view entries (none_behind entry entries is))

pub no_resets : (view : ChannelsView) → late_count view.layer.streams ≡ 0 → NoResetIsDue view
no_resets view is = record { none = no_resets_in view view.layer.streams is }

and_false : (a b : Bool) → (a && b && false) ≡ false
and_false true true = refl
and_false true false = refl
and_false false b = refl

no_acks_in : (view : ChannelsView) (entries : List (ℕ × HeldStream)) → late_count entries ≡ 0 → All (λ (entry : ℕ × HeldStream). ack_is_due view entry.1 ≡ false) entries
no_acks_in view [] is = All-nil _
no_acks_in view (entry ∷ entries) is =
    All-cons (λ (e : ℕ × HeldStream). ack_is_due view e.1 ≡ false) entry entries
    (ap (λ (b : Bool). view.layer.has_room && is_open_now view.below.endpoint.core && b) (none_first entry entries is).1 ∙ and_false view.layer.has_room (is_open_now view.below.endpoint.core))
    (no_acks_in view entries (none_behind entry entries is))

pub no_acks : (view : ChannelsView) → late_count view.layer.streams ≡ 0 → NoAckIsDue view
no_acks view is = record { none = no_acks_in view view.layer.streams is }

pub no_deadline : (below : UserView) (entries : List (ℕ × HeldStream)) (due : ℕ) → late_count entries ≡ 0 → deadline_with below entries due ≡ due
no_deadline below [] due is = refl
no_deadline below (entry ∷ entries) due is =
    ap (λ (b : Bool). deadline_with below entries (sooner_if_ending (b && (stream_shown below entry.0).amount == 0) (patience_ends entry.1) due)) (none_first entry entries is).0
    ∙ no_deadline below entries due (none_behind entry entries is)

-- ---- a stream comes into use, or goes

pub freed_weight : (number : ℕ) (entries others : List (ℕ × HeldStream)) (held : HeldStream) → others ≡ without_entry number entries → entry_numbered number entries ≡ Some held
    → late_count others + late_weight held ≡ late_count entries
freed_weight number entries others held is at =
    ap (λ (es : List (ℕ × HeldStream)). late_count es + late_weight held) is
    ∙ ap (λ (o : Option HeldStream). late_count (without_entry number entries) + unwrap_or (option_map late_weight o) 0) (sym at)
    ∙ sum_by-remove_entry late_weight (is_at (nat_cmp number)) entries

pub put_weight : (number : ℕ) (held : HeldStream) (entries others : List (ℕ × HeldStream)) (before : Option HeldStream) → IsStrictlySortedBy nat_cmp (keys_of entries) → others ≡ entry_put number held entries
    → before ≡ entry_numbered number entries → late_count others + unwrap_or (option_map late_weight before) 0 ≡ late_count entries + late_weight held
put_weight number held entries others before sorted is at =
    ap (λ (es : List (ℕ × HeldStream)). late_count es + unwrap_or (option_map late_weight before) 0) is
    ∙ ap (λ (o : Option HeldStream). late_count (entry_put number held entries) + unwrap_or (option_map late_weight o) 0) at
    ∙ sum_by-insert_entry late_weight nat_cmp_total entries number held sorted

-- A new item (RFC 9260, section 6.1).
use Rattle.std.specs.Prelude.{Result, Ok, Err, ◌≡◌, ◌⊎◌, ℕ, Bool, Option, None, Some, [], ◌∷◌, ◌++◌}
use Rattle.std.specs.declared.alloc.AllocError.{AllocError}
use Rattle.dcsctp_api.specs.spec.queues.Sending.{TakesFragment, TakesNone}
use Rattle.dcsctp_send_queue.specs.Calls.{StopsTaking}
use Rattle.dcsctp_api.specs.spec.queues.ItemMessages.{ItemStage}
use Rattle.dcsctp_api.specs.spec.queues.Items.{Item}
use Rattle.dcsctp_api.specs.spec.queues.Outstanding.{next_tsn}
use Rattle.dcsctp_api.specs.spec.queues.Filling.{IsSentFirstNow}

-- The next TSN goes to a new item, with what the send queue gives.
pub record SendsItem (now max : ℕ) (reset_begun : Bool) (old new : ItemStage) (tsn : ℕ) : Type 0 where
  pub item : Item
  pub is_fresh : IsSentFirstNow now item
  pub begins : item.begins_after_reset ≡ reset_begun
  pub takes : TakesFragment now max old.waiting old.events item.fragment new.waiting new.events
  pub grows : new.outstanding ≡ record old.outstanding { items = old.outstanding.items ++ item ∷ [] }
  pub tsn_is : tsn ≡ next_tsn old.outstanding

-- what a try to send a new item does, by its result
abbrev pub TriesItem : ℕ → ℕ → Bool → ItemStage → ItemStage → Result (Option ℕ) AllocError → Type 0
TriesItem now max reset_begun old new (Ok None) =
    (new.outstanding ≡ old.outstanding) × TakesNone now old.waiting old.events new.waiting new.events
TriesItem now max reset_begun old new (Ok (Some tsn)) = SendsItem now max reset_begun old new tsn
TriesItem now max reset_begun old new (Err error) =
    (new.outstanding ≡ old.outstanding)
    × (((new.waiting ≡ old.waiting) × (new.events ≡ old.events)) ⊎ StopsTaking now max old.waiting old.events new.waiting new.events)

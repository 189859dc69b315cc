-- What stood where entries of FORWARD-TSNs were kept, so that it can be put back.
use Rattle.std.specs.Prelude.{◌≡◌, ℕ, List, [], ◌∷◌}
use Rattle.std.specs.BTreeMap.{insert_entry, is_at}
use Rattle.std.specs.Map.{lookup}
use Rattle.std.specs.Ordering.{nat_cmp}
use Rattle.dcsctp_api.specs.types.declared.arrivals.SkippedTo.{SkippedTo}
use Rattle.dcsctp_receive_ordered_map.specs.Entries.{Ascends}
use Rattle.dcsctp_receive_reassembly.specs.declared.deferral.Replaced.{Replaced}

-- An entry was put at a key, and this stood there before.
pub record WasReplaced (one : Replaced) (before after : List (ℕ × SkippedTo)) : Type 0 where
  pub entry : SkippedTo
  pub ascends : Ascends before
  pub stood : one.before ≡ lookup (is_at (nat_cmp one.key)) before
  pub put : after ≡ insert_entry nat_cmp before one.key entry

-- Entries were put one after the other.
abbrev pub WereReplaced : List Replaced → List (ℕ × SkippedTo) → List (ℕ × SkippedTo) → Type 0
WereReplaced [] before after = after ≡ before
WereReplaced (one ∷ others) before after = (between : List (ℕ × SkippedTo)) × WasReplaced one before between × WereReplaced others between after

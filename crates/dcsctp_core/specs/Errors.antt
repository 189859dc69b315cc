-- The count of errors (RFC 9260, section 8.1).
use Rattle.std.specs.Prelude.{ℕ, Option}

pub record ErrorCount : Type 0 where
  -- None: no limit
  pub limit : Option ℕ
  pub count : ℕ

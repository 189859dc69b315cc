-- A printable line is ASCII, and so it is a text.
use Rattle.std.proofs.Common.{List, ℕ, arith, subst, sym}
use Rattle.std.specs.Str.{IsUtf8}
use Rattle.std.proofs.lemmas.Str.{IsUtf8-from_ascii}
use Rattle.std.proofs.lemmas.Str.Ascii.{IsAscii-from_all}
use Rattle.dcsctp_script.specs.Script.{IsPrintable}
use Rattle.dcsctp_script.proofs.script.Script.text.Goals as goal

printable-utf8 : (line : List ℕ) → IsPrintable line → IsUtf8 line
printable-utf8 line printable =
    IsUtf8-from_ascii line (IsAscii-from_all line (λ k d inside. let within = printable k d inside in omega arith))

pub returns-in-Err-clause-all : goal.returns-in-Err-clause-all
returns-in-Err-clause-all g c =
    λ printable. absurd (c.in-Err.ensures.cases.0 (subst IsUtf8 (sym c.deref-2.ensures.value) (printable-utf8 _ printable)))

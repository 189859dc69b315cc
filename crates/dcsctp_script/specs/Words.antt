-- The random words of a script.
use Rattle.std.specs.Prelude.{ℕ, List, [], ◌∷◌}

-- The next word, and the words after it: the listed ones in their order, and then zeros.
abbrev pub next_word : List ℕ → ℕ × List ℕ
next_word [] = (0, [])
next_word (word ∷ words) = (word, words)

-- Random words of a call, and the pairs that are made of them.
use Rattle.std.specs.Prelude.{◌≡◌, ℕ, Result, [], ◌∷◌, ◌++◌}
use Rattle.rand_core.specs.Stream.{Stream, next_u32, next_u64}
use Rattle.dcsctp_transfer.specs.types.declared.association.Pair.{Pair}
use Rattle.dcsctp_transfer.specs.types.declared.word.Word.{Word}
use Rattle.dcsctp_transfer.specs.types.ByResult.{ByResult}
use Rattle.dcsctp_core.specs.declared.context.Context.{Context}

-- the next word, the one after it, and the next word of 64 bits
abbrev pub first_word : Stream → ℕ
first_word stream = (next_u32 stream).0

abbrev pub second_word : Stream → ℕ
second_word stream = (next_u32 (next_u32 stream).1).0

abbrev pub long_word : Stream → ℕ
long_word stream = (next_u64 stream).0

-- Words may have been drawn and pairs kept, and nothing else has changed.
abbrev pub OnlyDraws : {R : Type 0} → Context R → Context R → Type 0
OnlyDraws old new = new ≡ record old { generator = new.generator; words = new.words; pairs = new.pairs }

-- The word is the next one of its kind, and the last that is kept. Nothing else changes.
pub record DrawsNext {R : Type 0} (stream : R → Stream) (next : Stream → ℕ × Stream) (kind : ℕ → Word) (old : Context R) (word : ℕ)
    (new : Context R) : Type 0 where
  pub from_stream : word ≡ (next (stream old.generator)).0
  pub kept : new.words.items ≡ old.words.items ++ kind word ∷ []
  pub left : stream new.generator ≡ (next (stream old.generator)).1
  pub pairs : new.pairs ≡ old.pairs
  pub only : OnlyDraws old new

-- A word was drawn; or an allocation failed, and nothing has changed but the generator.
abbrev pub Draws : {R E : Type 0} → (R → Stream) → (Stream → ℕ × Stream) → (ℕ → Word) → Context R → Result ℕ E → Context R → Type 0
Draws stream next kind old result new =
    ByResult (λ word. DrawsNext stream next kind old word new)
    (OnlyDraws old new × (new.words.items ≡ old.words.items) × (new.pairs ≡ old.pairs)) result

-- The pair is the last that is kept. Nothing else changes.
pub record KeepsLast {R : Type 0} (old : Context R) (pair : Pair) (new : Context R) : Type 0 where
  pub kept : new.pairs.items ≡ old.pairs.items ++ pair ∷ []
  pub words : new.words ≡ old.words
  pub generator : new.generator ≡ old.generator
  pub only : OnlyDraws old new

-- A pair was kept; or an allocation failed, and nothing has changed.
abbrev pub KeepsPair : {R E : Type 0} → Context R → Pair → Result (Unit {0}) E → Context R → Type 0
KeepsPair old pair result new =
    ByResult (λ done. KeepsLast old pair new)
    (OnlyDraws old new × (new.pairs.items ≡ old.pairs.items) × (new.words ≡ old.words) × (new.generator ≡ old.generator)) result

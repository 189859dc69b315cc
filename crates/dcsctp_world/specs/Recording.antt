-- A generator with the words that it gave.
use Rattle.std.specs.Prelude.{◌≡◌, Bool, true, false, List, [], ◌∷◌, ◌++◌}
use Rattle.rand_core.specs.Stream.{Stream}
use Rattle.dcsctp_core.specs.types.declared.word.Word.{Word}

-- the generator, the words that are kept, oldest first, and whether these are all that it gave
pub record Recording (R : Type 0) : Type 0 where
  pub inner : R
  pub words : List Word
  pub is_whole : Bool

-- one that gave nothing yet
abbrev pub fresh_recording : {R : Type 0} → R → Recording R
fresh_recording inner = record { inner = inner; words = []; is_whole = true }

-- what it answers from now on: what the generator does
abbrev pub recorded_stream : {R : Type 0} → (R → Stream) → Recording R → Stream
recorded_stream stream recording = stream recording.inner

-- It is whole after it gave this word if it was before and the word is kept. Else nothing more is kept.
abbrev pub KeepsWordIfRoom : {R : Type 0} → Bool → Word → Recording R → List Word → Type 0
KeepsWordIfRoom true word old words = (old.is_whole ≡ true) × (words ≡ old.words ++ word ∷ [])
KeepsWordIfRoom false word old words = words ≡ old.words

abbrev pub KeepsWord : {R : Type 0} → Word → Recording R → Recording R → Type 0
KeepsWord word old new = KeepsWordIfRoom new.is_whole word old new.words

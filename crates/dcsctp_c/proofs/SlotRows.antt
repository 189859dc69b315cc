-- What the proofs of a slot share.
--     Heap, word, typed   the allocator as a row, the type of its machine value, and that it has one of that type
--     Apart               the words of a session's box
--     the_some            a value that is there
use Rattle.std.proofs.Common.{◌≡◌, List, [], ◌∷◌, Option, Some, None, IsSome, refl, true≢false, sym}
use mir.Syntax.{Ty}
use mir.Val.{Val}
use seplogic.Ra.Ura.{Ura}
use types.Logic.{Logic}
use denote.RattleType.{RattleType}
use denote.Laws.{Is, Typed}
use denote.Param.{layout}
use Rattle.std_heap.specs.contracts.Global as heap
use Rattle.std_heap.specs.contracts.GlobalAllocator.TheImpl.{ghosts}
use Rattle.std_heap.proofs.Global.TheLaws.{the_row_laws}
use Rattle.dcsctp_channel_session.specs.contracts.held.Held as content
use Rattle.dcsctp_c.specs.contracts.words.Words as words

abbrev pub Heap : RattleType
Heap = heap.the_row

abbrev pub word : Ty
word = layout Heap

pub typed : {M : Type 1} {𝓤 : Ura M} (𝓛 : Logic 𝓤) (a : Heap.Denot) (vs : List Val) → Is Heap a vs → Typed (word ∷ []) vs
typed 𝓛 = (the_row_laws.lawful 𝓛).typed

abbrev pub Apart : RattleType
Apart = words.the_row content.the_row Heap ghosts

pub the_some : {X : Type 0} (o : Option X) → IsSome o → (x : X) × (o ≡ Some x)
the_some None is = absurd (true≢false (sym is))
the_some (Some x) is = (x, refl)

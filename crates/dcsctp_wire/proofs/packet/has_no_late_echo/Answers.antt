use Rattle.std.proofs.Common.{Bool, rules, not, ap, tests}
use Rattle.std.proofs.lemmas.Iterator.{YieldsList-from_slice}
use Rattle.std.proofs.lemmas.Iterator.Adapters.{YieldsList-from_skip}
use Rattle.std.proofs.lemmas.Iterator.Search.{any_from_yields_List}
use Rattle.dcsctp_wire.specs.declared.chunk.Chunk.{Chunk}
use Rattle.dcsctp_wire.specs.Content.{chunk_content}
use Rattle.dcsctp_wire.specs.Format.{is_cookie_echo}
use Rattle.dcsctp_wire.proofs.packet.has_no_late_echo.Goals as goal

pub returns : goal.returns
returns c =
    let test : Chunk → Bool = λ chunk. is_cookie_echo (chunk_content chunk) in
    ap not (any_from_yields_List test _ _ _ c.any-late.ensures.ran (YieldsList-from_skip 1 (YieldsList-from_slice c.args.chunks.now cc) cc) (λ x b q k. search (rules, tests)))

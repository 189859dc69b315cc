use Rattle.std.proofs.Common.{List, [], ◌∷◌, append_assoc, subst, sym, ◌∙◌}
use Rattle.std.proofs.lemmas.Result.{err_from_is_err_and}
use Rattle.std.proofs.lemmas.List.{map_push, append-nil}
use Rattle.dcsctp_wire.specs.Content.{ChunkContent, chunk_content}
use Rattle.dcsctp_wire.specs.Format.{IsReadByHeader, AreChunks}
use Rattle.dcsctp_wire.proofs.Frames.{some_left, none_left}
use Rattle.dcsctp_wire.proofs.Items.{others, none_are}
use Rattle.dcsctp_wire.proofs.Chunks.{one_chunk}
use Rattle.dcsctp_wire.proofs.chunk.read_chunks.Goals as goal

pub returns-in_err-chunk-clause-malformed : goal.returns-in_err-chunk-clause-malformed
returns-in_err-chunk-clause-malformed c = λ is ps h.
    let left = c.loop-rest.invariant.only ps h in
    let returned = err_from_is_err_and c.from_residual-in_err-chunk.result c.from_residual-in_err-chunk.ensures.1 in
    none_are IsReadByHeader c.loop-rest.rest.now (some_left c.loop-rest.rest.now (sym c.is_empty.ensures ∙ c.loop-rest-test.true)) (c.in_err-chunk.ensures.malformed (cc (returned.1, returned.2, is))) left.0 left.1

pub loop-rest-preserved : goal.loop-rest-preserved
loop-rest-preserved c =
    let begins = c.in_ok-chunk.ensures.found in
    let pushed = map_push chunk_content c.loop-rest.chunks.items c.in_ok-chunk.chunk in
    record {
      found = λ qs h. rw (c.in_ok-push.ensures.items, pushed, append_assoc) (c.loop-rest.invariant.found (chunk_content c.in_ok-chunk.chunk ∷ qs) (c.in_ok-chunk.after.now, begins, h));
      only = λ ps h. let left = c.loop-rest.invariant.only ps h in others IsReadByHeader one_chunk (chunk_content c.in_ok-chunk.chunk) c.in_ok-chunk.after.now c.loop-rest.rest.now begins left.0 left.1;
    }

pub returns-clause-found : goal.returns-clause-found
returns-clause-found c =
    subst (λ (ps : List ChunkContent). AreChunks ps c.args.bytes.now) (append-nil _) (c.loop-rest.invariant.found [] (none_left c.loop-rest.rest.now (sym c.is_empty.ensures ∙ c.loop-rest-test.false)))

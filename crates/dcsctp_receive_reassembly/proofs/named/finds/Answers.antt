-- An empty list names all, and another what is found among its numbers.
use Rattle.std.proofs.Common.{◌∙◌, sym}
use Rattle.dcsctp_receive_reassembly.proofs.NamedLemmas.{names_stream-all, names_stream-found}
use Rattle.dcsctp_receive_reassembly.proofs.named.finds.Goals as goal

pub returns-then-is_empty : goal.returns-then-is_empty
returns-then-is_empty c =
    c.if-is_empty.true ∙ sym (names_stream-all c.args.id.0 c.args.streams.now (sym c.is_empty.ensures ∙ c.if-is_empty.true))

pub returns-else-is_empty : goal.returns-else-is_empty
returns-else-is_empty c =
    c.is_ok.ensures.value
    ∙ names_stream-found c.args.id.0 c.args.streams.now c.args.numbers.now c.binary_search.result c.requires c.binary_search.ensures.position
    (sym c.is_empty.ensures ∙ c.if-is_empty.false)

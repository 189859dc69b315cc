use Rattle.std.proofs.Common.{rules, refl, ap, ◌∙◌}
use Rattle.dcsctp_c.specs.Exports.{taken_or}
use Rattle.dcsctp_c.proofs.ExportLemmas.{below_writes, below_writes_nothing}
use Rattle.dcsctp_c.proofs.taking.dcsctp_get_next_message.Goals as goal

pub returns-in-Socket : goal.returns-in-Socket
returns-in-Socket c = below_writes _ c.held.ensures.value c.in-Socket.is (c.get_next_message.result, c.get_next_message.ensures, refl, c.take.ensures.place ∙ ap (λ none. taken_or none c.get_next_message.result) c.none.ensures) (search rules)

pub returns-in-Channels : goal.returns-in-Channels
returns-in-Channels c = below_writes_nothing _ _ c.held.ensures.value c.in-Channels.is (search rules)

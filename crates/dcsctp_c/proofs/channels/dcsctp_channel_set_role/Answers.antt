use Rattle.std.proofs.Common.{rules, arith, subst, ℤ, w32, FitsSigned}
use Rattle.std.proofs.lemmas.Int.{to_z-of_z, ints}
use Rattle.dcsctp_channel_session.specs.Calls.{SetsRoleByNumber}
use Rattle.dcsctp_c.proofs.ExportLemmas.{channels_go, channels_refuse}
use Rattle.dcsctp_c.proofs.channels.dcsctp_channel_set_role.Goals as goal

pub returns-in-Socket : goal.returns-in-Socket
returns-in-Socket c = channels_refuse _ c.held.ensures.value c.in-Socket.is (search rules)

pub returns-in-Channels : goal.returns-in-Channels
returns-in-Channels c =
    let fits : FitsSigned w32 c.args.is_dtls_client = search (arith, ints) in
    channels_go (SetsRoleByNumber c.args.is_dtls_client) {new = c.set_role.new.self} {status = c.set_role.result} c.held.ensures.value c.in-Channels.is
    (subst (λ (role : ℤ). SetsRoleByNumber role c.in-Channels.channels c.set_role.result c.set_role.new.self) (to_z-of_z w32 c.args.is_dtls_client fits) c.set_role.ensures)
    (search rules)

use Rattle.std.proofs.Common.{◌≡◌, inr, refl, subst, List, ℕ}
use Rattle.dcsctp_core.specs.types.Ids.{stream_numbers}
use Rattle.dcsctp_core.specs.api.Resets.{ResetsOwn}
use Rattle.dcsctp_session.specs.declared.session.Session.{Session}
use Rattle.dcsctp_session.specs.Views.{view}
use Rattle.dcsctp_session.proofs.session.Session.reset_streams.Goals as goal

pub returns : goal.returns
returns c =
    let old = c.args.self.now in
    let new : Session = record old { socket = c.reset_streams.new.self } in
    let lent = c.as_slice.ensures.value in
    let read = c.in-Ok.ensures in
    let ids : stream_numbers c.as_slice.result.now ≡ c.args.numbers.now = cc in
    inr (record {
      outcome = c.reset_streams.result;
      call = subst (λ (numbers : List ℕ). ResetsOwn numbers (view old) c.reset_streams.result (view new)) ids c.reset_streams.ensures.call;
      told = c.of_reset.ensures;
      taken = refl;
      offload = refl;
    })

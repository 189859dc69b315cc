-- The streams are reset, and what waited is handled.
use Rattle.std.proofs.Common.{◌≡◌, Option, None, Some, refl, sym, ◌∙◌, ap, subst}
use Rattle.std.specs.Option.{option_map}
use Rattle.dcsctp_api.specs.types.Ids.{stream_numbers}
use Rattle.dcsctp_receive_reassembly.specs.declared.deferral.Deferral.{Deferral}
use Rattle.dcsctp_receive_reassembly.specs.contracts.reassembly_queue.ReassemblyQueue.{the_view}
use Rattle.dcsctp_receive_reassembly.specs.Reassembly.{incoming_of}
use Rattle.dcsctp_api.specs.spec.queues.Reassembly.{ReassemblyState, DeferralModel, waiting_of, skips_of, EndsDeferral, HandlesAll, SkipsThen}
use Rattle.dcsctp_receive_reassembly.specs.Queue.{deferral_of}
use Rattle.dcsctp_receive_reassembly.proofs.reassembly_queue.ReassemblyQueue.reset_streams_and_leave_deferred_reset.Goals as goal
use Rattle.dcsctp_receive_reassembly.proofs.reassembly_queue.ReassemblyQueue.reset_streams_and_leave_deferred_reset.Goals.{in-Some-1, in-None-2}

pub returns-in-None-clause-ok : goal.returns-in-None-clause-ok
returns-in-None-clause-ok c =
    let none : option_map deferral_of c.self.inside.deferral ≡ None = ap (λ (o : Option Deferral). option_map deferral_of o) (sym c.take.ensures.value ∙ c.in-None.is) in
    subst (λ (old : ReassemblyState). EndsDeferral (stream_numbers c.args.streams.now) old (the_view (record { incoming = c.reset_streams.new.self; max_size = c.self.inside.max_size; overhead = c.self.inside.overhead; deferral = c.take.new.self }))) c.self.view_is
    (record {
      between = incoming_of c.reset_streams.new.self;
      handled = incoming_of c.reset_streams.new.self;
      resets = c.reset_streams.ensures.resets;
      works = subst (λ (o : Option DeferralModel). HandlesAll (waiting_of o) (incoming_of c.reset_streams.new.self) (incoming_of c.reset_streams.new.self)) (sym none) refl;
      skips = subst (λ (o : Option DeferralModel). SkipsThen (skips_of o) (incoming_of c.reset_streams.new.self) (incoming_of c.reset_streams.new.self)) (sym none) refl;
      window = refl;
      overhead = refl;
      deferral = ap (λ (o : Option Deferral). option_map deferral_of o) c.take.ensures.after;
    })

pub returns-in-Ok-clause-ok : goal.returns-in-Ok-clause-ok
returns-in-Ok-clause-ok c =
    let some : option_map deferral_of c.self.inside.deferral ≡ Some (deferral_of c.in-Some.deferral) = ap (λ (o : Option Deferral). option_map deferral_of o) (sym c.take.ensures.value ∙ c.in-Some.is) in
    let left : EndsDeferral (stream_numbers c.args.streams.now) c.args.self.now (the_view (record { incoming = c.handle_deferral.new.incoming; max_size = c.self.inside.max_size; overhead = c.self.inside.overhead; deferral = c.take.new.self })) =
    subst (λ (old : ReassemblyState). EndsDeferral (stream_numbers c.args.streams.now) old (the_view (record { incoming = c.handle_deferral.new.incoming; max_size = c.self.inside.max_size; overhead = c.self.inside.overhead; deferral = c.take.new.self }))) c.self.view_is
    (record {
      between = incoming_of c.reset_streams.new.self;
      handled = c.in-Ok.ensures.ok.handled;
      resets = c.reset_streams.ensures.resets;
      works = subst (λ (o : Option DeferralModel). HandlesAll (waiting_of o) (incoming_of c.reset_streams.new.self) c.in-Ok.ensures.ok.handled) (sym some) c.in-Ok.ensures.ok.works;
      skips = subst (λ (o : Option DeferralModel). SkipsThen (skips_of o) c.in-Ok.ensures.ok.handled (incoming_of c.handle_deferral.new.incoming)) (sym some) c.in-Ok.ensures.ok.skips;
      window = refl;
      overhead = refl;
      deferral = ap (λ (o : Option Deferral). option_map deferral_of o) c.take.ensures.after;
    }) in
    elim c.match-deferral.branch [
      | in-Some-1 w ↦ subst (λ (new : ReassemblyState). EndsDeferral (stream_numbers c.args.streams.now) c.args.self.now new) (sym w.self-is) left
      | in-None-2 w ↦ subst (λ (new : ReassemblyState). EndsDeferral (stream_numbers c.args.streams.now) c.args.self.now new) (sym w.self-is) left
    ]

-- The reassembly queue in memory, as the machine has it.
use Rattle.std.specs.Prelude.{◌≡◌, map}
use Rattle.std.specs.Option.{option_map}
use Rattle.dcsctp_api.specs.spec.queues.Reassembly.{ReassemblyState, WaitingModel, WaitingSkips as SkipsModel, DeferralModel, HandlesAll, SkipsThen}
use Rattle.dcsctp_receive_reassembly.specs.declared.deferral.WaitingData.{WaitingData}
use Rattle.dcsctp_receive_reassembly.specs.declared.deferral.WaitingSkips.{WaitingSkips}
use Rattle.dcsctp_receive_reassembly.specs.declared.deferral.Deferral.{Deferral}
use Rattle.dcsctp_receive_reassembly.specs.Streams.{chunk_of}
use Rattle.dcsctp_api.specs.spec.queues.Incoming.{IncomingModel, SameIncoming}

abbrev pub waiting_model : WaitingData → WaitingModel
waiting_model waiting = record { tsn = waiting.tsn; chunk = chunk_of waiting.data }

abbrev pub skips_as : WaitingSkips → SkipsModel
skips_as skips = record { tsn = skips.tsn; entries = skips.entries.entries }

abbrev pub deferral_of : Deferral → DeferralModel
deferral_of deferral =
    record {
      last_tsn = deferral.last_tsn;
      streams = deferral.streams;
      waiting = map waiting_model deferral.waiting.items;
      skips = option_map skips_as deferral.skips;
    }

-- All that waited is handled: the data, and then what is to be skipped.
pub record HandlesDeferral (deferral : DeferralModel) (old new : IncomingModel) : Type 0 where
  pub handled : IncomingModel
  pub works : HandlesAll deferral.waiting old handled
  pub skips : SkipsThen deferral.skips handled new

-- Nothing changes.
pub record SameQueue (old new : ReassemblyState) : Type 0 where
  pub incoming : SameIncoming old.incoming new.incoming
  pub window : new.max_size ≡ old.max_size
  pub overhead : new.overhead ≡ old.overhead
  pub deferral : new.deferral ≡ old.deferral

-- Writing and reading channels one after another, as a loop does.
use Rattle.std.proofs.Common.{◌≡◌, ℕ, suc, ◌-◌, ◌+◌, ◌<◌, List, ◌++◌, take, get_or, length, Option, None, refl, sym, ap, ◌∙◌, arith}
use Rattle.std.specs.List.{flat_map}
use Rattle.std.proofs.lemmas.List.{flat_map_more, take_more}
use Rattle.dcsctp_channel_calls.specs.declared.handover.HandoverChannel.{HandoverChannel}
use Rattle.dcsctp_channel_bytes.specs.declared.reader.ReadError.{ReadError}
use Rattle.dcsctp_channel_bytes.specs.declared.reader.ReadError.TheVariants.{Malformed, OutOfMemory}
use Rattle.dcsctp_channel_bytes.specs.Channels.{channel_bytes, leading_channel}
use Rattle.dcsctp_channel_bytes.specs.Gives.{FailsToRead}
use Rattle.dcsctp_snapshot_bytes.specs.Fields.{leading_elements}
use Rattle.dcsctp_snapshot_bytes.proofs.Lists.{with_front}

-- one more channel is written
pub channel_written : (front : List ℕ) (channels : List HandoverChannel) (i : ℕ) (d : HandoverChannel) → i < length channels
    → (front ++ flat_map channel_bytes (take i channels)) ++ channel_bytes (get_or channels i d) ≡ front ++ flat_map channel_bytes (take (i + 1) channels)
channel_written front channels i d lt =
    flat_map_more channel_bytes front (take i channels) (get_or channels i d)
    ∙ ap (λ (cs : List HandoverChannel). front ++ flat_map channel_bytes cs) (sym (take_more channels i d lt))

-- one that can't be read
pub channels_end : (error : ReadError) (front : List HandoverChannel) (count i : ℕ) (bytes : List ℕ) (total : Option (List HandoverChannel × List ℕ)) → i < count → FailsToRead error (leading_channel bytes)
    → with_front front (leading_elements leading_channel (count - i) bytes) ≡ total → FailsToRead error total
unfolding leading_elements
channels_end OutOfMemory front count i bytes total lt h so_far = tt
channels_end Malformed front count i bytes total lt h so_far =
    let k : count - i ≡ suc (count - (i + 1)) = omega arith in
    let one : with_front front (leading_elements leading_channel (count - i) bytes) ≡ None = rw (k, h) refl in
    sym so_far ∙ one

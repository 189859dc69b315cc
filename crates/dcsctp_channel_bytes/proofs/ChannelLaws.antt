-- Channels: what is read of them was written so, and what was written is read again.
use Rattle.std.proofs.Common.{◌≡◌, ℕ, ◌^◌, ◌<◌, ◌++◌, Bool, List, [], Option, Some, None, refl, ap, ◌∙◌, subst, append_assoc, lit<, Result, Ok, Err}
use Rattle.std.specs.Global.{Vec}
use Rattle.std.specs.Prelude.{IfOk, IfSome, option_map}
use Rattle.std.specs.Int.{w32, w64}
use Rattle.std.proofs.lemmas.List.{append-nil}
use Rattle.dcsctp_channel_calls.specs.api.types.Snapshot.{Snapshot}
use Rattle.dcsctp_channel_calls.specs.Handover.{ChannelsPart}
use Rattle.dcsctp_channel_calls.specs.declared.handover.HandoverChannel.{HandoverChannel}
use Rattle.dcsctp_channel_calls.specs.messages.channel_spec.declared.types.Delivery.{Delivery}
use Rattle.dcsctp_channel_calls.specs.messages.channel_spec.declared.types.Reliability.{Reliability}
use Rattle.dcsctp_channel_calls.specs.messages.channel_spec.declared.types.Reliability.TheVariants.{Reliable, Retransmissions, Lifetime}
use Rattle.dcsctp_channel_calls.specs.messages.channel_spec.declared.types.Role.{Role}
use Rattle.dcsctp_channel_calls.specs.messages.channel_spec.declared.types.Role.TheVariants.{Client, Server}
use Rattle.dcsctp_channel_bytes.specs.declared.channel.ChannelCounts.{ChannelCounts}
use Rattle.dcsctp_snapshot_bytes.specs.Fields.{number_bytes, payload_bytes}
use Rattle.dcsctp_snapshot_bytes.specs.Laws.{AreBytes}
use Rattle.dcsctp_snapshot_bytes.specs.Spelling.{snapshot_bytes}
use Rattle.dcsctp_channel_bytes.specs.Channels.{retransmissions_said, lifetime_said, reliability_by_limits, delivery_by_limits, channels_magic, delivery_bytes, channel_bytes, channels_bytes, bytes_with_channels, leading_delivery, leading_counts, leading_channel, leading_role, leading_channels, read_behind_magic, read_parts, read_with_channels, is_client, role_of, limit_fits, FitsDelivery, FitsChannel, FitsPart, FitsBoth}
use Rattle.dcsctp_snapshot_bytes.proofs.FieldLaws.{Took, IsField, step, step_by, some_is, field16, field32, field64}
use Rattle.dcsctp_snapshot_bytes.proofs.ValueLaws.{flag_field, payload_field, optional_field, list_field}

-- ---- how messages are sent

reliability_back : (reliability : Reliability) → reliability_by_limits (retransmissions_said reliability) (lifetime_said reliability) ≡ Some reliability
reliability_back Reliable = refl
reliability_back (Retransmissions limit) = refl
reliability_back (Lifetime millis) = refl

retransmissions_fit : (reliability : Reliability) → limit_fits reliability → IfSome (retransmissions_said reliability) (λ number. number < 2 ^ 32)
retransmissions_fit Reliable fits = tt
retransmissions_fit (Retransmissions limit) fits = fits
retransmissions_fit (Lifetime millis) fits = tt

lifetime_fits : (reliability : Reliability) → limit_fits reliability → IfSome (lifetime_said reliability) (λ number. number < 2 ^ 32)
lifetime_fits Reliable fits = tt
lifetime_fits (Retransmissions limit) fits = tt
lifetime_fits (Lifetime millis) fits = fits

-- Both numbers say the reliability that was read of them.
record IsOfLimits (retransmissions lifetime : Option ℕ) (reliability : Reliability) : Type 0 where
  first : retransmissions_said reliability ≡ retransmissions
  second : lifetime_said reliability ≡ lifetime
  fits : IfSome retransmissions (λ number. number < 2 ^ 32) → IfSome lifetime (λ number. number < 2 ^ 32) → limit_fits reliability

record Delivered (retransmissions lifetime : Option ℕ) (ordered : Bool) (priority : ℕ) (rest : List ℕ) (read : Delivery × List ℕ) : Type 0 where
  reliability : Reliability
  of_limits : IsOfLimits retransmissions lifetime reliability
  is : (record { ordered = ordered; reliability = reliability; priority = priority }, rest) ≡ read

delivered : (retransmissions lifetime : Option ℕ) (ordered : Bool) (priority : ℕ) (rest : List ℕ) (read : Delivery × List ℕ) → delivery_by_limits ordered priority rest (reliability_by_limits retransmissions lifetime) ≡ Some read
    → Delivered retransmissions lifetime ordered priority rest read
delivered None None ordered priority rest read e = record { reliability = Reliable; of_limits = record { first = refl; second = refl; fits = λ a b. tt }; is = some_is _ _ e }
delivered (Some limit) None ordered priority rest read e = record { reliability = Retransmissions limit; of_limits = record { first = refl; second = refl; fits = λ a b. a }; is = some_is _ _ e }
delivered None (Some millis) ordered priority rest read e = record { reliability = Lifetime millis; of_limits = record { first = refl; second = refl; fits = λ a b. b }; is = some_is _ _ e }
delivered (Some limit) (Some millis) ordered priority rest read e = absurd cc

delivery_again : (delivery : Delivery) (rest : List ℕ) → FitsDelivery delivery → leading_delivery (delivery_bytes delivery ++ rest) ≡ Some (delivery, rest)
unfolding leading_delivery delivery_bytes
delivery_again delivery rest fits = simp append_assoc (rw (
  flag_field.again delivery.ordered _ tt,
  (optional_field field32).again _ _ (retransmissions_fit delivery.reliability fits.reliability),
  (optional_field field32).again _ _ (lifetime_fits delivery.reliability fits.reliability),
  field16.again _ _ fits.priority,
  reliability_back delivery.reliability,
) refl)

delivery_takes : (bytes : List ℕ) (delivery : Delivery) (rest : List ℕ) → AreBytes bytes → leading_delivery bytes ≡ Some (delivery, rest) → Took delivery_bytes FitsDelivery bytes delivery rest
unfolding leading_delivery delivery_bytes
delivery_takes bytes delivery rest fits e =
    step flag_field _ bytes _ fits e (λ ordered r1 p1 f1 b1 e1.
    step (optional_field field32) _ r1 _ b1 e1 (λ retransmissions r2 p2 f2 b2 e2.
    step (optional_field field32) _ r2 _ b2 e2 (λ lifetime r3 p3 f3 b3 e3.
    step field16 _ r3 _ b3 e3 (λ priority r4 p4 f4 b4 e4.
    let read = delivered retransmissions lifetime ordered priority r4 (delivery, rest) e4 in
    subst (λ (x : Delivery × List ℕ). Took delivery_bytes FitsDelivery bytes x.0 x.1) read.is (record {
      parts = rw (p1, p2, p3, p4, read.of_limits.first, read.of_limits.second) (simp append_assoc);
      fits = record { reliability = read.of_limits.fits f2 f3; priority = f4 };
      rest_fits = b4;
    })))))

delivery_field : IsField delivery_bytes leading_delivery FitsDelivery
delivery_field = record { again = delivery_again; takes = delivery_takes }

-- ---- a channel

channel_again : (channel : HandoverChannel) (rest : List ℕ) → FitsChannel channel → leading_channel (channel_bytes channel ++ rest) ≡ Some (channel, rest)
unfolding leading_channel leading_counts channel_bytes
channel_again channel rest fits = simp append_assoc (rw (
  field16.again _ _ fits.stream,
  field64.again _ _ fits.name,
  flag_field.again channel.heard _ tt,
  delivery_field.again _ _ fits.delivery,
  field64.again _ _ fits.messages_sent,
  field64.again _ _ fits.bytes_sent,
  field64.again _ _ fits.messages_received,
  field64.again _ _ fits.bytes_received,
) refl)

abbrev counts_bytes : ChannelCounts → List ℕ
counts_bytes counts =
    number_bytes w64 counts.messages_sent ++ number_bytes w64 counts.bytes_sent ++ number_bytes w64 counts.messages_received ++ number_bytes w64 counts.bytes_received

record FitsCounts (counts : ChannelCounts) : Type 0 where
  messages_sent : counts.messages_sent < 2 ^ 64
  bytes_sent : counts.bytes_sent < 2 ^ 64
  messages_received : counts.messages_received < 2 ^ 64
  bytes_received : counts.bytes_received < 2 ^ 64

counts_take : (bytes : List ℕ) (counts : ChannelCounts) (rest : List ℕ) → AreBytes bytes → leading_counts bytes ≡ Some (counts, rest) → Took counts_bytes FitsCounts bytes counts rest
unfolding leading_counts
counts_take bytes counts rest fits e =
    step field64 _ bytes _ fits e (λ messages_sent r1 p1 f1 b1 e1.
    step field64 _ r1 _ b1 e1 (λ bytes_sent r2 p2 f2 b2 e2.
    step field64 _ r2 _ b2 e2 (λ messages_received r3 p3 f3 b3 e3.
    step field64 _ r3 _ b3 e3 (λ bytes_received r4 p4 f4 b4 e4.
    subst (λ (x : ChannelCounts × List ℕ). Took counts_bytes FitsCounts bytes x.0 x.1) (some_is _ _ e4) (record {
      parts = rw (p1, p2, p3, p4) (simp append_assoc);
      fits = record { messages_sent = f1; bytes_sent = f2; messages_received = f3; bytes_received = f4 };
      rest_fits = b4;
    })))))

channel_takes : (bytes : List ℕ) (channel : HandoverChannel) (rest : List ℕ) → AreBytes bytes → leading_channel bytes ≡ Some (channel, rest) → Took channel_bytes FitsChannel bytes channel rest
unfolding leading_channel channel_bytes
channel_takes bytes channel rest fits e =
    step field16 _ bytes _ fits e (λ stream r1 p1 f1 b1 e1.
    step field64 _ r1 _ b1 e1 (λ name r2 p2 f2 b2 e2.
    step flag_field _ r2 _ b2 e2 (λ heard r3 p3 f3 b3 e3.
    step delivery_field _ r3 _ b3 e3 (λ delivery r4 p4 f4 b4 e4.
    step_by counts_take _ r4 _ b4 e4 (λ counts r5 p5 f5 b5 e5.
    subst (λ (x : HandoverChannel × List ℕ). Took channel_bytes FitsChannel bytes x.0 x.1) (some_is _ _ e5) (record {
      parts = rw (p1, p2, p3, p4, p5) (simp append_assoc);
      fits = record {
        stream = f1;
        name = f2;
        delivery = f4;
        messages_sent = f5.messages_sent;
        bytes_sent = f5.bytes_sent;
        messages_received = f5.messages_received;
        bytes_received = f5.bytes_received;
      };
      rest_fits = b5;
    }))))))

channel_field : IsField channel_bytes leading_channel FitsChannel
channel_field = record { again = channel_again; takes = channel_takes }

-- ---- all channels

role_back : (role : Option Role) → option_map role_of (option_map is_client role) ≡ role
role_back None = refl
role_back (Some Client) = refl
role_back (Some Server) = refl

any_role : (role : Option Role) → IfSome (option_map is_client role) (λ flag. Unit {0})
any_role None = tt
any_role (Some role) = tt

part_again : (part : ChannelsPart) (rest : List ℕ) → FitsPart part → leading_channels (channels_bytes part ++ rest) ≡ Some (part, rest)
unfolding leading_channels leading_role channels_bytes
part_again part rest fits = simp append_assoc (rw (
  (optional_field flag_field).again _ _ (any_role part.role),
  field64.again _ _ fits.named,
  (list_field channel_field).again _ _ fits.channels,
  role_back part.role,
) refl)

-- ---- with their socket

behind_back : (state : Snapshot) (part : ChannelsPart) → FitsBoth state part → read_behind_magic (payload_bytes (snapshot_bytes state) ++ (channels_bytes part ++ [])) ≡ Some (snapshot_bytes state, part)
unfolding read_behind_magic
behind_back state part fits = rw (payload_field.again (snapshot_bytes state) (channels_bytes part ++ []) fits.count, part_again part [] fits.channels) refl

parts_back : (state : Snapshot) (part : ChannelsPart) → FitsBoth state part → read_parts (bytes_with_channels state part) ≡ Some (snapshot_bytes state, part)
unfolding read_parts bytes_with_channels
parts_back state part fits =
    let whole : bytes_with_channels state part ≡ number_bytes w32 channels_magic ++ (payload_bytes (snapshot_bytes state) ++ (channels_bytes part ++ [])) = simp (append_assoc, append-nil) in
    ap read_parts whole ∙ rw (field32.again channels_magic (payload_bytes (snapshot_bytes state) ++ (channels_bytes part ++ [])) (lit< tt)) (behind_back state part fits)

both_back : (state : Snapshot) (part : ChannelsPart) → FitsBoth state part → read_with_channels (bytes_with_channels state part) ≡ Some (state, part)
unfolding read_with_channels
both_back state part fits = rw (parts_back state part fits, fits.back) refl

-- What was written of both, which fit, is read back.
pub are_read_back : {E : Type 0} (result : Result (Vec ℕ) E) (state : Snapshot) (part : ChannelsPart)
    → IfOk result (λ bytes. bytes.items ≡ bytes_with_channels state part) → IfOk result (λ _. FitsBoth state part) → IfOk result (λ bytes. read_with_channels bytes.items ≡ Some (state, part))
are_read_back (Ok bytes) state part same fits = ap read_with_channels same ∙ both_back state part fits
are_read_back (Err error) state part same fits = tt

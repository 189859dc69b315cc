-- What an export shows of a handle, from what its body did with it.
--     plain_goes, channelled_goes          a call that both have, made on a session, or on one with channels
--     below_goes, below_refuses            a call below channels
--     below_writes, below_writes_nothing   the same where it writes
--     channels_go, channels_refuse         a call of channels
--     channels_write, channels_write_nothing
--     begun_goes                           channels begin
use Rattle.std.proofs.Common.{◌≡◌, refl, inr, Option, Some, None, IsSome, Ok, ℕ, ℤ, List}
use Rattle.dcsctp_session.specs.declared.session.Session.{Session}
use Rattle.dcsctp_session.specs.declared.status.Status.{Status}
use Rattle.dcsctp_session.specs.declared.status.Status.TheVariants as statuses
use Rattle.dcsctp_session.specs.declared.options.OptionsRecord.{OptionsRecord}
use Rattle.dcsctp_session.specs.Calls.{Creates}
use Rattle.dcsctp_session.specs.Status.{status_number}
use Rattle.dcsctp_channel_session.specs.Begin.{ChannelsBegin}
use Rattle.dcsctp_channel_session.specs.declared.held.Held.{Held}
use Rattle.dcsctp_channel_session.specs.declared.held.Held.TheVariants as helds
use Rattle.dcsctp_channel_session.specs.declared.options.LimitsRecord.{LimitsRecord}
use Rattle.dcsctp_channel_session.specs.declared.session.ChannelSession.{ChannelSession}
use Rattle.dcsctp_c.specs.Channels.{OnChannels, WritesOnChannels, BeginsChannels}
use Rattle.dcsctp_c.specs.Exports.{CallsSession, CallsBelowChannels, WritesBelowChannels, CreatesOnce}

-- by a handle that is left as it was, since an allocation failed
pub not_created : (numbers : OptionsRecord) (seed : List ℕ) (moment : ℕ) (made : Session) (held : Option Held) (result : ℤ)
    → Creates numbers seed moment (Ok made) → (IsSome held → ⊥) → result ≡ status_number statuses.OutOfMemory → CreatesOnce numbers seed moment held result held
not_created numbers seed moment made None result creates closed is = inr (statuses.OutOfMemory, inr (inr (inr (refl, creates.sized))), is, refl)
not_created numbers seed moment made (Some already) result creates closed is = absurd (closed refl)

-- ---- calls that both have

pub plain_goes : (Plain : Session → Status → Session → Type 0) (Channelled : ChannelSession → Status → ChannelSession → Type 0)
    {held : Option Held} {here : Held} {old new : Session} {status : Status} {result : ℤ}
    → held ≡ Some here → here ≡ helds.Socket old → Plain old status new → result ≡ status_number status → CallsSession Plain Channelled held result (Some (helds.Socket new))
plain_goes Plain Channelled {new = new} {status = status} is there goes told = rw is (rw there (status, new, goes, told, refl))

pub channelled_goes : (Plain : Session → Status → Session → Type 0) (Channelled : ChannelSession → Status → ChannelSession → Type 0)
    {held : Option Held} {here : Held} {old new : ChannelSession} {status : Status} {result : ℤ}
    → held ≡ Some here → here ≡ helds.Channels old → Channelled old status new → result ≡ status_number status → CallsSession Plain Channelled held result (Some (helds.Channels new))
channelled_goes Plain Channelled {new = new} {status = status} is there goes told = rw is (rw there (status, new, goes, told, refl))

-- ---- calls below channels

pub below_goes : (Plain : Session → Status → Session → Type 0) {held : Option Held} {here : Held} {old new : Session} {status : Status} {result : ℤ}
    → held ≡ Some here → here ≡ helds.Socket old → Plain old status new → result ≡ status_number status → CallsBelowChannels Plain held result (Some (helds.Socket new))
below_goes Plain {new = new} {status = status} is there goes told = rw is (rw there (status, new, goes, told, refl))

pub below_refuses : (Plain : Session → Status → Session → Type 0) {held : Option Held} {here : Held} {old : ChannelSession} {result : ℤ}
    → held ≡ Some here → here ≡ helds.Channels old → result ≡ status_number statuses.HasChannels → CallsBelowChannels Plain held result (Some here)
below_refuses Plain {old = old} is there told = rw is (rw there (statuses.HasChannels, old, (refl, refl), told, refl))

pub below_writes : {T : Type 0} (Plain : Session → T → Status → T → Session → Type 0) {held : Option Held} {here : Held} {before after : T} {old new : Session} {status : Status} {result : ℤ}
    → held ≡ Some here → here ≡ helds.Socket old → Plain old before status after new → result ≡ status_number status
    → WritesBelowChannels Plain held before result after (Some (helds.Socket new))
below_writes Plain {new = new} {status = status} is there goes told = rw is (rw there (status, new, goes, told, refl))

pub below_writes_nothing : {T : Type 0} (Plain : Session → T → Status → T → Session → Type 0) (before : T) {held : Option Held} {here : Held} {old : ChannelSession} {result : ℤ}
    → held ≡ Some here → here ≡ helds.Channels old → result ≡ status_number statuses.HasChannels → WritesBelowChannels Plain held before result before (Some here)
below_writes_nothing Plain before {old = old} is there told = rw is (rw there (statuses.HasChannels, old, (refl, refl, refl), told, refl))

-- ---- calls of channels

pub channels_go : (Call : ChannelSession → Status → ChannelSession → Type 0) {held : Option Held} {here : Held} {old new : ChannelSession} {status : Status} {result : ℤ}
    → held ≡ Some here → here ≡ helds.Channels old → Call old status new → result ≡ status_number status → OnChannels Call held result (Some (helds.Channels new))
channels_go Call {new = new} {status = status} is there goes told = rw is (rw there (status, new, goes, told, refl))

pub channels_refuse : (Call : ChannelSession → Status → ChannelSession → Type 0) {held : Option Held} {here : Held} {old : Session} {result : ℤ}
    → held ≡ Some here → here ≡ helds.Socket old → result ≡ status_number statuses.NoChannel → OnChannels Call held result (Some here)
channels_refuse Call {old = old} is there told = rw is (rw there (statuses.NoChannel, old, (refl, refl), told, refl))

pub channels_write : {T : Type 0} (Call : ChannelSession → T → Status → T → ChannelSession → Type 0) {held : Option Held} {here : Held} {before after : T} {old new : ChannelSession} {status : Status} {result : ℤ}
    → held ≡ Some here → here ≡ helds.Channels old → Call old before status after new → result ≡ status_number status
    → WritesOnChannels Call held before result after (Some (helds.Channels new))
channels_write Call {new = new} {status = status} is there goes told = rw is (rw there (status, new, goes, told, refl))

pub channels_write_nothing : {T : Type 0} (Call : ChannelSession → T → Status → T → ChannelSession → Type 0) (before : T) {held : Option Held} {here : Held} {old : Session} {result : ℤ}
    → held ≡ Some here → here ≡ helds.Socket old → result ≡ status_number statuses.NoChannel → WritesOnChannels Call held before result before (Some here)
channels_write_nothing Call before {old = old} is there told = rw is (rw there (statuses.NoChannel, old, (refl, refl, refl), told, refl))

pub begun_goes : (limits : LimitsRecord) (status : Status) (new : Held) {held : Option Held} {old : Held} {result : ℤ}
    → held ≡ Some old → ChannelsBegin limits old status new → result ≡ status_number status → BeginsChannels limits held result (Some new)
begun_goes limits status new is goes told = rw is (status, new, goes, told, refl)

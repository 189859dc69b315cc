-- What an export does: a call on what a handle has, whose status is returned as a number.
use Rattle.std.specs.Prelude.{◌≡◌, ◌+◌, ◌*◌, ℕ, ℤ, ◌⊎◌, Bool, true, false, List, Option, Some, None, Ok, Err}
use Rattle.dcsctp_session.specs.declared.session.Session.{Session}
use Rattle.dcsctp_session.specs.declared.status.Status.{Status}
use Rattle.dcsctp_session.specs.declared.status.Status.TheVariants as statuses
use Rattle.dcsctp_session.specs.declared.options.OptionsRecord.{OptionsRecord}
use Rattle.dcsctp_session.specs.declared.records.EventRecord.{EventRecord}
use Rattle.dcsctp_session.specs.declared.records.MessageRecord.{MessageRecord}
use Rattle.dcsctp_session.specs.Calls.{Creates, GetsNextEvent, GetsNextMessage}
use Rattle.dcsctp_session.specs.Options.{ShowsDefault, has_options_size}
use Rattle.dcsctp_session.specs.Records.{plain_record, no_message}
use Rattle.dcsctp_session.specs.Status.{status_number, taken_status}
use Rattle.dcsctp_channel_session.specs.declared.held.Held.{Held}
use Rattle.dcsctp_channel_session.specs.declared.held.Held.TheVariants as helds
use Rattle.dcsctp_channel_session.specs.declared.session.ChannelSession.{ChannelSession}

-- The one call takes place on a session, and the other on one with channels. Without either nothing changes.
abbrev pub CallsSession : (Session → Status → Session → Type 0) → (ChannelSession → Status → ChannelSession → Type 0) → Option Held → ℤ → Option Held → Type 0
CallsSession Plain Channelled None result new = (result ≡ status_number statuses.NoSocket) × (new ≡ None)
CallsSession Plain Channelled (Some (helds.Socket old)) result new =
    (status : Status) × (session : Session) × Plain old status session × (result ≡ status_number status) × (new ≡ Some (helds.Socket session))
CallsSession Plain Channelled (Some (helds.Channels old)) result new =
    (status : Status) × (session : ChannelSession) × Channelled old status session × (result ≡ status_number status) × (new ≡ Some (helds.Channels session))

-- The same of calls that write to a place of the caller's: before, and after.
abbrev pub CallsAndWrites : {T : Type 0} → (Session → T → Status → T → Session → Type 0) → (ChannelSession → T → Status → T → ChannelSession → Type 0)
    → Option Held → T → ℤ → T → Option Held → Type 0
CallsAndWrites Plain Channelled None before result after new = (result ≡ status_number statuses.NoSocket) × (after ≡ before) × (new ≡ None)
CallsAndWrites Plain Channelled (Some (helds.Socket old)) before result after new =
    (status : Status) × (session : Session) × Plain old before status after session × (result ≡ status_number status) × (new ≡ Some (helds.Socket session))
CallsAndWrites Plain Channelled (Some (helds.Channels old)) before result after new =
    (status : Status) × (session : ChannelSession) × Channelled old before status after session × (result ≡ status_number status) × (new ≡ Some (helds.Channels session))

-- ---- calls that are refused

-- This is returned, and nothing changes.
abbrev pub Refuses : {S : Type 0} → Status → S → Status → S → Type 0
Refuses refusal old status new = (status ≡ refusal) × (new ≡ old)

-- The same of a call that would write.
abbrev pub WritesNothing : {S T : Type 0} → Status → S → T → Status → T → S → Type 0
WritesNothing refusal old before status after new = (status ≡ refusal) × (after ≡ before) × (new ≡ old)

-- The call takes place on a session. One with channels refuses what is below them.
abbrev pub CallsBelowChannels : (Session → Status → Session → Type 0) → Option Held → ℤ → Option Held → Type 0
CallsBelowChannels Plain held result new = CallsSession Plain (Refuses statuses.HasChannels) held result new

abbrev pub WritesBelowChannels : {T : Type 0} → (Session → T → Status → T → Session → Type 0) → Option Held → T → ℤ → T → Option Held → Type 0
WritesBelowChannels Plain held before result after new = CallsAndWrites Plain (WritesNothing statuses.HasChannels) held before result after new

-- a version as one number
abbrev pub version_number : ℕ → ℕ → ℕ → ℕ
version_number major minor patch = major * 65536 + minor * 256 + patch

-- ---- the first calls

-- The default options are written, unless the record hasn't the size of the library's.
abbrev pub DefaultIf : Bool → OptionsRecord → ℤ → OptionsRecord → Type 0
DefaultIf false before result after = (result ≡ status_number statuses.WrongSize) × (after ≡ before)
DefaultIf true before result after = (result ≡ status_number statuses.Done) × ShowsDefault after

abbrev pub GivesDefault : OptionsRecord → ℤ → OptionsRecord → Type 0
GivesDefault before result after = DefaultIf (has_options_size before) before result after

-- A handle without a session is given one, unless it can't be made. One with a session keeps it.
abbrev pub CreatesOnce : OptionsRecord → List ℕ → ℕ → Option Held → ℤ → Option Held → Type 0
CreatesOnce numbers seed moment (Some held) result new = (result ≡ status_number statuses.AlreadyCreated) × (new ≡ Some held)
CreatesOnce numbers seed moment None result new =
    ((session : Session) × Creates numbers seed moment (Ok session) × (result ≡ status_number statuses.Done) × (new ≡ Some (helds.Socket session)))
    ⊎ ((status : Status) × Creates numbers seed moment (Err status) × (result ≡ status_number status) × (new ≡ None))

-- ---- what is taken

-- what was taken, or else this
abbrev pub taken_or : {T : Type 0} → T → Option T → T
taken_or otherwise None = otherwise
taken_or otherwise (Some told) = told

-- The next event is taken, and written; without one an event of kind 0 is.
abbrev pub WritesEvent : Session → EventRecord → Status → EventRecord → Session → Type 0
WritesEvent old before status after new =
    (event : Option EventRecord) × GetsNextEvent old event new × (status ≡ taken_status event) × (after ≡ taken_or (plain_record 0) event)

-- The next message is taken, and written; without one all is 0.
abbrev pub WritesMessage : Session → MessageRecord → Status → MessageRecord → Session → Type 0
WritesMessage old before status after new =
    (message : Option MessageRecord) × GetsNextMessage old message new × (status ≡ taken_status message) × (after ≡ taken_or no_message message)

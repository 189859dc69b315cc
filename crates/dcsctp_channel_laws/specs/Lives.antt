-- What a user hears of each channel, from its name to its end.
use Rattle.std.specs.Prelude.{◌≡◌, ◌==◌, ◌<◌, ℕ, Bool, true, false, ◌||◌, Option, Some, None, is_some, Ok, List, [], ◌∷◌, ◌++◌, nat_lt, if◌then◌else◌}
use Rattle.dcsctp_channel_calls.specs.messages.channel_spec.Slots.{name_of_slot, opened, incoming, message, ended}
use Rattle.dcsctp_channel_calls.specs.declared.channel.HeldStream.{HeldStream}
use Rattle.dcsctp_channel_calls.specs.View.{WaitingChannel, ChannelNotice, packet_out, association_made, of_channel, amount_low, association_over, LayerView, ChannelsView, entry_numbered, slot_of, slot_numbered}
use Rattle.dcsctp_channel_calls.specs.declared.channel.ChannelState.TheVariants.{Closed}
use Rattle.dcsctp_channel_calls.specs.Queries.{is_waiting, channel_state}
use Rattle.dcsctp_channel_calls.specs.Polls.{PollsAs}
use Rattle.dcsctp_channel_laws.specs.Names.{ChannelsCall, opens_channel, IsCallMade, WasTaken}

-- ---- where channels are

-- a channel waits for a stream, or has one
abbrev pub is_placed : List (ℕ × ℕ) → List WaitingChannel → ℕ → Bool
is_placed names waiting name = is_waiting name waiting || is_some (entry_numbered name names)

abbrev pub ComesFirst : {A : Type 0} → ℕ → List (ℕ × A) → Type 0
ComesFirst number [] = Unit {0}
ComesFirst number (entry ∷ entries) = (number < entry.0) × ComesFirst number entries

-- each number is below those after it
abbrev pub AreRising : {A : Type 0} → List (ℕ × A) → Type 0
AreRising [] = Unit {0}
AreRising (entry ∷ entries) = ComesFirst entry.0 entries × AreRising entries

-- no two of them have one name
abbrev pub WaitApart : List WaitingChannel → Type 0
WaitApart [] = Unit {0}
WaitApart (waits ∷ rest) = (is_waiting waits.name rest ≡ false) × WaitApart rest

-- Each channel is in one place: it waits, or it is the channel of the stream that its name leads to. Its name was given.
pub record IsInOrder (streams : List (ℕ × HeldStream)) (names : List (ℕ × ℕ)) (waiting : List WaitingChannel) (named : ℕ) : Type 0 where
  pub streams_rise : AreRising streams
  pub names_rise : AreRising names
  pub leads : (number name : ℕ) → name_of_slot (slot_of (entry_numbered number streams)) ≡ Some name → entry_numbered name names ≡ Some number
  pub led_to : (name number : ℕ) → entry_numbered name names ≡ Some number → name_of_slot (slot_of (entry_numbered number streams)) ≡ Some name
  pub wait_apart : WaitApart waiting
  pub no_stream : (name : ℕ) → is_waiting name waiting ≡ true → entry_numbered name names ≡ None
  pub was_named : (name number : ℕ) → entry_numbered name names ≡ Some number → name < named
  pub waits_named : (name : ℕ) → is_waiting name waiting ≡ true → name < named

abbrev pub IsOrderly : LayerView → Type 0
IsOrderly layer = IsInOrder layer.streams layer.names layer.waiting layer.named

-- ---- the life of a channel

-- Its name wasn't given yet; it is there; it is over.
pub data Life : Type 0 where
  unnamed : Life
  lasting : Life
  gone : Life

abbrev pub life_by_place : Bool → Bool → Life
life_by_place true is_named = lasting
life_by_place false true = gone
life_by_place false false = unnamed

abbrev pub life_of_channel : LayerView → ℕ → Life
life_of_channel layer name = life_by_place (is_placed layer.names layer.waiting name) (nat_lt name layer.named)

-- what a user hears of a channel: that there is one, something of it, its end
pub data News : Type 0 where
  of_birth : News
  of_life : News
  of_end : News

abbrev pub news_if_same : Bool → News → Option News
news_if_same true news = Some news
news_if_same false news = None

-- what is said of the channel of this name
abbrev pub news_of_channel : ℕ → ChannelNotice → Option News
news_of_channel name (packet_out packet) = None
news_of_channel name association_made = None
news_of_channel name (of_channel (opened other)) = news_if_same (other == name) of_life
news_of_channel name (of_channel (incoming other opening)) = news_if_same (other == name) of_birth
news_of_channel name (of_channel (message other content)) = news_if_same (other == name) of_life
news_of_channel name (of_channel (ended other why)) = news_if_same (other == name) of_end
news_of_channel name (amount_low other) = news_if_same (other == name) of_life
news_of_channel name association_over = None

-- Each channel is born once and ends once. Nothing is said of it before or after.
abbrev pub LivesOn : Option News → Life → Life → Type 0
LivesOn None before after = after ≡ before
LivesOn (Some of_birth) before after = (before ≡ unnamed) × (after ≡ lasting)
LivesOn (Some of_life) before after = (before ≡ lasting) × (after ≡ lasting)
LivesOn (Some of_end) before after = (before ≡ lasting) × (after ≡ gone)

-- what is said of a channel in turn, from the one life to the other
abbrev pub Hears : ℕ → Life → List ChannelNotice → Life → Type 0
Hears name before [] after = after ≡ before
Hears name before (notice ∷ notices) after = (between : Life) × LivesOn (news_of_channel name notice) before between × Hears name between notices after

-- More is reported behind what there was. It tells how each channel fares.
pub record ReportsLives (before : ℕ → Life) (old : LayerView) (taken : List ChannelNotice) (new : LayerView) : Type 0 where
  pub more : List ChannelNotice
  pub behind : taken ++ new.notices ≡ old.notices ++ more
  pub lives : (name : ℕ) → Hears name (before name) more (life_of_channel new name)
  pub apart : IsOrderly new

-- ---- calls

-- A call that opens a channel returns its name, which is said by that.
abbrev pub life_from : ChannelsCall → LayerView → ℕ → Life
life_from (opens_channel opening negotiated (Ok id)) layer name = if id.0 == name then lasting else life_of_channel layer name
life_from call layer name = life_of_channel layer name

abbrev pub CallsReportLives : Type 0
CallsReportLives = (call : ChannelsCall) (old new : ChannelsView) → IsCallMade call old new → IsOrderly old.layer → ReportsLives (life_from call old.layer) old.layer [] new.layer

pub record PollReportsLives (result : Option ChannelNotice) (old new : LayerView) : Type 0 where
  pub taken : List ChannelNotice
  pub was_taken : WasTaken result taken
  pub tells : ReportsLives (life_of_channel old) old taken new

abbrev pub PollsReportLives : Type 0
PollsReportLives = (result : Option ChannelNotice) (old new : ChannelsView) → PollsAs old result new → IsOrderly old.layer → PollReportsLives result old.layer new.layer

-- ---- what follows

-- So it is at first.
abbrev pub BeginApart : Type 0
BeginApart = (layer : LayerView) → layer.streams ≡ [] → layer.names ≡ [] → layer.waiting ≡ [] → IsOrderly layer

-- No two streams have one channel.
abbrev pub StreamsAreApart : Type 0
StreamsAreApart =
    (layer : LayerView) → IsOrderly layer → (one other name : ℕ) → name_of_slot (slot_numbered layer one) ≡ Some name → name_of_slot (slot_numbered layer other) ≡ Some name → one ≡ other

-- A channel is shown as closed where it isn't there, and nowhere else.
pub record IsSeenAs (layer : LayerView) (name : ℕ) : Type 0 where
  pub closed : is_placed layer.names layer.waiting name ≡ false → channel_state layer name ≡ Closed
  pub only : channel_state layer name ≡ Closed → is_placed layer.names layer.waiting name ≡ false

abbrev pub StatesAreTrue : Type 0
StatesAreTrue = (layer : LayerView) → IsOrderly layer → (name : ℕ) → IsSeenAs layer name

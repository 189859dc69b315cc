-- What the user of a socket reads, in all its associations and after each has ended: each message with
-- both tags of its association.
use Rattle.std.specs.Prelude.{◌≡◌, ◌⊎◌, ◌==◌, ◌+◌, if◌then◌else◌, ℕ, Option, None, Some, List, [], ◌∷◌, ◌++◌, length}
use Rattle.std.specs.List.{AllByRecursion}
use Rattle.dcsctp_spec_lemmas.specs.spec.endpoint.DataOutcomes.{ready_or_left}
use Rattle.dcsctp_spec_lemmas.specs.spec.endpoint.Endpoint.{Endpoint}
use Rattle.dcsctp_spec_lemmas.specs.spec.endpoint.Event.{Event, incoming_stream_reset}
use Rattle.dcsctp_spec_lemmas.specs.spec.endpoint.Outcome.{Outcome}
use Rattle.dcsctp_spec_lemmas.specs.spec.endpoint.Turn.{Input, user_takes}
use Rattle.dcsctp_spec_lemmas.specs.spec.Packet.{Emission}
use Rattle.dcsctp_delivery_directions.specs.directions.Directions.{PerformedReset}
use Rattle.dcsctp_spec_lemmas.specs.spec.association.Effect.{AssociationIdentity, Effect, holds, identity_of_core}
use Rattle.dcsctp_spec_runs.specs.Past.{HasEffect}
use Rattle.dcsctp_spec_lemmas.specs.types.queues.Messages.{MessageContent}

-- our own tag of an association, and its peer's
pub record Tags : Type 0 where
  pub own : ℕ
  pub peer : ℕ

abbrev pub tags_of : AssociationIdentity → Tags
tags_of link = record { own = link.my.tag; peer = link.peer.tag }

-- before the first association
abbrev pub no_tags : Tags
no_tags = record { own = 0; peer = 0 }

-- a message that was read, and the tags of the association in which it was read, or after whose end
pub record ReadMessage : Type 0 where
  pub tags : Tags
  pub message : MessageContent

-- the messages that were read, oldest first, with the first of these, which an association with these tags received
abbrev pub and_first : Tags → List MessageContent → List ReadMessage → List ReadMessage
and_first tags [] reads = reads
and_first tags (message ∷ messages) reads = reads ++ record { tags = tags; message = message } ∷ []

-- with the one that this call reads, if an association with these tags received it
abbrev pub tagged_after : Tags → Endpoint → Input → List ReadMessage → List ReadMessage
tagged_after tags e user_takes reads = and_first tags (ready_or_left e.left e.queues.transfer) reads
tagged_after tags e input reads = reads

-- those of the association with this own tag
abbrev pub with_tag : ℕ → List ReadMessage → List MessageContent
with_tag tag [] = []
with_tag tag (read ∷ reads) = if read.tags.own == tag then read.message ∷ with_tag tag reads else with_tag tag reads

-- those of the associations whose peer has this tag
abbrev pub with_key : ℕ → List ReadMessage → List MessageContent
with_key key [] = []
with_key key (read ∷ reads) = if read.tags.peer == key then read.message ∷ with_key key reads else with_key key reads

-- A reset of streams that the user was told of: the tags of the association, which streams, and how many of its messages were read by
-- then, or could be.
pub record ReportedReset : Type 0 where
  pub tags : Tags
  pub reset : PerformedReset

-- What was read, the tags of the association that is there or was the last, and the resets that were reported, newest first.
pub record Reading : Type 0 where
  pub reads : List ReadMessage
  pub last : Tags
  pub resets : List ReportedReset

abbrev pub nothing_read : Reading
nothing_read = record { reads = []; last = no_tags; resets = [] }

-- the tags of this association, or those before if there is none
abbrev pub tags_or : Tags → Option AssociationIdentity → Tags
tags_or last None = last
tags_or last (Some link) = tags_of link

-- with the resets that these events report, in an association with these tags of which so many messages were read, or can be
abbrev pub reported_with : Tags → ℕ → List (Event Emission) → List ReportedReset → List ReportedReset
reported_with tags index [] resets = resets
reported_with tags index (incoming_stream_reset streams ∷ events) resets = record { tags = tags; reset = record { streams = streams; index = index } } ∷ reported_with tags index events resets
reported_with tags index (event ∷ events) resets = reported_with tags index events resets

-- how many messages of the association that is there or was the last were read once this turn was taken, or can be
abbrev pub reached_index : Endpoint → Input → Outcome → Reading → ℕ
reached_index e input o reading = length (with_key reading.last.peer (tagged_after reading.last e input reading.reads)) + length (ready_or_left o.after.left o.after.queues.transfer)

abbrev pub resets_after : Endpoint → Input → Outcome → Reading → List ReportedReset
resets_after e input o reading = reported_with reading.last (reached_index e input o reading) o.events reading.resets

-- with what this turn reads and reports: a message that an association left counts as read in it
abbrev pub reading_after : Endpoint → Input → Outcome → Reading → Reading
reading_after e input o reading =
    record { reads = tagged_after reading.last e input reading.reads; last = tags_or reading.last (identity_of_core o.after.core); resets = resets_after e input o reading }

-- all of them, without the tags
abbrev pub messages_of : List ReadMessage → List MessageContent
messages_of [] = []
messages_of (read ∷ reads) = read.message ∷ messages_of reads

-- There was an association with these tags, or none yet.
abbrev pub AreOfLink : List Effect → Tags → Type 0
AreOfLink past tags = (tags ≡ no_tags) ⊎ ((link : AssociationIdentity) × HasEffect (holds link) past × (tags ≡ tags_of link))

abbrev pub AllOfLinks : List Effect → List ReadMessage → Type 0
AllOfLinks past reads = AllByRecursion (λ read. AreOfLink past read.tags) reads

-- Rules on cookies, and which chunks, effects and associations keep them. A flush does if the
-- chunks do that its first packet begins with.
use Rattle.std.proofs.Common.{ℕ, Bool, true, false, Option, None, Some, List, [], ◌∷◌, ◌++◌}
use Rattle.std.specs.List.{AllByRecursion}
use Rattle.dcsctp_spec_lemmas.specs.types.declared.association.Held.{Held}
use Rattle.dcsctp_spec_lemmas.specs.spec.Reconfiguration.{RequestedReset}
use Rattle.dcsctp_spec_lemmas.specs.spec.Packet.{Plain, Content, init, init_ack, cookie_echo}
use Rattle.dcsctp_spec_lemmas.specs.spec.endpoint.Endpoint.{Core, cookie_echoed}
use Rattle.dcsctp_spec_lemmas.specs.spec.association.Effect.{Effect, sends, emission_effects, emitted_alone, Change, no_change}
use Rattle.dcsctp_spec_lemmas.specs.spec.association.Choices.{plain_contents, Filling, Choices}
use Rattle.dcsctp_spec_lemmas.specs.spec.association.FlushChanges.{reset_request, reset_to_begin, chunks_behind, further_packets, flush_packets, flushed_with, flush_if_allowed, flush}
use Rattle.dcsctp_spec_lemmas.specs.spec.association.Acts.{sent_then_flushed}

-- ---- rules

-- what is to hold of a cookie that is echoed, and of one that is given away
pub record Rules : Type 1 where
  pub echoed : List ℕ → Type 0
  pub given : List ℕ → Type 0

-- a chunk that is sent
abbrev pub ContentKeeps : Rules → Content → Type 0
ContentKeeps rules (cookie_echo bytes) = rules.echoed bytes
ContentKeeps rules (init_ack theirs (Some bytes)) = rules.given bytes
ContentKeeps rules content = Unit {0}

abbrev pub ContentsKeep : Rules → List Content → Type 0
ContentsKeep rules contents = AllByRecursion (ContentKeeps rules) contents

abbrev pub EffectKeeps : Rules → Effect → Type 0
EffectKeeps rules (sends packet) = ContentsKeep rules packet.contents
EffectKeeps rules effect = Unit {0}

abbrev pub EffectsKeep : Rules → List Effect → Type 0
EffectsKeep rules effects = AllByRecursion (EffectKeeps rules) effects

-- an association: the cookie that it echoes until it is answered
abbrev pub CoreKeeps : Rules → Core → Type 0
CoreKeeps rules (cookie_echoed my held bytes) = rules.echoed bytes
CoreKeeps rules core = Unit {0}

pub record ChangeKeeps (rules : Rules) (change : Change) : Type 0 where
  pub effects : EffectsKeep rules change.effects
  pub core : CoreKeeps rules change.core

-- a chunk that comes in: the cookie of an INIT ACK may be echoed
abbrev pub TakenKeeps : Rules → Content → Type 0
TakenKeeps rules (init_ack theirs (Some bytes)) = rules.echoed bytes
TakenKeeps rules content = Unit {0}

-- the answer to it: the cookie that is made for an INIT
abbrev pub AnswerKeeps : Rules → Content → Choices → Type 0
AnswerKeeps rules (init theirs) choices = rules.given choices.cookie
AnswerKeeps rules content choices = Unit {0}

all_append : {T : Type 0} (P : T → Type 0) (xs ys : List T) → AllByRecursion P xs → AllByRecursion P ys → AllByRecursion P (xs ++ ys)
all_append P [] ys h k = k
all_append P (x ∷ xs) ys h k = (h.0, all_append P xs ys h.1 k)

module _ (rules : Rules) where
  pub unchanged_keeps : (core : Core) → CoreKeeps rules core → ChangeKeeps rules (no_change core)
  unchanged_keeps core h = record { effects = tt; core = h }

  -- ---- packets

  pub effects_append : (xs ys : List Effect) → EffectsKeep rules xs → EffectsKeep rules ys → EffectsKeep rules (xs ++ ys)
  effects_append xs ys h k = all_append (EffectKeeps rules) xs ys h k

  contents_append : (xs ys : List Content) → ContentsKeep rules xs → ContentsKeep rules ys → ContentsKeep rules (xs ++ ys)
  contents_append xs ys h k = all_append (ContentKeeps rules) xs ys h k

  emitted_keeps : (tag : ℕ) (contents : List Content) → ContentsKeep rules contents → EffectsKeep rules (emission_effects tag contents)
  emitted_keeps tag [] h = tt
  emitted_keeps tag (content ∷ contents) h = (h, tt)

  pub alone_keeps : (fits : Bool) (tag : ℕ) (content : Content) → ContentKeeps rules content → EffectsKeep rules (emitted_alone fits tag content)
  alone_keeps true tag content h = ((h, tt), tt)
  alone_keeps false tag content h = tt

  plain_keeps : (chunks : List Plain) → ContentsKeep rules (plain_contents chunks)
  plain_keeps [] = tt
  plain_keeps (chunk ∷ chunks) = (tt, plain_keeps chunks)

  further_keeps : (tag : ℕ) (packets : List (List Plain)) → EffectsKeep rules (further_packets tag packets)
  further_keeps tag [] = tt
  further_keeps tag (chunks ∷ packets) =
      effects_append (emission_effects tag (plain_contents chunks)) (further_packets tag packets) (emitted_keeps tag (plain_contents chunks) (plain_keeps chunks)) (further_keeps tag packets)

  -- ---- a flush

  behind_keeps : (number : ℕ) (filling : Filling) (reset : Option RequestedReset) → ContentsKeep rules (chunks_behind number filling reset)
  behind_keeps number filling None =
      contents_append (plain_contents filling.acknowledgements) (plain_contents filling.data_chunks) (plain_keeps filling.acknowledgements) (plain_keeps filling.data_chunks)
  behind_keeps number filling (Some reset) =
      contents_append (plain_contents filling.acknowledgements) (reset_request number reset ∷ plain_contents filling.data_chunks)
      (plain_keeps filling.acknowledgements) (tt, plain_keeps filling.data_chunks)

  packets_keep : (tag number : ℕ) (front : List Content) (filling : Filling) (reset : Option RequestedReset) → ContentsKeep rules front
      → EffectsKeep rules (flush_packets tag number front filling reset)
  packets_keep tag number front filling reset h =
      let first : List Content = front ++ chunks_behind number filling reset in
      effects_append (emission_effects tag first) (further_packets tag filling.further)
      (emitted_keeps tag first (contents_append front (chunks_behind number filling reset) h (behind_keeps number filling reset))) (further_keeps tag filling.further)

  flushed_keeps : (tag : ℕ) (held : Held) (front : List Content) (filling : Filling) (reset : Option RequestedReset) → ContentsKeep rules front
      → EffectsKeep rules (flushed_with tag held front filling reset).effects
  flushed_keeps tag held front filling None h = packets_keep tag held.own_next front filling None h
  flushed_keeps tag held front filling (Some reset) h = (tt, packets_keep tag held.own_next front filling (Some reset) h)

  flush_keeps_where : (is_allowed : Bool) (tag : ℕ) (held : Held) (front : List Content) (filling : Filling) → ContentsKeep rules front
      → EffectsKeep rules (flush_if_allowed is_allowed tag held front filling).effects
  flush_keeps_where false tag held front filling h = tt
  flush_keeps_where true tag held front filling h = flushed_keeps tag held front filling (reset_to_begin held.own_outstanding filling.reset) h

  pub flush_keeps : (tag : ℕ) (held : Held) (front : List Content) (filling : Filling) → ContentsKeep rules front → EffectsKeep rules (flush tag held front filling).effects
  flush_keeps tag held front filling h = flush_keeps_where filling.is_allowed tag held front filling h

  pub sent_keeps : (held : Held) (choices : Choices) → EffectsKeep rules (sent_then_flushed held choices).effects
  sent_keeps held choices =
      effects_append (further_packets held.peer.tag choices.plain) (flush held.peer.tag held [] choices.filling).effects
      (further_keeps held.peer.tag choices.plain) (flush_keeps held.peer.tag held [] choices.filling tt)

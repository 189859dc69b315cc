-- A flush, and a turn of one packet, send no packet that is longer than a limit.
use Rattle.std.proofs.Common.{◌≡◌, ◌≤◌, ◌+◌, ℕ, Bool, true, false, cond, List, [], ◌∷◌, ◌++◌, refl, sym, subst, arith}
use Rattle.std.specs.List.{AllByRecursion}
use Rattle.std.proofs.lemmas.Bool.Decides.{nat_tests}
use Rattle.dcsctp_spec_lemmas.specs.types.declared.options.Options.{Options}
use Rattle.dcsctp_spec_lemmas.specs.types.declared.word.Word.{Word}
use Rattle.dcsctp_spec_lemmas.specs.types.Settings.{packet_size_limit}
use Rattle.dcsctp_spec_lemmas.specs.spec.endpoint.Event.{Event, sent, packets_of_events}
use Rattle.dcsctp_spec_lemmas.specs.spec.Packet.{Content, cookie_echo, Emission}
use Rattle.dcsctp_spec_lemmas.specs.spec.endpoint.Endpoint.{Endpoint}
use Rattle.dcsctp_spec_lemmas.specs.spec.endpoint.Outcome.{Outcome, contents_len, fits, sends, quiet, emits}
use Rattle.dcsctp_spec_lemmas.specs.spec.endpoint.FlushOutcomes.{Answer, flush_of, first_ask, packets_allowed, FlushAnswers, flush_answered}
use Rattle.dcsctp_spec_lemmas.specs.spec.endpoint.HandshakeOutcomes.{echo_emission, EchoAnswers}
use Rattle.dcsctp_spec_lemmas.proofs.FlushKeeps.{flush_keeps}
use Rattle.dcsctp_spec_runs.proofs.LimitLemmas.{flush_keeps_limits}

-- The options allow packets of that many bytes, which is enough for those that are sent without a test.
abbrev pub AtLimit : ℕ → Endpoint → Type 0
AtLimit limit e = (packet_size_limit e.options ≡ limit) × (32 ≤ limit)

-- a packet of at most that many bytes
abbrev pub IsShort : ℕ → Emission → Type 0
IsShort limit emission = 12 + contents_len emission.packet.contents ≤ limit

-- each packet among these events
abbrev pub AllShort : ℕ → List (Event Emission) → Type 0
AllShort limit events = AllByRecursion (IsShort limit) (packets_of_events events)

-- The turn keeps the limit, and no packet of it is longer.
abbrev pub TurnSizes : ℕ → Outcome → Type 0
TurnSizes limit o = AtLimit limit o.after × AllShort limit o.events

pub short_append : (limit : ℕ) (events more : List (Event Emission)) → AllShort limit events → AllShort limit more → AllShort limit (events ++ more)
short_append limit [] more each others = others
short_append limit (sent emission ∷ events) more each others = (each.0, short_append limit events more each.1 others)
short_append limit (event ∷ events) more each others = short_append limit events more each others

-- ---- one packet, if it fits

pub packet_sizes : (b : Bool) (limit : ℕ) (e : Endpoint) (words : List Word) (emission : Emission) → fits e emission ≡ b → AtLimit limit e → TurnSizes limit (cond b (sends e words [] emission) (quiet e words []))
packet_sizes true limit e words emission is h =
    let within : 12 + contents_len emission.packet.contents ≤ packet_size_limit e.options = grind (arith, nat_tests, is) in
    (h, (omega (arith, within, h.0), tt))
packet_sizes false limit e words emission is h = (h, tt)

pub emits_sizes : (limit : ℕ) (e : Endpoint) (words : List Word) (emission : Emission) → AtLimit limit e → TurnSizes limit (emits e words emission)
emits_sizes limit e words emission h = packet_sizes (fits e emission) limit e words emission refl h

-- ---- a flush

-- Its first packet, as it is before it is filled, is within the limit.
pub flush_sizes : (limit : ℕ) (e : Endpoint) (draft : Emission) (answers : List Answer) → FlushAnswers e draft answers → AtLimit limit e → IsShort limit draft → TurnSizes limit (flush_of e draft answers)
flush_sizes limit e draft answers allowed h short =
    let kept = flush_keeps first_ask (packets_allowed e.options.max_burst e.core) e draft answers allowed in
    let limits = flush_keeps_limits e draft answers allowed (omega (arith, short, h.0)) in (
      (subst (λ (o : Options). packet_size_limit o ≡ limit) (sym kept.options) h.0, h.1),
      subst (λ (n : ℕ). AllByRecursion (IsShort n) (packets_of_events (flush_of e draft answers).events)) h.0 limits.sizes,
    )

-- a flush after these events, with these chunks in its first packet
pub flushed_sizes : (limit : ℕ) (e : Endpoint) (words : List Word) (events : List (Event Emission)) (with_checksum : Bool) (tag : ℕ) (contents : List Content) (answers : List Answer)
    → FlushAnswers e (record { with_checksum = with_checksum; packet = record { tag = tag; contents = contents } }) answers → AtLimit limit e → AllShort limit events → 12 + contents_len contents ≤ limit
    → TurnSizes limit (flush_answered answers e words events with_checksum tag contents)
flushed_sizes limit e words events with_checksum tag contents answers allowed h before short =
    let draft : Emission = record { with_checksum = with_checksum; packet = record { tag = tag; contents = contents } } in
    let all : TurnSizes limit (flush_of e draft answers) = flush_sizes limit e draft answers allowed h short in
    (all.0, short_append limit events (flush_of e draft answers).events before all.1)

-- one that begins with COOKIE ECHO, if that fits
echoed_by : (b : Bool) (limit : ℕ) (e : Endpoint) (words : List Word) (tag : ℕ) (cookie : List ℕ) (answers : List Answer) → fits e (echo_emission tag cookie) ≡ b → EchoAnswers b e tag cookie answers
    → AtLimit limit e → TurnSizes limit (cond b (flush_answered answers e words [] true tag (cookie_echo cookie ∷ [])) (quiet e words []))
echoed_by true limit e words tag cookie answers is allowed h =
    let within : 12 + contents_len (cookie_echo cookie ∷ []) ≤ packet_size_limit e.options = grind (arith, nat_tests, is) in
    flushed_sizes limit e words [] true tag (cookie_echo cookie ∷ []) answers allowed h tt (omega (arith, within, h.0))
echoed_by false limit e words tag cookie answers is allowed h = (h, tt)

pub echoed_sizes : (limit : ℕ) (e : Endpoint) (words : List Word) (tag : ℕ) (cookie : List ℕ) (answers : List Answer) → EchoAnswers (fits e (echo_emission tag cookie)) e tag cookie answers
    → AtLimit limit e → TurnSizes limit (cond (fits e (echo_emission tag cookie)) (flush_answered answers e words [] true tag (cookie_echo cookie ∷ [])) (quiet e words []))
echoed_sizes limit e words tag cookie answers allowed h = echoed_by (fits e (echo_emission tag cookie)) limit e words tag cookie answers refl allowed h

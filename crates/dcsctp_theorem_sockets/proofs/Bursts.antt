-- How many packets there are among events, and how many a flush sends.
use Rattle.std.proofs.Common.{◌≡◌, ◌≤◌, ◌+◌, ℕ, suc, ℤ, pos, negsuc, zero, Bool, true, false, cond, Option, None, Some, List, [], ◌∷◌, ◌++◌, map, length, refl, sym, subst, ap, ◌∙◌, arith, append_assoc, length-append}
use Rattle.dcsctp_spec_lemmas.specs.types.declared.association.Held.{Held}
use Rattle.dcsctp_spec_lemmas.specs.types.declared.options.Options.{Options}
use Rattle.dcsctp_spec_lemmas.specs.types.declared.word.Word.{Word}
use Rattle.dcsctp_spec_lemmas.specs.spec.endpoint.Event.{Event, sent, packets_of_events}
use Rattle.dcsctp_spec_lemmas.specs.spec.Packet.{Content, cookie_echo, Emission}
use Rattle.dcsctp_spec_lemmas.specs.spec.endpoint.Endpoint.{Endpoint, Core, closed, cookie_wait, cookie_echoed, open_in, held_by_core}
use Rattle.dcsctp_spec_lemmas.specs.spec.endpoint.Outcome.{Outcome, fits, sends, quiet, emits}
use Rattle.dcsctp_spec_lemmas.specs.spec.endpoint.BegunResets.{BegunReset, core_asking, after_begun}
use Rattle.dcsctp_spec_lemmas.specs.spec.endpoint.FlushOutcomes.{FillingEvent, amount_is_low, total_amount_is_low, message_is_sent, message_may_have_expired, message_has_expired, message_ends, filling_event, Answer, Ask, first_ask, AreFlushAnswers, at_limit, at_empty, after_packet, answer_contents, filled_draft, goes_out, asked_outcome, next_draft, flush_of, packets_allowed, FlushAnswers, flush_answered}
use Rattle.dcsctp_spec_lemmas.specs.spec.endpoint.HandshakeOutcomes.{echo_emission, EchoAnswers}
use Rattle.dcsctp_spec_lemmas.proofs.FlushKeeps.{begun_by, flush_keeps}
use Rattle.dcsctp_theorem_sockets.specs.Bursts.{flush_limit}

-- ---- counts

-- how many packets there are among events
abbrev pub count : List (Event Emission) → ℕ
count events = length (packets_of_events events)

-- those of two lists, one after the other
pub packets_of_events-append : {P : Type 0} (xs ys : List (Event P)) → packets_of_events (xs ++ ys) ≡ packets_of_events xs ++ packets_of_events ys
packets_of_events-append [] ys = refl
packets_of_events-append (sent packet ∷ xs) ys = ap (λ l. packet ∷ l) (packets_of_events-append xs ys)
packets_of_events-append (event ∷ xs) ys = packets_of_events-append xs ys

pub append_few : (m n : ℕ) (xs ys : List (Event Emission)) → count xs ≤ m → count ys ≤ n → count (xs ++ ys) ≤ m + n
append_few m n xs ys first second =
    let both : count (xs ++ ys) ≡ count xs + count ys = ap length (packets_of_events-append xs ys) ∙ length-append (packets_of_events xs) (packets_of_events ys) in
    omega (arith, first, second, both)

-- those after events without a packet
pub none_in_front : (n : ℕ) (xs ys : List (Event Emission)) → count xs ≤ 0 → count ys ≤ n → count (xs ++ ys) ≤ n
none_in_front n xs ys first second = let both = append_few 0 n xs ys first second in omega (arith, both)

-- The outcome has at most that many packets.
abbrev pub Few : ℕ → Outcome → Type 0
Few n o = count o.events ≤ n

pub none : (n : ℕ) → 0 ≤ n
none n = omega arith

pub one : (n : ℕ) → 1 ≤ suc n
one n = omega arith

emits_core_by : (b : Bool) (e : Endpoint) (words : List Word) (emission : Emission) → (cond b (sends e words [] emission) (quiet e words [])).after.core ≡ e.core
emits_core_by true e words emission = refl
emits_core_by false e words emission = refl

pub emits_core : (e : Endpoint) (words : List Word) (emission : Emission) → (emits e words emission).after.core ≡ e.core
emits_core e words emission = emits_core_by (fits e emission) e words emission

emits_by : (b : Bool) (e : Endpoint) (words : List Word) (emission : Emission) → Few 1 (cond b (sends e words [] emission) (quiet e words []))
emits_by true e words emission = one 0
emits_by false e words emission = none 1

-- a packet, if it fits
pub emits_few : (e : Endpoint) (words : List Word) (emission : Emission) → Few 1 (emits e words emission)
emits_few e words emission = emits_by (fits e emission) e words emission

-- ---- a flush

-- the events in `told` are no packets
pub told_none : (told : List FillingEvent) (rest : List (Event Emission)) → packets_of_events (map filling_event told ++ rest) ≡ packets_of_events rest
told_none [] rest = refl
told_none (amount_is_low stream ∷ told) rest = told_none told rest
told_none (total_amount_is_low ∷ told) rest = told_none told rest
told_none (message_is_sent id ∷ told) rest = told_none told rest
told_none (message_may_have_expired id ∷ told) rest = told_none told rest
told_none (message_has_expired id ∷ told) rest = told_none told rest
told_none (message_ends id ∷ told) rest = told_none told rest

one_at_most : (e : Endpoint) (told : List FillingEvent) (with_checksum : Bool) (tag : ℕ) (contents : List Content) (rest : List (Event Emission)) (n : ℕ) → count rest ≤ n
    → count ((goes_out e (map filling_event told) with_checksum tag contents).events ++ rest) ≤ suc n
one_at_most e told with_checksum tag [] rest n few =
    let same : count (map filling_event told ++ rest) ≡ count rest = ap length (told_none told rest) in omega (arith, same, few)
one_at_most e told with_checksum tag (content ∷ contents) rest n few =
    let emission : Emission = record { with_checksum = with_checksum; packet = record { tag = tag; contents = content ∷ contents } } in
    let same : count ((map filling_event told ++ sent emission ∷ []) ++ rest) ≡ suc (count rest) =
    ap count (append_assoc (map filling_event told) (sent emission ∷ []) rest) ∙ ap length (told_none told (sent emission ∷ rest)) in
    omega (arith, same, few)

flush_counts : (ask : Ask) (n : ℕ) (e : Endpoint) (draft : Emission) (answers : List Answer) → AreFlushAnswers ask n e draft answers → count (flush_of e draft answers).events ≤ n
flush_counts _ _ _ _ _ (at_limit ask e draft) = omega arith
flush_counts _ _ _ _ _ (at_empty ask more e draft answer is empty) =
    one_at_most answer.after answer.told draft.with_checksum draft.packet.tag (filled_draft draft (answer_contents answer)).packet.contents [] more (omega arith)
flush_counts _ _ _ _ _ (after_packet ask more e draft answer answers is some rest) =
    one_at_most answer.after answer.told draft.with_checksum draft.packet.tag (filled_draft draft (answer_contents answer)).packet.contents
    (flush_of (asked_outcome e draft answer).after (next_draft e.core draft) answers).events more
    (flush_counts _ more (asked_outcome e draft answer).after (next_draft e.core draft) answers rest)

-- The peer is known.
abbrev pub HasPeer : Core → Type 0
HasPeer closed = ⊥
HasPeer (cookie_wait my) = ⊥
HasPeer (cookie_echoed my held cookie) = Unit {0}
HasPeer (open_in phase my held) = Unit {0}

pub held_is_peer : (core : Core) (held : Held) → held_by_core core ≡ Some held → HasPeer core
held_is_peer closed held is = absurd (cc)
held_is_peer (cookie_wait my) held is = absurd (cc)
held_is_peer (cookie_echoed my own cookie) held is = tt
held_is_peer (open_in phase my own) held is = tt

-- Then what `max_burst` allows is the limit of a flush, whether a reset is begun or not.
limit_is : (burst : ℤ) (core : Core) → HasPeer core → flush_limit burst core ≡ packets_allowed burst core
limit_is burst closed peer = absurd peer
limit_is burst (cookie_wait my) peer = absurd peer
limit_is burst (cookie_echoed my held cookie) peer = refl
limit_is burst (open_in phase my held) peer = refl

asking_limit : (burst : ℤ) (core : Core) → flush_limit burst (core_asking core) ≡ flush_limit burst core
asking_limit burst closed = refl
asking_limit burst (cookie_wait my) = refl
asking_limit (pos zero) (cookie_echoed my held cookie) = refl
asking_limit (pos (suc more)) (cookie_echoed my held cookie) = refl
asking_limit (negsuc below) (cookie_echoed my held cookie) = refl
asking_limit (pos zero) (open_in phase my held) = refl
asking_limit (pos (suc more)) (open_in phase my held) = refl
asking_limit (negsuc below) (open_in phase my held) = refl

begun_limit : (begun : Option BegunReset) (burst : ℤ) (e : Endpoint) → flush_limit burst (after_begun begun e).core ≡ flush_limit burst e.core
begun_limit None burst e = refl
begun_limit (Some begun) burst e = asking_limit burst e.core

-- how many packets a flush may send where an outcome led
abbrev pub allowed_after : Outcome → ℕ
allowed_after o = flush_limit o.after.options.max_burst o.after.core

-- The outcome has no more of them.
abbrev pub IsBurst : Outcome → Type 0
IsBurst o = count o.events ≤ allowed_after o

pub flush_is_burst : (e : Endpoint) (draft : Emission) (answers : List Answer) → HasPeer e.core → FlushAnswers e draft answers → IsBurst (flush_of e draft answers)
flush_is_burst e draft answers peer allowed =
    let o : Outcome = flush_of e draft answers in
    let kept = flush_keeps first_ask (packets_allowed e.options.max_burst e.core) e draft answers allowed in
    let same : allowed_after o ≡ packets_allowed e.options.max_burst e.core =
    ap (λ (p : Options). flush_limit p.max_burst o.after.core) kept.options
    ∙ ap (λ (core : Core). flush_limit e.options.max_burst core) kept.core
    ∙ begun_limit (begun_by answers) e.options.max_burst e
    ∙ limit_is e.options.max_burst e.core peer in
    subst (λ (n : ℕ). count o.events ≤ n) (sym same) (flush_counts first_ask (packets_allowed e.options.max_burst e.core) e draft answers allowed)

-- one that begins with COOKIE ECHO, if that fits
echoed_by : (b : Bool) (e : Endpoint) (words : List Word) (tag : ℕ) (cookie : List ℕ) (answers : List Answer) → HasPeer e.core → EchoAnswers b e tag cookie answers
    → IsBurst (cond b (flush_answered answers e words [] true tag (cookie_echo cookie ∷ [])) (quiet e words []))
echoed_by true e words tag cookie answers peer allowed = flush_is_burst e (echo_emission tag cookie) answers peer allowed
echoed_by false e words tag cookie answers peer allowed = none (flush_limit e.options.max_burst e.core)

pub echo_is_burst : (e : Endpoint) (words : List Word) (tag : ℕ) (cookie : List ℕ) (answers : List Answer) → HasPeer e.core → EchoAnswers (fits e (echo_emission tag cookie)) e tag cookie answers
    → IsBurst (cond (fits e (echo_emission tag cookie)) (flush_answered answers e words [] true tag (cookie_echo cookie ∷ [])) (quiet e words []))
echo_is_burst e words tag cookie answers peer allowed = echoed_by (fits e (echo_emission tag cookie)) e words tag cookie answers peer allowed

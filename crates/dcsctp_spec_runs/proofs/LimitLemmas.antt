-- A flush keeps its limits: how many packets there are, how long they are, and which other events.
use Rattle.std.proofs.Common.{◌≡◌, ◌≤◌, ◌+◌, ℕ, suc, Bool, List, [], ◌∷◌, ◌++◌, map, length, sym, subst, arith, append_assoc}
use Rattle.std.specs.List.{AllByRecursion}
use Rattle.dcsctp_spec_lemmas.specs.types.declared.options.Options.{Options}
use Rattle.dcsctp_spec_lemmas.specs.types.Settings.{packet_size_limit}
use Rattle.dcsctp_spec_lemmas.specs.spec.endpoint.Event.{Event, sent, packets_of_events}
use Rattle.dcsctp_spec_lemmas.specs.spec.Packet.{Content, Emission}
use Rattle.dcsctp_spec_lemmas.specs.spec.endpoint.Endpoint.{Endpoint}
use Rattle.dcsctp_spec_lemmas.specs.spec.endpoint.Outcome.{contents_len}
use Rattle.dcsctp_spec_lemmas.specs.spec.endpoint.FlushOutcomes.{FillingEvent, amount_is_low, total_amount_is_low, message_is_sent, message_may_have_expired, message_has_expired, message_ends, filling_event, Answer, answer_contents, filled_draft, goes_out, asked_outcome, next_draft, flush_of, Ask, first_ask, later_ask, AreFlushAnswers, at_limit, at_empty, after_packet, packets_allowed, IsWithinMtu, IsFlushEvent}
use Rattle.dcsctp_spec_runs.specs.Laws.{FlushKeepsLimits}
use Rattle.dcsctp_spec_lemmas.proofs.FlushKeeps.{asked_keeps, next_is_empty}

-- what events of so many packets keep
record KeepsFor (n : ℕ) (e : Endpoint) (events : List (Event Emission)) : Type 0 where
  packets : length (packets_of_events events) ≤ n
  sizes : AllByRecursion (IsWithinMtu e) (packets_of_events events)
  others : AllByRecursion IsFlushEvent events

-- What it reports is no packet.
told_keeps : (n : ℕ) (e : Endpoint) (told : List FillingEvent) (rest : List (Event Emission)) → KeepsFor n e rest → KeepsFor n e (map filling_event told ++ rest)
told_keeps n e [] rest h = h
told_keeps n e (amount_is_low stream ∷ told) rest h = let k = told_keeps n e told rest h in record { packets = k.packets; sizes = k.sizes; others = (tt, k.others) }
told_keeps n e (total_amount_is_low ∷ told) rest h = let k = told_keeps n e told rest h in record { packets = k.packets; sizes = k.sizes; others = (tt, k.others) }
told_keeps n e (message_is_sent id ∷ told) rest h = let k = told_keeps n e told rest h in record { packets = k.packets; sizes = k.sizes; others = (tt, k.others) }
told_keeps n e (message_may_have_expired id ∷ told) rest h = let k = told_keeps n e told rest h in record { packets = k.packets; sizes = k.sizes; others = (tt, k.others) }
told_keeps n e (message_has_expired id ∷ told) rest h = let k = told_keeps n e told rest h in record { packets = k.packets; sizes = k.sizes; others = (tt, k.others) }
told_keeps n e (message_ends id ∷ told) rest h = let k = told_keeps n e told rest h in record { packets = k.packets; sizes = k.sizes; others = (tt, k.others) }

nothing_keeps : (n : ℕ) (e : Endpoint) → KeepsFor n e []
nothing_keeps n e = record { packets = omega arith; sizes = tt; others = tt }

sent_keeps : (n : ℕ) (e : Endpoint) (emission : Emission) (rest : List (Event Emission)) → IsWithinMtu e emission → KeepsFor n e rest → KeepsFor (suc n) e (sent emission ∷ rest)
sent_keeps n e emission rest within h = let few = h.packets in record { packets = omega (arith, few); sizes = (within, h.sizes); others = (tt, h.others) }

-- as the packets of one endpoint, and of another with its options
same_options : (n : ℕ) (e f : Endpoint) (events : List (Event Emission)) → f.options ≡ e.options → KeepsFor n f events → KeepsFor n e events
same_options n e f events is h = subst (λ (o : Options). KeepsFor n (record e { options = o }) events) is (record { packets = h.packets; sizes = h.sizes; others = h.others })

more_keeps : (n : ℕ) (e : Endpoint) (events : List (Event Emission)) → KeepsFor n e events → KeepsFor (suc n) e events
more_keeps n e events h = let few = h.packets in record { packets = omega (arith, few); sizes = h.sizes; others = h.others }

-- one packet, and then these events
out_keeps : (n : ℕ) (e after : Endpoint) (told : List FillingEvent) (with_checksum : Bool) (tag : ℕ) (contents : List Content) (rest : List (Event Emission))
    → 12 + contents_len contents ≤ packet_size_limit e.options → KeepsFor n e rest → KeepsFor (suc n) e ((goes_out after (map filling_event told) with_checksum tag contents).events ++ rest)
out_keeps n e after told with_checksum tag [] rest within h = told_keeps (suc n) e told rest (more_keeps n e rest h)
out_keeps n e after told with_checksum tag (content ∷ contents) rest within h =
    let emission : Emission = record { with_checksum = with_checksum; packet = record { tag = tag; contents = content ∷ contents } } in
    subst (KeepsFor (suc n) e) (sym (append_assoc (map filling_event told) (sent emission ∷ []) rest)) (told_keeps (suc n) e told (sent emission ∷ rest) (sent_keeps n e emission rest within h))

-- an empty packet is within
empty_within : (e f : Endpoint) (draft next : Emission) → f.options ≡ e.options → next.packet.contents ≡ [] → IsWithinMtu e draft → IsWithinMtu f next
empty_within e f draft next is empty within =
    subst (λ (o : Options). 12 + contents_len next.packet.contents ≤ packet_size_limit o) (sym is)
    (subst (λ (cs : List Content). 12 + contents_len cs ≤ packet_size_limit e.options) (sym empty) (omega (arith, within)))

keeps : (ask : Ask) (n : ℕ) (e : Endpoint) (draft : Emission) (answers : List Answer) → AreFlushAnswers ask n e draft answers → IsWithinMtu e draft → KeepsFor n e (flush_of e draft answers).events
keeps _ _ _ _ _ (at_limit ask e draft) within = nothing_keeps 0 e
keeps _ _ _ _ _ (at_empty ask more e draft answer h empty) within =
    out_keeps more e answer.after answer.told draft.with_checksum draft.packet.tag (filled_draft draft (answer_contents answer)).packet.contents [] (h.within within) (nothing_keeps more e)
keeps _ _ _ _ _ (after_packet ask more e draft answer answers h some rest) within =
    let after : Endpoint = (asked_outcome e draft answer).after in
    let next : Emission = next_draft e.core draft in
    let options : after.options ≡ e.options = (asked_keeps ask e draft answer h).options in
    out_keeps more e answer.after answer.told draft.with_checksum draft.packet.tag (filled_draft draft (answer_contents answer)).packet.contents (flush_of after next answers).events (h.within within)
    (same_options more e after (flush_of after next answers).events options
    (keeps later_ask more after next answers rest (empty_within e after draft next options (next_is_empty e.core draft) within)))

pub flush_keeps_limits : FlushKeepsLimits
flush_keeps_limits e draft answers h within =
    let k : KeepsFor (packets_allowed e.options.max_burst e.core) e (flush_of e draft answers).events =
    keeps first_ask (packets_allowed e.options.max_burst e.core) e draft answers h within in
    record { packets = k.packets; sizes = k.sizes; others = k.others }

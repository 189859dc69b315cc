-- A flush out of its packets, one after another.
use Rattle.std.proofs.Common.{◌≡◌, not, ℕ, suc, Bool, true, false, Option, None, Some, List, [], ◌∷◌, ◌++◌, length, map, refl, sym, ap, subst, ◌∙◌, append_assoc, inl, inr, arith}
use Rattle.std.proofs.lemmas.List.{append-nil, map-append}
use Rattle.rand_core.specs.Stream.{Stream}
use Rattle.dcsctp_transfer.specs.wire_build.Building.{Building}
use Rattle.dcsctp_transfer.specs.wire.Spelling.{header_bytes, packet_bytes_of}
use Rattle.dcsctp_transfer.specs.types.declared.options.Options.{Options}
use Rattle.dcsctp_transfer.specs.types.declared.association.Held.{Held}
use Rattle.dcsctp_transfer.specs.types.declared.association.Pair.{Pair}
use Rattle.dcsctp_transfer.specs.types.declared.word.Word.{Word}
use Rattle.dcsctp_transfer.specs.types.Settings.{ports_of, packet_size_limit}
use Rattle.dcsctp_transfer.specs.spec.endpoint.Event.{Event, sent}
use Rattle.dcsctp_transfer.specs.spec.Packet.{Content, Emission, emission_bytes}
use Rattle.dcsctp_transfer.specs.spec.endpoint.Endpoint.{Endpoint, Core, closed, cookie_wait, cookie_echoed, open_in, held_by_core}
use Rattle.dcsctp_transfer.specs.spec.endpoint.Outcome.{Outcome, still, packet_counted, contents_len, then_outcome, with_effects_first}
use Rattle.dcsctp_transfer.specs.spec.association.Effect.{Effect, drawn_pairs}
use Rattle.dcsctp_transfer.specs.spec.endpoint.BegunResets.{BegunReset, begun_effects}
use Rattle.dcsctp_transfer.specs.spec.endpoint.FlushOutcomes.{filling_event, Answer, answer_contents, filled_draft, goes_out, asked_outcome, next_draft, draft_to, flush_of, Ask, later_ask, IsWithinMtu, IsFlushAnswer, AreFlushAnswers, at_limit, at_empty, after_packet, is_none}
use Rattle.dcsctp_transfer.proofs.spec_lemmas.AnswerLemmas.{any_answers, answers_from}
use Rattle.dcsctp_transfer.proofs.spec_lemmas.FlushKeeps.{Keeps, asked_keeps}
use Rattle.dcsctp_transfer.proofs.spec_lemmas.TurnLists.{drawn_pairs-append}
use Rattle.dcsctp_transfer.specs.api.Calls.{user_event}
use Rattle.dcsctp_core.specs.View.{View, Moves}
use Rattle.dcsctp_core.specs.Flushing.{packet_for, FillsAskedPacket, CutsAsk, AsksFor, FlushesFor, CutsFlush, sent_if_filled, KeepsSize}
use Rattle.dcsctp_core.proofs.Moving.{DrawsWords-append, moves_still}
use Rattle.dcsctp_core.proofs.Composing.{events_behind}
use Rattle.dcsctp_core.proofs.SentLemmas.{body_len, none_as_bytes, built_bytes}
use Rattle.dcsctp_core.proofs.CutLemmas.{told_first}

-- ---- a packet that was filled is sent

-- what it holds is within the limit
pub fits_by : (e : Endpoint) (draft : Emission) (answer : Answer) (packet : Building) → packet ≡ packet_for e.options (filled_draft draft (answer_contents answer)) → KeepsSize packet
    → IsWithinMtu e draft → IsWithinMtu e (filled_draft draft (answer_contents answer))
fits_by e draft answer packet is size within =
    let contents : List Content = (filled_draft draft (answer_contents answer)).packet.contents in
    let len : length packet.body ≡ contents_len contents = ap (λ (b : Building). length b.body) is ∙ body_len contents in
    let limit : packet.size ≡ packet_size_limit e.options = ap (λ (b : Building). b.size) is in
    elim size [ inl empty ↦ let none : length packet.body ≡ 0 = ap length empty in omega (arith, within, len, none) | inr small ↦ omega (arith, small, len, limit) ]

pub answered_by : {R : Type 0} (ask : Ask) (old mid : View R) (draft : Emission) (packet : Building) (f : FillsAskedPacket ask old draft mid packet) → KeepsSize packet → IsFlushAnswer ask old.endpoint draft f.answer
answered_by ask old mid draft packet f size =
    record { kept = f.kept; within = fits_by old.endpoint draft f.answer packet f.packet size; by_transfer = f.by_transfer }

-- the turn, by what the packet holds
out_moves : {R : Type 0} (stream : R → Stream) (ask : Ask) (old mid : View R) (draft : Emission) (packet : Building) (f : FillsAskedPacket ask old draft mid packet) (contents : List Content)
    → (filled_draft draft (answer_contents f.answer)).packet.contents ≡ contents
    → Moves stream old (goes_out f.answer.after (map filling_event f.answer.told) draft.with_checksum draft.packet.tag contents) (sent_if_filled (not (is_none contents)) packet mid)
out_moves {R = R} stream ask old mid draft packet f [] is =
    record {
      endpoint = f.endpoint;
      events = f.events;
      words = ap (λ (v : View R). v.words) f.rest ∙ sym (append-nil old.words);
      pairs = ap (λ (v : View R). v.pairs) f.rest ∙ sym (append-nil old.pairs);
      drawn = ap (λ (v : View R). stream v.generator) f.rest;
    }
out_moves {R = R} stream ask old mid draft packet f (content ∷ contents) is =
    let options : Options = old.endpoint.options in
    let emission : Emission = record { with_checksum = draft.with_checksum; packet = record { tag = draft.packet.tag; contents = content ∷ contents } } in
    let here : packet ≡ packet_for options emission =
    f.packet ∙ ap (λ (cs : List Content). packet_for options (record { with_checksum = draft.with_checksum; packet = record { tag = draft.packet.tag; contents = cs } })) is in
    let bytes : packet_bytes_of packet.with_checksum (header_bytes packet.source_port packet.destination_port packet.verification_tag) packet.body ≡ emission_bytes (ports_of options) emission =
    built_bytes options packet draft.with_checksum draft.packet.tag (content ∷ contents) _ here refl in
    let told : List (Event Emission) = map filling_event f.answer.told in
    record {
      endpoint = ap packet_counted f.endpoint;
      events = ap (λ (es : List (Event (List ℕ))). es ++ sent (packet_bytes_of packet.with_checksum (header_bytes packet.source_port packet.destination_port packet.verification_tag) packet.body) ∷ []) f.events
          ∙ append_assoc old.events (map (user_event (ports_of options)) told) (sent (packet_bytes_of packet.with_checksum (header_bytes packet.source_port packet.destination_port packet.verification_tag) packet.body) ∷ [])
          ∙ ap (λ (bs : List ℕ). old.events ++ (map (user_event (ports_of options)) told ++ sent bs ∷ [])) bytes
          ∙ ap (λ (es : List (Event (List ℕ))). old.events ++ es) (sym (map-append (user_event (ports_of options)) told (sent emission ∷ [])));
      words = ap (λ (v : View R). v.words) f.rest ∙ sym (append-nil old.words);
      pairs = ap (λ (v : View R). v.pairs) f.rest ∙ sym (append-nil old.pairs);
      drawn = ap (λ (v : View R). stream v.generator) f.rest;
    }

body_none : (options : Options) (draft : Emission) (contents : List Content) (packet : Building) → packet ≡ packet_for options (filled_draft draft contents)
    → is_none packet.body ≡ is_none (filled_draft draft contents).packet.contents
body_none options draft contents packet is = ap (λ (b : Building). is_none b.body) is ∙ none_as_bytes (filled_draft draft contents).packet.contents

-- A request that is recorded draws no pair.
begun_drawn : (begun : Option BegunReset) (effects : List Effect) → drawn_pairs (begun_effects begun ++ effects) ≡ drawn_pairs effects
begun_drawn None effects = refl
begun_drawn (Some begun) effects = refl

begun_moves : {R : Type 0} (stream : R → Stream) (old : View R) (begun : Option BegunReset) (o : Outcome) (new : View R) → Moves stream old o new → Moves stream old (with_effects_first (begun_effects begun) o) new
begun_moves stream old begun o new m =
    record { endpoint = m.endpoint; events = m.events; words = m.words; pairs = m.pairs ∙ ap (λ (ps : List Pair). old.pairs ++ ps) (sym (begun_drawn begun o.effects)); drawn = m.drawn }

pub asks_for : {R : Type 0} (stream : R → Stream) (ask : Ask) (old mid new : View R) (draft : Emission) (packet : Building) (is_sent : Bool) → FillsAskedPacket ask old draft mid packet → KeepsSize packet
    → is_sent ≡ not (is_none packet.body) → new ≡ sent_if_filled is_sent packet mid → AsksFor stream ask old draft is_sent new
asks_for {R = R} stream ask old mid new draft packet is_sent f size goes is =
    let contents : List Content = (filled_draft draft (answer_contents f.answer)).packet.contents in
    let same : is_sent ≡ not (is_none contents) = goes ∙ ap not (body_none old.endpoint.options draft (answer_contents f.answer) packet f.packet) in
    record {
      answer = f.answer;
      allowed = answered_by ask old mid draft packet f size;
      goes = same;
      moves = subst (λ (v : View R). Moves stream old (asked_outcome old.endpoint draft f.answer) v) (sym (is ∙ ap (λ (b : Bool). sent_if_filled b packet mid) same)) (begun_moves stream old f.answer.begun _ _ (out_moves stream ask old mid draft packet f contents refl));
    }

-- the packet found no place among the events
pub ask_cut : {R : Type 0} (ask : Ask) (old mid new : View R) (draft : Emission) (packet : Building) → FillsAskedPacket ask old draft mid packet → KeepsSize packet → new ≡ mid → CutsAsk ask old draft new.events
ask_cut {R = R} ask old mid new draft packet f size is =
    let out = told_first f.answer.after (map filling_event f.answer.told) draft.with_checksum draft.packet.tag (filled_draft draft (answer_contents f.answer)).packet.contents in
    record {
      answer = f.answer;
      allowed = answered_by ask old mid draft packet f size;
      front = map filling_event f.answer.told;
      rest = out.0;
      parts = out.1;
      added = ap (λ (v : View R). v.events) is ∙ f.events;
    }

-- ---- one after another

pub moves_next : {R : Type 0} (stream : R → Stream) (a b c : View R) (o p : Outcome) → o.after.options ≡ a.endpoint.options → Moves stream a o b → Moves stream b p c → Moves stream a (then_outcome o p) c
moves_next stream a b c o p same m n =
    let ports : ports_of b.endpoint.options ≡ ports_of a.endpoint.options = ap (λ (e : Endpoint). ports_of e.options) m.endpoint ∙ ap ports_of same in
    record {
      endpoint = n.endpoint;
      events = events_behind (ports_of a.endpoint.options) (ports_of b.endpoint.options) a.events b.events c.events o.events p.events ports m.events n.events;
      words = n.words ∙ ap (λ (ws : List Word). ws ++ p.words) m.words ∙ append_assoc a.words o.words p.words;
      pairs = n.pairs ∙ ap (λ (ps : List Pair). ps ++ drawn_pairs p.effects) m.pairs ∙ append_assoc a.pairs (drawn_pairs o.effects) (drawn_pairs p.effects) ∙ ap (λ (ps : List Pair). a.pairs ++ ps) (sym (drawn_pairs-append o.effects p.effects));
      drawn = DrawsWords-append (stream a.generator) (stream b.generator) (stream c.generator) o.words p.words m.drawn n.drawn;
    }

-- none is left
pub flushes_none : {R : Type 0} (stream : R → Stream) (ask : Ask) (view : View R) (draft : Emission) → FlushesFor stream ask 0 view draft view
flushes_none stream ask view draft = record { answers = []; allowed = at_limit ask view.endpoint draft; moves = moves_still stream view }

none_is : (contents : List Content) (is_sent : Bool) → is_sent ≡ not (is_none contents) → is_sent ≡ false → contents ≡ []
none_is [] is_sent is not_sent = refl
none_is (content ∷ contents) is_sent is not_sent = absurd (cc)

some_is : (contents : List Content) (is_sent : Bool) → is_sent ≡ not (is_none contents) → is_sent ≡ true → contents ≡ [] → ⊥
some_is [] is_sent is was_sent none = cc
some_is (content ∷ contents) is_sent is was_sent none = cc

-- The flush ends at a packet that is empty.
pub flushes_last : {R : Type 0} (stream : R → Stream) (ask : Ask) (n : ℕ) (old new : View R) (draft : Emission) (is_sent : Bool) → is_sent ≡ false → AsksFor stream ask old draft is_sent new
    → FlushesFor stream ask (suc n) old draft new
flushes_last stream ask n old new draft is_sent not_sent h =
    let o : Outcome = asked_outcome old.endpoint draft h.answer in
    let empty : (filled_draft draft (answer_contents h.answer)).packet.contents ≡ [] = none_is (filled_draft draft (answer_contents h.answer)).packet.contents is_sent h.goes not_sent in
    let keeps : Keeps h.answer.begun old.endpoint o = asked_keeps ask old.endpoint draft h.answer h.allowed in
    record {
      answers = h.answer ∷ [];
      allowed = at_empty ask n old.endpoint draft h.answer h.allowed empty;
      moves = moves_next stream old new new o (still o.after) keeps.options h.moves
          (subst (λ (e : Endpoint). Moves stream new (still e) new) h.moves.endpoint (moves_still stream new));
    }

-- what comes after a packet that was sent
pub flushes_further : {R : Type 0} (stream : R → Stream) (ask : Ask) (n : ℕ) (old mid new : View R) (draft next : Emission) (is_sent : Bool) → is_sent ≡ true → AsksFor stream ask old draft is_sent mid
    → next_draft old.endpoint.core draft ≡ next → FlushesFor stream later_ask n mid next new → FlushesFor stream ask (suc n) old draft new
flushes_further stream ask n old mid new draft next is_sent was_sent h follows rest =
    let e : Endpoint = old.endpoint in
    let o : Outcome = asked_outcome e draft h.answer in
    let keeps : Keeps h.answer.begun e o = asked_keeps ask e draft h.answer h.allowed in
    let answers : AreFlushAnswers later_ask n o.after (next_draft e.core draft) rest.answers =
    subst (λ (x : Endpoint). AreFlushAnswers later_ask n x (next_draft e.core draft) rest.answers) h.moves.endpoint
    (subst (λ (d : Emission). AreFlushAnswers later_ask n mid.endpoint d rest.answers) (sym follows) rest.allowed) in
    let moves : Moves stream mid (flush_of o.after (next_draft e.core draft) rest.answers) new =
    subst (λ (x : Endpoint). Moves stream mid (flush_of x (next_draft e.core draft) rest.answers) new) h.moves.endpoint
    (subst (λ (d : Emission). Moves stream mid (flush_of mid.endpoint d rest.answers) new) (sym follows) rest.moves) in
    record {
      answers = h.answer ∷ rest.answers;
      allowed = after_packet ask n e draft h.answer rest.answers h.allowed (some_is (filled_draft draft (answer_contents h.answer)).packet.contents is_sent h.goes was_sent) answers;
      moves = moves_next stream old mid new o (flush_of o.after (next_draft e.core draft) rest.answers) keeps.options h.moves moves;
    }

-- ---- cut

pub flush_cut_here : {R : Type 0} (ask : Ask) (n : ℕ) (old : View R) (draft : Emission) (events : List (Event (List ℕ))) → CutsAsk ask old draft events → CutsFlush ask (suc n) old draft events
flush_cut_here ask n old draft events h =
    let e : Endpoint = old.endpoint in
    let all = answers_from ask n e draft h.answer h.allowed in
    let more : List (Event Emission) = (flush_of (asked_outcome e draft h.answer).after (next_draft e.core draft) all.0).events in
    record {
      answers = h.answer ∷ all.0;
      allowed = all.1;
      front = h.front;
      rest = h.rest ++ more;
      parts = ap (λ (es : List (Event Emission)). es ++ more) h.parts ∙ append_assoc h.front h.rest more;
      added = h.added;
    }

pub flush_cut_further : {R : Type 0} (stream : R → Stream) (ask : Ask) (n : ℕ) (old mid : View R) (draft next : Emission) (events : List (Event (List ℕ))) (is_sent : Bool) → is_sent ≡ true → AsksFor stream ask old draft is_sent mid
    → next_draft old.endpoint.core draft ≡ next → CutsFlush later_ask n mid next events → CutsFlush ask (suc n) old draft events
flush_cut_further stream ask n old mid draft next events is_sent was_sent h follows rest =
    let e : Endpoint = old.endpoint in
    let o : Outcome = asked_outcome e draft h.answer in
    let keeps : Keeps h.answer.begun e o = asked_keeps ask e draft h.answer h.allowed in
    let same : mid.endpoint ≡ o.after = h.moves.endpoint in
    let answers : AreFlushAnswers later_ask n o.after (next_draft e.core draft) rest.answers =
    subst (λ (x : Endpoint). AreFlushAnswers later_ask n x (next_draft e.core draft) rest.answers) same (subst (λ (d : Emission). AreFlushAnswers later_ask n mid.endpoint d rest.answers) (sym follows) rest.allowed) in
    let parts : (flush_of o.after (next_draft e.core draft) rest.answers).events ≡ rest.front ++ rest.rest =
    subst (λ (x : Endpoint). (flush_of x (next_draft e.core draft) rest.answers).events ≡ rest.front ++ rest.rest) same
    (subst (λ (d : Emission). (flush_of mid.endpoint d rest.answers).events ≡ rest.front ++ rest.rest) (sym follows) rest.parts) in
    let ports : ports_of mid.endpoint.options ≡ ports_of e.options = ap (λ (x : Endpoint). ports_of x.options) same ∙ ap ports_of keeps.options in
    record {
      answers = h.answer ∷ rest.answers;
      allowed = after_packet ask n e draft h.answer rest.answers h.allowed (some_is (filled_draft draft (answer_contents h.answer)).packet.contents is_sent h.goes was_sent) answers;
      front = o.events ++ rest.front;
      rest = rest.rest;
      parts = ap (λ (es : List (Event Emission)). o.events ++ es) parts ∙ sym (append_assoc o.events rest.front rest.rest);
      added = events_behind (ports_of e.options) (ports_of mid.endpoint.options) old.events mid.events events o.events rest.front ports h.moves.events rest.added;
    }

-- ---- to the peer of the association

pub next_to : (core : Core) (draft : Emission) (held : Held) → held_by_core core ≡ Some held → next_draft core draft ≡ draft_to held
next_to closed draft held holds = absurd (cc)
next_to (cookie_wait my) draft held holds = absurd (cc)
next_to (cookie_echoed my own cookie) draft held holds = ap draft_to (of_some own held holds)
  where
    of_some : (a b : Held) → Some a ≡ Some b → a ≡ b
    of_some a b is = cc
next_to (open_in phase my own) draft held holds = ap draft_to (of_some own held holds)
  where
    of_some : (a b : Held) → Some a ≡ Some b → a ≡ b
    of_some a b is = cc

-- before its first event
pub flush_cut_before : {R : Type 0} (ask : Ask) (n : ℕ) (old : View R) (draft : Emission) → CutsFlush ask n old draft old.events
flush_cut_before ask n old draft =
    let some = any_answers ask n old.endpoint draft in
    record { answers = some.0; allowed = some.1; front = []; rest = (flush_of old.endpoint draft some.0).events; parts = refl; added = sym (append-nil old.events) }

-- One step of a handler after another: what the steps before a turn had drawn and added.
use Rattle.std.proofs.Common.{◌≡◌, ℕ, zero, suc, List, [], ◌∷◌, ◌++◌, map, take, refl, sym, ap, subst, ◌∙◌, append_assoc}
use Rattle.std.proofs.lemmas.List.{append-nil, map-append}
use Rattle.rand_core.specs.Stream.{Stream}
use Rattle.dcsctp_transfer.specs.types.Settings.{Ports, ports_of}
use Rattle.dcsctp_transfer.specs.types.declared.association.Pair.{Pair}
use Rattle.dcsctp_transfer.specs.types.declared.word.Word.{Word}
use Rattle.dcsctp_transfer.specs.spec.endpoint.Event.{Event}
use Rattle.dcsctp_transfer.specs.spec.Packet.{Emission}
use Rattle.dcsctp_transfer.specs.spec.endpoint.Outcome.{Outcome, with_effects_first}
use Rattle.dcsctp_transfer.specs.spec.association.Effect.{Effect, drawn_pairs}
use Rattle.dcsctp_transfer.specs.api.Calls.{user_event, DrawsWords}
use Rattle.dcsctp_transfer.specs.api.Events.{event_content}
use Rattle.dcsctp_transfer.specs.api.declared.events.SocketEvent.{SocketEvent}
use Rattle.dcsctp_core.specs.View.{View, Moves, CutsTurn}
use Rattle.dcsctp_core.proofs.Moving.{DrawsWords-append}

-- these words and events, and then those of a turn
abbrev pub behind : List Word → List (Event Emission) → Outcome → Outcome
behind words events o = record { words = words ++ o.words; effects = o.effects; after = o.after; events = events ++ o.events; following = o.following }

-- These events were added, and the ports stay.
pub record Adds {R : Type 0} (old : View R) (added : List (Event Emission)) (new : View R) : Type 0 where
  pub ports : ports_of new.endpoint.options ≡ ports_of old.endpoint.options
  pub events : new.events ≡ old.events ++ map (user_event (ports_of old.endpoint.options)) added

-- These words were drawn, and the pairs stay.
pub record Draws {R : Type 0} (stream : R → Stream) (old : View R) (taken : List Word) (new : View R) : Type 0 where
  pub words : new.words ≡ old.words ++ taken
  pub pairs : new.pairs ≡ old.pairs
  pub drawn : DrawsWords (stream old.generator) taken (stream new.generator)

-- ---- a turn after them

-- The events after a turn, or after a part of it, are those before it, and its own.
pub events_behind : (ports later : Ports) (old mid new : List (Event (List ℕ))) (events more : List (Event Emission)) → later ≡ ports
    → mid ≡ old ++ map (user_event ports) events → new ≡ mid ++ map (user_event later) more → new ≡ old ++ map (user_event ports) (events ++ more)
events_behind ports later old mid new events more same before after =
    after
    ∙ ap (λ (q : Ports). mid ++ map (user_event q) more) same
    ∙ ap (λ (es : List (Event (List ℕ))). es ++ map (user_event ports) more) before
    ∙ append_assoc old (map (user_event ports) events) (map (user_event ports) more)
    ∙ ap (λ (es : List (Event (List ℕ))). old ++ es) (sym (map-append (user_event ports) events more))

pub moves_behind : {R : Type 0} (stream : R → Stream) (a b c : View R) (words : List Word) (events : List (Event Emission)) (o : Outcome)
    → Adds a events b → Draws stream a words b → Moves stream b o c → Moves stream a (behind words events o) c
moves_behind stream a b c words events o added drawn m =
    record {
      endpoint = m.endpoint;
      events = events_behind (ports_of a.endpoint.options) (ports_of b.endpoint.options) a.events b.events c.events events o.events added.ports added.events m.events;
      words = m.words ∙ ap (λ (ws : List Word). ws ++ o.words) drawn.words ∙ append_assoc a.words words o.words;
      pairs = m.pairs ∙ ap (λ (ps : List Pair). ps ++ drawn_pairs o.effects) drawn.pairs;
      drawn = DrawsWords-append (stream a.generator) (stream b.generator) (stream c.generator) words o.words drawn.drawn m.drawn;
    }

-- ---- the same outcome in another form

pub moves_as : {R : Type 0} (stream : R → Stream) (a b : View R) (o p : Outcome) → p ≡ o → Moves stream a o b → Moves stream a p b
moves_as stream a b o p is m = subst (λ (x : Outcome). Moves stream a x b) (sym is) m

-- ---- a turn that was cut

-- so many more than these
count_behind : {A : Type 0} → List A → ℕ → ℕ
count_behind [] n = n
count_behind (x ∷ xs) n = suc (count_behind xs n)

take_behind : {A B : Type 0} (f : A → B) (xs ys : List A) (n : ℕ) → take (count_behind xs n) (map f (xs ++ ys)) ≡ map f xs ++ take n (map f ys)
unfolding count_behind
take_behind f [] ys n = refl
take_behind f (x ∷ xs) ys n = ap (λ zs. f x ∷ zs) (take_behind f xs ys n)

-- what is cut after these events
pub cut_behind : {R : Type 0} (a b : View R) (words : List Word) (events : List (Event Emission)) (o : Outcome) (es : List (Event (List ℕ)))
    → Adds a events b → CutsTurn b o es → CutsTurn a (behind words events o) es
cut_behind a b words events o es added cut =
    let ports : Ports = ports_of a.endpoint.options in
    record {
      count = count_behind events cut.count;
      added =
          cut.added
          ∙ ap (λ (q : Ports). b.events ++ take cut.count (map (user_event q) o.events)) added.ports
          ∙ ap (λ (old : List (Event (List ℕ))). old ++ take cut.count (map (user_event ports) o.events)) added.events
          ∙ append_assoc a.events (map (user_event ports) events) (take cut.count (map (user_event ports) o.events))
          ∙ ap (λ (more : List (Event (List ℕ))). a.events ++ more) (sym (take_behind (user_event ports) events o.events cut.count));
    }

-- before its first event
pub cut_first : {R : Type 0} (a : View R) (o : Outcome) (es : List (Event (List ℕ))) → es ≡ a.events → CutsTurn a o es
cut_first a o es same = record { count = 0; added = same ∙ sym (append-nil a.events) }

-- The events in front of its outcome's were added, and no others.
pub cut_after : {R : Type 0} (old : View R) (o : Outcome) (events : List (Event (List ℕ))) (front rest : List (Event Emission))
    → o.events ≡ front ++ rest → events ≡ old.events ++ map (user_event (ports_of old.endpoint.options)) front → CutsTurn old o events
cut_after old o events front rest is added =
    let later : Outcome = record o { events = rest } in
    let cut : CutsTurn old (behind [] front later) events = cut_behind old (record old { events = events }) [] front later events (record { ports = refl; events = added })
    (cut_first (record old { events = events }) later events refl) in
    record { count = cut.count; added = cut.added ∙ ap (λ (es : List (Event Emission)). old.events ++ take cut.count (map (user_event (ports_of old.endpoint.options)) es)) (sym is) }

-- one event, as it is seen
pub added_one : (old new : List SocketEvent) (event : SocketEvent) → new ≡ old ++ event ∷ [] → map event_content new ≡ map event_content old ++ event_content event ∷ []
added_one old new event is = ap (map event_content) is ∙ map-append event_content old (event ∷ [])

-- ---- the same turn with more effects recorded

pub moves_noting : {R : Type 0} (stream : R → Stream) (a b : View R) (effects : List Effect) (o : Outcome) → drawn_pairs o.effects ≡ drawn_pairs (effects ++ o.effects)
    → Moves stream a o b → Moves stream a (with_effects_first effects o) b
moves_noting stream a b effects o same m =
    record { endpoint = m.endpoint; events = m.events; words = m.words; pairs = m.pairs ∙ ap (λ (ps : List Pair). a.pairs ++ ps) same; drawn = m.drawn }

pub cut_noting : {R : Type 0} (old : View R) (effects : List Effect) (o : Outcome) (es : List (Event (List ℕ))) → CutsTurn old o es → CutsTurn old (with_effects_first effects o) es
cut_noting old effects o es cut = record { count = cut.count; added = cut.added }

-- ---- a turn that would have added more

take_longer : {A : Type 0} (n : ℕ) (xs ys : List A) → (m : ℕ) × (take m (xs ++ ys) ≡ take n xs)
take_longer zero xs ys = (0, refl)
take_longer (suc n) [] ys = (0, refl)
take_longer (suc n) (x ∷ xs) ys =
    let rest = take_longer n xs ys in
    (suc rest.0, ap (λ zs. x ∷ zs) rest.1)

-- more would have come
pub cut_longer : {R : Type 0} (v : View R) (o all : Outcome) (more : List (Event Emission)) (events : List (Event (List ℕ))) → all.events ≡ o.events ++ more → CutsTurn v o events → CutsTurn v all events
cut_longer v o all more events parts cut =
    let f : Event Emission → Event (List ℕ) = user_event (ports_of v.endpoint.options) in
    let longer = take_longer cut.count (map f o.events) (map f more) in
    record {
      count = longer.0;
      added = cut.added
          ∙ ap (λ (es : List (Event (List ℕ))). v.events ++ es)
          (sym longer.1 ∙ ap (take longer.0) (sym (map-append f o.events more) ∙ ap (map f) (sym parts)));
    }

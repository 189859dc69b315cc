-- Turns that move the view one after another.
use Rattle.std.proofs.Common.{◌≡◌, ℕ, List, [], ◌∷◌, ◌++◌, map, refl, sym, ap, subst, ◌∙◌, append_assoc}
use Rattle.std.proofs.lemmas.List.{append-nil, map-append}
use Rattle.rand_core.specs.Stream.{Stream, next_u32, next_u64}
use Rattle.dcsctp_transfer.specs.types.Settings.{Ports, ports_of}
use Rattle.dcsctp_transfer.specs.types.declared.association.Pair.{Pair}
use Rattle.dcsctp_transfer.specs.types.declared.word.Word.{Word}
use Rattle.dcsctp_transfer.specs.types.declared.word.Word.TheVariants.{U32, U64}
use Rattle.dcsctp_transfer.specs.spec.endpoint.Event.{Event}
use Rattle.dcsctp_transfer.specs.spec.Packet.{Emission}
use Rattle.dcsctp_transfer.specs.spec.endpoint.Endpoint.{Endpoint}
use Rattle.dcsctp_transfer.specs.spec.endpoint.Outcome.{Outcome, still}
use Rattle.dcsctp_transfer.specs.spec.association.Effect.{Effect, drawn_pairs}
use Rattle.dcsctp_transfer.specs.spec.endpoint.CallTurns.{Transition, after_all, words_of, pairs_of, events_of}
use Rattle.dcsctp_transfer.proofs.spec_lemmas.TurnLists.{after_all-append, words_of-append, pairs_of-append, events_of-append}
use Rattle.dcsctp_transfer.specs.api.Calls.{user_event, DrawsWords}
use Rattle.dcsctp_core.specs.View.{View, Moves, MovesAll}

pub DrawsWords-append : (s t u : Stream) (xs ys : List Word) → DrawsWords s xs t → DrawsWords t ys u → DrawsWords s (xs ++ ys) u
DrawsWords-append s t u [] ys a b = subst (λ (v : Stream). DrawsWords v ys u) a b
DrawsWords-append s t u (U32 word ∷ xs) ys a b = (a.0, DrawsWords-append (next_u32 s).1 t u xs ys a.1 b)
DrawsWords-append s t u (U64 word ∷ xs) ys a b = (a.0, DrawsWords-append (next_u64 s).1 t u xs ys a.1 b)

pub moves_one : {R : Type 0} (stream : R → Stream) (a b : View R) (t : Transition) → Moves stream a t.outcome b → MovesAll stream a (t ∷ []) b
moves_one stream a b t m =
    let o : Outcome = t.outcome in
    record {
      endpoint = m.endpoint;
      events = m.events ∙ ap (λ (es : List (Event Emission)). a.events ++ map (user_event (ports_of a.endpoint.options)) es) (sym (append-nil o.events));
      words = m.words ∙ ap (λ (ws : List Word). a.words ++ ws) (sym (append-nil o.words));
      pairs = m.pairs ∙ ap (λ (es : List Effect). a.pairs ++ drawn_pairs es) (sym (append-nil o.effects));
      drawn = subst (λ (ws : List Word). DrawsWords (stream a.generator) ws (stream b.generator)) (sym (append-nil o.words)) m.drawn;
    }

-- events that a user gets after others are had with them
user_events_then : (ports : Ports) (old mid : List (Event (List ℕ))) (xs ys : List Transition) → mid ≡ old ++ map (user_event ports) (events_of xs) → mid ++ map (user_event ports) (events_of ys) ≡ old ++ map (user_event ports) (events_of (xs ++ ys))
user_events_then ports old mid xs ys h =
    ap (λ (es : List (Event (List ℕ))). es ++ map (user_event ports) (events_of ys)) h
    ∙ append_assoc old (map (user_event ports) (events_of xs)) (map (user_event ports) (events_of ys))
    ∙ ap (λ (es : List (Event (List ℕ))). old ++ es) (sym (map-append (user_event ports) (events_of xs) (events_of ys)))
    ∙ ap (λ (es : List (Event Emission)). old ++ map (user_event ports) es) (sym (events_of-append xs ys))

pub moves_then : {R : Type 0} (stream : R → Stream) (a b c : View R) (xs ys : List Transition) → ports_of (after_all a.endpoint xs).options ≡ ports_of a.endpoint.options → MovesAll stream a xs b → MovesAll stream b ys c → MovesAll stream a (xs ++ ys) c
moves_then stream a b c xs ys same m n =
    let ports : ports_of b.endpoint.options ≡ ports_of a.endpoint.options = ap (λ (e : Endpoint). ports_of e.options) m.endpoint ∙ same in
    record {
      endpoint = n.endpoint ∙ ap (λ (e : Endpoint). after_all e ys) m.endpoint ∙ sym (after_all-append a.endpoint xs ys);
      events = n.events ∙ ap (λ (p : Ports). b.events ++ map (user_event p) (events_of ys)) ports ∙ user_events_then (ports_of a.endpoint.options) a.events b.events xs ys m.events;
      words = n.words ∙ ap (λ (ws : List Word). ws ++ words_of ys) m.words ∙ append_assoc a.words (words_of xs) (words_of ys) ∙ ap (λ (ws : List Word). a.words ++ ws) (sym (words_of-append xs ys));
      pairs = n.pairs ∙ ap (λ (ps : List Pair). ps ++ pairs_of ys) m.pairs ∙ append_assoc a.pairs (pairs_of xs) (pairs_of ys) ∙ ap (λ (ps : List Pair). a.pairs ++ ps) (sym (pairs_of-append xs ys));
      drawn = subst (λ (ws : List Word). DrawsWords (stream a.generator) ws (stream c.generator)) (sym (words_of-append xs ys)) (DrawsWords-append (stream a.generator) (stream b.generator) (stream c.generator) (words_of xs) (words_of ys) m.drawn n.drawn);
    }

pub moves_still : {R : Type 0} (stream : R → Stream) (v : View R) → Moves stream v (still v.endpoint) v
moves_still stream v = record { endpoint = refl; events = sym (append-nil v.events); words = sym (append-nil v.words); pairs = sym (append-nil v.pairs); drawn = refl }

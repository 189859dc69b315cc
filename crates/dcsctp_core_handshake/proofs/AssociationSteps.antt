-- The steps of an association that a cookie makes.
use Rattle.std.proofs.Common.{◌≡◌, ℕ, false, Option, Some, List, [], ◌∷◌, ◌++◌, map, refl, sym, ap, subst, ◌∙◌}
use Rattle.std.proofs.lemmas.List.{append-nil}
use Rattle.rand_core.specs.Stream.{Stream, next_u64}
use Rattle.dcsctp_core.specs.types.declared.association.Held.{Held}
use Rattle.dcsctp_core.specs.types.declared.word.Word.TheVariants.{U64}
use Rattle.dcsctp_core.specs.types.Settings.{ports_of}
use Rattle.dcsctp_core.specs.spec.Cookie.{Cookie}
use Rattle.dcsctp_core.specs.spec.endpoint.Event.{Event, connected, connection_restarted}
use Rattle.dcsctp_core.specs.spec.Packet.{Emission, cookie_ack}
use Rattle.dcsctp_core.specs.spec.queues.SendQueue.{queue_restarted}
use Rattle.dcsctp_core.specs.spec.queues.Transfer.{EndpointQueues}
use Rattle.dcsctp_core.specs.spec.endpoint.Endpoint.{Endpoint, held_by_core}
use Rattle.dcsctp_core.specs.spec.endpoint.Outcome.{Outcome}
use Rattle.dcsctp_core.specs.spec.association.Effect.{Effect, holds, connects, identity_of}
use Rattle.dcsctp_core.specs.spec.association.CookieEchoChanges.{held_by_cookie}
use Rattle.dcsctp_core.specs.spec.endpoint.FlushOutcomes.{Answer, first_ask, flush_answered, packets_allowed}
use Rattle.dcsctp_core.specs.spec.endpoint.CookieEchoOutcomes.{endpoint_established, cookie_ack_emission, establish_with_flush, queue_if_kept, queues_with, queues_begun, EstablishAnswers}
use Rattle.dcsctp_core.proofs.spec_lemmas.AnswerLemmas.{any_answers}
use Rattle.dcsctp_core.specs.api.Calls.{user_event}
use Rattle.dcsctp_core.specs.api.declared.events.SocketEvent.{SocketEvent}
use Rattle.dcsctp_core.specs.api.declared.events.SocketEvent.TheVariants.{OnConnected}
use Rattle.dcsctp_core.specs.declared.context.Context.{Context}
use Rattle.dcsctp_core.specs.View.{View, Moves, CutsTurn, view_of, endpoint_of}
use Rattle.dcsctp_core.specs.Drawing.{long_word, DrawsNext}
use Rattle.dcsctp_core.specs.Handling.{TakesPossibleTurn, CutsSomeTurn}
use Rattle.dcsctp_core.proofs.Composing.{behind, Draws, moves_behind, cut_behind, moves_noting, cut_noting, cut_first, added_one}
use Rattle.dcsctp_core_handshake.specs.Echoes.{acknowledgement_with_flush, peer_acknowledged, AcknowledgedAnswers, AcknowledgesEcho, MakesAssociation, EstablishesAssociation, OutlastsAssociation, ReplacesAssociation, RestartsAssociation, queues_over}

-- ---- a flush at the endpoint that a cookie makes

-- what is answered to the flush of a COOKIE ACK there
pub record AcknowledgedThere (e : Endpoint) (answers : List Answer) (held : Held) (o : Outcome) : Type 0 where
  pub allowed : AcknowledgedAnswers e (Some held) answers
  pub is : o ≡ acknowledgement_with_flush (flush_answered answers) e held []

pub there : {R : Type 0} (mid : View R) (e : Endpoint) (held : Held) (o : Outcome) (turn : AcknowledgesEcho mid o) → mid.endpoint ≡ e → held_by_core e.core ≡ Some held → AcknowledgedThere e turn.0 held o
there mid e held o turn here kept =
    let answers : List Answer = turn.0 in
    record {
      allowed = subst (λ (peer : Option Held). AcknowledgedAnswers e peer answers) kept (subst (λ (x : Endpoint). AcknowledgedAnswers x (held_by_core x.core) answers) here turn.1);
      is = turn.2 ∙ ap (λ (x : Endpoint). peer_acknowledged (flush_answered answers) x (held_by_core x.core)) here ∙ ap (λ (peer : Option Held). peer_acknowledged (flush_answered answers) e peer) kept;
    }

-- ---- an association that is made, and acknowledged

abbrev effects_of : Endpoint → Cookie → List Effect
effects_of e cookie = holds (identity_of cookie.maker (held_by_cookie e.options cookie)) ∷ connects (identity_of cookie.maker (held_by_cookie e.options cookie)) ∷ []

-- after these events and this word
pub associates : {R : Type 0} (stream : R → Stream) (old mid new : View R) (cookie : Cookie) (queues : EndpointQueues) (tie : ℕ) (events : List (Event Emission))
    → tie ≡ long_word (stream old.generator) → mid.endpoint ≡ endpoint_established old.endpoint cookie queues tie
    → mid.events ≡ old.events ++ map (user_event (ports_of old.endpoint.options)) events → Draws stream old (U64 tie ∷ []) mid
    → TakesPossibleTurn stream AcknowledgesEcho mid new → TakesPossibleTurn stream (MakesAssociation stream cookie queues events) old new
associates {R = R} stream old mid new cookie queues tie events drawn here added draws t =
    let e : Endpoint = endpoint_established old.endpoint cookie queues tie in
    let held : Held = held_by_cookie old.endpoint.options cookie in
    let answers : List Answer = t.turn.0 in
    let a : AcknowledgedThere e answers held t.outcome = there mid e held t.outcome t.turn here refl in
    let m : Moves stream mid (acknowledgement_with_flush (flush_answered answers) e held []) new = subst (λ (o : Outcome). Moves stream mid o new) a.is t.moves in
    let all : Moves stream old (establish_with_flush (flush_answered answers) old.endpoint cookie queues tie events) new =
    moves_noting stream old new (effects_of old.endpoint cookie) (flush_answered answers e (U64 tie ∷ []) events (cookie_ack_emission held cookie).with_checksum cookie.addressee.tag (cookie_ack ∷ [])) refl
    (moves_behind stream old mid new (U64 tie ∷ []) events (acknowledgement_with_flush (flush_answered answers) e held [])
    (record { ports = ap (λ (x : Endpoint). ports_of x.options) here; events = added }) draws m) in
    subst (λ (word : ℕ). (answered : List Answer) × EstablishAnswers old.endpoint cookie queues word answered × Moves stream old (establish_with_flush (flush_answered answered) old.endpoint cookie queues word events) new → TakesPossibleTurn stream (MakesAssociation stream cookie queues events) old new)
    (sym drawn) (λ h. record { outcome = establish_with_flush (flush_answered h.0) old.endpoint cookie queues (long_word (stream old.generator)) events; turn = (h.0, h.1, refl); moves = h.2 })
    (answers, a.allowed, all)

-- the same, cut
pub associates_cut : {R : Type 0} (stream : R → Stream) (old mid : View R) (es : List (Event (List ℕ))) (cookie : Cookie) (queues : EndpointQueues) (tie : ℕ) (events : List (Event Emission))
    → tie ≡ long_word (stream old.generator) → mid.endpoint ≡ endpoint_established old.endpoint cookie queues tie
    → mid.events ≡ old.events ++ map (user_event (ports_of old.endpoint.options)) events
    → CutsSomeTurn AcknowledgesEcho mid es → CutsSomeTurn (MakesAssociation stream cookie queues events) old es
associates_cut {R = R} stream old mid es cookie queues tie events drawn here added t =
    let e : Endpoint = endpoint_established old.endpoint cookie queues tie in
    let held : Held = held_by_cookie old.endpoint.options cookie in
    let answers : List Answer = t.turn.0 in
    let a : AcknowledgedThere e answers held t.outcome = there mid e held t.outcome t.turn here refl in
    let m : CutsTurn mid (acknowledgement_with_flush (flush_answered answers) e held []) es = subst (λ (o : Outcome). CutsTurn mid o es) a.is t.cut in
    let all : CutsTurn old (establish_with_flush (flush_answered answers) old.endpoint cookie queues tie events) es =
    cut_noting old (effects_of old.endpoint cookie) (flush_answered answers e (U64 tie ∷ []) events (cookie_ack_emission held cookie).with_checksum cookie.addressee.tag (cookie_ack ∷ [])) es
    (cut_behind old mid (U64 tie ∷ []) events (acknowledgement_with_flush (flush_answered answers) e held []) es
    (record { ports = ap (λ (x : Endpoint). ports_of x.options) here; events = added }) m) in
    subst (λ (word : ℕ). (answered : List Answer) × EstablishAnswers old.endpoint cookie queues word answered × CutsTurn old (establish_with_flush (flush_answered answered) old.endpoint cookie queues word events) es → CutsSomeTurn (MakesAssociation stream cookie queues events) old es)
    (sym drawn) (λ h. record { outcome = establish_with_flush (flush_answered h.0) old.endpoint cookie queues (long_word (stream old.generator)) events; turn = (h.0, h.1, refl); cut = h.2 })
    (answers, a.allowed, all)

-- before its first event
pub association_unmade : {R : Type 0} (stream : R → Stream) (old : View R) (es : List (Event (List ℕ))) (cookie : Cookie) (queues : EndpointQueues) (events : List (Event Emission))
    → es ≡ old.events → CutsSomeTurn (MakesAssociation stream cookie queues events) old es
association_unmade stream old es cookie queues events same =
    let tie : ℕ = long_word (stream old.generator) in
    let e : Endpoint = endpoint_established old.endpoint cookie queues tie in
    let some = any_answers first_ask (packets_allowed e.options.max_burst e.core) e (cookie_ack_emission (held_by_cookie old.endpoint.options cookie) cookie) in
    let o : Outcome = establish_with_flush (flush_answered some.0) old.endpoint cookie queues tie events in
    record { outcome = o; turn = (some.0, some.1, refl); cut = cut_first old o es same }

-- ---- with queues of this kind

-- what holds once it is made: a word was drawn, and OnConnected was added
abbrev Made : {R : Type 0} → (Endpoint → Cookie → EndpointQueues) → Context R → List SocketEvent → Cookie → ℕ → View R → Type 0
Made queues drawn added cookie tie mid =
    let e : Endpoint = endpoint_of (record drawn { events = added }) in
    mid ≡ record (view_of (record drawn { events = added })) { endpoint = endpoint_established e cookie (queues e cookie) tie }

made_endpoint : {R : Type 0} (stream : R → Stream) (queues : Endpoint → Cookie → EndpointQueues) (old drawn : Context R) (added : List SocketEvent) (cookie : Cookie) (tie : ℕ) (mid : View R)
    → DrawsNext stream next_u64 U64 old tie drawn → Made queues drawn added cookie tie mid → mid.endpoint ≡ endpoint_established (endpoint_of old) cookie (queues (endpoint_of old) cookie) tie
made_endpoint {R = R} stream queues old drawn added cookie tie mid d made =
    ap (λ (v : View R). v.endpoint) made
    ∙ ap (λ (x : Context R). endpoint_established (endpoint_of (record x { events = added })) cookie (queues (endpoint_of (record x { events = added })) cookie) tie) d.only

made_events : {R : Type 0} (stream : R → Stream) (queues : Endpoint → Cookie → EndpointQueues) (old drawn : Context R) (added : List SocketEvent) (cookie : Cookie) (tie : ℕ) (mid : View R)
    → DrawsNext stream next_u64 U64 old tie drawn → added ≡ drawn.events ++ OnConnected ∷ [] → Made queues drawn added cookie tie mid → mid.events ≡ (view_of old).events ++ connected ∷ []
made_events {R = R} stream queues old drawn added cookie tie mid d one made =
    ap (λ (v : View R). v.events) made ∙ added_one old.events added OnConnected (one ∙ ap (λ (x : Context R). x.events ++ OnConnected ∷ []) d.only)

associated : {R : Type 0} (stream : R → Stream) (queues : Endpoint → Cookie → EndpointQueues) (old drawn : Context R) (added : List SocketEvent) (cookie : Cookie) (tie : ℕ) (mid new : View R)
    → DrawsNext stream next_u64 U64 old tie drawn → added ≡ drawn.events ++ OnConnected ∷ [] → Made queues drawn added cookie tie mid
    → TakesPossibleTurn stream AcknowledgesEcho mid new → TakesPossibleTurn stream (MakesAssociation stream cookie (queues (endpoint_of old) cookie) (connected ∷ [])) (view_of old) new
associated {R = R} stream queues old drawn added cookie tie mid new d one made t =
    let same : drawn.pairs ≡ old.pairs = d.pairs in
    let same_pairs : (view_of drawn).pairs ≡ (view_of old).pairs = cc in
    associates stream (view_of old) mid new cookie (queues (endpoint_of old) cookie) tie (connected ∷ []) d.from_stream
    (made_endpoint stream queues old drawn added cookie tie mid d made) (made_events stream queues old drawn added cookie tie mid d one made)
    (record {
      words = ap (λ (v : View R). v.words) made ∙ d.kept;
      pairs = ap (λ (v : View R). v.pairs) made ∙ same_pairs;
      drawn = (d.from_stream, ap (λ (v : View R). stream v.generator) made ∙ d.left);
    }) t

associated_cut : {R : Type 0} (stream : R → Stream) (queues : Endpoint → Cookie → EndpointQueues) (old drawn : Context R) (added : List SocketEvent) (cookie : Cookie) (tie : ℕ) (mid : View R) (es : List (Event (List ℕ)))
    → DrawsNext stream next_u64 U64 old tie drawn → added ≡ drawn.events ++ OnConnected ∷ [] → Made queues drawn added cookie tie mid
    → CutsSomeTurn AcknowledgesEcho mid es → CutsSomeTurn (MakesAssociation stream cookie (queues (endpoint_of old) cookie) (connected ∷ [])) (view_of old) es
associated_cut stream queues old drawn added cookie tie mid es d one made t =
    associates_cut stream (view_of old) mid es cookie (queues (endpoint_of old) cookie) tie (connected ∷ []) d.from_stream
    (made_endpoint stream queues old drawn added cookie tie mid d made) (made_events stream queues old drawn added cookie tie mid d one made) t

-- ---- without a peer

abbrev queues_waiting : Endpoint → Cookie → EndpointQueues
queues_waiting e cookie = queues_with e cookie (queue_if_kept false e cookie)

pub establishes : {R : Type 0} (stream : R → Stream) (old drawn : Context R) (added : List SocketEvent) (cookie : Cookie) (tie : ℕ) (mid new : View R)
    → DrawsNext stream next_u64 U64 old tie drawn → added ≡ drawn.events ++ OnConnected ∷ [] → Made queues_waiting drawn added cookie tie mid
    → TakesPossibleTurn stream AcknowledgesEcho mid new → TakesPossibleTurn stream (EstablishesAssociation stream cookie) (view_of old) new
establishes stream old drawn added cookie tie mid new d one made t =
    let all = associated stream queues_waiting old drawn added cookie tie mid new d one made t in
    record { outcome = all.outcome; turn = all.turn; moves = all.moves }

pub establishes_cut : {R : Type 0} (stream : R → Stream) (old drawn : Context R) (added : List SocketEvent) (cookie : Cookie) (tie : ℕ) (mid : View R) (es : List (Event (List ℕ)))
    → DrawsNext stream next_u64 U64 old tie drawn → added ≡ drawn.events ++ OnConnected ∷ [] → Made queues_waiting drawn added cookie tie mid
    → CutsSomeTurn AcknowledgesEcho mid es → CutsSomeTurn (EstablishesAssociation stream cookie) (view_of old) es
establishes_cut stream old drawn added cookie tie mid es d one made t =
    let all = associated_cut stream queues_waiting old drawn added cookie tie mid es d one made t in
    record { outcome = all.outcome; turn = all.turn; cut = all.cut }

pub establish_unmade : {R : Type 0} (stream : R → Stream) (old : View R) (es : List (Event (List ℕ))) (cookie : Cookie) → es ≡ old.events → CutsSomeTurn (EstablishesAssociation stream cookie) old es
establish_unmade stream old es cookie same =
    let all = association_unmade stream old es cookie (queues_waiting old.endpoint cookie) (connected ∷ []) same in
    record { outcome = all.outcome; turn = all.turn; cut = all.cut }

-- ---- of what was sent in another

pub outlasting : {R : Type 0} (stream : R → Stream) (old drawn : Context R) (added : List SocketEvent) (cookie : Cookie) (tie : ℕ) (mid new : View R)
    → DrawsNext stream next_u64 U64 old tie drawn → added ≡ drawn.events ++ OnConnected ∷ [] → Made queues_over drawn added cookie tie mid
    → TakesPossibleTurn stream AcknowledgesEcho mid new → TakesPossibleTurn stream (OutlastsAssociation stream cookie) (view_of old) new
outlasting stream old drawn added cookie tie mid new d one made t =
    let all = associated stream queues_over old drawn added cookie tie mid new d one made t in
    record { outcome = all.outcome; turn = all.turn; moves = all.moves }

pub outlasting_cut : {R : Type 0} (stream : R → Stream) (old drawn : Context R) (added : List SocketEvent) (cookie : Cookie) (tie : ℕ) (mid : View R) (es : List (Event (List ℕ)))
    → DrawsNext stream next_u64 U64 old tie drawn → added ≡ drawn.events ++ OnConnected ∷ [] → Made queues_over drawn added cookie tie mid
    → CutsSomeTurn AcknowledgesEcho mid es → CutsSomeTurn (OutlastsAssociation stream cookie) (view_of old) es
outlasting_cut stream old drawn added cookie tie mid es d one made t =
    let all = associated_cut stream queues_over old drawn added cookie tie mid es d one made t in
    record { outcome = all.outcome; turn = all.turn; cut = all.cut }

pub outlast_unmade : {R : Type 0} (stream : R → Stream) (old : View R) (es : List (Event (List ℕ))) (cookie : Cookie) → es ≡ old.events → CutsSomeTurn (OutlastsAssociation stream cookie) old es
outlast_unmade stream old es cookie same =
    let all = association_unmade stream old es cookie (queues_over old.endpoint cookie) (connected ∷ []) same in
    record { outcome = all.outcome; turn = all.turn; cut = all.cut }

-- ---- in place of another

abbrev queue_reset : {R : Type 0} → View R → View R
queue_reset view = record view { endpoint = record view.endpoint { queues = record view.endpoint.queues { queue = queue_restarted view.endpoint.queues.queue } } }

pub replaces : {R : Type 0} (stream : R → Stream) (old mid new : View R) (cookie : Cookie) → mid ≡ queue_reset old
    → TakesPossibleTurn stream (EstablishesAssociation stream cookie) mid new → TakesPossibleTurn stream (ReplacesAssociation stream cookie) old new
replaces {R = R} stream old mid new cookie is t =
    let here : TakesPossibleTurn stream (EstablishesAssociation stream cookie) (queue_reset old) new = subst (λ (v : View R). TakesPossibleTurn stream (EstablishesAssociation stream cookie) v new) is t in
    let m = here.moves in
    record {
      outcome = here.outcome;
      turn = here.turn;
      moves = record { endpoint = m.endpoint; events = m.events; words = m.words; pairs = m.pairs; drawn = m.drawn };
    }

pub replaces_cut : {R : Type 0} (stream : R → Stream) (old mid : View R) (es : List (Event (List ℕ))) (cookie : Cookie) → mid ≡ queue_reset old
    → CutsSomeTurn (EstablishesAssociation stream cookie) mid es → CutsSomeTurn (ReplacesAssociation stream cookie) old es
replaces_cut {R = R} stream old mid es cookie is t =
    let here : CutsSomeTurn (EstablishesAssociation stream cookie) (queue_reset old) es = subst (λ (v : View R). CutsSomeTurn (EstablishesAssociation stream cookie) v es) is t in
    record {
      outcome = here.outcome;
      turn = here.turn;
      cut = record { count = here.cut.count; added = here.cut.added };
    }

-- ---- a restart: in place of another, after its event

abbrev behind_it : Outcome → Outcome
behind_it o = behind [] (connection_restarted ∷ []) o

abbrev restarting : {R : Type 0} → View R → View R
restarting view = record view { events = view.events ++ connection_restarted ∷ [] }

pub restarts : {R : Type 0} (stream : R → Stream) (old mid new : View R) (cookie : Cookie) → mid ≡ restarting old
    → TakesPossibleTurn stream (ReplacesAssociation stream cookie) mid new → TakesPossibleTurn stream (RestartsAssociation stream cookie) old new
restarts {R = R} stream old mid new cookie is t =
    let here : TakesPossibleTurn stream (ReplacesAssociation stream cookie) (restarting old) new = subst (λ (v : View R). TakesPossibleTurn stream (ReplacesAssociation stream cookie) v new) is t in
    record {
      outcome = behind_it here.outcome;
      turn = (here.turn.0, here.turn.1, ap behind_it here.turn.2);
      moves = moves_behind stream old (restarting old) new [] (connection_restarted ∷ []) here.outcome
          (record { ports = refl; events = refl }) (record { words = sym (append-nil old.words); pairs = refl; drawn = refl }) here.moves;
    }

pub restarts_cut : {R : Type 0} (stream : R → Stream) (old mid : View R) (es : List (Event (List ℕ))) (cookie : Cookie) → mid ≡ restarting old
    → CutsSomeTurn (ReplacesAssociation stream cookie) mid es → CutsSomeTurn (RestartsAssociation stream cookie) old es
restarts_cut {R = R} stream old mid es cookie is t =
    let here : CutsSomeTurn (ReplacesAssociation stream cookie) (restarting old) es = subst (λ (v : View R). CutsSomeTurn (ReplacesAssociation stream cookie) v es) is t in
    record {
      outcome = behind_it here.outcome;
      turn = (here.turn.0, here.turn.1, ap behind_it here.turn.2);
      cut = cut_behind old (restarting old) [] (connection_restarted ∷ []) here.outcome es (record { ports = refl; events = refl }) here.cut;
    }

pub restart_unmade : {R : Type 0} (stream : R → Stream) (old : View R) (es : List (Event (List ℕ))) (cookie : Cookie) → es ≡ old.events → CutsSomeTurn (RestartsAssociation stream cookie) old es
restart_unmade stream old es cookie same =
    let all = association_unmade stream old es cookie (queues_begun old.endpoint cookie) (connection_restarted ∷ connected ∷ []) same in
    record { outcome = all.outcome; turn = all.turn; cut = all.cut }

-- A COOKIE ECHO comes, with data behind it and packets of data after it: the other is established, and acknowledges it.
use Rattle.std.proofs.Common.{◌≡◌, ◌≢◌, ◌⊎◌, ℕ, suc, Bool, true, false, List, [], ◌∷◌, ◌++◌, map, refl, sym, subst, ap, ◌∙◌, append_assoc}
use Rattle.std.proofs.lemmas.List.{map-append}
use Rattle.dcsctp_spec_lemmas.specs.types.declared.association.Held.{Held}
use Rattle.dcsctp_spec_lemmas.specs.types.declared.options.Options.{Options}
use Rattle.dcsctp_spec_lemmas.specs.types.Offer.{Offer, offer_of, negotiated_capabilities}
use Rattle.dcsctp_spec_lemmas.specs.types.Settings.{FitsOptions, ports_of}
use Rattle.dcsctp_spec_lemmas.specs.spec.Cookie.{Cookie}
use Rattle.dcsctp_spec_lemmas.specs.spec.CookieFits.{FitsPair}
use Rattle.dcsctp_spec_lemmas.specs.spec.Packet.{Content, Emission, emission_bytes}
use Rattle.dcsctp_spec_lemmas.specs.spec.association.HandshakeChanges.{new_held}
use Rattle.dcsctp_spec_lemmas.specs.spec.association.CookieEchoChanges.{held_by_cookie}
use Rattle.dcsctp_spec_lemmas.specs.spec.endpoint.Endpoint.{cookie_echoed, open_in, established}
use Rattle.dcsctp_spec_lemmas.specs.spec.endpoint.Event.{Event, sent, event_map, packets_of_events}
use Rattle.dcsctp_spec_lemmas.specs.spec.endpoint.FlushOutcomes.{draft_to}
use Rattle.dcsctp_spec_lemmas.specs.spec.endpoint.MessageOutcomes.{awaits_opening}
use Rattle.dcsctp_spec_lemmas.specs.spec.endpoint.CallTurns.{Transition, HandleInput, events_of}
use Rattle.dcsctp_spec_runs.specs.Sockets.{packets_shown}
use Rattle.dcsctp_spec_runs.proofs.LawLemmas.{negotiation_is_mutual}
use Rattle.dcsctp_theorem_sockets.proofs.HandshakeReads.{Wire}
use Rattle.dcsctp_theorem_sockets.proofs.HandshakeTurns.{method_checked}
use Rattle.dcsctp_theorem_progress.proofs.Views.{View, view_then}
use Rattle.dcsctp_theorem_progress.proofs.Carried.{AreCarried, all_both}
use Rattle.dcsctp_theorem_progress.proofs.Flows.{Flows, AreCarriedFor, AllCarryTo}
use Rattle.dcsctp_theorem_progress.proofs.Walks.{StayAlong}
use Rattle.dcsctp_theorem_progress.proofs.Establishing.{AcknowledgesAlong, ack_then, echo_then}
use Rattle.dcsctp_theorem_progress.proofs.Acknowledged.{opened_along}
use Rattle.dcsctp_theorem_progress.proofs.HandedAll.{HoldsAlong}

-- ---- what is shown

mapped : (f : Emission → List ℕ) (events : List (Event Emission)) → packets_of_events (map (event_map f) events) ≡ map f (packets_of_events events)
mapped f [] = refl
mapped f (sent emission ∷ events) = ap (λ (xs : List (List ℕ)). f emission ∷ xs) (mapped f events)
mapped f (event ∷ events) = mapped f events

abbrev pub bytes_of : Options → List Emission → List (List ℕ)
bytes_of options packets = map (emission_bytes (ports_of options)) packets

pub shown_is : (options : Options) (turns : List Transition) → packets_shown options turns ≡ bytes_of options (packets_of_events (events_of turns))
shown_is options turns = mapped (emission_bytes (ports_of options)) (events_of turns)

-- what was shown after something else, and then more
pub shown_more : (before : List (List ℕ)) (options : Options) (now : View) (turns : List Transition) (packets : List Emission) → now.endpoint.options ≡ options → now.shown ≡ before ++ bytes_of options packets
    → (view_then now turns).shown ≡ before ++ bytes_of options (packets ++ packets_of_events (events_of turns))
shown_more before options now turns packets same is =
    let f : Emission → List ℕ = emission_bytes (ports_of options) in
    let ps : List Emission = packets_of_events (events_of turns) in
    ap (λ (o : Options). now.shown ++ packets_shown o turns) same ∙ ap (λ (xs : List (List ℕ)). now.shown ++ xs) (shown_is options turns)
    ∙ ap (λ (xs : List (List ℕ)). xs ++ map f ps) is ∙ append_assoc before (map f packets) (map f ps) ∙ ap (λ (xs : List (List ℕ)). before ++ xs) (sym (map-append f packets ps))

-- ---- both ends

-- what the one that echoes the cookie has, and the other
abbrev pub echoing_end : Options → Options → Cookie → Held
echoing_end a b cookie = new_held cookie.addressee cookie.maker (negotiated_capabilities (offer_of a) (offer_of b))

pub same_interleaving : (a b : Options) (cookie : Cookie) → cookie.offer ≡ offer_of a
    → (echoing_end a b cookie).capabilities.message_interleaving ≡ (held_by_cookie b cookie).capabilities.message_interleaving
same_interleaving a b cookie offered =
    (negotiation_is_mutual (offer_of a) (offer_of b)).message_interleaving ∙ ap (λ (o : Offer). (negotiated_capabilities (offer_of b) o).message_interleaving) (sym offered)

pub same_reliability : (a b : Options) (cookie : Cookie) → cookie.offer ≡ offer_of a
    → (echoing_end a b cookie).capabilities.partial_reliability ≡ (held_by_cookie b cookie).capabilities.partial_reliability
same_reliability a b cookie offered =
    (negotiation_is_mutual (offer_of a) (offer_of b)).partial_reliability ∙ ap (λ (o : Offer). (negotiated_capabilities (offer_of b) o).partial_reliability) (sym offered)

pub carried_as : (m n k l : Bool) (contents : List Content) → m ≡ k → n ≡ l → AreCarried m n contents → AreCarried k l contents
carried_as m n k l contents same alike each = subst (λ (b : Bool). AreCarried k b contents) alike (subst (λ (b : Bool). AreCarried b n contents) same each)

-- It awaits a COOKIE ACK from this peer, and its COOKIE ECHO is under way, and after it packets of data.
pub record EchoUnderOf (v : View) (a : Options) (held : Held) (cookie : Cookie) (bytes : List ℕ) (before : List (List ℕ)) : Type 0 where
  pub core : v.endpoint.core ≡ cookie_echoed cookie.addressee held bytes
  pub asks : awaits_opening v.endpoint v.endpoint.core ≡ false
  pub flows : Flows held v.endpoint
  pub more : List Content
  pub carried : AreCarriedFor held more
  pub rest : List Emission
  pub others : AllCarryTo held rest
  pub shown : v.shown ≡ before ++ bytes_of a (echo_then cookie bytes more ∷ rest)

abbrev pub EchoUnder : View → Options → Cookie → List ℕ → List (List ℕ) → Type 0
EchoUnder v b cookie bytes before = EchoUnderOf v v.endpoint.options (echoing_end v.endpoint.options b cookie) cookie bytes before

-- The COOKIE ECHO has come: it is established, and its COOKIE ACK is under way, and after it packets of data. OnConnected
-- is told so often after that.
pub record AckUnderBy (tells : ℕ → ℕ) (w : View) (cookie : Cookie) (now : View) : Type 0 where
  pub core : now.endpoint.core ≡ open_in established cookie.maker (held_by_cookie w.endpoint.options cookie)
  pub options : now.endpoint.options ≡ w.endpoint.options
  pub flows : Flows (held_by_cookie w.endpoint.options cookie) now.endpoint
  pub told : now.told ≡ tells w.told
  pub more : List Content
  pub carried : AreCarriedFor (held_by_cookie w.endpoint.options cookie) more
  pub rest : List Emission
  pub others : AllCarryTo (held_by_cookie w.endpoint.options cookie) rest
  pub shown : now.shown ≡ w.shown ++ bytes_of w.endpoint.options (ack_then (held_by_cookie w.endpoint.options cookie) cookie.addressee.tag more ∷ rest)

-- once more, where there was none
abbrev pub AckUnder : View → Cookie → View → Type 0
AckUnder w cookie now = AckUnderBy suc w cookie now

-- Whatever is behind it, this end takes the COOKIE ECHO.
abbrev pub TakesEcho : (ℕ → ℕ) → View → Options → Cookie → List ℕ → Type 0
TakesEcho tells w a cookie bytes =
    (more : List Content) (turns : List Transition) → AreCarriedFor (held_by_cookie w.endpoint.options cookie) more
    → HandleInput w.endpoint (emission_bytes (ports_of a) (echo_then cookie bytes more)) turns → AcknowledgesAlong tells w.endpoint cookie turns

-- ---- packet by packet

-- With these packets to come it is still to come, or has come and only data comes.
pub data EchoComes (tells : ℕ → ℕ) (a : Options) (w : View) (cookie : Cookie) (bytes : List ℕ) (more : List Content) (rest : List Emission) (xs : List (List ℕ)) (now : View) : Type 0 where
  to_come : xs ≡ bytes_of a (echo_then cookie bytes more ∷ rest) → now ≡ w → EchoComes tells a w cookie bytes more rest xs now
  has_come : (left : List Emission) → AllCarryTo (echoing_end a w.endpoint.options cookie) left → xs ≡ bytes_of a left → AckUnderBy tells w cookie now → EchoComes tells a w cookie bytes more rest xs now

head_is : (x y : List ℕ) (xs ys : List (List ℕ)) → x ∷ xs ≡ y ∷ ys → x ≡ y
head_is x y xs ys same = cc

tail_is : (x y : List ℕ) (xs ys : List (List ℕ)) → x ∷ xs ≡ y ∷ ys → xs ≡ ys
tail_is x y xs ys same = cc

-- what both sides are for it
pub record EchoFits (a : Options) (w : View) (cookie : Cookie) : Type 0 where
  pub offered : cookie.offer ≡ offer_of a
  pub fits : FitsOptions a
  pub maker : FitsPair cookie.maker
  pub port : a.remote_port ≡ w.endpoint.options.local_port

first_comes : (tells : ℕ → ℕ) (a : Options) (w : View) (cookie : Cookie) (bytes : List ℕ) (more : List Content) (rest : List Emission) (xs : List (List ℕ)) (turns : List Transition) → EchoFits a w cookie → TakesEcho tells w a cookie bytes
    → AreCarriedFor (echoing_end a w.endpoint.options cookie) more → AllCarryTo (echoing_end a w.endpoint.options cookie) rest → xs ≡ bytes_of a rest
    → HandleInput w.endpoint (emission_bytes (ports_of a) (echo_then cookie bytes more)) turns → EchoComes tells a w cookie bytes more rest xs (view_then w turns)
first_comes tells a w cookie bytes more rest xs turns fits takes carried others is input =
    let b : Options = w.endpoint.options in
    let h : AcknowledgesAlong tells w.endpoint cookie turns =
    takes more turns (carried_as _ _ _ _ more (same_interleaving a b cookie fits.offered) (same_reliability a b cookie fits.offered) carried) input in
    has_come rest others is
    (record {
      core = h.core;
      options = h.options;
      flows = h.flows;
      told = h.told w.told;
      more = h.more;
      carried = h.carried;
      rest = h.rest;
      others = h.others;
      shown = ap (λ (ps : List (List ℕ)). w.shown ++ ps) (shown_is b turns ∙ ap (bytes_of b) h.packets);
    })

next_comes : Wire → (tells : ℕ → ℕ) (a : Options) (w : View) (cookie : Cookie) (bytes : List ℕ) (more : List Content) (rest : List Emission) (xs : List (List ℕ)) (now : View) (emission : Emission) (left : List Emission) (turns : List Transition)
    → EchoFits a w cookie → AllCarryTo (echoing_end a w.endpoint.options cookie) (emission ∷ left) → xs ≡ bytes_of a left → AckUnderBy tells w cookie now
    → HandleInput now.endpoint (emission_bytes (ports_of a) emission) turns → EchoComes tells a w cookie bytes more rest xs (view_then now turns)
next_comes wire tells a w cookie bytes more rest xs now emission left turns fits each is h input =
    let b : Options = w.endpoint.options in
    let held : Held = held_by_cookie b cookie in
    let along : StayAlong held now.endpoint turns =
    opened_along wire now.endpoint a cookie.maker held _ _ _ emission turns h.core h.flows fits.fits fits.maker (fits.port ∙ ap (λ (o : Options). o.local_port) (sym h.options))
    (same_interleaving a b cookie fits.offered) (same_reliability a b cookie fits.offered)
    (subst (λ (o : Options). ((draft_to (echoing_end a b cookie)).with_checksum ≡ true) ⊎ (o.zero_checksum_alternate_error_detection_method.0 ≢ 0)) (sym h.options)
    (method_checked a.zero_checksum_alternate_error_detection_method.0 b.zero_checksum_alternate_error_detection_method.0)) each.0 input in
    has_come left each.1 is
    (record {
      core = along.core ∙ h.core;
      options = along.options ∙ h.options;
      flows = along.flows;
      told = along.tells.told now.told ∙ h.told;
      more = h.more;
      carried = h.carried;
      rest = h.rest ++ packets_of_events (events_of turns);
      others = all_both _ h.rest (packets_of_events (events_of turns)) h.others along.tells.sent;
      shown = shown_more w.shown b now turns (ack_then held cookie.addressee.tag h.more ∷ h.rest) h.options h.shown;
    })

echo_step : Wire → (tells : ℕ → ℕ) (a : Options) (w : View) (cookie : Cookie) (bytes : List ℕ) (more : List Content) (rest : List Emission) → EchoFits a w cookie → TakesEcho tells w a cookie bytes
    → AreCarriedFor (echoing_end a w.endpoint.options cookie) more → AllCarryTo (echoing_end a w.endpoint.options cookie) rest
    → (x : List ℕ) (xs : List (List ℕ)) (now : View) (turns : List Transition) → EchoComes tells a w cookie bytes more rest (x ∷ xs) now → HandleInput now.endpoint x turns → EchoComes tells a w cookie bytes more rest xs (view_then now turns)
echo_step wire tells a w cookie bytes more rest fits takes carried others x xs now turns (to_come is same) input =
    subst (λ (y : View). EchoComes tells a w cookie bytes more rest xs (view_then y turns)) (sym same)
    (first_comes tells a w cookie bytes more rest xs turns fits takes carried others (tail_is _ _ _ _ is)
    (subst (λ (y : List ℕ). HandleInput w.endpoint y turns) (head_is _ _ _ _ is) (subst (λ (y : View). HandleInput y.endpoint x turns) same input)))
echo_step wire tells a w cookie bytes more rest fits takes carried others x xs now turns (has_come [] each is h) input = absurd (cc)
echo_step wire tells a w cookie bytes more rest fits takes carried others x xs now turns (has_come (emission ∷ left) each is h) input =
    next_comes wire tells a w cookie bytes more rest xs now emission left turns fits each (tail_is _ _ _ _ is) h (subst (λ (y : List ℕ). HandleInput now.endpoint y turns) (head_is _ _ _ _ is) input)

echo_keeps : (tells : ℕ → ℕ) (a options : Options) (w : View) (cookie : Cookie) (bytes : List ℕ) (more : List Content) (rest : List Emission) (xs : List (List ℕ)) (now : View) → w.endpoint.options ≡ options
    → EchoComes tells a w cookie bytes more rest xs now → now.endpoint.options ≡ options
echo_keeps tells a options w cookie bytes more rest xs now keep (to_come is same) = ap (λ (y : View). y.endpoint.options) same ∙ keep
echo_keeps tells a options w cookie bytes more rest xs now keep (has_come left each is h) = h.options ∙ keep

pub echo_along : Wire → (tells : ℕ → ℕ) (a options : Options) (w : View) (cookie : Cookie) (bytes : List ℕ) (more : List Content) (rest : List Emission) → w.endpoint.options ≡ options → EchoFits a w cookie → TakesEcho tells w a cookie bytes
    → AreCarriedFor (echoing_end a w.endpoint.options cookie) more → AllCarryTo (echoing_end a w.endpoint.options cookie) rest → HoldsAlong options (EchoComes tells a w cookie bytes more rest)
echo_along wire tells a options w cookie bytes more rest keep fits takes carried others =
    record { keeps = λ xs now h. echo_keeps tells a options w cookie bytes more rest xs now keep h; step = echo_step wire tells a w cookie bytes more rest fits takes carried others }

-- In the end it has come.
pub echo_has_come : (tells : ℕ → ℕ) (a : Options) (w : View) (cookie : Cookie) (bytes : List ℕ) (more : List Content) (rest : List Emission) (now : View) → EchoComes tells a w cookie bytes more rest [] now → AckUnderBy tells w cookie now
echo_has_come tells a w cookie bytes more rest now (to_come is same) = absurd (cc)
echo_has_come tells a w cookie bytes more rest now (has_come left each is h) = h

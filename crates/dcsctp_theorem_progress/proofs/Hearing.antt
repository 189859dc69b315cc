-- A side that is Established, or awaits a COOKIE ACK, and is handed a packet of an Established one: COOKIE ACK and data, or data.
use Rattle.std.proofs.Common.{◌≡◌, ◌≢◌, ◌⊎◌, ℕ, suc, true, false, List, [], ◌∷◌, ◌++◌, refl, sym, subst, ap, ◌∙◌, append_assoc}
use Rattle.std.proofs.lemmas.List.{append-nil, map-append}
use Rattle.std.specs.List.{AllByRecursion}
use Rattle.std.specs.Prelude.{◌==◌}
use Rattle.dcsctp_spec_lemmas.specs.types.declared.association.Held.{Held}
use Rattle.dcsctp_spec_lemmas.specs.types.declared.association.Pair.{Pair}
use Rattle.dcsctp_spec_lemmas.specs.types.declared.options.Options.{Options}
use Rattle.dcsctp_spec_lemmas.specs.types.Settings.{FitsOptions, ports_of}
use Rattle.dcsctp_spec_lemmas.specs.spec.CookieFits.{FitsPair}
use Rattle.dcsctp_spec_lemmas.specs.spec.Packet.{Content, Emission, emission_bytes}
use Rattle.dcsctp_spec_lemmas.specs.spec.endpoint.CallTurns.{Transition, HandleInput, events_of}
use Rattle.dcsctp_spec_lemmas.specs.spec.endpoint.Endpoint.{Core, cookie_echoed, open_in, established}
use Rattle.dcsctp_spec_lemmas.specs.spec.endpoint.Event.{packets_of_events}
use Rattle.dcsctp_spec_lemmas.specs.spec.endpoint.MessageOutcomes.{awaits_opening}
use Rattle.dcsctp_theorem_sockets.proofs.HandshakeReads.{Wire}
use Rattle.dcsctp_theorem_progress.proofs.Acknowledged.{ConnectsAlong, connects_along, peer_along}
use Rattle.dcsctp_theorem_progress.proofs.Chain.{no_shutdown}
use Rattle.dcsctp_theorem_progress.proofs.Colliding.{ignores_along}
use Rattle.dcsctp_theorem_progress.proofs.Constant.{KeepsTrying, trying_then}
use Rattle.dcsctp_theorem_progress.proofs.EchoComes.{bytes_of, carried_as, shown_is}
use Rattle.dcsctp_theorem_progress.proofs.Establishing.{ack_then}
use Rattle.dcsctp_theorem_progress.proofs.Flows.{HasPeer, is_open, is_echoing, peer_stays, Flows, AreCarriedFor, AllCarryTo}
use Rattle.dcsctp_theorem_progress.proofs.Carried.{CarriesTo, all_both}
use Rattle.dcsctp_theorem_progress.proofs.Views.{View, view_then}
use Rattle.dcsctp_theorem_progress.proofs.Walks.{StayAlong}

-- ---- what comes

-- A packet of a side with this association: COOKIE ACK, and data behind it; or data.
pub data Speaks (theirs : Held) (emission : Emission) : Type 0 where
  acknowledges : (more : List Content) → AreCarriedFor theirs more → emission ≡ ack_then theirs theirs.peer.tag more → Speaks theirs emission
  carries : CarriesTo theirs emission → Speaks theirs emission

abbrev pub AllSpeak : Held → List Emission → Type 0
AllSpeak theirs packets = AllByRecursion (Speaks theirs) packets

pub all_speak : (theirs : Held) (packets : List Emission) → AllCarryTo theirs packets → AllSpeak theirs packets
all_speak theirs [] each = tt
all_speak theirs (emission ∷ packets) each = (carries each.0, all_speak theirs packets each.1)

-- What this side is, by what the other has and sends: it takes each of its packets.
pub record Hears (b : Options) (v : View) (my : Pair) (held theirs : Held) : Type 0 where
  pub has : HasPeer my held v.endpoint.core
  pub asks : awaits_opening v.endpoint v.endpoint.core ≡ false
  pub flows : Flows held v.endpoint
  pub fits : FitsOptions b
  pub own : FitsPair my
  pub peer : theirs.peer ≡ my
  pub port : b.remote_port ≡ v.endpoint.options.local_port
  pub interleaves : theirs.capabilities.message_interleaving ≡ held.capabilities.message_interleaving
  pub abandons : theirs.capabilities.partial_reliability ≡ held.capabilities.partial_reliability
  pub checked : ((theirs.capabilities.zero_checksum_method.0 == 0) ≡ true) ⊎ (v.endpoint.options.zero_checksum_alternate_error_detection_method.0 ≢ 0)

-- ---- what becomes of it

pub record IsAsBefore (v now : View) : Type 0 where
  pub core : now.endpoint.core ≡ v.endpoint.core
  pub told : now.told ≡ v.told
  pub asked : now.endpoint.shutdown_asked ≡ v.endpoint.shutdown_asked
  pub trying : KeepsTrying v.endpoint now.endpoint

pub record HasOpened (my : Pair) (held : Held) (v now : View) : Type 0 where
  pub bytes : List ℕ
  pub awaited : v.endpoint.core ≡ cookie_echoed my held bytes
  pub core : now.endpoint.core ≡ open_in established my held
  pub told : now.told ≡ suc v.told

-- It is as it was, or the COOKIE ACK has come.
pub data Becomes (my : Pair) (held : Held) (v now : View) : Type 0 where
  as_before : IsAsBefore v now → Becomes my held v now
  has_opened : HasOpened my held v now → Becomes my held v now

pub record GoesOn (my : Pair) (held : Held) (v now : View) : Type 0 where
  pub becomes : Becomes my held v now
  pub options : now.endpoint.options ≡ v.endpoint.options
  pub flows : Flows held now.endpoint

-- and has shown these packets since
pub record SendsOn (my : Pair) (held : Held) (v now : View) : Type 0 where
  pub goes : GoesOn my held v now
  pub sent : List Emission
  pub carried : AllCarryTo held sent
  pub shown : now.shown ≡ v.shown ++ bytes_of v.endpoint.options sent

never_both : (my : Pair) (held : Held) (bytes : List ℕ) (core : Core) → core ≡ open_in established my held → core ≡ cookie_echoed my held bytes → ⊥
never_both my held bytes core a b = cc

becomes_then : (my : Pair) (held : Held) (u v w : View) → Becomes my held u v → Becomes my held v w → Becomes my held u w
becomes_then my held u v w (as_before x) (as_before y) =
    as_before (record { core = y.core ∙ x.core; told = y.told ∙ x.told; asked = y.asked ∙ x.asked; trying = trying_then u.endpoint v.endpoint w.endpoint x.trying y.trying })
becomes_then my held u v w (as_before x) (has_opened y) =
    has_opened (record { bytes = y.bytes; awaited = sym x.core ∙ y.awaited; core = y.core; told = y.told ∙ ap suc x.told })
becomes_then my held u v w (has_opened x) (as_before y) =
    has_opened (record { bytes = x.bytes; awaited = x.awaited; core = y.core ∙ x.core; told = y.told ∙ x.told })
becomes_then my held u v w (has_opened x) (has_opened y) = absurd (never_both my held y.bytes v.endpoint.core x.core y.awaited)

pub goes_then : (my : Pair) (held : Held) (u v w : View) → GoesOn my held u v → GoesOn my held v w → GoesOn my held u w
goes_then my held u v w x y = record { becomes = becomes_then my held u v w x.becomes y.becomes; options = y.options ∙ x.options; flows = y.flows }

pub goes_nowhere : (my : Pair) (held : Held) (v : View) → Flows held v.endpoint → GoesOn my held v v
goes_nowhere my held v flows =
    record {
      becomes = as_before (record { core = refl; told = refl; asked = refl; trying = record { moment = refl; t1 = refl; errors = λ limit none. none } });
      options = refl;
      flows = flows;
    }

pub sends_nothing : (my : Pair) (held : Held) (v : View) → Flows held v.endpoint → SendsOn my held v v
sends_nothing my held v flows = record { goes = goes_nowhere my held v flows; sent = []; carried = tt; shown = sym (append-nil v.shown) }

more_shown : (a : Options) (xs : List (List ℕ)) (now then : List (List ℕ)) (first second : List Emission) (o : Options) → o ≡ a → now ≡ xs ++ bytes_of a first → then ≡ now ++ bytes_of o second
    → then ≡ xs ++ bytes_of a (first ++ second)
more_shown a xs now then first second o same is more =
    more ∙ ap (λ (x : Options). now ++ bytes_of x second) same ∙ ap (λ (ys : List (List ℕ)). ys ++ bytes_of a second) is
    ∙ append_assoc xs (bytes_of a first) (bytes_of a second) ∙ ap (λ (ys : List (List ℕ)). xs ++ ys) (sym (map-append (emission_bytes (ports_of a)) first second))

pub sends_then : (my : Pair) (held : Held) (u v w : View) → SendsOn my held u v → SendsOn my held v w → SendsOn my held u w
sends_then my held u v w x y =
    record {
      goes = goes_then my held u v w x.goes y.goes;
      sent = x.sent ++ y.sent;
      carried = all_both _ x.sent y.sent x.carried y.carried;
      shown = more_shown u.endpoint.options u.shown v.shown w.shown x.sent y.sent v.endpoint.options x.goes.options x.shown y.shown;
    }

-- ---- it takes what comes then, too

still_asks : (my : Pair) (held : Held) (v now : View) → HasPeer my held v.endpoint.core → now.endpoint.options ≡ v.endpoint.options → IsAsBefore v now → awaits_opening v.endpoint v.endpoint.core ≡ false
    → awaits_opening now.endpoint now.endpoint.core ≡ false
still_asks my held v now (is_open is) same h none = ap (awaits_opening now.endpoint) (h.core ∙ is)
still_asks my held v now (is_echoing bytes is) same h none =
    ap (awaits_opening now.endpoint) (h.core ∙ is)
    ∙ no_shutdown v.endpoint.options now.endpoint.options v.endpoint.shutdown_asked now.endpoint.shutdown_asked same h.asked (sym (ap (awaits_opening v.endpoint) is) ∙ none)

has_then : (my : Pair) (held : Held) (v now : View) → HasPeer my held v.endpoint.core → Becomes my held v now → HasPeer my held now.endpoint.core
has_then my held v now has (as_before h) = peer_stays my held v.endpoint.core now.endpoint.core h.core has
has_then my held v now has (has_opened h) = is_open h.core

asks_then : (my : Pair) (held : Held) (v now : View) → HasPeer my held v.endpoint.core → now.endpoint.options ≡ v.endpoint.options → Becomes my held v now → awaits_opening v.endpoint v.endpoint.core ≡ false
    → awaits_opening now.endpoint now.endpoint.core ≡ false
asks_then my held v now has same (as_before h) none = still_asks my held v now has same h none
asks_then my held v now has same (has_opened h) none = ap (awaits_opening now.endpoint) h.core

pub hears_then : (b b' : Options) (v now : View) (my : Pair) (held theirs : Held) → b' ≡ b → GoesOn my held v now → Hears b v my held theirs → Hears b' now my held theirs
hears_then b b' v now my held theirs same goes h =
    subst (λ (o : Options). Hears o now my held theirs) (sym same)
    (record {
      has = has_then my held v now h.has goes.becomes;
      asks = asks_then my held v now h.has goes.options goes.becomes h.asks;
      flows = goes.flows;
      fits = h.fits;
      own = h.own;
      peer = h.peer;
      port = h.port ∙ ap (λ (o : Options). o.local_port) (sym goes.options);
      interleaves = h.interleaves;
      abandons = h.abandons;
      checked = subst (λ (o : Options). ((theirs.capabilities.zero_checksum_method.0 == 0) ≡ true) ⊎ (o.zero_checksum_alternate_error_detection_method.0 ≢ 0)) (sym goes.options) h.checked;
    })

-- ---- one packet

stays_on : (my : Pair) (held : Held) (v : View) (turns : List Transition) → StayAlong held v.endpoint turns → SendsOn my held v (view_then v turns)
stays_on my held v turns along =
    record {
      goes = record {
        becomes = as_before (record { core = along.core; told = along.tells.told v.told; asked = along.asked; trying = along.trying });
        options = along.options;
        flows = along.flows;
      };
      sent = packets_of_events (events_of turns);
      carried = along.tells.sent;
      shown = ap (λ (ps : List (List ℕ)). v.shown ++ ps) (shown_is v.endpoint.options turns);
    }

opens_on : (my : Pair) (held : Held) (bytes : List ℕ) (v : View) (turns : List Transition) → v.endpoint.core ≡ cookie_echoed my held bytes → ConnectsAlong v.endpoint my held turns → SendsOn my held v (view_then v turns)
opens_on my held bytes v turns is along =
    record {
      goes = record {
        becomes = has_opened (record { bytes = bytes; awaited = is; core = along.core; told = along.told v.told });
        options = along.options;
        flows = along.flows;
      };
      sent = packets_of_events (events_of turns);
      carried = along.sent;
      shown = ap (λ (ps : List (List ℕ)). v.shown ++ ps) (shown_is v.endpoint.options turns);
    }

ack_heard : Wire → (b : Options) (v : View) (my : Pair) (held theirs : Held) (more : List Content) (turns : List Transition) → Hears b v my held theirs → HasPeer my held v.endpoint.core → AreCarriedFor theirs more
    → HandleInput v.endpoint (emission_bytes (ports_of b) (ack_then theirs my.tag more)) turns → SendsOn my held v (view_then v turns)
ack_heard wire b v my held theirs more turns h (is_open is) carried input =
    stays_on my held v turns
    (ignores_along wire v.endpoint b my held _ more turns is h.flows h.fits h.own h.port h.checked (carried_as _ _ _ _ more h.interleaves h.abandons carried) input)
ack_heard wire b v my held theirs more turns h (is_echoing bytes is) carried input =
    opens_on my held bytes v turns is
    (connects_along wire v.endpoint b my held bytes _ more turns is h.asks h.flows h.fits h.own h.port h.checked (carried_as _ _ _ _ more h.interleaves h.abandons carried) input)

pub heard : Wire → (b : Options) (v : View) (my : Pair) (held theirs : Held) (emission : Emission) (turns : List Transition) → Hears b v my held theirs → Speaks theirs emission
    → HandleInput v.endpoint (emission_bytes (ports_of b) emission) turns → SendsOn my held v (view_then v turns)
heard wire b v my held theirs emission turns h (acknowledges more carried is) input =
    ack_heard wire b v my held theirs more turns h h.has carried
    (subst (λ (p : Pair). HandleInput v.endpoint (emission_bytes (ports_of b) (ack_then theirs p.tag more)) turns) h.peer
    (subst (λ (x : Emission). HandleInput v.endpoint (emission_bytes (ports_of b) x) turns) is input))
heard wire b v my held theirs emission turns h (carries one) input =
    stays_on my held v turns
    (peer_along wire v.endpoint b my held theirs.capabilities.message_interleaving theirs.capabilities.partial_reliability (theirs.capabilities.zero_checksum_method.0 == 0) emission turns
    h.has h.asks h.flows h.fits h.own h.port h.interleaves h.abandons h.checked
    (record { checked = one.checked; header = one.header ∙ ap (λ (p : Pair). p.tag) h.peer; contents = one.contents }) input)

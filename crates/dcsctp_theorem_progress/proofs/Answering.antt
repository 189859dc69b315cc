-- A side that awaits a COOKIE ACK, and the other that answers the COOKIE ECHO, maybe with data behind each: each takes what the other
-- sends then.
use Rattle.std.specs.Prelude.{◌==◌}
use Rattle.std.proofs.Common.{◌≡◌, ◌≢◌, ◌⊎◌, ℕ, true, Some, List, [], ◌∷◌, ◌++◌, refl, sym, subst, ap, ◌∙◌}
use Rattle.dcsctp_spec_lemmas.specs.types.declared.association.Held.{Held}
use Rattle.dcsctp_spec_lemmas.specs.types.declared.options.Options.{Options}
use Rattle.dcsctp_spec_lemmas.specs.types.declared.schedule.Side.{Side}
use Rattle.dcsctp_spec_lemmas.specs.types.Settings.{ports_of}
use Rattle.dcsctp_spec_lemmas.specs.spec.Cookie.{Cookie}
use Rattle.dcsctp_spec_lemmas.specs.spec.Packet.{Content, Emission, emission_bytes}
use Rattle.dcsctp_spec_lemmas.specs.spec.association.CookieEchoChanges.{held_by_cookie}
use Rattle.dcsctp_spec_lemmas.specs.spec.endpoint.CallTurns.{Transition, HandleInput}
use Rattle.dcsctp_spec_lemmas.specs.spec.endpoint.Endpoint.{Endpoint, open_in, established, held_by_core}
use Rattle.dcsctp_spec_lemmas.specs.spec.endpoint.MessageOutcomes.{awaits_opening}
use Rattle.dcsctp_spec_runs.specs.Sockets.{Both}
use Rattle.dcsctp_theorem_progress.specs.DataEchoes.{FlowsAsAgreed, EchoesWithData}
use Rattle.dcsctp_theorem_progress.specs.Retries.{RetriesT1}
use Rattle.dcsctp_theorem_sockets.proofs.Bytes.{ReadPairs, read_pairs_fit}
use Rattle.dcsctp_theorem_sockets.proofs.HandshakeTurns.{method_checked}
use Rattle.dcsctp_theorem_progress.proofs.AckComes.{ack_checked}
use Rattle.dcsctp_theorem_progress.proofs.EchoComes.{bytes_of, echoing_end, same_interleaving, same_reliability, shown_is, TakesEcho}
use Rattle.dcsctp_theorem_progress.proofs.Establishing.{AcknowledgesAlong, ack_then, echo_then}
use Rattle.dcsctp_theorem_progress.proofs.Facts.{Fit}
use Rattle.dcsctp_theorem_progress.proofs.Flows.{is_open, is_echoing, Flows, AreCarriedFor}
use Rattle.dcsctp_theorem_progress.proofs.Hearing.{acknowledges, AllSpeak, all_speak, Hears}
use Rattle.dcsctp_theorem_progress.proofs.Views.{KeepOf, View, view_then}

-- ---- both sides

-- This side awaits a COOKIE ACK, with that many restarts left.
pub record Awaiting (side : Side) (options : Both Options) (v w : View) (cookie : Cookie) (bytes : List ℕ) (more : ℕ) : Type 0 where
  pub keep : KeepOf side options v w
  pub fit : Fit v.endpoint.options w.endpoint.options
  pub awaits : EchoesWithData v.endpoint w.endpoint cookie bytes
  pub t1 : RetriesT1 v.endpoint more

-- The other is Established by the cookie, and has just sent these: its COOKIE ACK, and data.
pub record Answered (w : View) (cookie : Cookie) (n : ℕ) (now : View) : Type 0 where
  pub core : now.endpoint.core ≡ open_in established cookie.maker (held_by_cookie w.endpoint.options cookie)
  pub options : now.endpoint.options ≡ w.endpoint.options
  pub flows : Flows (held_by_cookie w.endpoint.options cookie) now.endpoint
  pub told : now.told ≡ n
  pub sent : List Emission
  pub each : AllSpeak (held_by_cookie w.endpoint.options cookie) sent
  pub shown : now.shown ≡ w.shown ++ bytes_of w.endpoint.options sent

-- Whatever is behind a COOKIE ECHO, it answers so, and has told OnConnected that often then.
abbrev pub Answering : View → Options → Cookie → List ℕ → ℕ → Type 0
Answering w a cookie bytes n =
    (more : List Content) (turns : List Transition) → AreCarriedFor (held_by_cookie w.endpoint.options cookie) more
    → HandleInput w.endpoint (emission_bytes (ports_of a) (echo_then cookie bytes more)) turns → Answered w cookie n (view_then w turns)

-- what is echoed, and what was shown before
pub record EchoSent : Type 0 where
  pub cookie : Cookie
  pub bytes : List ℕ
  pub before : List (List ℕ)

-- A COOKIE ECHO is under way, and nothing else.
pub record EchoAloneOf (v : View) (a : Options) (held : Held) (cookie : Cookie) (bytes : List ℕ) (before : List (List ℕ)) : Type 0 where
  pub more : List Content
  pub carried : AreCarriedFor held more
  pub shown : v.shown ≡ before ++ emission_bytes (ports_of a) (echo_then cookie bytes more) ∷ []

abbrev pub EchoAlone : View → Options → Cookie → List ℕ → List (List ℕ) → Type 0
EchoAlone v b cookie bytes before = EchoAloneOf v v.endpoint.options (echoing_end v.endpoint.options b cookie) cookie bytes before

-- So does one that takes it.
pub answering : (tells : ℕ → ℕ) (w : View) (a : Options) (cookie : Cookie) (bytes : List ℕ) → TakesEcho tells w a cookie bytes → Answering w a cookie bytes (tells w.told)
answering tells w a cookie bytes takes more turns carried input =
    let b : Options = w.endpoint.options in
    let h : AcknowledgesAlong tells w.endpoint cookie turns = takes more turns carried input in
    record {
      core = h.core;
      options = h.options;
      flows = h.flows;
      told = h.told w.told;
      sent = ack_then (held_by_cookie b cookie) cookie.addressee.tag h.more ∷ h.rest;
      each = (acknowledges h.more h.carried refl, all_speak (held_by_cookie b cookie) h.rest h.others);
      shown = ap (λ (ps : List (List ℕ)). w.shown ++ ps) (shown_is b turns ∙ ap (bytes_of b) h.packets);
    }

-- ---- what each takes

pub flows_of : (e : Endpoint) (held : Held) → held_by_core e.core ≡ Some held → FlowsAsAgreed e held.capabilities → Flows held e
flows_of e held peer h = record { kind = record { peer = peer; transfer = h.transfer; known = h.known; interleaves = h.interleaves; abandons = h.abandons }; unpaused = h.unpaused }

pub agreed_of : (e : Endpoint) (held : Held) → Flows held e → FlowsAsAgreed e held.capabilities
agreed_of e held f = record { transfer = f.kind.transfer; known = f.kind.known; interleaves = f.kind.interleaves; abandons = f.kind.abandons; unpaused = f.unpaused }

pub hears_mine : (side : Side) (options : Both Options) (v w now : View) (cookie : Cookie) (bytes : List ℕ) (more n : ℕ) → Awaiting side options v w cookie bytes more → Answered w cookie n now
    → Hears now.endpoint.options v cookie.addressee (echoing_end v.endpoint.options w.endpoint.options cookie) (held_by_cookie w.endpoint.options cookie)
hears_mine side options v w now cookie bytes more n g h =
    let a : Options = v.endpoint.options in
    let b : Options = w.endpoint.options in
    let read : ReadPairs cookie = read_pairs_fit bytes cookie g.awaits.fits.cookie_in_bytes g.awaits.reads in
    subst (λ (o : Options). Hears o v cookie.addressee (echoing_end a b cookie) (held_by_cookie b cookie)) (sym h.options)
    (record {
      has = is_echoing bytes g.awaits.core;
      asks = g.awaits.asks;
      flows = flows_of v.endpoint (echoing_end a b cookie) (ap held_by_core g.awaits.core) g.awaits.data_flows;
      fits = g.fit.good_b.fits;
      own = read.addressee;
      peer = refl;
      port = g.fit.to_a;
      interleaves = sym (same_interleaving a b cookie g.awaits.offer);
      abandons = sym (same_reliability a b cookie g.awaits.offer);
      checked = ack_checked a b cookie g.awaits.offer;
    })

pub hears_other : (side : Side) (options : Both Options) (v w now : View) (cookie : Cookie) (bytes : List ℕ) (more n : ℕ) → Awaiting side options v w cookie bytes more → Answered w cookie n now
    → Hears v.endpoint.options now cookie.maker (held_by_cookie w.endpoint.options cookie) (echoing_end v.endpoint.options w.endpoint.options cookie)
hears_other side options v w now cookie bytes more n g h =
    let a : Options = v.endpoint.options in
    let b : Options = w.endpoint.options in
    let read : ReadPairs cookie = read_pairs_fit bytes cookie g.awaits.fits.cookie_in_bytes g.awaits.reads in
    record {
      has = is_open h.core;
      asks = ap (awaits_opening now.endpoint) h.core;
      flows = h.flows;
      fits = g.fit.good_a.fits;
      own = read.maker;
      peer = refl;
      port = g.fit.to_b ∙ ap (λ (o : Options). o.local_port) (sym h.options);
      interleaves = same_interleaving a b cookie g.awaits.offer;
      abandons = same_reliability a b cookie g.awaits.offer;
      checked = subst (λ (o : Options). (((echoing_end a b cookie).capabilities.zero_checksum_method.0 == 0) ≡ true) ⊎ (o.zero_checksum_alternate_error_detection_method.0 ≢ 0)) (sym h.options)
          (method_checked a.zero_checksum_alternate_error_detection_method.0 b.zero_checksum_alternate_error_detection_method.0);
    }

-- A quiet round in which a lost COOKIE ECHO, or a lost COOKIE ACK, is made good.
use Rattle.std.proofs.Common.{List, [], ap, length, refl, subst, suc, sym, ℕ, ◌++◌, ◌∙◌, ◌∷◌, ◌≡◌}
use Rattle.std.proofs.lemmas.List.{append-nil}
use Rattle.dcsctp_spec_lemmas.specs.types.Offer.{negotiated_capabilities, offer_of}
use Rattle.dcsctp_spec_lemmas.specs.types.declared.association.Held.{Held}
use Rattle.dcsctp_spec_lemmas.specs.types.declared.options.Options.{Options}
use Rattle.dcsctp_spec_lemmas.specs.types.declared.schedule.Side.{Side}
use Rattle.dcsctp_spec_lemmas.specs.spec.Cookie.{Cookie}
use Rattle.dcsctp_spec_lemmas.specs.spec.Packet.{cookie_echo}
use Rattle.dcsctp_spec_lemmas.specs.spec.association.HandshakeChanges.{new_held}
use Rattle.dcsctp_spec_lemmas.specs.spec.endpoint.CallTurns.{HandleInput, Transition}
use Rattle.dcsctp_spec_lemmas.specs.spec.endpoint.Endpoint.{Core, Endpoint, established, open_in}
use Rattle.dcsctp_spec_lemmas.specs.spec.endpoint.FlushOutcomes.{IsIdle}
use Rattle.dcsctp_spec_runs.specs.Sockets.{Both, PerformedAct, SocketRun, turns_after}
use Rattle.dcsctp_theorem_progress.specs.Connecting.{connections_once_open}
use Rattle.dcsctp_theorem_progress.specs.Cookies.{HasEchoed, KnowsCookie, not_yet, already, OwesNothing}
use Rattle.dcsctp_theorem_progress.specs.Rounds.{Exchanges, counts_shown}
use Rattle.dcsctp_theorem_sockets.proofs.HandshakeReads.{counted_at, delivered}
use Rattle.dcsctp_theorem_sockets.proofs.HandshakeTurns.{HandshakeLaws}
use Rattle.dcsctp_theorem_progress.proofs.Joined.{JoinedBy}
use Rattle.dcsctp_theorem_progress.proofs.Cookies.{acknowledging, maintains}
use Rattle.dcsctp_theorem_progress.proofs.EchoRuns.{held_here, offered, owes_same, pairs_fit, repeated}
use Rattle.dcsctp_theorem_progress.proofs.Echoes.{EstablishesBy, acknowledgement_packet, bytes_packet, connects_last, establishes_by}
use Rattle.dcsctp_theorem_progress.proofs.Facts.{Fit, connected_turns, idle_established}
use Rattle.dcsctp_theorem_progress.proofs.Handed.{Handed, HandedBack, Settles, Under, UnderBack, handed, handed_back, handed_none, keep_same, settles}
use Rattle.dcsctp_theorem_progress.proofs.Views.{AtOf, KeepOf, View, ran_exchanges, view_then}

-- ---- COOKIE ECHO at the other

-- It has sent COOKIE ACK, both are linked then, and it has told OnConnected that often.
pub record Acknowledged (a : Options) (w : View) (cookie : Cookie) (n : ℕ) (turns : List Transition) : Type 0 where
  pub shown : (view_then w turns).shown ≡ w.shown ++ acknowledgement_packet w.endpoint.options cookie ∷ []
  pub same : (view_then w turns).endpoint.options ≡ w.endpoint.options
  pub linked : (view_then w turns).endpoint.core ≡ open_in established cookie.maker (new_held cookie.maker cookie.addressee (negotiated_capabilities (offer_of w.endpoint.options) (offer_of a)))
  pub told : (view_then w turns).told ≡ n
  pub idle : IsIdle (view_then w turns).endpoint
  pub owes : OwesNothing (view_then w turns).endpoint.queues.transfer

pub acknowledged : HandshakeLaws → (e : Endpoint) (w : View) (cookie : Cookie) (bytes : List ℕ) (turns : List Transition) → HasEchoed e w.endpoint cookie bytes → KnowsCookie e w.endpoint cookie
    → Fit e.options w.endpoint.options → HandleInput w.endpoint (bytes_packet e.options cookie bytes) turns → Acknowledged e.options w cookie (connections_once_open w.endpoint.core w.told) turns
acknowledged law e w cookie bytes turns h (not_yet m) fit input =
    let f : Endpoint = w.endpoint in
    let one : EstablishesBy f cookie bytes turns =
    establishes_by law f e.options cookie bytes turns m.core m.taken (pairs_fit e f cookie bytes h).spells (λ word. idle_established (counted_at f) cookie word m.empty)
    fit.good_a fit.good_b fit.to_b input in
    subst (Acknowledged e.options w cookie (connections_once_open w.endpoint.core w.told)) (sym one.only)
    (record {
      shown = refl;
      same = refl;
      linked = offered e f cookie h.offer;
      told = sym (ap (λ (core : Core). connections_once_open core w.told) m.core);
      idle = idle_established (counted_at f) cookie one.tie m.empty;
      owes = (refl, refl);
    })
acknowledged law e w cookie bytes turns h (already m) fit input =
    let f : Endpoint = w.endpoint in
    let one : turns ≡ delivered f cookie.maker.tag (cookie_echo bytes) (acknowledging (counted_at f) cookie) =
    maintains law f e.options cookie bytes turns (m.core ∙ sym (offered e f cookie h.offer)) m.idle (owes_same f.queues.transfer m.owes) (pairs_fit e f cookie bytes h).spells
    fit.good_a fit.good_b fit.to_b input in
    subst (Acknowledged e.options w cookie (connections_once_open w.endpoint.core w.told)) (sym one)
    (record { shown = refl; same = refl; linked = m.core; told = sym (ap (λ (core : Core). connections_once_open core w.told) m.core); idle = m.idle; owes = m.owes })

-- ---- the four exchanges

-- What is echoed, and how often each has told OnConnected in the end.
pub record Echo : Type 0 where
  pub cookie : Cookie
  pub bytes : List ℕ
  pub mine : ℕ
  pub others : ℕ

-- once more, unless it was open
abbrev pub echo_of : View → View → Cookie → List ℕ → Echo
echo_of v w cookie bytes = record { cookie = cookie; bytes = bytes; mine = suc v.told; others = connections_once_open w.endpoint.core w.told }

-- the side whose COOKIE ECHO went out again
abbrev pub again : View → View → Cookie → List ℕ → ℕ → View
again v w cookie bytes moment = view_then v (repeated v.endpoint w.endpoint cookie bytes moment)

-- It awaits a COOKIE ACK and T1 has come; the other acknowledges the COOKIE ECHO.
pub record Waiting (side : Side) (options : Both Options) (v w : View) (cookie : Cookie) (bytes : List ℕ) (n : ℕ) : Type 0 where
  pub echoed : HasEchoed v.endpoint w.endpoint cookie bytes
  pub ack : (turns : List Transition) → HandleInput w.endpoint (bytes_packet v.endpoint.options cookie bytes) turns → Acknowledged v.endpoint.options w cookie n turns
  pub fit : Fit v.endpoint.options w.endpoint.options
  pub keep : KeepOf side options v w

-- after COOKIE ECHO and COOKIE ACK the other exchanges hand nothing over
rest_is : (side : Side) (options : Both Options) (settled settled' : Both ℕ) (earlier run : List PerformedAct) (v w : View) → AtOf side options earlier v w
    → Settles settled side (length v.shown) (length w.shown) → Exchanges options 2 settled earlier settled' run → run ≡ earlier
rest_is side options settled settled' earlier run v w at counts rest =
    let one : rest.0 ≡ earlier = handed_none side options settled earlier rest.0 v w at counts rest.1 in
    let there : AtOf side options rest.0 v w = subst (λ (r : List PerformedAct). AtOf side options r v w) (sym one) at in
    let two : rest.2.0 ≡ rest.0 = handed_none side options (counts_shown options (turns_after earlier)) rest.0 rest.2.0 v w there (settles side options earlier v w at) rest.2.1 in
    rest.2.2.1 ∙ two ∙ one

pub echo_exchanged : HandshakeLaws → (side : Side) (options : Both Options) (v w : View) (cookie : Cookie) (bytes : List ℕ) (moment n : ℕ) (settled settled' : Both ℕ) (earlier run : List PerformedAct)
    → Waiting side options v w cookie bytes n → AtOf side options earlier (again v w cookie bytes moment) w → Settles settled side (length v.shown) (length w.shown)
    → Exchanges options 4 settled earlier settled' run → SocketRun options run → JoinedBy side options run v w (suc v.told) n
echo_exchanged law side options v w cookie bytes moment n settled settled' earlier run g at counts rest runs =
    let e : Endpoint = v.endpoint in
    let f : Endpoint = w.endpoint in
    let held : Held = held_here e f cookie in
    let here : View = again v w cookie bytes moment in
    let x : List ℕ = bytes_packet e.options cookie bytes in
    let under : Under settled side here w x = record { before = v.shown; shown = refl; mine = counts.mine; others = counts.others } in
    let h : Handed side options rest.0 here w x =
    handed side options settled earlier rest.0 here w x at (keep_same side options v w here w refl refl g.keep) under rest.1 (ran_exchanges options 3 _ rest.0 settled' run rest.2 runs) in
    let there : View = view_then w h.turns in
    let one : Acknowledged e.options w cookie n h.turns = g.ack h.turns h.input in
    let then : Settles (counts_shown options (turns_after earlier)) side (length here.shown) (length w.shown) = settles side options earlier here w at in
    let y : List ℕ = acknowledgement_packet f.options cookie in
    let back : UnderBack (counts_shown options (turns_after earlier)) side here there y = record { before = w.shown; shown = one.shown; others = then.others; mine = then.mine } in
    let i : HandedBack side options rest.2.0 here there y =
    handed_back side options (counts_shown options (turns_after earlier)) rest.0 rest.2.0 here there y h.at (keep_same side options v w here there refl one.same g.keep) back rest.2.1
    (ran_exchanges options 2 _ rest.2.0 settled' run rest.2.2 runs) in
    let last : i.turns ≡ connected_turns here.endpoint cookie.addressee held =
    connects_last law here.endpoint f.options cookie cookie.addressee held bytes i.turns g.echoed.core g.echoed.asks g.echoed.idle (owes_same e.queues.transfer g.echoed.owes)
    refl g.echoed.offer g.fit.good_b (pairs_fit e f cookie bytes g.echoed).here g.fit.to_a i.input in
    let end : View = view_then here (connected_turns here.endpoint cookie.addressee held) in
    let at2 : AtOf side options rest.2.0 end there = subst (λ (os : List Transition). AtOf side options rest.2.0 (view_then here os) there) last i.at in
    let now : Settles (counts_shown options (turns_after rest.0)) side (length here.shown) (length there.shown) = settles side options rest.0 here there h.at in
    let same : length end.shown ≡ length here.shown = ap length (append-nil here.shown) in
    let is : run ≡ rest.2.0 = rest_is side options (counts_shown options (turns_after rest.0)) settled' rest.2.0 run end there at2 (record { mine = now.mine ∙ sym same; others = now.others }) rest.2.2 in
    subst (λ (r : List PerformedAct). JoinedBy side options r v w (suc v.told) n) (sym is)
    (record {
      here = end;
      there = there;
      at = at2;
      p = cookie.addressee;
      q = cookie.maker;
      linked = record { here = refl; there = one.linked };
      told_here = refl;
      told_there = one.told;
    })

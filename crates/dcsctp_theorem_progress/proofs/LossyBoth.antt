-- A lossy exchange in which a COOKIE ECHO is under way, and data of the other, which is Established by the cookie already.
use Rattle.std.proofs.Common.{◌≡◌, ℕ, List, [], ◌∷◌, ◌++◌, length, refl, sym, subst, ap, ◌∙◌}
use Rattle.std.proofs.lemmas.List.{append-nil}
use Rattle.dcsctp_spec_lemmas.specs.types.declared.association.Held.{Held}
use Rattle.dcsctp_spec_lemmas.specs.types.declared.options.Options.{Options}
use Rattle.dcsctp_spec_lemmas.specs.types.declared.schedule.Side.{Side}
use Rattle.dcsctp_spec_lemmas.specs.types.declared.schedule.Side.TheVariants as sides
use Rattle.dcsctp_spec_lemmas.specs.types.Offer.{offer_of}
use Rattle.dcsctp_spec_lemmas.specs.types.Settings.{ports_of}
use Rattle.dcsctp_spec_lemmas.specs.spec.Cookie.{Cookie}
use Rattle.dcsctp_spec_lemmas.specs.spec.Packet.{Content, emission_bytes}
use Rattle.dcsctp_spec_lemmas.specs.spec.association.CookieEchoChanges.{held_by_cookie}
use Rattle.dcsctp_spec_lemmas.specs.spec.endpoint.CallTurns.{Transition, HandleInput}
use Rattle.dcsctp_spec_lemmas.specs.spec.endpoint.Endpoint.{open_in, established}
use Rattle.dcsctp_spec_runs.specs.Sockets.{PerformedAct, Both, SocketRun}
use Rattle.dcsctp_theorem_progress.specs.LossyRounds.{LossyExchange}
use Rattle.dcsctp_theorem_sockets.proofs.HandshakeReads.{Wire}
use Rattle.dcsctp_theorem_progress.proofs.Answering.{EchoSent, Awaiting, Answered, Answering, EchoAlone, hears_mine}
use Rattle.dcsctp_theorem_progress.proofs.EchoComes.{bytes_of, carried_as, echoing_end, same_interleaving, same_reliability}
use Rattle.dcsctp_theorem_progress.proofs.Establishing.{echo_then}
use Rattle.dcsctp_theorem_progress.proofs.Flows.{Flows, AreCarriedFor}
use Rattle.dcsctp_theorem_progress.proofs.Handed.{Settles}
use Rattle.dcsctp_theorem_progress.proofs.HandedBothAll.{BothHandedAll}
use Rattle.dcsctp_theorem_progress.proofs.Hearing.{Hears, SendsOn, sends_nothing}
use Rattle.dcsctp_theorem_progress.proofs.LossyAll.{HoldsLossy, both_lossy}
use Rattle.dcsctp_theorem_progress.proofs.LossyOpen.{Comes, comes_lossy}
use Rattle.dcsctp_theorem_progress.proofs.Views.{View, view_then, AtOf}

-- ---- the other

-- With these packets to come the COOKIE ECHO is still to come, or has come, or was lost.
pub data EchoTo (w : View) (cookie : Cookie) (n : ℕ) (x : List ℕ) (xs : List (List ℕ)) (now : View) : Type 0 where
  to_come : xs ≡ x ∷ [] → now ≡ w → EchoTo w cookie n x xs now
  has_come : xs ≡ [] → Answered w cookie n now → EchoTo w cookie n x xs now
  was_lost : xs ≡ [] → now ≡ w → EchoTo w cookie n x xs now

one_head : (x y : List ℕ) (xs : List (List ℕ)) → y ∷ xs ≡ x ∷ [] → y ≡ x
one_head x y xs same = cc

one_tail : (x y : List ℕ) (xs : List (List ℕ)) → y ∷ xs ≡ x ∷ [] → xs ≡ []
one_tail x y xs same = cc

none_more : (y : List ℕ) (xs : List (List ℕ)) → y ∷ xs ≡ [] → ⊥
none_more y xs same = cc

echo_step : (w : View) (a : Options) (cookie : Cookie) (bytes : List ℕ) (n : ℕ) (more : List Content) → Answering w a cookie bytes n → AreCarriedFor (held_by_cookie w.endpoint.options cookie) more →
    let x = emission_bytes (ports_of a) (echo_then cookie bytes more) in
    (y : List ℕ) (xs : List (List ℕ)) (now : View) (turns : List Transition) → EchoTo w cookie n x (y ∷ xs) now → HandleInput now.endpoint y turns → EchoTo w cookie n x xs (view_then now turns)
echo_step w a cookie bytes n more answers carried y xs now turns (to_come is same) input =
    has_come (one_tail _ y xs is)
    (subst (λ (v : View). Answered w cookie n (view_then v turns)) (sym same)
    (answers more turns carried (subst (λ (z : List ℕ). HandleInput w.endpoint z turns) (one_head _ y xs is) (subst (λ (v : View). HandleInput v.endpoint y turns) same input))))
echo_step w a cookie bytes n more answers carried y xs now turns (has_come is h) input = absurd (none_more y xs is)
echo_step w a cookie bytes n more answers carried y xs now turns (was_lost is same) input = absurd (none_more y xs is)

echo_lost : (w : View) (cookie : Cookie) (n : ℕ) (x y : List ℕ) (xs : List (List ℕ)) (now : View) → EchoTo w cookie n x (y ∷ xs) now → EchoTo w cookie n x xs now
echo_lost w cookie n x y xs now (to_come is same) = was_lost (one_tail x y xs is) same
echo_lost w cookie n x y xs now (has_come is h) = absurd (none_more y xs is)
echo_lost w cookie n x y xs now (was_lost is same) = absurd (none_more y xs is)

echo_keeps : (options : Options) (w : View) (cookie : Cookie) (n : ℕ) (x : List ℕ) (xs : List (List ℕ)) (now : View) → w.endpoint.options ≡ options → EchoTo w cookie n x xs now → now.endpoint.options ≡ options
echo_keeps options w cookie n x xs now keep (to_come is same) = ap (λ (v : View). v.endpoint.options) same ∙ keep
echo_keeps options w cookie n x xs now keep (has_come is h) = h.options ∙ keep
echo_keeps options w cookie n x xs now keep (was_lost is same) = ap (λ (v : View). v.endpoint.options) same ∙ keep

echo_lossy : (options : Options) (w : View) (a : Options) (cookie : Cookie) (bytes : List ℕ) (n : ℕ) (more : List Content) → w.endpoint.options ≡ options → Answering w a cookie bytes n
    → AreCarriedFor (held_by_cookie w.endpoint.options cookie) more → HoldsLossy options (EchoTo w cookie n (emission_bytes (ports_of a) (echo_then cookie bytes more)))
echo_lossy options w a cookie bytes n more keep answers carried =
    record {
      along = record { keeps = λ xs now h. echo_keeps options w cookie n _ xs now keep h; step = echo_step w a cookie bytes n more answers carried };
      loses = λ y xs now h. echo_lost w cookie n _ y xs now h;
    }

-- In the end it has answered, or is as it was.
pub echo_end : (w : View) (cookie : Cookie) (n : ℕ) (x : List ℕ) (now : View) → Answered w cookie n w → EchoTo w cookie n x [] now → Answered w cookie n now
echo_end w cookie n x now before (to_come is same) = absurd (cc)
echo_end w cookie n x now before (has_come is h) = h
echo_end w cookie n x now before (was_lost is same) = subst (λ (v : View). Answered w cookie n v) (sym same) before

-- ---- both

-- The COOKIE ECHO of this side is under way, and what the other has just sent.
pub record Crossing (side : Side) (options : Both Options) (v w now : View) (sent : EchoSent) (settled : Both ℕ) : Type 0 where
  pub more : ℕ
  pub awaiting : Awaiting side options v w sent.cookie sent.bytes more
  pub answered : Answered w sent.cookie now.told now
  pub echo : EchoAlone v w.endpoint.options sent.cookie sent.bytes sent.before
  pub answers : Answering now v.endpoint.options sent.cookie sent.bytes now.told
  pub counts : Settles settled side (length sent.before) (length w.shown)

-- Of both some came: this side has gone on, and the other has answered or is as it was.
pub record Crossed (side : Side) (options : Both Options) (run : List PerformedAct) (v w now : View) (cookie : Cookie) : Type 0 where
  pub mine : View
  pub other : View
  pub at : AtOf side options run mine other
  pub sends : SendsOn cookie.addressee (echoing_end v.endpoint.options w.endpoint.options cookie) v mine
  pub answered : Answered now cookie now.told other

-- It is open, and sends nothing more.
still_answered : (w now : View) (cookie : Cookie) → Answered w cookie now.told now → Answered now cookie now.told now
still_answered w now cookie h =
    record {
      core = h.core ∙ ap (λ (o : Options). open_in established cookie.maker (held_by_cookie o cookie)) (sym h.options);
      options = refl;
      flows = subst (λ (o : Options). Flows (held_by_cookie o cookie) now.endpoint) (sym h.options) h.flows;
      told = refl;
      sent = [];
      each = tt;
      shown = sym (append-nil now.shown);
    }

carried_to : (v w now : View) (cookie : Cookie) (bytes : List ℕ) (before : List (List ℕ)) → cookie.offer ≡ offer_of v.endpoint.options → now.endpoint.options ≡ w.endpoint.options
    → (echo : EchoAlone v w.endpoint.options cookie bytes before) → AreCarriedFor (held_by_cookie now.endpoint.options cookie) echo.more
carried_to v w now cookie bytes before offered same echo =
    let a : Options = v.endpoint.options in
    let b : Options = w.endpoint.options in
    subst (λ (o : Options). AreCarriedFor (held_by_cookie o cookie) echo.more) (sym same)
    (carried_as _ _ _ _ echo.more (same_interleaving a b cookie offered) (same_reliability a b cookie offered) echo.carried)

pub crossed_lossy : Wire → (side : Side) (options : Both Options) (settled : Both ℕ) (earlier run : List PerformedAct) (v w now : View) (sent : EchoSent) → Crossing side options v w now sent settled → AtOf side options earlier v now
    → LossyExchange options settled earlier run → SocketRun options run → Crossed side options run v w now sent.cookie
crossed_lossy wire sides.A options settled earlier run v w now sent c at lossy runs =
    let cookie : Cookie = sent.cookie in
    let bytes : List ℕ = sent.bytes in
    let before : List (List ℕ) = sent.before in
    let mine : Held = echoing_end v.endpoint.options w.endpoint.options cookie in
    let theirs : Held = held_by_cookie w.endpoint.options cookie in
    let b : Options = now.endpoint.options in
    let x : List ℕ = emission_bytes (ports_of v.endpoint.options) (echo_then cookie bytes c.echo.more) in
    let hears : Hears b v cookie.addressee mine theirs = hears_mine sides.A options v w now cookie bytes c.more now.told c.awaiting c.answered in
    let all : BothHandedAll options run (EchoTo now cookie now.told x) (Comes b v cookie.addressee mine theirs) =
    both_lossy options settled (EchoTo now cookie now.told x) (Comes b v cookie.addressee mine theirs) earlier run v now (x ∷ []) (bytes_of b c.answered.sent)
    (echo_lossy options.b now v.endpoint.options cookie bytes now.told c.echo.more (c.answered.options ∙ c.awaiting.keep.b) c.answers (carried_to v w now cookie bytes before c.awaiting.awaits.offer c.answered.options c.echo))
    (comes_lossy wire b options.a v cookie.addressee mine theirs c.awaiting.keep.a hears) at
    (record {
      before_a = before;
      before_b = w.shown;
      shown_a = c.echo.shown;
      shown_b = c.answered.shown ∙ ap (λ (o : Options). w.shown ++ bytes_of o c.answered.sent) (sym c.answered.options);
      settled_a = c.counts.mine;
      settled_b = c.counts.others;
    })
    (to_come refl refl) (record { left = c.answered.sent; each = c.answered.each; are = refl; sends = sends_nothing cookie.addressee mine v hears.flows }) lossy runs in
    record {
      mine = all.here;
      other = all.there;
      at = all.at;
      sends = all.holds_here.sends;
      answered = echo_end now cookie now.told x all.there (still_answered w now cookie c.answered) all.holds_there;
    }
crossed_lossy wire sides.B options settled earlier run v w now sent c at lossy runs =
    let cookie : Cookie = sent.cookie in
    let bytes : List ℕ = sent.bytes in
    let before : List (List ℕ) = sent.before in
    let mine : Held = echoing_end v.endpoint.options w.endpoint.options cookie in
    let theirs : Held = held_by_cookie w.endpoint.options cookie in
    let b : Options = now.endpoint.options in
    let x : List ℕ = emission_bytes (ports_of v.endpoint.options) (echo_then cookie bytes c.echo.more) in
    let hears : Hears b v cookie.addressee mine theirs = hears_mine sides.B options v w now cookie bytes c.more now.told c.awaiting c.answered in
    let all : BothHandedAll options run (Comes b v cookie.addressee mine theirs) (EchoTo now cookie now.told x) =
    both_lossy options settled (Comes b v cookie.addressee mine theirs) (EchoTo now cookie now.told x) earlier run now v (bytes_of b c.answered.sent) (x ∷ [])
    (comes_lossy wire b options.b v cookie.addressee mine theirs c.awaiting.keep.b hears)
    (echo_lossy options.a now v.endpoint.options cookie bytes now.told c.echo.more (c.answered.options ∙ c.awaiting.keep.a) c.answers (carried_to v w now cookie bytes before c.awaiting.awaits.offer c.answered.options c.echo)) at
    (record {
      before_a = w.shown;
      before_b = before;
      shown_a = c.answered.shown ∙ ap (λ (o : Options). w.shown ++ bytes_of o c.answered.sent) (sym c.answered.options);
      shown_b = c.echo.shown;
      settled_a = c.counts.others;
      settled_b = c.counts.mine;
    })
    (record { left = c.answered.sent; each = c.answered.each; are = refl; sends = sends_nothing cookie.addressee mine v hears.flows }) (to_come refl refl) lossy runs in
    record {
      mine = all.there;
      other = all.here;
      at = all.at;
      sends = all.holds_there.sends;
      answered = echo_end now cookie now.told x all.here (still_answered w now cookie c.answered) all.holds_here;
    }

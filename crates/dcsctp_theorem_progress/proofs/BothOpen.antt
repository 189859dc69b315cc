-- Exchanges of two Established sockets, with packets of data under way: both stay so.
use Rattle.std.proofs.Common.{◌≡◌, ◌≢◌, ◌⊎◌, ℕ, zero, suc, true, List, [], ◌∷◌, ◌++◌, length, refl, sym, subst, ap, ◌∙◌}
use Rattle.std.proofs.lemmas.List.{append-nil}
use Rattle.std.specs.Prelude.{◌==◌}
use Rattle.dcsctp_spec_lemmas.specs.types.declared.association.Held.{Held}
use Rattle.dcsctp_spec_lemmas.specs.types.declared.association.Pair.{Pair}
use Rattle.dcsctp_spec_lemmas.specs.types.declared.options.Options.{Options}
use Rattle.dcsctp_spec_lemmas.specs.types.declared.schedule.Side.TheVariants as sides
use Rattle.dcsctp_spec_lemmas.specs.types.Settings.{FitsOptions, ports_of}
use Rattle.dcsctp_spec_lemmas.specs.spec.CookieFits.{FitsPair}
use Rattle.dcsctp_spec_lemmas.specs.spec.Packet.{Emission, emission_bytes}
use Rattle.dcsctp_spec_lemmas.specs.spec.endpoint.Endpoint.{open_in, established}
use Rattle.dcsctp_spec_lemmas.specs.spec.endpoint.Event.{packets_of_events}
use Rattle.dcsctp_spec_lemmas.specs.spec.endpoint.CallTurns.{Transition, HandleInput, events_of}
use Rattle.dcsctp_spec_runs.specs.Sockets.{PerformedAct, Both, turns_after, SocketRun}
use Rattle.dcsctp_theorem_progress.specs.Rounds.{counts_shown, Exchanges}
use Rattle.dcsctp_theorem_sockets.proofs.HandshakeReads.{Wire}
use Rattle.dcsctp_theorem_progress.proofs.Views.{View, view_then, At, ran_exchanges}
use Rattle.dcsctp_theorem_progress.proofs.Carried.{all_both}
use Rattle.dcsctp_theorem_progress.proofs.Flows.{Flows, AllCarryTo}
use Rattle.dcsctp_theorem_progress.proofs.Walks.{StayAlong}
use Rattle.dcsctp_theorem_progress.proofs.Acknowledged.{opened_along}
use Rattle.dcsctp_theorem_progress.proofs.Handed.{Settles, settles}
use Rattle.dcsctp_theorem_progress.proofs.HandedAll.{HoldsAlong}
use Rattle.dcsctp_theorem_progress.proofs.HandedBothAll.{BothHandedAll, both_handed_all}
use Rattle.dcsctp_theorem_progress.proofs.EchoComes.{bytes_of, shown_more}

-- What this side is, by what the other has and sends: it takes each of its packets.
pub record OpenTo (b : Options) (v : View) (my : Pair) (held theirs : Held) : Type 0 where
  pub core : v.endpoint.core ≡ open_in established my held
  pub flows : Flows held v.endpoint
  pub fits : FitsOptions b
  pub own : FitsPair my
  pub peer : theirs.peer ≡ my
  pub port : b.remote_port ≡ v.endpoint.options.local_port
  pub interleaves : theirs.capabilities.message_interleaving ≡ held.capabilities.message_interleaving
  pub abandons : theirs.capabilities.partial_reliability ≡ held.capabilities.partial_reliability
  pub checked : ((theirs.capabilities.zero_checksum_method.0 == 0) ≡ true) ⊎ (v.endpoint.options.zero_checksum_alternate_error_detection_method.0 ≢ 0)

-- It is as it was, and has shown only packets that the other takes.
pub record StaysOpenTo (held : Held) (v now : View) : Type 0 where
  pub core : now.endpoint.core ≡ v.endpoint.core
  pub options : now.endpoint.options ≡ v.endpoint.options
  pub flows : Flows held now.endpoint
  pub told : now.told ≡ v.told
  pub sent : List Emission
  pub carried : AllCarryTo held sent
  pub shown : now.shown ≡ v.shown ++ bytes_of v.endpoint.options sent

-- These packets are to come.
pub record DataComes (b : Options) (v : View) (held theirs : Held) (xs : List (List ℕ)) (now : View) : Type 0 where
  pub left : List Emission
  pub each : AllCarryTo theirs left
  pub are : xs ≡ bytes_of b left
  pub stays : StaysOpenTo held v now

head_is : (x y : List ℕ) (xs ys : List (List ℕ)) → x ∷ xs ≡ y ∷ ys → x ≡ y
head_is x y xs ys same = cc

tail_is : (x y : List ℕ) (xs ys : List (List ℕ)) → x ∷ xs ≡ y ∷ ys → xs ≡ ys
tail_is x y xs ys same = cc

next_comes : Wire → (b : Options) (v : View) (my : Pair) (held theirs : Held) (xs : List (List ℕ)) (now : View) (emission : Emission) (left : List Emission) (turns : List Transition)
    → OpenTo b v my held theirs → AllCarryTo theirs (emission ∷ left) → xs ≡ bytes_of b left → StaysOpenTo held v now
    → HandleInput now.endpoint (emission_bytes (ports_of b) emission) turns → DataComes b v held theirs xs (view_then now turns)
next_comes wire b v my held theirs xs now emission left turns fits each is h input =
    let along : StayAlong held now.endpoint turns =
    opened_along wire now.endpoint b my held theirs.capabilities.message_interleaving theirs.capabilities.partial_reliability (theirs.capabilities.zero_checksum_method.0 == 0) emission turns
    (h.core ∙ fits.core) h.flows fits.fits fits.own (fits.port ∙ ap (λ (o : Options). o.local_port) (sym h.options)) fits.interleaves fits.abandons
    (subst (λ (o : Options). ((theirs.capabilities.zero_checksum_method.0 == 0) ≡ true) ⊎ (o.zero_checksum_alternate_error_detection_method.0 ≢ 0)) (sym h.options) fits.checked)
    (record { checked = each.0.checked; header = each.0.header ∙ ap (λ (p : Pair). p.tag) fits.peer; contents = each.0.contents }) input in
    record {
      left = left;
      each = each.1;
      are = is;
      stays = record {
        core = along.core ∙ h.core;
        options = along.options ∙ h.options;
        flows = along.flows;
        told = along.tells.told now.told ∙ h.told;
        sent = h.sent ++ packets_of_events (events_of turns);
        carried = all_both _ h.sent (packets_of_events (events_of turns)) h.carried along.tells.sent;
        shown = shown_more v.shown v.endpoint.options now turns h.sent h.options h.shown;
      };
    }

data_step : Wire → (b : Options) (v : View) (my : Pair) (held theirs : Held) → OpenTo b v my held theirs → (x : List ℕ) (xs : List (List ℕ)) (now : View) (turns : List Transition) (left : List Emission) → AllCarryTo theirs left
    → x ∷ xs ≡ bytes_of b left → StaysOpenTo held v now → HandleInput now.endpoint x turns → DataComes b v held theirs xs (view_then now turns)
data_step wire b v my held theirs fits x xs now turns [] each is h input = absurd (cc)
data_step wire b v my held theirs fits x xs now turns (emission ∷ left) each is h input =
    next_comes wire b v my held theirs xs now emission left turns fits each (tail_is _ _ _ _ is) h (subst (λ (y : List ℕ). HandleInput now.endpoint y turns) (head_is _ _ _ _ is) input)

data_along : Wire → (b options : Options) (v : View) (my : Pair) (held theirs : Held) → v.endpoint.options ≡ options → OpenTo b v my held theirs → HoldsAlong options (DataComes b v held theirs)
data_along wire b options v my held theirs keep fits =
    record { keeps = λ xs now h. h.stays.options ∙ keep; step = λ x xs now turns h input. data_step wire b v my held theirs fits x xs now turns h.left h.each h.are h.stays input }

still_open : (held : Held) (v : View) → Flows held v.endpoint → StaysOpenTo held v v
still_open held v flows = record { core = refl; options = refl; flows = flows; told = refl; sent = []; carried = tt; shown = sym (append-nil v.shown) }

-- Both are Established, and packets of data are under way from both.
pub record BothOpen (options : Both Options) (v w : View) (p q : Pair) (here there : Held) (settled : Both ℕ) : Type 0 where
  pub open_here : OpenTo w.endpoint.options v p here there
  pub open_there : OpenTo v.endpoint.options w q there here
  pub keep_a : v.endpoint.options ≡ options.a
  pub keep_b : w.endpoint.options ≡ options.b
  pub before_a : List (List ℕ)
  pub before_b : List (List ℕ)
  pub sent_a : List Emission
  pub sent_b : List Emission
  pub each_a : AllCarryTo here sent_a
  pub each_b : AllCarryTo there sent_b
  pub shown_a : v.shown ≡ before_a ++ bytes_of v.endpoint.options sent_a
  pub shown_b : w.shown ≡ before_b ++ bytes_of w.endpoint.options sent_b
  pub settled_a : settled.a ≡ length before_a
  pub settled_b : settled.b ≡ length before_b

-- They stay so, and tell no OnConnected.
pub record StayBothOpen (options : Both Options) (run : List PerformedAct) (v w : View) : Type 0 where
  pub here : View
  pub there : View
  pub at : At options run here there
  pub core_here : here.endpoint.core ≡ v.endpoint.core
  pub core_there : there.endpoint.core ≡ w.endpoint.core
  pub told_here : here.told ≡ v.told
  pub told_there : there.told ≡ w.told

opens_still : (b b' : Options) (v now : View) (my : Pair) (held theirs : Held) → b' ≡ b → StaysOpenTo held v now → OpenTo b v my held theirs → OpenTo b' now my held theirs
opens_still b b' v now my held theirs same h fits =
    subst (λ (o : Options). OpenTo o now my held theirs) (sym same)
    (record {
      core = h.core ∙ fits.core;
      flows = h.flows;
      fits = fits.fits;
      own = fits.own;
      peer = fits.peer;
      port = fits.port ∙ ap (λ (o : Options). o.local_port) (sym h.options);
      interleaves = fits.interleaves;
      abandons = fits.abandons;
      checked = subst (λ (o : Options). ((theirs.capabilities.zero_checksum_method.0 == 0) ≡ true) ⊎ (o.zero_checksum_alternate_error_detection_method.0 ≢ 0)) (sym h.options) fits.checked;
    })

pub both_stay_open : Wire → (n : ℕ) (options : Both Options) (v w : View) (p q : Pair) (here there : Held) (settled settled' : Both ℕ) (earlier run : List PerformedAct) → BothOpen options v w p q here there settled
    → At options earlier v w → Exchanges options n settled earlier settled' run → SocketRun options run → StayBothOpen options run v w
both_stay_open wire zero options v w p q here there settled settled' earlier run m at rest runs =
    record { here = v; there = w; at = subst (λ (r : List PerformedAct). At options r v w) (sym rest.1) at; core_here = refl; core_there = refl; told_here = refl; told_there = refl }
both_stay_open wire (suc n) options v w p q here there settled settled' earlier run m at rest runs =
    let a : Options = v.endpoint.options in
    let b : Options = w.endpoint.options in
    let all : BothHandedAll options rest.0 (DataComes a w there here) (DataComes b v here there) =
    both_handed_all options settled (DataComes a w there here) (DataComes b v here there) earlier rest.0 v w _ _ (data_along wire a options.b w q there here m.keep_b m.open_there) (data_along wire b options.a v p here there m.keep_a m.open_here)
    at (record { before_a = m.before_a; before_b = m.before_b; shown_a = m.shown_a; shown_b = m.shown_b; settled_a = m.settled_a; settled_b = m.settled_b })
    (record { left = m.sent_a; each = m.each_a; are = refl; stays = still_open there w m.open_there.flows }) (record { left = m.sent_b; each = m.each_b; are = refl; stays = still_open here v m.open_here.flows }) rest.1
    (ran_exchanges options n _ rest.0 settled' run rest.2 runs) in
    let x : StaysOpenTo here v all.here = all.holds_here.stays in
    let y : StaysOpenTo there w all.there = all.holds_there.stays in
    let counts : Settles (counts_shown options (turns_after earlier)) sides.A (length v.shown) (length w.shown) = settles sides.A options earlier v w at in
    let next : BothOpen options all.here all.there p q here there (counts_shown options (turns_after earlier)) = record {
      open_here = opens_still b all.there.endpoint.options v all.here p here there y.options x m.open_here;
      open_there = opens_still a all.here.endpoint.options w all.there q there here x.options y m.open_there;
      keep_a = x.options ∙ m.keep_a;
      keep_b = y.options ∙ m.keep_b;
      before_a = v.shown;
      before_b = w.shown;
      sent_a = x.sent;
      sent_b = y.sent;
      each_a = x.carried;
      each_b = y.carried;
      shown_a = x.shown ∙ ap (λ (o : Options). v.shown ++ bytes_of o x.sent) (sym x.options);
      shown_b = y.shown ∙ ap (λ (o : Options). w.shown ++ bytes_of o y.sent) (sym y.options);
      settled_a = counts.mine;
      settled_b = counts.others;
    } in
    let h : StayBothOpen options run all.here all.there = both_stay_open wire n options all.here all.there p q here there (counts_shown options (turns_after earlier)) settled' rest.0 run next all.at rest.2 runs in
    record {
      here = h.here;
      there = h.there;
      at = h.at;
      core_here = h.core_here ∙ x.core;
      core_there = h.core_there ∙ y.core;
      told_here = h.told_here ∙ x.told;
      told_there = h.told_there ∙ y.told;
    }

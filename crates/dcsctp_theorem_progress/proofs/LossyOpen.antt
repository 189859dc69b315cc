-- Lossy exchanges after a COOKIE ECHO has come: both sides go on, and the one that awaits the COOKIE ACK gets it or not.
use Rattle.std.proofs.Common.{◌≡◌, ℕ, zero, suc, List, [], ◌∷◌, ◌++◌, length, refl, sym, subst, ap, ◌∙◌}
use Rattle.dcsctp_spec_lemmas.specs.types.declared.association.Held.{Held}
use Rattle.dcsctp_spec_lemmas.specs.types.declared.association.Pair.{Pair}
use Rattle.dcsctp_spec_lemmas.specs.types.declared.options.Options.{Options}
use Rattle.dcsctp_spec_lemmas.specs.types.declared.schedule.Side.{Side}
use Rattle.dcsctp_spec_lemmas.specs.types.declared.schedule.Side.TheVariants as sides
use Rattle.dcsctp_spec_lemmas.specs.spec.Packet.{Emission}
use Rattle.dcsctp_spec_lemmas.specs.spec.endpoint.CallTurns.{Transition, HandleInput}
use Rattle.dcsctp_spec_runs.specs.Sockets.{PerformedAct, Both, turns_after, SocketRun}
use Rattle.dcsctp_theorem_progress.specs.LossyRounds.{LossyExchanges}
use Rattle.dcsctp_theorem_progress.specs.Rounds.{counts_shown}
use Rattle.dcsctp_theorem_sockets.proofs.HandshakeReads.{Wire}
use Rattle.dcsctp_theorem_progress.proofs.EchoComes.{bytes_of}
use Rattle.dcsctp_theorem_progress.proofs.Handed.{Settles, settles}
use Rattle.dcsctp_theorem_progress.proofs.HandedBothAll.{BothHandedAll}
use Rattle.dcsctp_theorem_progress.proofs.Hearing.{AllSpeak, all_speak, Hears, GoesOn, goes_then, goes_nowhere, SendsOn, sends_nothing, sends_then, hears_then, heard}
use Rattle.dcsctp_theorem_progress.proofs.Lossy.{ran_lossy}
use Rattle.dcsctp_theorem_progress.proofs.LossyAll.{HoldsLossy, both_lossy}
use Rattle.dcsctp_theorem_progress.proofs.Views.{View, view_then, At, AtOf, KeepOf}

-- ---- one side

-- These packets are to come, and it has gone on so far.
pub record Comes (b : Options) (v : View) (my : Pair) (held theirs : Held) (xs : List (List ℕ)) (now : View) : Type 0 where
  pub left : List Emission
  pub each : AllSpeak theirs left
  pub are : xs ≡ bytes_of b left
  pub sends : SendsOn my held v now

head_is : (x y : List ℕ) (xs ys : List (List ℕ)) → x ∷ xs ≡ y ∷ ys → x ≡ y
head_is x y xs ys same = cc

tail_is : (x y : List ℕ) (xs ys : List (List ℕ)) → x ∷ xs ≡ y ∷ ys → xs ≡ ys
tail_is x y xs ys same = cc

next_comes : Wire → (b : Options) (v : View) (my : Pair) (held theirs : Held) → Hears b v my held theirs → (x : List ℕ) (xs : List (List ℕ)) (now : View) (turns : List Transition) (left : List Emission)
    → AllSpeak theirs left → x ∷ xs ≡ bytes_of b left → SendsOn my held v now → HandleInput now.endpoint x turns → Comes b v my held theirs xs (view_then now turns)
next_comes wire b v my held theirs fits x xs now turns [] each is h input = absurd (cc)
next_comes wire b v my held theirs fits x xs now turns (emission ∷ left) each is h input =
    record {
      left = left;
      each = each.1;
      are = tail_is _ _ _ _ is;
      sends = sends_then my held v now (view_then now turns) h
          (heard wire b now my held theirs emission turns (hears_then b b v now my held theirs refl h.goes fits) each.0 (subst (λ (y : List ℕ). HandleInput now.endpoint y turns) (head_is _ _ _ _ is) input));
    }

next_lost : (b : Options) (v : View) (my : Pair) (held theirs : Held) (x : List ℕ) (xs : List (List ℕ)) (now : View) (left : List Emission) → AllSpeak theirs left → x ∷ xs ≡ bytes_of b left → SendsOn my held v now
    → Comes b v my held theirs xs now
next_lost b v my held theirs x xs now [] each is h = absurd (cc)
next_lost b v my held theirs x xs now (emission ∷ left) each is h = record { left = left; each = each.1; are = tail_is _ _ _ _ is; sends = h }

pub comes_lossy : Wire → (b options : Options) (v : View) (my : Pair) (held theirs : Held) → v.endpoint.options ≡ options → Hears b v my held theirs → HoldsLossy options (Comes b v my held theirs)
comes_lossy wire b options v my held theirs keep fits =
    record {
      along = record {
        keeps = λ xs now h. h.sends.goes.options ∙ keep;
        step = λ x xs now turns h input. next_comes wire b v my held theirs fits x xs now turns h.left h.each h.are h.sends input;
      };
      loses = λ x xs now h. next_lost b v my held theirs x xs now h.left h.each h.are h.sends;
    }

-- ---- both

-- the pairs of this side and of the other, and what each knows of its peer
pub record Ends : Type 0 where
  pub mine : Pair
  pub other : Pair
  pub here : Held
  pub there : Held

abbrev crosswise : Ends → Ends
crosswise ends = record { mine = ends.other; other = ends.mine; here = ends.there; there = ends.here }

-- Each takes what the other sends, and these packets of both are under way.
pub record BothHear (options : Both Options) (v w : View) (ends : Ends) (settled : Both ℕ) : Type 0 where
  pub hears_here : Hears w.endpoint.options v ends.mine ends.here ends.there
  pub hears_there : Hears v.endpoint.options w ends.other ends.there ends.here
  pub keep_a : v.endpoint.options ≡ options.a
  pub keep_b : w.endpoint.options ≡ options.b
  pub before_a : List (List ℕ)
  pub before_b : List (List ℕ)
  pub sent_a : List Emission
  pub sent_b : List Emission
  pub each_a : AllSpeak ends.here sent_a
  pub each_b : AllSpeak ends.there sent_b
  pub shown_a : v.shown ≡ before_a ++ bytes_of v.endpoint.options sent_a
  pub shown_b : w.shown ≡ before_b ++ bytes_of w.endpoint.options sent_b
  pub settled_a : settled.a ≡ length before_a
  pub settled_b : settled.b ≡ length before_b

pub record BothGoOn (options : Both Options) (run : List PerformedAct) (v w : View) (ends : Ends) : Type 0 where
  pub last_here : View
  pub last_there : View
  pub at : At options run last_here last_there
  pub goes_here : GoesOn ends.mine ends.here v last_here
  pub goes_there : GoesOn ends.other ends.there w last_there

both_go_on : Wire → (n : ℕ) (options : Both Options) (v w : View) (ends : Ends) (settled settled' : Both ℕ) (earlier run : List PerformedAct) → BothHear options v w ends settled
    → At options earlier v w → LossyExchanges options n settled earlier settled' run → SocketRun options run → BothGoOn options run v w ends
both_go_on wire zero options v w ends settled settled' earlier run m at rest runs =
    record {
      last_here = v;
      last_there = w;
      at = subst (λ (r : List PerformedAct). At options r v w) (sym rest.1) at;
      goes_here = goes_nowhere ends.mine ends.here v m.hears_here.flows;
      goes_there = goes_nowhere ends.other ends.there w m.hears_there.flows;
    }
both_go_on wire (suc n) options v w ends settled settled' earlier run m at rest runs =
    let a : Options = v.endpoint.options in
    let b : Options = w.endpoint.options in
    let all : BothHandedAll options rest.0 (Comes a w ends.other ends.there ends.here) (Comes b v ends.mine ends.here ends.there) =
    both_lossy options settled (Comes a w ends.other ends.there ends.here) (Comes b v ends.mine ends.here ends.there) earlier rest.0 v w _ _ (comes_lossy wire a options.b w ends.other ends.there ends.here m.keep_b m.hears_there) (comes_lossy wire b options.a v ends.mine ends.here ends.there m.keep_a m.hears_here)
    at (record { before_a = m.before_a; before_b = m.before_b; shown_a = m.shown_a; shown_b = m.shown_b; settled_a = m.settled_a; settled_b = m.settled_b })
    (record { left = m.sent_a; each = m.each_a; are = refl; sends = sends_nothing ends.other ends.there w m.hears_there.flows })
    (record { left = m.sent_b; each = m.each_b; are = refl; sends = sends_nothing ends.mine ends.here v m.hears_here.flows }) rest.1
    (ran_lossy options n _ settled' rest.0 run rest.2 runs) in
    let x : SendsOn ends.mine ends.here v all.here = all.holds_here.sends in
    let y : SendsOn ends.other ends.there w all.there = all.holds_there.sends in
    let counts : Settles (counts_shown options (turns_after earlier)) sides.A (length v.shown) (length w.shown) = settles sides.A options earlier v w at in
    let next : BothHear options all.here all.there ends (counts_shown options (turns_after earlier)) = record {
      hears_here = hears_then b all.there.endpoint.options v all.here ends.mine ends.here ends.there y.goes.options x.goes m.hears_here;
      hears_there = hears_then a all.here.endpoint.options w all.there ends.other ends.there ends.here x.goes.options y.goes m.hears_there;
      keep_a = x.goes.options ∙ m.keep_a;
      keep_b = y.goes.options ∙ m.keep_b;
      before_a = v.shown;
      before_b = w.shown;
      sent_a = x.sent;
      sent_b = y.sent;
      each_a = all_speak ends.here x.sent x.carried;
      each_b = all_speak ends.there y.sent y.carried;
      shown_a = x.shown ∙ ap (λ (o : Options). v.shown ++ bytes_of o x.sent) (sym x.goes.options);
      shown_b = y.shown ∙ ap (λ (o : Options). w.shown ++ bytes_of o y.sent) (sym y.goes.options);
      settled_a = counts.mine;
      settled_b = counts.others;
    } in
    let h : BothGoOn options run all.here all.there ends =
    both_go_on wire n options all.here all.there ends (counts_shown options (turns_after earlier)) settled' rest.0 run next all.at rest.2 runs in
    record {
      last_here = h.last_here;
      last_there = h.last_there;
      at = h.at;
      goes_here = goes_then ends.mine ends.here v all.here h.last_here x.goes h.goes_here;
      goes_there = goes_then ends.other ends.there w all.there h.last_there y.goes h.goes_there;
    }

-- ---- either side

-- Each has just sent these.
pub record BothSpoke (side : Side) (options : Both Options) (v w : View) (ends : Ends) (settled : Both ℕ) : Type 0 where
  pub hears_mine : Hears w.endpoint.options v ends.mine ends.here ends.there
  pub hears_other : Hears v.endpoint.options w ends.other ends.there ends.here
  pub keep : KeepOf side options v w
  pub before_mine : List (List ℕ)
  pub before_other : List (List ℕ)
  pub sent_mine : List Emission
  pub sent_other : List Emission
  pub each_mine : AllSpeak ends.here sent_mine
  pub each_other : AllSpeak ends.there sent_other
  pub shown_mine : v.shown ≡ before_mine ++ bytes_of v.endpoint.options sent_mine
  pub shown_other : w.shown ≡ before_other ++ bytes_of w.endpoint.options sent_other
  pub counts : Settles settled side (length before_mine) (length before_other)

pub record GoOnOf (side : Side) (options : Both Options) (run : List PerformedAct) (v w : View) (ends : Ends) : Type 0 where
  pub mine : View
  pub other : View
  pub at : AtOf side options run mine other
  pub goes_mine : GoesOn ends.mine ends.here v mine
  pub goes_other : GoesOn ends.other ends.there w other

pub go_on_of : Wire → (n : ℕ) (side : Side) (options : Both Options) (v w : View) (ends : Ends) (settled settled' : Both ℕ) (earlier run : List PerformedAct) → BothSpoke side options v w ends settled
    → AtOf side options earlier v w → LossyExchanges options n settled earlier settled' run → SocketRun options run → GoOnOf side options run v w ends
go_on_of wire n sides.A options v w ends settled settled' earlier run m at rest runs =
    let h : BothGoOn options run v w ends = both_go_on wire n options v w ends settled settled' earlier run
    (record {
      hears_here = m.hears_mine;
      hears_there = m.hears_other;
      keep_a = m.keep.a;
      keep_b = m.keep.b;
      before_a = m.before_mine;
      before_b = m.before_other;
      sent_a = m.sent_mine;
      sent_b = m.sent_other;
      each_a = m.each_mine;
      each_b = m.each_other;
      shown_a = m.shown_mine;
      shown_b = m.shown_other;
      settled_a = m.counts.mine;
      settled_b = m.counts.others;
    }) at rest runs in
    record { mine = h.last_here; other = h.last_there; at = h.at; goes_mine = h.goes_here; goes_other = h.goes_there }
go_on_of wire n sides.B options v w ends settled settled' earlier run m at rest runs =
    let h : BothGoOn options run w v (crosswise ends) = both_go_on wire n options w v (crosswise ends) settled settled' earlier run
    (record {
      hears_here = m.hears_other;
      hears_there = m.hears_mine;
      keep_a = m.keep.a;
      keep_b = m.keep.b;
      before_a = m.before_other;
      before_b = m.before_mine;
      sent_a = m.sent_other;
      sent_b = m.sent_mine;
      each_a = m.each_other;
      each_b = m.each_mine;
      shown_a = m.shown_other;
      shown_b = m.shown_mine;
      settled_a = m.counts.others;
      settled_b = m.counts.mine;
    }) at rest runs in
    record { mine = h.last_there; other = h.last_here; at = h.at; goes_mine = h.goes_there; goes_other = h.goes_here }

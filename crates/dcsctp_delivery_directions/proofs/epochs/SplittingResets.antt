-- A reset is performed in a run in which requests to reset streams end in turn.
use Rattle.dcsctp_delivery_directions.specs.directions.Directions.{is_in_turn}
use Rattle.std.proofs.Common.{◌≡◌, ℕ, Bool, true, false, ◌<◌, ◌≤◌, ◌+◌, ◌-◌, ◌%◌, ◌^◌, List, [], ◌∷◌, length, refl, sym, ◌∙◌, ap, arith, subst, inl, inr}
use Rattle.std.specs.Prelude.{◌⊎◌, Option, None, Some, not, if◌then◌else◌}
use Rattle.std.specs.List.{AllByRecursion}
use Rattle.dcsctp_spec.specs.types.queues.Messages.{MessageContent}
use Rattle.dcsctp_spec.specs.endpoint.BegunResets.{BegunReset}
use Rattle.dcsctp_spec.specs.queues.Numbers.{is_tsn_beyond}
use Rattle.dcsctp_spec.specs.queues.Reassembly.{DeferralModel, ReassemblyState, names_stream, waiting_of, EndsDeferral}
use Rattle.dcsctp_delivery_directions.specs.sending.Places.{HasEntry, at_place}
use Rattle.dcsctp_delivery_directions.specs.sending.Log.{Piece, Mark}
use Rattle.dcsctp_delivery_directions.specs.sending.Numbers.{stream_named}
use Rattle.dcsctp_delivery_directions.specs.receiving.Clear.{IsOwn}
use Rattle.dcsctp_delivery_directions.specs.receiving.Received.{WaitBeyond, DefersData}
use Rattle.dcsctp_delivery_directions.specs.directions.Directions.{PerformedReset, reset_performed, Direction, Asking, is_reset_reached, performs, performs_earlier}
use Rattle.dcsctp_delivery_directions.specs.order.Queue.{Cut}
use Rattle.dcsctp_delivery_directions.proofs.sending.Chunks.{kinds_of}
use Rattle.dcsctp_delivery_directions.proofs.directions.Continuing.{IsOutFor}
use Rattle.dcsctp_delivery_directions.proofs.directions.Performing.{IsNewest, newest_of, passed_before, stepped_performs}
use Rattle.dcsctp_delivery_directions.proofs.directions.Receiving.{stepped_resets}
use Rattle.dcsctp_delivery_directions.proofs.directions.Standing.{Stands, few_of}
use Rattle.dcsctp_delivery_directions.proofs.directions.Steps.{stepped}
use Rattle.dcsctp_delivery_directions.specs.epochs.Sending.{EpochBounds, HaltsIfAsked, IsKnown}
use Rattle.dcsctp_delivery_directions.specs.epochs.Cuts.{cut_added, cuts_with}
use Rattle.dcsctp_delivery_directions.proofs.epochs.AskedSending.{goes_asked}
use Rattle.dcsctp_delivery_directions.proofs.epochs.Behind.{AreBehind, IsPending, handed_shut}
use Rattle.dcsctp_delivery_directions.proofs.epochs.DatedPerformed.{some_held, received_performed, were_performed}
use Rattle.dcsctp_delivery_directions.proofs.epochs.DatedSteps.{ArrivesDated}
use Rattle.dcsctp_delivery_directions.proofs.epochs.ReadCounts.{ready_grows}
use Rattle.dcsctp_delivery_directions.proofs.epochs.Ages.{IsRecut, recut_same, recut_one}
use Rattle.dcsctp_delivery_directions.proofs.epochs.ReadyFits.{content_fits, waiting_apart}
use Rattle.dcsctp_delivery_directions.proofs.epochs.Splitting.{IsKnownCut, AreSorted, HasCut, HaveCuts, SplitsSo}

module _ (first : ℕ) (old : Direction) (small : first < 2 ^ 32) (opened : ℕ → Bool) (begun : ℕ → ℕ) (asked : ℕ → EpochBounds) (d : SplitsSo first old opened begun asked) where
  abbrev s : Stands first old
  s = d.goes.stands

  module _ (newest : BegunReset) (earlier : List BegunReset) (new : ReassemblyState) (asks : old.asking.requests ≡ newest ∷ earlier) (unknown : old.asking.is_performed ≡ false) (reached : is_reset_reached newest.reset old.tracker ≡ true)
      (own : IsOwn newest.reset old.reassembly.deferral) (leaves : EndsDeferral newest.reset.streams old.reassembly new) where
    abbrev pub index : ℕ
    index = length old.read + length new.incoming.ready

    -- the resets with this one
    abbrev pub added : ℕ → List Cut
    added = cuts_with newest.reset.streams index (λ id place. false) asked d.cuts

    its_mark : IsNewest s.history.marks newest
    its_mark = newest_of s.history.marks newest earlier (sym s.asked ∙ asks)

    some_out : 0 < old.asking.out
    some_out = elim (d.unended unknown) [ inl none ↦ absurd (let clash : ◌≡◌ {A = List BegunReset} (newest ∷ earlier) [] = sym asks ∙ none in cc) | inr some ↦ some ]

    out_for : (id : ℕ) → names_stream newest.reset.streams id ≡ true → IsOutFor s.history its_mark.mark old.queues.queue.streams id
    out_for id names = d.named its_mark.mark its_mark.earlier its_mark.is some_out id (subst (λ (b : BegunReset). names_stream b.reset.streams id ≡ true) (sym its_mark.begins) names)

    up : length old.reassembly.incoming.ready ≤ length new.incoming.ready
    up = ready_grows newest.reset.streams old.reassembly new leaves

    -- all that was sent on the stream was queued before
    halts : (id place : ℕ) → names_stream newest.reset.streams id ≡ true → (asked id).newest ≡ Some place → (n : ℕ) (f : Piece) → at_place n s.history.log ≡ Some (Some f) → f.message.stream ≡ id → f.place < place
    halts id place names is n f at on = go (asked id).newest is (d.goes.each id).stops
      where
        go : (o : Option ℕ) → o ≡ Some place → HaltsIfAsked o s.history old.queues.queue id → f.place < place
        go None none stops = absurd (cc)
        go (Some other) same stops =
            let one : other ≡ place = cc in
            let low = (stops (handed_shut (stream_named id old.queues.queue.streams).pause (out_for id names).handed)).sent n f at on in
            omega (arith, one, low)

    recuts : (id : ℕ) → IsRecut s.history.log id (length old.read + length old.reassembly.incoming.ready) (d.cuts id) (added id)
    recuts id = go (names_stream newest.reset.streams id) refl (asked id).newest refl
      where
        go : (b : Bool) → names_stream newest.reset.streams id ≡ b → (o : Option ℕ) → (asked id).newest ≡ o
            → IsRecut s.history.log id (length old.read + length old.reassembly.incoming.ready) (d.cuts id) (if b then cut_added index (λ place. false) o (d.cuts id) else d.cuts id)
        go false names o is = recut_same refl
        go true names None is = recut_same refl
        go true names (Some place) is = recut_one (record { index = index; place = place; is_whole = false }) refl (let more = up in omega (arith, more)) (halts id place names is)

    apart_same : (id : ℕ) → names_stream newest.reset.streams id ≡ false → added id ≡ d.cuts id
    apart_same id names = ap (λ (b : Bool). if b then cut_added index (λ place. false) (asked id).newest (d.cuts id) else d.cuts id) names

    -- a reset of the stream is one of before, or this one
    data IsAdded (id : ℕ) (x : Cut) : Type 0 where
      was_there : HasEntry x (d.cuts id) → IsAdded id x
      is_this : (place : ℕ) → (asked id).newest ≡ Some place → names_stream newest.reset.streams id ≡ true → x ≡ record { index = index; place = place; is_whole = false } → IsAdded id x

    added_cases : (id : ℕ) (x : Cut) → HasEntry x (added id) → IsAdded id x
    added_cases id x has = go (names_stream newest.reset.streams id) refl (asked id).newest refl has
      where
        go : (b : Bool) → names_stream newest.reset.streams id ≡ b → (o : Option ℕ) → (asked id).newest ≡ o → HasEntry x (if b then cut_added index (λ place. false) o (d.cuts id) else d.cuts id) → IsAdded id x
        go false names o is has' = was_there has'
        go true names None is has' = was_there has'
        go true names (Some place) is has' = elim has' [ inl e ↦ is_this place is names e | inr t ↦ was_there t ]

    added_has : (id : ℕ) (x : Cut) → HasEntry x (d.cuts id) → HasEntry x (added id)
    added_has id x has = go (names_stream newest.reset.streams id) (asked id).newest
      where
        go : (b : Bool) (o : Option ℕ) → HasEntry x (if b then cut_added index (λ place. false) o (d.cuts id) else d.cuts id)
        go true None = has
        go true (Some place) = inr has
        go false o = has

    added_behind : AreBehind old.queues.queue.streams asked added
    added_behind id x has = go (added_cases id x has)
      where
        go : IsAdded id x → (x.place ≤ (asked id).ended) ⊎ IsPending old.queues.queue.streams id (asked id) x
        go (was_there before) = d.behind id x before
        go (is_this place is names e) = inr (record { handed = (out_for id names).handed; place = place; newest = is; below = (let same : x.place ≡ place = ap (λ (c : Cut). c.place) e in omega (arith, same)) })

    -- each of before was asked for before
    below_newest : (id place : ℕ) (x : Cut) → (asked id).newest ≡ Some place → HasEntry x (d.cuts id) → x.place ≤ place
    below_newest id place x is has =
        elim (d.behind id x has) [
          | inl low ↦ (let high = ((d.goes.each id).newest place is).0 in omega (arith, low, high))
          | inr p ↦ (let both : Some place ≡ Some p.place = sym is ∙ p.newest in let same : place ≡ p.place = cc in let below = p.below in omega (arith, below, same))
        ]

    added_sorted : (id : ℕ) → AreSorted (added id)
    added_sorted id = go (names_stream newest.reset.streams id) (asked id).newest refl
      where
        go : (b : Bool) (o : Option ℕ) → (asked id).newest ≡ o → AreSorted (if b then cut_added index (λ place. false) o (d.cuts id) else d.cuts id)
        go false o is = d.sorted id
        go true None is = d.sorted id
        go true (Some place) is = ((λ x has. ((let low = (d.each id x has).index_low in let more = up in omega (arith, low, more)), below_newest id place x is has)), d.sorted id)

    performed_each : (now : Asking) → (id : ℕ) (x : Cut) → HasEntry x (added id) → IsKnownCut first s.history (record old { reassembly = new; performed = reset_performed newest.reset.streams old.read new ∷ old.performed; asking = now }) id x
    performed_each now id x has = go (added_cases id x has)
      where
        go : IsAdded id x → IsKnownCut first s.history (record old { reassembly = new; performed = reset_performed newest.reset.streams old.read new ∷ old.performed; asking = now }) id x
        go (was_there before) =
            let k = d.each id x before in
            record { place_low = k.place_low; index_low = (let low = k.index_low in let more = up in omega (arith, low, more)); bounded = k.bounded }
        go (is_this place is names e) =
            let m = its_mark in
            let has_mark : HasEntry m.mark s.history.marks = subst (λ (l : List Mark). HasEntry m.mark l) (sym m.is) (inl refl) in
            let is_mark = s.queues.marks m.mark has_mark in
            let out = out_for id names in
            record {
              place_low = (let same : x.place ≡ place = ap (λ (c : Cut). c.place) e in let high = ((d.goes.each id).newest place is).1 in omega (arith, same, high));
              index_low = (let same : x.index ≡ index = ap (λ (c : Cut). c.index) e in omega (arith, same));
              bounded = record {
                bound = m.mark.bound;
                passed = λ little. (
                    let within = is_mark.within in
                    let last : newest.reset.last_tsn ≡ (first + m.mark.bound + (2 ^ 32 - 1)) % 2 ^ 32 = ap (λ (b : BegunReset). b.reset.last_tsn) (sym m.begins) ∙ is_mark.last in
                    passed_before first m.mark.bound old.tracker.cumulative (s.arrived little).received.tracks.started (omega (arith, within, little))
                    (subst (λ (k : ℕ). not (is_tsn_beyond k (old.tracker.cumulative % 2 ^ 32)) ≡ true) last reached)
                    );
                since = λ n f at on high. absurd (let low = out.below n f at on in omega (arith, low, high));
              };
            }

    performed_have : HaveCuts opened added old.beginning (reset_performed newest.reset.streams old.read new ∷ old.performed)
    performed_have id open_first reset has names =
        elim has [
          | inl e ↦ subst (λ (r : PerformedReset). HasCut old.beginning (added id) id r.index) (sym e) (this (subst (λ (r : PerformedReset). names_stream r.streams id ≡ true) e names))
          | inr t ↦ (let c = d.have id open_first reset t names in record { cut = c.cut; has = added_has id c.cut c.has; index_is = c.index_is; asked = c.asked })
        ]
      where
        this : names_stream newest.reset.streams id ≡ true → HasCut old.beginning (added id) id index
        this named =
            let k : IsKnown (asked id) = d.goes.known id open_first (handed_shut (stream_named id old.queues.queue.streams).pause (out_for id named).handed) in
            rw named (rw k.is (record { cut = record { index = index; place = k.place; is_whole = false }; has = inl refl; index_is = refl; asked = d.are id k.place k.is }))

    performed_arrives : (fits : (c : MessageContent) → HasEntry c new.incoming.ready → c.ppid < 2 ^ 32) → length s.history.log < 2 ^ 31 → old.queues.queue.is_interleaved ≡ false → ArrivesDated first s.history added old.queued old.read old.tracker new
    performed_arrives fits little unmixed =
        let a = d.arrives little unmixed in
        let m = its_mark in
        let has_mark : HasEntry m.mark s.history.marks = subst (λ (l : List Mark). HasEntry m.mark l) (sym m.is) (inl refl) in
        let is_mark = s.queues.marks m.mark has_mark in
        let last : newest.reset.last_tsn ≡ (first + m.mark.bound + (2 ^ 32 - 1)) % 2 ^ 32 = ap (λ (b : BegunReset). b.reset.last_tsn) (sym m.begins) ∙ is_mark.last in
        let plain = s.arrived little in
        let apart = waits m.mark.bound is_mark.within last little (λ id names. (out_for id names).below) plain.received.later old.reassembly.deferral own plain.received.beyond plain.received.defers in
        record {
          places = a.places;
          were = were_performed old.queued s.history d.cuts added first (length old.read) a.places s.queues.cut (kinds_of s.queues.numbers (sym unmixed)) (few_of first s.history small little) newest.reset.streams old.tracker old.reassembly new apart_same recuts
              (λ id x has. (d.each id x has).index_low) apart leaves a.received old.read refl a.were;
          once = a.once;
          received = received_performed old.queued s.history d.cuts added first (length old.read) a.places s.queues.cut (kinds_of s.queues.numbers (sym unmixed)) (few_of first s.history small little) newest.reset.streams old.tracker old.reassembly new apart_same recuts
              (λ id x has. (d.each id x has).index_low) apart leaves a.received fits;
        }
      where
        waits : (bound : ℕ) → bound ≤ length s.history.log → newest.reset.last_tsn ≡ (first + bound + (2 ^ 32 - 1)) % 2 ^ 32 → length s.history.log < 2 ^ 31
            → ((id : ℕ) → names_stream newest.reset.streams id ≡ true → (n : ℕ) (f : Piece) → at_place n s.history.log ≡ Some (Some f) → f.message.stream ≡ id → n < bound) → (later : List ℕ) (deferral : Option DeferralModel)
            → IsOwn newest.reset deferral → WaitBeyond deferral → DefersData s.history first later (waiting_of deferral) → AllByRecursion (λ one. names_stream newest.reset.streams one.chunk.stream ≡ false) (waiting_of deferral)
        waits bound within last low below later None its beyond defers = tt
        waits bound within last low below later (Some w) its beyond defers = waiting_apart s.history first bound newest.reset.streams small low within below w.last_tsn (its ∙ last) later w.waiting beyond defers

    -- The newest request is performed, as such,
    pub performing : (few : length old.queued < 2 ^ 64) (once : is_in_turn old ≡ true → old.asking.is_performed ≡ false)
        → SplitsSo first (record old { reassembly = new; performed = reset_performed newest.reset.streams old.read new ∷ old.performed; asking = record old.asking { is_performed = true } }) opened begun asked
    unfolding goes_asked stepped stepped_performs
    performing few once =
        let goes = goes_asked first old small opened begun asked d.goes _ few (performs newest earlier new asks once reached own leaves) in
        record {
          goes = goes;
          named = d.named;
          unended = λ no. absurd (cc);
          started = d.started;
          cuts = added;
          behind = added_behind;
          each = performed_each (record old.asking { is_performed = true });
          sorted = added_sorted;
          are = d.are;
          have = performed_have;
          arrives = λ little unmixed. (
              let a = goes.stands.arrived little in
              let held = some_held old.queued s.history first a.received.got a.places new.incoming a.received.holds in
              performed_arrives (content_fits old.queued held.holds.places new.incoming.ready s.fit held.holds.were_queued) little unmixed
              );
        }

    -- or an earlier one is that wants the same.
    pub performing_earlier : (few : length old.queued < 2 ^ 64) (once : is_in_turn old ≡ true → old.asking.is_performed ≡ false)
        → SplitsSo first (record old { reassembly = new; performed = reset_performed newest.reset.streams old.read new ∷ old.performed }) opened begun asked
    unfolding goes_asked stepped stepped_resets
    performing_earlier few once =
        let goes = goes_asked first old small opened begun asked d.goes _ few (performs_earlier newest earlier new asks once reached own leaves) in
        record {
          goes = goes;
          named = d.named;
          unended = d.unended;
          started = d.started;
          cuts = added;
          behind = added_behind;
          each = performed_each old.asking;
          sorted = added_sorted;
          are = d.are;
          have = performed_have;
          arrives = λ little unmixed. (
              let a = goes.stands.arrived little in
              let held = some_held old.queued s.history first a.received.got a.places new.incoming a.received.holds in
              performed_arrives (content_fits old.queued held.holds.places new.incoming.ready s.fit held.holds.were_queued) little unmixed
              );
        }

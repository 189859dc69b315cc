-- Each reset that was performed is a cut at a place where it was asked for.
use Rattle.dcsctp_delivery_directions.specs.directions.Directions.{is_in_turn}
use Rattle.dcsctp_delivery_directions.proofs.directions.InTurn.{turns_of}
use Rattle.std.proofs.Common.{◌≡◌, ℕ, Bool, true, false, ◌<◌, ◌+◌, ◌^◌, List, [], ◌∷◌, length, refl, sym, ◌∙◌, ap, arith, subst, inl, inr, nat_le, take}
use Rattle.std.specs.Prelude.{Option, None, Some, if◌then◌else◌, ◌&&◌}
use Rattle.dcsctp_spec.specs.types.declared.options.Options.{Options}
use Rattle.dcsctp_spec.specs.endpoint.BegunResets.{BegunReset}
use Rattle.dcsctp_spec.specs.queues.Reassembly.{ReassemblyState, names_stream, EndsDeferral}
use Rattle.dcsctp_delivery_directions.specs.sending.Numbers.{stream_named, is_handed_out}
use Rattle.dcsctp_delivery_directions.specs.sending.Log.{Message}
use Rattle.dcsctp_delivery_directions.specs.sending.Places.{HasEntry}
use Rattle.dcsctp_delivery_directions.specs.receiving.Clear.{IsOwn}
use Rattle.dcsctp_delivery_directions.specs.directions.Directions.{Beginning, PerformedReset, reset_performed, Direction, Asking, is_reset_reached, assigned_count, DirectionRun, begins, goes_on, starts, DirectionStep, queues, sets, prepares, commits, rolls_back, flushes, resends, resends_nothing, speaks, asks_again, renews, turns_aside, acknowledges, loses, receives, forwards, receives_interleaved, forwards_interleaved, tracks, defers, performs, performs_earlier, resets, takes}
use Rattle.dcsctp_delivery_directions.proofs.directions.Calm.{none_has, none_asked}
use Rattle.dcsctp_delivery_directions.proofs.directions.Losing.{same_beginning}
use Rattle.dcsctp_delivery_directions.proofs.directions.Steps.{more_queued}
use Rattle.dcsctp_delivery_directions.specs.order.Queue.{Cut, Separates, LeaveNoGapBefore, HaveAllBefore}
use Rattle.dcsctp_delivery_directions.proofs.order.PlainSteps.{same_kind}
use Rattle.dcsctp_delivery_directions.specs.epochs.Sending.{EpochBounds, IsKnown}
use Rattle.dcsctp_delivery_directions.specs.epochs.Directions.{asked_of, opened_of}
use Rattle.dcsctp_delivery_directions.specs.epochs.Cuts.{AreDeliveredByEpoch, cut_added, cuts_with, cuts_after, cuts_of, known_asks, is_cut_whole, cuts_ended}
use Rattle.dcsctp_delivery_directions.specs.epochs.Asked.{AreCutAsAsked, known_fulls}
use Rattle.dcsctp_delivery_directions.proofs.epochs.AskedBounds.{AreAsked, asked_on}
use Rattle.dcsctp_delivery_directions.proofs.epochs.Behind.{handed_shut}
use Rattle.dcsctp_delivery_directions.proofs.epochs.Delivering.{DeliversSo}
use Rattle.dcsctp_delivery_directions.proofs.epochs.DeliveringRuns.{run_delivers, directions_deliver_by_epoch}
use Rattle.dcsctp_delivery_directions.proofs.epochs.Performing.{handed}

-- ---- what was performed

-- Nothing was performed before something was asked for.
abbrev NoneEarly : Direction → Type 0
NoneEarly direction = direction.asking.requests ≡ [] → direction.performed ≡ []

none_newest : (requests : List BegunReset) (newest : BegunReset) (earlier : List BegunReset) → requests ≡ newest ∷ earlier → requests ≡ [] → ⊥
none_newest requests newest earlier is none = (let clash : ◌≡◌ {A = List BegunReset} (newest ∷ earlier) [] = sym is ∙ none in cc)

early_on : (old direction : Direction) (step : DirectionStep old direction) → NoneEarly old → NoneEarly direction
early_on old _ (queues now sending fits some) early none = early (none_asked old _ (queues now sending fits some) none)
early_on old _ (sets setting fits) early none = early (none_asked old _ (sets setting fits) none)
early_on old _ (prepares ids fit kept) early none = early (none_asked old _ (prepares ids fit kept) none)
early_on old _ (commits go_on) early none = early (none_asked old _ (commits go_on) none)
early_on old _ (rolls_back unmixed) early none = early (none_asked old _ (rolls_back unmixed) none)
early_on old _ (flushes e draft answers same no_data allowed) early none = early (none_asked old _ (flushes e draft answers same no_data allowed) none)
early_on old _ (resends now room transfer left tsns chunks emission known sends fill contents) early none = early (none_asked old _ (resends now room transfer left tsns chunks emission known sends fill contents) none)
early_on old _ (resends_nothing now room transfer left tsns known sends) early none = early (none_asked old _ (resends_nothing now room transfer left tsns known sends) none)
early_on old _ (speaks emission no_data) early none = early (none_asked old _ (speaks emission no_data) none)
early_on old _ (asks_again emission begun was contents) early none = early (none_asked old _ (asks_again emission begun was contents) none)
early_on old _ (renews emission newest earlier number asks out contents) early none = early (none_asked old _ (renews emission newest earlier number asks out contents) none)
early_on old _ (turns_aside transfer new known same) early none = early (none_asked old _ (turns_aside transfer new known same) none)
early_on old _ (acknowledges now sack transfer new known valid reached does) early none = early (none_asked old _ (acknowledges now sack transfer new known valid reached does) none)
early_on old _ (loses now transfer known) early none = early (none_asked old _ (loses now transfer known) none)
early_on old _ (receives emission chunk theirs new was holds some same same' does) early none = early (none_asked old _ (receives emission chunk theirs new was holds some same same' does) none)
early_on old _ (forwards emission tsn streams theirs new was holds same same' does) early none = early (none_asked old _ (forwards emission tsn streams theirs new was holds same same' does) none)
early_on old _ (receives_interleaved emission chunk theirs new was holds some same same' does) early none = early (none_asked old _ (receives_interleaved emission chunk theirs new was holds some same same' does) none)
early_on old _ (forwards_interleaved emission tsn streams theirs new was holds same same' does) early none = early (none_asked old _ (forwards_interleaved emission tsn streams theirs new was holds same same' does) none)
early_on old _ (tracks new cumulative ranges) early none = early (none_asked old _ (tracks new cumulative ranges) none)
early_on old _ (defers last_tsn streams some) early none = early (none_asked old _ (defers last_tsn streams some) none)
early_on old _ (performs newest earlier new asks unknown reached own leaves) early none = absurd (none_newest old.asking.requests newest earlier asks none)
early_on old _ (performs_earlier newest earlier new asks unknown reached own leaves) early none = absurd (none_newest old.asking.requests newest earlier asks none)
early_on old _ (resets streams new unmixed some leaves) early none = absurd (none_has old.asking.requests streams some none)
early_on old _ (takes message messages ready) early none = early (none_asked old _ (takes message messages ready) none)

-- A cut of this index is there, at a place where the reset was asked for.
pub record HasCut (sized : Bool) (beginning : Beginning) (cuts : List Cut) (id index : ℕ) : Type 0 where
  pub cut : Cut
  pub has : HasEntry cut cuts
  pub index_is : cut.index ≡ index
  pub whole_is : cut.is_whole ≡ is_cut_whole sized beginning id cut.place
  pub asked : beginning.asks id cut.place ≡ true

-- So it is of each reset that was performed, on each stream that was open first.
abbrev pub HaveCuts : Bool → (ℕ → Bool) → (ℕ → List Cut) → Direction → Type 0
HaveCuts sized opened cuts direction = (id : ℕ) → opened id ≡ true → (reset : PerformedReset) → HasEntry reset direction.performed → names_stream reset.streams id ≡ true → HasCut sized direction.beginning (cuts id) id reset.index

module _ (sized : Bool) (first : ℕ) (old : Direction) (small : first < 2 ^ 32) (opened : ℕ → Bool) (asked : ℕ → EpochBounds) (cuts : ℕ → List Cut) (d : DeliversSo sized first old opened asked cuts) (are : AreAsked old.beginning asked)
    (interleaved : old.queues.queue.is_interleaved ≡ true) (have : HaveCuts sized opened cuts old) where
  module _ (newest : BegunReset) (earlier : List BegunReset) (new : ReassemblyState) (asks : old.asking.requests ≡ newest ∷ earlier) (unknown : is_in_turn old ≡ true → old.asking.is_performed ≡ false)
      (reached : is_reset_reached newest.reset old.tracker ≡ true) (own : IsOwn newest.reset old.reassembly.deferral) (leaves : EndsDeferral newest.reset.streams old.reassembly new) where
    abbrev index : ℕ
    index = length old.read + length new.incoming.ready

    -- It is known when the reset was asked for.
    known : (id : ℕ) → opened id ≡ true → names_stream newest.reset.streams id ≡ true → IsKnown (asked id)
    known id open_first names =
        d.goes.known interleaved id open_first
        (handed_shut (stream_named id old.queues.queue.streams).pause (handed sized first old small opened asked cuts d newest earlier new asks unknown reached own leaves interleaved id names))

    new_cut : (id : ℕ) → opened id ≡ true → names_stream newest.reset.streams id ≡ true → HasCut sized old.beginning (cuts_with newest.reset.streams index (is_cut_whole sized old.beginning) asked cuts id) id index
    new_cut id open_first names =
        let k = known id open_first names in
        rw names (rw k.is (record { cut = record { index = index; place = k.place; is_whole = is_cut_whole sized old.beginning id k.place }; has = inl refl; index_is = refl; whole_is = refl; asked = are id k.place k.is }))

    cut_kept : (id : ℕ) (cut : Cut) (b : Bool) (o : Option ℕ) → HasEntry cut (cuts id) → HasEntry cut (if b then cut_added index (is_cut_whole sized old.beginning id) o (cuts id) else cuts id)
    cut_kept id cut true None has = has
    cut_kept id cut true (Some place) has = inr has
    cut_kept id cut false o has = has

    performing_cuts : HaveCuts sized opened (cuts_with newest.reset.streams index (is_cut_whole sized old.beginning) asked cuts) (record old { reassembly = new; performed = reset_performed newest.reset.streams old.read new ∷ old.performed })
    performing_cuts id open_first reset has names =
        elim has [
          | inl e ↦
              subst (λ (r : PerformedReset). HasCut sized old.beginning (cuts_with newest.reset.streams index (is_cut_whole sized old.beginning) asked cuts id) id r.index) (sym e)
              (new_cut id open_first (subst (λ (r : PerformedReset). names_stream r.streams id ≡ true) e names))
          | inr t ↦
              (let c = have id open_first reset t names in
              record { cut = c.cut; has = cut_kept id c.cut (names_stream newest.reset.streams id) (asked id).newest c.has; index_is = c.index_is; whole_is = c.whole_is; asked = c.asked })
        ]

  abbrev ended_index : ℕ
  ended_index = length old.read + length old.reassembly.incoming.ready

  ending_cuts : HaveCuts sized opened (cuts_ended old.queues.queue.streams ended_index (is_cut_whole sized old.beginning) asked cuts) old
  ending_cuts id open_first reset has names =
      let c = have id open_first reset has names in
      record { cut = c.cut; has = go c.cut c.has (is_handed_out (stream_named id old.queues.queue.streams).pause) (asked id).newest; index_is = c.index_is; whole_is = c.whole_is; asked = c.asked }
    where
      go : (cut : Cut) → HasEntry cut (cuts id) → (b : Bool) (o : Option ℕ) → HasEntry cut (if b then cut_added ended_index (is_cut_whole sized old.beginning id) o (cuts id) else cuts id)
      go cut was true None = was
      go cut was true (Some place) = inr was
      go cut was false o = was

  cuts_on : (direction : Direction) (step : DirectionStep old direction) → HaveCuts sized opened (cuts_after sized old direction step asked cuts) direction
  cuts_on _ (queues now sending fits some) = have
  cuts_on _ (sets setting fits) = have
  cuts_on _ (prepares ids fit kept) = have
  cuts_on _ (commits go_on) = ending_cuts
  cuts_on _ (rolls_back unmixed) = have
  cuts_on _ (flushes e draft answers same no_data allowed) = have
  cuts_on _ (resends now room transfer left tsns chunks emission known sends fill contents) = have
  cuts_on _ (resends_nothing now room transfer left tsns known sends) = have
  cuts_on _ (speaks emission no_data) = have
  cuts_on _ (asks_again emission begun was contents) = have
  cuts_on _ (renews emission newest earlier number asks out contents) = have
  cuts_on _ (turns_aside transfer new known same) = have
  cuts_on _ (acknowledges now sack transfer new known valid reached does) = have
  cuts_on _ (loses now transfer known) = have
  cuts_on _ (receives emission chunk theirs new was holds some same same' does) = have
  cuts_on _ (forwards emission tsn streams theirs new was holds same same' does) = have
  cuts_on _ (receives_interleaved emission chunk theirs new was holds some same same' does) = have
  cuts_on _ (forwards_interleaved emission tsn streams theirs new was holds same same' does) = have
  cuts_on _ (tracks new cumulative ranges) = have
  cuts_on _ (defers last_tsn streams some) = have
  cuts_on _ (performs newest earlier new asks unknown reached own leaves) = performing_cuts newest earlier new asks unknown reached own leaves
  cuts_on _ (performs_earlier newest earlier new asks unknown reached own leaves) = performing_cuts newest earlier new asks unknown reached own leaves
  cuts_on _ (resets streams new unmixed some leaves) = absurd (let clash : true ≡ false = sym (turns_of old interleaved) ∙ unmixed in cc)
  cuts_on _ (takes message messages ready) = have

-- ---- a run

-- Nothing is performed where nothing was asked for.
pub none_performed : (options : Options) (first size : ℕ) (direction : Direction) → DirectionRun options first size direction → direction.asking.requests ≡ [] → direction.performed ≡ []
none_performed options first size _ (begins direction b) none = b.performed
none_performed options first size _ (goes_on old direction run step) none = early_on old direction step (none_performed options first size old run) none
none_performed options first size _ (starts old queued below beginning run awaited fit waits idle begun) none = none_performed options first size old run (ap (λ (x : Asking). x.requests) awaited.asking)

pub record AsksSo (sized : Bool) (direction : Direction) (opened : ℕ → Bool) (asked : ℕ → EpochBounds) (cuts : ℕ → List Cut) : Type 0 where
  pub are : AreAsked direction.beginning asked
  pub have : direction.queues.queue.is_interleaved ≡ true → HaveCuts sized opened cuts direction

asks_new : (sized : Bool) (direction : Direction) (opened : ℕ → Bool) → direction.performed ≡ [] → AsksSo sized direction opened (λ id. record { newest = None; ended = 0 }) (λ id. [])
asks_new sized direction opened none =
    record {
      are = λ id place is. absurd (cc);
      have = λ interleaved id open_first reset has. absurd (subst (HasEntry reset) none has);
    }

pub run_asks : (options : Options) (first size : ℕ) (direction : Direction) → first < 2 ^ 32 → length direction.queued < 2 ^ 64 → (run : DirectionRun options first size direction)
    → AsksSo (nat_le size (2 ^ 63)) direction (opened_of options first size direction run) (asked_of options first size direction run) (cuts_of options first size direction run)
run_asks options first size _ small few (begins direction b) = asks_new (nat_le size (2 ^ 63)) direction _ b.performed
run_asks options first size _ small few (goes_on old direction run step) =
    let fewer : length old.queued < 2 ^ 64 = omega (arith, few, more_queued old direction step) in
    let a = run_asks options first size old small fewer run in
    let d = run_delivers options first size old small fewer run in
    record {
      are = asked_on old direction step (asked_of options first size old run) a.are;
      have = λ interleaved. (
          let was : old.queues.queue.is_interleaved ≡ true = sym (same_kind old direction step) ∙ interleaved in
          cuts_on (nat_le size (2 ^ 63)) first old small (opened_of options first size old run) (asked_of options first size old run) (cuts_of options first size old run) d a.are was (a.have was) direction step
          );
    }
run_asks options first size _ small few (starts old queued below beginning run awaited fit waits none begun) =
    asks_new (nat_le size (2 ^ 63)) (record old { queued = queued; queues = below; prepared = []; beginning = beginning }) _ (none_performed options first size old run (ap (λ (x : Asking). x.requests) awaited.asking))

-- Where the numbers begin at 0 each stream was open first.
pub opened_so : (options : Options) (first size : ℕ) (direction : Direction) (run : DirectionRun options first size direction) → direction.beginning.from_zero ≡ true → (id : ℕ) → opened_of options first size direction run id ≡ true
opened_so options first size _ (begins direction b) from id = (b.begun.zero from).unpaused id
opened_so options first size _ (goes_on old direction run step) from id = opened_so options first size old run (ap (λ (b : Beginning). b.from_zero) (sym (same_beginning old direction step)) ∙ from) id
opened_so options first size _ (starts old queued below beginning run awaited fit waits none begun) from id = (begun.zero from).unpaused id

-- Where the sender began with all that was queued, it is known when each reset was asked for.
pub whole_before : (sized : Bool) (beginning : Beginning) (queued : List Message) (id end : ℕ) (places : List ℕ) → beginning.has_all ≡ true → LeaveNoGapBefore sized (known_asks beginning id) queued id end places → LeaveNoGapBefore sized (beginning.asks id) queued id end places
whole_before sized beginning queued id end places whole = subst (λ (b : Bool). LeaveNoGapBefore sized (λ (count : ℕ). if b then beginning.asks id count else true) queued id end places → LeaveNoGapBefore sized (beginning.asks id) queued id end places) (sym whole) (λ gap. gap)

pub whole_all : (beginning : Beginning) (queued : List Message) (id index : ℕ) (cut : Cut) (places : List ℕ) → beginning.has_all ≡ true → cut.index ≡ index → HaveAllBefore (known_asks beginning id) queued id cut places
    → HaveAllBefore (beginning.asks id) queued id (record { index = index; place = cut.place; is_whole = true }) places
whole_all beginning queued id index cut places whole same all place on free below one =
    subst (λ (k : ℕ). HasEntry place (take k places)) same
    (all place on free below (λ count from to. ap (λ (b : Bool). if b then beginning.asks id count else true) whole ∙ one count from to))

-- Each reset that was performed was asked for, by what is known of a run.
unfoldable pub cut_as_asked : (size : ℕ) (direction : Direction) (opened : ℕ → Bool) (asked : ℕ → EpochBounds) (cuts : ℕ → List Cut) (d : AreDeliveredByEpoch (nat_le size (2 ^ 63)) (known_asks direction.beginning) cuts direction.queued direction.read)
    → AsksSo (nat_le size (2 ^ 63)) direction opened asked cuts → direction.queues.queue.is_interleaved ≡ true → ((id : ℕ) → opened id ≡ true)
    → AreCutAsAsked direction.beginning.has_all (nat_le size (2 ^ 63)) direction.beginning.asks (known_fulls size direction.beginning) direction.performed direction.queued direction.read
cut_as_asked size direction opened asked cuts d a interleaved opens =
    record {
      ordered = d.ordered;
      cut = λ id reset has names. (
          let c = a.have interleaved id (opens id) reset has names in
          record {
            place = c.cut.place;
            asked = c.asked;
            before = d.before id c.cut c.has;
            separates = subst (λ (k : ℕ). Separates direction.queued id k c.cut.place d.ordered.delivered.places) c.index_is (d.epochs id c.cut c.has);
            no_gap = λ whole. whole_before (nat_le size (2 ^ 63)) direction.beginning direction.queued id c.cut.place d.ordered.delivered.places whole (d.no_gaps id c.cut c.has);
            all = λ whole full low. whole_all direction.beginning direction.queued id reset.index c.cut d.ordered.delivered.places whole c.index_is
                (d.complete id c.cut c.has (c.whole_is ∙ ap (λ (b : Bool). b && known_fulls size direction.beginning id c.cut.place) whole ∙ full) (let same = c.index_is in omega (arith, low, same)));
          }
          );
      no_gap = λ whole id. whole_before (nat_le size (2 ^ 63)) direction.beginning direction.queued id (length direction.queued) d.ordered.delivered.places whole (d.no_gap id);
    }

pub directions_cut_as_asked : (options : Options) (first size : ℕ) (direction : Direction) → DirectionRun options first size direction → first < 2 ^ 32 → assigned_count direction < 2 ^ 31 → length direction.queued < 2 ^ 64
    → direction.queues.queue.is_interleaved ≡ true → direction.beginning.from_zero ≡ true → AreCutAsAsked direction.beginning.has_all (nat_le size (2 ^ 63)) direction.beginning.asks (known_fulls size direction.beginning) direction.performed direction.queued direction.read
directions_cut_as_asked options first size direction run small little few interleaved from =
    cut_as_asked size direction (opened_of options first size direction run) (asked_of options first size direction run) (cuts_of options first size direction run) (directions_deliver_by_epoch options first size direction run small little few interleaved from)
    (run_asks options first size direction small few run) interleaved (opened_so options first size direction run from)

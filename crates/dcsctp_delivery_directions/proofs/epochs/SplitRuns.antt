-- Where requests to reset streams end in turn, each reset that was performed separates what was queued before it was asked for
-- from what was queued since.
use Rattle.std.proofs.Common.{◌≡◌, ℕ, zero, suc, Bool, true, false, ◌<◌, ◌≤◌, ◌+◌, ◌*◌, ◌^◌, List, [], ◌∷◌, length, nat_lt, refl, sym, ◌∙◌, ap, arith, subst, inl, inr}
use Rattle.std.specs.Prelude.{◌⊎◌, Some}
use Rattle.std.proofs.lemmas.Bool.Decides.{leb_tells, nat_tests}
use Rattle.dcsctp_spec.specs.types.declared.options.Options.{Options}
use Rattle.dcsctp_spec.specs.types.queues.Messages.{MessageContent}
use Rattle.std.specs.List.{AllByRecursion}
use Rattle.dcsctp_delivery_directions.specs.sending.Places.{HasEntry, at_place}
use Rattle.dcsctp_delivery_directions.specs.sending.Log.{Message, Fits, new_history}
use Rattle.dcsctp_delivery_directions.specs.receiving.Ready.{WereQueued}
use Rattle.dcsctp_delivery_directions.specs.directions.Directions.{Direction, Asking, assigned_count, DirectionRun, begins, goes_on, starts, DirectionStep, queues, sets, prepares, commits, rolls_back, flushes, resends, resends_nothing, speaks, asks_again, renews, turns_aside, acknowledges, loses, receives, forwards, receives_interleaved, forwards_interleaved, tracks, defers, performs, performs_earlier, resets, takes}
use Rattle.dcsctp_delivery_directions.specs.order.Queue.{Cut, Separates}
use Rattle.dcsctp_delivery_directions.proofs.directions.Continuing.{begun_history, started_history}
use Rattle.dcsctp_delivery_directions.proofs.directions.Directions.{begun_stands, started_stands}
use Rattle.dcsctp_delivery_directions.proofs.directions.Standing.{Stands}
use Rattle.dcsctp_delivery_directions.proofs.directions.Steps.{more_queued}
use Rattle.dcsctp_delivery_directions.specs.epochs.Sending.{EpochBounds, never_asked, is_open}
use Rattle.dcsctp_delivery_directions.specs.epochs.Directions.{asked_after, asked_of, opened_of}
use Rattle.dcsctp_delivery_directions.specs.epochs.InTurn.{starts_after, starts_of, EndsInTurn, RunsInTurn, AreSplitInTurn}
use Rattle.dcsctp_delivery_directions.proofs.epochs.AskedSending.{new_asked, run_asked}
use Rattle.dcsctp_delivery_directions.proofs.epochs.CutsAsked.{none_performed, opened_so}
use Rattle.dcsctp_delivery_directions.proofs.epochs.Dated.{age_of_place, age_of_index, dated_queued, dated_contents, queued_from}
use Rattle.dcsctp_delivery_directions.proofs.epochs.DatedReceived.{place_young, index_young}
use Rattle.dcsctp_delivery_directions.proofs.epochs.Splitting.{AreSorted, SplitsSo, no_cuts, arrives_undated, further}
use Rattle.dcsctp_delivery_directions.proofs.epochs.SplittingEnds.{ending}
use Rattle.dcsctp_delivery_directions.proofs.epochs.ReadyFits.{fits_at, content_fits}
use Rattle.dcsctp_delivery_directions.proofs.epochs.SplittingResets.{performing, performing_earlier}

-- ---- what ages say

-- A message is as old as what was ready of it: so it was queued before a reset was asked for if it was ready before that was
-- performed, and else since.
pub record IsApart (x : Cut) (place index : ℕ) : Type 0 where
  pub before : index < x.index → place < x.place
  pub since : x.index ≤ index → x.place ≤ place

older : (m n : ℕ) → m < n → nat_lt m n ≡ true
older m n low = grind (arith, nat_tests, low)

younger : (m n : ℕ) → n ≤ m → nat_lt m n ≡ false
younger m n up = grind (arith, nat_tests, up)

pub ages_tell : (cuts : List Cut) (place index : ℕ) → AreSorted cuts → age_of_place cuts place ≡ age_of_index cuts index → (x : Cut) → HasEntry x cuts → IsApart x place index
ages_tell [] place index sorted same x has = absurd has
ages_tell (c ∷ cuts) place index sorted same x has =
    elim (leb_tells c.place place) [
      | inl late ↦ elim (leb_tells c.index index) [
        | inl late' ↦ elim has [
          | inl e ↦ subst (λ (y : Cut). IsApart y place index) (sym e) (record { before = λ less. absurd (let up = late'.1 in omega (arith, less, up)); since = λ up. late.1 })
          | inr t ↦
              (let both = sorted.0 x t in
              record {
                before = λ less. absurd (let up = late'.1 in let low = both.0 in omega (arith, less, up, low));
                since = λ up. (let high = late.1 in let low = both.1 in omega (arith, high, low));
              })
        ]
        | inr early ↦ absurd
            (let none : age_of_place cuts place ≡ 0 = place_young cuts place (λ y has'. (let low = (sorted.0 y has').1 in let up = late.1 in omega (arith, low, up))) in
            let clash : age_of_place cuts place ≡ suc (age_of_index cuts index) = rw (younger place c.place late.1) at rw (older index c.index (let less = early.1 in omega (arith, less))) at same in
            omega (arith, none, clash))
      ]
      | inr early ↦ elim (leb_tells c.index index) [
        | inl late' ↦ absurd
            (let none : age_of_index cuts index ≡ 0 = index_young cuts index (λ y has'. (let low = (sorted.0 y has').0 in let up = late'.1 in omega (arith, low, up))) in
            let clash : suc (age_of_place cuts place) ≡ age_of_index cuts index = rw (older place c.place (let less = early.1 in omega (arith, less))) at rw (younger index c.index late'.1) at same in
            omega (arith, none, clash))
        | inr early' ↦ elim has [
          | inl e ↦
              subst (λ (y : Cut). IsApart y place index) (sym e)
              (record { before = λ less. (let low = early.1 in omega (arith, low)); since = λ up. absurd (let low = early'.1 in omega (arith, up, low)) })
          | inr t ↦
              ages_tell cuts place index sorted.1
              (let both : suc (age_of_place cuts place) ≡ suc (age_of_index cuts index) =
              rw (older place c.place (let less = early.1 in omega (arith, less))) at rw (older index c.index (let less = early'.1 in omega (arith, less))) at same in
              omega (arith, both)) x t
        ]
      ]
    ]

-- ---- what was read

module _ (queued : List Message) (cuts : ℕ → List Cut) (fit : AllByRecursion Fits queued) where
  -- Each message that was read is as old as what was read of it.
  abbrev pub AgeAlike : ℕ → List ℕ → Type 0
  AgeAlike index [] = Unit {0}
  AgeAlike index (place ∷ places) = ((m : Message) → at_place place queued ≡ Some m → age_of_place (cuts m.stream) place ≡ age_of_index (cuts m.stream) index) × AgeAlike (suc index) places

  pub undate : (index : ℕ) (places : List ℕ) (contents : List MessageContent) → ((c : MessageContent) → HasEntry c contents → c.ppid < 2 ^ 32) → WereQueued (dated_queued cuts queued) places (dated_contents cuts index contents)
      → WereQueued queued places contents × AgeAlike index places
  undate index [] [] fits were = (tt, tt)
  undate index [] (c ∷ contents) fits were = absurd were
  undate index (p ∷ places) [] fits were = absurd were
  undate index (p ∷ places) (c ∷ contents) fits were =
      let d = queued_from cuts p were.0.message queued were.0.at in
      let stream : c.stream ≡ d.plain.stream = were.0.stream ∙ ap (λ (m : Message). m.stream) d.is in
      let ppid : c.ppid + 2 ^ 32 * age_of_index (cuts c.stream) index ≡ d.plain.ppid + 2 ^ 32 * age_of_place (cuts d.plain.stream) p = were.0.ppid ∙ ap (λ (m : Message). m.ppid) d.is in
      let low = fits c (inl refl) in
      let low' = (fits_at p d.plain queued fit d.at).ppid in
      let rest = undate (suc index) places contents (λ x has. fits x (inr has)) were.1 in
      let ages : age_of_index (cuts c.stream) index ≡ age_of_place (cuts d.plain.stream) p = omega (arith, ppid, low, low') in (
        (record { message = d.plain; at = d.at; stream = stream; ppid = omega (arith, ppid, low, low'); payload = were.0.payload ∙ ap (λ (m : Message). m.payload) d.is }, rest.0),
        (
          λ m at. (
              let both : Some d.plain ≡ Some m = sym d.at ∙ at in
              let one : d.plain ≡ m = cc in
              subst (λ (x : Message). age_of_place (cuts x.stream) p ≡ age_of_index (cuts x.stream) index) one (sym ages ∙ ap (λ (k : ℕ). age_of_index (cuts k) index) stream)
              ),
          rest.1,
        ),
      )

  -- So each reset separates them.
  pub separate : (id : ℕ) (x : Cut) → AreSorted (cuts id) → HasEntry x (cuts id) → (index left : ℕ) (places : List ℕ) → (left + index ≡ x.index) ⊎ ((left ≡ 0) × (x.index ≤ index)) → AgeAlike index places → Separates queued id left x.place places
  separate id x sorted has index left [] here ages = tt
  separate id x sorted has index zero (p ∷ places) here ages =
      let late : x.index ≤ index = elim here [ inl e ↦ omega (arith, e) | inr e ↦ e.1 ] in (
        λ on. (ages_tell (cuts id) p index sorted (subst (λ (k : ℕ). age_of_place (cuts k) p ≡ age_of_index (cuts k) index) on.stream (ages.0 on.message on.at)) x has).since late,
        separate id x sorted has (suc index) zero places (inr (refl, omega (arith, late))) ages.1,
      )
  separate id x sorted has index (suc left) (p ∷ places) here ages =
      let at : suc left + index ≡ x.index = elim here [ inl e ↦ e | inr e ↦ absurd (omega (arith, e.0)) ] in (
        λ on. (ages_tell (cuts id) p index sorted (subst (λ (k : ℕ). age_of_place (cuts k) p ≡ age_of_index (cuts k) index) on.stream (ages.0 on.message on.at)) x has).before (omega (arith, at)),
        separate id x sorted has (suc index) left places (inl (omega (arith, at))) ages.1,
      )

-- ---- a run

new_split : (first : ℕ) (direction : Direction) (s : Stands first direction) (floors : ℕ → Bool → ℕ) → s.history ≡ new_history floors → direction.asking.out ≡ 0 → direction.asking.requests ≡ [] → direction.performed ≡ []
    → SplitsSo first direction (λ id. is_open id direction.queues.queue.streams) (λ id. 0) (λ id. never_asked)
unfolding new_asked
new_split first direction s floors is none_out none_asked none =
    record {
      goes = new_asked first direction s floors is;
      named = λ mark earlier has some. absurd (omega (arith, some, none_out));
      unended = λ unknown. inl none_asked;
      started = λ id. omega arith;
      cuts = no_cuts;
      behind = λ id x has. absurd has;
      each = λ id x has. absurd has;
      sorted = λ id. tt;
      are = λ id place never. absurd (cc);
      have = λ id open_first reset has. absurd (subst (HasEntry reset) none has);
      arrives = λ little unmixed. arrives_undated first s.history direction (s.arrived little);
    }

splits_on : (first : ℕ) (old : Direction) (small : first < 2 ^ 32) (opened : ℕ → Bool) (begun : ℕ → ℕ) (asked : ℕ → EpochBounds) → SplitsSo first old opened begun asked → (direction : Direction) → length direction.queued < 2 ^ 64 → (step : DirectionStep old direction)
    → EndsInTurn old direction step → SplitsSo first direction opened (starts_after old direction step begun) (asked_after old direction step asked)
splits_on first old small opened begun asked d _ few (commits go_on) turn = ending first old small opened begun asked d few go_on turn.1
splits_on first old small opened begun asked d _ few (rolls_back unmixed) turn = absurd turn
splits_on first old small opened begun asked d _ few (performs newest earlier new asks unknown reached own leaves) turn = performing first old small opened begun asked d newest earlier new asks turn reached own leaves few unknown
splits_on first old small opened begun asked d _ few (performs_earlier newest earlier new asks unknown reached own leaves) turn = performing_earlier first old small opened begun asked d newest earlier new asks turn reached own leaves few unknown
splits_on first old small opened begun asked d _ few (resets streams new unmixed some leaves) turn = absurd turn
splits_on first old small opened begun asked d _ few (queues now sending fits some) turn = further first old small opened begun asked d _ few (queues now sending fits some) tt tt
splits_on first old small opened begun asked d _ few (sets setting fits) turn = further first old small opened begun asked d _ few (sets setting fits) tt tt
splits_on first old small opened begun asked d _ few (prepares ids fit dropped) turn = further first old small opened begun asked d _ few (prepares ids fit dropped) tt tt
splits_on first old small opened begun asked d _ few (flushes e draft answers same no_data allowed) turn = further first old small opened begun asked d _ few (flushes e draft answers same no_data allowed) tt tt
splits_on first old small opened begun asked d _ few (resends now room transfer left tsns chunks emission known sends are contents) turn = further first old small opened begun asked d _ few (resends now room transfer left tsns chunks emission known sends are contents) tt tt
splits_on first old small opened begun asked d _ few (resends_nothing now room transfer left tsns known sends) turn = further first old small opened begun asked d _ few (resends_nothing now room transfer left tsns known sends) tt tt
splits_on first old small opened begun asked d _ few (speaks emission no_data) turn = further first old small opened begun asked d _ few (speaks emission no_data) tt tt
splits_on first old small opened begun asked d _ few (asks_again emission request was contents) turn = further first old small opened begun asked d _ few (asks_again emission request was contents) tt tt
splits_on first old small opened begun asked d _ few (renews emission newest earlier number asks out contents) turn = further first old small opened begun asked d _ few (renews emission newest earlier number asks out contents) tt tt
splits_on first old small opened begun asked d _ few (turns_aside transfer new known same) turn = further first old small opened begun asked d _ few (turns_aside transfer new known same) tt tt
splits_on first old small opened begun asked d _ few (acknowledges now sack transfer new known valid reached does) turn = further first old small opened begun asked d _ few (acknowledges now sack transfer new known valid reached does) tt tt
splits_on first old small opened begun asked d _ few (loses now transfer known) turn = further first old small opened begun asked d _ few (loses now transfer known) tt tt
splits_on first old small opened begun asked d _ few (receives emission chunk theirs new was holds some same same' does) turn = further first old small opened begun asked d _ few (receives emission chunk theirs new was holds some same same' does) tt tt
splits_on first old small opened begun asked d _ few (forwards emission tsn streams theirs new was holds same same' does) turn = further first old small opened begun asked d _ few (forwards emission tsn streams theirs new was holds same same' does) tt tt
splits_on first old small opened begun asked d _ few (receives_interleaved emission chunk theirs new was holds some same same' does) turn = further first old small opened begun asked d _ few (receives_interleaved emission chunk theirs new was holds some same same' does) tt tt
splits_on first old small opened begun asked d _ few (forwards_interleaved emission tsn streams theirs new was holds same same' does) turn = further first old small opened begun asked d _ few (forwards_interleaved emission tsn streams theirs new was holds same same' does) tt tt
splits_on first old small opened begun asked d _ few (tracks new cumulative ranges) turn = further first old small opened begun asked d _ few (tracks new cumulative ranges) tt tt
splits_on first old small opened begun asked d _ few (defers last_tsn streams some) turn = further first old small opened begun asked d _ few (defers last_tsn streams some) tt tt
splits_on first old small opened begun asked d _ few (takes message messages ready) turn = further first old small opened begun asked d _ few (takes message messages ready) tt tt

pub run_splits : (options : Options) (first size : ℕ) (direction : Direction) → first < 2 ^ 32 → length direction.queued < 2 ^ 64 → (run : DirectionRun options first size direction) → RunsInTurn options first size direction run
    → SplitsSo first direction (opened_of options first size direction run) (starts_of options first size direction run) (asked_of options first size direction run)
run_splits options first size _ small few (begins direction b) turns =
    new_split first direction (begun_stands options first size direction small b) b.queues.floors (begun_history options first size direction small b) (ap (λ (a : Asking). a.out) b.asking) (ap (λ (a : Asking). a.requests) b.asking) b.performed
run_splits options first size _ small few (goes_on old direction run step) turns =
    splits_on first old small (opened_of options first size old run) (starts_of options first size old run) (asked_of options first size old run)
    (run_splits options first size old small (omega (arith, few, more_queued old direction step)) run turns.0) direction few step turns.1
run_splits options first size _ small few (starts old queued below beginning run awaited fit waits none begun) turns =
    let none_queued : length old.queued ≡ 0 = ap (λ (l : List Message). length l) awaited.queued in
    let g = run_asked options first size old small (omega (arith, none_queued)) run in
    new_split first (record old { queued = queued; queues = below; prepared = []; beginning = beginning }) (started_stands first old queued below beginning g.stands awaited small fit waits none) waits.floors
    (started_history first old queued below beginning g.stands awaited small fit waits none) (ap (λ (a : Asking). a.out) awaited.asking) (ap (λ (a : Asking). a.requests) awaited.asking)
    (none_performed options first size old run (ap (λ (a : Asking). a.requests) awaited.asking))

pub directions_split_as_asked : (options : Options) (first size : ℕ) (direction : Direction) (run : DirectionRun options first size direction) → RunsInTurn options first size direction run → first < 2 ^ 32 → assigned_count direction < 2 ^ 31 → length direction.queued < 2 ^ 64
    → direction.queues.queue.is_interleaved ≡ false → direction.beginning.from_zero ≡ true → AreSplitInTurn direction.beginning.asks direction.performed direction.queued direction.read
directions_split_as_asked options first size direction run turns small few' few unmixed from =
    let d = run_splits options first size direction small few run turns in
    let s = d.goes.stands in
    let count = s.count in
    let little : length s.history.log < 2 ^ 31 = omega (arith, count, few') in
    let a = d.arrives little unmixed in
    let plain = s.arrived little in
    let both = undate direction.queued d.cuts s.fit 0 a.places direction.read (content_fits direction.queued plain.places direction.read s.fit plain.were) a.were in
    record {
      delivered = record { places = a.places; were_queued = both.0; once = a.once };
      split = λ id reset has names. (
          let c = d.have id (opened_so options first size direction run from id) reset has names in
          record {
            place = c.cut.place;
            asked = c.asked;
            before = (d.each id c.cut c.has).place_low;
            separates = subst (λ (k : ℕ). Separates direction.queued id k c.cut.place a.places) c.index_is
                (separate direction.queued d.cuts s.fit id c.cut (d.sorted id) c.has 0 c.cut.index a.places (inl (omega arith)) both.1);
          }
          );
    }

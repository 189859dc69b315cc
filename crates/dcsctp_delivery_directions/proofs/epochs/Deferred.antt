-- A deferred reset of a direction is one that its sender has asked for, and what waits for its end is of its streams (RFC 6525,
-- section 5.2.2).
use Rattle.std.proofs.Common.{◌≡◌, ℕ, Bool, true, false, List, [], ◌∷◌, ◌++◌, map, refl, sym, ◌∙◌, ap, subst, inl, inr, length}
use Rattle.std.specs.Prelude.{◌&&◌, Option, None, Some}
use Rattle.std.specs.List.{AllByRecursion}
use Rattle.dcsctp_spec.specs.types.declared.arrivals.SkippedTo.{SkippedTo}
use Rattle.dcsctp_spec.specs.types.declared.options.Options.{Options}
use Rattle.dcsctp_spec.specs.endpoint.BegunResets.{BegunReset}
use Rattle.dcsctp_spec.specs.queues.Arrivals.{Arrival, data_arrival, i_data_arrival, named_skips, skipped_messages}
use Rattle.dcsctp_spec.specs.queues.Numbers.{is_tsn_beyond}
use Rattle.dcsctp_spec.specs.queues.Reassembly.{WaitingModel, DeferralModel, ReassemblyState, AddsData, SkipsData, can_count, is_data_deferred, is_forward_deferred, with_waiting, begun_deferral, names_stream}
use Rattle.dcsctp_spec.specs.queues.Tracker.{is_valid_tsn, is_new_tsn, is_forward}
use Rattle.dcsctp_spec.specs.queues.Transfer.{Transfer}
use Rattle.dcsctp_spec.specs.endpoint.TransferMoves.{AddsIfNew, has_room, dropping, ReceivesIfRoom, ReceivesData, SkipsIfMoved, MovesIfForward, MovesForward}
use Rattle.dcsctp_delivery_directions.specs.sending.Places.{HasEntry}
use Rattle.dcsctp_delivery_directions.specs.sending.Log.{Mark}
use Rattle.dcsctp_delivery_directions.specs.sending.Flushes.{begun_reset_of}
use Rattle.dcsctp_delivery_directions.specs.directions.Directions.{Direction, HasAskedUpTo, Asking, asking_with, DirectionStep, queues, sets, prepares, commits, rolls_back, flushes, resends, resends_nothing, speaks, asks_again, renews, turns_aside, acknowledges, loses, receives, forwards, receives_interleaved, forwards_interleaved, tracks, defers, performs, performs_earlier, resets, takes, DirectionRun, begins, goes_on, starts}
use Rattle.dcsctp_delivery_directions.specs.order.Received.{IsLastAssigned, IsNamedWaiting}
use Rattle.dcsctp_delivery_directions.proofs.directions.Standing.{Stands}
use Rattle.dcsctp_delivery_directions.proofs.receiving.Kept.{deferred_by}

-- The reset that is deferred was asked for.
pub record IsAskedDeferral (requests : List BegunReset) (deferral : DeferralModel) : Type 0 where
  pub begun : BegunReset
  pub has : HasEntry begun requests
  pub last : begun.reset.last_tsn ≡ deferral.last_tsn
  pub named : AllByRecursion (λ (one : WaitingModel). names_stream deferral.streams one.chunk.stream ≡ true) deferral.waiting

abbrev pub AsAsked : List BegunReset → Option DeferralModel → Type 0
AsAsked requests None = Unit {0}
AsAsked requests (Some deferral) = IsAskedDeferral requests deferral

more_asked : (requests later : List BegunReset) (d : Option DeferralModel) → ((b : BegunReset) → HasEntry b requests → HasEntry b later) → AsAsked requests d → AsAsked later d
more_asked requests later None among held = tt
more_asked requests later (Some d) among held = record { begun = held.begun; has = among held.begun held.has; last = held.last; named = held.named }

named_more : (streams : List ℕ) (one : WaitingModel) (waiting : List WaitingModel) → names_stream streams one.chunk.stream ≡ true → AllByRecursion (λ (w : WaitingModel). names_stream streams w.chunk.stream ≡ true) waiting
    → AllByRecursion (λ (w : WaitingModel). names_stream streams w.chunk.stream ≡ true) (waiting ++ one ∷ [])
named_more streams one [] is all = (is, tt)
named_more streams one (w ∷ waiting) is all = (all.0, named_more streams one waiting is all.1)

second : (b c : Bool) → (b && c) ≡ true → c ≡ true
second true c is = is
second false c is = absurd (cc)

module _ (requests : List BegunReset) where
  waiting_asked : (tsn : ℕ) (one : WaitingModel) (d : Option DeferralModel) → is_data_deferred tsn one.chunk.stream d ≡ true → AsAsked requests d → AsAsked requests (with_waiting one d)
  waiting_asked tsn one None is held = tt
  waiting_asked tsn one (Some d) is held =
      record { begun = held.begun; has = held.has; last = held.last; named = named_more d.streams one d.waiting (second (is_tsn_beyond tsn d.last_tsn) (names_stream d.streams one.chunk.stream) is) held.named }

  same_asked : (old new : ReassemblyState) → new.deferral ≡ old.deferral → AsAsked requests old.deferral → AsAsked requests new.deferral
  same_asked old new same held = subst (AsAsked requests) (sym same) held

  received_asked : (arrival : Arrival) (old new : Transfer) → ReceivesData arrival old new → AsAsked requests old.reassembly.deferral → AsAsked requests new.reassembly.deferral
  received_asked arrival old new does held = go (has_room arrival.tsn old && is_valid_tsn old.tracker.cumulative arrival.tsn) does
    where
      added : AddsData arrival.tsn arrival.chunk old.reassembly new.reassembly → (b : Bool) → can_count (length arrival.chunk.payload) old.reassembly ≡ b → (c : Bool) → is_data_deferred arrival.tsn arrival.chunk.stream old.reassembly.deferral ≡ c → AsAsked requests new.reassembly.deferral
      added adds false counts c deferred = same_asked old.reassembly new.reassembly (ap (λ (s : ReassemblyState). s.deferral) (adds.too_much counts)) held
      added adds true counts true deferred =
          subst (AsAsked requests) (sym (ap (λ (s : ReassemblyState). s.deferral) (adds.deferred counts deferred))) (waiting_asked arrival.tsn (record { tsn = arrival.tsn; chunk = arrival.chunk }) old.reassembly.deferral deferred held)
      added adds true counts false deferred = same_asked old.reassembly new.reassembly (adds.taken counts deferred).deferral held

      by_new : (b : Bool) → AddsIfNew b arrival.tsn arrival.chunk old.reassembly new.reassembly → AsAsked requests new.reassembly.deferral
      by_new true adds = added adds (can_count (length arrival.chunk.payload) old.reassembly) refl (is_data_deferred arrival.tsn arrival.chunk.stream old.reassembly.deferral) refl
      by_new false same = same_asked old.reassembly new.reassembly (ap (λ (s : ReassemblyState). s.deferral) same) held

      dropped : (b : Bool) → new ≡ dropping b old → AsAsked requests new.reassembly.deferral
      dropped true same = same_asked old.reassembly new.reassembly (ap (λ (t : Transfer). t.reassembly.deferral) same) held
      dropped false same = same_asked old.reassembly new.reassembly (ap (λ (t : Transfer). t.reassembly.deferral) same) held

      go : (b : Bool) → ReceivesIfRoom b arrival old new → AsAsked requests new.reassembly.deferral
      go true taken = by_new (is_new_tsn arrival.tsn old.tracker) taken.reassembly
      go false same = dropped (old.tracker.follows_rfc && is_valid_tsn old.tracker.cumulative arrival.tsn) same

  forwarded_asked : (tsn : ℕ) (entries : List SkippedTo) (old new : Transfer) → MovesForward tsn entries old new → AsAsked requests old.reassembly.deferral → AsAsked requests new.reassembly.deferral
  forwarded_asked tsn entries old new moves held = go (is_valid_tsn old.tracker.cumulative tsn) moves
    where
      skipped : SkipsData tsn entries old.reassembly new.reassembly → (b : Bool) → is_forward_deferred tsn old.reassembly.deferral ≡ b → AsAsked requests new.reassembly.deferral
      skipped skips true is =
          let (waits, same, far) = deferred_by tsn old.reassembly.deferral is in
          let was : IsAskedDeferral requests waits = subst (AsAsked requests) same held in
          subst (AsAsked requests) (sym (skips.deferred is waits same).deferral) (record { begun = was.begun; has = was.has; last = was.last; named = was.named })
      skipped skips false is = same_asked old.reassembly new.reassembly (skips.moved is).deferral held

      moved : (b : Bool) → SkipsIfMoved b tsn entries old.reassembly new.reassembly → AsAsked requests new.reassembly.deferral
      moved true skips = skipped skips (is_forward_deferred tsn old.reassembly.deferral) refl
      moved false same = same_asked old.reassembly new.reassembly (ap (λ (s : ReassemblyState). s.deferral) same) held

      go : (b : Bool) → MovesIfForward b tsn entries old new → AsAsked requests new.reassembly.deferral
      go true goes = moved (is_forward old.tracker.cumulative tsn) goes.reassembly
      go false same = same_asked old.reassembly new.reassembly (ap (λ (t : Transfer). t.reassembly.deferral) same) held

  before_asked : (old : ReassemblyState) (theirs : Transfer) → theirs.reassembly ≡ old → AsAsked requests old.deferral → AsAsked requests theirs.reassembly.deferral
  before_asked old theirs same held = subst (AsAsked requests) (sym (ap (λ (s : ReassemblyState). s.deferral) same)) held

flushed_among : (begun : Option BegunReset) (asking : Asking) (b : BegunReset) → HasEntry b asking.requests → HasEntry b (asking_with begun asking).requests
flushed_among None asking b has = has
flushed_among (Some begun) asking b has = inr has

deferring_asked : (last_tsn : ℕ) (streams : List ℕ) (requests : List BegunReset) → HasAskedUpTo requests last_tsn streams → (reassembly : ReassemblyState) (d : Option DeferralModel) → AsAsked requests d → AsAsked requests (begun_deferral last_tsn streams d)
deferring_asked last_tsn streams requests some reassembly None held = record { begun = some.asked.begun; has = some.asked.has; last = some.last; named = tt }
deferring_asked last_tsn streams requests some reassembly (Some d) held = held

step_asked : (old direction : Direction) → DirectionStep old direction → AsAsked old.asking.requests old.reassembly.deferral → AsAsked direction.asking.requests direction.reassembly.deferral
step_asked old _ (receives emission chunk theirs new was holds some same same' does) held = received_asked old.asking.requests (data_arrival chunk) theirs new does (before_asked old.asking.requests old.reassembly theirs same' held)
step_asked old _ (forwards emission tsn streams theirs new was holds same same' does) held = forwarded_asked old.asking.requests tsn (named_skips streams) theirs new does (before_asked old.asking.requests old.reassembly theirs same' held)
step_asked old _ (receives_interleaved emission chunk theirs new was holds some same same' does) held = received_asked old.asking.requests (i_data_arrival chunk) theirs new does (before_asked old.asking.requests old.reassembly theirs same' held)
step_asked old _ (forwards_interleaved emission tsn streams theirs new was holds same same' does) held = forwarded_asked old.asking.requests tsn (skipped_messages streams) theirs new does (before_asked old.asking.requests old.reassembly theirs same' held)
step_asked old _ (performs newest earlier new asks unknown reached own leaves) held = subst (AsAsked old.asking.requests) (sym leaves.deferral) tt
step_asked old _ (performs_earlier newest earlier new asks unknown reached own leaves) held = subst (AsAsked old.asking.requests) (sym leaves.deferral) tt
step_asked old _ (resets streams new unmixed some leaves) held = subst (AsAsked old.asking.requests) (sym leaves.deferral) tt
step_asked old _ (queues now sending fits some) held = held
step_asked old _ (sets setting fits) held = held
step_asked old _ (prepares ids fit dropped) held = held
step_asked old _ (commits go_on) held = held
step_asked old _ (rolls_back unmixed) held = held
step_asked old _ (flushes e draft answers same no_data allowed) held = more_asked old.asking.requests (asking_with (begun_reset_of answers) old.asking).requests old.reassembly.deferral (flushed_among (begun_reset_of answers) old.asking) held
step_asked old _ (resends now room transfer left tsns chunks emission known sends are' contents) held = held
step_asked old _ (resends_nothing now room transfer left tsns known sends) held = held
step_asked old _ (speaks emission no_data) held = held
step_asked old _ (asks_again emission begun was contents) held = held
step_asked old _ (renews emission newest earlier number asks out contents) held = more_asked old.asking.requests _ old.reassembly.deferral (λ b has. inr has) held
step_asked old _ (turns_aside transfer next known same) held = held
step_asked old _ (acknowledges now sack transfer next known valid reached does) held = held
step_asked old _ (loses now transfer known) held = held
step_asked old _ (tracks next cumulative ranges) held = held
step_asked old _ (defers last_tsn streams some) held = deferring_asked last_tsn streams old.asking.requests some old.reassembly old.reassembly.deferral held
step_asked old _ (takes taken messages ready) held = held

pub run_asked_so : (options : Options) (first size : ℕ) (direction : Direction) → DirectionRun options first size direction → AsAsked direction.asking.requests direction.reassembly.deferral
run_asked_so options first size _ (begins direction begun) = subst (λ (s : ReassemblyState). AsAsked direction.asking.requests s.deferral) (sym begun.reassembly) tt
run_asked_so options first size _ (goes_on old direction run step) = step_asked old direction step (run_asked_so options first size old run)
run_asked_so options first size _ (starts old queued sender_queues beginning run awaited fit waits none begun) = run_asked_so options first size old run

mark_of : (begun : BegunReset) (marks : List Mark) → HasEntry begun (map (λ (mark : Mark). mark.begun) marks) → (mark : Mark) × HasEntry mark marks × (mark.begun ≡ begun)
mark_of begun [] has = absurd has
mark_of begun (mark ∷ marks) has = elim has [ inl e ↦ (mark, inl refl, sym e) | inr t ↦ (let (other, there, is) = mark_of begun marks t in (other, inr there, is)) ]

-- Its last TSN was assigned, and what waits for it is of its streams.
pub deferral_known : (options : Options) (first size : ℕ) (direction : Direction) → DirectionRun options first size direction → (s : Stands first direction) → IsLastAssigned s.history first direction.reassembly.deferral × IsNamedWaiting direction.reassembly.deferral
deferral_known options first size direction run s = go direction.reassembly.deferral (run_asked_so options first size direction run)
  where
    go : (d : Option DeferralModel) → AsAsked direction.asking.requests d → IsLastAssigned s.history first d × IsNamedWaiting d
    go None held = (tt, tt)
    go (Some d) held =
        let (mark, has, is) = mark_of held.begun s.history.marks (subst (λ (l : List BegunReset). HasEntry held.begun l) s.asked held.has) in
        let m = s.queues.marks mark has in
        ((mark.bound, m.within, sym held.last ∙ ap (λ (b : BegunReset). b.reset.last_tsn) (sym is) ∙ m.last), held.named)

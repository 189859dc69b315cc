-- The numbers of TSNs, and what waits for the end of a deferred reset.
use Rattle.std.proofs.Common.{◌≡◌, ℕ, true, ◌<◌, ◌≤◌, ◌+◌, ◌-◌, ◌%◌, ◌^◌, List, [], ◌∷◌, ◌++◌, refl, sym, ◌∙◌, ap, arith, subst, inl, inr}
use Rattle.std.specs.Prelude.{◌⊎◌, Option, None, Some}
use Rattle.std.proofs.lemmas.Bool.Decides.{nat_tests}
use Rattle.dcsctp_spec_lemmas.specs.types.declared.arrivals.SkippedTo.{SkippedTo}
use Rattle.dcsctp_spec_lemmas.specs.spec.queues.Numbers.{number_near, is_tsn_beyond}
use Rattle.dcsctp_spec_lemmas.specs.spec.queues.IncomingStreams.{ChunkModel}
use Rattle.dcsctp_spec_lemmas.specs.spec.queues.Incoming.{IncomingModel, TakesIncomingChunk, MovesOn, ResetsStreams}
use Rattle.dcsctp_spec_lemmas.specs.spec.queues.Reassembly.{WaitingModel, WaitingSkips, DeferralModel, ReassemblyState, names_stream, is_data_deferred, with_waiting, HandlesAll, SkipsThen, waiting_of, skips_of, EndsDeferral}
use Rattle.dcsctp_spec_lemmas.specs.spec.queues.Tracker.{TrackerState}
use Rattle.dcsctp_delivery_directions.specs.sending.Places.{HasEntry}
use Rattle.dcsctp_delivery_directions.specs.sending.Log.{Message, History, IsLogOfPieces}
use Rattle.dcsctp_delivery_directions.specs.receiving.Ready.{AreDistinct, AreNamed, BearsPiece, HoldsIncoming}
use Rattle.dcsctp_delivery_directions.specs.sending.Numbers.{IsUnambiguous}
use Rattle.dcsctp_delivery_directions.specs.receiving.Received.{CarriesCurrent, IsTsn, AreBeyond, WaitBeyond, kept_entries, SkipsWait, ForwardsWait, CountsFromBase, Reassembles, untouched, placed, DefersData, HasReceived, Few}
use Rattle.dcsctp_delivery_directions.proofs.sending.Places.{at_below}
use Rattle.dcsctp_delivery_directions.proofs.receiving.Joining.{both}
use Rattle.dcsctp_delivery_directions.proofs.receiving.Ready.{holds_on}
use Rattle.dcsctp_delivery_directions.proofs.receiving.Skipping.{skips_on, resets_on}
use Rattle.dcsctp_delivery_directions.proofs.receiving.Tracked.{tsns_read}
use Rattle.dcsctp_delivery_directions.proofs.receiving.Kept.{later_named}

-- ---- numbers

pub first_number : (first offset : ℕ) → first < 2 ^ 32 → offset < 2 ^ 31 → offset ≤ number_near (2 ^ 32) ((first + offset) % 2 ^ 32)
first_number first offset small few = grind (arith, nat_tests)

pub first_base : (first offset : ℕ) → first < 2 ^ 32 → offset < 2 ^ 31 → (number_near (2 ^ 32) ((first + offset) % 2 ^ 32) - offset) % 2 ^ 32 ≡ first
first_base first offset small few = grind (arith, nat_tests)

pub first_near : (first offset : ℕ) → first < 2 ^ 32 → offset < 2 ^ 31 → number_near (2 ^ 32) ((first + offset) % 2 ^ 32) - offset + 2 ^ 32 < 2 ^ 64
first_near first offset small few = grind (arith, nat_tests)

same_tsn : (first base offset : ℕ) → base % 2 ^ 32 ≡ first → (first + offset) % 2 ^ 32 ≡ (base + offset) % 2 ^ 32
same_tsn first base offset same = omega (arith, same)

pub number_read : (first base last offset tsn : ℕ) → CountsFromBase first base last → offset < 2 ^ 31 → tsn ≡ (first + offset) % 2 ^ 32 → number_near last tsn ≡ base + offset
number_read first base last offset tsn is few of =
    ap (λ (l : ℕ). number_near l tsn) is.is ∙ ap (number_near (base + is.worked)) (of ∙ same_tsn first base offset is.same) ∙ tsns_read base is.worked offset is.few few is.near

-- ---- the reassembly queue

unfoldable pub bears_of : (history : History) (first base offset tsn number : ℕ) (chunk : ChunkModel) → CarriesCurrent history first offset tsn chunk → number ≡ base + offset → BearsPiece history base number chunk
bears_of history first base offset tsn number chunk c is =
    record {
      offset = offset;
      piece = c.carries.piece;
      at = c.carries.at;
      current = c.current;
      number = is;
      stream = c.carries.stream;
      numbered = c.carries.numbered;
      ppid = c.carries.ppid;
      payload = c.carries.payload;
      beginning = c.carries.beginning;
      end = c.carries.end;
    }

pub few_behind : (history : History) (first offset tsn : ℕ) (chunk : ChunkModel) → Few history first → CarriesCurrent history first offset tsn chunk → offset < 2 ^ 31
few_behind history first offset tsn chunk f c = omega (arith, f.few, at_below offset (Some c.carries.piece) history.log c.carries.at)

module _ (queued : List Message) (history : History) (first : ℕ) (cut : IsLogOfPieces queued history.log) (told : IsUnambiguous history) (f : Few history first) (read : List ℕ) where
  pub data_handled : (got : List ℕ) (offset tsn : ℕ) (chunk : ChunkModel) (old new : IncomingModel) → CarriesCurrent history first offset tsn chunk → (HasEntry offset got → ⊥) → Reassembles queued history first got read old → TakesIncomingChunk tsn chunk old new
      → Reassembles queued history first (offset ∷ got) read new
  unfolding bears_of
  data_handled got offset tsn chunk old new c fresh (placed base is holds) takes =
      let few = few_behind history first offset tsn chunk f c in
      let number = number_read first base old.last_tsn_number offset tsn is few c.carries.is in
      placed base (record { same = is.same; near = is.near; worked = offset; few = few; is = takes.last ∙ number })
      (holds_on queued history cut told got base tsn read chunk old new (bears_of history first base offset tsn (number_near old.last_tsn_number tsn) chunk c number) fresh holds takes)
  data_handled got offset tsn chunk old new c fresh (untouched none last empty) takes =
      let few = few_behind history first offset tsn chunk f c in
      let base : ℕ = number_near (2 ^ 32) ((first + offset) % 2 ^ 32) - offset in
      let up = first_number first offset f.small few in
      let number : number_near old.last_tsn_number tsn ≡ base + offset = ap (λ (l : ℕ). number_near l tsn) last ∙ ap (number_near (2 ^ 32)) c.carries.is ∙ omega (arith, up) in
      placed base (record { same = first_base first offset f.small few; near = first_near first offset f.small few; worked = offset; few = few; is = takes.last ∙ number })
      (holds_on queued history cut told got base tsn read chunk old new (bears_of history first base offset tsn (number_near old.last_tsn_number tsn) chunk c number) fresh
      (subst (λ (l : List ℕ). HoldsIncoming queued history l base read old) (sym none) (empty base)) takes)

  pub forward_handled : (got : List ℕ) (tsn : ℕ) (entries : List SkippedTo) (old new : IncomingModel) → IsTsn history.log first tsn → AreNamed history entries → Reassembles queued history first got read old → MovesOn tsn entries old new
      → Reassembles queued history first got read new
  forward_handled got tsn entries old new t names (placed base is holds) moves =
      let few : t.offset < 2 ^ 31 = omega (arith, f.few, t.below) in
      let number = number_read first base old.last_tsn_number t.offset tsn is few t.is in
      placed base (record { same = is.same; near = is.near; worked = t.offset; few = few; is = moves.last ∙ number }) (skips_on queued history got base read tsn entries old new names holds moves)
  forward_handled got tsn entries old new t names (untouched none last empty) moves =
      let few : t.offset < 2 ^ 31 = omega (arith, f.few, t.below) in
      let base : ℕ = number_near (2 ^ 32) ((first + t.offset) % 2 ^ 32) - t.offset in
      let up = first_number first t.offset f.small few in
      let number : number_near old.last_tsn_number tsn ≡ base + t.offset = ap (λ (l : ℕ). number_near l tsn) last ∙ ap (number_near (2 ^ 32)) t.is ∙ omega (arith, up) in
      placed base (record { same = first_base first t.offset f.small few; near = first_near first t.offset f.small few; worked = t.offset; few = few; is = moves.last ∙ number })
      (skips_on queued history got base read tsn entries old new names (subst (λ (l : List ℕ). HoldsIncoming queued history l base read old) (sym none) (empty base)) moves)

  pub kept_last : (streams : List ℕ) (old new : IncomingModel) → ResetsStreams streams old new → new.last_tsn_number ≡ old.last_tsn_number
  kept_last [] old new resets = resets.kept.last
  kept_last (reset ∷ others) old new resets = resets.kept.last

  reset_handled : (got streams : List ℕ) (old new : IncomingModel) → Reassembles queued history first got read old → ResetsStreams streams old new → Reassembles queued history first got read new
  reset_handled got streams old new (placed base is holds) resets =
      placed base (subst (λ (l : ℕ). CountsFromBase first base l) (sym (kept_last streams old new resets)) is) (resets_on queued history got base read streams old new holds resets)
  reset_handled got streams old new (untouched none last empty) resets =
      untouched none (kept_last streams old new resets ∙ last) (λ base. resets_on queued history [] base read streams old new (empty base) resets)

  -- ---- what waited for the end of a deferred reset

  -- some more were handled
  record Handled (got later : List ℕ) (new : IncomingModel) : Type 0 where
    now : List ℕ
    holds : Reassembles queued history first now read new
    among : (k : ℕ) → HasEntry k now → HasEntry k later ⊎ HasEntry k got

  all_handled : (got later : List ℕ) (waiting : List WaitingModel) (old new : IncomingModel) → Reassembles queued history first got read old → DefersData history first later waiting → AreDistinct later → ((k : ℕ) → HasEntry k later → HasEntry k got → ⊥)
      → HandlesAll waiting old new → Handled got later new
  all_handled got [] [] old new holds defers distinct apart works = record { now = got; holds = subst (λ (m : IncomingModel). Reassembles queued history first got read m) (sym works) holds; among = λ k h. inr h }
  all_handled got (n ∷ later) [] old new holds defers distinct apart works = absurd defers
  all_handled got [] (one ∷ waiting) old new holds defers distinct apart works = absurd defers
  all_handled got (n ∷ later) (one ∷ waiting) old new holds defers distinct apart (between, takes, rest) =
      let handled = data_handled got n one.tsn one.chunk old between defers.0 (apart n (inl refl)) holds takes in
      let others = all_handled (n ∷ got) later waiting between new handled defers.1 distinct.1
      (λ k h h'. elim h' [ inl e ↦ distinct.0 (subst (λ (j : ℕ). HasEntry j later) e h) | inr t ↦ apart k (inr h) t ]) rest in
      record {
        now = others.now;
        holds = others.holds;
        among = λ k h. elim (others.among k h) [
          | inl l ↦ inl (inr l)
          | inr r ↦ elim r [ inl e ↦ inl (inl e) | inr t ↦ inr t ]
        ];
      }

  -- and what was kept of FORWARD-TSNs is skipped then
  skips_handled : (got : List ℕ) (last_tsn : ℕ) (skips : Option WaitingSkips) (old new : IncomingModel) → SkipsWait history first last_tsn skips → Reassembles queued history first got read old → SkipsThen skips old new → Reassembles queued history first got read new
  skips_handled got last_tsn None old new wait holds same = subst (λ (m : IncomingModel). Reassembles queued history first got read m) (sym same) holds
  skips_handled got last_tsn (Some skips) old new wait holds moves =
      forward_handled got skips.tsn (kept_entries (Some skips)) old new wait.0 (later_named history first last_tsn (kept_entries (Some skips)) wait.1) holds moves

  forwards_handled : (got : List ℕ) (deferral : Option DeferralModel) (old new : IncomingModel) → ForwardsWait history first deferral → Reassembles queued history first got read old → SkipsThen (skips_of deferral) old new
      → Reassembles queued history first got read new
  forwards_handled got None old new wait holds same = subst (λ (m : IncomingModel). Reassembles queued history first got read m) (sym same) holds
  forwards_handled got (Some d) old new wait holds skips = skips_handled got d.last_tsn d.skips old new wait holds skips

  pub left_keeps : (streams : List ℕ) (tracker : TrackerState) (old new : ReassemblyState) → HasReceived queued history first read tracker old → EndsDeferral streams old new → HasReceived queued history first read tracker new
  left_keeps streams tracker old new r leaves =
      let done = all_handled r.got r.later (waiting_of old.deferral) leaves.between leaves.handled (reset_handled r.got streams old.incoming leaves.between r.holds leaves.resets) r.defers r.distinct r.apart leaves.works in
      record {
        taken = r.taken;
        got = done.now;
        later = [];
        tracks = r.tracks;
        got_taken = λ k h. elim (done.among k h) [ inl l ↦ r.later_taken k l | inr g ↦ r.got_taken k g ];
        later_taken = λ k h. absurd h;
        apart = λ k h g. absurd h;
        distinct = tt;
        holds = forwards_handled done.now old.deferral leaves.handled new.incoming r.forwards done.holds leaves.skips;
        defers = subst (λ (d : Option DeferralModel). DefersData history first [] (waiting_of d)) (sym leaves.deferral) tt;
        beyond = subst (λ (d : Option DeferralModel). WaitBeyond d) (sym leaves.deferral) tt;
        forwards = subst (λ (d : Option DeferralModel). ForwardsWait history first d) (sym leaves.deferral) tt;
        old = r.old;
      }

-- ---- more data that waits

defers_data : (history : History) (first offset : ℕ) (last : WaitingModel) (later : List ℕ) (waiting : List WaitingModel) → CarriesCurrent history first offset last.tsn last.chunk → DefersData history first later waiting
    → DefersData history first (later ++ offset ∷ []) (waiting ++ last ∷ [])
defers_data history first offset last [] [] c defers = (c, tt)
defers_data history first offset last (n ∷ later) [] c defers = absurd defers
defers_data history first offset last [] (one ∷ waiting) c defers = absurd defers
defers_data history first offset last (n ∷ later) (one ∷ waiting) c defers = (defers.0, defers_data history first offset last later waiting c defers.1)

-- what is deferred waits after the others
pub waiting_data : (history : History) (first offset tsn : ℕ) (chunk : ChunkModel) (later : List ℕ) (deferral : Option DeferralModel) → is_data_deferred tsn chunk.stream deferral ≡ true → CarriesCurrent history first offset tsn chunk
    → DefersData history first later (waiting_of deferral) → DefersData history first (later ++ offset ∷ []) (waiting_of (with_waiting (record { tsn = tsn; chunk = chunk }) deferral))
waiting_data history first offset tsn chunk later None is c defers = absurd (cc)
waiting_data history first offset tsn chunk later (Some d) is c defers = defers_data history first offset (record { tsn = tsn; chunk = chunk }) later d.waiting c defers

-- it lies beyond the last TSN before the deferred reset, as they do
beyond_data : (last_tsn : ℕ) (last : WaitingModel) (waiting : List WaitingModel) → is_tsn_beyond last.tsn last_tsn ≡ true → AreBeyond last_tsn waiting → AreBeyond last_tsn (waiting ++ last ∷ [])
beyond_data last_tsn last [] is beyond = (is, tt)
beyond_data last_tsn last (one ∷ waiting) is beyond = (beyond.0, beyond_data last_tsn last waiting is beyond.1)

pub waiting_beyond : (tsn : ℕ) (chunk : ChunkModel) (deferral : Option DeferralModel) → is_data_deferred tsn chunk.stream deferral ≡ true → WaitBeyond deferral → WaitBeyond (with_waiting (record { tsn = tsn; chunk = chunk }) deferral)
waiting_beyond tsn chunk None is beyond = tt
waiting_beyond tsn chunk (Some d) is beyond =
    beyond_data d.last_tsn (record { tsn = tsn; chunk = chunk }) d.waiting (both (is_tsn_beyond tsn d.last_tsn) (names_stream d.streams chunk.stream) is).0 beyond

-- and what is to be skipped stays
pub data_forwards : (history : History) (first : ℕ) (last : WaitingModel) (deferral : Option DeferralModel) → ForwardsWait history first deferral → ForwardsWait history first (with_waiting last deferral)
data_forwards history first last None wait = tt
data_forwards history first last (Some d) wait = wait

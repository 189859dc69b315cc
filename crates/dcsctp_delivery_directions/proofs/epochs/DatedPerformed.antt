-- A reset of streams is performed, and what was ready of them is dated anew.
use Rattle.std.proofs.Common.{◌≡◌, ℕ, suc, true, false, ◌<◌, ◌≤◌, ◌+◌, ◌*◌, ◌^◌, List, [], ◌∷◌, ◌++◌, length, nat_lt, refl, sym, ◌∙◌, ap, arith, subst, inl, inr}
use Rattle.std.specs.Prelude.{Option, None, Some}
use Rattle.std.specs.List.{AllByRecursion}
use Rattle.std.proofs.lemmas.List.{append_assoc}
use Rattle.std.proofs.lemmas.Bool.Decides.{nat_tests}
use Rattle.dcsctp_spec.specs.types.queues.Messages.{MessageContent}
use Rattle.dcsctp_spec.specs.types.declared.arrivals.SkippedTo.{SkippedTo}
use Rattle.dcsctp_spec.specs.types.declared.arrivals.SkippedTo.TheVariants.{Ssn, Mid}
use Rattle.dcsctp_spec.specs.queues.Incoming.{IncomingModel}
use Rattle.dcsctp_spec.specs.queues.IncomingStreams.{ChunkModel}
use Rattle.dcsctp_spec.specs.queues.Reassembly.{WaitingModel, DeferralModel, ReassemblyState, names_stream, with_ready, waiting_of, skips_of, EndsDeferral}
use Rattle.dcsctp_spec.specs.queues.Tracker.{TrackerState}
use Rattle.dcsctp_delivery_directions.specs.sending.Places.{HasEntry, at_place}
use Rattle.dcsctp_delivery_directions.specs.sending.Log.{Message, Piece, Slot, History, IsLogOfPieces}
use Rattle.dcsctp_delivery_directions.specs.sending.Numbers.{AreOfKind}
use Rattle.dcsctp_delivery_directions.specs.receiving.Rows.{Spent}
use Rattle.dcsctp_delivery_directions.specs.receiving.Ready.{WereQueued, NamesCurrent, HoldsIncoming}
use Rattle.dcsctp_delivery_directions.specs.receiving.Received.{CarriesCurrent, IsTsn, kept_entries, SkipsLater, SkipsWait, ForwardsWait, DefersData, Reassembles, untouched, placed, HasReceived, Few}
use Rattle.dcsctp_delivery_directions.specs.receiving.Tracked.{Tracks}
use Rattle.dcsctp_delivery_directions.specs.order.Queue.{Cut}
use Rattle.dcsctp_delivery_directions.proofs.receiving.Distinct.{has_left, has_right}
use Rattle.dcsctp_delivery_directions.proofs.receiving.Reassembled.{left_keeps}
use Rattle.dcsctp_delivery_directions.proofs.receiving.Skipping.{resets_on}
use Rattle.dcsctp_delivery_directions.proofs.epochs.Dated.{age_of_place, age_of_index, dated_queued, dated_piece, dated_log, dated_history, dated_contents, log_length, log_to, log_from, queued_from, cut_dated, kinds_dated}
use Rattle.dcsctp_delivery_directions.proofs.epochs.DatedReceived.{index_young, append_dated, told_dated, few_dated, ReceivedDated}
use Rattle.dcsctp_delivery_directions.proofs.epochs.OtherReady.{with_others, all_more, skips_more}
use Rattle.dcsctp_delivery_directions.proofs.epochs.Ages.{IsRecut, recut_same, recut_one, IsSentAt}
use Rattle.dcsctp_delivery_directions.proofs.epochs.ResetAgain.{resets_other, kept_ready, last_kept, resets_again, renewed, parts_apart}
use Rattle.dcsctp_delivery_directions.proofs.epochs.Redated.{moved_at, were_moved, holds_moved}

-- ---- what is held

-- all that is held, by some number of the first TSN
pub record HoldsSome (queued : List Message) (history : History) (got read : List ℕ) (incoming : IncomingModel) : Type 0 where
  pub base : ℕ
  pub handled : List ℕ
  pub holds : HoldsIncoming queued history handled base read incoming

pub some_held : (queued : List Message) (history : History) (first : ℕ) (got read : List ℕ) (incoming : IncomingModel) → Reassembles queued history first got read incoming → HoldsSome queued history got read incoming
some_held queued history first got read incoming (untouched none last empty) = record { base = 0; handled = []; holds = empty 0 }
some_held queued history first got read incoming (placed base is holds) = record { base = base; handled = got; holds = holds }

spent_at : (cuts : ℕ → List Cut) (log : List Slot) (got : List ℕ) (place : ℕ) → Spent (dated_log cuts log) got place → IsSentAt log place
spent_at cuts log got place s = (let d = log_from cuts s.offset s.head log s.at_head in record { offset = s.offset; piece = d.plain; at = d.at; is = ap (λ (x : Piece). x.place) (sym d.is) ∙ s.is })

-- what came last was queued as well
record WasLast (queued : List Message) (places : List ℕ) (contents : List MessageContent) : Type 0 where
  last : List ℕ
  were : WereQueued queued last contents
  among : (place : ℕ) → HasEntry place last → HasEntry place places

were_last : (queued : List Message) (places : List ℕ) (contents more : List MessageContent) → WereQueued queued places (contents ++ more) → WasLast queued places more
were_last queued places [] more were = record { last = places; were = were; among = λ place has. has }
were_last queued [] (c ∷ contents) more were = absurd were
were_last queued (p ∷ places) (c ∷ contents) more were = (let l = were_last queued places contents more were.1 in record { last = l.last; were = l.were; among = λ place has. inr (l.among place has) })

module _ (queued : List Message) (history : History) (cuts cuts' : ℕ → List Cut) (first count : ℕ) (places : List ℕ) (cut : IsLogOfPieces queued history.log) (kinds : AreOfKind false history.log) (few : Few history first) (streams : List ℕ) (tracker : TrackerState)
    (old new : ReassemblyState) (same : (id : ℕ) → names_stream streams id ≡ false → cuts' id ≡ cuts id) (recuts : (id : ℕ) → IsRecut history.log id (count + length old.incoming.ready) (cuts id) (cuts' id))
    (within : (id : ℕ) (c : Cut) → HasEntry c (cuts id) → c.index ≤ count + length old.incoming.ready) (apart : AllByRecursion (λ one. names_stream streams one.chunk.stream ≡ false) (waiting_of old.deferral))
    (leaves : EndsDeferral streams old new) (r : ReceivedDated queued history cuts first count places tracker old) where
  abbrev total : ℕ
  total = count + length old.incoming.ready

  abbrev was_ready : List MessageContent
  was_ready = dated_contents cuts count old.incoming.ready

  abbrev now_ready : List MessageContent
  now_ready = dated_contents cuts' count old.incoming.ready

  holds_reset : (got : List ℕ) (base : ℕ) → HoldsIncoming (dated_queued cuts queued) (dated_history cuts history) got base places (with_others was_ready old.incoming)
      → HoldsIncoming (dated_queued cuts' queued) (dated_history cuts' history) got base places (with_others now_ready leaves.between)
  holds_reset got base h =
      holds_moved queued history cuts cuts' (names_stream streams) total cut same recuts got base places leaves.between (renewed streams old.incoming leaves.between leaves.resets) (parts_apart streams old.incoming leaves.between leaves.resets)
      count old.incoming.ready (omega arith)
      (resets_on (dated_queued cuts queued) (dated_history cuts history) got base places streams (with_others was_ready old.incoming) (with_others was_ready leaves.between) h (resets_other streams was_ready old.incoming leaves.between leaves.resets))

  reassembles_reset : (got : List ℕ) → Reassembles (dated_queued cuts queued) (dated_history cuts history) first got places (with_others was_ready old.incoming)
      → Reassembles (dated_queued cuts' queued) (dated_history cuts' history) first got places (with_others now_ready leaves.between)
  reassembles_reset got (untouched none last empty) = untouched none (last_kept streams old.incoming leaves.between leaves.resets ∙ last) (λ base. holds_reset [] base (empty base))
  reassembles_reset got (placed base is holds) =
      placed base (record { same = is.same; near = is.near; worked = is.worked; few = is.few; is = last_kept streams old.incoming leaves.between leaves.resets ∙ is.is }) (holds_reset got base holds)

  -- ---- what waits

  carries_moved : (offset tsn : ℕ) (chunk : ChunkModel) → names_stream streams chunk.stream ≡ false → CarriesCurrent (dated_history cuts history) first offset tsn chunk → CarriesCurrent (dated_history cuts' history) first offset tsn chunk
  carries_moved offset tsn chunk other c =
      record {
        carries = record {
          piece = c.carries.piece;
          at = moved_at queued history cuts cuts' (names_stream streams) total cut same recuts offset c.carries.piece c.carries.at (ap (names_stream streams) (sym c.carries.stream) ∙ other);
          is = c.carries.is;
          stream = c.carries.stream;
          numbered = c.carries.numbered;
          ppid = c.carries.ppid;
          payload = c.carries.payload;
          beginning = c.carries.beginning;
          end = c.carries.end;
        };
        current = c.current;
      }

  defers_moved : (offsets : List ℕ) (waiting : List WaitingModel) → AllByRecursion (λ one. names_stream streams one.chunk.stream ≡ false) waiting → DefersData (dated_history cuts history) first offsets waiting → DefersData (dated_history cuts' history) first offsets waiting
  defers_moved [] [] other defers = tt
  defers_moved (n ∷ offsets) [] other defers = absurd defers
  defers_moved [] (one ∷ waiting) other defers = absurd defers
  defers_moved (n ∷ offsets) (one ∷ waiting) other defers = (carries_moved n one.tsn one.chunk other.0 defers.0, defers_moved offsets waiting other.1 defers.1)

  same_size : length (dated_log cuts' history.log) ≡ length (dated_log cuts history.log)
  same_size = log_length cuts' history.log ∙ sym (log_length cuts history.log)

  tsn_moved : (tsn : ℕ) → IsTsn (dated_log cuts history.log) first tsn → IsTsn (dated_log cuts' history.log) first tsn
  tsn_moved tsn t = record { offset = t.offset; below = (let size = same_size in let below = t.below in omega (arith, size, below)); is = t.is }

  names_moved : (passed : ℕ) (entry : SkippedTo) → NamesCurrent (dated_history cuts history) passed entry → NamesCurrent (dated_history cuts' history) passed entry
  names_moved passed (Ssn id ssn) names =
      let d = log_from cuts names.0.number names.0.piece history.log names.0.at in (
        record { number = names.0.number; piece = dated_piece cuts' d.plain; at = log_to cuts' names.0.number (Some d.plain) history.log d.at; kind = ap (λ (x : Piece). x.is_interleaved) (sym d.is) ∙ names.0.kind },
        tt,
      )
  names_moved passed (Mid id is_unordered mid) names = absurd (let none : true ≡ false = sym names.0.kind ∙ kinds_dated cuts false history.log kinds names.0.number names.0.piece names.0.at in cc)

  skips_moved : (last_tsn : ℕ) (entries : List SkippedTo) → AllByRecursion (SkipsLater (dated_history cuts history) first last_tsn) entries → AllByRecursion (SkipsLater (dated_history cuts' history) first last_tsn) entries
  unfolding tsn_moved
  skips_moved last_tsn [] all = tt
  skips_moved last_tsn (entry ∷ entries) all = (
    record { tsn = all.0.tsn; tsn_is = tsn_moved all.0.tsn all.0.tsn_is; beyond = all.0.beyond; names = names_moved (all.0.tsn_is.offset + 1) entry all.0.names },
    skips_moved last_tsn entries all.1,
  )

  forwards_moved : (deferral : Option DeferralModel) → ForwardsWait (dated_history cuts history) first deferral → ForwardsWait (dated_history cuts' history) first deferral
  forwards_moved None wait = tt
  forwards_moved (Some d) wait = go d.skips wait
    where
      go : (skips : _) → SkipsWait (dated_history cuts history) first d.last_tsn skips → SkipsWait (dated_history cuts' history) first d.last_tsn skips
      go None w = tt
      go (Some skips) w = (tsn_moved skips.tsn w.0, skips_moved d.last_tsn (kept_entries (Some skips)) w.1)

  -- ---- all, before what waits is handled

  abbrev between : ReassemblyState
  between = record old { incoming = with_others now_ready leaves.between }

  received_reset : HasReceived (dated_queued cuts' queued) (dated_history cuts' history) first places tracker between
  received_reset =
      record {
        taken = r.taken;
        got = r.got;
        later = r.later;
        tracks = subst (λ (k : ℕ). Tracks first k r.taken tracker) (sym same_size) r.tracks;
        got_taken = r.got_taken;
        later_taken = r.later_taken;
        apart = r.apart;
        distinct = r.distinct;
        holds = reassembles_reset r.got r.holds;
        defers = defers_moved r.later (waiting_of old.deferral) apart r.defers;
        beyond = r.beyond;
        forwards = forwards_moved old.deferral r.forwards;
        old = λ n f at kind aged. absurd (let none : true ≡ false = sym kind ∙ kinds_dated cuts' false history.log kinds n f at in cc);
      }

  -- ---- what becomes ready of what waits isn't of these streams

  older_place : (c : Cut) (id place : ℕ) → cuts' id ≡ c ∷ cuts id → place < c.place → age_of_place (cuts' id) place ≡ suc (age_of_place (cuts id) place)
  older_place c id place is low = ap (λ (l : List Cut). age_of_place l place) is ∙ (let before : nat_lt place c.place ≡ true = grind (arith, nat_tests, low) in rw before refl)

  young_more : (index : ℕ) (last : List ℕ) (more : List MessageContent) → total ≤ index → ((c : MessageContent) → HasEntry c more → c.ppid < 2 ^ 32) → ((place : ℕ) → HasEntry place last → IsSentAt history.log place)
      → WereQueued (dated_queued cuts' queued) last more → dated_contents cuts' index more ≡ more
  young_more index [] [] up fits sent were = refl
  young_more index [] (c ∷ more) up fits sent were = absurd were
  young_more index (p ∷ last) [] up fits sent were = absurd were
  young_more index (p ∷ last) (c ∷ more) up fits sent were =
      ap (λ (k : ℕ). record c { ppid = c.ppid + 2 ^ 32 * k } ∷ dated_contents cuts' (suc index) more) (age (recuts c.stream))
      ∙ ap (λ (k : ℕ). record c { ppid = k } ∷ dated_contents cuts' (suc index) more) (omega arith)
      ∙ ap (λ (l : List MessageContent). c ∷ l) (young_more (suc index) last more (omega (arith, up)) (λ x has. fits x (inr has)) (λ place has. sent place (inr has)) were.1)
    where
      age : IsRecut history.log c.stream total (cuts c.stream) (cuts' c.stream) → age_of_index (cuts' c.stream) index ≡ 0
      age (recut_same is) = ap (λ (l : List Cut). age_of_index l index) is ∙ index_young (cuts c.stream) index (λ x has. (let low = within c.stream x has in omega (arith, low, up)))
      age (recut_one x is high before) =
          let d = queued_from cuts' p were.0.message queued were.0.at in
          let s = sent p (inl refl) in
          let both : Some s.piece.message ≡ Some d.plain = sym (cut.pieces s.offset s.piece s.at).at ∙ ap (λ (k : ℕ). at_place k queued) s.is ∙ d.at in
          let text : s.piece.message ≡ d.plain = cc in
          let stream : c.stream ≡ d.plain.stream = were.0.stream ∙ ap (λ (m : Message). m.stream) d.is in
          let low = before s.offset s.piece s.at (ap (λ (m : Message). m.stream) text ∙ sym stream) in
          let place_is = s.is in
          let older = older_place x c.stream p is (omega (arith, low, place_is)) in
          let ppid : c.ppid ≡ d.plain.ppid + 2 ^ 32 * age_of_place (cuts' c.stream) p = were.0.ppid ∙ ap (λ (m : Message). m.ppid) d.is ∙ ap (λ (k : ℕ). d.plain.ppid + 2 ^ 32 * age_of_place (cuts' k) p) (sym stream) in
          let fit = fits c (inl refl) in
          absurd (omega (arith, ppid, older, fit))

  -- ---- all

  has_more : (c : MessageContent) (contents more : List MessageContent) → HasEntry c more → HasEntry c (contents ++ more)
  has_more c [] more has = has
  has_more c (x ∷ contents) more has = inr (has_more c contents more has)

  pub received_performed : ((c : MessageContent) → HasEntry c new.incoming.ready → c.ppid < 2 ^ 32) → ReceivedDated queued history cuts' first count places tracker new
  received_performed fits =
      let m = all_more (waiting_of old.deferral) leaves.between leaves.handled leaves.works in
      let n = skips_more (skips_of old.deferral) leaves.handled new.incoming leaves.skips in
      let more : List MessageContent = m.more ++ n.more in
      let ends : EndsDeferral streams between (with_ready ((now_ready ++ m.more) ++ n.more) new) =
      record {
        between = with_others now_ready leaves.between;
        handled = with_others (now_ready ++ m.more) leaves.handled;
        resets = resets_again streams now_ready old.incoming leaves.between leaves.resets;
        works = m.other now_ready;
        skips = n.other (now_ready ++ m.more);
        window = leaves.window;
        overhead = leaves.overhead;
        deferral = leaves.deferral;
      } in
      let done = left_keeps (dated_queued cuts' queued) (dated_history cuts' history) first (cut_dated cuts' queued history.log cut) (told_dated queued history cuts' first count places cut kinds few) (few_dated queued history cuts' first count places cut kinds few)
      places streams tracker between (with_ready ((now_ready ++ m.more) ++ n.more) new) received_reset ends in
      let is : new.incoming.ready ≡ old.incoming.ready ++ more =
      n.is ∙ ap (λ (l : List MessageContent). l ++ n.more) m.is ∙ append_assoc leaves.between.ready m.more n.more ∙ ap (λ (l : List MessageContent). l ++ more) (kept_ready streams old.incoming leaves.between leaves.resets) in
      let together : (now_ready ++ m.more) ++ n.more ≡ now_ready ++ more = append_assoc now_ready m.more n.more in
      let received : HasReceived (dated_queued cuts' queued) (dated_history cuts' history) first places tracker (with_ready (now_ready ++ more) new) =
      subst (λ (l : List MessageContent). HasReceived (dated_queued cuts' queued) (dated_history cuts' history) first places tracker (with_ready l new)) together done in
      let held = some_held (dated_queued cuts' queued) (dated_history cuts' history) first received.got places (with_others (now_ready ++ more) new.incoming) received.holds in
      let last = were_last (dated_queued cuts' queued) held.holds.places now_ready more held.holds.were_queued in
      let young = young_more total last.last more (omega arith) (λ c has. fits c (subst (HasEntry c) (sym is) (has_more c old.incoming.ready more has)))
      (λ place has. spent_at cuts' history.log held.handled place (held.holds.spent place (has_right place places held.holds.places (last.among place has)))) last.were in
      subst (λ (l : List MessageContent). HasReceived (dated_queued cuts' queued) (dated_history cuts' history) first places tracker (with_ready l new))
      (sym (ap (dated_contents cuts' count) is ∙ append_dated cuts' count old.incoming.ready more ∙ ap (λ (l : List MessageContent). now_ready ++ l) young)) received

  -- what was read is dated anew, too
  pub were_performed : (read : List MessageContent) → count ≡ length read → WereQueued (dated_queued cuts queued) places (dated_contents cuts 0 read) → WereQueued (dated_queued cuts' queued) places (dated_contents cuts' 0 read)
  were_performed read size were =
      let held = some_held (dated_queued cuts queued) (dated_history cuts history) first r.got places (with_others was_ready old.incoming) r.holds in
      were_moved queued history cuts cuts' (names_stream streams) total cut same recuts 0 places read (omega (arith, size)) (λ place has. spent_at cuts history.log held.handled place (held.holds.spent place (has_left place places held.holds.places has))) were

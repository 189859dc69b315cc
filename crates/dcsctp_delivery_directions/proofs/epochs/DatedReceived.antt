-- What an association has received, where messages are dated: data, what is skipped, and a history that continues.
use Rattle.std.proofs.Common.{◌≡◌, ℕ, zero, suc, Bool, true, false, ◌≤◌, ◌+◌, ◌*◌, ◌%◌, ◌-◌, ◌^◌, List, [], ◌∷◌, ◌++◌, length, length-append, nat_lt, refl, sym, ◌∙◌, ap, arith, subst, inl, inr}
use Rattle.std.specs.Prelude.{◌⊎◌, Some}
use Rattle.std.specs.List.{fold}
use Rattle.std.proofs.lemmas.Bool.Decides.{nat_tests}
use Rattle.dcsctp_spec.specs.types.queues.Messages.{MessageContent}
use Rattle.dcsctp_spec.specs.types.declared.arrivals.Numbering.{Numbering}
use Rattle.dcsctp_spec.specs.types.declared.arrivals.Numbering.TheVariants.{Ordered, Unordered, InterleavedOrdered, InterleavedUnordered}
use Rattle.dcsctp_spec.specs.types.declared.arrivals.SkippedTo.{SkippedTo}
use Rattle.dcsctp_spec.specs.types.declared.arrivals.SkippedTo.TheVariants.{Ssn, Mid}
use Rattle.dcsctp_spec.specs.queues.Arrivals.{Arrival}
use Rattle.dcsctp_spec.specs.queues.IncomingStreams.{ChunkModel, ready_bytes}
use Rattle.dcsctp_spec.specs.queues.Reassembly.{ReassemblyState, with_ready}
use Rattle.dcsctp_spec.specs.queues.Tracker.{TrackerState, is_new_tsn}
use Rattle.dcsctp_spec.specs.queues.Transfer.{Transfer}
use Rattle.dcsctp_spec.specs.endpoint.TransferMoves.{ReceivesData, MovesForward}
use Rattle.dcsctp_delivery_directions.specs.sending.Places.{HasEntry, at_place}
use Rattle.dcsctp_delivery_directions.specs.sending.Log.{Message, Piece, Slot, Mark, History, IsLogOfPieces}
use Rattle.dcsctp_delivery_directions.specs.sending.Numbers.{AreOfKind, IsUnambiguous, plain}
use Rattle.dcsctp_delivery_directions.specs.receiving.Ready.{IsNumbered, SkipsEntry, SkipAll}
use Rattle.dcsctp_delivery_directions.specs.receiving.Received.{Carries, IsTsn, HasReceived, Few}
use Rattle.dcsctp_delivery_directions.specs.order.Queue.{Cut}
use Rattle.dcsctp_delivery_directions.proofs.sending.Extended.{IsAsOne}
use Rattle.dcsctp_delivery_directions.proofs.sending.Packets.{at_more}
use Rattle.dcsctp_delivery_directions.proofs.receiving.Growing.{received_wider}
use Rattle.dcsctp_delivery_directions.proofs.receiving.Received.{receiving_keeps, forwarding_keeps}
use Rattle.dcsctp_delivery_directions.proofs.receiving.Taking.{passing_nothing}
use Rattle.dcsctp_delivery_directions.proofs.epochs.Dated.{count_of, age_of_place, age_of_index, dated_queued, dated_piece, dated_log, dated_history, dated_content, dated_contents, log_length, log_append, log_to, log_from, cut_dated, kinds_dated}
use Rattle.dcsctp_delivery_directions.proofs.epochs.OtherMoves.{others_ready, received_moved, other_chunk, forwarded_moved}

-- ---- what is dated

pub count_none : (tells : Cut → Bool) (cuts : List Cut) → ((cut : Cut) → HasEntry cut cuts → tells cut ≡ false) → count_of tells cuts ≡ 0
count_none tells [] none = refl
count_none tells (cut ∷ cuts) none = rw (none cut (inl refl)) (count_none tells cuts (λ c has. none c (inr has)))

not_before : (m n : ℕ) → n ≤ m → nat_lt m n ≡ false
not_before m n up = grind (arith, nat_tests, up)

-- Nothing is old that was queued, or is ready, after all resets.
pub place_young : (cuts : List Cut) (place : ℕ) → ((cut : Cut) → HasEntry cut cuts → cut.place ≤ place) → age_of_place cuts place ≡ 0
place_young cuts place low = count_none (λ cut. nat_lt place cut.place) cuts (λ cut has. not_before place cut.place (low cut has))

pub index_young : (cuts : List Cut) (index : ℕ) → ((cut : Cut) → HasEntry cut cuts → cut.index ≤ index) → age_of_index cuts index ≡ 0
index_young cuts index low = count_none (λ cut. nat_lt index cut.index) cuts (λ cut has. not_before index cut.index (low cut has))

module _ (cuts : ℕ → List Cut) where
  bytes_from : (before index : ℕ) (contents : List MessageContent) → fold (λ (a : ℕ) (c : MessageContent). a + length c.payload) before (dated_contents cuts index contents) ≡ fold (λ (a : ℕ) (c : MessageContent). a + length c.payload) before contents
  bytes_from before index [] = refl
  bytes_from before index (c ∷ contents) = bytes_from (before + length c.payload) (suc index) contents

  pub bytes_dated : (index : ℕ) (contents : List MessageContent) → ready_bytes (dated_contents cuts index contents) ≡ ready_bytes contents
  bytes_dated index contents = bytes_from 0 index contents

  pub append_dated : (index : ℕ) (contents more : List MessageContent) → dated_contents cuts index (contents ++ more) ≡ dated_contents cuts index contents ++ dated_contents cuts (index + length contents) more
  append_dated index [] more = ap (λ (k : ℕ). dated_contents cuts k more) (omega arith)
  append_dated index (c ∷ contents) more =
      ap (λ (l : List MessageContent). dated_content cuts index c ∷ l)
      (append_dated (suc index) contents more ∙ ap (λ (k : ℕ). dated_contents cuts (suc index) contents ++ dated_contents cuts k more) (omega arith))

  young_content : (index : ℕ) (c : MessageContent) → age_of_index (cuts c.stream) index ≡ 0 → dated_content cuts index c ≡ c
  young_content index c young = ap (λ (k : ℕ). record c { ppid = k }) (omega (arith, young))

  pub young_contents : (index : ℕ) (contents : List MessageContent) → ((id : ℕ) (cut : Cut) → HasEntry cut (cuts id) → cut.index ≤ index) → dated_contents cuts index contents ≡ contents
  young_contents index [] low = refl
  young_contents index (c ∷ contents) low =
      ap (λ (x : MessageContent). x ∷ dated_contents cuts (suc index) contents) (young_content index c (index_young (cuts c.stream) index (low c.stream)))
      ∙ ap (λ (l : List MessageContent). c ∷ l) (young_contents (suc index) contents (λ id cut has. (let up = low id cut has in omega (arith, up))))

  -- what becomes ready now isn't dated
  pub more_dated : (index : ℕ) (contents more : List MessageContent) → ((id : ℕ) (cut : Cut) → HasEntry cut (cuts id) → cut.index ≤ index + length contents) → dated_contents cuts index (contents ++ more) ≡ dated_contents cuts index contents ++ more
  more_dated index contents more low = append_dated index contents more ∙ ap (λ (l : List MessageContent). dated_contents cuts index contents ++ l) (young_contents (index + length contents) more low)

numbered_dated : (cuts : ℕ → List Cut) (f : Piece) (numbering : Numbering) → IsNumbered f numbering → IsNumbered (dated_piece cuts f) numbering
numbered_dated cuts f (Ordered ssn) is = is
numbered_dated cuts f Unordered is = is
numbered_dated cuts f (InterleavedOrdered mid fsn) is = is
numbered_dated cuts f (InterleavedUnordered mid fsn) is = is

-- A chunk carries the dated piece, with another protocol identifier if that is old.
pub carries_dated : (cuts : ℕ → List Cut) (log : List Slot) (first offset tsn ppid : ℕ) (chunk : ChunkModel) (c : Carries log first offset tsn chunk) → ppid ≡ c.piece.message.ppid + 2 ^ 32 * age_of_place (cuts c.piece.message.stream) c.piece.place
    → Carries (dated_log cuts log) first offset tsn (record chunk { ppid = ppid })
carries_dated cuts log first offset tsn ppid chunk c is =
    record {
      piece = dated_piece cuts c.piece;
      at = log_to cuts offset (Some c.piece) log c.at;
      is = c.is;
      stream = c.stream;
      numbered = numbered_dated cuts c.piece chunk.numbering c.numbered;
      ppid = λ begins. is;
      payload = c.payload;
      beginning = c.beginning;
      end = c.end;
    }

-- If its message isn't old, that's the chunk itself.
pub carries_young : (cuts : ℕ → List Cut) (log : List Slot) (first offset tsn : ℕ) (chunk : ChunkModel) (c : Carries log first offset tsn chunk) → age_of_place (cuts c.piece.message.stream) c.piece.place ≡ 0
    → Carries (dated_log cuts log) first offset tsn chunk
carries_young cuts log first offset tsn chunk c young =
    record {
      piece = dated_piece cuts c.piece;
      at = log_to cuts offset (Some c.piece) log c.at;
      is = c.is;
      stream = c.stream;
      numbered = numbered_dated cuts c.piece chunk.numbering c.numbered;
      ppid = λ begins. c.ppid begins ∙ omega (arith, young);
      payload = c.payload;
      beginning = c.beginning;
      end = c.end;
    }

skips_entry : (cuts : ℕ → List Cut) (history : History) (passed : ℕ) (entry : SkippedTo) → SkipsEntry history passed entry → SkipsEntry (dated_history cuts history) passed entry
skips_entry cuts history passed (Ssn id ssn) s = record { number = s.number; piece = dated_piece cuts s.piece; at = log_to cuts s.number (Some s.piece) history.log s.at; kind = s.kind }
skips_entry cuts history passed (Mid id is_unordered mid) s =
    record {
      number = s.number;
      piece = dated_piece cuts s.piece;
      at = log_to cuts s.number (Some s.piece) history.log s.at;
      kind = s.kind;
      stream = s.stream;
      unordered = s.unordered;
      is = s.is;
      within = s.within;
      limited = s.limited;
      before = s.before;
      highest = λ n f at low on ordered. (
          let d = log_from cuts n f history.log at in
          let up = s.highest n d.plain d.at low (ap (λ (x : Piece). x.message.stream) (sym d.is) ∙ on) (ap (λ (x : Piece). x.message.is_unordered) (sym d.is) ∙ ordered) in
          let mids : f.mid ≡ d.plain.mid = ap (λ (x : Piece). x.mid) d.is in
          omega (arith, up, mids)
          );
    }

skip_all : (cuts : ℕ → List Cut) (history : History) (passed : ℕ) (entries : List SkippedTo) → SkipAll history passed entries → SkipAll (dated_history cuts history) passed entries
skip_all cuts history passed [] all = tt
skip_all cuts history passed (entry ∷ entries) all = (skips_entry cuts history passed entry all.0, skip_all cuts history passed entries all.1)

-- ---- what was received

-- It is so of dated messages, of which so many were read.
abbrev pub ReceivedDated : List Message → History → (ℕ → List Cut) → ℕ → ℕ → List ℕ → TrackerState → ReassemblyState → Type 0
ReceivedDated queued history cuts first count places tracker reassembly =
    HasReceived (dated_queued cuts queued) (dated_history cuts history) first places tracker (with_ready (dated_contents cuts count reassembly.incoming.ready) reassembly)

module _ (queued : List Message) (history : History) (cuts : ℕ → List Cut) (first count : ℕ) (places : List ℕ) (cut : IsLogOfPieces queued history.log) (kinds : AreOfKind false history.log) (few : Few history first) where
  pub told_dated : IsUnambiguous (dated_history cuts history)
  told_dated = plain (kinds_dated cuts false history.log kinds)

  pub few_dated : Few (dated_history cuts history) first
  few_dated = record { small = few.small; few = (let size = log_length cuts history.log in let low = few.few in omega (arith, size, low)) }

  module _ (theirs new : Transfer) (r : ReceivedDated queued history cuts first count places theirs.tracker theirs.reassembly) (within : (id : ℕ) (c : Cut) → HasEntry c (cuts id) → c.index ≤ count + length theirs.reassembly.incoming.ready) where
    abbrev ready : List MessageContent
    ready = dated_contents cuts count theirs.reassembly.incoming.ready

    then_dated : (more : List MessageContent) → new.reassembly.incoming.ready ≡ theirs.reassembly.incoming.ready ++ more
        → HasReceived (dated_queued cuts queued) (dated_history cuts history) first places new.tracker (with_ready (ready ++ more) new.reassembly) → ReceivedDated queued history cuts first count places new.tracker new.reassembly
    then_dated more is received =
        subst (λ (l : List MessageContent). HasReceived (dated_queued cuts queued) (dated_history cuts history) first places new.tracker (with_ready l new.reassembly))
        (sym (ap (dated_contents cuts count) is ∙ more_dated cuts count theirs.reassembly.incoming.ready more within)) received

    -- Data is received. If its TSN is new, its message isn't old.
    pub data_dated : (offset : ℕ) (arrival : Arrival) (c : Carries history.log first offset arrival.tsn arrival.chunk) → (is_new_tsn arrival.tsn theirs.tracker ≡ true → age_of_place (cuts c.piece.message.stream) c.piece.place ≡ 0)
        → ReceivesData arrival theirs new → ReceivedDated queued history cuts first count places new.tracker new.reassembly
    data_dated offset arrival c young does = go (is_new_tsn arrival.tsn theirs.tracker) refl
      where
        go : (b : Bool) → is_new_tsn arrival.tsn theirs.tracker ≡ b → ReceivedDated queued history cuts first count places new.tracker new.reassembly
        go true is =
            let m = received_moved arrival theirs new does in
            then_dated m.more m.is
            (receiving_keeps (dated_queued cuts queued) (dated_history cuts history) first (cut_dated cuts queued history.log cut) told_dated few_dated places offset arrival (others_ready ready theirs) (others_ready (ready ++ m.more) new)
            (carries_young cuts history.log first offset arrival.tsn arrival.chunk c (young is)) r (m.other ready (bytes_dated cuts count theirs.reassembly.incoming.ready)))
        go false is =
            let ppid : ℕ = c.piece.message.ppid + 2 ^ 32 * age_of_place (cuts c.piece.message.stream) c.piece.place in
            let arrival' : Arrival = record arrival { chunk = record arrival.chunk { ppid = ppid } } in
            let m = received_moved arrival' theirs new (other_chunk arrival (record arrival.chunk { ppid = ppid }) theirs new is does) in
            then_dated m.more m.is
            (receiving_keeps (dated_queued cuts queued) (dated_history cuts history) first (cut_dated cuts queued history.log cut) told_dated few_dated places offset arrival' (others_ready ready theirs) (others_ready (ready ++ m.more) new)
            (carries_dated cuts history.log first offset arrival.tsn ppid arrival.chunk c refl) r (m.other ready (bytes_dated cuts count theirs.reassembly.incoming.ready)))

    -- TSNs are passed, or none.
    pub forward_dated : (tsn : ℕ) (entries : List SkippedTo) (passed : ℕ) → passed ≤ length history.log → tsn ≡ (first + passed + (2 ^ 32 - 1)) % 2 ^ 32 → SkipAll history passed entries → MovesForward tsn entries theirs new
        → ReceivedDated queued history cuts first count places new.tracker new.reassembly
    forward_dated tsn entries zero below is skip does =
        let m = forwarded_moved tsn entries theirs new does in
        then_dated m.more m.is
        (passing_nothing (dated_queued cuts queued) (dated_history cuts history) first few_dated places tsn entries (others_ready ready theirs) (others_ready (ready ++ m.more) new) is r (m.other ready (bytes_dated cuts count theirs.reassembly.incoming.ready)))
    forward_dated tsn entries (suc passed) below is skip does =
        let m = forwarded_moved tsn entries theirs new does in
        let size = log_length cuts history.log in
        let t : IsTsn (dated_log cuts history.log) first tsn = record { offset = passed; below = omega (arith, below, size); is = is ∙ omega arith } in
        then_dated m.more m.is
        (forwarding_keeps (dated_queued cuts queued) (dated_history cuts history) first (cut_dated cuts queued history.log cut) told_dated few_dated places tsn entries (others_ready ready theirs) (others_ready (ready ++ m.more) new) t
        (skip_all cuts history (passed + 1) entries (subst (λ (k : ℕ). SkipAll history k entries) (omega arith) skip)) r (m.other ready (bytes_dated cuts count theirs.reassembly.incoming.ready)))

-- ---- a history that continues

pub later_dated : (queued : List Message) (history later : History) (cuts : ℕ → List Cut) (first count : ℕ) (places : List ℕ) (tracker : TrackerState) (reassembly : ReassemblyState) (more : List Slot) → later.log ≡ more ++ history.log → later.floors ≡ history.floors
    → ((mark : Mark) → HasEntry mark later.marks → IsAsOne history mark ⊎ (length history.log ≤ mark.bound)) → AreOfKind false later.log → ReceivedDated queued history cuts first count places tracker reassembly → ReceivedDated queued later cuts first count places tracker reassembly
later_dated queued history later cuts first count places tracker reassembly more log floors marks kinds r =
    received_wider (dated_queued cuts queued) [] (dated_history cuts history) (dated_history cuts later)
    (record {
      stays = λ n slot at. ap (λ (l : List Slot). at_place n l) (dated_later) ∙ at_more (dated_log cuts more) (dated_log cuts history.log) n slot at;
      current = λ n f at is. subst (λ (fs : ℕ → Bool → ℕ). fs f.message.stream f.message.is_unordered ≤ f.mid) (sym floors) is;
      longer = (
          let one = log_length cuts history.log in
          let two = log_length cuts later.log in
          let sizes : length later.log ≡ length (more ++ history.log) = ap (λ (l : List Slot). length l) log in
          omega (arith, one, two, sizes, length-append more history.log)
          );
      marks = λ mark has. elim (marks mark has) [
        | inl one ↦ inl (record { one = one.one; has = one.has; bound = one.bound; ids = one.ids })
        | inr up ↦ inr (let size = log_length cuts history.log in omega (arith, up, size))
      ];
    }) first places tracker (with_ready (dated_contents cuts count reassembly.incoming.ready) reassembly)
    (λ n f at kind aged. absurd (let none : true ≡ false = sym kind ∙ kinds_dated cuts false later.log kinds n f at in cc)) r
  where
    dated_later : dated_log cuts later.log ≡ dated_log cuts more ++ dated_log cuts history.log
    dated_later = ap (dated_log cuts) log ∙ log_append cuts more history.log

-- A reset of other streams leaves what is received of DATA in order, and so does what waited for it.
use Rattle.std.proofs.Common.{◌≡◌, ℕ, Bool, true, false, ◌^◌, List, [], ◌∷◌, ◌++◌, refl, sym, ◌∙◌, ap, subst, inl, inr}
use Rattle.std.specs.Prelude.{◌⊎◌, ◌<◌, not, if◌then◌else◌, Option, None, Some}
use Rattle.dcsctp_spec_lemmas.specs.types.queues.Messages.{MessageContent}
use Rattle.dcsctp_spec_lemmas.specs.spec.queues.Runs.{RunModel}
use Rattle.dcsctp_spec_lemmas.specs.spec.queues.IncomingStreams.{StreamModel, new_stream}
use Rattle.dcsctp_spec_lemmas.specs.spec.queues.Incoming.{IncomingModel, is_named, stream_on, ResetsStreams}
use Rattle.dcsctp_spec_lemmas.specs.spec.queues.Reassembly.{WaitingModel, DeferralModel, ReassemblyState, names_stream, HandlesAll, waiting_of, begun_deferral, deferring, EndsDeferral}
use Rattle.dcsctp_spec_lemmas.specs.spec.queues.Tracker.{TrackerState}
use Rattle.dcsctp_delivery_directions.specs.sending.Places.{HasEntry, at_place}
use Rattle.dcsctp_delivery_directions.specs.sending.Log.{Message, Piece, History, IsLogOfPieces, sent_messages}
use Rattle.dcsctp_delivery_directions.specs.receiving.Rows.{AreRows}
use Rattle.dcsctp_delivery_directions.specs.receiving.Ready.{IsOfStream, unordered_base, AreDistinct, held_messages}
use Rattle.dcsctp_delivery_directions.specs.receiving.Received.{CountsFromBase, DefersData, ForwardsWait}
use Rattle.dcsctp_delivery_directions.proofs.order.PlainSkipping.{skips_plain}
use Rattle.dcsctp_delivery_directions.specs.order.Plain.{CountsThese, PlainStream, HoldsPlain, IncomingPlain}
use Rattle.dcsctp_delivery_directions.proofs.receiving.Skipping.{rows_filter, holds_renewed}
use Rattle.dcsctp_delivery_directions.proofs.order.PlainReceived.{ReassemblesPlain, none_handled, some_handled, HasReceivedPlain, DefersBeside, data_beside}

-- ---- streams are reset

-- None of these streams is named.
abbrev pub AreUnnamed : (ℕ → Bool) → List ℕ → Type 0
AreUnnamed these streams = (id : ℕ) → these id ≡ true → names_stream streams id ≡ false

module _ (these : ℕ → Bool) (queued : List Message) (history : History) (got : List ℕ) (base : ℕ) (read : List ℕ) where
  renewed_plain : (named : ℕ → Bool) (streams later : ℕ → StreamModel) (unordered others : List RunModel) (ready : List MessageContent) → ((id : ℕ) → later id ≡ (if named id then new_stream id else streams id))
      → AreRows history.log got (unordered_base base) IsOfStream others → ((id : ℕ) → these id ≡ true → named id ≡ false)
      → HoldsPlain these (sent_messages queued history) got base read (held_messages streams unordered ready) → HoldsPlain these (sent_messages queued history) got base read (held_messages later others ready)
  unfolding holds_renewed
  renewed_plain named streams later unordered others ready are rows apart o =
      record {
        holds = holds_renewed queued history got base read named streams later unordered others ready are rows o.holds;
        order = λ id kept. subst (λ (s : StreamModel). PlainStream (sent_messages queued history) got base id (read ++ o.holds.places) (if named id then [] else o.holds.waits id) s) (sym (are id))
            (left id (named id) (apart id kept) (o.order id kept));
      }
    where
      left : (id : ℕ) (b : Bool) → b ≡ false → PlainStream (sent_messages queued history) got base id (read ++ o.holds.places) (o.holds.waits id) (streams id)
          → PlainStream (sent_messages queued history) got base id (read ++ o.holds.places) (if b then [] else o.holds.waits id) (if b then new_stream id else streams id)
      left id true is s = absurd (cc)
      left id false is s = s

  resetting_plain : (streams : List ℕ) (old new : IncomingModel) → AreUnnamed these streams → IncomingPlain these queued history got base read old → ResetsStreams streams old new → IncomingPlain these queued history got base read new
  resetting_plain [] old new apart o resets =
      subst (λ (l : List MessageContent). HoldsPlain these (sent_messages queued history) got base read (held_messages (λ id. stream_on id new.streams) new.unordered l)) (sym resets.kept.ready)
      (renewed_plain (λ id. true) (λ id. stream_on id old.streams) (λ id. stream_on id new.streams) old.unordered new.unordered old.ready resets.streams
      (subst (λ (l : List RunModel). AreRows history.log got (unordered_base base) IsOfStream l) (sym resets.unordered) tt) apart o)
  resetting_plain (reset ∷ others) old new apart o resets =
      subst (λ (l : List MessageContent). HoldsPlain these (sent_messages queued history) got base read (held_messages (λ id. stream_on id new.streams) new.unordered l)) (sym resets.kept.ready)
      (renewed_plain (is_named (reset ∷ others)) (λ id. stream_on id old.streams) (λ id. stream_on id new.streams) old.unordered new.unordered old.ready resets.streams
      (subst (λ (l : List RunModel). AreRows history.log got (unordered_base base) IsOfStream l) (sym resets.unordered) (rows_filter queued history got base read (unordered_base base) IsOfStream (λ run. not (is_named (reset ∷ others) run.number)) old.unordered o.holds.rows)) apart o)

kept_last : (streams : List ℕ) (old new : IncomingModel) → ResetsStreams streams old new → new.last_tsn_number ≡ old.last_tsn_number
kept_last [] old new resets = resets.kept.last
kept_last (reset ∷ others) old new resets = resets.kept.last

-- ---- what waited is handled

module _ (queued : List Message) (history : History) (first size : ℕ) (cut : IsLogOfPieces queued history.log) (whole : Bool) (these : ℕ → Bool) (counts : CountsThese whole these history) (small : first < 2 ^ 32) (read : List ℕ) where
  reset_plain : (got streams : List ℕ) (old new : IncomingModel) → AreUnnamed these streams → ReassemblesPlain these queued history first got read old → ResetsStreams streams old new → ReassemblesPlain these queued history first got read new
  reset_plain got streams old new apart (some_handled base is holds) resets =
      some_handled base (subst (λ (l : ℕ). CountsFromBase first base l) (sym (kept_last streams old new resets)) is) (resetting_plain these queued history got base read streams old new apart holds resets)
  reset_plain got streams old new apart (none_handled none last empty) resets =
      none_handled none (kept_last streams old new resets ∙ last) (λ base. resetting_plain these queued history [] base read streams old new apart (empty base) resets)

  -- all of these were handled besides
  record Handled (got later : List ℕ) (new : IncomingModel) : Type 0 where
    now : List ℕ
    holds : ReassemblesPlain these queued history first now read new
    among : (k : ℕ) → HasEntry k now → HasEntry k later ⊎ HasEntry k got
    all : (k : ℕ) → HasEntry k got ⊎ HasEntry k later → HasEntry k now

  AreOthers : List ℕ → Type 0
  AreOthers later = (k : ℕ) → HasEntry k later → (f : Piece) → at_place k history.log ≡ Some (Some f) → these f.message.stream ≡ false

  all_plain : (got later : List ℕ) (waiting : List WaitingModel) (old new : IncomingModel) → AreOthers later → ReassemblesPlain these queued history first got read old → DefersData history first later waiting → AreDistinct later
      → ((k : ℕ) → HasEntry k later → HasEntry k got → ⊥) → HandlesAll waiting old new → Handled got later new
  unfolding AreOthers
  all_plain got [] [] old new others holds defers distinct apart works =
      record {
        now = got;
        holds = subst (λ (m : IncomingModel). ReassemblesPlain these queued history first got read m) (sym works) holds;
        among = λ k h. inr h;
        all = λ k h. elim h [ inl g ↦ g | inr l ↦ absurd l ];
      }
  all_plain got (n ∷ later) [] old new others holds defers distinct apart works = absurd defers
  all_plain got [] (one ∷ waiting) old new others holds defers distinct apart works = absurd defers
  all_plain got (n ∷ later) (one ∷ waiting) old new others holds defers distinct apart (between, takes, rest) =
      let c = defers.0 in
      let other : these one.chunk.stream ≡ false = ap these c.carries.stream ∙ others n (inl refl) c.carries.piece c.carries.at in
      let handled = data_beside queued history first size cut whole these counts small read got n one.tsn one.chunk old between c (apart n (inl refl)) other holds takes in
      let more = all_plain (n ∷ got) later waiting between new (λ k h f at. others k (inr h) f at) handled defers.1 distinct.1
      (λ k h h'. elim h' [ inl e ↦ distinct.0 (subst (λ (j : ℕ). HasEntry j later) e h) | inr t ↦ apart k (inr h) t ]) rest in
      record {
        now = more.now;
        holds = more.holds;
        among = λ k h. elim (more.among k h) [
          | inl l ↦ inl (inr l)
          | inr g ↦ elim g [ inl e ↦ inl (inl e) | inr t ↦ inr t ]
        ];
        all = λ k h. more.all k (elim h [ inl g ↦ inl (inr g) | inr l ↦ elim l [ inl e ↦ inl (inl e) | inr t ↦ inr t ] ]);
      }

  pub ends_plain : (streams : List ℕ) (tracker : TrackerState) (old new : ReassemblyState) → AreUnnamed these streams → DefersBeside these old.deferral → ForwardsWait history first old.deferral → HasReceivedPlain whole these queued history first read tracker old
      → EndsDeferral streams old new → HasReceivedPlain whole these queued history first read tracker new
  unfolding AreOthers
  ends_plain streams tracker old new apart beside wait r leaves =
      let done = all_plain r.got r.later (waiting_of old.deferral) leaves.between leaves.handled r.others (reset_plain r.got streams old.incoming leaves.between apart r.holds leaves.resets) r.defers r.distinct r.apart leaves.works in
      record {
        taken = r.taken;
        got = done.now;
        later = [];
        tracks = r.tracks;
        exact = r.exact;
        pieces = r.pieces;
        got_taken = λ k h. elim (done.among k h) [ inl l ↦ r.later_taken k l | inr g ↦ r.got_taken k g ];
        later_taken = λ k h. absurd h;
        either = λ k h. inl (done.all k (r.either k h));
        apart = λ k h g. absurd h;
        distinct = tt;
        holds = skips_plain queued history first cut whole these counts small read done.now old.deferral leaves.handled new.incoming beside wait done.holds leaves.skips;
        defers = subst (λ (d : Option DeferralModel). DefersData history first [] (waiting_of d)) (sym leaves.deferral) tt;
        others = λ k h f at. absurd h;
      }

-- ---- a reset is deferred

pub deferring_beside : (these : ℕ → Bool) (last_tsn : ℕ) (streams : List ℕ) (deferral : Option DeferralModel) → AreUnnamed these streams → DefersBeside these deferral → DefersBeside these (begun_deferral last_tsn streams deferral)
deferring_beside these last_tsn streams None apart beside = (apart, tt)
deferring_beside these last_tsn streams (Some d) apart beside = beside

pub deferring_plain : (whole : Bool) (these : ℕ → Bool) (queued : List Message) (history : History) (first : ℕ) (read : List ℕ) (last_tsn : ℕ) (streams : List ℕ) (tracker : TrackerState) (reassembly : ReassemblyState)
    → HasReceivedPlain whole these queued history first read tracker reassembly → HasReceivedPlain whole these queued history first read tracker (deferring last_tsn streams reassembly)
deferring_plain whole these queued history first read last_tsn streams tracker reassembly r =
    record {
      taken = r.taken;
      got = r.got;
      later = r.later;
      tracks = r.tracks;
      exact = r.exact;
      pieces = r.pieces;
      got_taken = r.got_taken;
      later_taken = r.later_taken;
      either = r.either;
      apart = r.apart;
      distinct = r.distinct;
      holds = r.holds;
      defers = go reassembly.deferral r.defers;
      others = r.others;
    }
  where
    go : (d : Option DeferralModel) → DefersData history first r.later (waiting_of d) → DefersData history first r.later (waiting_of (begun_deferral last_tsn streams d))
    go None defers = defers
    go (Some d) defers = defers

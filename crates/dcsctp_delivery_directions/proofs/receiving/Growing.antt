-- The peer queues more, assigns more TSNs, and begins resets of its streams.
use Rattle.std.proofs.Common.{◌≡◌, ℕ, Bool, true, false, ◌≤◌, List, [], ◌∷◌, ◌++◌, length, ◌∙◌, ap, arith, subst, inl, inr}
use Rattle.std.specs.Prelude.{◌⊎◌, Option, None, Some}
use Rattle.std.proofs.lemmas.List.{length-append}
use Rattle.dcsctp_spec_lemmas.specs.types.queues.Messages.{MessageContent}
use Rattle.dcsctp_spec_lemmas.specs.spec.queues.Runs.{WholeModel}
use Rattle.dcsctp_spec_lemmas.specs.spec.queues.Incoming.{IncomingModel, stream_on}
use Rattle.dcsctp_spec_lemmas.specs.spec.queues.Reassembly.{ReassemblyState, waiting_of}
use Rattle.dcsctp_spec_lemmas.specs.spec.queues.Tracker.{TrackerState}
use Rattle.dcsctp_spec_lemmas.specs.spec.endpoint.BegunResets.{BegunReset}
use Rattle.dcsctp_delivery_directions.specs.sending.Places.{HasEntry, at_place}
use Rattle.dcsctp_delivery_directions.specs.sending.Log.{Message, Slot, Mark, History, log_extended, with_mark, with_renewed, new_history}
use Rattle.dcsctp_delivery_directions.specs.sending.Numbers.{AreCurrent}
use Rattle.dcsctp_delivery_directions.specs.receiving.Rows.{IsQueued}
use Rattle.dcsctp_delivery_directions.specs.receiving.Ready.{IsOn, IsApart, IsOfStream, ordered_base, unordered_base, WereQueued, WaitQueued, HoldsIncoming}
use Rattle.dcsctp_delivery_directions.specs.receiving.Received.{Reassembles, untouched, placed, HasReceived}
use Rattle.dcsctp_delivery_directions.proofs.sending.Extended.{as_itself, as_renewed}
use Rattle.dcsctp_delivery_directions.proofs.sending.Packets.{at_more}
use Rattle.dcsctp_delivery_directions.proofs.sending.Places.{at_new, at_cases, at_stays}
use Rattle.dcsctp_delivery_directions.proofs.receiving.Current.{OthersArePast}
use Rattle.dcsctp_delivery_directions.proofs.receiving.Continuing.{GoesOn, on_more, apart_more, reads_more, rows_more, spent_more, defers_more, forwards_more}
use Rattle.dcsctp_delivery_directions.proofs.receiving.Tracked.{more_given_out}

pub were_more : (queued more : List Message) (places : List ℕ) (contents : List MessageContent) → WereQueued queued places contents → WereQueued (more ++ queued) places contents
were_more queued more [] [] were = tt
were_more queued more [] (c ∷ contents) were = absurd were
were_more queued more (p ∷ places) [] were = absurd were
were_more queued more (p ∷ places) (c ∷ contents) were = (
  record { message = were.0.message; at = at_more more queued p were.0.message were.0.at; stream = were.0.stream; ppid = were.0.ppid; payload = were.0.payload },
  were_more queued more places contents were.1,
)

-- ---- a history that continues

module _ (queued more : List Message) (history wider : History) (goes : GoesOn history wider) where
  pub wait_more : (got : List ℕ) (id : ℕ) (places : List ℕ) (wholes : List WholeModel) → WaitQueued queued history got id places wholes → WaitQueued (more ++ queued) wider got id places wholes
  wait_more got id [] [] wait = tt
  wait_more got id [] (w ∷ wholes) wait = absurd wait
  wait_more got id (p ∷ places) [] wait = absurd wait
  wait_more got id (p ∷ places) (w ∷ wholes) wait = (one wait.0, wait_more got id places wholes wait.1)
    where
      one : IsQueued queued history.log got (IsOn history id) p w → IsQueued (more ++ queued) wider.log got (IsOn wider id) p w
      one is =
          record {
            offset = is.offset;
            head = is.head;
            at = goes.stays is.offset (Some is.head) is.at;
            is = is.is;
            queued_at = at_more more queued p is.head.message is.queued_at;
            number = on_more history wider goes id is.offset is.head w.number is.at is.number;
            ppid = is.ppid;
            payload = is.payload;
            spent = spent_more history wider goes got p is.spent;
          }

  unfoldable pub holds_more : (got : List ℕ) (base : ℕ) (read : List ℕ) (incoming : IncomingModel) → HoldsIncoming queued history got base read incoming → HoldsIncoming (more ++ queued) wider got base read incoming
  holds_more got base read incoming holds =
      record {
        waits = holds.waits;
        streams_hold = λ id. (
            let s = holds.streams_hold id in
            record {
              rows = record {
                is = s.rows.is;
                ordered = rows_more history wider goes got (ordered_base base) (IsOn history id) (IsOn wider id) (on_more history wider goes id) (stream_on id incoming.streams).ordered s.rows.ordered;
                unordered = rows_more history wider goes got (ordered_base base) (IsApart history id) (IsApart wider id) (apart_more history wider goes id) (stream_on id incoming.streams).unordered s.rows.unordered;
                next = reads_more history wider goes id false (stream_on id incoming.streams).next s.rows.next;
                last = reads_more history wider goes id true (stream_on id incoming.streams).last_unordered s.rows.last;
              };
              wait = wait_more got id (holds.waits id) (stream_on id incoming.streams).waiting s.wait;
            }
            );
        rows = rows_more history wider goes got (unordered_base base) IsOfStream IsOfStream (λ n f number at named. named) incoming.unordered holds.rows;
        places = holds.places;
        were_queued = were_more queued more holds.places incoming.ready holds.were_queued;
        spent = λ p h. spent_more history wider goes got p (holds.spent p h);
        once = holds.once;
      }

  reassembles_more : (first : ℕ) (got read : List ℕ) (incoming : IncomingModel) → Reassembles queued history first got read incoming → Reassembles (more ++ queued) wider first got read incoming
  reassembles_more first got read incoming (untouched none last empty) = untouched none last (λ base. holds_more [] base read incoming (empty base))
  reassembles_more first got read incoming (placed base is holds) = placed base is (holds_more got base read incoming holds)

  pub received_wider : (first : ℕ) (read : List ℕ) (tracker : TrackerState) (reassembly : ReassemblyState) → OthersArePast wider first tracker.cumulative → HasReceived queued history first read tracker reassembly
      → HasReceived (more ++ queued) wider first read tracker reassembly
  received_wider first read tracker reassembly old r =
      record {
        taken = r.taken;
        got = r.got;
        later = r.later;
        tracks = more_given_out first (length history.log) (length wider.log) r.taken tracker goes.longer r.tracks;
        got_taken = r.got_taken;
        later_taken = r.later_taken;
        apart = r.apart;
        distinct = r.distinct;
        holds = reassembles_more first r.got read reassembly.incoming r.holds;
        defers = defers_more history wider goes first r.later (waiting_of reassembly.deferral) r.defers;
        beyond = r.beyond;
        forwards = forwards_more history wider goes first reassembly.deferral r.forwards;
        old = old;
      }

-- ---- more is queued and assigned

-- what is at a place comes from the one list or the other
at_either : {A : Type 0} (later log : List A) (n : ℕ) (x : A) → at_place n (later ++ log) ≡ Some x → (at_place n log ≡ Some x) ⊎ ((m : ℕ) × (at_place m later ≡ Some x))
at_either [] log n x at = inl at
at_either (newest ∷ later) log n x at =
    elim (at_cases n newest x (later ++ log) at) [
      | inl e ↦ inr (length later, at_new newest later ∙ ap Some e.1)
      | inr earlier ↦ elim (at_either later log n x earlier) [
        | inl here ↦ inl here
        | inr there ↦ inr (there.0, at_stays there.0 newest x later there.1)
      ]
    ]

pub received_more : (queued more : List Message) (history : History) (later : List Slot) (first : ℕ) (read : List ℕ) (tracker : TrackerState) (reassembly : ReassemblyState) → AreCurrent history later
    → HasReceived queued history first read tracker reassembly → HasReceived (more ++ queued) (log_extended later history) first read tracker reassembly
received_more queued more history later first read tracker reassembly are r =
    received_wider queued more history (log_extended later history)
    (record { stays = λ n slot at. at_more later history.log n slot at; current = λ n f at is. is; longer = omega (arith, length-append later history.log); marks = λ mark has. inl (as_itself history mark has) }) first read tracker reassembly old r
  where
    old : OthersArePast (log_extended later history) first tracker.cumulative
    old n f at kind aged =
        elim (at_either later history.log n (Some f) at) [
          | inl here ↦ (let past = r.old n f here kind aged in record { mark = past.mark; has = past.has; names = past.names; below = past.below; passed = past.passed })
          | inr there ↦ absurd (aged (are there.0 f there.1 kind))
        ]

-- ---- a reset begins

pub received_asked : (queued : List Message) (history : History) (begun : Option BegunReset) (ids : List ℕ) (bound first : ℕ) (read : List ℕ) (tracker : TrackerState) (reassembly : ReassemblyState) → length history.log ≤ bound
    → HasReceived queued history first read tracker reassembly → HasReceived queued (with_mark begun ids bound history) first read tracker reassembly
received_asked queued history None ids bound first read tracker reassembly assigned r = r
received_asked queued history (Some begun) ids bound first read tracker reassembly assigned r =
    received_wider queued [] history (with_mark (Some begun) ids bound history)
    (record {
      stays = λ n slot at. at;
      current = λ n f at is. is;
      longer = omega arith;
      marks = λ mark has. elim has [
        | inl e ↦ inr (let same : mark.bound ≡ bound = ap (λ (m : Mark). m.bound) e in omega (arith, same, assigned))
        | inr earlier ↦ inl (as_itself history mark earlier)
      ];
    }) first read tracker reassembly
    (λ n f at kind aged. (let past = r.old n f at kind aged in record { mark = past.mark; has = inr past.has; names = past.names; below = past.below; passed = past.passed })) r

-- ---- a reset continues under another number

pub received_renewed : (queued : List Message) (history : History) (number : ℕ) (renewed : Mark) (first : ℕ) (read : List ℕ) (tracker : TrackerState) (reassembly : ReassemblyState) → HasEntry renewed history.marks
    → HasReceived queued history first read tracker reassembly → HasReceived queued (with_renewed number renewed history) first read tracker reassembly
received_renewed queued history number renewed first read tracker reassembly known r =
    received_wider queued [] history (with_renewed number renewed history)
    (record { stays = λ n slot at. at; current = λ n f at is. is; longer = omega arith; marks = λ mark has. inl (as_renewed history number renewed mark known has) }) first read tracker reassembly
    (λ n f at kind aged. (let past = r.old n f at kind aged in record { mark = past.mark; has = inr past.has; names = past.names; below = past.below; passed = past.passed })) r

-- ---- nothing was assigned yet

pub received_awaited : (queued : List Message) (history : History) (floors : ℕ → Bool → ℕ) (first : ℕ) (read : List ℕ) (tracker : TrackerState) (reassembly : ReassemblyState) → history.log ≡ []
    → HasReceived queued history first read tracker reassembly → HasReceived queued (new_history floors) first read tracker reassembly
received_awaited queued history floors first read tracker reassembly empty r =
    received_wider queued [] history (new_history floors)
    (record {
      stays = λ n slot at. absurd (none n slot at);
      current = λ n f at is. absurd (none n (Some f) at);
      longer = (let no : length history.log ≡ 0 = ap (λ (l : List Slot). length l) empty in omega (arith, no));
      marks = λ mark has. absurd has;
    }) first read tracker reassembly (λ n f at kind aged. absurd (nowhere n (Some f) at)) r
  where
    nowhere : (n : ℕ) (slot : Slot) → at_place n [] ≡ Some slot → ⊥
    nowhere n slot at = absurd (cc)

    none : (n : ℕ) (slot : Slot) → at_place n history.log ≡ Some slot → ⊥
    none n slot at = nowhere n slot (subst (λ (l : List Slot). at_place n l ≡ Some slot) empty at)

-- The receiver performs the newest reset.
use Rattle.std.proofs.Common.{◌≡◌, ℕ, true, false, ◌<◌, ◌≤◌, ◌+◌, ◌-◌, ◌%◌, ◌^◌, List, [], ◌∷◌, map, refl, sym, ◌∙◌, ap, arith, nat_lt, subst, inl, inr}
use Rattle.std.specs.Prelude.{not, ◌&&◌, ◌||◌, ◌==◌, Bool}
use Rattle.std.proofs.lemmas.Bool.Decides.{leb_tells, nat_tests}
use Rattle.std.proofs.lemmas.Bool.{eq-eqb, eqb-true}
use Rattle.dcsctp_spec.specs.queues.Incoming.{is_named}
use Rattle.dcsctp_spec.specs.queues.Numbers.{ahead_of, is_tsn_beyond}
use Rattle.dcsctp_spec.specs.queues.Reassembly.{ReassemblyState, EndsDeferral}
use Rattle.dcsctp_spec.specs.endpoint.BegunResets.{BegunReset, stream_field}
use Rattle.dcsctp_delivery_directions.specs.sending.Places.{HasEntry}
use Rattle.dcsctp_delivery_directions.specs.sending.Log.{Mark}
use Rattle.dcsctp_delivery_directions.specs.receiving.Clear.{IsOwn}
use Rattle.dcsctp_delivery_directions.specs.receiving.Tracked.{tracked_number}
use Rattle.dcsctp_delivery_directions.specs.directions.Directions.{reset_performed, Direction, is_reset_reached}
use Rattle.dcsctp_delivery_directions.proofs.sending.Counting.{told}
use Rattle.dcsctp_delivery_directions.proofs.sending.Chunks.{kinds_of}
use Rattle.dcsctp_delivery_directions.proofs.receiving.Reassembled.{left_keeps}
use Rattle.dcsctp_delivery_directions.proofs.receiving.Clearing.{performing_clears}
use Rattle.dcsctp_delivery_directions.proofs.directions.Standing.{Stands, few_of}

-- ---- all before it was received

-- so far ahead is the last TSN before it
ahead_by : (first bound cumulative : ℕ) → tracked_number first 0 ≤ cumulative + 1 → cumulative + 1 < tracked_number first bound → bound < 2 ^ 31
    → ahead_of (2 ^ 32) (cumulative % 2 ^ 32) ((first + bound + (2 ^ 32 - 1)) % 2 ^ 32) + cumulative + 1 ≡ tracked_number first bound
ahead_by first bound cumulative from less few = omega (arith, from, less, few)

lies_beyond : (ahead : ℕ) → 0 < ahead → ahead < 2 ^ 31 → (nat_lt 0 ahead && nat_lt ahead (2 ^ 31)) ≡ true
lies_beyond ahead some few = grind (arith, nat_tests)

pub passed_before : (first bound cumulative : ℕ) → tracked_number first 0 ≤ cumulative + 1 → bound < 2 ^ 31 → not (is_tsn_beyond ((first + bound + (2 ^ 32 - 1)) % 2 ^ 32) (cumulative % 2 ^ 32)) ≡ true → tracked_number first bound ≤ cumulative + 1
passed_before first bound cumulative from few reached =
    elim (leb_tells (tracked_number first bound) (cumulative + 1)) [
      | inl e ↦ e.1
      | inr e ↦
          (let less : cumulative + 1 < tracked_number first bound = e.1 in
          let by = ahead_by first bound cumulative from less few in
          let ahead : ℕ = ahead_of (2 ^ 32) (cumulative % 2 ^ 32) ((first + bound + (2 ^ 32 - 1)) % 2 ^ 32) in
          let beyond = lies_beyond ahead (omega (arith, by, less)) (omega (arith, by, from, few)) in
          let clash : false ≡ true = sym (ap not beyond) ∙ reached in
          absurd (cc))
    ]

-- ---- streams by their fields

pub named_field : (ids : List ℕ) (id : ℕ) → id < 2 ^ 16 → is_named ids id ≡ true → is_named (map stream_field ids) id ≡ true
named_field [] id small named = absurd (cc)
named_field (one ∷ ids) id small named = go (one == id) refl named (λ rest. named_field ids id small rest)
  where
    or_here : (b : Bool) → b ≡ true → (b || is_named (map stream_field ids) id) ≡ true
    or_here true is = refl
    or_here false is = absurd (cc)

    or_behind : (b : Bool) → is_named (map stream_field ids) id ≡ true → (b || is_named (map stream_field ids) id) ≡ true
    or_behind true is = refl
    or_behind false is = is

    go : (b : Bool) → (one == id) ≡ b → (b || is_named ids id) ≡ true → (is_named ids id ≡ true → is_named (map stream_field ids) id ≡ true) → is_named (map stream_field (one ∷ ids)) id ≡ true
    go true same is behind = (let one_is : one ≡ id = eqb-true one id same in or_here (stream_field one == id) (eq-eqb (stream_field one) id (omega (arith, one_is, small))))
    go false other is behind = or_behind (stream_field one == id) (behind is)

-- ---- it is of the newest mark

pub record IsNewest (marks : List Mark) (begun : BegunReset) : Type 0 where
  pub mark : Mark
  pub earlier : List Mark
  pub is : marks ≡ mark ∷ earlier
  pub begins : mark.begun ≡ begun

pub newest_of : (marks : List Mark) (begun : BegunReset) (earlier : List BegunReset) → map (λ mark. mark.begun) marks ≡ begun ∷ earlier → IsNewest marks begun
newest_of [] begun earlier is = absurd (cc)
newest_of (mark ∷ marks) begun earlier is = record { mark = mark; earlier = marks; is = refl; begins = cc }

unfoldable pub stepped_performs : (first : ℕ) (old : Direction) → first < 2 ^ 32 → Stands first old → (newest : BegunReset) (earlier : List BegunReset) (new : ReassemblyState) → old.asking.requests ≡ newest ∷ earlier
    → is_reset_reached newest.reset old.tracker ≡ true → IsOwn newest.reset old.reassembly.deferral → EndsDeferral newest.reset.streams old.reassembly new
    → Stands first (record old { reassembly = new; performed = reset_performed newest.reset.streams old.read new ∷ old.performed; asking = record old.asking { is_performed = true } })
stepped_performs first old small s newest earlier new asks reached own leaves =
    let m = newest_of s.history.marks newest earlier (sym s.asked ∙ asks) in
    let has : HasEntry m.mark s.history.marks = subst (λ (l : List Mark). HasEntry m.mark l) (sym m.is) (inl refl) in
    let is_mark = s.queues.marks m.mark has in
    record {
      history = s.history;
      fit = s.fit;
      next = s.next;
      queues = s.queues;
      packets = s.packets;
      count = s.count;
      asked = s.asked;
      quiet = s.quiet;
      arrived = λ little. (
          let a = s.arrived little in
          let few = few_of first s.history small little in
          let within = is_mark.within in
          let is : newest.reset.last_tsn ≡ (first + m.mark.bound + (2 ^ 32 - 1)) % 2 ^ 32 = ap (λ (b : BegunReset). b.reset.last_tsn) (sym m.begins) ∙ is_mark.last in
          record {
            places = a.places;
            were = a.were;
            once = a.once;
            received = left_keeps old.queued s.history first s.queues.cut (told s.history old.queues.queue s.queues.numbers little) few a.places newest.reset.streams old.tracker old.reassembly new a.received leaves;
            cleared = λ kind performed.
                record {
                  mark = m.mark;
                  earlier = m.earlier;
                  is = m.is;
                  passed = passed_before first m.mark.bound old.tracker.cumulative a.received.tracks.started (omega (arith, within, little))
                      (subst (λ (k : ℕ). not (is_tsn_beyond k (old.tracker.cumulative % 2 ^ 32)) ≡ true) is reached);
                  clear = λ id small handed names below. performing_clears old.queued s.history first id a.places m.mark old.tracker old.reassembly new (kinds_of s.queues.numbers (sym kind)) few a.received has within is_mark.last names (subst (λ (l : List ℕ). is_named l id ≡ true) (sym is_mark.fields) (named_field m.mark.ids id small names)) below
                      (subst (λ (b : BegunReset). IsOwn b.reset old.reassembly.deferral) (sym m.begins) own) (subst (λ (b : BegunReset). EndsDeferral b.reset.streams old.reassembly new) (sym m.begins) leaves);
                };
          }
          );
    }

-- The streams that are paused or have a message under way, where one changes.
use Rattle.std.proofs.Common.{◌≡◌, ℕ, zero, suc, ◌+◌, ◌<◌, ◌≤◌, Bool, true, false, if◌then◌else◌, Err, List, [], ◌∷◌, length, get_or, set, refl, sym, ap, subst, ◌∙◌, arith}
use Rattle.std.specs.List.{insert, remove}
use Rattle.std.specs.VecDeque.{deque_capacity}
use Rattle.dcsctp_api.specs.types.declared.ids.StreamId.{StreamId}
use Rattle.dcsctp_api.specs.types.queues.SendStreams.{Stream, stream_at, IsBelow, IsAscending}
use Rattle.dcsctp_send_queue.specs.declared.paused.PausedIds.{PausedIds}
use Rattle.dcsctp_send_queue.specs.declared.paused.Standing.{Standing}
use Rattle.dcsctp_send_queue.specs.Ranking.{IsFound}
use Rattle.dcsctp_send_queue.specs.Pausing.{standing_of, not_kept, is_standing_ready, is_standing_handed_out, is_standing_under_way, ids_meeting, NoneLess, AreIdsAscending, with_id_if, HoldsId, HoldsStanding, MovesId, MovesStanding, ArePaused}
use Rattle.dcsctp_send_queue.proofs.PausedLemmas.{with_id-first, with_id_if-behind}
use Rattle.dcsctp_send_queue.proofs.StreamLemmas.{IsBelow-at, IsAscending-set, remove-set, stream_at-set, length-set_at, length_less, at_place}
use Rattle.dcsctp_send_queue.proofs.PlaceLemmas.{IsAscending-insert, remove-insert, stream_at-insert, length-insert_at}

abbrev pub id_of : Stream → StreamId
id_of stream = record { 0 = stream.id }

abbrev Test : Type 0
Test = Standing → Bool

none_less_by : (test : Test) (y : StreamId) (x : Stream) (xs : List Stream) (b : Bool) → y.0 < x.id → NoneLess y (ids_meeting test xs) → NoneLess y (if b then id_of x ∷ ids_meeting test xs else ids_meeting test xs)
none_less_by test y x xs true lt rest = (omega arith, rest)
none_less_by test y x xs false lt rest = rest

none_less : (test : Test) (y : StreamId) (streams : List Stream) → IsBelow y.0 streams → NoneLess y (ids_meeting test streams)
none_less test y [] below = tt
none_less test y (x ∷ xs) below = none_less_by test y x xs (test (standing_of x)) below.0 (none_less test y xs below.1)

ascending_by : (test : Test) (x : Stream) (xs : List Stream) (b : Bool) → NoneLess (id_of x) (ids_meeting test xs) → AreIdsAscending (ids_meeting test xs) → AreIdsAscending (if b then id_of x ∷ ids_meeting test xs else ids_meeting test xs)
ascending_by test x xs true none rest = (none, rest)
ascending_by test x xs false none rest = rest

-- the numbers ascend as the streams do
pub ids-ascending : (test : Test) (streams : List Stream) → IsAscending streams → AreIdsAscending (ids_meeting test streams)
ids-ascending test [] ascending = tt
ids-ascending test (x ∷ xs) ascending = ascending_by test x xs (test (standing_of x)) (none_less test (id_of x) xs ascending.0) (ids-ascending test xs ascending.1)

first_by : (x : StreamId) (ids : List StreamId) (b : Bool) → NoneLess x ids → (if b then x ∷ ids else ids) ≡ with_id_if b x ids
first_by x ids true none = sym (with_id-first ids x none)
first_by x ids false none = refl

behind_by : (x id : StreamId) (ids : List StreamId) (b c : Bool) → x.0 < id.0 → (if b then x ∷ with_id_if c id ids else with_id_if c id ids) ≡ with_id_if c id (if b then x ∷ ids else ids)
behind_by x id ids true c lt = with_id_if-behind c x id ids lt
behind_by x id ids false c lt = refl

below_less : (y : ℕ) (streams : List Stream) (p : ℕ) → IsBelow y streams → IsBelow y (remove streams p)
below_less y [] zero below = tt
below_less y [] (suc p) below = tt
below_less y (x ∷ xs) zero below = below.1
below_less y (x ∷ xs) (suc p) below = (below.0, below_less y xs p below.1)

ascending_less : (streams : List Stream) (p : ℕ) → IsAscending streams → IsAscending (remove streams p)
ascending_less [] zero ascending = tt
ascending_less [] (suc p) ascending = tt
ascending_less (x ∷ xs) zero ascending = ascending.1
ascending_less (x ∷ xs) (suc p) ascending = (below_less x.id xs p ascending.0, ascending_less xs p ascending.1)

-- the numbers are those of the others with that of the stream at a place
pub ids-split : (test : Test) (streams : List Stream) (p : ℕ) → IsAscending streams → p < length streams
    → ids_meeting test streams ≡ with_id_if (test (standing_of (stream_at streams p))) (id_of (stream_at streams p)) (ids_meeting test (remove streams p))
ids-split test [] p ascending lt = absurd (omega arith)
ids-split test (x ∷ xs) zero ascending lt = first_by (id_of x) (ids_meeting test xs) (test (standing_of x)) (none_less test (id_of x) xs ascending.0)
ids-split test (x ∷ xs) (suc p) ascending lt =
    let less = IsBelow-at x.id xs p ascending.0 (omega arith) in
    ap (λ ids. if test (standing_of x) then id_of x ∷ ids else ids) (ids-split test xs p ascending.1 (omega arith))
    ∙ behind_by (id_of x) (id_of (stream_at xs p)) (ids_meeting test (remove xs p)) (test (standing_of x)) (test (standing_of (stream_at xs p))) less

length_by : (x : StreamId) (ids : List StreamId) (b : Bool) (n : ℕ) → length ids ≤ n → length (if b then x ∷ ids else ids) ≤ n + 1
length_by x ids true n le = omega arith
length_by x ids false n le = omega arith

pub length-ids : (test : Test) (streams : List Stream) → length (ids_meeting test streams) ≤ length streams
length-ids test [] = omega arith
length-ids test (x ∷ xs) = let le = length_by (id_of x) (ids_meeting test xs) (test (standing_of x)) (length xs) (length-ids test xs) in omega (arith, le)

-- the first of the numbers is one of these streams
pub front_met : (test : Test) (inside streams : List Stream) (ids : List StreamId) (n : ℕ) (id : StreamId) → inside ≡ streams → ids ≡ ids_meeting test inside → n ≡ length ids → 0 < n
    → id ≡ get_or ids 0 id → (0 < length (ids_meeting test streams)) × (id ≡ get_or (ids_meeting test streams) 0 id)
front_met test inside streams ids n id same are len some is =
    let all : ids ≡ ids_meeting test streams = are ∙ ap (λ (s : List Stream). ids_meeting test s) same in
    let more : 0 < length ids = omega (arith, len, some) in
    (subst (λ (xs : List StreamId). 0 < length xs) all more, subst (λ (xs : List StreamId). id ≡ get_or xs 0 id) all is)

-- without numbers none of the streams has one
pub none_met : (test : Test) (inside streams : List Stream) (ids : List StreamId) (n : ℕ) → inside ≡ streams → ids ≡ ids_meeting test inside → n ≡ length ids → (0 < n → ⊥)
    → ids_meeting test streams ≡ []
none_met test inside streams [] n same are len none = sym (are ∙ ap (λ (s : List Stream). ids_meeting test s) same)
none_met test inside streams (id ∷ ids) n same are len none = absurd (none (omega (arith, len)))

-- ---- a stream that was read changes

holds_one : (test : Test) (streams : List Stream) (ids : List StreamId) (room p : ℕ) → IsAscending streams → ids ≡ ids_meeting test streams → length streams ≤ room → p < length streams
    → HoldsId ids (test (standing_of (stream_at streams p))) (id_of (stream_at streams p)) room
holds_one test streams ids room p ascending are fits lt =
    let few = length-ids test (remove streams p) in
    let less = length_less streams p lt in
    record {
      others = ids_meeting test (remove streams p);
      are = are ∙ ids-split test streams p ascending lt;
      ascending = ids-ascending test (remove streams p) (ascending_less streams p ascending);
      has_room = omega (arith, few, less, fits);
    }

-- what a move asks for
pub holds_standing : (streams : List Stream) (ids : PausedIds) (p : ℕ) (x : Stream) (id : StreamId) (standing : Standing) → IsAscending streams → ArePaused streams ids → p < length streams
    → x ≡ get_or streams p x → id.0 ≡ x.id → standing ≡ standing_of x → HoldsStanding ids id standing
holds_standing streams ids p x id standing ascending paused lt e same is =
    let at = at_place streams p x lt e in
    let number : id ≡ id_of (stream_at streams p) = ap (λ (n : ℕ). (let it : StreamId = record { 0 = n } in it)) (same ∙ ap (λ s. s.id) at) in
    let was : standing ≡ standing_of (stream_at streams p) = is ∙ ap (λ (s : Stream). standing_of s) at in
    rw (number, was) (record {
      ready = holds_one is_standing_ready streams ids.ready.items _ p ascending paused.ready paused.has_room lt;
      handed_out = holds_one is_standing_handed_out streams ids.handed_out.items _ p ascending paused.handed_out paused.has_more lt;
      under_way = holds_one is_standing_under_way streams ids.under_way.items _ p ascending paused.under_way paused.has_most lt;
    })

set_one : (test : Test) (streams : List Stream) (old new : List StreamId) (p : ℕ) (s : Stream) → IsAscending streams → old ≡ ids_meeting test streams → p < length streams → s.id ≡ (stream_at streams p).id
    → MovesId old new (id_of (stream_at streams p)) (test (standing_of (stream_at streams p))) (test (standing_of s)) → new ≡ ids_meeting test (set streams p s)
set_one test streams old new p s ascending are lt same moved =
    let len = length-set_at streams p s in
    let split = ids-split test (set streams p s) p (IsAscending-set streams p s ascending lt same) (omega (arith, len)) in
    let there = ap (λ x. with_id_if (test (standing_of x)) (id_of x) (ids_meeting test (remove (set streams p s) p))) (stream_at-set streams p s lt) in
    let others = ap (λ xs. with_id_if (test (standing_of s)) (id_of s) (ids_meeting test xs)) (remove-set streams p s lt) in
    let number = ap (λ (n : ℕ). with_id_if (test (standing_of s)) (record { 0 = n }) (ids_meeting test (remove streams p))) (sym same) in
    moved (ids_meeting test (remove streams p)) (are ∙ ids-split test streams p ascending lt) ∙ (number ∙ sym (split ∙ (there ∙ others)))

-- what is left after a change of a stream that was read, and of its standing
pub paused_read : (streams : List Stream) (old new : PausedIds) (p : ℕ) (x s : Stream) (id : StreamId) (before after : Standing) → IsAscending streams → ArePaused streams old → p < length streams
    → x ≡ get_or streams p x → id.0 ≡ x.id → before ≡ standing_of x → s.id ≡ x.id → after ≡ standing_of s → MovesStanding old new id before after → ArePaused (set streams p s) new
paused_read streams old new p x s id before after ascending paused lt e same was keeps will moves =
    let at = at_place streams p x lt e in
    let number : id ≡ id_of (stream_at streams p) = ap (λ (n : ℕ). (let it : StreamId = record { 0 = n } in it)) (same ∙ ap (λ s. s.id) at) in
    let first : before ≡ standing_of (stream_at streams p) = was ∙ ap (λ (s : Stream). standing_of s) at in
    let kept : s.id ≡ (stream_at streams p).id = keeps ∙ ap (λ s. s.id) at in
    let len = length-set_at streams p s in
    let moved : MovesStanding old new (id_of (stream_at streams p)) (standing_of (stream_at streams p)) (standing_of s) = rw (number, first, will) at moves in
    let has_room = paused.has_room in
    let has_more = paused.has_more in
    let has_most = paused.has_most in
    let room = moves.has_room in
    let more = moves.has_more in
    let most = moves.has_most in
    record {
      ready = set_one is_standing_ready streams old.ready.items new.ready.items p s ascending paused.ready lt kept moved.ready;
      handed_out = set_one is_standing_handed_out streams old.handed_out.items new.handed_out.items p s ascending paused.handed_out lt kept moved.handed_out;
      under_way = set_one is_standing_under_way streams old.under_way.items new.under_way.items p s ascending paused.under_way lt kept moved.under_way;
      has_room = omega (arith, len, has_room, room);
      has_more = omega (arith, len, has_more, more);
      has_most = omega (arith, len, has_most, most);
    }

moves_same : (test : Test) (ids : List StreamId) (id : StreamId) (before after : Standing) → after ≡ before → MovesId ids ids id (test before) (test after)
moves_same test ids id before after same others are = are ∙ ap (λ (it : Standing). with_id_if (test it) id others) (sym same)

-- what is left after a change of a stream that was read, which keeps its standing
pub paused_same : (streams : List Stream) (ids : PausedIds) (p : ℕ) (x s : Stream) → IsAscending streams → ArePaused streams ids → p < length streams
    → x ≡ get_or streams p x → s.id ≡ x.id → standing_of s ≡ standing_of x → ArePaused (set streams p s) ids
paused_same streams ids p x s ascending paused lt e keeps same =
    paused_read streams ids ids p x s (id_of x) (standing_of x) (standing_of s) ascending paused lt e refl refl keeps refl (record {
      ready = moves_same is_standing_ready ids.ready.items (id_of x) (standing_of x) (standing_of s) same;
      handed_out = moves_same is_standing_handed_out ids.handed_out.items (id_of x) (standing_of x) (standing_of s) same;
      under_way = moves_same is_standing_under_way ids.under_way.items (id_of x) (standing_of x) (standing_of s) same;
      has_room = omega arith;
      has_more = omega arith;
      has_most = omega arith;
    })

-- ---- a stream is put in

insert_one : (test : Test) (streams : List Stream) (old new : List StreamId) (p : ℕ) (s : Stream) → IsAscending streams → old ≡ ids_meeting test streams → IsFound streams s.id (Err p)
    → MovesId old new (id_of s) false (test (standing_of s)) → new ≡ ids_meeting test (insert streams p s)
insert_one test streams old new p s ascending are found moved =
    let len = length-insert_at streams p s found.0 in
    let bound = found.0 in
    let split = ids-split test (insert streams p s) p (IsAscending-insert streams p s ascending found) (omega (arith, len, bound)) in
    let there = ap (λ x. with_id_if (test (standing_of x)) (id_of x) (ids_meeting test (remove (insert streams p s) p))) (stream_at-insert streams p s found.0) in
    let others = ap (λ xs. with_id_if (test (standing_of s)) (id_of s) (ids_meeting test xs)) (remove-insert streams p s found.0) in
    moved (ids_meeting test streams) are ∙ sym (split ∙ (there ∙ others))

fresh_one : (test : Test) (streams : List Stream) (ids : List StreamId) (room : ℕ) (id : StreamId) → IsAscending streams → ids ≡ ids_meeting test streams → length streams + 1 ≤ room → HoldsId ids false id room
fresh_one test streams ids room id ascending are fits =
    let few = length-ids test streams in
    let same = ap length are in
    record {
      others = ids;
      are = refl;
      ascending = rw are (ids-ascending test streams ascending);
      has_room = omega (arith, few, same, fits);
    }

-- There is room for one stream more.
pub record HaveRoom (streams : List Stream) (ids : PausedIds) : Type 0 where
  pub ready : length streams + 1 ≤ deque_capacity ids.ready
  pub handed_out : length streams + 1 ≤ deque_capacity ids.handed_out
  pub under_way : length streams + 1 ≤ deque_capacity ids.under_way

-- The same streams are in the lists, which may have more room.
pub kept_paused : (streams : List Stream) (old ids : PausedIds) → ArePaused streams old → ids.ready.items ≡ old.ready.items → ids.handed_out.items ≡ old.handed_out.items
    → ids.under_way.items ≡ old.under_way.items → HaveRoom streams ids → ArePaused streams ids
kept_paused streams old ids paused ready handed_out under_way room =
    let one = room.ready in
    let other = room.handed_out in
    let third = room.under_way in
    record {
      ready = ready ∙ paused.ready;
      handed_out = handed_out ∙ paused.handed_out;
      under_way = under_way ∙ paused.under_way;
      has_room = omega (arith, one);
      has_more = omega (arith, other);
      has_most = omega (arith, third);
    }

-- what a move asks for, of a stream that isn't there yet
pub holds_fresh : (streams : List Stream) (ids : PausedIds) (id : StreamId) → IsAscending streams → ArePaused streams ids → HaveRoom streams ids → HoldsStanding ids id not_kept
holds_fresh streams ids id ascending paused room = record {
  ready = fresh_one is_standing_ready streams ids.ready.items _ id ascending paused.ready room.ready;
  handed_out = fresh_one is_standing_handed_out streams ids.handed_out.items _ id ascending paused.handed_out room.handed_out;
  under_way = fresh_one is_standing_under_way streams ids.under_way.items _ id ascending paused.under_way room.under_way;
}

-- what is left after a stream was put in
pub paused_insert : (streams : List Stream) (ids new : PausedIds) (p : ℕ) (s : Stream) (id : StreamId) (standing : Standing) → IsAscending streams → IsFound streams s.id (Err p)
    → ArePaused streams ids → HaveRoom streams ids → id.0 ≡ s.id → standing ≡ standing_of s → MovesStanding ids new id not_kept standing → ArePaused (insert streams p s) new
paused_insert streams ids new p s id standing ascending found paused room same is moves =
    let number : id ≡ id_of s = ap (λ (n : ℕ). (let it : StreamId = record { 0 = n } in it)) same in
    let moved : MovesStanding ids new (id_of s) not_kept (standing_of s) = rw (number, is) at moves in
    let len = length-insert_at streams p s found.0 in
    let one = room.ready in
    let other = room.handed_out in
    let third = room.under_way in
    let has_room = moves.has_room in
    let has_more = moves.has_more in
    let has_most = moves.has_most in
    record {
      ready = insert_one is_standing_ready streams ids.ready.items new.ready.items p s ascending paused.ready found moved.ready;
      handed_out = insert_one is_standing_handed_out streams ids.handed_out.items new.handed_out.items p s ascending paused.handed_out found moved.handed_out;
      under_way = insert_one is_standing_under_way streams ids.under_way.items new.under_way.items p s ascending paused.under_way found moved.under_way;
      has_room = omega (arith, len, one, has_room);
      has_more = omega (arith, len, other, has_more);
      has_most = omega (arith, len, third, has_most);
    }

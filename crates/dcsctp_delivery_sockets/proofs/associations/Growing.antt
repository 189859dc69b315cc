-- Lists of messages that grow, and messages that stay marked.
use Rattle.std.proofs.Common.{◌≡◌, ◌≢◌, ℕ, ◌<◌, ◌+◌, List, [], ◌∷◌, ◌++◌, length, refl, sym, ◌∙◌, ap, arith, subst, inl, inr, append_assoc}
use Rattle.std.specs.Prelude.{Option, None, Some}
use Rattle.std.proofs.lemmas.List.{length-append}
use Rattle.dcsctp_spec_lemmas.specs.spec.endpoint.Endpoint.{Endpoint}
use Rattle.dcsctp_spec_lemmas.specs.spec.endpoint.Turn.{Input, arrival, refusal, packet_begins, chunk_input, packet_ends, act_input, user_sets, user_sends, user_resets, user_takes, timer_expires, time_passes, restores}
use Rattle.dcsctp_spec_lemmas.specs.spec.endpoint.MessageOutcomes.{MessageRefusal, Sending, sending_refusal, queue_one}
use Rattle.dcsctp_delivery_directions.specs.sending.Places.{at_place, table_with}
use Rattle.dcsctp_delivery_directions.specs.sending.Log.{Message}
use Rattle.dcsctp_delivery_directions.specs.sending.Marking.{IsMarkOf, FindsMarked, AreMarked, IsMarked}
use Rattle.dcsctp_delivery_directions.proofs.sending.Places.{decide, set_same, set_other, at_new, at_old, at_cases, at_stays}
use Rattle.dcsctp_delivery_directions.proofs.sending.Packets.{at_more}
use Rattle.dcsctp_delivery_directions.proofs.sending.MarkingAll.{is_own, mark_then}
use Rattle.dcsctp_delivery_sockets.specs.turns.Actions.{queued_unless_refused, queued_together, queued_after}

-- ---- tables

-- What holds of the new entry, and of the others as they were, holds of all.
pub set_all : {A : Type 0} (P : ℕ → A → Type 0) (k : ℕ) (v : A) (f : ℕ → A) → P k v → ((t : ℕ) → t ≢ k → P t (f t)) → (t : ℕ) → P t (table_with k v f t)
set_all P k v f here others t =
    elim (decide t k) [
      | inl e ↦ subst (λ (n : ℕ). P n (table_with k v f n)) (sym e) (subst (P k) (sym (set_same k v f)) here)
      | inr ne ↦ subst (P t) (sym (set_other k t v f ne)) (others t ne)
    ]

-- three tables
pub set_three : {A : Type 0} {B : Type 0} {C : Type 0} (P : ℕ → A → B → C → Type 0) (k : ℕ) (u : A) (v : B) (w : C) (f : ℕ → A) (g : ℕ → B) (h : ℕ → C) → P k u v w → ((t : ℕ) → t ≢ k → P t (f t) (g t) (h t))
    → (t : ℕ) → P t (table_with k u f t) (table_with k v g t) (table_with k w h t)
set_three P k u v w f g h here others t =
    elim (decide t k) [
      | inl e ↦
          subst (λ (n : ℕ). P n (table_with k u f n) (table_with k v g n) (table_with k w h n)) (sym e)
          (subst (λ (x : _). P k x (table_with k v g k) (table_with k w h k)) (sym (set_same k u f))
          (subst (λ (x : _). P k u x (table_with k w h k)) (sym (set_same k v g)) (subst (P k u v) (sym (set_same k w h)) here)))
      | inr ne ↦
          subst (λ (x : _). P t x (table_with k v g t) (table_with k w h t)) (sym (set_other k t u f ne))
          (subst (λ (x : _). P t (f t) x (table_with k w h t)) (sym (set_other k t v g ne)) (subst (P t (f t) (g t)) (sym (set_other k t w h ne)) (others t ne)))
    ]

-- ---- what a turn queues

where_adds : (why : Option MessageRefusal) (sending : Sending) (queued : List Message) → queued_unless_refused why sending queued ≡ queued_unless_refused why sending [] ++ queued
where_adds None sending queued = refl
where_adds (Some why) sending queued = refl

together_adds : (e : Endpoint) (sendings : List Sending) (queued : List Message) → queued_together e sendings queued ≡ queued_together e sendings [] ++ queued
together_adds e [] queued = refl
together_adds e (sending ∷ sendings) queued =
    let next : Endpoint = (queue_one e sending).after in
    let one : List Message = queued_unless_refused (sending_refusal e sending) sending [] in
    together_adds next sendings (queued_unless_refused (sending_refusal e sending) sending queued)
    ∙ ap (λ (l : List Message). queued_together next sendings [] ++ l) (where_adds (sending_refusal e sending) sending queued)
    ∙ sym (append_assoc (queued_together next sendings []) one queued) ∙ ap (λ (l : List Message). l ++ queued) (sym (together_adds next sendings one))

pub input_adds : (e : Endpoint) (input : Input) (queued : List Message) → queued_after e input queued ≡ queued_after e input [] ++ queued
input_adds e (user_sends sendings) queued = together_adds e sendings queued
input_adds e arrival queued = refl
input_adds e (refusal text) queued = refl
input_adds e (packet_begins contents) queued = refl
input_adds e (chunk_input tag content) queued = refl
input_adds e packet_ends queued = refl
input_adds e (act_input act) queued = refl
input_adds e (user_sets setting) queued = refl
input_adds e (user_resets ids) queued = refl
input_adds e user_takes queued = refl
input_adds e (timer_expires timer) queued = refl
input_adds e (time_passes moment) queued = refl
input_adds e (restores state) queued = refl

-- ---- messages that are marked

abbrev pub AllFound : List Message → List Message → Type 0
AllFound marks queued = (place : ℕ) (mark : Message) → at_place place marks ≡ Some mark → FindsMarked mark queued place

pub found_later : (more queued : List Message) (mark : Message) (place : ℕ) → FindsMarked mark queued place → FindsMarked mark (more ++ queued) place
found_later more queued mark place found = record { message = found.message; at = at_more more queued place found.message found.at; is = found.is }

pub found_then : (marks between queued : List Message) → AreMarked marks between → AllFound between queued → AllFound marks queued
found_then marks between queued are found place mark at =
    let one = are.finds place mark at in
    let two = found place one.message one.at in
    record { message = two.message; at = two.at; is = mark_then mark one.message two.message one.is two.is }

-- both lists grow by the same messages
pub found_grown : (more marks queued : List Message) → length marks ≡ length queued → AllFound marks queued → AllFound (more ++ marks) (more ++ queued)
found_grown [] marks queued long found place mark at = found place mark at
found_grown (m ∷ more) marks queued long found place mark at =
    elim (at_cases place m mark (more ++ marks) at) [
      | inl e ↦
          (let same : place ≡ length (more ++ queued) = e.0 ∙ length-append more marks ∙ ap (λ (n : ℕ). length more + n) long ∙ sym (length-append more queued) in
          record {
            message = m;
            at = subst (λ (n : ℕ). at_place n (m ∷ more ++ queued) ≡ Some m) (sym same) (at_new m (more ++ queued));
            is = subst (λ (x : Message). IsMarkOf x m) e.1 (is_own m);
          })
      | inr t ↦
          (let found' = found_grown more marks queued long found place mark t in
          record { message = found'.message; at = at_stays place m found'.message (more ++ queued) found'.at; is = found'.is })
    ]

at_before : (more queued : List Message) (place : ℕ) → place < length queued → at_place place (more ++ queued) ≡ at_place place queued
at_before [] queued place below = refl
at_before (m ∷ more) queued place below =
    at_old place m (more ++ queued) (let long = length-append more queued in omega (arith, below, long)) ∙ at_before more queued place below

pub marked_grown : (more queued : List Message) (place : ℕ) → place < length queued → IsMarked place queued → IsMarked place (more ++ queued)
marked_grown more queued place below is message at = is message (sym (at_before more queued place below) ∙ at)

pub marked_still : (marks queued : List Message) (place : ℕ) → AreMarked marks queued → IsMarked place queued → IsMarked place marks
marked_still marks queued place are is message at = (let found = are.finds place message at in found.is.kept (is found.message found.at))

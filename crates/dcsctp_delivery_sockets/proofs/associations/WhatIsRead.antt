-- What a turn reads, by the association that received it.
use Rattle.std.proofs.Common.{◌≡◌, ◌≢◌, ◌==◌, ℕ, Bool, true, false, Option, Some, List, [], ◌∷◌, ◌++◌, refl, sym, ◌∙◌, ap, subst, inl, inr}
use Rattle.std.specs.Prelude.{if◌then◌else◌}
use Rattle.std.proofs.lemmas.Bool.Decides.{eqb_tells}
use Rattle.dcsctp_spec_lemmas.specs.spec.endpoint.DataOutcomes.{ready_or_left}
use Rattle.dcsctp_spec_lemmas.specs.spec.endpoint.Endpoint.{Endpoint}
use Rattle.dcsctp_spec_lemmas.specs.spec.endpoint.Turn.{Input, arrival, refusal, packet_begins, chunk_input, packet_ends, act_input, user_sets, user_sends, user_resets, user_takes, timer_expires, time_passes, restores}
use Rattle.dcsctp_spec_lemmas.specs.types.queues.Messages.{MessageContent}
use Rattle.dcsctp_spec_lemmas.specs.spec.queues.Transfer.{Transfer}
use Rattle.dcsctp_spec_runs.specs.World.{after_effects}
use Rattle.dcsctp_spec_lemmas.specs.spec.association.Effect.{Effect, holds}
use Rattle.dcsctp_theorem_association.proofs.Growth.{after_within}
use Rattle.dcsctp_spec_laws.specs.LeftLaws.{left_once}
use Rattle.dcsctp_delivery_sockets.specs.turns.Actions.{IsOpening, content_of_input, with_first, read_if_connected, read_after}
use Rattle.dcsctp_delivery_sockets.specs.associations.Reads.{Tags, ReadMessage, and_first, tagged_after, with_key, AreOfLink, AllOfLinks}

-- ---- which turns read

-- A turn reads nothing and takes nothing of what was left, or its input is the user's call.
pub record ReadsNone (input : Input) : Type 0 where
  pub left : (messages : List MessageContent) → left_once input messages ≡ messages
  pub tagged : (tag : Tags) (e : Endpoint) (reads : List ReadMessage) → tagged_after tag e input reads ≡ reads
  pub own : (e : Endpoint) (read : List MessageContent) → read_after e input read ≡ read

pub data MayRead : Input → Type 0 where
  reads_first : MayRead user_takes
  reads_none : (input : Input) → ReadsNone input → MayRead input

pub may_read : (input : Input) → MayRead input
may_read user_takes = reads_first
may_read arrival = reads_none arrival (record { left = λ m. refl; tagged = λ t e r. refl; own = λ e r. refl })
may_read (refusal text) = reads_none (refusal text) (record { left = λ m. refl; tagged = λ t e r. refl; own = λ e r. refl })
may_read (packet_begins contents) = reads_none (packet_begins contents) (record { left = λ m. refl; tagged = λ t e r. refl; own = λ e r. refl })
may_read (chunk_input tag content) = reads_none (chunk_input tag content) (record { left = λ m. refl; tagged = λ t e r. refl; own = λ e r. refl })
may_read packet_ends = reads_none packet_ends (record { left = λ m. refl; tagged = λ t e r. refl; own = λ e r. refl })
may_read (act_input act) = reads_none (act_input act) (record { left = λ m. refl; tagged = λ t e r. refl; own = λ e r. refl })
may_read (user_sets setting) = reads_none (user_sets setting) (record { left = λ m. refl; tagged = λ t e r. refl; own = λ e r. refl })
may_read (user_sends messages) = reads_none (user_sends messages) (record { left = λ m. refl; tagged = λ t e r. refl; own = λ e r. refl })
may_read (user_resets ids) = reads_none (user_resets ids) (record { left = λ m. refl; tagged = λ t e r. refl; own = λ e r. refl })
may_read (timer_expires timer) = reads_none (timer_expires timer) (record { left = λ m. refl; tagged = λ t e r. refl; own = λ e r. refl })
may_read (time_passes moment) = reads_none (time_passes moment) (record { left = λ m. refl; tagged = λ t e r. refl; own = λ e r. refl })
may_read (restores state) = reads_none (restores state) (record { left = λ m. refl; tagged = λ t e r. refl; own = λ e r. refl })

-- ---- nothing is read

-- An association reads nothing in this turn, so nothing is read.
pub reads_still : (tag : Tags) (d : Endpoint) (input : Input) (transfer : Transfer) (reads : List ReadMessage) → d.queues.transfer ≡ Some transfer → ((read : List MessageContent) → read_after d input read ≡ read) → tagged_after tag d input reads ≡ reads
reads_still tag d input transfer reads there unread = go input (may_read input) unread
  where
    none_ready : (ready : List MessageContent) → ((read : List MessageContent) → with_first ready read ≡ read) → ready ≡ []
    none_ready [] none = refl
    none_ready (message ∷ ready) none = (let clash : message ∷ [] ≡ [] = none [] in absurd (cc))

    go : (i : Input) → MayRead i → ((read : List MessageContent) → read_after d i read ≡ read) → tagged_after tag d i reads ≡ reads
    go _ reads_first none =
        let empty : transfer.reassembly.incoming.ready ≡ [] = none_ready transfer.reassembly.incoming.ready (λ read. sym (ap (λ (t : Option Transfer). read_if_connected t read) there) ∙ none read) in
        ap (λ (t : Option Transfer). and_first tag (ready_or_left d.left t) reads) there ∙ ap (λ (l : List MessageContent). and_first tag l reads) empty
    go _ (reads_none i rests) none = rests.tagged tag d reads

-- The chunk by which an association begins reads nothing.
pub opening_still : (tag : Tags) (d : Endpoint) (input : Input) (reads : List ReadMessage) → IsOpening (content_of_input input) → tagged_after tag d input reads ≡ reads
opening_still tag d input reads opening = go input (may_read input) opening
  where
    go : (i : Input) → MayRead i → IsOpening (content_of_input i) → tagged_after tag d i reads ≡ reads
    go _ reads_first opens = absurd opens
    go _ (reads_none i rests) opens = rests.tagged tag d reads

-- ---- those of one association

tag_append : (tag : ℕ) (reads : List ReadMessage) (read : ReadMessage) → with_key tag (reads ++ read ∷ []) ≡ (if read.tags.peer == tag then with_key tag reads ++ read.message ∷ [] else with_key tag reads)
tag_append tag [] read = refl
tag_append tag (r ∷ reads) read = go (r.tags.peer == tag) (read.tags.peer == tag) (tag_append tag reads read)
  where
    go : (b c : Bool) → with_key tag (reads ++ read ∷ []) ≡ (if c then with_key tag reads ++ read.message ∷ [] else with_key tag reads)
        → (if b then r.message ∷ with_key tag (reads ++ read ∷ []) else with_key tag (reads ++ read ∷ []))
        ≡ (if c then (if b then r.message ∷ with_key tag reads else with_key tag reads) ++ read.message ∷ [] else (if b then r.message ∷ with_key tag reads else with_key tag reads))
    go true true e = ap (λ (l : List MessageContent). r.message ∷ l) e
    go true false e = ap (λ (l : List MessageContent). r.message ∷ l) e
    go false true e = e
    go false false e = e

pub first_own : (tags : Tags) (ready : List MessageContent) (reads : List ReadMessage) → with_key tags.peer (and_first tags ready reads) ≡ with_first ready (with_key tags.peer reads)
first_own tags [] reads = refl
first_own tags (m ∷ ready) reads =
    tag_append tags.peer reads (record { tags = tags; message = m })
    ∙ elim (eqb_tells tags.peer tags.peer) [ inl t ↦ ap (λ (b : Bool). if b then with_key tags.peer reads ++ m ∷ [] else with_key tags.peer reads) t.0 | inr t ↦ absurd (t.1 refl) ]

pub first_other : (tag : ℕ) (own : Tags) (ready : List MessageContent) (reads : List ReadMessage) → tag ≢ own.peer → with_key tag (and_first own ready reads) ≡ with_key tag reads
first_other tag own [] reads ne = refl
first_other tag own (m ∷ ready) reads ne =
    tag_append tag reads (record { tags = own; message = m })
    ∙ elim (eqb_tells own.peer tag) [ inl t ↦ absurd (ne (sym t.1)) | inr t ↦ ap (λ (b : Bool). if b then with_key tag reads ++ m ∷ [] else with_key tag reads) t.0 ]

-- In an association what is read is its own.
pub own_read : (tags : Tags) (d : Endpoint) (input : Input) (transfer : Transfer) (reads : List ReadMessage) → d.queues.transfer ≡ Some transfer → with_key tags.peer (tagged_after tags d input reads) ≡ read_after d input (with_key tags.peer reads)
own_read tags d input transfer reads there = go input (may_read input)
  where
    go : (i : Input) → MayRead i → with_key tags.peer (tagged_after tags d i reads) ≡ read_after d i (with_key tags.peer reads)
    go _ reads_first =
        ap (λ (t : Option Transfer). with_key tags.peer (and_first tags (ready_or_left d.left t) reads)) there ∙ first_own tags transfer.reassembly.incoming.ready reads
        ∙ sym (ap (λ (t : Option Transfer). read_if_connected t (with_key tags.peer reads)) there)
    go _ (reads_none i rests) = ap (with_key tags.peer) (rests.tagged tags d reads) ∙ sym (rests.own d (with_key tags.peer reads))

pub other_read : (own : Tags) (d : Endpoint) (input : Input) (reads : List ReadMessage) (tag : ℕ) → tag ≢ own.peer → with_key tag (tagged_after own d input reads) ≡ with_key tag reads
other_read own d input reads tag ne = go input (may_read input)
  where
    go : (i : Input) → MayRead i → with_key tag (tagged_after own d i reads) ≡ with_key tag reads
    go _ reads_first = first_other tag own (ready_or_left d.left d.queues.transfer) reads ne
    go _ (reads_none i rests) = ap (with_key tag) (rests.tagged own d reads)

-- ---- each is of an association that was there

pub all_of_first : (past : List Effect) (tags : Tags) (ready : List MessageContent) (reads : List ReadMessage) → AreOfLink past tags → AllOfLinks past reads → AllOfLinks past (and_first tags ready reads)
all_of_first past tags [] reads of all = all
all_of_first past tags (m ∷ ready) reads of all = add reads all
  where
    add : (reads : List ReadMessage) → AllOfLinks past reads → AllOfLinks past (reads ++ record { tags = tags; message = m } ∷ [])
    add [] all = (of, tt)
    add (r ∷ reads) all = (all.0, add reads all.1)

pub all_of_after : (past : List Effect) (tags : Tags) (d : Endpoint) (input : Input) (reads : List ReadMessage) → AreOfLink past tags → AllOfLinks past reads → AllOfLinks past (tagged_after tags d input reads)
all_of_after past tags d input reads of all = go input (may_read input)
  where
    go : (i : Input) → MayRead i → AllOfLinks past (tagged_after tags d i reads)
    go _ reads_first = all_of_first past tags (ready_or_left d.left d.queues.transfer) reads of all
    go _ (reads_none i rests) = subst (AllOfLinks past) (sym (rests.tagged tags d reads)) all

pub of_link_later : (effects past : List Effect) (tags : Tags) → AreOfLink past tags → AreOfLink (after_effects effects past) tags
of_link_later effects past tags (inl none) = inl none
of_link_later effects past tags (inr (link, held, is)) = inr (link, after_within effects past (holds link) held, is)

pub all_of_later : (effects past : List Effect) (reads : List ReadMessage) → AllOfLinks past reads → AllOfLinks (after_effects effects past) reads
all_of_later effects past [] all = tt
all_of_later effects past (r ∷ reads) all = (of_link_later effects past r.tags all.0, all_of_later effects past reads all.1)

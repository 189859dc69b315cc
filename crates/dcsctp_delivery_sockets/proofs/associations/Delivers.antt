-- What was read in all associations together.
use Rattle.std.proofs.Common.{◌≡◌, ◌≢◌, ℕ, Bool, true, false, ◌<◌, ◌^◌, None, List, [], ◌∷◌, length, refl, sym, ◌∙◌, ap, arith, subst, inl, inr}
use Rattle.std.specs.Prelude.{◌+◌, if◌then◌else◌}
use Rattle.std.proofs.lemmas.Bool.Decides.{eqb_tells}
use Rattle.dcsctp_spec_lemmas.specs.types.declared.options.Options.{Options}
use Rattle.dcsctp_spec_lemmas.specs.spec.endpoint.Endpoint.{Endpoint, fresh_endpoint}
use Rattle.dcsctp_spec_lemmas.specs.spec.Packet.{Emission}
use Rattle.dcsctp_spec_lemmas.specs.spec.association.Effect.{Effect}
use Rattle.dcsctp_spec_lemmas.specs.types.queues.Messages.{MessageContent}
use Rattle.dcsctp_spec_lemmas.specs.spec.queues.SendQueue.{empty_queue}
use Rattle.dcsctp_delivery_directions.specs.sending.Places.{HasEntry, table_with}
use Rattle.dcsctp_delivery_directions.specs.sending.Log.{Message}
use Rattle.dcsctp_delivery_directions.specs.sending.ChunkCounts.{chunks_to}
use Rattle.dcsctp_delivery_directions.specs.sending.Marking.{IsMarked}
use Rattle.dcsctp_delivery_directions.proofs.sending.Places.{decide, set_same, at_below}
use Rattle.dcsctp_delivery_directions.specs.receiving.Ready.{AreDistinct, WasQueued, WereQueued}
use Rattle.dcsctp_delivery_directions.specs.directions.Directions.{PreparedReset, nothing_asked, AreDelivered}
use Rattle.dcsctp_delivery_directions.specs.directions.Marking.{IsUnspent, AreDeliveredForGood}
use Rattle.dcsctp_delivery_directions.proofs.directions.ChunkCounts.{few_for_chunks}
use Rattle.dcsctp_delivery_directions.proofs.directions.Marking.{directions_deliver_for_good}
use Rattle.dcsctp_delivery_sockets.proofs.turns.Rules.{fresh_takes_turns}
use Rattle.dcsctp_delivery_sockets.proofs.turns.Beginnings.{fresh_at_zero}
use Rattle.dcsctp_delivery_sockets.proofs.turns.Unbegun.{fresh_is_at_zero}
use Rattle.dcsctp_delivery_sockets.proofs.turns.Runs.{senders_begin}
use Rattle.dcsctp_delivery_sockets.specs.associations.Ends.{ResetCalls, SendingEnd, direction_of_ends, new_end, Ends, MarksLeft, Awaits, chunks_before, Between, sending_side, receiving_side}
use Rattle.dcsctp_delivery_sockets.specs.associations.Laws.{AreEnds}
use Rattle.dcsctp_delivery_sockets.specs.associations.Reads.{ReadMessage, Reading, nothing_read, with_key, messages_of}
use Rattle.dcsctp_delivery_sockets.proofs.associations.Growing.{AllFound, set_all}

-- ---- lists of places, one for each tag, in one

record Together (queued : List Message) (lists : ℕ → List ℕ) (reads : List ReadMessage) : Type 0 where
  places : List ℕ
  were : WereQueued queued places (messages_of reads)
  once : AreDistinct places
  from : (place : ℕ) → HasEntry place places → (tag : ℕ) × HasEntry place (lists tag)

-- those of the first message, and the others
record Taken (queued : List Message) (list : List ℕ) (message : MessageContent) (messages : List MessageContent) : Type 0 where
  place : ℕ
  others : List ℕ
  is : list ≡ place ∷ others
  was : WasQueued queued place message
  were : WereQueued queued others messages

taken : (queued : List Message) (list : List ℕ) (message : MessageContent) (messages : List MessageContent) → WereQueued queued list (message ∷ messages) → Taken queued list message messages
taken queued [] message messages were = absurd were
taken queued (place ∷ others) message messages were = record { place = place; others = others; is = refl; was = were.0; were = were.1 }

tag_first : (r : ReadMessage) (reads : List ReadMessage) → with_key r.tags.peer (r ∷ reads) ≡ r.message ∷ with_key r.tags.peer reads
tag_first r reads = elim (eqb_tells r.tags.peer r.tags.peer) [ inl t ↦ ap (λ (b : Bool). if b then r.message ∷ with_key r.tags.peer reads else with_key r.tags.peer reads) t.0 | inr t ↦ absurd (t.1 refl) ]

tag_rest : (tag : ℕ) (r : ReadMessage) (reads : List ReadMessage) → tag ≢ r.tags.peer → with_key tag (r ∷ reads) ≡ with_key tag reads
tag_rest tag r reads ne =
    elim (eqb_tells r.tags.peer tag) [ inl t ↦ absurd (ne (sym t.1)) | inr t ↦ ap (λ (b : Bool). if b then r.message ∷ with_key tag reads else with_key tag reads) t.0 ]

together : (queued : List Message) (reads : List ReadMessage) (lists : ℕ → List ℕ) → ((tag : ℕ) → WereQueued queued (lists tag) (with_key tag reads)) → ((tag : ℕ) → AreDistinct (lists tag))
    → ((one other place : ℕ) → one ≢ other → HasEntry place (lists one) → HasEntry place (lists other) → ⊥) → Together queued lists reads
together queued [] lists were distinct apart = record { places = []; were = tt; once = tt; from = λ place has. absurd has }
together queued (r ∷ reads) lists were distinct apart =
    let first : Taken queued (lists r.tags.peer) r.message (with_key r.tags.peer reads) =
    taken queued (lists r.tags.peer) r.message (with_key r.tags.peer reads) (subst (WereQueued queued (lists r.tags.peer)) (tag_first r reads) (were r.tags.peer)) in
    let rest : ℕ → List ℕ = table_with r.tags.peer first.others lists in
    let own : AreDistinct (first.place ∷ first.others) = subst AreDistinct first.is (distinct r.tags.peer) in
    let back : (tag place : ℕ) → HasEntry place (rest tag) → HasEntry place (lists tag) =
    set_all (λ tag l. (place : ℕ) → HasEntry place l → HasEntry place (lists tag)) r.tags.peer first.others lists (λ place has. subst (λ (l : List ℕ). HasEntry place l) (sym first.is) (inr has)) (λ tag ne place has. has) in
    let others : Together queued rest reads =
    together queued reads rest
    (set_all (λ tag l. WereQueued queued l (with_key tag reads)) r.tags.peer first.others lists first.were (λ tag ne. subst (WereQueued queued (lists tag)) (tag_rest tag r reads ne) (were tag)))
    (set_all (λ tag l. AreDistinct l) r.tags.peer first.others lists own.1 (λ tag ne. distinct tag))
    (λ one other place ne has has'. apart one other place ne (back one place has) (back other place has')) in
    let none : HasEntry first.place others.places → ⊥ = λ has. (
    let found = others.from first.place has in
    elim (decide found.0 r.tags.peer) [
      | inl e ↦ own.0 (subst (λ (l : List ℕ). HasEntry first.place l) (set_same r.tags.peer first.others lists) (subst (λ (t : ℕ). HasEntry first.place (rest t)) e found.1))
      | inr ne ↦ apart found.0 r.tags.peer first.place ne (back found.0 first.place found.1) (subst (λ (l : List ℕ). HasEntry first.place l) (sym first.is) (inl refl))
    ]
    ) in
    record {
      places = first.place ∷ others.places;
      were = (first.was, others.were);
      once = (none, others.once);
      from = λ place has. elim has [
        | inl e ↦ (r.tags.peer, subst (λ (l : List ℕ). HasEntry place l) (sym first.is) (inl e))
        | inr t ↦ (let found = others.from place t in (found.0, back found.0 place found.1))
      ];
    }

-- ---- what is marked was queued as it is

was_unmarked : (marks queued : List Message) (place : ℕ) (content : MessageContent) → AllFound marks queued → WasQueued marks place content → WasQueued queued place content
was_unmarked marks queued place content found was =
    let one = found place was.message was.at in
    record { message = one.message; at = one.at; stream = was.stream ∙ one.is.stream; ppid = was.ppid ∙ one.is.ppid; payload = was.payload ∙ one.is.payload }

pub were_unmarked : (marks queued : List Message) (places : List ℕ) (contents : List MessageContent) → AllFound marks queued → WereQueued marks places contents → WereQueued queued places contents
were_unmarked marks queued [] [] found were = tt
were_unmarked marks queued [] (content ∷ contents) found were = absurd were
were_unmarked marks queued (place ∷ places) [] found were = absurd were
were_unmarked marks queued (place ∷ places) (content ∷ contents) found were = (was_unmarked marks queued place content found were.0, were_unmarked marks queued places contents found were.1)

-- ---- all associations

module _ (options : Options) (ends : Ends) (e : Endpoint) (queued : List Message) (past : List Effect) (packets : List Emission) (other : Endpoint) (their_past : List Effect) (reading : Reading)
    (h : Between options ends (sending_side e queued past packets) (receiving_side other their_past reading)) (many : length queued < 2 ^ 64) (few : (tag : ℕ) → chunks_before (ends.former tag) packets + chunks_to (ends.latest tag) packets < 2 ^ 30) where
  delivered : (tag : ℕ) → AreDeliveredForGood (direction_of_ends (ends.sends tag) (ends.gets tag))
  delivered tag =
      let fewer = h.sender.short tag in
      let short : length (ends.sends tag).queued < 2 ^ 64 = omega (arith, fewer, many) in
      let sent = h.sender.few tag in
      let went = few tag in
      let assigned = few_for_chunks options (ends.firsts tag) options.max_receiver_window_buffer_size (direction_of_ends (ends.sends tag) (ends.gets tag)) (h.runs tag) (h.small tag) short in
      directions_deliver_for_good options (ends.firsts tag) options.max_receiver_window_buffer_size (direction_of_ends (ends.sends tag) (ends.gets tag)) (h.runs tag) (h.small tag) (omega (arith, sent, went, assigned)) short

  lists : ℕ → List ℕ
  lists tag = (delivered tag).delivered.places

  -- A message that no longer waits is fresh in no later association.
  clash : (one two place : ℕ) → MarksLeft (ends.sends one) (ends.sends two).queued → HasEntry place (lists one) → HasEntry place (lists two) → ⊥
  unfolding lists
  clash one two place leaves has has' =
      let fresh : IsUnspent (ends.sends one).queued place = (delivered one).fresh place has in
      let later : IsUnspent (ends.sends two).queued place = (delivered two).fresh place has' in
      let marked : IsMarked place (ends.sends two).queued = leaves place (at_below place fresh.message (ends.sends one).queued fresh.at) ((delivered one).waits_no_longer place has) in
      let spent : later.message.is_spent ≡ true = marked later.message later.at in
      let same : true ≡ false = sym spent ∙ later.fresh in
      absurd (cc)

  apart : (one two place : ℕ) → one ≢ two → HasEntry place (lists one) → HasEntry place (lists two) → ⊥
  apart one two place ne has has' = elim (h.sender.pairs one two ne) [ inl l ↦ clash one two place l has has' | inr l ↦ clash two one place l has' has ]

  pub ends_deliver : AreDelivered queued (messages_of reading.reads)
  unfolding lists
  ends_deliver =
      let all = together queued reading.reads lists
      (λ tag. were_unmarked (ends.sends tag).queued queued (lists tag) (with_key tag reading.reads) (h.sender.marks tag)
      (subst (WereQueued (ends.sends tag).queued (lists tag)) (sym (h.receiver.were_read tag)) (delivered tag).delivered.were_queued))
      (λ tag. (delivered tag).delivered.once) apart in
      record { places = all.places; were_queued = all.were; once = all.once }

-- ---- two sockets that were just made

pub ends_begin : (calls : ResetCalls) (mine options : Options) → calls.made ≡ [] → AreEnds calls [] options (sending_side (fresh_endpoint mine) [] [] []) (receiving_side (fresh_endpoint options) [] nothing_read)
ends_begin calls mine options unmade =
    record {
      ends = record { sends = λ tag. nothing; gets = λ tag. new_end options 0; firsts = λ tag. 0; latest = λ tag. 0; former = λ tag. None; calls = calls };
      is = refl;
      between = record {
        runs = λ tag. senders_begin mine options 0 options.max_receiver_window_buffer_size calls.never calls.asks calls.empties calls.in_turn;
        small = λ tag. omega arith;
        sender = record {
          queues_are = refl;
          long = refl;
          marks = λ tag place mark at. absurd (cc);
          short = λ tag. omega arith;
          few = λ tag. omega arith;
          few_requests = λ tag. omega arith;
          last = λ tag ne place below gone. absurd (omega arith);
          pairs = λ one other ne. inl (λ place below gone. absurd (omega arith));
          current = λ some. absurd (some refl);
          kind = λ some. absurd (some refl);
          begun = λ tag some. inl awaits;
          kinds = λ tag some. inl awaits;
          all_sent = tt;
          to_is = refl;
          went = inl refl;
          replaced = λ tag former is. absurd (cc);
          known = λ link has. absurd has;
        };
        mine = λ link is. absurd (cc);
        idle = λ unlinked. refl;
        asks = tt;
        numbered = λ tag some anew. refl;
        kept = λ tag some only. record { whole = refl; keeps = λ id never. never };
        made = λ tag some only call has. absurd (subst (λ (l : List PreparedReset). HasEntry call l) unmade has);
        unmade = λ never. unmade;
        dropping = λ tag. record { dropped = λ id resets. resets; asks = refl; empties = refl; in_turn = refl };
        rules = fresh_takes_turns mine;
        unbegun = λ never. record { unlinked = refl; idle = refl; zero = fresh_is_at_zero mine; all = λ id. record { waits = λ place message at. absurd (cc); unpaused = tt } };
        receiver = record { fits = record { first = 0; asking = nothing_asked; fits = tt }; current = λ transfer there. absurd (cc); left = inl refl; last = λ link is. absurd (cc); were_read = λ tag. refl; were_reset = λ report has. absurd has; were_told = λ plainly tag reset has. absurd has; begun = λ tag. inl refl; last_of = inl refl; reads_of = tt };
        alone = λ tag. inr (senders_begin options options 0 options.max_receiver_window_buffer_size (λ id. false) (λ id count. false) (λ id count. false) false);
      };
      answered = record {
        pairs = λ tag. record { tag = 0; first_tsn = 0 };
        answers = record {
          asked = λ tag some. inl refl;
          asked_held = λ tag some. inl refl;
          performed = λ tag direction_of_ends. absurd direction_of_ends.held;
          apart = λ one two ne joined. absurd joined.held;
          mine_apart = λ link is. absurd (cc);
          joined = λ my number has. absurd (elim has [ inl none ↦ none | inr none ↦ none ]);
          mine_held = λ link is. absurd (cc);
          mine_first = λ link is. absurd (cc);
          theirs_held = λ link is. absurd (cc);
          stands = λ link is. absurd (cc);
        };
        unlinked = λ none. refl;
      };
      reported = record { heard = tt; named = λ my number has. absurd (elim has [ inl none ↦ none | inr none ↦ none ]); renewable = λ old is. absurd (cc) };
    }
  where
    nothing : SendingEnd
    nothing = record { queued = []; queues = record { queue = empty_queue mine; transfer = None }; acknowledged = 0; sent = []; asking = nothing_asked; prepared = []; beginning = record { from_zero = true; has_all = true; keeps = calls.never; asks = calls.asks; empties = calls.empties; in_turn = calls.in_turn } }

    awaits : Awaits nothing
    awaits = record { queued = refl; sent = refl; acknowledged = refl; transfer = refl; asking = refl; prepared = refl; begun = record { zero = λ is. fresh_at_zero mine; whole = λ is id. record { waits = λ place message at. absurd (cc); unpaused = tt }; all = λ id is. record { waits = λ place message at. absurd (cc); unpaused = tt } } }

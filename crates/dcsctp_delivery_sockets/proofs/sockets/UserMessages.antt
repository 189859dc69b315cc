-- What was queued and what was read, as the messages of a user.
use Rattle.std.proofs.Common.{◌≡◌, ℕ, Bool, true, zero, suc, ◌<◌, false, List, [], ◌∷◌, ◌++◌, length, refl, sym, ◌∙◌, ap, arith, subst, inl, inr, append_assoc}
use Rattle.std.specs.Prelude.{Option, None, Some, map, slice_get}
use Rattle.std.proofs.lemmas.List.{append-nil, length-append}
use Rattle.dcsctp_spec_lemmas.specs.spec.endpoint.CallTurns.{Transition}
use Rattle.dcsctp_spec_lemmas.specs.spec.endpoint.DataOutcomes.{ready_or_left}
use Rattle.dcsctp_spec_lemmas.specs.spec.endpoint.Endpoint.{Endpoint}
use Rattle.dcsctp_spec_lemmas.specs.spec.endpoint.Turn.{Input, arrival, refusal, packet_begins, chunk_input, packet_ends, act_input, user_sets, user_sends, user_resets, user_takes, timer_expires, time_passes, restores}
use Rattle.dcsctp_spec_lemmas.specs.types.queues.Messages.{MessageContent}
use Rattle.dcsctp_spec_lemmas.specs.spec.endpoint.MessageOutcomes.{MessageRefusal, Sending, sending_refusal, queue_one}
use Rattle.dcsctp_delivery_directions.specs.sending.Log.{Message}
use Rattle.dcsctp_delivery_directions.specs.sending.Places.{at_place}
use Rattle.dcsctp_delivery_directions.specs.sending.Queueing.{message_of}
use Rattle.dcsctp_delivery_directions.proofs.sending.Places.{at_cases}
use Rattle.dcsctp_delivery_directions.specs.receiving.Ready.{WereQueued}
use Rattle.dcsctp_delivery_directions.specs.directions.Directions.{AreDelivered}
use Rattle.dcsctp_delivery_sockets.specs.turns.Actions.{queued_unless_refused, queued_together, queued_after}
use Rattle.dcsctp_delivery_sockets.specs.associations.Reads.{ReadMessage, Reading, messages_of, and_first, tagged_after, reading_after, Tags}
use Rattle.dcsctp_delivery_sockets.specs.sockets.Acts.{queued_through}
use Rattle.dcsctp_delivery_sockets.specs.sockets.Packets.{reading_through}
use Rattle.dcsctp_delivery_directions.specs.order.Delivered.{AreDeliveredInOrder, AreDeliveredWithoutGaps}
use Rattle.dcsctp_delivery_directions.specs.sending.Losing.{AreUnlimited, AreUnlimitedOn}
use Rattle.dcsctp_delivery_directions.specs.sending.Queueing.{has_limits}
use Rattle.dcsctp_delivery_sockets.proofs.associations.InOrder.{MarkAt, below_at, unlimited_of, unlimited_on_of}
use Rattle.std.specs.List.{AllByRecursion}
use Rattle.dcsctp_delivery_directions.specs.order.Queue.{IsMessageOn, IsOrderedOn, ComeInOrder}
use Rattle.dcsctp_delivery_directions.specs.order.Complete.{AreAllDelivered}
use Rattle.dcsctp_delivery_directions.specs.order.Streams.{AreDeliveredByStream, AreDeliveredOnStreams}
use Rattle.dcsctp_delivery_sockets.specs.sockets.Ordered.{IsStreamMessage, IsOrderedMessage, RiseOn, IsDeliveredInOrder, IsDeliveredWithoutGaps, IsDeliveredByStream, IsDeliveredOn, IsDeliveredAllOn}
use Rattle.dcsctp_delivery_sockets.specs.sockets.UserMessages.{accepted_unless_refused, accepted_as, sent_as, all_sent_as, message_sent, first_readable, messages_read_of_input, read_of, WereSent, IsDelivered}

-- ---- lists

found_more : {A : Type 0} (xs ys : List A) (k : ℕ) (x : A) → slice_get xs k ≡ Some x → slice_get (xs ++ ys) k ≡ Some x
found_more [] ys k x at = absurd (cc)
found_more (y ∷ xs) ys zero x at = at
found_more (y ∷ xs) ys (suc k) x at = found_more xs ys k x at

found_last : {A : Type 0} (xs : List A) (x : A) → slice_get (xs ++ x ∷ []) (length xs) ≡ Some x
found_last [] x = refl
found_last (y ∷ xs) x = found_last xs x

-- ---- sent

abbrev content_of : Message → MessageContent
content_of message = record { stream = message.stream; ppid = message.ppid; payload = message.payload }

-- What was sent at a place is the message that was queued there.
pub record SaysOne {A : Type 0} (said : Sending → A) (sent : List A) (place : ℕ) (message : Message) : Type 0 where
  pub sending : Sending
  pub is : message_of sending ≡ message
  pub at : slice_get sent place ≡ Some (said sending)

-- The one list has the messages of the other, newest first.
pub record SaysSame {A : Type 0} (said : Sending → A) (queued : List Message) (sent : List A) : Type 0 where
  pub size : length queued ≡ length sent
  pub at : (place : ℕ) (message : Message) → at_place place queued ≡ Some message → SaysOne said sent place message

pub nothing_same : {A : Type 0} (said : Sending → A) → SaysSame said [] []
nothing_same said = record { size = refl; at = λ place message at. absurd (cc) }

one_more : {A : Type 0} (said : Sending → A) (sending : Sending) (queued : List Message) (sent : List A) → SaysSame said queued sent → SaysSame said (message_of sending ∷ queued) (sent ++ said sending ∷ [])
one_more said sending queued sent h =
    record {
      size = (let long = length-append sent (said sending ∷ []) in omega (arith, h.size, long));
      at = λ place message found. elim (at_cases place (message_of sending) message queued found) [
        | inl e ↦ record {
          sending = sending;
          is = e.1;
          at = subst (λ (k : ℕ). slice_get (sent ++ said sending ∷ []) k ≡ Some (said sending)) (sym (e.0 ∙ h.size)) (found_last sent (said sending));
        }
        | inr older ↦ (let one = h.at place message older in record { sending = one.sending; is = one.is; at = found_more sent (said sending ∷ []) place (said one.sending) one.at })
      ];
    }

where_same : {A : Type 0} (said : Sending → A) (why : Option MessageRefusal) (sending : Sending) (queued : List Message) (sent : List A) → SaysSame said queued sent → SaysSame said (queued_unless_refused why sending queued) (sent ++ accepted_unless_refused why (said sending) [])
where_same said None sending queued sent h = one_more said sending queued sent h
where_same said (Some why) sending queued sent h = subst (SaysSame said queued) (sym (append-nil sent)) h

where_then : {A : Type 0} (why : Option MessageRefusal) (one : A) (rest : List A) → accepted_unless_refused why one [] ++ rest ≡ accepted_unless_refused why one rest
where_then None one rest = refl
where_then (Some why) one rest = refl

together_same : {A : Type 0} (said : Sending → A) (e : Endpoint) (sendings : List Sending) (queued : List Message) (sent : List A) → SaysSame said queued sent → SaysSame said (queued_together e sendings queued) (sent ++ accepted_as said e sendings)
together_same said e [] queued sent h = subst (SaysSame said queued) (sym (append-nil sent)) h
together_same said e (sending ∷ sendings) queued sent h =
    let why : Option MessageRefusal = sending_refusal e sending in
    let next : Endpoint = (queue_one e sending).after in
    let one : List _ = accepted_unless_refused why (said sending) [] in
    let first : SaysSame said (queued_unless_refused why sending queued) (sent ++ one) = where_same said why sending queued sent h in
    subst (SaysSame said (queued_together next sendings (queued_unless_refused why sending queued)))
    (append_assoc sent one (accepted_as said next sendings) ∙ ap (λ (l : List _). sent ++ l) (where_then why (said sending) (accepted_as said next sendings)))
    (together_same said next sendings (queued_unless_refused why sending queued) (sent ++ one) first)

none_same : {A : Type 0} (said : Sending → A) (queued : List Message) (sent : List A) → SaysSame said queued sent → SaysSame said queued (sent ++ [])
none_same said queued sent h = subst (SaysSame said queued) (sym (append-nil sent)) h

input_same : {A : Type 0} (said : Sending → A) (e : Endpoint) (input : Input) (queued : List Message) (sent : List A) → SaysSame said queued sent → SaysSame said (queued_after e input queued) (sent ++ sent_as said e input)
input_same said e (user_sends sendings) queued sent h = together_same said e sendings queued sent h
input_same said e arrival queued sent h = none_same said queued sent h
input_same said e (refusal text) queued sent h = none_same said queued sent h
input_same said e (packet_begins contents) queued sent h = none_same said queued sent h
input_same said e (chunk_input tag content) queued sent h = none_same said queued sent h
input_same said e packet_ends queued sent h = none_same said queued sent h
input_same said e (act_input act) queued sent h = none_same said queued sent h
input_same said e (user_sets setting) queued sent h = none_same said queued sent h
input_same said e (user_resets ids) queued sent h = none_same said queued sent h
input_same said e user_takes queued sent h = none_same said queued sent h
input_same said e (timer_expires timer) queued sent h = none_same said queued sent h
input_same said e (time_passes moment) queued sent h = none_same said queued sent h
input_same said e (restores state) queued sent h = none_same said queued sent h

pub turns_same : {A : Type 0} (said : Sending → A) (e : Endpoint) (turns : List Transition) (queued : List Message) (sent : List A) → SaysSame said queued sent → SaysSame said (queued_through e turns queued) (sent ++ all_sent_as said e turns)
turns_same said e [] queued sent h = none_same said queued sent h
turns_same said e (turn ∷ turns) queued sent h =
    subst (SaysSame said (queued_through turn.outcome.after turns (queued_after e turn.input queued))) (append_assoc sent (sent_as said e turn.input) (all_sent_as said turn.outcome.after turns))
    (turns_same said turn.outcome.after turns (queued_after e turn.input queued) (sent ++ sent_as said e turn.input) (input_same said e turn.input queued sent h))

-- ---- read

messages_more : (reads : List ReadMessage) (read : ReadMessage) → messages_of (reads ++ read ∷ []) ≡ messages_of reads ++ read.message ∷ []
messages_more [] read = refl
messages_more (r ∷ reads) read = ap (λ (l : List MessageContent). r.message ∷ l) (messages_more reads read)

first_messages : (tag : Tags) (ready : List MessageContent) (reads : List ReadMessage) → messages_of (and_first tag ready reads) ≡ messages_of reads ++ first_readable ready
first_messages tag [] reads = sym (append-nil (messages_of reads))
first_messages tag (message ∷ ready) reads = messages_more reads (record { tags = tag; message = message })

input_read : (tag : Tags) (e : Endpoint) (input : Input) (reads : List ReadMessage) → messages_of (tagged_after tag e input reads) ≡ messages_of reads ++ messages_read_of_input e input
input_read tag e user_takes reads = first_messages tag (ready_or_left e.left e.queues.transfer) reads
input_read tag e (user_sends sendings) reads = sym (append-nil (messages_of reads))
input_read tag e arrival reads = sym (append-nil (messages_of reads))
input_read tag e (refusal text) reads = sym (append-nil (messages_of reads))
input_read tag e (packet_begins contents) reads = sym (append-nil (messages_of reads))
input_read tag e (chunk_input header content) reads = sym (append-nil (messages_of reads))
input_read tag e packet_ends reads = sym (append-nil (messages_of reads))
input_read tag e (act_input act) reads = sym (append-nil (messages_of reads))
input_read tag e (user_sets setting) reads = sym (append-nil (messages_of reads))
input_read tag e (user_resets ids) reads = sym (append-nil (messages_of reads))
input_read tag e (timer_expires timer) reads = sym (append-nil (messages_of reads))
input_read tag e (time_passes moment) reads = sym (append-nil (messages_of reads))
input_read tag e (restores state) reads = sym (append-nil (messages_of reads))

pub turns_read : (e : Endpoint) (turns : List Transition) (reading : Reading) → messages_of (reading_through e turns reading).reads ≡ messages_of reading.reads ++ read_of e turns
turns_read e [] reading = sym (append-nil (messages_of reading.reads))
turns_read e (turn ∷ turns) reading =
    turns_read turn.outcome.after turns (reading_after e turn.input turn.outcome reading)
    ∙ ap (λ (l : List MessageContent). l ++ read_of turn.outcome.after turns) (input_read reading.last e turn.input reading.reads)
    ∙ append_assoc (messages_of reading.reads) (messages_read_of_input e turn.input) (read_of turn.outcome.after turns)

-- ---- both

same_content : (content : MessageContent) (message : Message) → content.stream ≡ message.stream → content.ppid ≡ message.ppid → content.payload ≡ message.payload → content_of message ≡ content
same_content content message stream ppid payload =
    ap (λ (n : ℕ). record { stream = n; ppid = message.ppid; payload = message.payload }) (sym stream)
    ∙ ap (λ (n : ℕ). record { stream = content.stream; ppid = n; payload = message.payload }) (sym ppid)
    ∙ ap (λ (bytes : List ℕ). record { stream = content.stream; ppid = content.ppid; payload = bytes }) (sym payload)

were_sent : (queued : List Message) (sent : List MessageContent) → SaysSame message_sent queued sent → (places : List ℕ) (read : List MessageContent) → WereQueued queued places read → WereSent sent places read
were_sent queued sent h [] [] were = tt
were_sent queued sent h [] (content ∷ read) were = absurd were
were_sent queued sent h (place ∷ places) [] were = absurd were
were_sent queued sent h (place ∷ places) (content ∷ read) were = (
  (let one = h.at place were.0.message were.0.at in
      one.at ∙ ap (λ (c : MessageContent). Some c) (ap content_of one.is ∙ same_content content were.0.message were.0.stream were.0.ppid were.0.payload)),
  were_sent queued sent h places read were.1,
)

pub is_delivered : (queued : List Message) (sent read : List MessageContent) → SaysSame message_sent queued sent → AreDelivered queued read → IsDelivered sent read
is_delivered queued sent read h d = record { places = d.places; were_sent = were_sent queued sent h d.places read d.were_queued; once = d.once }

-- ---- in order

found_below : {A : Type 0} (xs : List A) (k : ℕ) (x : A) → slice_get xs k ≡ Some x → k < length xs
found_below [] k x at = absurd (cc)
found_below (y ∷ xs) zero x at = omega arith
found_below (y ∷ xs) (suc k) x at = (let below = found_below xs k x at in omega (arith, below))

-- An ordered message that was sent was queued at its place.
module _ (queued : List Message) (sent : List Sending) (h : SaysSame (λ sending. sending) queued sent) (stream : ℕ) where
  same_sending : {one two : Sending} → Some one ≡ Some two → one ≡ two
  same_sending is = cc

  pub ordered_on : (p : ℕ) → IsOrderedMessage sent stream p → IsOrderedOn queued stream p
  ordered_on p on =
      let m : MarkAt queued p = below_at p queued (let below = found_below sent p on.sending on.at in let size = h.size in omega (arith, below, size)) in
      let one = h.at p m.mark m.at in
      let same : one.sending ≡ on.sending = same_sending (sym one.at ∙ on.at) in
      record {
        message = m.mark;
        at = m.at;
        stream = sym (ap (λ (x : Message). x.stream) one.is) ∙ ap (λ (s : Sending). s.message.stream) same ∙ on.on;
        ordered = sym (ap (λ (x : Message). x.is_unordered) one.is) ∙ ap (λ (s : Sending). s.options.unordered) same ∙ on.ordered;
      }

  pub spared_on : (p : ℕ) (on : IsOrderedMessage sent stream p) → has_limits on.sending.options ≡ false → (ordered_on p on).message.is_limited ≡ false
  unfolding ordered_on
  spared_on p on spared =
      let m : MarkAt queued p = below_at p queued (let below = found_below sent p on.sending on.at in let size = h.size in omega (arith, below, size)) in
      let one = h.at p m.mark m.at in
      let same : one.sending ≡ on.sending = same_sending (sym one.at ∙ on.at) in
      sym (ap (λ (x : Message). x.is_limited) one.is) ∙ ap (λ (s : Sending). has_limits s.options) same ∙ spared

  pub message_on : (p : ℕ) → IsStreamMessage sent stream p → IsMessageOn queued stream p
  message_on p on =
      let m : MarkAt queued p = below_at p queued (let below = found_below sent p on.sending on.at in let size = h.size in omega (arith, below, size)) in
      let one = h.at p m.mark m.at in
      let same : one.sending ≡ on.sending = same_sending (sym one.at ∙ on.at) in
      record { message = m.mark; at = m.at; stream = sym (ap (λ (x : Message). x.stream) one.is) ∙ ap (λ (s : Sending). s.message.stream) same ∙ on.on }

  pub rise_on : (places : List ℕ) → ComeInOrder queued stream places → RiseOn sent stream places
  rise_on [] come = tt
  rise_on (place ∷ places) come = ((λ later has on on'. come.0 later has (ordered_on place on) (ordered_on later on')), rise_on places come.1)

-- And one that was queued was sent there, with the same limits.
pub record WasSentOn (sent : List Sending) (stream place : ℕ) (message : Message) : Type 0 where
  pub on : IsOrderedMessage sent stream place
  pub limits : message.is_limited ≡ has_limits on.sending.options

pub sent_on : (queued : List Message) (sent : List Sending) (h : SaysSame (λ sending. sending) queued sent) (stream place : ℕ) (on : IsOrderedOn queued stream place) → WasSentOn sent stream place on.message
sent_on queued sent h stream place on =
    let one = h.at place on.message on.at in
    record {
      on = record {
        sending = one.sending;
        at = one.at;
        on = ap (λ (m : Message). m.stream) one.is ∙ on.stream;
        ordered = ap (λ (m : Message). m.is_unordered) one.is ∙ on.ordered;
      };
      limits = sym (ap (λ (m : Message). m.is_limited) one.is);
    }

pub were_sent_so : (queued : List Message) (sent : List Sending) → SaysSame (λ sending. sending) queued sent → (places : List ℕ) (read : List MessageContent) → WereQueued queued places read → WereSent (map message_sent sent) places read
were_sent_so queued sent h [] [] were = tt
were_sent_so queued sent h [] (content ∷ read) were = absurd were
were_sent_so queued sent h (place ∷ places) [] were = absurd were
were_sent_so queued sent h (place ∷ places) (content ∷ read) were = (
  (let one = h.at place were.0.message were.0.at in
      found_mapped sent place one.sending one.at ∙ ap (λ (c : MessageContent). Some c) (ap content_of one.is ∙ same_content content were.0.message were.0.stream were.0.ppid were.0.payload)),
  were_sent_so queued sent h places read were.1,
)
  where
    found_mapped : (all : List Sending) (k : ℕ) (sending : Sending) → slice_get all k ≡ Some sending → slice_get (map message_sent all) k ≡ Some sending.message
    found_mapped [] k sending at = absurd (cc)
    found_mapped (s ∷ all) zero sending at = (let same : s ≡ sending = cc in ap (λ (x : Sending). Some x.message) same)
    found_mapped (s ∷ all) (suc k) sending at = found_mapped all k sending at

abbrev pub is_in_order : (queued : List Message) (sent : List Sending) (read : List MessageContent) → SaysSame (λ sending. sending) queued sent → AreDeliveredInOrder queued read → IsDeliveredInOrder sent read
is_in_order queued sent read same d =
    record {
      places = d.delivered.places;
      were_sent = were_sent_so queued sent same d.delivered.places read d.delivered.were_queued;
      once = d.delivered.once;
      in_order = λ stream. rise_on queued sent same stream d.delivered.places (d.in_order stream);
    }

pub is_without_gaps : (queued : List Message) (sent : List Sending) (read : List MessageContent) → SaysSame (λ sending. sending) queued sent → AreDeliveredWithoutGaps queued read → IsDeliveredWithoutGaps sent read
is_without_gaps queued sent read same d =
    record {
      delivered = is_in_order queued sent read same d.ordered;
      no_gap = λ stream earlier later has on on' before. d.no_gap stream earlier later has (ordered_on queued sent same stream later on) (ordered_on queued sent same stream earlier on') before;
    }

-- On each of these streams.
pub is_by_stream : (never_resets : ℕ → Bool) (reliable : ℕ → Type 0) (queued : List Message) (sent : List Sending) (read : List MessageContent) → SaysSame (λ sending. sending) queued sent
    → ((stream : ℕ) → reliable stream → (never_resets stream ≡ true) × AreUnlimitedOn stream queued) → AreDeliveredByStream never_resets queued read → IsDeliveredByStream reliable sent read
is_by_stream never_resets reliable queued sent read same which d =
    record {
      delivered = is_in_order queued sent read same d.ordered;
      no_gap = λ stream is earlier later has on on' before. (
          let w = which stream is in
          d.no_gap stream w.0 w.1 earlier later has (ordered_on queued sent same stream later on) (ordered_on queued sent same stream earlier on') before
          );
    }

abbrev pub is_on : (never_resets : ℕ → Bool) (streams : ℕ → Type 0) (queued : List Message) (sent : List Sending) (read : List MessageContent) → SaysSame (λ sending. sending) queued sent
    → ((stream : ℕ) → streams stream → never_resets stream ≡ true) → AreDeliveredOnStreams never_resets queued read → IsDeliveredOn streams sent read
is_on never_resets streams queued sent read same which d =
    record {
      places = d.delivered.places;
      were_sent = were_sent_so queued sent same d.delivered.places read d.delivered.were_queued;
      once = d.delivered.once;
      in_order = λ stream is. rise_on queued sent same stream d.delivered.places (d.in_order stream (which stream is));
      no_gap = λ stream is earlier later has on on' before. d.no_gap stream (which stream is) earlier later has (ordered_on queued sent same stream later on) (ordered_on queued sent same stream earlier on') before;
    }

pub is_all_on : (never_resets : ℕ → Bool) (streams : ℕ → Type 0) (queued : List Message) (sent : List Sending) (read : List MessageContent) → SaysSame (λ sending. sending) queued sent
    → ((stream : ℕ) → streams stream → never_resets stream ≡ true) → AreAllDelivered never_resets queued read → IsDeliveredAllOn streams sent read
is_all_on never_resets streams queued sent read same which d =
    record {
      on = is_on never_resets streams queued sent read same which d.on;
      all = λ stream is place on. d.all stream (which stream is) place (ordered_on queued sent same stream place on);
    }

-- ---- without limits

sent_unlimited : (sent : List Sending) (k : ℕ) (sending : Sending) → AllByRecursion (λ sending. has_limits sending.options ≡ false) sent → slice_get sent k ≡ Some sending → has_limits sending.options ≡ false
sent_unlimited [] k sending are at = absurd (cc)
sent_unlimited (s ∷ sent) zero sending are at = (let same : s ≡ sending = cc in subst (λ (x : Sending). has_limits x.options ≡ false) same are.0)
sent_unlimited (s ∷ sent) (suc k) sending are at = sent_unlimited sent k sending are.1 at

-- What was queued has no limits, if nothing that was sent has.
pub are_unlimited : (queued : List Message) (sent : List Sending) → SaysSame (λ sending. sending) queued sent → AllByRecursion (λ sending. has_limits sending.options ≡ false) sent → AreUnlimited queued
are_unlimited queued sent h are =
    unlimited_of queued (λ place message at. (let one = h.at place message at in sym (ap (λ (m : Message). m.is_limited) one.is) ∙ sent_unlimited sent place one.sending are one.at))

-- So it is on one stream.
sent_unlimited_on : (stream : ℕ) (sent : List Sending) (k : ℕ) (sending : Sending) → AllByRecursion (λ sending. sending.message.stream ≡ stream → has_limits sending.options ≡ false) sent
    → slice_get sent k ≡ Some sending → sending.message.stream ≡ stream → has_limits sending.options ≡ false
sent_unlimited_on stream [] k sending are at on = absurd (cc)
sent_unlimited_on stream (s ∷ sent) zero sending are at on =
    (let same : s ≡ sending = cc in subst (λ (x : Sending). x.message.stream ≡ stream → has_limits x.options ≡ false) same are.0 on)
sent_unlimited_on stream (s ∷ sent) (suc k) sending are at on = sent_unlimited_on stream sent k sending are.1 at on

pub are_unlimited_on : (stream : ℕ) (queued : List Message) (sent : List Sending) → SaysSame (λ sending. sending) queued sent
    → AllByRecursion (λ sending. sending.message.stream ≡ stream → has_limits sending.options ≡ false) sent → AreUnlimitedOn stream queued
are_unlimited_on stream queued sent h are =
    unlimited_on_of stream queued
    (λ place message at on. (
    let one = h.at place message at in
    sym (ap (λ (m : Message). m.is_limited) one.is) ∙ sent_unlimited_on stream sent place one.sending are one.at (ap (λ (m : Message). m.stream) one.is ∙ on)
    ))

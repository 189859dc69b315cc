-- What calls tell of each channel.
use Rattle.std.proofs.Common.{◌≡◌, ◌<◌, ◌==◌, ◌⊎◌, ℕ, ◌+◌, Bool, true, false, ◌||◌, Option, Some, None, is_some, nat_lt, Result, Ok, Err, List, [], ◌∷◌, ◌++◌, refl, sym, ap, subst, ◌∙◌, inl, inr, arith, if◌then◌else◌}
use Rattle.std.proofs.lemmas.Bool.{eq-eqb, ne_eqb, cases_eq}
use Rattle.std.proofs.lemmas.List.{append-nil}
use Rattle.dcsctp_channel_calls.specs.api.Calls.{UserView}
use Rattle.dcsctp_channel_calls.specs.api.declared.errors.SendError.{SendError}
use Rattle.dcsctp_channel_calls.specs.messages.channel_spec.declared.types.ChannelEnd.TheVariants.{Closed}
use Rattle.dcsctp_channel_calls.specs.messages.channel_spec.Contents.{ChannelContent}
use Rattle.dcsctp_channel_calls.specs.messages.channel_spec.Slots.{Opening, name_of_slot, is_closed}
use Rattle.dcsctp_channel_calls.specs.messages.channel_spec.Laws.{EachSpeaksInTurn}
use Rattle.dcsctp_channel_calls.specs.declared.channel.ChannelError.{ChannelError}
use Rattle.dcsctp_channel_calls.specs.declared.channel.ChannelId.{ChannelId}
use Rattle.dcsctp_channel_calls.specs.declared.channel.HeldStream.{HeldStream}
use Rattle.dcsctp_channel_calls.specs.View.{WaitingChannel, ChannelNotice, LayerView, ChannelsView, entry_numbered, entry_put, held_stream_numbered, slot_of}
use Rattle.dcsctp_channel_calls.specs.messages.Format.{open_bytes}
use Rattle.dcsctp_channel_calls.specs.Calls.{on_layer, clock_set}
use Rattle.dcsctp_channel_calls.specs.Queries.{is_waiting}
use Rattle.dcsctp_channel_calls.specs.Sending.{SendsIfOpen, view_after_send, counts_sent, without_waiting, ends_waiting, layer_after_close, channel_closed, SetsThresholdIfOpen, stream_unless_closing, open_held, open_on, open_stream, stream_of_name}
use Rattle.dcsctp_channel_calls.specs.Opening.{OpensOrRefuses, open_refusal, named_next}
use Rattle.dcsctp_channel_laws.specs.Names.{ChannelsCall, sets_role, connects, handles_input, advances, aborts, shuts_down, opens_channel, sends_content, closes_channel, sets_threshold, IsCallMade}
use Rattle.dcsctp_channel_laws.specs.Lives.{AreRising, IsInOrder, IsOrderly, is_placed, Life, lasting, gone, life_by_place, life_of_channel, Hears, ReportsLives, life_from}
use Rattle.dcsctp_channel_laws.proofs.Maps.{put_here, put_apart, rising_put}
use Rattle.dcsctp_channel_laws.proofs.Telling.{tells_then, tells_nothing, hears_as, ends_now, ends_other, lives_waiting, lives_nowhere, lt_next, next_no_stream, next_not_waiting}
use Rattle.dcsctp_channel_laws.proofs.Waits.{last_waits, before_last, apart_with_last, without_other, without_itself, apart_without, none_closed, one_closed}
use Rattle.dcsctp_channel_laws.proofs.BeginsTell.{Keeps, same_tells, tells_to, only_tells, row_where_tells, life_with, waiting_tells}

-- ---- a channel is opened

-- with the name that the call returns
abbrev life_opened : ℕ → LayerView → ℕ → Life
life_opened id layer name = if id == name then lasting else life_of_channel layer name

pub named_tells : (opening : Opening) (negotiated : Option ℕ) (layer : LayerView) → IsOrderly layer → ReportsLives (life_opened layer.named layer) layer [] (named_next opening negotiated layer)
named_tells opening negotiated layer a =
    record { more = []; behind = sym (append-nil layer.notices); lives = λ n. lives n (cases_eq layer.named n); apart = apart }
  where
    new : LayerView
    new = named_next opening negotiated layer

    added : WaitingChannel
    added = record { name = layer.named; payload = open_bytes opening; delivery = opening.delivery; negotiated = negotiated }

    lives : (n : ℕ) → (layer.named ≡ n) ⊎ (layer.named ≡ n → ⊥) → life_of_channel new n ≡ life_opened layer.named layer n
    lives n (inl same) =
        lives_waiting layer.names (layer.waiting ++ added ∷ []) n (nat_lt n (layer.named + 1)) (last_waits layer.waiting added n same)
        ∙ ap (λ (b : Bool). if b then lasting else life_of_channel layer n) (sym (eq-eqb layer.named n same))
    lives n (inr other) =
        ap (λ (b : Bool). life_by_place (b || is_some (entry_numbered n layer.names)) (nat_lt n (layer.named + 1))) (before_last layer.waiting added n other)
        ∙ ap (life_by_place (is_placed layer.names layer.waiting n)) (lt_next n layer.named other)
        ∙ ap (λ (b : Bool). if b then lasting else life_of_channel layer n) (sym (ne_eqb layer.named n other))

    no_stream : (n : ℕ) → is_waiting n (layer.waiting ++ added ∷ []) ≡ true → (layer.named ≡ n) ⊎ (layer.named ≡ n → ⊥) → entry_numbered n layer.names ≡ None
    no_stream n waits (inl same) = subst (λ (m : ℕ). entry_numbered m layer.names ≡ None) same (next_no_stream layer a)
    no_stream n waits (inr other) = a.no_stream n (sym (before_last layer.waiting added n other) ∙ waits)

    waits_named : (n : ℕ) → is_waiting n (layer.waiting ++ added ∷ []) ≡ true → (layer.named ≡ n) ⊎ (layer.named ≡ n → ⊥) → n < layer.named + 1
    waits_named n waits (inl same) = omega arith
    waits_named n waits (inr other) = let below : n < layer.named = a.waits_named n (sym (before_last layer.waiting added n other) ∙ waits) in omega arith

    apart : IsOrderly new
    apart =
        record {
          streams_rise = a.streams_rise;
          names_rise = a.names_rise;
          leads = a.leads;
          led_to = a.led_to;
          wait_apart = apart_with_last layer.waiting added a.wait_apart (next_not_waiting layer a);
          no_stream = λ n waits. no_stream n waits (cases_eq layer.named n);
          was_named = λ n k at. let below : n < layer.named = a.was_named n k at in omega arith;
          waits_named = λ n waits. waits_named n waits (cases_eq layer.named n);
        }

abbrev life_answered : Result ChannelId ChannelError → LayerView → ℕ → Life
life_answered (Ok id) layer name = life_opened id.0 layer name
life_answered (Err error) layer name = life_of_channel layer name

opens_tell : (opening : Opening) (negotiated : Option ℕ) (refusal : Option ChannelError) (answer : Result ChannelId ChannelError) (old new : ChannelsView) → OpensOrRefuses opening negotiated refusal answer old new
    → IsOrderly old.layer → ReportsLives (life_answered answer old.layer) old.layer [] new.layer
opens_tell opening negotiated None (Ok id) old new made a =
    tells_then (life_opened id.0 old.layer) old.layer (named_next opening negotiated old.layer) [] new.layer
    (subst (λ (n : ℕ). ReportsLives (life_opened n old.layer) old.layer [] (named_next opening negotiated old.layer)) (sym made.0) (named_tells opening negotiated old.layer a))
    (waiting_tells (on_layer (named_next opening negotiated) old) new made.1)
opens_tell opening negotiated None (Err error) old new made a = absurd made
opens_tell opening negotiated (Some refusal) (Ok id) old new made a = absurd made
opens_tell opening negotiated (Some refusal) (Err error) old new made a = tells_to (life_of_channel old.layer) old.layer old new made.1 (same_tells old.layer a)

-- ---- a message is sent

-- the streams have the same channels
pub same_slots : (streams others : List (ℕ × HeldStream)) (names : List (ℕ × ℕ)) (waiting : List WaitingChannel) (named : ℕ) → ((q : ℕ) → slot_of (entry_numbered q others) ≡ slot_of (entry_numbered q streams)) → AreRising others
    → IsInOrder streams names waiting named → IsInOrder others names waiting named
same_slots streams others names waiting named same rise a =
    record {
      streams_rise = rise;
      names_rise = a.names_rise;
      leads = λ q n is. a.leads q n (sym (ap name_of_slot (same q)) ∙ is);
      led_to = λ n q at. ap name_of_slot (same q) ∙ a.led_to n q at;
      wait_apart = a.wait_apart;
      no_stream = a.no_stream;
      was_named = a.was_named;
      waits_named = a.waits_named;
    }

pub counted_slots : (number bytes : ℕ) (held : HeldStream) (streams : List (ℕ × HeldStream)) → entry_numbered number streams ≡ Some held → (q : ℕ) → slot_of (entry_numbered q (entry_put number (counts_sent bytes held) streams)) ≡ slot_of (entry_numbered q streams)
counted_slots number bytes held streams is q = by (cases_eq q number)
  where
    here : slot_of (entry_numbered number (entry_put number (counts_sent bytes held) streams)) ≡ slot_of (entry_numbered number streams)
    here = ap slot_of (put_here number (counts_sent bytes held) streams) ∙ sym (ap slot_of is)

    by : (q ≡ number) ⊎ (q ≡ number → ⊥) → slot_of (entry_numbered q (entry_put number (counts_sent bytes held) streams)) ≡ slot_of (entry_numbered q streams)
    by (inl same) = subst (λ (m : ℕ). slot_of (entry_numbered m (entry_put number (counts_sent bytes held) streams)) ≡ slot_of (entry_numbered m streams)) (sym same) here
    by (inr apart) = ap slot_of (put_apart q number (counts_sent bytes held) streams apart)

-- an open channel's stream is in use
pub open_is : (layer : LayerView) (found : ℕ × HeldStream) (name : ℕ) → open_stream layer name ≡ Some found → held_stream_numbered layer found.0 ≡ Some found.1
open_is layer found name is = of_stream (stream_of_name layer name) is
  where
    of_closing : (number : ℕ) (held : HeldStream) → held_stream_numbered layer number ≡ Some held → (closing : Bool) → stream_unless_closing closing number held ≡ Some found → held_stream_numbered layer found.0 ≡ Some found.1
    of_closing number held at true is = absurd cc
    of_closing number held at false is =
        let same : (number, held) ≡ found = cc in
        subst (λ (f : ℕ × HeldStream). held_stream_numbered layer f.0 ≡ Some f.1) same at

    of_held : (number : ℕ) (held : Option HeldStream) → held_stream_numbered layer number ≡ held → open_held number held ≡ Some found → held_stream_numbered layer found.0 ≡ Some found.1
    of_held number None at is = absurd cc
    of_held number (Some held) at is = of_closing number held at held.stream.closing is

    of_stream : (stream : Option ℕ) → open_on stream layer ≡ Some found → held_stream_numbered layer found.0 ≡ Some found.1
    of_stream None is = absurd cc
    of_stream (Some number) is = of_held number (held_stream_numbered layer number) refl is

sent_tells : (taken : Result (Unit {0}) SendError) (number bytes : ℕ) (held : HeldStream) (below : UserView) (layer : LayerView) → held_stream_numbered layer number ≡ Some held → Keeps layer (view_after_send taken number bytes held below layer).layer
sent_tells (Ok done) number bytes held below layer is a =
    tells_nothing layer (view_after_send (Ok done) number bytes held below layer).layer refl (λ n. refl)
    (same_slots layer.streams (entry_put number (counts_sent bytes held) layer.streams) layer.names layer.waiting layer.named (counted_slots number bytes held layer.streams is)
    (rising_put number (counts_sent bytes held) layer.streams a.streams_rise) a)
sent_tells (Err refusal) number bytes held below layer is a = same_tells layer a

sends_tell : (found : Option (ℕ × HeldStream)) (name : ℕ) (content : ChannelContent) (answer : Result (Unit {0}) ChannelError) (old new : ChannelsView) → open_stream old.layer name ≡ found → SendsIfOpen found content answer old new
    → Keeps old.layer new.layer
sends_tell None name content answer old new is made a = tells_to (life_of_channel old.layer) old.layer old new made.1 (same_tells old.layer a)
sends_tell (Some found) name content answer old new is made a =
    tells_to (life_of_channel old.layer) old.layer _ new made.is (sent_tells made.taken found.0 _ found.1 made.below old.layer (open_is old.layer found name is) a)

-- ---- a channel is closed

pub waiting_closes : (name : ℕ) (layer : LayerView) → Keeps layer (layer_after_close None name layer)
waiting_closes name layer a =
    record { more = ends_waiting name layer.waiting; behind = refl; lives = λ n. lives n (cases_eq name n); apart = apart }
  where
    own_life : (b : Bool) → is_waiting name layer.waiting ≡ b → Hears name (life_of_channel layer name) (ends_waiting name layer.waiting) (life_with (without_waiting name layer.waiting) layer name)
    own_life true waits =
        hears_as name lasting (life_of_channel layer name) (ends_waiting name layer.waiting) gone _ (lives_waiting layer.names layer.waiting name (nat_lt name layer.named) waits)
        (lives_nowhere layer.names (without_waiting name layer.waiting) name layer.named (without_itself name layer.waiting a.wait_apart) (a.no_stream name waits) (a.waits_named name waits))
        (subst (λ (ns : List ChannelNotice). Hears name lasting ns gone) (sym (one_closed name layer.waiting waits)) (ends_now name name Closed [] gone refl refl))
    own_life false is =
        subst (λ (ns : List ChannelNotice). Hears name (life_of_channel layer name) ns (life_with (without_waiting name layer.waiting) layer name)) (sym (none_closed name layer.waiting is))
        (ap (λ (b : Bool). life_by_place (b || is_some (entry_numbered name layer.names)) (nat_lt name layer.named)) (without_itself name layer.waiting a.wait_apart ∙ sym is))

    other_notices : (n : ℕ) (l k : Life) (b : Bool) → is_waiting name layer.waiting ≡ b → (name ≡ n → ⊥) → k ≡ l → Hears n l (ends_waiting name layer.waiting) k
    other_notices n l k true waits apart same = subst (λ (ns : List ChannelNotice). Hears n l ns k) (sym (one_closed name layer.waiting waits)) (ends_other n name Closed [] l k apart same)
    other_notices n l k false is apart same = subst (λ (ns : List ChannelNotice). Hears n l ns k) (sym (none_closed name layer.waiting is)) same

    lives : (n : ℕ) → (name ≡ n) ⊎ (name ≡ n → ⊥) → Hears n (life_of_channel layer n) (ends_waiting name layer.waiting) (life_with (without_waiting name layer.waiting) layer n)
    lives n (inl same) = subst (λ (m : ℕ). Hears m (life_of_channel layer m) (ends_waiting name layer.waiting) (life_with (without_waiting name layer.waiting) layer m)) same (own_life (is_waiting name layer.waiting) refl)
    lives n (inr other) =
        other_notices n (life_of_channel layer n) (life_with (without_waiting name layer.waiting) layer n) (is_waiting name layer.waiting) refl other
        (ap (λ (b : Bool). life_by_place (b || is_some (entry_numbered n layer.names)) (nat_lt n layer.named)) (without_other name layer.waiting n other))

    waited : (n : ℕ) → is_waiting n (without_waiting name layer.waiting) ≡ true → (name ≡ n) ⊎ (name ≡ n → ⊥) → is_waiting n layer.waiting ≡ true
    waited n waits (inl same) =
        let never : is_waiting n (without_waiting name layer.waiting) ≡ false = subst (λ (m : ℕ). is_waiting m (without_waiting name layer.waiting) ≡ false) same (without_itself name layer.waiting a.wait_apart) in absurd cc
    waited n waits (inr other) = sym (without_other name layer.waiting n other) ∙ waits

    apart : IsInOrder layer.streams layer.names (without_waiting name layer.waiting) layer.named
    apart =
        record {
          streams_rise = a.streams_rise;
          names_rise = a.names_rise;
          leads = a.leads;
          led_to = a.led_to;
          wait_apart = apart_without name layer.waiting a.wait_apart;
          no_stream = λ n waits. a.no_stream n (waited n waits (cases_eq name n));
          was_named = a.was_named;
          waits_named = λ n waits. a.waits_named n (waited n waits (cases_eq name n));
        }

closes_tell : EachSpeaksInTurn → (stream : Option ℕ) (name : ℕ) (layer : LayerView) → Keeps layer (layer_after_close stream name layer)
closes_tell law (Some number) name layer a = row_where_tells law (held_stream_numbered layer number) number is_closed layer refl (λ slot. refl) a
closes_tell law None name layer a = waiting_closes name layer a

sets_tell : (stream : Option ℕ) (bytes : ℕ) (answer : Result (Unit {0}) ChannelError) (old new : ChannelsView) → SetsThresholdIfOpen stream bytes answer old new → Keeps old.layer new.layer
sets_tell None bytes answer old new made a = tells_to (life_of_channel old.layer) old.layer old new made.1 (same_tells old.layer a)
sets_tell (Some number) bytes answer old new made a = tells_to (life_of_channel old.layer) old.layer _ new made.1.is (same_tells old.layer a)

-- ---- a call

pub calls_tell : EachSpeaksInTurn → (call : ChannelsCall) (old new : ChannelsView) → IsCallMade call old new → IsOrderly old.layer → ReportsLives (life_from call old.layer) old.layer [] new.layer
calls_tell law (sets_role role) old new made a =
    tells_then (life_of_channel old.layer) old.layer (record old.layer { role = Some role }) [] new.layer (tells_nothing old.layer (record old.layer { role = Some role }) refl (λ n. refl) a)
    (waiting_tells (on_layer (λ layer. record layer { role = Some role }) old) new made)
calls_tell law connects old new made a = only_tells _ old new made a
calls_tell law (handles_input packet) old new made a =
    tells_then (life_of_channel old.layer) old.layer (record old.layer { has_room = true }) [] new.layer (tells_nothing old.layer (record old.layer { has_room = true }) refl (λ n. refl) a)
    (only_tells _ (on_layer (λ layer. record layer { has_room = true }) old) new made)
calls_tell law (advances moment) old new made a =
    tells_then (life_of_channel old.layer) old.layer (clock_set moment old.layer) [] new.layer (tells_nothing old.layer (clock_set moment old.layer) refl (λ n. refl) a)
    (only_tells _ (on_layer (clock_set moment) old) new made)
calls_tell law aborts old new made a = only_tells _ old new made a
calls_tell law shuts_down old new made a = only_tells _ old new made a
calls_tell law (opens_channel opening negotiated (Ok id)) old new made a = opens_tell opening negotiated (open_refusal opening negotiated old) (Ok id) old new made a
calls_tell law (opens_channel opening negotiated (Err error)) old new made a = opens_tell opening negotiated (open_refusal opening negotiated old) (Err error) old new made a
calls_tell law (sends_content name content answer) old new made a = sends_tell (open_stream old.layer name) name content answer old new refl made a
calls_tell law (closes_channel name) old new made a =
    tells_to (life_of_channel old.layer) old.layer (on_layer (channel_closed name) old) new made (closes_tell law (stream_of_name old.layer name) name old.layer a)
calls_tell law (sets_threshold name bytes answer) old new made a = sets_tell (stream_of_name old.layer name) bytes answer old new made a

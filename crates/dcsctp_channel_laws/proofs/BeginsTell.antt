-- What channels that begin tell, and the rows that give a stream to none.
use Rattle.std.proofs.Common.{◌≡◌, ◌⊎◌, ℕ, Bool, true, false, ◌||◌, Option, Some, None, is_some, nat_lt, Result, Ok, Err, List, [], ◌∷◌, refl, sym, ap, subst, inl, inr}
use Rattle.std.proofs.lemmas.Bool.{cases_eq}
use Rattle.std.proofs.lemmas.List.{append-nil}
use Rattle.dcsctp_channel_calls.specs.api.Calls.{UserView}
use Rattle.dcsctp_channel_calls.specs.api.declared.errors.SendError.{SendError}
use Rattle.dcsctp_channel_calls.specs.messages.channel_spec.declared.types.ChannelEnd.TheVariants.{NoStream}
use Rattle.dcsctp_channel_calls.specs.messages.channel_spec.declared.types.Delivery.{Delivery}
use Rattle.dcsctp_channel_calls.specs.messages.channel_spec.declared.types.Role.{Role}
use Rattle.dcsctp_channel_calls.specs.messages.channel_spec.Slots.{Opening, StreamSlot, free, name_of_slot, ended, SlotInput, opens, agrees}
use Rattle.dcsctp_channel_calls.specs.messages.channel_spec.Table.{outcome_of}
use Rattle.dcsctp_channel_calls.specs.messages.channel_spec.Laws.{given_name, Speaks, EachSpeaksInTurn}
use Rattle.dcsctp_channel_calls.specs.declared.channel.HeldStream.{HeldStream}
use Rattle.dcsctp_channel_calls.specs.View.{WaitingChannel, of_channel, LayerView, ChannelsView, entry_numbered, slot_of, slot_numbered, row_taken, taken_as, view_with_events}
use Rattle.dcsctp_channel_calls.specs.Calls.{OnlySocket, on_layer}
use Rattle.dcsctp_channel_calls.specs.Queries.{is_waiting}
use Rattle.dcsctp_channel_calls.specs.Sending.{row_taken_if_held}
use Rattle.dcsctp_channel_calls.specs.Opening.{GetsStream, BeginsOn, BeginsInTurn, none_waits, begins, waits_on, BeginsWhereKnown, BeginsWaiting, may_begin, view_after_open, opening_said, is_taken, channels_waiting, without_stream}
use Rattle.dcsctp_channel_laws.specs.Lives.{IsInOrder, IsOrderly, is_placed, Life, lasting, gone, life_by_place, life_of_channel, Hears, ReportsLives}
use Rattle.dcsctp_channel_laws.proofs.Rows.{accepts, no_names}
use Rattle.dcsctp_channel_laws.proofs.Places.{IsFresh}
use Rattle.dcsctp_channel_laws.proofs.Telling.{tells_then, tells_nothing, hears_as, ends_now, ends_other, lives_waiting, lives_nowhere, IsGiven, given_own, quiet_row_tells}
use Rattle.dcsctp_channel_laws.proofs.Waits.{head_waits, past_head, first_out}

abbrev pub Keeps : LayerView → LayerView → Type 0
Keeps old new = IsOrderly old → ReportsLives (life_of_channel old) old [] new

pub same_tells : (layer : LayerView) → Keeps layer layer
same_tells layer a = tells_nothing layer layer refl (λ n. refl) a

pub keeps_then : (a b c : LayerView) → Keeps a b → Keeps b c → Keeps a c
keeps_then a b c first second apart = tells_then (life_of_channel a) a b [] c (first apart) second

pub tells_to : (before : ℕ → Life) (old : LayerView) (between new : ChannelsView) → new ≡ between → ReportsLives before old [] between.layer → ReportsLives before old [] new.layer
tells_to before old between new is tells = subst (λ (v : ChannelsView). ReportsLives before old [] v.layer) (sym is) tells

-- ---- the socket below

pub only_tells : (Makes : UserView → Type 0) (old new : ChannelsView) → OnlySocket Makes old new → Keeps old.layer new.layer
only_tells Makes old new only a =
    tells_to (life_of_channel old.layer) old.layer (view_with_events (record old { below = only.below })) new only.is (tells_nothing old.layer (view_with_events (record old { below = only.below })).layer refl (λ n. refl) a)

pub gathers_tell : (view : ChannelsView) → Keeps view.layer (view_with_events view).layer
gathers_tell view a = tells_nothing view.layer (view_with_events view).layer refl (λ n. refl) a

-- ---- rows

-- an input that gives the stream to no channel that waited
abbrev pub GivesNone : SlotInput → Type 0
GivesNone input = (slot : StreamSlot) → given_name input slot ≡ name_of_slot slot

pub row_tells : EachSpeaksInTurn → (number : ℕ) (delivery : Delivery) (input : SlotInput) (layer : LayerView) → accepts input ≡ false → GivesNone input → Keeps layer (row_taken number delivery input layer)
row_tells law number delivery input layer not gives a =
    quiet_row_tells number delivery input (outcome_of input (slot_numbered layer number)) layer a (name_of_slot (slot_numbered layer number)) (life_of_channel layer) (given_own number layer a)
    (subst (λ (g : Option ℕ). Speaks g (outcome_of input (slot_numbered layer number)).reports (name_of_slot (outcome_of input (slot_numbered layer number)).after)) (gives (slot_numbered layer number)) (law input (slot_numbered layer number)))
    (no_names input (slot_numbered layer number) not)

pub row_where_tells : EachSpeaksInTurn → (held : Option HeldStream) (number : ℕ) (input : SlotInput) (layer : LayerView) → accepts input ≡ false → GivesNone input → Keeps layer (row_taken_if_held held number input layer)
row_where_tells law None number input layer not gives a = same_tells layer a
row_where_tells law (Some held) number input layer not gives a = row_tells law number held.delivery input layer not gives a

-- ---- channels begin

-- the lives where these wait
abbrev pub life_with : List WaitingChannel → LayerView → ℕ → Life
life_with waiting layer n = life_by_place (is_placed layer.names waiting n) (nat_lt n layer.named)

-- one that waited first is given a stream
given_first : (waits : WaitingChannel) (rest : List WaitingChannel) (number : ℕ) (layer : LayerView) → IsInOrder layer.streams layer.names (waits ∷ rest) layer.named → slot_numbered layer number ≡ free
    → IsGiven (Some waits.name) number (channels_waiting rest layer) (life_with (waits ∷ rest) layer)
given_first waits rest number layer a is_free =
    record {
      from = λ n had. let none : name_of_slot (slot_numbered layer number) ≡ None = ap name_of_slot is_free in absurd cc;
      is_free = λ n same. let named : waits.name ≡ n = cc in inr (subst (λ (m : ℕ). IsFresh (channels_waiting rest layer) layer.named m) named fresh);
      lasts = λ n same. let named : waits.name ≡ n = cc in lives_waiting layer.names (waits ∷ rest) n (nat_lt n layer.named) (head_waits waits rest n named);
      others = λ n not. ap (λ (b : Bool). life_by_place (b || is_some (entry_numbered n layer.names)) (nat_lt n layer.named)) (past_head waits rest n (λ (s : waits.name ≡ n). not (ap Some s)));
    }
  where
    waits_first : is_waiting waits.name (waits ∷ rest) ≡ true
    waits_first = head_waits waits rest waits.name refl

    fresh : IsFresh (channels_waiting rest layer) layer.named waits.name
    fresh = record { no_stream = a.no_stream waits.name waits_first; not_waiting = a.wait_apart.0; is_below = a.waits_named waits.name waits_first }

-- What a channel that waited first becomes.
abbrev TellsFirst : WaitingChannel → List WaitingChannel → LayerView → LayerView → Type 0
TellsFirst waits rest layer new = ReportsLives (life_with (waits ∷ rest) layer) (channels_waiting rest layer) [] new

agrees_tells : (waits : WaitingChannel) (rest : List WaitingChannel) (number : ℕ) (layer : LayerView) → IsInOrder layer.streams layer.names (waits ∷ rest) layer.named → slot_numbered layer number ≡ free
    → TellsFirst waits rest layer (row_taken number waits.delivery (agrees waits.name) (channels_waiting rest layer))
agrees_tells waits rest number layer a is_free =
    subst (λ (slot : StreamSlot). TellsFirst waits rest layer (taken_as number waits.delivery (agrees waits.name) (outcome_of (agrees waits.name) slot) (channels_waiting rest layer))) (sym is_free)
    (quiet_row_tells number waits.delivery (agrees waits.name) (outcome_of (agrees waits.name) free) (channels_waiting rest layer) (first_out layer.streams layer.names waits rest layer.named a) (Some waits.name)
    (life_with (waits ∷ rest) layer) (given_first waits rest number layer a is_free) (refl, refl) refl)

opens_tells : (waits : WaitingChannel) (opening : Opening) (rest : List WaitingChannel) (number : ℕ) (layer : LayerView) → IsInOrder layer.streams layer.names (waits ∷ rest) layer.named → slot_numbered layer number ≡ free
    → TellsFirst waits rest layer (row_taken number waits.delivery (opens waits.name opening) (channels_waiting rest layer))
opens_tells waits opening rest number layer a is_free =
    subst (λ (slot : StreamSlot). TellsFirst waits rest layer (taken_as number waits.delivery (opens waits.name opening) (outcome_of (opens waits.name opening) slot) (channels_waiting rest layer))) (sym is_free)
    (quiet_row_tells number waits.delivery (opens waits.name opening) (outcome_of (opens waits.name opening) free) (channels_waiting rest layer) (first_out layer.streams layer.names waits rest layer.named a) (Some waits.name)
    (life_with (waits ∷ rest) layer) (given_first waits rest number layer a is_free) refl refl)

none_tells : (waits : WaitingChannel) (rest : List WaitingChannel) (layer : LayerView) → IsInOrder layer.streams layer.names (waits ∷ rest) layer.named
    → TellsFirst waits rest layer (without_stream waits.name (channels_waiting rest layer))
none_tells waits rest layer a =
    record { more = of_channel (ended waits.name NoStream) ∷ []; behind = refl; lives = λ n. lives n (cases_eq waits.name n); apart = first_out layer.streams layer.names waits rest layer.named a }
  where
    waits_first : is_waiting waits.name (waits ∷ rest) ≡ true
    waits_first = head_waits waits rest waits.name refl

    own : Hears waits.name (life_with (waits ∷ rest) layer waits.name) (of_channel (ended waits.name NoStream) ∷ []) (life_with rest layer waits.name)
    own =
        hears_as waits.name lasting _ (of_channel (ended waits.name NoStream) ∷ []) gone _ (lives_waiting layer.names (waits ∷ rest) waits.name (nat_lt waits.name layer.named) waits_first)
        (lives_nowhere layer.names rest waits.name layer.named a.wait_apart.0 (a.no_stream waits.name waits_first) (a.waits_named waits.name waits_first))
        (ends_now waits.name waits.name NoStream [] gone refl refl)

    lives : (n : ℕ) → (waits.name ≡ n) ⊎ (waits.name ≡ n → ⊥) → Hears n (life_with (waits ∷ rest) layer n) (of_channel (ended waits.name NoStream) ∷ []) (life_with rest layer n)
    lives n (inl same) = subst (λ (m : ℕ). Hears m (life_with (waits ∷ rest) layer m) (of_channel (ended waits.name NoStream) ∷ []) (life_with rest layer m)) same own
    lives n (inr apart) =
        ends_other n waits.name NoStream [] (life_with (waits ∷ rest) layer n) (life_with rest layer n) apart
        (ap (λ (b : Bool). life_by_place (b || is_some (entry_numbered n layer.names)) (nat_lt n layer.named)) (sym (past_head waits rest n apart)))

-- the stream that a channel gets is free
gets_free : (role : Role) (view : ChannelsView) (negotiated : Option ℕ) (number : ℕ) → GetsStream role view negotiated (Some number) → slot_numbered view.layer number ≡ free
gets_free role view None number gets = ap slot_of gets.0.is_free
gets_free role view (Some agreed) number gets = subst (λ (m : ℕ). slot_numbered view.layer m ≡ free) (sym gets.0) (ap slot_of gets.2)

opened_tells : (answer : Result (Unit {0}) SendError) (waits : WaitingChannel) (rest : List WaitingChannel) (number : ℕ) (below : UserView) (layer : LayerView)
    → IsInOrder layer.streams layer.names (waits ∷ rest) layer.named → slot_numbered layer number ≡ free → true ≡ is_taken answer → TellsFirst waits rest layer (view_after_open answer number waits below (channels_waiting rest layer)).layer
opened_tells (Ok done) waits rest number below layer a is_free begun = opens_tells waits (opening_said waits.payload) rest number layer a is_free
opened_tells (Err refusal) waits rest number below layer a is_free begun = absurd cc

first_tells : (role : Role) (waits : WaitingChannel) (rest : List WaitingChannel) (negotiated stream : Option ℕ) (old new : ChannelsView) → IsInOrder old.layer.streams old.layer.names (waits ∷ rest) old.layer.named
    → GetsStream role (on_layer (channels_waiting rest) old) negotiated stream → BeginsOn waits negotiated stream true (on_layer (channels_waiting rest) old) new → TellsFirst waits rest old.layer new.layer
first_tells role waits rest None None old new a gets on =
    tells_to (life_with (waits ∷ rest) old.layer) (channels_waiting rest old.layer) (on_layer (without_stream waits.name) (on_layer (channels_waiting rest) old)) new on.1 (none_tells waits rest old.layer a)
first_tells role waits rest (Some agreed) None old new a gets on =
    tells_to (life_with (waits ∷ rest) old.layer) (channels_waiting rest old.layer) (on_layer (without_stream waits.name) (on_layer (channels_waiting rest) old)) new on.1 (none_tells waits rest old.layer a)
first_tells role waits rest (Some agreed) (Some number) old new a gets on =
    tells_to (life_with (waits ∷ rest) old.layer) (channels_waiting rest old.layer) _ new on.1.is
    (agrees_tells waits rest number old.layer a (gets_free role (on_layer (channels_waiting rest) old) (Some agreed) number gets))
first_tells role waits rest None (Some number) old new a gets on =
    tells_to (life_with (waits ∷ rest) old.layer) (channels_waiting rest old.layer) _ new on.is
    (opened_tells on.answer waits rest number on.below old.layer a (gets_free role (on_layer (channels_waiting rest) old) None number gets) on.begins)

-- the channel that didn't begin waits on
refused_tells : (answer : Result (Unit {0}) SendError) (waits : WaitingChannel) (rest : List WaitingChannel) (number : ℕ) (below : UserView) (layer : LayerView)
    → IsInOrder layer.streams layer.names (waits ∷ rest) layer.named → false ≡ is_taken answer
    → TellsFirst waits rest layer (channels_waiting (waits ∷ rest) (view_after_open answer number waits below (channels_waiting rest layer)).layer)
refused_tells (Ok done) waits rest number below layer a begun = absurd cc
refused_tells (Err refusal) waits rest number below layer a begun = record { more = []; behind = sym (append-nil layer.notices); lives = λ n. refl; apart = a }

stays_tells : (role : Role) (waits : WaitingChannel) (rest : List WaitingChannel) (negotiated stream : Option ℕ) (old between : ChannelsView) → IsInOrder old.layer.streams old.layer.names (waits ∷ rest) old.layer.named
    → BeginsOn waits negotiated stream false (on_layer (channels_waiting rest) old) between → TellsFirst waits rest old.layer (channels_waiting (waits ∷ rest) between.layer)
stays_tells role waits rest None None old between a on = let never : false ≡ true = on.0 in absurd cc
stays_tells role waits rest (Some agreed) None old between a on = let never : false ≡ true = on.0 in absurd cc
stays_tells role waits rest (Some agreed) (Some number) old between a on = let never : false ≡ true = on.0 in absurd cc
stays_tells role waits rest None (Some number) old between a on =
    subst (λ (v : ChannelsView). TellsFirst waits rest old.layer (channels_waiting (waits ∷ rest) v.layer)) (sym on.is) (refused_tells on.answer waits rest number on.below old.layer a on.begins)

-- the same from the layer in which it waits
tells_out : (waits : WaitingChannel) (rest : List WaitingChannel) (layer new : LayerView) → layer.waiting ≡ waits ∷ rest → TellsFirst waits rest layer new → ReportsLives (life_of_channel layer) layer [] new
tells_out waits rest layer new is tells =
    record {
      more = tells.more;
      behind = tells.behind;
      lives = λ n. subst (λ (w : List WaitingChannel). Hears n (life_with w layer n) tells.more (life_of_channel new n)) (sym is) (tells.lives n);
      apart = tells.apart;
    }

in_order : (waits : WaitingChannel) (rest : List WaitingChannel) (layer : LayerView) → layer.waiting ≡ waits ∷ rest → IsOrderly layer → IsInOrder layer.streams layer.names (waits ∷ rest) layer.named
in_order waits rest layer is a = subst (λ (w : List WaitingChannel). IsInOrder layer.streams layer.names w layer.named) is a

turns_tell : (role : Role) (new old : ChannelsView) → BeginsInTurn role new old → Keeps old.layer new.layer
turns_tell role new _ (none_waits old none is) a = tells_to (life_of_channel old.layer) old.layer old new is (same_tells old.layer a)
turns_tell role new _ (begins old between waits rest is first others) a =
    tells_then (life_of_channel old.layer) old.layer between.layer [] new.layer
    (tells_out waits rest old.layer between.layer is (first_tells role waits rest waits.negotiated first.stream old between (in_order waits rest old.layer is a) first.gets first.begins))
    (turns_tell role new between others)
turns_tell role new _ (waits_on old between waits rest is first back) a =
    tells_to (life_of_channel old.layer) old.layer (on_layer (channels_waiting (waits ∷ rest)) between) new back
    (tells_out waits rest old.layer (channels_waiting (waits ∷ rest) between.layer) is (stays_tells role waits rest waits.negotiated first.stream old between (in_order waits rest old.layer is a) first.begins))

known_tells : (may : Bool) (role : Option Role) (old new : ChannelsView) → BeginsWhereKnown may role old new → Keeps old.layer new.layer
known_tells true (Some role) old new turns a = turns_tell role new old turns a
known_tells true None old new is a = tells_to (life_of_channel old.layer) old.layer old new is (same_tells old.layer a)
known_tells false None old new is a = tells_to (life_of_channel old.layer) old.layer old new is (same_tells old.layer a)
known_tells false (Some role) old new is a = tells_to (life_of_channel old.layer) old.layer old new is (same_tells old.layer a)

pub waiting_tells : (old new : ChannelsView) → BeginsWaiting old new → Keeps old.layer new.layer
waiting_tells old new begun a = known_tells (may_begin old.layer) old.layer.role old new begun a

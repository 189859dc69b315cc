-- What the loops keep: what completes from here completes the whole.
use Rattle.std.proofs.Common.{◌≡◌, ◌<◌, ℕ, suc, ◌+◌, arith, Bool, true, false, Option, Some, None, Result, Ok, Err, List, [], ◌∷◌, length, drop, get_or, add-one, drop-cons, refl, sym, ap, subst, ◌∙◌, inr}
use Rattle.std.proofs.lemmas.Bool.{true≢false}
use Rattle.dcsctp_channel_calls.specs.api.types.Ids.{stream_numbers}
use Rattle.dcsctp_channel_calls.specs.api.types.declared.ids.StreamId.{StreamId}
use Rattle.dcsctp_channel_calls.specs.api.declared.errors.SendError.{SendError}
use Rattle.dcsctp_channel_calls.specs.api.Calls.{UserView}
use Rattle.dcsctp_channel_calls.specs.messages.channel_spec.declared.types.Role.{Role}
use Rattle.dcsctp_channel_calls.specs.messages.channel_spec.Slots.{SlotInput}
use Rattle.dcsctp_channel_calls.specs.View.{WaitingChannel, ReportedEvent, ChannelNotice, LayerView, ChannelsView, held_stream_numbered, view_with_events}
use Rattle.dcsctp_channel_calls.specs.Calls.{KeepsTaking, PartGoes, on_layer}
use Rattle.dcsctp_channel_calls.specs.Sending.{row_taken_if_held}
use Rattle.dcsctp_channel_calls.specs.Opening.{BeginsAll, begins, waits_on, none_waits, BeginsOn, FirstBegins, view_after_open, channels_waiting}
use Rattle.dcsctp_channel_calls.specs.Events.{rows_taken, waiting_lost}
use Rattle.dcsctp_channel_calls.specs.Polls.{NothingToTake, HasNothingToReport, NothingToDo, TakesNotice, HandlesNext, an_event, put_off, is_first_due, event_is_due, PollsAs, takes, goes_on, idle, PollsOrFails, PollsChannels}
use Rattle.dcsctp_channels.specs.Layer.{DoesLateUnlessNone, HandlesNextUnlessNone, HandlesFirstReported}
use Rattle.dcsctp_channels.proofs.Keeping.{keeps_refl, keeps_same, keeps_then}

-- what is left where nothing was taken from the front
pub none_left : {A : Type 0} (old new : List A) → old ≡ new → new ≡ drop 1 old → new ≡ []
none_left [] new same rest = sym same
none_left (x ∷ xs) new same rest = let e : suc (length xs) ≡ length xs = ap length (same ∙ rest) in absurd (omega arith)

-- ---- events are taken over

pub record GathersFurther (old new : ChannelsView) : Type 0 where
  pub same : view_with_events new ≡ view_with_events old
  pub keeps : KeepsTaking old.layer new.layer

-- ---- rows on several streams

pub record TakesFurther (all rest : List ℕ) (input : SlotInput) (old new : LayerView) : Type 0 where
  pub same : rows_taken rest input new ≡ rows_taken all input old
  pub keeps : KeepsTaking old new

pub takes_begin : (all : List ℕ) (input : SlotInput) (layer : LayerView) → TakesFurther all all input layer layer
takes_begin all input layer = record { same = refl; keeps = keeps_refl layer }

pub takes_next : (all rest : List ℕ) (number : ℕ) (input : SlotInput) (old new after : LayerView) → TakesFurther all (number ∷ rest) input old new
    → after ≡ row_taken_if_held (held_stream_numbered new number) number input new → KeepsTaking new after → TakesFurther all rest input old after
takes_next all rest number input old new after on is keeps =
    record { same = (rw is refl) ∙ on.same; keeps = keeps_then old new after on.keeps keeps }

numbers_at : (streams : List StreamId) (i : ℕ) → i < length streams → stream_numbers (drop i streams) ≡ (get_or streams i (record { 0 = 0 })).0 ∷ stream_numbers (drop (i + 1) streams)
numbers_at streams i lt = rw (add-one, drop-cons streams i (record { 0 = 0 })) refl

pub takes_at : (streams : List StreamId) (i : ℕ) (input : SlotInput) (old new after : LayerView) → i < length streams → KeepsTaking new after
    → TakesFurther (stream_numbers streams) (stream_numbers (drop i streams)) input old new
    → after ≡ row_taken_if_held (held_stream_numbered new (get_or streams i (record { 0 = 0 })).0) (get_or streams i (record { 0 = 0 })).0 input new
    → TakesFurther (stream_numbers streams) (stream_numbers (drop (i + 1) streams)) input old after
takes_at streams i input old new after lt keeps on is =
    takes_next (stream_numbers streams) (stream_numbers (drop (i + 1) streams)) (get_or streams i (record { 0 = 0 })).0 input old new after
    (subst (λ (rest : List ℕ). TakesFurther (stream_numbers streams) rest input old new) (numbers_at streams i lt) on) is keeps

-- ---- channels begin

pub record BeginsFurther (role : Role) (old new : ChannelsView) : Type 0 where
  pub rest : (last : ChannelsView) → BeginsAll role new last → BeginsAll role old last
  pub keeps : KeepsTaking old.layer new.layer

pub begins_on : (role : Role) (view : ChannelsView) → BeginsFurther role view view
begins_on role view = record { rest = λ last all. all; keeps = keeps_refl view.layer }

-- to begin leaves the channels that wait behind
opened_waiting : (answer : Result (Unit {0}) SendError) (number : ℕ) (waits : WaitingChannel) (below : UserView) (layer : LayerView)
    → (view_after_open answer number waits below layer).layer.waiting ≡ layer.waiting
opened_waiting (Ok done) number waits below layer = refl
opened_waiting (Err refusal) number waits below layer = refl

waiting_stays : (waits : WaitingChannel) (negotiated stream : Option ℕ) (begun : Bool) (old new : ChannelsView) → BeginsOn waits negotiated stream begun old new
    → new.layer.waiting ≡ old.layer.waiting
waiting_stays waits None None begun old new on = ap (λ (v : ChannelsView). v.layer.waiting) on.1
waiting_stays waits (Some agreed) None begun old new on = ap (λ (v : ChannelsView). v.layer.waiting) on.1
waiting_stays waits (Some agreed) (Some number) begun old new on = ap (λ (v : ChannelsView). v.layer.waiting) on.1.is
waiting_stays waits None (Some number) begun old new on =
    ap (λ (v : ChannelsView). v.layer.waiting) on.is ∙ opened_waiting on.answer number waits on.below old.layer

-- a channel that waits is taken out, which takes nothing from the user
keeps_out : (rest : List WaitingChannel) (layer after : LayerView) → KeepsTaking (channels_waiting rest layer) after → KeepsTaking layer after
keeps_out rest layer after keeps =
    keeps_then layer (channels_waiting rest layer) after (keeps_same layer (channels_waiting rest layer) refl refl refl refl) keeps

pub begins_next : (role : Role) (old new after : ChannelsView) (waits : WaitingChannel) (rest : List WaitingChannel) (begun : Bool) → BeginsFurther role old new
    → new.layer.waiting ≡ waits ∷ rest → begun ≡ true → FirstBegins role waits begun (on_layer (channels_waiting rest) new) after
    → KeepsTaking (channels_waiting rest new.layer) after.layer → BeginsFurther role old after
begins_next role old new after waits rest begun on is so first keeps =
    record {
      rest = λ last all. on.rest last (begins new after waits rest is (subst (λ (b : Bool). FirstBegins role waits b (on_layer (channels_waiting rest) new) after) so first) all);
      keeps = keeps_then old.layer new.layer after.layer on.keeps (keeps_out rest new.layer after.layer keeps);
    }

-- one that can't begin is put back
pub begins_stop : (role : Role) (old new between last : ChannelsView) (waits : WaitingChannel) (rest : List WaitingChannel) (begun : Bool) → BeginsFurther role old new
    → new.layer.waiting ≡ waits ∷ rest → begun ≡ false → FirstBegins role waits begun (on_layer (channels_waiting rest) new) between
    → KeepsTaking (channels_waiting rest new.layer) between.layer → last ≡ on_layer (channels_waiting (waits ∷ between.layer.waiting)) between
    → KeepsTaking old.layer last.layer × BeginsAll role old last
begins_stop role old new between last waits rest begun on is so first keeps put_back =
    let behind : between.layer.waiting ≡ rest = waiting_stays waits waits.negotiated first.stream begun (on_layer (channels_waiting rest) new) between first.begins in
    let same : last ≡ on_layer (channels_waiting (waits ∷ rest)) between = put_back ∙ ap (λ (w : List WaitingChannel). on_layer (channels_waiting (waits ∷ w)) between) behind in
    let kept : KeepsTaking old.layer (channels_waiting (waits ∷ rest) between.layer) =
    keeps_then old.layer new.layer (channels_waiting (waits ∷ rest) between.layer) on.keeps
    (keeps_then new.layer between.layer (channels_waiting (waits ∷ rest) between.layer) (keeps_out rest new.layer between.layer keeps)
    (keeps_same between.layer (channels_waiting (waits ∷ rest) between.layer) refl refl refl refl)) in (
      subst (λ (v : ChannelsView). KeepsTaking old.layer v.layer) (sym same) kept,
      on.rest last (waits_on new between waits rest is (subst (λ (b : Bool). FirstBegins role waits b (on_layer (channels_waiting rest) new) between) so first) same),
    )

-- none waits any more
pub begins_done : (role : Role) (old new last : ChannelsView) → BeginsFurther role old new → new.layer.waiting ≡ [] → last ≡ on_layer (channels_waiting []) new
    → KeepsTaking old.layer last.layer × BeginsAll role old last
begins_done role old new last on none is =
    let same : last ≡ new = is ∙ ap (λ (w : List WaitingChannel). on_layer (channels_waiting w) new) (sym none) in
    (subst (λ (v : ChannelsView). KeepsTaking old.layer v.layer) (sym same) on.keeps, on.rest last (none_waits new none same))

-- ---- one thing after another

pub record PollsFurther (old new : ChannelsView) : Type 0 where
  pub rest : (result : Option ChannelNotice) (last : ChannelsView) → PollsAs new result last → PollsAs old result last
  pub keeps : KeepsTaking old.layer new.layer

pub polls_on : (view : ChannelsView) → PollsFurther view view
polls_on view = record { rest = λ result last polls. polls; keeps = keeps_refl view.layer }

-- all is taken over, and one thing is handled
pub polls_next : (old new mid after : ChannelsView) → PollsFurther old new → mid ≡ view_with_events new → KeepsTaking new.layer mid.layer → NothingToTake mid.layer
    → HandlesNext mid after → KeepsTaking mid.layer after.layer → PollsFurther old after
polls_next old new mid after on gathers gathering nothing next keeps =
    record {
      rest = λ result last polls. on.rest result last (goes_on new after (subst (λ (v : ChannelsView). NothingToTake v.layer) gathers nothing) (subst (λ (v : ChannelsView). HandlesNext v after) gathers next) polls);
      keeps = keeps_then old.layer new.layer after.layer on.keeps (keeps_then new.layer mid.layer after.layer gathering keeps);
    }

-- there is something to take
pub polls_takes : (old new mid last : ChannelsView) (notice : ChannelNotice) → PollsFurther old new → mid ≡ view_with_events new → TakesNotice mid.layer notice last.layer
    → last.below ≡ mid.below → PollsAs old (Some notice) last
polls_takes old new mid last notice on gathers taken same =
    on.rest (Some notice) last
    (takes new notice refl (subst (λ (v : ChannelsView). TakesNotice v.layer notice last.layer) gathers taken) (same ∙ ap (λ (v : ChannelsView). v.below) gathers))

-- there is nothing to do
pub polls_idle : (old new mid last : ChannelsView) → PollsFurther old new → mid ≡ view_with_events new → NothingToTake mid.layer → NothingToDo mid → last ≡ mid → PollsAs old None last
polls_idle old new mid last on gathers nothing none same =
    on.rest None last
    (idle new refl (subst (λ (v : ChannelsView). NothingToTake v.layer) gathers nothing) (subst (λ (v : ChannelsView). NothingToDo v) gathers none) (same ∙ gathers))

-- the first event is handled where one is due
none_told : (view : ChannelsView) → view.layer.told ≡ [] → event_is_due view ≡ false
none_told view none = ap (λ (told : List ReportedEvent). is_first_due told view) none

pub told_next : (handled : Bool) (old new : ChannelsView) → event_is_due old ≡ true → HandlesFirstReported handled old new → HandlesNextUnlessNone handled old new
told_next true old new due told = an_event told.0 told.1 due told.2 told.3
told_next false old new due none = absurd (true≢false (sym due ∙ none_told old none))

-- what was put off is done where nothing is told
pub late_next : (done : Bool) (old new : ChannelsView) → HasNothingToReport old → old.layer.over ≡ false → DoesLateUnlessNone done old new → HandlesNextUnlessNone done old new
late_next true old new quiet lasts late = put_off quiet lasts late
late_next false old new quiet lasts (same, none) = (same, record { quiet = quiet; late = inr none })

pub told_in_turn : {E : Type 0} (result : Result Bool E) (old new : ChannelsView) → event_is_due old ≡ true → PartGoes HandlesFirstReported old result new → PartGoes HandlesNextUnlessNone old result new
told_in_turn (Ok handled) old new due goes = (goes.0, told_next handled old new due goes.1)
told_in_turn (Err error) old new due goes = (goes.0, tt)

pub late_in_turn : {E : Type 0} (result : Result Bool E) (old new : ChannelsView) → HasNothingToReport old → old.layer.over ≡ false → PartGoes DoesLateUnlessNone old result new
    → PartGoes HandlesNextUnlessNone old result new
late_in_turn (Ok done) old new quiet lasts goes = (goes.0, late_next done old new quiet lasts goes.1)
late_in_turn (Err error) old new quiet lasts goes = (goes.0, tt)

-- the same, by what is left where there was nothing to take
pub polls_next_from : (old new all : ChannelsView) (left : LayerView) (after : ChannelsView) (handled : Bool) → PollsFurther old new → all ≡ view_with_events new → KeepsTaking new.layer all.layer
    → NothingToTake all.layer → left ≡ all.layer → HandlesNextUnlessNone handled (record all { layer = left }) after → handled ≡ true → KeepsTaking left after.layer → PollsFurther old after
polls_next_from old new all left after handled on gathers gathering nothing same next so keeps =
    polls_next old new all after on gathers gathering nothing
    (subst (λ (b : Bool). HandlesNextUnlessNone b all after) so (subst (λ (l : LayerView). HandlesNextUnlessNone handled (record all { layer = l }) after) same next))
    (subst (λ (l : LayerView). KeepsTaking l after.layer) same keeps)

pub polls_idle_from : (old new all : ChannelsView) (left : LayerView) (last : ChannelsView) (handled : Bool) → PollsFurther old new → all ≡ view_with_events new → KeepsTaking new.layer all.layer
    → NothingToTake all.layer → left ≡ all.layer → HandlesNextUnlessNone handled (record all { layer = left }) last → handled ≡ false
    → PollsAs old None last × (last.layer.failed ≡ old.layer.failed)
polls_idle_from old new all left last handled on gathers gathering nothing same next so =
    let none = subst (λ (b : Bool). HandlesNextUnlessNone b all last) so (subst (λ (l : LayerView). HandlesNextUnlessNone handled (record all { layer = l }) last) same next) in
    (polls_idle old new all last on gathers nothing none.1 none.0, ap (λ (v : ChannelsView). v.layer.failed) none.0 ∙ gathering.runs ∙ on.keeps.runs)

pub polls_takes_from : (old new all last : ChannelsView) (notice : ChannelNotice) → PollsFurther old new → all ≡ view_with_events new → KeepsTaking new.layer all.layer → TakesNotice all.layer notice last.layer
    → last.below ≡ all.below → last.layer.failed ≡ all.layer.failed → PollsAs old (Some notice) last × (last.layer.failed ≡ old.layer.failed)
polls_takes_from old new all last notice on gathers gathering taken same runs =
    (polls_takes old new all last notice on gathers taken same, runs ∙ gathering.runs ∙ on.keeps.runs)

-- a poll where nothing has failed
pub polls_ok : (old new : ChannelsView) (result : Option ChannelNotice) → old.layer.failed ≡ false → PollsAs old result new → new.layer.failed ≡ old.layer.failed → PollsChannels old (Ok result) new
polls_ok old new result runs polls same = subst (λ (b : Bool). PollsOrFails b old (Ok result) new) (sym runs) (polls, same ∙ runs)

-- ---- channels that wait end

pub record EndsFurther (old new : LayerView) : Type 0 where
  pub same : waiting_lost new ≡ waiting_lost old
  pub keeps : KeepsTaking old new

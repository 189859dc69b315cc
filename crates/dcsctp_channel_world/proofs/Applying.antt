-- A step that is applied to a world that shows a run makes one act more of it.
use Rattle.std.proofs.Common.{◌≡◌, ℕ, zero, suc, false, Option, Some, None, Ok, List, [], ◌∷◌, ◌++◌, refl, sym, ap, subst, ◌∙◌, inl, inr}
use Rattle.std.specs.Prelude.{slice_get}
use Rattle.dcsctp_delivery_directions.specs.sending.Places.{HasEntry}
use Rattle.dcsctp_spec_runs.specs.Sockets.{Both, of_side, of_other, packet_at_number}
use Rattle.dcsctp_theorem_sockets.specs.Agreement.{AreUsable}
use Rattle.dcsctp_channel_calls.specs.api.Calls.{UserView}
use Rattle.dcsctp_channel_calls.specs.api.types.declared.schedule.Side.{Side}
use Rattle.dcsctp_channel_calls.specs.api.types.declared.schedule.Side.TheVariants as sides
use Rattle.dcsctp_channel_calls.specs.declared.channel.Limits.{Limits}
use Rattle.dcsctp_channel_calls.specs.View.{ChannelsView}
use Rattle.dcsctp_channel_laws.specs.Names.{handles_input}
use Rattle.dcsctp_channel_runs.specs.Acts.{EndAct, calls, polls, MadeAct, acts_of_ends, FitsEndAct, OpenedChannel, notices_of, notices_of_act, packets_given, channels_reported, channels_of_act, NamedContent, messages_reported}
use Rattle.dcsctp_channel_runs.specs.Runs.{HandsInOne, MakesAct, views_after, packets_from_other, AreNewEnds, IsNewEnd, ChannelsRunSockets}
use Rattle.dcsctp_channel_runs.proofs.Rows.{channels-append, packets-append}
use Rattle.dcsctp_channel_runs.proofs.Run.{notices_more, channels_more}
use Rattle.dcsctp_channel_world.specs.declared.step.EndCall.{EndCall}
use Rattle.dcsctp_channel_world.specs.declared.step.EndCall.TheVariants.{SetRole, Connect, AdvanceTime, Abort, Shutdown, Open, Send, Close, SetThreshold}
use Rattle.dcsctp_channel_world.specs.declared.step.EndReply.{EndReply}
use Rattle.dcsctp_channel_world.specs.declared.step.ChannelStep.{ChannelStep}
use Rattle.dcsctp_channel_world.specs.declared.step.ChannelStep.TheVariants.{Call, Deliver, Poll}
use Rattle.dcsctp_channel_world.specs.Fitting.{FitsUserCall, FitsChannelStep}
use Rattle.dcsctp_channel_world.specs.Promises.{IsNewSocket, EndShows, ShowsRun, ShowsSomeRun, ContinuesRuns, KeepsChannelPromises, AppliesStep}
use Rattle.dcsctp_channel_world.specs.Seen.{NamedEnd, messages_of_act, ends_reported}
use Rattle.dcsctp_channel_world.specs.Shown.{EndShown, WorldShown, fresh_end, fresh_channel_world}
use Rattle.dcsctp_channel_world.specs.Steps.{IsActMade, DoesAct, DoesCallOf, HandsInPacket, MovesEnd}
use Rattle.dcsctp_channel_world.proofs.Naming.{messages_more, messages-append, ends-append}

-- ---- one end

end_shows : (acts : List EndAct) (act : EndAct) (view : ChannelsView) (old new : EndShown) → EndShows acts view old → DoesAct act old new → EndShows (acts ++ act ∷ []) new.view new
end_shows acts act view old new shows does =
    let notices : notices_of (acts ++ act ∷ []) ≡ notices_of acts ++ notices_of_act act = notices_more acts act in
    record {
      view_is = refl;
      packets = does.packets ∙ ap (λ (l : List (List ℕ)). l ++ packets_given (notices_of_act act)) shows.packets
          ∙ sym (packets-append (notices_of acts) (notices_of_act act)) ∙ ap packets_given (sym notices);
      opened = does.opened ∙ ap (λ (l : List OpenedChannel). l ++ channels_of_act act) shows.opened ∙ sym (channels_more acts act);
      incoming = does.incoming ∙ ap (λ (l : List OpenedChannel). l ++ channels_reported (notices_of_act act)) shows.incoming
          ∙ sym (channels-append (notices_of acts) (notices_of_act act)) ∙ ap channels_reported (sym notices);
      sent = does.sent ∙ ap (λ (l : List NamedContent). l ++ messages_of_act act) shows.sent ∙ sym (messages_more acts act);
      read = does.read ∙ ap (λ (l : List NamedContent). l ++ messages_reported (notices_of_act act)) shows.read
          ∙ sym (messages-append (notices_of acts) (notices_of_act act)) ∙ ap messages_reported (sym notices);
      ended = does.ended ∙ ap (λ (l : List NamedEnd). l ++ ends_reported (notices_of_act act)) shows.ended
          ∙ sym (ends-append (notices_of acts) (notices_of_act act)) ∙ ap ends_reported (sym notices);
    }

-- ---- an act more

abbrev EndsShow : Both ChannelsView → List MadeAct → Both EndShown → Type 0
EndsShow starts run ends = (side : Side) → EndShows (of_side side (acts_of_ends run)) (of_side side (views_after starts run)) (of_side side ends)

-- What is handed in was given by polls of the other end.
abbrev HandsIn : List (List ℕ) → EndAct → Type 0
HandsIn packets (calls call) = HandsInOne packets call
HandsIn packets (polls notice) = Unit {0}

makes : (given packets : List (List ℕ)) (act : EndAct) (view old new : ChannelsView) → packets ≡ given → old ≡ view → HandsIn packets act → IsActMade act old new → MakesAct given act view new
makes given packets (calls call) view old new same from hands made =
    (subst (λ (l : List (List ℕ)). HandsInOne l call) same hands, subst (λ (v : ChannelsView). IsActMade (calls call) v new) from made)
makes given packets (polls notice) view old new same from hands made = subst (λ (v : ChannelsView). IsActMade (polls notice) v new) from made

ends_next : (starts : Both ChannelsView) (run : List MadeAct) (old new : Both EndShown) (side : Side) (act : EndAct) → EndsShow starts run old → DoesAct act (of_side side old) (of_side side new)
    → of_other side new ≡ of_other side old → EndsShow starts (record { side = side; act = act; after = (of_side side new).view } ∷ run) new
ends_next starts run old new sides.A act shows does stays sides.A = end_shows (acts_of_ends run).a act (views_after starts run).a old.a new.a (shows sides.A) does
ends_next starts run old new sides.A act shows does stays sides.B = subst (λ (e : EndShown). EndShows (acts_of_ends run).b (views_after starts run).b e) (sym stays) (shows sides.B)
ends_next starts run old new sides.B act shows does stays sides.A = subst (λ (e : EndShown). EndShows (acts_of_ends run).a (views_after starts run).a e) (sym stays) (shows sides.A)
ends_next starts run old new sides.B act shows does stays sides.B = end_shows (acts_of_ends run).b act (views_after starts run).b old.b new.b (shows sides.B) does

other_gave : (starts : Both ChannelsView) (run : List MadeAct) (old : Both EndShown) (side : Side) → EndsShow starts run old → (of_other side old).packets ≡ packets_from_other side run
other_gave starts run old sides.A shows = (shows sides.B).packets
other_gave starts run old sides.B shows = (shows sides.A).packets

act_continues : (old new : WorldShown) (side : Side) (act : EndAct) → FitsEndAct act → HandsIn (of_other side old.ends).packets act → DoesAct act (of_side side old.ends) (of_side side new.ends)
    → of_other side new.ends ≡ of_other side old.ends → ContinuesRuns old new
act_continues old new side act fits hands does stays =
    record {
      more = record { side = side; act = act; after = (of_side side new.ends).view } ∷ [];
      goes_on = λ options starts run shown. record {
        usable = shown.usable;
        begins = shown.begins;
        in_memory = (fits, shown.in_memory);
        made = (
          makes (packets_from_other side run) (of_other side old.ends).packets act (of_side side (views_after starts run)) (of_side side old.ends).view (of_side side new.ends).view
              (other_gave starts run old.ends side shown.ends) (shown.ends side).view_is hands does.made,
          shown.made,
        );
        ends = ends_next starts run old.ends new.ends side act shown.ends does stays;
      };
    }

-- ---- a step

-- nothing has changed
same_continues : (old new : WorldShown) → new.ends ≡ old.ends → ContinuesRuns old new
same_continues old new same =
    record {
      more = [];
      goes_on = λ options starts run shown. record {
        usable = shown.usable;
        begins = shown.begins;
        in_memory = shown.in_memory;
        made = shown.made;
        ends = subst (λ (ends : Both EndShown). EndsShow starts run ends) (sym same) shown.ends;
      };
    }

entry_at : (packets : List (List ℕ)) (place : ℕ) (packet : List ℕ) → slice_get packets place ≡ Some packet → HasEntry packet packets
entry_at [] place packet at = absurd cc
entry_at (first ∷ packets) zero packet at = let same : first ≡ packet = cc in inl (sym same)
entry_at (first ∷ packets) (suc place) packet at = inr (entry_at packets place packet at)

entry_numbered : (packets : List (List ℕ)) (number : ℕ) (packet : List ℕ) → packet_at_number number packets ≡ Some packet → HasEntry packet packets
entry_numbered packets zero packet at = absurd cc
entry_numbered packets (suc before) packet at = entry_at packets before packet at

ends_same : (side : Side) (old new : Both EndShown) → of_side side new ≡ of_side side old → of_other side new ≡ of_other side old → new ≡ old
ends_same sides.A old new here there = ap (λ (e : EndShown). record { a = e; b = new.b }) here ∙ ap (λ (e : EndShown). record { a = old.a; b = e }) there
ends_same sides.B old new here there = ap (λ (e : EndShown). record { a = new.a; b = e }) here ∙ ap (λ (e : EndShown). record { a = e; b = old.b }) there

call_continues : (old new : WorldShown) (side : Side) (call : EndCall) (reply : EndReply) → FitsUserCall call → DoesCallOf call reply (of_side side old.ends) (of_side side new.ends)
    → of_other side new.ends ≡ of_other side old.ends → ContinuesRuns old new
call_continues old new side (SetRole role) reply fits does stays = act_continues old new side _ tt tt does.1 stays
call_continues old new side Connect reply fits does stays = act_continues old new side _ tt tt does.1 stays
call_continues old new side (AdvanceTime now) reply fits does stays = act_continues old new side _ tt tt does.1 stays
call_continues old new side Abort reply fits does stays = act_continues old new side _ tt tt does.1 stays
call_continues old new side Shutdown reply fits does stays = act_continues old new side _ tt tt does.1 stays
call_continues old new side (Open options) reply fits does stays = act_continues old new side _ fits tt does.2 stays
call_continues old new side (Send id is_text bytes) reply fits does stays = act_continues old new side _ fits tt does.2 stays
call_continues old new side (Close id) reply fits does stays = act_continues old new side _ tt tt does.1 stays
call_continues old new side (SetThreshold id bytes) reply fits does stays = act_continues old new side _ tt tt does.2 stays

delivery_continues : (old new : WorldShown) (side : Side) (number : ℕ) (found : Option (List ℕ)) (reply : EndReply) → packet_at_number number (of_other side old.ends).packets ≡ found
    → HandsInPacket found reply (of_side side old.ends) (of_side side new.ends) → of_other side new.ends ≡ of_other side old.ends → ContinuesRuns old new
delivery_continues old new side number None reply at does stays = same_continues old new (ends_same side old.ends new.ends does.1 stays)
delivery_continues old new side number (Some packet) reply at does stays =
    act_continues old new side (calls (handles_input packet)) tt (entry_numbered (of_other side old.ends).packets number packet at) does.1 stays

step_continues : (step : ChannelStep) (reply : EndReply) (old new : WorldShown) → FitsChannelStep step → MovesEnd step (Ok reply) old.ends new.ends → ContinuesRuns old new
step_continues (Call side call) reply old new fits moves = call_continues old new side call reply fits moves.performs moves.other_stays
step_continues (Deliver side number) reply old new fits moves =
    delivery_continues old new side number (packet_at_number number (of_other side old.ends).packets) reply refl moves.performs moves.other_stays
step_continues (Poll side) reply old new fits moves = act_continues old new side (polls moves.performs.notice) tt tt moves.performs.takes moves.other_stays

-- ---- promises

pub promises_kept : ChannelsRunSockets → (world : WorldShown) → ShowsSomeRun world → KeepsChannelPromises world
promises_kept law world shows =
    let shown : ShowsRun shows.options shows.starts shows.run world = shows.shown in
    record { shows = shows; sockets = law shows.options shows.starts shows.run shown.usable shown.begins shown.in_memory shown.made }

-- a step that was applied
pub step_shows : (step : ChannelStep) (reply : EndReply) (old new : WorldShown) → FitsChannelStep step → ShowsSomeRun old → MovesEnd step (Ok reply) old.ends new.ends → ShowsSomeRun new
step_shows step reply old new fits shows moves =
    let continues : ContinuesRuns old new = step_continues step reply old new fits moves in
    record {
      options = shows.options;
      starts = shows.starts;
      run = continues.more ++ shows.run;
      shown = continues.goes_on shows.options shows.starts shows.run shows.shown;
    }

pub step_applied : ChannelsRunSockets → (step : ChannelStep) (reply : EndReply) (old new : WorldShown) → old.failed ≡ false → new.failed ≡ false → FitsChannelStep step → ShowsSomeRun old
    → MovesEnd step (Ok reply) old.ends new.ends → AppliesStep step reply old new
step_applied law step reply old new runs goes_on fits shows moves =
    record {
      runs = runs;
      goes_on = goes_on;
      moves = moves;
      continues = step_continues step reply old new fits moves;
      keeps = promises_kept law new (step_shows step reply old new fits shows moves);
    }

-- ---- the beginning

-- two ends that haven't failed
abbrev world_with : EndShown → EndShown → WorldShown
world_with a b = record { ends = record { a = a; b = b }; failed = false }

new_end : (below : UserView) (limits : Limits) (new : IsNewSocket below) → IsNewEnd new.options (fresh_end below limits).view
new_end below limits new = record { endpoint = new.endpoint; events = new.events; packets = refl; notices = refl; waiting = refl; streams = refl; names = refl }

both_fresh : (shown_a shown_b : EndShown) (a b : UserView) (limits : Limits) → shown_a ≡ fresh_end a limits → shown_b ≡ fresh_end b limits
    → world_with shown_a shown_b ≡ fresh_channel_world a b limits
both_fresh shown_a shown_b a b limits is_a is_b = ap (λ (e : EndShown). world_with e shown_b) is_a ∙ ap (world_with (fresh_end a limits)) is_b

pub fresh_shows : (shown_a shown_b : EndShown) (a b : UserView) (limits : Limits) → IsNewSocket a → IsNewSocket b → shown_a ≡ fresh_end a limits → shown_b ≡ fresh_end b limits
    → ShowsSomeRun (world_with shown_a shown_b)
fresh_shows shown_a shown_b a b limits new_a new_b is_a is_b =
    subst ShowsSomeRun (sym (both_fresh shown_a shown_b a b limits is_a is_b))
    (record {
      options = record { a = new_a.options; b = new_b.options };
      starts = record { a = (fresh_end a limits).view; b = (fresh_end b limits).view };
      run = [];
      shown = record { usable = usable; begins = begins; in_memory = tt; made = tt; ends = ends };
    })
  where
    usable : AreUsable (record { a = new_a.options; b = new_b.options })
    usable sides.A = new_a.usable
    usable sides.B = new_b.usable

    begins : AreNewEnds (record { a = new_a.options; b = new_b.options }) (record { a = (fresh_end a limits).view; b = (fresh_end b limits).view })
    begins sides.A = new_end a limits new_a
    begins sides.B = new_end b limits new_b

    ends : EndsShow (record { a = (fresh_end a limits).view; b = (fresh_end b limits).view }) [] (record { a = fresh_end a limits; b = fresh_end b limits })
    ends sides.A = record { view_is = refl; packets = refl; opened = refl; incoming = refl; sent = refl; read = refl; ended = refl }
    ends sides.B = record { view_is = refl; packets = refl; opened = refl; incoming = refl; sent = refl; read = refl; ended = refl }

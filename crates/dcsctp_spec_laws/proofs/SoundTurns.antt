-- Each call of a socket keeps its tags other than 0, and its zero checksum method that of the options or none.
use Rattle.dcsctp_spec_laws.proofs.AlongLemmas.{MayCome, turns_along, input_along_where, call_along}
use Rattle.dcsctp_spec_lemmas.proofs.ControlEcho.{cookie_echo_controlled}
use Rattle.dcsctp_spec_lemmas.proofs.ControlHandshake.{init_ack_controlled, cookie_ack_controlled, abort_controlled}
use Rattle.dcsctp_spec_laws.proofs.ControlLemmas.{begin_stands, acts_are_controlled}
use Rattle.dcsctp_spec_laws.proofs.ControlRestores.{restore_stands}
use Rattle.dcsctp_spec_laws.proofs.DataLemmas.{flushed_act, end_at, send_at, resets_at, take_at}
use Rattle.dcsctp_spec_laws.proofs.HeartbeatLemmas.{timer_controlled}
use Rattle.dcsctp_spec_laws.proofs.InitLemmas.{init_leaves_association}
use Rattle.dcsctp_spec_laws.proofs.PlainLemmas.{plain_controlled}
use Rattle.dcsctp_spec_laws.proofs.ResetLemmas.{reset_controlled}
use Rattle.dcsctp_spec_laws.proofs.HeardShutdownLemmas.{shutdown_controlled}
use Rattle.dcsctp_spec_laws.proofs.ShutdownLemmas.{shutdown_ack_controlled, shutdown_complete_controlled}
use Rattle.dcsctp_spec_laws.proofs.SoundChanges.{IsOtherAct, SaysTag, act_sound, chunk_sound}
use Rattle.dcsctp_spec_laws.proofs.TurnLemmas.{content_keeps_options}
use Rattle.dcsctp_spec_lemmas.specs.spec.endpoint.CallTurns.{Transition, IsTurn, AlongTurns, after_all}
use Rattle.dcsctp_spec_lemmas.specs.spec.association.Controlled.{IsControlledAct, IsControlledChunk}
use Rattle.dcsctp_spec_lemmas.specs.spec.endpoint.Endpoint.{Endpoint, Core, closed, cookie_wait, cookie_echoed, open_in}
use Rattle.dcsctp_spec_lemmas.specs.spec.endpoint.Outcome.{Outcome, quiet, sends, fits}
use Rattle.dcsctp_spec_lemmas.specs.spec.Packet.{Content, init, init_ack, cookie_echo, cookie_ack, re_config, abort, shutdown, shutdown_ack, shutdown_complete, plain, Emission, content_of_chunk}
use Rattle.dcsctp_spec_lemmas.specs.types.Settings.{SameOptions}
use Rattle.dcsctp_spec_lemmas.specs.types.Snapshot.{Snapshot, has_verification_tags, allows_zero_checksum, is_valid_send_part, is_valid_received_part, is_valid_by_state, is_valid_snapshot}
use Rattle.dcsctp_spec_lemmas.specs.spec.HandoverInputs.{inputs_of_snapshot, inputs_of_restore}
use Rattle.dcsctp_spec_lemmas.specs.spec.Soundness.{UsesOwnMethod, IsSoundCore, IsSound}
use Rattle.dcsctp_spec_laws.specs.SoundnessLaws.{CallsKeepSoundness}
use Rattle.dcsctp_spec_lemmas.specs.spec.endpoint.Turn.{Input, arrival, refusal, packet_begins, chunk_input, packet_ends, act_input, user_sets, user_sends, user_resets, user_takes, timer_expires, time_passes, restores, has_data_chunk, ContentTurn, ActTurn}
use Rattle.dcsctp_spec_lemmas.specs.spec.association.Acts.{Act, connect, t1_expires, shut_down, step_of_shutdown, shutdown_repeats, abort_with, hands_over, flushes, request_again, request_renewed}
use Rattle.dcsctp_spec_lemmas.specs.types.declared.association.Pair.{Pair}
use Rattle.dcsctp_spec_lemmas.specs.types.declared.options.Options.{Options}
use Rattle.dcsctp_spec_lemmas.specs.types.declared.snapshot.HandoverCapabilities.{HandoverCapabilities}
use Rattle.dcsctp_spec_lemmas.specs.types.declared.snapshot.HandoverSocketState.TheVariants as states
use Rattle.dcsctp_spec_lemmas.specs.types.declared.snapshot.HandoverSocketState.{HandoverSocketState}
use Rattle.dcsctp_spec_lemmas.specs.types.declared.word.Word.TheVariants.{U32}
use Rattle.dcsctp_spec_lemmas.specs.types.declared.word.Word.{Word}
use Rattle.dcsctp_spec_lemmas.specs.spec.queues.Transfer.{Transfer}
use Rattle.dcsctp_spec_lemmas.specs.spec.endpoint.HandshakeOutcomes.{pair_from, connect_outcome, awaits_init_ack, init_emission}
use Rattle.dcsctp_spec_lemmas.specs.spec.endpoint.OwnTimers.{OwnTimer, repeating_act, timer_act, acknowledgement_delay, retransmission, heartbeat_interval, heartbeat_timeout, reconfiguration}
use Rattle.dcsctp_spec_lemmas.specs.spec.endpoint.ReconfigurationOutcomes.{reset_again, is_renewed}
use Rattle.dcsctp_spec_lemmas.specs.spec.Reconfiguration.{RequestedReset}
use Rattle.dcsctp_spec_lemmas.specs.spec.endpoint.RestoreOutcomes.{capabilities_restored, restored_outcome}
use Rattle.dcsctp_spec_lemmas.specs.types.Setting.{Setting}
use Rattle.dcsctp_spec_lemmas.specs.spec.endpoint.SettingOutcomes.{setting_outcome}
use Rattle.dcsctp_spec_lemmas.specs.wire.Content.{ChunkContent, data_chunk, init_chunk, init_ack_chunk, sack_chunk, heartbeat_chunk, heartbeat_ack_chunk, abort_chunk, shutdown_chunk, shutdown_ack_chunk, error_chunk, cookie_echo_chunk, cookie_ack_chunk, shutdown_complete_chunk, i_data_chunk, re_config_chunk, forward_tsn_chunk, i_forward_tsn_chunk, unknown_chunk}
use Rattle.dcsctp_spec_lemmas.specs.wire.ReadsBack.{HasMinima}
use Rattle.std.proofs.Common.{◌≡◌, ◌≤◌, ℕ, Bool, true, false, cond, eqb, not, ◌&&◌, List, [], ◌∷◌, inl, inr, refl, sym, subst, ap, arith}
use Rattle.std.proofs.lemmas.Bool.Decides.{nat_tests}
use Rattle.std.specs.List.{AllByRecursion}

-- no tag of the snapshot is 0
abbrev pub SaysTags : Snapshot → Type 0
SaysTags state = (1 ≤ state.my_verification_tag) × (1 ≤ state.peer_verification_tag)

-- what holds of an outcome's endpoint
abbrev SoundAfter : Outcome → Type 0
SoundAfter o = IsSound o.after

-- ---- the options stay, but for the longest message

longest_sound : (p : Options) (n : ℕ) (core : Core) → IsSoundCore p core → IsSoundCore (record p { max_message_size = n }) core
longest_sound p n closed h = tt
longest_sound p n (cookie_wait my) h = h
longest_sound p n (cookie_echoed my held cookie) h = (h.0, record { tag_is_not_zero = h.1.tag_is_not_zero; method = h.1.method })
longest_sound p n (open_in phase my held) h = (h.0, record { tag_is_not_zero = h.1.tag_is_not_zero; method = h.1.method })

same_sound : (p q : Options) (core : Core) → SameOptions p q → IsSoundCore p core → IsSoundCore q core
same_sound p q core same h = subst (λ (x : Options). IsSoundCore x core) (sym same) (longest_sound p q.max_message_size core h)

-- a turn that is one of the association
controlled_sound : (e : Endpoint) (o : Outcome) (core : Core) → o.after.core ≡ core → SameOptions e.options o.after.options → IsSoundCore e.options core → SoundAfter o
controlled_sound e o core is same h = subst (IsSoundCore o.after.options) (sym is) (same_sound e.options o.after.options core same h)

by_act : (e : Endpoint) (act : Act) (o : Outcome) → IsOtherAct act → IsControlledAct e act o → IsSound e → SoundAfter o
by_act e act o other turn h = controlled_sound e o _ turn.1.core turn.1.options (act_sound e.options e.core act turn.0 other h)

by_chunk : (e : Endpoint) (tag : ℕ) (content : Content) (o : Outcome) → SaysTag content → IsControlledChunk e tag content o → IsSound e → SoundAfter o
by_chunk e tag content o said turn h =
    controlled_sound e o turn.0.core turn.2.core turn.2.options
    (subst (λ (c : _). IsSoundCore e.options c.core) (sym turn.1.2) (chunk_sound e.options e.core tag content turn.1.0 said h))

-- ---- connect

emits_sound : (b : Bool) (e : Endpoint) (words : List Word) (emission : Emission) → IsSound e → SoundAfter (cond b (sends e words [] emission) (quiet e words []))
emits_sound true e words emission h = h
emits_sound false e words emission h = h

connect_sound : (e : Endpoint) (core : Core) (word next : ℕ) → IsSound e → SoundAfter (connect_outcome e core word next)
connect_sound e closed word next h =
    let mine : Pair = pair_from word next in
    let tag : 1 ≤ mine.tag = omega arith in
    emits_sound (fits (awaits_init_ack e mine) (init_emission e mine)) (awaits_init_ack e mine) (U32 word ∷ U32 next ∷ []) (init_emission e mine) tag
connect_sound e (cookie_wait my) word next h = h
connect_sound e (cookie_echoed my held cookie) word next h = h
connect_sound e (open_in phase my held) word next h = h

-- ---- a restore

restored_method : (is_without : Bool) (p : Options) (given : HandoverCapabilities) → given.zero_checksum ≡ is_without → UsesOwnMethod p (capabilities_restored p given)
restored_method true p given is = inr (ap (λ (b : Bool). cond b p.zero_checksum_alternate_error_detection_method (record { 0 = 0 })) is)
restored_method false p given is = inl (ap (λ (b : Bool). (cond b p.zero_checksum_alternate_error_detection_method (record { 0 = 0 })).0) is)

restored_sound : (e : Endpoint) (state : Snapshot) (transfer : Transfer) → SaysTags state → SoundAfter (restored_outcome e state transfer)
restored_sound e state transfer said =
    (said.0, record { tag_is_not_zero = said.1; method = restored_method state.capabilities.zero_checksum e.options state.capabilities refl })

-- ---- every turn

-- what may come: no announced tag is 0
abbrev pub MaySound : Input → Type 0
MaySound (chunk_input tag content) = SaysTag content
MaySound (restores state) = SaysTags state
MaySound input = Unit {0}

chunk_turn_sound : (e : Endpoint) (tag : ℕ) (content : Content) (o : Outcome) → SaysTag content → ContentTurn e tag content o → IsSound e → SoundAfter o
chunk_turn_sound e tag (init theirs) o said turn h =
    controlled_sound e o e.core (init_leaves_association e theirs o turn) (content_keeps_options e tag (init theirs) o turn) h
chunk_turn_sound e tag (init_ack theirs cookie) o said turn h = by_chunk e tag (init_ack theirs cookie) o said (init_ack_controlled e tag theirs cookie o turn) h
chunk_turn_sound e tag (cookie_echo cookie) o said turn h = by_chunk e tag (cookie_echo cookie) o said (cookie_echo_controlled e tag cookie o turn) h
chunk_turn_sound e tag cookie_ack o said turn h = by_chunk e tag cookie_ack o said (cookie_ack_controlled e tag o turn) h
chunk_turn_sound e tag (re_config parameters) o said turn h = by_chunk e tag (re_config parameters) o said (reset_controlled e tag parameters o turn) h
chunk_turn_sound e tag (abort reflected causes) o said turn h = by_chunk e tag (abort reflected causes) o said (abort_controlled e tag reflected causes o turn) h
chunk_turn_sound e tag (shutdown tsn) o said turn h = by_chunk e tag (shutdown tsn) o said (shutdown_controlled e tag tsn o turn) h
chunk_turn_sound e tag shutdown_ack o said turn h = by_chunk e tag shutdown_ack o said (shutdown_ack_controlled e tag o turn) h
chunk_turn_sound e tag (shutdown_complete reflected) o said turn h = by_chunk e tag (shutdown_complete reflected) o said (shutdown_complete_controlled e tag reflected o turn) h
chunk_turn_sound e tag (plain chunk) o said turn h = by_chunk e tag (plain chunk) o said (plain_controlled e tag chunk o turn) h

act_turn_sound : (e : Endpoint) (act : Act) (o : Outcome) → ActTurn e act o → IsSound e → SoundAfter o
act_turn_sound e connect o turn h = subst SoundAfter (sym turn.2) (connect_sound e e.core turn.0 turn.1 h)
act_turn_sound e (t1_expires again) o turn h = by_act e (t1_expires again) o tt (acts_are_controlled e (t1_expires again) o turn) h
act_turn_sound e shut_down o turn h = by_act e shut_down o tt (acts_are_controlled e shut_down o turn) h
act_turn_sound e step_of_shutdown o turn h = by_act e step_of_shutdown o tt (acts_are_controlled e step_of_shutdown o turn) h
act_turn_sound e shutdown_repeats o turn h = by_act e shutdown_repeats o tt (acts_are_controlled e shutdown_repeats o turn) h
act_turn_sound e (abort_with reason) o turn h = by_act e (abort_with reason) o tt (acts_are_controlled e (abort_with reason) o turn) h
act_turn_sound e hands_over o turn h = by_act e hands_over o tt (acts_are_controlled e hands_over o turn) h
act_turn_sound e flushes o turn h = by_act e flushes o tt (acts_are_controlled e flushes o turn) h
act_turn_sound e (request_again reset) o turn h = by_act e (request_again reset) o tt (acts_are_controlled e (request_again reset) o turn) h
act_turn_sound e (request_renewed reset) o turn h = by_act e (request_renewed reset) o tt (acts_are_controlled e (request_renewed reset) o turn) h

-- the act of a timer isn't connect
repeating_is_other : (is_new : Bool) (reset : RequestedReset) → IsOtherAct (repeating_act is_new reset)
repeating_is_other false reset = tt
repeating_is_other true reset = tt

timer_is_other : (e : Endpoint) (timer : OwnTimer) → IsOtherAct (timer_act e timer)
timer_is_other e acknowledgement_delay = tt
timer_is_other e retransmission = tt
timer_is_other e heartbeat_interval = tt
timer_is_other e heartbeat_timeout = tt
timer_is_other e reconfiguration = repeating_is_other (is_renewed e e.outstanding) (reset_again e.outstanding)

setting_sound : (e : Endpoint) (setting : Setting) → IsSound e → SoundAfter (setting_outcome e setting)
setting_sound e setting h = controlled_sound e (setting_outcome e setting) e.core refl refl h

abbrev pub KeepsSound : Endpoint → Transition → Type 0
KeepsSound e t = IsSound e → SoundAfter t.outcome

pub turn_sound : (e : Endpoint) (input : Input) (t : Transition) → MaySound input → IsTurn e input t → KeepsSound e t
turn_sound e arrival t may turn h = subst SoundAfter (sym turn.comes) h
turn_sound e (refusal text) t may turn h = subst SoundAfter (sym turn.comes) h
turn_sound e (packet_begins contents) t may turn h =
    elim (begin_stands e e.core (has_data_chunk e.options.follow_rfc contents) t.outcome refl turn.comes) [ inl rests ↦ subst SoundAfter (sym rests) h | inr acts ↦ by_act e shutdown_repeats t.outcome tt acts h ]
turn_sound e (chunk_input tag content) t may turn h = chunk_turn_sound e tag content t.outcome may turn.comes h
turn_sound e packet_ends t may turn h = by_act e flushes t.outcome tt (flushed_act e t.outcome (end_at e e.queues.transfer t.outcome turn.comes)) h
turn_sound e (act_input act) t may turn h = act_turn_sound e act t.outcome turn.comes h
turn_sound e (user_sets setting) t may turn h = subst SoundAfter (sym turn.comes) (setting_sound e setting h)
turn_sound e (user_sends messages) t may turn h = by_act e flushes t.outcome tt (flushed_act e t.outcome (send_at e messages t.outcome turn.comes)) h
turn_sound e (user_resets ids) t may turn h = by_act e flushes t.outcome tt (flushed_act e t.outcome (resets_at e ids t.outcome turn.comes)) h
turn_sound e user_takes t may turn h = by_act e flushes t.outcome tt (flushed_act e t.outcome (take_at e e.queues.transfer t.outcome turn.comes)) h
turn_sound e (timer_expires timer) t may turn h = by_act e (timer_act e timer) t.outcome (timer_is_other e timer) (timer_controlled e timer t.outcome turn.comes) h
turn_sound e (time_passes moment) t may turn h = subst SoundAfter (sym turn.comes) h
turn_sound e (restores state) t may turn h =
    elim (restore_stands e state t.outcome turn.comes) [
      | inl rests ↦ subst SoundAfter (sym rests) h
      | inr restored ↦ subst SoundAfter (sym restored.is) (restored_sound e state restored.transfer may)
    ]

-- ---- every call

chunk_says : (chunk : ChunkContent) → HasMinima chunk → SaysTag (content_of_chunk chunk)
chunk_says (data_chunk chunk) minima = tt
chunk_says (init_chunk chunk) minima = tt
chunk_says (init_ack_chunk chunk) minima = minima.tag_is_not_zero
chunk_says (sack_chunk chunk) minima = tt
chunk_says (heartbeat_chunk parameters) minima = tt
chunk_says (heartbeat_ack_chunk parameters) minima = tt
chunk_says (abort_chunk reflected causes) minima = tt
chunk_says (shutdown_chunk tsn) minima = tt
chunk_says shutdown_ack_chunk minima = tt
chunk_says (error_chunk causes) minima = tt
chunk_says (cookie_echo_chunk cookie) minima = tt
chunk_says cookie_ack_chunk minima = tt
chunk_says (shutdown_complete_chunk reflected) minima = tt
chunk_says (i_data_chunk chunk) minima = tt
chunk_says (re_config_chunk parameters) minima = tt
chunk_says (forward_tsn_chunk tsn streams) minima = tt
chunk_says (i_forward_tsn_chunk tsn streams) minima = tt
chunk_says (unknown_chunk chunk_type flags value) minima = tt

pub these_may_come : MayCome MaySound
these_may_come =
    record {
      arrives = tt;
      refuses = λ text. tt;
      begins = λ contents. tt;
      is_read = λ tag chunk minima. chunk_says chunk minima;
      ends = tt;
      connects = tt;
      aborts = λ reason. tt;
      shuts_down = tt;
      repeats = tt;
      expires = λ again. tt;
      flushed = tt;
      sets = λ setting. tt;
      sends = λ messages. tt;
      resets = λ ids. tt;
      takes = tt;
      hands_over = tt;
      own_expires = λ timer. tt;
      passes = λ moment. tt;
    }

pub all_sound : (e : Endpoint) (ts : List Transition) → AlongTurns KeepsSound e ts → IsSound e → IsSound (after_all e ts)
all_sound e [] along h = h
all_sound e (t ∷ ts) along h = all_sound t.outcome.after ts along.1 (along.0 h)

-- A valid snapshot of a connected socket has both tags.
first_of : (a b : Bool) → a && b ≡ true → a ≡ true
first_of true b is = refl
first_of false b is = absurd (cc)

both_tags : (m n : ℕ) → not (eqb m 0) && not (eqb n 0) ≡ true → (1 ≤ m) × (1 ≤ n)
both_tags m n is = (grind (arith, nat_tests), grind (arith, nat_tests))

snapshot_says : (p : Options) (connection : HandoverSocketState) (state : Snapshot) → is_valid_by_state connection p state ≡ true
    → AllByRecursion MaySound (inputs_of_snapshot connection state)
snapshot_says p states.Closed state valid = tt
snapshot_says p states.Connected state valid = (
  both_tags state.my_verification_tag state.peer_verification_tag (first_of (has_verification_tags state) (allows_zero_checksum p state.capabilities)
      (first_of _ (is_valid_send_part state.tx) (first_of _ (is_valid_received_part state.rx) valid))),
  (tt, tt),
)

pub restore_says : (p : Options) (core : Core) (state : Snapshot) → is_valid_snapshot p state ≡ true → AllByRecursion MaySound (inputs_of_restore core state)
restore_says p closed state valid = snapshot_says p state.socket_state state valid
restore_says p (cookie_wait my) state valid = tt
restore_says p (cookie_echoed my held cookie) state valid = tt
restore_says p (open_in phase my held) state valid = tt

pub calls_keep_soundness : CallsKeepSoundness
calls_keep_soundness =
    record {
      input = λ e bytes turns is h. all_sound e turns (input_along_where KeepsSound MaySound these_may_come turn_sound e bytes turns is) h;
      calls = λ e call turns is h. all_sound e turns (call_along KeepsSound MaySound these_may_come turn_sound e call turns is) h;
      restores = λ e state turns valid is h.
          all_sound e turns (turns_along KeepsSound MaySound these_may_come turn_sound e (inputs_of_restore e.core state) turns (restore_says e.options e.core state valid) is) h;
    }

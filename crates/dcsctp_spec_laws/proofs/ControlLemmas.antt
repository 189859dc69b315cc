-- The turns of an endpoint are turns of its association.
use Rattle.std.proofs.Common.{◌≡◌, ◌≤◌, ℕ, Bool, true, false, cond, List, [], ◌∷◌, ◌⊎◌, inl, inr, refl, sym, subst, ap, arith}
use Rattle.std.proofs.lemmas.Bool.Decides.{nat_tests}
use Rattle.dcsctp_spec_lemmas.specs.wire.Spelling.{other_bytes}
use Rattle.dcsctp_spec_lemmas.specs.types.Settings.{packet_size_limit, IsValid}
use Rattle.dcsctp_spec_lemmas.specs.types.declared.association.Pair.{Pair}
use Rattle.dcsctp_spec_lemmas.specs.types.declared.association.Held.{Held}
use Rattle.dcsctp_spec_lemmas.specs.types.declared.word.Word.{Word}
use Rattle.dcsctp_spec_lemmas.specs.types.declared.word.Word.TheVariants.{U32}
use Rattle.dcsctp_spec_lemmas.specs.spec.Cookie.{cookie_bytes}
use Rattle.dcsctp_spec_lemmas.specs.spec.Packet.{Introduction, Content, init, init_ack, cookie_echo, cookie_ack, re_config, abort, shutdown, shutdown_ack, shutdown_complete, plain}
use Rattle.dcsctp_spec_lemmas.specs.spec.endpoint.Endpoint.{Endpoint, Core, closed, cookie_wait, cookie_echoed, open_in, established, shutdown_pending, shutdown_sent, shutdown_received, shutdown_ack_sent, with_secret, secret_with}
use Rattle.dcsctp_spec_lemmas.specs.spec.endpoint.Outcome.{Outcome, still, count_up, fits, to_peer, emits, answering, drawing}
use Rattle.dcsctp_spec_lemmas.specs.spec.endpoint.Following.{next_chunk}
use Rattle.dcsctp_spec_lemmas.specs.spec.endpoint.Event.{sent}
use Rattle.dcsctp_spec_lemmas.specs.types.declared.options.Options.{Options}
use Rattle.dcsctp_spec_lemmas.specs.spec.endpoint.Turn.{BeginTurn}
use Rattle.dcsctp_spec_lemmas.specs.spec.endpoint.HandshakeOutcomes.{pair_from, renewed_pair, renewed_pair_outcome, cookie_for, init_ack_for, init_ack_emission, answer_outcome, init_outcome}
use Rattle.dcsctp_spec_lemmas.specs.spec.association.Effect.{Change, Effect, draws, no_change, emitted_alone}
use Rattle.dcsctp_spec_lemmas.specs.spec.association.Choices.{Choices}
use Rattle.dcsctp_spec_lemmas.specs.spec.association.HandshakeChanges.{IsCookieOf}
use Rattle.dcsctp_spec_lemmas.specs.spec.association.Acts.{act_change, connect, t1_expires, shut_down, step_of_shutdown, shutdown_repeats, abort_with, hands_over, flushes, request_again, request_renewed}
use Rattle.dcsctp_spec_lemmas.specs.spec.association.Controlled.{IsControlled, IsControlledChunk, IsControlledAct}
use Rattle.dcsctp_spec_lemmas.specs.spec.CookieFits.{FitsPair}
use Rattle.dcsctp_spec_laws.specs.TurnLaws.{FitsOwn, FitsAnswer, ChunksAreControlled, ActsAreControlled, StandsBefore}
use Rattle.dcsctp_spec_laws.proofs.DataLemmas.{flushed_act, flush_turn_at}
use Rattle.dcsctp_spec_laws.proofs.PlainLemmas.{plain_controlled}
use Rattle.dcsctp_spec_laws.proofs.ResetLemmas.{reset_controlled}
use Rattle.dcsctp_spec_lemmas.proofs.CookieLemmas.{names_read_back}
use Rattle.dcsctp_spec_lemmas.proofs.ControlHandshake.{choices_of, ControlledAt, still_controlled, init_ack_controlled, cookie_ack_controlled, abort_controlled, connect_controlled}
use Rattle.dcsctp_spec_laws.proofs.ControlEnds.{aborting_controlled, hand_over_controlled}
use Rattle.dcsctp_spec_laws.proofs.HeardShutdownLemmas.{shutdown_controlled}
use Rattle.dcsctp_spec_laws.proofs.ShutdownLemmas.{step_controlled, shut_down_controlled, shutdown_ack_controlled, shutdown_complete_controlled, t2_again_controlled, repeated_controlled}
use Rattle.dcsctp_spec_laws.proofs.TimerLemmas.{t1_again_controlled, t1_gives_up_controlled}
use Rattle.dcsctp_spec_lemmas.proofs.ControlEcho.{cookie_echo_controlled}
use Rattle.dcsctp_spec_lemmas.proofs.OneAnswerLemmas.{init_by, answering_controlled}

-- ---- an INIT

drawn_fits : (word next : ℕ) → FitsPair (pair_from word next)
drawn_fits word next = record { tag_is_not_zero = omega arith; tag = omega arith; first_tsn = omega arith }

renewed_fits : (e : Endpoint) (word : ℕ) → FitsPair (renewed_pair e word)
renewed_fits e word = record { tag_is_not_zero = omega arith; tag = omega arith; first_tsn = omega arith }

is_cookie : (e : Endpoint) (theirs : Introduction) (mine : Pair) (tie : ℕ) → FitsAnswer e theirs → FitsPair mine
    → IsCookieOf theirs mine (cookie_bytes (cookie_for e.moment theirs mine tie))
is_cookie e theirs mine tie h mine_fits =
    (_, names_read_back (cookie_for e.moment theirs mine tie) (record { maker = mine_fits; addressee = h.pair; offer = h.offer }), refl, refl, refl)

-- a packet of one chunk, where it fits
one_packet : (b : Bool) (e : Endpoint) (words : List Word) (with_checksum : Bool) (tag : ℕ) (content : Content) (core : Core) → e.core ≡ core
    → IsControlled e (cond b (record {
      words = words;
      effects = [];
      after = record e { counts = record e.counts { packets_sent = count_up e.counts.packets_sent } };
      events = sent (record { with_checksum = with_checksum; packet = record { tag = tag; contents = content ∷ [] } }) ∷ [];
      following = next_chunk;
    }) (record { words = words; effects = []; after = e; events = []; following = next_chunk })) (record { core = core; effects = emitted_alone b tag content; following = next_chunk })
one_packet true e words with_checksum tag content core is = record { core = is; options = refl; observations = refl; effects = refl; following = refl }
one_packet false e words with_checksum tag content core is = record { core = is; options = refl; observations = refl; effects = refl; following = refl }

-- what is drawn beside it leaves no sign
pub drawing_controlled : (e : Endpoint) (o : Outcome) (core : Core) (pair : Pair) (effects : List Effect)
    → IsControlled e o (record { core = core; effects = effects; following = next_chunk }) → IsControlled e (drawing pair o) (record { core = core; effects = draws pair ∷ effects; following = next_chunk })
drawing_controlled e o core pair effects h =
    record { core = h.core; options = h.options; observations = h.observations; effects = ap (λ (es : List Effect). draws pair ∷ es) h.effects; following = h.following }

pub answered : (e : Endpoint) (tag : ℕ) (theirs : Introduction) (mine : Pair) (tie : ℕ) (words : List Word) (core : Core) → e.core ≡ core
    → IsControlled e (answer_outcome e theirs words mine tie) (record { core = core; effects = emitted_alone (fits e (init_ack_emission e theirs mine tie)) theirs.pair.tag (init_ack_for e theirs mine tie); following = next_chunk })
answered e tag theirs mine tie words core is =
    one_packet (fits e (init_ack_emission e theirs mine tie)) e words (init_ack_emission e theirs mine tie).with_checksum theirs.pair.tag (init_ack_for e theirs mine tie) core is

renewed : (e : Endpoint) (tag : ℕ) (theirs : Introduction) (word : ℕ) (core : Core) → e.core ≡ core → FitsAnswer e theirs
    → IsCookieOf theirs (renewed_pair e word) (cookie_bytes (cookie_for e.moment theirs (renewed_pair e word) e.tie))
    × IsControlled e (renewed_pair_outcome e theirs word)
    (record { core = core; effects = draws (renewed_pair e word) ∷ emitted_alone (fits e (init_ack_emission e theirs (renewed_pair e word) e.tie)) theirs.pair.tag (init_ack_for e theirs (renewed_pair e word) e.tie); following = next_chunk })
renewed e tag theirs word core is h = (
  is_cookie e theirs (renewed_pair e word) e.tie h (renewed_fits e word),
  drawing_controlled e _ core (renewed_pair e word) _
      (answered e tag theirs (renewed_pair e word) e.tie (U32 word ∷ []) core is),
)

-- The secret leaves no sign either.
pub secret_controlled : (e : Endpoint) (mine : Pair) (o : Outcome) (change : Change) → IsControlled (with_secret e mine) o change → IsControlled e o change
secret_controlled e mine o change h =
    record { core = h.core; options = h.options; observations = h.observations; effects = h.effects; following = h.following }

-- A SHUTDOWN ACK fits every packet.
ack_fits : (e : Endpoint) (held : Held) → IsValid e.options → fits e (to_peer held shutdown_ack) ≡ true
unfolding other_bytes
ack_fits e held valid = let least : 32 ≤ packet_size_limit e.options = valid.least_size in grind (arith, nat_tests)

pub ack_controlled : (e : Endpoint) (held : Held) (core : Core) → e.core ≡ core → IsValid e.options
    → IsControlled e (emits e [] (to_peer held shutdown_ack)) (record { core = core; effects = emitted_alone true held.peer.tag shutdown_ack; following = next_chunk })
ack_controlled e held core is valid =
    subst (λ (b : Bool). IsControlled e (emits e [] (to_peer held shutdown_ack)) (record { core = core; effects = emitted_alone b held.peer.tag shutdown_ack; following = next_chunk })) (ack_fits e held valid)
    (one_packet (fits e (to_peer held shutdown_ack)) e [] (to_peer held shutdown_ack).with_checksum held.peer.tag shutdown_ack core is)

-- the choices that such an INIT makes
abbrev renewing : Endpoint → Introduction → ℕ → Choices
renewing e theirs word =
    choices_of e (renewed_pair e word) (cookie_bytes (cookie_for e.moment theirs (renewed_pair e word) e.tie)) (fits e (init_ack_emission e theirs (renewed_pair e word) e.tie))

init_controlled : (e : Endpoint) (tag : ℕ) (theirs : Introduction) (core : Core) (word next : ℕ) → e.core ≡ core → FitsOwn core → FitsAnswer e theirs
    → ControlledAt e core tag (init theirs) (init_outcome e theirs core word next)
init_controlled e tag theirs closed word next is own h = (
  _,
  (
    choices_of e (pair_from word next) (cookie_bytes (cookie_for e.moment theirs (pair_from word next) (secret_with e (pair_from word next)))) (fits e (init_ack_emission (with_secret e (pair_from word next)) theirs (pair_from word next) (secret_with e (pair_from word next)))),
    is_cookie e theirs (pair_from word next) (secret_with e (pair_from word next)) h (drawn_fits word next),
    refl,
  ),
  drawing_controlled e _ closed (pair_from word next) _
      (secret_controlled e (pair_from word next) _ _
      (answered (with_secret e (pair_from word next)) tag theirs (pair_from word next) (secret_with e (pair_from word next)) (U32 word ∷ U32 next ∷ []) closed is)),
)
init_controlled e tag theirs (cookie_wait my) word next is own h = (
  _,
  (choices_of e my (cookie_bytes (cookie_for e.moment theirs my e.secret)) (fits e (init_ack_emission e theirs my e.secret)), is_cookie e theirs my e.secret h own, refl),
  answered e tag theirs my e.secret [] (cookie_wait my) is,
)
init_controlled e tag theirs (cookie_echoed my held echoed) word next is own h = (
  _,
  (choices_of e my (cookie_bytes (cookie_for e.moment theirs my e.secret)) (fits e (init_ack_emission e theirs my e.secret)), is_cookie e theirs my e.secret h own, refl),
  answered e tag theirs my e.secret [] (cookie_echoed my held echoed) is,
)
init_controlled e tag theirs (open_in established my held) word next is own h =
    let r = renewed e tag theirs word (open_in established my held) is h in
    (_, (renewing e theirs word, r.0, refl), r.1)
init_controlled e tag theirs (open_in shutdown_pending my held) word next is own h =
    let r = renewed e tag theirs word (open_in shutdown_pending my held) is h in
    (_, (renewing e theirs word, r.0, refl), r.1)
init_controlled e tag theirs (open_in shutdown_sent my held) word next is own h =
    let r = renewed e tag theirs word (open_in shutdown_sent my held) is h in
    (_, (renewing e theirs word, r.0, refl), r.1)
init_controlled e tag theirs (open_in shutdown_received my held) word next is own h =
    let r = renewed e tag theirs word (open_in shutdown_received my held) is h in
    (_, (renewing e theirs word, r.0, refl), r.1)
init_controlled e tag theirs (open_in shutdown_ack_sent my held) word next is own h =
    (_, (renewing e theirs word, is_cookie e theirs (renewed_pair e word) e.tie h (renewed_fits e word), refl), ack_controlled e held (open_in shutdown_ack_sent my held) is h.options)

-- One that isn't answered leaves all as it is.
ignored_controlled : (e : Endpoint) (tag : ℕ) (theirs : Introduction) (o : Outcome) → ControlledAt e e.core tag (init theirs) o → ControlledAt e e.core tag (init theirs) (still e)
ignored_controlled e tag theirs o at = (no_change e.core, (record at.1.0 { may_answer = false }, at.1.1, refl), still_controlled e e.core refl)

counted_controlled : (e : Endpoint) (tag : ℕ) (theirs : Introduction) (o : Outcome) → ControlledAt e e.core tag (init theirs) o → ControlledAt e e.core tag (init theirs) (answering o)
counted_controlled e tag theirs o at = (at.0, at.1, answering_controlled e o at.0 at.2)

-- ---- every chunk

pub chunks_are_controlled : ChunksAreControlled
chunks_are_controlled e tag (init theirs) o turn fitting =
    let at = init_controlled e tag theirs e.core turn.0 turn.1 refl fitting.own fitting in
    subst (IsControlledChunk e tag (init theirs)) (sym turn.2)
    (init_by (IsControlledChunk e tag (init theirs)) e theirs turn.0 turn.1 (ignored_controlled e tag theirs _ at) (counted_controlled e tag theirs _ at))
chunks_are_controlled e tag (init_ack theirs cookie) o turn fitting = init_ack_controlled e tag theirs cookie o turn
chunks_are_controlled e tag (cookie_echo cookie) o turn fitting = cookie_echo_controlled e tag cookie o turn
chunks_are_controlled e tag cookie_ack o turn fitting = cookie_ack_controlled e tag o turn
chunks_are_controlled e tag (re_config parameters) o turn fitting = reset_controlled e tag parameters o turn
chunks_are_controlled e tag (abort reflected causes) o turn fitting = abort_controlled e tag reflected causes o turn
chunks_are_controlled e tag (shutdown cumulative_tsn) o turn fitting = shutdown_controlled e tag cumulative_tsn o turn
chunks_are_controlled e tag shutdown_ack o turn fitting = shutdown_ack_controlled e tag o turn
chunks_are_controlled e tag (shutdown_complete reflected) o turn fitting = shutdown_complete_controlled e tag reflected o turn
chunks_are_controlled e tag (plain chunk) o turn fitting = plain_controlled e tag chunk o turn

-- ---- what comes before a packet's chunks

-- Nothing happens, or a SHUTDOWN is sent again.
pub begin_stands : (e : Endpoint) (core : Core) (has : Bool) (o : Outcome) → e.core ≡ core → BeginTurn e core has o → (o ≡ still e) ⊎ IsControlledAct e shutdown_repeats o
begin_stands e closed has o is turn = inl turn
begin_stands e (cookie_wait my) has o is turn = inl turn
begin_stands e (cookie_echoed my held cookie) has o is turn = inl turn
begin_stands e (open_in established my held) has o is turn = inl turn
begin_stands e (open_in shutdown_pending my held) has o is turn = inl turn
begin_stands e (open_in shutdown_sent my held) true o is turn = inr (repeated_controlled e my held o is turn)
begin_stands e (open_in shutdown_sent my held) false o is turn = inl turn
begin_stands e (open_in shutdown_received my held) has o is turn = inl turn
begin_stands e (open_in shutdown_ack_sent my held) has o is turn = inl turn

-- Such a SHUTDOWN leaves the association as it is.
pub repeated_keeps : (options : Options) (core : Core) (choices : Choices) → (act_change options core shutdown_repeats choices).core ≡ core
repeated_keeps options closed choices = refl
repeated_keeps options (cookie_wait my) choices = refl
repeated_keeps options (cookie_echoed my held cookie) choices = refl
repeated_keeps options (open_in established my held) choices = refl
repeated_keeps options (open_in shutdown_pending my held) choices = refl
repeated_keeps options (open_in shutdown_sent my held) choices = refl
repeated_keeps options (open_in shutdown_received my held) choices = refl
repeated_keeps options (open_in shutdown_ack_sent my held) choices = refl

pub stands_before : (e : Endpoint) (has : Bool) (o : Outcome) → BeginTurn e e.core has o → StandsBefore e o
stands_before e has o turn = elim (begin_stands e e.core has o refl turn) [
  | inl rests ↦ record { change = no_change e.core; is = inl refl; controlled = subst (λ (x : Outcome). IsControlled e x (no_change e.core)) (sym rests) (still_controlled e e.core refl); keeps = refl }
  | inr acts ↦ record { change = act_change e.options e.core shutdown_repeats acts.0; is = inr (acts.0, refl); controlled = acts.1; keeps = repeated_keeps e.options e.core acts.0 }
]

-- ---- every act

pub acts_are_controlled : ActsAreControlled
acts_are_controlled e connect o turn = connect_controlled e o turn
acts_are_controlled e (t1_expires true) o turn = t1_again_controlled e o turn
acts_are_controlled e (t1_expires false) o turn = t1_gives_up_controlled e o turn
acts_are_controlled e shut_down o turn = shut_down_controlled e o turn
acts_are_controlled e step_of_shutdown o turn = step_controlled e o turn
acts_are_controlled e shutdown_repeats o turn = t2_again_controlled e o turn
acts_are_controlled e (abort_with reason) o turn = aborting_controlled e o reason turn
acts_are_controlled e hands_over o turn = hand_over_controlled e o turn
acts_are_controlled e flushes o turn = flushed_act e o (flush_turn_at e o turn)
acts_are_controlled e (request_again reset) o turn = turn
acts_are_controlled e (request_renewed reset) o turn = turn

-- What the receiver has shown outlasts turns of both sides, and so the streams of a reset are the same at both ends.
use Rattle.std.proofs.Common.{◌≡◌, ◌≢◌, ◌<◌, ◌-◌, ◌^◌, ◌⊎◌, inl, inr, ℕ, suc, Option, Some, List, [], ◌∷◌, ◌++◌, length, map, sym, ◌∙◌, ap, subst, arith}
use Rattle.dcsctp_spec_lemmas.specs.types.declared.options.Options.{Options}
use Rattle.dcsctp_spec_lemmas.specs.types.declared.association.Pair.{Pair}
use Rattle.dcsctp_spec_lemmas.specs.spec.Packet.{re_config, Emission}
use Rattle.dcsctp_spec_lemmas.specs.spec.Reconfiguration.{ResetParameter}
use Rattle.dcsctp_spec_lemmas.specs.spec.association.Effect.{Effect, performs, renews}
use Rattle.dcsctp_spec_lemmas.specs.spec.endpoint.BegunResets.{BegunReset, stream_field}
use Rattle.dcsctp_spec_lemmas.specs.spec.endpoint.Endpoint.{Endpoint}
use Rattle.dcsctp_spec_lemmas.specs.spec.endpoint.Event.{Event, incoming_stream_reset, packets_of_events}
use Rattle.dcsctp_spec_lemmas.specs.spec.endpoint.Outcome.{Outcome}
use Rattle.dcsctp_spec_lemmas.specs.spec.endpoint.ResetOutcomes.{first_reset_request}
use Rattle.dcsctp_spec_lemmas.specs.spec.endpoint.Turn.{Input, Turn}
use Rattle.dcsctp_spec_runs.specs.Past.{WasPerformed}
use Rattle.dcsctp_spec_runs.specs.World.{after_effects}
use Rattle.dcsctp_delivery_directions.specs.sending.Log.{Message}
use Rattle.dcsctp_delivery_directions.specs.sending.Places.{HasEntry}
use Rattle.dcsctp_delivery_directions.specs.directions.Directions.{Asking}
use Rattle.dcsctp_delivery_directions.proofs.directions.RequestCounts.{requests_are_sent}
use Rattle.dcsctp_delivery_sockets.specs.turns.Actions.{content_of_input, IsCall}
use Rattle.dcsctp_delivery_sockets.specs.turns.Asking.{Own, own_of, AsksFit, IsAsking, OutIs, AskingGrows}
use Rattle.dcsctp_delivery_sockets.specs.turns.Runs.{IsBetween, as_it_was, once_performed, once_refused, once_renewed}
use Rattle.dcsctp_delivery_sockets.specs.turns.Completing.{EndsOwn}
use Rattle.dcsctp_delivery_sockets.specs.turns.ToldResets.{IsReportedReset, ReportsResets}
use Rattle.dcsctp_delivery_sockets.proofs.turns.Completing.{completes_own}
use Rattle.dcsctp_delivery_sockets.proofs.turns.Telling.{entry_front}
use Rattle.dcsctp_delivery_sockets.specs.associations.Answered.{request_numbered, AreAnswered}
use Rattle.dcsctp_delivery_sockets.specs.associations.Ends.{Ends, SendingEnd, direction_of_ends, sender_key, AreHeard, WasNamed, AreSeen, Between, sending_side, receiving_side}
use Rattle.dcsctp_delivery_sockets.specs.associations.Laws.{CompletesPerformed, AsksLittle, ResetsWereSeen}
use Rattle.dcsctp_delivery_sockets.specs.associations.Reads.{Reading}
use Rattle.dcsctp_delivery_sockets.proofs.associations.AnsweringRests.{after_split}
use Rattle.dcsctp_delivery_sockets.proofs.associations.RequestNumbers.{same_place, newest_number, is_newest}
use Rattle.dcsctp_delivery_sockets.proofs.associations.Senders.{link_tag}

-- ---- requests that were begun

-- Each of the one is of the other.
abbrev pub RequestsStay : Asking → Asking → Type 0
RequestsStay old new = (begun : BegunReset) → HasEntry begun old.requests → HasEntry begun new.requests

-- So it is of each tag.
abbrev pub AllStay : (ℕ → SendingEnd) → (ℕ → SendingEnd) → Type 0
AllStay old new = (tag : ℕ) → tag ≢ 0 → RequestsStay (old tag).asking (new tag).asking

entry_behind : {A : Type 0} (entry : A) (more old : List A) → HasEntry entry old → HasEntry entry (more ++ old)
entry_behind entry [] old has = has
entry_behind entry (newest ∷ more) old has = inr (entry_behind entry more old has)

pub between_stays : (happened : List Effect) (old between : Asking) → IsBetween happened old between → RequestsStay old between
between_stays happened old _ as_it_was begun has = has
between_stays happened old _ (once_performed done) begun has = has
between_stays happened old _ (once_refused done) begun has = has
between_stays happened old _ (once_renewed newest earlier number is out next) begun has = inr has

pub grows_stays : (old new : Asking) → AskingGrows old new → RequestsStay old new
grows_stays old new grows begun has = subst (HasEntry begun) (sym grows.is) (entry_behind begun grows.more old.requests has)

-- Of none begun each is of any others.
pub nothing_stays : (old new : Asking) → old.requests ≡ [] → RequestsStay old new
nothing_stays old new none begun has = absurd (subst (HasEntry begun) none has)

-- ---- the sender

-- A request that the receiver has performed is of an association whose own tag isn't 0.
pub own_some : (ends : Ends) (e : Endpoint) (past : List Effect) (d : Endpoint) (their_past : List Effect) → AreAnswered ends e past d their_past → (my : Pair) (number : ℕ) → WasPerformed my number their_past → my.tag ≢ 0
own_some ends e past d their_past w my number has zero =
    let was = w.answers.joined my number has in
    was.1.some (sym was.1.tag_is ∙ ap (λ (p : Pair). p.tag) (was.1.my_is ∙ was.2) ∙ zero)

named_later : (sends later : ℕ → SendingEnd) (seen more : List (Event Emission)) (tag number : ℕ) → RequestsStay (sends tag).asking (later tag).asking → WasNamed sends seen tag number → WasNamed later (seen ++ more) tag number
named_later sends later seen more tag number stay named =
    record { begun = named.begun; has = stay named.begun named.has; number_is = named.number_is; told = entry_front (incoming_stream_reset named.begun.reset.streams) seen more named.told }

named_still : (sends later : ℕ → SendingEnd) (seen : List (Event Emission)) (tag number : ℕ) → RequestsStay (sends tag).asking (later tag).asking → WasNamed sends seen tag number → WasNamed later seen tag number
named_still sends later seen tag number stay named = record { begun = named.begun; has = stay named.begun named.has; number_is = named.number_is; told = named.told }

pub seen_still : (ends later : Ends) (e : Endpoint) (past : List Effect) (d : Endpoint) (their_past : List Effect) (seen : List (Event Emission)) → AreAnswered ends e past d their_past → AllStay ends.sends later.sends
    → AreHeard later.gets their_past (packets_of_events seen) → AreSeen ends d their_past seen → AreSeen later d their_past seen
seen_still ends later e past d their_past seen w stay heard shows =
    record {
      heard = heard;
      named = λ my number has. named_still ends.sends later.sends seen my.tag number (stay my.tag (own_some ends e past d their_past w my number has)) (shows.named my number has);
      renewable = shows.renewable;
    }

-- ---- the receiver

-- The request that is performed in this turn is one of these.
pub record IsNamedNow (sends : ℕ → SendingEnd) (input : Input) (my : Pair) (number : ℕ) : Type 0 where
  pub some : my.tag ≢ 0
  pub begun : BegunReset
  pub has : HasEntry begun (sends my.tag).asking.requests
  pub number_is : begun.number ≡ number
  pub parameters : List ResetParameter
  pub came : content_of_input input ≡ Some (re_config parameters)
  pub asked : first_reset_request parameters ≡ Some begun.reset

told_later : (d : Endpoint) (their_past : List Effect) (ends : Ends) (o : Outcome) (seen : List (Event Emission)) (streams : List ℕ) → AreSeen ends d their_past seen → IsReportedReset d o streams → HasEntry (incoming_stream_reset streams) (seen ++ o.events)
told_later d their_past ends o seen streams shows (inl now) = entry_behind (incoming_stream_reset streams) seen o.events now
told_later d their_past ends o seen streams shows (inr before) =
    entry_front (incoming_stream_reset streams) seen o.events (subst (λ (l : List ℕ). HasEntry (incoming_stream_reset l) seen) before.2 (shows.renewable before.0 before.1))

was_split : (my : Pair) (number : ℕ) (happened past : List Effect) → WasPerformed my number (after_effects happened past) → WasPerformed my number happened ⊎ WasPerformed my number past
was_split my number happened past (inl has) = elim (after_split (performs my number) happened past has) [ inl now ↦ inl (inl now) | inr before ↦ inr (inl before) ]
was_split my number happened past (inr has) = elim (after_split (renews my number) happened past has) [ inl now ↦ inl (inr now) | inr before ↦ inr (inr before) ]

pub seen_turn : (ends later : Ends) (e : Endpoint) (past : List Effect) (d : Endpoint) (their_past : List Effect) (seen : List (Event Emission)) (input : Input) (o : Outcome) → AreAnswered ends e past d their_past → AllStay ends.sends later.sends
    → AreHeard later.gets (after_effects o.effects their_past) (packets_of_events (seen ++ o.events)) → ReportsResets d input o → ((my : Pair) (number : ℕ) → WasPerformed my number o.effects → IsNamedNow ends.sends input my number)
    → AreSeen ends d their_past seen → AreSeen later o.after (after_effects o.effects their_past) (seen ++ o.events)
seen_turn ends later e past d their_past seen input o w stay heard tells now shows =
    record {
      heard = heard;
      named = λ my number has. elim (was_split my number o.effects their_past has) [
        | inl here ↦
            (let is = now my number here in
            record { begun = is.begun; has = stay my.tag is.some is.begun is.has; number_is = is.number_is; told = told_later d their_past ends o seen is.begun.reset.streams shows (tells.performed my number here is.parameters is.begun.reset is.came is.asked) })
        | inr before ↦ named_later ends.sends later.sends seen o.events my.tag number (stay my.tag (own_some ends e past d their_past w my number before)) (shows.named my number before)
      ];
      renewable = λ old is. told_later d their_past ends o seen old.reset.streams shows (tells.renewable old is);
    }

-- ---- a reset of ours that ends as performed

module _ (options : Options) (ends : Ends) (e : Endpoint) (past : List Effect) (d : Endpoint) (their_past : List Effect) (seen : List (Event Emission)) (w : AreAnswered ends e past d their_past)
    (shows : AreSeen ends d their_past seen) (fits : AsksFit (ends.firsts (sender_key e.core)) (own_of e) (ends.sends (sender_key e.core)).asking) (few : length (ends.sends (sender_key e.core)).asking.requests < 2 ^ 32 - 1)
    (input : Input) (o : Outcome) (completes_so : CompletesPerformed their_past o) (may : IsCall input) (turn : Turn e input o) where
  resets_shown : ResetsWereSeen seen o
  resets_shown my number streams has told = go (completes_so my number has)
    where
      own : EndsOwn e o my number
      own = completes_own e input o my number may turn has

      tag_is : sender_key e.core ≡ my.tag
      tag_is = link_tag e.core own.link own.linked ∙ ap (λ (p : Pair). p.tag) own.mine

      kept : IsAsking (ends.firsts my.tag) own.own (ends.sends my.tag).asking
      kept = subst (λ (f : Option Own). AsksFit (ends.firsts my.tag) f (ends.sends my.tag).asking) own.kept (subst (λ (t : ℕ). AsksFit (ends.firsts t) (own_of e) (ends.sends t).asking) tag_is fits)

      out : OutIs (Some number) own.own.again (ends.sends my.tag).asking
      out = subst (λ (n : Option ℕ). OutIs n own.own.again (ends.sends my.tag).asking) own.outstanding kept.out

      newest : BegunReset
      newest = record { number = number; reset = own.own.again }

      few_here : length (ends.sends my.tag).asking.requests < 2 ^ 32 - 1
      few_here = subst (λ (t : ℕ). length (ends.sends t).asking.requests < 2 ^ 32 - 1) tag_is few

      -- It isn't the 2^32nd.
      too_many : number ≡ request_numbered my.first_tsn (2 ^ 32 - 1) → ⊥
      too_many last =
          let mine = w.answers.mine_first own.link own.linked in
          let first : ends.firsts my.tag ≡ my.first_tsn = ap ends.firsts (sym (ap (λ (p : Pair). p.tag) own.mine)) ∙ mine ∙ ap (λ (p : Pair). p.first_tsn) own.mine in
          let long : length (ends.sends my.tag).asking.requests ≡ suc (length out.earlier) = ap (λ (l : List BegunReset). length l) out.is in
          let at : number ≡ request_numbered (ends.firsts my.tag) (length out.earlier) = newest_number (ends.firsts my.tag) newest out.earlier (ends.sends my.tag).asking.requests out.is kept.numbers in
          let same : request_numbered (ends.firsts my.tag) (length out.earlier) ≡ request_numbered (ends.firsts my.tag) (2 ^ 32 - 1) = sym at ∙ last ∙ ap (λ (n : ℕ). request_numbered n (2 ^ 32 - 1)) (sym first) in
          let few' = few_here in
          let place : length out.earlier ≡ 2 ^ 32 - 1 = same_place (ends.firsts my.tag) (length out.earlier) (2 ^ 32 - 1) same (omega (arith, few', long)) (omega arith) in
          omega (arith, place, long, few')

      go : WasPerformed my number their_past ⊎ (number ≡ request_numbered my.first_tsn (2 ^ 32 - 1)) → HasEntry (incoming_stream_reset (map stream_field streams)) seen
      go (inr last) = absurd (too_many last)
      go (inl was) =
          let named = shows.named my number was in
          let few' = few_here in
          let one : named.begun ≡ newest = is_newest (ends.firsts my.tag) newest out.earlier (ends.sends my.tag).asking.requests named.begun out.is kept.numbers (omega (arith, few')) named.has named.number_is in
          subst (λ (l : List ℕ). HasEntry (incoming_stream_reset l) seen) (ap (λ (b : BegunReset). b.reset.streams) one ∙ own.told streams told) named.told

-- This holds for each turn of the sender.
pub resets_were_seen : (seen : List (Event Emission)) (options : Options) (ends : Ends) (e : Endpoint) (queued : List Message) (past : List Effect) (packets : List Emission) (d : Endpoint) (their_past : List Effect) (reading : Reading) (input : Input) (o : Outcome)
    → Between options ends (sending_side e queued past packets) (receiving_side d their_past reading) → AreAnswered ends e past d their_past → AreSeen ends d their_past seen → AsksLittle packets → CompletesPerformed their_past o → IsCall input → Turn e input o
    → ResetsWereSeen seen o
resets_were_seen seen options ends e queued past packets d their_past reading input o h w shows little completes_so may turn =
    resets_shown options ends e past d their_past seen w shows h.asks few_now input o completes_so may turn
  where
    few_now : length (ends.sends (sender_key e.core)).asking.requests < 2 ^ 32 - 1
    few_now =
        let key : ℕ = sender_key e.core in
        let sent = requests_are_sent options (ends.firsts key) options.max_receiver_window_buffer_size (direction_of_ends (ends.sends key) (ends.gets key)) (h.runs key) in
        let went = h.sender.few_requests key in
        let few = little (ends.latest key) in
        omega (arith, sent, went, few)

-- Actions, one after another.
use Rattle.dcsctp_spec_lemmas.specs.types.declared.ends.AbortReason.TheVariants as reasons
use Rattle.std.proofs.Common.{◌≡◌, None, ℕ, Bool, true, false, cond, Option, List, [], ◌∷◌, ◌++◌, refl, sym, ◌∙◌, ap, subst, append_assoc, inl}
use Rattle.std.proofs.lemmas.List.{append-nil}
use Rattle.dcsctp_spec_lemmas.specs.types.declared.ends.AbortReason.{AbortReason}
use Rattle.dcsctp_spec_lemmas.specs.types.declared.word.Word.{Word}
use Rattle.dcsctp_spec_lemmas.specs.spec.endpoint.Endpoint.{Endpoint}
use Rattle.dcsctp_spec_lemmas.specs.spec.endpoint.Event.{Event, packets_of_events}
use Rattle.dcsctp_spec_lemmas.specs.spec.endpoint.Outcome.{Outcome, quiet, sends, emits, fits, behind}
use Rattle.dcsctp_spec_lemmas.specs.spec.Packet.{Content, Emission}
use Rattle.dcsctp_spec_lemmas.specs.types.queues.Messages.{MessageContent}
use Rattle.dcsctp_spec_lemmas.specs.spec.queues.Transfer.{EndpointQueues}
use Rattle.dcsctp_spec_lemmas.specs.spec.endpoint.EndOutcomes.{ended_outcome, end_of}
use Rattle.dcsctp_spec_lemmas.specs.spec.endpoint.FlushOutcomes.{Answer, FlushAnswers, flush_of}
use Rattle.dcsctp_theorem_sockets.proofs.Bursts.{packets_of_events-append, emits_core}
use Rattle.dcsctp_delivery_directions.specs.sending.Log.{Message}
use Rattle.dcsctp_delivery_directions.specs.sending.Flushes.{NoData, begun_reset_of}
use Rattle.dcsctp_delivery_directions.specs.directions.Directions.{Asking, asking_with}
use Rattle.dcsctp_delivery_sockets.specs.turns.Asking.{own_of, AsksFit}
use Rattle.dcsctp_delivery_sockets.specs.turns.Actions.{Ledger, ledger_of, Action, flushes, speaks, Actions, nothing, further, IsStaleFirst, NoneStale, NoEnd, ReportsTo, AreReports, Inside, inside, LeadsToLedger, MakesPackets, Becomes, ends, exchange_of}
use Rattle.dcsctp_spec_lemmas.specs.spec.association.Effect.{identity_of_core}
use Rattle.dcsctp_delivery_sockets.specs.turns.Reports.{AllReportSo, NoReports, IsCumulative}
use Rattle.dcsctp_delivery_sockets.specs.turns.Tags.{IsPeerTag}
use Rattle.dcsctp_delivery_sockets.proofs.turns.Begun.{grows_then, grows_not, grows_by, flush_fits}

-- where nothing is queued or read
abbrev pub Goes : Option Content → ℕ → Endpoint → Outcome → Type 0
Goes came to e o = Becomes None came to (λ queued. queued) (λ read. read) e o

-- the outcome that follows from what is inside, by actions
abbrev pub MakesTo : Option Content → ℕ → Inside → Outcome → Type 0
MakesTo came to old o = MakesPackets came to old (packets_of_events o.events) (inside o.after)

-- the same, with this below it
abbrev pub with_inside : EndpointQueues → Inside → Inside
with_inside below old = record old { queues = below }

-- a packet leaves the association
pub emits_link : (e : Endpoint) (words : List Word) (emission : Emission) → identity_of_core (emits e words emission).after.core ≡ identity_of_core e.core
emits_link e words emission = ap identity_of_core (emits_core e words emission)

-- and leaves what the socket keeps of its own requests
emits_own_by : (b : Bool) (e : Endpoint) (words : List Word) (emission : Emission) → own_of (cond b (sends e words [] emission) (quiet e words [])).after ≡ own_of e
emits_own_by true e words emission = refl
emits_own_by false e words emission = refl

pub emits_own : (e : Endpoint) (words : List Word) (emission : Emission) → own_of (emits e words emission).after ≡ own_of e
emits_own e words emission = emits_own_by (fits e emission) e words emission

module _ (came : Option Content) (to : ℕ) where
  pub joined : (old between new : Ledger) → Actions came to old between → Actions came to between new → Actions came to old new
  joined old between _ first nothing = first
  joined old between new first (further middle _ second last) = further middle new (joined old between middle first second) last

  pub both : (old between new : Inside) (packets later : List Emission) → MakesPackets came to old packets between → MakesPackets came to between later new → MakesPackets came to old (packets ++ later) new
  both old between new packets later first second = λ queued sent read tsn asking fit.
      let one : LeadsToLedger came to (ledger_of queued old.queues sent read asking) tsn between (exchange_of queued (sent ++ packets) read) = first queued sent read tsn asking fit in
      let two : LeadsToLedger came to (ledger_of queued between.queues (sent ++ packets) read one.asking) tsn new (exchange_of queued ((sent ++ packets) ++ later) read) = second queued (sent ++ packets) read tsn one.asking one.fits in
      subst (λ (s : List Emission). LeadsToLedger came to (ledger_of queued old.queues sent read asking) tsn new (exchange_of queued s read)) (append_assoc sent packets later)
      (record {
        asking = two.asking;
        grows = grows_then asking one.asking two.asking one.grows two.grows;
        fits = two.fits;
        actions = joined (ledger_of queued old.queues sent read asking) (ledger_of queued between.queues (sent ++ packets) read one.asking) (ledger_of queued new.queues ((sent ++ packets) ++ later) read two.asking) one.actions two.actions;
      })

  -- actions without a packet that begin no request
  pub made_of : (old : Inside) (new : EndpointQueues) (queued later : List Message) (sent : List Emission) (read taken : List MessageContent) (tsn : ℕ) (asking : Asking) → AsksFit tsn old.own asking
      → Actions came to (ledger_of queued old.queues sent read asking) (ledger_of later new sent taken asking)
      → LeadsToLedger came to (ledger_of queued old.queues sent read asking) tsn (with_inside new old) (exchange_of later (sent ++ []) taken)
  made_of old new queued later sent read taken tsn asking fit does =
      subst (λ (s : List Emission). LeadsToLedger came to (ledger_of queued old.queues sent read asking) tsn (with_inside new old) (exchange_of later s taken)) (sym (append-nil sent))
      (record { asking = asking; grows = grows_not asking; fits = fit; actions = does })

  -- one action without a packet
  pub action_of : (old : Inside) (new : EndpointQueues)
      → ((queued : List Message) (sent : List Emission) (read : List MessageContent) (asking : Asking) → Action came to (ledger_of queued old.queues sent read asking) (ledger_of queued new sent read asking))
      → MakesPackets came to old [] (with_inside new old)
  action_of old new does = λ queued sent read tsn asking fit.
      made_of old new queued queued sent read read tsn asking fit
      (further (ledger_of queued old.queues sent read asking) (ledger_of queued new sent read asking) nothing (does queued sent read asking))

  -- one action with a packet
  pub emission_of : (old : Inside) (new : EndpointQueues) (emission : Emission)
      → ((queued : List Message) (sent : List Emission) (read : List MessageContent) (tsn : ℕ) (asking : Asking) → AsksFit tsn old.own asking
      → Action came to (ledger_of queued old.queues sent read asking) (ledger_of queued new (sent ++ emission ∷ []) read asking))
      → MakesPackets came to old (emission ∷ []) (with_inside new old)
  emission_of old new emission does = λ queued sent read tsn asking fit.
      record {
        asking = asking;
        grows = grows_not asking;
        fits = fit;
        actions = further (ledger_of queued old.queues sent read asking) (ledger_of queued new (sent ++ emission ∷ []) read asking) nothing (does queued sent read tsn asking fit);
      }

  pub rests : (old : Inside) → MakesPackets came to old [] old
  rests old = λ queued sent read tsn asking fit. made_of old old.queues queued queued sent read read tsn asking fit nothing

  pub silent : (old : Inside) (packets : List Emission) → packets ≡ [] → MakesPackets came to old packets old
  silent old packets none = subst (λ (l : List Emission). MakesPackets came to old l old) (sym none) (rests old)

  pub spoken : (old : Inside) (emission : Emission) → NoData emission.packet.contents → IsStaleFirst emission.packet.contents → ReportsTo to (IsCumulative old.queues.transfer) emission → MakesPackets came to old (emission ∷ []) old
  spoken old emission no_data stale says = emission_of old old.queues emission (λ queued sent read tsn asking fit. speaks emission no_data stale says)

  pub flushed : (e : Endpoint) (draft : Emission) (answers : List Answer) → IsPeerTag e.core to → draft.packet.tag ≡ to → NoData draft.packet.contents → NoEnd draft.packet.contents → NoneStale draft.packet.contents
      → AllReportSo (IsCumulative e.queues.transfer) draft.packet.contents → FlushAnswers e draft answers → MakesTo came to (inside e) (flush_of e draft answers)
  flushed e draft answers at same no_data no_end stale says allowed = λ queued sent read tsn asking fit.
      record {
        asking = asking_with (begun_reset_of answers) asking;
        grows = grows_by (begun_reset_of answers) asking;
        fits = flush_fits tsn e draft answers asking allowed fit;
        actions =
            further (ledger_of queued e.queues sent read asking)
            (ledger_of queued (flush_of e draft answers).after.queues (sent ++ packets_of_events (flush_of e draft answers).events) read (asking_with (begun_reset_of answers) asking)) nothing
            (flushes e draft answers refl at same no_data no_end stale says allowed);
      }

  -- a packet, if it fits
  pub packet_if : (b : Bool) (e : Endpoint) (words : List Word) (emission : Emission) → MakesPackets came to (inside e) (emission ∷ []) (inside e) → MakesTo came to (inside e) (cond b (sends e words [] emission) (quiet e words []))
  packet_if true e words emission makes = makes
  packet_if false e words emission makes = rests (inside e)

  pub emitted : (e : Endpoint) (words : List Word) (emission : Emission) → NoData emission.packet.contents → IsStaleFirst emission.packet.contents → NoReports emission.packet.contents → MakesTo came to (inside e) (emits e words emission)
  emitted e words emission no_data stale silent = packet_if (fits e emission) e words emission (spoken (inside e) emission no_data stale (inl silent))

  -- a packet that reports nothing, if it fits
  pub silent_if : (b : Bool) (e : Endpoint) (words : List Word) (emission : Emission) → NoReports emission.packet.contents
      → AreReports to (λ tsn. ⊥) (packets_of_events (cond b (sends e words [] emission) (quiet e words [])).events)
  silent_if true e words emission silent = (inl silent, tt)
  silent_if false e words emission silent = tt

  -- after events without a packet
  pub makes_behind : (old : Inside) (words : List Word) (events : List (Event Emission)) (o : Outcome) → packets_of_events events ≡ [] → MakesTo came to old o → MakesTo came to old (behind words events o)
  makes_behind old words events o none makes =
      subst (λ (l : List Emission). MakesPackets came to old l (inside o.after)) (sym (packets_of_events-append events o.events ∙ ap (λ (l : List Emission). l ++ packets_of_events o.events) none)) makes

  -- an end after this, which keeps our requests
  pub ended : (e : Endpoint) (before : Outcome) (event : Event Emission) → packets_of_events (event ∷ []) ≡ [] → own_of before.after ≡ own_of e → AreReports to (λ tsn. ⊥) (packets_of_events before.events) → MakesTo came to (inside e) before → Goes came to e (ended_outcome before event)
  ended e before event none kept silent makes =
      let same : packets_of_events before.events ≡ packets_of_events (before.events ++ event ∷ []) =
      sym (packets_of_events-append before.events (event ∷ []) ∙ ap (λ (l : List Emission). packets_of_events before.events ++ l) none ∙ append-nil (packets_of_events before.events)) in
      ends refl (λ read. refl) (subst (AreReports to (λ tsn. ⊥)) same silent) (inside before.after) kept
      (subst (λ (l : List Emission). MakesPackets came to (inside e) l (inside before.after)) same makes) refl

  pub end_silent : (reason : AbortReason) → packets_of_events (end_of reason ∷ []) ≡ []
  end_silent reasons.CloseCalled = refl
  end_silent (reasons.Violation violation) = refl
  end_silent reasons.TooManyErrors = refl

-- Messages that are abandoned before a FORWARD-TSN, as the definitions say it.
use Rattle.std.proofs.Common.{◌≡◌, ◌∙◌, ℕ, zero, suc, ◌&&◌, nat_lt, Result, Ok, Err, Bool, true, false, Option, None, Some, List, [], ◌++◌, map, refl, ap, sym, subst, arith}
use Rattle.std.proofs.lemmas.Bool.Decides.{nat_tests}
use Rattle.std.proofs.lemmas.List.{append-nil}
use Rattle.std.specs.List.{AllByRecursion, flat_map}
use Rattle.std.specs.declared.alloc.AllocError.{AllocError}
use Rattle.dcsctp_send_retransmission.specs.api.declared.events.SocketEvent.{SocketEvent}
use Rattle.dcsctp_send_retransmission.specs.wire.Spelling.{chunk_bytes}
use Rattle.dcsctp_wire_build.specs.Building.{Building, bytes_remaining}
use Rattle.dcsctp_send_retransmission.specs.spec.endpoint.Event.{Event}
use Rattle.dcsctp_send_retransmission.specs.spec.Packet.{Plain, unworked, plain_out}
use Rattle.dcsctp_send_retransmission.specs.spec.queues.Abandoning.{GivesUpFirst, GivesUpAll}
use Rattle.dcsctp_send_retransmission.specs.spec.queues.Filling.{Stage, StageSteps, none, more}
use Rattle.dcsctp_send_retransmission.specs.spec.queues.NextItem.{is_abandonment_due}
use Rattle.dcsctp_send_retransmission.specs.spec.queues.Items.{Item, is_first_abandoned}
use Rattle.dcsctp_send_retransmission.specs.spec.queues.Retransmission.{RetransmissionState, outstanding_count}
use Rattle.dcsctp_send_retransmission.specs.spec.queues.SendQueue.{SendQueueState}
use Rattle.dcsctp_send_retransmission.specs.spec.queues.Transfer.{Transfer}
use Rattle.dcsctp_send_retransmission.specs.spec.endpoint.FlushOutcomes.{FitsPlain, where_fits, stage_of, next_forward, may_abandon, ForwardsIfAbandoned, GivesUpThenForwards, forward_made}
use Rattle.dcsctp_send_retransmission.proofs.spec_lemmas.TellingLemmas.{tells_abandoned}
use Rattle.dcsctp_send_retransmission.proofs.spec_lemmas.ToldLemmas.{behind_events, given_up_before}
use Rattle.dcsctp_send_retransmission.specs.send_queue.Telling.{contents}
use Rattle.dcsctp_send_retransmission.specs.GivingUp.{GivesUpDue, StopsGivingUp}
use Rattle.dcsctp_send_retransmission.specs.Sending.{KeepsAllFragments}
use Rattle.dcsctp_send_retransmission.specs.States.{stage}
use Rattle.dcsctp_send_retransmission.proofs.GivingUpLemmas.{gives_up_at}
use Rattle.dcsctp_send_retransmission.proofs.SendingLemmas.{keeps_refl, keeps_trans, gives_up_keeps}
use Rattle.dcsctp_transfer.specs.Forwarding.{PutsForward, MakesForwardTsn, AddsFirstOfAbandoning}
use Rattle.dcsctp_transfer.proofs.ForwardingLemmas.{adds_fitting}
use Rattle.dcsctp_transfer.proofs.StoppedUpLemmas.{stops_giving_up}
use Rattle.dcsctp_transfer.specs.Filling.{packet_stage}

-- ---- if partial reliability wasn't negotiated, or nothing is outstanding

keeps_steps : (now : ℕ) (old new : Stage) → StageSteps (GivesUpFirst now) old new → KeepsAllFragments old.queue new.queue
keeps_steps now old new none = keeps_refl old.queue
keeps_steps now old new (more between new' steps step) =
    keeps_trans old.queue between.queue new'.queue (keeps_steps now old between steps)
    (gives_up_keeps step.place between.queue new'.queue (gives_up_at now step.place between new' step.gives_up))

no_steps : (now : ℕ) (old new : Stage) → old.queue.partial_reliability ≡ false → StageSteps (GivesUpFirst now) old new → new ≡ old
no_steps now old new not_negotiated none = refl
no_steps now old new not_negotiated (more between new' steps step) =
    absurd (never step.is_due.item between.queue.partial_reliability ((keeps_steps now old between steps).partial_reliability ∙ not_negotiated) step.is_due.due)
  where
    never : (item : Item) (negotiated : Bool) → negotiated ≡ false → is_abandonment_due now negotiated item ≡ true → ⊥
    never item negotiated without due = let both : false ≡ true = sym (ap (λ (b : Bool). is_abandonment_due now b item) without) ∙ due in cc

-- nothing is abandoned
pub forwards_none : (now : ℕ) (transfer : Transfer) (waiting : SendQueueState) (events : List (Event (List ℕ))) (packet : Building) → may_abandon transfer.retransmission ≡ false
    → MakesForwardTsn now transfer (packet_stage waiting events packet) transfer (packet_stage waiting events packet) None
forwards_none now transfer waiting events packet never =
    let start : Stage = stage_of waiting transfer.retransmission [] 0 in
    record {
      gave_up = start;
      chunks = [];
      gives_up = subst (λ (b : Bool). GivesUpThenForwards b now transfer (bytes_remaining packet) start start (forward_made None [])) (sym never) (refl, refl, refl);
      fits = tt;
      adds = ap (λ (body : List ℕ). record packet { body = body }) (sym (append-nil packet.body));
      told = [];
      are_told = refl;
      tells = sym (append-nil events);
      queue = refl;
      is = refl;
    }

pub none_may : (negotiated : Bool) (items : ℕ) → items ≡ 0 → (negotiated && nat_lt 0 items) ≡ false
none_may negotiated items empty = by_negotiated negotiated
  where
    by_negotiated : (b : Bool) → (b && nat_lt 0 items) ≡ false
    by_negotiated true = ap (nat_lt 0) empty
    by_negotiated false = refl

-- ---- messages were abandoned

abbrev Events : Type 0
Events = List (Event (List ℕ))

-- as many as were due, from these queues
record AbandonsAll (now : ℕ) (transfer : Transfer) (waiting : SendQueueState) (after : RetransmissionState) (left : SendQueueState) (events telling : Events) : Type 0 where
  gave_up : Stage
  all : GivesUpAll now (stage_of waiting transfer.retransmission [] 0) gave_up
  queue : gave_up.queue ≡ after
  waits : left ≡ gave_up.waiting
  tells : telling ≡ events ++ gave_up.told

abandons_all : (now : ℕ) (old : Transfer) (before after : RetransmissionState) (waiting shown left : SendQueueState) (events telling : List SocketEvent) → before ≡ old.retransmission → waiting ≡ shown
    → GivesUpAll now (stage before waiting events [] 0) (stage after left telling [] 0) → AbandonsAll now old shown after left (contents events) (contents telling)
abandons_all now old before after waiting shown left events telling old_is shown_is all =
    let start : Stage = stage_of shown old.retransmission [] 0 in
    let end : Stage = stage after left telling [] 0 in
    let begins : stage before waiting events [] 0 ≡ behind_events (contents events) start = rw (old_is, shown_is, append-nil (contents events)) refl in
    let (stripped, does, is) = given_up_before (contents events) now start end (subst (λ (s : Stage). GivesUpAll now s end) begins all) in
    record { gave_up = stripped; all = does; queue = sym (ap (λ (s : Stage). s.queue) is); waits = ap (λ (s : Stage). s.waiting) is; tells = ap (λ (s : Stage). s.told) is }

-- They were abandoned, and the result says whether a chunk was made.
record Makes (now : ℕ) (old : Transfer) (room : ℕ) (state : RetransmissionState) (packet filled : Building) (next : Option ℕ) : Type 0 where
  chunks : List Plain
  forwards : ForwardsIfAbandoned (is_first_abandoned state.outstanding.items) now old room state next chunks
  fits : AllByRecursion FitsPlain chunks
  adds : filled ≡ record packet { body = packet.body ++ flat_map chunk_bytes (map plain_out chunks) }

forwards_all : (now : ℕ) (old new : Transfer) (after : RetransmissionState) (shown left : SendQueueState) (events telling : Events) (packet filled : Building) (next : Option ℕ) → may_abandon old.retransmission ≡ true
    → AbandonsAll now old shown after left events telling → new ≡ record old { retransmission = after } → Makes now old (bytes_remaining packet) after packet filled next
    → MakesForwardTsn now old (packet_stage shown events packet) new (packet_stage left telling filled) next
forwards_all now old new after shown left events telling packet filled next may abandons new_is makes =
    let start : Stage = stage_of shown old.retransmission [] 0 in
    let tells = tells_abandoned now start abandons.gave_up abandons.all in
    record {
      gave_up = abandons.gave_up;
      chunks = makes.chunks;
      gives_up = subst (λ (b : Bool). GivesUpThenForwards b now old (bytes_remaining packet) start abandons.gave_up (forward_made next makes.chunks)) (sym may)
          (abandons.all, subst (λ (q : RetransmissionState). ForwardsIfAbandoned (is_first_abandoned q.outstanding.items) now old (bytes_remaining packet) q next makes.chunks) (sym abandons.queue) makes.forwards);
      fits = makes.fits;
      adds = makes.adds;
      told = tells.told;
      are_told = sym tells.is;
      tells = abandons.tells;
      queue = abandons.waits;
      is = new_is ∙ ap (λ (q : RetransmissionState). record old { retransmission = q }) (sym abandons.queue);
    }

-- none is made
makes_none : (now : ℕ) (old : Transfer) (state : RetransmissionState) (packet : Building) → is_first_abandoned state.outstanding.items ≡ false → Makes now old (bytes_remaining packet) state packet packet None
makes_none now old state packet not_first =
    record {
      chunks = [];
      forwards = subst (λ (b : Bool). ForwardsIfAbandoned b now old (bytes_remaining packet) state None []) (sym not_first) (refl, refl);
      fits = tt;
      adds = ap (λ (body : List ℕ). record packet { body = body }) (sym (append-nil packet.body));
    }

makes_one : (now : ℕ) (old : Transfer) (state : RetransmissionState) (packet filled : Building) (next : ℕ) → is_first_abandoned state.outstanding.items ≡ true → next ≡ next_forward now old → PutsForward state packet filled
    → Makes now old (bytes_remaining packet) state packet filled (Some next)
makes_one now old state packet filled next first next_is puts =
    let fitting = adds_fitting packet filled puts.chunk puts.is puts.fits in
    let chunks : List Plain = where_fits (bytes_remaining packet) (unworked puts.chunk) in
    record {
      chunks = chunks;
      forwards = subst (λ (b : Bool). ForwardsIfAbandoned b now old (bytes_remaining packet) state (Some next) chunks) (sym first) (ap Some next_is, (puts.chunk, puts.says, refl));
      fits = fitting.fits;
      adds = fitting.adds;
    }

-- ---- by whether a chunk is due

may_if : (state : RetransmissionState) → state.partial_reliability ≡ true → (outstanding_count state ≡ 0 → ⊥) → may_abandon state ≡ true
may_if state negotiated some = ap (λ (b : Bool). b && nat_lt 0 (outstanding_count state)) negotiated ∙ positive (outstanding_count state) some
  where
    positive : (n : ℕ) → (n ≡ 0 → ⊥) → nat_lt 0 n ≡ true
    positive zero some = absurd (some refl)
    positive (suc n) some = grind (arith, nat_tests)

both_true : (a b : Bool) → (a && b) ≡ true → (a ≡ true) × (b ≡ true)
both_true true b is = (refl, is)
both_true false b is = absurd (cc)

pub forwards_due : (now : ℕ) (old new : Transfer) (before after : RetransmissionState) (waiting shown left : SendQueueState) (events telling : List SocketEvent) (packet filled : Building) (next : ℕ) → before ≡ old.retransmission
    → waiting ≡ shown → new ≡ record old { retransmission = after } → (outstanding_count old.retransmission ≡ 0 → ⊥) → GivesUpAll now (stage before waiting events [] 0) (stage after left telling [] 0)
    → (before.partial_reliability && is_first_abandoned after.outstanding.items) ≡ true → next ≡ next_forward now old → PutsForward after packet filled
    → MakesForwardTsn now old (packet_stage shown (contents events) packet) new (packet_stage left (contents telling) filled) (Some next)
forwards_due now old new before after waiting shown left events telling packet filled next old_is shown_is new_is some all due next_is puts =
    let both = both_true before.partial_reliability (is_first_abandoned after.outstanding.items) due in
    let negotiated = ap (λ (q : RetransmissionState). q.partial_reliability) (sym old_is) ∙ both.0 in
    forwards_all now old new after shown left (contents events) (contents telling) packet filled (Some next) (may_if old.retransmission negotiated some)
    (abandons_all now old before after waiting shown left events telling old_is shown_is all) new_is (makes_one now old after packet filled next both.1 next_is puts)

pub forwards_not_due : (now : ℕ) (old new : Transfer) (before after : RetransmissionState) (waiting shown left : SendQueueState) (events telling : List SocketEvent) (packet : Building) → before ≡ old.retransmission → waiting ≡ shown
    → new ≡ record old { retransmission = after } → (outstanding_count old.retransmission ≡ 0 → ⊥) → GivesUpAll now (stage before waiting events [] 0) (stage after left telling [] 0)
    → (before.partial_reliability && is_first_abandoned after.outstanding.items) ≡ false → MakesForwardTsn now old (packet_stage shown (contents events) packet) new (packet_stage left (contents telling) packet) None
forwards_not_due now old new before after waiting shown left events telling packet old_is shown_is new_is some all due = by_negotiated before.partial_reliability refl due
  where
    by_negotiated : (b : Bool) → before.partial_reliability ≡ b → (b && is_first_abandoned after.outstanding.items) ≡ false → MakesForwardTsn now old (packet_stage shown (contents events) packet) new (packet_stage left (contents telling) packet) None
    by_negotiated true negotiated not_first =
        forwards_all now old new after shown left (contents events) (contents telling) packet packet None (may_if old.retransmission (ap (λ (q : RetransmissionState). q.partial_reliability) (sym old_is) ∙ negotiated) some)
        (abandons_all now old before after waiting shown left events telling old_is shown_is all) new_is (makes_none now old after packet not_first)
    by_negotiated false without not_first =
        let same : stage after left telling [] 0 ≡ stage before waiting events [] 0 = no_steps now _ _ without all.steps in
        let never : may_abandon old.retransmission ≡ false = ap (λ (q : RetransmissionState). q.partial_reliability && nat_lt 0 (outstanding_count q)) (sym old_is) ∙ ap (λ (b : Bool). b && nat_lt 0 (outstanding_count before)) without in
        let new_same : new ≡ old = new_is ∙ ap (λ (q : RetransmissionState). record old { retransmission = q }) (ap (λ (s : Stage). s.queue) same ∙ old_is) in
        let left_same : left ≡ shown = ap (λ (s : Stage). s.waiting) same ∙ shown_is in
        let told_same : contents telling ≡ contents events = ap (λ (s : Stage). s.told) same in
        rw (new_same, left_same, told_same) (forwards_none now old shown (contents events) packet never)

-- ---- if an allocation fails

pub tells_abandoning : {A : Type 0} (r : Result A AllocError) (now : ℕ) (old : Transfer) (before after : RetransmissionState) (waiting shown left : SendQueueState) (events telling : List SocketEvent) → before ≡ old.retransmission
    → waiting ≡ shown → GivesUpDue now (stage before waiting events [] 0) (stage after left telling [] 0) r → AddsFirstOfAbandoning now old shown (contents events) (contents telling)
tells_abandoning (Ok done) now old before after waiting shown left events telling old_is shown_is gives_up =
    let all = abandons_all now old before after waiting shown left events telling old_is shown_is (record { steps = gives_up.0; none_left = gives_up.1 }) in
    record { gave_up = all.gave_up; gives_up = all.all; tells = record { front = all.gave_up.told; rest = []; parts = sym (append-nil all.gave_up.told); told = all.tells } }
tells_abandoning (Err error) now old before after waiting shown left events telling old_is shown_is stops =
    let start : Stage = stage_of shown old.retransmission [] 0 in
    let end : Stage = stage after left telling [] 0 in
    let begins : stage before waiting events [] 0 ≡ behind_events (contents events) start = rw (old_is, shown_is, append-nil (contents events)) refl in
    let (gave_up, all, tells) = stops_giving_up (contents events) now start end (subst (λ (s : Stage). StopsGivingUp now s end) begins stops) in
    record { gave_up = gave_up; gives_up = all; tells = tells }

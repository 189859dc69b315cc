-- Our verification tag in the last association: each turn leaves it, or ends an association; no COOKIE ECHO makes one under it.
use Rattle.std.proofs.Common.{◌≡◌, ◌⊎◌, ◌==◌, ◌&&◌, ◌||◌, inl, inr, ℕ, Bool, true, false, Option, None, Some, List, [], ◌∷◌, Result, Ok, Err, refl, sym, subst, ap, ◌∙◌, arith}
use Rattle.std.proofs.lemmas.Bool.Decides.{nat_tests}
use Rattle.dcsctp_spec_lemmas.specs.spec.Cookie.{Cookie, cookie_of_bytes}
use Rattle.dcsctp_spec_lemmas.specs.spec.association.CookieEchoChanges.{aged_resolution, case_without_peer}
use Rattle.dcsctp_spec_lemmas.specs.spec.endpoint.CookieEchoOutcomes.{is_last_tag, is_spent, cookie_echo_with_flush, resolve_with_flush}
use Rattle.dcsctp_spec_lemmas.specs.spec.endpoint.DataOutcomes.{TakesFirstReady, TakeLeft, TakeTurn}
use Rattle.dcsctp_spec_lemmas.specs.spec.endpoint.Endpoint.{Endpoint, Core, closed, cookie_wait, cookie_echoed, open_in, held_by_core}
use Rattle.dcsctp_spec_lemmas.specs.spec.endpoint.FlushOutcomes.{FlushKind, flush_answered}
use Rattle.dcsctp_spec_lemmas.specs.spec.endpoint.Outcome.{Outcome, packet_counted}
use Rattle.dcsctp_spec_lemmas.proofs.RefusalLemmas.{by_stale_outcome}
use Rattle.dcsctp_spec_lemmas.specs.spec.endpoint.Turn.{arrival, refusal, packet_begins, chunk_input, packet_ends, act_input, user_sets, user_sends, user_resets, user_takes, timer_expires, time_passes, restores}
use Rattle.dcsctp_spec_lemmas.specs.spec.queues.Transfer.{Transfer}
use Rattle.dcsctp_spec_lemmas.specs.types.queues.Messages.{MessageContent}
use Rattle.dcsctp_spec_laws.specs.LastTagLaws.{RecordsLastTag, LastTagStays, LastTagIsSpent, ReportsStaleAtMost}
use Rattle.dcsctp_spec_laws.proofs.LeftLemmas.{is_there, Begins, Ends, Leaves}
use Rattle.dcsctp_spec_laws.proofs.LeftTurns.{turn_leaves}

-- ---- what a turn leaves

stays_where : (e after : Endpoint) (old new : Option Transfer) → e.queues.transfer ≡ old → after.queues.transfer ≡ new
    → is_there after.queues.transfer ≡ is_there e.queues.transfer → after.last_tag ≡ e.last_tag → RecordsLastTag e old new after.last_tag
stays_where e after None None before behind there last = inl last
stays_where e after None (Some new) before behind there last = last
stays_where e after (Some old) None before behind there last = let same : false ≡ true = sym (ap is_there behind) ∙ there ∙ ap is_there before in absurd (cc)
stays_where e after (Some old) (Some new) before behind there last = last

begins_where : (e after : Endpoint) (old new : Option Transfer) → after.queues.transfer ≡ new → Begins e after → RecordsLastTag e old new after.last_tag
begins_where e after None None behind h = inl h.last
begins_where e after None (Some new) behind h = h.last
begins_where e after (Some old) None behind h = let same : false ≡ true = sym (ap is_there behind) ∙ h.there in absurd (cc)
begins_where e after (Some old) (Some new) behind h = h.last

ends_where : (e after : Endpoint) (old new : Option Transfer) → after.queues.transfer ≡ new → Ends e after → RecordsLastTag e old new after.last_tag
ends_where e after None None behind h = inr h.last
ends_where e after (Some old) None behind h = h.last
ends_where e after None (Some new) behind h = let same : true ≡ false = sym (ap is_there behind) ∙ ap is_there h.none in absurd (cc)
ends_where e after (Some old) (Some new) behind h = let same : true ≡ false = sym (ap is_there behind) ∙ ap is_there h.none in absurd (cc)

last_where : (e after : Endpoint) → Leaves e after → RecordsLastTag e e.queues.transfer after.queues.transfer after.last_tag
last_where e after h = elim h [
  | inl stays ↦ stays_where e after e.queues.transfer after.queues.transfer refl refl stays.there stays.last
  | inr moved ↦ elim moved [
    | inl begins ↦ begins_where e after e.queues.transfer after.queues.transfer refl begins
    | inr ends ↦ ends_where e after e.queues.transfer after.queues.transfer refl ends
  ]
]

-- A message that is taken leaves both.
record Keeps (e : Endpoint) (o : Outcome) : Type 0 where
  there : is_there o.after.queues.transfer ≡ is_there e.queues.transfer
  last : o.after.last_tag ≡ e.last_tag

left_keeps : (e : Endpoint) (messages : List MessageContent) (o : Outcome) → TakeLeft e messages o → Keeps e o
left_keeps e [] o turn = subst (Keeps e) (sym turn) (record { there = refl; last = refl })
left_keeps e (message ∷ messages) o turn = subst (Keeps e) (sym turn) (record { there = refl; last = refl })

where_keeps : (e : Endpoint) (transfer : Transfer) (messages : List MessageContent) (o : Outcome) → e.queues.transfer ≡ Some transfer → TakesFirstReady e transfer messages o → Keeps e o
where_keeps e transfer [] o is turn = subst (Keeps e) (sym turn) (record { there = refl; last = refl })
where_keeps e transfer (message ∷ messages) o is turn = subst (Keeps e) (sym turn) (record { there = sym (ap is_there is); last = refl })

take_keeps : (e : Endpoint) (transfer : Option Transfer) (o : Outcome) → e.queues.transfer ≡ transfer → TakeTurn e transfer o → Keeps e o
take_keeps e None o is turn = left_keeps e e.left o turn
take_keeps e (Some transfer) o is turn = where_keeps e transfer transfer.reassembly.incoming.ready o is turn

take_where : (e : Endpoint) (o : Outcome) → Keeps e o → RecordsLastTag e e.queues.transfer o.after.queues.transfer o.after.last_tag
take_where e o keeps = stays_where e o.after e.queues.transfer o.after.queues.transfer refl refl keeps.there keeps.last

pub last_tag_stays : LastTagStays
last_tag_stays e arrival o own turn = last_where e o.after (turn_leaves e arrival o refl own turn)
last_tag_stays e (refusal text) o own turn = last_where e o.after (turn_leaves e (refusal text) o refl own turn)
last_tag_stays e (packet_begins contents) o own turn = last_where e o.after (turn_leaves e (packet_begins contents) o refl own turn)
last_tag_stays e (chunk_input tag content) o own turn = last_where e o.after (turn_leaves e (chunk_input tag content) o refl own turn)
last_tag_stays e packet_ends o own turn = last_where e o.after (turn_leaves e packet_ends o refl own turn)
last_tag_stays e (act_input act) o own turn = last_where e o.after (turn_leaves e (act_input act) o refl own turn)
last_tag_stays e (user_sets setting) o own turn = last_where e o.after (turn_leaves e (user_sets setting) o refl own turn)
last_tag_stays e (user_sends messages) o own turn = last_where e o.after (turn_leaves e (user_sends messages) o refl own turn)
last_tag_stays e (user_resets ids) o own turn = last_where e o.after (turn_leaves e (user_resets ids) o refl own turn)
last_tag_stays e (timer_expires timer) o own turn = last_where e o.after (turn_leaves e (timer_expires timer) o refl own turn)
last_tag_stays e (time_passes moment) o own turn = last_where e o.after (turn_leaves e (time_passes moment) o refl own turn)
last_tag_stays e (restores state) o own turn = last_where e o.after (turn_leaves e (restores state) o refl own turn)
last_tag_stays e user_takes o own turn = take_where e o (take_keeps e e.queues.transfer o refl turn)

-- ---- a COOKIE ECHO under it

spent_at : (b : Bool) (e : Endpoint) (tag : ℕ) (old : Bool) → e.options.follow_rfc ≡ true → e.last_tag ≡ Some tag → ((e.options.follow_rfc && is_last_tag e.last_tag tag) || old) ≡ b → b ≡ true
spent_at b e tag old follows last is =
    let same : (tag == tag) ≡ true = grind (arith, nat_tests) in
    sym is
    ∙ ap (λ (f : Bool). (f && is_last_tag e.last_tag tag) || old) follows
    ∙ ap (λ (found : Option ℕ). is_last_tag found tag || old) last
    ∙ ap (λ (found : Bool). found || old) same

-- Nothing has changed, but for a packet that may have gone out.
abbrev IsRefused : Endpoint → Outcome → Type 0
IsRefused e o = ((o.after ≡ e) ⊎ (o.after ≡ packet_counted e)) × (o.effects ≡ []) × ReportsStaleAtMost o

-- Without a peer a cookie that is spent makes nothing.
spent_rests : (flush : FlushKind) (e : Endpoint) (core : Core) (word : ℕ) (cookie : Cookie) (same spent : Bool) → spent ≡ true
    → let o : Outcome = resolve_with_flush flush e cookie core word (aged_resolution spent (case_without_peer same)) in IsRefused e o
spent_rests flush e core word cookie true true is = by_stale_outcome (IsRefused e) e cookie (inr refl, refl, inr (cookie, refl)) (inl refl, refl, inl refl)
spent_rests flush e core word cookie false true is = (inl refl, refl, inl refl)
spent_rests flush e core word cookie same false is = absurd (cc)

echo_rests : (flush : FlushKind) (e : Endpoint) (core : Core) (tag word : ℕ) (read : Result Cookie (List ℕ)) → e.options.follow_rfc ≡ true → e.last_tag ≡ Some tag → held_by_core core ≡ None
    → let o : Outcome = cookie_echo_with_flush flush e core tag read word in IsRefused e o
echo_rests flush e core tag word (Err text) follows last none = (inl refl, refl, inl refl)
echo_rests flush e closed tag word (Ok cookie) follows last none =
    spent_rests flush e closed word cookie (tag == cookie.maker.tag) (is_spent e closed tag cookie) (spent_at _ e tag _ follows last refl)
echo_rests flush e (cookie_wait my) tag word (Ok cookie) follows last none =
    spent_rests flush e (cookie_wait my) word cookie (tag == cookie.maker.tag) (is_spent e (cookie_wait my) tag cookie) (spent_at _ e tag _ follows last refl)
echo_rests flush e (cookie_echoed my held echoed) tag word (Ok cookie) follows last none = absurd (cc)
echo_rests flush e (open_in phase my held) tag word (Ok cookie) follows last none = absurd (cc)

pub last_tag_is_spent : LastTagIsSpent
last_tag_is_spent e tag bytes o follows last none turn =
    subst (IsRefused e) (sym turn.3) (echo_rests (flush_answered turn.1) e e.core tag turn.0 (cookie_of_bytes bytes) follows last none)

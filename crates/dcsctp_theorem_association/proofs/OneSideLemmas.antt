-- The association that a side holds is the one that its past leaves; emissions and flushes keep that.
use Rattle.std.proofs.Common.{◌≡◌, ℕ, ◌+◌, ◌-◌, ◌%◌, ◌^◌, Bool, true, false, Option, None, Some, List, [], ◌∷◌, ◌++◌, refl, sym, subst, ap, ◌∙◌, arith}
use Rattle.dcsctp_spec_lemmas.specs.types.declared.association.Pair.{Pair}
use Rattle.dcsctp_spec_lemmas.specs.types.declared.association.Held.{Held}
use Rattle.dcsctp_spec_lemmas.specs.types.declared.capabilities.Capabilities.{Capabilities}
use Rattle.dcsctp_spec_lemmas.specs.wire.declared.reconfiguration.ReconfigurationResponseResult.TheVariants.{InProgress}
use Rattle.dcsctp_spec_lemmas.specs.spec.Packet.{Plain, Content, Packet}
use Rattle.dcsctp_spec_lemmas.specs.spec.Reconfiguration.{RequestedReset}
use Rattle.dcsctp_spec_lemmas.specs.spec.association.Effect.{AssociationIdentity, Effect, draws, sends, holds, connects, begins, gives_up, resumes, emission_effects, identity_of}
use Rattle.dcsctp_spec_lemmas.specs.spec.association.Choices.{plain_contents, Filling, Choices}
use Rattle.dcsctp_spec_lemmas.specs.spec.association.FlushChanges.{FlushResult, next_number, reset_to_begin, further_packets, flushed_with, flush_if_allowed, flush}
use Rattle.dcsctp_spec_lemmas.specs.spec.association.HandshakeChanges.{new_held}
use Rattle.dcsctp_spec_lemmas.specs.spec.association.Acts.{sent_then_flushed, renewed_if_fitting}
use Rattle.dcsctp_spec_lemmas.specs.spec.association.ResumeChanges.{resumed_held}
use Rattle.dcsctp_spec_runs.specs.Past.{Each, InPlace, current, unconnected_association, number_to_begin, outstanding, number_to_accept, number_to_perform}
use Rattle.dcsctp_spec_runs.specs.World.{after_effects}

-- The association that is held is this link, as the past has it; it has connected, unless it is the one that
-- waits. The numbers are those that the past leaves, and each effect so far is in place.
pub record Stands (link : AssociationIdentity) (waiting : Option AssociationIdentity) (held : Held) (past : List Effect) : Type 0 where
  pub same_peer : held.peer ≡ link.peer
  pub same_capabilities : held.capabilities ≡ link.capabilities
  pub is_current : current past ≡ Some link
  pub is_waiting : unconnected_association past ≡ waiting
  pub begins_next : number_to_begin past ≡ Some held.own_next
  pub is_outstanding : outstanding past ≡ held.own_outstanding
  pub accepts_next : number_to_accept past ≡ Some (next_number held.peer_last)
  pub performs_last : held.peer_result ≡ InProgress → number_to_perform past ≡ Some held.peer_last
  pub in_place : Each InPlace past

-- If `Stands` holds of `before`, it holds of `after` once these effects are added.
abbrev pub Leads : AssociationIdentity → Option AssociationIdentity → Held → List Effect → Held → Type 0
Leads link waiting before effects after = (past : List Effect) → Stands link waiting before past → Stands link waiting after (after_effects effects past)

pub after_effects-append : (xs ys past : List Effect) → after_effects (xs ++ ys) past ≡ after_effects ys (after_effects xs past)
after_effects-append [] ys past = refl
after_effects-append (x ∷ xs) ys past = after_effects-append xs ys (x ∷ past)

-- ---- one effect

pub stands-sends : {link : AssociationIdentity} {waiting : Option AssociationIdentity} {held : Held} {past : List Effect} (packet : Packet) → Stands link waiting held past → Stands link waiting held (sends packet ∷ past)
stands-sends packet s = record {
  same_peer = s.same_peer;
  same_capabilities = s.same_capabilities;
  is_current = s.is_current;
  is_waiting = s.is_waiting;
  begins_next = s.begins_next;
  is_outstanding = s.is_outstanding;
  accepts_next = s.accepts_next;
  performs_last = s.performs_last;
  in_place = (tt, s.in_place);
}

pub stands-draws : {link : AssociationIdentity} {waiting : Option AssociationIdentity} {held : Held} {past : List Effect} (pair : Pair) → Stands link waiting held past → Stands link waiting held (draws pair ∷ past)
stands-draws pair s = record {
  same_peer = s.same_peer;
  same_capabilities = s.same_capabilities;
  is_current = s.is_current;
  is_waiting = s.is_waiting;
  begins_next = s.begins_next;
  is_outstanding = s.is_outstanding;
  accepts_next = s.accepts_next;
  performs_last = s.performs_last;
  in_place = (tt, s.in_place);
}

pub stands-connects : {link : AssociationIdentity} {held : Held} {past : List Effect} → Stands link (Some link) held past → Stands link None held (connects link ∷ past)
stands-connects s = record {
  same_peer = s.same_peer;
  same_capabilities = s.same_capabilities;
  is_current = s.is_current;
  is_waiting = refl;
  begins_next = s.begins_next;
  is_outstanding = s.is_outstanding;
  accepts_next = s.accepts_next;
  performs_last = s.performs_last;
  in_place = (s.is_waiting, s.in_place);
}

stands-begins : {link : AssociationIdentity} {waiting : Option AssociationIdentity} {held : Held} {past : List Effect} → held.own_outstanding ≡ None → Stands link waiting held past
    → Stands link waiting (record held { own_next = next_number held.own_next; own_outstanding = Some held.own_next }) (begins held.own_next ∷ past)
stands-begins none s = record {
  same_peer = s.same_peer;
  same_capabilities = s.same_capabilities;
  is_current = s.is_current;
  is_waiting = s.is_waiting;
  begins_next = refl;
  is_outstanding = refl;
  accepts_next = s.accepts_next;
  performs_last = s.performs_last;
  in_place = ((s.begins_next, s.is_outstanding ∙ none), s.in_place);
}

-- our request is given up: then none is outstanding
stands-gives_up : {link : AssociationIdentity} {waiting : Option AssociationIdentity} {held : Held} {past : List Effect} (number : ℕ) → held.own_outstanding ≡ Some number → Stands link waiting held past
    → Stands link waiting (record held { own_outstanding = None }) (gives_up number ∷ past)
stands-gives_up number some s = record {
  same_peer = s.same_peer;
  same_capabilities = s.same_capabilities;
  is_current = s.is_current;
  is_waiting = s.is_waiting;
  begins_next = s.begins_next;
  is_outstanding = refl;
  accepts_next = s.accepts_next;
  performs_last = s.performs_last;
  in_place = (s.is_outstanding ∙ some, s.in_place);
}

-- the number after that before the first TSN
first_number : (first_tsn : ℕ) → first_tsn % 2 ^ 32 ≡ next_number ((first_tsn + (2 ^ 32 - 1)) % 2 ^ 32)
first_number first_tsn = omega arith

-- where an association is new
pub stands-new : (my peer : Pair) (capabilities : Capabilities) (past : List Effect) → Each InPlace past
    → Stands (identity_of my (new_held my peer capabilities)) (Some (identity_of my (new_held my peer capabilities))) (new_held my peer capabilities) (holds (identity_of my (new_held my peer capabilities)) ∷ past)
stands-new my peer capabilities past in_place = record {
  same_peer = refl;
  same_capabilities = refl;
  is_current = refl;
  is_waiting = refl;
  begins_next = refl;
  is_outstanding = refl;
  accepts_next = ap (λ (n : ℕ). Some n) (first_number peer.first_tsn);
  performs_last = λ e. absurd (cc);
  in_place = (tt, in_place);
}

-- where one is restored
pub stands-resumed : (my peer : Pair) (capabilities : Capabilities) (own last : ℕ) (past : List Effect) → current past ≡ None → Each InPlace past
    → Stands (identity_of my (resumed_held peer capabilities own last)) (Some (identity_of my (resumed_held peer capabilities own last))) (resumed_held peer capabilities own last) (resumes (identity_of my (resumed_held peer capabilities own last)) own last ∷ past)
stands-resumed my peer capabilities own last past none in_place = record {
  same_peer = refl;
  same_capabilities = refl;
  is_current = refl;
  is_waiting = refl;
  begins_next = refl;
  is_outstanding = refl;
  accepts_next = refl;
  performs_last = λ e. absurd (cc);
  in_place = (none, in_place);
}

-- ---- the effects of a flush

module _ (link : AssociationIdentity) (waiting : Option AssociationIdentity) where
  pub leads-append : (before between after : Held) (xs ys : List Effect) → Leads link waiting before xs between → Leads link waiting between ys after → Leads link waiting before (xs ++ ys) after
  leads-append before between after xs ys first second past s =
      subst (Stands link waiting after) (sym (after_effects-append xs ys past)) (second (after_effects xs past) (first past s))

  emitted_leads : (held : Held) (tag : ℕ) (contents : List Content) → Leads link waiting held (emission_effects tag contents) held
  emitted_leads held tag [] past s = s
  emitted_leads held tag (content ∷ contents) past s = stands-sends _ s

  further_leads : (held : Held) (tag : ℕ) (packets : List (List Plain)) → Leads link waiting held (further_packets tag packets) held
  further_leads held tag [] past s = s
  further_leads held tag (chunks ∷ packets) past s =
      leads-append held held held (emission_effects tag (plain_contents chunks)) (further_packets tag packets)
      (emitted_leads held tag (plain_contents chunks)) (further_leads held tag packets) past s

  packets_lead : (held : Held) (tag : ℕ) (contents : List Content) (packets : List (List Plain)) → Leads link waiting held (emission_effects tag contents ++ further_packets tag packets) held
  packets_lead held tag contents packets =
      leads-append held held held (emission_effects tag contents) (further_packets tag packets) (emitted_leads held tag contents) (further_leads held tag packets)

  flush_leads_by : (tag : ℕ) (held : Held) (front : List Content) (filling : Filling) (request : Option ℕ) (reset : Option RequestedReset) → held.own_outstanding ≡ request
      → Leads link waiting held (flushed_with tag held front filling (reset_to_begin request reset)).effects (flushed_with tag held front filling (reset_to_begin request reset)).held
  flush_leads_by tag held front filling None None e past s = packets_lead held tag _ filling.further past s
  flush_leads_by tag held front filling None (Some reset) e past s = packets_lead _ tag _ filling.further _ (stands-begins e s)
  flush_leads_by tag held front filling (Some number) reset e past s = packets_lead held tag _ filling.further past s

  flush_leads_where : (is_allowed : Bool) (tag : ℕ) (held : Held) (front : List Content) (filling : Filling)
      → Leads link waiting held (flush_if_allowed is_allowed tag held front filling).effects (flush_if_allowed is_allowed tag held front filling).held
  flush_leads_where false tag held front filling past s = s
  flush_leads_where true tag held front filling past s = flush_leads_by tag held front filling held.own_outstanding filling.reset refl past s

  pub flush_leads : (tag : ℕ) (held : Held) (front : List Content) (filling : Filling) → Leads link waiting held (flush tag held front filling).effects (flush tag held front filling).held
  flush_leads tag held front filling = flush_leads_where filling.is_allowed tag held front filling

  pub sent_leads : (held : Held) (choices : Choices) → Leads link waiting held (sent_then_flushed held choices).effects (sent_then_flushed held choices).held
  sent_leads held choices =
      let after : FlushResult = flush held.peer.tag held [] choices.filling in
      leads-append held held after.held (further_packets held.peer.tag choices.plain) after.effects
      (further_leads held held.peer.tag choices.plain) (flush_leads held.peer.tag held [] choices.filling)

  -- ---- the request under the next number

  pub renewed_leads : (held : Held) (number : Option ℕ) (reset : RequestedReset) (fits : Bool) → held.own_outstanding ≡ number
      → Leads link waiting held (renewed_if_fitting held number reset fits).effects (renewed_if_fitting held number reset fits).held
  renewed_leads held None reset fits e past s = s
  renewed_leads held (Some number) reset false e past s = s
  renewed_leads held (Some number) reset true e past s = stands-sends _ (stands-begins refl (stands-gives_up number e s))

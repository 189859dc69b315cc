-- What was read under one tag of the receiver is what was read of one tag of its peer, whose
-- association crosses that of the sender.
use Rattle.std.proofs.Common.{◌≡◌, ℕ, Bool, List, [], ◌∷◌, refl, sym, ◌∙◌, ap, arith, subst, inl, inr}
use Rattle.std.specs.Prelude.{if◌then◌else◌}
use Rattle.std.proofs.lemmas.Bool.Decides.{eqb_tells}
use Rattle.dcsctp_spec_lemmas.specs.types.declared.options.Options.{Options}
use Rattle.dcsctp_spec_lemmas.specs.types.queues.Messages.{MessageContent}
use Rattle.dcsctp_spec_lemmas.specs.spec.endpoint.Endpoint.{Endpoint}
use Rattle.dcsctp_spec_lemmas.specs.spec.Packet.{Emission}
use Rattle.dcsctp_spec_lemmas.specs.spec.association.Effect.{AssociationIdentity, Effect, holds}
use Rattle.dcsctp_spec_runs.specs.Past.{HasEffect}
use Rattle.dcsctp_delivery_directions.specs.sending.Log.{Message}
use Rattle.dcsctp_delivery_directions.specs.sending.Places.{HasEntry}
use Rattle.dcsctp_delivery_directions.specs.directions.Directions.{DirectionRun}
use Rattle.dcsctp_delivery_directions.proofs.directions.Directions.{directions_deliver}
use Rattle.dcsctp_delivery_sockets.specs.associations.Ends.{ReceivingEnd, direction_of_ends, Ends, HadBoth, unbegun_end, Between, sending_side, receiving_side}
use Rattle.dcsctp_delivery_sockets.specs.associations.Reads.{Tags, ReadMessage, ReportedReset, Reading, with_tag, with_key, AreOfLink, AllOfLinks}
use Rattle.dcsctp_delivery_directions.proofs.epochs.CutsAsked.{none_performed}
use Rattle.dcsctp_delivery_sockets.proofs.associations.InOrder.{read_none}

-- No two associations have peers of one tag.
abbrev pub PeersDiffer : List Effect → Type 0
PeersDiffer past = (one two : AssociationIdentity) → HasEffect (holds one) past → HasEffect (holds two) past → one.peer.tag ≡ two.peer.tag → one ≡ two

-- ---- lists of what was read

-- What was read is among what was read under its tags.
among_key : (reads : List ReadMessage) (r : ReadMessage) → HasEntry r reads → with_key r.tags.peer reads ≡ [] → ⊥
among_key [] r has none = has
among_key (first ∷ reads) r (inl is) none =
    elim (eqb_tells first.tags.peer r.tags.peer) [
      | inl t ↦ (let same : first.message ∷ with_key r.tags.peer reads ≡ [] = sym (ap (λ (b : Bool). if b then first.message ∷ with_key r.tags.peer reads else with_key r.tags.peer reads) t.0) ∙ none in absurd (cc))
      | inr t ↦ absurd (t.1 (ap (λ (x : ReadMessage). x.tags.peer) (sym is)))
    ]
among_key (first ∷ reads) r (inr has) none =
    elim (eqb_tells first.tags.peer r.tags.peer) [
      | inl t ↦ (let same : first.message ∷ with_key r.tags.peer reads ≡ [] = sym (ap (λ (b : Bool). if b then first.message ∷ with_key r.tags.peer reads else with_key r.tags.peer reads) t.0) ∙ none in absurd (cc))
      | inr t ↦ among_key reads r has (sym (ap (λ (b : Bool). if b then first.message ∷ with_key r.tags.peer reads else with_key r.tags.peer reads) t.0) ∙ none)
    ]

-- one of an own tag, if there is one
data Finds (own : ℕ) (reads : List ReadMessage) : Type 0 where
  found : (r : ReadMessage) → HasEntry r reads → r.tags.own ≡ own → Finds own reads
  found_none : with_tag own reads ≡ [] → Finds own reads

finds : (own : ℕ) (reads : List ReadMessage) → Finds own reads
finds own [] = found_none refl
finds own (first ∷ reads) =
    elim (eqb_tells first.tags.own own) [
      | inl t ↦ found first (inl refl) t.1
      | inr t ↦ later (finds own reads) (ap (λ (b : Bool). if b then first.message ∷ with_tag own reads else with_tag own reads) t.0)
    ]
  where
    later : Finds own reads → with_tag own (first ∷ reads) ≡ with_tag own reads → Finds own (first ∷ reads)
    later (found r has is) same = found r (inr has) is
    later (found_none none) same = found_none (same ∙ none)

-- Where the tags go together both ways of asking give the same.
same_reads : (reads : List ReadMessage) (own key : ℕ) → ((r : ReadMessage) → HasEntry r reads → (r.tags.own ≡ own → r.tags.peer ≡ key) × (r.tags.peer ≡ key → r.tags.own ≡ own)) → with_tag own reads ≡ with_key key reads
same_reads [] own key go = refl
same_reads (first ∷ reads) own key go =
    let rest = same_reads reads own key (λ r has. go r (inr has)) in
    let here = go first (inl refl) in
    elim (eqb_tells first.tags.own own) [
      | inl t ↦ elim (eqb_tells first.tags.peer key) [
        | inl k ↦
            ap (λ (b : Bool). if b then first.message ∷ with_tag own reads else with_tag own reads) t.0 ∙ ap (λ (l : List MessageContent). first.message ∷ l) rest
            ∙ sym (ap (λ (b : Bool). if b then first.message ∷ with_key key reads else with_key key reads) k.0)
        | inr k ↦ absurd (k.1 (here.0 t.1))
      ]
      | inr t ↦ elim (eqb_tells first.tags.peer key) [
        | inl k ↦ absurd (t.1 (here.1 k.1))
        | inr k ↦
            ap (λ (b : Bool). if b then first.message ∷ with_tag own reads else with_tag own reads) t.0 ∙ rest
            ∙ sym (ap (λ (b : Bool). if b then first.message ∷ with_key key reads else with_key key reads) k.0)
      ]
    ]

all_among : (past : List Effect) (reads : List ReadMessage) (r : ReadMessage) → AllOfLinks past reads → HasEntry r reads → AreOfLink past r.tags
all_among past [] r all has = absurd has
all_among past (first ∷ reads) r all (inl is) = subst (λ (x : ReadMessage). AreOfLink past x.tags) (sym is) all.0
all_among past (first ∷ reads) r all (inr has) = all_among past reads r all.1 has

-- ---- the two ends

-- What was read under the own tag was read of this tag of the peer, or nothing was.
pub data ReadUnder (past their_past : List Effect) (reading : Reading) (own : ℕ) : Type 0 where
  nothing_under : with_tag own reading.reads ≡ [] → ReadUnder past their_past reading own
  under_key : (key : ℕ) → with_tag own reading.reads ≡ with_key key reading.reads → HadBoth past key own → (theirs : AssociationIdentity) → HasEffect (holds theirs) their_past → theirs.peer.tag ≡ key → theirs.my.tag ≡ own → ReadUnder past their_past reading own

module _ (options : Options) (ends : Ends) (e : Endpoint) (queued : List Message) (past : List Effect) (packets : List Emission) (other : Endpoint) (their_past : List Effect) (reading : Reading)
    (h : Between options ends (sending_side e queued past packets) (receiving_side other their_past reading)) (mine_differ : PeersDiffer past) (theirs_differ : PeersDiffer their_past) where
  -- Nothing is read where no association crosses.
  none_alone : (key : ℕ) → DirectionRun options (ends.firsts key) options.max_receiver_window_buffer_size (direction_of_ends (unbegun_end options) (ends.gets key)) → with_key key reading.reads ≡ []
  none_alone key run =
      let d = directions_deliver options (ends.firsts key) options.max_receiver_window_buffer_size (direction_of_ends (unbegun_end options) (ends.gets key)) run (h.small key) (omega arith) (omega arith) in
      h.receiver.were_read key ∙ read_none [] refl (ends.gets key).read d.places d.were_queued

  none_at_zero : with_key 0 reading.reads ≡ []
  none_at_zero = elim (h.receiver.begun 0) [ inl new ↦ h.receiver.were_read 0 ∙ ap (λ (g : ReceivingEnd). g.read) new | inr had ↦ absurd (had.some refl) ]

  -- What was read was read in an association that crosses.
  abbrev Crossed : ReadMessage → Type 0
  Crossed r = (link : AssociationIdentity) × HasEffect (holds link) their_past × (link.peer.tag ≡ r.tags.peer) × (link.my.tag ≡ r.tags.own) × HadBoth past r.tags.peer r.tags.own

  crossed : (r : ReadMessage) → HasEntry r reading.reads → Crossed r
  crossed r has = by_link (all_among their_past reading.reads r h.receiver.reads_of has)
    where
      by_link : AreOfLink their_past r.tags → Crossed r
      by_link (inl none) = absurd (among_key reading.reads r has (ap (λ (t : Tags). with_key t.peer reading.reads) none ∙ none_at_zero))
      by_link (inr (link, held, is)) =
          elim (h.alone r.tags.peer) [
            | inl met ↦
                (let one : met.link ≡ link = theirs_differ met.link link met.held held (met.tag_is ∙ ap (λ (t : Tags). t.peer) is) in (
                  link,
                  held,
                  ap (λ (t : Tags). t.peer) (sym is),
                  ap (λ (t : Tags). t.own) (sym is),
                  subst (HadBoth past r.tags.peer) (ap (λ (l : AssociationIdentity). l.my.tag) one ∙ ap (λ (t : Tags). t.own) (sym is)) met.both,
                ))
            | inr run ↦ absurd (among_key reading.reads r has (none_alone r.tags.peer run))
          ]

  pub read_under_key : (own : ℕ) → ReadUnder past their_past reading own
  read_under_key own = by_first (finds own reading.reads)
    where
      by_first : Finds own reading.reads → ReadUnder past their_past reading own
      by_first (found_none none) = nothing_under none
      by_first (found first has is) =
          let here = crossed first has in
          let both : HadBoth past first.tags.peer own = subst (HadBoth past first.tags.peer) is here.4 in
          under_key first.tags.peer (same_reads reading.reads own first.tags.peer (λ r among. (to_peer r among both, to_own r among here))) both here.0 here.1 here.2 (here.3 ∙ is)
        where
          to_peer : (r : ReadMessage) → HasEntry r reading.reads → HadBoth past first.tags.peer own → r.tags.own ≡ own → r.tags.peer ≡ first.tags.peer
          to_peer r among both same =
              let there = crossed r among in
              let one : there.4.link ≡ both.link = mine_differ there.4.link both.link there.4.held both.held (there.4.peer_is ∙ same ∙ sym both.peer_is) in
              sym there.4.tag_is ∙ ap (λ (l : AssociationIdentity). l.my.tag) one ∙ both.tag_is

          to_own : (r : ReadMessage) → HasEntry r reading.reads → Crossed first → r.tags.peer ≡ first.tags.peer → r.tags.own ≡ own
          to_own r among here same =
              let there = crossed r among in
              let one : there.0 ≡ here.0 = theirs_differ there.0 here.0 there.1 here.1 (there.2 ∙ same ∙ sym here.2) in
              sym there.3 ∙ ap (λ (l : AssociationIdentity). l.my.tag) one ∙ here.3 ∙ is

  -- Where both are in one association, what was read under the one tag was read of the other, also of what was read earlier.
  pub read_among : (reads : List ReadMessage) → ((r : ReadMessage) → HasEntry r reads → HasEntry r reading.reads) → (key own : ℕ) → HadBoth past key own → (theirs : AssociationIdentity) → HasEffect (holds theirs) their_past → theirs.peer.tag ≡ key → theirs.my.tag ≡ own
      → with_tag own reads ≡ with_key key reads
  read_among reads within key own both theirs held peer_is own_is = same_reads reads own key (λ r has. (to_peer r (within r has), to_own r (within r has)))
    where
      to_peer : (r : ReadMessage) → HasEntry r reading.reads → r.tags.own ≡ own → r.tags.peer ≡ key
      to_peer r has same =
          let there = crossed r has in
          let one : there.4.link ≡ both.link = mine_differ there.4.link both.link there.4.held both.held (there.4.peer_is ∙ same ∙ sym both.peer_is) in
          sym there.4.tag_is ∙ ap (λ (l : AssociationIdentity). l.my.tag) one ∙ both.tag_is

      to_own : (r : ReadMessage) → HasEntry r reading.reads → r.tags.peer ≡ key → r.tags.own ≡ own
      to_own r has same =
          let there = crossed r has in
          let one : there.0 ≡ theirs = theirs_differ there.0 theirs there.1 held (there.2 ∙ same ∙ sym peer_is) in
          sym there.3 ∙ ap (λ (l : AssociationIdentity). l.my.tag) one ∙ own_is

  pub read_of_both : (key own : ℕ) → HadBoth past key own → (theirs : AssociationIdentity) → HasEffect (holds theirs) their_past → theirs.peer.tag ≡ key → theirs.my.tag ≡ own → with_tag own reading.reads ≡ with_key key reading.reads
  read_of_both = read_among reading.reads (λ r has. has)

  -- ---- what was reset

  -- A reset that was reported was performed in an association that crosses.
  pub record IsCrossedReset (report : ReportedReset) : Type 0 where
    pub link : AssociationIdentity
    pub held : HasEffect (holds link) their_past
    pub peer_is : link.peer.tag ≡ report.tags.peer
    pub own_is : link.my.tag ≡ report.tags.own
    pub both : HadBoth past report.tags.peer report.tags.own
    pub performed : HasEntry report.reset (ends.gets report.tags.peer).performed

  pub crossed_reset : (report : ReportedReset) → HasEntry report reading.resets → IsCrossedReset report
  crossed_reset report has = by_link (h.receiver.were_reset report has).was_of
    where
      performed : HasEntry report.reset (ends.gets report.tags.peer).performed
      performed = (h.receiver.were_reset report has).performed

      none_before : report.tags.peer ≡ 0 → ⊥
      none_before zero =
          elim (h.receiver.begun 0) [
            | inl new ↦ subst (λ (g : ReceivingEnd). HasEntry report.reset g.performed) (ap ends.gets zero ∙ new) performed
            | inr had ↦ had.some refl
          ]

      by_link : AreOfLink their_past report.tags → IsCrossedReset report
      by_link (inl none) = absurd (none_before (ap (λ (t : Tags). t.peer) none))
      by_link (inr (link, held, is)) =
          elim (h.alone report.tags.peer) [
            | inl met ↦
                (let one : met.link ≡ link = theirs_differ met.link link met.held held (met.tag_is ∙ ap (λ (t : Tags). t.peer) is) in
                record {
                  link = link;
                  held = held;
                  peer_is = ap (λ (t : Tags). t.peer) (sym is);
                  own_is = ap (λ (t : Tags). t.own) (sym is);
                  both = subst (HadBoth past report.tags.peer) (ap (λ (l : AssociationIdentity). l.my.tag) one ∙ ap (λ (t : Tags). t.own) (sym is)) met.both;
                  performed = performed;
                })
            | inr run ↦
                absurd (subst (HasEntry report.reset)
                (none_performed options (ends.firsts report.tags.peer) options.max_receiver_window_buffer_size (direction_of_ends (unbegun_end options) (ends.gets report.tags.peer)) run refl) performed)
          ]

  -- Two tags of the sender whose peers have one tag are one.
  pub one_key : (one two own : ℕ) → HadBoth past one own → HadBoth past two own → one ≡ two
  one_key one two own first second =
      sym first.tag_is ∙ ap (λ (l : AssociationIdentity). l.my.tag) (mine_differ first.link second.link first.held second.held (first.peer_is ∙ sym second.peer_is)) ∙ second.tag_is

-- An Established socket ignores a COOKIE ACK, and takes the data behind it and the packets of data after it.
use Rattle.std.proofs.Common.{◌≡◌, ◌≢◌, ◌⊎◌, ℕ, true, List, [], ◌∷◌, sym, subst, ap, ◌∙◌}
use Rattle.std.specs.Prelude.{◌==◌}
use Rattle.dcsctp_spec_lemmas.specs.types.declared.association.Held.{Held}
use Rattle.dcsctp_spec_lemmas.specs.types.declared.association.Pair.{Pair}
use Rattle.dcsctp_spec_lemmas.specs.types.declared.options.Options.{Options}
use Rattle.dcsctp_spec_lemmas.specs.types.Settings.{FitsOptions, ports_of}
use Rattle.dcsctp_spec_lemmas.specs.spec.CookieFits.{FitsPair}
use Rattle.dcsctp_spec_lemmas.specs.spec.Packet.{Content, Emission, emission_bytes}
use Rattle.dcsctp_spec_lemmas.specs.spec.endpoint.Endpoint.{open_in, established}
use Rattle.dcsctp_spec_lemmas.specs.spec.endpoint.CallTurns.{Transition, HandleInput}
use Rattle.dcsctp_theorem_sockets.proofs.HandshakeReads.{Wire}
use Rattle.dcsctp_theorem_progress.proofs.Views.{View, view_then}
use Rattle.dcsctp_theorem_progress.proofs.HandedAll.{HoldsAlong}
use Rattle.dcsctp_theorem_progress.proofs.Flows.{Flows, AreCarriedFor, AllCarryTo}
use Rattle.dcsctp_theorem_progress.proofs.Walks.{StayAlong}
use Rattle.dcsctp_theorem_progress.proofs.Establishing.{ack_then}
use Rattle.dcsctp_theorem_progress.proofs.Acknowledged.{opened_along}
use Rattle.dcsctp_theorem_progress.proofs.Colliding.{ignores_along}
use Rattle.dcsctp_theorem_progress.proofs.EchoComes.{bytes_of, carried_as}

-- It is Established with this peer, as it was, and has told nothing since.
pub record StaysOpen (held : Held) (v now : View) : Type 0 where
  pub core : now.endpoint.core ≡ v.endpoint.core
  pub options : now.endpoint.options ≡ v.endpoint.options
  pub flows : Flows held now.endpoint
  pub told : now.told ≡ v.told

-- With these packets to come the COOKIE ACK is still to come, or has come and only data comes. The peer has this association.
pub data AckIgnored (b : Options) (v : View) (held theirs : Held) (more : List Content) (rest : List Emission) (xs : List (List ℕ)) (now : View) : Type 0 where
  unheard : xs ≡ bytes_of b (ack_then theirs theirs.peer.tag more ∷ rest) → now ≡ v → AckIgnored b v held theirs more rest xs now
  heard : (left : List Emission) → AllCarryTo theirs left → xs ≡ bytes_of b left → StaysOpen held v now → AckIgnored b v held theirs more rest xs now

-- what both sides are for it
pub record IgnoresFits (b : Options) (v : View) (my : Pair) (held theirs : Held) : Type 0 where
  pub core : v.endpoint.core ≡ open_in established my held
  pub flows : Flows held v.endpoint
  pub fits : FitsOptions b
  pub own : FitsPair my
  pub peer : theirs.peer ≡ my
  pub port : b.remote_port ≡ v.endpoint.options.local_port
  pub interleaves : theirs.capabilities.message_interleaving ≡ held.capabilities.message_interleaving
  pub abandons : theirs.capabilities.partial_reliability ≡ held.capabilities.partial_reliability
  pub checked : ((theirs.capabilities.zero_checksum_method.0 == 0) ≡ true) ⊎ (v.endpoint.options.zero_checksum_alternate_error_detection_method.0 ≢ 0)

head_is : (x y : List ℕ) (xs ys : List (List ℕ)) → x ∷ xs ≡ y ∷ ys → x ≡ y
head_is x y xs ys same = cc

tail_is : (x y : List ℕ) (xs ys : List (List ℕ)) → x ∷ xs ≡ y ∷ ys → xs ≡ ys
tail_is x y xs ys same = cc

first_comes : Wire → (b : Options) (v : View) (my : Pair) (held theirs : Held) (more : List Content) (rest : List Emission) (xs : List (List ℕ)) (turns : List Transition) → IgnoresFits b v my held theirs
    → AreCarriedFor theirs more → AllCarryTo theirs rest → xs ≡ bytes_of b rest
    → HandleInput v.endpoint (emission_bytes (ports_of b) (ack_then theirs theirs.peer.tag more)) turns → AckIgnored b v held theirs more rest xs (view_then v turns)
first_comes wire b v my held theirs more rest xs turns fits carried others is input =
    let h : StayAlong held v.endpoint turns =
    ignores_along wire v.endpoint b my held _ more turns fits.core fits.flows fits.fits fits.own fits.port fits.checked (carried_as _ _ _ _ more fits.interleaves fits.abandons carried)
    (subst (λ (p : Pair). HandleInput v.endpoint (emission_bytes (ports_of b) (ack_then theirs p.tag more)) turns) fits.peer input) in
    heard rest others is (record { core = h.core; options = h.options; flows = h.flows; told = h.tells.told v.told })

next_comes : Wire → (b : Options) (v : View) (my : Pair) (held theirs : Held) (more : List Content) (rest : List Emission) (xs : List (List ℕ)) (now : View) (emission : Emission) (left : List Emission) (turns : List Transition)
    → IgnoresFits b v my held theirs → AllCarryTo theirs (emission ∷ left) → xs ≡ bytes_of b left → StaysOpen held v now
    → HandleInput now.endpoint (emission_bytes (ports_of b) emission) turns → AckIgnored b v held theirs more rest xs (view_then now turns)
next_comes wire b v my held theirs more rest xs now emission left turns fits each is h input =
    let along : StayAlong held now.endpoint turns =
    opened_along wire now.endpoint b my held theirs.capabilities.message_interleaving theirs.capabilities.partial_reliability (theirs.capabilities.zero_checksum_method.0 == 0) emission turns
    (h.core ∙ fits.core) h.flows fits.fits fits.own (fits.port ∙ ap (λ (o : Options). o.local_port) (sym h.options)) fits.interleaves fits.abandons
    (subst (λ (o : Options). ((theirs.capabilities.zero_checksum_method.0 == 0) ≡ true) ⊎ (o.zero_checksum_alternate_error_detection_method.0 ≢ 0)) (sym h.options) fits.checked)
    (record { checked = each.0.checked; header = each.0.header ∙ ap (λ (p : Pair). p.tag) fits.peer; contents = each.0.contents }) input in
    heard left each.1 is (record { core = along.core ∙ h.core; options = along.options ∙ h.options; flows = along.flows; told = along.tells.told now.told ∙ h.told })

ignored_step : Wire → (b : Options) (v : View) (my : Pair) (held theirs : Held) (more : List Content) (rest : List Emission) → IgnoresFits b v my held theirs → AreCarriedFor theirs more → AllCarryTo theirs rest
    → (x : List ℕ) (xs : List (List ℕ)) (now : View) (turns : List Transition) → AckIgnored b v held theirs more rest (x ∷ xs) now → HandleInput now.endpoint x turns → AckIgnored b v held theirs more rest xs (view_then now turns)
ignored_step wire b v my held theirs more rest fits carried others x xs now turns (unheard is same) input =
    subst (λ (y : View). AckIgnored b v held theirs more rest xs (view_then y turns)) (sym same)
    (first_comes wire b v my held theirs more rest xs turns fits carried others (tail_is _ _ _ _ is)
    (subst (λ (y : List ℕ). HandleInput v.endpoint y turns) (head_is _ _ _ _ is) (subst (λ (y : View). HandleInput y.endpoint x turns) same input)))
ignored_step wire b v my held theirs more rest fits carried others x xs now turns (heard [] each is h) input = absurd (cc)
ignored_step wire b v my held theirs more rest fits carried others x xs now turns (heard (emission ∷ left) each is h) input =
    next_comes wire b v my held theirs more rest xs now emission left turns fits each (tail_is _ _ _ _ is) h (subst (λ (y : List ℕ). HandleInput now.endpoint y turns) (head_is _ _ _ _ is) input)

ignored_keeps : (b options : Options) (v : View) (held theirs : Held) (more : List Content) (rest : List Emission) (xs : List (List ℕ)) (now : View) → v.endpoint.options ≡ options
    → AckIgnored b v held theirs more rest xs now → now.endpoint.options ≡ options
ignored_keeps b options v held theirs more rest xs now keep (unheard is same) = ap (λ (y : View). y.endpoint.options) same ∙ keep
ignored_keeps b options v held theirs more rest xs now keep (heard left each is h) = h.options ∙ keep

pub ignored_along : Wire → (b options : Options) (v : View) (my : Pair) (held theirs : Held) (more : List Content) (rest : List Emission) → v.endpoint.options ≡ options → IgnoresFits b v my held theirs
    → AreCarriedFor theirs more → AllCarryTo theirs rest → HoldsAlong options (AckIgnored b v held theirs more rest)
ignored_along wire b options v my held theirs more rest keep fits carried others =
    record { keeps = λ xs now h. ignored_keeps b options v held theirs more rest xs now keep h; step = ignored_step wire b v my held theirs more rest fits carried others }

pub ignored_in_the_end : (b : Options) (v : View) (held theirs : Held) (more : List Content) (rest : List Emission) (now : View) → AckIgnored b v held theirs more rest [] now → StaysOpen held v now
ignored_in_the_end b v held theirs more rest now (unheard is same) = absurd (cc)
ignored_in_the_end b v held theirs more rest now (heard left each is h) = h

-- What was said stays said as more is done in an association.
use Rattle.std.proofs.Common.{◌≡◌, ℕ, Bool, true, false, ◌≤◌, ◌<◌, ◌+◌, List, [], ◌∷◌, ◌++◌, length, refl, sym, ◌∙◌, arith, inr, ap, inl, subst}
use Rattle.std.specs.Prelude.{◌⊎◌, Option, None, Some}
use Rattle.std.proofs.lemmas.List.{length-append}
use Rattle.dcsctp_spec.specs.wire.Content.{ChunkContent, data_chunk, i_data_chunk, init_chunk, init_ack_chunk, sack_chunk, heartbeat_chunk, heartbeat_ack_chunk, abort_chunk, shutdown_chunk, shutdown_ack_chunk, error_chunk, cookie_echo_chunk, cookie_ack_chunk, shutdown_complete_chunk, re_config_chunk, forward_tsn_chunk, i_forward_tsn_chunk, unknown_chunk}
use Rattle.dcsctp_spec.specs.Packet.{Plain, unknown, heartbeat, heartbeat_ack, unworked, plain, init, init_ack, cookie_echo, cookie_ack, re_config, abort, shutdown, shutdown_ack, shutdown_complete, Content, Emission}
use Rattle.dcsctp_spec.specs.Reconfiguration.{ResetParameter, outgoing_reset_request, incoming_reset_request, reconfiguration_response, other_reset_parameter}
use Rattle.dcsctp_spec.specs.queues.Incoming.{is_named}
use Rattle.dcsctp_spec.specs.queues.Sending.{Fragment}
use Rattle.dcsctp_spec.specs.endpoint.BegunResets.{BegunReset}
use Rattle.dcsctp_delivery_directions.specs.sending.Places.{HasEntry, at_place}
use Rattle.dcsctp_delivery_directions.specs.sending.Log.{Slot, Piece, Mark, History, log_extended, with_mark, with_renewed}
use Rattle.dcsctp_delivery_directions.specs.sending.Numbers.{IsPieceOfKind}
use Rattle.dcsctp_delivery_directions.specs.sending.Stages.{SaysTsn}
use Rattle.dcsctp_delivery_directions.specs.sending.Flushes.{IsPassed, AreForwardEntries, HasLimited, PassesAcknowledged, IsForward, SaysPlain, AreBegun, SaysContent, SayAll, PacketsSay}
use Rattle.dcsctp_delivery_directions.specs.sending.Naming.{NamesPassed, IsOfPiece, carries, closes}
use Rattle.dcsctp_delivery_directions.proofs.sending.Places.{at_some, at_stays}

pub at_more : {A : Type 0} (more log : List A) (n : ℕ) (x : A) → at_place n log ≡ Some x → at_place n (more ++ log) ≡ Some x
at_more [] log n x at = at
at_more (slot ∷ more) log n x at = at_stays n slot x (more ++ log) (at_more more log n x at)

-- It lies where a reset of this history does, and names the same streams.
pub record IsAsOne (history : History) (mark : Mark) : Type 0 where
  pub one : Mark
  pub has : HasEntry one history.marks
  pub bound : mark.bound ≡ one.bound
  pub ids : mark.ids ≡ one.ids

pub as_itself : (history : History) (mark : Mark) → HasEntry mark history.marks → IsAsOne history mark
as_itself history mark has = record { one = mark; has = has; bound = refl; ids = refl }

-- So does the request of another number.
pub as_renewed : (history : History) (number : ℕ) (renewed mark : Mark) → HasEntry renewed history.marks → HasEntry mark (with_renewed number renewed history).marks → IsAsOne history mark
as_renewed history number renewed mark known has =
    elim has [
      | inl e ↦ record { one = renewed; has = known; bound = ap (λ (m : Mark). m.bound) e; ids = ap (λ (m : Mark). m.ids) e }
      | inr old ↦ as_itself history mark old
    ]

-- The later history has all TSNs and resets of the earlier one.
pub record Extends (old new : History) : Type 0 where
  pub at : (n : ℕ) (slot : Slot) → at_place n old.log ≡ Some slot → at_place n new.log ≡ Some slot
  pub size : length old.log ≤ length new.log
  pub marks : (mark : Mark) → HasEntry mark old.marks → HasEntry mark new.marks
  -- A later reset comes after all TSNs of the earlier history, or is one of its resets under another number.
  pub later : (mark : Mark) → HasEntry mark new.marks → IsAsOne old mark ⊎ (length old.log ≤ mark.bound)

pub extends_grown : (more : List Slot) (history : History) → Extends history (log_extended more history)
extends_grown more history = record { at = at_more more history.log; size = omega (arith, length-append more history.log); marks = λ mark has. has; later = λ mark has. inl (as_itself history mark has) }

pub extends_marked : (begun : Option BegunReset) (ids : List ℕ) (bound : ℕ) (history : History) → length history.log ≤ bound → Extends history (with_mark begun ids bound history)
extends_marked None ids bound history low = record { at = λ n slot at. at; size = omega arith; marks = λ mark has. has; later = λ mark has. inl (as_itself history mark has) }
extends_marked (Some begun) ids bound history low =
    record {
      at = λ n slot at. at;
      size = omega arith;
      marks = λ mark has. inr has;
      later = λ mark has. elim has [ inl e ↦ inr (let is : mark.bound ≡ bound = ap (λ (m : Mark). m.bound) e in omega (arith, low)) | inr old ↦ inl (as_itself history mark old) ];
    }

-- a reset that was begun among more TSNs
pub extends_noted : (begun : Option BegunReset) (ids : List ℕ) (bound : ℕ) (more : List Slot) (history : History) → length history.log ≤ bound → Extends history (with_mark begun ids bound (log_extended more history))
extends_noted None ids bound more history low = extends_grown more history
extends_noted (Some begun) ids bound more history low =
    record {
      at = at_more more history.log;
      size = omega (arith, length-append more history.log);
      marks = λ mark has. inr has;
      later = λ mark has. elim has [ inl e ↦ inr (let is : mark.bound ≡ bound = ap (λ (m : Mark). m.bound) e in omega (arith, low)) | inr old ↦ inl (as_itself history mark old) ];
    }

-- a reset that continues under another number
pub extends_renewed : (number : ℕ) (renewed : Mark) (history : History) → HasEntry renewed history.marks → Extends history (with_renewed number renewed history)
extends_renewed number renewed history known =
    record { at = λ n slot at. at; size = omega arith; marks = λ mark has. inr has; later = λ mark has. inl (as_renewed history number renewed mark known has) }

-- A mark of the one is as one of the other, which is as one of a third.
as_then : (old between : History) (mark : Mark) → (is : IsAsOne between mark) → IsAsOne old is.one → IsAsOne old mark
as_then old between mark is earlier = record { one = earlier.one; has = earlier.has; bound = is.bound ∙ earlier.bound; ids = is.ids ∙ earlier.ids }

pub extends_then : (old between new : History) → Extends old between → Extends between new → Extends old new
extends_then old between new one two =
    record {
      at = λ n slot at. two.at n slot (one.at n slot at);
      size = (let less = one.size in let less' = two.size in omega (arith, less, less'));
      marks = λ mark has. two.marks mark (one.marks mark has);
      later = λ mark has. elim (two.later mark has) [
        | inl earlier ↦ elim (one.later earlier.one earlier.has) [
          | inl is ↦ inl (as_then old between mark earlier is)
          | inr behind ↦ inr (let same = earlier.bound in omega (arith, behind, same))
        ]
        | inr less' ↦ inr (let less = one.size in omega (arith, less, less'))
      ];
    }

module _ (old new : History) (extends : Extends old new) (first before after : ℕ) (less : before ≤ after) where
  says_later : (n : ℕ) (part : Fragment) → SaysTsn old.log n part → SaysTsn new.log n part
  says_later n part says =
      record {
        slot = says.slot;
        at = extends.at n says.slot says.at;
        says = says.says;
      }

  kind_later : (is_interleaved : Bool) (n : ℕ) (slot : Slot) → at_place n old.log ≡ Some slot → IsPieceOfKind is_interleaved old.log n → IsPieceOfKind is_interleaved new.log n
  kind_later is_interleaved n slot at kind f at' =
      let both : Some slot ≡ Some (Some f) = sym (extends.at n slot at) ∙ at' in
      kind f (at ∙ both)

  none_before : (marks : List Mark) → ((mark : Mark) → HasEntry mark marks → HasEntry mark new.marks) → new.marks ≡ [] → marks ≡ []
  none_before [] among none = refl
  none_before (mark ∷ marks) among none = absurd (let has : HasEntry mark [] = subst (λ (l : List Mark). HasEntry mark l) none (among mark (inl refl)) in has)

  entries_later : (is_interleaved : Bool) (passed : ℕ) (entries : List ((ℕ × Bool) × ℕ)) → passed ≤ length old.log → AreForwardEntries is_interleaved old passed entries → AreForwardEntries is_interleaved new passed entries
  entries_later is_interleaved passed [] below names = tt
  entries_later is_interleaved passed (entry ∷ entries) below names = (
    record {
      number = names.0.number;
      piece = names.0.piece;
      at = extends.at names.0.number (Some names.0.piece) names.0.at;
      within = λ mark has resets less. elim (extends.later mark has) [
        | inl is ↦
            (let same = is.bound in
            let passes = names.0.within is.one is.has (subst (λ (ids : List ℕ). is_named ids names.0.piece.message.stream ≡ true) is.ids resets) (omega (arith, less, same)) in
            omega (arith, passes, same))
        | inr past ↦ omega (arith, below, past)
      ];
      kind = names.0.kind;
      stream = names.0.stream;
      unordered = names.0.unordered;
      mid = names.0.mid;
      ordered = names.0.ordered;
      ssn = names.0.ssn;
      over = λ kind none. (
          let o = names.0.over kind (none_before old.marks extends.marks none) in
          record { offset = o.offset; slot = o.slot; from = o.from; to = o.to; at = extends.at o.offset o.slot o.at; ends = o.ends }
          );
      limited = names.0.limited;
      before = names.0.before;
      highest = λ kind n f at less on same. (
          let (slot, was) = at_some n old.log (omega (arith, below, less)) in
          let both : Some slot ≡ Some (Some f) = sym (extends.at n slot was) ∙ at in
          names.0.highest kind n f (was ∙ both) less on same
          );
    },
    entries_later is_interleaved passed entries below names.1,
  )

  passed_later : (tsn : ℕ) → IsPassed old.log first tsn → IsPassed new.log first tsn
  passed_later tsn p = record { passed = p.passed; below = (let size = extends.size in omega (arith, p.below, size)); is = p.is }

  limited_later : (is_interleaved : Bool) → HasLimited is_interleaved old.log → HasLimited is_interleaved new.log
  limited_later is_interleaved is = record { number = is.number; piece = is.piece; at = extends.at is.number (Some is.piece) is.at; limited = is.limited; kind = is.kind }

  -- what it passes was assigned before
  reliable_later : (passed : ℕ) → passed ≤ length old.log → PassesAcknowledged old.log before passed → PassesAcknowledged new.log after passed
  reliable_later passed below reliable n f at low unlimited =
      let (slot, was) = at_some n old.log (omega (arith, below, low)) in
      let both : Some slot ≡ Some (Some f) = sym (extends.at n slot was) ∙ at in
      omega (arith, less, reliable n f (was ∙ both) low unlimited)

  -- a TSN that was assigned before
  was_of : (n : ℕ) (f : Piece) → n < length old.log → IsOfPiece new.log f n → IsOfPiece old.log f n
  was_of _ f below (carries n at) = (let (slot, was) = at_some n old.log below in let both : Some slot ≡ Some (Some f) = sym (extends.at n slot was) ∙ at in carries n (was ∙ both))
  was_of _ f below (closes n at end) =
      let (slot, was) = at_some n old.log (omega (arith, below)) in
      let both : Some slot ≡ Some (Some f) = sym (extends.at n slot was) ∙ at in
      let (slot', was') = at_some (n + 1) old.log below in
      let both' : Some slot' ≡ Some None = sym (extends.at (n + 1) slot' was') ∙ end in
      closes n (was ∙ both) (was' ∙ both')

  each_later : (passed : ℕ) (entries : List ((ℕ × Bool) × ℕ)) → passed ≤ length old.log → NamesPassed old.log before passed entries → NamesPassed new.log after passed entries
  each_later passed entries below each n f of low =
      elim (each n f (was_of n f (omega (arith, below, low)) of) low) [
        | inl e ↦ inl (omega (arith, less, e))
        | inr named ↦ inr named
      ]

  forward_later : (is_interleaved : Bool) (tsn : ℕ) (streams : List ℕ) → IsForward is_interleaved old first before tsn streams → IsForward is_interleaved new first after tsn streams
  unfolding passed_later
  forward_later is_interleaved tsn streams f = record { passed = passed_later tsn f.passed; entries = f.entries; is = f.is; names = entries_later is_interleaved f.passed.passed f.entries f.passed.below f.names; limited = limited_later is_interleaved f.limited; reliable = reliable_later f.passed.passed f.passed.below f.reliable; each = λ kind. each_later f.passed.passed f.entries f.passed.below (f.each kind) }

  open_later : (chunk : ChunkContent) → SaysPlain old first before (unworked chunk) → SaysPlain new first after (unworked chunk)
  open_later (data_chunk d) says =
      record { number = says.number; part = says.part; says = says_later says.number says.part says.says; is = says.is; kind = kind_later false says.number says.says.slot says.says.at says.kind }
  open_later (i_data_chunk d) says =
      record { number = says.number; part = says.part; says = says_later says.number says.part says.says; is = says.is; kind = kind_later true says.number says.says.slot says.says.at says.kind }
  open_later (init_chunk c) says = tt
  open_later (init_ack_chunk c) says = tt
  open_later (sack_chunk c) says = tt
  open_later (heartbeat_chunk ps) says = tt
  open_later (heartbeat_ack_chunk ps) says = tt
  open_later (abort_chunk b cs) says = tt
  open_later (shutdown_chunk t) says = tt
  open_later shutdown_ack_chunk says = tt
  open_later (error_chunk cs) says = tt
  open_later (cookie_echo_chunk bs) says = tt
  open_later cookie_ack_chunk says = tt
  open_later (shutdown_complete_chunk b) says = tt
  open_later (re_config_chunk ps) says = tt
  open_later (forward_tsn_chunk t bs) says = forward_later false t bs says
  open_later (i_forward_tsn_chunk t bs) says = forward_later true t bs says
  open_later (unknown_chunk t f bs) says = tt

  plain_later : (chunk : Plain) → SaysPlain old first before chunk → SaysPlain new first after chunk
  plain_later (unknown type flags value) says = tt
  plain_later (heartbeat parameters) says = tt
  plain_later (heartbeat_ack parameters) says = tt
  plain_later (unworked chunk) says = open_later chunk says

  begun_later : (parameters : List ResetParameter) → AreBegun old parameters → AreBegun new parameters
  begun_later [] are = tt
  begun_later (outgoing_reset_request number answered reset ∷ parameters) are = (
    record { mark = are.0.mark; has = extends.marks are.0.mark are.0.has; is = are.0.is },
    begun_later parameters are.1,
  )
  begun_later (incoming_reset_request number streams ∷ parameters) are = absurd are
  begun_later (reconfiguration_response number result ∷ parameters) are = begun_later parameters are
  begun_later (other_reset_parameter content ∷ parameters) are = begun_later parameters are

  content_later : (content : Content) → SaysContent old first before content → SaysContent new first after content
  content_later (init i) says = tt
  content_later (init_ack i b) says = tt
  content_later (cookie_echo b) says = tt
  content_later cookie_ack says = tt
  content_later (re_config ps) says = begun_later ps says
  content_later (abort b cs) says = tt
  content_later (shutdown t) says = tt
  content_later shutdown_ack says = tt
  content_later (shutdown_complete b) says = tt
  content_later (plain chunk) says = plain_later chunk says

  pub all_later : (contents : List Content) → SayAll old first before contents → SayAll new first after contents
  all_later [] say = tt
  all_later (c ∷ contents) say = (content_later c say.0, all_later contents say.1)

  pub packets_later : (emissions : List Emission) → PacketsSay old first before emissions → PacketsSay new first after emissions
  packets_later [] say = tt
  packets_later (e ∷ emissions) say = (all_later e.packet.contents say.0, packets_later emissions say.1)

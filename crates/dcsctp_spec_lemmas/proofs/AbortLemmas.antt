-- What an ABORT or an ERROR does, by cases: it ends the association, the user is told, or nothing happens.
use Rattle.std.proofs.Common.{Bool, true, false, List, []}
use Rattle.std.specs.Prelude.{if◌then◌else◌}
use Rattle.dcsctp_spec.specs.wire.Texts.{causes_text}
use Rattle.dcsctp_spec.specs.types.declared.kinds.ErrorKind.TheVariants.{PeerReported}
use Rattle.dcsctp_spec.specs.types.declared.options.Options.{Options}
use Rattle.dcsctp_spec.specs.endpoint.Cause.{Cause}
use Rattle.dcsctp_spec.specs.endpoint.Event.{aborted}
use Rattle.dcsctp_spec.specs.endpoint.Endpoint.{Endpoint, Core, closed, cookie_wait, cookie_echoed, open_in}
use Rattle.dcsctp_spec.specs.endpoint.Outcome.{Outcome, still, quiet, reports}
use Rattle.dcsctp_spec.specs.endpoint.EndOutcomes.{ended_outcome, abort_outcome}
use Rattle.dcsctp_spec.specs.endpoint.PlainOutcomes.{ends_handshake, echoed_error_outcome, error_outcome}
use Rattle.dcsctp_spec.specs.association.Effect.{Change, no_change, ending_change}
use Rattle.dcsctp_spec.specs.association.ShutdownChanges.{is_ended_by_abort, abort_change}

-- either of two values by a test
by_test : {X : Type 0} (P : X → Type 0) (b : Bool) (one other : X) → P one → P other → P (if b then one else other)
by_test P true one other first second = first
by_test P false one other first second = second

-- of the association
pub by_abort : (P : Change → Type 0) (options : Options) (core : Core) → P (ending_change []) → P (no_change core) → P (abort_change options core)
by_abort P options core ends stays = by_test P (is_ended_by_abort options core) (ending_change []) (no_change core) ends stays

-- of the endpoint
pub by_abort_outcome : (P : Outcome → Type 0) (e : Endpoint) (causes : List Cause) (core : Core)
    → P (ended_outcome (quiet e [] []) (aborted PeerReported (causes_text causes))) → P (still e) → P (abort_outcome e causes core)
by_abort_outcome P e causes core ends stays =
    by_test P (is_ended_by_abort e.options core) (ended_outcome (quiet e [] []) (aborted PeerReported (causes_text causes))) (still e) ends stays

by_echoed_error : (P : Outcome → Type 0) (b : Bool) (e : Endpoint) (causes : List Cause)
    → P (ended_outcome (quiet e [] []) (aborted PeerReported (causes_text causes))) → P (reports e PeerReported (causes_text causes)) → P (echoed_error_outcome b e causes)
by_echoed_error P true e causes ends told = ends
by_echoed_error P false e causes ends told = told

pub by_error_outcome : (P : Outcome → Type 0) (e : Endpoint) (core : Core) (causes : List Cause)
    → P (ended_outcome (quiet e [] []) (aborted PeerReported (causes_text causes))) → P (reports e PeerReported (causes_text causes)) → P (still e) → P (error_outcome e core causes)
by_error_outcome P e closed causes ends told stays = stays
by_error_outcome P e (cookie_wait my) causes ends told stays = stays
by_error_outcome P e (cookie_echoed my held cookie) causes ends told stays = by_echoed_error P (ends_handshake e causes) e causes ends told
by_error_outcome P e (open_in phase my held) causes ends told stays = told

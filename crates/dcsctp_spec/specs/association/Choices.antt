-- What a turn of the association takes from the rest of the endpoint. In a run each of these may be anything, with two
-- exceptions. A drawn tag is fresh, and a cookie reads back as what its maker put in.
use Rattle.std.specs.Prelude.{ℕ, Bool, true, false, Option, None, List, [], map}
use Rattle.dcsctp_types.specs.declared.association.Pair.{Pair}
use Rattle.dcsctp_spec.specs.endpoint.Cause.{Cause}
use Rattle.dcsctp_spec.specs.Packet.{Plain, Content, plain}
use Rattle.dcsctp_spec.specs.endpoint.Following.{Following, next_chunk}
use Rattle.dcsctp_spec.specs.Reconfiguration.{RequestedReset, RequestState, due}

abbrev pub plain_contents : List Plain → List Content
plain_contents chunks = map plain chunks

-- what a flush finds to send
pub record Filling : Type 0 where
  -- Does `max_burst` allow a packet?
  pub is_allowed : Bool
  -- in the first packet, after what its builder holds: SACK, FORWARD-TSN
  pub acknowledgements : List Plain
  -- the reset that is begun, if a stream is ready for it and the request fits
  pub reset : Option RequestedReset
  -- the data after it
  pub data_chunks : List Plain
  -- the packets after the first
  pub further : List (List Plain)

pub record Choices : Type 0 where
  -- the pair that is drawn, if one is
  pub drawn : Pair
  -- the bytes of the cookie, if one is made
  pub cookie : List ℕ
  -- the association's tie tag (RFC 9260, section 5.2.2), and what a cookie bears in its place where there is no association
  pub tie : ℕ
  pub secret : ℕ
  -- May an INIT be answered?
  pub may_answer : Bool
  -- Is the cookie of a COOKIE ECHO older than its lifetime?
  pub is_stale : Bool
  -- Does the packet of one chunk fit?
  pub fits : Bool
  -- May a shutdown continue: is all data acknowledged that was sent?
  pub is_acknowledged : Bool
  -- what an Outgoing SSN Reset Request finds
  pub state : RequestState
  -- Does the chunk break the negotiated protocol, and with which text? Or does it say that our cookie was too old?
  pub is_violation : Bool
  pub causes : List Cause
  -- the cumulative TSN ack of a SHUTDOWN that is sent
  pub tsn : ℕ
  -- what follows a chunk that doesn't concern the association, or a SHUTDOWN ACK that isn't awaited
  pub following : Following
  -- packets that don't concern the association, before a flush: HEARTBEAT ACK, ERROR, a fast retransmit
  pub plain : List (List Plain)
  pub filling : Filling

-- no data, no acknowledgement, no reset
abbrev pub nothing_to_send : Filling
nothing_to_send = record { is_allowed = true; acknowledgements = []; reset = None; data_chunks = []; further = [] }

-- the choices of an endpoint that has nothing to send, where each packet fits, and this pair is drawn
abbrev pub idle_choices : Pair → Choices
idle_choices drawn =
    record {
      drawn = drawn;
      cookie = [];
      tie = 0;
      secret = 0;
      may_answer = true;
      is_stale = false;
      fits = true;
      is_acknowledged = true;
      state = due;
      is_violation = false;
      causes = [];
      tsn = 0;
      following = next_chunk;
      plain = [];
      filling = nothing_to_send;
    }

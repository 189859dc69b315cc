-- What a call of a socket with channels leaves, by its result; and the calls of the association.
use Rattle.std.specs.Prelude.{◌≡◌, ◌≤◌, ℕ, ◌+◌, true, false, Result, Ok, Err, IfOk, List, ◌++◌, nat_lt, if◌then◌else◌}
use Rattle.dcsctp_api.specs.declared.errors.SocketFault.{SocketFault}
use Rattle.dcsctp_api.specs.declared.errors.SocketFault.TheVariants.{OutOfMemory, Failed}
use Rattle.dcsctp_api.specs.Calls.{UserView, HandlesInput, Connects, ClosesSocket, ShutsDown}
use Rattle.dcsctp_api.specs.Time.{AdvancesClock}
use Rattle.dcsctp_channel_calls.specs.View.{LayerView, ChannelsView, view_with_events}

-- ---- a call, by its result

abbrev pub IsFrontOf : {A : Type 0} → List A → List A → Type 0
IsFrontOf front whole = (rest : List _) × (whole ≡ front ++ rest)

-- What was to be taken is still there, and no name is given again.
pub record KeepsTaking (old new : LayerView) : Type 0 where
  pub packets : IsFrontOf old.packets new.packets
  pub notices : IsFrontOf old.notices new.notices
  pub names : old.named ≤ new.named
  pub runs : new.failed ≡ old.failed

-- Part of a call: it was made, or no memory is left. Nothing is taken in it.
abbrev pub PartGoes : {A E : Type 0} → (A → ChannelsView → ChannelsView → Type 0) → ChannelsView → Result A E → ChannelsView → Type 0
PartGoes Done old result new = KeepsTaking old.layer new.layer × IfOk result (λ answer. Done answer old new)

-- An allocation failed, in this layer or in the socket below: each later call fails. Names and message counts that would
-- be 2^64 fail in the same way.
pub record RunsOut (old new : ChannelsView) : Type 0 where
  pub runs : old.layer.failed ≡ false
  pub left : LayerView
  pub keeps : KeepsTaking old.layer left
  pub only : new.layer ≡ record left { failed = true }

pub record HadFailed (old new : ChannelsView) : Type 0 where
  pub had : old.layer.failed ≡ true
  pub same : new ≡ old

-- It was made, and nothing has failed.
pub record Succeeds (Done : ChannelsView → Type 0) (old new : ChannelsView) : Type 0 where
  pub runs : old.layer.failed ≡ false
  pub goes_on : new.layer.failed ≡ false
  pub done : Done new

-- It was made; or an allocation failed in it; or one had failed before.
abbrev pub Answers : {A : Type 0} → (A → ChannelsView → ChannelsView → Type 0) → ChannelsView → Result A SocketFault → ChannelsView → Type 0
Answers Answered old (Ok answer) new = Succeeds (Answered answer old) old new
Answers Answered old (Err OutOfMemory) new = RunsOut old new
Answers Answered old (Err Failed) new = HadFailed old new

-- ---- calls of the association

-- The socket makes a call, and its events are taken over.
pub record OnlySocket (Makes : UserView → Type 0) (old new : ChannelsView) : Type 0 where
  pub below : UserView
  pub makes : Makes below
  pub is : new ≡ view_with_events (record old { below = below })

-- the same socket, and what this makes of the layer
abbrev pub on_layer : (LayerView → LayerView) → ChannelsView → ChannelsView
on_layer becomes view = record view { layer = becomes view.layer }

abbrev pub SocketConnects : ChannelsView → ChannelsView → Type 0
SocketConnects old new = OnlySocket (Connects old.below (Ok tt)) old new

abbrev pub SocketCloses : ChannelsView → ChannelsView → Type 0
SocketCloses old new = OnlySocket (ClosesSocket old.below (Ok tt)) old new

abbrev pub SocketShutsDown : ChannelsView → ChannelsView → Type 0
SocketShutsDown old new = OnlySocket (ShutsDown old.below (Ok tt)) old new

-- What came may have made room.
abbrev pub SocketHandlesInput : List ℕ → ChannelsView → ChannelsView → Type 0
SocketHandlesInput packet old new = OnlySocket (HandlesInput old.below packet (Ok tt)) (on_layer (λ layer. record layer { has_room = true }) old) new

abbrev pub clock_set : ℕ → LayerView → LayerView
clock_set moment layer = record layer { has_room = true; moment = if nat_lt layer.moment moment then moment else layer.moment }

-- The layer's clock is set with the socket's, and never back.
abbrev pub SocketAdvances : ℕ → ChannelsView → ChannelsView → Type 0
SocketAdvances moment old new =
    OnlySocket (AdvancesClock old.below moment (Ok tt)) (on_layer (clock_set moment) old) new

pub mod Layers
pub mod Handshakes
pub mod Shutdowns
pub mod DataTurns
pub mod Chunks
pub mod Turns
mod Timed
mod TimedRuns
mod Controls
mod Wide
mod Delayed
mod Following
mod PacketEnds
mod Asking
mod Opening
mod Dropping
mod Settling
mod SettledTurns
mod SettledCalls
mod SettledRuns
mod Resending
mod ResendingFlush
mod ResendingLosses
mod Leaving
mod Taking
mod Extending
mod Acknowledged
mod Hearing
mod Packing
mod Arriving
mod Recovering
mod Answering
mod Resent
mod Along
mod Behind
mod Unmoved
mod Observing
mod LowestTaken
mod LowestAnswered
mod RecoveringBehind
mod Tracking
mod GivingAlong
mod ExpiringBeats
mod Expiring
mod ExpiringFlushes
mod ExpiringPackets
mod ExpiringLaws
mod Passing
mod TickingTimers
mod Ticking
mod DelayOver
mod InOrder

mod Aborting
mod ActMoves
mod BegunSends
mod BurstChunks
mod BurstData
mod BurstHandshake
mod BurstShutdown
mod BurstTurns
pub mod Bursts
pub mod Bytes
mod DataFits
pub mod Deliver
mod ExpiryMoves
pub mod Follow
mod FlushFits
mod Fresh
mod HandoverTurns
mod HandshakeEnds
pub mod HandshakeReads
mod HandshakeRuns
pub mod HandshakeSizes
pub mod HandshakeTurns
mod HeardShutdowns
pub mod Idle
mod IdleTurns
pub mod Moves
pub mod NewAssociations
pub mod NoHolding
mod NoHoldingTurns
mod NotingAnew
pub mod NumberedQueues
mod OpenStreams
mod PacketMoves
mod PlainFits
mod Quiet
mod RequestAgain
mod Resets
pub mod RestoredFlush
mod RestoreTurns
pub mod Sendable
mod ShutdownFits
pub mod Sent
pub mod Signs
mod SizeLemmas
mod Sizes
mod SizesChunks
mod SizesData
mod SizesShutdown
mod SizesTurns
pub mod SnapshotsBack
pub mod SocketsAgree
pub mod SocketsAlone
mod TurnsFit
pub mod NotedLemmas
pub mod OneSocket
pub mod RunFacts
mod TellingEffects
mod TellingEnds
pub mod TellingFacts
pub mod TimeMoves
pub mod T1Lemmas
mod T1Turns
pub mod TimerFits
pub mod StepMoves
mod T1Chunks
mod T1Data
mod T1Shutdown
mod CookieRules
mod ResetsKeep
mod ChangesKeep
mod TurnsKeep
mod ChunksIn
mod GivenLemmas
pub mod GivenRuns
pub mod Ages

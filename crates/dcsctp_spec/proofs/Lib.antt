pub use Rattle.dcsctp_types.proofs.wire_lemmas as wire_lemmas
pub use Rattle.dcsctp_types.proofs as types_lemmas
pub mod AdmissionFacts
pub mod CallFacts
pub mod ChunkFacts
pub mod CookieEchoFacts
pub mod ErrorFacts
pub mod FlushFacts
pub mod FollowRfcFacts
pub mod FollowRfcTimerFacts
pub mod HandshakeFacts
pub mod HandshakeTurnFacts
pub mod HeartbeatFacts
pub mod MessageFacts
pub mod OutstandingPartFacts
pub mod PartFacts
pub mod PreparedFacts
pub mod QueuedPartFacts
pub mod RangesFacts
pub mod ReconfigurationFacts
pub mod ResetFacts
pub mod SendQueueFacts
pub mod SettingFacts
pub mod ShutdownFacts
pub mod StandardFacts
pub mod TimerFacts
pub mod TurnFacts

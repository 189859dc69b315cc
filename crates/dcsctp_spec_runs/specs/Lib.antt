pub mod Sockets
pub mod Past
pub mod World
pub mod Laws
pub mod Fitting
pub mod Deadlines
pub mod ReceivedReadBack
pub mod SoundRuns

pub mod turns
pub mod associations
pub mod sockets

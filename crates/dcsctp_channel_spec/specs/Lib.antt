pub mod Contents
pub mod Laws
pub mod Slots
pub mod Streams
pub mod Table

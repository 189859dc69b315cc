pub mod Flights
pub mod Received
pub mod Recovered
pub mod Laws

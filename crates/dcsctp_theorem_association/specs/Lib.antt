pub mod Agreement
pub mod InTurn
pub mod OneSide

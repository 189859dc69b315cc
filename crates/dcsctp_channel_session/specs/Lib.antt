pub mod Begin
pub mod Calls
pub mod Handover
pub mod Options
pub mod Records
pub mod Taking
pub mod Views

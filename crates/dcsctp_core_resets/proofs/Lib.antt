pub mod HandlingLemmas
pub mod RepeatingLemmas
pub mod RequestLemmas
pub mod SettlingLemmas
pub mod StreamLemmas

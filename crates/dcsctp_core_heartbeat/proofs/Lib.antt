pub mod SendingLemmas

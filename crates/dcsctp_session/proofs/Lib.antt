mod CopyingLemmas
mod FrontTurns
mod ManyLemmas
mod ManySending
mod OffloadLaws
mod SendingLemmas

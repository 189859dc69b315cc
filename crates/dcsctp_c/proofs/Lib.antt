mod ExportLemmas
mod SlotRows
mod TwoWords

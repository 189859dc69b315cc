pub mod Crc32cBlocks
pub mod Crc32cCopies
pub mod Crc32cFacts
pub mod Crc32cFolds
pub mod Crc32cLemmas
pub mod Crc32cTable

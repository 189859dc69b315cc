pub mod Building
pub mod Checksums

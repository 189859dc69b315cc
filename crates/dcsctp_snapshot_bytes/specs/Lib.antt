pub mod Fields
pub mod Fits
pub mod Gives
pub mod Laws
pub mod Reading
pub mod ReadingItems
pub mod Seal
pub mod Spelling

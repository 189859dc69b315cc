pub mod Parts
pub mod TimeParts
pub mod Unknown
pub mod Admission

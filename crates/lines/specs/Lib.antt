pub mod Texts
pub mod Values
pub mod Numerals
pub mod Cuts
pub mod Readings

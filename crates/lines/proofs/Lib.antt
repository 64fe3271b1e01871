pub mod Numerals
pub mod Fields
pub mod Pieces

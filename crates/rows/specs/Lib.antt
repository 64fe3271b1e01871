pub mod Points
pub mod Lawful
pub mod Moves
pub mod Valuations
pub mod Forcing

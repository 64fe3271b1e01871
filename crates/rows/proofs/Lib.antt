pub mod Points
pub mod Lawful
pub mod Places
pub mod Clocks
pub mod Moves
pub mod Valuations
pub mod Forcing

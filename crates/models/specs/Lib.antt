pub mod Tables
pub mod Shut
pub mod Runs
pub mod Laws

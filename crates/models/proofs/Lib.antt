pub mod Tables
pub mod Runs

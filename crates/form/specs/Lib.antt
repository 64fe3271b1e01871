pub mod Content
pub mod Form
pub mod Outcomes
pub mod Steps

pub mod Blanks
pub mod Placing
pub mod Making

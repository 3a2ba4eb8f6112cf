-- Theorems.
pub mod Output

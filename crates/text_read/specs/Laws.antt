-- Theorems.
pub mod Number

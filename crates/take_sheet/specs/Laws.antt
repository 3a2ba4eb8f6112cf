-- Theorems.
pub mod Last
pub mod Reading

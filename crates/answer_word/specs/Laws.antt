-- Theorems.
pub mod Encoding

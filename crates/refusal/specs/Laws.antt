-- Theorems.
pub mod Refusal

-- Theorems.
pub mod Answers

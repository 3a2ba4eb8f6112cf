-- Theorems, a file for each subject; a file cites only those above it.
pub mod Step
pub mod NormalForm
pub mod Right
pub mod Negative
pub mod Loose

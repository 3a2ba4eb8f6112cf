-- Theorems, a file for each subject; a file cites only those above it.
pub mod Exactly
pub mod Negative
pub mod Promise
pub mod Kinds

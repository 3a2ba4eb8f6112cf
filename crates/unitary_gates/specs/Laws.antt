-- Theorems, a file for each subject; a file cites only those above it.
pub mod List
pub mod Exactly
pub mod Promise

-- Theorems, a file for each subject; a file cites only those above it.
pub mod Sheet
pub mod Promise
pub mod Stored

-- Theorems, a file for each subject; a file cites only those above it.
pub mod Taken
pub mod Plain
pub mod List
pub mod Lines
pub mod Short

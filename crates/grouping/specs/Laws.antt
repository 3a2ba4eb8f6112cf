-- Theorems, a file for each subject; a file cites only those above it.
pub mod Grouping
pub mod Residue
pub mod Loose

-- Theorems, a file for each subject; a file cites only those above it.
pub mod Congruence
pub mod Modular
pub mod Residue
pub mod Undone

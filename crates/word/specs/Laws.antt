-- Theorems, a file for each subject; a file cites only those above it.
pub mod Finite
pub mod Decomposition
pub mod Word
pub mod Negative

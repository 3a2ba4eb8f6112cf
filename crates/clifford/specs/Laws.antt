-- Theorems, a file for each subject; a file cites only those above it.
pub mod Columns
pub mod Signed
pub mod Sign

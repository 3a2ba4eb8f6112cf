-- Theorems, a file for each subject; a file cites only those above it.
pub mod Back
pub mod Text

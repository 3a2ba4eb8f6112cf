-- Theorems, a file for each subject; a file cites only those above it.
pub mod Writer
pub mod Code

-- Theorems, a file for each subject; a file cites only those above it.
pub mod Unitary
pub mod Reading
pub mod Accepted

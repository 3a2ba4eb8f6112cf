-- Theorems, a file for each subject; a file cites only those above it.
pub mod Written
pub mod Bytes
pub mod File
pub mod Encoding

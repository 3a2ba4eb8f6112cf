-- Theorems, a file for each subject; a file cites only those above it.
pub mod Bytes
pub mod Sheet
pub mod Sign
pub mod Count

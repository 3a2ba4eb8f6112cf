-- Theorems, a file for each subject; a file cites only those above it.
pub mod Gate
pub mod Signed
pub mod Every
pub mod Bytes
pub mod Matrix
pub mod Written

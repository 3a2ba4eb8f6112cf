-- Theorems, a file for each subject; a file cites only those above it.
pub mod Lines
pub mod Text
pub mod Meaning
pub mod Answer
pub mod Writing
pub mod Refusals
pub mod Output

-- Theorems, a file for each subject; a file cites only those above it.
pub mod Table
pub mod Generator
pub mod Masks

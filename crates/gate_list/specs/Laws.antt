-- Theorems, a file for each subject; a file cites only those above it.
pub mod Word
pub mod List
pub mod Negative
pub mod Stretches
pub mod Listing

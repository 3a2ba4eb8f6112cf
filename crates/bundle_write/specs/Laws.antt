-- Theorems, a file for each subject; a file cites only those above it.
pub mod Stored
pub mod Promise
pub mod Sheets
pub mod Long

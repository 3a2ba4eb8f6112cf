-- Theorems, a file for each subject; a file cites only those above it.
pub mod Read
pub mod Made
pub mod Again

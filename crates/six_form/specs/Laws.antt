-- Theorems, a file for each subject; a file cites only those above it.
pub mod Places
pub mod Form

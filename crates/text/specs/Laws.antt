-- Theorems, a file for each subject; a file cites only those above it.
pub mod Text
pub mod Trial
pub mod Writer

-- Theorems, a file for each subject; a file cites only those above it.
pub mod Product
pub mod Reading
pub mod Stretch
pub mod Letters

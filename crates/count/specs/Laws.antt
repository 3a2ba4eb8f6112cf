-- Theorems, a file for each subject; a file cites only those above it.
pub mod Group
pub mod Count
pub mod Distance

-- Theorems, a file for each subject; a file cites only those above it.
pub mod Entry
pub mod Loop
pub mod Output

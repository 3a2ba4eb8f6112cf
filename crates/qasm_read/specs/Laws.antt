-- Theorems, a file for each subject; a file cites only those above it.
pub mod Statement
pub mod Statements
pub mod Letters

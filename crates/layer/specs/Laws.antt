-- Theorems, a file for each subject; a file cites only those above it.
pub mod Highest
pub mod Layer
pub mod Count
pub mod Layering
pub mod Qubit
pub mod Turn
pub mod Promise

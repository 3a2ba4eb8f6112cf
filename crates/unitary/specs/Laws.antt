-- Theorems, a file for each subject; a file cites only those above it.
pub mod Finite
pub mod Compound
pub mod Form
pub mod Shape
pub mod Product
pub mod Part
pub mod Plain
pub mod Quotient
pub mod Turn
pub mod Kernel
pub mod Mirror
pub mod Compare
pub mod Given
pub mod Proper
pub mod Exact

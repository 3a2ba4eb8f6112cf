-- Theorems, a file for each subject; a file cites only those above it.
pub mod Gaussian
pub mod Matrix
pub mod Power
pub mod Descent
pub mod Size

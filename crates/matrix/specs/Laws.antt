-- Theorems, a file for each subject; a file cites only those above it.
pub mod Test
pub mod Integer
pub mod Ring
pub mod Parity
pub mod Sum
pub mod Matrix
pub mod Determinant
pub mod Operator
pub mod Inverse
pub mod Range
pub mod Machine
pub mod Array
pub mod Right
pub mod Rows

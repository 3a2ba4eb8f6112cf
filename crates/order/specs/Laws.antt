-- Theorems, a file for each subject.
pub mod Order

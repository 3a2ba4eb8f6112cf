-- Theorems.
pub mod Times

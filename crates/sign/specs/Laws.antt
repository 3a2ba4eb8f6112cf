-- Theorems.
pub mod Sign

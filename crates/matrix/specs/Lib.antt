-- Definitions, most basic first. The theorems about them are in `Laws/`, a file for each of these.
pub mod List
pub mod Range
pub mod Integer
pub mod Matrix
pub mod Determinant
pub mod Operator
pub mod Array
pub mod Laws

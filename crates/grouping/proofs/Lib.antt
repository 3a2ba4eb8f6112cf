-- The theorems that rest on the enumeration of six rows.
pub mod Grouping

-- The definitions of strip's plain data.
pub mod Text
pub mod Name
pub mod Order
pub mod Kinds
pub mod Print
pub mod Table
pub mod Places
pub mod Codes
pub mod Bag
pub mod Pieces
pub mod Trees
pub mod Query
pub mod Bounds
pub mod QueryExamples

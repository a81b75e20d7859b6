-- What is set up, what names and statements stand for, and what contracts of that cite.
pub mod Catalog
pub mod Trees
pub mod Queries
pub mod Places
pub mod Resolve
pub mod Parts
pub mod Checks
pub mod Codes
pub mod Small
pub mod Maintain
pub mod Adds
pub mod Texts

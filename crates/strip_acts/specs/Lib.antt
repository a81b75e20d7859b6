-- Which acts suit the tables of a catalog, and the trees that they are written as.
pub mod Writable
pub mod Trees
pub mod Shapes
pub mod Suiting
pub mod Laws
pub mod Examples

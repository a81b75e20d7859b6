pub mod Variants
pub mod Distances
pub mod BoundLaws

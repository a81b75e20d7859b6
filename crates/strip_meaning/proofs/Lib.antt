pub mod Behind
pub mod ActionLaws
pub mod States
pub mod PlainActions

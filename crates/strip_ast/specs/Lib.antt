-- What tokens and statements are, and how they are written.
pub mod Marks
pub mod Tokens
pub mod Pieces
pub mod Written
pub mod Grammar
pub mod Syntax
pub mod Faults

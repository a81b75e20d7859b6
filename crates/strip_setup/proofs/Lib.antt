-- What is proved of names, columns and what statements stand for.
pub mod Trees
pub mod Meant
pub mod Small
pub mod Once
pub mod Numbers
pub mod Declared
pub mod Numbered
pub mod Firsts
pub mod Filters
pub mod ActParts

-- The acts that have a text are those that are parsed.
pub mod Laws

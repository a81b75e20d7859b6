-- Lemmas.
mod Within
mod Tests
mod ReadExpressions
mod ReadActs
mod BuildParts
mod BuildExpressions
mod BuildActs

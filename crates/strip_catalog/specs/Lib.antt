-- The catalog: what accepted statements declare, and what its calls do.
pub mod Refusals
pub mod Accepted
pub mod Made
pub mod First
pub mod Sums
pub mod RuleQueries
pub mod Laws
pub mod Calls
pub mod Suiting
pub mod Writing
pub mod Examples
pub mod TableExamples
pub mod RuleExamples
pub mod RuleQueryExamples
pub mod MaintainExamples

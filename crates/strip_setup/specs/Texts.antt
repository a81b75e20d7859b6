-- The texts of refusals of setup, as they are written behind `refused `.
use Rattle.std.specs.Prelude.{ℕ, List, ◌++◌, codes, Option, Some, None}
use Rattle.std.specs.Fmt.{decimal}
use Rattle.strip_setup.specs.declared.errors.LimitKind.{LimitKind}
use Rattle.strip_setup.specs.declared.errors.LimitKind.TheVariants as limit
use Rattle.strip_setup.specs.declared.errors.SetupError.{SetupError}
use Rattle.strip_setup.specs.declared.errors.SetupError.TheVariants as error

-- what there may be only so much of
abbrev pub limit_name : LimitKind → List ℕ
limit_name limit.Tables = codes "Tables"
limit_name limit.Streams = codes "Streams"
limit_name limit.Functions = codes "Functions"
limit_name limit.Rules = codes "Rules"
limit_name limit.Columns = codes "Columns"
limit_name limit.Entries = codes "Entries"
limit_name limit.Queries = codes "Queries"
limit_name limit.Steps = codes "Steps"
limit_name limit.Rows = codes "Rows"
limit_name limit.Delay = codes "Delay"

-- `-` where there is no name
abbrev pub name_or_dash : Option (List ℕ) → List ℕ
name_or_dash None = codes "-"
name_or_dash (Some name) = name

-- the cause, and its fields with a blank before each
unfoldable pub error_text : SetupError → List ℕ
error_text error.Closed = codes "Closed"
error_text (error.Exists name) = codes "Exists " ++ name
error_text (error.Unknown name) = codes "Unknown " ++ name
error_text (error.Limit what at) = codes "Limit " ++ (limit_name what ++ (codes " " ++ decimal at))
error_text (error.KindMismatch column) = codes "KindMismatch " ++ name_or_dash column
error_text (error.TooWide magnitude) = codes "TooWide " ++ decimal magnitude
error_text error.NoKey = codes "NoKey"
error_text (error.ReadsDerived name) = codes "ReadsDerived " ++ name
error_text error.NoCount = codes "NoCount"
error_text (error.NotBound column) = codes "NotBound " ++ column
error_text (error.BoundDiffers function) = codes "BoundDiffers " ++ function
error_text error.NotGrouped = codes "NotGrouped"
error_text error.Memory = codes "Memory"

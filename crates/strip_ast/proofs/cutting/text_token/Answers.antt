use Rattle.std.proofs.Common.{◌≡◌, ◌<◌, length, true, false, arith}
use Rattle.std.proofs.lemmas.Grind.{common_steps}
use Rattle.std.proofs.lemmas.Str.{is_utf8-from_IsUtf8}
use Rattle.std.specs.Str.{is_utf8}
use Rattle.strip_ast.proofs.CutLemmas.{utf8_no}
use Rattle.strip_ast.proofs.cutting.text_token.Goals as goal

pub returns-in-Err-NotUtf8 : goal.returns-in-Err-NotUtf8
returns-in-Err-NotUtf8 c =
    let valid = rw c.in-Err-NotUtf8.field-0-is at c.in-Err-NotUtf8.ensures in
    let no : is_utf8 c.args.value.now ≡ false = utf8_no _ _ valid in
    grind (arith, common_steps)

pub returns-in-Err-TooLong : goal.returns-in-Err-TooLong
returns-in-Err-TooLong c =
    let long = rw c.in-Err-TooLong.field-0-is at c.in-Err-TooLong.ensures in
    let yes : is_utf8 c.args.value.now ≡ true = is_utf8-from_IsUtf8 _ long.0 in
    let over : 255 < length c.args.value.now = long.2 in
    grind (arith, common_steps)

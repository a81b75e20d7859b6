use Rattle.std.proofs.Common.{◌≡◌, Some, subst}
use Rattle.strip_catalog.specs.Calls.{Adds}
use Rattle.strip_catalog.specs.First.{first_made}
use Rattle.strip_script.proofs.BuiltForm.{made_statement}
use Rattle.strip_script.proofs.setup.keep.Goals as goal

pub returns-in-Ok-Some : goal.returns-in-Ok-Some
returns-in-Ok-Some c =
    let made : first_made c.args.catalog.now c.args.name.now ≡ Some c.in-Ok-Some.made = cc (c.in-Ok-Some.ensures.exact, c.in-Ok-Some.field-0-is) in
    subst (λ statement. Adds c.args.catalog.now statement c.keep.new.self c.keep.result) (made_statement c.args.catalog.now c.args.name.now c.in-Ok-Some.made made) c.keep.ensures

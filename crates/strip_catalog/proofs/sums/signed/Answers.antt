use Rattle.strip_catalog.proofs.MadeRules.{signed_add, signed_sub}
use Rattle.strip_catalog.proofs.sums.signed.Goals as goal

pub returns-in-Coming : goal.returns-in-Coming
returns-in-Coming c = signed_add c.args.sign c.in_ok-zero.zero c.in_ok-calc.calc c.args.calc c.in-Coming.is c.in_ok-zero.ensures c.in_ok-calc.ensures

pub returns-in-Going : goal.returns-in-Going
returns-in-Going c = signed_sub c.args.sign c.in_ok-zero.zero c.in_ok-calc.calc c.args.calc c.in-Going.is c.in_ok-zero.ensures c.in_ok-calc.ensures

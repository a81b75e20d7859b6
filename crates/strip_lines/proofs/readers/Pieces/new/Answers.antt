use Rattle.std.proofs.Common.{◌≡◌, ◌∙◌, ap}
use Rattle.strip_lines.specs.Reading.{fresh, coming}
use Rattle.strip_lines.proofs.ReadingLaws.{coming-fresh}
use Rattle.strip_lines.proofs.readers.Pieces.new.Goals as goal

pub returns-clause-all_to_come : goal.returns-clause-all_to_come
returns-clause-all_to_come c =
    let is_fresh : _ ≡ fresh c.args.limit = cc in
    λ bytes. ap (λ r. coming r bytes) is_fresh ∙ coming-fresh c.args.limit bytes

use Rattle.std.proofs.Common.{rules}
use Rattle.strip_parse.specs.Parsed.{IsParsed, parsed}
use Rattle.strip_parse.proofs.InGrammar.{if_parsed}
use Rattle.strip_parse.proofs.parsing.parse.Goals as goal

pub returns-in-Ok-clause-grammar : goal.returns-in-Ok-clause-grammar
unfolding parsed
returns-in-Ok-clause-grammar c =
    let exact : IsParsed (parsed c.args.bytes.now) c.parse_tokens.result = search rules in
    if_parsed c.args.bytes.now c.parse_tokens.result exact

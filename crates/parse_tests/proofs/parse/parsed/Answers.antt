use Rattle.std.proofs.Common.{true, false}
use Rattle.p9_lex.specs.declared.token.Dialect.TheVariants.{C}
use Rattle.p9_parse.proofs.Lexed.{lexed_ends}
use Rattle.parse_tests.proofs.parse.parsed.Goals as goal

pub parse-requires : goal.parse-requires
parse-requires c = lexed_ends C 0 true false c.args.text.now c.in_ok-tokens.tokens.list.items c.in_ok-tokens.ensures.made

use Rattle.std.proofs.Common.{true, false}
use Rattle.p9_lex.specs.declared.token.Dialect.TheVariants.{C}
use Rattle.p9_parse.proofs.Lexed.{lexed_ends}
use Rattle.typing_bench.proofs.nodes.Goals as goal

pub parse-requires : goal.parse-requires
parse-requires c = lexed_ends C 0 true false c.args.text.now c.in-Ok.tokens.list.items c.in-Ok.ensures.made

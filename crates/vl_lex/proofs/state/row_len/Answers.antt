use Rattle.std.proofs.Common.{arith}
use Rattle.vl_lex.proofs.Rows.{row_within}
use Rattle.vl_lex.proofs.state.row_len.Goals as goal

pub returns-clause-within : goal.returns-clause-within
returns-clause-within c = let b = row_within c.args.row c.args.rest.now in omega (arith, c.row_count.ensures, b)

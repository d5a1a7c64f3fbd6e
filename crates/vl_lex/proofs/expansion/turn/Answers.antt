use Rattle.std.proofs.Common.{sym, arith}
use Rattle.vl_lex.proofs.Unwound.{token_unwound, turns_as, end_unwound}
use Rattle.vl_lex.proofs.expansion.turn.Goals as goal

pub returns-then-at-len-clause-turns : goal.returns-then-at-len-clause-turns
returns-then-at-len-clause-turns c =
    end_unwound _ _ _ _ _ _ _ (omega (arith, c.len.ensures)) c.in_ok-define.ensures _ _

pub returns-clause-turns : goal.returns-clause-turns
returns-clause-turns c =
    turns_as _ _ _ _ (token_unwound _ _ _ _ _ _ _ _ _ (omega (arith, c.len.ensures)) (sym c.get.ensures) c.in_ok-open.ensures _ _) c.expand_token.ensures.turns

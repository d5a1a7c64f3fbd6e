use Rattle.lex_laws.proofs.Outcomes.{some_outcome}
use Rattle.lex_laws.proofs.expansions_are_one.Goals as goal

pub returns-clause-some : goal.returns-clause-some
returns-clause-some c = λ implicit table names body gate covers. some_outcome implicit table names body gate covers

use Rattle.lex_laws.proofs.Read.{based_is_read}
use Rattle.lex_laws.proofs.numbers_are_read_by_form.Goals as goal

pub returns-clause-based : goal.returns-clause-based
returns-clause-based c = λ text form. based_is_read text form

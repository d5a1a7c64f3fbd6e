use Rattle.vl_lex.proofs.Bare.{bare_lexes}
use Rattle.vl_lex.proofs.Places.{lexed_slices, lexed_order}
use Rattle.vl_lex.proofs.lexer.lex.Goals as goal

pub returns-in-Ok : goal.returns-in-Ok
returns-in-Ok c = let t = bare_lexes _ _ _ c.bare_tokens.ensures c.in-Ok.ensures in record { tokens = t; slices = lexed_slices _ _ _ t; order = lexed_order _ _ _ t }

use Rattle.std.proofs.lemmas.Map.Text.{hash_map_updates_str}
use Rattle.vl_lex.proofs.Tables.{changed}
use Rattle.vl_lex.proofs.macros.Macros.take.Goals as goal

pub returns-clause-gone : goal.returns-clause-gone
returns-clause-gone c = changed _ _ _ _ (hash_map_updates_str c.args.name.now c.args.self.now.bodies c.remove.new.self _ c.remove.ensures.updates)

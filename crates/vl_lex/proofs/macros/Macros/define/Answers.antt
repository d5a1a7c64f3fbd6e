use Rattle.std.proofs.lemmas.Map.Text.{hash_map_updates_str}
use Rattle.vl_lex.proofs.Tables.{changed}
use Rattle.vl_lex.proofs.macros.Macros.define.Goals as goal

pub returns-in-Ok : goal.returns-in-Ok
returns-in-Ok c = changed _ _ _ _ (hash_map_updates_str c.args.name.now c.args.self.now.bodies c.insert.new.self _ c.in-Ok.ensures.updates)

use Rattle.std.proofs.Common.{◌∙◌, sym, ap, not}
use Rattle.std.specs.Str.{bytes_eq}
use Rattle.vl_names.proofs.NameLaws.{any_map}
use Rattle.vl_names.proofs.index.Index.add.Goals as goal

pub returns-clause-is_new : goal.returns-clause-is_new
returns-clause-is_new c = (c.in_ok-insert.ensures {u = tt}).added ∙ ap not (sym (any_map (bytes_eq c.args.name.now) (λ n. n.now) c.args.self.now.set.keys))

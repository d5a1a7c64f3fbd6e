use Rattle.std.proofs.Common.{◌∙◌, sym}
use Rattle.std.specs.Str.{bytes_eq}
use Rattle.vl_names.proofs.NameLaws.{position_map}
use Rattle.vl_names.proofs.index.Index.place.Goals as goal

pub returns : goal.returns
returns c = c.get_index_of.ensures.index ∙ sym (position_map (bytes_eq c.args.name.now) (λ n. n.now) c.args.self.now.set.keys)

use Rattle.std.proofs.Common.{ap, w64}
use Rattle.std.proofs.lemmas.Int.{to_z-of_z}
use Rattle.bits_core.specs.Places.{selected}
use Rattle.net_ops.specs.Words.{read}
use Rattle.net_ops.proofs.FoldLaws as f
use Rattle.net_ops.proofs.places.select_nodes.Goals as goal

pub returns : goal.returns
unfolding selected
returns c = f.said c.args.net.now c.args.len _ (λ v. selected c.args.low c.args.len (read c.args.net.now v c.args.nodes.now)) c.fill.result
    (λ v. ap (λ z. selected z c.args.len (read c.args.net.now v c.args.nodes.now)) (to_z-of_z w64 c.args.low c.ranges.low)) c.fill.ensures

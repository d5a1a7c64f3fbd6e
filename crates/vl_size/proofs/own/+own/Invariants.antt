use Rattle.std.proofs.Common.{◌≡◌, ◌≤◌, map, drop, vec_len}
use Rattle.vl_tree.specs.declared.expressions.Expr.{size-Expr}
use Rattle.vl_size.specs.Terms.{term, terms}
use Rattle.vl_size.specs.Owns.{own, owns, with_front}
use Rattle.vl_size.specs.Chains.{depth}
use Rattle.vl_size.proofs.ChainLaws.{own_links}
use Rattle.vl_size.proofs.own.+own.Given as goal

abbrev pub invariant-owns-loop-part : goal.invariant-owns-loop-part
invariant-owns-loop-part g l = with_front l.all (owns (g.S.Sizes.look l.names) (terms (map term (drop l.part-index l.parts))) l.ahead l.rest) ≡ owns (g.S.Sizes.look l.names) (terms (map term l.parts)) l.inputs l.values

abbrev pub invariant-own-loop-link : goal.invariant-own-loop-link
invariant-own-loop-link g l = record {
  whole : own_links (g.S.Sizes.look l.names) (l.all, l.rest) l.links.items ≡ own (g.S.Sizes.look l.names) (term l.expr) l.values;
  smaller : depth l.links.items ≤ size-Expr l.expr;
}

abbrev pub decreases-own-loop-link : goal.decreases-own-loop-link
decreases-own-loop-link g l = vec_len l.links

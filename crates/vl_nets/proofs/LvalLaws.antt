-- The term of each kind of left side.
use Rattle.std.proofs.Common.{◌≡◌, List, map, ap, ◌∙◌}
use Rattle.vl_tree.specs.declared.expressions.Select.{Select}
use Rattle.vl_tree.specs.declared.statements.Lval.{Lval, Lval-F, out-Lval}
use Rattle.vl_tree.specs.declared.statements.Lval.TheVariants as l
use Rattle.vl_tree.specs.declared.statements.Lval.TheFolds.{map-Lval, fold_out-Lval}
use Rattle.vl_tree.specs.declared.tokens.Token.{Token}
use Rattle.vl_size.specs.Terms.{Term, terms, picks, pick_term, name_at, name, concat}
use Rattle.vl_nets.specs.Nets.{lval_term, lval_layer}

lval_out : (x : Lval) → lval_term x ≡ lval_layer (map-Lval Lval Term lval_term (out-Lval x))
unfolding lval_term
lval_out x = fold_out-Lval Term lval_layer x

lval_is : (x : Lval) (k : Lval-F Lval) → out-Lval x ≡ k → lval_term x ≡ lval_layer (map-Lval Lval Term lval_term k)
lval_is x k is = lval_out x ∙ ap (λ y. lval_layer (map-Lval Lval Term lval_term y)) is

pub lval-Name : (t : Token) (ps : List Select) → lval_term (l.Name t ps) ≡ name (name_at t) (picks (map pick_term ps))
lval-Name t ps = lval_is (l.Name t ps) (Lval-F.Name t ps) (l.outs-Name t ps)

pub lval-Concat : (ps : List Lval) → lval_term (l.Concat ps) ≡ concat (terms (map lval_term ps))
lval-Concat ps = lval_is (l.Concat ps) (Lval-F.Concat ps) (l.outs-Concat ps)

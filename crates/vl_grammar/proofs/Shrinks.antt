-- Each tree takes a token or more.
use Rattle.std.proofs.Common.{ℕ, ◌<◌, List, length, arith}
use Rattle.vl_tree.specs.declared.expressions.Expr.{Expr}
use Rattle.vl_tree.specs.declared.expressions.Select.{Select}
use Rattle.vl_grammar.specs.Read.{Tokens}
use Rattle.vl_grammar.specs.Spells.{Whole, plain, choice, Joined, alone, binary, Prefix, unary, itself, Primary, number, free_number, name, selected, call, system, group, concat, repeat, Listed, one, more, Selected, index, range, up, down}

mutual
  pub whole_shrinks : {t : Expr} {ts rest : Tokens} → Whole t ts rest → length rest < length ts
  whole_shrinks (plain d) = joined_shrinks d
  whole_shrinks (choice c q a k b) = omega (arith, joined_shrinks c, whole_shrinks a, whole_shrinks b)

  pub joined_shrinks : {n : ℕ} {t : Expr} {ts rest : Tokens} → Joined n t ts rest → length rest < length ts
  joined_shrinks (alone d) = prefix_shrinks d
  joined_shrinks (binary _ _ _ l r) = omega (arith, joined_shrinks l, joined_shrinks r)

  pub prefix_shrinks : {t : Expr} {ts rest : Tokens} → Prefix t ts rest → length rest < length ts
  prefix_shrinks (unary u d) = omega (arith, prefix_shrinks d)
  prefix_shrinks (itself d) = primary_shrinks d

  pub primary_shrinks : {t : Expr} {ts rest : Tokens} → Primary t ts rest → length rest < length ts
  primary_shrinks (number w) = omega arith
  primary_shrinks (free_number w) = omega arith
  primary_shrinks (name w) = omega arith
  primary_shrinks (selected w b d) = omega (arith, selected_shrinks d)
  primary_shrinks (call w a d z) = omega (arith, listed_shrinks d)
  primary_shrinks (system w a d z) = omega (arith, whole_shrinks d)
  primary_shrinks (group a d z) = omega (arith, whole_shrinks d)
  primary_shrinks (concat a d z) = omega (arith, listed_shrinks d)
  primary_shrinks (repeat a n b d y z) = omega (arith, whole_shrinks n, listed_shrinks d)

  pub listed_shrinks : {xs : List Expr} {ts rest : Tokens} → Listed xs ts rest → length rest < length ts
  listed_shrinks (one d) = whole_shrinks d
  listed_shrinks (more d k ds) = omega (arith, whole_shrinks d, listed_shrinks ds)

  pub selected_shrinks : {x : Select} {ts rest : Tokens} → Selected x ts rest → length rest < length ts
  selected_shrinks (index d z) = omega (arith, whole_shrinks d)
  selected_shrinks (range d k e z) = omega (arith, whole_shrinks d, whole_shrinks e)
  selected_shrinks (up d k e z) = omega (arith, whole_shrinks d, whole_shrinks e)
  selected_shrinks (down d k e z) = omega (arith, whole_shrinks d, whole_shrinks e)

-- The names that the text of a function calls, each once: also where no turn of a loop runs a call.
use Rattle.std.specs.Prelude.{ℕ, List, [], ◌∷◌, map, Option, Some, None}
use Rattle.vl_size.specs.Terms.{Term, Terms, Pick, Picks, number, name, call, system, concat, repeat, group, unary, binary, choice, index, range, up, down, whole, pick, term, terms}
use Rattle.vl_size.specs.Terms as term
use Rattle.vl_tree.specs.declared.expressions.Expr.{Expr}
use Rattle.vl_tree.specs.declared.statements.Fdecl.{Fdecl}
use Rattle.vl_tree.specs.declared.statements.Fdecl.TheVariants as fdecl
use Rattle.vl_tree.specs.declared.statements.Function.{Function}
use Rattle.vl_tree.specs.declared.statements.FunctionInput.{FunctionInput}
use Rattle.vl_tree.specs.declared.statements.Ptype.{Ptype}
use Rattle.vl_tree.specs.declared.statements.Ptype.TheVariants as ptype
use Rattle.vl_tree.specs.declared.statements.Range.{Range}
use Rattle.vl_items.specs.Declarations.{added}
use Rattle.vl_nets.specs.Nets.{lval_term}
use Rattle.vl_acts.specs.Acts.{Act, Acts, ActArm, ActArms, act}
use Rattle.vl_acts.specs.Acts as act

abbrev mutual
  -- the names that an expression calls, each once
  pub in_term : List (List ℕ) → Term → List (List ℕ)
  in_term xs (number text) = xs
  in_term xs (name x ps) = in_picks xs ps
  in_term xs (call x ts) = in_terms (added xs x) ts
  in_term xs (system f a) = in_term xs a
  in_term xs (concat ts) = in_terms xs ts
  in_term xs (repeat c ts) = in_terms (in_term xs c) ts
  in_term xs (group a) = in_term xs a
  in_term xs (unary op a) = in_term xs a
  in_term xs (binary op a b) = in_term (in_term xs a) b
  in_term xs (choice c a b) = in_term (in_term (in_term xs c) a) b

  pub in_terms : List (List ℕ) → Terms → List (List ℕ)
  in_terms xs term.none = xs
  in_terms xs (term.more a as') = in_terms (in_term xs a) as'

  pub in_pick : List (List ℕ) → Pick → List (List ℕ)
  in_pick xs (index a) = in_term xs a
  in_pick xs (range a b) = in_term (in_term xs a) b
  in_pick xs (up a b) = in_term (in_term xs a) b
  in_pick xs (down a b) = in_term (in_term xs a) b

  pub in_picks : List (List ℕ) → Picks → List (List ℕ)
  in_picks xs whole = xs
  in_picks xs (pick p ps) = in_picks (in_pick xs p) ps

abbrev pub in_expr : List (List ℕ) → Expr → List (List ℕ)
in_expr xs e = in_term xs (term e)

abbrev pub in_exprs : List (List ℕ) → List Expr → List (List ℕ)
in_exprs xs es = in_terms xs (terms (map term es))

abbrev mutual
  pub in_act : List (List ℕ) → Act → List (List ℕ)
  in_act xs act.nothing = xs
  in_act xs (act.block as') = in_acts xs as'
  in_act xs (act.choice t y n) = in_act (in_act (in_expr xs t) y) n
  in_act xs (act.cases s as') = in_arms (in_expr xs s) as'
  in_act xs (act.loop x s t y p b) = in_act (in_expr (in_expr (in_expr xs s) t) p) b
  in_act xs (act.write l e) = in_expr (in_term xs (lval_term l)) e

  pub in_acts : List (List ℕ) → Acts → List (List ℕ)
  in_acts xs act.none = xs
  in_acts xs (act.more a as') = in_acts (in_act xs a) as'

  pub in_arm : List (List ℕ) → ActArm → List (List ℕ)
  in_arm xs (act.matched vs a) = in_act (in_exprs xs vs) a
  in_arm xs (act.otherwise a) = in_act xs a

  pub in_arms : List (List ℕ) → ActArms → List (List ℕ)
  in_arms xs act.no_arm = xs
  in_arms xs (act.arm a as') = in_arms (in_arm xs a) as'

abbrev pub in_range : List (List ℕ) → Option Range → List (List ℕ)
in_range xs None = xs
in_range xs (Some r) = in_expr (in_expr xs r.left) r.right

abbrev pub in_type : List (List ℕ) → Option Ptype → List (List ℕ)
in_type xs None = xs
in_type xs (Some ptype.Integer) = xs
in_type xs (Some (ptype.Vector signed r)) = in_range xs r

abbrev pub in_inputs : List (List ℕ) → List FunctionInput → List (List ℕ)
in_inputs xs [] = xs
in_inputs xs (i ∷ rest) = in_inputs (in_range xs i.range) rest

abbrev pub in_head : List (List ℕ) → Option (List FunctionInput) → List (List ℕ)
in_head xs None = xs
in_head xs (Some all) = in_inputs xs all

abbrev pub in_declaration : List (List ℕ) → Fdecl → List (List ℕ)
in_declaration xs (fdecl.Vector w s r ts) = in_range xs r
in_declaration xs (fdecl.Integer ts) = xs

abbrev pub in_declarations : List (List ℕ) → List Fdecl → List (List ℕ)
in_declarations xs [] = xs
in_declarations xs (d ∷ ds) = in_declarations (in_declaration xs d) ds

-- the names that the text of a function calls
abbrev pub called : Function → List (List ℕ)
called f = in_act (in_declarations (in_head (in_type [] f.result_type) f.inputs) f.declarations) (act f.body)

-- What is run is formed and short.
use Rattle.std.proofs.Common.{◌≡◌, ℕ, ◌≤◌, nat_le, get_or, Bool, true, false, ◌&&◌, List, [], ◌∷◌, length, map, subst, ap, arith, All}
use Rattle.std.specs.List.{list_all}
use Rattle.std.proofs.lemmas.Bool.Decides.{nat_tests}
use Rattle.std.proofs.lemmas.List.Elements.{All-nil, All-cons}
use Rattle.std.proofs.lemmas.Bool.{false≢true}
use Rattle.design_core.specs.declared.tree.DExpr.{DExpr}
use Rattle.design_core.specs.declared.tree.DLeft.{DLeft}
use Rattle.design_core.specs.declared.tree.DStmt.{DStmt}
use Rattle.design_core.specs.declared.tree.DStmt.TheVariants as stmts
use Rattle.design_core.specs.Formed.{Body, IsFormed, IsFormedLeft, IsFormedOf, sized_expr, sized_left}
use Rattle.design_core.proofs.FormedLaws.{sized_write}
use Rattle.design_core.proofs.BoolLaws.{both_true}
use Rattle.formed_trees.specs.Trees.{is_body}
use Rattle.stmt_exec.specs.State.{IsEnv}
use Rattle.stmt_exec.specs.Runs.{IsRunnable}
use Rattle.value_domain.specs.Meaning.{Meaning}
use Rattle.run_cases.specs.Trees.{IsStmt, any_kind}

below : (n k : ℕ) → nat_le n k ≡ true → n ≤ k
below n k h = grind (arith, nat_tests)

pub short_at : (rows : List (List Bool)) → list_all (λ (bits : List Bool). nat_le (length bits) 65536) rows ≡ true → All (λ n. n ≤ 65536) (map length rows)
short_at [] h = All-nil (λ n. n ≤ 65536)
short_at (r ∷ rs) h =
    let p = both_true _ _ h in
    All-cons (λ n. n ≤ 65536) (length r) (map length rs) (below _ _ p.0) (short_at rs p.1)

pub is_env : {S V : Type 0} (m : Meaning S V) (d : S) (now next : List V) → ((x : V) → m.is_value d x) → All (λ n. n ≤ 65536) (map m.width now) → next ≡ now → IsEnv m d now next
is_env m d now next all most same = record {
  now_are = λ k x l. all (get_or now k x);
  next_are = λ k x l. all (get_or next k x);
  most = most;
  alike = ap (map m.width) same;
}

pub runnable : (rows : List (List Bool)) (s : DStmt) → IsStmt rows s → IsRunnable (map length rows) [] false s
unfolding is_body IsFormedOf
runnable rows s h = record { kinds = any_kind; formed = h; blocks = λ e b k. absurd (false≢true e) }

-- the parts of an assignment that is formed
module _ (rows : List (List Bool)) (s : DStmt) (l : DLeft) (e : DExpr) (blocking : Bool) (is : s ≡ stmts.Write l e blocking) (formed : IsStmt rows s) where
  write_formed : ((sized_left (map length rows) l).formed [] false && (sized_expr (map length rows) e).formed [] && nat_le (sized_left (map length rows) l).length (sized_expr (map length rows) e).length && any_kind blocking) ≡ true
  unfolding is_body
  write_formed = subst (λ (x : Body). x.formed [] false any_kind ≡ true) (sized_write (map length rows) s l e blocking is) formed

  pub write_left : IsFormedLeft (map length rows) [] false l
  unfolding IsFormedLeft
  write_left = (both_true _ _ (both_true _ _ (both_true _ _ write_formed).0).0).0

  pub write_right : IsFormed (map length rows) [] e
  unfolding IsFormed
  write_right = (both_true _ _ (both_true _ _ (both_true _ _ write_formed).0).0).1

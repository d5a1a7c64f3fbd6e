-- A statement is its parts in turn, each where it is allowed.
use Rattle.std.proofs.Common.{◌≡◌, ℕ, zero, suc, Bool, true, false, ◌||◌, List, [], ◌∷◌, ◌++◌, length, map, drop, replicate, ap, ap₂, refl, sym, ◌∙◌, arith, Some, None, if◌then◌else◌}
use Rattle.std.proofs.lemmas.List.{length-map, map-append, append-nil}
use Rattle.std.proofs.Math.Seq.{drop-append_seam}
use Rattle.bits_core.specs.Places.{is_set}
use Rattle.design_core.specs.declared.tree.DExpr.{DExpr}
use Rattle.design_core.specs.declared.tree.DLeft.TheOpen.{DStmt-F}
use Rattle.design_core.specs.declared.tree.DStmt.{DStmt, out-DStmt}
use Rattle.design_core.specs.declared.tree.DArm.{DArm, out-DArm}
use Rattle.design_core.specs.declared.tree.DMatch.{DMatch, out-DMatch}
use Rattle.design_core.specs.Core.{Assignment, St, Stmt, Term, skip, exec, value}
use Rattle.design_core.specs.Operators.{all_match, one_bit}
use Rattle.design_core.specs.Terms.{free_bits, in_turn, matching, some_match, stmt, stmt_step, term}
use Rattle.design_core.proofs.TermLaws.{arm_of, arms_are, arms_then, matching_is, stmt_out, stmt_parts}
use Rattle.tree_parts.specs.Parts.{StmtLayer, children_of, children_in, heads_of, heads_in, items_of}
use Rattle.stmt_exec.specs.State.{ran}
use Rattle.stmt_exec.specs.Choices.{allowed_in, allowed_of, arm_hits, firsts, run_each, some_hit}

-- the first statement whose test holds, else the last
abbrev pick : List Bool → List Stmt → Stmt → St → St
pick [] ss last t = exec last t
pick (h ∷ hs) [] last t = exec last t
pick (h ∷ hs) (s ∷ ss) last t = if h then exec s t else pick hs ss last t

same_either : {X : Type 0} (b : Bool) (x : X) → (if b then x else x) ≡ x
same_either true x = refl
same_either false x = refl

pub set_one : (b : Bool) → is_set (one_bit b) ≡ b
set_one true = refl
set_one false = refl

pub run_none : (bs : List Bool) (t : St) → run_each bs [] t ≡ t
run_none [] t = refl
run_none (b ∷ bs) t = refl

skip_end : (bs : List Bool) (ss : List Stmt) (t : St) → run_each bs (ss ++ skip ∷ []) t ≡ run_each bs ss t
skip_end [] ss t = refl
skip_end (b ∷ bs) [] t = run_none bs (if b then t else t) ∙ same_either b t
skip_end (b ∷ bs) (s ∷ ss) t = skip_end bs ss (if b then exec s t else t)

-- at most one of the statements is run: the first whose test holds, else the last
firsts_run : (hs : List Bool) (ss : List Stmt) (last : Stmt) (runs : Bool) (t : St) → length hs ≡ length ss
    → run_each (firsts runs hs) (ss ++ last ∷ []) t ≡ (if runs then pick hs ss last t else t)
firsts_run [] [] last runs t e = refl
firsts_run [] (s ∷ ss) last runs t e = absurd (omega (arith, e))
firsts_run (h ∷ hs) [] last runs t e = absurd (omega (arith, e))
firsts_run (true ∷ hs) (s ∷ ss) last true t e = firsts_run hs ss last false (exec s t) (omega (arith, e))
firsts_run (false ∷ hs) (s ∷ ss) last true t e = firsts_run hs ss last true t (omega (arith, e))
firsts_run (true ∷ hs) (s ∷ ss) last false t e = firsts_run hs ss last false t (omega (arith, e))
firsts_run (false ∷ hs) (s ∷ ss) last false t e = firsts_run hs ss last false t (omega (arith, e))

block_runs : (n : ℕ) (ss : List Stmt) (t : St) → length ss ≡ n → run_each (replicate n true) ss t ≡ exec (in_turn ss) t
block_runs zero [] t e = refl
block_runs zero (s ∷ ss) t e = absurd (omega (arith, e))
block_runs (suc n) [] t e = absurd (omega (arith, e))
block_runs (suc n) (s ∷ ss) t e = block_runs n ss (exec s t) (omega (arith, e))

block_rests : (n : ℕ) (ss : List Stmt) (t : St) → run_each (replicate n false) ss t ≡ t
block_rests zero ss t = refl
block_rests (suc n) [] t = refl
block_rests (suc n) (s ∷ ss) t = block_rests n ss t

block_run : (n : ℕ) (runs : Bool) (ss : List Stmt) (t : St) → length ss ≡ n → run_each (replicate n runs) ss t ≡ ran runs (exec (in_turn ss) t) t
block_run n true ss t e = block_runs n ss t e
block_run n false ss t e = block_rests n ss t

pub hits_long : (arms : List DArm) (selector : List Bool) (vs : List (List Bool)) → length (arm_hits arms selector vs) ≡ length arms
hits_long [] selector vs = refl
hits_long (a ∷ as') selector vs = let e = hits_long as' selector (drop (length (out-DArm a).matches) vs) in omega (arith, e)

-- an assignment
abbrev pub is_write : StmtLayer → Bool
is_write (DStmt-F.Block parts) = false
is_write (DStmt-F.Write left right blocking) = true
is_write (DStmt-F.If test a b) = false
is_write (DStmt-F.Case selector arms rest) = false
is_write (DStmt-F.Turns parts) = false

module _ (size : ℕ → ℕ) where
  -- the values of some expressions
  abbrev pub worths : Assignment → List (List Bool) → List DExpr → List (List Bool)
  worths σ λs es = map (λ (e : DExpr). value (term size e) σ λs) es

  some_is : (xs : List DMatch) (selector : Term) (σ : Assignment) (λs : List (List Bool)) (more : List (List Bool))
      → is_set (value (some_match (map (matching size) xs) selector) σ λs) ≡ some_hit xs (value selector σ λs) (worths σ λs (map (λ (x : DMatch). (out-DMatch x).value) xs) ++ more)
  some_is [] selector σ λs more = refl
  some_is (x ∷ xs) selector σ λs more =
      set_one (is_set (value (matching size x selector) σ λs) || is_set (value (some_match (map (matching size) xs) selector) σ λs))
      ∙ ap₂ (λ a b. a || b)
      (ap (λ (e : Term). is_set (value e σ λs)) (matching_is size x selector) ∙ set_one (all_match (value selector σ λs) (value (term size (out-DMatch x).value) σ λs) (free_bits (out-DMatch x).free)))
      (some_is xs selector σ λs more)

  arms_pick : (arms : List DArm) (selector : Term) (last : Stmt) (t : St)
      → exec (arms_then size (map (arm_of size selector) arms) last) t
      ≡ pick (arm_hits arms (value selector t.now t.locals) (worths t.now t.locals (items_of arms))) (map (λ (a : DArm). stmt size (out-DArm a).body) arms) last t
  arms_pick [] selector last t = refl
  arms_pick (a ∷ as') selector last t =
      let σ = t.now in
      let λs = t.locals in
      let mine = map (λ (x : DMatch). (out-DMatch x).value) (out-DArm a).matches in
      let parts : worths σ λs (items_of (a ∷ as')) ≡ worths σ λs mine ++ worths σ λs (items_of as') = map-append (λ (e : DExpr). value (term size e) σ λs) mine (items_of as') in
      let long : length (worths σ λs mine) ≡ length (out-DArm a).matches = length-map mine (λ (e : DExpr). value (term size e) σ λs) ∙ length-map (out-DArm a).matches (λ (x : DMatch). (out-DMatch x).value) in
      let rest : drop (length (out-DArm a).matches) (worths σ λs (items_of (a ∷ as'))) ≡ worths σ λs (items_of as') =
      ap₂ (λ n (l : List (List Bool)). drop n l) (sym long) parts ∙ drop-append_seam (worths σ λs mine) (worths σ λs (items_of as')) in
      ap₂ (λ b s. if b then exec (stmt size (out-DArm a).body) t else s)
      (some_is (out-DArm a).matches selector σ λs (worths σ λs (items_of as')) ∙ ap (some_hit (out-DArm a).matches (value selector σ λs)) (sym parts))
      (arms_pick as' selector last t
      ∙ ap (λ vs. pick (arm_hits as' (value selector σ λs) vs) (map (λ (b : DArm). stmt size (out-DArm b).body) as') last t) (sym rest))

  bodies : (arms : List DArm) (more : List DStmt) → map (stmt size) (map (λ (a : DArm). (out-DArm a).body) arms ++ more) ≡ map (λ (a : DArm). stmt size (out-DArm a).body) arms ++ map (stmt size) more
  bodies [] more = refl
  bodies (a ∷ as') more = ap (λ l. stmt size (out-DArm a).body ∷ l) (bodies as' more)

  case_run : (selector : Term) (arms : List DArm) (last : Stmt) (runs : Bool) (t : St)
      → run_each (firsts runs (arm_hits arms (value selector t.now t.locals) (worths t.now t.locals (items_of arms)))) (map (λ (a : DArm). stmt size (out-DArm a).body) arms ++ last ∷ []) t
      ≡ ran runs (exec (arms_then size (map (arm_of size selector) arms) last) t) t
  case_run selector arms last runs t =
      let hs = arm_hits arms (value selector t.now t.locals) (worths t.now t.locals (items_of arms)) in
      let ss = map (λ (a : DArm). stmt size (out-DArm a).body) arms in
      firsts_run hs ss last runs t (hits_long arms (value selector t.now t.locals) (worths t.now t.locals (items_of arms)) ∙ sym (length-map arms (λ (a : DArm). stmt size (out-DArm a).body)))
      ∙ ap (λ s. if runs then s else t) (sym (arms_pick arms selector last t))

  layer_run : (x : StmtLayer) (runs : Bool) (t : St) → is_write x ≡ false
      → run_each (allowed_in x runs (worths t.now t.locals (heads_in x))) (map (stmt size) (children_in x)) t ≡ ran runs (exec (stmt_step (stmt_parts size x)) t) t
  unfolding stmt term
  layer_run (DStmt-F.Block parts) runs t e = block_run (length parts) runs (map (stmt size) parts) t (length-map parts (stmt size))
  layer_run (DStmt-F.Write left right blocking) runs t e = cc
  layer_run (DStmt-F.If test a b) runs t e = firsts_run (is_set (value (term size test) t.now t.locals) ∷ []) (stmt size a ∷ []) (stmt size b) runs t refl
  layer_run (DStmt-F.Case selector arms None) runs t e =
      let hs = firsts runs (arm_hits arms (value (term size selector) t.now t.locals) (worths t.now t.locals (items_of arms))) in
      let ss = map (λ (a : DArm). stmt size (out-DArm a).body) arms in
      ap (λ l. run_each hs l t) (bodies arms [] ∙ append-nil ss)
      ∙ sym (skip_end hs ss t)
      ∙ case_run (term size selector) arms skip runs t
      ∙ ap (λ s. ran runs (exec s t) t) (sym (arms_are size arms (term size selector) skip))
  layer_run (DStmt-F.Case selector arms (Some last)) runs t e =
      ap (λ l. run_each (firsts runs (arm_hits arms (value (term size selector) t.now t.locals) (worths t.now t.locals (items_of arms)))) l t) (bodies arms (last ∷ []))
      ∙ case_run (term size selector) arms (stmt size last) runs t
      ∙ ap (λ s. ran runs (exec s t) t) (sym (arms_are size arms (term size selector) (stmt size last)))
  layer_run (DStmt-F.Turns parts) runs t e = block_run (length parts) runs (map (stmt size) parts) t (length-map parts (stmt size))

  -- a statement other than an assignment is its parts in turn, each where it is allowed
  pub parts_run : (s : DStmt) (runs : Bool) (t : St) → is_write (out-DStmt s) ≡ false
      → run_each (allowed_of s runs (worths t.now t.locals (heads_of s))) (map (stmt size) (children_of s)) t ≡ ran runs (exec (stmt size s) t) t
  unfolding allowed_of heads_of children_of
  parts_run s runs t e = layer_run (out-DStmt s) runs t e ∙ ap (λ p. ran runs (exec p t) t) (sym (stmt_out size s))

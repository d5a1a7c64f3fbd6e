-- A left side, a statement, an item or an arm made of formed parts that fit is formed.
use Rattle.std.proofs.Common.{◌≡◌, ℕ, ◌+◌, ◌≤◌, ◌==◌, nat_le, Bool, true, ◌&&◌, List, [], ◌∷◌, map, refl, sym, subst, ap, ◌∙◌, ℤ, arith, All, Some, None}
use Rattle.std.specs.List.{list_all}
use Rattle.std.proofs.lemmas.Bool.Decides.{nat_tests}
use Rattle.std.proofs.lemmas.List.Elements.{All-nil, All-cons, All-head, All-tail}
use Rattle.design_core.specs.declared.tree.DBase.{DBase}
use Rattle.design_core.specs.declared.tree.DExpr.{DExpr}
use Rattle.design_core.specs.declared.tree.DLeft.{DLeft}
use Rattle.design_core.specs.declared.tree.DLeft.TheVariants as lefts
use Rattle.design_core.specs.declared.tree.DStmt.{DStmt}
use Rattle.design_core.specs.declared.tree.DStmt.TheVariants as stmts
use Rattle.design_core.specs.declared.tree.DMatch.{DMatch, out-DMatch}
use Rattle.design_core.specs.declared.tree.DArm.{DArm, out-DArm, roll-DArm, out-roll-DArm}
use Rattle.design_core.specs.declared.tree.DNode.{DNode}
use Rattle.design_core.specs.declared.tree.DFunction.{DFunction}
use Rattle.design_core.specs.declared.tree.DLeft.TheOpen.{DArm-F}
use Rattle.design_core.specs.Formed.{Place, Body, Branch, Choice, base_fits, is_vector, is_narrow, free_fits, sized_expr, sized_left, sized_stmt, sized_match, sized_arm}
use Rattle.design_core.proofs.FormedLaws.{sized_length, sized_whole, sized_part, sized_at, sized_left_concat, sized_block, sized_write, sized_if, sized_turns, sized_case, sized_case_else, sized_arm_is, sized_match_is}
use Rattle.design_core.proofs.BoolLaws.{true_both, both_true}
use Rattle.formed_trees.specs.Trees.{is_formed, IsMade, is_vector_of, is_left, is_body, IsBody, is_item, is_arm, has_size, has_sizes}

same_number : (n : ℕ) → (n == n) ≡ true
same_number n = grind (arith, nat_tests)

pub same_length : (n k : ℕ) → n ≡ k → (n == k) ≡ true
same_length n k h = grind (arith, nat_tests)

number_is : (n k : ℕ) → (n == k) ≡ true → n ≡ k
number_is n k h = grind (arith, nat_tests)

left_as : (x y : Place) (ls : List ℕ) (inside : Bool) (n : ℕ) → x ≡ y → y.formed ls inside ≡ true → y.length ≡ n → (x.formed ls inside && (x.length == n)) ≡ true
left_as x y ls inside n e h k = true_both _ _ (ap (λ (z : Place). z.formed ls inside) e ∙ h) (subst (λ m. (m == n) ≡ true) (sym (ap (λ (z : Place). z.length) e ∙ k)) (same_number n))

pub formed_whole : (l : DLeft) (b : DBase) (n : ℕ) → l ≡ lefts.Whole b n → is_vector n ≡ true → (vs ls : List ℕ) (inside : Bool) → is_vector_of vs ls inside b n ≡ true → is_left vs ls inside n l ≡ true
unfolding is_left
formed_whole l b n is v vs ls inside h = left_as _ _ ls inside n (sized_whole vs l b n is) (true_both _ _ h v) refl

pub formed_part : (l : DLeft) (b : DBase) (low : ℤ) (n : ℕ) → l ≡ lefts.Part b low n → is_vector n ≡ true → (vs ls : List ℕ) (inside : Bool) → base_fits vs ls inside b ≡ true → is_left vs ls inside n l ≡ true
unfolding is_left
formed_part l b low n is v vs ls inside h = left_as _ _ ls inside n (sized_part vs l b low n is) (true_both _ _ h v) refl

pub formed_at : (l : DLeft) (b : DBase) (index at : DExpr) (offset : ℤ) (down : Bool) (n : ℕ) → l ≡ lefts.At b at offset down n → at ≡ index → is_vector n ≡ true → is_narrow index.length ≡ true
    → (vs ls : List ℕ) (inside : Bool) → base_fits vs ls inside b ≡ true → IsMade vs ls index → is_left vs ls inside n l ≡ true
unfolding is_left is_formed
formed_at l b index at offset down n is same v f vs ls inside h k = left_as _ _ ls inside n (sized_at vs l b index offset down n (is ∙ ap (λ x. lefts.At b x offset down n) same))
    (true_both _ _ (true_both _ _ (true_both _ _ h k) (subst (λ m. is_narrow m ≡ true) (sym (sized_length vs index)) f)) v) refl

pub formed_pair : (l high low : DLeft) (parts : List DLeft) (a b n : ℕ) → l ≡ lefts.Concat parts → parts ≡ high ∷ low ∷ [] → is_vector n ≡ true → a + b ≡ n
    → (vs ls : List ℕ) (inside : Bool) → is_left vs ls inside a high ≡ true → is_left vs ls inside b low ≡ true → is_left vs ls inside n l ≡ true
unfolding is_left
formed_pair l high low parts a b n is same v f vs ls inside h k =
    let p = both_true _ _ h in
    let q = both_true _ _ k in
    let hi : (sized_left vs high).length ≡ a = number_is _ _ p.1 in
    let lo : (sized_left vs low).length ≡ b = number_is _ _ q.1 in
    let e : 0 + (sized_left vs high).length + (sized_left vs low).length ≡ n = omega (arith, hi, lo) in
    left_as _ _ ls inside n (sized_left_concat vs l (high ∷ low ∷ []) (is ∙ ap lefts.Concat same))
    (true_both _ _ (true_both _ _ p.0 (true_both _ _ q.0 refl)) (subst (λ m. is_vector m ≡ true) (sym e) v)) e

body_as : (x y : Body) (ls : List ℕ) (inside : Bool) (kinds : Bool → Bool) → x ≡ y → y.formed ls inside kinds ≡ true → x.formed ls inside kinds ≡ true
body_as x y ls inside kinds e h = ap (λ (z : Body). z.formed ls inside kinds) e ∙ h

pub le_by : (a b c d : ℕ) → a ≡ b → d ≡ c → b ≤ c → nat_le a d ≡ true
le_by a b c d e f h = grind (arith, nat_tests)

pub formed_write : (s : DStmt) (l : DLeft) (e : DExpr) (blocking : Bool) (n : ℕ) → s ≡ stmts.Write l e blocking → n ≤ e.length
    → (vs ls : List ℕ) (inside : Bool) (kinds : Bool → Bool) → is_left vs ls inside n l ≡ true → IsMade vs ls e → kinds blocking ≡ true → IsBody vs ls inside kinds s
unfolding is_left is_formed is_body
formed_write s l e blocking n is f vs ls inside kinds h k b =
    let p = both_true _ _ h in
    body_as _ _ ls inside kinds (sized_write vs s l e blocking is) (true_both _ _ (true_both _ _ (true_both _ _ p.0 k) (le_by _ _ _ _ (number_is _ _ p.1) (sized_length vs e) f)) b)

all_bodies : (vs ls : List ℕ) (inside : Bool) (kinds : Bool → Bool) (parts : List DStmt) → All (IsBody vs ls inside kinds) parts → list_all (λ (x : Body). x.formed ls inside kinds) (map (sized_stmt vs) parts) ≡ true
unfolding is_body
all_bodies vs ls inside kinds [] h = refl
all_bodies vs ls inside kinds (p ∷ ps) h = true_both _ _ (All-head (IsBody vs ls inside kinds) p ps h) (all_bodies vs ls inside kinds ps (All-tail (IsBody vs ls inside kinds) p ps h))

pub formed_block : (s : DStmt) (parts given : List DStmt) → s ≡ stmts.Block parts → parts ≡ given → (vs ls : List ℕ) (inside : Bool) (kinds : Bool → Bool) → All (IsBody vs ls inside kinds) given → IsBody vs ls inside kinds s
unfolding is_body
formed_block s parts given is same vs ls inside kinds h = body_as _ _ ls inside kinds (sized_block vs s given (is ∙ ap stmts.Block same)) (all_bodies vs ls inside kinds given h)

pub formed_turns : (s : DStmt) (parts given : List DStmt) → s ≡ stmts.Turns parts → parts ≡ given → (vs ls : List ℕ) (inside : Bool) (kinds : Bool → Bool) → All (IsBody vs ls inside kinds) given → IsBody vs ls inside kinds s
unfolding is_body
formed_turns s parts given is same vs ls inside kinds h = body_as _ _ ls inside kinds (sized_turns vs s given (is ∙ ap stmts.Turns same)) (all_bodies vs ls inside kinds given h)

pub formed_branch : (s : DStmt) (test : DExpr) (a b one two : DStmt) → s ≡ stmts.If test one two → one ≡ a → two ≡ b
    → (vs ls : List ℕ) (inside : Bool) (kinds : Bool → Bool) → IsMade vs ls test → IsBody vs ls inside kinds a → IsBody vs ls inside kinds b → IsBody vs ls inside kinds s
unfolding is_formed is_body
formed_branch s test a b one two is same also vs ls inside kinds h k i = body_as _ _ ls inside kinds (sized_if vs s test a b (is ∙ ap (λ x. stmts.If test x two) same ∙ ap (stmts.If test a) also))
    (true_both _ _ (true_both _ _ h k) i)

choice_as : (x y : Choice) (n : ℕ) (ls : List ℕ) → x ≡ y → y.formed n ls ≡ true → x.formed n ls ≡ true
choice_as x y n ls e h = ap (λ (z : Choice). z.formed n ls) e ∙ h

pub formed_item : (m : DMatch) (e : DExpr) → (out-DMatch m).value ≡ e → free_fits (out-DMatch m).free e.length ≡ true → (vs ls : List ℕ) → IsMade vs ls e → is_item vs ls m ≡ true
unfolding is_formed is_item
formed_item m e is f vs ls h = choice_as _ _ _ ls (sized_match_is vs m)
    (subst (λ (x : DExpr). ((sized_expr vs x).formed ls && ((sized_expr vs x).length == x.length) && free_fits (out-DMatch m).free x.length) ≡ true) (sym is)
    (true_both _ _ (true_both _ _ h (subst (λ k. (k == e.length) ≡ true) (sym (sized_length vs e)) (same_number e.length))) f))

all_items : (vs ls : List ℕ) (items : List DMatch) → All (λ m. is_item vs ls m ≡ true) items → list_all (is_item vs ls) items ≡ true
all_items vs ls [] h = refl
all_items vs ls (m ∷ ms) h = true_both _ _ (All-head (λ m. is_item vs ls m ≡ true) m ms h) (all_items vs ls ms (All-tail (λ m. is_item vs ls m ≡ true) m ms h))

pub formed_arm : (a : DArm) (items : List DMatch) (body : DStmt) → (out-DArm a).matches ≡ items → (out-DArm a).body ≡ body
    → (vs ls : List ℕ) (inside : Bool) (kinds : Bool → Bool) → All (λ m. is_item vs ls m ≡ true) items → IsBody vs ls inside kinds body → is_arm vs ls inside kinds a ≡ true
unfolding is_arm
formed_arm a items body is also vs ls inside kinds h k = true_both _ _
    (subst (λ (x : List DMatch). list_all (is_item vs ls) x ≡ true) (sym is) (all_items vs ls items h))
    (subst (λ (x : DStmt). is_body vs ls inside kinds x ≡ true) (sym also) k)

choices : (vs ls : List ℕ) (n : ℕ) (items : List DMatch) → list_all (is_item vs ls) items ≡ true → list_all (has_size n) items ≡ true → list_all (λ (x : Choice). x.formed n ls) (map (sized_match vs) items) ≡ true
unfolding is_item
choices vs ls n [] h k = refl
choices vs ls n (m ∷ ms) h k =
    let p = both_true _ _ h in
    let q = both_true _ _ k in
    true_both _ _ (subst (λ i. (sized_match vs m).formed i ls ≡ true) (number_is _ _ q.0) p.0) (choices vs ls n ms p.1 q.1)

branch_as : (x y : Branch) (n : ℕ) (ls : List ℕ) (inside : Bool) (kinds : Bool → Bool) → x ≡ y → y.formed n ls inside kinds ≡ true → x.formed n ls inside kinds ≡ true
branch_as x y n ls inside kinds e h = ap (λ (z : Branch). z.formed n ls inside kinds) e ∙ h

one_branch : (vs ls : List ℕ) (inside : Bool) (kinds : Bool → Bool) (n : ℕ) (a : DArm) → is_arm vs ls inside kinds a ≡ true → has_sizes n a ≡ true → (sized_arm vs a).formed n ls inside kinds ≡ true
unfolding is_arm is_body
one_branch vs ls inside kinds n a h k =
    let p = both_true _ _ h in
    branch_as _ _ n ls inside kinds (sized_arm_is vs a) (true_both _ _ (choices vs ls n (out-DArm a).matches p.0 k) p.1)

branches : (vs ls : List ℕ) (inside : Bool) (kinds : Bool → Bool) (n : ℕ) (arms : List DArm) → All (λ a. is_arm vs ls inside kinds a ≡ true) arms → list_all (has_sizes n) arms ≡ true
    → list_all (λ (x : Branch). x.formed n ls inside kinds) (map (sized_arm vs) arms) ≡ true
branches vs ls inside kinds n [] h k = refl
branches vs ls inside kinds n (a ∷ as') h k =
    let q = both_true _ _ k in
    true_both _ _ (one_branch vs ls inside kinds n a (All-head (λ a. is_arm vs ls inside kinds a ≡ true) a as' h) q.0)
    (branches vs ls inside kinds n as' (All-tail (λ a. is_arm vs ls inside kinds a ≡ true) a as' h) q.1)

pub formed_case : (s : DStmt) (selector : DExpr) (arms given : List DArm) → s ≡ stmts.Case selector arms None → arms ≡ given → list_all (has_sizes selector.length) given ≡ true
    → (vs ls : List ℕ) (inside : Bool) (kinds : Bool → Bool) → IsMade vs ls selector → All (λ a. is_arm vs ls inside kinds a ≡ true) given → IsBody vs ls inside kinds s
unfolding is_formed is_body
formed_case s selector arms given is same f vs ls inside kinds h k = body_as _ _ ls inside kinds (sized_case vs s selector given (is ∙ ap (λ x. stmts.Case selector x None) same))
    (true_both _ _ (true_both _ _ h (subst (λ n. list_all (λ (x : Branch). x.formed n ls inside kinds) (map (sized_arm vs) given) ≡ true) (sym (sized_length vs selector)) (branches vs ls inside kinds selector.length given k f))) refl)

pub formed_case_else : (s : DStmt) (selector : DExpr) (arms given : List DArm) (rest body : DStmt) → s ≡ stmts.Case selector arms (Some body) → arms ≡ given → body ≡ rest → list_all (has_sizes selector.length) given ≡ true
    → (vs ls : List ℕ) (inside : Bool) (kinds : Bool → Bool) → IsMade vs ls selector → All (λ a. is_arm vs ls inside kinds a ≡ true) given → IsBody vs ls inside kinds rest → IsBody vs ls inside kinds s
unfolding is_formed is_body
formed_case_else s selector arms given rest body is same also f vs ls inside kinds h k i = body_as _ _ ls inside kinds
    (sized_case_else vs s selector given rest (is ∙ ap (λ x. stmts.Case selector x (Some body)) same ∙ ap (λ x. stmts.Case selector given (Some x)) also))
    (true_both _ _ (true_both _ _ h (subst (λ n. list_all (λ (x : Branch). x.formed n ls inside kinds) (map (sized_arm vs) given) ≡ true) (sym (sized_length vs selector)) (branches vs ls inside kinds selector.length given k f))) i)

abbrev ArmLayer : Type 0
ArmLayer = DArm-F DLeft DNode DStmt DArm DExpr DFunction DMatch

pub arm_made : (x : ArmLayer) (items : List DMatch) (body : DStmt) → x.matches ≡ items → x.body ≡ body
    → (vs ls : List ℕ) (inside : Bool) (kinds : Bool → Bool) → All (λ m. is_item vs ls m ≡ true) items → IsBody vs ls inside kinds body → is_arm vs ls inside kinds (roll-DArm x) ≡ true
arm_made x items body is also = formed_arm (roll-DArm x) items body (ap (λ (y : ArmLayer). y.matches) (out-roll-DArm x) ∙ is) (ap (λ (y : ArmLayer). y.body) (out-roll-DArm x) ∙ also)

pub all_two : {X : Type 0} (P : X → Type 0) (a b : X) (all : List X) → all ≡ a ∷ b ∷ [] → P a → P b → All P all
all_two P a b all is h k = subst (All P) (sym is) (All-cons P a (b ∷ []) h (All-cons P b [] k (All-nil P)))

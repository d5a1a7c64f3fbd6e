-- What running an item over values of a domain does is what its cell says.
use Rattle.std.proofs.Common.{◌≡◌, ℕ, ◌<◌, Bool, true, false, not, List, [], ◌∷◌, length, map, get_or, All, Option, Some, None, refl, sym, ◌∙◌, ap, ap₂, subst, arith, ℤ, pos, zero, suc, ◌≤◌, nat_lt, inl, inr}
use Rattle.std.specs.Prelude.{◌+ℤ◌}
use Rattle.std.proofs.Math.Path.{fun_ext}
use Rattle.std.proofs.lemmas.Bool.{cases_lt}
use Rattle.std.proofs.lemmas.Bool.Decides.{nat_tests}
use Rattle.std.proofs.lemmas.Int.{ints}
use Rattle.std.proofs.lemmas.List.{get_or-map}
use Rattle.bits_core.specs.Places.{bit_at, bit_at_int, is_set, selected}
use Rattle.design_core.specs.declared.place.BitRef.{BitRef}
use Rattle.design_core.specs.declared.items.Item.{Item}
use Rattle.design_core.specs.declared.items.Item.TheVariants as item
use Rattle.design_core.specs.declared.items.DReset.{DReset}
use Rattle.design_core.specs.declared.tree.DExpr.{DExpr}
use Rattle.design_core.specs.declared.tree.DLeft.{DLeft}
use Rattle.design_core.specs.declared.tree.DStmt.{DStmt}
use Rattle.design_core.specs.Cells.{Bitmap}
use Rattle.design_core.specs.Core.{Stmt, St, write, exec, stmt_reads}
use Rattle.design_core.specs.Formed.{IsFormed, IsFormedLeft, IsFormedOf, of_kind, sized_stmt}
use Rattle.design_core.specs.Items.{reset_by, start, reset_holds, cell_of}
use Rattle.design_core.specs.Needs.{targets}
use Rattle.design_core.specs.Terms.{left, stmt, term}
use Rattle.design_core.specs.Wellformed.{reset_fits, tree_fits}
use Rattle.design_core.proofs.BoolLaws.{both_true}
use Rattle.design_laws.proofs.DesignLaws.{silent_stmt_reads}
use Rattle.stmt_exec.specs.Runs.{IsRunnable}
use Rattle.stmt_exec.specs.State.{assignment, env_state, ran, size_in}
use Rattle.stmt_exec.proofs.DomainLaws as d
use Rattle.value_domain.specs.Meaning.{Meaning, Keeps}
use Rattle.value_domain.specs.Words.{IsGuard, allows}
use Rattle.design_core.specs.Numbers.{chosen_cells, idle, is_bit}
use Rattle.item_exec.specs.Passes.{Fits, KeepsKind, IsGiven, IsStored, cell_in}
use Rattle.item_exec.proofs.CellPasses.{given_assign, given_comb, given_reset, both_run, reset_turned, stored_clocked, stored_reset}

pub set_one : (b : Bool) → is_set (b ∷ []) ≡ b
set_one true = refl
set_one false = refl

-- one bit of a list
pub one_selected : (z : ℤ) (k : ℕ) (xs : List Bool) → z ≡ pos k → is_set (selected z 1 xs) ≡ bit_at xs k
unfolding selected
one_selected z k xs e = set_one (bit_at_int xs (z +ℤ pos 0)) ∙ (let f : z +ℤ pos 0 ≡ pos k = omega (arith, ints, e) in ap (bit_at_int xs) f)

module _ {S V : Type 0} (m : Meaning S V) where
  -- a bit of a value of the environment
  pub bit_read : (d0 d1 : S) (v : ℕ → Bool) (now : List V) (bit : BitRef) (word value : V) (z : ℤ) → z ≡ pos bit.bit → word ≡ get_or now bit.signal word → bit.signal < length now
      → m.reads d1 v value ≡ selected z 1 (m.reads d0 v word) → is_set (m.reads d1 v value) ≡ assignment (map (m.reads d0 v) now) bit
  bit_read d0 d1 v now bit word value z e is lt reads =
      ap is_set reads ∙ one_selected z bit.bit (m.reads d0 v word) e
      ∙ ap (λ x. bit_at (m.reads d0 v x) bit.bit) is
      ∙ ap (λ row. bit_at row bit.bit) (sym (get_or-map (m.reads d0 v) now bit.signal word [] lt))

  pub held_run : (d0 d1 : S) (v : ℕ → Bool) (now next : List V) (guard : Option V) (r : DReset) (u : St) (allowed : Bool) → Keeps m d0 d1 → All (m.is_value d0) now → All (m.is_value d0) next
      → map m.width next ≡ map m.width now
      → allowed ≡ reset_holds r.bit r.asserted (assignment (map (m.reads d0 v) now))
      → reset_fits (map m.width now) (size_in (map m.width now)) (Some r) ≡ true
      → ((b : BitRef) → targets true (stmt (size_in (map m.width now)) r.branch) b ≡ false)
      → u ≡ ran allowed (exec (stmt (size_in (map m.width next)) r.branch) (start (assignment (map (m.reads d1 v) now)) (assignment (map (m.reads d1 v) next)))) (start (assignment (map (m.reads d1 v) now)) (assignment (map (m.reads d1 v) next)))
      → (body : Stmt) → IsGiven (cell_of (reset_by r.bit r.asserted (stmt (size_in (map m.width now)) r.branch) body)) (assignment (map (m.reads d0 v) next)) (assignment (map (m.reads d0 v) now)) u.now u.later
  held_run d0 d1 v now next guard r u allowed k ns xs alike allows fits kind done body =
      let s = assignment (map (m.reads d0 v) next) in
      let σ = assignment (map (m.reads d0 v) now) in
      let B = stmt (size_in (map m.width now)) r.branch in
      let silent : (b : BitRef) → stmt_reads B b ≡ false = λ b. silent_stmt_reads B b (both_true _ _ fits).1 in
      let is : u ≡ ran (reset_holds r.bit r.asserted σ) (exec B (start σ s)) (start σ s) =
      done
      ∙ ap₂ (λ (x y : List (List Bool)). ran allowed (exec (stmt (size_in (map m.width next)) r.branch) (start (assignment x) (assignment y))) (start (assignment x) (assignment y))) (d.kept_reads m d0 d1 v now k ns) (d.kept_reads m d0 d1 v next k xs)
      ∙ ap₂ (λ ws a. ran a (exec (stmt (size_in ws) r.branch) (start σ s)) (start σ s)) alike allows in
      subst (λ (t : St). IsGiven (cell_of (reset_by r.bit r.asserted B body)) s σ t.now t.later) (sym is) (given_reset r.bit r.asserted B body s σ kind silent)

  pub stored_run : (d0 d1 d2 d3 : S) (v : ℕ → Bool) (now next now1 next1 : List V) (held free : Option V) (r : DReset) (body : DStmt) (u : St)
      → Keeps m d0 d1 → Keeps m d0 d2 → Keeps m d1 d3 → All (m.is_value d0) now → All (m.is_value d0) next → IsGuard m d1 held → map m.width now1 ≡ map m.width now
      → allows m d1 v held ≡ reset_holds r.bit r.asserted (assignment (map (m.reads d0 v) now))
      → allows m d2 v free ≡ reset_holds r.bit (not r.asserted) (assignment (map (m.reads d1 v) now))
      → ((b : BitRef) → targets true (stmt (size_in (map m.width now)) body) b ≡ false) → ((b : BitRef) → targets true (stmt (size_in (map m.width now)) r.branch) b ≡ false)
      → env_state m d3 v now1 next1 ≡ ran (allows m d2 v free) (exec (stmt (size_in (map m.width now)) body) (env_state m d2 v now next)) (env_state m d2 v now next)
      → u ≡ ran (allows m d3 v held) (exec (stmt (size_in (map m.width now1)) r.branch) (env_state m d3 v now1 next1)) (env_state m d3 v now1 next1)
      → (s : Bitmap BitRef) → IsStored (cell_of (reset_by r.bit r.asserted (stmt (size_in (map m.width now)) r.branch) (stmt (size_in (map m.width now)) body))) s
      (assignment (map (m.reads d0 v) now)) (assignment (map (m.reads d0 v) next)) u.now u.later
  stored_run d0 d1 d2 d3 v now next now1 next1 held free r body u k01 k02 k13 ns xs guard wide holds frees kind kind' one two s =
      let σ = assignment (map (m.reads d0 v) now) in
      let η = assignment (map (m.reads d0 v) next) in
      let B = stmt (size_in (map m.width now)) r.branch in
      let Y = stmt (size_in (map m.width now)) body in
      let F = allows m d2 v free in
      let begun : env_state m d2 v now next ≡ start η σ = ap₂ (λ (x y : List (List Bool)). start (assignment y) (assignment x)) (d.kept_reads m d0 d2 v now k02 ns) (d.kept_reads m d0 d2 v next k02 xs) in
      let turned : F ≡ not (allows m d1 v held) =
      frees ∙ ap (λ (x : List (List Bool)). reset_holds r.bit (not r.asserted) (assignment x)) (d.kept_reads m d0 d1 v now k01 ns) ∙ reset_turned r.bit r.asserted σ ∙ ap not (sym holds) in
      let first : env_state m d3 v now1 next1 ≡ ran F (exec Y (start η σ)) (start η σ) = one ∙ ap (λ (t : St). ran F (exec Y t) t) begun in
      let is : u ≡ both_run r.bit r.asserted B Y s σ η kind kind' (allows m d1 v held) F =
      two ∙ ap (λ ws. ran (allows m d3 v held) (exec (stmt (size_in ws) r.branch) (env_state m d3 v now1 next1)) (env_state m d3 v now1 next1)) wide
      ∙ ap₂ (λ (a : Bool) (t : St). ran a (exec B t) t) (d.kept_allows m d1 d3 v held k13 guard) first in
      subst (λ (t : St). IsStored (cell_of (reset_by r.bit r.asserted B Y)) s σ η t.now t.later) (sym is)
      (stored_reset r.bit r.asserted B Y s σ η kind kind' (allows m d1 v held) F holds turned)

-- bodies that can be run
pub runs : (vs : List ℕ) (kind : Bool) (body : DStmt) → (sized_stmt vs body).formed [] false (of_kind kind) ≡ true → IsRunnable vs [] false body
unfolding IsFormedOf
runs vs kind body h = record { kinds = of_kind kind; formed = h; blocks = λ e b k. cc }

past : (xs : List ℕ) (n : ℕ) → length xs ≤ n → get_or xs n 0 ≡ 0
past [] n le = refl
past (x ∷ xs) zero le = absurd (omega arith)
past (x ∷ xs) (suc n) le = past xs n (omega arith)

below_none : (n m : ℕ) → nat_lt n m ≡ true → m ≡ 0 → ⊥
below_none n m h e = absurd (grind (arith, nat_tests))

-- the signal of a bit is there
signal_there : (vs : List ℕ) (b : BitRef) → is_bit vs b ≡ true → b.signal < length vs
signal_there vs b h = elim (cases_lt b.signal (length vs)) [
  | inl lt ↦ lt
  | inr ge ↦ absurd (below_none b.bit (get_or vs b.signal 0) h (past vs b.signal ge))
]

pub reset_there : (vs : List ℕ) (n : ℕ) (r : DReset) → length vs ≡ n → reset_fits vs (size_in vs) (Some r) ≡ true → r.bit.signal < n
reset_there vs n r e h =
    let lt = signal_there vs r.bit (both_true _ _ (both_true _ _ (both_true _ _ (both_true _ _ h).0).0).0).0 in
    omega (arith, e, lt)

pub reset_runs : (vs ws : List ℕ) (r : DReset) → ws ≡ vs → reset_fits vs (size_in vs) (Some r) ≡ true → IsRunnable ws [] false r.branch
reset_runs vs ws r e h = subst (λ us. IsRunnable us [] false r.branch) (sym e) (runs vs false r.branch (both_true _ _ (both_true _ _ h).0).1)

module _ (vs : List ℕ) (i : Item) (fits : Fits vs i) where
  module _ (scope weight : ℕ) (l : DLeft) (e : DExpr) (is : i ≡ item.Assign scope weight l e) where
    assign_fits : tree_fits vs (size_in vs) (item.Assign scope weight l e) ≡ true
    assign_fits = ap (tree_fits vs (size_in vs)) (sym is) ∙ fits.formed

    pub assign_left : IsFormedLeft vs [] false l
    unfolding IsFormedLeft
    assign_left = (both_true _ _ (both_true _ _ (both_true _ _ assign_fits).0).0).0

    pub assign_right : IsFormed vs [] e
    unfolding IsFormed
    assign_right = (both_true _ _ (both_true _ _ assign_fits).0).1

    pub assign_given : (s σ : Bitmap BitRef) (u : St) → u ≡ exec (write (left (size_in vs) l) (term (size_in vs) e) true) (start s σ) → IsGiven (cell_in vs i) s σ u.later u.now
    assign_given s σ u done =
        subst (λ (j : Item). IsGiven (cell_in vs j) s σ u.later u.now) (sym is)
        (subst (λ (t : St). IsGiven (cell_in vs (item.Assign scope weight l e)) s σ t.later t.now) (sym done) (given_assign (left (size_in vs) l) (term (size_in vs) e) s σ))

    pub assign_stored : (s σ η : Bitmap BitRef) → IsStored (cell_in vs i) s σ η σ η
    assign_stored s σ η = subst (λ (j : Item). IsStored (cell_in vs j) s σ η σ η) (sym is) (record { stored = λ h. fun_ext (λ b. refl); kept = refl })

  module _ (scope weight : ℕ) (body : DStmt) (is : i ≡ item.Comb scope weight body) where
    pub comb_stored : (s σ η : Bitmap BitRef) → IsStored (cell_in vs i) s σ η σ η
    comb_stored s σ η = subst (λ (j : Item). IsStored (cell_in vs j) s σ η σ η) (sym is) (record { stored = λ h. fun_ext (λ b. refl); kept = refl })

    comb_fits : Fits vs (item.Comb scope weight body)
    comb_fits = subst (Fits vs) is fits

    pub comb_runs : IsRunnable vs [] false body
    comb_runs = runs vs true body comb_fits.formed

    pub comb_given : (s σ : Bitmap BitRef) (u : St) → u ≡ exec (stmt (size_in vs) body) (start s σ) → IsGiven (cell_in vs i) s σ u.later u.now
    comb_given s σ u done =
        subst (λ (j : Item). IsGiven (cell_in vs j) s σ u.later u.now) (sym is)
        (subst (λ (t : St). IsGiven (cell_in vs (item.Comb scope weight body)) s σ t.later t.now) (sym done) (given_comb (stmt (size_in vs) body) s σ comb_fits.kind))

  module _ (scope weight : ℕ) (reset : Option DReset) (body : DStmt) (is : i ≡ item.Clocked scope weight reset body) where
    pub reset_given : (r : DReset) → reset ≡ Some r → (s σ η τ : Bitmap BitRef) → IsGiven (cell_of (reset_by r.bit r.asserted (stmt (size_in vs) r.branch) (stmt (size_in vs) body))) s σ η τ → IsGiven (cell_in vs i) s σ η τ
    reset_given r some s σ η τ g = subst (λ (j : Item). IsGiven (cell_in vs j) s σ η τ) (sym (is ∙ ap (λ o. item.Clocked scope weight o body) some)) g

    pub body_formed : (sized_stmt vs body).formed [] false (of_kind false) ≡ true
    body_formed = (both_true _ _ (subst (Fits vs) is fits).formed).0

    pub reset_formed : (r : DReset) → reset ≡ Some r → reset_fits vs (size_in vs) (Some r) ≡ true
    reset_formed r some = ap (reset_fits vs (size_in vs)) (sym some) ∙ (both_true _ _ (subst (Fits vs) is fits).formed).1

    pub reset_kinds : (r : DReset) → reset ≡ Some r → KeepsKind (reset_by r.bit r.asserted (stmt (size_in vs) r.branch) (stmt (size_in vs) body))
    reset_kinds r some = (subst (Fits vs) (is ∙ ap (λ o. item.Clocked scope weight o body) some) fits).kind

    pub reset_stored : (r : DReset) → reset ≡ Some r → (s σ η τ θ : Bitmap BitRef) → IsStored (cell_of (reset_by r.bit r.asserted (stmt (size_in vs) r.branch) (stmt (size_in vs) body))) s σ η τ θ → IsStored (cell_in vs i) s σ η τ θ
    reset_stored r some s σ η τ θ g = subst (λ (j : Item). IsStored (cell_in vs j) s σ η τ θ) (sym (is ∙ ap (λ o. item.Clocked scope weight o body) some)) g

    -- a clocked process without reset
    pub clocked_runs : IsRunnable vs [] false body
    clocked_runs = runs vs false body (both_true _ _ (subst (Fits vs) is fits).formed).0

    pub clocked_stored : reset ≡ None → (s σ η : Bitmap BitRef) (u : St) → u ≡ exec (stmt (size_in vs) body) (start η σ) → IsStored (cell_in vs i) s σ η u.now u.later
    clocked_stored none s σ η u done =
        let at : i ≡ item.Clocked scope weight None body = is ∙ ap (λ o. item.Clocked scope weight o body) none in
        subst (λ (j : Item). IsStored (cell_in vs j) s σ η u.now u.later) (sym at)
        (subst (λ (t : St). IsStored (cell_in vs (item.Clocked scope weight None body)) s σ η t.now t.later) (sym done) (stored_clocked (stmt (size_in vs) body) s σ η (subst (Fits vs) at fits).kind))

-- the cell at a place of the order
pub chosen_at : (vs : List ℕ) (items : List Item) (order : List ℕ) (at : ℕ) (i : Item) → at < length order → get_or order at 0 < length items → i ≡ get_or items (get_or order at 0) i
    → cell_in vs i ≡ get_or (chosen_cells (map (cell_in vs) items) order) at (cell_in vs i)
chosen_at vs items order at i l m is =
    ap (cell_in vs) is
    ∙ sym (get_or-map (cell_in vs) items (get_or order at 0) i idle m)
    ∙ sym (get_or-map (λ n. get_or (map (cell_in vs) items) n idle) order at 0 (cell_in vs i) l)

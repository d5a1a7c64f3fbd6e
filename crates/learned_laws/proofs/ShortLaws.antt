-- Sets of leaves that differ are fewer than 2^m and one.
use Rattle.std.proofs.Common.{◌≡◌, ℕ, ◌+◌, ◌*◌, ◌^◌, ◌<◌, ◌≤◌, Bool, true, false, cond, eqb, ◌||◌, List, [], ◌∷◌, ◌++◌, length, arith, refl, sym, ap, subst, ◌∙◌, inl, inr, ◌⊎◌, ℤ, pos, negsuc, zero, suc}
use Rattle.std.proofs.lemmas.Bool.{cond-true, cond-false, eq-eqb, eqb-true, cases_eq, false≢true, true≢false}
use Rattle.std.specs.Int.RustNames.{unsigned_abs}
use Rattle.cnf_core.specs.declared.lit.Lit.{Lit}
use Rattle.cnf_core.specs.declared.formula.Step.{Step}
use Rattle.cnf_core.specs.declared.formula.Step.TheVariants.{Add, Delete}
use Rattle.cnf_core.specs.Lit.{variable_of, is_positive, above_zero}
use Rattle.cnf_core.specs.Accepted.{Clauses, with_clause, numbered}
use Rattle.cnf_core.specs.Learned.{Each, Among, IsLeafLit, Holds, HoldsNone, IsLearned, IsLearnedLog}

abbrev Leaves : Type 0
Leaves = ℕ → Bool

-- the same on 1 to m
abbrev Alike : ℕ → Leaves → Leaves → Type 0
Alike m s t = (x : ℕ) → 1 ≤ x → x ≤ m → s x ≡ t x

abbrev AllDiffer : ℕ → Leaves → List Leaves → Type 0
AllDiffer m s [] = Unit {0}
AllDiffer m s (t ∷ ts) = (Alike m s t → ⊥) × AllDiffer m s ts

abbrev Distinct : ℕ → List Leaves → Type 0
Distinct m [] = Unit {0}
Distinct m (s ∷ ss) = AllDiffer m s ss × Distinct m ss

abbrev picked : Bool → Leaves → List Leaves → List Leaves
picked true s rest = s ∷ rest
picked false s rest = rest

abbrev ones : ℕ → List Leaves → List Leaves
ones x [] = []
ones x (s ∷ ss) = picked (s x) s (ones x ss)

abbrev turned : Bool → Bool
turned true = false
turned false = true

abbrev zeros : ℕ → List Leaves → List Leaves
zeros x [] = []
zeros x (s ∷ ss) = picked (turned (s x)) s (zeros x ss)

count_by : (b : Bool) (s : Leaves) (os zs ss : List Leaves) → length os + length zs ≡ length ss → length (picked b s os) + length (picked (turned b) s zs) ≡ length (s ∷ ss)
count_by true s os zs ss e = omega arith
count_by false s os zs ss e = omega arith

counts : (x : ℕ) (ss : List Leaves) → length (ones x ss) + length (zeros x ss) ≡ length ss
counts x [] = refl
counts x (s ∷ ss) = count_by (s x) s (ones x ss) (zeros x ss) ss (counts x ss)

alike_more : (m : ℕ) (s t : Leaves) → Alike m s t → s (m + 1) ≡ t (m + 1) → Alike (m + 1) s t
alike_more m s t a e x p q = elim (cases_eq x (m + 1)) [ inl h ↦ ap s h ∙ e ∙ ap t (sym h) | inr ne ↦ a x p (omega arith) ]

ones_differ_by : (m : ℕ) (s t : Leaves) (ts : List Leaves) (b : Bool) → t (m + 1) ≡ b → s (m + 1) ≡ true → (Alike (m + 1) s t → ⊥) → AllDiffer m s ts → AllDiffer m s (picked b t ts)
ones_differ_by m s t ts true e f d rest = ((λ a. d (alike_more m s t a (f ∙ sym e))), rest)
ones_differ_by m s t ts false e f d rest = rest

ones_differ : (m : ℕ) (s : Leaves) (ts : List Leaves) → s (m + 1) ≡ true → AllDiffer (m + 1) s ts → AllDiffer m s (ones (m + 1) ts)
ones_differ m s [] f d = tt
ones_differ m s (t ∷ ts) f d = ones_differ_by m s t (ones (m + 1) ts) (t (m + 1)) refl f d.0 (ones_differ m s ts f d.1)

ones_distinct_by : (m : ℕ) (s : Leaves) (ts os : List Leaves) (b : Bool) → s (m + 1) ≡ b → (s (m + 1) ≡ true → AllDiffer m s os) → Distinct m os → Distinct m (picked b s os)
ones_distinct_by m s ts os true e f d = (f e, d)
ones_distinct_by m s ts os false e f d = d

ones_distinct : (m : ℕ) (ss : List Leaves) → Distinct (m + 1) ss → Distinct m (ones (m + 1) ss)
ones_distinct m [] d = tt
ones_distinct m (s ∷ ss) d = ones_distinct_by m s ss (ones (m + 1) ss) (s (m + 1)) refl (λ f. ones_differ m s ss f d.0) (ones_distinct m ss d.1)

zeros_differ_by : (m : ℕ) (s t : Leaves) (ts : List Leaves) (b : Bool) → t (m + 1) ≡ b → s (m + 1) ≡ false → (Alike (m + 1) s t → ⊥) → AllDiffer m s ts → AllDiffer m s (picked (turned b) t ts)
zeros_differ_by m s t ts true e f d rest = rest
zeros_differ_by m s t ts false e f d rest = ((λ a. d (alike_more m s t a (f ∙ sym e))), rest)

zeros_differ : (m : ℕ) (s : Leaves) (ts : List Leaves) → s (m + 1) ≡ false → AllDiffer (m + 1) s ts → AllDiffer m s (zeros (m + 1) ts)
zeros_differ m s [] f d = tt
zeros_differ m s (t ∷ ts) f d = zeros_differ_by m s t (zeros (m + 1) ts) (t (m + 1)) refl f d.0 (zeros_differ m s ts f d.1)

zeros_distinct_by : (m : ℕ) (s : Leaves) (zs : List Leaves) (b : Bool) → s (m + 1) ≡ b → (s (m + 1) ≡ false → AllDiffer m s zs) → Distinct m zs → Distinct m (picked (turned b) s zs)
zeros_distinct_by m s zs true e f d = d
zeros_distinct_by m s zs false e f d = (f e, d)

zeros_distinct : (m : ℕ) (ss : List Leaves) → Distinct (m + 1) ss → Distinct m (zeros (m + 1) ss)
zeros_distinct m [] d = tt
zeros_distinct m (s ∷ ss) d = zeros_distinct_by m s (zeros (m + 1) ss) (s (m + 1)) refl (λ f. zeros_differ m s ss f d.0) (zeros_distinct m ss d.1)

at_most_one : (ss : List Leaves) → Distinct 0 ss → length ss ≤ 1
at_most_one [] d = omega arith
at_most_one (s ∷ []) d = omega arith
at_most_one (s ∷ t ∷ ts) d = absurd (d.0.0 (λ x p q. absurd (omega arith)))

doubled : (m : ℕ) → 2 ^ suc m ≡ 2 ^ m + 2 ^ m
doubled m = grind arith

at_most : (m : ℕ) (ss : List Leaves) → Distinct m ss → length ss ≤ 2 ^ m
at_most zero ss d = at_most_one ss d
at_most (suc m) ss d =
    let more : suc m ≡ m + 1 = omega arith in
    let d' : Distinct (m + 1) ss = subst (λ (n : ℕ). Distinct n ss) more d in
    let a = at_most m (ones (m + 1) ss) (ones_distinct m ss d') in
    let b = at_most m (zeros (m + 1) ss) (zeros_distinct m ss d') in
    let c = counts (m + 1) ss in
    let e = doubled m in
    omega arith

-- clauses of leaves as sets

abbrev set_of : List Lit → Leaves
set_of [] x = false
set_of (l ∷ ls) x = eqb (variable_of l) x || set_of ls x

abbrev sets : List Step → List Leaves
sets [] = []
sets (Add id c hints ∷ steps) = set_of c ∷ sets steps
sets (Delete ids ∷ steps) = sets steps

positive_is : (z : ℤ) → above_zero z ≡ true → z ≡ pos (unsigned_abs z)
positive_is (pos n) h = refl
positive_is (negsuc n) h = absurd (false≢true h)

same_leaf : (leaves : ℕ) (l k : Lit) → IsLeafLit leaves l → IsLeafLit leaves k → variable_of l ≡ variable_of k → l ≡ k
same_leaf leaves l k hl hk e = positive_is l hl.positive ∙ ap pos e ∙ sym (positive_is k hk.positive)

or_left : (x y : Bool) → x ≡ true → (x || y) ≡ true
or_left x y h = ap (λ (b : Bool). b || y) h

or_right : (x y : Bool) → y ≡ true → (x || y) ≡ true
or_right true y h = refl
or_right false y h = h

among_by : (leaves : ℕ) (l k : Lit) (ks : List Lit) (b : Bool) → eqb (variable_of k) (variable_of l) ≡ b → IsLeafLit leaves l → IsLeafLit leaves k → (b || set_of ks (variable_of l)) ≡ true → (set_of ks (variable_of l) ≡ true → Among l ks) → Among l (k ∷ ks)
among_by leaves l k ks true e hl hk h rest = inl (same_leaf leaves l k hl hk (sym (eqb-true (variable_of k) (variable_of l) e)))
among_by leaves l k ks false e hl hk h rest = inr (rest h)

among : (leaves : ℕ) (l : Lit) (c : List Lit) → IsLeafLit leaves l → Each (IsLeafLit leaves) c → set_of c (variable_of l) ≡ true → Among l c
among leaves l [] hl hc h = absurd (false≢true h)
among leaves l (k ∷ ks) hl hc h = among_by leaves l k ks (eqb (variable_of k) (variable_of l)) refl hl hc.0 h (λ r. among leaves l ks hl hc.1 r)

held : (leaves : ℕ) (c d : List Lit) → Each (IsLeafLit leaves) c → Each (IsLeafLit leaves) d → ((x : ℕ) → 1 ≤ x → x ≤ leaves → set_of d x ≡ true → set_of c x ≡ true) → Holds c d
held leaves c [] hc hd h = tt
held leaves c (l ∷ ls) hc hd h = (
  among leaves l c hd.0 hc (h (variable_of l) hd.0.above hd.0.leaf (or_left (eqb (variable_of l) (variable_of l)) (set_of ls (variable_of l)) (eq-eqb (variable_of l) (variable_of l) refl))),
  held leaves c ls hc hd.1 (λ x p q e. h x p q (or_right (eqb (variable_of l) x) (set_of ls x) e)),
)

differ : (leaves : ℕ) (c d : List Lit) → Each (IsLeafLit leaves) c → Each (IsLeafLit leaves) d → (Holds c d → ⊥) → Alike leaves (set_of d) (set_of c) → ⊥
differ leaves c d hc hd none a = none (held leaves c d hc hd (λ x p q e. sym (a x p q) ∙ e))

full : (leaves : ℕ) (c : List Lit) → Each (IsLeafLit leaves) c → (c ≡ [] → ⊥) → Alike leaves (λ x. false) (set_of c) → ⊥
full leaves [] hc some a = some refl
full leaves (l ∷ ls) hc some a =
    false≢true (a (variable_of l) hc.0.above hc.0.leaf ∙ or_left (eqb (variable_of l) (variable_of l)) (set_of ls (variable_of l)) (eq-eqb (variable_of l) (variable_of l) refl))

abbrev IsIn : List Lit → List (List Lit) → Type 0
IsIn d [] = ⊥
IsIn d (e ∷ es) = (d ≡ e) ⊎ IsIn d es

in_front : (d : List Lit) (es fs : List (List Lit)) → IsIn d es → IsIn d (es ++ fs)
in_front d [] fs h = absurd h
in_front d (e ∷ es) fs (inl h) = inl h
in_front d (e ∷ es) fs (inr h) = inr (in_front d es fs h)

in_back : (d : List Lit) (es : List (List Lit)) → IsIn d (es ++ d ∷ [])
in_back d [] = inl refl
in_back d (e ∷ es) = inr (in_back d es)

none_of : (c d : List Lit) (es : List (List Lit)) → HoldsNone c es → IsIn d es → Holds c d → ⊥
none_of c d [] h i held' = i
none_of c d (e ∷ es) h (inl s) held' = h.0 (subst (Holds c) s held')
none_of c d (e ∷ es) h (inr i) held' = none_of c d es h.1 i held'

later : (db : Clauses) (last : ℕ) (clauses earlier : List (List Lit)) (leaves : ℕ) (steps : List Step) (d : List Lit) → IsLearned db last clauses earlier leaves steps → IsIn d earlier → Each (IsLeafLit leaves) d → AllDiffer leaves (set_of d) (sets steps)
later db last clauses earlier leaves [] d h i hd = tt
later db last clauses earlier leaves (Delete ids ∷ steps) d h i hd = absurd h
later db last clauses earlier leaves (Add id c hints ∷ steps) d h i hd = (
  differ leaves c d h.2 hd (none_of c d earlier h.3 i),
  later (with_clause db id c) id (clauses ++ c ∷ []) (earlier ++ c ∷ []) leaves steps d h.5 (in_front d earlier (c ∷ []) i) hd,
)

all_full : (db : Clauses) (last : ℕ) (clauses earlier : List (List Lit)) (leaves : ℕ) (steps : List Step) → IsLearned db last clauses earlier leaves steps → AllDiffer leaves (λ x. false) (sets steps)
all_full db last clauses earlier leaves [] h = tt
all_full db last clauses earlier leaves (Delete ids ∷ steps) h = absurd h
all_full db last clauses earlier leaves (Add id c hints ∷ steps) h =
    (full leaves c h.2 h.1, all_full (with_clause db id c) id (clauses ++ c ∷ []) (earlier ++ c ∷ []) leaves steps h.5)

distinct : (db : Clauses) (last : ℕ) (clauses earlier : List (List Lit)) (leaves : ℕ) (steps : List Step) → IsLearned db last clauses earlier leaves steps → Distinct leaves (sets steps)
distinct db last clauses earlier leaves [] h = tt
distinct db last clauses earlier leaves (Delete ids ∷ steps) h = absurd h
distinct db last clauses earlier leaves (Add id c hints ∷ steps) h = (
  later (with_clause db id c) id (clauses ++ c ∷ []) (earlier ++ c ∷ []) leaves steps c h.5 (in_back c earlier) h.2,
  distinct (with_clause db id c) id (clauses ++ c ∷ []) (earlier ++ c ∷ []) leaves steps h.5,
)

as_many : (db : Clauses) (last : ℕ) (clauses earlier : List (List Lit)) (leaves : ℕ) (steps : List Step) → IsLearned db last clauses earlier leaves steps → length (sets steps) ≡ length steps
as_many db last clauses earlier leaves [] h = refl
as_many db last clauses earlier leaves (Delete ids ∷ steps) h = absurd h
as_many db last clauses earlier leaves (Add id c hints ∷ steps) h = ap suc (as_many (with_clause db id c) id (clauses ++ c ∷ []) (earlier ++ c ∷ []) leaves steps h.5)

pub short : (cs : List (List Lit)) (leaves : ℕ) (log : List Step) → IsLearnedLog cs leaves log → length log < 2 ^ leaves
short cs leaves log h =
    let d : Distinct leaves ((λ x. false) ∷ sets log) = (all_full (numbered cs) (length cs) cs [] leaves log h, distinct (numbered cs) (length cs) cs [] leaves log h) in
    let a = at_most leaves ((λ x. false) ∷ sets log) d in
    let b = as_many (numbered cs) (length cs) cs [] leaves log h in
    omega arith

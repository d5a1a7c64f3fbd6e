-- What each kind of statement allows, and that the items of formed statements fit.
use Rattle.std.proofs.Common.{◌≡◌, ℕ, ◌+◌, ◌-◌, ◌≤◌, Bool, true, false, not, ◌&&◌, ◌==◌, ◌⊎◌, inl, inr, List, [], ◌∷◌, ◌++◌, length, map, get_or, take, drop, replicate, ap, ap₂, refl, sym, subst, ◌∙◌, arith, All, Option, Some, None}
use Rattle.std.specs.List.{list_all}
use Rattle.std.proofs.lemmas.Bool.{eqb-true}
use Rattle.std.proofs.lemmas.List.{length-append, length-map, length-replicate, take_rest}
use Rattle.std.proofs.lemmas.List.Elements.{All-cons, All-drop, All-nil}
use Rattle.bits_core.specs.Places.{is_set}
use Rattle.design_core.specs.declared.tree.DArm.{DArm, out-DArm}
use Rattle.design_core.specs.declared.tree.DExpr.{DExpr}
use Rattle.design_core.specs.declared.tree.DLeft.{DLeft}
use Rattle.design_core.specs.declared.tree.DLeft.TheOpen.{DStmt-F}
use Rattle.design_core.specs.declared.tree.DMatch.{DMatch, out-DMatch}
use Rattle.design_core.specs.declared.tree.DStmt.{DStmt, out-DStmt}
use Rattle.design_core.specs.declared.tree.DStmt.TheVariants as stmts
use Rattle.design_core.specs.Formed.{Body, Branch, Choice, IsFormedOf, free_fits, sized_arm, sized_expr, sized_match, sized_stmt, stmt_size}
use Rattle.design_core.proofs.BoolLaws.{both_true}
use Rattle.design_core.proofs.FormedLaws as f
use Rattle.tree_parts.specs.Parts.{StmtLayer, children_of, heads_of, items_of, rest_of}
use Rattle.tree_parts.proofs.StatementLaws.{children_block, children_case, children_if, children_turns, children_write, heads_case, heads_if}
use Rattle.value_domain.specs.declared.parts.Word.{Word}
use Rattle.value_domain.specs.Meaning.{Meaning, Keeps}
use Rattle.value_domain.specs.Words.{FreeFits, IsGuard, IsWord, allows}
use Rattle.stmt_exec.proofs.ChoiceLaws.{hits_long}
use Rattle.stmt_exec.proofs.DomainLaws as d
use Rattle.stmt_exec.specs.Choices.{AllTell, AreGuards, ItemFits, ItemsFit, allowed_in, allowed_of, arm_hits, firsts, items_fit_in}

-- by the layer that a statement is made of
allowed_layer : (s : DStmt) (x : StmtLayer) (runs : Bool) (values : List (List Bool)) → out-DStmt s ≡ x → allowed_of s runs values ≡ allowed_in x runs values
unfolding allowed_of
allowed_layer s x runs values is = ap (λ (y : StmtLayer). allowed_in y runs values) is

fit_layer : (s : DStmt) (x : StmtLayer) → out-DStmt s ≡ x → ItemsFit s → items_fit_in x
unfolding ItemsFit
fit_layer s x is h = subst items_fit_in is h

module _ (s : DStmt) where
  pub allowed_block : (parts : List DStmt) (runs : Bool) (values : List (List Bool)) → s ≡ stmts.Block parts → allowed_of s runs values ≡ replicate (length parts) runs
  allowed_block parts runs values is = allowed_layer s (DStmt-F.Block parts) runs values (ap out-DStmt is ∙ stmts.outs-Block parts)

  pub allowed_write : (l : DLeft) (e : DExpr) (blocking : Bool) (runs : Bool) (values : List (List Bool)) → s ≡ stmts.Write l e blocking → allowed_of s runs values ≡ []
  allowed_write l e blocking runs values is = allowed_layer s (DStmt-F.Write l e blocking) runs values (ap out-DStmt is ∙ stmts.outs-Write l e blocking)

  pub allowed_if : (test : DExpr) (a b : DStmt) (runs : Bool) (v : List Bool) (vs : List (List Bool)) → s ≡ stmts.If test a b → allowed_of s runs (v ∷ vs) ≡ firsts runs (is_set v ∷ [])
  allowed_if test a b runs v vs is = allowed_layer s (DStmt-F.If test a b) runs (v ∷ vs) (ap out-DStmt is ∙ stmts.outs-If test a b)

  pub allowed_case : (selector : DExpr) (arms : List DArm) (rest : Option DStmt) (runs : Bool) (v : List Bool) (vs : List (List Bool)) → s ≡ stmts.Case selector arms rest
      → allowed_of s runs (v ∷ vs) ≡ firsts runs (arm_hits arms v vs)
  allowed_case selector arms rest runs v vs is = allowed_layer s (DStmt-F.Case selector arms rest) runs (v ∷ vs) (ap out-DStmt is ∙ stmts.outs-Case selector arms rest)

  pub allowed_turns : (parts : List DStmt) (runs : Bool) (values : List (List Bool)) → s ≡ stmts.Turns parts → allowed_of s runs values ≡ replicate (length parts) runs
  allowed_turns parts runs values is = allowed_layer s (DStmt-F.Turns parts) runs values (ap out-DStmt is ∙ stmts.outs-Turns parts)

  pub fit_case : (selector : DExpr) (arms : List DArm) (rest : Option DStmt) → s ≡ stmts.Case selector arms rest → ItemsFit s → All (λ (a : DArm). All (ItemFits selector.length) (out-DArm a).matches) arms
  fit_case selector arms rest is = fit_layer s (DStmt-F.Case selector arms rest) (ap out-DStmt is ∙ stmts.outs-Case selector arms rest)

-- the free bits of an item that is formed are as many as its bits
free_fit : (free : Option (List Bool)) (n : ℕ) → free_fits free n ≡ true → FreeFits free n
free_fit None n h = tt
free_fit (Some bits) n h = eqb-true (length bits) n h

module _ (vs ls : List ℕ) (inside : Bool) (kinds : Bool → Bool) where
  match_fits : (n : ℕ) (x : DMatch) → (sized_match vs x).formed n ls ≡ true → ItemFits n x
  match_fits n x h =
      let v = sized_expr vs (out-DMatch x).value in
      let t : (v.formed ls && (v.length == n) && free_fits (out-DMatch x).free n) ≡ true = sym (ap (λ (y : Choice). y.formed n ls) (f.sized_match_is vs x)) ∙ h in
      let k = both_true (v.formed ls && (v.length == n)) (free_fits (out-DMatch x).free n) t in
      (sym (f.sized_length vs (out-DMatch x).value) ∙ eqb-true v.length n (both_true (v.formed ls) (v.length == n) k.0).1, free_fit (out-DMatch x).free n k.1)

  matches_fit : (n : ℕ) (xs : List DMatch) → list_all (λ (x : Choice). x.formed n ls) (map (sized_match vs) xs) ≡ true → All (ItemFits n) xs
  matches_fit n [] h = All-nil (ItemFits n)
  matches_fit n (x ∷ xs) h =
      let k = both_true ((sized_match vs x).formed n ls) (list_all (λ (y : Choice). y.formed n ls) (map (sized_match vs) xs)) h in
      All-cons (ItemFits n) x xs (match_fits n x k.0) (matches_fit n xs k.1)

  arms_fit : (n : ℕ) (as' : List DArm) → list_all (λ (x : Branch). x.formed n ls inside kinds) (map (sized_arm vs) as') ≡ true → All (λ (a : DArm). All (ItemFits n) (out-DArm a).matches) as'
  arms_fit n [] h = All-nil (λ (a : DArm). All (ItemFits n) (out-DArm a).matches)
  arms_fit n (a ∷ as') h =
      let k = both_true ((sized_arm vs a).formed n ls inside kinds) (list_all (λ (x : Branch). x.formed n ls inside kinds) (map (sized_arm vs) as')) h in
      let items = list_all (λ (x : Choice). x.formed n ls) (map (sized_match vs) (out-DArm a).matches) in
      let t : (items && (sized_stmt vs (out-DArm a).body).formed ls inside kinds) ≡ true = sym (ap (λ (y : Branch). y.formed n ls inside kinds) (f.sized_arm_is vs a)) ∙ k.0 in
      All-cons (λ (a : DArm). All (ItemFits n) (out-DArm a).matches) a as'
      (matches_fit n (out-DArm a).matches (both_true items ((sized_stmt vs (out-DArm a).body).formed ls inside kinds) t).0) (arms_fit n as' k.1)

  case_fits : (selector : DExpr) (arms : List DArm) (last : Bool)
      → ((sized_expr vs selector).formed ls && list_all (λ (x : Branch). x.formed (sized_expr vs selector).length ls inside kinds) (map (sized_arm vs) arms) && last) ≡ true
      → All (λ (a : DArm). All (ItemFits selector.length) (out-DArm a).matches) arms
  case_fits selector arms last h =
      let e = sized_expr vs selector in
      let b = list_all (λ (x : Branch). x.formed e.length ls inside kinds) (map (sized_arm vs) arms) in
      subst (λ n. All (λ (a : DArm). All (ItemFits n) (out-DArm a).matches) arms) (f.sized_length vs selector) (arms_fit e.length arms (both_true (e.formed ls) b (both_true (e.formed ls && b) last h).0).1)

  layer_fits : (x : StmtLayer) → (stmt_size (f.stmt_parts vs x)).formed ls inside kinds ≡ true → items_fit_in x
  layer_fits (DStmt-F.Block parts) h = tt
  layer_fits (DStmt-F.Write l e blocking) h = tt
  layer_fits (DStmt-F.If test a b) h = tt
  layer_fits (DStmt-F.Case selector arms None) h = case_fits selector arms true h
  layer_fits (DStmt-F.Case selector arms (Some rest)) h = case_fits selector arms ((sized_stmt vs rest).formed ls inside kinds) h
  layer_fits (DStmt-F.Turns parts) h = tt

-- the items of a formed statement fit
pub formed_items : (vs ls : List ℕ) (inside : Bool) (kinds : Bool → Bool) (s : DStmt) → IsFormedOf vs ls inside kinds s → ItemsFit s
unfolding IsFormedOf ItemsFit
formed_items vs ls inside kinds s h =
    layer_fits vs ls inside kinds (out-DStmt s) (sym (ap (λ (y : Body). y.formed ls inside kinds) (f.stmt_node vs s (out-DStmt s) refl)) ∙ h)

-- a branch of a `case` whose selector and items have these words
split_lengths : {V : Type 0} (words : List (Word V)) (n : ℕ) (ns : List ℕ) → map (λ (w : Word V). w.length) words ≡ n ∷ ns
    → (1 ≤ length words) × (((w : Word V) → (get_or words 0 w).length ≡ n) × (map (λ (w : Word V). w.length) (drop 1 words) ≡ ns))
split_lengths [] n ns e = let l = ap length e in absurd (omega (arith, l))
split_lengths {V} (w ∷ ws) n ns e = (omega arith, (λ x. ap (λ l. get_or l 0 0) e, ap (λ (l : List ℕ). drop 1 l) e))

firsts_long : (left : Bool) (ts : List Bool) → length (firsts left ts) ≡ length ts + 1
firsts_long left [] = omega arith
firsts_long left (t ∷ ts) = let e = firsts_long (left && not t) ts in omega (arith, e)

rest_short : (rest : Option DStmt) → length (rest_of rest) ≤ 1
rest_short None = omega arith
rest_short (Some s) = omega arith

case_short : (arms : List DArm) (rest : Option DStmt) → length (map (λ (a : DArm). (out-DArm a).body) arms ++ rest_of rest) ≤ length arms + 1
case_short arms rest =
    let a = length-append (map (λ (a : DArm). (out-DArm a).body) arms) (rest_of rest) in
    let b = length-map arms (λ (a : DArm). (out-DArm a).body) in
    let r = rest_short rest in
    omega (arith, a, b, r)

-- a list with a first element
first_and_rest : {X Y : Type 0} (f : X → Y) (xs : List X) (x : X) → 1 ≤ length xs → map f xs ≡ f (get_or xs 0 x) ∷ map f (drop 1 xs)
first_and_rest f [] x l = absurd (omega (arith, l))
first_and_rest f (y ∷ xs) x l = refl

module _ {S V : Type 0} (m : Meaning S V) where
  -- as many guards as truths
  guards_many : (d : S) (gs : List (Option V)) (allowed : (ℕ → Bool) → List Bool) → AreGuards m d gs allowed → length gs ≡ length (allowed (λ k. false))
  guards_many d gs allowed h = sym (length-map gs (allows m d (λ k. false))) ∙ ap length (h.allow (λ k. false))

  module _ (s : DStmt) (words : List (Word V)) (long : map (λ (w : Word V). w.length) words ≡ map (λ (e : DExpr). e.length) (heads_of s)) where
    pub if_words : (test : DExpr) (a b : DStmt) → s ≡ stmts.If test a b → 1 ≤ length words
    if_words test a b is = (split_lengths words test.length [] (long ∙ ap (map (λ (e : DExpr). e.length)) (heads_if s test a b is))).0

    pub case_words : (selector : DExpr) (arms : List DArm) (rest : Option DStmt) → s ≡ stmts.Case selector arms rest
        → (1 ≤ length words) × (((w : Word V) → (get_or words 0 w).length ≡ selector.length) × (map (λ (w : Word V). w.length) (drop 1 words) ≡ map (λ (e : DExpr). e.length) (items_of arms)))
    case_words selector arms rest is = split_lengths words selector.length (map (λ (e : DExpr). e.length) (items_of arms)) (long ∙ ap (map (λ (e : DExpr). e.length)) (heads_case s selector arms rest is))

    pub case_long : (selector : DExpr) (arms all : List DArm) (rest : Option DStmt) → s ≡ stmts.Case selector arms rest → all ≡ arms
        → map (λ (w : Word V). w.length) (take (length words - 1) (drop 1 words)) ≡ map (λ (e : DExpr). e.length) (items_of all)
    case_long selector arms all rest is e =
        ap (map (λ (w : Word V). w.length)) (take_rest words 1) ∙ (case_words selector arms rest is).1.1 ∙ ap (λ l. map (λ (e : DExpr). e.length) (items_of l)) (sym e)

    pub case_fit : (selector : DExpr) (arms all : List DArm) (rest : Option DStmt) (w : Word V) → s ≡ stmts.Case selector arms rest → all ≡ arms → w ≡ get_or words 0 w → ItemsFit s
        → All (λ (a : DArm). All (ItemFits w.length) (out-DArm a).matches) all
    case_fit selector arms all rest w is e at fit =
        let n : selector.length ≡ w.length = sym ((case_words selector arms rest is).1.0 w) ∙ ap (λ (x : Word V). x.length) (sym at) in
        subst (λ l. All (λ (a : DArm). All (ItemFits w.length) (out-DArm a).matches) l) (sym e)
        (subst (λ k. All (λ (a : DArm). All (ItemFits k) (out-DArm a).matches) arms) n (fit_case s selector arms rest is fit))

  pub first_word : (d : S) (words : List (Word V)) (w : Word V) → 1 ≤ length words → w ≡ get_or words 0 w → All (IsWord m d) words → IsWord m d w
  first_word d words w l is all = subst (IsWord m d) (sym is) (all 0 w l)

  pub rest_words : (d : S) (words : List (Word V)) → All (IsWord m d) words → All (IsWord m d) (take (length words - 1) (drop 1 words))
  rest_words d words all = subst (All (IsWord m d)) (sym (take_rest words 1)) (All-drop (IsWord m d) 1 words all)

  pub made_none : (d : S) (gs : List (Option V)) (s : DStmt) (l : DLeft) (e : DExpr) (blocking : Bool) (guard : Option V) (lists : (ℕ → Bool) → List (List Bool)) → s ≡ stmts.Write l e blocking → gs ≡ []
      → AreGuards m d gs (λ v. allowed_of s (allows m d v guard) (lists v))
  made_none d gs s l e blocking guard lists is none = subst (λ o. AreGuards m d o (λ v. allowed_of s (allows m d v guard) (lists v))) (sym none) (record {
    are = All-nil (IsGuard m d);
    allow = λ v. sym (allowed_write s l e blocking (allows m d v guard) (lists v) is);
  })

  pub many_none : (gs : List (Option V)) (s : DStmt) (l : DLeft) (e : DExpr) (blocking : Bool) → s ≡ stmts.Write l e blocking → length (children_of s) ≤ length gs
  many_none gs s l e blocking is = let n = ap length (children_write s l e blocking is) in omega (arith, n)

  pub made_same : (d : S) (gs : List (Option V)) (had allowed : (ℕ → Bool) → List Bool) → AreGuards m d gs had → ((v : ℕ → Bool) → had v ≡ allowed v) → AreGuards m d gs allowed
  made_same d gs had allowed h e = record { are = h.are; allow = λ v. h.allow v ∙ e v }

  -- a branch for the test and one for its negation
  pub made_if : (d0 d1 d2 : S) (s : DStmt) (test : DExpr) (a b : DStmt) (words : List (Word V)) (w : Word V) (guard : Option V) (x : V) (had xs tests : List V) (gs : List (Option V)) → s ≡ stmts.If test a b → 1 ≤ length words
      → IsGuard m d0 guard → Keeps m d0 d1 → ((v : ℕ → Bool) → m.reads d1 v x ≡ m.reads d0 v (get_or words 0 w).value) → had ≡ [] → xs ≡ had ++ x ∷ [] → tests ≡ xs
      → AreGuards m d2 gs (λ v. firsts (allows m d1 v guard) (map (λ (y : V). is_set (m.reads d1 v y)) tests))
      → AreGuards m d2 gs (λ v. allowed_of s (allows m d0 v guard) (map (λ (w : Word V). m.reads d0 v w.value) words))
  made_if d0 d1 d2 s test a b words w guard x had xs tests gs is l i k reads none one e h =
      made_same d2 gs (λ v. firsts (allows m d1 v guard) (map (λ (y : V). is_set (m.reads d1 v y)) tests)) (λ v. allowed_of s (allows m d0 v guard) (map (λ (w : Word V). m.reads d0 v w.value) words)) h
      (λ v. ap (λ ys. firsts (allows m d1 v guard) (map (λ (y : V). is_set (m.reads d1 v y)) ys)) (e ∙ one ∙ ap (λ ys. ys ++ x ∷ []) none)
      ∙ ap₂ (λ r y. firsts r (is_set y ∷ [])) (d.kept_allows m d0 d1 v guard k i) (reads v)
      ∙ sym (allowed_if s test a b (allows m d0 v guard) (m.reads d0 v (get_or words 0 w).value) (map (λ (w : Word V). m.reads d0 v w.value) (drop 1 words)) is)
      ∙ ap (allowed_of s (allows m d0 v guard)) (sym (first_and_rest (λ (w : Word V). m.reads d0 v w.value) words w l)))

  pub many_if : (d1 d2 : S) (s : DStmt) (test : DExpr) (a b : DStmt) (guard : Option V) (x : V) (had xs tests : List V) (gs : List (Option V)) → s ≡ stmts.If test a b → had ≡ [] → xs ≡ had ++ x ∷ [] → tests ≡ xs
      → AreGuards m d2 gs (λ v. firsts (allows m d1 v guard) (map (λ (y : V). is_set (m.reads d1 v y)) tests))
      → length (children_of s) ≤ length gs
  many_if d1 d2 s test a b guard x had xs tests gs is none one e h =
      let two = ap length (children_if s test a b is) in
      let g = guards_many d2 gs (λ v. firsts (allows m d1 v guard) (map (λ (y : V). is_set (m.reads d1 v y)) tests)) h in
      let f = firsts_long (allows m d1 (λ k. false) guard) (map (λ (y : V). is_set (m.reads d1 (λ k. false) y)) tests) in
      let n = length-map tests (λ (y : V). is_set (m.reads d1 (λ k. false) y)) in
      let o = ap length (e ∙ one ∙ ap (λ ys. ys ++ x ∷ []) none) in
      omega (arith, two, g, f, n, o)

  -- a branch for each arm, and one where none matches
  pub made_case : (d0 d1 d2 : S) (s : DStmt) (selector : DExpr) (arms all : List DArm) (rest : Option DStmt) (words : List (Word V)) (w : Word V) (guard : Option V) (xs tests : List V) (gs : List (Option V))
      → s ≡ stmts.Case selector arms rest → 1 ≤ length words → all ≡ arms → w ≡ get_or words 0 w → IsGuard m d0 guard → Keeps m d0 d1
      → AllTell m d1 xs (λ v. arm_hits all (m.reads d0 v w.value) (map (λ (w : Word V). m.reads d0 v w.value) (take (length words - 1) (drop 1 words)))) → tests ≡ xs
      → AreGuards m d2 gs (λ v. firsts (allows m d1 v guard) (map (λ (y : V). is_set (m.reads d1 v y)) tests))
      → AreGuards m d2 gs (λ v. allowed_of s (allows m d0 v guard) (map (λ (w : Word V). m.reads d0 v w.value) words))
  made_case d0 d1 d2 s selector arms all rest words w guard xs tests gs is l same at i k told e h =
      made_same d2 gs (λ v. firsts (allows m d1 v guard) (map (λ (y : V). is_set (m.reads d1 v y)) tests)) (λ v. allowed_of s (allows m d0 v guard) (map (λ (w : Word V). m.reads d0 v w.value) words)) h
      (λ v. let f : Word V → List Bool = λ w. m.reads d0 v w.value in
      ap₂ (λ r ys. firsts r (map (λ (y : V). is_set (m.reads d1 v y)) ys)) (d.kept_allows m d0 d1 v guard k i) e
      ∙ ap (firsts (allows m d0 v guard)) (told.tell v
      ∙ ap₂ (λ l ws. arm_hits l (f w) (map f ws)) same (take_rest words 1)
      ∙ ap (λ (y : Word V). arm_hits arms (f y) (map f (drop 1 words))) at)
      ∙ sym (allowed_case s selector arms rest (allows m d0 v guard) (f (get_or words 0 w)) (map f (drop 1 words)) is)
      ∙ ap (allowed_of s (allows m d0 v guard)) (sym (first_and_rest f words w l)))

  pub many_case : (d0 d1 d2 : S) (s : DStmt) (selector : DExpr) (arms all : List DArm) (rest : Option DStmt) (words : List (Word V)) (w : Word V) (guard : Option V) (xs tests : List V) (gs : List (Option V))
      → s ≡ stmts.Case selector arms rest → all ≡ arms
      → AllTell m d1 xs (λ v. arm_hits all (m.reads d0 v w.value) (map (λ (w : Word V). m.reads d0 v w.value) (take (length words - 1) (drop 1 words)))) → tests ≡ xs
      → AreGuards m d2 gs (λ v. firsts (allows m d1 v guard) (map (λ (y : V). is_set (m.reads d1 v y)) tests))
      → length (children_of s) ≤ length gs
  many_case d0 d1 d2 s selector arms all rest words w guard xs tests gs is same told e h =
      let none : ℕ → Bool = λ k. false in
      let short = case_short arms rest in
      let c = ap length (children_case s selector arms rest is) in
      let g = guards_many d2 gs (λ v. firsts (allows m d1 v guard) (map (λ (y : V). is_set (m.reads d1 v y)) tests)) h in
      let f = firsts_long (allows m d1 none guard) (map (λ (y : V). is_set (m.reads d1 none y)) tests) in
      let t = ap (λ ys. length (map (λ (y : V). is_set (m.reads d1 none y)) ys)) e ∙ ap length (told.tell none)
      ∙ hits_long all (m.reads d0 none w.value) (map (λ (w : Word V). m.reads d0 none w.value) (take (length words - 1) (drop 1 words))) ∙ ap length same in
      omega (arith, short, c, g, f, t)

  -- all parts of a block, or of the turns of a loop
  allowed_parts : (s : DStmt) (parts : List DStmt) (runs : Bool) (values : List (List Bool)) → (s ≡ stmts.Block parts) ⊎ (s ≡ stmts.Turns parts) → allowed_of s runs values ≡ replicate (length parts) runs
  allowed_parts s parts runs values (inl is) = allowed_block s parts runs values is
  allowed_parts s parts runs values (inr is) = allowed_turns s parts runs values is

  children_parts : (s : DStmt) (parts : List DStmt) → (s ≡ stmts.Block parts) ⊎ (s ≡ stmts.Turns parts) → children_of s ≡ parts
  children_parts s parts (inl is) = children_block s parts is
  children_parts s parts (inr is) = children_turns s parts is

  pub made_parts : (d0 d1 : S) (s : DStmt) (parts : List DStmt) (n : ℕ) (lists : (ℕ → Bool) → List (List Bool)) (guard : Option V) (gs : List (Option V)) → (s ≡ stmts.Block parts) ⊎ (s ≡ stmts.Turns parts) → n ≡ length parts
      → AreGuards m d1 gs (λ v. replicate n (allows m d0 v guard)) → AreGuards m d1 gs (λ v. allowed_of s (allows m d0 v guard) (lists v))
  made_parts d0 d1 s parts n lists guard gs is e h =
      made_same d1 gs (λ v. replicate n (allows m d0 v guard)) (λ v. allowed_of s (allows m d0 v guard) (lists v)) h
      (λ v. ap (λ k. replicate k (allows m d0 v guard)) e ∙ sym (allowed_parts s parts (allows m d0 v guard) (lists v) is))

  pub many_parts : (d0 d1 : S) (s : DStmt) (parts : List DStmt) (n : ℕ) (guard : Option V) (gs : List (Option V)) → (s ≡ stmts.Block parts) ⊎ (s ≡ stmts.Turns parts) → n ≡ length parts
      → AreGuards m d1 gs (λ v. replicate n (allows m d0 v guard)) → length (children_of s) ≤ length gs
  many_parts d0 d1 s parts n guard gs is e h =
      let c = ap length (children_parts s parts is) in
      let g = guards_many d1 gs (λ v. replicate n (allows m d0 v guard)) h ∙ length-replicate n (allows m d0 (λ k. false) guard) in
      omega (arith, c, g, e)

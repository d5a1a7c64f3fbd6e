-- Nodes with formed operands are formed.
use Rattle.std.proofs.Common.{◌≡◌, ℕ, ◌+◌, ◌*◌, ◌++◌, ◌≤◌, Bool, true, false, ◌&&◌, List, [], ◌∷◌, length, map, refl, ap, ◌∙◌, arith}
use Rattle.std.specs.Prelude.{nat_le, nat_eq, if◌then◌else◌, ◌==◌}
use Rattle.std.proofs.lemmas.Bool.Decides.{nat_tests}
use Rattle.design_core.proofs.BoolLaws.{true_both, both_true}
use Rattle.design_core.proofs.FormedLaws as f
use Rattle.design_core.specs.declared.operators.Unary.{Unary}
use Rattle.design_core.specs.declared.operators.Binary.{Binary}
use Rattle.design_core.specs.declared.tree.DExpr.{DExpr}
use Rattle.design_core.specs.declared.tree.DNode.TheVariants as node
use Rattle.design_core.specs.Formed.{Sized, is_vector, is_narrow, sized_expr, all_formed, all_lengths, unary_fits, binary_fits}
use Rattle.vl_size.specs.declared.tree.Size.{Size}
use Rattle.vl_const.specs.declared.places.Aim.{Aim}
use Rattle.vl_elab_trees.specs.declared.places.Index.{Index}
use Rattle.vl_elab_trees.specs.declared.places.Index.TheVariants.{Fixed, Variable}
use Rattle.vl_elab_trees.specs.Built.{selected_in}
use Rattle.vl_const.specs.Places.{low_at}
use Rattle.vl_elab_trees.specs.Nodes.{at, same, brought, constant, kept}
use Rattle.vl_elab_trees.proofs.ListLaws.{lengths_more}

pub vector : (n : ℕ) → 1 ≤ n → n ≤ 65536 → is_vector n ≡ true
vector n l k = grind (arith, nat_tests, l, k)

same_true : (n : ℕ) → (n == n) ≡ true
same_true n = grind (arith, nat_tests)

pub equal : (n k : ℕ) → n ≡ k → (n == k) ≡ true
equal n k e = grind (arith, nat_tests, e)

pub at_most : (n k : ℕ) → n ≤ k → nat_le n k ≡ true
at_most n k l = grind (arith, nat_tests, l)

module _ (vs ls : List ℕ) where
  abbrev pub is_formed : DExpr → Bool
  is_formed e = (sized_expr vs e).formed ls

  -- an expression is formed, and has the length of its context
  pub record Good (x : Size) (e : DExpr) : Type 0 where
    pub formed : is_formed e ≡ true
    pub length : e.length ≡ x.length

  sized_is : (e : DExpr) (y : Sized) → sized_expr vs e ≡ y → y.formed ls ≡ true → is_formed e ≡ true
  sized_is e y is h = ap (λ (z : Sized). z.formed ls) is ∙ h

  pub constant_good : (x : Size) (v : List Bool) → length v ≡ x.length → 1 ≤ x.length → x.length ≤ 65536 → Good x (constant x v)
  constant_good x v e l k = record {
    formed = sized_is _ _ (f.sized_constant vs (constant x v) v refl) (true_both _ _ (vector x.length l k) (equal _ _ e));
    length = refl;
  }

  extended : (x : Size) (e : DExpr) → is_formed e ≡ true → e.length ≤ x.length → 1 ≤ x.length → x.length ≤ 65536 → Good x (at x (node.Extend e x.signed))
  extended x e h w l k = record {
    formed = sized_is _ _ (f.sized_extend vs (at x (node.Extend e x.signed)) e x.signed refl)
        (true_both _ _ (vector x.length l k) (true_both _ _ h (ap (λ n. nat_le n x.length) (f.sized_length vs e) ∙ at_most _ _ w)));
    length = refl;
  }

  lengths_same : (n k : ℕ) (t : Bool) → ((n == k) && t) ≡ true → n ≡ k
  lengths_same n k t e = let s = (both_true _ t e).0 in grind (arith, nat_tests, s)

  pub brought_good : (x : Size) (e : DExpr) → is_formed e ≡ true → e.length ≤ x.length → 1 ≤ x.length → x.length ≤ 65536 → Good x (brought x e)
  brought_good x e h w l k = by ((e.length == x.length) && same e.signed x.signed) refl
    where
      by : (t : Bool) → ((e.length == x.length) && same e.signed x.signed) ≡ t → Good x (if t then e else at x (node.Extend e x.signed))
      by true s = record { formed = h; length = lengths_same _ _ _ s }
      by false s = extended x e h w l k

  pub unary_good : (x : Size) (op : Unary) (a : DExpr) → is_formed a ≡ true → unary_fits op x.length a.length ≡ true → 1 ≤ x.length → x.length ≤ 65536 → Good x (at x (node.Unary op a))
  unary_good x op a h fits l k = record {
    formed = sized_is _ _ (f.sized_unary vs (at x (node.Unary op a)) op a refl)
        (true_both _ _ (vector x.length l k) (true_both _ _ h (ap (unary_fits op x.length) (f.sized_length vs a) ∙ fits)));
    length = refl;
  }

  pub binary_good : (x : Size) (op : Binary) (a c : DExpr) → is_formed a ≡ true → is_formed c ≡ true → binary_fits op x.length a.length c.length ≡ true → 1 ≤ x.length → x.length ≤ 65536
      → Good x (at x (node.Binary op a c))
  binary_good x op a c h g fits l k = record {
    formed = sized_is _ _ (f.sized_binary vs (at x (node.Binary op a c)) op a c refl)
        (true_both _ _ (vector x.length l k) (true_both _ _ (true_both _ _ h g) (ap (λ n. binary_fits op x.length n (sized_expr vs c).length) (f.sized_length vs a) ∙ ap (binary_fits op x.length a.length) (f.sized_length vs c) ∙ fits)));
    length = refl;
  }

  pub choice_good : (x : Size) (t a c : DExpr) → is_formed t ≡ true → Good x a → Good x c → 1 ≤ x.length → x.length ≤ 65536 → Good x (at x (node.Mux t a c))
  choice_good x t a c h g i l k = record {
    formed = sized_is _ _ (f.sized_mux vs (at x (node.Mux t a c)) t a c refl)
        (true_both _ _ (vector x.length l k) (true_both _ _ (true_both _ _ (true_both _ _ (true_both _ _ h g.formed) i.formed) (equal _ _ (f.sized_length vs a ∙ g.length))) (equal _ _ (f.sized_length vs c ∙ i.length))));
    length = refl;
  }

  -- the index of a select is a constant, or formed and not too wide
  pub record IsNarrow (e : DExpr) : Type 0 where
    pub formed : is_formed e ≡ true
    pub narrow : is_narrow e.length ≡ true

  abbrev pub IsIndex : Index → Type 0
  IsIndex (Fixed i) = Unit {0}
  IsIndex (Variable e) = IsNarrow e

  pub selected_formed : (x : Size) (base : DExpr) (aim : Aim) (i : Index) → is_formed base ≡ true → IsIndex i → 1 ≤ x.length → x.length ≤ 65536 → is_formed (at x (selected_in base aim i)) ≡ true
  selected_formed x base aim (Fixed i) h g l k = sized_is _ _ (f.sized_select vs (at x (node.Select base (low_at aim i))) base (low_at aim i) refl) (true_both _ _ (vector x.length l k) h)
  selected_formed x base aim (Variable e) h g l k =
      sized_is _ _ (f.sized_select_at vs (at x (node.SelectAt base e aim.offset aim.down)) base e aim.offset aim.down refl)
      (true_both _ _ (vector x.length l k) (true_both _ _ (true_both _ _ h g.formed) (ap is_narrow (f.sized_length vs e) ∙ g.narrow)))

  -- parts of a concatenation, which have so many bits together
  pub record IsParts (es : List DExpr) (n : ℕ) : Type 0 where
    pub formed : all_formed (map (sized_expr vs) es) ls ≡ true
    pub length : all_lengths (map (sized_expr vs) es) ≡ n

  pub no_parts : IsParts [] 0
  no_parts = record { formed = refl; length = refl }

  one_part_more : (e : DExpr) (es : List DExpr) (n k : ℕ) → is_formed e ≡ true → e.length ≡ n → IsParts es k → IsParts (e ∷ es) (n + k)
  one_part_more e es n k h l rest =
      let more = lengths_more (sized_expr vs e) (map (sized_expr vs) es) in
      let long = f.sized_length vs e in
      record { formed = true_both _ _ h rest.formed; length = omega (arith, more, long, l, rest.length) }

  pub kept_parts : (n : ℕ) (e : DExpr) (es : List DExpr) (k : ℕ) → (1 ≤ n → (is_formed e ≡ true) × (e.length ≡ n)) → IsParts es k → IsParts (kept n e ++ es) (n + k)
  kept_parts n e es k h rest = by (nat_eq n 0) refl
    where
      by : (t : Bool) → nat_eq n 0 ≡ t → IsParts ((if t then [] else e ∷ []) ++ es) (n + k)
      by true is = let z : n ≡ 0 = grind (arith, nat_tests, is) in record { formed = rest.formed; length = omega (arith, rest.length, z) }
      by false is = let one = h (grind (arith, nat_tests, is)) in one_part_more e es n k one.0 one.1 rest

  pub concat_formed : (z : Size) (es : List DExpr) → IsParts es z.length → 1 ≤ z.length → z.length ≤ 65536 → is_formed (at z (node.Concat es)) ≡ true
  concat_formed z es h l k = sized_is _ _ (f.sized_concat vs (at z (node.Concat es)) es refl) (true_both _ _ (vector z.length l k) (true_both _ _ h.formed (equal _ _ h.length)))

  pub repeat_formed : (z : Size) (k : ℕ) (e : DExpr) → is_formed e ≡ true → k * e.length ≡ z.length → 1 ≤ z.length → z.length ≤ 65536 → is_formed (at z (node.Repeat k e)) ≡ true
  repeat_formed z k e h w l j = sized_is _ _ (f.sized_repeat vs (at z (node.Repeat k e)) k e refl) (true_both _ _ (vector z.length l j) (true_both _ _ h (equal _ _ (ap (λ n. k * n) (f.sized_length vs e) ∙ w))))

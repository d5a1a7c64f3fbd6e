-- The slice decides with which leaf values a query is hit, and so which are the first.
use Rattle.std.proofs.Common.{◌≡◌, ℕ, ◌≤◌, Bool, true, List, [], ◌∷◌, map, inl, inr, refl, sym, ◌∙◌, ap₂, Option, Some, None}
use Rattle.design_core.specs.Cells.{Bitmap, Cell, In, IsSlice, states, assigned}
use Rattle.design_core.specs.Rows.{Query, last_of, IsAbout, IsChecked}
use Rattle.design_core.specs.Leaves.{Leaf, stored, input, leaf_value, HitsWith, IsFirstHit, IsLeafOf}
use Rattle.design_laws.proofs.TraceLaws.{filled, longer_same}
use Rattle.design_laws.proofs.RowLaws.{part_hits, whole_hits, start_of, starts_same}

module _ {B : Type 0} where
  pub starts_stored : (p : Option (Bitmap B)) (s : Bitmap B) (b : B) → p ≡ None → start_of p s b ≡ s b
  starts_stored None s b h = refl
  starts_stored (Some p) s b h = cc

  pub same_leaf : (R : B → Bool) (last : ℕ) (p : Option (Bitmap B)) (s σ t τ : ℕ → Bitmap B) (x : Leaf B) → IsLeafOf R last p x
      → ((b : B) → p ≡ None → t 0 b ≡ s 0 b) → ((k : ℕ) → k ≤ last → (b : B) → R b ≡ true → σ k b ≡ τ k b) → leaf_value t τ x ≡ leaf_value s σ x
  same_leaf R last p s σ t τ (stored b) h begins same = begins b h
  same_leaf R last p s σ t τ (input k b) h begins same = sym (same k h.0 b h.1)

  pub same_leaves : (R : B → Bool) (last : ℕ) (p : Option (Bitmap B)) (s σ t τ : ℕ → Bitmap B) (xs : List (Leaf B)) → ((x : Leaf B) → In x xs → IsLeafOf R last p x)
      → ((b : B) → p ≡ None → t 0 b ≡ s 0 b) → ((k : ℕ) → k ≤ last → (b : B) → R b ≡ true → σ k b ≡ τ k b)
      → map (leaf_value t τ) xs ≡ map (leaf_value s σ) xs
  same_leaves R last p s σ t τ [] h begins same = refl
  same_leaves R last p s σ t τ (x ∷ xs) h begins same = ap₂ (λ v vs. v ∷ vs)
      (same_leaf R last p s σ t τ x (h x (inl refl)) begins same)
      (same_leaves R last p s σ t τ xs (λ y m. h y (inr m)) begins same)

  -- one way: the values with which the one design is hit hit the other with the same slice
  pub slice_hits_with : (E F S : List (Cell B)) (R : B → Bool) (held : ℕ → B → Option Bool) (p : Option (Bitmap B)) (query : Query B)
      (leaves : List (Leaf B)) (values : List Bool) → IsChecked F held → IsSlice E S R → IsSlice F S R → IsAbout R query
      → ((x : Leaf B) → In x leaves → IsLeafOf R (last_of query) p x)
      → HitsWith E held p query leaves values → HitsWith F held p query leaves values
  unfolding part_hits whole_hits
  slice_hits_with E F S R held p query leaves values checked one other about are w =
      let c = part_hits E S held p query one.inside w.can in
      record {
        can = whole_hits F S R held p query checked other about c;
        has = same_leaves R (last_of query) p c.s c.σ
            (states F (start_of p (c.s 0)) (filled R held c.σ)) (assigned F (start_of p (c.s 0)) (filled R held c.σ)) leaves are
            (λ b h. starts_stored p (c.s 0) b h)
            (longer_same F S R checked.ordered checked.lawful other held checked.free (last_of query) c.s c.σ c.trace (start_of p (c.s 0)) (starts_same S p (c.s 0) c.begins))
            ∙ w.has;
      }

  -- two designs with the same slice have the same first values
  pub slice_first : (E F S : List (Cell B)) (R : B → Bool) (held : ℕ → B → Option Bool) (p : Option (Bitmap B)) (query : Query B)
      (leaves : List (Leaf B)) (values : List Bool) → IsChecked E held → IsChecked F held → IsSlice E S R → IsSlice F S R → IsAbout R query
      → ((x : Leaf B) → In x leaves → IsLeafOf R (last_of query) p x)
      → IsFirstHit E held p query leaves values → IsFirstHit F held p query leaves values
  slice_first E F S R held p query leaves values checked checked' one other about are w = record {
    hits = slice_hits_with E F S R held p query leaves values checked' one other about are w.hits;
    none_before = λ v u. w.none_before v (slice_hits_with F E S R held p query leaves v checked other one about are u);
  }

-- Windows and runs: a part of the cells has the windows of the whole, and a closed part decides.
use Rattle.std.proofs.Common.{◌≡◌, ℕ, zero, suc, ◌≤◌, Bool, true, false, List, [], ◌∷◌, inl, inr, refl, sym, ◌∙◌, ap, subst, if◌then◌else◌, ◌&&◌, ◌||◌, Option, Some, None, arith}
use Rattle.design_core.specs.Cells.{Bitmap, Cell, In, driven, IsLawful, IsOrdered, Steps, next, states, assigned, IsTrace, IsSlice}
use Rattle.design_laws.proofs.OrderLaws.{not_both, either, if_true, if_false, settle_keeps, settle_holds, Part, agree}

both_true : (a b : Bool) → a ≡ true → b ≡ true → (a && b) ≡ true
both_true true b h k = k
both_true false b h k = cc

and_false : (a b : Bool) → b ≡ false → (a && b) ≡ false
and_false true b h = h
and_false false b h = refl

abbrev pub held_or : Option Bool → Bool
held_or None = false
held_or (Some v) = v

module _ {B : Type 0} where
  -- a part of the cells has each trace of the whole
  pub part_trace : (E S : List (Cell B)) (held : ℕ → B → Option Bool) (last : ℕ) (s σ : ℕ → Bitmap B)
      → ((c : Cell B) → In c S → In c E) → IsTrace E held last s σ → IsTrace S held last s σ
  part_trace E S held last s σ inside w = record {
    settled = λ k l c m. w.settled k l c (inside c m);
    steps = λ k l c m. w.steps k l c (inside c m);
    holding = w.holding;
  }

  pub in_driven : (E : List (Cell B)) (c : Cell B) (b : B) → In c E → c.drives b ≡ true → driven E b ≡ true
  in_driven [] c b m h = elim m [ ]
  in_driven (x ∷ xs) c b (inl is) h = let e : x.drives b ≡ true = ap (λ (d : Cell B). d.drives b) (sym is) ∙ h in
      elim (either (x.drives b)) [ inl t ↦ ap (λ v. v || driven xs b) t | inr f ↦ not_both (x.drives b) e f ]
  in_driven (x ∷ xs) c b (inr m) h = elim (either (driven xs b)) [
    | inl t ↦ elim (either (x.drives b)) [ inl u ↦ ap (λ v. v || driven xs b) u | inr u ↦ ap (λ v. v || driven xs b) u ∙ t ]
    | inr f ↦ not_both (driven xs b) (in_driven xs c b m h) f
  ]

  -- one cell alone drives a bit
  pub sole : (E : List (Cell B)) → IsOrdered E → (c d : Cell B) (b : B) → In c E → In d E → c.drives b ≡ true → d.drives b ≡ true → c ≡ d
  sole [] o c d b m n h k = elim m [ ]
  sole (x ∷ xs) o c d b (inl e) (inl f) h k = e ∙ sym f
  sole (x ∷ xs) o c d b (inr m) (inr n) h k = sole xs o.1 c d b m n h k
  sole (x ∷ xs) o c d b (inl e) (inr n) h k =
      not_both (driven xs b) (in_driven xs d b n k) (o.0.alone b (ap (λ (y : Cell B). y.drives b) (sym e) ∙ h))
  sole (x ∷ xs) o c d b (inr m) (inl f) h k =
      not_both (driven xs b) (in_driven xs c b m h) (o.0.alone b (ap (λ (y : Cell B). y.drives b) (sym f) ∙ k))

  pub next_steps : (E : List (Cell B)) (s σ : Bitmap B) → IsOrdered E → (c : Cell B) → In c E → Steps c s σ (next E s σ)
  next_steps [] s σ o c m = elim m [ ]
  next_steps (x ∷ xs) s σ o c (inl is) = let P : Cell B → Type 0 = λ e. Steps e s σ (next (x ∷ xs) s σ) in
      subst P (sym is) (record { stores = λ b k h. if_true (x.clocked && x.drives b) (x.after s σ b) (next xs s σ b) (both_true x.clocked (x.drives b) k h) })
  next_steps (x ∷ xs) s σ o c (inr m) = record {
    stores = λ b k h.
        if_false (x.clocked && x.drives b) (x.after s σ b) (next xs s σ b)
        (and_false x.clocked (x.drives b) (elim (either (x.drives b)) [
          | inl t ↦ not_both (driven xs b) (in_driven xs c b m h) (o.0.alone b t)
          | inr f ↦ f
        ]))
        ∙ (next_steps xs s σ o.1 c m).stores b k h;
  }

  -- a trace of a closed part and a trace of the whole agree on what the part reads,
  -- where they begin alike and where the inputs among these bits agree
  module _ (E S : List (Cell B)) (R : B → Bool) (o : IsOrdered E) (laws : (c : Cell B) → In c E → IsLawful c) (slice : IsSlice E S R)
      (held held' : ℕ → B → Option Bool) (last : ℕ) (s σ t τ : ℕ → Bitmap B) (w : IsTrace S held last s σ) (v : IsTrace E held' last t τ)
      (inputs : (k : ℕ) → k ≤ last → (b : B) → R b ≡ true → driven E b ≡ false → σ k b ≡ τ k b)
      (begins : (c : Cell B) → In c S → (b : B) → c.drives b ≡ true → c.clocked ≡ true → s zero b ≡ t zero b) where
    parts : (k : ℕ) → k ≤ last → ((c : Cell B) → In c S → (b : B) → c.drives b ≡ true → c.clocked ≡ true → s k b ≡ t k b)
        → (c : Cell B) → In c E → (b : B) → R b ≡ true → c.drives b ≡ true → Part R (s k) (t k) (σ k) (τ k) c
    parts k l same c m b r d = let n = slice.closed c m b r d in
        record { one = w.settled k l c n; other = v.settled k l c m; reads_in = slice.reads_in c n; stored = same c n }

    agree_at : (k : ℕ) → k ≤ last → ((c : Cell B) → In c S → (b : B) → c.drives b ≡ true → c.clocked ≡ true → s k b ≡ t k b)
        → (b : B) → R b ≡ true → σ k b ≡ τ k b
    agree_at k l same = agree R (s k) (t k) (σ k) (τ k) E o laws (parts k l same) (inputs k l)

    pub same_states : (k : ℕ) → k ≤ last → (c : Cell B) → In c S → (b : B) → c.drives b ≡ true → c.clocked ≡ true → s k b ≡ t k b
    same_states zero l = begins
    same_states (suc k) l = λ c m b d q.
        let before = same_states k (omega arith) in
        (w.steps k (omega arith) c m).stores b q d
        ∙ (laws c (slice.inside c m)).after_same (s k) (t k) (σ k) (τ k) b d (λ a u. agree_at k (omega arith) before a (slice.uses_in c m a u)) (before c m b d q)
        ∙ sym ((v.steps k (omega arith) c (slice.inside c m)).stores b q d)

    pub traces_agree : (k : ℕ) → k ≤ last → (b : B) → R b ≡ true → σ k b ≡ τ k b
    traces_agree k l = agree_at k l (same_states k l)

  -- inputs: those of a trace at the bits R, the held ones elsewhere, and 0
  abbrev pub filled : (B → Bool) → (ℕ → B → Option Bool) → (ℕ → Bitmap B) → ℕ → Bitmap B
  filled R held σ k b = if R b then σ k b else held_or (held k b)

  -- a trace of a closed part goes on to a trace of the whole
  module _ (E S : List (Cell B)) (R : B → Bool) (o : IsOrdered E) (laws : (c : Cell B) → In c E → IsLawful c) (slice : IsSlice E S R)
      (held : ℕ → B → Option Bool) (free : (k : ℕ) (b : B) (v : Bool) → held k b ≡ Some v → driven E b ≡ false)
      (last : ℕ) (s σ : ℕ → Bitmap B) (w : IsTrace S held last s σ) (start : Bitmap B)
      (begins : (c : Cell B) → In c S → (b : B) → c.drives b ≡ true → c.clocked ≡ true → s zero b ≡ start b) where
    filled_holds : (k : ℕ) → k ≤ last → (b : B) (v : Bool) → held k b ≡ Some v → filled R held σ k b ≡ v
    filled_holds k l b v h = elim (either (R b)) [
      | inl r ↦ if_true (R b) (σ k b) (held_or (held k b)) r ∙ w.holding k l b v h
      | inr r ↦ if_false (R b) (σ k b) (held_or (held k b)) r ∙ ap held_or h
    ]

    pub longer_trace : IsTrace E held last (states E start (filled R held σ)) (assigned E start (filled R held σ))
    longer_trace = record {
      settled = λ k l c m. settle_holds E (states E start (filled R held σ) k) (filled R held σ k) o laws c m;
      steps = λ k l c m. next_steps E (states E start (filled R held σ) k) (assigned E start (filled R held σ) k) o c m;
      holding = λ k l b v h. settle_keeps E (states E start (filled R held σ) k) (filled R held σ k) b (free k b v h) ∙ filled_holds k l b v h;
    }

    pub longer_same : (k : ℕ) → k ≤ last → (b : B) → R b ≡ true → σ k b ≡ assigned E start (filled R held σ) k b
    longer_same = traces_agree E S R o laws slice held held last s σ (states E start (filled R held σ)) (assigned E start (filled R held σ)) w longer_trace
        (λ k l b r h. sym (settle_keeps E (states E start (filled R held σ) k) (filled R held σ k) b h ∙ if_true (R b) (σ k b) (held_or (held k b)) r))
        begins

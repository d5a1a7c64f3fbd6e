-- Traces under other names of bits.
use Rattle.std.proofs.Common.{◌≡◌, ℕ, suc, ◌+◌, Bool, List, [], ◌∷◌, map, inl, inr, refl, sym, ◌∙◌, ap, ap₂, Option, Some, not}
use Rattle.std.proofs.Math.Path.{fun_ext}
use Rattle.design_core.specs.Cells.{Bitmap, Cell, In, Holds, Steps, IsTrace}
use Rattle.design_core.specs.Rows.{Row, Breaks}
use Rattle.design_core.specs.Names.{IsNamed, AreNamed, named_row}

in_map : {X Y : Type 0} (f : X → Y) (xs : List X) (x : X) → In x xs → In (f x) (map f xs)
in_map f [] x m = m
in_map f (y ∷ ys) x (inl e) = inl (ap f e)
in_map f (y ∷ ys) x (inr m) = inr (in_map f ys x m)

of_map : {X Y : Type 0} (f : X → Y) (xs : List X) (y : Y) → In y (map f xs) → (x : X) × In x xs × (y ≡ f x)
of_map f [] y m = elim m [ ]
of_map f (x ∷ xs) y (inl e) = (x, inl refl, e)
of_map f (x ∷ xs) y (inr m) = let r = of_map f xs y m in (r.0, inr r.1, r.2)

module _ {B N : Type 0} (to : B → N) (back : N → B) where
  holds_pulled : (c : Cell B) (d : Cell N) (s σ : Bitmap N) → IsNamed to back c d → Holds d s σ → Holds c (λ a. s (to a)) (λ a. σ (to a))
  holds_pulled c d s σ same h = record { gives = λ b k. h.gives (to b) (same.drives_same b ∙ k) ∙ same.within_same s σ b }

  steps_pulled : (c : Cell B) (d : Cell N) (s σ t : Bitmap N) → IsNamed to back c d → Steps d s σ t → Steps c (λ a. s (to a)) (λ a. σ (to a)) (λ a. t (to a))
  steps_pulled c d s σ t same h = record { stores = λ b q k. h.stores (to b) (same.clocked_same ∙ q) (same.drives_same b ∙ k) ∙ same.after_same s σ b }

  again : ((b : B) → back (to b) ≡ b) → (s : Bitmap B) → (λ a. s (back (to a))) ≡ s
  again r s = fun_ext (λ a. ap s (r a))

  holds_pushed : ((b : B) → back (to b) ≡ b) → (c : Cell B) (d : Cell N) (s σ : Bitmap B) → IsNamed to back c d → Holds c s σ → Holds d (λ n. s (back n)) (λ n. σ (back n))
  holds_pushed r c d s σ same h = record {
    gives = λ n k.
        let e = same.drives_in n k in
        h.gives (back n) (sym (same.drives_same (back n)) ∙ ap d.drives e ∙ k)
        ∙ ap₂ (λ x y. c.within x y (back n)) (sym (again r s)) (sym (again r σ))
        ∙ sym (same.within_same (λ m. s (back m)) (λ m. σ (back m)) (back n))
        ∙ ap (d.within (λ m. s (back m)) (λ m. σ (back m))) e;
  }

  steps_pushed : ((b : B) → back (to b) ≡ b) → (c : Cell B) (d : Cell N) (s σ t : Bitmap B) → IsNamed to back c d → Steps c s σ t
      → Steps d (λ n. s (back n)) (λ n. σ (back n)) (λ n. t (back n))
  steps_pushed r c d s σ t same h = record {
    stores = λ n q k.
        let e = same.drives_in n k in
        h.stores (back n) (sym same.clocked_same ∙ q) (sym (same.drives_same (back n)) ∙ ap d.drives e ∙ k)
        ∙ ap₂ (λ x y. c.after x y (back n)) (sym (again r s)) (sym (again r σ))
        ∙ sym (same.after_same (λ m. s (back m)) (λ m. σ (back m)) (back n))
        ∙ ap (d.after (λ m. s (back m)) (λ m. σ (back m))) e;
  }

  pub trace_pulled : (E : List (Cell B)) (F : List (Cell N)) (held : ℕ → B → Option Bool) (named : ℕ → N → Option Bool) (last : ℕ) (s σ : ℕ → Bitmap N)
      → AreNamed to back E F → ((k : ℕ) (b : B) → named k (to b) ≡ held k b) → IsTrace F named last s σ
      → IsTrace E held last (λ k b. s k (to b)) (λ k b. σ k (to b))
  trace_pulled E F held named last s σ same hs w = record {
    settled = λ k l c m. (let r = same.there c m in holds_pulled c r.0 (s k) (σ k) r.2 (w.settled k l r.0 r.1));
    steps = λ k l c m. (let r = same.there c m in steps_pulled c r.0 (s k) (σ k) (s (suc k)) r.2 (w.steps k l r.0 r.1));
    holding = λ k l b v h. w.holding k l (to b) v (hs k b ∙ h);
  }

  pub trace_pushed : (E : List (Cell B)) (F : List (Cell N)) (held : ℕ → B → Option Bool) (named : ℕ → N → Option Bool) (last : ℕ) (s σ : ℕ → Bitmap B)
      → AreNamed to back E F → ((k : ℕ) (n : N) (v : Bool) → named k n ≡ Some v → held k (back n) ≡ Some v) → IsTrace E held last s σ
      → IsTrace F named last (λ k n. s k (back n)) (λ k n. σ k (back n))
  trace_pushed E F held named last s σ same hs w = record {
    settled = λ k l d m. (let r = same.here d m in holds_pushed same.returns r.0 d (s k) (σ k) r.2 (w.settled k l r.0 r.1));
    steps = λ k l d m. (let r = same.here d m in steps_pushed same.returns r.0 d (s k) (σ k) (s (suc k)) r.2 (w.steps k l r.0 r.1));
    holding = λ k l n v h. w.holding k l (back n) v (hs k n v h);
  }

  -- what a named row sees
  pub breaks_pulled : (row : Row B) (launch : ℕ) (σ : ℕ → Bitmap N) → Breaks (named_row to row) launch σ → Breaks row launch (λ k b. σ k (to b))
  breaks_pulled row launch σ w =
      let r = of_map (λ (p : B × B). (to p.0, to p.1)) row.pairs w.pair w.is_one in
      record {
        met = λ k l c m. w.met k l (to c.0, c.1) (in_map (λ (x : B × Bool). (to x.0, x.1)) row.conditions c m);
        pair = r.0;
        is_one = r.1;
        differs = sym (ap (λ (p : N × N). σ (launch + row.latency) p.1) r.2) ∙ w.differs ∙ ap (λ (p : N × N). not (σ launch p.0)) r.2;
      }

  pub breaks_pushed : ((b : B) → back (to b) ≡ b) → (row : Row B) (launch : ℕ) (σ : ℕ → Bitmap B) → Breaks row launch σ → Breaks (named_row to row) launch (λ k n. σ k (back n))
  breaks_pushed r row launch σ w = record {
    met = λ k l c m. (let q = of_map (λ (x : B × Bool). (to x.0, x.1)) row.conditions c m in
        ap (λ (x : N × Bool). σ (launch + k) (back x.0)) q.2 ∙ ap (σ (launch + k)) (r (q.0).0) ∙ w.met k l q.0 q.1 ∙ sym (ap (λ (x : N × Bool). x.1) q.2));
    pair = (to (w.pair).0, to (w.pair).1);
    is_one = in_map (λ (p : B × B). (to p.0, to p.1)) row.pairs w.pair w.is_one;
    differs = ap (σ (launch + row.latency)) (r (w.pair).1) ∙ w.differs ∙ ap not (sym (ap (σ launch) (r (w.pair).0)));
  }

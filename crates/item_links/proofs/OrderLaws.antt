-- What the search over numbers finds holds of the cells.
use Rattle.std.proofs.Common.{◌≡◌, ℕ, ◌+◌, ◌-◌, ◌<◌, ◌≤◌, Bool, true, false, inl, inr, List, [], ◌∷◌, length, get_or, refl, sym, ◌∙◌, ap, subst, Option, Some, None, MatchOption, arith}
use Rattle.std.proofs.lemmas.Bool.{cases_eq}
use Rattle.design_core.specs.declared.place.BitRef.{BitRef}
use Rattle.design_core.specs.Core.{bit}
use Rattle.design_core.specs.Cells.{Cell, In, driven, IsOrdered}
use Rattle.design_core.specs.Numbers.{is_bit, number, first_number, chosen_cells}
use Rattle.design_core.proofs.BoolLaws.{either, false_or, not_both}
use Rattle.design_laws.proofs.NumberLaws.{number_once}
use Rattle.item_order.specs.Circles as g
use Rattle.item_links.specs.Graphs.{IsGraphOf}
use Rattle.item_links.specs.Noted.{cell_in, IsFirstSignal}
use Rattle.item_links.specs.Orders.{Feeds, Leads, at_once, through, IsOnCircle, IsOrderOf, told, is_turned}
use Rattle.item_links.proofs.SpanLaws.{below_is, is_below}
use Rattle.item_links.proofs.GraphLaws.{not_idle}

module _ (lengths : List ℕ) (cells : List (Cell BitRef)) (graph : g.Graph) (is : IsGraphOf lengths cells graph) where
  needs : (i j : ℕ) → Feeds cells i j → g.Needs graph i j
  needs i j f = record { bit = number lengths f.bit; is_read = (is.reads i f.bit f.is_read).1; is_driven = (is.driver j f.bit f.is_driven).1 }

  feeds : (i j : ℕ) → g.Needs graph i j → Feeds cells i j
  feeds i j need =
      let d = is.driven_back need.bit j need.is_driven in
      let r = is.read_back i need.bit need.is_read in
      let same : r.0 ≡ d.0 = number_once lengths r.0 d.0 r.1.0 d.1.0 (r.1.1 ∙ sym d.1.1) in
      record { bit = d.0; is_read = ap (λ b. (cell_in cells i).reads b) (sym same) ∙ r.1.2; is_driven = d.1.2 }

  -- a circle that the search finds is one of cells
  pub leads : {i j : ℕ} → g.Reaches graph i j → Leads cells i j
  leads (g.at_once {i} {j} need) = at_once (feeds i j need)
  leads (g.through {i} {j} {k} need r) = through (feeds i j need) (leads r)

  -- and the other way round
  pub reaches : {i j : ℕ} → Leads cells i j → g.Reaches graph i j
  reaches (at_once {i} {j} f) = g.at_once (needs i j f)
  reaches (through {i} {j} {k} f r) = g.through (needs i j f) (reaches r)

  -- no cell of the list drives the bit
  none_drives : (b : BitRef) (xs : List ℕ) → ((j : ℕ) → In j xs → (cell_in cells j).drives b ≡ false) → driven (chosen_cells cells xs) b ≡ false
  none_drives b [] h = refl
  none_drives b (x ∷ xs) h = false_or ((cell_in cells x).drives b) (driven (chosen_cells cells xs) b) (h x (inl refl)) (none_drives b xs (λ j m. h j (inr m)))

  not_driven : (j : ℕ) (b : BitRef) → ((cell_in cells j).drives b ≡ true → ⊥) → (cell_in cells j).drives b ≡ false
  not_driven j b h = elim (either ((cell_in cells j).drives b)) [ inl t ↦ absurd (h t) | inr f ↦ f ]

  same_driver : (i j : ℕ) (b : BitRef) → (cell_in cells i).drives b ≡ true → (cell_in cells j).drives b ≡ true → i ≡ j
  same_driver i j b h k = let e : Some i ≡ Some j = sym (is.driver i b h).1 ∙ (is.driver j b k).1 in cc

  -- an order that the search finds is one of the cells
  pub ordered : (xs : List ℕ) → g.IsLined graph xs → g.IsOnce xs → IsOrdered (chosen_cells cells xs)
  ordered [] lined once = tt
  ordered (i ∷ xs) lined once = (
    record {
      reads_before = λ b r. none_drives b (i ∷ xs) (λ j m. not_driven j b (λ d. lined.0 j m (needs i j (record { bit = b; is_read = r; is_driven = d }))));
      alone = λ b d. none_drives b xs (λ j m. not_driven j b (λ e. once.0 (let P : ℕ → Type 0 = λ y. In y xs in subst P (same_driver j i b e d) m)));
    },
    ordered xs lined.1 once.1,
  )

  -- what leads somewhere leads to a driver
  driver_of : {i j : ℕ} → g.Reaches graph i j → (n : ℕ) × (graph.driver n ≡ Some j)
  driver_of (g.at_once {i} {j} need) = (need.bit, need.is_driven)
  driver_of (g.through {i} {j} {k} need r) = driver_of r

  -- where no bit's driver stands on a circle, no item does
  module _ (n : ℕ) (order : List ℕ) (circular : List Bool) (a : g.IsArranged graph n order circular) (many : length cells ≡ n) where
    none_circular : ((b : BitRef) → is_bit lengths b ≡ true → told circular (graph.driver (number lengths b)) ≡ false) → (i : ℕ) → i < n → get_or circular i false ≡ false
    none_circular none i l = elim (either (get_or circular i false)) [
      | inl c ↦ (let t = a.told i l in
          let r : g.Reaches graph i i = subst (g.IsTold graph i) c t in
          let d = driver_of r in
          let b = is.driven_back d.0 i d.1 in
          let e : told circular (graph.driver (number lengths b.0)) ≡ get_or circular i false = ap (λ k. told circular (graph.driver k)) b.1.1 ∙ ap (told circular) d.1 in
          not_both (get_or circular i false) c (sym e ∙ none b.0 b.1.0))
      | inr c ↦ c
    ]

    pub is_order : ((b : BitRef) → is_bit lengths b ≡ true → told circular (graph.driver (number lengths b)) ≡ false) → IsOrderOf cells order
    is_order none = record {
      all = λ i l. a.all i (omega (arith, l, many));
      below = λ i m. let l = a.below i m in omega (arith, l, many);
      once = a.once;
      ordered = ordered order (a.lined (none_circular none)) a.once;
    }

    named_cell : (i : ℕ) (b : BitRef) → (cell_in cells i).drives b ≡ true → i < length cells
    named_cell i b h = not_idle cells i b h

    -- a bit whose driver is told to stand on a circle
    told_circle : (o : Option ℕ) (b : BitRef) → is_bit lengths b ≡ true → graph.driver (number lengths b) ≡ o → told circular o ≡ true → IsOnCircle cells b
    told_circle None b h e t = cc
    told_circle (Some i) b h e t =
        let d = is.driven_back (number lengths b) i e in
        let same : d.0 ≡ b = number_once lengths d.0 b d.1.0 h d.1.1 in
        let drives : (cell_in cells i).drives b ≡ true = ap (λ c. (cell_in cells i).drives c) (sym same) ∙ d.1.2 in
        let l = named_cell i b drives in
        let k = a.told i (omega (arith, l, many)) in
        record { item = i; drives = drives; leads_back = leads (subst (g.IsTold graph i) t k) }

    circle_told : (b : BitRef) → IsOnCircle cells b → (is_bit lengths b ≡ true) × (told circular (graph.driver (number lengths b)) ≡ true)
    circle_told b c =
        let d = is.driver c.item b c.drives in
        let l = named_cell c.item b c.drives in
        let t = a.told c.item (omega (arith, l, many)) in (
          d.0,
          ap (told circular) d.1 ∙ elim (either (get_or circular c.item false)) [
            | inl y ↦ y
            | inr z ↦ absurd (subst (g.IsTold graph c.item) z t (reaches c.leads_back))
          ],
        )

    pub first_is : (s : ℕ) → IsFirstSignal (λ b. (is_bit lengths b ≡ true) × (told circular (graph.driver (number lengths b)) ≡ true)) s → IsFirstSignal (IsOnCircle cells) s
    first_is s f = record {
      bit = f.bit;
      is_own = f.is_own;
      has = told_circle (graph.driver (number lengths f.bit)) f.bit f.has.0 refl f.has.1;
      none_before = λ b l c. f.none_before b l (circle_told b c);
    }

-- the signals before a place, and the next one
module _ (lengths : List ℕ) (drivers : List (Option ℕ)) (circular : List Bool) where
  abbrev pub NoneBefore : ℕ → Type 0
  NoneBefore at = (b : BitRef) → b.signal < at → is_bit lengths b ≡ true → is_turned drivers circular (number lengths b) ≡ false

  pub none_more : (at start end : ℕ) → start ≡ first_number lengths at → end ≡ start + get_or lengths at 0 → NoneBefore at
      → ((n : ℕ) → start ≤ n → n < end → is_turned drivers circular n ≡ false) → NoneBefore (at + 1)
  none_more at start end e f h k b l i = elim (cases_eq b.signal at) [
    | inl same ↦ (let q = below_is b.bit (get_or lengths b.signal 0) i in let p = ap (λ s. first_number lengths s) same in let r = ap (λ s. get_or lengths s 0) same in
        k (number lengths b) (omega (arith, e, p)) (omega (arith, e, f, p, q, r)))
    | inr ne ↦ h b (let m : b.signal < at = grind (arith, ne, l) in m) i
  ]

  pub some_here : (at start end : ℕ) → start ≡ first_number lengths at → end ≡ start + get_or lengths at 0 → NoneBefore at
      → (n : ℕ) × ((start ≤ n) × (n < end) × (is_turned drivers circular n ≡ true)) → IsFirstSignal (λ b. (is_bit lengths b ≡ true) × (is_turned drivers circular (number lengths b) ≡ true)) at
  some_here at start end e f h t =
      let place = t.0 - start in
      let a = t.1.0 in let c = t.1.1 in
      let same : number lengths (bit at place) ≡ t.0 = omega (arith, a, e) in
      record {
        bit = bit at place;
        is_own = refl;
        has = (is_below place (get_or lengths at 0) (omega (arith, a, c, f)), ap (is_turned drivers circular) same ∙ t.1.2);
        none_before = λ b l w. not_both (is_turned drivers circular (number lengths b)) w.1 (h b l w.0);
      }

-- the bits of signals whose driver is told to stand on a circle
abbrev pub Turned : List ℕ → List (Option ℕ) → List Bool → BitRef → Type 0
Turned lengths drivers circular b = (is_bit lengths b ≡ true) × (is_turned drivers circular (number lengths b) ≡ true)

pub same_turned : (lengths : List ℕ) (ds es : List (Option ℕ)) (cs ts : List Bool) (s : ℕ) → ds ≡ es → cs ≡ ts → IsFirstSignal (Turned lengths ds cs) s → IsFirstSignal (Turned lengths es ts) s
same_turned lengths ds es cs ts s e f w =
    let P : List (Option ℕ) → Type 0 = λ xs. IsFirstSignal (Turned lengths xs cs) s in
    let Q : List Bool → Type 0 = λ xs. IsFirstSignal (Turned lengths es xs) s in subst Q f (subst P e w)

-- what holds where nothing was found
pub none_found : (P : Type 0) (Q : ℕ → Type 0) (o : Option ℕ) → MatchOption o P Q → ((s : ℕ) → o ≡ Some s → ⊥) → P
none_found P Q None h f = h
none_found P Q (Some s) h f = absurd (f s refl)

-- A checked design breaks a row where the slice, seen by names, breaks the named row, and with the same values of the leaves.
use Rattle.std.proofs.Common.{◌≡◌, ℕ, ◌+◌, Bool, true, List, [], ◌∷◌, map, refl, sym, ◌∙◌, ap, ap₂, subst, Option, Some, None}
use Rattle.design_core.specs.Cells.{Bitmap, Cell, In, IsTrace, states, assigned}
use Rattle.design_core.specs.Rows.{Row, Breaks, breaks, Begins, CanBreak}
use Rattle.design_core.specs.Leaves.{Leaf, stored, input, leaf_value, BreaksWith, IsFirstBreak, IsLeafOf}
use Rattle.design_core.specs.Names.{AreNamed, named_leaf, SamePower, Seen}
use Rattle.design_laws.proofs.TraceLaws.{part_trace, filled, longer_same}
use Rattle.design_laws.proofs.RowLaws.{part_begins, whole_hits, start_of, starts_same}
use Rattle.design_laws.proofs.LeafLaws.{starts_stored, same_leaves}
use Rattle.design_laws.proofs.NameLaws.{trace_pulled, trace_pushed, breaks_pulled, breaks_pushed}

module _ {B N : Type 0} where
  pub begins_pushed : (W : List (Cell N)) (S : List (Cell B)) (to : B → N) (back : N → B) (power : Option (Bitmap N)) (p : Option (Bitmap B)) (s : Bitmap B)
      → AreNamed to back S W → SamePower W back power p → Begins S p s → Begins W power (λ n. s (back n))
  begins_pushed W S to back None None s named same h = tt
  begins_pushed W S to back None (Some p) s named same h = elim same [ ]
  begins_pushed W S to back (Some q) None s named same h = elim same [ ]
  begins_pushed W S to back (Some q) (Some p) s named same h = λ d m n drives clocked.
      (let here = named.here d m in
      let is = here.2 in
      h here.0 here.1 (back n) (sym (is.drives_same (back n)) ∙ ap d.drives (is.drives_in n drives) ∙ drives) (sym is.clocked_same ∙ clocked)
      ∙ sym (same d m n drives))

  pub begins_pulled : (W : List (Cell N)) (S : List (Cell B)) (to : B → N) (back : N → B) (power : Option (Bitmap N)) (p : Option (Bitmap B)) (s : Bitmap N)
      → AreNamed to back S W → SamePower W back power p → Begins W power s → Begins S p (λ b. s (to b))
  begins_pulled W S to back None None s named same h = tt
  begins_pulled W S to back None (Some p) s named same h = elim same [ ]
  begins_pulled W S to back (Some q) None s named same h = elim same [ ]
  begins_pulled W S to back (Some q) (Some p) s named same h = λ c m b drives clocked.
      (let there = named.there c m in
      let is = there.2 in
      let driven : (there.0).drives (to b) ≡ true = is.drives_same b ∙ drives in
      h there.0 there.1 (to b) driven (is.clocked_same ∙ clocked)
      ∙ same there.0 there.1 (to b) driven ∙ ap p (named.returns b))

  power_none : (W : List (Cell N)) (back : N → B) (power : Option (Bitmap N)) (p : Option (Bitmap B)) → SamePower W back power p → power ≡ None → p ≡ None
  power_none W back None None same h = refl
  power_none W back None (Some p) same h = elim same [ ]
  power_none W back (Some q) None same h = refl
  power_none W back (Some q) (Some p) same h = cc

module _ {B N : Type 0} (W : List (Cell N)) (named : ℕ → N → Option Bool) (power : Option (Bitmap N)) (row : Row N) (d : Seen B W named power row) (launch : ℕ) where
  pub named_latency : d.own_row.latency ≡ row.latency
  named_latency = ap (λ (r : Row N). r.latency) d.row_named

  pub pushed_trace : (last last' : ℕ) (s σ : ℕ → Bitmap B) → last ≡ last' → IsTrace d.slice d.held last s σ → IsTrace W named last' (λ k n. s k (d.back n)) (λ k n. σ k (d.back n))
  pushed_trace last last' s σ e w = let P : ℕ → Type 0 = λ j. IsTrace W named j (λ k n. s k (d.back n)) (λ k n. σ k (d.back n)) in
      subst P e (trace_pushed d.to d.back d.slice W d.held named last s σ d.cells_named
      (λ k n v h. sym (d.held_named k (d.back n)) ∙ ap (named k) (d.held_there k n v h) ∙ h) w)

  pub pulled_trace : (last last' : ℕ) (s σ : ℕ → Bitmap N) → last ≡ last' → IsTrace W named last' s σ → IsTrace d.slice d.held last (λ k b. s k (d.to b)) (λ k b. σ k (d.to b))
  pulled_trace last last' s σ e w = let P : ℕ → Type 0 = λ j. IsTrace d.slice d.held j (λ k b. s k (d.to b)) (λ k b. σ k (d.to b)) in
      subst P (sym e) (trace_pulled d.to d.back d.slice W d.held named last' s σ d.cells_named d.held_named w)

  -- what the design lets break, the named slice lets break
  unfoldable pub pushed_breaks : CanBreak d.all d.held d.power_up d.own_row launch → CanBreak W named power row launch
  pushed_breaks w = record {
    s = λ k n. w.s k (d.back n);
    σ = λ k n. w.σ k (d.back n);
    trace = pushed_trace (launch + d.own_row.latency) (launch + row.latency) w.s w.σ (ap (λ j. launch + j) named_latency)
        (part_trace d.all d.slice d.held (launch + d.own_row.latency) w.s w.σ d.is_slice.inside w.trace);
    begins = begins_pushed W d.slice d.to d.back power d.power_up (w.s 0) d.cells_named d.power_named
        (part_begins d.all d.slice d.power_up (w.s 0) d.is_slice.inside w.begins);
    hits = let P : Row N → Type 0 = λ r. Breaks r launch (λ k n. w.σ k (d.back n)) in
        subst P d.row_named (breaks_pushed d.to d.back d.cells_named.returns d.own_row launch w.σ w.hits);
  }

  -- what the named slice lets break, seen by the bits of the design
  unfoldable pub pulled_breaks : CanBreak W named power row launch → CanBreak d.slice d.held d.power_up d.own_row launch
  pulled_breaks w = record {
    s = λ k b. w.s k (d.to b);
    σ = λ k b. w.σ k (d.to b);
    trace = pulled_trace (launch + d.own_row.latency) (launch + row.latency) w.s w.σ (ap (λ j. launch + j) named_latency) w.trace;
    begins = begins_pulled W d.slice d.to d.back power d.power_up (w.s 0) d.cells_named d.power_named w.begins;
    hits = let P : Row N → Type 0 = λ r. Breaks r launch w.σ in
        breaks_pulled d.to d.back d.own_row launch w.σ (subst P (sym d.row_named) w.hits);
  }

  unfoldable pub back_breaks : CanBreak W named power row launch → CanBreak d.all d.held d.power_up d.own_row launch
  back_breaks w = whole_hits d.all d.slice d.read d.held d.power_up (breaks d.own_row launch) d.checked d.is_slice d.among (pulled_breaks w)

  pushed_leaf : (s σ : ℕ → Bitmap B) (x : Leaf B) → leaf_value (λ k n. s k (d.back n)) (λ k n. σ k (d.back n)) (named_leaf d.to x) ≡ leaf_value s σ x
  pushed_leaf s σ (stored b) = ap (s 0) (d.cells_named.returns b)
  pushed_leaf s σ (input k b) = ap (σ k) (d.cells_named.returns b)

  pushed_leaves : (s σ : ℕ → Bitmap B) (xs : List (Leaf B)) → map (leaf_value (λ k n. s k (d.back n)) (λ k n. σ k (d.back n))) (map (named_leaf d.to) xs) ≡ map (leaf_value s σ) xs
  pushed_leaves s σ [] = refl
  pushed_leaves s σ (x ∷ xs) = ap₂ (λ v vs. v ∷ vs) (pushed_leaf s σ x) (pushed_leaves s σ xs)

  pulled_leaf : (s σ : ℕ → Bitmap N) (x : Leaf B) → leaf_value (λ k b. s k (d.to b)) (λ k b. σ k (d.to b)) x ≡ leaf_value s σ (named_leaf d.to x)
  pulled_leaf s σ (stored b) = refl
  pulled_leaf s σ (input k b) = refl

  pulled_leaves : (s σ : ℕ → Bitmap N) (xs : List (Leaf B)) → map (leaf_value (λ k b. s k (d.to b)) (λ k b. σ k (d.to b))) xs ≡ map (leaf_value s σ) (map (named_leaf d.to) xs)
  pulled_leaves s σ [] = refl
  pulled_leaves s σ (x ∷ xs) = ap₂ (λ v vs. v ∷ vs) (pulled_leaf s σ x) (pulled_leaves s σ xs)

  pub pushed_with : (leaves : List (Leaf B)) (values : List Bool) → BreaksWith d.all d.held d.power_up d.own_row launch leaves values
      → BreaksWith W named power row launch (map (named_leaf d.to) leaves) values
  unfolding pushed_breaks
  pushed_with leaves values w = record { can = pushed_breaks w.can; has = pushed_leaves w.can.s w.can.σ leaves ∙ w.has }

  pub back_with : (leaves : List (Leaf B)) (values : List Bool) → ((x : Leaf B) → In x leaves → IsLeafOf d.read (launch + d.own_row.latency) d.power_up x)
      → BreaksWith W named power row launch (map (named_leaf d.to) leaves) values → BreaksWith d.all d.held d.power_up d.own_row launch leaves values
  unfolding back_breaks pulled_breaks whole_hits
  back_with leaves values are w =
      let c = pulled_breaks w.can in
      let start = start_of d.power_up (c.s 0) in
      record {
        can = back_breaks w.can;
        has = same_leaves d.read (launch + d.own_row.latency) d.power_up c.s c.σ
            (states d.all start (filled d.read d.held c.σ)) (assigned d.all start (filled d.read d.held c.σ)) leaves are
            (λ b h. starts_stored d.power_up (c.s 0) b h)
            (longer_same d.all d.slice d.read d.checked.ordered d.checked.lawful d.is_slice d.held d.checked.free (launch + d.own_row.latency) c.s c.σ c.trace start
            (starts_same d.slice d.power_up (c.s 0) c.begins))
            ∙ pulled_leaves w.can.s w.can.σ leaves ∙ w.has;
      }

  pub pushed_first : (leaves : List (Leaf B)) (values : List Bool) → ((x : Leaf B) → In x leaves → IsLeafOf d.read (launch + d.own_row.latency) d.power_up x)
      → IsFirstBreak d.all d.held d.power_up d.own_row launch leaves values → IsFirstBreak W named power row launch (map (named_leaf d.to) leaves) values
  pushed_first leaves values are w = record {
    hits = pushed_with leaves values w.hits;
    none_before = λ other u. w.none_before other (back_with leaves other are u);
  }

  pub back_first : (leaves : List (Leaf B)) (values : List Bool) → ((x : Leaf B) → In x leaves → IsLeafOf d.read (launch + d.own_row.latency) d.power_up x)
      → IsFirstBreak W named power row launch (map (named_leaf d.to) leaves) values → IsFirstBreak d.all d.held d.power_up d.own_row launch leaves values
  back_first leaves values are w = record {
    hits = back_with leaves values are w.hits;
    none_before = λ other u. w.none_before other (pushed_with leaves other u);
  }

-- two designs that are the same by names let the row break both or neither, and with the same first values
module _ {A B N : Type 0} (W : List (Cell N)) (named : ℕ → N → Option Bool) (power : Option (Bitmap N)) (row : Row N) (one : Seen A W named power row) (other : Seen B W named power row) (launch : ℕ) where
  pub seen_breaks : CanBreak one.all one.held one.power_up one.own_row launch → CanBreak other.all other.held other.power_up other.own_row launch
  seen_breaks w = back_breaks W named power row other launch (pushed_breaks W named power row one launch w)

  pub seen_first : (leaves : List (Leaf A)) (leaves' : List (Leaf B)) (values : List Bool)
      → ((x : Leaf A) → In x leaves → IsLeafOf one.read (launch + one.own_row.latency) one.power_up x)
      → ((x : Leaf B) → In x leaves' → IsLeafOf other.read (launch + other.own_row.latency) other.power_up x)
      → map (named_leaf one.to) leaves ≡ map (named_leaf other.to) leaves'
      → IsFirstBreak one.all one.held one.power_up one.own_row launch leaves values
      → IsFirstBreak other.all other.held other.power_up other.own_row launch leaves' values
  seen_first leaves leaves' values are are' same w =
      back_first W named power row other launch leaves' values are'
      (let P : List (Leaf N) → Type 0 = λ xs. IsFirstBreak W named power row launch xs values in
      subst P same (pushed_first W named power row one launch leaves values are w))

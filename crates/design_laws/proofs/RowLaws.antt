-- Cutting is sound, and the slice decides.
use Rattle.std.proofs.Common.{◌≡◌, ℕ, ◌+◌, ◌≤◌, Bool, true, List, refl, sym, ◌∙◌, ap, Option, Some, None, arith, not}
use Rattle.design_core.specs.Cells.{Bitmap, Cell, In, IsSlice, states, assigned}
use Rattle.design_core.specs.Rows.{Row, Query, breaks, meets, last_of, Hits, IsAbout, Begins, CanHit, IsValid, IsChecked}
use Rattle.design_laws.proofs.TraceLaws.{part_trace, filled, longer_trace, longer_same}

module _ {B : Type 0} where
  pub part_begins : (E S : List (Cell B)) (p : Option (Bitmap B)) (s : Bitmap B) → ((c : Cell B) → In c S → In c E) → Begins E p s → Begins S p s
  part_begins E S None s inside h = tt
  part_begins E S (Some p) s inside h = λ c m. h c (inside c m)

  unfoldable pub part_hits : (E S : List (Cell B)) (held : ℕ → B → Option Bool) (p : Option (Bitmap B)) (query : Query B)
      → ((c : Cell B) → In c S → In c E) → CanHit E held p query → CanHit S held p query
  part_hits E S held p query inside w = record {
    s = w.s;
    σ = w.σ;
    trace = part_trace E S held (last_of query) w.s w.σ inside w.trace;
    begins = part_begins E S p (w.s 0) inside w.begins;
    hits = w.hits;
  }

  -- cutting is sound
  pub cut_sound : (E S : List (Cell B)) (held : ℕ → B → Option Bool) (row : Row B)
      → ((c : Cell B) → In c S → In c E) → IsValid S held row → IsValid E held row
  cut_sound E S held row inside valid w = valid (part_hits E S held None (breaks row 0) inside w)

  -- a row breaks, and conditions are met, by the bits that they name alone
  pub query_sees : (R : B → Bool) (query : Query B) → IsAbout R query → (σ τ : ℕ → Bitmap B)
      → ((k : ℕ) → k ≤ last_of query → (b : B) → R b ≡ true → σ k b ≡ τ k b) → Hits query σ → Hits query τ
  query_sees R (breaks row launch) among σ τ same w = record {
    met = λ k l c m. sym (same (launch + k) (omega arith) c.0 (among.conditions_in c m)) ∙ w.met k l c m;
    pair = w.pair;
    is_one = w.is_one;
    differs = sym (same (launch + row.latency) (omega arith) w.pair.1 (among.pairs_in w.pair w.is_one).1)
        ∙ w.differs ∙ ap not (same launch (omega arith) w.pair.0 (among.pairs_in w.pair w.is_one).0);
  }
  query_sees R (meets conditions last) among σ τ same w = λ k l c m. sym (same k l c.0 (among c m)) ∙ w k l c m

  -- where the longer trace begins
  abbrev pub start_of : Option (Bitmap B) → Bitmap B → Bitmap B
  start_of None s = s
  start_of (Some p) s = p

  pub starts_begin : (E : List (Cell B)) (p : Option (Bitmap B)) (s : Bitmap B) → Begins E p (start_of p s)
  starts_begin E None s = tt
  starts_begin E (Some p) s = λ c m b h k. refl

  pub starts_same : (S : List (Cell B)) (p : Option (Bitmap B)) (s : Bitmap B) → Begins S p s
      → (c : Cell B) → In c S → (b : B) → c.drives b ≡ true → c.clocked ≡ true → s b ≡ start_of p s b
  starts_same S None s h c m b d k = refl
  starts_same S (Some p) s h c m b d k = h c m b d k

  -- what can be hit in a closed part can be hit in the whole
  unfoldable pub whole_hits : (E S : List (Cell B)) (R : B → Bool) (held : ℕ → B → Option Bool) (p : Option (Bitmap B)) (query : Query B)
      → IsChecked E held → IsSlice E S R → IsAbout R query → CanHit S held p query → CanHit E held p query
  whole_hits E S R held p query checked slice about w =
      let start = start_of p (w.s 0) in
      let begins = starts_same S p (w.s 0) w.begins in
      record {
        s = states E start (filled R held w.σ);
        σ = assigned E start (filled R held w.σ);
        trace = longer_trace E S R checked.ordered checked.lawful slice held checked.free (last_of query) w.s w.σ w.trace start begins;
        begins = starts_begin E p (w.s 0);
        hits = query_sees R query about w.σ (assigned E start (filled R held w.σ))
            (longer_same E S R checked.ordered checked.lawful slice held checked.free (last_of query) w.s w.σ w.trace start begins) w.hits;
      }

  -- the slice decides: what can be hit in one of two designs with the same slice can be hit in the other
  pub slice_decides : (E F S : List (Cell B)) (R : B → Bool) (held : ℕ → B → Option Bool) (p : Option (Bitmap B)) (query : Query B)
      → IsChecked F held → IsSlice E S R → IsSlice F S R → IsAbout R query
      → CanHit E held p query → CanHit F held p query
  slice_decides E F S R held p query checked one other about w =
      whole_hits F S R held p query checked other about (part_hits E S held p query one.inside w)

  -- no dropped cell drives a bit that the slice in the cut reads: the slice in the cut is closed in the whole
  pub unblocked_slice : (E K S : List (Cell B)) (R : B → Bool) → ((c : Cell B) → In c K → In c E) → IsSlice K S R
      → ((c : Cell B) → In c E → (b : B) → R b ≡ true → c.drives b ≡ true → In c K) → IsSlice E S R
  unblocked_slice E K S R inside slice unblocked = record {
    inside = λ c m. inside c (slice.inside c m);
    closed = λ c m b r d. slice.closed c (unblocked c m b r d) b r d;
    reads_in = slice.reads_in;
    uses_in = slice.uses_in;
  }

  -- what can be hit in a cut with no blocking box can be hit in the whole
  pub unblocked_hits : (E K S : List (Cell B)) (R : B → Bool) (held : ℕ → B → Option Bool) (p : Option (Bitmap B)) (query : Query B)
      → IsChecked E held → ((c : Cell B) → In c K → In c E) → IsSlice K S R
      → ((c : Cell B) → In c E → (b : B) → R b ≡ true → c.drives b ≡ true → In c K)
      → IsAbout R query → CanHit K held p query → CanHit E held p query
  unblocked_hits E K S R held p query checked inside slice unblocked about w =
      whole_hits E S R held p query checked (unblocked_slice E K S R inside slice unblocked) about (part_hits K S held p query slice.inside w)

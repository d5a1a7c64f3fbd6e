-- A slice grows by one item, and a span is through.
use Rattle.std.proofs.Common.{◌≡◌, ℕ, zero, suc, All, replicate, ◌+◌, ◌-◌, ◌<◌, ◌≤◌, Bool, true, false, ◌⊎◌, inl, inr, List, [], ◌∷◌, ◌++◌, length, get_or, set, refl, sym, ◌∙◌, ap, subst, Option, Some, None, arith}
use Rattle.std.proofs.lemmas.List.{length-set, length_push, get_or-set_same, get_or-set_other, get_or_push, get_or_append_left, length-append}
use Rattle.std.proofs.lemmas.Bool.{cases_eq}
use Rattle.design_core.specs.Cells.{In}
use Rattle.item_order.specs.declared.spans.Span.{Span}
use Rattle.item_order.specs.declared.meeting.Mark.{Mark}
use Rattle.item_order.specs.declared.meeting.Mark.TheVariants as mark
use Rattle.item_order.specs.Circles.{Graph, Needs, IsOnce}
use Rattle.item_order.specs.Spans.{holds, some_holds, AreWithin}
use Rattle.item_order.specs.Progress.{mark_at, span_at, is_closed, driver_closed, Waits}
use Rattle.item_order.specs.Slices.{IsWanted, at_start, by_need, IsSliced, IsSlicing}
use Rattle.item_order.proofs.ListLaws.{in_left, in_right, in_either, once_push}
use Rattle.item_order.proofs.ReachLaws.{below_or, driver_is_closed}
use Rattle.std.proofs.lemmas.List.Elements.{All-get_or}
use Rattle.std.proofs.lemmas.List.{length-replicate}
use Rattle.item_order.proofs.EnterLaws.{some_place, place_some, waits_behind, behind_holds, waits_within}

module _ (g : Graph) (n bits : ℕ) (start : List Span) (marks : List Mark) (members : List ℕ) (pending : List Span) (h : IsSlicing g n bits start marks members pending) where
  module _ (item : ℕ) (there : item < length marks) (new : mark_at marks item ≡ mark.New) (wanted : IsWanted g start item) (spans : List Span) (reads : (b : ℕ) → g.reads item b ≡ some_holds spans b) where
    here : mark_at (set marks item mark.Closed) item ≡ mark.Closed
    here = get_or-set_same marks item mark.Closed mark.New there

    other : (i : ℕ) → (i ≡ item → ⊥) → mark_at (set marks item mark.Closed) i ≡ mark_at marks i
    other i ne = get_or-set_other marks item i mark.Closed mark.New ne

    closed_either : (i : ℕ) → is_closed (mark_at marks i) ≡ true → ((i ≡ item) ⊎ (i ≡ item → ⊥)) → is_closed (mark_at (set marks item mark.Closed) i) ≡ true
    closed_either i c (inl e) = ap is_closed (ap (mark_at (set marks item mark.Closed)) e ∙ here)
    closed_either i c (inr ne) = ap is_closed (other i ne) ∙ c

    closes : (d : Option ℕ) → driver_closed marks d ≡ true → driver_closed (set marks item mark.Closed) d ≡ true
    closes None c = refl
    closes (Some i) c = closed_either i c (cases_eq i item)

    still : (b : ℕ) → ((driver_closed marks (g.driver b) ≡ true) ⊎ Waits pending 0 (length pending) b)
        → (driver_closed (set marks item mark.Closed) (g.driver b) ≡ true) ⊎ Waits (pending ++ spans) 0 (length (pending ++ spans)) b
    still b (inl c) = inl (closes (g.driver b) c)
    still b (inr w) = let t = w.below in inr (record {
      place = w.place;
      from_on = omega arith;
      below = omega (arith, length-append pending spans);
      has = ap (λ x. holds x b) (get_or_append_left pending spans (record { from = 0; to = 0 }) w.place t) ∙ w.has;
    })

    plain_either : (i p : ℕ) → mark_at (set marks item mark.Closed) i ≡ mark.Open p → ((i ≡ item) ⊎ (i ≡ item → ⊥)) → ⊥
    plain_either i p e (inl q) = let f : mark.Closed ≡ mark.Open p = sym here ∙ sym (ap (mark_at (set marks item mark.Closed)) q) ∙ e in cc
    plain_either i p e (inr ne) = h.plain i p (sym (other i ne) ∙ e)

    member_either : (i : ℕ) → mark_at (set marks item mark.Closed) i ≡ mark.Closed → ((i ≡ item) ⊎ (i ≡ item → ⊥)) → In i (members ++ item ∷ [])
    member_either i e (inl q) = in_right i members (item ∷ []) (inl q)
    member_either i e (inr ne) = in_left i members (item ∷ []) (h.closed i (sym (other i ne) ∙ e))

    not_item : (i : ℕ) → mark_at marks i ≡ mark.Closed → i ≡ item → ⊥
    not_item i c e = let f : mark.New ≡ mark.Closed = sym new ∙ sym (ap (mark_at marks) e) ∙ c in cc

    marked : (i : ℕ) → (In i members ⊎ In i (item ∷ [])) → mark_at (set marks item mark.Closed) i ≡ mark.Closed
    marked i (inl m) = other i (not_item i (h.ordered i m)) ∙ h.ordered i m
    marked i (inr (inl e)) = ap (mark_at (set marks item mark.Closed)) e ∙ here
    marked i (inr (inr m)) = elim m [ ]

    all_wanted : (i : ℕ) → (In i members ⊎ In i (item ∷ [])) → IsWanted g start i
    all_wanted i (inl m) = h.wanted i m
    all_wanted i (inr (inl e)) = let P : ℕ → Type 0 = λ x. IsWanted g start x in subst P (sym e) wanted
    all_wanted i (inr (inr m)) = elim m [ ]

    ask_either : (w b i : ℕ) → w < length (pending ++ spans) → holds (span_at (pending ++ spans) w) b ≡ true → g.driver b ≡ Some i → ((w < length pending) ⊎ (length pending ≤ w)) → IsWanted g start i
    ask_either w b i t e d (inl l) = h.asked w b i l (sym (ap (λ x. holds x b) (get_or_append_left pending spans (record { from = 0; to = 0 }) w l)) ∙ e) d
    ask_either w b i t e d (inr l) = by_need wanted (record { bit = b; is_read = reads b ∙ behind_holds pending spans w b l t e; is_driven = d })

    reads_either : (i b : ℕ) → (In i members ⊎ In i (item ∷ [])) → g.reads i b ≡ true
        → (driver_closed (set marks item mark.Closed) (g.driver b) ≡ true) ⊎ Waits (pending ++ spans) 0 (length (pending ++ spans)) b
    reads_either i b (inl m) r = still b (h.reads i b m r)
    reads_either i b (inr (inl e)) r =
        let w = waits_behind pending spans b (sym (reads b) ∙ sym (ap (λ x. g.reads x b) e) ∙ r) in
        inr (record { place = w.place; from_on = omega arith; below = w.below; has = w.has })
    reads_either i b (inr (inr m)) r = elim m [ ]

    -- an item is added
    pub grown : ((w : ℕ) → w < length (pending ++ spans) → (span_at (pending ++ spans) w).to ≤ bits) → IsSlicing g n bits start (set marks item mark.Closed) (members ++ item ∷ []) (pending ++ spans)
    grown within = record {
      many = length-set marks item mark.Closed ∙ h.many;
      plain = λ i p e. plain_either i p e (cases_eq i item);
      closed = λ i e. member_either i e (cases_eq i item);
      ordered = λ i m. marked i (in_either i members (item ∷ []) m);
      once = once_push members item h.once (λ m. not_item item (h.ordered item m) refl);
      wanted = λ i m. all_wanted i (in_either i members (item ∷ []) m);
      asked = λ w b i t e d. ask_either w b i t e d (below_or w (length pending));
      starts = λ b e. still b (h.starts b e);
      reads = λ i b m r. reads_either i b (in_either i members (item ∷ []) m) r;
      within = within;
    }

  all_in : ((b i : ℕ) → ((driver_closed marks (g.driver b) ≡ true) ⊎ Waits pending 0 (length pending) b) → g.driver b ≡ Some i → In i members) → (i : ℕ) → IsWanted g start i → In i members
  all_in at k (at_start {i} {b} e d) = at b i (h.starts b e) d
  all_in at k (by_need {i} {j} w need) = at need.bit j (h.reads i need.bit (all_in at i w) need.is_read) need.is_driven

  -- when nothing waits, the members are the slice
  pub sliced : length pending ≡ 0 → IsSliced g start members
  sliced empty =
      let no_wait : (b : ℕ) → Waits pending 0 (length pending) b → ⊥ = λ b w. let t = w.below in absurd (omega arith) in
      let closed_at : (b i : ℕ) → ((driver_closed marks (g.driver b) ≡ true) ⊎ Waits pending 0 (length pending) b) → g.driver b ≡ Some i → In i members =
      λ b i e d. elim e [ inl c ↦ h.closed i (driver_is_closed marks (g.driver b) i c d) | inr w ↦ absurd (no_wait b w) ] in
      record { all = λ i w. all_in closed_at i w; only = h.wanted; once = h.once }

module _ (g : Graph) (n bits : ℕ) (start : List Span) (marks : List Mark) (members : List ℕ) (pending : List Span) (span : Span) (h : IsSlicing g n bits start marks members (pending ++ span ∷ []))
    (through : (b : ℕ) → holds span b ≡ true → driver_closed marks (g.driver b) ≡ true) where
  wait_either : (b : ℕ) (w : Waits (pending ++ span ∷ []) 0 (length (pending ++ span ∷ [])) b) → ((w.place ≡ length pending) ⊎ (w.place ≡ length pending → ⊥))
      → (driver_closed marks (g.driver b) ≡ true) ⊎ Waits pending 0 (length pending) b
  wait_either b w (inl e) = inl (through b (sym (ap (λ x. holds x b) (get_or_push pending span (record { from = 0; to = 0 }) w.place (sym e))) ∙ w.has))
  wait_either b w (inr ne) =
      let t = w.below in let l : w.place < length pending = grind (arith, length_push pending span, ne) in
      inr (record { place = w.place; from_on = w.from_on; below = l; has = sym (ap (λ x. holds x b) (get_or_append_left pending (span ∷ []) (record { from = 0; to = 0 }) w.place l)) ∙ w.has })

  fewer : (b : ℕ) → ((driver_closed marks (g.driver b) ≡ true) ⊎ Waits (pending ++ span ∷ []) 0 (length (pending ++ span ∷ [])) b) → (driver_closed marks (g.driver b) ≡ true) ⊎ Waits pending 0 (length pending) b
  fewer b (inl c) = inl c
  fewer b (inr w) = wait_either b w (cases_eq w.place (length pending))

  in_front : (w : ℕ) → w < length pending → span_at (pending ++ span ∷ []) w ≡ span_at pending w
  in_front w l = get_or_append_left pending (span ∷ []) (record { from = 0; to = 0 }) w l

  -- a span that is through waits no more
  pub passed : IsSlicing g n bits start marks members pending
  passed = record {
    many = h.many;
    plain = h.plain;
    closed = h.closed;
    ordered = h.ordered;
    once = h.once;
    wanted = h.wanted;
    asked = λ w b i t e d. h.asked w b i (omega (arith, length_push pending span)) (ap (λ x. holds x b) (in_front w t) ∙ e) d;
    starts = λ b e. fewer b (h.starts b e);
    reads = λ i b m r. fewer b (h.reads i b m r);
    within = λ w t. let P : Span → Type 0 = λ x. x.to ≤ bits in subst P (in_front w t) (h.within w (omega (arith, length_push pending span)));
  }

all_new : (n i : ℕ) → get_or (replicate n mark.New) i mark.New ≡ mark.New
all_new zero i = refl
all_new (suc n) zero = refl
all_new (suc n) (suc i) = all_new n i

-- at first the wanted bits wait
pub fresh_slicing : (g : Graph) (n bits : ℕ) (start : List Span) (marks : List Mark) (members : List ℕ) (pending : List Span) → marks ≡ replicate n mark.New → members ≡ [] → pending ≡ start
    → All (λ (s : Span). s.to ≤ bits) start → IsSlicing g n bits start marks members pending
fresh_slicing g n bits start marks members pending em er ep fits =
    let new : (i : ℕ) → mark_at marks i ≡ mark.New = λ i. ap (λ ms. mark_at ms i) em ∙ all_new n i in
    let P : List ℕ → Type 0 = λ l. (i : ℕ) → In i l → ⊥ in
    let none : (i : ℕ) → In i members → ⊥ = subst P (sym er) (λ i m. elim m [ ]) in
    let Q : List Span → Type 0 = λ l. (w : ℕ) → w < length l → (span_at l w).to ≤ bits in
    let T : Span → Type 0 = λ (s : Span). s.to ≤ bits in
    record {
      many = ap length em ∙ length-replicate n mark.New;
      plain = λ i p e. let f : mark.New ≡ mark.Open p = sym (new i) ∙ e in cc;
      closed = λ i e. let f : mark.New ≡ mark.Closed = sym (new i) ∙ e in cc;
      ordered = λ i m. absurd (none i m);
      once = subst IsOnce (sym er) tt;
      wanted = λ i m. absurd (none i m);
      asked = λ w b i t e d. at_start (place_some start w b (let q = ap length ep in omega arith) (sym (ap (λ l. holds (span_at l w) b) ep) ∙ e)) d;
      starts = λ b e. let r = some_place start b e in inr (record {
        place = r.0;
        from_on = omega arith;
        below = (let t = r.1.0 in let q = ap length ep in omega arith);
        has = ap (λ l. holds (span_at l r.0) b) ep ∙ r.1.1;
      });
      reads = λ i b m r. absurd (none i m);
      within = subst Q (sym ep) (λ w l. All-get_or T start w (record { from = 0; to = 0 }) l fits);
    }

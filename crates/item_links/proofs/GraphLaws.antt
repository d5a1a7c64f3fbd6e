-- The graph of what items read and drive.
use Rattle.std.proofs.Common.{◌≡◌, ℕ, zero, suc, ◌+◌, ◌<◌, ◌≤◌, Bool, true, List, [], ◌∷◌, ◌++◌, length, map, get_or, sum, inl, inr, refl, sym, ◌∙◌, ap, subst, Option, Some, arith}
use Rattle.std.specs.Prelude.{All}
use Rattle.std.proofs.lemmas.Bool.{cases_eq}
use Rattle.std.proofs.lemmas.List.{get_or-map, get_or_push, take_all}
use Rattle.design_core.specs.declared.place.BitRef.{BitRef}
use Rattle.design_core.specs.declared.items.Item.{Item}
use Rattle.design_core.specs.declared.signals.Signal.{Signal}
use Rattle.design_core.specs.Cells.{Cell, In}
use Rattle.design_core.specs.Parts.{item_cell}
use Rattle.design_core.specs.Numbers.{is_bit, number, idle}
use Rattle.item_order.specs.declared.spans.Span.{Span}
use Rattle.item_order.specs.Spans.{driver_in, AreNamed, AreWithin}
use Rattle.item_order.specs.Circles.{graph}
use Rattle.item_links.specs.Numbered.{AreSpansOf, AreStarts}
use Rattle.item_links.specs.Noted.{AreNoted, all_drives, cell_in}
use Rattle.item_links.specs.Graphs.{IsGraphOf}
use Rattle.item_links.proofs.SpanLaws.{no_spans}
use Rattle.item_links.proofs.NotedLaws.{idle_past}

pub is_graph : (lengths : List ℕ) (cells : List (Cell BitRef)) (reads : List (List Span)) (drivers : List (Option ℕ)) (twice : List Bool)
    → ((i : ℕ) → AreSpansOf lengths (cell_in cells i).reads (get_or reads i []))
    → AreNoted lengths (all_drives cells) drivers twice
    → ((i : ℕ) (b : BitRef) → (cell_in cells i).drives b ≡ true → (is_bit lengths b ≡ true) × (driver_in drivers (number lengths b) ≡ Some i))
    → IsGraphOf lengths cells (graph reads drivers)
is_graph lengths cells reads drivers twice r w exact = record {
  reads = λ i b h. (r i).has b h;
  read_back = λ i n h. (r i).only n h;
  driver = exact;
  driven_back = λ n i h. w.sound n i h;
}

-- drivers are items of the list
pub not_idle : (cells : List (Cell BitRef)) (i : ℕ) (b : BitRef) → (cell_in cells i).drives b ≡ true → i < length cells
not_idle [] i b h = cc
not_idle (c ∷ cs) zero b h = omega arith
not_idle (c ∷ cs) (suc i) b h = let r = not_idle cs i b h in omega (arith, r)

pub named : (lengths : List ℕ) (cells : List (Cell BitRef)) (drivers : List (Option ℕ)) (twice : List Bool) (n : ℕ) → AreNoted lengths (all_drives cells) drivers twice → length cells ≡ n → AreNamed (driver_in drivers) n
named lengths cells drivers twice n w e = λ k i h. let r = w.sound k i h in let l = not_idle cells i r.0 r.1.2 in omega (arith, l, e)

-- the cell of an item at a place
pub cell_there : (signals : List Signal) (items : List Item) (i : ℕ) (x : Item) → i < length items → get_or items i x ≡ x → cell_in (map (item_cell signals) items) i ≡ item_cell signals x
cell_there signals items i x l e = get_or-map (item_cell signals) items i x idle l ∙ ap (item_cell signals) e

-- an item at a place is one of the list
pub there_in : {A : Type 0} (xs : List A) (i : ℕ) (x : A) → i < length xs → get_or xs i x ≡ x → In x xs
there_in [] i x l e = absurd (omega arith)
there_in (y ∷ ys) zero x l e = inl (sym e)
there_in (y ∷ ys) (suc i) x l e = inr (there_in ys i x (omega arith) e)

past_list : (reads : List (List Span)) (i : ℕ) → length reads ≤ i → get_or reads i [] ≡ []
past_list [] i l = refl
past_list (r ∷ rs) zero l = absurd (omega arith)
past_list (r ∷ rs) (suc i) l = past_list rs i (omega arith)

-- past the last item nothing is read
pub past_spans : (lengths : List ℕ) (cells : List (Cell BitRef)) (reads : List (List Span)) (i : ℕ) → length cells ≤ i → length reads ≤ i → AreSpansOf lengths (cell_in cells i).reads (get_or reads i [])
past_spans lengths cells reads i h l =
    let e : get_or reads i [] ≡ [] = past_list reads i l in
    subst (λ ss. AreSpansOf lengths (cell_in cells i).reads ss) (sym e) (subst (λ (c : Cell BitRef). AreSpansOf lengths c.reads []) (sym (idle_past cells i h)) (no_spans lengths))

-- one more item's spans
push_other : {X : Type 0} (xs : List X) (x d : X) (i : ℕ) → (i ≡ length xs → ⊥) → get_or (xs ++ x ∷ []) i d ≡ get_or xs i d
push_other [] x d zero ne = absurd (ne refl)
push_other [] x d (suc i) ne = refl
push_other (y ∷ ys) x d zero ne = refl
push_other (y ∷ ys) x d (suc i) ne = push_other ys x d i (λ e. ne (ap suc e))

pub push_spans : (lengths : List ℕ) (cells : List (Cell BitRef)) (all now : List (List Span)) (r : List Span) (at : ℕ) → now ≡ all ++ r ∷ [] → length all ≡ at
    → ((i : ℕ) → i < at → AreSpansOf lengths (cell_in cells i).reads (get_or all i [])) → AreSpansOf lengths (cell_in cells at).reads r
    → (i : ℕ) → i < at + 1 → AreSpansOf lengths (cell_in cells i).reads (get_or now i [])
push_spans lengths cells all now r at e many was here i l = elim (cases_eq i at) [
  | inl same ↦ (
      let is : get_or now i [] ≡ r = ap (λ xs. get_or xs i []) e ∙ get_or_push all r [] i (many ∙ sym same) in
      let P : List Span → Type 0 = λ ss. AreSpansOf lengths (cell_in cells i).reads ss in
      let Q : ℕ → Type 0 = λ k. AreSpansOf lengths (cell_in cells k).reads r in
      subst P (sym is) (subst Q (sym same) here))
  | inr ne ↦ (
      let is : get_or now i [] ≡ get_or all i [] = ap (λ xs. get_or xs i []) e ∙ push_other all r [] i (λ k. ne (k ∙ many)) in
      let P : List Span → Type 0 = λ ss. AreSpansOf lengths (cell_in cells i).reads ss in
      let m : i < at = grind (arith, ne, l) in
      subst P (sym is) (was i m))
]

pub push_within : (bits : ℕ) (all now : List (List Span)) (r : List Span) → now ≡ all ++ r ∷ [] → AreWithin bits all → All (λ (s : Span). s.to ≤ bits) r → AreWithin bits now
push_within bits all now r e was here i =
    let P : List Span → Type 0 = λ ss. All (λ (s : Span). s.to ≤ bits) ss in
    elim (cases_eq i (length all)) [
      | inl same ↦ subst P (sym (ap (λ xs. get_or xs i []) e ∙ get_or_push all r [] i (sym same))) here
      | inr ne ↦ subst P (sym (ap (λ xs. get_or xs i []) e ∙ push_other all r [] i ne)) (was i)
    ]

-- the number of all bits
pub all_bits : (lengths starts : List ℕ) → AreStarts lengths starts → get_or starts (length lengths) 0 ≡ sum lengths
all_bits lengths starts is = is.begins (length lengths) (omega arith) ∙ ap sum (take_all (length lengths) lengths (omega arith))

-- The pieces of a plain assign mean together what it means.
use Rattle.std.proofs.Common.{◌≡◌, ℕ, suc, Bool, true, false, ◌&&◌, ◌||◌, List, [], ◌∷◌, ◌++◌, map, inl, inr, ◌⊎◌, refl, sym, ◌∙◌, ap, ap₂, subst, ℤ, pos, negsuc, Option, Some, None, nat_lt, if◌then◌else◌, arith}
use Rattle.std.specs.Prelude.{◌==◌, slice_index_or}
use Rattle.std.specs.List.{list_all}
use Rattle.std.proofs.lemmas.Bool.Decides.{nat_tests}
use Rattle.std.proofs.lemmas.List.{map-append}
use Rattle.design_core.specs.declared.items.Item.TheVariants as item
use Rattle.design_core.specs.declared.place.BitRef.{BitRef}
use Rattle.design_core.specs.declared.signals.Signal.{Signal}
use Rattle.design_core.specs.declared.tree.DBase.{DBase}
use Rattle.design_core.specs.declared.tree.DBase.TheVariants as base
use Rattle.design_core.specs.declared.tree.DExpr.{DExpr}
use Rattle.design_core.specs.declared.tree.DLeft.{DLeft, out-DLeft}
use Rattle.design_core.specs.declared.tree.DLeft.TheOpen.{DLeft-F}
use Rattle.design_core.specs.declared.tree.DLeft.TheVariants as lefts
use Rattle.design_core.specs.declared.tree.DNode.TheVariants as node
use Rattle.design_core.specs.declared.tree.DStmt.{DStmt}
use Rattle.design_core.specs.declared.tree.DArm.{DArm}
use Rattle.design_core.specs.declared.tree.DFunction.{DFunction}
use Rattle.design_core.specs.declared.tree.DMatch.{DMatch}
use Rattle.design_core.specs.Cells.{Bitmap, Cell, Holds, In, Steps, driven, next}
use Rattle.design_core.specs.Core.{Assignment, bit, same_bit, spots, covers, slice, left_drives, Place, lost, in_signal, in_local, St, put, puts, first_bit, rest_bits}
use Rattle.design_core.specs.Formed.{has_length, is_vector}
use Rattle.design_core.specs.Items.{assign, cell_of, start}
use Rattle.design_core.specs.Parts.{item_cell, length_at}
use Rattle.design_core.specs.Terms.{term, left, all_left, base_of, size_of}
use Rattle.design_core.specs.Wellformed.{signal_lengths}
use Rattle.design_core.proofs.BoolLaws.{both_true, or_left, or_right, either, if_true, if_false}
use Rattle.design_core.proofs.FrameLaws.{is_place, placed}
use Rattle.design_core.proofs.TermLaws.{left_whole, left_part, left_concat}
use Rattle.design_core.proofs.TreeInduction.{LeftLayer, Each, LeftParts, left_is, of_left}
use Rattle.design_core.proofs.TreeInduction as tree
use Rattle.bit_assigns.specs.declared.bits.SignalBit.{SignalBit}
use Rattle.bit_assigns.specs.declared.bits.Source.{Source}
use Rattle.bit_assigns.specs.declared.bits.Source.TheVariants as source
use Rattle.bit_assigns.specs.declared.bits.Target.{Target}
use Rattle.bit_assigns.specs.declared.bits.Target.TheVariants as target
use Rattle.bit_assigns.specs.Bits.{bit_of, source_at, target_at, base_targets, selected_sources, side_by_side, lowest_source, above_lowest}
use Rattle.bit_assigns.specs.Sides.{is_signal, is_plain_left, is_plain_right, left_bits, right_bits}
use Rattle.bit_assigns.specs.Pieces.{unsigned, target_left, source_expr, pieces}
use Rattle.bit_assigns.specs.Laws.{AreApart, MeansTheSame, worth, target_place}
use Rattle.bit_assigns.proofs.ListLaws.{select_whole}
use Rattle.bit_assigns.proofs.SideLaws.{plain_by_node, plain-Const, plain-Signal, plain-Select, bits-Const, bits-Signal, bits-Select, plain-Whole, plain-Part, plain-At, plain-Parts, bits-Whole, bits-Part, bits-Parts}
use Rattle.bit_assigns.proofs.ValueLaws.{Any, bits_as, never, left_means, right_means}
use Rattle.bit_assigns.proofs.FitLaws.{is_there, fits_source, fits_target}

or_group : (a b c : Bool) → ((a || b) || c) ≡ (a || (b || c))
or_group true b c = refl
or_group false b c = refl

skipped : (k d x y : Bool) → k ≡ false → (if k && d then x else y) ≡ y
skipped true d x y e = never (sym e)
skipped false d x y e = refl

-- Cells in the place of a cell.
module _ {B : Type 0} where
  abbrev pub HoldAll : List (Cell B) → Bitmap B → Bitmap B → Type 0
  HoldAll [] s σ = Unit {0}
  HoldAll (c ∷ cs) s σ = Holds c s σ × HoldAll cs s σ

  abbrev pub NoneClocked : List (Cell B) → Type 0
  NoneClocked [] = Unit {0}
  NoneClocked (c ∷ cs) = (c.clocked ≡ false) × NoneClocked cs

  hold_in : (cs : List (Cell B)) (s σ : Bitmap B) → HoldAll cs s σ → (x : Cell B) → In x cs → Holds x s σ
  hold_in [] s σ h x i = absurd i
  hold_in (c ∷ cs) s σ h x (inl e) = subst (λ y. Holds y s σ) (sym e) h.0
  hold_in (c ∷ cs) s σ h x (inr i) = hold_in cs s σ h.1 x i

  in_hold : (cs : List (Cell B)) (s σ : Bitmap B) → ((x : Cell B) → In x cs → Holds x s σ) → HoldAll cs s σ
  in_hold [] s σ h = tt
  in_hold (c ∷ cs) s σ h = (h c (inl refl), in_hold cs s σ (λ x i. h x (inr i)))

  not_clocked : (cs : List (Cell B)) → NoneClocked cs → (x : Cell B) → In x cs → x.clocked ≡ false
  not_clocked [] h x i = absurd i
  not_clocked (c ∷ cs) h x (inl e) = ap (λ (y : Cell B). y.clocked) e ∙ h.0
  not_clocked (c ∷ cs) h x (inr i) = not_clocked cs h.1 x i

  in_append : (xs ys : List (Cell B)) (x : Cell B) → In x (xs ++ ys) → In x xs ⊎ In x ys
  in_append [] ys x i = inr i
  in_append (c ∷ xs) ys x (inl e) = inl (inl e)
  in_append (c ∷ xs) ys x (inr i) = elim (in_append xs ys x i) [ inl j ↦ inl (inr j) | inr j ↦ inr j ]

  in_first : (xs ys : List (Cell B)) (x : Cell B) → In x xs → In x (xs ++ ys)
  in_first [] ys x i = absurd i
  in_first (c ∷ xs) ys x (inl e) = inl e
  in_first (c ∷ xs) ys x (inr i) = inr (in_first xs ys x i)

  in_second : (xs ys : List (Cell B)) (x : Cell B) → In x ys → In x (xs ++ ys)
  in_second [] ys x i = i
  in_second (c ∷ xs) ys x i = inr (in_second xs ys x i)

  driven_append : (xs ys : List (Cell B)) (b : B) → driven (xs ++ ys) b ≡ (driven xs b || driven ys b)
  driven_append [] ys b = refl
  driven_append (c ∷ xs) ys b = ap (λ x. c.drives b || x) (driven_append xs ys b) ∙ sym (or_group (c.drives b) (driven xs b) (driven ys b))

  next_none : (cs after : List (Cell B)) → NoneClocked cs → (s σ : Bitmap B) (b : B) → next (cs ++ after) s σ b ≡ next after s σ b
  next_none [] after h s σ b = refl
  next_none (c ∷ cs) after h s σ b = skipped c.clocked (c.drives b) (c.after s σ b) (next (cs ++ after) s σ b) h.0 ∙ next_none cs after h.1 s σ b

  next_behind : (before xs ys : List (Cell B)) (s σ : Bitmap B) (b : B) → next xs s σ b ≡ next ys s σ b → next (before ++ xs) s σ b ≡ next (before ++ ys) s σ b
  next_behind [] xs ys s σ b e = e
  next_behind (c ∷ before) xs ys s σ b e = ap (λ x. if c.clocked && c.drives b then c.after s σ b else x) (next_behind before xs ys s σ b e)

  module _ (c : Cell B) (cs before after : List (Cell B)) (drives : (b : B) → c.drives b ≡ driven cs b)
      (up : (s σ : Bitmap B) → Holds c s σ → HoldAll cs s σ) (down : (s σ : Bitmap B) → HoldAll cs s σ → Holds c s σ)
      (still : c.clocked ≡ false) (all_still : NoneClocked cs) where
    abbrev E : List (Cell B)
    E = before ++ c ∷ after

    abbrev F : List (Cell B)
    F = before ++ (cs ++ after)

    same_driven : (b : B) → driven E b ≡ driven F b
    same_driven b = driven_append before (c ∷ after) b
        ∙ ap (λ x. driven before b || x) (ap (λ x. x || driven after b) (drives b) ∙ sym (driven_append cs after b))
        ∙ sym (driven_append before (cs ++ after) b)

    holds_up : (s σ : Bitmap B) → ((x : Cell B) → In x E → Holds x s σ) → (x : Cell B) → In x F → Holds x s σ
    holds_up s σ h x i = elim (in_append before (cs ++ after) x i) [
      | inl j ↦ h x (in_first before (c ∷ after) x j)
      | inr j ↦ elim (in_append cs after x j) [
        | inl k ↦ hold_in cs s σ (up s σ (h c (in_second before (c ∷ after) c (inl refl)))) x k
        | inr k ↦ h x (in_second before (c ∷ after) x (inr k))
      ]
    ]

    whole_holds : (s σ : Bitmap B) → ((x : Cell B) → In x F → Holds x s σ) → Holds c s σ
    whole_holds s σ h = down s σ (in_hold cs s σ (λ x i. h x (in_second before (cs ++ after) x (in_first cs after x i))))

    holds_down : (s σ : Bitmap B) → ((x : Cell B) → In x F → Holds x s σ) → (x : Cell B) → In x E → Holds x s σ
    holds_down s σ h x i = elim (in_append before (c ∷ after) x i) [
      | inl j ↦ h x (in_first before (cs ++ after) x j)
      | inr j ↦ elim j [
        | inl e ↦ subst (λ y. Holds y s σ) (sym e) (whole_holds s σ h)
        | inr k ↦ h x (in_second before (cs ++ after) x (in_second cs after x k))
      ]
    ]

    no_step : (x : Cell B) (s σ t : Bitmap B) → x.clocked ≡ false → Steps x s σ t
    no_step x s σ t e = record { stores = λ b k d. never (sym e ∙ k) }

    steps_up : (s σ t : Bitmap B) → ((x : Cell B) → In x E → Steps x s σ t) → (x : Cell B) → In x F → Steps x s σ t
    steps_up s σ t h x i = elim (in_append before (cs ++ after) x i) [
      | inl j ↦ h x (in_first before (c ∷ after) x j)
      | inr j ↦ elim (in_append cs after x j) [
        | inl k ↦ no_step x s σ t (not_clocked cs all_still x k)
        | inr k ↦ h x (in_second before (c ∷ after) x (inr k))
      ]
    ]

    steps_down : (s σ t : Bitmap B) → ((x : Cell B) → In x F → Steps x s σ t) → (x : Cell B) → In x E → Steps x s σ t
    steps_down s σ t h x i = elim (in_append before (c ∷ after) x i) [
      | inl j ↦ h x (in_first before (cs ++ after) x j)
      | inr j ↦ elim j [
        | inl e ↦ no_step x s σ t (ap (λ (y : Cell B). y.clocked) e ∙ still)
        | inr k ↦ h x (in_second before (cs ++ after) x (in_second cs after x k))
      ]
    ]

    pub means_same : MeansTheSame E F
    means_same = record {
      drives = same_driven;
      settles = λ s i σ h. record { inputs = λ b e. h.inputs b (same_driven b ∙ e); holds = holds_up s σ h.holds };
      settled = λ s i σ h. record { inputs = λ b e. h.inputs b (sym (same_driven b) ∙ e); holds = holds_down s σ h.holds };
      steps = λ s σ b. next_behind before (c ∷ after) (cs ++ after) s σ b
          (skipped c.clocked (c.drives b) (c.after s σ b) (next after s σ b) still ∙ sym (next_none cs after all_still s σ b));
      traces = λ held last s σ h. record {
        settled = λ k l. holds_up (s k) (σ k) (h.settled k l);
        steps = λ k l. steps_up (s k) (σ k) (s (suc k)) (h.steps k l);
        holding = h.holding;
      };
      traced = λ held last s σ h. record {
        settled = λ k l. holds_down (s k) (σ k) (h.settled k l);
        steps = λ k l. steps_down (s k) (σ k) (s (suc k)) (h.steps k l);
        holding = h.holding;
      };
    }

-- Writes to places.
same_is : (a b : BitRef) → same_bit a b ≡ true → a ≡ b
same_is a b h =
    let p = both_true (a.signal == b.signal) (a.bit == b.bit) h in
    let q : (a.signal == b.signal) ≡ true = p.0 in
    let r : (a.bit == b.bit) ≡ true = p.1 in
    let e : a.signal ≡ b.signal = grind (arith, nat_tests) in
    let f : a.bit ≡ b.bit = grind (arith, nat_tests) in
    ap₂ bit e f

same_number : (k : ℕ) → (k == k) ≡ true
same_number k = grind (arith, nat_tests)

same_self : (a : BitRef) → same_bit a a ≡ true
same_self a = ap₂ (λ x y. x && y) (same_number a.signal) (same_number a.bit)

put_there : (p : Place) (v : Bool) (t : St) (b : BitRef) → is_place b p ≡ true → (put true p v t).now b ≡ v
put_there lost v t b h = never h
put_there (in_signal a) v t b h = if_true (same_bit b a) v (t.now b) h
put_there (in_local j k) v t b h = never h

put_else : (p : Place) (v : Bool) (t : St) (b : BitRef) → is_place b p ≡ false → (put true p v t).now b ≡ t.now b
put_else lost v t b h = refl
put_else (in_signal a) v t b h = if_false (same_bit b a) v (t.now b) h
put_else (in_local j k) v t b h = refl

-- an assignment has the value that is written to a place, and those that are written to some places
abbrev Told : Assignment → Place → Bool → Type 0
Told σ lost v = Unit {0}
Told σ (in_signal a) v = σ a ≡ v
Told σ (in_local j k) v = Unit {0}

abbrev Agrees : Assignment → List Place → List Bool → Type 0
Agrees σ [] vs = Unit {0}
Agrees σ (p ∷ ps) vs = Told σ p (first_bit vs) × Agrees σ ps (rest_bits vs)

-- no bit stands at two of the places
abbrev PlacesApart : List Place → Type 0
PlacesApart [] = Unit {0}
PlacesApart (p ∷ ps) = ((b : BitRef) → is_place b p ≡ true → placed b ps ≡ false) × PlacesApart ps

told_at : (σ : Assignment) (p : Place) (v : Bool) (b : BitRef) → is_place b p ≡ true → Told σ p v → σ b ≡ v
told_at σ lost v b h t = never h
told_at σ (in_signal a) v b h t = ap σ (same_is b a h) ∙ t
told_at σ (in_local j k) v b h t = never h

or_second : (a b : Bool) → a ≡ false → (a || b) ≡ true → b ≡ true
or_second true b e h = never (sym e)
or_second false b e h = h

agrees_written : (σ : Assignment) (t : St) (ps : List Place) (vs : List Bool) → Agrees σ ps vs → (b : BitRef) → placed b ps ≡ true → σ b ≡ (puts true ps vs t).now b
agrees_written σ t [] vs h b d = never d
agrees_written σ t (p ∷ ps) vs h b d = elim (either (is_place b p)) [
  | inl y ↦ told_at σ p (first_bit vs) b y h.0 ∙ sym (put_there p (first_bit vs) (puts true ps (rest_bits vs) t) b y)
  | inr n ↦ agrees_written σ t ps (rest_bits vs) h.1 b (or_second (is_place b p) (placed b ps) n d) ∙ sym (put_else p (first_bit vs) (puts true ps (rest_bits vs) t) b n)
]

told_written : (σ : Assignment) (t : St) (p : Place) (v : Bool) → ((b : BitRef) → is_place b p ≡ true → σ b ≡ (put true p v t).now b) → Told σ p v
told_written σ t lost v h = tt
told_written σ t (in_signal a) v h = h a (same_self a) ∙ put_there (in_signal a) v t a (same_self a)
told_written σ t (in_local j k) v h = tt

apart_from : (a d : Bool) → (a ≡ true → d ≡ false) → d ≡ true → a ≡ false
apart_from true d h e = never (sym (h refl) ∙ e)
apart_from false d h e = refl

written_agrees : (σ : Assignment) (t : St) (ps : List Place) (vs : List Bool) → PlacesApart ps → ((b : BitRef) → placed b ps ≡ true → σ b ≡ (puts true ps vs t).now b) → Agrees σ ps vs
written_agrees σ t [] vs a h = tt
written_agrees σ t (p ∷ ps) vs a h = (
  told_written σ (puts true ps (rest_bits vs) t) p (first_bit vs) (λ b y. h b (or_left (is_place b p) (placed b ps) y)),
  written_agrees σ t ps (rest_bits vs) a.1 (λ b d. h b (or_right (is_place b p) (placed b ps) d)
      ∙ put_else p (first_bit vs) (puts true ps (rest_bits vs) t) b (apart_from (is_place b p) (placed b ps) (a.0 b) d)),
)

-- What a plain left side drives.
placed_append : (b : BitRef) (ps qs : List Place) → placed b (ps ++ qs) ≡ (placed b ps || placed b qs)
placed_append b [] qs = refl
placed_append b (p ∷ ps) qs = ap (λ x. is_place b p || x) (placed_append b ps qs) ∙ sym (or_group (is_place b p) (placed b ps) (placed b qs))

or_turn : (a b : Bool) → (a || b) ≡ (b || a)
or_turn true true = refl
or_turn true false = refl
or_turn false true = refl
or_turn false false = refl

span_placed : (b : BitRef) (s m : ℕ) (os : List (Option ℕ)) → ((b.signal == s) && covers b.bit os) ≡ placed b (map target_place (map (target_at s m) os))
span_placed b s m [] = elim (b.signal == s) as (λ x. (x && false) ≡ false) [ true ↦ refl | false ↦ refl ]
span_placed b s m (None ∷ os) = span_placed b s m os
span_placed b s m (Some k ∷ os) =
    elim (b.signal == s) as (λ x. (x && ((b.bit == k) || covers b.bit os)) ≡ ((x && (b.bit == k)) || (x && covers b.bit os))) [ true ↦ refl | false ↦ refl ]
    ∙ ap (λ x. ((b.signal == s) && (b.bit == k)) || x) (span_placed b s m os)

module _ (size : ℕ → ℕ) (b : BitRef) where
  base_placed : (d : DBase) (m : ℕ) (low : ℤ) (n : ℕ) → is_signal d ≡ true → left_drives (slice (base_of d) m low n) b ≡ placed b (map target_place (base_targets d m low n))
  base_placed (base.Signal s) m low n p = span_placed b s m (spots m low n)
  base_placed (base.Local j) m low n p = never p

  abbrev Drives : DLeft → Type 0
  Drives l = is_plain_left l ≡ true → left_drives (left size l) b ≡ placed b (map target_place (left_bits size l))

  drives_parts : (ls : List DLeft) → Each Drives ls → list_all is_plain_left ls ≡ true → left_drives (all_left (map (left size) ls)) b ≡ placed b (map target_place (side_by_side (map (left_bits size) ls)))
  drives_parts [] h p = refl
  drives_parts (l ∷ ls) h p =
      let q = both_true (is_plain_left l) (list_all is_plain_left ls) p in
      ap₂ (λ x y. x || y) (h.0 q.0) (drives_parts ls h.1 q.1)
      ∙ or_turn (placed b (map target_place (left_bits size l))) (placed b (map target_place (side_by_side (map (left_bits size) ls))))
      ∙ sym (ap (placed b) (map-append target_place (side_by_side (map (left_bits size) ls)) (left_bits size l))
      ∙ placed_append b (map target_place (side_by_side (map (left_bits size) ls))) (map target_place (left_bits size l)))

  drives_left : (l : DLeft) (x : LeftLayer) → out-DLeft l ≡ x → LeftParts (Any {X = DExpr}) Drives (Any {X = DStmt}) (Any {X = DArm}) (Any {X = DFunction}) (Any {X = DMatch}) x → Drives l
  drives_left l (DLeft-F.Whole d n) is h p =
      let k = left_is l (DLeft-F.Whole d n) is ∙ lefts.rolls-Whole d n in
      ap (λ t. left_drives t b) (left_whole size l d n k) ∙ base_placed d n (pos 0) n (sym (ap is_plain_left k ∙ plain-Whole d n) ∙ p)
      ∙ sym (ap (λ ts. placed b (map target_place ts)) (ap (left_bits size) k ∙ bits-Whole size d n))
  drives_left l (DLeft-F.Part d low n) is h p =
      let k = left_is l (DLeft-F.Part d low n) is ∙ lefts.rolls-Part d low n in
      ap (λ t. left_drives t b) (left_part size l d low n k) ∙ base_placed d (size_of size d) low n (sym (ap is_plain_left k ∙ plain-Part d low n) ∙ p)
      ∙ sym (ap (λ ts. placed b (map target_place ts)) (ap (left_bits size) k ∙ bits-Part size d low n))
  drives_left l (DLeft-F.At d index offset down n) is h p =
      never (sym (ap is_plain_left (left_is l (DLeft-F.At d index offset down n) is ∙ lefts.rolls-At d index offset down n) ∙ plain-At d index offset down n) ∙ p)
  drives_left l (DLeft-F.«DLeft::Concat» parts) is h p =
      let k = left_is l (DLeft-F.«DLeft::Concat» parts) is ∙ lefts.rolls-Concat parts in
      ap (λ t. left_drives t b) (left_concat size l parts k) ∙ drives_parts parts h (sym (ap is_plain_left k ∙ plain-Parts parts) ∙ p)
      ∙ sym (ap (λ ts. placed b (map target_place ts)) (ap (left_bits size) k ∙ bits-Parts size parts))

  drives_steps : tree.Steps (Any {X = DExpr}) Drives (Any {X = DStmt}) (Any {X = DArm}) (Any {X = DFunction}) (Any {X = DMatch})
  drives_steps = record {
    expr = λ e h. tt;
    left = λ l h. drives_left l (out-DLeft l) refl h;
    stmt = λ s h. tt;
    arm = λ a h g. tt;
    function = λ f h. tt;
    match = λ m h. tt;
  }

  left_driven : (l : DLeft) → is_plain_left l ≡ true → left_drives (left size l) b ≡ placed b (map target_place (left_bits size l))
  left_driven = of_left (Any {X = DExpr}) Drives (Any {X = DStmt}) (Any {X = DArm}) (Any {X = DFunction}) (Any {X = DMatch}) drives_steps

-- A plain assign by its bits.
module _ (size : ℕ → ℕ) (l : DLeft) (e : DExpr) (on_left : is_plain_left l ≡ true) (on_right : is_plain_right e ≡ true) where
  abbrev whole : Cell BitRef
  whole = cell_of (assign (left size l) (term size e))

  within_is : (s σ : Assignment) (b : BitRef) → whole.within s σ b ≡ (puts true (map target_place (left_bits size l)) (map (worth σ) (right_bits e)) (start s σ)).now b
  within_is s σ b = ap₂ (λ ps vs. (puts true ps vs (start s σ)).now b) (left_means σ [] size l on_left) (right_means σ [] size e on_right)

  agrees_holds : (s σ : Assignment) → Agrees σ (map target_place (left_bits size l)) (map (worth σ) (right_bits e)) → Holds whole s σ
  agrees_holds s σ h = record {
    gives = λ b d. agrees_written σ (start s σ) (map target_place (left_bits size l)) (map (worth σ) (right_bits e)) h b (sym (left_driven size b l on_left) ∙ d) ∙ sym (within_is s σ b);
  }

  holds_agrees : (s σ : Assignment) → PlacesApart (map target_place (left_bits size l)) → Holds whole s σ → Agrees σ (map target_place (left_bits size l)) (map (worth σ) (right_bits e))
  holds_agrees s σ a h = written_agrees σ (start s σ) (map target_place (left_bits size l)) (map (worth σ) (right_bits e)) a
      (λ b d. h.gives b (left_driven size b l on_left ∙ d) ∙ within_is s σ b)

-- A piece by its bit.
bit_is : (b : SignalBit) (m k : ℕ) → b.length ≡ m → b.bit ≡ k → b ≡ bit_of b.signal m k
bit_is b m k e f = ap₂ (bit_of b.signal) e f

module _ (size : ℕ → ℕ) where
  whole_target : (b : SignalBit) (c : Bool) → (b.length == 1) ≡ c → nat_lt b.bit b.length ≡ true → size b.signal ≡ b.length
      → left_bits size (if c then lefts.Whole (base.Signal b.signal) 1 else lefts.Part (base.Signal b.signal) (pos b.bit) 1) ≡ target.Bit b ∷ []
  whole_target b true e h g =
      let n : b.length ≡ 1 = grind (arith, nat_tests) in
      let k : b.bit ≡ 0 = grind (arith, nat_tests) in
      bits-Whole size (base.Signal b.signal) 1 ∙ ap (λ x. target.Bit x ∷ []) (sym (bit_is b 1 0 n k))
  whole_target b false e h g =
      let below : nat_lt b.bit (size b.signal) ≡ true = ap (nat_lt b.bit) g ∙ h in
      bits-Part size (base.Signal b.signal) (pos b.bit) 1
      ∙ ap (λ o. target_at b.signal (size b.signal) o ∷ []) (if_true (nat_lt b.bit (size b.signal)) (Some b.bit) None below)
      ∙ ap (λ x. target.Bit x ∷ []) (sym (bit_is b (size b.signal) b.bit (sym g) refl))

  whole_source : (b : SignalBit) (c : Bool) → (b.length == 1) ≡ c → nat_lt b.bit b.length ≡ true
      → right_bits (if c then unsigned 1 (node.Signal b.signal) else unsigned 1 (node.Select (unsigned b.length (node.Signal b.signal)) (pos b.bit))) ≡ source.Bit b ∷ []
  whole_source b true e h =
      let n : b.length ≡ 1 = grind (arith, nat_tests) in
      let k : b.bit ≡ 0 = grind (arith, nat_tests) in
      bits_as (unsigned 1 (node.Signal b.signal)) (node.Signal b.signal) _ refl (bits-Signal 1 b.signal) ∙ ap (λ x. source.Bit x ∷ []) (sym (bit_is b 1 0 n k))
  whole_source b false e h =
      let x : DExpr = unsigned b.length (node.Signal b.signal) in
      bits_as (unsigned 1 (node.Select x (pos b.bit))) (node.Select x (pos b.bit)) _ refl (bits-Select 1 x (pos b.bit))
      ∙ ap (selected_sources (pos b.bit) 1) (bits_as x (node.Signal b.signal) _ refl (bits-Signal b.length b.signal))
      ∙ select_whole b.signal b.length (pos b.bit) 1
      ∙ ap (λ o. source_at b.signal b.length o ∷ []) (if_true (nat_lt b.bit b.length) (Some b.bit) None h)

  plain_bit_left : (b : SignalBit) (c : Bool) → is_plain_left (if c then lefts.Whole (base.Signal b.signal) 1 else lefts.Part (base.Signal b.signal) (pos b.bit) 1) ≡ true
  plain_bit_left b true = plain-Whole (base.Signal b.signal) 1
  plain_bit_left b false = plain-Part (base.Signal b.signal) (pos b.bit) 1

  plain_bit_right : (b : SignalBit) (c : Bool) → is_plain_right (if c then unsigned 1 (node.Signal b.signal) else unsigned 1 (node.Select (unsigned b.length (node.Signal b.signal)) (pos b.bit))) ≡ true
  plain_bit_right b true = plain_by_node (unsigned 1 (node.Signal b.signal)) ∙ plain-Signal 1 b.signal
  plain_bit_right b false =
      let x : DExpr = unsigned b.length (node.Signal b.signal) in
      plain_by_node (unsigned 1 (node.Select x (pos b.bit))) ∙ plain-Select 1 x (pos b.bit) ∙ plain_by_node x ∙ plain-Signal b.length b.signal

  plain_target : (t : Target) → is_plain_left (target_left t) ≡ true
  plain_target (target.Bit b) = plain_bit_left b (b.length == 1)
  plain_target (target.Outside s) = plain-Part (base.Signal s) (negsuc 0) 1

  plain_source : (s : Source) → is_plain_right (source_expr s) ≡ true
  plain_source (source.Known v) = plain_by_node (unsigned 1 (node.Const (v ∷ []))) ∙ plain-Const 1 (v ∷ [])
  plain_source (source.Bit b) = plain_bit_right b (b.length == 1)

module _ (signals : List Signal) where
  abbrev vs : List ℕ
  vs = signal_lengths signals

  abbrev size : ℕ → ℕ
  size = length_at signals

  there_length : (b : SignalBit) → is_there vs b ≡ true → size b.signal ≡ b.length
  there_length b h =
      let p = both_true (nat_lt b.bit b.length) (has_length vs b.signal b.length) h in
      let q : (slice_index_or vs b.signal 0 == b.length) ≡ true = (both_true (nat_lt b.signal _) (slice_index_or vs b.signal 0 == b.length) p.1).1 in
      let e : slice_index_or vs b.signal 0 ≡ b.length = grind (arith, nat_tests) in e

  one_target : (t : Target) → fits_target vs t ≡ true → left_bits size (target_left t) ≡ t ∷ []
  one_target (target.Bit b) h = whole_target size b (b.length == 1) refl (both_true (nat_lt b.bit b.length) (has_length vs b.signal b.length) h).0 (there_length b h)
  one_target (target.Outside s) h = bits-Part size (base.Signal s) (negsuc 0) 1

  one_source : (s : Source) → fits_source vs s ≡ true → right_bits (source_expr s) ≡ s ∷ []
  one_source (source.Known v) h = bits_as (unsigned 1 (node.Const (v ∷ []))) (node.Const (v ∷ [])) _ refl (bits-Const 1 (v ∷ []))
  one_source (source.Bit b) h = whole_source size b (b.length == 1) refl (both_true (nat_lt b.bit b.length) (has_length vs b.signal b.length) (both_true (is_vector b.length) (is_there vs b) h).1).0

  abbrev piece_cell : Target → Source → Cell BitRef
  piece_cell t s = cell_of (assign (left size (target_left t)) (term size (source_expr s)))

  module _ (t : Target) (s : Source) (on_left : fits_target vs t ≡ true) (on_right : fits_source vs s ≡ true) where
    piece_drives : (b : BitRef) → (piece_cell t s).drives b ≡ is_place b (target_place t)
    piece_drives b = left_driven size b (target_left t) (plain_target size t) ∙ ap (λ ts. placed b (map target_place ts)) (one_target t on_left)
        ∙ elim (is_place b (target_place t)) as (λ x. (x || false) ≡ x) [ true ↦ refl | false ↦ refl ]

    told_piece : (p σ : Assignment) → Told σ (target_place t) (worth σ s) → Holds (piece_cell t s) p σ
    told_piece p σ h = agrees_holds size (target_left t) (source_expr s) (plain_target size t) (plain_source size s) p σ
        (subst (λ ts. Agrees σ (map target_place ts) (map (worth σ) (right_bits (source_expr s)))) (sym (one_target t on_left))
        (subst (λ ss. Agrees σ (target_place t ∷ []) (map (worth σ) ss)) (sym (one_source s on_right)) (h, tt)))

    piece_told : (p σ : Assignment) → Holds (piece_cell t s) p σ → Told σ (target_place t) (worth σ s)
    piece_told p σ h =
        let a : PlacesApart (map target_place (left_bits size (target_left t))) = subst (λ ts. PlacesApart (map target_place ts)) (sym (one_target t on_left)) ((λ b q. refl), tt) in
        let g = holds_agrees size (target_left t) (source_expr s) (plain_target size t) (plain_source size s) p σ a h in
        let k : Agrees σ (target_place t ∷ []) (map (worth σ) (right_bits (source_expr s))) = subst (λ ts. Agrees σ (map target_place ts) (map (worth σ) (right_bits (source_expr s)))) (one_target t on_left) g in
        let m : Agrees σ (target_place t ∷ []) (worth σ s ∷ []) = subst (λ ss. Agrees σ (target_place t ∷ []) (map (worth σ) ss)) (one_source s on_right) k in
        m.0

  -- the pieces together
  abbrev cells : ℕ → List Target → List Source → List (Cell BitRef)
  cells scope ts ss = map (item_cell signals) (pieces scope ts ss)

  lowest_fits : (ss : List Source) → list_all (fits_source vs) ss ≡ true → fits_source vs (lowest_source ss) ≡ true
  lowest_fits [] h = refl
  lowest_fits (s ∷ ss) h = (both_true (fits_source vs s) (list_all (fits_source vs) ss) h).0

  above_fits : (ss : List Source) → list_all (fits_source vs) ss ≡ true → list_all (fits_source vs) (above_lowest ss) ≡ true
  above_fits [] h = refl
  above_fits (s ∷ ss) h = (both_true (fits_source vs s) (list_all (fits_source vs) ss) h).1

  lowest_worth : (σ : Assignment) (ss : List Source) → first_bit (map (worth σ) ss) ≡ worth σ (lowest_source ss)
  lowest_worth σ [] = refl
  lowest_worth σ (s ∷ ss) = refl

  above_worth : (σ : Assignment) (ss : List Source) → rest_bits (map (worth σ) ss) ≡ map (worth σ) (above_lowest ss)
  above_worth σ [] = refl
  above_worth σ (s ∷ ss) = refl

  cells_driven : (scope : ℕ) (ts : List Target) (ss : List Source) → list_all (fits_target vs) ts ≡ true → list_all (fits_source vs) ss ≡ true
      → (b : BitRef) → driven (cells scope ts ss) b ≡ placed b (map target_place ts)
  cells_driven scope [] ss h g b = refl
  cells_driven scope (t ∷ ts) ss h g b =
      let p = both_true (fits_target vs t) (list_all (fits_target vs) ts) h in
      ap₂ (λ x y. x || y) (piece_drives t (lowest_source ss) p.0 (lowest_fits ss g) b) (cells_driven scope ts (above_lowest ss) p.1 (above_fits ss g) b)

  cells_still : (scope : ℕ) (ts : List Target) (ss : List Source) → NoneClocked (cells scope ts ss)
  cells_still scope [] ss = tt
  cells_still scope (t ∷ ts) ss = (refl, cells_still scope ts (above_lowest ss))

  cells_apart : (scope : ℕ) (ts : List Target) (ss : List Source) → list_all (fits_target vs) ts ≡ true → list_all (fits_source vs) ss ≡ true
      → AreApart (cells scope ts ss) → PlacesApart (map target_place ts)
  cells_apart scope [] ss h g a = tt
  cells_apart scope (t ∷ ts) ss h g a =
      let p = both_true (fits_target vs t) (list_all (fits_target vs) ts) h in (
        λ b q. sym (cells_driven scope ts (above_lowest ss) p.1 (above_fits ss g) b) ∙ a.0 b (piece_drives t (lowest_source ss) p.0 (lowest_fits ss g) b ∙ q),
        cells_apart scope ts (above_lowest ss) p.1 (above_fits ss g) a.1,
      )

  agrees_cells : (scope : ℕ) (ts : List Target) (ss : List Source) → list_all (fits_target vs) ts ≡ true → list_all (fits_source vs) ss ≡ true
      → (p σ : Assignment) → Agrees σ (map target_place ts) (map (worth σ) ss) → HoldAll (cells scope ts ss) p σ
  agrees_cells scope [] ss h g p σ a = tt
  agrees_cells scope (t ∷ ts) ss h g p σ a =
      let q = both_true (fits_target vs t) (list_all (fits_target vs) ts) h in (
        told_piece t (lowest_source ss) q.0 (lowest_fits ss g) p σ (subst (λ v. Told σ (target_place t) v) (lowest_worth σ ss) a.0),
        agrees_cells scope ts (above_lowest ss) q.1 (above_fits ss g) p σ (subst (λ xs. Agrees σ (map target_place ts) xs) (above_worth σ ss) a.1),
      )

  cells_agree : (scope : ℕ) (ts : List Target) (ss : List Source) → list_all (fits_target vs) ts ≡ true → list_all (fits_source vs) ss ≡ true
      → (p σ : Assignment) → HoldAll (cells scope ts ss) p σ → Agrees σ (map target_place ts) (map (worth σ) ss)
  cells_agree scope [] ss h g p σ a = tt
  cells_agree scope (t ∷ ts) ss h g p σ a =
      let q = both_true (fits_target vs t) (list_all (fits_target vs) ts) h in (
        subst (λ v. Told σ (target_place t) v) (sym (lowest_worth σ ss)) (piece_told t (lowest_source ss) q.0 (lowest_fits ss g) p σ a.0),
        subst (λ xs. Agrees σ (map target_place ts) xs) (sym (above_worth σ ss)) (cells_agree scope ts (above_lowest ss) q.1 (above_fits ss g) p σ a.1),
      )

  -- the pieces in the place of the assign
  pub cells_mean : (scope weight : ℕ) (l : DLeft) (e : DExpr) → is_plain_left l ≡ true → is_plain_right e ≡ true
      → list_all (fits_target vs) (left_bits size l) ≡ true → list_all (fits_source vs) (right_bits e) ≡ true
      → AreApart (cells scope (left_bits size l) (right_bits e)) → (before after : List (Cell BitRef))
      → MeansTheSame (before ++ item_cell signals (item.Assign scope weight l e) ∷ after) (before ++ (cells scope (left_bits size l) (right_bits e) ++ after))
  cells_mean scope weight l e p q h g a before after =
      let ts = left_bits size l in
      let ss = right_bits e in
      means_same (item_cell signals (item.Assign scope weight l e)) (cells scope ts ss) before after
      (λ b. left_driven size b l p ∙ sym (cells_driven scope ts ss h g b))
      (λ s σ k. agrees_cells scope ts ss h g s σ (holds_agrees size l e p q s σ (cells_apart scope ts ss h g a) k))
      (λ s σ k. agrees_holds size l e p q s σ (cells_agree scope ts ss h g s σ k))
      refl (cells_still scope ts ss)

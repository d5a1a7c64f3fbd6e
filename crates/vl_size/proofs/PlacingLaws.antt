-- What an expression is in each context, part by part.
use denote.Param.Weighed.{most}
use Rattle.std.proofs.Common.{◌≡◌, ℕ, max, arith, Bool, true, false, ◌||◌, List, [], ◌∷◌, map, drop, length, get_or, ◌+◌, ◌<◌, ◌≤◌, ◌++◌, refl, ap, ◌∙◌, sym}
use Rattle.std.proofs.lemmas.List.{drop_more, append_assoc}
use Rattle.vl_size.specs.declared.tree.Operands.{Operands}
use Rattle.vl_size.specs.declared.tree.Size.{Size}
use Rattle.vl_size.specs.declared.placed.Frame.{Frame}
use Rattle.vl_size.specs.Descents.{behind, placed_at, placed_over, placed_frames, depth_of_frames}
use Rattle.vl_size.specs.declared.tree.Sizing.{Sizing, size-Sizing, size_is-Sizing, fold_out-Sizing}
use Rattle.vl_size.specs.declared.sizes.SizedExpr.{SizedExpr}
use Rattle.vl_size.specs.Sizings.{node_of, parts_of, common}
use Rattle.vl_size.specs.Placed.{Placing, placing, placing_layer, nodes, sized, sized_each, context, is_wide, is_some_wide}

placing_out : (s : Sizing) → placing s ≡ placing_layer (record { node = node_of s; parts = map placing (parts_of s) })
unfolding placing
placing_out s = fold_out-Sizing Placing placing_layer s

pub placing_node : (s : Sizing) → (placing s).node ≡ node_of s
placing_node s = ap (λ (p : Placing). p.node) (placing_out s)

placing_nodes : (ss : List Sizing) → nodes (map placing ss) ≡ map node_of ss
placing_nodes [] = refl
placing_nodes (s ∷ ss) = ap (λ n. n ∷ nodes (map placing ss)) (placing_node s) ∙ ap (λ ns. node_of s ∷ ns) (placing_nodes ss)

pub placing_sized : (s : Sizing) (x : Size) → (placing s).sized x ≡ sized x (sized_each (node_of s).operands (common (map node_of (parts_of s))) x true (map placing (parts_of s)))
placing_sized s x = ap (λ (p : Placing). p.sized x) (placing_out s)
    ∙ ap (λ ns. sized x (sized_each (node_of s).operands (common ns) x true (map placing (parts_of s)))) (placing_nodes (parts_of s))

pub placing_wide : (s : Sizing) (x : Size) → (placing s).wide x ≡ is_some_wide (node_of s).operands (common (map node_of (parts_of s))) x true (is_wide (node_of s).narrow x (map node_of (parts_of s))) (map placing (parts_of s))
placing_wide s x = ap (λ (p : Placing). p.wide x) (placing_out s)
    ∙ ap (λ ns. is_some_wide (node_of s).operands (common ns) x true (is_wide (node_of s).narrow x ns) (map placing (parts_of s))) (placing_nodes (parts_of s))

pub from_part : (parts : List Sizing) (k : ℕ) (part : Sizing) → k < length parts → part ≡ get_or parts k part → drop k parts ≡ part ∷ drop (k + 1) parts
from_part parts k part l e = drop_more parts k part l ∙ ap (λ w. w ∷ drop (k + 1) parts) (sym e)

-- one more part is in its context
pub sized_more : (how : Operands) (c x : Size) (parts : List Sizing) (k : ℕ) (part : Sizing) (all new : List SizedExpr) (z : Size) (y : SizedExpr) (end : List SizedExpr)
    → k < length parts → part ≡ get_or parts k part → z ≡ context how c x false (node_of part) → y ≡ (placing part).sized z → new ≡ all ++ y ∷ []
    → all ++ sized_each how c x false (map placing (drop k parts)) ≡ end → new ++ sized_each how c x false (map placing (drop (k + 1) parts)) ≡ end
sized_more how c x parts k part all new z y end l e f g h whole =
    let rest = sized_each how c x false (map placing (drop (k + 1) parts)) in
    ap (λ ys. ys ++ rest) h ∙ append_assoc all (y ∷ []) rest
    ∙ ap (λ w. all ++ w ∷ rest) (g ∙ ap (placing part).sized (f ∙ ap (context how c x false) (sym (placing_node part))))
    ∙ ap (λ ss. all ++ sized_each how c x false (map placing ss)) (sym (from_part parts k part l e)) ∙ whole

pub wide_more : (how : Operands) (c x : Size) (parts : List Sizing) (k : ℕ) (part : Sizing) (wide new below : Bool) (z : Size) (end : Bool)
    → k < length parts → part ≡ get_or parts k part → z ≡ context how c x false (node_of part) → below ≡ (placing part).wide z → new ≡ (wide || below)
    → is_some_wide how c x false wide (map placing (drop k parts)) ≡ end → is_some_wide how c x false new (map placing (drop (k + 1) parts)) ≡ end
wide_more how c x parts k part wide new below z end l e f g h whole =
    ap (λ t. is_some_wide how c x false t (map placing (drop (k + 1) parts))) (h ∙ ap (λ t. wide || t) (g ∙ ap (placing part).wide (f ∙ ap (context how c x false) (sym (placing_node part)))))
    ∙ ap (λ ss. is_some_wide how c x false wide (map placing ss)) (sym (from_part parts k part l e)) ∙ whole

-- an expression with a first part is placed over it
pub placed_first : (s p : Sizing) (ps : List Sizing) (x z : Size) → parts_of s ≡ p ∷ ps → z ≡ context (node_of s).operands (common (map node_of (parts_of s))) x true (node_of p)
    → placed_at s x ≡ placed_over s x (placed_at p z)
placed_first s p ps x z e f =
    let how = (node_of s).operands in
    let c = common (map node_of (parts_of s)) in
    let w = is_wide (node_of s).narrow x (map node_of (parts_of s)) in
    let inner : context how c x true (placing p).node ≡ z = ap (context how c x true) (placing_node p) ∙ sym f in
    let first_sized : (placing s).sized x ≡ sized x ((placing p).sized z ∷ sized_each how c x false (map placing (behind (parts_of s)))) =
    placing_sized s x ∙ ap (λ ss. sized x (sized_each how c x true (map placing ss))) e
    ∙ ap (λ y. sized x ((placing p).sized y ∷ sized_each how c x false (map placing ps))) inner
    ∙ ap (λ ss. sized x ((placing p).sized z ∷ sized_each how c x false (map placing (behind ss)))) (sym e) in
    let first_wide : (placing s).wide x ≡ is_some_wide how c x false (w || (placing p).wide z) (map placing (behind (parts_of s))) =
    placing_wide s x ∙ ap (λ ss. is_some_wide how c x true w (map placing ss)) e
    ∙ ap (λ y. is_some_wide how c x false (w || (placing p).wide y) (map placing ps)) inner
    ∙ ap (λ ss. is_some_wide how c x false (w || (placing p).wide z) (map placing (behind ss))) (sym e) in
    cc (first_sized, first_wide)

-- one that has no parts
pub placed_leaf : (s : Sizing) (x : Size) → parts_of s ≡ [] → placed_at s x ≡ (sized x [], is_wide (node_of s).narrow x (map node_of (parts_of s)))
placed_leaf s x e =
    let w = is_wide (node_of s).narrow x (map node_of (parts_of s)) in
    let leaf_sized : (placing s).sized x ≡ sized x [] =
    placing_sized s x ∙ ap (λ ss. sized x (sized_each (node_of s).operands (common (map node_of (parts_of s))) x true (map placing ss))) e in
    let leaf_wide : (placing s).wide x ≡ w =
    placing_wide s x ∙ ap (λ ss. is_some_wide (node_of s).operands (common (map node_of (parts_of s))) x true w (map placing ss)) e in
    cc (leaf_sized, leaf_wide)

pub frames_more : (r : SizedExpr × Bool) (fs : List Frame) (f : Frame) → placed_frames r (fs ++ f ∷ []) ≡ placed_frames (placed_over f.sizing.now f.context r) fs
frames_more r [] f = refl
frames_more r (g ∷ fs) f = ap (placed_over g.sizing.now g.context) (frames_more r fs f)

pub depth_of_more : (fs : List Frame) (f : Frame) → depth_of_frames (fs ++ f ∷ []) ≡ max (depth_of_frames fs) (size-Sizing f.sizing.now)
depth_of_more [] f = omega arith
depth_of_more (g ∷ fs) f = let h = depth_of_more fs f in omega (arith, h)

pub part_smaller : (s p : Sizing) (ps : List Sizing) → parts_of s ≡ p ∷ ps → size-Sizing p < size-Sizing s
part_smaller s p ps e =
    let h = size_is-Sizing s in
    let m : most size-Sizing (parts_of s) ≡ max (size-Sizing p) (most size-Sizing ps) = ap (most size-Sizing) e in
    omega (arith, h, m)

most_behind : (ps : List Sizing) → most size-Sizing (behind ps) ≤ most size-Sizing ps
most_behind [] = omega arith
most_behind (p ∷ ps) = omega arith

pub behind_smaller : (s : Sizing) → most size-Sizing (behind (parts_of s)) < size-Sizing s
behind_smaller s = let h = size_is-Sizing s in let m = most_behind (parts_of s) in omega (arith, h, m)

-- an expression over its first part, from what its parts give
pub over_parts : (s : Sizing) (x : Size) (first made : SizedExpr) (wide here below : Bool) (before parts : List SizedExpr) (others : List Sizing) (how : Operands) (c z : Size)
    → how ≡ (node_of s).operands → c ≡ common (map node_of (parts_of s)) → z ≡ x → others ≡ behind (parts_of s)
    → here ≡ (is_wide (node_of s).narrow x (map node_of (parts_of s)) || wide) → before ≡ first ∷ []
    → parts ≡ before ++ sized_each how c z false (map placing others) → below ≡ is_some_wide how c z false here (map placing others) → made ≡ sized x parts
    → (made, below) ≡ placed_over s x (first, wide)
over_parts s x first made wide here below before parts others how c z e1 e2 e3 e4 e5 e6 e7 e8 e9 =
    let each = sized_each (node_of s).operands (common (map node_of (parts_of s))) x false (map placing (behind (parts_of s))) in
    let same : sized_each how c z false (map placing others) ≡ each =
    ap (λ h. sized_each h c z false (map placing others)) e1 ∙ ap (λ d. sized_each (node_of s).operands d z false (map placing others)) e2
    ∙ ap (λ y. sized_each (node_of s).operands (common (map node_of (parts_of s))) y false (map placing others)) e3
    ∙ ap (λ ss. sized_each (node_of s).operands (common (map node_of (parts_of s))) x false (map placing ss)) e4 in
    let inner : parts ≡ first ∷ each = e7 ∙ ap (λ b. b ++ sized_each how c z false (map placing others)) e6 ∙ ap (λ es. first ∷ es) same in
    let outer : made ≡ sized x (first ∷ each) = e9 ∙ ap (sized x) inner in
    let wides : below ≡ is_some_wide (node_of s).operands (common (map node_of (parts_of s))) x false (is_wide (node_of s).narrow x (map node_of (parts_of s)) || wide) (map placing (behind (parts_of s))) =
    e8 ∙ ap (λ h. is_some_wide h c z false here (map placing others)) e1 ∙ ap (λ d. is_some_wide (node_of s).operands d z false here (map placing others)) e2
    ∙ ap (λ y. is_some_wide (node_of s).operands (common (map node_of (parts_of s))) y false here (map placing others)) e3
    ∙ ap (λ ss. is_some_wide (node_of s).operands (common (map node_of (parts_of s))) x false here (map placing ss)) e4
    ∙ ap (λ h. is_some_wide (node_of s).operands (common (map node_of (parts_of s))) x false h (map placing (behind (parts_of s)))) e5 in
    cc (outer, wides)

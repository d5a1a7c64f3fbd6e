-- What an expression without a fault tells of its parts.
use Rattle.std.proofs.Common.{◌≡◌, ℕ, ◌≤◌, Bool, true, false, List, [], ◌∷◌, map, refl, sym, ap, ◌∙◌, Option, Some, None, arith}
use Rattle.std.specs.Prelude.{nat_lt, nat_eq, if◌then◌else◌}
use Rattle.std.proofs.lemmas.Bool.Decides.{nat_tests}
use Rattle.design_core.proofs.BoolLaws.{or_false}
use Rattle.vl_tree.specs.declared.faults.Code.{Code}
use Rattle.vl_tree.specs.declared.faults.Code.TheVariants.{BadRange}
use Rattle.vl_size.specs.declared.tree.Size.{Size}
use Rattle.vl_size.specs.declared.tree.Node.{Node}
use Rattle.vl_size.specs.declared.tree.Operands.{Operands}
use Rattle.vl_size.specs.declared.tree.Narrow.{Narrow}
use Rattle.vl_size.specs.declared.tree.Sizing.{Sizing, Sizing-F, out-Sizing}
use Rattle.vl_size.specs.declared.tree.Sizing.TheViews.{out-roll-Sizing}
use Rattle.vl_tree.specs.Order.{lower, rank, where_true}
use Rattle.vl_size.specs.Sizings.{sizing_of, node_of, length_of, faults_of, is_some_empty, common}
use Rattle.vl_size.specs.Nodes.{sizes, cut, made, node_made, constant_where, applied, one, two}
use Rattle.vl_size.specs.Placed.{placing, is_wide, is_some_wide, alone, context}
use Rattle.vl_size.proofs.PlacingLaws.{placing_node, placing_wide}
use Rattle.vl_elab_trees.specs.Formed.{IsSound}

lower_if : (t : Bool) (c d : Code) → (if t then Some d else Some c) ≡ None → (Some c ≡ None) × (Some d ≡ None)
lower_if true c d e = cc
lower_if false c d e = cc

pub lower_none : (o p : Option Code) → lower o p ≡ None → (o ≡ None) × (p ≡ None)
lower_none None p e = (refl, e)
lower_none (Some c) None e = cc
lower_none (Some c) (Some d) e = lower_if (nat_lt (rank d) (rank c)) c d e

pub where_none : (t : Bool) (c : Code) → where_true t c ≡ None → t ≡ false
where_none true c e = cc
where_none false c e = refl

pub out_of : (n : Node) (ps : List Sizing) → out-Sizing (sizing_of n ps) ≡ record { node = n; parts = ps }
out_of n ps = out-roll-Sizing (record { node = n; parts = ps })

-- what is known of a node without a fault, and of its parts
pub record Known (z : Size) (how : Operands) (narrow : Narrow) (fault : Option Code) (ps : List Sizing) (x : Size) : Type 0 where
  pub faults : faults_of ps ≡ None
  pub own : fault ≡ None
  pub within : z.length ≤ x.length
  pub some : 1 ≤ z.length
  pub most : x.length ≤ 65536
  pub short : cut z.length ≡ z.length
  pub wide : is_some_wide how (common (map node_of ps)) x true (is_wide narrow x (map node_of ps)) (map placing ps) ≡ false

cut_same : (n : ℕ) → nat_lt 65536 n ≡ false → cut n ≡ n
cut_same n e = ap (λ t. if t then 1 else n) e

pub known : (z : Size) (how : Operands) (narrow : Narrow) (constant : Bool) (fault : Option Code) (ps : List Sizing) (x : Size) → IsSound (made z how narrow constant fault ps) x → Known z how narrow fault ps x
known z how narrow constant fault ps x h =
    let n = node_made z how narrow constant fault ps in
    let out = out_of n ps in
    let node : node_of (made z how narrow constant fault ps) ≡ n = ap (λ (s : Sizing-F Sizing). s.node) out in
    let all = lower_none (faults_of ps) _ (sym (ap (λ (y : Node). y.fault) node) ∙ h.fault) in
    let own = lower_none fault _ all.1 in
    let same = cut_same z.length (where_none _ _ own.1) in
    let long : length_of (made z how narrow constant fault ps) ≡ z.length = ap (λ (y : Node). y.size.length) node ∙ same in
    record {
      faults = all.0;
      own = own.0;
      within = omega (arith, sym long, h.within);
      some = omega (arith, sym long, h.some);
      most = h.most;
      short = same;
      wide = sym (ap (λ (s : Sizing-F Sizing). is_some_wide s.node.operands (common (map node_of s.parts)) x true (is_wide s.node.narrow x (map node_of s.parts)) (map placing s.parts)) out)
          ∙ sym (placing_wide (made z how narrow constant fault ps) x) ∙ h.wide;
    }

-- of an expression that is said to be constant the same is known
pub constant_sound : (gone : Bool) (n : Node) (ps : List Sizing) (x : Size) → IsSound (sizing_of (constant_where gone n) ps) x → IsSound (sizing_of n ps) x
constant_sound gone n ps x h =
    let k = constant_where gone n in
    let new = out_of k ps in
    let old = out_of n ps in
    let long : length_of (sizing_of n ps) ≡ length_of (sizing_of k ps) = ap (λ (s : Sizing-F Sizing). s.node.size.length) old ∙ sym (ap (λ (s : Sizing-F Sizing). s.node.size.length) new) in
    record {
      fault = ap (λ (s : Sizing-F Sizing). s.node.fault) old ∙ sym (ap (λ (s : Sizing-F Sizing). s.node.fault) new) ∙ h.fault;
      wide = placing_wide (sizing_of n ps) x
          ∙ ap (λ (s : Sizing-F Sizing). is_some_wide s.node.operands (common (map node_of s.parts)) x true (is_wide s.node.narrow x (map node_of s.parts)) (map placing s.parts)) old
          ∙ sym (ap (λ (s : Sizing-F Sizing). is_some_wide s.node.operands (common (map node_of s.parts)) x true (is_wide s.node.narrow x (map node_of s.parts)) (map placing s.parts)) new)
          ∙ sym (placing_wide (sizing_of k ps) x) ∙ h.wide;
      some = omega (arith, long, h.some);
      within = omega (arith, long, h.within);
      most = h.most;
    }

-- of an operator, whose operands all have a length
abbrev pub Operator : Size → Operands → Narrow → List Sizing → Size → Type 0
Operator z how narrow ps x = Known z how narrow (where_true (is_some_empty ps) BadRange) ps x

pub operator : (z : Size) (how : Operands) (narrow : Narrow) (ps : List Sizing) (x : Size) → IsSound (applied z how narrow ps) x → Operator z how narrow ps x
operator z how narrow ps x h = known z how narrow true (where_true (is_some_empty ps) BadRange) ps x h

pub not_empty : (n : ℕ) → nat_eq n 0 ≡ false → 1 ≤ n
not_empty n e = grind (arith, nat_tests, e)

-- a part of an expression: no fault, a length, and nothing too wide in its context
pub record Part (s : Sizing) (x : Size) : Type 0 where
  pub fault : (node_of s).fault ≡ None
  pub some : 1 ≤ length_of s
  pub wide : (placing s).wide x ≡ false

pub sound : (s : Sizing) (x : Size) → Part s x → length_of s ≤ x.length → x.length ≤ 65536 → IsSound s x
sound s x p l k = record { fault = p.fault; wide = p.wide; some = p.some; within = l; most = k }

pub wide_at : (how : Operands) (c x : Size) (is_first : Bool) (s : Sizing) → (placing s).wide (context how c x is_first (placing s).node) ≡ false → (placing s).wide (context how c x is_first (node_of s)) ≡ false
wide_at how c x is_first s e = ap (λ n. (placing s).wide (context how c x is_first n)) (sym (placing_node s)) ∙ e

-- an expression before it has a context has at most 65,536 bits, and is in no function's input
pub record IsSmall (s : Sizing) : Type 0 where
  pub short : length_of s ≤ 65536
  pub least : (node_of s).least ≡ 0

pub alone_length : (s : Sizing) → IsSmall s → (alone (node_of s)).length ≡ length_of s
alone_length s k = omega (arith, k.least)

-- a part by itself
pub by_itself : (s : Sizing) → Part s (alone (node_of s)) → IsSmall s → IsSound s (alone (node_of s))
by_itself s p k = let e = alone_length s k in sound s (alone (node_of s)) p (omega (arith, e)) (omega (arith, e, k.short))

-- an expression has the size that its node says
pub own_size_is : (z : Size) (how : Operands) (narrow : Narrow) (constant : Bool) (fault : Option Code) (ps : List Sizing) → cut z.length ≡ z.length → (node_of (made z how narrow constant fault ps)).size ≡ z
own_size_is z how narrow constant fault ps e = ap (λ (s : Sizing-F Sizing). s.node.size) (out_of (node_made z how narrow constant fault ps) ps) ∙ ap (λ n. sizes n z.signed) e

-- one part, where the expression is no operator
pub record Lone (z : Size) (how : Operands) (narrow : Narrow) (x : Size) (a : Sizing) : Type 0 where
  pub not_wide : is_wide narrow x (node_of a ∷ []) ≡ false
  pub fault : (node_of a).fault ≡ None
  pub wide : (placing a).wide (context how (common (node_of a ∷ [])) x true (node_of a)) ≡ false

pub lone : (z : Size) (how : Operands) (narrow : Narrow) (fault : Option Code) (x : Size) (a : Sizing) → Known z how narrow fault (one a) x → Lone z how narrow x a
lone z how narrow fault x a k =
    let w = or_false _ _ k.wide in
    record { not_wide = w.0; fault = (lower_none None _ k.faults).1; wide = wide_at how _ x true a w.1 }

module _ (z : Size) (how : Operands) (narrow : Narrow) (x : Size) where
  pub one_part : (a : Sizing) → Operator z how narrow (one a) x → (is_wide narrow x (node_of a ∷ []) ≡ false) × Part a (context how (common (node_of a ∷ [])) x true (node_of a))
  one_part a k =
      let f = lower_none None _ k.faults in
      let e = or_false _ _ (where_none _ _ k.own) in
      let w = or_false _ _ k.wide in
      (w.0, record { fault = f.1; some = not_empty _ e.0; wide = wide_at how _ x true a w.1 })

  -- two parts, each in its context
  pub record Two (a c : Sizing) : Type 0 where
    pub not_wide : is_wide narrow x (node_of a ∷ (node_of c ∷ [])) ≡ false
    pub first : Part a (context how (common (node_of a ∷ (node_of c ∷ []))) x true (node_of a))
    pub second : Part c (context how (common (node_of a ∷ (node_of c ∷ []))) x false (node_of c))

  pub two_parts : (a c : Sizing) → Operator z how narrow (two a c) x → Two a c
  two_parts a c k =
      let f = lower_none (node_of a).fault _ k.faults in
      let e = or_false _ _ (where_none _ _ k.own) in
      let g = or_false _ _ e.1 in
      let w = or_false _ _ k.wide in
      let v = or_false _ _ w.0 in
      record {
        not_wide = v.0;
        first = record { fault = f.0; some = not_empty _ e.0; wide = wide_at how _ x true a v.1 };
        second = record { fault = f.1; some = not_empty _ g.0; wide = wide_at how _ x false c w.1 };
      }

  pub record Three (t a c : Sizing) : Type 0 where
    pub test : Part t (context how (common (node_of t ∷ (node_of a ∷ (node_of c ∷ [])))) x true (node_of t))
    pub first : Part a (context how (common (node_of t ∷ (node_of a ∷ (node_of c ∷ [])))) x false (node_of a))
    pub second : Part c (context how (common (node_of t ∷ (node_of a ∷ (node_of c ∷ [])))) x false (node_of c))

  pub three_parts : (t a c : Sizing) → Operator z how narrow (t ∷ two a c) x → Three t a c
  three_parts t a c k =
      let f = lower_none (lower (node_of t).fault (node_of a).fault) _ k.faults in
      let d = lower_none (node_of t).fault _ f.0 in
      let e = or_false _ _ (where_none _ _ k.own) in
      let g = or_false _ _ e.1 in
      let i = or_false _ _ g.1 in
      let w = or_false _ _ k.wide in
      let v = or_false _ _ w.0 in
      let u = or_false _ _ v.0 in
      record {
        test = record { fault = d.0; some = not_empty _ e.0; wide = wide_at how _ x true t u.1 };
        first = record { fault = d.1; some = not_empty _ g.0; wide = wide_at how _ x false a v.1 };
        second = record { fault = f.1; some = not_empty _ i.0; wide = wide_at how _ x false c w.1 };
      }

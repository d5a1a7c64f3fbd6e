-- Leaves below a number stay so.
use Rattle.std.proofs.Common.{◌≡◌, ◌<◌, ◌||◌, ℕ, Bool, true, false, List, refl, sym, ◌∙◌, arith}
use Rattle.std.proofs.lemmas.Bool.{false≢true, eqb-true}
use Rattle.cyc_net.specs.declared.node.Node.{Node}
use Rattle.cyc_net.specs.declared.node.Node.TheVariants.{Const, Leaf, And, Xor, Mux}
use Rattle.cyc_net.specs.Nets.{is_leaf, has_leaf, LeafBelow, LeavesBelow, IsPushed}
use Rattle.cyc_net.proofs.NetLaws.{has_below, below_has, gated_below}
use Rattle.net_laws.specs.Leaves.{BelowIsHad, PushedStayBelow, GatedStayBelow}

pub below_is_had : BelowIsHad
below_is_had n net = (λ h i e. below_has n net i h e, λ h. has_below n net h)

own_below : (n : ℕ) (x : Node) (i : ℕ) → LeafBelow n x → is_leaf i x ≡ true → i < n
own_below n (Const b) i h e = absurd (false≢true e)
own_below n (Leaf j) i h e = let same = eqb-true i j e in omega (arith, h, same)
own_below n (And a b) i h e = absurd (false≢true e)
own_below n (Xor a b) i h e = absurd (false≢true e)
own_below n (Mux c a b) i h e = absurd (false≢true e)

either_below : (n : ℕ) (old : List Node) (x : Node) (i : ℕ) (had : Bool) → has_leaf old i ≡ had → LeavesBelow n old → LeafBelow n x → (had || is_leaf i x) ≡ true → i < n
either_below n old x i true h below own e = below_has n old i below h
either_below n old x i false h below own e = own_below n x i own e

pub pushed_stay_below : PushedStayBelow
pushed_stay_below n old new node at p below own =
    has_below n new (λ i e. either_below n old node i (has_leaf old i) refl below own (sym (p.leaves i) ∙ e))

pub gated_stay_below : GatedStayBelow
gated_stay_below n old new g below = gated_below n old new g below

-- Windows and runs of a cycle net, by the values of its leaves in each cycle.
use Rattle.std.specs.Prelude.{◌≡◌, ℕ, ◌+◌, ◌<◌, ◌≤◌, ◌^◌, Bool, false, cond, eqb, ltb, List, [], ◌∷◌, ◌++◌, length, slice_index_or, Option, Some, None, zero, suc}
use Rattle.std.specs.List.{fold}
use mathlib.Core.Bool.{not}
use Rattle.cyc_net.specs.declared.cycle.BitLeaf.{BitLeaf}
use Rattle.cyc_net.specs.declared.cycle.BitNode.{BitNode}
use Rattle.cyc_net.specs.declared.cycle.CycleNet.{CycleNet}
use Rattle.cyc_net.specs.Cycles.{next_of, leaf_of, bit_of, bit_at, node_at}
use Rattle.cyc_net.specs.Nets.{value, has_leaf, LeavesBelow}
use Rattle.cyc_net.specs.declared.node.Node.{Node}
use Rattle.unroller.specs.declared.frames.Unrolled.{Unrolled}
use Rattle.unroller.specs.declared.setup.FixedBit.{FixedBit}
use Rattle.unroller.specs.declared.setup.FixedReset.{FixedReset}
use Rattle.unroller.specs.declared.setup.Fixed.{Fixed}
use Rattle.unroller.specs.declared.setup.StartState.{StartState}
use Rattle.unroller.specs.declared.setup.StartState.TheVariants.{Free, PowerUp}

abbrev pub or_some : Option Bool → Option Bool → Option Bool
or_some None o = o
or_some (Some v) o = Some v

-- the value that a list gives a bit; the last entry of the bit counts
abbrev pub value_of : List FixedBit → ℕ → Option Bool
value_of pins b = fold (λ (o : Option Bool) (p : FixedBit). cond (eqb b p.bit) (Some p.value) o) None pins

abbrev pub reset_value : Option FixedReset → ℕ → ℕ → Option Bool
reset_value None t b = None
reset_value (Some r) t b = cond (eqb b r.bit) (Some (cond (ltb t r.cycles) r.asserted (not r.asserted))) None

-- the value that an input bit has in cycle t, where it is pinned or the reset
abbrev pub fixed_at : Fixed → ℕ → ℕ → Option Bool
fixed_at setup t b = or_some (value_of setup.pins b) (reset_value setup.reset t b)

abbrev pub is_one : Option Bool → Bool
is_one None = false
is_one (Some v) = v

-- the value of a stored bit in the first cycle: any, or that at power-up
abbrev pub StartsAt : StartState → ℕ → Bool → Type 0
StartsAt Free b v = Unit {0}
StartsAt (PowerUp values) b v = v ≡ is_one (value_of values b)

-- the values of the leaves, by cycle and leaf
abbrev pub Trace : Type 0
Trace = ℕ → ℕ → Bool

-- a window of the cycle net where the start is free, and else a run from power-up: pinned and reset bits have their values in each cycle,
-- and each stored bit has in each later cycle the value that its next node had in the cycle before
pub record IsTrace (c : CycleNet) (setup : Fixed) (start : StartState) (frames : ℕ) (σ : Trace) : Type 0 where
  pub fixed : (t k : ℕ) (b : Bool) → t < frames → k < length c.inputs → fixed_at setup t (bit_of c.inputs k) ≡ Some b → σ t (leaf_of c.inputs k) ≡ b
  pub steps : (t k : ℕ) → t + 1 < frames → k < length c.states → σ (t + 1) (leaf_of c.states k) ≡ value c.net (σ t) (next_of c.nexts (bit_of c.states k))
  pub starts : (k : ℕ) → k < length c.states → StartsAt start (bit_of c.states k) (σ 0 (leaf_of c.states k))

-- a leaf of the cycle net in a cycle
pub record Place : Type 0 where
  pub cycle : ℕ
  pub leaf : ℕ

abbrev pub state_places : StartState → List BitLeaf → List Place
state_places start [] = []
state_places Free (p ∷ ps) = record { cycle = 0; leaf = p.leaf } ∷ state_places Free ps
state_places (PowerUp values) (p ∷ ps) = []

abbrev pub free_place : Option Bool → ℕ → ℕ → List Place → List Place
free_place None t l rest = record { cycle = t; leaf = l } ∷ rest
free_place (Some v) t l rest = rest

abbrev pub input_places : Fixed → ℕ → List BitLeaf → List Place
input_places setup t [] = []
input_places setup t (p ∷ ps) = free_place (fixed_at setup t p.bit) t p.leaf (input_places setup t ps)

-- what the leaves stand for: the stored bits first, where they are free, then the free input bits by cycle
abbrev pub places : CycleNet → Fixed → StartState → ℕ → List Place
places c setup start zero = state_places start c.states
places c setup start (suc t) = places c setup start t ++ input_places setup t c.inputs

-- the leaves from number n on have the values of the trace at their places
abbrev pub Agree : ℕ → List Place → (ℕ → Bool) → Trace → Type 0
Agree n [] w σ = Unit {0}
Agree n (p ∷ ps) w σ = (w n ≡ σ p.cycle p.leaf) × Agree (n + 1) ps w σ

-- the frames have nodes of the net for the bits of the cycle net, in their order
pub record AreFrames (c : CycleNet) (net : List Node) (frames : List (List BitNode)) : Type 0 where
  pub long : (t : ℕ) → t < length frames → length (slice_index_or frames t []) ≡ length c.bits
  pub bits : (t k : ℕ) → t < length frames → k < length c.bits → bit_at (slice_index_or frames t []) k ≡ bit_at c.bits k
  pub nodes : (t k : ℕ) → t < length frames → k < length c.bits → node_at (slice_index_or frames t []) k < length net

-- a trace that the leaf values w make, and that the nodes of the frames follow
pub record Follows (c : CycleNet) (setup : Fixed) (start : StartState) (net : List Node) (frames : List (List BitNode)) (w : ℕ → Bool) : Type 0 where
  pub trace : Trace
  pub is_trace : IsTrace c setup start (length frames) trace
  pub agree : Agree 0 (places c setup start (length frames)) w trace
  pub values : (t k : ℕ) → t < length frames → k < length c.bits → value net w (node_at (slice_index_or frames t []) k) ≡ value c.net (trace t) (node_at c.bits k)

-- the net of some cycles; its leaves are the places in their order, and a net has room for no more than 2^27
pub record IsUnrolled (c : CycleNet) (setup : Fixed) (frames : ℕ) (start : StartState) (u : Unrolled) : Type 0 where
  pub count : length u.frames ≡ frames
  pub leaves : u.leaves ≡ length (places c setup start frames)
  pub few : u.leaves ≤ 2 ^ 27
  pub has : (i : ℕ) → has_leaf u.net i ≡ ltb i u.leaves
  pub below : LeavesBelow u.leaves u.net
  pub are : AreFrames c u.net u.frames
  pub follows : (w : ℕ → Bool) → Follows c setup start u.net u.frames w

-- the frames follow each window, or run, whose leaves have the values w
abbrev pub FollowsAll : CycleNet → Fixed → ℕ → StartState → Unrolled → Type 0
FollowsAll c setup frames start u =
    (σ : Trace) (w : ℕ → Bool) → IsTrace c setup start frames σ → Agree 0 (places c setup start frames) w σ
    → (t k : ℕ) → t < frames → k < length c.bits → value u.net w (node_at (slice_index_or u.frames t []) k) ≡ value c.net (σ t) (node_at c.bits k)

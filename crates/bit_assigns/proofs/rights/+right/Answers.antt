use Rattle.std.proofs.Common.{◌≡◌, ◌++◌, ◌∙◌, ap, sym, Bool, List, [], ℕ, ℤ, inl, inr, ◌⊎◌, rules}
use Rattle.std.proofs.lemmas.List.{append-nil}
use Rattle.std.proofs.lemmas.Int.{to_z-of_z}
use Rattle.std.proofs.lemmas.Result.{on_ok_weaker}
use mir.Syntax.{w64}
use mir.Val.{SFits}
use Rattle.design_core.specs.declared.operators.Unary.{Unary}
use Rattle.design_core.specs.declared.operators.Binary.{Binary}
use Rattle.design_core.specs.declared.tree.DExpr.{DExpr}
use Rattle.design_core.specs.declared.tree.DFunction.{DFunction}
use Rattle.design_core.specs.declared.tree.DNode.{DNode}
use Rattle.design_core.specs.declared.tree.DNode.TheVariants as node
use Rattle.bit_assigns.specs.declared.bits.Source.{Source}
use Rattle.bit_assigns.specs.Bits.{selected_sources, span_sources}
use Rattle.bit_assigns.specs.Sides.{right_bits}
use Rattle.bit_assigns.proofs.ListLaws.{select_whole}
use Rattle.bit_assigns.proofs.SideLaws.{bits_node, bits_by_node, bits-Signal, bits-Local, bits-SelectAt, bits-Unary, bits-Binary, bits-Mux, bits-Repeat, bits-Call}
use Rattle.bit_assigns.proofs.ValueLaws.{bits_as}
use Rattle.bit_assigns.proofs.rights.+right.Goals as goal

-- the kinds of expressions that have no bits
abbrev IsLocal : DNode → Type 0
IsLocal d = (k : ℕ) × d ≡ node.Local k

abbrev IsSelectAt : DNode → Type 0
IsSelectAt d = (a : DExpr) × (index : DExpr) × (offset : ℤ) × (down : Bool) × d ≡ node.SelectAt a index offset down

abbrev IsUnary : DNode → Type 0
IsUnary d = (op : Unary) × (a : DExpr) × d ≡ node.Unary op a

abbrev IsBinary : DNode → Type 0
IsBinary d = (op : Binary) × (a : DExpr) × (b : DExpr) × d ≡ node.Binary op a b

abbrev IsMux : DNode → Type 0
IsMux d = (c : DExpr) × (a : DExpr) × (b : DExpr) × d ≡ node.Mux c a b

abbrev IsRepeat : DNode → Type 0
IsRepeat d = (count : ℕ) × (part : DExpr) × d ≡ node.Repeat count part

abbrev IsCall : DNode → Type 0
IsCall d = (f : DFunction) × (arguments : List DExpr) × d ≡ node.Call f arguments

abbrev IsOther : DNode → Type 0
IsOther d = IsLocal d ⊎ (IsSelectAt d ⊎ (IsUnary d ⊎ (IsBinary d ⊎ (IsMux d ⊎ (IsRepeat d ⊎ IsCall d)))))

other_none : (n : ℕ) (d : DNode) → IsOther d → bits_node d n ≡ []
other_none n d (inl p) = ap (λ x. bits_node x n) p.1 ∙ bits-Local n p.0
other_none n d (inr (inl p)) = ap (λ x. bits_node x n) p.4 ∙ bits-SelectAt n p.0 p.1 p.2 p.3
other_none n d (inr (inr (inl p))) = ap (λ x. bits_node x n) p.2 ∙ bits-Unary n p.0 p.1
other_none n d (inr (inr (inr (inl p)))) = ap (λ x. bits_node x n) p.3 ∙ bits-Binary n p.0 p.1 p.2
other_none n d (inr (inr (inr (inr (inl p))))) = ap (λ x. bits_node x n) p.3 ∙ bits-Mux n p.0 p.1 p.2
other_none n d (inr (inr (inr (inr (inr (inl p)))))) = ap (λ x. bits_node x n) p.2 ∙ bits-Repeat n p.0 p.1
other_none n d (inr (inr (inr (inr (inr (inr p)))))) = ap (λ x. bits_node x n) p.2 ∙ bits-Call n p.0 p.1

nothing : (all : List Source) (e : DExpr) → IsOther e.node → all ≡ all ++ right_bits e
nothing all e is = sym (ap (λ xs. all ++ xs) (bits_by_node e ∙ other_none e.length e.node is) ∙ append-nil all)

pub push_right-returns-in-Local : goal.push_right-returns-in-Local
push_right-returns-in-Local t c = nothing c.args.all.now.items c.args.right.now c.in-Local.is

pub push_right-returns-in-Local-2 : goal.push_right-returns-in-Local-2
push_right-returns-in-Local-2 t c = nothing c.args.all.now.items c.args.right.now c.in-Local.is

pub push_right-returns-in-Local-3 : goal.push_right-returns-in-Local-3
push_right-returns-in-Local-3 t c = nothing c.args.all.now.items c.args.right.now c.in-Local.is

pub push_right-returns-in-Local-4 : goal.push_right-returns-in-Local-4
push_right-returns-in-Local-4 t c = nothing c.args.all.now.items c.args.right.now c.in-Local.is

pub push_right-returns-in-Local-5 : goal.push_right-returns-in-Local-5
push_right-returns-in-Local-5 t c = nothing c.args.all.now.items c.args.right.now c.in-Local.is

pub push_right-returns-in-Local-6 : goal.push_right-returns-in-Local-6
push_right-returns-in-Local-6 t c = nothing c.args.all.now.items c.args.right.now c.in-Local.is

pub push_right-returns-in-Local-7 : goal.push_right-returns-in-Local-7
push_right-returns-in-Local-7 t c = nothing c.args.all.now.items c.args.right.now c.in-Local.is

pub push_select-returns-in-Signal : goal.push_select-returns-in-Signal
push_select-returns-in-Signal t c =
    let base = c.args.base.now in
    let s = c.in-Signal.signal in
    let fits : SFits w64 c.args.low = search rules in
    on_ok_weaker c.push_span_sources.result (λ done. done
    ∙ ap (λ xs. c.args.all.now.items ++ xs) (ap (λ z. span_sources s base.length z c.args.length) (to_z-of_z w64 c.args.low fits)
    ∙ sym (ap (selected_sources c.args.low c.args.length) (bits_as base (node.Signal s) _ c.in-Signal.is (bits-Signal base.length s)) ∙ select_whole s base.length c.args.low c.args.length)))
    c.push_span_sources.ensures

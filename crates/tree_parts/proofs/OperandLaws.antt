-- The operands of each kind of expression.
use Rattle.std.proofs.Common.{◌≡◌, ℕ, Bool, List, [], ◌∷◌, ◌∙◌, ap, ℤ, refl, sym}
use Rattle.design_core.specs.declared.operators.Unary.{Unary}
use Rattle.design_core.specs.declared.operators.Binary.{Binary}
use Rattle.design_core.specs.declared.tree.DExpr.{DExpr}
use Rattle.design_core.specs.declared.tree.DNode.{out-DNode, roll-DNode, roll-out-DNode}
use Rattle.design_core.specs.declared.tree.DNode.TheVariants as node
use Rattle.design_core.specs.declared.tree.DFunction.{DFunction}
use Rattle.design_core.specs.declared.tree.DLeft.TheOpen.{DNode-F}
use Rattle.tree_parts.specs.Parts.{IsNoSignal, NodeLayer, base_operands, operands_in, operands_of}

-- by the layer that an expression is made of
pub operands_layer : (e : DExpr) (x : NodeLayer) → out-DNode e.node ≡ x → operands_of e ≡ operands_in x
unfolding operands_of
operands_layer e x is = ap operands_in is

module _ (e : DExpr) where
  pub operands_constant : (bits : List Bool) → e.node ≡ node.Const bits → operands_of e ≡ []
  operands_constant bits is = operands_layer e (DNode-F.Const bits) (ap out-DNode is ∙ node.outs-Const bits)

  pub operands_signal : (s : ℕ) → e.node ≡ node.Signal s → operands_of e ≡ []
  operands_signal s is = operands_layer e (DNode-F.Signal s) (ap out-DNode is ∙ node.outs-Signal s)

  pub operands_local : (k : ℕ) → e.node ≡ node.Local k → operands_of e ≡ []
  operands_local k is = operands_layer e (DNode-F.Local k) (ap out-DNode is ∙ node.outs-Local k)

  pub operands_select_at : (base index : DExpr) (offset : ℤ) (down : Bool) → e.node ≡ node.SelectAt base index offset down → operands_of e ≡ base ∷ index ∷ []
  operands_select_at base index offset down is = operands_layer e (DNode-F.SelectAt base index offset down) (ap out-DNode is ∙ node.outs-SelectAt base index offset down)

  pub operands_unary : (op : Unary) (a : DExpr) → e.node ≡ node.Unary op a → operands_of e ≡ a ∷ []
  operands_unary op a is = operands_layer e (DNode-F.Unary op a) (ap out-DNode is ∙ node.outs-Unary op a)

  pub operands_binary : (op : Binary) (a b : DExpr) → e.node ≡ node.Binary op a b → operands_of e ≡ a ∷ b ∷ []
  operands_binary op a b is = operands_layer e (DNode-F.Binary op a b) (ap out-DNode is ∙ node.outs-Binary op a b)

  pub operands_mux : (c a b : DExpr) → e.node ≡ node.Mux c a b → operands_of e ≡ c ∷ a ∷ b ∷ []
  operands_mux c a b is = operands_layer e (DNode-F.Mux c a b) (ap out-DNode is ∙ node.outs-Mux c a b)

  pub operands_extend : (a : DExpr) (keeps : Bool) → e.node ≡ node.Extend a keeps → operands_of e ≡ a ∷ []
  operands_extend a keeps is = operands_layer e (DNode-F.Extend a keeps) (ap out-DNode is ∙ node.outs-Extend a keeps)

  pub operands_concat : (parts : List DExpr) → e.node ≡ node.Concat parts → operands_of e ≡ parts
  operands_concat parts is = operands_layer e (DNode-F.«DNode::Concat» parts) (ap out-DNode is ∙ node.outs-Concat parts)

  pub operands_repeat : (count : ℕ) (part : DExpr) → e.node ≡ node.Repeat count part → operands_of e ≡ part ∷ []
  operands_repeat count part is = operands_layer e (DNode-F.Repeat count part) (ap out-DNode is ∙ node.outs-Repeat count part)

  pub operands_call : (f : DFunction) (arguments : List DExpr) → e.node ≡ node.Call f arguments → operands_of e ≡ arguments
  operands_call f arguments is = operands_layer e (DNode-F.Call f arguments) (ap out-DNode is ∙ node.outs-Call f arguments)

  -- a select of a whole signal has none, any other its base
  pub operands_select : (base : DExpr) (low : ℤ) → e.node ≡ node.Select base low → IsNoSignal base → operands_of e ≡ base ∷ []
  unfolding IsNoSignal
  operands_select base low is none = operands_layer e (DNode-F.Select base low) (ap out-DNode is ∙ node.outs-Select base low) ∙ none

  pub operands_of_signal : (base : DExpr) (low : ℤ) (s : ℕ) → e.node ≡ node.Select base low → base.node ≡ node.Signal s → operands_of e ≡ []
  operands_of_signal base low s is of = operands_layer e (DNode-F.Select base low) (ap out-DNode is ∙ node.outs-Select base low) ∙ ap (λ (x : NodeLayer). base_operands x base) (ap out-DNode of ∙ node.outs-Signal s)

-- by the layer
no_layer : (e : DExpr) (x : NodeLayer) → out-DNode e.node ≡ x → ((s : ℕ) → e.node ≡ node.Signal s → ⊥) → base_operands x e ≡ e ∷ []
no_layer e (DNode-F.Signal s) is h = absurd (h s (sym (roll-out-DNode e.node) ∙ ap roll-DNode is ∙ node.rolls-Signal s))
no_layer e (DNode-F.Const bits) is h = refl
no_layer e (DNode-F.Local k) is h = refl
no_layer e (DNode-F.Select a low) is h = refl
no_layer e (DNode-F.SelectAt a index offset down) is h = refl
no_layer e (DNode-F.Unary op a) is h = refl
no_layer e (DNode-F.Binary op a b) is h = refl
no_layer e (DNode-F.Mux c a b) is h = refl
no_layer e (DNode-F.Extend a keeps) is h = refl
no_layer e (DNode-F.«DNode::Concat» parts) is h = refl
no_layer e (DNode-F.Repeat count part) is h = refl
no_layer e (DNode-F.Call function arguments) is h = refl

-- an expression that is no signal by its variant
pub no_signal : (e : DExpr) → ((s : ℕ) → e.node ≡ node.Signal s → ⊥) → IsNoSignal e
unfolding IsNoSignal
no_signal e h = no_layer e (out-DNode e.node) refl h

-- One gate more.
use Rattle.std.proofs.Common.{◌≡◌, ℕ, Bool, true, false, not, ◌&&◌, ◌||◌, List, refl, ◌∙◌, cond}
use Rattle.std.specs.Prelude.{Result, IfOk}
use Rattle.std.proofs.lemmas.Result.{IfOk-weaker}
use mathlib.Core.Bool.{beq}
use Rattle.bits_core.specs.Places.{exclusive_or}
use Rattle.cyc_net.specs.declared.node.Node.{Node}
use Rattle.cyc_net.specs.declared.node.Node.TheVariants.{And, Xor, Mux}
use Rattle.cyc_net.specs.Nets.{value, IsPushed}
use Rattle.net_ops.specs.Words.{IsBit}

exclusive : (a b : Bool) → not (beq a b) ≡ exclusive_or a b
exclusive true true = refl
exclusive true false = refl
exclusive false true = refl
exclusive false false = refl

either : (a b : Bool) → cond a a b ≡ (a || b)
either true b = refl
either false b = refl

module _ {E : Type 0} (old new : List Node) (r : Result ℕ E) where
  pub made_and : (a b : ℕ) → IfOk r (λ n. IsPushed old (And a b) new n) → IfOk r (λ n. IsBit new n (λ v. value old v a && value old v b))
  made_and a b h = IfOk-weaker r _ _ (λ n p. record { within = p.within; worth = p.worth }) h

  pub made_or : (a b : ℕ) → IfOk r (λ n. IsPushed old (Mux a a b) new n) → IfOk r (λ n. IsBit new n (λ v. value old v a || value old v b))
  made_or a b h = IfOk-weaker r _ _ (λ n p. record { within = p.within; worth = λ v. p.worth v ∙ either (value old v a) (value old v b) }) h

  pub made_xor : (a b : ℕ) → IfOk r (λ n. IsPushed old (Xor a b) new n) → IfOk r (λ n. IsBit new n (λ v. exclusive_or (value old v a) (value old v b)))
  made_xor a b h = IfOk-weaker r _ _ (λ n p. record { within = p.within; worth = λ v. p.worth v ∙ exclusive (value old v a) (value old v b) }) h

  pub made_mux : (c a b : ℕ) → IfOk r (λ n. IsPushed old (Mux c a b) new n) → IfOk r (λ n. IsBit new n (λ v. cond (value old v c) (value old v a) (value old v b)))
  made_mux c a b h = IfOk-weaker r _ _ (λ n p. record { within = p.within; worth = p.worth }) h

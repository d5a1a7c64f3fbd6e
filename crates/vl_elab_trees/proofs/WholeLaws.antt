-- A whole expression without a fault is formed, and as long as is asked for.
use Rattle.std.proofs.Common.{◌≡◌, ℕ, ◌≤◌, false, [], ◌∷◌, refl, Option, Some, None, arith, subst}
use Rattle.std.specs.Prelude.{nat_lt, nat_eq, Ok}
use Rattle.std.proofs.lemmas.Bool.Decides.{nat_tests}
use Rattle.design_core.proofs.BoolLaws.{or_false}
use Rattle.vl_tree.specs.declared.faults.Code.{Code}
use Rattle.vl_size.specs.declared.tree.Sizing.{Sizing}
use Rattle.vl_size.specs.Placed.{lowest, widened}
use Rattle.vl_size.specs.Sizings.{node_of, length_of}
use Rattle.vl_tree.specs.Outcomes.{unless}
use Rattle.vl_elab_trees.specs.Formed.{IsSound, IsRightSide, ExpressionIsFormed}
use Rattle.vl_elab_trees.specs.Built.{built}
use Rattle.vl_elab_trees.specs.Whole.{lowest_of, sizing_of}
use Rattle.vl_elab_trees.proofs.KnownLaws.{lower_none, where_none, not_empty, IsSmall}
use Rattle.vl_elab_trees.proofs.SmallLaws.{own_small}
use Rattle.vl_elab_trees.proofs.BuiltLaws.{built_good, not_false}
use Rattle.vl_elab_trees.specs.Calls.{calls_fit}

pub record Came {A : Type 0} (o : Option Code) (a r : A) : Type 0 where
  pub no_fault : o ≡ None
  pub same : a ≡ r

pub came : {A : Type 0} (o : Option Code) (a r : A) → unless o a ≡ Ok r → Came o a r
came None a r e = record { no_fault = refl; same = cc }
came (Some c) a r e = cc

in_bounds : (n : ℕ) → nat_lt 65536 n ≡ false → n ≤ 65536
in_bounds n e = grind (arith, nat_tests, e)

pub whole_sound : (n : ℕ) (s : Sizing) → IsSmall s → lowest n s ≡ None → IsSound s (widened n s)
whole_sound n s small e =
    let all = lower_none (node_of s).fault _ e in
    let later = lower_none _ _ all.1 in
    let bad = or_false (nat_eq (length_of s) 0) _ (where_none _ _ later.0) in
    let most = in_bounds n bad.1 in
    record { fault = all.0; wide = where_none _ _ later.1; some = not_empty _ bad.0; within = omega arith; most = omega (arith, most, small.short) }

pub expression_is_formed : ExpressionIsFormed
expression_is_formed vs ls m h t f n r e =
    let s = sizing_of m t f in
    let w = came (lowest_of m t f n) (built m t (s ∷ []) (widened n s) f.values).0 r e in
    let later = lower_none _ _ (lower_none _ _ w.no_fault).1 in
    let fit = not_false (calls_fit m.known.look t) (where_none _ _ later.0) in
    let good = built_good vs ls m h t [] (widened n s) f.values fit (whole_sound n s (own_small m.known.look t f.values) later.1) in
    subst (IsRightSide vs ls n) w.same (record { formed = good.formed; long = omega (arith, good.length) })

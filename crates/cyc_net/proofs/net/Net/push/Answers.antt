use Rattle.std.proofs.Common.{◌≡◌, ◌++◌, ◌∷◌, [], length, arith, sym, ap, subst, ◌∙◌, List}
use Rattle.cyc_net.specs.declared.node.Node.{Node}
use Rattle.cyc_net.specs.Nets.{ReadsBelow, IsNet, IsPushed, Extends, Gated}
use Rattle.cyc_net.proofs.NetLaws.{IsNet-push, pushed, Extends-push, Gated-push}
use Rattle.cyc_net.proofs.net.Net.push.Goals as goal

pub invariant_of-self-2 : goal.invariant_of-self-2
invariant_of-self-2 c =
    subst IsNet (sym c.in_ok-push.ensures.items)
    (IsNet-push c.self.inside.nodes.items c.args.node c.self.invariant (subst (λ (ns : List Node). ReadsBelow (length ns) c.args.node) (sym c.self.view_is) c.requires) (grind arith))

pub returns-clause-made : goal.returns-clause-made
returns-clause-made c =
    let old = c.args.self.now in
    let at : c.len-at.result ≡ length old = grind (arith, ap length c.self.view_is) in
    let new : c.push.new.self.items ≡ old ++ c.args.node ∷ [] = c.in_ok-push.ensures.items ∙ ap (λ (ns : List Node). ns ++ c.args.node ∷ []) c.self.view_is in
    subst (λ (ns : List Node). IsPushed old c.args.node ns c.len-at.result) (sym new) (rw at (pushed old c.args.node))

pub returns-clause-kept : goal.returns-clause-kept
returns-clause-kept c =
    let old = c.args.self.now in
    let new : c.push.new.self.items ≡ old ++ c.args.node ∷ [] = c.in_ok-push.ensures.items ∙ ap (λ (ns : List Node). ns ++ c.args.node ∷ []) c.self.view_is in
    subst (Extends old) (sym new) (Extends-push old c.args.node)

pub returns-clause-gated : goal.returns-clause-gated
returns-clause-gated c =
    λ gate.
    let old = c.args.self.now in
    let new : c.push.new.self.items ≡ old ++ c.args.node ∷ [] = c.in_ok-push.ensures.items ∙ ap (λ (ns : List Node). ns ++ c.args.node ∷ []) c.self.view_is in
    subst (Gated old) (sym new) (Gated-push old c.args.node gate)

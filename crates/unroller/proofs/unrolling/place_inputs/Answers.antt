use Rattle.std.proofs.Common.{◌≡◌, arith, ap, ◌∙◌, Option, Bool, get_or}
use Rattle.std.proofs.lemmas.List.{take_all, get_or_default}
use Rattle.cyc_net.specs.declared.cycle.BitLeaf.{BitLeaf}
use Rattle.cyc_net.specs.Cycles.{no_leaf}
use Rattle.unroller.specs.Setups.{or_some, reset_value}
use Rattle.unroller.proofs.StepLaws.{placed_by, placing_start, placing_end}
use Rattle.unroller.proofs.unrolling.place_inputs.Goals as goal

pub loop-at-init : goal.loop-at-init
loop-at-init c = placing_start c.args.setup.now c.args.cycle c.args.inputs.now c.args.net.now c.args.sources.now.items c.args.first c.requires.nodes c.requires.has

pub loop-at-preserved : goal.loop-at-preserved
loop-at-preserved c =
    let inputs = c.args.inputs.now in
    let i = c.loop-at.at in
    let p : BitLeaf = get_or inputs i no_leaf in
    let is : p ≡ get_or inputs i p = get_or_default inputs i no_leaf p (omega arith) in
    placed_by c.args.setup.now c.args.cycle inputs i p (omega arith) is c.requires.apart
    c.args.net.now c.loop-at.net c.input_node.new.net c.args.sources.now.items c.loop-at.sources.items c.put_node.new.table.items c.args.first c.loop-at.leaves c.in_ok-node.next c.in_ok-node.node
    c.loop-at.invariant c.input_node.ensures.kept c.in_ok-node.ensures.within c.in_ok-put_node.ensures
    c.fixed_value-fixed.result (c.fixed_value-fixed.ensures ∙ ap (λ (o : Option Bool). or_some o (reset_value c.args.setup.now.reset c.args.cycle p.bit)) (c.requires.pins i (omega arith)))
    c.in_ok-node.ensures.says

pub returns : goal.returns
returns c =
    placing_end c.args.setup.now c.args.cycle c.args.inputs.now c.loop-at.at c.args.net.now c.loop-at.net c.args.sources.now.items c.loop-at.sources.items c.args.first c.loop-at.leaves
    (omega arith) (take_all c.loop-at.at c.args.inputs.now (omega arith)) c.loop-at.invariant

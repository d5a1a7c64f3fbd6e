use Rattle.std.proofs.Common.{◌∙◌, ◌++◌, ◌-◌, ◌≤◌, ap₂, length, arith}
use Rattle.design_assembly.specs.Keepers.{keepers}
use Rattle.design_assembly.specs.Power.{power_list}
use Rattle.design_assembly.proofs.AssemblyLaws.{few, is_assembled}
use Rattle.design_assembly.proofs.assembly.assemble.Goals as goal

pub complete-requires : goal.complete-requires
complete-requires c = few c.args.scopes c.args.signals c.as_slice.result.now c.args.items c.args.left c.requires.formed c.requires.light c.as_slice.ensures

pub invariant_of-result : goal.invariant_of-result
invariant_of-result c =
    let a = c.in_ok-powerup.ensures {u = tt} in
    let items = c.args.items in
    let made = a.items ∙ ap₂ (λ s i. items ++ keepers s items i) c.as_slice.ensures c.as_slice-2.ensures in
    let values = a.values ∙ ap₂ (λ s i. power_list s items i) c.as_slice.ensures c.as_slice-2.ensures in
    let light : length c.complete.new.items - length items ≤ c.args.left = omega (arith, c.if-len-before.false, c.len.ensures, c.len-before.ensures) in
    record { kept = is_assembled c.args.scopes c.args.signals items c.complete.new.items c.args.inits.now c.in_ok-powerup.powerup c.args.left c.requires.formed c.requires.scopes c.requires.signals c.requires.light made values light }

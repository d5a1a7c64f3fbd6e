use Rattle.std.proofs.Common.{◌++◌, ◌∷◌, [], Some, option_map, ap, sym, ◌∙◌}
use Rattle.vl_generate.specs.Branches.{taken_block, arm_taken}
use Rattle.vl_generate.proofs.ArmLaws.{arm_past, arm_read}
use Rattle.vl_generate.proofs.branches.taken_at.Goals as goal

pub returns-in-None : goal.returns-in-None
returns-in-None c = sym (ap (arm_taken c.args.place.now c.args.at) (arm_past c.args.arms.now c.args.at c.in-None.ensures.lookup.3))

pub returns-in_ok-below-in-Some : goal.returns-in_ok-below-in-Some
returns-in_ok-below-in-Some c =
    let arm = arm_read c.args.arms.now c.args.at c.in-Some.arm.now c.in-Some.ensures.lookup.3.0 c.in-Some.ensures.lookup.1 in
    ap (λ at. Some (taken_block at (option_map (λ n. n.now) c.arm_label.result))) c.in_ok-below-in-Some.ensures
    ∙ ap (λ name. Some (taken_block (c.args.place.now ++ c.args.at ∷ []) name)) c.arm_label.ensures ∙ sym (ap (arm_taken c.args.place.now c.args.at) arm)

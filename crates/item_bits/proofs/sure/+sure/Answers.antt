use Rattle.std.proofs.Common.{◌≡◌, ℕ, List, take, ap, sym, subst, ◌∙◌, pos, ℤ, rules, arith}
use Rattle.std.specs.List.{list_any}
use Rattle.std.proofs.lemmas.Int.{to_z-of_z}
use Rattle.std.proofs.lemmas.Result.{on_ok_weaker}
use Rattle.std.proofs.lemmas.List.{take_all}
use mir.Val.{SFits, to_z, of_z}
use mir.Syntax.{w64}
use Rattle.design_core.specs.declared.tree.DLeft.{DLeft}
use Rattle.design_core.specs.Core.{slice, left_drives, surely_names}
use Rattle.design_core.specs.Parts.{length_at}
use Rattle.design_core.specs.Terms.{left, base_of, size_of}
use Rattle.item_bits.specs.Pieces.{Adds}
use Rattle.item_bits.proofs.AddLaws.{adds_as, adds_none}
use Rattle.item_bits.proofs.SureLaws.{left_whole_sure, left_part_sure, left_at_sure, left_concat_sure}
use Rattle.item_bits.proofs.sure.+sure.Goals as goal

pub returns-in-Whole : goal.returns-in-Whole
returns-in-Whole t c = on_ok_weaker c.add_part.result (λ done.
    adds_as c.args.all.now.items c.add_part.new.all.items (left_drives (slice (base_of c.in-Whole.base) c.in-Whole.length (pos 0) c.in-Whole.length)) (surely_names (left (length_at c.args.signals.now) c.args.left.now))
    (λ b. left_whole_sure (length_at c.args.signals.now) b c.args.left.now c.in-Whole.base c.in-Whole.length c.in-Whole.is) done) c.add_part.ensures

pub returns-in-Part : goal.returns-in-Part
returns-in-Part t c =
    let size = length_at c.args.signals.now in
    let fits : SFits w64 c.in-Part.low = search rules in
    let P : ℤ → Type 0 = λ z. Adds c.args.all.now.items c.add_part-in-Part.new.all.items (left_drives (slice (base_of c.in-Part.base) (size_of size c.in-Part.base) z c.in-Part.length)) in
    let Q : ℕ → Type 0 = λ n. Adds c.args.all.now.items c.add_part-in-Part.new.all.items (left_drives (slice (base_of c.in-Part.base) n (to_z w64 (of_z w64 c.in-Part.low)) c.in-Part.length)) in
    on_ok_weaker c.add_part-in-Part.result (λ done.
    adds_as c.args.all.now.items c.add_part-in-Part.new.all.items (left_drives (slice (base_of c.in-Part.base) (size_of size c.in-Part.base) c.in-Part.low c.in-Part.length)) (surely_names (left size c.args.left.now))
    (λ b. left_part_sure size b c.args.left.now c.in-Part.base c.in-Part.low c.in-Part.length c.in-Part.is) (subst P (to_z-of_z w64 c.in-Part.low fits) (subst Q c.size_in.ensures done))) c.add_part-in-Part.ensures

pub returns-in-At : goal.returns-in-At
returns-in-At t c = adds_none c.args.all.now.items (surely_names (left (length_at c.args.signals.now) c.args.left.now))
    (λ b. left_at_sure (length_at c.args.signals.now) b c.args.left.now c.in-At.base c.in-At.index c.in-At.offset c.in-At.down c.in-At.length c.in-At.is)

pub returns-after-loop-at : goal.returns-after-loop-at
returns-after-loop-at t c =
    let size = length_at c.args.signals.now in
    let P : List DLeft → Type 0 = λ ls. Adds c.args.all.now.items c.loop-at.all.items (λ b. list_any (λ (x : DLeft). surely_names (left size x) b) ls) in
    adds_as c.args.all.now.items c.loop-at.all.items (λ b. list_any (λ (x : DLeft). surely_names (left size x) b) c.in-Concat.parts) (surely_names (left size c.args.left.now))
    (λ b. left_concat_sure size b c.args.left.now c.in-Concat.parts c.in-Concat.is)
    (subst P (take_all c.loop-at.at c.as_slice-parts.result.now (omega (arith, c.loop-at-test.false)) ∙ c.as_slice-parts.ensures) c.loop-at.invariant)

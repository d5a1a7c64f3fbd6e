use Rattle.std.proofs.Common.{◌≡◌, ap, sym, subst, ◌∙◌, arith, get_or, true}
use Rattle.cnf_core.specs.Lit.{variable_of}
use Rattle.sat_core.specs.Places.{HasMark}
use Rattle.sat_core.specs.Rests.{has_variable}
use Rattle.sat_core.proofs.PlaceLaws.{has_at}
use Rattle.sat_core.proofs.TraceLaws.{flag_before, flagged_more}
use Rattle.sat_core.proofs.analysis.add_variables.Goals as goal

pub add-requires-clause-there : goal.add-requires-clause-there
add-requires-clause-there c =
    let v : c.variable.result ≡ variable_of c.lit-item.result = c.variable.ensures.value in
    let is : c.variable.result ≡ variable_of (get_or c.args.clause.now c.loop-lit.lit-index c.lit-item.result) = v ∙ ap variable_of c.lit-item.is in
    subst (HasMark c.args.marks.now) (sym is) (c.requires.there c.loop-lit.lit-index c.lit-item.result (omega arith))

pub loop-lit-preserved : goal.loop-lit-preserved
loop-lit-preserved c =
    let old = c.args.pending.now.flags.items in
    let mid = c.loop-lit.pending.flags.items in
    let new = c.add.new.self.flags.items in
    let clause = c.args.clause.now in
    let i = c.loop-lit.lit-index in
    let d = c.lit-item.result in
    let v = c.variable.result in
    let inv = c.loop-lit.invariant in
    let e = c.in_ok-add.ensures in
    let is : v ≡ variable_of (get_or clause i d) = c.variable.ensures.value ∙ ap variable_of c.lit-item.is in
    let has : has_variable clause v ≡ true = ap (has_variable clause) is ∙ has_at clause i d (omega arith) in
    record {
      size = e.size ∙ inv.size;
      flags = λ x. flagged_more old mid new clause i d v x (omega arith) is (e.flags x) (inv.flags x);
      waits = λ top bound h b. e.waits top bound (inv.waits top bound h b) (λ off k s. b v has (flag_before old mid clause i v inv.flags off) k s);
    }

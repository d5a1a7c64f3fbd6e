use Rattle.std.proofs.Common.{◌≡◌, ◌+◌, take, subst, sym, ap, ◌∙◌, arith}
use Rattle.std.proofs.lemmas.Bool.{cond-true, cond-false}
use Rattle.std.proofs.lemmas.List.Sums.{fold_more}
use Rattle.cnf_core.specs.declared.lit.Lit.{Lit}
use Rattle.cnf_core.specs.declared.standing.Standing.{Standing}
use Rattle.cnf_core.specs.declared.standing.Standing.TheVariants.{Falsified}
use Rattle.cnf_core.specs.Values.{is_false, joined, meet, standing_of}
use Rattle.lrat_checker.specs.Index.{UnitFits}
use Rattle.lrat_checker.specs.Marks.{reads}
use Rattle.lrat_checker.proofs.RaiseLaws.{fits_at, joined_fits}
use Rattle.lrat_checker.proofs.stamps.standing.Goals as goal
use Rattle.lrat_checker.proofs.stamps.standing.Goals.{then-not-is_false, else-not-is_false}

pub is_false-requires-clause-occurs : goal.is_false-requires-clause-occurs
is_false-requires-clause-occurs c = fits_at c.args.variables.now c.args.clause.now c.loop-lit.lit-index c.lit-item.result c.requires.fits (omega arith) c.lit-item.is

pub loop-lit-preserved : goal.loop-lit-preserved
loop-lit-preserved c =
    let vs = c.args.variables.now in
    let a = reads vs c.args.marks.now c.args.stamp in
    let clause = c.args.clause.now in
    let i = c.loop-lit.lit-index in
    let l : Lit = c.lit-item.result in
    let s : Standing = c.loop-lit.standing in
    let inv = c.loop-lit.invariant in
    let more : meet a s l ≡ standing_of a (take (i + 1) clause) =
    ap (λ (x : Standing). meet a x l) inv.standing ∙ ap (meet a (standing_of a (take i clause))) c.lit-item.is ∙ sym (fold_more (meet a) Falsified clause i l (omega arith)) in
    elim c.if-not-is_false.branch [
      | then-not-is_false w ↦ record {
        standing = w.standing-is ∙ w.joined-standing.ensures ∙ sym (cond-false (is_false a l) s (joined s l) (sym c.is_false.ensures ∙ w.if-not-is_false.true)) ∙ more;
        fits =
            subst (UnitFits vs) (sym (w.standing-is ∙ w.joined-standing.ensures))
            (joined_fits vs s l inv.fits (fits_at vs clause i l c.requires.fits (omega arith) c.lit-item.is));
      }
      | else-not-is_false w ↦ record {
        standing = w.standing-is ∙ sym (cond-true (is_false a l) s (joined s l) (sym c.is_false.ensures ∙ w.if-not-is_false.false)) ∙ more;
        fits = subst (UnitFits vs) (sym w.standing-is) inv.fits;
      }
    ]

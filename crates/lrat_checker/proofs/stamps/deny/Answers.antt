use Rattle.std.proofs.Common.{arith, ◌≡◌, ◌+◌, ◌∷◌, sym, ap, ◌∙◌, get_or, take, drop}
use Rattle.std.specs.List.{fold}
use Rattle.std.proofs.lemmas.List.{at_drop_more}
use Rattle.std.proofs.lemmas.List.Sums.{fold_more}
use Rattle.cnf_core.specs.declared.lit.Lit.{Lit}
use Rattle.cnf_core.specs.Values.{Values, no_values, make_false}
use Rattle.lrat_checker.specs.Marks.{reads}
use Rattle.lrat_checker.proofs.MarkLaws.{reads_unused, denied_by}
use Rattle.lrat_checker.proofs.RaiseLaws.{fits_at}
use Rattle.lrat_checker.proofs.ComplementLaws.{left_to_find, left_to_find-none, left_to_find-cons}
use Rattle.lrat_checker.proofs.stamps.deny.Goals as goal

pub is_true-requires-clause-occurs : goal.is_true-requires-clause-occurs
is_true-requires-clause-occurs c = fits_at c.args.variables.now c.args.lits.now c.loop-lit.lit-index c.lit-item.result c.requires.occur (omega arith) c.lit-item.is

pub assign-requires-clause-occurs : goal.assign-requires-clause-occurs
assign-requires-clause-occurs c = fits_at c.args.variables.now c.args.lits.now c.loop-lit.lit-index c.lit-item.result c.requires.occur (omega arith) c.lit-item.is

pub loop-lit-init : goal.loop-lit-init
loop-lit-init c =
    let unused : reads c.args.variables.now c.args.marks.now c.args.stamp ≡ no_values = reads_unused c.args.variables.now c.args.marks.now c.args.stamp c.requires.positive c.requires.unused in
    record {
      values = unused;
      stamps = λ k d h. omega (arith, c.requires.unused k d h);
      rest = rw unused (left_to_find-none c.args.lits.now);
    }

pub loop-lit-preserved : goal.loop-lit-preserved
loop-lit-preserved c =
    let i = c.loop-lit.lit-index in
    let lits = c.args.lits.now in
    let l : Lit = c.lit-item.result in
    let same : l ≡ get_or lits i l = c.lit-item.is in
    let old = c.loop-lit.marks in
    let new = c.assign.new.marks in
    let s = c.args.stamp in
    let vs = c.args.variables.now in
    let step : reads vs new s ≡ make_false (reads vs old s) l = c.assign.ensures.given ∙ denied_by (reads vs old s) l in
    record {
      values = step ∙ ap (λ (a : Values). make_false a l) c.loop-lit.invariant.values
          ∙ ap (make_false (fold make_false no_values (take i lits))) same ∙ sym (fold_more make_false no_values lits i l (omega arith));
      stamps = c.assign.ensures.stamps c.loop-lit.invariant.stamps;
      rest = ap (λ (a : Values). left_to_find a (drop (i + 1) lits)) step
          ∙ sym (left_to_find-cons (reads vs old s) l (drop (i + 1) lits) (sym c.if-is_true.ensures))
          ∙ ap (λ (k : Lit). left_to_find (reads vs old s) (k ∷ drop (i + 1) lits)) same
          ∙ sym (at_drop_more (left_to_find (reads vs old s)) lits i l (omega arith))
          ∙ c.loop-lit.invariant.rest;
    }

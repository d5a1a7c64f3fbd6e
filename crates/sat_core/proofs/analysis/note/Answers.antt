use Rattle.std.proofs.Common.{◌≡◌, ◌-◌, ℕ, [], suc, List, All, get_or, subst, ◌∙◌, arith}
use Rattle.std.proofs.lemmas.Option.{get_or_from_slice_get}
use Rattle.cnf_core.specs.declared.lit.Lit.{Lit}
use Rattle.cnf_core.specs.Lit.{variable_of}
use Rattle.sat_core.specs.Places.{HasMark, AreBelow}
use Rattle.sat_core.specs.Rests.{needs}
use Rattle.sat_core.proofs.TraceLaws.{note_forced}
use Rattle.sat_core.proofs.analysis.note.Goals as goal

pub add_variables-requires-clause-there : goal.add_variables-requires-clause-there
add_variables-requires-clause-there c =
    let cs = c.args.clauses.now in
    let r : ℕ = c.args.mark.reason - 1 in
    let e : c.args.mark.reason ≡ suc r = let nz = c.if-mark-eq0.false in omega arith in
    let read : get_or cs r [] ≡ c.clause.result.now = get_or_from_slice_get cs r c.clause.result.now [] c.clause.ensures in
    subst (All (λ (l : Lit). HasMark c.args.marks.now (variable_of l))) read (c.requires.there r e)

pub returns-clause-need : goal.returns-clause-need
returns-clause-need c x =
    let cs = c.args.clauses.now in
    let r : ℕ = c.args.mark.reason - 1 in
    let read : get_or cs r [] ≡ c.clause.result.now = get_or_from_slice_get cs r c.clause.result.now [] c.clause.ensures in
    c.in_ok-add_variables.ensures.flags x
    ∙ note_forced cs (needs c.args.pending.now.flags.items) c.args.mark c.clause.result.now x c.requires.needed (λ e. let nz = c.if-mark-eq0.false in omega arith) read

pub returns-clause-waits : goal.returns-clause-waits
returns-clause-waits c top bound h b =
    let cs = c.args.clauses.now in
    let r : ℕ = c.args.mark.reason - 1 in
    let e : c.args.mark.reason ≡ suc r = let nz = c.if-mark-eq0.false in omega arith in
    let read : get_or cs r [] ≡ c.clause.result.now = get_or_from_slice_get cs r c.clause.result.now [] c.clause.ensures in
    c.in_ok-add_variables.ensures.waits top bound h (subst (λ (d : List Lit). AreBelow c.args.marks.now c.args.pending.now.flags.items d top) read (b r e))

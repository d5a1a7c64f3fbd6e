use Rattle.std.proofs.Common.{◌≡◌, ℕ, ◌<◌, ◌++◌, ◌∷◌, [], Option, Bool, None, All, length, List, get_or, set, take, slice_get, ◌+◌, sym, ap, subst, ◌∙◌, arith, length-append}
use Rattle.std.proofs.lemmas.List.{length-set, take-append-le}
use Rattle.std.proofs.lemmas.Option.{get_or_from_slice_get}
use Rattle.cnf_core.specs.Lit.{variable_of}
use Rattle.sat_core.specs.declared.trail.Mark.{Mark}
use Rattle.sat_core.proofs.JumpLaws.{undone_fresh, undone_are, undone_open}
use Rattle.sat_core.proofs.ListLaws.{get_last, all_front}
use Rattle.sat_core.proofs.trail.Trail.undo.Goals as goal

pub loop-self-preserved-in-Some : goal.loop-self-preserved-in-Some
loop-self-preserved-in-Some c =
    let i = c.loop-self.invariant in
    let m : Mark = c.in-Some.mark in
    let x : ℕ = c.variable.result in
    let xe : x ≡ variable_of m.lit = c.variable.ensures.value in
    let marks : List Mark = c.loop-self.self.marks in
    let marks' : List Mark = c.pop.new.self in
    let vs : List (Option Bool) = c.loop-self.self.values.items in
    let vs' : List (Option Bool) = set vs x None in
    let me : marks ≡ marks' ++ m ∷ [] = c.in-Some.ensures in
    let ve : vs' ≡ set vs (variable_of m.lit) None = ap (λ (n : ℕ). set vs n None) xe in
    let count : length marks ≡ length marks' + 1 = ap length me ∙ length-append marks' (m ∷ []) in
    let read : get_or marks (length marks') m ≡ m = get_or_from_slice_get marks (length marks') m m (ap (λ (ms : List Mark). slice_get ms (length marks')) me ∙ get_last marks' m) in
    let lt : variable_of m.lit < length vs = subst (λ (k : Mark). variable_of k.lit < length vs) read (i.fit (length marks') m (omega arith)) in
    let size : length vs' ≡ length vs = length-set vs x None in
    record {
      marks = sym (ap (take c.args.cut) me ∙ take-append-le c.args.cut marks' (m ∷ []) (omega arith)) ∙ i.marks;
      values = undone_are marks marks' m vs vs' me ve lt i.values i.fresh;
      fresh = undone_fresh marks marks' m vs vs' me ve lt i.values i.fresh;
      fit = subst (λ (n : ℕ). All (λ k. variable_of k.lit < n) marks') (sym size)
          (all_front (λ k. variable_of k.lit < length vs) marks' (m ∷ []) (subst (All (λ k. variable_of k.lit < length vs)) me i.fit));
      size = size ∙ i.size;
      open_are = omega (arith, undone_open marks marks' m vs vs' me ve lt i.values i.fresh, i.open_are);
      next = i.next;
    }

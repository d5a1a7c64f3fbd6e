use Rattle.std.proofs.Common.{◌≡◌, ◌+◌, ◌≤◌, ◌<◌, ℕ, false, List, Bool, length, get_or, set, take, reverse, sym, ap, subst, ◌∙◌, arith}
use Rattle.std.proofs.lemmas.List.{length-set}
use Rattle.std.specs.BinaryHeap.{heap_items}
use Rattle.cnf_core.specs.Lit.{variable_of}
use Rattle.sat_core.specs.declared.trail.Mark.{Mark}
use Rattle.sat_core.specs.Places.{StandsAt, IsPending, IsNewest, IsClear}
use Rattle.sat_core.specs.Rests.{Rests, needs, rests, after_rests}
use Rattle.sat_core.proofs.PendingLaws.{finished, rest_is_below}
use Rattle.sat_core.proofs.PlaceLaws.{fresh_before, rest_marked, stands_by}
use Rattle.sat_core.proofs.TraceLaws.{back_step, rests_none}
use Rattle.sat_core.proofs.analysis.walk_back.Goals as goal

pub note-requires-clause-needed : goal.note-requires-clause-needed
note-requires-clause-needed c =
    let marks = c.args.marks.now in
    let q = c.in-Some.place in
    let m : Mark = c.get-mark.result in
    let n : IsNewest marks c.newest.new.self.flags.items (heap_items c.newest.new.self.places) q c.loop-place.top = c.in-Some.ensures.newest marks c.loop-place.top c.loop-place.invariant.waits in
    let b = n.below in
    let le = c.loop-place.invariant.within in
    n.flagged (variable_of m.lit) (stands_by marks q (variable_of m.lit) m (omega arith) (ap (λ (k : Mark). variable_of k.lit) (sym c.get-mark.ensures)))

pub note-requires-clause-there : goal.note-requires-clause-there
note-requires-clause-there c r e =
    let marks = c.args.marks.now in
    let q = c.in-Some.place in
    let n : IsNewest marks c.newest.new.self.flags.items (heap_items c.newest.new.self.places) q c.loop-place.top = c.in-Some.ensures.newest marks c.loop-place.top c.loop-place.invariant.waits in
    let b = n.below in
    let le = c.loop-place.invariant.within in
    rest_marked c.args.clauses.now marks q r c.get-mark.result c.requires.below (omega arith) c.get-mark.ensures e

pub loop-place-preserved : goal.loop-place-preserved
loop-place-preserved c =
    let cs = c.args.clauses.now in
    let marks = c.args.marks.now in
    let q : ℕ = c.in-Some.place in
    let top : ℕ = c.loop-place.top in
    let m : Mark = c.get-mark.result in
    let v : ℕ = variable_of m.lit in
    let i = c.loop-place.invariant in
    let flags : List Bool = c.newest.new.self.flags.items in
    let flags' : List Bool = c.note.new.pending.flags.items in
    let waiting = heap_items c.newest.new.self.places in
    let waiting' = heap_items c.note.new.pending.places in
    let lits = c.loop-place.lits.items in
    let hints = c.loop-place.hints.items in
    let same : flags ≡ c.loop-place.pending.flags.items = c.in-Some.ensures.flags in
    let n : IsNewest marks flags waiting q top = c.in-Some.ensures.newest marks top i.waits in
    let b : q < top = n.below in
    let le : top ≤ length marks = i.within in
    let is : m ≡ get_or marks q m = c.get-mark.ensures in
    let s : StandsAt marks q v = stands_by marks q v m (omega arith) (ap (λ (k : Mark). variable_of k.lit) (sym is)) in
    let e = c.in_ok-note.ensures in
    let kept : IsPending marks flags' waiting' q (q + 1) = e.waits q (q + 1) n.pending (λ r reason. rest_is_below cs marks flags waiting q top r m c.requires.below n le is reason) in
    let fit = c.requires.marks_fit q m (omega arith) in
    let room : v < length flags' = omega (arith, fit, ap (λ (k : Mark). variable_of k.lit) is, e.size, ap length same, i.size) in
    let done : IsPending marks (set flags' v false) waiting' q q = finished marks flags' waiting' q v room s kept in
    let fe : c.finish.new.self.flags.items ≡ set flags' v false = c.finish.ensures.flags ∙ ap (λ (x : ℕ). set flags' x false) c.variable-variable.ensures.value in
    record {
      within = omega arith;
      size = ap length fe ∙ length-set flags' v false ∙ e.size ∙ ap length same ∙ i.size;
      waits = subst (λ (fs : List Bool). IsPending marks fs (heap_items c.finish.new.self.places) q q) (sym fe)
          (subst (λ (ws : List ℕ). IsPending marks (set flags' v false) ws q q) (sym c.finish.ensures.places) done);
      rest =
          ap (λ (fs : List Bool). after_rests (rests cs (needs fs) (reverse (take q marks))) (reverse c.note.new.lits.items) (reverse c.note.new.hints.items)) fe
          ∙ back_step cs marks q top m flags flags' lits c.note.new.lits.items hints c.note.new.hints.items
          (after_rests (rests cs (needs c.args.pending.now.flags.items) (reverse marks)) (reverse c.args.lits.now.items) (reverse c.args.hints.now.items))
          b le is n.between (n.flagged v s) (fresh_before marks q v n.pending.apart s) e.need e.noted
          (ap (λ (fs : List Bool). after_rests (rests cs (needs fs) (reverse (take top marks))) (reverse lits) (reverse hints)) same ∙ i.rest);
    }

pub prove-unreachable-requires : goal.prove-unreachable-requires
prove-unreachable-requires c =
    let n : IsNewest c.args.marks.now c.newest.new.self.flags.items (heap_items c.newest.new.self.places) c.in-Some.place c.loop-place.top =
    c.in-Some.ensures.newest c.args.marks.now c.loop-place.top c.loop-place.invariant.waits in
    let b = n.below in
    let le = c.if-prove.true in
    omega arith

pub returns-clause-clear : goal.returns-clause-clear
returns-clause-clear c = c.in_default.ensures.newest c.args.marks.now c.loop-place.top c.loop-place.invariant.waits

pub returns-clause-rest : goal.returns-clause-rest
returns-clause-rest c =
    let cs = c.args.clauses.now in
    let marks = c.args.marks.now in
    let i = c.loop-place.invariant in
    let clear : IsClear c.newest.new.self.flags.items (heap_items c.newest.new.self.places) = c.in_default.ensures.newest marks c.loop-place.top i.waits in
    let none : (x : ℕ) → needs c.loop-place.pending.flags.items x ≡ false = λ x. ap (λ (fs : List Bool). needs fs x) (sym c.in_default.ensures.flags) ∙ clear.none x in
    sym i.rest
    ∙ ap (λ (r : Rests). after_rests r (reverse c.loop-place.lits.items) (reverse c.loop-place.hints.items)) (rests_none cs (needs c.loop-place.pending.flags.items) (reverse (take c.loop-place.top marks)) none)

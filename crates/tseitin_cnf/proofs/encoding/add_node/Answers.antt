use Rattle.std.proofs.Common.{◌≡◌, ℕ, ◌+◌, set, sym, ap, ap₂, subst, ◌∙◌}
use Rattle.cyc_net.specs.declared.node.Node.{Node}
use Rattle.cnf_core.specs.declared.gate.Gate.{Gate}
use Rattle.cnf_core.specs.declared.gate.Gate.TheVariants.{Const, And, Xor, Mux}
use Rattle.tseitin_cnf.specs.Encoding.{with_node}
use Rattle.tseitin_cnf.specs.Tracks.{Tracks, numbers}
use Rattle.tseitin_cnf.proofs.WalkLaws.{tracks_gate}
use Rattle.tseitin_cnf.proofs.encoding.add_node.Goals as goal
use Rattle.tseitin_cnf.proofs.encoding.add_node.Goals.{in-Const, in-And, in-Xor, in-Mux}

pub returns : goal.returns
returns c = λ leaves s t.
    let xs = c.args.variables.now in
    let at = c.args.at in
    let last = c.args.last in
    let now = c.push_gate.new.clauses in
    let P : Node → Type 0 = λ x. Tracks leaves (with_node s at x) (set xs at (last + 1)) (last + 1) now in
    let done = λ (h : Gate) (e : c.match-node.gate ≡ h). tracks_gate leaves s xs last c.args.clauses.now now at c.match-node.gate h c.requires.within t e c.in_ok-push_gate.ensures in
    elim c.match-node.branch [
      | in-Const w ↦ subst P (sym w.in-Const.is) (done (Const w.in-Const.value) w.gate-is)
      | in-And w ↦ subst P (sym w.in-And.is) (done (And (s.variable w.in-And.a) (s.variable w.in-And.b)) (w.gate-is ∙ ap₂ And (t.variable w.in-And.a) (t.variable w.in-And.b)))
      | in-Xor w ↦ subst P (sym w.in-Xor.is) (done (Xor (s.variable w.in-Xor.a) (s.variable w.in-Xor.b)) (w.gate-is ∙ ap₂ Xor (t.variable w.in-Xor.a) (t.variable w.in-Xor.b)))
      | in-Mux w ↦ subst P (sym w.in-Mux.is) (done (Mux (s.variable w.in-Mux.c) (s.variable w.in-Mux.a) (s.variable w.in-Mux.b))
          (w.gate-is ∙ ap (λ (k : ℕ). Mux k (numbers xs w.in-Mux.a) (numbers xs w.in-Mux.b)) (t.variable w.in-Mux.c) ∙ ap₂ (Mux (s.variable w.in-Mux.c)) (t.variable w.in-Mux.a) (t.variable w.in-Mux.b)))
    ]

use Rattle.std.proofs.Common.{◌≡◌, ◌+◌, ◌-◌, ◌<◌, ◌||◌, Bool, eqb, List, length, arith, sym, ap, ◌∙◌}
use Rattle.std.proofs.lemmas.List.{at_drop_all}
use Rattle.cyc_net.specs.declared.node.Node.{Node}
use Rattle.cyc_net.specs.Nets.{bit_at}
use Rattle.tseitin_cnf.specs.Encoding.{is_input}
use Rattle.tseitin_cnf.proofs.ReadLaws.{marked_step, unmarked_step, or_none, mark_before}
use Rattle.tseitin_cnf.proofs.marking.mark_below.Goals as goal

pub loop-at-init : goal.loop-at-init
loop-at-init c = record {
  within = omega arith;
  read = λ m. c.requires.alone m ∙ sym (ap (λ (b : Bool). eqb m c.args.goal || b)
      (at_drop_all (λ (xs : List Node). is_input (bit_at c.args.marks.now) c.len-at.result xs m) c.args.net.now c.len-at.result (omega arith)) ∙ or_none (eqb m c.args.goal));
}

pub loop-at-preserved-then-marks-at : goal.loop-at-preserved-then-marks-at
loop-at-preserved-then-marks-at c =
    let net = c.args.net.now in
    let n = c.loop-at.at - 1 in
    let same : n + 1 ≡ c.loop-at.at = omega arith in
    let in' : n < length net = let w = c.loop-at.invariant.within in omega arith in
    record {
      within = omega arith;
      read = marked_step net c.args.goal n c.node.result in' c.node.ensures.value c.node.ensures.reads (bit_at c.loop-at.marks) (bit_at c.mark_inputs.new.marks) c.mark_inputs.ensures c.if-marks-at.true
          (mark_before net c.args.goal n c.loop-at.at (bit_at c.loop-at.marks) same c.loop-at.invariant.read);
    }

pub loop-at-preserved : goal.loop-at-preserved
loop-at-preserved c =
    let net = c.args.net.now in
    let n = c.loop-at.at - 1 in
    let same : n + 1 ≡ c.loop-at.at = omega arith in
    let in' : n < length net = let w = c.loop-at.invariant.within in omega arith in
    record {
      within = omega arith;
      read = unmarked_step net c.args.goal n (bit_at c.loop-at.marks) in' c.if-marks-at.false
          (mark_before net c.args.goal n c.loop-at.at (bit_at c.loop-at.marks) same c.loop-at.invariant.read);
    }

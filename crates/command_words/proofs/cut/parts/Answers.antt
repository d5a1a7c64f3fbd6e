use Rattle.std.proofs.Common.{arith, ◌∙◌, ◌++◌, ap, map}
use Rattle.std.specs.Prelude.{List, ℕ}
use Rattle.command_words.proofs.CutLaws as laws
use Rattle.command_words.proofs.cut.parts.Goals as goal

pub loop-i-preserved-then-byte-at : goal.loop-i-preserved-then-byte-at
loop-i-preserved-then-byte-at c = record {
  order = omega arith;
  cut = ap (λ (n : List (List ℕ)). map (λ p. p.now) c.loop-i.parts.items ++ n) (laws.cut_moves c.args.at c.args.text.now c.loop-i.start c.loop-i.i (omega arith) c.loop-i-test.true c.if-byte-at.true) ∙ c.loop-i.invariant.cut;
}

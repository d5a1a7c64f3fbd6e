use Rattle.net_ops.proofs.FoldLaws as f
use Rattle.net_ops.proofs.words.reduce.Goals as goal

pub returns-in-And-clause-made : goal.returns-in-And-clause-made
returns-in-And-clause-made c = rw c.in-And.is (f.all_of c.args.net.now c.fold_all.new.net c.args.a.now c.fold_all.result c.one-one.result c.one-one.ensures.worth c.fold_all.ensures.made)

pub returns-in-Or-clause-made : goal.returns-in-Or-clause-made
returns-in-Or-clause-made c = rw c.in-Or.is (f.any_of c.args.net.now c.fold_all-in-Or.new.net c.args.a.now c.fold_all-in-Or.result c.zero-zero.result c.zero-zero.ensures.worth c.fold_all-in-Or.ensures.made)

pub returns-in-Xor-clause-made : goal.returns-in-Xor-clause-made
returns-in-Xor-clause-made c = rw c.in-Xor.is (f.odd_of c.args.net.now c.fold_all-in-Xor.new.net c.args.a.now c.fold_all-in-Xor.result c.zero-zero.result c.zero-zero.ensures.worth c.fold_all-in-Xor.ensures.made)

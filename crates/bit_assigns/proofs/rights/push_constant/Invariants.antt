use Rattle.std.proofs.Common.{◌≡◌, ◌++◌, map, drop}
use Rattle.bit_assigns.specs.declared.bits.Source.TheVariants as source
use Rattle.bit_assigns.proofs.rights.push_constant.Given as goal

abbrev pub invariant-loop-at : goal.invariant-loop-at
invariant-loop-at l = l.all.items ++ map source.Known (drop l.at l.bits) ≡ l.fn.all.items ++ map source.Known l.bits

use Rattle.value_domain.proofs.parts.+repeat.Given as goal

abbrev pub decreases-repeat : goal.decreases-repeat
decreases-repeat g l = l.count

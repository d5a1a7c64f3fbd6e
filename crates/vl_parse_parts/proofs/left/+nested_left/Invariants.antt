use Rattle.vl_parse_parts.proofs.left.+nested_left.Given as goal

abbrev pub decreases-nested_left : goal.decreases-nested_left
decreases-nested_left l = l.depth

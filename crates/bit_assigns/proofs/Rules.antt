-- The equations of plain sides, in one set.
use Rattle.bit_assigns.proofs.SideLaws.{plain_by_node, bits_by_node, plain-Const, plain-Signal, plain-Local, plain-Select, plain-SelectAt, plain-Unary, plain-Binary, plain-Mux, plain-Extend, plain-Concat, plain-Repeat, plain-Call, bits-Const, bits-Signal, bits-Local, bits-Select, bits-SelectAt, bits-Unary, bits-Binary, bits-Mux, bits-Extend, bits-Concat, bits-Repeat, bits-Call, plain-Whole, plain-Part, plain-At, plain-Parts, bits-Whole, bits-Part, bits-At, bits-Parts}

pub ruleset sides = (plain_by_node, bits_by_node, plain-Const, plain-Signal, plain-Local, plain-Select, plain-SelectAt, plain-Unary, plain-Binary, plain-Mux, plain-Extend, plain-Concat, plain-Repeat, plain-Call, bits-Const, bits-Signal, bits-Local, bits-Select, bits-SelectAt, bits-Unary, bits-Binary, bits-Mux, bits-Extend, bits-Concat, bits-Repeat, bits-Call, plain-Whole, plain-Part, plain-At, plain-Parts, bits-Whole, bits-Part, bits-At, bits-Parts)

use Rattle.std.proofs.Common.{◌≡◌, drop}
use Rattle.vl_names.specs.Tables.{table}
use Rattle.vl_items.specs.Declarations.{declare_tokens}
use Rattle.vl_items.proofs.declared.declare_tokens.Given as goal

abbrev pub invariant-loop-token : goal.invariant-loop-token
invariant-loop-token l = declare_tokens l.kind l.signed (table l.all) (drop l.token-index l.tokens) ≡ declare_tokens l.kind l.signed (table l.fn.before) l.tokens

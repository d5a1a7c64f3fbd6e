use Rattle.std.proofs.Common.{◌<◌, drop, length, length-drop, arith}
use Rattle.vl_parse.proofs.Turns.{refused_first, all_behind}
use Rattle.vl_parse.proofs.files.module_at.Goals as goal

pub returns-in-Err-clause-refused : goal.returns-in-Err-clause-refused
returns-in-Err-clause-refused c =
    let some : 0 < length (drop c.args.at c.args.tokens.now) = omega (arith, length-drop c.args.at c.args.tokens.now) in
    refused_first _ (drop c.args.at c.args.tokens.now) c.part_length-count.result c.in-Err.error _ c.refusal.result (all_behind c.args.tokens.now c.args.at) some
    c.part_length-count.ensures.part c.refusal.ensures c.in-Err.ensures.none

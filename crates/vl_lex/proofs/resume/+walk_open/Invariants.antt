use Rattle.std.proofs.Common.{◌≡◌, ◌-◌, ◌++◌, List, map, drop, length}
use Rattle.bits_core.specs.declared.names.File.{File}
use Rattle.vl_tree.specs.declared.faults.Code.TheVariants as code
use Rattle.vl_lex.specs.Gate.{fault_at}
use Rattle.vl_lex.specs.Lexed.{placed}
use Rattle.vl_lex.specs.Sources.{files_of}
use Rattle.vl_lex.specs.Walk.{state_view, branches_view, walked, inner_of}
use Rattle.vl_lex.specs.Paused.{open_view, walked_open}
use Rattle.vl_lex.proofs.resume.+walk_open.Given as goal

abbrev pub decreases-walk_open : goal.decreases-walk_open
decreases-walk_open l = l.outer.levels

abbrev pub invariant-loop-at : goal.invariant-loop-at
invariant-loop-at l = (more : List File) → walked l.levels (files_of l.files ++ more) (inner_of l.levels (files_of l.files ++ more)) (fault_at code.Directive l.file l.line) 0 (branches_view l.branches) (state_view l.state) (map placed (drop l.at l.tokens))
    ≡ walked_open (files_of l.files ++ more) (open_view l.fn.outer) (state_view l.fn.state)

abbrev pub decreases-loop-at : goal.decreases-loop-at
decreases-loop-at l = length l.tokens - l.at

-- What is left of a walk that stopped where a file was asked for.
use Rattle.std.specs.Prelude.{◌≡◌, ℕ, ◌-◌, Result, Ok, Err, List, [], ◌∷◌, ◌++◌, drop, map}
use Rattle.bits_core.specs.declared.names.File.{File}
use Rattle.vl_tree.specs.declared.faults.Code.TheVariants as code
use Rattle.vl_tree.specs.declared.faults.Stop.{Stop}
use Rattle.vl_lex.specs.declared.gate.Halt.{Halt}
use Rattle.vl_lex.specs.declared.gate.Halt.TheVariants as h
use Rattle.vl_lex.specs.declared.opened.Open.{Open}
use Rattle.vl_lex.specs.declared.opened.Passed.{Passed}
use Rattle.vl_lex.specs.declared.opened.Passed.TheVariants as p
use Rattle.vl_lex.specs.Lexed.{Seen, Placed, placed}
use Rattle.vl_lex.specs.Gate.{Reached, and_then, Ends, fault_at}
use Rattle.vl_lex.specs.Walk.{SState, SBranches, branches_view, walked, inner_of, walked_sources, finished}

-- an open file: the levels that are left in it, the fault of a branch that is open at its end, its branches, and its tokens that are still to be walked
pub record SOpen : Type 0 where
  pub levels : ℕ
  pub end : Halt
  pub branches : SBranches
  pub behind : List Placed

abbrev pub open_view : Open → SOpen
open_view o = record { levels = o.levels; end = fault_at code.Directive o.file o.line; branches = branches_view o.branches; behind = map placed (drop o.at o.tokens) }

-- the rest of an open file, and all that it includes
unfoldable pub walked_open : List File → SOpen → SState → Reached SState
walked_open files o s = walked o.levels files (inner_of o.levels files) o.end 0 o.branches s o.behind

-- the rests of the open files, the innermost, which is the last, first
abbrev pub resumed : List File → List SOpen → SState → Reached SState
resumed files [] s = Ok s
resumed files (o ∷ os) s = and_then (resumed files os s) (walked_open files o)

abbrev pub opens_view : List Open → List SOpen
opens_view opens = map open_view opens

-- then the named sources from a place on, and the end
unfoldable pub remaining : List File → ℕ → List SOpen → ℕ → SState → Reached (List Seen)
remaining files named opens next s = and_then (resumed files opens s) (λ n. and_then (walked_sources (named - next) files next n) finished)

-- Part of a walk over files: it comes to its end, or a file is asked for; that end, and what is left there, is the same over all longer lists of files.
abbrev pub Passes : Result Passed Stop → List File → (List File → Reached SState) → SState → Type 0
Passes (Ok p.Done) files walk n = (more : List File) → walk (files ++ more) ≡ Ok n
Passes (Ok (p.Asks name opens)) files walk n =
    (walk files ≡ Err (h.Need name.now)) × ((more : List File) → walk (files ++ more) ≡ resumed (files ++ more) (opens_view opens.items) n)
Passes (Err e) files walk n = Ends (h.Stop e) (walk files)

-- What a walk answers that goes on where it asked for a file.
use Rattle.std.specs.Prelude.{◌≡◌, ℕ, ◌-◌, Result, Ok, Err, List, ◌++◌, map}
use Rattle.bits_core.specs.declared.names.File.{File}
use Rattle.vl_tree.specs.declared.faults.Stop.{Stop}
use Rattle.vl_tree.specs.declared.faults.Stop.TheVariants as stop
use Rattle.vl_lex.specs.declared.gate.Halt.TheVariants as h
use Rattle.vl_lex.specs.declared.opened.Passed.{Passed}
use Rattle.vl_lex.specs.declared.opened.Passed.TheVariants as p
use Rattle.vl_lex.specs.declared.preprocessor.Walked.{Walked}
use Rattle.vl_lex.specs.declared.preprocessor.Walked.TheVariants as w
use Rattle.vl_lex.specs.Bytes.{Text}
use Rattle.vl_lex.specs.Lexed.{Seen, view}
use Rattle.vl_lex.specs.Gate.{Reached, and_then, Ends}
use Rattle.vl_lex.specs.Walk.{SState, walked_sources}
use Rattle.vl_lex.specs.Sources.{files_of}
use Rattle.vl_lex.specs.Paused.{opens_view, resumed}

-- What the walk answers over its files.
abbrev pub WalksTo : Result Walked Stop → Reached (List Seen) → Type 0
WalksTo (Ok (w.Tokens tokens)) reached = reached ≡ Ok (map view tokens)
WalksTo (Ok (w.Asks a)) reached = reached ≡ Err (h.Need a.name.now)
WalksTo (Err (stop.Fault f)) reached = reached ≡ Err (h.Stop (stop.Fault f))
WalksTo (Err (stop.Limit c)) reached = reached ≡ Err (h.Stop (stop.Limit c))
WalksTo (Err stop.NoMemory) reached = Unit {0}

-- Where it asks for a file, it goes on over the same files.
abbrev pub IsOver : List File → ℕ → List Text → Walked → Type 0
IsOver files named defines (w.Tokens tokens) = Unit {0}
IsOver files named defines (w.Asks a) = (files_of a.sources ≡ files) × (a.named ≡ named) × (a.defines.now ≡ defines)

-- The named files from a place on: all of them, or a file is asked for, and the walk goes on from the files that are open there and the next named one.
abbrev pub PassesNamed : Result (Passed × ℕ) Stop → List File → ℕ → ℕ → SState → SState → Type 0
PassesNamed (Ok (p.Done, k)) files named next s n = walked_sources (named - next) files next s ≡ Ok n
PassesNamed (Ok (p.Asks name opens, k)) files named next s n =
    (walked_sources (named - next) files next s ≡ Err (h.Need name.now))
    × ((more : List File) → walked_sources (named - next) (files ++ more) next s ≡ and_then (resumed (files ++ more) (opens_view opens.items) n) (walked_sources (named - k) (files ++ more) k))
PassesNamed (Err e) files named next s n = Ends (h.Stop e) (walked_sources (named - next) files next s)

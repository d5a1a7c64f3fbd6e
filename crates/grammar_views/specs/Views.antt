-- Tokens by what they say: whether a source spells them, and where they break.
use Rattle.std.specs.Prelude.{◌≡◌, List, [], map}
use Rattle.vl_tree.specs.declared.tokens.Token.{Token}
use Rattle.vl_tree.specs.declared.modules.Module.{Module}
use Rattle.vl_lex.specs.Lexed.{Seen, view}
use Rattle.vl_grammar.specs.Read.{Tokens}
use Rattle.vl_rules.specs.Modules.{source, Stands}
use Rattle.vl_rules.specs.Files.{cut, Breaks}

-- modules spell tokens that say these, wherever their texts lie in memory
pub record IsSpelled (tokens : List Seen) : Type 0 where
  pub at : Tokens
  pub say : map view at ≡ tokens
  pub modules : List Module
  pub stands : Stands source modules at []

-- tokens that say these, wherever their texts lie in memory, break at one that says this: it is the first of the first part that no module spells
pub record BreaksAt (tokens : List Seen) (first : Seen) : Type 0 where
  pub at : Tokens
  pub say : map view at ≡ tokens
  pub token : Token
  pub says : view token ≡ first
  pub breaks : Breaks (cut at) token

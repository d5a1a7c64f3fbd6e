-- Words behind an expression.
use Rattle.std.specs.Prelude.{◌≢◌, ℕ, ◌==◌, Bool, false}
use Rattle.vl_tree.specs.declared.words.Word.{Word}
use Rattle.vl_tree.specs.declared.words.Word.TheVariants as word
use Rattle.vl_grammar.specs.Spells.{Ends}
use Rattle.vl_grammar.specs.declared.roles.Role.{Role}
use Rattle.vl_grammar.specs.declared.roles.Role.TheVariants as role

-- whether no expression goes on with a word of this role that binds so tightly
abbrev pub closes : Role → ℕ → Bool
closes role.Question tightness = false
closes role.LeftBracket tightness = false
closes role.LeftParen tightness = false
closes _ tightness = tightness == 0

-- no list of expressions goes on with this word
pub record EndsList (w : Word) : Type 0 where
  pub ends : Ends w
  pub no_comma : w ≢ word.Comma
  pub no_brace : w ≢ word.LeftBrace

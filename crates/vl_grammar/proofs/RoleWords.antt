-- The word of each role.
use Rattle.std.proofs.Common.{◌≡◌, ◌≤◌, refl, lit≤}
use Rattle.vl_tree.specs.declared.words.Word.{Word}
use Rattle.vl_tree.specs.declared.words.Word.TheVariants as word
use Rattle.vl_grammar.specs.declared.roles.Role.TheVariants as role
use Rattle.vl_grammar.specs.Roles.{role_of, binds}

pub is_name : (w : Word) → role_of w ≡ role.Name → w ≡ word.Name
unfolding role_of
is_name word.Name h = refl
is_name _ h = cc

pub is_system : (w : Word) → role_of w ≡ role.System → w ≡ word.System
unfolding role_of
is_system word.System h = refl
is_system _ h = cc

pub is_left_paren : (w : Word) → role_of w ≡ role.LeftParen → w ≡ word.LeftParen
unfolding role_of
is_left_paren word.LeftParen h = refl
is_left_paren _ h = cc

pub is_left_bracket : (w : Word) → role_of w ≡ role.LeftBracket → w ≡ word.LeftBracket
unfolding role_of
is_left_bracket word.LeftBracket h = refl
is_left_bracket _ h = cc

pub is_right_bracket : (w : Word) → role_of w ≡ role.RightBracket → w ≡ word.RightBracket
unfolding role_of
is_right_bracket word.RightBracket h = refl
is_right_bracket _ h = cc

pub is_left_brace : (w : Word) → role_of w ≡ role.LeftBrace → w ≡ word.LeftBrace
unfolding role_of
is_left_brace word.LeftBrace h = refl
is_left_brace _ h = cc

pub is_colon : (w : Word) → role_of w ≡ role.Colon → w ≡ word.Colon
unfolding role_of
is_colon word.Colon h = refl
is_colon _ h = cc

pub is_plus_colon : (w : Word) → role_of w ≡ role.PlusColon → w ≡ word.PlusColon
unfolding role_of
is_plus_colon word.PlusColon h = refl
is_plus_colon _ h = cc

pub is_minus_colon : (w : Word) → role_of w ≡ role.MinusColon → w ≡ word.MinusColon
unfolding role_of
is_minus_colon word.MinusColon h = refl
is_minus_colon _ h = cc

pub is_question : (w : Word) → role_of w ≡ role.Question → w ≡ word.Question
unfolding role_of
is_question word.Question h = refl
is_question _ h = cc

pub binds_small : (w : Word) → binds w ≤ 11
unfolding binds
binds_small word.BarBar = lit≤ tt
binds_small _ = lit≤ tt

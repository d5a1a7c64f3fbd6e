-- An `else` goes to the nearest `if`.
use Rattle.std.proofs.Common.{◌≡◌, inl, inr, false, Option, Some, None, refl, sym, ap, ◌∙◌}
use Rattle.vl_tree.specs.declared.words.Word.TheVariants as word
use Rattle.vl_tree.specs.declared.expressions.Expr.{Expr}
use Rattle.vl_tree.specs.declared.statements.Stmt.{Stmt, out-Stmt}
use Rattle.vl_tree.specs.declared.statements.Citem.TheOpen.{Stmt-F}
use Rattle.vl_tree.specs.declared.statements.Citem.{Citem}
use Rattle.vl_tree.specs.declared.statements.Stmt.TheVariants as s
use Rattle.vl_tree.specs.Words.{next, same_word}
use Rattle.vl_grammar.specs.Read.{Tokens}
use Rattle.vl_rules.specs.Form.{Rule, Tree, Spells}
use Rattle.vl_rules.specs.Statements.{choice, otherwise}
use Rattle.vl_rules.specs.Modules.{spelled_to, Stands}

abbrev second : Stmt-F Citem Stmt → Option Stmt
second (Stmt-F.If test first other) = other
second _ = None

abbrev branch : Stmt → Option Stmt
branch x = second (out-Stmt x)

none_of : (a test : Expr) (b first : Stmt) (x : Option Stmt) → s.If a b x ≡ s.If test first None → x ≡ None
unfolding out-Stmt
none_of a test b first None h = refl
none_of a test b first (Some y) h = let e = ap branch h in cc

absent : (R : (r : Rule) → Tree r → Tokens → Tokens → Type 0) (x : Option Stmt) (ts rest : Tokens) → x ≡ None → Spells R otherwise x ts rest → same_word (next rest) word.Else ≡ false
unfolding otherwise
absent R x ts rest h (inl d) = let some : ◌≡◌ {A = Option Stmt} (Some d.0) None = d.1 ∙ h in cc
absent R x ts rest h (inr d) = sym (ap (λ z. same_word (next z) word.Else) d.1) ∙ d.2

pub takes_no_else : (test : Expr) (yes : Stmt) (ts rest : Tokens) → Stands choice (s.If test yes None) ts rest → same_word (next rest) word.Else ≡ false
unfolding choice
takes_no_else test first ts rest d = absent (spelled_to d.0) d.1.0.1 d.1.2.0 rest (none_of d.1.0.0.0 test d.1.0.0.1 first d.1.0.1 d.1.1) d.1.2.2

-- Conditionals in the tokens of a file (IEEE 1364-2005, section 19.4). A form of tokens and rest says that the tokens up to the rest are of that form.
use Rattle.std.specs.Prelude.{◌≡◌, Bool, true, false, ◌&&◌, ◌==◌, not, is_some, List, [], ◌∷◌, ◌++◌}
use Rattle.vl_lex.specs.declared.branches.Branch.{Branch}
use Rattle.vl_lex.specs.declared.directives.Directive.{Directive}
use Rattle.vl_lex.specs.declared.directives.Directive.TheVariants as d
use Rattle.vl_lex.specs.Lexed.{Placed}
use Rattle.vl_lex.specs.Macros.{Table, directive_of, directive_name, is_directive}
use Rattle.vl_lex.specs.Walk.{SBranches, is_branch_word, is_name_kind}

-- a directive of the language
abbrev pub IsDirective : Directive → Placed → Type 0
IsDirective word t = (is_directive t.token.kind ≡ true) × (directive_of (directive_name t.token) ≡ word)

-- a token that is no word of a conditional
abbrev pub IsOther : Placed → Type 0
IsOther t = (is_directive t.token.kind && is_branch_word (directive_of (directive_name t.token))) ≡ false

-- a name behind a directive, on its line
abbrev pub IsNamed : Placed → Placed → Type 0
IsNamed t n = (n.row == t.row && is_name_kind n.token.kind) ≡ true

abbrev pub is_if : Directive → Bool
is_if d.IfDef = true
is_if d.IfNdef = true
is_if _ = false

-- `ifdef` or `ifndef`, and a name
pub record IsHead (t n : Placed) : Type 0 where
  pub directive : is_directive t.token.kind ≡ true
  pub word : is_if (directive_of (directive_name t.token)) ≡ true
  pub name : IsNamed t n

abbrev pub truth : Directive → Bool → Bool
truth d.IfNdef defined = not defined
truth _ defined = defined

-- whether the branch is true that these two tokens begin
abbrev pub is_true : Table → Placed → Placed → Bool
is_true table t n = truth (directive_of (directive_name t.token)) (is_some (table n.token.text))

mutual
  -- text in which conditionals stand whole
  pub data Nested : List Placed → List Placed → Type 0 where
    nested_none : {rest : List Placed} → Nested rest rest
    nested_token : {t : Placed} {ts rest : List Placed} → IsOther t → Nested ts rest → Nested (t ∷ ts) rest
    nested_whole : {t n : Placed} {ts further behind rest : List Placed} → IsHead t n → Nested ts further → Further true further behind → Nested behind rest → Nested (t ∷ n ∷ ts) rest

  -- the further branches of a conditional, up to behind its `endif`, where the first argument says whether there may be any
  pub data Further : Bool → List Placed → List Placed → Type 0 where
    further_none : {may : Bool} {t : Placed} {rest : List Placed} → IsDirective d.EndIf t → Further may (t ∷ rest) rest
    further_elsif : {t n : Placed} {ts further rest : List Placed} → IsDirective d.ElsIf t → IsNamed t n → Nested ts further → Further true further rest → Further true (t ∷ n ∷ ts) rest
    further_else : {t : Placed} {ts further rest : List Placed} → IsDirective d.Else t → Nested ts further → Further false further rest → Further true (t ∷ ts) rest

-- From behind the head of a branch, which is true or not, to the text of the first true branch, and whether further branches may stand behind that text.
-- Where no branch is true, it is the place of the `endif`.
pub data Picks : Table → Bool → List Placed → List Placed → Bool → Type 0 where
  this_branch : {table : Table} {ts : List Placed} → Picks table true ts ts true
  elsif_branch : {table : Table} {t n : Placed} {ts inner picked : List Placed} {may : Bool}
      → Nested ts (t ∷ n ∷ inner) → IsDirective d.ElsIf t → IsNamed t n → Picks table (is_some (table n.token.text)) inner picked may → Picks table false ts picked may
  else_branch : {table : Table} {t : Placed} {ts inner : List Placed} → Nested ts (t ∷ inner) → IsDirective d.Else t → Picks table false ts inner false
  no_branch : {table : Table} {t : Placed} {ts rest : List Placed} → Nested ts (t ∷ rest) → IsDirective d.EndIf t → Picks table false ts (t ∷ rest) true

-- the text of the first true branch, its further branches, and whether there may be some
pub record Picked (table : Table) (cond : Bool) (ts rest : List Placed) : Type 0 where
  pub text : List Placed
  pub further : List Placed
  pub may : Bool
  pub picks : Picks table cond ts text may
  pub nested : Nested text further
  pub ends : Further may further rest

-- text that is kept
abbrev pub kept_text : List Branch → SBranches
kept_text stack = record { stack = stack; active = true }

-- the text of the first true branch of a conditional in text that is kept
abbrev pub true_branch : List Branch → Bool → SBranches
true_branch stack may = record { stack = stack ++ (record { outer = true; seen = true; last = not may }) ∷ []; active = true }

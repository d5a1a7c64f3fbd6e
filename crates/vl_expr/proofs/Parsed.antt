-- What an answer of the reader says of the tokens between two places.
use Rattle.std.proofs.Common.{◌≡◌, ◌≢◌, ℕ, suc, ◌-◌, ◌<◌, ◌≤◌, length, take, drop, inl, inr, refl, subst, arith, Bool, true, sym, ◌∙◌, Option, Some, None, ap, List}
use Rattle.std.proofs.lemmas.Bool.{cases_lt, eqb-true}
use Rattle.std.specs.Prelude.{Result, Err, IfOk, Ok}
use Rattle.vl_tree.specs.declared.words.Word.{Word}
use Rattle.vl_tree.specs.declared.words.Word.TheVariants as word
use Rattle.vl_tree.specs.declared.expressions.Expr.{Expr}
use Rattle.vl_grammar.specs.declared.roles.Role.{Role}
use Rattle.vl_grammar.specs.declared.roles.Role.TheVariants as role
use Rattle.vl_grammar.specs.Roles.{role_of, binds}
use Rattle.vl_grammar.specs.Read.{Tokens, Outcome, expr, list, select}
use Rattle.vl_grammar.specs.Spells.{Whole, Ends, Listed, Selected}
use Rattle.vl_grammar.specs.Longest.{Stands, NoneBegins}
use Rattle.vl_grammar.proofs.Longest.{front_refused, none_empty}
use Rattle.vl_expr.specs.declared.errors.ReadError.{ReadError}
use Rattle.vl_expr.specs.declared.errors.ReadError.TheVariants.{NoMemory, Refused}
use Rattle.vl_expr.specs.Ends.{closes, EndsList}
use Rattle.vl_tree.specs.declared.expressions.Select.{Select}
use Rattle.vl_expr.specs.Gives.{Gives, IsGiven}
use Rattle.vl_tree.specs.Words.{next}
use Rattle.vl_grammar.proofs.Sound.{spelled, expr_sound, list_sound, select_sound}
use Rattle.vl_grammar.proofs.Again.{Closes, whole_again, whole_list, listed_again, selected_again}

pub error_none : {X : Type 0} (view : X → Expr × Tokens) (ts : Tokens) (at end : ℕ) (error : ReadError)
    → Gives view (Err error) (expr (suc (length (take (end - at) (drop at ts)))) 0 (take (end - at) (drop at ts)))
    → ◌≡◌ {A = Result Expr ReadError} (Err error) (Err Refused) → (t : Expr) → Stands t ts at end → ⊥
error_none view ts at end NoMemory g e t d = cc
error_none view ts at end Refused g e t d = front_refused ts at end g t d

question_role : (w : Word) → w ≡ word.Question → role_of w ≡ role.Question
unfolding role_of
question_role w h = rw h refl

bracket_role : (w : Word) → w ≡ word.LeftBracket → role_of w ≡ role.LeftBracket
unfolding role_of
bracket_role w h = rw h refl

paren_role : (w : Word) → w ≡ word.LeftParen → role_of w ≡ role.LeftParen
unfolding role_of
paren_role w h = rw h refl

ends_by_role : (w : Word) → role_of w ≢ role.Question → role_of w ≢ role.LeftBracket → role_of w ≢ role.LeftParen → binds w ≡ 0 → Ends w
ends_by_role w q b p j = record {
  joins = j;
  chooses = λ h. q (question_role w h);
  bare = record { selects = λ h. b (bracket_role w h); calls = λ h. p (paren_role w h) };
}

closes_by_role : (w : Word) (r : Role) → role_of w ≡ r → closes r (binds w) ≡ true → Ends w
closes_by_role w role.Question e h = cc
closes_by_role w role.LeftBracket e h = cc
closes_by_role w role.LeftParen e h = cc
closes_by_role w _ e h = ends_by_role w (λ k. cc) (λ k. cc) (λ k. cc) (eqb-true (binds w) 0 h)

pub closes_ends : (w : Word) (b : Bool) → b ≡ closes (role_of w) (binds w) → b ≡ true → Ends w
closes_ends w b e h = closes_by_role w (role_of w) refl (sym e ∙ h)

-- one end less to try
pub one_end_less : (ts : Tokens) (at end : ℕ) → ((t : Expr) (n : ℕ) → end < n → Stands t ts at n → ⊥) → ((t : Expr) → Stands t ts at end → ⊥)
    → (t : Expr) (n : ℕ) → end - 1 < n → Stands t ts at n → ⊥
one_end_less ts at end more here t n less d = elim (cases_lt end n) [
  | inl l ↦ more t n l d
  | inr l ↦ let is : n ≡ end = omega arith in here t (subst (λ z. Stands t ts at z) is d)
]

-- no end is left
pub no_end_left : (ts : Tokens) (at end : ℕ) → ((t : Expr) (n : ℕ) → end < n → Stands t ts at n → ⊥) → end ≤ at → NoneBegins ts at
no_end_left ts at end more le t n d = elim (cases_lt end n) [
  | inl l ↦ more t n l d
  | inr l ↦ none_empty ts at t n (omega arith) d
]

-- none begins where no token stands
pub none_behind : (ts : Tokens) (at : ℕ) → length ts ≤ at → NoneBegins ts at
none_behind ts at le t n d = none_empty ts at t n (omega (arith, d.within)) d

-- what is given spells the tokens up to those behind it
pub given_spells : {X : Type 0} (view : X → Expr × Tokens) (ts : Tokens) (f : ℕ) (r : Result X ReadError) → Gives view r (expr f 0 ts)
    → IfOk r (λ x. Whole (view x).0 ts (view x).1)
given_spells view ts f (Ok x) g = spelled f (view x).0 ts (view x).1 g
given_spells view ts f (Err error) g = tt

abbrev pair_or : Expr × Tokens → Option (Expr × Tokens) → Expr × Tokens
pair_or p (Some q) = q
pair_or p None = p

-- a tree behind which no expression goes on is the one that is given
pub only_given : {X : Type 0} (view : X → Expr × Tokens) (ts : Tokens) (f : ℕ) (r : Result X ReadError) → f ≡ suc (length ts) → Gives view r (expr f 0 ts)
    → (t : Expr) (rest : Tokens) → Whole t ts rest → Ends (next rest) → IsGiven view t rest r
only_given view ts f (Ok x) is g t rest d ends =
    let same : ◌≡◌ {A = Option (Expr × Tokens)} (Some (view x)) (Some (t, rest)) =
    sym g ∙ (ap (λ n. expr n 0 ts) is ∙ whole_again d (length ts) (omega arith) ends) in
    ap (pair_or (t, rest)) same
only_given view ts f (Err NoMemory) is g t rest d ends = tt
only_given view ts f (Err Refused) is g t rest d ends =
    let same : ◌≡◌ {A = Option (Expr × Tokens)} None (Some (t, rest)) =
    sym g ∙ (ap (λ n. expr n 0 ts) is ∙ whole_again d (length ts) (omega arith) ends) in
    cc

-- what a list spells is given
pub given_list : {X : Type 0} (view : X → List Expr × Tokens) (ts : Tokens) (f : ℕ) (r : Result X ReadError) → Gives view r (list (expr f) ts)
    → IfOk r (λ x. Listed (view x).0 ts (view x).1)
given_list view ts f (Ok x) g = list_sound (expr f) (expr_sound f) (view x).0 ts (view x).1 g
given_list view ts f (Err error) g = tt

pub given_select : {X : Type 0} (view : X → Select × Tokens) (ts : Tokens) (f : ℕ) (r : Result X ReadError) → Gives view r (select (expr f) ts)
    → IfOk r (λ x. Selected (view x).0 ts (view x).1)
given_select view ts f (Ok x) g = select_sound (expr f) (expr_sound f) (view x).0 ts (view x).1 g
given_select view ts f (Err error) g = tt

abbrev this_or : {A : Type 0} → A × Tokens → Outcome A → A × Tokens
this_or p (Some q) = q
this_or p None = p

-- the reader gives this value
is_given : {X A : Type 0} (view : X → A × Tokens) (value : A) (rest : Tokens) (r : Result X ReadError) (o : Outcome A)
    → Gives view r o → o ≡ Some (value, rest) → IsGiven view value rest r
is_given {X} {A} view value rest (Ok x) o g e =
    let same : ◌≡◌ {A = Outcome A} (Some (view x)) (Some (value, rest)) = sym g ∙ e in
    ap (this_or (value, rest)) same
is_given view value rest (Err NoMemory) o g e = tt
is_given {X} {A} view value rest (Err Refused) o g e = let same : ◌≡◌ {A = Outcome A} None (Some (value, rest)) = sym g ∙ e in cc

pub only_list : {X : Type 0} (view : X → List Expr × Tokens) (ts : Tokens) (f : ℕ) (r : Result X ReadError) → f ≡ suc (length ts) → Gives view r (list (expr f) ts)
    → (xs : List Expr) (rest : Tokens) → Listed xs ts rest → EndsList (next rest) → IsGiven view xs rest r
only_list view ts f r is g xs rest d ends =
    let closes : Closes (next rest) = record { ends = ends.ends; no_comma = ends.no_comma; no_brace = ends.no_brace } in
    is_given view xs rest r (list (expr f) ts) g
    (ap (λ n. list (expr n) ts) is ∙ whole_list (expr (suc (length ts))) xs ts rest (listed_again d (length ts) (omega arith) closes))

pub only_select : {X : Type 0} (view : X → Select × Tokens) (ts : Tokens) (f : ℕ) (r : Result X ReadError) → f ≡ suc (length ts) → Gives view r (select (expr f) ts)
    → (x : Select) (rest : Tokens) → Selected x ts rest → IsGiven view x rest r
only_select view ts f r is g x rest d =
    is_given view x rest r (select (expr f) ts) g (ap (λ n. select (expr n) ts) is ∙ selected_again d (length ts) (omega arith))

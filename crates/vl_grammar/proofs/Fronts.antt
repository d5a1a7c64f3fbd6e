-- What is behind a tree is an end of the tokens.
use Rattle.std.proofs.Common.{◌≡◌, ℕ, zero, suc, ◌+◌, ◌-◌, ◌≤◌, List, ◌∷◌, length, drop, refl, arith}
use Rattle.vl_tree.specs.declared.tokens.Token.{Token}
use Rattle.vl_tree.specs.declared.expressions.Expr.{Expr}
use Rattle.vl_tree.specs.declared.expressions.Select.{Select}
use Rattle.vl_grammar.specs.Read.{Tokens}
use Rattle.vl_grammar.specs.Spells.{Whole, plain, choice, Joined, alone, binary, Prefix, unary, itself, Primary, number, free_number, name, selected, call, system, group, concat, repeat, Listed, one, more, Selected, index, range, up, down}

-- an end of the tokens
data Ending : Tokens → Tokens → Type 0 where
  here : {ts : Tokens} → Ending ts ts
  after : {t : Token} {ts rest : Tokens} → Ending ts rest → Ending (t ∷ ts) rest

past : {ts us : Tokens} → Ending ts us → (k : Token) (vs rest : Tokens) → us ≡ k ∷ vs → Ending vs rest → Ending ts rest
past here k vs rest is e = rw is (after e)
past (after d) k vs rest is e = after (past d k vs rest is e)

then_by : {ts us : Tokens} → Ending ts us → (rest : Tokens) → Ending us rest → Ending ts rest
then_by here rest e = e
then_by (after d) rest e = after (then_by d rest e)

length_by : {ts rest : Tokens} → Ending ts rest → length rest ≤ length ts
length_by here = omega arith
length_by (after d) = omega (arith, length_by d)

drop_by : {ts rest : Tokens} → Ending ts rest → (n : ℕ) → n + length rest ≡ length ts → drop n ts ≡ rest
drop_by here zero h = refl
drop_by here (suc n) h = absurd (omega arith)
drop_by (after d) zero h = absurd (omega (arith, length_by d))
drop_by (after d) (suc n) h = drop_by d n (omega arith)

mutual
  whole_ends : {t : Expr} {ts rest : Tokens} → Whole t ts rest → Ending ts rest
  whole_ends (plain d) = joined_ends d
  whole_ends (choice c q a k b) = past (joined_ends c) _ _ _ refl (past (whole_ends a) _ _ _ refl (whole_ends b))

  joined_ends : {n : ℕ} {t : Expr} {ts rest : Tokens} → Joined n t ts rest → Ending ts rest
  joined_ends (alone d) = prefix_ends d
  joined_ends (binary _ _ _ l r) = past (joined_ends l) _ _ _ refl (joined_ends r)

  prefix_ends : {t : Expr} {ts rest : Tokens} → Prefix t ts rest → Ending ts rest
  prefix_ends (unary u d) = after (prefix_ends d)
  prefix_ends (itself d) = primary_ends d

  primary_ends : {t : Expr} {ts rest : Tokens} → Primary t ts rest → Ending ts rest
  primary_ends (number w) = after here
  primary_ends (free_number w) = after here
  primary_ends (name w) = after here
  primary_ends (selected w b d) = after (after (selected_ends d))
  primary_ends (call w a d z) = after (after (past (listed_ends d) _ _ _ refl here))
  primary_ends (system w a d z) = after (after (past (whole_ends d) _ _ _ refl here))
  primary_ends (group a d z) = after (past (whole_ends d) _ _ _ refl here)
  primary_ends (concat a d z) = after (past (listed_ends d) _ _ _ refl here)
  primary_ends (repeat a n b d y z) = after (past (whole_ends n) _ _ _ refl (past (listed_ends d) _ _ _ refl (after here)))

  listed_ends : {xs : List Expr} {ts rest : Tokens} → Listed xs ts rest → Ending ts rest
  listed_ends (one d) = whole_ends d
  listed_ends (more d k ds) = past (whole_ends d) _ _ _ refl (listed_ends ds)

  selected_ends : {x : Select} {ts rest : Tokens} → Selected x ts rest → Ending ts rest
  selected_ends (index d z) = past (whole_ends d) _ _ _ refl here
  selected_ends (range d k e z) = past (whole_ends d) _ _ _ refl (past (whole_ends e) _ _ _ refl here)
  selected_ends (up d k e z) = past (whole_ends d) _ _ _ refl (past (whole_ends e) _ _ _ refl here)
  selected_ends (down d k e z) = past (whole_ends d) _ _ _ refl (past (whole_ends e) _ _ _ refl here)

pub whole_drops : {t : Expr} {ts rest : Tokens} → Whole t ts rest → drop (length ts - length rest) ts ≡ rest
whole_drops {t} {ts} {rest} d = let e = whole_ends d in drop_by e (length ts - length rest) (omega (arith, length_by e))

-- The longest expression at a place.
use Rattle.std.proofs.Common.{◌≡◌, ℕ, suc, ◌+◌, ◌-◌, ◌<◌, ◌≤◌, [], ◌∷◌, ◌++◌, length, take, drop, Option, Some, None, inl, inr, refl, ap, sym, ◌∙◌, subst, arith, length-drop, length-append}
use Rattle.std.proofs.lemmas.Bool.{cases_lt}
use Rattle.std.proofs.lemmas.List.{take-append-drop, take_at, length-take-le}
use Rattle.vl_tree.specs.declared.tokens.Token.{Token}
use Rattle.vl_tree.specs.declared.expressions.Expr.{Expr}
use Rattle.vl_tree.specs.Words.{next}
use Rattle.vl_grammar.specs.Read.{Tokens, expr}
use Rattle.vl_grammar.specs.Spells.{Whole, Ends}
use Rattle.vl_grammar.specs.Longest.{Stands, IsLongest}
use Rattle.vl_grammar.proofs.Shrinks.{whole_shrinks}
use Rattle.vl_grammar.proofs.Cuts.{alone_law, before_law}
use Rattle.vl_grammar.proofs.Again.{whole_again, one_tree, at_end}
use Rattle.vl_grammar.proofs.Sound.{spelled}

abbrev rest_or : Tokens → Option (Expr × Tokens) → Tokens
rest_or t (Some p) = p.1
rest_or t None = t

-- a longer front of the same tokens
record Longer (xs ys us vs : Tokens) : Type 0 where
  mid : Tokens
  front : us ≡ xs ++ mid
  back : ys ≡ mid ++ vs

abbrev tail_of : Tokens → Tokens
tail_of [] = []
tail_of (x ∷ xs) = xs

abbrev head_or : Token → Tokens → Token
head_or t [] = t
head_or t (x ∷ xs) = x

longer : (xs ys us vs : Tokens) → xs ++ ys ≡ us ++ vs → length xs ≤ length us → Longer xs ys us vs
longer [] ys us vs e h = record { mid = us; front = refl; back = e }
longer (x ∷ xs) ys [] vs e h = absurd (omega arith)
longer (x ∷ xs) ys (u ∷ us) vs e h =
    let l = longer xs ys us vs (ap tail_of e) (omega arith) in
    let same : x ≡ u = ap (head_or x) e in
    record { mid = l.mid; front = ap (λ z. u ∷ z) l.front ∙ ap (λ z. z ∷ (xs ++ l.mid)) (sym same); back = l.back }

-- a front that ends where none goes on is read as a whole, so what is read with tokens behind it is no front
no_longer : (t u : Expr) (front mid back : Tokens) → Whole t front [] → Whole u (front ++ mid) [] → Ends (next (mid ++ back)) → 0 < length mid → ⊥
no_longer t u front [] back d e ends some = absurd (omega arith)
no_longer t u front (k ∷ mid) back d e ends some =
    let ts = front ++ (k ∷ mid) in
    let read = whole_again (before_law t front (k ∷ mid) d) (length ts) (omega arith) ends in
    let again = whole_again e (length ts) (omega arith) at_end in
    let same : ◌≡◌ {A = Option (Expr × Tokens)} (Some (t, k ∷ mid)) (Some (u, [])) = sym read ∙ again in
    let none : length (k ∷ mid) ≡ 0 = ap length (ap (rest_or []) same) in
    absurd (omega arith)

-- the longer of two fronts cannot be a tree where the shorter one ends
no_more : (t u : Expr) (xs ys us vs : Tokens) → Whole t xs [] → Whole u us [] → xs ++ ys ≡ us ++ vs → Ends (next ys) → length xs < length us → ⊥
no_more t u xs ys us vs d e same ends less =
    let l = longer xs ys us vs same (omega arith) in
    no_longer t u xs l.mid vs d (subst (λ z. Whole u z []) l.front e) (subst (λ z. Ends (next z)) l.back ends) (omega (arith, ap length l.front, length-append xs l.mid))

pub none_longer : (t : Expr) (ts rest : Tokens) → Whole t ts rest → Ends (next rest) → (u : Expr) (back : Tokens) → Whole u ts back → length rest ≤ length back
none_longer t ts rest d ends u back e = elim (cases_lt (length back) (length rest)) [
  | inl less ↦
      let a = alone_law t ts rest d in
      let b = alone_law u ts back e in
      absurd (no_more t u a.0 rest b.0 back a.2 b.2 (a.1 ∙ sym b.1) ends (omega (arith, less, ap length a.1, ap length b.1, length-append a.0 rest, length-append b.0 back)))
  | inr le ↦ le
]

-- what is read to an end is the tree of that front
pub front_read : (ts : Tokens) (at end : ℕ) (t : Expr) (rest : Tokens) → at ≤ end → end ≤ length ts → length rest ≡ 0
    → expr (suc (length (take (end - at) (drop at ts)))) 0 (take (end - at) (drop at ts)) ≡ Some (t, rest) → Stands t ts at end
front_read ts at end t [] order within none r =
    record { order = order; within = within; spells = spelled (suc (length (take (end - at) (drop at ts)))) t (take (end - at) (drop at ts)) [] r }
front_read ts at end t (k ∷ rest) order within none r = absurd (omega arith)

front_again : (ts : Tokens) (at end : ℕ) (t : Expr) → Stands t ts at end
    → expr (suc (length (take (end - at) (drop at ts)))) 0 (take (end - at) (drop at ts)) ≡ Some (t, [])
front_again ts at end t d = whole_again d.spells (length (take (end - at) (drop at ts))) (omega arith) at_end

pub front_refused : (ts : Tokens) (at end : ℕ) → expr (suc (length (take (end - at) (drop at ts)))) 0 (take (end - at) (drop at ts)) ≡ None
    → (t : Expr) → Stands t ts at end → ⊥
front_refused ts at end r t d = let same : ◌≡◌ {A = Option (Expr × Tokens)} None (Some (t, [])) = sym r ∙ front_again ts at end t d in cc

pub front_left : (ts : Tokens) (at end : ℕ) (u : Expr) (rest : Tokens) → 0 < length rest
    → expr (suc (length (take (end - at) (drop at ts)))) 0 (take (end - at) (drop at ts)) ≡ Some (u, rest) → (t : Expr) → Stands t ts at end → ⊥
front_left ts at end u rest some r t d =
    let same : ◌≡◌ {A = Option (Expr × Tokens)} (Some (u, rest)) (Some (t, [])) = sym r ∙ front_again ts at end t d in
    let none : length rest ≡ 0 = ap length (ap (rest_or []) same) in
    absurd (omega arith)

-- no tree spells no tokens
pub none_empty : (ts : Tokens) (at : ℕ) (t : Expr) (end : ℕ) → end ≤ at → Stands t ts at end → ⊥
none_empty ts at t end le d =
    let none : end - at ≡ 0 = omega arith in
    let d0 : Whole t (take 0 (drop at ts)) [] = subst (λ n. Whole t (take n (drop at ts)) []) none d.spells in
    let shrinks : 0 < length (take 0 (drop at ts)) = whole_shrinks d0 in
    absurd (omega (arith, length-take-le 0 (drop at ts) (omega arith)))

pub longest_by : (ts : Tokens) (at end : ℕ) (t : Expr) → Stands t ts at end → ((u : Expr) (n : ℕ) → end < n → Stands u ts at n → ⊥) → IsLongest t ts at end
longest_by ts at end t d none = record {
  stands = d;
  longest = λ u n e. elim (cases_lt end n) [ inl less ↦ absurd (none u n less e) | inr le ↦ le ];
  only = λ u e. one_tree e.spells d.spells;
}

-- what is read with none behind it that goes on is the longest
pub record Read (ts : Tokens) (at : ℕ) (t : Expr) (rest : Tokens) : Type 0 where
  pub within : length rest ≤ length ts
  pub longest : IsLongest t ts at (length ts - length rest)

whole_front : (ts : Tokens) (at n : ℕ) (u : Expr) → Stands u ts at n → Whole u (drop at ts) (drop (n - at) (drop at ts))
whole_front ts at n u d =
    subst (λ z. Whole u z (drop (n - at) (drop at ts))) (take-append-drop (n - at) (drop at ts)) (before_law u (take (n - at) (drop at ts)) (drop (n - at) (drop at ts)) d.spells)

pub longest_read : (ts : Tokens) (at : ℕ) (t : Expr) (rest : Tokens) → at ≤ length ts → expr (suc (length (drop at ts))) 0 (drop at ts) ≡ Some (t, rest) → Ends (next rest)
    → Read ts at t rest
longest_read ts at t rest le r ends =
    let all = drop at ts in
    let d : Whole t (drop at ts) rest = spelled (suc (length all)) t all rest r in
    let a = alone_law t all rest d in
    let total : length all ≡ length ts - at = length-drop at ts in
    let parts : length a.0 + length rest ≡ length all = sym (length-append a.0 rest) ∙ ap length a.1 in
    let size : length a.0 ≡ length ts - length rest - at = omega (arith, total, parts) in
    let same : a.0 ≡ take (length ts - length rest - at) (drop at ts) =
    sym (take_at a.0 rest (length ts - length rest - at) size) ∙ ap (take (length ts - length rest - at)) a.1 in
    let here : Stands t ts at (length ts - length rest) = record {
      order = omega (arith, total, parts);
      within = omega arith;
      spells = subst (λ z. Whole t z []) same a.2;
    } in
    record {
      within = omega (arith, total, parts);
      longest = longest_by ts at (length ts - length rest) t here (λ u n less e.
          absurd (omega (arith, less, e.order, e.within, total, parts, length-drop (n - at) (drop at ts), none_longer t (drop at ts) rest d ends u (drop (n - at) (drop at ts)) (whole_front ts at n u e))));
    }

-- The numbers with free bits among the tokens of an expression are those of its tree.
use Rattle.std.proofs.Common.{◌≡◌, ℕ, ◌<◌, Bool, true, false, ◌||◌, List, [], ◌∷◌, map, refl, ap, sym, ◌∙◌, arith}
use Rattle.vl_tree.specs.Words.{word_of, same_word}
use Rattle.vl_tree.specs.declared.tokens.Token.{Token}
use Rattle.vl_tree.specs.declared.words.Word.{Word}
use Rattle.vl_tree.specs.declared.words.Word.TheVariants as word
use Rattle.vl_tree.specs.declared.expressions.Select.{Select, out-Select}
use Rattle.vl_tree.specs.declared.expressions.Select.TheVariants as s
use Rattle.vl_tree.specs.declared.expressions.Expr.{Expr, out-Expr}
use Rattle.vl_tree.specs.declared.expressions.Expr.TheVariants as e
use Rattle.vl_tree.specs.declared.expressions.Expr.TheOpen.{Expr-F, Select-F}
use Rattle.vl_tree.specs.declared.expressions.Expr.TheFolds.{map-Expr, map-Select, fold_out-Expr, fold_out-Select}
use Rattle.vl_grammar.specs.Roles.{binds, is_unary}
use Rattle.vl_grammar.specs.Read.{Tokens}
use Rattle.vl_grammar.specs.Spells.{Whole, plain, choice, Joined, alone, binary, Prefix, unary, itself, Primary, number, free_number, name, selected, call, system, group, concat, repeat, Listed, one, more, Selected, index, range, up, down}
use Rattle.vl_expr.specs.FreeNumbers.{is_some_free, is_some, free_layer, free_select_layer, has_free_number, select_has_free_number, FreeNumbersAreTokens, FreeNumbersOfLists, FreeNumbersOfSelects}

abbrev layered : Expr-F Expr Select → Expr-F Bool Bool
layered = map-Expr Expr Select Bool Bool has_free_number select_has_free_number

abbrev layered_select : Select-F Expr Select → Select-F Bool Bool
layered_select = map-Select Expr Select Bool Bool has_free_number select_has_free_number

free_out : (x : Expr) → has_free_number x ≡ free_layer (layered (out-Expr x))
unfolding has_free_number select_has_free_number
free_out x = fold_out-Expr Bool Bool free_layer free_select_layer x

free_out_select : (x : Select) → select_has_free_number x ≡ free_select_layer (layered_select (out-Select x))
unfolding has_free_number select_has_free_number
free_out_select x = fold_out-Select Bool Bool free_layer free_select_layer x

free_is : (x : Expr) (l : Expr-F Expr Select) → out-Expr x ≡ l → has_free_number x ≡ free_layer (layered l)
free_is x l is = free_out x ∙ ap (λ y. free_layer (layered y)) is

free_is_select : (x : Select) (l : Select-F Expr Select) → out-Select x ≡ l → select_has_free_number x ≡ free_select_layer (layered_select l)
free_is_select x l is = free_out_select x ∙ ap (λ y. free_select_layer (layered_select y)) is

-- a token of another word is no number with free bits
skip : {w : Word} (t : Token) (ts : List Token) → word_of t ≡ w → same_word w word.FreeNumber ≡ false → is_some_free (t ∷ ts) ≡ is_some_free ts
skip t ts is differs = rw (is, differs)

found : (t : Token) (ts : List Token) → is_some_free (t ∷ ts) ≡ (has_free_number (e.Number t) || is_some_free ts)
found t ts = ap (λ v. v || is_some_free ts) (sym (free_is (e.Number t) (Expr-F.Number t) (e.outs-Number t)))

not_unary : (w : Word) → is_unary w ≡ true → same_word w word.FreeNumber ≡ false
unfolding same_word is_unary
not_unary word.FreeNumber h = cc
not_unary _ h = refl

not_binary : (w : Word) → 0 < binds w → same_word w word.FreeNumber ≡ false
unfolding same_word binds
not_binary word.FreeNumber h = absurd (omega arith)
not_binary _ h = refl

or_assoc : (a b c : Bool) → (a || (b || c)) ≡ ((a || b) || c)
or_assoc true b c = refl
or_assoc false b c = refl

or_none : (a : Bool) → a ≡ (a || false)
or_none true = refl
or_none false = refl

or_then : {x y : Bool} (a b z : Bool) → x ≡ (a || y) → y ≡ (b || z) → x ≡ ((a || b) || z)
or_then a b z p q = p ∙ ap (λ v. a || v) q ∙ or_assoc a b z

or_is : {x : Bool} (a b z : Bool) → x ≡ (a || z) → b ≡ a → x ≡ (b || z)
or_is a b z p q = p ∙ ap (λ v. v || z) (sym q)

no-Question : same_word word.Question word.FreeNumber ≡ false
unfolding same_word
no-Question = refl

no-Colon : same_word word.Colon word.FreeNumber ≡ false
unfolding same_word
no-Colon = refl

no-Number : same_word word.Number word.FreeNumber ≡ false
unfolding same_word
no-Number = refl

no-Name : same_word word.Name word.FreeNumber ≡ false
unfolding same_word
no-Name = refl

no-LeftParen : same_word word.LeftParen word.FreeNumber ≡ false
unfolding same_word
no-LeftParen = refl

no-RightParen : same_word word.RightParen word.FreeNumber ≡ false
unfolding same_word
no-RightParen = refl

no-LeftBracket : same_word word.LeftBracket word.FreeNumber ≡ false
unfolding same_word
no-LeftBracket = refl

no-RightBracket : same_word word.RightBracket word.FreeNumber ≡ false
unfolding same_word
no-RightBracket = refl

no-LeftBrace : same_word word.LeftBrace word.FreeNumber ≡ false
unfolding same_word
no-LeftBrace = refl

no-RightBrace : same_word word.RightBrace word.FreeNumber ≡ false
unfolding same_word
no-RightBrace = refl

no-System : same_word word.System word.FreeNumber ≡ false
unfolding same_word
no-System = refl

no-Comma : same_word word.Comma word.FreeNumber ≡ false
unfolding same_word
no-Comma = refl

no-PlusColon : same_word word.PlusColon word.FreeNumber ≡ false
unfolding same_word
no-PlusColon = refl

no-MinusColon : same_word word.MinusColon word.FreeNumber ≡ false
unfolding same_word
no-MinusColon = refl

mutual
  pub whole_free : {t : Expr} {ts rest : Tokens} → Whole t ts rest → is_some_free ts ≡ (has_free_number t || is_some_free rest)
  whole_free (plain d) = joined_free d
  whole_free (choice {c = c} {a = a} {b = b} {q = q} {k = k} {us = us} {vs = vs} {rest = rest} dc wq da wk db) =
      let z = is_some_free rest in
      let two = or_then (has_free_number a) (has_free_number b) z (whole_free da ∙ ap (λ v. has_free_number a || v) (skip k vs wk no-Colon)) (whole_free db) in
      let all = or_then (has_free_number c) (has_free_number a || has_free_number b) z (joined_free dc ∙ ap (λ v. has_free_number c || v) (skip q us wq no-Question)) two in
      or_is _ _ z all (free_is (e.Choice c a b) (Expr-F.Choice c a b) (e.outs-Choice c a b))

  joined_free : {n : ℕ} {t : Expr} {ts rest : Tokens} → Joined n t ts rest → is_some_free ts ≡ (has_free_number t || is_some_free rest)
  joined_free (alone d) = prefix_free d
  joined_free (binary {n = n} {p = p} {l = l} {r = r} {op = op} {us = us} {rest = rest} above below is dl dr) =
      let z = is_some_free rest in
      let tight : 0 < binds (word_of op) = omega arith in
      let two = or_then (has_free_number l) (has_free_number r) z (joined_free dl ∙ ap (λ v. has_free_number l || v) (skip op us refl (not_binary (word_of op) tight))) (joined_free dr) in
      or_is _ _ z two (free_is (e.Binary op l r) (Expr-F.Binary op l r) (e.outs-Binary op l r))

  prefix_free : {t : Expr} {ts rest : Tokens} → Prefix t ts rest → is_some_free ts ≡ (has_free_number t || is_some_free rest)
  prefix_free (unary {op = op} {x = x} {ts = ts} {rest = rest} u d) =
      or_is _ _ (is_some_free rest) (skip op ts refl (not_unary (word_of op) u) ∙ prefix_free d) (free_is (e.Unary op x) (Expr-F.Unary op x) (e.outs-Unary op x))
  prefix_free (itself d) = primary_free d

  primary_free : {t : Expr} {ts rest : Tokens} → Primary t ts rest → is_some_free ts ≡ (has_free_number t || is_some_free rest)
  primary_free (number {t = t} {rest = rest} w) = found t rest
  primary_free (free_number {t = t} {rest = rest} w) = found t rest
  primary_free (name {t = t} {rest = rest} w) =
      or_is false _ (is_some_free rest) (skip t rest w no-Name) (free_is (e.Name t []) (Expr-F.Name t []) (e.outs-Name t []))
  primary_free (selected {t = t} {b = b} {x = x} {ts = ts} {rest = rest} w o d) =
      let z = is_some_free rest in
      let one_is = or_is _ (select_has_free_number x || false) z (skip t (b ∷ ts) w no-Name ∙ skip b ts o no-LeftBracket ∙ selected_free d) (sym (or_none (select_has_free_number x))) in
      or_is _ _ z one_is (free_is (e.Name t (x ∷ [])) (Expr-F.Name t (x ∷ [])) (e.outs-Name t (x ∷ [])))
  primary_free (call {t = t} {a = a} {z = y} {xs = xs} {ts = ts} {rest = rest} w o d c) =
      let z = is_some_free rest in
      let inner = skip t (a ∷ ts) w no-Name ∙ skip a ts o no-LeftParen ∙ listed_free d ∙ ap (λ v. is_some (map has_free_number xs) || v) (skip y rest c no-RightParen) in
      or_is _ _ z inner (free_is (e.Call t xs) (Expr-F.Call t xs) (e.outs-Call t xs))
  primary_free (system {t = t} {a = a} {z = y} {x = x} {ts = ts} {rest = rest} w o d c) =
      let z = is_some_free rest in
      let inner = skip t (a ∷ ts) w no-System ∙ skip a ts o no-LeftParen ∙ whole_free d ∙ ap (λ v. has_free_number x || v) (skip y rest c no-RightParen) in
      or_is _ _ z inner (free_is (e.System t x) (Expr-F.System t x) (e.outs-System t x))
  primary_free (group {a = a} {z = y} {x = x} {ts = ts} {rest = rest} o d c) =
      let z = is_some_free rest in
      let inner = skip a ts o no-LeftParen ∙ whole_free d ∙ ap (λ v. has_free_number x || v) (skip y rest c no-RightParen) in
      or_is _ _ z inner (free_is (e.Group x) (Expr-F.Group x) (e.outs-Group x))
  primary_free (concat {a = a} {z = y} {xs = xs} {ts = ts} {rest = rest} o d c) =
      let z = is_some_free rest in
      let inner = skip a ts o no-LeftBrace ∙ listed_free d ∙ ap (λ v. is_some (map has_free_number xs) || v) (skip y rest c no-RightBrace) in
      or_is _ _ z inner (free_is (e.Concat xs) (Expr-F.Concat xs) (e.outs-Concat xs))
  primary_free (repeat {a = a} {b = b} {y = y} {z = k} {n = n} {xs = xs} {ts = ts} {us = us} {rest = rest} o dn p d c c2) =
      let z = is_some_free rest in
      let list = listed_free d ∙ ap (λ v. is_some (map has_free_number xs) || v) (skip y (k ∷ rest) c no-RightBrace ∙ skip k rest c2 no-RightBrace) in
      let count = skip a ts o no-LeftBrace ∙ whole_free dn ∙ ap (λ v. has_free_number n || v) (skip b us p no-LeftBrace) in
      or_is _ _ z (or_then (has_free_number n) (is_some (map has_free_number xs)) z count list) (free_is (e.Repeat n xs) (Expr-F.Repeat n xs) (e.outs-Repeat n xs))

  pub listed_free : {xs : List Expr} {ts rest : Tokens} → Listed xs ts rest → is_some_free ts ≡ (is_some (map has_free_number xs) || is_some_free rest)
  listed_free (one {x = x} {rest = rest} d) = or_is _ (has_free_number x || false) (is_some_free rest) (whole_free d) (sym (or_none (has_free_number x)))
  listed_free (more {x = x} {y = y} {xs = xs} {k = k} {us = us} {rest = rest} d c ds) =
      or_then (has_free_number x) (is_some (map has_free_number (y ∷ xs))) (is_some_free rest) (whole_free d ∙ ap (λ v. has_free_number x || v) (skip k us c no-Comma)) (listed_free ds)

  pub selected_free : {x : Select} {ts rest : Tokens} → Selected x ts rest → is_some_free ts ≡ (select_has_free_number x || is_some_free rest)
  selected_free (index {x = x} {z = y} {rest = rest} d c) =
      or_is _ _ (is_some_free rest) (whole_free d ∙ ap (λ v. has_free_number x || v) (skip y rest c no-RightBracket)) (free_is_select (s.Index x) (Select-F.Index x) (s.outs-Index x))
  selected_free (range {x = x} {y = y} {k = k} {z = b} {us = us} {rest = rest} d o g c) =
      let z = is_some_free rest in
      let first = whole_free d ∙ ap (λ v. has_free_number x || v) (skip k us o no-Colon) in
      let second = whole_free g ∙ ap (λ v. has_free_number y || v) (skip b rest c no-RightBracket) in
      or_is _ _ z (or_then (has_free_number x) (has_free_number y) z first second) (free_is_select (s.Range x y) (Select-F.Range x y) (s.outs-Range x y))
  selected_free (up {x = x} {y = y} {k = k} {z = b} {us = us} {rest = rest} d o g c) =
      let z = is_some_free rest in
      let first = whole_free d ∙ ap (λ v. has_free_number x || v) (skip k us o no-PlusColon) in
      let second = whole_free g ∙ ap (λ v. has_free_number y || v) (skip b rest c no-RightBracket) in
      or_is _ _ z (or_then (has_free_number x) (has_free_number y) z first second) (free_is_select (s.Up x y) (Select-F.Up x y) (s.outs-Up x y))
  selected_free (down {x = x} {y = y} {k = k} {z = b} {us = us} {rest = rest} d o g c) =
      let z = is_some_free rest in
      let first = whole_free d ∙ ap (λ v. has_free_number x || v) (skip k us o no-MinusColon) in
      let second = whole_free g ∙ ap (λ v. has_free_number y || v) (skip b rest c no-RightBracket) in
      or_is _ _ z (or_then (has_free_number x) (has_free_number y) z first second) (free_is_select (s.Down x y) (Select-F.Down x y) (s.outs-Down x y))

pub free_numbers_are_tokens : FreeNumbersAreTokens
free_numbers_are_tokens t ts rest d = whole_free d

pub free_numbers_of_lists : FreeNumbersOfLists
free_numbers_of_lists xs ts rest d = listed_free d

pub free_numbers_of_selects : FreeNumbersOfSelects
free_numbers_of_selects x ts rest d = selected_free d

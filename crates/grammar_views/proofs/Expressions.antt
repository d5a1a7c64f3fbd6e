-- What an expression spells, another one spells in tokens that say the same.
use Rattle.std.proofs.Common.{ℕ, List, [], ◌∷◌, refl, ap, sym, ◌∙◌}
use Rattle.vl_tree.specs.declared.words.Word.TheVariants as word
use Rattle.vl_tree.specs.declared.expressions.Expr.{Expr}
use Rattle.vl_tree.specs.declared.expressions.Expr.TheVariants as e
use Rattle.vl_tree.specs.declared.expressions.Select.{Select}
use Rattle.vl_tree.specs.declared.expressions.Select.TheVariants as s
use Rattle.vl_tree.specs.Words.{word_of}
use Rattle.vl_grammar.specs.Roles.{binds, is_unary}
use Rattle.vl_grammar.specs.Read.{Tokens}
use Rattle.vl_grammar.specs.Spells.{Whole, plain, choice, Joined, alone, binary, Prefix, unary, itself, Primary, number, free_number, name, selected, call, system, group, concat, repeat, Listed, one, more, Selected, index, range, up, down}
use Rattle.grammar_views.proofs.Like.{Like, word_same, of_word, led, Found, Marked, marked}

abbrev IsSome : List Expr → Type 0
IsSome [] = ⊥
IsSome (x ∷ xs) = Unit {0}

some : {xs : List Expr} {ts rest : Tokens} → Listed xs ts rest → IsSome xs
some (one d) = tt
some (more d h ds) = tt

-- an expression, a comma and a list
more_found : (us mid rest behind : Tokens) (i : Marked Whole word.Comma us mid) (ys : List Expr) → Listed ys i.behind behind → Like rest behind → Found Listed us rest
more_found us mid rest behind i [] d l = absurd (some d)
more_found us mid rest behind i (y ∷ ys) d l = record { tree = i.tree ∷ y ∷ ys; behind = behind; stands = more i.stands i.word_is d; like = l }

mutual
  pub whole_like : {x : Expr} {ts rest : Tokens} → Whole x ts rest → (us : Tokens) → Like ts us → Found Whole us rest
  whole_like (plain d) us l = let i = joined_like d us l in record { tree = i.tree; behind = i.behind; stands = plain i.stands; like = i.like }
  whole_like (choice {q = q} {k = k} {us = mid} {vs = far} c hq a hk b) us l =
      let i = marked (Joined 1) word.Question q us mid hq (joined_like c us l) in
      let j = marked Whole word.Colon k i.behind far hk (whole_like a i.behind i.like) in
      let m = whole_like b j.behind j.like in
      record { tree = e.Choice i.tree j.tree m.tree; behind = m.behind; stands = choice i.stands i.word_is j.stands j.word_is m.stands; like = m.like }

  joined_like : {n : ℕ} {x : Expr} {ts rest : Tokens} → Joined n x ts rest → (us : Tokens) → Like ts us → Found (Joined n) us rest
  joined_like (alone d) us l = let i = prefix_like d us l in record { tree = i.tree; behind = i.behind; stands = alone i.stands; like = i.like }
  joined_like (binary {p = p} {op = op} {us = mid} pos low at a b) us l =
      let i = marked (Joined p) (word_of op) op us mid refl (joined_like a us l) in
      let j = joined_like b i.behind i.like in
      record { tree = e.Binary i.mark i.tree j.tree; behind = j.behind; stands = binary pos low (ap binds i.word_is ∙ at) i.stands j.stands; like = j.like }

  prefix_like : {x : Expr} {ts rest : Tokens} → Prefix x ts rest → (us : Tokens) → Like ts us → Found Prefix us rest
  prefix_like (unary {op = op} {ts = ts} {rest = rest} h d) us l =
      led (λ z. Found Prefix z rest) op ts us l (λ o vs same k.
      let i = prefix_like d vs k in
      record { tree = e.Unary o i.tree; behind = i.behind; stands = unary (ap is_unary (sym (word_same op o same)) ∙ h) i.stands; like = i.like })
  prefix_like (itself d) us l = let i = primary_like d us l in record { tree = i.tree; behind = i.behind; stands = itself i.stands; like = i.like }

  primary_like : {x : Expr} {ts rest : Tokens} → Primary x ts rest → (us : Tokens) → Like ts us → Found Primary us rest
  primary_like (number {t = t} {rest = rest} h) us l =
      led (λ z. Found Primary z rest) t rest us l (λ u vs same k. record { tree = e.Number u; behind = vs; stands = number (of_word t u word.Number same h); like = k })
  primary_like (free_number {t = t} {rest = rest} h) us l =
      led (λ z. Found Primary z rest) t rest us l (λ u vs same k. record { tree = e.Number u; behind = vs; stands = free_number (of_word t u word.FreeNumber same h); like = k })
  primary_like (name {t = t} {rest = rest} h) us l =
      led (λ z. Found Primary z rest) t rest us l (λ u vs same k. record { tree = e.Name u []; behind = vs; stands = name (of_word t u word.Name same h); like = k })
  primary_like (selected {t = t} {b = b} {ts = ts} {rest = rest} h hb d) us l =
      led (λ z. Found Primary z rest) t (b ∷ ts) us l (λ u vs same k.
      led (λ z. Found Primary (u ∷ z) rest) b ts vs k (λ c ws same_b k.
      let i = selected_like d ws k in
      record {
        tree = e.Name u (i.tree ∷ []);
        behind = i.behind;
        stands = selected (of_word t u word.Name same h) (of_word b c word.LeftBracket same_b hb) i.stands;
        like = i.like;
      }))
  primary_like (call {t = t} {a = a} {z = z} {ts = ts} {rest = rest} h ha d hz) us l =
      led (λ z. Found Primary z rest) t (a ∷ ts) us l (λ u vs same k.
      led (λ z. Found Primary (u ∷ z) rest) a ts vs k (λ c ws same_a k.
      let i = marked Listed word.RightParen z ws rest hz (listed_like d ws k) in
      record {
        tree = e.Call u i.tree;
        behind = i.behind;
        stands = call (of_word t u word.Name same h) (of_word a c word.LeftParen same_a ha) i.stands i.word_is;
        like = i.like;
      }))
  primary_like (system {t = t} {a = a} {z = z} {ts = ts} {rest = rest} h ha d hz) us l =
      led (λ z. Found Primary z rest) t (a ∷ ts) us l (λ u vs same k.
      led (λ z. Found Primary (u ∷ z) rest) a ts vs k (λ c ws same_a k.
      let i = marked Whole word.RightParen z ws rest hz (whole_like d ws k) in
      record {
        tree = e.System u i.tree;
        behind = i.behind;
        stands = system (of_word t u word.System same h) (of_word a c word.LeftParen same_a ha) i.stands i.word_is;
        like = i.like;
      }))
  primary_like (group {a = a} {z = z} {ts = ts} {rest = rest} ha d hz) us l =
      led (λ z. Found Primary z rest) a ts us l (λ c ws same k.
      let i = marked Whole word.RightParen z ws rest hz (whole_like d ws k) in
      record { tree = e.Group i.tree; behind = i.behind; stands = group (of_word a c word.LeftParen same ha) i.stands i.word_is; like = i.like })
  primary_like (concat {a = a} {z = z} {ts = ts} {rest = rest} ha d hz) us l =
      led (λ z. Found Primary z rest) a ts us l (λ c ws same k.
      let i = marked Listed word.RightBrace z ws rest hz (listed_like d ws k) in
      record { tree = e.Concat i.tree; behind = i.behind; stands = concat (of_word a c word.LeftBrace same ha) i.stands i.word_is; like = i.like })
  primary_like (repeat {a = a} {b = b} {y = y} {z = z} {ts = ts} {us = mid} {rest = rest} ha n hb d hy hz) us l =
      led (λ z. Found Primary z rest) a ts us l (λ c ws same k.
      let i = marked Whole word.LeftBrace b ws mid hb (whole_like n ws k) in
      let j = marked Listed word.RightBrace y i.behind (z ∷ rest) hy (listed_like d i.behind i.like) in
      led (λ q. Listed j.tree i.behind (j.mark ∷ q) → Found Primary (c ∷ ws) rest) z rest j.behind j.like (λ v qs same_z o whole.
      record {
        tree = e.Repeat i.tree j.tree;
        behind = qs;
        stands = repeat (of_word a c word.LeftBrace same ha) i.stands i.word_is whole j.word_is (of_word z v word.RightBrace same_z hz);
        like = o;
      }) j.stands)

  listed_like : {xs : List Expr} {ts rest : Tokens} → Listed xs ts rest → (us : Tokens) → Like ts us → Found Listed us rest
  listed_like (one d) us l = let i = whole_like d us l in record { tree = i.tree ∷ []; behind = i.behind; stands = one i.stands; like = i.like }
  listed_like (more {k = k} {us = mid} {rest = rest} d h ds) us l =
      let i = marked Whole word.Comma k us mid h (whole_like d us l) in
      let j = listed_like ds i.behind i.like in
      more_found us mid rest j.behind i j.tree j.stands j.like

  pub selected_like : {x : Select} {ts rest : Tokens} → Selected x ts rest → (us : Tokens) → Like ts us → Found Selected us rest
  selected_like (index {z = z} {rest = rest} d h) us l =
      let i = marked Whole word.RightBracket z us rest h (whole_like d us l) in
      record { tree = s.Index i.tree; behind = i.behind; stands = index i.stands i.word_is; like = i.like }
  selected_like (range {k = k} {z = z} {us = mid} {rest = rest} d h b hz) us l =
      let i = marked Whole word.Colon k us mid h (whole_like d us l) in
      let j = marked Whole word.RightBracket z i.behind rest hz (whole_like b i.behind i.like) in
      record { tree = s.Range i.tree j.tree; behind = j.behind; stands = range i.stands i.word_is j.stands j.word_is; like = j.like }
  selected_like (up {k = k} {z = z} {us = mid} {rest = rest} d h b hz) us l =
      let i = marked Whole word.PlusColon k us mid h (whole_like d us l) in
      let j = marked Whole word.RightBracket z i.behind rest hz (whole_like b i.behind i.like) in
      record { tree = s.Up i.tree j.tree; behind = j.behind; stands = up i.stands i.word_is j.stands j.word_is; like = j.like }
  selected_like (down {k = k} {z = z} {us = mid} {rest = rest} d h b hz) us l =
      let i = marked Whole word.MinusColon k us mid h (whole_like d us l) in
      let j = marked Whole word.RightBracket z i.behind rest hz (whole_like b i.behind i.like) in
      record { tree = s.Down i.tree j.tree; behind = j.behind; stands = down i.stands i.word_is j.stands j.word_is; like = j.like }

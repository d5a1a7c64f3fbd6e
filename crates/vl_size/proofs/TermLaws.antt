-- The term of each kind of expression and of select.
use Rattle.std.proofs.Common.{◌≡◌, List, map, ap, ◌∙◌}
use Rattle.vl_tree.specs.Words.{word_of}
use Rattle.vl_tree.specs.declared.tokens.Token.{Token}
use Rattle.vl_tree.specs.declared.expressions.Select.{Select, out-Select}
use Rattle.vl_tree.specs.declared.expressions.Select.TheVariants as s
use Rattle.vl_tree.specs.declared.expressions.Expr.{Expr, out-Expr}
use Rattle.vl_tree.specs.declared.expressions.Expr.TheVariants as e
use Rattle.vl_tree.specs.declared.expressions.Expr.TheOpen.{Expr-F, Select-F}
use Rattle.vl_tree.specs.declared.expressions.Expr.TheFolds.{map-Expr, map-Select, fold_out-Expr, fold_out-Select}
use Rattle.vl_size.specs.Operators.{unary_operator, binary_operator, system_function}
use Rattle.vl_size.specs.Terms.{Term, Pick, terms, picks, name_at, term_layer, pick_layer, term, pick_term, number, name, call, system, concat, repeat, group, unary, binary, choice, index, range, up, down}

abbrev layered : Expr-F Expr Select → Expr-F Term Pick
layered = map-Expr Expr Select Term Pick term pick_term

abbrev layered_pick : Select-F Expr Select → Select-F Term Pick
layered_pick = map-Select Expr Select Term Pick term pick_term

term_out : (x : Expr) → term x ≡ term_layer (layered (out-Expr x))
unfolding term pick_term
term_out x = fold_out-Expr Term Pick term_layer pick_layer x

pick_out : (x : Select) → pick_term x ≡ pick_layer (layered_pick (out-Select x))
unfolding term pick_term
pick_out x = fold_out-Select Term Pick term_layer pick_layer x

term_is : (x : Expr) (l : Expr-F Expr Select) → out-Expr x ≡ l → term x ≡ term_layer (layered l)
term_is x l is = term_out x ∙ ap (λ y. term_layer (layered y)) is

pub term-Number : (t : Token) → term (e.Number t) ≡ number t.text.now
term-Number t = term_is (e.Number t) (Expr-F.Number t) (e.outs-Number t)

pub term-Name : (t : Token) (ps : List Select) → term (e.Name t ps) ≡ name (name_at t) (picks (map pick_term ps))
term-Name t ps = term_is (e.Name t ps) (Expr-F.Name t ps) (e.outs-Name t ps)

pub term-Call : (t : Token) (ts : List Expr) → term (e.Call t ts) ≡ call (name_at t) (terms (map term ts))
term-Call t ts = term_is (e.Call t ts) (Expr-F.Call t ts) (e.outs-Call t ts)

pub term-System : (t : Token) (a : Expr) → term (e.System t a) ≡ system (system_function t.text.now) (term a)
term-System t a = term_is (e.System t a) (Expr-F.System t a) (e.outs-System t a)

pub term-Concat : (ps : List Expr) → term (e.Concat ps) ≡ concat (terms (map term ps))
term-Concat ps = term_is (e.Concat ps) (Expr-F.Concat ps) (e.outs-Concat ps)

pub term-Repeat : (c : Expr) (ps : List Expr) → term (e.Repeat c ps) ≡ repeat (term c) (terms (map term ps))
term-Repeat c ps = term_is (e.Repeat c ps) (Expr-F.Repeat c ps) (e.outs-Repeat c ps)

pub term-Group : (a : Expr) → term (e.Group a) ≡ group (term a)
term-Group a = term_is (e.Group a) (Expr-F.Group a) (e.outs-Group a)

pub term-Unary : (t : Token) (a : Expr) → term (e.Unary t a) ≡ unary (unary_operator (word_of t)) (term a)
term-Unary t a = term_is (e.Unary t a) (Expr-F.Unary t a) (e.outs-Unary t a)

pub term-Binary : (t : Token) (a b : Expr) → term (e.Binary t a b) ≡ binary (binary_operator (word_of t)) (term a) (term b)
term-Binary t a b = term_is (e.Binary t a b) (Expr-F.Binary t a b) (e.outs-Binary t a b)

pub term-Choice : (c a b : Expr) → term (e.Choice c a b) ≡ choice (term c) (term a) (term b)
term-Choice c a b = term_is (e.Choice c a b) (Expr-F.Choice c a b) (e.outs-Choice c a b)

pub pick-Index : (a : Expr) → pick_term (s.Index a) ≡ index (term a)
pick-Index a = pick_out (s.Index a) ∙ ap (λ y. pick_layer (layered_pick y)) (s.outs-Index a)

pub pick-Range : (a b : Expr) → pick_term (s.Range a b) ≡ range (term a) (term b)
pick-Range a b = pick_out (s.Range a b) ∙ ap (λ y. pick_layer (layered_pick y)) (s.outs-Range a b)

pub pick-Up : (a b : Expr) → pick_term (s.Up a b) ≡ up (term a) (term b)
pick-Up a b = pick_out (s.Up a b) ∙ ap (λ y. pick_layer (layered_pick y)) (s.outs-Up a b)

pub pick-Down : (a b : Expr) → pick_term (s.Down a b) ≡ down (term a) (term b)
pick-Down a b = pick_out (s.Down a b) ∙ ap (λ y. pick_layer (layered_pick y)) (s.outs-Down a b)

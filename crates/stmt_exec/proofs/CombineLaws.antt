-- What each kind of expression is worth, from what its operands are worth.
use Rattle.std.proofs.Common.{◌≡◌, ℕ, zero, suc, ◌*◌, ◌<◌, ◌≤◌, Bool, true, false, List, [], ◌∷◌, ◌++◌, length, map, get_or, ap, ap₂, refl, sym, subst, ◌∙◌, ◌&&◌, arith, inl, inr, if◌then◌else◌, Some, None}
use Rattle.std.specs.Prelude.{nat_lt, ◌==◌, slice_index_or, ℤ, pos, negsuc, ◌+ℤ◌}
use Rattle.std.specs.List.{sum, sum_by}
use Rattle.std.proofs.lemmas.Int.{ints}
use Rattle.std.proofs.lemmas.Bool.{leb-true, eqb-true, ltb-true, le-ltb, cases_lt}
use Rattle.std.proofs.lemmas.List.{length-map, get_or-map, get_or_past}
use Rattle.std.proofs.lemmas.List.Sums.{sum-map}
use Rattle.bits_core.specs.Places.{bit_at, bit_at_int, selected, extended}
use Rattle.design_core.specs.declared.operators.Unary.{Unary}
use Rattle.design_core.specs.declared.operators.Unary.TheVariants as unary
use Rattle.design_core.specs.declared.operators.Binary.{Binary}
use Rattle.design_core.specs.declared.operators.Binary.TheVariants as binary
use Rattle.design_core.specs.declared.tree.DExpr.{DExpr}
use Rattle.design_core.specs.declared.tree.DNode.{out-DNode}
use Rattle.design_core.specs.declared.tree.DNode.TheVariants as node
use Rattle.design_core.specs.declared.tree.DFunction.{DFunction}
use Rattle.design_core.specs.Core.{Assignment, Term, constant, span, own, app1, app2, app3, call, bit, spot, spots, bit_in, taken, value}
use Rattle.design_core.specs.Formed.{Sized, IsFormed, is_narrow, has_length, all_lengths, unary_fits, binary_fits, sized_expr}
use Rattle.design_core.specs.Operators.{unary_value, binary_value, by_sign, chosen, repeated, lowest}
use Rattle.design_core.specs.Terms.{term, select_of, chained}
use Rattle.design_core.proofs.BoolLaws.{both_true}
use Rattle.design_core.proofs.EnvLaws.{whole_signal}
use Rattle.design_core.proofs.FormedLaws as f
use Rattle.design_core.proofs.TermLaws as t
use Rattle.tree_parts.specs.Parts.{NodeLayer, operands_of}
use Rattle.tree_parts.proofs.OperandLaws as o
use Rattle.tree_parts.proofs.PartLaws.{formed_vector}
use Rattle.value_domain.specs.declared.parts.Word.{Word}
use Rattle.value_domain.specs.Lengths.{FitsBinary, FitsUnary, binary_length, unary_length}
use Rattle.value_domain.specs.Meaning.{Meaning, Stands}
use Rattle.value_domain.specs.Words.{IsWord, Made, together}
use Rattle.value_domain.proofs.PlaceLaws.{length_selected, selected_at, same_lists_bits}
use Rattle.stmt_exec.specs.Runs.{AreValues, AreWorth, IsPlain, is_call}
use Rattle.stmt_exec.specs.State.{assignment, expr_value, size_in}
use Rattle.stmt_exec.proofs.StandingLaws.{vector_some, vector_most}

-- bits of a signal taken from a place on
module _ (σ : Assignment) (s m : ℕ) where
  length_spots : (n : ℕ) (z : ℤ) → length (spots m z n) ≡ n
  length_spots zero z = refl
  length_spots (suc n) z = ap suc (length_spots n (z +ℤ pos 1))

  taken_at : (n : ℕ) (z : ℤ) (k : ℕ) → k < n → bit_at (taken σ s (spots m z n)) k ≡ bit_in (λ j. σ (bit s j)) (spot m (z +ℤ pos k))
  taken_at zero z k l = absurd (omega (arith, l))
  taken_at (suc n) z zero l = (let e : z ≡ z +ℤ pos 0 = omega (arith, ints) in ap (λ y. bit_in (λ j. σ (bit s j)) (spot m y)) e)
  taken_at (suc n) z (suc k) l =
      taken_at n (z +ℤ pos 1) k (omega (arith, l))
      ∙ (let e : (z +ℤ pos 1) +ℤ pos k ≡ z +ℤ pos (suc k) = omega (arith, ints) in ap (λ y. bit_in (λ j. σ (bit s j)) (spot m y)) e)

  length_taken : (n : ℕ) (z : ℤ) → length (taken σ s (spots m z n)) ≡ n
  length_taken n z = length-map (spots m z n) (bit_in (λ j. σ (bit s j))) ∙ length_spots n z

  whole_at : (z : ℤ) → bit_at_int (taken σ s (spots m (pos 0) m)) z ≡ bit_in (λ j. σ (bit s j)) (spot m z)
  whole_at (negsuc k) = refl
  whole_at (pos k) = elim (cases_lt k m) [
    | inl l ↦ taken_at m (pos 0) k l ∙ (let e : pos 0 +ℤ pos k ≡ pos k = omega (arith, ints) in ap (λ y. bit_in (λ j. σ (bit s j)) (spot m y)) e)
    | inr l ↦ get_or_past (taken σ s (spots m (pos 0) m)) k false (let e = length_taken m (pos 0) in omega (arith, l, e))
        ∙ sym (ap (λ c. bit_in (λ j. σ (bit s j)) (if c then Some k else None)) (le-ltb k m l))
  ]

  -- some bits of a whole signal
  taken_selected : (z : ℤ) (n : ℕ) → taken σ s (spots m z n) ≡ selected z n (taken σ s (spots m (pos 0) m))
  taken_selected z n =
      let e = length_taken n z in
      same_lists_bits (taken σ s (spots m z n)) (selected z n (taken σ s (spots m (pos 0) m))) (e ∙ sym (length_selected z n (taken σ s (spots m (pos 0) m))))
      (λ k l. (let h : k < n = omega (arith, l, e) in taken_at n z k h ∙ sym (selected_at z n (taken σ s (spots m (pos 0) m)) k h ∙ whole_at (z +ℤ pos k))))

  span_worth : (z : ℤ) (n k : ℕ) (λs : List (List Bool)) → value (select_of z n (span s m (pos 0) k)) σ λs ≡ selected z n (taken σ s (spots m (pos 0) k))
  span_worth z n k λs = by (k == m) refl
    where
      by : (c : Bool) → (k == m) ≡ c → value (if k == m then span s m z n else app1 (selected z n) (span s m (pos 0) k)) σ λs ≡ selected z n (taken σ s (spots m (pos 0) k))
      by true e = ap (λ b. value (if b then span s m z n else app1 (selected z n) (span s m (pos 0) k)) σ λs) e
          ∙ taken_selected z n ∙ ap (λ j. selected z n (taken σ s (spots m (pos 0) j))) (sym (eqb-true k m e))
      by false e = ap (λ b. value (if b then span s m z n else app1 (selected z n) (span s m (pos 0) k)) σ λs) e

-- a select takes the bits of what its base is worth
select_worth : (x : Term) (z : ℤ) (n : ℕ) (σ : Assignment) (λs : List (List Bool)) → value (select_of z n x) σ λs ≡ selected z n (value x σ λs)
select_worth (constant v) z n σ λs = refl
select_worth (span s m (pos zero) k) z n σ λs = span_worth σ s m z n k λs
select_worth (span s m (pos (suc j)) k) z n σ λs = refl
select_worth (span s m (negsuc j) k) z n σ λs = refl
select_worth (own k) z n σ λs = refl
select_worth (app1 g a) z n σ λs = refl
select_worth (app2 g a b) z n σ λs = refl
select_worth (app3 g a b c) z n σ λs = refl
select_worth (call a b n' c d) z n σ λs = refl

-- a chain is worth what its parts are worth, the first highest
chained_worth : (size : ℕ → ℕ) (parts : List DExpr) (σ : Assignment) (λs : List (List Bool)) → value (chained (map (term size) parts)) σ λs ≡ together (map (λ (e : DExpr). value (term size e) σ λs) parts)
chained_worth size [] σ λs = refl
chained_worth size (p ∷ ps) σ λs = ap (λ xs. xs ++ value (term size p) σ λs) (chained_worth size ps σ λs)

unary_long : (op : Unary) (n a : ℕ) → unary_fits op n a ≡ true → unary_length op a ≡ n
unary_long unary.Negate n a h = sym (eqb-true n a (both_true (n == a) (is_narrow n) h).0)
unary_long unary.Invert n a h = sym (eqb-true n a h)
unary_long unary.Not n a h = sym (eqb-true n 1 h)
unary_long unary.And n a h = sym (eqb-true n 1 h)
unary_long unary.Nand n a h = sym (eqb-true n 1 h)
unary_long unary.Or n a h = sym (eqb-true n 1 h)
unary_long unary.Nor n a h = sym (eqb-true n 1 h)
unary_long unary.Xor n a h = sym (eqb-true n 1 h)
unary_long unary.Xnor n a h = sym (eqb-true n 1 h)

first : (p q r : Bool) → (p && q && r) ≡ true → p ≡ true
first p q r h = (both_true p q (both_true (p && q) r h).0).0

binary_long : (op : Binary) (n a b : ℕ) → binary_fits op n a b ≡ true → binary_length op a ≡ n
binary_long binary.Add n a b h = sym (eqb-true n a (first (n == a) (n == b) (is_narrow n) h))
binary_long binary.Sub n a b h = sym (eqb-true n a (first (n == a) (n == b) (is_narrow n) h))
binary_long binary.Mul n a b h = sym (eqb-true n a (first (n == a) (n == b) (is_narrow n) h))
binary_long binary.And n a b h = sym (eqb-true n a (both_true (n == a) (n == b) h).0)
binary_long binary.Or n a b h = sym (eqb-true n a (both_true (n == a) (n == b) h).0)
binary_long binary.Xor n a b h = sym (eqb-true n a (both_true (n == a) (n == b) h).0)
binary_long binary.Xnor n a b h = sym (eqb-true n a (both_true (n == a) (n == b) h).0)
binary_long binary.Less n a b h = sym (eqb-true n 1 (first (n == 1) (a == b) (is_narrow a) h))
binary_long binary.LessEqual n a b h = sym (eqb-true n 1 (first (n == 1) (a == b) (is_narrow a) h))
binary_long binary.Greater n a b h = sym (eqb-true n 1 (first (n == 1) (a == b) (is_narrow a) h))
binary_long binary.GreaterEqual n a b h = sym (eqb-true n 1 (first (n == 1) (a == b) (is_narrow a) h))
binary_long binary.Equal n a b h = sym (eqb-true n 1 (both_true (n == 1) (a == b) h).0)
binary_long binary.NotEqual n a b h = sym (eqb-true n 1 (both_true (n == 1) (a == b) h).0)
binary_long binary.LogicAnd n a b h = sym (eqb-true n 1 h)
binary_long binary.LogicOr n a b h = sym (eqb-true n 1 h)
binary_long binary.ShiftLeft n a b h = sym (eqb-true n a (both_true (n == a) (is_narrow b) h).0)
binary_long binary.ShiftRight n a b h = sym (eqb-true n a (both_true (n == a) (is_narrow b) h).0)
binary_long binary.ShiftRightSigned n a b h = sym (eqb-true n a (both_true (n == a) (is_narrow b) h).0)

there : (ns : List ℕ) (k n : ℕ) → has_length ns k n ≡ true → (k < length ns) × (get_or ns k 0 ≡ n)
there ns k n h = let p = both_true (nat_lt k (length ns)) (slice_index_or ns k 0 == n) h in (ltb-true k (length ns) p.0, eqb-true (slice_index_or ns k 0) n p.1)

-- the lengths of formed parts
lengths_sized : (vs : List ℕ) (parts : List DExpr) → map (λ (x : Sized). x.length) (map (sized_expr vs) parts) ≡ map (λ (e : DExpr). e.length) parts
lengths_sized vs [] = refl
lengths_sized vs (p ∷ ps) = ap₂ (λ x xs. x ∷ xs) (f.sized_length vs p) (lengths_sized vs ps)

-- what being formed says of each kind of expression
module _ (vs ls : List ℕ) (e : DExpr) (h : IsFormed vs ls e) where
  formed_as : (x : Sized) → sized_expr vs e ≡ x → x.formed ls ≡ true
  unfolding IsFormed
  formed_as x is = sym (ap (λ (y : Sized). y.formed ls) is) ∙ h

  formed_constant : (bits : List Bool) → e.node ≡ node.Const bits → length bits ≡ e.length
  formed_constant bits is = eqb-true (length bits) e.length (both_true _ _ (formed_as _ (f.sized_constant vs e bits is))).1

  formed_signal : (s : ℕ) → e.node ≡ node.Signal s → (s < length vs) × (get_or vs s 0 ≡ e.length)
  formed_signal s is = there vs s e.length (both_true _ _ (formed_as _ (f.sized_signal vs e s is))).1

  formed_local : (k : ℕ) → e.node ≡ node.Local k → (k < length ls) × (get_or ls k 0 ≡ e.length)
  formed_local k is = there ls k e.length (both_true _ _ (formed_as _ (f.sized_local vs e k is))).1

  formed_select : (a : DExpr) (low : ℤ) → e.node ≡ node.Select a low → IsFormed vs ls a
  unfolding IsFormed
  formed_select a low is = (both_true _ _ (formed_as _ (f.sized_select vs e a low is))).1

  formed_select_at : (a index : DExpr) (offset : ℤ) (down : Bool) → e.node ≡ node.SelectAt a index offset down → IsFormed vs ls a × (index.length ≤ 128)
  unfolding IsFormed
  formed_select_at a index offset down is =
      let p = both_true _ _ (both_true _ _ (formed_as _ (f.sized_select_at vs e a index offset down is))).1 in
      ((both_true _ _ p.0).0, subst (λ n. n ≤ 128) (f.sized_length vs index) (leb-true (sized_expr vs index).length 128 p.1))

  formed_unary : (op : Unary) (a : DExpr) → e.node ≡ node.Unary op a → unary_fits op e.length a.length ≡ true
  formed_unary op a is = subst (λ n. unary_fits op e.length n ≡ true) (f.sized_length vs a) (both_true _ _ (both_true _ _ (formed_as _ (f.sized_unary vs e op a is))).1).1

  formed_binary : (op : Binary) (a b : DExpr) → e.node ≡ node.Binary op a b → binary_fits op e.length a.length b.length ≡ true
  formed_binary op a b is = subst (λ n. binary_fits op e.length a.length n ≡ true) (f.sized_length vs b)
      (subst (λ n. binary_fits op e.length n (sized_expr vs b).length ≡ true) (f.sized_length vs a) (both_true _ _ (both_true _ _ (formed_as _ (f.sized_binary vs e op a b is))).1).1)

  formed_mux : (c a b : DExpr) → e.node ≡ node.Mux c a b → (a.length ≡ e.length) × (b.length ≡ e.length)
  formed_mux c a b is =
      let p = both_true _ _ (both_true _ _ (formed_as _ (f.sized_mux vs e c a b is))).1 in
      (sym (f.sized_length vs a) ∙ eqb-true (sized_expr vs a).length e.length (both_true _ _ p.0).1, sym (f.sized_length vs b) ∙ eqb-true (sized_expr vs b).length e.length p.1)

  formed_concat : (parts : List DExpr) → e.node ≡ node.Concat parts → sum (map (λ (x : DExpr). x.length) parts) ≡ e.length
  formed_concat parts is = ap sum (sym (lengths_sized vs parts)) ∙ eqb-true (all_lengths (map (sized_expr vs) parts)) e.length (both_true _ _ (both_true _ _ (formed_as _ (f.sized_concat vs e parts is))).1).1

  formed_repeat : (count : ℕ) (part : DExpr) → e.node ≡ node.Repeat count part → count * part.length ≡ e.length
  formed_repeat count part is = ap (λ n. count * n) (sym (f.sized_length vs part)) ∙ eqb-true (count * (sized_expr vs part).length) e.length (both_true _ _ (both_true _ _ (formed_as _ (f.sized_repeat vs e count part is))).1).1

  pub some_bits : 1 ≤ e.length
  some_bits = vector_some e.length (formed_vector vs ls e h)

  pub most_bits : e.length ≤ 65536
  most_bits = vector_most e.length (formed_vector vs ls e h)

-- a call is no plain expression
pub no_call : (e : DExpr) (g : DFunction) (arguments : List DExpr) → e.node ≡ node.Call g arguments → IsPlain e → ⊥
unfolding IsPlain
no_call e g arguments is h = (let x : true ≡ false = sym (ap (λ (y : NodeLayer). is_call y) (ap out-DNode is ∙ node.outs-Call g arguments)) ∙ h in cc)

module _ {S V : Type 0} (m : Meaning S V) where
  -- a word that stands for an expression
  pub record IsPart (d : S) (signals locals : List V) (a : DExpr) (w : Word V) : Type 0 where
    pub is_word : IsWord m d w
    pub long : w.length ≡ a.length
    pub reads_as : (v : ℕ → Bool) → m.reads d v w.value ≡ expr_value m d signals locals a v

  -- the words that stand for the operands
  module _ (d : S) (signals locals : List V) (e : DExpr) (words : List (Word V)) (worth : AreWorth m d d signals locals (operands_of e) words) where
    count_is : (es : List DExpr) → operands_of e ≡ es → length words ≡ length es
    count_is es is = sym (length-map words (λ (w : Word V). w.length)) ∙ ap length worth.long ∙ length-map (operands_of e) (λ (x : DExpr). x.length) ∙ ap length is

    pub word_there : {es : List DExpr} → operands_of e ≡ es → (k : ℕ) → k < length es → k < length words
    word_there {es} is k l = let n = count_is es is in omega (arith, n, l)

    pub part_at : {es : List DExpr} → operands_of e ≡ es → (k : ℕ) → k < length es → (a : DExpr) → get_or es k a ≡ a → (x w : Word V) → x ≡ get_or words k w → IsPart d signals locals a x
    part_at {es} is k l a at x w i =
        let lt : k < length words = word_there is k l in
        record {
          is_word = subst (IsWord m d) (sym i) (worth.are k w lt);
          long = ap (λ (y : Word V). y.length) i ∙ sym (get_or-map (λ (y : Word V). y.length) words k w 0 lt)
              ∙ ap (λ ns. get_or ns k 0) (worth.long ∙ ap (map (λ (y : DExpr). y.length)) is) ∙ get_or-map (λ (y : DExpr). y.length) es k a 0 l ∙ ap (λ (y : DExpr). y.length) at;
          reads_as = λ v. ap (λ (y : Word V). m.reads d v y.value) i ∙ sym (get_or-map (λ (y : Word V). m.reads d v y.value) words k w [] lt)
              ∙ ap (λ rows. get_or rows k []) (worth.stand v ∙ ap (map (λ (y : DExpr). expr_value m d signals locals y v)) is)
              ∙ get_or-map (λ (y : DExpr). expr_value m d signals locals y v) es k a [] l ∙ ap (λ (y : DExpr). expr_value m d signals locals y v) at;
        }

  -- the width of a word's value
  pub part_wide : (d : S) (signals locals : List V) (a : DExpr) (w : Word V) → IsPart d signals locals a w → m.width w.value ≡ a.length
  part_wide d signals locals a w p = p.is_word.wide ∙ p.long

  -- an expression that is a whole signal, or a local
  module _ (d : S) (signals locals : List V) (a : DExpr) (h : IsFormed (map m.width signals) (map m.width locals) a) where
    pub signal_there : (s : ℕ) → a.node ≡ node.Signal s → s < length signals
    signal_there s is = let n = length-map signals m.width in let l = (formed_signal (map m.width signals) (map m.width locals) a h s is).0 in omega (arith, n, l)

    pub local_there : (k : ℕ) → a.node ≡ node.Local k → k < length locals
    local_there k is = let n = length-map locals m.width in let l = (formed_local (map m.width signals) (map m.width locals) a h k is).0 in omega (arith, n, l)

    pub signal_value : (s : ℕ) (x : V) → a.node ≡ node.Signal s → x ≡ get_or signals s x → AreValues m d signals locals → m.is_value d x
    signal_value s x is i values = subst (m.is_value d) (sym i) (values.signals_are s x (signal_there s is))

    pub local_value : (k : ℕ) (x : V) → a.node ≡ node.Local k → x ≡ get_or locals k x → AreValues m d signals locals → m.is_value d x
    local_value k x is i values = subst (m.is_value d) (sym i) (values.locals_are k x (local_there k is))

    signal_wide : (s : ℕ) (x : V) → a.node ≡ node.Signal s → x ≡ get_or signals s x → m.width x ≡ a.length
    signal_wide s x is i = ap m.width i ∙ sym (get_or-map m.width signals s x 0 (signal_there s is)) ∙ (formed_signal (map m.width signals) (map m.width locals) a h s is).1

    local_wide : (k : ℕ) (x : V) → a.node ≡ node.Local k → x ≡ get_or locals k x → m.width x ≡ a.length
    local_wide k x is i = ap m.width i ∙ sym (get_or-map m.width locals k x 0 (local_there k is)) ∙ (formed_local (map m.width signals) (map m.width locals) a h k is).1

    module _ (law : (d : S) (v : ℕ → Bool) (x : V) → m.is_value d x → length (m.reads d v x) ≡ m.width x) where
      signal_worth : (s : ℕ) (x : V) → a.node ≡ node.Signal s → x ≡ get_or signals s x → AreValues m d signals locals → (v : ℕ → Bool) → m.reads d v x ≡ expr_value m d signals locals a v
      signal_worth s x is i values v =
          let row : get_or (map (m.reads d v) signals) s [] ≡ m.reads d v x = get_or-map (m.reads d v) signals s x [] (signal_there s is) ∙ ap (m.reads d v) (sym i) in
          sym row
          ∙ sym (whole_signal (map (m.reads d v) signals) s a.length (ap length row ∙ law d v x (signal_value s x is i values) ∙ signal_wide s x is i))
          ∙ ap (λ y. value y (assignment (map (m.reads d v) signals)) (map (m.reads d v) locals)) (sym (t.term_signal (size_in (map m.width signals)) a s is))

    local_worth : (k : ℕ) (x : V) → a.node ≡ node.Local k → x ≡ get_or locals k x → (v : ℕ → Bool) → m.reads d v x ≡ expr_value m d signals locals a v
    local_worth k x is i v = ap (m.reads d v) i ∙ sym (get_or-map (m.reads d v) locals k x [] (local_there k is))
        ∙ ap (λ y. value y (assignment (map (m.reads d v) signals)) (map (m.reads d v) locals)) (sym (t.term_local (size_in (map m.width signals)) a k is))

  -- what is made stands for the expression
  module _ (d : S) (signals locals : List V) (e : DExpr) (h : IsFormed (map m.width signals) (map m.width locals) e) where
    stands_as : (now : S) (r : V) (n : ℕ) (bits : (ℕ → Bool) → List Bool) → n ≡ e.length → ((v : ℕ → Bool) → bits v ≡ expr_value m d signals locals e v) → Stands m now r n bits
        → Stands m now r e.length (expr_value m d signals locals e)
    stands_as now r n bits w b s = record { is_one = s.is_one; wide = s.wide ∙ w; reads_as = λ v. s.reads_as v ∙ b v }

    by_term : (v : ℕ → Bool) (x : Term) → term (size_in (map m.width signals)) e ≡ x
        → value x (assignment (map (m.reads d v) signals)) (map (m.reads d v) locals) ≡ expr_value m d signals locals e v
    by_term v x is = ap (λ y. value y (assignment (map (m.reads d v) signals)) (map (m.reads d v) locals)) (sym is)

    pub made_constant : (now : S) (r : V) (bits : List Bool) → e.node ≡ node.Const bits → Stands m now r (length bits) (λ v. bits) → Stands m now r e.length (expr_value m d signals locals e)
    made_constant now r bits is s = stands_as now r (length bits) (λ v. bits) (formed_constant (map m.width signals) (map m.width locals) e h bits is)
        (λ v. by_term v (constant bits) (t.term_constant (size_in (map m.width signals)) e bits is)) s

    pub made_signal : ((d : S) (v : ℕ → Bool) (x : V) → m.is_value d x → length (m.reads d v x) ≡ m.width x) → (now : S) (r : V) (s : ℕ) (x : V) → e.node ≡ node.Signal s → x ≡ get_or signals s x
        → AreValues m d signals locals → Stands m now r (m.width x) (λ v. m.reads d v x) → Stands m now r e.length (expr_value m d signals locals e)
    made_signal law now r s x is i values st = stands_as now r (m.width x) (λ v. m.reads d v x) (signal_wide d signals locals e h s x is i) (signal_worth d signals locals e h law s x is i values) st

    pub made_local : (now : S) (r : V) (k : ℕ) (x : V) → e.node ≡ node.Local k → x ≡ get_or locals k x → Stands m now r (m.width x) (λ v. m.reads d v x) → Stands m now r e.length (expr_value m d signals locals e)
    made_local now r k x is i st = stands_as now r (m.width x) (λ v. m.reads d v x) (local_wide d signals locals e h k x is i) (local_worth d signals locals e h k x is i) st

    selected_worth : (base : DExpr) (low z : ℤ) → e.node ≡ node.Select base low → z ≡ low → (now : S) (r x : V) → ((v : ℕ → Bool) → m.reads d v x ≡ expr_value m d signals locals base v)
        → Stands m now r e.length (λ v. selected z e.length (m.reads d v x)) → Stands m now r e.length (expr_value m d signals locals e)
    selected_worth base low z is at now r x b s = stands_as now r e.length (λ v. selected z e.length (m.reads d v x)) refl
        (λ v. ap₂ (λ y bits. selected y e.length bits) at (b v)
        ∙ sym (select_worth (term (size_in (map m.width signals)) base) low e.length (assignment (map (m.reads d v) signals)) (map (m.reads d v) locals))
        ∙ by_term v (select_of low e.length (term (size_in (map m.width signals)) base)) (t.term_select (size_in (map m.width signals)) e base low is)) s

    -- the base of a select that is a signal
    pub base_formed : (base b : DExpr) (low : ℤ) → e.node ≡ node.Select base low → b ≡ base → IsFormed (map m.width signals) (map m.width locals) b
    base_formed base b low is at = subst (IsFormed (map m.width signals) (map m.width locals)) (sym at) (formed_select (map m.width signals) (map m.width locals) e h base low is)

    pub made_signal_select : ((d : S) (v : ℕ → Bool) (x : V) → m.is_value d x → length (m.reads d v x) ≡ m.width x) → (now : S) (r : V) (base b : DExpr) (low z : ℤ) (s : ℕ) (x : V)
        → e.node ≡ node.Select base low → b ≡ base → z ≡ low → b.node ≡ node.Signal s → x ≡ get_or signals s x → AreValues m d signals locals
        → Stands m now r e.length (λ v. selected z e.length (m.reads d v x)) → Stands m now r e.length (expr_value m d signals locals e)
    made_signal_select law now r base b low z s x is at to on i values st = selected_worth b low z (is ∙ ap (λ y. node.Select y low) (sym at)) to now r x
        (signal_worth d signals locals b (base_formed base b low is at) law s x on i values) st

    pub made_select : (now : S) (r : V) (base : DExpr) (low z : ℤ) (w : Word V) → e.node ≡ node.Select base low → z ≡ low → IsPart d signals locals base w
        → Stands m now r e.length (λ v. selected z e.length (m.reads d v w.value)) → Stands m now r e.length (expr_value m d signals locals e)
    made_select now r base low z w is to p st = selected_worth base low z is to now r w.value p.reads_as st

    pub made_select_at : (now : S) (r : V) (base index i : DExpr) (offset z : ℤ) (down : Bool) (w x : Word V) → e.node ≡ node.SelectAt base index offset down → i ≡ index → z ≡ offset
        → IsPart d signals locals base w → IsPart d signals locals index x
        → Stands m now r e.length (λ v. selected (lowest z down i.signed (m.reads d v x.value)) e.length (m.reads d v w.value)) → Stands m now r e.length (expr_value m d signals locals e)
    made_select_at now r base index i offset z down w x is at to p q st = stands_as now r e.length _ refl
        (λ v. ap₂ (λ (y : DExpr) n. selected (lowest n down y.signed (m.reads d v x.value)) e.length (m.reads d v w.value)) at to
        ∙ ap₂ (λ bits from. selected (lowest offset down index.signed from) e.length bits) (p.reads_as v) (q.reads_as v)
        ∙ by_term v (app2 (λ y j. selected (lowest offset down index.signed j) e.length y) (term (size_in (map m.width signals)) base) (term (size_in (map m.width signals)) index))
        (t.term_select_at (size_in (map m.width signals)) e base index offset down is)) st

    pub base_most : (base index : DExpr) (offset : ℤ) (down : Bool) (w : Word V) → e.node ≡ node.SelectAt base index offset down → IsPart d signals locals base w → m.width w.value ≤ 65536
    base_most base index offset down w is p =
        let l = most_bits (map m.width signals) (map m.width locals) base (formed_select_at (map m.width signals) (map m.width locals) e h base index offset down is).0 in
        let k = part_wide d signals locals base w p in omega (arith, l, k)

    pub index_narrow : (base index : DExpr) (offset : ℤ) (down : Bool) (x : Word V) → e.node ≡ node.SelectAt base index offset down → IsPart d signals locals index x → x.length ≤ 128
    index_narrow base index offset down x is p =
        let l = (formed_select_at (map m.width signals) (map m.width locals) e h base index offset down is).1 in
        let k = p.long in omega (arith, l, k)

    unary_fits_part : (op : Unary) (a : DExpr) (w : Word V) → e.node ≡ node.Unary op a → IsPart d signals locals a w → unary_fits op e.length (m.width w.value) ≡ true
    unary_fits_part op a w is p = subst (λ n. unary_fits op e.length n ≡ true) (sym (part_wide d signals locals a w p)) (formed_unary (map m.width signals) (map m.width locals) e h op a is)

    pub fits_unary : (op : Unary) (a : DExpr) (w : Word V) → e.node ≡ node.Unary op a → IsPart d signals locals a w → FitsUnary op (m.width w.value)
    fits_unary op a w is p =
        let k = unary_fits_part op a w is p in
        subst (λ n. unary_fits op n (m.width w.value) ≡ true) (sym (unary_long op e.length (m.width w.value) k)) k

    pub made_unary : (now : S) (r : V) (op : Unary) (a : DExpr) (w : Word V) → e.node ≡ node.Unary op a → IsPart d signals locals a w
        → Stands m now r (unary_length op (m.width w.value)) (λ v. unary_value op (m.reads d v w.value)) → Stands m now r e.length (expr_value m d signals locals e)
    made_unary now r op a w is p st = stands_as now r (unary_length op (m.width w.value)) (λ v. unary_value op (m.reads d v w.value))
        (unary_long op e.length (m.width w.value) (unary_fits_part op a w is p))
        (λ v. ap (unary_value op) (p.reads_as v) ∙ by_term v (app1 (unary_value op) (term (size_in (map m.width signals)) a)) (t.term_unary (size_in (map m.width signals)) e op a is)) st

    binary_fits_part : (op : Binary) (a b : DExpr) (w x : Word V) → e.node ≡ node.Binary op a b → IsPart d signals locals a w → IsPart d signals locals b x
        → binary_fits op e.length (m.width w.value) (m.width x.value) ≡ true
    binary_fits_part op a b w x is p q = ap₂ (binary_fits op e.length) (part_wide d signals locals a w p) (part_wide d signals locals b x q) ∙ formed_binary (map m.width signals) (map m.width locals) e h op a b is

    pub fits_binary : (op : Binary) (a b : DExpr) (w x : Word V) → e.node ≡ node.Binary op a b → IsPart d signals locals a w → IsPart d signals locals b x → FitsBinary op (m.width w.value) (m.width x.value)
    fits_binary op a b w x is p q =
        let k = binary_fits_part op a b w x is p q in
        ap (λ n. binary_fits op n (m.width w.value) (m.width x.value)) (binary_long op e.length (m.width w.value) (m.width x.value) k) ∙ k

    pub made_binary : (now : S) (r : V) (op : Binary) (a b a' b' : DExpr) (signed : Bool) (w x : Word V) → e.node ≡ node.Binary op a b → a' ≡ a → b' ≡ b → signed ≡ by_sign op e.signed a'.signed b'.signed
        → IsPart d signals locals a w → IsPart d signals locals b x
        → Stands m now r (binary_length op (m.width w.value)) (λ v. binary_value op signed (m.reads d v w.value) (m.reads d v x.value)) → Stands m now r e.length (expr_value m d signals locals e)
    made_binary now r op a b a' b' signed w x is at to by p q st = stands_as now r (binary_length op (m.width w.value)) (λ v. binary_value op signed (m.reads d v w.value) (m.reads d v x.value))
        (binary_long op e.length (m.width w.value) (m.width x.value) (binary_fits_part op a b w x is p q))
        (λ v. ap (λ k. binary_value op k (m.reads d v w.value) (m.reads d v x.value)) (by ∙ ap₂ (λ (y z : DExpr). by_sign op e.signed y.signed z.signed) at to)
        ∙ ap₂ (binary_value op (by_sign op e.signed a.signed b.signed)) (p.reads_as v) (q.reads_as v)
        ∙ by_term v (app2 (binary_value op (by_sign op e.signed a.signed b.signed)) (term (size_in (map m.width signals)) a) (term (size_in (map m.width signals)) b))
        (t.term_binary (size_in (map m.width signals)) e op a b is)) st

    pub same_branches : (k a b : DExpr) (x y : Word V) → e.node ≡ node.Mux k a b → IsPart d signals locals a x → IsPart d signals locals b y → m.width x.value ≡ m.width y.value
    same_branches k a b x y is p q =
        let n = formed_mux (map m.width signals) (map m.width locals) e h k a b is in
        part_wide d signals locals a x p ∙ n.0 ∙ sym (part_wide d signals locals b y q ∙ n.1)

    pub made_mux : (now : S) (r : V) (k a b : DExpr) (w x y : Word V) → e.node ≡ node.Mux k a b → IsPart d signals locals k w → IsPart d signals locals a x → IsPart d signals locals b y
        → Stands m now r (m.width x.value) (λ v. chosen (m.reads d v w.value) (m.reads d v x.value) (m.reads d v y.value)) → Stands m now r e.length (expr_value m d signals locals e)
    made_mux now r k a b w x y is c p q st = stands_as now r (m.width x.value) (λ v. chosen (m.reads d v w.value) (m.reads d v x.value) (m.reads d v y.value))
        (part_wide d signals locals a x p ∙ (formed_mux (map m.width signals) (map m.width locals) e h k a b is).0)
        (λ v. ap (λ i. chosen i (m.reads d v x.value) (m.reads d v y.value)) (c.reads_as v)
        ∙ ap₂ (chosen (expr_value m d signals locals k v)) (p.reads_as v) (q.reads_as v)
        ∙ by_term v (app3 chosen (term (size_in (map m.width signals)) k) (term (size_in (map m.width signals)) a) (term (size_in (map m.width signals)) b)) (t.term_mux (size_in (map m.width signals)) e k a b is)) st

    pub made_extend : (now : S) (r : V) (a : DExpr) (keeps : Bool) (w : Word V) → e.node ≡ node.Extend a keeps → IsPart d signals locals a w
        → Stands m now r e.length (λ v. extended keeps e.length (m.reads d v w.value)) → Stands m now r e.length (expr_value m d signals locals e)
    made_extend now r a keeps w is p st = stands_as now r e.length (λ v. extended keeps e.length (m.reads d v w.value)) refl
        (λ v. ap (extended keeps e.length) (p.reads_as v) ∙ by_term v (app1 (extended keeps e.length) (term (size_in (map m.width signals)) a)) (t.term_extend (size_in (map m.width signals)) e a keeps is)) st

    repeat_long : (count : ℕ) (a : DExpr) (w : Word V) → e.node ≡ node.Repeat count a → IsPart d signals locals a w → count * w.length ≡ e.length
    repeat_long count a w is p = ap (λ n. count * n) p.long ∙ formed_repeat (map m.width signals) (map m.width locals) e h count a is

    none_left : (count n : ℕ) → count * n ≡ e.length → 1 ≤ count
    none_left zero n k = let l = some_bits (map m.width signals) (map m.width locals) e h in omega (arith, k, l)
    none_left (suc j) n k = omega arith

    pub repeat_some : (count : ℕ) (a : DExpr) (w : Word V) → e.node ≡ node.Repeat count a → IsPart d signals locals a w → 1 ≤ count
    repeat_some count a w is p = none_left count w.length (repeat_long count a w is p)

    pub repeat_most : (count : ℕ) (a : DExpr) (w : Word V) → e.node ≡ node.Repeat count a → IsPart d signals locals a w → count * w.length ≤ 65536
    repeat_most count a w is p = subst (λ n. n ≤ 65536) (sym (repeat_long count a w is p)) (most_bits (map m.width signals) (map m.width locals) e h)

    stands_word : (now : S) (r : Word V) (n : ℕ) (bits : (ℕ → Bool) → List Bool) → Made m now r n bits → Stands m now r.value n bits
    stands_word now r n bits k = record { is_one = k.is_word.is_one; wide = k.is_word.wide ∙ k.long; reads_as = k.reads_as }

    pub made_repeat : (now : S) (r : Word V) (count : ℕ) (a : DExpr) (w : Word V) → e.node ≡ node.Repeat count a → IsPart d signals locals a w
        → Made m now r (count * w.length) (λ v. repeated count (m.reads d v w.value)) → Stands m now r.value e.length (expr_value m d signals locals e)
    made_repeat now r count a w is p k = stands_as now r.value (count * w.length) (λ v. repeated count (m.reads d v w.value)) (repeat_long count a w is p)
        (λ v. ap (repeated count) (p.reads_as v) ∙ by_term v (app1 (repeated count) (term (size_in (map m.width signals)) a)) (t.term_repeat (size_in (map m.width signals)) e count a is))
        (stands_word now r (count * w.length) (λ v. repeated count (m.reads d v w.value)) k)

    module _ (words : List (Word V)) (worth : AreWorth m d d signals locals (operands_of e) words) (parts : List DExpr) (is : e.node ≡ node.Concat parts) where
      parts_long : sum_by (λ (w : Word V). w.length) words ≡ e.length
      parts_long = sym (sum-map (λ (w : Word V). w.length) words) ∙ ap sum (worth.long ∙ ap (map (λ (x : DExpr). x.length)) (o.operands_concat e parts is))
          ∙ formed_concat (map m.width signals) (map m.width locals) e h parts is

      some_word : (ws : List (Word V)) → sum_by (λ (w : Word V). w.length) ws ≡ e.length → 1 ≤ length ws
      some_word [] k = let l = some_bits (map m.width signals) (map m.width locals) e h in omega (arith, k, l)
      some_word (w ∷ ws) k = omega arith

      pub parts_some : 1 ≤ length words
      parts_some = some_word words parts_long

      pub parts_most : sum_by (λ (w : Word V). w.length) words ≤ 65536
      parts_most = subst (λ n. n ≤ 65536) (sym parts_long) (most_bits (map m.width signals) (map m.width locals) e h)

      pub made_concat : (now : S) (r : Word V) → Made m now r (sum_by (λ (w : Word V). w.length) words) (λ v. together (map (λ (w : Word V). m.reads d v w.value) words))
          → Stands m now r.value e.length (expr_value m d signals locals e)
      made_concat now r k = stands_as now r.value (sum_by (λ (w : Word V). w.length) words) (λ v. together (map (λ (w : Word V). m.reads d v w.value) words)) parts_long
          (λ v. ap together (worth.stand v ∙ ap (map (λ (x : DExpr). expr_value m d signals locals x v)) (o.operands_concat e parts is))
          ∙ sym (chained_worth (size_in (map m.width signals)) parts (assignment (map (m.reads d v) signals)) (map (m.reads d v) locals))
          ∙ by_term v (chained (map (term (size_in (map m.width signals))) parts)) (t.term_concat (size_in (map m.width signals)) e parts is))
          (stands_word now r (sum_by (λ (w : Word V). w.length) words) (λ v. together (map (λ (w : Word V). m.reads d v w.value) words)) k)

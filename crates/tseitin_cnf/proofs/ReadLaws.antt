-- The nodes that a goal reads, marked from the goal down.
use Rattle.std.proofs.Common.{◌≡◌, ℕ, ◌+◌, ◌<◌, ◌≤◌, Bool, true, false, eqb, ◌||◌, ◌&&◌, List, [], ◌∷◌, length, get_or, drop, arith, refl, sym, ap, ap₂, ◌∙◌, zero, suc}
use Rattle.std.proofs.lemmas.Bool.{ne_eqb, eq-eqb}
use Rattle.std.proofs.lemmas.List.{drop_more}
use Rattle.cyc_net.specs.declared.node.Node.{Node}
use Rattle.cyc_net.specs.declared.node.Node.TheVariants.{Const, Leaf, And, Xor, Mux}
use Rattle.cyc_net.specs.Nets.{ReadsBelow}
use Rattle.tseitin_cnf.specs.Encoding.{reads_node, is_input, IsReadSet, IsReadClosed}

none_two : (m a b : ℕ) → a < m → b < m → (eqb m a || eqb m b) ≡ false
none_two m a b p q = ap₂ (λ (x y : Bool). x || y) (ne_eqb m a (λ e. omega arith)) (ne_eqb m b (λ e. omega arith))

pub reads_above : (n m : ℕ) (x : Node) → ReadsBelow n x → n ≤ m → reads_node x m ≡ false
reads_above n m (Const b) r le = refl
reads_above n m (Leaf i) r le = refl
reads_above n m (And a b) r le = none_two m a b (let h = r.0 in omega arith) (let h = r.1 in omega arith)
reads_above n m (Xor a b) r le = none_two m a b (let h = r.0 in omega arith) (let h = r.1 in omega arith)
reads_above n m (Mux c a b) r le =
    ap₂ (λ (x y : Bool). x || y) (none_two m c a (let h = r.0 in omega arith) (let h = r.1 in omega arith)) (ne_eqb m b (λ e. let h = r.2 in omega arith))

input_same : (r s : ℕ → Bool) (n : ℕ) (xs : List Node) (m : ℕ) → ((k : ℕ) → n ≤ k → r k ≡ s k) → is_input r n xs m ≡ is_input s n xs m
input_same r s n [] m h = refl
input_same r s n (x ∷ xs) m h =
    ap₂ (λ (p q : Bool). (p && reads_node x m) || q) (h n (omega arith)) (input_same r s (n + 1) xs m (λ k le. h k (omega arith)))

pub input_none : (r : ℕ → Bool) (n : ℕ) (xs : List Node) (m : ℕ) → ((k : ℕ) → n ≤ k → r k ≡ false) → is_input r n xs m ≡ false
input_none r n [] m h = refl
input_none r n (x ∷ xs) m h =
    ap₂ (λ (p q : Bool). (p && reads_node x m) || q) (h n (omega arith)) (input_none r (n + 1) xs m (λ k le. h k (omega arith)))

or_around : (g i x : Bool) → ((g || i) || x) ≡ (g || (x || i))
or_around true i x = refl
or_around false true true = refl
or_around false true false = refl
or_around false false true = refl
or_around false false false = refl

pub or_none : (b : Bool) → (b || false) ≡ b
or_none true = refl
or_none false = refl

pub mark_before : (net : List Node) (goal n at : ℕ) (r : ℕ → Bool) → n + 1 ≡ at → ((m : ℕ) → r m ≡ (eqb m goal || is_input r at (drop at net) m)) → (m : ℕ) → r m ≡ (eqb m goal || is_input r (n + 1) (drop (n + 1) net) m)
mark_before net goal n at r e h m = h m ∙ ap (λ (k : ℕ). eqb m goal || is_input r k (drop k net) m) (sym e)

input_here : (net : List Node) (n : ℕ) (x : Node) → n < length net → x ≡ get_or net n x → (r : ℕ → Bool) (m : ℕ) → is_input r n (drop n net) m ≡ ((r n && reads_node x m) || is_input r (n + 1) (drop (n + 1) net) m)
input_here net n x lt is r m =
    ap (λ (xs : List Node). is_input r n xs m) (drop_more net n x lt)
    ∙ ap (λ (y : Node). (r n && reads_node y m) || is_input r (n + 1) (drop (n + 1) net) m) (sym is)

-- one more node is looked at: it is marked, and marks what it reads
pub marked_step : (net : List Node) (goal n : ℕ) (x : Node) → n < length net → x ≡ get_or net n x → ReadsBelow n x → (old new : ℕ → Bool) → ((m : ℕ) → new m ≡ (old m || reads_node x m)) → old n ≡ true → ((m : ℕ) → old m ≡ (eqb m goal || is_input old (n + 1) (drop (n + 1) net) m)) → (m : ℕ) → new m ≡ (eqb m goal || is_input new n (drop n net) m)
marked_step net goal n x lt is below old new w here h m =
    let up : (k : ℕ) → n ≤ k → old k ≡ new k = λ k le. sym (w k ∙ ap (λ (b : Bool). old k || b) (reads_above n k x below le) ∙ or_none (old k)) in
    w m ∙ ap (λ (b : Bool). b || reads_node x m) (h m)
    ∙ or_around (eqb m goal) (is_input old (n + 1) (drop (n + 1) net) m) (reads_node x m)
    ∙ ap (λ (b : Bool). eqb m goal || b)
    (ap₂ (λ (p q : Bool). (p && reads_node x m) || q) (sym here ∙ up n (omega arith)) (input_same old new (n + 1) (drop (n + 1) net) m (λ k le. up k (omega arith)))
    ∙ sym (input_here net n x lt is new m))

or_false_and : (p q i : Bool) → p ≡ false → i ≡ ((p && q) || i)
or_false_and p q i e = ap (λ (b : Bool). (b && q) || i) (sym e)

-- one more node is looked at that is not marked
pub unmarked_step : (net : List Node) (goal n : ℕ) (old : ℕ → Bool) → n < length net → old n ≡ false → ((m : ℕ) → old m ≡ (eqb m goal || is_input old (n + 1) (drop (n + 1) net) m)) → (m : ℕ) → old m ≡ (eqb m goal || is_input old n (drop n net) m)
unmarked_step net goal n old lt here h m =
    h m ∙ ap (λ (b : Bool). eqb m goal || b)
    (or_false_and (old n) (reads_node (get_or net n (Const false)) m) (is_input old (n + 1) (drop (n + 1) net) m) here
    ∙ sym (ap (λ (xs : List Node). is_input old n xs m) (drop_more net n (Const false) lt)))

and_both : (p q : Bool) → p ≡ true → q ≡ true → (p && q) ≡ true
and_both p q e f = ap₂ (λ (x y : Bool). x && y) e f

or_on_left : (x y : Bool) → x ≡ true → (x || y) ≡ true
or_on_left x y h = ap (λ (b : Bool). b || y) h

or_on_right : (x y : Bool) → y ≡ true → (x || y) ≡ true
or_on_right true y h = refl
or_on_right false y h = h

input_at : (r : ℕ → Bool) (n : ℕ) (xs : List Node) (k m : ℕ) (d : Node) → k < length xs → r (n + k) ≡ true → reads_node (get_or xs k d) m ≡ true → is_input r n xs m ≡ true
input_at r n [] k m d lt here t = absurd (omega arith)
input_at r n (x ∷ xs) zero m d lt here t = or_on_left _ _ (and_both (r n) (reads_node x m) (ap r (omega arith) ∙ here) t)
input_at r n (x ∷ xs) (suc k) m d lt here t = or_on_right (r n && reads_node x m) _ (input_at r (n + 1) xs k m d (omega arith) (ap r (omega arith) ∙ here) t)

-- what a node reads that is read is read
pub read_closed : (net : List Node) (goal : ℕ) (r : ℕ → Bool) → IsReadSet net goal r → IsReadClosed net r
read_closed net goal r h n m d lt here t = h m ∙ or_on_right (eqb m goal) (is_input r 0 net m) (input_at r 0 net n m d lt (ap r (omega arith) ∙ here) t)

eqb_self : (m : ℕ) → eqb m m ≡ true
eqb_self m = eq-eqb m m refl

pub goal_read : (net : List Node) (goal : ℕ) (r : ℕ → Bool) → IsReadSet net goal r → r goal ≡ true
goal_read net goal r h = h goal ∙ or_on_left (eqb goal goal) (is_input r 0 net goal) (eqb_self goal)

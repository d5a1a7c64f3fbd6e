-- What a form spells begins with one of its words, or has no tokens.
use Rattle.std.proofs.Common.{◌≡◌, ℕ, zero, suc, ◌-◌, ◌<◌, Bool, true, false, not, ◌||◌, ◌⊎◌, inl, inr, if◌then◌else◌, List, [], ◌∷◌, length, refl, ap, sym, ◌∙◌, subst, arith}
use Rattle.vl_tree.specs.declared.words.Word.{Word}
use Rattle.vl_tree.specs.declared.words.Word.TheVariants as word
use Rattle.vl_tree.specs.declared.expressions.Expr.{Expr}
use Rattle.vl_tree.specs.declared.expressions.Select.{Select}
use Rattle.vl_tree.specs.Words.{word_of, next, same_word}
use Rattle.vl_grammar.specs.Roles.{is_unary}
use Rattle.vl_grammar.specs.Read.{Tokens}
use Rattle.vl_grammar.specs.Spells.{Whole, plain, choice, Joined, alone, binary, Prefix, unary, itself, Primary, number, free_number, name, selected, call, system, group, concat, repeat, Selected, index, range, up, down}
use Rattle.vl_grammar.proofs.Shrinks.{whole_shrinks, selected_shrinks}
use Rattle.vl_rules.specs.Form.{Rule, Tree, Form, empty, unless, fixed, value, select_rest, seq, made, either, many, one_and, such, rule, Spells, Row, Begun, begins, rule_begins, skips, starts, is_free, none_free, no_free}
use Rattle.vl_rules.proofs.Tools.{same_refl, or_left, or_right, and_both, and_first, not_true}

-- an expression begins with one of its words, or with a number with free bits
abbrev any_begins : Word → Bool
any_begins w = begins w || is_free w

unary_begins : (w : Word) → is_unary w ≡ true → any_begins w ≡ true
unfolding begins is_unary
unary_begins word.Number h = refl
unary_begins word.Name h = refl
unary_begins word.System h = refl
unary_begins word.LeftParen h = refl
unary_begins word.LeftBrace h = refl
unary_begins w h = or_left (begins w) (is_free w) h

token_begins : (w v : Word) → w ≡ v → any_begins v ≡ true → any_begins w ≡ true
token_begins w v h k = ap any_begins h ∙ k

number_begins : any_begins word.Number ≡ true
unfolding begins
number_begins = refl

free_begins : any_begins word.FreeNumber ≡ true
unfolding begins is_unary same_word
free_begins = refl

name_begins : any_begins word.Name ≡ true
unfolding begins
name_begins = refl

system_begins : any_begins word.System ≡ true
unfolding begins
system_begins = refl

paren_begins : any_begins word.LeftParen ≡ true
unfolding begins
paren_begins = refl

brace_begins : any_begins word.LeftBrace ≡ true
unfolding begins
brace_begins = refl

primary_begins : {t : Expr} {ts rest : Tokens} → Primary t ts rest → any_begins (next ts) ≡ true
primary_begins (number {t = t} h) = token_begins (word_of t) word.Number h number_begins
primary_begins (free_number {t = t} h) = token_begins (word_of t) word.FreeNumber h free_begins
primary_begins (name {t = t} h) = token_begins (word_of t) word.Name h name_begins
primary_begins (selected {t = t} h k d) = token_begins (word_of t) word.Name h name_begins
primary_begins (call {t = t} h k d z) = token_begins (word_of t) word.Name h name_begins
primary_begins (system {t = t} h k d z) = token_begins (word_of t) word.System h system_begins
primary_begins (group {a = a} h d z) = token_begins (word_of a) word.LeftParen h paren_begins
primary_begins (concat {a = a} h d z) = token_begins (word_of a) word.LeftBrace h brace_begins
primary_begins (repeat {a = a} h n b d y z) = token_begins (word_of a) word.LeftBrace h brace_begins

prefix_begins : {t : Expr} {ts rest : Tokens} → Prefix t ts rest → any_begins (next ts) ≡ true
prefix_begins (unary {op = op} u d) = unary_begins (word_of op) u
prefix_begins (itself d) = primary_begins d

joined_begins : {n : ℕ} {t : Expr} {ts rest : Tokens} → Joined n t ts rest → any_begins (next ts) ≡ true
joined_begins (alone d) = prefix_begins d
joined_begins (binary pos low at l r) = joined_begins l

whole_begins : {t : Expr} {ts rest : Tokens} → Whole t ts rest → any_begins (next ts) ≡ true
whole_begins (plain d) = joined_begins d
whole_begins (choice c q a k b) = joined_begins c

selected_begins : {t : Select} {ts rest : Tokens} → Selected t ts rest → any_begins (next ts) ≡ true
selected_begins (index d z) = whole_begins d
selected_begins (range d k b z) = whole_begins d
selected_begins (up d k b z) = whole_begins d
selected_begins (down d k b z) = whole_begins d

or_not : (a b : Bool) → (a || b) ≡ true → b ≡ false → a ≡ true
or_not true b h k = refl
or_not false b h k = sym k ∙ h

first_not_free : (n : ℕ) (ts : Tokens) → 0 < n → 0 < length ts → none_free n ts ≡ true → is_free (next ts) ≡ false
first_not_free zero ts p q h = absurd (omega arith)
first_not_free (suc n) [] p q h = absurd (omega arith)
first_not_free (suc n) (t ∷ ts) p q h = not_true (is_free (word_of t)) (and_first (not (is_free (word_of t))) (none_free n ts) h)

bound_begins : (ts rest : Tokens) → length rest < length ts → any_begins (next ts) ≡ true → no_free ts rest ≡ true → begins (next ts) ≡ true
bound_begins ts rest less h k = or_not (begins (next ts)) (is_free (next ts)) h (first_not_free (length ts - length rest) ts (omega (arith, less)) (omega (arith, less)) k)

-- a word of the form and a token or more, or no tokens before a word that the form may skip at
abbrev pub Opens : {A : Type 0} → Form A → Tokens → Tokens → Type 0
Opens p ts rest = ((starts p (next ts) ≡ true) × (length rest < length ts)) ⊎ ((ts ≡ rest) × (skips p (next ts) ≡ true))

if_left : (a b c : Bool) → b ≡ true → (if a then b || c else b) ≡ true
if_left true b c h = or_left b c h
if_left false b c h = h

if_right : (a b c : Bool) → a ≡ true → c ≡ true → (if a then b || c else b) ≡ true
if_right true b c h k = or_right b c k
if_right false b c h k = cc

seq_opens : {A B : Type 0} (p : Form A) (q : Form B) (ts mid rest : Tokens) → Opens p ts mid → Opens q mid rest → Opens (seq p q) ts rest
seq_opens p q ts mid rest (inl a) (inl b) = inl (if_left (skips p (next ts)) (starts p (next ts)) (starts q (next ts)) a.0, omega (arith, a.1, b.1))
seq_opens p q ts mid rest (inl a) (inr b) = inl (if_left (skips p (next ts)) (starts p (next ts)) (starts q (next ts)) a.0, omega (arith, a.1, ap length b.0))
seq_opens p q ts mid rest (inr a) (inl b) =
    inl (if_right (skips p (next ts)) (starts p (next ts)) (starts q (next ts)) a.1 (ap (λ z. starts q (next z)) a.0 ∙ b.0), omega (arith, ap length a.0, b.1))
seq_opens p q ts mid rest (inr a) (inr b) = inr (a.0 ∙ b.0, and_both (skips p (next ts)) (skips q (next ts)) a.1 (ap (λ z. skips q (next z)) a.0 ∙ b.1))

left_opens : {A : Type 0} (p q : Form A) (ts rest : Tokens) → Opens p ts rest → Opens (either p q) ts rest
left_opens p q ts rest (inl a) = inl (or_left (starts p (next ts)) (starts q (next ts)) a.0, a.1)
left_opens p q ts rest (inr a) = inr (a.0, or_left (skips p (next ts)) (skips q (next ts)) a.1)

right_opens : {A : Type 0} (p q : Form A) (ts rest : Tokens) → Opens q ts rest → Opens (either p q) ts rest
right_opens p q ts rest (inl a) = inl (or_right (starts p (next ts)) (starts q (next ts)) a.0, a.1)
right_opens p q ts rest (inr a) = inr (a.0, or_right (skips p (next ts)) (skips q (next ts)) a.1)

more_opens : {A : Type 0} (p : Form A) (ts mid rest : Tokens) → Opens p ts mid → Opens (many p) mid rest → Opens (many p) ts rest
more_opens p ts mid rest (inl a) (inl b) = inl (a.0, omega (arith, a.1, b.1))
more_opens p ts mid rest (inl a) (inr b) = inl (a.0, omega (arith, a.1, ap length b.0))
more_opens p ts mid rest (inr a) b = subst (λ z. Opens (many p) z rest) (sym a.0) b

pub row_opens : {A : Type 0} (p : Form A) (P : A → Tokens → Tokens → Type 0) → ((x : A) (ts rest : Tokens) → P x ts rest → Opens p ts rest)
    → (xs : List A) (ts rest : Tokens) → Row P xs ts rest → Opens (many p) ts rest
row_opens p P h [] ts rest d = inr (d, refl)
row_opens p P h (x ∷ xs) ts rest d = more_opens p ts d.0 rest (h x ts d.0 d.1) (row_opens p P h xs d.0 rest d.2)

begun_with : {A : Type 0} (p q : Form A) (ts mid rest : Tokens) → Opens p ts mid → Opens (many q) mid rest → Opens (one_and p q) ts rest
begun_with p q ts mid rest (inl a) (inl b) = inl (if_left (skips p (next ts)) (starts p (next ts)) (starts q (next ts)) a.0, omega (arith, a.1, b.1))
begun_with p q ts mid rest (inl a) (inr b) = inl (if_left (skips p (next ts)) (starts p (next ts)) (starts q (next ts)) a.0, omega (arith, a.1, ap length b.0))
begun_with p q ts mid rest (inr a) (inl b) =
    inl (if_right (skips p (next ts)) (starts p (next ts)) (starts q (next ts)) a.1 (ap (λ z. starts q (next z)) a.0 ∙ b.0), omega (arith, ap length a.0, b.1))
begun_with p q ts mid rest (inr a) (inr b) = inr (a.0 ∙ b.0, a.1)

begun_opens : {A : Type 0} (p q : Form A) (P Q : A → Tokens → Tokens → Type 0) → ((x : A) (ts rest : Tokens) → P x ts rest → Opens p ts rest)
    → ((x : A) (ts rest : Tokens) → Q x ts rest → Opens q ts rest) → (xs : List A) (ts rest : Tokens) → Begun P Q xs ts rest → Opens (one_and p q) ts rest
begun_opens p q P Q h k [] ts rest d = absurd d
begun_opens p q P Q h k (x ∷ xs) ts rest d = begun_with p q ts d.0 rest (h x ts d.0 d.1) (row_opens q Q k xs d.0 rest d.2)

-- a rule begins with one of its words
abbrev pub Begins : ((r : Rule) → Tree r → Tokens → Tokens → Type 0) → Type 0
Begins R = (r : Rule) (x : Tree r) (ts rest : Tokens) → R r x ts rest → (rule_begins r (next ts) ≡ true) × (length rest < length ts)

module _ (R : (r : Rule) → Tree r → Tokens → Tokens → Type 0) (H : Begins R) where
  pub opens : {A : Type 0} (p : Form A) (x : A) (ts rest : Tokens) → Spells R p x ts rest → Opens p ts rest
  opens (empty a) x ts rest d = inr (d.1, refl)
  opens (unless w a) x ts rest d = inr (d.1, ap not d.2)
  opens (fixed w) x ts rest d = inl (ap (λ z. same_word (next z) w) d.0 ∙ (ap (λ z. same_word z w) d.1 ∙ same_refl w), omega (arith, ap length d.0))
  opens value x ts rest d = inl (bound_begins ts rest (whole_shrinks d.0) (whole_begins d.0) d.1, whole_shrinks d.0)
  opens select_rest x ts rest d = inl (bound_begins ts rest (selected_shrinks d.0) (selected_begins d.0) d.1, selected_shrinks d.0)
  opens (seq p q) x ts rest d = seq_opens p q ts d.0 rest (opens p x.0 ts d.0 d.1) (opens q x.1 d.0 rest d.2)
  opens (made f p) x ts rest d = opens p d.0 ts rest d.2
  opens (either p q) x ts rest (inl d) = left_opens p q ts rest (opens p x ts rest d)
  opens (either p q) x ts rest (inr d) = right_opens p q ts rest (opens q x ts rest d)
  opens (many p) x ts rest d = row_opens p (Spells R p) (opens p) x ts rest d
  opens (one_and p q) x ts rest d = begun_opens p q (Spells R p) (Spells R q) (opens p) (opens q) x ts rest d
  opens (such t p) x ts rest d = opens p x ts rest d.0
  opens (rule r) x ts rest d = inl (H r x ts rest d)

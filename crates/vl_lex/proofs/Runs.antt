-- Texts that begin with a run of bytes of one kind, or with white space.
use Rattle.std.proofs.Common.{◌≡◌, ℕ, zero, suc, ◌+◌, ◌≤◌, ◌==◌, Bool, true, false, ◌&&◌, not, if◌then◌else◌, [], ◌∷◌, ◌++◌, length, refl, ap, sym, ◌∙◌, subst, arith}
use Rattle.std.specs.List.{prefix_len, list_all}
use Rattle.std.proofs.lemmas.Bool.Decides.{nat_tests}
use Rattle.vl_lex.specs.Bytes.{Text, first, is_space}
use Rattle.vl_lex.specs.Pieces.{blank_len, blanks}
use Rattle.vl_lex.specs.Forms.{IsBlank, blank_none, blank_space, blank_join, blank_return}

pub on_if : {X : Type 0} (P : X → Type 0) (c : Bool) (x y : X) → (c ≡ true → P x) → (c ≡ false → P y) → P (if c then x else y)
on_if P true x y f g = f refl
on_if P false x y f g = g refl

pub both : (a b : Bool) → (a && b) ≡ true → (a ≡ true) × (b ≡ true)
both true b h = (refl, h)
both false b h = absurd (cc)

pub pair : (a b : Bool) → a ≡ true → b ≡ true → (a && b) ≡ true
pair a b p q = rw p q

pub negated : (a : Bool) → not a ≡ true → a ≡ false
negated true h = absurd (cc)
negated false h = refl

pub is_number : (a b : ℕ) → (a == b) ≡ true → a ≡ b
is_number a b h = grind (arith, nat_tests)

-- a run of bytes of a kind at the front of a text, the longest one
abbrev pub Run : (ℕ → Bool) → Text → Type 0
Run p text = (run : Text) × (rest : Text) × (text ≡ run ++ rest) × (list_all p run ≡ true) × (length run ≡ prefix_len p text)

one_more : (p : ℕ → Bool) (x : ℕ) (xs : Text) (t : Bool) → p x ≡ t → Run p xs → Run p (x ∷ xs)
one_more p x xs true e s =
    let e1 : prefix_len p (x ∷ xs) ≡ 1 + prefix_len p xs = rw e refl in
    (x ∷ s.0, s.1, ap (λ z. x ∷ z) s.2, rw e s.3, omega (arith, s.4))
one_more p x xs false e s =
    let e1 : prefix_len p (x ∷ xs) ≡ 0 = rw e refl in
    ([], x ∷ xs, refl, refl, omega arith)

pub split_run : (p : ℕ → Bool) (text : Text) → Run p text
split_run p [] = ([], [], refl, refl, refl)
split_run p (x ∷ xs) = one_more p x xs (p x) refl (split_run p xs)

pub run_reaches : (p : ℕ → Bool) (run rest : Text) → list_all p run ≡ true → length run ≤ prefix_len p (run ++ rest)
run_reaches p [] rest h = omega arith
run_reaches p (x ∷ xs) rest h =
    let b = both (p x) (list_all p xs) h in
    let e : prefix_len p (x ∷ (xs ++ rest)) ≡ 1 + prefix_len p (xs ++ rest) = rw b.0 refl in
    omega (arith, run_reaches p xs rest b.1)

-- a run ends before the first byte of another kind
pub run_ends : (p : ℕ → Bool) (run rest : Text) → list_all p run ≡ true → p (first rest) ≡ false → prefix_len p (run ++ rest) ≡ length run
run_ends p [] [] h e = refl
run_ends p [] (y ∷ ys) h e = rw e refl
run_ends p (x ∷ xs) rest h e =
    let b = both (p x) (list_all p xs) h in
    let k : prefix_len p (x ∷ (xs ++ rest)) ≡ 1 + prefix_len p (xs ++ rest) = rw b.0 refl in
    omega (arith, run_ends p xs rest b.1 e)

pub space_blank : (b : ℕ) (bs : Text) → is_space b ≡ true → blanks 0 (b ∷ bs) ≡ suc (blanks 0 bs)
unfolding blanks
space_blank b bs e = rw e refl

pub join_blank : (bs : Text) → blanks 0 (92 ∷ 10 ∷ bs) ≡ suc (suc (blanks 0 bs))
unfolding blanks
join_blank bs = refl

pub return_blank : (bs : Text) → blanks 0 (92 ∷ 13 ∷ 10 ∷ bs) ≡ suc (suc (suc (blanks 0 bs)))
unfolding blanks
return_blank bs = refl

pub no_blank : (bs : Text) → blank_len bs ≡ 0 → blanks 0 bs ≡ 0
unfolding blanks
no_blank [] e = refl
no_blank (b ∷ bs) e = rw e refl

pub blank_reaches : {run : Text} → IsBlank run → (rest : Text) → blanks 0 (run ++ rest) ≡ length run + blanks 0 rest
blank_reaches blank_none rest = omega arith
blank_reaches (blank_space {b} {bs} e h) rest = space_blank b (bs ++ rest) e ∙ omega (arith, blank_reaches h rest)
blank_reaches (blank_join {bs} h) rest = join_blank (bs ++ rest) ∙ omega (arith, blank_reaches h rest)
blank_reaches (blank_return {bs} h) rest = return_blank (bs ++ rest) ∙ omega (arith, blank_reaches h rest)

-- white space at the front of a text, all of it
abbrev pub Blanks : Text → Type 0
Blanks text = (run : Text) × (rest : Text) × (text ≡ run ++ rest) × IsBlank run × (length run ≡ blanks 0 text)

no_blanks : (text : Text) → blank_len text ≡ 0 → Blanks text
no_blanks text e = ([], text, refl, blank_none, sym (no_blank text e))

spaced : (b : ℕ) (bs : Text) → is_space b ≡ true → Blanks bs → Blanks (b ∷ bs)
spaced b bs e s = (b ∷ s.0, s.1, ap (λ z. b ∷ z) s.2, blank_space e s.3, ap (λ n. suc n) s.4 ∙ sym (space_blank b bs e))

joined : (bs : Text) → Blanks bs → Blanks (92 ∷ 10 ∷ bs)
joined bs s = (92 ∷ 10 ∷ s.0, s.1, ap (λ z. 92 ∷ 10 ∷ z) s.2, blank_join s.3, ap (λ n. suc (suc n)) s.4 ∙ sym (join_blank bs))

returned : (bs : Text) → Blanks bs → Blanks (92 ∷ 13 ∷ 10 ∷ bs)
returned bs s = (92 ∷ 13 ∷ 10 ∷ s.0, s.1, ap (λ z. 92 ∷ 13 ∷ 10 ∷ z) s.2, blank_return s.3, ap (λ n. suc (suc (suc n))) s.4 ∙ sym (return_blank bs))

third : (d : ℕ) (ds : Text) (t : Bool) → (d == 10) ≡ t → Blanks ds → Blanks (92 ∷ 13 ∷ d ∷ ds)
third d ds true e s = subst (λ z. Blanks (92 ∷ 13 ∷ z ∷ ds)) (sym (is_number d 10 e)) (returned ds s)
third d ds false e s = no_blanks (92 ∷ 13 ∷ d ∷ ds) (rw e refl)

second : (c : ℕ) (cs : Text) (t : Bool) → (c == 10) ≡ false → (c == 13) ≡ t → ((d : ℕ) (ds : Text) → cs ≡ d ∷ ds → Blanks ds) → Blanks (92 ∷ c ∷ cs)
second c [] true n e s = no_blanks (92 ∷ c ∷ []) (rw (n, e) refl)
second c (d ∷ ds) true n e s = subst (λ z. Blanks (92 ∷ z ∷ d ∷ ds)) (sym (is_number c 13 e)) (third d ds (d == 10) refl (s d ds refl))
second c cs false n e s = no_blanks (92 ∷ c ∷ cs) (rw (n, e) refl)

first_two : (c : ℕ) (cs : Text) (t : Bool) → (c == 10) ≡ t → Blanks cs → ((d : ℕ) (ds : Text) → cs ≡ d ∷ ds → Blanks ds) → Blanks (92 ∷ c ∷ cs)
first_two c cs true e s u = subst (λ z. Blanks (92 ∷ z ∷ cs)) (sym (is_number c 10 e)) (joined cs s)
first_two c cs false e s u = second c cs (c == 13) e refl u

other : (b : ℕ) (bs : Text) (t : Bool) → (b == 92) ≡ t → is_space b ≡ false → ((c : ℕ) (cs : Text) → bs ≡ c ∷ cs → Blanks cs) → ((c d : ℕ) (ds : Text) → bs ≡ c ∷ d ∷ ds → Blanks ds) → Blanks (b ∷ bs)
other b [] true e n s u = no_blanks (b ∷ []) (rw (n, e) refl)
other b (c ∷ cs) true e n s u =
    subst (λ z. Blanks (z ∷ c ∷ cs)) (sym (is_number b 92 e)) (first_two c cs (c == 10) refl (s c cs refl) (λ d ds q. u c d ds (ap (λ z. c ∷ z) q)))
other b bs false e n s u = no_blanks (b ∷ bs) (rw (n, e) refl)

any : (b : ℕ) (bs : Text) (t : Bool) → is_space b ≡ t → Blanks bs → ((c : ℕ) (cs : Text) → bs ≡ c ∷ cs → Blanks cs) → ((c d : ℕ) (ds : Text) → bs ≡ c ∷ d ∷ ds → Blanks ds) → Blanks (b ∷ bs)
any b bs true e s u v = spaced b bs e s
any b bs false e s u v = other b bs (b == 92) refl e u v

-- with as many bytes as are left
splits : (fuel : ℕ) (text : Text) → length text ≤ fuel → Blanks text
splits fuel [] h = no_blanks [] refl
splits zero (b ∷ bs) h = absurd (omega arith)
splits (suc fuel) (b ∷ bs) h =
    any b bs (is_space b) refl (splits fuel bs (omega arith))
    (λ c cs q. let l : length bs ≡ suc (length cs) = ap length q in splits fuel cs (omega arith))
    (λ c d ds q. let l : length bs ≡ suc (suc (length ds)) = ap length q in splits fuel ds (omega arith))

pub split_blanks : (text : Text) → Blanks text
split_blanks text = splits (length text) text (omega arith)

-- The operators by their bytes.
use Rattle.std.proofs.Common.{◌≡◌, ℕ, ◌==◌, Bool, true, false, ◌||◌, ◌⊎◌, inl, inr, List, [], ◌∷◌, refl, ap, sym, ◌∙◌, subst}
use Rattle.std.specs.Str.{bytes_eq}
use Rattle.std.specs.List.{list_any, list_all}
use Rattle.std.proofs.lemmas.Slice.Eq.{bytes_eq-Decides}
use Rattle.vl_lex.specs.Bytes.{Text}
use Rattle.vl_lex.specs.Pieces.{is_pair, is_triple}
use Rattle.vl_lex.specs.Forms.{operators, is_operator}
use Rattle.vl_lex.proofs.Runs.{on_if, both, is_number}

abbrev pub is_short : Text → Bool
is_short (a ∷ b ∷ []) = is_pair a b
is_short (a ∷ b ∷ c ∷ []) = is_triple a b c
is_short _ = false

either_true : (p q : Bool) → (p || q) ≡ true → (p ≡ true) ⊎ (q ≡ true)
either_true true q h = inl refl
either_true false q h = inr h

among : (text : Text) (all : List Text) → list_all is_short all ≡ true → list_any (bytes_eq text) all ≡ true → is_short text ≡ true
among text [] a h = absurd (cc)
among text (o ∷ os) a h =
    let t = both (is_short o) (list_all is_short os) a in
    elim (either_true (bytes_eq text o) (list_any (bytes_eq text) os) h) [
      | inl e ↦ ap is_short ((bytes_eq-Decides text o).0 e) ∙ t.0
      | inr e ↦ among text os t.1 e
    ]

pub listed_short : (text : Text) → is_operator text ≡ true → is_short text ≡ true
unfolding is_operator
listed_short text h = among text operators refl h

two : (b c p q : ℕ) → (b == p) ≡ true → (c == q) ≡ true → is_operator (p ∷ q ∷ []) ≡ true → is_operator (b ∷ c ∷ []) ≡ true
two b c p q e f h = subst (λ x. is_operator (x ∷ c ∷ []) ≡ true) (sym (is_number b p e)) (subst (λ x. is_operator (p ∷ x ∷ []) ≡ true) (sym (is_number c q f)) h)

three : (b c d p q r : ℕ) → (b == p) ≡ true → (c == q) ≡ true → (d == r) ≡ true → is_operator (p ∷ q ∷ r ∷ []) ≡ true → is_operator (b ∷ c ∷ d ∷ []) ≡ true
three b c d p q r e f g h =
    subst (λ x. is_operator (x ∷ c ∷ d ∷ []) ≡ true) (sym (is_number b p e))
    (subst (λ x. is_operator (p ∷ x ∷ d ∷ []) ≡ true) (sym (is_number c q f)) (subst (λ x. is_operator (p ∷ q ∷ x ∷ []) ≡ true) (sym (is_number d r g)) h))

pub pairs : (b c : ℕ) → is_pair b c ≡ true → is_operator (b ∷ c ∷ []) ≡ true
unfolding is_operator
pairs b c = on_if (λ z. z ≡ true → is_operator (b ∷ c ∷ []) ≡ true) (b == 60) _ _ (λ h. (λ z. elim (either_true _ _ z) [ inl u ↦ two b c 60 60 h u refl | inr u ↦ two b c 60 61 h u refl ])) (λ _.
    on_if (λ z. z ≡ true → is_operator (b ∷ c ∷ []) ≡ true) (b == 62) _ _ (λ h. (λ z. elim (either_true _ _ z) [ inl u ↦ two b c 62 62 h u refl | inr u ↦ two b c 62 61 h u refl ])) (λ _.
    on_if (λ z. z ≡ true → is_operator (b ∷ c ∷ []) ≡ true) (b == 61) _ _ (λ h. (λ z. two b c 61 61 h z refl)) (λ _.
    on_if (λ z. z ≡ true → is_operator (b ∷ c ∷ []) ≡ true) (b == 33) _ _ (λ h. (λ z. two b c 33 61 h z refl)) (λ _.
    on_if (λ z. z ≡ true → is_operator (b ∷ c ∷ []) ≡ true) (b == 38) _ _ (λ h. (λ z. two b c 38 38 h z refl)) (λ _.
    on_if (λ z. z ≡ true → is_operator (b ∷ c ∷ []) ≡ true) (b == 124) _ _ (λ h. (λ z. two b c 124 124 h z refl)) (λ _.
    on_if (λ z. z ≡ true → is_operator (b ∷ c ∷ []) ≡ true) (b == 42) _ _ (λ h. (λ z. two b c 42 42 h z refl)) (λ _.
    on_if (λ z. z ≡ true → is_operator (b ∷ c ∷ []) ≡ true) (b == 126) _ _ (λ h. (λ z. elim (either_true _ _ z) [ inl u ↦ elim (either_true _ _ u) [ inl v ↦ two b c 126 38 h v refl | inr v ↦ two b c 126 124 h v refl ] | inr u ↦ two b c 126 94 h u refl ])) (λ _.
    on_if (λ z. z ≡ true → is_operator (b ∷ c ∷ []) ≡ true) (b == 94) _ _ (λ h. (λ z. two b c 94 126 h z refl)) (λ _.
    on_if (λ z. z ≡ true → is_operator (b ∷ c ∷ []) ≡ true) (b == 43) _ _ (λ h. (λ z. two b c 43 58 h z refl)) (λ _.
    on_if (λ z. z ≡ true → is_operator (b ∷ c ∷ []) ≡ true) (b == 45) _ _ (λ h. (λ z. two b c 45 58 h z refl)) (λ _.
    λ z. absurd (cc))))))))))))

pub triples : (b c e : ℕ) → is_triple b c e ≡ true → is_operator (b ∷ c ∷ e ∷ []) ≡ true
unfolding is_operator
triples b c e = on_if (λ z. z ≡ true → is_operator (b ∷ c ∷ e ∷ []) ≡ true) (b == 60) _ _ (λ h z. let u = both (c == 60) (e == 60) z in three b c e 60 60 60 h u.0 u.1 refl) (λ _.
    on_if (λ z. z ≡ true → is_operator (b ∷ c ∷ e ∷ []) ≡ true) (b == 62) _ _ (λ h z. let u = both (c == 62) (e == 62) z in three b c e 62 62 62 h u.0 u.1 refl) (λ _.
    on_if (λ z. z ≡ true → is_operator (b ∷ c ∷ e ∷ []) ≡ true) (b == 61) _ _ (λ h z. let u = both (c == 61) (e == 61) z in three b c e 61 61 61 h u.0 u.1 refl) (λ _.
    on_if (λ z. z ≡ true → is_operator (b ∷ c ∷ e ∷ []) ≡ true) (b == 33) _ _ (λ h z. let u = both (c == 61) (e == 61) z in three b c e 33 61 61 h u.0 u.1 refl) (λ _.
    λ z. absurd (cc)))))

-- Each piece is the longest that fits.
use Rattle.std.proofs.Common.{◌≡◌, ℕ, ◌<◌, ◌≤◌, ◌==◌, Bool, true, false, ◌&&◌, ◌⊎◌, inl, inr, not, if◌then◌else◌, [], ◌∷◌, ◌++◌, length, refl, ap, sym, ◌∙◌, subst, arith}
use Rattle.std.specs.List.{list_all}
use Rattle.std.proofs.lemmas.List.{length-append}
use Rattle.std.proofs.lemmas.Bool.Decides.{nat_tests}
use Rattle.vl_tree.specs.declared.tokens.TokenKind.{TokenKind}
use Rattle.vl_tree.specs.declared.tokens.TokenKind.TheVariants as k
use Rattle.vl_lex.specs.Bytes.{Text, first, other_than_newline, is_space, is_digit, is_letter, is_name, is_decimal, is_graphic}
use Rattle.vl_lex.specs.Pieces.{is_pair, is_triple}
use Rattle.vl_lex.specs.Forms.{begins, is_run, marked, is_one, is_join, is_line_comment, IsBlockComment, IsString, is_decimal_number, is_base_mark, IsSize, IsBasedNumber, is_mark, IsToken, Fits, fits_space, fits_join, fits_token}
use Rattle.vl_lex.proofs.Runs.{on_if, both, negated, is_number}
use Rattle.vl_lex.proofs.Based.{mark_first}
use Rattle.vl_lex.proofs.Operators.{is_short, listed_short}

-- what a byte may begin
pub data Sort : Type 0 where
  s_space : Sort
  s_letter : Sort
  s_digit : Sort
  s_slash : Sort
  s_backslash : Sort
  s_quote : Sort
  s_dollar : Sort
  s_backquote : Sort
  s_tick : Sort
  s_other : Sort

abbrev pub sort : ℕ → Sort
sort b =
    if is_space b then s_space else (
    if is_letter b then s_letter else (
    if is_digit b then s_digit else (
    if b == 47 then s_slash else (
    if b == 92 then s_backslash else (
    if b == 34 then s_quote else (
    if b == 36 then s_dollar else (
    if b == 96 then s_backquote else (
    if b == 39 then s_tick else s_other))))))))

-- the texts that a byte may begin, by its sort
abbrev pub Of : Sort → Text → Type 0
Of s_space text = length text ≤ 1
Of s_letter text = begins is_letter is_name text ≡ true
Of s_digit text = (is_decimal_number text ≡ true) ⊎ IsBasedNumber text
Of s_slash text = (length text ≤ 1) ⊎ ((is_line_comment text ≡ true) ⊎ IsBlockComment text)
Of s_backslash text = (is_join text ≡ true) ⊎ (marked 92 (is_run is_graphic) text ≡ true)
Of s_quote text = IsString text
Of s_dollar text = (length text ≤ 1) ⊎ (marked 36 (is_run is_name) text ≡ true)
Of s_backquote text = marked 96 (begins is_letter is_name) text ≡ true
Of s_tick text = (length text ≤ 1) ⊎ IsBasedNumber text
Of s_other text = (is_one is_mark text ≡ true) ⊎ (is_short text ≡ true)

pub sort_letter : (b : ℕ) → is_letter b ≡ true → sort b ≡ s_letter
sort_letter b h = let e : is_space b ≡ false = grind (arith, nat_tests) in rw (e, h) refl

pub sort_digit : (b : ℕ) → is_digit b ≡ true → sort b ≡ s_digit
sort_digit b h = let e : is_space b ≡ false = grind (arith, nat_tests) in let f : is_letter b ≡ false = grind (arith, nat_tests) in rw (e, f, h) refl

pub sort_space : (b : ℕ) → is_space b ≡ true → sort b ≡ s_space
sort_space b h = rw h refl

-- a byte that begins no name, number, string, escaped name or directive
pub sort_mark : (b : ℕ) → is_mark b ≡ true → (sort b ≡ s_slash) ⊎ ((sort b ≡ s_dollar) ⊎ ((sort b ≡ s_tick) ⊎ (sort b ≡ s_other)))
sort_mark b h =
    let t1 = both (is_graphic b) (not (is_letter b) && (not (is_digit b) && (not (b == 34) && (not (b == 92) && not (b == 96))))) h in
    let t2 = both (not (is_letter b)) (not (is_digit b) && (not (b == 34) && (not (b == 92) && not (b == 96)))) t1.1 in
    let t3 = both (not (is_digit b)) (not (b == 34) && (not (b == 92) && not (b == 96))) t2.1 in
    let t4 = both (not (b == 34)) (not (b == 92) && not (b == 96)) t3.1 in
    let t5 = both (not (b == 92)) (not (b == 96)) t4.1 in
    let e : is_space b ≡ false = grind (arith, nat_tests, t1.0) in
    let l = negated (is_letter b) t2.0 in
    let d = negated (is_digit b) t3.0 in
    let q = negated (b == 34) t4.0 in
    let s = negated (b == 92) t5.0 in
    let c = negated (b == 96) t5.1 in
    rw (e, l, d) (split (b == 47) (b == 92) (b == 34) (b == 36) (b == 96) (b == 39) s q c)
  where
    split : (t47 t92 t34 t36 t96 t39 : Bool) → t92 ≡ false → t34 ≡ false → t96 ≡ false
        → ((if t47 then s_slash else (if t92 then s_backslash else (if t34 then s_quote else (if t36 then s_dollar else (if t96 then s_backquote else (if t39 then s_tick else s_other)))))) ≡ s_slash)
        ⊎ (((if t47 then s_slash else (if t92 then s_backslash else (if t34 then s_quote else (if t36 then s_dollar else (if t96 then s_backquote else (if t39 then s_tick else s_other)))))) ≡ s_dollar)
        ⊎ (((if t47 then s_slash else (if t92 then s_backslash else (if t34 then s_quote else (if t36 then s_dollar else (if t96 then s_backquote else (if t39 then s_tick else s_other)))))) ≡ s_tick)
        ⊎ ((if t47 then s_slash else (if t92 then s_backslash else (if t34 then s_quote else (if t36 then s_dollar else (if t96 then s_backquote else (if t39 then s_tick else s_other)))))) ≡ s_other)))
    split true t92 t34 t36 t96 t39 s q c = inl refl
    split false true t34 t36 t96 t39 s q c = absurd (cc)
    split false false true t36 t96 t39 s q c = absurd (cc)
    split false false false true t96 t39 s q c = inr (inl refl)
    split false false false false true t39 s q c = absurd (cc)
    split false false false false false true s q c = inr (inr (inl refl))
    split false false false false false false s q c = inr (inr (inr refl))

mark_of : (b : ℕ) (bs : Text) → length (b ∷ bs) ≤ 1 → is_one is_mark (b ∷ bs) ≡ true → (sort b ≡ s_slash) ⊎ ((sort b ≡ s_dollar) ⊎ ((sort b ≡ s_tick) ⊎ (sort b ≡ s_other))) → Of (sort b) (b ∷ bs)
mark_of b bs l h (inl e) = rw e (inl l)
mark_of b bs l h (inr (inl e)) = rw e (inl l)
mark_of b bs l h (inr (inr (inl e))) = rw e (inl l)
mark_of b bs l h (inr (inr (inr e))) = rw e (inl h)

one_long : (q : ℕ → Bool) (text : Text) → is_one q text ≡ true → length text ≤ 1
one_long q (b ∷ []) h = omega arith
one_long q _ h = absurd (cc)

pub one_byte : (q : ℕ → Bool) (b : ℕ) (bs : Text) → is_one q (b ∷ bs) ≡ true → q b ≡ true
one_byte q b [] h = h
one_byte q b (c ∷ cs) h = absurd (cc)

sort_at : (b : ℕ) (s : Sort) (a : ℕ) → (b == a) ≡ true → sort a ≡ s → sort b ≡ s
sort_at b s a h e = ap sort (is_number b a h) ∙ e

pair_sort : (b c : ℕ) → is_pair b c ≡ true → sort b ≡ s_other
pair_sort b c = on_if (λ z. z ≡ true → sort b ≡ s_other) (b == 60) _ _ (λ h z. sort_at b s_other 60 h refl) (λ _.
    on_if (λ z. z ≡ true → sort b ≡ s_other) (b == 62) _ _ (λ h z. sort_at b s_other 62 h refl) (λ _.
    on_if (λ z. z ≡ true → sort b ≡ s_other) (b == 61) _ _ (λ h z. sort_at b s_other 61 h refl) (λ _.
    on_if (λ z. z ≡ true → sort b ≡ s_other) (b == 33) _ _ (λ h z. sort_at b s_other 33 h refl) (λ _.
    on_if (λ z. z ≡ true → sort b ≡ s_other) (b == 38) _ _ (λ h z. sort_at b s_other 38 h refl) (λ _.
    on_if (λ z. z ≡ true → sort b ≡ s_other) (b == 124) _ _ (λ h z. sort_at b s_other 124 h refl) (λ _.
    on_if (λ z. z ≡ true → sort b ≡ s_other) (b == 42) _ _ (λ h z. sort_at b s_other 42 h refl) (λ _.
    on_if (λ z. z ≡ true → sort b ≡ s_other) (b == 126) _ _ (λ h z. sort_at b s_other 126 h refl) (λ _.
    on_if (λ z. z ≡ true → sort b ≡ s_other) (b == 94) _ _ (λ h z. sort_at b s_other 94 h refl) (λ _.
    on_if (λ z. z ≡ true → sort b ≡ s_other) (b == 43) _ _ (λ h z. sort_at b s_other 43 h refl) (λ _.
    on_if (λ z. z ≡ true → sort b ≡ s_other) (b == 45) _ _ (λ h z. sort_at b s_other 45 h refl) (λ _.
    λ z. absurd (cc))))))))))))

triple_sort : (b c d : ℕ) → is_triple b c d ≡ true → sort b ≡ s_other
triple_sort b c d = on_if (λ z. z ≡ true → sort b ≡ s_other) (b == 60) _ _ (λ h z. sort_at b s_other 60 h refl) (λ _.
    on_if (λ z. z ≡ true → sort b ≡ s_other) (b == 62) _ _ (λ h z. sort_at b s_other 62 h refl) (λ _.
    on_if (λ z. z ≡ true → sort b ≡ s_other) (b == 61) _ _ (λ h z. sort_at b s_other 61 h refl) (λ _.
    on_if (λ z. z ≡ true → sort b ≡ s_other) (b == 33) _ _ (λ h z. sort_at b s_other 33 h refl) (λ _.
    λ z. absurd (cc)))))

pub operator_sort : (b : ℕ) (bs : Text) → is_short (b ∷ bs) ≡ true → sort b ≡ s_other
operator_sort b [] h = absurd (cc)
operator_sort b (c ∷ []) h = pair_sort b c h
operator_sort b (c ∷ d ∷ []) h = triple_sort b c d h
operator_sort b (c ∷ d ∷ e ∷ bs) h = absurd (cc)

pub mark_at : (a b : ℕ) (form : Text → Bool) (bs : Text) → marked a form (b ∷ bs) ≡ true → b ≡ a
mark_at a b form bs h = is_number b a (both (b == a) (form bs) h).0

-- a line comment or a block comment begins with a `/`
pub line_at : (b : ℕ) (bs : Text) → is_line_comment (b ∷ bs) ≡ true → b ≡ 47
line_at b [] h = absurd (cc)
line_at b (c ∷ cs) h = is_number b 47 (both (b == 47) ((c == 47) && list_all other_than_newline cs) h).0

pub join_at : (b : ℕ) (bs : Text) → is_join (b ∷ bs) ≡ true → b ≡ 92
join_at b [] h = absurd (cc)
join_at b (c ∷ []) h = is_number b 92 (both (b == 92) (c == 10) h).0
join_at b (c ∷ d ∷ []) h = is_number b 92 (both (b == 92) ((c == 13) && (d == 10)) h).0
join_at b (c ∷ d ∷ e ∷ bs) h = absurd (cc)

-- a based number begins with a digit or a `'`
pub based_at : (b : ℕ) (bs : Text) → IsBasedNumber (b ∷ bs) → (is_digit b ≡ true) ⊎ (b ≡ 39)
based_at b bs n = go n.size n.before n.mark (n.behind ++ n.digits) n.whole n.sized n.based
  where
    go : (size before mark tail : Text) → b ∷ bs ≡ size ++ (before ++ (mark ++ tail)) → IsSize size before → is_base_mark mark ≡ true → (is_digit b ≡ true) ⊎ (b ≡ 39)
    go [] before mark tail e (inl d) m = absurd (cc)
    go (x ∷ xs) before mark tail e (inl d) m = let same : x ≡ b = cc in inl (ap is_digit (sym same) ∙ (both (is_digit x) (list_all is_decimal xs) d).0)
    go size before mark tail e (inr z) m =
        let f : b ∷ bs ≡ mark ++ tail = e ∙ (ap (λ s. s ++ (before ++ (mark ++ tail))) z.0 ∙ ap (λ s. s ++ (mark ++ tail)) z.1) in
        inr (ap first f ∙ mark_first mark tail m)

based_of : (b : ℕ) (bs : Text) → IsBasedNumber (b ∷ bs) → (is_digit b ≡ true) ⊎ (b ≡ 39) → Of (sort b) (b ∷ bs)
based_of b bs n (inl d) = rw (sort_digit b d) (inr n)
based_of b bs n (inr e) = let s : sort b ≡ s_tick = ap sort e in rw s (inr n)

tokens : (b : ℕ) (bs : Text) (kind : TokenKind) → IsToken kind (b ∷ bs) → Of (sort b) (b ∷ bs)
tokens b bs k.Name h = let s = sort_letter b (both (is_letter b) (list_all is_name bs) h).0 in rw s h
tokens b bs k.Escaped h = let s : sort b ≡ s_backslash = ap sort (mark_at 92 b (is_run is_graphic) bs h) in rw s (inr h)
tokens b bs k.System h = let s : sort b ≡ s_dollar = ap sort (mark_at 36 b (is_run is_name) bs h) in rw s (inr h)
tokens b bs k.Directive h = let s : sort b ≡ s_backquote = ap sort (mark_at 96 b (begins is_letter is_name) bs h) in rw s h
tokens b bs k.Number (inl h) = let s = sort_digit b (both (is_digit b) (list_all is_decimal bs) h).0 in rw s (inl h)
tokens b bs k.Number (inr h) = based_of b bs h (based_at b bs h)
tokens b bs k.Quoted h = let e : b ≡ 34 = cc (h.1) in let s : sort b ≡ s_quote = ap sort e in rw s h
tokens b bs k.Operator h = let o = listed_short (b ∷ bs) h in let s = operator_sort b bs o in rw s (inr o)
tokens b bs k.Single h = mark_of b bs (one_long is_mark (b ∷ bs) h) h (sort_mark b (one_byte is_mark b bs h))

fitting : (b : ℕ) (bs : Text) → Fits (b ∷ bs) → Of (sort b) (b ∷ bs)
fitting b bs (fits_space (inl h)) = let s = sort_space b (one_byte is_space b bs h) in rw s (one_long is_space (b ∷ bs) h)
fitting b bs (fits_space (inr (inl h))) = let s : sort b ≡ s_slash = ap sort (line_at b bs h) in rw s (inr (inl h))
fitting b bs (fits_space (inr (inr h))) = let e : b ≡ 47 = cc (h.1) in let s : sort b ≡ s_slash = ap sort e in rw s (inr (inr h))
fitting b bs (fits_join h) = let s : sort b ≡ s_backslash = ap sort (join_at b bs h) in rw s (inl h)
fitting b bs (fits_token kind h) = tokens b bs kind h

pub nothing_empty : Fits [] → ⊥
nothing_empty (fits_space (inl h)) = cc
nothing_empty (fits_space (inr (inl h))) = cc
nothing_empty (fits_space (inr (inr h))) = cc (h.1)
nothing_empty (fits_join h) = cc
nothing_empty (fits_token k.Name h) = cc
nothing_empty (fits_token k.Escaped h) = cc
nothing_empty (fits_token k.System h) = cc
nothing_empty (fits_token k.Directive h) = cc
nothing_empty (fits_token k.Number (inl h)) = cc
nothing_empty (fits_token k.Number (inr n)) = based_empty n
  where
    based_empty : IsBasedNumber [] → ⊥
    based_empty n = omega (arith, ap length n.whole, long n.mark n.based, length-append n.size (n.before ++ (n.mark ++ (n.behind ++ n.digits))), length-append n.before (n.mark ++ (n.behind ++ n.digits)), length-append n.mark (n.behind ++ n.digits))
      where
        long : (mark : Text) → is_base_mark mark ≡ true → 0 < length mark
        long [] h = absurd (cc)
        long (x ∷ xs) h = omega arith
nothing_empty (fits_token k.Quoted h) = cc (h.1)
nothing_empty (fits_token k.Operator h) = let o = listed_short [] h in cc
nothing_empty (fits_token k.Single h) = cc

-- what fits at the front, by the sort of the first byte
pub reach : (b : ℕ) (bs : Text) (s : Sort) → sort b ≡ s → (front rest : Text) → b ∷ bs ≡ front ++ rest → Fits front → (more : Text) × (front ≡ b ∷ more) × (bs ≡ more ++ rest) × Of s (b ∷ more)
reach b bs s e [] rest same fits = absurd (nothing_empty fits)
reach b bs s e (x ∷ more) rest same fits =
    let h : x ≡ b = cc in
    let t : bs ≡ more ++ rest = cc in
    let f : Fits (b ∷ more) = subst (λ z. Fits (z ∷ more)) h fits in
    (more, ap (λ z. z ∷ more) h, t, subst (λ z. Of z (b ∷ more)) e (fitting b more f))

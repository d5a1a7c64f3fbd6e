-- Each piece is right: it has the form of its kind, and nothing longer fits.
use Rattle.std.proofs.Common.{◌≡◌, ℕ, suc, ◌+◌, ◌<◌, ◌≤◌, ◌==◌, Bool, true, false, ◌&&◌, ◌⊎◌, inl, inr, not, if◌then◌else◌, Option, Some, None, [], ◌∷◌, ◌++◌, length, drop, refl, ap, sym, ◌∙◌, subst, append_assoc, arith}
use Rattle.std.specs.List.{prefix_len, list_all}
use Rattle.std.proofs.lemmas.List.{length-append}
use Rattle.std.proofs.lemmas.Bool.Decides.{nat_tests}
use Rattle.vl_tree.specs.declared.tokens.TokenKind.TheVariants as k
use Rattle.vl_lex.specs.declared.pieces.Piece.{Piece}
use Rattle.vl_lex.specs.declared.pieces.Piece.TheVariants as p
use Rattle.vl_lex.specs.Bytes.{Text, first, other_than_newline, is_space, is_digit, is_letter, is_name, is_decimal, is_graphic}
use Rattle.vl_lex.specs.Pieces.{base_len, number_len, comment_end, quote_end, is_pair, is_triple, operator_piece, closed_space, slash_piece, closed_quote, quote_piece, backslash_piece, dollar_piece, directive_piece, tick_piece, mark_piece, piece}
use Rattle.vl_lex.specs.Forms.{begins, is_run, marked, is_join, is_line_comment, never_closes, IsBlockComment, is_quotable, IsString, blank_none, is_decimal_number, is_base_mark, IsSize, IsBasedNumber, is_mark, IsToken, IsSpace, Longest, NothingFits, NeverEnds}
use Rattle.vl_lex.proofs.Runs.{on_if, both, pair, negated, is_number, Run, split_run, run_reaches}
use Rattle.vl_lex.proofs.Based.{sized_reaches, base_reaches, mark_first, more_digits, Base, split_base, split_number}
use Rattle.vl_lex.proofs.Reach.{pair_there, triple_there}
use Rattle.vl_lex.proofs.Fitting.{Sort, s_space, s_letter, s_digit, s_slash, s_backslash, s_quote, s_dollar, s_backquote, s_tick, s_other, sort, Of, reach}
use Rattle.vl_lex.proofs.Operators.{is_short, pairs, triples}

abbrev pub Good : Text → (Text → Type 0) → ℕ → Type 0
Good text form n = (front : Text) × (rest : Text) × (text ≡ front ++ rest) × (length front ≡ n) × (0 < n) × form front × Longest text front

-- a piece is what the text begins with
abbrev pub IsRight : Text → Piece → Type 0
IsRight text (p.Space n) = Good text IsSpace n
IsRight text (p.Join n) = Good text (λ z. is_join z ≡ true) n
IsRight text (p.Token kind n) = Good text (IsToken kind) n
IsRight text p.Bad = NothingFits text
IsRight text p.Unclosed = NeverEnds text

longest : (b : ℕ) (bs : Text) (s : Sort) (front : Text) → sort b ≡ s → ((more rest : Text) → bs ≡ more ++ rest → Of s (b ∷ more) → suc (length more) ≤ length front) → Longest (b ∷ bs) front
longest b bs s front e f other rest same fits = let r = reach b bs s e other rest same fits in subst (λ z. length z ≤ length front) (sym r.1) (f r.0 rest r.2 r.3)

nothing : (b : ℕ) (bs : Text) (s : Sort) → sort b ≡ s → ((more rest : Text) → bs ≡ more ++ rest → Of s (b ∷ more) → ⊥) → NothingFits (b ∷ bs)
nothing b bs s e f other rest same fits = let r = reach b bs s e other rest same fits in f r.0 rest r.2 r.3

-- a text that begins with a byte
starts : (bs : Text) (a : ℕ) → (first bs == a) ≡ true → 0 < a → (cs : Text) × (bs ≡ a ∷ cs)
starts [] a h l = absurd (let e = is_number 0 a h in omega arith)
starts (x ∷ xs) a h l = (xs, ap (λ z. z ∷ xs) (is_number x a h))

space_right : (b : ℕ) (bs : Text) → sort b ≡ s_space → is_space b ≡ true → IsRight (b ∷ bs) (p.Space 1)
space_right b bs s h = (b ∷ [], bs, refl, refl, omega arith, inl h, longest b bs s_space (b ∷ []) s (λ more rest e l. l))

within_run : (q : ℕ → Bool) (bs more rest : Text) (n : ℕ) → bs ≡ more ++ rest → list_all q more ≡ true → prefix_len q bs ≡ n → length more ≤ n
within_run q bs more rest n e h f = let r = run_reaches q more rest h in let g = ap (prefix_len q) e in omega arith

above : (n : ℕ) → (n == 0) ≡ false → 0 < n
above n h = grind (arith, nat_tests)

some_run : (q : ℕ → Bool) (run : Text) (n : ℕ) → list_all q run ≡ true → length run ≡ n → (n == 0) ≡ false → is_run q run ≡ true
some_run q [] n h e z = absurd (let k : (0 == 0) ≡ false = ap (λ m. m == 0) e ∙ z in cc)
some_run q (x ∷ xs) n h e z = h

name_right : (b : ℕ) (bs : Text) → sort b ≡ s_letter → is_letter b ≡ true → IsRight (b ∷ bs) (p.Token k.Name (1 + prefix_len is_name bs))
name_right b bs s h =
    let r = split_run is_name bs in (
      b ∷ r.0,
      r.1,
      ap (λ z. b ∷ z) r.2,
      omega (arith, r.4),
      omega arith,
      pair (is_letter b) (list_all is_name r.0) h r.3,
      longest b bs s_letter (b ∷ r.0) s (λ more rest e o. omega (arith, within_run is_name bs more rest (length r.0) e (both (is_letter b) (list_all is_name more) o).1 (sym r.4))),
    )

-- a based number has a size, or begins with its base
sized_or_not : (b : ℕ) (more : Text) (n : IsBasedNumber (b ∷ more)) → (is_decimal_number n.size ≡ true) ⊎ ((b ≡ 39) × (b ∷ more ≡ n.mark ++ (n.behind ++ n.digits)))
sized_or_not b more n = go n.size n.before n.mark (n.behind ++ n.digits) n.whole n.sized n.based
  where
    go : (size before mark tail : Text) → b ∷ more ≡ size ++ (before ++ (mark ++ tail)) → IsSize size before → is_base_mark mark ≡ true → (is_decimal_number size ≡ true) ⊎ ((b ≡ 39) × (b ∷ more ≡ mark ++ tail))
    go size before mark tail e (inl d) m = inl d
    go size before mark tail e (inr z) m =
        let f : b ∷ more ≡ mark ++ tail = e ∙ (ap (λ s. s ++ (before ++ (mark ++ tail))) z.0 ∙ ap (λ s. s ++ (mark ++ tail)) z.1) in
        inr (ap first f ∙ mark_first mark tail m, f)

sized_within : (b : ℕ) (bs more rest : Text) (n : IsBasedNumber (b ∷ more)) → bs ≡ more ++ rest → is_decimal_number n.size ≡ true → suc (length more) ≤ number_len (b ∷ bs)
sized_within b bs more rest n e d =
    let r = sized_reaches n.size n.before n.mark n.behind n.digits rest d n.blank_before n.based n.blank_behind n.valued in
    let whole : b ∷ bs ≡ n.size ++ (n.before ++ (n.mark ++ (n.behind ++ (n.digits ++ rest)))) =
    ap (λ z. b ∷ z) e ∙ (ap (λ z. z ++ rest) n.whole ∙ simp append_assoc) in
    let l : suc (length more) ≡ length n.size + (length n.before + (length n.mark + (length n.behind + length n.digits))) = ap length n.whole ∙ simp length-append in
    let f = ap number_len whole in
    omega arith

base_within : (b : ℕ) (bs more rest : Text) (n : IsBasedNumber (b ∷ more)) → bs ≡ more ++ rest → b ∷ more ≡ n.mark ++ (n.behind ++ n.digits) → suc (length more) ≤ base_len (b ∷ bs)
base_within b bs more rest n e m =
    let r = base_reaches n.mark n.behind n.digits rest n.based n.blank_behind n.valued in
    let whole : b ∷ bs ≡ n.mark ++ (n.behind ++ (n.digits ++ rest)) = ap (λ z. b ∷ z) e ∙ (ap (λ z. z ++ rest) m ∙ simp append_assoc) in
    let l : suc (length more) ≡ length n.mark + (length n.behind + length n.digits) = ap length m ∙ simp length-append in
    let f = ap base_len whole in
    omega arith

number_within : (b : ℕ) (bs more rest : Text) → is_digit b ≡ true → bs ≡ more ++ rest → (is_decimal_number (b ∷ more) ≡ true) ⊎ IsBasedNumber (b ∷ more) → suc (length more) ≤ number_len (b ∷ bs)
number_within b bs more rest d e (inl h) =
    let t = both (is_digit b) (list_all is_decimal more) h in
    let dec : is_decimal b ≡ true = rw d refl in
    let r = within_run is_decimal (b ∷ bs) (b ∷ more) rest (prefix_len is_decimal (b ∷ bs)) (ap (λ z. b ∷ z) e) (pair (is_decimal b) (list_all is_decimal more) dec t.1) refl in
    omega (arith, more_digits (b ∷ bs), r)
number_within b bs more rest d e (inr n) =
    elim (sized_or_not b more n) [
      | inl s ↦ sized_within b bs more rest n e s
      | inr z ↦ absurd (let q : is_digit 39 ≡ true = ap is_digit (sym z.0) ∙ d in cc)
    ]

number_right : (b : ℕ) (bs : Text) → sort b ≡ s_digit → is_digit b ≡ true → IsRight (b ∷ bs) (p.Token k.Number (number_len (b ∷ bs)))
number_right b bs s d =
    let r = split_number b bs d in
    let one : 0 < prefix_len is_decimal (b ∷ bs) = (let dec : is_decimal b ≡ true = rw d refl in rw dec (omega arith)) in (
      r.0,
      r.1,
      r.2,
      r.4,
      omega (arith, more_digits (b ∷ bs)),
      r.3,
      longest b bs s_digit r.0 s (λ more rest e o. omega (arith, r.4, number_within b bs more rest d e o)),
    )

-- comments

not_both : (o : Option ℕ) (m : ℕ) → o ≡ None → o ≡ Some m → ⊥
not_both o m e f = cc

abbrev pub Ends : Bool → Text → Type 0
Ends star body = ((inner : Text) × (body ≡ inner ++ 42 ∷ [])) ⊎ ((body ≡ []) × (star ≡ true))

-- what the search for the end of a comment found
abbrev pub Closed : ℕ → Bool → Text → Option ℕ → Type 0
Closed n star bs None = (inner rest : Text) → bs ≡ inner ++ 42 ∷ 47 ∷ rest → never_closes star (inner ++ 42 ∷ []) ≡ true → ⊥
Closed n star bs (Some e) = (body : Text) × (rest : Text) × (bs ≡ body ++ 47 ∷ rest) × (never_closes star body ≡ true) × Ends star body × (e ≡ n + suc (length body))

closes_at : (n : ℕ) (star : Bool) (inner rest : Text) → never_closes star (inner ++ 42 ∷ []) ≡ true → comment_end n star (inner ++ 42 ∷ 47 ∷ rest) ≡ Some (n + suc (suc (length inner)))
closes_at n true [] rest h = let e : n + 1 + 1 ≡ n + 2 = omega arith in ap (λ z. Some z) e
closes_at n false [] rest h = let e : n + 1 + 1 ≡ n + 2 = omega arith in ap (λ z. Some z) e
closes_at n star (x ∷ xs) rest h =
    let t = both (not (star && (x == 47))) (never_closes (x == 42) (xs ++ 42 ∷ [])) h in
    let f = negated (star && (x == 47)) t.0 in
    let k = closes_at (n + 1) (x == 42) xs rest t.1 in
    let e : n + 1 + suc (suc (length xs)) ≡ n + suc (suc (suc (length xs))) = omega arith in
    rw f (k ∙ ap (λ z. Some z) e)

ends_more : (b : ℕ) (star : Bool) (body : Text) → Ends (b == 42) body → Ends star (b ∷ body)
ends_more b star body (inl i) = inl (b ∷ i.0, ap (λ z. b ∷ z) i.1)
ends_more b star body (inr i) = inl ([], ap (λ z. z ∷ body) (is_number b 42 i.1) ∙ ap (λ z. 42 ∷ z) i.0)

-- the search found none
no_comment : (n : ℕ) (star : Bool) (bs : Text) → comment_end n star bs ≡ None → Closed n star bs None
no_comment n star bs is inner rest e h = let k = closes_at n star inner rest h in not_both _ (n + suc (suc (length inner))) is (ap (comment_end n star) e ∙ k)

closed_step : (n : ℕ) (star : Bool) (b : ℕ) (bs : Text) (o : Option ℕ) → (star && (b == 47)) ≡ false → comment_end (n + 1) (b == 42) bs ≡ o → Closed (n + 1) (b == 42) bs o → Closed n star (b ∷ bs) o
closed_step n star b bs None f is c = no_comment n star (b ∷ bs) (rw f is)
closed_step n star b bs (Some m) f is c =
    (b ∷ c.0, c.1, ap (λ z. b ∷ z) c.2, rw f c.3, ends_more b star c.0 c.4, omega (arith, c.5))

closed_here : (n : ℕ) (star : Bool) (b : ℕ) (bs : Text) → (star && (b == 47)) ≡ true → Closed n star (b ∷ bs) (Some (n + 1))
closed_here n star b bs h = let t = both star (b == 47) h in ([], bs, ap (λ z. z ∷ bs) (is_number b 47 t.1), refl, inr (refl, t.0), omega arith)

pub split_comment : (n : ℕ) (star : Bool) (bs : Text) → Closed n star bs (comment_end n star bs)
split_comment n star [] = λ inner rest e h. let l = ap length e in omega (arith, length-append inner (42 ∷ 47 ∷ rest))
split_comment n star (b ∷ bs) =
    on_if (Closed n star (b ∷ bs)) (star && (b == 47)) (Some (n + 1)) (comment_end (n + 1) (b == 42) bs)
    (λ h. closed_here n star b bs h) (λ f. closed_step n star b bs (comment_end (n + 1) (b == 42) bs) f refl (split_comment (n + 1) (b == 42) bs))

-- strings

abbrev pub Quoted : ℕ → Bool → Text → Option ℕ → Type 0
Quoted n g bs None = (inner rest : Text) → bs ≡ inner ++ 34 ∷ rest → is_quotable g inner ≡ true → ⊥
Quoted n g bs (Some e) = (inner : Text) × (rest : Text) × (bs ≡ inner ++ 34 ∷ rest) × (is_quotable g inner ≡ true) × (e ≡ n + suc (length inner))

quotes_at : (n : ℕ) (g : Bool) (inner rest : Text) → is_quotable g inner ≡ true → quote_end n g (inner ++ 34 ∷ rest) ≡ Some (n + suc (length inner))
quotes_at n true [] rest h = absurd (cc)
quotes_at n false [] rest h = refl
quotes_at n true (x ∷ xs) rest h =
    let t = both (not (x == 10)) (is_quotable false xs) h in
    let f = negated (x == 10) t.0 in
    let k = quotes_at (n + 1) false xs rest t.1 in
    let e : n + 1 + suc (length xs) ≡ n + suc (suc (length xs)) = omega arith in
    rw f (k ∙ ap (λ z. Some z) e)
quotes_at n false (x ∷ xs) rest h =
    let t = both (not (x == 10)) (not (x == 34) && is_quotable (x == 92) xs) h in
    let u = both (not (x == 34)) (is_quotable (x == 92) xs) t.1 in
    let f = negated (x == 10) t.0 in
    let q = negated (x == 34) u.0 in
    let k = quotes_at (n + 1) (x == 92) xs rest u.1 in
    let e : n + 1 + suc (length xs) ≡ n + suc (suc (length xs)) = omega arith in
    rw (f, q) (k ∙ ap (λ z. Some z) e)

-- the search found none
no_quote : (n : ℕ) (g : Bool) (bs : Text) → quote_end n g bs ≡ None → Quoted n g bs None
no_quote n g bs is inner rest e h = let k = quotes_at n g inner rest h in not_both _ (n + suc (length inner)) is (ap (quote_end n g) e ∙ k)

quoted_plain : (n : ℕ) (b : ℕ) (bs : Text) (o : Option ℕ) → (b == 10) ≡ false → (b == 34) ≡ false → quote_end n false (b ∷ bs) ≡ o → Quoted (n + 1) (b == 92) bs o → Quoted n false (b ∷ bs) o
quoted_plain n b bs None f q is c = no_quote n false (b ∷ bs) is
quoted_plain n b bs (Some m) f q is c = (b ∷ c.0, c.1, ap (λ z. b ∷ z) c.2, rw (f, q) c.3, omega (arith, c.4))

quoted_guarded : (n : ℕ) (b : ℕ) (bs : Text) (o : Option ℕ) → (b == 10) ≡ false → quote_end n true (b ∷ bs) ≡ o → Quoted (n + 1) false bs o → Quoted n true (b ∷ bs) o
quoted_guarded n b bs None f is c = no_quote n true (b ∷ bs) is
quoted_guarded n b bs (Some m) f is c = (b ∷ c.0, c.1, ap (λ z. b ∷ z) c.2, rw f c.3, omega (arith, c.4))

split_quote : (n : ℕ) (g : Bool) (bs : Text) → Quoted n g bs (quote_end n g bs)
split_quote n g [] = λ inner rest e h. let l = ap length e in omega (arith, length-append inner (34 ∷ rest))
split_quote n true (b ∷ bs) =
    on_if (Quoted n true (b ∷ bs)) (b == 10) None (quote_end (n + 1) false bs)
    (λ h. no_quote n true (b ∷ bs) (rw h refl)) (λ f. quoted_guarded n b bs (quote_end (n + 1) false bs) f (rw f refl) (split_quote (n + 1) false bs))
split_quote n false (b ∷ bs) =
    on_if (Quoted n false (b ∷ bs)) (b == 10) None (if b == 34 then Some (n + 1) else quote_end (n + 1) (b == 92) bs)
    (λ h. no_quote n false (b ∷ bs) (rw h refl))
    (λ f. on_if (Quoted n false (b ∷ bs)) (b == 34) (Some (n + 1)) (quote_end (n + 1) (b == 92) bs)
    (λ q. ([], bs, ap (λ z. z ∷ bs) (is_number b 34 q), refl, omega arith))
    (λ q. quoted_plain n b bs (quote_end (n + 1) (b == 92) bs) f q (rw (f, q) refl) (split_quote (n + 1) (b == 92) bs)))

-- behind a `/`

-- a comment of the other kind begins otherwise
pub line_second : (more : Text) → is_line_comment (47 ∷ more) ≡ true → first more ≡ 47
line_second [] h = absurd (cc)
line_second (y ∷ ys) h = is_number y 47 (both (y == 47) (list_all other_than_newline ys) h).0

line_rest : (more : Text) → is_line_comment (47 ∷ more) ≡ true → list_all other_than_newline (drop 1 more) ≡ true
line_rest [] h = refl
line_rest (y ∷ ys) h = (both (y == 47) (list_all other_than_newline ys) h).1

block_second : (more : Text) → IsBlockComment (47 ∷ more) → first more ≡ 42
block_second more c = let e : more ≡ 42 ∷ (c.0 ++ 42 ∷ 47 ∷ []) = cc (c.1) in ap first e

first_of_front : (bs more rest : Text) → bs ≡ more ++ rest → 0 < length more → first bs ≡ first more
first_of_front bs [] rest e h = absurd (omega arith)
first_of_front bs (x ∷ xs) rest e h = ap first e

there : (more : Text) (a : ℕ) → first more ≡ a → 0 < a → 0 < length more
there [] a e h = absurd (omega arith)
there (x ∷ xs) a e h = omega arith

line_right : (cs : Text) → IsRight (47 ∷ 47 ∷ cs) (p.Space (1 + prefix_len other_than_newline (47 ∷ cs)))
line_right cs =
    let r = split_run other_than_newline cs in (
      47 ∷ 47 ∷ r.0,
      r.1,
      ap (λ z. 47 ∷ 47 ∷ z) r.2,
      omega (arith, r.4),
      omega arith,
      inr (inl r.3),
      longest 47 (47 ∷ cs) s_slash (47 ∷ 47 ∷ r.0) refl (λ more rest e o. fits more rest (length r.0) e (sym r.4) o),
    )
  where
    fits : (more rest : Text) (n : ℕ) → 47 ∷ cs ≡ more ++ rest → prefix_len other_than_newline cs ≡ n → Of s_slash (47 ∷ more) → suc (length more) ≤ suc (suc n)
    fits more rest n e c (inl l) = omega arith
    fits [] rest n e c (inr (inl l)) = omega arith
    fits (y ∷ ys) rest n e c (inr (inl l)) = let t : cs ≡ ys ++ rest = cc in omega (arith, within_run other_than_newline cs ys rest n t (line_rest (y ∷ ys) l) c)
    fits more rest n e c (inr (inr b)) =
        let f = block_second more b in let g = first_of_front (47 ∷ cs) more rest e (there more 42 f (omega arith)) in absurd (omega arith)

pub block_right : (cs : Text) (o : Option ℕ) → comment_end 0 false cs ≡ o → Closed 0 false cs o → IsRight (47 ∷ 42 ∷ cs) (closed_space o)
block_right cs None is c = inl (cs, refl, λ front rest e b. open_still front rest e b)
  where
    open_still : (front rest : Text) → 47 ∷ 42 ∷ cs ≡ front ++ rest → IsBlockComment front → ⊥
    open_still front rest e b =
        let f : 47 ∷ 42 ∷ cs ≡ 47 ∷ 42 ∷ ((b.0 ++ 42 ∷ 47 ∷ []) ++ rest) = e ∙ ap (λ z. z ++ rest) b.1 in
        let t : cs ≡ (b.0 ++ 42 ∷ 47 ∷ []) ++ rest = cc in
        c b.0 rest (t ∙ append_assoc b.0 (42 ∷ 47 ∷ []) rest) b.2
block_right cs (Some m) is c = closed (c.4)
  where
    fits : (more rest : Text) → 42 ∷ cs ≡ more ++ rest → Of s_slash (47 ∷ more) → suc (length more) ≤ 2 + m
    fits more rest e (inl l) = omega arith
    fits more rest e (inr (inl l)) =
        let f = line_second more l in let g = first_of_front (42 ∷ cs) more rest e (there more 47 f (omega arith)) in absurd (omega arith)
    fits more rest e (inr (inr b)) =
        let d : more ≡ 42 ∷ (b.0 ++ 42 ∷ 47 ∷ []) = cc (b.1) in
        let f : 42 ∷ cs ≡ 42 ∷ ((b.0 ++ 42 ∷ 47 ∷ []) ++ rest) = e ∙ ap (λ z. z ++ rest) d in
        let t : cs ≡ b.0 ++ 42 ∷ 47 ∷ rest = (let u : cs ≡ (b.0 ++ 42 ∷ 47 ∷ []) ++ rest = cc in u ∙ append_assoc b.0 (42 ∷ 47 ∷ []) rest) in
        let k = closes_at 0 false b.0 rest b.2 in
        let same : Some m ≡ Some (0 + suc (suc (length b.0))) = sym is ∙ (ap (comment_end 0 false) t ∙ k) in
        let n : m ≡ 0 + suc (suc (length b.0)) = cc in
        omega (arith, ap length d, length-append b.0 (42 ∷ 47 ∷ []))

    closed : Ends false c.0 → IsRight (47 ∷ 42 ∷ cs) (p.Space (2 + m))
    closed (inl i) =
        let front = 47 ∷ 42 ∷ (i.0 ++ 42 ∷ 47 ∷ []) in
        let body : c.0 ++ 47 ∷ c.1 ≡ (i.0 ++ 42 ∷ 47 ∷ []) ++ c.1 =
        ap (λ z. z ++ 47 ∷ c.1) i.1 ∙ (append_assoc i.0 (42 ∷ []) (47 ∷ c.1) ∙ sym (append_assoc i.0 (42 ∷ 47 ∷ []) c.1)) in
        let never : never_closes false (i.0 ++ 42 ∷ []) ≡ true = ap (never_closes false) (sym i.1) ∙ c.3 in
        let l : length front ≡ 2 + m = omega (arith, length-append i.0 (42 ∷ 47 ∷ []), length-append i.0 (42 ∷ []), ap length i.1, c.5) in (
          front,
          c.1,
          ap (λ z. 47 ∷ 42 ∷ z) (c.2 ∙ body),
          l,
          omega arith,
          inr (inr (i.0, refl, never)),
          longest 47 (42 ∷ cs) s_slash front refl (λ more rest e o. omega (arith, l, fits more rest e o)),
        )
    closed (inr i) = absurd (let z = i.1 in cc)

lone_slash : (bs : Text) → (first bs == 47) ≡ false → (first bs == 42) ≡ false → IsRight (47 ∷ bs) (p.Token k.Single 1)
lone_slash bs f g = (47 ∷ [], bs, refl, refl, omega arith, refl, longest 47 bs s_slash (47 ∷ []) refl (λ more rest e o. fits more rest e o))
  where
    fits : (more rest : Text) → bs ≡ more ++ rest → Of s_slash (47 ∷ more) → suc (length more) ≤ 1
    fits more rest e (inl l) = l
    fits more rest e (inr (inl l)) =
        let h = line_second more l in let i = first_of_front bs more rest e (there more 47 h (omega arith)) in absurd (let j : first bs ≡ 47 = i ∙ h in let q : (47 == 47) ≡ false = ap (λ z. z == 47) (sym j) ∙ f in cc)
    fits more rest e (inr (inr b)) =
        let h = block_second more b in let i = first_of_front bs more rest e (there more 42 h (omega arith)) in absurd (let j : first bs ≡ 42 = i ∙ h in let q : (42 == 42) ≡ false = ap (λ z. z == 42) (sym j) ∙ g in cc)

slash_right : (bs : Text) → IsRight (47 ∷ bs) (slash_piece bs)
unfolding slash_piece
slash_right bs =
    on_if (IsRight (47 ∷ bs)) (first bs == 47) _ _
    (λ h. let s = starts bs 47 h (omega arith) in subst (λ z. IsRight (47 ∷ z) (p.Space (1 + prefix_len other_than_newline z))) (sym s.1) (line_right s.0))
    (λ f. on_if (IsRight (47 ∷ bs)) (first bs == 42) _ _
    (λ h. let s = starts bs 42 h (omega arith) in subst (λ z. IsRight (47 ∷ z) (closed_space (comment_end 0 false (drop 1 z)))) (sym s.1) (block_right s.0 (comment_end 0 false s.0) refl (split_comment 0 false s.0)))
    (λ g. lone_slash bs f g))

-- behind a `"`

pub quote_right : (bs : Text) → IsRight (34 ∷ bs) (quote_piece bs)
unfolding quote_piece
quote_right bs = go (quote_end 0 false bs) refl (split_quote 0 false bs)
  where
    inside : (more : Text) (s : IsString (34 ∷ more)) → more ≡ s.0 ++ 34 ∷ []
    inside more s = cc (s.1)

    go : (o : Option ℕ) → quote_end 0 false bs ≡ o → Quoted 0 false bs o → IsRight (34 ∷ bs) (closed_quote o)
    go None is c = inr (bs, refl, λ front rest e s. open_still front rest e s)
      where
        open_still : (front rest : Text) → 34 ∷ bs ≡ front ++ rest → IsString front → ⊥
        open_still front rest e s =
            let f : 34 ∷ bs ≡ 34 ∷ ((s.0 ++ 34 ∷ []) ++ rest) = e ∙ ap (λ z. z ++ rest) s.1 in
            let t : bs ≡ (s.0 ++ 34 ∷ []) ++ rest = cc in
            c s.0 rest (t ∙ append_assoc s.0 (34 ∷ []) rest) s.2
    go (Some m) is c =
        let front = 34 ∷ (c.0 ++ 34 ∷ []) in
        let l : length front ≡ 1 + m = omega (arith, length-append c.0 (34 ∷ []), c.4) in (
          front,
          c.1,
          ap (λ z. 34 ∷ z) (c.2 ∙ sym (append_assoc c.0 (34 ∷ []) c.1)),
          l,
          omega arith,
          (c.0, refl, c.3),
          longest 34 bs s_quote front refl (λ more rest e o. omega (arith, l, fits more rest e o)),
        )
      where
        fits : (more rest : Text) → bs ≡ more ++ rest → IsString (34 ∷ more) → suc (length more) ≤ 1 + m
        fits more rest e s =
            let d = inside more s in
            let t : bs ≡ s.0 ++ 34 ∷ rest = e ∙ (ap (λ z. z ++ rest) d ∙ append_assoc s.0 (34 ∷ []) rest) in
            let k = quotes_at 0 false s.0 rest s.2 in
            let same : Some m ≡ Some (0 + suc (length s.0)) = sym is ∙ (ap (quote_end 0 false) t ∙ k) in
            let n : m ≡ 0 + suc (length s.0) = cc in
            omega (arith, ap length d, length-append s.0 (34 ∷ []))

-- behind a backslash

join_long : (more : Text) → is_join (92 ∷ more) ≡ true → length more ≤ 2
join_long [] h = absurd (cc)
join_long (x ∷ []) h = omega arith
join_long (x ∷ y ∷ []) h = omega arith
join_long (x ∷ y ∷ z ∷ zs) h = absurd (cc)

-- behind the backslash of a joined newline
join_next : (more : Text) → is_join (92 ∷ more) ≡ true → ((first more ≡ 10) × (length more ≡ 1)) ⊎ ((first more ≡ 13) × (first (drop 1 more) ≡ 10) × (length more ≡ 2))
join_next [] h = absurd (cc)
join_next (x ∷ []) h = inl (is_number x 10 h, refl)
join_next (x ∷ y ∷ []) h = let t = both (x == 13) (y == 10) h in inr (is_number x 13 t.0, is_number y 10 t.1, refl)
join_next (x ∷ y ∷ z ∷ zs) h = absurd (cc)

pub run_first : (q : ℕ → Bool) (more : Text) → is_run q more ≡ true → (q (first more) ≡ true) × (0 < length more) × (list_all q more ≡ true)
run_first q [] h = absurd (cc)
run_first q (x ∷ xs) h = ((both (q x) (list_all q xs) h).0, omega arith, h)

second_of_front : (bs more rest : Text) → bs ≡ more ++ rest → 1 < length more → first (drop 1 bs) ≡ first (drop 1 more)
second_of_front bs [] rest e h = absurd (omega arith)
second_of_front bs (x ∷ []) rest e h = absurd (omega arith)
second_of_front bs (x ∷ y ∷ ys) rest e h = ap (λ z. first (drop 1 z)) e

escaped_not : (bs more rest : Text) (a : ℕ) → bs ≡ more ++ rest → first bs ≡ a → is_graphic a ≡ false → is_run is_graphic more ≡ true → ⊥
escaped_not bs more rest a e f g h =
    let r = run_first is_graphic more h in
    let i = first_of_front bs more rest e r.1 in
    let j : is_graphic a ≡ true = ap is_graphic (sym f ∙ i) ∙ r.0 in cc

joined_newline : (cs : Text) → IsRight (92 ∷ 10 ∷ cs) (p.Join 2)
joined_newline cs = (92 ∷ 10 ∷ [], cs, refl, refl, omega arith, refl, longest 92 (10 ∷ cs) s_backslash (92 ∷ 10 ∷ []) refl (λ more rest e o. fits more rest e o))
  where
    fits : (more rest : Text) → 10 ∷ cs ≡ more ++ rest → Of s_backslash (92 ∷ more) → suc (length more) ≤ 2
    fits more rest e (inl h) = elim (join_next more h) [
      | inl i ↦ omega (arith, i.1)
      | inr i ↦ absurd (let f = first_of_front (10 ∷ cs) more rest e (omega (arith, i.2)) in omega (arith, f, i.0))
    ]
    fits more rest e (inr h) = absurd (escaped_not (10 ∷ cs) more rest 10 e refl refl h)

joined_return : (cs : Text) → IsRight (92 ∷ 13 ∷ 10 ∷ cs) (p.Join 3)
joined_return cs = (92 ∷ 13 ∷ 10 ∷ [], cs, refl, refl, omega arith, refl, longest 92 (13 ∷ 10 ∷ cs) s_backslash (92 ∷ 13 ∷ 10 ∷ []) refl (λ more rest e o. fits more rest e o))
  where
    fits : (more rest : Text) → 13 ∷ 10 ∷ cs ≡ more ++ rest → Of s_backslash (92 ∷ more) → suc (length more) ≤ 3
    fits more rest e (inl h) = omega (arith, join_long more h)
    fits more rest e (inr h) = absurd (escaped_not (13 ∷ 10 ∷ cs) more rest 13 e refl refl h)

-- a backslash joins nothing
no_join : (bs more rest : Text) → (first bs == 10) ≡ false → (first bs == 13 && first (drop 1 bs) == 10) ≡ false → bs ≡ more ++ rest → is_join (92 ∷ more) ≡ true → ⊥
no_join bs more rest f g e h = elim (join_next more h) [
  | inl i ↦ (let j = first_of_front bs more rest e (omega (arith, i.1)) in let q : (10 == 10) ≡ false = ap (λ z. z == 10) (sym (j ∙ i.0)) ∙ f in cc)
  | inr i ↦ (let j = first_of_front bs more rest e (omega (arith, i.2)) in let l = second_of_front bs more rest e (omega (arith, i.2)) in
      contradict (first bs) (first (drop 1 bs)) (j ∙ i.0) (l ∙ i.1) g)
]
  where
    contradict : (a b : ℕ) → a ≡ 13 → b ≡ 10 → (a == 13 && b == 10) ≡ false → ⊥
    contradict a b p q h = let r : (13 == 13 && 10 == 10) ≡ false = ap (λ z. z == 13 && 10 == 10) (sym p) ∙ (ap (λ z. a == 13 && z == 10) (sym q) ∙ h) in cc

escaped_right : (bs : Text) → (first bs == 10) ≡ false → (first bs == 13 && first (drop 1 bs) == 10) ≡ false → IsRight (92 ∷ bs) (if prefix_len is_graphic bs == 0 then p.Bad else p.Token k.Escaped (1 + prefix_len is_graphic bs))
escaped_right bs f g =
    on_if (IsRight (92 ∷ bs)) (prefix_len is_graphic bs == 0) p.Bad (p.Token k.Escaped (1 + prefix_len is_graphic bs))
    (λ h. nothing 92 bs s_backslash refl (λ more rest e o. none more rest (is_number (prefix_len is_graphic bs) 0 h) e o))
    (λ h. some (split_run is_graphic bs) h)
  where
    none : (more rest : Text) → prefix_len is_graphic bs ≡ 0 → bs ≡ more ++ rest → Of s_backslash (92 ∷ more) → ⊥
    none more rest z e (inl h) = no_join bs more rest f g e h
    none more rest z e (inr h) = let r = run_first is_graphic more h in omega (arith, r.1, within_run is_graphic bs more rest 0 e r.2 z)

    fits : (more rest : Text) → bs ≡ more ++ rest → Of s_backslash (92 ∷ more) → length more ≤ prefix_len is_graphic bs
    fits more rest e (inl h) = absurd (no_join bs more rest f g e h)
    fits more rest e (inr h) = within_run is_graphic bs more rest (prefix_len is_graphic bs) e (run_first is_graphic more h).2 refl

    some : Run is_graphic bs → (prefix_len is_graphic bs == 0) ≡ false → IsRight (92 ∷ bs) (p.Token k.Escaped (1 + prefix_len is_graphic bs))
    some r z = (
      92 ∷ r.0,
      r.1,
      ap (λ z. 92 ∷ z) r.2,
      omega (arith, r.4),
      omega arith,
      some_run is_graphic r.0 (prefix_len is_graphic bs) r.3 r.4 z,
      longest 92 bs s_backslash (92 ∷ r.0) refl (λ more rest e o. omega (arith, r.4, fits more rest e o)),
    )

backslash_right : (bs : Text) → IsRight (92 ∷ bs) (backslash_piece bs)
unfolding backslash_piece
backslash_right bs =
    on_if (λ j. IsRight (92 ∷ bs) (if not (j == 0) then p.Join j else behind)) (first bs == 10) 2 _
    (λ h. let s = starts bs 10 h (omega arith) in subst (λ z. IsRight (92 ∷ z) (p.Join 2)) (sym s.1) (joined_newline s.0))
    (λ f. on_if (λ j. IsRight (92 ∷ bs) (if not (j == 0) then p.Join j else behind)) (first bs == 13 && first (drop 1 bs) == 10) 3 0
    (λ h. returned (both (first bs == 13) (first (drop 1 bs) == 10) h))
    (λ g. escaped_right bs f g))
  where
    behind : Piece
    behind = if prefix_len is_graphic bs == 0 then p.Bad else p.Token k.Escaped (1 + prefix_len is_graphic bs)

    returned : ((first bs == 13) ≡ true) × ((first (drop 1 bs) == 10) ≡ true) → IsRight (92 ∷ bs) (p.Join 3)
    returned t =
        let s = starts bs 13 t.0 (omega arith) in
        let u = starts s.0 10 (ap (λ z. first (drop 1 z) == 10) (sym s.1) ∙ t.1) (omega arith) in
        subst (λ z. IsRight (92 ∷ z) (p.Join 3)) (sym (s.1 ∙ ap (λ z. 13 ∷ z) u.1)) (joined_return u.0)

-- behind a `$`

marked_rest : (a : ℕ) (form : Text → Bool) (more : Text) → marked a form (a ∷ more) ≡ true → form more ≡ true
marked_rest a form more h = (both (a == a) (form more) h).1

dollar_right : (bs : Text) → IsRight (36 ∷ bs) (dollar_piece bs)
unfolding dollar_piece
dollar_right bs =
    on_if (IsRight (36 ∷ bs)) (prefix_len is_name bs == 0) (p.Token k.Single 1) (p.Token k.System (1 + prefix_len is_name bs))
    (λ h. (36 ∷ [], bs, refl, refl, omega arith, refl, longest 36 bs s_dollar (36 ∷ []) refl (λ more rest e o. alone more rest (is_number (prefix_len is_name bs) 0 h) e o)))
    (λ h. some (split_run is_name bs) h)
  where
    alone : (more rest : Text) → prefix_len is_name bs ≡ 0 → bs ≡ more ++ rest → Of s_dollar (36 ∷ more) → suc (length more) ≤ 1
    alone more rest z e (inl l) = l
    alone more rest z e (inr h) = let r = run_first is_name more h in absurd (omega (arith, r.1, within_run is_name bs more rest 0 e r.2 z))

    fits : (more rest : Text) (n : ℕ) → prefix_len is_name bs ≡ n → 0 < n → bs ≡ more ++ rest → Of s_dollar (36 ∷ more) → length more ≤ n
    fits more rest n z l e (inl h) = omega arith
    fits more rest n z l e (inr h) = within_run is_name bs more rest n e (run_first is_name more h).2 z

    some : Run is_name bs → (prefix_len is_name bs == 0) ≡ false → IsRight (36 ∷ bs) (p.Token k.System (1 + prefix_len is_name bs))
    some r z = (
      36 ∷ r.0,
      r.1,
      ap (λ z. 36 ∷ z) r.2,
      omega (arith, r.4),
      omega arith,
      some_run is_name r.0 (prefix_len is_name bs) r.3 r.4 z,
      longest 36 bs s_dollar (36 ∷ r.0) refl (λ more rest e o. omega (arith, r.4, fits more rest (prefix_len is_name bs) refl (above (prefix_len is_name bs) z) e o)),
    )

-- behind a backquote

letter_name : (b : ℕ) → is_letter b ≡ true → is_name b ≡ true
letter_name b h = rw h refl

name_first : (more : Text) → begins is_letter is_name more ≡ true → (is_letter (first more) ≡ true) × (0 < length more) × (list_all is_name more ≡ true)
name_first [] h = absurd (cc)
name_first (x ∷ xs) h = let t = both (is_letter x) (list_all is_name xs) h in (t.0, omega arith, pair (is_name x) (list_all is_name xs) (letter_name x t.0) t.1)

directive_right : (bs : Text) → IsRight (96 ∷ bs) (directive_piece bs)
unfolding directive_piece
directive_right bs =
    on_if (IsRight (96 ∷ bs)) (is_letter (first bs)) (p.Token k.Directive (1 + prefix_len is_name bs)) p.Bad
    (λ h. some bs h) (λ h. nothing 96 bs s_backquote refl (λ more rest e o. none more rest h e o))
  where
    none : (more rest : Text) → is_letter (first bs) ≡ false → bs ≡ more ++ rest → Of s_backquote (96 ∷ more) → ⊥
    none more rest h e o =
        let r = name_first more o in
        let i = first_of_front bs more rest e r.1 in
        let q : is_letter (first bs) ≡ true = ap is_letter i ∙ r.0 in cc

    some : (bs : Text) → is_letter (first bs) ≡ true → IsRight (96 ∷ bs) (p.Token k.Directive (1 + prefix_len is_name bs))
    some [] h = absurd (cc)
    some (c ∷ cs) h =
        let r = split_run is_name cs in
        let n : prefix_len is_name (c ∷ cs) ≡ 1 + prefix_len is_name cs = rw (letter_name c h) refl in (
          96 ∷ c ∷ r.0,
          r.1,
          ap (λ z. 96 ∷ c ∷ z) r.2,
          omega (arith, r.4, n),
          omega arith,
          pair (is_letter c) (list_all is_name r.0) h r.3,
          longest 96 (c ∷ cs) s_backquote (96 ∷ c ∷ r.0) refl (λ more rest e o. omega (arith, r.4, n, within_run is_name (c ∷ cs) more rest (prefix_len is_name (c ∷ cs)) e (name_first more o).2 refl)),
        )

-- from a `'` on

tick_right : (bs : Text) → IsRight (39 ∷ bs) (tick_piece (39 ∷ bs))
unfolding tick_piece
tick_right bs =
    on_if (IsRight (39 ∷ bs)) (base_len (39 ∷ bs) == 0) (p.Token k.Single 1) (p.Token k.Number (base_len (39 ∷ bs)))
    (λ h. (39 ∷ [], bs, refl, refl, omega arith, refl, longest 39 bs s_tick (39 ∷ []) refl (λ more rest e o. within more rest e o (is_number (base_len (39 ∷ bs)) 0 h))))
    (λ h. some (base_len (39 ∷ bs)) refl (above (base_len (39 ∷ bs)) h) (split_base (39 ∷ bs) (above (base_len (39 ∷ bs)) h)))
  where
    counted : (more rest : Text) → bs ≡ more ++ rest → IsBasedNumber (39 ∷ more) → suc (length more) ≤ base_len (39 ∷ bs)
    counted more rest e n = elim (sized_or_not 39 more n) [
      | inl s ↦ absurd (no_digit n.size n.before (n.mark ++ (n.behind ++ n.digits)) n.whole s)
      | inr z ↦ base_within 39 bs more rest n e z.1
    ]
      where
        no_digit : (size before tail : Text) → 39 ∷ more ≡ size ++ (before ++ tail) → is_decimal_number size ≡ true → ⊥
        no_digit [] before tail e d = cc
        no_digit (x ∷ xs) before tail e d = let f : x ≡ 39 = cc in let t = (both (is_digit x) (list_all is_decimal xs) d).0 in let q : is_digit 39 ≡ true = ap is_digit (sym f) ∙ t in cc

    within : (more rest : Text) → bs ≡ more ++ rest → Of s_tick (39 ∷ more) → base_len (39 ∷ bs) ≡ 0 → suc (length more) ≤ 1
    within more rest e (inl l) z = l
    within more rest e (inr n) z = absurd (omega (arith, counted more rest e n))

    fits : (more rest : Text) (n : ℕ) → bs ≡ more ++ rest → Of s_tick (39 ∷ more) → base_len (39 ∷ bs) ≡ n → 0 < n → suc (length more) ≤ n
    fits more rest n e (inl l) z h = omega arith
    fits more rest n e (inr m) z h = omega (arith, counted more rest e m)

    some : (n : ℕ) → base_len (39 ∷ bs) ≡ n → 0 < n → Base (39 ∷ bs) (base_len (39 ∷ bs)) → IsRight (39 ∷ bs) (p.Token k.Number (base_len (39 ∷ bs)))
    some n e h b =
        let front = b.0 ++ (b.1 ++ b.2) in
        let whole : 39 ∷ bs ≡ front ++ b.3 = b.4 ∙ simp append_assoc in
        let l : length front ≡ base_len (39 ∷ bs) = simp length-append (omega (arith, b.8)) in (
          front,
          b.3,
          whole,
          l,
          omega arith,
          inr (record { size = []; before = []; mark = b.0; behind = b.1; digits = b.2; whole = refl; sized = inr (refl, refl); blank_before = blank_none; based = b.5; blank_behind = b.6; valued = b.7 }),
          longest 39 bs s_tick front refl (λ more rest e2 o. omega (arith, l, fits more rest n e2 o e h)),
        )

-- operators and marks

mark_true : (b : ℕ) → is_graphic b ≡ true → is_letter b ≡ false → is_digit b ≡ false → (b == 34) ≡ false → (b == 92) ≡ false → (b == 96) ≡ false → is_mark b ≡ true
mark_true b g l d q s c = rw (g, l, d, q, s, c) refl

operator_next : (b : ℕ) (more : Text) → is_short (b ∷ more) ≡ true
    → ((length more ≡ 1) × (is_pair b (first more) ≡ true)) ⊎ ((length more ≡ 2) × (is_triple b (first more) (first (drop 1 more)) ≡ true))
operator_next b [] h = absurd (cc)
operator_next b (x ∷ []) h = inl (refl, h)
operator_next b (x ∷ y ∷ []) h = inr (refl, h)
operator_next b (x ∷ y ∷ z ∷ zs) h = absurd (cc)

operator_right : (b : ℕ) (bs : Text) → sort b ≡ s_other → is_letter b ≡ false → is_digit b ≡ false → (b == 34) ≡ false → (b == 92) ≡ false → (b == 96) ≡ false → IsRight (b ∷ bs) (operator_piece b bs)
unfolding operator_piece
operator_right b bs s l d q u c =
    on_if (IsRight (b ∷ bs)) (is_triple b (first bs) (first (drop 1 bs))) (p.Token k.Operator 3) _
    (λ h. three bs h)
    (λ f. on_if (IsRight (b ∷ bs)) (is_pair b (first bs)) (p.Token k.Operator 2) _
    (λ h. two bs h f)
    (λ g. on_if (IsRight (b ∷ bs)) (is_graphic b) (p.Token k.Single 1) p.Bad
    (λ h. (b ∷ [], bs, refl, refl, omega arith, mark_true b h l d q u c, longest b bs s_other (b ∷ []) s (λ more rest e o. one more rest f g e o)))
    (λ h. nothing b bs s_other s (λ more rest e o. none more rest f g h e o))))
  where
    no_more : (bs more rest : Text) → is_triple b (first bs) (first (drop 1 bs)) ≡ false → bs ≡ more ++ rest → length more ≡ 2 → is_triple b (first more) (first (drop 1 more)) ≡ true → ⊥
    no_more bs more rest f e n h =
        let i = first_of_front bs more rest e (omega arith) in
        let j = second_of_front bs more rest e (omega arith) in
        let t : is_triple b (first bs) (first (drop 1 bs)) ≡ true = ap (λ z. is_triple b z (first (drop 1 bs))) i ∙ (ap (λ z. is_triple b (first more) z) j ∙ h) in cc

    no_two : (bs more rest : Text) → is_pair b (first bs) ≡ false → bs ≡ more ++ rest → length more ≡ 1 → is_pair b (first more) ≡ true → ⊥
    no_two bs more rest g e n h =
        let i = first_of_front bs more rest e (omega arith) in
        let t : is_pair b (first bs) ≡ true = ap (λ z. is_pair b z) i ∙ h in cc

    one : (more rest : Text) → is_triple b (first bs) (first (drop 1 bs)) ≡ false → is_pair b (first bs) ≡ false → bs ≡ more ++ rest → Of s_other (b ∷ more) → suc (length more) ≤ 1
    one [] rest f g e (inl h) = omega arith
    one (x ∷ xs) rest f g e (inl h) = absurd (cc)
    one more rest f g e (inr h) = elim (operator_next b more h) [ inl t ↦ absurd (no_two bs more rest g e t.0 t.1) | inr t ↦ absurd (no_more bs more rest f e t.0 t.1) ]

    none : (more rest : Text) → is_triple b (first bs) (first (drop 1 bs)) ≡ false → is_pair b (first bs) ≡ false → is_graphic b ≡ false → bs ≡ more ++ rest → Of s_other (b ∷ more) → ⊥
    none [] rest f g h e (inl m) = (let t = (both (is_graphic b) (not (is_letter b) && (not (is_digit b) && (not (b == 34) && (not (b == 92) && not (b == 96))))) m).0 in cc)
    none (x ∷ xs) rest f g h e (inl m) = cc
    none more rest f g h e (inr m) = elim (operator_next b more m) [ inl t ↦ no_two bs more rest g e t.0 t.1 | inr t ↦ no_more bs more rest f e t.0 t.1 ]

    at_most : (more : Text) → Of s_other (b ∷ more) → length more ≤ 2
    at_most [] (inl h) = omega arith
    at_most (x ∷ xs) (inl h) = absurd (cc)
    at_most more (inr h) = elim (operator_next b more h) [ inl t ↦ omega (arith, t.0) | inr t ↦ omega (arith, t.0) ]

    three : (bs : Text) → is_triple b (first bs) (first (drop 1 bs)) ≡ true → IsRight (b ∷ bs) (p.Token k.Operator 3)
    three [] h = absurd (omega (arith, triple_there b [] h))
    three (x ∷ []) h = absurd (omega (arith, triple_there b (x ∷ []) h))
    three (x ∷ y ∷ ys) h = (b ∷ x ∷ y ∷ [], ys, refl, refl, omega arith, triples b x y h, longest b (x ∷ y ∷ ys) s_other (b ∷ x ∷ y ∷ []) s (λ more rest e o. omega (arith, at_most more o)))

    at_most_two : (bs more rest : Text) → is_triple b (first bs) (first (drop 1 bs)) ≡ false → bs ≡ more ++ rest → Of s_other (b ∷ more) → length more ≤ 1
    at_most_two bs [] rest f e (inl h) = omega arith
    at_most_two bs (x ∷ xs) rest f e (inl h) = absurd (cc)
    at_most_two bs more rest f e (inr h) = elim (operator_next b more h) [ inl t ↦ omega (arith, t.0) | inr t ↦ absurd (no_more bs more rest f e t.0 t.1) ]

    two : (bs : Text) → is_pair b (first bs) ≡ true → is_triple b (first bs) (first (drop 1 bs)) ≡ false → IsRight (b ∷ bs) (p.Token k.Operator 2)
    two [] h f = absurd (omega (arith, pair_there b [] h))
    two (x ∷ xs) h f = (b ∷ x ∷ [], xs, refl, refl, omega arith, pairs b x h, longest b (x ∷ xs) s_other (b ∷ x ∷ []) s (λ more rest e o. omega (arith, at_most_two (x ∷ xs) more rest f e o)))

mark_right : (b : ℕ) (bs : Text) → is_space b ≡ false → is_letter b ≡ false → is_digit b ≡ false → IsRight (b ∷ bs) (mark_piece b bs)
unfolding mark_piece
mark_right b bs w l d =
    on_if (IsRight (b ∷ bs)) (b == 47) (slash_piece bs) _ (λ h. subst (λ z. IsRight (z ∷ bs) (slash_piece bs)) (sym (is_number b 47 h)) (slash_right bs)) (λ n47.
    on_if (IsRight (b ∷ bs)) (b == 92) (backslash_piece bs) _ (λ h. subst (λ z. IsRight (z ∷ bs) (backslash_piece bs)) (sym (is_number b 92 h)) (backslash_right bs)) (λ n92.
    on_if (IsRight (b ∷ bs)) (b == 34) (quote_piece bs) _ (λ h. subst (λ z. IsRight (z ∷ bs) (quote_piece bs)) (sym (is_number b 34 h)) (quote_right bs)) (λ n34.
    on_if (IsRight (b ∷ bs)) (b == 36) (dollar_piece bs) _ (λ h. subst (λ z. IsRight (z ∷ bs) (dollar_piece bs)) (sym (is_number b 36 h)) (dollar_right bs)) (λ n36.
    on_if (IsRight (b ∷ bs)) (b == 96) (directive_piece bs) _ (λ h. subst (λ z. IsRight (z ∷ bs) (directive_piece bs)) (sym (is_number b 96 h)) (directive_right bs)) (λ n96.
    on_if (IsRight (b ∷ bs)) (b == 39) (tick_piece (b ∷ bs)) _ (λ h. subst (λ z. IsRight (z ∷ bs) (tick_piece (z ∷ bs))) (sym (is_number b 39 h)) (tick_right bs)) (λ n39.
    (let s : sort b ≡ s_other = rw (w, l, d, n47, n92, n34, n36, n96, n39) refl in operator_right b bs s l d n34 n92 n96)))))))

pub piece_right : (b : ℕ) (bs : Text) → IsRight (b ∷ bs) (piece (b ∷ bs))
unfolding piece
piece_right b bs =
    on_if (IsRight (b ∷ bs)) (is_space b) (p.Space 1) _ (λ h. let s : sort b ≡ s_space = rw h refl in space_right b bs s h) (λ w.
    on_if (IsRight (b ∷ bs)) (is_letter b) (p.Token k.Name (1 + prefix_len is_name bs)) _ (λ h. let s : sort b ≡ s_letter = rw (w, h) refl in name_right b bs s h) (λ l.
    on_if (IsRight (b ∷ bs)) (is_digit b) (p.Token k.Number (number_len (b ∷ bs))) (mark_piece b bs) (λ h. let s : sort b ≡ s_digit = rw (w, l, h) refl in number_right b bs s h) (λ d.
    mark_right b bs w l d)))

-- what begins and ends nowhere is no piece

block_there : (cs front rest : Text) → 47 ∷ 42 ∷ cs ≡ front ++ rest → IsSpace front → IsBlockComment front
block_there cs [] rest e (inl s) = absurd (cc)
block_there cs (x ∷ []) rest e (inl s) = absurd (let f : x ≡ 47 = cc in let q : is_space 47 ≡ true = ap is_space (sym f) ∙ s in cc)
block_there cs (x ∷ y ∷ ys) rest e (inl s) = absurd (cc)
block_there cs [] rest e (inr (inl s)) = absurd (cc)
block_there cs (x ∷ []) rest e (inr (inl s)) = absurd (cc)
block_there cs (x ∷ y ∷ ys) rest e (inr (inl s)) =
    let f : y ≡ 42 = cc in let t = both (x == 47) ((y == 47) && list_all other_than_newline ys) s in let u = both (y == 47) (list_all other_than_newline ys) t.1 in
    absurd (let q : (42 == 47) ≡ true = ap (λ z. z == 47) (sym f) ∙ u.0 in cc)
block_there cs front rest e (inr (inr b)) = b

open_comment : (cs : Text) → ((front rest : Text) → 47 ∷ 42 ∷ cs ≡ front ++ rest → IsBlockComment front → ⊥) → (o : Option ℕ) → comment_end 0 false cs ≡ o → closed_space o ≡ p.Unclosed
open_comment cs none None is = refl
open_comment cs none (Some m) is =
    let g = block_right cs (Some m) is (subst (Closed 0 false cs) is (split_comment 0 false cs)) in
    absurd (none g.0 g.1 g.2 (block_there cs g.0 g.1 g.2 g.5))

open_quote : (cs : Text) → ((front rest : Text) → 34 ∷ cs ≡ front ++ rest → IsString front → ⊥) → (o : Option ℕ) → IsRight (34 ∷ cs) (closed_quote o) → closed_quote o ≡ p.Unclosed
open_quote cs none None g = refl
open_quote cs none (Some m) g = absurd (none g.0 g.1 g.2 g.5)

pub unended : (text : Text) → NeverEnds text → piece text ≡ p.Unclosed
unfolding piece mark_piece slash_piece quote_piece
unended text (inl n) = ap piece n.1 ∙ open_comment n.0 (λ front rest e b. n.2 front rest (n.1 ∙ e) b) (comment_end 0 false n.0) refl
unended text (inr n) = ap piece n.1 ∙ open_quote n.0 (λ front rest e b. n.2 front rest (n.1 ∙ e) b) (quote_end 0 false n.0) (quote_right n.0)

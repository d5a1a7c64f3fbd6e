-- Whatever the bytes of a file are cut into is what the lexer gives.
use Rattle.std.proofs.Common.{◌≡◌, ℕ, ◌<◌, ◌≤◌, ◌==◌, Bool, true, false, ◌&&◌, ◌⊎◌, inl, inr, if◌then◌else◌, [], ◌∷◌, ◌++◌, length, drop, take, refl, ap, sym, ◌∙◌, arith}
use Rattle.std.proofs.Math.Seq.{drop-append_seam, take-append_seam}
use Rattle.std.specs.List.{list_all}
use Rattle.std.proofs.lemmas.List.{length-append}
use Rattle.std.proofs.lemmas.Bool.Decides.{nat_tests}
use Rattle.vl_tree.specs.declared.tokens.TokenKind.{TokenKind}
use Rattle.vl_tree.specs.declared.tokens.TokenKind.TheVariants as k
use Rattle.vl_lex.specs.declared.pieces.Piece.{Piece}
use Rattle.vl_lex.specs.declared.pieces.Piece.TheVariants as p
use Rattle.vl_lex.specs.declared.lexer.Cursor.{Cursor}
use Rattle.vl_lex.specs.Bytes.{Text, is_digit, is_letter, is_name, is_decimal, is_graphic}
use Rattle.vl_lex.specs.Pieces.{piece}
use Rattle.vl_lex.specs.Lexed.{Lexed, with_tokens, past_space, past_join, past_token, token_here, lexed, beginning, file_tokens}
use Rattle.vl_lex.specs.Forms.{begins, is_run, marked, is_join, is_base_mark, IsBasedNumber, IsToken, IsSpace, Fits, fits_space, fits_join, fits_token, NothingFits, NeverEnds, Taken, Cut, cut_end, cut_space, cut_join, cut_token, cut_bad, cut_unclosed}
use Rattle.vl_lex.proofs.Runs.{both, is_number}
use Rattle.vl_lex.proofs.Fitting.{Sort, s_space, s_letter, s_digit, s_slash, s_backslash, s_quote, s_dollar, s_backquote, s_tick, s_other, sort, sort_letter, sort_digit, sort_space, sort_mark, operator_sort, mark_at, line_at, join_at, based_at, nothing_empty}
use Rattle.vl_lex.proofs.Longest.{IsRight, piece_right, unended}
use Rattle.vl_lex.proofs.Turns.{space_goes, join_goes, token_goes, bad_stops, unclosed_stops}
use Rattle.vl_lex.proofs.Cuts.{ends}
use Rattle.vl_lex.proofs.Operators.{is_short, listed_short}

-- what a text is that fits, by its first byte; the lengths do not count
abbrev pub by_sort : Sort → Text → Piece
by_sort s_space text = p.Space 0
by_sort s_letter text = p.Token k.Name 0
by_sort s_digit text = p.Token k.Number 0
by_sort s_slash (a ∷ []) = p.Token k.Single 0
by_sort s_slash text = p.Space 0
by_sort s_backslash text = if is_join text then p.Join 0 else p.Token k.Escaped 0
by_sort s_quote text = p.Token k.Quoted 0
by_sort s_dollar (a ∷ []) = p.Token k.Single 0
by_sort s_dollar text = p.Token k.System 0
by_sort s_backquote text = p.Token k.Directive 0
by_sort s_tick (a ∷ []) = p.Token k.Single 0
by_sort s_tick text = p.Token k.Number 0
by_sort s_other (a ∷ []) = p.Token k.Single 0
by_sort s_other text = p.Token k.Operator 0

abbrev pub what : Text → Piece
what [] = p.Bad
what (b ∷ bs) = by_sort (sort b) (b ∷ bs)

of_sort : (b : ℕ) (bs : Text) (s : Sort) → sort b ≡ s → what (b ∷ bs) ≡ by_sort s (b ∷ bs)
of_sort b bs s e = ap (λ z. by_sort z (b ∷ bs)) e

space_what : (text : Text) → IsSpace text → what text ≡ p.Space 0
space_what [] (inl h) = absurd (cc)
space_what (b ∷ []) (inl h) = of_sort b [] s_space (sort_space b h)
space_what (b ∷ c ∷ cs) (inl h) = absurd (cc)
space_what [] (inr (inl h)) = absurd (cc)
space_what (b ∷ []) (inr (inl h)) = absurd (cc)
space_what (b ∷ c ∷ cs) (inr (inl h)) = of_sort b (c ∷ cs) s_slash (ap sort (line_at b (c ∷ cs) h))
space_what text (inr (inr h)) = ap what h.1

join_what : (text : Text) → is_join text ≡ true → what text ≡ p.Join 0
join_what [] h = absurd (cc)
join_what (b ∷ bs) h = of_sort b bs s_backslash (ap sort (join_at b bs h)) ∙ rw h refl

not_both : (b : ℕ) → is_graphic b ≡ true → ((b == 10) ≡ false) × ((b == 13) ≡ false)
not_both b h = (grind (arith, nat_tests), grind (arith, nat_tests))

ends_false : (a c : Bool) → c ≡ false → (a && c) ≡ false
ends_false true c h = h
ends_false false c h = refl

no_join : (b c : ℕ) (cs : Text) → is_graphic c ≡ true → is_join (b ∷ c ∷ cs) ≡ false
no_join b c [] h = ends_false (b == 92) (c == 10) (not_both c h).0
no_join b c (d ∷ []) h = let n = (not_both c h).1 in ends_false (b == 92) (c == 13 && d == 10) (rw n refl)
no_join b c (d ∷ e ∷ es) h = refl

escaped_what : (b : ℕ) (bs : Text) → marked 92 (is_run is_graphic) (b ∷ bs) ≡ true → what (b ∷ bs) ≡ p.Token k.Escaped 0
escaped_what b [] h = absurd (let t = both (b == 92) false h in cc)
escaped_what b (c ∷ cs) h =
    let t = both (b == 92) (is_run is_graphic (c ∷ cs)) h in
    let u = both (is_graphic c) (list_all is_graphic cs) t.1 in
    let n = no_join b c cs u.0 in
    of_sort b (c ∷ cs) s_backslash (ap sort (is_number b 92 t.0)) ∙ rw n refl

system_what : (b : ℕ) (bs : Text) → marked 36 (is_run is_name) (b ∷ bs) ≡ true → what (b ∷ bs) ≡ p.Token k.System 0
system_what b [] h = absurd (let t = both (b == 36) false h in cc)
system_what b (c ∷ cs) h = of_sort b (c ∷ cs) s_dollar (ap sort (mark_at 36 b (is_run is_name) (c ∷ cs) h))

operator_what : (b : ℕ) (bs : Text) → is_short (b ∷ bs) ≡ true → what (b ∷ bs) ≡ p.Token k.Operator 0
operator_what b [] h = absurd (cc)
operator_what b (c ∷ cs) h = of_sort b (c ∷ cs) s_other (operator_sort b (c ∷ cs) h)

single_what : (b : ℕ) → (sort b ≡ s_slash) ⊎ ((sort b ≡ s_dollar) ⊎ ((sort b ≡ s_tick) ⊎ (sort b ≡ s_other))) → what (b ∷ []) ≡ p.Token k.Single 0
single_what b (inl e) = of_sort b [] s_slash e
single_what b (inr (inl e)) = of_sort b [] s_dollar e
single_what b (inr (inr (inl e))) = of_sort b [] s_tick e
single_what b (inr (inr (inr e))) = of_sort b [] s_other e

long_mark : (mark : Text) → is_base_mark mark ≡ true → 1 < length mark
long_mark [] h = absurd (cc)
long_mark (x ∷ []) h = absurd (cc)
long_mark (x ∷ y ∷ ys) h = omega arith

based_what : (b : ℕ) (bs : Text) → IsBasedNumber (b ∷ bs) → (is_digit b ≡ true) ⊎ (b ≡ 39) → what (b ∷ bs) ≡ p.Token k.Number 0
based_what b bs n (inl d) = of_sort b bs s_digit (sort_digit b d)
based_what b [] n (inr e) =
    let m = long_mark n.mark n.based in
    absurd (omega (arith, ap length n.whole, m, length-append n.size (n.before ++ (n.mark ++ (n.behind ++ n.digits))), length-append n.before (n.mark ++ (n.behind ++ n.digits)), length-append n.mark (n.behind ++ n.digits)))
based_what b (c ∷ cs) n (inr e) = of_sort b (c ∷ cs) s_tick (ap sort e)

token_what : (kind : TokenKind) (b : ℕ) (bs : Text) → IsToken kind (b ∷ bs) → what (b ∷ bs) ≡ p.Token kind 0
token_what k.Name b bs h = of_sort b bs s_letter (sort_letter b (both (is_letter b) (list_all is_name bs) h).0)
token_what k.Escaped b bs h = escaped_what b bs h
token_what k.System b bs h = system_what b bs h
token_what k.Directive b bs h = of_sort b bs s_backquote (ap sort (mark_at 96 b (begins is_letter is_name) bs h))
token_what k.Number b bs (inl h) = of_sort b bs s_digit (sort_digit b (both (is_digit b) (list_all is_decimal bs) h).0)
token_what k.Number b bs (inr h) = based_what b bs h (based_at b bs h)
token_what k.Quoted b bs h = ap what h.1
token_what k.Operator b bs h = operator_what b bs (listed_short (b ∷ bs) h)
token_what k.Single b [] h = single_what b (sort_mark b h)
token_what k.Single b (c ∷ cs) h = absurd (cc)

any_token : (kind : TokenKind) (text : Text) → IsToken kind text → what text ≡ p.Token kind 0
any_token kind [] h = absurd (nothing_empty (fits_token kind h))
any_token kind (b ∷ bs) h = token_what kind b bs h

-- two pieces of one text that are equally long are one
same_front : (front rest other tail : Text) → front ++ rest ≡ other ++ tail → length front ≡ length other → front ≡ other
same_front front rest other tail e l =
    sym (take-append_seam front rest) ∙ (ap (take (length front)) e ∙ (ap (λ n. take n (other ++ tail)) l ∙ take-append_seam other tail))

equal : (a b : ℕ) → a ≤ b → b ≤ a → a ≡ b
equal a b h l = omega arith

-- the piece that is taken is the one of the definition
taken_space : (front rest : Text) (x : Piece) → 0 < length front → IsSpace front → Taken (front ++ rest) front → piece (front ++ rest) ≡ x → IsRight (front ++ rest) x → x ≡ p.Space (length front)
taken_space front rest (p.Space n) pos f t is g = ap (λ z. p.Space z) (sym g.3 ∙ equal (length g.0) (length front) (t.0 g.0 g.1 g.2 (fits_space g.5)) (g.6 front rest refl (fits_space f)))
taken_space front rest (p.Join n) pos f t is g =
    let l = equal (length front) (length g.0) (g.6 front rest refl (fits_space f)) (t.0 g.0 g.1 g.2 (fits_join g.5)) in
    let e = same_front front rest g.0 g.1 g.2 l in
    absurd (let a = space_what front f in let b = join_what g.0 g.5 in let c : what front ≡ what g.0 = ap what e in cc)
taken_space front rest (p.Token kind n) pos f t is g =
    let l = equal (length front) (length g.0) (g.6 front rest refl (fits_space f)) (t.0 g.0 g.1 g.2 (fits_token kind g.5)) in
    let e = same_front front rest g.0 g.1 g.2 l in
    absurd (let a = space_what front f in let b = any_token kind g.0 g.5 in let c : what front ≡ what g.0 = ap what e in cc)
taken_space front rest p.Bad pos f t is g = absurd (g front rest refl (fits_space f))
taken_space front rest p.Unclosed pos f t is g = absurd (t.1 g)

taken_join : (front rest : Text) (x : Piece) → is_join front ≡ true → Taken (front ++ rest) front → piece (front ++ rest) ≡ x → IsRight (front ++ rest) x → x ≡ p.Join (length front)
taken_join front rest (p.Join n) f t is g = ap (λ z. p.Join z) (sym g.3 ∙ equal (length g.0) (length front) (t.0 g.0 g.1 g.2 (fits_join g.5)) (g.6 front rest refl (fits_join f)))
taken_join front rest (p.Space n) f t is g =
    let l = equal (length front) (length g.0) (g.6 front rest refl (fits_join f)) (t.0 g.0 g.1 g.2 (fits_space g.5)) in
    let e = same_front front rest g.0 g.1 g.2 l in
    absurd (let a = join_what front f in let b = space_what g.0 g.5 in let c : what front ≡ what g.0 = ap what e in cc)
taken_join front rest (p.Token kind n) f t is g =
    let l = equal (length front) (length g.0) (g.6 front rest refl (fits_join f)) (t.0 g.0 g.1 g.2 (fits_token kind g.5)) in
    let e = same_front front rest g.0 g.1 g.2 l in
    absurd (let a = join_what front f in let b = any_token kind g.0 g.5 in let c : what front ≡ what g.0 = ap what e in cc)
taken_join front rest p.Bad f t is g = absurd (g front rest refl (fits_join f))
taken_join front rest p.Unclosed f t is g = absurd (t.1 g)

same_kind : (kind other : TokenKind) → p.Token kind 0 ≡ p.Token other 0 → kind ≡ other
same_kind kind other e = cc

taken_token : (kind : TokenKind) (front rest : Text) (x : Piece) → IsToken kind front → Taken (front ++ rest) front → piece (front ++ rest) ≡ x → IsRight (front ++ rest) x → x ≡ p.Token kind (length front)
taken_token kind front rest (p.Token other n) f t is g =
    let l = equal (length front) (length g.0) (g.6 front rest refl (fits_token kind f)) (t.0 g.0 g.1 g.2 (fits_token other g.5)) in
    let e = same_front front rest g.0 g.1 g.2 l in
    let s = same_kind other kind (sym (any_token other g.0 g.5) ∙ (ap what (sym e) ∙ any_token kind front f)) in
    ap (λ z. p.Token z n) s ∙ ap (λ z. p.Token kind z) (sym g.3 ∙ sym l)
taken_token kind front rest (p.Space n) f t is g =
    let l = equal (length front) (length g.0) (g.6 front rest refl (fits_token kind f)) (t.0 g.0 g.1 g.2 (fits_space g.5)) in
    let e = same_front front rest g.0 g.1 g.2 l in
    absurd (let a = any_token kind front f in let b = space_what g.0 g.5 in let c : what front ≡ what g.0 = ap what e in cc)
taken_token kind front rest (p.Join n) f t is g =
    let l = equal (length front) (length g.0) (g.6 front rest refl (fits_token kind f)) (t.0 g.0 g.1 g.2 (fits_join g.5)) in
    let e = same_front front rest g.0 g.1 g.2 l in
    absurd (let a = any_token kind front f in let b = join_what g.0 g.5 in let c : what front ≡ what g.0 = ap what e in cc)
taken_token kind front rest p.Bad f t is g = absurd (g front rest refl (fits_token kind f))
taken_token kind front rest p.Unclosed f t is g = absurd (t.1 g)

right : (text : Text) → 0 < length text → IsRight text (piece text)
right [] h = absurd (omega arith)
right (b ∷ bs) h = piece_right b bs

long : (front rest : Text) → Fits front → (0 < length front) × (0 < length (front ++ rest))
long [] rest f = absurd (nothing_empty f)
long (b ∷ bs) rest f = (omega arith, omega arith)

stuck : (text : Text) (x : Piece) → NothingFits text → (NeverEnds text → ⊥) → IsRight text x → x ≡ p.Bad
stuck text (p.Space n) none_fits ended g = absurd (none_fits g.0 g.1 g.2 (fits_space g.5))
stuck text (p.Join n) none_fits ended g = absurd (none_fits g.0 g.1 g.2 (fits_join g.5))
stuck text (p.Token kind n) none_fits ended g = absurd (none_fits g.0 g.1 g.2 (fits_token kind g.5))
stuck text p.Bad none_fits ended g = refl
stuck text p.Unclosed none_fits ended g = absurd (ended g)

never_empty : (text : Text) → NeverEnds text → 0 < length text
never_empty text (inl n) = omega (arith, ap length n.1)
never_empty text (inr n) = omega (arith, ap length n.1)

definite : {file : ℕ} {here : Cursor} {text : Text} {l : Lexed} → Cut file here text l → l ≡ lexed file 0 here text
definite (cut_end {file} {here}) = sym (ends file here)
definite (cut_space {file} {here} {l} front rest f t c) =
    let n = long front rest (fits_space f) in
    let is = taken_space front rest (piece (front ++ rest)) n.0 f t refl (right (front ++ rest) n.1) in
    let go = space_goes file (length front) here (front ++ rest) n.1 is n.0 in
    let k = definite c in
    k ∙ sym (go ∙ (ap (λ z. lexed file 0 (past_space here z) (drop (length front) (front ++ rest))) (take-append_seam front rest) ∙ ap (lexed file 0 (past_space here front)) (drop-append_seam front rest)))
definite (cut_join {file} {here} {l} front rest f t c) =
    let n = long front rest (fits_join f) in
    let is = taken_join front rest (piece (front ++ rest)) f t refl (right (front ++ rest) n.1) in
    let go = join_goes file (length front) here (front ++ rest) n.1 is n.0 in
    let k = definite c in
    k ∙ sym (go ∙ (ap (λ z. lexed file 0 (past_join here z) (drop (length front) (front ++ rest))) (take-append_seam front rest) ∙ ap (lexed file 0 (past_join here front)) (drop-append_seam front rest)))
definite (cut_token {file} {here} {l} kind front rest f t c) =
    let n = long front rest (fits_token kind f) in
    let is = taken_token kind front rest (piece (front ++ rest)) f t refl (right (front ++ rest) n.1) in
    let go = token_goes file (length front) here kind (front ++ rest) n.1 is n.0 in
    let k = definite c in
    ap (with_tokens (token_here file here kind front ∷ [])) k
    ∙ sym (go ∙ (ap (λ z. with_tokens (token_here file here kind z ∷ []) (lexed file 0 (past_token here z) (drop (length front) (front ++ rest)))) (take-append_seam front rest)
    ∙ ap (λ z. with_tokens (token_here file here kind front ∷ []) (lexed file 0 (past_token here front) z)) (drop-append_seam front rest)))
definite (cut_bad {file} {here} {text} h none_fits ended) = sym (bad_stops file here text h (stuck text (piece text) none_fits ended (right text h)))
definite (cut_unclosed {file} {here} {text} n) = sym (unclosed_stops file here text (never_empty text n) (unended text n))

pub cut_is_file : (file : ℕ) (text : Text) (l : Lexed) → Cut file beginning text l → l ≡ file_tokens file text
cut_is_file file text l c = definite c

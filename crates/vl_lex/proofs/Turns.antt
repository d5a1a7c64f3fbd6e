-- One turn of the lexer.
use Rattle.std.proofs.Common.{◌≡◌, ℕ, zero, suc, ◌+◌, ◌-◌, ◌<◌, ◌≤◌, Some, None, List, [], ◌∷◌, ◌++◌, length, take, drop, map, refl, ap, sym, ◌∙◌, append_assoc, append-nil, arith}
use Rattle.std.proofs.lemmas.List.{map-append, drop-drop, length-drop, length-take-le}
use Rattle.vl_tree.specs.declared.tokens.TokenKind.{TokenKind}
use Rattle.vl_lex.specs.declared.pieces.Piece.TheVariants as p
use Rattle.vl_lex.specs.declared.lexer.Lined.{Lined}
use Rattle.vl_lex.specs.declared.lexer.Cursor.{Cursor}
use Rattle.vl_lex.specs.Bytes.{Text}
use Rattle.vl_lex.specs.Pieces.{piece}
use Rattle.vl_lex.specs.Lexed.{Lexed, Placed, placed, nothing, flawed, with_tokens, past_space, past_join, past_token, token_here, bad_byte, unclosed, turn, lexed}

-- behind the bytes that are left of a piece
skipped : (file k : ℕ) (here : Cursor) (bs : Text) → lexed file k here bs ≡ lexed file 0 here (drop k bs)
unfolding lexed
skipped file zero here bs = refl
skipped file (suc k) here [] = refl
skipped file (suc k) here (b ∷ bs) = skipped file k here bs

dropped : (n : ℕ) (b : ℕ) (bs : Text) → 0 < n → drop (n - 1) bs ≡ drop n (b ∷ bs)
dropped zero b bs h = absurd (omega arith)
dropped (suc n) b bs h = let e : suc n - 1 ≡ n = omega arith in ap (λ m. drop m bs) e

behind : (file n : ℕ) (there : Cursor) (b : ℕ) (bs : Text) → 0 < n → lexed file (n - 1) there bs ≡ lexed file 0 there (drop n (b ∷ bs))
behind file n there b bs h = skipped file (n - 1) there bs ∙ ap (lexed file 0 there) (dropped n b bs h)

begins : (file : ℕ) (here : Cursor) (b : ℕ) (bs : Text) → lexed file 0 here (b ∷ bs) ≡ turn file here (b ∷ bs) (piece (b ∷ bs)) (λ left there. lexed file left there bs)
unfolding lexed
begins file here b bs = refl

pub space_goes : (file n : ℕ) (here : Cursor) (text : Text) → 0 < length text → piece text ≡ p.Space n → 0 < n → lexed file 0 here text ≡ lexed file 0 (past_space here (take n text)) (drop n text)
unfolding turn
space_goes file n here [] l is h = absurd (omega arith)
space_goes file n here (b ∷ bs) l is h = begins file here b bs ∙ rw is (behind file n (past_space here (take n (b ∷ bs))) b bs h)

pub join_goes : (file n : ℕ) (here : Cursor) (text : Text) → 0 < length text → piece text ≡ p.Join n → 0 < n → lexed file 0 here text ≡ lexed file 0 (past_join here (take n text)) (drop n text)
unfolding turn
join_goes file n here [] l is h = absurd (omega arith)
join_goes file n here (b ∷ bs) l is h = begins file here b bs ∙ rw is (behind file n (past_join here (take n (b ∷ bs))) b bs h)

pub token_goes : (file n : ℕ) (here : Cursor) (kind : TokenKind) (text : Text) → 0 < length text → piece text ≡ p.Token kind n → 0 < n
    → lexed file 0 here text ≡ with_tokens (token_here file here kind (take n text) ∷ []) (lexed file 0 (past_token here (take n text)) (drop n text))
unfolding turn
token_goes file n here kind [] l is h = absurd (omega arith)
token_goes file n here kind (b ∷ bs) l is h =
    begins file here b bs ∙ rw is (ap (with_tokens (token_here file here kind (take n (b ∷ bs)) ∷ [])) (behind file n (past_token here (take n (b ∷ bs))) b bs h))

pub bad_stops : (file : ℕ) (here : Cursor) (text : Text) → 0 < length text → piece text ≡ p.Bad → lexed file 0 here text ≡ flawed (bad_byte file here)
unfolding turn
bad_stops file here [] l is = absurd (omega arith)
bad_stops file here (b ∷ bs) l is = begins file here b bs ∙ rw is refl

pub unclosed_stops : (file : ℕ) (here : Cursor) (text : Text) → 0 < length text → piece text ≡ p.Unclosed → lexed file 0 here text ≡ flawed (unclosed file here)
unfolding turn
unclosed_stops file here [] l is = absurd (omega arith)
unclosed_stops file here (b ∷ bs) l is = begins file here b bs ∙ rw is refl

none_left : (file : ℕ) (here : Cursor) (xs : Text) → length xs ≡ 0 → lexed file 0 here xs ≡ nothing
unfolding lexed
none_left file here [] e = refl
none_left file here (x ∷ xs) e = absurd (omega arith)

pub over : (file : ℕ) (here : Cursor) (bytes : Text) → length bytes ≤ here.at → lexed file 0 here (drop here.at bytes) ≡ nothing
over file here bytes h = none_left file here (drop here.at bytes) (omega (arith, length-drop here.at bytes))

-- how long the front of the rest is
pub front_length : (n : ℕ) (bytes rest text : Text) (at : ℕ) → rest ≡ drop at bytes → text ≡ take n rest → n ≤ length rest → at < length bytes → (length text ≡ n) × (at + n ≤ length bytes)
front_length n bytes rest text at r t h l =
    let e : length text ≡ n = ap length t ∙ length-take-le n rest h in
    let f : length rest ≡ length bytes - at = ap length r ∙ length-drop at bytes in
    (e, omega arith)

there_is : (file : ℕ) (n : ℕ) (bytes rest text : Text) (at : ℕ) (there : Cursor) → rest ≡ drop at bytes → length text ≡ n → there.at ≡ at + length text
    → lexed file 0 there (drop n rest) ≡ lexed file 0 there (drop there.at bytes)
there_is file n bytes rest text at there r l e =
    let k : at + n ≡ there.at = omega arith in
    ap (λ z. lexed file 0 there (drop n z)) r ∙ (ap (lexed file 0 there) (drop-drop n at bytes) ∙ ap (λ m. lexed file 0 there (drop m bytes)) k)

pub space_turn : (file n : ℕ) (here there : Cursor) (front : List Placed) (bytes rest text : Text) (whole : Lexed) → here.at < length bytes → rest ≡ drop here.at bytes
    → p.Space n ≡ piece rest → (0 < n) × (n ≤ length rest) → text ≡ take n rest → there ≡ past_space here text
    → with_tokens front (lexed file 0 here (drop here.at bytes)) ≡ whole → with_tokens front (lexed file 0 there (drop there.at bytes)) ≡ whole
space_turn file n here there front bytes rest text whole l r is h t th inv =
    let len = front_length n bytes rest text here.at r t h.1 l in
    let pos : 0 < length rest = omega arith in
    let goes : lexed file 0 here rest ≡ lexed file 0 there (drop n rest) =
    space_goes file n here rest pos (sym is) h.0 ∙ ap (λ z. lexed file 0 z (drop n rest)) (ap (past_space here) (sym t) ∙ sym th) in
    let same = there_is file n bytes rest text here.at there r len.0 (ap (λ z. z.at) th) in
    ap (with_tokens front) (sym (ap (lexed file 0 here) (sym r) ∙ (goes ∙ same))) ∙ inv

pub join_turn : (file n : ℕ) (here there : Cursor) (front : List Placed) (bytes rest text : Text) (whole : Lexed) → here.at < length bytes → rest ≡ drop here.at bytes
    → p.Join n ≡ piece rest → (0 < n) × (n ≤ length rest) → text ≡ take n rest → there ≡ past_join here text
    → with_tokens front (lexed file 0 here (drop here.at bytes)) ≡ whole → with_tokens front (lexed file 0 there (drop there.at bytes)) ≡ whole
join_turn file n here there front bytes rest text whole l r is h t th inv =
    let len = front_length n bytes rest text here.at r t h.1 l in
    let pos : 0 < length rest = omega arith in
    let goes : lexed file 0 here rest ≡ lexed file 0 there (drop n rest) =
    join_goes file n here rest pos (sym is) h.0 ∙ ap (λ z. lexed file 0 z (drop n rest)) (ap (past_join here) (sym t) ∙ sym th) in
    let same = there_is file n bytes rest text here.at there r len.0 (ap (λ z. z.at) th) in
    ap (with_tokens front) (sym (ap (lexed file 0 here) (sym r) ∙ (goes ∙ same))) ∙ inv

pub token_turn : (file n : ℕ) (kind : TokenKind) (here there : Cursor) (found new : List Lined) (t0 : Lined) (bytes rest text : Text) (whole : Lexed) → here.at < length bytes → rest ≡ drop here.at bytes
    → p.Token kind n ≡ piece rest → (0 < n) × (n ≤ length rest) → text ≡ take n rest → there ≡ past_token here text
    → placed t0 ≡ token_here file here kind text → new ≡ found ++ t0 ∷ []
    → with_tokens (map placed found) (lexed file 0 here (drop here.at bytes)) ≡ whole → with_tokens (map placed new) (lexed file 0 there (drop there.at bytes)) ≡ whole
token_turn file n kind here there found new t0 bytes rest text whole l r is h t th seen grows inv =
    let len = front_length n bytes rest text here.at r t h.1 l in
    let pos : 0 < length rest = omega arith in
    let one = token_here file here kind text ∷ [] in
    let goes : lexed file 0 here rest ≡ with_tokens one (lexed file 0 there (drop n rest)) =
    token_goes file n here kind rest pos (sym is) h.0
    ∙ (ap (λ z. with_tokens (token_here file here kind z ∷ []) (lexed file 0 (past_token here z) (drop n rest))) (sym t)
    ∙ ap (λ z. with_tokens one (lexed file 0 z (drop n rest))) (sym th)) in
    let same = there_is file n bytes rest text here.at there r len.0 (ap (λ z. z.at) th) in
    let behind_it = lexed file 0 there (drop there.at bytes) in
    let views : map placed new ≡ map placed found ++ one =
    ap (map placed) grows ∙ (map-append placed found (t0 ∷ []) ∙ ap (λ x. map placed found ++ x ∷ []) seen) in
    let steps : with_tokens (map placed found) (lexed file 0 here (drop here.at bytes)) ≡ with_tokens (map placed found) (with_tokens one behind_it) =
    ap (with_tokens (map placed found)) (ap (lexed file 0 here) (sym r) ∙ (goes ∙ ap (with_tokens one) same)) in
    let joins : with_tokens (map placed new) behind_it ≡ with_tokens (map placed found) (with_tokens one behind_it) =
    ap (λ z. with_tokens z behind_it) views ∙ ap (λ z. record { tokens = z; flaw = behind_it.flaw }) (append_assoc (map placed found) one behind_it.tokens) in
    joins ∙ (sym steps ∙ inv)

pub bad_turn : (file : ℕ) (here : Cursor) (front : List Placed) (bytes rest : Text) (whole : Lexed) → here.at < length bytes → rest ≡ drop here.at bytes
    → p.Bad ≡ piece rest → with_tokens front (lexed file 0 here (drop here.at bytes)) ≡ whole → whole.flaw ≡ Some (bad_byte file here)
bad_turn file here front bytes rest whole l r is inv =
    let pos : 0 < length rest = omega (arith, ap length r, length-drop here.at bytes) in
    ap (λ z. z.flaw) (sym inv) ∙ ap (λ z. z.flaw) (ap (lexed file 0 here) (sym r) ∙ bad_stops file here rest pos (sym is))

pub unclosed_turn : (file : ℕ) (here : Cursor) (front : List Placed) (bytes rest : Text) (whole : Lexed) → here.at < length bytes → rest ≡ drop here.at bytes
    → p.Unclosed ≡ piece rest → with_tokens front (lexed file 0 here (drop here.at bytes)) ≡ whole → whole.flaw ≡ Some (unclosed file here)
unclosed_turn file here front bytes rest whole l r is inv =
    let pos : 0 < length rest = omega (arith, ap length r, length-drop here.at bytes) in
    ap (λ z. z.flaw) (sym inv) ∙ ap (λ z. z.flaw) (ap (lexed file 0 here) (sym r) ∙ unclosed_stops file here rest pos (sym is))

pub no_more : (file : ℕ) (here : Cursor) (front : List Placed) (bytes : Text) (whole : Lexed) → length bytes ≤ here.at
    → with_tokens front (lexed file 0 here (drop here.at bytes)) ≡ whole → (front ≡ whole.tokens) × (whole.flaw ≡ None)
no_more file here front bytes whole l inv =
    let e = over file here bytes l in
    (sym (append-nil front) ∙ (ap (λ z. front ++ z.tokens) (sym e) ∙ ap (λ z. z.tokens) inv), ap (λ z. z.flaw) (sym inv) ∙ ap (λ z. z.flaw) e)

pub ruleset turns = (front_length, over)

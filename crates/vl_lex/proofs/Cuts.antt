-- The bytes of a file are cut into pieces, each the longest that fits; where its tokens stand.
use Rattle.std.proofs.Common.{◌≡◌, ℕ, zero, suc, ◌+◌, ◌≤◌, [], ◌∷◌, ◌++◌, length, drop, take, refl, ap, sym, ◌∙◌, subst, arith}
use Rattle.std.proofs.Math.Seq.{drop-append_seam, take-append_seam}
use Rattle.std.proofs.lemmas.List.{length-append}
use Rattle.vl_lex.specs.declared.pieces.Piece.{Piece}
use Rattle.vl_lex.specs.declared.pieces.Piece.TheVariants as p
use Rattle.vl_lex.specs.declared.lexer.Cursor.{Cursor}
use Rattle.vl_lex.specs.Bytes.{Text}
use Rattle.vl_lex.specs.Pieces.{piece}
use Rattle.vl_lex.specs.Lexed.{Lexed, nothing, with_tokens, past_space, past_join, past_token, token_here, lexed, beginning, file_tokens}
use Rattle.vl_lex.specs.Forms.{Longest, Taken, Cut, cut_end, cut_space, cut_join, cut_token, cut_bad, cut_unclosed}
use Rattle.vl_lex.proofs.Longest.{IsRight, piece_right, unended}
use Rattle.vl_lex.proofs.Turns.{space_goes, join_goes, token_goes, bad_stops, unclosed_stops}

moved : (file : ℕ) (here : Cursor) (text front rest : Text) (l : Lexed) → text ≡ front ++ rest → lexed file 0 here text ≡ l → Cut file here (front ++ rest) l → Cut file here text (lexed file 0 here text)
moved file here text front rest l e is c = subst (λ z. Cut file here z (lexed file 0 here text)) (sym e) (subst (λ z. Cut file here (front ++ rest) z) (sym is) c)

taken : (n : ℕ) (text front rest : Text) → text ≡ front ++ rest → length front ≡ n → take n text ≡ front
taken n text front rest e l = ap (λ z. take z text) (sym l) ∙ (ap (take (length front)) e ∙ take-append_seam front rest)

dropped : (n : ℕ) (text front rest : Text) → text ≡ front ++ rest → length front ≡ n → drop n text ≡ rest
dropped n text front rest e l = ap (λ z. drop z text) (sym l) ∙ (ap (drop (length front)) e ∙ drop-append_seam front rest)

there : (text front : Text) (e : Text) (x : Piece) → text ≡ e → piece text ≡ x → (x ≡ p.Unclosed → ⊥) → Longest text front → Taken e front
there text front e x q is not_open l = subst (λ z. Taken z front) q (l, λ n. not_open (sym is ∙ unended text n))

pub ends : (file : ℕ) (here : Cursor) → lexed file 0 here [] ≡ nothing
unfolding lexed
ends file here = refl

cuts : (fuel file : ℕ) (here : Cursor) (text : Text) → length text ≤ fuel → Cut file here text (lexed file 0 here text)
cuts fuel file here [] h = subst (λ z. Cut file here [] z) (sym (ends file here)) cut_end
cuts zero file here (b ∷ bs) h = absurd (omega arith)
cuts (suc fuel) file here (b ∷ bs) h = go (piece (b ∷ bs)) refl (piece_right b bs) (λ there rest l. cuts fuel file there rest l)
  where
    go : (x : Piece) → piece (b ∷ bs) ≡ x → IsRight (b ∷ bs) x → ((there : Cursor) (rest : Text) → length rest ≤ fuel → Cut file there rest (lexed file 0 there rest)) → Cut file here (b ∷ bs) (lexed file 0 here (b ∷ bs))
    go (p.Space n) is g more =
        let t = taken n (b ∷ bs) g.0 g.1 g.2 g.3 in let d = dropped n (b ∷ bs) g.0 g.1 g.2 g.3 in
        let l : length (b ∷ bs) ≡ length g.0 + length g.1 = ap length g.2 ∙ length-append g.0 g.1 in
        let e = space_goes file n here (b ∷ bs) (omega arith) is g.4 ∙ (ap (λ z. lexed file 0 (past_space here z) (drop n (b ∷ bs))) t ∙ ap (lexed file 0 (past_space here g.0)) d) in
        moved file here (b ∷ bs) g.0 g.1 (lexed file 0 (past_space here g.0) g.1) g.2 e (cut_space g.0 g.1 g.5 (there (b ∷ bs) g.0 (g.0 ++ g.1) (p.Space n) g.2 is (λ z. cc) g.6) (more (past_space here g.0) g.1 (omega arith)))
    go (p.Join n) is g more =
        let t = taken n (b ∷ bs) g.0 g.1 g.2 g.3 in let d = dropped n (b ∷ bs) g.0 g.1 g.2 g.3 in
        let l : length (b ∷ bs) ≡ length g.0 + length g.1 = ap length g.2 ∙ length-append g.0 g.1 in
        let e = join_goes file n here (b ∷ bs) (omega arith) is g.4 ∙ (ap (λ z. lexed file 0 (past_join here z) (drop n (b ∷ bs))) t ∙ ap (lexed file 0 (past_join here g.0)) d) in
        moved file here (b ∷ bs) g.0 g.1 (lexed file 0 (past_join here g.0) g.1) g.2 e (cut_join g.0 g.1 g.5 (there (b ∷ bs) g.0 (g.0 ++ g.1) (p.Join n) g.2 is (λ z. cc) g.6) (more (past_join here g.0) g.1 (omega arith)))
    go (p.Token kind n) is g more =
        let t = taken n (b ∷ bs) g.0 g.1 g.2 g.3 in let d = dropped n (b ∷ bs) g.0 g.1 g.2 g.3 in
        let l : length (b ∷ bs) ≡ length g.0 + length g.1 = ap length g.2 ∙ length-append g.0 g.1 in
        let e = token_goes file n here kind (b ∷ bs) (omega arith) is g.4
        ∙ (ap (λ z. with_tokens (token_here file here kind z ∷ []) (lexed file 0 (past_token here z) (drop n (b ∷ bs)))) t
        ∙ ap (λ z. with_tokens (token_here file here kind g.0 ∷ []) (lexed file 0 (past_token here g.0) z)) d) in
        moved file here (b ∷ bs) g.0 g.1 (with_tokens (token_here file here kind g.0 ∷ []) (lexed file 0 (past_token here g.0) g.1)) g.2 e
        (cut_token kind g.0 g.1 g.5 (there (b ∷ bs) g.0 (g.0 ++ g.1) (p.Token kind n) g.2 is (λ z. cc) g.6) (more (past_token here g.0) g.1 (omega arith)))
    go p.Bad is g more = subst (λ z. Cut file here (b ∷ bs) z) (sym (bad_stops file here (b ∷ bs) (omega arith) is)) (cut_bad (omega arith) g (λ n. let q = unended (b ∷ bs) n in cc))
    go p.Unclosed is g more = subst (λ z. Cut file here (b ∷ bs) z) (sym (unclosed_stops file here (b ∷ bs) (omega arith) is)) (cut_unclosed g)

pub cuts_file : (file : ℕ) (text : Text) → Cut file beginning text (file_tokens file text)
cuts_file file text = cuts (length text) file beginning text (omega arith)

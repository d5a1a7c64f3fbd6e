-- Where the tokens of a file stand.
use Rattle.std.proofs.Common.{◌≡◌, ℕ, ◌+◌, ◌-◌, ◌<◌, ◌≤◌, cond, List, [], ◌∷◌, ◌++◌, length, drop, take, map, refl, ap, sym, ◌∙◌, subst, arith}
use Rattle.std.specs.Prelude.{IfOk, Result, Ok, Err}
use Rattle.vl_tree.specs.declared.tokens.Token.{Token}
use Rattle.vl_tree.specs.declared.faults.Stop.{Stop}
use Rattle.std.proofs.Math.Seq.{take-add, drop-append_seam, take-append_seam}
use Rattle.std.proofs.lemmas.List.Sums.{sum_by-append}
use Rattle.std.proofs.lemmas.List.{length-append, length-drop, drop-drop}
use Rattle.vl_tree.specs.declared.tokens.TokenKind.{TokenKind}
use Rattle.vl_lex.specs.declared.lexer.Cursor.{Cursor}
use Rattle.vl_lex.specs.Bytes.{Text, is_newline}
use Rattle.vl_lex.specs.Lexed.{Seen, Lexed, newlines, file_tokens, past_space, past_join, past_token, token_here, view, Lexes}
use Rattle.vl_lex.specs.Forms.{IsToken, fits_token, Cut, cut_end, cut_space, cut_join, cut_token, cut_bad, cut_unclosed}
use Rattle.vl_lex.specs.Places.{IsSliceOf, AreSlices, InOrder, tokens_of}
use Rattle.vl_lex.proofs.Fitting.{nothing_empty}
use Rattle.vl_lex.proofs.Cuts.{cuts_file}

newlines_more : (xs ys : Text) → newlines (xs ++ ys) ≡ newlines xs + newlines ys
newlines_more xs ys = sum_by-append (λ x. cond (is_newline x) 1 0) xs ys

-- what is known of a place that the bytes are cut from
abbrev pub At : Cursor → Text → Text → Type 0
At here text bytes = (text ≡ drop here.at bytes) × (here.at ≤ length bytes) × (here.line ≡ 1 + newlines (take here.at bytes))

on_from : (here there : Cursor) (piece rest bytes : Text) → there.at ≡ here.at + length piece → there.line ≡ here.line + newlines piece → At here (piece ++ rest) bytes → At there rest bytes
on_from here there piece rest bytes at line a =
    let d : drop there.at bytes ≡ rest = ap (λ n. drop n bytes) at ∙ (sym (drop-drop (length piece) here.at bytes) ∙ (ap (drop (length piece)) (sym a.0) ∙ drop-append_seam piece rest)) in
    let l : length (piece ++ rest) ≡ length bytes - here.at = ap length a.0 ∙ length-drop here.at bytes in
    let t : take there.at bytes ≡ take here.at bytes ++ piece =
    ap (λ n. take n bytes) at ∙ (take-add here.at (length piece) bytes ∙ ap (λ z. take here.at bytes ++ z) (ap (take (length piece)) (sym a.0) ∙ take-append_seam piece rest)) in
    let n : newlines (take there.at bytes) ≡ newlines (take here.at bytes) + newlines piece = ap newlines t ∙ newlines_more (take here.at bytes) piece in
    (sym d, omega (arith, length-append piece rest), omega (arith, line, a.2, n))

slice_here : (file : ℕ) (here : Cursor) (kind : TokenKind) (piece rest bytes : Text) → 0 < length piece → At here (piece ++ rest) bytes → IsSliceOf bytes (token_here file here kind piece).token
slice_here file here kind piece rest bytes h a =
    let l : length (piece ++ rest) ≡ length bytes - here.at = ap length a.0 ∙ length-drop here.at bytes in
    let n : here.at + length piece - here.at ≡ length piece = omega arith in
    record {
      there = omega arith;
      within = omega (arith, length-append piece rest);
      text = sym (ap (λ z. take z (drop here.at bytes)) n ∙ (ap (take (length piece)) (sym a.0) ∙ take-append_seam piece rest));
      line = a.2;
    }

token_long : (kind : TokenKind) (piece : Text) → IsToken kind piece → 0 < length piece
token_long kind [] h = absurd (nothing_empty (fits_token kind h))
token_long kind (b ∷ bs) h = omega arith

abbrev pub Placed_well : ℕ → Text → ℕ → List Seen → Type 0
Placed_well file bytes from ts = AreSlices file bytes ts × InOrder from ts

later : (from at : ℕ) (ts : List Seen) → from ≤ at → InOrder at ts → InOrder from ts
later from at [] h o = tt
later from at (t ∷ ts) h o = (omega (arith, o.0), o.1)

in_place : {file : ℕ} {here : Cursor} {text : Text} {l : Lexed} → Cut file here text l → (bytes : Text) → At here text bytes → Placed_well file bytes here.at (tokens_of l.tokens)
in_place (cut_end) bytes a = (tt, tt)
in_place (cut_space {file} {here} {l} piece rest s g c) bytes a =
    let k = in_place c bytes (on_from here (past_space here piece) piece rest bytes refl refl a) in (k.0, later here.at (here.at + length piece) (tokens_of l.tokens) (omega arith) k.1)
in_place (cut_join {file} {here} {l} piece rest s g c) bytes a =
    let k = in_place c bytes (on_from here (past_join here piece) piece rest bytes refl refl a) in (k.0, later here.at (here.at + length piece) (tokens_of l.tokens) (omega arith) k.1)
in_place (cut_token {file} {here} {l} kind piece rest s g c) bytes a =
    let k = in_place c bytes (on_from here (past_token here piece) piece rest bytes refl refl a) in
    (((refl, slice_here file here kind piece rest bytes (token_long kind piece s) a), k.0), (omega arith, k.1))
in_place (cut_bad h n o) bytes a = (tt, tt)
in_place (cut_unclosed n) bytes a = (tt, tt)

pub file_places : (file : ℕ) (text : Text) → Placed_well file text 0 (tokens_of (file_tokens file text).tokens)
file_places file text = in_place (cuts_file file text) text (refl, omega arith, refl)

pub file_slices : (file : ℕ) (text : Text) → AreSlices file text (tokens_of (file_tokens file text).tokens)
file_slices file text = (file_places file text).0

pub file_order : (file : ℕ) (text : Text) → InOrder 0 (tokens_of (file_tokens file text).tokens)
file_order file text = (file_places file text).1

pub lexed_slices : (r : Result (List Token) Stop) (file : ℕ) (bytes : Text) → Lexes r (file_tokens file bytes) → IfOk r (λ tokens. AreSlices file bytes (map view tokens))
lexed_slices (Ok tokens) file bytes h = subst (AreSlices file bytes) (sym h.0) (file_slices file bytes)
lexed_slices (Err e) file bytes h = tt

pub lexed_order : (r : Result (List Token) Stop) (file : ℕ) (bytes : Text) → Lexes r (file_tokens file bytes) → IfOk r (λ tokens. InOrder 0 (map view tokens))
lexed_order (Ok tokens) file bytes h = subst (InOrder 0) (sym h.0) (file_order file bytes)
lexed_order (Err e) file bytes h = tt

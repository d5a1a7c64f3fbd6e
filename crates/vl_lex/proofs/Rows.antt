-- Parts of a line, files by name, names as text.
use Rattle.std.proofs.Common.{◌≡◌, ℕ, zero, suc, ◌+◌, ◌<◌, ◌≤◌, ◌==◌, ◌||◌, Bool, true, false, cond, if◌then◌else◌, Some, None, List, [], ◌∷◌, length, take, drop, map, get_or, refl, ap}
use denote.Ref.{Bor}
use Rattle.std.specs.List.{prefix_len, list_any}
use Rattle.std.specs.Str.{bytes_eq, IsUtf8, is_utf8}
use Rattle.std.proofs.lemmas.Str.{IsUtf8-from_is_utf8, is_utf8-from_IsUtf8}
use Rattle.std.proofs.lemmas.List.Sums.{prefix_len-le-length}
use Rattle.vl_lex.specs.declared.source.Source.{Source}
use Rattle.vl_lex.specs.Sources.{files_of}
use Rattle.vl_lex.specs.declared.lexer.Lined.{Lined}
use Rattle.vl_lex.specs.Bytes.{Text}
use Rattle.vl_lex.specs.Lexed.{placed}
use Rattle.vl_lex.specs.Walk.{row_len, find_file}
use Rattle.vl_lex.proofs.Gives.{split_items, none_behind}

same_step : (t : Bool) (n m : ℕ) → n ≡ m → cond t (1 + n) 0 ≡ cond t (1 + m) 0
same_step true n m e = ap (λ k. 1 + k) e
same_step false n m e = refl

pub row_lens : (row : ℕ) (xs : List Lined) → row_len row (map placed xs) ≡ prefix_len (λ t. t.row == row) xs
row_lens row [] = refl
row_lens row (x ∷ xs) = same_step (x.row == row) _ _ (row_lens row xs)

pub row_within : (row : ℕ) (xs : List Lined) → prefix_len (λ t. t.row == row) xs ≤ length xs
row_within row xs = prefix_len-le-length (λ t. t.row == row) xs

pub ruleset rows = (row_lens, row_within)

pub body_seen : (n : ℕ) (xs : List Lined) → map placed (take n xs) ≡ take n (map placed xs)
body_seen zero xs = refl
body_seen (suc n) [] = refl
body_seen (suc n) (x ∷ xs) = ap (λ z. placed x ∷ z) (body_seen n xs)

pub find_turn : (at : ℕ) (d f : Source) (name : Text) (files : List Source) → at < length files → get_or files at d ≡ f
    → find_file at name (files_of (drop at files)) ≡ (if bytes_eq f.name.now name then Some at else find_file (at + 1) name (files_of (drop (at + 1) files)))
find_turn at d f name files h e = ap (λ z. find_file at name (files_of z)) (split_items files at d f h e)

pub find_over : (at : ℕ) (name : Text) (files : List Source) → length files ≤ at → find_file at name (files_of (drop at files)) ≡ None
find_over at name files h = ap (λ z. find_file at name (files_of z)) (none_behind files at h)

pub ruleset finds = (find_turn, find_over)

not_text : (b : Bool) → (b ≡ true → ⊥) → b ≡ false
not_text true h = absurd (h refl)
not_text false h = refl

pub is_text : (bs : Text) → IsUtf8 bs → is_utf8 bs ≡ true
is_text bs h = is_utf8-from_IsUtf8 bs h

pub no_text : (bs : Text) → (IsUtf8 bs → ⊥) → is_utf8 bs ≡ false
no_text bs h = not_text (is_utf8 bs) (λ e. h (IsUtf8-from_is_utf8 bs e))

pub ruleset utf8 = (is_text, no_text)

same_or : (t a b : Bool) → a ≡ b → (t || a) ≡ (t || b)
same_or t a b e = ap (λ z. t || z) e

pub any_now : (name : Text) (xs : List (Bor Text)) → list_any (λ n. bytes_eq n name) (map (λ n. n.now) xs) ≡ list_any (λ n. bytes_eq n.now name) xs
any_now name [] = refl
any_now name (x ∷ xs) = same_or (bytes_eq x.now name) _ _ (any_now name xs)

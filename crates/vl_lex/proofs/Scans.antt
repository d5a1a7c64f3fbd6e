-- Turns of the scans for the end of a comment and of a string.
use Rattle.std.proofs.Common.{◌≡◌, ℕ, suc, ◌+◌, ◌<◌, ◌≤◌, ◌==◌, ◌&&◌, not, Bool, if◌then◌else◌, Some, None, [], ◌∷◌, length, drop, get_or, refl, ap, sym, ◌∙◌, add-one, arith}
use Rattle.std.proofs.Math.Seq.{drop-cons}
use Rattle.std.proofs.lemmas.List.{length-drop}
use Rattle.vl_lex.specs.Bytes.{Text}
use Rattle.vl_lex.specs.Pieces.{comment_end, quote_end}

-- the bytes from a place on begin with the byte there
pub split_at : (bytes : Text) (at b : ℕ) → at < length bytes → get_or bytes at 0 ≡ b → drop at bytes ≡ b ∷ drop (at + 1) bytes
split_at bytes at b h g = drop-cons bytes at 0 h ∙ (ap (λ x. x ∷ drop (suc at) bytes) g ∙ ap (λ n. b ∷ drop n bytes) (sym (add-one at)))

pub nothing_left : (bytes : Text) (at : ℕ) → length bytes ≤ at → drop at bytes ≡ []
nothing_left bytes at h = let e : length (drop at bytes) ≡ 0 = omega (arith, length-drop at bytes) in empty (drop at bytes) e
  where
    empty : (xs : Text) → length xs ≡ 0 → xs ≡ []
    empty [] h = refl
    empty (x ∷ xs) h = absurd (omega arith)

pub comment_turn : (bytes : Text) (at : ℕ) (star : Bool) (b : ℕ) → at < length bytes → get_or bytes at 0 ≡ b
    → comment_end at star (drop at bytes) ≡ (if star && (b == 47) then Some (at + 1) else comment_end (at + 1) (b == 42) (drop (at + 1) bytes))
comment_turn bytes at star b h g = ap (comment_end at star) (split_at bytes at b h g)

pub comment_over : (bytes : Text) (at : ℕ) (star : Bool) → length bytes ≤ at → comment_end at star (drop at bytes) ≡ None
comment_over bytes at star h = ap (comment_end at star) (nothing_left bytes at h)

pub quote_turn : (bytes : Text) (at : ℕ) (guarded : Bool) (b : ℕ) → at < length bytes → get_or bytes at 0 ≡ b
    → quote_end at guarded (drop at bytes) ≡ (if b == 10 then None else (if not guarded && (b == 34) then Some (at + 1) else quote_end (at + 1) (not guarded && (b == 92)) (drop (at + 1) bytes)))
quote_turn bytes at guarded b h g = ap (quote_end at guarded) (split_at bytes at b h g)

pub quote_over : (bytes : Text) (at : ℕ) (guarded : Bool) → length bytes ≤ at → quote_end at guarded (drop at bytes) ≡ None
quote_over bytes at guarded h = ap (quote_end at guarded) (nothing_left bytes at h)

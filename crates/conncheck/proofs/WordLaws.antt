-- The words of options.
use Rattle.std.proofs.Common.{arith, ◌≡◌, ◌≤◌, ◌-◌, ◌∙◌, ◌++◌, true, false, List, [], ◌∷◌, length, take, drop, get_or, sym, ap, if◌then◌else◌, None}
use Rattle.std.proofs.lemmas.List.{take_all}
use Rattle.conncheck.specs.Words.{Pair, Text, files_behind, is_plain, line_from, takes}

pub two : {X : Type 0} (xs : List X) (d e : X) → 2 ≤ length xs → xs ≡ get_or xs 0 d ∷ get_or xs 1 e ∷ take (length xs - 2) (drop 2 xs)
two [] d e h = absurd (omega arith)
two (x ∷ []) d e h = absurd (omega arith)
two (x ∷ y ∷ r) d e h = ap (λ t. x ∷ y ∷ t) (sym (take_all (length (x ∷ y ∷ r) - 2) r (omega arith)))

module _ (allowed : List Text) (pairs : List Pair) (name value : Text) (rest : List Text) where
  -- one option more
  pub option_moves : is_plain name ≡ false → takes allowed pairs name value ≡ true
      → line_from allowed (pairs ++ (record { option = name; value = value }) ∷ []) rest ≡ line_from allowed pairs (name ∷ value ∷ rest)
  option_moves first second =
      sym (ap (λ b. if b then files_behind pairs (name ∷ value ∷ rest)
      else (if takes allowed pairs name value then line_from allowed (pairs ++ (record { option = name; value = value }) ∷ []) rest else None)) first
      ∙ ap (λ b. if b then line_from allowed (pairs ++ (record { option = name; value = value }) ∷ []) rest else None) second)

  -- a word that is no option of the command, or stands twice, or has no value
  pub option_refused : is_plain name ≡ false → takes allowed pairs name value ≡ false → None ≡ line_from allowed pairs (name ∷ value ∷ rest)
  option_refused first second =
      sym (ap (λ b. if b then files_behind pairs (name ∷ value ∷ rest)
      else (if takes allowed pairs name value then line_from allowed (pairs ++ (record { option = name; value = value }) ∷ []) rest else None)) first
      ∙ ap (λ b. if b then line_from allowed (pairs ++ (record { option = name; value = value }) ∷ []) rest else None) second)

  -- the file names begin
  pub files_begin : is_plain name ≡ true → files_behind pairs (name ∷ value ∷ rest) ≡ line_from allowed pairs (name ∷ value ∷ rest)
  files_begin first =
      sym (ap (λ b. if b then files_behind pairs (name ∷ value ∷ rest)
      else (if takes allowed pairs name value then line_from allowed (pairs ++ (record { option = name; value = value }) ∷ []) rest else None)) first)

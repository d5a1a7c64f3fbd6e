-- The plain table: one row on each line.
use Rattle.std.specs.Prelude.{List, [], ◌∷◌, ◌++◌, ℕ, Bool, true, not, ◌&&◌, ◌==◌, if◌then◌else◌, nat_lt, Option, Some, None, map, length, codes}
use Rattle.std.specs.List.{list_all, list_any}
use Rattle.std.specs.Str.{bytes_eq}
use Rattle.plain_form.specs.Modules.{Text}
use Rattle.plain_form.specs.Pieces.{pieces}
use Rattle.plain_form.specs.Wires.{place}

-- a row: its name, and the places of its two ports
pub record Row : Type 0 where
  pub name : Text
  pub source : ℕ
  pub dest : ℕ

-- bytes 33 to 126 but the quotation mark; a comma ends a field
abbrev pub is_row_byte : ℕ → Bool
is_row_byte b = nat_lt 32 b && (nat_lt b 127 && not (b == 34))

-- 1 to 128 such bytes
abbrev pub is_row_name : Text → Bool
is_row_name w = nat_lt 0 (length w) && (nat_lt (length w) 129 && list_all is_row_byte w)

-- nothing, or a comment
abbrev pub is_skipped : Text → Bool
is_skipped [] = true
is_skipped (b ∷ bs) = b == 35

abbrev pub row_at : Text → Option ℕ → Option ℕ → Option Row
row_at name None d = None
row_at name (Some s) None = None
row_at name (Some s) (Some d) = Some (record { name = name; source = s; dest = d })

-- the row of six fields: `CONNECTION`, the row's name, the module and a port, twice
abbrev pub row_of : List Text → Text → List Text → Option Row
row_of names top (k ∷ n ∷ b ∷ s ∷ e ∷ d ∷ []) =
    if bytes_eq k (codes "CONNECTION") && (is_row_name n && (bytes_eq b top && bytes_eq e top))
    then row_at n (place names s) (place names d) else None
row_of names top _ = None

-- one row more, under a name that no row before it has
abbrev pub row_then : List Row → Option Row → (List Row → Option (List Row)) → Option (List Row)
row_then held None next = None
row_then held (Some r) next = if list_any (bytes_eq r.name) (map (λ h. h.name) held) then None else next (held ++ r ∷ [])

abbrev pub rows_after : List Text → Text → List Row → List Text → Option (List Row)
rows_after names top held [] = Some held
rows_after names top held (l ∷ ls) =
    if is_skipped l then rows_after names top held ls
    else row_then held (row_of names top (pieces 44 l)) (λ more. rows_after names top more ls)

abbrev pub few : Option (List Row) → Option (List Row)
few None = None
few (Some rows) = if nat_lt 10000 (length rows) then None else Some rows

-- the rows of a plain table, at most 10,000
abbrev pub rows_of : List Text → Text → Text → Option (List Row)
rows_of names top text = few (rows_after names top [] (pieces 10 text))

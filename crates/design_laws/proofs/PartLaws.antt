-- Members of filtered lists, and their use in cuts.
use Rattle.std.proofs.Common.{Bool, true, false, List, [], ◌∷◌, map, inl, inr, if◌then◌else◌}
use Rattle.std.specs.List.{filter}
use Rattle.design_core.specs.Cells.{In}

in_cons : {A : Type 0} (k : Bool) (x c : A) (xs ys : List A) → (In c ys → In c xs) → In c (if k then x ∷ ys else ys) → In c (x ∷ xs)
in_cons true x c xs ys h (inl e) = inl e
in_cons true x c xs ys h (inr m) = inr (h m)
in_cons false x c xs ys h m = inr (h m)

-- a member of what is kept is a member
pub in_filter : {A : Type 0} (p : A → Bool) (xs : List A) (c : A) → In c (filter p xs) → In c xs
in_filter p [] c m = m
in_filter p (x ∷ xs) c m = in_cons (p x) x c xs (filter p xs) (in_filter p xs c) m

map_cons : {A C : Type 0} (f : A → C) (k : Bool) (x : A) (c : C) (xs ys : List A) → (In c (map f ys) → In c (map f xs)) → In c (map f (if k then x ∷ ys else ys)) → In c (map f (x ∷ xs))
map_cons f true x c xs ys h (inl e) = inl e
map_cons f true x c xs ys h (inr m) = inr (h m)
map_cons f false x c xs ys h m = inr (h m)

-- an image of what is kept is an image
pub in_map_filter : {A C : Type 0} (f : A → C) (p : A → Bool) (xs : List A) (c : C) → In c (map f (filter p xs)) → In c (map f xs)
in_map_filter f p [] c m = m
in_map_filter f p (x ∷ xs) c m = map_cons f (p x) x c xs (filter p xs) (in_map_filter f p xs c) m

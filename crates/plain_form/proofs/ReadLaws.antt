-- Reading a list of words from its front.
use Rattle.std.proofs.Common.{add-one, drop-cons, ◌≡◌, ◌∙◌, ◌+◌, ◌-◌, ◌<◌, ◌≤◌, ◌++◌, ℕ, Bool, true, false, List, [], ◌∷◌, Some, None, length, take, drop, get_or, refl, sym, ap, arith, if◌then◌else◌, codes}
use Rattle.std.proofs.lemmas.List.{take_all}
use Rattle.std.specs.Str.{bytes_eq}
use Rattle.plain_form.specs.Modules.{Text, Port, Assign, port_of, ports_after, assign_of, assigns_after, is_end, module_of}

whole : {X : Type 0} (n m : ℕ) (r : List X) → n ≡ length r + m → take (n - m) r ≡ r
whole n m r e = take_all (n - m) r (omega arith)

pub three : {X : Type 0} (xs : List X) (d : X) → 3 ≤ length xs → xs ≡ get_or xs 0 d ∷ get_or xs 1 d ∷ get_or xs 2 d ∷ take (length xs - 3) (drop 3 xs)
three [] d h = absurd (omega arith)
three (x ∷ []) d h = absurd (omega arith)
three (x ∷ y ∷ []) d h = absurd (omega arith)
three (x ∷ y ∷ z ∷ r) d h = ap (λ t. x ∷ y ∷ z ∷ t) (sym (whole (length (x ∷ y ∷ z ∷ r)) 3 r (omega arith)))

pub five : {X : Type 0} (xs : List X) (d : X) → 5 ≤ length xs
    → xs ≡ get_or xs 0 d ∷ get_or xs 1 d ∷ get_or xs 2 d ∷ get_or xs 3 d ∷ get_or xs 4 d ∷ take (length xs - 5) (drop 5 xs)
five [] d h = absurd (omega arith)
five (x ∷ []) d h = absurd (omega arith)
five (x ∷ y ∷ []) d h = absurd (omega arith)
five (x ∷ y ∷ z ∷ []) d h = absurd (omega arith)
five (x ∷ y ∷ z ∷ v ∷ []) d h = absurd (omega arith)
five (x ∷ y ∷ z ∷ v ∷ w ∷ r) d h = ap (λ t. x ∷ y ∷ z ∷ v ∷ w ∷ t) (sym (whole (length (x ∷ y ∷ z ∷ v ∷ w ∷ r)) 5 r (omega arith)))

pub ports_short : (held : List Port) (ws : List Text) → length ws < 3 → ports_after held ws ≡ None
ports_short held [] h = refl
ports_short held (x ∷ []) h = refl
ports_short held (x ∷ y ∷ []) h = refl
ports_short held (x ∷ y ∷ z ∷ r) h = absurd (omega arith)

pub module_short : (ws : List Text) → length ws < 3 → module_of ws ≡ None
module_short [] h = refl
module_short (x ∷ []) h = refl
module_short (x ∷ y ∷ []) h = refl
module_short (x ∷ y ∷ z ∷ r) h = absurd (omega arith)

pub assigns_short : (held : List Assign) (ws : List Text) → length ws < 5 → assigns_after held ws ≡ (if is_end ws then Some held else None)
assigns_short held [] h = refl
assigns_short held (x ∷ []) h = refl
assigns_short held (x ∷ y ∷ []) h = refl
assigns_short held (x ∷ y ∷ z ∷ []) h = refl
assigns_short held (x ∷ y ∷ z ∷ v ∷ []) h = refl
assigns_short held (x ∷ y ∷ z ∷ v ∷ w ∷ r) h = absurd (omega arith)

pub assigns_end : (held : List Assign) (ws : List Text) (b : Bool) → length ws < 5 → b ≡ is_end ws → assigns_after held ws ≡ (if b then Some held else None)
assigns_end held ws b h e = assigns_short held ws h ∙ ap (λ x. if x then Some held else None) (sym e)

pub port_moves : (held more : List Port) (a b m : Text) (rest : List Text) (p : Port) → port_of a b ≡ Some p → bytes_eq m (codes ")") ≡ false → bytes_eq m (codes ",") ≡ true
    → more ≡ held ++ (p ∷ []) → ports_after more rest ≡ ports_after held (a ∷ b ∷ m ∷ rest)
port_moves held more a b m rest p is not_end goes_on e = rw (is, not_end, goes_on, e) refl

pub assign_moves : (held more : List Assign) (a b c d e : Text) (rest : List Text) (x : Assign) → assign_of a b c d e ≡ Some x
    → more ≡ held ++ (x ∷ []) → assigns_after more rest ≡ assigns_after held (a ∷ b ∷ c ∷ d ∷ e ∷ rest)
assign_moves held more a b c d e rest x is q = rw (is, q) refl

-- the next item of a list of structs, as the loop has it
pub at_item : {X : Type 0} (xs : List X) (i : ℕ) (d : X) → i < length xs → drop i xs ≡ get_or xs i d ∷ drop (i + 1) xs
at_item xs i d lt = rw (add-one, drop-cons xs i d lt) refl

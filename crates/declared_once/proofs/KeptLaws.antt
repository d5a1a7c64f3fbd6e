-- What is kept of declarations tells of one more whether it goes together with each of them.
use Rattle.std.proofs.Common.{◌≡◌, ℕ, ℤ, Bool, true, false, not, ◌&&◌, ◌||◌, List, [], ◌∷◌, ◌++◌, Option, refl, ap, sym, ◌∙◌, subst, if◌then◌else◌}
use Rattle.std.specs.List.{list_any}
use Rattle.std.specs.Str.{bytes_eq}
use Rattle.std.proofs.lemmas.List.Folds.{list_any-append}
use Rattle.std.proofs.lemmas.Slice.Eq.{bytes_eq-Decides}
use Rattle.vl_items.specs.Declarations.{is_among, added}
use Rattle.declared_once.specs.Declarations.{Declaration, Equal, are_parts, go_together, is_of, clashes, accepted, is_declared, same_as_first}
use Rattle.declared_once.specs.Seen.{Kept, kept_of, with_name, judge, of_part}
use Rattle.declared_once.specs.Laws.{judged, KeptNamesTell}
use Rattle.declared_once.specs.declared.declared.Role.{Role}
use Rattle.declared_once.specs.declared.declared.Role.TheVariants.{Direction, Net, Whole}
use Rattle.declared_once.specs.declared.declared.Judgement.{Judgement}
use Rattle.declared_once.specs.declared.declared.Judgement.TheVariants.{First, Second, Clash}

-- names among which one is added

or_false : (a : Bool) → (a || false) ≡ a
or_false true = refl
or_false false = refl

or_swap : (a b : Bool) → (a || b) ≡ (b || a)
or_swap true true = refl
or_swap true false = refl
or_swap false true = refl
or_swap false false = refl

among_added : (x y : List ℕ) (xs : List (List ℕ)) → is_among x (added xs y) ≡ (bytes_eq x y || is_among x xs)
among_added x y xs = go (is_among y xs) refl (bytes_eq x y) refl
  where
    go : (t : Bool) → is_among y xs ≡ t → (s : Bool) → bytes_eq x y ≡ s → is_among x (if t then xs else xs ++ y ∷ []) ≡ (s || is_among x xs)
    go true is true e = subst (λ (z : List ℕ). is_among z xs ≡ true) (sym ((bytes_eq-Decides x y).0 e)) is
    go true is false e = refl
    go false is s e = list_any-append (bytes_eq x) xs (y ∷ []) ∙ ap (λ b. is_among x xs || (b || false)) e ∙ ap (λ b. is_among x xs || b) (or_false s) ∙ or_swap (is_among x xs) s

-- of the declarations of a name, those that can't be the other part beside a role, and those that can
abbrev own : Role → List ℕ → List Declaration → Bool
own r x ds = list_any (λ e. is_of x e && not (are_parts r e.role)) ds

abbrev pair : Role → List ℕ → List Declaration → Bool
pair r x ds = list_any (λ e. is_of x e && are_parts r e.role) ds

abbrev fields : Role → List ℕ → Kept → Bool
fields Direction x k = is_among x k.directions || is_among x k.wholes
fields Net x k = is_among x k.types || is_among x k.wholes
fields Whole x k = is_among x k.directions || (is_among x k.types || is_among x k.wholes)

abbrev others : Role → List ℕ → Kept → Bool
others Direction x k = is_among x k.types
others Net x k = is_among x k.directions
others Whole x k = false

move : (s a b : Bool) → ((s || a) || b) ≡ (s || (a || b))
move true a b = refl
move false a b = refl

under : (s a b : Bool) → (a || (s || b)) ≡ (s || (a || b))
under true true b = refl
under true false b = refl
under false true b = refl
under false false b = refl

under_two : (s a b c : Bool) → (a || (b || (s || c))) ≡ (s || (a || (b || c)))
under_two s a b c = ap (λ z. a || z) (under s b c) ∙ under s a (b || c)

and_true : (s : Bool) → (s && true) ≡ s
and_true true = refl
and_true false = refl

and_false : (s : Bool) → (s && false) ≡ false
and_false true = refl
and_false false = refl

fields_with : (r q : Role) (x y : List ℕ) (k : Kept) → fields r x (with_name k q y) ≡ ((bytes_eq x y && not (are_parts r q)) || fields r x k)
fields_with Direction Direction x y k = ap (λ z. z || is_among x k.wholes) (among_added x y k.directions) ∙ move (bytes_eq x y) (is_among x k.directions) (is_among x k.wholes)
    ∙ ap (λ z. z || (is_among x k.directions || is_among x k.wholes)) (sym (and_true (bytes_eq x y)))
fields_with Direction Net x y k = ap (λ z. z || (is_among x k.directions || is_among x k.wholes)) (sym (and_false (bytes_eq x y)))
fields_with Direction Whole x y k = ap (λ z. is_among x k.directions || z) (among_added x y k.wholes) ∙ under (bytes_eq x y) (is_among x k.directions) (is_among x k.wholes)
    ∙ ap (λ z. z || (is_among x k.directions || is_among x k.wholes)) (sym (and_true (bytes_eq x y)))
fields_with Net Direction x y k = ap (λ z. z || (is_among x k.types || is_among x k.wholes)) (sym (and_false (bytes_eq x y)))
fields_with Net Net x y k = ap (λ z. z || is_among x k.wholes) (among_added x y k.types) ∙ move (bytes_eq x y) (is_among x k.types) (is_among x k.wholes)
    ∙ ap (λ z. z || (is_among x k.types || is_among x k.wholes)) (sym (and_true (bytes_eq x y)))
fields_with Net Whole x y k = ap (λ z. is_among x k.types || z) (among_added x y k.wholes) ∙ under (bytes_eq x y) (is_among x k.types) (is_among x k.wholes)
    ∙ ap (λ z. z || (is_among x k.types || is_among x k.wholes)) (sym (and_true (bytes_eq x y)))
fields_with Whole Direction x y k = ap (λ z. z || (is_among x k.types || is_among x k.wholes)) (among_added x y k.directions)
    ∙ move (bytes_eq x y) (is_among x k.directions) (is_among x k.types || is_among x k.wholes) ∙ ap (λ z. z || fields Whole x k) (sym (and_true (bytes_eq x y)))
fields_with Whole Net x y k = ap (λ z. is_among x k.directions || (z || is_among x k.wholes)) (among_added x y k.types)
    ∙ ap (λ z. is_among x k.directions || z) (move (bytes_eq x y) (is_among x k.types) (is_among x k.wholes))
    ∙ under (bytes_eq x y) (is_among x k.directions) (is_among x k.types || is_among x k.wholes) ∙ ap (λ z. z || fields Whole x k) (sym (and_true (bytes_eq x y)))
fields_with Whole Whole x y k = ap (λ z. is_among x k.directions || (is_among x k.types || z)) (among_added x y k.wholes)
    ∙ under_two (bytes_eq x y) (is_among x k.directions) (is_among x k.types) (is_among x k.wholes) ∙ ap (λ z. z || fields Whole x k) (sym (and_true (bytes_eq x y)))

others_with : (r q : Role) (x y : List ℕ) (k : Kept) → others r x (with_name k q y) ≡ ((bytes_eq x y && are_parts r q) || others r x k)
others_with Direction Direction x y k = ap (λ z. z || is_among x k.types) (sym (and_false (bytes_eq x y)))
others_with Direction Net x y k = among_added x y k.types ∙ ap (λ z. z || is_among x k.types) (sym (and_true (bytes_eq x y)))
others_with Direction Whole x y k = ap (λ z. z || is_among x k.types) (sym (and_false (bytes_eq x y)))
others_with Net Direction x y k = among_added x y k.directions ∙ ap (λ z. z || is_among x k.directions) (sym (and_true (bytes_eq x y)))
others_with Net Net x y k = ap (λ z. z || is_among x k.directions) (sym (and_false (bytes_eq x y)))
others_with Net Whole x y k = ap (λ z. z || is_among x k.directions) (sym (and_false (bytes_eq x y)))
others_with Whole q x y k = ap (λ z. z || false) (sym (and_false (bytes_eq x y)))

kept_own : (r : Role) (x : List ℕ) (ds : List Declaration) → fields r x (kept_of ds) ≡ own r x ds
kept_own Direction x [] = refl
kept_own Net x [] = refl
kept_own Whole x [] = refl
kept_own r x (d ∷ ds) = fields_with r d.role x d.name (kept_of ds) ∙ ap (λ z. (is_of x d && not (are_parts r d.role)) || z) (kept_own r x ds)

kept_pair : (r : Role) (x : List ℕ) (ds : List Declaration) → others r x (kept_of ds) ≡ pair r x ds
kept_pair Direction x [] = refl
kept_pair Net x [] = refl
kept_pair Whole x [] = refl
kept_pair r x (d ∷ ds) = others_with r d.role x d.name (kept_of ds) ∙ ap (λ z. (is_of x d && are_parts r d.role) || z) (kept_pair r x ds)

judge_is : (r : Role) (x : List ℕ) (k : Kept) (same : Bool) → judge k r x same ≡ of_part (fields r x k) (others r x k) same
judge_is Direction x k same = refl
judge_is Net x k same = refl
judge_is Whole x k same = refl

-- what stands beside the other part is no other part itself
triangle : (r q s : Role) → are_parts r q ≡ true → are_parts q s ≡ true → are_parts r s ≡ false
triangle Direction Net Direction e f = refl
triangle Net Direction Net e f = refl
triangle Direction Direction s e f = absurd (cc)
triangle Direction Whole s e f = absurd (cc)
triangle Net Net s e f = absurd (cc)
triangle Net Whole s e f = absurd (cc)
triangle Whole q s e f = absurd (cc)
triangle Direction Net Net e f = absurd (cc)
triangle Direction Net Whole e f = absurd (cc)
triangle Net Direction Direction e f = absurd (cc)
triangle Net Direction Whole e f = absurd (cc)

module _ (same : Equal) (r : Role) (x : List ℕ) (b : Option (ℤ × ℤ)) where
  abbrev this : Declaration
  this = record { name = x; role = r; bounds = b }

  record NoneOf (ds : List Declaration) : Type 0 where
    no_own : own r x ds ≡ false
    no_pair : pair r x ds ≡ false
    no_clash : clashes same ds this ≡ false

  none_of : (ds : List Declaration) → is_declared ds x ≡ false → NoneOf ds
  none_of [] e = record { no_own = refl; no_pair = refl; no_clash = refl }
  none_of (d ∷ ds) e = go (none_of ds) (is_of x d) refl e
    where
      go : (is_declared ds x ≡ false → NoneOf ds) → (t : Bool) → is_of x d ≡ t → (t || is_declared ds x) ≡ false → NoneOf (d ∷ ds)
      go later true is h = absurd (cc)
      go later false is h =
          let rest = later h in record {
            no_own = ap (λ z. (z && not (are_parts r d.role)) || own r x ds) is ∙ rest.no_own;
            no_pair = ap (λ z. (z && are_parts r d.role) || pair r x ds) is ∙ rest.no_pair;
            no_clash = ap (λ z. (z && not (go_together same this d)) || clashes same ds this) is ∙ rest.no_clash;
          }

  record SomeOwn (ds : List Declaration) : Type 0 where
    is_own : own r x ds ≡ true
    is_clash : clashes same ds this ≡ true

  or_right : (a b : Bool) → b ≡ true → (a || b) ≡ true
  or_right true b e = refl
  or_right false b e = e

  -- behind the other part each declaration of the name is of the role itself
  behind_other : (q : Role) (c : Option (ℤ × ℤ)) → are_parts r q ≡ true → (ds : List Declaration)
      → clashes same ds (record { name = x; role = q; bounds = c }) ≡ false → is_declared ds x ≡ true → SomeOwn ds
  behind_other q c parts [] free e = absurd (cc)
  behind_other q c parts (d ∷ ds) free e = go (behind_other q c parts ds) (is_of x d) refl (are_parts q d.role) refl (same c d.bounds) free e
    where
      here : is_of x d ≡ true → are_parts q d.role ≡ true → SomeOwn (d ∷ ds)
      here is with_q =
          let no = triangle r q d.role parts with_q in record {
            is_own = ap (λ z. (z && not (are_parts r d.role)) || own r x ds) is ∙ ap (λ z. not z || own r x ds) no;
            is_clash = ap (λ z. (z && not (go_together same this d)) || clashes same ds this) is ∙ ap (λ z. not (z && same b d.bounds) || clashes same ds this) no;
          }

      go : (clashes same ds (record { name = x; role = q; bounds = c }) ≡ false → is_declared ds x ≡ true → SomeOwn ds)
          → (t : Bool) → is_of x d ≡ t → (p : Bool) → are_parts q d.role ≡ p → (s : Bool) → ((t && not (p && s)) || clashes same ds (record { name = x; role = q; bounds = c })) ≡ false
          → (t || is_declared ds x) ≡ true → SomeOwn (d ∷ ds)
      go later true is true with_q s f h = here is with_q
      go later true is false with_q s f h = absurd (cc)
      go later false is p with_q s f h =
          let rest = later f h in record {
            is_own = or_right (is_of x d && not (are_parts r d.role)) (own r x ds) rest.is_own;
            is_clash = or_right (is_of x d && not (go_together same this d)) (clashes same ds this) rest.is_clash;
          }

  both_true : (a c : Bool) → (a && c) ≡ true → (a ≡ true) × (c ≡ true)
  both_true true c e = (refl, e)
  both_true false c e = absurd (cc)

  is_not : (a : Bool) → not a ≡ true → a ≡ false
  is_not true e = absurd (cc)
  is_not false e = refl

  abbrev told : Bool → Bool → Judgement
  told c m = if c then Clash else (if m then Second else First)

  record Told (ds : List Declaration) (o p f c m : Bool) : Type 0 where
    owns : own r x ds ≡ o
    pairs : pair r x ds ≡ p
    first : same_as_first same ds x b ≡ f
    clash : clashes same ds this ≡ c
    declared : is_declared ds x ≡ m
    agree : of_part o p f ≡ told c m

  conclude : (ds : List Declaration) (o p f c m : Bool) → Told ds o p f c m → of_part (own r x ds) (pair r x ds) (same_as_first same ds x b) ≡ judged same ds this
  conclude ds o p f c m t =
      ap (λ z. of_part z (pair r x ds) (same_as_first same ds x b)) t.owns ∙ ap (λ z. of_part o z (same_as_first same ds x b)) t.pairs ∙ ap (λ z. of_part o p z) t.first
      ∙ t.agree ∙ sym (ap (λ z. told z (is_declared ds x)) t.clash ∙ ap (λ z. told c z) t.declared)

  clash_agrees : (p f m : Bool) → of_part true p f ≡ told true m
  clash_agrees p f m = refl

  -- the newest declaration is of the name, and none before it is
  alone : (d : Declaration) (ds : List Declaration) → is_of x d ≡ true → are_parts r d.role ≡ true → is_declared ds x ≡ false → (s : Bool) → same b d.bounds ≡ s
      → of_part (own r x (d ∷ ds)) (pair r x (d ∷ ds)) (same_as_first same (d ∷ ds) x b) ≡ judged same (d ∷ ds) this
  alone d ds is parts none s by = go s by
    where
      rest : NoneOf ds
      rest = none_of ds none

      owns : own r x (d ∷ ds) ≡ false
      owns = ap (λ z. (z && not (are_parts r d.role)) || own r x ds) is ∙ ap (λ z. not z || own r x ds) parts ∙ rest.no_own

      pairs : pair r x (d ∷ ds) ≡ true
      pairs = ap (λ z. (z && are_parts r d.role) || pair r x ds) is ∙ ap (λ z. z || pair r x ds) parts

      first : same_as_first same (d ∷ ds) x b ≡ same b d.bounds
      first = ap (λ z. if z && not (is_declared ds x) then same b d.bounds else same_as_first same ds x b) is
          ∙ ap (λ z. if not z then same b d.bounds else same_as_first same ds x b) none

      clash : clashes same (d ∷ ds) this ≡ not (same b d.bounds)
      clash = ap (λ z. (z && not (go_together same this d)) || clashes same ds this) is ∙ ap (λ z. not (z && same b d.bounds) || clashes same ds this) parts
          ∙ ap (λ z. not (same b d.bounds) || z) rest.no_clash ∙ or_false (not (same b d.bounds))

      declared : is_declared (d ∷ ds) x ≡ true
      declared = ap (λ z. z || is_declared ds x) is

      go : (s : Bool) → same b d.bounds ≡ s → of_part (own r x (d ∷ ds)) (pair r x (d ∷ ds)) (same_as_first same (d ∷ ds) x b) ≡ judged same (d ∷ ds) this
      go true by = conclude (d ∷ ds) false true true false true (record { owns = owns; pairs = pairs; first = first ∙ by; clash = clash ∙ ap not by; declared = declared; agree = refl })
      go false by = conclude (d ∷ ds) false true false true true (record { owns = owns; pairs = pairs; first = first ∙ by; clash = clash ∙ ap not by; declared = declared; agree = refl })

  law : (ds : List Declaration) → accepted same ds ≡ true → of_part (own r x ds) (pair r x ds) (same_as_first same ds x b) ≡ judged same ds this
  law [] e = refl
  law (d ∷ ds) e = go (law ds) (is_of x d) refl (are_parts r d.role) refl (is_declared ds x) refl
    where
      both : (not (clashes same ds d) ≡ true) × (accepted same ds ≡ true)
      both = both_true (not (clashes same ds d)) (accepted same ds) e

      wanted : Type 0
      wanted = of_part (own r x (d ∷ ds)) (pair r x (d ∷ ds)) (same_as_first same (d ∷ ds) x b) ≡ judged same (d ∷ ds) this

      go : (accepted same ds ≡ true → of_part (own r x ds) (pair r x ds) (same_as_first same ds x b) ≡ judged same ds this)
          → (t : Bool) → is_of x d ≡ t → (p : Bool) → are_parts r d.role ≡ p → (m : Bool) → is_declared ds x ≡ m → wanted
      go later false is p parts m some =
          conclude (d ∷ ds) (own r x ds) (pair r x ds) (same_as_first same ds x b) (clashes same ds this) (is_declared ds x) (record {
            owns = ap (λ z. (z && not (are_parts r d.role)) || own r x ds) is;
            pairs = ap (λ z. (z && are_parts r d.role) || pair r x ds) is;
            first = ap (λ z. if z && not (is_declared ds x) then same b d.bounds else same_as_first same ds x b) is;
            clash = ap (λ z. (z && not (go_together same this d)) || clashes same ds this) is;
            declared = ap (λ z. z || is_declared ds x) is;
            agree = later both.1;
          })
      go later true is false parts m some =
          conclude (d ∷ ds) true (pair r x (d ∷ ds)) (same_as_first same (d ∷ ds) x b) true true (record {
            owns = ap (λ z. (z && not (are_parts r d.role)) || own r x ds) is ∙ ap (λ z. not z || own r x ds) parts;
            pairs = refl;
            first = refl;
            clash = ap (λ z. (z && not (go_together same this d)) || clashes same ds this) is ∙ ap (λ z. not (z && same b d.bounds) || clashes same ds this) parts;
            declared = ap (λ z. z || is_declared ds x) is;
            agree = refl;
          })
      go later true is true parts false some = alone d ds is parts some (same b d.bounds) refl
      go later true is true parts true some =
          let name : x ≡ d.name = (bytes_eq-Decides x d.name).0 is in
          let free : clashes same ds (record { name = x; role = d.role; bounds = d.bounds }) ≡ false =
          subst (λ (z : List ℕ). clashes same ds (record { name = z; role = d.role; bounds = d.bounds }) ≡ false) (sym name) (is_not (clashes same ds d) both.0) in
          let more = behind_other d.role d.bounds parts ds free some in
          conclude (d ∷ ds) true (pair r x (d ∷ ds)) (same_as_first same (d ∷ ds) x b) true true (record {
            owns = or_right (is_of x d && not (are_parts r d.role)) (own r x ds) more.is_own;
            pairs = refl;
            first = refl;
            clash = or_right (is_of x d && not (go_together same this d)) (clashes same ds this) more.is_clash;
            declared = ap (λ z. z || is_declared ds x) is;
            agree = refl;
          })

pub kept_names_tell : KeptNamesTell
kept_names_tell same ds d e =
    let s = same_as_first same ds d.name d.bounds in
    judge_is d.role d.name (kept_of ds) s ∙ ap (λ z. of_part z (others d.role d.name (kept_of ds)) s) (kept_own d.role d.name ds)
    ∙ ap (λ z. of_part (own d.role d.name ds) z s) (kept_pair d.role d.name ds) ∙ law same d.role d.name d.bounds ds e

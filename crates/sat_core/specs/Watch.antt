-- Clauses watched at two literals.
use Rattle.std.specs.Prelude.{◌≡◌, ℕ, ◌+◌, ◌-◌, ◌*◌, ◌<◌, ◌≤◌, true, cond, List, [], ◌∷◌, ◌++◌, Some, None, slice_get, slice_index_or, slice_set, take, reverse, length, All, ◌⊎◌, zero, suc}
use Rattle.cnf_core.specs.declared.lit.Lit.{Lit}
use Rattle.cnf_core.specs.Lit.{variable_of, is_positive, opposite}
use Rattle.cnf_core.specs.Learned.{Among}
use Rattle.cnf_core.specs.Values.{Values, is_false, is_true}
use Rattle.sat_core.specs.declared.trail.Mark.{Mark}
use Rattle.sat_core.specs.declared.trail.Trail.{Trail}
use Rattle.sat_core.specs.declared.watching.Pair.{Pair}
use Rattle.sat_core.specs.declared.watching.Watches.{Watches}
use Rattle.sat_core.specs.Trail.{assigned}
use Rattle.sat_core.specs.Sync.{reads, open_count, Fits, IsSynced}

-- P of the values before each decision of the trail
abbrev pub CutAt : (Values → Type 0) → ℕ → Values → Type 0 → Type 0
CutAt P zero a R = P a × R
CutAt P (suc r) a R = R

abbrev pub AtCuts : (Values → Type 0) → List Mark → Type 0
AtCuts P [] = Unit {0}
AtCuts P (m ∷ ms) = CutAt P m.reason (assigned ms) (AtCuts P ms)

-- a false literal of the pair has the other one true, where b are the values of the literals propagated and a are all values
pub record IsWatched (b a : Values) (c : List Lit) (p : Pair) : Type 0 where
  pub first_there : Among p.first c
  pub second_there : Among p.second c
  pub two : (p.first ≡ p.second → ⊥) ⊎ (is_true a p.first ≡ true)
  pub first : is_false b p.first ≡ true → is_true a p.second ≡ true
  pub second : is_false b p.second ≡ true → is_true a p.first ≡ true

abbrev pub AreWatched : Values → Values → List (List Lit) → List Pair → Type 0
AreWatched b a cs ps = (k : ℕ) (c : List Lit) (p : Pair) → slice_get cs k ≡ Some c → slice_get ps k ≡ Some p → IsWatched b a c p

-- the place of a literal's list
abbrev pub code_of : Lit → ℕ
code_of l = cond (is_positive l) (2 * variable_of l + 1) (2 * variable_of l)

abbrev pub list_at : List (List ℕ) → ℕ → List ℕ
list_at lists i = slice_index_or lists i []

-- without what stands at a place, where the last one comes
abbrev pub taken_out : List ℕ → ℕ → List ℕ
taken_out ks at = take (length ks - 1) (slice_set ks at (slice_index_or ks (length ks - 1) 0))

abbrev pub listed_more : List (List ℕ) → ℕ → ℕ → List (List ℕ)
listed_more lists i k = slice_set lists i (list_at lists i ++ k ∷ [])

abbrev pub listed_less : List (List ℕ) → ℕ → ℕ → List (List ℕ)
listed_less lists i at = slice_set lists i (taken_out (list_at lists i) at)

-- the number stands in the list, at that place or later
pub record IsFrom (ks : List ℕ) (at k : ℕ) : Type 0 where
  pub place : ℕ
  pub later : at ≤ place
  pub there : slice_get ks place ≡ Some k

abbrev pub IsOn : List (List ℕ) → Lit → ℕ → Type 0
IsOn lists l k = IsFrom (list_at lists (code_of l)) 0 k

-- a clause is on the lists of its two literals
abbrev pub AreListed : List (List ℕ) → List Pair → Type 0
AreListed lists ps = (k : ℕ) (p : Pair) → slice_get ps k ≡ Some p → IsOn lists p.first k × IsOn lists p.second k

-- the values of the first n marks
abbrev pub first_values : ℕ → List Mark → Values
first_values n marks = assigned (reverse (take n marks))

-- the solver's state outside a visit: `size` variables with 0, the first `count` clauses watched
pub record IsHeld (cs : List (List Lit)) (leaves size count : ℕ) (t : Trail) (w : Watches) : Type 0 where
  pub synced : IsSynced cs leaves t.marks t.values.items
  pub fit : All (Fits size) cs
  pub size_is : length t.values.items ≡ size
  pub marks_open : length t.marks + open_count t.values.items ≡ size
  pub done : t.done ≤ length t.marks
  pub count_is : length w.pairs.items ≡ count
  pub few : count ≤ length cs
  pub room : length w.lists.items ≡ 2 * size
  pub listed : AreListed w.lists.items w.pairs.items
  pub watched : AreWatched (first_values t.done t.marks) (reads t.values.items) cs w.pairs.items
  pub cuts : AtCuts (λ v. AreWatched v v cs w.pairs.items) (reverse t.marks)
  pub from : 1 ≤ t.next
  pub upto : t.next ≤ leaves + 1
  pub given : (y : ℕ) → 1 ≤ y → y < t.next → reads t.values.items y ≡ None → ⊥

-- the literal f is false by the mark that is propagated, and the clauses on its list from a place on may not be as they should
pub record IsVisiting (cs : List (List Lit)) (leaves size count : ℕ) (t : Trail) (w : Watches) (f : Lit) (at : ℕ) : Type 0 where
  pub held : IsHeld cs leaves size count t w
  pub mark : Mark
  pub there : slice_get t.marks t.done ≡ Some mark
  pub denied : f ≡ opposite mark.lit
  pub waits : (k : ℕ) (c : List Lit) (p : Pair) → slice_get cs k ≡ Some c → slice_get w.pairs.items k ≡ Some p
      → IsWatched (first_values (t.done + 1) t.marks) (reads t.values.items) c p ⊎ IsFrom (list_at w.lists.items (code_of f)) at k

-- the trail grew, and what is propagated of it is the same
pub record Went (old new : Trail) : Type 0 where
  pub done : new.done ≡ old.done
  pub fewer : open_count new.values.items ≤ open_count old.values.items

-- Undoing a part of the trail.
use Rattle.std.proofs.Common.{◌≡◌, ℕ, ◌+◌, ◌<◌, Bool, cond, List, [], ◌∷◌, ◌++◌, refl, sym, ap, subst, ◌∙◌, Option, Some, None, inl, inr, get_or, set, length, reverse, arith, get_or-set_other}
use Rattle.std.specs.Option.{is_none}
use Rattle.std.proofs.Math.Path.{fun_ext}
use Rattle.std.proofs.lemmas.List.Sums.{sum_by-set}
use Rattle.std.proofs.lemmas.Bool.{cases_eq}
use Rattle.std.proofs.lemmas.Grind.{get_or-set_at}
use Rattle.cnf_core.specs.declared.lit.Lit.{Lit}
use Rattle.cnf_core.specs.Lit.{variable_of, is_positive}
use Rattle.cnf_core.specs.Values.{Values, make_true}
use Rattle.sat_core.specs.declared.trail.Mark.{Mark}
use Rattle.sat_core.specs.Trail.{assigned, AreFresh, IsTrail}
use Rattle.sat_core.specs.Sync.{reads, open_count}
use Rattle.sat_core.proofs.StandingLaws.{give_same, give_other}
use Rattle.sat_core.proofs.HeldLaws.{newest}

pub fresh_of : (cs : List (List Lit)) (leaves : ℕ) (tr : List Mark) → IsTrail cs leaves tr → AreFresh tr
fresh_of cs leaves [] ok = tt
fresh_of cs leaves (m ∷ ms) ok = (ok.0, fresh_of cs leaves ms ok.2)

pub undone_values : (vs : List (Option Bool)) (ms : List Mark) (l : Lit) → variable_of l < length vs → assigned ms (variable_of l) ≡ None → reads vs ≡ make_true (assigned ms) l → reads (set vs (variable_of l) None) ≡ assigned ms
undone_values vs ms l lt fresh e =
    fun_ext (λ y. elim (cases_eq y (variable_of l)) [
      | inl s ↦ get_or-set_at vs (variable_of l) y None None s lt ∙ sym (ap (assigned ms) s ∙ fresh)
      | inr ne ↦ get_or-set_other vs (variable_of l) y None None ne ∙ ap (λ (a : Values). a y) e ∙ give_other (assigned ms) y (variable_of l) (is_positive l) ne
    ])

pub open_more : (vs : List (Option Bool)) (x : ℕ) (b : Bool) → x < length vs → reads vs x ≡ Some b → open_count (set vs x None) ≡ open_count vs + 1
open_more vs x b lt e =
    let f : Option Bool → ℕ = λ o. cond (is_none o) 1 0 in
    let was : f (get_or vs x None) ≡ 0 = ap f e in
    let now : open_count (set vs x None) + f (get_or vs x None) ≡ open_count vs + 1 = sum_by-set f vs x None None lt in
    omega (arith, was, now)

-- the newest mark is undone
module _ (marks marks' : List Mark) (m : Mark) (vs vs' : List (Option Bool)) (me : marks ≡ marks' ++ m ∷ []) (ve : vs' ≡ set vs (variable_of m.lit) None) (lt : variable_of m.lit < length vs) (are : reads vs ≡ assigned (reverse marks)) (fresh : AreFresh (reverse marks)) where
  undone_is : reverse marks ≡ m ∷ reverse marks'
  undone_is = ap reverse me ∙ newest marks' m

  undone_fresh_both : AreFresh (m ∷ reverse marks')
  undone_fresh_both = subst AreFresh undone_is fresh

  pub undone_fresh : AreFresh (reverse marks')
  undone_fresh = undone_fresh_both.1

  undone_were : reads vs ≡ make_true (assigned (reverse marks')) m.lit
  undone_were = are ∙ ap assigned undone_is

  pub undone_are : reads vs' ≡ assigned (reverse marks')
  undone_are = ap reads ve ∙ undone_values vs (reverse marks') m.lit lt undone_fresh_both.0 undone_were

  pub undone_open : open_count vs' ≡ open_count vs + 1
  undone_open =
      ap open_count ve
      ∙ open_more vs (variable_of m.lit) (is_positive m.lit) lt
      (ap (λ (a : Values). a (variable_of m.lit)) undone_were ∙ give_same (assigned (reverse marks')) (variable_of m.lit) (variable_of m.lit) (is_positive m.lit) refl)

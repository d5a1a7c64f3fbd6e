use Rattle.std.proofs.Common.{◌≡◌, Bool, true, false, List, [], ◌∷◌, refl, sym, ◌∙◌, ap, if◌then◌else◌, ◌||◌}
use Rattle.bits_core.specs.Places.{is_set}
use Rattle.design_core.specs.Core.{value, Stmt, St, exec}
use Rattle.design_core.specs.Covers.{Arm, first_arm, last_untested, some_holds, Completes, as_is, in_seq, in_choose, covering}

same_rest : (k : Bool) (x y z : St) → (k ≡ false → y ≡ z) → (if k then x else y) ≡ (if k then x else z)
same_rest true x y z h = refl
same_rest false x y z h = h refl

taken_last : (k : Bool) (x y : St) → (k || false) ≡ true → (if k then x else y) ≡ x
taken_last true x y h = refl
taken_last false x y h = cc

rest_holds : (k r : Bool) → (k || r) ≡ true → k ≡ false → r ≡ true
rest_holds true r h e = cc
rest_holds false r h e = h

-- where some test holds, the last arm may go untested
pub covered : (a : Arm) (as' : List Arm) (t : St) → some_holds (a ∷ as') t.now t.locals ≡ true → exec (first_arm (a ∷ as')) t ≡ exec (last_untested a as') t
covered a [] t h = taken_last (is_set (value a.test t.now t.locals)) (exec a.body t) t h
covered a (x ∷ xs) t h = same_rest (is_set (value a.test t.now t.locals)) (exec a.body t) (exec (first_arm (x ∷ xs)) t) (exec (last_untested x xs) t)
    (λ e. covered x xs t (rest_holds (is_set (value a.test t.now t.locals)) (some_holds (x ∷ xs) t.now t.locals) h e))

same_choice : (k : Bool) (x y z w : St) → x ≡ z → y ≡ w → (if k then x else y) ≡ (if k then z else w)
same_choice true x y z w e f = e
same_choice false x y z w e f = f

-- a completed statement does the same
pub completed : {s f : Stmt} → Completes s f → (t : St) → exec f t ≡ exec s t
completed (as_is {s}) t = refl
completed (in_seq {a} {b} {x} {y} h k) t = completed k (exec x t) ∙ ap (exec b) (completed h t)
completed (in_choose {c} {a} {b} {x} {y} h k) t =
    same_choice (is_set (value c t.now t.locals)) (exec x t) (exec y t) (exec a t) (exec b t) (completed h t) (completed k t)
completed (covering {x} a as' always h) t = completed h t ∙ sym (covered a as' t (always t.now t.locals))

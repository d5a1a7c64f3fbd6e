-- A completed statement writes the same bits.
use Rattle.std.proofs.Common.{◌≡◌, Bool, true, false, List, [], ◌∷◌, refl, ◌∙◌, ap, ap₂, ◌||◌}
use Rattle.design_core.specs.declared.place.BitRef.{BitRef}
use Rattle.design_core.specs.Core.{Stmt, drives}
use Rattle.design_core.specs.Covers.{Arm, first_arm, last_untested, Completes, as_is, in_seq, in_choose, covering}
use Rattle.design_core.specs.Needs.{writes_local, targets}

or_nothing_left : (a : Bool) → a ≡ (a || false)
or_nothing_left true = refl
or_nothing_left false = refl

untested_targets : (k : Bool) (b : BitRef) (a : Arm) (as' : List Arm) → targets k (last_untested a as') b ≡ targets k (first_arm (a ∷ as')) b
untested_targets true b a [] = or_nothing_left (targets true a.body b)
untested_targets false b a [] = or_nothing_left (targets false a.body b)
untested_targets true b a (x ∷ xs) = ap (λ v. targets true a.body b || v) (untested_targets true b x xs)
untested_targets false b a (x ∷ xs) = ap (λ v. targets false a.body b || v) (untested_targets false b x xs)

untested_local : (a : Arm) (as' : List Arm) → writes_local (last_untested a as') ≡ writes_local (first_arm (a ∷ as'))
untested_local a [] = or_nothing_left (writes_local a.body)
untested_local a (x ∷ xs) = ap (λ v. writes_local a.body || v) (untested_local x xs)

pub untested_drives : (b : BitRef) (a : Arm) (as' : List Arm) → drives (last_untested a as') b ≡ drives (first_arm (a ∷ as')) b
untested_drives b a [] = or_nothing_left (drives a.body b)
untested_drives b a (x ∷ xs) = ap (λ v. drives a.body b || v) (untested_drives b x xs)

pub completed_targets : {s f : Stmt} → Completes s f → (k : Bool) (b : BitRef) → targets k f b ≡ targets k s b
completed_targets as_is k b = refl
completed_targets (in_seq h g) true b = ap₂ (λ x y. x || y) (completed_targets h true b) (completed_targets g true b)
completed_targets (in_seq h g) false b = ap₂ (λ x y. x || y) (completed_targets h false b) (completed_targets g false b)
completed_targets (in_choose h g) true b = ap₂ (λ x y. x || y) (completed_targets h true b) (completed_targets g true b)
completed_targets (in_choose h g) false b = ap₂ (λ x y. x || y) (completed_targets h false b) (completed_targets g false b)
completed_targets (covering a as' always h) k b = completed_targets h k b ∙ untested_targets k b a as'

pub completed_local : {s f : Stmt} → Completes s f → writes_local f ≡ writes_local s
completed_local as_is = refl
completed_local (in_seq h g) = ap₂ (λ x y. x || y) (completed_local h) (completed_local g)
completed_local (in_choose h g) = ap₂ (λ x y. x || y) (completed_local h) (completed_local g)
completed_local (covering a as' always h) = completed_local h ∙ untested_local a as'

pub completed_drives : {s f : Stmt} → Completes s f → (b : BitRef) → drives f b ≡ drives s b
completed_drives as_is b = refl
completed_drives (in_seq h g) b = ap₂ (λ x y. x || y) (completed_drives h b) (completed_drives g b)
completed_drives (in_choose h g) b = ap₂ (λ x y. x || y) (completed_drives h b) (completed_drives g b)
completed_drives (covering a as' always h) b = completed_drives h b ∙ untested_drives b a as'

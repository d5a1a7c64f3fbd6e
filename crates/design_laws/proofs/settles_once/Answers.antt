use Rattle.std.proofs.Common.{List, [], ◌∷◌, map, inl, inr, refl, sym, subst}
use Rattle.design_core.specs.Cells.{Cell, In, IsLawful, settle}
use Rattle.design_core.specs.Items.{CoreItem, cell_of, IsGood}
use Rattle.design_core.specs.declared.place.BitRef.{BitRef}
use Rattle.design_laws.proofs.OrderLaws.{settle_settled, settled_once}
use Rattle.design_laws.proofs.ItemLaws.{lawful}
use Rattle.design_laws.proofs.settles_once.Goals as goal

all_lawful : (items : List CoreItem) → ((x : CoreItem) → In x items → IsGood x) → (c : Cell BitRef) → In c (map cell_of items) → IsLawful c
all_lawful [] good c m = elim m [ ]
all_lawful (x ∷ xs) good c (inl e) = subst IsLawful (sym e) (lawful x (good x (inl refl)))
all_lawful (x ∷ xs) good c (inr m) = all_lawful xs (λ y n. good y (inr n)) c m

pub returns : goal.returns
returns c = λ items s i o good. let laws = all_lawful items good in (
  settle (map cell_of items) s i,
  (
    settle_settled (map cell_of items) s i o laws,
    λ τ h. settled_once (map cell_of items) s i τ (settle (map cell_of items) s i) o laws h (settle_settled (map cell_of items) s i o laws),
  ),
)

use Rattle.std.proofs.Common.{◌≡◌, ◌∙◌, ap₂, IfOk, Ok, Err, Result}
use Rattle.bit_assigns.specs.Pieces.{bit_assigns, pieces}
use Rattle.bit_assigns.proofs.pieces.bit_assigns.Goals as goal

-- what is made is the same
made_as : {A E : Type 0} (x y : A) (r : Result A E) → x ≡ y → IfOk r (λ made. made ≡ x) → IfOk r (λ made. made ≡ y)
made_as x y (Ok made) is h = h ∙ is
made_as x y (Err e) is h = h

pub returns : goal.returns
unfolding bit_assigns
returns c = made_as _ _ c.pieces.result (ap₂ (pieces c.args.scope) (c.as_slice.ensures ∙ c.in_ok-targets.ensures) (c.as_slice-2.ensures ∙ c.in_ok-sources.ensures)) c.pieces.ensures

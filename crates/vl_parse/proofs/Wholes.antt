-- The module that spells all of some tokens, by the reader of the grammar.
use Rattle.std.proofs.Common.{◌≡◌, ◌<◌, [], ◌∷◌, length, Some, Result, Err, refl, subst, arith}
use Rattle.vl_tree.specs.declared.modules.Module.{Module}
use Rattle.vl_grammar.specs.Read.{Tokens}
use Rattle.vl_expr.specs.declared.errors.ReadError.{ReadError}
use Rattle.vl_expr.specs.declared.errors.ReadError.TheVariants.{NoMemory, Refused}
use Rattle.vl_expr.specs.Gives.{Gives}
use Rattle.vl_rules.specs.Form.{reads}
use Rattle.vl_rules.specs.Modules.{module_form, read_to, Stands}
use Rattle.vl_rules.proofs.Modules.{module_spelled, none_refused, none_left}

empty : (ts : Tokens) → length ts ≡ 0 → ts ≡ []
empty [] h = refl
empty (t ∷ ts) h = absurd (omega (arith, h))

pub found_whole : (m : Module) (ts rest : Tokens) → length rest ≡ 0 → reads (read_to (length ts)) module_form ts ≡ Some (m, rest) → Stands module_form m ts []
found_whole m ts rest none h = subst (λ z. Stands module_form m ts z) (empty rest none) (module_spelled (length ts) m ts rest h)

pub left_over : (n : Module) (ts rest : Tokens) → 0 < length rest → reads (read_to (length ts)) module_form ts ≡ Some (n, rest) → (m : Module) → Stands module_form m ts [] → ⊥
left_over n ts rest some h m d = none_left ts n rest h some m d

pub error_none : {X : Type 0} (view : X → Module × Tokens) (ts : Tokens) (error : ReadError) → Gives view (Err error) (reads (read_to (length ts)) module_form ts)
    → ◌≡◌ {A = Result Module ReadError} (Err error) (Err Refused) → (m : Module) → Stands module_form m ts [] → ⊥
error_none view ts NoMemory g e m d = cc
error_none view ts Refused g e m d = none_refused ts g m d

-- Where no two modules have one name, each name stands at the place of its module.
use Rattle.std.proofs.Common.{◌≡◌, ℕ, Bool, true, false, not, List, [], ◌∷◌, ◌++◌, map, refl, ap, ◌∙◌, sym, Option, Some, None, append_assoc, append-nil, if◌then◌else◌}
use Rattle.std.proofs.lemmas.Bool.{not-true}
use Rattle.vl_tree.specs.declared.modules.Module.{Module}
use Rattle.vl_size.specs.Terms.{name_at}
use Rattle.vl_items.specs.Declarations.{is_among, added}
use Rattle.vl_modules.specs.Modules.{parameters_of}
use Rattle.vl_sources.specs.Sources.{Known, with_module, modules_from, no_modules, first_of, ModulesStandInPlace}

-- no name was there before, and this one is new
none_before : (is_new : Bool) (before : Option (List ℕ)) (name : List ℕ) → first_of is_new before name ≡ None → (before ≡ None) × (is_new ≡ true)
none_before true before name e = (e, refl)
none_before false (Some first) name e = cc
none_before false None name e = cc

added_new : (names : List (List ℕ)) (name : List ℕ) → is_among name names ≡ false → added names name ≡ names ++ name ∷ []
added_new names name e = ap (λ b. if b then names else (names ++ name ∷ [])) e

kept : (k : Known) (ms : List Module) → (modules_from k ms).duplicate ≡ None → k.duplicate ≡ None
kept k [] e = e
kept k (m ∷ ms) e = (none_before (not (is_among (name_at m.name) k.names)) k.duplicate (name_at m.name) (kept (with_module k m) ms e)).0

from : (k : Known) (ms : List Module) → (modules_from k ms).duplicate ≡ None
    → ((modules_from k ms).names ≡ k.names ++ map (λ m. name_at m.name) ms) × ((modules_from k ms).parameters ≡ k.parameters ++ map parameters_of ms)
from k [] e = (sym (append-nil k.names), sym (append-nil k.parameters))
from k (m ∷ ms) e =
    let both = from (with_module k m) ms e in
    let new = none_before (not (is_among (name_at m.name) k.names)) k.duplicate (name_at m.name) (kept (with_module k m) ms e) in
    let more = added_new k.names (name_at m.name) (not-true (is_among (name_at m.name) k.names) new.1) in (
      both.0 ∙ ap (λ names. names ++ map (λ m. name_at m.name) ms) more ∙ append_assoc k.names (name_at m.name ∷ []) (map (λ m. name_at m.name) ms),
      both.1 ∙ append_assoc k.parameters (parameters_of m ∷ []) (map parameters_of ms),
    )

pub in_place : ModulesStandInPlace
in_place ms e = from no_modules ms e

-- Names before those of a scope.
use Rattle.std.specs.Prelude.{ℕ, List, Option, Some, None, if◌then◌else◌, position}
use Rattle.std.specs.Str.{bytes_eq}
use Rattle.vl_size.specs.declared.constant.Const.{Const}
use Rattle.vl_size.specs.declared.table.SizeEntry.{SizeEntry}
use Rattle.vl_const.specs.Scopes.{Meaning}
use Rattle.vl_names.specs.Outward.{Scope, inward}
use Rattle.vl_names.specs.Tables.{Names, entry_of, value_of}

-- one constant before the names of a scope
abbrev pub bound : List ℕ → SizeEntry → Const → Meaning → Meaning
bound x e v m = record { look = λ name. if bytes_eq name x then Some e else m.look name; value = λ name. if bytes_eq name x then Some v else m.value name }

abbrev pub if_none : {A : Type 0} → Option ℕ → Option A → Option A → Option A
if_none None a b = a
if_none (Some at) a b = b

-- names before those of a scope, each of which stands for `e` and has no value
abbrev pub shaded : List (List ℕ) → SizeEntry → Meaning → Meaning
shaded xs e m = record {
  look = λ name. if_none (position (bytes_eq name) xs) (m.look name) (Some e);
  value = λ name. if_none (position (bytes_eq name) xs) (m.value name) None;
}

-- what the names mean that are declared in a scope and in reach of it
abbrev pub reach_meaning : Names → Names → List Scope → Option ℕ → Meaning
reach_meaning own variable scopes outer = record {
  look = λ name. entry_of (inward own variable scopes outer name);
  value = λ name. value_of (inward own variable scopes outer name);
}

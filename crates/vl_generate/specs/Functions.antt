-- The lengths of a function and of its inputs.
use Rattle.std.specs.Prelude.{ℕ, Bool, true, false, List, [], ◌∷◌, ◌++◌, length, replicate, Option, Some, None, Ok}
use Rattle.vl_tree.specs.declared.statements.Fdecl.{Fdecl}
use Rattle.vl_tree.specs.declared.statements.Fdecl.TheVariants as fdecl
use Rattle.vl_tree.specs.declared.statements.Function.{Function}
use Rattle.vl_tree.specs.declared.statements.FunctionInput.{FunctionInput}
use Rattle.vl_tree.specs.declared.statements.FunctionWord.TheVariants as word
use Rattle.vl_tree.specs.declared.statements.Ptype.{Ptype}
use Rattle.vl_tree.specs.declared.statements.Ptype.TheVariants as ptype
use Rattle.vl_tree.specs.declared.tokens.Token.{Token}
use Rattle.vl_tree.specs.Outcomes.{Outcome, and_then}
use Rattle.vl_size.specs.declared.table.NameKind.TheVariants as kind
use Rattle.vl_size.specs.declared.table.SizeEntry.{SizeEntry}
use Rattle.vl_size.specs.Terms.{name_at}
use Rattle.vl_const.specs.Scopes.{Meaning}
use Rattle.vl_generate.specs.Shades.{shaded}
use Rattle.vl_items.specs.Declarations.{plain_entry}
use Rattle.vl_acts.specs.Heads.{own_names}
use Rattle.vl_generate.specs.declared.vectors.Vector.{Vector}
use Rattle.vl_generate.specs.Vectors.{one_bit, integer_bits, vector, entry}

-- in a function these names are no constants
abbrev pub inside : Function → Meaning → Meaning
inside f m = shaded (own_names f) (plain_entry kind.Signal []) m

-- the bits and the sign of the result
abbrev pub result : Meaning → Option Ptype → Outcome (Vector × Bool)
result m None = Ok (one_bit, false)
result m (Some ptype.Integer) = Ok (integer_bits, true)
result m (Some (ptype.Vector signed r)) = and_then (vector m r) (λ v. Ok (v, signed))

abbrev pub head_inputs : Meaning → List ℕ → List FunctionInput → Outcome (List ℕ)
head_inputs m ns [] = Ok ns
head_inputs m ns (i ∷ rest) = and_then (vector m i.range) (λ v. head_inputs m (ns ++ v.length ∷ []) rest)

abbrev pub listed_inputs : Meaning → Option (List FunctionInput) → Outcome (List ℕ)
listed_inputs m None = Ok []
listed_inputs m (Some all) = head_inputs m [] all

abbrev pub each_of : ℕ → List ℕ → List Token → List ℕ
each_of n ns ts = ns ++ replicate (length ts) n

-- the inputs of a declaration; the ranges of locals wait
abbrev pub with_declaration : Meaning → List ℕ → Fdecl → Outcome (List ℕ)
with_declaration m ns (fdecl.Vector word.Input s r ts) = and_then (vector m r) (λ v. Ok (each_of v.length ns ts))
with_declaration m ns (fdecl.Vector word.Reg s r ts) = Ok ns
with_declaration m ns (fdecl.Integer ts) = Ok ns

abbrev pub declared_inputs : Meaning → List ℕ → List Fdecl → Outcome (List ℕ)
declared_inputs m ns [] = Ok ns
declared_inputs m ns (d ∷ ds) = and_then (with_declaration m ns d) (λ all. declared_inputs m all ds)

-- the result, then the inputs in order
abbrev pub entry_inside : Meaning → Function → Outcome SizeEntry
entry_inside m f =
    and_then (result m f.result_type) (λ r.
    and_then (listed_inputs m f.inputs) (λ ns.
    and_then (declared_inputs m ns f.declarations) (λ all.
    Ok (entry kind.Function (name_at f.name) r.0 r.1 all))))

abbrev pub function_entry : Meaning → Function → Outcome SizeEntry
function_entry m f = entry_inside (inside f m) f

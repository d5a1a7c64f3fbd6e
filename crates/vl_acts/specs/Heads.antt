-- The names of a function (IEEE 1364-2005, 10.4).
use Rattle.std.specs.Prelude.{ℕ, List, [], ◌∷◌, Option, Some, None}
use Rattle.vl_tree.specs.declared.statements.Fdecl.{Fdecl}
use Rattle.vl_tree.specs.declared.statements.Fdecl.TheVariants as fdecl
use Rattle.vl_tree.specs.declared.statements.Function.{Function}
use Rattle.vl_tree.specs.declared.statements.FunctionInput.{FunctionInput}
use Rattle.vl_tree.specs.declared.tokens.Token.{Token}
use Rattle.vl_size.specs.Terms.{name_at}
use Rattle.vl_items.specs.Declarations.{added}

abbrev pub token_names : List (List ℕ) → List Token → List (List ℕ)
token_names xs [] = xs
token_names xs (t ∷ ts) = token_names (added xs (name_at t)) ts

abbrev pub fdecl_names : List (List ℕ) → List Fdecl → List (List ℕ)
fdecl_names xs [] = xs
fdecl_names xs (fdecl.Vector w s r ts ∷ ds) = fdecl_names (token_names xs ts) ds
fdecl_names xs (fdecl.Integer ts ∷ ds) = fdecl_names (token_names xs ts) ds

abbrev pub input_names : List (List ℕ) → List FunctionInput → List (List ℕ)
input_names xs [] = xs
input_names xs (i ∷ rest) = input_names (added xs (name_at i.name)) rest

abbrev pub head_names : List (List ℕ) → Option (List FunctionInput) → List (List ℕ)
head_names xs None = xs
head_names xs (Some all) = input_names xs all

-- the inputs and the locals of a function
abbrev pub inner_names : Function → List (List ℕ)
inner_names f = fdecl_names (head_names [] f.inputs) f.declarations

-- the names of a function: its result, its inputs and its locals
abbrev pub own_names : Function → List (List ℕ)
own_names f = fdecl_names (head_names (added [] (name_at f.name)) f.inputs) f.declarations

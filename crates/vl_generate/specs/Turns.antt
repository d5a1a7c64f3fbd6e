-- The turns of a generate loop (IEEE 1364-2005, 12.4.1).
use Rattle.std.specs.Prelude.{ℕ, zero, suc, Bool, true, false, not, ◌&&◌, ◌||◌, List, [], ◌∷◌, ◌++◌, Option, Some, None, Ok, Err, if◌then◌else◌}
use Rattle.std.specs.Str.{bytes_eq}
use Rattle.vl_tree.specs.declared.faults.Code.TheVariants.{NotConstant, UnknownName, LoopTooLong}
use Rattle.vl_tree.specs.declared.modules.LoopHead.{LoopHead}
use Rattle.vl_tree.specs.Outcomes.{Outcome, and_then}
use Rattle.vl_size.specs.declared.constant.Const.{Const}
use Rattle.vl_size.specs.declared.table.NameKind.TheVariants as kind
use Rattle.vl_size.specs.declared.table.SizeEntry.{SizeEntry}
use Rattle.vl_size.specs.declared.tree.Size.{Size}
use Rattle.vl_size.specs.Terms.{Term, Terms, Pick, Picks, number, name, call, system, concat, repeat, group, unary, binary, choice, index, range, up, down, whole, pick, term, name_at}
use Rattle.vl_size.specs.Terms as term
use Rattle.vl_const.specs.Scopes.{Meaning}
use Rattle.vl_names.specs.declared.table.Slot.{Slot}
use Rattle.vl_names.specs.declared.table.Kind.{Kind}
use Rattle.vl_names.specs.declared.table.Kind.TheVariants as is
use Rattle.vl_items.specs.Parts.{Body}
use Rattle.vl_acts.specs.Writes.{body_writes}
use Rattle.vl_generate.specs.Shades.{bound}
use Rattle.vl_generate.specs.Values.{test, assigned}
use Rattle.vl_generate.specs.Vectors.{integer_bits, entry}

abbrev mutual
  -- whether an expression names x
  pub names_it : List ℕ → Term → Bool
  names_it x (number text) = false
  names_it x (name y ps) = bytes_eq y x || picks_name_it x ps
  names_it x (call y ts) = some_names_it x ts
  names_it x (system f a) = names_it x a
  names_it x (concat ts) = some_names_it x ts
  names_it x (repeat c ts) = names_it x c || some_names_it x ts
  names_it x (group a) = names_it x a
  names_it x (unary op a) = names_it x a
  names_it x (binary op a b) = names_it x a || names_it x b
  names_it x (choice c a b) = names_it x c || (names_it x a || names_it x b)

  pub some_names_it : List ℕ → Terms → Bool
  some_names_it x term.none = false
  some_names_it x (term.more a as') = names_it x a || some_names_it x as'

  pub pick_names_it : List ℕ → Pick → Bool
  pick_names_it x (index a) = names_it x a
  pick_names_it x (range a b) = names_it x a || names_it x b
  pick_names_it x (up a b) = names_it x a || names_it x b
  pick_names_it x (down a b) = names_it x a || names_it x b

  pub picks_name_it : List ℕ → Picks → Bool
  picks_name_it x whole = false
  picks_name_it x (pick p ps) = pick_names_it x p || picks_name_it x ps

-- a genvar counts like an `integer`; a signal and a constant have their declared length and sign
abbrev pub variable_entry : List ℕ → SizeEntry → SizeEntry
variable_entry x e = record { name = x; kind = kind.Constant; length = e.length; signed = e.signed; ranged = e.ranged; high = e.high; low = e.low; inputs = [] }

abbrev pub met_entry : List ℕ → Bool → Option SizeEntry → Option SizeEntry
met_entry x false e = None
met_entry x true None = None
met_entry x true (Some e) = Some (variable_entry x e)

abbrev pub genvar_entry : List ℕ → SizeEntry
genvar_entry x = entry kind.Constant x integer_bits true []

abbrev pub variable_by : List ℕ → Slot → Kind → Option SizeEntry
variable_by x s is.Constant = met_entry x s.met s.entry
variable_by x s is.Signal = met_entry x s.met s.entry
variable_by x s is.Function = None
variable_by x s is.GenVar = Some (genvar_entry x)

-- what the name of a loop's variable is declared as: a signal, a constant or a genvar, whose declaration was met
abbrev pub variable_of : List ℕ → Option Slot → Option SizeEntry
variable_of x None = None
variable_of x (Some s) = variable_by x s s.kind

-- a loop's header names one variable, which its test names and its body does not write
abbrev pub is_formed : LoopHead → Body → Bool
is_formed h b = (bytes_eq (name_at h.start_name) (name_at h.step_name) && names_it (name_at h.start_name) (term h.test)) && not (body_writes (name_at h.start_name) b)

abbrev pub or_unknown : Option SizeEntry → Outcome SizeEntry
or_unknown None = Err UnknownName
or_unknown (Some e) = Ok e

abbrev pub variable : LoopHead → Body → Option Slot → Outcome SizeEntry
variable h b s = if is_formed h b then or_unknown (variable_of (name_at h.start_name) s) else Err NotConstant

abbrev pub size_of : SizeEntry → Size
size_of e = record { length = e.length; signed = e.signed }

-- the names of the scope, with the variable at a value
abbrev pub at_value : Meaning → SizeEntry → Const → Meaning
at_value m e v = bound e.name e v m

-- The values of the variable, one for each turn. The number bounds the turns.
unfoldable pub values : ℕ → (Const → Outcome Bool) → (Const → Outcome Const) → Const → Outcome (List Const)
values zero go step v = and_then (go v) (λ on. if on then Err LoopTooLong else Ok [])
values (suc n) go step v = and_then (go v) (λ on. if on then and_then (step v) (λ w. and_then (values n go step w) (λ vs. Ok (v ∷ vs))) else Ok [])

-- what comes behind values that are known already
abbrev pub with_front : List Const → Outcome (List Const) → Outcome (List Const)
with_front front o = and_then o (λ vs. Ok (front ++ vs))

abbrev pub goes_on : Meaning → LoopHead → SizeEntry → Const → Outcome Bool
goes_on m h e v = test (at_value m e v) (term h.test)

abbrev pub stepped : Meaning → LoopHead → SizeEntry → Const → Outcome Const
stepped m h e v = assigned (at_value m e v) (size_of e) (term h.step)

-- The variable, and its value in each turn, where `found` is what its name is declared as. The names, the test and the body are one place, then each
-- expression as it is met.
abbrev pub turns : ℕ → Meaning → Option Slot → LoopHead → Body → Outcome (SizeEntry × List Const)
turns limit m found h b =
    and_then (variable h b found) (λ e.
    and_then (assigned m (size_of e) (term h.start)) (λ v.
    and_then (values limit (goes_on m h e) (stepped m h e) v) (λ vs. Ok (e, vs))))

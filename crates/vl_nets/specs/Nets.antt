-- Nets without a declaration: the names in port connections, in the terminals of gates and on the left of assigns (IEEE 1364-2005, 4.5).
use Rattle.std.specs.Prelude.{ℕ, Bool, true, List, [], ◌∷◌, map, Option, Some, None, if◌then◌else◌}
use Rattle.vl_size.specs.declared.table.NameKind.TheVariants as kind
use Rattle.vl_size.specs.Terms.{Term, Terms, Pick, Picks, number, name, call, system, concat, repeat, group, unary, binary, choice, index, range, up, down, whole, pick, term, terms, picks, pick_term, name_at}
use Rattle.vl_size.specs.Terms as term
use Rattle.vl_tree.specs.declared.expressions.Expr.{Expr}
use Rattle.vl_tree.specs.declared.modules.Assignment.{Assignment}
use Rattle.vl_tree.specs.declared.modules.Binds.{Binds}
use Rattle.vl_tree.specs.declared.modules.Binds.TheVariants as binds
use Rattle.vl_tree.specs.declared.modules.GateInstance.{GateInstance}
use Rattle.vl_tree.specs.declared.modules.Instance.{Instance}
use Rattle.vl_tree.specs.declared.modules.NamedBind.{NamedBind}
use Rattle.vl_tree.specs.declared.statements.Lval.{Lval, Lval-F, fold-Lval}
use Rattle.vl_names.specs.declared.table.Kind.TheVariants as is
use Rattle.vl_names.specs.declared.table.Slot.{Slot}
use Rattle.vl_names.specs.Tables.{Names}
use Rattle.vl_items.specs.Declarations.{plain_entry, put}
use Rattle.vl_items.specs.Parts as part
use Rattle.vl_items.specs.Parts.{Part, Parts, none, more}

-- what is written, as an expression
abbrev pub lval_layer : Lval-F Term → Term
lval_layer (Lval-F.Name t ps) = name (name_at t) (picks (map pick_term ps))
lval_layer (Lval-F.Concat ts) = concat (terms ts)

unfoldable pub lval_term : Lval → Term
lval_term = fold-Lval Term lval_layer

-- a net of one bit
abbrev pub net_slot : List ℕ → Slot
net_slot x = record { kind = is.Signal; entry = Some (plain_entry kind.Signal x); value = None; met = true }

-- a name that is declared nowhere in reach is a net of the scope
abbrev pub use_name : (List ℕ → Bool) → Names → List ℕ → Names
use_name known t x = if known x then t else put t x (net_slot x)

abbrev mutual
  -- the names of an expression from the left; a function that is called is none
  pub use_term : (List ℕ → Bool) → Names → Term → Names
  use_term known t (number text) = t
  use_term known t (name x ps) = use_picks known (use_name known t x) ps
  use_term known t (call x ts) = use_terms known t ts
  use_term known t (system f a) = use_term known t a
  use_term known t (concat ts) = use_terms known t ts
  use_term known t (repeat c ts) = use_terms known (use_term known t c) ts
  use_term known t (group a) = use_term known t a
  use_term known t (unary op a) = use_term known t a
  use_term known t (binary op a b) = use_term known (use_term known t a) b
  use_term known t (choice c a b) = use_term known (use_term known (use_term known t c) a) b

  pub use_terms : (List ℕ → Bool) → Names → Terms → Names
  use_terms known t term.none = t
  use_terms known t (term.more a as') = use_terms known (use_term known t a) as'

  pub use_pick : (List ℕ → Bool) → Names → Pick → Names
  use_pick known t (index a) = use_term known t a
  use_pick known t (range a b) = use_term known (use_term known t a) b
  use_pick known t (up a b) = use_term known (use_term known t a) b
  use_pick known t (down a b) = use_term known (use_term known t a) b

  pub use_picks : (List ℕ → Bool) → Names → Picks → Names
  use_picks known t whole = t
  use_picks known t (pick p ps) = use_picks known (use_pick known t p) ps

abbrev pub use_value : (List ℕ → Bool) → Names → Option Expr → Names
use_value known t None = t
use_value known t (Some e) = use_term known t (term e)

abbrev pub use_ordered : (List ℕ → Bool) → Names → List (Option Expr) → Names
use_ordered known t [] = t
use_ordered known t (e ∷ es) = use_ordered known (use_value known t e) es

abbrev pub use_named : (List ℕ → Bool) → Names → List NamedBind → Names
use_named known t [] = t
use_named known t (b ∷ bs) = use_named known (use_value known t b.value) bs

abbrev pub use_binds : (List ℕ → Bool) → Names → Option Binds → Names
use_binds known t None = t
use_binds known t (Some (binds.Ordered es)) = use_ordered known t es
use_binds known t (Some (binds.Named bs)) = use_named known t bs

abbrev pub use_instances : (List ℕ → Bool) → Names → List Instance → Names
use_instances known t [] = t
use_instances known t (i ∷ rest) = use_instances known (use_binds known t i.binds) rest

abbrev pub use_gates : (List ℕ → Bool) → Names → List GateInstance → Names
use_gates known t [] = t
use_gates known t (g ∷ gs) = use_gates known (use_terms known (use_term known t (lval_term g.output)) (terms (map term g.inputs))) gs

abbrev pub use_assigns : (List ℕ → Bool) → Names → List Assignment → Names
use_assigns known t [] = t
use_assigns known t (a ∷ as') = use_assigns known (use_term known t (lval_term a.left)) as'

abbrev mutual
  pub use_part : (List ℕ → Bool) → Names → Part → Names
  use_part known t (part.port p) = t
  use_part known t (part.net n) = t
  use_part known t (part.integer vs) = t
  use_part known t (part.genvar ts) = t
  use_part known t (part.parameter p) = t
  use_part known t (part.assign xs) = use_assigns known t xs
  use_part known t (part.always p) = t
  use_part known t (part.initial s) = t
  use_part known t (part.function f) = t
  use_part known t (part.instances i) = use_instances known t i.instances
  use_part known t (part.gates g) = use_gates known t g.gates
  use_part known t (part.region ps) = use_parts known t ps
  use_part known t (part.loop h b) = t
  use_part known t (part.choice c y n) = t
  use_part known t (part.cases s as') = t

  -- the nets without declaration of a scope's own items
  pub use_parts : (List ℕ → Bool) → Names → Parts → Names
  use_parts known t none = t
  use_parts known t (more p ps) = use_parts known (use_part known t p) ps

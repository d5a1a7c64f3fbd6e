-- Whether the text of a generate block writes a name of the scope round it. The header of a loop writes nothing, and where a block or a function
-- declares the name itself, another one is meant.
use Rattle.std.specs.Prelude.{ℕ, Bool, false, not, ◌&&◌, ◌||◌, List, [], ◌∷◌}
use Rattle.std.specs.Str.{bytes_eq}
use Rattle.vl_size.specs.Terms.{Term, Terms, number, name, call, system, concat, repeat, group, unary, binary, choice}
use Rattle.vl_size.specs.Terms as term
use Rattle.vl_tree.specs.declared.modules.Assignment.{Assignment}
use Rattle.vl_tree.specs.declared.modules.GateInstance.{GateInstance}
use Rattle.vl_tree.specs.declared.statements.Function.{Function}
use Rattle.vl_items.specs.Declarations.{no_names, is_among, declare_parts}
use Rattle.vl_nets.specs.Nets.{lval_term}
use Rattle.vl_items.specs.Parts as part
use Rattle.vl_items.specs.Parts.{Part, Parts, Body, Arm, Arms}
use Rattle.vl_acts.specs.Acts as act
use Rattle.vl_acts.specs.Acts.{Act, Acts, ActArm, ActArms, act}
use Rattle.vl_acts.specs.Heads.{own_names}

abbrev mutual
  -- a left side as an expression: a name, whatever is selected of it, or several left sides
  pub term_writes : List ℕ → Term → Bool
  term_writes x (number text) = false
  term_writes x (name y ps) = bytes_eq y x
  term_writes x (call y ts) = false
  term_writes x (system f a) = false
  term_writes x (concat ts) = some_term_writes x ts
  term_writes x (repeat c ts) = false
  term_writes x (group a) = false
  term_writes x (unary op a) = false
  term_writes x (binary op a b) = false
  term_writes x (choice c a b) = false

  pub some_term_writes : List ℕ → Terms → Bool
  some_term_writes x term.none = false
  some_term_writes x (term.more a as') = term_writes x a || some_term_writes x as'

abbrev mutual
  pub act_writes : List ℕ → Act → Bool
  act_writes x act.nothing = false
  act_writes x (act.block as') = some_act_writes x as'
  act_writes x (act.choice t y n) = act_writes x y || act_writes x n
  act_writes x (act.cases s as') = some_arm_writes x as'
  act_writes x (act.loop y s t z p a) = act_writes x a
  act_writes x (act.write l e) = term_writes x (lval_term l)

  pub some_act_writes : List ℕ → Acts → Bool
  some_act_writes x act.none = false
  some_act_writes x (act.more a as') = act_writes x a || some_act_writes x as'

  pub arm_writes : List ℕ → ActArm → Bool
  arm_writes x (act.matched vs a) = act_writes x a
  arm_writes x (act.otherwise a) = act_writes x a

  pub some_arm_writes : List ℕ → ActArms → Bool
  some_arm_writes x act.no_arm = false
  some_arm_writes x (act.arm a as') = arm_writes x a || some_arm_writes x as'

abbrev pub some_assign_writes : List ℕ → List Assignment → Bool
some_assign_writes x [] = false
some_assign_writes x (a ∷ as') = term_writes x (lval_term a.left) || some_assign_writes x as'

abbrev pub some_gate_writes : List ℕ → List GateInstance → Bool
some_gate_writes x [] = false
some_gate_writes x (g ∷ gs) = term_writes x (lval_term g.output) || some_gate_writes x gs

abbrev pub function_writes : List ℕ → Function → Bool
function_writes x f = not (is_among x (own_names f)) && act_writes x (act f.body)

-- whether items declare the name
abbrev pub declares : List ℕ → Parts → Bool
declares x ps = is_among x (declare_parts no_names ps).names

abbrev mutual
  pub part_writes : List ℕ → Part → Bool
  part_writes x (part.port p) = false
  part_writes x (part.net n) = false
  part_writes x (part.integer vs) = false
  part_writes x (part.genvar ts) = false
  part_writes x (part.parameter p) = false
  part_writes x (part.assign xs) = some_assign_writes x xs
  part_writes x (part.always p) = act_writes x (act p.body)
  part_writes x (part.initial s) = act_writes x (act s)
  part_writes x (part.function f) = function_writes x f
  part_writes x (part.instances i) = false
  part_writes x (part.gates g) = some_gate_writes x g.gates
  part_writes x (part.region ps) = some_part_writes x ps
  part_writes x (part.loop h b) = body_writes x b
  part_writes x (part.choice t y n) = body_writes x y || body_writes x n
  part_writes x (part.cases s as') = some_body_writes x as'

  pub some_part_writes : List ℕ → Parts → Bool
  some_part_writes x part.none = false
  some_part_writes x (part.more p ps) = part_writes x p || some_part_writes x ps

  -- a block
  pub body_writes : List ℕ → Body → Bool
  body_writes x (part.begun n ps) = not (declares x ps) && some_part_writes x ps
  body_writes x (part.single p) = not (declares x (part.more p part.none)) && part_writes x p
  body_writes x part.hollow = false
  body_writes x part.absent = false

  pub arm_body_writes : List ℕ → Arm → Bool
  arm_body_writes x (part.matched vs b) = body_writes x b
  arm_body_writes x (part.otherwise b) = body_writes x b

  pub some_body_writes : List ℕ → Arms → Bool
  some_body_writes x part.no_arm = false
  some_body_writes x (part.arm a as') = arm_body_writes x a || some_body_writes x as'

-- The values of an expression's counts, bounds and widths: each is the value of a constant expression, which may have such of its own.
use Rattle.std.specs.Prelude.{true, false, List, [], ◌∷◌, ◌++◌, Option, Some, None}
use Rattle.vl_tree.specs.declared.faults.Code.{Code}
use Rattle.vl_tree.specs.declared.faults.Code.TheVariants.{NotConstant, BadRange}
use Rattle.vl_size.specs.declared.constant.Const.{Const}
use Rattle.vl_size.specs.declared.tree.Sizing.{Sizing}
use Rattle.vl_size.specs.Owns.{own}
use Rattle.vl_size.specs.Placed.{is_bad_whole, widened}
use Rattle.vl_tree.specs.Order.{lower, where_true}
use Rattle.vl_size.specs.Sizings.{node_of, signed_of}
use Rattle.vl_size.specs.Terms.{Term, Terms, Pick, Picks, number, name, call, system, concat, repeat, group, unary, binary, choice, index, range, up, down, whole, pick}
use Rattle.vl_size.specs.Terms as term
use Rattle.vl_const.specs.declared.answers.Answer.{Answer}
use Rattle.vl_const.specs.declared.counting.Counted.{Counted}
use Rattle.vl_const.specs.declared.counting.Judged.{Judged}
use Rattle.vl_const.specs.Scopes.{Meaning}
use Rattle.vl_const.specs.Worths.{worth}

-- a value that no rule is against
abbrev pub harmless : Const
harmless = record { bits = true ∷ []; signed = false }

-- a value, or the harmless one where a fault hides it
abbrev pub shown : Option Code → Const → Const
shown None c = c
shown (Some f) c = harmless

abbrev pub counted : List Const → List (Option Code) → Counted
counted cs fs = record { values = cs; faults = fs }

abbrev pub none_counted : Counted
none_counted = counted [] []

-- one more value, which counts as it is where `hidden` has no fault
abbrev pub with_value : Option Code → Judged → Counted → Counted
with_value hidden j f = counted (f.values ++ shown hidden j.value ∷ []) (f.faults ++ j.fault ∷ [])

-- a count or a width
abbrev pub with_count : Judged → Counted → Counted
with_count j f = with_value j.fault j f

-- both bounds of a range: they are compared where neither has a fault
abbrev pub with_bounds : Judged → Judged → Counted → Counted
with_bounds h l f = with_value (lower h.fault l.fault) l (with_value (lower h.fault l.fault) h f)

-- the lowest code of a constant expression: of its sizes, of its operators, and where it is no constant
abbrev pub judged_fault : Sizing → Answer → Option Code
judged_fault s a = lower (lower (where_true a.reads NotConstant) a.fault) (lower (node_of s).fault (where_true (is_bad_whole 0 s) BadRange))

abbrev pub judged_by : Sizing → Answer → Judged
judged_by s a = record { value = record { bits = a.value; signed = signed_of s }; fault = judged_fault s a }

-- the value of a constant expression by itself, where the values of its counts, bounds and widths are known
abbrev pub judged : Meaning → Term → Counted → Judged
judged m t f = judged_by (own m.look t f.values).0 (worth m t ((own m.look t f.values).0 ∷ []) (widened 0 (own m.look t f.values).0) (f.values, f.faults)).0

abbrev mutual
  -- The values of an expression behind others. An expression inside a count, a bound or a width has a list of its own.
  pub counts : Meaning → Term → Counted → Counted
  counts m (number text) f = f
  counts m (name w ps) f = counts_picks m ps f
  counts m (call w ts) f = counts_each m ts f
  counts m (system g a) f = counts m a f
  counts m (concat ts) f = counts_each m ts f
  counts m (repeat c ts) f = counts_each m ts (with_count (judged m c (counts m c none_counted)) f)
  counts m (group a) f = counts m a f
  counts m (unary op a) f = counts m a f
  counts m (binary op a c) f = counts m c (counts m a f)
  counts m (choice t a c) f = counts m c (counts m a (counts m t f))

  pub counts_picks : Meaning → Picks → Counted → Counted
  counts_picks m whole f = f
  counts_picks m (pick p ps) f = counts_pick m p f

  pub counts_pick : Meaning → Pick → Counted → Counted
  counts_pick m (index a) f = counts m a f
  counts_pick m (range h l) f = with_bounds (judged m h (counts m h none_counted)) (judged m l (counts m l none_counted)) f
  counts_pick m (up a w) f = with_count (judged m w (counts m w none_counted)) (counts m a f)
  counts_pick m (down a w) f = with_count (judged m w (counts m w none_counted)) (counts m a f)

  pub counts_each : Meaning → Terms → Counted → Counted
  counts_each m term.none f = f
  counts_each m (term.more t ts) f = counts_each m ts (counts m t f)

-- the value of a constant expression, or the lowest code among its faults and those of its counts, bounds and widths
abbrev pub value : Meaning → Term → Judged
value m t = judged m t (counts m t none_counted)

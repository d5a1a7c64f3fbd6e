-- What the calls give: a value, or the lowest code among the faults.
use Rattle.std.specs.Prelude.{List}
use Rattle.vl_tree.specs.Order.{lowest, those_of}
use Rattle.vl_tree.specs.Outcomes.{Outcome, unless}
use Rattle.vl_size.specs.declared.constant.Const.{Const}
use Rattle.vl_size.specs.Terms.{Term}
use Rattle.vl_const.specs.Counted.{counts, none_counted, value}
use Rattle.vl_const.specs.Scopes.{Meaning}

abbrev pub const_value : Meaning → Term → Outcome Const
const_value m t = unless (value m t).fault (value m t).value

abbrev pub count_list : Meaning → Term → Outcome (List Const)
count_list m t = unless (lowest (those_of (counts m t none_counted).faults)) (counts m t none_counted).values

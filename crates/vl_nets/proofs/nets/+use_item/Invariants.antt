use Rattle.std.proofs.Common.{◌≡◌, drop, map}
use Rattle.vl_names.specs.Outward.{all, is_known}
use Rattle.vl_names.specs.Tables.{table}
use Rattle.vl_nets.specs.Nets.{use_parts}
use Rattle.vl_items.specs.Parts.{part, parts_of}
use Rattle.vl_nets.proofs.nets.+use_item.Given as goal

abbrev pub invariant-use_items-loop-item : goal.invariant-use_items-loop-item
invariant-use_items-loop-item l = use_parts (is_known (table l.outside.variable.now) (all l.outside.scopes.now) l.outside.outer) (table l.all) (parts_of (map part (drop l.item-index l.items))) ≡ use_parts (is_known (table l.outside.variable.now) (all l.outside.scopes.now) l.outside.outer) (table l.fn.before) (parts_of (map part l.items))

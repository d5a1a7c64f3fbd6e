use Rattle.std.proofs.Common.{◌≡◌, drop, map}
use Rattle.vl_names.specs.Outward.{all, is_known}
use Rattle.vl_names.specs.Tables.{table}
use Rattle.vl_items.specs.Parts.{part, parts_of}
use Rattle.scope_names.specs.Named.{named_parts}
use Rattle.scope_names.proofs.named.+with_named.Given as goal

abbrev pub invariant-all_named-loop-item : goal.invariant-all_named-loop-item
invariant-all_named-loop-item l = named_parts (is_known (table l.outside.variable.now) (all l.outside.scopes.now) l.outside.outer) (table l.all) (parts_of (map part (drop l.item-index l.items))) ≡ named_parts (is_known (table l.outside.variable.now) (all l.outside.scopes.now) l.outside.outer) (table l.fn.before) (parts_of (map part l.items))

use Rattle.std.proofs.Common.{◌≡◌, drop, map}
use Rattle.vl_names.specs.Tables.{table}
use Rattle.vl_items.specs.Declarations.{declare_parts}
use Rattle.vl_items.specs.Parts.{part, parts_of}
use Rattle.vl_items.proofs.declared.+declare.Given as goal

abbrev pub invariant-declare_items-loop-item : goal.invariant-declare_items-loop-item
invariant-declare_items-loop-item l = declare_parts (table l.all) (parts_of (map part (drop l.item-index l.items))) ≡ declare_parts (table l.fn.before) (parts_of (map part l.items))

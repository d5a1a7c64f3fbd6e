use Rattle.std.proofs.Common.{◌≡◌, drop, map}
use Rattle.vl_names.specs.Names.{listed}
use Rattle.vl_modules.specs.Modules.{parameter_parts}
use Rattle.vl_items.specs.Parts.{part, parts_of}
use Rattle.vl_modules.proofs.modules.+parameter.Given as goal

abbrev pub invariant-parameter_items-loop-item : goal.invariant-parameter_items-loop-item
invariant-parameter_items-loop-item l = parameter_parts (listed l.all) (parts_of (map part (drop l.item-index l.items))) ≡ parameter_parts (listed l.fn.before) (parts_of (map part l.items))

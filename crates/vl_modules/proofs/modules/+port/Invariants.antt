use Rattle.std.proofs.Common.{◌≡◌, drop, map}
use Rattle.vl_names.specs.Tables.{table}
use Rattle.vl_modules.specs.Modules.{declare_port_parts}
use Rattle.vl_items.specs.Parts.{part, parts_of}
use Rattle.vl_modules.proofs.modules.+port.Given as goal

abbrev pub invariant-port_items-loop-item : goal.invariant-port_items-loop-item
invariant-port_items-loop-item l = declare_port_parts (table l.all) (parts_of (map part (drop l.item-index l.items))) ≡ declare_port_parts (table l.fn.before) (parts_of (map part l.items))

use Rattle.std.proofs.Common.{◌≡◌, drop, map}
use Rattle.vl_names.specs.Names.{listed}
use Rattle.vl_names.specs.Tables.{table}
use Rattle.vl_modules.specs.Modules.{declare_stub_parts}
use Rattle.vl_items.specs.Parts.{part, parts_of}
use Rattle.vl_modules.proofs.modules.+stub.Given as goal

abbrev pub invariant-stub_items-loop-item : goal.invariant-stub_items-loop-item
invariant-stub_items-loop-item l = declare_stub_parts (listed l.ports) (table l.all) (parts_of (map part (drop l.item-index l.items))) ≡ declare_stub_parts (listed l.ports) (table l.fn.before) (parts_of (map part l.items))

use Rattle.std.proofs.Common.{◌≡◌, ◌+◌, length, reverse, take, All, ◌<◌}
use Rattle.cnf_core.specs.Lit.{variable_of}
use Rattle.sat_core.specs.Sync.{reads, open_count}
use Rattle.sat_core.specs.Trail.{assigned, AreFresh}
use Rattle.sat_core.proofs.trail.Trail.undo.Given as goal

abbrev pub invariant-loop-self : goal.invariant-loop-self
invariant-loop-self l = record {
  marks : take l.cut l.self.marks ≡ take l.cut l.initial.self.marks;
  values : reads l.self.values.items ≡ assigned (reverse l.self.marks);
  fresh : AreFresh (reverse l.self.marks);
  fit : All (λ m. variable_of m.lit < length l.self.values.items) l.self.marks;
  size : length l.self.values.items ≡ length l.initial.self.values.items;
  open_are : length l.self.marks + open_count l.self.values.items ≡ length l.initial.self.marks + open_count l.initial.self.values.items;
  next : l.self.next ≡ l.initial.self.next;
}

abbrev pub decreases-loop-self : goal.decreases-loop-self
decreases-loop-self l = length l.self.marks

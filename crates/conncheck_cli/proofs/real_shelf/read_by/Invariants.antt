use Rattle.std.proofs.Common.{◌≤◌, ◌-◌, length}
use Rattle.std.specs.Io.KnownBytes.{Consumes}
use Rattle.conncheck_cli.proofs.real_shelf.read_by.Given as goal

abbrev pub decreases-turns : goal.decreases-turns
decreases-turns g l = l.most - length l.bytes.items

abbrev pub invariant-turns : goal.invariant-turns
invariant-turns g l = record {
  few : length l.bytes.items ≤ l.most;
  read : Consumes (g.F.Read.remaining l.initial.file) (g.F.Read.remaining l.file) l.bytes.items;
}

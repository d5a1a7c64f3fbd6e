use Rattle.std.proofs.Common.{◌≡◌, take, map, string_bytes, IfSome}
use Rattle.vl_lex.specs.Sources.{AreSmall}
use Rattle.conncheck.specs.Reads.{AreRead}
use Rattle.conncheck.proofs.reads.read_each.Given as goal

abbrev pub invariant-loop-name : goal.invariant-loop-name
invariant-loop-name g l = record {
  kept : g.H.Shelf.tells l.shelf ≡ g.H.Shelf.tells l.initial.shelf;
  steady : g.H.Shelf.is_steady l.initial.shelf → g.H.Shelf.is_steady l.shelf;
  faults : g.H.Shelf.faults l.shelf ≡ g.H.Shelf.faults l.initial.shelf;
  small : AreSmall l.files;
  read : IfSome (g.H.Shelf.tells l.initial.shelf) (λ files. AreRead files (map string_bytes (take l.name-index l.names)) l.files);
}

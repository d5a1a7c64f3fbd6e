use Rattle.std.proofs.Common.{◌≡◌, ◌≤◌, ◌-◌, length, IfOk, IfSome}
use Rattle.vl_lex.specs.Resumed.{IsOver, WalksTo}
use Rattle.vl_lex.specs.Sources.{files_of}
use Rattle.vl_lex.specs.Walk.{kept}
use Rattle.conncheck.specs.Seen.{seen_check}
use Rattle.conncheck.proofs.WalkLaws.{Leads}
use Rattle.conncheck.proofs.commands.check.walk.Given as goal

abbrev pub decreases-includes : goal.decreases-includes
decreases-includes g l = 1024 - length l.sources

abbrev pub invariant-includes : goal.invariant-includes
invariant-includes g l = record {
  told : g.H.Shelf.tells l.shelf ≡ g.H.Shelf.tells l.initial.shelf;
  steady : g.H.Shelf.is_steady l.initial.shelf → g.H.Shelf.is_steady l.shelf;
  faults : g.H.Shelf.faults l.shelf ≡ g.H.Shelf.faults l.initial.shelf;
  taken : g.K.Sink.taken l.out ≡ g.K.Sink.taken l.initial.out;
  written : g.K.Sink.faults l.out ≡ g.K.Sink.faults l.initial.out;
  few : length l.sources ≤ 1024;
  walks : WalksTo l.walked (kept (files_of l.sources) (length l.named) (seen_check l.command).defines);
  over : IfOk l.walked (IsOver (files_of l.sources) (length l.named) (seen_check l.command).defines);
  leads : IfSome (g.H.Shelf.tells l.initial.shelf)
      (λ files. Leads (seen_check l.command) l.table (length l.named) (g.H.Shelf.is_steady l.initial.shelf) (g.H.Shelf.is_steady l.shelf) files l.named (files_of l.sources));
}

use Rattle.std.proofs.Common.{◌≡◌, drop}
use Rattle.vl_sources.specs.Sources.{seen, modules_from, known_modules}
use Rattle.vl_sources.proofs.sources.known_modules.Given as goal

abbrev pub invariant-loop-module : goal.invariant-loop-module
invariant-loop-module l = modules_from (seen l.all) (drop l.module-index l.modules) ≡ known_modules l.modules

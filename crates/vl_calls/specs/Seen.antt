-- The functions of a scope without where they lie in memory.
use Rattle.std.specs.Prelude.{map}
use Rattle.vl_names.specs.Names.{listed}
use Rattle.vl_calls.specs.declared.circles.Callers as code
use Rattle.vl_calls.specs.Reaching.{Callers}

abbrev pub callers : code.Callers → Callers
callers c = record { names = listed c.names; calls = map listed c.calls }

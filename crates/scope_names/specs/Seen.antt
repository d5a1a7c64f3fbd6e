-- What is in reach of a scope, without where it lies in memory.
use Rattle.vl_names.specs.declared.outward.Outside.{Outside}
use Rattle.vl_names.specs.Outward.{all}
use Rattle.vl_names.specs.Tables.{table}
use Rattle.scope_names.specs.Named.{Around}

abbrev pub around : Outside → Around
around o = record { variable = table o.variable.now; scopes = all o.scopes.now; outer = o.outer }

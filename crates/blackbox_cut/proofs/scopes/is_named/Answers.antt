use Rattle.std.proofs.Common.{sym}
use Rattle.blackbox_cut.proofs.NamedLaws.{all_named, none_named, one_named}
use Rattle.blackbox_cut.proofs.scopes.is_named.Goals as goal

pub returns-then-is_name : goal.returns-then-is_name
returns-then-is_name c = sym (one_named c.args.names.now c.args.text.now c.loop-name.name-index c.name-item.result c.loop-name-test.true c.name-item.is (sym c.if-is_name.ensures))

pub returns : goal.returns
returns c = sym (all_named c.args.names.now c.args.text.now c.loop-name.name-index c.loop-name-test.false c.loop-name.invariant)

pub loop-name-preserved : goal.loop-name-preserved
loop-name-preserved c = none_named c.args.names.now c.args.text.now c.loop-name.name-index c.name-item.result c.loop-name-test.true c.name-item.is (sym c.if-is_name.ensures) c.loop-name.invariant

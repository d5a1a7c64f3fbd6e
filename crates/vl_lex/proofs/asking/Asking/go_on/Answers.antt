use Rattle.vl_lex.proofs.Starts.{given, small_given}
use Rattle.vl_lex.proofs.asking.Asking.go_on.Goals as goal

pub go-requires-clause-small : goal.go-requires-clause-small
go-requires-clause-small c = small_given _ _ _ c.in_ok-push.ensures.ok c.args.self.small c.requires.small

pub go-requires-clause-goes_on : goal.go-requires-clause-goes_on
go-requires-clause-goes_on c = given _ _ _ _ _ _ _ _ c.in_ok-push.ensures.ok c.args.self.goes_on

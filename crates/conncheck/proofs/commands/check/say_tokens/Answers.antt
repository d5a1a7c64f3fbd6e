use Rattle.std.proofs.Common.{List, map, subst}
use Rattle.vl_lex.specs.Lexed.{view}
use Rattle.vl_lex.specs.Sources.{files_of}
use Rattle.vl_tree.specs.declared.tokens.Token.{Token}
use Rattle.conncheck.specs.Seen.{seen_check}
use Rattle.conncheck.specs.commands.Check.{OfWords}
use Rattle.conncheck.proofs.TokenLaws as laws
use Rattle.conncheck.proofs.commands.check.say_tokens.Goals as goal

pub returns-in-Ok-clause-answer : goal.returns-in-Ok-clause-answer
returns-in-Ok-clause-answer g c =
    let k = seen_check c.args.command.now in
    let table = c.args.table.now in
    let ends = c.say_check.ensures.answer in
    let P : List Token → Type 0 = λ ts. OfWords k table (map (λ t. t.text.now) ts) ends.reply in
    record {
      reply = ends.reply;
      is = laws.of_source k table (files_of c.args.sources.now) c.args.tokens.now ends.reply c.in-Ok.ensures.spelled (subst P c.as_slice.ensures ends.is);
      ended = ends.ended;
    }

pub returns-in-Err-clause-answer : goal.returns-in-Err-clause-answer
returns-in-Err-clause-answer g c =
    laws.of_stop (seen_check c.args.command.now) c.args.table.now (files_of c.args.sources.now) (map view c.args.tokens.now) c.in-Err.stop
    (g.K.Sink.taken c.args.out.now) (g.K.Sink.taken c.say_stop.new.out) c.say_stop.result c.in-Err.ensures.refused c.say_stop.ensures.printed

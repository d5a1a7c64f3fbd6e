use Rattle.conncheck.proofs.NeedLaws.{is_text_ok}
use Rattle.conncheck.proofs.commands.check.read_asked.Goals as goal

pub unwrap-text-requires : goal.unwrap-text-requires
unwrap-text-requires g c = is_text_ok _ c.args.name.now c.from_utf8.result c.from_utf8.ensures.cases c.requires.text

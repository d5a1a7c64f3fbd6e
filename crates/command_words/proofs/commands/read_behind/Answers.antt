use Rattle.std.proofs.Common.{rules, ◌≡◌, Option, Some, map, string_bytes, subst, sym}
use Rattle.command_words.specs.Commands as spec
use Rattle.command_words.specs.Seen.{Gives, seen_command}
use Rattle.command_words.specs.Table.{names_of, options_of}
use Rattle.command_words.proofs.ReadLaws as laws
use Rattle.command_words.proofs.ShapeLaws.{files_of}
use Rattle.command_words.proofs.commands.read_behind.Goals as goal

pub returns-in_default : goal.returns-in_default
returns-in_default c = laws.no_line c.args.verb (map string_bytes c.args.words.now) (search rules)

pub returns-in-Err : goal.returns-in-Err
returns-in-Err c =
    let files : Some (map string_bytes c.in-Some.files.now) ≡ files_of (names_of (options_of c.args.verb)) (map string_bytes c.args.words.now) = search rules in
    laws.refused c.args.verb (map string_bytes c.args.words.now) (map string_bytes c.in-Some.files.now) c.in-Err.stop files c.in-Err.ensures

pub returns : goal.returns
returns c =
    let files : Some (map string_bytes c.in-Some.files.now) ≡ files_of (names_of (options_of c.args.verb)) (map string_bytes c.args.words.now) = search rules in
    let P : Option spec.Command → Type 0 = λ o. Gives seen_command o c.command_by.result in
    subst P (sym (laws.taken c.args.verb (map string_bytes c.args.words.now) (map string_bytes c.in-Some.files.now) c.in-Ok.matches files c.in-Ok.ensures)) c.command_by.ensures

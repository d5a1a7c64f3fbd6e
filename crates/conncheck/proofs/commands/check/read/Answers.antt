use Rattle.std.proofs.Common.{rules, ◌≡◌, IfOk, Option, Some, map, option_map, string_bytes, subst, sym}
use Rattle.conncheck.specs.Seen.{seen_check, seen_line}
use Rattle.conncheck.specs.Words.{Line, line_of, then_some}
use Rattle.conncheck.specs.commands.Check as spec
use Rattle.conncheck.proofs.commands.check.read.Goals as goal

pub returns-in-Some : goal.returns-in-Some
returns-in-Some c =
    let line : line_of spec.options (map string_bytes c.args.words.now) ≡ Some (seen_line c.in-Some.line) = search rules in
    let P : Option Line → Type 0 = λ o. IfOk c.values_of.result (λ r. option_map seen_check r ≡ then_some o spec.values_of) in
    subst P (sym line) c.values_of.ensures

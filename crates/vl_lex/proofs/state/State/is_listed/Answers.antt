use Rattle.std.proofs.Common.{List, ◌∙◌, sym, ap}
use denote.Ref.{Bor}
use Rattle.std.specs.List.{list_any}
use Rattle.std.specs.Str.{bytes_eq}
use Rattle.vl_lex.specs.Bytes.{Text}
use Rattle.vl_lex.proofs.Rows.{any_now}
use Rattle.vl_lex.proofs.state.State.is_listed.Goals as goal

pub returns : goal.returns
returns c = c.is_among.ensures ∙ (ap (λ (z : List (Bor Text)). list_any (λ n. bytes_eq n.now c.args.name.now) z) c.as_slice.ensures ∙ sym (any_now c.args.name.now c.args.self.now.listed))

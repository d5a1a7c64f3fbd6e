use Rattle.std.proofs.Common.{rules, ◌≡◌, inl, inr, Ok, Err, map, string_bytes}
use Rattle.clap.specs.Words.{app_of, kind_of}
use Rattle.clap.specs.declared.error.kind.ErrorKind.TheVariants as kind
use Rattle.command_words.proofs.Matched as laws
use Rattle.command_words.proofs.matching.matched.Goals as goal

pub returns-in-Ok : goal.returns-in-Ok
returns-in-Ok c = λ l line. laws.answered c.args.verb (map string_bytes c.args.words.now) l line (app_of c.in_ok-command.command) (Ok c.in-Ok.matches) c.in_ok-command.ensures c.in-Ok.ensures.kinds c.in-Ok.ensures.matches

pub returns : goal.returns
returns c = λ l line.
    let other : kind_of c.in-Err.error ≡ kind.OutOfMemory → ⊥ = search rules in
    elim (laws.answered c.args.verb (map string_bytes c.args.words.now) l line (app_of c.in_ok-command.command) (Err c.in-Err.error) c.in_ok-command.ensures c.in-Err.ensures.kinds c.in-Err.ensures.matches) [
      | inl memory ↦ absurd (other memory)
      | inr refused ↦ refused
    ]

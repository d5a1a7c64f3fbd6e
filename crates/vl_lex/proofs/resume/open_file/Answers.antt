use Rattle.std.proofs.Common.{◌<◌, length, ap, refl, arith}
use Rattle.vl_lex.specs.Walk.{state_view, with_gate}
use Rattle.vl_lex.specs.Sources.{files_of}
use Rattle.vl_lex.proofs.Walks.{walk_refused}
use Rattle.vl_lex.proofs.Needs.{lex_stop}
use Rattle.vl_lex.proofs.Resumes.{ends_stop, files_length, bytes_there, small_there, opens}
use Rattle.vl_lex.proofs.resume.open_file.Goals as goal

pub lex_file-requires : goal.lex_file-requires
lex_file-requires c = small_there _ _ _ c.requires.small c.requires.there

pub stop_of-requires : goal.stop_of-requires
stop_of-requires c = lex_stop _ _ _ c.in-Err.ensures.err

pub returns-in-Err-clause-err : goal.returns-in-Err-clause-err
returns-in-Err-clause-err c =
    ends_stop _ _ _ c.stop_of.ensures (walk_refused _ _ _ _ _ _ (bytes_there _ _ _ _ c.requires.there refl) c.in-Err.ensures.err)

pub last_line-requires : goal.last_line-requires
last_line-requires c = small_there _ _ _ c.requires.small c.requires.there

pub returns-clause-opens : goal.returns-clause-opens
returns-clause-opens c more =
    let l : c.args.index < length (files_of c.args.files.now) = omega (arith, files_length c.args.files.now, c.requires.there) in
    opens _ _ _ _ _ _ _ _ _ _ l (bytes_there _ _ _ _ c.requires.there refl) c.in-Ok.ensures.ok c.last_line.ensures c.new.ensures (ap (with_gate (state_view c.args.state.now)) c.in-Ok.ensures.still)

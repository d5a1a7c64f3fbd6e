-- What a call answers: a status, and whole texts that go out one by one.
use Rattle.std.specs.Prelude.{List, [], ◌∷◌, ◌++◌, codes, flat_map, map, if◌then◌else◌}
use Rattle.std.specs.List.{list_all}
use Rattle.vl_tree.specs.declared.faults.Code.{Code}
use Rattle.vl_tree.specs.declared.faults.Code.TheVariants as code
use Rattle.log_verdict.specs.declared.judge.LogAnswer.{LogAnswer}
use Rattle.log_verdict.specs.declared.judge.LogAnswer.TheVariants as log
use Rattle.conncheck.specs.Texts.{Judged, judged_text, limit_text, line, log_text, not_yet_text, refused_text, total_text, was_proved}
use Rattle.conncheck.specs.Words.{Text}
use Rattle.conncheck.specs.declared.status.Status.{Status}
use Rattle.conncheck.specs.declared.status.Status.TheVariants as status

pub record Reply : Type 0 where
  pub status : Status
  pub pieces : List Text

abbrev pub joined : List Text → Text
joined = flat_map (λ t. t)

abbrev pub text_of : Reply → Text
text_of r = joined r.pieces

-- a reply of one text
abbrev pub one : Status → Text → Reply
one s text = record { status = s; pieces = text ∷ [] }

-- the words are no command
abbrev pub bad_words : Reply
bad_words = one status.BadWords (codes "BADWORDS\n")

-- a file of this name is not there
abbrev pub missing : Text → Reply
missing name = one status.ReadFault (line (codes "READFAULT ") name)

-- a limit is passed
abbrev pub limited : Code → Reply
limited c = one status.Limit (limit_text c)

-- a file is too long
abbrev pub too_long : Reply
too_long = limited code.FileBytes

-- a fault, with its place
abbrev pub refused : Code → Text → Reply
refused c at = one status.Refused (refused_text c at)

-- a form that is not built yet, in the file of this name
abbrev pub not_yet : Text → Reply
not_yet name = one status.Refused (not_yet_text name)

-- rows with their verdicts, over the ports of the top module. Findings comes exactly where some row is not proved.
abbrev pub report : Text → List Text → List Judged → Reply
report top names js = record {
  status = if list_all was_proved js then status.Done else status.Findings;
  pieces = map (judged_text top names) js ++ total_text js ∷ [];
}

abbrev pub log_status : LogAnswer → Status
log_status log.Verified = status.Done
log_status (log.Rejected k) = status.Findings
log_status (log.BadFormula n) = status.Refused
log_status (log.BadLog n) = status.Refused

-- what a log comes to. Findings comes exactly where it is rejected.
abbrev pub logged : LogAnswer → Reply
logged a = one (log_status a) (log_text a)

-- When a status may come.
use Rattle.std.specs.Prelude.{ℕ, ◌≡◌, ◌≤◌, Option, None, ⊤, true, is_some}
use Rattle.shelf_io.specs.Cause.{Rose}
use Rattle.conncheck.specs.Command.{Command}
use Rattle.conncheck.specs.declared.status.Status.{Status}
use Rattle.conncheck.specs.declared.status.Status.TheVariants.{Done, Findings, BadWords, Refused, ReadFault, WriteFault, NoMemory, Limit}

abbrev pub code_of : Status → ℕ
code_of Done = 0
code_of Findings = 1
code_of BadWords = 2
code_of Refused = 3
code_of ReadFault = 4
code_of WriteFault = 5
code_of NoMemory = 6
code_of Limit = 7

-- ReadFault comes only where the shelf's count rose; where it grew, no answer hides it but a failed write and want of memory
abbrev pub ReadFaultCause : ℕ → ℕ → Status → Type 0
ReadFaultCause before now ReadFault = Rose before now
ReadFaultCause before now WriteFault = before ≤ now
ReadFaultCause before now NoMemory = before ≤ now
ReadFaultCause before now _ = now ≡ before

-- WriteFault comes only where the sink's count rose, and each other answer leaves the count
abbrev pub WriteFaultCause : ℕ → ℕ → Status → Type 0
WriteFaultCause before now WriteFault = Rose before now
WriteFaultCause before now _ = now ≡ before

-- BadWords comes exactly where the words are no command, unless a write failed or memory ran out before that could be said
abbrev pub BadWordsCause : Option Command → Status → Type 0
BadWordsCause command BadWords = command ≡ None
BadWordsCause command WriteFault = ⊤
BadWordsCause command NoMemory = ⊤
BadWordsCause command _ = is_some command ≡ true

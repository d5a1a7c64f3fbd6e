-- A call has one reply.
use Rattle.std.specs.Prelude.{◌≡◌, Option}
use Rattle.shelf_io.specs.Files.{Files}
use Rattle.conncheck.specs.Command.{Command, IsReply}
use Rattle.conncheck.specs.Reply.{Reply}

-- words and files fix the reply: its status and each of its texts
abbrev pub RepliesAreOne : Type 0
RepliesAreOne = (command : Option Command) (files : Files) (r q : Reply) → IsReply command files r → IsReply command files q → r ≡ q

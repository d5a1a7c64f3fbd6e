use Rattle.std.proofs.Common.{rules, ◌-◌, take, drop}
use Rattle.std.proofs.lemmas.List.{take-append-drop}
use Rattle.shelf_io.proofs.mem_sink.MemSinkSink.write_all.Goals as goal

pub returns-clause-bytes : goal.returns-clause-bytes
returns-clause-bytes c = let left = c.len.result in record {
  part = take (c.args.self.now.room - left) c.args.bytes.now;
  rest = drop (c.args.self.now.room - left) c.args.bytes.now;
  parts = take-append-drop _ _;
  follows = search rules;
}

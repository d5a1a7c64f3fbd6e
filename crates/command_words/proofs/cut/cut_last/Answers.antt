use Rattle.std.proofs.Common.{rules, ◌≡◌, ◌-◌, length, get_or}
use Rattle.command_words.proofs.CutLaws as laws
use Rattle.command_words.proofs.cut.cut_last.Goals as goal

pub returns-then-byte-at : goal.returns-then-byte-at
returns-then-byte-at c =
    let left = c.bytes.left.now in
    let is : get_or left (length left - 1) 0 ≡ c.args.at = search rules in
    laws.last_found c.args.at c.args.text.now left c.bytes.invariant.front c.bytes.invariant.cut c.in-len1-up.len_at_least is

pub bytes-preserved : goal.bytes-preserved
bytes-preserved c =
    let left = c.bytes.left.now in
    let differs : get_or left (length left - 1) 0 ≡ c.args.at → ⊥ = search rules in
    record {
      front = laws.last_front c.args.at c.args.text.now left c.bytes.invariant.front c.bytes.invariant.cut c.in-len1-up.len_at_least;
      cut = laws.last_passes c.args.at c.args.text.now left c.bytes.invariant.front c.bytes.invariant.cut c.in-len1-up.len_at_least differs;
    }

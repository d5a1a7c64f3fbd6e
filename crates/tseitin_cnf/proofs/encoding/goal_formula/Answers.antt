use Rattle.std.proofs.Common.{arith, refl, subst, sym}
use Rattle.cyc_net.specs.Nets.{bit_at}
use Rattle.tseitin_cnf.specs.Encoding.{walk, begin}
use Rattle.tseitin_cnf.specs.Parts.{nodes_in}
use Rattle.tseitin_cnf.specs.Tracks.{numbers, Good}
use Rattle.tseitin_cnf.proofs.PartLaws.{as_long, read_in}
use Rattle.tseitin_cnf.proofs.ReadLaws.{read_closed}
use Rattle.tseitin_cnf.proofs.WalkLaws.{encoded}
use Rattle.tseitin_cnf.proofs.encoding.goal_formula.Goals as goal

pub add_nodes-requires-clause-read : goal.add_nodes-requires-clause-read
add_nodes-requires-clause-read c =
    read_closed (nodes_in c.args.whole c.args.part.now c.args.net.now) c.args.goal (bit_at c.args.marks.now)
    (read_in c.args.whole c.args.part.now c.args.net.now c.args.goal (bit_at c.args.marks.now) c.requires.read)

pub returns : goal.returns
returns c =
    let net = nodes_in c.args.whole c.args.part.now c.args.net.now in
    let long = as_long c.args.whole c.args.part.now c.args.net.now in
    let read = bit_at c.args.marks.now in
    let leaves = c.args.leaves in
    encoded net leaves c.args.goal read (walk read 0 (begin leaves) net) c.add_nodes.new.variables c.in_ok-last.last (numbers c.add_nodes.new.variables c.args.goal) c.add_nodes.new.clauses c.push_one.new.clauses
    refl (read_in c.args.whole c.args.part.now c.args.net.now c.args.goal read c.requires.read)
    (subst (λ n. Good net read leaves n (walk read 0 (begin leaves) net)) (sym long) c.in_ok-last.ensures.good) c.in_ok-last.ensures.tracks
    (omega (arith, long, c.requires.goal)) c.requires.few (omega (arith, long, c.len.ensures.value, c.len.ensures.most)) refl c.in_ok-push_one.ensures

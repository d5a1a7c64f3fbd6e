use Rattle.std.proofs.Common.{◌≡◌, ◌<◌, Bool, false, List, length, cond, get_or, take, arith, sym, ap, subst, ◌∙◌}
use Rattle.std.proofs.lemmas.List.{get_or_default, take_all}
use Rattle.cyc_net.specs.declared.node.Node.{Node}
use Rattle.cyc_net.specs.declared.node.Node.TheVariants.{Const}
use Rattle.cyc_net.specs.Nets.{bit_at, ReadsBelow}
use Rattle.cyc_net.proofs.NetLaws.{reads_all}
use Rattle.tseitin_cnf.specs.Encoding.{Walk, walk, begin, with_node}
use Rattle.tseitin_cnf.specs.Parts.{node_in, nodes_in}
use Rattle.tseitin_cnf.specs.Tracks.{Tracks, Good}
use Rattle.tseitin_cnf.proofs.PartLaws.{all_read, as_long, node_reads, node_there}
use Rattle.tseitin_cnf.proofs.WalkLaws.{node_leaf, inputs_named, good_more, good_start, tracks_start, walk_more}
use Rattle.tseitin_cnf.proofs.encoding.add_nodes.Goals as goal
use Rattle.tseitin_cnf.proofs.encoding.add_nodes.Goals.{then-marks-at+in_ok-last, else-marks-at}

pub loop-at-init : goal.loop-at-init
loop-at-init c = record {
  tracks = tracks_start c.args.variables.now c.args.leaves c.args.clauses.now c.requires.none c.requires.empty;
  good = good_start (nodes_in c.args.whole c.args.part.now c.args.net.now) (bit_at c.args.marks.now) c.args.leaves;
  same = c.requires.same;
}

pub add_node-requires-clause-inputs : goal.add_node-requires-clause-inputs
add_node-requires-clause-inputs c =
    let i = c.loop-at.invariant in
    let nodes = nodes_in c.args.whole c.args.part.now c.args.net.now in
    let long = as_long c.args.whole c.args.part.now c.args.net.now in
    let few = i.good.few in let count = i.good.count in let l = i.tracks.last_is in let most = c.len-at-end.ensures.most in
    let there = node_there c.args.whole c.args.part.now c.args.net.now c.loop-at.at c.node.result (omega arith) c.node.ensures.value in
    inputs_named nodes (bit_at c.args.marks.now) c.args.leaves c.loop-at.at (walk (bit_at c.args.marks.now) 0 (begin c.args.leaves) (take c.loop-at.at nodes)) c.loop-at.variables c.loop-at.last c.loop-at.clauses
    c.requires.read i.good i.tracks (omega (arith, long)) (i.same ∙ sym long) (omega arith) c.if-marks-at.true
    c.node_in-node.result (subst (λ (x : Node). x ≡ get_or nodes c.loop-at.at x) (sym c.node_in-node.ensures) there)
    (subst (ReadsBelow c.loop-at.at) (sym c.node_in-node.ensures) (node_reads c.loop-at.at c.args.whole c.args.part.now c.node.result c.node.ensures.reads))

pub add_node-requires-clause-leaf : goal.add_node-requires-clause-leaf
add_node-requires-clause-leaf c =
    let nodes = nodes_in c.args.whole c.args.part.now c.args.net.now in
    let long = as_long c.args.whole c.args.part.now c.args.net.now in
    let there = node_there c.args.whole c.args.part.now c.args.net.now c.loop-at.at c.node.result (omega arith) c.node.ensures.value in
    node_leaf c.args.leaves 134217728 nodes c.loop-at.at c.node_in-node.result c.requires.few c.requires.leaves (omega (arith, long))
    (subst (λ (x : Node). x ≡ get_or nodes c.loop-at.at x) (sym c.node_in-node.ensures) there)

pub loop-at-preserved : goal.loop-at-preserved
loop-at-preserved c =
    let net = c.args.net.now in
    let nodes = nodes_in c.args.whole c.args.part.now net in
    let long = as_long c.args.whole c.args.part.now net in
    let at = c.loop-at.at in
    let lt : at < length nodes = omega (arith, long) in
    let read = bit_at c.args.marks.now in
    let leaves = c.args.leaves in
    let s : Walk = walk read 0 (begin leaves) (take at nodes) in
    let i = c.loop-at.invariant in
    let x : Node = get_or nodes at (Const false) in
    let is : x ≡ get_or nodes at x = get_or_default nodes at (Const false) x lt in
    let reads = all_read c.args.whole c.args.part.now net c.len-at-end.ensures.reads in
    record {
      tracks = elim c.if-marks-at.branch [
        | then-marks-at+in_ok-last w ↦
            let there = node_there c.args.whole c.args.part.now net at w.node.result (omega arith) w.node.ensures.value in
            let y : Node = w.node_in-node.result in
            let here : y ≡ get_or nodes at y = subst (λ (z : Node). z ≡ get_or nodes at z) (sym w.node_in-node.ensures) there in
            rw (w.variables-is, w.last-is, w.clauses-is)
            (subst (λ (u : Walk). Tracks leaves u w.add_node.new.variables w.in_ok-last.last w.add_node.new.clauses)
            (sym (walk_more read (begin leaves) nodes at y lt here ∙ ap (λ (b : Bool). cond b (with_node s at y) s) w.if-marks-at.true))
            (w.in_ok-last.ensures leaves s i.tracks))
        | else-marks-at w ↦
            rw (w.variables-is, w.last-is, w.clauses-is)
            (subst (λ (u : Walk). Tracks leaves u c.loop-at.variables c.loop-at.last c.loop-at.clauses)
            (sym (walk_more read (begin leaves) nodes at x lt is ∙ ap (λ (b : Bool). cond b (with_node s at x) s) w.if-marks-at.false))
            i.tracks)
      ];
      good = good_more nodes read leaves at x reads c.requires.read c.requires.leaves i.good lt is (reads_all nodes at (Const false) reads lt);
      same = c.if-marks-at.auto.variables ∙ i.same;
    }

pub returns-clause-tracks : goal.returns-clause-tracks
returns-clause-tracks c =
    let nodes = nodes_in c.args.whole c.args.part.now c.args.net.now in
    let long = as_long c.args.whole c.args.part.now c.args.net.now in
    subst (λ (xs : List Node). Tracks c.args.leaves (walk (bit_at c.args.marks.now) 0 (begin c.args.leaves) xs) c.loop-at.variables c.loop-at.last c.loop-at.clauses)
    (take_all c.loop-at.at nodes (omega (arith, long))) c.loop-at.invariant.tracks

pub returns-clause-good : goal.returns-clause-good
returns-clause-good c =
    let nodes = nodes_in c.args.whole c.args.part.now c.args.net.now in
    let long = as_long c.args.whole c.args.part.now c.args.net.now in
    let g = subst (λ (xs : List Node). Good nodes (bit_at c.args.marks.now) c.args.leaves c.loop-at.at (walk (bit_at c.args.marks.now) 0 (begin c.args.leaves) xs))
    (take_all c.loop-at.at nodes (omega (arith, long))) c.loop-at.invariant.good in
    subst (λ n. Good nodes (bit_at c.args.marks.now) c.args.leaves n (walk (bit_at c.args.marks.now) 0 (begin c.args.leaves) nodes)) (omega arith) g

use Rattle.std.proofs.Common.{◌≡◌, ℕ, ◌<◌, List, length, arith, sym, ap, subst, ◌∙◌, map}
use Rattle.cyc_net.specs.declared.cycle.BitLeaf.{BitLeaf}
use Rattle.cyc_net.specs.declared.cycle.BitNode.{BitNode}
use Rattle.cyc_net.specs.Cycles.{leaf_of, bit_of}
use Rattle.unroller.specs.Steps.{Apart, Given, Copied}
use Rattle.unroller.specs.Tables.{read_node}
use Rattle.unroller.proofs.StepLaws.{apart_first, apart_second}
use Rattle.unroller.proofs.FrameLaws.{before_more}
use Rattle.unroller.proofs.unrolling.step.Goals as goal

pub place_inputs-requires-clause-apart : goal.place_inputs-requires-clause-apart
place_inputs-requires-clause-apart c =
    let d = c.args.cycle.now in
    subst Apart (sym c.as_slice-inputs.ensures) (apart_first d.net d.inputs d.states c.requires.cycle.leaves)

pub next_states-requires : goal.next_states-requires
next_states-requires c =
    let d = c.args.cycle.now in
    record { apart = subst Apart (sym c.as_slice-states.ensures) (apart_second d.net d.inputs d.states c.requires.cycle.leaves) }

pub returns : goal.returns
returns c = λ start frames b.
    let d = c.args.cycle.now in
    let net0 = c.args.net.now in
    let netA = c.place_inputs.new.net in
    let netB = c.copy_net.new.net in
    let src0 = c.args.sources.now.items in
    let srcA = c.place_inputs.new.sources.items in
    let srcB = c.next_states.new.sources.items in
    let copies = c.in_ok-copies.copies.items in
    let given = subst (λ (ps : List BitLeaf). Given c.args.setup.now c.args.at ps net0 src0 c.args.leaves netA srcA c.in_ok-more.more) c.as_slice-inputs.ensures c.in_ok-more.ensures in
    let copied = subst (λ (xs : List ℕ). Copied d.net netA xs netB copies) c.as_slice-known.ensures.value c.in_ok-copies.ensures in
    let framed = c.in_ok-frame.ensures
    ∙ ap (λ (xs : List ℕ). map (λ (p : BitNode). record { bit = p.bit; node = read_node xs p.node }) c.as_slice-bits.result.now) c.as_slice-copied.ensures.value
    ∙ ap (λ (ps : List BitNode). map (λ (p : BitNode). record { bit = p.bit; node = read_node copies p.node }) ps) c.as_slice-bits.ensures in
    let linked = subst (λ (xs : List ℕ). (k : ℕ) → k < length d.states → read_node srcB (leaf_of d.states k) ≡ read_node xs (read_node c.args.nexts.now k)) c.as_slice-copied.ensures.value
    (subst (λ (ps : List BitLeaf). (k : ℕ) → k < length ps → read_node srcB (leaf_of ps k) ≡ read_node c.as_slice-copied.result.now (read_node c.args.nexts.now k)) c.as_slice-states.ensures c.in_ok-next_states.ensures.linked) in
    before_more d c.args.setup.now start c.args.at net0 netA netB src0 srcA srcB copies c.args.leaves c.in_ok-more.more frames c.in_ok-frame.frame
    c.requires.cycle (omega (arith, c.len.ensures.value, c.len.ensures.some)) b given copied framed
    (λ k lt. linked k lt ∙ ap (read_node copies) (c.requires.nexts k lt))
    (c.in_ok-next_states.ensures.nodes (length netB)
    (λ l. let h = given.nodes l in let k = copied.kept.longer in omega arith)
    (λ l. subst (λ (xs : List ℕ). read_node xs l < length netB) (sym c.as_slice-copied.ensures.value) (copied.nodes l)))

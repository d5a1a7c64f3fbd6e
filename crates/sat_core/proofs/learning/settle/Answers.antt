use Rattle.std.proofs.Common.{◌≡◌, Bool, Option, true, false, List, length, inr, sym, ap, ◌∙◌, arith}
use Rattle.cnf_core.specs.Values.{is_false, is_true}
use Rattle.sat_core.specs.Sync.{reads}
use Rattle.sat_core.proofs.BeginLaws.{settle_room, settle_refuted, begun_settled, settled_true}
use Rattle.sat_core.proofs.learning.settle.Goals as goal

pub is_false-requires : goal.is_false-requires
is_false-requires c =
    let lt = settle_room c.args.clauses.now c.args.leaves (length c.args.trail.now.values.items) c.args.place c.args.trail.now c.args.watches.now c.requires.begun c.args.pair.now c.requires.pair in
    omega (arith, ap length c.as_slice.ensures.value)

pub returns-then-is_false-clause-says : goal.returns-then-is_false-clause-says
returns-then-is_false-clause-says c =
    let vs = c.args.trail.now.values.items in
    let off : is_false (reads vs) c.args.pair.now.first ≡ true =
    ap (λ (xs : List (Option Bool)). is_false (reads xs) c.args.pair.now.first) (sym c.as_slice.ensures.value) ∙ sym c.is_false.ensures ∙ c.if-is_false.true in
    settle_refuted c.args.clauses.now c.args.leaves (length vs) c.args.place c.args.trail.now c.args.watches.now c.requires.begun c.args.pair.now c.requires.pair c.if-not-same.ensures off

pub is_true-requires : goal.is_true-requires
is_true-requires c =
    let lt = settle_room c.args.clauses.now c.args.leaves (length c.args.trail.now.values.items) c.args.place c.args.trail.now c.args.watches.now c.requires.begun c.args.pair.now c.requires.pair in
    omega (arith, ap length c.as_slice-2.ensures.value)

pub push-requires : goal.push-requires
push-requires c = settle_room c.args.clauses.now c.args.leaves (length c.args.trail.now.values.items) c.args.place c.args.trail.now c.args.watches.now c.requires.begun c.args.pair.now c.requires.pair

pub returns-clause-says : goal.returns-clause-says
returns-clause-says c =
    let vs = c.args.trail.now.values.items in
    let p = c.args.pair.now in
    let not_false : is_false (reads vs) p.first ≡ false =
    ap (λ (xs : List (Option Bool)). is_false (reads xs) p.first) (sym c.as_slice.ensures.value) ∙ sym c.is_false.ensures ∙ c.if-is_false.false in
    let not_true : is_true (reads vs) p.first ≡ false =
    ap (λ (xs : List (Option Bool)). is_true (reads xs) p.first) (sym c.as_slice-2.ensures.value) ∙ sym c.is_true.ensures ∙ c.if-is_true.false in
    let e = c.in_ok-push.ensures in (
      begun_settled c.args.clauses.now c.args.leaves (length vs) c.args.place c.args.trail.now c.args.watches.now c.requires.begun p c.requires.pair c.if-not-same.ensures not_false not_true c.push.new.self e.marks e.values e.done e.next,
      inr (settled_true c.args.clauses.now c.args.leaves (length vs) c.args.place c.args.trail.now c.args.watches.now c.requires.begun p c.requires.pair c.if-not-same.ensures not_false not_true c.push.new.self e.marks e.values e.done e.next),
    )

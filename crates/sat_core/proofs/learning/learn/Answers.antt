use Rattle.std.proofs.Common.{◌≡◌, ℕ, ◌+◌, ◌++◌, ◌∷◌, [], List, length, sym, ap, subst, ◌∙◌, reverse, length-append}
use Rattle.cnf_core.specs.declared.lit.Lit.{Lit}
use Rattle.sat_core.specs.declared.watching.Pair.{Pair}
use Rattle.sat_core.specs.Watch.{IsHeld}
use Rattle.sat_core.proofs.JumpLaws.{fresh_of}
use Rattle.sat_core.proofs.LearnLaws.{pair_room, pair_first_code, pair_second_code, held_learned}
use Rattle.sat_core.proofs.learning.learn.Goals as goal

pub jump-requires-clause-fresh : goal.jump-requires-clause-fresh
jump-requires-clause-fresh c = fresh_of c.args.clauses.now c.args.leaves (reverse c.args.trail.now.marks) c.requires.held.synced.trail

pub push-requires-2 : goal.push-requires-2
push-requires-2 c =
    let cs = c.args.clauses.now in
    let leaves = c.args.leaves in
    let t = c.args.trail.now in
    let w = c.args.watches.now in
    let size = length t.values.items in
    let q = c.requires in
    let lits = c.args.lits.now in
    let p : Pair = c.last_pair-pair.result in
    let x : ℕ = c.second_variable.result in
    let t1 = c.jump.new.trail in
    let j = c.jump.ensures in
    pair_room cs leaves size t w q.held lits q.traced q.full x c.second_variable.ensures.last q.leaf_lits q.fit t1 j.front.0 j.jumped j.front.1 j.values j.size j.open j.done j.next p c.last_pair-pair.ensures

pub add-requires-clause-first : goal.add-requires-clause-first
add-requires-clause-first c =
    let cs = c.args.clauses.now in
    let leaves = c.args.leaves in
    let t = c.args.trail.now in
    let w = c.args.watches.now in
    let size = length t.values.items in
    let q = c.requires in
    let lits = c.args.lits.now in
    let p : Pair = c.last_pair-pair.result in
    let x : ℕ = c.second_variable.result in
    let t1 = c.jump.new.trail in
    let j = c.jump.ensures in
    pair_first_code cs leaves size t w q.held lits q.traced q.full x c.second_variable.ensures.last q.leaf_lits q.fit t1 j.front.0 j.jumped j.front.1 j.values j.size j.open j.done j.next p c.last_pair-pair.ensures

pub add-requires-clause-second : goal.add-requires-clause-second
add-requires-clause-second c =
    let cs = c.args.clauses.now in
    let leaves = c.args.leaves in
    let t = c.args.trail.now in
    let w = c.args.watches.now in
    let size = length t.values.items in
    let q = c.requires in
    let lits = c.args.lits.now in
    let p : Pair = c.last_pair-pair.result in
    let x : ℕ = c.second_variable.result in
    let t1 = c.jump.new.trail in
    let j = c.jump.ensures in
    pair_second_code cs leaves size t w q.held lits q.traced q.full x c.second_variable.ensures.last q.leaf_lits q.fit t1 j.front.0 j.jumped j.front.1 j.values j.size j.open j.done j.next p c.last_pair-pair.ensures

pub returns-clause-held : goal.returns-clause-held
returns-clause-held c =
    let cs = c.args.clauses.now in
    let leaves = c.args.leaves in
    let t = c.args.trail.now in
    let w = c.args.watches.now in
    let size = length t.values.items in
    let q = c.requires in
    let lits = c.args.lits.now in
    let p : Pair = c.last_pair-pair.result in
    let x : ℕ = c.second_variable.result in
    let t1 = c.jump.new.trail in
    let j = c.jump.ensures in
    let t2 = c.push-2.new.self in
    let e = c.in_ok-push-2.ensures in
    let place : c.len-place.result ≡ length cs = c.len-place.ensures in
    let me : t2.marks ≡ t1.marks ++ record { lit = p.first; reason = length cs + 1 } ∷ [] =
    e.marks ∙ ap (λ (n : ℕ). t1.marks ++ record { lit = p.first; reason = n + 1 } ∷ []) place in
    let room1 = pair_first_code cs leaves size t w q.held lits q.traced q.full x c.second_variable.ensures.last q.leaf_lits q.fit t1 j.front.0 j.jumped j.front.1 j.values j.size j.open j.done j.next p c.last_pair-pair.ensures in
    let room2 = pair_second_code cs leaves size t w q.held lits q.traced q.full x c.second_variable.ensures.last q.leaf_lits q.fit t1 j.front.0 j.jumped j.front.1 j.values j.size j.open j.done j.next p c.last_pair-pair.ensures in
    let held = held_learned cs leaves size t w q.held lits q.traced q.full x c.second_variable.ensures.last q.leaf_lits q.fit t1 j.front.0 j.jumped j.front.1 j.values j.size j.open j.done j.next p c.last_pair-pair.ensures t2 c.add.new.self me e.values e.done e.next room1 room2 c.in_ok-add.ensures.lists c.in_ok-add.ensures.pairs in
    subst (λ (ds : List (List Lit)). IsHeld ds leaves size (length ds) t2 c.add.new.self) (sym c.in_ok-push.ensures)
    (subst (λ (n : ℕ). IsHeld (cs ++ lits ∷ []) leaves size n t2 c.add.new.self) (sym (length-append cs (lits ∷ []))) held)

use Rattle.std.proofs.Common.{◌≡◌, ℕ, ◌<◌, ◌≤◌, List, Option, Bool, None, length, sym, ap, subst, ◌∙◌, arith}
use Rattle.std.proofs.lemmas.Option.{MatchOption-at_none}
use Rattle.cnf_core.specs.Lit.{variable_of}
use Rattle.sat_core.specs.Sync.{reads, IsConflict}
use Rattle.sat_core.specs.Watch.{IsHeld}
use Rattle.sat_core.proofs.DecideLaws.{held_decided, held_full}
use Rattle.sat_core.proofs.searching.search.Goals as goal

pub returns-then-trail-leaves-clause-says : goal.returns-then-trail-leaves-clause-says
returns-then-trail-leaves-clause-says c =
    let cs = c.args.clauses.now in
    let leaves = c.args.leaves in
    let size = length c.args.trail.now.values.items in
    let t = c.propagate.new.trail in
    let w = c.propagate.new.watches in
    let i = c.loop-place.invariant in
    let h : IsHeld cs leaves size (length cs) t w =
    subst (λ (n : ℕ). IsHeld cs leaves size n t w) i.count_is (subst (λ (n : ℕ). IsHeld cs leaves n (length c.loop-place.watches.pairs.items) t w) i.size_is c.in_ok-place.ensures.held) in
    let all : t.done ≡ length t.marks = MatchOption-at_none (t.done ≡ length t.marks) (IsConflict cs (reads t.values.items)) c.in_default.is c.in_ok-place.ensures.says in
    let x : ℕ = c.open_leaf-trail.result in
    let o = c.open_leaf-trail.ensures in
    let read : c.as_slice.result.now ≡ t.values.items = c.as_slice.ensures.value in
    let below : (y : ℕ) → t.next ≤ y → y < x → reads t.values.items y ≡ None → ⊥ =
    λ (y : ℕ) (p : t.next ≤ y) (q : y < x) (e : reads t.values.items y ≡ None). o.given y p q (ap (λ (vs : List (Option Bool)). reads vs y) read ∙ e) in
    held_full cs leaves size t w h all x o.from below (omega arith)

pub loop-place-preserved : goal.loop-place-preserved
loop-place-preserved c =
    let cs = c.args.clauses.now in
    let leaves = c.args.leaves in
    let size = length c.args.trail.now.values.items in
    let t = c.propagate.new.trail in
    let w = c.propagate.new.watches in
    let i = c.loop-place.invariant in
    let h : IsHeld cs leaves size (length cs) t w =
    subst (λ (n : ℕ). IsHeld cs leaves size n t w) i.count_is (subst (λ (n : ℕ). IsHeld cs leaves n (length c.loop-place.watches.pairs.items) t w) i.size_is c.in_ok-place.ensures.held) in
    let all : t.done ≡ length t.marks = MatchOption-at_none (t.done ≡ length t.marks) (IsConflict cs (reads t.values.items)) c.in_default.is c.in_ok-place.ensures.says in
    let x : ℕ = c.open_leaf-trail.result in
    let o = c.open_leaf-trail.ensures in
    let read : c.as_slice.result.now ≡ t.values.items = c.as_slice.ensures.value in
    let below : (y : ℕ) → t.next ≤ y → y < x → reads t.values.items y ≡ None → ⊥ =
    λ (y : ℕ) (p : t.next ≤ y) (q : y < x) (e : reads t.values.items y ≡ None). o.given y p q (ap (λ (vs : List (Option Bool)). reads vs y) read ∙ e) in
    let leaf : x ≤ leaves = omega arith in
    let open_x : reads t.values.items x ≡ None = ap (λ (vs : List (Option Bool)). reads vs x) (sym read) ∙ o.«open» leaf in
    let room : variable_of c.of.result < length t.values.items = let s = h.size_is in let v = c.of.ensures.variable in let f = c.requires.leaves_fit in omega arith in
    let e = c.in_ok-push.ensures in
    held_decided cs leaves size t w h all x o.from below leaf open_x c.of.result c.of.ensures.variable c.of.ensures.sign c.push.new.self room e.marks e.values e.done e.next

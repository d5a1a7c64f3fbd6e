use Rattle.std.proofs.Common.{◌≡◌, ℕ, ◌<◌, List, Option, Bool, Some, length, slice_get, refl, sym, ap, subst, ◌∙◌, arith}
use Rattle.std.proofs.lemmas.Option.{slice_get_read}
use Rattle.cnf_core.specs.declared.lit.Lit.{Lit}
use Rattle.sat_core.specs.declared.watching.Pair.{Pair}
use Rattle.sat_core.specs.declared.visiting.Look.TheVariants.{Stays, Moves, Forces, Falsified}
use Rattle.sat_core.specs.Sync.{reads, Fits}
use Rattle.sat_core.specs.Watch.{code_of, list_at}
use Rattle.sat_core.specs.Looks.{LookSays}
use Rattle.sat_core.proofs.TurnLaws.{fits_of, turn_past, turn_stays, turn_conflict, turn_forces, turn_moves, move_shorter, move_other, move_room, force_room, read_clause}
use Rattle.sat_core.proofs.ListLaws.{read_list, read_place, at_list}
use Rattle.sat_core.proofs.visiting.take_turn.Goals as goal

pub returns-then-place-len-clause-says : goal.returns-then-place-len-clause-says
returns-then-place-len-clause-says c =
    let cs = c.args.clauses.now in
    let ps = c.args.watches.now.pairs.items in
    let lists = c.args.watches.now.lists.items in
    let vs = c.args.trail.now.values.items in
    let h = c.requires.visiting.held in
    let code : c.code.result ≡ code_of c.args.lit = c.code.ensures.value in
    let place = c.get-place.result in
    let within : code_of c.args.lit < length lists = at_list lists (code_of c.args.lit) c.args.at c.requires.at in
    let list : c.index.result.now ≡ list_at lists (code_of c.args.lit) = read_list lists c.index.result.now c.code.result (code_of c.args.lit) code within c.index.ensures in
    let on : slice_get (list_at lists (code_of c.args.lit)) c.args.at ≡ Some place = read_place (list_at lists (code_of c.args.lit)) c.index.result.now c.args.at place list c.requires.at c.get-place.ensures in
    (turn_past cs c.args.leaves (length vs) (length ps) c.args.trail.now c.args.watches.now c.args.lit c.args.at place c.requires.visiting on (omega arith), refl)

pub judge-requires-clause-fit : goal.judge-requires-clause-fit
judge-requires-clause-fit c =
    let cs = c.args.clauses.now in
    let ps = c.args.watches.now.pairs.items in
    let lists = c.args.watches.now.lists.items in
    let vs = c.args.trail.now.values.items in
    let h = c.requires.visiting.held in
    let code : c.code.result ≡ code_of c.args.lit = c.code.ensures.value in
    let place = c.get-place.result in
    let within : code_of c.args.lit < length lists = at_list lists (code_of c.args.lit) c.args.at c.requires.at in
    let list : c.index.result.now ≡ list_at lists (code_of c.args.lit) = read_list lists c.index.result.now c.code.result (code_of c.args.lit) code within c.index.ensures in
    let on : slice_get (list_at lists (code_of c.args.lit)) c.args.at ≡ Some place = read_place (list_at lists (code_of c.args.lit)) c.index.result.now c.args.at place list c.requires.at c.get-place.ensures in
    let p : Pair = c.index-pair.result.now in
    let cl : List Lit = c.clause.result.now in
    let there : slice_get cs place ≡ Some cl = c.clause.ensures in
    let pair : slice_get ps place ≡ Some p = slice_get_read ps (length ps) place p refl (omega arith) c.index-pair.ensures in
    subst (λ (n : ℕ). Fits n cl) (sym h.size_is ∙ sym (ap length c.as_slice.ensures.value)) (read_clause cs (length vs) place cl h.fit there)

pub judge-requires-clause-first : goal.judge-requires-clause-first
judge-requires-clause-first c =
    let cs = c.args.clauses.now in
    let ps = c.args.watches.now.pairs.items in
    let lists = c.args.watches.now.lists.items in
    let vs = c.args.trail.now.values.items in
    let h = c.requires.visiting.held in
    let code : c.code.result ≡ code_of c.args.lit = c.code.ensures.value in
    let place = c.get-place.result in
    let within : code_of c.args.lit < length lists = at_list lists (code_of c.args.lit) c.args.at c.requires.at in
    let list : c.index.result.now ≡ list_at lists (code_of c.args.lit) = read_list lists c.index.result.now c.code.result (code_of c.args.lit) code within c.index.ensures in
    let on : slice_get (list_at lists (code_of c.args.lit)) c.args.at ≡ Some place = read_place (list_at lists (code_of c.args.lit)) c.index.result.now c.args.at place list c.requires.at c.get-place.ensures in
    let p : Pair = c.index-pair.result.now in
    let cl : List Lit = c.clause.result.now in
    let there : slice_get cs place ≡ Some cl = c.clause.ensures in
    let pair : slice_get ps place ≡ Some p = slice_get_read ps (length ps) place p refl (omega arith) c.index-pair.ensures in
    let lt = fits_of cs (length vs) place cl p.first h.fit there (h.watched place cl p there pair).first_there in
    omega (arith, ap length c.as_slice.ensures.value)

pub judge-requires-clause-second : goal.judge-requires-clause-second
judge-requires-clause-second c =
    let cs = c.args.clauses.now in
    let ps = c.args.watches.now.pairs.items in
    let lists = c.args.watches.now.lists.items in
    let vs = c.args.trail.now.values.items in
    let h = c.requires.visiting.held in
    let code : c.code.result ≡ code_of c.args.lit = c.code.ensures.value in
    let place = c.get-place.result in
    let within : code_of c.args.lit < length lists = at_list lists (code_of c.args.lit) c.args.at c.requires.at in
    let list : c.index.result.now ≡ list_at lists (code_of c.args.lit) = read_list lists c.index.result.now c.code.result (code_of c.args.lit) code within c.index.ensures in
    let on : slice_get (list_at lists (code_of c.args.lit)) c.args.at ≡ Some place = read_place (list_at lists (code_of c.args.lit)) c.index.result.now c.args.at place list c.requires.at c.get-place.ensures in
    let p : Pair = c.index-pair.result.now in
    let cl : List Lit = c.clause.result.now in
    let there : slice_get cs place ≡ Some cl = c.clause.ensures in
    let pair : slice_get ps place ≡ Some p = slice_get_read ps (length ps) place p refl (omega arith) c.index-pair.ensures in
    let lt = fits_of cs (length vs) place cl p.second h.fit there (h.watched place cl p there pair).second_there in
    omega (arith, ap length c.as_slice.ensures.value)

pub change-requires-clause-to : goal.change-requires-clause-to
change-requires-clause-to c =
    let cs = c.args.clauses.now in
    let ps = c.args.watches.now.pairs.items in
    let lists = c.args.watches.now.lists.items in
    let vs = c.args.trail.now.values.items in
    let h = c.requires.visiting.held in
    let code : c.code.result ≡ code_of c.args.lit = c.code.ensures.value in
    let place = c.get-place.result in
    let within : code_of c.args.lit < length lists = at_list lists (code_of c.args.lit) c.args.at c.requires.at in
    let list : c.index.result.now ≡ list_at lists (code_of c.args.lit) = read_list lists c.index.result.now c.code.result (code_of c.args.lit) code within c.index.ensures in
    let on : slice_get (list_at lists (code_of c.args.lit)) c.args.at ≡ Some place = read_place (list_at lists (code_of c.args.lit)) c.index.result.now c.args.at place list c.requires.at c.get-place.ensures in
    let p : Pair = c.index-pair.result.now in
    let cl : List Lit = c.clause.result.now in
    let there : slice_get cs place ≡ Some cl = c.clause.ensures in
    let pair : slice_get ps place ≡ Some p = slice_get_read ps (length ps) place p refl (omega arith) c.index-pair.ensures in
    let said : LookSays (reads vs) cl p c.args.lit (Moves c.in-Moves.first c.in-Moves.second) = subst (λ (xs : List (Option Bool)). LookSays (reads xs) cl p c.args.lit (Moves c.in-Moves.first c.in-Moves.second)) c.as_slice.ensures.value c.in-Moves.ensures in
    move_room cs c.args.leaves (length vs) (length ps) c.args.trail.now c.args.watches.now c.args.lit c.args.at place c.requires.visiting on cl p there pair c.in-Moves.first c.in-Moves.second said c.code.ensures.above

pub change-requires-clause-other : goal.change-requires-clause-other
change-requires-clause-other c =
    let cs = c.args.clauses.now in
    let ps = c.args.watches.now.pairs.items in
    let lists = c.args.watches.now.lists.items in
    let vs = c.args.trail.now.values.items in
    let h = c.requires.visiting.held in
    let code : c.code.result ≡ code_of c.args.lit = c.code.ensures.value in
    let place = c.get-place.result in
    let within : code_of c.args.lit < length lists = at_list lists (code_of c.args.lit) c.args.at c.requires.at in
    let list : c.index.result.now ≡ list_at lists (code_of c.args.lit) = read_list lists c.index.result.now c.code.result (code_of c.args.lit) code within c.index.ensures in
    let on : slice_get (list_at lists (code_of c.args.lit)) c.args.at ≡ Some place = read_place (list_at lists (code_of c.args.lit)) c.index.result.now c.args.at place list c.requires.at c.get-place.ensures in
    let p : Pair = c.index-pair.result.now in
    let cl : List Lit = c.clause.result.now in
    let there : slice_get cs place ≡ Some cl = c.clause.ensures in
    let pair : slice_get ps place ≡ Some p = slice_get_read ps (length ps) place p refl (omega arith) c.index-pair.ensures in
    let said : LookSays (reads vs) cl p c.args.lit (Moves c.in-Moves.first c.in-Moves.second) = subst (λ (xs : List (Option Bool)). LookSays (reads xs) cl p c.args.lit (Moves c.in-Moves.first c.in-Moves.second)) c.as_slice.ensures.value c.in-Moves.ensures in
    move_other cs c.args.leaves (length vs) (length ps) c.args.trail.now c.args.watches.now c.args.lit c.args.at place c.requires.visiting on cl p there pair c.in-Moves.first c.in-Moves.second said c.code.ensures.above

pub push-requires : goal.push-requires
push-requires c =
    let cs = c.args.clauses.now in
    let ps = c.args.watches.now.pairs.items in
    let lists = c.args.watches.now.lists.items in
    let vs = c.args.trail.now.values.items in
    let h = c.requires.visiting.held in
    let code : c.code.result ≡ code_of c.args.lit = c.code.ensures.value in
    let place = c.get-place.result in
    let within : code_of c.args.lit < length lists = at_list lists (code_of c.args.lit) c.args.at c.requires.at in
    let list : c.index.result.now ≡ list_at lists (code_of c.args.lit) = read_list lists c.index.result.now c.code.result (code_of c.args.lit) code within c.index.ensures in
    let on : slice_get (list_at lists (code_of c.args.lit)) c.args.at ≡ Some place = read_place (list_at lists (code_of c.args.lit)) c.index.result.now c.args.at place list c.requires.at c.get-place.ensures in
    let p : Pair = c.index-pair.result.now in
    let cl : List Lit = c.clause.result.now in
    let there : slice_get cs place ≡ Some cl = c.clause.ensures in
    let pair : slice_get ps place ≡ Some p = slice_get_read ps (length ps) place p refl (omega arith) c.index-pair.ensures in
    let said : LookSays (reads vs) cl p c.args.lit (Forces c.in-Forces.other) = subst (λ (xs : List (Option Bool)). LookSays (reads xs) cl p c.args.lit (Forces c.in-Forces.other)) c.as_slice.ensures.value c.in-Forces.ensures in
    force_room cs c.args.leaves (length vs) (length ps) c.args.trail.now c.args.watches.now c.args.lit c.args.at place c.requires.visiting on cl p there pair c.in-Forces.other said

pub returns-in-Stays-clause-says : goal.returns-in-Stays-clause-says
returns-in-Stays-clause-says c =
    let cs = c.args.clauses.now in
    let ps = c.args.watches.now.pairs.items in
    let lists = c.args.watches.now.lists.items in
    let vs = c.args.trail.now.values.items in
    let h = c.requires.visiting.held in
    let code : c.code.result ≡ code_of c.args.lit = c.code.ensures.value in
    let place = c.get-place.result in
    let within : code_of c.args.lit < length lists = at_list lists (code_of c.args.lit) c.args.at c.requires.at in
    let list : c.index.result.now ≡ list_at lists (code_of c.args.lit) = read_list lists c.index.result.now c.code.result (code_of c.args.lit) code within c.index.ensures in
    let on : slice_get (list_at lists (code_of c.args.lit)) c.args.at ≡ Some place = read_place (list_at lists (code_of c.args.lit)) c.index.result.now c.args.at place list c.requires.at c.get-place.ensures in
    let p : Pair = c.index-pair.result.now in
    let cl : List Lit = c.clause.result.now in
    let there : slice_get cs place ≡ Some cl = c.clause.ensures in
    let pair : slice_get ps place ≡ Some p = slice_get_read ps (length ps) place p refl (omega arith) c.index-pair.ensures in
    let said : LookSays (reads vs) cl p c.args.lit Stays = subst (λ (xs : List (Option Bool)). LookSays (reads xs) cl p c.args.lit Stays) c.as_slice.ensures.value c.in-Stays.ensures in
    (turn_stays cs c.args.leaves (length vs) (length ps) c.args.trail.now c.args.watches.now c.args.lit c.args.at place c.requires.visiting on cl p there pair said.0 said.1, refl)

pub returns-in_ok-change-in-Moves-clause-says : goal.returns-in_ok-change-in-Moves-clause-says
returns-in_ok-change-in-Moves-clause-says c =
    let cs = c.args.clauses.now in
    let ps = c.args.watches.now.pairs.items in
    let lists = c.args.watches.now.lists.items in
    let vs = c.args.trail.now.values.items in
    let h = c.requires.visiting.held in
    let code : c.code.result ≡ code_of c.args.lit = c.code.ensures.value in
    let place = c.get-place.result in
    let within : code_of c.args.lit < length lists = at_list lists (code_of c.args.lit) c.args.at c.requires.at in
    let list : c.index.result.now ≡ list_at lists (code_of c.args.lit) = read_list lists c.index.result.now c.code.result (code_of c.args.lit) code within c.index.ensures in
    let on : slice_get (list_at lists (code_of c.args.lit)) c.args.at ≡ Some place = read_place (list_at lists (code_of c.args.lit)) c.index.result.now c.args.at place list c.requires.at c.get-place.ensures in
    let p : Pair = c.index-pair.result.now in
    let cl : List Lit = c.clause.result.now in
    let there : slice_get cs place ≡ Some cl = c.clause.ensures in
    let pair : slice_get ps place ≡ Some p = slice_get_read ps (length ps) place p refl (omega arith) c.index-pair.ensures in
    let said : LookSays (reads vs) cl p c.args.lit (Moves c.in-Moves.first c.in-Moves.second) = subst (λ (xs : List (Option Bool)). LookSays (reads xs) cl p c.args.lit (Moves c.in-Moves.first c.in-Moves.second)) c.as_slice.ensures.value c.in-Moves.ensures in
    let e = c.in_ok-change-in-Moves.ensures in (
      turn_moves cs c.args.leaves (length vs) (length ps) c.args.trail.now c.args.watches.now c.args.lit c.args.at place c.requires.visiting on cl p there pair c.in-Moves.first c.in-Moves.second said c.code.ensures.above c.change.new.self e.lists e.pairs within,
      move_shorter cs c.args.leaves (length vs) (length ps) c.args.trail.now c.args.watches.now c.args.lit c.args.at place c.requires.visiting on cl p there pair c.in-Moves.first c.in-Moves.second said c.code.ensures.above c.change.new.self e.lists e.pairs within,
    )

pub returns-in_ok-push-in-Forces-clause-says : goal.returns-in_ok-push-in-Forces-clause-says
returns-in_ok-push-in-Forces-clause-says c =
    let cs = c.args.clauses.now in
    let ps = c.args.watches.now.pairs.items in
    let lists = c.args.watches.now.lists.items in
    let vs = c.args.trail.now.values.items in
    let h = c.requires.visiting.held in
    let code : c.code.result ≡ code_of c.args.lit = c.code.ensures.value in
    let place = c.get-place.result in
    let within : code_of c.args.lit < length lists = at_list lists (code_of c.args.lit) c.args.at c.requires.at in
    let list : c.index.result.now ≡ list_at lists (code_of c.args.lit) = read_list lists c.index.result.now c.code.result (code_of c.args.lit) code within c.index.ensures in
    let on : slice_get (list_at lists (code_of c.args.lit)) c.args.at ≡ Some place = read_place (list_at lists (code_of c.args.lit)) c.index.result.now c.args.at place list c.requires.at c.get-place.ensures in
    let p : Pair = c.index-pair.result.now in
    let cl : List Lit = c.clause.result.now in
    let there : slice_get cs place ≡ Some cl = c.clause.ensures in
    let pair : slice_get ps place ≡ Some p = slice_get_read ps (length ps) place p refl (omega arith) c.index-pair.ensures in
    let said : LookSays (reads vs) cl p c.args.lit (Forces c.in-Forces.other) = subst (λ (xs : List (Option Bool)). LookSays (reads xs) cl p c.args.lit (Forces c.in-Forces.other)) c.as_slice.ensures.value c.in-Forces.ensures in
    let e = c.in_ok-push-in-Forces.ensures in
    (turn_forces cs c.args.leaves (length vs) (length ps) c.args.trail.now c.args.watches.now c.args.lit c.args.at place c.requires.visiting on cl p there pair c.in-Forces.other said c.push.new.self e.marks e.values e.done e.next, refl)

pub returns-in-Falsified-clause-says : goal.returns-in-Falsified-clause-says
returns-in-Falsified-clause-says c =
    let cs = c.args.clauses.now in
    let ps = c.args.watches.now.pairs.items in
    let lists = c.args.watches.now.lists.items in
    let vs = c.args.trail.now.values.items in
    let h = c.requires.visiting.held in
    let code : c.code.result ≡ code_of c.args.lit = c.code.ensures.value in
    let place = c.get-place.result in
    let within : code_of c.args.lit < length lists = at_list lists (code_of c.args.lit) c.args.at c.requires.at in
    let list : c.index.result.now ≡ list_at lists (code_of c.args.lit) = read_list lists c.index.result.now c.code.result (code_of c.args.lit) code within c.index.ensures in
    let on : slice_get (list_at lists (code_of c.args.lit)) c.args.at ≡ Some place = read_place (list_at lists (code_of c.args.lit)) c.index.result.now c.args.at place list c.requires.at c.get-place.ensures in
    let p : Pair = c.index-pair.result.now in
    let cl : List Lit = c.clause.result.now in
    let there : slice_get cs place ≡ Some cl = c.clause.ensures in
    let pair : slice_get ps place ≡ Some p = slice_get_read ps (length ps) place p refl (omega arith) c.index-pair.ensures in
    let said : LookSays (reads vs) cl p c.args.lit Falsified = subst (λ (xs : List (Option Bool)). LookSays (reads xs) cl p c.args.lit Falsified) c.as_slice.ensures.value c.in-Falsified.ensures in
    (h, turn_conflict cs c.args.leaves (length vs) (length ps) c.args.trail.now c.args.watches.now c.args.lit c.args.at place c.requires.visiting on cl p there pair said)

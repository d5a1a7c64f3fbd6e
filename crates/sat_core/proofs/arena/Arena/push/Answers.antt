use Rattle.std.proofs.Common.{◌≡◌, ◌++◌, ◌∷◌, [], List, ap, ◌∙◌, arith}
use Rattle.cnf_core.specs.declared.lit.Lit.{Lit}
use Rattle.sat_core.proofs.ArenaLaws.{pieces_whole}
use Rattle.sat_core.proofs.arena.Arena.push.Goals as goal

pub invariant_of-self-else-is_err : goal.invariant_of-self-else-is_err
invariant_of-self-else-is_err c =
    let le : c.extend_from_slice.new.self.items ≡ c.self.inside.lits.items ++ c.args.lits.now = c.in_ok-extend_from_slice.ensures.items in
    let ee : c.push.new.self.items ≡ c.self.inside.ends.items ++ c.len.result ∷ [] = grind arith in
    (pieces_whole c.self.inside.ends.items c.self.inside.lits.items c.args.lits.now c.push.new.self.items c.extend_from_slice.new.self.items c.len.result c.self.invariant le ee (omega (arith, c.len.ensures))).1

pub returns : goal.returns
returns c =
    let le : c.extend_from_slice.new.self.items ≡ c.self.inside.lits.items ++ c.args.lits.now = c.in_ok-extend_from_slice.ensures.items in
    let ee : c.push.new.self.items ≡ c.self.inside.ends.items ++ c.len.result ∷ [] = grind arith in
    (pieces_whole c.self.inside.ends.items c.self.inside.lits.items c.args.lits.now c.push.new.self.items c.extend_from_slice.new.self.items c.len.result c.self.invariant le ee (omega (arith, c.len.ensures))).0
    ∙ ap (λ (cs : List (List Lit)). cs ++ c.args.lits.now ∷ []) c.self.view_is

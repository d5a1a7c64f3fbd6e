use Rattle.std.proofs.Common.{ℕ, List, [], ◌∷◌, length, drop, sym, ap, ◌∙◌, arith, suc, add-one}
use Rattle.std.proofs.lemmas.List.{take_all, drop_all}
use Rattle.cnf_core.specs.Text.{parts}
use Rattle.cnf_core.specs.Separators.{ends}
use Rattle.cnf_core.proofs.PartLaws.{parts_cut, parts_whole}
use Rattle.cnf_core.proofs.text.cut.Goals as goal

pub returns-then-ends-clause-parts : goal.returns-then-ends-clause-parts
returns-then-ends-clause-parts c =
    let p = ends c.args.separator in
    let t = c.args.text.now in
    let i = c.loop-i.i in
    parts_cut p t i (omega arith) c.loop-i.invariant (sym c.ends.ensures ∙ c.if-ends.true)
    ∙ ap (λ (xs : List ℕ). xs ∷ parts p (drop (suc i) t)) (sym c.split_at.ensures.front)
    ∙ ap (λ (k : ℕ). c.split_at.result.0.now ∷ parts p (drop k t)) (sym (add-one i))
    ∙ ap (λ (xs : List ℕ). c.split_at.result.0.now ∷ parts p xs) (sym c.split_at-then-ends.ensures.back)

pub returns-clause-parts : goal.returns-clause-parts
returns-clause-parts c =
    let p = ends c.args.separator in
    let t = c.args.text.now in
    parts_whole p t c.requires (λ k lt. c.loop-i.invariant k (omega arith))
    ∙ ap (λ (xs : List ℕ). xs ∷ []) (sym (c.split_at-2.ensures.front ∙ take_all (length t) t (omega arith)))
    ∙ ap (λ (xs : List ℕ). c.split_at-2.result.0.now ∷ parts p xs) (sym (c.split_at-2.ensures.back ∙ drop_all (length t) t (omega arith)))

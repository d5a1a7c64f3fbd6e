-- Lists of references grow by one part, or by several.
use Rattle.std.proofs.Common.{◌≡◌, ℕ, ◌+◌, ◌<◌, Bool, true, false, not, List, [], ◌∷◌, ◌++◌, length, map, get_or, take, ap, refl, sym, ◌∙◌, Option, Some, None, MatchOption, ℤ, subst}
use Rattle.std.specs.Prelude.{is_some}
use Rattle.std.specs.Borrow.{Bor}
use Rattle.std.proofs.lemmas.List.{map-append, take_more, append_assoc, append-nil}
use Rattle.design_core.specs.declared.tree.DArm.{DArm, out-DArm}
use Rattle.design_core.specs.declared.tree.DExpr.{DExpr}
use Rattle.design_core.specs.declared.tree.DMatch.{DMatch, out-DMatch}
use Rattle.design_core.specs.declared.tree.DNode.TheVariants as node
use Rattle.tree_parts.specs.Parts.{IsNoSignal, items_of, operands_of, seen}
use Rattle.tree_parts.proofs.OperandLaws.{operands_of_signal}

module _ {X : Type 0} where
  pub pushed : (all news : List (Bor X)) (r : Bor X) (xs : List X) (x : X) → seen all ≡ xs → news ≡ all ++ r ∷ [] → r.now ≡ x → seen news ≡ xs ++ x ∷ []
  pushed all news r xs x had new is = ap seen new ∙ map-append (λ (y : Bor X). y.now) all (r ∷ []) ∙ ap (λ l. l ++ r.now ∷ []) had ∙ ap (λ y. xs ++ y ∷ []) is

  pub passed : (all news : List (Bor X)) (xs parts ys : List X) → seen all ≡ xs → seen news ≡ seen all ++ parts → parts ≡ ys → seen news ≡ xs ++ ys
  passed all news xs parts ys had new is = new ∙ ap (λ l. l ++ parts) had ∙ ap (λ l. xs ++ l) is

-- the answer to whether an expression is a signal
pub answered_none : (o : Option ℕ) (b : Bool) (x y : DExpr) → MatchOption o (IsNoSignal x) (λ s. x.node ≡ node.Signal s) → is_some o ≡ not b → b ≡ true → x ≡ y → IsNoSignal y
answered_none None b x y h some is e = subst IsNoSignal e h
answered_none (Some s) true x y h some is e = cc
answered_none (Some s) false x y h some is e = cc

pub answered_some : (e : DExpr) (y : DExpr) (low : ℤ) (o : Option ℕ) (b : Bool) (x : DExpr) → e.node ≡ node.Select y low → MatchOption o (IsNoSignal x) (λ s. x.node ≡ node.Signal s)
    → is_some o ≡ not b → b ≡ false → x ≡ y → operands_of e ≡ []
answered_some e y low None true x is h some false_is q = cc
answered_some e y low None false x is h some false_is q = cc
answered_some e y low (Some s) b x is h some false_is q = operands_of_signal e y low s is (ap (λ (z : DExpr). z.node) (sym q) ∙ h)

pub items-append : (xs ys : List DArm) → items_of (xs ++ ys) ≡ items_of xs ++ items_of ys
items-append [] ys = refl
items-append (a ∷ xs) ys = ap (λ l. map (λ (x : DMatch). (out-DMatch x).value) (out-DArm a).matches ++ l) (items-append xs ys)
    ∙ sym (append_assoc (map (λ (x : DMatch). (out-DMatch x).value) (out-DArm a).matches) (items_of xs) (items_of ys))

pub items_more : (olds all news : List (Bor DExpr)) (arms : List DArm) (at : ℕ) (d : DArm) (ms : List DMatch) → at < length arms → seen all ≡ seen olds ++ items_of (take at arms)
    → ms ≡ (out-DArm (get_or arms at d)).matches → seen news ≡ seen all ++ map (λ (x : DMatch). (out-DMatch x).value) ms → seen news ≡ seen olds ++ items_of (take (at + 1) arms)
items_more olds all news arms at d ms lt had is new =
    let vs = map (λ (x : DMatch). (out-DMatch x).value) (out-DArm (get_or arms at d)).matches in
    new ∙ ap (λ l. seen all ++ map (λ (x : DMatch). (out-DMatch x).value) l) is ∙ ap (λ l. l ++ vs) had
    ∙ append_assoc (seen olds) (items_of (take at arms)) vs
    ∙ ap (λ l. seen olds ++ l) (ap (λ l. items_of (take at arms) ++ l) (sym (append-nil vs)) ∙ sym (items-append (take at arms) (get_or arms at d ∷ [])) ∙ ap items_of (sym (take_more arms at d lt)))

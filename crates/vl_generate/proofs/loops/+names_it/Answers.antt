use Rattle.std.proofs.Common.{true, false, ◌||◌, ℕ, List, ◌∙◌, ap, sym, refl, arith}
use Rattle.vl_size.specs.Chains.{depth}
use Rattle.vl_size.specs.Terms.{term}
use Rattle.vl_size.proofs.ChainLaws.{depth_more}
use Rattle.vl_nets.proofs.Walks.{walked, walk_chain, walk_more, FromLeft}
use Rattle.vl_generate.specs.Turns.{names_it}
use Rattle.vl_generate.proofs.loops.+names_it.Goals as goal

from_left : (x : List ℕ) → FromLeft (λ t so_far. so_far || names_it x t)
from_left x op a b true = refl
from_left x op a b false = refl

pub names_it-operand_names_it-requires-2 : goal.names_it-operand_names_it-requires-2
names_it-operand_names_it-requires-2 t c =
    let falls = c.decreases in
    let h = c.in_ok-first.ensures.first in (omega (arith, falls, h), c.in_ok-first.ensures.operand)

pub names_it-names_it-requires : goal.names_it-names_it-requires
names_it-names_it-requires t c =
    let e = ap depth c.in-Some.ensures.items ∙ depth_more c.pop.new.self.items c.in-Some.link in
    let m = c.loop-link.invariant.smaller in
    let falls = c.decreases in (omega (arith, falls, e, m), tt)

pub names_it-loop-link-init : goal.names_it-loop-link-init
names_it-loop-link-init t c =
    let x = c.args.name.now in
    let links = c.in_ok-first.field-0.links.items in
    let first = c.in_ok-first.field-0.first.now in record {
      whole = ap (λ b. walked (λ u so_far. so_far || names_it x u) b links) c.in_ok-found.ensures ∙ sym (walk_chain (λ u so_far. so_far || names_it x u) (from_left x) (term first) false links)
          ∙ ap (names_it x) c.in_ok-first.ensures.whole;
      smaller = c.in_ok-first.ensures.others;
    }

pub names_it-loop-link-preserved : goal.names_it-loop-link-preserved
names_it-loop-link-preserved t c =
    let x = c.args.name.now in
    let links = c.pop.new.self.items in
    let link = c.in-Some.link in
    let e = ap depth c.in-Some.ensures.items ∙ depth_more links link in
    let d = c.loop-link.invariant.smaller in record {
      whole = ap (λ b. walked (λ u so_far. so_far || names_it x u) b links) (c.either-found.ensures ∙ ap (λ b. c.loop-link.found || b) c.in_ok-next.ensures)
          ∙ sym (walk_more (λ u so_far. so_far || names_it x u) c.loop-link.found links link)
          ∙ ap (walked (λ u so_far. so_far || names_it x u) c.loop-link.found) (sym c.in-Some.ensures.items) ∙ c.loop-link.invariant.whole;
      smaller = omega (arith, e, d);
    }

use Rattle.std.proofs.Common.{◌≡◌, ℕ, ◌+◌, true, false, List, sym, ◌∙◌, ap, subst, arith}
use Rattle.std.proofs.lemmas.Result.{on_ok_weaker}
use Rattle.item_order.specs.declared.spans.Span.{Span}
use Rattle.item_links.specs.Numbered.{AreBelow}
use Rattle.item_links.specs.Owned.{owns}
use Rattle.item_links.proofs.ReadLaws.{IsPut, put_all, put_cuts, put_passes}
use Rattle.item_links.proofs.reading.put_others.Goals as goal
use Rattle.item_links.proofs.reading.put_others.Goals.{then-is_own+in_ok-put_span, else-is_own}

pub loop-at-preserved : goal.loop-at-preserved
loop-at-preserved c =
    let drivers = c.args.drivers.now in
    let item = c.args.item in
    let p = c.args.span in
    let at = c.loop-at.at in
    let old = c.args.all.now.items in
    let was = c.loop-at.invariant in
    let Q : ℕ → List Span → Type 0 = λ f xs. IsPut drivers item p.from f (at + 1) old xs in
    elim c.if-is_own.branch [
      | then-is_own+in_ok-put_span w ↦ (
          let o : owns drivers item at ≡ true = sym c.is_own.ensures ∙ w.if-is_own.true in
          let done = w.in_ok-put_span.ensures {u = tt} in
          let all_is : c.if-is_own.all.items ≡ w.put_span.new.all.items = ap (λ v. v.items) w.all-is in
          let P : ℕ → Type 0 = λ f. Q f c.if-is_own.all.items in
          let R : List Span → Type 0 = λ xs. Q (at + 1) xs in
          record {
            put = subst P (sym w.from-is) (subst R (sym all_is) (put_cuts drivers item p.from c.loop-at.from at old c.loop-at.all.items w.put_span.new.all.items o was.put done.has));
            below = λ bits l b. subst (AreBelow bits) (sym all_is) (done.below bits (let h = c.loop-at-test.true in omega (arith, h, l)) (was.below bits l b));
          })
      | else-is_own w ↦ (
          let o : owns drivers item at ≡ false = sym c.is_own.ensures ∙ w.if-is_own.false in
          let all_is : c.if-is_own.all.items ≡ c.loop-at.all.items = ap (λ v. v.items) w.all-is in
          let P : ℕ → Type 0 = λ f. Q f c.if-is_own.all.items in
          let R : List Span → Type 0 = λ xs. Q c.loop-at.from xs in
          record {
            put = subst P (sym w.from-is) (subst R (sym all_is) (put_passes drivers item p.from c.loop-at.from at old c.loop-at.all.items o was.put));
            below = λ bits l b. subst (AreBelow bits) (sym all_is) (was.below bits l b);
          })
    ]

pub returns-clause-has : goal.returns-clause-has
returns-clause-has c =
    let drivers = c.args.drivers.now in
    let item = c.args.item in
    let p = c.args.span in
    let old = c.args.all.now.items in
    let end : c.loop-at.at ≡ p.to = (let h = c.loop-at-test.false in let k = c.loop-at.auto.at-end c.requires.some in omega (arith, h, k)) in
    let P : ℕ → Type 0 = λ to. IsPut drivers item p.from c.loop-at.from to old c.loop-at.all.items in
    on_ok_weaker c.put_span-2.result (λ h. λ n. put_all drivers item p.from c.loop-at.from p.to old c.loop-at.all.items c.put_span-2.new.all.items (subst P end c.loop-at.invariant.put) h n) c.put_span-2.ensures.has

pub returns-clause-below : goal.returns-clause-below
returns-clause-below c = on_ok_weaker c.put_span-2.result (λ h. λ bits l b. h bits l (c.loop-at.invariant.below bits l b)) c.put_span-2.ensures.below

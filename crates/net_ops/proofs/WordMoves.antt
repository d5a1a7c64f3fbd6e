-- Words that are moved stage by stage.
use Rattle.std.proofs.Common.{◌≡◌, ℕ, suc, ◌+◌, ◌-◌, ◌*◌, ◌^◌, ◌<◌, ◌≤◌, Bool, true, false, List, length, take, drop, get_or, ap, ap₂, refl, sym, subst, ◌∙◌, arith, if◌then◌else◌}
use Rattle.std.proofs.lemmas.List.{length-map, length-drop, drop-map, take_all}
use native.Mathlib.Numerals.{unary_clauses}
use Rattle.bits_core.specs.Places.{is_set}
use Rattle.bits_core.specs.Numbers.{number}
use Rattle.cyc_net.specs.declared.node.Node.{Node}
use Rattle.cyc_net.specs.Nets.{value, Gated}
use Rattle.cyc_net.proofs.NetLaws.{Gated-refl, Gated-trans}
use Rattle.net_ops.specs.Moves.{come, moved}
use Rattle.net_ops.specs.Words.{AreNodes, IsBit, IsWord, read}
use Rattle.net_ops.proofs.BuiltLaws.{same_read, later_read}
use Rattle.net_ops.proofs.MoveLaws.{length-moved, get-moved, staged, staged_end, staged_out}

-- the word of one stage
abbrev pub staged_word : List Node → Bool → ℕ → ℕ → ℕ → List ℕ → (ℕ → Bool) → List Bool
staged_word old left fill by test xs v = if value old v test then moved left (value old v fill) by (read old v xs) else read old v xs

module _ (old : List Node) (left : Bool) (fill by test : ℕ) (xs : List ℕ) where
  pub long_staged : (v : ℕ → Bool) → length (staged_word old left fill by test xs v) ≡ length xs
  long_staged v = cases (value old v test)
    where
      cases : (t : Bool) → length (if t then moved left (value old v fill) by (read old v xs) else read old v xs) ≡ length xs
      cases true = length-moved left (value old v fill) by (read old v xs) ∙ length-map xs (value old v)
      cases false = length-map xs (value old v)

  pub next_staged : (d now : List Node) (at made other x : ℕ) → fill < length old → test < length old → AreNodes old xs → Gated old d → at < length xs
      → IsBit d other (λ v. come left (value d v fill) by (read d v xs) at)
      → IsBit now made (λ v. if value d v test then value d v other else value d v (get_or xs at x))
      → IsBit now made (λ v. get_or (staged_word old left fill by test xs v) at false)
  next_staged d now at made other x fl tl a k lt is made_is = record {
    within = made_is.within;
    worth = λ v.
        let lx = length-map xs (value old v) in
        made_is.worth v
        ∙ ap₂ (λ p q. if value d v test then p else q)
        (is.worth v ∙ ap₂ (λ f r. come left f by r at) (k.same fill v fl) (same_read old d v xs k a) ∙ sym (get-moved left (value old v fill) by (read old v xs) at (omega arith)))
        (later_read old d v xs at x k a lt)
        ∙ ap (λ t. if t then get_or (moved left (value old v fill) by (read old v xs)) at false else get_or (read old v xs) at false) (k.same test v tl)
        ∙ inside (value old v test) (moved left (value old v fill) by (read old v xs)) (read old v xs);
  }
    where
      inside : (t : Bool) (ys zs : List Bool) → (if t then get_or ys at false else get_or zs at false) ≡ get_or (if t then ys else zs) at false
      inside true ys zs = refl
      inside false ys zs = refl

-- the word so far, moved by what the bits from here on count, is the whole word moved
pub record Shifting (old : List Node) (left : Bool) (fill : ℕ) (xs ys : List ℕ) (now : List Node) (word : List ℕ) (at step : ℕ) : Type 0 where
  pub kept : Gated old now
  pub are : AreNodes now word
  pub long : length word ≡ length xs
  pub within : at ≤ length ys
  pub power : step ≡ 2 ^ at
  pub rest : (v : ℕ → Bool) → moved left (value old v fill) (2 ^ at * number (drop at (read old v ys))) (read now v word)
      ≡ moved left (value old v fill) (number (read old v ys)) (read old v xs)

module _ (old : List Node) (left : Bool) (fill : ℕ) (xs ys : List ℕ) where
  pub Shifting-start : (word : List ℕ) → AreNodes old xs → word ≡ xs → Shifting old left fill xs ys old word 0 1
  Shifting-start word a e = subst (λ w. Shifting old left fill xs ys old w 0 1) (sym e) (record {
    kept = Gated-refl old;
    are = a;
    long = refl;
    within = omega arith;
    power = refl;
    rest = λ v. ap (λ n. moved left (value old v fill) n (read old v xs)) (let h : 2 ^ 0 * number (read old v ys) ≡ number (read old v ys) = omega arith in h);
  })

  pub Shifting-step : (d now : List Node) (word lent more : List ℕ) (at step more_step y : ℕ) → fill < length old → AreNodes old ys → at < length ys → lent ≡ word
      → Shifting old left fill xs ys d word at step → Gated d now → more_step ≡ step * 2
      → IsWord now more (length lent) (λ v. staged_word d left fill step (get_or ys at y) lent v)
      → Shifting old left fill xs ys now more (at + 1) more_step
  Shifting-step d now word lent more at step more_step y fl b lt e inv k twice made =
      let is = subst (λ w. IsWord now more (length w) (λ v. staged_word d left fill step (get_or ys at y) w v)) e made in
      record {
        kept = Gated-trans old d now inv.kept k;
        are = is.are;
        long = is.long ∙ inv.long;
        within = omega arith;
        power = let p = inv.power in twice ∙ ap (λ n. n * 2) p ∙ twice_power at;
        rest = λ v.
            let ly = length-map ys (value old v) in
            let f = inv.kept.same fill v fl in
            let p = inv.power in
            staged left (value old v fill) at step (value d v (get_or ys at y)) (read old v ys) (read d v word) (read now v more) _ (omega arith) p
            (later_read old d v ys at y inv.kept b lt)
            (is.reads v ∙ ap (λ g. if value d v (get_or ys at y) then moved left g step (read d v word) else read d v word) f)
            (inv.rest v);
      }
    where
      twice_power : (n : ℕ) → 2 ^ n * 2 ≡ 2 ^ (n + 1)
      twice_power n = let e : 2 ^ suc n ≡ 2 ^ n * 2 = simp unary_clauses (omega arith) in sym e ∙ ap (λ k. 2 ^ k) (let h : suc n ≡ n + 1 = omega arith in h)

  pub Shifting-done : (now : List Node) (word : List ℕ) (at step : ℕ) → at ≡ length ys → Shifting old left fill xs ys now word at step
      → IsWord now word (length xs) (λ v. moved left (value old v fill) (number (read old v ys)) (read old v xs))
  Shifting-done now word at step e inv = record {
    are = inv.are;
    long = inv.long;
    reads = λ v. let ly = length-map ys (value old v) in staged_out left (value old v fill) at (read old v ys) (read now v word) _ (omega arith) (inv.rest v);
  }

  pub Shifting-end : (d t now : List Node) (word lent more : List ℕ) (at step past : ℕ) → fill < length old → AreNodes old ys → length xs ≤ step → lent ≡ word
      → Shifting old left fill xs ys d word at step → Gated d t
      → IsBit t past (λ v. is_set (read d v (take (length ys - at) (drop at ys))))
      → IsWord now more (length lent) (λ v. staged_word t left fill (length xs) past lent v)
      → IsWord now more (length xs) (λ v. moved left (value old v fill) (number (read old v ys)) (read old v xs))
  Shifting-end d t now word lent more at step past fl b le e inv k any made =
      let is = subst (λ w. IsWord now more (length w) (λ v. staged_word t left fill (length xs) past w v)) e made in
      record {
        are = is.are;
        long = is.long ∙ inv.long;
        reads = λ v.
            let p = inv.power in
            let f = (Gated-trans old d t inv.kept k).same fill v fl in
            staged_end left (value old v fill) (value t v past) at step (length xs) (read old v ys) (read d v word) (read now v more) _ p le
            (length-map word (value d v) ∙ inv.long) (any.worth v ∙ ap (λ r. is_set (read d v r)) (take_all (length ys - at) (drop at ys) (let l = length-drop at ys in omega (arith, l))) ∙ ap is_set (sym (drop-map (value d v) at ys)) ∙ ap (λ r. is_set (drop at r)) (same_read old d v ys inv.kept b))
            (is.reads v ∙ ap₂ (λ g r. if value t v past then moved left g (length xs) r else r) f (same_read d t v word k inv.are))
            (inv.rest v);
      }

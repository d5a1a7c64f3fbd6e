-- Words of nodes place by place.
use Rattle.std.proofs.Common.{◌≡◌, ℕ, zero, suc, ◌∷◌, ◌<◌, ◌≤◌, Bool, false, List, [], length, get_or, refl, sym, ap, subst, ◌∙◌, arith}
use Rattle.std.proofs.lemmas.List.{length-map}
use Rattle.std.proofs.lemmas.List.FromFn.{fill_by_all, get_or-map-range_with_len, length-map-range_with_len}
use Rattle.std.specs.Prelude.{Result, IfOk}
use Rattle.std.proofs.lemmas.Result.{IfOk-weaker}
use Rattle.bits_core.specs.Places.{bit_at, by_place}
use Rattle.cyc_net.specs.declared.node.Node.{Node}
use Rattle.cyc_net.specs.Nets.{value}
use Rattle.net_ops.specs.Words.{AreNodes, IsBit, IsWord, read}
use Rattle.net_ops.proofs.BuiltLaws as b

past : (xs : List Bool) (k : ℕ) → length xs ≤ k → get_or xs k false ≡ false
past [] k le = refl
past (x ∷ xs) zero le = absurd (omega arith)
past (x ∷ xs) (suc k) le = past xs k (omega arith)

module _ (net : List Node) (xs : List ℕ) where
  pub at_place : (n k d : ℕ) → AreNodes net xs → k < length xs → n ≡ get_or xs k d → IsBit net n (λ v. bit_at (read net v xs) k)
  at_place n k d h lt e = record {
    within = subst (λ m. m < length net) (sym e) (h k d lt);
    worth = λ v. ap (value net v) e ∙ sym (b.get_read net v xs k d lt);
  }

  pub past_the_end : (n k : ℕ) → length xs ≤ k → n < length net → ((v : ℕ → Bool) → value net v n ≡ false) → IsBit net n (λ v. bit_at (read net v xs) k)
  past_the_end n k le lt z = record { within = lt; worth = λ v. z v ∙ sym (past (read net v xs) k (let l = length-map xs (value net v) in omega arith)) }

-- a word made place by place
module _ (net : List Node) (len : ℕ) (bit : (ℕ → Bool) → ℕ → Bool) where
  pub next_place : (at n : ℕ) → at < len → IsBit net n (λ v. bit v at) → IsBit net n (λ v. get_or (by_place len (bit v)) at false)
  next_place at n lt is = record { within = is.within; worth = λ v. is.worth v ∙ sym (get_or-map-range_with_len (bit v) 0 len at at false lt (omega arith)) }

  pub long_places : (v : ℕ → Bool) → length (by_place len (bit v)) ≡ len
  long_places v = length-map-range_with_len (bit v) 0 len

-- a list is its bits place by place
pub by_its_places : (xs : List Bool) → by_place (length xs) (bit_at xs) ≡ xs
by_its_places xs = sym (fill_by_all (bit_at xs) xs (length xs) false refl (λ k l. refl))

pub constant_word : {E : Type 0} (net : List Node) (bits : List Bool) (n : ℕ) (r : Result (List ℕ) E) → n ≡ length bits → IfOk r (λ xs. IsWord net xs n (λ v. by_place n (bit_at bits))) → IfOk r (λ xs. IsWord net xs (length bits) (λ v. bits))
constant_word net bits n r e h = IfOk-weaker r _ _ (λ xs w. record { are = w.are; long = w.long ∙ e; reads = λ v. w.reads v ∙ ap (λ m. by_place m (bit_at bits)) e ∙ by_its_places bits }) h

-- Words of nodes as values of a domain that has a net.
use Rattle.std.proofs.Common.{◌≡◌, ℕ, Bool, List, length, refl, ap, ap₂, ◌∙◌, cond}
use Rattle.std.specs.Prelude.{Result, IfOk}
use Rattle.std.proofs.lemmas.Result.{IfOk-weaker}
use Rattle.bits_core.specs.Places.{is_set}
use Rattle.cyc_net.specs.declared.node.Node.{Node}
use Rattle.cyc_net.specs.Nets.{value, has_leaf, Gated}
use Rattle.design_core.specs.Operators.{chosen}
use Rattle.value_domain.specs.Meaning.{Meaning, Stands, Keeps}
use Rattle.net_ops.specs.Words.{AreNodes, IsBit, IsWord, read}
use Rattle.net_ops.proofs.BuiltLaws.{still_nodes, same_read}

module _ {S : Type 0} (net : S → List Node) where
  abbrev pub meant : Meaning S (List ℕ)
  meant = record { width = length {A = ℕ}; is_value = λ d x. AreNodes (net d) x; reads = λ d v x. read (net d) v x; base = λ d i. has_leaf (net d) i }

  pub stands : (now : S) (x : List ℕ) (n : ℕ) (bits : (ℕ → Bool) → List Bool) → IsWord (net now) x n bits → Stands meant now x n bits
  stands now x n bits w = record { is_one = w.are; wide = w.long; reads_as = w.reads }

  pub made : {E : Type 0} (now : S) (r : Result (List ℕ) E) (n : ℕ) (bits : (ℕ → Bool) → List Bool) → IfOk r (λ x. IsWord (net now) x n bits) → IfOk r (λ x. Stands meant now x n bits)
  made now r n bits h = IfOk-weaker r _ _ (λ x w. stands now x n bits w) h

  pub keeps : (old now : S) → Gated (net old) (net now) → Keeps meant old now
  keeps old now k = record { still = λ x h. still_nodes (net old) (net now) x k h; same = λ x v h. same_read (net old) (net now) v x k h; based = k.leaves }

  pub copied : {E : Type 0} (now : S) (r : Result (List ℕ) E) (a : List ℕ) → AreNodes (net now) a → IfOk r (λ x. x ≡ a) → IfOk r (λ x. Stands meant now x (length a) (λ v. read (net now) v a))
  copied now r a h e = IfOk-weaker r _ _ (λ x is. rw is (record { is_one = h; wide = refl; reads_as = λ v. refl })) e

  pub muxed : {E : Type 0} (old : S) (mid : List Node) (now : S) (r : Result (List ℕ) E) (c a b : List ℕ) (test : ℕ) → Gated (net old) mid → AreNodes (net old) a → AreNodes (net old) b
      → IsBit mid test (λ v. is_set (read (net old) v c))
      → IfOk r (λ x. IsWord (net now) x (length a) (λ v. cond (value mid v test) (read mid v a) (read mid v b)))
      → IfOk r (λ x. Stands meant now x (length a) (λ v. chosen (read (net old) v c) (read (net old) v a) (read (net old) v b)))
  muxed old mid now r c a b test k ha hb is h = IfOk-weaker r _ _ (λ x w. record {
    is_one = w.are;
    wide = w.long;
    reads_as = λ v. w.reads v ∙ ap (λ t. cond t (read mid v a) (read mid v b)) (is.worth v)
        ∙ ap₂ (λ p q. cond (is_set (read (net old) v c)) p q) (same_read (net old) mid v a k ha) (same_read (net old) mid v b k hb);
  }) h

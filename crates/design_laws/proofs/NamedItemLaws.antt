-- A renamed item is the same cell under names.
use Rattle.std.proofs.Common.{◌≡◌, ℕ, Bool, true, false, ◌||◌, if◌then◌else◌, inl, inr, refl, ap, ap₂}
use Rattle.design_core.specs.declared.place.BitRef.{BitRef}
use Rattle.design_core.specs.Core.{Assignment, Stmt, write, St, exec, drives}
use Rattle.design_core.specs.Renamed.{moved, renamed_stmt}
use Rattle.design_core.proofs.BoolLaws.{or_cases}
use Rattle.design_core.proofs.RenameLaws.{exec_renamed, drives_renamed, drives_image}
use Rattle.design_core.specs.Items.{CoreItem, assign, comb, clocked, reset_by, start, reset_holds, cell_of, renamed_item}
use Rattle.design_core.specs.Names.{IsNamed}

reset_renamed : (r : BitRef) (asserted : Bool) (ρ : ℕ → ℕ) (σ : Assignment) → reset_holds (moved ρ r) asserted σ ≡ reset_holds r asserted (λ a. σ (moved ρ a))
reset_renamed r true ρ σ = refl
reset_renamed r false ρ σ = refl

if_same3 : (p q : Bool) (x y x' y' : Bool) → p ≡ q → x ≡ x' → y ≡ y' → (if p then x else y) ≡ (if q then x' else y')
if_same3 true true x y x' y' e h k = h
if_same3 false false x y x' y' e h k = k
if_same3 true false x y x' y' e h k = cc
if_same3 false true x y x' y' e h k = cc

module _ (ρ β : ℕ → ℕ) (injective : (j k : ℕ) → ρ j ≡ ρ k → j ≡ k) (returns : (k : ℕ) → β (ρ k) ≡ k) where
  now_named : (body : Stmt) (s σ : Assignment) (b : BitRef)
      → (exec (renamed_stmt ρ body) (start s σ)).now (moved ρ b) ≡ (exec body (start (λ a. s (moved ρ a)) (λ a. σ (moved ρ a)))).now b
  now_named body s σ b = ap (λ (t : St). t.now b) (exec_renamed ρ injective body (start s σ))

  later_named : (body : Stmt) (s σ : Assignment) (b : BitRef)
      → (exec (renamed_stmt ρ body) (start s σ)).later (moved ρ b) ≡ (exec body (start (λ a. s (moved ρ a)) (λ a. σ (moved ρ a)))).later b
  later_named body s σ b = ap (λ (t : St). t.later b) (exec_renamed ρ injective body (start s σ))

  pub named_item : (x : CoreItem) → IsNamed (moved ρ) (moved β) (cell_of x) (cell_of (renamed_item ρ x))
  named_item (assign l e) = record {
    drives_same = drives_renamed ρ injective (write l e true);
    drives_in = drives_image ρ injective β returns (write l e true);
    clocked_same = refl;
    within_same = now_named (write l e true);
    after_same = λ s σ b. refl;
  }
  named_item (comb body) = record {
    drives_same = drives_renamed ρ injective body;
    drives_in = drives_image ρ injective β returns body;
    clocked_same = refl;
    within_same = now_named body;
    after_same = λ s σ b. refl;
  }
  named_item (clocked body) = record {
    drives_same = drives_renamed ρ injective body;
    drives_in = drives_image ρ injective β returns body;
    clocked_same = refl;
    within_same = λ s σ b. refl;
    after_same = later_named body;
  }
  named_item (reset_by r asserted branch body) = record {
    drives_same = λ b. ap₂ (λ p q. p || q) (drives_renamed ρ injective branch b) (drives_renamed ρ injective body b);
    drives_in = λ n h. elim (or_cases (drives (renamed_stmt ρ branch) n) (drives (renamed_stmt ρ body) n) h) [
      | inl k ↦ drives_image ρ injective β returns branch n k
      | inr k ↦ drives_image ρ injective β returns body n k
    ];
    clocked_same = refl;
    within_same = λ s σ b. if_same3 (reset_holds (moved ρ r) asserted σ) (reset_holds r asserted (λ a. σ (moved ρ a)))
        ((exec (renamed_stmt ρ branch) (start s σ)).later (moved ρ b)) (s (moved ρ b))
        ((exec branch (start (λ a. s (moved ρ a)) (λ a. σ (moved ρ a)))).later b) (s (moved ρ b))
        (reset_renamed r asserted ρ σ) (later_named branch s σ b) refl;
    after_same = λ s σ b. if_same3 (reset_holds (moved ρ r) asserted σ) (reset_holds r asserted (λ a. σ (moved ρ a)))
        ((exec (renamed_stmt ρ branch) (start s σ)).later (moved ρ b)) ((exec (renamed_stmt ρ body) (start s σ)).later (moved ρ b))
        ((exec branch (start (λ a. s (moved ρ a)) (λ a. σ (moved ρ a)))).later b) ((exec body (start (λ a. s (moved ρ a)) (λ a. σ (moved ρ a)))).later b)
        (reset_renamed r asserted ρ σ) (later_named branch s σ b) (later_named body s σ b);
  }

-- Checked items are lawful cells.
use Rattle.std.proofs.Common.{◌≡◌, ℕ, Bool, true, false, not, ◌&&◌, if◌then◌else◌, inl, inr, refl, sym, ◌∙◌, ap, ap₂, arith}
use Rattle.std.specs.Prelude.{◌==◌}
use Rattle.std.proofs.lemmas.Bool.Decides.{nat_tests}
use Rattle.std.proofs.Math.Path.{fun_ext}
use Rattle.design_core.specs.declared.place.BitRef.{BitRef}
use Rattle.design_core.specs.Core.{Assignment, bit, same_bit, Stmt, write, St, exec, stmt_reads, drives, known, ReadsKnown}
use Rattle.design_core.proofs.BoolLaws.{or_left, or_right, both_true, true_both, not_both, either}
use Rattle.design_core.proofs.FrameLaws.{Same, reads_known, exec_frame, exec_keeps}
use Rattle.design_core.proofs.CoverLaws.{completed}
use Rattle.design_core.specs.Cells.{IsLawful, Holds}
use Rattle.design_core.specs.Items.{CoreItem, assign, comb, clocked, reset_by, start, reset_holds, cell_of, IsGood}

same_number : (k : ℕ) → (k == k) ≡ true
same_number k = grind (arith, nat_tests)

number_is : (a b : ℕ) → (a == b) ≡ true → a ≡ b
number_is a b h = grind (arith, nat_tests)

pub same_bit_self : (a : BitRef) → same_bit a a ≡ true
same_bit_self a = true_both (a.signal == a.signal) (a.bit == a.bit) (same_number a.signal) (same_number a.bit)

pub same_bit_is : (a b : BitRef) → same_bit a b ≡ true → a ≡ b
same_bit_is a b h = let p = both_true (a.signal == b.signal) (a.bit == b.bit) h in
    ap₂ bit (number_is a.signal b.signal p.0) (number_is a.bit b.bit p.1)

-- what a body stores at b depends on what it reads and on what was stored there
pub later_same : (body : Stmt) (s t σ τ : Assignment) (b : BitRef) → Same (stmt_reads body) σ τ → s b ≡ t b
    → (exec body (start s σ)).later b ≡ (exec body (start t τ)).later b
later_same body s t σ τ b h e =
    let C : BitRef → Bool = λ a. same_bit a b in
    (exec_frame body (stmt_reads body) C (start s σ) (start t τ) (reads_known body (stmt_reads body) (λ a r. r))
    (record { now_same = h; later_same = λ a r. ap s (same_bit_is a b r) ∙ e ∙ sym (ap t (same_bit_is a b r)); locals_same = refl })).later_same b (same_bit_self b)

pub now_same : (body : Stmt) (A : BitRef → Bool) (s t σ τ : Assignment) (b : BitRef) → ReadsKnown body A → known body A b ≡ true → Same A σ τ
    → (exec body (start s σ)).now b ≡ (exec body (start t τ)).now b
now_same body A s t σ τ b fine k h =
    (exec_frame body A (λ a. false) (start s σ) (start t τ) fine (record { now_same = h; later_same = λ a r. cc; locals_same = refl })).now_same b k

pub reset_same : (r : BitRef) (asserted : Bool) (σ τ : Assignment) → σ r ≡ τ r → reset_holds r asserted σ ≡ reset_holds r asserted τ
reset_same r true σ τ h = h
reset_same r false σ τ h = ap not h

if_same : (p q : Bool) (x y x' y' : Bool) → p ≡ q → x ≡ x' → y ≡ y' → (if p then x else y) ≡ (if q then x' else y')
if_same true true x y x' y' e h k = h
if_same false false x y x' y' e h k = k
if_same true false x y x' y' e h k = cc
if_same false true x y x' y' e h k = cc

pub lawful : (x : CoreItem) → IsGood x → IsLawful (cell_of x)
lawful (assign l e) good = record {
  within_same = λ s t σ τ b d h k. now_same (write l e true) (stmt_reads (write l e true)) s t σ τ b
      (reads_known (write l e true) (stmt_reads (write l e true)) (λ a r. r)) (good b d) h;
  after_same = λ s t σ τ b d h k. k;
}
lawful (comb body) good = record {
  within_same = λ s t σ τ b d h k. ap (λ (u : St). u.now b) (sym (completed good.completes (start s σ)))
      ∙ now_same good.full (λ a. stmt_reads body a && not (drives body a)) s t σ τ b good.reads_known (good.all_written b d) h
      ∙ ap (λ (u : St). u.now b) (completed good.completes (start t τ));
  after_same = λ s t σ τ b d h k. k;
}
lawful (clocked body) good = record {
  within_same = λ s t σ τ b d h k. k refl;
  after_same = λ s t σ τ b d h k. later_same body s t σ τ b h k;
}
lawful (reset_by r asserted branch body) good = record {
  within_same = λ s t σ τ b d h k. if_same (reset_holds r asserted σ) (reset_holds r asserted τ)
      ((exec branch (start s σ)).later b) (s b) ((exec branch (start t τ)).later b) (t b)
      (reset_same r asserted σ τ (h r (same_bit_self r)))
      (later_same branch s t σ τ b (λ a q. not_both (stmt_reads branch a) q (good a)) (k refl)) (k refl);
  after_same = λ s t σ τ b d h k. if_same (reset_holds r asserted σ) (reset_holds r asserted τ)
      ((exec branch (start s σ)).later b) ((exec body (start s σ)).later b) ((exec branch (start t τ)).later b) ((exec body (start t τ)).later b)
      (reset_same r asserted σ τ (h r (or_left (same_bit r r) (stmt_reads body r) (same_bit_self r))))
      (later_same branch s t σ τ b (λ a q. not_both (stmt_reads branch a) q (good a)) k)
      (later_same body s t σ τ b (λ a q. h a (or_right (same_bit a r) (stmt_reads body a) q)) k);
}

-- a combinational body is settled where it leaves the assignment as it is
pub comb_settled : (body : Stmt) (s σ : Assignment) → (exec body (start s σ)).now ≡ σ → Holds (cell_of (comb body)) s σ
comb_settled body s σ h = record { gives = λ b d. sym (ap (λ (f : Assignment). f b) h) }

pub settled_comb : (body : Stmt) (s σ : Assignment) → Holds (cell_of (comb body)) s σ → (exec body (start s σ)).now ≡ σ
settled_comb body s σ h = fun_ext (λ b. elim (either (drives body b)) [
  | inl d ↦ sym (h.gives b d)
  | inr d ↦ (exec_keeps body (start s σ) b d).now_kept
])

use Rattle.std.proofs.Common.{◌≡◌, Bool, true, false, sym, ◌∙◌, ap, ◌||◌, inl, inr}
use Rattle.design_core.specs.declared.place.BitRef.{BitRef}
use Rattle.design_core.specs.Core.{Stmt, St, same_bit, stmt_reads}
use Rattle.design_core.proofs.BoolLaws.{or_left, or_right, or_cases}
use Rattle.design_core.proofs.FrameLaws.{Alike, value_frame, exec_frame, exec_keeps, known_more, reads_known}
use Rattle.design_laws.specs.Laws.{Follows}
use Rattle.design_laws.proofs.ItemLaws.{same_bit_self, same_bit_is}
use Rattle.design_laws.proofs.bodies_by_bits.Goals as goal

follows : (s : Stmt) (t u : St) → ((b : BitRef) → stmt_reads s b ≡ true → t.now b ≡ u.now b) → t.locals ≡ u.locals → Follows s t u
follows s t u h same = record {
  now_same = λ b e. (let A : BitRef → Bool = λ a. stmt_reads s a || same_bit a b in
      let w : Alike A (λ a. false) t u = record {
        now_same = λ a q. elim (or_cases (stmt_reads s a) (same_bit a b) q) [
          | inl r ↦ h a r
          | inr r ↦ (let i = same_bit_is a b r in ap t.now i ∙ e ∙ sym (ap u.now i))
        ];
        later_same = λ a q. cc;
        locals_same = same;
      } in
      (exec_frame s A (λ a. false) t u (reads_known s A (λ a r. or_left (stmt_reads s a) (same_bit a b) r)) w).now_same b
      (known_more s A b (or_right (stmt_reads s b) (same_bit b b) (same_bit_self b))));
  later_same = λ b e. (let C : BitRef → Bool = λ a. same_bit a b in
      let w : Alike (stmt_reads s) C t u = record {
        now_same = h;
        later_same = λ a q. (let i = same_bit_is a b q in ap t.later i ∙ e ∙ sym (ap u.later i));
        locals_same = same;
      } in
      (exec_frame s (stmt_reads s) C t u (reads_known s (stmt_reads s) (λ a r. r)) w).later_same b (same_bit_self b));
  locals_same = (let w : Alike (stmt_reads s) (λ a. false) t u = record { now_same = h; later_same = λ a q. cc; locals_same = same } in
      (exec_frame s (stmt_reads s) (λ a. false) t u (reads_known s (stmt_reads s) (λ a r. r)) w).locals_same);
}

pub returns : goal.returns
returns c = record {
  value = value_frame;
  exec = follows;
  drives = λ s t b h. (let k = exec_keeps s t b h in (k.now_kept, k.later_kept));
}

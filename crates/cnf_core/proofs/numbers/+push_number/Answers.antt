use Rattle.std.proofs.Common.{ℕ, ◌+◌, ◌%◌, ◌/◌, ◌++◌, [], ◌∷◌, List, sym, ap, ◌∙◌, arith, append_assoc}
use Rattle.std.specs.Fmt.{decimal}
use Rattle.std.proofs.lemmas.Fmt.{decimal_step}
use Rattle.cnf_core.proofs.NumberLaws.{digit_of_small}
use Rattle.cnf_core.proofs.numbers.+push_number.Goals as goal
use Rattle.cnf_core.proofs.numbers.+push_number.Goals.{then-value-ge10+in_ok-push_number, else-value-ge10}

pub returns : goal.returns
returns t c =
    let n = c.args.value in
    let old = c.args.out.now.items in
    let d : List ℕ = (48 + n % 10) ∷ [] in
    let start = c.in_ok-push.ensures.items in
    elim c.if-value-ge10.branch [
      | then-value-ge10+in_ok-push_number w ↦
          start ∙ rw w.out-is (ap (λ (xs : List ℕ). xs ++ d) w.in_ok-push_number.ensures
          ∙ append_assoc old (decimal (n / 10)) d ∙ ap (λ (xs : List ℕ). old ++ xs) (sym (decimal_step n (omega arith) (omega arith))))
      | else-value-ge10 w ↦
          start ∙ rw w.out-is (ap (λ (xs : List ℕ). old ++ xs) (digit_of_small n (omega arith)))
    ]

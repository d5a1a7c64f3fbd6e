-- The first fault of marks, taken from the last one up.
use Rattle.std.proofs.Common.{◌≡◌, ℕ, zero, suc, ◌+◌, ◌-◌, ◌<◌, ◌≤◌, List, ◌∷◌, length, drop, get_or, Option, ap, ◌∙◌, sym, arith}
use Rattle.std.proofs.Math.Seq.{drop-cons}
use Rattle.vl_tree.specs.declared.faults.Code.{Code}
use Rattle.vl_marks.specs.declared.marks.Mark.{Mark}
use Rattle.vl_marks.specs.Marks.{fault_at, names_at, first_fault, names_of}

-- the marks from the next one up
marks_from : (ks : List Mark) (d : ℕ) (k : Mark) → d < length ks → k ≡ get_or ks (length ks - 1 - d) k
    → drop (length ks - (d + 1)) ks ≡ k ∷ drop (length ks - d) ks
marks_from ks d k l is =
    let here : length ks - (d + 1) ≡ length ks - 1 - d = omega arith in
    let next : suc (length ks - 1 - d) ≡ length ks - d = omega (arith, l) in
    let within : length ks - 1 - d < length ks = omega (arith, l) in
    ap (λ n. drop n ks) here ∙ drop-cons ks (length ks - 1 - d) k within
    ∙ ap (λ x. x ∷ drop (suc (length ks - 1 - d)) ks) (sym is) ∙ ap (λ n. k ∷ drop n ks) next

pub fault_next : (names : List (List ℕ)) (ks : List Mark) (d : ℕ) (k : Mark) (later f : Option Code) (behind : List (List ℕ))
    → d < length ks → k ≡ get_or ks (length ks - 1 - d) k → later ≡ first_fault names (drop (length ks - d) ks)
    → behind ≡ names_of (drop (length ks - d) ks) → f ≡ fault_at names k later behind → f ≡ first_fault names (drop (length ks - (d + 1)) ks)
fault_next names ks d k later f behind l is e g h =
    h ∙ ap (λ x. fault_at names k x behind) e ∙ ap (λ xs. fault_at names k (first_fault names (drop (length ks - d) ks)) xs) g
    ∙ sym (ap (first_fault names) (marks_from ks d k l is))

pub names_next : (ks : List Mark) (d : ℕ) (k : Mark) (behind n : List (List ℕ)) → d < length ks → k ≡ get_or ks (length ks - 1 - d) k
    → behind ≡ names_of (drop (length ks - d) ks) → n ≡ names_at k behind → n ≡ names_of (drop (length ks - (d + 1)) ks)
names_next ks d k behind n l is g h = h ∙ ap (names_at k) g ∙ sym (ap names_of (marks_from ks d k l is))

pub fault_whole : (names : List (List ℕ)) (ks : List Mark) (d : ℕ) (f : Option Code) → length ks ≤ d → f ≡ first_fault names (drop (length ks - d) ks)
    → f ≡ first_fault names ks
fault_whole names ks d f l e = let none : length ks - d ≡ zero = omega (arith, l) in e ∙ ap (λ n. first_fault names (drop n ks)) none

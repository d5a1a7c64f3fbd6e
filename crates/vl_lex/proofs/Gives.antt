-- One call after the other.
use Rattle.std.proofs.Common.{◌≡◌, ℕ, suc, ◌+◌, ◌<◌, ◌≤◌, Result, Ok, Err, List, [], ◌∷◌, length, map, drop, get_or, refl, ap, sym, ◌∙◌, subst, add-one, arith}
use Rattle.std.proofs.Math.Seq.{drop-cons}
use Rattle.std.proofs.lemmas.List.{length-drop}
use Rattle.vl_tree.specs.declared.tokens.Token.{Token}
use Rattle.vl_tree.specs.declared.faults.Stop.TheVariants as stop
use Rattle.vl_lex.specs.declared.gate.Halt.{Halt}
use Rattle.vl_lex.specs.declared.gate.Halt.TheVariants as h
use Rattle.vl_lex.specs.Lexed.{view}
use Rattle.vl_lex.specs.Gate.{SGate, Reached, and_then, Ends, IsReason, reason_of, Gives, kept_one, kept_all}

-- the first call went through
pub gives_on : {X A B : Type 0} (r : Result X Halt) (new : B) (o : Reached A) (a : A) (f : A → Reached B) → o ≡ Ok a → Gives r new (f a) → Gives r new (and_then o f)
gives_on {B = B} r new o a f e g = let P : Reached B → Type 0 = λ z. Gives r new z in subst P (ap (λ z. and_then z f) (sym e)) g

-- the first call ended the walk
pub gives_end : {A B : Type 0} (e : Halt) (o : Reached A) (f : A → Reached B) → Ends e o → Ends e (and_then o f)
gives_end (h.Stop (stop.Fault x)) o f g = ap (λ z. and_then z f) g
gives_end (h.Stop (stop.Limit x)) o f g = ap (λ z. and_then z f) g
gives_end (h.Stop stop.NoMemory) o f g = tt
gives_end (h.Need x) o f g = ap (λ z. and_then z f) g

pub ends_as : {B : Type 0} (e : Halt) (o p : Reached B) → o ≡ p → Ends e o → Ends e p
ends_as {B = B} e o p q g = let P : Reached B → Type 0 = λ z. Ends e z in subst P q g

-- the outcome is another's
pub gives_as : {X B : Type 0} (r : Result X Halt) (new : B) (o p : Reached B) → o ≡ p → Gives r new o → Gives r new p
gives_as {B = B} r new o p e g = let P : Reached B → Type 0 = λ z. Gives r new z in subst P e g

-- the items from a place on begin with the item there
pub split_items : {A : Type 0} (xs : List A) (at : ℕ) (d x : A) → at < length xs → get_or xs at d ≡ x → drop at xs ≡ x ∷ drop (at + 1) xs
split_items xs at d x h g = drop-cons xs at d h ∙ (ap (λ z. z ∷ drop (suc at) xs) g ∙ ap (λ n. x ∷ drop n xs) (sym (add-one at)))

no_items : {A : Type 0} (xs : List A) → length xs ≡ 0 → xs ≡ []
no_items [] e = refl
no_items (x ∷ xs) e = absurd (omega arith)

pub none_behind : {A : Type 0} (xs : List A) (at : ℕ) → length xs ≤ at → drop at xs ≡ []
none_behind xs at h = no_items (drop at xs) (omega (arith, length-drop at xs))

pub kept_turn : (xs : List Token) (at : ℕ) (d x : Token) (g : SGate) → at < length xs → get_or xs at d ≡ x
    → kept_all (map view (drop at xs)) g ≡ and_then (kept_one g (view x)) (kept_all (map view (drop (at + 1) xs)))
kept_turn xs at d x g h e = ap (λ z. kept_all (map view z) g) (split_items xs at d x h e)

pub kept_over : (xs : List Token) (at : ℕ) (g : SGate) → length xs ≤ at → kept_all (map view (drop at xs)) g ≡ Ok g
kept_over xs at g h = ap (λ z. kept_all (map view z) g) (none_behind xs at h)

pub reason_itself : (e : Halt) → IsReason e e
reason_itself (h.Stop (stop.Fault x)) = refl
reason_itself (h.Stop (stop.Limit x)) = refl
reason_itself (h.Stop stop.NoMemory) = tt
reason_itself (h.Need x) = refl

pub flush_on : (o : Reached SGate) (n : SGate) (reason : Halt) → o ≡ Ok n → IsReason reason (reason_of o reason)
flush_on o n reason e = let P : Reached SGate → Type 0 = λ z. IsReason reason (reason_of z reason) in subst P (sym e) (reason_itself reason)

pub flush_end : (e : Halt) (o : Reached SGate) (reason : Halt) → Ends e o → IsReason e (reason_of o reason)
flush_end (h.Stop (stop.Fault x)) o reason g = ap (λ z. reason_of z reason) g
flush_end (h.Stop (stop.Limit x)) o reason g = ap (λ z. reason_of z reason) g
flush_end (h.Stop stop.NoMemory) o reason g = tt
flush_end (h.Need x) o reason g = ap (λ z. reason_of z reason) g

pub reason_ends : {S : Type 0} (e reason : Halt) (o : Reached S) → IsReason e reason → o ≡ Err reason → Ends e o
reason_ends (h.Stop (stop.Fault x)) reason o g q = q ∙ ap (λ z. Err z) g
reason_ends (h.Stop (stop.Limit x)) reason o g q = q ∙ ap (λ z. Err z) g
reason_ends (h.Stop stop.NoMemory) reason o g q = tt
reason_ends (h.Need x) reason o g q = q ∙ ap (λ z. Err z) g

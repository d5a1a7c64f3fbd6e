-- Lists of values that are made one after the other.
use Rattle.std.proofs.Common.{◌≡◌, ℕ, zero, suc, ◌+◌, ◌<◌, ◌≤◌, Bool, true, false, List, [], ◌∷◌, ◌++◌, length, map, get_or, take, replicate, ap, ap₂, refl, sym, subst, ◌∙◌, arith, All}
use Rattle.std.specs.Prelude.{nat_le}
use Rattle.std.proofs.lemmas.Bool.{leb-true}
use Rattle.std.proofs.lemmas.List.{length-map, get_or-map, map-append, take_more, take_all, append_assoc, append-nil}
use Rattle.std.proofs.lemmas.List.Elements.{All-push, All-nil}
use Rattle.bits_core.specs.Places.{extended}
use Rattle.design_core.specs.Core.{fitted, entered}
use Rattle.design_core.specs.Formed.{is_vector}
use Rattle.design_core.specs.Terms.{lengths}
use Rattle.design_core.specs.declared.tree.DLocal.{DLocal}
use Rattle.design_core.proofs.BoolLaws.{both_true}
use Rattle.value_domain.specs.declared.parts.Word.{Word}
use Rattle.value_domain.specs.Meaning.{Meaning, Stands, Keeps}
use Rattle.value_domain.specs.Words.{IsWord}
use Rattle.stmt_exec.specs.State.{Standing}
use Rattle.stmt_exec.specs.Runs.{IsListed}
use Rattle.stmt_exec.proofs.DomainLaws as d

pub fitted_more : (i : ℕ) (ns : List ℕ) (vs : List (List Bool)) → i < length ns → i < length vs → fitted (take (i + 1) ns) vs ≡ fitted (take i ns) vs ++ extended false (get_or ns i 0) (get_or vs i []) ∷ []
fitted_more i [] vs l h = absurd (omega (arith, l))
fitted_more i (n ∷ ns) [] l h = absurd (omega (arith, h))
fitted_more zero (n ∷ ns) (v ∷ vs) l h = (let e : zero + 1 ≡ suc zero = omega arith in ap (λ k. fitted (take k (n ∷ ns)) (v ∷ vs)) e)
fitted_more (suc i) (n ∷ ns) (v ∷ vs) l h =
    (let e : suc i + 1 ≡ suc (i + 1) = omega arith in ap (λ k. fitted (take k (n ∷ ns)) (v ∷ vs)) e)
    ∙ ap (λ r. extended false n v ∷ r) (fitted_more i ns vs (omega (arith, l)) (omega (arith, h)))

module _ {S V : Type 0} (m : Meaning S V) where
  pub standing_none : (d : S) → Standing m d [] [] (λ v. [])
  standing_none d = record { are = All-nil (m.is_value d); wide = refl; stand = λ v. refl }

  pub standing_push : (old new : S) (xs more : List V) (ns : List ℕ) (lists : (ℕ → Bool) → List (List Bool)) (x : V) (n : ℕ) (bits : (ℕ → Bool) → List Bool)
      → Standing m old xs ns lists → Keeps m old new → Stands m new x n bits → more ≡ xs ++ x ∷ []
      → Standing m new more (ns ++ n ∷ []) (λ v. lists v ++ bits v ∷ [])
  standing_push old new xs more ns lists x n bits h k s e = subst (λ o. Standing m new o (ns ++ n ∷ []) (λ v. lists v ++ bits v ∷ [])) (sym e) (record {
    are = All-push (m.is_value new) xs x (d.kept_all m old new xs k h.are) s.is_one;
    wide = map-append m.width xs (x ∷ []) ∙ ap₂ (λ l y. l ++ y ∷ []) h.wide s.wide;
    stand = λ v. map-append (m.reads new v) xs (x ∷ []) ∙ ap₂ (λ l y. l ++ y ∷ []) (d.kept_reads m old new v xs k h.are ∙ h.stand v) (s.reads_as v);
  })

  pub standing_same : (d : S) (xs : List V) (ns ms : List ℕ) (lists more : (ℕ → Bool) → List (List Bool)) → ns ≡ ms → ((v : ℕ → Bool) → lists v ≡ more v)
      → Standing m d xs ns lists → Standing m d xs ms more
  standing_same d xs ns ms lists more e f h = record { are = h.are; wide = h.wide ∙ e; stand = λ v. h.stand v ∙ f v }

  pub kept_words : (old new : S) (v : ℕ → Bool) (ws : List (Word V)) → Keeps m old new → All (IsWord m old) ws → map (λ (w : Word V). m.reads new v w.value) ws ≡ map (λ (w : Word V). m.reads old v w.value) ws
  kept_words old new v [] k h = refl
  kept_words old new v (w ∷ ws) k h = ap₂ (λ a b. a ∷ b) (k.same w.value v (h 0 w (omega arith)).is_one) (kept_words old new v ws k (λ i e l. h (suc i) e (omega (arith, l))))

  pub word_later : (old new : S) (w : Word V) → Keeps m old new → IsWord m old w → IsWord m new w
  word_later old new w k h = record { is_one = k.still w.value h.is_one; wide = h.wide; some = h.some }

  pub listed_push : (old new : S) (ws more : List (Word V)) (ns : List ℕ) (lists : (ℕ → Bool) → List (List Bool)) (w : Word V) (bits : (ℕ → Bool) → List Bool)
      → IsListed m old ws ns lists → Keeps m old new → Stands m new w.value w.length bits → 1 ≤ w.length → more ≡ ws ++ w ∷ []
      → IsListed m new more (ns ++ w.length ∷ []) (λ v. lists v ++ bits v ∷ [])
  listed_push old new ws more ns lists w bits h k s some e = subst (λ o. IsListed m new o (ns ++ w.length ∷ []) (λ v. lists v ++ bits v ∷ [])) (sym e) (record {
    are = All-push (IsWord m new) ws w (λ i e l. word_later old new (get_or ws i e) k (h.are i e l)) (record { is_one = s.is_one; wide = s.wide; some = some });
    long = map-append (λ (w : Word V). w.length) ws (w ∷ []) ∙ ap (λ l. l ++ w.length ∷ []) h.long;
    stand = λ v. map-append (λ (w : Word V). m.reads new v w.value) ws (w ∷ []) ∙ ap₂ (λ l y. l ++ y ∷ []) (kept_words old new v ws k h.are ∙ h.stand v) (s.reads_as v);
  })

  pub listed_same : (d : S) (xs : List (Word V)) (ns ms : List ℕ) (lists more : (ℕ → Bool) → List (List Bool)) → ns ≡ ms → ((v : ℕ → Bool) → lists v ≡ more v)
      → IsListed m d xs ns lists → IsListed m d xs ms more
  listed_same d xs ns ms lists more e f h = record { are = h.are; long = h.long ∙ e; stand = λ v. h.stand v ∙ f v }

pub vector_some : (n : ℕ) → is_vector n ≡ true → 1 ≤ n
vector_some n h = leb-true 1 n (both_true (nat_le 1 n) (nat_le n 65536) h).0

pub vector_most : (n : ℕ) → is_vector n ≡ true → n ≤ 65536
vector_most n h = leb-true n 65536 (both_true (nat_le 1 n) (nat_le n 65536) h).1

pub local_fits : (xs : List DLocal) (k : ℕ) (x : DLocal) → k < length xs → All (λ n. is_vector n ≡ true) (lengths xs) → is_vector (get_or xs k x).length ≡ true
local_fits xs k x l h = let n = length-map xs (λ (y : DLocal). y.length) in
    subst (λ n. is_vector n ≡ true) (get_or-map (λ (y : DLocal). y.length) xs k x 0 l) (h k 0 (omega (arith, l, n)))

module _ {S V : Type 0} (m : Meaning S V) where
  -- one more argument as a local
  pub input_step : (d0 dn d1 : S) (size : ℕ) (inputs : List DLocal) (args : List (Word V)) (at : ℕ) (e : DLocal) (w : Word V) (x : V) (xs more : List V) → at < length inputs → length args ≡ length inputs
      → All (IsWord m d0) args → w ≡ get_or args at w → Keeps m d0 dn → Keeps m dn d1
      → Standing m dn xs (size ∷ take at (lengths inputs)) (λ v. replicate size false ∷ fitted (take at (lengths inputs)) (map (λ (w : Word V). m.reads d0 v w.value) args))
      → Stands m d1 x (get_or inputs at e).length (λ v. extended false (get_or inputs at e).length (m.reads dn v (get_or args at w).value)) → more ≡ xs ++ x ∷ []
      → Standing m d1 more (size ∷ take (at + 1) (lengths inputs)) (λ v. replicate size false ∷ fitted (take (at + 1) (lengths inputs)) (map (λ (w : Word V). m.reads d0 v w.value) args))
  input_step d0 dn d1 size inputs args at e w x xs more lt many all is k l h s p =
      let n = length-map inputs (λ (y : DLocal). y.length) in
      let g : get_or (lengths inputs) at 0 ≡ (get_or inputs at e).length = get_or-map (λ (y : DLocal). y.length) inputs at e 0 lt in
      let la : at < length args = omega (arith, lt, many) in
      standing_same m d1 more ((size ∷ take at (lengths inputs)) ++ (get_or inputs at e).length ∷ []) (size ∷ take (at + 1) (lengths inputs))
      (λ v. (replicate size false ∷ fitted (take at (lengths inputs)) (map (λ (w : Word V). m.reads d0 v w.value) args)) ++ extended false (get_or inputs at e).length (m.reads dn v (get_or args at w).value) ∷ [])
      (λ v. replicate size false ∷ fitted (take (at + 1) (lengths inputs)) (map (λ (w : Word V). m.reads d0 v w.value) args))
      (ap (λ r. size ∷ r) (ap (λ y. take at (lengths inputs) ++ y ∷ []) (sym g) ∙ sym (take_more (lengths inputs) at 0 (omega (arith, lt, n)))))
      (λ v. ap (λ r. replicate size false ∷ r)
      (ap₂ (λ y z. fitted (take at (lengths inputs)) (map (λ (w : Word V). m.reads d0 v w.value) args) ++ extended false y z ∷ []) (sym g)
      (k.same (get_or args at w).value v (all at w la).is_one ∙ sym (get_or-map (λ (w : Word V). m.reads d0 v w.value) args at w [] la))
      ∙ sym (fitted_more at (lengths inputs) (map (λ (w : Word V). m.reads d0 v w.value) args) (omega (arith, lt, n)) (let q = length-map args (λ (w : Word V). m.reads d0 v w.value) in omega (arith, la, q)))))
      (standing_push m dn d1 xs more (size ∷ take at (lengths inputs)) (λ v. replicate size false ∷ fitted (take at (lengths inputs)) (map (λ (w : Word V). m.reads d0 v w.value) args)) x (get_or inputs at e).length
      (λ v. extended false (get_or inputs at e).length (m.reads dn v (get_or args at w).value)) h l s p)

  pub inputs_end : (d : S) (size : ℕ) (inputs : List DLocal) (rest : List ℕ) (at : ℕ) (xs : List V) (vs : (ℕ → Bool) → List (List Bool)) → length inputs ≤ at
      → Standing m d xs (size ∷ take at (lengths inputs)) (λ v. replicate size false ∷ fitted (take at (lengths inputs)) (vs v))
      → Standing m d xs (size ∷ (lengths inputs ++ take 0 rest)) (λ v. replicate size false ∷ (fitted (lengths inputs) (vs v) ++ map (λ k. replicate k false) (take 0 rest)))
  inputs_end d size inputs rest at xs vs le h =
      let n = length-map inputs (λ (y : DLocal). y.length) in
      let t : take at (lengths inputs) ≡ lengths inputs = take_all at (lengths inputs) (omega (arith, le, n)) in
      standing_same m d xs (size ∷ take at (lengths inputs)) (size ∷ (lengths inputs ++ take 0 rest)) (λ v. replicate size false ∷ fitted (take at (lengths inputs)) (vs v))
      (λ v. replicate size false ∷ (fitted (lengths inputs) (vs v) ++ map (λ k. replicate k false) (take 0 rest)))
      (ap (λ r. size ∷ r) (t ∙ sym (append-nil (lengths inputs))))
      (λ v. ap (λ r. replicate size false ∷ r) (ap (λ y. fitted y (vs v)) t ∙ sym (append-nil (fitted (lengths inputs) (vs v))))) h

  -- one more local at 0
  pub rest_local : (dn d1 : S) (size : ℕ) (ins : List ℕ) (rest : List DLocal) (at : ℕ) (e : DLocal) (x : V) (xs more : List V) (vs : (ℕ → Bool) → List (List Bool)) → at < length rest → Keeps m dn d1
      → Standing m dn xs (size ∷ (ins ++ take at (lengths rest))) (λ v. replicate size false ∷ (fitted ins (vs v) ++ map (λ k. replicate k false) (take at (lengths rest))))
      → Stands m d1 x (get_or rest at e).length (λ v. replicate (get_or rest at e).length false) → more ≡ xs ++ x ∷ []
      → Standing m d1 more (size ∷ (ins ++ take (at + 1) (lengths rest))) (λ v. replicate size false ∷ (fitted ins (vs v) ++ map (λ k. replicate k false) (take (at + 1) (lengths rest))))
  rest_local dn d1 size ins rest at e x xs more vs lt k h s p =
      let n = length-map rest (λ (y : DLocal). y.length) in
      let g : get_or (lengths rest) at 0 ≡ (get_or rest at e).length = get_or-map (λ (y : DLocal). y.length) rest at e 0 lt in
      let t : take (at + 1) (lengths rest) ≡ take at (lengths rest) ++ (get_or rest at e).length ∷ [] = take_more (lengths rest) at 0 (omega (arith, lt, n)) ∙ ap (λ y. take at (lengths rest) ++ y ∷ []) g in
      standing_same m d1 more ((size ∷ (ins ++ take at (lengths rest))) ++ (get_or rest at e).length ∷ []) (size ∷ (ins ++ take (at + 1) (lengths rest)))
      (λ v. (replicate size false ∷ (fitted ins (vs v) ++ map (λ k. replicate k false) (take at (lengths rest)))) ++ replicate (get_or rest at e).length false ∷ [])
      (λ v. replicate size false ∷ (fitted ins (vs v) ++ map (λ k. replicate k false) (take (at + 1) (lengths rest))))
      (ap (λ r. size ∷ r) (append_assoc ins (take at (lengths rest)) ((get_or rest at e).length ∷ []) ∙ ap (λ y. ins ++ y) (sym t)))
      (λ v. ap (λ r. replicate size false ∷ r) (append_assoc (fitted ins (vs v)) (map (λ k. replicate k false) (take at (lengths rest))) (replicate (get_or rest at e).length false ∷ [])
      ∙ ap (λ y. fitted ins (vs v) ++ y) (sym (map-append (λ k. replicate k false) (take at (lengths rest)) ((get_or rest at e).length ∷ [])) ∙ ap (map (λ k. replicate k false)) (sym t))))
      (standing_push m dn d1 xs more (size ∷ (ins ++ take at (lengths rest))) (λ v. replicate size false ∷ (fitted ins (vs v) ++ map (λ k. replicate k false) (take at (lengths rest)))) x (get_or rest at e).length
      (λ v. replicate (get_or rest at e).length false) h k s p)

  pub locals_end : (d : S) (size : ℕ) (ins : List ℕ) (rest : List DLocal) (at : ℕ) (xs : List V) (vs : (ℕ → Bool) → List (List Bool)) → length rest ≤ at
      → Standing m d xs (size ∷ (ins ++ take at (lengths rest))) (λ v. replicate size false ∷ (fitted ins (vs v) ++ map (λ k. replicate k false) (take at (lengths rest))))
      → Standing m d xs (size ∷ (ins ++ lengths rest)) (λ v. entered size ins (lengths rest) (vs v))
  locals_end d size ins rest at xs vs le h =
      let n = length-map rest (λ (y : DLocal). y.length) in
      let t : take at (lengths rest) ≡ lengths rest = take_all at (lengths rest) (omega (arith, le, n)) in
      standing_same m d xs (size ∷ (ins ++ take at (lengths rest))) (size ∷ (ins ++ lengths rest)) (λ v. replicate size false ∷ (fitted ins (vs v) ++ map (λ k. replicate k false) (take at (lengths rest))))
      (λ v. entered size ins (lengths rest) (vs v))
      (ap (λ y. size ∷ (ins ++ y)) t) (λ v. ap (λ y. replicate size false ∷ (fitted ins (vs v) ++ map (λ k. replicate k false) y)) t) h

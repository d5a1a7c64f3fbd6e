-- Clauses cut from one list of literals.
use Rattle.std.proofs.Common.{◌≡◌, ℕ, ◌+◌, ◌-◌, ◌<◌, ◌≤◌, List, [], ◌∷◌, ◌++◌, refl, sym, ap, subst, ◌∙◌, Some, slice_get, get_or, take, drop, length, zero, suc, arith, All, length-append, length-drop}
use Rattle.std.proofs.lemmas.List.{take_all, take-append-le, drop-append-le}
use Rattle.std.proofs.lemmas.Grind.{take_at_read}
use Rattle.cnf_core.specs.declared.lit.Lit.{Lit}
use Rattle.cnf_core.specs.Lit.{variable_of}
use Rattle.sat_core.specs.Arena.{pieces, AreEnds, end_before}

pub pieces_length : (start : ℕ) (ends : List ℕ) (lits : List Lit) → length (pieces start ends lits) ≡ length ends
pieces_length start [] lits = refl
pieces_length start (e ∷ es) lits = ap suc (pieces_length e es (drop (e - start) lits))

drop_nil : (n : ℕ) → drop {A = Lit} n [] ≡ []
drop_nil zero = refl
drop_nil (suc n) = refl

drop_drop : (m n : ℕ) (xs : List Lit) → drop n (drop m xs) ≡ drop (m + n) xs
drop_drop zero n xs = ap (λ (k : ℕ). drop k xs) (let e : n ≡ zero + n = omega arith in e)
drop_drop (suc m) n [] = drop_nil n ∙ sym (drop_nil (suc m + n))
drop_drop (suc m) n (x ∷ xs) = drop_drop m n xs ∙ ap (λ (k : ℕ). drop k (x ∷ xs)) (let e : suc (m + n) ≡ suc m + n = omega arith in e)

-- where a piece begins and ends
pub record Bounds (start end : ℕ) (ends : List ℕ) (lits : List Lit) (k : ℕ) : Type 0 where
  pub from : start ≤ end_before start ends k
  pub order : end_before start ends k ≤ end
  pub within : end ≤ start + length lits

pub bounds : (start : ℕ) (ends : List ℕ) (lits : List Lit) (k d : ℕ) → AreEnds start ends lits → k < length ends → Bounds start (get_or ends k d) ends lits k
bounds start [] lits k d h lt = absurd (omega arith)
bounds start (e ∷ es) lits zero d h lt = record { from = omega arith; order = h.0; within = h.1 }
bounds start (e ∷ es) lits (suc k) d h lt =
    let b = bounds e es (drop (e - start) lits) k d h.2 (omega arith) in
    let n = length-drop (e - start) lits in
    record { from = omega (arith, b.from, h.0); order = b.order; within = omega (arith, b.within, n, h.0, h.1) }

pub piece_at : (start : ℕ) (ends : List ℕ) (lits : List Lit) (k d : ℕ) → AreEnds start ends lits → k < length ends → slice_get (pieces start ends lits) k ≡ Some (take (get_or ends k d - end_before start ends k) (drop (end_before start ends k - start) lits))
piece_at start [] lits k d h lt = absurd (omega arith)
piece_at start (e ∷ es) lits zero d h lt = ap (λ (n : ℕ). Some (take (e - start) (drop n lits))) (let z : 0 ≡ start - start = omega arith in z)
piece_at start (e ∷ es) lits (suc k) d h lt =
    let b = bounds e es (drop (e - start) lits) k d h.2 (omega arith) in
    let m : ℕ = end_before e es k in
    let n : (e - start) + (m - e) ≡ m - start = omega (arith, b.from, h.0) in
    piece_at e es (drop (e - start) lits) k d h.2 (omega arith)
    ∙ ap (λ (xs : List Lit). Some (take (get_or es k d - m) xs)) (drop_drop (e - start) (m - e) lits ∙ ap (λ (i : ℕ). drop i lits) n)

nil_of : (lits : List Lit) → length lits ≡ 0 → lits ≡ []
nil_of [] e = refl
nil_of (l ∷ ls) e = absurd (omega arith)

pub pieces_push : (start end : ℕ) (ends : List ℕ) (lits c : List Lit) → AreEnds start ends lits → end ≡ start + length lits + length c → pieces start (ends ++ end ∷ []) (lits ++ c) ≡ pieces start ends lits ++ c ∷ []
pieces_push start end [] lits c h e =
    let n : lits ≡ [] = nil_of lits h in
    ap (λ (xs : List Lit). take (end - start) (xs ++ c) ∷ []) n ∙ ap (λ (xs : List Lit). xs ∷ []) (take_all (end - start) c (omega arith))
pieces_push start end (f ∷ es) lits c h e =
    let n = length-drop (f - start) lits in
    ap (λ (xs : List Lit). xs ∷ pieces f (es ++ end ∷ []) (drop (f - start) (lits ++ c))) (take-append-le (f - start) lits c (omega (arith, h.0, h.1)))
    ∙ ap (λ (xs : List Lit). take (f - start) lits ∷ pieces f (es ++ end ∷ []) xs) (drop-append-le (f - start) lits c (omega (arith, h.0, h.1)))
    ∙ ap (λ (ps : List (List Lit)). take (f - start) lits ∷ ps) (pieces_push f end es (drop (f - start) lits) c h.2 (omega (arith, n, h.0, h.1)))

pub ends_push : (start end : ℕ) (ends : List ℕ) (lits c : List Lit) → AreEnds start ends lits → end ≡ start + length lits + length c → AreEnds start (ends ++ end ∷ []) (lits ++ c)
ends_push start end [] lits c h e =
    let n = length-append lits c in
    let m = length-drop (end - start) (lits ++ c) in
    (omega arith, omega (arith, n), omega (arith, n, m))
ends_push start end (f ∷ es) lits c h e =
    let n = length-append lits c in
    let m = length-drop (f - start) lits in (
      h.0,
      omega (arith, n, h.1),
      subst (AreEnds f (es ++ end ∷ [])) (sym (drop-append-le (f - start) lits c (omega (arith, h.0, h.1))))
          (ends_push f end es (drop (f - start) lits) c h.2 (omega (arith, m, h.0, h.1))),
    )

pub end_at : (start : ℕ) (ends : List ℕ) (k d : ℕ) → 1 ≤ k → k ≤ length ends → get_or ends (k - 1) d ≡ end_before start ends k
end_at start ends zero d above le = absurd (omega arith)
end_at start [] (suc k) d above le = absurd (omega arith)
end_at start (e ∷ es) (suc zero) d above le = refl
end_at start (e ∷ es) (suc (suc k)) d above le =
    let m : suc (suc k) - 1 ≡ suc k = omega arith in
    let n : k ≡ suc k - 1 = omega arith in
    ap (λ (i : ℕ). get_or (e ∷ es) i d) m ∙ ap (λ (i : ℕ). get_or es i d) n ∙ end_at e es (suc k) d (omega arith) (omega arith)

pub pieces_whole : (ends : List ℕ) (lits c : List Lit) (ends' : List ℕ) (lits' : List Lit) (end : ℕ) → AreEnds 0 ends lits → lits' ≡ lits ++ c → ends' ≡ ends ++ end ∷ [] → end ≡ length lits' → (pieces 0 ends' lits' ≡ pieces 0 ends lits ++ c ∷ []) × AreEnds 0 ends' lits'
pieces_whole ends lits c ends' lits' end h le ee e =
    let n : end ≡ 0 + length lits + length c = omega (arith, e, ap length le, length-append lits c) in (
      ap (λ (es : List ℕ). pieces 0 es lits') ee ∙ ap (pieces 0 (ends ++ end ∷ [])) le ∙ pieces_push 0 end ends lits c h n,
      subst (λ (es : List ℕ). AreEnds 0 es lits') (sym ee) (subst (AreEnds 0 (ends ++ end ∷ [])) (sym le) (ends_push 0 end ends lits c h n)),
    )

pub gathered_more : (cs arena arena' : List (List Lit)) (i : ℕ) (c c' : List Lit) → i < length cs → arena ≡ take i cs → c ≡ get_or cs i c → c' ≡ c → arena' ≡ arena ++ c' ∷ [] → arena' ≡ take (i + 1) cs
gathered_more cs arena arena' i c c' lt before is same after =
    after
    ∙ ap (λ (ds : List (List Lit)). ds ++ c' ∷ []) before
    ∙ ap (λ (d : List Lit). take i cs ++ d ∷ []) (same ∙ is)
    ∙ sym (take_at_read cs i c lt).1

pub each_read : (cs : List (List Lit)) (i : ℕ) (c c' : List Lit) → c ≡ get_or cs i c → c' ≡ c → All (λ l. 1 ≤ variable_of l) c' → All (λ l. 1 ≤ variable_of l) (get_or cs i c)
each_read cs i c c' is same h = subst (All (λ l. 1 ≤ variable_of l)) (same ∙ is) h

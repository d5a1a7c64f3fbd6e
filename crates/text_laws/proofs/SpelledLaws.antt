-- What a DIMACS text spells is what is read of it.
use Rattle.std.proofs.Common.{◌≡◌, ◌<◌, ◌≤◌, ◌+◌, ◌-◌, ◌^◌, ◌⊎◌, inl, inr, ℕ, zero, suc, ℤ, pos, negsuc, Bool, true, false, cond, eqb, List, [], ◌∷◌, ◌++◌, length, Option, Some, None, Ok, Err, arith, refl, sym, ap, ◌∙◌, subst, append_assoc}
use Rattle.std.specs.Prelude.{codes}
use Rattle.std.specs.Str.{bytes_eq}
use Rattle.std.specs.Int.RustNames.{unsigned_abs}
use Rattle.std.proofs.lemmas.Bool.{cond-false, ne_eqb, eq-eqb, eqb-true}
use Rattle.std.proofs.lemmas.List.{append-nil}
use Rattle.cnf_core.specs.declared.lit.Lit.{Lit}
use Rattle.cnf_core.specs.declared.formula.Formula.{Formula}
use Rattle.cnf_core.specs.declared.fault.TextFault.TheVariants.{Bad}
use Rattle.cnf_core.specs.Numbers.{number_below, integer_below}
use Rattle.cnf_core.specs.Text.{Word, text_lines, text_words, last_line}
use Rattle.cnf_core.specs.Dimacs.{if_some, start, Read, read_words, at_line, dimacs_of}
use Rattle.text_laws.specs.Numerals.{IsDecimal, SaysInteger, SaysNonzero, SayAll, EndAtZero}
use Rattle.text_laws.specs.Spelled.{bytes_of, SayClauses, SayFormula, Spells, CanGoOn, IsUnfit, IsCutShort, ReadAsSpelled, RefusedAtItsFault, SpelledOrFaulty}
use Rattle.text_laws.proofs.NumeralLaws.{decimal_from, decimal_to, integer_from, integer_to, same_bytes}
use Rattle.text_laws.proofs.RunLaws.{Place, at_start, at_format, at_variables, at_count, at_clauses, with_number, next_place, answer_at, read_places, same_answer, runs, runs_step, runs-append, front_runs, read_on, Reaches, reaches, Stops, stops}

-- how each kind of word was taken

took_text : (b : Bool) (next mid : Place) (ws : List (List ℕ)) → if_some (cond b (Some next) None) None (λ n. runs n ws) ≡ Some mid → (b ≡ true) × (runs next ws ≡ Some mid)
took_text true next mid ws e = (refl, e)
took_text false next mid ws e = absurd cc

took_number : (o : Option ℕ) (f : ℕ → Place) (mid : Place) (ws : List (List ℕ)) → if_some (if_some o None (λ v. Some (f v))) None (λ n. runs n ws) ≡ Some mid → (v : ℕ) × (o ≡ Some v) × (runs (f v) ws ≡ Some mid)
took_number None f mid ws e = absurd cc
took_number (Some v) f mid ws e = (v, refl, e)

took_literal : (b : Bool) (o : Option ℤ) (f : ℤ → Place) (mid : Place) (ws : List (List ℕ)) → if_some (cond b None (if_some o None (λ z. Some (f z)))) None (λ n. runs n ws) ≡ Some mid → (z : ℤ) × (b ≡ false) × (o ≡ Some z) × (runs (f z) ws ≡ Some mid)
took_literal true o f mid ws e = absurd cc
took_literal false None f mid ws e = absurd cc
took_literal false (Some z) f mid ws e = (z, refl, refl, e)

abbrev settled : Bool → Formula → Read
settled b g = cond b (Ok g) (Err None)

done_by : (b : Bool) (g f : Formula) → settled b g ≡ Ok f → (b ≡ true) × (g ≡ f)
done_by true g f e = (refl, cc)
done_by false g f e = absurd cc

-- the words say the rest of a clause and then further clauses
abbrev Continue : ℕ → List Lit → List (List ℕ) → List (List Lit) → Type 0
Continue n begun ws [] = (ws ≡ []) × (begun ≡ [])
Continue n begun ws (c ∷ cs) = (lits : List Lit) × (behind : List (List ℕ)) × (c ≡ begun ++ lits) × EndAtZero (n + 1) ws lits behind × SayClauses n behind cs

as_clauses : (n : ℕ) (ws : List (List ℕ)) (cs : List (List Lit)) → Continue n [] ws cs → SayClauses n ws cs
as_clauses n ws [] h = h.0
as_clauses n ws (c ∷ cs) h = (h.1, subst (λ (ls : List Lit). EndAtZero (n + 1) ws ls h.1) (sym h.2) h.3, h.4)

-- what the words of clauses make of a reading
record Rest (n k : ℕ) (done : List (List Lit)) (begun : List Lit) (ws : List (List ℕ)) (f : Formula) : Type 0 where
  clauses : List (List Lit)
  are : f.clauses ≡ done ++ clauses
  variables : f.variables ≡ n
  count : length clauses ≡ k
  say : Continue n begun ws clauses

one_literal : (n : ℕ) (begun : List Lit) (z : ℤ) (w : List ℕ) (ws : List (List ℕ)) (cs : List (List Lit)) → SaysNonzero (n + 1) w z → (length cs ≡ 0 → ⊥) → Continue n (begun ++ z ∷ []) ws cs → Continue n begun (w ∷ ws) cs
one_literal n begun z w ws [] s full h = absurd (full refl)
one_literal n begun z w ws (c ∷ cs) s full h =
    let t = h.3 in (
      z ∷ h.0,
      h.1,
      h.2 ∙ append_assoc begun (z ∷ []) h.0,
      record { front = w ∷ t.front; zero = t.zero; are = ap (λ (xs : List (List ℕ)). w ∷ xs) t.are; say = (s, t.say); ends = t.ends },
      h.4,
    )

more_rest : (n k : ℕ) (done : List (List Lit)) (begun : List Lit) (z : ℤ) (w : List ℕ) (ws : List (List ℕ)) (f : Formula) → (k ≡ 0 → ⊥) → SaysNonzero (n + 1) w z → Rest n k done (begun ++ z ∷ []) ws f → Rest n k done begun (w ∷ ws) f
more_rest n k done begun z w ws f left s r = record {
  clauses = r.clauses;
  are = r.are;
  variables = r.variables;
  count = r.count;
  say = one_literal n begun z w ws r.clauses s (λ e. left (sym r.count ∙ e)) r.say;
}

ended_rest : (n k : ℕ) (done : List (List Lit)) (begun : List Lit) (w : List ℕ) (ws : List (List ℕ)) (f : Formula) → (k ≡ 0 → ⊥) → IsDecimal w 0 → Rest n (k - 1) (done ++ begun ∷ []) [] ws f → Rest n k done begun (w ∷ ws) f
ended_rest n k done begun w ws f left s r = record {
  clauses = begun ∷ r.clauses;
  are = r.are ∙ append_assoc done (begun ∷ []) r.clauses;
  variables = r.variables;
  count = let e = r.count in omega (arith, e, left);
  say = ([], ws, sym (append-nil begun), record { front = []; zero = w; are = refl; say = tt; ends = s }, as_clauses n ws r.clauses r.say);
}

not_zero : (k : ℕ) → eqb k 0 ≡ false → k ≡ 0 → ⊥
not_zero k h e = let t = sym h ∙ eq-eqb k 0 e in absurd cc

rest_by : (n k : ℕ) (done : List (List Lit)) (begun : List Lit) (z : ℤ) (w : List ℕ) (ws : List (List ℕ)) (mid : Place) (f : Formula) → (k ≡ 0 → ⊥) → SaysInteger w z → unsigned_abs z < n + 1
    → ((j : ℕ) (d : List (List Lit)) (b : List Lit) → (j ≡ 0 → b ≡ []) → runs (at_clauses n j d b) ws ≡ Some mid → Rest n j d b ws f)
    → runs (with_number n k done begun z) ws ≡ Some mid → Rest n k done begun (w ∷ ws) f
rest_by n k done begun (pos zero) w ws mid f left s small rest e = ended_rest n k done begun w ws f left s (rest (k - 1) (done ++ begun ∷ []) [] (λ h. refl) e)
rest_by n k done begun (pos (suc m)) w ws mid f left s small rest e =
    more_rest n k done begun (pos (suc m)) w ws f left (record { says = s; nonzero = omega arith; small = small }) (rest k done (begun ++ pos (suc m) ∷ []) (λ h. absurd (left h)) e)
rest_by n k done begun (negsuc m) w ws mid f left s small rest e =
    more_rest n k done begun (negsuc m) w ws f left (record { says = s; nonzero = omega arith; small = small }) (rest k done (begun ++ negsuc m ∷ []) (λ h. absurd (left h)) e)

rest_of : (n k : ℕ) (done : List (List Lit)) (begun : List Lit) (ws : List (List ℕ)) (mid : Place) (f : Formula) → (k ≡ 0 → begun ≡ []) → answer_at mid ≡ Ok f → runs (at_clauses n k done begun) ws ≡ Some mid → Rest n k done begun ws f
rest_of n k done begun [] mid f whole end e =
    let same : at_clauses n k done begun ≡ mid = cc in
    let d = done_by (eqb k 0) (record { variables = n; clauses = done }) f (ap answer_at same ∙ end) in
    let none : k ≡ 0 = eqb-true k 0 d.0 in
    record {
      clauses = [];
      are = ap (λ (g : Formula). g.clauses) (sym d.1) ∙ sym (append-nil done);
      variables = ap (λ (g : Formula). g.variables) (sym d.1);
      count = sym none;
      say = (refl, whole none);
    }
rest_of n k done begun (w ∷ ws) mid f whole end e =
    let t = took_literal (eqb k 0) (integer_below (n + 1) w) (λ z. with_number n k done begun z) mid ws e in
    let s = integer_from (n + 1) w t.0 t.2 in
    rest_by n k done begun t.0 w ws mid f (not_zero k t.1) s.0 s.1 (λ j d b h g. rest_of n j d b ws mid f h end g) t.3

unfinished : (r mid : Place) (f : Formula) → answer_at r ≡ Err None → Some r ≡ Some mid → answer_at mid ≡ Ok f → ⊥
unfinished r mid f a e end = let same : r ≡ mid = cc in let t : Err None ≡ Ok f = sym a ∙ ap answer_at same ∙ end in cc

-- the words that were read say the formula
after_count : (p c v : List ℕ) (n : ℕ) (ws : List (List ℕ)) (mid : Place) (f : Formula) → p ≡ codes "p" → c ≡ codes "cnf" → IsDecimal v n → n < 2 ^ 30 → answer_at mid ≡ Ok f → runs (at_count n) ws ≡ Some mid → SayFormula (p ∷ c ∷ v ∷ ws) f
after_count p c v n [] mid f ep ec dv sv end e = absurd (unfinished (at_count n) mid f refl e end)
after_count p c v n (w ∷ ws) mid f ep ec dv sv end e =
    let t = took_number (number_below (2 ^ 30) w) (λ k. at_clauses n k [] []) mid ws e in
    let d = decimal_from (2 ^ 30) w t.0 t.1 in
    let r = rest_of n t.0 [] [] ws mid f (λ h. refl) end t.2 in
    let count : length f.clauses ≡ t.0 = ap length r.are ∙ r.count in
    record {
      variables = v;
      count = w;
      behind = ws;
      are = ap (λ (x : List ℕ). x ∷ c ∷ v ∷ w ∷ ws) ep ∙ ap (λ (x : List ℕ). codes "p" ∷ x ∷ v ∷ w ∷ ws) ec;
      variables_said = subst (IsDecimal v) (sym r.variables) dv;
      variables_small = let e = r.variables in omega (arith, sv, e);
      count_said = subst (IsDecimal w) (sym count) d.0;
      count_small = let l = d.1 in omega (arith, l, count);
      clauses =
          subst (λ (cs : List (List Lit)). SayClauses f.variables ws cs) (sym r.are)
          (subst (λ (m : ℕ). SayClauses m ws r.clauses) (sym r.variables) (as_clauses n ws r.clauses r.say));
    }

after_format : (p c : List ℕ) (ws : List (List ℕ)) (mid : Place) (f : Formula) → p ≡ codes "p" → c ≡ codes "cnf" → answer_at mid ≡ Ok f → runs at_variables ws ≡ Some mid → SayFormula (p ∷ c ∷ ws) f
after_format p c [] mid f ep ec end e = absurd (unfinished at_variables mid f refl e end)
after_format p c (v ∷ ws) mid f ep ec end e =
    let t = took_number (number_below (2 ^ 30) v) (λ n. at_count n) mid ws e in
    let d = decimal_from (2 ^ 30) v t.0 t.1 in
    after_count p c v t.0 ws mid f ep ec d.0 d.1 end t.2

after_problem : (p : List ℕ) (ws : List (List ℕ)) (mid : Place) (f : Formula) → p ≡ codes "p" → answer_at mid ≡ Ok f → runs at_format ws ≡ Some mid → SayFormula (p ∷ ws) f
after_problem p [] mid f ep end e = absurd (unfinished at_format mid f refl e end)
after_problem p (c ∷ ws) mid f ep end e =
    let t = took_text (bytes_eq c (codes "cnf")) at_variables mid ws e in
    after_format p c ws mid f ep (same_bytes c (codes "cnf") t.0) end t.1

said_by : (ws : List (List ℕ)) (mid : Place) (f : Formula) → answer_at mid ≡ Ok f → runs at_start ws ≡ Some mid → SayFormula ws f
said_by [] mid f end e = absurd (unfinished at_start mid f refl e end)
said_by (p ∷ ws) mid f end e =
    let t = took_text (bytes_eq p (codes "p")) at_format mid ws e in
    after_problem p ws mid f (same_bytes p (codes "p") t.0) end t.1

-- the words of a formula are read

literal_step : (n k : ℕ) (done : List (List Lit)) (begun : List Lit) (w : List ℕ) (z : ℤ) (ws : List (List ℕ)) → 0 < k → integer_below (n + 1) w ≡ Some z → runs (at_clauses n k done begun) (w ∷ ws) ≡ runs (with_number n k done begun z) ws
literal_step n k done begun w z ws left e =
    ap (λ (o : Option Place). if_some o None (λ next. runs next ws))
    (cond-false (eqb k 0) None (if_some (integer_below (n + 1) w) None (λ y. Some (with_number n k done begun y))) (ne_eqb k 0 (λ h. omega (arith, left, h)))
    ∙ ap (λ (o : Option ℤ). if_some o None (λ y. Some (with_number n k done begun y))) e)

nonzero_literal : (n k : ℕ) (done : List (List Lit)) (begun : List Lit) (z : ℤ) → 1 ≤ unsigned_abs z → with_number n k done begun z ≡ at_clauses n k done (begun ++ z ∷ [])
nonzero_literal n k done begun (pos zero) h = absurd (omega arith)
nonzero_literal n k done begun (pos (suc m)) h = refl
nonzero_literal n k done begun (negsuc m) h = refl

literals_run : (n k : ℕ) (done : List (List Lit)) (begun : List Lit) (front : List (List ℕ)) (ls : List Lit) (ws : List (List ℕ)) → 0 < k → SayAll (n + 1) front ls → runs (at_clauses n k done begun) (front ++ ws) ≡ runs (at_clauses n k done (begun ++ ls)) ws
literals_run n k done begun [] [] ws left h = ap (λ (b : List Lit). runs (at_clauses n k done b) ws) (sym (append-nil begun))
literals_run n k done begun [] (l ∷ ls) ws left h = absurd h
literals_run n k done begun (w ∷ front) [] ws left h = absurd h
literals_run n k done begun (w ∷ front) (l ∷ ls) ws left h =
    let s = h.0 in
    literal_step n k done begun w l (front ++ ws) left (integer_to (n + 1) w l s.says s.small)
    ∙ ap (λ (r : Place). runs r (front ++ ws)) (nonzero_literal n k done begun l s.nonzero)
    ∙ literals_run n k done (begun ++ l ∷ []) front ls ws left h.1
    ∙ ap (λ (b : List Lit). runs (at_clauses n k done b) ws) (append_assoc begun (l ∷ []) ls)

clauses_run : (n : ℕ) (done : List (List Lit)) (ws : List (List ℕ)) (cs : List (List Lit)) → SayClauses n ws cs → runs (at_clauses n (length cs) done []) ws ≡ Some (at_clauses n 0 (done ++ cs) [])
clauses_run n done ws [] h = ap (runs (at_clauses n 0 done [])) h ∙ ap (λ (d : List (List Lit)). Some (at_clauses n 0 d [])) (sym (append-nil done))
clauses_run n done ws (c ∷ cs) h =
    let t = h.1 in
    let k = length (c ∷ cs) in
    ap (runs (at_clauses n k done [])) t.are
    ∙ literals_run n k done [] t.front c (t.zero ∷ h.0) (omega arith) t.say
    ∙ literal_step n k done c t.zero (pos 0) h.0 (omega arith) (integer_to (n + 1) t.zero (pos 0) t.ends (omega arith))
    ∙ ap (λ (j : ℕ). runs (at_clauses n j (done ++ c ∷ []) []) h.0) (omega arith)
    ∙ clauses_run n (done ++ c ∷ []) h.0 cs h.2
    ∙ ap (λ (d : List (List Lit)). Some (at_clauses n 0 d [])) (append_assoc done (c ∷ []) cs)

said_runs : (ws : List (List ℕ)) (f : Formula) → SayFormula ws f → runs at_start ws ≡ Some (at_clauses f.variables 0 f.clauses [])
said_runs ws f h =
    ap (runs at_start) h.are
    ∙ ap (λ (o : Option ℕ). if_some (if_some o None (λ v. Some (at_count v))) None (λ next. runs next (h.count ∷ h.behind))) (decimal_to (2 ^ 30) h.variables f.variables h.variables_said h.variables_small)
    ∙ ap (λ (o : Option ℕ). if_some (if_some o None (λ k. Some (at_clauses f.variables k [] []))) None (λ next. runs next h.behind)) (decimal_to (2 ^ 30) h.count (length f.clauses) h.count_said h.count_small)
    ∙ clauses_run f.variables [] h.behind f.clauses h.clauses

-- what fits so far goes on to a formula

record Finish (r : Place) : Type 0 where
  more : List (List ℕ)
  formula : Formula
  mid : Place
  ran : runs r more ≡ Some mid
  end : answer_at mid ≡ Ok formula

step_finish : (r next : Place) (w : List ℕ) → next_place r w ≡ Some next → Finish next → Finish r
step_finish r next w e t = record { more = w ∷ t.more; formula = t.formula; mid = t.mid; ran = runs_step r next t.mid w t.more e t.ran; end = t.end }

zero_word : List ℕ
zero_word = 48 ∷ []

zero_is : IsDecimal zero_word 0
unfolding zero_word
zero_is = record { full = λ e. absurd cc; digits = refl; value = refl }

clauses_finish : (k v : ℕ) (done : List (List Lit)) (begun : List Lit) → Finish (at_clauses v k done begun)
clauses_finish zero v done begun = record { more = []; formula = record { variables = v; clauses = done }; mid = at_clauses v 0 done begun; ran = refl; end = refl }
clauses_finish (suc k) v done begun =
    let t = clauses_finish k v (done ++ begun ∷ []) [] in
    record {
      more = zero_word ∷ t.more;
      formula = t.formula;
      mid = t.mid;
      ran =
          literal_step v (suc k) done begun zero_word (pos 0) t.more (omega arith) (integer_to (v + 1) zero_word (pos 0) zero_is (omega arith))
          ∙ ap (λ (j : ℕ). runs (at_clauses v j (done ++ begun ∷ []) []) t.more) (omega arith) ∙ t.ran;
      end = t.end;
    }

finish_clauses : (v : ℕ) → Finish (at_count v)
finish_clauses v =
    step_finish (at_count v) (at_clauses v 0 [] []) zero_word
    (ap (λ (o : Option ℕ). if_some o None (λ c. Some (at_clauses v c [] []))) (decimal_to (2 ^ 30) zero_word 0 zero_is (omega arith))) (clauses_finish 0 v [] [])

finish_variables : Finish at_variables
finish_variables =
    step_finish at_variables (at_count 0) zero_word
    (ap (λ (o : Option ℕ). if_some o None (λ v. Some (at_count v))) (decimal_to (2 ^ 30) zero_word 0 zero_is (omega arith))) (finish_clauses 0)

finish : (p : Place) → Finish p
finish at_start = step_finish at_start at_format (codes "p") refl (step_finish at_format at_variables (codes "cnf") refl finish_variables)
finish at_format = step_finish at_format at_variables (codes "cnf") refl finish_variables
finish at_variables = finish_variables
finish (at_count v) = finish_clauses v
finish (at_clauses v k done begun) = clauses_finish k v done begun

goes_on : (ws : List (List ℕ)) (mid : Place) → runs at_start ws ≡ Some mid → CanGoOn ws
goes_on ws mid e = let t = finish mid in (t.more, t.formula, said_by (ws ++ t.more) t.mid t.formula t.end (runs-append at_start mid ws t.more e ∙ t.ran))

ran_from : (ws : List (List ℕ)) → CanGoOn ws → (mid : Place) × (runs at_start ws ≡ Some mid)
ran_from ws h = front_runs at_start (at_clauses h.1.variables 0 h.1.clauses []) ws h.0 (said_runs (ws ++ h.0) h.1 h.2)

-- the laws

at_the_end : (ws : List Word) (mid : Place) → runs at_start (bytes_of ws) ≡ Some mid → read_places at_start ws ≡ answer_at mid
at_the_end ws mid e = ap (read_places at_start) (sym (append-nil ws)) ∙ read_on at_start mid ws [] e

formula_read : (ws : List Word) (f : Formula) → SayFormula (bytes_of ws) f → read_places at_start ws ≡ Ok f
formula_read ws f h = at_the_end ws (at_clauses f.variables 0 f.clauses []) (said_runs (bytes_of ws) f h)

formula_said : (ws : List Word) (f : Formula) → read_places at_start ws ≡ Ok f → SayFormula (bytes_of ws) f
formula_said ws f e = let t = reaches at_start ws (Ok f) (λ k h. absurd cc) e in said_by (bytes_of ws) t.mid f t.answers t.ran

ok_inside : (n : ℕ) (o : Read) (f : Formula) → at_line n o ≡ Ok f → o ≡ Ok f
ok_inside n (Ok g) f e = let same : g ≡ f = cc in ap Ok same
ok_inside n (Err None) f e = absurd cc
ok_inside n (Err (Some k)) f e = absurd cc

pub read_as_spelled : ReadAsSpelled
read_as_spelled text f = (
  λ h. ap (at_line (last_line (text_lines text))) (same_answer (text_words text) ∙ formula_read (text_words text) f h),
  λ e. formula_said (text_words text) f (sym (same_answer (text_words text)) ∙ ok_inside (last_line (text_lines text)) (read_words start (text_words text)) f e),
)

none_by : (mid : Place) (w : List ℕ) (o : Option Place) → next_place mid w ≡ o → ((next : Place) → next_place mid w ≡ Some next → ⊥) → next_place mid w ≡ None
none_by mid w None h never = h
none_by mid w (Some next) h never = absurd (never next h)

one_more : (ws : List (List ℕ)) (mid next : Place) (w : List ℕ) → runs at_start ws ≡ Some mid → next_place mid w ≡ Some next → runs at_start (ws ++ w ∷ []) ≡ Some next
one_more ws mid next w e h = runs-append at_start mid ws (w ∷ []) e ∙ ap (λ (o : Option Place). if_some o None (λ n. Some n)) h

unfit_stops : (text : List ℕ) (k : ℕ) → IsUnfit text k → read_places at_start (text_words text) ≡ Err (Some k)
unfit_stops text k u =
    let ran = ran_from (bytes_of u.front) u.fit in
    let mid = ran.0 in
    let word = u.word in
    let none : next_place mid word.bytes ≡ None = none_by mid word.bytes (next_place mid word.bytes) refl (λ next h. u.unfit (goes_on (bytes_of u.front ++ word.bytes ∷ []) next (one_more (bytes_of u.front) mid next word.bytes ran.1 h))) in
    ap (read_places at_start) u.are ∙ read_on at_start mid u.front (word ∷ u.behind) ran.1
    ∙ ap (λ (o : Option Place). if_some o (Err (Some word.line)) (λ next. read_places next u.behind)) none
    ∙ ap (λ (n : ℕ). Err (Some n)) u.line

by_count : (b : Bool) (g : Formula) → (settled b g ≡ Err None) ⊎ ((f : Formula) × (settled b g ≡ Ok f))
by_count true g = inr (g, refl)
by_count false g = inl refl

over_or_short : (p : Place) → (answer_at p ≡ Err None) ⊎ ((f : Formula) × (answer_at p ≡ Ok f))
over_or_short at_start = inl refl
over_or_short at_format = inl refl
over_or_short at_variables = inl refl
over_or_short (at_count v) = inl refl
over_or_short (at_clauses v k done begun) = by_count (eqb k 0) (record { variables = v; clauses = done })

short_ends : (text : List ℕ) (k : ℕ) → IsCutShort text k → read_places at_start (text_words text) ≡ Err None
short_ends text k s =
    let ws = text_words text in
    let ran = ran_from (bytes_of ws) s.fit in
    at_the_end ws ran.0 ran.1 ∙ (elim (over_or_short ran.0) [
      | inl none ↦ none
      | inr ok ↦ absurd (s.short ok.0 (said_by (bytes_of ws) ran.0 ok.0 ok.1 ran.1))
    ])

fault_refused : (text : List ℕ) (k : ℕ) → IsUnfit text k ⊎ IsCutShort text k → dimacs_of text ≡ Err (Bad k)
fault_refused text k (inl u) = ap (at_line (last_line (text_lines text))) (same_answer (text_words text) ∙ unfit_stops text k u)
fault_refused text k (inr s) = ap (at_line (last_line (text_lines text))) (same_answer (text_words text) ∙ short_ends text k s) ∙ ap (λ (n : ℕ). Err (Bad n)) s.line

stopped_unfit : (text : List ℕ) (k : ℕ) → Stops at_start (text_words text) k → IsUnfit text k
stopped_unfit text k s =
    let word = s.word in
    record {
      front = s.front;
      word = s.word;
      behind = s.behind;
      are = s.are;
      fit = goes_on (bytes_of s.front) s.mid s.ran;
      unfit = λ h.
          let ran = ran_from (bytes_of s.front ++ word.bytes ∷ []) h in
          let none : None ≡ Some ran.0 =
          ap (λ (o : Option Place). if_some o None (λ n. Some n)) (sym s.unfit) ∙ sym (runs-append at_start s.mid (bytes_of s.front) (word.bytes ∷ []) s.ran) ∙ ran.1 in
          cc;
      line = s.line;
    }

reached_short : (text : List ℕ) → Reaches at_start (text_words text) (Err None) → IsCutShort text (last_line (text_lines text))
reached_short text t =
    let ws = text_words text in
    record {
      fit = goes_on (bytes_of ws) t.mid t.ran;
      short = λ f h.
          let same : t.mid ≡ at_clauses f.variables 0 f.clauses [] = let e : Some t.mid ≡ Some (at_clauses f.variables 0 f.clauses []) = sym t.ran ∙ said_runs (bytes_of ws) f h in cc in
          let wrong : Err None ≡ Ok f = sym t.answers ∙ ap answer_at same in
          cc;
      line = refl;
    }

fault_by : (text : List ℕ) (o : Read) → read_places at_start (text_words text) ≡ o → (k : ℕ) → at_line (last_line (text_lines text)) o ≡ Err (Bad k) → IsUnfit text k ⊎ IsCutShort text k
fault_by text (Ok f) e k b = absurd cc
fault_by text (Err None) e k b =
    let same : last_line (text_lines text) ≡ k = cc in
    inr (subst (IsCutShort text) same (reached_short text (reaches at_start (text_words text) (Err None) (λ j h. absurd cc) e)))
fault_by text (Err (Some j)) e k b = let same : j ≡ k = cc in inl (subst (IsUnfit text) same (stopped_unfit text j (stops at_start (text_words text) j e)))

pub refused_at_its_fault : RefusedAtItsFault
refused_at_its_fault text k = (λ h. fault_refused text k h, λ e. fault_by text (read_words start (text_words text)) (sym (same_answer (text_words text))) k e)

either_by : (text : List ℕ) (o : Read) → read_places at_start (text_words text) ≡ o → ((f : Formula) × Spells text f) ⊎ ((k : ℕ) × (IsUnfit text k ⊎ IsCutShort text k))
either_by text (Ok f) e = inl (f, formula_said (text_words text) f e)
either_by text (Err None) e = inr (last_line (text_lines text), fault_by text (Err None) e (last_line (text_lines text)) refl)
either_by text (Err (Some j)) e = inr (j, fault_by text (Err (Some j)) e j refl)

pub spelled_or_faulty : SpelledOrFaulty
spelled_or_faulty text = either_by text (read_places at_start (text_words text)) refl

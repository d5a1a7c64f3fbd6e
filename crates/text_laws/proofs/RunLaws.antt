-- The reader word by word, in places of its own.
use Rattle.std.proofs.Common.{◌≡◌, ◌-◌, ◌+◌, ◌^◌, ℕ, zero, suc, ℤ, pos, negsuc, Bool, true, false, cond, eqb, List, [], ◌∷◌, ◌++◌, Option, Some, None, Ok, Err, refl, sym, ap, ◌∙◌}
use Rattle.std.specs.Prelude.{codes}
use Rattle.std.specs.Str.{bytes_eq}
use Rattle.cnf_core.specs.declared.lit.Lit.{Lit}
use Rattle.cnf_core.specs.declared.formula.Formula.{Formula}
use Rattle.cnf_core.specs.Numbers.{number_below, integer_below}
use Rattle.cnf_core.specs.Text.{Word}
use Rattle.cnf_core.specs.Dimacs.{if_some, start, stepped, with_literal, Read, finished_at, read_words}
use Rattle.text_laws.specs.Spelled.{bytes_of}

-- what was read: nothing, `p`, `cnf` too, the variables too, or the count of clauses too, with the number of clauses to come, those that are done and the literals of the next
pub data Place : Type 0 where
  at_start : Place
  at_format : Place
  at_variables : Place
  at_count : ℕ → Place
  at_clauses : ℕ → ℕ → List (List Lit) → List Lit → Place

abbrev pub with_number : ℕ → ℕ → List (List Lit) → List Lit → ℤ → Place
with_number v k done begun (pos zero) = at_clauses v (k - 1) (done ++ begun ∷ []) []
with_number v k done begun (pos (suc n)) = at_clauses v k done (begun ++ pos (suc n) ∷ [])
with_number v k done begun (negsuc n) = at_clauses v k done (begun ++ negsuc n ∷ [])

abbrev pub next_place : Place → List ℕ → Option Place
next_place at_start w = cond (bytes_eq w (codes "p")) (Some at_format) None
next_place at_format w = cond (bytes_eq w (codes "cnf")) (Some at_variables) None
next_place at_variables w = if_some (number_below (2 ^ 30) w) None (λ v. Some (at_count v))
next_place (at_count v) w = if_some (number_below (2 ^ 30) w) None (λ c. Some (at_clauses v c [] []))
next_place (at_clauses v k done begun) w = cond (eqb k 0) None (if_some (integer_below (v + 1) w) None (λ z. Some (with_number v k done begun z)))

abbrev pub answer_at : Place → Read
answer_at at_start = Err None
answer_at at_format = Err None
answer_at at_variables = Err None
answer_at (at_count v) = Err None
answer_at (at_clauses v k done begun) = cond (eqb k 0) (Ok (record { variables = v; clauses = done })) (Err None)

abbrev pub read_places : Place → List Word → Read
read_places p [] = answer_at p
read_places p (w ∷ ws) = if_some (next_place p w.bytes) (Err (Some w.line)) (λ q. read_places q ws)

-- the reader's own state at a place; its types are the crate's own below, so they are named by values of theirs

abbrev type_of : (A : Type 0) → A → Type 0
type_of A a = A

abbrev State : Type 0
State = type_of _ start

abbrev or_else : State → Option State → State
or_else r None = r
or_else r (Some x) = x

abbrev with_format : State
with_format = or_else start (stepped start (codes "p"))

abbrev with_variables : State
with_variables = or_else start (stepped with_format (codes "cnf"))

abbrev some_count : State
some_count = or_else start (stepped with_variables (48 ∷ []))

abbrev some_clauses : State
some_clauses = or_else start (stepped some_count (48 ∷ []))

abbrev state : Place → State
state at_start = start
state at_format = with_format
state at_variables = with_variables
state (at_count v) = record some_count { variables = v }
state (at_clauses v k done begun) = record some_clauses { variables = v; left = k; clauses = done; clause = begun }

abbrev state_of : Option Place → Option State
state_of None = None
state_of (Some p) = Some (state p)

text_same : (b : Bool) (p : Place) → cond b (Some (state p)) None ≡ state_of (cond b (Some p) None)
text_same true p = refl
text_same false p = refl

number_same : (o : Option ℕ) (f : ℕ → Place) → if_some o None (λ v. Some (state (f v))) ≡ state_of (if_some o None (λ v. Some (f v)))
number_same None f = refl
number_same (Some v) f = refl

literal_state : (v k : ℕ) (done : List (List Lit)) (begun : List Lit) (z : ℤ) → with_literal (state (at_clauses v k done begun)) z ≡ state (with_number v k done begun z)
literal_state v k done begun (pos zero) = refl
literal_state v k done begun (pos (suc n)) = refl
literal_state v k done begun (negsuc n) = refl

literal_same : (b : Bool) (o : Option ℤ) (v k : ℕ) (done : List (List Lit)) (begun : List Lit) → cond b None (if_some o None (λ z. Some (with_literal (state (at_clauses v k done begun)) z))) ≡ state_of (cond b None (if_some o None (λ z. Some (with_number v k done begun z))))
literal_same true o v k done begun = refl
literal_same false None v k done begun = refl
literal_same false (Some z) v k done begun = ap (λ (r : State). Some r) (literal_state v k done begun z)

taken : (p : Place) (w : List ℕ) → stepped (state p) w ≡ state_of (next_place p w)
taken at_start w = text_same (bytes_eq w (codes "p")) at_format
taken at_format w = text_same (bytes_eq w (codes "cnf")) at_variables
taken at_variables w = number_same (number_below (2 ^ 30) w) (λ v. at_count v)
taken (at_count v) w = number_same (number_below (2 ^ 30) w) (λ c. at_clauses v c [] [])
taken (at_clauses v k done begun) w = literal_same (eqb k 0) (integer_below (v + 1) w) v k done begun

ended_same : (p : Place) → finished_at (state p).stage (state p) ≡ answer_at p
ended_same at_start = refl
ended_same at_format = refl
ended_same at_variables = refl
ended_same (at_count v) = refl
ended_same (at_clauses v k done begun) = refl

mapped : (o : Option Place) (ws : List Word) (e : Read) → ((p : Place) → read_words (state p) ws ≡ read_places p ws) → if_some (state_of o) e (λ n. read_words n ws) ≡ if_some o e (λ p. read_places p ws)
mapped None ws e h = refl
mapped (Some p) ws e h = h p

same_reading : (p : Place) (ws : List Word) → read_words (state p) ws ≡ read_places p ws
same_reading p [] = ended_same p
same_reading p (w ∷ ws) =
    ap (λ (o : Option State). if_some o (Err (Some w.line)) (λ n. read_words n ws)) (taken p w.bytes)
    ∙ mapped (next_place p w.bytes) ws (Err (Some w.line)) (λ q. same_reading q ws)

pub same_answer : (ws : List Word) → read_words start ws ≡ read_places at_start ws
same_answer ws = same_reading at_start ws

-- after these words, where each fits
abbrev pub runs : Place → List (List ℕ) → Option Place
runs r [] = Some r
runs r (w ∷ ws) = if_some (next_place r w) None (λ next. runs next ws)

pub runs_step : (r next mid : Place) (w : List ℕ) (ws : List (List ℕ)) → next_place r w ≡ Some next → runs next ws ≡ Some mid → runs r (w ∷ ws) ≡ Some mid
runs_step r next mid w ws e h = ap (λ (o : Option Place). if_some o None (λ n. runs n ws)) e ∙ h

append_step : (r mid : Place) (w : List ℕ) (ws ys : List (List ℕ)) (o : Option Place) → next_place r w ≡ o → ((next : Place) → runs next ws ≡ Some mid → runs next (ws ++ ys) ≡ runs mid ys) → if_some o None (λ n. runs n ws) ≡ Some mid → runs r (w ∷ (ws ++ ys)) ≡ runs mid ys
append_step r mid w ws ys None h rest e = absurd cc
append_step r mid w ws ys (Some next) h rest e = ap (λ (o : Option Place). if_some o None (λ n. runs n (ws ++ ys))) h ∙ rest next e

pub runs-append : (r mid : Place) (xs ys : List (List ℕ)) → runs r xs ≡ Some mid → runs r (xs ++ ys) ≡ runs mid ys
runs-append r mid [] ys e = let same : r ≡ mid = cc in ap (λ (x : Place). runs x ys) same
runs-append r mid (w ∷ ws) ys e = append_step r mid w ws ys (next_place r w) refl (λ next h. runs-append next mid ws ys h) e

-- where words fit with others behind them, they fit
front_step : (r mid : Place) (w : List ℕ) (ws ys : List (List ℕ)) (o : Option Place) → next_place r w ≡ o → ((next : Place) → runs next (ws ++ ys) ≡ Some mid → (half : Place) × (runs next ws ≡ Some half)) → if_some o None (λ n. runs n (ws ++ ys)) ≡ Some mid → (half : Place) × (runs r (w ∷ ws) ≡ Some half)
front_step r mid w ws ys None h rest e = absurd cc
front_step r mid w ws ys (Some next) h rest e = let half = rest next e in (half.0, runs_step r next half.0 w ws h half.1)

pub front_runs : (r mid : Place) (xs ys : List (List ℕ)) → runs r (xs ++ ys) ≡ Some mid → (half : Place) × (runs r xs ≡ Some half)
front_runs r mid [] ys e = (r, refl)
front_runs r mid (w ∷ ws) ys e = front_step r mid w ws ys (next_place r w) refl (λ next h. front_runs next mid ws ys h) e

read_step : (r mid : Place) (w : Word) (ws rest : List Word) (o : Option Place) → next_place r w.bytes ≡ o → ((next : Place) → runs next (bytes_of ws) ≡ Some mid → read_places next (ws ++ rest) ≡ read_places mid rest) → if_some o None (λ n. runs n (bytes_of ws)) ≡ Some mid → read_places r (w ∷ (ws ++ rest)) ≡ read_places mid rest
read_step r mid w ws rest None h more e = absurd cc
read_step r mid w ws rest (Some next) h more e = ap (λ (o : Option Place). if_some o (Err (Some w.line)) (λ n. read_places n (ws ++ rest))) h ∙ more next e

-- the answer after words that fit
pub read_on : (r mid : Place) (front rest : List Word) → runs r (bytes_of front) ≡ Some mid → read_places r (front ++ rest) ≡ read_places mid rest
read_on r mid [] rest e = let same : r ≡ mid = cc in ap (λ (x : Place). read_places x rest) same
read_on r mid (w ∷ ws) rest e = read_step r mid w ws rest (next_place r w.bytes) refl (λ next h. read_on next mid ws rest h) e

-- the end of the words is reached
pub record Reaches (r : Place) (ws : List Word) (answer : Read) : Type 0 where
  pub mid : Place
  pub ran : runs r (bytes_of ws) ≡ Some mid
  pub answers : answer_at mid ≡ answer

-- a word does not fit
pub record Stops (r : Place) (ws : List Word) (k : ℕ) : Type 0 where
  pub front : List Word
  pub word : Word
  pub behind : List Word
  pub mid : Place
  pub are : ws ≡ front ++ word ∷ behind
  pub ran : runs r (bytes_of front) ≡ Some mid
  pub unfit : next_place mid word.bytes ≡ None
  pub line : word.line ≡ k

neither : (f : Formula) (k : ℕ) (b : Bool) → cond b (Ok f) (Err None) ≡ Err (Some k) → ⊥
neither f k true e = cc
neither f k false e = cc

never_stops : (r : Place) (k : ℕ) → answer_at r ≡ Err (Some k) → ⊥
never_stops at_start k e = cc
never_stops at_format k e = cc
never_stops at_variables k e = cc
never_stops (at_count v) k e = cc
never_stops (at_clauses v left done begun) k e = neither (record { variables = v; clauses = done }) k (eqb left 0) e

-- where a whole is answered, its end is reached, unless a word stops it
reaches_step : (r : Place) (w : Word) (ws : List Word) (answer : Read) (o : Option Place) → next_place r w.bytes ≡ o → ((k : ℕ) → answer ≡ Err (Some k) → ⊥) → ((next : Place) → read_places next ws ≡ answer → Reaches next ws answer) → if_some o (Err (Some w.line)) (λ n. read_places n ws) ≡ answer → Reaches r (w ∷ ws) answer
reaches_step r w ws answer None h ends rest e = absurd (ends w.line (sym e))
reaches_step r w ws answer (Some next) h ends rest e =
    let there = rest next e in
    record { mid = there.mid; ran = runs_step r next there.mid w.bytes (bytes_of ws) h there.ran; answers = there.answers }

pub reaches : (r : Place) (ws : List Word) (answer : Read) → ((k : ℕ) → answer ≡ Err (Some k) → ⊥) → read_places r ws ≡ answer → Reaches r ws answer
reaches r [] answer ends e = record { mid = r; ran = refl; answers = e }
reaches r (w ∷ ws) answer ends e = reaches_step r w ws answer (next_place r w.bytes) refl ends (λ next h. reaches next ws answer ends h) e

stops_step : (r : Place) (w : Word) (ws : List Word) (k : ℕ) (o : Option Place) → next_place r w.bytes ≡ o → ((next : Place) → read_places next ws ≡ Err (Some k) → Stops next ws k) → if_some o (Err (Some w.line)) (λ n. read_places n ws) ≡ Err (Some k) → Stops r (w ∷ ws) k
stops_step r w ws k None h rest e = record { front = []; word = w; behind = ws; mid = r; are = refl; ran = refl; unfit = h; line = cc }
stops_step r w ws k (Some next) h rest e =
    let there = rest next e in
    record {
      front = w ∷ there.front;
      word = there.word;
      behind = there.behind;
      mid = there.mid;
      are = ap (λ (xs : List Word). w ∷ xs) there.are;
      ran = runs_step r next there.mid w.bytes (bytes_of there.front) h there.ran;
      unfit = there.unfit;
      line = there.line;
    }

pub stops : (r : Place) (ws : List Word) (k : ℕ) → read_places r ws ≡ Err (Some k) → Stops r ws k
stops r [] k e = absurd (never_stops r k e)
stops r (w ∷ ws) k e = stops_step r w ws k (next_place r w.bytes) refl (λ next h. stops next ws k h) e

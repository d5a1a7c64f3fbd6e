-- An expansion has one outcome: that of each bound which is large enough.
use Rattle.std.proofs.Common.{◌≡◌, ℕ, suc, ◌+◌, ◌-◌, ◌≤◌, Bool, Ok, List, [], ◌∷◌, length, refl, ap, sym, ◌∙◌, arith}
use Rattle.vl_lex.specs.Lexed.{Seen}
use Rattle.vl_lex.specs.Gate.{SGate, Reached, and_then}
use Rattle.vl_lex.specs.Macros.{Table, body_token, expanded}
use Rattle.vl_lex.specs.Bytes.{Text}
use Rattle.vl_lex.proofs.Unbounded.{reaches}
use Rattle.vl_lex.specs.Expansion.{Covers, Expands, body_ends, goes_on, is_halted, body_goes, body_halts, no_macro}
use Rattle.vl_lex.proofs.Expands.{enters, refuses, feeds}

-- each bound that is no less than some number gives this outcome
pub record IsMet (implicit : Bool) (table : Table) (body : List Seen) (g : SGate) (reached : Reached SGate) : Type 0 where
  pub least : ℕ
  pub meets : (bound : ℕ) → least ≤ bound → expanded bound table implicit body g ≡ reached

first : (bound : ℕ) (table : Table) (implicit : Bool) (t : Seen) (ts : List Seen) (g : SGate) → expanded bound table implicit (t ∷ ts) g ≡ and_then (body_token bound table implicit t g) (expanded bound table implicit ts)
unfolding expanded
first bound table implicit t ts g = refl

none : (bound : ℕ) (table : Table) (implicit : Bool) (g : SGate) → expanded bound table implicit [] g ≡ Ok g
unfolding expanded
none bound table implicit g = refl

-- the first token gives a state, or ends the walk
goes : (bound : ℕ) (table : Table) (implicit : Bool) (t : Seen) (ts : List Seen) (g n : SGate) → body_token bound table implicit t g ≡ Ok n → expanded bound table implicit (t ∷ ts) g ≡ expanded bound table implicit ts n
goes bound table implicit t ts g n e = first bound table implicit t ts g ∙ ap (λ z. and_then z (expanded bound table implicit ts)) e

pub is_met : {implicit : Bool} {table : Table} {body : List Seen} {g : SGate} {reached : Reached SGate} → Expands implicit table body g reached → IsMet implicit table body g reached
is_met {implicit} {table} (body_ends {g = g}) = record { least = 0; meets = λ bound h. none bound table implicit g }
is_met {implicit} {table} (goes_on {t = t} {ts = ts} {g = g} {n = n} is fed_on more) =
    let m = is_met more in
    record { least = m.least; meets = λ bound h. goes bound table implicit t ts g n (feeds bound table implicit t g is ∙ fed_on) ∙ m.meets bound h }
is_met {implicit} {table} (is_halted {t = t} {ts = ts} {g = g} is halts) =
    record { least = 0; meets = λ bound h. first bound table implicit t ts g ∙ ap (λ z. and_then z (expanded bound table implicit ts)) (feeds bound table implicit t g is ∙ halts) }
is_met {implicit} {table} (body_goes {t = t} {ts = ts} {body = body} {g = g} {n = n} is there inner more) =
    let i = is_met inner in
    let m = is_met more in
    record {
      least = suc (i.least + m.least);
      meets = λ bound h. goes bound table implicit t ts g n (enters bound table implicit t body g (omega arith) is there ∙ i.meets (bound - 1) (omega arith)) ∙ m.meets bound (omega arith);
    }
is_met {implicit} {table} (body_halts {t = t} {ts = ts} {body = body} {g = g} is there inner) =
    let i = is_met inner in
    record {
      least = suc i.least;
      meets = λ bound h. first bound table implicit t ts g ∙ ap (λ z. and_then z (expanded bound table implicit ts)) (enters bound table implicit t body g (omega arith) is there ∙ i.meets (bound - 1) (omega arith));
    }
is_met {implicit} {table} (no_macro {t = t} {ts = ts} {g = g} is gone) =
    record { least = 0; meets = λ bound h. first bound table implicit t ts g ∙ ap (λ z. and_then z (expanded bound table implicit ts)) (refuses bound table implicit t g (λ l. gone) is) }

pub one_outcome : (implicit : Bool) (table : Table) (body : List Seen) (g : SGate) (one other : Reached SGate) → Expands implicit table body g one → Expands implicit table body g other → one ≡ other
one_outcome implicit table body g one other a b =
    let m = is_met a in
    let n = is_met b in
    sym (m.meets (m.least + n.least) (omega arith)) ∙ n.meets (m.least + n.least) (omega arith)

pub some_outcome : (implicit : Bool) (table : Table) (names : List Text) (body : List Seen) (g : SGate) → Covers table names → (reached : Reached SGate) × Expands implicit table body g reached
some_outcome implicit table names body g covers = (expanded (length names) table implicit body g, reaches (length names) table names implicit body g covers (omega arith))

-- The rules that lead back to themselves, by induction on the depth.
use Rattle.std.proofs.Common.{◌≡◌, ℕ, zero, suc, ◌<◌, ◌≤◌, Bool, true, false, not, ◌||◌, inl, inr, [], length, Option, Some, None, refl, ap, sym, ◌∙◌, arith}
use Rattle.vl_tree.specs.declared.words.Word.{Word}
use Rattle.vl_tree.specs.declared.words.Word.TheVariants as word
use Rattle.vl_tree.specs.Words.{next}
use Rattle.vl_grammar.specs.Read.{Tokens}
use Rattle.vl_rules.specs.Form.{Rule, Tree, Form, rule_begins, rule_joins, skips, starts, goes_on, leads, decided, reads}
use Rattle.vl_rules.specs.Modules.{body, spelled_to, read_to, Stands}
use Rattle.vl_rules.proofs.Tools.{got, at_word, not_true, never}
use Rattle.vl_rules.proofs.Opens.{Opens, Begins, opens}
use Rattle.vl_rules.proofs.Sound.{Sound, sound}
use Rattle.vl_rules.proofs.Again.{again}
use Rattle.vl_rules.proofs.Tests.{body_decided, body_leads, body_takes, body_begins, body_joins}

implies : (a b : Bool) → (not a || b) ≡ true → a ≡ true → b ≡ true
implies true b h k = h
implies false b h k = cc

pub implies_not : (a b : Bool) → (not a || b) ≡ true → b ≡ false → a ≡ false
implies_not true b h k = cc
implies_not false b h k = refl

takes : (r : Rule) (w : Word) → skips (body r) w ≡ false
takes r w = not_true (skips (body r) w) (at_word (λ w. not (skips (body r) w)) (body_takes r) w)

opened : (r : Rule) (ts rest : Tokens) → Opens (body r) ts rest → (rule_begins r (next ts) ≡ true) × (length rest < length ts)
opened r ts rest (inl a) = (implies (starts (body r) (next ts)) (rule_begins r (next ts)) (at_word (λ w. not (starts (body r) w) || rule_begins r w) (body_begins r) (next ts)) a.0, a.1)
opened r ts rest (inr a) = never (skips (body r) (next ts)) a.1 (takes r (next ts))

pub begins_to : (n : ℕ) → Begins (spelled_to n)
unfolding spelled_to
begins_to zero r x ts rest d = absurd d
begins_to (suc n) r x ts rest d = opened r ts rest (opens (spelled_to n) (begins_to n) (body r) x ts rest d)

pub sound_to : (n : ℕ) (r : Rule) → Sound (spelled_to n r) (read_to n r)
unfolding spelled_to read_to
sound_to zero r x ts rest h = cc
sound_to (suc n) r x ts rest h = sound (spelled_to n) (read_to n) (sound_to n) (body r) x ts rest h

pub again_to : (f n : ℕ) (r : Rule) (x : Tree r) (ts rest : Tokens) → length ts ≤ f → spelled_to n r x ts rest → rule_joins r (next rest) ≡ false → read_to f r ts ≡ got x rest
unfolding spelled_to read_to
again_to f zero r x ts rest le d k = absurd d
again_to zero (suc n) r x ts rest le d k = absurd (omega (arith, le, (opened r ts rest (opens (spelled_to n) (begins_to n) (body r) x ts rest d)).1))
again_to (suc f) (suc n) r x ts rest le d k =
    again (spelled_to n) (read_to f) (begins_to n) f (λ r x ts rest le d k. again_to f n r x ts rest le d k) (body r) (body_decided r) x ts rest
    (record { short = le; led = λ h. never (leads (body r)) h (body_leads r) }) d
    (implies_not (goes_on (body r) (next rest)) (rule_joins r (next rest)) (at_word (λ w. not (goes_on (body r) w) || rule_joins r w) (body_joins r) (next rest)) k)

-- what is read is spelled
pub reads_spelled : {A : Type 0} (p : Form A) (n : ℕ) (x : A) (ts rest : Tokens) → reads (read_to n) p ts ≡ got x rest → Stands p x ts rest
reads_spelled p n x ts rest h = (n, sound (spelled_to n) (read_to n) (sound_to n) p x ts rest h)

-- what is spelled is read again
pub reads_again : {A : Type 0} (p : Form A) → decided p ≡ true → (f : ℕ) (x : A) (ts rest : Tokens) → length ts ≤ f → Stands p x ts rest → goes_on p (next rest) ≡ false
    → reads (read_to f) p ts ≡ got x rest
reads_again p h f x ts rest le d k =
    again (spelled_to d.0) (read_to f) (begins_to d.0) f (λ r x ts rest le s k. again_to f d.0 r x ts rest le s k) p h x ts rest
    (record { short = omega (arith, le); led = λ _. le }) d.1 k

abbrev first_or : {A : Type 0} → A → Option (A × Tokens) → A
first_or t (Some p) = p.0
first_or t None = t

-- at most one tree spells a list of tokens
pub one_tree : {A : Type 0} (p : Form A) → decided p ≡ true → goes_on p word.EndOfTokens ≡ false → (t u : A) (ts : Tokens) → Stands p t ts [] → Stands p u ts [] → t ≡ u
one_tree p h k t u ts d e =
    let same : got t [] ≡ got u [] = sym (reads_again p h (length ts) t ts [] (omega arith) d k) ∙ reads_again p h (length ts) u ts [] (omega arith) e k in
    ap (first_or t) same

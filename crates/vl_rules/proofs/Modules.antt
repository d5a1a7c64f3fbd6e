-- The laws at modules and at rules.
use Rattle.std.proofs.Common.{◌≡◌, ℕ, ◌<◌, ◌≤◌, false, not, ◌||◌, List, [], length, Option, None, Some, sym, ap, ◌∙◌, arith}
use Rattle.vl_tree.specs.declared.words.Word.{Word}
use Rattle.vl_tree.specs.declared.words.Word.TheVariants as word
use Rattle.vl_tree.specs.declared.modules.Module.{Module}
use Rattle.vl_tree.specs.Words.{next}
use Rattle.vl_grammar.specs.Read.{Tokens}
use Rattle.vl_rules.specs.Form.{Rule, Tree, rule_joins, goes_on, reads}
use Rattle.vl_rules.specs.Modules.{body, module_form, source, read_to, Stands}
use Rattle.vl_rules.proofs.Tools.{at_word, not_true}
use Rattle.vl_rules.proofs.Tests.{module_decided, module_ends, source_decided, source_ends, body_decided, body_joins}
use Rattle.vl_rules.proofs.Knot.{reads_spelled, reads_again, one_tree, implies_not}

ends : (w : Word) → goes_on module_form w ≡ false
ends w = not_true (goes_on module_form w) (at_word (λ w. not (goes_on module_form w)) module_ends w)

pub module_spelled : (f : ℕ) (m : Module) (ts rest : Tokens) → reads (read_to f) module_form ts ≡ Some (m, rest) → Stands module_form m ts rest
module_spelled f m ts rest h = reads_spelled module_form f m ts rest h

pub module_again : (f : ℕ) (m : Module) (ts rest : Tokens) → length ts ≤ f → Stands module_form m ts rest → reads (read_to f) module_form ts ≡ Some (m, rest)
module_again f m ts rest le d = reads_again module_form module_decided f m ts rest le d (ends (next rest))

pub module_one : (m n : Module) (ts : Tokens) → Stands module_form m ts [] → Stands module_form n ts [] → m ≡ n
module_one m n ts d e = one_tree module_form module_decided (ends word.EndOfTokens) m n ts d e

pub rule_spelled : (f : ℕ) (r : Rule) (x : Tree r) (ts rest : Tokens) → reads (read_to f) (body r) ts ≡ Some (x, rest) → Stands (body r) x ts rest
rule_spelled f r x ts rest h = reads_spelled (body r) f x ts rest h

pub rule_again : (f : ℕ) (r : Rule) (x : Tree r) (ts rest : Tokens) → length ts ≤ f → Stands (body r) x ts rest → rule_joins r (next rest) ≡ false → reads (read_to f) (body r) ts ≡ Some (x, rest)
rule_again f r x ts rest le d k =
    reads_again (body r) (body_decided r) f x ts rest le d
    (implies_not (goes_on (body r) (next rest)) (rule_joins r (next rest)) (at_word (λ w. not (goes_on (body r) w) || rule_joins r w) (body_joins r) (next rest)) k)

abbrev rest_or : {A : Type 0} → Tokens → Option (A × Tokens) → Tokens
rest_or us (Some p) = p.1
rest_or us None = us

-- no module spells tokens that are not read to their end
pub none_refused : (ts : Tokens) → reads (read_to (length ts)) module_form ts ≡ None → (m : Module) → Stands module_form m ts [] → ⊥
none_refused ts h m d = let same : ◌≡◌ {A = Option (Module × Tokens)} None (Some (m, [])) = sym h ∙ module_again (length ts) m ts [] (omega arith) d in cc

pub none_left : (ts : Tokens) (n : Module) (rest : Tokens) → reads (read_to (length ts)) module_form ts ≡ Some (n, rest) → 0 < length rest
    → (m : Module) → Stands module_form m ts [] → ⊥
none_left ts n rest h some m d =
    let same : ◌≡◌ {A = Option (Module × Tokens)} (Some (n, rest)) (Some (m, [])) = sym h ∙ module_again (length ts) m ts [] (omega arith) d in
    let none : length rest ≡ 0 = ap length (ap (rest_or []) same) in
    absurd (omega (arith, none, some))

pub source_one : (ms ns : List Module) (ts : Tokens) → Stands source ms ts [] → Stands source ns ts [] → ms ≡ ns
source_one ms ns ts d e = one_tree source source_decided source_ends ms ns ts d e

-- The rules that lead back to themselves, by induction on the depth, and modules and sources.
use Rattle.std.proofs.Common.{ℕ, zero, suc, List, [], subst}
use Rattle.vl_tree.specs.declared.modules.Module.{Module}
use Rattle.vl_grammar.specs.Read.{Tokens}
use Rattle.vl_rules.specs.Form.{Rule, Tree, Form, Spells}
use Rattle.vl_rules.specs.Modules.{module_form, source, body, spelled_to, Stands}
use Rattle.grammar_views.proofs.Like.{Like, Found, like_none}
use Rattle.grammar_views.proofs.Twins.{Fair, twin}
use Rattle.grammar_views.proofs.Fair.{fair_body, fair_module, fair_source}

like_to : (n : ℕ) (r : Rule) (x : Tree r) (ts rest us : Tokens) → spelled_to n r x ts rest → Like ts us → Found (spelled_to n r) us rest
unfolding spelled_to
like_to zero r x ts rest us d l = absurd d
like_to (suc n) r x ts rest us d l =
    let i = twin (spelled_to n) (like_to n) (body r) (fair_body r) x ts rest us d l in
    record { tree = i.tree; behind = i.behind; stands = i.stands; like = i.like }

-- a tree that spells the whole of tokens has one that spells the whole of tokens that say the same
whole_to : {A : Type 0} (p : Form A) → Fair p → (x : A) (ts us : Tokens) → Stands p x ts [] → Like ts us → (y : A) × Stands p y us []
whole_to p f x ts us d l =
    let i = twin (spelled_to d.0) (like_to d.0) p f x ts [] us d.1 l in
    (i.tree, (d.0, subst (λ z. Spells (spelled_to d.0) p i.tree us z) (like_none i.behind i.like) i.stands))

pub module_like : (m : Module) (ts us : Tokens) → Stands module_form m ts [] → Like ts us → (n : Module) × Stands module_form n us []
module_like m ts us d l = whole_to module_form fair_module m ts us d l

pub source_like : (ms : List Module) (ts us : Tokens) → Stands source ms ts [] → Like ts us → (ns : List Module) × Stands source ns us []
source_like ms ts us d l = whole_to source fair_source ms ts us d l

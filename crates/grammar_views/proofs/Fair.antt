-- The tests of the grammar's forms answer the same of trees that are made in the same way.
use Rattle.std.proofs.Common.{◌≡◌, ℕ, suc, ◌+◌, ◌==◌, Bool, true, cond, ◌&&◌, inl, inr, List, [], ◌∷◌, length, refl, ap, sym, ◌∙◌, subst}
use Rattle.std.specs.Prelude.{nat_le, fold}
use Rattle.std.specs.List.{list_all}
use Rattle.vl_tree.specs.declared.words.Word.{Word}
use Rattle.vl_tree.specs.declared.words.Word.TheVariants as word
use Rattle.vl_tree.specs.declared.statements.CaseWord.{CaseWord}
use Rattle.vl_tree.specs.declared.statements.CaseWord.TheVariants as kind
use Rattle.vl_tree.specs.declared.statements.Citem.{Citem}
use Rattle.vl_tree.specs.declared.modules.GenArm.{GenArm}
use Rattle.vl_tree.specs.declared.modules.Gate.{Gate}
use Rattle.vl_tree.specs.declared.modules.Gate.TheVariants as gate
use Rattle.vl_tree.specs.declared.modules.GateInstance.{GateInstance}
use Rattle.vl_tree.specs.declared.modules.GateItem.{GateItem}
use Rattle.vl_rules.specs.Form.{Rule, lval, stmt, item, Form, fixed, value, many}
use Rattle.vl_rules.specs.Shapes.{◌▸◌, ◌◂◌, ◌⊗◌, means, list, in_parens, ended}
use Rattle.vl_rules.specs.Declarations.{range, type_form, direction, net_word, var, ports_item, nets_item, constant_word, constant_value, constants_item}
use Rattle.vl_rules.specs.Ports.{first_parameter, next_parameter, other_parameter, parameters, parameter_part, port_head, first_port, next_port, other_port, declared_ports, port_list, port_part}
use Rattle.vl_rules.specs.Events.{selects, left_side, edge_word, edge, joint, next_edge, edges, listed_events, events}
use Rattle.vl_rules.specs.Statements.{block_name, loop_head, sequence, otherwise, choice, default_word, arm_values, arm, is_default, at_most_one, arm_row, arms, cases, turns, assign_word, write, statement}
use Rattle.vl_rules.specs.Functions.{function_input, inputs, local_word, vector, declaration, function}
use Rattle.vl_rules.specs.Instances.{named_bind, values, instance, overrides, instances_item, gate_word, gate_instance, has_one_input, right_inputs_of, right_inputs, any_gates, gates_item}
use Rattle.vl_rules.specs.Generate.{block_items, block_form, item_loop, block_otherwise, item_choice, item_arm, is_default_item, item_arms, item_cases, generated}
use Rattle.vl_rules.specs.Items.{assignment, process, integers_item, loop_names_item, assigns_item, start_item, region, declared_item, written_item, placed_item, item_form}
use Rattle.vl_rules.specs.Modules.{module_text, module_form, source, body}
use Rattle.grammar_views.proofs.Twins.{Each, Firsts, Alike, Fair, untested, fair}

-- One `default`

counted : {A : Type 0} (f : A → Bool) (S : A → A → Type 0) → ((x y : A) → S x y → f x ≡ f y) → (n : ℕ) (xs ys : List A) → Each S xs ys
    → fold (λ a x. a + cond (f x) 1 0) n xs ≡ fold (λ a x. a + cond (f x) 1 0) n ys
counted f S h n [] [] d = refl
counted f S h n [] (y ∷ ys) d = absurd d
counted f S h n (x ∷ xs) [] d = absurd d
counted f S h n (x ∷ xs) (y ∷ ys) d =
    ap (λ b. fold (λ a x. a + cond (f x) 1 0) (n + cond b 1 0) xs) (h x y d.0) ∙ counted f S h (n + cond (f y) 1 0) xs ys d.1

counts_same : {A : Type 0} (f : A → Bool) (S : A → A → Type 0) → ((x y : A) → S x y → f x ≡ f y) → (xs ys : List A) → Each S xs ys → at_most_one f xs ≡ at_most_one f ys
counts_same f S h xs ys d = ap (λ n. nat_le n 1) (counted f S h 0 xs ys d)

-- rows whose first member is of the same kind as the others
all_same : {A : Type 0} (S : A → A → Type 0) (xs ys : List A) → Firsts S S xs ys → Each S xs ys
all_same S [] [] d = absurd d
all_same S [] (y ∷ ys) d = absurd d
all_same S (x ∷ xs) [] d = absurd d
all_same S (x ∷ xs) (y ∷ ys) d = d

default_same : (k : CaseWord) (x y : Citem) → Alike (arm k) x y → is_default x ≡ is_default y
unfolding arm
default_same k x y (inl d) = sym (ap is_default d.2) ∙ ap is_default d.3
default_same k x y (inr d) = sym (ap is_default d.2) ∙ ap is_default d.3

default_item_same : (x y : GenArm) → Alike item_arm x y → is_default_item x ≡ is_default_item y
unfolding item_arm
default_item_same x y (inl d) = sym (ap is_default_item d.2) ∙ ap is_default_item d.3
default_item_same x y (inr d) = sym (ap is_default_item d.2) ∙ ap is_default_item d.3

-- Forms in forms

parens_alike : {A : Type 0} (p : Form A) (x y : A) → Alike (in_parens p) x y → Alike p x y
parens_alike p x y d =
    let c = d.4.0 in
    subst (λ z. Alike p z y) d.2 (subst (λ z. Alike p d.0.0 z) d.3 (subst (λ z. Alike p z d.1.0) c.2 (subst (λ z. Alike p c.0.1 z) c.3 c.4.1)))

ended_alike : {A : Type 0} (p : Form A) (x y : A) → Alike (ended p) x y → Alike p x y
ended_alike p x y d = subst (λ z. Alike p z y) d.2 (subst (λ z. Alike p d.0.0 z) d.3 d.4.0)

means_alike : {A : Type 0} (w : Word) (a x y : A) → Alike (means w a) x y → x ≡ y
means_alike w a x y d = sym d.2 ∙ d.3

-- Gates

gate_same : (x y : Gate) → Alike gate_word x y → x ≡ y
unfolding gate_word
gate_same x y (inl d) = means_alike word.And gate.And x y d
gate_same x y (inr (inl d)) = means_alike word.Nand gate.Nand x y d
gate_same x y (inr (inr (inl d))) = means_alike word.Or gate.Or x y d
gate_same x y (inr (inr (inr (inl d)))) = means_alike word.Nor gate.Nor x y d
gate_same x y (inr (inr (inr (inr (inl d))))) = means_alike word.Xor gate.Xor x y d
gate_same x y (inr (inr (inr (inr (inr (inl d)))))) = means_alike word.Xnor gate.Xnor x y d
gate_same x y (inr (inr (inr (inr (inr (inr (inl d))))))) = means_alike word.Buf gate.Buf x y d
gate_same x y (inr (inr (inr (inr (inr (inr (inr d))))))) = means_alike word.Not gate.Not x y d

each_length : {A : Type 0} (S : A → A → Type 0) (xs ys : List A) → Each S xs ys → length xs ≡ length ys
each_length S [] [] d = refl
each_length S [] (y ∷ ys) d = absurd d
each_length S (x ∷ xs) [] d = absurd d
each_length S (x ∷ xs) (y ∷ ys) d = ap (λ n. suc n) (each_length S xs ys d.1)

firsts_length : {A : Type 0} (S T : A → A → Type 0) (xs ys : List A) → Firsts S T xs ys → length xs ≡ length ys
firsts_length S T [] [] d = absurd d
firsts_length S T [] (y ∷ ys) d = absurd d
firsts_length S T (x ∷ xs) [] d = absurd d
firsts_length S T (x ∷ xs) (y ∷ ys) d = ap (λ n. suc n) (each_length T xs ys d.1)

one_input_same : (x y : GateInstance) → Alike gate_instance x y → has_one_input x ≡ has_one_input y
unfolding gate_instance
one_input_same x y d =
    let inner = parens_alike (left_side ◂ fixed word.Comma ⊗ list value) d.0.1 d.1.1 d.4.1 in
    sym (ap has_one_input d.2)
    ∙ (ap (λ n. n == 1) (firsts_length (Alike value) (Alike (fixed word.Comma ▸ value)) d.0.1.1 d.1.1.1 inner.1)
    ∙ ap has_one_input d.3)

tested_same : {A : Type 0} (f : A → Bool) (S : A → A → Type 0) → ((x y : A) → S x y → f x ≡ f y) → (xs ys : List A) → Each S xs ys → list_all f xs ≡ list_all f ys
tested_same f S h [] [] d = refl
tested_same f S h [] (y ∷ ys) d = absurd d
tested_same f S h (x ∷ xs) [] d = absurd d
tested_same f S h (x ∷ xs) (y ∷ ys) d = ap (λ b. b && list_all f xs) (h x y d.0) ∙ ap (λ b. f y && b) (tested_same f S h xs ys d.1)

abbrev OneInput : GateInstance → GateInstance → Type 0
OneInput x y = has_one_input x ≡ has_one_input y

each_input : (xs ys : List GateInstance) → Each (Alike (fixed word.Comma ▸ gate_instance)) xs ys → Each OneInput xs ys
each_input [] [] d = tt
each_input [] (y ∷ ys) d = absurd d
each_input (x ∷ xs) [] d = absurd d
each_input (x ∷ xs) (y ∷ ys) d = (subst (λ z. OneInput z y) d.0.2 (subst (λ z. OneInput d.0.0.1 z) d.0.3 (one_input_same d.0.0.1 d.0.1.1 d.0.4.1)), each_input xs ys d.1)

inputs_same : (xs ys : List GateInstance) → Alike (list gate_instance) xs ys → Each OneInput xs ys
inputs_same [] [] d = absurd d
inputs_same [] (y ∷ ys) d = absurd d
inputs_same (x ∷ xs) [] d = absurd d
inputs_same (x ∷ xs) (y ∷ ys) d = (one_input_same x y d.0, each_input xs ys d.1)

right_same : (g : Gate) (xs ys : List GateInstance) → Each OneInput xs ys → right_inputs_of g xs ≡ right_inputs_of g ys
right_same gate.Buf xs ys d = tested_same has_one_input OneInput (λ x y h. h) xs ys d
right_same gate.Not xs ys d = tested_same has_one_input OneInput (λ x y h. h) xs ys d
right_same _ xs ys d = refl

gates_same : (x y : GateItem) → Alike any_gates x y → right_inputs x ≡ right_inputs y
unfolding any_gates
gates_same x y d =
    let inner = ended_alike (gate_word ⊗ list gate_instance) d.0 d.1 d.4 in
    sym (ap right_inputs d.2)
    ∙ (ap (λ g. right_inputs_of g d.0.1) (gate_same d.0.0 d.1.0 inner.0)
    ∙ (right_same d.1.0 d.0.1 d.1.1 (inputs_same d.0.1 d.1.1 inner.1)
    ∙ ap right_inputs d.3))

-- Forms with tests

fair_arm : (k : CaseWord) → untested (arm k) ≡ true
unfolding arm arm_values default_word
fair_arm kind.Case = refl
fair_arm kind.CaseZ = refl

fair_arms : (k : CaseWord) → Fair (arms k)
unfolding arms arm_row
fair_arms k =
    (λ x y d. counts_same is_default (Alike (arm k)) (default_same k) x y (all_same (Alike (arm k)) x y d), (fair (arm k) (fair_arm k), fair (arm k) (fair_arm k)))

fair_cases : (w : Word) (k : CaseWord) → Fair (cases w k)
unfolding cases
fair_cases w k = ((fair (fixed w ▸ in_parens value) refl, fair_arms k), tt)

fair_statement : Fair statement
unfolding statement sequence choice turns write block_name otherwise loop_head assign_word left_side selects
fair_statement =
    (tt, (fair sequence refl, (fair choice refl, (fair_cases word.Case kind.Case, (fair_cases word.CaseZ kind.CaseZ, (fair turns refl, fair write refl))))))

fair_item_arms : Fair item_arms
unfolding item_arms item_arm block_form block_items default_word block_name
fair_item_arms = (λ x y d. counts_same is_default_item (Alike item_arm) default_item_same x y d, fair (many item_arm) refl)

fair_item_cases : Fair item_cases
unfolding item_cases
fair_item_cases = ((fair (fixed word.Case ▸ in_parens value) refl, fair_item_arms), tt)

fair_gates : Fair gates_item
unfolding gates_item any_gates gate_word gate_instance left_side selects
fair_gates = (gates_same, fair any_gates refl)

fair_generated : Fair generated
unfolding generated item_loop item_choice block_form block_items block_otherwise loop_head block_name
fair_generated = (fair item_loop refl, (fair item_choice refl, fair_item_cases))

fair_item : Fair item_form
unfolding item_form declared_item written_item placed_item region range type_form direction net_word var ports_item nets_item constant_word constant_value constants_item integers_item loop_names_item assigns_item assignment process start_item function function_input inputs local_word vector declaration instances_item instance overrides values named_bind left_side selects edge_word edge joint next_edge edges listed_events events
fair_item = (fair declared_item refl, (fair written_item refl, ((fair instances_item refl, fair_gates), (fair region refl, fair_generated))))

pub fair_body : (r : Rule) → Fair (body r)
unfolding body left_side selects
fair_body lval = fair left_side refl
fair_body stmt = fair_statement
fair_body item = fair_item

pub fair_module : Fair module_form
unfolding module_form module_text parameter_part parameters first_parameter other_parameter next_parameter port_part port_list declared_ports first_port other_port next_port port_head range type_form direction net_word var
fair_module = fair module_form refl

pub fair_source : Fair source
unfolding source
fair_source = fair_module

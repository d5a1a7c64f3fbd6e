-- The tests of the grammar's forms: the next word says at each place how a form goes on.
use Rattle.std.proofs.Common.{◌≡◌, true, false, not, ◌||◌, refl}
use Rattle.vl_tree.specs.Words.{same_word}
use Rattle.vl_tree.specs.declared.words.Word.TheVariants as word
use Rattle.vl_grammar.specs.Roles.{binds, is_unary}
use Rattle.vl_tree.specs.AllWords.{all}
use Rattle.vl_rules.specs.Form.{Rule, lval, stmt, item, rule_begins, rule_joins, begins, joins, skips, starts, goes_on, leads, decided}
use Rattle.vl_rules.specs.Declarations.{range, type_form, direction, net_word, var, ports_item, nets_item, constant_word, constant_value, constants_item}
use Rattle.vl_rules.specs.Ports.{first_parameter, next_parameter, other_parameter, parameters, parameter_part, port_head, first_port, next_port, other_port, declared_ports, port_list, port_part}
use Rattle.vl_rules.specs.Events.{selects, left_side, edge_word, edge, joint, next_edge, edges, listed_events, events}
use Rattle.vl_rules.specs.Statements.{block_name, loop_head, sequence, otherwise, choice, default_word, arm_values, arm, arm_row, arms, cases, turns, assign_word, write, statement}
use Rattle.vl_rules.specs.Functions.{function_input, inputs, local_word, vector, declaration, function}
use Rattle.vl_rules.specs.Instances.{named_bind, values, instance, overrides, instances_item, gate_word, gate_instance, any_gates, gates_item}
use Rattle.vl_rules.specs.Generate.{block_items, block_form, item_loop, block_otherwise, item_choice, item_arm, item_arms, item_cases, generated}
use Rattle.vl_rules.specs.Items.{assignment, process, integers_item, loop_names_item, assigns_item, start_item, region, declared_item, written_item, placed_item, item_form}
use Rattle.vl_rules.specs.Modules.{module_text, module_form, source, body}
use Rattle.vl_rules.proofs.Ends.{may_close}

pub body_decided : (r : Rule) → decided (body r) ≡ true
unfolding same_word begins joins binds is_unary rule_begins rule_joins range type_form direction net_word var ports_item nets_item constant_word constant_value constants_item first_parameter next_parameter other_parameter parameters parameter_part port_head first_port next_port other_port declared_ports port_list port_part selects left_side edge_word edge joint next_edge edges listed_events events block_name loop_head sequence otherwise choice default_word arm_values arm arm_row arms cases turns assign_word write statement function_input inputs local_word vector declaration function named_bind values instance overrides instances_item gate_word gate_instance any_gates gates_item block_items block_form item_loop block_otherwise item_choice item_arm item_arms item_cases generated assignment process integers_item loop_names_item assigns_item start_item region declared_item written_item placed_item item_form module_text module_form source body
body_decided lval = refl
body_decided stmt = refl
body_decided item = refl

pub body_leads : (r : Rule) → leads (body r) ≡ false
unfolding same_word begins joins binds is_unary rule_begins rule_joins range type_form direction net_word var ports_item nets_item constant_word constant_value constants_item first_parameter next_parameter other_parameter parameters parameter_part port_head first_port next_port other_port declared_ports port_list port_part selects left_side edge_word edge joint next_edge edges listed_events events block_name loop_head sequence otherwise choice default_word arm_values arm arm_row arms cases turns assign_word write statement function_input inputs local_word vector declaration function named_bind values instance overrides instances_item gate_word gate_instance any_gates gates_item block_items block_form item_loop block_otherwise item_choice item_arm item_arms item_cases generated assignment process integers_item loop_names_item assigns_item start_item region declared_item written_item placed_item item_form module_text module_form source body
body_leads lval = refl
body_leads stmt = refl
body_leads item = refl

pub body_takes : (r : Rule) → all (λ w. not (skips (body r) w)) ≡ true
unfolding same_word begins joins binds is_unary rule_begins rule_joins range type_form direction net_word var ports_item nets_item constant_word constant_value constants_item first_parameter next_parameter other_parameter parameters parameter_part port_head first_port next_port other_port declared_ports port_list port_part selects left_side edge_word edge joint next_edge edges listed_events events block_name loop_head sequence otherwise choice default_word arm_values arm arm_row arms cases turns assign_word write statement function_input inputs local_word vector declaration function named_bind values instance overrides instances_item gate_word gate_instance any_gates gates_item block_items block_form item_loop block_otherwise item_choice item_arm item_arms item_cases generated assignment process integers_item loop_names_item assigns_item start_item region declared_item written_item placed_item item_form module_text module_form source body
body_takes lval = refl
body_takes stmt = refl
body_takes item = refl

pub body_begins : (r : Rule) → all (λ w. not (starts (body r) w) || rule_begins r w) ≡ true
unfolding same_word begins joins binds is_unary rule_begins rule_joins range type_form direction net_word var ports_item nets_item constant_word constant_value constants_item first_parameter next_parameter other_parameter parameters parameter_part port_head first_port next_port other_port declared_ports port_list port_part selects left_side edge_word edge joint next_edge edges listed_events events block_name loop_head sequence otherwise choice default_word arm_values arm arm_row arms cases turns assign_word write statement function_input inputs local_word vector declaration function named_bind values instance overrides instances_item gate_word gate_instance any_gates gates_item block_items block_form item_loop block_otherwise item_choice item_arm item_arms item_cases generated assignment process integers_item loop_names_item assigns_item start_item region declared_item written_item placed_item item_form module_text module_form source body
body_begins lval = refl
body_begins stmt = refl
body_begins item = refl

pub body_joins : (r : Rule) → all (λ w. not (goes_on (body r) w) || rule_joins r w) ≡ true
unfolding same_word begins joins binds is_unary rule_begins rule_joins range type_form direction net_word var ports_item nets_item constant_word constant_value constants_item first_parameter next_parameter other_parameter parameters parameter_part port_head first_port next_port other_port declared_ports port_list port_part selects left_side edge_word edge joint next_edge edges listed_events events block_name loop_head sequence otherwise choice default_word arm_values arm arm_row arms cases turns assign_word write statement function_input inputs local_word vector declaration function named_bind values instance overrides instances_item gate_word gate_instance any_gates gates_item block_items block_form item_loop block_otherwise item_choice item_arm item_arms item_cases generated assignment process integers_item loop_names_item assigns_item start_item region declared_item written_item placed_item item_form module_text module_form source body
body_joins lval = refl
body_joins stmt = refl
body_joins item = refl

pub module_decided : decided module_form ≡ true
unfolding same_word begins joins binds is_unary rule_begins rule_joins range type_form direction net_word var ports_item nets_item constant_word constant_value constants_item first_parameter next_parameter other_parameter parameters parameter_part port_head first_port next_port other_port declared_ports port_list port_part selects left_side edge_word edge joint next_edge edges listed_events events block_name loop_head sequence otherwise choice default_word arm_values arm arm_row arms cases turns assign_word write statement function_input inputs local_word vector declaration function named_bind values instance overrides instances_item gate_word gate_instance any_gates gates_item block_items block_form item_loop block_otherwise item_choice item_arm item_arms item_cases generated assignment process integers_item loop_names_item assigns_item start_item region declared_item written_item placed_item item_form module_text module_form source body
module_decided = refl

pub source_decided : decided source ≡ true
unfolding same_word begins joins binds is_unary rule_begins rule_joins range type_form direction net_word var ports_item nets_item constant_word constant_value constants_item first_parameter next_parameter other_parameter parameters parameter_part port_head first_port next_port other_port declared_ports port_list port_part selects left_side edge_word edge joint next_edge edges listed_events events block_name loop_head sequence otherwise choice default_word arm_values arm arm_row arms cases turns assign_word write statement function_input inputs local_word vector declaration function named_bind values instance overrides instances_item gate_word gate_instance any_gates gates_item block_items block_form item_loop block_otherwise item_choice item_arm item_arms item_cases generated assignment process integers_item loop_names_item assigns_item start_item region declared_item written_item placed_item item_form module_text module_form source body
source_decided = refl

pub source_ends : goes_on source word.EndOfTokens ≡ false
unfolding same_word begins joins binds is_unary rule_begins rule_joins range type_form direction net_word var ports_item nets_item constant_word constant_value constants_item first_parameter next_parameter other_parameter parameters parameter_part port_head first_port next_port other_port declared_ports port_list port_part selects left_side edge_word edge joint next_edge edges listed_events events block_name loop_head sequence otherwise choice default_word arm_values arm arm_row arms cases turns assign_word write statement function_input inputs local_word vector declaration function named_bind values instance overrides instances_item gate_word gate_instance any_gates gates_item block_items block_form item_loop block_otherwise item_choice item_arm item_arms item_cases generated assignment process integers_item loop_names_item assigns_item start_item region declared_item written_item placed_item item_form module_text module_form source body
source_ends = refl

pub module_ends : all (λ w. not (goes_on module_form w)) ≡ true
unfolding same_word begins joins binds is_unary rule_begins rule_joins range type_form direction net_word var ports_item nets_item constant_word constant_value constants_item first_parameter next_parameter other_parameter parameters parameter_part port_head first_port next_port other_port declared_ports port_list port_part selects left_side edge_word edge joint next_edge edges listed_events events block_name loop_head sequence otherwise choice default_word arm_values arm arm_row arms cases turns assign_word write statement function_input inputs local_word vector declaration function named_bind values instance overrides instances_item gate_word gate_instance any_gates gates_item block_items block_form item_loop block_otherwise item_choice item_arm item_arms item_cases generated assignment process integers_item loop_names_item assigns_item start_item region declared_item written_item placed_item item_form module_text module_form source body
module_ends = refl

pub body_closes : (r : Rule) → may_close (body r) ≡ false
unfolding same_word begins joins binds is_unary rule_begins rule_joins range type_form direction net_word var ports_item nets_item constant_word constant_value constants_item first_parameter next_parameter other_parameter parameters parameter_part port_head first_port next_port other_port declared_ports port_list port_part selects left_side edge_word edge joint next_edge edges listed_events events block_name loop_head sequence otherwise choice default_word arm_values arm arm_row arms cases turns assign_word write statement function_input inputs local_word vector declaration function named_bind values instance overrides instances_item gate_word gate_instance any_gates gates_item block_items block_form item_loop block_otherwise item_choice item_arm item_arms item_cases generated assignment process integers_item loop_names_item assigns_item start_item region declared_item written_item placed_item item_form module_text module_form source body
body_closes lval = refl
body_closes stmt = refl
body_closes item = refl

pub text_closes : may_close module_text ≡ false
unfolding same_word begins joins binds is_unary rule_begins rule_joins range type_form direction net_word var ports_item nets_item constant_word constant_value constants_item first_parameter next_parameter other_parameter parameters parameter_part port_head first_port next_port other_port declared_ports port_list port_part selects left_side edge_word edge joint next_edge edges listed_events events block_name loop_head sequence otherwise choice default_word arm_values arm arm_row arms cases turns assign_word write statement function_input inputs local_word vector declaration function named_bind values instance overrides instances_item gate_word gate_instance any_gates gates_item block_items block_form item_loop block_otherwise item_choice item_arm item_arms item_cases generated assignment process integers_item loop_names_item assigns_item start_item region declared_item written_item placed_item item_form module_text module_form source body
text_closes = refl

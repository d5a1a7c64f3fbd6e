-- The constructs that generate items: loops, choices, cases and their blocks.
use Rattle.std.specs.Prelude.{Bool, true, false, List, Option, Some, None}
use Rattle.vl_tree.specs.declared.words.Word.TheVariants as word
use Rattle.vl_tree.specs.declared.modules.Gen.{Gen}
use Rattle.vl_tree.specs.declared.modules.Gen.TheVariants as gen
use Rattle.vl_tree.specs.declared.modules.GenArm.{GenArm}
use Rattle.vl_tree.specs.declared.modules.GenArm.TheVariants as part
use Rattle.vl_tree.specs.declared.modules.Block.{Block}
use Rattle.vl_tree.specs.declared.modules.Block.TheVariants as block
use Rattle.vl_rules.specs.Form.{Form, unless, fixed, value, made, many, such, rule, item}
use Rattle.vl_rules.specs.Shapes.{◌∣◌, ◌▸◌, ◌◂◌, ◌⊗◌, means, list, in_parens}
use Rattle.vl_rules.specs.Statements.{at_most_one, block_name, loop_head, default_word}

unfoldable pub block_items : Form Block
block_items = made (λ x. block.Begin x.0 x.1) (fixed word.Begin ▸ block_name ⊗ many (rule item) ◂ fixed word.End)

unfoldable pub block_form : Form Block
block_form =
    block_items
    ∣ means word.Semicolon block.Empty
    ∣ made block.Item (rule item)

unfoldable pub item_loop : Form Gen
item_loop = made (λ x. gen.For x.0 x.1) (fixed word.For ▸ loop_head ⊗ block_form)

unfoldable pub block_otherwise : Form (Option Block)
block_otherwise = made Some (fixed word.Else ▸ block_form) ∣ unless word.Else None

unfoldable pub item_choice : Form Gen
item_choice = made (λ x. gen.If x.0.0 x.0.1 x.1) (fixed word.If ▸ in_parens value ⊗ block_form ⊗ block_otherwise)

unfoldable pub item_arm : Form GenArm
item_arm = made part.Default (default_word ▸ block_form) ∣ made (λ x. part.Match x.0 x.1) (list value ◂ fixed word.Colon ⊗ block_form)

abbrev pub is_default_item : GenArm → Bool
is_default_item (part.Default b) = true
is_default_item _ = false

unfoldable pub item_arms : Form (List GenArm)
item_arms = such (at_most_one is_default_item) (many item_arm)

unfoldable pub item_cases : Form Gen
item_cases = made (λ x. gen.Case x.0 x.1) (fixed word.Case ▸ in_parens value ⊗ item_arms ◂ fixed word.EndCase)

unfoldable pub generated : Form Gen
generated = item_loop ∣ item_choice ∣ item_cases

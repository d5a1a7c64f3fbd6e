-- What is known of bits.
use Rattle.std.specs.Prelude.{◌≡◌, List, true}
use Rattle.design_core.specs.Numbers.{is_bit}
use Rattle.design_core.specs.declared.place.BitRef.{BitRef}
use Rattle.design_core.specs.declared.signals.Signal.{Signal}
use Rattle.design_core.specs.declared.items.Item.{Item}
use Rattle.design_core.specs.declared.items.PowerUp.{PowerUp}
use Rattle.design_core.specs.Cells.{In}
use Rattle.design_core.specs.Parts.{is_register}
use Rattle.design_core.specs.Wellformed.{signal_lengths}
use Rattle.design_assembly.specs.declared.known.Known.{Known}
use Rattle.design_assembly.specs.Marks.{IsSet}
use Rattle.design_assembly.specs.Power.{is_driven, is_given, value_of}

pub record IsKnown (signals : List Signal) (items : List Item) (inits : List PowerUp) (k : Known) : Type 0 where
  pub registers : IsSet (signal_lengths signals) k.registers (is_register signals items)
  pub driven : IsSet (signal_lengths signals) k.driven (is_driven signals items)
  pub given : IsSet (signal_lengths signals) k.given (is_given inits)
  pub ones : IsSet (signal_lengths signals) k.ones (value_of inits)

-- each of these is a bit of one of the signals
pub record AllFit (signals : List Signal) (bits : List BitRef) : Type 0 where
  pub fits : (b : BitRef) → In b bits → is_bit (signal_lengths signals) b ≡ true

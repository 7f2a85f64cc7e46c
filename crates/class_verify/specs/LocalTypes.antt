-- The types of the locals from frame to frame, with what is asked of them.
use Rattle.std.specs.Prelude.{◌≡◌, length, filter}
use Rattle.class_verify.specs.declared.local_types.LocalTypes.{LocalTypes}
use Rattle.class_verify.specs.Frames.{is_float, all_slots}

-- so many of them are floats, and these are the slots of them all
pub record AreTold (l : LocalTypes) : Type 0 where
  pub floats : l.floats ≡ length (filter is_float l.types.items)
  pub slots : l.slots ≡ all_slots l.types.items

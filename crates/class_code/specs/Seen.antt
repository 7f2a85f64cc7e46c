-- What the code keeps of what an instruction names, and of what a handler catches.
use Rattle.std.specs.Prelude.{Option, Some, option_copied}
use Rattle.class_model.specs.declared.constant_pool.Pool.{Pool}
use Rattle.class_code.specs.declared.row.CatchView.{CatchView}
use Rattle.class_code.specs.declared.row.OperandView.{OperandView}
use Rattle.class_code.specs.declared.row.OperandView.TheVariants as views
use Rattle.class_code.specs.Parts.{named, site}
use Rattle.class_code.specs.Rows.{Catch, Operand, nothing, constant, operand_of_site}

-- None for a concatenation with a constant that has no name
abbrev pub operand : Pool → OperandView → Option Operand
operand pool views.Nothing = Some nothing
operand pool (views.Constant n) = Some (constant (named n))
operand pool (views.Site s) = operand_of_site pool (site s)

abbrev pub catch : CatchView → Catch
catch c = record { start = c.start; end = c.end; handler = c.handler; class = option_copied c.class }

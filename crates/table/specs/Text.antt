-- How a fault is written. Assumes nothing.
use Rattle.std.specs.Prelude.{ℕ, List, ◌++◌, codes, decimal}
use Rattle.bus.specs.Refused.{number}
use Rattle.table.specs.declared.table.Fault.{Fault}
use Rattle.table.specs.declared.table.Layer.{Layer}
use Rattle.table.specs.declared.table.Layer.TheVariants.{Text, Plan}
use Rattle.table.specs.Table.{layer_of}

abbrev pub layer_text : Layer → List ℕ
layer_text Text = codes "text"
layer_text Plan = codes "plan"

-- (fault LINE PLACE LAYER NUMBER), without a line feed
abbrev pub fault_told : Fault → List ℕ
fault_told fault =
    codes "(fault " ++ (decimal fault.line ++ (codes " " ++ (decimal fault.place ++ (codes " "
    ++ (layer_text (layer_of fault.refusal) ++ (codes " " ++ (decimal (number fault.refusal) ++ codes ")")))))))

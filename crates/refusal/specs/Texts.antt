-- The text of what a refusal tells.
use Rattle.std.specs.Prelude.{List, ℕ, ◌++◌, codes, decimal}
use Rattle.refusal.specs.declared.faults.Layer.{Layer}
use Rattle.refusal.specs.declared.faults.Layer.TheVariants as layer
use Rattle.refusal.specs.declared.faults.Told.{Told}

-- a layer by its name
abbrev pub layer_text : Layer → List ℕ
layer_text layer.Text = codes "text"
layer_text layer.Table = codes "table"
layer_text layer.Docket = codes "docket"
layer_text layer.Certificate = codes "certificate"
layer_text layer.Refutation = codes "refutation"

-- what a refusal tells
abbrev pub told_text : Told → List ℕ
told_text t =
    decimal t.number ++ (codes " " ++ (layer_text t.layer ++ (codes ", offset " ++ (decimal t.offset ++ (codes ", question " ++ decimal t.question)))))

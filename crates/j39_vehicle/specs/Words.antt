-- The words of a vehicle file.
use Rattle.std.specs.Prelude.{ℕ, List, codes}
use Rattle.j39_vehicle.specs.declared.reading.key.Key.{Key}
use Rattle.j39_vehicle.specs.declared.reading.key.Key.TheVariants as key

-- how a key is spelled
abbrev pub word_of : Key → List ℕ
word_of key.Version = codes "version"
word_of key.Bus = codes "bus"
word_of key.Gateway = codes "gateway"
word_of key.Forward = codes "forward"
word_of key.Need = codes "need"
word_of key.Label = codes "label"
word_of key.Plan = codes "plan"
word_of key.Unit = codes "unit"
word_of key.Group = codes "group"
word_of key.From = codes "from"
word_of key.At = codes "at"
word_of key.As = codes "as"
word_of key.By = codes "by"
word_of key.To = codes "to"
word_of key.Mode = codes "mode"
word_of key.Within = codes "within"
word_of key.Signal = codes "signal"
word_of key.Exact = codes "exact"

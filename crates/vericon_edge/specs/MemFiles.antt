-- What files in memory hold.
use Rattle.std.specs.Prelude.{ℕ, List, [], ◌∷◌, if◌then◌else◌, string_bytes}
use Rattle.std.specs.Str.{bytes_eq}
use Rattle.vericon_edge.specs.declared.fault_plan.FaultPlan.{FaultPlan}
use Rattle.vericon_edge.specs.declared.mem_files.Content.{Content}
use Rattle.vericon_edge.specs.declared.mem_files.Content.TheVariants.{Whole, Cut}
use Rattle.vericon_edge.specs.declared.mem_files.MemFile.{MemFile}
use Rattle.vericon_edge.specs.declared.mem_files.MemFiles.{MemFiles}
use Rattle.vericon_edge.specs.Told.{Told, untold, absent, holds}

abbrev pub told_of : Content → Told
told_of (Whole bytes) = holds bytes.items
told_of Cut = untold

-- what the first file of the name holds
abbrev pub told_by : List MemFile → List ℕ → Told
told_by [] name = absent
told_by (file ∷ files) name = if bytes_eq (string_bytes file.name) name then told_of file.content else told_by files name

-- what each name holds
abbrev pub contents : MemFiles → List ℕ → Told
contents m = told_by m.files.items

abbrev pub read_plan : MemFiles → FaultPlan
read_plan m = m.reads

abbrev pub write_plan : MemFiles → FaultPlan
write_plan m = m.writes

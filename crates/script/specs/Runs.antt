-- What the running of a script prints of its lines.
use Rattle.std.specs.Prelude.{ℕ, ◌+◌, ◌-◌, ◌^◌, min, List, [], ◌++◌, codes}
use Rattle.std.specs.Fmt.{decimal}
use Rattle.script.specs.declared.line.LineError.{LineError}
use Rattle.script.specs.declared.line.LineError.TheVariants.{NoEnd}
use Rattle.script.specs.declared.run.Stage.{Stage}
use Rattle.script.specs.declared.run.Stage.TheVariants as stage
use Rattle.script.specs.Names.{reason}

-- the line that tells why a line is not done
abbrev pub line_text : ℕ → LineError → List ℕ
line_text n e = codes "line " ++ (decimal n ++ (codes ": " ++ (reason e ++ codes "\n")))

-- what is printed behind the last of n lines: within a case, that its end is missing
abbrev pub last_text : ℕ → Stage → List ℕ
last_text n stage.Outside = []
last_text n within = line_text (min (n + 1) (2 ^ 64 - 1)) NoEnd

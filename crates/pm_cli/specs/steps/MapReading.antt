-- What the code that reads a map file answers.
use Rattle.std.specs.Prelude.{ℕ, List, Option, None, Some, Result, Ok, Err}
use Rattle.pm_lists.specs.declared.num_list.NumList.{NumList}
use Rattle.pm_map.specs.declared.rooted_map.RootedMap.{RootedMap}
use Rattle.pm_mapfile.specs.declared.refusal.FileRefusal.{FileRefusal}
use Rattle.pm_mapfile.specs.declared.refusal.FileRefusal.TheVariants.{Memory, Text, Map}
use Rattle.pm_mapfile.specs.Answers.{AnswersFile}
use Rattle.pm_cli.specs.declared.refusal.Refusal.{Refusal}
use Rattle.pm_cli.specs.declared.refusal.Refusal.TheVariants as told
use Rattle.pm_cli.specs.declared.refusal.Stop.{Stop}
use Rattle.pm_cli.specs.MapAnswers.{RefusesMapFile, rule_of_lines}
use Rattle.pm_cli.specs.Unsampling.{RefusesSampleFile}
use Rattle.pm_cli.specs.steps.Answering.{StopsBy}

-- how it is told that a file is none of a map
abbrev pub rule_of_file : FileRefusal → Option Refusal
rule_of_file Memory = None
rule_of_file (Text line) = Some (told.Text line)
rule_of_file (Map why) = rule_of_lines why

-- the map of the file, or why it has none
abbrev pub IsMapOfFile : List ℕ → ℕ → Result RootedMap Stop → Type 0
IsMapOfFile bytes limit (Ok map) = (residue : Option (List ℕ)) × AnswersFile bytes limit residue (Ok map)
IsMapOfFile bytes limit (Err stop) = StopsBy (RefusesMapFile limit bytes) stop

-- the map of the file and the numbers of its residue line, or why it has none
abbrev pub IsPairOfFile : List ℕ → ℕ → Result (RootedMap × NumList) Stop → Type 0
IsPairOfFile bytes limit (Ok pair) = AnswersFile bytes limit (Some pair.1) (Ok pair.0)
IsPairOfFile bytes limit (Err stop) = StopsBy (RefusesSampleFile limit bytes) stop

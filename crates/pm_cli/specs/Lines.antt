-- The statuses of the program, and the lines that it writes to its standard error.
use Rattle.std.specs.Prelude.{ℕ, List, [], ◌∷◌, ◌++◌, codes, decimal, Result, Ok, Err}
use Rattle.std.specs.Fmt.{signed_decimal}
use Rattle.pm_lists.specs.declared.check.ListRefusal.{ListRefusal}
use Rattle.pm_lists.specs.declared.check.ListRefusal.TheVariants.{Length, Entry}
use Rattle.pm_cli.specs.declared.refusal.Limit.{Limit}
use Rattle.pm_cli.specs.declared.refusal.Limit.TheVariants.{Bytes, Letters, Edges, Lists}
use Rattle.pm_cli.specs.declared.refusal.MapRule.{MapRule}
use Rattle.pm_cli.specs.declared.refusal.MapRule.TheVariants.{Permutation, Connected, Euler, Empty, Vertex, Face, Loop, Double}
use Rattle.pm_cli.specs.declared.refusal.TreeRule.{TreeRule}
use Rattle.pm_cli.specs.declared.refusal.TreeRule.TheVariants.{Degree, Buds, Matched, Stems, Closes, Follows}
use Rattle.pm_cli.specs.declared.refusal.Refusal.{Refusal}
use Rattle.pm_cli.specs.declared.refusal.Refusal.TheVariants.{Usage, Text, Limited, Map, Tree, Invalid}
use Rattle.pm_cli.specs.declared.refusal.Stop.{Stop}
use Rattle.pm_cli.specs.declared.refusal.Stop.TheVariants.{Refused, Read, Write, Memory}

-- the status of a refusal
abbrev pub status_of_refusal : Refusal → ℕ
status_of_refusal (Usage matched) = 2
status_of_refusal (Text line) = 3
status_of_refusal (Limited limit) = 7
status_of_refusal (Map rule) = 6
status_of_refusal (Tree rule) = 12
status_of_refusal (Invalid list) = 4

-- the status of a run that stopped
abbrev pub status_of_stop : Stop → ℕ
status_of_stop (Refused refusal) = status_of_refusal refusal
status_of_stop Read = 5
status_of_stop Write = 8
status_of_stop Memory = 9

-- the status of a run
abbrev pub status_of : Result (Unit {0}) Stop → ℕ
status_of (Ok done) = 0
status_of (Err stop) = status_of_stop stop

-- a line of standard error
abbrev pub line : List ℕ → List ℕ
line text = codes "planarmap: " ++ text ++ 10 ∷ []

abbrev pub text_of_limit : Limit → List ℕ
text_of_limit Bytes = codes "limit bytes"
text_of_limit (Letters letters) = codes "limit letters " ++ decimal letters
text_of_limit (Edges edges) = codes "limit edges " ++ decimal edges
text_of_limit Lists = codes "limit lists"

abbrev pub text_of_map_rule : MapRule → List ℕ
text_of_map_rule (Permutation dart) = codes "map permutation " ++ decimal dart
text_of_map_rule (Connected dart) = codes "map connected " ++ decimal dart
text_of_map_rule (Euler number) = codes "map euler " ++ signed_decimal number
text_of_map_rule Empty = codes "map empty"
text_of_map_rule (Vertex dart) = codes "map vertex " ++ decimal dart
text_of_map_rule (Face dart) = codes "map face " ++ decimal dart
text_of_map_rule (Loop dart) = codes "map loop " ++ decimal dart
text_of_map_rule (Double dart) = codes "map double " ++ decimal dart

abbrev pub text_of_list : ListRefusal → List ℕ
text_of_list (Length want have) = codes "list length " ++ decimal want ++ codes " " ++ decimal have
text_of_list (Entry place value bound) = codes "list entry " ++ decimal place ++ codes " " ++ decimal value ++ codes " " ++ decimal bound

abbrev pub text_of_rule : TreeRule → List ℕ
text_of_rule (Degree place) = codes "tree degree " ++ decimal place
text_of_rule (Buds place) = codes "tree buds " ++ decimal place
text_of_rule (Matched bud) = codes "tree matched " ++ decimal bud
text_of_rule (Stems place) = codes "tree stems " ++ decimal place
text_of_rule (Closes side) = codes "tree closes " ++ decimal side
text_of_rule (Follows stem) = codes "tree follows " ++ decimal stem

abbrev pub text_of_refusal : Refusal → List ℕ
text_of_refusal (Usage matched) = codes "usage " ++ decimal matched
text_of_refusal (Text line) = codes "text " ++ decimal line
text_of_refusal (Limited limit) = text_of_limit limit
text_of_refusal (Map rule) = text_of_map_rule rule
text_of_refusal (Tree rule) = text_of_rule rule
text_of_refusal (Invalid list) = text_of_list list

abbrev pub text_of_stop : Stop → List ℕ
text_of_stop (Refused refusal) = text_of_refusal refusal
text_of_stop Read = codes "read"
text_of_stop Write = codes "write"
text_of_stop Memory = codes "memory"

-- what a run writes to standard error: a line, and nothing where it did what was asked
abbrev pub line_of : Result (Unit {0}) Stop → List ℕ
line_of (Ok done) = []
line_of (Err stop) = line (text_of_stop stop)

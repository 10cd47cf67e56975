-- What the code that closes the word of a tree answers.
use Rattle.std.specs.Prelude.{ℕ, List, Result, Ok, Err, ⊤}
use Rattle.pm_map.specs.Rotation.{RotationSystem}
use Rattle.pm_cli.specs.declared.close.WordRefusal.{WordRefusal}
use Rattle.pm_cli.specs.declared.close.WordRefusal.TheVariants.{Memory, Text, Rule}
use Rattle.pm_cli.specs.TreeKinds.{TreeKind}

-- the closure of the word, or that its text isn't in order, or the first rule that it breaks, or want of memory
abbrev pub IsWordClosing : TreeKind → List ℕ → Result RotationSystem WordRefusal → Type 0
IsWordClosing kind word (Ok map) = kind.is_word word × kind.closes word map
IsWordClosing kind word (Err (Rule refusal)) = kind.is_word word × kind.refuses word refusal
IsWordClosing kind word (Err Text) = kind.is_word word → ⊥
IsWordClosing kind word (Err Memory) = ⊤

-- Tree files: one line, the word `tree` and the word of a tree, by the kind of the trees.
use Rattle.std.specs.Prelude.{ℕ, List, codes}
use Rattle.pm_trees.specs.Word.{IsInOrder}
use Rattle.pm_cli.specs.TreeKinds.{TreeKind}
use Rattle.pm_cli.specs.WordLine.{IsWordLine, IsWordFile, HasWordLine}

-- the file that spells the word of a blossoming tree, which is in order and has a letter
abbrev pub IsTreeLine : List ℕ → List ℕ → Type 0
IsTreeLine word bytes = IsWordLine (codes "tree ") IsInOrder word bytes

-- a valid tree file
abbrev pub IsTreeFile : TreeKind → List ℕ → Type 0
IsTreeFile kind bytes = IsWordFile (codes "tree ") kind.is_word bytes

-- a file with this property of its word
abbrev pub HasWord : TreeKind → List ℕ → (List ℕ → Type 0) → Type 0
HasWord kind bytes P = HasWordLine (codes "tree ") kind.is_word bytes P

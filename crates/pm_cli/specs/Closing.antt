-- What `close` answers to a file, by the kind of its trees.
use Rattle.std.specs.Prelude.{ℕ, List, Result, Ok, Err}
use Rattle.pm_map.specs.Rotation.{RotationSystem}
use Rattle.pm_mapfile.specs.MapText.{HasCanonicalText}
use Rattle.pm_text.specs.Broken.{IsBrokenLine}
use Rattle.pm_cli.specs.declared.refusal.Refusal.{Refusal}
use Rattle.pm_cli.specs.declared.refusal.Refusal.TheVariants.{Text}
use Rattle.pm_cli.specs.TreeFile.{IsTreeFile, HasWord}
use Rattle.pm_cli.specs.TreeKinds.{TreeKind}

-- the text is that of the canonical map of the closure of the tree with this word
pub record ClosesTo (kind : TreeKind) (text word : List ℕ) : Type 0 where
  pub closed : RotationSystem
  pub is_closed : kind.closes word closed
  pub has_text : HasCanonicalText closed text

-- the answer: the text, or the first rule that the file breaks
pub data ClosesFile (kind : TreeKind) (bytes : List ℕ) : Result (List ℕ) Refusal → Type 0 where
  closed : (text : List ℕ) → HasWord kind bytes (ClosesTo kind text) → ClosesFile kind bytes (Ok text)
  broken : (line : ℕ) → IsBrokenLine (IsTreeFile kind) bytes line → ClosesFile kind bytes (Err (Text line))
  refused : (refusal : Refusal) → HasWord kind bytes (λ word. kind.refuses word refusal) → ClosesFile kind bytes (Err refusal)

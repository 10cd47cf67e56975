-- No tree file is without an answer.
use Rattle.std.proofs.Common.{ℕ, List}
use Rattle.std.specs.Prelude.{Ok, Err}
use Rattle.pm_mapfile.proofs.SomeAnswer.{valid_or_broken}
use Rattle.pm_cli.specs.declared.refusal.Refusal.TheVariants.{Text}
use Rattle.pm_cli.specs.Closing.{ClosesFile, closed, broken, refused}
use Rattle.pm_cli.specs.Laws.{IsAnswered}
use Rattle.pm_cli.specs.TreeFile.{IsTreeFile}
use Rattle.pm_cli.specs.TreeKinds.{TreeKind}
use Rattle.pm_cli.proofs.TaskLaws.{canonical_text}
use Rattle.pm_cli.proofs.TreeKindLaws.{IsTreeKind}

pub closes_answered : (kind : TreeKind) → IsTreeKind kind → (bytes : List ℕ) → IsAnswered (ClosesFile kind bytes)
closes_answered kind laws bytes told =
    valid_or_broken (IsTreeFile kind) bytes
    (λ file. laws.some file.0 file.1.is
    (λ map is.
    let text = canonical_text map (laws.rooted file.0 map is) in
    told (Ok text.0) (closed text.0 (record { word = file.0; spelled = file.1; holds = record { closed = map; is_closed = is; has_text = text.1 } })))
    (λ refusal is. told (Err refusal) (refused refusal (record { word = file.0; spelled = file.1; holds = is }))))
    (λ line breaks. told (Err (Text line)) (broken line breaks))

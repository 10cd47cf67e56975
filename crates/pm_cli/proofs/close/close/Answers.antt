use Rattle.std.specs.Prelude.{codes}
use Rattle.pm_cli.specs.Closing.{closed, broken}
use Rattle.pm_cli.specs.TreeKinds.{TreeKind, kind_of}
use Rattle.pm_cli.proofs.FirstLines.{no_word, only_word, followed_word, wrong_word}
use Rattle.pm_cli.proofs.TreeLines.{kind_laws, ruled}
use Rattle.pm_cli.proofs.close.close.Goals as goal

pub returns-in_default : goal.returns-in_default
returns-in_default c =
    let kind : TreeKind = kind_of c.args.trees in
    broken 1 (no_word (codes "tree ") kind.is_word (kind_laws c.args.trees).words c.args.bytes.now c.in_default.ensures)

pub returns-in-Err-Text : goal.returns-in-Err-Text
returns-in-Err-Text c =
    let kind : TreeKind = kind_of c.args.trees in
    let none = rw c.in-Err-Text.field-0-is at c.in-Err-Text.ensures in
    broken 1 (wrong_word (codes "tree ") kind.is_word (kind_laws c.args.trees).words c.args.bytes.now c.in-Some.line.word.now c.in-Some.line.is_alone c.in-Some.ensures none)

pub returns-in-Err-Rule : goal.returns-in-Err-Rule
returns-in-Err-Rule c =
    let kind : TreeKind = kind_of c.args.trees in
    let breaks = rw c.in-Err-Rule.field-0-is at c.in-Err-Rule.ensures in
    ruled kind (kind_laws c.args.trees) c.args.bytes.now c.in-Some.line.word.now c.in-Some.line.is_alone c.in-Err-Rule.refusal c.unless_followed.result c.in-Some.ensures breaks.0 breaks.1
    (rw c.in-Err-Rule.refusal-is at c.unless_followed.ensures)

pub returns-then-not-line : goal.returns-then-not-line
returns-then-not-line c =
    let kind : TreeKind = kind_of c.args.trees in
    broken 2 (followed_word (codes "tree ") kind.is_word (kind_laws c.args.trees).words c.args.bytes.now c.in-Some.line.word.now c.in-Some.line.is_alone c.in-Some.ensures c.if-not-line.true c.in-Ok.ensures.0)

pub returns : goal.returns
returns c =
    let kind : TreeKind = kind_of c.args.trees in
    closed _ (record {
      word = c.in-Some.line.word.now;
      spelled = only_word (codes "tree ") kind.is_word (kind_laws c.args.trees).words c.args.bytes.now c.in-Some.line.word.now c.in-Some.line.is_alone c.in-Some.ensures c.if-not-line.false c.in-Ok.ensures.0;
      holds = record { closed = c.in-Ok.closed; is_closed = c.in-Ok.ensures.1; has_text = c.in_ok-canonical_bytes.ensures };
    })

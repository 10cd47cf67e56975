-- A tree file closes to one answer.
use Rattle.std.proofs.Common.{◌≡◌, ℕ, List, sym, ap, ◌∙◌, subst}
use Rattle.std.specs.Prelude.{codes, Result, Ok, Err}
use Rattle.pm_text.specs.Broken.{IsBrokenLine}
use Rattle.pm_text.proofs.BrokenLemmas.{valid_has_no_broken_line, broken_line_is_unique}
use Rattle.pm_cli.specs.declared.refusal.Refusal.{Refusal}
use Rattle.pm_cli.specs.declared.refusal.Refusal.TheVariants.{Text}
use Rattle.pm_cli.specs.Closing.{ClosesTo, ClosesFile, closed, broken, refused}
use Rattle.pm_cli.specs.TreeFile.{IsTreeFile, HasWord}
use Rattle.pm_cli.specs.TreeKinds.{TreeKind}
use Rattle.pm_cli.proofs.FirstLines.{one_word}
use Rattle.pm_cli.proofs.OneText.{one_canonical_text}
use Rattle.pm_cli.proofs.TreeKindLaws.{IsTreeKind}

module _ (kind : TreeKind) (laws : IsTreeKind kind) where
  -- a word closes to one text
  one_closing : (word a b : List ℕ) → ClosesTo kind a word → ClosesTo kind b word → a ≡ b
  one_closing word a b x y =
      one_canonical_text x.closed y.closed a b (laws.rooted word x.closed x.is_closed) (laws.rooted word y.closed y.is_closed)
      (laws.alike word x.closed y.closed x.is_closed y.is_closed) x.has_text y.has_text

  module _ (bytes : List ℕ) where
    -- the file has one word
    same_word : (P Q : List ℕ → Type 0) (x : HasWord kind bytes P) (y : HasWord kind bytes Q) → P y.word
    same_word P Q x y = subst P (one_word (codes "tree ") x.word y.word (sym x.spelled.spelled ∙ y.spelled.spelled)) x.holds

    -- a line of a file with a word isn't broken
    no_line : (P : List ℕ → Type 0) (line : ℕ) → HasWord kind bytes P → IsBrokenLine (IsTreeFile kind) bytes line → ⊥
    no_line P line x y = valid_has_no_broken_line (IsTreeFile kind) bytes line (x.word, x.spelled) y

    closed_or_refused : (text : List ℕ) (refusal : Refusal) → HasWord kind bytes (ClosesTo kind text) → HasWord kind bytes (λ word. kind.refuses word refusal) → ⊥
    closed_or_refused text refusal x y =
        let closes = same_word (ClosesTo kind text) (λ word. kind.refuses word refusal) x y in laws.not_both y.word closes.closed refusal closes.is_closed y.holds

    pub closes_once : (a b : Result (List ℕ) Refusal) → ClosesFile kind bytes a → ClosesFile kind bytes b → a ≡ b
    closes_once _ _ (closed text x) (closed other y) = ap Ok (one_closing y.word text other (same_word (ClosesTo kind text) (ClosesTo kind other) x y) y.holds)
    closes_once _ _ (closed text x) (broken line y) = absurd (no_line (ClosesTo kind text) line x y)
    closes_once _ _ (closed text x) (refused refusal y) = absurd (closed_or_refused text refusal x y)
    closes_once _ _ (broken line x) (closed text y) = absurd (no_line (ClosesTo kind text) line y x)
    closes_once _ _ (broken line x) (broken other y) = ap (λ (k : ℕ). Err (Text k)) (broken_line_is_unique (IsTreeFile kind) bytes line other x y)
    closes_once _ _ (broken line x) (refused refusal y) = absurd (no_line (λ word. kind.refuses word refusal) line y x)
    closes_once _ _ (refused refusal x) (closed text y) = absurd (closed_or_refused text refusal y x)
    closes_once _ _ (refused refusal x) (broken line y) = absurd (no_line (λ word. kind.refuses word refusal) line x y)
    closes_once _ _ (refused refusal x) (refused other y) =
        ap Err (laws.one_rule y.word refusal other (same_word (λ word. kind.refuses word refusal) (λ word. kind.refuses word other) x y) y.holds)

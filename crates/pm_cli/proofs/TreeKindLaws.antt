-- The laws of a kind of trees, as a bundle; and tree files are files of one line, and spell one word.
use Rattle.std.proofs.Common.{◌≡◌, ◌≢◌, ℕ, zero, suc, ◌≤◌, List, [], ◌∷◌, get_or, take, sym, ◌∙◌, subst, arith}
use Rattle.std.specs.Prelude.{codes, IsTrue}
use Rattle.std.proofs.lemmas.List.Elements.{All-get_or, All-from_get_or, All-nil, All-cons}
use Rattle.pm_text.specs.Broken.{newline}
use Rattle.pm_text.proofs.LineLemmas.{HasNoNewline-nil, HasNoNewline-cons}
use Rattle.pm_brackets.specs.declared.letters.TheConstants.{OPEN, CLOSE}
use Rattle.pm_brackets.specs.Word.{IsWordOf, count, is_letter_of}
use Rattle.pm_map.specs.Rotation.{RotationSystem, structure_of, IsRootedMap}
use Rattle.pm_map.specs.Structure.{Same}
use Rattle.pm_cli.specs.declared.refusal.Refusal.{Refusal}
use Rattle.pm_cli.specs.Lines.{status_of_refusal}
use Rattle.pm_cli.specs.TreeKinds.{TreeKind}
use Rattle.pm_cli.proofs.FirstLines.{IsWordKind}

-- A word closes to rooted maps that are the same, or breaks one first rule, which is none of words.
pub record IsTreeKind (kind : TreeKind) : Type 0 where
  pub words : IsWordKind (codes "tree ") kind.is_word
  pub rooted : (word : List ℕ) (map : RotationSystem) → kind.closes word map → IsRootedMap map
  pub alike : (word : List ℕ) (one other : RotationSystem) → kind.closes word one → kind.closes word other → Same (structure_of one) (structure_of other)
  pub not_both : (word : List ℕ) (map : RotationSystem) (refusal : Refusal) → kind.closes word map → kind.refuses word refusal → ⊥
  pub one_rule : (word : List ℕ) (a b : Refusal) → kind.refuses word a → kind.refuses word b → a ≡ b
  pub some : (word : List ℕ) → kind.is_word word → ((map : RotationSystem) → kind.closes word map → ⊥) → ((refusal : Refusal) → kind.refuses word refusal → ⊥) → ⊥
  pub no_usage : (word : List ℕ) (refusal : Refusal) → kind.refuses word refusal → status_of_refusal refusal ≡ 2 → ⊥

module _ (others : List ℕ) where
  -- a letter is no newline
  letter_no_newline : (IsTrue (is_letter_of others newline) → ⊥) → (x : ℕ) → IsTrue (is_letter_of others x) → x ≢ newline
  letter_no_newline none x letter e = none (subst (λ (y : ℕ). IsTrue (is_letter_of others y)) e letter)

  -- the word of one letter is in order
  letter_in_order : (letter : ℕ) → IsTrue (is_letter_of others letter) → count OPEN (letter ∷ []) ≡ 0 → count CLOSE (letter ∷ []) ≡ 0 → IsWordOf others (letter ∷ [])
  letter_in_order letter is no_open no_close = record {
    letters = All-cons (λ x. IsTrue (is_letter_of others x)) letter [] is (All-nil (λ x. IsTrue (is_letter_of others x)));
    matched = record { equal = no_open ∙ sym no_close; never_below = below };
  } where
    below : (k : ℕ) → count CLOSE (take k (letter ∷ [])) ≤ count OPEN (take k (letter ∷ []))
    below zero = omega arith
    below (suc zero) = omega (arith, no_open, no_close)
    below (suc (suc k)) = omega (arith, no_open, no_close)

  -- the words of trees behind their tag
  pub tree_words : (letter : ℕ) → (IsTrue (is_letter_of others newline) → ⊥) → IsTrue (is_letter_of others letter) → count OPEN (letter ∷ []) ≡ 0 → count CLOSE (letter ∷ []) ≡ 0
      → IsWordKind (codes "tree ") (IsWordOf others)
  tree_words letter none is no_open no_close = record {
    tag_line =
        HasNoNewline-cons 116 (codes "ree ") (omega arith) (HasNoNewline-cons 114 (codes "ee ") (omega arith)
        (HasNoNewline-cons 101 (codes "e ") (omega arith) (HasNoNewline-cons 101 (codes " ") (omega arith) (HasNoNewline-cons 32 [] (omega arith) HasNoNewline-nil))));
    lines = λ word order. record {
      each = All-from_get_or (λ b. b ≢ newline) word 0
          (λ i l. letter_no_newline none (get_or word i 0) (All-get_or (λ x. IsTrue (is_letter_of others x)) word i 0 l order.letters));
    };
    word = letter ∷ [];
    is = letter_in_order letter is no_open no_close;
    some = omega arith;
  }

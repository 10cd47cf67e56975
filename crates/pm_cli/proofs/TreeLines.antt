-- A word that breaks a rule, in a tree file.
use Rattle.std.proofs.Common.{◌≡◌, ℕ, Bool, true, false, List, [], ◌∷◌, refl, sym, subst}
use Rattle.std.specs.Prelude.{codes, if◌then◌else◌, Some, Err}
use Rattle.pm_cli.specs.declared.refusal.Refusal.{Refusal}
use Rattle.pm_cli.specs.declared.refusal.Refusal.TheVariants.{Text}
use Rattle.pm_cli.specs.declared.refusal.Stop.{Stop}
use Rattle.pm_cli.specs.declared.refusal.Stop.TheVariants.{Refused}
use Rattle.pm_cli.specs.declared.close.Trees.{Trees}
use Rattle.pm_cli.specs.declared.close.Trees.TheVariants.{Blossoming, Stem}
use Rattle.pm_cli.specs.Closing.{ClosesFile, broken, refused}
use Rattle.pm_cli.specs.TreeKinds.{TreeKind, kind_of, trees_word}
use Rattle.pm_cli.specs.steps.Answering.{StopsBy}
use Rattle.pm_cli.specs.steps.FirstLine.{IsTagged}
use Rattle.pm_cli.proofs.BlossomingLaws.{blossoming_laws}
use Rattle.pm_cli.proofs.FirstLines.{only_word, followed_word}
use Rattle.pm_cli.proofs.StemLaws.{stem_laws}
use Rattle.pm_cli.proofs.TreeKindLaws.{IsTreeKind}
use Rattle.pm_cli.proofs.WordTables.{looked_up, one_value}

-- the words of the kinds
abbrev kinds : List (List ℕ × Trees)
kinds = (codes "eulerian", Blossoming) ∷ (codes "tri", Stem) ∷ []

trees_found : (trees : Trees) → looked_up kinds (trees_word trees) ≡ Some trees
trees_found Blossoming = refl
trees_found Stem = refl

pub one_trees : (a b : Trees) → trees_word a ≡ trees_word b → a ≡ b
one_trees = one_value kinds trees_word trees_found

-- each kind has its laws
pub kind_laws : (trees : Trees) → IsTreeKind (kind_of trees)
kind_laws Blossoming = blossoming_laws
kind_laws Stem = stem_laws

-- a word in order that breaks a rule; where a line follows, that breaks the form of the file first
pub ruled : (kind : TreeKind) → IsTreeKind kind → (bytes word : List ℕ) (alone : Bool) (refusal : Refusal) (stop : Stop) → IsTagged (codes "tree ") bytes word alone → kind.is_word word → kind.refuses word refusal
    → stop ≡ Refused (if alone then refusal else Text 2) → StopsBy (λ why. ClosesFile kind bytes (Err why)) stop
ruled kind laws bytes word true refusal stop line order breaks is =
    subst (StopsBy (λ why. ClosesFile kind bytes (Err why))) (sym is)
    (refused refusal (record { word = word; spelled = only_word (codes "tree ") kind.is_word laws.words bytes word true line refl order; holds = breaks }))
ruled kind laws bytes word false refusal stop line order breaks is =
    subst (StopsBy (λ why. ClosesFile kind bytes (Err why))) (sym is) (broken 2 (followed_word (codes "tree ") kind.is_word laws.words bytes word false line refl order))

use Rattle.std.proofs.Common.{◌≡◌, ◌∙◌, ◌==◌, ◌++◌, ◌∷◌, [], ap, sym, subst, List, Bool, false, map, take, take_all, ℕ}
use Rattle.pm_tri.specs.Bits.{AreTreeBits, bits_of}
use Rattle.pm_brackets.specs.declared.letters.TheConstants.{OPEN}
use Rattle.pm_tri.proofs.BitTrees.{trees_have_bits}
use Rattle.pm_tri.proofs.bits.bits_of_tri_tree.Goals as goal

pub returns-clause-valid : goal.returns-clause-valid
returns-clause-valid c =
    let P : List Bool → Type 0 = λ xs. AreTreeBits xs in
    let Q : List ℕ → Type 0 = λ xs. c.loop-letter.bits.items ≡ map (λ x. x == OPEN) xs in
    let all : take c.loop-letter.letter-index c.letters-word.result.now ≡ c.letters-word.result.now = take_all c.loop-letter.letter-index c.letters-word.result.now c.loop-letter-test.false in
    let whole : c.loop-letter.bits.items ≡ map (λ x. x == OPEN) c.args.tree.now = subst Q (all ∙ c.letters-word.ensures.letters) c.loop-letter.invariant in
    let is : c.push-2.new.self.items ≡ bits_of c.args.tree.now = c.in_ok-push-2.ensures.items ∙ ap (λ (xs : List Bool). xs ++ false ∷ []) whole in
    subst P (sym is) (trees_have_bits c.args.tree.now c.letters-word.ensures.valid).0

use Rattle.std.proofs.Common.{◌≡◌, ℕ, ◌+◌, ◌∷◌, ◌++◌, [], List, length, refl, ◌∙◌, ap, arith}
use Rattle.std.specs.Prelude.{slice_index}
use Rattle.std.proofs.lemmas.List.{length-replicate}
use Rattle.pm_trees.specs.declared.letters.TheConstants.{LEAF}
use Rattle.pm_close.proofs.OnePass.{passing_start, passing_behind, passing_few, passing_open, passing_bud, passing_close, passing_leaf, child_is_there, waiting_is_there, child_few, waiting_few, passing_end, letter_is_leaf}
use Rattle.pm_close.proofs.one_pass.closed_rotation.Goals as goal
use Rattle.pm_close.proofs.one_pass.closed_rotation.Goals.{in-40+in_ok-push-in-40, in-41, in-98+in_ok-push-in-98, in_default}

pub letters-init : goal.letters-init
letters-init c =
    let zeros = c.in_ok-sigma.ensures.items_if_clones_equal (λ y e. e) in
    let none : ℕ = 0 in
    passing_start c.args.letters.now _ _ _ c.requires.tree c.requires.balanced (omega (arith, ap length zeros, length-replicate (length c.args.letters.now + 1) none))
    c.new-children.ensures.items (c.in_ok-push.ensures.items ∙ ap (λ (xs : List ℕ). xs ++ 0 ∷ []) c.new-waiting.ensures.items)

pub index_mut-requires : goal.index_mut-requires
index_mut-requires c = omega (arith, passing_behind _ _ _ _ _ _ _ c.letters.invariant (omega arith), c.letters.sigma.ok.0)

pub overflow_add-next : goal.overflow_add-next
overflow_add-next c = omega (arith, passing_few _ _ _ _ _ _ _ c.letters.invariant, c.requires.tree.short)

pub unwrap-first-requires : goal.unwrap-first-requires
unwrap-first-requires c = c.pop.ensures.variant.1 (omega (arith, child_is_there _ _ _ _ _ _ _ c.letters.invariant c.letters-test.true c.in-41.is))

pub overflow_add-first : goal.overflow_add-first
overflow_add-first c =
    omega (arith, child_few _ _ _ _ _ _ _ c.letters.invariant _ _ _ c.letters-test.true c.in-41.is c.pop.ensures.items c.unwrap-first.ensures, c.requires.tree.short)

pub index_mut-requires-in-41 : goal.index_mut-requires-in-41
index_mut-requires-in-41 c = omega (arith, passing_behind _ _ _ _ _ _ _ c.letters.invariant (omega arith), c.letters.sigma.ok.0)

pub index_mut-requires-in-98 : goal.index_mut-requires-in-98
index_mut-requires-in-98 c = omega (arith, passing_behind _ _ _ _ _ _ _ c.letters.invariant (omega arith), c.letters.sigma.ok.0)

pub overflow_add-next-in-98 : goal.overflow_add-next-in-98
overflow_add-next-in-98 c = omega (arith, passing_few _ _ _ _ _ _ _ c.letters.invariant, c.requires.tree.short)

pub unwrap-first-requires-in_default : goal.unwrap-first-requires-in_default
unwrap-first-requires-in_default c =
    let leaf : slice_index c.args.letters.now c.letters.letter-index ≡ LEAF = letter_is_leaf _ _ c.requires.tree c.letters-test.true (λ e. absurd (omega arith)) (λ e. absurd (omega arith)) (λ e. absurd (omega arith)) in
    c.pop-in_default.ensures.variant.1 (omega (arith, waiting_is_there _ _ _ _ _ _ _ c.letters.invariant c.letters-test.true leaf))

pub overflow_add-first-in_default : goal.overflow_add-first-in_default
overflow_add-first-in_default c =
    let leaf : slice_index c.args.letters.now c.letters.letter-index ≡ LEAF = letter_is_leaf _ _ c.requires.tree c.letters-test.true (λ e. absurd (omega arith)) (λ e. absurd (omega arith)) (λ e. absurd (omega arith)) in
    omega (arith, waiting_few _ _ _ _ _ _ _ c.letters.invariant _ _ _ c.letters-test.true leaf c.pop-in_default.ensures.items c.unwrap-first-in_default.ensures, c.requires.tree.short)

pub index_mut-requires-in_default : goal.index_mut-requires-in_default
index_mut-requires-in_default c = omega (arith, passing_behind _ _ _ _ _ _ _ c.letters.invariant (omega arith), c.letters.sigma.ok.0)

pub overflow_add-behind-in_default : goal.overflow_add-behind-in_default
overflow_add-behind-in_default c =
    let leaf : slice_index c.args.letters.now c.letters.letter-index ≡ LEAF = letter_is_leaf _ _ c.requires.tree c.letters-test.true (λ e. absurd (omega arith)) (λ e. absurd (omega arith)) (λ e. absurd (omega arith)) in
    omega (arith, waiting_few _ _ _ _ _ _ _ c.letters.invariant _ _ _ c.letters-test.true leaf c.pop-in_default.ensures.items c.unwrap-first-in_default.ensures, c.requires.tree.short)

pub letters-preserved : goal.letters-preserved
letters-preserved c = elim c.match-letter.branch [
  | in-40+in_ok-push-in-40 w ↦ rw (w.sigma-is, w.children-is, w.waiting-is, w.next-is, w.behind-is)
      (passing_open _ _ _ _ _ _ _ c.letters.invariant _ _ c.letters-test.true w.in-40.is w.in_ok-push-in-40.ensures.items refl)
  | in-41 w ↦ rw (w.sigma-is, w.children-is, w.waiting-is, w.next-is, w.behind-is)
      (passing_close _ _ _ _ _ _ _ c.letters.invariant _ _ _ _ c.letters-test.true w.in-41.is w.pop.ensures.items w.unwrap-first.ensures refl)
  | in-98+in_ok-push-in-98 w ↦ rw (w.sigma-is, w.children-is, w.waiting-is, w.next-is, w.behind-is)
      (passing_bud _ _ _ _ _ _ _ c.letters.invariant _ _ c.letters-test.true w.in-98.is w.in_ok-push-in-98.ensures.items refl)
  | in_default w ↦
      let leaf : slice_index c.args.letters.now c.letters.letter-index ≡ LEAF = letter_is_leaf _ _ c.requires.tree c.letters-test.true (λ e. absurd (omega arith)) (λ e. absurd (omega arith)) (λ e. absurd (omega arith)) in
      rw (w.sigma-is, w.children-is, w.waiting-is, w.next-is, w.behind-is)
      (passing_leaf _ _ _ _ _ _ _ c.letters.invariant _ _ _ _ c.letters-test.true leaf w.pop-in_default.ensures.items w.unwrap-first-in_default.ensures refl)
]

pub index_mut-requires-2 : goal.index_mut-requires-2
index_mut-requires-2 c = omega (arith, passing_behind _ _ _ _ _ _ _ c.letters.invariant (omega arith), c.letters.sigma.ok.0)

pub returns : goal.returns
returns c = passing_end _ _ _ _ _ _ _ c.letters.invariant _ (omega arith) refl

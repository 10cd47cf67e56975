use Rattle.std.proofs.Common.{◌≡◌, ◌+◌, ◌-◌, ◌*◌, ◌<◌, ◌≤◌, ℕ, zero, suc, List, [], ◌∷◌, ◌++◌, length, get_or, slice_index, refl, subst, sym, ap, ◌∙◌, arith}
use Rattle.pm_remy.specs.Tree.{Tree}
use Rattle.pm_remy.specs.steps.Linked.{IsHeld}
use Rattle.pm_remy.proofs.Numbering.{forks_of, forks-leaves, IsNumbered, AreMet, AreQueued, met-start, met-step, next-fork, waiting-first, waiting-step, waiting-start, queued-few, held-leveled}
use Rattle.pm_remy.proofs.Waiting.{length-shape}
use Rattle.pm_remy.proofs.levels.by_level.Goals as goal

-- the list has room for the tree's forks
roomy : (L : List ℕ) (t : Tree) → IsHeld L t → 2 * forks_of t + 1 ≤ length L
roomy L t h = omega (arith, h.room, forks-leaves t)

numbered-at : (L F G : List ℕ) (x y w : ℕ) → x ≡ y → IsNumbered F G (slice_index L x) w → IsNumbered F G (slice_index L y) w
numbered-at L F G x y w e n = subst (λ (z : ℕ). IsNumbered F G (slice_index L z) w) e n

from-nothing : (E G : List ℕ) (v w : ℕ) → E ≡ [] → IsNumbered E G v w → IsNumbered [] G v w
from-nothing E G v w e n = subst (λ (xs : List ℕ). IsNumbered xs G v w) e n

-- an entry in range is the same whatever stands for those that aren't
entry : (F : List ℕ) (k d : ℕ) → k < length F → get_or F k d ≡ slice_index F k
entry [] k d q = absurd (omega arith)
entry (x ∷ F) zero d q = refl
entry (x ∷ F) (suc k) d q = entry F k d (omega arith)

pub bounds-links-0 : goal.bounds-links-0
bounds-links-0 c =
    let tree = c.requires.tree in
    omega (arith, length-shape tree.0, tree.1.room)

pub forks-init : goal.forks-init
forks-init c =
    let L = c.args.links.now in
    let n = from-nothing c.in_ok-forks.forks.items c.numbered.new.forks.items (slice_index L 0) c.in_ok-root.root c.in_ok-forks.ensures.items
    (record { even = c.in_ok-root.ensures.leaf; odd = c.in_ok-root.ensures.fork }) in
    let one : c.push.new.self.items ≡ c.in_ok-root.root ∷ [] = c.in_ok-push.ensures.items ∙ ap (λ (xs : List ℕ). xs ++ c.in_ok-root.root ∷ []) c.in_ok-leveled.ensures.items in
    record {
      met = subst (λ (xs : List ℕ). AreMet L c.numbered.new.forks.items xs 0) (sym one) (met-start L c.numbered.new.forks.items c.in_ok-root.root n);
      waiting = λ t h. waiting-start L c.numbered.new.forks.items t c.in_ok-root.root h n;
    }

pub bounds-links-fork : goal.bounds-links-fork
bounds-links-fork c =
    let tree = c.requires.tree in
    let some : c.forks.met < length c.forks.forks.items = omega (arith, c.forks-test.true, c.len.ensures, c.forks.forks.ok.0) in
    let k = next-fork c.args.links.now c.forks.forks.items tree.0 c.forks.met some (c.forks.invariant.waiting tree.0 tree.1) in
    let at : c.index.result.now ≡ slice_index c.forks.forks.items c.forks.met = c.index.ensures ∙ entry c.forks.forks.items c.forks.met c.index.result.now some in
    omega (arith, k.low, at)

pub numbered-requires-in-forks : goal.numbered-requires-in-forks
numbered-requires-in-forks c =
    let tree = c.requires.tree in
    let few = queued-few c.args.links.now c.forks.forks.items c.forks.met (forks_of tree.0) (c.forks.invariant.waiting tree.0 tree.1) in
    record { few = omega (arith, few, roomy c.args.links.now tree.0 tree.1, c.requires.few) }

pub bounds-links-fork-in-forks : goal.bounds-links-fork-in-forks
bounds-links-fork-in-forks c =
    let tree = c.requires.tree in
    let some : c.forks.met < length c.forks.forks.items = omega (arith, c.forks-test.true, c.len.ensures, c.forks.forks.ok.0) in
    let k = next-fork c.args.links.now c.forks.forks.items tree.0 c.forks.met some (c.forks.invariant.waiting tree.0 tree.1) in
    let at : c.index.result.now ≡ slice_index c.forks.forks.items c.forks.met = c.index.ensures ∙ entry c.forks.forks.items c.forks.met c.index.result.now some in
    omega (arith, k.low, at)

pub numbered-requires-in-forks-2 : goal.numbered-requires-in-forks-2
numbered-requires-in-forks-2 c =
    let L = c.args.links.now in
    let F = c.forks.forks.items in
    let G = c.numbered-in-forks.new.forks.items in
    let tree = c.requires.tree in
    let some : c.forks.met < length F = omega (arith, c.forks-test.true, c.len.ensures, c.forks.forks.ok.0) in
    let at : c.index.result.now ≡ slice_index F c.forks.met = c.index.ensures ∙ entry F c.forks.met c.index.result.now some in
    let k = next-fork L F tree.0 c.forks.met some (c.forks.invariant.waiting tree.0 tree.1) in
    let n = numbered-at L F G c.index.result.now (slice_index F c.forks.met) c.in_ok-left.left at (record { even = c.in_ok-left.ensures.leaf; odd = c.in_ok-left.ensures.fork }) in
    let first = waiting-first L F G tree.0 c.forks.met c.in_ok-left.left k n in
    record { few = omega (arith, queued-few L G (suc c.forks.met) (forks_of tree.0 - forks_of k.right) first, roomy L tree.0 tree.1, c.requires.few) }

pub forks-smaller : goal.forks-smaller
forks-smaller c =
    let L = c.args.links.now in
    let F = c.forks.forks.items in
    let tree = c.requires.tree in
    let few = queued-few L F c.forks.met (forks_of tree.0) (c.forks.invariant.waiting tree.0 tree.1) in
    let falls : length L - (c.forks.met + 1) < length L - c.forks.met =
    omega (arith, few, roomy L tree.0 tree.1, c.forks-test.true, c.len.ensures, c.forks.forks.ok.0) in falls

pub forks-preserved : goal.forks-preserved
forks-preserved c =
    let L = c.args.links.now in
    let F = c.forks.forks.items in
    let G = c.numbered-in-forks.new.forks.items in
    let H = c.numbered-in-forks-2.new.forks.items in
    let f = slice_index F c.forks.met in
    let some : c.forks.met < length F = omega (arith, c.forks-test.true, c.len.ensures, c.forks.forks.ok.0) in
    let up : suc c.forks.met ≡ c.forks.met + 1 = omega arith in
    let at : c.index.result.now ≡ f = c.index.ensures ∙ entry F c.forks.met c.index.result.now some in
    let after : c.index.result.now + 1 ≡ suc f = omega (arith, at) in
    let n = numbered-at L F G c.index.result.now f c.in_ok-left.left at (record { even = c.in_ok-left.ensures.leaf; odd = c.in_ok-left.ensures.fork }) in
    let o = numbered-at L G H (c.index.result.now + 1) (suc f) c.in_ok-right.right after (record { even = c.in_ok-right.ensures.leaf; odd = c.in_ok-right.ensures.fork }) in
    let pushed : c.push-in-forks-2.new.self.items ≡ (c.forks.leveled.items ++ c.in_ok-left.left ∷ []) ++ c.in_ok-right.right ∷ [] =
    c.in_ok-push-3.ensures.items ∙ ap (λ (xs : List ℕ). xs ++ c.in_ok-right.right ∷ []) c.in_ok-push-2.ensures.items in
    record {
      met = subst (λ (m : ℕ). AreMet L H c.push-in-forks-2.new.self.items m) up
          (met-step L F G H c.forks.leveled.items c.push-in-forks-2.new.self.items c.forks.met c.in_ok-left.left c.in_ok-right.right c.forks.invariant.met
          (record { some = some; first = n; second = o; pushed = pushed }));
      waiting = λ t h. subst (λ (m : ℕ). AreQueued L H m (forks_of t)) up
          (waiting-step L F G H t c.forks.met c.in_ok-left.left c.in_ok-right.right some (c.forks.invariant.waiting t h) n o);
    }

pub returns-clause-few : goal.returns-clause-few
returns-clause-few c =
    let L = c.args.links.now in
    let tree = c.requires.tree in
    let w = c.forks.invariant.waiting tree.0 tree.1 in
    omega (arith, c.forks.invariant.met.long, w.total, roomy L tree.0 tree.1, c.requires.few)

pub returns-clause-tree : goal.returns-clause-tree
returns-clause-tree c =
    λ t h.
    held-leveled c.args.links.now c.forks.forks.items c.forks.leveled.items c.forks.met t c.forks.invariant.met (omega (arith, c.forks-test.false, c.len.ensures, c.forks.forks.ok.0)) (c.forks.invariant.waiting t h) h

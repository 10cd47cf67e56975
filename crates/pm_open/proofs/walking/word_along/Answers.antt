use Rattle.std.proofs.Common.{◌≡◌, ℕ, ◌/◌, ◌++◌, List, length, take, drop, replicate, sym, ap, ◌∙◌, subst, arith}
use Rattle.std.proofs.Math.Seq.{take-append_seam}
use Rattle.pm_walk.specs.declared.passing.Fate.{Fate}
use Rattle.pm_walk.specs.declared.passing.Fate.TheVariants.{Unmet}
use Rattle.pm_walk.specs.Passing.{IsPassed}
use Rattle.pm_open.specs.steps.Spelling.{is_further}
use Rattle.pm_open.proofs.WalkLoop.{IsSpelling, measured, spelling_start, spelling_more, spelling_whole}
use Rattle.pm_open.proofs.walking.word_along.Goals as goal

-- a slice that was lent whole and written
written_whole : (len : ℕ) (after before : List Fate) → length after ≡ len → take len (after ++ drop (length after) before) ≡ after
written_whole len after before e = ap (λ (k : ℕ). take k (after ++ drop (length after) before)) (sym e) ∙ take-append_seam after (drop (length after) before)

pub walk-init : goal.walk-init
walk-init c =
    let map = c.args.map.now in
    let distances = c.args.distances.now in
    let m = measured map distances c.sigma-darts.ensures.valid c.requires.some c.requires.distances in
    let fresh : c.in_ok-fates.fates.items ≡ replicate (length map.sigma / 2) Unmet =
    c.in_ok-fates.ensures.items_if_clones_equal (λ y e. e) ∙ ap (λ (xs : List ℕ). replicate (length xs / 2) Unmet) c.sigma-darts.ensures.sigma in
    let at_root = subst (λ (dart : ℕ). IsPassed map dart (is_further distances dart) c.deref_mut.result.now c.step_at-dart.new.fates c.step_at-dart.result) c.root.ensures c.step_at-dart.ensures in
    let goes = subst (λ (xs : List Fate). IsPassed map map.root (is_further distances map.root) xs c.step_at-dart.new.fates c.step_at-dart.result) c.deref_mut.ensures.value at_root in
    rw (written_whole c.in_ok-fates.fates.len c.step_at-dart.new.fates c.in_ok-fates.fates.items (omega arith), c.in_ok-word.ensures.items)
    (spelling_start map distances c.in_ok-fates.fates.items c.step_at-dart.new.fates c.step_at-dart.result m fresh goes)

pub walk-preserved : goal.walk-preserved
walk-preserved c =
    let map = c.args.map.now in
    let distances = c.args.distances.now in
    let m = measured map distances c.sigma-darts.ensures.valid c.requires.some c.requires.distances in
    let goes = subst (λ (xs : List Fate). IsPassed map c.walk.dart (is_further distances c.walk.dart) xs c.step_at-step.new.fates c.step_at-step.result) c.deref_mut-in-walk.ensures.value c.step_at-step.ensures in
    let long : length c.sigma-darts.result.now ≡ length map.sigma = ap length c.sigma-darts.ensures.sigma in
    rw (written_whole c.walk.fates.len c.step_at-step.new.fates c.walk.fates.items (omega arith), c.in_ok-push.ensures.items)
    (spelling_more map distances c.walk._place c.walk.dart c.walk.fates.items c.step_at-step.new.fates c.step_at-step.result c.walk.word.items _ m (omega arith)
    (omega (arith, long)) c.walk.invariant goes c.letter.ensures)

pub returns : goal.returns
returns c =
    let map = c.args.map.now in
    let distances = c.args.distances.now in
    let m = measured map distances c.sigma-darts.ensures.valid c.requires.some c.requires.distances in
    let end : c.walk._place ≡ length map.sigma = omega (arith, ap length c.sigma-darts.ensures.sigma, c.walk.auto._place-end) in
    spelling_whole map distances c.walk.dart c.walk.fates.items c.walk.word.items m c.requires.degrees
    (subst (λ k. IsSpelling map distances k c.walk.dart c.walk.fates.items c.walk.word.items) end c.walk.invariant)

use Rattle.std.proofs.Common.{◌≡◌, ℕ, List, ◌∷◌, length, get_or, Some, sym, ◌∙◌, ap, subst, arith}
use Rattle.pm_map.specs.declared.degrees.Around.TheVariants.{Face}
use Rattle.pm_map.specs.steps.Sizes.{step_around}
use Rattle.pm_map.specs.FaceWalk.{darts_left, IsFaceWalk}
use Rattle.pm_map.proofs.FaceWalkLemmas.{IsFaceWalk-last, IsFaceWalk-more, darts_left-last, darts_left-more}
use Rattle.pm_map.proofs.face_walk.FaceWalkIterator.next.Goals as goal
use Rattle.pm_map.proofs.face_walk.FaceWalkIterator.next.Goals.{then-after-self, else-after-self}

pub invariant_of-self : goal.invariant_of-self
invariant_of-self c =
    let sigma : List ℕ = c.self.inside.sigma.now in
    let first : ℕ = c.self.inside.first in
    let walk : IsFaceWalk sigma first (Some c.in_ok-dart.dart) = subst (IsFaceWalk sigma first) c.in_ok-dart.was c.self.invariant in
    let after : get_or sigma c.twin_of.result 0 ≡ step_around sigma Face c.in_ok-dart.dart = ap (λ k. get_or sigma k 0) c.twin_of.ensures in
    elim c.if-after-self.branch [
      | then-after-self w ↦ subst (IsFaceWalk sigma first) (sym w.self-is) (IsFaceWalk-last sigma first c.in_ok-dart.dart walk)
      | else-after-self w ↦
          subst (IsFaceWalk sigma first) (sym (w.self-is ∙ ap Some after))
          (IsFaceWalk-more sigma first c.in_ok-dart.dart walk (λ e. w.if-after-self.false (after ∙ e)))
    ]

steps : (c : goal.After-self-1) → c.args.self.now ≡ c.in_ok-dart.dart ∷ darts_left c.self.inside.sigma.now c.self.inside.first c.if-after-self.self
steps c =
    let sigma : List ℕ = c.self.inside.sigma.now in
    let first : ℕ = c.self.inside.first in
    let walk : IsFaceWalk sigma first (Some c.in_ok-dart.dart) = subst (IsFaceWalk sigma first) c.in_ok-dart.was c.self.invariant in
    let after : get_or sigma c.twin_of.result 0 ≡ step_around sigma Face c.in_ok-dart.dart = ap (λ k. get_or sigma k 0) c.twin_of.ensures in
    let here : c.args.self.now ≡ darts_left sigma first (Some c.in_ok-dart.dart) = sym c.self.view_is ∙ ap (darts_left sigma first) c.in_ok-dart.was in
    elim c.if-after-self.branch [
      | then-after-self w ↦
          here ∙ darts_left-last sigma first c.in_ok-dart.dart walk (sym after ∙ w.if-after-self.true)
          ∙ ap (λ next. c.in_ok-dart.dart ∷ darts_left sigma first next) (sym w.self-is)
      | else-after-self w ↦
          here ∙ darts_left-more sigma first c.in_ok-dart.dart walk (λ e. w.if-after-self.false (after ∙ e))
          ∙ ap (λ next. c.in_ok-dart.dart ∷ darts_left sigma first next) (sym (w.self-is ∙ ap Some after))
    ]

pub returns-clause-steps : goal.returns-clause-steps
returns-clause-steps c = steps c

pub returns-clause-goes : goal.returns-clause-goes
returns-clause-goes c =
    let longer : length c.args.self.now ≡ length (c.in_ok-dart.dart ∷ darts_left c.self.inside.sigma.now c.self.inside.first c.if-after-self.self) = ap length (steps c) in
    record { on = λ _. (tt, tt, omega arith); keeps = tt; rests = λ _. tt }

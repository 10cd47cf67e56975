use Rattle.std.proofs.Common.{◌≡◌, ◌+◌, ◌*◌, ◌-◌, ◌<◌, ℕ, suc, List, [], ◌∷◌, ◌++◌, ap, sym, ◌∙◌, append_assoc, arith}
use Rattle.pm_euler.specs.Bounds.{growth_bounds}
use Rattle.pm_euler.proofs.bounds.limits_of_growth.Goals as goal

-- one bound more
more : (limits after : List ℕ) (grown count : ℕ) → grown < count → after ≡ limits ++ 2 * (2 * grown + 1) ∷ [] → limits ++ growth_bounds grown (count - grown) ≡ growth_bounds 0 count
    → after ++ growth_bounds (grown + 1) (count - (grown + 1)) ≡ growth_bounds 0 count
more limits after grown count less e h =
    let left : count - grown ≡ suc (count - (grown + 1)) = omega arith in
    let next : grown + 1 ≡ suc grown = omega arith in
    ap (λ (xs : List ℕ). xs ++ growth_bounds (grown + 1) (count - (grown + 1))) e
    ∙ append_assoc limits (2 * (2 * grown + 1) ∷ []) (growth_bounds (grown + 1) (count - (grown + 1)))
    ∙ ap (λ (g : ℕ). limits ++ 2 * (2 * grown + 1) ∷ growth_bounds g (count - (grown + 1))) next
    ∙ sym (ap (λ (k : ℕ). limits ++ growth_bounds grown k) left) ∙ h

pub loop-grown-preserved : goal.loop-grown-preserved
loop-grown-preserved c = more c.loop-grown.limits.items c.push.new.self.items c.loop-grown.grown c.args.count (omega arith) c.in_ok-push.ensures.items c.loop-grown.invariant

use Rattle.std.proofs.Common.{◌≡◌, ◌+◌, ◌-◌, ◌<◌, ℕ, suc, List, [], ◌∷◌, ◌++◌, ap, sym, ◌∙◌, append_assoc, arith}
use Rattle.pm_objects.specs.Codes.{code_bounds}
use Rattle.pm_objects.proofs.bounds.push_code_bounds.Goals as goal

-- one bound more
more : (bounds after whole : List ℕ) (place length : ℕ) → place < length → after ≡ bounds ++ (length - place) ∷ [] → bounds ++ code_bounds (length - place) ≡ whole
    → after ++ code_bounds (length - (place + 1)) ≡ whole
more bounds after whole place length less e h =
    let left : length - place ≡ suc (length - (place + 1)) = omega arith in
    ap (λ (xs : List ℕ). xs ++ code_bounds (length - (place + 1))) e
    ∙ append_assoc bounds ((length - place) ∷ []) (code_bounds (length - (place + 1)))
    ∙ ap (λ (k : ℕ). bounds ++ k ∷ code_bounds (length - (place + 1))) left
    ∙ sym (ap (λ (k : ℕ). bounds ++ code_bounds k) left) ∙ h

pub loop-place-preserved : goal.loop-place-preserved
loop-place-preserved c = more c.loop-place.bounds.items c.push.new.self.items (c.args.bounds.now.items ++ code_bounds c.args.length) c.loop-place.place c.args.length c.loop-place-test.true (c.in_ok-push.ensures.items ∙ ap (λ (k : ℕ). c.loop-place.bounds.items ++ k ∷ []) c.from.ensures) c.loop-place.invariant

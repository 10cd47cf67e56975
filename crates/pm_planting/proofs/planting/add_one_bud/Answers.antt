use Rattle.std.proofs.Common.{◌≡◌, ℕ, ◌<◌, ◌++◌, List, [], ◌∷◌, reverse, ◌∙◌, ap, arith, append_assoc}
use Rattle.pm_trees.proofs.OneBud.{one_bud, one_bud_ranks, quartic_count}
use Rattle.pm_planting.proofs.planting.add_one_bud.Goals as goal

-- three entries, pushed one after another
pushed : (before one two all : List ℕ) (x y z p q r : ℕ) → one ≡ before ++ x ∷ [] → two ≡ one ++ y ∷ [] → all ≡ two ++ z ∷ [] → x ≡ p → y ≡ q → z ≡ r
    → all ≡ before ++ reverse (r ∷ q ∷ p ∷ [])
pushed before one two all x y z p q r e f g h i j =
    g ∙ ap (λ (xs : List ℕ). xs ++ z ∷ []) (f ∙ ap (λ (xs : List ℕ). xs ++ y ∷ []) e)
    ∙ ap (λ (n : ℕ). ((before ++ n ∷ []) ++ y ∷ []) ++ z ∷ []) h
    ∙ ap (λ (n : ℕ). ((before ++ p ∷ []) ++ n ∷ []) ++ z ∷ []) i
    ∙ ap (λ (n : ℕ). ((before ++ p ∷ []) ++ q ∷ []) ++ n ∷ []) j
    ∙ simp append_assoc

pub returns-clause-pattern : goal.returns-clause-pattern
returns-clause-pattern c =
    let few : c.args.rank < 3 = omega (arith, quartic_count, c.requires) in (
      one_bud c.args.rank,
      one_bud_ranks c.args.rank few,
      pushed _ _ _ _ _ _ _ _ _ _ c.in_ok-push.ensures.items c.in_ok-push-2.ensures.items c.in_ok-push-3.ensures.items c.entry.ensures c.entry-2.ensures c.entry-3.ensures,
    )

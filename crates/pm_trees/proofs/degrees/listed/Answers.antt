use Rattle.std.proofs.Common.{arith, ◌+◌, ◌∙◌, ap, sym, subst, ℕ, Vec, Global, get_or}
use Rattle.pm_trees.proofs.Listing.{AreListedBelow, listed_none, listed_push}
use Rattle.pm_trees.proofs.degrees.listed.Goals as goal
use Rattle.pm_trees.proofs.degrees.listed.Goals.{then-count-gt0+in_ok-push, else-count-gt0}

pub counts-preserved : goal.counts-preserved
counts-preserved c =
    elim c.if-count-gt0.branch [
      | then-count-gt0+in_ok-push w ↦
          listed_push c.args.counts.now c.counts.pairs.items _ c.counts.degree _ (get_or c.args.counts.now c.counts.degree 0) (omega arith) (λ i. get_or c.args.counts.now c.counts.degree 0) w.if-count-gt0.true
          (ap (λ (v : Vec (ℕ × ℕ) Global). v.items) w.pairs-is ∙ w.in_ok-push.ensures.items) (omega arith) c.counts.invariant
      | else-count-gt0 w ↦
          let none = listed_none c.args.counts.now c.counts.pairs.items c.counts.degree (c.counts.degree + 1) (let f = w.if-count-gt0.false in omega arith) (omega arith) c.counts.invariant in
          subst (λ (v : Vec (ℕ × ℕ) Global). AreListedBelow c.args.counts.now v.items (c.counts.degree + 1)) (sym w.pairs-is) none
    ]
